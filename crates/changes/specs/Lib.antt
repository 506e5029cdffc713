-- What the changes do to any list of words, and to the words of a map and a fleet.
pub mod Made
pub mod Done
