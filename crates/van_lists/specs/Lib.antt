-- What the functions do to any list of words, and the words of a van.
pub mod Slot
pub mod Walk
