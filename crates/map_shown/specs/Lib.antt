-- What lent words and bytes show of a map.
pub mod Shown
