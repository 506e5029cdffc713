-- Laws that the function cites.
pub mod Gate
