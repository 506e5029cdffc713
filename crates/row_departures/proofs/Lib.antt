-- Laws that the functions and the crates above cite.
pub mod Keys
pub mod Listed
