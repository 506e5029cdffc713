-- Laws that the functions and the crates above cite.
pub mod Steps
pub mod Shown
pub mod Heading
pub mod Comers
