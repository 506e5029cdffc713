-- Laws that the crates above cite.
pub mod Offered
pub mod OnePart
pub mod Keys
pub mod Departure
pub mod Apart
pub mod Genuine
pub mod Levels
pub mod Up
pub mod Whole
