-- Laws that the functions cite.
pub mod Places
pub mod Exact
pub mod Taking
pub mod Meeting
pub mod InRoads
pub mod Offering
pub mod Turns
pub mod Calls
