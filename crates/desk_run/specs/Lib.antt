-- Where the desk program stands, what its library does, and what it has written for what it has read.
pub mod Desk
pub mod Underway
