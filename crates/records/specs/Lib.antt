-- Words 0; records of one size, one after the other in a memory; and a memory that agrees with another.
pub mod Cleared
pub mod Written
pub mod Agrees
