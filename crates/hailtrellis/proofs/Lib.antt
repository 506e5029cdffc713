-- What is promised of the core, proved.
pub mod Promises
