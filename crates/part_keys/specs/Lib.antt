-- Keys that rows give to parts, and the parts that wait.
pub mod Keys
pub mod Spread
