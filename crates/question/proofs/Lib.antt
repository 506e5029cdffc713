-- Laws that the functions cite.
pub mod Shown
pub mod Exact
pub mod Asked
pub mod Leaves
pub mod Turns
pub mod Ends
pub mod Calls
pub mod Writing
pub mod Nearest
