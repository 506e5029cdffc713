pub mod Meet
pub mod Steps
pub mod Lifting
pub mod Marking
pub mod Earlier
pub mod Borders
