pub mod Numbers
pub mod Each
pub mod Copying
