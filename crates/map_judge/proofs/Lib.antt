pub mod Shown
pub mod Needs
pub mod Rules
pub mod Said
