-- A part that was opened up.
pub mod Bounds
