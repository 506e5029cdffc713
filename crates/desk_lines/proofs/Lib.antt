-- Laws of records and of written bytes.
pub mod Sized
pub mod Taking
pub mod Writing
pub mod Texts
pub mod Lines
pub mod Window
