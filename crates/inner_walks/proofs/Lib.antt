pub mod Up
pub mod Down
