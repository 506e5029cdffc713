-- What the head of a memory tells.
pub mod Used
