-- What a reply of the C functions stands for.
pub mod Replied
