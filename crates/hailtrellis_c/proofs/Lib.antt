-- Laws of the replies.
pub mod Determined
