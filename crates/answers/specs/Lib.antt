-- What each answer of the code is in the definitions.
pub mod Answered
