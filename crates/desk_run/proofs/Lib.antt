pub mod Moving
pub mod Plans
pub mod Transcript
