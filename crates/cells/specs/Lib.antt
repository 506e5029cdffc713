-- Parts of a memory, and words that are lowered.
pub mod Part
pub mod Lowered
