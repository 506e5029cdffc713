-- What a step does, and what its contract says of it.
pub mod Plan
pub mod Step
