-- The records of an empty fleet.
pub mod Fresh
