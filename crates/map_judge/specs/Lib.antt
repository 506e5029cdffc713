-- The words that the sizes ask for, and what judging a map gives.
pub mod Need
pub mod Verdict
