mod Whole
mod Outcome
