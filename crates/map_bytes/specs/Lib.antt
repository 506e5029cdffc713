-- Numbers copied from a record's body.
pub mod Copied
