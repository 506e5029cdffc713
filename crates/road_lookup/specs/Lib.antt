-- What the lookup of a road finds.
pub mod Lookup
pub mod Answer
