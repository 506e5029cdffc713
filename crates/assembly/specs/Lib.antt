-- What stands in the memory before and after its distance tables are filled, and on the way.
pub mod Laid
pub mod Lower
pub mod Steps
