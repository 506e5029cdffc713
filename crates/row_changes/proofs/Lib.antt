-- Laws that the crates above cite.
pub mod Order
pub mod Best
pub mod Switch
pub mod Early
pub mod Source
pub mod Refresh
