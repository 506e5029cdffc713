-- Laws of the walk along the links, of links, and of the vans and lists of a fleet in a memory.
pub mod Walk
pub mod Found
pub mod Links
pub mod Parked
pub mod Spot
pub mod Relink
pub mod Frame
pub mod OneVan
