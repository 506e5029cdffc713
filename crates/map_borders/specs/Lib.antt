-- Lifts of vertices, counts of borders, and what they say of a map.
pub mod Lift
pub mod Mark
pub mod Sizes
