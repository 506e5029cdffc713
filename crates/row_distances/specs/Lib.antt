-- Distances of a part's rows to the vertex asked at.
pub mod Distances
