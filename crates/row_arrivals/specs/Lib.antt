-- What the arrival of a vertex does to the rows of a part.
pub mod Arrival
