-- What the departure of a vertex does to the rows of a part.
pub mod Departure
