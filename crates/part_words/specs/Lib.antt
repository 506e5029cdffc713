-- What the record of a part says.
pub mod Part
