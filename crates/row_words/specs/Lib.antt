-- A row in the memory, and as one number.
pub mod Words
