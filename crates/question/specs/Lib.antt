-- What a search keeps, turn by turn.
pub mod Kept
