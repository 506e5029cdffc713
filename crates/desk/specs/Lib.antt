-- What reading and writing leave of where the program stands.
pub mod Ready
