-- Laws of the verdicts.
pub mod Agrees
pub mod Later
