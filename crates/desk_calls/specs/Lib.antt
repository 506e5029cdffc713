-- What answer words show of a question's list, and what a call does.
pub mod Listed
pub mod Served
