-- What stands of the rows.
pub mod Rows
