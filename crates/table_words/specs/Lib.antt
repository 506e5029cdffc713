-- What the contracts cite: a part's rows, and a row of a part in a child.
pub mod Rows
