-- What stands of the parts.
pub mod Parts
