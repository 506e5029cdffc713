-- What stands of the roads.
pub mod Roads
