-- What a search around the caller keeps.
pub mod Around
