-- Laws of the search and of the roads of a sound map.
pub mod Narrowed
pub mod Sorted
pub mod Found
pub mod Shown
