-- What a list of vans, and some rows, offer to the list of the best; and the words of a map and a fleet.
pub mod Offers
pub mod Genuine
