-- What a change gets, by the words of the van and of the road.
pub mod Verdict
