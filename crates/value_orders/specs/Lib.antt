-- What a leaf asks, leaves and tells: Leaves; signs by doubling: Doubling. The rest are laws.
pub mod Leaves
pub mod Doubling
pub mod KeyLaws
pub mod Places
pub mod PeakLaws
pub mod SignLaws
pub mod DoublingLaws
pub mod CleanLaws
pub mod OrderLaws
pub mod FirstPlaces
pub mod EndLaws
