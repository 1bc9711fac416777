-- Definitions: Peaks. The rest are laws.
pub mod Peaks
pub mod OnePair
pub mod Pairs
pub mod Keys
pub mod Found
pub mod Packing
pub mod Stored
pub mod SamePeak
pub mod Casts
pub mod Joined
pub mod PairLaws
pub mod Searches
