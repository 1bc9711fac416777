-- What a reading leaves and tells: Told. The rest are laws.
pub mod Told
pub mod ToldLaws
pub mod WordPart
