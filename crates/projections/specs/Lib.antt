-- What the functions on blocks ask and promise: Fours. The rest are laws.
pub mod Fours
pub mod FourLaws
