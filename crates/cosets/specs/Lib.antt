-- What projections and votes ask and promise: Votes. The rest are laws.
pub mod Votes
pub mod SetBelow
