-- What the functions on blocks ask and promise.
pub mod FourVotes
