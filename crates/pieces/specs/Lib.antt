-- Definitions: Listing, Pieces. What the steps ask and promise: Steps. The rest are laws.
pub mod Listing
pub mod Pieces
pub mod Steps
pub mod PieceLaws
pub mod ReadyLaws
