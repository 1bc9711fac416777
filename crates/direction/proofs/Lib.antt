pub mod Members
pub mod Cosets
pub mod Insert
pub mod Projected
pub mod Projection
