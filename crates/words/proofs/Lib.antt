pub mod WordLaws
pub mod Chains
