-- Definitions: Crew. Their laws: proofs/CrewLaws.
pub mod Crew
