-- Definitions: Direction; what statements above speak of: IsDirection. Laws: proofs/.
pub mod Direction
pub mod IsDirection
