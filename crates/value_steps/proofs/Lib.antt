-- What the proofs share.
mod Joints
mod ValueReads
mod ProjectTurns
mod ShareTurns
mod FourTurns
mod FourJoins
mod FourShares
mod FourShareTurns
