-- What the proofs share.
mod FourAdds
mod FourCasts
