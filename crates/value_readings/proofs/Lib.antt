-- What the proof of the cycle uses: Directions, for the loop of a round; Turns, for the loop of a reading.
mod Directions
mod Turns
mod FourReads
