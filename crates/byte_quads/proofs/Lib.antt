-- What the proof of quad_at uses.
mod ByteCasts
