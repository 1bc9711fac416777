-- Definitions: RoundTrip.
pub mod RoundTrip
