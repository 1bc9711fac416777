-- Definitions: Gateway. The rest are laws.
pub mod Gateway
pub mod GatewayLaws
pub mod Fields
