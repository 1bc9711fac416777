-- Definitions: Delivery. DeliveryLaws has laws.
pub mod Delivery
pub mod DeliveryLaws
