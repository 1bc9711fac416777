-- Laws of the coefficients: of their list, and of the transform.
pub mod Transformed
pub mod TransformLaws
