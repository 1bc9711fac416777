pub mod Lines
pub mod ArrayCalls
pub mod ArrayLaws
pub mod WorkedArrays
