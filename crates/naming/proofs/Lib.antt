pub mod Twins
pub mod Names
pub mod Determined
