pub mod Line
pub mod Lines
pub mod inner
