pub mod inner
pub mod Best
