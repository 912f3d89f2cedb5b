pub mod Number
pub mod Plan
pub mod Reader
pub mod Writer
pub mod Told
pub mod Fault
pub mod inner
