pub mod Lent
pub mod Key
pub mod Entry
pub mod Build
pub mod Row
pub mod Demand2
pub mod inner
