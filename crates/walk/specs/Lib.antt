pub mod Lent
pub mod Step
pub mod Walk
pub mod Demand3
pub mod Arrival
pub mod inner
