pub mod Counted
pub mod Written
pub mod Taken
pub mod Determined
