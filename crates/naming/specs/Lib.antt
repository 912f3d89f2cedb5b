pub mod Name
pub mod Printed
