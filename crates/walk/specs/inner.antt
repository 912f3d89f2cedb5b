-- Notions that only inner contracts need. A reader of the promises may leave them out: theorems join them to what is promised.
pub mod Reading
pub mod Moves
pub mod Steps
