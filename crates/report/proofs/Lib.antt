pub mod Sums
pub mod Walks
pub mod AllLines
pub mod LineFigures
pub mod Answers
pub mod Determined
