-- How best paths are found: the code's costs, its columns and squares of them, and the rounds that fill a column. A reader of the promises
-- may leave them out: theorems join them to what `best_path` promises (specs/Best.antt).
pub mod Cost
pub mod Column
pub mod Square
pub mod Rounds
