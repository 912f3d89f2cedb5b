-- How the tables are built: the code's tests on costs, the rows as it writes them, and what its functions may rely on once the checks
-- are passed. A reader of the promises may leave them out: theorems join them to what is promised.
pub mod KeyTest
pub mod EntryRow
pub mod Detours
pub mod Backward
pub mod Given
