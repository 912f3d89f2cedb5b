-- What the desk is promised of built tables (document 02, L7): "Over built tables, from any start, a packet that has arrived somewhere
-- always finds an entry." The definition stands under the words that it says. That every walk over built tables has it, whatever links
-- have failed, is always_finds_an_entry of proofs/ArrivalBuilt.antt; what ending 2 says of such a walk, and when a single step still
-- says that there is nothing to follow, stand there too.
use Rattle.std.specs.Prelude.{ℕ, ◌+◌, ◌*◌, Bool, ◌≢◌, get_or}
use Rattle.graph.specs.Path.{Each}
use Rattle.graph.specs.Arrival.{StopsAtFailedLink}
use Rattle.net.specs.Rows.{Rows, network_of}
use Rattle.net.specs.Entry.{nowhere_byte}
use Rattle.tables.specs.Lent.{LentTables}
use Rattle.walk.specs.Lent.{tables_for}
use Rattle.walk.specs.Walk.{course_under}

-- "a packet that has arrived somewhere", over interface h, "finds an entry" for d: the byte that it reads there is not 255
abbrev pub FindsEntry : Rows → LentTables → ℕ → ℕ → Type 0
FindsEntry R T d h = get_or T.forwarding (h * R.nodes + d) 0 ≢ nowhere_byte

-- "always": on arrival over each interface that the walk from s to d crosses, these links having failed
abbrev pub AlwaysFindsEntry : (ℕ → Bool) → Rows → LentTables → ℕ → ℕ → ℕ → Type 0
AlwaysFindsEntry failed R T s d limit = Each (FindsEntry R T d) (course_under failed R T s d limit).crossed

-- "dropped at the failed link": the packet stands at a failed link that its entry leads over, and the tables show no way around it
abbrev pub DroppedAtFailedLink : (ℕ → Bool) → Rows → LentTables → ℕ → ℕ → ℕ → Type 0
DroppedAtFailedLink failed R T s d limit =
    let entries = tables_for R T d in
    StopsAtFailedLink (network_of R) failed entries s (entries.routing s) (course_under failed R T s d limit).crossed
