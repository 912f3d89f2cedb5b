-- Three tables as they are lent, to be filled or to be read, and how long they must be (document 01, "Paths and tables").
use Rattle.std.specs.Prelude.{ℕ, ◌*◌, ◌≤◌, Bool, List, length, ltb}
use Rattle.net.specs.Choice.{either}
use Rattle.tables.specs.declared.lent.Tables.{Tables}

pub record LentTables : Type 0 where
  pub routing : List ℕ
  pub forwarding : List ℕ
  pub backwarding : List ℕ

-- the three tables that a caller lends to be read
abbrev pub tables_lent : Tables → LentTables
tables_lent tables = record { routing = tables.routing.now; forwarding = tables.forwarding.now; backwarding = tables.backwarding.now }

-- "a lent table, to be filled or to be read, is shorter than its rows": n rows of n bytes, and a row of n bytes for each interface
unfoldable pub tables_short : ℕ → ℕ → LentTables → Bool
tables_short n links T =
    either (ltb (length T.routing) (n * n))
    (either (ltb (length T.forwarding) (2 * links * n)) (ltb (length T.backwarding) (2 * links * n)))

-- the lent tables hold their rows
pub record LongEnough (n links : ℕ) (T : LentTables) : Type 0 where
  pub for_routing : n * n ≤ length T.routing
  pub for_forwarding : 2 * links * n ≤ length T.forwarding
  pub for_backwarding : 2 * links * n ≤ length T.backwarding
