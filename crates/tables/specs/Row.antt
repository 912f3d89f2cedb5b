-- The look-up by interface: "given the table and n (refusals 3, then 13; a check beside it gives the number, or 0), hands back that row
-- as the part of the lent table which holds it, or an empty part if refused."
use Rattle.std.specs.Prelude.{ℕ, ◌+◌, ◌*◌, List, [], length, take, drop, ltb, eqb}
use Rattle.net.specs.Refusals.{accepted, node_count, interface_number}
use Rattle.net.specs.Choice.{pick}
use Rattle.net.specs.Check.{bad_node_count}

-- "in the row look-up instead, a row not wholly in the lent table"
unfoldable pub row_check : List ℕ → ℕ → ℕ → ℕ
row_check table n i = pick (bad_node_count n) node_count (pick (ltb (length table) (i * n + n)) interface_number accepted)

unfoldable pub row_of : List ℕ → ℕ → ℕ → List ℕ
row_of table n i = pick (eqb (row_check table n i) accepted) (take n (drop (i * n) table)) []
