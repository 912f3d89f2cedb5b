-- How the code fills a row: an entry as one byte, by the cost of the best path, for one destination after the other.
use Rattle.std.specs.Prelude.{ℕ, zero, suc, List, [], ◌∷◌, eqb}
use Rattle.graph.specs.Network.{link}
use Rattle.net.specs.Choice.{pick}
use Rattle.net.specs.Entry.{here_byte, nowhere_byte}
use Rattle.paths.specs.inner.Cost.{is_known}
use Rattle.paths.specs.inner.Column.{entry_at}
use Rattle.paths.specs.declared.cost.Cost.{Cost}

-- the entry of i for d that a cost gives, as a byte
unfoldable pub entry_byte : ℕ → ℕ → Cost → ℕ
entry_byte i d c = pick (eqb i d) here_byte (pick (is_known c) (link c.first) nowhere_byte)

-- the entries of i for the `left` destinations from d on
unfoldable pub entry_row : ℕ → ℕ → ℕ → List Cost → List ℕ
entry_row zero i d costs = []
entry_row (suc left) i d costs = entry_byte i d (entry_at costs d) ∷ entry_row left i (suc d) costs
