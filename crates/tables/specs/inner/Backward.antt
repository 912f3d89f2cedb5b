-- How the code comes to the backwarding entries: first as if no interface had key links, then those entries anew whose interface has some.
use Rattle.std.specs.Prelude.{ℕ, ◌+◌, ◌*◌, ◌<◌, ◌≡◌, ◌≢◌, List, length, get_or}
use Rattle.graph.specs.Network.{Network, link, tail}
use Rattle.graph.specs.Path.{But}
use Rattle.net.specs.Entry.{EntryByte}

-- the entry when the interface's own link alone is taken out
abbrev pub OwnByte : Network → ℕ → ℕ → ℕ → Type 0
OwnByte N h d = EntryByte N (But (link h)) (tail N h) d

-- the bytes of all rows for destination d are these, and no other byte of the table changed
pub record FilledFor (n rows d : ℕ) (Byte : ℕ → ℕ → Type 0) (before after : List ℕ) : Type 0 where
  pub same_length : length after ≡ length before
  pub bytes : (row : ℕ) → row < rows → Byte row (get_or after (row * n + d) 0)
  pub others : (at : ℕ) → ((row : ℕ) → row < rows → at ≢ row * n + d) → get_or after at 0 ≡ get_or before at 0
