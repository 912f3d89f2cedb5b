-- An entry as one byte (document 01, "Paths and tables").
use Rattle.std.specs.Prelude.{ℕ, ◌≡◌}
use Rattle.graph.specs.Network.{Network, link}
use Rattle.graph.specs.Entries.{Hop, here, onward, nowhere, Entry}

-- "An entry is one byte: a node; 254 where d is the deciding node itself (the check for 254 comes first); 255 where no path exists."
-- "A next node no longer says which fibre, so the routing look-up now promises a link number, and all tables, steps and walks follow;
-- 254 and 255 keep their meaning." (document 02, L5)
abbrev pub here_byte : ℕ
here_byte = 254

abbrev pub nowhere_byte : ℕ
nowhere_byte = 255

unfoldable pub byte_of : Hop → ℕ
byte_of here = here_byte
byte_of (onward f) = link f
byte_of nowhere = nowhere_byte

-- the byte is the entry of i for d over the links left in
pub record EntryByte (N : Network) (X : ℕ → Type 0) (i d byte : ℕ) : Type 0 where
  pub hop : Hop
  pub entry : Entry N X i d hop
  pub is : byte ≡ byte_of hop
