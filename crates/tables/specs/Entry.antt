-- The three tables: which byte stands in which row (document 01, "Paths and tables").
use Rattle.std.specs.Prelude.{ℕ, ◌+◌, ◌*◌, ◌<◌, ◌≡◌, List, length, get_or, drop}
use Rattle.graph.specs.Network.{Network, tail, head}
use Rattle.graph.specs.Path.{All}
use Rattle.graph.specs.Entries.{Free, Aside}
use Rattle.net.specs.Entry.{EntryByte}

-- The three kinds, by row and destination: a routing row is a node's, a forwarding or backwarding row an interface's. Where document 01
-- says the first node, the byte is the first link: "the routing look-up now promises a link number, and all tables [..] follow" (document
-- 02, L5).
-- "Routing entry of i for d: the first node after i on the best path."
abbrev pub RoutingByte : Network → ℕ → ℕ → ℕ → Type 0
RoutingByte N i d = EntryByte N All i d

-- "Forwarding entry of interface j to i for d: the first node on the best path from i to d when all those key links are taken out."
abbrev pub ForwardingByte : Network → ℕ → ℕ → ℕ → Type 0
ForwardingByte N h d = EntryByte N (Free N d h) (head N h) d

-- "Backwarding entry of interface i to j for d: the first node on the best path from i to d when link i-j is taken out." "Source
-- document 000 also takes out the interface's key links. Adopt that rule." (document 02, L2)
abbrev pub BackwardingByte : Network → ℕ → ℕ → ℕ → Type 0
BackwardingByte N h d = EntryByte N (Aside N d h) (tail N h) d

-- "Routing has one row of n bytes per node; forwarding and backwarding one row per interface, in interface order. When built, each row
-- is filled as that part of the lent table; bytes beyond the last row stay."
pub record Filled (n rows : ℕ) (Byte : ℕ → ℕ → ℕ → Type 0) (before after : List ℕ) : Type 0 where
  pub same_length : length after ≡ length before
  pub bytes : (row d : ℕ) → row < rows → d < n → Byte row d (get_or after (row * n + d) 0)
  pub beyond : drop (rows * n) after ≡ drop (rows * n) before
