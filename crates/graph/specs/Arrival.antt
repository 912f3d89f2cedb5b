-- What a packet finds where it arrives (document 02, L7), for the mathematics. The promise over the bytes of built tables is that of
-- crate walk; its proof stands on this one.
use Rattle.std.specs.Prelude.{◌≡◌, ◌≢◌, Bool, true, List, [], ◌∷◌, ℕ}
use Rattle.graph.specs.Network.{Network, link, tail}
use Rattle.graph.specs.Path.{Chain, Each}
use Rattle.graph.specs.Entries.{Hop, onward, nowhere}
use Rattle.graph.specs.Walk.{Tables, drops, around}

-- "a packet that has arrived somewhere always finds an entry": on arrival over each interface crossed
abbrev pub FindsEntries : Tables → List ℕ → Type 0
FindsEntries T crossed = Each (λ h. T.forwarding h ≢ nowhere) crossed

-- the entry read where a packet stands that began with `entry` and crossed these interfaces
unfoldable pub last_entry : Tables → Hop → List ℕ → Hop
last_entry T entry [] = entry
last_entry T entry (h ∷ crossed) = last_entry T (T.forwarding h) crossed

-- "dropped at the failed link", of a packet that began at node i with `entry`: it stands at the tail of an interface that its entry
-- leads to, whose link has failed, and the backwarding entry shows no way around
pub record StopsAtFailedLink (N : Network) (failed : ℕ → Bool) (T : Tables) (i : ℕ) (entry : Hop) (crossed : List ℕ) : Type 0 where
  pub meets : ℕ
  pub reads : last_entry T entry crossed ≡ onward meets
  pub chain : Chain N i crossed (tail N meets)
  pub down : failed (link meets) ≡ true
  pub no_way : around failed (T.backwarding meets) ≡ drops
