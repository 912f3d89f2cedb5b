-- The step and the walk (document 01, "Steps and walks"), over any entries whatever. A walk is told by the interfaces that it crosses.
use Rattle.std.specs.Prelude.{Bool, true, false, List, [], ◌∷◌, ℕ, zero, suc, eqb}
use Rattle.std.proofs.Math.Option.{Option, none, some}
use Rattle.graph.specs.Network.{Network, link, head}
use Rattle.graph.specs.Entries.{Hop, here, onward, nowhere}

-- The entries for one destination: routing by node, forwarding by the interface entered, backwarding by the interface left.
pub record Tables : Type 0 where
  pub routing : ℕ → Hop
  pub forwarding : ℕ → Hop
  pub backwarding : ℕ → Hop

-- "A failure is either none or one link by number."
unfoldable pub failed_by : Option ℕ → ℕ → Bool
failed_by none k = false
failed_by (some f) k = eqb k f

-- What a step says at a node that is not the destination: the interface crossed, nothing to follow, or dropped.
pub data Step : Type 0 where
  crosses : ℕ → Step
  nothing : Step
  drops : Step

-- "255 there, or a node whose link has failed, means dropped."
unfoldable pub around : (ℕ → Bool) → Hop → Step
around failed here = drops
around failed nowhere = drops
around failed (onward g) = elim (failed (link g)) [ true ↦ drops | false ↦ crosses g ]

-- "If that entry is 255 there is nothing to follow. If the link to that node has failed, it reads the backwarding entry of that
-- interface."
unfoldable pub step_by : (ℕ → Bool) → (ℕ → Hop) → Hop → Step
step_by failed backwarding here = nothing
step_by failed backwarding nowhere = nothing
step_by failed backwarding (onward f) = elim (failed (link f)) [ true ↦ around failed (backwarding f) | false ↦ crosses f ]

-- "Endings: 0 delivered; 1 no entry at the start; 2 dropped at the failed link; 3 hop limit used"; 4 is gone (document 02, L7).
pub data Ending : Type 0 where
  delivered : Ending
  unrouted : Ending
  dropped : Ending
  exhausted : Ending

-- the interfaces crossed, in order, and how the walk ended
pub record Course : Type 0 where
  pub crossed : List ℕ
  pub ending : Ending

unfoldable pub ends_by : Ending → Course
ends_by e = record { crossed = []; ending = e }

unfoldable pub crossing : ℕ → Course → Course
crossing f c = record { crossed = f ∷ c.crossed; ending = c.ending }

-- the course from a node on, by the step there: over the interface crossed and on by `next`, or it ends
unfoldable pub goes_on : (ℕ → Course) → Ending → Step → Course
goes_on next lost (crosses f) = crossing f (next f)
goes_on next lost nothing = ends_by lost
goes_on next lost drops = ends_by dropped

-- "At each node, in this order: destination reached; hop limit used up; the step." The walk stands at node i with the entry that
-- it reads there, and with the ending that it has if that entry leads nowhere: "A walk over other tables that finds nothing on arrival
-- is told as ending 2" (document 02, L7).
unfoldable pub walk_from : Network → (ℕ → Bool) → Tables → ℕ → ℕ → ℕ → Hop → Ending → Course
walk_from N failed T d zero i entry lost = elim (eqb i d) [ true ↦ ends_by delivered | false ↦ ends_by exhausted ]
walk_from N failed T d (suc limit) i entry lost =
    elim (eqb i d) [
      | true ↦ ends_by delivered
      | false ↦
          goes_on (λ f. walk_from N failed T d limit (head N f) (T.forwarding f) dropped) lost (step_by failed T.backwarding entry)
    ]

-- the walk from an arrival over interface f: it goes on with the forwarding entry of that interface
abbrev pub walk_on : Network → (ℕ → Bool) → Tables → ℕ → ℕ → ℕ → Course
walk_on N failed T d limit f = walk_from N failed T d limit (head N f) (T.forwarding f) dropped

-- the walk from a source: it starts with the routing entry
unfoldable pub walk_of : Network → (ℕ → Bool) → Tables → ℕ → ℕ → ℕ → Course
walk_of N failed T d limit s = walk_from N failed T d limit s (T.routing s) unrouted
