-- The forwarding entry without looking for the nearest key link. Each key link taken out by itself gives a best path from the
-- interface's head; the dearest of these is the best path without all key links. For the path without all of them is a path without
-- each, so none of them costs more; and the nearest key link's costs the same (K2).
use mathlib.Core.List.{List}
use Prim.Native.Nat.{ℕ, ◌≤◌}
use native.Mathlib.Omega.{arith}
use Rattle.graph.specs.Network.{Network, WellFormed, head}
use Rattle.graph.specs.Path.{Over, But}
use Rattle.graph.specs.Entries.{KeyLink, Free}
use Rattle.graph.proofs.Chain.{Best, cost, over_weaken}
use Rattle.graph.proofs.Unique.{unique}
use Rattle.graph.proofs.Entries.{nearest_key_link, nearest_detour}

module _ (N : Network) (W : WellFormed N) (d h : ℕ) where
  pub dearest_is_free : {k : ℕ} {S : List ℕ} → KeyLink N d h k → Best N (But k) (head N h) S d
      → ((l : ℕ) (T : List ℕ) → KeyLink N d h l → Best N (But l) (head N h) T d → cost N T ≤ cost N S)
      → Best N (Free N d h) (head N h) S d
  dearest_is_free {k} {S} key best dearest =
      let (l, nearest) = nearest_key_link N W d h key in
      let (T, free, near) = nearest_detour N W d h nearest in
      let over : Over (But k) T = over_weaken N (λ j f e. f (rw e key)) free.over in
      let same_cost : cost N T ≤ cost N S = dearest l T nearest.key near in
      let also : Best N (But k) (head N h) T d =
      record { chain = free.chain; over = over; least = λ {q} c o. omega (arith, best.least c o) } in
      rw (unique N W best also) free
