-- B1: there is one best chain. Two best chains cost the same, they are paths, and of two different paths between the same nodes one
-- is better, so costs less.
use mathlib.Core.Path.{◌≡◌}
use mathlib.Core.Logic.{inl, inr}
use mathlib.Core.List.{List}
use Prim.Native.Nat.{ℕ}
use native.Mathlib.Omega.{arith}
use Rattle.graph.specs.Network.{Network, WellFormed}
use Rattle.graph.proofs.Chain.{Best}
use Rattle.graph.proofs.Simple.{simple}
use Rattle.graph.proofs.Order.{path_better, rule_for_equal_paths}

module _ (N : Network) (W : WellFormed N) where
  pub unique : {X : ℕ → Type 0} {i d : ℕ} {p q : List ℕ} → Best N X i p d → Best N X i q d → p ≡ q
  unique {i = i} {d = d} {p = p} {q = q} s t =
      let a = simple N W s in
      let b = simple N W t in
      elim ((rule_for_equal_paths N W i d).comparable p q a b) [
        | inl e ↦ e
        | inr (inl h) ↦ absurd (omega (arith, (path_better N W a b).0 h, t.least s.chain s.over))
        | inr (inr h) ↦ absurd (omega (arith, (path_better N W b a).0 h, s.least t.chain t.over))
      ]
