-- Of parallel links the first alone lies on best paths over all links: a later one could be exchanged for it in the same direction, which
-- costs less. A key link lies on the best path of its interface's head; so a later twin is key link of no interface, and two twins are
-- never both key links.
use mathlib.Core.Path.{◌≡◌, sym, ap, ◌∙◌}
use mathlib.Core.Logic.{inl, inr}
use mathlib.Core.List.{List, ◌∷◌, ◌++◌}
use Prim.Native.Nat.{ℕ, suc, ◌+◌, ◌*◌, ◌^◌, ◌≤◌, ◌<◌}
use native.Mathlib.Nat.{mul-le-mul_right, two-pow-succ, one-le-pow, pow-le-pow_right}
use native.Mathlib.Omega.{arith}
use Rattle.graph.specs.Network.{Network, WellFormed, link, reverse, tail, head}
use Rattle.graph.specs.Path.{Chain, step, All}
use Rattle.graph.specs.Entries.{Free}
use Rattle.graph.specs.Twins.{ComesAfterTwin}
use Rattle.graph.proofs.Interfaces.{two_sides, link_from_low, link_from_high}
use Rattle.graph.proofs.Interfaces.{tail_from_low, head_from_low, tail_from_high, head_from_high}
use Rattle.graph.proofs.Chain.{link_cost, Best, cost_append, chain_append, chain_upto, chain_after}
use Rattle.graph.proofs.Keys.{over_all, key_on, link_key}

-- the interface of link k that leads as f does
record Beside (N : Network) (k f : ℕ) : Type 0 where
  by : ℕ
  own : link by ≡ k
  leaves : tail N by ≡ tail N f
  enters : head N by ≡ head N f

module _ (N : Network) (W : WellFormed N) {k l : ℕ} (twin : ComesAfterTwin N k l) where
  beside : (f : ℕ) → link f ≡ l → Beside N k f
  beside f is =
      elim (rw is at (two_sides f)) [
        | inl e ↦ record {
          by = 2 * k;
          own = link_from_low k;
          leaves = tail_from_low k N ∙ twin.same_low ∙ sym (ap (tail N) e ∙ tail_from_low l N);
          enters = head_from_low k N ∙ twin.same_high ∙ sym (ap (head N) e ∙ head_from_low l N);
        }
        | inr e ↦ record {
          by = 2 * k + 1;
          own = link_from_high k;
          leaves = tail_from_high k N ∙ twin.same_high ∙ sym (ap (tail N) e ∙ tail_from_high l N);
          enters = head_from_high k N ∙ twin.same_low ∙ sym (ap (head N) e ∙ head_from_high l N);
        }
      ]

  cheaper : link_cost N k < link_cost N l
  cheaper =
      let later = twin.later in
      let doubled : 2 ^ suc k ≤ 2 ^ l = pow-le-pow_right {n = 2} (omega arith) {i = suc k} later in
      omega (arith, mul-le-mul_right (2 ^ N.links) twin.heavier, two-pow-succ k, one-le-pow k 2 (omega arith), doubled)

  -- no best path over all links crosses the later one
  pub later_unused : {i d : ℕ} (a : List ℕ) (f : ℕ) (b : List ℕ) → Best N All i (a ++ f ∷ b) d → link f ≡ l → ⊥
  later_unused {i} {d} a f b best is =
      let other = beside f is in
      let g = other.by in
      let rest : Chain N (head N g) b d = rw other.enters (chain_after N a f b best.chain) in
      let swapped : Chain N i (a ++ g ∷ b) d =
      chain_append N a (g ∷ b) (chain_upto N a f b best.chain) (step (rw other.own twin.present) other.leaves rest) in
      let least = best.least swapped (over_all (λ _. tt) (a ++ g ∷ b)) in
      omega (arith, least, cheaper, cost_append N a (f ∷ b), cost_append N a (g ∷ b), ap (link_cost N) is, ap (link_cost N) other.own)

  -- so it is key link of no interface
  pub later_no_key : (d h : ℕ) → Free N d h l
  later_no_key d h key =
      let one = link_key N W key in
      let on = key_on N W one.returns one in
      later_unused (reverse h ∷ on.before) on.crossing on.after (rw on.split at one.returns) on.is
