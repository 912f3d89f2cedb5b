-- The laws of interfaces: turning round twice is nothing, it swaps the ends and keeps the link; the two interfaces of a link are all
-- that have it, and its low and its high end are their tail and head, one way round or the other. This is the one place of the
-- theory where an interface is taken apart as a number.
use mathlib.Core.Path.{◌≡◌, refl, sym, ap, ◌∙◌}
use mathlib.Core.Logic.{◌⊎◌, inl, inr, ◌≢◌}
use Prim.Native.Nat.{ℕ, zero, suc, ◌+◌, ◌*◌, ◌%◌, ◌<◌}
use native.Mathlib.Decide.{ℕ_discrete}
use native.Mathlib.Omega.{arith}
use Rattle.graph.specs.Network.{Network, WellFormed, link, reverse, by_direction, tail, head}

pub link_reverse : (f : ℕ) → link (reverse f) ≡ link f
unfolding link reverse
link_reverse f = omega arith

pub reverse_reverse : (f : ℕ) → reverse (reverse f) ≡ f
unfolding reverse
reverse_reverse f = omega arith

pub same_link : (f g : ℕ) → link f ≡ link g → (f ≡ g) ⊎ (f ≡ reverse g)
unfolding link reverse
same_link f g e =
    elim (ℕ_discrete (f % 2) (g % 2)) [ yes s ↦ inl (omega arith) | no s ↦ inr (omega arith) ]

-- a choice by direction, turned round, is the other one
turned : (f a b : ℕ) → by_direction (reverse f % 2) a b ≡ by_direction (f % 2) b a
unfolding reverse by_direction
turned f a b =
    elim (ℕ_discrete (f % 2) 0) [
      | yes e ↦ (let other : reverse f % 2 ≡ 1 = omega arith in rw (other, e))
      | no n ↦ (let e : f % 2 ≡ 1 = omega arith in let other : reverse f % 2 ≡ 0 = omega arith in rw (other, e))
    ]

pub tail_reverse : (N : Network) (f : ℕ) → tail N (reverse f) ≡ head N f
unfolding tail head
tail_reverse N f = rw link_reverse (turned f _ _)

pub head_reverse : (N : Network) (f : ℕ) → head N (reverse f) ≡ tail N f
unfolding tail head
head_reverse N f = rw link_reverse (turned f _ _)

-- the interfaces of the links below m are those below 2 * m
pub interface_below : (f m : ℕ) → link f < m → f < 2 * m
unfolding link
interface_below f m h = omega arith

-- the one of two and the other, or the other way round
directions : (x a b : ℕ)
    → ((by_direction x a b ≡ a) × (by_direction x b a ≡ b)) ⊎ ((by_direction x a b ≡ b) × (by_direction x b a ≡ a))
unfolding by_direction
directions zero a b = inl (refl, refl)
directions (suc x) a b = inr (refl, refl)

-- an interface leads from the low end of its link to the high one, or back
pub interface_ends : (N : Network) (f : ℕ)
    → ((tail N f ≡ N.low (link f)) × (head N f ≡ N.high (link f))) ⊎ ((tail N f ≡ N.high (link f)) × (head N f ≡ N.low (link f)))
unfolding tail head
interface_ends N f = directions (f % 2) (N.low (link f)) (N.high (link f))

module _ (N : Network) (W : WellFormed N) (f : ℕ) (up : N.Present (link f)) where
  pub tail_node : tail N f < N.nodes
  tail_node = elim (interface_ends N f) [ inl (t, h) ↦ rw t (W.low_node _ up) | inr (t, h) ↦ rw t (W.high_node _ up) ]

  pub head_node : head N f < N.nodes
  head_node = elim (interface_ends N f) [ inl (t, h) ↦ rw h (W.high_node _ up) | inr (t, h) ↦ rw h (W.low_node _ up) ]

  pub ends : tail N f ≢ head N f
  ends e =
      elim (interface_ends N f) [
        | inl (t, h) ↦ W.ends_differ _ up (sym t ∙ e ∙ h)
        | inr (t, h) ↦ W.ends_differ _ up (sym h ∙ sym e ∙ t)
      ]

-- "Interface 2k is link k entered from the low end towards the high end; interface 2k + 1 is the other direction."
pub two_sides : (f : ℕ) → (f ≡ 2 * link f) ⊎ (f ≡ 2 * link f + 1)
unfolding link
two_sides f = elim (ℕ_discrete (f % 2) 0) [ yes even ↦ inl (omega arith) | no odd ↦ inr (omega arith) ]

module _ (k : ℕ) where
  pub reverse_from_low : reverse (2 * k) ≡ 2 * k + 1
  unfolding reverse
  reverse_from_low = omega arith

  pub link_from_low : link (2 * k) ≡ k
  unfolding link
  link_from_low = omega arith

  pub link_from_high : link (2 * k + 1) ≡ k
  unfolding link
  link_from_high = omega arith

  module _ (N : Network) where
    pub tail_from_low : tail N (2 * k) ≡ N.low k
    unfolding tail by_direction
    tail_from_low =
        let even : 2 * k % 2 ≡ 0 = omega arith in
        rw (even, link_from_low)

    pub head_from_low : head N (2 * k) ≡ N.high k
    unfolding head by_direction
    head_from_low =
        let even : 2 * k % 2 ≡ 0 = omega arith in
        rw (even, link_from_low)

    pub tail_from_high : tail N (2 * k + 1) ≡ N.high k
    tail_from_high = ap (tail N) (sym reverse_from_low) ∙ tail_reverse N (2 * k) ∙ head_from_low

    pub head_from_high : head N (2 * k + 1) ≡ N.low k
    head_from_high = ap (head N) (sym reverse_from_low) ∙ head_reverse N (2 * k) ∙ tail_from_low
