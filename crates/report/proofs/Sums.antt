-- The laws of the sum and the maximum over the numbers below a count, and of the sum over every ordered pair of different nodes: one
-- number more, equal parts give equal wholes, parts that are bounded give a bounded whole, sums of sums. Each is an induction on the
-- count. The pairs of different nodes are n × (n - 1): each source has every node but itself.
use Prim.Native.Nat.{ℕ, zero, suc, ◌+◌, ◌*◌, ◌-◌, ◌≤◌, ◌<◌, max}
use mathlib.Core.Path.{◌≡◌, refl, ◌∙◌}
use mathlib.Core.Logic.{◌≢◌}
use native.Mathlib.Decide.{ℕ_discrete}
use native.Mathlib.Nat.{suc-mul}
use native.Mathlib.Numerals.{add-one}
use native.Mathlib.Omega.{arith}
use borrow.Author.Tests.{eq-eqb, ne_eqb}
use lib.Dec.{eqb}
use Rattle.net.specs.Choice.{pick}
use Rattle.report.specs.Line.{sum_below, most_below, sum_over_pairs}

-- a walk that is made from s: to every d but s
abbrev pub apart : ℕ → (ℕ → ℕ) → ℕ → ℕ
apart s f d = pick (eqb d s) 0 (f d)

module _ (f : ℕ → ℕ) where
  pub sum_more : (count : ℕ) → sum_below (count + 1) f ≡ sum_below count f + f count
  unfolding sum_below
  sum_more count = rw add-one

  pub most_more : (count : ℕ) → most_below (count + 1) f ≡ max (most_below count f) (f count)
  unfolding most_below
  most_more count = rw add-one

  pub sum_bounded : (each count : ℕ) → ((k : ℕ) → k < count → f k ≤ each) → sum_below count f ≤ count * each
  unfolding sum_below
  sum_bounded each zero bound = omega arith
  sum_bounded each (suc count) bound =
      omega (arith, sum_bounded each count (λ k h. bound k (omega arith)), bound count (omega arith), suc-mul count each)

  module _ (g : ℕ → ℕ) where
    pub sum_same : (count : ℕ) → ((k : ℕ) → k < count → f k ≡ g k) → sum_below count f ≡ sum_below count g
    unfolding sum_below
    sum_same zero same = refl
    sum_same (suc count) same = rw (sum_same count (λ k h. same k (omega arith)), same count (omega arith))

    pub sum_both : (count : ℕ) → sum_below count f + sum_below count g ≡ sum_below count (λ k. f k + g k)
    unfolding sum_below
    sum_both zero = refl
    sum_both (suc count) = omega (arith, sum_both count)

-- a sum of one and the same number
pub sum_each : (each count : ℕ) → sum_below count (λ k. each) ≡ count * each
unfolding sum_below
sum_each each zero = omega arith
sum_each each (suc count) = omega (arith, sum_each each count, suc-mul count each)

-- what a source adds to a sum for one destination
module _ (f : ℕ → ℕ) (s : ℕ) where
  pub apart_own : apart s f s ≡ 0
  apart_own = rw (eq-eqb s s refl)

  pub apart_other : {d : ℕ} → d ≢ s → apart s f d ≡ f d
  apart_other {d} h = rw (ne_eqb d s h)

  pub apart_bounded : (each : ℕ) {d : ℕ} → f d ≤ each → apart s f d ≤ each
  apart_bounded each {d} h =
      elim (ℕ_discrete d s) [ yes e ↦ rw (eq-eqb d s e) (omega arith) | no e ↦ rw (ne_eqb d s e) h ]

pub apart_both : (f g : ℕ → ℕ) (s d : ℕ) → apart s f d + apart s g d ≡ apart s (λ k. f k + g k) d
apart_both f g s d = elim (ℕ_discrete d s) [ yes e ↦ rw (eq-eqb d s e) | no e ↦ rw (ne_eqb d s e) ]

-- the nodes below a count but for s: all where s is not below it, else all but one
module _ (s : ℕ) where
  others_before : (count : ℕ) → count ≤ s → sum_below count (apart s (λ d. 1)) ≡ count
  unfolding sum_below
  others_before zero h = refl
  others_before (suc count) h =
      let more : apart s (λ d. 1) count ≡ 1 = apart_other (λ d. 1) s (λ e. omega arith) in
      omega (arith, others_before count (omega arith), more)

  others : (count : ℕ) → s < count → sum_below count (apart s (λ d. 1)) ≡ count - 1
  unfolding sum_below
  others zero h = absurd (omega arith)
  others (suc count) h =
      elim (ℕ_discrete count s) [
        | yes e ↦
            let own : apart s (λ d. 1) count ≡ 0 = rw e (apart_own (λ d. 1) s) in
            omega (arith, others_before count (omega arith), own)
        | no e ↦
            let more : apart s (λ d. 1) count ≡ 1 = apart_other (λ d. 1) s e in
            omega (arith, others count (omega arith), more)
      ]

-- over pairs
module _ (n : ℕ) (f g : ℕ → ℕ → ℕ) where
  pair_same : ((s d : ℕ) → s < n → d < n → d ≢ s → f s d ≡ g s d) → (s d : ℕ) → s < n → d < n → apart s (f s) d ≡ apart s (g s) d
  pair_same same s d s_node d_node =
      elim (ℕ_discrete d s) [ yes e ↦ rw (eq-eqb d s e) | no e ↦ rw (ne_eqb d s e) (same s d s_node d_node e) ]

  pub pairs_same : ((s d : ℕ) → s < n → d < n → d ≢ s → f s d ≡ g s d) → sum_over_pairs n f ≡ sum_over_pairs n g
  unfolding sum_over_pairs
  pairs_same same = sum_same _ _ n (λ s s_node. sum_same _ _ n (λ d d_node. pair_same same s d s_node d_node))

  pub pairs_both : sum_over_pairs n f + sum_over_pairs n g ≡ sum_over_pairs n (λ s d. f s d + g s d)
  unfolding sum_over_pairs
  pairs_both =
      sum_both (λ s. sum_below n (apart s (f s))) (λ s. sum_below n (apart s (g s))) n
      ∙ sum_same _ _ n (λ s s_node.
      sum_both (apart s (f s)) (apart s (g s)) n ∙ sum_same _ _ n (λ d d_node. apart_both (f s) (g s) s d))

-- "every ordered pair of different nodes": n × (n - 1) of them
pub pairs_counted : (n : ℕ) → sum_over_pairs n (λ s d. 1) ≡ n * (n - 1)
unfolding sum_over_pairs
pairs_counted n = sum_same _ (λ s. n - 1) n (λ s s_node. others s n s_node) ∙ sum_each (n - 1) n
