-- What each test of the check decides, in the documents' words: it holds or fails exactly as they say. The argument is the same for all:
-- each of its comparisons is decided, and in each case the test is computed. The reader of stored plans makes the same tests, but for the
-- ends, which it reads as low end and difference.
use Prim.Native.Nat.{ℕ, zero, suc, ◌≤◌, ◌<◌}
use mathlib.Core.Bool.{Bool, true, false, false≢true}
use mathlib.Core.Path.{◌≡◌, refl, sym, ◌∙◌}
use mathlib.Core.Logic.{◌⊎◌, inl, inr}
use native.Mathlib.Decide.{ℕ_discrete, dec_le, dec_lt}
use native.Mathlib.Omega.{arith}
use borrow.Author.Tests.{lt-ltb, le-ltb, le-leb, lt-leb, eq-eqb, ne_eqb}
use lib.Dec.{ltb, eqb}
use Rattle.net.specs.Choice.{either}
use Rattle.net.specs.Limits.{most_nodes, most_weight}
use Rattle.net.specs.Rows.{Rows}
use Rattle.net.specs.Check.{bad_ends, descends, bad_weight, lighter_twin, bad_node_count, span_at, origin, span_before}
use Rattle.net.specs.Check.{Ascends, TwinsAscend}
use Rattle.net.specs.Refused.{BadNodeCount, BadEnds, BadWeight, InOrder, TwinsInOrder}
use Rattle.net.specs.declared.check.Span.{Span}

-- a test holds with the one fact, or fails with the other
abbrev pub Answer : Bool → Type 0 → Type 0 → Type 0
Answer test Bad Good = ((test ≡ true) × Bad) ⊎ ((test ≡ false) × Good)

-- a test tells two facts apart that exclude each other
pub record Tells (test : Bool) (Bad Good : Type 0) : Type 0 where
  pub answer : Answer test Bad Good
  pub apart : Bad → Good → ⊥

module _ {test : Bool} {Bad Good : Type 0} (t : Tells test Bad Good) where
  pub holds : Bad → test ≡ true
  holds bad = elim t.answer [ inl a ↦ a.0 | inr a ↦ absurd (t.apart bad a.1) ]

  pub fails : Good → test ≡ false
  fails good = elim t.answer [ inl a ↦ absurd (t.apart a.1 good) | inr a ↦ a.0 ]

  pub passed : test ≡ false → Good
  passed e = elim t.answer [ inl a ↦ absurd (false≢true (sym e ∙ a.0)) | inr a ↦ a.1 ]

-- "0 or above" a limit
range_tells : (most v : ℕ) → Tells (either (eqb v 0) (ltb most v)) ((v ≡ 0) ⊎ (most < v)) ((0 < v) × (v ≤ most))
range_tells most v = record { answer = answer; apart = apart }
  where
    apart : (v ≡ 0) ⊎ (most < v) → (0 < v) × (v ≤ most) → ⊥
    apart (inl x) good = omega arith
    apart (inr x) good = omega arith

    answer : Answer (either (eqb v 0) (ltb most v)) ((v ≡ 0) ⊎ (most < v)) ((0 < v) × (v ≤ most))
    answer =
        elim (ℕ_discrete v 0) [
          | yes a ↦ inl (simp (eq-eqb _ _ a), inl a)
          | no a ↦ elim (dec_lt most v) [
            | yes b ↦ inl (simp (ne_eqb v 0 a, lt-ltb _ _ b), inr b)
            | no b ↦ inr (simp (ne_eqb v 0 a, le-ltb most v (omega arith)), (omega arith, omega arith))
          ]
        ]

-- the node count
pub count_tells : (n : ℕ) → Tells (bad_node_count n) (BadNodeCount n) ((0 < n) × (n ≤ most_nodes))
unfolding bad_node_count
count_tells n = range_tells most_nodes n

-- a link's weight
pub weight_tells : (weight : ℕ) → Tells (bad_weight weight) (BadWeight weight) ((0 < weight) × (weight ≤ most_weight))
unfolding bad_weight
weight_tells weight = range_tells most_weight weight

-- its ends
pub ends_tell : (n low high : ℕ) → Tells (bad_ends n low high) (BadEnds n low high) ((low < high) × (high < n))
unfolding bad_ends
ends_tell n low high = record { answer = answer; apart = apart }
  where
    apart : BadEnds n low high → (low < high) × (high < n) → ⊥
    apart (inl x) good = omega arith
    apart (inr (inl x)) good = omega arith
    apart (inr (inr x)) good = omega arith

    answer : Answer (bad_ends n low high) (BadEnds n low high) ((low < high) × (high < n))
    answer =
        elim (dec_le n low) [
          | yes a ↦ inl (simp (le-leb _ _ a), inl a)
          | no a ↦ elim (dec_le high low) [
            | yes b ↦ inl (simp (lt-leb n low (omega arith), le-leb _ _ b), inr (inl b))
            | no b ↦ elim (dec_le n high) [
              | yes c ↦ inl (simp (lt-leb n low (omega arith), lt-leb high low (omega arith), le-leb _ _ c), inr (inr c))
              | no c ↦ inr (
                simp (lt-leb n low (omega arith), lt-leb high low (omega arith), lt-leb n high (omega arith)),
                (omega arith, omega arith),
              )
            ]
          ]
        ]

-- its pair against that of the link before
pub descends_tells : (before : Span) (low high : ℕ)
    → Tells (descends before low high) (Ascends before low high → ⊥) (Ascends before low high)
unfolding descends
descends_tells before low high = record { answer = answer; apart = λ bad good. bad good }
  where
    answer : Answer (descends before low high) (Ascends before low high → ⊥) (Ascends before low high)
    answer =
        elim (dec_lt low before.low) [
          | yes a ↦ inl (simp (lt-ltb _ _ a), λ s. elim s [ inl x ↦ omega arith | inr x ↦ omega arith ])
          | no a ↦ elim (ℕ_discrete low before.low) [
            | no b ↦ inr (simp (le-ltb low before.low (omega arith), ne_eqb low before.low b), inl (omega arith))
            | yes b ↦ elim (dec_lt high before.high) [
              | yes c ↦ inl (
                simp (le-ltb low before.low (omega arith), eq-eqb _ _ b, lt-ltb _ _ c),
                λ s. elim s [ inl x ↦ omega arith | inr x ↦ omega arith ],
              )
              | no c ↦ inr (
                simp (le-ltb low before.low (omega arith), eq-eqb _ _ b, le-ltb high before.high (omega arith)),
                inr (sym b, omega arith),
              )
            ]
          ]
        ]

-- and, of an equal pair, its weight against that of the link before
pub twins_tell : (before : Span) (low high weight : ℕ)
    → Tells (lighter_twin before low high weight) (TwinsAscend before low high weight → ⊥) (TwinsAscend before low high weight)
unfolding lighter_twin
twins_tell before low high weight = record { answer = answer; apart = λ bad good. bad good }
  where
    answer : Answer (lighter_twin before low high weight) (TwinsAscend before low high weight → ⊥) (TwinsAscend before low high weight)
    answer =
        elim (ℕ_discrete low before.low) [
          | no a ↦ inr (simp (ne_eqb low before.low a), λ e f. absurd (a (sym e)))
          | yes a ↦ elim (ℕ_discrete high before.high) [
            | no b ↦ inr (simp (eq-eqb _ _ a, ne_eqb high before.high b), λ e f. absurd (b (sym f)))
            | yes b ↦ elim (dec_lt weight before.weight) [
              | yes c ↦ inl (simp (eq-eqb _ _ a, eq-eqb _ _ b, lt-ltb _ _ c), λ s. omega (arith, s (sym a) (sym b)))
              | no c ↦ inr (
                simp (eq-eqb _ _ a, eq-eqb _ _ b, le-ltb weight before.weight (omega arith)),
                λ e f. omega arith,
              )
            ]
          ]
        ]

-- Link k is compared with the link before it. The first one has none, and after 0, 0, 0 it passes whatever it is.
before_tells : (test : Span → Bool) (Passes : Span → Type 0) → ((before : Span) → Tells (test before) (Passes before → ⊥) (Passes before))
    → Passes origin → (R : Rows) (k : ℕ)
    → Tells (test (span_before R k)) (((j : ℕ) → suc j ≡ k → Passes (span_at R j)) → ⊥) ((j : ℕ) → suc j ≡ k → Passes (span_at R j))
unfolding span_before
before_tells test Passes tells first R k = record { answer = answer k; apart = λ bad good. bad good }
  where
    the_one_before : (i j : ℕ) → suc j ≡ suc i → Passes (span_at R i) → Passes (span_at R j)
    the_one_before i j e passes =
        let same : j ≡ i = omega arith in
        rw same passes

    answer : (k : ℕ) → Answer (test (span_before R k)) (((j : ℕ) → suc j ≡ k → Passes (span_at R j)) → ⊥)
        ((j : ℕ) → suc j ≡ k → Passes (span_at R j))
    answer zero = inr (fails (tells origin) first, λ j e. absurd (omega arith))
    answer (suc i) =
        elim (tells (span_at R i)).answer [
          | inl a ↦ inl (a.0, λ all. a.1 (all i refl))
          | inr a ↦ inr (a.0, λ j e. the_one_before i j e a.1)
        ]

module _ (R : Rows) (k low high : ℕ) where
  pub order_tells : Tells (descends (span_before R k) low high) (InOrder R k low high → ⊥) (InOrder R k low high)
  order_tells = before_tells _ (λ before. Ascends before low high) (λ before. descends_tells before low high) first R k
    where
      first : Ascends origin low high
      first = elim (dec_lt 0 low) [ yes h ↦ inl h | no h ↦ inr (omega arith, omega arith) ]

  pub twin_order_tells : (weight : ℕ)
      → Tells (lighter_twin (span_before R k) low high weight) (TwinsInOrder R k low high weight → ⊥) (TwinsInOrder R k low high weight)
  twin_order_tells weight =
      before_tells _ (λ before. TwinsAscend before low high weight) (λ before. twins_tell before low high weight)
      (λ e f. omega arith) R k
