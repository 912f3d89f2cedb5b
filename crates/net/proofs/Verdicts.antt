-- Checks one after the other: all are passed exactly if each is, and then the answer is the last one's.
use Prim.Native.Nat.{ℕ}
use mathlib.Core.Bool.{Bool, true, false}
use mathlib.Core.Path.{◌≡◌, refl, sym, ap, ◌∙◌}
use mathlib.Core.Logic.{◌≢◌}
use native.Mathlib.Decide.{ℕ_discrete}
use borrow.Author.Tests.{eq-eqb, ne_eqb}
use Rattle.net.specs.Refusals.{accepted}
use Rattle.net.specs.Check.{verdict, or_else, first_number, refused_if}
use Rattle.net.specs.Verdict.{Verdict}

module _ (first second : Verdict) where
  -- the first check is passed: the second decides
  pub or_else_second : first.number ≡ accepted → or_else first second ≡ second
  unfolding or_else
  or_else_second e = simp (eq-eqb first.number accepted e)

  -- it is not: the first decides
  pub or_else_first : first.number ≢ accepted → or_else first second ≡ first
  unfolding or_else
  or_else_first n = simp (ne_eqb first.number accepted n)

  -- both are passed only if the first is
  pub first_accepted : (or_else first second).number ≡ accepted → first.number ≡ accepted
  first_accepted e =
      elim (ℕ_discrete first.number accepted) [
        | yes q ↦ q
        | no n ↦ sym (ap (λ (v : Verdict). v.number) (or_else_first n)) ∙ e
      ]

  -- and only if the second is
  pub second_accepted : (or_else first second).number ≡ accepted → second.number ≡ accepted
  second_accepted e = sym (ap (λ (v : Verdict). v.number) (or_else_second (first_accepted e))) ∙ e

-- the same of refusals by their numbers alone
module _ (first second : ℕ) where
  pub number_second : first ≡ accepted → first_number first second ≡ second
  unfolding first_number
  number_second e = simp (eq-eqb first accepted e)

  pub number_first : first ≢ accepted → first_number first second ≡ first
  unfolding first_number
  number_first n = simp (ne_eqb first accepted n)

  pub number_accepted : first_number first second ≡ accepted → (first ≡ accepted) × (second ≡ accepted)
  number_accepted e =
      elim (ℕ_discrete first accepted) [
        | yes q ↦ (q, sym (number_second q) ∙ e)
        | no n ↦ absurd (n (sym (number_first n) ∙ e))
      ]

pub not_refused : {test : Bool} (number : ℕ) → test ≡ false → refused_if test number ≡ verdict accepted
unfolding refused_if
not_refused number e = rw e

pub is_refused : {test : Bool} (number : ℕ) → test ≡ true → refused_if test number ≡ verdict number
unfolding refused_if
is_refused number e = rw e

-- a check that is passed found its test false
pub passed_test : (test : Bool) (number : ℕ) → number ≢ accepted → (refused_if test number).number ≡ accepted → test ≡ false
unfolding refused_if
passed_test true number refusal e = absurd (refusal e)
passed_test false number refusal e = refl
