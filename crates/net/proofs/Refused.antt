-- The check refuses exactly on document 01's faults, with their number and place: each refusal is the check's answer, every network is
-- accepted or refused, and the check has one answer.
use Prim.Native.Nat.{ℕ}
use mathlib.Core.Path.{◌≡◌, sym, ap, ◌∙◌}
use mathlib.Core.Logic.{inl, inr, ◌≢◌, ◌↔◌}
use Rattle.net.specs.Refusals.{accepted}
use Rattle.net.specs.Rows.{Rows}
use Rattle.net.specs.Check.{check_network}
use Rattle.net.specs.Refused.{Refused}
use Rattle.net.specs.Verdict.{Verdict}
use Rattle.net.proofs.Stages as stages

abbrev number_of : Verdict → ℕ
number_of answer = answer.number

abbrev place_of : Verdict → ℕ
place_of answer = answer.place

module _ (R : Rows) (number place : ℕ) where
  check_refuses : check_network R ≡ record { number = number; place = place } → number ≢ accepted
      → Refused R number place
  check_refuses e h =
      elim (stages.decided R) [
        | inl A ↦ absurd (h (ap number_of (sym e ∙ stages.accepts_check R A)))
        | inr (m, p, refusal) ↦
            let same = sym (stages.refused_check R refusal) ∙ e in
            rw (ap number_of same, ap place_of same) at refusal
      ]

  pub refused_exactly : Refused R number place
      ↔ ((check_network R ≡ record { number = number; place = place }) × (number ≢ accepted))
  refused_exactly =
      (λ refusal. (stages.refused_check R refusal, stages.refused_number R refusal), λ s. check_refuses s.0 s.1)
