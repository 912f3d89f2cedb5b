-- The check accepts exactly the networks of document 01, with parallel links as document 02 allows them (L5), and such a network is one
-- that the mathematics speaks of: well-formed.
use mathlib.Core.Path.{◌≡◌}
use mathlib.Core.Logic.{inl, inr}
use native.Mathlib.Omega.{arith}
use Rattle.graph.specs.Network.{WellFormed}
use Rattle.net.specs.Refusals.{accepted}
use Rattle.net.specs.Rows.{Rows, network_of}
use Rattle.net.specs.Check.{check_network, verdict, Accepted}
use Rattle.net.proofs.Rows.{present_row, present?}
use Rattle.net.proofs.Stages as stages

module _ (R : Rows) where
  pub accepts_check : Accepted R → check_network R ≡ verdict accepted
  accepts_check = stages.accepts_check R

  pub check_accepts : (check_network R).number ≡ accepted → Accepted R
  check_accepts e =
      elim (stages.decided R) [
        | inl A ↦ A
        | inr (number, place, refusal) ↦
            let refused : number ≡ accepted = cc (stages.refused_check R refusal) in
            absurd (stages.refused_number R refusal refused)
      ]

  module _ (A : Accepted R) where
    pub well_formed : WellFormed (network_of R)
    well_formed =
        record {
          numbered = λ k h. present_row R k h;
          low_node = λ k h. omega (arith, A.joins k (present_row R k h));
          high_node = λ k h. (A.joins k (present_row R k h)).node;
          ends_differ = λ k h e. omega (arith, A.joins k (present_row R k h));
          weighs = λ k h. (A.joins k (present_row R k h)).weighs;
          present? = present? R;
        }
