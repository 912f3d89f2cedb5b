-- The contract of `best_path` determines its answer: two answers that it allows for the same inputs are equal. After a refusal it says
-- every part. Else there is one best path, so one weight sum, one set of links and one entry, or no path, which the contract says too.
use Prim.Native.Nat.{ℕ}
use mathlib.Core.Path.{◌≡◌, sym, ap, ◌∙◌}
use native.Mathlib.Decide.{ℕ_discrete}
use Rattle.std.specs.Prelude.{Result, Ok, Err}
use Rattle.graph.specs.Network.{Network, WellFormed}
use Rattle.graph.specs.Path.{weight_sum}
use Rattle.graph.proofs.Agreement.{best_path_one}
use Rattle.graph.proofs.Sets.{set_one}
use Rattle.net.specs.Refusals.{accepted}
use Rattle.net.specs.Rows.{Rows, network_of}
use Rattle.net.proofs.Accepted.{check_accepts, well_formed}
use Rattle.net.proofs.Verdicts.{first_accepted}
use Rattle.net.proofs.Bytes.{byte_one}
use Rattle.net.proofs.Told.{number_refuses, refusal_once}
use Rattle.net.specs.declared.refusal.PlacedRefusal.{PlacedRefusal}
use Rattle.paths.specs.Best.{Answer, best_path_told, best_path_verdict, Measures, of_path, of_none, BestPathAnswer}
use Rattle.paths.specs.declared.best.BestPath.{BestPath as Found}

measures_one : (N : Network) → WellFormed N → {s d a b x y : ℕ} → Measures N s d a x → Measures N s d b y → (a ≡ b) × (x ≡ y)
measures_one N W (of_path t sum set) (of_path u sum₂ set₂) =
    let same = best_path_one N W t u in
    (sum ∙ ap (weight_sum N) same ∙ sym sum₂, set_one set (rw same set₂))
measures_one N W (of_path t sum set) (of_none no_path sum₂ set₂) = absurd (no_path _ t.path t.over)
measures_one N W (of_none no_path sum set) (of_path t sum₂ set₂) = absurd (no_path _ t.path t.over)
measures_one N W (of_none no_path sum set) (of_none no_path₂ sum₂ set₂) = (sum ∙ sym sum₂, set ∙ sym set₂)

module _ (R : Rows) (s d : ℕ) where
  -- the entry accepts only networks that the mathematics speaks of
  answered_well_formed : {r : Answer} → BestPathAnswer R s d r → r.number ≡ accepted → WellFormed (network_of R)
  unfolding best_path_verdict
  answered_well_formed a e = well_formed R (check_accepts R (first_accepted _ _ (sym a.number ∙ e)))

  pub best_path_answer_one : {x y : Answer} → BestPathAnswer R s d x → BestPathAnswer R s d y → x ≡ y
  best_path_answer_one {x} {y} a b =
      let number : x.number ≡ y.number = a.number ∙ sym b.number in
      let place : x.place ≡ y.place = a.place ∙ sym b.place in
      elim (ℕ_discrete x.number accepted) [
        | yes e ↦
            let W = answered_well_formed a e in
            let e₂ : y.number ≡ accepted = sym number ∙ e in
            let measures = measures_one (network_of R) W (a.measures e) (b.measures e₂) in
            let entry : x.entry ≡ y.entry = byte_one W (a.routing e) (b.routing e₂) in
            equal number place measures.0 measures.1 entry
        | no refused ↦
            let p = a.refused refused in
            let q = b.refused (λ e. refused (number ∙ e)) in
            equal number place (p.0 ∙ sym q.0) (p.1 ∙ sym q.1) (p.2 ∙ sym q.2)
      ]
    where
      equal : x.number ≡ y.number → x.place ≡ y.place → x.sum ≡ y.sum → x.links ≡ y.links → x.entry ≡ y.entry → x ≡ y
      equal number place sum links entry = λ t. record { number = number t; place = place t; sum = sum t; links = links t; entry = entry t }

-- and what an answer of the entry tells determines it
pub best_path_told_once : (x y : Result Found PlacedRefusal) → best_path_told x ≡ best_path_told y → x ≡ y
best_path_told_once (Ok a) (Ok b) e =
    ap Ok (λ t. record { sum = (e t).sum; links = (e t).links; entry = (e t).entry })
best_path_told_once (Ok _) (Err b) e = absurd (number_refuses b.refusal (sym (ap (λ (r : Answer). r.number) e)))
best_path_told_once (Err a) (Ok _) e = absurd (number_refuses a.refusal (ap (λ (r : Answer). r.number) e))
best_path_told_once (Err a) (Err b) e = ap Err (refusal_once a b (λ t. record { number = (e t).number; place = (e t).place }))

pub best_path_result_one : (R : Rows) (s d : ℕ) {x y : Result Found PlacedRefusal} → BestPathAnswer R s d (best_path_told x)
    → BestPathAnswer R s d (best_path_told y) → x ≡ y
best_path_result_one R s d {x} {y} a b = best_path_told_once x y (best_path_answer_one R s d a b)
