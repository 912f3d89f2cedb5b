-- The refusals of `best_path`, in order: the network's, then the source, then the destination.
use Prim.Native.Nat.{ℕ, ◌≤◌, ◌<◌}
use mathlib.Core.Path.{◌≡◌, refl, sym, ap, ◌∙◌}
use native.Mathlib.Decide.{dec_lt}
use native.Mathlib.Omega.{arith}
use borrow.Author.Tests.{le-leb, lt-leb}
use lib.Dec.{leb}
use Rattle.net.specs.Refusals.{accepted, node_number}
use Rattle.net.specs.Check.{Accepted, check_network, verdict, or_else, refused_if}
use Rattle.std.specs.Prelude.{Err}
use Rattle.net.specs.Told.{verdict_of}
use Rattle.net.specs.declared.refusal.PlacedRefusal.{PlacedRefusal}
use Rattle.net.proofs.Told.{number_refuses}
use Rattle.net.specs.Verdict.{Verdict}
use Rattle.net.proofs.Verdicts.{or_else_second, first_accepted}
use Rattle.net.proofs.Accepted.{check_accepts, accepts_check}
use Rattle.graph.specs.Path.{All}
use Rattle.net.specs.Entry.{EntryByte}
use Rattle.net.specs.Rows.{Rows, network_of}
use Rattle.paths.specs.Best.{best_path_verdict, best_path_told, Measures, BestPathAnswer}

abbrev pub number : Verdict → ℕ
number v = v.number

abbrev pub place : Verdict → ℕ
place v = v.place

module _ (R : Rows) (s d : ℕ) where
  open R use {nodes as n}

  module _ (passed : (check_network R).number ≡ accepted) where
    own : best_path_verdict R s d ≡ or_else (refused_if (leb n s) node_number) (refused_if (leb n d) node_number)
    unfolding best_path_verdict
    own = or_else_second _ _ passed

    pub source_refused : n ≤ s → best_path_verdict R s d ≡ verdict node_number
    unfolding or_else refused_if
    source_refused h = own ∙ simp (le-leb n s h)

    pub destination_refused : s < n → n ≤ d → best_path_verdict R s d ≡ verdict node_number
    unfolding or_else refused_if
    destination_refused h l = own ∙ simp (lt-leb n s h, le-leb n d l)

    pub nothing_refused : s < n → d < n → best_path_verdict R s d ≡ check_network R
    unfolding or_else refused_if
    nothing_refused h l = own ∙ simp (lt-leb n s h, lt-leb n d l) (sym (accepts_check R (check_accepts R passed)))

  -- what number 0 tells
  pub record Passed : Type 0 where
    pub network : Accepted R
    pub source : s < n
    pub destination : d < n

  pub passed : (best_path_verdict R s d).number ≡ accepted → Passed
  unfolding best_path_verdict
  passed e =
      let first = first_accepted (check_network R) _ e in
      let refused : (v : Verdict) → best_path_verdict R s d ≡ v → v.number ≡ node_number → ⊥ =
      λ v q r. (let z : accepted ≡ node_number = sym e ∙ ap number q ∙ r in omega arith) in
      let source : s < n = elim (dec_lt s n) [ yes h ↦ h | no h ↦ absurd (refused _ (source_refused first (omega arith)) refl) ] in
      let destination : d < n =
      elim (dec_lt d n) [ yes h ↦ h | no h ↦ absurd (refused _ (destination_refused first source (omega arith)) refl) ] in
      record { network = check_accepts R first; source = source; destination = destination }

  -- an answer after no refusal
  pub answered : (best_path_verdict R s d).number ≡ accepted → {sum set byte : ℕ}
      → Measures (network_of R) s d sum set → EntryByte (network_of R) All s d byte
      → BestPathAnswer R s d (record { number = accepted; place = 0; sum = sum; links = set; entry = byte })
  answered e measures routing =
      let at = passed e in
      let same : best_path_verdict R s d ≡ verdict accepted =
      nothing_refused (ap number (accepts_check R at.network)) at.source at.destination ∙ accepts_check R at.network in
      record {
        number = sym (ap number same);
        place = sym (ap place same);
        refused = λ n. absurd (n refl);
        measures = λ q. measures;
        routing = λ q. routing;
      }

  -- an answer that tells the refusal
  pub answered_refused : (refused : PlacedRefusal) → verdict_of refused ≡ best_path_verdict R s d
      → BestPathAnswer R s d (best_path_told (Err refused))
  answered_refused refused e =
      record {
        number = ap number e;
        place = ap place e;
        refused = λ n. (refl, refl, refl);
        measures = λ q. absurd (number_refuses refused.refusal q);
        routing = λ q. absurd (number_refuses refused.refusal q);
      }
