-- The refusals of every entry that reads tables, in the order of document 01: the network's, that of the question, then 14, 16, and of a
-- walk 15. The first that holds decides; where none does, the network is accepted, the question was taken and the tables are as long as
-- their rows.
use Prim.Native.Nat.{ℕ, ◌≤◌, ◌<◌}
use mathlib.Core.Bool.{Bool, true, false, not}
use mathlib.Core.Path.{◌≡◌, refl, sym, ap, ◌∙◌}
use mathlib.Core.Logic.{◌≢◌}
use mathlib.Core.List.{List}
use native.Mathlib.Decide.{ℕ_discrete}
use native.Mathlib.Omega.{arith}
use borrow.Author.Tests.{le-leb, lt-leb, leb-false, eq-eqb, ne_eqb}
use lib.ListN.{length}
use lib.Dec.{leb}
use Rattle.net.specs.Refusals.{accepted, table_length, table_entry, trace_length}
use Rattle.net.specs.Rows.{Rows, network_of}
use Rattle.net.specs.Check.{check_network, verdict, or_else, refused_if, Accepted}
use Rattle.net.specs.Verdict.{Verdict}
use Rattle.net.proofs.Accepted.{check_accepts, accepts_check}
use Rattle.net.proofs.Verdicts.{or_else_first, or_else_second, first_accepted, second_accepted, is_refused, not_refused, passed_test}
use Rattle.net.proofs.Overwrite.{over_start}
use Rattle.tables.specs.Lent.{LentTables, tables_short, LongEnough}
use Rattle.tables.proofs.Lengths.{tables_long, long_tables}
use Rattle.walk.specs.Lent.{tables_pass, tables_verdict, lent_verdict}
use Rattle.walk.specs.Step.{Refused, step_number, step_of, step_answer}
use Rattle.walk.specs.Walk.{ending_number, ending_named, walk_number, walk_verdict, course_of, walked_by, walk_answer, trace_after}
use Rattle.walk.specs.inner.Reading.{rows_checked, tables_checked, Ready}
use Rattle.walk.specs.inner.Moves.{WentFrom}
use Rattle.walk.specs.declared.checked.CheckedTables.{CheckedTables}
use Rattle.walk.specs.declared.walked.Walked.{Walked}
use Rattle.walk.specs.declared.question.Question.{Question}
use Rattle.walk.specs.declared.steps.Asked.{Asked}

abbrev pub number_of : Verdict → ℕ
number_of v = v.number

-- a verdict without a place is told by its number
abbrev Placeless : Verdict → Type 0
Placeless v = verdict v.number ≡ v

refused_if_placeless : (test : Bool) (number : ℕ) → Placeless (refused_if test number)
unfolding refused_if
refused_if_placeless true number = refl
refused_if_placeless false number = refl

or_else_placeless : (first second : Verdict) → Placeless first → Placeless second → Placeless (or_else first second)
or_else_placeless first second p q =
    elim (ℕ_discrete first.number accepted) [
      | yes e ↦ let is = or_else_second first second e in ap verdict (ap number_of is) ∙ q ∙ sym is
      | no other ↦ let is = or_else_first first second other in ap verdict (ap number_of is) ∙ p ∙ sym is
    ]

-- 14, then 16
module _ (R : Rows) (T : LentTables) where
  abbrev n : ℕ
  n = R.nodes

  abbrev links : ℕ
  links = length R.low

  pub lengths_refused : tables_short n links T ≡ true → verdict table_length ≡ tables_verdict R T
  unfolding tables_verdict
  lengths_refused short = sym (or_else_first _ _ refusal ∙ is_refused table_length short)
    where
      refusal : (refused_if (tables_short n links T) table_length).number ≡ accepted → ⊥
      refusal e = let z : table_length ≡ accepted = sym (ap number_of (is_refused table_length short)) ∙ e in omega arith

  module _ (long : tables_short n links T ≡ false) where
    by_entries : tables_verdict R T ≡ refused_if (not (tables_pass n R.low R.high T)) table_entry
    unfolding tables_verdict
    by_entries = or_else_second _ _ (ap number_of (not_refused table_length long))

    pub entries_refused : tables_pass n R.low R.high T ≡ false → verdict table_entry ≡ tables_verdict R T
    entries_refused e = sym (by_entries ∙ is_refused table_entry (rw e))

    pub tables_taken : tables_pass n R.low R.high T ≡ true → verdict accepted ≡ tables_verdict R T
    tables_taken e = sym (by_entries ∙ not_refused table_entry (rw e))

  pub tables_enough : (tables_verdict R T).number ≡ accepted → tables_short n links T ≡ false
  unfolding tables_verdict
  tables_enough e = passed_test _ table_length (λ z. omega arith) (first_accepted _ _ e)

  tables_fine : (tables_verdict R T).number ≡ accepted → LongEnough n links T
  tables_fine e = tables_long (tables_enough e)

  -- neither 14 nor 16 has a place
  tables_placeless : Placeless (tables_verdict R T)
  unfolding tables_verdict
  tables_placeless = or_else_placeless _ _ (refused_if_placeless _ _) (refused_if_placeless _ _)

  -- the network, the question, the tables
  module _ (question : ℕ) where
    module _ {network : Verdict} (checked : network ≡ check_network R) where
      pub network_refused : network.number ≢ accepted → network ≡ lent_verdict R T question
      unfolding lent_verdict
      network_refused h = sym (rw (← checked) (or_else_first network _ h))

      module _ (fine : network.number ≡ accepted) where
        pub question_refused : question ≢ accepted → verdict question ≡ lent_verdict R T question
        unfolding lent_verdict
        question_refused h = sym (rw (← checked) (or_else_second network _ fine ∙ or_else_first (verdict question) _ h))

        pub tables_decide : question ≡ accepted → tables_verdict R T ≡ lent_verdict R T question
        unfolding lent_verdict
        tables_decide e = sym (rw (← checked) (or_else_second network _ fine ∙ or_else_second (verdict question) _ e))

    network_first : (lent_verdict R T question).number ≡ accepted → (check_network R).number ≡ accepted
    unfolding lent_verdict
    network_first fine = first_accepted _ _ fine

    -- past the network no refusal has a place
    pub past_network : (check_network R).number ≡ accepted → {number : ℕ} → number ≡ (lent_verdict R T question).number
        → verdict number ≡ lent_verdict R T question
    unfolding lent_verdict
    past_network fine told =
        let is = or_else_second (check_network R) (or_else (verdict question) (tables_verdict R T)) fine in
        ap verdict (told ∙ ap number_of is) ∙ or_else_placeless (verdict question) _ refl tables_placeless ∙ sym is

    pub nothing_refused : accepted ≡ (lent_verdict R T question).number → verdict accepted ≡ lent_verdict R T question
    nothing_refused told = past_network (network_first (sym told)) told

    -- what is known where nothing is refused
    module _ {v : Verdict} (judged : v ≡ lent_verdict R T question) (fine : v.number ≡ accepted) where
      whole : (lent_verdict R T question).number ≡ accepted
      whole = sym (ap number_of judged) ∙ fine

      pub lent_network : Accepted R
      unfolding lent_verdict
      lent_network = check_accepts R (first_accepted _ _ whole)

      pub question_taken : question ≡ accepted
      unfolding lent_verdict
      question_taken = first_accepted (verdict question) _ (second_accepted (check_network R) _ whole)

      pub lent_long : LongEnough n links T
      unfolding lent_verdict
      lent_long = tables_fine (second_accepted (verdict question) _ (second_accepted (check_network R) _ whole))

    -- and the other way round
    pub lent_accepted : Accepted R → question ≡ accepted → LongEnough n links T → tables_pass n R.low R.high T ≡ true
        → (lent_verdict R T question).number ≡ accepted
    unfolding lent_verdict
    lent_accepted A e long pass =
        ap number_of (or_else_second (check_network R) _ (ap number_of (accepts_check R A)))
        ∙ ap number_of (or_else_second (verdict question) _ e)
        ∙ ap number_of (sym (tables_taken (long_tables long) pass))

-- checked tables are as a step or a walk asks
pub checked_ready : (checked : CheckedTables) → Ready (rows_checked checked) (tables_checked checked)
checked_ready checked = record { network = check_accepts _ checked.network.passed; long = tables_long checked.long }

-- a step's answer
module _ (R : Rows) (T : LentTables) (asked : Asked) (question : Question) {v : Verdict}
    (judged : v ≡ lent_verdict R T (step_number R.nodes (length R.low) asked question)) where
  pub step_refused : v.number ≢ accepted → Refused v.number v.place ≡ step_answer R T asked question
  unfolding step_answer
  step_refused h = rw (← judged, ne_eqb v.number accepted h)

  pub step_taken : v.number ≡ accepted → step_of R T asked question ≡ step_answer R T asked question
  unfolding step_answer
  step_taken h = rw (← judged, eq-eqb v.number accepted h)

-- a walk's: its verdict, its answer and the trace
module _ (R : Rows) (T : LentTables) (s : ℕ) (question : Question) (limit : ℕ) (trace : List ℕ) where
  module _ {lent : Verdict} (judged : lent ≡ lent_verdict R T (walk_number R.nodes (length R.low) s question)) where
    pub walk_lent_refused : lent.number ≢ accepted → lent ≡ walk_verdict R T s question limit trace
    unfolding walk_verdict
    walk_lent_refused h = sym (rw (← judged) (or_else_first lent _ h))

    module _ (fine : lent.number ≡ accepted) where
      by_trace : walk_verdict R T s question limit trace ≡ refused_if (leb (length trace) limit) trace_length
      unfolding walk_verdict
      by_trace = rw (← judged) (or_else_second lent _ fine)

      pub walk_trace_refused : length trace ≤ limit → verdict trace_length ≡ walk_verdict R T s question limit trace
      walk_trace_refused h = sym (by_trace ∙ is_refused trace_length (le-leb _ _ h))

      pub walk_trace_taken : limit < length trace → verdict accepted ≡ walk_verdict R T s question limit trace
      walk_trace_taken h = sym (by_trace ∙ not_refused trace_length (lt-leb _ _ h))

  module _ {v : Verdict} (judged : v ≡ walk_verdict R T s question limit trace) where
    pub walk_refused : v.number ≢ accepted
        → record { number = v.number; place = v.place; ending = 0; hops = 0 } ≡ walk_answer R T s question limit trace
    unfolding walk_answer walked_by
    walk_refused h = rw (← judged, ne_eqb v.number accepted h)

    pub trace_kept : v.number ≢ accepted → trace ≡ trace_after R T s question limit trace
    unfolding trace_after
    trace_kept h = rw (← judged, ne_eqb v.number accepted h)

    module _ (fine : v.number ≡ accepted) where
      whole_walk : (walk_verdict R T s question limit trace).number ≡ accepted
      whole_walk = sym (ap number_of judged) ∙ fine

      pub walk_lent : (lent_verdict R T (walk_number R.nodes (length R.low) s question)).number ≡ accepted
      unfolding walk_verdict
      walk_lent = first_accepted _ _ whole_walk

      pub walk_room : limit < length trace
      unfolding walk_verdict
      walk_room = leb-false (length trace) limit (passed_test _ trace_length (λ z. omega arith) (second_accepted _ _ whole_walk))

      -- the two promises of `walk`, from what it made
      module _ {r : Walked} {after : List ℕ} (went : WentFrom (network_of R) s (course_of R T s question limit) trace r after) where
        pub walk_made : record { number = accepted; place = 0; ending = ending_number (ending_named r.ending); hops = r.hops }
            ≡ walk_answer R T s question limit trace
        unfolding walk_answer walked_by
        walk_made = rw (eq-eqb _ accepted whole_walk, went.ending, went.hops)

        pub trace_made : after ≡ trace_after R T s question limit trace
        unfolding trace_after
        trace_made = rw (eq-eqb _ accepted whole_walk) (went.trace ∙ over_start trace _)
