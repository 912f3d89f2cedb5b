-- One verdict and one branch. Where nothing is refused, network, question and tables are as the walk asks, and what it made is the answer.
use Prim.Native.Nat.{ℕ}
use mathlib.Core.Path.{◌≡◌, refl, sym, ap, subst, ◌∙◌}
use mathlib.Core.List.{List}
use lib.ListN.{length}
use Rattle.net.specs.Refusals.{accepted}
use Rattle.net.specs.Lent.{rows_lent}
use Rattle.net.specs.Rows.{Rows, network_of}
use Rattle.net.specs.declared.lent_rows.LentRows.{LentRows}
use Rattle.net.specs.Verdict.{Verdict}
use Rattle.tables.specs.Lent.{LentTables, tables_lent}
use Rattle.tables.specs.declared.lent.Tables.{Tables}
use Rattle.walk.specs.Lent.{lent_verdict}
use Rattle.walk.specs.Walk.{walk_number, walk_verdict, course_of, walked_told}
use Rattle.walk.specs.inner.Moves.{Setting, WentFrom}
use Rattle.walk.specs.declared.question.Question.{Question}
use Rattle.walk.specs.declared.walked.Walked.{Walked}
use Rattle.net.proofs.Told.{number_refuses}
use Rattle.walk.proofs.Told.{handed}
use Rattle.walk.proofs.Asking.{walk_source, walk_destination}
use Rattle.walk.proofs.Verdicts.{question_taken, walk_refused, trace_kept, walk_lent, walk_room}
use Rattle.walk.proofs.Verdicts.{walk_made, trace_made}
use Rattle.walk.proofs.walks.walk.Goals as goal

-- where nothing is refused, all is known that a walk asks
setting : (R : Rows) (T : LentTables) (s : ℕ) (question : Question) (limit : ℕ) (trace : List ℕ) {v : Verdict}
    → v ≡ walk_verdict R T s question limit trace → v.number ≡ accepted → Setting R s question limit trace
setting R T s question limit trace judged free =
    let lent : (lent_verdict R T (walk_number R.nodes (length R.low) s question)).number ≡ accepted =
    walk_lent R T s question limit trace judged free in
    let taken : walk_number R.nodes (length R.low) s question ≡ accepted = question_taken R T _ refl lent in
    record {
      source = walk_source _ _ _ question taken;
      destination = walk_destination _ _ _ question taken;
      room = walk_room R T s question limit trace judged free;
    }

-- what is known beside the rows lent is known beside the checked network, and the walk over the checked tables is that over what was lent
setting_same : {network lent : LentRows} → network ≡ lent → {s limit : ℕ} {question : Question} {trace : List ℕ}
    → Setting (rows_lent lent) s question limit trace → Setting (rows_lent network) s question limit trace
setting_same same {s} {limit} {question} {trace} = subst (λ (rows : LentRows). Setting (rows_lent rows) s question limit trace) (sym same)

went_same : {network lent : LentRows} {tables tables_given : Tables} → network ≡ lent → tables ≡ tables_given
    → (question : Question) (limit : ℕ) {s : ℕ} {trace after : List ℕ} {r : Walked}
    → WentFrom (network_of (rows_lent network)) s (course_of (rows_lent network) (tables_lent tables) s question limit) trace r after
    → WentFrom (network_of (rows_lent lent)) s (course_of (rows_lent lent) (tables_lent tables_given) s question limit) trace r after
went_same same_network same_tables question limit {s} {trace} {after} {r} =
    subst
    (λ (x : LentRows × Tables). WentFrom (network_of (rows_lent x.0)) s (course_of (rows_lent x.0) (tables_lent x.1) s question limit) trace r after)
    (λ t. (same_network t, same_tables t))

pub returns-in_err-checked-clause-value : goal.returns-in_err-checked-clause-value
returns-in_err-checked-clause-value c =
    ap walked_told (handed _ _ c.from_residual.ensures.1)
    ∙ walk_refused _ _ _ _ _ _ c.in_err-checked.ensures.refusal (number_refuses c.in_err-checked.field-0.0.refusal)

pub returns-in_err-checked-clause-trace_after : goal.returns-in_err-checked-clause-trace_after
returns-in_err-checked-clause-trace_after c =
    trace_kept _ _ _ _ _ _ c.in_err-checked.ensures.refusal (number_refuses c.in_err-checked.field-0.0.refusal)

pub walk_from-walked-requires : goal.walk_from-walked-requires
walk_from-walked-requires c =
    setting_same c.in_ok-checked.ensures.same_network
    (setting _ _ _ _ _ _ c.in_ok-checked.ensures.refusal refl)

pub returns-clause-value : goal.returns-clause-value
returns-clause-value c =
    walk_made _ _ _ _ _ _ c.in_ok-checked.ensures.refusal refl
    (went_same c.in_ok-checked.ensures.same_network c.in_ok-checked.ensures.same_tables _ _ c.walk_from-walked.ensures)

pub returns-clause-trace_after : goal.returns-clause-trace_after
returns-clause-trace_after c =
    trace_made _ _ _ _ _ _ c.in_ok-checked.ensures.refusal refl
    (went_same c.in_ok-checked.ensures.same_network c.in_ok-checked.ensures.same_tables _ _ c.walk_from-walked.ensures)
