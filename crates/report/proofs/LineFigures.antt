-- What the figures say. On each line delivered and dropped walks make n × (n - 1), since each walk counts for one of the two
-- (line_adds_up); so all lines together make (links + 1) × n × (n - 1) walks (walks_made). And over built tables, with at most one
-- failed link, delivered counts exactly the pairs of nodes that working links join (delivered_exactly), by demand 3 of each walk.
use Prim.Native.Nat.{ℕ, zero, suc, ◌+◌, ◌*◌, ◌-◌, ◌<◌}
use mathlib.Core.Bool.{Bool, true, false, true≢false}
use mathlib.Core.Path.{◌≡◌, refl, sym, ◌∙◌}
use mathlib.Core.Logic.{◌≢◌, ◌↔◌, inl, inr}
use mathlib.Core.List.{List}
use native.Mathlib.Decide.{ℕ_discrete}
use native.Mathlib.Nat.{suc-mul, add-mul}
use native.Mathlib.Omega.{arith}
use borrow.Author.Tests.{eq-eqb, ne_eqb}
use lib.ListN.{length, replicate, length-replicate}
use Rattle.graph.specs.Walk.{delivered, Course}
use Rattle.graph.proofs.Simple.{joined?}
use Rattle.net.specs.Limits.{report_hops}
use Rattle.net.specs.Refusals.{accepted}
use Rattle.net.specs.Rows.{Rows, network_of}
use Rattle.net.specs.Failure.{fails}
use Rattle.net.specs.Verdict.{Verdict}
use Rattle.net.specs.declared.failure.Failure.{Failure}
use Rattle.net.specs.declared.failure.Failure.TheVariants.{Nothing, One}
use Rattle.net.proofs.Accepted.{well_formed}
use Rattle.tables.specs.Lent.{LentTables}
use Rattle.tables.specs.Build.{BuildAnswer}
use Rattle.walk.specs.Lent.{lent_verdict}
use Rattle.walk.specs.Walk.{ending_number, walked_by, walk_answer}
use Rattle.walk.specs.Demand3.{AtMostOne, Joined}
use Rattle.walk.proofs.Demand3Built.{built_network, demand_3}
use Rattle.report.specs.Line.{sum_over_pairs, counts_delivered, line_over, line_of}
use Rattle.report.specs.Lines.{link_lines, lines_over, delivered_over, dropped_over, lines_held, lines_refused, lines_answer}
use Rattle.report.specs.inner.Counting.{course_at}
use Rattle.report.specs.declared.counting.Line.{Line}
use Rattle.report.proofs.Sums.{pairs_same, pairs_both, pairs_counted}
use Rattle.report.proofs.Walks.{counts, counts_one}

-- the lines of a report, each of which adds up, add up
lines_add_up : (each : ℕ) (line : Failure → Line) → ((failure : Failure) → (line failure).delivered + (line failure).dropped ≡ each)
    → (left k : ℕ) → delivered_over (link_lines left line k) + dropped_over (link_lines left line k) ≡ left * each
unfolding link_lines delivered_over dropped_over
lines_add_up each line adds zero k = omega arith
lines_add_up each line adds (suc left) k =
    omega (arith, adds (One (record { 0 = k })), lines_add_up each line adds left (suc k), suc-mul left each)

module _ (R : Rows) (T : LentTables) where
  -- "On each failure line delivered and dropped make n × (n - 1)", whatever the tables hold
  pub line_adds_up : (failure : Failure) → (line_of R T failure).delivered + (line_of R T failure).dropped ≡ R.nodes * (R.nodes - 1)
  unfolding line_of line_over
  line_adds_up failure =
      pairs_both _ _ _ ∙ pairs_same _ _ _ (λ s d s_node d_node apart. counts_one (course_at R T failure s d)) ∙ pairs_counted R.nodes

  -- the totals: walks made, and the two sums
  pub walks_add_up : (lines_answer R T).walks ≡ (lines_answer R T).delivered + (lines_answer R T).dropped
  unfolding lines_answer lines_held lines_refused
  walks_add_up =
      let number = (lent_verdict R T accepted).number in
      elim (ℕ_discrete number accepted) [ yes e ↦ rw (eq-eqb number accepted e) | no e ↦ rw (ne_eqb number accepted e) ]

  -- "every ordered pair of different nodes, without failure and for each failed link"
  pub walks_made : (lines_answer R T).number ≡ accepted → (lines_answer R T).walks ≡ (length R.low + 1) * (R.nodes * (R.nodes - 1))
  unfolding lines_answer lines_held lines_refused lines_over delivered_over dropped_over
  walks_made fine =
      let number = (lent_verdict R T accepted).number in
      let links = length R.low in
      let pairs = R.nodes * (R.nodes - 1) in
      elim (ℕ_discrete number accepted) [
        | yes e ↦ rw (eq-eqb number accepted e)
            (omega (arith, line_adds_up Nothing, lines_add_up pairs (line_of R T) line_adds_up links 0, add-mul links 1 pairs))
        | no e ↦ absurd (e (rw (ne_eqb number accepted e) at fine))
      ]

-- an answer that is not refused tells its course
told_ending : (v : Verdict) (course : Course) → (walked_by v course).number ≡ accepted
    → (walked_by v course).ending ≡ ending_number course.ending
unfolding walked_by
told_ending v course fine =
    elim (ℕ_discrete v.number accepted) [
      | yes e ↦ rw (eq-eqb v.number accepted e)
      | no e ↦ absurd (e (rw (ne_eqb v.number accepted e) at fine))
    ]

-- a course counts as delivered exactly if its ending has that number
counts_delivered_lem : (c : Course) → (counts_delivered c ≡ 1) ↔ (ending_number c.ending ≡ ending_number delivered)
counts_delivered_lem c =
    elim (counts c) [ inl w ↦ (λ q. w.number, λ q. w.one) | inr w ↦ (λ q. absurd (omega (arith, w.one)), λ q. absurd (w.number q)) ]

-- 1 for a pair that is joined, 0 for one that is not
unfoldable pub counts_joined : {P : Type 0} → Dec P → ℕ
counts_joined (yes joined) = 1
counts_joined (no apart) = 0

module _ {R : Rows} {before after : LentTables} {built : Verdict} (answer : BuildAnswer R before built after)
    (fine : built.number ≡ accepted) (failure : Failure) (one : AtMostOne (length R.low) failure) where
  -- the walk between two nodes over built tables counts as delivered exactly if a chain of working links joins them
  pub counts_exactly : (s d : ℕ) → s < R.nodes → d < R.nodes → s ≢ d
      → (counts_delivered (course_at R after failure s d) ≡ 1) ↔ Joined (network_of R) failure s d
  unfolding walk_answer
  counts_exactly s d s_node d_node apart =
      let trace : List ℕ = replicate (suc report_hops) 0 in
      let D = demand_3 answer fine failure one s d report_hops trace s_node d_node apart
      (omega (arith, (built_network answer fine).few_nodes)) (omega (arith, length-replicate {A = ℕ} (suc report_hops) 0)) in
      let course = course_at R after failure s d in
      let ending = told_ending _ course D.number in
      (λ e. D.exactly.0 (ending ∙ (counts_delivered_lem course).0 e), λ j. (counts_delivered_lem course).1 (sym ending ∙ D.exactly.1 j))

  -- delivered counts exactly the pairs that working links join, by whatever means one tells which those are
  pub delivered_exactly : (joined : (s d : ℕ) → Dec (Joined (network_of R) failure s d))
      → (line_of R after failure).delivered ≡ sum_over_pairs R.nodes (λ s d. counts_joined (joined s d))
  unfolding line_of line_over counts_joined
  delivered_exactly joined =
      pairs_same R.nodes _ _ (λ s d s_node d_node apart.
      counted (course_at R after failure s d) (counts_exactly s d s_node d_node (λ e. apart (sym e))) (joined s d))
    where
      counted : (c : Course) {P : Type 0} → (counts_delivered c ≡ 1) ↔ P → (decided : Dec P) → counts_delivered c ≡ counts_joined decided
      counted c exactly (yes j) = exactly.1 j
      counted c exactly (no n) =
          elim (ℕ_discrete (counts_delivered c) 1) [ yes e ↦ absurd (n (exactly.0 e)) | no e ↦ omega (arith, counts_one c) ]

  -- and it can be told
  pub joined_nodes? : (s d : ℕ) → Dec (Joined (network_of R) failure s d)
  joined_nodes? s d = joined? (network_of R) (well_formed R (built_network answer fine)) (λ k. works? (fails failure k)) s d
    where
      works? : (failed : Bool) → Dec (failed ≡ false)
      works? true = no true≢false
      works? false = yes refl
