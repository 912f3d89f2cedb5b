-- Demand 3 of `build_tables` and `walk` together: a walk over the tables that the builder leaves, with at most one failed link and a
-- limit and a trace that have room, is not refused and does what demand 3 says. The builder accepted the network and its tables were
-- long enough, and what it filled passes 16; so nothing is refused. The entries read are the papers' entries, so graph's theorem speaks
-- of the walk, and the answer's numbers tell its course.
use Prim.Native.Nat.{ℕ, ◌+◌, ◌*◌, ◌<◌, ◌≤◌}
use mathlib.Core.Bool.{Bool, true}
use mathlib.Core.Path.{◌≡◌, refl, sym, ap, subst, ◌∙◌}
use mathlib.Core.Logic.{inl, inr, ◌≢◌}
use mathlib.Core.List.{List, ◌++◌}
use mathlib.Core.Option.{Option, none, some}
use native.Mathlib.Decide.{ℕ_discrete}
use native.Mathlib.Omega.{arith}
use borrow.Author.Tests.{lt-leb}
use lib.ListN.{length, drop, length-map}
use Rattle.graph.specs.Network.{Network, head, link}
use Rattle.graph.specs.Path.{Over, Over.none as over_none, visits}
use Rattle.graph.specs.Walk.{Tables, failed_by, walk_of, Ending, delivered, unrouted, dropped, exhausted, Course}
use Rattle.graph.specs.Demand3.{Works, Demand3 as CourseDemand3}
use Rattle.graph.proofs.Demand3.{demand_3 as course_demand_3}
use Rattle.net.specs.Refusals.{accepted, table_length}
use Rattle.net.specs.Rows.{Rows, network_of}
use Rattle.net.specs.Check.{verdict, Accepted}
use Rattle.net.specs.Failure.{fails, failure_number}
use Rattle.net.specs.Verdict.{Verdict}
use Rattle.net.specs.declared.failure.Failure.{Failure}
use Rattle.net.specs.declared.failure.Failure.TheVariants.{Nothing as NoFailure, One}
use Rattle.net.proofs.Accepted.{check_accepts, well_formed}
use Rattle.net.proofs.Verdicts.{first_accepted, second_accepted, number_second, passed_test}
use Rattle.tables.specs.Lent.{LentTables, LongEnough}
use Rattle.tables.specs.Build.{build_verdict, Built, BuildAnswer}
use Rattle.tables.proofs.Lengths.{tables_long}
use Rattle.walk.specs.Lent.{tables_for}
use Rattle.walk.specs.Walk.{Walked, ending_number, walk_number, walk_verdict, course_of, walked_by, walk_answer, trace_after}
use Rattle.walk.specs.Demand3.{AtMostOne, Demand3}
use Rattle.walk.specs.declared.question.Question.{Question}
use Rattle.walk.proofs.Verdicts.{number_of, lent_accepted, walk_trace_taken}
use Rattle.walk.proofs.Built.{built_accepted, built_entries}

-- a failure as graph says it
failed_of : Failure → Option ℕ
failed_of NoFailure = none
failed_of (One l) = some l.0

fails_same : (failure : Failure) → failed_by (failed_of failure) ≡ fails failure
unfolding failed_of failed_by fails
fails_same NoFailure = refl
fails_same (One l) = refl

pub failure_fine : (links : ℕ) (failure : Failure) → AtMostOne links failure → failure_number links failure ≡ accepted
unfolding failure_number
failure_fine links NoFailure one = refl
failure_fine links (One l) one = simp (lt-leb links l.0 one)

-- an ending is delivered exactly if its number is
number_delivered : (e : Ending) → ending_number e ≡ ending_number delivered → e ≡ delivered
unfolding ending_number
number_delivered delivered q = refl
number_delivered unrouted q = absurd (omega arith)
number_delivered dropped q = absurd (omega arith)
number_delivered exhausted q = absurd (omega arith)

-- a walk's question that is taken
question_fine : (n links s : ℕ) (question : Question) → AtMostOne links question.failure → s < n → question.destination.0 < n
    → walk_number n links s question ≡ accepted
unfolding walk_number
question_fine n links s question one s_node d_node =
    number_second _ _ (failure_fine links question.failure one) ∙ simp (lt-leb n s s_node, lt-leb n question.destination.0 d_node)

-- what the builder's acceptance says of the network and of the tables' lengths
module _ {R : Rows} {before after : LentTables} {built : Verdict} (answer : BuildAnswer R before built after)
    (fine : built.number ≡ accepted) where
  all_fine : (build_verdict R before).number ≡ accepted
  all_fine = sym (ap number_of answer.verdict) ∙ fine

  pub filled : Built (network_of R) before after
  filled = answer.built fine

  pub built_network : Accepted R
  unfolding build_verdict
  built_network = check_accepts R (first_accepted _ _ all_fine)

  pub built_lengths : LongEnough R.nodes (length R.low) after
  unfolding build_verdict
  built_lengths =
      let long = tables_long (passed_test _ table_length (λ z. omega arith) (second_accepted _ _ all_fine)) in
      record {
        for_routing = rw filled.routes.same_length long.for_routing;
        for_forwarding = rw filled.forwards.same_length long.for_forwarding;
        for_backwarding = rw filled.backwards.same_length long.for_backwarding;
      }

  module _ (s : ℕ) (question : Question) (limit : ℕ) (s_node : s < R.nodes) (d_node : question.destination.0 < R.nodes) where
    nothing_refused : (trace : List ℕ) → AtMostOne (length R.low) question.failure → limit < length trace
        → verdict accepted ≡ walk_verdict R after s question limit trace
    nothing_refused trace one room =
        walk_trace_taken R after s question limit trace refl
        (lent_accepted R after _ built_network (question_fine _ _ s question one s_node d_node) built_lengths
        (built_accepted R built_network filled))
        room

    -- graph's theorem of that walk
    built_course : s ≢ question.destination.0 → 2 * R.nodes ≤ limit + 3
        → CourseDemand3 (network_of R) (failed_of question.failure) s question.destination.0 (course_of R after s question limit)
    unfolding course_of
    built_course apart enough =
        subst (λ (failed : ℕ → Bool). CourseDemand3 N failure s d (walk_of N failed T d limit s)) (fails_same question.failure)
        (course_demand_3 N (well_formed R built_network) T d (built_entries R built_network filled d d_node)
        failure s limit s_node d_node apart enough)
      where
        N : Network
        N = network_of R

        failure : Option ℕ
        failure = failed_of question.failure

        d : ℕ
        d = question.destination.0

        T : Tables
        T = tables_for R after d

-- what graph's demand 3 of a course says of an answer that tells it
module _ (N : Network) (failure : Failure) (s d : ℕ) (course : Course) (D : CourseDemand3 N (failed_of failure) s d course)
    (before : List ℕ) where
  abbrev answered : Walked
  answered = record { number = accepted; place = 0; ending = ending_number course.ending; hops = length course.crossed }

  as_fails : {p : List ℕ} → Over (Works (failed_by (failed_of failure))) p → Over (Works (fails failure)) p
  as_fails {p} over = subst (λ (failed : ℕ → Bool). Over (Works failed) p) (fails_same failure) over

  as_failed : {p : List ℕ} → Over (Works (fails failure)) p → Over (Works (failed_by (failed_of failure))) p
  as_failed {p} over = subst (λ (failed : ℕ → Bool). Over (Works failed) p) (sym (fails_same failure)) over

  each_works : Over (Works (fails failure)) course.crossed
  each_works =
      elim (ℕ_discrete (ending_number course.ending) (ending_number delivered)) [
        | yes e ↦ as_fails (D.arrived (number_delivered _ e)).works
        | no e ↦ elim (D.refused (λ q. e (ap ending_number q))) [
          | inl u ↦ rw u.stays over_none
          | inr q ↦ as_fails q.works
        ]
      ]

  -- source first, and a node for each link crossed
  nodes_visited : length (visits N s course.crossed) ≡ length course.crossed + 1
  unfolding visits
  nodes_visited = omega (arith, length-map course.crossed (head N))

  course_demand : (after : List ℕ) → after ≡ visits N s course.crossed ++ drop (length (visits N s course.crossed)) before
      → Demand3 N failure s d before answered after
  course_demand after left =
      record {
        number = refl;
        place = refl;
        crossed = course.crossed;
        works = each_works;
        hops = refl;
        trace = left ∙ ap (λ (k : ℕ). visits N s course.crossed ++ drop k before) nodes_visited;
        exactly = (
          λ e. (let (p, chain, over) = D.exactly.0 (number_delivered _ e) in (p, chain, as_fails over)),
          λ j. ap ending_number (D.exactly.1 (j.0, j.1, as_failed j.2)),
        );
        arrived = λ e.
            (let arrived = D.arrived (number_delivered _ e) in
            record { chain = arrived.chain; hops = arrived.hops; once = arrived.once });
        refused = λ e. elim (D.refused (λ q. e (ap ending_number q))) [
          | inl u ↦ inl (record {
            ending = ap ending_number u.ending;
            hops = ap length u.stays;
            no_chain = u.no_chain;
          })
          | inr q ↦ inr (record {
            ending = ap ending_number q.ending;
            meets = q.meets;
            failed = subst (λ (failed : ℕ → Bool). failed (link q.meets) ≡ true) (fails_same failure) q.failed;
            routed = q.routed;
            chain = q.chain;
            hops = q.hops;
          })
        ];
      }

-- demand 3
pub demand_3 : {R : Rows} {before after : LentTables} {built : Verdict} → BuildAnswer R before built after → built.number ≡ accepted
    → (failure : Failure) → AtMostOne (length R.low) failure
    → (s d limit : ℕ) (trace : List ℕ) → s < R.nodes → d < R.nodes → s ≢ d → 2 * R.nodes ≤ limit + 3 → limit < length trace
    → Demand3 (network_of R) failure s d trace
    (walk_answer R after s (record { destination = record { 0 = d }; failure = failure }) limit trace)
    (trace_after R after s (record { destination = record { 0 = d }; failure = failure }) limit trace)
unfolding walk_answer walked_by trace_after
demand_3 {R} {after = after} answer fine failure one s d limit trace s_node d_node apart enough room =
    rw (← nothing_refused answer fine s question limit s_node d_node trace one room)
    (course_demand (network_of R) failure s d (course_of R after s question limit)
    (built_course answer fine s question limit s_node d_node apart enough) trace _ refl)
  where
    question : Question
    question = record { destination = record { 0 = d }; failure = failure }
