-- The promise to the desk, of `build_tables`, `walk` and `step` together (document 02, L7). What is read in built tables are the papers'
-- entries, so graph's theorem speaks of them: on no arrival of a walk is the byte 255 (always_finds_an_entry), and a walk that ends with 2
-- stands at a failed link (dropped_at_a_failed_link), however many links have failed. A step asked on an arrival says that there is
-- nothing to follow exactly if no links at all, failed or not, join its node to the destination (nothing_to_follow): an arrival that no
-- walk makes. No walk over whatever tables answers an ending above 3 (four_endings).
use Prim.Native.Nat.{ℕ, ◌*◌, ◌<◌, ◌≤◌}
use mathlib.Core.Bool.{Bool, true, false}
use mathlib.Core.Path.{◌≡◌, refl, sym, ◌∙◌}
use mathlib.Core.Logic.{◌≢◌, ◌↔◌}
use mathlib.Core.List.{List}
use native.Mathlib.Decide.{ℕ_discrete}
use native.Mathlib.Omega.{arith}
use borrow.Author.Tests.{eq-eqb, ne_eqb, lt-leb}
use lib.ListN.{length}
use Rattle.graph.specs.Network.{Network, WellFormed, link, head}
use Rattle.graph.specs.Path.{Chain, stop, Each, none, both}
use Rattle.graph.specs.Entries.{Hop, here, onward, nowhere, ForwardingEntry, at_destination, starts, lacks}
use Rattle.graph.specs.Walk.{Tables, crosses, drops, around, step_by, Ending, delivered, unrouted, dropped, exhausted, Course}
use Rattle.graph.specs.Demand3.{BuiltEntries}
use Rattle.graph.specs.Arrival.{FindsEntries}
use Rattle.graph.proofs.Entries.{entry_one, no_chain_entry, forwarding_leads}
use Rattle.graph.proofs.Walk.{built_right}
use Rattle.graph.proofs.Moves.{without_path}
use Rattle.graph.proofs.Arrival.{always_finds, dropped_at_failed_link}
use Rattle.net.specs.Refusals.{accepted}
use Rattle.net.specs.Rows.{Rows, network_of}
use Rattle.net.specs.Failure.{fails}
use Rattle.net.specs.Verdict.{Verdict}
use Rattle.net.specs.declared.failure.Failure.{Failure}
use Rattle.net.specs.declared.interface.Interface.{Interface}
use Rattle.net.proofs.Accepted.{well_formed}
use Rattle.net.proofs.Rows.{interface_present}
use Rattle.net.proofs.Verdicts.{number_second}
use Rattle.tables.specs.Lent.{LentTables}
use Rattle.tables.specs.Build.{BuildAnswer}
use Rattle.walk.specs.Lent.{hop_at, tables_for}
use Rattle.walk.specs.Step.{Stepped, Refused, Delivered, NothingToFollow, Dropped, Next}
use Rattle.walk.specs.Step.{bad_interface, bad_start, step_number, told, decides, entry_read, step_at, step_of, step_answer}
use Rattle.walk.specs.Walk.{ending_number, course_under, walked_by, walk_answer}
use Rattle.walk.specs.Demand3.{AtMostOne}
use Rattle.walk.specs.Arrival.{FindsEntry, AlwaysFindsEntry, DroppedAtFailedLink}
use Rattle.walk.specs.declared.question.Question.{Question}
use Rattle.walk.specs.declared.steps.Asked.TheVariants.{Arrival}
use Rattle.walk.proofs.Verdicts.{lent_accepted, step_taken}
use Rattle.walk.proofs.Stepping.{step_lost}
use Rattle.walk.proofs.Built.{built_accepted, built_entries}
use Rattle.walk.proofs.Demand3Built.{failure_fine, filled, built_network, built_lengths}

-- no ending has a number above 3
ending_at_most : (e : Ending) → ending_number e ≤ 3
unfolding ending_number
ending_at_most delivered = omega arith
ending_at_most unrouted = omega arith
ending_at_most dropped = omega arith
ending_at_most exhausted = omega arith

told_at_most : (v : Verdict) (course : Course) → (walked_by v course).ending ≤ 3
unfolding walked_by
told_at_most v course =
    elim (ℕ_discrete v.number accepted) [
      | yes e ↦ rw (eq-eqb _ _ e) (ending_at_most course.ending)
      | no e ↦ rw (ne_eqb _ _ e) (omega arith)
    ]

-- "remove ending 4 from answers": over whatever tables, refused or not
pub four_endings : (R : Rows) (T : LentTables) (s : ℕ) (question : Question) (limit : ℕ) (trace : List ℕ)
    → (walk_answer R T s question limit trace).ending ≤ 3
unfolding walk_answer
four_endings R T s question limit trace = told_at_most _ _

-- a step that says something else than that there is nothing to follow
abbrev Follows : Stepped → Type 0
Follows (Refused number place) = Unit {0}
Follows Delivered = Unit {0}
Follows NothingToFollow = ⊥
Follows Dropped = Unit {0}
Follows (Next node interface) = Unit {0}

-- so does one whose entry leads over an interface: it crosses that one, or another, or drops the packet
module _ (R : Rows) (failed : ℕ → Bool) where
  around_follows : (entry : Hop) → Follows (told R (around failed entry))
  unfolding told around
  around_follows here = tt
  around_follows nowhere = tt
  around_follows (onward g) = by_failure (failed (link g))
    where
      by_failure : (b : Bool) → Follows (told R (elim b [ true ↦ drops | false ↦ crosses g ]))
      by_failure true = tt
      by_failure false = tt

  onward_follows : (backwarding : ℕ → Hop) (f : ℕ) → Follows (told R (step_by failed backwarding (onward f)))
  unfolding told step_by
  onward_follows backwarding f = by_failure (failed (link f))
    where
      by_failure : (b : Bool) → Follows (told R (elim b [ true ↦ around failed (backwarding f) | false ↦ crosses f ]))
      by_failure true = around_follows (backwarding f)
      by_failure false = tt

-- a step's question on an arrival that is taken
arrival_fine : (n links : ℕ) (h : Interface) (question : Question) → AtMostOne links question.failure → h.0 < 2 * links
    → question.destination.0 < n → step_number n links (Arrival h) question ≡ accepted
unfolding step_number bad_interface bad_start
arrival_fine n links h question one h_below d_node =
    rw (lt-leb (2 * links) h.0 h_below)
    (number_second _ _ (failure_fine links question.failure one) ∙ simp (lt-leb n question.destination.0 d_node))

-- what is read in built tables for a destination
module _ {R : Rows} {before after : LentTables} {built : Verdict} (answer : BuildAnswer R before built after)
    (fine : built.number ≡ accepted) (d : ℕ) (d_node : d < R.nodes) where
  abbrev N : Network
  N = network_of R

  abbrev T : Tables
  T = tables_for R after d

  W : WellFormed N
  W = well_formed R (built_network answer fine)

  entries : BuiltEntries N d T
  entries = built_entries R (built_network answer fine) (filled answer fine) d d_node

  -- the byte 255 is the entry that leads nowhere
  byte_found : (h : ℕ) → T.forwarding h ≢ nowhere → FindsEntry R after d h
  unfolding tables_for hop_at
  byte_found h leads is = leads (rw is)

  bytes_found : {crossed : List ℕ} → FindsEntries T crossed → Each (FindsEntry R after d) crossed
  bytes_found none = none
  bytes_found (both {x = h} found rest) = both (byte_found h found) (bytes_found rest)

  module _ (failed : ℕ → Bool) (s limit : ℕ) (s_node : s < R.nodes) where
    found : AlwaysFindsEntry failed R after s d limit
    found = bytes_found (always_finds N W d _ T (built_right entries) failed s limit s_node)

    stopped : (course_under failed R after s d limit).ending ≡ dropped → DroppedAtFailedLink failed R after s d limit
    stopped = dropped_at_failed_link N W d _ T (built_right entries) failed s limit s_node

  -- the step on arrival over interface h
  module _ (h : Interface) (failure : Failure) (one : AtMostOne (length R.low) failure) (h_below : h.0 < 2 * length R.low) where
    abbrev question : Question
    question = record { destination = record { 0 = d }; failure = failure }

    entry : ForwardingEntry N d h.0 (T.forwarding h.0)
    entry = entries.forwarding h.0 (interface_present R h.0 h_below)

    answered : step_at R after question (head N h.0) (T.forwarding h.0) ≡ step_answer R after (Arrival h) question
    unfolding step_of decides entry_read
    answered =
        step_taken R after (Arrival h) question refl
        (lent_accepted R after _ (built_network answer fine) (arrival_fine _ _ h question one h_below d_node) (built_lengths answer fine)
        (built_accepted R (built_network answer fine) (filled answer fine)))

    -- joined, it says something else
    joined_follows : {p : List ℕ} {e : Hop} → Chain N (head N h.0) p d → ForwardingEntry N d h.0 e
        → Follows (step_at R after question (head N h.0) e)
    unfolding step_at
    joined_follows c (at_destination at) = rw (eq-eqb _ _ at) tt
    joined_follows c (starts {f = f} away t) = rw (ne_eqb _ _ away) (onward_follows R (fails failure) T.backwarding f)
    joined_follows c (lacks away no_path) = absurd (forwarding_leads N W d h.0 c (lacks away no_path))

    -- not joined, it has no entry
    apart_nothing : ((p : List ℕ) → Chain N (head N h.0) p d → ⊥)
        → step_at R after question (head N h.0) (T.forwarding h.0) ≡ NothingToFollow
    apart_nothing apart =
        let away : head N h.0 ≢ d = λ at. apart _ (stop at) in
        rw (entry_one N W entry (no_chain_entry N W away (λ p c o. apart p c)))
        (sym (step_lost R after question (head N h.0) away without_path))

    exactly : (step_answer R after (Arrival h) question ≡ NothingToFollow) ↔ ((p : List ℕ) → Chain N (head N h.0) p d → ⊥)
    exactly = (
      λ is p c. rw (answered ∙ is) at (joined_follows c entry),
      λ apart. sym answered ∙ apart_nothing apart,
    )

-- "Over built tables, from any start, a packet that has arrived somewhere always finds an entry", whatever links have failed
pub always_finds_an_entry : {R : Rows} {before after : LentTables} {built : Verdict} → BuildAnswer R before built after
    → built.number ≡ accepted → (failed : ℕ → Bool) (s d limit : ℕ) → s < R.nodes → d < R.nodes
    → AlwaysFindsEntry failed R after s d limit
always_finds_an_entry answer fine failed s d limit s_node d_node = found answer fine d d_node failed s limit s_node

-- so ending 2 says of a walk over them what it always said
pub dropped_at_a_failed_link : {R : Rows} {before after : LentTables} {built : Verdict} → BuildAnswer R before built after
    → built.number ≡ accepted → (failed : ℕ → Bool) (s d limit : ℕ) → s < R.nodes → d < R.nodes
    → (course_under failed R after s d limit).ending ≡ dropped → DroppedAtFailedLink failed R after s d limit
dropped_at_a_failed_link answer fine failed s d limit s_node d_node = stopped answer fine d d_node failed s limit s_node

-- "A single step asked on an arrival that no walk makes still says that there is nothing to follow": exactly where no links join its node
-- to the destination
pub nothing_to_follow : {R : Rows} {before after : LentTables} {built : Verdict} → BuildAnswer R before built after
    → built.number ≡ accepted → (failure : Failure) → AtMostOne (length R.low) failure
    → (h : Interface) (d : ℕ) → h.0 < 2 * length R.low → d < R.nodes
    → (step_answer R after (Arrival h) (record { destination = record { 0 = d }; failure = failure }) ≡ NothingToFollow)
    ↔ ((p : List ℕ) → Chain (network_of R) (head (network_of R) h.0) p d → ⊥)
nothing_to_follow answer fine failure one h d h_below d_node = exactly answer fine d d_node h failure one h_below
