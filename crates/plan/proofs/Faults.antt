-- The reader's refusals are the faults of the stored plan, each given exactly on its fault, and the plans of accepted networks are the
-- bytes that it accepts. The argument: on each fault, and on each plan, the reading is computed (`fault_reads`, `plan_reads`, from how far
-- the reader comes over what has passed); and every list of bytes is one of the two (`plan_or_fault`: number after number, as each begins
-- with a stored number, or is too short for one, or is malformed). As the answers differ, each is given in its own case only.
use Prim.Native.Nat.{ℕ, zero, suc, ◌+◌, ◌-◌, ◌≤◌, ◌<◌}
use mathlib.Core.Path.{◌≡◌, refl, sym, ap, ◌∙◌}
use mathlib.Core.Logic.{◌⊎◌, inl, inr, ◌≢◌, ◌↔◌}
use mathlib.Core.List.{List, [], ◌∷◌, ◌++◌, append_assoc, append-nil}
use native.Mathlib.Decide.{ℕ_discrete, dec_lt}
use native.Mathlib.Omega.{arith}
use lib.ListN.{length, length-append}
use Rattle.net.specs.Limits.{most_nodes, most_links}
use Rattle.net.specs.Refusals.{accepted, link_ends, link_order, link_weight, bytes_left}
use Rattle.net.specs.Rows.{Rows}
use Rattle.net.specs.Check.{Joins, Accepted}
use Rattle.net.proofs.Tests.{holds, fails, count_tells, weight_tells, order_tells, twin_order_tells}
use Rattle.plan.specs.Number.{Refused as NoNumber, most_stored, stored, number_at}
use Rattle.plan.specs.Plan.{link_bytes, links_bytes, plan_start, plan_of}
use Rattle.plan.specs.Reader.{Reading, refusal, read_plan}
use Rattle.plan.specs.Fault.{Bytes, Passed, LinkDue, Follows, TwinFollows, EndsPass, Due, Fault, acceptance, IsPlan}
use Rattle.plan.proofs.Stored.{Begins, begins, short_refuses, malformed_refuses, bytes_after, some_length, some_group}
use Rattle.plan.proofs.LinkPasses.{passes_more, bytes_more}
use Rattle.plan.proofs.Reached.{number_in, cut_after, nodes_pass, reaches_end, link_refused, last_link}
use Rattle.plan.proofs.Reached.{at_difference, reaches_difference, at_weight, reaches_weight}
use Rattle.plan.proofs.Readings as laws

-- a number that is due and refused ends the reading
due_refuses : {passed : List ℕ} → Due passed → (s rest : List ℕ) (number place : ℕ) → s ≡ passed ++ rest
    → number_at s (length passed) ≡ NoNumber number place → read_plan s ≡ refusal number place
due_refuses Due.for_nodes s rest number place cut e = laws.node_count_unread s refl number place e
due_refuses (Due.for_links {n} some few) s rest number place cut e =
    nodes_pass s rest _ some few cut ∙ laws.link_count_unread s n _ refl number place e
due_refuses (Due.for_low {R} due) s rest number place cut e =
    link_refused due s rest number place cut (laws.low_unread s R.nodes _ (last_link R) refl number place e)
due_refuses (Due.for_difference {m} {low} {R} due node) s rest number place cut e =
    let whole : s ≡ plan_start m R ++ (stored low ++ rest) = simp append_assoc at cut in
    link_refused due s (stored low ++ rest) number place whole
    (reaches_difference due s low rest node whole ∙ laws.difference_unread s R.nodes _ _ low _ refl number place e)
due_refuses (Due.for_weight {m} {low} {difference} {R} due pass) s rest number place cut e =
    let whole : s ≡ plan_start m R ++ (stored low ++ (stored difference ++ rest)) = simp append_assoc at cut in
    link_refused due s (stored low ++ (stored difference ++ rest)) number place whole
    (reaches_weight due s low difference rest pass whole ∙ laws.weight_unread s _ _ low (low + difference) _ refl number place e)

-- An accepted network's plan has passed whole.
accepted_passed : {R : Rows} → Accepted R → Passed (length R.low) R
accepted_passed network = record { network = network; few_links = network.few_links; within = omega arith }

pub fault_reads : {s : List ℕ} {number place : ℕ} → Fault s number place → read_plan s ≡ refusal number place
unfolding plan_of
fault_reads (Fault.ends {passed} rest due unended few) =
    due_refuses due _ rest _ _ refl (short_refuses passed unended few)
fault_reads (Fault.malformed {passed} rest due form) = due_refuses due _ _ _ _ refl (malformed_refuses passed rest form)
fault_reads (Fault.nodes {v} rest fits bad) =
    let s = stored v ++ rest in
    laws.node_count_refused s refl v _ (number_in s [] rest v fits refl) (holds (count_tells v) bad)
fault_reads (Fault.links {n} {v} rest some few fits many) =
    let s = stored n ++ (stored v ++ rest) in
    nodes_pass s (stored v ++ rest) n some few refl
    ∙ laws.link_count_refused s n _ refl v _ (number_in s (stored n) rest v fits refl) many
fault_reads (Fault.low_end {m} {v} {R} rest due fits over) =
    let before = plan_start m R in
    let s = before ++ (stored v ++ rest) in
    link_refused due s (stored v ++ rest) link_ends (length before) refl
    (laws.low_refused s R.nodes _ _ refl v _ (number_in s before rest v fits refl) over)
fault_reads (Fault.high_end {m} {low} {v} {R} rest due node fits bad) =
    let before = plan_start m R in
    let s = before ++ (stored low ++ (stored v ++ rest)) in
    let here = at_difference due s low (stored v ++ rest) node refl in
    link_refused due s (stored low ++ (stored v ++ rest)) link_ends (length (before ++ stored low)) refl
    (reaches_difference due s low (stored v ++ rest) node refl
    ∙ laws.high_refused s R.nodes _ _ low _ refl v _ (number_in s (before ++ stored low) rest v fits here) bad)
fault_reads (Fault.order {m} {low} {difference} {R} rest due some node descending) =
    let before = plan_start m R in
    let s = before ++ (stored low ++ (stored difference ++ rest)) in
    let few = due.passed.network.few_nodes in
    let node_low : low < R.nodes = omega arith in
    let here = at_difference due s low (stored difference ++ rest) node_low refl in
    let test = holds (order_tells R (length R.low) low (low + difference)) descending in
    link_refused due s (stored low ++ (stored difference ++ rest)) link_order (length before) refl
    (reaches_difference due s low (stored difference ++ rest) node_low refl
    ∙ laws.order_refused s R.nodes _ _ low _ refl difference _
    (number_in s (before ++ stored low) rest difference (omega arith) here) (λ none. omega arith) node test)
fault_reads (Fault.weighs {m} {low} {difference} {v} {R} rest due pass fits bad) =
    let before = plan_start m R in
    let s = before ++ (stored low ++ (stored difference ++ (stored v ++ rest))) in
    let here = at_weight due s low difference (stored v ++ rest) pass refl in
    link_refused due s (stored low ++ (stored difference ++ (stored v ++ rest))) link_weight
    (length (before ++ (stored low ++ stored difference))) refl
    (reaches_weight due s low difference (stored v ++ rest) pass refl
    ∙ laws.weight_refused s _ _ low (low + difference) _ refl v _
    (number_in s (before ++ (stored low ++ stored difference)) rest v fits here) (holds (weight_tells v) bad))
fault_reads (Fault.lighter {m} {low} {difference} {weight} {R} rest due pass some light lighter) =
    let before = plan_start m R in
    let s = before ++ (stored low ++ (stored difference ++ (stored weight ++ rest))) in
    let here = at_weight due s low difference (stored weight ++ rest) pass refl in
    link_refused due s (stored low ++ (stored difference ++ (stored weight ++ rest))) link_order (length before) refl
    (reaches_weight due s low difference (stored weight ++ rest) pass refl
    ∙ laws.twin_refused s _ _ low (low + difference) _ refl weight _
    (number_in s (before ++ (stored low ++ stored difference)) rest weight (omega arith) here)
    (fails (weight_tells weight) (some, light)) (holds (twin_order_tells R (length R.low) low (low + difference) weight) lighter))
fault_reads (Fault.has_bytes_left {R} rest network some) =
    reaches_end (accepted_passed network) (plan_of R ++ rest) rest refl
    ∙ laws.has_bytes_left _ (length R.low) _ _ (length R.low) _ refl (simp length-append (omega (arith, some_length rest some)))

pub plan_reads : {R : Rows} → Accepted R → read_plan (plan_of R) ≡ acceptance R
unfolding plan_of
plan_reads {R} network =
    let s = plan_of R in
    reaches_end (accepted_passed network) s [] (sym (append-nil s))
    ∙ laws.all_read s (length R.low) _ _ (length R.low) _ refl (omega arith)

-- the refusal numbers of the faults
fault_number : {s : List ℕ} {number place : ℕ} → Fault s number place → (accepted < number) × (number ≤ bytes_left)
fault_number (Fault.ends rest due unended few) = omega arith
fault_number (Fault.malformed rest due form) = omega arith
fault_number (Fault.nodes rest fits bad) = omega arith
fault_number (Fault.links rest some few fits many) = omega arith
fault_number (Fault.low_end rest due fits over) = omega arith
fault_number (Fault.high_end rest due node fits bad) = omega arith
fault_number (Fault.order rest due some node descending) = omega arith
fault_number (Fault.weighs rest due pass fits bad) = omega arith
fault_number (Fault.lighter rest due pass some light lighter) = omega arith
fault_number (Fault.has_bytes_left rest network some) = omega arith

-- The bytes have a fault.
pub record Faulty (s : List ℕ) : Type 0 where
  pub number : ℕ
  pub place : ℕ
  pub fault : Fault s number place
  pub refused : number ≢ accepted

abbrev Outcome : List ℕ → Type 0
Outcome s = IsPlan s ⊎ Faulty s

faulty : {s t : List ℕ} {number place : ℕ} → s ≡ t → Fault t number place → Outcome s
faulty {number} {place} cut fault =
    inr (record { number = number; place = place; fault = rw cut fault; refused = omega (arith, fault_number fault) })

-- A number is due: it is stored there and the reading goes on, or there is a fault.
next_number : {passed : List ℕ} → Due passed → (s rest : List ℕ) → s ≡ passed ++ rest → Bytes rest
    → ((v : ℕ) (more : List ℕ) → v < most_stored → s ≡ passed ++ (stored v ++ more) → Bytes more → Outcome s) → Outcome s
next_number {passed} due s rest cut bytes moves_on =
    elim (begins bytes) [
      | Begins.whole v more fits e ↦
          moves_on v more fits (cut ∙ ap (λ (t : List ℕ). passed ++ t) e) (bytes_after (stored v) (rw e at bytes))
      | Begins.short unended few ↦ faulty cut (Fault.ends rest due unended few)
      | Begins.malformed more form e ↦ faulty (cut ∙ ap (λ (t : List ℕ). passed ++ t) e) (Fault.malformed more due form)
    ]

-- the last number of a link whose ends have passed
weight_outcome : {m : ℕ} {R : Rows} (due : LinkDue m R) (low difference : ℕ) → EndsPass R low difference
    → (s rest : List ℕ) → s ≡ plan_start m R ++ (stored low ++ (stored difference ++ rest)) → Bytes rest
    → ((w : ℕ) (more : List ℕ) → Joins R.nodes low (low + difference) w → TwinFollows R low (low + difference) w
    → s ≡ plan_start m R ++ (link_bytes low (low + difference) w ++ more) → Bytes more → Outcome s)
    → Outcome s
unfolding link_bytes
weight_outcome {m} {R} due low difference pass s rest cut bytes moves_on =
    next_number (Due.for_weight due pass) s rest (simp append_assoc cut) bytes
    (λ w more fits at_weight has_bytes_left.
    let whole : s ≡ plan_start m R ++ (stored low ++ (stored difference ++ (stored w ++ more))) = simp append_assoc at at_weight in
    elim (weight_tells w).answer [
      | inl bad ↦ faulty whole (Fault.weighs more due pass fits bad.1)
      | inr good ↦
          let some_weight = good.1.0 in
          let light = good.1.1 in
          elim (twin_order_tells R (length R.low) low (low + difference) w).answer [
            | inl lighter ↦ faulty whole (Fault.lighter more due pass some_weight light lighter.1)
            | inr follows ↦
                let back : low + difference - low ≡ difference = omega arith in
                let some = pass.some in
                moves_on w more (record { below = omega arith; node = pass.node; weighs = some_weight; light = light }) follows.1
                (rw back (simp append_assoc whole)) has_bytes_left
          ]
    ])

-- one link that is due, and the outcome of all links that are
link_outcome : {m : ℕ} {R : Rows} (due : LinkDue m R) (s rest : List ℕ) → s ≡ plan_start m R ++ rest → Bytes rest
    → ((l h w : ℕ) (more : List ℕ) → Joins R.nodes l h w → Follows R l h → TwinFollows R l h w
    → s ≡ plan_start m R ++ (link_bytes l h w ++ more) → Bytes more → Outcome s)
    → Outcome s
link_outcome {m} {R} due s rest cut bytes moves_on =
    next_number (Due.for_low due) s rest cut bytes
    (λ l after_low low_fits at_low bytes_low.
    elim (dec_lt l R.nodes) [
      | no over ↦ faulty at_low (Fault.low_end after_low due low_fits (omega arith))
      | yes node ↦
          next_number (Due.for_difference due node) s after_low (simp append_assoc at_low) bytes_low
          (λ e after_difference fits at_difference bytes_difference.
          let ends : s ≡ plan_start m R ++ (stored l ++ (stored e ++ after_difference)) = simp append_assoc at at_difference in
          elim (ℕ_discrete e 0) [
            | yes none ↦ faulty ends (Fault.high_end after_difference due node fits (inl none))
            | no some ↦
                elim (dec_lt (l + e) R.nodes) [
                  | no over ↦ faulty ends (Fault.high_end after_difference due node fits (inr (omega arith)))
                  | yes high_node ↦
                      elim (order_tells R (length R.low) l (l + e)).answer [
                        | inl descending ↦ faulty ends (Fault.order after_difference due (omega arith) high_node descending.1)
                        | inr follows ↦
                            weight_outcome due l e (record { some = omega arith; node = high_node; follows = follows.1 })
                            s after_difference ends bytes_difference
                            (λ w more joins twins at_next bytes_next.
                            moves_on l (l + e) w more joins follows.1 twins at_next bytes_next)
                      ]
                ]
          ])
    ])

last_outcome : {R : Rows} → Accepted R → (s rest : List ℕ) → s ≡ plan_of R ++ rest → Bytes rest → Outcome s
last_outcome {R} network s [] cut bytes = inl (record { rows = R; network = network; bytes = rw append-nil at cut })
last_outcome network s (b ∷ rest) cut bytes = faulty cut (Fault.has_bytes_left (b ∷ rest) network some_group)

links_outcome : (left : ℕ) {m : ℕ} {R : Rows} (passed : Passed m R) → length R.low + left ≡ m
    → (s rest : List ℕ) → s ≡ plan_start m R ++ rest → Bytes rest → Outcome s
unfolding plan_of
links_outcome zero {m} {R} passed all s rest cut bytes =
    let last : m ≡ length R.low = omega arith in
    last_outcome passed.network s rest (rw last at cut) bytes
links_outcome (suc left) {m} {R} passed all s rest cut bytes =
    let due : LinkDue m R = record { passed = passed; more = omega arith } in
    link_outcome due s rest cut bytes
    (λ l h w more joins follows twins at_next bytes_next.
    links_outcome left (passes_more due l h w joins follows twins) (simp length-append (omega arith)) s more
    (rw (bytes_more due l h w) (cut_after s (plan_start m R) more (link_bytes l h w) at_next)) bytes_next)

no_links_lem : (n m : ℕ) → 0 < n → n ≤ most_nodes → m ≤ most_links → Passed m (record { nodes = n; low = []; high = []; weight = [] })
no_links_lem n m some few few_links =
    record {
      network =
          record {
            high_row = refl;
            weight_row = refl;
            some_node = some;
            few_nodes = few;
            few_links = omega arith;
            joins = λ k within. absurd (omega arith);
            ascends = λ k within. absurd (omega arith);
            twins = λ k within. absurd (omega arith);
          };
      few_links = few_links;
      within = omega arith;
    }

pub plan_or_fault : {s : List ℕ} → Bytes s → IsPlan s ⊎ Faulty s
unfolding plan_start links_bytes
plan_or_fault {s} bytes =
    next_number Due.for_nodes s s refl bytes
    (λ n after_nodes fits at_nodes bytes_nodes.
    elim (count_tells n).answer [
      | inl bad ↦ faulty at_nodes (Fault.nodes after_nodes fits bad.1)
      | inr good ↦
          let some_node = good.1.0 in
          let few_nodes = good.1.1 in
          next_number (Due.for_links some_node few_nodes) s after_nodes at_nodes bytes_nodes
          (λ m after_count Fits-count at_count bytes_count.
          elim (dec_lt most_links m) [
            | yes too_many ↦ faulty at_count (Fault.links after_count some_node few_nodes Fits-count too_many)
            | no few_links ↦
                links_outcome m (no_links_lem n m some_node few_nodes (omega arith)) (omega arith) s after_count
                (simp (append-nil, append_assoc) at_count) bytes_count
          ])
    ])

abbrev number_of : Reading → ℕ
number_of reading = reading.number

abbrev place_of : Reading → ℕ
place_of reading = reading.place

pub plan_read : {s : List ℕ} (plan : IsPlan s) → read_plan s ≡ acceptance plan.rows
plan_read plan = ap read_plan plan.bytes ∙ plan_reads plan.network

-- The theorems, in the words of document 01: a number is given exactly on its fault, with the fault's place,
pub refused_exactly : {s : List ℕ} {number place : ℕ} → Bytes s → number ≢ accepted
    → (read_plan s ≡ refusal number place) ↔ Fault s number place
unfolding refusal
refused_exactly {s} {number} {place} bytes refused = (
  (λ read.
      elim (plan_or_fault bytes) [
        | inl plan ↦ absurd (refused (ap number_of (sym read ∙ plan_read plan)))
        | inr faulty ↦
            let same = sym (fault_reads faulty.fault) ∙ read in
            rw (ap number_of same, ap place_of same) at faulty.fault
      ]),
  fault_reads,
)

-- and a plan is accepted exactly if it is the plan of an accepted network.
pub accepted_exactly : {s : List ℕ} → Bytes s → ((read_plan s).number ≡ accepted) ↔ IsPlan s
unfolding refusal
accepted_exactly bytes = (
  (λ read.
      elim (plan_or_fault bytes) [
        | inl plan ↦ plan
        | inr faulty ↦ absurd (faulty.refused (sym (ap number_of (fault_reads faulty.fault)) ∙ read))
      ]),
  (λ plan. ap number_of (plan_read plan)),
)

-- A refused reading is its number and its place: its network is always the one-node network without links.
pub refused_whole : {s : List ℕ} → Bytes s → (read_plan s).number ≢ accepted → read_plan s ≡ refusal (read_plan s).number (read_plan s).place
unfolding refusal
refused_whole bytes refused =
    elim (plan_or_fault bytes) [
      | inl plan ↦ absurd (refused (ap number_of (plan_read plan)))
      | inr faulty ↦ rw (fault_reads faulty.fault)
    ]

-- There is at most one fault, with one place.
pub one_fault : {s : List ℕ} {number other place elsewhere : ℕ} → Fault s number place → Fault s other elsewhere
    → (number ≡ other) × (place ≡ elsewhere)
unfolding refusal
one_fault fault another =
    let same = sym (fault_reads fault) ∙ fault_reads another in
    (ap number_of same, ap place_of same)

-- The reader's numbers end with the eighth.
pub number_range : {s : List ℕ} → Bytes s → (read_plan s).number ≤ bytes_left
unfolding refusal
number_range bytes =
    elim (plan_or_fault bytes) [
      | inl plan ↦ omega (arith, ap number_of (plan_read plan))
      | inr faulty ↦ omega (arith, ap number_of (fault_reads faulty.fault), fault_number faulty.fault)
    ]
