-- The first bytes decide: as many as a plan can have, and one more, which shows that bytes are left. The argument: what has passed,
-- with the number that is due, takes at most `longest` bytes; so every fault of a longer input lies within them, and cutting off what
-- stands behind it keeps the fault.
use Prim.Native.Nat.{ℕ, suc, ◌+◌, ◌-◌, ◌≤◌, ◌<◌}
use mathlib.Core.Path.{◌≡◌, refl, sym, ap, ◌∙◌}
use mathlib.Core.Logic.{inl, inr, ◌≢◌}
use mathlib.Core.List.{List, [], ◌++◌, append_assoc}
use native.Mathlib.Omega.{arith}
use lib.ListN.{length, take, length-append, length-take}
use lib.Seq.{take-append-add}
use Rattle.net.specs.Rows.{Rows}
use Rattle.plan.specs.Number.{groups, stored}
use Rattle.plan.specs.Plan.{plan_start, plan_of, longest_link, longest}
use Rattle.plan.specs.Reader.{read_plan}
use Rattle.plan.specs.Fault.{Bytes, Malformed, LinkDue, Due, Fault}
use Rattle.plan.proofs.Lengths.{one_group, few_groups, start_short, plan_short}
use Rattle.plan.proofs.Faults.{fault_reads, plan_or_fault}

-- after what has passed there is room for the link that is due, and for the number that is
link_due_length : {m : ℕ} {R : Rows} → LinkDue m R → length (plan_start m R) + longest_link ≤ longest
link_due_length {m} due = omega (arith, due.more, due.passed.few_links, start_short due.passed.network m due.passed.few_links)

due_length : {passed : List ℕ} → Due passed → length passed + groups ≤ longest
due_length Due.for_nodes = omega arith
due_length (Due.for_links {n} some few) = omega (arith, one_group n (omega arith))
due_length (Due.for_low due) = omega (arith, link_due_length due)
due_length (Due.for_difference {low} due node) =
    let few = due.passed.network.few_nodes in
    simp length-append (omega (arith, link_due_length due, one_group low (omega arith)))
due_length (Due.for_weight {low} {difference} due pass) =
    let few = due.passed.network.few_nodes in
    simp length-append
    (omega (arith, link_due_length due, one_group low (omega (arith, pass)), one_group difference (omega (arith, pass))))

malformed_length : {number : List ℕ} → Malformed number → length number ≤ groups
malformed_length (Malformed.too_many unended all) = omega arith
malformed_length (Malformed.zero_group unended some few) = simp length-append (omega arith)

-- A fault that lies in the front of a longer input, with something behind it, is a fault of the first bytes.
first_bytes : {number place : ℕ} (s front rest : List ℕ) → s ≡ front ++ rest → length front ≤ longest → longest < length s
    → ((more : List ℕ) → more ≢ [] → Fault (front ++ more) number place) → Fault (take (suc longest) s) number place
first_bytes s front rest cut within long fault =
    let left : ℕ = suc longest - length front in
    let size : suc longest ≡ length front + left = omega arith in
    let kept : take (suc longest) s ≡ front ++ take left rest =
    ap (λ (k : ℕ). take k s) size ∙ rw cut (take-append-add front rest left) in
    let behind : length s ≡ length front + length rest = rw cut (length-append front rest) in
    rw kept (fault (take left rest) (λ none. omega (arith, length-take left rest, ap length none)))

-- so it is where the fault is in a number that is due
number_first : {number place : ℕ} {passed : List ℕ} → Due passed → (s bytes rest : List ℕ) → s ≡ (passed ++ bytes) ++ rest
    → length bytes ≤ groups → longest < length s
    → ((more : List ℕ) → Fault ((passed ++ bytes) ++ more) number place) → Fault (take (suc longest) s) number place
number_first {passed} due s bytes rest cut few long fault =
    first_bytes s (passed ++ bytes) rest cut (rw length-append (omega (arith, due_length due))) long (λ more _. fault more)

fault_first : {s : List ℕ} {number place : ℕ} → Fault s number place → longest < length s → Fault (take (suc longest) s) number place
fault_first (Fault.ends {passed} rest due unended few) long = absurd (omega (arith, due_length due, length-append passed rest))
fault_first (Fault.malformed {passed} {number} rest due form) long =
    number_first due (passed ++ (number ++ rest)) number rest (simp append_assoc) (malformed_length form) long
    (λ more. simp append_assoc (Fault.malformed more due form))
fault_first (Fault.nodes {v} rest fits bad) long =
    number_first Due.for_nodes (stored v ++ rest) (stored v) rest refl (few_groups v) long (λ more. Fault.nodes more fits bad)
fault_first (Fault.links {n} {v} rest some few fits many) long =
    number_first (Due.for_links some few) (stored n ++ (stored v ++ rest)) (stored v) rest (simp append_assoc) (few_groups v) long
    (λ more. simp append_assoc (Fault.links more some few fits many))
fault_first (Fault.low_end {m} {v} {R} rest due fits over) long =
    number_first (Due.for_low due) (plan_start m R ++ (stored v ++ rest)) (stored v) rest (simp append_assoc) (few_groups v) long
    (λ more. simp append_assoc (Fault.low_end more due fits over))
fault_first (Fault.high_end {m} {low} {v} {R} rest due node fits bad) long =
    number_first (Due.for_difference due node) (plan_start m R ++ (stored low ++ (stored v ++ rest))) (stored v) rest (simp append_assoc)
    (few_groups v) long (λ more. simp append_assoc (Fault.high_end more due node fits bad))
fault_first (Fault.order {m} {low} {difference} {R} rest due some node descending) long =
    let node_low : low < R.nodes = omega arith in
    number_first (Due.for_difference due node_low) (plan_start m R ++ (stored low ++ (stored difference ++ rest))) (stored difference) rest
    (simp append_assoc) (few_groups difference) long (λ more. simp append_assoc (Fault.order more due some node descending))
fault_first (Fault.weighs {m} {low} {difference} {v} {R} rest due pass fits bad) long =
    number_first (Due.for_weight due pass) (plan_start m R ++ (stored low ++ (stored difference ++ (stored v ++ rest)))) (stored v) rest
    (simp append_assoc) (few_groups v) long (λ more. simp append_assoc (Fault.weighs more due pass fits bad))
fault_first (Fault.lighter {m} {low} {difference} {weight} {R} rest due pass some light lighter) long =
    number_first (Due.for_weight due pass) (plan_start m R ++ (stored low ++ (stored difference ++ (stored weight ++ rest)))) (stored weight)
    rest (simp append_assoc) (few_groups weight) long (λ more. simp append_assoc (Fault.lighter more due pass some light lighter))
fault_first (Fault.has_bytes_left {R} rest network some) long =
    first_bytes (plan_of R ++ rest) (plan_of R) rest refl (plan_short network) long
    (λ more some_more. Fault.has_bytes_left more network some_more)

pub reads_first : {s : List ℕ} → Bytes s → longest < length s → read_plan s ≡ read_plan (take (suc longest) s)
reads_first bytes long =
    elim (plan_or_fault bytes) [
      | inl plan ↦ absurd (omega (arith, plan_short plan.network, ap length plan.bytes))
      | inr faulty ↦ fault_reads faulty.fault ∙ sym (fault_reads (fault_first faulty.fault long))
    ]
