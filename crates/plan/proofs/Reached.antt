-- How far the reader comes: over bytes that have passed it reads the counts and the links one after another, and stands at the next
-- number with the rows filled so far. The argument is an induction on the links passed; each link is its three numbers, and each
-- number is read as it was stored. The list is a variable with an equation that says where it is cut, so that nothing is regrouped.
use Prim.Native.Nat.{ℕ, zero, suc, ◌+◌, ◌-◌, ◌≤◌, ◌<◌}
use mathlib.Core.Bool.{false}
use mathlib.Core.Path.{◌≡◌, refl, sym, ap, ◌∙◌}
use mathlib.Core.List.{List, [], ◌++◌, append_assoc, append-nil}
use native.Mathlib.Nat.{zero-add, add-zero, sub-zero}
use native.Mathlib.Numerals.{add-one}
use native.Mathlib.Omega.{arith}
use lib.ListN.{length, get_or, take, set, replicate, length-append}
use lib.Seq.{append_snoc, set_at, take-suc, take-length, length-take-le}
use Rattle.net.specs.Limits.{most_nodes, most_links}
use Rattle.net.specs.Rows.{Rows}
use Rattle.net.specs.Check.{Joins, descends, lighter_twin, span_before}
use Rattle.net.specs.declared.check.Span.{Span}
use Rattle.net.proofs.Tests.{fails, count_tells, weight_tells, order_tells, twin_order_tells}
use Rattle.plan.specs.Number.{Value}
use Rattle.plan.specs.Reader.{Reading, LinkAt, Got, Refused}
use Rattle.plan.specs.Number.{most_stored, stored, number_at}
use Rattle.plan.specs.Plan.{link_bytes, link_bytes_at, links_bytes, plan_start}
use Rattle.plan.specs.Reader.{refusal, weight_at, difference_at, link_at, links_read, link_count_at, read_plan}
use Rattle.plan.specs.Fault.{Passed, LinkDue, EndsPass, padded}
use Rattle.plan.proofs.Stored.{number_reads}
use Rattle.plan.proofs.Readings as laws

-- a number of a list that is cut before and after it
module _ (s before rest : List ℕ) where
  pub number_in : (v : ℕ) → v < most_stored → s ≡ before ++ (stored v ++ rest)
      → number_at s (length before) ≡ Value v (length (before ++ stored v))
  number_in v fits cut = rw (cut, length-append before (stored v)) (number_reads v before rest fits)

  pub cut_after : (number : List ℕ) → s ≡ before ++ (number ++ rest) → s ≡ (before ++ number) ++ rest
  cut_after number cut = cut ∙ sym (append_assoc before number rest)

-- a whole link
link_passes : (s before rest : List ℕ) (n : ℕ) (link_before : Span) (low high weight : ℕ) → n ≤ most_nodes → Joins n low high weight
    → descends link_before low high ≡ false → lighter_twin link_before low high weight ≡ false
    → s ≡ before ++ (link_bytes low high weight ++ rest)
    → link_at s n (length before) link_before ≡ Got low high weight (length (before ++ link_bytes low high weight))
unfolding link_bytes
link_passes s before rest n link_before low high weight few joins in_order heavy_enough cut =
    let high_end : low + (high - low) ≡ high = omega arith in
    let at_low : s ≡ before ++ (stored low ++ (stored (high - low) ++ (stored weight ++ rest))) = simp append_assoc at cut in
    let at_difference = cut_after s before _ (stored low) at_low in
    let at_weight = cut_after s (before ++ stored low) _ (stored (high - low)) at_difference in
    let after_low =
    laws.low_read s n (length before) link_before refl low _ (number_in s before _ low (omega arith) at_low) (omega arith) in
    let after_difference =
    laws.difference_read s n (length before) (length (before ++ stored low)) low link_before refl (high - low) _
    (number_in s (before ++ stored low) _ (high - low) (omega arith) at_difference) (omega arith) (omega arith) (rw high_end in_order) in
    let after_weight =
    laws.weight_read s (length before) _ low (low + (high - low)) link_before refl weight _
    (number_in s ((before ++ stored low) ++ stored (high - low)) rest weight (omega arith) at_weight)
    (fails (weight_tells weight) (joins.weighs, joins.light)) (rw high_end heavy_enough) in
    after_low ∙ after_difference ∙ after_weight ∙ simp (high_end, append_assoc)

-- a row with its first k places filled
unfoldable pub filled : ℕ → List ℕ → List ℕ
filled k row = take k row ++ replicate (most_links - k) 0

fills : (row : List ℕ) (k : ℕ) → k < length row → k < most_links → set (filled k row) k (get_or row k 0) ≡ filled (suc k) row
unfolding filled
fills row k within few =
    let left : most_links - k ≡ suc (most_links - suc k) = omega arith in
    let filled_so_far = length-take-le k row (omega arith) in
    rw (left, take-suc row k 0 within, append_snoc (take k row) (get_or row k 0) (replicate (most_links - suc k) 0))
    (set_at (take k row) 0 (replicate (most_links - suc k) 0) (get_or row k 0) k filled_so_far)

-- the links' bytes, link by link from the end
pub one_more_link : (R : Rows) (left k : ℕ) → links_bytes (suc left) R k ≡ links_bytes left R k ++ link_bytes_at R (k + left)
unfolding links_bytes
one_more_link R zero k = simp (append-nil, add-zero)
one_more_link R (suc left) k =
    let place : suc k + left ≡ k + suc left = omega arith in
    rw (append_assoc, ← place) (ap (λ (t : List ℕ). link_bytes_at R k ++ t) (one_more_link R left (suc k)))

-- the counts
pub nodes_pass : (s rest : List ℕ) (n : ℕ) → 0 < n → n ≤ most_nodes → s ≡ stored n ++ rest → read_plan s ≡ link_count_at s n (length (stored n))
nodes_pass s rest n some few cut =
    laws.node_count_read s refl n _ (number_in s [] rest n (omega arith) cut) (fails (count_tells n) (some, few))

-- the last link, which the next one is compared with
abbrev pub last_link : Rows → Span
last_link R = span_before R (length R.low)

-- The links: the reading of a list that begins with bytes that have passed is the reading that stands after them.
module _ {m : ℕ} {R : Rows} (passed : Passed m R) where
  open R use {nodes as n, low, high, weight}

  -- the bytes up to link k
  abbrev bytes_to : ℕ → List ℕ
  bytes_to k = stored n ++ (stored m ++ links_bytes k R 0)

  -- the rows with the links before link k
  abbrev rows_to : ℕ → Rows
  rows_to k = record { nodes = n; low = filled k low; high = filled k high; weight = filled k weight }

  -- a link that has passed does so after the one before it
  in_order : (k : ℕ) → k < length low → descends (span_before R k) (get_or low k 0) (get_or high k 0) ≡ false
  in_order k within = fails (order_tells R k _ _) (λ j e. rw (sym e) (passed.network.ascends j (omega arith)))

  heavy_enough : (k : ℕ) → k < length low → lighter_twin (span_before R k) (get_or low k 0) (get_or high k 0) (get_or weight k 0) ≡ false
  heavy_enough k within = fails (twin_order_tells R k _ _ _) (λ j e. rw (sym e) (passed.network.twins j (omega arith)))

  grown : (k : ℕ) → bytes_to (suc k) ≡ bytes_to k ++ link_bytes_at R k
  grown k = simp (one_more_link R k 0, zero-add, append_assoc)

  -- the reading that stands at link k
  abbrev stands_at : List ℕ → ℕ → Reading
  stands_at s k = links_read (m - k) s m (length (bytes_to k)) (span_before R k) k (rows_to k)

  begins_links : (s rest : List ℕ) → s ≡ bytes_to zero ++ rest → read_plan s ≡ stands_at s zero
  unfolding span_before filled links_bytes
  begins_links s rest cut =
      let at_nodes : s ≡ stored n ++ (stored m ++ rest) = simp (append-nil, append_assoc) at cut in
      let after_count = number_in s (stored n) rest m (omega arith) at_nodes in
      simp (append-nil, sub-zero)
      (nodes_pass s _ n passed.network.some_node passed.network.few_nodes at_nodes
      ∙ laws.link_count_read s n _ refl m _ after_count passed.few_links)

  passes_link : (k : ℕ) → k < length low → (s rest : List ℕ) → s ≡ bytes_to k ++ (link_bytes_at R k ++ rest)
      → stands_at s k ≡ stands_at s (suc k)
  unfolding span_before
  passes_link k within s rest cut =
      let read =
      link_passes s (bytes_to k) rest n (span_before R k) (get_or low k 0) (get_or high k 0) (get_or weight k 0)
      passed.network.few_nodes (passed.network.joins k within) (in_order k within) (heavy_enough k within) cut in
      let on = laws.link_read s m (length (bytes_to k)) (span_before R k) k (rows_to k) (omega arith) refl _ _ _ _ read in
      rw add-one at on
      ∙ rw (grown k, fills low k within (omega arith), fills high k (omega arith) (omega arith), fills weight k (omega arith) (omega arith))

  reaches : (k : ℕ) → k ≤ length low → (s rest : List ℕ) → s ≡ bytes_to k ++ rest → read_plan s ≡ stands_at s k
  reaches zero within s rest cut = begins_links s rest cut
  reaches (suc k) within s rest cut =
      let at_link : s ≡ bytes_to k ++ (link_bytes_at R k ++ rest) = cut ∙ rw (grown k) (append_assoc (bytes_to k) _ rest) in
      reaches k (omega arith) s _ at_link ∙ passes_link k within s rest at_link

  -- after all links that have passed
  all_filled : (row : List ℕ) → length row ≡ length low → filled (length low) row ≡ padded row
  unfolding filled
  all_filled row same = rw (← same, take-length)

  pub reaches_end : (s rest : List ℕ) → s ≡ plan_start m R ++ rest
      → read_plan s
      ≡ links_read (m - length low) s m (length (plan_start m R)) (last_link R) (length low)
      (record { nodes = n; low = padded low; high = padded high; weight = padded weight })
  unfolding plan_start
  reaches_end s rest cut =
      reaches (length low) (omega arith) s rest cut
      ∙ rw (all_filled low refl, all_filled high passed.network.high_row, all_filled weight passed.network.weight_row)

module _ {m : ℕ} {R : Rows} (due : LinkDue m R) (s : List ℕ) where
  open R use {nodes as n, low}

  -- the link that is due, stored after those that have passed
  abbrev pub link_due : LinkAt
  link_due = link_at s n (length (plan_start m R)) (last_link R)

  pub link_refused : (rest : List ℕ) (number place : ℕ) → s ≡ plan_start m R ++ rest → link_due ≡ Refused number place
      → read_plan s ≡ refusal number place
  link_refused rest number place cut refused =
      reaches_end due.passed s rest cut ∙ laws.link_refused s m _ _ (length low) _ due.more refl number place refused

  module _ (l : ℕ) (rest : List ℕ) (node : l < n) (cut : s ≡ plan_start m R ++ (stored l ++ rest)) where
    pub at_difference : s ≡ (plan_start m R ++ stored l) ++ rest
    at_difference = cut_after s (plan_start m R) rest (stored l) cut

    pub reaches_difference
        : link_due ≡ difference_at s n (length (plan_start m R)) (length (plan_start m R ++ stored l)) l (last_link R)
    reaches_difference =
        let few = due.passed.network.few_nodes in
        laws.low_read s n _ _ refl l _ (number_in s (plan_start m R) rest l (omega arith) cut) node

  module _ (l e : ℕ) (rest : List ℕ) (pass : EndsPass R l e) (cut : s ≡ plan_start m R ++ (stored l ++ (stored e ++ rest))) where
    pub at_weight : s ≡ (plan_start m R ++ (stored l ++ stored e)) ++ rest
    at_weight = simp append_assoc cut

    pub reaches_weight
        : link_due ≡ weight_at s (length (plan_start m R)) (length (plan_start m R ++ (stored l ++ stored e))) l (l + e) (last_link R)
    reaches_weight =
        let few = due.passed.network.few_nodes in
        let node_low : l < n = omega arith in
        let here = at_difference l (stored e ++ rest) node_low cut in
        let in_order = fails (order_tells R (length low) l (l + e)) pass.follows in
        reaches_difference l (stored e ++ rest) node_low cut
        ∙ laws.difference_read s n _ _ l _ refl e _
        (number_in s (plan_start m R ++ stored l) rest e (omega arith) here) (omega arith) pass.node in_order
        ∙ ap (λ (t : List ℕ). weight_at s (length (plan_start m R)) (length t) l (l + e) (last_link R))
        (append_assoc (plan_start m R) (stored l) (stored e))
