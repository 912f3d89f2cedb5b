-- The laws of the check: what a link's fault is after the tests before it, and how the loop over the links goes on.
use Prim.Native.Nat.{ℕ, suc, ◌+◌, ◌-◌, ◌≤◌, ◌<◌}
use mathlib.Core.Bool.{true, false}
use mathlib.Core.Path.{◌≡◌}
use mathlib.Core.Logic.{inl, ◌≢◌}
use native.Mathlib.Nat.{sub-zero}
use native.Mathlib.Omega.{arith}
use borrow.Author.Tests.{ne_eqb, eq-eqb, lt-ltb, le-ltb}
use lib.ListN.{length, get_or}
use Rattle.net.specs.Refusals.{accepted, node_count, link_count, link_ends, link_weight, link_order, row_lengths}
use Rattle.net.specs.Limits.{most_links}
use Rattle.net.specs.Rows.{Rows}
use Rattle.net.specs.Check.{bad_ends, descends, bad_weight, lighter_twin, span_before, link_fault, links_from, verdict}
use Rattle.net.specs.Check.{rows_differ, bad_node_count, check_network}
use Rattle.net.specs.declared.check.Span.{Span}
use Rattle.net.proofs.Tests.{holds, count_tells}

module _ (n : ℕ) (before : Span) (low high weight : ℕ) where
  pub fault_ends : bad_ends n low high ≡ true → link_fault n before low high weight ≡ link_ends
  unfolding link_fault
  fault_ends e = simp e

  module _ (ends : bad_ends n low high ≡ false) where
    pub fault_order : descends before low high ≡ true → link_fault n before low high weight ≡ link_order
    unfolding link_fault
    fault_order o = simp (ends, o)

    module _ (order : descends before low high ≡ false) where
      pub fault_weight : bad_weight weight ≡ true → link_fault n before low high weight ≡ link_weight
      unfolding link_fault
      fault_weight w = simp (ends, order, w)

      module _ (weighs : bad_weight weight ≡ false) where
        pub fault_twin : lighter_twin before low high weight ≡ true → link_fault n before low high weight ≡ link_order
        unfolding link_fault
        fault_twin t = simp (ends, order, weighs, t)

        pub fault_none : lighter_twin before low high weight ≡ false → link_fault n before low high weight ≡ accepted
        unfolding link_fault
        fault_none t = simp (ends, order, weighs, t)

-- the fault of link k after the one before it
abbrev pub fault_at : Rows → ℕ → ℕ
fault_at R k = link_fault R.nodes (span_before R k) (get_or R.low k 0) (get_or R.high k 0) (get_or R.weight k 0)

-- the node count
pub no_nodes : (n : ℕ) → n ≡ 0 → bad_node_count n ≡ true
no_nodes n e = holds (count_tells n) (inl e)

-- the links from k on, of m in all: done, left at the first fault, or gone on
module _ (m : ℕ) (R : Rows) where
  pub links_done : (k : ℕ) → m ≤ k → links_from (m - k) R k ≡ verdict accepted
  unfolding links_from
  links_done k h =
      let e : m - k ≡ 0 = omega arith in
      rw e

  less_one : (k : ℕ) → k < m → m - k ≡ suc (m - (k + 1))
  less_one k h = omega arith

  one_more : (k : ℕ) → suc k ≡ k + 1
  one_more k = omega arith

  pub links_on : (k : ℕ) → k < m → fault_at R k ≡ accepted
      → links_from (m - k) R k ≡ links_from (m - (k + 1)) R (k + 1)
  unfolding links_from
  links_on k h e = simp (less_one k h, e, one_more k)

  pub links_left : (k fault : ℕ) → k < m → fault_at R k ≡ fault → fault ≢ 0
      → links_from (m - k) R k ≡ record { number = fault; place = k }
  unfolding links_from
  links_left k fault h e f = simp (less_one k h, e, ne_eqb fault 0 f)

-- the tests before the links
module _ (R : Rows) where
  open R use {nodes as n, low, high, weight}

  pub high_differs : length high ≢ length low → check_network R ≡ verdict row_lengths
  unfolding check_network rows_differ
  high_differs h = simp (ne_eqb (length high) (length low) h)

  module _ (same_high : length high ≡ length low) where
    pub weight_differs : length weight ≢ length low → check_network R ≡ verdict row_lengths
    unfolding check_network rows_differ
    weight_differs h = simp (eq-eqb _ _ same_high, ne_eqb (length weight) (length low) h)

    module _ (same_weight : length weight ≡ length low) where
      pub many_nodes : bad_node_count n ≡ true → check_network R ≡ verdict node_count
      unfolding check_network rows_differ
      many_nodes e = simp (eq-eqb _ _ same_high, eq-eqb _ _ same_weight, e)

      module _ (few_nodes : bad_node_count n ≡ false) where
        pub many_links : most_links < length low → check_network R ≡ verdict link_count
        unfolding check_network rows_differ
        many_links h = simp (eq-eqb _ _ same_high, eq-eqb _ _ same_weight, few_nodes, lt-ltb _ _ h)

        pub links_begin : length low ≤ most_links → check_network R ≡ links_from (length low - 0) R 0
        unfolding check_network rows_differ
        links_begin h = simp (sub-zero, eq-eqb _ _ same_high, eq-eqb _ _ same_weight, few_nodes, le-ltb _ _ h)
