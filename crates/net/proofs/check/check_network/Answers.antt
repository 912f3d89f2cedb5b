use mathlib.Core.Path.{◌≡◌, refl, sym, ap, ◌∙◌}
use borrow.Author.Rules.{rules}
use native.Mathlib.Omega.{arith}
use native.Mathlib.Numerals.{add-one}
use Prim.Native.Nat.{ℕ}
use lib.ListN.{get_or}
use Rattle.net.specs.Rows.{Rows}
use Rattle.net.specs.declared.check.Span.{Span}
use Rattle.net.specs.Check.{span_before, link_fault}
use Rattle.net.specs.Told.{verdict_of}
use Rattle.net.proofs.Faults.{fault_at, links_done, links_on, links_left}
use Rattle.net.proofs.Faults.{high_differs, weight_differs, many_nodes, links_begin}
use Rattle.net.proofs.Told.{number_refuses}
use Rattle.net.proofs.check.check_network.Goals as goal

-- the fault that the body finds is that of link k after the one before it
found : (R : Rows) (k : ℕ) {before : Span} {low high fault : ℕ} → before ≡ span_before R k → low ≡ get_or R.low k 0
    → high ≡ get_or R.high k 0 → fault ≡ link_fault R.nodes before low high (get_or R.weight k 0) → fault_at R k ≡ fault
found R k last low_end high_end is = rw (← last, ← low_end, ← high_end) (sym is)

pub returns-then-network-links : goal.returns-then-network-links
returns-then-network-links c = ap verdict_of c.at.ensures ∙ sym (high_differs _ c.if-network-links.true)

pub returns-then-network-links-2 : goal.returns-then-network-links-2
returns-then-network-links-2 c =
    ap verdict_of c.at-then-network-links-2.ensures ∙ sym (weight_differs _ c.if-network-links.false c.if-network-links-2.true)

pub returns-then-bad_node_count : goal.returns-then-bad_node_count
returns-then-bad_node_count c =
    ap verdict_of c.at-then-bad_node_count.ensures
    ∙ sym (many_nodes _ c.if-network-links.false c.if-network-links-2.false (sym c.bad_node_count.ensures ∙ c.if-bad_node_count.true))

pub loop-k-init : goal.loop-k-init
unfolding span_before
loop-k-init c =
    let few = sym c.bad_node_count.ensures ∙ c.if-bad_node_count.false in
    record {
      all = refl;
      passed = search rules;
      weights = c.if-network-links-2.false;
      last = refl;
      rest = links_begin _ c.if-network-links.false c.if-network-links-2.false few (omega arith);
    }

pub returns-in-Err : goal.returns-in-Err
returns-in-Err c =
    let at = c.loop-k in
    let looked = found _ at.k at.invariant.last c.end_at.ensures c.end_at-in-loop-k.ensures c.in-Err.ensures in
    ap verdict_of c.at-in-Err.ensures
    ∙ sym (at.invariant.rest ∙ links_left _ _ at.k _ c.loop-k-test.true looked (number_refuses c.in-Err.refusal))

pub loop-k-preserved : goal.loop-k-preserved
unfolding span_before
loop-k-preserved c =
    let at = c.loop-k in
    let looked = found _ at.k at.invariant.last c.end_at.ensures c.end_at-in-loop-k.ensures c.in_default.ensures in
    record {
      all = at.invariant.all;
      passed = search rules;
      weights = at.invariant.weights;
      last = rw (add-one, c.end_at.ensures, c.end_at-in-loop-k.ensures);
      rest = at.invariant.rest ∙ links_on _ _ at.k c.loop-k-test.true looked;
    }

pub returns : goal.returns
returns c =
    let at = c.loop-k in
    sym (at.invariant.rest ∙ links_done _ _ at.k c.loop-k-test.false)
