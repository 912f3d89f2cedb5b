use Prim.Native.Nat.{◌<◌}
use mathlib.Core.Bool.{false≢true}
use mathlib.Core.Path.{sym, ap, ◌∙◌}
use native.Mathlib.Numerals.{add-one}
use native.Mathlib.Omega.{arith}
use lib.ListN.{length}
use borrow.Author.Tests.{eqb-true, eqb-false}
use Rattle.net.proofs.Accepted.{check_accepts}
use Rattle.net.specs.inner.LinkSet.{with_link}
use Rattle.tables.proofs.KeyLoop.{no_keys_here, keys_begin, keys_with, keys_without, key_read, head_place, tail_place}
use Rattle.tables.proofs.key.keys_of.Goals.{then-is_key, else-is_key}
use Rattle.tables.proofs.key.keys_of.Goals as goal

pub returns-then-eq : goal.returns-then-eq
returns-then-eq c =
    let here = eqb-true _ _ (sym c.eq.ensures ∙ c.if-eq.true) in
    rw c.empty.ensures (no_keys_here (check_accepts _ c.args.network.now.passed) c.requires (sym c.head_of-i.ensures ∙ here))

pub offset_bounds-all-i : goal.offset_bounds-all-i
offset_bounds-all-i c = omega (arith, head_place (check_accepts _ c.args.network.now.passed) c.requires c.head_of-i.ensures)

pub bounds-all-i : goal.bounds-all-i
bounds-all-i c = head_place (check_accepts _ c.args.network.now.passed) c.requires c.head_of-i.ensures

pub loop-k-init : goal.loop-k-init
loop-k-init c = rw c.empty-keys.ensures keys_begin

pub offset_bounds-without-i : goal.offset_bounds-without-i
offset_bounds-without-i c = omega (arith, head_place (check_accepts _ c.args.network.now.passed) c.requires c.head_of-i.ensures)

pub bounds-without-i : goal.bounds-without-i
bounds-without-i c = head_place (check_accepts _ c.args.network.now.passed) c.requires c.head_of-i.ensures

pub offset_bounds-without-j : goal.offset_bounds-without-j
offset_bounds-without-j c = omega (arith, tail_place (check_accepts _ c.args.network.now.passed) c.requires c.tail_of-j.ensures)

pub bounds-without-j : goal.bounds-without-j
bounds-without-j c = tail_place (check_accepts _ c.args.network.now.passed) c.requires c.tail_of-j.ensures

pub loop-k-preserved : goal.loop-k-preserved
loop-k-preserved c =
    let number : c.loop-k.k < length c.args.network.now.rows.low.now = omega arith in
    let at = c.loop-k in
    let asked = c.requires in
    let all = c.column_of-all in
    let without = c.column_without-without in
    let only = c.with_link-only.ensures ∙ ap (λ s. with_link s at.k) c.empty-in-loop-k.ensures in
    let key = key_read (check_accepts _ c.args.network.now.passed) asked all.ensures (rw only at without.ensures) (number) all.type_inv.1.0.1 without.type_inv.1.0.1
    c.head_of-i.ensures c.tail_of-j.ensures c.end_at.ensures c.end_at-in-loop-k.ensures
    (eqb-false _ _ (sym c.eq.ensures ∙ c.if-eq.false)) _ in
    let test = sym c.is_key.ensures in
    rw (add-one at.k)
    (elim c.if-is_key.branch [
      | then-is_key w ↦
          rw (w.keys-is ∙ w.with_link-keys.ensures) (keys_with at.keys (number) (key.0 (test ∙ w.if-is_key.true)) at.invariant)
      | else-is_key w ↦
          rw w.keys-is (keys_without at.keys (λ found. false≢true (sym (test ∙ w.if-is_key.false) ∙ key.1 found)) at.invariant)
    ])
