use Prim.Native.Nat.{ℕ, ◌<◌}
use mathlib.Core.Path.{◌≡◌, ap, ◌∙◌}
use mathlib.Core.Bool.{Bool}
use mathlib.Core.Logic.{inl, inr}
use native.Mathlib.Omega.{arith}
use lib.ListN.{length, get_or}
use Rattle.paths.specs.inner.Rounds.{turn_of}
use Rattle.paths.specs.inner.Rounds.{Revised}
use Rattle.paths.proofs.Columns.{turn_below, round_kept, told_changed, told_still}
use Rattle.paths.proofs.Counts.{low_place, high_place}
use Rattle.paths.proofs.Steps.{stored, link_offered, round_begin, round_done, round_skip, round_on}
use Rattle.paths.proofs.column.round.Goals.{then-comes_before, else-comes_before, then-has_link+then-comes_before-2, then-has_link+else-comes_before-2, else-has_link}
use Rattle.paths.proofs.column.round.Goals as goal

-- each turn is that of a link, as the code took it
in_rows : (links : ℕ) (upward : Bool) (j k : ℕ) → j < links → k ≡ turn_of links upward j → k < links
in_rows links upward j k h whose = rw whose (turn_below links upward j h)

pub loop-j-init : goal.loop-j-init
loop-j-init c =
    (c.well_formed.0.1.0.1, round_begin _ _ _ _ _ c.args.column)

pub loop-j-preserved : goal.loop-j-preserved
loop-j-preserved c =
    let args = c.args in
    let low = args.network.now.rows.low.now in
    let high = args.network.now.rows.high.now in
    let weight = args.network.now.rows.weight.now in
    let at = c.loop-j in
    let s : Revised = record { column = at.next; changed = at.changed } in
    let k = c.turn_of-k.result in
    let h = c.loop-j-test.true in
    let whose = c.turn_of-k.ensures in
    let row : k < length low = in_rows _ _ _ _ h whose in
    let low_place = low_place _ _ _ _ c.args.network.now.passed _ row in
    let high_place = high_place _ _ _ _ c.args.network.now.passed _ row in
    let on = round_on low high weight args.offering args.upward at.j s h whose c.has_link.ensures in
    elim c.if-has_link.branch [
      | then-has_link+then-comes_before-2 w ↦
          let first = stored (elim w.if-comes_before.branch [
            | then-comes_before v ↦ inl (v.if-comes_before.true, v.next-is, v.changed-is)
            | else-comes_before v ↦ inr (v.if-comes_before.false, v.next-is, v.changed-is)
          ]) in
          let second = stored (inl (w.if-comes_before-2.true, w.next-is, w.changed-is)) in
          let made = link_offered k (get_or low k 0) (get_or high k 0) _ s (omega arith) (omega arith) _ w.extend-to_low.ensures
          w.comes_before.ensures first w.extend-to_high.ensures w.comes_before-then-has_link.ensures second in
          (made.1 ∙ at.invariant.0, at.invariant.1 ∙ on w.if-has_link.true _ made.0)
      | then-has_link+else-comes_before-2 w ↦
          let first = stored (elim w.if-comes_before.branch [
            | then-comes_before v ↦ inl (v.if-comes_before.true, v.next-is, v.changed-is)
            | else-comes_before v ↦ inr (v.if-comes_before.false, v.next-is, v.changed-is)
          ]) in
          let second = stored (inr (w.if-comes_before-2.false, w.next-is, w.changed-is)) in
          let made = link_offered k (get_or low k 0) (get_or high k 0) _ s (omega arith) (omega arith) _ w.extend-to_low.ensures
          w.comes_before.ensures first w.extend-to_high.ensures w.comes_before-then-has_link.ensures second in
          (made.1 ∙ at.invariant.0, at.invariant.1 ∙ on w.if-has_link.true _ made.0)
      | else-has_link w ↦
          let skip = round_skip low high weight args.offering args.upward at.j s h whose c.has_link.ensures w.if-has_link.false in
          (ap length w.next-is ∙ at.invariant.0, rw (w.next-is, w.changed-is) (at.invariant.1 ∙ skip))
    ]

pub returns-then-not-changed : goal.returns-then-not-changed
returns-then-not-changed c =
    let at = c.loop-j in
    told_still (round_kept _ _ _ _ _ _) (at.invariant.1 ∙ round_done _ _ _ _ _ at.j _ c.loop-j-test.false) c.if-not-changed.true

pub returns : goal.returns
returns c =
    let at = c.loop-j in
    told_changed (round_kept _ _ _ _ _ _) (at.invariant.1 ∙ round_done _ _ _ _ _ at.j _ c.loop-j-test.false) c.if-not-changed.false
