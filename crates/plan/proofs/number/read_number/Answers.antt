-- What `read_number` makes of the groups from here on, at each way out of the loop and at one more group.
use Prim.Native.Nat.{◌-◌, ◌<◌}
use mathlib.Core.Path.{refl, sym, ◌∙◌}
use mathlib.Core.Logic.{inl, inr}
use native.Mathlib.Omega.{arith}
use borrow.Author.Rules.{rules}
use lib.ListN.{get_or}
use Rattle.plan.specs.Number.{base, number_at}
use Rattle.plan.proofs.Groups as groups
use Rattle.plan.proofs.number.read_number.Goals as goal
use Rattle.plan.proofs.number.read_number.Goals.{else-group-eq0-via-then-group-eq0+else-first-at, else-group-eq0-via-else-group-eq0}

pub groups-init : goal.groups-init
unfolding number_at
groups-init c = record { small = search rules; worth = refl; rest = refl }

pub groups-preserved : goal.groups-preserved
groups-preserved c =
    let l = c.groups in
    let some_left = c.if-left-eq0.false in
    let digit : get_or c.args.s.now l.at 0 - base < base = omega (arith, c.type_inv.s l.at) in
    record {
      small = omega (arith, groups.group_below _ l.scale digit);
      worth = groups.scale_grows _ _ l.invariant.worth some_left;
      rest = l.invariant.rest ∙ groups.group_before_more _ _ _ _ _ _ some_left c.if-s-at.false c.if-group-lt-BASE.false;
    }

pub returns-then-left-eq0 : goal.returns-then-left-eq0
returns-then-left-eq0 c = rw c.at.ensures (sym (c.groups.invariant.rest ∙ groups.no_groups_left _ _ _ _ _ _ c.if-left-eq0.true))

pub returns-then-s-at : goal.returns-then-s-at
returns-then-s-at c =
    rw c.at-then-s-at.ensures (sym (c.groups.invariant.rest ∙ groups.bytes_end_there _ _ _ _ _ _ c.if-left-eq0.false c.if-s-at.true))

pub returns-then-first-at : goal.returns-then-first-at
returns-then-first-at c =
    rw c.at-then-first-at.ensures
    (sym (c.groups.invariant.rest
    ∙ groups.zero_group_last _ _ _ _ _ _ c.if-left-eq0.false c.if-s-at.false c.if-group-eq0.true
    c.if-first-at.true))

pub returns-else-group-eq0 : goal.returns-else-group-eq0
returns-else-group-eq0 c =
    sym (c.groups.invariant.rest
    ∙ groups.last_group _ _ _ _ _ _ c.if-left-eq0.false c.if-s-at.false c.if-group-lt-BASE.true
    (elim c.else-group-eq0.branch [
      | else-group-eq0-via-then-group-eq0+else-first-at w ↦ inl w.if-first-at.false
      | else-group-eq0-via-else-group-eq0 w ↦ inr w.if-group-eq0.false
    ]))
