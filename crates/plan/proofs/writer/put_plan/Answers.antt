-- No link has been put, then one more, then all; the room keeps its length, so the links that are left fit.
use Prim.Native.Nat.{ℕ, ◌+◌, ◌-◌, ◌≤◌, ◌<◌}
use mathlib.Core.Path.{◌≡◌, refl, sym, ap, ◌∙◌}
use mathlib.Core.List.{List, ◌++◌}
use native.Mathlib.Nat.{sub-zero}
use native.Mathlib.Omega.{arith}
use lib.ListN.{length}
use Rattle.net.specs.Rows.{Rows}
use Rattle.net.specs.Check.{span_at, Accepted}
use Rattle.net.specs.declared.check.Span.{Span}
use Rattle.net.specs.inner.Overwritten.{overwritten}
use Rattle.net.proofs.Overwrite.{over_none, over_parts}
use Rattle.net.proofs.Accepted.{check_accepts}
use Rattle.plan.specs.Plan.{link_bytes, link_bytes_at, links_bytes}
use Rattle.plan.specs.inner.Put.{LinkFits, Put}
use Rattle.plan.proofs.Lengths.{links_done, links_on, length_links_on}
use Rattle.plan.proofs.Putting.{kept, nodes_fit, count_fits, links_fit, plan_put}
use Rattle.plan.proofs.Storing.{link_storable}
use Rattle.plan.proofs.writer.put_plan.Invariants.{Begun}
use Rattle.plan.proofs.writer.put_plan.Goals as goal

module _ {R : Rows} {links first : ℕ} {room₀ room : List ℕ} {at k : ℕ} (so_far : Begun R links first room₀ room at k) where
  module _ {link : Span} (more : k < links) (link_is : link ≡ span_at R k) where
    link_fits : LinkFits link.low link.high link.weight at room
    link_fits =
        rw link_is
        (record {
          storable = link_storable so_far.network k (rw so_far.all at more);
          fits = omega (arith, so_far.fits, length_links_on R links k more);
        })

    one_put : {room' : List ℕ} {next : ℕ} → Put (link_bytes link.low link.high link.weight) at room room' next
        → Begun R links first room₀ room' next (k + 1)
    one_put {room'} put =
        let rest = links_bytes (links - (k + 1)) R (k + 1) in
        let on = links_on R links k more in
        let put_there : Put (link_bytes_at R k) at room _ _ = rw link_is at put in
        let fits : at + length (link_bytes_at R k ++ rest) ≤ length room = rw on at so_far.fits in
        let as_long : length room' ≡ length room = kept put link_fits.fits in
        record {
          network = so_far.network;
          all = so_far.all;
          same_length = as_long ∙ so_far.same_length;
          fits = omega (arith, so_far.fits, put_there.place, length_links_on R links k more);
          same_room =
              rw (put_there.room, put_there.place)
              (sym (over_parts room at (link_bytes_at R k) rest fits) ∙ ap (overwritten room at) (sym on) ∙ so_far.same_room);
        }

  all_put : links ≤ k → room ≡ overwritten room₀ first (links_bytes links R 0)
  all_put done = sym (over_none room at) ∙ ap (overwritten room at) (sym (links_done R links k done)) ∙ so_far.same_room

none_put : {R : Rows} {first : ℕ} {room : List ℕ} → Accepted R → first + length (links_bytes (length R.low) R 0) ≤ length room
    → Begun R (length R.low) first room room first 0
none_put network fits = record { network = network; all = refl; same_length = refl; fits = rw sub-zero fits; same_room = rw sub-zero refl }

pub put_number-second-requires : goal.put_number-second-requires
put_number-second-requires c = nodes_fit _ (check_accepts _ c.args.network.now.passed) c.requires

pub put_number-at-requires : goal.put_number-at-requires
put_number-at-requires c =
    count_fits _ (check_accepts _ c.args.network.now.passed) c.requires c.put_number-second.ensures

pub loop-k-init : goal.loop-k-init
loop-k-init c =
    let network = check_accepts _ c.args.network.now.passed in
    none_put network (links_fit _ network c.requires c.put_number-second.ensures c.put_number-at.ensures)

pub put_link-at-requires : goal.put_link-at-requires
put_link-at-requires c =
    link_fits c.loop-k.invariant c.loop-k-test.true c.span_at.ensures

pub loop-k-preserved : goal.loop-k-preserved
loop-k-preserved c =
    one_put c.loop-k.invariant c.loop-k-test.true c.span_at.ensures
    c.put_link-at.ensures

pub returns : goal.returns
returns c =
    plan_put _ (check_accepts _ c.args.network.now.passed) c.requires c.put_number-second.ensures c.put_number-at.ensures (all_put c.loop-k.invariant c.loop-k-test.false)
