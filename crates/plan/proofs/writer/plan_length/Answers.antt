-- No link has been counted, then one more, then all; what has been counted is no longer than a plan.
use Prim.Native.Nat.{ℕ, ◌+◌, ◌≤◌, ◌<◌}
use mathlib.Core.Path.{◌≡◌, refl, ap}
use native.Mathlib.Nat.{sub-zero}
use native.Mathlib.Omega.{arith}
use lib.ListN.{length}
use Rattle.net.specs.Rows.{Rows}
use Rattle.net.specs.Check.{span_at, Accepted}
use Rattle.net.specs.declared.check.Span.{Span}
use Rattle.net.proofs.Accepted.{check_accepts}
use Rattle.plan.specs.Number.{stored}
use Rattle.plan.specs.Plan.{link_bytes, link_bytes_at, plan_of, longest}
use Rattle.plan.proofs.Lengths.{plan_short, length_plan, length_links_on, links_done}
use Rattle.plan.proofs.writer.plan_length.Invariants.{Counted}
use Rattle.plan.proofs.writer.plan_length.Goals as goal

none_counted : {R : Rows} {nodes links : ℕ} → Accepted R → nodes ≡ length (stored R.nodes) → links ≡ length (stored (length R.low))
    → Counted R (length R.low) (nodes + links) 0
none_counted {R} network nodes_is links_is = record { network = network; all = refl; sum = rw sub-zero (omega (arith, length_plan R)) }

module _ {R : Rows} {links count k : ℕ} (at : Counted R links count k) where
  one_counted : {link : Span} {size : ℕ} → k < links → link ≡ span_at R k → size ≡ length (link_bytes link.low link.high link.weight)
      → Counted R links (count + size) (k + 1)
  one_counted {size} more link_is size_is =
      let is : size ≡ length (link_bytes_at R k) = cc in
      record { network = at.network; all = at.all; sum = omega (arith, at.sum, length_links_on R links k more) }

  -- no count is longer than a plan
  short : count ≤ longest
  short = omega (arith, at.sum, plan_short at.network)

  all_counted : links ≤ k → count ≡ length (plan_of R)
  all_counted done = omega (arith, at.sum, ap length (links_done R links k done))

pub stored_length-requires : goal.stored_length-requires
stored_length-requires c = omega (arith, check_accepts _ c.args.network.now.passed)

pub stored_length-requires-2 : goal.stored_length-requires-2
stored_length-requires-2 c = omega (arith, check_accepts _ c.args.network.now.passed)

pub loop-k-init : goal.loop-k-init
loop-k-init c =
    none_counted (check_accepts _ c.args.network.now.passed) c.stored_length.ensures c.stored_length-2.ensures

pub loop-k-preserved : goal.loop-k-preserved
loop-k-preserved c =
    one_counted c.loop-k.invariant c.loop-k-test.true c.span_at.ensures c.link_length-count.ensures

pub overflow_add-count-in-loop-k : goal.overflow_add-count-in-loop-k
overflow_add-count-in-loop-k c =
    let counted =
    one_counted c.loop-k.invariant c.loop-k-test.true c.span_at.ensures c.link_length-count.ensures in
    omega (arith, short counted)

pub returns : goal.returns
returns c = all_counted c.loop-k.invariant c.loop-k-test.false
