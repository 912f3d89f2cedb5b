use mathlib.Core.Path.{◌≡◌, sym}
use native.Mathlib.Omega.{arith}
use lib.ListN.{length}
use Rattle.naming.specs.Name.{has_twin}
use Rattle.naming.proofs.Twins.{any_none, any_one_more, any_found}
use Rattle.naming.proofs.has_twin.Goals as goal

pub loop-k-init : goal.loop-k-init
loop-k-init c = (omega arith, any_none _)

pub returns-then-is_twin : goal.returns-then-is_twin
unfolding has_twin
returns-then-is_twin c = sym (any_found _ _ _ c.loop-k-test.true (cc))

pub loop-k-preserved : goal.loop-k-preserved
loop-k-preserved c =
    let at = c.loop-k in
    (omega arith, any_one_more _ at.k at.invariant.1 (cc))

pub returns : goal.returns
unfolding has_twin
returns c =
    let at = c.loop-k in
    let all : at.k ≡ length c.args.network.now.low.now = omega (arith, at.invariant.0, c.loop-k-test.false) in
    sym (rw all at at.invariant.1)
