-- At one more link the answer is what `links_read` says of the links from k + 1 on.
use Prim.Native.Nat.{◌<◌}
use mathlib.Core.Path.{refl, ◌∙◌}
use native.Mathlib.Omega.{arith}
use Rattle.plan.proofs.Readings.{link_read}
use Rattle.plan.proofs.reader.read_links.Goals as goal

pub links-preserved : goal.links-preserved
links-preserved c =
    let at = c.links.invariant in
    let more : c.links.k < c.args.m = omega (arith, c.if-k-m.false) in
    record {
      nodes = at.nodes;
      links = at.links;
      within = omega arith;
      rest = at.rest ∙ link_read _ _ _ _ _ _ more (rw at.nodes c.in-Ok.ensures) _ _ _ _ refl;
    }
