-- `backward_byte` takes out the set of the key links with the interface's own link, and reads the entry of the tail, which is a node.
use mathlib.Core.Path.{ap, ◌∙◌}
use native.Mathlib.Omega.{arith}
use Rattle.graph.specs.Network.{link}
use Rattle.net.proofs.Accepted.{check_accepts}
use Rattle.net.specs.inner.LinkSet.{with_link}
use Rattle.tables.proofs.Leaving.{aside_byte}
use Rattle.tables.proofs.KeyLoop.{tail_place}
use Rattle.tables.proofs.backward.backward_byte.Goals as goal

pub with_link-out-requires : goal.with_link-out-requires
unfolding link
with_link-out-requires c =
    let asked = c.requires.asked in
    omega (arith, asked.interface, check_accepts _ c.args.network.now.passed, c.link_of.ensures)

pub offset_bounds-without-j : goal.offset_bounds-without-j
offset_bounds-without-j c = omega (arith, tail_place (check_accepts _ c.args.network.now.passed) c.requires.asked c.tail_of-j.ensures)

pub bounds-without-j : goal.bounds-without-j
bounds-without-j c = tail_place (check_accepts _ c.args.network.now.passed) c.requires.asked c.tail_of-j.ensures

pub returns : goal.returns
returns c =
    let given = c.requires in
    let own = c.with_link-out.ensures ∙ ap (with_link _) c.link_of.ensures in
    rw c.entry_byte.ensures
    (aside_byte (check_accepts _ c.args.network.now.passed) given own c.column_without-without.ensures c.column_without-without.type_inv.1.0.1 c.tail_of-j.ensures _)
