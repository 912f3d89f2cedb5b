-- `has_link` makes the test of `has_link`. A set of links fits 64 bits, so the bit of a number past them is 0.
use mathlib.Core.Path.{sym}
use native.Mathlib.Omega.{arith}
use Rattle.net.specs.Limits.{most_links}
use Rattle.net.specs.inner.LinkSet.{value}
use Rattle.net.proofs.LinkSets.{has_link_past}
use Rattle.net.proofs.link_set.LinkSet.has_link.Goals as goal

pub returns-then-link-ge-LINKS : goal.returns-then-link-ge-LINKS
unfolding value
returns-then-link-ge-LINKS c = sym (has_link_past c.args.self most_links _ (omega arith) c.if-link-ge-LINKS.true)
