-- The test for a key link that the code makes on costs, without following a path. proofs/KeyTest.antt shows that it tells the key links.
use Rattle.std.specs.Prelude.{ℕ, Bool, eqb}
use Rattle.graph.specs.Network.{link, reverse}
use Rattle.net.specs.Choice.{either, both}
use Rattle.net.specs.inner.LinkSet.{has_link}
use Rattle.paths.specs.inner.Cost.{is_known, before}
use Rattle.paths.specs.declared.cost.Cost.{Cost}

-- the path of a cost crosses the link
unfoldable pub crosses_link : Cost → ℕ → Bool
crosses_link c k = both (is_known c) (has_link c.links k)

-- The link is key for interface h, which enters node i from node j: over all links i goes straight back over h; and without the
-- link, the path of one of its ends crosses h's link, and the cost falls from j to i.
unfoldable pub key_test : ℕ → Cost → Cost → Cost → Cost → Cost → Bool
key_test h whole after ahead one other =
    both (is_known whole)
    (both (eqb whole.first (reverse h)) (both (before after ahead) (either (crosses_link one (link h)) (crosses_link other (link h)))))
