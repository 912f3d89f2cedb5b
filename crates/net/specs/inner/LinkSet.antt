-- A set of links as the code keeps it. It is known by its number, in which bit k is 1 exactly if link k is in the set; what is above this
-- crate cites the laws of these notions (proofs/LinkSets.antt), and not these lines.
use Rattle.std.specs.Prelude.{ℕ, ◌^◌, Bool, false, not, ◌≡◌, ltb, eqb}
use Rattle.std.specs.Int.Bits.{bit_and, bit_or}
use Rattle.graph.specs.Set.{bit}
use Rattle.net.specs.declared.link_set.LinkSet.{LinkSet}

unfoldable pub value : LinkSet → ℕ
value s = s.word

unfoldable pub no_links : LinkSet
no_links = record { word = 0 }

unfoldable pub with_link : LinkSet → ℕ → LinkSet
with_link s k = record { word = bit_or s.word (2 ^ k) }

unfoldable pub has_link : LinkSet → ℕ → Bool
has_link s k = eqb (bit k (value s)) 1

unfoldable pub is_empty : LinkSet → Bool
is_empty s = eqb (value s) 0

-- the first lacks the highest link that is in only one of them: that is the smaller number (graph's Order)
unfoldable pub comes_before : LinkSet → LinkSet → Bool
comes_before a b = ltb (value a) (value b)

-- some link is in both
unfoldable pub meeting : LinkSet → LinkSet → Bool
meeting a b = not (eqb (bit_and (value a) (value b)) 0)

-- the links left in when those of the set are taken out
abbrev pub Without : LinkSet → ℕ → Type 0
Without out k = has_link out k ≡ false
