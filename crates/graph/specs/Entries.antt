-- The three kinds of entry and the key links (document 01, "Paths and tables"; source documents 000, section II, and 001, section 2).
-- Everything is said by interface, so that it also holds where two links join one pair of nodes.
use Rattle.std.specs.Prelude.{◌≡◌, ◌≢◌, List, ◌∷◌, ◌++◌, ℕ}
use Rattle.graph.specs.Network.{Network, link, reverse, tail, head}
use Rattle.graph.specs.Path.{Path, Over, BestPath, All, But}

-- "An entry is one byte: a node; 254 where d is the deciding node itself (the check for 254 comes first); 255 where no path exists."
-- "A next node no longer says which fibre, so the routing look-up now promises a link number" (document 02, L5). Here the link is told by
-- the interface that leads over it from the deciding node.
pub data Hop : Type 0 where
  here : Hop
  onward : ℕ → Hop
  nowhere : Hop

-- the first interface on the best path from i to d over the links left in
pub data Entry (N : Network) (X : ℕ → Type 0) (i d : ℕ) : Hop → Type 0 where
  at_destination : i ≡ d → Entry N X i d here
  starts : {f : ℕ} {p : List ℕ} → i ≢ d → BestPath N X i (f ∷ p) d → Entry N X i d (onward f)
  lacks : i ≢ d → ((p : List ℕ) → Path N i p d → Over X p → ⊥) → Entry N X i d nowhere

-- "Routing entry of i for d: the first node after i on the best path."
abbrev pub RoutingEntry : Network → ℕ → ℕ → Hop → Type 0
RoutingEntry N d i = Entry N All i d

-- "Key links of interface j to i for d: every link u-v, in either of its directions taken as u to v, such that with all links
-- present j is the routing entry of i for d, and without that link the best path from u to d crosses from j to i."
-- "Key links ask that the interface's own link, taken backwards, is the routing entry, and that the path crosses that link" (document
-- 02, L5). The interface is h; the direction of the link k is `from`, which leaves u.
pub record KeyLink (N : Network) (d h k : ℕ) : Type 0 where
  pub present : N.Present k
  pub onward : List ℕ
  pub routing : BestPath N All (head N h) (reverse h ∷ onward) d
  pub from : ℕ
  pub from_link : link from ≡ k
  pub before : List ℕ
  pub after : List ℕ
  pub crosses : BestPath N (But k) (tail N from) (before ++ h ∷ after) d

-- the links that are no key links of interface h for d
abbrev pub Free : Network → ℕ → ℕ → ℕ → Type 0
Free N d h k = KeyLink N d h k → ⊥

-- "Forwarding entry of interface j to i for d: the first node on the best path from i to d when all those key links are taken out."
abbrev pub ForwardingEntry : Network → ℕ → ℕ → Hop → Type 0
ForwardingEntry N d h = Entry N (Free N d h) (head N h) d

-- the links left in when the link of interface h is taken out, and its key links for d with it
abbrev pub Aside : Network → ℕ → ℕ → ℕ → Type 0
Aside N d h k = But (link h) k × Free N d h k

-- "Backwarding entry of interface i to j for d: the first node on the best path from i to d when link i-j is taken out." "Source
-- document 000 also takes out the interface's key links. Adopt that rule." (document 02, L2) Of parallel links i-j, "backwarding entries
-- take out that link alone" which is the interface's own (document 02, L5).
abbrev pub BackwardingEntry : Network → ℕ → ℕ → Hop → Type 0
BackwardingEntry N d h = Entry N (Aside N d h) (tail N h) d
