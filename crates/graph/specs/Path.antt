-- Chains, paths, and which path is best (document 01, "Paths and tables"). A chain is the list of the interfaces that it crosses.
use Rattle.std.specs.Prelude.{◌≡◌, ◌≢◌, ◌⊎◌, ◌↔◌, List, [], ◌∷◌, map, ℕ, ◌+◌, ◌<◌}
use Rattle.graph.specs.Network.{Network, link, tail, head}

-- a chain of present links from one node to another; it may come back to a node
pub data Chain (N : Network) : ℕ → List ℕ → ℕ → Type 0 where
  stop : {i d : ℕ} → i ≡ d → Chain N i [] d
  step : {i f d : ℕ} {p : List ℕ} → N.Present (link f) → tail N f ≡ i → Chain N (head N f) p d → Chain N i (f ∷ p) d

-- the property holds of each element
pub data Each (P : ℕ → Type 0) : List ℕ → Type 0 where
  none : Each P []
  both : {x : ℕ} {l : List ℕ} → P x → Each P l → Each P (x ∷ l)

-- no element stands twice
pub data Distinct : List ℕ → Type 0 where
  none : Distinct []
  fresh : {x : ℕ} {l : List ℕ} → Each (λ y. x ≢ y) l → Distinct l → Distinct (x ∷ l)

-- the nodes that a chain from i visits, i first
unfoldable pub visits : Network → ℕ → List ℕ → List ℕ
visits N i p = i ∷ map (head N) p

-- "A path is a chain of links that visits no node twice."
pub record Path (N : Network) (i : ℕ) (p : List ℕ) (d : ℕ) : Type 0 where
  pub chain : Chain N i p d
  pub once : Distinct (visits N i p)

-- "Its cost is its weight sum."
unfoldable pub weight_sum : Network → List ℕ → ℕ
weight_sum N [] = 0
weight_sum N (f ∷ p) = N.weight (link f) + weight_sum N p

-- the link lies on the chain, in one direction or the other
pub data Lies (k : ℕ) : List ℕ → Type 0 where
  here : {f : ℕ} {p : List ℕ} → link f ≡ k → Lies k (f ∷ p)
  later : {f : ℕ} {p : List ℕ} → Lies k p → Lies k (f ∷ p)

-- "the better lacks the highest-numbered link that lies on only one of them": p lacks it, and q has it
pub record Lacks (p q : List ℕ) : Type 0 where
  pub highest : ℕ
  pub on : Lies highest q
  pub off : Lies highest p → ⊥
  pub above : (k : ℕ) → highest < k → Lies k p ↔ Lies k q

-- "Of two paths of equal sum, the better lacks the highest-numbered link that lies on only one of them."
abbrev pub Better : Network → List ℕ → List ℕ → Type 0
Better N p q = (weight_sum N p < weight_sum N q) ⊎ ((weight_sum N p ≡ weight_sum N q) × Lacks p q)

-- That the rule always decides: a strict total order on the paths between two nodes. It is proved of every well-formed network.
pub record StrictTotalOrder (N : Network) (i d : ℕ) : Type 0 where
  pub irreflexive : (p : List ℕ) → Path N i p d → Better N p p → ⊥
  pub transitive : (p q r : List ℕ) → Path N i p d → Path N i q d → Path N i r d → Better N p q → Better N q r → Better N p r
  pub comparable : (p q : List ℕ) → Path N i p d → Path N i q d → (p ≡ q) ⊎ (Better N p q ⊎ Better N q p)

-- Links left in when others are taken out: a property of link numbers. All of them; all but one.
abbrev pub All : ℕ → Type 0
All k = Unit {0}

abbrev pub But : ℕ → ℕ → Type 0
But l k = k ≢ l

-- every link of the chain is left in
pub data Over (X : ℕ → Type 0) : List ℕ → Type 0 where
  none : Over X []
  both : {f : ℕ} {p : List ℕ} → X (link f) → Over X p → Over X (f ∷ p)

-- the best path from i to d over the links left in: a path, and better than every other one
pub record BestPath (N : Network) (X : ℕ → Type 0) (i : ℕ) (p : List ℕ) (d : ℕ) : Type 0 where
  pub path : Path N i p d
  pub over : Over X p
  pub best : (q : List ℕ) → Path N i q d → Over X q → (q ≡ p) ⊎ Better N p q
