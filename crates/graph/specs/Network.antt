-- A network: nodes, links and interfaces, as document 01 numbers them ("Nodes, links, interfaces"). No limit stands here.
use Rattle.std.specs.Prelude.{◌≢◌, ℕ, zero, suc, ◌+◌, ◌*◌, ◌-◌, ◌/◌, ◌%◌, ◌<◌}

-- "A link joins a low node to a higher one, with one weight for both directions." `Present` says which links paths may use; all of
-- them are numbered below `links`.
pub record Network : Type 1 where
  pub nodes : ℕ
  pub links : ℕ
  pub low : ℕ → ℕ
  pub high : ℕ → ℕ
  pub weight : ℕ → ℕ
  pub Present : ℕ → Type 0

-- What the theorems ask of a network: each present link has a number, joins two different nodes and weighs something, and
-- whether a link is present can be told.
pub record WellFormed (N : Network) : Type 0 where
  pub numbered : (k : ℕ) → N.Present k → k < N.links
  pub low_node : (k : ℕ) → N.Present k → N.low k < N.nodes
  pub high_node : (k : ℕ) → N.Present k → N.high k < N.nodes
  pub ends_differ : (k : ℕ) → N.Present k → N.low k ≢ N.high k
  pub weighs : (k : ℕ) → N.Present k → 0 < N.weight k
  pub present? : (k : ℕ) → Dec (N.Present k)

-- "Interface 2k is link k entered from the low end towards the high end; interface 2k + 1 is the other direction."
unfoldable pub link : ℕ → ℕ
link f = f / 2

-- the same link in the other direction
unfoldable pub reverse : ℕ → ℕ
reverse f = 2 * (f / 2) + (1 - f % 2)

-- the first of two at an even number, else the second
unfoldable pub by_direction : ℕ → ℕ → ℕ → ℕ
by_direction zero a b = a
by_direction (suc x) a b = b

-- the node that the interface leaves
unfoldable pub tail : Network → ℕ → ℕ
tail N f = by_direction (f % 2) (N.low (link f)) (N.high (link f))

-- the node that it enters
unfoldable pub head : Network → ℕ → ℕ
head N f = by_direction (f % 2) (N.high (link f)) (N.low (link f))
