-- A set of links as one number: bit k is 1 exactly if link k is in it ("Given as a 64-bit set by link number").
use Rattle.std.specs.Prelude.{ℕ, ◌+◌, ◌^◌, ◌/◌, ◌%◌, ◌<◌, ◌≡◌, ◌↔◌, List, [], ◌∷◌, map}
use Rattle.graph.specs.Network.{link}

-- bit k of the number
abbrev pub bit : ℕ → ℕ → ℕ
bit k set = set / 2 ^ k % 2

-- the number is the set of the links below `links` that have the property
pub record SetOf (links : ℕ) (P : ℕ → Type 0) (set : ℕ) : Type 0 where
  pub below : set < 2 ^ links
  pub bits : (k : ℕ) → k < links → (bit k set ≡ 1) ↔ P k

abbrev pub sum : (ℕ → ℕ) → List ℕ → ℕ
sum w [] = 0
sum w (x ∷ l) = w x + sum w l

abbrev pub pow : ℕ → ℕ
pow k = 2 ^ k

-- the links of a chain that crosses no link twice, each as its bit
abbrev pub link_set : List ℕ → ℕ
link_set p = sum pow (map link p)
