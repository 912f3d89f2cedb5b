-- The library compares pairs of numbers by the first and then by the second: what the definitions say by two tests.
use Prim.Native.Nat.{ℕ}
use mathlib.Core.Bool.{Bool, true, false}
use mathlib.Core.Path.{◌≡◌, refl}
use lib.Dec.{ltb, eqb}
use Rattle.std.proofs.Common.{Ordering}
use Rattle.std.specs.Prelude.{Option, Some}
use Rattle.std.specs.Ordering.{partial_lt, partial_ordering_then, nat_cmp}
use Rattle.net.specs.Choice.{either, both}

abbrev pub in_turn : ℕ × ℕ → ℕ × ℕ → Option Ordering
in_turn p q = partial_ordering_then (Some (nat_cmp p.0 q.0)) (Some (nat_cmp p.1 q.1))

pub pair_before : (x y b d : ℕ)
    → partial_lt {X = ℕ × ℕ} in_turn (x, y) (b, d)
    ≡ either (ltb x b) (both (eqb x b) (ltb y d))
pair_before x y b d = go (ltb x b) (eqb x b) (ltb y d) (eqb y d) refl refl refl refl
  where
    go : (p q r s : Bool) → ltb x b ≡ p → eqb x b ≡ q → ltb y d ≡ r → eqb y d ≡ s
        → partial_lt {X = ℕ × ℕ} in_turn (x, y) (b, d)
        ≡ either (ltb x b) (both (eqb x b) (ltb y d))
    go true q r s e f g h = simp (e)
    go false true true s e f g h = simp (e, f, g)
    go false true false true e f g h = simp (e, f, g, h)
    go false true false false e f g h = simp (e, f, g, h)
    go false false r s e f g h = simp (e, f)
