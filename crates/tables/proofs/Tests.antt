-- What the tests on costs tell: a test of several parts, part by part, and back.
use Prim.Native.Nat.{ℕ, ◌<◌}
use mathlib.Core.Bool.{Bool, true, false, false≢true}
use mathlib.Core.Path.{◌≡◌, refl, sym, ◌∙◌}
use mathlib.Core.Logic.{◌⊎◌, inl, inr, ◌↔◌}
use Rattle.net.specs.Choice.{either, both}
use Rattle.net.specs.inner.LinkSet.{has_link}
use Rattle.paths.specs.inner.Cost.{unknown, is_known, before}
use Rattle.paths.specs.declared.cost.Cost.{Cost}
use Rattle.paths.proofs.CostNumber.{Lower, before?}
use Rattle.paths.proofs.ColumnEntry.{known_true}
use Rattle.tables.specs.inner.KeyTest.{crosses_link}

pub both_true : (a b : Bool) → (both a b ≡ true) ↔ ((a ≡ true) × (b ≡ true))
both_true true b = (λ e. (refl, e), λ e. e.1)
both_true false b = (λ e. absurd (false≢true e), λ e. e.0)

pub either_true : (a b : Bool) → (either a b ≡ true) ↔ ((a ≡ true) ⊎ (b ≡ true))
either_true true b = (λ e. inl refl, λ e. refl)
either_true false b = (λ e. inr e, λ e. elim e [ inl z ↦ absurd (false≢true z) | inr q ↦ q ])

pub crosses_true : (c : Cost) (k : ℕ) → (crosses_link c k ≡ true) ↔ ((c.sum < unknown) × (has_link c.links k ≡ true))
unfolding crosses_link
crosses_true c k =
    let parts = both_true (is_known c) _ in (
      λ e. let t = parts.0 e in ((known_true c).0 t.0, t.1),
      λ e. parts.1 ((known_true c).1 e.0, e.1),
    )

pub before_true : (a b : Cost) → (before a b ≡ true) ↔ Lower a b
before_true a b =
    elim (before? a b) [
      | inl (e, lower) ↦ (λ t. lower, λ t. e)
      | inr (e, not_lower) ↦ (λ t. absurd (false≢true (sym e ∙ t)), λ t. absurd (not_lower t))
    ]
