-- `is_twin` makes the three tests in the order of `is_twin`.
use mathlib.Core.Path.{sym, ◌∙◌}
use borrow.Author.Tests.{eq-eqb, ne_eqb}
use Rattle.naming.specs.Name.{is_twin}
use Rattle.naming.proofs.is_twin.Goals as goal

pub returns-then-eq : goal.returns-then-eq
unfolding is_twin
returns-then-eq c = simp (sym c.eq.ensures ∙ c.if-eq.true)

pub returns-then-end_at : goal.returns-then-end_at
unfolding is_twin
returns-then-end_at c =
    rw (
      sym c.eq.ensures ∙ c.if-eq.false,
      ← c.end_at.ensures,
      ← c.end_at-2.ensures,
      eq-eqb _ _ c.if-end_at.true,
      ← c.end_at-then-end_at.ensures,
      ← c.end_at-then-end_at-2.ensures,
    )

pub returns : goal.returns
unfolding is_twin
returns c =
    rw (
      sym c.eq.ensures ∙ c.if-eq.false,
      ← c.end_at.ensures,
      ← c.end_at-2.ensures,
      ne_eqb _ _ c.if-end_at.false,
    )
