-- A test that holds of some number below a count, as a loop makes it: one number more, and the first at which it holds; and the number that
-- it then holds of. With it the twins of a link: the test for one says what `Parallel` says in words, and a link has a twin exactly if some
-- link is parallel to it.
use Prim.Native.Nat.{ℕ, zero, suc, ◌+◌, ◌<◌}
use mathlib.Core.Bool.{Bool, true, false, false≢true}
use mathlib.Core.Path.{◌≡◌, refl}
use mathlib.Core.Logic.{◌↔◌}
use mathlib.Core.List.{List}
use native.Mathlib.Numerals.{add-one}
use native.Mathlib.Decide.{ℕ_discrete}
use native.Mathlib.Omega.{arith}
use borrow.Author.Tests.{eq-eqb, ne_eqb}
use lib.ListN.{length, get_or}
use Rattle.net.specs.Choice.{either}
use Rattle.naming.specs.Name.{Parallel, is_twin, any_below, has_twin}

either_second : (b : Bool) → either b true ≡ true
either_second true = refl
either_second false = refl

module _ (test : ℕ → Bool) where
  pub any_none : any_below 0 test ≡ false
  unfolding any_below
  any_none = refl

  pub any_one_more : (k : ℕ) → any_below k test ≡ false → test k ≡ false → any_below (k + 1) test ≡ false
  unfolding any_below
  any_one_more k below e = rw add-one (simp (below, e))

  pub any_found : (count k : ℕ) → k < count → test k ≡ true → any_below count test ≡ true
  unfolding any_below
  any_found zero k h e = absurd (omega arith)
  any_found (suc count) k h e =
      elim (ℕ_discrete k count) [
        | yes same ↦ let last : test count ≡ true = rw same at e in rw last (either_second (any_below count test))
        | no other ↦ rw (any_found count k (omega arith) e)
      ]

  pub any_shown : (count : ℕ) → any_below count test ≡ true → (k : ℕ) × (k < count) × (test k ≡ true)
  unfolding any_below
  any_shown zero e = absurd (false≢true e)
  any_shown (suc count) e = go (any_below count test) (any_shown count) e
    where
      go : (before : Bool) → (before ≡ true → (k : ℕ) × (k < count) × (test k ≡ true)) → either before (test count) ≡ true
          → (k : ℕ) × (k < suc count) × (test k ≡ true)
      go true shown t = let (k, h, holds) = shown refl in (k, omega arith, holds)
      go false shown t = (count, omega arith, t)

module _ (low high : List ℕ) (k : ℕ) where
  pub twin_parallel : (l : ℕ) → l < length low → is_twin low high k l ≡ true → Parallel low high k l
  unfolding is_twin
  twin_parallel l h e =
      elim (ℕ_discrete l k) [
        | yes itself ↦ absurd (false≢true (simp (eq-eqb _ _ itself) at e))
        | no other ↦
            elim (ℕ_discrete (get_or low l 0) (get_or low k 0)) [
              | no apart ↦ absurd (false≢true (simp (ne_eqb _ _ other, ne_eqb _ _ apart) at e))
              | yes same_low ↦
                  elim (ℕ_discrete (get_or high l 0) (get_or high k 0)) [
                    | no apart ↦ absurd (false≢true (simp (ne_eqb _ _ other, eq-eqb _ _ same_low, ne_eqb _ _ apart) at e))
                    | yes same_high ↦ record { stands = h; another = other; same_low = same_low; same_high = same_high }
                  ]
            ]
      ]

  pub parallel_twin : (l : ℕ) → Parallel low high k l → is_twin low high k l ≡ true
  unfolding is_twin
  parallel_twin l p = simp (ne_eqb _ _ p.another, eq-eqb _ _ p.same_low, eq-eqb _ _ p.same_high)

  pub twin_exactly : (has_twin low high k ≡ true) ↔ ((l : ℕ) × Parallel low high k l)
  unfolding has_twin
  twin_exactly = (
    λ e. let (l, h, t) = any_shown (is_twin low high k) (length low) e in (l, twin_parallel l h t),
    λ (l, p). any_found (is_twin low high k) (length low) l p.stands (parallel_twin l p),
  )
