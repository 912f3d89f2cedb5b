-- The laws of a number's groups: what `groups_from` says after each test of one group, and why no sum or product of the loop
-- overflows. The groups so far stay below the worth of the next one, and that worth times what may still follow is `most_stored`.
use Prim.Native.Nat.{ℕ, suc, ◌+◌, ◌*◌, ◌-◌, ◌^◌, ◌≤◌, ◌<◌}
use mathlib.Core.Bool.{Bool, true, false}
use mathlib.Core.Path.{◌≡◌, refl, sym, ap, ◌∙◌}
use mathlib.Core.Logic.{◌⊎◌, inl, inr, ◌≢◌}
use mathlib.Core.List.{List}
use native.Mathlib.Nat.{mul-le-mul_right, mul-le-mul_left, mul_assoc, one-le-pow, pow-succ'}
use native.Mathlib.Omega.{arith}
use borrow.Author.Tests.{lt-ltb, le-ltb, le-leb, lt-leb, ne_eqb}
use lib.ListN.{length, get_or}
use Rattle.net.specs.Choice.{both}
use Rattle.net.specs.Refusals.{bytes_end, number_form}
use Rattle.plan.specs.Number.{base, most_stored, groups_from}
use Rattle.plan.specs.Number.{Value, Refused}

both_false : (b : Bool) → both b false ≡ false
both_false true = refl
both_false false = refl

-- one group, in the order of the tests: there is one left, the bytes reach it, it is the last
module _ (s : List ℕ) (first at value scale left : ℕ) where
  pub no_groups_left : left ≡ 0 → groups_from left s first at value scale ≡ Refused number_form first
  unfolding groups_from
  no_groups_left e = rw e

  module _ (some_left : left ≢ 0) where
    one_and_more : left ≡ suc (left - 1)
    one_and_more = omega (arith, some_left)

    pub bytes_end_there : length s ≤ at → groups_from left s first at value scale ≡ Refused bytes_end (length s)
    unfolding groups_from
    bytes_end_there h = rw (one_and_more, le-leb _ _ h)

    module _ (inside : at < length s) where
      pub zero_group_last : get_or s at 0 ≡ 0 → first < at → groups_from left s first at value scale ≡ Refused number_form first
      unfolding groups_from
      zero_group_last z h = rw one_and_more (simp (lt-leb _ _ inside, z, lt-ltb _ _ h))

      pub last_group : get_or s at 0 < base → (at ≤ first) ⊎ (get_or s at 0 ≢ 0)
          → groups_from left s first at value scale ≡ Value (value + get_or s at 0 * scale) (at + 1)
      unfolding groups_from
      last_group h (inl o) = rw one_and_more (simp (lt-leb _ _ inside, lt-ltb _ _ h, le-ltb _ _ o, both_false))
      last_group h (inr z) = rw one_and_more (simp (lt-leb _ _ inside, lt-ltb _ _ h, ne_eqb _ _ z))

      pub group_before_more : base ≤ get_or s at 0
          → groups_from left s first at value scale
          ≡ groups_from (left - 1) s first (at + 1) (value + (get_or s at 0 - base) * scale) (scale * base)
      unfolding groups_from
      group_before_more h = ap (λ (l : ℕ). groups_from l s first at value scale) one_and_more ∙ simp (lt-leb _ _ inside, le-ltb _ _ h)

-- a group that is worth `scale`, with all groups before it, stays below the worth of the group after it
pub group_below : (digit scale : ℕ) → digit < base → digit * scale + scale ≤ scale * base
group_below digit scale h = omega (arith, mul-le-mul_right scale h)

-- `scale` is the worth of the next group, of which `left` may follow
module _ (scale left : ℕ) (worth : scale * base ^ left ≡ most_stored) where
  pub scale_fits : scale ≤ most_stored
  scale_fits = omega (arith, mul-le-mul_left scale (one-le-pow left base (omega arith)))

  pub scale_grows : left ≢ 0 → scale * base * base ^ (left - 1) ≡ most_stored
  scale_grows some_left =
      let one_and_more : left ≡ suc (left - 1) = omega (arith, some_left) in
      mul_assoc scale base (base ^ (left - 1))
      ∙ ap (λ (power : ℕ). scale * power) (sym (pow-succ' base (left - 1)) ∙ ap (λ (l : ℕ). base ^ l) (sym one_and_more))
      ∙ worth
