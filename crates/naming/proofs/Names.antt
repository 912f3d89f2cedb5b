-- A name tells which link has failed: two links of a network with one name are one link. Two names with a number have the same number.
-- Two without have the same ends; were they of two links, each would be parallel to the other, and have a number.
use Prim.Native.Nat.{ℕ, ◌<◌}
use mathlib.Core.Bool.{Bool, true, false, true≢false}
use mathlib.Core.Path.{◌≡◌, refl, sym, ◌∙◌}
use mathlib.Core.List.{List}
use native.Mathlib.Decide.{ℕ_discrete}
use lib.ListN.{length, get_or}
use Rattle.net.specs.declared.interface.Link.{Link}
use Rattle.net.specs.declared.failure.Failure.TheVariants.{One}
use Rattle.naming.specs.Name.{has_twin, name_of}
use Rattle.naming.specs.declared.FailureName.TheVariants.{Ends, Twin}
use Rattle.naming.proofs.Twins.{twin_exactly}

module _ (low high : List ℕ) where
  -- what a link is called where it has a twin, and where it has none
  pub named_by_number : (k : Link) → has_twin low high k.0 ≡ true
      → name_of low high (One k) ≡ Twin (get_or low k.0 0) (get_or high k.0 0) k.0
  unfolding name_of
  named_by_number k e = simp e

  pub named_by_ends : (k : Link) → has_twin low high k.0 ≡ false
      → name_of low high (One k) ≡ Ends (get_or low k.0 0) (get_or high k.0 0)
  unfolding name_of
  named_by_ends k e = simp e

  pub names_tell_apart : (k l : Link) → k.0 < length low → l.0 < length low
      → name_of low high (One k) ≡ name_of low high (One l) → k.0 ≡ l.0
  names_tell_apart k l k_stands l_stands one = go (has_twin low high k.0) (has_twin low high l.0) refl refl
    where
      go : (t u : Bool) → has_twin low high k.0 ≡ t → has_twin low high l.0 ≡ u → k.0 ≡ l.0
      go true true t u = let same = sym (named_by_number k t) ∙ one ∙ named_by_number l u in cc
      go true false t u = let same = sym (named_by_number k t) ∙ one ∙ named_by_ends l u in cc
      go false true t u = let same = sym (named_by_ends k t) ∙ one ∙ named_by_number l u in cc
      go false false t u =
          let same = sym (named_by_ends k t) ∙ one ∙ named_by_ends l u in
          elim (ℕ_discrete l.0 k.0) [
            | yes e ↦ sym e
            | no other ↦
                absurd (true≢false (sym ((twin_exactly low high k.0).1
                (l.0, record { stands = l_stands; another = other; same_low = cc; same_high = cc })) ∙ t))
          ]
