-- The code's cost and the mathematics' are the same: the pair of weight sum and set of links, compared first part first, is the one
-- number (weight sum) * 2 ^ links + (set), as long as the set is below 2 ^ links. So a known pair says all of the chain behind it:
-- its weight sum and its set of links. And as that chain crosses no link twice, its sum has room for one link more.
use Prim.Native.Nat.{ℕ, ◌+◌, ◌*◌, ◌^◌, ◌-◌, ◌≤◌, ◌<◌}
use mathlib.Core.Bool.{true, false}
use mathlib.Core.Path.{◌≡◌, refl, sym, ap, ◌∙◌}
use mathlib.Core.Logic.{◌⊎◌, inl, inr}
use mathlib.Core.List.{List, [], map}
use mathlib.Core.Option.{Option, none, some}
use native.Mathlib.Nat.{suc-mul, mul-le-mul_right, one-le-pow}
use native.Mathlib.Decide.{ℕ_discrete, dec_lt}
use native.Mathlib.Omega.{arith}
use borrow.Author.Tests.{lt-ltb, le-ltb, eq-eqb, ne_eqb}
use lib.ListN.{length}
use Rattle.graph.specs.Network.{Network, WellFormed, link}
use Rattle.graph.specs.Path.{Chain, stop, step, Each, Distinct, weight_sum}
use Rattle.graph.specs.Set.{link_set}
use Rattle.graph.proofs.Chain.{cost}
use Rattle.graph.proofs.Sum.{pair_le, less_pair, pigeonhole}
use Rattle.graph.proofs.Order.{LinksOnce, cost_pair, set_below, chain_numbered}
use Rattle.graph.proofs.Rounds.{Column, Known, no_entry}
use Rattle.net.specs.Limits.{most_links, most_weight}
use Rattle.net.specs.Choice.{pick}
use Rattle.net.specs.inner.LinkSet.{value, with_link}
use Rattle.net.proofs.LinkSets.{value_none, before_value}
use Rattle.paths.specs.inner.Cost.{unknown, no_cost, here_cost, is_known, before, extended}
use Rattle.paths.specs.declared.cost.Cost.{Cost}

-- what the code's numbers have room for
pub record Limited (N : Network) : Type 0 where
  pub few_links : N.links ≤ most_links
  pub light : (k : ℕ) → N.Present k → N.weight k ≤ most_weight

-- the pair as one number
abbrev pub number : Network → Cost → ℕ
number N c = c.sum * 2 ^ N.links + value c.links

-- the pair as an entry of a column
abbrev pub entry : Network → Cost → Option ℕ
entry N c = pick (is_known c) (some (number N c)) none

-- what stands in a column: nothing known, or a pair within bounds
pub data Fits (N : Network) (c : Cost) : Type 0 where
  blank : c ≡ no_cost → Fits N c
  known : c.sum < unknown → value c.links < 2 ^ N.links → Fits N c

-- weight sum first, then the set
abbrev pub Lower : Cost → Cost → Type 0
Lower a b = (a.sum < b.sum) ⊎ ((a.sum ≡ b.sum) × (value a.links < value b.links))

pub before? : (a b : Cost) → ((before a b ≡ true) × Lower a b) ⊎ ((before a b ≡ false) × (Lower a b → ⊥))
unfolding before
before? a b =
    elim (dec_lt a.sum b.sum) [
      | yes h ↦ inl (simp (lt-ltb _ _ h), inl h)
      | no h ↦
          let not_less = le-ltb a.sum b.sum (omega arith) in
          elim (ℕ_discrete a.sum b.sum) [
            | no e ↦ inr (simp (not_less, ne_eqb _ _ e), λ t. elim t [ inl s ↦ h s | inr s ↦ e s.0 ])
            | yes e ↦ elim (dec_lt (value a.links) (value b.links)) [
              | yes l ↦ inl (simp (not_less, eq-eqb _ _ e, before_value a.links b.links, lt-ltb _ _ l), inr (e, l))
              | no l ↦
                  let not_before = le-ltb (value a.links) (value b.links) (omega arith) in
                  inr (
                    simp (not_less, eq-eqb _ _ e, before_value a.links b.links, not_before),
                    λ t. elim t [ inl s ↦ h s | inr s ↦ l s.1 ],
                  )
            ]
          ]
    ]

-- one link more, where the sum has room for it
pub extended_known : (c : Cost) (weight k f : ℕ) → c.sum + weight < unknown
    → extended c weight k f ≡ record { sum = c.sum + weight; links = with_link c.links k; first = f }
unfolding extended
extended_known c weight k f h = simp (lt-ltb c.sum (unknown - weight) (omega arith))

pub extended_blank : (weight k f : ℕ) → extended no_cost weight k f ≡ no_cost
unfolding extended no_cost
extended_blank weight k f = simp (le-ltb unknown (unknown - weight) (omega arith))

-- pairs that are equal as numbers are equal
equal_pair : (M a b x y : ℕ) → x < M → y < M → a * M + x ≡ b * M + y → (a ≡ b) × (x ≡ y)
equal_pair M a b x y hx hy e =
    elim (pair_le M a b hx hy (omega arith)) [
      | inl h ↦ absurd (omega (arith, less_pair M a b hx hy (inl h)))
      | inr (s, h) ↦ (s, omega (arith, ap (λ c. c * M) s))
    ]

pub blank_sum : {c : Cost} → c ≡ no_cost → c.sum ≡ unknown
unfolding no_cost
blank_sum e = ap (λ (a : Cost). a.sum) e

module _ (N : Network) where
  pub entry_known : (c : Cost) → c.sum < unknown → entry N c ≡ some (number N c)
  unfolding is_known
  entry_known c h = simp (lt-ltb c.sum unknown h)

  pub entry_blank : entry N no_cost ≡ none
  unfolding is_known no_cost
  entry_blank = refl

  -- the cost of the destination itself
  pub fits_here : Fits N here_cost
  unfolding here_cost
  fits_here = known (omega arith) (omega (arith, value_none, one-le-pow N.links 2 (omega arith)))

  pub entry_here : entry N here_cost ≡ some 0
  unfolding here_cost
  entry_here = entry_known here_cost (omega arith) ∙ ap some (omega (arith, value_none))

  pub blank_not_lower : (c : Cost) → Fits N c → Lower no_cost c → ⊥
  unfolding no_cost
  blank_not_lower c (blank e) (inl h) = omega (arith, blank_sum e)
  blank_not_lower c (blank e) (inr h) = omega (arith, value_none, ap (λ (a : Cost). value a.links) e)
  blank_not_lower c (known s l) (inl h) = omega arith
  blank_not_lower c (known s l) (inr h) = omega arith

  -- the pair behind an entry
  pub record Within (c : Cost) (v : ℕ) : Type 0 where
    pub sum : c.sum < unknown
    pub set : value c.links < 2 ^ N.links
    pub is : number N c ≡ v

  pub entry_within : (c : Cost) (v : ℕ) → Fits N c → entry N c ≡ some v → Within c v
  entry_within c v (blank e) q = absurd (no_entry (ap (entry N) e ∙ entry_blank) q)
  entry_within c v (known s l) q =
      let p = entry_known c s in
      record { sum = s; set = l; is = cc }

  -- a chain weighs at most as many times the greatest weight as it has links
  weight_most : (most : ℕ) → ((k : ℕ) → N.Present k → N.weight k ≤ most) → {i d : ℕ} {p : List ℕ} → Chain N i p d
      → weight_sum N p ≤ length (map link p) * most
  unfolding weight_sum
  weight_most most light (stop e) = omega arith
  weight_most most light (step {f = f} {p = p} present e c) =
      omega (arith, weight_most most light c, light (link f) present, suc-mul (length (map link p)) most)

  -- a pair that costs what a chain costs that crosses no link twice is that chain's
  pub pair_of_chain : (c : Cost) (p : List ℕ) → value c.links < 2 ^ N.links → LinksOnce N p → number N c ≡ cost N p
      → (c.sum ≡ weight_sum N p) × (value c.links ≡ link_set p)
  pair_of_chain c p h once e =
      equal_pair (2 ^ N.links) c.sum (weight_sum N p) (value c.links) (link_set p) h (set_below N once) (e ∙ cost_pair N p)

  pub pair_of_nothing : (c : Cost) → value c.links < 2 ^ N.links → number N c ≡ 0 → (c.sum ≡ 0) × (value c.links ≡ 0)
  unfolding weight_sum
  pair_of_nothing c h e = pair_of_chain c [] h (record { distinct = Distinct.none; numbered = Each.none }) e

  module _ (X : ℕ → Type 0) (d : ℕ) where
    -- the chain behind a known pair: its weight sum and its set are the pair
    pub record Behind (D : Column) (i : ℕ) (c : Cost) : Type 0 where
      pub known : Known N X d D i (number N c)
      pub links_once : LinksOnce N known.way
      pub sum : c.sum ≡ weight_sum N known.way
      pub set : value c.links ≡ link_set known.way

    pub behind : WellFormed N → {D : Column} {i : ℕ} (c : Cost) → value c.links < 2 ^ N.links → Known N X d D i (number N c)
        → Behind D i c
    behind W c h k =
        let once : LinksOnce N k.way = record { distinct = k.once; numbered = chain_numbered N W k.chain } in
        let pair = pair_of_chain c k.way h once (sym k.costs) in
        record { known = k; links_once = once; sum = pair.0; set = pair.1 }

    -- and one link more still has a known sum
    pub behind_light : Limited N → {D : Column} {i : ℕ} {c : Cost} → Behind D i c → c.sum + most_weight < unknown
    behind_light L {c = c} b =
        omega (
          arith,
          b.sum,
          weight_most most_weight L.light b.known.chain,
          mul-le-mul_right most_weight (pigeonhole N.links b.links_once.distinct b.links_once.numbered),
          mul-le-mul_right most_weight L.few_links,
        )
