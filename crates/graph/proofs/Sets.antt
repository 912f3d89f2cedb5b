-- Sets of links as numbers. The links of a path, each as its bit, are the set of the links that lie on it; a set is told by its bits,
-- so one property has one number; and the laws for a loop that goes through the links by number and sets the bit of each that has the
-- property. The bit of a union is the greater of the two bits, the bit of an intersection the smaller, and a single power is the set of
-- one link; a number that is not 0 has a bit, so two sets whose intersection is not 0 have a link in common.
use mathlib.Core.Path.{◌≡◌, refl, sym, ◌∙◌}
use mathlib.Core.Logic.{◌⊎◌, inl, inr, ◌≢◌, ◌↔◌}
use mathlib.Core.List.{List, [], ◌∷◌, map}
use Prim.Native.Nat.{ℕ, zero, suc, ◌^◌, ◌/◌, ◌%◌, ◌≤◌, ◌<◌, min, max}
use native.Mathlib.Decide.{ℕ_discrete}
use native.Mathlib.Nat.{div-div-eq-div-mul, pow-succ', zero-div, div-one, one-le-pow, add-zero}
use native.Mathlib.Omega.{arith}
use lib.Bits.{bit_and, bit_or, and_shr, and_step, or_lt, or_shr, or_step}
use Rattle.graph.specs.Network.{Network, WellFormed, link}
use Rattle.graph.specs.Path.{Path, Lies, none, both, Distinct, Distinct.none as Distinct-none, fresh}
use Rattle.graph.specs.Set.{bit, SetOf, link_set}
use Rattle.graph.proofs.Sum.{first, in?, sum_below, bit_in, bit_out}
use Rattle.graph.proofs.Order.{lies_in, in_lies, set_below, links_once}

-- the links that lie on a path, by any number
pub path_bit : {N : Network} {i d : ℕ} {p : List ℕ} → WellFormed N → Path N i p d → (k : ℕ) → (bit k (link_set p) ≡ 1) ↔ Lies k p
path_bit {N} {p = p} W s k =
    let once = (links_once N W s).distinct in (
      λ e. elim (in? k (map link p)) [ inl i ↦ in_lies p i | inr o ↦ absurd (omega (arith, e, bit_out once o)) ],
      λ l. bit_in once (lies_in l),
    )

pub set_of_path : {N : Network} {i d : ℕ} {p : List ℕ} → WellFormed N → Path N i p d → SetOf N.links (λ k. Lies k p) (link_set p)
set_of_path {N} W s = record { below = set_below N (links_once N W s); bits = λ k h. path_bit W s k }

-- the bits of the half are those of the number, one place lower
bit_half : (n k : ℕ) → bit (suc k) n ≡ bit k (n / 2)
bit_half n k = rw (pow-succ' 2 k, ← div-div-eq-div-mul n 2 (2 ^ k))

-- numbers with the same bits are equal
same_bits : (links : ℕ) {s t : ℕ} → s < 2 ^ links → t < 2 ^ links → ((k : ℕ) → k < links → bit k s ≡ bit k t) → s ≡ t
same_bits zero hs ht same = omega arith
same_bits (suc links) {s} {t} hs ht same =
    let rest : s / 2 ≡ t / 2 =
    same_bits links (omega arith) (omega arith) (λ k h. sym (bit_half s k) ∙ same (suc k) (omega arith) ∙ bit_half t k) in
    let low : s % 2 ≡ t % 2 = rw (div-one s, div-one t) at (same 0 (omega arith)) in
    omega arith

-- a number that is not 0 has a bit: the lowest, or one of its half's; `most` bounds the halves to come
bit_within : (most n : ℕ) → n ≤ most → n ≢ 0 → (k : ℕ) × (bit k n ≡ 1)
bit_within zero n h not_zero = absurd (not_zero (omega arith))
bit_within (suc most) n h not_zero =
    elim (ℕ_discrete (n % 2) 1) [
      | yes odd ↦ (0, rw (div-one n) odd)
      | no even ↦
          let rest = bit_within most (n / 2) (omega arith) (λ e. not_zero (omega arith)) in
          (suc rest.0, bit_half n rest.0 ∙ rest.1)
    ]

pub some_bit : (n : ℕ) → n ≢ 0 → (k : ℕ) × (bit k n ≡ 1)
some_bit n not_zero = bit_within n n (omega arith) not_zero

module _ {links : ℕ} {P : ℕ → Type 0} where
  -- one property, one set
  pub set_one : {s t : ℕ} → SetOf links P s → SetOf links P t → s ≡ t
  set_one {s} {t} a b =
      same_bits links a.below b.below
      (λ k h. elim (ℕ_discrete (bit k s) 1) [
        | yes e ↦ e ∙ sym ((b.bits k h).1 ((a.bits k h).0 e))
        | no n ↦ elim (ℕ_discrete (bit k t) 1) [ yes e ↦ absurd (n ((a.bits k h).1 ((b.bits k h).0 e))) | no m ↦ omega arith ]
      ])

  pub set_empty : ((k : ℕ) → P k → ⊥) → SetOf links P 0
  set_empty empty = record {
    below = one-le-pow links 2 (omega arith);
    bits = λ k h. (λ e. absurd (omega (arith, zero-div (2 ^ k), e)), λ p. absurd (empty k p));
  }

  pub set_same : {Q : ℕ → Type 0} {s : ℕ} → ((k : ℕ) → k < links → P k ↔ Q k) → SetOf links P s → SetOf links Q s
  set_same same a = record {
    below = a.below;
    bits = λ k h. (λ e. (same k h).0 ((a.bits k h).0 e), λ q. (a.bits k h).1 ((same k h).1 q));
  }

pub bit-bit_or : (k a b : ℕ) → bit k (bit_or a b) ≡ max (bit k a) (bit k b)
bit-bit_or k a b = rw (or_shr a b k) (omega (arith, or_step (a / 2 ^ k) (b / 2 ^ k)))

pub bit-bit_and : (k a b : ℕ) → bit k (bit_and a b) ≡ min (bit k a) (bit k b)
bit-bit_and k a b = rw (and_shr a b k) (omega (arith, and_step (a / 2 ^ k) (b / 2 ^ k)))

-- a power is the set of one link
alone : (k : ℕ) → Distinct (k ∷ [])
alone k = fresh none Distinct-none

pub bit_own : (k : ℕ) → bit k (2 ^ k) ≡ 1
bit_own k = rw (add-zero (2 ^ k)) at (bit_in {l = k ∷ []} (alone k) (first refl))

pub bit_other : (k l : ℕ) → l ≢ k → bit l (2 ^ k) ≡ 0
bit_other k l n = rw (add-zero (2 ^ k)) at (bit_out {l = k ∷ []} (alone k) (both n none))

-- one link more
pub set_with : {links : ℕ} {P : ℕ → Type 0} {s k : ℕ} → SetOf links P s → k < links
    → SetOf links (λ l. P l ⊎ (l ≡ k)) (bit_or s (2 ^ k))
set_with {links} {P} {s} {k} a hk = record {
  below = or_lt links s (2 ^ k) a.below (omega (arith, sum_below links (alone k) (both hk none)));
  bits = λ l h. (
    λ e. elim (ℕ_discrete l k) [ yes q ↦ inr q | no n ↦ inl ((a.bits l h).0 (omega (arith, e, bit-bit_or l s (2 ^ k), bit_other k l n))) ],
    λ t. elim t [
      | inl p ↦ omega (arith, bit-bit_or l s (2 ^ k), (a.bits l h).1 p)
      | inr q ↦ rw q (omega (arith, bit-bit_or k s (2 ^ k), bit_own k))
    ],
  );
}

-- A loop through the links by number has passed those below k: what it starts with, what it does at k, and what it has at the end.
module _ {links : ℕ} {Q : ℕ → Type 0} where
  pub set_start : SetOf links (λ l. (l < 0) × Q l) 0
  set_start = set_empty (λ k t. let none_below = t.0 in omega arith)

  pub set_taken : {k s : ℕ} → k < links → Q k → SetOf links (λ l. (l < k) × Q l) s
      → SetOf links (λ l. (l < suc k) × Q l) (bit_or s (2 ^ k))
  set_taken {k} hk has a = set_same (λ l h. (to l, from l)) (set_with a hk)
    where
      to : (l : ℕ) → ((l < k) × Q l) ⊎ (l ≡ k) → (l < suc k) × Q l
      to l (inl (below, q)) = (omega arith, q)
      to l (inr e) = (omega arith, rw e has)

      from : (l : ℕ) → (l < suc k) × Q l → ((l < k) × Q l) ⊎ (l ≡ k)
      from l (below, q) = elim (ℕ_discrete l k) [ yes e ↦ inr e | no n ↦ inl (omega arith, q) ]

  pub set_passed : {k s : ℕ} → (Q k → ⊥) → SetOf links (λ l. (l < k) × Q l) s → SetOf links (λ l. (l < suc k) × Q l) s
  set_passed {k} has_not a = set_same (λ l h. (to l, from l)) a
    where
      to : (l : ℕ) → (l < k) × Q l → (l < suc k) × Q l
      to l (below, q) = (omega arith, q)

      from : (l : ℕ) → (l < suc k) × Q l → (l < k) × Q l
      from l (below, q) = elim (ℕ_discrete l k) [ yes e ↦ absurd (has_not (rw e at q)) | no n ↦ (omega arith, q) ]

  pub set_whole : {s : ℕ} → SetOf links (λ l. (l < links) × Q l) s → SetOf links Q s
  set_whole a = set_same (λ l h. (λ t. t.1, λ q. (h, q))) a
