-- The laws of sets of links: each operation by the set's number, and by the links that are in it. What is above this crate cites these
-- and sees no word.
use Prim.Native.Nat.{ℕ, ◌^◌, ◌/◌, ◌≤◌, ◌<◌, max}
use mathlib.Core.Bool.{Bool, true, false, true≢false}
use mathlib.Core.Path.{◌≡◌, refl, sym, ap, ◌∙◌}
use mathlib.Core.Logic.{◌≢◌, ◌↔◌}
use native.Mathlib.Nat.{zero-div, div-eq_of_lt, pow-le-pow_right}
use native.Mathlib.Omega.{arith}
use borrow.Author.Tests.{eq-eqb, ne_eqb, eqb-true, eqb-false, not-true, not-false}
use lib.Bits.{bit_and, bit_or}
use lib.Dec.{ltb, eqb}
use Rattle.graph.specs.Set.{bit}
use Rattle.graph.proofs.Sets.{bit-bit_or, bit_own, bit_other, bit-bit_and, some_bit}
use Rattle.net.specs.inner.LinkSet.{value, no_links, with_link, has_link, is_empty, comes_before, meeting, Without}
use Rattle.net.specs.declared.link_set.LinkSet.{LinkSet}

-- by the number
pub value_none : value no_links ≡ 0
unfolding value no_links
value_none = refl

pub value_with : (s : LinkSet) (k : ℕ) → value (with_link s k) ≡ bit_or (value s) (2 ^ k)
unfolding value with_link
value_with s k = refl

pub before_value : (a b : LinkSet) → comes_before a b ≡ ltb (value a) (value b)
unfolding comes_before
before_value a b = refl

pub empty_value : (s : LinkSet) → (is_empty s ≡ true) ↔ (value s ≡ 0)
unfolding is_empty
empty_value s = (eqb-true (value s) 0, eq-eqb (value s) 0)

pub some_value : (s : LinkSet) → (is_empty s ≡ false) ↔ (value s ≢ 0)
unfolding is_empty
some_value s = (eqb-false (value s) 0, ne_eqb (value s) 0)

pub has_bit : (s : LinkSet) (k : ℕ) → (has_link s k ≡ true) ↔ (bit k (value s) ≡ 1)
unfolding has_link
has_bit s k = (eqb-true (bit k (value s)) 1, eq-eqb (bit k (value s)) 1)

pub has_not_bit : (s : LinkSet) (k : ℕ) → Without s k ↔ (bit k (value s) ≡ 0)
unfolding has_link
has_not_bit s k = (λ e. omega (arith, eqb-false (bit k (value s)) 1 e), λ e. ne_eqb (bit k (value s)) 1 (λ q. omega arith))

-- a word of any width has no link past its bits
pub has_link_past : (s : LinkSet) (width k : ℕ) → value s < 2 ^ width → width ≤ k → Without s k
has_link_past s width k small past =
    let wide : 2 ^ width ≤ 2 ^ k = pow-le-pow_right {n = 2} (omega arith) past in
    let none : value s / 2 ^ k ≡ 0 = div-eq_of_lt (omega arith) in
    (has_not_bit s k).1 (rw none refl)

-- by the links: one that is in the set is not left in when the set is taken out
pub not_both : (s : LinkSet) (k : ℕ) → has_link s k ≡ true → Without s k → ⊥
not_both s k has lacks = true≢false (sym has ∙ lacks)

pub without? : (s : LinkSet) (k : ℕ) → Dec (Without s k)
without? s k = go (has_link s k) refl
  where
    go : (b : Bool) → has_link s k ≡ b → Dec (Without s k)
    go false e = yes e
    go true e = no (not_both s k e)

pub without_none : (k : ℕ) → Without no_links k
without_none k = (has_not_bit no_links k).1 (rw (value_none, zero-div (2 ^ k)) refl)

pub without_with : (s : LinkSet) (k l : ℕ) → Without (with_link s k) l ↔ (Without s l × (l ≢ k))
without_with s k l = (to, from)
  where
    bits : bit l (value (with_link s k)) ≡ max (bit l (value s)) (bit l (2 ^ k))
    bits = rw (value_with s k) (bit-bit_or l (value s) (2 ^ k))

    to : Without (with_link s k) l → Without s l × (l ≢ k)
    to e =
        let lacks = (has_not_bit (with_link s k) l).0 e in
        ((has_not_bit s l).1 (omega (arith, lacks, bits)), λ q. omega (arith, lacks, bits, bit_own k, ap (λ j. bit j (2 ^ k)) q))

    from : Without s l × (l ≢ k) → Without (with_link s k) l
    from (lacks, other) = (has_not_bit (with_link s k) l).1 (omega (arith, (has_not_bit s l).0 lacks, bits, bit_other k l other))

-- one link alone
pub without_one : (k l : ℕ) → Without (with_link no_links k) l ↔ (l ≢ k)
without_one k l = (λ e. ((without_with no_links k l).0 e).1, λ n. (without_with no_links k l).1 (without_none l, n))

-- two sets that do not meet have no link in common, and two that do have one
pub apart : (a b : LinkSet) → meeting a b ≡ false → (k : ℕ) → has_link a k ≡ true → Without b k
unfolding meeting
apart a b e k has =
    let nothing : bit_and (value a) (value b) ≡ 0 = eqb-true _ _ (not-false (eqb (bit_and (value a) (value b)) 0) e) in
    let lacks : bit k (bit_and (value a) (value b)) ≡ 0 = rw (nothing, zero-div (2 ^ k)) refl in
    (has_not_bit b k).1 (omega (arith, lacks, bit-bit_and k (value a) (value b), (has_bit a k).0 has))

pub common : (a b : LinkSet) → meeting a b ≡ true → (k : ℕ) × (has_link a k ≡ true) × (has_link b k ≡ true)
unfolding meeting
common a b e =
    let something : bit_and (value a) (value b) ≢ 0 = eqb-false _ _ (not-true (eqb (bit_and (value a) (value b)) 0) e) in
    let (k, has) = some_bit (bit_and (value a) (value b)) something in
    let bits = bit-bit_and k (value a) (value b) in
    (k, (has_bit a k).1 (omega (arith, has, bits)), (has_bit b k).1 (omega (arith, has, bits)))
