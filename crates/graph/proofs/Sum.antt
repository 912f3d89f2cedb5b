-- Sums over lists of distinct numbers. The sum of w over such a list is its total: over every k below a bound, the share w k if k
-- lies in the list and 0 if not. With w = 1 that is the pigeonhole; with w = 2 ^ k the sum is the list read as a set of bits, so that
-- the order of two such sums is decided by the highest number that lies in only one of the lists.
use mathlib.Core.Path.{◌≡◌, refl, sym, ap, ◌∙◌}
use mathlib.Core.Logic.{◌⊎◌, inl, inr, ◌≢◌, ◌↔◌}
use mathlib.Core.List.{List, [], ◌∷◌}
use Prim.Native.Nat.{ℕ, zero, suc, ◌+◌, ◌*◌, ◌^◌, ◌/◌, ◌%◌, ◌≤◌, ◌<◌}
use native.Mathlib.Decide.{ℕ_discrete, dec_lt}
use native.Mathlib.Nat.{mul-le-mul_right, suc-mul, mul-add, add-mul, one-mul, two-pow-succ, one-le-pow, mul-add-div_right, div-eq_of_lt}
use native.Mathlib.Nat.{lt_of_lt_of_le, le_of_lt, le-add_left, le-add_right}
use native.Mathlib.Omega.{arith}
use lib.ListN.{length}
use lib.Bits.{bit_or, or_block, or_shifted_r, or_zero_r}
use Rattle.graph.specs.Set.{sum, pow}
use Rattle.graph.specs.Path.{Each, none, both, Distinct, Distinct.none as Distinct-none, fresh}

-- x stands in the list
pub data In (x : ℕ) : List ℕ → Type 0 where
  first : {y : ℕ} {l : List ℕ} → x ≡ y → In x (y ∷ l)
  further : {y : ℕ} {l : List ℕ} → In x l → In x (y ∷ l)

-- and it does not
abbrev pub Out : ℕ → List ℕ → Type 0
Out x = Each (λ y. x ≢ y)

pub in? : (x : ℕ) (l : List ℕ) → In x l ⊎ Out x l
in? x [] = inr none
in? x (y ∷ l) =
    elim (ℕ_discrete x y) [
      | yes e ↦ inl (first e)
      | no n ↦ elim (in? x l) [ inl i ↦ inl (further i) | inr o ↦ inr (both n o) ]
    ]

pub in_out : {x : ℕ} {l : List ℕ} → In x l → Out x l → ⊥
in_out (first e) (both n o) = n e
in_out (further i) (both n o) = in_out i o

-- the number if k stands in the list, else nothing
abbrev pub given : {k : ℕ} {l : List ℕ} → ℕ → In k l ⊎ Out k l → ℕ
given a (inl i) = a
given a (inr o) = 0

abbrev pub share : (ℕ → ℕ) → List ℕ → ℕ → ℕ
share w l k = given (w k) (in? k l)

abbrev pub total : (ℕ → ℕ) → List ℕ → ℕ → ℕ
total w l zero = 0
total w l (suc m) = share w l m + total w l m

module _ (w : ℕ → ℕ) where
  share_in : {l : List ℕ} {k : ℕ} → In k l → share w l k ≡ w k
  share_in {l} {k} i = go (in? k l)
    where
      go : (t : In k l ⊎ Out k l) → given (w k) t ≡ w k
      go (inl j) = refl
      go (inr o) = absurd (in_out i o)

  share_out : {l : List ℕ} {k : ℕ} → Out k l → share w l k ≡ 0
  share_out {l} {k} o = go (in? k l)
    where
      go : (t : In k l ⊎ Out k l) → given (w k) t ≡ 0
      go (inl i) = absurd (in_out i o)
      go (inr o) = refl

  share_most : (l : List ℕ) (k : ℕ) → share w l k ≤ w k
  share_most l k = elim (in? k l) [ inl i ↦ omega (arith, share_in i) | inr o ↦ omega (arith, share_out o) ]

  -- a number other than x keeps its share when x comes in
  share_other : (l : List ℕ) {x k : ℕ} → k ≢ x → share w (x ∷ l) k ≡ share w l k
  share_other l {x} {k} n =
      elim (in? k l) [
        | inl i ↦ share_in (further i) ∙ sym (share_in i)
        | inr o ↦ share_out (both n o) ∙ sym (share_out o)
      ]

  total_none : (m : ℕ) → total w [] m ≡ 0
  total_none zero = refl
  total_none (suc m) = omega (arith, share_out {l = []} {k = m} none, total_none m)

  total_other : (l : List ℕ) {x : ℕ} (m : ℕ) → m ≤ x → total w (x ∷ l) m ≡ total w l m
  total_other l zero h = refl
  total_other l {x} (suc m) h = omega (arith, share_other l {x = x} {k = m} (omega arith), total_other l {x = x} m (omega arith))

  total_add : {x : ℕ} {l : List ℕ} (m : ℕ) → Out x l → x < m → total w (x ∷ l) m ≡ w x + total w l m
  total_add zero o h = omega arith
  total_add {x} {l} (suc m) o h =
      elim (ℕ_discrete m x) [
        | yes e ↦
            let out : Out m l = rw (← e) at o in
            omega (arith, share_in (first {y = x} {l = l} e), ap w e, share_out out, total_other l {x = x} m (omega arith))
        | no n ↦ omega (arith, share_other l n, total_add m o (omega arith))
      ]

  -- the sum over a list of distinct numbers below m is its total
  pub total_sum : {l : List ℕ} (m : ℕ) → Distinct l → Each (λ x. x < m) l → sum w l ≡ total w l m
  total_sum m Distinct-none none = sym (total_none m)
  total_sum m (fresh o t) (both h e) = omega (arith, total_add m o h, total_sum m t e)

-- a list of distinct numbers below n is no longer than n
pub pigeonhole : (n : ℕ) {l : List ℕ} → Distinct l → Each (λ x. x < n) l → length l ≤ n
pigeonhole n {l} t e = omega (arith, ones l, total_sum (λ _. 1) n t e, most n)
  where
    ones : (l : List ℕ) → sum (λ _. 1) l ≡ length l
    ones [] = refl
    ones (x ∷ l) = omega (arith, ones l)

    most : (m : ℕ) → total (λ _. 1) l m ≤ m
    most zero = omega arith
    most (suc m) = omega (arith, share_most (λ _. 1) l m, most m)

-- Two pairs (a, x) and (b, y) compared first part first are compared as the numbers a * M + x and b * M + y, if x and y are below M.
ahead : (M a b : ℕ) {x : ℕ} (y : ℕ) → x < M → a < b → a * M + x < b * M + y
ahead M a b y hx h = omega (arith, mul-le-mul_right M h, suc-mul a M)

module _ (M a b : ℕ) {x y : ℕ} (hx : x < M) (hy : y < M) where
  pub le_pair : (a < b) ⊎ ((a ≡ b) × (x ≤ y)) → a * M + x ≤ b * M + y
  le_pair (inl h) = omega (arith, ahead M a b y hx h)
  le_pair (inr (e, h)) = omega (arith, ap (λ c. c * M) e)

  pub pair_le : a * M + x ≤ b * M + y → (a < b) ⊎ ((a ≡ b) × (x ≤ y))
  pair_le t =
      elim (dec_lt a b) [
        | yes h ↦ inl h
        | no n ↦ elim (dec_lt b a) [
          | yes h ↦ absurd (omega (arith, ahead M b a x hy h))
          | no n₂ ↦ let e : a ≡ b = omega arith in inr (e, omega (arith, ap (λ c. c * M) e))
        ]
      ]

  pub less_pair : (a < b) ⊎ ((a ≡ b) × (x < y)) → a * M + x < b * M + y
  less_pair (inl h) = ahead M a b y hx h
  less_pair (inr (e, h)) = omega (arith, ap (λ c. c * M) e)

  pub pair_less : a * M + x < b * M + y → (a < b) ⊎ ((a ≡ b) × (x < y))
  pair_less t = elim (pair_le (omega arith)) [ inl h ↦ inl h | inr (e, h) ↦ inr (e, omega (arith, ap (λ c. c * M) e)) ]

-- A list of distinct numbers as a set: each number k is the bit 2 ^ k.
each_in : {P : ℕ → Type 0} {x : ℕ} {l : List ℕ} → In x l → Each P l → P x
each_in (first e) (both p t) = rw e p
each_in (further i) (both p t) = each_in i t

pub each_map : {P Q : ℕ → Type 0} {l : List ℕ} → ((x : ℕ) → P x → Q x) → Each P l → Each Q l
each_map f none = none
each_map f (both p t) = both (f _ p) (each_map f t)

each_below : {m n : ℕ} {l : List ℕ} → m ≤ n → Each (λ x. x < m) l → Each (λ x. x < n) l
each_below h = each_map (λ x p. lt_of_lt_of_le p h)

-- any list has a bound; it can lie above k too
bounded : (k : ℕ) (l : List ℕ) → (m : ℕ) × (k < m) × Each (λ x. x < m) l
bounded k [] = (suc k, omega arith, none)
bounded k (x ∷ l) =
    let (m, h, t) = bounded k l in
    (m + suc x, omega arith, both (le-add_left (suc x) m) (each_below (le-add_right m (suc x)) t))

total_below : (l : List ℕ) (m : ℕ) → total pow l m < 2 ^ m
total_below l zero = omega arith
total_below l (suc m) = omega (arith, share_most pow l m, total_below l m)

pub sum_below : {l : List ℕ} (m : ℕ) → Distinct l → Each (λ x. x < m) l → sum pow l < 2 ^ m
sum_below {l} m t e = omega (arith, total_sum pow m t e, total_below l m)

-- a power above k is a multiple of the next power after k
multiple : (k m : ℕ) → k < m → (c : ℕ) × (2 ^ m ≡ c * 2 ^ suc k)
multiple k zero h = absurd (omega arith)
multiple k (suc m) h =
    elim (ℕ_discrete m k) [
      | yes e ↦ (1, rw e (sym (one-mul _)))
      | no n ↦ let (c, t) = multiple k m (omega arith) in (c + c, omega (arith, t, add-mul c c (2 ^ suc k)))
    ]

total_parts : (l : List ℕ) (k m : ℕ) → k < m → (a : ℕ) × (total pow l m ≡ a * 2 ^ suc k + total pow l (suc k))
total_parts l k zero h = absurd (omega arith)
total_parts l k (suc m) h =
    elim (ℕ_discrete m k) [
      | yes e ↦ (0, rw e (omega arith))
      | no n ↦
          let (a, t) = total_parts l k m (omega arith) in
          let (c, s) = multiple k m (omega arith) in
          elim (in? m l) [
            | inl i ↦ (a + c, omega (arith, t, s, share_in pow i, add-mul a c (2 ^ suc k)))
            | inr o ↦ (a, omega (arith, t, share_out pow o))
          ]
    ]

-- what lies above k, k itself, and what lies below it
parts : (k : ℕ) {l : List ℕ} → Distinct l → (a : ℕ) × (sum pow l ≡ a * 2 ^ suc k + (share pow l k + total pow l k))
parts k {l} t =
    let (m, h, b) = bounded k l in
    let (a, e) = total_parts l k m h in
    (a, total_sum pow m t b ∙ e)

-- the bit between what lies above k and what lies below it
bit_of : (a c k r : ℕ) → r < 2 ^ k → c < 2 → (a * 2 ^ suc k + (c * 2 ^ k + r)) / 2 ^ k % 2 ≡ c
bit_of a c k r h hc =
    let twice : a * 2 ^ suc k ≡ a * 2 ^ k + a * 2 ^ k = ap (λ x. a * x) (two-pow-succ k) ∙ mul-add a _ _ in
    let regroup : a * 2 ^ suc k + (c * 2 ^ k + r) ≡ (a + a + c) * 2 ^ k + r =
    omega (arith, add-mul (a + a) c (2 ^ k), add-mul a a (2 ^ k)) in
    rw (regroup, mul-add-div_right (one-le-pow k 2 (omega arith)) (a + a + c) r, div-eq_of_lt h) (omega arith)

-- the bit of k tells whether k stands in the list
pub bit_in : {k : ℕ} {l : List ℕ} → Distinct l → In k l → sum pow l / 2 ^ k % 2 ≡ 1
bit_in {k} {l} t i =
    let (a, e) = parts k t in
    let e₂ : sum pow l ≡ a * 2 ^ suc k + (1 * 2 ^ k + total pow l k) = omega (arith, e, share_in pow i) in
    rw e₂ (bit_of a 1 k (total pow l k) (total_below l k) (omega arith))

pub bit_out : {k : ℕ} {l : List ℕ} → Distinct l → Out k l → sum pow l / 2 ^ k % 2 ≡ 0
bit_out {k} {l} t o =
    let (a, e) = parts k t in
    let e₂ : sum pow l ≡ a * 2 ^ suc k + (0 * 2 ^ k + total pow l k) = omega (arith, e, share_out pow o) in
    rw e₂ (bit_of a 0 k (total pow l k) (total_below l k) (omega arith))

-- to set the bit of k is to put k in
pub set_insert : {k : ℕ} {l : List ℕ} → Distinct l → Out k l → bit_or (sum pow l) (2 ^ k) ≡ sum pow (k ∷ l)
set_insert {k} {l} t o =
    let (a, e) = parts k t in
    let r = total pow l k in
    let h : r < 2 ^ k = total_below l k in
    let e₂ : sum pow l ≡ a * 2 ^ suc k + r = omega (arith, e, share_out pow o) in
    let bit : 0 * 2 ^ suc k + 1 * 2 ^ k ≡ 2 ^ k = omega arith in
    let joined : bit_or (a * 2 ^ suc k + r) (0 * 2 ^ suc k + 1 * 2 ^ k) ≡ a * 2 ^ suc k + (1 * 2 ^ k + r) =
    or_block (suc k) a 0 r (1 * 2 ^ k) (omega arith) (omega arith) ∙ rw (or_zero_r, or_shifted_r 1 k r h) in
    rw (e₂, ← bit, joined) (omega arith)

-- equal sums of powers are equal sets
pub same_members : {l l₂ : List ℕ} {k : ℕ} → Distinct l → Distinct l₂ → sum pow l ≡ sum pow l₂ → In k l → In k l₂
same_members {l} {l₂} {k} s t e i =
    elim (in? k l₂) [
      | inl j ↦ j
      | inr o ↦
          let bits : sum pow l / 2 ^ k % 2 ≡ sum pow l₂ / 2 ^ k % 2 = rw e in
          absurd (omega (arith, bit_in s i, bit_out t o, bits))
    ]

-- the highest number that stands in only one of the lists stands in the second
pub record Differ (l l₂ : List ℕ) : Type 0 where
  pub highest : ℕ
  pub on : In highest l₂
  pub off : In highest l → ⊥
  pub above : (k : ℕ) → highest < k → In k l ↔ In k l₂

-- the same, of the numbers below m
abbrev DifferBelow : List ℕ → List ℕ → ℕ → Type 0
DifferBelow l l₂ m = (h : ℕ) × In h l₂ × (In h l → ⊥) × ((k : ℕ) → h < k → k < m → In k l ↔ In k l₂)

differ_next : {l l₂ : List ℕ} {m : ℕ} → In m l ↔ In m l₂ → DifferBelow l l₂ m → DifferBelow l l₂ (suc m)
differ_next {l} {l₂} {m} s (h, on, off, above) =
    (h, on, off, λ k hk hm. elim (ℕ_discrete k m) [ yes e ↦ rw e s | no n ↦ above k hk (omega arith) ])

total_differ : (l l₂ : List ℕ) (m : ℕ) → total pow l m < total pow l₂ m → DifferBelow l l₂ m
total_differ l l₂ zero h = absurd (omega arith)
total_differ l l₂ (suc m) h =
    elim (in? m l) [
      | inl i ↦ elim (in? m l₂) [
        | inl j ↦ differ_next (λ _. j, λ _. i) (total_differ l l₂ m (omega (arith, share_in pow i, share_in pow j)))
        | inr o ↦ absurd (omega (arith, share_in pow i, share_out pow o, total_below l₂ m))
      ]
      | inr u ↦ elim (in? m l₂) [
        | inl j ↦ (m, j, λ i. in_out i u, λ k hk hm. absurd (omega arith))
        | inr o ↦ differ_next (λ i. absurd (in_out i u), λ i. absurd (in_out i o))
            (total_differ l l₂ m (omega (arith, share_out pow u, share_out pow o)))
      ]
    ]

pub sum_differ : {l l₂ : List ℕ} → Distinct l → Distinct l₂ → sum pow l < sum pow l₂ → Differ l l₂
sum_differ {l} {l₂} s t less =
    let (m₁, _, b₁) = bounded 0 l in
    let (m, more, b₂) = bounded m₁ l₂ in
    let b = each_below (le_of_lt more) b₁ in
    let (h, on, off, above) = total_differ l l₂ m (omega (arith, total_sum pow m s b, total_sum pow m t b₂)) in
    record {
      highest = h;
      on = on;
      off = off;
      above = λ k hk. (
        λ i. (above k hk (each_in i b)).0 i,
        λ i. (above k hk (each_in i b₂)).1 i,
      );
    }

-- and where it does, the first sum is the smaller
pub differ_sum : {l l₂ : List ℕ} → Distinct l → Distinct l₂ → Differ l l₂ → sum pow l < sum pow l₂
differ_sum {l} {l₂} s t d =
    elim (dec_lt (sum pow l) (sum pow l₂)) [
      | yes h ↦ h
      | no n ↦ elim (ℕ_discrete (sum pow l) (sum pow l₂)) [
        | yes e ↦ absurd (d.off (same_members t s (sym e) d.on))
        | no n₂ ↦ absurd (opposite (sum_differ t s (omega arith)))
      ]
    ]
  where
    opposite : Differ l₂ l → ⊥
    opposite c =
        elim (dec_lt d.highest c.highest) [
          | yes h ↦ c.off ((d.above _ h).0 c.on)
          | no n ↦ elim (dec_lt c.highest d.highest) [
            | yes h ↦ d.off ((c.above _ h).0 d.on)
            | no n₂ ↦ let e : c.highest ≡ d.highest = omega arith in d.off (rw e at c.on)
          ]
        ]
