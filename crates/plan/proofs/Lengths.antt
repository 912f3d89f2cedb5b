-- The bytes of a stored plan one step at a time, and how many they are: a number's first group, a number's length, the links from one
-- on, and that no plan is longer than `longest`: nodes, differences and both counts take one group, and only a weight may take all.
use Prim.Native.Nat.{ℕ, zero, suc, ◌+◌, ◌*◌, ◌-◌, ◌/◌, ◌%◌, ◌^◌, ◌≤◌, ◌<◌}
use mathlib.Core.Path.{◌≡◌, refl, ap, ◌∙◌}
use mathlib.Core.List.{[], ◌∷◌, ◌++◌}
use native.Mathlib.Numerals.{add-one}
use native.Mathlib.Decide.{dec_lt}
use native.Mathlib.Omega.{arith}
use borrow.Author.Tests.{lt-ltb, le-ltb}
use lib.ListN.{length, get_or, length-append}
use Rattle.net.specs.Limits.{most_links}
use Rattle.net.specs.Rows.{Rows}
use Rattle.net.specs.Check.{Accepted}
use Rattle.plan.specs.Number.{base, groups, most_stored, groups_of, stored}
use Rattle.plan.specs.Plan.{link_bytes, link_bytes_at, links_bytes, plan_start, plan_of, longest_link, longest}

-- how the groups of a number begin
pub groups_small : (more v : ℕ) → v < base → groups_of more v ≡ v ∷ []
unfolding groups_of
groups_small zero v small = refl
groups_small (suc more) v small = simp (lt-ltb v base small)

pub groups_large : (more v : ℕ) → base ≤ v → groups_of (suc more) v ≡ (v % base + base) ∷ groups_of more (v / base)
unfolding groups_of
groups_large more v large = simp (le-ltb v base large)

-- a number below the base is its own last group
pub stored_last : (v : ℕ) → v < base → stored v ≡ v ∷ []
unfolding stored
stored_last v small = groups_small (groups - 1) v small

-- above that its first group stands before the groups of the rest: three groups are enough for it, so two are for the rest, and a third
-- that may follow them changes nothing
pub stored_more : (v : ℕ) → base ≤ v → v < most_stored → stored v ≡ (v % base + base) ∷ stored (v / base)
unfolding stored groups_of
stored_more v h small =
    elim (dec_lt (v / base) base) [
      | yes l ↦ simp (le-ltb v base h, lt-ltb (v / base) base l)
      | no g ↦
          let over : base ≤ v / base = omega arith in
          let last : v / base / base < base = omega arith in
          simp (le-ltb v base h, le-ltb (v / base) base over, lt-ltb (v / base / base) base last)
    ]

-- how many groups a number has
pub one_group : (v : ℕ) → v < base → length (stored v) ≡ 1
one_group v h = ap length (stored_last v h)

pub two_groups : (v : ℕ) → base ≤ v → v < base ^ 2 → length (stored v) ≡ 2
two_groups v h small =
    let rest : v / base < base = omega arith in
    let fits : v < most_stored = omega arith in
    ap length (stored_more v h fits) ∙ ap suc (one_group (v / base) rest)

pub three_groups : (v : ℕ) → base ^ 2 ≤ v → v < most_stored → length (stored v) ≡ 3
three_groups v h small =
    let some : base ≤ v = omega arith in
    let least : base ≤ v / base = omega arith in
    let most : v / base < base ^ 2 = omega arith in
    ap length (stored_more v some small) ∙ ap suc (two_groups (v / base) least most)

-- no number takes more than the most groups, not even one that cannot be stored
few_groups_of : (more v : ℕ) → length (groups_of more v) ≤ suc more
unfolding groups_of
few_groups_of zero v = omega arith
few_groups_of (suc more) v =
    elim (dec_lt v base) [
      | yes small ↦ rw (groups_small (suc more) v small) (omega arith)
      | no large ↦ rw (groups_large more v (omega arith)) (omega (arith, few_groups_of more (v / base)))
    ]

pub few_groups : (v : ℕ) → length (stored v) ≤ groups
unfolding stored
few_groups v = few_groups_of (groups - 1) v

-- the same of a count that was made of them
pub few_counted : (count v : ℕ) → count ≡ length (stored v) → count ≤ groups
few_counted count v e = rw e (few_groups v)

-- a link takes three numbers
pub length_link : (low high weight : ℕ)
    → length (link_bytes low high weight) ≡ length (stored low) + length (stored (high - low)) + length (stored weight)
unfolding link_bytes
length_link low high weight = simp length-append (omega arith)

module _ (R : Rows) where
  open R use {nodes as n, low}

  -- the links from k on, of m in all: done, or link k and the links after it
  pub links_done : (m k : ℕ) → m ≤ k → links_bytes (m - k) R k ≡ []
  unfolding links_bytes
  links_done m k h =
      let e : m - k ≡ 0 = omega arith in
      rw e

  pub links_on : (m k : ℕ) → k < m → links_bytes (m - k) R k ≡ link_bytes_at R k ++ links_bytes (m - (k + 1)) R (k + 1)
  unfolding links_bytes
  links_on m k h =
      let e : m - k ≡ suc (m - (k + 1)) = omega arith in
      rw (e, add-one)

  pub length_links_on : (m k : ℕ) → k < m
      → length (links_bytes (m - k) R k) ≡ length (link_bytes_at R k) + length (links_bytes (m - (k + 1)) R (k + 1))
  length_links_on m k h = rw (links_on m k h, length-append)

  -- a plan's length is its two counts' and that of the links from the first on
  pub length_plan : length (plan_of R) ≡ length (stored n) + length (stored (length low)) + length (links_bytes (length low) R 0)
  unfolding plan_of plan_start
  length_plan = simp length-append (omega arith)

module _ {R : Rows} (network : Accepted R) where
  open R use {nodes as n, low, high, weight}

  short_link : (k : ℕ) → k < length low → length (link_bytes_at R k) ≤ longest_link
  short_link k within =
      let joins = network.joins k within in
      omega (
        arith,
        length_link (get_or low k 0) (get_or high k 0) (get_or weight k 0),
        one_group (get_or low k 0) (omega arith),
        one_group (get_or high k 0 - get_or low k 0) (omega arith),
        few_groups (get_or weight k 0),
      )

  short_links : (left k : ℕ) → k + left ≤ length low → length (links_bytes left R k) ≤ longest_link * left
  unfolding links_bytes
  short_links zero k within = omega arith
  short_links (suc left) k within =
      simp length-append (omega (arith, short_link k (omega arith), short_links left (suc k) (omega arith)))

  pub start_short : (m : ℕ) → m ≤ most_links → length (plan_start m R) ≤ 2 + longest_link * length low
  unfolding plan_start
  start_short m few =
      simp length-append
      (omega (arith, one_group n (omega arith), one_group m (omega arith), short_links (length low) 0 (omega arith)))

  pub plan_short : length (plan_of R) ≤ longest
  unfolding plan_of
  plan_short = omega (arith, start_short (length low) network.few_links)
