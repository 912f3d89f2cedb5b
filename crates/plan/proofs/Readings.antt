-- The laws of the reader: what each part of a plan comes to once its number has been read and the tests before it have passed. Each
-- part has one law for a number that is refused, one for each test that fails, and one for going on. `answer` is
-- what the call answered: that it is the one asked for, and what was found in it, are two facts of the code, so two premises here.
use Prim.Native.Nat.{ℕ, suc, ◌+◌, ◌-◌, ◌≤◌, ◌<◌}
use mathlib.Core.Bool.{true, false}
use mathlib.Core.Path.{◌≡◌}
use mathlib.Core.Logic.{◌⊎◌, inl, inr, ◌≢◌}
use mathlib.Core.List.{List}
use native.Mathlib.Decide.{ℕ_discrete}
use native.Mathlib.Omega.{arith}
use borrow.Author.Tests.{lt-ltb, le-ltb, le-leb, lt-leb, eq-eqb, ne_eqb}
use lib.ListN.{length}
use Rattle.net.specs.Limits.{most_links}
use Rattle.net.specs.Refusals.{node_count, link_count, link_ends, link_order, link_weight, bytes_left}
use Rattle.net.specs.Rows.{Rows}
use Rattle.net.specs.Check.{descends, bad_weight, lighter_twin, bad_node_count, origin}
use Rattle.net.specs.declared.check.Span.{Span}
use Rattle.plan.specs.Number.{NumberAt, Value, Refused as NoNumber, number_at}
use Rattle.plan.specs.Reader.{LinkAt, Got, Refused}
use Rattle.plan.specs.Reader.{refusal, success, no_links, with_link, take_weight, weight_at, take_difference, difference_at}
use Rattle.plan.specs.Reader.{take_low, link_at, take_link, links_read, take_link_count, link_count_at, take_node_count, read_plan}

-- a link's weight, and its order against a parallel link before
module _ (s : List ℕ) (first third low high : ℕ) (before : Span) {answer : NumberAt} (asked : answer ≡ number_at s third) where
  pub weight_unread : (number place : ℕ) → answer ≡ NoNumber number place → weight_at s first third low high before ≡ Refused number place
  unfolding weight_at take_weight
  weight_unread number place e = rw (← asked, e)

  module _ (weight next : ℕ) (number_read : answer ≡ Value weight next) where
    pub weight_refused : bad_weight weight ≡ true → weight_at s first third low high before ≡ Refused link_weight third
    unfolding weight_at take_weight
    weight_refused bad = rw (← asked, number_read, bad)

    module _ (good : bad_weight weight ≡ false) where
      pub twin_refused : lighter_twin before low high weight ≡ true → weight_at s first third low high before ≡ Refused link_order first
      unfolding weight_at take_weight
      twin_refused lighter = rw (← asked, number_read, good, lighter)

      pub weight_read : lighter_twin before low high weight ≡ false → weight_at s first third low high before ≡ Got low high weight next
      unfolding weight_at take_weight
      weight_read heavy_enough = rw (← asked, number_read, good, heavy_enough)

-- the difference of a link's ends, and the link's order
module _ (s : List ℕ) (n first second low : ℕ) (before : Span) {answer : NumberAt} (asked : answer ≡ number_at s second) where
  pub difference_unread : (number place : ℕ) → answer ≡ NoNumber number place
      → difference_at s n first second low before ≡ Refused number place
  unfolding difference_at take_difference
  difference_unread number place e = rw (← asked, e)

  module _ (difference third : ℕ) (number_read : answer ≡ Value difference third) where
    pub high_refused : (difference ≡ 0) ⊎ (n ≤ low + difference)
        → difference_at s n first second low before ≡ Refused link_ends second
    unfolding difference_at take_difference
    high_refused (inl none) = simp (← asked, number_read, eq-eqb difference 0 none)
    high_refused (inr over) =
        elim (ℕ_discrete difference 0) [
          | yes none ↦ simp (← asked, number_read, eq-eqb difference 0 none)
          | no some ↦ simp (← asked, number_read, ne_eqb difference 0 some, le-leb _ _ over)
        ]

    module _ (some : difference ≢ 0) (node : low + difference < n) where
      pub order_refused : descends before low (low + difference) ≡ true
          → difference_at s n first second low before ≡ Refused link_order first
      unfolding difference_at take_difference
      order_refused descending = simp (← asked, number_read, ne_eqb difference 0 some, lt-leb _ _ node, descending)

      pub difference_read : descends before low (low + difference) ≡ false
          → difference_at s n first second low before ≡ weight_at s first third low (low + difference) before
      unfolding difference_at take_difference
      difference_read in_order = simp (← asked, number_read, ne_eqb difference 0 some, lt-leb _ _ node, in_order)

-- a link's low end
module _ (s : List ℕ) (n first : ℕ) (before : Span) {answer : NumberAt} (asked : answer ≡ number_at s first) where
  pub low_unread : (number place : ℕ) → answer ≡ NoNumber number place
      → link_at s n first before ≡ Refused number place
  unfolding link_at take_low
  low_unread number place e = rw (← asked, e)

  module _ (low second : ℕ) (number_read : answer ≡ Value low second) where
    pub low_refused : n ≤ low → link_at s n first before ≡ Refused link_ends first
    unfolding link_at take_low
    low_refused over = simp (← asked, number_read, le-leb _ _ over)

    pub low_read : low < n → link_at s n first before ≡ difference_at s n first second low before
    unfolding link_at take_low
    low_read node = simp (← asked, number_read, lt-leb _ _ node)

-- the links from k on, of m in all
module _ (s : List ℕ) (m at : ℕ) (before : Span) (k : ℕ) (R : Rows) where
  module _ (none_left : k ≡ m) where
    nothing_left : m - k ≡ 0
    nothing_left = omega arith

    pub has_bytes_left : at < length s → links_read (m - k) s m at before k R ≡ refusal bytes_left at
    unfolding links_read
    has_bytes_left h = simp (nothing_left, lt-ltb _ _ h)

    pub all_read : length s ≤ at → links_read (m - k) s m at before k R ≡ success m R
    unfolding links_read
    all_read h = simp (nothing_left, le-ltb _ _ h)

  module _ (some_left : k < m) {answer : LinkAt} (asked : answer ≡ link_at s R.nodes at before) where
    one_and_more : m - k ≡ suc (m - (k + 1))
    one_and_more = omega arith

    pub link_refused : (number place : ℕ) → answer ≡ Refused number place
        → links_read (m - k) s m at before k R ≡ refusal number place
    unfolding links_read take_link
    link_refused number place e = simp (one_and_more, ← asked, e)

    pub link_read : (low high weight next : ℕ) → answer ≡ Got low high weight next
        → links_read (m - k) s m at before k R
        ≡ links_read (m - (k + 1)) s m next (record { low = low; high = high; weight = weight }) (k + 1) (with_link R k low high weight)
    unfolding links_read take_link
    link_read low high weight next e = simp (one_and_more, ← asked, e)

-- the link count
module _ (s : List ℕ) (n second : ℕ) {answer : NumberAt} (asked : answer ≡ number_at s second) where
  pub link_count_unread : (number place : ℕ) → answer ≡ NoNumber number place → link_count_at s n second ≡ refusal number place
  unfolding link_count_at take_link_count
  link_count_unread number place e = rw (← asked, e)

  module _ (m at : ℕ) (number_read : answer ≡ Value m at) where
    pub link_count_refused : most_links < m → link_count_at s n second ≡ refusal link_count second
    unfolding link_count_at take_link_count
    link_count_refused many = simp (← asked, number_read, lt-ltb _ _ many)

    pub link_count_read : m ≤ most_links → link_count_at s n second ≡ links_read m s m at origin 0 (no_links n)
    unfolding link_count_at take_link_count
    link_count_read few = simp (← asked, number_read, le-ltb _ _ few)

-- the node count
module _ (s : List ℕ) {answer : NumberAt} (asked : answer ≡ number_at s 0) where
  pub node_count_unread : (number place : ℕ) → answer ≡ NoNumber number place → read_plan s ≡ refusal number place
  unfolding read_plan take_node_count
  node_count_unread number place e = rw (← asked, e)

  module _ (n second : ℕ) (number_read : answer ≡ Value n second) where
    pub node_count_refused : bad_node_count n ≡ true → read_plan s ≡ refusal node_count 0
    unfolding read_plan take_node_count
    node_count_refused bad = rw (← asked, number_read, bad)

    pub node_count_read : bad_node_count n ≡ false → read_plan s ≡ link_count_at s n second
    unfolding read_plan take_node_count
    node_count_read good = rw (← asked, number_read, good)
