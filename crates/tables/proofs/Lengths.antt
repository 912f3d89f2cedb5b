-- The test on the lengths of the lent tables, and the code's way of making it. None is short exactly if each is long enough; and the
-- products that it compares with are numbers that memory holds, as nodes and links are few.
use Prim.Native.Nat.{ℕ, ◌*◌, ◌≤◌, ◌<◌}
use mathlib.Core.Bool.{Bool, true, false}
use mathlib.Core.Path.{◌≡◌, refl}
use native.Mathlib.Nat.{mul-le-mul}
use native.Mathlib.Omega.{arith}
use borrow.Author.Tests.{ltb-false, lt-ltb, le-ltb}
use lib.Dec.{ltb}
use lib.ListN.{length}
use Rattle.net.specs.Limits.{most_nodes, most_links}
use Rattle.net.specs.Choice.{either}
use Rattle.tables.specs.Lent.{LentTables, tables_short, LongEnough}
use Rattle.tables.specs.inner.Given.{WithinLimits}

neither : (a b : Bool) → either a b ≡ false → (a ≡ false) × (b ≡ false)
neither true b e = absurd (let z : ◌≡◌ {A = ℕ} 0 1 = cc in omega arith)
neither false b e = (refl, e)

module _ {n links : ℕ} {T : LentTables} where
  pub tables_long : tables_short n links T ≡ false → LongEnough n links T
  unfolding tables_short
  tables_long e =
      let (in_routing, others) = neither _ _ e in
      let (in_forwarding, in_backwarding) = neither _ _ others in
      record {
        for_routing = ltb-false _ _ in_routing;
        for_forwarding = ltb-false _ _ in_forwarding;
        for_backwarding = ltb-false _ _ in_backwarding;
      }

  pub long_tables : LongEnough n links T → tables_short n links T ≡ false
  unfolding tables_short
  long_tables room = simp (le-ltb _ _ room.for_routing, le-ltb _ _ room.for_forwarding, le-ltb _ _ room.for_backwarding)

-- one table after the other
module _ (n links : ℕ) (T : LentTables) where
  pub routing_short : length T.routing < n * n → tables_short n links T ≡ true
  unfolding tables_short
  routing_short short = simp (lt-ltb _ _ short)

  module _ (long : n * n ≤ length T.routing) where
    pub forwarding_short : length T.forwarding < 2 * links * n → tables_short n links T ≡ true
    unfolding tables_short
    forwarding_short short = simp (le-ltb _ _ long, lt-ltb _ _ short)

    pub backwarding_left : 2 * links * n ≤ length T.forwarding
        → tables_short n links T ≡ ltb (length T.backwarding) (2 * links * n)
    unfolding tables_short
    backwarding_left longer = simp (le-ltb _ _ long, le-ltb _ _ longer)

-- what the code's test needs
pub ruleset lengths = (routing_short, forwarding_short, backwarding_left)

-- the products
module _ {n links : ℕ} (G : WithinLimits n links) where
  pub few_squared : n * n ≤ most_nodes * most_nodes
  few_squared = mul-le-mul {n₁ = n} {m₁ = n} {n₂ = most_nodes} {m₂ = most_nodes} G.few_nodes G.few_nodes

  pub few_rows : 2 * links * n ≤ 2 * most_links * most_nodes
  few_rows =
      let few = G.few_links in
      mul-le-mul {n₁ = 2 * links} {m₁ = n} {n₂ = 2 * most_links} {m₂ = most_nodes} (omega arith) G.few_nodes
