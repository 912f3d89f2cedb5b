-- Leaving out the key links for every destination, one after the other: the bytes for a destination are right once it is passed, and those
-- for the destinations to come are still as if no interface had key links. The places past the last row are no interface's.
use Prim.Native.Nat.{ℕ, ◌+◌, ◌*◌, ◌≤◌, ◌<◌}
use mathlib.Core.Path.{◌≡◌, refl, ◌∙◌}
use mathlib.Core.Logic.{◌≢◌}
use mathlib.Core.List.{List}
use native.Mathlib.Decide.{ℕ_discrete}
use native.Mathlib.Omega.{arith}
use lib.ListN.{length, get_or, drop, length-drop}
use lib.Seq.{get_or-drop, ext_get_or}
use Rattle.net.specs.Rows.{Rows, network_of}
use Rattle.paths.specs.inner.Square.{column_for}
use Rattle.paths.specs.declared.cost.Cost.{Cost}
use Rattle.tables.specs.declared.kept.Kept.{Kept}
use Rattle.tables.specs.Entry.{Filled, BackwardingByte}
use Rattle.tables.specs.inner.Detours.{kept_for}
use Rattle.tables.specs.inner.Backward.{OwnByte, FilledFor}
use Rattle.tables.specs.inner.Given.{LeavingOut, LeavingOutAll}
use Rattle.tables.proofs.Building.{row_room}
use Rattle.tables.proofs.LeavingNodes.{same_place}

-- with the destinations before d passed
pub record DestinationsPassed (R : Rows) (d : ℕ) (before after : List ℕ) : Type 0 where
  pub same_length : length after ≡ length before
  pub passed : (h e : ℕ) → h < 2 * length R.low → e < R.nodes → e < d
      → BackwardingByte (network_of R) h e (get_or after (h * R.nodes + e) 0)
  pub coming : (h e : ℕ) → h < 2 * length R.low → e < R.nodes → d ≤ e
      → OwnByte (network_of R) h e (get_or after (h * R.nodes + e) 0)
  pub beyond : (at : ℕ) → 2 * length R.low * R.nodes ≤ at → get_or after at 0 ≡ get_or before at 0

module _ {R : Rows} {before : List ℕ} where
  open R use {nodes as n, low}

  module _ {all : List (List Cost)} {kept : List (List Kept)} (G : LeavingOutAll R before all kept) where
    pub destinations_start : DestinationsPassed R 0 before before
    destinations_start = record {
      same_length = refl;
      passed = λ h e interface node under. absurd (omega arith);
      coming = λ h e interface node past. G.own h e interface node;
      beyond = λ at outside. refl;
    }

    -- what the next destination needs
    pub destination_given : {d : ℕ} {table : List ℕ} → d < n → DestinationsPassed R d before table
        → LeavingOut R d table (column_for all d) (kept_for kept d)
    destination_given {d} destination P =
        let filling = G.given.filling in
        record {
          destination = destination;
          room = rw P.same_length filling.room;
          column = filling.square d destination;
          keeps = G.given.keeps d destination;
          own = λ h interface. P.coming h d interface destination (omega arith);
        }

  pub destinations_more : {d : ℕ} {table after : List ℕ} → d < n → DestinationsPassed R d before table
      → FilledFor n (2 * length low) d (λ h. BackwardingByte (network_of R) h d) table after → DestinationsPassed R (d + 1) before after
  destinations_more {d} {table} {after} destination P F = record {
    same_length = F.same_length ∙ P.same_length;
    passed = λ h e interface node under. elim (ℕ_discrete e d) [
      | yes now ↦ rw now (F.bytes h interface)
      | no other ↦ rw (stays h e node other) (P.passed h e interface node (omega arith))
    ];
    coming = λ h e interface node past. rw (stays h e node (λ now. omega arith)) (P.coming h e interface node (omega arith));
    beyond = λ at outside.
        F.others at (λ h interface same. omega (arith, row_room {room = 2 * length low * n} n h interface (omega arith)))
        ∙ P.beyond at outside;
  }
    where
      stays : (h e : ℕ) → e < n → e ≢ d → get_or after (h * n + e) 0 ≡ get_or table (h * n + e) 0
      stays h e node other = F.others (h * n + e) (λ g interface same. other (same_place node destination h g same).1)

  pub destinations_done : {d : ℕ} {after : List ℕ} → n ≤ d → DestinationsPassed R d before after
      → Filled n (2 * length low) (BackwardingByte (network_of R)) before after
  destinations_done {after = after} end P = record {
    same_length = P.same_length;
    bytes = λ h e interface node. P.passed h e interface node (omega arith);
    beyond = ext_get_or 0 (drop (2 * length low * n) after) (drop (2 * length low * n) before)
        (simp length-drop (rw P.same_length))
        (λ i inside. rw (get_or-drop (2 * length low * n) after i 0, get_or-drop (2 * length low * n) before i 0)
        (P.beyond (2 * length low * n + i) (omega arith)));
  }
