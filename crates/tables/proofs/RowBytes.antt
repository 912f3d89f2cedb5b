-- Each row that the code fills has the right bytes: a routing row by the square over all links, the two rows of a link without that link
-- by the square without it, a forwarding row by the costs to forward by. A row is made of its bytes, so this is Bytes, destination by
-- destination.
use Prim.Native.Nat.{ℕ, ◌+◌, ◌*◌, ◌<◌}
use mathlib.Core.Path.{◌≡◌, sym, ◌∙◌}
use mathlib.Core.List.{List}
use lib.ListN.{length, get_or}
use Rattle.graph.specs.Network.{link, tail, head}
use Rattle.graph.specs.Path.{All, But}
use Rattle.graph.proofs.Interfaces.{link_from_low, link_from_high, tail_from_low, tail_from_high}
use Rattle.net.specs.Rows.{Rows, Present, network_of}
use Rattle.net.specs.Check.{Accepted}
use Rattle.net.proofs.Rows.{row_present}
use Rattle.paths.specs.inner.Column.{entry_at}
use Rattle.paths.specs.inner.Square.{cell, BestSquare}
use Rattle.paths.specs.declared.cost.Cost.{Cost}
use Rattle.tables.specs.Entry.{RoutingByte, ForwardingByte}
use Rattle.tables.specs.declared.kept.Kept.{Kept}
use Rattle.tables.specs.inner.Backward.{OwnByte}
use Rattle.tables.specs.inner.EntryRow.{entry_byte, entry_row}
use Rattle.tables.specs.inner.Detours.{forward_cost, kept_for, kept_at, SquareKept}
use Rattle.tables.proofs.Bytes.{routing_byte, own_byte, forward_byte}
use Rattle.tables.proofs.Filling.{entry_row_at}

module _ (R : Rows) (A : Accepted R) (i : ℕ) (costs : List Cost) where
  open R use {nodes as n, low, high}

  -- the bytes of a row are those of its costs
  row_bytes : (Byte : ℕ → ℕ → Type 0) (cost : ℕ → Cost) → ((d : ℕ) → d < n → entry_at costs d ≡ cost d)
      → ((d : ℕ) → d < n → Byte d (entry_byte i d (cost d)))
      → (d : ℕ) → d < n → Byte d (get_or (entry_row n i 0 costs) d 0)
  row_bytes Byte cost are right d destination =
      rw (entry_row_at i costs destination, are d destination) (right d destination)

  pub routing_row : (all : List (List Cost)) → BestSquare (network_of R) All all → i < n
      → ((d : ℕ) → d < n → entry_at costs d ≡ cell all i d)
      → (d : ℕ) → d < n → RoutingByte (network_of R) i d (get_or (entry_row n i 0 costs) d 0)
  routing_row all whole node are =
      row_bytes (RoutingByte (network_of R) i) (cell all i) are (λ d destination. routing_byte R A all whole node destination)

  -- the rows of link k, of the node at one of its ends
  module _ (without : List (List Cost)) {k : ℕ} (present : k < length low) (less : BestSquare (network_of R) (But k) without)
      (are : (d : ℕ) → d < n → entry_at costs d ≡ cell without i d) where
    own_row : (h : ℕ) → link h ≡ k → tail (network_of R) h ≡ i
        → (d : ℕ) → d < n → OwnByte (network_of R) h d (get_or (entry_row n i 0 costs) d 0)
    own_row h is leaves =
        row_bytes (OwnByte (network_of R) h) (cell without i) are
        (λ d destination. own_byte R A without h (rw is (row_present R k present)) (rw is less) leaves destination)

    pub own_row_from_low : i ≡ get_or low k 0
        → (d : ℕ) → d < n → OwnByte (network_of R) (2 * k) d (get_or (entry_row n i 0 costs) d 0)
    own_row_from_low is = own_row (2 * k) (link_from_low k) (tail_from_low k (network_of R) ∙ sym is)

    pub own_row_from_high : i ≡ get_or high k 0
        → (d : ℕ) → d < n → OwnByte (network_of R) (2 * k + 1) d (get_or (entry_row n i 0 costs) d 0)
    own_row_from_high is = own_row (2 * k + 1) (link_from_high k) (tail_from_high k (network_of R) ∙ sym is)

  pub forwarding_row : (all : List (List Cost)) (kept : List (List Kept)) → BestSquare (network_of R) All all
      → SquareKept (network_of R) (length low) all kept → (h : ℕ) → Present R (link h) → head (network_of R) h ≡ i
      → ((d : ℕ) → d < n → entry_at costs d ≡ forward_cost h (cell all i d) (kept_at (kept_for kept d) i))
      → (d : ℕ) → d < n → ForwardingByte (network_of R) h d (get_or (entry_row n i 0 costs) d 0)
  forwarding_row all kept whole keeps h up is are =
      row_bytes (ForwardingByte (network_of R) h) (λ d. forward_cost h (cell all i d) (kept_at (kept_for kept d) i)) are
      (λ d destination. forward_byte R A all kept whole keeps h up is destination)
