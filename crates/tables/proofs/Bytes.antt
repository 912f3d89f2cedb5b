-- The bytes that the code writes are the entries: where a cost tells an entry, the link of its first interface is the byte.
use Prim.Native.Nat.{ℕ, ◌<◌}
use mathlib.Core.Path.{◌≡◌}
use mathlib.Core.Logic.{◌≢◌}
use mathlib.Core.List.{List}
use native.Mathlib.Decide.{ℕ_discrete}
use borrow.Author.Tests.{ne_eqb, eq-eqb}
use lib.ListN.{length}
use Rattle.graph.specs.Network.{WellFormed, link, tail, head}
use Rattle.graph.specs.Path.{All, But}
use Rattle.graph.proofs.Interfaces.{head_node, tail_node}
use Rattle.net.specs.Entry.{EntryByte}
use Rattle.net.specs.Rows.{Rows, Present, network_of}
use Rattle.net.specs.Check.{Accepted}
use Rattle.net.proofs.Accepted.{well_formed}
use Rattle.net.proofs.Bytes.{here_byte_lem, onward_byte, nowhere_byte_lem}
use Rattle.paths.specs.inner.Column.{Shows}
use Rattle.paths.specs.inner.Square.{cell, BestSquare}
use Rattle.paths.specs.declared.cost.Cost.{Cost}
use Rattle.paths.proofs.ColumnEntry.{known_true, known_false, Tells, leads, leads_nowhere, shown_tells}
use Rattle.tables.specs.Entry.{RoutingByte, ForwardingByte}
use Rattle.tables.specs.declared.kept.Kept.{Kept}
use Rattle.tables.specs.inner.Backward.{OwnByte}
use Rattle.tables.specs.inner.EntryRow.{entry_byte}
use Rattle.tables.specs.inner.Detours.{forward_cost, kept_for, kept_at, SquareKept}
use Rattle.tables.proofs.Forwarding.{forward_tells}

module _ (R : Rows) (A : Accepted R) where
  open R use {nodes as n, low}

  W : WellFormed (network_of R)
  W = well_formed R A

  module _ {X : ℕ → Type 0} {i d : ℕ} (c : Cost) where
    at_destination_byte : i ≡ d → EntryByte (network_of R) X i d (entry_byte i d c)
    unfolding entry_byte
    at_destination_byte e = rw (eq-eqb i d e) (here_byte_lem e)

    tells_byte : i ≢ d → Tells (network_of R) X i d c
        → EntryByte (network_of R) X i d (entry_byte i d c)
    unfolding entry_byte
    tells_byte away (leads_nowhere h entry) = rw (ne_eqb i d away, (known_false c).1 h) (nowhere_byte_lem entry)
    tells_byte away (leads h entry) = rw (ne_eqb i d away, (known_true c).1 h) (onward_byte entry)

    pub shown_byte : Shows (network_of R) X i d c → EntryByte (network_of R) X i d (entry_byte i d c)
    shown_byte shown =
        elim (ℕ_discrete i d) [
          | yes e ↦ at_destination_byte e
          | no away ↦ tells_byte away (shown_tells (network_of R) W shown away)
        ]

  -- routing, by the square over all links
  pub routing_byte : (all : List (List Cost)) → BestSquare (network_of R) All all → {i d : ℕ} → i < n → d < n
      → RoutingByte (network_of R) i d (entry_byte i d (cell all i d))
  routing_byte all whole {i} {d} node destination = shown_byte (cell all i d) ((whole d destination).shows i node)

  -- without the interface's own link alone, by the square without it
  pub own_byte : (without : List (List Cost)) (h : ℕ) → Present R (link h) → BestSquare (network_of R) (But (link h)) without
      → {i d : ℕ} → tail (network_of R) h ≡ i → d < n
      → OwnByte (network_of R) h d (entry_byte i d (cell without i d))
  own_byte without h up less {i} {d} is destination =
      let N = network_of R in
      rw (← is) (shown_byte _ ((less d destination).shows (tail N h) (tail_node N W h up)))

  -- forwarding, by the square over all links and what is kept of them
  pub forward_byte : (all : List (List Cost)) (kept : List (List Kept)) → BestSquare (network_of R) All all
      → SquareKept (network_of R) (length low) all kept → (h : ℕ) → Present R (link h)
      → {i d : ℕ} → head (network_of R) h ≡ i → d < n
      → ForwardingByte (network_of R) h d (entry_byte i d (forward_cost h (cell all i d) (kept_at (kept_for kept d) i)))
  forward_byte all kept whole keeps h up {i} {d} is destination =
      let N = network_of R in
      let node = head_node N W h up in
      rw (← is)
      (elim (ℕ_discrete (head N h) d) [
        | yes e ↦ at_destination_byte _ e
        | no away ↦
            tells_byte _ away
            (forward_tells N W h away _ _ ((whole d destination).shows (head N h) node) (keeps d destination (head N h) node))
      ])
