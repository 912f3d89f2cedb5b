-- Tables as the builder leaves them. The byte of an entry says that very entry again: here_byte and nowhere_byte are no links, and of the
-- two interfaces of a link only one leaves the deciding node. So built tables pass 16 (built_passes), and what a walk reads in them are
-- the entries that the papers define (built_entries).
use Prim.Native.Nat.{ℕ, ◌<◌}
use mathlib.Core.Bool.{true}
use mathlib.Core.Path.{◌≡◌, refl, sym}
use mathlib.Core.Logic.{inl, inr}
use Rattle.graph.specs.Network.{Network, tail, head}
use Rattle.graph.specs.Entries.{Hop, Entry, at_destination, starts, lacks}
use Rattle.graph.specs.Demand3.{BuiltEntries}
use Rattle.graph.proofs.Chain.{first_present, first_tail}
use Rattle.net.specs.Rows.{Rows, network_of}
use Rattle.net.specs.Check.{Accepted}
use Rattle.net.specs.Entry.{byte_of, EntryByte}
use Rattle.net.proofs.Rows.{interface_row}
use Rattle.tables.specs.Lent.{LentTables}
use Rattle.tables.specs.Build.{Built}
use Rattle.walk.specs.Lent.{hop_at, tables_for, Passes, TablesPass, tables_pass}
use Rattle.walk.proofs.Hops.{hop_is}
use Rattle.walk.proofs.EntriesPass.{link_left, passes_exactly}

module _ (R : Rows) (A : Accepted R) where
  abbrev N : Network
  N = network_of R

  module _ {X : ℕ → Type 0} (i d : ℕ) where
    -- an entry's byte is read as the entry
    reads : {hop : Hop} → Entry N X i d hop → hop_at R.low R.high i (byte_of hop) ≡ hop
    unfolding hop_at byte_of
    reads (at_destination e) = refl
    reads (lacks apart none_leads) = refl
    reads (starts {f} apart best) =
        hop_is R A f i (interface_row R f (first_present N best.path.chain)) (first_tail N best.path.chain)

    -- and passes 16
    passes : {hop : Hop} → Entry N X i d hop → Passes N i d (byte_of hop)
    unfolding byte_of
    passes (at_destination e) = record { own = λ _. refl; other = λ apart. absurd (apart (sym e)) }
    passes (lacks apart none_leads) = record { own = λ e. absurd (apart (sym e)); other = λ _. inl refl }
    passes (starts {f} apart best) =
        record {
          own = λ e. absurd (apart (sym e));
          other = λ _. inr (link_left R f i (first_present N best.path.chain) (first_tail N best.path.chain));
        }

    byte_reads : {byte : ℕ} → EntryByte N X i d byte → Entry N X i d (hop_at R.low R.high i byte)
    byte_reads b = rw (b.is, reads b.entry) b.entry

    byte_passes_lem : {byte : ℕ} → EntryByte N X i d byte → Passes N i d byte
    byte_passes_lem b = rw b.is (passes b.entry)

  module _ {before after : LentTables} (B : Built N before after) where
    pub built_passes : TablesPass N after
    built_passes =
        record {
          routes = λ i d i_node d_node. byte_passes_lem i d (B.routes.bytes i d i_node d_node);
          forwards = λ h d h_below d_node. byte_passes_lem (head N h) d (B.forwards.bytes h d h_below d_node);
          backwards = λ h d h_below d_node. byte_passes_lem (tail N h) d (B.backwards.bytes h d h_below d_node);
        }

    pub built_accepted : tables_pass R.nodes R.low R.high after ≡ true
    built_accepted = (passes_exactly R A after).1 built_passes

    pub built_entries : (d : ℕ) → d < R.nodes → BuiltEntries N d (tables_for R after d)
    unfolding tables_for
    built_entries d d_node =
        record {
          routing = λ i i_node. byte_reads i d (B.routes.bytes i d i_node d_node);
          forwarding = λ h present. byte_reads (head N h) d (B.forwards.bytes h d (interface_row R h present) d_node);
          backwarding = λ h present. byte_reads (tail N h) d (B.backwards.bytes h d (interface_row R h present) d_node);
        }
