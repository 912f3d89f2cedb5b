-- The backwarding entry of an interface with key links: the set of its key links, with its own link, is what is taken out, so that the
-- column without that set shows the best path of its tail. Where an interface has no key links its own link alone is taken out, so that
-- the entry without that link stays right.
use Prim.Native.Nat.{ℕ, ◌<◌}
use mathlib.Core.Path.{◌≡◌, sym, ◌∙◌}
use mathlib.Core.Logic.{◌↔◌}
use mathlib.Core.List.{List}
use native.Mathlib.Decide.{dec_lt}
use native.Mathlib.Omega.{arith}
use lib.ListN.{length, get_or}
use Rattle.graph.specs.Network.{Network, WellFormed, link, tail}
use Rattle.graph.specs.Set.{SetOf, bit}
use Rattle.graph.specs.Entries.{KeyLink, Free, Aside}
use Rattle.graph.proofs.Interfaces.{tail_node}
use Rattle.graph.proofs.Entries.{backwarding_by_own}
use Rattle.net.specs.Limits.{most_nodes}
use Rattle.net.specs.Check.{Accepted}
use Rattle.net.specs.Rows.{Rows, network_of, tail_of}
use Rattle.net.specs.inner.LinkSet.{value, with_link, Without}
use Rattle.net.specs.declared.link_set.LinkSet.{LinkSet}
use Rattle.net.proofs.Accepted.{well_formed}
use Rattle.net.proofs.Rows.{interface_present, tail_of_lem}
use Rattle.net.proofs.LinkSets.{has_not_bit, has_link_past, without_with}
use Rattle.paths.specs.inner.Column.{Restarted}
use Rattle.paths.specs.declared.cost.Cost.{Cost}
use Rattle.paths.proofs.ColumnEntry.{shows_same, restarted_from_all}
use Rattle.tables.specs.Entry.{BackwardingByte}
use Rattle.tables.specs.inner.Backward.{OwnByte}
use Rattle.tables.specs.inner.EntryRow.{entry_byte}
use Rattle.tables.specs.inner.Given.{KeysKnown}
use Rattle.tables.proofs.Reading.{read_node}
use Rattle.tables.proofs.Bytes.{shown_byte}

module _ (N : Network) (W : WellFormed N) {d : ℕ} (h : ℕ) where
  module _ (keys : LinkSet) (are : SetOf N.links (KeyLink N d h) (value keys)) where
    -- the links outside the set are those that are not key: no number past the last link's is key, and none is in the set
    free_links : (k : ℕ) → Without keys k ↔ Free N d h k
    free_links k = (to, from)
      where
        to : Without keys k → Free N d h k
        to lacks key =
            let has : bit k (value keys) ≡ 1 = (are.bits k (W.numbered k key.present)).1 key in
            omega (arith, (has_not_bit keys k).0 lacks)

        from : Free N d h k → Without keys k
        from free =
            elim (dec_lt k N.links) [
              | no past ↦ has_link_past keys N.links k are.below (omega arith)
              | yes below ↦
                  let lacks : bit k (value keys) ≡ 1 → ⊥ = λ has. free ((are.bits k below).0 has) in
                  (has_not_bit keys k).1 (omega arith)
            ]

    -- with the interface's own link, what is left in when the set is taken out is what lies aside
    pub aside_links : (k : ℕ) → Without (with_link keys (link h)) k ↔ Aside N d h k
    aside_links k =
        let with_own = without_with keys (link h) k in
        let free = free_links k in (
          λ outside. ((with_own.0 outside).1, free.0 (with_own.0 outside).0),
          λ aside. with_own.1 (free.1 aside.1, aside.0),
        )

  -- with no key links the byte without the interface's own link is the entry
  pub own_stays : ((k : ℕ) → Free N d h k) → {byte : ℕ} → OwnByte N h d byte → BackwardingByte N h d byte
  own_stays free own = record { hop = own.hop; entry = backwarding_by_own N W d h free own.entry; is = own.is }

-- the byte by the column without the set
pub aside_byte : {R : Rows} {h d : ℕ} {all : List Cost} {keys : LinkSet} → Accepted R → KeysKnown R h d all keys
    → {out : LinkSet} → out ≡ with_link keys (link h) → {without : List Cost} → Restarted (network_of R) out all without
    → length without ≡ most_nodes → {j : ℕ} → j ≡ tail_of R.low R.high h → (past : Cost)
    → BackwardingByte (network_of R) h d (entry_byte j d (get_or without j past))
aside_byte {R} {h} {d} {all} {keys} network K {out} is {without} restarted long {j} leaves past =
    let N = network_of R in
    let W = well_formed R network in
    let node : tail N h < R.nodes = tail_node N W h (interface_present R h K.asked.interface) in
    let best = restarted_from_all N W (with_link keys (link h)) (rw is at restarted) K.asked.destination K.column in
    let shown = shows_same N W (aside_links N W h keys K.are) (best.shows (tail N h) node) in
    rw (read_node network.few_nodes past without long (leaves ∙ sym (tail_of_lem R h)) node, leaves, ← tail_of_lem R h)
    (shown_byte R network _ shown)
