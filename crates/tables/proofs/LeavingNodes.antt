-- Leaving out the key links for one destination. The code goes over the nodes: at a node with key links kept it stores one byte, in the row
-- of the interface over which the node would send straight back. That is right for all interfaces that enter the node: the others have
-- no key links, so that the entry without their own link stays. Rows of n bytes do not overlap, so that no other byte changes.
use Prim.Native.Nat.{ℕ, ◌+◌, ◌*◌, ◌/◌, ◌%◌, ◌≤◌, ◌<◌}
use mathlib.Core.Bool.{true, false}
use mathlib.Core.Path.{◌≡◌, refl, sym, ap, ◌∙◌}
use mathlib.Core.Logic.{◌≢◌}
use mathlib.Core.List.{List}
use native.Mathlib.Nat.{mul-add-div_right, mul-add-mod_self_right, div-eq_of_lt, mod-eq_of_lt}
use native.Mathlib.Decide.{ℕ_discrete, dec_lt}
use native.Mathlib.Omega.{arith}
use lib.ListN.{length, get_or, set, length-set}
use lib.Seq.{get_or-set_same, get_or-set_other}
use Rattle.graph.specs.Network.{Network, WellFormed, reverse, head}
use Rattle.graph.specs.Path.{All}
use Rattle.graph.specs.Entries.{KeyLink, Free}
use Rattle.graph.proofs.Interfaces.{reverse_reverse, head_node}
use Rattle.graph.proofs.Sets.{set_whole}
use Rattle.net.specs.Limits.{most_nodes}
use Rattle.net.specs.Check.{Accepted}
use Rattle.net.specs.Rows.{Rows, network_of}
use Rattle.net.specs.inner.LinkSet.{no_links, is_empty}
use Rattle.net.proofs.Accepted.{well_formed}
use Rattle.net.proofs.Rows.{interface_present, interface_row}
use Rattle.net.proofs.LinkSets.{value_none, some_value}
use Rattle.paths.specs.inner.Cost.{unknown}
use Rattle.paths.specs.inner.Column.{entry_at, Shows}
use Rattle.paths.specs.declared.cost.Cost.{Cost}
use Rattle.tables.specs.declared.kept.Kept.{Kept}
use Rattle.tables.specs.Entry.{BackwardingByte}
use Rattle.tables.specs.inner.Detours.{kept_at, Keeps}
use Rattle.tables.specs.inner.Backward.{OwnByte, FilledFor}
use Rattle.tables.specs.inner.Given.{LeavingOut, KeysKnown}
use Rattle.tables.proofs.Reading.{read_node, read_kept}
use Rattle.tables.proofs.KeptKeys.{back_enters, back_present, key_returns, none_kept_free}
use Rattle.tables.proofs.Building.{row_room}
use Rattle.tables.proofs.Leaving.{own_stays}

-- a place tells its row and its destination
pub same_place : {n d e : ℕ} → d < n → e < n → (row other : ℕ) → row * n + d ≡ other * n + e → (row ≡ other) × (d ≡ e)
same_place {n} one two row other same = (
  sym (place_row one row) ∙ ap (λ at. at / n) same ∙ place_row two other,
  sym (place_destination one row) ∙ ap (λ at. at % n) same ∙ place_destination two other,
)
  where
    place_row : {d : ℕ} → d < n → (row : ℕ) → (row * n + d) / n ≡ row
    place_row {d} destination row = omega (arith, mul-add-div_right {m = n} (omega arith) row d, div-eq_of_lt destination)

    place_destination : {d : ℕ} → d < n → (row : ℕ) → (row * n + d) % n ≡ d
    place_destination {d} destination row = mul-add-mod_self_right row n d ∙ mod-eq_of_lt destination

-- With the nodes before i passed, the entries of the interfaces that enter them are right; those of the others are still as if these had
-- no key links.
pub record NodesPassed (R : Rows) (d i : ℕ) (before after : List ℕ) : Type 0 where
  pub same_length : length after ≡ length before
  pub passed : (h : ℕ) → h < 2 * length R.low → head (network_of R) h < i
      → BackwardingByte (network_of R) h d (get_or after (h * R.nodes + d) 0)
  pub coming : (h : ℕ) → h < 2 * length R.low → i ≤ head (network_of R) h
      → OwnByte (network_of R) h d (get_or after (h * R.nodes + d) 0)
  pub others : (at : ℕ) → ((h : ℕ) → h < 2 * length R.low → at ≢ h * R.nodes + d) → get_or after at 0 ≡ get_or before at 0

module _ {R : Rows} {d : ℕ} {before : List ℕ} {all : List Cost} {kept : List Kept} (A : Accepted R)
    (G : LeavingOut R d before all kept) where
  open R use {nodes as n, low}

  abbrev N : Network
  N = network_of R

  W : WellFormed N
  W = well_formed R A

  same_interface : (h g : ℕ) → h * n + d ≡ g * n + d → h ≡ g
  same_interface h g same = (same_place G.destination G.destination h g same).0

  pub nodes_start : NodesPassed R d 0 before before
  nodes_start = record {
    same_length = refl;
    passed = λ h interface under. absurd (omega arith);
    coming = λ h interface past. G.own h interface;
    others = λ at outside. refl;
  }

  pub nodes_done : {i : ℕ} {after : List ℕ} → n ≤ i → NodesPassed R d i before after
      → FilledFor n (2 * length low) d (λ h. BackwardingByte N h d) before after
  nodes_done end P = record {
    same_length = P.same_length;
    bytes = λ h interface. P.passed h interface (omega (arith, head_node N W h (interface_present R h interface)));
    others = P.others;
  }

  module _ (i : ℕ) (node : i < n) {table : List ℕ} (P : NodesPassed R d i before table) where
    -- one node more: the bytes of the interfaces that enter it are right, and no other place changed
    node_more : {after : List ℕ} → length after ≡ length table
        → ((h : ℕ) → h < 2 * length low → head N h ≡ i → BackwardingByte N h d (get_or after (h * n + d) 0))
        → ((at : ℕ) → ((h : ℕ) → h < 2 * length low → head N h ≡ i → at ≢ h * n + d) → get_or after at 0 ≡ get_or table at 0)
        → NodesPassed R d (i + 1) before after
    node_more {after} long right stays = record {
      same_length = long ∙ P.same_length;
      passed = λ h interface under. elim (ℕ_discrete (head N h) i) [
        | yes enters ↦ right h interface enters
        | no elsewhere ↦ rw (stays_at h elsewhere) (P.passed h interface (omega arith))
      ];
      coming = λ h interface past. rw (stays_at h (λ enters. omega arith)) (P.coming h interface (omega arith));
      others = λ at outside. stays at (λ h interface enters. outside h interface) ∙ P.others at outside;
    }
      where
        stays_at : (h : ℕ) → head N h ≢ i → get_or after (h * n + d) 0 ≡ get_or table (h * n + d) 0
        stays_at h elsewhere =
            stays (h * n + d) (λ g interface enters same. elsewhere (ap (head N) (same_interface h g same) ∙ enters))

    -- an interface that enters the node and has no key links keeps its byte
    free_byte : (h : ℕ) → h < 2 * length low → head N h ≡ i → ((k : ℕ) → Free N d h k)
        → BackwardingByte N h d (get_or table (h * n + d) 0)
    free_byte h interface enters free = own_stays N W h free (P.coming h interface (omega arith))

    -- the cost of the node and what is kept for it, as those of the head of an interface that enters it
    module _ (h : ℕ) (enters : head N h ≡ i) where
      shown : Shows N All (head N h) d (entry_at all i)
      shown = rw enters (G.column.shows i node)

      keeps : Keeps N (head N h) d N.links (entry_at all i) (kept_at kept i)
      keeps = rw enters (G.keeps i node)

    -- what the code reads for the node; `nothing` and `past` are what a read past an array's end would give
    module _ (kept_long : length kept ≡ most_nodes) (nothing : Kept) where
      kept_is : get_or kept i nothing ≡ kept_at kept i
      kept_is = read_kept kept i (omega (arith, A.few_nodes)) nothing

      -- no key links are kept for it: no interface that enters it has any
      pub node_without_keys : is_empty (get_or kept i nothing).keys ≡ true → NodesPassed R d (i + 1) before table
      node_without_keys empty =
          let none : is_empty (kept_at kept i).keys ≡ true = rw kept_is at empty in
          node_more refl
          (λ h interface enters. free_byte h interface enters (none_kept_free N W h _ _ (shown h enters) (keeps h enters) none))
          (λ at elsewhere. refl)

      -- some are, so that the node is not the destination and has a best path; h is the interface that this path goes straight back over
      module _ (some : is_empty (get_or kept i nothing).keys ≡ false) (all_long : length all ≡ most_nodes) (past : Cost)
          {h : ℕ} (back : h ≡ reverse (get_or all i past).first) where
        not_none : (kept_at kept i).keys ≢ no_links
        not_none none = (some_value _).0 some (rw (kept_is, none) value_none)

        away : i ≢ d
        away here = not_none ((G.keeps i node).none_here here)

        known : (entry_at all i).sum < unknown
        known =
            elim (dec_lt (entry_at all i).sum unknown) [
              | yes below ↦ below
              | no apart ↦ absurd (not_none ((G.keeps i node).none_apart (omega arith)))
            ]

        returns : h ≡ reverse (entry_at all i).first
        returns = rw (read_node A.few_nodes past all all_long refl node) at back

        enters_node : head N h ≡ i
        enters_node = rw returns (back_enters N W (G.column.shows i node) away known)

        an_interface : h < 2 * length low
        an_interface = interface_row R h (rw returns (back_present N W (G.column.shows i node) away known))

        pub back_keys : KeysKnown R h d all (get_or kept i nothing).keys
        back_keys = record {
          asked = record { interface = an_interface; destination = G.destination };
          column = G.column;
          are = rw (kept_is, returns) (set_whole ((G.keeps i node).keys away known));
        }

        -- its row ends within the table
        pub back_room : h * n + n ≤ length before
        back_room = row_room n h an_interface G.room

        -- its byte is stored; another interface that enters the node has no key links
        pub node_with_keys : {byte : ℕ} → BackwardingByte N h d byte → NodesPassed R d (i + 1) before (set table (h * n + d) byte)
        node_with_keys {byte} right =
            node_more (length-set table (h * n + d) byte)
            (λ g interface enters. elim (ℕ_discrete g h) [
              | yes same ↦ rw same (rw (get_or-set_same table (h * n + d) byte 0 place) right)
              | no other ↦
                  rw (get_or-set_other table (h * n + d) (g * n + d) byte 0 (λ e. other (same_interface g h e)))
                  (free_byte g interface enters (λ k key. other (routed_back g enters key)))
            ])
            (λ at elsewhere. get_or-set_other table (h * n + d) at byte 0 (elsewhere h an_interface enters_node))
          where
            place : h * n + d < length table
            place = omega (arith, P.same_length, back_room, G.destination)

            routed_back : (g : ℕ) → head N g ≡ i → {k : ℕ} → KeyLink N d g k → g ≡ h
            routed_back g enters key =
                sym (reverse_reverse g) ∙ ap reverse (sym (key_returns N W g (shown g enters) key)) ∙ sym returns
