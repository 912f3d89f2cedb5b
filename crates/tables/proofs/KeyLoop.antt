-- The loop that tries each link: what it has found of the links below k, and that the test on the entries it reads, of the column over
-- all links and of the column without link k, tells whether k is a key link. At the destination itself there are none.
use Prim.Native.Nat.{ℕ, suc, ◌<◌}
use mathlib.Core.Bool.{true}
use mathlib.Core.Path.{◌≡◌, ◌∙◌}
use mathlib.Core.Logic.{◌≢◌, ◌↔◌}
use mathlib.Core.List.{List}
use native.Mathlib.Omega.{arith}
use lib.ListN.{length, get_or}
use Rattle.graph.specs.Network.{Network, WellFormed, link}
use Rattle.graph.specs.Path.{All}
use Rattle.graph.specs.Set.{SetOf}
use Rattle.graph.specs.Entries.{KeyLink}
use Rattle.graph.proofs.Interfaces.{head_node, tail_node}
use Rattle.graph.proofs.Sets.{set_empty, set_start, set_taken, set_passed, set_whole}
use Rattle.net.specs.Limits.{most_nodes}
use Rattle.net.specs.Check.{Accepted}
use Rattle.net.specs.Rows.{Rows, Present, network_of, head_of, tail_of}
use Rattle.net.specs.inner.LinkSet.{value, no_links, with_link}
use Rattle.net.specs.declared.link_set.LinkSet.{LinkSet}
use Rattle.net.proofs.Accepted.{well_formed}
use Rattle.net.proofs.Rows.{row_present, interface_present, head_of_lem, tail_of_lem}
use Rattle.net.proofs.LinkSets.{value_none, value_with}
use Rattle.paths.specs.inner.Column.{entry_at, BestColumn, Restarted}
use Rattle.paths.specs.declared.cost.Cost.{Cost}
use Rattle.paths.proofs.ColumnEntry.{column_but, restarted_from_all}
use Rattle.tables.specs.inner.KeyTest.{key_test}
use Rattle.tables.specs.inner.Detours.{KeysBelow}
use Rattle.tables.specs.inner.Given.{Asked}
use Rattle.tables.proofs.Reading.{read_node}
use Rattle.tables.proofs.KeyTest.{key_test_by_columns, key_not_at_destination}

-- the key links found among those below k: before any was tried, with link k, which is key or is not, and once all were tried
module _ {N : Network} {d h : ℕ} where
  pub keys_begin : KeysBelow N d h 0 no_links
  keys_begin = rw value_none set_start

  pub keys_with : {k : ℕ} (s : LinkSet) → k < N.links → KeyLink N d h k → KeysBelow N d h k s → KeysBelow N d h (suc k) (with_link s k)
  keys_with {k} s number key found = rw (value_with s k) (set_taken number key found)

  pub keys_without : {k : ℕ} (s : LinkSet) → (KeyLink N d h k → ⊥) → KeysBelow N d h k s → KeysBelow N d h (suc k) s
  keys_without s no_key found = set_passed no_key found

  pub keys_done : {k : ℕ} (s : LinkSet) → KeysBelow N d h k s → k ≡ N.links → SetOf N.links (KeyLink N d h) (value s)
  keys_done s found all = set_whole (rw all at found)

module _ {R : Rows} {h d : ℕ} (A : Accepted R) (G : Asked R h d) where
  open R use {nodes as n, low, high}

  abbrev N : Network
  N = network_of R

  W : WellFormed N
  W = well_formed R A

  present : Present R (link h)
  present = interface_present R h G.interface

  pub head_below : head_of low high h < n
  head_below = rw (head_of_lem R h) at (head_node N W h present)

  pub tail_below : tail_of low high h < n
  tail_below = rw (tail_of_lem R h) at (tail_node N W h present)

  -- the head is a place of a column
  pub head_place : {i : ℕ} → i ≡ head_of low high h → i < most_nodes
  head_place is = omega (arith, is, head_below, A.few_nodes)

  -- and so is the tail
  pub tail_place : {j : ℕ} → j ≡ tail_of low high h → j < most_nodes
  tail_place is = omega (arith, is, tail_below, A.few_nodes)

  pub no_keys_here : head_of low high h ≡ d → SetOf (length low) (KeyLink N d h) (value no_links)
  no_keys_here e = rw value_none (set_empty (λ k key. key_not_at_destination N W (head_of_lem R h ∙ e) key))

  -- the column without link k, as it was restarted from the one over all links
  module _ {all without : List Cost} {k : ℕ} (best : BestColumn N All d all) (restarted : Restarted N (with_link no_links k) all without)
      (link_number : k < length low) (all_long : length all ≡ most_nodes) (without_long : length without ≡ most_nodes)
      {i j x y : ℕ} (at_head : i ≡ head_of low high h) (at_tail : j ≡ tail_of low high h)
      (at_low : x ≡ get_or low k 0) (at_high : y ≡ get_or high k 0) (away : i ≢ d) (past : Cost) where
    tried : Present R k
    tried = row_present R k link_number

    -- what the code reads at a node's place
    abbrev read : (column : List Cost) → length column ≡ most_nodes → {i u : ℕ} → i ≡ u → u < n → get_or column i past ≡ entry_at column u
    read = read_node A.few_nodes past

    pub key_read :
        (key_test h (get_or all i past) (get_or without i past) (get_or without j past) (get_or without x past) (get_or without y past) ≡ true)
        ↔ KeyLink N d h k
    key_read =
        rw (
          read all all_long at_head head_below,
          read without without_long at_head head_below,
          read without without_long at_tail tail_below,
          read without without_long at_low (W.low_node k tried),
          read without without_long at_high (W.high_node k tried),
        )
        (key_test_by_columns R W all without tried best
        (column_but N W (restarted_from_all N W (with_link no_links k) restarted G.destination best)) h present
        (head_of_lem R h) (tail_of_lem R h) (λ e. away (at_head ∙ e)))
