-- Noting one more link for every node: the code goes over what is kept place by place, so that the places passed hold what is kept with
-- the link tried, and the others what was kept before. Where the node's best path crosses the link, that path leads on, so that the node
-- after it is a place of the column; where it does not, what is kept stays.
use Prim.Native.Nat.{ℕ, suc, ◌+◌, ◌≤◌, ◌<◌}
use mathlib.Core.Bool.{true, false}
use mathlib.Core.Path.{◌≡◌, refl, ◌∙◌}
use mathlib.Core.Logic.{◌≢◌}
use mathlib.Core.List.{List}
use native.Mathlib.Decide.{ℕ_discrete}
use native.Mathlib.Omega.{arith}
use lib.ListN.{length, get_or, set, length-set}
use lib.Seq.{get_or-set_same, get_or-set_other}
use Rattle.graph.specs.Network.{Network, WellFormed}
use Rattle.graph.proofs.Interfaces.{head_node}
use Rattle.graph.proofs.Chain.{first_present}
use Rattle.net.specs.Limits.{most_nodes}
use Rattle.net.specs.Check.{Accepted}
use Rattle.net.specs.Rows.{Rows, Present, network_of, head_of}
use Rattle.net.proofs.Accepted.{well_formed}
use Rattle.net.proofs.Rows.{row_present, head_of_lem}
use Rattle.paths.specs.inner.Column.{entry_at}
use Rattle.paths.specs.declared.cost.Cost.{Cost}
use Rattle.paths.proofs.ColumnEntry.{shown_onward}
use Rattle.tables.specs.declared.kept.Kept.{Kept}
use Rattle.tables.specs.inner.KeyTest.{crosses_link}
use Rattle.tables.specs.inner.Detours.{noted, nothing_kept, kept_at, Keeps, AllKept}
use Rattle.tables.specs.inner.Given.{Trying}
use Rattle.tables.proofs.Tests.{crosses_true}
use Rattle.tables.proofs.Reading.{read_node, read_kept}
use Rattle.tables.proofs.KeyTest.{crossed_apart}
use Rattle.tables.proofs.Detours.{noting, noted_keeps, passed_keeps}

-- the places before i hold what is kept with link k tried, the others what was kept before
pub record NotedBelow (N : Network) (d k : ℕ) (all : List Cost) (kept : List Kept) (i : ℕ) (next : List Kept) : Type 0 where
  pub long : length next ≡ most_nodes
  pub passed : (a : ℕ) → a < i → a < N.nodes → Keeps N a d (suc k) (entry_at all a) (kept_at next a)
  pub left : (a : ℕ) → i ≤ a → kept_at next a ≡ kept_at kept a

pub noted_start : {N : Network} {d k : ℕ} {all : List Cost} {kept : List Kept} → length kept ≡ most_nodes → NotedBelow N d k all kept 0 kept
noted_start long = record { long = long; passed = λ a h. absurd (omega arith); left = λ a h. refl }

pub noted_done : {N : Network} {d k i : ℕ} {all : List Cost} {kept next : List Kept} → N.nodes ≤ i → NotedBelow N d k all kept i next
    → AllKept N d (suc k) all next
noted_done end D a node = D.passed a (omega arith) node

module _ {R : Rows} {d k : ℕ} {all without : List Cost} {kept : List Kept} (A : Accepted R)
    (G : Trying R d k all without kept) where
  open R use {nodes as n, low, high}

  abbrev N : Network
  N = network_of R

  W : WellFormed N
  W = well_formed R A

  present : Present R k
  present = row_present R k G.row

  -- one place more, whatever is stored in it
  noted_more : (i : ℕ) {next after : List Kept} → NotedBelow N d k all kept i next → length after ≡ most_nodes
      → ((a : ℕ) → a ≢ i → kept_at after a ≡ kept_at next a) → Keeps N i d (suc k) (entry_at all i) (kept_at after i)
      → NotedBelow N d k all kept (i + 1) after
  noted_more i D long others here =
      record {
        long = long;
        passed = λ a h below. elim (ℕ_discrete a i) [
          | yes e ↦ rw e here
          | no other ↦ rw (others a other) (D.passed a (omega arith) below)
        ];
        left = λ a h. others a (λ e. omega arith) ∙ D.left a (omega arith);
      }

  -- what the code reads
  module _ (all_long : length all ≡ most_nodes) (i : ℕ) (node : i < n) (past : Cost) where
    read : (column : List Cost) → length column ≡ most_nodes → {i u : ℕ} → i ≡ u → u < n → get_or column i past ≡ entry_at column u
    read = read_node A.few_nodes past

    whole_is : get_or all i past ≡ entry_at all i
    whole_is = read all all_long refl node

    -- i's best path does not cross the link
    pub noted_uncrossed : {next : List Kept} → NotedBelow N d k all kept i next → crosses_link (get_or all i past) k ≡ false
        → NotedBelow N d k all kept (i + 1) next
    noted_uncrossed D uncrossed =
        noted_more i D D.long (λ a other. refl)
        (rw (D.left i (omega arith))
        (passed_keeps R W present all without G.column G.column_without i node (kept_at kept i) (rw whole_is at uncrossed)
        (G.keeps i node)))

    module _ (crosses : crosses_link (get_or all i past) k ≡ true) where
      crosses_whole : crosses_link (entry_at all i) k ≡ true
      crosses_whole = rw whole_is at crosses

      -- it does, so that i is not the destination
      away : i ≢ d
      away = crossed_apart N W (G.column.shows i node) k crosses_whole

      -- and the path leads on to a node
      pub ahead_node : head_of low high (get_or all i past).first < n
      ahead_node =
          let (p, m) = shown_onward N W (G.column.shows i node) away ((crosses_true (entry_at all i) k).0 crosses_whole).0 in
          let f = (entry_at all i).first in
          rw (whole_is, ← head_of_lem R f) (head_node N W f (first_present N m.best.chain))

      -- whose cost the column holds
      pub ahead_place : {j : ℕ} → j ≡ head_of low high (get_or all i past).first → j < most_nodes
      ahead_place is = omega (arith, is, ahead_node, A.few_nodes)

      -- what is kept of i, the costs of i, of the node after it and of the link's two ends
      pub noted_crossed : {next : List Kept} → NotedBelow N d k all kept i next → length without ≡ most_nodes → (past_kept : Kept)
          → {j x y : ℕ} → j ≡ head_of low high (get_or all i past).first → x ≡ get_or low k 0 → y ≡ get_or high k 0
          → {c : Kept} → c ≡ noted (get_or next i past_kept) k (get_or all i past) (get_or without i past) (get_or without j past)
          (get_or without x past) (get_or without y past)
          → NotedBelow N d k all kept (i + 1) (set next i c)
      unfolding kept_at
      noted_crossed {next} D without_long past_kept {j} {x} {y} is_ahead is_low is_high {c} is =
          noted_more i D (length-set next i c ∙ D.long) (λ a other. get_or-set_other next i a c nothing_kept other)
          (rw (get_or-set_same next i c nothing_kept place, stored)
          (noted_keeps R W present all without G.column G.column_without i node away (kept_at kept i) (G.keeps i node)))
        where
          place : i < length next
          place = omega (arith, D.long, A.few_nodes)

          stored : c ≡ noting R k all without i (kept_at kept i)
          stored =
              let kept_is = read_kept next i place past_kept ∙ D.left i (omega arith) in
              let after_is = read without without_long refl node in
              let ahead_is = read without without_long is_ahead ahead_node in
              let one_is = read without without_long is_low (W.low_node k present) in
              let other_is = read without without_long is_high (W.high_node k present) in
              let next_node = head_of_lem R (entry_at all i).first in
              cc whole_is
