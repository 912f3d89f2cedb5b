-- Keeping the key links and the dearest detour. Trying one link more leaves what is kept unless the link is key; then it joins the key
-- links, and the dearer of the two detours is kept, which is as dear as every detour so far, since costs are compared as pairs, first part
-- first, which is a total order. A link that is not on the node's own best path is not key, so that what is kept stays without any trying.
-- Neither is any link at the destination itself, or where the node has no way on.
use Prim.Native.Nat.{ℕ, suc, ◌≤◌, ◌<◌}
use mathlib.Core.Bool.{Bool, true, false, false≢true}
use mathlib.Core.Path.{◌≡◌, refl, sym, ◌∙◌}
use mathlib.Core.Logic.{◌⊎◌, inl, inr, ◌≢◌, ◌↔◌}
use mathlib.Core.List.{List, [], ◌∷◌}
use native.Mathlib.Decide.{ℕ_discrete, dec_lt}
use native.Mathlib.Omega.{arith}
use lib.ListN.{get_or, replicate, get_or-replicate}
use Rattle.graph.specs.Network.{Network, WellFormed, reverse, head}
use Rattle.graph.specs.Path.{BestPath, All, But, weight_sum}
use Rattle.graph.specs.Set.{link_set}
use Rattle.graph.specs.Entries.{KeyLink}
use Rattle.graph.proofs.Interfaces.{tail_reverse}
use Rattle.graph.proofs.Chain.{Best, best_after}
use Rattle.graph.proofs.Agreement.{path_best, best_path}
use Rattle.net.specs.Limits.{most_nodes}
use Rattle.net.specs.Choice.{pick}
use Rattle.net.specs.Rows.{Rows, Present, network_of}
use Rattle.net.specs.inner.LinkSet.{value, with_link}
use Rattle.net.proofs.Rows.{present_row}
use Rattle.paths.specs.inner.Cost.{unknown, here_cost, is_known}
use Rattle.paths.specs.inner.Column.{entry_at, Shows, BestColumn}
use Rattle.paths.specs.declared.cost.Cost.{Cost}
use Rattle.paths.proofs.CostNumber.{Lower, before?}
use Rattle.paths.proofs.ColumnEntry.{known_true, shown_best, shown_onward, weighs_something}
use Rattle.tables.specs.declared.kept.Kept.{Kept}
use Rattle.tables.specs.inner.KeyTest.{crosses_link, key_test}
use Rattle.tables.specs.inner.Detours.{dearer_of, noted, Dearest, no_key, dearest, Keeps, SquareKept}
use Rattle.tables.specs.inner.Detours.{nothing_kept, none_kept, kept_for, kept_at}
use Rattle.tables.proofs.Tests.{both_true}
use Rattle.tables.proofs.KeyTest.{key_test_by_columns, key_crossed}
use Rattle.tables.proofs.KeptKeys.{back_enters, back_present}
use Rattle.tables.proofs.KeyLoop.{keys_begin, keys_with, keys_without}

-- the pair of a sum and a set is not above the cost
abbrev pub Within : ℕ → ℕ → Cost → Type 0
Within sum set c = (sum < c.sum) ⊎ ((sum ≡ c.sum) × (set ≤ value c.links))

within_lower : {sum set : ℕ} (a b : Cost) → Within sum set a → Lower a b → Within sum set b
within_lower a b (inl h) (inl l) = inl (omega arith)
within_lower a b (inl h) (inr (e, l)) = inl (omega arith)
within_lower a b (inr (e, h)) (inl l) = inl (omega arith)
within_lower a b (inr (e, h)) (inr (q, l)) = inr (e ∙ q, omega arith)

within_not_lower : {sum set : ℕ} (a b : Cost) → Within sum set b → (Lower a b → ⊥) → Within sum set a
within_not_lower a b h not_lower =
    elim (dec_lt b.sum a.sum) [
      | yes l ↦ elim h [ inl s ↦ inl (omega arith) | inr (e, s) ↦ inl (omega arith) ]
      | no l ↦ elim (dec_lt a.sum b.sum) [
        | yes g ↦ absurd (not_lower (inl g))
        | no g ↦
            let e : a.sum ≡ b.sum = omega arith in
            elim (dec_lt (value a.links) (value b.links)) [
              | yes s ↦ absurd (not_lower (inr (e, s)))
              | no s ↦ elim h [ inl t ↦ inl (omega arith) | inr (q, t) ↦ inr (q ∙ sym e, omega arith) ]
            ]
      ]
    ]

-- Of the links below `tried`, each that is key gives a detour not dearer than c.
abbrev Bounds : Network → ℕ → ℕ → ℕ → ℕ → Cost → Type 0
Bounds N i d h tried c =
    (l g : ℕ) (q : List ℕ) → l < tried → KeyLink N d h l → BestPath N (But l) i (g ∷ q) d → Within (weight_sum N (g ∷ q)) (link_set (g ∷ q)) c

dearest_bounds : {N : Network} {i d h tried : ℕ} {c : Cost} → Dearest N i d h tried c → Bounds N i d h tried c
dearest_bounds (no_key z free) = λ l g q below key t. absurd (free l below key)
dearest_bounds (dearest _ _ _ _ _ _ _ bounds) = bounds

module _ (N : Network) (W : WellFormed N) {i d h k : ℕ} where
  -- a link more, which is no key link
  passed_free : {c : Cost} → (KeyLink N d h k → ⊥) → Dearest N i d h k c → Dearest N i d h (suc k) c
  passed_free free (no_key z none) =
      no_key z (λ l below key. elim (ℕ_discrete l k) [ yes e ↦ free (rw e at key) | no n ↦ none l (omega arith) key ])
  passed_free free (dearest {k = j} below key t s set f known bounds) =
      dearest {k = j} (omega arith) key t s set f known
      (λ l g q under other u.
      elim (ℕ_discrete l k) [ yes e ↦ absurd (free (rw e at other)) | no n ↦ bounds l g q (omega arith) other u ])

  module _ {after : Cost} (shown : Shows N (But k) i d after) (away : i ≢ d) where
    -- the bounds with the detour without link k
    bounds_more : (c : Cost) → Bounds N i d h k c
        → (after_within : (sum set : ℕ) → Within sum set after → Within sum set c) → Bounds N i d h (suc k) c
    bounds_more c bounds after_within l g q below key t =
        elim (ℕ_discrete l k) [
          | no n ↦ bounds l g q (omega arith) key t
          | yes e ↦
              let u : BestPath N (But k) i (g ∷ q) d = rw e at t in
              let m = shown_best N W shown (path_best N W u) in
              after_within _ _ (inr (sym m.sum, omega (arith, m.set)))
        ]

    -- a link more, which is key: it gives a detour, since the path of its end goes on from i
    passed_key : {kept : Cost} → head N h ≡ i → KeyLink N d h k → Dearest N i d h k kept → Dearest N i d h (suc k) (dearer_of kept after)
    unfolding dearer_of
    passed_key {kept} is key D =
        let on : Best N (But k) i key.after d = rw is at (best_after N key.before h key.after (path_best N W key.crosses)) in
        let (p, m) = shown_onward N W shown away (shown_best N W shown on).known in
        let bounds = dearest_bounds D in
        elim (before? kept after) [
          | inl (e, lower) ↦
              rw e
              (dearest {k = k} (omega arith) key (best_path N W m.best) m.sum m.set refl m.known
              (bounds_more after (λ l g q below other t. within_lower kept after (bounds l g q below other t) lower) (λ s x w. w)))
          | inr (e, not_lower) ↦
              rw e
              (elim D [
                | no_key z none ↦
                    let heavy : 0 < weight_sum N (after.first ∷ p) = weighs_something N W m.best.chain in
                    absurd (not_lower (inl (omega (arith, m.sum))))
                | dearest {k = j} below other t s set f known old ↦
                    dearest {k = j} (omega arith) other t s set f known
                    (bounds_more kept old (λ a x w. within_not_lower kept after w not_lower))
              ])
        ]

-- before any link is tried
pub nothing_keeps : {N : Network} {i d : ℕ} {whole : Cost} → Keeps N i d 0 whole nothing_kept
unfolding nothing_kept here_cost
nothing_keeps =
    record {
      keys = λ away known. keys_begin;
      detour = λ away known. no_key refl (λ l below key. omega arith);
      none_here = λ e. refl;
      none_apart = λ h. refl;
    }

start_cell : (i d : ℕ) → i < most_nodes → d < most_nodes → kept_at (kept_for none_kept d) i ≡ nothing_kept
unfolding none_kept kept_for kept_at
start_cell i d hi hd =
    rw (get_or-replicate most_nodes d (replicate most_nodes nothing_kept) [] hd) (get_or-replicate most_nodes i nothing_kept nothing_kept hi)

pub kept_start : (N : Network) → N.nodes ≤ most_nodes → (all : List (List Cost)) → SquareKept N 0 all none_kept
kept_start N few all d hd i hi = rw (start_cell i d (omega arith) (omega arith)) nothing_keeps

-- what is kept of i, by the columns over all links and without link k, after that was tried
abbrev pub noting : Rows → ℕ → List Cost → List Cost → ℕ → Kept → Kept
noting R k all without i kept =
    noted kept k (entry_at all i) (entry_at without i) (entry_at without (head (network_of R) (entry_at all i).first))
    (entry_at without (get_or R.low k 0)) (entry_at without (get_or R.high k 0))

module _ (R : Rows) (W : WellFormed (network_of R)) {d k : ℕ} (present : Present R k) (all without : List Cost)
    (whole : BestColumn (network_of R) All d all) (less : BestColumn (network_of R) (But k) d without) where
  abbrev N : Network
  N = network_of R

  module _ (i : ℕ) (node : i < R.nodes) where
    -- the first interface of i's best path, by whose reverse the node after i would send back
    abbrev f : ℕ
    f = (entry_at all i).first

    enters : i ≢ d → (entry_at all i).sum < unknown → head N (reverse f) ≡ i
    enters away known = back_enters N W (whole.shows i node) away known

    -- a link more, which is no key link
    kept_free : (c : Kept) → (i ≢ d → (entry_at all i).sum < unknown → KeyLink N d (reverse f) k → ⊥)
        → Keeps N i d k (entry_at all i) c → Keeps N i d (suc k) (entry_at all i) c
    kept_free c free K =
        record {
          keys = λ away known. keys_without c.keys (free away known) (K.keys away known);
          detour = λ away known. passed_free N W (free away known) (K.detour away known);
          none_here = K.none_here;
          none_apart = K.none_apart;
        }

    -- one which i's best path does not cross
    pub passed_keeps : (c : Kept) → crosses_link (entry_at all i) k ≡ false
        → Keeps N i d k (entry_at all i) c → Keeps N i d (suc k) (entry_at all i) c
    passed_keeps c uncrossed = kept_free c free
      where
        free : i ≢ d → (entry_at all i).sum < unknown → KeyLink N d (reverse f) k → ⊥
        free away known key =
            let shown : Shows N All (head N (reverse f)) d (entry_at all i) = rw (enters away known) (whole.shows i node) in
            false≢true (sym uncrossed ∙ key_crossed N W shown key)

    -- one that is tried
    module _ (away : i ≢ d) where
      abbrev test : Bool
      test =
          key_test (reverse f) (entry_at all i) (entry_at without i) (entry_at without (head N f))
          (entry_at without (get_or R.low k 0)) (entry_at without (get_or R.high k 0))

      tells : (entry_at all i).sum < unknown → (test ≡ true) ↔ KeyLink N d (reverse f) k
      tells known =
          let up = back_present N W (whole.shows i node) away known in
          key_test_by_columns R W all without present whole less (reverse f) up (enters away known) (tail_reverse N f) away

      -- no link is key where i has no way on
      routed : test ≡ true → (entry_at all i).sum < unknown
      unfolding key_test
      routed e = (known_true (entry_at all i)).0 ((both_true (is_known (entry_at all i)) _).0 e).0

      pub noted_keeps : (c : Kept) → Keeps N i d k (entry_at all i) c → Keeps N i d (suc k) (entry_at all i) (noting R k all without i c)
      unfolding noted
      noted_keeps c K = go test refl
        where
          go : (b : Bool) → test ≡ b → Keeps N i d (suc k) (entry_at all i)
              (pick b (record { keys = with_link c.keys k; detour = dearer_of c.detour (entry_at without i) }) c)
          go false e = kept_free c (λ apart known key. false≢true (sym e ∙ (tells known).1 key)) K
          go true e =
              let known = routed e in
              let key = (tells known).0 e in
              record {
                keys = λ apart routes. keys_with c.keys (present_row R k present) key (K.keys away known);
                detour = λ apart routes. passed_key N W (less.shows i node) away (enters away known) key (K.detour away known);
                none_here = λ here. absurd (away here);
                none_apart = λ cut_off. absurd (omega arith);
              }
