-- The cost to forward by tells the forwarding entry. Where the interface has no key links nothing is taken out, and the entry is the
-- routing entry of its head; else the head routes straight back over it, and the dearest detour kept is the best path without all key
-- links.
use Prim.Native.Nat.{ℕ, ◌≤◌, ◌<◌}
use mathlib.Core.Path.{◌≡◌, ap, ◌∙◌}
use mathlib.Core.Logic.{◌≢◌, inl, inr}
use mathlib.Core.List.{List, [], ◌∷◌}
use native.Mathlib.Omega.{arith}
use Rattle.graph.specs.Network.{Network, WellFormed, reverse, head}
use Rattle.graph.specs.Path.{BestPath, All, But, weight_sum}
use Rattle.graph.specs.Set.{link_set}
use Rattle.graph.specs.Entries.{onward, Entry, KeyLink, Free}
use Rattle.graph.proofs.Interfaces.{reverse_reverse}
use Rattle.graph.proofs.Chain.{Best, cost}
use Rattle.graph.proofs.Sum.{le_pair}
use Rattle.graph.proofs.Simple.{simple}
use Rattle.graph.proofs.Order.{links_once, set_below, cost_pair}
use Rattle.graph.proofs.Agreement.{path_best, best_path}
use Rattle.graph.proofs.Entries.{best_entry, forwarding_by_routing, nearest_key_link?}
use Rattle.graph.proofs.Dearest.{dearest_is_free}
use Rattle.graph.proofs.Sets.{set_one, set_empty}
use Rattle.net.specs.inner.LinkSet.{value}
use Rattle.net.proofs.LinkSets.{empty_value, some_value}
use Rattle.paths.specs.inner.Column.{Shows}
use Rattle.paths.specs.declared.cost.Cost.{Cost}
use Rattle.paths.proofs.ColumnEntry.{Tells, leads, leads_nowhere, shown_tells}
use Rattle.tables.specs.declared.kept.Kept.{Kept}
use Rattle.tables.specs.inner.Detours.{keys_for, forward_cost, Dearest, no_key, dearest, Keeps}
use Rattle.tables.proofs.Detours.{Within}
use Rattle.tables.proofs.KeptKeys.{key_in_set, key_known, key_returns, kept_keys}

module _ (N : Network) (W : WellFormed N) where
  -- a detour that is not dearer as a pair does not cost more
  within_cost : {X Y : ℕ → Type 0} {i j d : ℕ} {p q : List ℕ} (c : Cost) → c.sum ≡ weight_sum N p → value c.links ≡ link_set p
      → Best N X i p d → Best N Y j q d → Within (weight_sum N q) (link_set q) c → cost N q ≤ cost N p
  within_cost {p = p} {q = q} c sum set s t within =
      let few_p = set_below N (links_once N W (simple N W s)) in
      let few_q = set_below N (links_once N W (simple N W t)) in
      rw (cost_pair N p, cost_pair N q) (le_pair _ _ _ few_q few_p (rw (sum, set) at within))

  module _ {d : ℕ} (h : ℕ) where
    -- the dearest detour is the best path without all key links
    dearest_entry : {k f : ℕ} {p : List ℕ} (c : Cost) → KeyLink N d h k → BestPath N (But k) (head N h) (f ∷ p) d
        → c.sum ≡ weight_sum N (f ∷ p) → value c.links ≡ link_set (f ∷ p)
        → ((l g : ℕ) (q : List ℕ) → l < N.links → KeyLink N d h l → BestPath N (But l) (head N h) (g ∷ q) d
        → Within (weight_sum N (g ∷ q)) (link_set (g ∷ q)) c)
        → Entry N (Free N d h) (head N h) d (onward f)
    dearest_entry {f = f} {p = p} c key t sum set bounds =
        best_entry N W (f ∷ p) (dearest_is_free N W d h key (path_best N W t) not_dearer)
      where
        not_dearer : (l : ℕ) (T : List ℕ) → KeyLink N d h l → Best N (But l) (head N h) T d → cost N T ≤ cost N (f ∷ p)
        not_dearer l [] other u = omega arith
        not_dearer l (g ∷ q) other u =
            within_cost c sum set (path_best N W t) u (bounds l g q (W.numbered l other.present) other (best_path N W u))

    -- with no key links the cost of the head's own best path tells the entry
    free_tells : {whole : Cost} → ((k : ℕ) → Free N d h k) → Tells N All (head N h) d whole → Tells N (Free N d h) (head N h) d whole
    free_tells free (leads known entry) = leads known ((forwarding_by_routing N W d h free).0 entry)
    free_tells free (leads_nowhere apart entry) = leads_nowhere apart ((forwarding_by_routing N W d h free).0 entry)

    -- with one the dearest detour does
    dearest_tells : {k : ℕ} {c : Cost} → KeyLink N d h k → Dearest N (head N h) d h N.links c → Tells N (Free N d h) (head N h) d c
    dearest_tells {k} key (no_key z none) = absurd (none k (W.numbered k key.present) key)
    dearest_tells {c = c} key (dearest below other t sum set first known bounds) =
        leads known (rw first (dearest_entry c other t sum set bounds))

    module _ (away : head N h ≢ d) (whole : Cost) (kept : Kept) (shown : Shows N All (head N h) d whole) where
      -- a key link shows that the head routes straight back over h, so that what is kept is kept of h
      kept_tells : {k : ℕ} → KeyLink N d h k → Keeps N (head N h) d N.links whole kept
          → Tells N (Free N d h) (head N h) d kept.detour
      kept_tells key keeps =
          let back : reverse whole.first ≡ h = ap reverse (key_returns N W h shown key) ∙ reverse_reverse h in
          dearest_tells key (rw back at (keeps.detour away (key_known N W h shown key)))

      pub forward_tells : Keeps N (head N h) d N.links whole kept → Tells N (Free N d h) (head N h) d (forward_cost h whole kept)
      unfolding forward_cost
      forward_tells keeps =
          let are = kept_keys N W h whole kept shown keeps in
          elim (nearest_key_link? N W d h) [
            | inl free ↦
                rw ((empty_value (keys_for h whole kept)).1 (set_one are (set_empty free)))
                (free_tells free (shown_tells N W shown away))
            | inr (k, nearest) ↦
                let key = nearest.key in
                rw ((some_value (keys_for h whole kept)).1 (key_in_set N W h are key)) (kept_tells key keeps)
          ]
