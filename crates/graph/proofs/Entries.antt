-- Entries: each is determined, each exists, and how the forwarding entry may be computed. All of it follows from the best path: an
-- entry is its first interface. Of forwarding entries: where the interface has no key links nothing is taken out, so it is the
-- routing entry of the head; else taking out the key link nearest the destination is enough (K2, in Keys). So where the head is joined to
-- the destination at all, the forwarding entry leads somewhere.
use mathlib.Core.Path.{◌≡◌, refl, sym, ap, ◌∙◌, subst}
use mathlib.Core.Logic.{◌⊎◌, inl, inr, ◌≢◌, ◌↔◌}
use mathlib.Core.List.{List, [], ◌∷◌, ◌++◌, append_assoc}
use Prim.Native.Nat.{ℕ, ◌≤◌}
use native.Mathlib.Decide.{ℕ_discrete}
use native.Mathlib.Omega.{arith}
use Rattle.graph.specs.Network.{Network, WellFormed, link, reverse, tail, head}
use Rattle.graph.specs.Path.{Chain, stop, Over, none, All, But}
use Rattle.graph.specs.Entries.{Hop, here, onward, nowhere, Entry, at_destination, starts, lacks, KeyLink, Free, RoutingEntry}
use Rattle.graph.specs.Entries.{ForwardingEntry, Aside, BackwardingEntry}
use Rattle.graph.specs.Later.{NearestKeyLink}
use Rattle.graph.proofs.Interfaces.{link_reverse}
use Rattle.graph.proofs.Chain.{Best, cost, back, link_cost_positive, cost_append, chain_nil, best_from, best_after, best_fewer}
use Rattle.graph.proofs.Chain.{over_weaken}
use Rattle.graph.proofs.Unique.{unique}
use Rattle.graph.proofs.Simple.{simple, get}
use Rattle.graph.proofs.Agreement.{path_best, best_path}
use Rattle.graph.proofs.Keys.{Key, over_at, over_all, over_by_places, key_on, key_towards, but?, key_link, detour_key}
use Rattle.graph.proofs.Keys.{link_key, free_best, key_at, all_path, keys?, free?}

-- the entry that a best path gives
abbrev pub hop_of : List ℕ → Hop
hop_of [] = here
hop_of (f ∷ p) = onward f

module _ (N : Network) (W : WellFormed N) where
  module _ {X : ℕ → Type 0} {i d : ℕ} where
    pub apart : {f : ℕ} {p : List ℕ} → Best N X i (f ∷ p) d → i ≢ d
    apart {f} {p} t e = omega (arith, t.least (stop e) none, link_cost_positive N (link f))

    pub entry_one : {a b : Hop} → Entry N X i d a → Entry N X i d b → a ≡ b
    entry_one (at_destination e) (at_destination e₂) = refl
    entry_one (at_destination e) (starts n t) = absurd (n e)
    entry_one (at_destination e) (lacks n c) = absurd (n e)
    entry_one (starts n t) (at_destination e) = absurd (n e)
    entry_one (starts {f} {p} n t) (starts {f = g} {p = q} m u) =
        let same : f ∷ p ≡ g ∷ q = unique N W (path_best N W t) (path_best N W u) in
        cc
    entry_one (starts n t) (lacks m c) = absurd (c _ t.path t.over)
    entry_one (lacks n c) (at_destination e) = absurd (n e)
    entry_one (lacks n c) (starts m t) = absurd (c _ t.path t.over)
    entry_one (lacks n c) (lacks m c₂) = refl

    pub best_entry : (p : List ℕ) → Best N X i p d → Entry N X i d (hop_of p)
    best_entry [] t = at_destination (chain_nil N t.chain)
    best_entry (f ∷ p) t = starts (apart t) (best_path N W t)

    -- no chain of links left in: no entry, except at the destination itself
    pub no_chain_entry : i ≢ d → ((p : List ℕ) → Chain N i p d → Over X p → ⊥) → Entry N X i d nowhere
    no_chain_entry n c = lacks n (λ p t o. c p t.chain o)

    pub entry_best : {e : Hop} {p : List ℕ} → Entry N X i d e → Best N X i p d → e ≡ hop_of p
    entry_best {e} {p} a t = entry_one a (best_entry p t)

    pub has_entry : ((k : ℕ) → Dec (X k)) → (e : Hop) × Entry N X i d e
    has_entry dec =
        elim (ℕ_discrete i d) [
          | yes e ↦ (here, at_destination e)
          | no n ↦ elim (get N W dec i d) [ inl (p, t) ↦ (hop_of p, best_entry p t) | inr c ↦ (nowhere, no_chain_entry n c) ]
        ]

  -- the same best path, the same entry
  pub same_best_entry : {X Y : ℕ → Type 0} {i d : ℕ} {p : List ℕ} {e : Hop} → Best N X i p d → Best N Y i p d
      → Entry N X i d e → Entry N Y i d e
  same_best_entry s t a = rw (entry_best a s) (best_entry _ t)

  -- the same links left in, the same entry
  pub same_links_entry : {X Y : ℕ → Type 0} {i d : ℕ} {e : Hop} → ((k : ℕ) → X k → Y k) → ((k : ℕ) → Y k → X k)
      → Entry N X i d e → Entry N Y i d e
  same_links_entry to back (at_destination e) = at_destination e
  same_links_entry to back (starts n t) =
      starts n (record { path = t.path; over = over_weaken N to t.over; best = λ q s o. t.best q s (over_weaken N back o) })
  same_links_entry to back (lacks n c) = lacks n (λ p s o. c p s (over_weaken N back o))

  module _ (d : ℕ) where
    pub routing_entry : (i : ℕ) → (e : Hop) × RoutingEntry N d i e
    routing_entry i = has_entry (λ k. yes tt)

    pub backwarding_entry : (h : ℕ) → (e : Hop) × BackwardingEntry N d h e
    backwarding_entry h = has_entry aside?
      where
        aside? : (k : ℕ) → Dec (Aside N d h k)
        aside? k =
            elim (but? (link h) k) [
              | no own ↦ no (λ left_in. own left_in.0)
              | yes other ↦ elim (free? N W d h k) [
                | yes free ↦ yes (other, free)
                | no key ↦ no (λ left_in. key left_in.1)
              ]
            ]

    module _ (h : ℕ) where
      -- with no key links the forwarding entry is the routing entry of the head
      pub forwarding_by_routing : {e : Hop} → ((k : ℕ) → Free N d h k) → RoutingEntry N d (head N h) e ↔ ForwardingEntry N d h e
      forwarding_by_routing free =
          (same_links_entry (λ k o. free k) (λ k o. tt), same_links_entry (λ k o. tt) (λ k o. free k))

      -- with no key links the interface's own link alone is taken out for the backwarding entry
      pub backwarding_by_own : {e : Hop} → ((k : ℕ) → Free N d h k) → Entry N (But (link h)) (tail N h) d e → BackwardingEntry N d h e
      backwarding_by_own free = same_links_entry (λ k other. (other, free k)) (λ k left_in. left_in.0)

      -- the nearest key link and the detour that it gives
      pub nearest_detour : {k : ℕ} → NearestKeyLink N d h k → (S : List ℕ) × Best N (Free N d h) (head N h) S d × Best N (But k) (head N h) S d
      nearest_detour {k} n = by_place n.before (path_best N W n.routing)
        where
          c : ℕ
          c = n.crossing

          C : List ℕ
          C = n.after

          key : Key N d h k
          key = link_key N W n.key

          by_round : (A : List ℕ) → Best N All (head N h) (reverse h ∷ (A ++ c ∷ C)) d
              → (S : List ℕ) × Best N (But (link c)) (tail N c) (back A ++ h ∷ S) d
              → (S : List ℕ) × Best N (Free N d h) (head N h) S d × Best N (But k) (head N h) S d
          by_round A main (S, round) = (
            S,
            free_best N W {S = S} (record { between = A; nearest = c; beyond = C; main = main; round = round; last = n.last }),
            subst (λ l. Best N (But l) (head N h) S d) n.is (best_after N (back A) h S round),
          )

          by_place : (b : List ℕ) → Best N All (head N h) (b ++ c ∷ C) d
              → (S : List ℕ) × Best N (Free N d h) (head N h) S d × Best N (But k) (head N h) S d
          by_place [] t =
              let same : c ∷ C ≡ reverse h ∷ key.onward = unique N W t key.returns in
              let first : c ≡ reverse h = cc in
              absurd (over_at key.before h key.after key.crosses.over (sym (link_reverse h) ∙ ap link (sym first) ∙ n.is))
          by_place (x ∷ A) t =
              let same : x ∷ (A ++ c ∷ C) ≡ reverse h ∷ key.onward = unique N W t key.returns in
              let first : x ≡ reverse h = cc in
              let main : Best N All (head N h) (reverse h ∷ (A ++ c ∷ C)) d = rw first at t in
              by_round A main (key_at N W A c C main (rw n.is key))

      -- Wherever an interface has key links for a destination, taking out only the one nearest the destination gives the same
      -- forwarding entry as taking out all.
      pub forwarding_by_nearest : {k : ℕ} {e : Hop} → NearestKeyLink N d h k → Entry N (But k) (head N h) d e ↔ ForwardingEntry N d h e
      forwarding_by_nearest {k} n =
          let (S, free, near) = nearest_detour n in
          (same_best_entry near free, same_best_entry free near)

      -- an interface has no key links, or one of them is nearest
      pub nearest_key_link? : ((k : ℕ) → Free N d h k) ⊎ ((k : ℕ) × NearestKeyLink N d h k)
      nearest_key_link? =
          elim (keys? N W d h) [
            | inl free ↦ inl free
            | inr (S, D) ↦ inr (
              link D.nearest,
              record {
                key = key_link N W (detour_key N W D);
                before = reverse h ∷ D.between;
                crossing = D.nearest;
                is = refl;
                after = D.beyond;
                routing = best_path N W D.main;
                last = D.last;
              },
            )
          ]

      pub nearest_key_link : {k : ℕ} → KeyLink N d h k → (l : ℕ) × NearestKeyLink N d h l
      nearest_key_link key = elim nearest_key_link? [ inl free ↦ absurd (free _ key) | inr found ↦ found ]

      -- the key link whose near end has the cheapest best path is the nearest
      pub nearest_by_cost : {k : ℕ} {p : List ℕ} (key : KeyLink N d h k) → Best N All (tail N key.from) p d
          → ((k₂ : ℕ) (key₂ : KeyLink N d h k₂) (q : List ℕ) → Best N All (tail N key₂.from) q d → cost N p ≤ cost N q)
          → NearestKeyLink N d h k
      nearest_by_cost {k} {p} key t least =
          let on = key_on N W (path_best N W key.routing) (link_key N W key) in
          by_place on.before on.crossing on.after (rw on.split at (path_best N W key.routing)) on.is
        where
          by_place : (A : List ℕ) (g : ℕ) (C : List ℕ) → Best N All (head N h) (reverse h ∷ (A ++ g ∷ C)) d → link g ≡ k
              → NearestKeyLink N d h k
          by_place A g C main is = record {
            key = key;
            before = reverse h ∷ A;
            crossing = g;
            is = is;
            after = C;
            routing = best_path N W main;
            last = over_by_places C no_key_at;
          }
            where
              start : p ≡ g ∷ C
              start = unique N W (rw (key_towards N W A g C main is (link_key N W key)) at t) (best_from N (reverse h ∷ A) g C main)

              -- a key link further on would have a cheaper near end
              no_key_at : (a : List ℕ) (y : ℕ) (b : List ℕ) → C ≡ a ++ y ∷ b → Free N d h (link y)
              no_key_at a y b place key₂ =
                  let main₂ : Best N All (head N h) (reverse h ∷ ((A ++ g ∷ a) ++ y ∷ b)) d =
                  rw (append_assoc A (g ∷ a) (y ∷ b)) (rw place at main) in
                  let far : Best N All (tail N key₂.from) (y ∷ b) d =
                  rw (key_towards N W (A ++ g ∷ a) y b main₂ refl (link_key N W key₂)) (best_from N (reverse h ∷ (A ++ g ∷ a)) y b main₂) in
                  let dear : cost N p ≡ cost N (g ∷ (a ++ y ∷ b)) = ap (cost N) (start ∙ ap (λ q. g ∷ q) place) in
                  omega (arith, least (link y) key₂ (y ∷ b) far, cost_append N a (y ∷ b), link_cost_positive N (link g))

      -- where the head is joined to the destination, it still is when the key links are taken out
      pub forwarding_path : {M : List ℕ} → Best N All (head N h) M d → (S : List ℕ) × Best N (Free N d h) (head N h) S d
      forwarding_path {M} t =
          elim (keys? N W d h) [
            | inl free ↦ (M, best_fewer N (λ k o. tt) (over_all free M) t)
            | inr (S, D) ↦ (S, free_best N W D)
          ]

      pub forwarding_entry : (e : Hop) × ForwardingEntry N d h e
      forwarding_entry =
          elim (keys? N W d h) [
            | inl free ↦ let (e, entry) = routing_entry (head N h) in (e, (forwarding_by_routing free).0 entry)
            | inr (S, D) ↦ (hop_of S, best_entry S (free_best N W D))
          ]

      -- a packet that enters a node joined to the destination finds an entry there
      pub forwarding_leads : {p : List ℕ} → Chain N (head N h) p d → ForwardingEntry N d h nowhere → ⊥
      forwarding_leads {p} c (lacks n no_path) =
          elim (all_path N W (head N h) d) [
            | inl (M, t) ↦ let (S, s) = forwarding_path t in no_path S (simple N W s) s.over
            | inr no_chain ↦ no_chain p c
          ]
