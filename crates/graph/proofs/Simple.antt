-- Cutting a chain to a path; a best chain is a path; a path crosses no link twice and has fewer links than there are nodes; a best
-- chain can be found (B5).
-- Where a chain comes back to a node, what is left of it from there is a shorter and cheaper chain (`from_visit`). So a chain is cut
-- from its end to its start, and a best chain comes back to no node. A path visits different nodes, all of them below `nodes`, so
-- they are at most that many.
use mathlib.Core.Path.{◌≡◌, refl, ap, ◌∙◌}
use mathlib.Core.Logic.{◌⊎◌, inl, inr, ◌≢◌}
use mathlib.Core.List.{List, [], ◌∷◌, map}
use Prim.Native.Nat.{ℕ, zero, suc, ◌*◌, ◌≤◌, ◌<◌}
use native.Mathlib.Decide.{ℕ_discrete, dec_le, dec_lt}
use native.Mathlib.Omega.{arith}
use lib.ListN.{length, length-map}
use Rattle.graph.specs.Network.{Network, WellFormed, link, tail, head}
use Rattle.graph.specs.Path.{Chain, stop, step, Path, visits, Over, none, both, Each, Each.none as Each-none, Each.both as Each-both}
use Rattle.graph.specs.Path.{Distinct, Distinct.none as Distinct-none, fresh}
use Rattle.graph.proofs.Interfaces.{same_link, tail_reverse, interface_below, tail_node, head_node}
use Rattle.graph.proofs.Chain.{Best, cost, link_cost_positive, best_after}
use Rattle.graph.proofs.Sum.{In, first, further, in?, pigeonhole}

-- what a chain is cut to
pub record Cut (N : Network) (X : ℕ → Type 0) (i : ℕ) (p : List ℕ) (d : ℕ) : Type 0 where
  pub way : List ℕ
  pub path : Path N i way d
  pub over : Over X way
  pub cheaper : cost N way ≤ cost N p
  pub shorter : length way ≤ length p

module _ (N : Network) (W : WellFormed N) where
  -- a cut of a chain is also one of a dearer and longer chain
  dearer : {X : ℕ → Type 0} {i d : ℕ} {q p : List ℕ} → Cut N X i q d → cost N q ≤ cost N p → length q ≤ length p → Cut N X i p d
  dearer r c l = record
      { way = r.way; path = r.path; over = r.over; cheaper = omega (arith, r.cheaper); shorter = omega (arith, r.shorter) }

  -- a path over X, taken from a node that it visits
  from_visited : {X : ℕ → Type 0} {x i d : ℕ} (p vs : List ℕ) → vs ≡ visits N i p
      → In x vs → Chain N i p d → Distinct (visits N i p) → Over X p → Cut N X x p d
  unfolding visits
  from_visited {x = x} {i = i} {d = d} p (y ∷ vs) same (first e) c t o =
      let at : x ≡ i = cc in
      let path : Path N x p d = record { chain = rw at c; once = rw at t } in
      record { way = p; path = path; over = o; cheaper = omega arith; shorter = omega arith }
  from_visited p [] same v c t o = elim v [ ]
  from_visited {x = x} [] (y ∷ vs) same (further v) c t o =
      let none_left : vs ≡ [] = cc in
      let never : In x [] = rw none_left at v in
      elim never [ ]
  from_visited {i = i} (f ∷ p) (y ∷ vs) same (further v) (step u e c) (fresh n t) (both z o) =
      let rest : vs ≡ visits N (head N f) p = cc in
      dearer (from_visited {i = head N f} p vs rest v c t o) (omega arith) (omega arith)

  from_visit : {X : ℕ → Type 0} {x i d : ℕ} (p : List ℕ)
      → In x (visits N i p) → Chain N i p d → Distinct (visits N i p) → Over X p → Cut N X x p d
  from_visit {i = i} p v c t o = from_visited p (visits N i p) refl v c t o

  -- the rest is cut first; if it comes by i, it is taken from there
  pub cut : {X : ℕ → Type 0} {i d : ℕ} {p : List ℕ} → Chain N i p d → Over X p → Cut N X i p d
  unfolding visits
  cut (stop e) none = record {
    way = [];
    path = record { chain = stop e; once = fresh Each-none Distinct-none };
    over = none;
    cheaper = omega arith;
    shorter = omega arith;
  }
  cut {i = i} (step {f = f} u e c) (both x o) =
      let r = cut c o in
      elim (in? i (visits N (head N f) r.way)) [
        | inl v ↦
            dearer (from_visit r.way v r.path.chain r.path.once r.over) (omega (arith, r.cheaper)) (omega (arith, r.shorter))
        | inr n ↦ record {
          way = f ∷ r.way;
          path = record { chain = step u e r.path.chain; once = fresh n r.path.once };
          over = both x r.over;
          cheaper = omega (arith, r.cheaper);
          shorter = omega (arith, r.shorter);
        }
      ]

  best_visits_once : {X : ℕ → Type 0} {i d : ℕ} (p : List ℕ) → Best N X i p d → Distinct (visits N i p)
  unfolding visits
  best_visits_once [] t = fresh Each-none Distinct-none
  best_visits_once {X} {i} {d} (f ∷ p) t =
      let rest : Best N X (head N f) p d = best_after N [] f p t in
      let once = best_visits_once {i = head N f} p rest in
      elim (in? i (visits N (head N f) p)) [
        | inl v ↦
            let r = from_visit p v rest.chain once rest.over in
            absurd (omega (arith, t.least r.path.chain r.over, r.cheaper, link_cost_positive N (link f)))
        | inr n ↦ fresh n once
      ]

  -- a best chain is a path
  pub simple : {X : ℕ → Type 0} {i d : ℕ} {p : List ℕ} → Best N X i p d → Path N i p d
  simple t = record { chain = t.chain; once = best_visits_once _ t }

  -- a path crosses no link twice: it would enter one of the link's ends twice
  links_apart : (f : ℕ) (p : List ℕ) → Each (λ x. tail N f ≢ x) (map (head N) p) → Each (λ x. head N f ≢ x) (map (head N) p)
      → Each (λ k. link f ≢ k) (map link p)
  links_apart f [] s t = Each-none
  links_apart f (g ∷ p) (Each-both a s) (Each-both b t) =
      Each-both
      (λ e. elim (same_link f g e) [ inl same ↦ b (ap (head N) same) | inr turned ↦ a (ap (tail N) turned ∙ tail_reverse N g) ])
      (links_apart f p s t)

  links_distinct : {i d : ℕ} {p : List ℕ} → Chain N i p d → Distinct (visits N i p) → Distinct (map link p)
  unfolding visits
  links_distinct (stop e) t = Distinct-none
  links_distinct (step {f = f} {p = p} u e c) (fresh (Each-both n o) (fresh m t)) =
      fresh (links_apart f p (rw e o) m) (links_distinct c (fresh m t))

  pub distinct_links : {i d : ℕ} {p : List ℕ} → Path N i p d → Distinct (map link p)
  distinct_links t = links_distinct t.chain t.once

  -- every node that a chain from a node visits is a node
  pub chain_nodes : {i d : ℕ} {p : List ℕ} → i < N.nodes → Chain N i p d → Each (λ x. x < N.nodes) (visits N i p)
  unfolding visits
  chain_nodes h (stop e) = Each-both h Each-none
  chain_nodes h (step {f = f} u e c) = Each-both h (chain_nodes (head_node N W f u) c)

  pub chain_end : {i d : ℕ} {p : List ℕ} → i < N.nodes → Chain N i p d → d < N.nodes
  chain_end h (stop e) = rw e at h
  chain_end h (step {f = f} u e c) = chain_end (head_node N W f u) c

  -- a path has fewer links than there are nodes
  pub short : {i d : ℕ} {p : List ℕ} → i < N.nodes → Path N i p d → length p < N.nodes
  unfolding visits
  short {p = p} h t =
      let visited = pigeonhole N.nodes t.once (chain_nodes h t.chain) in
      rw (length-map p (head N)) at visited

-- The search for a best chain to d over X. Of the chains with at most r links, a best one from each node is found by trying each
-- interface for a first step; with as many links as there are nodes it is best of all, since every chain can be cut to a path.
module _ (N : Network) (W : WellFormed N) {X : ℕ → Type 0} (left_in? : (k : ℕ) → Dec (X k)) (d : ℕ) where
  -- a cheapest list that has the property, or the proof that none has it
  abbrev Search : (List ℕ → Type 0) → Type 0
  Search A = ((p : List ℕ) × A p × ((q : List ℕ) → A q → cost N p ≤ cost N q)) ⊎ ((q : List ℕ) → A q → ⊥)

  -- the cheaper of two, where the property is one or the other
  either : {A B C : List ℕ → Type 0} → ((q : List ℕ) → A q → C q) → ((q : List ℕ) → B q → C q) → ((q : List ℕ) → C q → A q ⊎ B q)
      → Search A → Search B → Search C
  either a b c (inl s) (inl t) =
      elim (dec_le (cost N s.0) (cost N t.0)) [
        | yes h ↦ inl (s.0, a s.0 s.1, λ q x. elim (c q x) [ inl y ↦ s.2 q y | inr y ↦ omega (arith, t.2 q y) ])
        | no h ↦ inl (t.0, b t.0 t.1, λ q x. elim (c q x) [ inl y ↦ omega (arith, s.2 q y) | inr y ↦ t.2 q y ])
      ]
  either a b c (inl s) (inr t) = inl (s.0, a s.0 s.1, λ q x. elim (c q x) [ inl y ↦ s.2 q y | inr y ↦ absurd (t q y) ])
  either a b c (inr s) (inl t) = inl (t.0, b t.0 t.1, λ q x. elim (c q x) [ inl y ↦ absurd (s q y) | inr y ↦ t.2 q y ])
  either a b c (inr s) (inr t) = inr (λ q x. elim (c q x) [ inl y ↦ s q y | inr y ↦ t q y ])

  -- searching under every number below m
  any_below : {A : ℕ → List ℕ → Type 0} → ((f : ℕ) → Search (A f)) → (m : ℕ) → Search (λ p. (f : ℕ) × (f < m) × A f p)
  any_below s zero = inr (λ q t. let none_below = t.1 in omega arith)
  any_below {A} s (suc m) =
      either
      (λ q t. let below = t.1 in (t.0, omega arith, t.2))
      (λ q x. (m, omega arith, x))
      (λ q t. let below = t.1 in elim (ℕ_discrete t.0 m) [ yes e ↦ inr (rw (← e) t.2) | no n ↦ inl (t.0, omega arith, t.2) ])
      (any_below s m)
      (s m)

  -- a chain from i to d over X with at most r links
  record Within (i r : ℕ) (p : List ℕ) : Type 0 where
    chain : Chain N i p d
    over : Over X p
    most : length p ≤ r

  -- the interface is a way on from i
  record Usable (i f : ℕ) : Type 0 where
    present : N.Present (link f)
    left_in : X (link f)
    leaves : tail N f ≡ i

  usable? : (i f : ℕ) → Dec (Usable i f)
  usable? i f =
      elim (W.present? (link f)) [
        | no n ↦ no (λ u. n u.present)
        | yes u ↦ elim (left_in? (link f)) [
          | no n ↦ no (λ u. n u.left_in)
          | yes x ↦ elim (ℕ_discrete (tail N f) i)
              [ no n ↦ no (λ u. n u.leaves) | yes e ↦ yes (record { present = u; left_in = x; leaves = e }) ]
        ]
      ]

  -- such a chain of one link more that starts with f
  record Via (i r f : ℕ) (p : List ℕ) : Type 0 where
    rest : List ℕ
    split : p ≡ f ∷ rest
    usable : Usable i f
    onward : Within (head N f) r rest

  via_within : {i r f : ℕ} {p : List ℕ} → Via i r f p → Within i (suc r) p
  via_within v = record {
    chain = rw v.split (step v.usable.present v.usable.leaves v.onward.chain);
    over = rw v.split (both v.usable.left_in v.onward.over);
    most = rw v.split (omega (arith, v.onward.most));
  }

  -- such a chain is empty or starts with a numbered interface
  start : {i r : ℕ} {p : List ℕ} → Chain N i p d → Over X p → length p ≤ suc r
      → Within i 0 p ⊎ ((f : ℕ) × (f < 2 * N.links) × Via i r f p)
  start (stop e) none h = inl (record { chain = stop e; over = none; most = omega arith })
  start (step {f = f} {p = p} u e c) (both x o) h = inr (
    f,
    interface_below f N.links (W.numbered (link f) u),
    record {
      rest = p;
      split = refl;
      usable = record { present = u; left_in = x; leaves = e };
      onward = record { chain = c; over = o; most = omega arith };
    },
  )

  -- a best one that starts with f, from those with one link less
  via : (r : ℕ) → ((x : ℕ) → Search (Within x r)) → (i f : ℕ) → Search (Via i r f)
  via r next i f =
      elim (usable? i f) [
        | no n ↦ inr (λ q v. n v.usable)
        | yes u ↦ elim (next (head N f)) [
          | inl s ↦ inl (
            f ∷ s.0,
            record { rest = s.0; split = refl; usable = u; onward = s.1 },
            λ q v. rw v.split (omega (arith, s.2 v.rest v.onward)),
          )
          | inr n ↦ inr (λ q v. n v.rest v.onward)
        ]
      ]

  at_once : {i : ℕ} {p : List ℕ} → Chain N i p d → length p ≤ 0 → i ≡ d
  at_once (stop e) h = e
  at_once (step u e c) h = absurd (omega arith)

  here : (i : ℕ) → Search (Within i 0)
  here i =
      elim (ℕ_discrete i d) [
        | yes e ↦ inl ([], record { chain = stop e; over = none; most = omega arith }, λ q w. omega arith)
        | no n ↦ inr (λ q w. n (at_once w.chain w.most))
      ]

  within : (r i : ℕ) → Search (Within i r)
  within zero i = here i
  within (suc r) i =
      either
      (λ q w. record { chain = w.chain; over = w.over; most = omega (arith, w.most) })
      (λ q t. via_within t.2)
      (λ q w. start w.chain w.over w.most)
      (here i)
      (any_below (via r (within r) i) (2 * N.links))

module _ (N : Network) (W : WellFormed N) where
  -- from a number that is no node only the empty chain starts
  no_node : {i d : ℕ} {p : List ℕ} → ¬ (i < N.nodes) → Chain N i p d → i ≡ d
  no_node h (stop e) = e
  no_node h (step {f = f} u e c) = absurd (omega (arith, tail_node N W f u))

  -- B5
  pub get : {X : ℕ → Type 0} → ((k : ℕ) → Dec (X k)) → (i d : ℕ)
      → ((p : List ℕ) × Best N X i p d) ⊎ ((p : List ℕ) → Chain N i p d → Over X p → ⊥)
  get {X} left_in? i d =
      elim (dec_lt i N.nodes) [
        | yes h ↦ elim (within N W left_in? d N.nodes i) [
          | inl s ↦ inl (
            s.0,
            record {
              chain = s.1.chain;
              over = s.1.over;
              least = λ {q} c o. let r = cut N W c o in omega (arith, r.cheaper, s.2 r.way (enough h r));
            },
          )
          | inr n ↦ inr (λ q c o. let r = cut N W c o in n r.way (enough h r))
        ]
        | no h ↦ elim (ℕ_discrete i d) [
          | yes e ↦ inl ([], record { chain = stop e; over = none; least = λ c o. omega arith })
          | no n ↦ inr (λ q c o. n (no_node h c))
        ]
      ]
    where
      enough : i < N.nodes → {q : List ℕ} (r : Cut N X i q d) → Within N W left_in? d i N.nodes r.way
      enough h r = record { chain = r.path.chain; over = r.over; most = omega (arith, short N W h r.path) }

  -- whether a chain over X joins two nodes can be told
  pub joined? : {X : ℕ → Type 0} → ((k : ℕ) → Dec (X k)) → (i d : ℕ) → Dec ((p : List ℕ) × Chain N i p d × Over X p)
  joined? left_in? i d =
      elim (get left_in? i d) [
        | inl s ↦ yes (s.0, s.1.chain, s.1.over)
        | inr n ↦ no (λ t. n t.0 t.1 t.2)
      ]
