-- The rule for equal paths. The cost of a chain is one number with two parts: its weight sum, and below it the set of its links as
-- bits. So of two chains that cross no link twice, document 01's better one is the one that costs less, and also the one whose pair
-- (weight sum, set) is smaller, first part first. Two paths from one node with the same links are the same path: the first link
-- of either touches that node, which the other leaves only once. So the rule is a strict total order on the paths between two nodes.
use mathlib.Core.Path.{◌≡◌, refl, sym, ap, ◌∙◌}
use mathlib.Core.Logic.{◌⊎◌, inl, inr, ◌↔◌, ◌≢◌, Ne-symm}
use mathlib.Core.List.{List, [], ◌∷◌, map}
use Prim.Native.Nat.{ℕ, ◌+◌, ◌*◌, ◌^◌, ◌<◌}
use native.Mathlib.Nat.{add-mul, lt_irrefl, lt_trans}
use native.Mathlib.Decide.{ℕ_discrete, dec_lt}
use native.Mathlib.Omega.{arith}
use Rattle.graph.specs.Network.{Network, WellFormed, link, tail, head}
use Rattle.graph.specs.Set.{link_set}
use Rattle.graph.specs.Path.{Chain, stop, step, Path, visits, weight_sum, Lies, here, later, Lacks, Better, StrictTotalOrder}
use Rattle.graph.specs.Path.{Each, none, both, Distinct, fresh, But, Over, Over.none as over_none, Over.both as over_both}
use Rattle.graph.proofs.Interfaces.{same_link, tail_reverse}
use Rattle.graph.proofs.Chain.{cost}
use Rattle.graph.proofs.Simple.{distinct_links}
use Rattle.graph.proofs.Sum.{In, first, further, Out, in_out, sum_below, same_members, Differ, sum_differ, differ_sum}
use Rattle.graph.proofs.Sum.{pair_le, less_pair, pair_less}

-- the chain crosses no link twice, and only links that have a number
pub record LinksOnce (N : Network) (p : List ℕ) : Type 0 where
  pub distinct : Distinct (map link p)
  pub numbered : Each (λ k. k < N.links) (map link p)

pub lies_in : {k : ℕ} {p : List ℕ} → Lies k p → In k (map link p)
lies_in (here e) = first (sym e)
lies_in (later t) = further (lies_in t)

pub in_lies : {k : ℕ} (p : List ℕ) → In k (map link p) → Lies k p
in_lies [] x = elim x [ ]
in_lies (f ∷ p) (first e) = here (sym e)
in_lies (f ∷ p) (further t) = later (in_lies p t)

-- a chain without link k: k stands not among its links
pub over_out : {k : ℕ} {p : List ℕ} → Over (But k) p → Out k (map link p)
over_out over_none = none
over_out (over_both n o) = both (Ne-symm n) (over_out o)

-- a chain is over the links left in exactly if each link that lies on it is
pub over_lies : {X : ℕ → Type 0} {k : ℕ} {p : List ℕ} → Over X p → Lies k p → X k
over_lies over_none x = elim x [ ]
over_lies (over_both x o) (here e) = rw e at x
over_lies (over_both x o) (later l) = over_lies o l

pub over_each : {X : ℕ → Type 0} (p : List ℕ) → ((k : ℕ) → Lies k p → X k) → Over X p
over_each [] each = over_none
over_each (f ∷ p) each = over_both (each (link f) (here refl)) (over_each p (λ k l. each k (later l)))

pub cost_pair : (N : Network) (p : List ℕ) → cost N p ≡ weight_sum N p * 2 ^ N.links + link_set p
unfolding weight_sum
cost_pair N [] = omega arith
cost_pair N (f ∷ p) = omega (arith, cost_pair N p, add-mul (N.weight (link f)) (weight_sum N p) (2 ^ N.links))

lacks_differ : (p q : List ℕ) → Lacks p q ↔ Differ (map link p) (map link q)
lacks_differ p q = (
  λ t. record {
    highest = t.highest;
    on = lies_in t.on;
    off = λ i. t.off (in_lies p i);
    above = λ k h. (λ i. lies_in ((t.above k h).0 (in_lies p i)), λ i. lies_in ((t.above k h).1 (in_lies q i)));
  },
  λ t. record {
    highest = t.highest;
    on = in_lies q t.on;
    off = λ i. t.off (lies_in i);
    above = λ k h. (λ i. in_lies q ((t.above k h).0 (lies_in i)), λ i. in_lies p ((t.above k h).1 (lies_in i)));
  },
)

module _ (N : Network) where
  pub set_below : {p : List ℕ} → LinksOnce N p → link_set p < 2 ^ N.links
  set_below s = sum_below N.links s.distinct s.numbered

  module _ {p q : List ℕ} (s : LinksOnce N p) (t : LinksOnce N q) where
    -- the weight sum first, then the set of links as a number
    pub better_pair : Better N p q ↔ ((weight_sum N p < weight_sum N q) ⊎ ((weight_sum N p ≡ weight_sum N q) × (link_set p < link_set q)))
    better_pair = (to, from)
      where
        to : Better N p q → (weight_sum N p < weight_sum N q) ⊎ ((weight_sum N p ≡ weight_sum N q) × (link_set p < link_set q))
        to (inl h) = inl h
        to (inr (e, l)) = inr (e, differ_sum s.distinct t.distinct ((lacks_differ p q).0 l))

        from : (weight_sum N p < weight_sum N q) ⊎ ((weight_sum N p ≡ weight_sum N q) × (link_set p < link_set q)) → Better N p q
        from (inl h) = inl h
        from (inr (e, l)) = inr (e, (lacks_differ p q).1 (sum_differ s.distinct t.distinct l))

    -- one number for both
    pub better_less : Better N p q ↔ (cost N p < cost N q)
    better_less = (
      λ b. rw (cost_pair N p, cost_pair N q) (less_pair _ _ _ (set_below s) (set_below t) (better_pair.0 b)),
      λ h. better_pair.1 (pair_less _ _ _ (set_below s) (set_below t) (rw (cost_pair N p, cost_pair N q) at h)),
    )

    pub equal_sets : cost N p ≡ cost N q → link_set p ≡ link_set q
    equal_sets e =
        let M = 2 ^ N.links in
        let a = weight_sum N p in
        let b = weight_sum N q in
        let hp = set_below s in
        let hq = set_below t in
        elim (pair_le M a b hp hq (omega (arith, cost_pair N p, cost_pair N q))) [
          | inl h ↦ absurd (omega (arith, less_pair M a b hp hq (inl h), cost_pair N p, cost_pair N q))
          | inr (same, h) ↦ omega (arith, ap (λ c. c * M) same, cost_pair N p, cost_pair N q)
        ]

  -- a chain visits both ends of each of its links
  visits_ends : {i d k : ℕ} {p : List ℕ} (g : ℕ) → link g ≡ k → Chain N i p d → Lies k p → In (tail N g) (visits N i p)
  unfolding visits
  visits_ends g e (stop _) x = elim x [ ]
  visits_ends g e (step {f = f} u t c) (here e₂) =
      elim (same_link g f (e ∙ sym e₂)) [
        | inl s ↦ first (ap (tail N) s ∙ t)
        | inr s ↦ further (first (ap (tail N) s ∙ tail_reverse N f))
      ]
  visits_ends g e (step u t c) (later l) = further (visits_ends g e c l)

  -- a chain that does not visit i crosses no link at i
  away : {i x d k : ℕ} {p : List ℕ} (g : ℕ) → tail N g ≡ i → link g ≡ k → Chain N x p d → Out i (visits N x p) → Lies k p → ⊥
  away g t e c o l = in_out (rw t at (visits_ends g e c l)) o

  lies_rest : {f k : ℕ} {p : List ℕ} → Lies k (f ∷ p) → link f ≢ k → Lies k p
  lies_rest (here e) n = absurd (n e)
  lies_rest (later l) n = l

  same_chain : {i d e : ℕ} (p q : List ℕ) → Chain N i p d → Distinct (visits N i p) → Chain N i q e → Distinct (visits N i q)
      → ((k : ℕ) → Lies k p ↔ Lies k q) → p ≡ q
  unfolding visits
  same_chain [] [] c s c₂ t same = refl
  same_chain [] (g ∷ q) c s c₂ t same = elim ((same (link g)).1 (here refl)) [ ]
  same_chain (f ∷ p) [] c s c₂ t same = elim ((same (link f)).0 (here refl)) [ ]
  same_chain {i = i} {d = d} {e = x} (f ∷ p) (g ∷ q) (step u e c) (fresh o s) (step u₂ e₂ c₂) (fresh o₂ t) same =
      elim (ℕ_discrete (link f) (link g)) [
        | no n ↦ absurd (away g e₂ refl c o (lies_rest ((same (link g)).1 (here refl)) n))
        | yes k ↦ elim (same_link f g k) [
          | inr turned ↦ absurd (in_out (first (sym e ∙ ap (tail N) turned ∙ tail_reverse N g)) o₂)
          | inl eq ↦
              let others : (k : ℕ) → Lies k p ↔ Lies k q = λ k. (
                λ l. lies_rest ((same k).0 (later l)) (λ at. away g e₂ at c o l),
                λ l. lies_rest ((same k).1 (later l)) (λ at. away f e at c₂ o₂ l),
              ) in
              cc (eq, same_chain {i = head N f} {e = x} p q c s (rw eq c₂) (rw eq t) others)
        ]
      ]

  -- two paths from one node with the same links are the same
  pub same_links : {i d e : ℕ} {p q : List ℕ} → Path N i p d → Path N i q e → ((k : ℕ) → Lies k p ↔ Lies k q) → p ≡ q
  same_links {p = p} {q = q} s t same = same_chain p q s.chain s.once t.chain t.once same

module _ (N : Network) (W : WellFormed N) where
  pub chain_numbered : {i d : ℕ} {p : List ℕ} → Chain N i p d → Each (λ k. k < N.links) (map link p)
  chain_numbered (stop e) = none
  chain_numbered (step u e c) = both (W.numbered _ u) (chain_numbered c)

  -- a path crosses no link twice
  pub links_once : {i d : ℕ} {p : List ℕ} → Path N i p d → LinksOnce N p
  links_once s = record { distinct = distinct_links N W s; numbered = chain_numbered s.chain }

  pub path_better : {i d x y : ℕ} {p q : List ℕ} → Path N i p d → Path N x q y → Better N p q ↔ (cost N p < cost N q)
  path_better s t = better_less N (links_once s) (links_once t)

  pub rule_for_equal_paths : (i d : ℕ) → StrictTotalOrder N i d
  rule_for_equal_paths i d = record {
    irreflexive = λ p s b. lt_irrefl _ ((path_better s s).0 b);
    transitive = λ p q r s t u b c. (path_better s u).1 (lt_trans ((path_better s t).0 b) ((path_better t u).0 c));
    comparable = λ p q s t.
        elim (dec_lt (cost N p) (cost N q)) [
          | yes h ↦ inr (inl ((path_better s t).1 h))
          | no n ↦ elim (dec_lt (cost N q) (cost N p)) [
            | yes h ↦ inr (inr ((path_better t s).1 h))
            | no n₂ ↦ inl (same_links N s t (equal_cost s t (omega arith)))
          ]
        ];
  }
    where
      equal_cost : {p q : List ℕ} → Path N i p d → Path N i q d → cost N p ≡ cost N q → (k : ℕ) → Lies k p ↔ Lies k q
      equal_cost {p} {q} s t e k =
          let a = links_once s in
          let b = links_once t in
          let sets = equal_sets N a b e in (
            λ l. in_lies q (same_members a.distinct b.distinct sets (lies_in l)),
            λ l. in_lies p (same_members b.distinct a.distinct (sym sets) (lies_in l)),
          )
