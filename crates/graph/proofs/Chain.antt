-- Best chains: the working notion behind best paths. The cost of a link is one number, weight first and then the rule for equal
-- paths, so that "best" is "least cost"; least among all chains, not only among paths, so that parts of best chains are best by
-- plain sums. That the two notions agree is proved in Agreement.
-- Five facts carry the theory. There is only one best chain between two nodes (B1, in Unique). Its parts are best (B2). Read from
-- the other end it is best too (B3). It stays best when links are taken out that it does not use (B4). And where a chain is, there is
-- a best one, which can be found (B5, in Simple).
use mathlib.Core.Path.{◌≡◌, refl, sym, ap, ◌∙◌}
use mathlib.Core.Logic.{◌⊎◌, inl, inr}
use mathlib.Core.List.{List, [], ◌∷◌, ◌++◌, append_assoc}
use Prim.Native.Nat.{ℕ, ◌+◌, ◌*◌, ◌^◌, ◌≤◌, ◌<◌}
use native.Mathlib.Nat.{one-le-pow}
use native.Mathlib.Decide.{ℕ_discrete}
use native.Mathlib.Omega.{arith}
use Rattle.graph.specs.Network.{Network, WellFormed, link, reverse, tail, head}
use Rattle.graph.specs.Path.{Chain, stop, step, Over, none, both, But}
use Rattle.graph.proofs.Interfaces.{link_reverse, same_link, tail_reverse, head_reverse}

-- of a link: its weight, then its place in the rule for equal paths
abbrev pub link_cost : Network → ℕ → ℕ
link_cost N k = N.weight k * 2 ^ N.links + 2 ^ k

abbrev pub cost : Network → List ℕ → ℕ
cost N [] = 0
cost N (f ∷ p) = link_cost N (link f) + cost N p

-- the chain read from its other end
abbrev pub back : List ℕ → List ℕ
back [] = []
back (f ∷ p) = back p ++ (reverse f ∷ [])

pub record Best (N : Network) (X : ℕ → Type 0) (i : ℕ) (p : List ℕ) (d : ℕ) : Type 0 where
  pub chain : Chain N i p d
  pub over : Over X p
  pub least : {q : List ℕ} → Chain N i q d → Over X q → cost N p ≤ cost N q

-- link k lies on p, with what stands before and after it
pub record On (k : ℕ) (p : List ℕ) : Type 0 where
  pub before : List ℕ
  pub crossing : ℕ
  pub after : List ℕ
  pub split : p ≡ before ++ crossing ∷ after
  pub is : link crossing ≡ k

pub find : (k : ℕ) (p : List ℕ) → Over (But k) p ⊎ On k p
find k [] = inl none
find k (f ∷ p) =
    elim (ℕ_discrete (link f) k) [
      | yes e ↦ inr (record { before = []; crossing = f; after = p; split = refl; is = e })
      | no n ↦ elim (find k p) [
        | inl o ↦ inl (both n o)
        | inr r ↦ inr (record
            { before = f ∷ r.before; crossing = r.crossing; after = r.after; split = ap (λ t. f ∷ t) r.split; is = r.is })
      ]
    ]

module _ (N : Network) where
  pub link_cost_positive : (k : ℕ) → 0 < link_cost N k
  link_cost_positive k = omega (arith, one-le-pow k 2 (omega arith))

  pub cost_append : (a b : List ℕ) → cost N (a ++ b) ≡ cost N a + cost N b
  cost_append [] b = omega arith
  cost_append (f ∷ a) b = omega (arith, cost_append a b)

  pub cost_back : (p : List ℕ) → cost N (back p) ≡ cost N p
  cost_back [] = refl
  cost_back (f ∷ p) =
      let same : link_cost N (link (reverse f)) ≡ link_cost N (link f) = ap (link_cost N) (link_reverse f) in
      omega (arith, cost_append (back p) (reverse f ∷ []), cost_back p)

  pub chain_append : {i x d : ℕ} (a b : List ℕ) → Chain N i a x → Chain N x b d → Chain N i (a ++ b) d
  chain_append [] b (stop e) t = rw e t
  chain_append {i = i} {x = x} {d = d} (f ∷ a) b (step u e s) t = step u e (chain_append {i = head N f} a b s t)

  pub chain_back : {i d : ℕ} {p : List ℕ} → Chain N i p d → Chain N d (back p) i
  chain_back (stop e) = stop (sym e)
  chain_back (step {f = f} {p = p} u e c) =
      let present : N.Present (link (reverse f)) = rw link_reverse u in
      chain_append (back p) (reverse f ∷ []) (chain_back c) (step present (tail_reverse N f) (stop (head_reverse N f ∙ e)))

  pub chain_nil : {i d : ℕ} → Chain N i [] d → i ≡ d
  chain_nil (stop e) = e

  pub first_present : {i f d : ℕ} {p : List ℕ} → Chain N i (f ∷ p) d → N.Present (link f)
  first_present (step u e c) = u

  pub first_tail : {i f d : ℕ} {p : List ℕ} → Chain N i (f ∷ p) d → tail N f ≡ i
  first_tail (step u e c) = e

  -- the node between two parts: where the part after it starts
  pub chain_upto : {i d : ℕ} (a : List ℕ) (f : ℕ) (b : List ℕ) → Chain N i (a ++ f ∷ b) d → Chain N i a (tail N f)
  chain_upto [] f b (step u e c) = stop (sym e)
  chain_upto {i = i} {d = d} (g ∷ a) f b (step u e c) = step u e (chain_upto {i = head N g} a f b c)

  pub chain_from : {i d : ℕ} (a : List ℕ) (f : ℕ) (b : List ℕ) → Chain N i (a ++ f ∷ b) d → Chain N (tail N f) (f ∷ b) d
  chain_from [] f b (step u e c) = step u refl c
  chain_from {i = i} {d = d} (g ∷ a) f b (step u e c) = chain_from {i = head N g} a f b c

  pub chain_after : {i d : ℕ} (a : List ℕ) (f : ℕ) (b : List ℕ) → Chain N i (a ++ f ∷ b) d → Chain N (head N f) b d
  chain_after [] f b (step u e c) = c
  chain_after {i = i} {d = d} (g ∷ a) f b (step u e c) = chain_after {i = head N g} a f b c

  module _ {X : ℕ → Type 0} where
    pub first_over : {f : ℕ} {p : List ℕ} → Over X (f ∷ p) → X (link f)
    first_over (both x o) = x

    pub over_append : (a b : List ℕ) → Over X a → Over X b → Over X (a ++ b)
    over_append [] b none t = t
    over_append (f ∷ a) b (both x s) t = both x (over_append a b s t)

    pub over_left : (a b : List ℕ) → Over X (a ++ b) → Over X a
    over_left [] b o = none
    over_left (f ∷ a) b (both x o) = both x (over_left a b o)

    pub over_right : (a b : List ℕ) → Over X (a ++ b) → Over X b
    over_right [] b o = o
    over_right (f ∷ a) b (both x o) = over_right a b o

    pub over_back : {p : List ℕ} → Over X p → Over X (back p)
    over_back none = none
    over_back (both {f = f} {p = p} x o) =
        let turned : X (link (reverse f)) = rw link_reverse x in
        over_append (back p) (reverse f ∷ []) (over_back o) (both turned none)

    -- B2
    pub best_upto : {i d : ℕ} (a : List ℕ) (f : ℕ) (b : List ℕ) → Best N X i (a ++ f ∷ b) d → Best N X i a (tail N f)
    best_upto a f b t = record {
      chain = chain_upto a f b t.chain;
      over = over_left a (f ∷ b) t.over;
      least = λ {q} c o.
          omega (
            arith,
            cost_append a (f ∷ b),
            cost_append q (f ∷ b),
            t.least (chain_append q (f ∷ b) c (chain_from a f b t.chain)) (over_append q (f ∷ b) o (over_right a (f ∷ b) t.over)),
          );
    }

    pub best_from : {i d : ℕ} (a : List ℕ) (f : ℕ) (b : List ℕ) → Best N X i (a ++ f ∷ b) d → Best N X (tail N f) (f ∷ b) d
    best_from a f b t = record {
      chain = chain_from a f b t.chain;
      over = over_right a (f ∷ b) t.over;
      least = λ {q} c o.
          omega (
            arith,
            cost_append a (f ∷ b),
            cost_append a q,
            t.least (chain_append a q (chain_upto a f b t.chain) c) (over_append a q (over_left a (f ∷ b) t.over) o),
          );
    }

    pub best_after : {i d : ℕ} (a : List ℕ) (f : ℕ) (b : List ℕ) → Best N X i (a ++ f ∷ b) d → Best N X (head N f) b d
    best_after {d = d} a f b t =
        let r : Best N X (tail N f) (f ∷ b) d = best_from a f b t in
        let present : N.Present (link f) = first_present r.chain in
        let left_in : X (link f) = first_over r.over in
        record {
          chain = chain_after a f b t.chain;
          over = over_right (f ∷ []) b r.over;
          least = λ {q} c o. omega (arith, r.least (step present refl c) (both left_in o));
        }

    -- B3
    pub best_back : {i d : ℕ} {p : List ℕ} → Best N X i p d → Best N X d (back p) i
    best_back {p = p} t = record {
      chain = chain_back t.chain;
      over = over_back t.over;
      least = λ {q} c o. omega (arith, cost_back p, cost_back q, t.least (chain_back c) (over_back o));
    }

  pub over_weaken : {X Y : ℕ → Type 0} {p : List ℕ} → ((k : ℕ) → Y k → X k) → Over Y p → Over X p
  over_weaken f none = none
  over_weaken f (both {f = g} x o) = both (f (link g) x) (over_weaken f o)

  -- B4
  pub best_fewer : {X Y : ℕ → Type 0} {i d : ℕ} {p : List ℕ} → ((k : ℕ) → Y k → X k) → Over Y p → Best N X i p d → Best N Y i p d
  best_fewer f o t = record { chain = t.chain; over = o; least = λ {q} c r. t.least c (over_weaken f r) }

  module _ (W : WellFormed N) where
    -- a best chain crosses no link twice
    pub twice : {X : ℕ → Type 0} {i d : ℕ} (a : List ℕ) (f : ℕ) (b : List ℕ) (g : ℕ) (c : List ℕ)
        → link f ≡ link g → Best N X i (a ++ f ∷ (b ++ g ∷ c)) d → ⊥
    twice {X} {d = d} a f b g c e t =
        let r : Best N X (tail N f) (f ∷ (b ++ g ∷ c)) d = best_from a f (b ++ g ∷ c) t in
        let rest : Chain N (head N g) c d = chain_after (f ∷ b) g c r.chain in
        let o : Over X c = over_right (g ∷ []) c (over_right (f ∷ b) (g ∷ c) r.over) in
        elim (same_link f g e) [
          | inl s ↦
              let ahead : Chain N (head N f) c d = rw s rest in
              omega (
                arith,
                cost_append b (g ∷ c),
                link_cost_positive (link g),
                r.least (step (first_present r.chain) refl ahead) (both (first_over r.over) o),
              )
          | inr s ↦
              let here : head N g ≡ tail N f = sym (ap (tail N) s ∙ tail_reverse N g) in
              let ahead : Chain N (tail N f) c d = rw here at rest in
              omega (arith, cost_append b (g ∷ c), link_cost_positive (link g), r.least ahead o)
        ]

    pub over_before : {X : ℕ → Type 0} {i d : ℕ} (a : List ℕ) (f : ℕ) (c : List ℕ) → Best N X i (a ++ f ∷ c) d → Over (But (link f)) a
    over_before {X} {i} {d} a f c t =
        elim (find (link f) a) [
          | inl o ↦ o
          | inr r ↦
              let same : a ++ f ∷ c ≡ r.before ++ r.crossing ∷ (r.after ++ f ∷ c) =
              ap (λ l. l ++ f ∷ c) r.split ∙ append_assoc r.before (r.crossing ∷ r.after) (f ∷ c) in
              let u : Best N X i (r.before ++ r.crossing ∷ (r.after ++ f ∷ c)) d = rw same at t in
              absurd (twice r.before r.crossing r.after f c r.is u)
        ]

    pub over_after : {X : ℕ → Type 0} {i d : ℕ} (a : List ℕ) (f : ℕ) (c : List ℕ) → Best N X i (a ++ f ∷ c) d → Over (But (link f)) c
    over_after {X} {i} {d} a f c t =
        elim (find (link f) c) [
          | inl o ↦ o
          | inr r ↦
              let u : Best N X i (a ++ f ∷ (r.before ++ r.crossing ∷ r.after)) d = rw r.split at t in
              absurd (twice a f r.before r.crossing r.after (sym r.is) u)
        ]
