-- What an entry of a column says. A known entry measures the best chain behind it, the empty one at the destination; so two known
-- entries compare as the costs of their chains do, a bit of the set tells whether the link lies on the chain, and the first interface
-- is the chain's, so the routing entry. An unknown entry says that there is no path. And a column shows the same whichever way the links
-- left in are told.
use Prim.Native.Nat.{ℕ, ◌≤◌, ◌<◌}
use mathlib.Core.Bool.{true, false}
use mathlib.Core.Path.{◌≡◌, sym}
use mathlib.Core.Logic.{◌≢◌, ◌↔◌}
use mathlib.Core.List.{List, [], ◌∷◌}
use native.Mathlib.Nat.{one-le-pow}
use native.Mathlib.Decide.{dec_lt}
use native.Mathlib.Omega.{arith}
use borrow.Author.Tests.{ltb-true, ltb-false, lt-ltb, le-ltb}
use Rattle.graph.specs.Network.{Network, WellFormed}
use Rattle.graph.specs.Path.{Chain, stop, step, Path, Over, Over.none as over_none, All, But, Lies, weight_sum}
use Rattle.graph.specs.Set.{SetOf, link_set}
use Rattle.graph.specs.Entries.{onward, nowhere, Entry, lacks}
use Rattle.graph.proofs.Chain.{Best, cost, over_weaken}
use Rattle.graph.proofs.Simple.{simple}
use Rattle.graph.proofs.Order.{over_lies, over_each, cost_pair, set_below, links_once, better_pair, better_less}
use Rattle.graph.proofs.Unique.{unique}
use Rattle.graph.proofs.Agreement.{path_best, best_path_fewer}
use Rattle.graph.proofs.Entries.{best_entry}
use Rattle.graph.proofs.Sets.{path_bit, set_of_path}
use Rattle.net.specs.inner.LinkSet.{value, no_links, with_link, has_link, meeting, Without}
use Rattle.net.specs.declared.link_set.LinkSet.{LinkSet}
use Rattle.net.proofs.LinkSets.{has_bit, not_both, without_none, without_one, apart, common}
use Rattle.paths.specs.inner.Cost.{unknown, is_known}
use Rattle.paths.specs.inner.Column.{Shows, here, found, none, BestColumn, Restarted}
use Rattle.paths.specs.declared.cost.Cost.{Cost}
use Rattle.paths.proofs.CostNumber.{number, Fits, Fits.blank as fits_blank, Fits.known as fits_known, Lower, blank_sum}

pub known_true : (c : Cost) → (is_known c ≡ true) ↔ (c.sum < unknown)
unfolding is_known
known_true c = (ltb-true c.sum unknown, lt-ltb c.sum unknown)

pub known_false : (c : Cost) → (is_known c ≡ false) ↔ (unknown ≤ c.sum)
unfolding is_known
known_false c = (ltb-false c.sum unknown, le-ltb c.sum unknown)

-- the entry c of i for d is the cost of the chain p, which is best
pub record Measured (N : Network) (X : ℕ → Type 0) (i d : ℕ) (c : Cost) (p : List ℕ) : Type 0 where
  pub best : Best N X i p d
  pub sum : c.sum ≡ weight_sum N p
  pub set : value c.links ≡ link_set p
  pub known : c.sum < unknown
  pub first : (f : ℕ) (q : List ℕ) → p ≡ f ∷ q → c.first ≡ f

-- the cost's first interface is the entry of i for d, or an unknown cost says that there is none
pub data Tells (N : Network) (X : ℕ → Type 0) (i d : ℕ) (c : Cost) : Type 0 where
  leads : c.sum < unknown → Entry N X i d (onward c.first) → Tells N X i d c
  leads_nowhere : unknown ≤ c.sum → Entry N X i d nowhere → Tells N X i d c

-- a chain that is not empty weighs something
pub weighs_something : (N : Network) → WellFormed N → {i d f : ℕ} {p : List ℕ} → Chain N i (f ∷ p) d → 0 < weight_sum N (f ∷ p)
unfolding weight_sum
weighs_something N W (step present e c) = omega (arith, W.weighs _ present)

module _ (N : Network) (W : WellFormed N) where
  module _ {X : ℕ → Type 0} {i d : ℕ} {c : Cost} where
    measured_here : i ≡ d → c.sum ≡ 0 → value c.links ≡ 0 → Measured N X i d c []
    unfolding weight_sum
    measured_here e s l = record {
      best = record { chain = stop e; over = over_none; least = λ {q} t o. omega arith };
      sum = s;
      set = l;
      known = omega arith;
      first = λ f q e. absurd (let z : ◌≡◌ {A = ℕ} 0 1 = cc in omega arith);
    }

    -- a known entry measures a best chain
    pub shown_known : Shows N X i d c → c.sum < unknown → (p : List ℕ) × Measured N X i d c p
    shown_known (here e s l) h = ([], measured_here e s l)
    shown_known (found {f} {p} b s l e k) h =
        (f ∷ p, record { best = path_best N W b; sum = s; set = l; known = k; first = λ g q t. cc })
    shown_known (none n e) h = absurd (omega (arith, blank_sum e))

    -- an unknown one says that there is no path
    pub shown_unknown : Shows N X i d c → unknown ≤ c.sum → (p : List ℕ) → Path N i p d → Over X p → ⊥
    shown_unknown (here e s l) h = absurd (omega arith)
    shown_unknown (found b s l e k) h = absurd (omega arith)
    shown_unknown (none n e) h = n

    -- where there is a best chain, the entry measures it
    pub shown_best : {p : List ℕ} → Shows N X i d c → Best N X i p d → Measured N X i d c p
    shown_best {p} (none n e) t = absurd (n p (simple N W t) t.over)
    shown_best {p} (here e s l) t =
        let m = measured_here e s l in
        rw (unique N W m.best t) at m
    shown_best {p} (found b s l e k) t =
        let m = (shown_known (found b s l e k) k).1 in
        rw (unique N W m.best t) at m

    -- away from the destination a known entry has a first interface
    pub shown_onward : Shows N X i d c → i ≢ d → c.sum < unknown → (p : List ℕ) × Measured N X i d c (c.first ∷ p)
    shown_onward (here e s l) away h = absurd (away e)
    shown_onward (found {f} {p} b s l e k) away h =
        let m : Measured N X i d c (f ∷ p) = shown_best (found b s l e k) (path_best N W b) in
        (p, rw (sym e) at m)
    shown_onward (none n e) away h = absurd (omega (arith, blank_sum e))

    pub shown_tells : Shows N X i d c → i ≢ d → Tells N X i d c
    shown_tells shown away =
        elim (dec_lt c.sum unknown) [
          | yes known ↦ let (p, m) = shown_onward shown away known in leads known (best_entry N W _ m.best)
          | no h ↦ leads_nowhere (omega arith) (lacks away (shown_unknown shown (omega arith)))
        ]

    -- the set is that of the links on the chain
    pub measured_set : {p : List ℕ} → Measured N X i d c p → SetOf N.links (λ k. Lies k p) (value c.links)
    measured_set m = rw m.set (set_of_path W (simple N W m.best))

    pub measured_link : {p : List ℕ} → Measured N X i d c p → (k : ℕ) → (has_link c.links k ≡ true) ↔ Lies k p
    measured_link m k =
        let lies = path_bit W (simple N W m.best) k in
        (λ has. lies.0 (rw m.set at ((has_bit c.links k).0 has)), λ l. (has_bit c.links k).1 (rw m.set (lies.1 l)))

    -- so whether the set meets another tells whether the chain is over the links left in when those are taken out
    pub measured_apart : {p : List ℕ} → Measured N X i d c p → (out : LinkSet) → meeting c.links out ≡ false → Over (Without out) p
    measured_apart {p} m out e = over_each p (λ k lies. apart c.links out e k ((measured_link m k).1 lies))

    pub measured_meeting : {p : List ℕ} → Measured N X i d c p → (out : LinkSet) → meeting c.links out ≡ true
        → Over (Without out) p → ⊥
    measured_meeting m out e over =
        let (k, has, taken) = common c.links out e in
        not_both out k taken (over_lies over ((measured_link m k).0 has))

    -- the entry as one number is the chain's cost
    pub measured_cost : {p : List ℕ} → Measured N X i d c p → cost N p ≡ number N c
    measured_cost {p} m = rw (m.sum, m.set) (cost_pair N p)

    pub shown_fits : Shows N X i d c → Fits N c
    shown_fits (here e s l) = fits_known (omega arith) (omega (arith, one-le-pow N.links 2 (omega arith)))
    shown_fits (found b s l e k) = fits_known k (omega (arith, set_below N (links_once N W b.path)))
    shown_fits (none n e) = fits_blank e

    -- pairs of weight sum and set compare as costs
    pub lower_less : {Y : ℕ → Type 0} {j : ℕ} {b : Cost} {p q : List ℕ} → Measured N X i d c p → Measured N Y j d b q
        → Lower c b ↔ (cost N p < cost N q)
    lower_less {p = p} {q = q} m n =
        let s = links_once N W (simple N W m.best) in
        let t = links_once N W (simple N W n.best) in (
          λ lower. (better_less N s t).0 ((better_pair N s t).1 (rw (m.sum, m.set, n.sum, n.set) at lower)),
          λ less. rw (m.sum, m.set, n.sum, n.set) ((better_pair N s t).0 ((better_less N s t).1 less)),
        )

  -- the same links left in, told in two ways
  module _ {X Y : ℕ → Type 0} (same : (k : ℕ) → X k ↔ Y k) {d : ℕ} where
    pub shows_same : {i : ℕ} {c : Cost} → Shows N X i d c → Shows N Y i d c
    shows_same (here e s l) = here e s l
    shows_same (found b s l e k) =
        found (best_path_fewer N W (λ j. (same j).1) (over_weaken N (λ j. (same j).0) b.over) b) s l e k
    shows_same (none n e) = none (λ p t o. n p t (over_weaken N (λ j. (same j).1) o)) e

    pub column_same : {column : List Cost} → BestColumn N X d column → BestColumn N Y d column
    column_same best = record { shows = λ i node. shows_same (best.shows i node); beyond = best.beyond }

  module _ {d : ℕ} {column : List Cost} where
    -- no link is taken out
    pub column_all_lem : BestColumn N All d column ↔ BestColumn N (Without no_links) d column
    column_all_lem = (column_same (λ k. (λ t. without_none k, λ e. tt)), column_same (λ k. (λ e. tt, λ t. without_none k)))

    -- one link is
    pub column_but : {k : ℕ} → BestColumn N (Without (with_link no_links k)) d column → BestColumn N (But k) d column
    column_but {k} = column_same (without_one k)

  pub restarted_from_all : (out : LinkSet) {column after : List Cost} → Restarted N out column after → {d : ℕ} → d < N.nodes
      → BestColumn N All d column → BestColumn N (Without out) d after
  restarted_from_all out restarted {d} node best = restarted no_links d node (λ k left_in. without_none k) (column_all_lem.0 best)
