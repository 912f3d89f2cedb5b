-- What a finished column says. Its entries are the costs of the best chains to d over the links X, and none where no chain is. No
-- chain has to be followed: the first interface of the best chain of i is the one over which the entry of i is the sum, or the one
-- that was kept with the entry when its offer won; and a best chain crosses interface h exactly if it has the link of h and the
-- entry falls from the tail of h to its head. So the key links are read off the column of all links and the columns without one.
-- From a finished column one over fewer links can be started (Restart).
use mathlib.Core.Path.{◌≡◌, refl, sym, ap, ◌∙◌}
use mathlib.Core.Logic.{◌⊎◌, inl, inr, ◌≢◌, ◌↔◌}
use mathlib.Core.List.{List, [], ◌∷◌, ◌++◌, map}
use mathlib.Core.Option.{none, some}
use Prim.Native.Nat.{ℕ, ◌+◌, ◌≤◌, ◌<◌}
use native.Mathlib.Decide.{ℕ_discrete}
use native.Mathlib.Omega.{arith}
use Rattle.graph.specs.Network.{Network, WellFormed, link, reverse, tail, head}
use Rattle.graph.specs.Path.{Chain, stop, step, Over, Distinct, both, All, But, Lies, here, later}
use Rattle.graph.specs.Entries.{KeyLink}
use Rattle.graph.proofs.Interfaces.{tail_reverse, head_reverse, same_link}
use Rattle.graph.proofs.Chain.{link_cost, cost, Best, On, link_cost_positive, best_from, best_after}
use Rattle.graph.proofs.Chain.{first_present, first_tail, first_over}
use Rattle.graph.proofs.Unique.{unique}
use Rattle.graph.proofs.Agreement.{path_best, best_path}
use Rattle.graph.proofs.Rounds.{Column, AtMost, Falls, Offer, Finished}
use Rattle.graph.proofs.Rounds.{no_entry, falls_same, falls_twice, at_most_falls}

-- the link lies on the chain, said in the two ways
pub on_lies : {k : ℕ} {p : List ℕ} → On k p → Lies k p
on_lies {k} {p} o = rw o.split (at o.before)
  where
    at : (a : List ℕ) → Lies k (a ++ o.crossing ∷ o.after)
    at [] = here o.is
    at (f ∷ a) = later (at a)

pub lies_on : {k : ℕ} {p : List ℕ} → Lies k p → On k p
lies_on (here {f} {p} e) = record { before = []; crossing = f; after = p; split = refl; is = e }
lies_on (later {f} {p} l) =
    let o = lies_on l in
    record { before = f ∷ o.before; crossing = o.crossing; after = o.after; split = ap (λ q. f ∷ q) o.split; is = o.is }

-- the best chain behind an entry c of node i
pub record Settled (N : Network) (X : ℕ → Type 0) (d i c : ℕ) : Type 0 where
  pub way : List ℕ
  pub best : Best N X i way d
  pub costs : cost N way ≡ c
  pub once : Distinct (map link way)

-- the entry of i is the sum over interface g, which leaves i
pub record Exact (N : Network) (X : ℕ → Type 0) (D : Column) (i g : ℕ) : Type 0 where
  pub present : N.Present (link g)
  pub within : X (link g)
  pub at_tail : tail N g ≡ i
  pub onward : ℕ
  pub at_head : D (head N g) ≡ some onward
  pub sum : D i ≡ some (link_cost N (link g) + onward)

-- interface g, kept with the entry c of node i: the entry is, or was when it was made, the sum over it
pub record Toward (N : Network) (X : ℕ → Type 0) (D : Column) (i c g : ℕ) : Type 0 where
  pub present : N.Present (link g)
  pub within : X (link g)
  pub at_tail : tail N g ≡ i
  pub onward : ℕ
  pub at_head : AtMost (D (head N g)) onward
  pub sum : link_cost N (link g) + onward ≤ c

-- F keeps such an interface for each entry but the destination's
abbrev pub Led : Network → (ℕ → Type 0) → ℕ → Column → (ℕ → ℕ) → Type 0
Led N X d D F = (i c : ℕ) → i ≢ d → D i ≡ some c → Toward N X D i c (F i)

-- the entry falls from the tail of h to its head
pub record Descends (N : Network) (D : Column) (h : ℕ) : Type 0 where
  pub high : ℕ
  pub at_tail : D (tail N h) ≡ some high
  pub low : ℕ
  pub at_head : D (head N h) ≡ some low
  pub less : low < high

module _ (N : Network) (X : ℕ → Type 0) (d : ℕ) (D : Column) (t : Finished N X d D) where
  -- a chain that costs no more than the entry is a best one
  as_cheap_best : {i c : ℕ} (p : List ℕ) → D i ≡ some c → Chain N i p d → Over X p → cost N p ≤ c → Best N X i p d
  as_cheap_best {i} {c} p e s o h =
      record {
        chain = s;
        over = o;
        least = λ {q} u v.
            (let a = t.least i q u v in
            let same : a.value ≡ c = cc a.is in
            omega (arith, a.at_most));
      }

  pub finished_best : (i c : ℕ) → D i ≡ some c → Settled N X d i c
  finished_best i c e =
      let k = t.sound i c e in
      record
      { way = k.way; best = as_cheap_best k.way e k.chain k.over (omega (arith, k.costs)); costs = k.costs; once = k.once }

  pub finished_none : (i : ℕ) → D i ≡ none → (p : List ℕ) → Chain N i p d → Over X p → ⊥
  finished_none i e p c o = no_entry e (t.least i p c o).is

  pub finished_cost : {i : ℕ} {p : List ℕ} → Best N X i p d → D i ≡ some (cost N p)
  finished_cost {i} {p} b =
      let a = t.least i p b.chain b.over in
      let k = t.sound i a.value a.is in
      let same : a.value ≡ cost N p = omega (arith, b.least k.chain k.over, k.costs) in
      rw same at a.is

  pub finished_here : D d ≡ some 0
  finished_here = finished_cost (record { chain = stop refl; over = Over.none; least = λ {q} u v. omega arith })

  -- the first interface, kept with the entry
  pub toward_best : (i c g : ℕ) → D i ≡ some c → Toward N X D i c g → (p : List ℕ) × Best N X i (g ∷ p) d
  toward_best i c g e s =
      let k = t.sound (head N g) s.at_head.value s.at_head.is in (
        k.way,
        as_cheap_best (g ∷ k.way) e (step s.present s.at_tail k.chain) (both s.within k.over)
            (omega (arith, k.costs, s.sum, s.at_head.at_most)),
      )

  pub first_kept : (F : ℕ → ℕ) → Led N X d D F → (i c : ℕ) → i ≢ d → D i ≡ some c → (p : List ℕ) × Best N X i (F i ∷ p) d
  first_kept F l i c away e = toward_best i c (F i) e (l i c away e)

  -- the first interface, found by its sum
  pub first_interface : (i g : ℕ) → Exact N X D i g ↔ ((p : List ℕ) × Best N X i (g ∷ p) d)
  first_interface i g = (to, from)
    where
      to : Exact N X D i g → (p : List ℕ) × Best N X i (g ∷ p) d
      to s =
          toward_best i _ g s.sum
          (record {
            present = s.present;
            within = s.within;
            at_tail = s.at_tail;
            onward = s.onward;
            at_head = record { value = s.onward; is = s.at_head; at_most = omega arith };
            sum = omega arith;
          })

      from : ((p : List ℕ) × Best N X i (g ∷ p) d) → Exact N X D i g
      from s =
          record {
            present = first_present N s.1.chain;
            within = first_over N s.1.over;
            at_tail = first_tail N s.1.chain;
            onward = cost N s.0;
            at_head = finished_cost (best_after N [] g s.0 s.1);
            sum = finished_cost s.1;
          }

  pub first_interface_one : WellFormed N → (i g h : ℕ) → Exact N X D i g → Exact N X D i h → g ≡ h
  first_interface_one W i g h s u =
      let a = (first_interface i g).0 s in
      let b = (first_interface i h).0 u in
      let e : g ∷ a.0 ≡ h ∷ b.0 = unique N W a.1 b.1 in
      cc

  pub crosses_down : {u : ℕ} (a : List ℕ) (h : ℕ) (b : List ℕ) → Best N X u (a ++ h ∷ b) d → Descends N D h
  crosses_down a h b s =
      record {
        high = _;
        at_tail = finished_cost (best_from N a h b s);
        low = _;
        at_head = finished_cost (best_after N a h b s);
        less = omega (arith, link_cost_positive N (link h));
      }

  pub crosses : {u : ℕ} {p : List ℕ} (h : ℕ) → Best N X u p d → On (link h) p → Descends N D h
      → (a : List ℕ) × (b : List ℕ) × (p ≡ a ++ h ∷ b)
  crosses {u} {p} h s o down = go o.before o.crossing o.after o.split (same_link o.crossing h o.is)
    where
      go : (a : List ℕ) (g : ℕ) (b : List ℕ) → p ≡ a ++ g ∷ b → (g ≡ h) ⊎ (g ≡ reverse h)
          → (a : List ℕ) × (b : List ℕ) × (p ≡ a ++ h ∷ b)
      go a g b e (inl q) = (a, b, rw q at e)
      go a g b e (inr q) =
          let up : Descends N D (reverse h) = rw q at (crosses_down a g b (rw e at s)) in
          let e₁ : up.high ≡ down.low = cc (up.at_tail, down.at_head, tail_reverse N h) in
          let e₂ : up.low ≡ down.high = cc (up.at_head, down.at_tail, head_reverse N h) in
          absurd (omega (arith, up.less, down.less))

  -- The links after g on a best chain are lower down: whatever holds of all links that start lower than g holds of them. So of
  -- several links on the chain the nearest to d is the one that starts lowest.
  pub lower_after : (P : ℕ → Type 0) {i : ℕ} (a : List ℕ) (g : ℕ) (b : List ℕ) → Best N X i (a ++ g ∷ b) d
      → ((f : ℕ) (s : Descends N D f) → s.high < cost N (g ∷ b) → P (link f)) → Over P b
  unfolding crosses_down
  lower_after P a g b s lower = go b (best_after N a g b s) (omega (arith, link_cost_positive N (link g)))
    where
      go : {x : ℕ} (p : List ℕ) → Best N X x p d → cost N p < cost N (g ∷ b) → Over P p
      go [] t h = Over.none
      go {x = x} (f ∷ p) t h = both (lower f (crosses_down [] f p t) h) (go {x = head N f} p (best_after N [] f p t) (omega arith))

-- a key link k of interface h, as the column E without k shows it; `routing` is read off the column of all links
pub record KeyByColumn (N : Network) (d h k : ℕ) (E : Column) : Type 0 where
  pub present : N.Present k
  pub onward : List ℕ
  pub routing : Best N All (head N h) (reverse h ∷ onward) d
  pub from : ℕ
  pub from_link : link from ≡ k
  pub way : List ℕ
  pub best : Best N (But k) (tail N from) way d
  pub on : On (link h) way
  pub down : Descends N E h

pub key_link_by_columns : (N : Network) → WellFormed N → (d h k : ℕ) (E : Column) → Finished N (But k) d E
    → KeyLink N d h k ↔ KeyByColumn N d h k E
key_link_by_columns N W d h k E t = (to, from)
  where
    to : KeyLink N d h k → KeyByColumn N d h k E
    to s =
        let b = path_best N W s.crosses in
        record {
          present = s.present;
          onward = s.onward;
          routing = path_best N W s.routing;
          from = s.from;
          from_link = s.from_link;
          way = s.before ++ h ∷ s.after;
          best = b;
          on = record { before = s.before; crossing = h; after = s.after; split = refl; is = refl };
          down = crosses_down N (But k) d E t s.before h s.after b;
        }

    from : KeyByColumn N d h k E → KeyLink N d h k
    from s =
        let c = crosses N (But k) d E t h s.best s.on s.down in
        record {
          present = s.present;
          onward = s.onward;
          routing = best_path N W s.routing;
          from = s.from;
          from_link = s.from_link;
          before = c.0;
          after = c.1;
          crosses = best_path N W (rw c.2 at s.best);
        }

module _ (N : Network) (X : ℕ → Type 0) (d : ℕ) where
  -- the first interface is kept: nothing to keep at the start; as before where the entry stays; the offering interface where it wins
  pub led_start : {D : Column} (F : ℕ → ℕ) → ((i : ℕ) → i ≢ d → D i ≡ none) → Led N X d D F
  led_start F others i c away e = absurd (no_entry (others i away) e)

  toward_falls : {D D' : Column} {i c g : ℕ} → Falls D D' → Toward N X D i c g → Toward N X D' i c g
  toward_falls s t =
      record {
        present = t.present;
        within = t.within;
        at_tail = t.at_tail;
        onward = t.onward;
        at_head = at_most_falls _ _ s t.at_head;
        sum = t.sum;
      }

  pub led_same : {D D' : Column} {F F' : ℕ → ℕ} → ((i : ℕ) → D' i ≡ D i) → ((i : ℕ) → F' i ≡ F i) → Led N X d D F → Led N X d D' F'
  led_same {D} {D'} {F} {F'} same same_f l i c away e =
      rw (same_f i) (toward_falls (falls_same same) (l i c away (sym (same i) ∙ e)))

  pub led_wins : {E D D' : Column} {F F' : ℕ → ℕ} {f : ℕ} (c : ℕ) → Falls E D → Offer N X f E D D' → E (head N f) ≡ some c
      → D' (tail N f) ≡ some (link_cost N (link f) + c) → F' (tail N f) ≡ f
      → ((i : ℕ) → i ≢ tail N f → (D' i ≡ D i) × (F' i ≡ F i)) → Led N X d D F → Led N X d D' F'
  led_wins {E} {D} {D'} {F} {F'} {f} c falls o at_head stored first others l i e away q =
      elim (ℕ_discrete i (tail N f)) [
        | yes t ↦
            let new : F' i ≡ f = ap F' t ∙ first in
            let same : e ≡ link_cost N (link f) + c = cc in
            let toward : Toward N X D' i e f =
            record {
              present = o.present;
              within = o.within;
              at_tail = sym t;
              onward = c;
              at_head = falls_twice falls o.falls (head N f) c at_head;
              sum = omega arith;
            } in
            rw new toward
        | no t ↦ rw (others i t).1 (toward_falls o.falls (l i e away (sym (others i t).0 ∙ q)))
      ]
