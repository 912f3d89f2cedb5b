-- Demand 3: over right entries, a packet is delivered exactly if a chain of working links joins its source and its destination,
-- whichever one link has failed, or none; within 2n - 3 hops, each over a working link, and over no link twice in one direction.
-- Else it is not routed at all, or dropped at the failed link. What one walk does is an `Outcome`, of four kinds; the argument in Walk
-- says which it is, and each kind has what demand 3 asks. `demand_3` is the theorem; `demand_3_by_rule` is the same for other rules
-- of backwarding, `undisturbed` and `firm_detour` say more of the way taken.
use mathlib.Core.Path.{◌≡◌, refl, sym, ap, ◌∙◌}
use mathlib.Core.Logic.{◌⊎◌, inl, inr, ◌≢◌}
use mathlib.Core.Bool.{Bool, true, false, true≢false}
use mathlib.Core.List.{List, [], ◌∷◌, ◌++◌, map, append-nil}
use mathlib.Core.Option.{Option, none, some}
use Prim.Native.Nat.{ℕ, ◌+◌, ◌*◌, ◌<◌, ◌≤◌}
use native.Mathlib.Omega.{arith}
use lib.ListN.{length, length-append}
use borrow.Author.Tests.{eq-eqb, ne_eqb}
use Rattle.graph.specs.Network.{Network, WellFormed, link, tail, head}
use Rattle.graph.specs.Path.{Chain, Path, visits, Lies, here, later, Over, Over.none as over_none, Over.both as over_both}
use Rattle.graph.specs.Path.{BestPath, All, But}
use Rattle.graph.specs.Path.{Each, Each.none as Each-none, Each.both as Each-both, Distinct, Distinct.none as Distinct-none, fresh}
use Rattle.graph.specs.Entries.{onward, Aside}
use Rattle.graph.specs.Walk.{Tables, failed_by, Ending, delivered, unrouted, dropped, walk_of}
use Rattle.graph.specs.Demand3.{BuiltEntries, Works, Demand3}
use Rattle.graph.specs.Later.{RightEntries, LeavesIn, FirmDetour}
use Rattle.graph.proofs.Interfaces.{tail_node}
use Rattle.graph.proofs.Chain.{Best, back, find, chain_append, chain_back, chain_upto, chain_from, first_present, first_tail}
use Rattle.graph.proofs.Chain.{over_append, over_left, over_back, over_weaken, best_from, best_after, over_before, over_after}
use Rattle.graph.proofs.Sum.{each_map}
use Rattle.graph.proofs.Unique.{unique}
use Rattle.graph.proofs.Simple.{simple, short, distinct_links, chain_end}
use Rattle.graph.proofs.Agreement.{path_best, best_path}
use Rattle.graph.proofs.Keys.{over_at, over_all, all_path}
use Rattle.graph.proofs.Entries.{hop_of, best_entry, entry_one, entry_best, no_chain_entry}
use Rattle.graph.proofs.Walk.{own_and_keys_out, built_right, Strays, Goes, laststep, goes_walk, lost_walk, follows}
use Rattle.graph.proofs.Walk.{follows_up_to, at_failed_link}

-- How a walk from s goes, by the interfaces crossed and the ending.
data Outcome (N : Network) (failed : ℕ → Bool) (s d : ℕ) : List ℕ → Ending → Type 0 where
  no_way : ((p : List ℕ) → Chain N s p d → ⊥) → Outcome N failed s d [] unrouted
  plainly : {p : List ℕ} → Best N All s p d → Over (Works failed) p → Outcome N failed s d p delivered
  stopped : (a : List ℕ) (f : ℕ) (b : List ℕ) → Best N All s (a ++ f ∷ b) d → failed (link f) ≡ true → Over (Works failed) a
      → ((p : List ℕ) → Chain N (tail N f) p d → Over (Works failed) p → ⊥) → Outcome N failed s d a dropped
  round : {p : List ℕ} (a : List ℕ) (f : ℕ) (b way : List ℕ) → Best N All s (a ++ f ∷ b) d → failed (link f) ≡ true
      → Over (Works failed) a → Path N (tail N f) way d → Over (Works failed) way → Each (Strays N d (link f)) way
      → p ≡ a ++ way → Outcome N failed s d p delivered

-- lists without repetition
each_append : {P : ℕ → Type 0} {a b : List ℕ} → Each P a → Each P b → Each P (a ++ b)
each_append Each-none e₂ = e₂
each_append (Each-both p e) e₂ = Each-both p (each_append e e₂)

each_unmap : {P : ℕ → Type 0} (g : ℕ → ℕ) (l : List ℕ) → Each P (map g l) → Each (λ x. P (g x)) l
each_unmap g [] e = Each-none
each_unmap g (x ∷ l) (Each-both p e) = Each-both p (each_unmap g l e)

distinct_unmap : (g : ℕ → ℕ) (l : List ℕ) → Distinct (map g l) → Distinct l
distinct_unmap g [] t = Distinct-none
distinct_unmap g (x ∷ l) (fresh e t) = fresh (each_map (λ y n s. n (ap g s)) (each_unmap g l e)) (distinct_unmap g l t)

-- an interface is not among those of other links
other_links : {x : ℕ} {l : List ℕ} → Over (But (link x)) l → Each (λ y. x ≢ y) l
other_links over_none = Each-none
other_links (over_both n o) = Each-both (λ e. n (ap link (sym e))) (other_links o)

module _ (N : Network) (W : WellFormed N) {d : ℕ} where
  -- no interface twice: those before the failed link lead over it, those that come after stray from it
  once_both : {i : ℕ} {way : List ℕ} (a : List ℕ) (f : ℕ) (b : List ℕ) → Best N All i (a ++ f ∷ b) d
      → Each (Strays N d (link f)) way → Distinct way → Distinct (a ++ way)
  once_both [] f b t strays once = once
  once_both {i} (x ∷ a) f b t strays once =
      fresh
      (each_append (other_links (over_left N a (f ∷ b) (over_after N W [] x (a ++ f ∷ b) t))) (each_map leads strays))
      (once_both {i = head N x} a f b (best_after N [] x (a ++ f ∷ b) t) strays once)
    where
      leads : (y : ℕ) → Strays N d (link f) y → x ≢ y
      leads y strays_y e =
          let t₂ : Best N All (tail N x) (x ∷ (a ++ f ∷ b)) d = rw (first_tail N t.chain) t in
          over_at a f b (strays_y (a ++ f ∷ b) (rw e at t₂)) refl

  path_once : {i : ℕ} {p : List ℕ} → Path N i p d → Distinct p
  path_once {i} {p} t = distinct_unmap link p (distinct_links N W t)

  -- the walk meets the failed link after at most n - 2 hops
  room : {s : ℕ} → s < N.nodes → (a : List ℕ) (f : ℕ) (b : List ℕ) → Best N All s (a ++ f ∷ b) d → length a + 2 ≤ N.nodes
  room s_node a f b t = omega (arith, short N W s_node (simple N W t), length-append a (f ∷ b))

  module _ (failure : Option ℕ) {s : ℕ} (s_node : s < N.nodes) (apart_ends : s ≢ d) where
    -- demand 3 of each outcome
    outcome_demand : {p : List ℕ} {r : Ending} → Outcome N (failed_by failure) s d p r
        → Demand3 N failure s d (record { crossed = p; ending = r })
    outcome_demand (no_way none_joins) = record {
      exactly = (λ e. absurd (never e), λ j. absurd (none_joins j.0 j.1));
      arrived = λ e. absurd (never e);
      refused = λ n. inl (record { ending = refl; stays = refl; no_chain = none_joins });
    }
      where
        never : unrouted ≡ delivered → ⊥
        never e = let z : ◌≡◌ {A = ℕ} 0 1 = cc in omega arith
    outcome_demand {p} (plainly t works) = record {
      exactly = (λ e. (p, t.chain, works), λ j. refl);
      arrived = λ e. record {
        chain = t.chain;
        works = works;
        hops = omega (arith, short N W s_node (simple N W t), chain_end N W s_node t.chain);
        once = path_once (simple N W t);
      };
      refused = λ n. absurd (n refl);
    }
    outcome_demand {p} (stopped a f b t down works none_joins) = record {
      exactly = (
        λ e. absurd (never e),
        λ j. absurd (none_joins (back a ++ j.0)
            (chain_append N (back a) j.0 (chain_back N (chain_upto N a f b t.chain)) j.1)
            (over_append N (back a) j.0 (over_back N works) j.2)),
      );
      arrived = λ e. absurd (never e);
      refused = λ n. inr (record {
        ending = refl;
        meets = f;
        failed = down;
        routed = best_entry N W (f ∷ b) (best_from N a f b t);
        chain = chain_upto N a f b t.chain;
        works = works;
        hops = room s_node a f b t;
      });
    }
      where
        never : dropped ≡ delivered → ⊥
        never e = let z : ◌≡◌ {A = ℕ} 0 1 = cc in omega arith
    outcome_demand {p} (round a f b way t down works path works_on strays e) = rw e (record {
      exactly = (λ q. (a ++ way, chain, all_work), λ j. refl);
      arrived = λ q. record {
        chain = chain;
        works = all_work;
        hops = omega (arith, room s_node a f b t, length-append a way, short N W (tail_node N W f up) path);
        once = once_both a f b t strays (path_once path);
      };
      refused = λ n. absurd (n refl);
    })
      where
        up : N.Present (link f)
        up = first_present N (chain_from N a f b t.chain)

        chain : Chain N s (a ++ way) d
        chain = chain_append N a way (chain_upto N a f b t.chain) path.chain

        all_work : Over (Works (failed_by failure)) (a ++ way)
        all_work = over_append N a way works works_on

lies_not : {failed : ℕ → Bool} {k : ℕ} {p : List ℕ} → Lies k p → failed k ≡ true → Over (Works failed) p → ⊥
lies_not {failed} (here e) down (over_both works o) = true≢false (sym down ∙ ap failed (sym e) ∙ works)
lies_not (later lies) down (over_both works o) = lies_not lies down o

-- the failed link on a chain
record Meets (failed : ℕ → Bool) (p : List ℕ) : Type 0 where
  before : List ℕ
  crossing : ℕ
  after : List ℕ
  split : p ≡ before ++ crossing ∷ after
  down : failed (link crossing) ≡ true
  only : (k : ℕ) → But (link crossing) k → failed k ≡ false

meets? : (N : Network) (failure : Option ℕ) (p : List ℕ) → Over (Works (failed_by failure)) p ⊎ Meets (failed_by failure) p
unfolding failed_by
meets? N none p = inl (over_all (λ k. refl) p)
meets? N (some l) p =
    elim (find l p) [
      | inl off ↦ inl (over_weaken N (λ k n. ne_eqb k l n) off)
      | inr on ↦ inr (record {
        before = on.before;
        crossing = on.crossing;
        after = on.after;
        split = on.split;
        down = eq-eqb (link on.crossing) l on.is;
        only = λ k n. ne_eqb k l (λ e. n (e ∙ sym on.is));
      })
    ]

module _ (N : Network) (W : WellFormed N) (d : ℕ) (Y : ℕ → ℕ → Type 0) (leaves : LeavesIn N d Y)
    (T : Tables) (right : RightEntries N d Y T) (failure : Option ℕ) (s limit : ℕ)
    (s_node : s < N.nodes) (d_node : d < N.nodes) (apart_ends : s ≢ d) (enough : 2 * N.nodes ≤ limit + 3) where
  -- where there is a best path, the walk is what Goes says of it
  routed : {p q : List ℕ} {r : Ending} → Best N All s p d → Goes N (failed_by failure) T d s (hop_of p) q r
      → length q + laststep r ≤ limit → walk_of N (failed_by failure) T d limit s ≡ record { crossed = q; ending = r }
  unfolding walk_of
  routed t goes enough_for_it = rw (entry_best N W (right.routing s s_node) t) (goes_walk limit unrouted goes enough_for_it)

  meeting : {p : List ℕ} → Best N All s p d → Meets (failed_by failure) p
      → (q : List ℕ) × (r : Ending) × Outcome N (failed_by failure) s d q r
      × (walk_of N (failed_by failure) T d limit s ≡ record { crossed = q; ending = r })
  meeting {p} t₀ m =
      elim (at_failed_link N W d Y leaves T right (failed_by failure) m.down m.only (best_from N a f b t)) [
        | inl (way, R) ↦ (
          a ++ way,
          delivered,
          round a f b way t m.down works R.path (over_weaken N m.only R.avoids) R.strays refl,
          routed t (up_to R.goes)
              (omega (arith, room N W s_node a f b t, length-append a way, short N W (tail_node N W f up) R.path)),
        )
        | inr (goes, none_joins) ↦ (
          a,
          dropped,
          stopped a f b t m.down works (λ q c o. none_joins q c (over_weaken N works_elsewhere o)),
          routed t (rw (append-nil a) at (up_to goes)) (omega (arith, room N W s_node a f b t)),
        )
      ]
    where
      a : List ℕ
      a = m.before

      f : ℕ
      f = m.crossing

      b : List ℕ
      b = m.after

      t : Best N All s (a ++ f ∷ b) d
      t = rw m.split at t₀

      up : N.Present (link f)
      up = first_present N (chain_from N a f b t.chain)

      works : Over (Works (failed_by failure)) a
      works = over_weaken N m.only (over_before N W a f b t)

      works_elsewhere : (k : ℕ) → Works (failed_by failure) k → But (link f) k
      works_elsewhere k w e = true≢false (sym m.down ∙ ap (failed_by failure) (sym e) ∙ w)

      up_to : {q : List ℕ} {r : Ending} → Goes N (failed_by failure) T d (tail N f) (onward f) q r
          → Goes N (failed_by failure) T d s (hop_of (a ++ f ∷ b)) (a ++ q) r
      up_to goes = follows_up_to N W d Y leaves T right (failed_by failure) a f b t works goes

  outcome : (q : List ℕ) × (r : Ending) × Outcome N (failed_by failure) s d q r
      × (walk_of N (failed_by failure) T d limit s ≡ record { crossed = q; ending = r })
  unfolding walk_of
  outcome =
      elim (all_path N W s d) [
        | inr none_joins ↦ (
          [],
          unrouted,
          no_way none_joins,
          rw (entry_one N W (right.routing s s_node) (no_chain_entry N W apart_ends (λ p c o. none_joins p c)))
              (lost_walk N (failed_by failure) T limit unrouted apart_ends (omega arith)),
        )
        | inl (p, t) ↦ elim (meets? N failure p) [
          | inl works ↦ (
            p,
            delivered,
            plainly t works,
            routed t (follows N W d Y leaves T right (failed_by failure) p t works) (omega (arith, short N W s_node (simple N W t))),
          )
          | inr m ↦ meeting t m
        ]
      ]

  pub demand_3_by_rule : Demand3 N failure s d (walk_of N (failed_by failure) T d limit s)
  demand_3_by_rule = let (q, r, o, e) = outcome in rw e (outcome_demand N W failure s_node apart_ends o)

  -- a walk whose best path works is that path
  pub undisturbed : {p : List ℕ} → BestPath N All s p d → Over (Works (failed_by failure)) p
      → walk_of N (failed_by failure) T d limit s ≡ record { crossed = p; ending = delivered }
  undisturbed {p} best works =
      let t = path_best N W best in
      routed t (follows N W d Y leaves T right (failed_by failure) p t works) (omega (arith, short N W s_node (simple N W t)))

  -- a walk that meets a failed link follows the best path up to it, and from that node on visits no node twice
  pub firm_detour : {p : List ℕ} {k : ℕ} → BestPath N All s p d → Lies k p → failed_by failure k ≡ true
      → FirmDetour N failure s d (walk_of N (failed_by failure) T d limit s)
  unfolding visits
  firm_detour {p} {k} best lies down = let (q, r, o, e) = outcome in rw e (by_outcome o)
    where
      by_outcome : {q : List ℕ} {r : Ending} → Outcome N (failed_by failure) s d q r
          → FirmDetour N failure s d (record { crossed = q; ending = r })
      by_outcome (no_way none_joins) = absurd (none_joins p best.path.chain)
      by_outcome (plainly t works) = absurd (lies_not lies down (rw (unique N W t (path_best N W best)) at works))
      by_outcome (stopped a f b t fails works none_joins) = record {
        before = a;
        meets = f;
        failed = fails;
        after = b;
        best = best_path N W t;
        rest = [];
        crossed = sym (append-nil a);
        once = fresh Each-none Distinct-none;
      }
      by_outcome (round a f b way t fails works path works_on strays e) = record
          { before = a; meets = f; failed = fails; after = b; best = best_path N W t; rest = way; crossed = e; once = path.once }

-- demand 3, over the entries as they are defined
pub demand_3 : (N : Network) → WellFormed N → (T : Tables) (d : ℕ) → BuiltEntries N d T → (failure : Option ℕ) (s limit : ℕ)
    → s < N.nodes → d < N.nodes → s ≢ d → 2 * N.nodes ≤ limit + 3
    → Demand3 N failure s d (walk_of N (failed_by failure) T d limit s)
demand_3 N W T d built = demand_3_by_rule N W d (Aside N d) (own_and_keys_out N d) T (built_right built)
