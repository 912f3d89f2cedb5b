-- The walk over right entries. It follows the best path as long as it meets no failed link, since an interface of a best path has no
-- key links (W1). Where it meets the failed link it turns to the backwarding entry. If that leads nowhere, the packet is dropped, and
-- no chain goes on from there without the link (W2). Else the packet goes on along one path that avoids the failed link: the plain
-- best path of the next node (W3), or the detour of the interface that it crosses (W4).
use mathlib.Core.Path.{◌≡◌, refl, sym, ap, ◌∙◌}
use mathlib.Core.Logic.{◌⊎◌, inl, inr, ◌≢◌}
use mathlib.Core.Bool.{Bool, true, false}
use mathlib.Core.List.{List, [], ◌∷◌, ◌++◌, append_assoc}
use Prim.Native.Nat.{ℕ, zero, suc, ◌+◌, ◌<◌, ◌≤◌}
use native.Mathlib.Omega.{arith}
use lib.ListN.{length}
use borrow.Author.Tests.{eq-eqb, ne_eqb}
use Rattle.graph.specs.Network.{Network, WellFormed, link, reverse, tail, head}
use Rattle.graph.specs.Path.{Chain, Path, Over, both, All, But}
use Rattle.graph.specs.Path.{Each, Each.none as Each-none, Each.both as Each-both}
use Rattle.graph.specs.Entries.{Hop, onward, nowhere, Entry, Free, Aside}
use Rattle.graph.specs.Walk.{Tables, around, step_by, Ending, delivered, unrouted, dropped, exhausted, ends_by, crossing}
use Rattle.graph.specs.Walk.{goes_on, walk_from}
use Rattle.graph.specs.Demand3.{BuiltEntries, Works}
use Rattle.graph.specs.Later.{RightEntries, LeavesIn}
use Rattle.graph.proofs.Interfaces.{link_reverse, head_reverse}
use Rattle.graph.proofs.Chain.{Best, back, chain_nil, first_present, first_tail, first_over, over_weaken, over_right, best_from}
use Rattle.graph.proofs.Chain.{best_after, best_fewer, twice, over_after}
use Rattle.graph.proofs.Unique.{unique}
use Rattle.graph.proofs.Simple.{simple, get}
use Rattle.graph.proofs.Keys.{Detour, over_all, but?, key_link, free_best, turn, along, no_key, routing_has_no_key, all_path, keys?}
use Rattle.graph.proofs.Entries.{hop_of, apart, entry_one, entry_best, no_chain_entry}
use Rattle.graph.proofs.Entries.{routing_entry, forwarding_entry, backwarding_entry}

-- document 02's rule (L2): the interface's own link and its key links
pub own_and_keys_out : (N : Network) (d : ℕ) → LeavesIn N d (Aside N d)
own_and_keys_out N d = record { without_own = λ h k left_in. left_in.0; all_others = λ h free k other. (other, free k) }

-- the built tables are right by that rule
pub built_right : {N : Network} {d : ℕ} {T : Tables} → BuiltEntries N d T → RightEntries N d (Aside N d) T
built_right built = record { routing = built.routing; forwarding = built.forwarding; backwarding = built.backwarding }

-- and there are such tables for every destination
pub tables_exist : (N : Network) → WellFormed N → (d : ℕ) → (T : Tables) × BuiltEntries N d T
tables_exist N W d = (
  record {
    routing = λ i. (routing_entry N W d i).0;
    forwarding = λ h. (forwarding_entry N W d h).0;
    backwarding = λ h. (backwarding_entry N W d h).0;
  },
  record {
    routing = λ i node. (routing_entry N W d i).1;
    forwarding = λ h up. (forwarding_entry N W d h).1;
    backwarding = λ h up. (backwarding_entry N W d h).1;
  },
)

-- Interface x is not the routing entry of its tail, or the best path from its head avoids link l. The interfaces that the walk
-- crosses before it meets the failed link l are of the other kind, and those after are of this: so none is crossed twice.
abbrev pub Strays : Network → ℕ → ℕ → ℕ → Type 0
Strays N d l x = (rest : List ℕ) → Best N All (tail N x) (x ∷ rest) d → Over (But l) rest

-- The walk without its limit, from a node and the entry read there, by the interfaces crossed and the ending: it arrives; it is
-- dropped; it crosses the interface of its entry; or that link has failed and it crosses that of the backwarding entry.
pub data Goes (N : Network) (failed : ℕ → Bool) (T : Tables) (d : ℕ) : ℕ → Hop → List ℕ → Ending → Type 0 where
  arrives : {i : ℕ} {e : Hop} → i ≡ d → Goes N failed T d i e [] delivered
  blocked : {i f : ℕ} → i ≢ d → failed (link f) ≡ true → T.backwarding f ≡ nowhere → Goes N failed T d i (onward f) [] dropped
  moves_on : {i f : ℕ} {e : Hop} {p : List ℕ} {r : Ending} → i ≢ d → failed (link f) ≡ false
      → T.forwarding f ≡ e → Goes N failed T d (head N f) e p r → Goes N failed T d i (onward f) (f ∷ p) r
  goes_round : {i f g : ℕ} {e : Hop} {p : List ℕ} {r : Ending} → i ≢ d → failed (link f) ≡ true → T.backwarding f ≡ onward g
      → failed (link g) ≡ false → T.forwarding g ≡ e → Goes N failed T d (head N g) e p r → Goes N failed T d i (onward f) (g ∷ p) r

-- the limit is looked at before the step that drops
abbrev pub laststep : Ending → ℕ
laststep delivered = 0
laststep unrouted = 1
laststep dropped = 1
laststep exhausted = 1

module _ {N : Network} {failed : ℕ → Bool} {T : Tables} {d : ℕ} where
  -- with limit enough the walk is that
  pub goes_walk : {i : ℕ} {e : Hop} {p : List ℕ} {r : Ending} (limit : ℕ) (lost : Ending) → Goes N failed T d i e p r
      → length p + laststep r ≤ limit → walk_from N failed T d limit i e lost ≡ record { crossed = p; ending = r }
  unfolding walk_from goes_on ends_by crossing step_by around
  goes_walk {i} zero lost (arrives a) room = rw (eq-eqb i d a, walk_from)
  goes_walk {i} (suc limit) lost (arrives a) room = rw (eq-eqb i d a, walk_from)
  goes_walk zero lost (blocked n down no_entry) room = absurd (omega arith)
  goes_walk {i} (suc limit) lost (blocked n down no_entry) room = rw (ne_eqb i d n, walk_from, down, step_by, no_entry, around)
  goes_walk zero lost (moves_on n up next w) room = absurd (omega arith)
  goes_walk {i} (suc limit) lost (moves_on {f = f} n up next w) room =
      rw (ne_eqb i d n, walk_from, up, step_by, next, goes_walk {i = head N f} limit _ w (omega arith))
  goes_walk zero lost (goes_round n down entry up next w) room = absurd (omega arith)
  goes_walk {i} (suc limit) lost (goes_round {g = g} n down entry up next w) room =
      rw (ne_eqb i d n, walk_from, down, step_by, entry, around, up, next, goes_walk {i = head N g} limit _ w (omega arith))

-- with no entry to follow it ends where it stands
pub lost_walk : (N : Network) (failed : ℕ → Bool) (T : Tables) {i d : ℕ} (limit : ℕ) (lost : Ending) → i ≢ d → 0 < limit
    → walk_from N failed T d limit i nowhere lost ≡ record { crossed = []; ending = lost }
unfolding walk_from goes_on ends_by step_by
lost_walk N failed T zero lost n room = absurd (omega arith)
lost_walk N failed T {i} {d} (suc limit) lost n room = rw (ne_eqb i d n, walk_from)

-- the walk from the failed link on
pub record WayRound (N : Network) (failed : ℕ → Bool) (T : Tables) (d f : ℕ) (way : List ℕ) : Type 0 where
  pub goes : Goes N failed T d (tail N f) (onward f) way delivered
  pub path : Path N (tail N f) way d
  pub avoids : Over (But (link f)) way
  pub strays : Each (Strays N d (link f)) way

module _ (N : Network) (W : WellFormed N) (d : ℕ) (Y : ℕ → ℕ → Type 0) (leaves : LeavesIn N d Y)
    (T : Tables) (right : RightEntries N d Y T) (failed : ℕ → Bool) where
  forwards : {h : ℕ} {S : List ℕ} → N.Present (link h) → Best N (Free N d h) (head N h) S d → T.forwarding h ≡ hop_of S
  forwards {h} up t = entry_best N W (right.forwarding h up) t

  -- over an interface without key links the packet goes on by the plain best path
  forwards_plainly : {h : ℕ} {S : List ℕ} → N.Present (link h) → ((k : ℕ) → Free N d h k) → Best N All (head N h) S d
      → T.forwarding h ≡ hop_of S
  forwards_plainly {h} {S} up free t = forwards up (best_fewer N (λ k o. tt) (over_all free S) t)

  -- W1: where every link works, the walk follows the best path
  pub follows : {i : ℕ} (p : List ℕ) → Best N All i p d → Over (Works failed) p → Goes N failed T d i (hop_of p) p delivered
  follows [] t o = arrives (chain_nil N t.chain)
  follows {i = i} (f ∷ p) t (both works o) =
      let rest = best_after N [] f p t in
      moves_on (apart N W t) works
      (forwards_plainly (first_present N t.chain) (routing_has_no_key N W t) rest) (follows {i = head N f} p rest o)

  -- W1: and else it follows it up to the link that fails
  pub follows_up_to : {i : ℕ} {p : List ℕ} {r : Ending} (a : List ℕ) (f : ℕ) (b : List ℕ) → Best N All i (a ++ f ∷ b) d
      → Over (Works failed) a → Goes N failed T d (tail N f) (onward f) p r → Goes N failed T d i (hop_of (a ++ f ∷ b)) (a ++ p) r
  follows_up_to [] f b t o w = rw (← first_tail N t.chain) w
  follows_up_to {i = i} {p = p} {r = r} (x ∷ a) f b t (both works o) w =
      let rest = best_after N [] x (a ++ f ∷ b) t in
      moves_on (apart N W t) works
      (forwards_plainly (first_present N t.chain) (routing_has_no_key N W t) rest) (follows_up_to {i = head N x} {p = p} {r = r} a f b rest o w)

  module _ (l : ℕ) (only : (k : ℕ) → But l k → failed k ≡ false) where
    plain_strays : {i : ℕ} (p : List ℕ) → Best N All i p d → Over (But l) p → Each (Strays N d l) p
    plain_strays [] t o = Each-none
    plain_strays {i} (x ∷ p) t (both n o) = Each-both here_strays (plain_strays {i = head N x} p (best_after N [] x p t) o)
      where
        here_strays : Strays N d l x
        here_strays rest u =
            let same : x ∷ p ≡ x ∷ rest = unique N W t (rw (first_tail N t.chain) at u) in
            let same₂ : p ≡ rest = cc in
            rw same₂ at o

    -- on a detour the routing entry leads back over the interface entered, and the detour does not go there
    detour_strays : {h e : ℕ} {S : List ℕ} → Detour N d h (e ∷ S) → Strays N d l e
    detour_strays {h} {e} {S} D rest u =
        let a = back D.between in
        let start : tail N e ≡ head N h = first_tail N (best_after N a h (e ∷ S) D.round).chain in
        let same : reverse h ∷ (D.between ++ D.nearest ∷ D.beyond) ≡ e ∷ rest = unique N W D.main (rw start at u) in
        let first : reverse h ≡ e = cc in
        absurd (twice N W a h [] e S (sym (link_reverse h) ∙ ap link first) D.round)

    -- W4: a packet on a detour goes along it
    detours : {h : ℕ} (S : List ℕ) → Detour N d h S → Over (But l) S
        → Goes N failed T d (head N h) (hop_of S) S delivered × Each (Strays N d l) S
    detours {h} [] D o = (arrives (chain_nil N (best_after N (back D.between) h [] D.round).chain), Each-none)
    detours {h} (e ∷ S) D (both n o) =
        let t = best_after N (back D.between) h (e ∷ S) D.round in
        let up = first_present N t.chain in
        let u = best_after N [] e S t in
        elim (all_path N W (head N e) d) [
          | inr no_chain ↦ absurd (no_chain S u.chain)
          | inl (M, m) ↦ elim (along N W D m) [
            | inl plain ↦ (
              moves_on (apart N W t) (only (link e) n) (forwards_plainly up (no_key N W [] t plain) plain)
                  (follows S plain (over_weaken N only o)),
              Each-both (detour_strays D) (plain_strays S plain o),
            )
            | inr D₂ ↦
                let (goes, rest) = detours S D₂ o in
                (moves_on (apart N W t) (only (link e) n) (forwards up (free_best N W D₂)) goes, Each-both (detour_strays D) rest)
          ]
        ]

  -- the detour of an interface g from whose head the best path turns back over g and then crosses f avoids the link of f
  detour_avoids : {g f : ℕ} {b S : List ℕ} → Best N All (head N g) (reverse g ∷ (f ∷ b)) d → Detour N d g S → Over (But (link f)) S
  detour_avoids {g} {f} {b} {S} main D = by_place D.between D.nearest D.beyond D.main D.round
    where
      by_place : (A : List ℕ) (k : ℕ) (C : List ℕ) → Best N All (head N g) (reverse g ∷ (A ++ k ∷ C)) d
          → Best N (But (link k)) (tail N k) (back A ++ g ∷ S) d → Over (But (link f)) S
      by_place [] k C t round =
          let same : reverse g ∷ (k ∷ C) ≡ reverse g ∷ (f ∷ b) = unique N W t main in
          let first : k ≡ f = cc in
          rw first at (over_right N (g ∷ []) S round.over)
      by_place (x ∷ A) k C t round =
          let same : reverse g ∷ (x ∷ (A ++ k ∷ C)) ≡ reverse g ∷ (f ∷ b) = unique N W t main in
          let first : x ≡ f = cc in
          let round₂ : Best N (But (link k)) (tail N k) (back A ++ reverse x ∷ (g ∷ S)) d =
          rw (append_assoc (back A) (reverse x ∷ []) (g ∷ S)) at round in
          rw (link_reverse x ∙ ap link first) at (over_right N (g ∷ []) S (over_after N W (back A) (reverse x) (g ∷ S) round₂))

  -- W2, W3, W4: at the failed link the walk is dropped, and nothing joins that node to d without the link; or it goes round
  pub at_failed_link : {f : ℕ} {b : List ℕ} → failed (link f) ≡ true → ((k : ℕ) → But (link f) k → failed k ≡ false)
      → Best N All (tail N f) (f ∷ b) d
      → ((way : List ℕ) × WayRound N failed T d f way)
      ⊎ (Goes N failed T d (tail N f) (onward f) [] dropped × ((p : List ℕ) → Chain N (tail N f) p d → Over (But (link f)) p → ⊥))
  at_failed_link {f} {b} down only plain =
      elim (get N W (but? (link f)) (tail N f) d) [ inl (Q, t) ↦ inl (by_way Q t) | inr no_chain ↦ inr (by_nothing no_chain) ]
    where
      free : (k : ℕ) → Free N d f k
      free = routing_has_no_key N W plain

      entry : Entry N (Y f) (tail N f) d (T.backwarding f)
      entry = right.backwarding f (first_present N plain.chain)

      by_nothing : ((p : List ℕ) → Chain N (tail N f) p d → Over (But (link f)) p → ⊥)
          → Goes N failed T d (tail N f) (onward f) [] dropped × ((p : List ℕ) → Chain N (tail N f) p d → Over (But (link f)) p → ⊥)
      by_nothing no_chain = (
        blocked (apart N W plain) down
            (entry_one N W entry (no_chain_entry N W (apart N W plain) (λ p c o. no_chain p c (over_weaken N (leaves.without_own f) o)))),
        no_chain,
      )

      crossed_strays : {g : ℕ} → tail N g ≡ tail N f → But (link f) (link g) → Strays N d (link f) g
      crossed_strays {g} start n rest u =
          let same : f ∷ b ≡ g ∷ rest = unique N W plain (rw start at u) in
          let first : g ≡ f = cc in
          absurd (n (ap link first))

      -- W3: the plain best path from the next node
      plainly : (g : ℕ) (Q : List ℕ) → Best N (But (link f)) (tail N f) (g ∷ Q) d → T.backwarding f ≡ onward g
          → Best N All (head N g) Q d → (way : List ℕ) × WayRound N failed T d f way
      plainly g Q t back_entry m =
          let n : But (link f) (link g) = first_over N t.over in
          let o : Over (But (link f)) Q = over_right N (g ∷ []) Q t.over in (
            g ∷ Q,
            record {
              goes = goes_round (apart N W plain) down back_entry (only (link g) n)
                  (forwards_plainly (first_present N t.chain) (no_key N W [] t m) m) (follows Q m (over_weaken N only o));
              path = simple N W t;
              avoids = t.over;
              strays = Each-both (crossed_strays (first_tail N t.chain) n) (plain_strays (link f) only Q m o);
            },
          )

      -- W4: the detour of the interface crossed
      by_detour : (g : ℕ) (Q M : List ℕ) → Best N (But (link f)) (tail N f) (g ∷ Q) d → T.backwarding f ≡ onward g
          → Best N All (head N g) (reverse g ∷ M) d → (way : List ℕ) × WayRound N failed T d f way
      by_detour g Q M t back_entry m =
          let n : But (link f) (link g) = first_over N t.over in
          let start : tail N g ≡ tail N f = first_tail N t.chain in
          let rest : Best N All (tail N f) M d = rw (head_reverse N g ∙ start) at (best_after N [] (reverse g) M m) in
          let main : Best N All (head N g) (reverse g ∷ (f ∷ b)) d = rw (unique N W rest plain) at m in
          elim (keys? N W d g) [
            | inl none_key ↦ absurd (none_key (link f) (key_link N W (record
                { onward = f ∷ b; returns = main; from = f; from_link = refl; before = []; after = Q; crosses = t })))
            | inr (S, D) ↦
                let o = detour_avoids main D in
                let (goes, strays) = detours (link f) only S D o in (
                  g ∷ S,
                  record {
                    goes = goes_round (apart N W plain) down back_entry (only (link g) n)
                        (forwards (first_present N t.chain) (free_best N W D)) goes;
                    path = simple N W (rw start at (best_from N (back D.between) g S D.round));
                    avoids = both n o;
                    strays = Each-both (crossed_strays start n) strays;
                  },
                )
          ]

      by_way : (Q : List ℕ) → Best N (But (link f)) (tail N f) Q d → (way : List ℕ) × WayRound N failed T d f way
      by_way [] t = absurd (apart N W plain (chain_nil N t.chain))
      by_way (g ∷ Q) t =
          let t₂ : Best N (Y f) (tail N f) (g ∷ Q) d =
          best_fewer N (leaves.without_own f) (over_weaken N (leaves.all_others f free) t.over) t in
          let back_entry : T.backwarding f ≡ onward g = entry_best N W entry t₂ in
          let rest = best_after N [] g Q t in
          elim (all_path N W (head N g) d) [
            | inr no_chain ↦ absurd (no_chain Q rest.chain)
            | inl (M, m) ↦ elim (turn N W [] g Q plain t m) [
              | inl off ↦ plainly g Q t back_entry (rw (unique N W (best_fewer N (λ k o. tt) off m) rest) at m)
              | inr (M₂, split) ↦ by_detour g Q M₂ t back_entry (rw split at m)
            ]
          ]
