-- The key links of an interface, and the detour that they send a packet on. Of an interface h that has a key link, the best path of
-- its head goes straight back over h. A key link lies on that path, and without it the best path of its near end comes back to h,
-- crosses it and goes on along some S (K1). Taking out only the key link nearest the destination gives the same S as taking out
-- all (K2). One step along S either leaves the detour for the plain best path, or keeps it, with the same nearest key link (K3).
use mathlib.Core.Path.{◌≡◌, refl, sym, ap, ◌∙◌}
use mathlib.Core.Logic.{◌⊎◌, inl, inr, ◌≢◌}
use mathlib.Core.List.{List, [], ◌∷◌, ◌++◌, append_assoc}
use Prim.Native.Nat.{ℕ}
use native.Mathlib.Decide.{ℕ_discrete}
use native.Mathlib.Omega.{arith}
use Rattle.graph.specs.Network.{Network, WellFormed, link, reverse, tail, head}
use Rattle.graph.specs.Path.{Chain, Over, none, both, All, But}
use Rattle.graph.specs.Entries.{KeyLink, Free}
use Rattle.graph.proofs.Interfaces.{link_reverse, reverse_reverse, same_link, tail_reverse, head_reverse}
use Rattle.graph.proofs.Chain.{Best, On, back, find, first_present, first_tail, chain_from, over_append, over_left, over_right}
use Rattle.graph.proofs.Chain.{best_upto, best_from, best_after, best_back, best_fewer, twice, over_before, over_after}
use Rattle.graph.proofs.Unique.{unique}
use Rattle.graph.proofs.Simple.{get}
use Rattle.graph.proofs.Agreement.{path_best, best_path}

-- a key link, in the working notion of a best path
pub record Key (N : Network) (d h k : ℕ) : Type 0 where
  pub onward : List ℕ
  pub returns : Best N All (head N h) (reverse h ∷ onward) d
  pub from : ℕ
  pub from_link : link from ≡ k
  pub before : List ℕ
  pub after : List ℕ
  pub crosses : Best N (But k) (tail N from) (before ++ h ∷ after) d

-- What holds of a packet that has entered over h with the way S before it: the best path of head h goes back over h, then along
-- `between`, over the link of `nearest` and along `beyond`; without that link the best path from its near end comes back along
-- `between`, crosses h and goes on along S; and no link further on is a key link of h.
pub record Detour (N : Network) (d h : ℕ) (S : List ℕ) : Type 0 where
  pub between : List ℕ
  pub nearest : ℕ
  pub beyond : List ℕ
  pub main : Best N All (head N h) (reverse h ∷ (between ++ nearest ∷ beyond)) d
  pub round : Best N (But (link nearest)) (tail N nearest) (back between ++ h ∷ S) d
  pub last : Over (Free N d h) beyond

-- Lists of interfaces, by the place of one of them.
module _ {X : ℕ → Type 0} where
  pub over_at : (a : List ℕ) (f : ℕ) (b : List ℕ) → Over X (a ++ f ∷ b) → X (link f)
  over_at [] f b (both x o) = x
  over_at (g ∷ a) f b (both x o) = over_at a f b o

  pub over_all : ((k : ℕ) → X k) → (p : List ℕ) → Over X p
  over_all all [] = none
  over_all all (f ∷ p) = both (all (link f)) (over_all all p)

  pub over_by_places : (p : List ℕ) → ((a : List ℕ) (f : ℕ) (b : List ℕ) → p ≡ a ++ f ∷ b → X (link f)) → Over X p
  over_by_places [] at_place = none
  over_by_places (f ∷ p) at_place =
      both (at_place [] f p refl) (over_by_places p (λ a g b e. at_place (f ∷ a) g b (ap (λ q. f ∷ q) e)))

pub but? : (l k : ℕ) → Dec (But l k)
but? l k = elim (ℕ_discrete k l) [ yes e ↦ no (λ n. n e) | no n ↦ yes n ]

pub not_on : {k : ℕ} {p : List ℕ} → Over (But k) p → On k p → ⊥
not_on {k} o r = over_at r.before r.crossing r.after (rw r.split at o) r.is

pub back_at : (a : List ℕ) (f : ℕ) (b : List ℕ) → back (a ++ f ∷ b) ≡ back b ++ reverse f ∷ back a
back_at [] f b = refl
back_at (g ∷ a) f b = rw (back_at a f b) (simp append_assoc)

module _ (N : Network) (W : WellFormed N) where
  over_unback : {X : ℕ → Type 0} (p : List ℕ) → Over X (back p) → Over X p
  over_unback [] o = none
  over_unback {X} (f ∷ p) o =
      let own : X (link (reverse f)) = over_at (back p) (reverse f) [] o in
      both (rw (link_reverse f) at own) (over_unback p (over_left N (back p) _ o))

  module _ {d : ℕ} where
    -- K1: a key link lies on the best path of the head, past the interface itself
    pub key_on : {h k : ℕ} {P : List ℕ} → Best N All (head N h) (reverse h ∷ P) d → Key N d h k → On k P
    key_on {h} {k} {P} main key = elim (find k P) [ inr on ↦ on | inl off ↦ absurd (turns_back off) ]
      where
        turns_back : Over (But k) P → ⊥
        turns_back off =
            let own : But k (link h) = over_at key.before h key.after key.crosses.over in
            let own₂ : But k (link (reverse h)) = rw (link_reverse h) own in
            let same : key.after ≡ reverse h ∷ P =
            unique N W (best_after N key.before h key.after key.crosses) (best_fewer N (λ x o. tt) (both own₂ off) main) in
            twice N W key.before h [] (reverse h) P (sym (link_reverse h)) (rw same at key.crosses)

    pub key_present : {h k : ℕ} → Key N d h k → N.Present k
    key_present {h} {k} key =
        let on = key_on key.returns key in
        let c : Chain N (head N h) ((reverse h ∷ on.before) ++ on.crossing ∷ on.after) d = rw on.split at key.returns.chain in
        rw on.is at (first_present N (chain_from N (reverse h ∷ on.before) on.crossing on.after c))

    -- the two notions of a key link are one
    abbrev pub link_key : {h k : ℕ} → KeyLink N d h k → Key N d h k
    link_key k = record {
      onward = k.onward;
      returns = path_best N W k.routing;
      from = k.from;
      from_link = k.from_link;
      before = k.before;
      after = k.after;
      crosses = path_best N W k.crosses;
    }

    pub key_link : {h k : ℕ} → Key N d h k → KeyLink N d h k
    key_link key = record {
      present = key_present key;
      onward = key.onward;
      routing = best_path N W key.returns;
      from = key.from;
      from_link = key.from_link;
      before = key.before;
      after = key.after;
      crosses = best_path N W key.crosses;
    }

    -- K1: the end of a key link from which the path comes back is the near one, so the link is crossed towards the destination
    pub key_towards : {h k : ℕ} (A : List ℕ) (g : ℕ) (C : List ℕ) → Best N All (head N h) (reverse h ∷ (A ++ g ∷ C)) d
        → link g ≡ k → (key : Key N d h k) → key.from ≡ g
    key_towards {h} {k} A g C main is key =
        elim (same_link key.from g (key.from_link ∙ sym is)) [ inl e ↦ e | inr e ↦ absurd (far e) ]
      where
        far : key.from ≡ reverse g → ⊥
        far e =
            let t : Best N (But k) (head N g) (key.before ++ h ∷ key.after) d =
            rw (ap (tail N) e ∙ tail_reverse N g) at key.crosses in
            let off : Over (But k) C = rw is at (over_after N W (reverse h ∷ A) g C main) in
            let rest : Best N (But k) (head N g) C d = best_fewer N (λ x o. tt) off (best_after N (reverse h ∷ A) g C main) in
            let whole : Best N All (head N h) (reverse h ∷ (A ++ g ∷ (key.before ++ h ∷ key.after))) d = rw (unique N W rest t) at main in
            let whole₂ : Best N All (head N h) (reverse h ∷ ((A ++ g ∷ key.before) ++ h ∷ key.after)) d =
            rw (append_assoc A (g ∷ key.before) (h ∷ key.after)) whole in
            twice N W [] (reverse h) (A ++ g ∷ key.before) h key.after (link_reverse h) whole₂

    -- K1: without a key link the best path from its near end comes back to the interface the way that the main path went
    pub key_at : {h : ℕ} (A : List ℕ) (g : ℕ) (C : List ℕ) → Best N All (head N h) (reverse h ∷ (A ++ g ∷ C)) d → Key N d h (link g)
        → (S : List ℕ) × Best N (But (link g)) (tail N g) (back A ++ h ∷ S) d
    key_at {h} A g C main key =
        let t : Best N (But (link g)) (tail N g) (key.before ++ h ∷ key.after) d = rw (key_towards A g C main refl key) at key.crosses in
        let first : Best N All (tail N h) A (tail N g) =
        rw (head_reverse N h) at (best_after N [] (reverse h) A (best_upto N (reverse h ∷ A) g C main)) in
        let off : Over (But (link g)) A = over_right N (reverse h ∷ []) A (over_before N W (reverse h ∷ A) g C main) in
        let same : key.before ≡ back A =
        unique N W (best_upto N key.before h key.after t) (best_back N (best_fewer N (λ x o. tt) off first)) in
        (key.after, rw same at t)

    pub detour_key : {h : ℕ} {S : List ℕ} (D : Detour N d h S) → Key N d h (link D.nearest)
    detour_key {h} {S} D = record {
      onward = D.between ++ D.nearest ∷ D.beyond;
      returns = D.main;
      from = D.nearest;
      from_link = refl;
      before = back D.between;
      after = S;
      crosses = D.round;
    }

    -- K2: with all key links taken out, the best path is the one without the nearest
    pub free_best : {h : ℕ} {S : List ℕ} → Detour N d h S → Best N (Free N d h) (head N h) S d
    free_best {h} {S} D =
        best_fewer N (λ k free e. free (key_link (rw e (detour_key D))))
        (over_by_places S no_key_at)
        (best_after N (back D.between) h S D.round)
      where
        no_key_at : (a : List ℕ) (x : ℕ) (b : List ℕ) → S ≡ a ++ x ∷ b → Free N d h (link x)
        no_key_at a x b e key =
            let t : Best N (But (link D.nearest)) (tail N D.nearest) (back D.between ++ h ∷ (a ++ x ∷ b)) d = rw e at D.round in
            let t₂ : Best N (But (link D.nearest)) (tail N D.nearest) ((back D.between ++ h ∷ a) ++ x ∷ b) d =
            rw (append_assoc (back D.between) (h ∷ a) (x ∷ b)) t in
            let back_off : Over (But (link x)) (back D.between) =
            over_left N (back D.between) (h ∷ a) (over_before N W (back D.between ++ h ∷ a) x b t₂) in
            let other : But (link D.nearest) (link x) = over_at (back D.between ++ h ∷ a) x b t₂.over in
            elim (find (link x) D.beyond) [
              | inl off ↦ not_on
                  (over_append N D.between (D.nearest ∷ D.beyond) (over_unback D.between back_off) (both (λ s. other (sym s)) off))
                  (key_on D.main (link_key key))
              | inr on ↦
                  let free : Free N d h (link on.crossing) =
                  over_at on.before on.crossing on.after (rw on.split at D.last) in
                  free (rw on.is key)
            ]

    -- where the best path without a link goes on over e, the best path from head e avoids that link too, or turns back over e
    pub turn : {g : ℕ} {C M : List ℕ} (T : List ℕ) (e : ℕ) (S : List ℕ) → Best N All (tail N g) (g ∷ C) d
        → Best N (But (link g)) (tail N g) (T ++ e ∷ S) d → Best N All (head N e) M d
        → Over (But (link g)) M ⊎ ((M₂ : List ℕ) × (M ≡ reverse e ∷ M₂))
    turn {g} {C} {M} T e S plain without t =
        elim (find (link g) M) [
          | inl off ↦ inl off
          | inr on ↦ elim (same_link on.crossing g on.is) [
            | inl x ↦ inr (along_it on.before on.after (rw x at on.split))
            | inr x ↦ absurd (against_it on.before on.after (rw x at on.split))
          ]
        ]
      where
        along_it : (a b : List ℕ) → M ≡ a ++ g ∷ b → (M₂ : List ℕ) × (M ≡ reverse e ∷ M₂)
        along_it a b split =
            let t₂ : Best N All (head N e) (a ++ g ∷ b) d = rw split at t in
            let up : Best N (But (link g)) (head N e) a (tail N g) =
            best_fewer N (λ x o. tt) (over_before N W a g b t₂) (best_upto N a g b t₂) in
            let turned : Best N (But (link g)) d (back S ++ reverse e ∷ back T) (tail N g) = rw (back_at T e S) at (best_back N without) in
            let up₂ : Best N (But (link g)) (head N e) (reverse e ∷ back T) (tail N g) =
            rw (tail_reverse N e) at (best_from N (back S) (reverse e) (back T) turned) in
            (back T ++ g ∷ b, split ∙ ap (λ q. q ++ g ∷ b) (unique N W up up₂))

        against_it : (a b : List ℕ) → M ≡ a ++ reverse g ∷ b → ⊥
        against_it a b split =
            let t₂ : Best N All (head N e) (a ++ reverse g ∷ b) d = rw split at t in
            let rest : Best N All (head N g) (reverse g ∷ b) d = rw (tail_reverse N g) at (best_from N a (reverse g) b t₂) in
            let whole : Best N All (tail N g) (g ∷ (reverse g ∷ b)) d = rw (unique N W (best_after N [] g C plain) rest) at plain in
            twice N W [] g [] (reverse g) b (sym (link_reverse g)) whole

    -- an interface after which a best path goes on along the plain best path has no key links
    pub no_key : {X : ℕ → Type 0} {i e : ℕ} {S : List ℕ} (a : List ℕ) → Best N X i (a ++ e ∷ S) d → Best N All (head N e) S d
        → (k : ℕ) → Free N d e k
    no_key {X} {i} {e} {S} a t rest k key =
        let same : S ≡ reverse e ∷ key.onward = unique N W rest (path_best N W key.routing) in
        let t₂ : Best N X i (a ++ e ∷ (reverse e ∷ key.onward)) d = rw same at t in
        twice N W a e [] (reverse e) key.onward (sym (link_reverse e)) t₂

    -- an interface that is the routing entry of its tail has no key links
    pub routing_has_no_key : {i e : ℕ} {p : List ℕ} → Best N All i (e ∷ p) d → (k : ℕ) → Free N d e k
    routing_has_no_key {i} {e} {p} t = no_key [] t (best_after N [] e p t)

    -- nor has one whose head does not route straight back over it
    pub not_back_has_no_key : {h : ℕ} {M : List ℕ} → Best N All (head N h) M d → ((P : List ℕ) → M ≢ reverse h ∷ P)
        → (k : ℕ) → Free N d h k
    not_back_has_no_key t other k key = other key.onward (unique N W t (path_best N W key.routing))

    -- a link past the first two of the path back from e, if no key link of the second, is none of e
    free_before : {h e : ℕ} (A : List ℕ) (g : ℕ) (C : List ℕ) → Best N All (head N h) (reverse h ∷ (A ++ g ∷ C)) d
        → Best N All (head N e) (reverse e ∷ (reverse h ∷ (A ++ g ∷ C))) d → Over (Free N d h) C → Over (Free N d e) C
    free_before {h} {e} A g C main main₂ last = over_by_places C no_key_at
      where
        no_key_at : (a : List ℕ) (y : ℕ) (b : List ℕ) → C ≡ a ++ y ∷ b → Free N d e (link y)
        no_key_at a y b place key =
            let whole : Best N All (head N e) (reverse e ∷ (reverse h ∷ (A ++ g ∷ (a ++ y ∷ b)))) d = rw place at main₂ in
            let whole₂ : Best N All (head N e) (reverse e ∷ ((reverse h ∷ (A ++ g ∷ a)) ++ y ∷ b)) d =
            rw (append_assoc A (g ∷ a) (y ∷ b)) whole in
            let (S, round) = key_at (reverse h ∷ (A ++ g ∷ a)) y b whole₂ (link_key key) in
            let round₂ : Best N (But (link y)) (tail N y) ((back (A ++ g ∷ a) ++ h ∷ []) ++ e ∷ S) d = rw (reverse_reverse h) at round in
            let round₃ : Best N (But (link y)) (tail N y) (back (A ++ g ∷ a) ++ h ∷ (e ∷ S)) d =
            rw (append_assoc (back (A ++ g ∷ a)) (h ∷ []) (e ∷ S)) at round₂ in
            over_at a y b (rw place at last) (key_link (record {
              onward = A ++ g ∷ C;
              returns = main;
              from = y;
              from_link = refl;
              before = back (A ++ g ∷ a);
              after = e ∷ S;
              crosses = round₃;
            }))

    -- K3: one step along the detour
    pub along : {h e : ℕ} {S M : List ℕ} → Detour N d h (e ∷ S) → Best N All (head N e) M d → Best N All (head N e) S d ⊎ Detour N d e S
    along {h} {e} {S} {M} D t =
        elim (turn (back A ++ h ∷ []) e S (best_from N (reverse h ∷ A) g C D.main) round₂ t) [
          | inl off ↦ inl (rw (unique N W (best_fewer N (λ x o. tt) off t) (best_after N (back A ++ h ∷ []) e S round₂)) at t)
          | inr (M₂, split) ↦
              let main₂ = main_from M₂ split in
              inr (record {
                between = reverse h ∷ A;
                nearest = g;
                beyond = C;
                main = main₂;
                round = rw (reverse_reverse h) round₂;
                last = free_before A g C D.main main₂ D.last;
              })
        ]
      where
        A : List ℕ
        A = D.between

        g : ℕ
        g = D.nearest

        C : List ℕ
        C = D.beyond

        round₂ : Best N (But (link g)) (tail N g) ((back A ++ h ∷ []) ++ e ∷ S) d
        round₂ = rw (append_assoc (back A) (h ∷ []) (e ∷ S)) D.round

        start : tail N e ≡ head N h
        start = first_tail N (best_after N (back A) h (e ∷ S) D.round).chain

        main_from : (M₂ : List ℕ) → M ≡ reverse e ∷ M₂ → Best N All (head N e) (reverse e ∷ (reverse h ∷ (A ++ g ∷ C))) d
        main_from M₂ split =
            let t₂ : Best N All (head N e) (reverse e ∷ M₂) d = rw split at t in
            let rest : Best N All (tail N e) M₂ d = rw (head_reverse N e) at (best_after N [] (reverse e) M₂ t₂) in
            let rest₂ : Best N All (head N h) M₂ d = rw start at rest in
            rw (unique N W rest₂ D.main) at t₂

    key_or_free : {h : ℕ} (A : List ℕ) (g : ℕ) (C : List ℕ) → Best N All (head N h) (reverse h ∷ (A ++ g ∷ C)) d
        → Key N d h (link g) ⊎ Free N d h (link g)
    key_or_free {h} A g C main =
        elim (get N W (but? (link g)) (tail N g) d) [
          | inr lacks ↦ inr (λ k. let (S, t) = key_at A g C main (link_key k) in lacks _ t.chain t.over)
          | inl (p, t) ↦ by_path p t
        ]
      where
        -- the best path crosses h, or it does not
        by_path : (p : List ℕ) → Best N (But (link g)) (tail N g) p d → Key N d h (link g) ⊎ Free N d h (link g)
        by_path p t =
            elim (find (link h) p) [
              | inl off ↦ inr (λ k.
                  let (S, round) = key_at A g C main (link_key k) in
                  over_at (back A) h S (rw (unique N W t round) at off) refl)
              | inr on ↦ elim (same_link on.crossing h on.is) [
                | inl e ↦ inl (record {
                  onward = A ++ g ∷ C;
                  returns = main;
                  from = g;
                  from_link = refl;
                  before = on.before;
                  after = on.after;
                  crosses = rw (on.split ∙ ap (λ x. on.before ++ x ∷ on.after) e) at t;
                })
                | inr e ↦ inr (λ k.
                    let (S, round) = key_at A g C main (link_key k) in
                    let t₂ : Best N (But (link g)) (tail N g) (on.before ++ reverse h ∷ on.after) d =
                    rw (on.split ∙ ap (λ x. on.before ++ x ∷ on.after) e) at t in
                    let rest : Best N (But (link g)) (head N h) (reverse h ∷ on.after) d =
                    rw (tail_reverse N h) at (best_from N on.before (reverse h) on.after t₂) in
                    let round₂ : Best N (But (link g)) (tail N g) (back A ++ h ∷ (reverse h ∷ on.after)) d =
                    rw (unique N W (best_after N (back A) h S round) rest) at round in
                    twice N W (back A) h [] (reverse h) on.after (sym (link_reverse h)) round₂)
              ]
            ]

    -- no key link from some place on, or a detour
    keys_past : {h : ℕ} (A C : List ℕ) → Best N All (head N h) (reverse h ∷ (A ++ C)) d
        → Over (Free N d h) C ⊎ ((S : List ℕ) × Detour N d h S)
    keys_past A [] main = inl none
    keys_past {h} A (g ∷ C) main =
        elim (keys_past {h = h} (A ++ g ∷ []) C (rw (append_assoc A (g ∷ []) C) main)) [
          | inr found ↦ inr found
          | inl last ↦ elim (key_or_free A g C main) [
            | inl key ↦
                let (S, round) = key_at A g C main key in
                inr (S, record { between = A; nearest = g; beyond = C; main = main; round = round; last = last })
            | inr free ↦ inl (both free last)
          ]
        ]

    keys_back : {h : ℕ} {P : List ℕ} → Best N All (head N h) (reverse h ∷ P) d
        → ((k : ℕ) → Free N d h k) ⊎ ((S : List ℕ) × Detour N d h S)
    keys_back {h} {P} main =
        elim (keys_past [] P main) [
          | inr found ↦ inr found
          | inl last ↦ inl (λ k key.
              let on = key_on main (link_key key) in
              over_at on.before on.crossing on.after (rw on.split at last) (rw on.is key))
        ]

  -- the best path over all links, or no chain at all
  pub all_path : (i d : ℕ) → ((p : List ℕ) × Best N All i p d) ⊎ ((p : List ℕ) → Chain N i p d → ⊥)
  all_path i d =
      elim (get N W {X = All} (λ k. yes tt) i d) [ inl found ↦ inl found | inr c ↦ inr (λ p t. c p t (over_all (λ k. tt) p)) ]

  -- an interface has no key links, or its head routes straight back over it
  routed_back? : (d h : ℕ) → ((k : ℕ) → Free N d h k) ⊎ ((P : List ℕ) × Best N All (head N h) (reverse h ∷ P) d)
  routed_back? d h =
      elim (all_path (head N h) d) [ inl (M, t) ↦ by_path M t | inr c ↦ inl (λ k key. c _ key.routing.path.chain) ]
    where
      by_path : (M : List ℕ) → Best N All (head N h) M d
          → ((k : ℕ) → Free N d h k) ⊎ ((P : List ℕ) × Best N All (head N h) (reverse h ∷ P) d)
      by_path [] t = inl (not_back_has_no_key t (λ P e. let z : ◌≡◌ {A = ℕ} 0 1 = cc in omega arith))
      by_path (f ∷ M) t =
          elim (ℕ_discrete f (reverse h)) [
            | yes e ↦ inr (M, rw e at t)
            | no n ↦ inl (not_back_has_no_key t (λ P e. n (cc)))
          ]

  -- an interface has no key links, or a detour
  pub keys? : (d h : ℕ) → ((k : ℕ) → Free N d h k) ⊎ ((S : List ℕ) × Detour N d h S)
  keys? d h = elim (routed_back? d h) [ inl free ↦ inl free | inr (P, main) ↦ keys_back main ]

  -- whether a link is key can be told: a key link lies on the best path of the head, and is tried at its place there
  pub free? : (d h k : ℕ) → Dec (Free N d h k)
  free? d h k =
      elim (routed_back? d h) [
        | inl free ↦ yes (free k)
        | inr (P, main) ↦ elim (find k P) [
          | inl off ↦ yes (λ key. not_on off (key_on main (link_key key)))
          | inr on ↦ elim (key_or_free on.before on.crossing on.after (rw on.split at main)) [
            | inl key ↦ no (λ free. free (rw on.is at (key_link key)))
            | inr free ↦ yes (rw on.is at free)
          ]
        ]
      ]
