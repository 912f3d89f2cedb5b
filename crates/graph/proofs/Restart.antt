-- Columns that begin with final entries. An entry is final if it is the cost of a best chain: a sound column has nothing smaller
-- there, so the entry stays as it is through all rounds, and no offer to it wins. So a link of which both ends were final when the
-- rounds began need make no offers. A column of final entries is finished if every node that has a path has an entry.
-- From a finished column over the links X one over fewer links, Y, is started by blanking the entries whose best chains are not over
-- Y. The chains of the others are still there and still least (B4), and their rests are kept with them; so what is left is final and
-- sound, and the destination's entry is among it. Where nothing was blanked, there is nothing to do.
use mathlib.Core.Path.{◌≡◌, refl, sym, ◌∙◌}
use mathlib.Core.Logic.{◌⊎◌, inl, inr, ◌≢◌}
use mathlib.Core.List.{List, [], ◌∷◌}
use mathlib.Core.Option.{Option, none, some}
use Prim.Native.Nat.{ℕ, ◌+◌, ◌≤◌}
use native.Mathlib.Omega.{arith}
use Rattle.graph.specs.Network.{Network, WellFormed, link, tail, head}
use Rattle.graph.specs.Path.{Chain, stop, step, Path, Over, both}
use Rattle.graph.proofs.Chain.{link_cost, cost, Best, chain_nil, first_present, first_tail, first_over, over_weaken}
use Rattle.graph.proofs.Chain.{best_from, best_after, best_fewer}
use Rattle.graph.proofs.Simple.{cut}
use Rattle.graph.proofs.Rounds.{Column, AtMost, Falls, Rests, ended, rest, Sound, Complete, Round, Passed, Finished}
use Rattle.graph.proofs.Rounds.{no_entry, falls_same, at_most_falls, known_falls, complete_start}
use Rattle.graph.proofs.Finished.{Settled, Toward, Led, finished_best, finished_cost, finished_here, first_kept}

-- every entry of the column is final: the cost of a best chain
abbrev pub AllFinal : Network → (ℕ → Type 0) → ℕ → Column → Type 0
AllFinal N X d G = (i c : ℕ) → G i ≡ some c → Settled N X d i c

-- D' is D without the entries whose best chains are not over Y
pub record Blanked (N : Network) (X Y : ℕ → Type 0) (d : ℕ) (D D' : Column) : Type 0 where
  pub nothing : (i : ℕ) → D i ≡ none → D' i ≡ none
  pub blank : (i : ℕ) (p : List ℕ) → Best N X i p d → (Over Y p → ⊥) → D' i ≡ none
  pub kept : (i : ℕ) (p : List ℕ) → Best N X i p d → Over Y p → D' i ≡ D i

-- whether a chain is over the links left in can be told
pub over? : {Y : ℕ → Type 0} → ((k : ℕ) → Dec (Y k)) → (p : List ℕ) → Dec (Over Y p)
over? Y? [] = yes Over.none
over? {Y} Y? (f ∷ p) =
    elim (Y? (link f)) [
      | no n ↦ no (λ o. n (first o))
      | yes y ↦ elim (over? Y? p) [ no n ↦ no (λ o. n (further o)) | yes o ↦ yes (both y o) ]
    ]
  where
    first : Over Y (f ∷ p) → Y (link f)
    first (both y o) = y

    further : Over Y (f ∷ p) → Over Y p
    further (both y o) = o

module _ (N : Network) (X : ℕ → Type 0) (d : ℕ) where
  -- no chain costs less than a final entry
  final_least : {i c : ℕ} {p : List ℕ} → Settled N X d i c → Chain N i p d → Over X p → c ≤ cost N p
  final_least s c o = omega (arith, s.costs, s.best.least c o)

  -- the rests of a best chain are best, so it is enough to know the entries of nodes with best chains
  rests_of_best : {Y : ℕ → Type 0} {D : Column} → ((i : ℕ) (p : List ℕ) → Best N X i p d → Over Y p → AtMost (D i) (cost N p))
      → {i : ℕ} (p : List ℕ) → Best N X i p d → Over Y p → Rests N d D p
  rests_of_best entry {i} [] b o = ended (rw (chain_nil N b.chain) at (entry i [] b o))
  rests_of_best entry {i} (f ∷ p) b (both y o) =
      rest (entry (tail N f) (f ∷ p) (best_from N [] f p b) (both y o)) (rests_of_best entry {i = head N f} p (best_after N [] f p b) o)

  -- offers to final entries are never taken: a link with two such ends may be passed over
  pub round_final : (P P' : ℕ → Type 0) (k : ℕ) → ((l : ℕ) → P' l → P l ⊎ (l ≡ k)) → {G D₀ D : Column} → AllFinal N X d G → Falls G D₀
      → Sound N X d D₀ → ((g : ℕ) → link g ≡ k → (c : ℕ) × (G (tail N g) ≡ some c))
      → Round N X d (Passed N X P) D₀ D → Round N X d (Passed N X P') D₀ D
  round_final P P' k next {G} {D₀} {D} final falls sound ends r =
      record {
        sound = r.sound;
        falls = r.falls;
        taken = λ g t c e. elim (next (link g) t.0) [
          | inl passed ↦ r.taken g (passed, t.1, t.2) c e
          | inr same ↦ offered g t.1 t.2 c e (ends g same)
        ];
      }
    where
      offered : (g : ℕ) → N.Present (link g) → X (link g) → (c : ℕ) → D₀ (head N g) ≡ some c → (a : ℕ) × (G (tail N g) ≡ some a)
          → AtMost (D (tail N g)) (link_cost N (link g) + c)
      offered g present within c e (a, q) =
          let k = sound (head N g) c e in
          let least = final_least (final (tail N g) a q) (step present refl k.chain) (both within k.over) in
          let b = at_most_falls (tail N g) a r.falls (falls (tail N g) a q) in
          record { value = b.value; is = b.is; at_most = omega (arith, b.at_most, least, k.costs) }

  -- a column is finished if its entries are final and every node that has a path has an entry
  pub final_finished : WellFormed N → {D : Column} → AllFinal N X d D
      → ((i : ℕ) (p : List ℕ) → Path N i p d → Over X p → (c : ℕ) × (D i ≡ some c)) → Finished N X d D
  final_finished W {D} final has = record {
    sound = λ i c e.
        let s = final i c e in
        record {
          way = s.way;
          chain = s.best.chain;
          over = s.best.over;
          costs = s.costs;
          once = s.once;
          rests = rests_of_best (λ x q b o. least x q b.chain o) s.way s.best s.best.over;
        };
    least = least;
  }
    where
      least : (i : ℕ) (p : List ℕ) → Chain N i p d → Over X p → AtMost (D i) (cost N p)
      least i p c o =
          let t = cut N W c o in
          let entry = has i t.way t.path t.over in
          record { value = entry.0; is = entry.1; at_most = final_least (final i entry.0 entry.1) c o }

  -- and it keeps the first interfaces of the best chains
  pub finished_led : {D : Column} (F : ℕ → ℕ) → Finished N X d D
      → ((i c : ℕ) → i ≢ d → D i ≡ some c → (p : List ℕ) × Best N X i (F i ∷ p) d) → Led N X d D F
  finished_led {D} F t first i c away e =
      let s = first i c away e in
      let p = s.0 in
      let b = s.1 in
      let same : c ≡ cost N (F i ∷ p) = cc (e, finished_cost N X d D t b) in
      record {
        present = first_present N b.chain;
        within = first_over N b.over;
        at_tail = first_tail N b.chain;
        onward = cost N p;
        at_head = record { value = cost N p; is = finished_cost N X d D t (best_after N [] (F i) p b); at_most = omega arith };
        sum = omega arith;
      }

  -- Y leaves in fewer links than X, or as many
  module _ (Y : ℕ → Type 0) (Y? : (k : ℕ) → Dec (Y k)) (less : (l : ℕ) → Y l → X l) (D D' : Column) (t : Finished N X d D)
      (blanked : Blanked N X Y d D D') where
    -- an entry is left only where the best chain is over Y, and it is as it was
    restart_over : (i c : ℕ) (p : List ℕ) → D' i ≡ some c → Best N X i p d → Over Y p
    restart_over i c p e b = elim (over? Y? p) [ yes o ↦ o | no n ↦ absurd (no_entry (blanked.blank i p b n) e) ]

    restart_entry : (i c : ℕ) → D' i ≡ some c → D i ≡ some c
    restart_entry i c e = go (D i) refl
      where
        go : (o : Option ℕ) → D i ≡ o → D i ≡ some c
        go none q = absurd (no_entry (blanked.nothing i q) e)
        go (some a) q =
            let s = finished_best N X d D t i a q in
            sym (blanked.kept i s.way s.best (restart_over i c s.way e s.best)) ∙ e

    restart_at : (i : ℕ) (p : List ℕ) → Best N X i p d → Over Y p → AtMost (D' i) (cost N p)
    restart_at i p b o =
        record { value = cost N p; is = blanked.kept i p b o ∙ finished_cost N X d D t b; at_most = omega arith }

    pub restart_final : AllFinal N Y d D'
    restart_final i c e =
        let s = finished_best N X d D t i c (restart_entry i c e) in
        let o = restart_over i c s.way e s.best in
        record { way = s.way; best = best_fewer N less o s.best; costs = s.costs; once = s.once }

    pub restart_sound : Sound N Y d D'
    restart_sound i c e =
        let s = finished_best N X d D t i c (restart_entry i c e) in
        let o = restart_over i c s.way e s.best in
        record {
          way = s.way;
          chain = s.best.chain;
          over = o;
          costs = s.costs;
          once = s.once;
          rests = rests_of_best restart_at s.way s.best o;
        }

    pub restart_complete : Complete N Y d 0 D'
    restart_complete =
        let b : Best N X d [] d = record { chain = stop refl; over = Over.none; least = λ {q} u v. omega arith } in
        complete_start N Y d D' (blanked.kept d [] b Over.none ∙ finished_here N X d D t)

    pub restart_led : (F : ℕ → ℕ) → Led N X d D F → Led N Y d D' F
    restart_led F l i c away e =
        let q = restart_entry i c e in
        let s = first_kept N X d D t F l i c away q in
        go s.0 s.1 (restart_over i c (F i ∷ s.0) e s.1)
      where
        go : (p : List ℕ) → Best N X i (F i ∷ p) d → Over Y (F i ∷ p) → Toward N Y D' i c (F i)
        go p b (both y o) =
            let same : c ≡ cost N (F i ∷ p) = cc (restart_entry i c e, finished_cost N X d D t b) in
            record {
              present = first_present N b.chain;
              within = y;
              at_tail = first_tail N b.chain;
              onward = cost N p;
              at_head = restart_at (head N (F i)) p (best_after N [] (F i) p b) o;
              sum = omega arith;
            }

    -- where nothing was blanked, the column is finished as it is
    pub restart_still : ((i : ℕ) → D' i ≡ D i) → Finished N Y d D
    restart_still same =
        record {
          sound = λ i c e. known_falls N Y d (falls_same (λ j. sym (same j))) (restart_sound i c (same i ∙ e));
          least = λ i p c o. t.least i p c (over_weaken N less o);
        }
