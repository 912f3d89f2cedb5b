-- The test on costs tells the key links. Over all links the first interface of node i is its routing entry. Without link k, the best
-- path of an end of k has the link of h exactly if the set of its cost has; it crosses h from j to i, and not from i to j, exactly if the
-- cost falls from j to i, since parts of best paths are best: the path on from j is the link and the path on from i. And a key link lies
-- on i's own best path over all links (graph's K1), so that its cost shows which links may be key at all.
use Prim.Native.Nat.{ℕ, ◌+◌, ◌*◌, ◌<◌}
use mathlib.Core.Bool.{true}
use mathlib.Core.Path.{◌≡◌, refl, sym, ap, ◌∙◌, subst}
use mathlib.Core.Logic.{◌⊎◌, inl, inr, ◌≢◌, ◌↔◌}
use mathlib.Core.List.{List, ◌∷◌, ◌++◌}
use native.Mathlib.Omega.{arith}
use borrow.Author.Tests.{eqb-true, eq-eqb}
use lib.ListN.{get_or}
use Rattle.graph.specs.Network.{Network, WellFormed, link, reverse, tail, head}
use Rattle.graph.specs.Path.{All, But, Lies, Lies.here as on_first, Lies.later as on_later}
use Rattle.graph.specs.Entries.{KeyLink}
use Rattle.graph.proofs.Interfaces.{same_link, tail_reverse, head_reverse, link_from_low, link_from_high, tail_from_low, tail_from_high}
use Rattle.graph.proofs.Interfaces.{reverse_from_low, head_node, tail_node}
use Rattle.graph.proofs.Chain.{Best, On, best_from, best_after, link_cost_positive}
use Rattle.graph.proofs.Agreement.{path_best, best_path}
use Rattle.graph.proofs.Keys.{key_on, link_key}
use Rattle.graph.proofs.Entries.{apart}
use Rattle.graph.proofs.Finished.{on_lies, lies_on}
use Rattle.net.specs.Rows.{Rows, Present, network_of}
use Rattle.paths.specs.inner.Cost.{unknown, is_known, before}
use Rattle.paths.specs.inner.Column.{entry_at, Shows, BestColumn}
use Rattle.paths.specs.declared.cost.Cost.{Cost}
use Rattle.paths.proofs.CostNumber.{Lower}
use Rattle.paths.proofs.ColumnEntry.{known_true, Measured, shown_known, shown_best, shown_onward, measured_link, lower_less}
use Rattle.tables.specs.inner.KeyTest.{key_test, crosses_link}
use Rattle.tables.proofs.Tests.{both_true, either_true, crosses_true, before_true}

-- the parts of the test
pub record Passed (h : ℕ) (whole after ahead one other : Cost) : Type 0 where
  pub known : whole.sum < unknown
  pub returns : whole.first ≡ reverse h
  pub falls : Lower after ahead
  pub on : (crosses_link one (link h) ≡ true) ⊎ (crosses_link other (link h) ≡ true)

passed : (h : ℕ) (whole after ahead one other : Cost)
    → (key_test h whole after ahead one other ≡ true) ↔ Passed h whole after ahead one other
unfolding key_test
passed h whole after ahead one other = (to, from)
  where
    to : key_test h whole after ahead one other ≡ true → Passed h whole after ahead one other
    to e =
        let t = (both_true (is_known whole) _).0 e in
        let u = (both_true _ _).0 t.1 in
        let v = (both_true (before after ahead) _).0 u.1 in
        record {
          known = (known_true whole).0 t.0;
          returns = eqb-true _ _ u.0;
          falls = (before_true after ahead).0 v.0;
          on = (either_true (crosses_link one (link h)) _).0 v.1;
        }

    from : Passed h whole after ahead one other → key_test h whole after ahead one other ≡ true
    from t =
        (both_true (is_known whole) _).1 (
          (known_true whole).1 t.known,
          (both_true _ _).1 (
            eq-eqb _ _ t.returns,
            (both_true (before after ahead) _).1 (
              (before_true after ahead).1 t.falls,
              (either_true (crosses_link one (link h)) _).1 t.on,
            ),
          ),
        )

module _ (N : Network) (W : WellFormed N) where
  -- an interface has no key links for its own head
  pub key_not_at_destination : {d h k : ℕ} → head N h ≡ d → KeyLink N d h k → ⊥
  key_not_at_destination e key = apart N W (path_best N W key.routing) e

  -- a cost crosses the links that lie on the chain behind it
  module _ {X : ℕ → Type 0} {i d : ℕ} {c : Cost} where
    measured_crosses : {p : List ℕ} → Measured N X i d c p → {k : ℕ} → Lies k p → crosses_link c k ≡ true
    measured_crosses m {k} lies = (crosses_true c k).1 (m.known, (measured_link N W m k).1 lies)

    shown_crosses : Shows N X i d c → {k : ℕ} → crosses_link c k ≡ true → (p : List ℕ) × Measured N X i d c p × Lies k p
    shown_crosses shown {k} crosses =
        let (known, has) = (crosses_true c k).0 crosses in
        let (p, m) = shown_known N W shown known in
        (p, m, (measured_link N W m k).0 has)

    -- it crosses none at the destination itself
    pub crossed_apart : Shows N X i d c → (k : ℕ) → crosses_link c k ≡ true → i ≢ d
    crossed_apart shown k crosses = let (p, m, lies) = shown_crosses shown crosses in not_empty m.best lies
      where
        not_empty : {k : ℕ} {p : List ℕ} → Best N X i p d → Lies k p → i ≢ d
        not_empty t (on_first e) = apart N W t
        not_empty t (on_later l) = apart N W t

  -- so a key link is crossed by the cost of the interface's head
  pub key_crossed : {d h k : ℕ} {whole : Cost} → Shows N All (head N h) d whole → KeyLink N d h k → crosses_link whole k ≡ true
  key_crossed shown key =
      let main = path_best N W key.routing in
      measured_crosses (shown_best N W shown main) (on_later (on_lies (key_on N W main (link_key N W key))))

  module _ {X : ℕ → Type 0} {d : ℕ} {after ahead : Cost} (h : ℕ)
      (at_head : Shows N X (head N h) d after) (at_tail : Shows N X (tail N h) d ahead) where
    -- along an interface that a best path crosses the cost falls
    crossing_falls : {u : ℕ} (a b : List ℕ) → Best N X u (a ++ h ∷ b) d → Lower after ahead
    crossing_falls a b t =
        (lower_less N W (shown_best N W at_head (best_after N a h b t)) (shown_best N W at_tail (best_from N a h b t))).1
        (omega (arith, link_cost_positive N (link h)))

    -- a best path that has the link crosses it in the direction in which the cost falls
    falling_crosses : {u : ℕ} {p : List ℕ} → Best N X u p d → On (link h) p → Lower after ahead
        → (a : List ℕ) × (b : List ℕ) × (p ≡ a ++ h ∷ b)
    falling_crosses {u} {p} t on falls =
        by_direction_lem on.before on.crossing on.after on.split (same_link on.crossing h on.is)
      where
        by_direction_lem : (a : List ℕ) (g : ℕ) (b : List ℕ) → p ≡ a ++ g ∷ b → (g ≡ h) ⊎ (g ≡ reverse h)
            → (a : List ℕ) × (b : List ℕ) × (p ≡ a ++ h ∷ b)
        by_direction_lem a g b e (inl q) = (a, b, rw q at e)
        by_direction_lem a g b e (inr q) =
            let t₂ : Best N X u (a ++ reverse h ∷ b) d = rw q at (rw e at t) in
            let from_head : Best N X (head N h) (reverse h ∷ b) d = rw (tail_reverse N h) at (best_from N a (reverse h) b t₂) in
            let from_tail : Best N X (tail N h) b d = rw (head_reverse N h) at (best_after N a (reverse h) b t₂) in
            let less = (lower_less N W (shown_best N W at_head from_head) (shown_best N W at_tail from_tail)).0 falls in
            absurd (omega (arith, link_cost_positive N (link (reverse h))))

  module _ (h : ℕ) {d k : ℕ} {whole after ahead one other : Cost} (present : N.Present k) (away : head N h ≢ d)
      (main : Shows N All (head N h) d whole)
      (at_head : Shows N (But k) (head N h) d after) (at_tail : Shows N (But k) (tail N h) d ahead)
      (at_low : Shows N (But k) (N.low k) d one) (at_high : Shows N (But k) (N.high k) d other) where
    -- a passed test with the link on the path of the tail of `from`
    key_from : {c : Cost} (from : ℕ) → link from ≡ k → Shows N (But k) (tail N from) d c
        → crosses_link c (link h) ≡ true → whole.sum < unknown → whole.first ≡ reverse h → Lower after ahead
        → KeyLink N d h k
    key_from from is shown crosses routed returns falls =
        let (P, m) = shown_onward N W main away routed in
        let (p, s, lies) = shown_crosses shown crosses in
        let (a, b, split) = falling_crosses h at_head at_tail s.best (lies_on lies) falls in
        record {
          present = present;
          onward = P;
          routing = best_path N W (subst (λ f. Best N All (head N h) (f ∷ P) d) returns m.best);
          from = from;
          from_link = is;
          before = a;
          after = b;
          crosses = best_path N W (rw split at s.best);
        }

    passed_key : Passed h whole after ahead one other → KeyLink N d h k
    passed_key t =
        elim t.on [
          | inl s ↦
              key_from {c = one} (2 * k) (link_from_low k) (rw (tail_from_low k N) at_low) s t.known t.returns t.falls
          | inr s ↦
              key_from {c = other} (2 * k + 1) (link_from_high k) (rw (tail_from_high k N) at_high) s t.known t.returns t.falls
        ]

    -- the entry of the end from which the path comes has the link
    key_on_path : {c : Cost} {u : ℕ} (a b : List ℕ) → Shows N (But k) u d c → Best N (But k) u (a ++ h ∷ b) d
        → crosses_link c (link h) ≡ true
    key_on_path a b shown t =
        let on : On (link h) (a ++ h ∷ b) = record { before = a; crossing = h; after = b; split = refl; is = refl } in
        measured_crosses (shown_best N W shown t) (on_lies on)

    key_passed : KeyLink N d h k → Passed h whole after ahead one other
    key_passed key =
        let m = shown_best N W main (path_best N W key.routing) in
        let t = path_best N W key.crosses in
        record {
          known = m.known;
          returns = m.first _ _ refl;
          falls = crossing_falls h at_head at_tail key.before key.after t;
          on = elim (same_link key.from (2 * k) (key.from_link ∙ sym (link_from_low k))) [
            | inl e ↦
                let low : tail N key.from ≡ N.low k = ap (tail N) e ∙ tail_from_low k N in
                inl (key_on_path key.before key.after at_low (rw low at t))
            | inr e ↦
                let high : tail N key.from ≡ N.high k = ap (tail N) (e ∙ reverse_from_low k) ∙ tail_from_high k N in
                inr (key_on_path key.before key.after at_high (rw high at t))
          ];
        }

    key_test_lem : (key_test h whole after ahead one other ≡ true) ↔ KeyLink N d h k
    key_test_lem =
        let parts = passed h whole after ahead one other in
        (λ e. passed_key (parts.0 e), λ key. parts.1 (key_passed key))

-- the test on the entries of the two columns, over all links and without link k
pub key_test_by_columns : (R : Rows) → WellFormed (network_of R) → {d k : ℕ} (all without : List Cost) → Present R k
    → BestColumn (network_of R) All d all → BestColumn (network_of R) (But k) d without
    → (h : ℕ) → Present R (link h) → {i j : ℕ} → head (network_of R) h ≡ i → tail (network_of R) h ≡ j → i ≢ d
    → (key_test h (entry_at all i) (entry_at without i) (entry_at without j)
    (entry_at without (get_or R.low k 0)) (entry_at without (get_or R.high k 0)) ≡ true)
    ↔ KeyLink (network_of R) d h k
key_test_by_columns R W {k = k} all without present whole less h up {i} {j} enters leaves away =
    let N = network_of R in
    let node : i < R.nodes = rw enters at (head_node N W h up) in
    let node₂ : j < R.nodes = rw leaves at (tail_node N W h up) in
    key_test_lem N W h present (rw enters away)
    (rw enters (whole.shows i node)) (rw enters (less.shows i node)) (rw leaves (less.shows j node₂))
    (less.shows (get_or R.low k 0) (W.low_node k present)) (less.shows (get_or R.high k 0) (W.high_node k present))
