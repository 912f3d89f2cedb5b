-- Document 01's best path and the working notion, the chain of least cost, are the same: a chain is cut to a path that costs no
-- more, a best chain is a path, and the better of two paths costs less. So what is proved of best chains holds of best paths, here
-- in document 01's words.
use mathlib.Core.Path.{◌≡◌, sym, ap}
use mathlib.Core.Logic.{◌⊎◌, inl, inr}
use mathlib.Core.List.{List, ◌∷◌, ◌++◌}
use Prim.Native.Nat.{ℕ}
use native.Mathlib.Omega.{arith}
use Rattle.graph.specs.Network.{Network, WellFormed, tail, head}
use Rattle.graph.specs.Path.{Path, Over, BestPath}
use Rattle.graph.proofs.Chain.{Best, cost, back, best_upto, best_from, best_after, best_back, over_weaken}
use Rattle.graph.proofs.Simple.{Cut, cut, simple, get}
use Rattle.graph.proofs.Order.{path_better, rule_for_equal_paths}
use Rattle.graph.proofs.Unique.{unique}

-- B2: the parts of a best path round one of its interfaces are best
pub record BestParts (N : Network) (X : ℕ → Type 0) (i : ℕ) (a : List ℕ) (f : ℕ) (b : List ℕ) (d : ℕ) : Type 0 where
  pub upto : BestPath N X i a (tail N f)
  pub from : BestPath N X (tail N f) (f ∷ b) d
  pub after : BestPath N X (head N f) b d

module _ (N : Network) (W : WellFormed N) where
  pub path_best : {X : ℕ → Type 0} {i d : ℕ} {p : List ℕ} → BestPath N X i p d → Best N X i p d
  path_best {X} {i} {d} {p} t = record {
    chain = t.path.chain;
    over = t.over;
    least = λ {q} c o.
        let r : Cut N X i q d = cut N W c o in
        elim (t.best r.way r.path r.over) [
          | inl e ↦ omega (arith, ap (cost N) e, r.cheaper)
          | inr b ↦ omega (arith, (path_better N W t.path r.path).0 b, r.cheaper)
        ];
  }

  pub best_path : {X : ℕ → Type 0} {i d : ℕ} {p : List ℕ} → Best N X i p d → BestPath N X i p d
  best_path {i = i} {d = d} {p = p} t =
      let path : Path N i p d = simple N W t in
      record {
        path = path;
        over = t.over;
        best = λ q s o.
            elim ((rule_for_equal_paths N W i d).comparable p q path s) [
              | inl e ↦ inl (sym e)
              | inr (inl b) ↦ inr b
              | inr (inr b) ↦ absurd (omega (arith, (path_better N W s path).0 b, t.least s.chain o))
            ];
      }

  -- "Read from either end, the best path is the same chain."
  pub either_end : {X : ℕ → Type 0} {i d : ℕ} {p : List ℕ} → BestPath N X i p d → BestPath N X d (back p) i
  either_end t = best_path (best_back N (path_best t))

  pub best_path_one : {X : ℕ → Type 0} {i d : ℕ} {p q : List ℕ} → BestPath N X i p d → BestPath N X i q d → p ≡ q
  best_path_one s t = unique N W (path_best s) (path_best t)

  pub best_path_parts : {X : ℕ → Type 0} {i d : ℕ} (a : List ℕ) (f : ℕ) (b : List ℕ)
      → BestPath N X i (a ++ f ∷ b) d → BestParts N X i a f b d
  best_path_parts {X} {i} {d} a f b t =
      let r : Best N X i (a ++ f ∷ b) d = path_best t in
      record {
        upto = best_path (best_upto N a f b r);
        from = best_path (best_from N a f b r);
        after = best_path (best_after N a f b r);
      }

  -- B4
  pub best_path_fewer : {X Y : ℕ → Type 0} {i d : ℕ} {p : List ℕ} → ((k : ℕ) → Y k → X k) → Over Y p
      → BestPath N X i p d → BestPath N Y i p d
  best_path_fewer f o t = record { path = t.path; over = o; best = λ q s r. t.best q s (over_weaken N f r) }

  -- B5
  pub best_path_exists : {X : ℕ → Type 0} → ((k : ℕ) → Dec (X k)) → (i d : ℕ)
      → ((p : List ℕ) × BestPath N X i p d) ⊎ ((p : List ℕ) → Path N i p d → Over X p → ⊥)
  best_path_exists left_in? i d =
      elim (get N W left_in? i d) [
        | inl t ↦ inl (t.0, best_path t.1)
        | inr n ↦ inr (λ p s o. n p s.chain o)
      ]
