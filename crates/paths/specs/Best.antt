-- What `best_path` promises.
use Rattle.std.specs.Prelude.{ℕ, ◌≡◌, ◌≢◌, List, leb, Result, Ok, Err}
use Rattle.graph.specs.Network.{Network}
use Rattle.graph.specs.Path.{Path, BestPath, Lies, Over, All, weight_sum}
use Rattle.graph.specs.Set.{SetOf}
use Rattle.net.specs.Refusals.{accepted, node_number}
use Rattle.net.specs.Check.{check_network, or_else, refused_if}
use Rattle.net.specs.Entry.{EntryByte}
use Rattle.net.specs.Rows.{Rows, network_of}
use Rattle.net.specs.Verdict.{Verdict}
use Rattle.net.specs.Told.{number_of}
use Rattle.net.specs.declared.refusal.PlacedRefusal.{PlacedRefusal}
use Rattle.paths.specs.declared.best.BestPath.{BestPath as Found}

-- the network's refusals, then 11, "source or destination not below the node count"
unfoldable pub best_path_verdict : Rows → ℕ → ℕ → Verdict
best_path_verdict R source destination =
    or_else (check_network R) (or_else (refused_if (leb R.nodes source) node_number) (refused_if (leb R.nodes destination) node_number))

-- weight sum and links of the best path over all links; both 0 where there is no path
pub data Measures (N : Network) (s d sum set : ℕ) : Type 0 where
  of_path : {p : List ℕ} → BestPath N All s p d → sum ≡ weight_sum N p → SetOf N.links (λ k. Lies k p) set → Measures N s d sum set
  of_none : ((p : List ℕ) → Path N s p d → Over All p → ⊥) → sum ≡ 0 → set ≡ 0 → Measures N s d sum set

-- number and place of the refusal, weight sum, links and routing entry
pub record Answer : Type 0 where
  pub number : ℕ
  pub place : ℕ
  pub sum : ℕ
  pub links : ℕ
  pub entry : ℕ

-- what the entry's answer tells of them: with a refusal no more than number and place
abbrev pub best_path_told : Result Found PlacedRefusal → Answer
best_path_told (Ok found) = record { number = accepted; place = 0; sum = found.sum; links = found.links; entry = found.entry }
best_path_told (Err refused) = record { number = number_of refused.refusal; place = refused.place; sum = 0; links = 0; entry = 0 }

-- "Refused answers carry 0 in every part not named here"; else the best path's measures, and its routing entry: "the routing look-up now
-- promises a link number" (document 02, L5)
pub record BestPathAnswer (R : Rows) (s d : ℕ) (r : Answer) : Type 0 where
  pub number : r.number ≡ (best_path_verdict R s d).number
  pub place : r.place ≡ (best_path_verdict R s d).place
  pub refused : r.number ≢ accepted → (r.sum ≡ 0) × (r.links ≡ 0) × (r.entry ≡ 0)
  pub measures : r.number ≡ accepted → Measures (network_of R) s d r.sum r.links
  pub routing : r.number ≡ accepted → EntryByte (network_of R) All s d r.entry
