-- How a report names a failure (document 01, "Report program"; document 02, L5). Each definition stands under the words that it says.
use Rattle.std.specs.Prelude.{ℕ, zero, suc, ◌<◌, Bool, false, not, ◌≡◌, ◌≢◌, List, length, get_or, eqb}
use Rattle.net.specs.Choice.{pick, either, both}
use Rattle.net.specs.declared.failure.Failure.{Failure}
use Rattle.net.specs.declared.failure.Failure.TheVariants.{Nothing, One}
use Rattle.naming.specs.declared.FailureName.{FailureName}
use Rattle.naming.specs.declared.FailureName.TheVariants.{NoFailure, Ends, Twin}

-- "Two fibres between the same sites": link l is another link than link k, and joins the same two nodes
pub record Parallel (low high : List ℕ) (k l : ℕ) : Type 0 where
  pub stands : l < length low
  pub another : l ≢ k
  pub same_low : get_or low l 0 ≡ get_or low k 0
  pub same_high : get_or high l 0 ≡ get_or high k 0

-- the same as a test, of a link l that stands in the rows
unfoldable pub is_twin : List ℕ → List ℕ → ℕ → ℕ → Bool
is_twin low high k l = both (not (eqb l k)) (both (eqb (get_or low l 0) (get_or low k 0)) (eqb (get_or high l 0) (get_or high k 0)))

-- whether the test holds of some number below the count
unfoldable pub any_below : ℕ → (ℕ → Bool) → Bool
any_below zero test = false
any_below (suc count) test = either (any_below count test) (test count)

-- "a link of a parallel pair"
unfoldable pub has_twin : List ℕ → List ℕ → ℕ → Bool
has_twin low high k = any_below (length low) (is_twin low high k)

-- "Then the failure": `none`, or the failed link as `0-1`; "a report names a link of a parallel pair by ends and a following `/` and its
-- link number"
unfoldable pub name_of : List ℕ → List ℕ → Failure → FailureName
name_of low high Nothing = NoFailure
name_of low high (One link) =
    let k = link.0 in
    pick (has_twin low high k) (Twin (get_or low k 0) (get_or high k 0) k) (Ends (get_or low k 0) (get_or high k 0))
