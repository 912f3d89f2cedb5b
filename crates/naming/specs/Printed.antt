-- How a report writes the name of a failure.
use Rattle.std.specs.Prelude.{ℕ, List, ◌++◌, codes, decimal}
use Rattle.naming.specs.declared.FailureName.{FailureName}
use Rattle.naming.specs.declared.FailureName.TheVariants.{NoFailure, Ends, Twin}

-- a link by its ends, as `0-1`
abbrev pub ends_text : ℕ → ℕ → List ℕ
ends_text low high = decimal low ++ (codes "-" ++ decimal high)

-- one of two or more by its own number too, as `0-1/3`
abbrev pub twin_text : ℕ → ℕ → ℕ → List ℕ
twin_text low high number = ends_text low high ++ (codes "/" ++ decimal number)

abbrev pub name_text : FailureName → List ℕ
name_text NoFailure = codes "none"
name_text (Ends low high) = ends_text low high
name_text (Twin low high number) = twin_text low high number
