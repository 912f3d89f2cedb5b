-- A lent buffer after part of it was written.
use Rattle.std.specs.Prelude.{ℕ, ◌+◌, List, ◌++◌, length, take, drop}

-- a buffer with other bytes put over its own from a place on
unfoldable pub overwritten : List ℕ → ℕ → List ℕ → List ℕ
overwritten space at bytes = take at space ++ (bytes ++ drop (at + length bytes) space)
