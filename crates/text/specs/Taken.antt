-- What a reader has given where it did not fill the bytes: after an error some, and where the input ended fewer than were lent. They stand
-- at the front of those that were lent.
use Rattle.std.specs.Prelude.{ℕ, ◌<◌, ◌≤◌, List, length, take}
use Rattle.std.specs.declared.option.Option.{Option}
use Rattle.std.specs.Io.KnownBytes.{Consumes}

abbrev pub TakesSome : Option (List ℕ) → Option (List ℕ) → List ℕ → Type 0
TakesSome old new bytes = (n : ℕ) × (n ≤ length bytes) × Consumes old new (take n bytes)

abbrev pub TakesFewer : Option (List ℕ) → Option (List ℕ) → List ℕ → Type 0
TakesFewer old new bytes = (n : ℕ) × (n < length bytes) × Consumes old new (take n bytes)
