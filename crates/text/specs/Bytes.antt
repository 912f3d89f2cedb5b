-- A number as a batch has it: bytes, low byte first.
use Rattle.std.specs.Prelude.{ℕ, ◌+◌, ◌*◌, ◌%◌, ◌^◌, List, [], ◌∷◌}

-- the number moved up by one byte, with this byte below it; what goes past 2^64 falls away
abbrev pub shifted_by : ℕ → ℕ → ℕ
shifted_by value byte = value % 2 ^ 56 * 256 + byte

unfoldable pub number_of : List ℕ → ℕ
number_of [] = 0
number_of (byte ∷ above) = shifted_by (number_of above) byte
