-- What the programs write of numbers and bytes.
use Rattle.std.specs.Prelude.{ℕ, ◌+◌, ◌/◌, ◌%◌, List, [], ◌∷◌, ◌++◌, codes, decimal, cond, nat_lt}
use Rattle.net.specs.Told.{number_of}
use Rattle.net.specs.declared.refusal.PlacedRefusal.{PlacedRefusal}

-- a refusal number and its place, as `3 at 0`
abbrev pub number_at_place : ℕ → ℕ → List ℕ
number_at_place number place = decimal number ++ (codes " at " ++ decimal place)

-- a refusal, as `refused 3 at 0`
abbrev pub refused_text : PlacedRefusal → List ℕ
refused_text refused = codes "refused " ++ number_at_place (number_of refused.refusal) refused.place

-- a hexadecimal digit in lower case
abbrev pub hex_digit : ℕ → ℕ
hex_digit half = cond (nat_lt half 10) (48 + half) (87 + half)

-- a byte's two digits
abbrev pub hex_of_byte : ℕ → List ℕ
hex_of_byte byte = hex_digit (byte / 16) ∷ (hex_digit (byte % 16) ∷ [])

unfoldable pub hex_of : List ℕ → List ℕ
hex_of [] = []
hex_of (byte ∷ rest) = hex_of_byte byte ++ hex_of rest
