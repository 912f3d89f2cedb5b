-- A choice by a test, and two tests joined: what the definitions of all crates are written with.
use Rattle.std.specs.Prelude.{Bool, true, false}

-- the first of two where the test holds, else the second
abbrev pub pick {ℓ} : {A : Type ℓ} → Bool → A → A → A
pick true a b = a
pick false a b = b

abbrev pub either : Bool → Bool → Bool
either true b = true
either false b = b

abbrev pub both : Bool → Bool → Bool
both true b = b
both false b = false
