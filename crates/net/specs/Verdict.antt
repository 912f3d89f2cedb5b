-- A refusal by number, with its place: what every entry tells of an input.
use Rattle.std.specs.Prelude.{ℕ}

-- "answers with the number and a place"; "Success has number 0, place 0"
pub record Verdict : Type 0 where
  pub number : ℕ
  pub place : ℕ
