-- Bytes put into a room: what must be known before, namely that a number or a link can be stored and fits; and what is then so.
use Rattle.std.specs.Prelude.{ℕ, ◌+◌, ◌≤◌, ◌<◌, ◌≡◌, List, length}
use Rattle.net.specs.inner.Overwritten.{overwritten}
use Rattle.plan.specs.Number.{most_stored, stored}
use Rattle.plan.specs.Plan.{link_bytes}

pub record NumberFits (value at : ℕ) (room : List ℕ) : Type 0 where
  pub storable : value < most_stored
  pub fits : at + length (stored value) ≤ length room

-- a link's three numbers can be stored: its low end, the difference of its ends and its weight
pub record Storable (low high weight : ℕ) : Type 0 where
  pub ordered : low ≤ high
  pub short : high < most_stored
  pub light : weight < most_stored

pub record LinkFits (low high weight at : ℕ) (room : List ℕ) : Type 0 where
  pub storable : Storable low high weight
  pub fits : at + length (link_bytes low high weight) ≤ length room

-- the bytes stand in the room from a place on, and `next` is the place after them
pub record Put (bytes : List ℕ) (at : ℕ) (before after : List ℕ) (next : ℕ) : Type 0 where
  pub room : after ≡ overwritten before at bytes
  pub place : next ≡ at + length bytes
