-- Stored numbers (document 01, "Stored plan"): "All numbers are groups of seven bits, lowest group first, the byte's top bit set while
-- more follow. At most three groups; a number of several groups doesn't end in a zero group."
use Rattle.std.specs.Prelude.{ℕ, zero, suc, ◌+◌, ◌*◌, ◌-◌, ◌/◌, ◌%◌, ◌^◌, List, [], ◌∷◌, length, get_or, ltb, leb, eqb}
use Rattle.net.specs.Choice.{pick, both}
use Rattle.net.specs.Refusals.{bytes_end, number_form}

-- values of a group, and the groups of a number
abbrev pub base : ℕ
base = 128

abbrev pub groups : ℕ
groups = 3

-- a number of at most three groups is below this
abbrev pub most_stored : ℕ
most_stored = base ^ groups

-- the groups of a number, lowest first, of which `more` may follow the first
unfoldable pub groups_of : ℕ → ℕ → List ℕ
groups_of zero v = v ∷ []
groups_of (suc more) v = pick (ltb v base) (v ∷ []) ((v % base + base) ∷ groups_of more (v / base))

-- how a number is stored
unfoldable pub stored : ℕ → List ℕ
stored v = groups_of (groups - 1) v

-- what stands where a number is due: its value and the place after it, or a refusal number and its place
pub data NumberAt : Type 0 where
  Value : ℕ → ℕ → NumberAt
  Refused : ℕ → ℕ → NumberAt

-- Reading a number that starts at `first`: what is known after some groups is their value, the worth of the next group and the
-- place where it stands; `left` groups may still follow.
unfoldable pub groups_from : ℕ → List ℕ → ℕ → ℕ → ℕ → ℕ → NumberAt
groups_from zero s first at value scale = Refused number_form first
groups_from (suc left) s first at value scale =
    let group = get_or s at 0 in
    let more = groups_from left s first (at + 1) (value + (group - base) * scale) (scale * base) in
    pick (leb (length s) at) (Refused bytes_end (length s))
    (pick (ltb group base)
    (pick (both (eqb group 0) (ltb first at)) (Refused number_form first) (Value (value + group * scale) (at + 1)))
    more)

-- the number that is stored at a place, with the place after it, or its fault
unfoldable pub number_at : List ℕ → ℕ → NumberAt
number_at s first = groups_from groups s first first 0 1
