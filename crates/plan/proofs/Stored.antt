-- Stored numbers: reading gives back what was stored, what was read is what was stored, and each refusal is given exactly on its fault.
-- The argument: a list of bytes begins with a stored number, or is too short for one, or begins with malformed groups (`begins`, by
-- going through the groups); and in each of the three cases the reading is computed. As its three answers differ, each answer is
-- given in its own case only. All of it holds for any number of groups; `groups` is put in at the end.
use Prim.Native.Nat.{ℕ, zero, suc, ◌+◌, ◌*◌, ◌-◌, ◌/◌, ◌%◌, ◌^◌, ◌≤◌, ◌<◌}
use mathlib.Core.Path.{◌≡◌, refl, sym, ap, ◌∙◌}
use mathlib.Core.Logic.{◌⊎◌, inl, inr, ◌≢◌, ◌↔◌}
use mathlib.Core.List.{List, [], ◌∷◌, ◌++◌, append_assoc, append-nil}
use native.Mathlib.Nat.{div-add-mod', zero-add, suc-add, pow-succ', pow-le-pow_right}
use native.Mathlib.Decide.{ℕ_discrete, dec_le, dec_lt}
use native.Mathlib.Omega.{arith}
use lib.ListN.{length, get_or, take, drop, length-append, take-append-drop, drop_of_length-le}
use lib.Seq.{get_or-append_seam, append_snoc, drop-append_seam, length-take-le}
use Rattle.net.specs.Refusals.{bytes_end, number_form}
use Rattle.plan.specs.Number.{NumberAt, Value, Refused}
use Rattle.plan.specs.Number.{base, groups, most_stored, groups_of, stored, groups_from, number_at}
use Rattle.plan.specs.Fault.{Bytes, Unended, Malformed}
use Rattle.plan.proofs.Groups.{no_groups_left, bytes_end_there, zero_group_last, last_group, group_before_more}
use Rattle.plan.proofs.Lengths.{groups_small, groups_large}

-- one group, read where it stands after some bytes: the laws of Groups at that place
module _ (left : ℕ) (before rest : List ℕ) (first value scale : ℕ) (group : ℕ) where
  abbrev bytes : List ℕ
  bytes = before ++ (group ∷ rest)

  some_left : suc left ≢ 0
  some_left = omega arith

  inside : length before < length bytes
  inside = simp length-append (omega arith)

  here : get_or bytes (length before) 0 ≡ group
  here = get_or-append_seam before group rest 0

  reads_last : group < base → (group ≡ 0 → length before ≤ first)
      → groups_from (suc left) bytes first (length before) value scale ≡ Value (value + group * scale) (length before + 1)
  reads_last small alone =
      let single : (length before ≤ first) ⊎ (get_or bytes (length before) 0 ≢ 0) =
      elim (ℕ_discrete group 0) [ yes none ↦ inl (alone none) | no some ↦ inr (rw here some) ] in
      rw here at (last_group bytes first (length before) value scale (suc left) some_left inside (rw here small) single)

  refuses_zero : group ≡ 0 → first < length before
      → groups_from (suc left) bytes first (length before) value scale ≡ Refused number_form first
  refuses_zero none later = zero_group_last bytes first (length before) value scale (suc left) some_left inside (here ∙ none) later

  -- the reading goes on after a group with its top bit set
  reads_on : base ≤ group
      → groups_from (suc left) bytes first (length before) value scale
      ≡ groups_from left ((before ++ (group ∷ [])) ++ rest) first (length (before ++ (group ∷ [])))
      (value + (group - base) * scale) (scale * base)
  reads_on large =
      let less : suc left - 1 ≡ left = omega arith in
      rw (append_snoc, length-append before (group ∷ []))
      (rw (less, here) at
      (group_before_more bytes first (length before) value scale (suc left) some_left inside (rw here large)))

-- what was stored is read
reads_groups : (more v : ℕ) (before rest : List ℕ) (first value scale : ℕ) → v < base ^ suc more → (v ≡ 0 → length before ≤ first)
    → groups_from (suc more) (before ++ (groups_of more v ++ rest)) first (length before) value scale
    ≡ Value (value + v * scale) (length before + length (groups_of more v))
reads_groups zero v before rest first value scale fits alone =
    let small : v < base = omega arith in
    rw (groups_small zero v small) (reads_last zero before rest first value scale v small alone)
reads_groups (suc more) v before rest first value scale fits alone =
    elim (dec_lt v base) [
      | yes small ↦ rw (groups_small (suc more) v small) (reads_last (suc more) before rest first value scale v small alone)
      | no large ↦
          let digit : v % base + base - base ≡ v % base = omega arith in
          let worth : value + v % base * scale + v / base * (scale * base) ≡ value + v * scale =
          omega (arith, ap (λ (x : ℕ). x * scale) (div-add-mod' v base)) in
          let size = length (groups_of more (v / base)) in
          let place : length before + 1 + size ≡ length before + suc size = omega arith in
          let on = reads_on (suc more) before (groups_of more (v / base) ++ rest) first value scale (v % base + base) (omega arith) in
          let next =
          reads_groups more (v / base) (before ++ ((v % base + base) ∷ [])) rest first (value + (v % base + base - base) * scale)
          (scale * base) (omega (arith, pow-succ' base (suc more))) (λ e. omega arith) in
          rw (groups_large more v (omega arith)) (on ∙ next ∙ rw (digit, worth, length-append before ((v % base + base) ∷ []), place))
    ]

-- whatever comes after groups with their top bit set comes of them
passes_unended : {front : List ℕ} (left : ℕ) (before rest : List ℕ) (first : ℕ) (answer : NumberAt) → Unended front
    → ((value scale : ℕ) → groups_from left ((before ++ front) ++ rest) first (length (before ++ front)) value scale ≡ answer)
    → (value scale : ℕ) → groups_from (length front + left) (before ++ (front ++ rest)) first (length before) value scale ≡ answer
passes_unended left before rest first answer Unended.none after value scale =
    rw zero-add (rw append-nil at (after value scale))
passes_unended left before rest first answer (Unended.more {b = group} {s = front} large unended) after value scale =
    rw suc-add
    (reads_on (length front + left) before (front ++ rest) first value scale group large
    ∙ passes_unended left (before ++ (group ∷ [])) rest first answer unended (rw (append_snoc before group front) after) _ _)

pub some_length : (s : List ℕ) → s ≢ [] → 0 < length s
some_length [] some = absurd (some refl)
some_length (group ∷ s) some = omega arith

-- the three refusals
module _ {front : List ℕ} (more : ℕ) (before rest : List ℕ) (value scale : ℕ) (unended : Unended front) where
  refuses_short : length front < suc more
      → groups_from (suc more) (before ++ front) (length before) (length before) value scale ≡ Refused bytes_end (length (before ++ front))
  refuses_short few =
      let s = before ++ front in
      let last = more - length front in
      let left : length front + suc last ≡ suc more = omega arith in
      rw (append-nil front, left) at
      (passes_unended (suc last) before [] (length before) (Refused bytes_end (length s)) unended
      (λ value scale.
      rw (append-nil s) (bytes_end_there s (length before) (length s) value scale (suc last) (λ e. omega arith) (omega arith)))
      value scale)

  refuses_too_many : length front ≡ suc more
      → groups_from (suc more) (before ++ (front ++ rest)) (length before) (length before) value scale ≡ Refused number_form (length before)
  refuses_too_many all =
      let left : length front + 0 ≡ suc more = omega arith in
      rw left at
      (passes_unended zero before rest (length before) _ unended (λ value scale. no_groups_left _ _ _ value scale zero refl) value scale)

  refuses_zero_group : front ≢ [] → length front < suc more
      → groups_from (suc more) (before ++ (front ++ (0 ∷ rest))) (length before) (length before) value scale
      ≡ Refused number_form (length before)
  refuses_zero_group some few =
      let left : length front + suc (more - length front) ≡ suc more = omega arith in
      let later : length before < length (before ++ front) = simp length-append (omega (arith, some_length front some)) in
      rw left at
      (passes_unended (suc (more - length front)) before (0 ∷ rest) (length before) (Refused number_form (length before)) unended
      (λ value scale. refuses_zero (more - length front) (before ++ front) rest (length before) value scale 0 refl later) value scale)

-- How a list of bytes begins where a number is due.
data Beginning (more : ℕ) (s : List ℕ) : Type 0 where
  whole : (v : ℕ) (rest : List ℕ) → v < base ^ suc more → s ≡ groups_of more v ++ rest → Beginning more s
  short : Unended s → length s < suc more → Beginning more s
  too_many : {front : List ℕ} (rest : List ℕ) → Unended front → length front ≡ suc more → s ≡ front ++ rest → Beginning more s
  zero_group : {front : List ℕ} (rest : List ℕ) → Unended front → front ≢ [] → length front < suc more → s ≡ front ++ (0 ∷ rest)
      → Beginning more s

pub some_group : {group : ℕ} {rest : List ℕ} → ◌≢◌ {A = List ℕ} (group ∷ rest) []
some_group e = let z : ◌≡◌ {A = ℕ} 0 1 = cc in omega arith

-- one more group with its top bit set before such a list
longer : (more group : ℕ) {s : List ℕ} → base ≤ group → group < base + base → Beginning more s → Beginning (suc more) (group ∷ s)
longer more group large byte (whole v rest fits e) =
    elim (ℕ_discrete v 0) [
      | yes z ↦ zero_group {front = group ∷ []} rest (Unended.more large Unended.none) some_group (omega arith)
          (ap (λ (t : List ℕ). group ∷ t) (e ∙ rw (z, groups_small more 0 (omega arith))))
      | no n ↦
          let first_group : (group - base + base * v) % base + base ≡ group = omega arith in
          let later_groups : (group - base + base * v) / base ≡ v = omega arith in
          whole (group - base + base * v) rest (omega (arith, pow-succ' base (suc more)))
          (rw (groups_large more (group - base + base * v) (omega arith), first_group, later_groups) (ap (λ (t : List ℕ). group ∷ t) e))
    ]
longer more group large byte (short unended few) = short (Unended.more large unended) (omega arith)
longer more group large byte (too_many rest unended all e) =
    too_many rest (Unended.more large unended) (omega arith) (ap (λ (t : List ℕ). group ∷ t) e)
longer more group large byte (zero_group rest unended some few e) =
    zero_group rest (Unended.more large unended) some_group (omega arith) (ap (λ (t : List ℕ). group ∷ t) e)

one_group : (more group : ℕ) (rest : List ℕ) → group < base → Beginning more (group ∷ rest)
one_group more group rest small =
    let fits : base ^ 1 ≤ base ^ suc more = pow-le-pow_right {n = base} (omega arith) {i = 1} (omega arith) in
    whole group rest (omega arith) (rw (groups_small more group small))

beginning : (more : ℕ) {s : List ℕ} → Bytes s → Beginning more s
beginning more Bytes.none = short Unended.none (omega arith)
beginning zero (Bytes.more {b = group} {s = rest} byte bytes) =
    elim (dec_lt group base) [
      | yes small ↦ one_group zero group rest small
      | no large ↦ too_many {front = group ∷ []} rest (Unended.more {b = group} (omega arith) Unended.none) refl refl
    ]
beginning (suc more) (Bytes.more {b = group} {s = rest} byte bytes) =
    elim (dec_lt group base) [
      | yes small ↦ one_group (suc more) group rest small
      | no large ↦ longer more group (omega arith) byte (beginning more bytes)
    ]

-- From here on numbers have `groups` groups. The three answers, each where it is given:
pub number_reads : (v : ℕ) (before rest : List ℕ) → v < most_stored
    → number_at (before ++ (stored v ++ rest)) (length before) ≡ Value v (length before + length (stored v))
unfolding number_at stored
number_reads v before rest fits =
    let worth : 0 + v * 1 ≡ v = omega arith in
    rw worth at (reads_groups (groups - 1) v before rest (length before) 0 1 fits (λ e. omega arith))

pub short_refuses : {rest : List ℕ} (before : List ℕ) → Unended rest → length rest < groups
    → number_at (before ++ rest) (length before) ≡ Refused bytes_end (length (before ++ rest))
unfolding number_at
short_refuses before unended few = refuses_short (groups - 1) before [] 0 1 unended few

pub malformed_refuses : {number : List ℕ} (before rest : List ℕ) → Malformed number
    → number_at (before ++ (number ++ rest)) (length before) ≡ Refused number_form (length before)
unfolding number_at
malformed_refuses before rest (Malformed.too_many unended all) = refuses_too_many (groups - 1) before rest 0 1 unended all
malformed_refuses before rest (Malformed.zero_group {s = front} unended some few) =
    rw append_assoc (refuses_zero_group (groups - 1) before rest 0 1 unended some few)

-- and one of the three is given:
pub data Begins (s : List ℕ) : Type 0 where
  whole : (v : ℕ) (rest : List ℕ) → v < most_stored → s ≡ stored v ++ rest → Begins s
  short : Unended s → length s < groups → Begins s
  malformed : {number : List ℕ} (rest : List ℕ) → Malformed number → s ≡ number ++ rest → Begins s

pub begins : {s : List ℕ} → Bytes s → Begins s
unfolding stored
begins bytes =
    elim (beginning (groups - 1) bytes) [
      | whole v rest fits e ↦ Begins.whole v rest fits e
      | short unended few ↦ Begins.short unended few
      | too_many rest unended all e ↦ Begins.malformed rest (Malformed.too_many unended all) e
      | zero_group {front} rest unended some few e ↦
          Begins.malformed rest (Malformed.zero_group unended some few) (e ∙ sym (append_snoc front 0 rest))
    ]

-- a list whose elements are all bytes, as a lent slice is known to be
pub bytes_of : (s : List ℕ) → ((i : ℕ) → i < length s → get_or s i 0 < base + base) → Bytes s
bytes_of [] each = Bytes.none
bytes_of (b ∷ s) each = Bytes.more (each 0 (omega arith)) (bytes_of s (λ i h. each (suc i) (omega arith)))

pub bytes_after : (front : List ℕ) {rest : List ℕ} → Bytes (front ++ rest) → Bytes rest
bytes_after [] bytes = bytes
bytes_after (b ∷ front) (Bytes.more byte bytes) = bytes_after front bytes

-- a stored number stands at a place, and `next` is the place after it
pub record StoredAt (s : List ℕ) (at v next : ℕ) : Type 0 where
  pub before : List ℕ
  pub rest : List ℕ
  pub fits : v < most_stored
  pub bytes : s ≡ before ++ (stored v ++ rest)
  pub here : length before ≡ at
  pub after : next ≡ at + length (stored v)

pub record MalformedAt (s : List ℕ) (at : ℕ) : Type 0 where
  pub number : List ℕ
  pub rest : List ℕ
  pub malformed : Malformed number
  pub bytes : drop at s ≡ number ++ rest

-- Each answer with what stands there. Past the end nothing stands, and the bytes end.
data AnswerAt (s : List ℕ) (at : ℕ) : Type 0 where
  whole : {v next : ℕ} → StoredAt s at v next → number_at s at ≡ Value v next → AnswerAt s at
  short : Unended (drop at s) → length (drop at s) < groups → number_at s at ≡ Refused bytes_end (length s) → AnswerAt s at
  malformed : MalformedAt s at → number_at s at ≡ Refused number_form at → AnswerAt s at

answer_after : (before : List ℕ) {rest : List ℕ} → Bytes rest → AnswerAt (before ++ rest) (length before)
answer_after before {rest} bytes =
    elim (begins bytes) [
      | whole v more fits e ↦
          AnswerAt.whole
          (record { before = before; rest = more; fits = fits; bytes = ap (λ (t : List ℕ). before ++ t) e; here = refl; after = refl })
          (rw e (number_reads v before more fits))
      | short unended few ↦
          let seam = drop-append_seam before rest in
          AnswerAt.short (rw seam unended) (rw seam few) (short_refuses before unended few)
      | malformed {number} more form e ↦
          AnswerAt.malformed (record { number = number; rest = more; malformed = form; bytes = drop-append_seam before rest ∙ e })
          (rw e (malformed_refuses before more form))
    ]

past_end : (s : List ℕ) (at : ℕ) → length s ≤ at → number_at s at ≡ Refused bytes_end (length s)
unfolding number_at
past_end s at past = bytes_end_there s at at 0 1 groups (λ e. omega arith) past

answer_at : {s : List ℕ} → Bytes s → (at : ℕ) → AnswerAt s at
answer_at {s} bytes at =
    elim (dec_le at (length s)) [
      | yes within ↦
          let seam = take-append-drop at s in
          let rest : Bytes (drop at s) = bytes_after (take at s) (rw seam bytes) in
          rw (seam, length-take-le at s within) at (answer_after (take at s) rest)
      | no past ↦
          let over : length s ≤ at = omega arith in
          let nothing = drop_of_length-le s over in
          AnswerAt.short (rw nothing Unended.none) (rw nothing (omega arith)) (past_end s at over)
    ]

-- The theorems on numbers at a place: what was read is what was stored,
pub read_is_stored : {s : List ℕ} → Bytes s → (at v next : ℕ) → number_at s at ≡ Value v next → StoredAt s at v next
read_is_stored bytes at v next read =
    elim (answer_at bytes at) [
      | whole {v = found} {next = end} there answer ↦
          let same : found ≡ v = cc in
          let same_end : end ≡ next = cc in
          rw (same, same_end) at there
      | short unended few answer ↦ let z : ◌≡◌ {A = ℕ} 0 1 = cc in absurd (omega arith)
      | malformed there answer ↦ let z : ◌≡◌ {A = ℕ} 0 1 = cc in absurd (omega arith)
    ]

-- a number's refusals are these two,
pub number_refusals : {s : List ℕ} → Bytes s → (at number place : ℕ) → number_at s at ≡ Refused number place
    → (number ≡ bytes_end) ⊎ (number ≡ number_form)
number_refusals bytes at number place refused =
    elim (answer_at bytes at) [
      | whole there answer ↦ let z : ◌≡◌ {A = ℕ} 0 1 = cc in absurd (omega arith)
      | short unended few answer ↦ inl (cc)
      | malformed there answer ↦ inr (cc)
    ]

-- the first exactly where the bytes end inside the number or before it,
pub ends_exactly : {s : List ℕ} → Bytes s → (at place : ℕ)
    → (number_at s at ≡ Refused bytes_end place) ↔ (Unended (drop at s) × (length (drop at s) < groups) × (place ≡ length s))
ends_exactly {s} bytes at place = (
  (λ refused.
      elim (answer_at bytes at) [
        | whole there answer ↦ let z : ◌≡◌ {A = ℕ} 0 1 = cc in absurd (omega arith)
        | short unended few answer ↦ (unended, few, cc)
        | malformed there answer ↦ let z : bytes_end ≡ number_form = cc in absurd (omega arith)
      ]),
  (λ there.
      elim (dec_le at (length s)) [
        | yes within ↦
            let answer = short_refuses (take at s) there.0 there.1 in
            rw (take-append-drop at s, length-take-le at s within, ← there.2) at answer
        | no past ↦ rw there.2 (past_end s at (omega arith))
      ]),
)

-- and the second exactly where malformed groups stand.
malformed_some : {number : List ℕ} → Malformed number → 0 < length number
malformed_some (Malformed.too_many unended all) = omega arith
malformed_some (Malformed.zero_group {s = front} unended some few) = simp length-append (omega arith)

pub form_exactly : {s : List ℕ} → Bytes s → (at place : ℕ) → (number_at s at ≡ Refused number_form place) ↔ (MalformedAt s at × (place ≡ at))
form_exactly {s} bytes at place = (
  (λ refused.
      elim (answer_at bytes at) [
        | whole there answer ↦ let z : ◌≡◌ {A = ℕ} 0 1 = cc in absurd (omega arith)
        | short unended few answer ↦ let z : bytes_end ≡ number_form = cc in absurd (omega arith)
        | malformed there answer ↦ (there, cc)
      ]),
  (λ there.
      elim (dec_le at (length s)) [
        | yes within ↦
            let form = there.0 in
            let answer = malformed_refuses (take at s) form.rest form.malformed in
            rw (← form.bytes, take-append-drop at s, length-take-le at s within) at answer ∙ ap (Refused number_form) (sym there.1)
        | no past ↦
            let form = there.0 in
            let nothing : 0 ≡ length form.number + length form.rest =
            rw (drop_of_length-le s {i = at} (omega arith), length-append) at (ap length form.bytes) in
            absurd (omega (arith, malformed_some form.malformed))
      ]),
)
