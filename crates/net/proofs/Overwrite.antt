-- The laws of `overwritten`: bytes put over a room's own from a place on. The first byte is a store, and the others go over what it
-- leaves, from the next place on; so bytes in two parts are put one part after the other.
use Prim.Native.Nat.{ℕ, suc, ◌+◌, ◌≤◌, ◌<◌}
use mathlib.Core.Path.{◌≡◌, sym, ap, ◌∙◌}
use mathlib.Core.List.{List, [], ◌∷◌, ◌++◌}
use native.Mathlib.Nat.{add-zero, zero-add}
use native.Mathlib.Numerals.{add-one}
use native.Mathlib.Omega.{arith}
use lib.ListN.{length, drop, set, length-append, length-set, take-append-drop}
use lib.Seq.{take-suc-set, drop-set-lt, append_snoc}
use Rattle.net.specs.inner.Overwritten.{overwritten}

-- no bytes change nothing
pub over_none : (room : List ℕ) (at : ℕ) → overwritten room at [] ≡ room
unfolding overwritten
over_none room at = simp (add-zero, take-append-drop)

-- the first byte is a store
pub over_first : (room : List ℕ) (at byte : ℕ) (bytes : List ℕ) → at < length room
    → overwritten room at (byte ∷ bytes) ≡ overwritten (set room at byte) (at + 1) bytes
unfolding overwritten
over_first room at byte bytes h =
    let shift : at + suc (length bytes) ≡ suc at + length bytes = omega arith in
    let past : at < suc at + length bytes = omega arith in
    rw (add-one, shift, take-suc-set room at byte h, drop-set-lt (suc at + length bytes) room at byte past, append_snoc)

-- one byte is a store
pub over_one : (room : List ℕ) (at byte : ℕ) → at < length room → overwritten room at (byte ∷ []) ≡ set room at byte
over_one room at byte h = over_first room at byte [] h ∙ over_none (set room at byte) (at + 1)

-- the room keeps its length
pub length_over : (room : List ℕ) (at : ℕ) (bytes : List ℕ) → at + length bytes ≤ length room
    → length (overwritten room at bytes) ≡ length room
length_over room at [] h = ap length (over_none room at)
length_over room at (byte ∷ bytes) h =
    let inside : at < length room = omega arith in
    let fits : at + 1 + length bytes ≤ length (set room at byte) = simp length-set (omega arith) in
    ap length (over_first room at byte bytes inside) ∙ length_over (set room at byte) (at + 1) bytes fits ∙ length-set room at byte

-- bytes in two parts: the second goes over what the first leaves, from the place after it
pub over_parts : (room : List ℕ) (at : ℕ) (bytes more : List ℕ) → at + length (bytes ++ more) ≤ length room
    → overwritten room at (bytes ++ more) ≡ overwritten (overwritten room at bytes) (at + length bytes) more
over_parts room at [] more h = rw (add-zero, over_none)
over_parts room at (byte ∷ bytes) more h =
    let inside : at < length room = omega arith in
    let fits : at + 1 + length (bytes ++ more) ≤ length (set room at byte) = simp length-set (omega arith) in
    let shift : at + suc (length bytes) ≡ at + 1 + length bytes = omega arith in
    rw (shift, over_first room at byte (bytes ++ more) inside, over_first room at byte bytes inside)
    (over_parts (set room at byte) (at + 1) bytes more fits)

-- Three parts put one after the other, each from the place after the one before it: as a link's three numbers are put, and a plan's two
-- counts and its links.
pub over_three : (room : List ℕ) (at : ℕ) (first second third : List ℕ) {room₁ room₂ room₃ : List ℕ} {at₂ at₃ : ℕ}
    → at + length (first ++ (second ++ third)) ≤ length room
    → at₂ ≡ at + length first → room₁ ≡ overwritten room at first
    → at₃ ≡ at₂ + length second → room₂ ≡ overwritten room₁ at₂ second
    → room₃ ≡ overwritten room₂ at₃ third
    → room₃ ≡ overwritten room at (first ++ (second ++ third))
over_three room at first second third h at₂_is room₁_is at₃_is room₂_is room₃_is =
    let lengths = length-append first (second ++ third) in
    let begun : at + length first ≤ length room = omega arith in
    let kept = length_over room at first begun in
    let rest : at + length first + length (second ++ third) ≤ length (overwritten room at first) = omega arith in
    rw (room₃_is, room₂_is, room₁_is, at₃_is, at₂_is)
    (sym (over_parts room at first (second ++ third) h
    ∙ over_parts (overwritten room at first) (at + length first) second third rest))

-- from the room's first place on: the bytes, and then what stood after them
pub over_start : (room bytes : List ℕ) → overwritten room 0 bytes ≡ bytes ++ drop (length bytes) room
unfolding overwritten
over_start room bytes = simp zero-add
