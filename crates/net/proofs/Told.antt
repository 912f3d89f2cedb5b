-- What an answer tells determines it: each refusal has its own number, and none has 0, which an answer without refusal tells.
use Prim.Native.Nat.{ℕ, ◌<◌}
use mathlib.Core.Path.{◌≡◌, refl, sym, ap, ◌∙◌}
use mathlib.Core.Logic.{◌≢◌}
use native.Mathlib.Omega.{arith}
use Rattle.std.specs.Prelude.{Result, Ok, Err, [], ◌∷◌, slice_index_or}
use Rattle.net.specs.Refusals.{accepted}
use Rattle.net.specs.Verdict.{Verdict}
use Rattle.net.specs.Told.{number_of, verdict_said, verdict_of, number_told, told}
use Rattle.net.specs.declared.refusal.Refusal.{Refusal}
use Rattle.net.specs.declared.refusal.Refusal.TheVariants.{BytesEnd, NumberForm, NodeCount, LinkCount, LinkEnds, LinkWeight, LinkOrder, BytesLeft}
use Rattle.net.specs.declared.refusal.Refusal.TheVariants.{RowLengths, Room, NodeNumber, FailedLink, InterfaceNumber, TableLength, TraceLength, TableEntry}
use Rattle.net.specs.declared.refusal.PlacedRefusal.{PlacedRefusal}
use Rattle.net.specs.declared.refusal.Verdict.{Verdict as VerdictSaid}

-- the refusal of a number; of one that no refusal has, any
numbered : ℕ → Refusal
numbered n =
    slice_index_or
    (BytesEnd ∷ BytesEnd ∷ NumberForm ∷ NodeCount ∷ LinkCount ∷ LinkEnds ∷ LinkWeight ∷ LinkOrder ∷ BytesLeft ∷ RowLengths ∷ Room
    ∷ NodeNumber ∷ FailedLink ∷ InterfaceNumber ∷ TableLength ∷ TraceLength ∷ TableEntry ∷ [])
    n BytesEnd

numbered_is : (r : Refusal) → numbered (number_of r) ≡ r
unfolding numbered
numbered_is BytesEnd = refl
numbered_is NumberForm = refl
numbered_is NodeCount = refl
numbered_is LinkCount = refl
numbered_is LinkEnds = refl
numbered_is LinkWeight = refl
numbered_is LinkOrder = refl
numbered_is BytesLeft = refl
numbered_is RowLengths = refl
numbered_is Room = refl
numbered_is NodeNumber = refl
numbered_is FailedLink = refl
numbered_is InterfaceNumber = refl
numbered_is TableLength = refl
numbered_is TraceLength = refl
numbered_is TableEntry = refl

pub number_positive : (r : Refusal) → 0 < number_of r
number_positive BytesEnd = omega arith
number_positive NumberForm = omega arith
number_positive NodeCount = omega arith
number_positive LinkCount = omega arith
number_positive LinkEnds = omega arith
number_positive LinkWeight = omega arith
number_positive LinkOrder = omega arith
number_positive BytesLeft = omega arith
number_positive RowLengths = omega arith
number_positive Room = omega arith
number_positive NodeNumber = omega arith
number_positive FailedLink = omega arith
number_positive InterfaceNumber = omega arith
number_positive TableLength = omega arith
number_positive TraceLength = omega arith
number_positive TableEntry = omega arith

pub number_refuses : (r : Refusal) → number_of r ≢ accepted
number_refuses r e = omega (arith, number_positive r, e)

pub number_once : (a b : Refusal) → number_of a ≡ number_of b → a ≡ b
number_once a b e = sym (numbered_is a) ∙ ap numbered e ∙ numbered_is b

abbrev placed : Refusal → ℕ → PlacedRefusal
placed refusal place = record { refusal = refusal; place = place }

pub refusal_once : (a b : PlacedRefusal) → verdict_of a ≡ verdict_of b → a ≡ b
refusal_once a b e =
    let same = number_once a.refusal b.refusal (ap (λ (v : Verdict). v.number) e) in
    ap (λ r. placed r a.place) same ∙ ap (placed b.refusal) (ap (λ (v : Verdict). v.place) e)

abbrev said : Verdict → VerdictSaid
said v = record { number = v.number; place = v.place }

-- number and place are all of a verdict
pub verdict_once : (x y : VerdictSaid) → verdict_said x ≡ verdict_said y → x ≡ y
verdict_once x y e = ap said e

-- two answers that tell one number, or one number and place, are one answer
pub number_told_once : (x y : Result Unit Refusal) → number_told x ≡ number_told y → x ≡ y
number_told_once (Ok _) (Ok _) e = refl
number_told_once (Ok _) (Err b) e = absurd (number_refuses b (sym e))
number_told_once (Err a) (Ok _) e = absurd (number_refuses a e)
number_told_once (Err a) (Err b) e = ap Err (number_once a b e)

pub told_once : (x y : Result Unit PlacedRefusal) → told x ≡ told y → x ≡ y
told_once (Ok _) (Ok _) e = refl
told_once (Ok _) (Err b) e = absurd (number_refuses b.refusal (sym (ap (λ (v : Verdict). v.number) e)))
told_once (Err a) (Ok _) e = absurd (number_refuses a.refusal (ap (λ (v : Verdict). v.number) e))
told_once (Err a) (Err b) e = ap Err (refusal_once a b e)
