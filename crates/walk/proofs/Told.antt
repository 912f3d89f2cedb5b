-- What an answer tells determines it: which step or walk it was, or which refusal at which place.
use Prim.Native.Nat.{ℕ}
use mathlib.Core.Path.{◌≡◌, refl, sym, ap, ◌∙◌}
use Rattle.std.specs.Prelude.{Result, Ok, Err, [], ◌∷◌, slice_index_or, IsErrAnd}
use Rattle.graph.specs.Walk.{Ending, delivered, unrouted, dropped, exhausted}
use Rattle.net.specs.Refusals.{accepted}
use Rattle.net.specs.Check.{verdict}
use Rattle.net.specs.Verdict.{Verdict}
use Rattle.net.specs.declared.refusal.PlacedRefusal.{PlacedRefusal}
use Rattle.net.proofs.Told.{number_refuses, refusal_once}
use Rattle.walk.specs.Step.{Stepped, Refused, Delivered, NothingToFollow, Dropped, Next, step_named, stepped_told}
use Rattle.walk.specs.Walk.{Walked, ending_number, ending_named, walked_told}
use Rattle.walk.specs.declared.steps.Stepped.{Stepped as SteppedOn}
use Rattle.walk.specs.declared.steps.Stepped.TheVariants.{Delivered as OnDelivered, NothingToFollow as OnNothing, Dropped as OnDropped, Next as OnNext}
use Rattle.walk.specs.declared.walked.Ending.{Ending as EndingSaid}
use Rattle.walk.specs.declared.walked.Ending.TheVariants.{Delivered as SaysDelivered, Unrouted as SaysUnrouted, Dropped as SaysDropped, Exhausted as SaysExhausted}
use Rattle.walk.specs.declared.walked.Walked.{Walked as WalkedOn}

-- an ending is said by one variant, and has a number of its own
said : Ending → EndingSaid
said delivered = SaysDelivered
said unrouted = SaysUnrouted
said dropped = SaysDropped
said exhausted = SaysExhausted

said_is : (e : EndingSaid) → said (ending_named e) ≡ e
unfolding said
said_is SaysDelivered = refl
said_is SaysUnrouted = refl
said_is SaysDropped = refl
said_is SaysExhausted = refl

pub ending_once : (x y : EndingSaid) → ending_named x ≡ ending_named y → x ≡ y
ending_once x y e = sym (said_is x) ∙ ap said e ∙ said_is y

numbered : ℕ → Ending
numbered n = slice_index_or (delivered ∷ unrouted ∷ dropped ∷ exhausted ∷ []) n delivered

numbered_is : (e : Ending) → numbered (ending_number e) ≡ e
unfolding numbered ending_number
numbered_is delivered = refl
numbered_is unrouted = refl
numbered_is dropped = refl
numbered_is exhausted = refl

number_once : (a b : Ending) → ending_number a ≡ ending_number b → a ≡ b
number_once a b e = sym (numbered_is a) ∙ ap numbered e ∙ numbered_is b

-- a step that is answered is one variant, and refuses nothing
stepped : Stepped → SteppedOn
stepped (Refused number place) = OnDropped
stepped Delivered = OnDelivered
stepped NothingToFollow = OnNothing
stepped Dropped = OnDropped
stepped (Next node interface) = OnNext node interface

stepped_is : (on : SteppedOn) → stepped (step_named on) ≡ on
unfolding stepped
stepped_is OnDelivered = refl
stepped_is OnNothing = refl
stepped_is OnDropped = refl
stepped_is (OnNext node interface) = refl

refusal_in : Stepped → Verdict
refusal_in (Refused number place) = record { number = number; place = place }
refusal_in Delivered = verdict accepted
refusal_in NothingToFollow = verdict accepted
refusal_in Dropped = verdict accepted
refusal_in (Next node interface) = verdict accepted

none_in : (on : SteppedOn) → refusal_in (step_named on) ≡ verdict accepted
unfolding refusal_in
none_in OnDelivered = refl
none_in OnNothing = refl
none_in OnDropped = refl
none_in (OnNext node interface) = refl

-- an answer that refuses nothing tells no refusal's number
abbrev number : Verdict → ℕ
number v = v.number

pub stepped_once : (x y : Result SteppedOn PlacedRefusal) → stepped_told x ≡ stepped_told y → x ≡ y
unfolding refusal_in
stepped_once (Ok a) (Ok b) e = ap Ok (sym (stepped_is a) ∙ ap stepped e ∙ stepped_is b)
stepped_once (Ok a) (Err b) e = absurd (number_refuses b.refusal (sym (ap number (sym (none_in a) ∙ ap refusal_in e))))
stepped_once (Err a) (Ok b) e = absurd (number_refuses a.refusal (ap number (ap refusal_in e ∙ none_in b)))
stepped_once (Err a) (Err b) e = ap Err (refusal_once a b (ap refusal_in e))

-- a walk's answer
pub walked_once : (x y : Result WalkedOn PlacedRefusal) → walked_told x ≡ walked_told y → x ≡ y
walked_once (Ok a) (Ok b) e =
    let same = ending_once a.ending b.ending (number_once _ _ (ap (λ (w : Walked). w.ending) e)) in
    ap Ok (λ t. record { ending = same t; hops = (e t).hops })
walked_once (Ok a) (Err b) e = absurd (number_refuses b.refusal (sym (ap (λ (w : Walked). w.number) e)))
walked_once (Err a) (Ok b) e = absurd (number_refuses a.refusal (ap (λ (w : Walked). w.number) e))
walked_once (Err a) (Err b) e = ap Err (refusal_once a b (λ t. record { number = (e t).number; place = (e t).place }))

-- what a `?` hands on is the refusal that it was given
pub handed : {Answer Refused : Type 0} (r : Result Answer Refused) (refused : Refused) → IsErrAnd r (λ e. e ≡ refused) → r ≡ Err refused
handed (Ok _) refused h = absurd h
handed (Err e) refused h = ap Err h
