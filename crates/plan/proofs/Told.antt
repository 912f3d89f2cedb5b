-- What an answer tells determines it.
use mathlib.Core.Path.{◌≡◌, sym, ap}
use Prim.Native.Nat.{ℕ}
use Rattle.std.specs.Prelude.{Result, Ok, Err}
use Rattle.net.specs.Verdict.{Verdict}
use Rattle.net.specs.declared.lent_rows.Network.{Network}
use Rattle.net.specs.declared.refusal.PlacedRefusal.{PlacedRefusal}
use Rattle.net.proofs.Told.{number_refuses, refusal_once}
use Rattle.plan.specs.Reader.{Reading, refusal}
use Rattle.plan.specs.Writer.{Written}
use Rattle.plan.specs.Told.{reading_told, written_told}

reading_verdict : Reading → Verdict
reading_verdict reading = record { number = reading.number; place = reading.place }

pub reading_told_once : (x y : Result Network PlacedRefusal) → reading_told x ≡ reading_told y → x ≡ y
unfolding refusal reading_verdict
reading_told_once (Ok a) (Ok b) e = ap Ok (ap (λ (r : Reading). r.network) e)
reading_told_once (Ok _) (Err b) e = absurd (number_refuses b.refusal (sym (ap (λ (r : Reading). r.number) e)))
reading_told_once (Err a) (Ok _) e = absurd (number_refuses a.refusal (ap (λ (r : Reading). r.number) e))
reading_told_once (Err a) (Err b) e = ap Err (refusal_once a b (ap reading_verdict e))

written_verdict : Written → Verdict
written_verdict answer = record { number = answer.number; place = answer.place }

pub written_told_once : (x y : Result ℕ PlacedRefusal) → written_told x ≡ written_told y → x ≡ y
unfolding written_verdict
written_told_once (Ok a) (Ok b) e = ap Ok (ap (λ (w : Written). w.count) e)
written_told_once (Ok _) (Err b) e = absurd (number_refuses b.refusal (sym (ap (λ (w : Written). w.number) e)))
written_told_once (Err a) (Ok _) e = absurd (number_refuses a.refusal (ap (λ (w : Written). w.number) e))
written_told_once (Err a) (Err b) e = ap Err (refusal_once a b (ap written_verdict e))
