-- The contracts of `failure_line` and `all_lines` determine their answers: two that they allow for the same inputs are equal, as each
-- contract says what the answer tells, and that tells which answer it is. Neither entry changes what it is lent.
use mathlib.Core.Path.{◌≡◌, sym, ap}
use Rattle.std.specs.Prelude.{Result, Ok, Err}
use Rattle.net.specs.declared.refusal.PlacedRefusal.{PlacedRefusal}
use Rattle.net.proofs.Determined.{Determined, agree}
use Rattle.net.proofs.Told.{number_refuses, refusal_once}
use Rattle.report.specs.Line.{Figures, figures_told}
use Rattle.report.specs.Lines.{Lines, lines_refused, lines_told}
use Rattle.report.specs.declared.counting.Line.{Line}
use Rattle.report.specs.declared.totals.Lines.{Lines as LinesMade}
use Rattle.report.proofs.counting.failure_line.Reads as failure_line_contract
use Rattle.report.proofs.totals.all_lines.Reads as all_lines_contract

figures_once : (x y : Result Line PlacedRefusal) → figures_told x ≡ figures_told y → x ≡ y
figures_once (Ok a) (Ok b) e = ap Ok (ap (λ (f : Figures). f.line) e)
figures_once (Ok a) (Err b) e = absurd (number_refuses b.refusal (sym (ap (λ (f : Figures). f.number) e)))
figures_once (Err a) (Ok b) e = absurd (number_refuses a.refusal (ap (λ (f : Figures). f.number) e))
figures_once (Err a) (Err b) e = ap Err (refusal_once a b (λ t. record { number = (e t).number; place = (e t).place }))

lines_once : (x y : Result LinesMade PlacedRefusal) → lines_told x ≡ lines_told y → x ≡ y
unfolding lines_refused
lines_once (Ok a) (Ok b) e =
    ap Ok (λ t. record { lines = (e t).lines; walks = (e t).walks; delivered = (e t).delivered; dropped = (e t).dropped })
lines_once (Ok a) (Err b) e = absurd (number_refuses b.refusal (sym (ap (λ (l : Lines). l.number) e)))
lines_once (Err a) (Ok b) e = absurd (number_refuses a.refusal (ap (λ (l : Lines). l.number) e))
lines_once (Err a) (Err b) e = ap Err (refusal_once a b (λ t. record { number = (e t).number; place = (e t).place }))

pub failure_line : Determined failure_line_contract.Learnt
failure_line a inputs x y e f p q = figures_once x y (agree p q)

pub all_lines : Determined all_lines_contract.Learnt
all_lines a inputs x y e f p q = lines_once x y (agree p q)
