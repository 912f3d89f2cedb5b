-- `turned` stores one entry a turn of the inner loop: the entries passed are those of the square turned, whatever would stand past a
-- row's end.
use Rattle.paths.proofs.Turning.{Turned}
use Rattle.paths.proofs.square.turned.Given as goal

abbrev pub invariant-loop-d : goal.invariant-loop-d
invariant-loop-d g l = (past : g.row.T.Denot) → Turned past l.square l.n l.i l.d l.turned

abbrev pub invariant-loop-i : goal.invariant-loop-i
invariant-loop-i g l = (past : g.row.T.Denot) → Turned past l.square l.n l.i 0 l.turned
