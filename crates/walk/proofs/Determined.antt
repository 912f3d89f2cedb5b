-- The contracts of `step` and `walk` determine their answers and the trace that a walk leaves: two that they allow for the same inputs
-- are equal, as each contract says what the answer tells, and that tells which answer it is. So do those of the check of what is lent and
-- of the walk over checked tables, which other crates call: ending, hop count and trace are told by one course.
use Rattle.net.proofs.Determined.{Determined, Leaves, agree}
use Rattle.net.proofs.Told.{told_once, verdict_once}
use Rattle.walk.proofs.Told.{stepped_once, walked_once, ending_once}
use Rattle.walk.proofs.steps.step.Reads as step_contract
use Rattle.walk.proofs.walks.walk.Reads as walk_contract
use Rattle.walk.proofs.walked.Ending.number.Reads as ending_number_contract
use Rattle.walk.proofs.lent.check_lent.Reads as check_lent_contract
use Rattle.walk.proofs.lent.lent_verdict.Reads as lent_verdict_contract
use Rattle.walk.proofs.moves.walk_from.Reads as walk_from_contract

pub step : Determined step_contract.Learnt
step a inputs x y e f p q = stepped_once x y (agree p q)

pub walk : Determined walk_contract.Learnt
walk a inputs x y e f p q = walked_once x y (agree p.0 q.0)

-- the trace is the last of what a walk is lent
pub walk_trace : Leaves walk_contract.Learnt (λ a exit. exit.1.1.1.1.1.1.0.now)
walk_trace a inputs x y e f p q = agree p.1 q.1

pub ending_number : Determined ending_number_contract.Learnt
ending_number a inputs x y e f p q = agree p q

pub lent_verdict : Determined lent_verdict_contract.Learnt
lent_verdict a inputs x y e f p q = verdict_once x y (agree p q)

pub check_lent : Determined check_lent_contract.Learnt
check_lent a inputs x y e f p q = told_once x y (agree p q)

pub walk_from : Determined walk_from_contract.Learnt
walk_from a inputs x y e f p q = λ t. record { ending = ending_once x.ending y.ending (agree p.ending q.ending) t; hops = agree p.hops q.hops t }

pub walk_from_trace : Leaves walk_from_contract.Learnt (λ a exit. exit.1.1.1.1.0.now)
walk_from_trace a inputs x y e f p q = agree p.trace q.trace
