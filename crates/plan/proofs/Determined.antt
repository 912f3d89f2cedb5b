-- Each public entry's contract determines its answer, and the writer's also what it leaves in the room: two that it allows for the same
-- inputs are equal. Each contract says what they are, so this is one argument for all of them. The reader changes nothing.
use Rattle.net.proofs.Determined.{Determined, Leaves, agree}
use Rattle.plan.proofs.Told.{reading_told_once, written_told_once}
use Rattle.plan.proofs.reader.read_plan.Reads as read_plan_contract
use Rattle.plan.proofs.writer.write_plan.Reads as write_plan_contract

pub read_plan : Determined read_plan_contract.Learnt
read_plan a inputs x y e f p q = reading_told_once x y (agree p q)

pub write_plan : Determined write_plan_contract.Learnt
write_plan a inputs x y e f p q = written_told_once x y (agree p.0 q.0)

-- the room is the last of what the writer is lent
pub write_plan_room : Leaves write_plan_contract.Learnt (λ a exit. exit.1.0.now)
write_plan_room a inputs x y e f p q = agree p.1 q.1
