use Rattle.std.proofs.Common.{rules}
use Rattle.text.proofs.Counted.{number_from_last}
use Rattle.text.proofs.number_of.Goals as goal

pub returns : goal.returns
returns c = rw (← number_from_last c.args.bytes.now) (search rules)
