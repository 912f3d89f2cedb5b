-- The contract of `name_of` determines its answer: two that it allows for the same inputs are equal, as the contract says what the answer is.
-- It changes nothing that it is lent.
use Rattle.net.proofs.Determined.{Determined, agree}
use Rattle.naming.proofs.name_of.Reads as name_of_contract

pub name_of : Determined name_of_contract.Learnt
name_of a inputs x y e f p q = agree p q
