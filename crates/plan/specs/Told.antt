-- What the code's answers tell, each in the words of the definition that says what is to be answered: of a refusal its number and place,
-- and beside them what the specification puts into a refused answer.
use Rattle.std.specs.Prelude.{ℕ, Result, Ok, Err}
use Rattle.net.specs.Refusals.{accepted}
use Rattle.net.specs.Told.{number_of, verdict_of}
use Rattle.net.specs.declared.lent_rows.Network.{Network}
use Rattle.net.specs.declared.refusal.PlacedRefusal.{PlacedRefusal}
use Rattle.plan.specs.Number.{NumberAt, Value, Refused as NoNumber}
use Rattle.plan.specs.Reader.{Reading, LinkAt, Got, Refused as NoLink, refusal}
use Rattle.plan.specs.Writer.{Written, written, unwritten}
use Rattle.plan.specs.declared.number.Number.{Number}
use Rattle.plan.specs.declared.reader.LinkRead.{LinkRead}

-- of a number
abbrev pub number_at_told : Result Number PlacedRefusal → NumberAt
number_at_told (Ok number) = Value number.value number.next
number_at_told (Err refused) = NoNumber (number_of refused.refusal) refused.place

-- of a link
abbrev pub link_at_told : Result LinkRead PlacedRefusal → LinkAt
link_at_told (Ok link) = Got link.low link.high link.weight link.next
link_at_told (Err refused) = NoLink (number_of refused.refusal) refused.place

-- Of a plan: "Success has number 0, place 0". A refusal comes with the one-node network without links.
abbrev pub reading_told : Result Network PlacedRefusal → Reading
reading_told (Ok network) = record { number = accepted; place = 0; network = network }
reading_told (Err refused) = refusal (number_of refused.refusal) refused.place

-- of a plan that was to be written: the count of its bytes
abbrev pub written_told : Result ℕ PlacedRefusal → Written
written_told (Ok count) = written count
written_told (Err refused) = unwritten (verdict_of refused)
