-- What a refused entry tells: the number and the place that document 01 gives its refusal; an entry that refuses nothing tells 0 and 0.
-- The definitions of all crates speak of numbers and places, and a contract says that its answer tells what the definition says.
use Rattle.std.specs.Prelude.{ℕ, Result, Ok, Err}
use Rattle.net.specs.Refusals.{accepted, bytes_end, number_form, node_count, link_count, link_ends, link_weight, link_order, bytes_left}
use Rattle.net.specs.Refusals.{row_lengths, room, node_number, failed_link, interface_number, table_length, trace_length, table_entry}
use Rattle.net.specs.Verdict.{Verdict}
use Rattle.net.specs.declared.refusal.Refusal.{Refusal}
use Rattle.net.specs.declared.refusal.Refusal.TheVariants.{BytesEnd, NumberForm, NodeCount, LinkCount, LinkEnds, LinkWeight, LinkOrder, BytesLeft}
use Rattle.net.specs.declared.refusal.Refusal.TheVariants.{RowLengths, Room, NodeNumber, FailedLink, InterfaceNumber, TableLength, TraceLength, TableEntry}
use Rattle.net.specs.declared.refusal.PlacedRefusal.{PlacedRefusal}
use Rattle.net.specs.declared.refusal.Verdict.{Verdict as VerdictSaid}

abbrev pub number_of : Refusal → ℕ
number_of BytesEnd = bytes_end
number_of NumberForm = number_form
number_of NodeCount = node_count
number_of LinkCount = link_count
number_of LinkEnds = link_ends
number_of LinkWeight = link_weight
number_of LinkOrder = link_order
number_of BytesLeft = bytes_left
number_of RowLengths = row_lengths
number_of Room = room
number_of NodeNumber = node_number
number_of FailedLink = failed_link
number_of InterfaceNumber = interface_number
number_of TableLength = table_length
number_of TraceLength = trace_length
number_of TableEntry = table_entry

-- a verdict of the code, number and place
abbrev pub verdict_said : VerdictSaid → Verdict
verdict_said v = record { number = v.number; place = v.place }

abbrev pub verdict_of : PlacedRefusal → Verdict
verdict_of r = record { number = number_of r.refusal; place = r.place }

-- "the place is that link's number, else 0"
abbrev pub unplaced : Refusal → PlacedRefusal
unplaced refusal = record { refusal = refusal; place = 0 }

-- what an answer tells whose refusal has no place of its own
abbrev pub number_told : Result Unit Refusal → ℕ
number_told (Ok _) = accepted
number_told (Err refusal) = number_of refusal

-- what an answer tells of number and place
abbrev pub told : {Answer : Type 0} → Result Answer PlacedRefusal → Verdict
told (Ok _) = record { number = accepted; place = 0 }
told (Err refused) = verdict_of refused
