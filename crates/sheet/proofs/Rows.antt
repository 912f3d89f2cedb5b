-- Every row marked P holds. For each kind of row there is a definition that runs and that is proved to be what the row is about, of any
-- accepted network (Computed, SameWalk). So the table holds if each row's numbers fit its network and if the answers computed for the
-- rows are those that the rows give; both are computed for the whole table at once.
use Prim.Native.Nat.{ℕ, ◌<◌}
use mathlib.Core.Bool.{Bool, true}
use mathlib.Core.Path.{◌≡◌, refl}
use mathlib.Core.List.{List, [], ◌∷◌, map}
use mathlib.Core.Option.{none as no_link}
use borrow.Author.Tests.{ltb-true, eqb-true}
use lib.Dec.{ltb, eqb}
use lib.ListN.{length}
use Rattle.graph.specs.Network.{link, reverse, by_direction, tail, head}
use Rattle.graph.specs.Path.{visits}
use Rattle.graph.specs.Walk.{Tables, failed_by, Step, around, step_by, Ending, ends_by, crossing, goes_on, walk_from, walk_of}
use Rattle.net.specs.Refusals.{accepted}
use Rattle.net.specs.Choice.{both}
use Rattle.net.specs.Rows.{Rows, network_of}
use Rattle.net.specs.Check.{Accepted}
use Rattle.net.specs.Check.{descends, lighter_twin, span_before, bad_ends, bad_weight, link_fault, links_from, rows_differ, bad_node_count}
use Rattle.net.specs.Check.{check_network}
use Rattle.net.specs.Entry.{byte_of}
use Rattle.net.proofs.Rows.{row_present}
use Rattle.net.proofs.Accepted.{check_accepts, well_formed}
use Rattle.plan.specs.Number.{groups_of, stored, groups_from, number_at}
use Rattle.plan.specs.Reader.{refusal, take_weight, weight_at, take_difference, difference_at, take_low, link_at, take_link, links_read}
use Rattle.plan.specs.Reader.{take_link_count, link_count_at, take_node_count, read_plan}
use Rattle.plan.specs.Reader.{Reading}
use Rattle.net.specs.inner.LinkSet.{value as set_value, no_links, with_link, has_link, is_empty, comes_before, meeting}
use Rattle.paths.specs.inner.Cost.{no_cost, here_cost, is_known, before, extended}
use Rattle.paths.specs.inner.Column.{entry_at}
use Rattle.paths.specs.inner.Rounds.{start_column, offer, link_offers, makes_offers, offering_from, offering_links, turn_of}
use Rattle.paths.specs.inner.Rounds.{round_from, round_of, rounds_from, settled, blank_from, blanked}
use Rattle.tables.specs.inner.KeyTest.{crosses_link, key_test}
use Rattle.tables.specs.inner.Detours.{dearer_of, noted, nothing_kept, keys_for, forward_cost}
use Rattle.tables.proofs.Tests.{both_true}
use Rattle.walk.specs.Lent.{leaving, hop_at, tables_for, all_below, leads_on, byte_passes, table_passes, tables_pass}
use Rattle.walk.proofs.EntriesPass.{passes_exactly}
use Rattle.sheet.specs.Sheet.{Journey, course_in, plan_a, square_plan, pair_plan, chain_plan, gap_tables, parted_plan, twin_plan, twin_detour}
use Rattle.sheet.specs.Sheet.{Row, routes, keys, forwards, backwards, walks, walks_over, steps, stores, refuses, Holds}
use Rattle.sheet.specs.Sheet.{Every, none, more, rows}
use Rattle.sheet.proofs.Computed.{told, cost_but, cost_all, routed, kept_below, keys_of, forwarded, backwarded, computed}
use Rattle.sheet.proofs.Computed.{routed_entry, keys_are, forwarded_entry, backwarded_entry, computed_built}
use Rattle.sheet.proofs.SameWalk.{same_walk, same_arrival}

-- the check accepts the network, d is a node of it, and a number is below a count
unfoldable pub within : Rows → ℕ → ℕ → ℕ → Bool
within R d a count =
    both (eqb (check_network R).number accepted) (both (ltb d R.nodes) (ltb a count))

-- the row's network is accepted, and the row names nodes and interfaces of it
unfoldable pub fits : Row → Bool
fits (routes R i d byte) = within R d i R.nodes
fits (keys R h d set) = within R d (link h) (length R.low)
fits (forwards R h d byte) = within R d (link h) (length R.low)
fits (backwards R h d byte) = within R d (link h) (length R.low)
fits (walks R j trace ending) = within R j.destination j.source R.nodes
fits (walks_over T R j trace ending) = both (within R j.destination j.source R.nodes) (tables_pass R.nodes R.low R.high T)
fits (steps R h d step) = within R d (link h) (length R.low)
fits (stores v bytes) = true
fits (refuses s number place) = true

unfoldable pub all_fit : List Row → Bool
all_fit [] = true
all_fit (r ∷ rest) = both (fits r) (all_fit rest)

-- what a row gives as the answer to its question
pub data Answer : Type 0 where
  value : ℕ → Answer
  course : List ℕ → Ending → Answer
  said : Step → Answer
  encoded : List ℕ → Answer
  read : Reading → Answer

unfoldable pub given : Row → Answer
given (routes R i d byte) = value byte
given (keys R h d set) = value set
given (forwards R h d byte) = value byte
given (backwards R h d byte) = value byte
given (walks R j trace ending) = course trace ending
given (walks_over T R j trace ending) = course trace ending
given (steps R h d step) = said step
given (stores v bytes) = encoded bytes
given (refuses s number place) = read (refusal number place)

-- and what is computed for it
unfoldable pub course_over : Tables → Rows → Journey → Answer
course_over T R j =
    let c = course_in R j T in
    course (visits (network_of R) j.source c.crossed) c.ending

unfoldable pub answered : Row → Answer
answered (routes R i d byte) = value (byte_of (routed R d i))
answered (keys R h d set) = value (set_value (keys_of R d h))
answered (forwards R h d byte) = value (byte_of (forwarded R d h))
answered (backwards R h d byte) = value (byte_of (backwarded R d h))
answered (walks R j trace ending) = course_over (computed R j.destination) R j
answered (walks_over T R j trace ending) = course_over (tables_for R T j.destination) R j
answered (steps R h d step) = said (step_by (failed_by no_link) (computed R d).backwarding ((computed R d).forwarding h))
answered (stores v bytes) = encoded (stored v)
answered (refuses s number place) = read (read_plan s)

record Within (R : Rows) (d a count : ℕ) : Type 0 where
  network : Accepted R
  destination : d < R.nodes
  below : a < count

within_true : (R : Rows) (d a count : ℕ) → within R d a count ≡ true → Within R d a count
unfolding within
within_true R d a count fit =
    let (checked, numbers) = (both_true (eqb (check_network R).number accepted) _).0 fit in
    let (node, other) = (both_true (ltb d R.nodes) _).0 numbers in
    record { network = check_accepts R (eqb-true _ _ checked); destination = ltb-true _ _ node; below = ltb-true _ _ other }

-- a row that fits, and gives what is computed, holds
row_holds : (r : Row) → fits r ≡ true → answered r ≡ given r → Holds r
unfolding Holds fits answered given course_over
row_holds (routes R i d byte) fit same =
    let t = within_true R d i R.nodes fit in
    record { hop = routed R d i; entry = routed_entry R t.network d t.destination i t.below; is = cc }
row_holds (keys R h d set) fit same =
    let t = within_true R d (link h) (length R.low) fit in
    let is : set ≡ set_value (keys_of R d h) = cc in
    rw is (keys_are R t.network d t.destination h (row_present R (link h) t.below))
row_holds (forwards R h d byte) fit same =
    let t = within_true R d (link h) (length R.low) fit in
    let up = row_present R (link h) t.below in
    record { hop = forwarded R d h; entry = forwarded_entry R t.network d t.destination h up; is = cc }
row_holds (backwards R h d byte) fit same =
    let t = within_true R d (link h) (length R.low) fit in
    let up = row_present R (link h) t.below in
    record { hop = backwarded R d h; entry = backwarded_entry R t.network d t.destination h up; is = cc }
row_holds (walks R j trace ending) fit same =
    let t = within_true R j.destination j.source R.nodes fit in
    λ T built.
    let W = well_formed R t.network in
    let also = computed_built R t.network j.destination t.destination in
    rw (same_walk (network_of R) W (failed_by j.failure) j.destination T (computed R j.destination) built also
    j.limit j.source t.below)
    (record { visited = cc; ended = cc })
row_holds (walks_over T R j trace ending) fit same =
    let (numbers, pass) = (both_true (within R j.destination j.source R.nodes) _).0 fit in
    let t = within_true R j.destination j.source R.nodes numbers in
    ((passes_exactly R t.network T).0 pass, record { visited = cc; ended = cc })
row_holds (steps R h d step) fit same =
    let t = within_true R d (link h) (length R.low) fit in
    λ T built.
    let also = computed_built R t.network d t.destination in
    rw (same_arrival (network_of R) (well_formed R t.network) (failed_by no_link) d T (computed R d) built also h
    (row_present R (link h) t.below))
    (cc)
row_holds (stores v bytes) fit same = cc
row_holds (refuses s number place) fit same = cc

all_hold : (table : List Row) → all_fit table ≡ true → map answered table ≡ map given table → Every Holds table
unfolding all_fit
all_hold [] fit same = none
all_hold (r ∷ rest) fit same =
    let (here, others) = (both_true (fits r) _).0 fit in
    more (row_holds r here (cc)) (all_hold rest others (cc))

pub bench_sheet : Every Holds rows
unfolding rows all_fit fits within given answered course_over
    plan_a square_plan pair_plan chain_plan gap_tables parted_plan twin_plan twin_detour
    descends lighter_twin span_before bad_ends bad_weight link_fault links_from rows_differ bad_node_count check_network
    link reverse by_direction tail head visits failed_by around step_by ends_by crossing goes_on walk_from walk_of byte_of
    set_value no_links with_link has_link is_empty comes_before meeting no_cost here_cost is_known before extended entry_at
    start_column offer link_offers makes_offers offering_from offering_links turn_of round_from round_of rounds_from settled blank_from blanked
    crosses_link key_test dearer_of noted nothing_kept keys_for forward_cost
    told cost_but cost_all routed kept_below keys_of forwarded backwarded computed
    leaving hop_at tables_for all_below leads_on byte_passes table_passes tables_pass
    groups_of stored groups_from number_at refusal take_weight weight_at take_difference difference_at take_low link_at take_link links_read
    take_link_count link_count_at take_node_count read_plan
bench_sheet = all_hold rows refl refl
