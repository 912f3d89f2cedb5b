-- The bench sheet of document 01: all its rows marked P in one table, with those of document 02's requests, and what it means that a row
-- holds. A row says something of the definitions, not of a program: the entries and key links are those that the papers define, and a
-- step or a walk is told of any tables that hold the defined entries (proofs/Computed.antt computes such tables), where the row does not
-- bring tables of its own.
use Rattle.std.specs.Prelude.{ℕ, ◌≡◌, List, [], ◌∷◌, length}
use Rattle.std.proofs.Math.Option.{Option, none as no_link, some as one_link}
use Rattle.graph.specs.Network.{Network}
use Rattle.graph.specs.Path.{visits}
use Rattle.graph.specs.Set.{SetOf}
use Rattle.graph.specs.Entries.{KeyLink}
use Rattle.graph.specs.Walk.{Tables, failed_by, Step, nothing, step_by, Ending, delivered, unrouted, dropped, exhausted, Course, walk_of}
use Rattle.graph.specs.Demand3.{BuiltEntries}
use Rattle.net.specs.Limits.{report_hops}
use Rattle.net.specs.Rows.{Rows, network_of}
use Rattle.plan.specs.Number.{stored}
use Rattle.plan.specs.Reader.{read_plan, refusal}
use Rattle.tables.specs.Lent.{LentTables}
use Rattle.tables.specs.Entry.{RoutingByte, ForwardingByte, BackwardingByte}
use Rattle.walk.specs.Lent.{tables_for, TablesPass}

-- one walk: which link has failed, source, destination and hop limit
pub record Journey : Type 0 where
  pub failure : Option ℕ
  pub source : ℕ
  pub destination : ℕ
  pub limit : ℕ

-- its course on a network over some tables
abbrev pub course_in : Rows → Journey → Tables → Course
course_in R j T = walk_of (network_of R) (failed_by j.failure) T j.destination j.limit j.source

-- a row of the sheet; its network is given as in memory, by node count, low ends, high ends and weights
pub data Row : Type 0 where
  -- the routing entry of the node for the destination is this byte
  routes : Rows → ℕ → ℕ → ℕ → Row
  -- the key links of the interface for the destination are this set
  keys : Rows → ℕ → ℕ → ℕ → Row
  -- the forwarding entry of the interface for the destination is this byte
  forwards : Rows → ℕ → ℕ → ℕ → Row
  -- the backwarding entry of the interface for the destination is this byte
  backwards : Rows → ℕ → ℕ → ℕ → Row
  -- the walk visits these nodes, its source first, so one more than it has hops, and ends so
  walks : Rows → Journey → List ℕ → Ending → Row
  -- the same over these tables as they are lent, which pass refusal 16 but need not hold the defined entries
  walks_over : LentTables → Rows → Journey → List ℕ → Ending → Row
  -- on arrival over the interface, away from the destination and with no link failed, the step says this
  steps : Rows → ℕ → ℕ → Step → Row
  -- the number is stored as these bytes
  stores : ℕ → List ℕ → Row
  -- these bytes, as a plan, get this refusal number at this place
  refuses : List ℕ → ℕ → ℕ → Row

-- the course of a walk, as the nodes visited and the ending
pub record Visits (N : Network) (source : ℕ) (c : Course) (trace : List ℕ) (ending : Ending) : Type 0 where
  pub visited : visits N source c.crossed ≡ trace
  pub ended : c.ending ≡ ending

unfoldable pub Holds : Row → Type 0
Holds (routes R i d byte) = RoutingByte (network_of R) i d byte
Holds (keys R h d set) = SetOf (length R.low) (KeyLink (network_of R) d h) set
Holds (forwards R h d byte) = ForwardingByte (network_of R) h d byte
Holds (backwards R h d byte) = BackwardingByte (network_of R) h d byte
Holds (walks R j trace ending) =
    (T : Tables) → BuiltEntries (network_of R) j.destination T → Visits (network_of R) j.source (course_in R j T) trace ending
Holds (walks_over T R j trace ending) =
    TablesPass (network_of R) T × Visits (network_of R) j.source (course_in R j (tables_for R T j.destination)) trace ending
Holds (steps R h d step) =
    (T : Tables) → BuiltEntries (network_of R) d T → step_by (failed_by no_link) T.backwarding (T.forwarding h) ≡ step
Holds (stores v bytes) = stored v ≡ bytes
Holds (refuses s number place) = read_plan s ≡ refusal number place

pub data Every (P : Row → Type 0) : List Row → Type 0 where
  none : Every P []
  more : {r : Row} {rows : List Row} → P r → Every P rows → Every P (r ∷ rows)

-- "Plan A: weights 0-1 1, 0-2 4, 0-3 9, 1-2 1, 2-3 1." The links are numbered 0 to 4 in this order, and interface 2k is link k entered
-- from its low end.
unfoldable pub plan_a : Rows
plan_a =
    record {
      nodes = 4;
      low = 0 ∷ 0 ∷ 0 ∷ 1 ∷ 2 ∷ [];
      high = 1 ∷ 2 ∷ 3 ∷ 2 ∷ 3 ∷ [];
      weight = 1 ∷ 4 ∷ 9 ∷ 1 ∷ 1 ∷ [];
    }

-- "square 0-1, 0-2, 1-3, 2-3, all weight 1"
unfoldable pub square_plan : Rows
square_plan =
    record { nodes = 4; low = 0 ∷ 0 ∷ 1 ∷ 2 ∷ []; high = 1 ∷ 2 ∷ 3 ∷ 3 ∷ []; weight = 1 ∷ 1 ∷ 1 ∷ 1 ∷ [] }

-- "two nodes, their one link"
unfoldable pub pair_plan : Rows
pair_plan = record { nodes = 2; low = 0 ∷ []; high = 1 ∷ []; weight = 1 ∷ [] }

-- three nodes in a row, of weight 1
unfoldable pub chain_plan : Rows
chain_plan = record { nodes = 3; low = 0 ∷ 1 ∷ []; high = 1 ∷ 2 ∷ []; weight = 1 ∷ 1 ∷ [] }

-- its tables, but for a gap: the forwarding entry of 0 to 1 for 2. The rows are those of nodes 0 to 2, and of 0 to 1, 1 to 0, 1 to 2, 2 to 1.
unfoldable pub gap_tables : LentTables
gap_tables =
    record {
      routing = 254 ∷ 0 ∷ 0 ∷ 0 ∷ 254 ∷ 1 ∷ 1 ∷ 1 ∷ 254 ∷ [];
      forwarding = 0 ∷ 254 ∷ 255 ∷ 254 ∷ 0 ∷ 0 ∷ 1 ∷ 1 ∷ 254 ∷ 0 ∷ 254 ∷ 1 ∷ [];
      backwarding = 254 ∷ 255 ∷ 255 ∷ 255 ∷ 254 ∷ 1 ∷ 0 ∷ 254 ∷ 255 ∷ 255 ∷ 255 ∷ 254 ∷ [];
    }

-- three nodes, their one link between the first two
unfoldable pub parted_plan : Rows
parted_plan = record { nodes = 3; low = 0 ∷ []; high = 1 ∷ []; weight = 1 ∷ [] }

-- two nodes, and two links between them of equal weight
unfoldable pub twin_plan : Rows
twin_plan = record { nodes = 2; low = 0 ∷ 0 ∷ []; high = 1 ∷ 1 ∷ []; weight = 1 ∷ 1 ∷ [] }

-- two links 0-1, of weights 1 and 2, a link 1-2 of weight 1 and a detour 0-2 of weight 9; in order, 0-1, 0-1, 0-2, 1-2
unfoldable pub twin_detour : Rows
twin_detour =
    record { nodes = 3; low = 0 ∷ 0 ∷ 0 ∷ 1 ∷ []; high = 1 ∷ 1 ∷ 2 ∷ 2 ∷ []; weight = 1 ∷ 2 ∷ 9 ∷ 1 ∷ [] }

-- from s to d with one link failed, and with the report's hop limit, which no delivered packet of these networks uses up
abbrev pub failing : ℕ → ℕ → ℕ → Journey
failing link s d = record { failure = one_link link; source = s; destination = d; limit = report_hops }

unfoldable pub rows : List Row
rows =
    -- "routing entry of 0 for 3 is 1." "Bench rows that give an entry then give its link." (document 02, L5) 0-1 is link 0.
    routes plan_a 0 3 0
    -- "key links of 1 to 0 for 3 are links 3 and 4 (set value 24)."
    ∷ keys plan_a 1 3 24
    -- "forwarding 1 to 0 for 3 is 3; P: forwarding 2 to 0 for 3 is 1." By links, 0-3 and 0-1.
    ∷ forwards plan_a 1 3 2
    ∷ forwards plan_a 3 3 0
    -- "backwarding 0 to 1 for 3 is 2", by link 0-2; "Backwarding 1 to 0 for 3 becomes 255 and that bench row changes." (document 02, L2)
    ∷ backwards plan_a 0 3 1
    ∷ backwards plan_a 1 3 255
    -- "0 to 3, link 1-2 failed: 0 1 0 3, though 0 2 3 would be cheaper after 0."
    ∷ walks plan_a (failing 3 0 3) (0 ∷ 1 ∷ 0 ∷ 3 ∷ []) delivered
    -- "0 to 3, link 2-3 failed: 0 1 2 1 0 3, 5 hops, which is 2n - 3. With hop limit 4: ending 3, trace 0 1 2 1 0."
    ∷ walks plan_a (failing 4 0 3) (0 ∷ 1 ∷ 2 ∷ 1 ∷ 0 ∷ 3 ∷ []) delivered
    ∷ walks plan_a (record { failure = one_link 4; source = 0; destination = 3; limit = 4 }) (0 ∷ 1 ∷ 2 ∷ 1 ∷ 0 ∷ []) exhausted
    -- "source equals destination: delivered, 0 hops."
    ∷ walks plan_a (record { failure = no_link; source = 0; destination = 0; limit = report_hops }) (0 ∷ []) delivered
    -- "square 0-1, 0-2, 1-3, 2-3, all weight 1: routing entry of 0 for 3 is 1." By link, 0-1.
    ∷ routes square_plan 0 3 0
    -- "two nodes, their one link failed: ending 2, 0 hops."
    ∷ walks pair_plan (failing 0 0 1) (0 ∷ []) dropped
    -- "A walk over other tables that finds nothing on arrival is told as ending 2" (document 02, L7): 0 to 2, no link failed
    ∷ walks_over gap_tables chain_plan (record { failure = no_link; source = 0; destination = 2; limit = report_hops }) (0 ∷ 1 ∷ []) dropped
    -- "A single step asked on an arrival that no walk makes still says that there is nothing to follow" (there): at 1 from 0, for 2,
    -- which the walk from 0 cannot set out for
    ∷ steps parted_plan 0 2 nothing
    ∷ walks parted_plan (record { failure = no_link; source = 0; destination = 2; limit = report_hops }) (0 ∷ []) unrouted
    -- "equal pairs stand in ascending order of weight, equal weights allowed" (document 02, L5): of equal twins the lower is the entry
    ∷ routes twin_plan 0 1 0
    -- "backwarding entries take out that link alone": the sibling is left, and a packet takes it when the link has failed
    ∷ backwards twin_plan 0 1 1
    ∷ walks twin_plan (failing 0 0 1) (0 ∷ 1 ∷ []) delivered
    -- "Key links ask that the interface's own link, taken backwards, is the routing entry, and that the path crosses that link": 1 to 0
    -- over link 0 has the key link 1-2 for 2, and over its twin none, so that the one forwards to 0-2 and the other sends back
    ∷ keys twin_detour 1 2 8
    ∷ keys twin_detour 3 2 0
    ∷ forwards twin_detour 1 2 2
    ∷ forwards twin_detour 3 2 0
    -- "Traces still show nodes": 1-2 failed, and one of the twins failed
    ∷ walks twin_detour (failing 3 0 2) (0 ∷ 1 ∷ 0 ∷ 2 ∷ []) delivered
    ∷ walks twin_detour (failing 0 0 2) (0 ∷ 1 ∷ 2 ∷ []) delivered
    -- "Refusal 7 is then given only for a descending pair, or an equal pair with a smaller weight; for parallel links this last check
    -- comes after 6": 0-1 with weight 5, then 0-1 with weight 4 and with weight 0
    ∷ refuses (0x02 ∷ 0x02 ∷ 0x00 ∷ 0x01 ∷ 0x05 ∷ 0x00 ∷ 0x01 ∷ 0x04 ∷ []) 7 5
    ∷ refuses (0x02 ∷ 0x02 ∷ 0x00 ∷ 0x01 ∷ 0x05 ∷ 0x00 ∷ 0x01 ∷ 0x00 ∷ []) 6 7
    -- "300 is stored as AC 02. 65,535 is FF FF 03; 80 80 04 as weight is refusal 6; 80 00 is 2." The weight stands in a plan of two
    -- nodes and one link, at byte 4; 80 00 stands as a node count.
    ∷ stores 300 (0xAC ∷ 0x02 ∷ [])
    ∷ stores 65535 (0xFF ∷ 0xFF ∷ 0x03 ∷ [])
    ∷ refuses (0x02 ∷ 0x01 ∷ 0x00 ∷ 0x01 ∷ 0x80 ∷ 0x80 ∷ 0x04 ∷ []) 6 4
    ∷ refuses (0x80 ∷ 0x00 ∷ []) 2 0
    ∷ []
