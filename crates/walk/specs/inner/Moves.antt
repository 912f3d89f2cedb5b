-- What the two moves and a whole walk promise: graph's walk over the lent tables, by its ending, its count and the nodes in the trace.
use Rattle.std.specs.Prelude.{ℕ, ◌+◌, ◌-◌, ◌*◌, ◌^◌, ◌<◌, Bool, true, false, ◌≡◌, List, map, length}
use Rattle.graph.specs.Network.{Network, head}
use Rattle.graph.specs.Path.{visits}
use Rattle.graph.specs.Walk.{Ending, unrouted, dropped, Course, around, goes_on, walk_from, walk_on}
use Rattle.net.specs.Rows.{Rows, network_of}
use Rattle.net.specs.Failure.{fails}
use Rattle.net.specs.inner.Overwritten.{overwritten}
use Rattle.tables.specs.Lent.{LentTables}
use Rattle.walk.specs.Lent.{hop_at, tables_for}
use Rattle.walk.specs.Walk.{ending_named}
use Rattle.net.specs.declared.interface.Node.{Node}
use Rattle.walk.specs.declared.question.Question.{Question}
use Rattle.walk.specs.declared.moves.Packet.{Packet}
use Rattle.walk.specs.declared.walked.Walked.{Walked}

-- the ending where nothing is to be followed: at the start, or "on arrival" (document 02, L7)
unfoldable pub lost_ending : Bool → Ending
lost_ending false = unrouted
lost_ending true = dropped

-- the packet after one hop more
unfoldable pub moved_on : Packet → Node → ℕ → Packet
moved_on packet node entry =
    record { node = node; entry = entry; left = packet.left - 1; hops = packet.hops + 1; arrived = true }

-- at least one hop is left, and the hops made can be counted on
pub record HopLeft (packet : Packet) : Type 0 where
  pub some : 0 < packet.left
  pub counts : packet.hops + 1 < 2 ^ 64

-- the walk from where the packet stands
unfoldable pub course_from : Rows → LentTables → Question → Packet → Course
course_from R T question packet =
    let d = question.destination.0 in
    let i = packet.node.0 in
    walk_from (network_of R) (fails question.failure) (tables_for R T d) d packet.left i (hop_at R.low R.high i packet.entry)
    (lost_ending packet.arrived)

-- the same past the failed link: by the backwarding entry of interface f, at least one hop being left
unfoldable pub course_around : Rows → LentTables → Question → Packet → ℕ → Course
course_around R T question packet f =
    let d = question.destination.0 in
    let failed = fails question.failure in
    let entries = tables_for R T d in
    goes_on (walk_on (network_of R) failed entries d (packet.left - 1)) dropped (around failed (entries.backwarding f))

-- what is known where a packet stands at a node
pub record Standing (R : Rows) (question : Question) (packet : Packet) (trace : List ℕ) : Type 0 where
  pub destination : question.destination.0 < R.nodes
  pub node : packet.node.0 < R.nodes
  pub room : packet.hops + packet.left < length trace

-- and where its entry leads over the failed link, by interface f
pub record Turning (R : Rows) (question : Question) (packet : Packet) (f : ℕ) (trace : List ℕ) : Type 0 where
  pub standing : Standing R question packet trace
  pub some : 0 < packet.left
  pub interface : f < 2 * length R.low

-- what a move answers and leaves in the trace, `hops` links having been crossed before it
pub record Went (N : Network) (course : Course) (hops : ℕ) (before : List ℕ) (r : Walked) (after : List ℕ) : Type 0 where
  pub ending : ending_named r.ending ≡ course.ending
  pub hops_more : r.hops ≡ hops + length course.crossed
  pub trace : after ≡ overwritten before (hops + 1) (map (head N) course.crossed)

-- what is known where a walk is made
pub record Setting (R : Rows) (s : ℕ) (question : Question) (limit : ℕ) (trace : List ℕ) : Type 0 where
  pub source : s < R.nodes
  pub destination : question.destination.0 < R.nodes
  pub room : limit < length trace

-- a whole walk from s: the source stands first in the trace
pub record WentFrom (N : Network) (s : ℕ) (course : Course) (before : List ℕ) (r : Walked) (after : List ℕ) : Type 0 where
  pub ending : ending_named r.ending ≡ course.ending
  pub hops : r.hops ≡ length course.crossed
  pub trace : after ≡ overwritten before 0 (visits N s course.crossed)
