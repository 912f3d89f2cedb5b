-- Demand 3 of the answer and the trace of one walk: "With at most one failed link, the walk over the built tables is delivered exactly
-- if a chain of working links exists: at most 2n - 3 hops, each working, no link twice in one direction; else it ends at the start or at
-- the failed link within n - 2 hops." Each definition stands under the words that it says. That every walk over built tables has it is
-- demand_3 of proofs/Demand3Built.antt.
use Rattle.std.specs.Prelude.{ℕ, ◌+◌, ◌*◌, ◌<◌, ◌≤◌, ◌≡◌, ◌≢◌, ◌⊎◌, ◌↔◌, true, List, ◌++◌, length, drop}
use Rattle.graph.specs.Network.{Network, link, tail}
use Rattle.graph.specs.Path.{Chain, Over, Distinct, visits}
use Rattle.graph.specs.Entries.{onward, RoutingEntry}
use Rattle.graph.specs.Walk.{delivered, unrouted, dropped}
use Rattle.graph.specs.Demand3.{Works}
use Rattle.net.specs.Refusals.{accepted}
use Rattle.net.specs.Failure.{fails}
use Rattle.net.specs.declared.failure.Failure.{Failure}
use Rattle.net.specs.declared.failure.Failure.TheVariants.{Nothing as NoFailure, One}
use Rattle.walk.specs.Walk.{ending_number, Walked}

-- "at most one failed link": none, or one of the network's
abbrev pub AtMostOne : ℕ → Failure → Type 0
AtMostOne links NoFailure = Unit {0}
AtMostOne links (One l) = l.0 < links

-- "a chain of working links exists"
abbrev pub Joined : Network → Failure → ℕ → ℕ → Type 0
Joined N failure s d = (p : List ℕ) × Chain N s p d × Over (Works (fails failure)) p

-- "at most 2n - 3 hops, [..] no link twice in one direction": the interfaces crossed lead from s to d
pub record Arrived (N : Network) (s d : ℕ) (crossed : List ℕ) (r : Walked) : Type 0 where
  pub chain : Chain N s crossed d
  pub hops : r.hops + 3 ≤ 2 * N.nodes
  pub once : Distinct crossed

-- "else it ends at the start": ending 1 after no hop, and no chain of links joins the two nodes, failed or not
pub record AtStart (N : Network) (s d : ℕ) (r : Walked) : Type 0 where
  pub ending : r.ending ≡ ending_number unrouted
  pub hops : r.hops ≡ 0
  pub no_chain : (p : List ℕ) → Chain N s p d → ⊥

-- "or at the failed link within n - 2 hops": ending 2 at the tail of an interface of that link, which is the routing entry there
pub record AtFailedLink (N : Network) (failure : Failure) (s d : ℕ) (crossed : List ℕ) (r : Walked) : Type 0 where
  pub ending : r.ending ≡ ending_number dropped
  pub meets : ℕ
  pub failed : fails failure (link meets) ≡ true
  pub routed : RoutingEntry N d (tail N meets) (onward meets)
  pub chain : Chain N s crossed (tail N meets)
  pub hops : r.hops + 2 ≤ N.nodes

-- The whole, of a walk from s to d that answered r and left the trace `after` where `before` stood. `crossed` are the interfaces
-- crossed, "each working": "A hop of demand 3 is over the link of the interface that its step answers" (document 02, L5). The count is
-- their number, and the trace is the nodes of that chain, source first.
pub record Demand3 (N : Network) (failure : Failure) (s d : ℕ) (before : List ℕ) (r : Walked) (after : List ℕ) : Type 0 where
  pub number : r.number ≡ accepted
  pub place : r.place ≡ 0
  pub crossed : List ℕ
  pub works : Over (Works (fails failure)) crossed
  pub hops : r.hops ≡ length crossed
  pub trace : after ≡ visits N s crossed ++ drop (r.hops + 1) before
  pub exactly : (r.ending ≡ ending_number delivered) ↔ Joined N failure s d
  pub arrived : r.ending ≡ ending_number delivered → Arrived N s d crossed r
  pub refused : r.ending ≢ ending_number delivered → AtStart N s d r ⊎ AtFailedLink N failure s d crossed r
