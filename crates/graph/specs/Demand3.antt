-- Demand 3 of a course, for the mathematics. The promise of the public entries, of a walk's answer and trace, is `Demand3` of crate walk;
-- its proof stands on this one. "With at most one failed link, the walk over the built tables is delivered exactly if a chain of working
-- links exists: at most 2n - 3 hops, each working, no link twice in one direction; else it ends at the start or at the failed link within
-- n - 2 hops." Each definition stands under the words that it says; `Demand3` is the whole, of the course of one walk.
use Rattle.std.specs.Prelude.{◌≡◌, ◌≢◌, ◌⊎◌, ◌↔◌, Bool, true, false, List, [], ℕ, ◌+◌, ◌*◌, ◌<◌, ◌≤◌, length}
use Rattle.std.proofs.Math.Option.{Option}
use Rattle.graph.specs.Network.{Network, link, tail}
use Rattle.graph.specs.Path.{Chain, Over, Distinct}
use Rattle.graph.specs.Entries.{onward, RoutingEntry, ForwardingEntry, BackwardingEntry}
use Rattle.graph.specs.Walk.{Tables, failed_by, delivered, unrouted, dropped, Course}

-- "the built tables": the entries for destination d are what the three definitions say
pub record BuiltEntries (N : Network) (d : ℕ) (T : Tables) : Type 0 where
  pub routing : (i : ℕ) → i < N.nodes → RoutingEntry N d i (T.routing i)
  pub forwarding : (h : ℕ) → N.Present (link h) → ForwardingEntry N d h (T.forwarding h)
  pub backwarding : (h : ℕ) → N.Present (link h) → BackwardingEntry N d h (T.backwarding h)

-- the link has not failed
abbrev pub Works : (ℕ → Bool) → ℕ → Type 0
Works failed k = failed k ≡ false

-- "a chain of working links exists"
abbrev pub Joined : Network → Option ℕ → ℕ → ℕ → Type 0
Joined N failure s d = (p : List ℕ) × Chain N s p d × Over (Works (failed_by failure)) p

-- "at most 2n - 3 hops, each working, no link twice in one direction": the hops of a delivered packet, by interface, lead from s to d
pub record Arrived (N : Network) (failure : Option ℕ) (s d : ℕ) (c : Course) : Type 0 where
  pub chain : Chain N s c.crossed d
  pub works : Over (Works (failed_by failure)) c.crossed
  pub hops : length c.crossed + 3 ≤ 2 * N.nodes
  pub once : Distinct c.crossed

-- "else it ends at the start": there is no entry to follow, and no chain of links joins the two nodes, failed or not
pub record Unrouted (N : Network) (s d : ℕ) (c : Course) : Type 0 where
  pub ending : c.ending ≡ unrouted
  pub stays : c.crossed ≡ []
  pub no_chain : (p : List ℕ) → Chain N s p d → ⊥

-- "or at the failed link within n - 2 hops": the packet came, over working links, to the tail of an interface of that link, which is
-- the routing entry there
pub record Dropped (N : Network) (failure : Option ℕ) (s d : ℕ) (c : Course) : Type 0 where
  pub ending : c.ending ≡ dropped
  pub meets : ℕ
  pub failed : failed_by failure (link meets) ≡ true
  pub routed : RoutingEntry N d (tail N meets) (onward meets)
  pub chain : Chain N s c.crossed (tail N meets)
  pub works : Over (Works (failed_by failure)) c.crossed
  pub hops : length c.crossed + 2 ≤ N.nodes

-- "is delivered exactly if a chain of working links exists", and how it goes then and else
pub record Demand3 (N : Network) (failure : Option ℕ) (s d : ℕ) (c : Course) : Type 0 where
  pub exactly : (c.ending ≡ delivered) ↔ Joined N failure s d
  pub arrived : c.ending ≡ delivered → Arrived N failure s d c
  pub refused : c.ending ≢ delivered → Unrouted N s d c ⊎ Dropped N failure s d c
