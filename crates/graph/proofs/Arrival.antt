-- What a packet finds where it arrives, over right entries and whatever has failed. At the destination it is delivered, before the hop
-- limit is looked at. Elsewhere there is an entry to follow: the interface that it came over is the first of some best path to the
-- destination, so its head is joined to it, and a forwarding entry leads on wherever that is so. So the step finds nothing to follow at
-- the start alone, and a packet that is dropped stands at a failed link.
use mathlib.Core.Path.{◌≡◌, refl, sym}
use mathlib.Core.Logic.{◌≢◌}
use mathlib.Core.Bool.{Bool, true, false}
use mathlib.Core.List.{List, [], ◌∷◌}
use Prim.Native.Nat.{ℕ, zero, suc, ◌<◌}
use native.Mathlib.Decide.{ℕ_discrete}
use native.Mathlib.Omega.{arith}
use borrow.Author.Tests.{eq-eqb, ne_eqb}
use Rattle.graph.specs.Network.{Network, WellFormed, link, tail, head}
use Rattle.graph.specs.Path.{Chain, stop, step, none, both}
use Rattle.graph.specs.Entries.{Free, Hop, onward, nowhere, Entry, at_destination, starts, lacks}
use Rattle.graph.specs.Walk.{Tables, Step, crosses, nothing, drops, around, step_by, Ending, delivered, unrouted, dropped, exhausted}
use Rattle.graph.specs.Walk.{Course, ends_by, crossing, goes_on, walk_from, walk_on, walk_of}
use Rattle.graph.specs.Arrival.{FindsEntries, last_entry, StopsAtFailedLink}
use Rattle.graph.specs.Later.{RightEntries}
use Rattle.graph.proofs.Entries.{forwarding_leads}
use Rattle.graph.proofs.Walk.{arrives, goes_walk}

-- "destination reached" comes first: a walk that starts there is delivered with no hop, whatever the limit
pub delivered_at_destination : (N : Network) (failed : ℕ → Bool) (T : Tables) (d limit : ℕ)
    → walk_of N failed T d limit d ≡ record { crossed = []; ending = delivered }
unfolding walk_of
delivered_at_destination N failed T d limit = goes_walk limit unrouted (arrives refl) (omega arith)

-- an ending that is another than dropped
abbrev NotDropped : Ending → Type 0
NotDropped delivered = Unit {0}
NotDropped unrouted = Unit {0}
NotDropped dropped = ⊥
NotDropped exhausted = Unit {0}

not_dropped : {ending : Ending} → NotDropped ending → ending ≢ dropped
not_dropped other is = rw is at other

-- an interface that leaves i for a node joined to d
record LeadsTo (N : Network) (i d f : ℕ) : Type 0 where
  present : N.Present (link f)
  leaves : tail N f ≡ i
  rest : List ℕ
  chain : Chain N (head N f) rest d

first_leads : {N : Network} {i f d : ℕ} {p : List ℕ} → Chain N i (f ∷ p) d → LeadsTo N i d f
first_leads {p = p} (step up leaves chain) = record { present = up; leaves = leaves; rest = p; chain = chain }

-- what the step past the failed link may say
data Rerouted (N : Network) (i d : ℕ) : Step → Type 0 where
  goes : {g : ℕ} → LeadsTo N i d g → Rerouted N i d (crosses g)
  given_up : Rerouted N i d drops

-- What a step may say at node i with its entry: it crosses an interface whose head is joined to the destination; it finds nothing, where
-- that is another ending than dropped; or it drops the packet at the failed link.
data Safe (N : Network) (failed : ℕ → Bool) (T : Tables) (i d : ℕ) (entry : Hop) (lost : Ending) : Step → Type 0 where
  leads : {f : ℕ} → LeadsTo N i d f → Safe N failed T i d entry lost (crosses f)
  lost_elsewhere : NotDropped lost → Safe N failed T i d entry lost nothing
  stops : {f : ℕ} → entry ≡ onward f → tail N f ≡ i → failed (link f) ≡ true → around failed (T.backwarding f) ≡ drops
      → Safe N failed T i d entry lost drops

-- what is proved of a course from i with its entry
record Guided (N : Network) (failed : ℕ → Bool) (T : Tables) (i : ℕ) (entry : Hop) (c : Course) : Type 0 where
  finds : FindsEntries T c.crossed
  stops_at : c.ending ≡ dropped → StopsAtFailedLink N failed T i entry c.crossed

ends_otherwise : (N : Network) (failed : ℕ → Bool) (T : Tables) {i : ℕ} {entry : Hop} (ending : Ending) → NotDropped ending
    → Guided N failed T i entry (ends_by ending)
unfolding ends_by
ends_otherwise N failed T ending other = record { finds = none; stops_at = λ is. absurd (not_dropped other is) }

module _ (N : Network) (W : WellFormed N) (d : ℕ) (Y : ℕ → ℕ → Type 0) (T : Tables) (right : RightEntries N d Y T)
    (failed : ℕ → Bool) where
  around_safe : {X : ℕ → Type 0} {i : ℕ} {e : Hop} → Entry N X i d e → Rerouted N i d (around failed e)
  unfolding around
  around_safe (at_destination e) = given_up
  around_safe (lacks n c) = given_up
  around_safe {i = i} (starts {f = g} n t) = by_failure (failed (link g))
    where
      by_failure : (b : Bool) → Rerouted N i d (elim b [ true ↦ drops | false ↦ crosses g ])
      by_failure true = given_up
      by_failure false = goes (first_leads t.path.chain)

  module _ {i : ℕ} (lost : Ending) where
    turned : {f : ℕ} (s : Step) → tail N f ≡ i → failed (link f) ≡ true → around failed (T.backwarding f) ≡ s → Rerouted N i d s
        → Safe N failed T i d (onward f) lost s
    turned (crosses g) leaves down is (goes on) = leads on
    turned nothing leaves down is x = elim x [ ]
    turned drops leaves down is given_up = stops refl leaves down is

    step_safe : {X : ℕ → Type 0} {e : Hop} → i ≢ d → Entry N X i d e → (e ≡ nowhere → NotDropped lost)
        → Safe N failed T i d e lost (step_by failed T.backwarding e)
    unfolding step_by
    step_safe away (at_destination e) found = absurd (away e)
    step_safe away (lacks n c) found = lost_elsewhere (found refl)
    step_safe away (starts {f = f} n t) found = by_failure (failed (link f)) refl
      where
        first : LeadsTo N i d f
        first = first_leads t.path.chain

        by_failure : (b : Bool) → failed (link f) ≡ b
            → Safe N failed T i d (onward f) lost (elim b [ true ↦ around failed (T.backwarding f) | false ↦ crosses f ])
        by_failure true down =
            turned _ first.leaves down refl (rw first.leaves at (around_safe (right.backwarding f first.present)))
        by_failure false up = leads first

    -- where a step is safe the course is guided, if it is so from the node that the step leads to
    by_step : (limit : ℕ) {e : Hop} (s : Step) → Safe N failed T i d e lost s
        → ((f : ℕ) → LeadsTo N i d f → T.forwarding f ≢ nowhere
        → Guided N failed T (head N f) (T.forwarding f) (walk_on N failed T d limit f))
        → Guided N failed T i e (goes_on (walk_on N failed T d limit) lost s)
    unfolding goes_on ends_by crossing last_entry
    by_step limit (crosses f) (leads on) next =
        let entry = right.forwarding f on.present in
        let found : T.forwarding f ≢ nowhere = λ e. forwarding_leads N W d f on.chain (rw e at entry) in
        let rest = next f on found in
        record {
          finds = both found rest.finds;
          stops_at = λ is.
              (let at = rest.stops_at is in
              record {
                meets = at.meets;
                reads = at.reads;
                chain = step on.present on.leaves at.chain;
                down = at.down;
                no_way = at.no_way;
              });
        }
    by_step limit nothing (lost_elsewhere other) next = ends_otherwise N failed T lost other
    by_step limit drops (stops {f} reads leaves down no_way) next =
        record {
          finds = none;
          stops_at = λ _. record { meets = f; reads = reads; chain = stop (sym leaves); down = down; no_way = no_way };
        }

  -- The walk from a node with the entry read there, where to find nothing to follow is another ending: so it is at the start, and on
  -- arrival there is always something.
  from_entry : {X : ℕ → Type 0} {i : ℕ} {e : Hop} (limit : ℕ) (lost : Ending) → Entry N X i d e → (e ≡ nowhere → NotDropped lost)
      → Guided N failed T i e (walk_from N failed T d limit i e lost)
  unfolding walk_from ends_by
  from_entry {i = i} zero lost entry found =
      elim (ℕ_discrete i d) [
        | yes at ↦ rw (eq-eqb i d at, walk_from) (ends_otherwise N failed T delivered tt)
        | no away ↦ rw (ne_eqb i d away, walk_from) (ends_otherwise N failed T exhausted tt)
      ]
  from_entry {X = X} {i = i} {e = e} (suc limit) lost entry found =
      elim (ℕ_discrete i d) [
        | yes at ↦ rw (eq-eqb i d at, walk_from) (ends_otherwise N failed T delivered tt)
        | no away ↦ rw (ne_eqb i d away, walk_from)
            (by_step lost limit _ (step_safe lost away entry found)
            (λ f on there. from_entry {X = Free N d f} {i = head N f} limit dropped (right.forwarding f on.present) (λ e. absurd (there e))))
      ]

  module _ (s limit : ℕ) (s_node : s < N.nodes) where
    guided : Guided N failed T s (T.routing s) (walk_of N failed T d limit s)
    unfolding walk_of
    guided = from_entry limit unrouted (right.routing s s_node) (λ _. tt)

    -- "Over built tables, from any start, a packet that has arrived somewhere always finds an entry", whatever has failed
    pub always_finds : FindsEntries T (walk_of N failed T d limit s).crossed
    always_finds = guided.finds

    -- and ending 2 says what its name says
    pub dropped_at_failed_link : (walk_of N failed T d limit s).ending ≡ dropped
        → StopsAtFailedLink N failed T s (T.routing s) (walk_of N failed T d limit s).crossed
    dropped_at_failed_link = guided.stops_at
