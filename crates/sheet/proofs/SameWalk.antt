-- Tables that hold the defined entries give one and the same walk, and one step on arrival. Entries are determined, and a walk reads the
-- entries of its source and of interfaces that it crosses or finds failed; each of these is the first of some path, so its link is
-- present and its entries are the defined ones in both tables.
use Prim.Native.Nat.{ℕ, zero, suc, ◌<◌}
use mathlib.Core.Bool.{Bool, true, false}
use mathlib.Core.Path.{◌≡◌, refl, ap, ◌∙◌}
use lib.Dec.{eqb}
use Rattle.graph.specs.Network.{Network, WellFormed, link, head}
use Rattle.graph.specs.Entries.{Hop, here, onward, nowhere, Entry, at_destination, starts, lacks}
use Rattle.graph.specs.Walk.{Tables, Step, crosses, nothing, drops, around, step_by, Ending, delivered, unrouted}
use Rattle.graph.specs.Walk.{Course, ends_by, crossing, goes_on, walk_from, walk_on, walk_of}
use Rattle.graph.specs.Demand3.{BuiltEntries}
use Rattle.graph.proofs.Chain.{first_present}
use Rattle.graph.proofs.Entries.{entry_one}

-- an entry that leads onward, and a step that crosses, do so over a present link
data LeadsOver (N : Network) : Hop → Type 0 where
  stays : LeadsOver N here
  ends : LeadsOver N nowhere
  leads : {f : ℕ} → N.Present (link f) → LeadsOver N (onward f)

data StepsOver (N : Network) : Step → Type 0 where
  loses : StepsOver N nothing
  gives_up : StepsOver N drops
  steps : {f : ℕ} → N.Present (link f) → StepsOver N (crosses f)

entry_leads : (N : Network) {X : ℕ → Type 0} {i d : ℕ} {e : Hop} → Entry N X i d e → LeadsOver N e
entry_leads N (at_destination e) = stays
entry_leads N (starts n t) = leads (first_present N t.path.chain)
entry_leads N (lacks n c) = ends

module _ (N : Network) (W : WellFormed N) (failed : ℕ → Bool) (d : ℕ) (T U : Tables)
    (built : BuiltEntries N d T) (also : BuiltEntries N d U) where
  around_over : {e : Hop} → LeadsOver N e → StepsOver N (around failed e)
  unfolding around
  around_over stays = gives_up
  around_over ends = gives_up
  around_over (leads {f} up) = by_failure (failed (link f))
    where
      by_failure : (b : Bool) → StepsOver N (elim b [ true ↦ drops | false ↦ crosses f ])
      by_failure true = gives_up
      by_failure false = steps up

  step_over : {e : Hop} → LeadsOver N e → StepsOver N (step_by failed T.backwarding e)
  unfolding step_by
  step_over stays = loses
  step_over ends = loses
  step_over (leads {f} up) = by_failure (failed (link f))
    where
      by_failure : (b : Bool) → StepsOver N (elim b [ true ↦ around failed (T.backwarding f) | false ↦ crosses f ])
      by_failure true = around_over (entry_leads N (built.backwarding f up))
      by_failure false = steps up

  same_step : {e : Hop} → LeadsOver N e → step_by failed T.backwarding e ≡ step_by failed U.backwarding e
  unfolding step_by
  same_step stays = refl
  same_step ends = refl
  same_step (leads {f} up) =
      ap (λ (g : Hop). elim (failed (link f)) as (λ x. Step) [ true ↦ around failed g | false ↦ crosses f ])
      (entry_one N W (built.backwarding f up) (also.backwarding f up))

  -- and so does the step on arrival over a present link
  pub same_arrival : (h : ℕ) → N.Present (link h)
      → step_by failed T.backwarding (T.forwarding h) ≡ step_by failed U.backwarding (U.forwarding h)
  same_arrival h up =
      same_step (entry_leads N (built.forwarding h up))
      ∙ ap (step_by failed U.backwarding) (entry_one N W (built.forwarding h up) (also.forwarding h up))

  -- the walk after a step
  abbrev after : Tables → ℕ → Ending → Step → Course
  after S limit = goes_on (walk_on N failed S d limit)

  same_after : (limit : ℕ) (lost : Ending) {s : Step} → StepsOver N s
      → ((f : ℕ) → N.Present (link f) → walk_on N failed T d limit f ≡ walk_on N failed U d limit f)
      → after T limit lost s ≡ after U limit lost s
  unfolding goes_on
  same_after limit lost loses next = refl
  same_after limit lost gives_up next = refl
  same_after limit lost (steps {f} up) next = ap (crossing f) (next f up)

  same_from : (limit i : ℕ) {e : Hop} (lost : Ending) → LeadsOver N e
      → walk_from N failed T d limit i e lost ≡ walk_from N failed U d limit i e lost
  unfolding walk_from
  same_from zero i lost over = refl
  same_from (suc limit) i {e} lost over =
      ap (λ (c : Course). elim (eqb i d) as (λ x. Course) [ true ↦ ends_by delivered | false ↦ c ])
      (same_after limit lost (step_over over) (λ f up.
      rw (entry_one N W (also.forwarding f up) (built.forwarding f up))
      (same_from limit (head N f) _ (entry_leads N (built.forwarding f up))))
      ∙ ap (after U limit lost) (same_step over))

  pub same_walk : (limit s : ℕ) → s < N.nodes → walk_of N failed T d limit s ≡ walk_of N failed U d limit s
  unfolding walk_of
  same_walk limit s node =
      rw (entry_one N W (also.routing s node) (built.routing s node)) (same_from limit s unrouted (entry_leads N (built.routing s node)))
