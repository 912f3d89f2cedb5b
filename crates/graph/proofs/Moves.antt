-- The walk told move by move, by the tests that a walker makes in their order: destination reached; hop limit used up; no entry to
-- follow; the entry's link works; it has failed, and the backwarding entry leads on, or the packet is dropped. These are the laws by
-- which code that walks is held against the definition. With them: a walk crosses at most as many links as its limit.
use mathlib.Core.Path.{◌≡◌, refl, ap, ◌∙◌}
use mathlib.Core.Logic.{◌≢◌}
use mathlib.Core.Bool.{Bool, true, false}
use Prim.Native.Nat.{ℕ, zero, suc, ◌-◌, ◌≤◌}
use native.Mathlib.Decide.{ℕ_discrete}
use native.Mathlib.Omega.{arith}
use borrow.Author.Tests.{eq-eqb, ne_eqb}
use lib.ListN.{length}
use Rattle.graph.specs.Network.{Network, link, head}
use Rattle.graph.specs.Entries.{Hop, here, onward, nowhere}
use Rattle.graph.specs.Walk.{Tables, Step, crosses, nothing, drops, around, step_by, Ending, delivered, dropped, exhausted}
use Rattle.graph.specs.Walk.{Course, ends_by, crossing, goes_on, walk_from, walk_on}

-- an entry that leads to no interface
pub data Leadless : Hop → Type 0 where
  at_destination : Leadless here
  without_path : Leadless nowhere

-- the step, by its entry and by whether the link has failed
module _ (failed : ℕ → Bool) (f : ℕ) where
  pub step_along : (entry : ℕ → Hop) → failed (link f) ≡ false → step_by failed entry (onward f) ≡ crosses f
  unfolding step_by
  step_along entry up = rw (up, step_by)

  pub step_around_lem : (entry : ℕ → Hop) → failed (link f) ≡ true → step_by failed entry (onward f) ≡ around failed (entry f)
  unfolding step_by
  step_around_lem entry down = rw (down, step_by)

  pub around_along : failed (link f) ≡ false → around failed (onward f) ≡ crosses f
  unfolding around
  around_along up = rw (up, around)

  pub around_failed : failed (link f) ≡ true → around failed (onward f) ≡ drops
  unfolding around
  around_failed down = rw (down, around)

pub step_nothing : (failed : ℕ → Bool) (entry : ℕ → Hop) {h : Hop} → Leadless h → step_by failed entry h ≡ nothing
unfolding step_by
step_nothing failed entry at_destination = refl
step_nothing failed entry without_path = refl

pub around_nothing : (failed : ℕ → Bool) {h : Hop} → Leadless h → around failed h ≡ drops
unfolding around
around_nothing failed at_destination = refl
around_nothing failed without_path = refl

-- past the failed link there is never nothing to follow, so that ending does not matter
module _ (failed : ℕ → Bool) (next : ℕ → Course) (one other : Ending) where
  by_failure : (g : ℕ) (b : Bool)
      → goes_on next one (elim b [ true ↦ drops | false ↦ crosses g ]) ≡ goes_on next other (elim b [ true ↦ drops | false ↦ crosses g ])
  unfolding goes_on
  by_failure g true = refl
  by_failure g false = refl

  never_nothing : (h : Hop) → goes_on next one (around failed h) ≡ goes_on next other (around failed h)
  unfolding around goes_on
  never_nothing here = refl
  never_nothing nowhere = refl
  never_nothing (onward g) = by_failure g (failed (link g))

-- the walk past the failed link: the backwarding move, with so many hops left after it
abbrev pub walk_around : Network → (ℕ → Bool) → Tables → ℕ → ℕ → Hop → Course
walk_around N failed T d limit entry = goes_on (walk_on N failed T d limit) dropped (around failed entry)

module _ (N : Network) (failed : ℕ → Bool) (T : Tables) (d i : ℕ) where
  -- what is left after a step over an interface
  abbrev onwards : ℕ → ℕ → Course
  onwards = walk_on N failed T d

  pub walk_delivered : (limit : ℕ) (entry : Hop) (lost : Ending) → i ≡ d → walk_from N failed T d limit i entry lost ≡ ends_by delivered
  unfolding walk_from
  walk_delivered zero entry lost e = rw (eq-eqb i d e, walk_from)
  walk_delivered (suc limit) entry lost e = rw (eq-eqb i d e, walk_from)

  module _ (away : i ≢ d) where
    pub walk_exhausted : (limit : ℕ) (entry : Hop) (lost : Ending) → limit ≡ 0
        → walk_from N failed T d limit i entry lost ≡ ends_by exhausted
    unfolding walk_from
    walk_exhausted limit entry lost e = rw e (rw (ne_eqb i d away, walk_from))

    -- a hop is left: the step decides
    walk_steps : (limit : ℕ) (entry : Hop) (lost : Ending) → limit ≢ 0
        → walk_from N failed T d limit i entry lost ≡ goes_on (onwards (limit - 1)) lost (step_by failed T.backwarding entry)
    unfolding walk_from
    walk_steps zero entry lost some = absurd (some refl)
    walk_steps (suc limit) entry lost some =
        let less : suc limit - 1 ≡ limit = omega arith in
        rw (ne_eqb i d away, walk_from, less)

    module _ (limit : ℕ) (some : limit ≢ 0) (lost : Ending) where
      pub walk_lost : (entry : Hop) → Leadless entry → walk_from N failed T d limit i entry lost ≡ ends_by lost
      unfolding goes_on
      walk_lost entry l = walk_steps limit entry lost some ∙ ap (goes_on (onwards (limit - 1)) lost) (step_nothing failed T.backwarding l)

      module _ (f : ℕ) where
        pub walk_on_lem : failed (link f) ≡ false
            → walk_from N failed T d limit i (onward f) lost ≡ crossing f (onwards (limit - 1) f)
        unfolding goes_on
        walk_on_lem up = walk_steps limit (onward f) lost some ∙ ap (goes_on (onwards (limit - 1)) lost) (step_along failed f T.backwarding up)

        pub walk_turns : failed (link f) ≡ true
            → walk_from N failed T d limit i (onward f) lost ≡ walk_around N failed T d (limit - 1) (T.backwarding f)
        walk_turns down =
            walk_steps limit (onward f) lost some ∙ ap (goes_on (onwards (limit - 1)) lost) (step_around_lem failed f T.backwarding down)
            ∙ never_nothing failed (onwards (limit - 1)) lost dropped (T.backwarding f)

  module _ (limit : ℕ) where
    pub around_lost : (entry : Hop) → Leadless entry → walk_around N failed T d limit entry ≡ ends_by dropped
    unfolding goes_on
    around_lost entry l = ap (goes_on (onwards limit) dropped) (around_nothing failed l)

    pub around_drops : (g : ℕ) → failed (link g) ≡ true → walk_around N failed T d limit (onward g) ≡ ends_by dropped
    unfolding goes_on
    around_drops g down = ap (goes_on (onwards limit) dropped) (around_failed failed g down)

    pub around_on : (g : ℕ) → failed (link g) ≡ false → walk_around N failed T d limit (onward g) ≡ crossing g (onwards limit g)
    unfolding goes_on
    around_on g up = ap (goes_on (onwards limit) dropped) (around_along failed g up)

-- a walk crosses at most as many links as its limit
module _ (N : Network) (failed : ℕ → Bool) (T : Tables) (d : ℕ) where
  short_on : (limit : ℕ) (next : ℕ → Course) → ((f : ℕ) → length (next f).crossed ≤ limit) → (lost : Ending) (s : Step)
      → length (goes_on next lost s).crossed ≤ suc limit
  unfolding ends_by goes_on crossing
  short_on limit next short lost (crosses f) = omega (arith, short f)
  short_on limit next short lost nothing = omega arith
  short_on limit next short lost drops = omega arith

  pub walk_short : (limit i : ℕ) (entry : Hop) (lost : Ending) → length (walk_from N failed T d limit i entry lost).crossed ≤ limit
  unfolding walk_from ends_by
  walk_short zero i entry lost =
      elim (ℕ_discrete i d) [ yes e ↦ rw (eq-eqb i d e, walk_from) (omega arith) | no e ↦ rw (ne_eqb i d e, walk_from) (omega arith) ]
  walk_short (suc limit) i entry lost =
      elim (ℕ_discrete i d) [
        | yes e ↦ rw (eq-eqb i d e, walk_from) (omega arith)
        | no e ↦ rw (ne_eqb i d e, walk_from)
            (short_on limit _ (λ f. walk_short limit (head N f) (T.forwarding f) _) lost (step_by failed T.backwarding entry))
      ]
