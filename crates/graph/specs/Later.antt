-- What later requests ask for (document 02): a firmer promise for the detour, and the nearest key link. No promise of today cites them;
-- the theorems on them are proved already. And the rules for backwarding entries under which demand 3 holds: today's, with the key links
-- taken out (L2), is one of them.
use Rattle.std.specs.Prelude.{◌≡◌, true, List, ◌∷◌, ◌++◌, ℕ, ◌<◌}
use Rattle.std.proofs.Math.Option.{Option}
use Rattle.graph.specs.Network.{Network, link, tail, head}
use Rattle.graph.specs.Path.{Over, Distinct, visits, BestPath, All, But}
use Rattle.graph.specs.Entries.{Entry, KeyLink, Free, RoutingEntry, ForwardingEntry}
use Rattle.graph.specs.Walk.{Tables, failed_by, Course}

-- "the one nearest the destination" (document 02) among the key links of interface h: the last on the best path from the head
pub record NearestKeyLink (N : Network) (d h k : ℕ) : Type 0 where
  pub key : KeyLink N d h k
  pub before : List ℕ
  pub crossing : ℕ
  pub is : link crossing ≡ k
  pub after : List ℕ
  pub routing : BestPath N All (head N h) (before ++ crossing ∷ after) d
  pub last : Over (Free N d h) after

-- The firmer promise (document 02): "a walk over built tables that meets the one failed link follows the best path up to it, and from
-- that node on visits no node twice." The link is met as interface `meets`, and the walk goes on along `rest`.
pub record FirmDetour (N : Network) (failure : Option ℕ) (s d : ℕ) (c : Course) : Type 0 where
  pub before : List ℕ
  pub meets : ℕ
  pub failed : failed_by failure (link meets) ≡ true
  pub after : List ℕ
  pub best : BestPath N All s (before ++ meets ∷ after) d
  pub rest : List ℕ
  pub crossed : c.crossed ≡ before ++ rest
  pub once : Distinct (visits N (tail N meets) rest)

-- Backwarding entries by any rule: `Y h` are the links left in for interface h, and the entries are right for that rule.
pub record RightEntries (N : Network) (d : ℕ) (Y : ℕ → ℕ → Type 0) (T : Tables) : Type 0 where
  pub routing : (i : ℕ) → i < N.nodes → RoutingEntry N d i (T.routing i)
  pub forwarding : (h : ℕ) → N.Present (link h) → ForwardingEntry N d h (T.forwarding h)
  pub backwarding : (h : ℕ) → N.Present (link h) → Entry N (Y h) (tail N h) d (T.backwarding h)

-- The rules under which demand 3 still holds: the interface's own link is left out, and more may be, but nothing more where the
-- interface has no key links.
pub record LeavesIn (N : Network) (d : ℕ) (Y : ℕ → ℕ → Type 0) : Type 0 where
  pub without_own : (h k : ℕ) → Y h k → But (link h) k
  pub all_others : (h : ℕ) → ((k : ℕ) → Free N d h k) → (k : ℕ) → But (link h) k → Y h k
