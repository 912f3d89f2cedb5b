-- `best_path` meets its promise: after the refusals, the entry of the column over all links gives the measures and the routing entry.
use Prim.Native.Nat.{ℕ, ◌<◌}
use mathlib.Core.Path.{◌≡◌, sym, ap, ◌∙◌}
use mathlib.Core.Logic.{◌≢◌}
use mathlib.Core.Bool.{true, false}
use native.Mathlib.Omega.{arith}
use mathlib.Core.List.{List}
use lib.ListN.{length, get_or}
use Rattle.graph.specs.Network.{WellFormed, link}
use Rattle.graph.specs.Path.{All}
use Rattle.net.specs.Entry.{here_byte, nowhere_byte}
use Rattle.net.specs.Limits.{most_nodes}
use Rattle.net.specs.Refusals.{accepted}
use Rattle.net.specs.Rows.{Rows, network_of}
use Rattle.std.specs.Prelude.{Ok}
use Rattle.net.specs.Told.{told}
use borrow.Author.Tests.{eqb-true, eqb-false}
use Rattle.net.specs.inner.LinkSet.{value}
use Rattle.net.proofs.Accepted.{well_formed}
use Rattle.net.proofs.Bytes.{here_byte_lem}
use Rattle.paths.specs.inner.Cost.{is_known}
use Rattle.paths.specs.inner.Column.{Shows, BestColumn}
use Rattle.paths.specs.Best.{best_path_verdict, BestPathAnswer}
use Rattle.paths.specs.declared.cost.Cost.{Cost}
use Rattle.paths.proofs.Verdict.{number, Passed, passed, answered}
use Rattle.paths.proofs.Answers.{shown_measures, unknown_measures, here_measures, entry_shows, known_byte, unknown_byte}
use Rattle.paths.proofs.best.best_path.Goals as goal

-- nothing is refused
module _ (R : Rows) (s d : ℕ) (accepts : told {Answer = Unit} (Ok tt) ≡ best_path_verdict R s d) where
  free : (best_path_verdict R s d).number ≡ accepted
  free = sym (ap number accepts)

  passes : Passed R s d
  passes = passed R s d free

  source_place : s < most_nodes
  source_place = omega (arith, passes.source, passes.network.few_nodes)

  formed : WellFormed (network_of R)
  formed = well_formed R passes.network

  here : s ≡ d → BestPathAnswer R s d (record { number = accepted; place = 0; sum = 0; links = 0; entry = here_byte })
  here e = answered R s d free (here_measures _ formed e) (here_byte_lem e)

  -- away from the destination, the cost is read off the column, whatever it would be past the array's end
  module _ {column : List Cost} (long : length column ≡ most_nodes) (best : BestColumn (network_of R) All d column) (past : Cost)
      (away : s ≢ d) where
    abbrev cost : Cost
    cost = get_or column s past

    shown : Shows (network_of R) All s d cost
    shown = entry_shows R passes long best past

    found : is_known cost ≡ true → BestPathAnswer R s d
        (record { number = accepted; place = 0; sum = cost.sum; links = value cost.links; entry = link cost.first })
    found sure = answered R s d free (shown_measures _ formed shown sure) (known_byte R passes.network shown away sure)

    none : is_known cost ≡ false → BestPathAnswer R s d
        (record { number = accepted; place = 0; sum = 0; links = 0; entry = nowhere_byte })
    none lost = answered R s d free (unknown_measures _ formed shown lost) (unknown_byte R passes.network shown away lost)

pub column_of-column-requires : goal.column_of-column-requires
column_of-column-requires c =
    rw c.in_ok-network.ensures.same_rows (passes _ _ _ c.in_ok-network.ensures.refusal).destination

pub offset_bounds-column-source : goal.offset_bounds-column-source
offset_bounds-column-source c = omega (arith, source_place _ _ _ c.in_ok-network.ensures.refusal)

pub bounds-column-source : goal.bounds-column-source
bounds-column-source c = omega (arith, source_place _ _ _ c.in_ok-network.ensures.refusal)

pub returns-then-eq : goal.returns-then-eq
returns-then-eq c = here _ _ _ c.in_ok-network.ensures.refusal (eqb-true _ _ (sym c.eq.ensures ∙ c.if-eq.true))

pub returns-then-known : goal.returns-then-known
returns-then-known c =
    rw (c.number.ensures, c.onward.ensures)
    (found _ _ _ c.in_ok-network.ensures.refusal c.column_of-column.type_inv.1.0.1 (rw c.in_ok-network.ensures.same_rows at c.column_of-column.ensures) _
    (eqb-false _ _ (sym c.eq.ensures ∙ c.if-eq.false)) (sym c.known.ensures ∙ c.if-known.true))

pub returns : goal.returns
returns c =
    none _ _ _ c.in_ok-network.ensures.refusal c.column_of-column.type_inv.1.0.1 (rw c.in_ok-network.ensures.same_rows at c.column_of-column.ensures) _
    (eqb-false _ _ (sym c.eq.ensures ∙ c.if-eq.false)) (sym c.known.ensures ∙ c.if-known.false)
