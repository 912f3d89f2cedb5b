-- What `best_path` answers from an entry of a column: the measures of the best path, and the routing entry as a byte.
use Prim.Native.Nat.{ℕ}
use mathlib.Core.Bool.{true, false}
use mathlib.Core.Path.{◌≡◌, refl}
use mathlib.Core.Logic.{◌≢◌}
use mathlib.Core.List.{List, []}
use native.Mathlib.Omega.{arith}
use lib.ListN.{length, get_or}
use Rattle.graph.specs.Network.{Network, WellFormed, link}
use Rattle.graph.specs.Path.{stop, Over.none as over_none, All, weight_sum}
use Rattle.graph.proofs.Chain.{Best}
use Rattle.graph.proofs.Simple.{simple}
use Rattle.graph.proofs.Agreement.{best_path}
use Rattle.graph.proofs.Sets.{set_of_path}
use Rattle.net.specs.Entry.{nowhere_byte, EntryByte}
use Rattle.net.specs.Rows.{Rows, network_of}
use Rattle.net.specs.Check.{Accepted}
use Rattle.net.specs.Limits.{most_nodes}
use Rattle.net.specs.inner.LinkSet.{value}
use Rattle.net.proofs.Accepted.{well_formed}
use Rattle.net.proofs.Bytes.{nowhere_byte_lem, onward_byte}
use Rattle.paths.specs.inner.Cost.{is_known}
use Rattle.paths.specs.inner.Column.{Shows, BestColumn}
use Rattle.paths.specs.Best.{Measures, of_path, of_none}
use Rattle.paths.specs.declared.cost.Cost.{Cost}
use Rattle.paths.proofs.Shape.{read_at}
use Rattle.paths.proofs.Verdict.{Passed}
use Rattle.paths.proofs.ColumnEntry.{known_true, known_false, leads, leads_nowhere}
use Rattle.paths.proofs.ColumnEntry.{shown_known, shown_unknown, shown_tells, measured_set}

module _ (N : Network) (W : WellFormed N) {s d : ℕ} where
  -- the measures of a known entry are those of the best path
  pub shown_measures : {c : Cost} → Shows N All s d c → is_known c ≡ true → Measures N s d c.sum (value c.links)
  shown_measures {c} shown known =
      let (p, m) = shown_known N W shown ((known_true c).0 known) in
      of_path (best_path N W m.best) m.sum (measured_set N W m)

  -- no path, nothing to measure
  pub unknown_measures : {c : Cost} → Shows N All s d c → is_known c ≡ false → Measures N s d 0 0
  unknown_measures {c} shown lost = of_none (shown_unknown N W shown ((known_false c).0 lost)) refl refl

  -- at the destination the best path is empty
  pub here_measures : s ≡ d → Measures N s d 0 0
  unfolding weight_sum
  here_measures e =
      let t : Best N All s [] d = record { chain = stop e; over = over_none; least = λ {q} c o. omega arith } in
      of_path (best_path N W t) refl (set_of_path W (simple N W t))

module _ (R : Rows) (A : Accepted R) {X : ℕ → Type 0} {i d : ℕ} where
  -- away from the destination a known entry gives a link, an unknown one none
  module _ {c : Cost} (shown : Shows (network_of R) X i d c) (away : i ≢ d) where
    pub known_byte : is_known c ≡ true → EntryByte (network_of R) X i d (link c.first)
    known_byte known =
        elim (shown_tells (network_of R) (well_formed R A) shown away) [
          | leads h entry ↦ onward_byte entry
          | leads_nowhere h entry ↦ absurd (omega (arith, (known_true c).0 known))
        ]

    pub unknown_byte : is_known c ≡ false → EntryByte (network_of R) X i d nowhere_byte
    unknown_byte lost =
        elim (shown_tells (network_of R) (well_formed R A) shown away) [
          | leads h entry ↦ absurd (omega (arith, (known_false c).0 lost))
          | leads_nowhere h entry ↦ nowhere_byte_lem entry
        ]

-- the entry that the code reads off the column over all links, whatever it would read past the array's end
pub entry_shows : (R : Rows) {s d : ℕ} → Passed R s d → {column : List Cost} → length column ≡ most_nodes
    → BestColumn (network_of R) All d column → (past : Cost) → Shows (network_of R) All s d (get_or column s past)
entry_shows R {s} {d} known {column} long best past =
    let A = known.network in
    rw (read_at column s (omega (arith, known.source, A.few_nodes)) past) (best.shows s known.source)
