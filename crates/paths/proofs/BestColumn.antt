-- The columns with which the rounds begin, and so the best columns that the code finds. The start knows the destination alone. To take
-- links out, the costs that use one of them are blanked in the best column without fewer links: the set of a cost is that of the links
-- on the best path behind it, so what remains is final still. From either the rounds leave the best column (Settling); and where nothing
-- was blanked, the column is the best one as it is.
use Prim.Native.Nat.{ℕ, ◌<◌}
use mathlib.Core.Bool.{Bool, true, false}
use mathlib.Core.Path.{◌≡◌, refl, sym, ap, ◌∙◌}
use mathlib.Core.Logic.{◌≢◌}
use mathlib.Core.List.{List, []}
use mathlib.Core.Option.{none, some}
use native.Mathlib.Decide.{ℕ_discrete, dec_lt}
use native.Mathlib.Omega.{arith}
use lib.ListN.{length}
use Rattle.graph.specs.Network.{Network, WellFormed}
use Rattle.graph.specs.Path.{stop, Over.none as over_none, Distinct, All}
use Rattle.graph.proofs.Chain.{Best}
use Rattle.graph.proofs.Simple.{simple}
use Rattle.graph.proofs.Order.{links_once}
use Rattle.graph.proofs.Rounds.{Column, Finished, no_entry, sound_start, complete_start}
use Rattle.graph.proofs.Finished.{Led, led_start}
use Rattle.graph.proofs.Restart.{AllFinal, Blanked, final_finished, finished_led}
use Rattle.graph.proofs.Restart.{restart_final, restart_sound, restart_complete, restart_led, restart_still}
use Rattle.net.specs.Limits.{most_nodes}
use Rattle.net.specs.Rows.{Rows, network_of}
use Rattle.net.specs.Choice.{pick}
use Rattle.net.specs.Check.{Accepted}
use Rattle.net.specs.inner.LinkSet.{no_links, meeting, Without}
use Rattle.net.specs.declared.link_set.LinkSet.{LinkSet}
use Rattle.net.proofs.Accepted.{well_formed}
use Rattle.net.proofs.LinkSets.{without?}
use Rattle.paths.specs.inner.Cost.{no_cost}
use Rattle.paths.specs.inner.Column.{entry_at, Shows, Shows.none as no_path, BestColumn, Restarted}
use Rattle.paths.specs.inner.Rounds.{start_column, settled, blanked}
use Rattle.paths.specs.declared.cost.Cost.{Cost}
use Rattle.paths.specs.inner.Rounds.{Revised}
use Rattle.paths.proofs.CostNumber.{number, entry, Fits, blank, known, blank_sum, fits_here, entry_known, entry_blank}
use Rattle.paths.proofs.CostNumber.{entry_here, Within, entry_within}
use Rattle.paths.proofs.ColumnEntry.{shown_known, shown_unknown, shown_best, shown_onward, shown_fits}
use Rattle.paths.proofs.ColumnEntry.{measured_cost, measured_apart, measured_meeting, column_all_lem}
use Rattle.paths.proofs.Offers.{entries, firsts}
use Rattle.paths.proofs.Columns.{start_long, start_here, start_elsewhere}
use Rattle.paths.proofs.Columns.{unless_meeting, blanked_kept, blanked_at, blanked_beyond}
use Rattle.paths.proofs.Settling.{Begun, chain_start, finished_best_column, begun_settled}

-- the start: the destination's own entry, and no other
start_begun : (N : Network) (X : ℕ → Type 0) (d : ℕ) → d < most_nodes → Begun N X d (entry_at (start_column d))
start_begun N X d place = record {
  holds = record {
    fits = fits;
    sound = sound_start N X d at_destination nothing;
    led = led_start N X d (firsts (entry_at (start_column d))) nothing;
  };
  final = final;
  complete = complete_start N X d (entries N (entry_at (start_column d))) at_destination;
}
  where
    at_destination : entry N (entry_at (start_column d) d) ≡ some 0
    at_destination = ap (entry N) (start_here d place) ∙ entry_here N

    nothing : (i : ℕ) → i ≢ d → entry N (entry_at (start_column d) i) ≡ none
    nothing i away = ap (entry N) (start_elsewhere d i away) ∙ entry_blank N

    fits : (i : ℕ) → Fits N (entry_at (start_column d) i)
    fits i = elim (ℕ_discrete i d) [ yes e ↦ rw (e, start_here d place) (fits_here N) | no away ↦ blank (start_elsewhere d i away) ]

    final : AllFinal N X d (entries N (entry_at (start_column d)))
    final i c e =
        elim (ℕ_discrete i d) [
          | no away ↦ absurd (no_entry (nothing i away) e)
          | yes same ↦
              let free : 0 ≡ c = cc (at_destination, e, ap (λ x. entry N (entry_at (start_column d) x)) same) in
              let b : Best N X i [] d = record { chain = stop same; over = over_none; least = λ {q} u v. omega arith } in
              record { way = []; best = b; costs = free; once = Distinct.none }
        ]

-- the best column without fewer links, and what remains of it
module _ (R : Rows) (A : Accepted R) (out fewer : LinkSet) where
  open R use {nodes as n}

  abbrev N : Network
  N = network_of R

  W : WellFormed N
  W = well_formed R A

  abbrev X : ℕ → Type 0
  X = Without fewer

  abbrev Y : ℕ → Type 0
  Y = Without out

  module _ (d : ℕ) (node : d < n) (less : (k : ℕ) → Y k → X k) (column : List Cost) (long : length column ≡ most_nodes)
      (best : BestColumn N X d column) where
    abbrev remaining : List Cost
    remaining = (blanked n out column).column

    abbrev D : Column
    D = entries N (entry_at column)

    abbrev D' : Column
    D' = entries N (entry_at remaining)

    shows : (i : ℕ) → Shows N X i d (entry_at column i)
    shows i =
        elim (dec_lt i n) [
          | yes below ↦ best.shows i below
          | no past ↦ no_path (λ p s o. omega (arith, chain_start N W node s.chain)) (best.beyond i (omega arith))
        ]

    within : (i c : ℕ) → D i ≡ some c → Within N (entry_at column i) c
    within i c e = entry_within N (entry_at column i) c (shown_fits N W (shows i)) e

    final : AllFinal N X d D
    final i c e =
        let w = within i c e in
        let (p, m) = shown_known N W (shows i) w.sum in
        record {
          way = p;
          best = m.best;
          costs = measured_cost N W m ∙ w.is;
          once = (links_once N W (simple N W m.best)).distinct;
        }

    finished : Finished N X d D
    finished =
        final_finished N X d W final
        (λ i p s o. elim (shown_fits N W (shows i)) [
          | blank e ↦ absurd (shown_unknown N W (shows i) (omega (arith, blank_sum e)) p s o)
          | known sum set ↦ (number N (entry_at column i), entry_known N (entry_at column i) sum)
        ])

    led : Led N X d D (firsts (entry_at column))
    led =
        finished_led N X d (firsts (entry_at column)) finished
        (λ i c away e. let (p, m) = shown_onward N W (shows i) away (within i c e).sum in (p, m.best))

    remaining_at : (i : ℕ) → entry_at remaining i ≡ unless_meeting out (entry_at column i)
    remaining_at i =
        elim (dec_lt i n) [
          | yes below ↦ blanked_at out n column (omega (arith, A.few_nodes)) i below
          | no past ↦
              let nothing = best.beyond i (omega arith) in
              blanked_beyond out n column i (omega arith) ∙ nothing
              ∙ sym (ap (unless_meeting out) nothing ∙ same (meeting no_cost.links out))
        ]
      where
        same : (test : Bool) → pick test no_cost no_cost ≡ no_cost
        same true = refl
        same false = refl

    -- a place is blank, or as it was
    data Remains (i : ℕ) : Type 0 where
      is_blank : meeting (entry_at column i).links out ≡ true → entry_at remaining i ≡ no_cost → Remains i
      as_it_was : meeting (entry_at column i).links out ≡ false → entry_at remaining i ≡ entry_at column i → Remains i

    remains : (i : ℕ) → Remains i
    remains i = go (meeting (entry_at column i).links out) refl
      where
        go : (test : Bool) → meeting (entry_at column i).links out ≡ test → Remains i
        go true e = is_blank e (remaining_at i ∙ rw e refl)
        go false e = as_it_was e (remaining_at i ∙ rw e refl)

    remaining_blanked : Blanked N X Y d D D'
    remaining_blanked =
        record {
          nothing = λ i e. elim (remains i) [ is_blank t q ↦ ap (entry N) q ∙ entry_blank N | as_it_was t q ↦ ap (entry N) q ∙ e ];
          blank = λ i p b over. elim (remains i) [
            | is_blank t q ↦ ap (entry N) q ∙ entry_blank N
            | as_it_was t q ↦ absurd (over (measured_apart N W (shown_best N W (shows i) b) out t))
          ];
          kept = λ i p b over. elim (remains i) [
            | is_blank t q ↦ absurd (measured_meeting N W (shown_best N W (shows i) b) out t over)
            | as_it_was t q ↦ ap (entry N) q
          ];
        }

    remaining_begun : Begun N Y d (entry_at remaining)
    remaining_begun =
        record {
          holds = record {
            fits = λ i. elim (remains i) [ is_blank t q ↦ blank q | as_it_was t q ↦ rw q (shown_fits N W (shows i)) ];
            sound = restart_sound N X d Y (without? out) less D D' finished remaining_blanked;
            led = λ i c away e. elim (remains i) [
              | is_blank t q ↦ absurd (no_entry (ap (entry N) q ∙ entry_blank N) e)
              | as_it_was t q ↦
                  rw (ap (λ (a : Cost). a.first) q)
                  (restart_led N X d Y (without? out) less D D' finished remaining_blanked (firsts (entry_at column)) led i c away e)
            ];
          };
          final = restart_final N X d Y (without? out) less D D' finished remaining_blanked;
          complete = restart_complete N X d Y (without? out) less D D' finished remaining_blanked;
        }

    remaining_settled : BestColumn N Y d (settled R out remaining)
    remaining_settled = begun_settled R A out d remaining remaining_begun node ((blanked_kept out n column).long ∙ long)

    -- nothing was blanked
    remaining_still : (blanked n out column).changed ≡ false → BestColumn N Y d column
    remaining_still e =
        let same : remaining ≡ column = ap (λ (s : Revised). s.column) ((blanked_kept out n column).still e) in
        finished_best_column N W Y d node column (rw same at remaining_begun.holds)
        (restart_still N X d Y (without? out) less D D' finished remaining_blanked
        (λ i. ap (λ (l : List Cost). entry N (entry_at l i)) same))

pub start_best : {R : Rows} {d : ℕ} → Accepted R → d < R.nodes → BestColumn (network_of R) All d (settled R no_links (start_column d))
start_best {R} {d} A destination =
    let begun = start_begun (network_of R) (Without no_links) d (omega (arith, A.few_nodes, destination)) in
    (column_all_lem (network_of R) (well_formed R A)).1
    (begun_settled R A no_links d (start_column d) begun destination (start_long d))

pub restarted_settled : {R : Rows} → Accepted R → (out : LinkSet) (column : List Cost) → length column ≡ most_nodes
    → Restarted (network_of R) out column (settled R out (blanked R.nodes out column).column)
restarted_settled {R} A out column long fewer d node less best = remaining_settled R A out fewer d node less column long best

pub restarted_still : {R : Rows} → Accepted R → (out : LinkSet) (column : List Cost) → length column ≡ most_nodes
    → (blanked R.nodes out column).changed ≡ false → Restarted (network_of R) out column column
restarted_still {R} A out column long still fewer d node less best = remaining_still R A out fewer d node less column long best still
