-- How far the check comes, in the documents' words. Each test holds or fails exactly as its words say (Tests); so a link's fault is told
-- by its words, a network that reached link k is checked from k on, and every network is accepted or refused with some number at some
-- place.
use Prim.Native.Nat.{ℕ, zero, suc, ◌+◌, ◌-◌, ◌≤◌, ◌<◌}
use mathlib.Core.Path.{◌≡◌, sym, ◌∙◌}
use mathlib.Core.Bool.{false}
use mathlib.Core.Logic.{◌⊎◌, inl, inr, ◌≢◌}
use native.Mathlib.Decide.{ℕ_discrete, dec_lt}
use native.Mathlib.Numerals.{add-one}
use native.Mathlib.Omega.{arith}
use lib.ListN.{length, get_or}
use Rattle.net.specs.Limits.{most_links, most_weight}
use Rattle.net.specs.Refusals.{accepted}
use Rattle.net.specs.Rows.{Rows}
use Rattle.net.specs.Check.{bad_ends, descends, bad_weight, lighter_twin, bad_node_count, span_at, span_before, links_from, check_network, verdict}
use Rattle.net.specs.Check.{Joins, Ascends, TwinsAscend, Accepted}
use Rattle.net.specs.Refused.{BadEnds, BadWeight, InOrder, TwinsInOrder, Faulty, has_bad_ends, descending, has_bad_weight, has_lighter_twin}
use Rattle.net.specs.Refused.{Counted, Reached, Refused, has_uneven_rows, has_bad_node_count, many_links, faulty_link}
use Rattle.net.proofs.Tests.{Tells, holds, fails, count_tells, ends_tell, weight_tells, order_tells, twin_order_tells}
use Rattle.net.proofs.Faults as faults

module _ (R : Rows) where
  open R use {nodes as n, low, high, weight}

  module _ (k : ℕ) where
    -- the four tests of link k
    abbrev ends : Tells (bad_ends n (get_or low k 0) (get_or high k 0)) (BadEnds n (get_or low k 0) (get_or high k 0))
        ((get_or low k 0 < get_or high k 0) × (get_or high k 0 < n))
    ends = ends_tell n (get_or low k 0) (get_or high k 0)

    abbrev order : Tells (descends (span_before R k) (get_or low k 0) (get_or high k 0)) (InOrder R k (get_or low k 0) (get_or high k 0) → ⊥)
        (InOrder R k (get_or low k 0) (get_or high k 0))
    order = order_tells R k (get_or low k 0) (get_or high k 0)

    abbrev weighs : Tells (bad_weight (get_or weight k 0)) (BadWeight (get_or weight k 0))
        ((0 < get_or weight k 0) × (get_or weight k 0 ≤ most_weight))
    weighs = weight_tells (get_or weight k 0)

    abbrev TwinPasses : Type 0
    TwinPasses = TwinsInOrder R k (get_or low k 0) (get_or high k 0) (get_or weight k 0)

    abbrev twins : Tells (lighter_twin (span_before R k) (get_or low k 0) (get_or high k 0) (get_or weight k 0)) (TwinPasses → ⊥) TwinPasses
    twins = twin_order_tells R k (get_or low k 0) (get_or high k 0) (get_or weight k 0)

    -- link k passes
    record Passes : Type 0 where
      joined : Joins n (get_or low k 0) (get_or high k 0) (get_or weight k 0)
      in_order : InOrder R k (get_or low k 0) (get_or high k 0)
      twins_in_order : TwinPasses

    -- a link that passes has no fault
    passes : Passes → faults.fault_at R k ≡ accepted
    passes p =
        let joined = p.joined in
        faults.fault_none _ _ _ _ _
        (fails ends (joined.below, joined.node))
        (fails order p.in_order)
        (fails weighs (joined.weighs, joined.light))
        (fails twins p.twins_in_order)

    -- a faulty link has that fault
    faulty : {number : ℕ} → Faulty R k number → faults.fault_at R k ≡ number
    faulty (has_bad_ends h) = faults.fault_ends _ _ _ _ _ (holds ends h)
    faulty (descending below node h) = faults.fault_order _ _ _ _ _ (fails ends (below, node)) (holds order h)
    faulty (has_bad_weight below node in_order h) =
        faults.fault_weight _ _ _ _ _ (fails ends (below, node)) (fails order in_order) (holds weighs h)
    faulty (has_lighter_twin joined in_order h) =
        faults.fault_twin _ _ _ _ _ (fails ends (joined.below, joined.node)) (fails order in_order)
        (fails weighs (joined.weighs, joined.light)) (holds twins h)

    fault_number : {number : ℕ} → Faulty R k number → number ≢ accepted
    fault_number (has_bad_ends h) e = omega arith
    fault_number (descending below node h) e = omega arith
    fault_number (has_bad_weight below node in_order h) e = omega arith
    fault_number (has_lighter_twin joined in_order h) e = omega arith

    -- a link passes or is faulty
    link_decided : Passes ⊎ ((number : ℕ) × Faulty R k number)
    link_decided =
        elim ends.answer [
          | inl a ↦ inr (_, has_bad_ends a.1)
          | inr a ↦ elim order.answer [
            | inl b ↦ inr (_, descending a.1.0 a.1.1 b.1)
            | inr b ↦ elim weighs.answer [
              | inl c ↦ inr (_, has_bad_weight a.1.0 a.1.1 b.1 c.1)
              | inr c ↦
                  let joined : Joins n (get_or low k 0) (get_or high k 0) (get_or weight k 0) =
                  record { below = a.1.0; node = a.1.1; weighs = c.1.0; light = c.1.1 } in
                  elim twins.answer [
                    | inl d ↦ inr (_, has_lighter_twin joined b.1 d.1)
                    | inr d ↦ inl (record { joined = joined; in_order = b.1; twins_in_order = d.1 })
                  ]
            ]
          ]
        ]

  -- one link more has passed, or one less
  further : (k : ℕ) → Reached R k → Passes k → Reached R (suc k)
  further k at passes =
      record { counted = at.counted; few_links = at.few_links; joins = joins; ascends = ascends; twins = twins_ascend }
    where
      joins : (j : ℕ) → j < suc k → Joins n (get_or low j 0) (get_or high j 0) (get_or weight j 0)
      joins j h =
          elim (ℕ_discrete j k) [
            | yes e ↦ rw e passes.joined
            | no e ↦ at.joins j (omega arith)
          ]

      ascends : (j : ℕ) → suc j < suc k → Ascends (span_at R j) (get_or low (suc j) 0) (get_or high (suc j) 0)
      ascends j h =
          elim (ℕ_discrete (suc j) k) [
            | yes e ↦ rw e (passes.in_order j e)
            | no e ↦ at.ascends j (omega arith)
          ]

      twins_ascend : (j : ℕ) → suc j < suc k → TwinsAscend (span_at R j) (get_or low (suc j) 0) (get_or high (suc j) 0) (get_or weight (suc j) 0)
      twins_ascend j h =
          elim (ℕ_discrete (suc j) k) [
            | yes e ↦ rw e (passes.twins_in_order j e)
            | no e ↦ at.twins j (omega arith)
          ]

  back : (k : ℕ) → Reached R (suc k) → Reached R k
  back k at =
      record {
        counted = at.counted;
        few_links = at.few_links;
        joins = λ j h. at.joins j (omega arith);
        ascends = λ j h. at.ascends j (omega arith);
        twins = λ j h. at.twins j (omega arith);
      }

  last_passes : (k : ℕ) → Reached R (suc k) → Passes k
  last_passes k at =
      record {
        joined = at.joins k (omega arith);
        in_order = λ j e. rw (sym e) (at.ascends j (omega arith));
        twins_in_order = λ j e. rw (sym e) (at.twins j (omega arith));
      }

  count_passes : Counted R → bad_node_count n ≡ false
  count_passes counted = fails (count_tells n) (counted.some_node, counted.few_nodes)

  -- the whole answer is the answer from a link on that the check reaches
  reached : (k : ℕ) → k ≤ length low → Reached R k
      → check_network R ≡ links_from (length low - k) R k
  reached zero h at =
      let counted = at.counted in
      faults.links_begin R counted.high_row counted.weight_row (count_passes counted) at.few_links
  reached (suc k) h at =
      let on = faults.links_on (length low) R k h (passes k (last_passes k at)) in
      rw add-one at (reached k (omega arith) (back k at) ∙ on)

  pub accepts_check : Accepted R → check_network R ≡ verdict accepted
  accepts_check A = reached (length low) (omega arith) all ∙ faults.links_done (length low) R (length low) (omega arith)
    where
      all : Reached R (length low)
      all =
          record {
            counted = record { high_row = A.high_row; weight_row = A.weight_row; some_node = A.some_node; few_nodes = A.few_nodes };
            few_links = omega arith;
            joins = A.joins;
            ascends = A.ascends;
            twins = A.twins;
          }

  pub refused_check : {number place : ℕ} → Refused R number place
      → check_network R ≡ record { number = number; place = place }
  refused_check (has_uneven_rows (inl h)) = faults.high_differs R h
  refused_check (has_uneven_rows (inr h)) =
      elim (ℕ_discrete (length high) (length low)) [
        | yes e ↦ faults.weight_differs R e h
        | no d ↦ faults.high_differs R d
      ]
  refused_check (has_bad_node_count e f h) = faults.many_nodes R e f (holds (count_tells n) h)
  refused_check (many_links counted h) =
      faults.many_links R counted.high_row counted.weight_row (count_passes counted) h
  refused_check (faulty_link {number} {k} at h fault) =
      reached k (omega arith) at ∙ faults.links_left (length low) R k number h (faulty k fault) (fault_number k fault)

  pub refused_number : {number place : ℕ} → Refused R number place → number ≢ accepted
  refused_number (has_uneven_rows h) e = omega arith
  refused_number (has_bad_node_count f g h) e = omega arith
  refused_number (many_links counted h) e = omega arith
  refused_number (faulty_link {number} {k} at h fault) e = fault_number k fault e

  -- every network is accepted, or refused with some number at some place
  abbrev Decided : Type 0
  Decided = Accepted R ⊎ ((number : ℕ) × (place : ℕ) × Refused R number place)

  links_decided : (left k : ℕ) → k + left ≡ length low → Reached R k → Decided
  links_decided zero k e at =
      inl
      (record {
        high_row = at.counted.high_row;
        weight_row = at.counted.weight_row;
        some_node = at.counted.some_node;
        few_nodes = at.counted.few_nodes;
        few_links = at.few_links;
        joins = λ j h. at.joins j (omega arith);
        ascends = λ j h. at.ascends j (omega arith);
        twins = λ j h. at.twins j (omega arith);
      })
  links_decided (suc left) k e at =
      elim (link_decided k) [
        | inl a ↦ links_decided left (suc k) (omega arith) (further k at a)
        | inr a ↦ inr (a.0, k, faulty_link at (omega arith) a.1)
      ]

  counted_decided : Counted R → Decided
  counted_decided counted =
      elim (dec_lt most_links (length low)) [
        | yes h ↦ inr (_, _, many_links counted h)
        | no h ↦ links_decided (length low) 0 (omega arith)
            (record {
              counted = counted;
              few_links = omega arith;
              joins = λ j l. absurd (omega arith);
              ascends = λ j l. absurd (omega arith);
              twins = λ j l. absurd (omega arith);
            })
      ]

  pub decided : Decided
  decided =
      elim (ℕ_discrete (length high) (length low)) [
        | no a ↦ inr (_, _, has_uneven_rows (inl a))
        | yes a ↦ elim (ℕ_discrete (length weight) (length low)) [
          | no b ↦ inr (_, _, has_uneven_rows (inr b))
          | yes b ↦ elim (count_tells n).answer [
            | inl c ↦ inr (_, _, has_bad_node_count a b c.1)
            | inr c ↦ counted_decided (record { high_row = a; weight_row = b; some_node = c.1.0; few_nodes = c.1.1 })
          ]
        ]
      ]
