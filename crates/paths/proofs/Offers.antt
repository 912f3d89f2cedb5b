-- One offer in a column of costs keeps what the rounds promise: it is an offer of the mathematics, each entry stays within bounds,
-- and the first interface is kept with it. An offer over nothing is nothing. One over a link that the head's chain does not have
-- costs the link's cost more, so the code's order on pairs decides as the order on numbers. One over a link that the chain has comes
-- back to the tail, which is known as cheaply as the head: its weight sum is the smaller, and it stays.
use Prim.Native.Nat.{ℕ, ◌+◌, ◌^◌, ◌<◌, ◌≤◌}
use mathlib.Core.Bool.{true, false}
use mathlib.Core.Path.{◌≡◌, refl, ap, ◌∙◌}
use mathlib.Core.Logic.{inl, inr, ◌≢◌}
use mathlib.Core.List.{◌∷◌}
use mathlib.Core.Option.{some}
use native.Mathlib.Nat.{add-mul}
use native.Mathlib.Decide.{ℕ_discrete, dec_lt}
use native.Mathlib.Omega.{arith}
use Rattle.graph.specs.Network.{Network, WellFormed, link, tail, head}
use Rattle.graph.specs.Path.{Over, But, both, fresh}
use Rattle.graph.specs.Set.{link_set}
use Rattle.graph.proofs.Chain.{link_cost, On, find}
use Rattle.graph.proofs.Sum.{pair_le, less_pair, pair_less, set_insert}
use Rattle.graph.proofs.Order.{LinksOnce, set_below, over_out}
use Rattle.graph.proofs.Rounds.{Column, AtMost, Offer, Sound, falls_same, offer_loses, offer_wins, sound_offer}
use Rattle.graph.proofs.Rounds.{known_comes_back, no_entry}
use Rattle.graph.proofs.Finished.{Led, led_wins}
use Rattle.net.specs.Choice.{pick}
use Rattle.net.specs.inner.LinkSet.{value, with_link}
use Rattle.net.proofs.LinkSets.{value_with}
use Rattle.paths.specs.inner.Cost.{unknown, no_cost, before, extended}
use Rattle.paths.specs.declared.cost.Cost.{Cost}
use Rattle.paths.proofs.CostNumber.{Limited, number, entry, Fits, blank, known, Lower, before?}
use Rattle.paths.proofs.CostNumber.{extended_known, extended_blank, entry_known, entry_blank, blank_not_lower, Within, entry_within}
use Rattle.paths.proofs.CostNumber.{blank_sum, Behind, behind, behind_light}

-- a column of costs as the mathematics sees it, and the interfaces kept in it
abbrev pub entries : Network → (ℕ → Cost) → Column
entries N C i = entry N (C i)

abbrev pub firsts : (ℕ → Cost) → ℕ → ℕ
firsts C i = (C i).first

-- what holds of the column of costs for destination d
pub record Holds (N : Network) (X : ℕ → Type 0) (d : ℕ) (C : ℕ → Cost) : Type 0 where
  pub fits : (i : ℕ) → Fits N (C i)
  pub sound : Sound N X d (entries N C)
  pub led : Led N X d (entries N C) (firsts C)

-- what a node has after an offer: the way offered, if that comes before what it had
abbrev pub better : Cost → Cost → Cost
better own way = pick (before way own) way own

better_new : (own way : Cost) → before way own ≡ true → better own way ≡ way
better_new own way e = simp e

better_old : (own way : Cost) → before way own ≡ false → better own way ≡ own
better_old own way e = simp e

-- the offer of interface f, as the code makes it
pub record Offered (N : Network) (f : ℕ) (C C' : ℕ → Cost) : Type 0 where
  pub stored : C' (tail N f) ≡ better (C (tail N f)) (extended (C (head N f)) (N.weight (link f)) (link f) f)
  pub others : (i : ℕ) → i ≢ tail N f → C' i ≡ C i

-- is an offer of the mathematics, and all still holds
pub record Stepped (N : Network) (X : ℕ → Type 0) (d f : ℕ) (C C' : ℕ → Cost) : Type 0 where
  pub offer : Offer N X f (entries N C) (entries N C) (entries N C')
  pub holds : Holds N X d C'

module _ (N : Network) (W : WellFormed N) (L : Limited N) (X : ℕ → Type 0) (d f : ℕ) where
  module _ (present : N.Present (link f)) (within : X (link f)) (C C' : ℕ → Cost) (h : Holds N X d C) (o : Offered N f C C') where
    -- the costs at the two ends, as they were
    abbrev own : Cost
    own = C (tail N f)

    abbrev next : Cost
    next = C (head N f)

    -- the tail keeps its cost
    kept : C' (tail N f) ≡ own
        → ((c : ℕ) → entry N next ≡ some c → AtMost (entry N own) (link_cost N (link f) + c)) → Stepped N X d f C C'
    kept same lost =
        let all : (i : ℕ) → C' i ≡ C i = λ i. elim (ℕ_discrete i (tail N f)) [ yes e ↦ (cc) | no e ↦ o.others i e ] in
        let whole : C' ≡ C = λ j i. all i j in
        record {
          offer = offer_loses N X f (entries N C) (entries N C) (entries N C') present within lost (λ i. ap (entry N) (all i));
          holds = rw whole h;
        }

    -- the tail takes the new cost
    taken : (c : ℕ) (new : Cost) → entry N next ≡ some c → C' (tail N f) ≡ new → Fits N new → new.first ≡ f
        → entry N new ≡ some (link_cost N (link f) + c)
        → ((e : ℕ) → entry N own ≡ some e → link_cost N (link f) + c < e) → Stepped N X d f C C'
    taken c new at_head is fits first costs better =
        let stored : entry N (C' (tail N f)) ≡ some (link_cost N (link f) + c) = ap (entry N) is ∙ costs in
        let t : Offer N X f (entries N C) (entries N C) (entries N C') =
        offer_wins N X f (entries N C) (entries N C) (entries N C') present within c at_head better stored
        (λ i n. ap (entry N) (o.others i n)) in
        record {
          offer = t;
          holds = record {
            fits = λ i. elim (ℕ_discrete i (tail N f)) [ yes e ↦ rw (e, is) fits | no e ↦ rw (o.others i e) (h.fits i) ];
            sound = sound_offer N X d h.sound (falls_same (λ i. refl)) h.sound t;
            led = led_wins N X d c (falls_same (λ i. refl)) t at_head stored (ap (λ (a : Cost). a.first) is ∙ first)
                (λ i n. (ap (entry N) (o.others i n), ap (λ (a : Cost). a.first) (o.others i n))) h.led;
          };
        }

    -- the head's cost is known
    module _ (known_sum : next.sum < unknown) (known_set : value next.links < 2 ^ N.links) where
      at_head : entry N next ≡ some (number N next)
      at_head = entry_known N next known_sum

      chain : Behind N X d (entries N C) (head N f) next
      chain = behind N X d W next known_set (h.sound (head N f) (number N next) at_head)

      room : next.sum + N.weight (link f) < unknown
      room = omega (arith, behind_light N X d L chain, L.light (link f) present)

      abbrev new : Cost
      new =
          record { sum = next.sum + N.weight (link f); links = with_link next.links (link f); first = f }

      stored_better : C' (tail N f) ≡ better own new
      stored_better = o.stored ∙ ap (λ a. better own a) (extended_known next (N.weight (link f)) (link f) f room)

      -- over a link that the head's chain does not have
      over_new_link : Over (But (link f)) chain.known.way → Stepped N X d f C C'
      over_new_link away = elim (before? new own) [ inl t ↦ wins t.0 t.1 | inr t ↦ loses t.0 t.1 ]
        where
          set : value (with_link next.links (link f)) ≡ link_set (f ∷ chain.known.way)
          set = rw (value_with next.links (link f), chain.set) (set_insert chain.links_once.distinct (over_out away))

          links_once : LinksOnce N (f ∷ chain.known.way)
          links_once =
              record {
                distinct = fresh (over_out away) chain.links_once.distinct;
                numbered = both (W.numbered (link f) present) chain.links_once.numbered;
              }

          small : value new.links < 2 ^ N.links
          small = omega (arith, set, set_below N links_once)

          costs : number N new ≡ link_cost N (link f) + number N next
          costs = omega (arith, set, chain.set, add-mul next.sum (N.weight (link f)) (2 ^ N.links))

          wins : before new own ≡ true → Lower new own → Stepped N X d f C C'
          wins t lower =
              taken (number N next) new at_head (stored_better ∙ better_new own new t) (known room small) refl
              (entry_known N new room ∙ ap some costs)
              (λ e q.
              let w = entry_within N own e (h.fits (tail N f)) q in
              omega (arith, less_pair (2 ^ N.links) new.sum own.sum small w.set lower, costs, w.is))

          loses : before new own ≡ false → (Lower new own → ⊥) → Stepped N X d f C C'
          loses t not_lower =
              kept (stored_better ∙ better_old own new t)
              (λ c q.
              let same : number N next ≡ c = cc (at_head, q) in
              elim (h.fits (tail N f)) [
                | blank e ↦ absurd (not_lower (inl (omega (arith, blank_sum e, room))))
                | known s l ↦ record {
                  value = number N own;
                  is = entry_known N own s;
                  at_most = elim (dec_lt (number N new) (number N own)) [
                    | yes less ↦ absurd (not_lower (pair_less (2 ^ N.links) new.sum own.sum small l less))
                    | no more ↦ omega (arith, costs)
                  ];
                }
              ])

      -- over a link that it has
      over_old_link : On (link f) chain.known.way → Stepped N X d f C C'
      over_old_link on =
          let back : AtMost (entry N own) (number N next) = known_comes_back N X d f chain.known on in
          let own_pair : Within N own back.value = entry_within N own back.value (h.fits (tail N f)) back.is in
          let lighter : own.sum ≤ next.sum =
          elim (pair_le (2 ^ N.links) own.sum next.sum own_pair.set known_set (omega (arith, own_pair.is, back.at_most))) [
            | inl less ↦ omega arith
            | inr same ↦ omega arith
          ] in
          elim (before? new own) [
            | inl (t, inl less) ↦ absurd (omega (arith, W.weighs (link f) present))
            | inl (t, inr same) ↦ absurd (omega (arith, W.weighs (link f) present))
            | inr (t, not_lower) ↦
                kept (stored_better ∙ better_old own new t)
                (λ c q.
                let same : number N next ≡ c = cc (at_head, q) in
                record { value = back.value; is = back.is; at_most = omega (arith, back.at_most) })
          ]

      over_known : Stepped N X d f C C'
      over_known = elim (find (link f) chain.known.way) [ inl away ↦ over_new_link away | inr on ↦ over_old_link on ]

    -- the head's cost is not known
    over_nothing : next ≡ no_cost → Stepped N X d f C C'
    over_nothing e =
        let nothing : extended next (N.weight (link f)) (link f) f ≡ no_cost = rw e (extended_blank (N.weight (link f)) (link f) f) in
        let stays : C' (tail N f) ≡ own =
        o.stored ∙ ap (λ a. better own a) nothing
        ∙ elim (before? no_cost own) [
          | inl (t, lower) ↦ absurd (blank_not_lower N own (h.fits (tail N f)) lower)
          | inr (t, not_lower) ↦ better_old own no_cost t
        ] in
        kept stays (λ c q. absurd (no_entry (ap (entry N) e ∙ entry_blank N) q))

    pub offered : Stepped N X d f C C'
    offered = elim (h.fits (head N f)) [ blank e ↦ over_nothing e | known s l ↦ over_known s l ]
