-- Best paths by rounds: the laws that a loop over the links can cite. One column holds, for a fixed destination d and the links X
-- left in, the cost of the best chain known so far from each node. An interface f offers the cost of its link and its head's entry
-- to its tail, and the smaller is kept; a round makes the offer of every interface at least once, in whatever order the links come.
-- Two promises are kept. Sound: each entry is the cost of a chain, and each node of that chain has an entry that is at most the
-- cost of the rest from there; so an offer that comes back to a node never wins, and no link is counted twice. Complete: after r
-- rounds an entry is at most the cost of every chain with at most r links. Enough rounds, or one that changes nothing, leave the
-- column finished: then each entry is the cost of a best chain (Finished says what can be read off it).
use mathlib.Core.Path.{◌≡◌, refl, sym, ap, ◌∙◌}
use mathlib.Core.Logic.{◌⊎◌, inl, inr, ◌≢◌}
use mathlib.Core.List.{List, [], ◌∷◌, ◌++◌, map}
use mathlib.Core.Option.{Option, none, some}
use Prim.Native.Nat.{ℕ, zero, suc, ◌+◌, ◌≤◌, ◌<◌, min}
use native.Mathlib.Decide.{ℕ_discrete, dec_lt}
use native.Mathlib.Omega.{arith}
use lib.ListN.{length}
use Rattle.graph.specs.Network.{Network, WellFormed, link, reverse, tail, head}
use Rattle.graph.specs.Path.{Chain, stop, step, Over, Distinct, fresh, both, But}
use Rattle.graph.proofs.Interfaces.{head_reverse, same_link, tail_node}
use Rattle.graph.proofs.Chain.{link_cost, cost, On, find, cost_append, chain_from, chain_after}
use Rattle.graph.proofs.Simple.{Cut, cut, short}
use Rattle.graph.proofs.Order.{over_out}

-- an entry by node: the cost of a chain from there, if one is known
abbrev pub Column : Type 0
Column = ℕ → Option ℕ

-- there is an entry, and it is at most c
pub record AtMost (o : Option ℕ) (c : ℕ) : Type 0 where
  pub value : ℕ
  pub is : o ≡ some value
  pub at_most : value ≤ c

-- no entry rises, and none is lost
abbrev pub Falls : Column → Column → Type 0
Falls D D' = (i c : ℕ) → D i ≡ some c → AtMost (D' i) c

-- the entry c of node i is the offer of interface f, with the head's entry read in E, and better than what D has there
pub record Won (N : Network) (f : ℕ) (E D : Column) (i c : ℕ) : Type 0 where
  pub at_tail : i ≡ tail N f
  pub read : ℕ
  pub at_head : E (head N f) ≡ some read
  pub sum : c ≡ link_cost N (link f) + read
  pub better : (e : ℕ) → D i ≡ some e → c < e

-- The offer of interface f takes column D to D'. It reads the head's entry in E: D itself, or the column as it was when the round
-- began.
pub record Offer (N : Network) (X : ℕ → Type 0) (f : ℕ) (E D D' : Column) : Type 0 where
  pub present : N.Present (link f)
  pub within : X (link f)
  pub falls : Falls D D'
  pub takes : (c : ℕ) → E (head N f) ≡ some c → AtMost (D' (tail N f)) (link_cost N (link f) + c)
  pub from : (i c : ℕ) → D' i ≡ some c → (D i ≡ some c) ⊎ Won N f E D i c

-- each node of a chain to d has an entry that is at most the cost of the rest from there
pub data Rests (N : Network) (d : ℕ) (D : Column) : List ℕ → Type 0 where
  ended : AtMost (D d) 0 → Rests N d D []
  rest : {f : ℕ} {p : List ℕ} → AtMost (D (tail N f)) (cost N (f ∷ p)) → Rests N d D p → Rests N d D (f ∷ p)

-- the chain behind an entry c of node i
pub record Known (N : Network) (X : ℕ → Type 0) (d : ℕ) (D : Column) (i c : ℕ) : Type 0 where
  pub way : List ℕ
  pub chain : Chain N i way d
  pub over : Over X way
  pub costs : cost N way ≡ c
  pub once : Distinct (map link way)
  pub rests : Rests N d D way

abbrev pub Sound : Network → (ℕ → Type 0) → ℕ → Column → Type 0
Sound N X d D = (i c : ℕ) → D i ≡ some c → Known N X d D i c

abbrev pub Complete : Network → (ℕ → Type 0) → ℕ → ℕ → Column → Type 0
Complete N X d r D = (i : ℕ) (p : List ℕ) → Chain N i p d → Over X p → length p ≤ r → AtMost (D i) (cost N p)

-- A round that began with column D₀ has come to D, and every interface of K has made its offer.
pub record Round (N : Network) (X : ℕ → Type 0) (d : ℕ) (K : ℕ → Type 0) (D₀ D : Column) : Type 0 where
  pub sound : Sound N X d D
  pub falls : Falls D₀ D
  pub taken : (f : ℕ) → K f → (c : ℕ) → D₀ (head N f) ≡ some c → AtMost (D (tail N f)) (link_cost N (link f) + c)

-- the interfaces whose offers make a whole round
abbrev pub Usable : Network → (ℕ → Type 0) → ℕ → Type 0
Usable N X f = N.Present (link f) × X (link f)

-- those among them whose links have had their turn
abbrev pub Passed : Network → (ℕ → Type 0) → (ℕ → Type 0) → ℕ → Type 0
Passed N X P f = P (link f) × N.Present (link f) × X (link f)

-- a column that an offer may read when a round that began with D₀ has come to D
pub record Readable (N : Network) (X : ℕ → Type 0) (d : ℕ) (D₀ E D : Column) : Type 0 where
  pub sound : Sound N X d E
  pub since : Falls D₀ E
  pub until : Falls E D

pub record Finished (N : Network) (X : ℕ → Type 0) (d : ℕ) (D : Column) : Type 0 where
  pub sound : Sound N X d D
  pub least : (i : ℕ) (p : List ℕ) → Chain N i p d → Over X p → AtMost (D i) (cost N p)

-- what a store keeps of two entries, and the offer of a link
abbrev pub smaller : Option ℕ → Option ℕ → Option ℕ
smaller none o = o
smaller (some a) none = some a
smaller (some a) (some b) = some (min a b)

abbrev pub plus : ℕ → Option ℕ → Option ℕ
plus w none = none
plus w (some c) = some (w + c)

pub no_entry : {o : Option ℕ} {c : ℕ} → o ≡ none → o ≡ some c → ⊥
no_entry p q = let z : ◌≡◌ {A = ℕ} 0 1 = cc in omega arith

pub falls_same : {D D' : Column} → ((i : ℕ) → D' i ≡ D i) → Falls D D'
falls_same same i c e = record { value = c; is = same i ∙ e; at_most = omega arith }

pub falls_twice : {D D' D'' : Column} → Falls D D' → Falls D' D'' → Falls D D''
falls_twice s t i c e =
    let a = s i c e in
    let b = t i a.value a.is in
    record { value = b.value; is = b.is; at_most = omega arith }

pub at_most_falls : {D D' : Column} (i c : ℕ) → Falls D D' → AtMost (D i) c → AtMost (D' i) c
at_most_falls i c s a =
    let b = s i a.value a.is in
    record { value = b.value; is = b.is; at_most = omega arith }

module _ (N : Network) (X : ℕ → Type 0) where
  module _ (f : ℕ) (E D D' : Column) (present : N.Present (link f)) (within : X (link f)) where
    -- an offer over nothing, or not better, leaves the column
    pub offer_loses : ((c : ℕ) → E (head N f) ≡ some c → AtMost (D (tail N f)) (link_cost N (link f) + c)) → ((i : ℕ) → D' i ≡ D i)
        → Offer N X f E D D'
    offer_loses lost same =
        record {
          present = present;
          within = within;
          falls = falls_same same;
          takes = λ c e. at_most_falls (tail N f) _ (falls_same same) (lost c e);
          from = λ i c e. inl (sym (same i) ∙ e);
        }

    -- a better one is stored
    pub offer_wins : (c : ℕ) → E (head N f) ≡ some c → ((e : ℕ) → D (tail N f) ≡ some e → link_cost N (link f) + c < e)
        → D' (tail N f) ≡ some (link_cost N (link f) + c) → ((i : ℕ) → i ≢ tail N f → D' i ≡ D i) → Offer N X f E D D'
    offer_wins c at_head better stored others =
        record { present = present; within = within; falls = falls; takes = takes; from = from }
      where
        falls : Falls D D'
        falls i e q =
            elim (ℕ_discrete i (tail N f)) [
              | yes t ↦ record { value = _; is = ap D' t ∙ stored; at_most = omega (arith, better e (ap D (sym t) ∙ q)) }
              | no t ↦ record { value = e; is = others i t ∙ q; at_most = omega arith }
            ]

        takes : (e : ℕ) → E (head N f) ≡ some e → AtMost (D' (tail N f)) (link_cost N (link f) + e)
        takes e q =
            let same : c ≡ e = cc in
            record { value = _; is = stored; at_most = omega arith }

        from : (i e : ℕ) → D' i ≡ some e → (D i ≡ some e) ⊎ Won N f E D i e
        from i e q =
            elim (ℕ_discrete i (tail N f)) [
              | yes t ↦
                  let sum : e ≡ link_cost N (link f) + c = cc in
                  let less : (a : ℕ) → D i ≡ some a → e < a = λ a s. omega (arith, better a (ap D (sym t) ∙ s)) in
                  inr (record { at_tail = t; read = c; at_head = at_head; sum = sum; better = less })
              | no t ↦ inl (sym (others i t) ∙ q)
            ]

    -- the one store of the smaller
    pub offer_of : D' (tail N f) ≡ smaller (D (tail N f)) (plus (link_cost N (link f)) (E (head N f)))
        → ((i : ℕ) → i ≢ tail N f → D' i ≡ D i) → Offer N X f E D D'
    offer_of stored others = go (D (tail N f)) (E (head N f)) refl refl
      where
        kept : D' (tail N f) ≡ D (tail N f) → (i : ℕ) → D' i ≡ D i
        kept q i = elim (ℕ_discrete i (tail N f)) [ yes t ↦ (cc) | no t ↦ others i t ]

        go : (o e : Option ℕ) → D (tail N f) ≡ o → E (head N f) ≡ e → Offer N X f E D D'
        go none none p q = offer_loses (λ c r. absurd (no_entry q r)) (kept (rw (p, q) at stored ∙ sym p))
        go (some a) none p q = offer_loses (λ c r. absurd (no_entry q r)) (kept (rw (p, q) at stored ∙ sym p))
        go none (some c) p q = offer_wins c q (λ a r. absurd (no_entry p r)) (rw (p, q) at stored) others
        go (some a) (some c) p q =
            let new : D' (tail N f) ≡ some (min a (link_cost N (link f) + c)) = rw (p, q) at stored in
            elim (dec_lt (link_cost N (link f) + c) a) [
              | yes less ↦
                  let is : min a (link_cost N (link f) + c) ≡ link_cost N (link f) + c = omega arith in
                  offer_wins c q (λ e r. (let s : a ≡ e = cc in omega arith)) (rw is at new) others
              | no more ↦
                  let is : min a (link_cost N (link f) + c) ≡ a = omega arith in
                  let same : (i : ℕ) → D' i ≡ D i = kept (new ∙ ap some is ∙ sym p) in
                  offer_loses (λ e r. (let s : c ≡ e = cc in record { value = a; is = p; at_most = omega arith })) same
            ]

  module _ (d : ℕ) where
    rests_falls : {D D' : Column} {p : List ℕ} → Falls D D' → Rests N d D p → Rests N d D' p
    rests_falls s (ended a) = ended (at_most_falls d 0 s a)
    rests_falls s (rest a r) = rest (at_most_falls _ _ s a) (rests_falls s r)

    pub known_falls : {D D' : Column} {i c : ℕ} → Falls D D' → Known N X d D i c → Known N X d D' i c
    known_falls s k =
        record
        { way = k.way; chain = k.chain; over = k.over; costs = k.costs; once = k.once; rests = rests_falls s k.rests }

    rests_after : {D : Column} (a b : List ℕ) → Rests N d D (a ++ b) → Rests N d D b
    rests_after [] b r = r
    rests_after (f ∷ a) b (rest h r) = rests_after a b r

    rest_first : {D : Column} {x : ℕ} {p : List ℕ} → Chain N x p d → Rests N d D p → AtMost (D x) (cost N p)
    rest_first (stop e) (ended r) = rw e r
    rest_first (step up e c) (rest r s) = rw e at r

    once_more : {p : List ℕ} (f : ℕ) → Over (But (link f)) p → Distinct (map link p) → Distinct (map link (f ∷ p))
    once_more f o t = fresh (over_out o) t

    -- Where the chain behind the head's entry has the link of f already, it comes back to the tail, which is known as cheaply.
    pub known_comes_back : {D : Column} {c : ℕ} (f : ℕ) (k : Known N X d D (head N f) c) → On (link f) k.way → AtMost (D (tail N f)) c
    known_comes_back {D} {c} f k o = back o.before o.crossing o.after o.split (same_link o.crossing f o.is)
      where
        within : (m : ℕ) → AtMost (D (tail N f)) m → m ≤ c → AtMost (D (tail N f)) c
        within m t h = record { value = t.value; is = t.is; at_most = omega arith }

        back : (a : List ℕ) (g : ℕ) (b : List ℕ) → k.way ≡ a ++ g ∷ b → (g ≡ f) ⊎ (g ≡ reverse f) → AtMost (D (tail N f)) c
        back a g b e s =
            let chain : Chain N (head N f) (a ++ g ∷ b) d = rw e at k.chain in
            let rests : Rests N d D (a ++ g ∷ b) = rw e at k.rests in
            let part : cost N (g ∷ b) ≤ c = omega (arith, ap (cost N) e, cost_append N a (g ∷ b), k.costs) in
            elim s [
              | inl q ↦
                  let t : AtMost (D (tail N g)) (cost N (g ∷ b)) = rest_first (chain_from N a g b chain) (rests_after a (g ∷ b) rests) in
                  within (cost N (g ∷ b)) (rw (ap (tail N) q) at t) part
              | inr q ↦
                  let t : AtMost (D (head N g)) (cost N b) =
                  rest_first (chain_after N a g b chain) (rests_after (g ∷ []) b (rests_after a (g ∷ b) rests)) in
                  within (cost N b) (rw (ap (head N) q ∙ head_reverse N f) at t) (omega arith)
            ]

    -- so an offer that wins is over a link that the head's chain does not have
    pub offer_new_link : {D : Column} {c : ℕ} (f : ℕ) (k : Known N X d D (head N f) c)
        → ((e : ℕ) → D (tail N f) ≡ some e → link_cost N (link f) + c < e) → Over (But (link f)) k.way
    offer_new_link f k better =
        elim (find (link f) k.way) [
          | inl o ↦ o
          | inr o ↦ let t = known_comes_back f k o in absurd (omega (arith, better t.value t.is))
        ]

    -- an offer keeps the column sound; what it reads may be older than where it stores
    pub sound_offer : {E D D' : Column} {f : ℕ} → Sound N X d E → Falls E D → Sound N X d D → Offer N X f E D D' → Sound N X d D'
    sound_offer {E} {D} {D'} {f} old falls sound o i c e =
        elim (o.from i c e) [ inl q ↦ known_falls o.falls (sound i c q) | inr w ↦ new w ]
      where
        new : Won N f E D i c → Known N X d D' i c
        new w =
            let k : Known N X d D (head N f) w.read = known_falls falls (old (head N f) w.read w.at_head) in
            let fresh_link = offer_new_link f k (λ a q. omega (arith, w.better a (ap D w.at_tail ∙ q), w.sum)) in
            let at : D' (tail N f) ≡ some c = ap D' (sym w.at_tail) ∙ e in
            let same : c ≤ cost N (f ∷ k.way) = omega (arith, k.costs, w.sum) in
            record {
              way = f ∷ k.way;
              chain = step o.present (sym w.at_tail) k.chain;
              over = both o.within k.over;
              costs = omega (arith, k.costs, w.sum);
              once = once_more f fresh_link k.once;
              rests = rest (record { value = c; is = at; at_most = same }) (rests_falls o.falls k.rests);
            }

    -- the column with one entry, 0 at the destination
    pub sound_start : {D : Column} → D d ≡ some 0 → ((i : ℕ) → i ≢ d → D i ≡ none) → Sound N X d D
    sound_start at others i c e =
        elim (ℕ_discrete i d) [
          | yes q ↦
              let zero_cost : 0 ≡ c = cc in
              record {
                way = [];
                chain = stop q;
                over = Over.none;
                costs = zero_cost;
                once = Distinct.none;
                rests = ended (record { value = 0; is = at; at_most = omega arith });
              }
          | no q ↦ absurd (no_entry (others i q) e)
        ]

    pub complete_start : (D : Column) → D d ≡ some 0 → Complete N X d 0 D
    complete_start D at i [] (stop e) o h = rw e (record { value = 0; is = at; at_most = omega arith })
    complete_start D at i (f ∷ p) c o h = absurd (omega arith)

    pub round_start : {D : Column} → Sound N X d D → Round N X d (λ f. ⊥) D D
    round_start s = record { sound = s; falls = falls_same (λ i. refl); taken = λ f k. absurd k }

    pub round_covers : {K K' : ℕ → Type 0} {D₀ D : Column} → ((g : ℕ) → K' g → K g) → Round N X d K D₀ D → Round N X d K' D₀ D
    round_covers s r = record { sound = r.sound; falls = r.falls; taken = λ f k. r.taken f (s f k) }

    pub readable_new : {K : ℕ → Type 0} {D₀ D : Column} → Round N X d K D₀ D → Readable N X d D₀ D D
    readable_new r = record { sound = r.sound; since = r.falls; until = falls_same (λ i. refl) }

    pub readable_old : {K : ℕ → Type 0} {D₀ D : Column} → Sound N X d D₀ → Round N X d K D₀ D → Readable N X d D₀ D₀ D
    readable_old s r = record { sound = s; since = falls_same (λ i. refl); until = r.falls }

    pub readable_later : {D₀ E D D' : Column} → Readable N X d D₀ E D → Falls D D' → Readable N X d D₀ E D'
    readable_later r s = record { sound = r.sound; since = r.since; until = falls_twice r.until s }

    pub round_offer : {K K' : ℕ → Type 0} {D₀ E D D' : Column} {f : ℕ} → Round N X d K D₀ D → Readable N X d D₀ E D
        → Offer N X f E D D' → ((g : ℕ) → K' g → K g ⊎ (g ≡ f)) → Round N X d K' D₀ D'
    round_offer {K} {K'} {D₀} {E} {D} {D'} {f} r e o covers =
        record {
          sound = sound_offer e.sound e.until r.sound o;
          falls = falls_twice r.falls o.falls;
          taken = λ g k c q. elim (covers g k) [
            | inl s ↦ at_most_falls _ _ o.falls (r.taken g s c q)
            | inr s ↦ rw s (here c (ap (λ x. D₀ (head N x)) (sym s) ∙ q))
          ];
        }
      where
        here : (c : ℕ) → D₀ (head N f) ≡ some c → AtMost (D' (tail N f)) (link_cost N (link f) + c)
        here c q =
            let a = e.since (head N f) c q in
            let t = o.takes a.value a.is in
            record { value = t.value; is = t.is; at_most = omega arith }

    -- one round more, one link more
    pub complete_round : {D₀ D : Column} {r : ℕ} → Round N X d (Usable N X) D₀ D → Complete N X d r D₀ → Complete N X d (suc r) D
    complete_round t all i [] c o h = at_most_falls i 0 t.falls (all i [] c o (omega arith))
    complete_round t all i (f ∷ p) (step up e c) (both x o) h =
        let a = all (head N f) p c o (omega arith) in
        let b = t.taken f (up, x) a.value a.is in
        rw (← e) (record { value = b.value; is = b.is; at_most = omega arith })

    -- a round that changes nothing would change nothing ever after
    pub complete_still : {D₀ D : Column} → Round N X d (Usable N X) D₀ D → ((i : ℕ) → D i ≡ D₀ i) → Complete N X d 0 D₀
        → (r : ℕ) → Complete N X d r D
    complete_still t same start zero = λ i p c o h. at_most_falls i _ t.falls (start i p c o h)
    complete_still t same start (suc r) =
        complete_round t (λ i p c o h. at_most_falls i _ (falls_same (λ j. sym (same j))) (complete_still t same start r i p c o h))

    pub finished_when_still : {D₀ D : Column} → Round N X d (Usable N X) D₀ D → ((i : ℕ) → D i ≡ D₀ i) → Complete N X d 0 D₀
        → Finished N X d D
    finished_when_still t same start =
        record { sound = t.sound; least = λ i p c o. complete_still t same start (length p) i p c o (omega arith) }

    module _ (W : WellFormed N) where
      -- a chain can be cut to a path, and a path visits no node twice, so it has fewer links than there are nodes
      pub finished_after_rounds : {D : Column} (r : ℕ) → N.nodes ≤ suc r → Sound N X d D → Complete N X d r D → Finished N X d D
      finished_after_rounds {D} r enough s all = record { sound = s; least = least }
        where
          least : (i : ℕ) (p : List ℕ) → Chain N i p d → Over X p → AtMost (D i) (cost N p)
          least i [] c o = all i [] c o (omega arith)
          least i (f ∷ p) (step up e c) o =
              let t : Cut N X i (f ∷ p) d = cut N W (step up e c) o in
              let node : i < N.nodes = rw e at (tail_node N W f up) in
              let a = all i t.way t.path.chain t.over (omega (arith, short N W node t.path)) in
              record { value = a.value; is = a.is; at_most = omega (arith, t.cheaper) }

    -- A round that goes through the links, each in its turn. The links of P have had theirs, and those of P' when link k has: it is
    -- skipped, or makes both its offers.
    module _ (P P' : ℕ → Type 0) (k : ℕ) (next : (l : ℕ) → P' l → P l ⊎ (l ≡ k)) where
      pub round_skip : {D₀ D : Column} → (N.Present k → X k → ⊥) → Round N X d (Passed N X P) D₀ D → Round N X d (Passed N X P') D₀ D
      round_skip unusable r =
          round_covers
          (λ g t. elim (next (link g) t.0) [
            | inl passed ↦ (passed, t.1, t.2)
            | inr e ↦ absurd (unusable (rw e at t.1) (rw e at t.2))
          ])
          r

      pub round_link : {D₀ E E' D D' D'' : Column} {f : ℕ} → link f ≡ k → Round N X d (Passed N X P) D₀ D
          → Readable N X d D₀ E D → Offer N X f E D D' → Readable N X d D₀ E' D' → Offer N X (reverse f) E' D' D''
          → Round N X d (Passed N X P') D₀ D''
      round_link {f = f} e r a o b p =
          let first : Round N X d (λ g. Passed N X P g ⊎ (g ≡ f)) _ _ = round_offer r a o (λ g t. t) in
          round_offer first b p
          (λ g t. elim (next (link g) t.0) [
            | inl passed ↦ inl (inl (passed, t.1, t.2))
            | inr q ↦ elim (same_link g f (q ∙ sym e)) [ inl s ↦ inl (inr s) | inr s ↦ inr s ]
          ])

    -- every link has had its turn
    pub round_whole : (P : ℕ → Type 0) → {D₀ D : Column} → WellFormed N → ((k : ℕ) → k < N.links → P k)
        → Round N X d (Passed N X P) D₀ D → Round N X d (Usable N X) D₀ D
    round_whole P W all r = round_covers (λ g t. (all (link g) (W.numbered _ t.0), t.0, t.1)) r
