-- What a byte says at a node. The interface that it names is one of the network, leaves that node, and has the byte as its link
-- (hop_below, hop_leaves, hop_link); and the link of an interface, read at the node that it leaves, names that interface (hop_is): the
-- other one of the link leaves its other end. The code asks the same questions in the same order, but for 254 and 255, which are no links.
use Rattle.std.specs.Prelude.{Option, Some, None, is_some}
use Prim.Native.Nat.{ℕ, ◌+◌, ◌*◌, ◌≤◌, ◌<◌}
use mathlib.Core.Bool.{Bool, true, false}
use mathlib.Core.Path.{◌≡◌, refl, sym, ap, ◌∙◌}
use mathlib.Core.List.{List, []}
use mathlib.Core.Logic.{◌≢◌, ◌⊎◌, inl, inr}
use native.Mathlib.Decide.{ℕ_discrete, dec_le}
use native.Mathlib.Omega.{arith}
use borrow.Author.Tests.{eq-eqb, ne_eqb, le-leb, lt-leb}
use lib.ListN.{length, get_or}
use lib.Dec.{eqb}
use Rattle.graph.specs.Network.{Network, link, tail, head}
use Rattle.graph.specs.Entries.{Hop, here, onward, nowhere}
use Rattle.graph.proofs.Interfaces.{two_sides, link_from_low, link_from_high}
use Rattle.graph.proofs.Interfaces.{tail_from_low, head_from_low, tail_from_high, head_from_high, head_node}
use Rattle.graph.proofs.Moves.{Leadless, at_destination, without_path}
use Rattle.net.specs.Choice.{pick}
use Rattle.net.specs.Rows.{Rows, network_of, head_of}
use Rattle.net.specs.Check.{Accepted}
use Rattle.net.specs.Entry.{here_byte, nowhere_byte}
use Rattle.net.specs.declared.interface.Interface.{Interface}
use Rattle.net.specs.declared.interface.Node.{Node}
use Rattle.net.specs.Lent.{rows_lent}
use Rattle.net.specs.Limits.{most_links}
use Rattle.net.specs.declared.checked.CheckedRows.{CheckedRows}
use Rattle.net.proofs.Accepted.{check_accepts, well_formed}
use Rattle.net.proofs.Rows.{present_row, interface_present, head_of_lem}
use Rattle.walk.specs.Lent.{leaving, hop_at, leads_on, byte_passes}
use Rattle.walk.specs.inner.Reading.{found_by}

-- the two rows of ends are as long as each other, and link numbers are no other byte's
pub record Paired (low high : List ℕ) : Type 0 where
  pub same : length high ≡ length low
  pub few : length low ≤ most_links

-- how a link may leave a node, with what was found of its ends
data Leaves (low high : List ℕ) (i k : ℕ) : Hop → Type 0 where
  no_link : length low ≤ k → Leaves low high i k nowhere
  from_low : k < length low → get_or low k 0 ≡ i → Leaves low high i k (onward (2 * k))
  from_high : k < length low → get_or low k 0 ≢ i → get_or high k 0 ≡ i → Leaves low high i k (onward (2 * k + 1))
  apart : k < length low → get_or low k 0 ≢ i → get_or high k 0 ≢ i → Leaves low high i k nowhere

module _ (low high : List ℕ) (i k : ℕ) where
  leaves : Leaves low high i k (leaving low high i k)
  unfolding leaving
  leaves =
      elim (dec_le (length low) k) [
        | yes over ↦ simp (le-leb (length low) k over) (no_link over)
        | no under ↦
            let within : k < length low = omega arith in
            elim (ℕ_discrete (get_or low k 0) i) [
              | yes at_low ↦ simp (lt-leb (length low) k within, eq-eqb (get_or low k 0) i at_low) (from_low within at_low)
              | no not_low ↦ elim (ℕ_discrete (get_or high k 0) i) [
                | yes at_high ↦
                    simp (lt-leb (length low) k within, ne_eqb (get_or low k 0) i not_low, eq-eqb (get_or high k 0) i at_high)
                    (from_high within not_low at_high)
                | no not_high ↦
                    simp (lt-leb (length low) k within, ne_eqb (get_or low k 0) i not_low, ne_eqb (get_or high k 0) i not_high)
                    (apart within not_low not_high)
              ]
            ]
      ]

-- two entries of different kinds are not one
abbrev LeadsOver : ℕ → Hop → Type 0
LeadsOver f here = ⊥
LeadsOver f (onward g) = g ≡ f
LeadsOver f nowhere = ⊥

leads_over : {h : Hop} {f : ℕ} → h ≡ onward f → LeadsOver f h
leads_over {f = f} e = rw e refl

-- what leads on is no 254 and no 255, so it is a link's
past_tests : (a b : Bool) (h : Hop) {f : ℕ} → pick a here (pick b nowhere h) ≡ onward f → h ≡ onward f
past_tests true b h e = absurd (leads_over e)
past_tests false true h e = absurd (leads_over e)
past_tests false false h e = e

module _ (R : Rows) (i byte : ℕ) where
  open R use {low, high}

  abbrev N : Network
  N = network_of R

  leads_from : {h : Hop} {f : ℕ} → Leaves low high i byte h → LeadsOver f h
      → (f < 2 * length low) × (tail N f ≡ i) × (link f ≡ byte)
  leads_from (no_link over) e = absurd e
  leads_from (from_low within at_low) e =
      rw (← e) (omega arith, tail_from_low byte N ∙ at_low, link_from_low byte)
  leads_from (from_high within not_low at_high) e =
      rw (← e) (omega arith, tail_from_high byte N ∙ at_high, link_from_high byte)
  leads_from (apart within not_low not_high) e = absurd e

  hop_found : {f : ℕ} → hop_at low high i byte ≡ onward f → (f < 2 * length low) × (tail N f ≡ i) × (link f ≡ byte)
  unfolding hop_at
  hop_found e =
      leads_from (leaves low high i byte) (leads_over (past_tests (eqb byte here_byte) (eqb byte nowhere_byte) (leaving low high i byte) e))

  -- the interface that a byte names at node i is one of the network, leaves i, and the byte is its link
  pub hop_below : {f : ℕ} → hop_at low high i byte ≡ onward f → f < 2 * length low
  hop_below e = (hop_found e).0

  pub hop_leaves : {f : ℕ} → hop_at low high i byte ≡ onward f → tail N f ≡ i
  hop_leaves e = (hop_found e).1

  pub hop_link : {f : ℕ} → hop_at low high i byte ≡ onward f → link f ≡ byte
  hop_link e = (hop_found e).2

-- a byte below the link count is a link, and no other
link_byte : (low high : List ℕ) (i k : ℕ) → Paired low high → k < length low → hop_at low high i k ≡ leaving low high i k
unfolding hop_at
link_byte low high i k paired within =
    let few = paired.few in
    rw (ne_eqb k here_byte (λ e. omega arith), ne_eqb k nowhere_byte (λ e. omega arith))

module _ (R : Rows) (A : Accepted R) where
  open R use {nodes as n, low, high}

  -- an interface enters a node
  pub head_below : (f : ℕ) → f < 2 * length low → head (network_of R) f < n
  head_below f h = head_node (network_of R) (well_formed R A) f (interface_present R f h)

  pub paired : Paired low high
  paired = record { same = A.high_row; few = A.few_links }

  -- the two ends of a link are not one node
  ends_apart : (k : ℕ) → k < length low → get_or low k 0 ≢ get_or high k 0
  ends_apart k within e = omega (arith, (A.joins k within).below)

  -- an interface is named, at the node that it leaves, by its link
  pub hop_is : (f i : ℕ) → f < 2 * length low → tail (network_of R) f ≡ i → hop_at low high i (link f) ≡ onward f
  hop_is f i f_below t =
      link_byte low high i (link f) paired numbered ∙ go (two_sides f) (leaves low high i (link f))
    where
      numbered : link f < length low
      numbered = present_row R (link f) (interface_present R f f_below)

      low_tail : f ≡ 2 * link f → get_or low (link f) 0 ≡ i
      low_tail e = sym (tail_from_low (link f) (network_of R)) ∙ ap (tail (network_of R)) (sym e) ∙ t

      high_tail : f ≡ 2 * link f + 1 → get_or high (link f) 0 ≡ i
      high_tail e = sym (tail_from_high (link f) (network_of R)) ∙ ap (tail (network_of R)) (sym e) ∙ t

      go : (f ≡ 2 * link f) ⊎ (f ≡ 2 * link f + 1) → {h : Hop} → Leaves low high i (link f) h → h ≡ onward f
      go side (no_link over) = absurd (omega (arith, numbered))
      go (inl e) (from_low within at_low) = ap onward (sym e)
      go (inr e) (from_low within at_low) = absurd (ends_apart (link f) within (at_low ∙ sym (high_tail e)))
      go (inl e) (from_high within not_low at_high) = absurd (not_low (low_tail e))
      go (inr e) (from_high within not_low at_high) = ap onward (sym e)
      go (inl e) (apart within not_low not_high) = absurd (not_low (low_tail e))
      go (inr e) (apart within not_low not_high) = absurd (not_high (high_tail e))

-- a checked network's
pub checked_paired : (network : CheckedRows) → Paired network.rows.low.now network.rows.high.now
checked_paired network = paired (rows_lent network.rows) (check_accepts _ network.passed)

pub high_within : (network : CheckedRows) {k : ℕ} → k < length network.rows.low.now → k < length network.rows.high.now
high_within network h = omega (arith, (checked_paired network).same)

-- the answers of the look-up, in the order of its tests
module _ (low high : List ℕ) (i k : ℕ) where
  -- the two ends as the code reads them
  abbrev rows : Rows
  rows = record { nodes = 0; low = low; high = high; weight = [] }

  enters_high : head_of low high (2 * k) ≡ get_or high k 0
  enters_high = sym (head_of_lem rows (2 * k)) ∙ head_from_low k (network_of rows)

  enters_low : head_of low high (2 * k + 1) ≡ get_or low k 0
  enters_low = sym (head_of_lem rows (2 * k + 1)) ∙ head_from_high k (network_of rows)

  pub found_no_link : length low ≤ k → None ≡ found_by low high (hop_at low high i k)
  unfolding hop_at found_by leaving
  found_no_link over =
      elim (ℕ_discrete k here_byte) [
        | yes e ↦ simp (eq-eqb k here_byte e)
        | no e ↦ elim (ℕ_discrete k nowhere_byte) [
          | yes q ↦ simp (ne_eqb k here_byte e, eq-eqb k nowhere_byte q)
          | no q ↦ simp (ne_eqb k here_byte e, ne_eqb k nowhere_byte q, le-leb (length low) k over)
        ]
      ]

  module _ (pair : Paired low high) (within : k < length low) where
    by_link : found_by low high (hop_at low high i k) ≡ found_by low high (leaving low high i k)
    by_link = ap (found_by low high) (link_byte low high i k pair within)

    pub found_from_low : get_or low k 0 ≡ i → Some (record { 0 = get_or high k 0 }, record { 0 = 2 * k }) ≡ found_by low high (hop_at low high i k)
    unfolding found_by leaving
    found_from_low at_low = sym (by_link ∙ simp (lt-leb (length low) k within, eq-eqb (get_or low k 0) i at_low, enters_high))

    module _ (not_low : get_or low k 0 ≢ i) where
      pub found_from_high : get_or high k 0 ≡ i
          → Some (record { 0 = get_or low k 0 }, record { 0 = 2 * k + 1 }) ≡ found_by low high (hop_at low high i k)
      unfolding found_by leaving
      found_from_high at_high =
          sym (by_link ∙ simp (lt-leb (length low) k within, ne_eqb (get_or low k 0) i not_low, eq-eqb (get_or high k 0) i at_high, enters_low))

      pub found_apart : get_or high k 0 ≢ i → None ≡ found_by low high (hop_at low high i k)
      unfolding found_by leaving
      found_apart not_high =
          sym (by_link ∙ simp (lt-leb (length low) k within, ne_eqb (get_or low k 0) i not_low, ne_eqb (get_or high k 0) i not_high))

-- two answers that find something and are one find one thing
pub found_one : {x y : Node × Interface} → Some x ≡ Some y → x ≡ y
found_one e = cc

-- what an answer tells of the entry
module _ (low high : List ℕ) where
  pub next_onward : (h : Hop) {v : Node} {f : Interface} → Some (v, f) ≡ found_by low high h → h ≡ onward f.0
  unfolding found_by
  next_onward here e = absurd (let z : ◌≡◌ {A = ℕ} 0 1 = cc in omega arith)
  next_onward nowhere e = absurd (let z : ◌≡◌ {A = ℕ} 0 1 = cc in omega arith)
  next_onward (onward g) {v} {f} e = ap (λ (found : Node × Interface). onward found.1.0) (sym (found_one e))

  pub next_node : (h : Hop) {v : Node} {f : Interface} → Some (v, f) ≡ found_by low high h → v.0 ≡ head_of low high f.0
  unfolding found_by
  next_node here e = absurd (let z : ◌≡◌ {A = ℕ} 0 1 = cc in omega arith)
  next_node nowhere e = absurd (let z : ◌≡◌ {A = ℕ} 0 1 = cc in omega arith)
  next_node (onward g) {v} {f} e =
      ap (λ (found : Node × Interface). found.0.0) (found_one e) ∙ sym (ap (λ (found : Node × Interface). head_of low high found.1.0) (found_one e))

  pub absent_leadless : (h : Hop) → None ≡ found_by low high h → Leadless h
  unfolding found_by
  absent_leadless here e = at_destination
  absent_leadless nowhere e = without_path
  absent_leadless (onward g) e = absurd (let z : ◌≡◌ {A = ℕ} 0 1 = cc in omega arith)

-- whether one entry passes, in the order of the code's tests; where it is neither the node's own nor 255, by the answer of the look-up
module _ (low high : List ℕ) (i d byte : ℕ) where
  pub own_passes : d ≡ i → eqb byte here_byte ≡ byte_passes low high i d byte
  unfolding byte_passes
  own_passes own = simp (eq-eqb d i own)

  module _ (other : d ≢ i) where
    pub nowhere_passes : byte ≡ nowhere_byte → true ≡ byte_passes low high i d byte
    unfolding byte_passes
    nowhere_passes e = simp (ne_eqb d i other, eq-eqb byte nowhere_byte e)

    module _ (named : byte ≢ nowhere_byte) {answer : Option (Node × Interface)} (told : answer ≡ found_by low high (hop_at low high i byte)) where
      by_hop : byte_passes low high i d byte ≡ leads_on (hop_at low high i byte)
      unfolding byte_passes
      by_hop = simp (ne_eqb d i other, ne_eqb byte nowhere_byte named)

      pub found_passes : {some : Bool} → some ≡ is_some answer → some ≡ byte_passes low high i d byte
      unfolding leads_on found_by
      found_passes e = e ∙ ap is_some told ∙ go (hop_at low high i byte) ∙ sym by_hop
        where
          go : (h : Hop) → is_some (found_by low high h) ≡ leads_on h
          go here = refl
          go nowhere = refl
          go (onward f) = refl
