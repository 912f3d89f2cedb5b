-- The test of refusal 16 and its words agree: tables pass the test exactly if every entry for the deciding node itself is here_byte, and
-- every other entry is nowhere_byte or a link at the deciding node. The link of an interface that the test finds is one at the node that
-- the interface leaves, and a link at a node has an interface that leaves it.
use Prim.Native.Nat.{ℕ, zero, suc, ◌+◌, ◌*◌, ◌<◌}
use mathlib.Core.Bool.{Bool, true, false}
use mathlib.Core.Path.{◌≡◌, refl, sym, ap, ◌∙◌}
use mathlib.Core.Logic.{inl, inr, ◌↔◌}
use mathlib.Core.List.{List}
use native.Mathlib.Decide.{ℕ_discrete}
use native.Mathlib.Omega.{arith}
use borrow.Author.Tests.{eq-eqb, ne_eqb, eqb-true}
use lib.ListN.{length, get_or}
use Rattle.graph.specs.Network.{Network, link, tail, head}
use Rattle.graph.specs.Entries.{Hop, here, onward, nowhere}
use Rattle.graph.proofs.Interfaces.{interface_ends, link_from_low, link_from_high, tail_from_low, tail_from_high}
use Rattle.net.specs.Choice.{both}
use Rattle.net.specs.Rows.{Rows, network_of}
use Rattle.net.specs.Check.{Accepted}
use Rattle.net.specs.Entry.{here_byte, nowhere_byte}
use Rattle.net.proofs.Rows.{interface_present, present_row}
use Rattle.tables.specs.Lent.{LentTables}
use Rattle.walk.specs.Lent.{hop_at, LinkAt, Passes, TablePasses, TablesPass, all_below, leads_on, byte_passes, table_passes, tables_pass}
use Rattle.walk.proofs.Hops.{hop_below, hop_leaves, hop_link, hop_is}

both_exactly : (a b : Bool) → (both a b ≡ true) ↔ ((a ≡ true) × (b ≡ true))
both_exactly true b = (λ e. (refl, e), λ e. e.1)
both_exactly false b = (λ e. absurd (let z : ◌≡◌ {A = ℕ} 0 1 = cc in omega arith), λ e. e.0)

all_exactly : (count : ℕ) (test : ℕ → Bool) → (all_below count test ≡ true) ↔ ((k : ℕ) → k < count → test k ≡ true)
unfolding all_below
all_exactly zero test = (λ e k h. absurd (omega arith), λ all. refl)
all_exactly (suc count) test = (
  λ e k h.
      let (before, last) = (both_exactly (all_below count test) (test count)).0 e in
      elim (ℕ_discrete k count) [
        | yes q ↦ ap test q ∙ last
        | no q ↦ (all_exactly count test).0 before k (omega arith)
      ],
  λ all.
      (both_exactly (all_below count test) (test count)).1
      ((all_exactly count test).1 (λ k h. all k (omega arith)), all count (omega arith)),
)

-- the link of an interface is one at the node that it leaves
pub link_left : (R : Rows) (f i : ℕ) → (network_of R).Present (link f) → tail (network_of R) f ≡ i → LinkAt (network_of R) i (link f)
link_left R f i present leaves =
    record {
      numbered = present_row R (link f) present;
      joins = elim (interface_ends (network_of R) f) [ inl (t, _) ↦ inl (sym t ∙ leaves) | inr (t, _) ↦ inr (sym t ∙ leaves) ];
    }

module _ (R : Rows) (A : Accepted R) where
  open R use {nodes as n, low, high}

  abbrev N : Network
  N = network_of R

  -- a byte leads on exactly if it is a link at the node
  link_exactly : (i k : ℕ) → (leads_on (hop_at low high i k) ≡ true) ↔ LinkAt N i k
  unfolding leads_on
  link_exactly i k = (go (hop_at low high i k) refl, back)
    where
      go : (h : Hop) → hop_at low high i k ≡ h → leads_on h ≡ true → LinkAt N i k
      go here e q = absurd (let z : ◌≡◌ {A = ℕ} 0 1 = cc in omega arith)
      go nowhere e q = absurd (let z : ◌≡◌ {A = ℕ} 0 1 = cc in omega arith)
      go (onward f) e q = rw (hop_link R i k e) at (link_left R f i (interface_present R f (hop_below R i k e)) (hop_leaves R i k e))

      leads : (f : ℕ) → f < 2 * length low → tail N f ≡ i → link f ≡ k → leads_on (hop_at low high i k) ≡ true
      leads f below leaves is =
          let named : hop_at low high i k ≡ onward f = rw is at (hop_is R A f i below leaves) in
          rw named

      back : LinkAt N i k → leads_on (hop_at low high i k) ≡ true
      back b =
          let numbered = b.numbered in
          elim b.joins [
            | inl e ↦ leads (2 * k) (omega arith) (tail_from_low k N ∙ e) (link_from_low k)
            | inr e ↦ leads (2 * k + 1) (omega arith) (tail_from_high k N ∙ e) (link_from_high k)
          ]

  byte_exactly : (i d byte : ℕ) → (byte_passes low high i d byte ≡ true) ↔ Passes N i d byte
  unfolding byte_passes
  byte_exactly i d byte =
      elim (ℕ_discrete d i) [
        | yes e ↦ rw (eq-eqb d i e) (
          λ q. record { own = λ _. eqb-true byte here_byte q; other = λ n. absurd (n e) },
          λ p. eq-eqb byte here_byte (p.own e),
        )
        | no e ↦ rw (ne_eqb d i e) (elim (ℕ_discrete byte nowhere_byte) [
          | yes q ↦ rw (eq-eqb byte nowhere_byte q) (
            λ _. record { own = λ s. absurd (e s); other = λ _. inl q },
            λ p. refl,
          )
          | no q ↦ rw (ne_eqb byte nowhere_byte q) (
            λ s. record { own = λ s. absurd (e s); other = λ _. inr ((link_exactly i byte).0 s) },
            λ p. (link_exactly i byte).1 (elim (p.other e) [ inl s ↦ absurd (q s) | inr b ↦ b ]),
          )
        ])
      ]

  table_exactly : (rows : ℕ) (deciding : ℕ → ℕ) (table : List ℕ)
      → (table_passes n low high rows deciding table ≡ true) ↔ TablePasses N rows deciding table
  unfolding table_passes
  table_exactly rows deciding table = (
    λ e row d row_Below d_below.
        let in_row = (all_exactly rows row_passes_lem).0 e row row_Below in
        (byte_exactly (deciding row) d (byte row d)).0 ((all_exactly n (passes row)).0 in_row d d_below),
    λ p.
        (all_exactly rows row_passes_lem).1 λ row row_Below.
        (all_exactly n (passes row)).1 λ d d_below.
        (byte_exactly (deciding row) d (byte row d)).1 (p row d row_Below d_below),
  )
    where
      byte : ℕ → ℕ → ℕ
      byte row d = get_or table (row * n + d) 0

      passes : ℕ → ℕ → Bool
      passes row d = byte_passes low high (deciding row) d (byte row d)

      row_passes_lem : ℕ → Bool
      row_passes_lem row = all_below n (passes row)

  pub passes_exactly : (T : LentTables) → (tables_pass n low high T ≡ true) ↔ TablesPass N T
  unfolding tables_pass head tail
  passes_exactly T = (
    λ e.
        let (r, rest) = (both_exactly routes (both forwards backwards)).0 e in
        let (f, b) = (both_exactly forwards backwards).0 rest in
        record {
          routes = (table_exactly n (λ i. i) T.routing).0 r;
          forwards = (table_exactly (2 * length low) (head N) T.forwarding).0 f;
          backwards = (table_exactly (2 * length low) (tail N) T.backwarding).0 b;
        },
    λ p.
        (both_exactly routes (both forwards backwards)).1 (
          (table_exactly n (λ i. i) T.routing).1 p.routes,
          (both_exactly forwards backwards).1 (
            (table_exactly (2 * length low) (head N) T.forwarding).1 p.forwards,
            (table_exactly (2 * length low) (tail N) T.backwarding).1 p.backwards,
          ),
        ),
  )
    where
      routes : Bool
      routes = table_passes n low high n (λ i. i) T.routing

      forwards : Bool
      forwards = table_passes n low high (2 * length low) (head N) T.forwarding

      backwards : Bool
      backwards = table_passes n low high (2 * length low) (tail N) T.backwarding
