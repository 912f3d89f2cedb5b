-- One more link passes: the rows get one place more at their end, and the bytes that have passed get that link's.
use Prim.Native.Nat.{ℕ, zero, suc, ◌+◌, ◌≤◌, ◌<◌}
use mathlib.Core.Path.{◌≡◌, refl}
use mathlib.Core.List.{List, [], ◌∷◌, ◌++◌, append_assoc}
use native.Mathlib.Nat.{zero-add}
use native.Mathlib.Decide.{dec_lt}
use native.Mathlib.Omega.{arith}
use lib.ListN.{length, get_or, length-append, get_or-append}
use lib.Seq.{get_or_at}
use Rattle.net.specs.Rows.{Rows}
use Rattle.net.specs.Check.{span_at, Joins, Ascends, TwinsAscend}
use Rattle.net.specs.declared.check.Span.{Span}
use Rattle.plan.specs.Plan.{link_bytes, links_bytes, plan_start}
use Rattle.plan.specs.Fault.{Follows, TwinFollows, Passed, LinkDue}
use Rattle.plan.proofs.Reached.{one_more_link}

module _ {m : ℕ} {R : Rows} (due : LinkDue m R) (l h w : ℕ) where
  open R use {nodes as n, low, high, weight}

  -- the rows with one place more
  abbrev pub longer_rows : Rows
  longer_rows = record { nodes = n; low = low ++ (l ∷ []); high = high ++ (h ∷ []); weight = weight ++ (w ∷ []) }

  longer : (row : List ℕ) (x : ℕ) → length row ≡ length low → length (row ++ (x ∷ [])) ≡ suc (length low)
  longer row x same = simp length-append (omega arith)

  old : (row : List ℕ) (x k : ℕ) → length row ≡ length low → k < length low → get_or (row ++ (x ∷ [])) k 0 ≡ get_or row k 0
  old row x k same within = get_or-append row (x ∷ []) 0 k (omega arith)

  new : (row : List ℕ) (x k : ℕ) → length row ≡ length low → k ≡ length low → get_or (row ++ (x ∷ [])) k 0 ≡ x
  new row x k same last = get_or_at row x [] 0 k (omega arith)

  -- the old links are as they were, and the new one is the last
  old_span : (k : ℕ) → k < length low → span_at longer_rows k ≡ span_at R k
  old_span k before =
      let network = due.passed.network in
      rw (old low l k refl before, old high h k network.high_row before, old weight w k network.weight_row before)

  abbrev new_link : Span
  new_link = record { low = l; high = h; weight = w }

  new_span : (k : ℕ) → k ≡ length low → span_at longer_rows k ≡ new_link
  new_span k last =
      let network = due.passed.network in
      rw (new low l k refl last, new high h k network.high_row last, new weight w k network.weight_row last)

  -- what holds of each two links that follow each other, and of the new link after the last
  pairs : (Holds : Span → Span → Type 0) → ((k : ℕ) → suc k < length low → Holds (span_at R k) (span_at R (suc k)))
      → ((k : ℕ) → suc k ≡ length low → Holds (span_at R k) new_link)
      → (k : ℕ) → suc k < length (low ++ (l ∷ [])) → Holds (span_at longer_rows k) (span_at longer_rows (suc k))
  pairs Holds olds news k within =
      let before : k < length low = omega (arith, longer low l refl) in
      rw (old_span k before)
      (elim (dec_lt (suc k) (length low)) [
        | yes both ↦ rw (old_span (suc k) both) (olds k both)
        | no after ↦
            let last : suc k ≡ length low = omega (arith, longer low l refl) in
            rw (new_span (suc k) last) (news k last)
      ])

  pub passes_more : Joins n l h w → Follows R l h → TwinFollows R l h w → Passed m longer_rows
  passes_more joins follows twin_follows =
      let network = due.passed.network in
      let few = due.passed.few_links in
      let hs = network.high_row in
      let ws = network.weight_row in
      record {
        network =
            record {
              high_row = omega (arith, longer low l refl, longer high h hs);
              weight_row = omega (arith, longer low l refl, longer weight w ws);
              some_node = network.some_node;
              few_nodes = network.few_nodes;
              few_links = omega (arith, longer low l refl);
              joins = λ k within.
                  elim (dec_lt k (length low)) [
                    | yes before ↦ rw (old low l k refl before, old high h k hs before, old weight w k ws before) (network.joins k before)
                    | no after ↦
                        let last : k ≡ length low = omega (arith, longer low l refl) in
                        rw (new low l k refl last, new high h k hs last, new weight w k ws last) joins
                  ];
              ascends = pairs (λ before link. Ascends before link.low link.high) network.ascends follows;
              twins = pairs (λ before link. TwinsAscend before link.low link.high link.weight) network.twins twin_follows;
            };
        few_links = few;
        within = omega (arith, longer low l refl);
      }

  -- the bytes of the old links
  old_links : (left k : ℕ) → k + left ≤ length low → links_bytes left longer_rows k ≡ links_bytes left R k
  unfolding links_bytes
  old_links zero k within = refl
  old_links (suc left) k within =
      let network = due.passed.network in
      let here : k < length low = omega arith in
      rw (
        old low l k refl here,
        old high h k network.high_row here,
        old weight w k network.weight_row here,
        old_links left (suc k) (omega arith),
      )

  pub bytes_more : plan_start m longer_rows ≡ plan_start m R ++ link_bytes l h w
  unfolding plan_start
  bytes_more =
      let network = due.passed.network in
      rw (
        longer low l refl,
        one_more_link longer_rows (length low) 0,
        old_links (length low) 0 (omega arith),
        zero-add,
        new low l _ refl refl,
        new high h _ network.high_row refl,
        new weight w _ network.weight_row refl,
      )
      (simp append_assoc)
