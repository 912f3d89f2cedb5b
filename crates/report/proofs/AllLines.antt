-- The laws of the loop over the failed links. Line k + 1 is put at the end of the lines so far, in the first of the places that still
-- hold no walks, and the two sums take its figures: that is the loop's invariant, HeldUpTo, from its begin to its end (held_begin,
-- held_on, held_done). A line of at most so many walks gives sums of at most so many for each line (sums_fit), so nothing overflows.
use Prim.Native.Nat.{ℕ, zero, suc, ◌+◌, ◌*◌, ◌-◌, ◌≤◌, ◌<◌}
use mathlib.Core.Path.{◌≡◌, refl, ap, ◌∙◌}
use mathlib.Core.List.{List, [], ◌∷◌, ◌++◌, append_assoc}
use native.Mathlib.Nat.{suc-mul}
use native.Mathlib.Numerals.{add-one}
use native.Mathlib.Omega.{arith}
use lib.ListN.{length, set, replicate}
use lib.Seq.{set_at}
use Rattle.net.specs.Limits.{most_nodes, most_links}
use Rattle.net.specs.Refusals.{accepted}
use Rattle.net.specs.Rows.{Rows}
use Rattle.net.specs.declared.failure.Failure.{Failure}
use Rattle.net.specs.declared.failure.Failure.TheVariants.{Nothing, One}
use Rattle.tables.specs.Lent.{LentTables}
use Rattle.report.specs.Line.{no_line, line_of}
use Rattle.report.specs.Lines.{link_lines, lines_over, delivered_over, dropped_over, lines_held}
use Rattle.report.specs.inner.Counting.{AtMostWalks}
use Rattle.report.specs.declared.counting.Line.{Line}
use Rattle.report.proofs.Walks.{line_fits}

delivered_append : (a b : List Line) → delivered_over (a ++ b) ≡ delivered_over a + delivered_over b
unfolding delivered_over
delivered_append [] b = omega arith
delivered_append (l ∷ a) b = omega (arith, delivered_append a b)

dropped_append : (a b : List Line) → dropped_over (a ++ b) ≡ dropped_over a + dropped_over b
unfolding dropped_over
dropped_append [] b = omega arith
dropped_append (l ∷ a) b = omega (arith, dropped_append a b)

-- the places and the two sums, where the lines of the links below k have been counted
pub record HeldUpTo (line : Failure → Line) (k : ℕ) (lines : List Line) (delivered dropped : ℕ) : Type 0 where
  pub places : lines ≡ lines_over k line ++ replicate (most_links - k) no_line
  pub delivers : delivered ≡ delivered_over (lines_over k line)
  pub drops : dropped ≡ dropped_over (lines_over k line)

module _ (line : Failure → Line) where
  abbrev line_at : ℕ → Line
  line_at k = line (One (record { 0 = k }))

  -- the lines of the links come one by one at the end
  links_more : (left k : ℕ) → link_lines (suc left) line k ≡ link_lines left line k ++ (line_at (k + left) ∷ [])
  unfolding link_lines
  links_more zero k = let same : k + 0 ≡ k = omega arith in rw same
  links_more (suc left) k =
      let same : suc k + left ≡ k + suc left = omega arith in
      ap (λ (lines : List Line). line_at k ∷ lines)
      (links_more left (suc k) ∙ ap (λ (at : ℕ). link_lines left line (suc k) ++ (line_at at ∷ [])) same)

  lines_more : (k : ℕ) → lines_over (k + 1) line ≡ lines_over k line ++ (line_at k ∷ [])
  unfolding lines_over
  lines_more k =
      let same : 0 + k ≡ k = omega arith in
      rw add-one
      (ap (λ (lines : List Line). line Nothing ∷ lines)
      (links_more k 0 ∙ ap (λ (at : ℕ). link_lines k line 0 ++ (line_at at ∷ [])) same))

  links_length : (left k : ℕ) → length (link_lines left line k) ≡ left
  unfolding link_lines
  links_length zero k = refl
  links_length (suc left) k = ap suc (links_length left (suc k))

  lines_length : (k : ℕ) → length (lines_over k line) ≡ k + 1
  unfolding lines_over
  lines_length k = omega (arith, links_length k 0)

  delivered_none : (line Nothing).delivered ≡ delivered_over (lines_over 0 line)
  unfolding lines_over link_lines delivered_over
  delivered_none = omega arith

  dropped_none : (line Nothing).dropped ≡ dropped_over (lines_over 0 line)
  unfolding lines_over link_lines dropped_over
  dropped_none = omega arith

  delivered_more : (k : ℕ) → delivered_over (lines_over k line) + (line_at k).delivered ≡ delivered_over (lines_over (k + 1) line)
  unfolding delivered_over
  delivered_more k = rw (lines_more k) (omega (arith, delivered_append (lines_over k line) (line_at k ∷ [])))

  dropped_more : (k : ℕ) → dropped_over (lines_over k line) + (line_at k).dropped ≡ dropped_over (lines_over (k + 1) line)
  unfolding dropped_over
  dropped_more k = rw (lines_more k) (omega (arith, dropped_append (lines_over k line) (line_at k ∷ [])))

  -- the places: the lines so far, and no walks in the others
  abbrev held : ℕ → List Line
  held k = lines_over k line ++ replicate (most_links - k) no_line

  held_none : set (replicate (suc most_links) no_line) 0 (line Nothing) ≡ held 0
  unfolding lines_over link_lines
  held_none = refl

  held_more : (k : ℕ) → k < most_links → set (held k) (k + 1) (line_at k) ≡ held (k + 1)
  held_more k h =
      let room : most_links - k ≡ suc (most_links - (k + 1)) = omega arith in
      rw (room, lines_more k, append_assoc)
      (set_at (lines_over k line) no_line (replicate (most_links - (k + 1)) no_line) (line_at k) (k + 1) (lines_length k))

  pub held_begin : {none first : Line} → none ≡ no_line → first ≡ line Nothing
      → HeldUpTo line 0 (set (replicate (suc most_links) none) 0 first) first.delivered first.dropped
  held_begin empty counted =
      record {
        places = (λ t. set (replicate (suc most_links) (empty t)) 0 (counted t)) ∙ held_none;
        delivers = ap (λ (l : Line). l.delivered) counted ∙ delivered_none;
        drops = ap (λ (l : Line). l.dropped) counted ∙ dropped_none;
      }

  module _ {k : ℕ} {lines : List Line} {delivered dropped : ℕ} (before : HeldUpTo line k lines delivered dropped) where
    pub held_on : {more : Line} → k < most_links → more ≡ line (One (record { 0 = k }))
        → HeldUpTo line (k + 1) (set lines (k + 1) more) (delivered + more.delivered) (dropped + more.dropped)
    held_on h counted =
        record {
          places = (λ t. set (before.places t) (k + 1) (counted t)) ∙ held_more k h;
          delivers = (λ t. before.delivers t + (counted t).delivered) ∙ delivered_more k;
          drops = (λ t. before.drops t + (counted t).dropped) ∙ dropped_more k;
        }

    pub held_done : (links : ℕ) → k ≡ links
        → record { number = accepted; place = 0; lines = lines; walks = delivered + dropped; delivered = delivered; dropped = dropped }
        ≡ lines_held links (lines_over links line)
    unfolding lines_held
    held_done links all = rw (← all, before.places, before.delivers, before.drops)

  module _ (each : ℕ) (fits : (failure : Failure) → ((line failure).delivered ≤ each) × ((line failure).dropped ≤ each)) where
    links_fit : (left k : ℕ) → (delivered_over (link_lines left line k) ≤ left * each) × (dropped_over (link_lines left line k) ≤ left * each)
    unfolding link_lines delivered_over dropped_over
    links_fit zero k = (omega arith, omega arith)
    links_fit (suc left) k =
        let (a, b) = links_fit left (suc k) in
        let (d, e) = fits (One (record { 0 = k })) in
        (omega (arith, suc-mul left each), omega (arith, suc-mul left each))

    sums_fit : (k : ℕ) → (delivered_over (lines_over k line) ≤ suc k * each) × (dropped_over (lines_over k line) ≤ suc k * each)
    unfolding lines_over delivered_over dropped_over
    sums_fit k =
        let (a, b) = links_fit k 0 in
        let (d, e) = fits Nothing in
        (omega (arith, suc-mul k each), omega (arith, suc-mul k each))

-- so they fit, each line being of at most as many walks as there are ordered pairs of nodes
module _ (R : Rows) (T : LentTables) (few : R.nodes ≤ most_nodes) {k : ℕ} {lines : List Line} {delivered dropped : ℕ}
    (before : HeldUpTo (line_of R T) k lines delivered dropped) where
  pub held_fits : (delivered ≤ suc k * (most_nodes * most_nodes)) × (dropped ≤ suc k * (most_nodes * most_nodes))
  held_fits =
      let all : (failure : Failure) → AtMostWalks (most_nodes * most_nodes) (line_of R T failure) = λ failure. line_fits R T failure few in
      let (a, b) = sums_fit (line_of R T) (most_nodes * most_nodes) (λ failure. ((all failure).delivered, (all failure).dropped)) k in
      (omega (arith, before.delivers), omega (arith, before.drops))

  pub held_on_fits : {more : Line} → more ≡ line_of R T (One (record { 0 = k }))
      → (delivered + more.delivered ≤ suc (suc k) * (most_nodes * most_nodes))
      × (dropped + more.dropped ≤ suc (suc k) * (most_nodes * most_nodes))
  held_on_fits counted =
      let (a, b) = held_fits in
      let all = line_fits R T (One (record { 0 = k })) few in (
        omega (arith, all.delivered, ap (λ (l : Line). l.delivered) counted),
        omega (arith, all.dropped, ap (λ (l : Line). l.dropped) counted),
      )
