-- The laws of the two loops that count walks. A walk of the report crosses at most as many links as its limit (course_short), and counts
-- as delivered or as other by its ending (counts). One walk more makes of the line below d the line below d + 1, and the source itself,
-- to which no walk is made, changes nothing (walk_counted, counted_own); the line below n, added to the lines of the sources before s,
-- is that of the sources below s + 1 (source_counted). As each walk counts for at most one walk and its hop limit, no figure passes what
-- so many walks can make (AtMostWalks), and nothing overflows.
use Prim.Native.Nat.{ℕ, zero, suc, ◌+◌, ◌*◌, ◌≤◌, ◌<◌, max}
use mathlib.Core.Path.{◌≡◌, refl, sym, ap, subst, ◌∙◌}
use mathlib.Core.Logic.{◌≢◌, ◌⊎◌, inl, inr}
use native.Mathlib.Nat.{suc-mul, mul-le-mul}
use native.Mathlib.Decide.{ℕ_discrete}
use native.Mathlib.Omega.{arith}
use borrow.Author.Tests.{eq-eqb, ne_eqb}
use lib.ListN.{length}
use Rattle.graph.specs.Walk.{delivered, unrouted, Course, walk_of}
use Rattle.graph.proofs.Moves.{walk_short}
use Rattle.net.specs.Limits.{most_nodes, report_hops}
use Rattle.net.specs.Rows.{Rows}
use Rattle.net.specs.declared.failure.Failure.{Failure}
use Rattle.tables.specs.Lent.{LentTables}
use Rattle.walk.specs.Walk.{ending_number, course_of}
use Rattle.report.specs.Line.{sum_below, most_below, sum_over_pairs, most_over_pairs}
use Rattle.report.specs.Line.{ends_with, counts_delivered, counts_other, counts_hops, no_line, line_over, line_of}
use Rattle.report.specs.inner.Counting.{course_at, counted_line, line_below, AtMostWalks}
use Rattle.report.specs.declared.counting.Line.{Line}
use Rattle.report.proofs.Sums.{apart, apart_own, apart_other, apart_bounded, sum_more, most_more, sum_bounded}

-- the walks that are counted have the report's hop limit
pub course_short : (R : Rows) (T : LentTables) (failure : Failure) (s d : ℕ) → length (course_at R T failure s d).crossed ≤ report_hops
unfolding course_of walk_of
course_short R T failure s d = walk_short _ _ _ d report_hops s _ unrouted

-- what one walk counts for, by its ending's number
pub record AsDelivered (c : Course) : Type 0 where
  pub number : ending_number c.ending ≡ ending_number delivered
  pub one : counts_delivered c ≡ 1
  pub other : counts_other c ≡ 0
  pub hops : counts_hops c ≡ length c.crossed

pub record AsOther (c : Course) : Type 0 where
  pub number : ending_number c.ending ≢ ending_number delivered
  pub one : counts_delivered c ≡ 0
  pub other : counts_other c ≡ 1
  pub hops : counts_hops c ≡ 0

pub counts : (c : Course) → AsDelivered c ⊎ AsOther c
unfolding counts_delivered counts_other counts_hops ends_with
counts c =
    elim (ℕ_discrete (ending_number c.ending) (ending_number delivered)) [
      | yes is ↦
          let test = eq-eqb _ _ is in
          inl (record { number = is; one = rw test; other = rw test; hops = rw test })
      | no other ↦
          let test = ne_eqb _ _ other in
          inr (record { number = other; one = rw test; other = rw test; hops = rw test })
    ]

-- each walk is delivered or counts as dropped, and counts for no more hops than it has
pub counts_one : (c : Course) → counts_delivered c + counts_other c ≡ 1
counts_one c = elim (counts c) [ inl w ↦ omega (arith, w.one, w.other) | inr w ↦ omega (arith, w.one, w.other) ]

hops_short : (c : Course) {most : ℕ} → length c.crossed ≤ most → counts_hops c ≤ most
hops_short c h = elim (counts c) [ inl w ↦ omega (arith, w.hops) | inr w ↦ omega (arith, w.hops) ]

-- two lines with the same figures are one
same_line : {x y : Line} → x.delivered ≡ y.delivered → x.dropped ≡ y.dropped → x.hops ≡ y.hops → x.longest ≡ y.longest → x ≡ y
same_line a b c e = λ t. record { delivered = a t; dropped = b t; hops = c t; longest = e t }

-- a line with one walk more, as the code makes it
module _ (line : Line) (ending hops : ℕ) where
  pub other_counted : ending ≢ ending_number delivered
      → record { delivered = line.delivered; dropped = line.dropped + 1; hops = line.hops; longest = line.longest }
      ≡ counted_line line ending hops
  unfolding counted_line
  other_counted e = rw (ne_eqb ending _ e)

  pub delivered_counted : (longest : ℕ) → ending ≡ ending_number delivered → longest ≡ max line.longest hops
      → record { delivered = line.delivered + 1; dropped = line.dropped; hops = line.hops + hops; longest = longest }
      ≡ counted_line line ending hops
  unfolding counted_line
  delivered_counted longest e most = rw (eq-eqb ending _ e) (same_line refl refl refl most)

-- more walks are at most more
at_most_more : {walks more : ℕ} {line : Line} → walks ≤ more → AtMostWalks walks line → AtMostWalks more line
at_most_more h before =
    record {
      delivered = omega (arith, before.delivered);
      dropped = omega (arith, before.dropped);
      hops = omega (arith, before.hops);
    }

-- the loop over destinations: below none, past the source itself, one walk more
module _ (s : ℕ) (course : ℕ → Course) (line : Line) where
  -- what the walk to a destination counts for
  abbrev delivers : ℕ → ℕ
  delivers d = counts_delivered (course d)

  abbrev others : ℕ → ℕ
  others d = counts_other (course d)

  abbrev crosses : ℕ → ℕ
  crosses d = counts_hops (course d)

  pub counted_none : line ≡ line_below 0 s course line
  unfolding line_below sum_below most_below
  counted_none = same_line (omega arith) (omega arith) (omega arith) (omega arith)

  pub counted_own : {d : ℕ} → d ≡ s → line_below d s course line ≡ line_below (d + 1) s course line
  unfolding line_below
  counted_own {d} e =
      let own : (f : ℕ → ℕ) → apart s f d ≡ 0 = λ f. rw e (apart_own f s) in
      same_line
      (omega (arith, own delivers, sum_more (apart s delivers) d))
      (omega (arith, own others, sum_more (apart s others) d))
      (omega (arith, own crosses, sum_more (apart s crosses) d))
      (omega (arith, own crosses, most_more (apart s crosses) d))

  counted_more : {d : ℕ} → d ≢ s
      → counted_line (line_below d s course line) (ending_number (course d).ending) (length (course d).crossed)
      ≡ line_below (d + 1) s course line
  unfolding line_below counted_line
  counted_more {d} other =
      let more_delivered = sum_more (apart s delivers) d in
      let more_others = sum_more (apart s others) d in
      let more_hops = sum_more (apart s crosses) d in
      let most_hops = most_more (apart s crosses) d in
      let own_delivered = apart_other delivers s other in
      let own_other = apart_other others s other in
      let own_hops = apart_other crosses s other in
      elim (counts (course d)) [
        | inl w ↦ rw (eq-eqb _ _ w.number)
            (same_line (omega (arith, w.one)) (omega (arith, w.other)) (omega (arith, w.hops)) (omega (arith, w.hops)))
        | inr w ↦ rw (ne_eqb _ _ w.number)
            (same_line (omega (arith, w.one)) (omega (arith, w.other)) (omega (arith, w.hops)) (omega (arith, w.hops)))
      ]

  -- the same of the values that the code has
  pub walk_counted : {d : ℕ} {sum more : Line} {ending hops : ℕ} → d ≢ s → sum ≡ line_below d s course line
      → ending ≡ ending_number (course d).ending → hops ≡ length (course d).crossed → more ≡ counted_line sum ending hops
      → more ≡ line_below (d + 1) s course line
  walk_counted other sums ended crossed made = made ∙ (λ t. counted_line (sums t) (ended t) (crossed t)) ∙ counted_more other

  -- so many walks more at most
  module _ (short : (d : ℕ) → length (course d).crossed ≤ report_hops) where
    counted_at_most : (walks d : ℕ) → AtMostWalks walks line → AtMostWalks (walks + d) (line_below d s course line)
    unfolding line_below
    counted_at_most walks d before =
        let each : (f : ℕ → ℕ) (most : ℕ) → ((k : ℕ) → f k ≤ most) → sum_below d (apart s f) ≤ d * most =
        λ f most bound. sum_bounded (apart s f) most d (λ k h. apart_bounded f s most (bound k)) in
        record {
          delivered = omega (arith, before.delivered, each delivers 1 (λ k. omega (arith, counts_one (course k))));
          dropped = omega (arith, before.dropped, each others 1 (λ k. omega (arith, counts_one (course k))));
          hops = omega (arith, before.hops, each crosses report_hops (λ k. hops_short (course k) (short k)));
        }

    pub walks_fit : {n d : ℕ} {sum : Line} → n ≤ most_nodes → s < n → d < n → AtMostWalks (s * n) line → sum ≡ line_below d s course line
        → AtMostWalks (most_nodes * most_nodes) sum
    walks_fit {n} {d} few s_node d_node before sums =
        let s_fits : suc s ≤ most_nodes = omega arith in
        let rows : suc s * n ≤ most_nodes * most_nodes = mul-le-mul s_fits few in
        rw sums (at_most_more (omega (arith, rows, suc-mul s n)) (counted_at_most (s * n) d before))

-- the loop over sources: the line of the sources below a count, each with all destinations
unfoldable pub sources_below : ℕ → ℕ → (ℕ → ℕ → Course) → Line
sources_below count n course =
    record {
      delivered = sum_below count (λ s. sum_below n (apart s (λ d. counts_delivered (course s d))));
      dropped = sum_below count (λ s. sum_below n (apart s (λ d. counts_other (course s d))));
      hops = sum_below count (λ s. sum_below n (apart s (λ d. counts_hops (course s d))));
      longest = most_below count (λ s. most_below n (apart s (λ d. counts_hops (course s d))));
    }

module _ (n : ℕ) (course : ℕ → ℕ → Course) where
  pub source_none : no_line ≡ sources_below 0 n course
  unfolding no_line sources_below sum_below most_below
  source_none = refl

  source_more : (s : ℕ) → line_below n s (course s) (sources_below s n course) ≡ sources_below (s + 1) n course
  unfolding sources_below line_below
  source_more s = same_line (sym (sum_more _ s)) (sym (sum_more _ s)) (sym (sum_more _ s)) (sym (most_more _ s))

  -- the same of the values that the code has
  pub source_counted : (s : ℕ) {line more : Line} → line ≡ sources_below s n course → more ≡ line_below n s (course s) line
      → more ≡ sources_below (s + 1) n course
  source_counted s sums made = made ∙ ap (line_below n s (course s)) sums ∙ source_more s

  source_all : sources_below n n course ≡ line_over n course
  unfolding sources_below line_over sum_over_pairs most_over_pairs
  source_all = refl

  module _ (short : (s d : ℕ) → length (course s d).crossed ≤ report_hops) where
    pub sources_at_most : (count : ℕ) → AtMostWalks (count * n) (sources_below count n course)
    unfolding sources_below sum_below line_below most_below
    sources_at_most zero = record { delivered = omega arith; dropped = omega arith; hops = omega arith }
    sources_at_most (suc count) =
        subst (λ (walks : ℕ). AtMostWalks walks (sources_below (suc count) n course)) (sym (suc-mul count n))
        (counted_at_most count (course count) (sources_below count n course) (short count) (count * n) n (sources_at_most count))

-- a failure's line: that of all sources, of at most as many walks as there are ordered pairs of nodes
module _ (R : Rows) (T : LentTables) (failure : Failure) where
  pub sources_all : sources_below R.nodes R.nodes (course_at R T failure) ≡ line_of R T failure
  unfolding line_of
  sources_all = source_all R.nodes (course_at R T failure)

  -- the same of the values that the code has after its loop
  pub sources_done : {s : ℕ} {line : Line} → s ≤ R.nodes → R.nodes ≤ s → line ≡ sources_below s R.nodes (course_at R T failure)
      → line ≡ line_of R T failure
  sources_done {s} within past sums =
      let all : s ≡ R.nodes = omega (arith, within, past) in
      (rw all at sums) ∙ sources_all

  pub line_fits : R.nodes ≤ most_nodes → AtMostWalks (most_nodes * most_nodes) (line_of R T failure)
  line_fits few =
      at_most_more (mul-le-mul few few)
      (rw sources_all at (sources_at_most R.nodes (course_at R T failure) (course_short R T failure) R.nodes))
