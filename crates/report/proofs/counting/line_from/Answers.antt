use Rattle.walk.proofs.Grounds.{few_nodes}
use Rattle.walk.proofs.Verdicts.{checked_ready}
use Rattle.report.proofs.Walks.{course_short, walks_fit}
use Rattle.report.proofs.counting.line_from.Goals as goal

pub counted-sum-requires : goal.counted-sum-requires
counted-sum-requires c =
    let known = c.requires in
    record {
      counted =
          walks_fit _ _ _ (course_short _ _ _ _) (few_nodes (checked_ready c.args.checked.now)) known.source
          c.loop-d-test.true known.counted c.loop-d.invariant.sums;
      short = rw c.walk_from-walked.ensures.hops (course_short _ _ _ _ _);
    }
