-- What the builder's checks tell: the verdict is the network's, where that refuses; else it is 14 where a table is short; and where
-- nothing is refused the network is accepted and every table is long enough.
use mathlib.Core.Bool.{true, false}
use mathlib.Core.Path.{◌≡◌, sym, ap, ◌∙◌}
use mathlib.Core.Logic.{◌≢◌}
use native.Mathlib.Omega.{arith}
use lib.ListN.{length}
use Rattle.net.specs.Refusals.{accepted, table_length}
use Rattle.net.specs.Rows.{Rows}
use Rattle.net.specs.Check.{check_network, verdict, Accepted}
use Rattle.net.specs.Verdict.{Verdict}
use Rattle.net.proofs.Accepted.{accepts_check, check_accepts}
use Rattle.net.proofs.Told.{number_refuses}
use Rattle.net.proofs.Verdicts.{or_else_first, or_else_second, first_accepted, second_accepted, not_refused, is_refused, passed_test}
use Rattle.tables.specs.Lent.{LentTables, tables_short, LongEnough}
use Rattle.tables.specs.Build.{build_verdict}
use Rattle.tables.specs.inner.Given.{WithinLimits}
use Rattle.tables.proofs.Lengths.{tables_long}

module _ (R : Rows) where
  open R use {nodes as n, low}

  -- the code's verdict on the network
  module _ {v : Verdict} (is : v ≡ check_network R) where
    checked : v.number ≡ accepted → (check_network R).number ≡ accepted
    checked free = sym (ap (λ (u : Verdict). u.number) is) ∙ free

    pub network_accepted : v.number ≡ accepted → Accepted R
    network_accepted free = check_accepts R (checked free)

    -- so that its counts are within the limits
    pub network_within : v.number ≡ accepted → WithinLimits n (length low)
    network_within free =
        let network = network_accepted free in
        record { few_nodes = network.few_nodes; few_links = network.few_links }

    module _ (T : LentTables) where
      pub network_refused : v.number ≢ accepted → v ≡ build_verdict R T
      unfolding build_verdict
      network_refused refusal = is ∙ sym (or_else_first _ _ (λ e. refusal (ap (λ (u : Verdict). u.number) is ∙ e)))

      pub tables_refused : v.number ≡ accepted → tables_short n (length low) T ≡ true → verdict table_length ≡ build_verdict R T
      unfolding build_verdict
      tables_refused free short = sym (or_else_second _ _ (checked free) ∙ is_refused table_length short)

      pub tables_accepted : v.number ≡ accepted → tables_short n (length low) T ≡ false → v ≡ build_verdict R T
      unfolding build_verdict
      tables_accepted free long =
          is ∙ accepts_check R (network_accepted free) ∙ sym (or_else_second _ _ (checked free) ∙ not_refused table_length long)

  -- its verdict on all of it
  module _ (T : LentTables) {v : Verdict} (is : v ≡ build_verdict R T) (free : v.number ≡ accepted) where
    whole : (build_verdict R T).number ≡ accepted
    whole = sym (ap (λ (u : Verdict). u.number) is) ∙ free

    pub build_accepted : Accepted R
    unfolding build_verdict
    build_accepted = check_accepts R (first_accepted _ _ whole)

    pub build_room : LongEnough n (length low) T
    unfolding build_verdict
    build_room = tables_long (passed_test _ table_length (λ e. omega arith) (second_accepted _ _ whole))

-- what the code's check of all of it needs
pub ruleset build_verdicts = (network_refused, tables_refused, tables_accepted, number_refuses)
