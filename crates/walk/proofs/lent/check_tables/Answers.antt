-- 14 by the three lengths, then 16 by the three tables: the two tests of the definition. Where the lengths do, all is known that the
-- check of the entries asks.
use mathlib.Core.Path.{sym, ◌∙◌}
use Rattle.net.proofs.Accepted.{check_accepts}
use Rattle.tables.proofs.Lengths.{tables_long}
use Rattle.walk.proofs.Verdicts.{lengths_refused, entries_refused, tables_taken}
use Rattle.walk.proofs.lent.check_tables.Goals as goal

pub tables_short-requires : goal.tables_short-requires
tables_short-requires c =
    let network = check_accepts _ c.args.network.now.passed in
    record { few_nodes = network.few_nodes; few_links = network.few_links }

pub returns-then-tables_short : goal.returns-then-tables_short
returns-then-tables_short c = lengths_refused _ _ (sym c.tables_short.ensures ∙ c.if-tables_short.true)

pub tables_pass-requires : goal.tables_pass-requires
tables_pass-requires c =
    tables_long (sym c.tables_short.ensures ∙ c.if-tables_short.false)

pub returns-then-not-tables_pass : goal.returns-then-not-tables_pass
returns-then-not-tables_pass c =
    entries_refused _ _ (sym c.tables_short.ensures ∙ c.if-tables_short.false) (sym c.tables_pass.ensures ∙ c.if-not-tables_pass.true)

pub returns : goal.returns
returns c = tables_taken _ _ (sym c.tables_short.ensures ∙ c.if-tables_short.false) (sym c.tables_pass.ensures ∙ c.if-not-tables_pass.false)
