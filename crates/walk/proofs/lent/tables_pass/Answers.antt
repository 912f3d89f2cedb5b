-- The three tables in the order of the definition: the first that does not pass decides, and else the last. Each closure answers the node
-- that its table's rows are decided at.
use Prim.Native.Nat.{ℕ}
use borrow.Author.Rules.{rules}
use Rattle.net.specs.Lent.{rows_lent}
use Rattle.net.specs.Rows.{tail_of, head_of}
use Rattle.walk.proofs.Below.{routes_fail, forwards_fail, backwards_decide}
use Rattle.walk.proofs.lent.tables_pass.Goals as goal

pub returns-then-not-table_passes : goal.returns-then-not-table_passes
returns-then-not-table_passes c =
    routes_fail (rows_lent c.args.network.now.rows) _ (c.table_passes.ensures (λ (i : ℕ). i) (λ row node below answered. search rules))
    c.if-not-table_passes.true

pub returns-then-not-table_passes-2 : goal.returns-then-not-table_passes-2
returns-then-not-table_passes-2 c =
    let R = rows_lent c.args.network.now.rows in
    forwards_fail R _ (c.table_passes.ensures (λ (i : ℕ). i) (λ row node below answered. search rules)) c.if-not-table_passes.false
    (c.table_passes-2.ensures (head_of R.low R.high) (λ row node below answered. search rules)) c.if-not-table_passes-2.true

pub returns : goal.returns
returns c =
    let R = rows_lent c.args.network.now.rows in
    backwards_decide R _ (c.table_passes.ensures (λ (i : ℕ). i) (λ row node below answered. search rules)) c.if-not-table_passes.false
    (c.table_passes-2.ensures (head_of R.low R.high) (λ row node below answered. search rules)) c.if-not-table_passes-2.false
    (c.table_passes-3.ensures (tail_of R.low R.high) (λ row node below answered. search rules))
