use Rattle.std.proofs.Common.{◌∙◌, ap, arith, length}
use Rattle.std.proofs.lemmas.Result.{IfOk-weaker}
use Rattle.df_column.specs.Blocks.{rows_of_blocks}
use Rattle.df_column.proofs.SpliceLemmas.{joined_made}
use Rattle.df_column.proofs.run.Run.spliced.Goals as goal

pub joined-requires-clause-few : goal.joined-requires-clause-few
joined-requires-clause-few c =
    let n = ap (λ bs. length (rows_of_blocks bs)) c.in_ok-none.ensures in
    let z = ap (λ bs. length (rows_of_blocks bs)) c.new.ensures in
    omega (arith, n, z)

pub returns : goal.returns
returns c =
    IfOk-weaker c.joined-3.result _ _
    (λ made h. joined_made c.args.low c.args.high c.len-many.result c.len-2.result c.args.self.now c.args.other.now c.in_ok-none.none c.in_ok-front.front c.in_ok-both.both made
    (c.in_ok-none.ensures ∙ c.new.ensures) c.in_ok-front.ensures.blocks c.in_ok-both.ensures.blocks c.len-many.ensures.value h c.len-2.ensures.value)
    c.joined-3.ensures.blocks
