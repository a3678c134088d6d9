use Rattle.std.proofs.Common.{◌∙◌, ◌++◌, ap, arith, drop, length, take}
use Rattle.std.proofs.lemmas.Result.{IfOk-weaker}
use Rattle.df_column.specs.Blocks.{rows_of_blocks}
use Rattle.df_column.proofs.run.Run.part.Goals as goal

pub joined-requires-clause-few : goal.joined-requires-clause-few
joined-requires-clause-few c = let z = ap (λ bs. length (rows_of_blocks bs)) c.new.ensures in omega (arith, z)

pub returns : goal.returns
returns c =
    IfOk-weaker c.joined.result _ _
    (λ part h. h ∙ ap (λ bs. bs ++ drop c.args.low (take c.args.high c.args.self.now)) c.new.ensures)
    c.joined.ensures.blocks
