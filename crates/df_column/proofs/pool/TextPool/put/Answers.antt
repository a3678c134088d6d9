use Rattle.std.proofs.Common.{◌∙◌, sym, arith}
use Rattle.df_column.proofs.Pools.{found}
use Rattle.df_column.proofs.pool.TextPool.put.Goals as goal

pub overflow_cast-result : goal.overflow_cast-result
overflow_cast-result c =
    let there = found c.args.self.now c.args.text.now c.in-Some.place (sym c.find.ensures ∙ c.in-Some.is) in
    omega (arith, there.within, c.requires)
