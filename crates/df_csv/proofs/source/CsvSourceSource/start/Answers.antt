use Rattle.std.proofs.Common.{arith}
use Rattle.df_csv.proofs.PieceFacts.{count_of_source, starts_within}
use Rattle.df_csv.proofs.source.CsvSourceSource.start.Goals as goal

pub overflow_mul-result : goal.overflow_mul-result
overflow_mul-result c =
    let within = rw (count_of_source _ c.args.self.now c.self.view_is) at c.requires in
    omega (arith, starts_within c.args.n c.self.inside.size _ c.self.invariant.some within, c.self.invariant.sound.few)

pub overflow_cast-result : goal.overflow_cast-result
overflow_cast-result c =
    let within = rw (count_of_source _ c.args.self.now c.self.view_is) at c.requires in
    omega (arith, starts_within c.args.n c.self.inside.size _ c.self.invariant.some within, c.self.invariant.sound.few)
