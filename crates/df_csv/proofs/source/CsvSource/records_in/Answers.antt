use Rattle.std.proofs.Common.{◌∙◌, ap, arith, sym}
use Rattle.df_csv.specs.PieceStarts.{rows_counted}
use Rattle.df_csv.specs.Sources.{CsvParts, records_in_piece}
use Rattle.df_csv.proofs.PieceFacts.{count_of_source, starts_within}
use Rattle.df_csv.proofs.source.CsvSource.records_in.Goals as goal

pub overflow_mul-first : goal.overflow_mul-first
overflow_mul-first c =
    let within = rw (count_of_source _ c.args.self.now c.self.view_is) at c.requires in
    omega (arith, starts_within c.args.n c.self.inside.size _ c.self.invariant.some within, c.self.invariant.sound.few)

pub overflow_sub-len : goal.overflow_sub-len
overflow_sub-len c =
    let within = rw (count_of_source _ c.args.self.now c.self.view_is) at c.requires in
    omega (arith, starts_within c.args.n c.self.inside.size _ c.self.invariant.some within, c.len.ensures)

pub returns-clause-rows : goal.returns-clause-rows
returns-clause-rows c =
    λ chunk e.
    rows_counted c.args.self.now c.args.n chunk e
    ∙ (sym (ap (λ (s : CsvParts). records_in_piece s c.args.n) c.self.view_is) ∙ sym (rw c.len.ensures at c.min.ensures))
