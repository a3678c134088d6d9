use Rattle.std.proofs.Common.{◌∙◌, sym}
use Rattle.std.specs.Prelude.{◌≢◌}
use Rattle.std.proofs.lemmas.Bool.{false≢true}
use Rattle.df_column.specs.Columns.{dtype_of_column}
use Rattle.df_column.proofs.UnlikeTypes.{unlike_are_null}
use Rattle.df_column.proofs.column.Column.has_cells_of.Goals as goal

pub returns-else-are_null : goal.returns-else-are_null
returns-else-are_null c =
    let a = c.args.self.now in
    let b = c.args.other.now in
    let unlike : dtype_of_column a ≢ dtype_of_column b = λ e. false≢true (sym c.if-same.false ∙ c.same.ensures.1 (c.dtype.ensures ∙ e ∙ sym c.dtype-2.ensures)) in (
      λ h. absurd (cc),
      λ all. absurd (false≢true (sym c.if-are_null.false ∙ c.are_null.ensures.1 (unlike_are_null a b unlike c.args.at c.args.from c.args.count c.requires.within all))),
    )
