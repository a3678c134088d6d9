use Rattle.std.proofs.Common.{◌∙◌, ap}
use Rattle.df_column.specs.Tables.{TableParts}
use Rattle.df_delta.proofs.Fitting.{changes_of, made_rows}
use Rattle.df_delta.proofs.delta.blocks_of.Goals as goal

pub returns : goal.returns
returns c =
    let made = c.in_ok-made in
    ap (λ (t : TableParts). t.rows) c.in_ok-new.ensures.ok
    ∙ made_rows c.in_ok-none.none made.made c.entries-2.result.now c.args.delta.now c.is_empty.result c.in_ok-none.ensures.rows
    (changes_of c.args.delta.now c.entries-2.result.now c.entries-2.ensures.all) made.ensures.changed made.ensures.unlike c.is_empty.ensures c.if-is_empty.false
