use Rattle.std.proofs.Common.{◌∙◌, ◌++◌, ap, arith, length, map}
use Rattle.std.proofs.lemmas.List.{length-map}
use Rattle.df_column.specs.Picks.{picked_cells}
use Rattle.df_column.specs.Texts.{pool_text}
use Rattle.df_column.specs.ValueCells.{text_cell}
use Rattle.df_column.proofs.texts.Texts.with_picked.Goals as goal

pub push_rows-requires-clause-few : goal.push_rows-requires-clause-few
push_rows-requires-clause-few c =
    let l = length-map c.self.inside.places (pool_text c.self.inside.pool) in
    let v = ap length c.self.view_is in
    omega (arith, l, v, c.requires.few)

pub returns : goal.returns
returns c =
    c.in_ok-push_rows.ensures.texts
    ∙ ap (λ ts. map text_cell ts ++ picked_cells (map text_cell c.args.old.now) c.args.column c.args.picks.now) c.self.view_is
