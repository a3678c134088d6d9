use Rattle.std.proofs.Common.{ap, sym, ◌∙◌, [], arith, Some}
use Rattle.std.specs.FinMap as finite
use Rattle.df_value.specs.declared.cell.Cell.{Cell}
use Rattle.std.specs.Prelude.{List}
use Rattle.df_column.specs.declared.tag.Tag.{Tag}
use Rattle.df_column.proofs.table.Table.get.Goals as goal

pub row-requires : goal.row-requires
row-requires c = let long = finite.len-entries c.args.self.now.rows in omega (arith, c.in-Some.ensures.found.in_range)

pub returns-in_ok-row-in-Some : goal.returns-in_ok-row-in-Some
returns-in_ok-row-in-Some c =
    let d : Tag × List Cell = (record { first = 0; second = 0; third = 0 }, []) in
    ap Some (c.in_ok-row-in-Some.ensures d) ∙ sym (c.in-Some.ensures.row d)
