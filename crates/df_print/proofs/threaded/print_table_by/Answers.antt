use Rattle.std.proofs.Common.{ℕ, ◌∙◌, List, subst}
use Rattle.df_value.specs.declared.cell.CellType.{CellType}
use Rattle.df_print.specs.Printed.{AreUtf8}
use Rattle.df_print.proofs.TableFacts.{table_end}
use Rattle.df_print.proofs.TableLines.{table_is}
use Rattle.df_print.proofs.threaded.print_table_by.Goals as goal

pub returns-clause-value : goal.returns-clause-value
returns-clause-value g c =
    let same = c.as_slice-columns.ensures ∙ c.columns.ensures.value in
    let head = rw c.as_slice.ensures.value at c.in_ok-out.ensures in
    let lines = rw c.as_slice-2.ensures.value at c.in_ok-push_rows_by.ensures in
    table_end c.args.name.now c.args.schema.now c.as_slice-columns.result.now c.args.rows.now c.in_ok-widths.widths.items c.in_ok-out.out.items _ same c.in_ok-widths.ensures.widths head lines

pub returns-clause-lines : goal.returns-clause-lines
returns-clause-lines g c =
    let same = c.as_slice-columns.ensures ∙ c.columns.ensures.value in
    let utf8 = subst (λ (cs : List (List ℕ × CellType)). AreUtf8 cs c.args.rows.now) same c.in_ok-widths.ensures.utf8 in
    rw (returns-clause-value g c) (table_is c.args.name.now c.args.schema.now c.args.rows.now utf8)
