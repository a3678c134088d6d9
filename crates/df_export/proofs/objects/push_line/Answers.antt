use Rattle.std.proofs.Common.{◌≤◌, List, [], ◌∷◌, arith}
use Rattle.std.proofs.lemmas.Result.{IfOk-weaker}
use Rattle.json.proofs.Printed.Trees.{document-print}
use Rattle.json.specs.Json.{object}
use Rattle.json.specs.Tree.{depth, members_depth}
use Rattle.df_value.specs.declared.cell.Cell.{Cell}
use Rattle.df_value.specs.declared.cell.Cell.TheVariants as cell
use Rattle.df_value.specs.Schemas.{Columns}
use Rattle.df_export.specs.JsonLines.{members_of, value_of}
use Rattle.df_export.proofs.objects.push_line.Goals as goal

shallow : (v : Cell) → depth (value_of v) ≤ 1
shallow cell.Null = omega arith
shallow (cell.Int n) = omega arith
shallow (cell.Wide n) = omega arith
shallow (cell.Text t) = omega arith
shallow (cell.Bool b) = omega arith
shallow (cell.Frac f) = omega arith

members_shallow : (columns : Columns) (row : List Cell) → members_depth (members_of columns row) ≤ 1
members_shallow [] row = omega arith
members_shallow (c ∷ columns) [] = omega arith
members_shallow (c ∷ columns) (v ∷ row) = omega (arith, shallow v, members_shallow columns row)

pub returns-clause-reads : goal.returns-clause-reads
returns-clause-reads c =
    let columns = c.args.columns.now in
    let row = c.args.row.now in
    let ms = members_of columns row in
    IfOk-weaker c.end_line.result _ _
    (λ _ _. document-print (object ms) c.in_ok-push_members.ensures.numbers (omega (arith, members_shallow columns row))) c.end_line.ensures
