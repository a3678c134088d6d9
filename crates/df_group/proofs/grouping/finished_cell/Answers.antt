use Rattle.std.proofs.Common.{◌∙◌, ◌-◌, ◌≡◌, ap, sym, pos, length, arith, of_z, to_z}
use Rattle.std.specs.Option.{option_copied}
use Rattle.std.specs.Prelude.{slice_get, unwrap_or}
use Rattle.std.specs.FinMap as finite
use Rattle.std.specs.Int.{w64}
use Rattle.std.proofs.lemmas.Int.{ints}
use Rattle.std.proofs.lemmas.Result.{IfOk-weaker}
use Rattle.df_value.specs.Schemas.{column_index}
use Rattle.df_value.specs.declared.cell.Cell.TheVariants as cell
use Rattle.df_ops.specs.Aggregates.{cells_of, count_of, mean_at, min_or_max_of, n_unique_of}
use Rattle.df_ops.specs.Tables.{aggregate_cell}
use Rattle.df_ops.specs.declared.min_max.MinMax.TheVariants as min_max
use Rattle.df_group.specs.Totals.{total_for}
use Rattle.df_group.proofs.DistinctValues.{few_distinct}
use Rattle.df_group.proofs.KnownExtremes.{greatest_before, least_before}
use Rattle.df_group.proofs.Members.{cells_length, values_length}
use Rattle.df_group.proofs.grouping.finished_cell.Goals as goal

pub returns-in-Len : goal.returns-in-Len
returns-in-Len c own known =
    let count = c.len.ensures.value ∙ sym (values_length c.args.members.now.rows) in
    let few = c.len.ensures.few in
    let number : to_z w64 c.len.result ≡ pos (length (finite.values c.args.members.now.rows)) = omega (arith, ints, count, few) in
    ap cell.Int number ∙ ap (aggregate_cell c.args.columns.now (finite.values c.args.members.now.rows)) (sym c.in-Len.is)

pub returns-in-Mean : goal.returns-in-Mean
returns-in-Mean c own known =
    let rows = finite.values c.args.members.now.rows in
    let columns = c.args.columns.now in
    let cells = cells_of (column_index c.in-Mean.field-0 columns) rows in
    let whole = own ∙ ap (λ a. total_for columns a rows) c.in-Mean.is in
    c.mean.ensures (count_of cells) (ap (λ t. t.sums.count) whole)
    ∙ ap (λ t. mean_at t.sums.sum (count_of cells)) whole
    ∙ ap (aggregate_cell columns rows) (sym c.in-Mean.is)

pub returns-in-Last : goal.returns-in-Last
returns-in-Last c =
    let rows = finite.values c.args.members.now.rows in
    let columns = c.args.columns.now in
    let index = column_index c.in-Last.name columns in
    let place : c.saturating_sub-last.result ≡ length (cells_of index rows) - 1 =
    c.saturating_sub-last.ensures ∙ ap (λ n. n - 1) (c.len-in-Last.ensures.value ∙ sym (cells_length index c.args.members.now.rows)) in
    IfOk-weaker c.member_cell-in-Last.result _ _
    (λ x e own known. e
    ∙ (λ i. unwrap_or (slice_get (cells_of (c.column_index-in-Last.ensures.value i) rows) (place i)) cell.Null)
    ∙ ap (aggregate_cell columns rows) (sym c.in-Last.is))
    c.member_cell-in-Last.ensures

pub returns-in-Min : goal.returns-in-Min
returns-in-Min c =
    let rows = finite.values c.args.members.now.rows in
    let columns = c.args.columns.now in
    IfOk-weaker c.extreme_cell.result _ _
    (λ x e own known. e (least_before columns c.in-Min.name c.column_index-index.result c.args.agg.now (option_copied c.args.known) c.args.entries.now rows c.in-Min.is c.column_index-index.ensures.value known)
    ∙ ap (λ index. min_or_max_of min_max.Min (cells_of index rows)) c.column_index-index.ensures.value
    ∙ ap (aggregate_cell columns rows) (sym c.in-Min.is))
    c.extreme_cell.ensures

pub returns-in-Max : goal.returns-in-Max
returns-in-Max c =
    let rows = finite.values c.args.members.now.rows in
    let columns = c.args.columns.now in
    IfOk-weaker c.extreme_cell-in-Max.result _ _
    (λ x e own known. e (greatest_before columns c.in-Max.name c.column_index-index-in-Max.result c.args.agg.now (option_copied c.args.known) c.args.entries.now rows c.in-Max.is c.column_index-index-in-Max.ensures.value known)
    ∙ ap (λ index. min_or_max_of min_max.Max (cells_of index rows)) c.column_index-index-in-Max.ensures.value
    ∙ ap (aggregate_cell columns rows) (sym c.in-Max.is))
    c.extreme_cell-in-Max.ensures

pub returns-in-NUnique : goal.returns-in-NUnique
returns-in-NUnique c own known =
    let rows = finite.values c.args.members.now.rows in
    let columns = c.args.columns.now in
    let index = column_index c.in-NUnique.field-0 columns in
    let size = c.len-in-NUnique.ensures.value ∙ sym (values_length c.args.members.now.rows) in
    let distinct = c.distinct_cells.ensures index rows size (own ∙ ap (λ a. total_for columns a rows) c.in-NUnique.is) in
    let few = few_distinct index rows in
    let room = c.len-in-NUnique.ensures.few in
    let number : to_z w64 (of_z w64 c.distinct_cells.result) ≡ pos (n_unique_of index rows) = omega (arith, ints, distinct, few, room, size) in
    ap cell.Int number ∙ ap (aggregate_cell columns rows) (sym c.in-NUnique.is)
