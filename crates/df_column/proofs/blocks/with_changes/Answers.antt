use Rattle.std.proofs.Common.{◌≡◌, ◌∙◌, ◌++◌, ◌+◌, [], ap, arith, drop, map, refl, subst, sym, take}
use Rattle.std.specs.Prelude.{T}
use Rattle.std.specs.Arc.{arc_value}
use Rattle.std.specs.FinMap.{is_sorted}
use Rattle.std.proofs.lemmas.Result.{IfOk-weaker}
use Rattle.df_column.specs.BlockRows.{AddsRows}
use Rattle.df_column.specs.Blocks.{AreOfDtypes, block_rows, rows_of_blocks}
use Rattle.df_column.specs.Changes.{after_changes}
use Rattle.df_column.specs.Columns.{column_cells, dtype_of_column}
use Rattle.df_column.specs.Rows.{AreNewRows, AreRows, picked_rows}
use Rattle.df_column.specs.Tables.{entry_change}
use Rattle.df_column.specs.Tags.{tag_cmp}
use Rattle.df_column.specs.TagOrder.{tag_total}
use Rattle.df_column.proofs.BlockMinMax.{no_known}
use Rattle.df_column.proofs.ListParts.{none_between}
use Rattle.df_column.proofs.ChangeRuns.{sorted_second}
use Rattle.df_column.proofs.TableLemmas.{cut_between, types_at}
use Rattle.df_column.proofs.blocks.with_changes.Goals as goal

pub loop-at-init : goal.loop-at-init
loop-at-init c = record {
  within = c.requires.ordered;
  sorted = c.requires.rows;
  rising = c.requires.entries;
  fits = c.requires.fits;
  rows = refl;
  types = λ h. h;
}

pub with_first-requires-clause-rows : goal.with_first-requires-clause-rows
with_first-requires-clause-rows c =
    let b = arc_value c.get.result.now in
    let cut = cut_between c.args.blocks.now c.loop-at.at c.args.range.end b c.loop-at-test.true c.requires.in_range (c.get.ensures b) in
    subst (λ bs. T (is_sorted tag_cmp (rows_of_blocks bs))) cut c.loop-at.invariant.sorted

pub with_first-requires-clause-entries : goal.with_first-requires-clause-entries
with_first-requires-clause-entries c = c.loop-at.invariant.rising

pub with_first-requires-clause-fits : goal.with_first-requires-clause-fits
with_first-requires-clause-fits c =
    let b = arc_value c.get.result.now in
    let types = types_at (map dtype_of_column c.args.columns.now) c.args.blocks.now c.loop-at.at b (omega (arith, c.loop-at-test.true, c.requires.in_range)) (c.get.ensures b) c.requires.types in
    subst (λ t. AreNewRows t c.loop-at.rest.now) (sym types) c.loop-at.invariant.fits

pub loop-at-smaller : goal.loop-at-smaller
loop-at-smaller c = omega (arith, c.loop-at-test.true)

pub loop-at-preserved : goal.loop-at-preserved
loop-at-preserved c =
    let b = arc_value c.get.result.now in
    let later = drop (c.loop-at.at + 1) (take c.args.range.end c.args.blocks.now) in
    let cut = cut_between c.args.blocks.now c.loop-at.at c.args.range.end b c.loop-at-test.true c.requires.in_range (c.get.ensures b) in
    let types = types_at (map dtype_of_column c.args.columns.now) c.args.blocks.now c.loop-at.at b (omega (arith, c.loop-at-test.true, c.requires.in_range)) (c.get.ensures b) c.requires.types in
    let made = c.in_ok-list.ensures in
    let changes = map entry_change c.loop-at.rest.now in
    record {
      within = omega (arith, c.loop-at-test.true);
      sorted = sorted_second tag_total (block_rows b) (rows_of_blocks later) (subst (λ bs. T (is_sorted tag_cmp (rows_of_blocks bs))) cut c.loop-at.invariant.sorted);
      rising = made.rising;
      fits = subst (λ t. AreNewRows t c.in_ok-list.others.now) types made.fits;
      rows = made.adds.rows ∙ ap (λ bs. rows_of_blocks c.loop-at.made ++ after_changes tag_cmp (rows_of_blocks bs) changes) (sym cut) ∙ c.loop-at.invariant.rows;
      types = λ h. subst (λ t. AreOfDtypes t c.loop-at.made → AreOfDtypes t c.in_ok-list.list) types made.adds.types (c.loop-at.invariant.types h);
    }

pub merge-requires-clause-entries : goal.merge-requires-clause-entries
merge-requires-clause-entries c = c.loop-at.invariant.rising

pub with_parts-requires-clause-known : goal.with_parts-requires-clause-known
with_parts-requires-clause-known c = no_known (map column_cells c.args.columns.now) c.requires.empty

pub with_parts-requires-clause-rows : goal.with_parts-requires-clause-rows
with_parts-requires-clause-rows c =
    let dtypes = map dtype_of_column c.args.columns.now in
    subst (AreRows dtypes) (sym c.deref.ensures.value) (c.in_ok-picks.ensures.fits dtypes c.loop-at.invariant.fits)

pub returns : goal.returns
returns c =
    let columns = map column_cells c.args.columns.now in
    let changes = map entry_change c.loop-at.rest.now in
    let e : c.loop-at.at ≡ c.args.range.end = omega (arith, c.loop-at.invariant.within, c.loop-at-test.false) in
    let gone : drop c.loop-at.at (take c.args.range.end c.args.blocks.now) ≡ [] = ap (λ n. drop n (take c.args.range.end c.args.blocks.now)) e ∙ none_between c.args.blocks.now c.args.range.end in
    let picked = ap (picked_rows columns) c.deref.ensures.value ∙ rw c.new-tags.ensures at (c.in_ok-picks.ensures.rows columns) in
    IfOk-weaker c.with_parts.result _ _
    (λ list (made : AddsRows (map dtype_of_column c.args.columns.now) (picked_rows columns c.deref.result.now) c.loop-at.made list). record {
      rows = made.rows ∙ ap (λ rs. rows_of_blocks c.loop-at.made ++ rs) picked
          ∙ ap (λ bs. rows_of_blocks c.loop-at.made ++ after_changes tag_cmp (rows_of_blocks bs) changes) (sym gone) ∙ c.loop-at.invariant.rows;
      types = λ h. made.types (c.loop-at.invariant.types h);
    })
    c.with_parts.ensures
