use Rattle.std.proofs.Common.{append_assoc, drop, map, take}
use Rattle.std.specs.Arc.{arc_value}
use Rattle.df_column.specs.Blocks.{block_rows, rows_of_blocks}
use Rattle.df_column.specs.Columns.{dtype_of_column}
use Rattle.df_column.specs.Rows.{is_row_if_any}
use Rattle.df_column.proofs.PartLemmas.{all_drop}
use Rattle.df_column.proofs.ChangeRuns.{sorted_first}
use Rattle.df_column.proofs.TableChanges.{sorted_taken, sorted_dropped, first_run}
use Rattle.df_column.specs.TagOrder.{tag_total}
use Rattle.df_column.proofs.blocks.with_first.Goals as goal

pub with_changed-requires-clause-rows : goal.with_changed-requires-clause-rows
with_changed-requires-clause-rows c = sorted_first tag_total (block_rows (arc_value c.args.block.now)) (rows_of_blocks (drop c.args.later.start (take c.args.later.end c.args.blocks.now))) c.requires.rows

pub with_changed-requires-clause-entries : goal.with_changed-requires-clause-entries
with_changed-requires-clause-entries c = rw c.split_at.ensures.front (sorted_taken c.count_before.result c.args.entries.now c.requires.entries)

pub returns-clause-rising : goal.returns-clause-rising
returns-clause-rising c = rw c.split_at.ensures.back (sorted_dropped c.count_before.result c.args.entries.now c.requires.entries)

pub returns-clause-fits : goal.returns-clause-fits
returns-clause-fits c =
    rw c.split_at.ensures.back
    (all_drop (λ e. is_row_if_any (map dtype_of_column (arc_value c.args.block.now).columns) e.new) c.count_before.result c.args.entries.now c.requires.fits)

pub returns-clause-adds : goal.returns-clause-adds
returns-clause-adds c =
    let run = first_run (block_rows (arc_value c.args.block.now)) (rows_of_blocks (drop c.args.later.start (take c.args.later.end c.args.blocks.now))) c.first_tag.result c.args.entries.now c.first_tag.ensures c.requires.rows c.requires.entries in
    let made = c.in_ok-made.ensures in
    record {
      rows = rw (made.rows, c.split_at.ensures.back, c.split_at.ensures.front, c.count_before.ensures.count, run) (append_assoc (rows_of_blocks c.args.out) _ _);
      types = made.types;
    }
