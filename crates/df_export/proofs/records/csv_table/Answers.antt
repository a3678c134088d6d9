use Rattle.std.proofs.Common.{◌∙◌, ◌++◌, ap, flat_map}
use Rattle.std.proofs.lemmas.List.{take_all}
use Rattle.df_export.specs.CsvTables.{csv_line}
use Rattle.df_export.proofs.Lines.{table_whole}
use Rattle.df_export.proofs.ReadBack.{table_run}
use Rattle.df_export.proofs.Typed.{types_back}
use Rattle.df_export.proofs.records.csv_table.Goals as goal

pub returns-clause-value : goal.returns-clause-value
returns-clause-value c =
    let same = c.as_slice-columns.ensures ∙ c.columns.ensures.value in
    let all = take_all c.loop-row.row-index c.args.rows.now c.loop-row-test.false in
    rw same at (table_whole c.as_slice-columns.result.now c.args.rows.now _ _ c.loop-row.out.items c.new-out.ensures.items c.in_ok-push_header.ensures
    (c.loop-row.invariant ∙ ap (λ rows. c.push_header.new.out.items ++ flat_map csv_line rows) all))

pub returns-clause-reads : goal.returns-clause-reads
returns-clause-reads c = rw (returns-clause-value c) (table_run c.args.schema.now c.args.rows.now)

pub returns-clause-types : goal.returns-clause-types
returns-clause-types c = rw (returns-clause-reads c) (types_back c.args.schema.now c.args.rows.now)
