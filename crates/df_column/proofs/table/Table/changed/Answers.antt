use Rattle.std.proofs.Common.{◌∙◌, ap, sym, subst, map}
use Rattle.df_column.specs.Blocks.{AreOfDtypes}
use Rattle.df_column.specs.Tables.{after_entries, dtypes_of}
use Rattle.df_column.specs.Columns.{dtype_of_column}
use Rattle.df_column.proofs.TableLemmas.{new_rows, changed_sorted, changed_rows, same_table}
use Rattle.df_column.proofs.table.Table.changed.Goals as goal

pub edited_blocks-requires-clause-fits : goal.edited_blocks-requires-clause-fits
edited_blocks-requires-clause-fits c =
    rw (c.deref.ensures.value, c.in_ok-columns.ensures.types, c.schema.ensures.value) (new_rows c.args.self.now.schema c.args.entries.now c.requires.fits)

pub invariant_of-result : goal.invariant_of-result
invariant_of-result c =
    let rows = c.in_ok-blocks.ensures.rows in
    let types = ap (map dtype_of_column) c.deref.ensures.value ∙ c.in_ok-columns.ensures.types ∙ ap dtypes_of (c.schema.ensures.value ∙ sym c.in_ok-schema.ensures) in
    record {
      sorted = changed_sorted _ _ c.args.entries.now c.self.invariant.sorted rows;
      types = subst (λ ts. AreOfDtypes ts c.in_ok-blocks.blocks) types c.in_ok-blocks.ensures.types;
    }

pub returns : goal.returns
returns c =
    let rows = c.in_ok-blocks.ensures.rows in
    same_table _ (after_entries c.args.self.now c.args.entries.now)
    c.in_ok-schema.ensures
    (changed_rows c.args.self.now _ _ c.args.entries.now c.self.invariant.sorted (ap (λ t. t.rows) c.self.view_is) c.requires.rising rows)
