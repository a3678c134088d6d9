use Rattle.std.proofs.Common.{◌≡◌, ◌∙◌, ap, map, subst, sym}
use Rattle.std.specs.Arc.{arc_value}
use Rattle.std.specs.Option.{IfSome}
use Rattle.df_column.specs.Blocks.{AreOfDtypes, rows_of_blocks}
use Rattle.df_column.specs.Changes.{after_changes}
use Rattle.df_column.specs.Tables.{after_entries, dtypes_of, entry_change}
use Rattle.df_column.specs.Tags.{tag_cmp}
use Rattle.df_column.proofs.TableLemmas.{changed_rows, changed_sorted, made_rows, same_table}
use Rattle.df_column.proofs.table.Table.joined.Goals as goal

pub joined_blocks-requires-clause-made : goal.joined_blocks-requires-clause-made
joined_blocks-requires-clause-made c =
    made_rows (rows_of_blocks c.made.inside.blocks) c.args.made.now.rows c.args.entries.now c.made.invariant.sorted (ap (λ t. t.rows) c.made.view_is) c.requires.rising c.requires.made

-- the rows of the blocks that are given
rows : (c : goal.In_ok-schema) → rows_of_blocks c.in-Some.blocks ≡ after_changes tag_cmp (rows_of_blocks c.self.inside.blocks) (map entry_change c.args.entries.now)
rows c = subst (λ o. IfSome o (λ l. rows_of_blocks l ≡ after_changes tag_cmp (rows_of_blocks c.self.inside.blocks) (map entry_change c.args.entries.now))) c.in-Some.is c.in_ok-blocks.ensures.rows

pub invariant_of-result : goal.invariant_of-result
invariant_of-result c =
    let schema = arc_value c.self.inside.schema in
    let same = ap (λ t. t.schema) c.made.view_is ∙ c.requires.schema ∙ sym (ap (λ t. t.schema) c.self.view_is) in
    let types = c.in_ok-blocks.ensures.types (dtypes_of schema) c.self.invariant.types (subst (λ s. AreOfDtypes (dtypes_of s) c.made.inside.blocks) same c.made.invariant.types) in
    record {
      sorted = changed_sorted _ _ c.args.entries.now c.self.invariant.sorted (rows c);
      types =
          subst (λ s. AreOfDtypes (dtypes_of s) c.in-Some.blocks) (ap (λ t. t.schema) c.self.view_is ∙ sym c.in_ok-schema.ensures)
          (subst (λ o. IfSome o (AreOfDtypes (dtypes_of schema))) c.in-Some.is types);
    }

pub returns : goal.returns
returns c =
    same_table _ (after_entries c.args.self.now c.args.entries.now)
    c.in_ok-schema.ensures
    (changed_rows c.args.self.now _ _ c.args.entries.now c.self.invariant.sorted (ap (λ t. t.rows) c.self.view_is) c.requires.rising (rows c))
