use Rattle.std.proofs.Common.{◌≡◌, [], map, subst, sym, take}
use Rattle.std.specs.Prelude.{T}
use Rattle.df_column.specs.Blocks.{rows_of_blocks}
use Rattle.df_column.specs.Changes.{IsNext, apart}
use Rattle.df_column.specs.Tables.{entry_change}
use Rattle.df_column.specs.Tags.{tag_cmp}
use Rattle.df_column.proofs.ChangedParts.{apart_before, apart_nothing}
use Rattle.df_column.proofs.block_list.entries_of_leaves.Goals as goal

pub returns-in-Some-clause-apart : goal.returns-in-Some-clause-apart
returns-in-Some-clause-apart c =
    let rows = rows_of_blocks c.args.tail.now in
    apart_before c.in-Some.first rows c.args.entries.now c.entries_before.result c.entries_before.ensures.count (subst (IsNext rows) c.in-Some.is c.first_tag.ensures) c.requires

pub returns-in-None-clause-apart : goal.returns-in-None-clause-apart
returns-in-None-clause-apart c =
    let rows = rows_of_blocks c.args.tail.now in
    let none : rows ≡ [] = subst (IsNext rows) c.in-None.is c.first_tag.ensures in
    let changes = map entry_change (take c.entries_up_to.result c.args.entries.now) in
    subst (λ rs. T (apart tag_cmp changes rs)) (sym none) (apart_nothing changes)
