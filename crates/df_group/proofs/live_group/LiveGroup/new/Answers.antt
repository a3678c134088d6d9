use Rattle.std.proofs.Common.{◌∙◌, ap, sym}
use Rattle.std.specs.FinMap as finite
use Rattle.df_ops.specs.NamedColumns.{column_indices}
use Rattle.df_group.proofs.GroupTags.{group_tags}
use Rattle.df_group.proofs.IndexMaps.{get_of_none}
use Rattle.df_group.proofs.ProjectedColumns.{output_kept}
use Rattle.df_group.proofs.KeyOrder.{group_table_rows}
use Rattle.df_group.proofs.Members.{no_group}
use Rattle.df_group.proofs.live_group.LiveGroup.new.Goals as goal

pub returns-clause-output : goal.returns-clause-output
returns-clause-output c t =
    output_kept c.args.schema.now c.args.aggregates.now c.in_ok-new.field-0 (column_indices c.args.schema.now c.args.keys.now)
    c.in_ok-new.ensures.schema c.in_ok-new.ensures.indices c.in_ok-new.ensures.keys c.in_ok-new.ensures.aggregates t

pub returns-clause-rows : goal.returns-clause-rows
returns-clause-rows c t = ap finite.values (returns-clause-output c t) ∙ group_table_rows c.args.schema.now c.args.keys.now c.args.aggregates.now t

pub returns-clause-over : goal.returns-clause-over
returns-clause-over c = record { at = λ k. get_of_none c.new-2.result k c.new-2.ensures.empty ∙ sym (no_group c.in_ok-new.field-0 k) }

pub returns-clause-tags : goal.returns-clause-tags
returns-clause-tags c t = group_tags c.in_ok-new.field-0 t
