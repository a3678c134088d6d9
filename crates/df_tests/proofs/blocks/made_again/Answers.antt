use Rattle.std.proofs.Common.{T, subst, sym, ◌∙◌}
use Rattle.std.specs.FinMap as finite
use Rattle.df_column.specs.Tags.{tag_cmp}
use Rattle.df_tests.proofs.blocks.made_again.Goals as goal

-- the rows of a table stand by rising tags
pub table_of-requires : goal.table_of-requires
table_of-requires c =
    subst (λ rows. T (finite.is_sorted tag_cmp rows)) (sym (c.as_slice.ensures.value ∙ c.in_ok-rows.ensures)) (finite.entries_sorted _)
