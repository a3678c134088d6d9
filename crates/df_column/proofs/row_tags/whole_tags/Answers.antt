use Rattle.df_column.specs.RowTags.{number_tag}
use Rattle.df_column.proofs.RowTagLemmas.{whole_made}
use Rattle.df_column.proofs.row_tags.whole_tags.Goals as goal

pub returns : goal.returns
returns c =
    whole_made number_tag c.args.low c.args.high c.args.numbers.now _ _ _ _ _ c.in_ok-out.ensures.items c.in_ok-push_number_tags.ensures c.in_ok-push_picked_tags.ensures c.in_ok-push_number_tags-2.ensures
