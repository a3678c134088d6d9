use Rattle.std.proofs.Common.{◌∙◌, ap, ◌+◌, ◌++◌}
use Rattle.df_column.specs.Changes.{one_at}
use Rattle.df_column.specs.Tables.{entry_change}
use Rattle.df_column.proofs.MergeLemmas.{merge_step}
use Rattle.df_column.proofs.merge.merge_entry.Goals as goal

pub returns-clause-rows : goal.returns-clause-rows
returns-clause-rows c = λ columns later below.
    merge_step columns c.args.tags.now c.args.out.now.items _ c.args.at _ c.index_after.result (entry_change c.args.entry.now) later c.requires.rising
    (ap (λ n. c.args.at + n) c.count_below.ensures.count)
    (c.index_after.ensures.rest columns) below
    (c.in_ok-push_new.ensures.rows columns ∙ ap (λ r. r ++ one_at c.args.entry.now.tag c.args.entry.now.new) (c.in_ok-push_old.ensures.rows columns))
