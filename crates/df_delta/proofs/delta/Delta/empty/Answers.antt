use Rattle.std.proofs.Common.{ap, ◌∙◌, length, [], map}
use Rattle.std.specs.FinMap as finite
use Rattle.df_column.specs.Tables.{entry_change}
use Rattle.df_column.specs.Tags.{tag_cmp}
use Rattle.df_delta.proofs.delta.Delta.empty.Goals as goal

pub returns : goal.returns
returns c =
    finite.empty_of_len _ (finite.len-entries (finite.from_sorted {R = tag_cmp} (map entry_change c.new.result.items))
    ∙ ap length (ap (λ es. finite.entries (finite.from_sorted {R = tag_cmp} (map entry_change es))) c.new.ensures.items ∙ finite.entries-from_sorted tag_cmp [] tt))
