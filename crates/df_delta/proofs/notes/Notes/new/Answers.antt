use Rattle.std.proofs.Common.{ap, ◌∙◌, length, [], map}
use Rattle.std.specs.FinMap as finite
use Rattle.df_column.specs.Tags.{tag_cmp}
use Rattle.df_delta.specs.NotedRows.{noted_change}
use Rattle.df_delta.proofs.notes.Notes.new.Goals as goal

pub returns : goal.returns
returns c =
    finite.empty_of_len _ (finite.len-entries (finite.from_sorted {R = tag_cmp} (map noted_change c.new.result.entries))
    ∙ ap length (ap (λ es. finite.entries (finite.from_sorted {R = tag_cmp} (map noted_change es))) c.new.ensures.empty ∙ finite.entries-from_sorted tag_cmp [] tt))
