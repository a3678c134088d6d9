use Rattle.std.proofs.Common.{◌≡◌, ◌++◌, map, take}
use Rattle.df_column.specs.RowTags.{number_tag}
use Rattle.df_column.proofs.row_tags.push_number_tags.Given as goal

abbrev pub invariant-loop-number : goal.invariant-loop-number
invariant-loop-number l = l.out.items ≡ l.initial.out.items ++ map number_tag (take l.number-index l.numbers)
