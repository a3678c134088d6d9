use Rattle.std.proofs.Common.{◌∙◌, ap, map, sym}
use Rattle.df_column.specs.Picks.{spliced}
use Rattle.df_column.specs.RowTags.{number_tag}
use Rattle.df_column.proofs.RowTagLemmas.{map_spliced, number_picks}
use Rattle.df_column.proofs.row_tags.numbers_with.Goals as goal

pub returns-then-are_numbers : goal.returns-then-are_numbers
returns-then-are_numbers c =
    ap (map number_tag) c.in_ok-numbers.ensures
    ∙ map_spliced number_tag c.args.low c.args.high _ c.args.numbers.now
    ∙ ap (λ more. spliced c.args.low c.args.high more (map number_tag c.args.numbers.now)) (number_picks c.args.picks.now (sym c.are_numbers.ensures ∙ c.if-are_numbers.true))
