use Rattle.std.proofs.Common.{rules}
use Rattle.std.proofs.lemmas.Fn.{always_returns_same}
use Rattle.std.specs.Ordering.{is_lt}
use Rattle.df_column.specs.RowTags.{number_tag}
use Rattle.df_column.specs.Tags.{tag_cmp}
use Rattle.df_column.proofs.RowTagLemmas.{numbers_parted, numbers_point}
use Rattle.df_column.proofs.row_tags.numbers_below.Goals as goal

pub returns-clause-count : goal.returns-clause-count
returns-clause-count c =
    let facts = c.partition_point.ensures in
    numbers_point c.args.numbers.now c.args.tag c.partition_point.result facts.bound
    (facts.partitioned (λ n. is_lt (tag_cmp (number_tag n) c.args.tag)) (always_returns_same _ _ _ (λ a r g called. search rules)) (numbers_parted c.args.numbers.now c.args.tag c.requires))
