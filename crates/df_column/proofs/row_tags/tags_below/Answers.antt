use Rattle.std.proofs.Common.{rules}
use Rattle.std.proofs.lemmas.Fn.{always_returns_same}
use Rattle.std.specs.Ordering.{is_lt}
use Rattle.df_column.specs.Tags.{tag_cmp}
use Rattle.df_column.proofs.TagPlaces.{point_is_prefix, tags_parted}
use Rattle.df_column.proofs.row_tags.tags_below.Goals as goal

pub returns-clause-count : goal.returns-clause-count
returns-clause-count c =
    let facts = c.partition_point.ensures in
    point_is_prefix (λ t. is_lt (tag_cmp t c.args.tag)) c.args.tags.now c.partition_point.result facts.bound
    (facts.partitioned (λ t. is_lt (tag_cmp t c.args.tag)) (always_returns_same _ _ _ (λ a r g called. search rules)) (tags_parted c.args.tags.now c.args.tag c.requires))
