use Rattle.std.proofs.Common.{rules, nat_le}
use Rattle.std.proofs.lemmas.Fn.{always_returns_same}
use Rattle.df_column.proofs.SpotLemmas.{end_count, ends_parted}
use Rattle.df_column.proofs.run.ends_up_to.Goals as goal

pub returns : goal.returns
returns c =
    let facts = c.partition_point.ensures in
    end_count c.args.ends.now c.args.at c.partition_point.result facts.bound
    (facts.partitioned (λ e. nat_le e c.args.at) (always_returns_same _ _ _ (λ a r g called. search rules)) (ends_parted c.args.ends.now c.args.at c.requires))
