use Rattle.std.proofs.Common.{ap}
use Rattle.df_group.specs.GroupIndex.{output_of}
use Rattle.df_group.proofs.live_group.LiveGroupLiveNode.commit.Goals as goal

pub returns-clause-operator : goal.returns-clause-operator
returns-clause-operator c t = ap (λ g. output_of g t) c.put.ensures.grouping
