use Rattle.df_counts.proofs.PlaceLemmas.{partitioned}
use Rattle.df_counts.proofs.entries.place_of.Goals as goal

pub partition_point-requires : goal.partition_point-requires
partition_point-requires c = partitioned c.args.value.now _ c.requires
