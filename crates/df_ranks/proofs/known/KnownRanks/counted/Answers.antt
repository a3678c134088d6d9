use Rattle.df_ranks.proofs.KnownNumbers.{known_more}
use Rattle.df_ranks.proofs.known.KnownRanks.counted.Goals as goal

pub returns-clause-known : goal.returns-clause-known
returns-clause-known c = known_more c.args.kind c.args.counts.now c.args.self.now _ c.args.value.now _ c.counted_below-number.ensures c.in_ok-keep.ensures c.requires
