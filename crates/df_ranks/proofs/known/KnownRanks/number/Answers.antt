use Rattle.std.proofs.Common.{ap, sym, ◌∙◌}
use Rattle.std.specs.Option.{option_copied}
use Rattle.df_ranks.proofs.KnownNumbers.{known_found}
use Rattle.df_ranks.proofs.known.KnownRanks.number.Goals as goal

pub returns-in-Some-clause-number : goal.returns-in-Some-clause-number
returns-in-Some-clause-number c = known_found c.args.kind c.args.counts.now c.args.self.now c.args.value.now _ (sym c.get.ensures.value ∙ ap option_copied c.in-Some.is) c.requires
