use Rattle.std.proofs.Common.{map}
use Rattle.df_value.specs.Names.{IsFirstDoubled}
use Rattle.df_value.proofs.DoubledNames.{is_distinct, none_copied, some_copied, is_first_doubled}
use Rattle.df_value.proofs.names.first_doubled_name.Goals as goal

pub returns-clause-distinct : goal.returns-clause-distinct
returns-clause-distinct g c none =
    is_distinct g.N.Named.name_of c.args.items.now (none_copied _ _ none c.first_standing_earlier.ensures)

pub returns-clause-first : goal.returns-clause-first
returns-clause-first g c =
    some_copied c.first_standing_earlier.result (λ name. IsFirstDoubled name (map g.N.Named.name_of c.args.items.now)) _
    c.first_standing_earlier.ensures (is_first_doubled g.N.Named.name_of c.args.items.now)
