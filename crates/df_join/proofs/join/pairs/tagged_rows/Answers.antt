use Rattle.std.proofs.Common.{ap, ◌∙◌, sym}
use Rattle.std.specs.Option.{option_copied}
use Rattle.std.specs.FinMap as finite
use Rattle.df_join.specs.Keyed.{rows_or_empty}
use Rattle.df_join.proofs.Joined.{entries-empty}
use Rattle.df_join.proofs.join.pairs.tagged_rows.Goals as goal

pub returns-in-None : goal.returns-in-None
returns-in-None c = c.new.ensures.items ∙ sym (ap (λ t. finite.entries (rows_or_empty (option_copied t))) c.in-None.is ∙ entries-empty)
