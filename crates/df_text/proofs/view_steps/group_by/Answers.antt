use Rattle.std.proofs.Common.{rules}
use Rattle.df_text.proofs.view_steps.group_by.Goals as goal

pub returns-in_err-keys-2 : goal.returns-in_err-keys-2
returns-in_err-keys-2 c = rw (← c.item.ensures) (search rules)

pub returns-in_err-aggregates : goal.returns-in_err-aggregates
returns-in_err-aggregates c = rw (← c.item.ensures) (search rules)

pub returns : goal.returns
returns c = rw (← c.item.ensures) (search rules)
