use Rattle.std.proofs.Common.{rules}
use Rattle.df_text.proofs.view_steps.kind_and_keys.Goals as goal

pub returns-in_err-keys : goal.returns-in_err-keys
returns-in_err-keys c = rw (← c.item.ensures, ← c.item-2.ensures) (search rules)

pub returns : goal.returns
returns c = rw (← c.item.ensures, ← c.item-2.ensures) (search rules)
