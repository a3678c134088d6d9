use Rattle.df_page.proofs.cells.push_mean.Goals as goal

pub returns : goal.returns
returns c = rw (c.as_str.ensures.value, c.as_str-2.ensures.value, c.in_ok-fraction.ensures, c.in_ok-decimal.ensures) at c.push_tags.ensures
