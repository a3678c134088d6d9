use Rattle.df_document.proofs.next_view.plan_over.Goals as goal

pub returns : goal.returns
returns c = rw (c.as_slice-2.ensures, c.in_ok-schemas.ensures, c.as_slice.ensures) at c.check_view.ensures
