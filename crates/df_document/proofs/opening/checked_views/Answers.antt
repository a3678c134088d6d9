use Rattle.df_document.proofs.opening.checked_views.Goals as goal

pub returns-clause-value : goal.returns-clause-value
returns-clause-value c =
    rw (c.as_slice-2.ensures, c.in_ok-schemas.ensures, c.as_slice.ensures, c.as_slice-3.ensures) at c.check_views.ensures.value
