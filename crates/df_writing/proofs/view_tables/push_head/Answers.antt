use Rattle.df_writing.proofs.AppendFacts.{five-parts}
use Rattle.df_writing.proofs.view_tables.push_head.Goals as goal

pub returns : goal.returns
returns c =
    five-parts _ _ _ _ _ _ _ _ _ _ _ c.in_ok-extend_from_slice.ensures.items c.in_ok-push_quoted.ensures c.in_ok-extend_from_slice-2.ensures.items c.in_ok-push_quoted-2.ensures
    c.in_ok-extend_from_slice-3.ensures.items
