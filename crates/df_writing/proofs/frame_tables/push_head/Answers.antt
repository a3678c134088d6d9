use Rattle.df_writing.proofs.AppendFacts.{three-parts}
use Rattle.df_writing.proofs.frame_tables.push_head.Goals as goal

pub returns : goal.returns
returns c =
    three-parts _ _ _ _ _ _ _ c.in_ok-extend_from_slice.ensures.items c.in_ok-push_quoted.ensures c.in_ok-extend_from_slice-2.ensures.items
