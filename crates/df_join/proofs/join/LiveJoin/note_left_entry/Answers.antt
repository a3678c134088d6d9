use Rattle.std.proofs.Common.{None, subst}
use Rattle.df_column.specs.Changes.{set_at}
use Rattle.df_join.specs.RowNotes.{Leads, joined_by_key}
use Rattle.df_join.specs.Sides.{is_one}
use Rattle.df_join.proofs.LeftSide.{sides_after}
use Rattle.df_join.proofs.Moves.{get_here}
use Rattle.df_join.proofs.Staging.{on_ok_then, set_twice}
use Rattle.df_join.proofs.join.LiveJoin.note_left_entry.Goals as goal

pub returns-clause-leads : goal.returns-clause-leads
returns-clause-leads c = on_ok_then c.note_left_option-2.result c.note_left_option-2.ensures.leads (λ new from l r h is stood leads.
    let e = c.args.entry.now in
    let one = is_one c.args.self.now.left_scans in
    let rule = c.args.self.now.rule in
    subst (λ t. Leads c.note_left_option-2.new.notes from (joined_by_key one rule t r)) (set_twice l e.tag None e.new)
    (new from (set_at l e.tag None) r (sides_after one rule c.args.self.now.right c.args.staged.now l r e.tag None h is) is (get_here l e.tag None) (c.in_ok-note_left_option.ensures.leads from l r h is stood leads)))
