use Rattle.std.proofs.Common.{None, subst}
use Rattle.df_column.specs.Changes.{set_at}
use Rattle.df_join.specs.Sides.{LeadsOver}
use Rattle.df_join.proofs.Moves.{get_here}
use Rattle.df_join.proofs.Staging.{on_ok_then, set_twice}
use Rattle.df_join.proofs.join.LiveJoin.note_right_entry.Goals as goal

pub returns-in-Some-Some-clause-leads : goal.returns-in-Some-Some-clause-leads
returns-in-Some-Some-clause-leads c = on_ok_then c.note_in_place.result c.note_in_place.ensures.leads (λ leads. rw c.in-Some-Some.is-0 (rw c.in-Some-Some.is-1 leads))

pub returns-in_ok-note_right_option-in_default-clause-leads : goal.returns-in_ok-note_right_option-in_default-clause-leads
returns-in_ok-note_right_option-in_default-clause-leads c = on_ok_then c.note_right_option-in_default.result c.note_right_option-in_default.ensures.leads (λ new from l r is stood fits over.
    let e = c.args.entry.now in
    subst (LeadsOver c.args.self.now c.note_right_option-in_default.new.staged c.note_right_option-in_default.new.notes from l) (set_twice r e.tag None e.new)
    (new from l (set_at r e.tag None) is (get_here r e.tag None) fits (c.in_ok-note_right_option-in_default.ensures.leads from l r is stood tt over)))
