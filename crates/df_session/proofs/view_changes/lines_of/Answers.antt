use Rattle.df_session.proofs.PlaceFacts.{all-lines}
use Rattle.df_session.proofs.view_changes.lines_of.Goals as goal

pub returns : goal.returns
returns c =
    all-lines _ _ c.entries.result.now c.entries-2.result.now c.new-lines.result.items c.push_going.new.out.items c.push_coming.new.out.items
    c.new-lines.ensures.items c.entries.ensures.all c.entries-2.ensures.all c.in_ok-push_going.ensures c.in_ok-push_coming.ensures
