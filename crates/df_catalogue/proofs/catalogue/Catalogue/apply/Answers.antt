use Rattle.df_state.proofs.TransitionFacts.{in-order-after}
use Rattle.df_catalogue.proofs.catalogue.Catalogue.apply.Goals as goal

pub returns-in-Append-clause-state : goal.returns-in-Append-clause-state
returns-in-Append-clause-state g c = rw c.in-Append.is c.change_frame_at.ensures.state

pub returns-in-Append-clause-changes : goal.returns-in-Append-clause-changes
returns-in-Append-clause-changes g c = rw c.in-Append.is c.change_frame_at.ensures.changes

pub returns-in-Append-clause-desks : goal.returns-in-Append-clause-desks
returns-in-Append-clause-desks g c = rw c.in-Append.is c.change_frame_at.ensures.desks

pub returns-in-Append-clause-in_order : goal.returns-in-Append-clause-in_order
returns-in-Append-clause-in_order g c =
    in-order-after c.args.self.now.state c.change_frame_at.new.self.state c.args.desks.now c.change_frame_at.new.desks _ c.change_frame_at.result
    c.change_frame_at.ensures.state c.change_frame_at.ensures.desks c.requires

pub returns-in-Delete-clause-in_order : goal.returns-in-Delete-clause-in_order
returns-in-Delete-clause-in_order g c =
    in-order-after c.args.self.now.state c.change_frame_at-in-Delete.new.self.state c.args.desks.now c.change_frame_at-in-Delete.new.desks _ c.change_frame_at-in-Delete.result
    c.change_frame_at-in-Delete.ensures.state c.change_frame_at-in-Delete.ensures.desks c.requires
