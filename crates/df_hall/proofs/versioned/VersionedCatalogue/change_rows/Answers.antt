use Rattle.std.proofs.Common.{Some, ap, subst, sym, ◌∙◌}
use Rattle.std.proofs.lemmas.Result.{on_ok_weaker}
use Rattle.df_state.specs.FrameChanges.{change_of}
use Rattle.df_state.specs.Pictures.{next_state}
use Rattle.df_catalogue.proofs.StagedFacts.{staged-frame, whole-desk}
use Rattle.df_versions.specs.Histories.{IsHistoryOver}
use Rattle.df_hall.proofs.Answered.{entered-ends, entered-over, reported-answers, staged-answers}
use Rattle.df_hall.proofs.LastChangeFacts.{entered-last, refused-last}
use Rattle.df_hall.proofs.Staged.{staged-follows}
use Rattle.df_hall.proofs.versioned.VersionedCatalogue.change_rows.Goals as goal

pub enter_rows-requires-clause-next : goal.enter_rows-requires-clause-next
enter_rows-requires-clause-next g c =
    let s = c.in-Ok.ensures.staged in
    staged-follows g.J.Naming.allows c.self.inside.publisher c.self.inside.catalogue c.stage_frame_change.new.self (change_of c.args.desk.now.frame c.args.change) c.requires.allowed c.self.invariant.0 s.sound s.accepted s.staged

pub enter_rows-requires-clause-frame : goal.enter_rows-requires-clause-frame
enter_rows-requires-clause-frame g c =
    staged-frame c.self.inside.catalogue c.stage_frame_change.new.self c.args.desk.now.frame c.args.change c.in-Ok.ensures.staged.staged

pub invariant_of-self : goal.invariant_of-self
invariant_of-self g c =
    let e = c.enter_rows.ensures in (
      entered-ends c.self.inside.publisher c.enter_rows.new.publisher c.self.inside.catalogue.state c.stage_frame_change.new.self.state c.enter_rows.new.catalogue.state (next_state c.stage_frame_change.new.self) c.enter_rows.result
          c.self.invariant.0 c.in-Ok.ensures.staged.state e.answer e.history e.committed e.same,
      entered-over g.J.Naming.schemas c.self.inside.publisher c.enter_rows.new.publisher (next_state c.stage_frame_change.new.self) c.enter_rows.result c.self.invariant.1 e.answer e.history,
      entered-last c.self.inside.publisher c.enter_rows.new.publisher c.self.inside.catalogue c.stage_frame_change.new.self c.enter_rows.new.catalogue (change_of c.args.desk.now.frame c.args.change) c.enter_rows.result
          c.self.invariant.0 c.self.invariant.2 c.in-Ok.ensures.staged.kept c.in-Ok.ensures.staged.state c.in-Ok.ensures.staged.staged e.answer e.history e.committed e.same e.kept e.same_kept,
    )

pub invariant_of-self-in-Err : goal.invariant_of-self-in-Err
invariant_of-self-in-Err g c =
    let s = c.in-Err.ensures.staged in
    (c.self.invariant.0 ∙ ap Some (sym s.state), c.self.invariant.1, refused-last c.self.inside.publisher c.self.inside.catalogue c.stage_frame_change.new.self s.kept s.state c.self.invariant.2)

pub returns-in-Ok-clause-answer : goal.returns-in-Ok-clause-answer
returns-in-Ok-clause-answer g c =
    let s = c.in-Ok.ensures.staged in
    staged-answers c.self.inside.publisher c.args.self.now c.self.inside.catalogue c.stage_frame_change.new.self (change_of c.args.desk.now.frame c.args.change) _ c.enter_rows.result c.self.view_is c.self.invariant.0 s.accepted s.staged c.in_ok-check_ready.ensures.ready c.enter_rows.ensures.answer

pub returns-in-Ok-clause-desk : goal.returns-in-Ok-clause-desk
returns-in-Ok-clause-desk g c =
    on_ok_weaker c.enter_rows.result
    (λ counted.
    (whole-desk {U = Unit {0}} _ tt c.self.inside.catalogue c.stage_frame_change.new.self c.args.desk.now.frame c.args.change c.args.desk.now c.enter_rows.new.desk c.in-Ok.ensures.staged counted).counted)
    c.enter_rows.ensures.desk

pub returns-in-Ok-clause-over : goal.returns-in-Ok-clause-over
returns-in-Ok-clause-over g c = subst (IsHistoryOver g.J.Naming.schemas) c.self.view_is c.self.invariant.1

pub returns-in-Err-clause-answer : goal.returns-in-Err-clause-answer
returns-in-Err-clause-answer g c =
    reported-answers c.self.inside.publisher c.args.self.now c.self.inside.catalogue.state (change_of c.args.desk.now.frame c.args.change) _ c.in-Err.fault c.report.result c.self.view_is c.self.invariant.0 c.in-Err.ensures.staged.refused c.in_ok-check_ready.ensures.ready c.report.ensures

pub returns-in-Err-clause-over : goal.returns-in-Err-clause-over
returns-in-Err-clause-over g c = subst (IsHistoryOver g.J.Naming.schemas) c.self.view_is c.self.invariant.1
