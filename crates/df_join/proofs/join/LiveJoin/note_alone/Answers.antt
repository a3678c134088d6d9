use Rattle.std.proofs.Common.{ap}
use Rattle.df_delta.specs.Notes.{moved}
use Rattle.df_join.specs.Sides.{is_one}
use Rattle.df_join.proofs.Noted.{noted_as, alone_stays}
use Rattle.df_join.proofs.Staging.{on_ok_then}
use Rattle.df_join.proofs.join.LiveJoin.note_alone.Goals as goal

pub returns : goal.returns
returns c = on_ok_then c.note.result c.note.ensures (λ made. alone_stays c.args.self.now.rule (is_one c.args.self.now.left_scans) c.args.notes.now c.note.new.self c.args.goes c.args.tag c.args.left.now c.args.stays c.if-not-stays.false
    (noted_as c.args.notes.now c.note.new.self c.pair_tag.result _ (moved c.args.goes c.in_ok-row.row) _ made c.pair_tag.ensures (ap (moved c.args.goes) c.in_ok-row.ensures)))
