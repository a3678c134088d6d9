use Rattle.std.proofs.Common.{ap, refl}
use Rattle.df_delta.specs.Notes.{moved}
use Rattle.df_join.proofs.Noted.{noted_as}
use Rattle.df_join.proofs.Staging.{on_ok_then}
use Rattle.df_join.proofs.join.LiveJoin.note_pair.Goals as goal

pub returns : goal.returns
returns c = on_ok_then c.note.result c.note.ensures (λ made. noted_as c.args.notes.now c.note.new.self c.args.tag c.args.tag (moved c.args.goes c.in_ok-row.row) _ made refl (ap (moved c.args.goes) c.in_ok-row.ensures))
