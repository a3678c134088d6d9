use Rattle.std.proofs.Common.{Some, refl}
use Rattle.df_join.proofs.Noted.{noted_as}
use Rattle.df_join.proofs.Staging.{on_ok_then}
use Rattle.df_join.proofs.join.LiveJoin.note_both_pairs.Goals as goal

pub returns : goal.returns
returns c = on_ok_then c.note_both.result c.note_both.ensures (λ made.
    noted_as c.args.notes.now c.note_both.new.self c.args.tag c.args.tag (record { old = Some c.in_ok-before.before; new = Some c.in_ok-after.after }) _ made refl
    (λ i. record { old = Some (c.in_ok-before.ensures i); new = Some (c.in_ok-after.ensures i) }))
