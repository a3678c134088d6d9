use Rattle.df_join.specs.Sides.{is_one}
use Rattle.df_join.proofs.Noted.{noted_at, noted_nothing, replaced_more}
use Rattle.df_join.proofs.join.LiveJoin.note_replaced.Goals as goal

pub loop-left-init : goal.loop-left-init
loop-left-init c = noted_nothing c.args.notes.now

pub loop-left-preserved : goal.loop-left-preserved
loop-left-preserved c =
    replaced_more c.args.self.now.rule (is_one c.args.self.now.left_scans) c.args.tag c.args.old.now c.args.new.now c.args.matching.now c.loop-left.left-index c.left-item.result
    c.args.notes.now c.loop-left.notes c.note_both_pairs.new.notes c.loop-left-test.true c.left-item.is c.loop-left.invariant
    (noted_at c.pair_tag.result _ c.pair_tag.ensures c.in_ok-note_both_pairs.ensures)
