use Rattle.df_join.specs.Sides.{is_one}
use Rattle.df_join.proofs.Noted.{noted_at, noted_nothing, pairs_more}
use Rattle.df_join.proofs.join.LiveJoin.note_left.Goals as goal

pub loop-right-init : goal.loop-right-init
loop-right-init c = noted_nothing c.args.notes.now

pub loop-right-preserved : goal.loop-right-preserved
loop-right-preserved c =
    pairs_more c.args.self.now.rule (is_one c.args.self.now.left_scans) c.args.goes c.args.tag c.args.left.now c.args.matching.now c.loop-right.right-index c.right-item.result
    c.args.notes.now c.loop-right.notes c.note_pair.new.notes c.loop-right-test.true c.right-item.is c.loop-right.invariant
    (noted_at c.pair_tag.result _ c.pair_tag.ensures c.in_ok-note_pair.ensures)
