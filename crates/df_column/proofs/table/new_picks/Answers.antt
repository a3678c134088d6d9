use Rattle.std.proofs.Common.{refl, arith}
use Rattle.df_column.proofs.ReadLemmas.{new_row_step, new_within, new_fit}
use Rattle.df_column.proofs.table.new_picks.Goals as goal

pub loop-row-preserved : goal.loop-row-preserved
loop-row-preserved c =
    let i = c.loop-row.row-index in
    let item = c.row-item in
    record {
      within = new_within c.loop-row.picks.items _ _ _ c.in_ok-push.ensures.items refl c.loop-row.invariant.within;
      rows = λ columns. rw c.in_ok-push.ensures.items (new_row_step columns c.args.rows.now c.loop-row.picks.items i _ item.result _ (omega arith) item.is refl refl refl (c.loop-row.invariant.rows columns));
      fits = λ schema h. (new_fit schema c.args.rows.now c.loop-row.picks.items _ i _ item.result _ c.in_ok-push.ensures.items (omega arith) item.is refl refl (c.loop-row.invariant.left schema h) (c.loop-row.invariant.fits schema h)).fits;
      left = λ schema h. (new_fit schema c.args.rows.now c.loop-row.picks.items _ i _ item.result _ c.in_ok-push.ensures.items (omega arith) item.is refl refl (c.loop-row.invariant.left schema h) (c.loop-row.invariant.fits schema h)).left;
    }
