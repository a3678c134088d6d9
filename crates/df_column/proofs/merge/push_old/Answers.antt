use Rattle.std.proofs.Common.{refl, arith}
use Rattle.df_column.proofs.MergeLemmas.{old_rows_more, within_more, fits_more}
use Rattle.df_column.specs.declared.tag.Tag.{Tag}
use Rattle.df_column.proofs.merge.push_old.Goals as goal

abbrev none : Tag
none = record { first = 0; second = 0; third = 0 }

pub loop-at-preserved : goal.loop-at-preserved
loop-at-preserved c =
    rw c.in_ok-push.ensures.items (record {
      within = within_more _ c.loop-at.out.items c.loop-at.at _ refl (omega arith) c.loop-at.invariant.within;
      rows = λ columns. old_rows_more c.args.tags.now columns c.args.out.now.items c.loop-at.out.items c.args.from c.loop-at.at _ none (omega arith) (omega arith) (c.get.ensures none) refl (c.loop-at.invariant.rows columns);
      fits = λ dtypes h. fits_more dtypes c.loop-at.out.items c.loop-at.at _ refl (c.loop-at.invariant.fits dtypes h);
    })
