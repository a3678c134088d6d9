use Rattle.std.proofs.Common.{◌≡◌, ◌+◌, ◌-◌, ◌<◌, ◌∙◌, List, map, drop, length, ap, subst, sym, arith}
use Rattle.std.specs.Prelude.{Option}
use Rattle.std.specs.BTreeMap.{is_at}
use Rattle.std.specs.FinMap as finite
use Rattle.std.specs.Map.{lookup}
use Rattle.std.proofs.Math.ListN.{drop_of_length-le}
use Rattle.df_value.specs.declared.cell.Cell.{Cell}
use Rattle.df_column.specs.Tags.{tag_cmp}
use Rattle.df_frame.specs.FrameTables.{HasNewRows, at_tag, row_tag}
use Rattle.df_frame.proofs.DeltaFacts.{new-row-step}
use Rattle.df_frame.proofs.deltas.new_rows_of.Goals as goal

pub loop-i-init : goal.loop-i-init
loop-i-init g c =
    let items = c.args.items.now in record {
      rising = c.new-new_rows.ensures.ordered;
      at = λ q.
          ap (lookup (is_at (tag_cmp q))) c.new-new_rows.ensures.empty
          ∙ sym (ap (λ rest. finite.find {X = Option (List Cell)} tag_cmp q (map at_tag (map (λ item. (g.N.HasNumber.number_of item, g.N.NewRow.row_of item)) rest))) (drop_of_length-le items (omega arith)));
    }

pub loop-i-preserved : goal.loop-i-preserved
loop-i-preserved g c =
    let items = c.args.items.now in
    let next : (c.loop-i.i - 1) + 1 ≡ c.loop-i.i = omega arith in
    let within : c.loop-i.i - 1 < length items = omega arith in
    new-row-step (λ item. (g.N.HasNumber.number_of item, g.N.NewRow.row_of item)) items (c.loop-i.i - 1) c.index-items-i.result _ _ _ _ within c.index-items-i.is
    (c.row_tag.ensures ∙ ap row_tag c.number.ensures) c.in_ok-row.ensures c.in_ok-insert.ensures.updates c.in_ok-insert.ensures.ordered
    (subst (λ i. HasNewRows c.loop-i.new_rows (map (λ item. (g.N.HasNumber.number_of item, g.N.NewRow.row_of item)) (drop i items))) (sym next) c.loop-i.invariant)
