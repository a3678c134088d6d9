use Rattle.std.proofs.Common.{◌∙◌, ◌++◌, ◌-◌, ap, sym, arith, append_assoc, length, map, take, drop}
use Rattle.std.proofs.lemmas.List.{length-drop, map-append, take_all}
use Rattle.df_column.specs.Picks.{is_fit, is_within, origin_cell, picked_cells}
use Rattle.df_column.proofs.PartLemmas.{all_part, take_parts}
use Rattle.df_column.proofs.masked.Masked.push_picked.Goals as goal

pub push_first-requires-clause-within : goal.push_first-requires-clause-within
push_first-requires-clause-within g c = all_part (λ p. is_within _ p.origin) _ c.loop-from.from c.args.picks.now c.requires.within

pub push_first-requires-clause-fits : goal.push_first-requires-clause-fits
push_first-requires-clause-fits g c = all_part (λ p. is_fit _ _ p.origin) _ c.loop-from.from c.args.picks.now c.requires.fits

pub loop-from-preserved : goal.loop-from-preserved
loop-from-preserved g c =
    let picks = c.args.picks.now in
    let cells = map g.T.CellValue.cell_of c.args.old.now in
    let from = c.loop-from.from in
    let n = c.in_ok-from.field-0 in
    let made = c.in_ok-from.ensures in
    let d = length-drop from picks in
    let rest = take_all (length picks - from) (drop from picks) (omega (arith, d)) in
    let l = ap length rest in
    record {
      within = omega (arith, d, l, made.most, c.loop-from.invariant.within);
      cells = made.cells
          ∙ ap (λ ps. map g.T.CellValue.cell_of c.loop-from.self ++ picked_cells cells c.args.column (take n ps)) rest
          ∙ ap (λ r. r ++ picked_cells cells c.args.column (take n (drop from picks))) c.loop-from.invariant.cells
          ∙ append_assoc (map g.T.CellValue.cell_of c.args.self.now) (picked_cells cells c.args.column (take from picks)) (picked_cells cells c.args.column (take n (drop from picks)))
          ∙ ap (λ r. map g.T.CellValue.cell_of c.args.self.now ++ r) (sym (map-append (λ p. origin_cell cells c.args.column p.origin) (take from picks) (take n (drop from picks))) ∙ ap (picked_cells cells c.args.column) (sym (take_parts from n picks)));
    }
