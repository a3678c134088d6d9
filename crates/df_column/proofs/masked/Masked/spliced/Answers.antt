use Rattle.std.proofs.Common.{◌-◌, arith, map, subst}
use Rattle.df_column.specs.Picks.{AreWithin, picked_cells}
use Rattle.df_column.proofs.Places.{mapped_length}
use Rattle.df_column.proofs.SpliceLemmas.{spliced_made}
use Rattle.df_column.proofs.masked.Masked.spliced.Goals as goal

pub returns : goal.returns
returns g c =
    let cell_of = g.T.CellValue.cell_of in
    let xs = c.args.self.now in
    spliced_made cell_of c.args.low c.args.high (c.len.result - c.args.high) xs c.in_ok-values.values c.push_values.new.self c.push_picked.new.self c.push_values-2.new.self
    (picked_cells (map cell_of xs) c.args.column c.args.picks.now)
    c.in_ok-values.ensures c.in_ok-push_values.ensures c.in_ok-push_picked.ensures (let n = c.len.ensures in let l = mapped_length cell_of xs in omega (arith, n, l)) c.in_ok-push_values-2.ensures

pub overflow_sub-behind : goal.overflow_sub-behind
overflow_sub-behind g c = let l = mapped_length g.T.CellValue.cell_of c.args.self.now in omega (arith, l)

pub overflow_add-low : goal.overflow_add-low
overflow_add-low g c = let l = mapped_length g.T.CellValue.cell_of c.args.self.now in omega (arith, l)

pub push_values-requires : goal.push_values-requires
push_values-requires g c = let l = mapped_length g.T.CellValue.cell_of c.args.self.now in omega (arith, l)

pub push_values-requires-2 : goal.push_values-requires-2
push_values-requires-2 g c = let l = mapped_length g.T.CellValue.cell_of c.args.self.now in omega (arith, l)

pub push_picked-requires-clause-within : goal.push_picked-requires-clause-within
push_picked-requires-clause-within g c = subst (λ n. AreWithin n c.args.picks.now) (mapped_length g.T.CellValue.cell_of c.args.self.now) c.requires.within
