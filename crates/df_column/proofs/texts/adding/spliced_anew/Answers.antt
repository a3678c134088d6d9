use Rattle.std.proofs.Common.{ap, arith, map, subst, sym}
use Rattle.df_column.specs.Picks.{origin_cell, picked_cells}
use Rattle.df_column.specs.Lookups.{IsLookup}
use Rattle.df_column.specs.Texts.{pool_text}
use Rattle.df_column.specs.ValueCells.{text_cell}
use Rattle.df_column.proofs.Places.{mapped_length}
use Rattle.df_column.proofs.SpliceLemmas.{both_count, front_count, ranges_made}
use Rattle.df_column.proofs.texts.adding.spliced_anew.Goals as goal

pub returns : goal.returns
returns c =
    let xs = c.args.old.now in
    ranges_made text_cell c.args.low c.args.high c.len-2.result xs
    (map (pool_text c.new-pool.result) c.in_ok-places.places) (map (pool_text c.push_range.new.pool) c.push_range.new.places)
    (map (pool_text c.push_rows.new.pool) c.push_rows.new.places) (map (pool_text c.push_range-2.new.pool) c.push_range-2.new.places)
    (picked_cells (map text_cell xs) c.args.column c.args.picks.now)
    (ap (map (pool_text c.new-pool.result)) c.in_ok-places.ensures) c.in_ok-push_range.ensures.texts c.in_ok-push_rows.ensures.texts c.len-2.ensures c.in_ok-push_range-2.ensures.texts

pub push_range-requires-clause-lookup : goal.push_range-requires-clause-lookup
push_range-requires-clause-lookup c = subst (λ p. IsLookup p c.in_ok-lookup.lookup) (sym c.new-pool.ensures) c.in_ok-lookup.ensures

pub push_rows-requires-clause-few : goal.push_rows-requires-clause-few
push_rows-requires-clause-few c =
    let n = front_count (pool_text c.new-pool.result) (pool_text c.push_range.new.pool) c.in_ok-places.places c.push_range.new.places c.args.low c.args.old.now c.in_ok-places.ensures c.in_ok-push_range.ensures.texts (omega arith) in
    omega (arith, n, c.requires.few)

pub push_range-requires-2-clause-few : goal.push_range-requires-2-clause-few
push_range-requires-2-clause-few c =
    let xs = c.args.old.now in
    let n = front_count (pool_text c.new-pool.result) (pool_text c.push_range.new.pool) c.in_ok-places.places c.push_range.new.places c.args.low xs c.in_ok-places.ensures c.in_ok-push_range.ensures.texts (omega arith) in
    let k = both_count (pool_text c.push_range.new.pool) (pool_text c.push_rows.new.pool) text_cell c.push_range.new.places c.push_rows.new.places (picked_cells (map text_cell xs) c.args.column c.args.picks.now) c.in_ok-push_rows.ensures.texts in
    let m = mapped_length (λ p. origin_cell (map text_cell xs) c.args.column p.origin) c.args.picks.now in
    omega (arith, n, k, m, c.len-2.ensures, c.requires.few)
