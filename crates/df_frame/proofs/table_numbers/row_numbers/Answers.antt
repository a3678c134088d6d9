use Rattle.std.proofs.Common.{ℕ, List, ◌<◌, ◌≤◌, ◌∙◌, ◌++◌, ◌∷◌, [], get_or, length, map, ap, sym, arith}
use Rattle.std.proofs.lemmas.List.{length-map, take_all, take_more}
use Rattle.df_frame.specs.FrameTables.{numbered_rows}
use Rattle.df_frame.proofs.FrameTableFacts.{table-length}
use Rattle.df_frame.proofs.table_numbers.row_numbers.Goals as goal

pub number_at-requires-clause-within : goal.number_at-requires-clause-within
number_at-requires-clause-within c =
    let long = c.len-place-end.ensures.value ∙ table-length c.args.table.now.rows in
    omega (arith, long, c.loop-place-test.true)

pub loop-place-preserved : goal.loop-place-preserved
loop-place-preserved c =
    let rows = numbered_rows c.args.table.now.rows in
    let numbers = map (λ r. r.0) rows in
    let place = c.loop-place.place in
    let long = c.len-place-end.ensures.value ∙ table-length c.args.table.now.rows in
    let as-long = length-map rows (λ r. r.0) in
    let within : place < length numbers = omega (arith, long, as-long, c.loop-place-test.true) in
    let pushed = ◌∙◌ {A = List ℕ} c.in_ok-push.ensures.items (ap (λ n. c.loop-place.numbers.items ++ n ∷ []) c.number_at.ensures) in
    pushed ∙ (ap (λ ns. ns ++ get_or numbers place 0 ∷ []) c.loop-place.invariant ∙ sym (take_more numbers place 0 within))

pub returns : goal.returns
returns c =
    let rows = numbered_rows c.args.table.now.rows in
    let numbers = map (λ r. r.0) rows in
    let long = c.len-place-end.ensures.value ∙ table-length c.args.table.now.rows in
    let as-long = length-map rows (λ r. r.0) in
    let past : length numbers ≤ c.loop-place.place = omega (arith, long, as-long, c.loop-place-test.false) in
    c.from_vec.ensures ∙ (c.loop-place.invariant ∙ take_all c.loop-place.place numbers past)
