use Rattle.std.proofs.Common.{◌≡◌, ◌+◌, ◌-◌, ◌++◌, ap, subst, arith, map, take, drop}
use Rattle.std.specs.Prelude.{IfSome}
use Rattle.std.proofs.lemmas.Result.{IfOk-weaker}
use Rattle.df_column.specs.Picks.{AreWithin, picked_cells}
use Rattle.df_column.specs.ValueCells.{text_cell}
use Rattle.df_column.proofs.Places.{mapped_length}
use Rattle.df_column.proofs.TextSplices.{rotated_made, rotated_within}
use Rattle.df_column.proofs.texts.Texts.spliced.Goals as goal

pub rotated-requires-clause-in_range : goal.rotated-requires-clause-in_range
rotated-requires-clause-in_range c =
    let xs = c.args.self.now in
    let l = mapped_length text_cell xs in
    rotated_within text_cell c.args.low c.args.high (c.args.low + (c.len.result - c.args.high)) xs c.in-Some.kept c.in_ok-all.all c.in_ok-all.all (picked_cells (map text_cell xs) c.args.column c.args.picks.now)
    (subst (λ o. IfSome o (λ t. t ≡ take c.args.low xs ++ drop c.args.high xs)) c.in-Some.is c.in_ok-kept.ensures) c.in_ok-all.ensures c.requires.ordered (omega (arith, l, c.requires.in_range)) (ap (λ n. c.args.low + (n - c.args.high)) c.len.ensures)

pub returns-in-Some : goal.returns-in-Some
returns-in-Some c =
    let xs = c.args.self.now in
    let l = mapped_length text_cell xs in
    IfOk-weaker c.rotated.result _ _
    (λ texts h. rotated_made text_cell c.args.low c.args.high (c.args.low + (c.len.result - c.args.high)) xs c.in-Some.kept c.in_ok-all.all texts (picked_cells (map text_cell xs) c.args.column c.args.picks.now)
    (subst (λ o. IfSome o (λ t. t ≡ take c.args.low xs ++ drop c.args.high xs)) c.in-Some.is c.in_ok-kept.ensures) c.in_ok-all.ensures c.requires.ordered (omega (arith, l, c.requires.in_range)) (ap (λ n. c.args.low + (n - c.args.high)) c.len.ensures)
    h)
    c.rotated.ensures

pub with_picked-requires-clause-within : goal.with_picked-requires-clause-within
with_picked-requires-clause-within c = subst (λ n. AreWithin n c.args.picks.now) (mapped_length text_cell c.args.self.now) c.requires.within

pub spliced_anew-requires-clause-within : goal.spliced_anew-requires-clause-within
spliced_anew-requires-clause-within c = subst (λ n. AreWithin n c.args.picks.now) (mapped_length text_cell c.args.self.now) c.requires.within

pub spliced_anew-requires-clause-in_range : goal.spliced_anew-requires-clause-in_range
spliced_anew-requires-clause-in_range c = let l = mapped_length text_cell c.args.self.now in omega (arith, l, c.requires.in_range)

pub spliced_anew-requires-clause-few : goal.spliced_anew-requires-clause-few
spliced_anew-requires-clause-few c = let l = mapped_length text_cell c.args.self.now in omega (arith, l, c.requires.few)
