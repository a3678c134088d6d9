use Rattle.std.proofs.Common.{◌∙◌, ◌++◌, ap, length, map, take, drop}
use Rattle.std.proofs.lemmas.List.{map-append}
use Rattle.df_column.proofs.OldRuns.{old_part, old_within, some_old}
use Rattle.df_column.proofs.masked.Masked.push_first.Goals as goal

pub push_values-requires : goal.push_values-requires
push_values-requires g c =
    let picks = c.args.picks.now in
    let count = c.old_rows-count in
    let some = some_old picks c.in-Old.first count.result c.index-picks-0.result c.in-Old.is c.requires.some (count.ensures.all c.index-picks-0.result) in
    old_within (length c.args.old.now) picks c.in-Old.first count.result count.ensures.within some count.ensures.old c.requires.within

pub returns-in_ok-push_values-in-Old-clause-some : goal.returns-in_ok-push_values-in-Old-clause-some
returns-in_ok-push_values-in-Old-clause-some g c =
    some_old c.args.picks.now c.in-Old.first c.old_rows-count.result c.index-picks-0.result c.in-Old.is c.requires.some (c.old_rows-count.ensures.all c.index-picks-0.result)

pub returns-in_ok-push_values-in-Old-clause-cells : goal.returns-in_ok-push_values-in-Old-clause-cells
returns-in_ok-push_values-in-Old-clause-cells g c =
    let cell_of = g.T.CellValue.cell_of in
    let picks = c.args.picks.now in
    let count = c.old_rows-count in
    let some = some_old picks c.in-Old.first count.result c.index-picks-0.result c.in-Old.is c.requires.some (count.ensures.all c.index-picks-0.result) in
    let within = old_within (length c.args.old.now) picks c.in-Old.first count.result count.ensures.within some count.ensures.old c.requires.within in
    ap (map cell_of) c.in_ok-push_values-in-Old.ensures
    ∙ map-append cell_of c.args.self.now (take count.result (drop c.in-Old.first c.args.old.now))
    ∙ ap (λ r. map cell_of c.args.self.now ++ r) (old_part cell_of c.args.old.now c.args.column picks c.in-Old.first count.result count.ensures.old count.ensures.within within)
