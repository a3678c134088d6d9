use Rattle.std.proofs.Common.{◌∷◌, [], ap, sym, ◌∙◌, arith}
use Rattle.std.specs.Int.{w128}
use Rattle.std.proofs.lemmas.Int.{ints, to_z-of_z}
use Rattle.df_nodes.specs.Sliding.{totals_of}
use Rattle.df_nodes.proofs.WindowTotals.{totals_of_one}
use Rattle.df_nodes.proofs.window_totals.Totals.of_cell.Goals as goal

pub returns-in-Null-clause-value : goal.returns-in-Null-clause-value
returns-in-Null-clause-value c kind = c.none.ensures kind ∙ ap (λ x. totals_of kind (x ∷ [])) (sym c.in-Null.is)

pub returns-in_ok-copy-in_default : goal.returns-in_ok-copy-in_default
returns-in_ok-copy-in_default c =
    let word = c.number_in-sum.ensures.word in
    let value = c.number_in-sum.ensures.value in
    let low = word.low in
    let high = word.high in
    record {
      value = λ kind. totals_of_one kind c.args.cell.now c.in_ok-copy-in_default.field-0 _ c.in_default.not-Null c.in_ok-copy-in_default.ensures.value
          (to_z-of_z w128 c.number_in-sum.result (omega (arith, ints)) ∙ value);
      word = word;
    }
