use Rattle.std.proofs.Common.{◌∙◌, ◌∷◌, [], ap, length, pos, refl}
use Rattle.std.specs.Iterator.Adapters.{zip_first, zip_second}
use Rattle.std.specs.Slice.Iter.{iter_rest}
use Rattle.std.proofs.lemmas.Slice.Zip.{zip_end, zip_turn}
use Rattle.std.proofs.lemmas.List.{length_push}
use Rattle.df_value.specs.declared.cell.Cell.TheVariants as cell
use Rattle.df_export.specs.JsonLines.{json_line}
use Rattle.df_export.specs.Numbered.{numbered_columns, numbered_rows}
use Rattle.df_export.proofs.Lines.{lines_over, lines_turn}
use Rattle.df_export.proofs.Pairs.{at_end, at_next}
use Rattle.df_export.proofs.objects.numbered_json_lines.Goals as goal

pub loop-number-preserved : goal.loop-number-preserved
unfolding numbered_rows
loop-number-preserved c =
    let columns = c.as_slice-columns.result.now in
    let numbers = c.args.numbers.now in
    let rows = c.args.rows.now in
    let number = c.in-Some.number.now in
    let row = c.in-Some.row.now in
    let given = c.into_iter-number-iterator.ensures.into_iter_gives in
    let first = ap (λ z. iter_rest (zip_first z)) given ∙ (ap iter_rest c.zip-number-items.ensures.first ∙ c.iter.ensures.rest) in
    let second = ap (λ z. iter_rest (zip_second z)) given ∙ c.zip-number-items.ensures.second.0 in
    let next =
    zip_turn numbers rows c.loop-number.yielded c.into_iter-number-iterator.result c.loop-number.number-iterator c.next.new.self c.next.result
    first second c.loop-number.yielded_by _ c.in-Some.is c.next.ensures.steps in
    let more = at_next numbered_rows numbers rows (length c.loop-number.yielded) _ number row next.0 next.1 next.2 next.3 (length_push c.loop-number.yielded (c.in-Some.number, c.in-Some.row)) in
    lines_turn (json_line (numbered_columns columns)) _ _ (cell.Int (pos number) ∷ row) c.loop-number.out.items _ _ more
    (rw (c.as_slice.ensures, c.as_str.ensures.value, c.in_ok-name.ensures) at c.in_ok-out.ensures.value) c.loop-number.invariant

pub returns : goal.returns
unfolding numbered_rows
returns c =
    let numbers = c.args.numbers.now in
    let rows = c.args.rows.now in
    let given = c.into_iter-number-iterator.ensures.into_iter_gives in
    let first = ap (λ z. iter_rest (zip_first z)) given ∙ (ap iter_rest c.zip-number-items.ensures.first ∙ c.iter.ensures.rest) in
    let second = ap (λ z. iter_rest (zip_second z)) given ∙ c.zip-number-items.ensures.second.0 in
    let n =
    zip_end numbers rows c.loop-number.yielded c.into_iter-number-iterator.result c.loop-number.number-iterator c.next.new.self c.next.result
    first second c.loop-number.yielded_by c.in-None.is c.next.ensures.steps in
    let none = at_end numbered_rows [] (λ _. refl) (λ _ _. refl) numbers rows (length c.loop-number.yielded) n in
    let same = c.as_slice-columns.ensures ∙ c.columns.ensures.value in
    record { value = rw same at (lines_over (json_line (numbered_columns c.as_slice-columns.result.now)) _ c.loop-number.out.items _ none c.loop-number.invariant) }
