use Rattle.std.proofs.Common.{◌+◌, ◌∙◌, ◌++◌, ◌∷◌, [], map, length, length-append, ap, sym, arith}
use Rattle.std.specs.Prelude.{None, Some}
use Rattle.std.specs.List.{enumerate_from}
use Rattle.std.proofs.lemmas.List.{map-append}
use Rattle.df_frame.specs.FrameTables.{coming_row}
use Rattle.df_frame.proofs.FrameFacts.{enumerated-both}
use Rattle.df_frame.proofs.deltas.coming_entries.Goals as goal

pub loop-row-preserved : goal.loop-row-preserved
loop-row-preserved c =
    let first = c.args.first in
    let before = c.loop-row.yielded in
    let row = c.in-Some.row in
    let entries = map coming_row (enumerate_from first before) in record {
      number = let was = c.loop-row.invariant.number in let more = length-append before (row ∷ []) in omega (arith, was, more);
      changes =
          c.in_ok-push_change.ensures.added
          ∙ (ap (λ es. es ++ (c.row_tag.result, record { old = None; new = Some row }) ∷ []) c.loop-row.invariant.changes
          ∙ (ap (λ t. entries ++ (t, record { old = None; new = Some row }) ∷ []) c.row_tag.ensures
          ∙ (ap (λ n. entries ++ coming_row (n, row) ∷ []) c.loop-row.invariant.number
          ∙ sym (ap (map coming_row) (enumerated-both first before (row ∷ [])) ∙ map-append coming_row (enumerate_from first before) _))));
      rows = c.in_ok-push_change.ensures.rows c.loop-row.invariant.rows;
    }
