use Rattle.std.proofs.Common.{◌≡◌, ℕ, ◌∙◌, ◌++◌, List, [], ◌∷◌, length, drop, min, zero, suc, refl, ap, sym, arith, append-nil}
use Rattle.std.proofs.lemmas.Slice.Zip.{zip_end, zip_turn}
use Rattle.std.proofs.lemmas.List.{length_push}
use Rattle.df_value.specs.declared.cell.Cell.{Cell}
use Rattle.df_value.specs.declared.cell.CellType.{CellType}
use Rattle.df_ops.specs.RowWise.{with_column_row, with_column_rows}
use Rattle.df_ops.proofs.Steps.{zipped_more, made_is}
use Rattle.df_ops.proofs.one_column.with_column_rows.Goals as goal

-- past the end of one of the two there is no row
no_more :
    (columns : List (List ℕ × CellType)) (name : List ℕ) (rows : List (List Cell)) (cells : List Cell) (n : ℕ) →
    n ≡ min (length rows) (length cells) → with_column_rows columns name (drop n rows) (drop n cells) ≡ []
no_more columns name [] cells zero h = refl
no_more columns name [] cells (suc n) h = refl
no_more columns name (r ∷ rows) [] zero h = refl
no_more columns name (r ∷ rows) [] (suc n) h = absurd (omega arith)
no_more columns name (r ∷ rows) (c ∷ cells) zero h = absurd (omega arith)
no_more columns name (r ∷ rows) (c ∷ cells) (suc n) h = no_more columns name rows cells n (omega arith)

pub returns : goal.returns
returns c =
    let columns = c.args.columns.now in
    let name = c.args.name.now in
    let rows = c.args.rows.now in
    let cells = c.args.cells.now in
    let n : length c.loop-row.yielded ≡ min (length rows) (length cells) =
    zip_end rows cells c.loop-row.yielded c.into_iter-row-iterator.result c.loop-row.row-iterator c.next.new.self c.next.result
    (cc) (cc) c.loop-row.yielded_by c.in-None.is c.next.ensures.steps in
    c.from_vec.ensures
    ∙ (sym (append-nil c.loop-row.out.items)
    ∙ (ap (λ (rest : List (List Cell)). c.loop-row.out.items ++ rest) (sym (no_more columns name rows cells (length c.loop-row.yielded) n))
    ∙ sym c.loop-row.invariant))

pub loop-row-preserved : goal.loop-row-preserved
loop-row-preserved c =
    let columns = c.args.columns.now in
    let name = c.args.name.now in
    let rows = c.args.rows.now in
    let cells = c.args.cells.now in
    let turn =
    zip_turn rows cells c.loop-row.yielded c.into_iter-row-iterator.result c.loop-row.row-iterator c.next.new.self c.next.result
    (cc) (cc) c.loop-row.yielded_by _ c.in-Some.is c.next.ensures.steps in
    zipped_more (with_column_row columns name) (with_column_rows columns name) (λ _ _ _ _. refl) rows cells (length c.loop-row.yielded) _ _ _ _ _ _ _
    turn.0 turn.1 (turn.2 _) (turn.3 _) (length_push c.loop-row.yielded _) c.loop-row.invariant
    (made_is _ _ _ (c.with_column_row.ensures columns name c.args.dtype (c.as_slice.ensures.value ∙ c.in_ok-places.ensures)) c.in_ok-push_made.ensures.1) c.in_ok-push_made.ensures.2
