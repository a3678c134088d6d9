-- The least and the greatest cell of some rows, and their tags above a value, one row more.
use Rattle.std.proofs.Common.{◌≡◌, ℕ, ◌+◌, ◌<◌, ◌≤◌, Bool, true, false, cond, List, [], ◌∷◌, ◌++◌, length, map, drop, get_or, refl, sym, ap, ◌∙◌, append_assoc, append-nil}
use Rattle.std.specs.Prelude.{Option, Some, None, filter, not, ◌&&◌}
use Rattle.df_value.specs.Rows.{cell_at}
use Rattle.df_value.specs.declared.cell.Cell.{Cell}
use Rattle.df_column.specs.MinMaxCells.{min_or_max_in, min_or_max_of, min_or_max_with, is_above, is_better, is_beyond, is_null, tags_above}
use Rattle.df_column.specs.declared.min_max.MinMax.{MinMax}
use Rattle.df_column.specs.declared.tag.Tag.{Tag}
use Rattle.df_column.proofs.BlocksMinMax.{strict}
use Rattle.df_column.proofs.MergeLemmas.{drop_at, drop_past}

-- of one cell
one_cell : (e : MinMax) (c : Cell) → is_null c ≡ false → min_or_max_of e (c ∷ []) ≡ Some c
one_cell e c h =
    ap (λ n. min_or_max_in e (cond (not n) (c ∷ []) [])) h ∙ ap (λ b. cond (not b && true) (Some c) None) ((strict e).irrefl c)

no_cell : (e : MinMax) (c : Cell) → is_null c ≡ true → min_or_max_of e (c ∷ []) ≡ None
no_cell e c h = ap (λ n. min_or_max_in e (cond (not n) (c ∷ []) [])) h

pub min_or_max_with_none : (e : MinMax) (best : Option Cell) → min_or_max_with e best None ≡ best
min_or_max_with_none e None = refl
min_or_max_with_none e (Some a) = refl

min_or_max_with_one : (e : MinMax) (best : Option Cell) (c : Cell) (n : Bool) → is_null c ≡ n → min_or_max_with e best (min_or_max_of e (c ∷ [])) ≡ cond (is_better e best c) (Some c) best
min_or_max_with_one e None c true h = ap (λ o. min_or_max_with e None o) (no_cell e c h) ∙ sym (ap (λ n. cond (not n) (Some c) None) h)
min_or_max_with_one e None c false h = one_cell e c h ∙ sym (ap (λ n. cond (not n) (Some c) None) h)
min_or_max_with_one e (Some a) c true h = ap (λ o. min_or_max_with e (Some a) o) (no_cell e c h) ∙ sym (ap (λ n. cond (not n && is_beyond e c a) (Some c) (Some a)) h)
min_or_max_with_one e (Some a) c false h =
    ap (λ o. min_or_max_with e (Some a) o) (one_cell e c h) ∙ either (is_beyond e c a)
    ∙ sym (ap (λ n. cond (not n && is_beyond e c a) (Some c) (Some a)) h)
  where
    either : (b : Bool) → Some (cond b c a) ≡ cond b (Some c) (Some a)
    either true = refl
    either false = refl

pub better_is : (e : MinMax) (best : Option Cell) (c : Cell) (b : Bool) → is_better e best c ≡ b → min_or_max_with e best (min_or_max_of e (c ∷ [])) ≡ cond b (Some c) best
better_is e best c b h = min_or_max_with_one e best c (is_null c) refl ∙ ap (λ b. cond b (Some c) best) h

-- the tags above a value, one row more
above_cons : (index : Option ℕ) (value : Cell) (e : Tag × List Cell) (es : List (Tag × List Cell)) → tags_above index value (e ∷ es) ≡ tags_above index value (e ∷ []) ++ tags_above index value es
above_cons index value e es =
    elim (is_above value (cell_at index e.1)) as (λ b. map (λ r. r.0) (cond b (e ∷ filter (λ r. is_above value (cell_at index r.1)) es) (filter (λ r. is_above value (cell_at index r.1)) es)) ≡ map (λ r. r.0) (cond b (e ∷ []) []) ++ tags_above index value es) [
      | true ↦ refl
      | false ↦ refl
    ]

pub above_step : (index : Option ℕ) (value : Cell) (es : List (Tag × List Cell)) (i : ℕ) (d e : Tag × List Cell) (out after all : List Tag) → i < length es → e ≡ get_or es i d
    → after ≡ out ++ tags_above index value (e ∷ []) → out ++ tags_above index value (drop i es) ≡ all → after ++ tags_above index value (drop (i + 1) es) ≡ all
above_step index value es i d e out after all lt is made done =
    let cut : drop i es ≡ e ∷ drop (i + 1) es = drop_at es i d lt ∙ ap (λ z. z ∷ drop (i + 1) es) (sym is) in
    ap (λ r. r ++ tags_above index value (drop (i + 1) es)) made
    ∙ append_assoc out (tags_above index value (e ∷ [])) (tags_above index value (drop (i + 1) es))
    ∙ ap (λ r. out ++ r) (sym (above_cons index value e (drop (i + 1) es)))
    ∙ ap (λ r. out ++ tags_above index value r) (sym cut)
    ∙ done

pub above_end : (index : Option ℕ) (value : Cell) (es : List (Tag × List Cell)) (i : ℕ) (out all : List Tag) → length es ≤ i → out ++ tags_above index value (drop i es) ≡ all → out ≡ all
above_end index value es i out all h done = sym (append-nil out) ∙ ap (λ r. out ++ tags_above index value r) (sym (drop_past es i h)) ∙ done
