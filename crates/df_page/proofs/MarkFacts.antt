-- The marks of rows are read back out of their tags.
use Rattle.std.proofs.Common.{◌≡◌, ◌++◌, ◌∷◌, [], ◌∙◌, ℕ, true, false, List, Option, Some, None, inl, inr, refl, ap, sym, append_assoc, append-nil, codes}
use Rattle.std.specs.Prelude.{◌==◌, not}
use Rattle.std.specs.List.{list_all}
use Rattle.std.proofs.lemmas.Bool.{cases_Bool}
use Rattle.df_value.specs.declared.cell.Cell.{Cell}
use Rattle.df_value.specs.Rows.{row_eq}
use Rattle.df_page.specs.Cells.{cells_text, changed_tag, row_tag}
use Rattle.df_page.specs.Markup.{escaped, markup, tag_bytes}
use Rattle.df_page.specs.Reading.{attributes_from, attributes_read, is_cell, is_row_end, shown_mark, text_from, text_read}
use Rattle.df_page.proofs.EscapeFacts.{ends_none, escaped_reads, quotes_none}
use Rattle.df_page.proofs.TagFacts.{all_both, closes_none, is_other, two_true, was_not}

-- the tag of a changed row, piece by piece
changed_is : (a e : List ℕ) →
    ((a ++ codes "<tr class=\"changed\" title=\"") ++ e) ++ codes "\">" ≡ a ++ (codes "<tr class=\"changed\" title=\"" ++ (e ++ codes "\">"))
changed_is a e =
    append_assoc (a ++ codes "<tr class=\"changed\" title=\"") e (codes "\">") ∙ append_assoc a (codes "<tr class=\"changed\" title=\"") (e ++ codes "\">")

changed_bytes : (old : List Cell) →
    codes "<tr class=\"changed\" title=\"" ++ (escaped (cells_text old) ++ codes "\">") ≡ markup ((changed_tag old, []) ∷ [])
unfolding markup tag_bytes escaped
changed_bytes old =
    let e = escaped (cells_text old) in
    let p = codes "<tr class=\"changed\" title=\"" in
    sym (append-nil (p ++ ((e ++ codes "\"") ++ codes ">")) ∙ ap (λ l. p ++ l) (append_assoc e (codes "\"") (codes ">")))

-- the tag, where it is written in pieces
pub changed_of :
    (old : List Cell) (text a b c d : List ℕ) → text ≡ cells_text old → b ≡ a ++ codes "<tr class=\"changed\" title=\"" → c ≡ b ++ escaped text → d ≡ c ++ codes "\">" →
    d ≡ a ++ markup ((changed_tag old, []) ∷ [])
changed_of old text a b c d t e f g =
    rw (g, f, e, t) (changed_is a (escaped (cells_text old)) ∙ ap (λ l. a ++ l) (changed_bytes old))

value_read : (rest name value bytes : List ℕ) → list_all (λ b. not (b == 34)) rest ≡ true →
    attributes_from true name value (rest ++ (34 ∷ bytes)) ≡ (name, text_read (value ++ rest)) ∷ attributes_from false [] [] bytes
unfolding attributes_from
value_read [] name value bytes h = ap (λ v. (name, text_read v) ∷ attributes_from false [] [] bytes) (sym (append-nil value))
value_read (b ∷ rest) name value bytes h =
    let parts = two_true (not (b == 34)) (list_all (λ b. not (b == 34)) rest) h in
    rw (was_not (b == 34) parts.0)
    (value_read rest name (value ++ b ∷ []) bytes parts.1 ∙ ap (λ v. (name, text_read v) ∷ attributes_from false [] [] bytes) (append_assoc value (b ∷ []) rest))

changed_back : (old : List Cell) → attributes_read (changed_tag old) ≡ (codes "class", codes "changed") ∷ (codes "title", cells_text old) ∷ []
unfolding attributes_from text_from
changed_back old =
    ap (λ l. (codes "class", codes "changed") ∷ l)
    (value_read (escaped (cells_text old)) (codes "title") [] [] (quotes_none (cells_text old)) ∙ ap (λ t. (codes "title", t) ∷ []) (escaped_reads (cells_text old)))

-- the mark of a row is read back
pub mark_back : (before : Option (Option (List Cell))) (row : List Cell) → attributes_read (row_tag before row) ≡ shown_mark before row
unfolding attributes_from text_from
mark_back None row = refl
mark_back (Some None) row = refl
mark_back (Some (Some old)) row = elim (cases_Bool (row_eq old row)) [
  | inl same ↦ rw same refl
  | inr other ↦ rw other (changed_back old)
]

changed_closes_none : (old : List Cell) → closes_none (changed_tag old) ≡ true
changed_closes_none old =
    all_both (λ b. not (b == 62)) (codes "tr class=\"changed\" title=\"") (escaped (cells_text old) ++ codes "\"") refl
    (all_both (λ b. not (b == 62)) (escaped (cells_text old)) (codes "\"") (ends_none (cells_text old)) refl)

-- it ends nowhere before its end
pub mark_closes_none : (before : Option (Option (List Cell))) (row : List Cell) → closes_none (row_tag before row) ≡ true
mark_closes_none None row = refl
mark_closes_none (Some None) row = refl
mark_closes_none (Some (Some old)) row = elim (cases_Bool (row_eq old row)) [
  | inl same ↦ rw same refl
  | inr other ↦ rw other (changed_closes_none old)
]

changed_is_other : (old : List Cell) → is_other (changed_tag old, []) ≡ true
unfolding is_cell is_row_end
changed_is_other old = refl

-- it begins no cell, and ends no row
pub mark_is_other : (before : Option (Option (List Cell))) (row : List Cell) → is_other (row_tag before row, []) ≡ true
unfolding is_cell is_row_end
mark_is_other None row = refl
mark_is_other (Some None) row = refl
mark_is_other (Some (Some old)) row = elim (cases_Bool (row_eq old row)) [
  | inl same ↦ rw same refl
  | inr other ↦ rw other (changed_is_other old)
]
