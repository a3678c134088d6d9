-- A section, part by part, and what is read of it.
use Rattle.std.proofs.Common.{◌≡◌, ◌++◌, ◌∷◌, [], ℕ, Bool, true, false, List, Option, Some, None, inl, inr, refl, sym, length, map, flat_map, nat_lt, append_assoc, append-nil, codes, ap, ◌∙◌}
use Rattle.std.specs.Prelude.{slice_get}
use Rattle.std.specs.List.{enumerate_from, list_all}
use Rattle.std.proofs.lemmas.Bool.{cases_Bool}
use Rattle.std.proofs.lemmas.List.{length-map}
use Rattle.std.proofs.lemmas.List.FromFn.{length-enumerate_from}
use Rattle.df_value.specs.declared.cell.CellType.{CellType}
use Rattle.df_value.specs.declared.cell.Cell.{Cell}
use Rattle.df_value.specs.Schemas.{Columns}
use Rattle.df_page.specs.declared.columns.Column.{Column}
use Rattle.df_page.specs.Bars.{column_at, columns_of, is_number}
use Rattle.df_page.specs.Markup.{Tagged, markup}
use Rattle.df_page.specs.Sections.{gone_tags, more_tags, name_tag, name_tags, names_tags, opening_tags, placed_tags, rows_tags, section_of, section_tags}
use Rattle.df_page.specs.Reading.{Shown, is_cell, is_cell_end, is_null_mark, is_row_end, rows_from, rows_read, shown_row, shown_table}
use Rattle.df_page.proofs.MarkupFacts.{from_none, then}
use Rattle.df_page.proofs.RowFacts.{each_are_tags, each_row_back, marked_text, row_are_tags, row_ended, skip}
use Rattle.df_page.proofs.TagFacts.{all_both, is_other, is_tag, tags_back}

abbrev parts : List ℕ → Columns → List Column → List (List Cell) → ℕ → List (Option (List Cell)) → ℕ → List Tagged
parts name schema columns rows total before gone =
    opening_tags name total (length schema)
    ++ (names_tags schema
    ++ (rows_tags columns before rows ++ (more_tags (length rows) total ++ (gone_tags gone ++ ((codes "/section", codes "\n") ∷ [])))))

pub section_is :
    (name given : List ℕ) (schema found : Columns) (rows : List (List Cell)) (total : ℕ) (before : List (Option (List Cell))) (gone : ℕ) (columns slice : List Column)
    (start opened named filled counted missed closed : List ℕ) →
    given ≡ name → found ≡ schema → columns ≡ columns_of found rows → slice ≡ columns → start ≡ [] →
    opened ≡ start ++ markup (opening_tags given total (length found)) → named ≡ opened ++ markup (names_tags found) →
    filled ≡ named ++ markup (rows_tags slice before rows) → counted ≡ filled ++ markup (more_tags (length rows) total) →
    missed ≡ counted ++ markup (gone_tags gone) →
    closed ≡ missed ++ markup ((codes "/section", codes "\n") ∷ []) → closed ≡ section_of name schema rows total before gone
unfolding section_of
section_is name given schema found rows total before gone columns slice start opened named filled counted missed closed n s c l none a b d e m f =
    let whole = from_none _ _ _ none (then _ _ _ _ _ a (then _ _ _ _ _ b (then _ _ _ _ _ d (then _ _ _ _ _ e (then _ _ _ _ _ m f))))) in
    whole ∙ (ap (λ cs. markup (parts given found cs rows total before gone)) (l ∙ c)
    ∙ (ap (λ found. markup (parts given found (columns_of found rows) rows total before gone)) s
    ∙ ap (λ given. markup (parts given schema (columns_of schema rows) rows total before gone)) n))

name_is_cell : (number : Bool) → is_cell (name_tag number) ≡ true
unfolding is_cell
name_is_cell true = refl
name_is_cell false = refl

each_name_back : (row : List Shown) (schema : Columns) (tags : List Tagged) → rows_from row None (flat_map name_tags schema ++ tags) ≡ rows_from (row ++ map (λ c. Some c.0) schema) None tags
unfolding is_cell_end is_null_mark
each_name_back row [] tags = ap (λ r. rows_from r None tags) (sym (append-nil row))
each_name_back row (c ∷ schema) tags =
    let rest = flat_map name_tags schema in
    ap (rows_from row None) (append_assoc (name_tags c) rest tags)
    ∙ (marked_text row (name_tag (is_number c.1)) [] (codes "bdi") c.0 (codes "/bdi") (codes "/th") (rest ++ tags) (name_is_cell (is_number c.1)) refl refl refl refl refl
    ∙ (each_name_back (row ++ Some c.0 ∷ []) schema tags ∙ ap (λ r. rows_from r None tags) (append_assoc row (Some c.0 ∷ []) (map (λ c. Some c.0) schema))))

names_back : (schema : Columns) (tags : List Tagged) → rows_from [] None (names_tags schema ++ tags) ≡ map (λ c. Some c.0) schema ∷ rows_from [] None tags
unfolding is_cell is_row_end
names_back schema tags =
    let names = flat_map name_tags schema in
    let end : List Tagged = (codes "/tr", codes "\n") ∷ (codes "/thead", codes "\n") ∷ [] in
    skip [] ((codes "thead", codes "\n") ∷ (codes "tr", []) ∷ []) ((names ++ end) ++ tags) refl
    ∙ (ap (rows_from [] None) (append_assoc names end tags)
    ∙ (each_name_back [] schema (end ++ tags)
    ∙ (row_ended (map (λ c. Some c.0) schema) (codes "\n") ((codes "/thead", codes "\n") ∷ tags)
    ∙ ap (λ l. map (λ c. Some c.0) schema ∷ l) (skip [] ((codes "/thead", codes "\n") ∷ []) tags refl))))

rows_back : (columns : List Column) (before : List (Option (List Cell))) (rows : List (List Cell)) (tags : List Tagged) →
    rows_from [] None (rows_tags columns before rows ++ tags) ≡ map (shown_row (length columns)) rows ++ rows_from [] None tags
unfolding is_cell is_row_end
rows_back columns before rows tags =
    let all = flat_map (placed_tags columns before) (enumerate_from 0 rows) in
    let end : List Tagged = (codes "/tbody", codes "\n") ∷ (codes "/table", codes "\n") ∷ (codes "/div", codes "\n") ∷ [] in
    skip [] ((codes "tbody", codes "\n") ∷ []) ((all ++ end) ++ tags) refl
    ∙ (ap (rows_from [] None) (append_assoc all end tags)
    ∙ (each_row_back columns before 0 rows (end ++ tags) ∙ ap (λ l. map (shown_row (length columns)) rows ++ l) (skip [] end tags refl)))

more_are_other : (given total : ℕ) → list_all is_other (more_tags given total) ≡ true
unfolding is_cell is_row_end
more_are_other given total = elim (cases_Bool (nat_lt given total)) [
  | inl some ↦ rw some refl
  | inr none ↦ rw none refl
]

more_are_tags : (given total : ℕ) → list_all is_tag (more_tags given total) ≡ true
more_are_tags given total = elim (cases_Bool (nat_lt given total)) [
  | inl some ↦ rw some refl
  | inr none ↦ rw none refl
]

gone_are_other : (gone : ℕ) → list_all is_other (gone_tags gone) ≡ true
unfolding is_cell is_row_end
gone_are_other gone = elim (cases_Bool (nat_lt 0 gone)) [
  | inl some ↦ rw some refl
  | inr none ↦ rw none refl
]

gone_are_tags : (gone : ℕ) → list_all is_tag (gone_tags gone) ≡ true
gone_are_tags gone = elim (cases_Bool (nat_lt 0 gone)) [
  | inl some ↦ rw some refl
  | inr none ↦ rw none refl
]

name_are_tags : (number : Bool) (name : List ℕ) → list_all is_tag ((name_tag number, []) ∷ (codes "bdi", name) ∷ (codes "/bdi", []) ∷ (codes "/th", []) ∷ []) ≡ true
name_are_tags true name = refl
name_are_tags false name = refl

length-columns_of : (schema : Columns) (rows : List (List Cell)) → length (columns_of schema rows) ≡ length schema
length-columns_of schema rows = length-map (enumerate_from 0 schema) (λ c. column_at c.0 c.1.1 rows) ∙ length-enumerate_from 0 schema

-- what is read of a section, with what stands behind it
pub section_back :
    (name : List ℕ) (schema : Columns) (rows : List (List Cell)) (total : ℕ) (before : List (Option (List Cell))) (gone : ℕ) (tags : List Tagged) →
    rows_from [] None (section_tags name schema rows total before gone ++ tags) ≡ shown_table schema rows ++ rows_from [] None tags
unfolding is_cell is_row_end
section_back name schema rows total before gone tags =
    let columns = columns_of schema rows in
    let opening = opening_tags name total (length schema) in
    let names = map (λ (c : List ℕ × CellType). Some c.0) schema in
    let end : List Tagged = (codes "/section", codes "\n") ∷ [] in
    let more = more_tags (length rows) total in
    let went = gone_tags gone in
    let filled = rows_tags columns before rows in
    let read = rows_from [] None in
    let behind = more ++ (went ++ end) in
    let ending : read (behind ++ tags) ≡ read tags =
    ap read (append_assoc more (went ++ end) tags) ∙ (skip [] more ((went ++ end) ++ tags) (more_are_other (length rows) total)
    ∙ (ap read (append_assoc went end tags) ∙ (skip [] went (end ++ tags) (gone_are_other gone) ∙ skip [] end tags refl))) in
    let filling : read ((filled ++ behind) ++ tags) ≡ map (shown_row (length schema)) rows ++ read tags =
    ap read (append_assoc filled behind tags)
    ∙ (rows_back columns before rows (behind ++ tags)
    ∙ (ap (λ n. map (shown_row n) rows ++ read (behind ++ tags)) (length-columns_of schema rows) ∙ ap (λ l. map (shown_row (length schema)) rows ++ l) ending)) in
    ap read (append_assoc opening (names_tags schema ++ (filled ++ behind)) tags)
    ∙ (skip [] opening ((names_tags schema ++ (filled ++ behind)) ++ tags) refl
    ∙ (ap read (append_assoc (names_tags schema) (filled ++ behind) tags)
    ∙ (names_back schema ((filled ++ behind) ++ tags) ∙ ap (λ l. names ∷ l) filling)))

pub section_are_tags :
    (name : List ℕ) (schema : Columns) (rows : List (List Cell)) (total : ℕ) (before : List (Option (List Cell))) (gone : ℕ) →
    list_all is_tag (section_tags name schema rows total before gone) ≡ true
section_are_tags name schema rows total before gone =
    let columns = columns_of schema rows in
    let end : List Tagged = (codes "/section", codes "\n") ∷ [] in
    let more = more_tags (length rows) total in
    let went = gone_tags gone in
    let behind = more ++ (went ++ end) in
    let filled = rows_tags columns before rows in
    let each_name = each_are_tags name_tags (λ c. name_are_tags (is_number c.1) c.0) schema in
    let names : list_all is_tag (names_tags schema) ≡ true = all_both is_tag (flat_map name_tags schema) ((codes "/tr", codes "\n") ∷ (codes "/thead", codes "\n") ∷ []) each_name refl in
    let each_row : list_all is_tag filled ≡ true =
    all_both is_tag (flat_map (placed_tags columns before) (enumerate_from 0 rows))
    ((codes "/tbody", codes "\n") ∷ (codes "/table", codes "\n") ∷ (codes "/div", codes "\n") ∷ [])
    (each_are_tags (placed_tags columns before) (λ p. row_are_tags columns (slice_get before p.0) p.1) (enumerate_from 0 rows)) refl in
    all_both is_tag (opening_tags name total (length schema)) (names_tags schema ++ (filled ++ behind)) refl
    (all_both is_tag (names_tags schema) (filled ++ behind) names
    (all_both is_tag filled behind each_row
    (all_both is_tag more (went ++ end) (more_are_tags (length rows) total) (all_both is_tag went end (gone_are_tags gone) refl))))

-- of a section the table is read back
pub table_back : (name : List ℕ) (schema : Columns) (rows : List (List Cell)) (total : ℕ) (before : List (Option (List Cell))) (gone : ℕ) →
    rows_read (section_of name schema rows total before gone) ≡ shown_table schema rows
unfolding section_of rows_from
table_back name schema rows total before gone =
    let tags = section_tags name schema rows total before gone in
    ap (rows_from [] None) (tags_back tags (section_are_tags name schema rows total before gone) ∙ sym (append-nil tags))
    ∙ (section_back name schema rows total before gone [] ∙ append-nil (shown_table schema rows))
