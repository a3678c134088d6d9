-- What is read of a page.
use Rattle.std.proofs.Common.{◌≡◌, ◌++◌, ◌∷◌, [], ◌∙◌, ℕ, Bool, true, false, List, Option, None, refl, ap, sym, map, flat_map, append_assoc, append-nil}
use Rattle.std.specs.List.{list_all}
use Rattle.df_value.specs.declared.cell.Cell.{Cell}
use Rattle.df_value.specs.Schemas.{Columns}
use Rattle.df_page.specs.Markup.{Tagged, markup}
use Rattle.df_page.specs.Pages.{end_of, end_tags, head_of, head_tags, page_of}
use Rattle.df_page.specs.Reading.{is_cell, is_row_end, rows_from, rows_read, shown_table}
use Rattle.df_page.specs.Sections.{section_of, section_tags}
use Rattle.df_page.proofs.MarkupFacts.{markup-append}
use Rattle.df_page.proofs.RowFacts.{each_are_tags, skip}
use Rattle.df_page.proofs.SectionFacts.{section_are_tags, section_back}
use Rattle.df_page.proofs.TagFacts.{all_both, is_other, is_tag, tags_back}

-- a view: its name, its columns, the rows that are shown and how many it has, what these were before, and how many went
abbrev pub View : Type 0
View = List ℕ × Columns × List (List Cell) × ℕ × List (Option (List Cell)) × ℕ

abbrev pub section_of_view : View → List ℕ
section_of_view v = section_of v.0 v.1 v.2 v.3 v.4 v.5

abbrev tags_of_view : View → List Tagged
tags_of_view v = section_tags v.0 v.1 v.2 v.3 v.4 v.5

sections_are : (views : List View) → flat_map (λ s. s) (map section_of_view views) ≡ markup (flat_map tags_of_view views)
unfolding section_of markup
sections_are [] = refl
sections_are (v ∷ views) =
    ap (λ l. markup (tags_of_view v) ++ l) (sections_are views) ∙ sym (markup-append (tags_of_view v) (flat_map tags_of_view views))

page_is : (title : List ℕ) (change : ℕ) (reload : Bool) (views : List View) →
    page_of title change reload (map section_of_view views) ≡ markup (head_tags title change reload ++ (flat_map tags_of_view views ++ end_tags))
unfolding head_of end_of
page_is title change reload views =
    let head = head_tags title change reload in
    let middle = flat_map tags_of_view views in
    ap (λ l. markup head ++ (l ++ markup end_tags)) (sections_are views)
    ∙ (ap (λ l. markup head ++ l) (sym (markup-append middle end_tags)) ∙ sym (markup-append head (middle ++ end_tags)))

views_back : (views : List View) (tags : List Tagged) → rows_from [] None (flat_map tags_of_view views ++ tags) ≡ flat_map (λ v. shown_table v.1 v.2) views ++ rows_from [] None tags
views_back [] tags = refl
views_back (v ∷ views) tags =
    ap (rows_from [] None) (append_assoc (tags_of_view v) (flat_map tags_of_view views) tags)
    ∙ (section_back v.0 v.1 v.2 v.3 v.4 v.5 (flat_map tags_of_view views ++ tags)
    ∙ (ap (λ l. shown_table v.1 v.2 ++ l) (views_back views tags)
    ∙ sym (append_assoc (shown_table v.1 v.2) (flat_map (λ v. shown_table v.1 v.2) views) (rows_from [] None tags))))

head_are_tags : (title : List ℕ) (change : ℕ) (reload : Bool) → list_all is_tag (head_tags title change reload) ≡ true
head_are_tags title change true = refl
head_are_tags title change false = refl

head_are_other : (title : List ℕ) (change : ℕ) (reload : Bool) → list_all is_other (head_tags title change reload) ≡ true
unfolding is_cell is_row_end
head_are_other title change true = refl
head_are_other title change false = refl

-- of a page the tables of its views are read back, in their order
pub page_back : (title : List ℕ) (change : ℕ) (reload : Bool) (views : List View) →
    rows_read (page_of title change reload (map section_of_view views)) ≡ flat_map (λ v. shown_table v.1 v.2) views
unfolding rows_from is_cell is_row_end
page_back title change reload views =
    let head = head_tags title change reload in
    let middle = flat_map tags_of_view views in
    let are_tags =
    all_both is_tag head (middle ++ end_tags) (head_are_tags title change reload)
    (all_both is_tag middle end_tags (each_are_tags tags_of_view (λ v. section_are_tags v.0 v.1 v.2 v.3 v.4 v.5) views) refl) in
    ap rows_read (page_is title change reload views)
    ∙ (ap (rows_from [] None) (tags_back (head ++ (middle ++ end_tags)) are_tags)
    ∙ (skip [] head (middle ++ end_tags) (head_are_other title change reload)
    ∙ (views_back views end_tags
    ∙ (ap (λ l. flat_map (λ v. shown_table v.1 v.2) views ++ l) (ap (rows_from [] None) (sym (append-nil end_tags)) ∙ skip [] end_tags [] refl)
    ∙ append-nil (flat_map (λ v. shown_table v.1 v.2) views)))))
