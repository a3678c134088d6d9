-- What an operator over the rows up to each row gives at a tag, and where it gives the same of two inputs.
use Rattle.std.proofs.Common.{◌≡◌, ℕ, ◌+◌, not, List, [], length, map, take, get_or, Option, Some, None, sym, ap, ◌∙◌}
use Rattle.std.specs.Prelude.{T}
use Rattle.std.specs.Option.{option_and_then}
use Rattle.std.specs.FinMap as finite
use Rattle.std.proofs.lemmas.List.{get_or-map, nil_from_length, take-map}
use Rattle.df_value.specs.declared.cell.Cell.{Cell}
use Rattle.df_value.specs.Rows.{cell_at}
use Rattle.df_ops.specs.Aggregates.{cells_of}
use Rattle.df_column.specs.Bounds.{is_below}
use Rattle.df_column.specs.Places.{IsPlace}
use Rattle.df_column.specs.TagOrder.{tag_same}
use Rattle.df_column.specs.Tables.{TaggedRows}
use Rattle.df_column.specs.Tags.{tag_cmp}
use Rattle.df_column.specs.declared.tag.Tag.{Tag}
use Rattle.df_column.proofs.Bounds.{upper_at_place}
use Rattle.df_column.proofs.ReadLemmas.{row_found}
use Rattle.df_delta.specs.Collected.{collected_list}
use Rattle.df_delta.proofs.Collected.{entries-collected, get-collected}
use Rattle.df_nodes.specs.Prefixes.{cells_up_to, with_each_prefix}
use Rattle.df_nodes.proofs.Bounds.{up_to_bound}
use Rattle.df_nodes.proofs.TagTests.{not_below_itself}
use Rattle.df_nodes.proofs.UpTo.{same_where}

module _ (put : List Cell → Cell → List Cell) (f : List Cell → Cell) (index : Option ℕ) where
  abbrev value : TaggedRows → Tag → List Cell → Option (List Cell)
  value m q row = Some (put row (f (cells_up_to index m q)))

  from_cells : (m : TaggedRows) (q : Tag) → finite.get (with_each_prefix put f index m) q ≡ option_and_then (value m q) (finite.get m q)
  from_cells m q = get-collected tag_cmp (value m) tag_same m q

  -- the row at the tag of an index
  pub at_place : (u : TaggedRows) (at : ℕ) (q : Tag) → IsPlace tag_cmp (finite.entries u) q at
      → finite.get (with_each_prefix put f index u) q ≡ Some (put (get_or (finite.values u) at []) (f (cells_of index (take (at + 1) (finite.values u)))))
  at_place u at q p =
      let es = finite.entries u in
      let d : Tag × List Cell = (record { first = 0; second = 0; third = 0 }, []) in
      from_cells u q
      ∙ ap (option_and_then (value u q)) (row_found u q at p d)
      ∙ ap (value u q) (sym (get_or-map (λ x. x.1) es at d [] p.in_range))
      ∙ ap (λ rows. Some (put (get_or (finite.values u) at []) (f (cells_of index rows))))
      (ap (map (λ x. x.1)) (up_to_bound q es (at + 1) (upper_at_place es q at (finite.entries_sorted u) p)) ∙ sym (take-map (λ x. x.1) (at + 1) es))

  -- where there is no row, none is given
  pub no_row : (u : TaggedRows) (q : Tag) → finite.get u q ≡ None → finite.get (with_each_prefix put f index u) q ≡ None
  no_row u q none = from_cells u q ∙ ap (option_and_then (value u q)) none

  -- over no rows there is none
  pub over_none : ◌≡◌ {A = TaggedRows} (with_each_prefix put f index finite.empty) finite.empty
  over_none =
      let none : finite.entries (finite.empty {X = List Cell} {R = tag_cmp}) ≡ [] = nil_from_length _ (sym (finite.len-entries (finite.empty {X = List Cell} {R = tag_cmp})) ∙ finite.len-empty tag_cmp (List Cell)) in
      let all = with_each_prefix put f index finite.empty in
      finite.empty_of_len all (finite.len-entries all ∙ ap length (entries-collected tag_cmp (value finite.empty) finite.empty ∙ ap (collected_list (value finite.empty)) none))

  module _ (t u : TaggedRows) where
    abbrev pub SameAt : Tag → Type 0
    SameAt q = finite.get (with_each_prefix put f index t) q ≡ finite.get (with_each_prefix put f index u) q

    pub none_at : (q : Tag) → finite.get t q ≡ None → finite.get u q ≡ None → SameAt q
    none_at q a b = no_row t q a ∙ sym (no_row u q b)

    pub value_at : (q : Tag) → finite.get t q ≡ finite.get u q → f (cells_up_to index t q) ≡ f (cells_up_to index u q) → SameAt q
    value_at q a b =
        from_cells t q
        ∙ ap (λ c. option_and_then (λ row. Some (put row c)) (finite.get t q)) b
        ∙ ap (option_and_then (value u q)) a
        ∙ sym (from_cells u q)

    -- where nothing up to a tag changed
    pub same_before : (q : Tag) → ((x : Tag) → T (not (is_below q x)) → finite.get t x ≡ finite.get u x) → SameAt q
    same_before q same =
        value_at q (same q (not_below_itself q)) (ap (λ rows. f (map (cell_at index) (map (λ x. x.1) rows))) (same_where t u (λ x. not (is_below q x)) same))
