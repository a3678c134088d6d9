-- The blocks of a node of a tree of leaves after changes, from those of both sides.
use Rattle.std.proofs.Common.{◌≡◌, ℕ, ◌+◌, ◌≤◌, ◌^◌, List, [], ◌++◌, length, map, take, drop, sym, ap, subst, ◌∙◌, arith, length-drop, length-take}
use Rattle.std.proofs.lemmas.List.{length-map}
use Rattle.std.specs.Prelude.{T}
use Rattle.std.proofs.Math.Seq.{drop-length}
use Rattle.std.specs.FinMap.{is_sorted}
use Rattle.std.specs.FinMap.Entries.{below_all}
use Rattle.std.specs.List.{prefix_len}
use Rattle.std.specs.Ordering.{is_lt}
use Rattle.df_value.specs.declared.cell.CellType.{CellType}
use Rattle.df_column.specs.BlockLists.{rows_in}
use Rattle.df_column.specs.Blocks.{AreOfDtypes, BlockParts, rows_of_blocks}
use Rattle.df_column.specs.Changes.{IsHead, after_changes, all_from, all_under, apart}
use Rattle.df_column.specs.Tables.{AreRising, entry_change}
use Rattle.df_column.specs.Tags.{tag_cmp}
use Rattle.df_column.specs.TreeChanges.{AreChangedBetween, AreChangedFrom}
use Rattle.df_column.specs.declared.entry.Entry.{Entry}
use Rattle.df_column.specs.declared.tag.Tag.{Tag}
use Rattle.df_column.proofs.ChangedParts.{apart_back, apart_both, apart_front, apart_nothing, before_all, behind_all, length_changed, rows_all, taken_again, within_all}
use Rattle.df_column.proofs.ChangedTrees.{rows_cut}
use Rattle.df_column.proofs.ChangeRuns.{after_changes-left}
use Rattle.df_column.proofs.SharedLemmas.{rows_append, types_append}
use Rattle.df_column.proofs.TableChanges.{from_dropped, halves, under_taken}
use Rattle.df_column.specs.TagOrder.{tag_total}

-- no leaves, which no entry changes
pub no_leaves : (dtypes : List CellType) (all : List BlockParts) (es : List Entry) → all ≡ [] → AreChangedFrom dtypes all es [] (length es)
no_leaves dtypes all es none =
    let gone : drop (length es) es ≡ [] = drop-length es in
    record {
      within = omega arith;
      before = subst (λ bs. T (apart tag_cmp (map entry_change (take (length es) es)) (rows_of_blocks bs))) (sym none) (apart_nothing (map entry_change (take (length es) es)));
      behind = λ t h. subst (λ es. T (below_all tag_cmp t (map entry_change es))) (sym gone) tt;
      rows = sym (ap (λ es. after_changes tag_cmp (rows_of_blocks all) (map entry_change es)) gone ∙ ap rows_of_blocks none);
      types = tt;
    }

-- few rows stay few
pub few_changed : (dtypes : List CellType) (old new : List BlockParts) (es : List Entry) (from : ℕ) → AreChangedFrom dtypes old es new from → rows_in old + length es ≤ 2 ^ 60 → rows_in new ≤ 2 ^ 60
few_changed dtypes old new es from h few =
    let n = length_changed (rows_of_blocks old) (map entry_change (drop from es)) in
    let m = length-map (drop from es) entry_change in
    let d = length-drop from es in
    let e = ap length h.rows in
    omega (arith, n, m, d, e, few)

-- blocks of which the first ones are changed, by entries before the others
pub list_changed : (dtypes : List CellType) (all a b : List BlockParts) (es : List Entry) (n u : ℕ) (na nb new : List BlockParts) → all ≡ a ++ b → n ≤ length es → T (apart tag_cmp (map entry_change (take n es)) (rows_of_blocks b))
    → AreChangedFrom dtypes a (take n es) na u → nb ≡ b → new ≡ na ++ nb → AreOfDtypes dtypes b → AreChangedBetween dtypes all es new u n
list_changed dtypes all a b es n u na nb new cut within behind h same made types =
    let taken = length-take n es in
    let less : u ≤ n = let w = h.within in omega (arith, taken, w) in
    let parts : map entry_change (take n es) ≡ map entry_change (take u (take n es)) ++ map entry_change (drop u (take n es)) = sym (halves u (take n es)) in
    let both = subst (λ cs. T (apart tag_cmp cs (rows_of_blocks b))) parts behind in
    let whole : rows_of_blocks all ≡ rows_of_blocks a ++ rows_of_blocks b = ap rows_of_blocks cut ∙ rows_append a b in
    let is : new ≡ na ++ b = made ∙ ap (λ bs. na ++ bs) same in
    record {
      ordered = less;
      within = within;
      before = subst (λ rs. T (apart tag_cmp (map entry_change (take u es)) rs)) (sym whole)
          (subst (λ es. T (apart tag_cmp (map entry_change es) (rows_of_blocks a ++ rows_of_blocks b))) (taken_again u n es less)
          (apart_both (map entry_change (take u (take n es))) (rows_of_blocks a) (rows_of_blocks b) h.before (apart_front (map entry_change (take u (take n es))) (map entry_change (drop u (take n es))) (rows_of_blocks b) both)));
      rows = ap rows_of_blocks is ∙ rows_append na b
          ∙ ap (λ rs. rs ++ rows_of_blocks b) h.rows
          ∙ sym (after_changes-left tag_total (rows_of_blocks a) (rows_of_blocks b) (map entry_change (drop u (take n es))) (apart_back (map entry_change (take u (take n es))) (map entry_change (drop u (take n es))) (rows_of_blocks b) both))
          ∙ ap (λ rs. after_changes tag_cmp rs (map entry_change (drop u (take n es)))) (sym whole);
      types = subst (AreOfDtypes dtypes) (sym is) (types_append dtypes na b h.types types);
    }

module _ (dtypes : List CellType) (all a b d : List BlockParts) (cut : all ≡ a ++ (b ++ d)) (k : Tag) (es : List Entry) (n u : ℕ) (na : List BlockParts)
    (sorted : T (is_sorted tag_cmp (rows_of_blocks all))) (head : IsHead (rows_of_blocks b) k) (rising : AreRising es) (count : n ≡ prefix_len (λ e. is_lt (tag_cmp e.tag k)) es) (left : AreChangedFrom dtypes a (take n es) na u) where
  whole : rows_of_blocks all ≡ rows_of_blocks a ++ (rows_of_blocks b ++ rows_of_blocks d)
  whole = rows_cut all a b d cut

  sorted_parts : T (is_sorted tag_cmp (rows_of_blocks a ++ (rows_of_blocks b ++ rows_of_blocks d)))
  sorted_parts = subst (λ rs. T (is_sorted tag_cmp rs)) whole sorted

  under : T (all_under tag_cmp k (map entry_change (take n es)))
  under = subst (λ m. T (all_under tag_cmp k (map entry_change (take m es)))) (sym count) (under_taken k es)

  from : T (all_from tag_cmp k (map entry_change (drop n es)))
  from = subst (λ m. T (all_from tag_cmp k (map entry_change (drop m es)))) (sym count) (from_dropped k es rising)

  before : (w : ℕ) → T (apart tag_cmp (map entry_change (take u es)) (rows_of_blocks all))
  before w =
      subst (λ rs. T (apart tag_cmp (map entry_change (take u es)) rs)) (sym whole)
      (before_all (rows_of_blocks a) (rows_of_blocks b) (rows_of_blocks d) k es n u w sorted_parts head rising under from left.within left.before)

  pub node_changed : (w : ℕ) (nd new : List BlockParts) → AreChangedFrom dtypes d (drop n es) nd w
      → rows_of_blocks new ≡ rows_of_blocks na ++ (after_changes tag_cmp (rows_of_blocks b) (map entry_change (take w (drop n es))) ++ rows_of_blocks nd) → AreOfDtypes dtypes new → AreChangedFrom dtypes all es new u
  node_changed w nd new right made types =
      let l = rows_of_blocks a in
      let m = rows_of_blocks b in
      let r = rows_of_blocks d in
      record {
        within = within_all l m r k es n u w sorted_parts head rising under from left.within left.before;
        before = before w;
        behind = λ t h. behind_all l m r k es n u w sorted_parts head rising under from left.within left.before left.behind t (subst (λ rs. T (below_all tag_cmp t rs)) whole h);
        rows = made
            ∙ ap (λ rs. rs ++ (after_changes tag_cmp m (map entry_change (take w (drop n es))) ++ rows_of_blocks nd)) left.rows
            ∙ ap (λ rs. after_changes tag_cmp l (map entry_change (drop u (take n es))) ++ (after_changes tag_cmp m (map entry_change (take w (drop n es))) ++ rs)) right.rows
            ∙ rows_all l m r k es n u w sorted_parts head rising under from left.within left.before right.before right.behind
            ∙ ap (λ rs. after_changes tag_cmp rs (map entry_change (drop u es))) (sym whole);
        types = types;
      }
