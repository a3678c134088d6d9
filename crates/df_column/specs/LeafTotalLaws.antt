-- The laws of what is counted in leaves: it is summed up in any order, and once a test of it passes it passes with more.
use Rattle.std.proofs.Common.{◌≡◌, ℕ, ◌+◌, true, nat_lt, refl, ap, ◌∙◌, arith}
use Rattle.std.proofs.lemmas.Bool.{lt-ltb, ltb-true}
use Rattle.df_tree.specs.Laws.{MonoidLaws}
use Rattle.df_column.specs.LeafTotals.{both_totals, capped, no_totals}
use Rattle.df_column.specs.declared.leaf_totals.MoreBlocks.{MoreBlocks}
use Rattle.df_column.specs.declared.leaf_totals.MoreRows.{MoreRows}
use Rattle.df_column.specs.declared.leaf_totals.Totals.{Totals}

capped_twice : (m : ℕ) → capped (0 + capped m) ≡ capped m
capped_twice m = omega arith

capped_again : (m : ℕ) → capped (capped m + 0) ≡ capped m
capped_again m = omega arith

capped_three : (a b c : ℕ) → capped (capped (a + b) + c) ≡ capped (a + capped (b + c))
capped_three a b c = omega arith

abbrev pub totals_at : ℕ → ℕ → Totals
totals_at blocks rows = record { blocks = blocks; rows = rows }

pub same_totals : (a b x y : ℕ) → a ≡ x → b ≡ y → totals_at a b ≡ totals_at x y
same_totals a b x y p q = ap (λ a. totals_at a b) p ∙ ap (totals_at x) q

more_stays : (n a b : ℕ) → nat_lt n (capped a) ≡ true → nat_lt n (capped (capped (a + b))) ≡ true
more_stays n a b h = let lt = ltb-true n (capped a) h in lt-ltb n (capped (capped (a + b))) (omega (arith, lt))

pub blocks_stay : (t : MoreBlocks) (x y : Totals) → nat_lt t.0 (capped x.blocks) ≡ true → nat_lt t.0 (capped (both_totals x y).blocks) ≡ true
blocks_stay t x y h = more_stays t.0 x.blocks y.blocks h

pub rows_stay : (t : MoreRows) (x y : Totals) → nat_lt t.0 (capped x.rows) ≡ true → nat_lt t.0 (capped (both_totals x y).rows) ≡ true
rows_stay t x y h = more_stays t.0 x.rows y.rows h

pub totals_laws : MonoidLaws no_totals both_totals
totals_laws = record {
  nothing = refl;
  left = λ x y. same_totals _ _ _ _ (capped_twice (x.blocks + y.blocks)) (capped_twice (x.rows + y.rows));
  right = λ x y. same_totals _ _ _ _ (capped_again (x.blocks + y.blocks)) (capped_again (x.rows + y.rows));
  associative = λ x y z. same_totals _ _ _ _ (capped_three x.blocks y.blocks z.blocks) (capped_three x.rows y.rows z.rows);
}
