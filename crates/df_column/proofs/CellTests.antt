-- Tests of cells: null, and above a value.
use Rattle.std.proofs.Common.{◌≡◌, ℕ, Bool, true, false, List, Some, None, refl, sym, ap, ◌∙◌, not}
use Rattle.std.specs.Prelude.{Option, ◌&&◌}
use Rattle.std.specs.Option.{is_some}
use Rattle.std.specs.Ordering.{is_lt, is_gt, ordering_reverse}
use Rattle.std.specs.declared.cmp.Ordering.{Ordering}
use Rattle.std.specs.declared.cmp.Ordering.TheVariants.{Less, Equal, Greater}
use Rattle.df_value.specs.CellOrder.{cell_cmp, cell_cmp_total}
use Rattle.df_value.specs.declared.cell.Cell.{Cell}
use Rattle.df_value.specs.declared.cell.Cell.TheVariants.{Null, Int, Wide, Text, Frac}
use Rattle.df_value.specs.declared.cell.Cell.TheVariants as cell
use Rattle.df_column.specs.MinMaxCells.{is_above, is_null}
use Rattle.df_column.specs.Texts.{pool_text}
use Rattle.df_column.specs.ValueCells.{text_cell}

pub null_place : (pool : List (List ℕ)) (p : Option ℕ) (b : Bool) → is_some p ≡ not b → b ≡ is_null (text_cell (pool_text pool p))
null_place pool None true h = refl
null_place pool None false h = cc
null_place pool (Some p) true h = cc
null_place pool (Some p) false h = refl

reversed : (o : Ordering) → is_gt (ordering_reverse o) ≡ is_lt o
reversed Less = refl
reversed Equal = refl
reversed Greater = refl

pub above_below : (value c : Cell) → is_gt (cell_cmp c value) ≡ is_lt (cell_cmp value c)
above_below value c = ap is_gt (cell_cmp_total.antisymm c value) ∙ reversed (cell_cmp value c)

pub above_is : (value c : Cell) → is_null c ≡ false → is_gt (cell_cmp c value) ≡ is_above value c
above_is value c h =
    above_below value c
    ∙ sym (ap (λ n. not n && is_lt (cell_cmp value c)) h)

-- the cell of a value is not null
pub null_value : {X : Type 0} (cell_of : Option X → Cell) → cell_of None ≡ Null → ((v : X) → is_null (cell_of (Some v)) ≡ false) → (o : Option X) (b : Bool) → is_some o ≡ not b → b ≡ is_null (cell_of o)
null_value cell_of null some None true h = sym (ap is_null null)
null_value cell_of null some None false h = cc
null_value cell_of null some (Some v) true h = cc
null_value cell_of null some (Some v) false h = sym (some v)

pub value_there : {X : Type 0} (cell_of : Option X → Cell) → ((v : X) → is_null (cell_of (Some v)) ≡ false) → (o : Option X) (v : X) → o ≡ Some v → is_null (cell_of o) ≡ false
value_there cell_of some o v is = ap (λ o. is_null (cell_of o)) is ∙ some v

-- null stands before all other cells
before : (d : Cell) → is_null d ≡ false → cell_cmp Null d ≡ Less
before Null h = cc
before (Int n) h = refl
before (Wide n) h = refl
before (Text t) h = refl
before (cell.Bool b) h = refl
before (Frac f) h = refl

behind : (c : Cell) → is_null c ≡ false → cell_cmp c Null ≡ Greater
behind Null h = cc
behind (Int n) h = refl
behind (Wide n) h = refl
behind (Text t) h = refl
behind (cell.Bool b) h = refl
behind (Frac f) h = refl

pub null_first : (c d : Cell) → c ≡ Null → is_null d ≡ false → cell_cmp c d ≡ Less
null_first c d e h = ap (λ c. cell_cmp c d) e ∙ before d h

pub null_behind : (c d : Cell) → is_null c ≡ false → d ≡ Null → cell_cmp c d ≡ Greater
null_behind c d h e = ap (cell_cmp c) e ∙ behind c h
