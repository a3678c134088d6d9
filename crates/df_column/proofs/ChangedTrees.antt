-- The rows and types of a tree of which both sides and what stands between them are known.
use Rattle.std.proofs.Common.{◌≡◌, ℕ, ◌≤◌, List, [], ◌∷◌, ◌++◌, append-nil, append_assoc, map, drop, take, sym, ap, subst, ◌∙◌}
use Rattle.std.specs.Prelude.{T}
use Rattle.df_value.specs.declared.cell.Cell.{Cell}
use Rattle.df_value.specs.declared.cell.CellType.{CellType}
use Rattle.df_column.specs.BlockLists.{blocks_of_leaves}
use Rattle.df_column.specs.BlockRows.{AddsRows}
use Rattle.df_column.specs.Blocks.{AreOfDtypes, BlockParts, rows_of_blocks}
use Rattle.df_column.specs.Changes.{after_changes, apart}
use Rattle.df_column.specs.Tables.{entry_change}
use Rattle.df_column.specs.Tags.{tag_cmp}
use Rattle.df_column.specs.declared.entry.Entry.{Entry}
use Rattle.df_column.specs.declared.tag.Tag.{Tag}
use Rattle.df_column.proofs.SharedLemmas.{changed_between, rows_append, types_append, types_front, types_rest}

rows_parts : (a b d : List BlockParts) → rows_of_blocks (a ++ (b ++ d)) ≡ rows_of_blocks a ++ (rows_of_blocks b ++ rows_of_blocks d)
rows_parts a b d = rows_append a (b ++ d) ∙ ap (λ rs. rows_of_blocks a ++ rs) (rows_append b d)

types_parts : (dtypes : List CellType) (a b d : List BlockParts) → AreOfDtypes dtypes a → AreOfDtypes dtypes b → AreOfDtypes dtypes d → AreOfDtypes dtypes (a ++ (b ++ d))
types_parts dtypes a b d p q r = types_append dtypes a (b ++ d) p (types_append dtypes b d q r)

types_first : (dtypes : List CellType) (a b : List BlockParts) → AreOfDtypes dtypes (a ++ b) → AreOfDtypes dtypes a
types_first dtypes [] b h = tt
types_first dtypes (x ∷ a) b h = (h.0, types_first dtypes a b h.1)

types_second : (dtypes : List CellType) (a b : List BlockParts) → AreOfDtypes dtypes (a ++ b) → AreOfDtypes dtypes b
types_second dtypes [] b h = h
types_second dtypes (x ∷ a) b h = types_second dtypes a b h.1

-- parts of blocks whose columns have these types
pub record HaveTypes (dtypes : List CellType) (a b d : List BlockParts) : Type 0 where
  pub left : AreOfDtypes dtypes a
  pub middle : AreOfDtypes dtypes b
  pub right : AreOfDtypes dtypes d

pub types_cut : (dtypes : List CellType) (all a b d : List BlockParts) → all ≡ a ++ (b ++ d) → AreOfDtypes dtypes all → HaveTypes dtypes a b d
types_cut dtypes all a b d e h =
    let k : AreOfDtypes dtypes (a ++ (b ++ d)) = subst (AreOfDtypes dtypes) e h in
    let r = types_second dtypes a (b ++ d) k in
    record { left = types_first dtypes a (b ++ d) k; middle = types_first dtypes b d r; right = types_second dtypes b d r }

pub types_cut_two : (dtypes : List CellType) (all a b : List BlockParts) → all ≡ a ++ b → AreOfDtypes dtypes all → AreOfDtypes dtypes a
types_cut_two dtypes all a b e h = types_first dtypes a b (subst (AreOfDtypes dtypes) e h)

pub types_cut_rest : (dtypes : List CellType) (all a b : List BlockParts) → all ≡ a ++ b → AreOfDtypes dtypes all → AreOfDtypes dtypes b
types_cut_rest dtypes all a b e h = types_second dtypes a b (subst (AreOfDtypes dtypes) e h)

pub rows_cut : (all a b d : List BlockParts) → all ≡ a ++ (b ++ d) → rows_of_blocks all ≡ rows_of_blocks a ++ (rows_of_blocks b ++ rows_of_blocks d)
rows_cut all a b d e = ap rows_of_blocks e ∙ rows_parts a b d

-- the blocks that changes make, in the place of those that they reach
pub rows_replaced : (bs made new : List BlockParts) (low high : ℕ) (es : List Entry) → low ≤ high → T (apart tag_cmp (rows_of_blocks (take low bs)) (map entry_change es)) → T (apart tag_cmp (map entry_change es) (rows_of_blocks (drop high bs)))
    → rows_of_blocks made ≡ after_changes tag_cmp (rows_of_blocks (drop low (take high bs))) (map entry_change es) → new ≡ take low bs ++ (made ++ drop high bs)
    → rows_of_blocks new ≡ after_changes tag_cmp (rows_of_blocks bs) (map entry_change es)
rows_replaced bs made new low high es le p q rows is =
    let front = rows_of_blocks (take low bs) in
    let back = rows_of_blocks (drop high bs) in
    rows_cut new (take low bs) made (drop high bs) is ∙ ap (λ rs. front ++ (rs ++ back)) rows
    ∙ sym (append_assoc front (after_changes tag_cmp (rows_of_blocks (drop low (take high bs))) (map entry_change es)) back)
    ∙ changed_between bs low high es le p q

pub types_replaced : (dtypes : List CellType) (bs made new : List BlockParts) (low high : ℕ) → AreOfDtypes dtypes bs → AreOfDtypes dtypes made → new ≡ take low bs ++ (made ++ drop high bs) → AreOfDtypes dtypes new
types_replaced dtypes bs made new low high own others is =
    subst (AreOfDtypes dtypes) (sym is) (types_parts dtypes (take low bs) made (drop high bs) (types_front dtypes low bs own) others (types_rest dtypes high bs own))

-- the blocks of a list that gained rows, where it had none
pub only_rows : (dtypes : List CellType) (added : List (Tag × List Cell)) (none made : List BlockParts) → none ≡ [] → AddsRows dtypes added none made → rows_of_blocks made ≡ added
only_rows dtypes added none made e h = h.rows ∙ ap (λ bs. rows_of_blocks bs ++ added) e

pub only_types : (dtypes : List CellType) (added : List (Tag × List Cell)) (none made : List BlockParts) → none ≡ [] → AddsRows dtypes added none made → AreOfDtypes dtypes made
only_types dtypes added none made e h = h.types (subst (AreOfDtypes dtypes) (sym e) tt)

-- a tree of one leaf
pub only_blocks : (leaves : List (List BlockParts)) (leaf new : List BlockParts) → leaves ≡ leaf ∷ [] → leaf ≡ new → blocks_of_leaves leaves ≡ new
only_blocks leaves leaf new is e = ap blocks_of_leaves is ∙ append-nil leaf ∙ e
