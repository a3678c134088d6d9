-- Keys of rows that stand in the rows: their cells, when two are the same, and what a hasher is fed of one.
use Rattle.std.specs.Prelude.{◌≡◌, Bool, IsTrue, List, Option, unwrap_or}
use Rattle.std.proofs.Common.{ap}
use Rattle.std.specs.Cmp.{IsEquivalence, IsPartialEquivalence, on_equiv, partial_equiv_from_equiv}
use Rattle.std.specs.Hash.{HashWrites}
use Rattle.df_value.specs.Rows.{row_eq}
use Rattle.df_value.specs.RowEq.{row_eq-Decides, row_eq-equivalence}
use Rattle.df_value.specs.contracts.cell.CellHash.TheImpl as cell_hash
use Rattle.df_value.specs.contracts.row.RowHash.TheImpl as row_hash
use Rattle.df_value.specs.declared.cell.Cell.{Cell}
use Rattle.df_value.specs.declared.cell.Cell.TheVariants as cells
use Rattle.df_ops.specs.Groups.{key_of}
use Rattle.df_delta.specs.declared.row_key.RowKey.{RowKey}

-- the cell, or null where there is none
abbrev pub cell_or_null : Option Cell → Cell
cell_or_null cell = unwrap_or cell cells.Null

-- the cells of the key
abbrev pub key_cells : RowKey → List Cell
key_cells k = key_of k.indices.now k.row.now

-- what a hasher is fed of a cell
abbrev pub cell_writes : Cell → HashWrites
cell_writes c = cell_hash.ghosts.hash_input c

-- what a hasher is fed of a row
abbrev pub row_writes : List Cell → HashWrites
row_writes row = row_hash.ghosts.hash_input row

-- whether two keys have the same cells
abbrev pub key_eq : RowKey → RowKey → Bool
key_eq a b = row_eq (key_cells a) (key_cells b)

pub key_eq-equivalence : IsEquivalence key_eq
key_eq-equivalence = on_equiv key_cells row_eq-equivalence

pub key_eq-partial : IsPartialEquivalence key_eq
key_eq-partial = partial_equiv_from_equiv key_eq-equivalence

-- of equal rows a hasher is fed the same
pub fed_alike : (a b : List Cell) → IsTrue (row_eq a b) → row_writes a ≡ row_writes b
fed_alike a b same = ap row_writes ((row_eq-Decides a b).0 same)
