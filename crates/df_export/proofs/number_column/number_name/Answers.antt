use Rattle.std.proofs.Common.{◌≡◌, ◌++◌, ◌+◌, ◌-◌, ◌<◌, ℕ, suc, List, length, codes, sym, true, false, arith}
use Rattle.std.specs.List.{list_any}
use Rattle.std.specs.Str.{bytes_eq}
use Rattle.df_value.specs.Schemas.{Columns}
use Rattle.df_export.specs.Numbered.{free_name}
use Rattle.df_export.proofs.number_column.number_name.Goals as goal

found :
    (columns : Columns) (name all : List ℕ) (i : ℕ) → i < length columns →
    ((left : ℕ) → i + left ≡ length columns → free_name left columns name ≡ all) → list_any (λ c. bytes_eq c.0 name) columns ≡ false → name ≡ all
unfolding free_name
found columns name all i h inv none = rw none at (inv (suc (length columns - (i + 1))) (omega arith))

turn :
    (columns : Columns) (name all : List ℕ) (i : ℕ) →
    ((left : ℕ) → i + left ≡ length columns → free_name left columns name ≡ all) → list_any (λ c. bytes_eq c.0 name) columns ≡ true →
    (left : ℕ) → (i + 1) + left ≡ length columns → free_name left columns (name ++ codes "_") ≡ all
unfolding free_name
turn columns name all i inv taken left h = rw taken at (inv (suc left) (omega arith))

over : (columns : Columns) (name all : List ℕ) (i : ℕ) → i ≡ length columns → ((left : ℕ) → i + left ≡ length columns → free_name left columns name ≡ all) → name ≡ all
unfolding free_name
over columns name all i h inv = inv 0 (omega arith)

pub returns-then-not-is_name_of : goal.returns-then-not-is_name_of
returns-then-not-is_name_of c =
    found c.args.columns.now _ _ c.loop.counter c.loop-test.true c.loop.invariant (rw c.as_str.ensures.value at (sym c.if-not-is_name_of.ensures))

pub loop-preserved : goal.loop-preserved
unfolding lib.Utf8.encode
loop-preserved c = λ left h.
    rw c.in_ok-push.ensures.bytes (turn c.args.columns.now _ _ c.loop.counter c.loop.invariant (rw c.as_str.ensures.value at (sym c.if-not-is_name_of.ensures)) left h)

pub returns : goal.returns
returns c = over c.args.columns.now _ _ c.loop.counter (omega arith) c.loop.invariant
