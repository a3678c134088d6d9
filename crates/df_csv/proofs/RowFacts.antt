-- The rows of a file, one record at a time.
use Rattle.std.proofs.Common.{◌≡◌, ◌≢◌, ◌+◌, ◌<◌, ◌≤◌, ℕ, true, false, List, [], ◌∷◌, ◌++◌, length, Result, Ok, Err, refl, sym, ap, arith, append_assoc, eq-eqb, nat_eq, nat_lt}
use Rattle.std.proofs.lemmas.Bool.{ne_eqb, lt-ltb}
use Rattle.std.proofs.lemmas.List.{append-nil}
use Rattle.std.proofs.lemmas.Bool.Decides.{nat_tests}
use Rattle.df_csv.specs.Records.{FieldRows, after_rows, fields_at, checked_records}
use Rattle.df_csv.specs.declared.fault.CsvFault.{CsvFault}
use Rattle.df_csv.specs.declared.fault.CsvFault.TheVariants.{BadRecord, TooManyRecords}

pub after_after : (xs ys : FieldRows) (o : Result FieldRows CsvFault) → after_rows xs (after_rows ys o) ≡ after_rows (xs ++ ys) o
after_after xs ys (Ok zs) = ap Ok (sym (append_assoc xs ys zs))
after_after xs ys (Err e) = refl

pub none_more : (w : ℕ) (ps : List ℕ) (n : ℕ) (xs rows all : FieldRows) → checked_records w ps 1 all ≡ after_rows xs (checked_records w ps n rows) → rows ≡ [] → checked_records w ps 1 all ≡ Ok xs
unfolding checked_records
none_more w ps n xs rows all e none = rw (e, none) (ap Ok (append-nil xs))

pub unlike_next : (w : ℕ) (ps : List ℕ) (n : ℕ) (xs rows rest all : FieldRows) (r : List (List ℕ)) → checked_records w ps 1 all ≡ after_rows xs (checked_records w ps n rows) → rows ≡ r ∷ rest → length r ≢ w
    → checked_records w ps 1 all ≡ Err (BadRecord n)
unfolding checked_records
unlike_next w ps n xs rows rest all r e next unlike =
    let t : nat_eq (length r) w ≡ false = ne_eqb (length r) w unlike in
    rw (e, next, t) refl

pub too_many : (w : ℕ) (ps : List ℕ) (n : ℕ) (xs rows rest all : FieldRows) (r : List (List ℕ)) → checked_records w ps 1 all ≡ after_rows xs (checked_records w ps n rows) → rows ≡ r ∷ rest → w ≡ length r → 1048576 < n
    → checked_records w ps 1 all ≡ Err TooManyRecords
unfolding checked_records
too_many w ps n xs rows rest all r e next width many =
    let t : nat_eq (length r) w ≡ true = eq-eqb (length r) w (sym width) in
    let u : nat_lt 1048576 n ≡ true = lt-ltb 1048576 n many in
    rw (e, next, t, u) refl

pub one_more : (w : ℕ) (ps : List ℕ) (n : ℕ) (xs rows rest all : FieldRows) (r : List (List ℕ)) → checked_records w ps 1 all ≡ after_rows xs (checked_records w ps n rows) → rows ≡ r ∷ rest → w ≡ length r → n ≤ 1048576
    → checked_records w ps 1 all ≡ after_rows (xs ++ (fields_at ps r ∷ [])) (checked_records w ps (n + 1) rest)
unfolding checked_records
one_more w ps n xs rows rest all r e next width few =
    let t : nat_eq (length r) w ≡ true = eq-eqb (length r) w (sym width) in
    let u : nat_lt 1048576 n ≡ false = grind (arith, nat_tests) in
    rw (e, next, t, u) (after_after xs (fields_at ps r ∷ []) (checked_records w ps (n + 1) rest))
