-- The keys of rows are keys of rows, and further rows put further keys after them.
use Rattle.std.proofs.Common.{◌≡◌, ℕ, ◌∙◌, Bool, true, false, cond, zero, suc, List, [], ◌∷◌, ◌++◌, length, take, map, refl, ap, sym, arith, append_assoc, append-nil, Option, All, Contains}
use Rattle.std.specs.List.{list_any, AllByRecursion}
use Rattle.std.proofs.Math.Seq.{take-append_seam}
use Rattle.std.proofs.lemmas.List.{map-append}
use Rattle.std.proofs.lemmas.List.Elements.{All-contains_itself}
use Rattle.df_value.specs.declared.cell.Cell.{Cell}
use Rattle.df_value.specs.Choices.{either}
use Rattle.df_value.specs.Rows.{row_eq}
use Rattle.df_ops.specs.Groups.{distinct_after, keys_of, key_of, KeysStandFirst}

abbrev Rows : Type 0
Rows = List (List Cell)

pub same_choice : {X Y : Type 0} (f : X → Y) (b : Bool) (x : X) (y : X) (v w : Y) → v ≡ f x → w ≡ f y → cond b v w ≡ f (cond b x y)
same_choice f true x y v w e h = e
same_choice f false x y v w e h = h

distinct-append : (seen xs ys : Rows) → distinct_after seen (xs ++ ys) ≡ distinct_after (distinct_after seen xs) ys
distinct-append seen [] ys = refl
distinct-append seen (x ∷ xs) ys =
    same_choice (λ (s : Rows). distinct_after s ys) (list_any (row_eq x) seen) _ _ _ _
    (distinct-append seen xs ys) (distinct-append (seen ++ x ∷ []) xs ys)

-- those seen stand first
abbrev Begins : Rows → Rows → Type 0
Begins seen keys = (new : Rows) × (keys ≡ seen ++ new)

begins : (seen rs : Rows) → Begins seen (distinct_after seen rs)
begins seen [] = ([], sym (append-nil seen))
begins seen (r ∷ rs) =
    let pushed = begins (seen ++ r ∷ []) rs in
    either (Begins seen) (list_any (row_eq r) seen) _ _ (begins seen rs)
    (r ∷ pushed.0, pushed.1 ∙ append_assoc seen (r ∷ []) pushed.0)

first_of : (seen keys : Rows) → Begins seen keys → take (length seen) keys ≡ seen
first_of seen keys h = ap (take (length seen)) h.1 ∙ take-append_seam seen h.0

pub stand_first : (indices : List (Option ℕ)) (rows : Rows) → KeysStandFirst indices rows (keys_of indices rows)
stand_first indices rows more =
    let keys = keys_of indices rows in
    let all : keys_of indices (rows ++ more) ≡ distinct_after keys (map (key_of indices) more) =
    ap (distinct_after []) (map-append (key_of indices) rows more) ∙ distinct-append [] (map (key_of indices) rows) (map (key_of indices) more) in
    ap (take (length keys)) all ∙ first_of keys _ (begins keys (map (key_of indices) more))

all_pushed : (P : List Cell → Type 0) (xs : Rows) (y : List Cell) → All P xs → P y → All P (xs ++ y ∷ [])
all_pushed P [] y h k zero d l = k
all_pushed P [] y h k (suc i) d l = absurd (omega arith)
all_pushed P (x ∷ xs) y h k zero d l = h 0 d (omega arith)
all_pushed P (x ∷ xs) y h k (suc i) d l = all_pushed P xs y (λ j d l. h (suc j) d (omega arith)) k i d (omega arith)

all_distinct : (P : List Cell → Type 0) (seen rs : Rows) → All P seen → All P rs → All P (distinct_after seen rs)
all_distinct P seen [] h k = h
all_distinct P seen (r ∷ rs) h k =
    let rest : All P rs = λ j d l. k (suc j) d (omega arith) in
    either (All P) (list_any (row_eq r) seen) _ _
    (all_distinct P seen rs h rest) (all_distinct P (seen ++ r ∷ []) rs (all_pushed P seen r h (k 0 r (omega arith))) rest)

pub of_a_row : (indices : List (Option ℕ)) (rows : Rows) → All (Contains (map (key_of indices) rows)) (keys_of indices rows)
of_a_row indices rows =
    let keys = map (key_of indices) rows in
    all_distinct (Contains keys) [] keys (λ k d l. absurd (omega arith)) (All-contains_itself keys)
