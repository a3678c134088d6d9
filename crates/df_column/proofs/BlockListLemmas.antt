-- Blocks in leaves.
use Rattle.std.proofs.Common.{◌≡◌, ℕ, ◌+◌, ◌<◌, ◌≤◌, List, [], ◌∷◌, ◌++◌, length, take, drop, get_or, refl, sym, ap, ◌∙◌, arith, append_assoc, append-nil, length-append}
use Rattle.std.proofs.Math.Seq.{take-append-add}
use Rattle.std.proofs.lemmas.List.{take-append-le}
use Rattle.df_column.specs.BlockLists.{HaveRows, IsRunAt, blocks_of_leaves, rows_in}
use Rattle.df_column.specs.Blocks.{BlockParts, block_rows, rows_of_blocks}
use Rattle.df_column.proofs.ListParts.{drop_front}
use Rattle.df_column.proofs.SharedLemmas.{rows_append}
use Rattle.df_column.proofs.SpotLemmas.{block_length, get_back, get_front}

-- blocks that have rows
pub some_append : (bs cs : List BlockParts) → HaveRows bs → HaveRows cs → HaveRows (bs ++ cs)
some_append [] cs p q = q
some_append (b ∷ bs) cs p q = (p.0, some_append bs cs p.1 q)

pub few_blocks : (bs : List BlockParts) → HaveRows bs → length bs ≤ rows_in bs
few_blocks [] h = omega arith
few_blocks (b ∷ bs) h =
    let rest = few_blocks bs h.1 in
    let l = block_length b in
    let a = length-append (block_rows b) (rows_of_blocks bs) in
    omega (arith, rest, l, a, h.0)

pub rows_both : (bs cs : List BlockParts) → rows_in (bs ++ cs) ≡ rows_in bs + rows_in cs
rows_both bs cs = ap length (rows_append bs cs) ∙ length-append (rows_of_blocks bs) (rows_of_blocks cs)

-- blocks of a run that stands among others
pub part_of_run : (bs run : List BlockParts) (at place n : ℕ) → IsRunAt bs at run place → place + n ≤ length run → drop at (take (at + n) bs) ≡ drop place (take (place + n) run)
part_of_run bs run at place n h le =
    let e : at + n ≡ length h.front + (place + n) = omega (arith, h.at_is) in
    ap (λ k. drop at (take k bs)) e ∙ ap (λ cs. drop at (take (length h.front + (place + n)) cs)) h.cut
    ∙ ap (drop at) (take-append-add h.front (run ++ h.rest) (place + n)) ∙ drop_front h.front (take (place + n) (run ++ h.rest)) at place h.at_is
    ∙ ap (drop place) (take-append-le (place + n) run h.rest le)

-- leaves one behind the other
pub leaves_append : (ls ms : List (List BlockParts)) → blocks_of_leaves (ls ++ ms) ≡ blocks_of_leaves ls ++ blocks_of_leaves ms
leaves_append [] ms = refl
leaves_append (l ∷ ls) ms = ap (λ bs. l ++ bs) (leaves_append ls ms) ∙ sym (append_assoc l _ _)

pub leaf_behind : (ls : List (List BlockParts)) (l : List BlockParts) → blocks_of_leaves (ls ++ l ∷ []) ≡ blocks_of_leaves ls ++ l
leaf_behind ls l = leaves_append ls (l ∷ []) ∙ ap (λ bs. blocks_of_leaves ls ++ bs) (append-nil l)

pub get_between : (bs front part rest : List BlockParts) (at i : ℕ) (d : BlockParts) → bs ≡ front ++ (part ++ rest) → at ≡ length front + i → i < length part → get_or part i d ≡ get_or bs at d
get_between bs front part rest at i d e a lt =
    sym (ap (λ cs. get_or cs at d) e ∙ get_back front (part ++ rest) at i d a ∙ get_front part rest i d lt)
