use Rattle.std.proofs.Common.{◌≡◌, ◌∙◌, ◌++◌, ap, arith, drop, subst, sym, take}
use Rattle.df_column.specs.Blocks.{AreOfDtypes, rows_of_blocks}
use Rattle.df_column.proofs.ListParts.{all_taken}
use Rattle.df_column.proofs.SharedLemmas.{joined_between, types_append, types_front, types_rest}
use Rattle.df_column.proofs.sharing.joined_blocks.Goals as goal

-- the list that is given
parts : (c : goal.In_ok-list) → c.in_ok-list.list ≡ (take c.in-Some.at c.args.blocks.now ++ c.args.made.now) ++ drop c.in-Some.at c.args.blocks.now
parts c =
    let bs = c.args.blocks.now in
    let made = c.args.made.now in
    let at = c.in-Some.at in
    c.in_ok-list.ensures
    ∙ ap (λ l. l ++ drop at (take c.len-2.result bs))
    (c.in_ok-joined.ensures
    ∙ ap (λ l. l ++ take c.len.result made) (c.in_ok-before.ensures ∙ ap (λ l. l ++ take at bs) c.new.ensures)
    ∙ ap (λ l. take at bs ++ l) (all_taken made c.len.result (omega (arith, c.len.ensures))))
    ∙ ap (λ l. (take at bs ++ made) ++ drop at l) (all_taken bs c.len-2.result (omega (arith, c.len-2.ensures)))

pub returns-clause-rows : goal.returns-clause-rows
returns-clause-rows c =
    ap rows_of_blocks (parts c)
    ∙ joined_between c.args.blocks.now c.args.made.now c.in-Some.at c.args.entries.now c.in-Some.ensures.before c.in-Some.ensures.behind c.requires.made

pub returns-clause-types : goal.returns-clause-types
returns-clause-types c dtypes p q =
    let bs = c.args.blocks.now in
    let at = c.in-Some.at in
    subst (AreOfDtypes dtypes) (sym (parts c))
    (types_append dtypes (take at bs ++ c.args.made.now) (drop at bs)
    (types_append dtypes (take at bs) c.args.made.now (types_front dtypes at bs p) q)
    (types_rest dtypes at bs p))
