use Rattle.std.proofs.Common.{◌≡◌, ◌∙◌, ◌++◌, List, ℕ, ap, codes, decimal, flat_map, get_or, rules, take}
use Rattle.std.proofs.lemmas.List.{flat_map_more, take_more}
use Rattle.df_session.proofs.telling.push_numbers.Goals as goal

pub loop-number-preserved : goal.loop-number-preserved
loop-number-preserved c =
    let ns = c.args.numbers.now in
    let i = c.loop-number.number-index in
    let head = c.args.text.now.items ++ codes "numbers" in
    let word : c.as_bytes.result.now ≡ codes " " ++ decimal (get_or ns i 0) = search (rules, c.as_bytes.ensures.value, c.in_ok-word.ensures.ok) in
    rw (take_more ns i 0 c.loop-number-test.true)
    (c.in_ok-extend_from_slice-2.ensures.items
    ∙ (ap (λ (t : List ℕ). t ++ c.as_bytes.result.now) c.loop-number.invariant
    ∙ (ap (λ (w : List ℕ). (head ++ flat_map (λ n. codes " " ++ decimal n) (take i ns)) ++ w) word ∙ flat_map_more (λ n. codes " " ++ decimal n) head (take i ns) (get_or ns i 0))))
