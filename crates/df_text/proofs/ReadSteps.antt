-- One more turn of a loop that reads the values of a list, and the loop's ends.
use Rattle.std.proofs.Common.{◌≡◌, ℕ, ◌+◌, ◌<◌, ◌≤◌, ◌∙◌, List, [], ◌∷◌, ◌++◌, length, get_or, map, drop, Result, Ok, ap, sym}
use Rattle.std.proofs.lemmas.List.{drop_more, drop_all}
use Rattle.df_text.specs.declared.fault.ViewsFault.{ViewsFault}
use Rattle.df_value.specs.Outcomes.{then_next}
use Rattle.df_text.specs.Reading.{read_after}

-- what is read of the next value comes first
next_read :
    {V D A : Type 0} (see : V → D) (read : List A → D → Result A ViewsFault) (vs : List V) (i : ℕ) (done : List A) (v : V) →
    i < length vs → v ≡ get_or vs i v →
    read_after read done (map see (drop i vs)) ≡ then_next (read done (see v)) (λ x. read_after read (done ++ x ∷ []) (map see (drop (i + 1) vs)))
next_read see read vs i done v h is =
    ap (λ l. read_after read done (map see l)) (drop_more vs i v h ∙ ap (λ w. w ∷ drop (i + 1) vs) (sym is))

-- the loop pushes what it reads
pub read_more :
    {V D A : Type 0} (see : V → D) (read : List A → D → Result A ViewsFault) (vs : List V) (i : ℕ) (whole : Result (List A) ViewsFault)
    (done more : List A) (v : V) (x : A) → i < length vs → v ≡ get_or vs i v → whole ≡ read_after read done (map see (drop i vs)) →
    read done (see v) ≡ Ok x → more ≡ done ++ x ∷ [] → whole ≡ read_after read more (map see (drop (i + 1) vs))
read_more see read vs i whole done more v x h is so_far one pushed =
    so_far
    ∙ (next_read see read vs i done v h is
    ∙ (ap (λ r. then_next r (λ y. read_after read (done ++ y ∷ []) (map see (drop (i + 1) vs)))) one
    ∙ ap (λ o. read_after read o (map see (drop (i + 1) vs))) (sym pushed)))

-- past the last value all is read
pub read_whole :
    {V D A : Type 0} (see : V → D) (read : List A → D → Result A ViewsFault) (vs : List V) (i : ℕ) (whole : Result (List A) ViewsFault)
    (done out : List A) → length vs ≤ i → whole ≡ read_after read done (map see (drop i vs)) → out ≡ done → whole ≡ Ok out
read_whole see read vs i whole done out h so_far made =
    so_far ∙ (ap (λ l. read_after read done (map see l)) (drop_all i vs h) ∙ ap Ok (sym made))
