-- Texts that grow at their end.
use Rattle.std.proofs.Common.{◌≡◌, ◌∙◌, ◌++◌, ℕ, List, ap}
use Rattle.std.proofs.lemmas.List.{append_assoc}

-- three parts behind a text
pub three-parts :
    (t a b d t1 t2 t3 : List ℕ) → t1 ≡ t ++ a → t2 ≡ t1 ++ b → t3 ≡ t2 ++ d → t3 ≡ t ++ (a ++ (b ++ d))
three-parts t a b d t1 t2 t3 first second third =
    third
    ∙ (ap (λ (x : List ℕ). x ++ d) (second ∙ ap (λ (x : List ℕ). x ++ b) first)
    ∙ (append_assoc (t ++ a) b d ∙ append_assoc t a (b ++ d)))

-- five parts behind a text
pub five-parts :
    (t a b c d e t1 t2 t3 t4 t5 : List ℕ) → t1 ≡ t ++ a → t2 ≡ t1 ++ b → t3 ≡ t2 ++ c → t4 ≡ t3 ++ d → t5 ≡ t4 ++ e → t5 ≡ t ++ (a ++ (b ++ (c ++ (d ++ e))))
five-parts t a b c d e t1 t2 t3 t4 t5 first second third fourth fifth = rw (fifth, fourth, third, second, first) (simp append_assoc)
