-- What is told of the views that are watched, one more of them.
use Rattle.std.proofs.Common.{◌≡◌, ◌∙◌, ◌++◌, ℕ, List, [], ◌∷◌, ap, append-nil, append_assoc, refl, sym}
use Rattle.std.specs.Prelude.{Option, Some, Result, Ok}
use Rattle.std.specs.Global.{Vec}
use Rattle.df_session.specs.Watching.{IsToldOf}
use Rattle.df_session.specs.declared.refusal.Refusal.{Refusal}

pub told-more :
    (Tells : List ℕ → Result (Option (Vec ℕ)) Refusal → Type 0) (names : List (List ℕ)) (text : List ℕ) (name : List ℕ) (last : Vec ℕ) (whole : List ℕ) →
    IsToldOf Tells names text → Tells name (Ok (Some last)) → whole ≡ text ++ last.items → IsToldOf Tells (names ++ name ∷ []) whole
told-more Tells [] text name last whole told tells is =
    (last, [], tells, refl, is ∙ (ap (λ t. t ++ last.items) told ∙ sym (append-nil last.items)))
told-more Tells (n ∷ names) text name last whole (first, rest, tells-first, told, split) tells is = (
  first,
  rest ++ last.items,
  tells-first,
  told-more Tells names rest name last (rest ++ last.items) told tells refl,
  is ∙ (ap (λ t. t ++ last.items) split ∙ append_assoc first.items rest last.items),
)
