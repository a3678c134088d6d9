-- Lists of changes that were all made, one behind another.
use Rattle.std.proofs.Common.{List, [], ◌∷◌, ◌++◌, flat_map, map, ap, refl, sym, subst}
use Rattle.std.proofs.lemmas.List.{flat_map_more, map-append}
use Rattle.df_state.specs.declared.change.Change.{Change}
use Rattle.df_session.specs.Filling.{AreMade}

module _ {S : Type 0} (Makes : S → S → Change → Type 0) where
  pub all-both :
      (s m n : S) (cs ds : List Change) → AreMade Makes s m cs → AreMade Makes m n ds → AreMade Makes s n (cs ++ ds)
  all-both s m n [] ds h k = subst (λ t. AreMade Makes t n ds) h k
  all-both s m n (c ∷ cs) ds h k = (h.0, h.1, all-both h.0 m n cs ds h.2 k)

  pub all-one : (s n : S) (c : Change) → Makes s n c → AreMade Makes s n (c ∷ [])
  all-one s n c h = (n, h, refl)

  pub all-more :
      (s m n : S) (cs : List Change) (c : Change) → AreMade Makes s m cs → Makes m n c → AreMade Makes s n (cs ++ c ∷ [])
  all-more s m n cs c h k = all-both s m n cs (c ∷ []) h (all-one m n c k)

  -- the changes of one item more
  pub all-flat :
      {T : Type 0} (f : T → List Change) (s m n : S) (xs : List T) (x : T) → AreMade Makes s m (flat_map f xs) → AreMade Makes m n (f x) →
      AreMade Makes s n (flat_map f (xs ++ x ∷ []))
  all-flat f s m n xs x h k = subst (AreMade Makes s n) (flat_map_more f [] xs x) (all-both s m n (flat_map f xs) (f x) h k)

  pub all-each :
      {T : Type 0} (f : T → Change) (s m n : S) (xs : List T) (x : T) → AreMade Makes s m (map f xs) → Makes m n (f x) →
      AreMade Makes s n (map f (xs ++ x ∷ []))
  all-each f s m n xs x h k = subst (AreMade Makes s n) (sym (map-append f xs (x ∷ []))) (all-more s m n (map f xs) (f x) h k)

-- what was made of stores was made of what they hold
pub all-within :
    {S T : Type 0} (Makes : T → T → Change → Type 0) (held : S → T) (s n : S) (cs : List Change) →
    AreMade (λ a b c. Makes (held a) (held b) c) s n cs → AreMade Makes (held s) (held n) cs
all-within Makes held s n [] h = ap held h
all-within Makes held s n (c ∷ cs) h = (held h.0, h.1, all-within Makes held h.0 n cs h.2)
