-- What is known of a value that was read.
use Rattle.std.proofs.Common.{◌≡◌, ◌+◌, Bool, true, false, cond, List, [], ◌∷◌, ◌++◌, length, Result, Ok, Err, IfOk, refl, subst, sym, ap, arith, ◌∙◌}
use Rattle.std.specs.List.{All}
use Rattle.std.proofs.lemmas.List.{append_assoc, append-nil, length-append}
use Rattle.std.proofs.lemmas.List.Elements.{All-append, All-cons, All-nil}
use Rattle.df_text.specs.declared.fault.ViewsFault.TheVariants as fault
use Rattle.df_text.specs.declared.fault.ViewsFault.{ViewsFault}
use Rattle.df_value.specs.Outcomes.{then_next}
use Rattle.df_value.specs.Outcomes.{Answers}
use Rattle.df_text.specs.Reading.{read_each, read_after}

-- a fact of what the second reading gives
pub then_gives : {A B : Type 0} (P : B → Type 0) (r : Result A ViewsFault) (next : A → Result B ViewsFault)
    → ((x : A) → r ≡ Ok x → IfOk (next x) P) → IfOk (then_next r next) P
then_gives P (Ok x) next h = h x refl
then_gives P (Err f) next h = tt

-- a fact of what is read where a test passes
pub if_gives : {A : Type 0} (P : A → Type 0) (b : Bool) (r : Result A ViewsFault) (f : ViewsFault) → IfOk r P → IfOk (cond b r (Err f)) P
if_gives P true r f h = h
if_gives P false r f h = tt

-- the fact of the value itself
pub given : {A : Type 0} (P : A → Type 0) (r : Result A ViewsFault) (x : A) → IfOk r P → r ≡ Ok x → P x
given P (Ok y) x h e = let same : y ≡ x = cc in subst P same h
given P (Err f) x h e = absurd (cc)

-- a fact of each value that was read
pub all_give : {D A : Type 0} (P : A → Type 0) (read : List A → D → Result A ViewsFault)
    → ((done : List A) (d : D) → IfOk (read done d) P)
    → (done : List A) (ds : List D) → All P done → IfOk (read_after read done ds) (λ xs. All P xs)
all_give P read each done [] h = h
all_give P read each done (d ∷ ds) h =
    then_gives _ (read done d) _ (λ x is. all_give P read each (done ++ x ∷ []) ds
    (All-append P done (x ∷ []) h (All-cons P x [] (given P (read done d) x (each done d) is) (All-nil P))))

-- one value for each item
pub length_gives : {D A : Type 0} (read : List A → D → Result A ViewsFault) (done : List A) (ds : List D)
    → IfOk (read_after read done ds) (λ xs. length xs ≡ length done + length ds)
length_gives read done [] = omega arith
length_gives read done (d ∷ ds) =
    then_gives _ (read done d) _ (λ x _.
    let n : length (done ++ x ∷ []) + length ds ≡ length done + (length (d ∷ ds)) = omega (arith, length-append done (x ∷ [])) in
    subst (λ m. IfOk (read_after read (done ++ x ∷ []) ds) (λ xs. length xs ≡ m)) n (length_gives read (done ++ x ∷ []) ds))

after_each : {A : Type 0} → List A → Result (List A) ViewsFault → Result (List A) ViewsFault
after_each done (Ok xs) = Ok (done ++ xs)
after_each done (Err f) = Err f

after_first : {A : Type 0} (done : List A) (x : A) (r : Result (List A) ViewsFault) → after_each (done ++ x ∷ []) r ≡ after_each done (then_next r (λ xs. Ok (x ∷ xs)))
unfolding after_each
after_first done x (Ok xs) = ap Ok (append_assoc done (x ∷ []) xs)
after_first done x (Err f) = refl

each_after_done : {D A : Type 0} (read : D → Result A ViewsFault) (done : List A) (ds : List D) → read_after (λ _ d. read d) done ds ≡ after_each done (read_each read ds)
unfolding after_each
each_after_done read done [] = ap Ok (sym (append-nil done))
each_after_done {A = A} read done (d ∷ ds) = at (read d) (λ x. each_after_done read (done ++ x ∷ []) ds)
  where
    at : (r : Result A ViewsFault)
        → ((x : A) → read_after (λ _ d. read d) (done ++ x ∷ []) ds ≡ after_each (done ++ x ∷ []) (read_each read ds))
        → then_next r (λ x. read_after (λ _ d. read d) (done ++ x ∷ []) ds)
        ≡ after_each done (then_next r (λ x. then_next (read_each read ds) (λ xs. Ok (x ∷ xs))))
    at (Ok x) more = more x ∙ after_first done x (read_each read ds)
    at (Err f) more = refl

each_alone : {A : Type 0} (r : Result (List A) ViewsFault) → after_each [] r ≡ r
unfolding after_each
each_alone (Ok xs) = refl
each_alone (Err f) = refl

-- items that do not look back are read one after another
pub each_in_turn : {D A : Type 0} (read : D → Result A ViewsFault) (ds : List D) (start : List A) → start ≡ [] → read_each read ds ≡ read_after (λ _ d. read d) start ds
each_in_turn read ds start e = rw e (sym (each_after_done read [] ds ∙ each_alone (read_each read ds)))

-- a fact of what each item says
pub each_give : {D A : Type 0} (P : A → Type 0) (read : D → Result A ViewsFault) → ((d : D) → IfOk (read d) P) → (ds : List D) → IfOk (read_each read ds) (λ xs. All P xs)
each_give P read each ds = rw (each_in_turn read ds [] refl) (all_give P (λ _ d. read d) (λ _ d. each d) [] ds (All-nil P))
