-- Places of parts of a plan, taken together.
use Rattle.std.proofs.Common.{◌≡◌, ◌∙◌, ◌++◌, ℕ, suc, List, [], ◌∷◌, ap, sym, refl, inl, inr, codes, append_assoc}
use Rattle.std.specs.Prelude.{◌≢◌, IfOk, Option, Some}
use Rattle.df_value.specs.Schemas.{Columns}
use Rattle.std.specs.declared.result.Result.{Result}
use Rattle.std.specs.declared.result.Result.TheVariants.{Ok, Err}
use Rattle.df_plan.specs.declared.fault.PlanFault.{PlanFault}
use Rattle.df_plan.specs.declared.fault.PlanFault.TheVariants as fault
use Rattle.df_plan.specs.declared.plan.Plan.{Plan}
use Rattle.df_explain.specs.PlanPlaces.{input_of, last_step_text, right_of, sides_text, without_last, IsFirst, IsPlanText, IsStepText, IsUpTo, IsWhole, IsWithin}

pub if_ok_then : {T E : Type 0} {P Q : T → Type 0} (r : Result T E) → IfOk r P → ((x : T) → P x → Q x) → IfOk r Q
if_ok_then (Ok x) p f = f x p
if_ok_then (Err e) p f = tt

one_more_side :
    (frames : List Columns) (most less : ℕ) (sides : List Plan) (part inner : Plan) → most ≡ suc less → IsWhole frames less sides part
    → IsWhole frames most (inner ∷ sides) part
one_more_side frames most less sides part inner more (inl e) = inl (ap suc e ∙ sym more)
one_more_side frames most less sides part inner more (inr h) = inr h

pub further : {T E : Type 0} (r : Result T E) (f : T → Plan) (whole input : Plan) → input ≡ input_of whole → IfOk r (λ part. IsUpTo input (f part)) → IfOk r (λ part. IsUpTo whole (f part))
further (Ok x) f whole input is h = (suc h.0, h.1 ∙ ap (without_last h.0) is)
further (Err e) f whole input is h = tt

-- a way goes on from a join through its right side
pub through :
    {T E : Type 0} (frames : List Columns) (most less : ℕ) (r : Result T E) (part : T → Plan) (text : T → List ℕ) (p right inner : Plan) (before there : List ℕ)
    → most ≡ suc less → right_of p ≡ Some right → IsUpTo right inner → IsFirst frames inner → there ≡ before ++ (codes ", right side, " ++ last_step_text inner)
    → IfOk r (λ x. (sides : List Plan) × IsWithin frames inner sides (part x) × IsWhole frames less sides (part x) × (text x ≡ there ++ sides_text sides))
    → IfOk r (λ x. (sides : List Plan) × IsWithin frames p sides (part x) × IsWhole frames most sides (part x) × (text x ≡ before ++ sides_text sides))
through frames most less (Ok x) part text p right inner before there more is up first e h =
    let rest : List ℕ = sides_text h.0 in
    let here : List ℕ = codes ", right side, " in
    let own : List ℕ = last_step_text inner in (
      inner ∷ h.0,
      (right, is, up, first, h.1),
      one_more_side frames most less h.0 (part x) inner more h.2,
      h.3 ∙ (ap (λ t. t ++ rest) e ∙ (append_assoc before (here ++ own) rest ∙ ap (λ t. before ++ t) (append_assoc here own rest))),
    )
through frames most less (Err k) part text p right inner before there more is up first e h = tt

pub whatever : {T E : Type 0} {P : Type 0} (r : Result T E) → P → IfOk r (λ x. P)
whatever (Ok x) p = p
whatever (Err e) p = tt

pub same_found : {X : Type 0} (a b : X) (found : Option X) → Some a ≡ found → found ≡ Some b → a ≡ b
same_found a b found e f = cc

pub same_read : {A E : Type 0} (a b : A) (r : Result A E) → r ≡ Ok a → r ≡ Ok b → a ≡ b
same_read a b r e f = cc

-- the words of a fault of a step
pub at_step : (frames : List Columns) (whole : Plan) (f : PlanFault) (words : List ℕ) → f ≢ fault.TooManyScans → f ≢ fault.TooDeep
    → IsStepText frames whole words → IsPlanText frames whole f words
at_step frames whole fault.TooManyScans words a b h = absurd (a refl)
at_step frames whole fault.TooDeep words a b h = absurd (b refl)
at_step frames whole (fault.NoFrame n) words a b h = h
at_step frames whole (fault.Expr f) words a b h = h
at_step frames whole (fault.DoubledName name) words a b h = h
at_step frames whole fault.BadWindow words a b h = h
at_step frames whole fault.EmptyList words a b h = h
at_step frames whole fault.TooWide words a b h = h
at_step frames whole (fault.ConstantColumn name) words a b h = h
at_step frames whole (fault.WrongType name) words a b h = h
at_step frames whole fault.Memory words a b h = h
