-- One more view, whose table has its name, its source and the steps of a text.
use Rattle.std.proofs.Common.{◌≡◌, ◌<◌, ◌≤◌, ◌∙◌, ℕ, Bool, true, false, cond, ◌&&◌, List, [], ◌∷◌, length, ◌++◌, codes, Result, Ok, Err, refl, ap, arith}
use Rattle.std.specs.Prelude.{◌||◌}
use Rattle.std.proofs.lemmas.Bool.{lt-ltb}
use Rattle.toml.specs.Data.{Data, Members, no_members, member}
use Rattle.df_plan.specs.declared.plan.Plan.TheVariants.{Scan}
use Rattle.df_text.specs.declared.document.FrameSpec.{FrameSpec}
use Rattle.df_text.specs.declared.document.Location.{Location}
use Rattle.df_text.specs.declared.document.Location.TheVariants.{View}
use Rattle.df_text.specs.declared.document.ViewSpec.{ViewSpec}
use Rattle.df_text.specs.declared.fault.ViewsFault.{ViewsFault}
use Rattle.df_text.specs.declared.fault.ViewsFault.TheVariants as fault
use Rattle.df_value.specs.Outcomes.{then_next}
use Rattle.df_text.specs.Tree.{keys_pass, has_only_keys, tree_of}
use Rattle.df_text.specs.Sources.{frame_named, steps_of_table}
use Rattle.df_text.specs.Steps.{steps_at}
use Rattle.df_text.specs.Document.{ViewEntries, new_view_name, next_view_of, steps_alone, view_of, view_table}

-- the view of these entries
abbrev pub named_as : Location → List FrameSpec → List ViewSpec → List ℕ → List ℕ → Members → Result ViewSpec ViewsFault
named_as at frames before name source ms =
    then_next (new_view_name at name before) (λ name. then_next (frame_named at source frames) (λ index.
    then_next (steps_at at frames (Scan index) ms) (λ p. Ok (record { name = name; plan = p }))))

one_of_more : (a b c rest more : Bool) → (c || false) && rest ≡ true → (rest ≡ true → more ≡ true) → (a || (b || (c || false))) && more ≡ true
one_of_more a b false rest more h then = absurd (cc)
one_of_more a b true false more h then = absurd (cc)
one_of_more true b true true more h then = then refl
one_of_more false true true true more h then = then refl
one_of_more false false true true more h then = then refl

-- `steps` is a key of a view
steps_are_keys : (ms : Members) → has_only_keys (codes "steps" ∷ []) ms ≡ true → has_only_keys (codes "name" ∷ codes "from" ∷ codes "steps" ∷ []) ms ≡ true
unfolding keys_pass
steps_are_keys no_members h = refl
steps_are_keys (member k d ms) h = one_of_more _ _ _ _ _ h (steps_are_keys ms)

in_turn : (r : Result (List Data) ViewsFault) (name source : List ℕ) (next : ViewEntries → Result ViewSpec ViewsFault)
    → then_next (then_next {A = List ℕ} {B = ViewEntries} {E = ViewsFault} (then_next r (λ _. Ok source)) (λ s. Ok (record { name = name; source = s }))) next
    ≡ then_next r (λ _. next (record { name = name; source = source }))
in_turn (Ok ds) name source next = refl
in_turn (Err f) name source next = refl

view_of_steps : (frames : List FrameSpec) (before : List ViewSpec) (name source : List ℕ) (ms : Members) → has_only_keys (codes "steps" ∷ []) ms ≡ true
    → view_of frames before (view_table name source ms) ≡ then_next (steps_of_table (View (length before)) ms) (λ _. named_as (View (length before)) frames before name source ms)
unfolding keys_pass
view_of_steps frames before name source ms h =
    rw (steps_are_keys ms h) (in_turn (steps_of_table (View (length before)) ms) name source (λ e. named_as (View (length before)) frames before e.name e.source ms))

passed : (test : Members → Bool) (r : Result Members ViewsFault) (f : ViewsFault) (ms : Members) → then_next r (λ m. cond (test m) (Ok m) (Err f)) ≡ Ok ms → test ms ≡ true
passed test (Err g) f ms e = absurd (cc)
passed test (Ok m) f ms e = at (test m) refl e
  where
    at : (b : Bool) → test m ≡ b → cond {A = Result Members ViewsFault} b (Ok m) (Err f) ≡ Ok ms → test ms ≡ true
    at true is e = let same : m ≡ ms = cc in rw (← same) is
    at false is e = absurd (cc)

-- one more view, where there is room
pub next_where_room :
    (frames : List FrameSpec) (before : List ViewSpec) (name source text : List ℕ) (ms : Members) → steps_alone text ≡ Ok ms → length before < 32
    → next_view_of frames before name source text
    ≡ then_next (steps_of_table (View (length before)) ms) (λ _. named_as (View (length before)) frames before name source ms)
next_where_room frames before name source text ms said few =
    let alone = passed (has_only_keys (codes "steps" ∷ [])) (tree_of (codes "steps = " ++ text)) fault.NotToml ms said in
    rw (said, lt-ltb (length before) 32 few) (view_of_steps frames before name source ms alone)
