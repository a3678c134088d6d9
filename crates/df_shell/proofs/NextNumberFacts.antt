-- The numbers behind those that a catalogue's frames accepted, change by change.
use Rattle.std.proofs.Common.{◌≡◌, ◌∙◌, ◌+◌, ◌++◌, ℕ, zero, suc, Bool, true, false, List, [], ◌∷◌, ap, arith, cond, map, max, refl, replicate, sym}
use Rattle.std.specs.Prelude.{Option, OnErr, OnOk, Result, Ok, Err, filter, nat_lt, not}
use Rattle.df_state.specs.Changes.{after, change_at}
use Rattle.df_state.specs.declared.change.Change.{Change}
use Rattle.df_state.specs.declared.change.Change.TheVariants.{Append, Delete, DropView, Register, Replace}
use Rattle.df_state.specs.declared.fault.CatalogueFault.{CatalogueFault}
use Rattle.df_state.specs.declared.state.State.{State}
use Rattle.df_frame.specs.Frames.{chunk_numbers, empty_frame, with_chunk, with_replaced_rows, without_rows}
use Rattle.df_frame.specs.Numbers.{put_from}
use Rattle.df_frame.specs.declared.state.FrameState.{FrameState}
use Rattle.df_value.specs.Chunks.{ChunkParts}
use Rattle.df_session.specs.Numbers.{end_if_made, end_of, noted, number_behind}
use Rattle.df_shell.specs.NextNumbers.{next_number, next_numbers}

behind-both : (xs ys : List ℕ) → number_behind (xs ++ ys) ≡ max (number_behind xs) (number_behind ys)
behind-both [] ys = omega arith
behind-both (x ∷ xs) ys = let k = behind-both xs ys in omega (arith, k)

behind-parts :
    (p : ℕ → Bool) (xs : List ℕ) → max (number_behind (filter p xs)) (number_behind (filter (λ x. not (p x)) xs)) ≡ number_behind xs
behind-parts p [] = refl
behind-parts p (x ∷ xs) =
    let k = behind-parts p xs in
    elim (p x) as (λ b. max (number_behind (cond b (x ∷ filter p xs) (filter p xs)))
    (number_behind (cond (not b) (x ∷ filter (λ x. not (p x)) xs) (filter (λ x. not (p x)) xs))) ≡ number_behind (x ∷ xs)) [
      | true ↦ omega (arith, k)
      | false ↦ omega (arith, k)
    ]

behind-put :
    (first : ℕ) (block xs : List ℕ) → number_behind (put_from (λ n. n) first block xs) ≡ max (number_behind block) (number_behind xs)
behind-put first block xs =
    let low = filter (λ x. nat_lt x first) xs in
    let high = filter (λ x. not (nat_lt x first)) xs in
    let a = behind-both low (block ++ high) in
    let b = behind-both block high in
    let c = behind-parts (λ x. nat_lt x first) xs in
    omega (arith, a, b, c)

with-chunk-behind : (c : ChunkParts) (f : FrameState) → next_number (with_chunk c f) ≡ max (number_behind (chunk_numbers c)) (next_number f)
with-chunk-behind c f = behind-put c.first (chunk_numbers c) f.accepted

map-changed :
    (g : FrameState → FrameState) (h : ℕ → ℕ) → ((f : FrameState) → next_number (g f) ≡ h (next_number f)) → (i : ℕ) (frames : List FrameState) →
    next_numbers (change_at i g frames) ≡ change_at i h (next_numbers frames)
map-changed g h e i [] = refl
map-changed g h e zero (f ∷ fs) = ap (λ n. n ∷ next_numbers fs) (e f)
map-changed g h e (suc i) (f ∷ fs) = ap (λ ns. next_number f ∷ ns) (map-changed g h e i fs)

map-kept :
    (g : FrameState → FrameState) → ((f : FrameState) → next_number (g f) ≡ next_number f) → (i : ℕ) (frames : List FrameState) →
    next_numbers (change_at i g frames) ≡ next_numbers frames
map-kept g e i [] = refl
map-kept g e zero (f ∷ fs) = ap (λ n. n ∷ next_numbers fs) (e f)
map-kept g e (suc i) (f ∷ fs) = ap (λ ns. next_number f ∷ ns) (map-kept g e i fs)

-- the numbers after a change
pub numbers-after : (s : State) (c : Change) → next_numbers (after s c).frames ≡ noted (end_of c) (next_numbers s.frames)
numbers-after s (Append at chunk) =
    map-changed (with_chunk chunk) (max (number_behind (chunk_numbers chunk))) (with-chunk-behind chunk) at s.frames
numbers-after s (Delete at ns) = map-kept (without_rows ns) (λ f. refl) at s.frames
numbers-after s (Replace at rows) = map-kept (with_replaced_rows rows) (λ f. refl) at s.frames
numbers-after s (Register name plan) = refl
numbers-after s (DropView name) = refl

-- the numbers after a change that was made, or was not
pub numbered-after :
    {T : Type 0} (old new : State) (c : Change) (r : Result T CatalogueFault) (end : Option (ℕ × ℕ)) (before behind : List ℕ) →
    OnOk r (new ≡ after old c) → OnErr r (new ≡ old) → before ≡ next_numbers old.frames → end ≡ end_of c →
    behind ≡ noted (end_if_made r end) before → behind ≡ next_numbers new.frames
numbered-after old new c (Ok x) end before behind is same were ends now =
    now ∙ (ap (noted end) were ∙ (ap (λ e. noted e (next_numbers old.frames)) ends
    ∙ (sym (numbers-after old c) ∙ ap (λ (s : State). next_numbers s.frames) (sym is))))
numbered-after old new c (Err f) end before behind is same were ends now =
    now ∙ (were ∙ ap (λ (s : State). next_numbers s.frames) (sym same))

-- frames that accepted nothing
pub numbers-empty : (n : ℕ) → next_numbers (replicate n empty_frame) ≡ replicate n 0
numbers-empty zero = refl
numbers-empty (suc n) = ap (λ ns. 0 ∷ ns) (numbers-empty n)
