-- Loads: one chunk more, and what is told of one that is left out.
use Rattle.std.proofs.Common.{◌≡◌, ◌∙◌, ◌+◌, ◌-◌, ◌++◌, ◌<◌, ℕ, List, [], ◌∷◌, ap, append-nil, append_assoc, arith, length, refl, subst, suc, sym, take, zero}
use Rattle.std.specs.Prelude.{Bool, Err, Ok, OnErr, OnOk, Result, Some, is_err, slice_get}
use Rattle.std.proofs.lemmas.List.{length-map}
use Rattle.std.proofs.lemmas.List.FromFn.{length-range_with_len}
use Rattle.df_value.specs.Schemas.{Columns}
use Rattle.df_value.specs.declared.chunk.Piece.{Piece}
use Rattle.df_csv.specs.Records.{FieldRows}
use Rattle.df_csv.specs.Typed.{piece_count, piece_start}
use Rattle.df_state.specs.declared.change.Change.{Change}
use Rattle.df_session.specs.Loading.{AreTried, HasLoaded, HasLoadedSome, IsLoaded, IsMoreBy, IsTried, LoadedParts, entered_text, pieces_of_load, records_of_chunk}
use Rattle.df_session.specs.declared.refusal.Refusal.{Refusal}
use Rattle.df_text.specs.declared.document.FrameSpec.{FrameSpec}

pub piece-count : (columns : Columns) (records : FieldRows) → length (pieces_of_load columns records) ≡ piece_count records_of_chunk (length records)
piece-count columns records = length-map _ _ ∙ length-range_with_len 0 _

-- one more item, by what stands at its place
pub take-more-at : {X : Type 0} (xs : List X) (n : ℕ) (x : X) → slice_get xs n ≡ Some x → take (suc n) xs ≡ take n xs ++ x ∷ []
take-more-at [] n x h = cc
take-more-at (y ∷ ys) zero x h =
    let same : y ≡ x = cc in
    ap (λ z. z ∷ []) same
take-more-at (y ∷ ys) (suc n) x h = ap (λ zs. y ∷ zs) (take-more-at ys n x h)

pub on-err : {T E P : Type 0} (r : Result T E) → P → OnErr r P
on-err (Ok x) p = tt
on-err (Err e) p = p

-- a chunk that is told, and no rows
pub only-told :
    (a b c : LoadedParts) (line : List ℕ) → b ≡ a → c ≡ record b { refused = b.refused ++ line } → IsMoreBy a c 0 line
only-told a b c line same told =
    let is : c ≡ record a { refused = a.refused ++ line } = told ∙ ap (λ (l : LoadedParts). record l { refused = l.refused ++ line }) same in
    subst (λ l. IsMoreBy a l 0 line) (sym is) (record { first = refl; next = omega arith; refused = refl; told = λ h. h })

module _ {S : Type 0} (Makes : S → S → Change → Type 0) (Refuses : S → S → Change → Refusal → Type 0) (Keeps : S → S → Type 0)
    (frame : FrameSpec) (at : ℕ)
  where
    -- one piece more
    tried-more :
        (old mid new : S) (n next : ℕ) (ps : List Piece) (count : ℕ) (lines : List ℕ) (p : Piece) (index from here : ℕ) (line : List ℕ) →
        AreTried Makes Refuses Keeps frame at old mid n next ps count lines → index ≡ n + length ps → from ≡ next + count →
        IsTried Makes Refuses Keeps frame at mid new (piece_start records_of_chunk index) from p here line →
        AreTried Makes Refuses Keeps frame at old new n next (ps ++ p ∷ []) (count + here) (lines ++ line)
    tried-more old mid new n next [] count lines p index from here line h i f one =
        let Tried : S → ℕ → ℕ → Type 0 = λ s k b. IsTried Makes Refuses Keeps frame at s new (piece_start records_of_chunk k) b p here line in
        let first : index ≡ n = omega (arith, i) in
        let begins : from ≡ next = omega (arith, f, h.1) in
        let tried : Tried old n next = subst (λ s. Tried s n next) h.0 (subst (λ k. Tried mid k next) first (subst (Tried mid index) begins one)) in
        (new, here, line, 0, [], tried, (refl, refl, refl), omega (arith, h.1), ap (λ ls. ls ++ line) h.2 ∙ sym (append-nil line))
    tried-more old mid new n next (q ∷ qs) count lines p index from here line (m, c, l, further, rest, first, others, counts, told) i f one =
        let behind : index ≡ (n + 1) + length qs = omega (arith, i) in
        let begins : from ≡ (next + c) + further = omega (arith, f, counts) in (
          m,
          c,
          l,
          further + here,
          rest ++ line,
          first,
          tried-more m mid new (n + 1) (next + c) qs further rest p index from here line others behind begins one,
          omega (arith, counts),
          ap (λ ls. ls ++ line) told ∙ append_assoc l rest line,
        )

    pub loaded-more :
        (old mid new : S) (ps : List Piece) (n : ℕ) (p : Piece) (a b : LoadedParts) (here : ℕ) (line : List ℕ) →
        HasLoaded Makes Refuses Keeps frame at old mid ps a → n ≡ length ps →
        IsTried Makes Refuses Keeps frame at mid new (piece_start records_of_chunk n) a.next p here line → IsMoreBy a b here line →
        HasLoaded Makes Refuses Keeps frame at old new (ps ++ p ∷ []) b
    loaded-more old mid new ps n p a b here line (count, next, said, tried) i one more =
        let total : b.next ≡ b.first + (count + here) = omega (arith, more.next, more.first, next) in
        let before : a.next - a.first ≡ count = omega (arith, next) in
        let behind : b.next - b.first ≡ count + here = omega (arith, total) in
        let all = tried-more old mid new 0 a.first ps count a.refused p n a.next here line tried (omega (arith, i)) next one in (
          count + here,
          total,
          more.told (said ∙ ap (entered_text a.first) (sym before)) ∙ ap (entered_text b.first) behind,
          subst (λ f. AreTried Makes Refuses Keeps frame at old new 0 f (ps ++ p ∷ []) (count + here) b.refused) (sym more.first)
              (subst (AreTried Makes Refuses Keeps frame at old new 0 a.first (ps ++ p ∷ []) (count + here)) (sym more.refused) all),
        )

    pub loaded-or-some :
        {T E : Type 0} (old new : S) (ps : List Piece) (l : LoadedParts) (r : Result T E) (b : Bool) → b ≡ is_err r →
        OnOk r (HasLoaded Makes Refuses Keeps frame at old new ps l) → OnErr r (HasLoadedSome Makes Refuses Keeps frame at old new ps l) →
        IsLoaded Makes Refuses Keeps frame at old new ps (record l { is_cut = b }) b
    loaded-or-some old new ps l (Ok x) b e all some =
        subst (λ c. IsLoaded Makes Refuses Keeps frame at old new ps (record l { is_cut = c }) c) (sym e) all
    loaded-or-some old new ps l (Err f) b e all some =
        subst (λ c. IsLoaded Makes Refuses Keeps frame at old new ps (record l { is_cut = c }) c) (sym e) some
