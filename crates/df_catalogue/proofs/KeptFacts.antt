-- What is kept of the changes of views: item by item where views are prepared and committed, and of the view of a name.
use Rattle.std.proofs.Common.{◌≡◌, ℕ, zero, suc, ◌+◌, ◌<◌, ◌≤◌, Bool, true, false, cond, List, [], ◌∷◌, ◌++◌, drop, get_or, length, map, set, take, refl, ap, sym, subst, ◌∙◌, arith}
use Rattle.std.specs.Prelude.{Option, Some, None, IfSome, option_and_then, option_map, bytes_eq, find, position}
use Rattle.std.specs.List.{AllZip}
use Rattle.std.proofs.lemmas.List.{drop-set, length-map, length-set, take_more, take_more_set}
use Rattle.df_column.specs.Tables.{TaggedRows}
use Rattle.df_delta.specs.Deltas.{Changes}
use Rattle.df_delta.specs.Differences.{IsDiff}
use Rattle.df_plan.specs.CheckedParts.{CheckedParts}
use Rattle.df_live.specs.KeptDiffs.{IsKeptDiff}
use Rattle.df_live.specs.Views.{IsLive, value}
use Rattle.df_live.specs.declared.view.StagedView.{StagedView}
use Rattle.df_state.specs.Changes.{refreshed_views}
use Rattle.df_state.specs.Reads.{kept_of, view_named, view_schema_of}
use Rattle.df_state.specs.declared.change.Change.{Change}
use Rattle.df_state.specs.declared.change.Change.TheVariants.{Append, Delete, Replace, Register, DropView}
use Rattle.df_state.specs.declared.state.CatalogueParts.{CatalogueParts}
use Rattle.df_state.specs.declared.state.State.{State}
use Rattle.df_state.specs.declared.state.ViewState.{ViewState}
use Rattle.df_frame.specs.declared.state.FrameState.{FrameState}
use Rattle.df_frame.specs.declared.frame_change.FrameChange.{FrameChange}
use Rattle.df_frame.specs.declared.frame_change.FrameChange.TheVariants as RowsOf
use Rattle.df_state.specs.FrameChanges.{change_of}
use Rattle.df_catalogue.specs.declared.views.View.{View}
use Rattle.df_catalogue.specs.KeptChanges.{AreKept, AreKeptAt, AreKeptBetween, HasSameChanges, none_kept, tagged_table_of}
use Rattle.df_catalogue.specs.LiveViews.{changes_kept, changes_staged, plans, tagged_frames, view_state}
use Rattle.df_catalogue.proofs.PartFacts.{views-found}
use Rattle.df_catalogue.proofs.WorkFacts.{plans_told}
use Rattle.df_state.proofs.Partners.{length-last, map_set}
use Rattle.df_state.proofs.Places.{none-named, placed-found}

-- ---- views that are prepared one after another

-- a view that keeps what the one in its place kept
pub kept_set : (views : List View) (i : ℕ) (v d : View) → v.live.changes ≡ (get_or views i d).live.changes → changes_kept (set views i v) ≡ changes_kept views
kept_set views i v d e = map_set (λ v. v.live.changes) views i v d e

zip_push :
    {A B : Type 0} (R : A → B → Type 0) (xs : List A) (ys : List B) (x : A) (y : B) → AllZip R xs ys → R x y → AllZip R (xs ++ x ∷ []) (ys ++ y ∷ [])
zip_push R [] [] x y h new = (new, tt)
zip_push R [] (b ∷ ys) x y h new = absurd h
zip_push R (a ∷ xs) [] x y h new = absurd h
zip_push R (a ∷ xs) (b ∷ ys) x y h new = (h.0, zip_push R xs ys x y h.1 new)

staged_more : (staged : List StagedView) (s : StagedView) → changes_staged (staged ++ s ∷ []) ≡ changes_staged staged ++ s.changes ∷ []
staged_more [] s = refl
staged_more (x ∷ xs) s = ap (λ ds. x.changes ∷ ds) (staged_more xs s)

-- what is kept of one view more
pub kept_push :
    (keeps : Bool) (frames new_frames : List TaggedRows) (ps : List CheckedParts) (i : ℕ) (p : CheckedParts) (staged : List StagedView) (s : StagedView) →
    i < length ps → AreKept keeps frames new_frames (take i ps) (changes_staged staged) →
    IsKeptDiff keeps (value (get_or ps i p) frames) (value (get_or ps i p) new_frames) s.changes →
    AreKept keeps frames new_frames (take (i + 1) ps) (changes_staged (staged ++ s ∷ []))
kept_push keeps frames new_frames ps i p staged s lt h new =
    subst (λ qs. AreKept keeps frames new_frames qs (changes_staged (staged ++ s ∷ []))) (sym (take_more ps i p lt))
    (subst (AreKept keeps frames new_frames (take i ps ++ get_or ps i p ∷ [])) (sym (staged_more staged s))
    (zip_push (λ p d. IsKeptDiff keeps (value p frames) (value p new_frames) d) (take i ps) (changes_staged staged) (get_or ps i p) s.changes h new))

take_all : {X : Type 0} (xs : List X) (n : ℕ) → length xs ≤ n → take n xs ≡ xs
take_all [] zero h = refl
take_all [] (suc n) h = refl
take_all (x ∷ xs) zero h = absurd (omega (arith, h))
take_all (x ∷ xs) (suc n) h = ap (λ ys. x ∷ ys) (take_all xs n (omega (arith, h)))

-- what is kept of all of them
pub kept_whole :
    (keeps : Bool) (frames new_frames : List TaggedRows) (ps : List CheckedParts) (i : ℕ) (staged : List StagedView) → length ps ≤ i →
    AreKept keeps frames new_frames (take i ps) (changes_staged staged) → AreKept keeps frames new_frames ps (changes_staged staged)
kept_whole keeps frames new_frames ps i staged past h =
    subst (λ qs. AreKept keeps frames new_frames qs (changes_staged staged)) (take_all ps i past) h

-- ---- views that are committed, from the last to the first

-- those behind the ones that are left keep what was staged for them
pub committed_more :
    (views : List View) (rest : List StagedView) (v : View) (s : StagedView) (done : List StagedView) → length rest < length views → v.live.changes ≡ s.changes →
    changes_kept (drop (length (rest ++ s ∷ [])) views) ≡ changes_staged done → changes_kept (drop (length rest) (set views (length rest) v)) ≡ changes_staged (s ∷ done)
committed_more views rest v s done lt e h =
    ap changes_kept (drop-set views (length rest) v lt)
    ∙ (ap (λ d. d ∷ changes_kept (drop (length rest + 1) views)) e
    ∙ ap (λ ds. s.changes ∷ ds) (ap (λ n. changes_kept (drop n views)) (sym (length-last rest s)) ∙ h))

-- behind all of them is none
pub none_behind : (views : List View) (staged : List StagedView) → length staged ≡ length views → changes_kept (drop (length staged) views) ≡ []
none_behind [] [] e = refl
none_behind [] (s ∷ ss) e = absurd (omega (arith, e))
none_behind (v ∷ vs) [] e = absurd (omega (arith, e))
none_behind (v ∷ vs) (s ∷ ss) e = none_behind vs ss (omega (arith, e))

pub all_committed :
    (views : List View) (all left done : List StagedView) → left ≡ [] → all ≡ left ++ done → changes_kept (drop (length left) views) ≡ changes_staged done →
    changes_kept views ≡ changes_staged all
all_committed views all left done none parted kept =
    subst (λ (ys : List StagedView). changes_kept (drop (length ys) views) ≡ changes_staged done) none kept
    ∙ ap changes_staged (sym (parted ∙ ap (λ ys. ys ++ done) none))

-- ---- views whose changes are forgotten

changes_set : (views : List View) (i : ℕ) (v : View) → changes_kept (set views i v) ≡ set (changes_kept views) i v.live.changes
changes_set [] zero v = refl
changes_set [] (suc i) v = refl
changes_set (w ∷ ws) zero v = refl
changes_set (w ∷ ws) (suc i) v = ap (λ ds. w.live.changes ∷ ds) (changes_set ws i v)

none_at : (views : List View) (i : ℕ) → get_or (none_kept (map view_state views)) i None ≡ None
none_at [] i = refl
none_at (v ∷ vs) zero = refl
none_at (v ∷ vs) (suc i) = none_at vs i

none_long : (views : List View) → length (none_kept (map view_state views)) ≡ length views
none_long [] = refl
none_long (v ∷ vs) = omega (arith, none_long vs)

pub forgotten_more :
    (views others : List View) (i : ℕ) (v : View) → i < length views → length views ≡ length others → v.live.changes ≡ None →
    take i (changes_kept views) ≡ take i (none_kept (map view_state others)) →
    take (i + 1) (changes_kept (set views i v)) ≡ take (i + 1) (none_kept (map view_state others))
forgotten_more views others i v lt same e h =
    let long : length (changes_kept views) ≡ length views = length-map {B = Option Changes} views (λ v. v.live.changes) in
    let other_long = none_long others in
    ap (take (i + 1)) (changes_set views i v ∙ ap (set (changes_kept views) i) e)
    ∙ (take_more_set (changes_kept views) i None (omega (arith, lt, long))
    ∙ (ap (λ ds. ds ++ None ∷ []) h
    ∙ (ap (λ d. take i (none_kept (map view_state others)) ++ d ∷ []) (sym (none_at others i))
    ∙ sym (take_more (none_kept (map view_state others)) i None (omega (arith, lt, same, other_long))))))

pub forgotten_whole :
    (views others : List View) (i : ℕ) → length views ≡ length others → length views ≤ i →
    take i (changes_kept views) ≡ take i (none_kept (map view_state others)) → changes_kept views ≡ none_kept (map view_state others)
forgotten_whole views others i same past h =
    let long : length (changes_kept views) ≡ length views = length-map {B = Option Changes} views (λ v. v.live.changes) in
    let other_long = none_long others in
    sym (take_all (changes_kept views) i (omega (arith, past, long)))
    ∙ (h ∙ take_all (none_kept (map view_state others)) i (omega (arith, past, same, other_long)))

-- ---- what is kept at a change of rows

refreshed_plans : (frames : List FrameState) (vs : List ViewState) → map (λ v. v.plan) (refreshed_views frames vs) ≡ map (λ v. v.plan) vs
refreshed_plans frames [] = refl
refreshed_plans frames (v ∷ vs) = ap (λ ps. v.plan ∷ ps) (refreshed_plans frames vs)

kept-at : (keeps : Bool) (f : ℕ) (c : FrameChange) (s t : State) (ds : List (Option Changes)) → AreKeptBetween keeps s t ds → AreKeptAt keeps (change_of f c) s t ds
kept-at keeps f (RowsOf.Append chunk) s t ds h = h
kept-at keeps f (RowsOf.Prepared chunk) s t ds h = h
kept-at keeps f (RowsOf.Delete ns) s t ds h = h
kept-at keeps f (RowsOf.Replace rows) s t ds h = h

-- what was staged for views leads between the states
pub kept-staged :
    (keeps : Bool) (f : ℕ) (c : FrameChange) (s t : State) (views : List View) (ws : List ViewState) (frames new_frames : List TaggedRows)
    (ds : List (Option Changes)) → t.views ≡ refreshed_views t.frames ws → ws ≡ map view_state views → frames ≡ tagged_frames s.frames →
    new_frames ≡ tagged_frames t.frames → AreKept keeps frames new_frames (plans views) ds → AreKeptAt keeps (change_of f c) s t ds
kept-staged keeps f c s t views ws frames new_frames ds refreshed told is led h =
    let same : map (λ v. v.plan) t.views ≡ plans views =
    ap (map (λ v. v.plan)) refreshed ∙ (refreshed_plans t.frames ws ∙ (ap (map (λ v. v.plan)) told ∙ plans_told views)) in
    kept-at keeps f c s t ds
    (subst (λ ps. AreKept keeps (tagged_frames s.frames) (tagged_frames t.frames) ps ds) (sym same)
    (subst (λ fs. AreKept keeps fs (tagged_frames t.frames) (plans views) ds) is
    (subst (λ fs. AreKept keeps frames fs (plans views) ds) led h)))

-- ---- what is kept of the view of a name

is_diff : (keeps : Bool) (t u : TaggedRows) (d : Changes) → IsKeptDiff keeps t u (Some d) → IsDiff t u d
is_diff true t u d h = h
is_diff false t u d h = absurd h

-- a view of this name, whose table was led so by these changes
abbrev IsFound : List TaggedRows → List TaggedRows → Option ViewState → Changes → Type 0
IsFound frames new_frames found d = (v : ViewState) × (found ≡ Some v) × IsDiff (value v.plan frames) (value v.plan new_frames) d

found-first :
    (b keeps : Bool) (frames new_frames : List TaggedRows) (v : ViewState) (found : Option ViewState) (x later : Option Changes) (d : Changes) →
    IsKeptDiff keeps (value v.plan frames) (value v.plan new_frames) x → (later ≡ Some d → IsFound frames new_frames found d) →
    cond b x later ≡ Some d → IsFound frames new_frames (cond b (Some v) found) d
found-first true keeps frames new_frames v found x later d h rest e =
    (v, refl, is_diff keeps (value v.plan frames) (value v.plan new_frames) d (subst (IsKeptDiff keeps (value v.plan frames) (value v.plan new_frames)) e h))
found-first false keeps frames new_frames v found x later d h rest e = rest e

found-between :
    (keeps : Bool) (frames new_frames : List TaggedRows) (vs : List ViewState) (ds : List (Option Changes)) (name : List ℕ) (d : Changes) →
    AreKept keeps frames new_frames (map (λ v. v.plan) vs) ds → kept_of name vs ds ≡ Some d → IsFound frames new_frames (view_named name vs) d
found-between keeps frames new_frames [] ds name d h e = absurd (cc (e))
found-between keeps frames new_frames (v ∷ vs) [] name d h e = absurd h
found-between keeps frames new_frames (v ∷ vs) (x ∷ xs) name d h e =
    found-first (bytes_eq v.name name) keeps frames new_frames v (view_named name vs) x (kept_of name vs xs) d h.0
    (found-between keeps frames new_frames vs xs name d h.1) e

none-first : (b : Bool) (later : Option Changes) → later ≡ None → cond b None later ≡ None
none-first true later e = refl
none-first false later e = e

pub none-of-name : (name : List ℕ) (vs : List ViewState) → kept_of name vs (none_kept vs) ≡ None
none-of-name name [] = refl
none-of-name name (v ∷ vs) = none-first (bytes_eq v.name name) (kept_of name vs (none_kept vs)) (none-of-name name vs)

none-found :
    {P : Type 0} (name : List ℕ) (vs : List ViewState) (ds : List (Option Changes)) (d : Changes) → ds ≡ none_kept vs → kept_of name vs ds ≡ Some d → P
none-found name vs ds d is e = absurd (cc (ap (kept_of name vs) is, none-of-name name vs, e))

-- what is kept of the view of a name at a change led its table between the states
pub kept-found :
    (keeps : Bool) (c : Change) (s t : State) (ds : List (Option Changes)) (name : List ℕ) (d : Changes) → AreKeptAt keeps c s t ds →
    kept_of name t.views ds ≡ Some d → IsFound (tagged_frames s.frames) (tagged_frames t.frames) (view_named name t.views) d
kept-found keeps (Append f c) s t ds name d h e = found-between keeps (tagged_frames s.frames) (tagged_frames t.frames) t.views ds name d h e
kept-found keeps (Delete f ns) s t ds name d h e = found-between keeps (tagged_frames s.frames) (tagged_frames t.frames) t.views ds name d h e
kept-found keeps (Replace f rows) s t ds name d h e = found-between keeps (tagged_frames s.frames) (tagged_frames t.frames) t.views ds name d h e
kept-found keeps (Register n p) s t ds name d h e = none-found name t.views ds d h e
kept-found keeps (DropView n) s t ds name d h e = none-found name t.views ds d h e

pub kept-of-none : (name : List ℕ) (vs : List ViewState) → kept_of name vs [] ≡ None
kept-of-none name [] = refl
kept-of-none name (v ∷ vs) = refl

-- ---- what a catalogue's views keep

-- of the view of a name, what the first view of it keeps
kept-first : (b : Bool) (v : View) (o : Option View) (later : Option Changes) → later ≡ option_and_then (λ v. v.live.changes) o →
    cond b v.live.changes later ≡ option_and_then (λ v. v.live.changes) (cond b (Some v) o)
kept-first true v o later e = refl
kept-first false v o later e = e

pub kept-view :
    (name : List ℕ) (vs : List View) → kept_of name (map view_state vs) (changes_kept vs) ≡ option_and_then (λ v. v.live.changes) (find (λ v. bytes_eq v.name name) vs)
kept-view name [] = refl
kept-view name (v ∷ vs) =
    kept-first (bytes_eq v.name name) v (find (λ v. bytes_eq v.name name) vs) (kept_of name (map view_state vs) (changes_kept vs)) (kept-view name vs)

-- of the view at the place of its name
pub kept-placed :
    (name : List ℕ) (vs : List View) (at : ℕ) (v : View) → position (λ v. bytes_eq v.name name) vs ≡ Some at → v ≡ get_or vs at v →
    kept_of name (map view_state vs) (changes_kept vs) ≡ v.live.changes
kept-placed name vs at v found lent =
    kept-view name vs ∙ ap (option_and_then (λ (v : View). v.live.changes)) (placed-found (λ w. bytes_eq w.name name) vs at v found lent)

-- nothing where no place has the name
pub kept-unplaced :
    (name : List ℕ) (vs : List View) → position (λ v. bytes_eq v.name name) vs ≡ None → kept_of name (map view_state vs) (changes_kept vs) ≡ None
kept-unplaced name vs none = kept-view name vs ∙ ap (option_and_then (λ (v : View). v.live.changes)) (none-named (λ w. bytes_eq w.name name) vs none)

missing-first :
    (b : Bool) (v : ViewState) (d later : Option Changes) (found : Option ViewState) → (found ≡ None → later ≡ None) → cond b (Some v) found ≡ None → cond b d later ≡ None
missing-first true v d later found f e = absurd (cc (e))
missing-first false v d later found f e = f e

pub kept-missing : (name : List ℕ) (ws : List ViewState) (ds : List (Option Changes)) → view_named name ws ≡ None → kept_of name ws ds ≡ None
kept-missing name [] ds e = refl
kept-missing name (v ∷ vs) [] e = refl
kept-missing name (v ∷ vs) (d ∷ ds) e = missing-first (bytes_eq v.name name) v d (kept_of name vs ds) (view_named name vs) (kept-missing name vs ds) e

-- and its table
pub table-placed :
    (s : State) (name : List ℕ) (vs : List View) (at : ℕ) (v : View) → s.views ≡ map view_state vs → position (λ v. bytes_eq v.name name) vs ≡ Some at →
    v ≡ get_or vs at v → IsLive v.live (tagged_frames s.frames) → tagged_table_of s name ≡ Some v.live.table.rows
table-placed s name vs at v told found lent live =
    ap (λ ws. option_map (λ (w : ViewState). value w.plan (tagged_frames s.frames)) (view_named name ws)) told
    ∙ (ap (option_map (λ (w : ViewState). value w.plan (tagged_frames s.frames))) (views-found (λ n. bytes_eq n name) vs ∙ ap (option_map view_state) (placed-found (λ w. bytes_eq w.name name) vs at v found lent))
    ∙ ap Some (sym live.table))

-- and its schema
pub schema-placed :
    (s : State) (name : List ℕ) (vs : List View) (at : ℕ) (v : View) → s.views ≡ map view_state vs → position (λ v. bytes_eq v.name name) vs ≡ Some at →
    v ≡ get_or vs at v → IsLive v.live (tagged_frames s.frames) → view_schema_of s name ≡ Some v.live.table.schema
schema-placed s name vs at v told found lent live =
    ap (λ ws. option_map (λ (p : CheckedParts). p.schema) (option_map (λ (w : ViewState). w.plan) (view_named name ws))) told
    ∙ (ap (λ o. option_map (λ (p : CheckedParts). p.schema) (option_map (λ (w : ViewState). w.plan) o))
    (views-found (λ n. bytes_eq n name) vs ∙ ap (option_map view_state) (placed-found (λ w. bytes_eq w.name name) vs at v found lent))
    ∙ ap Some (sym live.schema))

pub some-weaker : {A : Type 0} {P Q : A → Type 0} (o : Option A) → ((a : A) → P a → Q a) → IfSome o P → IfSome o Q
some-weaker None f h = tt
some-weaker (Some a) f h = f a h
