-- Lists of workers, and the desks of all of them.
use Rattle.std.proofs.Common.{◌≡◌, ℕ, zero, suc, ◌+◌, ◌*◌, ◌<◌, ◌≤◌, ◌∙◌, List, [], ◌∷◌, ◌++◌, length, length-append, length-set, map, take, drop, get_or, set, refl, ap, sym, subst, arith}
use Rattle.std.specs.Prelude.{All, None, flat_map, vec_capacity}
use Rattle.std.proofs.lemmas.List.{append-nil, drop-set-lt, flat_map_more, map-append}
use Rattle.std.proofs.Math.Seq.{drop-append-add, drop-append_seam, take-append_seam}
use Rattle.std.proofs.lemmas.List.Concat.{length-flat_map}
use Rattle.std.proofs.lemmas.List.Elements.{All-append, All-cons, All-drop, All-nil, All-push, All-set, All-take}
use Rattle.std.proofs.lemmas.List.Folds.{length-flat_map-take}
use Rattle.std.proofs.lemmas.List.Sums.{sum_by-le}
use Rattle.df_state.specs.Desks.{DeskParts, HaveSameSums}
use Rattle.df_state.proofs.ListFacts.{take-more}
use Rattle.df_jobs.specs.declared.jobs.Outcome.{Outcome}
use Rattle.df_jobs.specs.declared.worker.Worker.{Worker}
use Rattle.df_claims.specs.Seats.{ClaimsView, IsSeatOf}
use Rattle.df_value.specs.declared.chunk.Piece.{Piece}
use Rattle.df_jobs.specs.Jobs.{AreOutcomes, IsOutcome}
use Rattle.df_jobs.specs.Workers.{HasNotBegun, IsIdle, IsWorker, desks_of, outcomes_in}
use Rattle.df_jobs.specs.Counted.{all_without_accepted, without_accepted}

-- so many workers have at most so many desks each
pub few-desks :
    {A D : Type 0} (most : ℕ) (ws : List (Worker A D)) → All (λ w. length w.desks.items ≤ most) ws → length (desks_of ws) ≤ length ws * most
few-desks {A = A} {D = D} most ws few =
    let desks : Worker A D → List DeskParts = λ w. w.desks.items in
    let a = length-flat_map desks ws in
    let b = sum_by-le (λ (w : Worker A D). length w.desks.items) most ws few in
    omega (arith, a, b)

none-idle : {A D : Type 0} (claims : ClaimsView) (most : ℕ) (ws : List (Worker A D)) → All (IsIdle claims most) ws → desks_of ws ≡ []
none-idle claims most [] idle = refl
none-idle claims most (w ∷ ws) idle =
    ap (λ ds. ds ++ desks_of ws) (idle zero w (omega arith)).desks
    ∙ none-idle claims most ws (λ k d h. idle (suc k) d (omega (arith, h)))

-- of idle workers the first one got desks
first-alone :
    {A D : Type 0} (claims : ClaimsView) (most : ℕ) (ws : List (Worker A D)) (w : Worker A D) → All (IsIdle claims most) ws → 0 < length ws → desks_of (set ws 0 w) ≡ w.desks.items
first-alone claims most [] w idle h = absurd (omega (arith, h))
first-alone claims most (v ∷ ws) w idle h =
    ap (λ ds. w.desks.items ++ ds) (none-idle claims most ws (λ k d h. idle (suc k) d (omega (arith, h))))
    ∙ append-nil w.desks.items

drop-at : {X : Type 0} (xs ys : List X) (i : ℕ) (d : X) → drop i xs ≡ drop i ys → length xs ≡ length ys → get_or xs i d ≡ get_or ys i d
drop-at xs ys zero d h k = ap (λ zs. get_or zs 0 d) h
drop-at [] [] (suc i) d h k = refl
drop-at [] (y ∷ ys) (suc i) d h k = absurd (omega (arith, k))
drop-at (x ∷ xs) [] (suc i) d h k = absurd (omega (arith, k))
drop-at (x ∷ xs) (y ∷ ys) (suc i) d h k = drop-at xs ys i d h (omega (arith, k))

-- the desks of a worker are within those of all
pub within-all :
    {A D : Type 0} (was now : List (Worker A D)) (i : ℕ) (d : Worker A D) → i < length was → drop i now ≡ drop i was → length now ≡ length was →
    length (desks_of (take i was)) + length (get_or now i d).desks.items ≤ length (desks_of was)
within-all {A = A} {D = D} was now i d low rest same =
    let desks : Worker A D → List DeskParts = λ w. w.desks.items in
    let a = length-flat_map-take desks was i d low in
    let b = ap (λ (w : Worker A D). length w.desks.items) (drop-at now was i d rest same) in
    omega (arith, a, b)

-- the desks of one more worker behind those before it
pub one-more-worker :
    {A D : Type 0} (was now : List (Worker A D)) (i : ℕ) (d : Worker A D) (given before after : List DeskParts) → i < length was → drop i now ≡ drop i was →
    length now ≡ length was → before ≡ given ++ desks_of (take i was) → after ≡ before ++ (get_or now i d).desks.items → after ≡ given ++ desks_of (take (i + 1) was)
one-more-worker {A = A} {D = D} was now i d given before after low rest same so_far moved =
    let desks : Worker A D → List DeskParts = λ w. w.desks.items in
    moved
    ∙ (ap (λ ds. ds ++ (get_or now i d).desks.items) so_far
    ∙ (flat_map_more desks given (take i was) (get_or now i d)
    ∙ (ap (λ w. given ++ desks_of (take i was ++ w ∷ [])) (drop-at now was i d rest same)
    ∙ ap (λ ws. given ++ desks_of ws) (sym (take-more was i d low)))))

-- what is gathered of an item stays where the item is set to one of which the same is gathered
pub gathered-set :
    {X Y : Type 0} (f : X → List Y) (xs : List X) (i : ℕ) (x d : X) → i < length xs → f x ≡ f (get_or xs i d) → flat_map f (set xs i x) ≡ flat_map f xs
gathered-set f [] i x d h e = refl
gathered-set f (y ∷ ys) zero x d h e = ap (λ zs. zs ++ flat_map f ys) e
gathered-set f (y ∷ ys) (suc i) x d h e = ap (λ zs. f y ++ zs) (gathered-set f ys i x d (omega (arith, h)) e)

-- workers whose desks each stay, but for what was accepted
pub same-desks :
    {A D : Type 0} (was now : List (Worker A D)) → length now ≡ length was →
    ((i : ℕ) (d : Worker A D) → i < length was → all_without_accepted (get_or now i d).desks.items ≡ all_without_accepted (get_or was i d).desks.items) →
    all_without_accepted (desks_of now) ≡ all_without_accepted (desks_of was)
same-desks [] [] len each = refl
same-desks [] (w ∷ now) len each = absurd (omega (arith, len))
same-desks (v ∷ was) [] len each = absurd (omega (arith, len))
same-desks (v ∷ was) (w ∷ now) len each =
    map-append without_accepted w.desks.items (desks_of now)
    ∙ (ap (λ ds. ds ++ all_without_accepted (desks_of now)) (each 0 w (omega arith))
    ∙ (ap (λ ds. all_without_accepted v.desks.items ++ ds) (same-desks was now (omega (arith, len)) (λ i d h. each (suc i) d (omega (arith, h))))
    ∙ sym (map-append without_accepted v.desks.items (desks_of was))))

-- what workers have done are outcomes
pub all-outcomes :
    {A D : Type 0} (claims : ClaimsView) (most : ℕ) (chunks : List (List (ℕ × Piece))) (ws : List (Worker A D)) → All (IsWorker claims most chunks) ws →
    AreOutcomes chunks (outcomes_in ws)
all-outcomes claims most chunks [] are = All-nil (IsOutcome chunks)
all-outcomes claims most chunks (w ∷ ws) are =
    All-append (IsOutcome chunks) w.done.items (outcomes_in ws) (are 0 w (omega arith)).done
    (all-outcomes claims most chunks ws (λ k d h. are (suc k) d (omega (arith, h))))

-- workers of whom the same are stopped as of those of whom none is
pub all-running :
    {A D : Type 0} (was now : List (Worker A D)) → map (λ w. w.stopped) now ≡ map (λ w. w.stopped) was → All (λ w. w.stopped ≡ None) now → All (λ w. w.stopped ≡ None) was
all-running {A = A} {D = D} [] now same running = All-nil (λ (w : Worker A D). w.stopped ≡ None)
all-running (v ∷ was) [] same running = absurd (cc)
all-running {A = A} {D = D} (v ∷ was) (w ∷ now) same running =
    let first : v.stopped ≡ None = let here = running 0 w (omega arith) in cc in
    let rest : map (λ (x : Worker A D). x.stopped) now ≡ map (λ (x : Worker A D). x.stopped) was = cc in
    All-cons (λ (x : Worker A D). x.stopped ≡ None) v was first (all-running was now rest (λ k d h. running (suc k) d (omega (arith, h))))

drop-next : {X : Type 0} (xs : List X) (i : ℕ) → drop (suc i) xs ≡ drop 1 (drop i xs)
drop-next xs zero = refl
drop-next [] (suc i) = refl
drop-next (x ∷ xs) (suc i) = drop-next xs i

-- what is behind a place does not change with what stands there
pub drop-set : {X : Type 0} (xs ys : List X) (i : ℕ) (x : X) → drop i xs ≡ drop i ys → drop (i + 1) (set xs i x) ≡ drop (i + 1) ys
drop-set xs ys i x h =
    let e : i + 1 ≡ suc i = omega arith in
    drop-set-lt (i + 1) xs i x (omega arith)
    ∙ (ap (λ n. drop n xs) e
    ∙ (drop-next xs i
    ∙ (ap (drop 1) h
    ∙ (sym (drop-next ys i)
    ∙ ap (λ n. drop n ys) (sym e)))))

-- an item that is set to one with the same key leaves the keys
pub keys-set : {X Y : Type 0} (key : X → Y) (xs : List X) (i : ℕ) (x d : X) → i < length xs → key x ≡ key (get_or xs i d) → map key (set xs i x) ≡ map key xs
keys-set key [] i x d h e = refl
keys-set key (y ∷ ys) zero x d h e = ap (λ k. k ∷ map key ys) e
keys-set key (y ∷ ys) (suc i) x d h e = ap (λ ks. key y ∷ ks) (keys-set key ys i x d (omega (arith, h)) e)

-- the first worker got these desks, and shared them out
pub shared-out :
    {A D : Type 0} (claims : ClaimsView) (most : ℕ) (ws lent now : List (Worker A D)) (v w : Worker A D) (given : List DeskParts) → All (IsIdle claims most) ws → 0 < length ws → v ≡ get_or ws 0 v →
    w.desks.items ≡ v.desks.items ++ given → lent ≡ set ws 0 w → HaveSameSums (desks_of lent) (desks_of now) → HaveSameSums given (desks_of now)
shared-out {A = A} {D = D} claims most ws lent now v w given idle some is moved set_to same =
    let none : v.desks.items ≡ [] = ap (λ (x : Worker A D). x.desks.items) is ∙ (idle 0 v some).desks in
    let first : desks_of lent ≡ given =
    ap desks_of set_to ∙ (first-alone claims most ws w idle some ∙ (moved ∙ ap (λ ds. ds ++ given) none)) in
    subst (λ ds. HaveSameSums ds (desks_of now)) first same

-- behind the first place the workers are as they were
pub rest-idle :
    {A D : Type 0} (claims : ClaimsView) (most : ℕ) (ws : List (Worker A D)) (w : Worker A D) → All (IsIdle claims most) ws → All (IsIdle claims most) (drop 1 (set ws 0 w))
rest-idle claims most ws w idle =
    subst (λ vs. All (IsIdle claims most) vs) (sym (drop-set-lt 1 ws 0 w (omega arith))) (All-drop (IsIdle claims most) 1 ws idle)

-- workers that have not begun are workers
begun-workers :
    {A D : Type 0} (claims : ClaimsView) (most : ℕ) (chunks : List (List (ℕ × Piece))) (ws : List (Worker A D)) → All (HasNotBegun claims most) ws →
    All (IsWorker claims most chunks) ws
begun-workers claims most chunks ws begun k d h =
    let w = begun k d h in record {
      seat = w.seat;
      desks = w.desks;
      done = subst (λ os. AreOutcomes chunks os) (sym w.done) (All-nil (IsOutcome chunks));
    }

-- the workers of a pool that have their desks, as a list that is the same
pub ready-workers :
    {A D : Type 0} (claims : ClaimsView) (most : ℕ) (chunks : List (List (ℕ × Piece))) (ws now : List (Worker A D)) (seats room : ℕ) → ws ≡ now →
    All (HasNotBegun claims most) now → length now ≡ seats → seats * most ≤ room → All (IsWorker claims most chunks) ws × (length ws * most ≤ room)
ready-workers {A = A} {D = D} claims most chunks ws now seats room same begun many fits = (
  subst (λ (vs : List (Worker A D)). All (IsWorker claims most chunks) vs) (sym same) (begun-workers claims most chunks now begun),
  subst (λ n. n * most ≤ room) (sym (ap length same ∙ many)) fits,
)

-- workers that have not begun have done nothing
pub nothing-done : {A D : Type 0} (claims : ClaimsView) (most : ℕ) (ws : List (Worker A D)) → All (HasNotBegun claims most) ws → outcomes_in ws ≡ []
nothing-done claims most [] begun = refl
nothing-done claims most (w ∷ ws) begun =
    ap (λ os. os ++ outcomes_in ws) (begun zero w (omega arith)).done
    ∙ nothing-done claims most ws (λ k d h. begun (suc k) d (omega (arith, h)))

-- workers that are parted at a place, of which one before it and the one at it change
module _ {A D : Type 0} (claims : ClaimsView) (most : ℕ) (ws givers takers : List (Worker A D)) (to : ℕ) (parted : ws ≡ givers ++ takers) (len : length givers ≡ to) where
  pub giver-there : (from : ℕ) → from < to → from < length givers
  giver-there from low = omega (arith, low, len)

  pub taker-there : to < length ws → 0 < length takers
  taker-there low =
      let all = ap length parted in
      let both = length-append givers takers in
      omega (arith, low, all, both, len)

  parted-idle : All (IsIdle claims most) (drop to ws) → All (IsIdle claims most) takers
  parted-idle idle =
      subst (λ vs. All (IsIdle claims most) vs)
      (ap (drop to) parted ∙ (ap (λ n. drop n (givers ++ takers)) (sym len) ∙ drop-append_seam givers takers)) idle

  taker-idle : All (IsIdle claims most) (drop to ws) → to < length ws → (e : Worker A D) → IsIdle claims most (get_or takers 0 e)
  taker-idle idle low e = parted-idle idle 0 e (taker-there low)

  givers-begun : All (HasNotBegun claims most) ws → All (HasNotBegun claims most) givers
  givers-begun begun =
      subst (λ vs. All (HasNotBegun claims most) vs) (take-append_seam givers takers)
      (All-take (HasNotBegun claims most) (length givers) (givers ++ takers) (subst (λ vs. All (HasNotBegun claims most) vs) parted begun))

  takers-begun : All (HasNotBegun claims most) ws → All (HasNotBegun claims most) takers
  takers-begun begun =
      subst (λ vs. All (HasNotBegun claims most) vs) (drop-append_seam givers takers)
      (All-drop (HasNotBegun claims most) (length givers) (givers ++ takers) (subst (λ vs. All (HasNotBegun claims most) vs) parted begun))

  -- the one at the place has room for the desks of the other
  pub room-there :
      All (HasNotBegun claims most) ws → All (IsIdle claims most) (drop to ws) → to < length ws → (from : ℕ) → from < to → (d e : Worker A D) →
      length (get_or takers 0 e).desks.items + length (get_or givers from d).desks.items ≤ vec_capacity (get_or takers 0 e).desks
  room-there begun idle within from low d e =
      let few = (givers-begun begun from d (giver-there from low)).desks in
      let taker = taker-idle idle within e in
      let none = ap length taker.desks in
      let room = taker.room in
      omega (arith, few, none, room)

  pub exchanged-begun :
      All (HasNotBegun claims most) ws → All (IsIdle claims most) (drop to ws) → to < length ws → (from : ℕ) → from < to → (d e giver taker : Worker A D) →
      giver.seat ≡ (get_or givers from d).seat → giver.done ≡ (get_or givers from d).done → taker.seat ≡ (get_or takers 0 e).seat → taker.done ≡ (get_or takers 0 e).done →
      length giver.desks.items ≡ length (get_or givers from d).desks.items →
      length taker.desks.items ≤ length (get_or takers 0 e).desks.items + length (get_or givers from d).desks.items →
      All (HasNotBegun claims most) (set givers from giver ++ set takers 0 taker)
  exchanged-begun begun idle within from low d e giver taker giver_seat giver_done taker_seat taker_done same more =
      let was = givers-begun begun from d (giver-there from low) in
      let free = taker-idle idle within e in
      let few = was.desks in
      let none = ap length free.desks in
      let given : HasNotBegun claims most giver = record {
        seat = subst (IsSeatOf claims) (sym giver_seat) was.seat;
        desks = omega (arith, same, few);
        done = ap (λ v. v.items) giver_done ∙ was.done;
      } in
      let taken : HasNotBegun claims most taker = record {
        seat = subst (IsSeatOf claims) (sym taker_seat) free.seat;
        desks = omega (arith, more, none, few);
        done = ap (λ v. v.items) taker_done ∙ free.done;
      } in
      All-append (HasNotBegun claims most) (set givers from giver) (set takers 0 taker) (All-set (HasNotBegun claims most) givers from giver given (givers-begun begun))
      (All-set (HasNotBegun claims most) takers 0 taker taken (takers-begun begun))

  pub exchanged-idle :
      All (IsIdle claims most) (drop to ws) → (from : ℕ) (giver taker : Worker A D) → All (IsIdle claims most) (drop (to + 1) (set givers from giver ++ set takers 0 taker))
  exchanged-idle idle from giver taker =
      subst (λ vs. All (IsIdle claims most) vs)
      (sym (ap (λ n. drop (n + 1) (set givers from giver ++ set takers 0 taker)) (sym len ∙ sym (length-set givers from giver))
      ∙ drop-append-add (set givers from giver) (set takers 0 taker) 1))
      (rest-idle claims most takers taker (parted-idle idle))

  pub exchanged-count : (from : ℕ) (giver taker : Worker A D) → length (set givers from giver ++ set takers 0 taker) ≡ length ws
  exchanged-count from giver taker =
      let all = ap length parted in
      let both = length-append givers takers in
      let now = length-append (set givers from giver) (set takers 0 taker) in
      let a = length-set givers from giver in
      let b = length-set takers 0 taker in
      omega (arith, all, both, now, a, b)

-- what one more worker has done is behind what was gathered, and it was not stopped either
pub one-more-done :
    {A D : Type 0} (ws : List (Worker A D)) (w : Worker A D) (before after : List Outcome) → (before ≡ outcomes_in ws) × All (λ v. v.stopped ≡ None) ws →
    after ≡ before ++ w.done.items → w.stopped ≡ None → (after ≡ outcomes_in (ws ++ w ∷ [])) × All (λ v. v.stopped ≡ None) (ws ++ w ∷ [])
one-more-done {A = A} {D = D} ws w before after so_far given here = (
  given ∙ (ap (λ os. os ++ w.done.items) so_far.0 ∙ flat_map_more (λ (v : Worker A D). v.done.items) [] ws w),
  All-push (λ (v : Worker A D). v.stopped ≡ None) ws w so_far.1 here,
)

pub none-running : {A D : Type 0} → All {X = Worker A D} (λ v. v.stopped ≡ None) []
none-running {A = A} {D = D} = All-nil (λ (v : Worker A D). v.stopped ≡ None)

-- the workers that were gone through are all of them
pub all-done :
    {A D : Type 0} (ws all : List (Worker A D)) (os : List Outcome) → ws ≡ all → (os ≡ outcomes_in ws) × All (λ v. v.stopped ≡ None) ws →
    (os ≡ outcomes_in all) × All (λ v. v.stopped ≡ None) all
all-done {A = A} {D = D} ws all os same done = (done.0 ∙ ap outcomes_in same, subst (λ vs. All (λ (v : Worker A D). v.stopped ≡ None) vs) same done.1)
