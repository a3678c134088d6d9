-- What a session in a hall is told, step by step.
use Rattle.std.proofs.Common.{◌≡◌, ◌∙◌, ◌≤◌, ◌<◌, ◌⊎◌, ⊎_elim, inl, ℕ, List, [], ◌∷◌, ap, arith, length, length-append, refl, subst, sym}
use Rattle.std.specs.Prelude.{Option, Some, None, Result, Ok, Err, IfErr, OnErr, OnOk, slice_index_or, slice_set}
use mathlib.Core.List.{IsPrefix}
use Rattle.df_value.specs.declared.cell.CellType.{CellType}
use Rattle.df_state.specs.Changes.{after}
use Rattle.df_state.specs.declared.change.Change.{Change}
use Rattle.df_state.specs.declared.fault.CatalogueFault.{CatalogueFault}
use Rattle.df_state.specs.declared.state.State.{State}
use Rattle.df_frame.specs.declared.frame_change.FrameChange.{FrameChange}
use Rattle.df_state.specs.Desks.{DeskParts, desk_after}
use Rattle.df_state.specs.FrameChanges.{change_of}
use Rattle.df_state.proofs.FrameChangeFacts.{desks-counted}
use Rattle.df_shell.proofs.DesksFacts.{AreAfter, InOrder, counted, frame-there, ordered}
use Rattle.df_shell.specs.Changing.{AnswersTold, IsAnswered, IsKnown, IsLearnt, IsLongEnough}
use Rattle.df_shell.specs.Halls.{Follows, HallParts, IsKeptInHall, IsMadeInHall, IsRefusedInHall}
use Rattle.df_session.specs.declared.refusal.Refusal.{Refusal}
use Rattle.df_hall.specs.Halls.{AnswersOverHistory}
use Rattle.df_versions.proofs.Prefixes.{prefix_self, prefix_whole}
use Rattle.df_versions.specs.Answered.{IsAccepted, IsRefusedAt, told_states}
use Rattle.df_versions.specs.declared.fault.ChangeFault.{ChangeFault}
use Rattle.df_versions.specs.declared.fault.ChangeFault.TheVariants.{Ahead, Memory, Refused, Spent}

pub follows-self : (s : HallParts) → Follows s s
follows-self s = record { told = prefix_self s.told; seen = refl }

pub kept-self : (s : HallParts) → IsKeptInHall s s
kept-self s = record { follows = follows-self s; desks = refl }

-- a reader that learns a history no shorter than the longest that it knows has that one
pub heard :
    (old new told : List State) → IsPrefix told new → (new ≡ old) ⊎ (new ≡ told) → length old ≤ length told → new ≡ told
heard old new told q longest le =
    ⊎_elim (λ (e : new ≡ old). sym (prefix_whole told new q (subst (λ x. length x ≤ length told) (sym e) le))) (λ e. e) longest

two-states : (told : List State) (c : Change) → IsAccepted told c → 2 ≤ length told
two-states told c h = omega (arith, ap length h.1.3 ∙ length-append h.1.0 (h.1.1 ∷ after h.1.1 c ∷ []))

one-state : (told : List State) (c : Change) (f : CatalogueFault) → IsRefusedAt told c f → 1 ≤ length told
one-state told c f h = omega (arith, ap length h.1.3 ∙ length-append h.1.0 (h.1.1 ∷ []))

module _ {J : Type 0} where
  -- what the hall answers to whoever was told this last
  pub told-of :
      {schemas : List (List (List ℕ × CellType))} (told : Option (List State)) (known : List State) (c : Change) (r : Result (List State) (ChangeFault J)) → IsKnown told known →
      AnswersOverHistory schemas (told_states told) c r → AnswersTold known c r
  told-of None known c (Ok now) k h = (h.answer.accepted, omega (arith, two-states now c h.answer.accepted, k))
  told-of (Some t) known c (Ok now) k h = (h.answer.accepted, subst (λ x. length x < length now) (sym k) h.answer.later)
  told-of None known c (Err (Refused f now)) k h =
      (h.answer.refused.0, omega (arith, one-state now c f h.answer.refused.0, k))
  told-of (Some t) known c (Err (Refused f now)) k h =
      (h.answer.refused.0, subst (λ x. length x ≤ length now) (sym k) h.answer.refused.1)
  told-of o known c (Err Ahead) k h = tt
  told-of o known c (Err Spent) k h = tt
  told-of o known c (Err Memory) k h = tt

  -- the answer to a change, with the desks after it
  pub answered :
      {schemas : List (List (List ℕ × CellType))} (told : Option (List State)) (floor : ℕ) (old : HallParts) (new : List DeskParts) (c : Change) (r : Result (List State) (ChangeFault J)) →
      IsKnown told old.told → floor ≡ told_states told → AnswersOverHistory schemas floor c r → AreAfter old.desks c r new →
      IsAnswered old c (Some r) (record old { desks = new })
  answered {schemas = schemas} told floor old new c (Ok now) k e h d =
      (told-of told old.told c (Ok now) k (subst (λ n. AnswersOverHistory {J = J} schemas n c (Ok now)) e h), λ i. record old { desks = d i })
  answered {schemas = schemas} told floor old new c (Err f) k e h d =
      (told-of told old.told c (Err f) k (subst (λ n. AnswersOverHistory {J = J} schemas n c (Err f)) e h), λ i. record old { desks = d i })

  -- the same where the change went through the desk at this index
  pub desk-answered :
      {schemas : List (List (List ℕ × CellType))} (told : Option (List State)) (floor : ℕ) (p : HallParts) (desks held : List DeskParts) (f : ℕ) (none new : DeskParts) (c : FrameChange)
      (r : Result (List State) (ChangeFault J)) → IsKnown told p.told → floor ≡ told_states told → desks ≡ p.desks → InOrder p.desks →
      f < length p.desks → held ≡ slice_set desks f new →
      AnswersOverHistory schemas floor (change_of (slice_index_or desks f none).frame c) r →
      OnOk r (new ≡ desk_after (slice_index_or desks f none) (change_of (slice_index_or desks f none).frame c)) →
      OnErr r (new ≡ slice_index_or desks f none) → IsAnswered p (change_of f c) (Some r) (record p { desks = held }) × InOrder held
  desk-answered {schemas = schemas} told floor p desks held f none new c r k e same order lt is h share kept =
      let desk : DeskParts = slice_index_or desks f none in
      let ordered_desks : InOrder desks = subst InOrder (sym same) order in
      let within : f < length desks = omega (arith, lt, ap length same) in
      let there : desk.frame ≡ f = frame-there desks f none ordered_desks within in
      let counts : OnOk r (new ≡ desk_after desk (change_of f c)) =
      subst (λ i. OnOk r (new ≡ desk_after desk (change_of i c))) there share in
      let all : AreAfter desks (change_of f c) r held =
      subst (AreAfter desks (change_of f c) r) (sym is)
      (counted desks f none (change_of f c) r new within (desks-counted desks f c) counts kept) in
      let told_answer : AnswersOverHistory {J = J} schemas floor (change_of f c) r =
      subst (λ i. AnswersOverHistory {J = J} schemas floor (change_of i c) r) there h in (
        answered told floor p held (change_of f c) r k e told_answer (subst (λ ds. AreAfter ds (change_of f c) r held) same all),
        ordered desks held (change_of f c) r all ordered_desks,
      )

  not-learnt : (mid : HallParts) (f : ChangeFault J) (x : Unit {0}) (new : HallParts) → IsLearnt mid (Err f) (Ok x) new → ⊥
  not-learnt mid Ahead x new l = l
  not-learnt mid Spent x new l = l
  not-learnt mid (Refused f told) x new l = l
  not-learnt mid Memory x new l = l

  -- the change was made, refused, or neither
  pub made :
      (old mid new : HallParts) (c : Change) (answer : Result (List State) (ChangeFault J)) (r : Result (Unit {0}) Refusal) →
      IsAnswered old c (Some answer) mid → IsLearnt mid answer r new → OnOk r (IsMadeInHall old new c)
  made old mid new c (Ok told) (Ok x) a l =
      let there : mid.told ≡ old.told = ap (λ p. p.told) a.1 in
      let told_now : new.told ≡ told = ap (λ p. p.told) l.1 in record {
        follows = record {
          told = subst (λ t. IsPrefix t new.told) there l.0.told;
          seen = l.0.seen ∙ ap (λ p. p.seen) a.1;
        };
        longer = subst (λ t. length old.told < length t) (sym told_now) a.0.1;
        accepted = subst (λ t. IsAccepted t c) (sym told_now) a.0.0;
        desks = ap (λ p. p.desks) l.1 ∙ ap (λ p. p.desks) a.1;
      }
  made old mid new c (Ok told) (Err e) a l = tt
  made old mid new c (Err f) (Ok x) a l = absurd (not-learnt mid f x new l)
  made old mid new c (Err f) (Err e) a l = tt

  pub refused :
      (old mid new : HallParts) (c : Change) (answer : Result (List State) (ChangeFault J)) (r : Result (Unit {0}) Refusal) →
      IsAnswered old c (Some answer) mid → IsLearnt mid answer r new → IfErr r (IsRefusedInHall old new c)
  refused old mid new c answer (Ok x) a l = tt
  refused old mid new c (Ok told) (Err e) a l = absurd l
  refused old mid new c (Err (Refused f told)) (Err e) a l =
      subst (IsRefusedInHall old new c) (sym l.2) (inl (subst (λ t. IsRefusedAt t c f) (sym (ap (λ p. p.told) l.1)) a.0.0))
  refused old mid new c (Err Spent) (Err e) a l = subst (IsRefusedInHall old new c) (sym l.1) tt
  refused old mid new c (Err Ahead) (Err e) a l = subst (IsRefusedInHall old new c) (sym l.1) tt
  refused old mid new c (Err Memory) (Err e) a l = subst (IsRefusedInHall old new c) (sym l.1) tt

  pub kept :
      (old mid new : HallParts) (c : Change) (answer : Result (List State) (ChangeFault J)) (r : Result (Unit {0}) Refusal) →
      IsAnswered old c (Some answer) mid → IsLearnt mid answer r new → OnErr r (IsKeptInHall old new)
  kept old mid new c answer (Ok x) a l = tt
  kept old mid new c (Ok told) (Err e) a l = absurd l
  kept old mid new c (Err (Refused f told)) (Err e) a l = record {
    follows = subst (λ p. Follows p new) a.1 l.0;
    desks = ap (λ p. p.desks) l.1 ∙ ap (λ p. p.desks) a.1;
  }
  kept old mid new c (Err Spent) (Err e) a l = subst (IsKeptInHall old) (sym (l.0 ∙ a.1)) (kept-self old)
  kept old mid new c (Err Ahead) (Err e) a l = subst (IsKeptInHall old) (sym (l.0 ∙ a.1)) (kept-self old)
  kept old mid new c (Err Memory) (Err e) a l = subst (IsKeptInHall old) (sym (l.0 ∙ a.1)) (kept-self old)

  pub answered-enough :
      (old mid : HallParts) (c : Change) (answer : Result (List State) (ChangeFault J)) → IsAnswered old c (Some answer) mid →
      IsLongEnough mid.told answer
  answered-enough old mid c (Ok told) a =
      subst (λ (t : List State). length t ≤ length told) (sym (ap (λ p. p.told) a.1)) (omega (arith, a.0.1))
  answered-enough old mid c (Err (Refused f told)) a =
      subst (λ (t : List State). length t ≤ length told) (sym (ap (λ p. p.told) a.1)) a.0.1
  answered-enough old mid c (Err Ahead) a = tt
  answered-enough old mid c (Err Spent) a = tt
  answered-enough old mid c (Err Memory) a = tt
