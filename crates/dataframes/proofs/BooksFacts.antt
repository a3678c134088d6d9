-- What the books answer, step by step.
use Rattle.std.proofs.Common.{◌≡◌, ◌<◌, ℕ, List, ap, arith, length, refl, subst, sym}
use Rattle.std.specs.Prelude.{Option, Some, None, Result, Ok, Err, OnErr, OnOk, slice_index_or, slice_set}
use Rattle.df_value.specs.Chunks.{ChunkParts}
use Rattle.df_value.specs.declared.cell.Cell.{Cell}
use Rattle.df_value.specs.declared.cell.CellType.{CellType}
use Rattle.df_state.specs.declared.change.Change.{Change}
use Rattle.df_state.specs.declared.state.State.{State}
use Rattle.df_frame.specs.declared.frame_change.FrameChange.{FrameChange}
use Rattle.df_state.specs.Desks.{DeskParts, desk_after, desks_after}
use Rattle.df_state.specs.FrameChanges.{change_of}
use Rattle.df_state.proofs.FrameChangeFacts.{desks-counted}
use Rattle.df_hall.specs.Halls.{AnswersOverHistory}
use Rattle.df_versions.specs.Answered.{told_states}
use Rattle.df_versions.specs.declared.fault.ChangeFault.{ChangeFault}
use Rattle.dataframes.specs.Appends.{Appends, IsAppendedChunk}
use Rattle.dataframes.specs.Books.{BooksParts, InOrder, IsNext, IsThrough, states_told}
use Rattle.dataframes.specs.declared.books.Appended.{Appended}
use Rattle.dataframes.specs.declared.fault.ServiceFault.{ServiceFault}
use Rattle.dataframes.specs.declared.fault.ServiceFault.TheVariants as fault
use Rattle.dataframes.proofs.DesksFacts.{AreAfter, counted, frame-there, ordered}

-- of how many states was told
pub told-length : (o : Option (List State)) → told_states o ≡ length (states_told o)
told-length None = refl
told-length (Some told) = refl

module _ {J : Type 0} where
  -- the answer to a change, with the desks after it
  answered :
      (schemas : List (List (List ℕ × CellType))) (floor : ℕ) (p : BooksParts) (new : List DeskParts) (c : Change) (r : Result (List State) (ChangeFault J)) →
      floor ≡ length p.told → AnswersOverHistory {J = J} schemas floor c r → AreAfter p.desks c r new →
      IsThrough {J = J} schemas p c (Some r) (record p { desks = new })
  answered schemas floor p new c (Ok told) e h d = (subst (λ n. AnswersOverHistory {J = J} schemas n c (Ok told)) e h, λ i. record p { desks = d i })
  answered schemas floor p new c (Err f) e h d = (subst (λ n. AnswersOverHistory {J = J} schemas n c (Err f)) e h, λ i. record p { desks = d i })

  -- the same where the change went through the desk at this index
  pub desk-answered :
      (schemas : List (List (List ℕ × CellType))) (floor : ℕ) (p : BooksParts) (desks held : List DeskParts) (f : ℕ) (none new : DeskParts) (c : FrameChange)
      (r : Result (List State) (ChangeFault J)) → floor ≡ length p.told → desks ≡ p.desks → InOrder p.desks →
      f < length p.desks → held ≡ slice_set desks f new →
      AnswersOverHistory {J = J} schemas floor (change_of (slice_index_or desks f none).frame c) r →
      OnOk r (new ≡ desk_after (slice_index_or desks f none) (change_of (slice_index_or desks f none).frame c)) →
      OnErr r (new ≡ slice_index_or desks f none) → IsThrough {J = J} schemas p (change_of f c) (Some r) (record p { desks = held }) × InOrder held
  desk-answered schemas floor p desks held f none new c r e same order lt is h share kept =
      let desk : DeskParts = slice_index_or desks f none in
      let ordered_desks : InOrder desks = subst InOrder (sym same) order in
      let within : f < length desks = omega (arith, lt, ap length same) in
      let there : desk.frame ≡ f = frame-there desks f none ordered_desks within in
      let counts : OnOk r (new ≡ desk_after desk (change_of f c)) =
      subst (λ i. OnOk r (new ≡ desk_after desk (change_of i c))) there share in
      let all : AreAfter desks (change_of f c) r held =
      subst (AreAfter desks (change_of f c) r) (sym is)
      (counted desks f none (change_of f c) r new within (desks-counted desks f c) counts kept) in
      let answer : AnswersOverHistory {J = J} schemas floor (change_of f c) r =
      subst (λ i. AnswersOverHistory {J = J} schemas floor (change_of i c) r) there h in (
        answered schemas floor p held (change_of f c) r e answer (subst (λ ds. AreAfter ds (change_of f c) r held) same all),
        ordered desks held (change_of f c) r all ordered_desks,
      )

  are-same : (desks : List DeskParts) (c : Change) (r : Result (List State) (ChangeFault J)) → desks_after desks c ≡ desks → AreAfter desks c r desks
  are-same desks c (Ok x) e = sym e
  are-same desks c (Err f) e = refl

  -- an answer to the next chunk of a frame is one to its rows
  pub appended :
      (schemas : List (List (List ℕ × CellType))) (old new : BooksParts) (frame : ℕ) (rows : List (List Cell)) (chunk : ChunkParts)
      (result : Result (Appended J) (ServiceFault J)) → IsNext schemas old frame rows (Ok chunk) →
      IsAppendedChunk {J = J} schemas old frame chunk result new → Appends {J = J} schemas old frame rows result new
  appended schemas old new frame rows chunk (Ok a) n h = record { chunk = chunk; next = n; answer = h }
  appended schemas old new frame rows chunk (Err fault.NoFrame) n h = h
  appended schemas old new frame rows chunk (Err (fault.Lines f)) n h = absurd h
  appended schemas old new frame rows chunk (Err (fault.Rows f)) n h = absurd h
  appended schemas old new frame rows chunk (Err fault.FixedView) n h = absurd h
  appended schemas old new frame rows chunk (Err (fault.Refused f)) n h = record { chunk = chunk; next = n; answer = h }
