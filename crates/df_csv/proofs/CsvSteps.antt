-- What one read of a plain reader takes.
use Rattle.std.proofs.Common.{◌≡◌, ℕ, true, false, List, [], ◌∷◌, Option, Some, None, refl, sym, ◌∙◌}
use Rattle.std.specs.Prelude.{IsSome}
use Rattle.std.proofs.lemmas.Bool.{false≢true}
use Rattle.csv.specs.Machine.{Read, next_record}
use Rattle.csv.specs.Reading.{ExplainsRead, NextIs, ReadRecord, ReadsNext, ReadsOn, default_config, pending_of, source_of}
use Rattle.csv.specs.declared.error.ErrorKind.TheVariants as kind
use Rattle.csv.specs.declared.record.Position.{Position}
use Rattle.csv.specs.declared.reader.Reader.{Reader}
use Rattle.csv.specs.declared.parser.State.{State}
use Rattle.df_csv.specs.Rows.{IsPlain, IsNextRow, records_at}
use Rattle.df_csv.specs.declared.rows.NextRow.TheVariants.{Row, End}
use Rattle.df_csv.proofs.Fuel.{rows_more, rows_none, took}

value_of : {T : Type 0} (o : Option T) → IsSome o → (x : T) × (o ≡ Some x)
value_of None h = absurd (false≢true h)
value_of (Some x) h = (x, refl)

row_at : (s s2 : State) (xs ys : List ℕ) (f : List (List ℕ)) (p : Read) → next_record default_config s [] [] xs ≡ Some p → f ≡ p.0 → s2 ≡ p.1 → ys ≡ p.2
    → records_at s (Some xs) ≡ f ∷ records_at s2 (Some ys)
row_at s s2 xs ys f p e ef es ey = rw (ef, es, ey) (rows_more default_config s xs p e)

end_at : (s s2 : State) (xs : List ℕ) (after : Option (List ℕ)) (f : List (List ℕ)) → ReadsNext default_config s (Some xs) after false f s2 → records_at s (Some xs) ≡ []
end_at s s2 xs None f r = absurd r
end_at s s2 xs (Some ys) f r = none (next_record default_config s [] [] xs) refl r
  where
    none : (o : Option Read) → next_record default_config s [] [] xs ≡ o → NextIs o false f s2 ys → records_at s (Some xs) ≡ []
    none None e h = rows_none default_config s xs e
    none (Some p) e h = absurd (false≢true h.0)

pub found_row : {R : Type 0} (rem : R → Option (List ℕ)) (a b : Reader R) (f : List (List ℕ)) → IsPlain rem a → ReadRecord rem a b true f → ReadsOn a b
    → IsNextRow rem a b f Row
found_row rem a b f h r on =
    let (xs, at) = value_of (source_of rem a) h.4 in
    let (ys, after, p, e, ef, es, ey) = took default_config a.state b.state xs (pending_of (rem b.rdr) b) f (rw (at, h.2) at r.0) in
    let left : source_of rem b ≡ Some ys = rw r.1 after in
    ((on.1 ∙ h.0, (on.4 h.1).0, on.0 ∙ h.2, on.2 ∙ h.3, rw left refl), rw (at, left) (row_at a.state b.state xs ys f p e ef es ey))

pub no_row : {R : Type 0} (rem : R → Option (List ℕ)) (a b : Reader R) (f : List (List ℕ)) → IsPlain rem a → ReadRecord rem a b false f → IsNextRow rem a b f End
no_row rem a b f h r =
    let (xs, at) = value_of (source_of rem a) h.4 in
    rw at (end_at a.state b.state xs (pending_of (rem b.rdr) b) f (rw (at, h.2) at r.0))

-- a reader that takes records of any length finds none of another length
pub all_like : {R : Type 0} (rem : R → Option (List ℕ)) (a b : Reader R) (pos : Option Position) (n m : ℕ) → IsPlain rem a
    → ExplainsRead rem a b false (kind.UnequalLengths pos n m) → ⊥
all_like rem a b pos n m h w = false≢true (sym w.0 ∙ h.3)
