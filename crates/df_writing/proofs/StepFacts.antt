-- The steps of a plan as they are written.
use Rattle.std.proofs.Common.{◌≡◌, ◌∙◌, ◌++◌, ℕ, true, false, List, [], ◌∷◌, Result, ap, codes, flat_map, refl, sym}
use Rattle.std.specs.Prelude.{OnOk}
use Rattle.std.proofs.lemmas.Grind.{flat_map-append}
use Rattle.std.proofs.lemmas.List.{append-nil, append_assoc}
use Rattle.std.proofs.lemmas.Result.{on_ok_weaker}
use Rattle.toml.specs.Data.{Data}
use Rattle.df_writing.specs.StepData.{Written, frame_name, has_any, plan_table, side_data, then_step}
use Rattle.df_writing.specs.Texts.{data_text, quoted}
use Rattle.df_text.specs.declared.document.FrameSpec.{FrameSpec}
use Rattle.df_writing.specs.ViewTables.{step_lines, steps_before, steps_text}
use Rattle.df_writing.proofs.TextFacts.{items_text-join}

-- one more step behind others
pub steps_text-snoc : (between : List ℕ) (ds : List Data) (d : Data) → steps_text between (ds ++ d ∷ []) ≡ steps_before between ds ++ data_text d
steps_text-snoc between [] d = append-nil (data_text d)
steps_text-snoc between (e ∷ ds) d =
    let f : Data → List ℕ = λ x. between ++ data_text x in
    ap (λ (t : List ℕ). data_text e ++ t) (flat_map-append f ds (d ∷ []) ∙ ap (λ (t : List ℕ). flat_map f ds ++ t) (append-nil (between ++ data_text d)))
    ∙ simp append_assoc

pub has_any-snoc : (ds : List Data) (d : Data) → has_any (ds ++ d ∷ []) ≡ true
has_any-snoc [] d = refl
has_any-snoc (e ∷ ds) d = refl

pub some-step : (w after : Written) (d : Data) → after ≡ then_step w d → true ≡ has_any after.steps
some-step w after d is = rw (is, has_any-snoc w.steps d) refl

-- a step was written behind those before it
pub step_written :
    {T E : Type 0} (r : Result T E) (between t t1 t2 : List ℕ) (w after : Written) (d : Data) → after ≡ then_step w d
    → t1 ≡ t ++ steps_before between w.steps → OnOk r (t2 ≡ t1 ++ data_text d) → OnOk r (t2 ≡ t ++ steps_text between after.steps)
step_written r between t t1 t2 w after d is before last =
    on_ok_weaker r (λ e.
    e ∙ (ap (λ (x : List ℕ). x ++ data_text d) before
    ∙ (append_assoc t (steps_before between w.steps) (data_text d)
    ∙ (ap (λ (x : List ℕ). t ++ x) (sym (steps_text-snoc between w.steps d)) ∙ ap (λ (x : Written). t ++ steps_text between x.steps) (sym is))))) last

pub nothing_before : (between t : List ℕ) (ds : List Data) → has_any ds ≡ false → t ≡ t ++ steps_before between ds
nothing_before between t ds none = rw none (sym (append-nil t))

-- the steps before another one, and what stands between
pub before_written :
    (between t t1 t2 : List ℕ) (ds : List Data) → has_any ds ≡ true → t1 ≡ t ++ steps_text between ds → t2 ≡ t1 ++ between → t2 ≡ t ++ steps_before between ds
before_written between t t1 t2 ds some first second =
    rw some (second ∙ (ap (λ (x : List ℕ). x ++ between) first ∙ append_assoc t (steps_text between ds) between))

-- the name of a frame, of a right side without steps
pub side-name : (fs : List FrameSpec) (w : Written) → has_any w.steps ≡ false → data_text (side_data fs w) ≡ quoted (frame_name fs w.source)
side-name fs w none = rw none refl

pub side-table : (fs : List FrameSpec) (w : Written) → has_any w.steps ≡ true → side_data fs w ≡ plan_table fs w
side-table fs w some = rw some refl

-- a table was written part by part
pub table_written :
    (t t1 t2 t3 t4 t5 name : List ℕ) (fs : List FrameSpec) (w : Written) → t1 ≡ t ++ codes "{ from = " → t2 ≡ t1 ++ quoted name → name ≡ frame_name fs w.source
    → t3 ≡ t2 ++ codes ", steps = [" → t4 ≡ t3 ++ steps_text (codes ", ") w.steps → t5 ≡ t4 ++ codes "] }" → t5 ≡ t ++ data_text (plan_table fs w)
table_written t t1 t2 t3 t4 t5 name fs w a b is c d e =
    rw (e, d, c, b, a, is, items_text-join w.steps) (simp append_assoc)

-- lines were written
pub lines_written :
    (t t1 t2 t3 : List ℕ) (ds : List Data) → has_any ds ≡ true → t1 ≡ t ++ codes "[\n  " → t2 ≡ t1 ++ steps_text (codes ",\n  ") ds → t3 ≡ t2 ++ codes ",\n]\n"
    → t3 ≡ t ++ step_lines ds
lines_written t t1 t2 t3 ds some a b c = rw (some, c, b, a) (simp append_assoc)

pub no_lines : (ds : List Data) → has_any ds ≡ false → step_lines ds ≡ codes "[]\n"
no_lines ds none = rw none refl
