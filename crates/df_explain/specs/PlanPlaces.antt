-- Where a plan does not check: the step, and how it is told.
use Rattle.std.specs.Prelude.{◌≡◌, ◌⊎◌, ◌++◌, ◌+◌, ◌-◌, ◌^◌, ⊤, ℕ, zero, suc, true, List, [], ◌∷◌, Option, Some, None, Err, codes, is_ok, length, min}
use Rattle.df_explain.specs.Places.{step_text, IsOneLine}
use Rattle.df_ops.specs.declared.windows.RollKind.TheVariants as roll
use Rattle.df_plan.specs.Checks.{columns_of}
use Rattle.df_plan.specs.Inputs.{Inputs, none, one, two, inputs_of, from_inputs}
use Rattle.df_plan.specs.declared.fault.PlanFault.{PlanFault}
use Rattle.df_plan.specs.declared.fault.PlanFault.TheVariants as fault
use Rattle.df_plan.specs.declared.plan.Plan.{Plan, fold-Plan, out-Plan}
use Rattle.df_plan.specs.declared.plan.Plan.TheOpen.{Plan-F}
use Rattle.df_plan.specs.declared.plan.Plan.TheVariants as plan
use Rattle.df_value.specs.Schemas.{Columns}

-- the fault of a plan is the fault of this part of it
abbrev pub IsFaultOf : List Columns → Plan → Plan → Type 0
IsFaultOf frames whole part = (f : PlanFault) → columns_of whole frames ≡ Err f → columns_of part frames ≡ Err f

-- the plan without its last step; of a join the left side
abbrev pub input_of : Plan → Plan
input_of p = from_inputs p (λ left right. left) (inputs_of (out-Plan p))

-- the left input of a node checks, if it has one
abbrev pub LeftChecks : List Columns → Inputs Plan → Type 0
LeftChecks frames none = ⊤
LeftChecks frames (one input) = is_ok (columns_of input frames) ≡ true
LeftChecks frames (two left right) = is_ok (columns_of left frames) ≡ true

-- its right side checks, if it has one
abbrev pub RightChecks : List Columns → Inputs Plan → Type 0
RightChecks frames none = ⊤
RightChecks frames (one input) = ⊤
RightChecks frames (two left right) = is_ok (columns_of right frames) ≡ true

-- what stands before a plan's last step checks, of a join its left side
abbrev pub IsFirst : List Columns → Plan → Type 0
IsFirst frames p = LeftChecks frames (inputs_of (out-Plan p))

-- and so does a join's right side
abbrev pub IsInnermost : List Columns → Plan → Type 0
IsInnermost frames p = RightChecks frames (inputs_of (out-Plan p))

abbrev pub right_among : Inputs Plan → Option Plan
right_among none = None
right_among (one input) = None
right_among (two left right) = Some right

-- the right side of a join
abbrev pub right_of : Plan → Option Plan
right_of p = right_among (inputs_of (out-Plan p))

-- the plan without so many of its last steps
abbrev pub without_last : ℕ → Plan → Plan
without_last zero p = p
without_last (suc n) p = without_last n (input_of p)

-- a part of a plan that is the plan up to one of its steps, right sides of its joins aside
abbrev pub IsUpTo : Plan → Plan → Type 0
IsUpTo whole part = (n : ℕ) × (part ≡ without_last n whole)

-- one more, up to the greatest number of 64 bits
abbrev pub one_more : ℕ → ℕ
one_more n = min (n + 1) (2 ^ 64 - 1)

abbrev pub count_step : Plan-F ℕ → ℕ
count_step (Plan-F.Scan frame) = 0
count_step p = one_more (from_inputs 0 (λ left right. left) (inputs_of p))

-- how many steps lead from a frame's own rows to those of a plan
abbrev pub steps_of : Plan → ℕ
steps_of p = fold-Plan ℕ count_step p

-- the word of a plan's last step
abbrev pub word_of : Plan → List ℕ
word_of (plan.Scan frame) = codes "from"
word_of (plan.Filter' q input e) = codes "filter"
word_of (plan.Select' q input items) = codes "select"
word_of (plan.WithColumns' q input items) = codes "with_columns"
word_of (plan.GroupBy' q input keys aggs) = codes "group_by"
word_of (plan.Join' q left r right h keys nulls_equal) = codes "join"
word_of (plan.Rolling' q input output roll.Sum column w m) = codes "rolling_sum"
word_of (plan.Rolling' q input output roll.Min column w m) = codes "rolling_min"
word_of (plan.Rolling' q input output roll.Max column w m) = codes "rolling_max"
word_of (plan.CumSum' q input output column) = codes "cum_sum"
word_of (plan.Rank' q input output k column) = codes "rank"

abbrev pub numbered : ℕ → List ℕ → List ℕ
numbered zero word = word
numbered (suc n) word = step_text (suc n) (Some word)

-- a plan's last step by its number, from 1, and its word; a frame's own rows by the word alone
abbrev pub last_step_text : Plan → List ℕ
last_step_text p = numbered (steps_of p) (word_of p)

-- A way from a join through its right side: the plan up to the first step of that side that does not check, which is a join if the way
-- goes on.
abbrev pub IsWithin : List Columns → Plan → List Plan → Plan → Type 0
IsWithin frames p [] part = p ≡ part
IsWithin frames p (inner ∷ sides) part =
    (right : Plan) × (right_of p ≡ Some right) × IsUpTo right inner × IsFirst frames inner × IsWithin frames inner sides part

-- a way of so many sides ends where the right side checks, unless it has the most
abbrev pub IsWhole : List Columns → ℕ → List Plan → Plan → Type 0
IsWhole frames most sides part = (length sides ≡ most) ⊎ IsInnermost frames part

-- The most right sides within right sides that are told of. A plan reads at most 3 frames.
abbrev pub most_sides : ℕ
most_sides = 3

abbrev pub sides_text : List Plan → List ℕ
sides_text [] = []
sides_text (inner ∷ sides) = codes ", right side, " ++ (last_step_text inner ++ sides_text sides)

-- The text tells the way from a view's plan to this part of it: up to the first step that does not check, and so on through right sides.
abbrev pub IsPlaceOf : List Columns → Plan → Plan → List ℕ → Type 0
IsPlaceOf frames whole part text =
    (outer : Plan) × (sides : List Plan) × IsUpTo whole outer × IsFirst frames outer × IsWithin frames outer sides part
    × IsWhole frames most_sides sides part × (text ≡ last_step_text outer ++ sides_text sides)

-- the place of the part of a plan whose fault is the plan's
abbrev pub IsFaultyStep : List Columns → Plan → List ℕ → Type 0
IsFaultyStep frames whole place = (part : Plan) × IsFaultOf frames whole part × IsPlaceOf frames whole part place

-- words that begin with the place of the step at fault; behind it stands one line, whatever it says
abbrev pub IsStepText : List Columns → Plan → List ℕ → Type 0
IsStepText frames whole words =
    (place : List ℕ) × (what : List ℕ) × IsFaultyStep frames whole place × IsOneLine what × (words ≡ place ++ (codes ": " ++ what))

-- The words of a plan's fault. How many frames are read and how many steps follow one another is a matter of the whole
-- plan: no step is named.
abbrev pub IsPlanText : List Columns → Plan → PlanFault → List ℕ → Type 0
IsPlanText frames whole fault.TooManyScans words = words ≡ codes "it reads frames more than 3 times, those of right sides too"
IsPlanText frames whole fault.TooDeep words = words ≡ codes "more than 11 steps follow one another on the way from a frame"
IsPlanText frames whole f words = IsStepText frames whole words
