use Rattle.std.proofs.lemmas.Result.{IfOk-from_err}
use Rattle.df_live.specs.Operators.{is_operator_over, has_operator_room, operator_allowed, operator_budget, operator_leads, operator_output, operator_takes}
use Rattle.df_live.proofs.operator.LiveOperatorLiveNode.prepare.Goals as goal

-- What the node in it ensures is what is asked, once it is known which node that is.
pub returns-in_ok-staged-in-Filter : goal.returns-in_ok-staged-in-Filter
unfolding is_operator_over has_operator_room operator_allowed operator_budget operator_leads operator_output operator_takes
returns-in_ok-staged-in-Filter c = rw c.in-Filter.is c.in_ok-staged-in-Filter.ensures

pub returns-in_ok-staged-in-Map : goal.returns-in_ok-staged-in-Map
unfolding is_operator_over has_operator_room operator_allowed operator_budget operator_leads operator_output operator_takes
returns-in_ok-staged-in-Map c = rw c.in-Map.is c.in_ok-staged-in-Map.ensures

pub returns-in_ok-staged-in-Window : goal.returns-in_ok-staged-in-Window
unfolding is_operator_over has_operator_room operator_allowed operator_budget operator_leads operator_output operator_takes
returns-in_ok-staged-in-Window c = rw c.in-Window.is c.in_ok-staged-in-Window.ensures

pub returns-in_ok-staged-in-Sum : goal.returns-in_ok-staged-in-Sum
unfolding is_operator_over has_operator_room operator_allowed operator_budget operator_leads operator_output operator_takes
returns-in_ok-staged-in-Sum c = rw c.in-Sum.is c.in_ok-staged-in-Sum.ensures

pub returns-in_ok-staged-in-Rank : goal.returns-in_ok-staged-in-Rank
unfolding is_operator_over has_operator_room operator_allowed operator_budget operator_leads operator_output operator_takes
returns-in_ok-staged-in-Rank c = rw c.in-Rank.is c.in_ok-staged-in-Rank.ensures

pub returns-in_ok-staged-in-Group : goal.returns-in_ok-staged-in-Group
unfolding is_operator_over has_operator_room operator_allowed operator_budget operator_leads operator_output operator_takes
returns-in_ok-staged-in-Group c = rw c.in-Group.is c.in_ok-staged-in-Group.ensures

-- Where memory was refused, nothing was made.
pub returns-in_err-staged-in-Filter : goal.returns-in_err-staged-in-Filter
unfolding is_operator_over has_operator_room operator_allowed operator_budget operator_leads operator_output operator_takes
returns-in_err-staged-in-Filter c =
    let e = c.prepare.ensures in
    let none = c.from_residual.ensures.0 in
    rw c.in-Filter.is (record {
      grows = e.grows;
      within = e.within;
      meter = e.meter;
      contents = e.contents;
      operator = e.operator;
      takes = e.takes;
      same_budget = e.same_budget;
      same_bound = e.same_bound;
      diff = IfOk-from_err c.from_residual.result _ none;
      staged = IfOk-from_err c.from_residual.result _ none;
      room = IfOk-from_err c.from_residual.result _ none;
    })

pub returns-in_err-staged-in-Map : goal.returns-in_err-staged-in-Map
unfolding is_operator_over has_operator_room operator_allowed operator_budget operator_leads operator_output operator_takes
returns-in_err-staged-in-Map c =
    let e = c.prepare-in-Map.ensures in
    let none = c.from_residual-in_err-staged-in-Map.ensures.0 in
    rw c.in-Map.is (record {
      grows = e.grows;
      within = e.within;
      meter = e.meter;
      contents = e.contents;
      operator = e.operator;
      takes = e.takes;
      same_budget = e.same_budget;
      same_bound = e.same_bound;
      diff = IfOk-from_err c.from_residual-in_err-staged-in-Map.result _ none;
      staged = IfOk-from_err c.from_residual-in_err-staged-in-Map.result _ none;
      room = IfOk-from_err c.from_residual-in_err-staged-in-Map.result _ none;
    })

pub returns-in_err-staged-in-Window : goal.returns-in_err-staged-in-Window
unfolding is_operator_over has_operator_room operator_allowed operator_budget operator_leads operator_output operator_takes
returns-in_err-staged-in-Window c =
    let e = c.prepare-in-Window.ensures in
    let none = c.from_residual-in_err-staged-in-Window.ensures.0 in
    rw c.in-Window.is (record {
      grows = e.grows;
      within = e.within;
      meter = e.meter;
      contents = e.contents;
      operator = e.operator;
      takes = e.takes;
      same_budget = e.same_budget;
      same_bound = e.same_bound;
      diff = IfOk-from_err c.from_residual-in_err-staged-in-Window.result _ none;
      staged = IfOk-from_err c.from_residual-in_err-staged-in-Window.result _ none;
      room = IfOk-from_err c.from_residual-in_err-staged-in-Window.result _ none;
    })

pub returns-in_err-staged-in-Sum : goal.returns-in_err-staged-in-Sum
unfolding is_operator_over has_operator_room operator_allowed operator_budget operator_leads operator_output operator_takes
returns-in_err-staged-in-Sum c =
    let e = c.prepare-in-Sum.ensures in
    let none = c.from_residual-in_err-staged-in-Sum.ensures.0 in
    rw c.in-Sum.is (record {
      grows = e.grows;
      within = e.within;
      meter = e.meter;
      contents = e.contents;
      operator = e.operator;
      takes = e.takes;
      same_budget = e.same_budget;
      same_bound = e.same_bound;
      diff = IfOk-from_err c.from_residual-in_err-staged-in-Sum.result _ none;
      staged = IfOk-from_err c.from_residual-in_err-staged-in-Sum.result _ none;
      room = IfOk-from_err c.from_residual-in_err-staged-in-Sum.result _ none;
    })

pub returns-in_err-staged-in-Rank : goal.returns-in_err-staged-in-Rank
unfolding is_operator_over has_operator_room operator_allowed operator_budget operator_leads operator_output operator_takes
returns-in_err-staged-in-Rank c =
    let e = c.prepare-in-Rank.ensures in
    let none = c.from_residual-in_err-staged-in-Rank.ensures.0 in
    rw c.in-Rank.is (record {
      grows = e.grows;
      within = e.within;
      meter = e.meter;
      contents = e.contents;
      operator = e.operator;
      takes = e.takes;
      same_budget = e.same_budget;
      same_bound = e.same_bound;
      diff = IfOk-from_err c.from_residual-in_err-staged-in-Rank.result _ none;
      staged = IfOk-from_err c.from_residual-in_err-staged-in-Rank.result _ none;
      room = IfOk-from_err c.from_residual-in_err-staged-in-Rank.result _ none;
    })

pub returns-in_err-staged-in-Group : goal.returns-in_err-staged-in-Group
unfolding is_operator_over has_operator_room operator_allowed operator_budget operator_leads operator_output operator_takes
returns-in_err-staged-in-Group c =
    let e = c.prepare-in-Group.ensures in
    let none = c.from_residual-in_err-staged-in-Group.ensures.0 in
    rw c.in-Group.is (record {
      grows = e.grows;
      within = e.within;
      meter = e.meter;
      contents = e.contents;
      operator = e.operator;
      takes = e.takes;
      same_budget = e.same_budget;
      same_bound = e.same_bound;
      diff = IfOk-from_err c.from_residual-in_err-staged-in-Group.result _ none;
      staged = IfOk-from_err c.from_residual-in_err-staged-in-Group.result _ none;
      room = IfOk-from_err c.from_residual-in_err-staged-in-Group.result _ none;
    })
