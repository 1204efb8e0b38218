-- Expressions and patterns are read in one way.
use Rattle.std.specs.Prelude.{Bool, true, false, refl}
use Rattle.ur_parse_rules.proofs.Once.{Decided}
use Rattle.ur_parse_rules.specs.ExpParts.{Level, disjunction, conjunction, append, sum, product, ExpPart, exp, rest, line, lambda, bar, branches, more_branches, left, operand, left_tail, left_step, comparison, comparison_tail, cons, cons_tail, negative, app, args, arg, bracketed, head, post, base, capital_rest, member, nil_end, dot, dots, paren_rest, field, fields, fields_tail, let_val, let_vals, removed, binder, param, param_rest, lambda_param, lambda_params, pat, pat_cons, pat_rest, pat_argument}
use Rattle.ur_parse_rules.specs.Parts.{of_exp}
use Rattle.ur_parse_rules.specs.Language.{language}
use Rattle.ur_parse_rules.proofs.Table.{Told, by_table}
use Rattle.ur_parse_rules.proofs.Choice.{choice}
use Rattle.ur_parse_rules.proofs.Lines as lines

left_told : (l : Level) → Told (of_exp (left l))
left_told disjunction = refl
left_told conjunction = refl
left_told append = refl
left_told sum = refl
left_told product = refl

operand_told : (l : Level) → Told (of_exp (operand l))
operand_told disjunction = refl
operand_told conjunction = refl
operand_told append = refl
operand_told sum = refl
operand_told product = refl

left_tail_told : (l : Level) → Told (of_exp (left_tail l))
left_tail_told disjunction = refl
left_tail_told conjunction = refl
left_tail_told append = refl
left_tail_told sum = refl
left_tail_told product = refl

left_step_told : (l : Level) → Told (of_exp (left_step l))
left_step_told disjunction = refl
left_step_told conjunction = refl
left_step_told append = refl
left_step_told sum = refl
left_step_told product = refl

post_told : (first : Bool) → Told (of_exp (post first))
post_told true = refl
post_told false = refl

base_told : (first : Bool) → Told (of_exp (base first))
base_told true = refl
base_told false = refl

pub exp_decided : (p : ExpPart) → Decided language choice (of_exp p)
exp_decided exp = lines.exp_decided
exp_decided rest = lines.rest_decided
exp_decided line = lines.line_decided
exp_decided lambda = lines.lambda_decided
exp_decided bar = by_table choice (of_exp bar) (λ a k w h. h) refl refl
exp_decided branches = lines.branches_decided
exp_decided more_branches = lines.more_branches_decided
exp_decided (left l) = by_table choice (of_exp (left l)) (λ a k w h. h) refl (left_told l)
exp_decided (operand l) = by_table choice (of_exp (operand l)) (λ a k w h. h) refl (operand_told l)
exp_decided (left_tail l) = by_table choice (of_exp (left_tail l)) (λ a k w h. h) refl (left_tail_told l)
exp_decided (left_step l) = by_table choice (of_exp (left_step l)) (λ a k w h. h) refl (left_step_told l)
exp_decided comparison = by_table choice (of_exp comparison) (λ a k w h. h) refl refl
exp_decided comparison_tail = by_table choice (of_exp comparison_tail) (λ a k w h. h) refl refl
exp_decided cons = by_table choice (of_exp cons) (λ a k w h. h) refl refl
exp_decided cons_tail = by_table choice (of_exp cons_tail) (λ a k w h. h) refl refl
exp_decided negative = by_table choice (of_exp negative) (λ a k w h. h) refl refl
exp_decided app = by_table choice (of_exp app) (λ a k w h. h) refl refl
exp_decided args = by_table choice (of_exp args) (λ a k w h. h) refl refl
exp_decided arg = by_table choice (of_exp arg) (λ a k w h. h) refl refl
exp_decided bracketed = by_table choice (of_exp bracketed) (λ a k w h. h) refl refl
exp_decided head = by_table choice (of_exp head) (λ a k w h. h) refl refl
exp_decided (post first) = by_table choice (of_exp (post first)) (λ a k w h. h) refl (post_told first)
exp_decided (base first) = by_table choice (of_exp (base first)) (λ a k w h. h) refl (base_told first)
exp_decided capital_rest = by_table choice (of_exp capital_rest) (λ a k w h. h) refl refl
exp_decided member = by_table choice (of_exp member) (λ a k w h. h) refl refl
exp_decided nil_end = by_table choice (of_exp nil_end) (λ a k w h. h) refl refl
exp_decided dot = by_table choice (of_exp dot) (λ a k w h. h) refl refl
exp_decided dots = by_table choice (of_exp dots) (λ a k w h. h) refl refl
exp_decided paren_rest = by_table choice (of_exp paren_rest) (λ a k w h. h) refl refl
exp_decided field = by_table choice (of_exp field) (λ a k w h. h) refl refl
exp_decided fields = by_table choice (of_exp fields) (λ a k w h. h) refl refl
exp_decided fields_tail = by_table choice (of_exp fields_tail) (λ a k w h. h) refl refl
exp_decided let_val = by_table choice (of_exp let_val) (λ a k w h. h) refl refl
exp_decided let_vals = by_table choice (of_exp let_vals) (λ a k w h. h) refl refl
exp_decided removed = by_table choice (of_exp removed) (λ a k w h. h) refl refl
exp_decided binder = by_table choice (of_exp binder) (λ a k w h. h) refl refl
exp_decided param = by_table choice (of_exp param) (λ a k w h. h) refl refl
exp_decided param_rest = by_table choice (of_exp param_rest) (λ a k w h. h) refl refl
exp_decided lambda_param = by_table choice (of_exp lambda_param) (λ a k w h. h) refl refl
exp_decided lambda_params = by_table choice (of_exp lambda_params) (λ a k w h. h) refl refl
exp_decided pat = by_table choice (of_exp pat) (λ a k w h. h) refl refl
exp_decided pat_cons = by_table choice (of_exp pat_cons) (λ a k w h. h) refl refl
exp_decided pat_rest = by_table choice (of_exp pat_rest) (λ a k w h. h) refl refl
exp_decided pat_argument = by_table choice (of_exp pat_argument) (λ a k w h. h) refl refl
