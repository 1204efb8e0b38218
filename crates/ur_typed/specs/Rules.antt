-- The rule of each form, over the walks of its parts. No rule is recursive.
use Rattle.std.specs.Prelude.{ℕ, ◌&&◌, ◌||◌, ◌++◌, not, nat_le, nat_lt, Bool, true, false, List, [], ◌∷◌, map, codes, length, set, Option, Some, None, option_map, option_and_then, slice_get, bytes_eq}
use Rattle.ur_base.specs.Shape.{Shape, count}
use Rattle.ur_syntax.specs.Names.{own, member as of_module}
use Rattle.ur_syntax.specs.declared.con.Con.{Con}
use Rattle.ur_syntax.specs.declared.con.FieldName.{FieldName}
use Rattle.ur_syntax.specs.declared.con.FieldName.TheVariants as field_name
use Rattle.ur_syntax.specs.declared.sql.DeclName.{DeclName}
use Rattle.ur_syntax.specs.declared.sql.SqlQuery.{SqlQuery}
use Rattle.ur_syntax.specs.declared.sql.SqlChange.{SqlChange}
use Rattle.ur_syntax.specs.declared.exp.Binary.{Binary as WrittenBinary}
use Rattle.ur_syntax.specs.declared.exp.Binary.TheVariants as op
use Rattle.ur_syntax.specs.declared.exp.Binder.{Binder}
use Rattle.ur_syntax.specs.declared.exp.Binder.TheVariants as binder
use Rattle.ur_syntax.specs.declared.exp.Param.TheVariants as written_param
use Rattle.ur_syntax.specs.declared.exp.LambdaParam.{LambdaParam}
use Rattle.ur_syntax.specs.declared.exp.LambdaParam.TheVariants as lambda_param
use Rattle.ur_syntax.specs.declared.exp.PatForm.{PatForm}
use Rattle.ur_syntax.specs.declared.exp.QueryWord.{QueryWord}
use Rattle.ur_syntax.specs.declared.exp.QueryWord.TheVariants as word
use Rattle.ur_syntax.specs.declared.exp.ExpForm.{ExpForm, end_of-Exp as alone, more_of-Exp as its, Row_of-Field, end_of-Field, more_of-Field}
use Rattle.ur_syntax.specs.declared.exp.ExpForm.TheVariants as e
use Rattle.ur_values.specs.declared.schema.ColumnKind.{ColumnKind}
use Rattle.ur_terms.specs.declared.term.AnswerForm.{AnswerForm}
use Rattle.ur_terms.specs.declared.term.AnswerForm.TheVariants as answer
use Rattle.ur_terms.specs.declared.term.Pattern.{Pattern}
use Rattle.ur_sql.specs.declared.query.Query.{Query}
use Rattle.ur_sql.specs.declared.change.Change.{Change}
use Rattle.ur_rows.specs.declared.normal.Label.{Label}
use Rattle.ur_rows.specs.declared.normal.Normal.{Normal}
use Rattle.ur_rows.specs.declared.normal.NormalType.{NormalType, end_of-NormalType as sole, more_of-NormalType as the}
use Rattle.ur_rows.specs.declared.normal.NormalType.TheVariants as ty
use Rattle.ur_rows.specs.declared.normal.Part.{Part}
use Rattle.ur_rows.specs.Apart.{Assumptions}
use Rattle.ur_rows.specs.Kinded.{label_is_in}
use Rattle.ur_rows.specs.Made.{unit, record_of}
use Rattle.ur_rows.specs.Nodes.{nodes, type_nodes}
use Rattle.ur_rows.specs.Normal.{nf}
use Rattle.ur_rows.specs.Order.{with_part, joined}
use Rattle.ur_rows.specs.Put.{instance_type}
use Rattle.ur_rows.specs.Types.{option_of, list_of, transaction_of, arrows_of, field, field_type, without, holds_arrow, may_run, is_value_type}
use Rattle.ur_tree.specs.Places.{sort_of}
use Rattle.ur_tree.specs.Scalars.{kind_type, is_basic}
use Rattle.ur_tree.specs.QueryRow.{query_row}
use Rattle.ur_sqltype.specs.Lists.{all_of}
use Rattle.ur_sqltype.specs.Table.{column_type_kind}
use Rattle.ur_tree.specs.declared.exp.Unary.{Unary}
use Rattle.ur_tree.specs.declared.exp.Unary.TheVariants as unary
use Rattle.ur_tree.specs.declared.exp.Binary.{Binary}
use Rattle.ur_tree.specs.declared.exp.Binary.TheVariants as binary
use Rattle.ur_tree.specs.declared.exp.Exp.{Exp}
use Rattle.ur_tree.specs.declared.exp.Exp.TheVariants as exp
use Rattle.ur_tree.specs.declared.exp.Exp.TheBlock.{Row_of-Exp as Row_of-Resolved, end_of-Exp as no_more, more_of-Exp as one_more, Row_of-FieldExp, end_of-FieldExp, more_of-FieldExp, Row_of-Branch as Row_of-ResolvedBranch, end_of-Branch as no_branch, more_of-Branch as a_branch, None', Some'}
use Rattle.ur_tree.specs.Make as make
use Rattle.ur_tree.specs.Heads.{Head, function_type}
use Rattle.ur_tree.specs.Env.{variables}
use Rattle.ur_tree.specs.IsStatic.{is_static}
use Rattle.ur_tree.specs.Typing.{Operation, of_two, compares, conses, joins, operation, parameters, types_of, keeps_arrows, are_static_at, answer_type}
use Rattle.ur_typed_rules.specs.Names.{Local, Declared as DeclaredAs, function, val, declared, local_at, name_of}
use Rattle.ur_typed.specs.Resolves.{is_head}
use Rattle.ur_typed_rules.specs.Scopes.{World, Scope, Mode, finds, wants, within_binder, within_branch, within_params, of_option, of_list, of_transaction, of_field, of_result}
use Rattle.ur_sqltype.specs.Query.{query_of}
use Rattle.ur_sqltype.specs.Change.{change_of}
use Rattle.ur_typed_rules.specs.Tests.{same_type, is_apart, are_apart, are_arguments, are_params, are_distinct, covers}
use Rattle.ur_typed_rules.specs.Rules.{if_so, row_of, value_of, pattern_of, bound_in, written_type, Params, params_out, small_type, label_at}

-- The queries and changes that are numbered so far. A statement takes its number before its antiquotes are looked at, which may hold
-- further ones, and it stands in its place once their types are known.
pub record Sites : Type 0 where
  pub queries : List (Option Query)
  pub changes : List (Option Change)

-- a resolved expression with its type, and the statements that are numbered behind it
pub record Out : Type 0 where
  pub of : NormalType
  pub exp : Exp
  pub sites : Sites

-- What gives an expression in a scope, from the statements so far and what is wanted.
abbrev pub Walk : Type 0
Walk = Scope → Sites → Mode → Option Out

abbrev pub fits : Mode → NormalType → Bool
fits finds t = true
fits (wants u) t = same_type t u

-- a type that is accepted of an expression
abbrev pub is_accepted : ℕ → Exp → NormalType → Bool
is_accepted most x t = nat_le (type_nodes t) most && (may_run t && (not (holds_arrow t) || is_static x))

-- the same where its type is accepted, and is the wanted one
abbrev pub settled : ℕ → Mode → Out → Option Out
settled most m o = if_so (is_accepted most o.exp o.of && fits m o.of) (Some o)

abbrev pub settling : World → Walk → Walk
settling w f s st m = option_and_then (settled w.most m) (f s st m)

abbrev pub gives : NormalType → Exp → Sites → Option Out
gives t x st = Some (record { of = t; exp = x; sites = st })

-- one walk after another
abbrev pub then_ : {A : Type 0} → Option Out → (Out → Option A) → Option A
then_ o f = option_and_then f o

-- ---- what types say

abbrev pub is_option : NormalType → Bool
is_option (ty.Opt' _ (the t sole)) = true
is_option _ = false

abbrev pub is_list : NormalType → Bool
is_list (ty.Many' _ (the t sole)) = true
is_list _ = false

-- ---- names

abbrev pub local_out : Scope → Sites → Bool × ℕ → Option Out
local_out s st (true, i) = option_and_then (λ t. gives t (exp.Fixed i) st) (slice_get s.env.fixed i)
local_out s st (false, i) = option_and_then (λ t. gives t (exp.Variable i) st) (slice_get s.env.values i)

-- a function that is not applied, with its constructor arguments
abbrev pub function_out : World → Scope → Sites → ℕ × List Normal → Option Out
function_out w s st f = option_and_then (λ h. if_so (are_arguments s.env h.cons f.1 && keeps_arrows f.1 h.params) (gives (instance_type f.1 (function_type h)) (exp.Function f.0 f.1) st)) (slice_get w.declared.functions f.0)

abbrev pub declared_out : World → Scope → Sites → DeclaredAs → Option Out
declared_out w s st (function f) = function_out w s st (f, [])
declared_out w s st (val v) = option_and_then (λ t. gives t (exp.Val v) st) (slice_get w.declared.vals v)

abbrev pub local_or : World → Scope → Sites → List ℕ → Option (Bool × ℕ) → Option Out
local_or w s st x (Some i) = local_out s st i
local_or w s st x None = option_and_then (declared_out w s st) (declared w.globals (own x) w.globals.values)

abbrev pub var_out : World → Scope → Sites → List ℕ → Option Out
var_out w s st x = local_or w s st x (local_at x s.names.locals)

abbrev pub member_out : World → Scope → Sites → List ℕ → List ℕ → Option Out
member_out w s st m x = option_and_then (declared_out w s st) (declared w.globals (of_module m x) w.globals.values)

-- the function that is named so, where no local hides it
abbrev pub as_function_number : DeclaredAs → Option ℕ
as_function_number (function f) = Some f
as_function_number (val v) = None

abbrev pub if_unbound : Option (Bool × ℕ) → Option ℕ → Option ℕ
if_unbound (Some i) f = None
if_unbound None f = f

abbrev pub function_named : World → Scope → ExpForm → Option ℕ
function_named w s (e.Var x) = if_unbound (local_at x s.names.locals) (option_and_then as_function_number (declared w.globals (own x) w.globals.values))
function_named w s (e.Member m x) = option_and_then as_function_number (declared w.globals (of_module m x) w.globals.values)
function_named w s _ = None

abbrev pub with_argument : World → Scope → Con → ℕ × List Normal → Option (ℕ × List Normal)
with_argument w s c f = let n : Normal = nf s.names.cons c in if_so (nat_le (nodes n) w.most) (Some (f.0, f.1 ++ n ∷ []))

abbrev pub without_arguments : ℕ → ℕ × List Normal
without_arguments f = (f, [])

-- a named function with its constructor arguments, as it is written
abbrev pub function_at : World → Scope → ExpForm → Option (ℕ × List Normal)
function_at w s (e.ConApp' _ (its p x alone) c) = option_and_then (with_argument w s c) (function_at w s x)
function_at w s x = option_map without_arguments (function_named w s x)

-- ---- constructors of datatypes

-- one without an argument
abbrev pub plain_tag : ℕ → ℕ → Sites → Option NormalType → Option Out
plain_tag d n st None = gives (ty.Datatype d) (exp.Tagged' n None') st
plain_tag d n st (Some t) = None

abbrev pub tagged_out : World → Sites → ℕ → Option Out
tagged_out w st n = option_and_then (λ v. plain_tag v.0 n st v.1) (slice_get w.declared.variants n)

-- `None` stands at an option that is wanted, and `[]` at a list
abbrev pub absent_out : Sites → Mode → Option Out
absent_out st finds = None
absent_out st (wants t) = if_so (is_option t) (gives t (exp.Absent t) st)

abbrev pub empty_out : Sites → Mode → Option Out
empty_out st finds = None
empty_out st (wants t) = if_so (is_list t) (gives t (exp.Empty t) st)

-- what a name with a capital is
pub data Capital : Type 0 where
  says_true : Capital
  says_false : Capital
  says_none : Capital
  says_other : Capital

abbrev pub chosen : {A : Type 0} → Bool → A → A → A
chosen true a b = a
chosen false a b = b

abbrev pub capital_of : List ℕ → Capital
capital_of x = chosen (bytes_eq x (codes "True")) says_true (chosen (bytes_eq x (codes "False")) says_false (chosen (bytes_eq x (codes "None")) says_none says_other))

abbrev pub by_capital : World → Sites → Mode → Option ℕ → Capital → Option Out
by_capital w st m n says_true = gives ty.Bool (exp.Bool true) st
by_capital w st m n says_false = gives ty.Bool (exp.Bool false) st
by_capital w st m n says_none = absent_out st m
by_capital w st m n says_other = option_and_then (tagged_out w st) n

abbrev pub constructor_out : World → Sites → Mode → List ℕ → Option Out
constructor_out w st m x = by_capital w st m (declared w.globals (own x) w.globals.constructors) (capital_of x)

abbrev pub member_constructor_out : World → Sites → List ℕ → List ℕ → Option Out
member_constructor_out w st m x = option_and_then (tagged_out w st) (declared w.globals (of_module m x) w.globals.constructors)

abbrev pub if_other : {A : Type 0} → Capital → Option A → Option A
if_other says_other a = a
if_other _ a = None

-- the constructor of a datatype that an expression names
abbrev pub tag_named : World → ExpForm → Option ℕ
tag_named w (e.Constructor x) = if_other (capital_of x) (declared w.globals (own x) w.globals.constructors)
tag_named w (e.MemberConstructor m x) = declared w.globals (of_module m x) w.globals.constructors
tag_named w _ = None

-- ---- applications

-- arguments that are resolved, as they stand in a call
abbrev pub Args : Type 0
Args = (s : Shape) × Row_of-Resolved (count s)

abbrev pub no_args : Args
no_args = ([], no_more)

abbrev pub with_arg : Exp → Args → Args
with_arg x rest = (tt ∷ rest.0, one_more x rest.1)

-- the arguments against types, in order
abbrev pub with_first : Exp → Args × Sites → Args × Sites
with_first x r = (with_arg x r.0, r.1)

abbrev pub args_out : Scope → List Walk → List NormalType → Sites → Option (Args × Sites)
args_out s [] [] st = Some (no_args, st)
args_out s (a ∷ args) (t ∷ ts) st = then_ (a s st (wants t)) (λ o. option_map (with_first o.exp) (args_out s args ts o.sites))
args_out s _ _ st = None

-- a call of a named function
abbrev pub call_out : World → Scope → Sites → List Walk → ℕ × List Normal → Head → Option Out
call_out w s st args f h =
    if_so (are_arguments s.env h.cons f.1 && nat_le (type_nodes (instance_type f.1 (function_type h))) w.most)
    (option_and_then (λ r. if_so (are_static_at h.params r.0.1) (gives (instance_type f.1 h.result) (make.apply (exp.Function f.0 f.1) r.0.0 r.0.1) r.1))
    (args_out s args (map (λ p. instance_type f.1 p.of) h.params) st))

abbrev pub named_call : World → Scope → Sites → List Walk → ℕ × List Normal → Option Out
named_call w s st args f = option_and_then (call_out w s st args f) (slice_get w.declared.functions f.0)

-- a constructor of a datatype at its argument
abbrev pub build_out : Scope → Sites → ℕ → Walk → ℕ × NormalType → Option Out
build_out s st n a v = then_ (a s st (wants v.1)) (λ o. gives (ty.Datatype v.0) (exp.Tagged' n (Some' tt (one_more o.exp no_more))) o.sites)

abbrev pub with_type : ℕ × Option NormalType → Option (ℕ × NormalType)
with_type v = option_map (λ t. (v.0, t)) v.1

abbrev pub built : World → Scope → Sites → List Walk → ℕ → Option Out
built w s st (a ∷ []) n = option_and_then (build_out s st n a) (option_and_then with_type (slice_get w.declared.variants n))
built w s st _ n = None

-- what is static otherwise, at all its arguments
abbrev pub applied_out : Scope → List Walk → Out → Option Out
applied_out s args f = option_and_then (λ r. gives (parameters f.of).1 (make.apply f.exp r.0.0 r.0.1) r.1) (args_out s args (parameters f.of).0 f.sites)

abbrev pub by_head : World → Scope → Sites → Walk → List Walk → Bool → Option (ℕ × List Normal) → Option ℕ → Option Out
by_head w s st head args h (Some f) n = named_call w s st args f
by_head w s st head args h None (Some n) = built w s st args n
by_head w s st head args true None None = then_ (head s st finds) (applied_out s args)
by_head w s st head args false None None = None

-- what is applied to these arguments; `head` is its own walk
abbrev pub applied : World → Scope → Sites → ExpForm → Walk → List Walk → Option Out
applied w s st x head args = by_head w s st head args (is_head x) (function_at w s x) (tag_named w x)

-- ---- one side and two sides

abbrev pub one_out : Unary → NormalType → NormalType → Scope → Sites → Walk → Option Out
one_out op u t s st a = then_ (a s st (wants u)) (λ o. gives t (make.unary op o.exp) o.sites)

abbrev pub show_out : Scope → Sites → Walk → Option Out
show_out s st a = then_ (a s st finds) (λ o. if_so (is_basic o.of) (gives ty.Str (make.unary unary.Show o.exp) o.sites))

abbrev pub some_out : Scope → Sites → Mode → Walk → Option Out
some_out s st m a = then_ (a s st (of_option m)) (λ o. gives (option_of o.of) (make.unary unary.Present o.exp) o.sites)

abbrev pub return_out : Scope → Sites → Mode → Walk → Option Out
return_out s st m a = then_ (a s st (of_transaction m)) (λ o. gives (transaction_of o.of) (make.unary unary.Return o.exp) o.sites)

abbrev pub error_out : Scope → Sites → Mode → Walk → Option Out
error_out s st finds a = None
error_out s st (wants t) a = then_ (a s st (wants ty.Xbody)) (λ o. gives t (make.fail t o.exp) o.sites)

abbrev pub operator_of : WrittenBinary → Binary
operator_of op.Or = binary.Or
operator_of op.And = binary.And
operator_of op.Eq = binary.Equal
operator_of op.Ne = binary.Unequal
operator_of op.Lt = binary.Less
operator_of op.Le = binary.LessEqual
operator_of op.Gt = binary.Greater
operator_of op.Ge = binary.GreaterEqual
operator_of op.Cons = binary.Cons
operator_of op.Append = binary.Append
operator_of op.Concat = binary.Join
operator_of op.Add = binary.Add
operator_of op.Sub = binary.Sub
operator_of op.Mul = binary.Mul
operator_of op.Div = binary.Div
operator_of op.Rem = binary.Rem

-- what is wanted of the left side
abbrev pub left_mode : Operation → Mode → Mode
left_mode (of_two u v) m = wants u
left_mode conses m = of_list m
left_mode _ m = finds

-- what is wanted of the right side, where this is found of the left one
abbrev pub right_mode : Operation → NormalType → Mode
right_mode (of_two u v) t = wants u
right_mode (compares test) t = wants t
right_mode conses t = wants (list_of t)
right_mode joins t = finds

-- a type that the left side may have
abbrev pub left_may : Operation → NormalType → Bool
left_may (compares test) t = test t
left_may _ t = true

abbrev pub join_types : Assumptions → Option (List Part) → Option (List Part) → Option NormalType
join_types known (Some r) (Some t) = if_so (is_apart known r t) (Some (record_of (joined r t)))
join_types known _ _ = None

abbrev pub operation_type : Assumptions → Operation → NormalType → NormalType → Option NormalType
operation_type known (of_two u v) a b = Some v
operation_type known (compares test) a b = Some ty.Bool
operation_type known conses a b = Some (list_of a)
operation_type known joins a b = join_types known (row_of a) (row_of b)

abbrev pub sides_out : Binary → Scope → Sites → Mode → Walk → Walk → Option Out
sides_out o s st m a b =
    then_ (a s st (left_mode (operation o) m)) (λ x. if_so (left_may (operation o) x.of)
    (then_ (b s x.sites (right_mode (operation o) x.of)) (λ y. option_and_then (λ t. gives t (make.binary o x.exp y.exp) y.sites) (operation_type s.env.known (operation o) x.of y.of))))

-- ---- branches, bindings, lambdas

abbrev pub if_out : Scope → Sites → Mode → Walk → Walk → Walk → Option Out
if_out s st m c a b =
    then_ (c s st (wants ty.Bool)) (λ x. then_ (a s x.sites m) (λ y. then_ (b s y.sites (wants y.of)) (λ z. gives y.of (make.choice x.exp y.exp z.exp) z.sites)))

abbrev pub no_local : {A : Type 0} → A → List Local × A
no_local a = ([], a)

-- branches that are resolved, with the type of their bodies
abbrev pub ResolvedBranches : Type 0
ResolvedBranches = (s : Shape) × Row_of-ResolvedBranch (count s)

pub record Branches : Type 0 where
  pub of : NormalType
  pub patterns : List Pattern
  pub exps : ResolvedBranches
  pub sites : Sites

abbrev pub no_branches : Sites → Mode → Option Branches
no_branches st finds = None
no_branches st (wants t) = Some (record { of = t; patterns = []; exps = ([], no_branch); sites = st })

abbrev pub with_branch : Pattern → Out → Branches → Branches
with_branch p o b = record { of = b.of; patterns = p ∷ b.patterns; exps = (tt ∷ b.exps.0, a_branch p o.exp b.exps.1); sites = b.sites }

-- one branch, and the further ones with the type of this one
abbrev pub branch_within : World → Scope → Sites → Mode → Walk → (Sites → Mode → Option Branches) → List Local × Pattern → List NormalType → Option Branches
branch_within w s st m a rest q bound = then_ (a (within_branch q.0 bound s) st m) (λ o. option_map (with_branch q.1 o) (rest o.sites (wants o.of)))

abbrev pub branch_by : World → Scope → NormalType → Sites → Mode → Walk → (Sites → Mode → Option Branches) → List Local × Pattern → Option Branches
branch_by w s u st m a rest q = if_so (are_distinct q.0) (option_and_then (branch_within w s st m a rest q) (bound_in w u q))

abbrev pub branch_out : World → Scope → NormalType → Sites → Mode → PatForm → Walk → (Sites → Mode → Option Branches) → Option Branches
branch_out w s u st m p a rest = option_and_then (branch_by w s u st m a rest) (pattern_of w.globals p)

abbrev pub case_out : World → Scope → Sites → Mode → Walk → (NormalType → Sites → Mode → Option Branches) → Option Out
case_out w s st m a branches =
    then_ (a s st finds) (λ x. option_and_then (λ b. if_so (covers w.declared x.of b.patterns) (gives b.of (make.cases x.exp b.exps.0 b.exps.1) b.sites)) (branches x.of x.sites m))

abbrev pub let_with : Scope → Sites → Mode → List ℕ → Walk → Walk → NormalType → Option Out
let_with s st m x a rest u = if_so (is_value_type u) (then_ (a s st (wants u)) (λ o. then_ (rest (within_binder (binder.Named x) u s) o.sites m) (λ b. gives b.of (make.local u o.exp b.exp) b.sites)))

abbrev pub let_out : World → Scope → Sites → Mode → List ℕ → Con → Walk → Walk → Option Out
let_out w s st m x c a rest = option_and_then (let_with s st m x a rest) (written_type w s c)

abbrev pub bind_with : Scope → Mode → Binder → Walk → Out → NormalType → Option Out
bind_with s m x b o u = then_ (b (within_binder x u s) o.sites m) (λ z. option_and_then (λ v. gives z.of (make.bind o.exp z.exp) z.sites) (value_of z.of))

abbrev pub bind_out : Scope → Sites → Mode → Binder → Walk → Walk → Option Out
bind_out s st m x a b = then_ (a s st finds) (λ o. option_and_then (bind_with s m x b o) (value_of o.of))

abbrev pub lambda_with : Scope → Sites → Mode → Walk → Params → Option Out
lambda_with s st m b ps = if_so (are_distinct ps.0 && are_params s.env ps.1)
    (then_ (b (within_params ps.0 ps.1 s) st (of_result ps.1 m)) (λ o. if_so (not (holds_arrow o.of)) (gives (arrows_of (types_of ps.1) o.of) (make.lambda ps.1 o.exp) o.sites)))

abbrev pub lambda_out : World → Scope → Sites → Mode → List LambdaParam → Walk → Option Out
lambda_out w s st m params b = option_and_then (lambda_with s st m b) (params_out w.most s.names params)

-- ---- records

abbrev pub ResolvedFields : Type 0
ResolvedFields = (s : Shape) × Row_of-FieldExp (count s)

pub record Fields : Type 0 where
  pub row : List Part
  pub exps : ResolvedFields
  pub sites : Sites

abbrev pub no_fields : Sites → Fields
no_fields st = record { row = []; exps = ([], end_of-FieldExp); sites = st }

abbrev pub with_field : Label → Out → Fields → Fields
with_field l o fs = record { row = with_part (field l o.of) fs.row; exps = (tt ∷ fs.exps.0, more_of-FieldExp l o.exp fs.exps.1); sites = fs.sites }

abbrev pub field_out : Scope → Sites → Mode → FieldName → Walk → (Sites → Option Fields) → Option Fields
field_out s st m f a rest = if_so (label_is_in (variables s.env) (label_at s f))
    (then_ (a s st (of_field (label_at s f) m)) (λ o. option_map (with_field (label_at s f) o) (rest o.sites)))

abbrev pub record_out : Scope → Option Fields → Option Out
record_out s fs = option_and_then (λ r. if_so (are_apart s.env.known r.row) (gives (record_of r.row) (exp.Record' r.exps.0 r.exps.1) r.sites)) fs

abbrev pub project_out : Scope → Sites → FieldName → Walk → Option Out
project_out s st f a = then_ (a s st finds) (λ o. option_and_then (λ r. option_and_then (λ t. gives t (make.project o.exp (label_at s f)) o.sites) (field_type (label_at s f) r)) (row_of o.of))

abbrev pub cut_out : Scope → Sites → FieldName → Walk → Option Out
cut_out s st f a = then_ (a s st finds) (λ o. option_and_then (λ r. option_and_then (λ t. gives (record_of (without (label_at s f) r)) (make.cut o.exp (label_at s f)) o.sites) (field_type (label_at s f) r)) (row_of o.of))

-- ---- what runs

abbrev pub next_out : World → Sites → DeclName → Option Out
next_out w st x = option_and_then (λ n. if_so (nat_lt n w.declared.sequences) (gives (transaction_of ty.Int) (exp.Next n) st)) (declared w.globals (name_of x) w.globals.sequences)

-- a cookie by its number, with its kind
abbrev pub cookie_at : World → DeclName → Option (ℕ × ColumnKind)
cookie_at w x = option_and_then (λ n. option_map (λ k. (n, k)) (slice_get w.declared.cookies n)) (declared w.globals (name_of x) w.globals.cookies)

abbrev pub get_cookie_out : World → Sites → DeclName → Option Out
get_cookie_out w st x = option_and_then (λ c. gives (transaction_of (option_of (kind_type c.1))) (exp.GetCookie c.0) st) (cookie_at w x)

abbrev pub set_cookie_out : World → Sites → DeclName → (Sites → Mode → Option Out) → Option Out
set_cookie_out w st x a = option_and_then (λ c. then_ (a st (wants (kind_type c.1))) (λ o. gives (transaction_of unit) (make.set_cookie c.0 o.exp) o.sites)) (cookie_at w x)

abbrev pub is_literally : FieldName → List ℕ → Bool
is_literally (field_name.Literal a) b = bytes_eq a b
is_literally (field_name.Variable x) b = false

abbrev pub is_constructor_named : ExpForm → List ℕ → Bool
is_constructor_named (e.Constructor x) y = bytes_eq x y
is_constructor_named _ y = false

-- the two fields that stand literally behind the value of `setCookie`
abbrev pub are_literal_rest : {n : _} → Row_of-Field n → Bool
are_literal_rest (more_of-Field f p x (more_of-Field g q y end_of-Field)) =
    is_literally f (codes "Expires") && (is_constructor_named x (codes "None") && (is_literally g (codes "Secure") && is_constructor_named y (codes "False")))
are_literal_rest _ = false

-- ---- statements

-- antiquotes that are resolved, with their types
pub record Antiquotes : Type 0 where
  pub types : List NormalType
  pub exps : Args
  pub sites : Sites

abbrev pub no_antiquotes : Sites → Antiquotes
no_antiquotes st = record { types = []; exps = no_args; sites = st }

abbrev pub with_antiquote : Out → Antiquotes → Antiquotes
with_antiquote o a = record { types = o.of ∷ a.types; exps = with_arg o.exp a.exps; sites = a.sites }

abbrev pub antiquote_out : Scope → Sites → Walk → (Sites → Option Antiquotes) → Option Antiquotes
antiquote_out s st a rest = then_ (a s st finds) (λ o. option_map (with_antiquote o) (rest o.sites))

abbrev pub with_query_slot : Sites → Sites
with_query_slot st = record { queries = st.queries ++ None ∷ []; changes = st.changes }

abbrev pub with_change_slot : Sites → Sites
with_change_slot st = record { queries = st.queries; changes = st.changes ++ None ∷ [] }

abbrev pub with_query : ℕ → Query → Sites → Sites
with_query n q st = record { queries = set st.queries n (Some q); changes = st.changes }

abbrev pub with_change : ℕ → Change → Sites → Sites
with_change n u st = record { queries = st.queries; changes = set st.changes n (Some u) }

-- the core query of a written one at its antiquotes
abbrev pub query_at : World → SqlQuery → Antiquotes → Option Query
query_at w q a = option_and_then (λ kinds. query_of w.globals.home w.globals.tables w.fields kinds q) (all_of column_type_kind a.types)

abbrev pub change_at : World → SqlChange → Antiquotes → Option Change
change_at w u a = option_and_then (λ kinds. change_of w.globals.home w.globals.tables kinds u) (all_of column_type_kind a.types)

abbrev pub answer_of : QueryWord → AnswerForm
answer_of word.QueryL = answer.All
answer_of word.OneRow = answer.One
answer_of word.OneOrNoRows = answer.OneOrNone

abbrev pub write_out : World → Sites → SqlChange → (Sites → Option Antiquotes) → Option Out
write_out w st u args = option_and_then (λ a. option_and_then (λ d. gives (transaction_of unit) (exp.Write' (length st.changes) a.exps.0 a.exps.1) (with_change (length st.changes) d a.sites)) (change_at w u a)) (args (with_change_slot st))

abbrev pub ask_out : World → Sites → QueryWord → SqlQuery → (Sites → Option Antiquotes) → Option Out
ask_out w st how q args = option_and_then (λ a. option_and_then (λ d.
    gives (transaction_of (answer_type (answer_of how) (query_row w.fields d))) (exp.Ask' (answer_of how) (length st.queries) a.exps.0 a.exps.1) (with_query (length st.queries) d a.sites))
    (query_at w q a)) (args (with_query_slot st))

-- the variable of the row function of `queryX`, whose type need not be written
abbrev pub row_param : World → Scope → List Part → List LambdaParam → Option Binder
row_param w s r (lambda_param.Bare x ∷ []) = Some x
row_param w s r (lambda_param.Typed (written_param.Value x c) ∷ []) = option_and_then (λ t. if_so (same_type t (record_of r)) (Some x)) (small_type w.most (nf s.names.cons c))
row_param w s r _ = None

-- what the row function gives, as XML
abbrev pub rows_out : Sites → Antiquotes → Out → Option Out
rows_out st a o = option_and_then (λ sort. gives (transaction_of o.of) (make.each (length st.queries) a.exps.0 a.exps.1 o.exp) o.sites) (sort_of o.of)

abbrev pub each_out : World → Sites → Mode → SqlQuery → (Sites → Option Antiquotes) → (List Part → Sites → Mode → Option Out) → Option Out
each_out w st m q args body = option_and_then (λ a. option_and_then (λ d. then_ (body (query_row w.fields d) (with_query (length st.queries) d a.sites) (of_transaction m)) (rows_out st a)) (query_at w q a)) (args (with_query_slot st))

abbrev pub row_body : World → Scope → List Part → List LambdaParam → Walk → Sites → Mode → Option Out
row_body w s r params b st m = option_and_then (λ x. b (within_binder x (record_of r) s) st m) (row_param w s r params)
