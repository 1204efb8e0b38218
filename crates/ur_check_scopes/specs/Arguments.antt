-- Constructor arguments, one by one.
use Rattle.std.specs.Prelude.{◌≡◌, ◌<◌, ◌+◌, ℕ, suc, true, false, List, [], ◌∷◌, map, codes, Contains, Option, Some, None, ⊤}
use Rattle.ur_base.specs.declared.refusal.Stop.{Stop}
use Rattle.ur_base.specs.declared.refusal.Stop.TheVariants as stop
use Rattle.ur_syntax.specs.declared.con.Con.{Con}
use Rattle.ur_syntax.specs.declared.kind.Kind.{Kind}
use Rattle.ur_rows.specs.declared.normal.Normal.{Normal}
use Rattle.ur_rows.specs.declared.normal.Part.{Part}
use Rattle.ur_rows.specs.Apart.{Assumptions}
use Rattle.ur_rows.specs.Kinded.{is_of_kind}
use Rattle.ur_rows.specs.declared.normal.NormalType.{NormalType}
use Rattle.ur_rows.specs.Nodes.{type_nodes, most_nodes}
use Rattle.ur_rows.specs.Put.{instance_type, instance_row}
use Rattle.ur_rows_reduce.specs.declared.count.Halt.{Halt}
use Rattle.ur_rows_reduce.specs.declared.count.Halt.TheVariants as halt
use Rattle.ur_tree.specs.declared.typed.ConParam.{ConParam}
use Rattle.ur_tree.specs.declared.typed.ConParam.TheVariants as con_param
use Rattle.ur_tree.specs.declared.exp.Param.{Param}
use Rattle.ur_tree.specs.Env.{Env, variables, con_is_plain, kinds_of, rows_apart}
use Rattle.ur_typed_rules.specs.Tests.{con_rows_are_apart, have_kinds, is_apart}
use Rattle.ur_typed_rules.specs.Faults.{Fault, twice, not_so, not_apart, unkinded}
use Rattle.ur_typed_rules.specs.Repeats.{RepeatsName}
use Rattle.ur_typed_rules.specs.Arguments.{BreaksCon, BreaksKinds, IsUnmet}
use Rattle.ur_check_scopes.specs.declared.arguments.Given.{Given}
use Rattle.ur_check_scopes.specs.Views.{IsLarge}

-- what halts is told as E16 where it is too large
abbrev pub StopsBy : Halt → Stop → Type 0
StopsBy h (stop.Refused r) = (h ≡ halt.TooLarge) × IsLarge r
StopsBy h stop.Memory = ⊤

-- one argument is of the kind of its parameter, its rows are apart, and it is plain
abbrev pub IsArgument : Env → Normal → Kind → Type 0
IsArgument env a k = (is_of_kind (variables env) a k ≡ true) × (con_rows_are_apart env a ≡ true) × (con_is_plain a ≡ true)

-- one of these is not so of the argument that is written so
pub data BreaksArgument (env : Env) (c : Con) (a : Normal) (k : Kind) : Fault → Type 0 where
  not_of_kind : is_of_kind (variables env) a k ≡ false → BreaksArgument env c a k (unkinded (codes "another kind") (codes "the kind of the parameter"))
  rows_meet : {f : Fault} → BreaksCon env.known c a f → con_rows_are_apart env a ≡ false → BreaksArgument env c a k f
  not_plain : con_is_plain a ≡ false → BreaksArgument env c a k (not_so (codes "a constructor argument") (codes "no arrow and no transaction"))

-- the arguments behind that of a parameter of this kind
abbrev pub IsPastKind : Env → Given → Kind → Given → Type 0
IsPastKind env g k h = (a : Normal) × (c : _) × (g.args.now ≡ a ∷ h.args.now) × (g.written.now ≡ c ∷ h.written.now) × IsArgument env a k

-- no argument is there, or it is none for that kind
pub data BreaksKind (env : Env) (g : Given) (k : Kind) : Fault → Type 0 where
  no_argument : g.args.now ≡ [] → BreaksKind env g k (not_so (codes "too few constructor arguments") (codes "all arguments"))
  argument_breaks : {a : Normal} {args : List Normal} {c : Con} {f : Fault} → g.args.now ≡ a ∷ args → Contains (map (λ x. x.now) g.written.now) c → BreaksArgument env c a k f → BreaksKind env g k f

-- the arguments behind that of a parameter, if it has one
abbrev pub IsPast : Env → Given → ConParam → Given → Type 0
IsPast env g (con_param.Kinded k) h = IsPastKind env g k h
IsPast env g (con_param.Apart r s) h = h ≡ g

-- the argument of a parameter, if it has one, is not there or is none
pub data BreaksParam (env : Env) (g : Given) : ConParam → Fault → Type 0 where
  kind_breaks : {k : Kind} {f : Fault} → BreaksKind env g k f → BreaksParam env g (con_param.Kinded k) f

-- two rows are wanted apart, and are so at the arguments
abbrev pub IsMet : Assumptions → List Normal → ConParam → Type 0
IsMet known args (con_param.Kinded k) = ⊤
IsMet known args (con_param.Apart r s) = is_apart known (instance_row args r) (instance_row args s) ≡ true

-- they are not apart there
pub data BreaksMet (known : Assumptions) (args : List Normal) : ConParam → Fault → Type 0 where
  pair_meets : {r s : List Part} → is_apart known (instance_row args r) (instance_row args s) ≡ false → BreaksMet known args (con_param.Apart r s) (not_apart (instance_row args r) (instance_row args s))

-- the arguments are not of the kinds of the parameters, or a name stands twice in one of them
pub data BreaksHaving (env : Env) (g : Given) (cons : List ConParam) : Fault → Type 0 where
  having_breaks : {f : Fault} → BreaksKinds env g.args.now (kinds_of cons) f → BreaksHaving env g cons f
  having_repeats : {c : Con} {name : List ℕ} → Contains (map (λ x. x.now) g.written.now) c → RepeatsName c name → have_kinds env g.args.now (kinds_of cons) ≡ false → BreaksHaving env g cons (twice name)

-- what is said of the arguments that are left, behind those of some parameters, is said of all of them
pub record Leads (env : Env) (g : Given) (all : List ConParam) (h : Given) (left : List ConParam) : Type 0 where
  pub kinds : have_kinds env g.args.now (kinds_of all) ≡ have_kinds env h.args.now (kinds_of left)
  pub broken : (f : Fault) → BreaksHaving env h left f → BreaksHaving env g all f

-- some two rows that are wanted apart are not so at the arguments
pub data BreaksObligations (known : Assumptions) (args : List Normal) (cons : List ConParam) : Fault → Type 0 where
  some_unmet : {a b : List Part} → IsUnmet known args (rows_apart cons) a b → BreaksObligations known args cons (not_apart a b)

-- ---- the types of a function at constructor arguments

-- how many nodes are left of the most, where so many are used
abbrev pub IsLeft : ℕ → Option ℕ → Type 0
IsLeft used None = most_nodes < used
IsLeft used (Some n) = n + used ≡ most_nodes

-- the types of parameters at constructor arguments
abbrev pub types_at : List Normal → List Param → List NormalType
types_at args params = map (λ p. instance_type args p.of) params

-- the nodes of types that arrows lead from
abbrev pub arrow_nodes : List NormalType → ℕ
arrow_nodes [] = 0
arrow_nodes (t ∷ ts) = suc (type_nodes t) + arrow_nodes ts
