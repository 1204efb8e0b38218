-- What written patterns, parameters, types and names of fields come to.
use Rattle.std.specs.Prelude.{ℕ, pos, neg_ℤ, ◌&&◌, ◌==◌, length, nat_le, Bool, true, false, List, [], ◌∷◌, Option, Some, None, option_map, option_and_then}
use Rattle.ur_syntax.specs.Names.{own, member as of_module}
use Rattle.ur_syntax.specs.declared.con.Con.{Con}
use Rattle.ur_syntax.specs.declared.con.FieldName.{FieldName}
use Rattle.ur_syntax.specs.declared.exp.Argument.TheVariants as argument
use Rattle.ur_syntax.specs.declared.exp.Binder.{Binder}
use Rattle.ur_syntax.specs.declared.exp.LambdaParam.{LambdaParam}
use Rattle.ur_syntax.specs.declared.exp.LambdaParam.TheVariants as lambda_param
use Rattle.ur_syntax.specs.declared.exp.Param.{Param as WrittenParam}
use Rattle.ur_syntax.specs.declared.exp.Param.TheVariants as written_param
use Rattle.ur_syntax.specs.declared.exp.PatForm.{PatForm}
use Rattle.ur_syntax.specs.declared.exp.PatForm.TheVariants as pat
use Rattle.ur_terms.specs.declared.term.Pattern.{Pattern}
use Rattle.ur_terms.specs.declared.term.Pattern.TheVariants as pattern
use Rattle.ur_rows.specs.declared.normal.Label.{Label}
use Rattle.ur_rows.specs.declared.normal.Normal.{Normal}
use Rattle.ur_rows.specs.declared.normal.NormalType.{NormalType, end_of-NormalType as sole, more_of-NormalType as the}
use Rattle.ur_rows.specs.declared.normal.NormalType.TheVariants as ty
use Rattle.ur_rows.specs.declared.normal.Part.{Part}
use Rattle.ur_rows.specs.Made.{unit, parts}
use Rattle.ur_rows.specs.Nodes.{nodes}
use Rattle.ur_rows.specs.Normal.{nf, known_in, label_of}
use Rattle.ur_rows.specs.Put.{as_type, as_row}
use Rattle.ur_tree.specs.declared.exp.Param.{Param}
use Rattle.ur_rows.specs.Types.{is_placed}
use Rattle.ur_tree.specs.Env.{Env}
use Rattle.ur_tree.specs.Patterns.{bound_by}
use Rattle.ur_typed_rules.specs.Names.{Local, Globals, Names, declared, bound_name, local_of, param_of}
use Rattle.ur_typed_rules.specs.Names as here
use Rattle.ur_typed_rules.specs.Scopes.{World, Scope}
use Rattle.ur_typed_rules.specs.Tests.{is_type, is_row}

abbrev pub if_so : {A : Type 0} → Bool → Option A → Option A
if_so true x = x
if_so false x = None

-- ---- what types say

abbrev pub row_of : NormalType → Option (List Part)
row_of (ty.Record' _ r) = Some (parts r)
row_of _ = None

abbrev pub value_of : NormalType → Option NormalType
value_of (ty.Transaction' _ (the t sole)) = Some t
value_of _ = None

-- ---- patterns

abbrev pub tag_pattern : List Local → ℕ → List Local × Pattern
tag_pattern ls n = (ls, pattern.Tagged n)

abbrev pub binder_local : Binder → Local
binder_local x = here.value (bound_name x)

-- a pattern with what it binds
abbrev pub pattern_of : Globals → PatForm → Option (List Local × Pattern)
pattern_of g pat.Wild = Some (here.value None ∷ [], pattern.Any)
pattern_of g (pat.Var x) = Some (here.value (Some x) ∷ [], pattern.Any)
pattern_of g (pat.Int n) = Some ([], pattern.Int (pos n))
pattern_of g (pat.Negative n) = Some ([], pattern.Int (neg_ℤ (pos n)))
pattern_of g (pat.Str s) = Some ([], pattern.Str s)
pattern_of g pat.True = Some ([], pattern.Bool true)
pattern_of g pat.False = Some ([], pattern.Bool false)
pattern_of g pat.None = Some ([], pattern.Absent)
pattern_of g (pat.Some x) = Some (binder_local x ∷ [], pattern.Present)
pattern_of g pat.Nil = Some ([], pattern.Empty)
pattern_of g (pat.Cons x y) = Some (binder_local x ∷ binder_local y ∷ [], pattern.Cons)
pattern_of g (pat.Constructor x argument.Absent) = option_map (tag_pattern []) (declared g (own x) g.constructors)
pattern_of g (pat.Constructor x (argument.Bound y)) = option_map (tag_pattern (binder_local y ∷ [])) (declared g (own x) g.constructors)
pattern_of g (pat.Member m x argument.Absent) = option_map (tag_pattern []) (declared g (of_module m x) g.constructors)
pattern_of g (pat.Member m x (argument.Bound y)) = option_map (tag_pattern (binder_local y ∷ [])) (declared g (of_module m x) g.constructors)

-- the types of what a pattern binds, where it stands for values of a type and names all of them
abbrev pub if_as_many : List Local → List NormalType → Option (List NormalType)
if_as_many ls bound = if_so (length ls == length bound) (Some bound)

abbrev pub bound_in : World → NormalType → List Local × Pattern → Option (List NormalType)
bound_in w u q = option_and_then (if_as_many q.0) (bound_by w.declared u q.1)

-- ---- written types

-- a written type that may stand in the scope
abbrev pub written_type : World → Scope → Con → Option NormalType
written_type w s c = let n : Normal = nf s.names.cons c in if_so (nat_le (nodes n) w.most && is_type s.env (as_type n)) (Some (as_type n))

-- a written row that may stand in the scope
abbrev pub written_row : World → Scope → Con → Option (List Part)
written_row w s c = let n : Normal = nf s.names.cons c in if_so (nat_le (nodes n) w.most && is_row s.env (as_row n)) (Some (as_row n))

abbrev pub label_at : Scope → FieldName → Label
label_at s f = label_of (known_in s.names.cons) f

-- ---- parameters

-- a parameter with its written type, which is told to be one by `are_params`
abbrev pub small_type : ℕ → Normal → Option NormalType
small_type most n = if_so (nat_le (nodes n) most) (Some (as_type n))

abbrev pub param_out : ℕ → Names → WrittenParam → Option (Local × Param)
param_out most names (written_param.Value x c) = option_map (λ t. (local_of (bound_name x) t, param_of t)) (small_type most (nf names.cons c))
param_out most names written_param.Unit = Some (here.value None, param_of unit)

abbrev pub Params : Type 0
Params = List Local × List Param

abbrev pub no_params : Params
no_params = ([], [])

abbrev pub and_params : Local × Param → Params → Params
and_params p ps = (p.0 ∷ ps.0, p.1 ∷ ps.1)

abbrev pub params_out : ℕ → Names → List LambdaParam → Option Params
params_out most names [] = Some no_params
params_out most names (lambda_param.Typed p ∷ params) = option_and_then (λ q. option_map (and_params q) (params_out most names params)) (param_out most names p)
params_out most names (_ ∷ params) = None

-- a type may be that of a parameter
abbrev pub may_be_param : Env → NormalType → Bool
may_be_param env t = is_type env t && is_placed t
