-- What is written as the head of an application, as the code holds it, and what breaks its rule.
use Rattle.std.specs.Prelude.{◌≡◌, ℕ, ⊤, Bool, true, false, nat_le, List, [], ◌∷◌, map, Option, Some, None, option_and_then, slice_get}
use Rattle.ur_syntax.specs.Names.{name_text}
use Rattle.ur_syntax.specs.declared.con.Con.{Con}
use Rattle.ur_syntax.specs.declared.con.ConName.{ConName}
use Rattle.ur_syntax.specs.declared.exp.ExpForm.{ExpForm}
use Rattle.ur_syntax.specs.declared.exp.ExpForm.TheVariants as e
use Rattle.ur_rows.specs.declared.normal.Normal.{Normal}
use Rattle.ur_rows.specs.declared.normal.NormalType.{NormalType}
use Rattle.ur_rows.specs.Nodes.{nodes}
use Rattle.ur_rows.specs.Normal.{nf}
use Rattle.ur_rows_normal.specs.Arguments.{are_normal}
use Rattle.ur_typed_rules.specs.Names.{declared, local_at}
use Rattle.ur_typed_rules.specs.Scopes.{World, Scope}
use Rattle.ur_typed_rules.specs.Faults.{Fault, unknown, too_large}
use Rattle.ur_typed.specs.Rules.{function_at, tag_named, with_argument}
use Rattle.ur_typed.specs.Faults.{given_to, is_given, missing_argument, BreaksNamed, BreaksHead}
use Rattle.ur_check_scopes.specs.declared.names.Key.{Key}
use Rattle.ur_check_scopes.specs.declared.names.Key.TheVariants as key
use Rattle.ur_check_rules.specs.declared.values.Applied.{Applied}
use Rattle.ur_check_rules.specs.declared.values.Callee.{Callee}
use Rattle.ur_check_rules.specs.declared.values.Callee.TheVariants as callee

-- ---- names

-- the expression that names it
abbrev pub named_by : Key → ExpForm
named_by (key.Own x) = e.Var x.now
named_by (key.Member m x) = e.Member m.now x.now

-- no local hides it
abbrev pub IsFree : Key → Scope → Type 0
IsFree (key.Own x) s = local_at x.now s.names.locals ≡ None
IsFree (key.Member m x) s = ⊤

-- a constructor of a datatype that nothing declares
pub data IsNoTag (w : World) (k : ConName) : Fault → Type 0 where
  no_tag : declared w.globals k w.globals.constructors ≡ None → IsNoTag w k (unknown (name_text k.home k.name))

-- the same, or one that stands without its argument
pub data BreaksTag (w : World) (k : ConName) : Fault → Type 0 where
  undeclared : {f : Fault} → IsNoTag w k f → BreaksTag w k f
  without_argument : {n d : ℕ} {t : NormalType} → declared w.globals k w.globals.constructors ≡ Some n → slice_get w.declared.variants n ≡ Some (d, Some t) → BreaksTag w k missing_argument

-- ---- constructor arguments, the last one first

abbrev pub with_back : World → Scope → List Con → Option (ℕ × List Normal) → Option (ℕ × List Normal)
with_back w s [] f = f
with_back w s (c ∷ cs) f = option_and_then (with_argument w s c) (with_back w s cs f)

-- one of them is too large
pub data BreaksBack (w : World) (s : Scope) (f : Option (ℕ × List Normal)) : List Con → Fault → Type 0 where
  large_back : {c : Con} {cs : List Con} {g : ℕ × List Normal} → with_back w s cs f ≡ Some g → nat_le (nodes (nf s.names.cons c)) w.most ≡ false → BreaksBack w s f (c ∷ cs) too_large
  further_back : {c : Con} {cs : List Con} {x : Fault} → BreaksBack w s f cs x → BreaksBack w s f (c ∷ cs) x

-- ---- what is applied

-- the named function that is written so, with its constructor arguments
pub record IsApplied (w : World) (s : Scope) (x : ExpForm) (a : Applied) : Type 0 where
  pub at : function_at w s x ≡ Some (a.number, a.args)
  pub given : map (λ c. c.now) a.given ≡ given_to x
  pub ordered : are_normal a.args ≡ true

abbrev pub MayBeApplied : World → Scope → ExpForm → Option Applied → Type 0
MayBeApplied w s x (Some a) = IsApplied w s x a
MayBeApplied w s x None = function_at w s x ≡ None

-- a constructor argument of what is written so is too large
pub record BreaksGivenTo (w : World) (s : Scope) (x : ExpForm) (f : Fault) : Type 0 where
  pub is_given : is_given x ≡ true
  pub none : function_at w s x ≡ None
  pub broken : BreaksNamed w s x f

-- an expression that is neither of a constructor of a datatype
abbrev pub is_tag_form : ExpForm → Bool
is_tag_form (e.Constructor x) = true
is_tag_form (e.MemberConstructor m x) = true
is_tag_form _ = false

abbrev pub MayBeTag : World → ExpForm → Option ℕ → Type 0
MayBeTag w x (Some n) = tag_named w x ≡ Some n
MayBeTag w x None = is_tag_form x ≡ false

abbrev pub IsCallee : World → Scope → ExpForm → Callee → Type 0
IsCallee w s x (callee.Function a) = IsApplied w s x a
IsCallee w s x (callee.Tag n) = (function_at w s x ≡ None) × (tag_named w x ≡ Some n)
IsCallee w s x callee.Other = (function_at w s x ≡ None) × (is_tag_form x ≡ false)

-- what is applied breaks its rule
pub data BreaksCallee (w : World) (s : Scope) (x : ExpForm) : Fault → Type 0 where
  large_given : {f : Fault} → BreaksGivenTo w s x f → BreaksCallee w s x f
  bad_head : {f : Fault} → function_at w s x ≡ None → BreaksHead w x f → BreaksCallee w s x f
