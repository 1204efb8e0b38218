-- What a pattern is, and what it binds, apart.
use Rattle.std.specs.Prelude.{◌≡◌, ◌==◌, ℕ, pos, neg_ℤ, Bool, true, false, length, map, List, [], ◌∷◌, Option, Some, None, if◌then◌else◌, option_map, option_and_then}
use Rattle.ur_base.specs.Stopping.{Says}
use Rattle.ur_base.specs.declared.refusal.Refusal.{Refusal}
use Rattle.ur_syntax.specs.Names.{own, member as of_module}
use Rattle.ur_syntax.specs.declared.con.ConName.{ConName}
use Rattle.ur_syntax.specs.declared.exp.Argument.{Argument}
use Rattle.ur_syntax.specs.declared.exp.Argument.TheVariants as argument
use Rattle.ur_syntax.specs.declared.exp.PatForm.{PatForm}
use Rattle.ur_syntax.specs.declared.exp.PatForm.TheVariants as pat
use Rattle.ur_terms.specs.declared.term.Pattern.{Pattern}
use Rattle.ur_terms.specs.declared.term.Pattern.TheVariants as pattern
use Rattle.ur_rows.specs.declared.normal.NormalType.{NormalType}
use Rattle.ur_rows.specs.declared.normal.NormalType.TheVariants as ty
use Rattle.ur_tree.specs.declared.typed.Variant.{Variant}
use Rattle.ur_tree.specs.Heads.{Declared}
use Rattle.ur_tree.specs.Patterns.{bound_by}
use Rattle.ur_typed_rules.specs.Names.{Globals, declared, bound_name}
use Rattle.ur_typed_rules.specs.Patterns.{NamesConstructor}
use Rattle.ur_check_scopes.specs.declared.locals.Local.{Local}

-- a pattern without what it binds
abbrev pub plain_pattern : Globals → PatForm → Option Pattern
plain_pattern g pat.Wild = Some pattern.Any
plain_pattern g (pat.Var x) = Some pattern.Any
plain_pattern g (pat.Int n) = Some (pattern.Int (pos n))
plain_pattern g (pat.Negative n) = Some (pattern.Int (neg_ℤ (pos n)))
plain_pattern g (pat.Str s) = Some (pattern.Str s)
plain_pattern g pat.True = Some (pattern.Bool true)
plain_pattern g pat.False = Some (pattern.Bool false)
plain_pattern g pat.None = Some pattern.Absent
plain_pattern g (pat.Some x) = Some pattern.Present
plain_pattern g pat.Nil = Some pattern.Empty
plain_pattern g (pat.Cons x y) = Some pattern.Cons
plain_pattern g (pat.Constructor x a) = option_map pattern.Tagged (declared g (own x) g.constructors)
plain_pattern g (pat.Member m x a) = option_map pattern.Tagged (declared g (of_module m x) g.constructors)

abbrev pub argument_names : Argument → List (Option (List ℕ))
argument_names argument.Absent = []
argument_names (argument.Bound x) = bound_name x ∷ []

-- the names of what it binds, in written order
abbrev pub names_of : PatForm → List (Option (List ℕ))
names_of pat.Wild = None ∷ []
names_of (pat.Var x) = Some x ∷ []
names_of (pat.Some x) = bound_name x ∷ []
names_of (pat.Cons x y) = bound_name x ∷ bound_name y ∷ []
names_of (pat.Constructor x a) = argument_names a
names_of (pat.Member m x a) = argument_names a
names_of _ = []

abbrev pub is_of_datatype : NormalType → ℕ → Bool
is_of_datatype (ty.Datatype d) n = d == n
is_of_datatype _ n = false

-- the datatype and the argument of each constructor
abbrev pub variants_in : List Variant → List (ℕ × Option NormalType)
variants_in vs = map (λ v. (v.datatype, v.arg)) vs

abbrev pub variable : Option (List ℕ) → NormalType → Local
variable x t = record { name = x; fixed = false; of = t }

-- variables of these names and types, as many as there are of both
abbrev pub locals_with : List (Option (List ℕ)) → List NormalType → List Local
locals_with (x ∷ xs) (t ∷ ts) = variable x t ∷ locals_with xs ts
locals_with _ _ = []

-- the constructor that a pattern names is not declared
abbrev pub IsUnknown : Globals → PatForm → Refusal → Type 0
IsUnknown g p r = (c : ConName) × (text : List ℕ) × NamesConstructor p c text × (declared g c g.constructors ≡ None) × Says r 7 text []

-- the variables of these names and types, where there are as many of both
abbrev pub paired : List (Option (List ℕ)) → List NormalType → Option (List Local)
paired names types = if length names == length types then Some (locals_with names types) else None

-- what a pattern with these names binds, where it stands for values of the type and names all that it binds
abbrev pub bound_as : Declared → NormalType → Pattern → List (Option (List ℕ)) → Option (List Local)
bound_as d t p names = option_and_then (paired names) (bound_by d t p)
