-- What resolves and has its type by the rules is what the walk gives.
use Rattle.std.specs.Prelude.{◌≡◌, List, length, Some}
use Rattle.ur_syntax.specs.declared.exp.ExpForm.{ExpForm}
use Rattle.ur_rows.specs.declared.normal.NormalType.{NormalType}
use Rattle.ur_tree.specs.declared.exp.Exp.{Exp}
use Rattle.ur_tree.specs.Env.{Env}
use Rattle.ur_tree.specs.Occurrences.{Occurrence, occurrences}
use Rattle.ur_typed_rules.specs.Names.{Names}
use Rattle.ur_typed_rules.specs.Scopes.{World, Scope, Mode}
use Rattle.ur_typed.specs.Resolves.{Statements, Resolves}
use Rattle.ur_typed.specs.Typed.{sites_in, updates_in, CountsFrom}
use Rattle.ur_typed.specs.Rules.{Sites, Out}
use Rattle.ur_typed.specs.Walking.{typed}
use Rattle.ur_typed_laws.specs.Judged.{Fills, Numbered, stated, Judged}

abbrev pub scope_at : Names → Env → Scope
scope_at names env = record { names = names; env = env }

abbrev pub out_of : NormalType → Exp → Sites → Out
out_of t b st = record { of = t; exp = b; sites = st }

-- the numbers of statements go on from those that are there
pub record Starts (st : Sites) (os : List Occurrence) : Type 0 where
  pub sites : CountsFrom (length st.queries) (sites_in os)
  pub updates : CountsFrom (length st.changes) (updates_in os)

-- the walk gives just this expression and type, and numbers the expression's statements
pub record IsWalked (w : World) (d : Statements) (x : ExpForm) (s : Scope) (st : Sites) (m : Mode) (b : Exp) (t : NormalType) : Type 0 where
  pub sites : Sites
  pub walked : typed w x s st m ≡ Some (out_of t b sites)
  pub fills : Fills w d sites
  pub numbered : Numbered st (occurrences b) sites

-- the same in each scope with these names, where the expression has a type by the rules
abbrev pub Walks : World → Statements → Names → ExpForm → Exp → Type 0
Walks w d names x b = (env : Env) (m : Mode) (t : NormalType) → Judged (stated d w) (scope_at names env) m b t → (st : Sites) → Fills w d st → Starts st (occurrences b) → IsWalked w d x (scope_at names env) st m b t

-- What an expression resolves to, of a type by the rules, is what the walk gives.
abbrev pub SourceIsWalked : Type 0
SourceIsWalked = (w : World) (d : Statements) (names : Names) (x : ExpForm) (b : Exp) → Resolves d w.most w.globals (stated d w).declared names x b → Walks w d names x b

-- In a scope, from the statements so far, an expression has at most one source and one type by the rules.
abbrev pub OneSource : Type 0
OneSource = (w : World) (d : Statements) (names : Names) (env : Env) (m : Mode) (st : Sites) (x : ExpForm) (b c : Exp) (t u : NormalType) →
    Resolves d w.most w.globals (stated d w).declared names x b → Judged (stated d w) (scope_at names env) m b t → Starts st (occurrences b) →
    Resolves d w.most w.globals (stated d w).declared names x c → Judged (stated d w) (scope_at names env) m c u → Starts st (occurrences c) → Fills w d st → (b ≡ c) × (t ≡ u)
