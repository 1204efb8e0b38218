-- What the functions promise that bind names: where a part stands, what a branch gives, and what breaks the rules of branches and of `val`s.
use Rattle.std.specs.Prelude.{◌≡◌, ◌++◌, ℕ, true, false, List, [], ◌∷◌, map, Option, Some, None, option_map}
use mathlib.Core.Former.{Count}
use Rattle.ur_base.specs.Shape.{Shape, count}
use Rattle.ur_base.specs.Stopping.{Says}
use Rattle.ur_base.specs.declared.refusal.Refusal.{Refusal}
use Rattle.ur_syntax.specs.declared.exp.Branch.{Branch}
use Rattle.ur_syntax.specs.declared.exp.LetVal.{LetVal}
use Rattle.ur_syntax.specs.declared.exp.Exp.{Exp}
use Rattle.ur_syntax.specs.declared.exp.PatForm.{PatForm}
use Rattle.ur_syntax.specs.declared.exp.ExpForm.{ExpForm, Row_of-Branch, end_of-Branch, more_of-Branch, Row_of-LetVal, end_of-LetVal, more_of-LetVal}
use Rattle.ur_syntax.specs.declared.exp.ExpForm.TheVariants as e
use Rattle.ur_terms.specs.declared.term.Pattern.{Pattern}
use Rattle.ur_rows.specs.declared.normal.NormalType.{NormalType}
use Rattle.ur_rows.specs.declared.normal.NormalType.TheVariants as ty
use Rattle.ur_tree.specs.declared.exp.Exp.{Exp as Resolved}
use Rattle.ur_tree.specs.declared.exp.Branch.{Branch as ResolvedBranch}
use Rattle.ur_tree.specs.Make as make
use Rattle.ur_typed_rules.specs.Names.{Local}
use Rattle.ur_typed_rules.specs.Scopes.{World, Scope, Mode, wants, within_branch}
use Rattle.ur_typed_rules.specs.Tests.{are_distinct, local_name}
use Rattle.ur_typed_rules.specs.Rules.{pattern_of, bound_in}
use Rattle.ur_typed_rules.specs.Patterns.{BreaksPat}
use Rattle.ur_typed_rules.specs.Repeats.{IsTwiceIn}
use Rattle.ur_typed.specs.Rules.{Sites, Out, Walk, gives, then_, Branches, no_branches, with_branch}
use Rattle.ur_typed.specs.Walking.{typed, branches_walk, vals_walk, let_walk}
use Rattle.ur_typed.specs.Parts.{InBranches, InVals}
use Rattle.ur_typed.specs.Faults.{BreaksPattern}
use Rattle.ur_typed.specs.Causes.{HasFault, BreaksVals, BreaksSettled}
use Rattle.ur_check_scopes.specs.declared.locals.Local.{Local as HeldLocal}
use Rattle.ur_check_scopes.specs.declared.around.Around.{Around}
use Rattle.ur_check_rules.specs.declared.out.Out.{Out as HeldOut}
use Rattle.ur_check_rules.specs.declared.out.Sites.{Sites as HeldSites}
use Rattle.ur_check_rules.specs.Views.{sites_in, out_in}
use Rattle.ur_check_scopes.specs.Views.{Stands, Refuses, local_in, of_variables, of_fixed, locals_in, values_in, fixed_in}

-- ---- places

-- The second place is within a binder that binds these, which stands in the first one.
pub record IsWithin (a : Around) (own : List HeldLocal) (i : Around) : Type 0 where
  pub world : i.world ≡ a.world
  pub cons : i.scope.cons ≡ a.scope.cons
  pub names : locals_in i.scope.locals ≡ map local_in own ++ locals_in a.scope.locals
  pub values : values_in i.scope.locals ≡ of_variables own ++ values_in a.scope.locals
  pub fixed : fixed_in i.scope.locals ≡ of_fixed own ++ fixed_in a.scope.locals
  pub levels : i.levels ≡ a.levels

-- The second place is within a lambda with these parameters, which stands in the first one.
pub record IsWithinLambda (a : Around) (own : List HeldLocal) (i : Around) : Type 0 where
  pub world : i.world ≡ a.world
  pub cons : i.scope.cons ≡ a.scope.cons
  pub names : locals_in i.scope.locals ≡ map local_in own ++ locals_in a.scope.locals
  pub values : values_in i.scope.locals ≡ of_variables own
  pub fixed : fixed_in i.scope.locals ≡ of_fixed own ++ fixed_in a.scope.locals
  pub levels : i.levels ≡ a.levels

-- ---- conditionals

-- a conditional whose condition is resolved
abbrev pub chosen_of : Scope → Sites → Mode → Resolved → Walk → Walk → Option Out
chosen_of s st m x a b = then_ (a s st m) (λ y. then_ (b s y.sites (wants y.of)) (λ z. gives y.of (make.choice x y.exp z.exp) z.sites))

-- The two sides of a conditional give these, in each world and scope in which the code stands.
abbrev pub GivesSides : Around → HeldSites → Exp → Exp → Mode → HeldOut × HeldOut → HeldSites → Type 0
GivesSides a before x y m o after = (w : World) (s : Scope) (z : Resolved) → Stands a w s → chosen_of s (sites_in before) m z (typed w x.form) (typed w y.form) ≡ gives o.0.of (make.choice z o.0.exp o.1.exp) (sites_in after)

-- The refusal tells a fault of the conditional, whatever its condition is.
abbrev pub TellsSides : Around → HeldSites → Exp → Exp → Mode → Refusal → Type 0
TellsSides a before x y m r = (w : World) (s : Scope) (st : Sites) (c : Exp) (d : Out) → Stands a w s → typed w c.form s st (wants ty.Bool) ≡ Some d → d.sites ≡ sites_in before → HasFault a.world.now.datatype_names w s st (e.If c x y) m r

-- ---- branches

-- branches as they stand in an expression
abbrev pub branch_row : List Branch → (s : Shape) × Row_of-Branch (count s)
branch_row [] = ([], end_of-Branch)
branch_row (b ∷ bs) = (tt ∷ (branch_row bs).0, more_of-Branch b.pat b.body.span b.body.form (branch_row bs).1)

-- what is wanted of a further branch, where this is found of those before it
abbrev pub asked : Option NormalType → Mode → Mode
asked None m = m
asked (Some t) m = wants t

-- a branch with this pattern and this body, over a type, gives this
pub record IsBranch (w : World) (s : Scope) (u : NormalType) (st : Sites) (m : Mode) (t : PatForm) (x : ExpForm) (p : Pattern) (o : Out) : Type 0 where
  pub locals : List Local
  pub bound : List NormalType
  pub pattern : pattern_of w.globals t ≡ Some (locals, p)
  pub types : bound_in w u (locals, p) ≡ Some bound
  pub distinct : are_distinct locals ≡ true
  pub body : typed w x (within_branch locals bound s) st m ≡ Some o

-- a fault of a branch: of its pattern, or within its body
pub data BranchFault (names : List (List ℕ)) (w : World) (s : Scope) (u : NormalType) (st : Sites) (m : Mode) (t : PatForm) (x : ExpForm) (r : Refusal) : Type 0 where
  of_pattern : Refuses names (BreaksPat names w u t) r → BranchFault names w s u st m t x r
  of_body : (q : List Local × Pattern) (bound : List NormalType) → pattern_of w.globals t ≡ Some q → bound_in w u q ≡ Some bound → HasFault names w (within_branch q.0 bound s) st x m r → BranchFault names w s u st m t x r

-- a fault of branches
pub data BranchesFault (names : List (List ℕ)) (w : World) (s : Scope) (u : NormalType) (n : Count) (row : Row_of-Branch n) (st : Sites) (m : Mode) (r : Refusal) : Type 0 where
  of_patterns : Refuses names (BreaksPattern names w u n row) r → BranchesFault names w s u n row st m r
  of_bodies : (s' : Scope) (su : Sites) (y : ExpForm) (m' : Mode) → InBranches w s u n row st m s' su y m' → HasFault names w s' su y m' r → BranchesFault names w s u n row st m r

-- branches that are resolved, before further ones
abbrev pub before : List ResolvedBranch → Branches → Branches
before [] b = b
before (x ∷ xs) b = let rest : Branches = before xs b in with_branch x.pattern (record { of = rest.of; exp = x.body; sites = rest.sites }) rest

-- The branches give this where the code stands: these resolved ones, behind which this type is found.
abbrev pub GivesBranches : Around → HeldSites → NormalType → List Branch → Mode → Option NormalType → List ResolvedBranch → HeldSites → Type 0
GivesBranches a start u list m of done after = (w : World) (s : Scope) → Stands a w s → branches_walk w (branch_row list).1 s u (sites_in start) m ≡ option_map (before done) (no_branches (sites_in after) (asked of m))

abbrev pub TellsBranches : Around → HeldSites → NormalType → List Branch → Mode → Refusal → Type 0
TellsBranches a start u list m r = (w : World) (s : Scope) → Stands a w s → BranchesFault a.world.now.datatype_names w s u _ (branch_row list).1 (sites_in start) m r

abbrev pub GivesBranch : Around → HeldSites → NormalType → Branch → Mode → Pattern → HeldOut → HeldSites → Type 0
GivesBranch a start u b m p o after = (w : World) (s : Scope) → Stands a w s → IsBranch w s u (sites_in start) m b.pat.form b.body.form p (out_in o after)

abbrev pub TellsBranch : Around → HeldSites → NormalType → Branch → Mode → Refusal → Type 0
TellsBranch a start u b m r = (w : World) (s : Scope) → Stands a w s → BranchFault a.world.now.datatype_names w s u (sites_in start) m b.pat.form b.body.form r

-- ---- `val`s

-- `val`s as they stand in an expression
abbrev pub val_row : List LetVal → (s : Shape) × Row_of-LetVal (count s)
val_row [] = ([], end_of-LetVal)
val_row (v ∷ vs) = (tt ∷ (val_row vs).0, more_of-LetVal v.span v.name v.con v.value.span v.value.form (val_row vs).1)

-- a fault of `val`s and the body behind them
pub data ValsFault (names : List (List ℕ)) (w : World) (b : ExpForm) (m : Mode) (n : Count) (row : Row_of-LetVal n) (s : Scope) (st : Sites) (r : Refusal) : Type 0 where
  of_vals : Refuses names (BreaksVals names w b m n row s st) r → ValsFault names w b m n row s st r
  of_parts : (s' : Scope) (su : Sites) (y : ExpForm) (m' : Mode) → InVals w b m n row s st s' su y m' → HasFault names w s' su y m' r → ValsFault names w b m n row s st r

-- the same of further `val`s, whose `let` may not be accepted, or have another type
pub data FurtherFault (names : List (List ℕ)) (w : World) (b : ExpForm) (m : Mode) (n : Count) (row : Row_of-LetVal n) (s : Scope) (st : Sites) (r : Refusal) : Type 0 where
  of_further : ValsFault names w b m n row s st r → FurtherFault names w b m n row s st r
  of_let : (z : Out) → vals_walk w row s st m (typed w b) ≡ Some z → Refuses names (BreaksSettled names w m z) r → FurtherFault names w b m n row s st r

-- What `val`s give, of which this is the first, with the body behind them.
abbrev pub GivesVals : Around → HeldSites → LetVal → List LetVal → Exp → Mode → HeldOut → HeldSites → Type 0
GivesVals a start v rest b m o after = (w : World) (s : Scope) → Stands a w s → vals_walk w (val_row (v ∷ rest)).1 s (sites_in start) m (typed w b.form) ≡ Some (out_in o after)

abbrev pub TellsVals : Around → HeldSites → LetVal → List LetVal → Exp → Mode → Refusal → Type 0
TellsVals a start v rest b m r = (w : World) (s : Scope) → Stands a w s → ValsFault a.world.now.datatype_names w b.form m _ (val_row (v ∷ rest)).1 s (sites_in start) r

-- the same of further ones
abbrev pub GivesFurther : Around → HeldSites → List LetVal → Exp → Mode → HeldOut → HeldSites → Type 0
GivesFurther a start vs b m o after = (w : World) (s : Scope) → Stands a w s → let_walk w (val_row vs).1 s (sites_in start) m (typed w b.form) ≡ Some (out_in o after)

abbrev pub TellsFurther : Around → HeldSites → List LetVal → Exp → Mode → Refusal → Type 0
TellsFurther a start vs b m r = (w : World) (s : Scope) → Stands a w s → FurtherFault a.world.now.datatype_names w b.form m _ (val_row vs).1 s (sites_in start) r

-- a breach of a `val`'s own type, whatever is behind it
abbrev pub TellsType : Around → LetVal → Refusal → Type 0
TellsType a v r = (w : World) (s : Scope) (b : ExpForm) (m : Mode) (rest : List LetVal) (st : Sites) → Stands a w s → Refuses a.world.now.datatype_names (BreaksVals a.world.now.datatype_names w b m _ (val_row (v ∷ rest)).1 s st) r

-- ---- parameters

-- the refusal tells a name that two of these have
abbrev pub TwiceTold : List HeldLocal → Refusal → Type 0
TwiceTold ls r = (x : List ℕ) × IsTwiceIn x (map local_name (map local_in ls)) × (are_distinct (map local_in ls) ≡ false) × Says r 8 x []
