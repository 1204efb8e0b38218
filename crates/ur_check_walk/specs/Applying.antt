-- What is told of applications.
use Rattle.std.specs.Prelude.{◌≡◌, ℕ, false, List, [], ◌∷◌, Some, codes}
use mathlib.Core.Former.{Count}
use Rattle.std.specs.Borrow.{Bor}
use Rattle.ur_base.specs.declared.refusal.Refusal.{Refusal}
use Rattle.ur_syntax.specs.declared.exp.Exp.{Exp}
use Rattle.ur_syntax.specs.declared.exp.ExpForm.{ExpForm}
use Rattle.ur_syntax.specs.declared.exp.ExpForm.TheVariants as e
use Rattle.ur_rows.specs.declared.normal.NormalType.{NormalType}
use Rattle.ur_tree.specs.declared.exp.Exp.{Exp as Resolved}
use Rattle.ur_tree.specs.declared.exp.Exp.TheBlock.{Row_of-Exp as Row_of-Resolved}
use Rattle.ur_tree.specs.declared.exp.Param.{Param}
use Rattle.ur_tree.specs.Typing.{are_static_at}
use Rattle.ur_typed_rules.specs.Scopes.{World, Scope, Mode}
use Rattle.ur_typed_rules.specs.Faults.{Fault, TellsType, not_so}
use Rattle.ur_typed.specs.Causes.{HasFault}
use Rattle.ur_typed.specs.Faults.{walks, no_further, missing_argument, TooMany, TooFew, BreaksApplied, BreaksSpine}
use Rattle.ur_typed.specs.Parts.{InArgs, InCall, InSpine}
use Rattle.ur_typed.specs.Rules.{Sites, args_out, applied}
use Rattle.ur_typed.specs.Walking.{typed, spine}
use Rattle.ur_check_scopes.specs.declared.around.Around.{Around}
use Rattle.ur_check_scopes.specs.Views.{Stands, Refuses}
use Rattle.ur_check_rules.specs.declared.out.Out.{Out as HeldOut}
use Rattle.ur_check_rules.specs.declared.out.Sites.{Sites as HeldSites}
use Rattle.ur_check_rules.specs.Views.{sites_in, out_in, args_with}

-- ---- what stands behind one another

-- the arguments in written order, of which the first comes last, before others
abbrev pub forms_onto : List (Bor Exp) → List ExpForm → List ExpForm
forms_onto [] behind = behind
forms_onto (x ∷ xs) behind = forms_onto xs (x.now.form ∷ behind)

abbrev pub forms_in : List (Bor Exp) → List ExpForm
forms_in xs = forms_onto xs []

-- In the first expression, with arguments behind it, the second one is applied to these.
pub data Unapplied : ExpForm → List ExpForm → ExpForm → List ExpForm → Type 0 where
  no_argument : {x : ExpForm} {xs : List ExpForm} → Unapplied x xs x xs
  an_argument : (f a : Exp) {y : ExpForm} {xs ys : List ExpForm} → Unapplied f.form (a.form ∷ xs) y ys → Unapplied (e.App f a) xs y ys

-- ---- arguments against types

-- an argument has a fault, or there are too many or too few
pub data ArgsHaveFault (names : List (List ℕ)) (w : World) (s : Scope) (st : Sites) (xs : List ExpForm) (ts : List NormalType) (r : Refusal) : Type 0 where
  in_argument : {su : Sites} {y : ExpForm} {m : Mode} → InArgs w s xs ts st su y m → HasFault names w s su y m r → ArgsHaveFault names w s st xs ts r
  many : TooMany (walks w xs) ts → TellsType names r no_further → ArgsHaveFault names w s st xs ts r
  few : TooFew (walks w xs) ts → TellsType names r missing_argument → ArgsHaveFault names w s st xs ts r

abbrev pub GivesArgs : Around → HeldSites → List ExpForm → List NormalType → List Resolved → HeldSites → Type 0
GivesArgs a before xs ts done after = (w : World) (s : Scope) → Stands a w s → args_out s (walks w xs) ts (sites_in before) ≡ Some (args_with done, sites_in after)

abbrev pub TellsArgs : Around → HeldSites → List ExpForm → List NormalType → Refusal → Type 0
TellsArgs a before xs ts r = (w : World) (s : Scope) → Stands a w s → ArgsHaveFault a.world.now.datatype_names w s (sites_in before) xs ts r

-- ---- what is applied to all its arguments

abbrev pub CallGives : World → Scope → HeldSites → ExpForm → List ExpForm → HeldOut → HeldSites → Type 0
CallGives w s before x xs o after = applied w s (sites_in before) x (typed w x) (walks w xs) ≡ Some (out_in o after)

-- the head or an argument has a fault, or the application breaks its rule
pub data CallHasFault (names : List (List ℕ)) (w : World) (s : Scope) (st : Sites) (x : ExpForm) (xs : List ExpForm) (r : Refusal) : Type 0 where
  in_call : {su : Sites} {y : ExpForm} {m : Mode} → InCall w s x xs st su y m → HasFault names w s su y m r → CallHasFault names w s st x xs r
  breaks_call : Refuses names (BreaksApplied names w s st x xs) r → CallHasFault names w s st x xs r

abbrev pub CallTells : List (List ℕ) → World → Scope → HeldSites → ExpForm → List ExpForm → Refusal → Type 0
CallTells names w s before x xs r = CallHasFault names w s (sites_in before) x xs r

-- what breaks the rule of a call before its arguments are looked at
pub data HeadBreaks (names : List (List ℕ)) (w : World) (s : Scope) (x : ExpForm) (f : Fault) : Type 0 where
  head_breaks : ((st : Sites) (xs : List ExpForm) → BreaksApplied names w s st x xs f) → HeadBreaks names w s x f

-- what stands at a static parameter is not static
abbrev pub BreaksStatic : List Param → {n : Count} → Row_of-Resolved n → Refusal → Type 0
BreaksStatic params args r = (are_static_at params args ≡ false) × ((names : List (List ℕ)) → TellsType names r (not_so (codes "an argument") (codes "a static expression")))

-- more than one argument, where one is taken
abbrev pub TellsMany : List ExpForm → Refusal → Type 0
TellsMany xs r = (y : ExpForm) × (z : ExpForm) × (rest : List ExpForm) × (xs ≡ y ∷ z ∷ rest) × ((names : List (List ℕ)) → TellsType names r no_further)

-- ---- applications behind one another

abbrev pub SpineGives : Around → HeldSites → ExpForm → List ExpForm → HeldOut → HeldSites → Type 0
SpineGives a before x xs o after = (w : World) (s : Scope) → Stands a w s → spine w x s (sites_in before) (typed w x) (walks w xs) ≡ Some (out_in o after)

pub data SpineHasFault (names : List (List ℕ)) (w : World) (s : Scope) (st : Sites) (x : ExpForm) (xs : List ExpForm) (r : Refusal) : Type 0 where
  in_spine : {su : Sites} {y : ExpForm} {m : Mode} → InSpine w s x xs st su y m → HasFault names w s su y m r → SpineHasFault names w s st x xs r
  breaks_spine : Refuses names (BreaksSpine names w s st x xs) r → SpineHasFault names w s st x xs r

abbrev pub SpineTells : Around → HeldSites → ExpForm → List ExpForm → Refusal → Type 0
SpineTells a before x xs r = (w : World) (s : Scope) → Stands a w s → SpineHasFault a.world.now.datatype_names w s (sites_in before) x xs r
