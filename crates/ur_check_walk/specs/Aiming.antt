-- What is told of the targets of links and buttons, and of the values of fields.
use Rattle.std.specs.Prelude.{◌≡◌, ℕ, false, List, Option, Some, None, option_map, codes}
use Rattle.ur_base.specs.declared.refusal.Refusal.{Refusal}
use Rattle.ur_syntax.specs.declared.exp.ExpForm.{ExpForm}
use Rattle.ur_syntax.specs.declared.xml.AttrValue.{AttrValue}
use Rattle.ur_syntax.specs.declared.xml.AttrValue.TheVariants as attr_value
use Rattle.ur_rows.specs.declared.normal.Label.{Label}
use Rattle.ur_rows.specs.declared.normal.NormalType.{NormalType}
use Rattle.ur_rows.specs.declared.normal.NormalType.TheVariants as ty
use Rattle.ur_rows.specs.Kinded.{label_is_in}
use Rattle.ur_tree.specs.declared.exp.Exp.{Exp as Resolved}
use Rattle.ur_tree.specs.declared.exp.Exp.TheBlock.{Held-Exp-Tagged-1, None'}
use Rattle.ur_tree.specs.Env.{variables}
use Rattle.ur_tree.specs.Heads.{Declared}
use Rattle.ur_typed_rules.specs.Scopes.{World, Scope, Mode, wants}
use Rattle.ur_typed_rules.specs.Faults.{Fault, TellsType, unkinded}
use Rattle.ur_typed.specs.Causes.{HasFault}
use Rattle.ur_typed.specs.Faults.{walks, missing_argument, too_many_given, TooMany, TooFew}
use Rattle.ur_typed.specs.Markups.{page_params, value_out, held_exp}
use Rattle.ur_typed.specs.Parts.{InTarget, all_types, all_but_last}
use Rattle.ur_typed.specs.Resolves.{IsAntiquote}
use Rattle.ur_typed.specs.Rules.{Sites, Walk, args_out}
use Rattle.ur_typed.specs.Walking.{call_walk, with_calls}
use Rattle.ur_check_scopes.specs.declared.around.Around.{Around}
use Rattle.ur_check_scopes.specs.Views.{Stands, Refuses}
use Rattle.ur_check_rules.specs.declared.out.Sites.{Sites as HeldSites}
use Rattle.ur_check_rules.specs.Views.{sites_in, args_with}
use Rattle.ur_check_forms.specs.declared.targets.Target.{Target}
use Rattle.ur_check_forms.specs.Targets.{IsLink, IsAction, BreaksLink, BreaksAction}
use Rattle.ur_check_walk.specs.Listed.{exp_row}
use Rattle.ur_check_walk.specs.Marking.{literal_in}
use Rattle.ur_check_walk.specs.declared.markup.Within.{Within}
use Rattle.ur_check_walk.specs.declared.targets.Aim.{Aim}
use Rattle.ur_check_walk.specs.declared.targets.Aim.TheVariants as aim

-- what may be the target
abbrev pub Aims : Aim → Declared → Target → Type 0
Aims aim.Link d t = IsLink d t
Aims aim.Action d t = IsAction d t

-- the function that is named, if any, may not be the target
abbrev pub BreaksAim : Aim → Declared → Option ℕ → Fault → Type 0
BreaksAim aim.Link d found f = BreaksLink d found f
BreaksAim aim.Action d found f = BreaksAction d found f

-- the types that are wanted of the arguments of a page function with these parameters
abbrev pub types_for : Aim → List NormalType → Option (List NormalType)
types_for aim.Link = all_types
types_for aim.Action = all_but_last

-- These types are wanted of the arguments of the function with that number.
pub record AsksFor (a : Aim) (d : Declared) (n : ℕ) (ts : List NormalType) : Type 0 where
  pub all : List NormalType
  pub params : page_params d n ≡ Some all
  pub wanted : types_for a all ≡ Some ts

-- A call breaks the rule of a target: by what is called, or by more or fewer arguments.
pub data BreaksTarget (a : Aim) (d : Declared) (c : Option (ℕ × List Walk)) : Fault → Type 0 where
  breaks_aim : (n : Option ℕ) (xs : List Walk) {f : Fault} → c ≡ option_map (with_calls xs) n → BreaksAim a d n f → BreaksTarget a d c f
  given_more : {n : ℕ} {xs : List Walk} {ts : List NormalType} → c ≡ Some (n, xs) → AsksFor a d n ts → TooMany xs ts → BreaksTarget a d c too_many_given
  given_less : {n : ℕ} {xs : List Walk} {ts : List NormalType} → c ≡ Some (n, xs) → AsksFor a d n ts → TooFew xs ts → BreaksTarget a d c missing_argument

-- What is called so, with these arguments behind it, is a target that gives these resolved arguments.
pub record IsTarget (w : World) (s : Scope) (a : Aim) (x : ExpForm) (xs : List ExpForm) (before : Sites) (t : Target) (done : List Resolved) (after : Sites) : Type 0 where
  pub args : List Walk
  pub called : call_walk w x s (walks w xs) ≡ Some (t.number, args)
  pub aims : Aims a w.declared t
  pub given : args_out s args t.args before ≡ Some (args_with done, after)

-- an argument of a target has a fault, or the call breaks its rule
pub data TargetFault (names : List (List ℕ)) (w : World) (s : Scope) (a : Aim) (x : ExpForm) (xs : List ExpForm) (st : Sites) (r : Refusal) : Type 0 where
  in_target : {su : Sites} {y : ExpForm} {m : Mode} → InTarget w s (types_for a) x xs st su y m → HasFault names w s su y m r → TargetFault names w s a x xs st r
  breaks_target : Refuses names (BreaksTarget a w.declared (call_walk w x s (walks w xs))) r → TargetFault names w s a x xs st r

abbrev pub GivesTarget : Around → HeldSites → Aim → ExpForm → List ExpForm → Target × List Resolved → HeldSites → Type 0
GivesTarget around before a x xs t after = (w : World) (s : Scope) → Stands around w s → IsTarget w s a x xs (sites_in before) t.0 t.1 (sites_in after)

abbrev pub TellsTarget : Around → HeldSites → Aim → ExpForm → List ExpForm → Refusal → Type 0
TellsTarget around before a x xs r = (w : World) (s : Scope) → Stands around w s → TargetFault around.world.now.datatype_names w s a x xs (sites_in before) r

-- ---- the value of a field or a button

-- an expression that may be held
abbrev pub held_with : Option Resolved → Held-Exp-Tagged-1
held_with None = None'
held_with (Some x) = held_exp x

-- the value of a tag, where it has one
abbrev pub GivesValue : Around → HeldSites → Within → Option AttrValue → Option Resolved → HeldSites → Type 0
GivesValue a before x v held after = (w : World) (s : Scope) → Stands a w s → value_out (literal_in w s x) (sites_in before) v ≡ Some (held_with held, sites_in after)

-- the expression of the value has a fault
pub record ValueHasFault (names : List (List ℕ)) (w : World) (s : Scope) (x : Within) (v : Option AttrValue) (st : Sites) (r : Refusal) : Type 0 where
  pub number : ℕ
  pub form : ExpForm
  pub given : v ≡ Some (attr_value.Exp number)
  pub at : IsAntiquote _ (exp_row x.attributes.now).1 number form
  pub fault : HasFault names w s st form (wants ty.Str) r

abbrev pub TellsValue : Around → HeldSites → Within → Option AttrValue → Refusal → Type 0
TellsValue a before x v r = (w : World) (s : Scope) → Stands a w s → ValueHasFault a.world.now.datatype_names w s x v (sites_in before) r

-- the name of a field is no name in scope, and that is told
abbrev pub IsStray : List (List ℕ) → Scope → Label → Refusal → Type 0
IsStray names s l r = (label_is_in (variables s.env) l ≡ false) × TellsType names r (unkinded (codes "another kind") (codes "Name"))
