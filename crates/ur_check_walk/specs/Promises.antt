-- What the functions of the walk promise.
use Rattle.std.specs.Prelude.{◌≡◌, Some}
use Rattle.ur_base.specs.declared.refusal.Refusal.{Refusal}
use Rattle.ur_syntax.specs.declared.exp.ExpForm.{ExpForm}
use Rattle.ur_check_scopes.specs.declared.around.Around.{Around}
use Rattle.ur_check_scopes.specs.Views.{Stands}
use Rattle.ur_check_rules.specs.declared.out.Out.{Out as HeldOut}
use Rattle.ur_check_rules.specs.declared.out.Sites.{Sites as HeldSites}
use Rattle.ur_check_rules.specs.Views.{sites_in, out_in, out_with}
use Rattle.ur_typed_rules.specs.Scopes.{World, Scope, Mode}
use Rattle.ur_tree.specs.Typing.{Operation}
use Rattle.ur_typed.specs.Rules.{Sites}
use Rattle.ur_typed.specs.Causes.{HasFault}
use Rattle.ur_typed.specs.Walking as walking
use Rattle.ur_check_walk.specs.Sided.{BreaksLeft}

-- the code stands in some world and scope
abbrev pub StandsSomewhere : Around → Type 0
StandsSomewhere a = (w : World) × (s : Scope) × Stands a w s

-- in each world and scope in which the code stands, the expression gives the answer, from the statements before it
abbrev pub Gives : Around → HeldSites → ExpForm → Mode → HeldOut → HeldSites → Type 0
Gives a before x m o after = (w : World) (s : Scope) → Stands a w s → walking.walk w x s (sites_in before) m ≡ Some (out_in o after)

-- the same where its type is accepted, and is the wanted one
abbrev pub GivesTyped : Around → HeldSites → ExpForm → Mode → HeldOut → HeldSites → Type 0
GivesTyped a before x m o after = (w : World) (s : Scope) → Stands a w s → walking.typed w x s (sites_in before) m ≡ Some (out_in o after)

-- in each of them the refusal tells a fault of the expression
abbrev pub Tells : Around → HeldSites → ExpForm → Mode → Refusal → Type 0
Tells a before x m r = (w : World) (s : Scope) → Stands a w s → HasFault a.world.now.datatype_names w s (sites_in before) x m r

-- the same of an expression without parts, which numbers nothing
abbrev pub GivesLeaf : Around → ExpForm → Mode → HeldOut → Type 0
GivesLeaf a x m o = (w : World) (s : Scope) (st : Sites) → Stands a w s → walking.walk w x s st m ≡ Some (out_with o st)

abbrev pub TellsLeaf : Around → ExpForm → Mode → Refusal → Type 0
TellsLeaf a x m r = (w : World) (s : Scope) (st : Sites) → Stands a w s → HasFault a.world.now.datatype_names w s st x m r

-- the left side of an operator has a fault, or a type that it may not have there
abbrev pub LeftTells : Around → HeldSites → Operation → ExpForm → Mode → Refusal → Type 0
LeftTells a before o x m r = (w : World) (s : Scope) → Stands a w s → BreaksLeft a.world.now.datatype_names w s (sites_in before) o x m r
