-- The body of one function, and the right side of a `val`.
use Rattle.std.proofs.Common.{◌≡◌, ◌∙◌, sym, ap, subst, ℕ, true, false, List, [], ◌∷◌, ◌++◌, Option, Some, Err}
use Rattle.std.specs.Prelude.{option_map, option_and_then, codes}
use Rattle.ur_base.specs.declared.refusal.Refusal.{Refusal}
use Rattle.ur_base.specs.declared.refusal.Stop.{Stop}
use Rattle.ur_base.specs.declared.refusal.Stop.TheVariants as stop
use Rattle.ur_base.specs.Stopping.{IfRefused}
use Rattle.ur_syntax.specs.declared.decl.FunDef.{FunDef}
use Rattle.ur_syntax.specs.declared.exp.Exp.{Exp as WrittenExp}
use Rattle.ur_syntax.specs.declared.exp.ExpForm.{ExpForm}
use Rattle.ur_rows.specs.declared.normal.NormalType.{NormalType}
use Rattle.ur_tree.specs.Heads.{Head}
use Rattle.ur_tree.specs.IsStatic.{is_static}
use Rattle.ur_typed_rules.specs.Scopes.{World, Scope, Mode, wants}
use Rattle.ur_typed_rules.specs.Faults.{not_so}
use Rattle.ur_typed_rules.specs.Rules.{if_so}
use Rattle.ur_check_scopes.specs.declared.world.World.{World as Held}
use Rattle.ur_check_scopes.specs.declared.world.Head.{Head as HeldHead}
use Rattle.ur_check_scopes.specs.declared.around.Around.{Around}
use Rattle.ur_check_scopes.specs.Views.{Stands, StopIs, head_in, world_in}
use Rattle.ur_check_rules.specs.declared.out.Out.{Out as HeldOut}
use Rattle.ur_check_rules.specs.declared.out.Sites.{Sites as HeldSites}
use Rattle.ur_check_rules.specs.Views.{sites_in, out_in}
use Rattle.ur_typed.specs.Rules.{Sites, Out}
use Rattle.ur_typed.specs.Walking.{typed}
use Rattle.ur_typed.specs.Causes.{HasFault}
use Rattle.ur_typed.specs.Declaring.{Sofar, Heading, world_behind, top_scope, datatype_names, body_scope, with_body, body_out, with_val_body, val_body_out}
use Rattle.ur_check_heads.specs.declared.project.Project.{Project}
use Rattle.ur_check_heads.specs.Views.{Sees}
use Rattle.ur_check_heads.proofs.Seeing.{names-seen}
use Rattle.ur_check_heads.proofs.Entering.{world-seen}
use Rattle.ur_check.specs.declared.bodies.Bodies.{Bodies as HeldBodies}
use Rattle.ur_check.specs.Views.{bodies_in, RightSideTells, moves}

-- the same place, the world being that of the project
pub rebuilt : (p : Project) (home : ℕ) (z : Sofar) (a b : Around) (s : Scope) → Sees p home z → b.world.now ≡ p.world → b.scope ≡ a.scope →
    Stands a (world_behind 65536 z) s → Stands b (world_behind 65536 z) s
rebuilt p home z a b s sees ew es t =
    let scoped : Stands (record a { scope = b.scope }) (world_behind 65536 z) s = subst (λ x. Stands (record a { scope = x }) (world_behind 65536 z) s) (sym es) t in
    record { world = world-seen p home z sees ∙ ap world_in (sym ew); cons = scoped.cons; kinds = scoped.kinds; known = scoped.known; locals = scoped.locals; values = scoped.values; fixed = scoped.fixed }

-- what is typed against the head's result
pub wanted : (w : World) (x : ExpForm) (s : Scope) (st : Sites) (h : Head) (head : HeldHead) (o : Option Out) → h ≡ head_in head →
    typed w x s st (wants head.result) ≡ o → typed w x s st (wants h.result) ≡ o
wanted w x s st h head o e k = ap (λ (z : Head). typed w x s st (wants z.result)) e ∙ k

pub wanted-fault : (p : Project) (home : ℕ) (z : Sofar) (a : Held) (w : World) (x : ExpForm) (s : Scope) (st : Sites) (h : Head) (head : HeldHead) (r : Refusal) → Sees p home z → a ≡ p.world → h ≡ head_in head → HasFault a.datatype_names w s st x (wants head.result) r →
    HasFault (datatype_names z) w s st x (wants h.result) r
wanted-fault p home z a w x s st h head r sees ea e k =
    subst (λ (y : Head). HasFault (datatype_names z) w s st x (wants y.result) r) (sym e) (subst (λ ns. HasFault ns w s st x (wants head.result) r) (ap (λ (y : Held). y.datatype_names) ea ∙ sym (names-seen p home z sees)) k)

pub named-fault : (p : Project) (home : ℕ) (z : Sofar) (a : Held) (w : World) (x : ExpForm) (s : Scope) (st : Sites) (m : Mode) (r : Refusal) →
    Sees p home z → a ≡ p.world → HasFault a.datatype_names w s st x m r → HasFault (datatype_names z) w s st x m r
named-fault p home z a w x s st m r sees ea k = subst (λ ns. HasFault ns w s st x m r) (ap (λ (y : Held). y.datatype_names) ea ∙ sym (names-seen p home z sees)) k

pub body-so : (z : Sofar) (f : FunDef) (h : Heading) (b c : HeldBodies) (st : HeldSites) (o : HeldOut) →
    typed (world_behind 65536 z) f.body.form (body_scope h) (sites_in b.sites) (wants h.head.result) ≡ Some (out_in o st) →
    c.functions ≡ b.functions ++ o.exp ∷ [] → c.vals ≡ b.vals → c.sites ≡ st →
    body_out 65536 z f (bodies_in b) h ≡ Some (bodies_in c)
body-so z f h b c st o e ef ev es = ap (option_map (with_body (bodies_in b))) e ∙ (λ i. Some (record { functions = sym ef i; vals = sym ev i; sites = sites_in (sym es i) }))

pub val-so : (z : Sofar) (x : ExpForm) (t : NormalType) (b c : HeldBodies) (st : HeldSites) (o : HeldOut) →
    typed (world_behind 65536 z) x (top_scope z) (sites_in b.sites) (wants t) ≡ Some (out_in o st) → is_static o.exp ≡ true → c.functions ≡ b.functions →
    c.vals ≡ b.vals ++ o.exp ∷ [] → c.sites ≡ st →
    val_body_out 65536 z x (bodies_in b) t ≡ Some (bodies_in c)
val-so z x t b c st o e fixed ef ev es =
    ap (option_and_then (λ (y : Out). if_so (is_static y.exp) (Some (with_val_body (bodies_in b) y)))) e ∙ ap (λ d. if_so d (Some (with_val_body (bodies_in b) (out_in o st)))) fixed ∙ (λ i. Some (record { functions = sym ef i; vals = sym ev i; sites = sites_in (sym es i) }))

pub moves-told : (p : Project) (s : Stop) (e : WrittenExp) (t : NormalType) (before after : HeldSites) (o : HeldOut) →
    ((names : List (List ℕ)) → StopIs names (not_so (codes "the right side of a val") (codes "a static expression")) s) →
    ((home : ℕ) (z : Sofar) → Sees p home z → typed (world_behind 65536 z) e.form (top_scope z) (sites_in before) (wants t) ≡ Some (out_in o after)) → is_static o.exp ≡ false →
    IfRefused {A = Unit {0}} (Err s) (λ r. (home : ℕ) (z : Sofar) → Sees p home z → RightSideTells z e t (sites_in before) r)
moves-told p (stop.Refused r) e t before after o told so not_fixed = λ home z s. moves (so home z s) not_fixed (told (datatype_names z))
moves-told p stop.Memory e t before after o told so not_fixed = tt
