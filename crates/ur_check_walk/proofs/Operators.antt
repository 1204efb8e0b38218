-- An operator with its two sides.
use Rattle.std.proofs.Common.{◌≡◌, sym, subst, true, false, List, ℕ, Some, Err}
use Rattle.std.specs.Prelude.{codes}
use Rattle.ur_base.specs.Stopping.{IfRefused}
use Rattle.ur_base.specs.declared.refusal.Refusal.{Refusal}
use Rattle.ur_base.specs.declared.refusal.Span.{Span}
use Rattle.ur_base.specs.declared.refusal.Stop.{Stop}
use Rattle.ur_base.specs.declared.refusal.Stop.TheVariants as stop
use Rattle.ur_syntax.specs.declared.exp.Binary.{Binary as WrittenBinary}
use Rattle.ur_syntax.specs.declared.exp.Exp.{Exp}
use Rattle.ur_syntax.specs.declared.exp.ExpForm.{ExpForm, end_of-Exp as alone, more_of-Exp as its}
use Rattle.ur_syntax.specs.declared.exp.ExpForm.TheVariants as e
use Rattle.ur_tree.specs.declared.exp.Binary.{Binary}
use Rattle.ur_tree.specs.Typing.{Operation, operation}
use Rattle.ur_typed_rules.specs.Scopes.{World, Scope, Mode}
use Rattle.ur_typed_rules.specs.Faults.{not_of_type}
use Rattle.ur_typed.specs.Rules.{Sites, Walk, operator_of, left_mode, right_mode, left_may, sides_out}
use Rattle.ur_typed.specs.Parts.{left_side, right_side}
use Rattle.ur_typed.specs.Causes.{HasFault, Breaks, not_compared}
use Rattle.ur_typed.specs.Walking.{typed}
use Rattle.ur_check_scopes.specs.declared.around.Around.{Around}
use Rattle.ur_rows.proofs.Shapes.{list-made}
use Rattle.ur_check_scopes.specs.Views.{Stands, Refuses, StopIs}
use Rattle.ur_check_rules.specs.declared.out.Out.{Out as HeldOut}
use Rattle.ur_check_rules.specs.declared.out.Sites.{Sites as HeldSites}
use Rattle.ur_check_rules.specs.Views.{sites_in, out_in, out_with}
use Rattle.ur_check_walk.specs.Promises.{Gives, GivesTyped, Tells, LeftTells}
use Rattle.ur_check_walk.specs.Sided.{BreaksLeft, left_fault, may_not}
use Rattle.ur_check_walk.proofs.Forms.{binary-made}
use Rattle.ur_check_walk.proofs.Steps.{part, rule, gives-as, tells-as}

-- what ur_check_rules says of two sides
abbrev pub Joins : Around → Operation → Binary → HeldOut → HeldOut → HeldOut → Type 0
Joins a asked op left right o = (w : World) (s : Scope) (before between after : Sites) (m : Mode) (f g : Walk) → Stands a w s → asked ≡ operation op → f s before (left_mode (operation op) m) ≡ Some (out_with left between) → left_may (operation op) left.of ≡ true →
    g s between (right_mode (operation op) left.of) ≡ Some (out_with right after) → sides_out op s before m f g ≡ Some (out_with o after)

abbrev pub Meets : Around → Operation → Binary → HeldOut → HeldOut → Refusal → Type 0
Meets a asked op left right r = (w : World) (s : Scope) (before between after : Sites) (m : Mode) (written : WrittenBinary) (p q : Span) (x y : ExpForm) → Stands a w s → operator_of written ≡ op → asked ≡ operation op → typed w x s before (left_mode (operation op) m) ≡ Some (out_with left between) →
    typed w y s between (right_mode (operation op) left.of) ≡ Some (out_with right after) → Refuses a.world.now.datatype_names (Breaks a.world.now.datatype_names w s before (e.Binary' written tt (its p x alone) tt (its q y alone)) m) r

pub sides-give : (a : Around) (before mid after : HeldSites) (written : WrittenBinary) (op : Binary) (asked : Operation) (x y : Exp) (m : Mode) (left right o : HeldOut) → op ≡ operator_of written → asked ≡ operation op → GivesTyped a before x.form (left_mode asked m) left mid →
    left_may asked left.of ≡ true → GivesTyped a mid y.form (right_mode asked left.of) right after → Joins a asked op left right o → Gives a before (e.Binary written x y) m o after
sides-give a before mid after written op asked x y m left right o eo ea l may r j = gives-as a before (e.Binary written x y) _ m o after (binary-made written x y) (λ w s st.
    subst (λ z. sides_out z s (sites_in before) m (typed w x.form) (typed w y.form) ≡ Some (out_in o after)) eo
    (j w s (sites_in before) (sites_in mid) (sites_in after) m (typed w x.form) (typed w y.form) st ea
    (subst (λ z. typed w x.form s (sites_in before) (left_mode z m) ≡ Some (out_in left mid)) ea (l w s st)) (subst (λ z. left_may z left.of ≡ true) ea may)
    (subst (λ z. typed w y.form s (sites_in mid) (right_mode z left.of) ≡ Some (out_in right after)) ea (r w s st))))

pub sides-meet : (a : Around) (before mid after : HeldSites) (written : WrittenBinary) (op : Binary) (asked : Operation) (x y : Exp) (m : Mode) (left right : HeldOut) (r : Refusal) → op ≡ operator_of written → asked ≡ operation op → GivesTyped a before x.form (left_mode asked m) left mid →
    GivesTyped a mid y.form (right_mode asked left.of) right after → Meets a asked op left right r → Tells a before (e.Binary written x y) m r
sides-meet a before mid after written op asked x y m left right r eo ea l g j = tells-as a before (e.Binary written x y) _ m r (binary-made written x y) (λ w s st.
    rule (j w s (sites_in before) (sites_in mid) (sites_in after) m written x.span y.span x.form y.form st (sym eo) ea
    (subst (λ z. typed w x.form s (sites_in before) (left_mode z m) ≡ Some (out_in left mid)) ea (l w s st))
    (subst (λ z. typed w y.form s (sites_in mid) (right_mode z left.of) ≡ Some (out_in right after)) ea (g w s st))))

left-broken : {names : List (List ℕ)} {w : World} {s : Scope} {st : Sites} (written : WrittenBinary) (p q : Span) (x y : ExpForm) (m : Mode) {r : Refusal} → BreaksLeft names w s st (operation (operator_of written)) x m r →
    HasFault names w s st (e.Binary' written tt (its p x alone) tt (its q y alone)) m r
left-broken written p q x y m (left_fault h) = part left_side h
left-broken {names = names} written p q x y m (may_not {d = d} h may t) = rule (not_of_type names d.of (codes "int, string or bool"), not_compared h may, t)

pub left-tells : (a : Around) (before : HeldSites) (written : WrittenBinary) (op : Binary) (asked : Operation) (x y : Exp) (m : Mode) (r : Refusal) → op ≡ operator_of written → asked ≡ operation op → LeftTells a before asked x.form m r → Tells a before (e.Binary written x y) m r
left-tells a before written op asked x y m r eo ea h = tells-as a before (e.Binary written x y) _ m r (binary-made written x y) (λ w s st.
    left-broken written x.span y.span x.form y.form m (subst (λ z. BreaksLeft a.world.now.datatype_names w s (sites_in before) (operation z) x.form m r) eo (subst (λ z. BreaksLeft a.world.now.datatype_names w s (sites_in before) z x.form m r) ea (h w s st))))

pub right-tells : (a : Around) (before mid : HeldSites) (written : WrittenBinary) (op : Binary) (asked : Operation) (x y : Exp) (m : Mode) (left : HeldOut) (r : Refusal) → op ≡ operator_of written → asked ≡ operation op → GivesTyped a before x.form (left_mode asked m) left mid →
    Tells a mid y.form (right_mode asked left.of) r → Tells a before (e.Binary written x y) m r
right-tells a before mid written op asked x y m left r eo ea l h = tells-as a before (e.Binary written x y) _ m r (binary-made written x y) (λ w s st.
    let is : asked ≡ operation (operator_of written) = subst (λ z. asked ≡ operation z) eo ea in
    part (right_side {d = out_in left mid} (subst (λ z. typed w x.form s (sites_in before) (left_mode z m) ≡ Some (out_in left mid)) is (l w s st)))
    (subst (λ z. HasFault a.world.now.datatype_names w s (sites_in mid) y.form (right_mode z left.of) r) is (h w s st)))

pub may-not-tells : (a : Around) (before after : HeldSites) (o : Operation) (x : ExpForm) (m : Mode) (p : HeldOut) (s : Stop) → left_may o p.of ≡ false → GivesTyped a before x (left_mode o m) p after →
    StopIs a.world.now.datatype_names (not_of_type a.world.now.datatype_names p.of (codes "int, string or bool")) s → IfRefused {A = Unit {0}} (Err s) (LeftTells a before o x m)
may-not-tells a before after o x m p (stop.Refused r) may h t = λ w s st. may_not {d = out_in p after} (h w s st) may t
may-not-tells a before after o x m p stop.Memory may h t = tt

-- the types that the code makes
pub ruleset types = (list-made)
