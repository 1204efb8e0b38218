-- From the parts of an expression to the whole, and from what the code holds of it to what the definitions say.
use Rattle.std.proofs.Common.{arith, ◌≡◌, ◌∙◌, ap, ap₂, sym, subst, ℕ, ◌+◌, ◌*◌, ◌<◌, ◌≤◌, List, Option, Some, None, Result, Err, IfOk, map}
use Rattle.std.specs.Prelude.{option_and_then, codes}
use Rattle.std.specs.Option.{option_copied}
use Rattle.std.specs.Borrow.{Bor}
use Rattle.ur_base.specs.Stopping.{IfRefused}
use Rattle.ur_base.specs.declared.refusal.Refusal.{Refusal}
use Rattle.ur_base.specs.declared.refusal.Stop.{Stop}
use Rattle.ur_base.specs.declared.refusal.Stop.TheVariants as stop
use Rattle.ur_rows_normal.specs.Preparing.{Reads}
use Rattle.ur_syntax.specs.declared.exp.Exp.{Exp}
use Rattle.ur_syntax.specs.declared.exp.ExpForm.{ExpForm, end_of-Exp as alone, more_of-Exp as its}
use Rattle.ur_syntax.specs.declared.exp.ExpForm.TheVariants as e
use Rattle.ur_rows.specs.declared.normal.NormalType.{NormalType}
use Rattle.ur_rows.specs.declared.normal.NormalType.TheVariants as ty
use Rattle.ur_tree.specs.Make as make
use Rattle.ur_check_rules.specs.declared.out.Out.{Out as HeldOut}
use Rattle.ur_check_rules.specs.declared.out.Sites.{Sites as HeldSites}
use Rattle.ur_check_rules.specs.Views.{out_with, out_in, sites_in}
use Rattle.ur_check_scopes.specs.declared.around.Around.{Around}
use Rattle.ur_check_scopes.specs.Views.{Stands, Refuses, StopIs, mode_of, world_in, locals_in, values_in, fixed_in}
use Rattle.ur_disjoint.specs.Tests.{pair}
use Rattle.ur_check_scopes.proofs.Exits.{ok-along, refused-along}
use Rattle.ur_typed_rules.specs.Scopes.{World, Scope, Mode, wants}
use Rattle.ur_typed_rules.specs.Faults.{mismatch}
use Rattle.ur_typed.specs.Rules as rules
use Rattle.ur_typed.specs.Rules.{Sites, Out}
use Rattle.ur_typed.specs.Parts.{Part, itself, within, failed}
use Rattle.ur_typed.specs.Causes.{HasFault, Breaks, BreaksSettled, unsettled, unannotated, error}
use Rattle.ur_typed.specs.Walking.{walk, typed}
use Rattle.ur_check_walk.specs.Promises.{StandsSomewhere, Gives, GivesTyped, Tells, GivesLeaf, TellsLeaf}
use Rattle.ur_check_walk.proofs.Forms.{error-made}

-- ---- faults

-- a fault of a part is one of the whole
pub part : {names : List (List ℕ)} {w : World} {s t : Scope} {st su : Sites} {x y : ExpForm} {m n : Mode} {r : Refusal} → Part w s st x m t su y n → HasFault names w t su y n r → HasFault names w s st x m r
part p h = record { fault = h.fault; scope = h.scope; behind = h.behind; place = h.place; mode = h.mode; stands = within p h.stands; broken = h.broken; told = h.told }

-- what breaks its own rule has a fault
pub rule : {names : List (List ℕ)} {w : World} {s : Scope} {st : Sites} {x : ExpForm} {m : Mode} {r : Refusal} → Refuses names (Breaks names w s st x m) r → HasFault names w s st x m r
rule {s = s} {st = st} {x = x} {m = m} t = record { fault = t.0; scope = s; behind = st; place = x; mode = m; stands = itself; broken = t.1; told = t.2 }

-- what it gives is not accepted, or of another type
pub settled : {names : List (List ℕ)} {w : World} {s : Scope} {st : Sites} {x : ExpForm} {m : Mode} {r : Refusal} {o : Out} → walk w x s st m ≡ Some o → Refuses names (BreaksSettled names w m o) r → HasFault names w s st x m r
settled e t = rule (t.0, unsettled e t.1, t.2)

pub settles : (w : World) (x : ExpForm) (s : Scope) (st : Sites) (m : Mode) (o p : Out) → walk w x s st m ≡ Some o → rules.settled w.most m o ≡ Some p → typed w x s st m ≡ Some p
settles w x s st m o p e h = ap (option_and_then (rules.settled w.most m)) e ∙ h

-- ---- where the code stands

pub stands-there : (a b : Around) (w : World) (s : Scope) → b.world ≡ a.world → b.scope ≡ a.scope → Stands a w s → Stands b w s
stands-there a b w s ew es st = record {
  world = st.world ∙ ap (λ z. world_in z.now) (sym ew);
  cons = subst (λ z. Reads z.cons.names s.names.cons) (sym es) st.cons;
  kinds = st.kinds ∙ ap (λ z. z.cons.kinds.now) (sym es);
  known = st.known ∙ ap (λ z. map pair z.cons.known.now) (sym es);
  locals = st.locals ∙ ap (λ z. locals_in z.locals) (sym es);
  values = st.values ∙ ap (λ z. values_in z.locals) (sym es);
  fixed = st.fixed ∙ ap (λ z. fixed_in z.locals) (sym es);
}

pub somewhere-there : (a b : Around) → b.world ≡ a.world → b.scope ≡ a.scope → StandsSomewhere a → StandsSomewhere b
somewhere-there a b ew es p = (p.0, p.1, stands-there a b p.0 p.1 ew es p.2)

-- ---- the same expression

-- `y` is how the expression is named in the definitions
pub gives-as : (a : Around) (before : HeldSites) (x y : ExpForm) (m : Mode) (o : HeldOut) (after : HeldSites) → x ≡ y → ((w : World) (s : Scope) → Stands a w s → walk w y s (sites_in before) m ≡ Some (out_in o after)) → Gives a before x m o after
gives-as a before x y m o after e h w s st = ap (λ z. walk w z s (sites_in before) m) e ∙ h w s st

pub tells-as : (a : Around) (before : HeldSites) (x y : ExpForm) (m : Mode) (r : Refusal) → x ≡ y → ((w : World) (s : Scope) → Stands a w s → HasFault a.world.now.datatype_names w s (sites_in before) y m r) → Tells a before x m r
tells-as a before x y m r e h w s st = subst (λ z. HasFault a.world.now.datatype_names w s (sites_in before) z m r) (sym e) (h w s st)

-- an arm of a walk hands on what is told of its form
pub arm : (a : Around) (before after : HeldSites) (x y : ExpForm) (m : Mode) (r : Result HeldOut Stop) → x ≡ y → IfOk r (λ o. Gives a before y m o after) → IfOk r (λ o. Gives a before x m o after)
arm a before after x y m r e h = ok-along r (λ o g. gives-as a before x y m o after e g) h

pub arm-any : (a : Around) (before after : HeldSites) (x y : ExpForm) (m : Mode) (r : Result HeldOut Stop) → x ≡ y → IfOk r (λ o. (n : Mode) → Gives a before y n o after) → IfOk r (λ o. Gives a before x m o after)
arm-any a before after x y m r e h = ok-along r (λ o g. gives-as a before x y m o after e (g m)) h

pub arm-tells : (a : Around) (before : HeldSites) (x y : ExpForm) (m : Mode) (r : Result HeldOut Stop) → x ≡ y → IfRefused r (Tells a before y m) → IfRefused r (Tells a before x m)
arm-tells a before x y m r e h = refused-along r (λ q g. tells-as a before x y m q e g) h

pub arm-tells-any : (a : Around) (before : HeldSites) (x y : ExpForm) (m : Mode) (r : Result HeldOut Stop) → x ≡ y → IfRefused r (λ q. (n : Mode) → Tells a before y n q) → IfRefused r (Tells a before x m)
arm-tells-any a before x y m r e h = refused-along r (λ q g. tells-as a before x y m q e (g m)) h

-- ---- without parts

pub leaf-made : (a : Around) (x y : ExpForm) (m : Mode) (o : HeldOut) → x ≡ y → ((w : World) (s : Scope) (st : Sites) → Stands a w s → walk w y s st m ≡ Some (out_with o st)) → GivesLeaf a x m o
leaf-made a x y m o e g w s st stands = ap (λ z. walk w z s st m) e ∙ g w s st stands

pub leaf-gives : (a : Around) (x y : ExpForm) (m : Mode) (q : Result HeldOut Stop) → x ≡ y → IfOk q (λ o. (w : World) (s : Scope) (st : Sites) → Stands a w s → walk w y s st m ≡ Some (out_with o st)) → IfOk q (GivesLeaf a x m)
leaf-gives a x y m q e h = ok-along q (λ o g w s st stands. ap (λ z. walk w z s st m) e ∙ g w s st stands) h

pub leaf-tells : (a : Around) (x y : ExpForm) (m : Mode) (q : Result HeldOut Stop) → x ≡ y → IfRefused q (λ r. (w : World) (s : Scope) (st : Sites) → Stands a w s → Refuses a.world.now.datatype_names (Breaks a.world.now.datatype_names w s st y m) r) → IfRefused q (TellsLeaf a x m)
leaf-tells a x y m q e h = refused-along q (λ r g w s st stands. subst (λ z. HasFault a.world.now.datatype_names w s st z m r) (sym e) (rule (g w s st stands))) h

pub leaf-tells-any : (a : Around) (x y : ExpForm) (m : Mode) (q : Result HeldOut Stop) → x ≡ y → IfRefused q (λ r. (w : World) (s : Scope) (st : Sites) (n : Mode) → Stands a w s → Refuses a.world.now.datatype_names (Breaks a.world.now.datatype_names w s st y n) r) → IfRefused q (TellsLeaf a x m)
leaf-tells-any a x y m q e h = leaf-tells a x y m q e (refused-along q (λ r g w s st stands. g w s st m stands) h)

-- ---- what is wanted, and where

pub gives-mode : (a : Around) (before : HeldSites) (x : ExpForm) (m n : Mode) (o : HeldOut) (after : HeldSites) → m ≡ n → GivesTyped a before x m o after → GivesTyped a before x n o after
gives-mode a before x m n o after e h w s st = ap (λ z. typed w x s (sites_in before) z) (sym e) ∙ h w s st

pub tells-mode : (a : Around) (before : HeldSites) (x : ExpForm) (m n : Mode) (r : Refusal) → m ≡ n → Tells a before x m r → Tells a before x n r
tells-mode a before x m n r e h w s st = subst (λ z. HasFault a.world.now.datatype_names w s (sites_in before) x z r) e (h w s st)

pub tells-there : (a b : Around) (before : HeldSites) (x : ExpForm) (m : Mode) (r : Refusal) → b.world ≡ a.world → b.scope ≡ a.scope → Tells b before x m r → Tells a before x m r
tells-there a b before x m r ew es h w s st = subst (λ z. HasFault z.now.datatype_names w s (sites_in before) x m r) ew (h w s (stands-there a b w s ew es st))

-- in the same levels, at a lower rank
pub lower : (l a b t : ℕ) → a < b → 60 * l + b ≡ t → 60 * l + a < t
lower l a b t h d = omega (arith, h, d)

-- with so many levels taken, what is done there is less
pub deeper-below : (l k by t : ℕ) → l ≡ k + by → 1 ≤ by → 60 * l ≡ t → 60 * k + 54 < t
deeper-below l k by t e h d = omega (arith, e, h, d)

-- ---- what fails

pub fails-untyped : (a : Around) (before : HeldSites) (x : Exp) (wanted : Option (Bor NormalType)) (s : Stop) → wanted ≡ None → ((names : List (List ℕ)) → StopIs names (mismatch (codes "error") (codes "annotation")) s) →
    IfRefused {A = Unit {0}} (Err s) (Tells a before (e.Error x) (mode_of (option_copied wanted)))
fails-untyped a before x wanted (stop.Refused r) h t = tells-as a before (e.Error x) _ (mode_of (option_copied wanted)) r (error-made x) (λ w s st.
    subst (λ z. HasFault a.world.now.datatype_names w s (sites_in before) (e.Error' tt (its x.span x.form alone)) (mode_of (option_copied z)) r) (sym h) (rule (mismatch (codes "error") (codes "annotation"), unannotated error, t a.world.now.datatype_names)))
fails-untyped a before x wanted stop.Memory h t = tt

pub fails-typed : (a : Around) (before after : HeldSites) (x : Exp) (wanted : Option (Bor NormalType)) (t : Bor NormalType) (p o : HeldOut) → wanted ≡ Some t → GivesTyped a before x.form (wants ty.Xbody) p after → o.of ≡ t.now → o.exp ≡ make.fail t.now p.exp →
    Gives a before (e.Error x) (mode_of (option_copied wanted)) o after
fails-typed a before after x wanted t p o ew h eo ee = gives-as a before (e.Error x) _ (mode_of (option_copied wanted)) o after (error-made x) (λ w s st.
    ap (λ z. rules.error_out s (sites_in before) (mode_of (option_copied z)) (typed w x.form)) ew ∙ ap (option_and_then (λ z. rules.gives t.now (make.fail t.now z.exp) z.sites)) (h w s st) ∙ ap₂ (λ u y. rules.gives u y (sites_in after)) (sym eo) (sym ee))

pub fails-within : (a : Around) (before : HeldSites) (x : Exp) (wanted : Option (Bor NormalType)) (t : Bor NormalType) (r : Refusal) → wanted ≡ Some t → Tells a before x.form (wants ty.Xbody) r → Tells a before (e.Error x) (mode_of (option_copied wanted)) r
fails-within a before x wanted t r ew h = tells-as a before (e.Error x) _ (mode_of (option_copied wanted)) r (error-made x) (λ w s st.
    subst (λ z. HasFault a.world.now.datatype_names w s (sites_in before) (e.Error' tt (its x.span x.form alone)) (mode_of (option_copied z)) r) (sym ew) (part failed (h w s st)))
