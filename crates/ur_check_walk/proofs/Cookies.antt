-- Cookies that are set.
use Rattle.std.proofs.Common.{◌≡◌, ◌∙◌, ap, subst, ℕ, List, Option, Some}
use Rattle.ur_base.specs.declared.refusal.Refusal.{Refusal}
use Rattle.ur_values.specs.declared.schema.ColumnKind.{ColumnKind}
use Rattle.ur_syntax.specs.declared.sql.DeclName.{DeclName}
use Rattle.ur_syntax.specs.declared.exp.Exp.{Exp}
use Rattle.ur_syntax.specs.declared.exp.ExpForm.{end_of-Exp as alone, more_of-Exp as its}
use Rattle.ur_syntax.specs.declared.exp.ExpForm.TheVariants as e
use Rattle.ur_rows.specs.declared.normal.NormalType.{NormalType}
use Rattle.ur_tree.specs.Scalars.{kind_type}
use Rattle.ur_typed_rules.specs.Scopes.{World, Scope, Mode, wants}
use Rattle.ur_typed.specs.Rules.{Sites, Out, cookie_at, set_cookie_out}
use Rattle.ur_typed.specs.Walking.{typed, cookie_walk}
use Rattle.ur_check_scopes.specs.declared.around.Around.{Around}
use Rattle.ur_check_scopes.specs.Views.{Stands, Refuses}
use Rattle.ur_check_rules.specs.declared.out.Out.{Out as HeldOut}
use Rattle.ur_check_rules.specs.declared.out.Sites.{Sites as HeldSites}
use Rattle.ur_check_rules.specs.Views.{sites_in, out_with}
use Rattle.ur_check_forms.specs.Runs.{IsUnknown, IsCookieValue}
use Rattle.ur_check_forms.proofs.Running.{breaks-set, value-walked, value-stands}
use Rattle.ur_check_walk.specs.Promises.{Gives, GivesTyped, Tells}
use Rattle.ur_check_walk.proofs.Forms.{set-cookie-made}
use Rattle.ur_check_walk.proofs.Steps.{part, rule, gives-as, tells-as}

-- the code stands where this is the cookie
abbrev pub IsCookie : Around → DeclName → ℕ → ColumnKind → Type 0
IsCookie a c n k = (w : World) (s : Scope) → Stands a w s → cookie_at w c ≡ Some (n, k)

-- what ur_check_forms says of a cookie that is set
abbrev pub Sets : ℕ → ColumnKind → HeldOut → HeldOut → Type 0
Sets n k p o = (w : World) (x : DeclName) (before after : Sites) (f : Sites → Mode → Option Out) → cookie_at w x ≡ Some (n, k) → f before (wants (kind_type k)) ≡ Some (out_with p after) → set_cookie_out w before x f ≡ Some (out_with o after)

pub cookie-gives : (a : Around) (before after : HeldSites) (c : DeclName) (v y : Exp) (n : ℕ) (k : ColumnKind) (t : NormalType) (m : Mode) (p o : HeldOut) → IsCookie a c n k → IsCookieValue v.form y.form → t ≡ kind_type k → GivesTyped a before y.form (wants t) p after → Sets n k p o → Gives a before (e.SetCookie c v) m o after
cookie-gives a before after c v y n k t m p o at is et h sets = gives-as a before (e.SetCookie c v) _ m o after (set-cookie-made c v) (λ w s st.
    sets w c (sites_in before) (sites_in after) (λ su q. cookie_walk w (its v.span v.form alone) s su q) (at w s st)
    (value-walked w s (sites_in before) (wants (kind_type k)) v.span v.form y.form is ∙ subst (λ z. typed w y.form s (sites_in before) (wants z) ≡ Some (out_with p (sites_in after))) et (h w s st)))

pub no-cookie-tells : (a : Around) (before : HeldSites) (c : DeclName) (v : Exp) (m : Mode) (r : Refusal) → ((w : World) (s : Scope) → Stands a w s → Refuses a.world.now.datatype_names (IsUnknown w w.globals.cookies c) r) → Tells a before (e.SetCookie c v) m r
no-cookie-tells a before c v m r h = tells-as a before (e.SetCookie c v) _ m r (set-cookie-made c v) (λ w s st.
    let t = h w s st in rule (t.0, breaks-set a.world.now.datatype_names w s (sites_in before) m c v.span v.form t.0 t.1, t.2))

pub cookie-tells : (a : Around) (before : HeldSites) (c : DeclName) (v y : Exp) (n : ℕ) (k : ColumnKind) (t : NormalType) (m : Mode) (r : Refusal) → IsCookie a c n k → IsCookieValue v.form y.form → t ≡ kind_type k → Tells a before y.form (wants t) r → Tells a before (e.SetCookie c v) m r
cookie-tells a before c v y n k t m r at is et h = tells-as a before (e.SetCookie c v) _ m r (set-cookie-made c v) (λ w s st.
    part (value-stands w s (sites_in before) m c (n, k) v.span v.form y.form (at w s st) is) (subst (λ z. Tells a before y.form (wants z) r) et h w s st))
