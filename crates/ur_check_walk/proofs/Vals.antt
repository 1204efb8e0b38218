-- The `val`s of a `let`, each in a `let` of its own.
use Rattle.std.proofs.Common.{◌≡◌, ap, ap₂, sym, ◌∙◌, subst, ℕ, true, false, List, [], ◌∷◌, Some, Err}
use Rattle.std.specs.Prelude.{codes, option_and_then}
use mathlib.Core.Former.{Count}
use Rattle.ur_base.specs.Stopping.{IfRefused}
use Rattle.ur_base.specs.declared.refusal.Refusal.{Refusal}
use Rattle.ur_base.specs.declared.refusal.Stop.{Stop}
use Rattle.ur_base.specs.declared.refusal.Stop.TheVariants as stop
use Rattle.ur_syntax.specs.declared.exp.Binder.TheVariants as binder
use Rattle.ur_syntax.specs.declared.exp.LetVal.{LetVal}
use Rattle.ur_syntax.specs.declared.exp.Exp.{Exp}
use Rattle.ur_syntax.specs.declared.exp.ExpForm.{ExpForm, end_of-Exp as alone, more_of-Exp as its, Row_of-LetVal}
use Rattle.ur_syntax.specs.declared.exp.ExpForm.TheVariants as e
use Rattle.ur_rows.specs.declared.normal.NormalType.{NormalType}
use Rattle.ur_rows.specs.Types.{is_value_type}
use Rattle.ur_tree.specs.Text.{type_text}
use Rattle.ur_tree.specs.Make as make
use Rattle.ur_typed_rules.specs.Scopes.{World, Scope, Mode, wants, within_binder}
use Rattle.ur_typed_rules.specs.Faults.{not_so}
use Rattle.ur_typed_rules.specs.Rules.{if_so, written_type}
use Rattle.ur_typed_rules.specs.Arguments.{BreaksType}
use Rattle.ur_typed.specs.Rules.{Sites, Out, Walk, gives, then_, settled, let_with}
use Rattle.ur_typed.specs.Walking.{walk, typed, vals_walk, let_walk}
use Rattle.ur_typed.specs.Parts.{this_val, later_val, let_body, in_let}
use Rattle.ur_typed.specs.Causes.{HasFault, BreaksSettled, bad_type, no_value, val_behind, let_unsettled, in_vals}
use Rattle.ur_check_scopes.specs.declared.locals.Local.{Local as HeldLocal}
use Rattle.ur_check_scopes.specs.declared.around.Around.{Around}
use Rattle.ur_check_scopes.specs.Views.{Stands, Refuses, StopIs}
use Rattle.ur_check_rules.specs.declared.out.Out.{Out as HeldOut}
use Rattle.ur_check_rules.specs.declared.out.Sites.{Sites as HeldSites}
use Rattle.ur_check_rules.specs.Views.{sites_in, out_with, out_in}
use Rattle.ur_check_walk.specs.Promises.{StandsSomewhere, Gives, Tells}
use Rattle.ur_check_walk.specs.Binding.{IsWithin, val_row, ValsFault, of_vals, of_parts, FurtherFault, of_further, of_let, GivesVals, TellsVals, GivesFurther, TellsFurther, TellsType}
use Rattle.ur_check_walk.proofs.Steps.{stands-there, part as broken-within, rule as broken-here}
use Rattle.ur_check_walk.proofs.Wholes.{let-plain}
use Rattle.ur_check_walk.proofs.Binders.{stands-bound}
use Rattle.ur_check_walk.proofs.Choosing.{GivesAt}

abbrev names_at : Around → List (List ℕ)
names_at a = a.world.now.datatype_names

-- ---- the written type

pub type-broken : (a : Around) (v : LetVal) (r : Refusal) → ((w : World) (s : Scope) → Stands a w s → Refuses (names_at a) (BreaksType w s v.con) r) → TellsType a v r
type-broken a v r h = λ w s b m rest st stands. let f : Refuses (names_at a) (BreaksType w s v.con) r = h w s stands in (f.0, bad_type f.1, f.2)

pub no-value : (a : Around) (v : LetVal) (t : NormalType) (s : Stop) → ((w : World) (s : Scope) → Stands a w s → written_type w s v.con ≡ Some t) → is_value_type t ≡ false → StopIs (names_at a) (not_so (type_text (names_at a) t) (codes "the type of a value")) s →
    IfRefused {A = Unit {0}} (Err s) (TellsType a v)
no-value a v t (stop.Refused r) h f k = λ w s b m rest st stands. (not_so (type_text (names_at a) t) (codes "the type of a value"), no_value (h w s stands) f, k)
no-value a v t stop.Memory h f k = tt

-- ---- one `val`

-- the local of a `val`
abbrev pub IsVal : HeldLocal → LetVal → NormalType → Type 0
IsVal l v t = (l.name ≡ Some v.name) × (l.fixed ≡ false) × (l.of ≡ t)

val-stands : (a i : Around) (v : LetVal) (l : HeldLocal) (own : List HeldLocal) (t : NormalType) → IsVal l v t → own ≡ l ∷ [] → IsWithin a own i → (w : World) (s : Scope) → Stands a w s → Stands i w (within_binder (binder.Named v.name) t s)
val-stands a i v l own t h n r w s stands = stands-bound a i l (binder.Named v.name) t h.0 h.1 h.2 (subst (λ ls. IsWithin a ls i) n r) w s stands

-- what the code knows of a `val` and of the place behind it
pub record Valued (a i : Around) (v : LetVal) (t : NormalType) (l : HeldLocal) (own : List HeldLocal) : Type 0 where
  pub written : (w : World) (s : Scope) → Stands a w s → written_type w s v.con ≡ Some t
  pub local : IsVal l v t
  pub own_is : own ≡ l ∷ []
  pub inner : IsWithin a own i

behind-stands : (a i : Around) (v : LetVal) (t : NormalType) (l : HeldLocal) (own : List HeldLocal) → Valued a i v t l own → (w : World) (s : Scope) → Stands a w s → Stands i w (within_binder (binder.Named v.name) t s)
behind-stands a i v t l own h w s stands = val-stands a i v l own t h.local h.own_is h.inner w s stands

pub val-made : (a i : Around) (st0 st1 st2 : HeldSites) (m : Mode) (v : LetVal) (rest : List LetVal) (b : Exp) (t : NormalType) (l : HeldLocal) (own : List HeldLocal) (value out o : HeldOut) → Valued a i v t l own → is_value_type t ≡ true → GivesAt a st0 v.value (wants t) value st1 →
    GivesFurther i st1 rest b m out st2 → o.of ≡ out.of → o.exp ≡ make.local t value.exp out.exp → GivesVals a st0 v rest b m o st2
val-made a i st0 st1 st2 m v rest b t l own value out o h c g k p q = λ w s stands.
    let behind : Walk = λ s' st' n. let_walk w (val_row rest).1 s' st' n (typed w b.form) in
    ap (option_and_then (let_with s (sites_in st0) m v.name (typed w v.value.form) behind)) (h.written w s stands)
    ∙ ap (λ z. if_so z (then_ (typed w v.value.form s (sites_in st0) (wants t)) (λ y. then_ (behind (within_binder (binder.Named v.name) t s) y.sites m) (λ d. gives d.of (make.local t y.exp d.exp) d.sites)))) c
    ∙ ap (option_and_then (λ y. then_ (behind (within_binder (binder.Named v.name) t s) y.sites m) (λ d. gives d.of (make.local t y.exp d.exp) d.sites))) (g w s stands)
    ∙ ap (option_and_then (λ d. gives d.of (make.local t value.exp d.exp) d.sites)) (k w (within_binder (binder.Named v.name) t s) (behind-stands a i v t l own h w s stands))
    ∙ ap₂ (λ x y. gives x y (sites_in st2)) (sym p) (sym q)

pub type-faulty : (a : Around) (st : HeldSites) (m : Mode) (v : LetVal) (rest : List LetVal) (b : Exp) (r : Refusal) → TellsType a v r → TellsVals a st v rest b m r
type-faulty a st m v rest b r h = λ w s stands. of_vals (h w s b.form m rest (sites_in st) stands)

pub value-faulty : (a : Around) (st : HeldSites) (m : Mode) (v : LetVal) (rest : List LetVal) (b : Exp) (t : NormalType) → ((w : World) (s : Scope) → Stands a w s → written_type w s v.con ≡ Some t) → (r : Refusal) → Tells a st v.value.form (wants t) r → TellsVals a st v rest b m r
value-faulty a st m v rest b t h r f = λ w s stands. of_parts s (sites_in st) v.value.form (wants t) (this_val (h w s stands)) (f w s stands)

further-fault : (names : List (List ℕ)) (w : World) (s : Scope) (st : Sites) (m : Mode) (v : LetVal) (rest : List LetVal) (b : Exp) (t : NormalType) (o : Out) (r : Refusal) → written_type w s v.con ≡ Some t → typed w v.value.form s st (wants t) ≡ Some o →
    FurtherFault names w b.form m _ (val_row rest).1 (within_binder (binder.Named v.name) t s) o.sites r → ValsFault names w b.form m _ (val_row (v ∷ rest)).1 s st r
further-fault names w s st m v rest b t o r h g (of_further (of_vals f)) = of_vals (f.0, val_behind h g f.1, f.2)
further-fault names w s st m v rest b t o r h g (of_further (of_parts s' su y m' f k)) = of_parts s' su y m' (later_val h g f) k
further-fault names w s st m v rest b t o r h g (of_let z k f) = of_vals (f.0, let_unsettled h g k f.1, f.2)

named-further : (a i : Around) (w : World) (b : ExpForm) (m : Mode) (n : Count) (row : Row_of-LetVal n) (s : Scope) (st : Sites) (r : Refusal) → i.world ≡ a.world → FurtherFault (names_at i) w b m n row s st r → FurtherFault (names_at a) w b m n row s st r
named-further a i w b m n row s st r e h = subst (λ z. FurtherFault z.now.datatype_names w b m n row s st r) e h

pub behind-faulty : (a i : Around) (st0 st1 : HeldSites) (m : Mode) (v : LetVal) (rest : List LetVal) (b : Exp) (t : NormalType) (l : HeldLocal) (own : List HeldLocal) (value : HeldOut) → Valued a i v t l own → GivesAt a st0 v.value (wants t) value st1 →
    (r : Refusal) → TellsFurther i st1 rest b m r → TellsVals a st0 v rest b m r
behind-faulty a i st0 st1 m v rest b t l own value h g r f = λ w s stands.
    further-fault (names_at a) w s (sites_in st0) m v rest b t (out_in value st1) r (h.written w s stands) (g w s stands)
    (named-further a i w b.form m _ (val_row rest).1 (within_binder (binder.Named v.name) t s) (sites_in st1) r h.inner.world (f w (within_binder (binder.Named v.name) t s) (behind-stands a i v t l own h w s stands)))

-- ---- further ones

pub further-made : (a i : Around) (st0 st1 : HeldSites) (m : Mode) (vs : List LetVal) (v : LetVal) (rest : List LetVal) (b : Exp) (out o : HeldOut) → i.world ≡ a.world → i.scope ≡ a.scope → vs ≡ v ∷ rest → GivesVals i st0 v rest b m out st1 →
    ((w : World) (s : Scope) (st : Sites) → Stands a w s → settled w.most m (out_with out st) ≡ Some (out_with o st)) → GivesFurther a st0 vs b m o st1
further-made a i st0 st1 m vs v rest b out o ew es e g h = λ w s stands.
    ap (λ z. let_walk w (val_row z).1 s (sites_in st0) m (typed w b.form)) e
    ∙ ap (option_and_then (settled w.most m)) (g w s (stands-there a i w s ew es stands))
    ∙ h w s (sites_in st1) stands

pub further-faulty : (a i : Around) (st : HeldSites) (m : Mode) (vs : List LetVal) (v : LetVal) (rest : List LetVal) (b : Exp) → i.world ≡ a.world → i.scope ≡ a.scope → vs ≡ v ∷ rest → (r : Refusal) → TellsVals i st v rest b m r → TellsFurther a st vs b m r
further-faulty a i st m vs v rest b ew es e r h = λ w s stands.
    subst (λ z. FurtherFault (names_at a) w b.form m _ (val_row z).1 s (sites_in st) r) (sym e)
    (of_further (subst (λ z. ValsFault z.now.datatype_names w b.form m _ (val_row (v ∷ rest)).1 s (sites_in st) r) ew (h w s (stands-there a i w s ew es stands))))

pub let-faulty : (a i : Around) (st0 st1 : HeldSites) (m : Mode) (vs : List LetVal) (v : LetVal) (rest : List LetVal) (b : Exp) (out : HeldOut) → i.world ≡ a.world → i.scope ≡ a.scope → vs ≡ v ∷ rest → GivesVals i st0 v rest b m out st1 →
    (r : Refusal) → ((w : World) (s : Scope) (st : Sites) → Stands a w s → Refuses (names_at a) (BreaksSettled (names_at a) w m (out_with out st)) r) → TellsFurther a st0 vs b m r
let-faulty a i st0 st1 m vs v rest b out ew es e g r h = λ w s stands.
    subst (λ z. FurtherFault (names_at a) w b.form m _ (val_row z).1 s (sites_in st0) r) (sym e)
    (of_let (out_in out st1) (g w s (stands-there a i w s ew es stands)) (h w s (sites_in st1) stands))

pub body-made : (a : Around) (st0 st1 : HeldSites) (m : Mode) (vs : List LetVal) (b : Exp) (o : HeldOut) → vs ≡ [] → GivesAt a st0 b m o st1 → GivesFurther a st0 vs b m o st1
body-made a st0 st1 m vs b o e g = λ w s stands. ap (λ z. let_walk w (val_row z).1 s (sites_in st0) m (typed w b.form)) e ∙ g w s stands

pub let-body-faulty : (a : Around) (st : HeldSites) (m : Mode) (vs : List LetVal) (b : Exp) → vs ≡ [] → (r : Refusal) → Tells a st b.form m r → TellsFurther a st vs b m r
let-body-faulty a st m vs b e r h = λ w s stands.
    subst (λ z. FurtherFault (names_at a) w b.form m _ (val_row z).1 s (sites_in st) r) (sym e) (of_further (of_parts s (sites_in st) b.form m let_body (h w s stands)))

-- ---- the whole

pub let-made : (a : Around) (st0 st1 : HeldSites) (m : Mode) (vs : List LetVal) (v : LetVal) (rest : List LetVal) (b : Exp) (o : HeldOut) → vs ≡ v ∷ rest → GivesVals a st0 v rest b m o st1 → Gives a st0 (e.Let vs b) m o st1
let-made a st0 st1 m vs v rest b o e g = λ w s stands. ap (λ z. walk w z s (sites_in st0) m) (let-plain vs b) ∙ ap (λ z. vals_walk w (val_row z).1 s (sites_in st0) m (typed w b.form)) e ∙ g w s stands

whole-fault : (names : List (List ℕ)) (w : World) (s : Scope) (st : Sites) (m : Mode) (vs : List LetVal) (b : Exp) (r : Refusal) → ValsFault names w b.form m _ (val_row vs).1 s st r → HasFault names w s st (e.Let' (val_row vs).0 (val_row vs).1 tt (its b.span b.form alone)) m r
whole-fault names w s st m vs b r (of_vals f) = broken-here (f.0, in_vals f.1, f.2)
whole-fault names w s st m vs b r (of_parts s' su y m' f h) = broken-within (in_let f) h

pub in-vals : (a : Around) (st : HeldSites) (m : Mode) (vs : List LetVal) (v : LetVal) (rest : List LetVal) (b : Exp) → vs ≡ v ∷ rest → (r : Refusal) → TellsVals a st v rest b m r → Tells a st (e.Let vs b) m r
in-vals a st m vs v rest b e r h = λ w s stands.
    subst (λ z. HasFault (names_at a) w s (sites_in st) z m r) (sym (let-plain vs b))
    (whole-fault (names_at a) w s (sites_in st) m vs b r (subst (λ z. ValsFault (names_at a) w b.form m _ (val_row z).1 s (sites_in st) r) (sym e) (h w s stands)))

-- behind a `val` the code stands somewhere too
pub somewhere-val : (a i : Around) (v : LetVal) (t : NormalType) (l : HeldLocal) (own : List HeldLocal) → IsVal l v t → own ≡ l ∷ [] → IsWithin a own i → StandsSomewhere a → StandsSomewhere i
somewhere-val a i v t l own h n r p = (p.0, within_binder (binder.Named v.name) t p.1, val-stands a i v l own t h n r p.0 p.1 p.2)
