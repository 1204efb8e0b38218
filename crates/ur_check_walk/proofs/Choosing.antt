-- Conditionals, and statements one after the other.
use Rattle.std.proofs.Common.{◌≡◌, refl, ap, ap₂, sym, ◌∙◌, subst, ℕ, false, List, [], ◌∷◌, Some, None, Err}
use Rattle.std.specs.Prelude.{codes, option_and_then}
use Rattle.ur_base.specs.Stopping.{IfRefused}
use Rattle.ur_base.specs.declared.refusal.Refusal.{Refusal}
use Rattle.ur_base.specs.declared.refusal.Stop.{Stop}
use Rattle.ur_base.specs.declared.refusal.Stop.TheVariants as stop
use Rattle.ur_syntax.specs.declared.exp.Binder.{Binder}
use Rattle.ur_syntax.specs.declared.exp.Binder.TheVariants as binder
use Rattle.ur_syntax.specs.declared.exp.Exp.{Exp}
use Rattle.ur_syntax.specs.declared.exp.ExpForm.TheVariants as e
use Rattle.ur_rows.specs.declared.normal.NormalType.{NormalType}
use Rattle.ur_rows.specs.declared.normal.NormalType.TheVariants as ty
use Rattle.ur_tree.specs.Make as make
use Rattle.ur_typed_rules.specs.Names.{bound_name}
use Rattle.ur_typed_rules.specs.Scopes.{Mode, finds, wants, within_binder}
use Rattle.ur_typed_rules.specs.Faults.{TellsType as TellsFault, not_of_type}
use Rattle.ur_typed_rules.specs.Rules.{value_of}
use Rattle.ur_typed.specs.Rules.{gives, then_, bind_with}
use Rattle.ur_typed.specs.Walking.{walk, typed}
use Rattle.ur_typed.specs.Parts.{condition, yes_side, no_side, first, second, first_alone, second_alone}
use Rattle.ur_typed.specs.Causes.{HasFault, not_run, not_run_alone, not_run_last, not_run_last_alone}
use Rattle.ur_check_scopes.specs.declared.locals.Local.{Local as HeldLocal}
use Rattle.ur_check_scopes.specs.declared.around.Around.{Around}
use Rattle.ur_check_scopes.specs.Views.{Stands, StopIs}
use Rattle.ur_check_rules.specs.declared.out.Out.{Out as HeldOut}
use Rattle.ur_check_rules.specs.declared.out.Sites.{Sites as HeldSites}
use Rattle.ur_check_rules.specs.Views.{sites_in, out_in}
use Rattle.ur_check_walk.specs.Promises.{StandsSomewhere, Gives, GivesTyped, Tells}
use Rattle.ur_check_walk.specs.Binding.{IsWithin, chosen_of, GivesSides, TellsSides}
use Rattle.ur_check_walk.proofs.Steps.{part as broken-within, rule as broken-here}
use Rattle.ur_check_walk.proofs.Wholes.{told-there, if-plain, bind-plain, seq-plain}
use Rattle.ur_check_walk.proofs.Binders.{stands-bound}

abbrev names_at : Around → List (List ℕ)
names_at a = a.world.now.datatype_names

-- what a walk gives of an expression
abbrev pub GivesAt : Around → HeldSites → Exp → Mode → HeldOut → HeldSites → Type 0
GivesAt a st x m o su = GivesTyped a st x.form m o su

-- ---- conditionals

pub if-made : (a : Around) (st0 st1 st2 : HeldSites) (m : Mode) (c x y : Exp) (co taken other o : HeldOut) → GivesAt a st0 c (wants ty.Bool) co st1 → GivesSides a st1 x y m (taken, other) st2 →
    o.of ≡ taken.of → o.exp ≡ make.choice co.exp taken.exp other.exp → Gives a st0 (e.If c x y) m o st2
if-made a st0 st1 st2 m c x y co taken other o h k e f = λ w s stands.
    ap (λ z. walk w z s (sites_in st0) m) (if-plain c x y)
    ∙ ap (option_and_then (λ z. chosen_of s z.sites m z.exp (typed w x.form) (typed w y.form))) (h w s stands) ∙ k w s co.exp stands ∙ ap₂ (λ u v. gives u v (sites_in st2)) (sym e) (sym f)

pub choice-made : (a : Around) (st1 st2 st3 : HeldSites) (m : Mode) (x y : Exp) (taken other : HeldOut) → GivesAt a st1 x m taken st2 → GivesAt a st2 y (wants taken.of) other st3 → GivesSides a st1 x y m (taken, other) st3
choice-made a st1 st2 st3 m x y taken other h k = λ w s z stands.
    ap (option_and_then (λ p. then_ (typed w y.form s p.sites (wants p.of)) (λ q. gives p.of (make.choice z p.exp q.exp) q.sites))) (h w s stands)
    ∙ ap (option_and_then (λ q. gives taken.of (make.choice z taken.exp q.exp) q.sites)) (k w s stands)

pub in-condition : (a : Around) (st0 : HeldSites) (m : Mode) (c x y : Exp) (r : Refusal) → Tells a st0 c.form (wants ty.Bool) r → Tells a st0 (e.If c x y) m r
in-condition a st0 m c x y r h = λ w s stands. subst (λ z. HasFault (names_at a) w s (sites_in st0) z m r) (sym (if-plain c x y)) (broken-within condition (h w s stands))

pub in-yes : (a : Around) (st1 : HeldSites) (m : Mode) (x y : Exp) (r : Refusal) → Tells a st1 x.form m r → TellsSides a st1 x y m r
in-yes a st1 m x y r h = λ w s st c d stands g k.
    subst (λ z. HasFault (names_at a) w s st z m r) (sym (if-plain c x y)) (broken-within (yes_side g) (subst (λ z. HasFault (names_at a) w s z x.form m r) (sym k) (h w s stands)))

pub in-no : (a : Around) (st1 st2 : HeldSites) (m : Mode) (x y : Exp) (taken : HeldOut) → GivesAt a st1 x m taken st2 → (r : Refusal) → Tells a st2 y.form (wants taken.of) r → TellsSides a st1 x y m r
in-no a st1 st2 m x y taken i r h = λ w s st c d stands g k.
    subst (λ z. HasFault (names_at a) w s st z m r) (sym (if-plain c x y)) (broken-within (no_side {b = out_in taken st2} g (ap (λ z. typed w x.form s z m) k ∙ i w s stands)) (h w s stands))

pub in-choices : (a : Around) (st0 st1 : HeldSites) (m : Mode) (c x y : Exp) (co : HeldOut) → GivesAt a st0 c (wants ty.Bool) co st1 → (r : Refusal) → TellsSides a st1 x y m r → Tells a st0 (e.If c x y) m r
in-choices a st0 st1 m c x y co i r h = λ w s stands. h w s (sites_in st0) c (out_in co st1) stands (i w s stands) refl

-- ---- statements

-- a variable with this name and this type
abbrev pub IsBound : HeldLocal → Binder → NormalType → Type 0
IsBound l x t = (l.name ≡ bound_name x) × (l.fixed ≡ false) × (l.of ≡ t)

pub bind-made : (a i : Around) (st0 st1 st2 : HeldSites) (m : Mode) (x : Binder) (y z : Exp) (one two o : HeldOut) (l : HeldLocal) (own : List HeldLocal) (u : NormalType) → IsBound l x u → own ≡ l ∷ [] → IsWithin a own i → value_of one.of ≡ Some u →
    GivesAt a st0 y finds one st1 → GivesAt i st1 z m two st2 → (t : NormalType) × (value_of two.of ≡ Some t) → o.of ≡ two.of → o.exp ≡ make.bind one.exp two.exp → Gives a st0 (e.Bind x y z) m o st2
bind-made a i st0 st1 st2 m x y z one two o l own u b n r v h k t e f = λ w s stands.
    let inner : Stands i w (within_binder x u s) = stands-bound a i l x u b.0 b.1 b.2 (subst (λ ls. IsWithin a ls i) n r) w s stands in
    ap (λ q. walk w q s (sites_in st0) m) (bind-plain x y z)
    ∙ ap (option_and_then (λ p. option_and_then (bind_with s m x (typed w z.form) p) (value_of p.of))) (h w s stands)
    ∙ ap (option_and_then (bind_with s m x (typed w z.form) (out_in one st1))) v
    ∙ ap (option_and_then (λ q. option_and_then (λ j. gives q.of (make.bind one.exp q.exp) q.sites) (value_of q.of))) (k w (within_binder x u s) inner)
    ∙ ap (option_and_then (λ (j : NormalType). gives two.of (make.bind one.exp two.exp) (sites_in st2))) t.1
    ∙ ap₂ (λ p q. gives p q (sites_in st2)) (sym e) (sym f)

pub in-first : (a : Around) (st0 : HeldSites) (m : Mode) (x : Binder) (y z : Exp) (r : Refusal) → Tells a st0 y.form finds r → Tells a st0 (e.Bind x y z) m r
in-first a st0 m x y z r h = λ w s stands. subst (λ q. HasFault (names_at a) w s (sites_in st0) q m r) (sym (bind-plain x y z)) (broken-within first (h w s stands))

-- the same of statements without a name
abbrev pub TellsAlone : Around → HeldSites → Binder → Exp → Exp → Mode → Refusal → Type 0
TellsAlone a st0 x y z m r = x ≡ binder.Ignored → Tells a st0 (e.Seq y z) m r

pub in-first-alone : (a : Around) (st0 : HeldSites) (m : Mode) (x : Binder) (y z : Exp) (r : Refusal) → Tells a st0 y.form finds r → TellsAlone a st0 x y z m r
in-first-alone a st0 m x y z r h = λ n w s stands. subst (λ q. HasFault (names_at a) w s (sites_in st0) q m r) (sym (seq-plain y z)) (broken-within first_alone (h w s stands))

-- what is no transaction
abbrev pub NotRun : List (List ℕ) → NormalType → Refusal → Type 0
NotRun names t r = (value_of t ≡ None) × TellsFault names r (not_of_type names t (codes "transaction"))

pub not-run-told : (names : List (List ℕ)) (t : NormalType) (s : Stop) → value_of t ≡ None → StopIs names (not_of_type names t (codes "transaction")) s → IfRefused {A = Unit {0}} (Err s) (NotRun names t)
not-run-told names t (stop.Refused r) h k = (h, k)
not-run-told names t stop.Memory h k = tt

pub first-not-run : (a : Around) (st0 st1 : HeldSites) (m : Mode) (x : Binder) (y z : Exp) (one : HeldOut) → GivesAt a st0 y finds one st1 → (r : Refusal) → NotRun (names_at a) one.of r → Tells a st0 (e.Bind x y z) m r
first-not-run a st0 st1 m x y z one g r h = λ w s stands.
    subst (λ q. HasFault (names_at a) w s (sites_in st0) q m r) (sym (bind-plain x y z)) (broken-here (not_of_type (names_at a) one.of (codes "transaction"), not_run (g w s stands) h.0, h.1))

pub first-not-run-alone : (a : Around) (st0 st1 : HeldSites) (m : Mode) (x : Binder) (y z : Exp) (one : HeldOut) → GivesAt a st0 y finds one st1 → (r : Refusal) → NotRun (names_at a) one.of r → TellsAlone a st0 x y z m r
first-not-run-alone a st0 st1 m x y z one g r h = λ n w s stands.
    subst (λ q. HasFault (names_at a) w s (sites_in st0) q m r) (sym (seq-plain y z)) (broken-here (not_of_type (names_at a) one.of (codes "transaction"), not_run_alone (g w s stands) h.0, h.1))

pub in-second : (a i : Around) (st0 st1 : HeldSites) (m : Mode) (x : Binder) (y z : Exp) (one : HeldOut) (l : HeldLocal) (own : List HeldLocal) (u : NormalType) → IsBound l x u → own ≡ l ∷ [] → IsWithin a own i → value_of one.of ≡ Some u → GivesAt a st0 y finds one st1 →
    (r : Refusal) → Tells i st1 z.form m r → Tells a st0 (e.Bind x y z) m r
in-second a i st0 st1 m x y z one l own u b n j v g r h = λ w s stands.
    let inner : Stands i w (within_binder x u s) = stands-bound a i l x u b.0 b.1 b.2 (subst (λ ls. IsWithin a ls i) n j) w s stands in
    subst (λ q. HasFault (names_at a) w s (sites_in st0) q m r) (sym (bind-plain x y z)) (broken-within (second {d = out_in one st1} (g w s stands) v) (told-there a i j.world (h w (within_binder x u s) inner)))

pub in-second-alone : (a i : Around) (st0 st1 : HeldSites) (m : Mode) (x : Binder) (y z : Exp) (one : HeldOut) (l : HeldLocal) (own : List HeldLocal) (u : NormalType) → IsBound l x u → own ≡ l ∷ [] → IsWithin a own i → value_of one.of ≡ Some u → GivesAt a st0 y finds one st1 →
    (r : Refusal) → Tells i st1 z.form m r → TellsAlone a st0 x y z m r
in-second-alone a i st0 st1 m x y z one l own u b n j v g r h = λ alone w s stands.
    let inner : Stands i w (within_binder binder.Ignored u s) = stands-bound a i l binder.Ignored u (b.0 ∙ ap bound_name alone) b.1 b.2 (subst (λ ls. IsWithin a ls i) n j) w s stands in
    subst (λ q. HasFault (names_at a) w s (sites_in st0) q m r) (sym (seq-plain y z)) (broken-within (second_alone {d = out_in one st1} (g w s stands) v) (told-there a i j.world (h w (within_binder binder.Ignored u s) inner)))

pub last-not-run : (a i : Around) (st0 st1 st2 : HeldSites) (m : Mode) (x : Binder) (y z : Exp) (one two : HeldOut) (l : HeldLocal) (own : List HeldLocal) (u : NormalType) → IsBound l x u → own ≡ l ∷ [] → IsWithin a own i → value_of one.of ≡ Some u → GivesAt a st0 y finds one st1 →
    GivesAt i st1 z m two st2 → (r : Refusal) → NotRun (names_at a) two.of r → Tells a st0 (e.Bind x y z) m r
last-not-run a i st0 st1 st2 m x y z one two l own u b n j v g k r h = λ w s stands.
    let inner : Stands i w (within_binder x u s) = stands-bound a i l x u b.0 b.1 b.2 (subst (λ ls. IsWithin a ls i) n j) w s stands in
    subst (λ q. HasFault (names_at a) w s (sites_in st0) q m r) (sym (bind-plain x y z))
    (broken-here (not_of_type (names_at a) two.of (codes "transaction"), not_run_last {o = out_in one st1} {z = out_in two st2} (g w s stands) v (k w (within_binder x u s) inner) h.0, h.1))

pub last-not-run-alone : (a i : Around) (st0 st1 st2 : HeldSites) (m : Mode) (x : Binder) (y z : Exp) (one two : HeldOut) (l : HeldLocal) (own : List HeldLocal) (u : NormalType) → IsBound l x u → own ≡ l ∷ [] → IsWithin a own i → value_of one.of ≡ Some u → GivesAt a st0 y finds one st1 →
    GivesAt i st1 z m two st2 → (r : Refusal) → NotRun (names_at a) two.of r → TellsAlone a st0 x y z m r
last-not-run-alone a i st0 st1 st2 m x y z one two l own u b n j v g k r h = λ alone w s stands.
    let inner : Stands i w (within_binder binder.Ignored u s) = stands-bound a i l binder.Ignored u (b.0 ∙ ap bound_name alone) b.1 b.2 (subst (λ ls. IsWithin a ls i) n j) w s stands in
    subst (λ q. HasFault (names_at a) w s (sites_in st0) q m r) (sym (seq-plain y z))
    (broken-here (not_of_type (names_at a) two.of (codes "transaction"), not_run_last_alone {o = out_in one st1} {z = out_in two st2} (g w s stands) v (k w (within_binder binder.Ignored u s) inner) h.0, h.1))

-- behind the binder the code stands somewhere too
pub somewhere-bound : (a i : Around) (x : Binder) (u : NormalType) (l : HeldLocal) (own : List HeldLocal) → IsBound l x u → own ≡ l ∷ [] → IsWithin a own i → StandsSomewhere a → StandsSomewhere i
somewhere-bound a i x u l own b n r p = (p.0, within_binder x u p.1, stands-bound a i l x u b.0 b.1 b.2 (subst (λ ls. IsWithin a ls i) n r) p.0 p.1 p.2)

-- statements without a name are those with a binder that binds none
pub seq-made : (a : Around) (st0 st1 : HeldSites) (m : Mode) (y z : Exp) (o : HeldOut) → Gives a st0 (e.Bind binder.Ignored y z) m o st1 → Gives a st0 (e.Seq y z) m o st1
seq-made a st0 st1 m y z o g = λ w s stands.
    ap (λ q. walk w q s (sites_in st0) m) (seq-plain y z) ∙ ap (λ q. walk w q s (sites_in st0) m) (sym (bind-plain binder.Ignored y z)) ∙ g w s stands
