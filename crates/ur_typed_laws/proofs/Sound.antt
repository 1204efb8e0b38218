-- What is typed resolves, and has its type by the rules: one lemma for a form, over its parts.
use Rattle.std.proofs.lemmas.Bool.Decides.{nat_tests}
use Rattle.std.proofs.Common.{arith, ◌≡◌, refl, sym, subst, true, Option, Some, List, ℕ}
use Rattle.std.specs.Prelude.{◌≤◌, ◌&&◌, ◌||◌, not, nat_le, pos}
use Rattle.ur_base.specs.declared.refusal.Span.{Span}
use Rattle.ur_syntax.specs.declared.exp.ExpForm.{ExpForm, end_of-Exp as alone, more_of-Exp as its}
use Rattle.ur_syntax.specs.declared.exp.ExpForm.TheVariants as e
use Rattle.ur_rows.specs.declared.normal.NormalType.{NormalType}
use Rattle.ur_rows.specs.declared.normal.NormalType.TheVariants as ty
use Rattle.ur_rows.specs.Made.{unit}
use Rattle.ur_rows.specs.Nodes.{type_nodes}
use Rattle.ur_rows.specs.Types.{holds_arrow, may_run}
use Rattle.ur_tree.specs.declared.exp.Exp.{Exp}
use Rattle.ur_tree.specs.declared.exp.Exp.TheVariants as exp
use Rattle.ur_tree.specs.declared.exp.Unary.TheVariants as unary
use Rattle.ur_tree.specs.Make as make
use Rattle.ur_tree.specs.IsStatic.{is_static}
use Rattle.ur_tree.specs.Typing.{Finds, Checks, Accepts}
use Rattle.ur_typed.specs.Resolves.{Statements}
use Rattle.ur_typed.specs.Resolves as resolves
use Rattle.ur_typed_rules.specs.Scopes.{World, Scope, Mode, finds, wants}
use Rattle.ur_typed.specs.Rules.{Sites, Out, is_accepted, fits, settled}
use Rattle.ur_typed.specs.Walking.{typed, walk}
use Rattle.ur_typed_laws.specs.Judged.{AreTold, Fills, stated, Judged, IsSound, Sound}
use Rattle.ur_typed_laws.proofs.Numbers.{numbered_none, numbered_end}
use Rattle.ur_typed_rules.proofs.Options.{some_of, opened, opened_if, both_true}

-- ---- opening answers

pub at_most : (a b : ℕ) → nat_le a b ≡ true → a ≤ b
at_most a b h = grind (arith, nat_tests, h)

pub accepts : (most : ℕ) (x : Exp) (t : NormalType) → is_accepted most x t ≡ true → Accepts most x t
accepts most x t h =
    let a : (nat_le (type_nodes t) most ≡ true) × ((may_run t && (not (holds_arrow t) || is_static x)) ≡ true) = both_true (nat_le (type_nodes t) most) (may_run t && (not (holds_arrow t) || is_static x)) h in
    let b : (may_run t ≡ true) × ((not (holds_arrow t) || is_static x) ≡ true) = both_true (may_run t) (not (holds_arrow t) || is_static x) a.1 in
    (at_most (type_nodes t) most a.0, b.0, b.1)

-- an answer is one of the form's rule, accepted, and of the wanted type
pub record IsSettled (w : World) (x : ExpForm) (s : Scope) (st : Sites) (m : Mode) (o : Out) : Type 0 where
  pub walked : walk w x s st m ≡ Some o
  pub accepted : Accepts w.most o.exp o.of
  pub fit : fits m o.of ≡ true

pub settled_by : (w : World) (x : ExpForm) (s : Scope) (st : Sites) (m : Mode) (o : Out) → typed w x s st m ≡ Some o → IsSettled w x s st m o
settled_by w x s st m o h =
    let a : (y : Out) × (walk w x s st m ≡ Some y) × (settled w.most m y ≡ Some o) = opened (settled w.most m) (walk w x s st m) o h in
    let b : ((is_accepted w.most a.0.exp a.0.of && fits m a.0.of) ≡ true) × (Some a.0 ≡ Some o) = opened_if (is_accepted w.most a.0.exp a.0.of && fits m a.0.of) (Some a.0) o a.2 in
    let c : (is_accepted w.most a.0.exp a.0.of ≡ true) × (fits m a.0.of ≡ true) = both_true (is_accepted w.most a.0.exp a.0.of) (fits m a.0.of) b.0 in
    subst (λ z. IsSettled w x s st m z) (some_of b.1) (record { walked = a.1; accepted = accepts w.most a.0.exp a.0.of c.0; fit = c.1 })

-- a form that is found, and compared with what is wanted
pub judged_by : AreTold → (w : World) (s : Scope) (m : Mode) (x : Exp) (t : NormalType) → Finds w.declared w.most s.env x t → Checks w.declared w.most s.env x t → Accepts w.most x t → fits m t ≡ true → Judged w s m x t
judged_by told w s finds x t f c a h = (f, a)
judged_by told w s (wants u) x t f c a h = let e : t ≡ u = told t u h in (e, subst (λ v. Checks w.declared w.most s.env x v) e c, subst (λ v. Accepts w.most x v) e a)

-- ---- forms

pub int_sound : AreTold → (w : World) (n : ℕ) → Sound w (e.Int n)
int_sound told w n s st m o h d g =
    let a : IsSettled w (e.Int n) s st m o = settled_by w (e.Int n) s st m o h in
    let b : Out = record { of = ty.Int; exp = exp.Int (pos n); sites = st } in
    let i : b ≡ o = some_of a.walked in
    let acc : Accepts w.most b.exp b.of = subst (λ z. Accepts w.most z.exp z.of) (sym i) a.accepted in
    let fit : fits m b.of ≡ true = subst (λ z. fits m z.of ≡ true) (sym i) a.fit in
    let g' : Fills w d st = subst (λ z. Fills w d z.sites) (sym i) g in
    subst (λ z. IsSound w (e.Int n) s st m d z) i (record { before = g'; numbered = numbered_none st; resolves = resolves.int; judged = judged_by told (stated d w) s m b.exp ty.Int refl refl acc fit })

-- the steps that every form shares: from its rule's answer `b` to that of the whole
pub sound_at : (w : World) (x : ExpForm) (s : Scope) (st : Sites) (m : Mode) (d : Statements) (b o : Out) → IsSettled w x s st m o → Some b ≡ Some o → Fills w d o.sites →
    (Accepts w.most b.exp b.of → fits m b.of ≡ true → Fills w d b.sites → IsSound w x s st m d b) → IsSound w x s st m d o
sound_at w x s st m d b o a i g k =
    let e : b ≡ o = some_of i in
    subst (λ z. IsSound w x s st m d z) e (k (subst (λ z. Accepts w.most z.exp z.of) (sym e) a.accepted) (subst (λ z. fits m z.of ≡ true) (sym e) a.fit) (subst (λ z. Fills w d z.sites) (sym e) g))

pub string_sound : AreTold → (w : World) (t : List ℕ) → Sound w (e.Str t)
string_sound told w t s st m o h d g =
    let a : IsSettled w (e.Str t) s st m o = settled_by w (e.Str t) s st m o h in
    let b : Out = record { of = ty.Str; exp = exp.Str t; sites = st } in
    sound_at w (e.Str t) s st m d b o a a.walked g (λ acc fit g'. record { before = g'; numbered = numbered_none st; resolves = resolves.string; judged = judged_by told (stated d w) s m b.exp ty.Str refl refl acc fit })

pub unit_sound : AreTold → (w : World) → Sound w e.Unit
unit_sound told w s st m o h d g =
    let a : IsSettled w e.Unit s st m o = settled_by w e.Unit s st m o h in
    let b : Out = record { of = unit; exp = exp.Unit; sites = st } in
    sound_at w e.Unit s st m d b o a a.walked g (λ acc fit g'. record { before = g'; numbered = numbered_none st; resolves = resolves.unit_value; judged = judged_by told (stated d w) s m exp.Unit unit refl refl acc fit })

pub negative_sound : AreTold → (w : World) (p : Span) (x : ExpForm) → Sound w x → Sound w (e.Negative' tt (its p x alone))
negative_sound told w p x k s st m o h d g =
    let y : ExpForm = e.Negative' tt (its p x alone) in
    let a : IsSettled w y s st m o = settled_by w y s st m o h in
    let c : (z : Out) × (typed w x s st (wants ty.Int) ≡ Some z) × (◌≡◌ {A = Option Out} (Some (record { of = ty.Int; exp = make.unary unary.Neg z.exp; sites = z.sites })) (Some o)) = opened _ _ o a.walked in
    let b : Out = record { of = ty.Int; exp = make.unary unary.Neg c.0.exp; sites = c.0.sites } in
    sound_at w y s st m d b o a c.2 g (λ acc fit g'.
    let i : IsSound w x s st (wants ty.Int) d c.0 = k s st (wants ty.Int) c.0 c.1 d g' in
    record { before = i.before; numbered = numbered_end i.numbered; resolves = resolves.negative i.resolves; judged = judged_by told (stated d w) s m b.exp ty.Int (refl, (i.judged.1, i.judged.2)) (refl, (i.judged.1, i.judged.2)) acc fit })

pub not_sound : AreTold → (w : World) (p : Span) (x : ExpForm) → Sound w x → Sound w (e.Not' tt (its p x alone))
not_sound told w p x k s st m o h d g =
    let y : ExpForm = e.Not' tt (its p x alone) in
    let a : IsSettled w y s st m o = settled_by w y s st m o h in
    let c : (z : Out) × (typed w x s st (wants ty.Bool) ≡ Some z) × (◌≡◌ {A = Option Out} (Some (record { of = ty.Bool; exp = make.unary unary.Not z.exp; sites = z.sites })) (Some o)) = opened _ _ o a.walked in
    let b : Out = record { of = ty.Bool; exp = make.unary unary.Not c.0.exp; sites = c.0.sites } in
    sound_at w y s st m d b o a c.2 g (λ acc fit g'.
    let i : IsSound w x s st (wants ty.Bool) d c.0 = k s st (wants ty.Bool) c.0 c.1 d g' in
    record { before = i.before; numbered = numbered_end i.numbered; resolves = resolves.negation i.resolves; judged = judged_by told (stated d w) s m b.exp ty.Bool (refl, (i.judged.1, i.judged.2)) (refl, (i.judged.1, i.judged.2)) acc fit })
