-- Names and projections: what is typed resolves, and has its type by the rules.
use Rattle.std.proofs.Common.{◌≡◌, ◌∙◌, refl, sym, ap, subst, Bool, true, false, Option, Some, None, List, [], ◌∷◌, ℕ}
use Rattle.std.specs.Prelude.{◌&&◌, option_and_then, slice_get}
use Rattle.ur_base.specs.Shape.{Shape, count}
use Rattle.ur_base.specs.declared.refusal.Span.{Span}
use Rattle.ur_syntax.specs.Names.{own, member as of_module}
use Rattle.ur_syntax.specs.declared.con.FieldName.{FieldName}
use Rattle.ur_syntax.specs.declared.exp.ExpForm.{ExpForm, end_of-Exp as alone, more_of-Exp as its}
use Rattle.ur_syntax.specs.declared.exp.ExpForm.TheVariants as e
use Rattle.ur_rows.specs.declared.normal.Label.{Label}
use Rattle.ur_rows.specs.declared.normal.NormalType.{NormalType}
use Rattle.ur_rows.specs.declared.normal.NormalType.TheVariants as ty
use Rattle.ur_rows.specs.declared.normal.NormalType.TheBlock.{Row_of-Part, end_of-Part as end, more_of-Part as more}
use Rattle.ur_rows.specs.declared.normal.Part.{Part}
use Rattle.ur_rows.specs.Made.{parts, row, record_of}
use Rattle.ur_rows.specs.Put.{instance_type}
use Rattle.ur_rows.specs.Types.{field_type}
use Rattle.ur_tree.specs.declared.exp.Exp.TheVariants as exp
use Rattle.ur_tree.specs.Make as make
use Rattle.ur_tree.specs.Heads.{Head, function_type}
use Rattle.ur_tree.specs.Typing.{keeps_arrows, Finds, Accepts}
use Rattle.ur_typed_rules.specs.Names.{Declared as DeclaredAs, function, val, declared, local_at}
use Rattle.ur_typed.specs.Resolves.{Statements, IsDeclared}
use Rattle.ur_typed.specs.Resolves as resolves
use Rattle.ur_typed_rules.specs.Scopes.{World, Scope, Mode, finds}
use Rattle.ur_typed_rules.specs.Tests.{are_arguments}
use Rattle.ur_typed.specs.Rules.{Sites, Out, gives, local_or, declared_out}
use Rattle.ur_typed.specs.Walking.{typed}
use Rattle.ur_typed_laws.specs.Judged.{AreTold, ArgumentsAreTold, Fills, stated, IsSound, Sound}
use Rattle.ur_typed_laws.proofs.Numbers.{numbered_none, numbered_end}
use Rattle.ur_typed_laws.proofs.Sound.{IsSettled, settled_by, judged_by, sound_at}
use Rattle.ur_typed_rules.specs.Rules.{if_so, row_of, label_at}
use Rattle.ur_typed_rules.proofs.Options.{some_of, opened, opened_if, both_true}

abbrev named_of : ℕ → Sites → Head → Option Out
named_of f st h = gives (instance_type [] (function_type h)) (exp.Function f []) st

abbrev val_of : ℕ → Sites → NormalType → Option Out
val_of v st t = gives t (exp.Val v) st

declared_sound : AreTold → ArgumentsAreTold → (w : World) (s : Scope) (st : Sites) (m : Mode) (x : ExpForm) (d : Statements) (o : Out) (k : DeclaredAs) → IsDeclared w.globals s.names x k → IsSettled w x s st m o → declared_out w s st k ≡ Some o → Fills w d o.sites →
    IsSound w x s st m d o
declared_sound told args w s st m x d o (function f) r a h g =
    let c : (h : Head) × (slice_get w.declared.functions f ≡ Some h) × (if_so (are_arguments s.env h.cons [] && keeps_arrows [] h.params) (named_of f st h) ≡ Some o) = opened _ _ o h in
    let q : ((are_arguments s.env c.0.cons [] && keeps_arrows [] c.0.params) ≡ true) × (named_of f st c.0 ≡ Some o) = opened_if (are_arguments s.env c.0.cons [] && keeps_arrows [] c.0.params) (named_of f st c.0) o c.2 in
    let t : (are_arguments s.env c.0.cons [] ≡ true) × (keeps_arrows [] c.0.params ≡ true) = both_true (are_arguments s.env c.0.cons []) (keeps_arrows [] c.0.params) q.0 in
    let b : Out = record { of = instance_type [] (function_type c.0); exp = exp.Function f []; sites = st } in
    sound_at w x s st m d b o a q.1 g (λ acc fit g'. record {
      before = g';
      numbered = numbered_none st;
      resolves = resolves.function (resolves.name r);
      judged = judged_by told (stated d w) s m b.exp b.of (c.0, c.1, args s.env c.0.cons [] t.0, t.1, refl) (c.0, c.1, args s.env c.0.cons [] t.0, t.1, refl) acc fit;
    })
declared_sound told args w s st m x d o (val v) r a h g =
    let c : (t : NormalType) × (slice_get w.declared.vals v ≡ Some t) × (val_of v st t ≡ Some o) = opened _ _ o h in
    let b : Out = record { of = c.0; exp = exp.Val v; sites = st } in
    sound_at w x s st m d b o a c.2 g (λ acc fit g'. record { before = g'; numbered = numbered_none st; resolves = resolves.val r; judged = judged_by told (stated d w) s m b.exp b.of c.1 c.1 acc fit })

abbrev fixed_of : ℕ → Sites → NormalType → Option Out
fixed_of i st t = gives t (exp.Fixed i) st

abbrev variable_of : ℕ → Sites → NormalType → Option Out
variable_of i st t = gives t (exp.Variable i) st

by_local : AreTold → ArgumentsAreTold → (w : World) (s : Scope) (st : Sites) (m : Mode) (x : List ℕ) (d : Statements) (o : Out) (l : Option (Bool × ℕ)) → local_at x s.names.locals ≡ l → IsSettled w (e.Var x) s st m o → local_or w s st x l ≡ Some o → Fills w d o.sites →
    IsSound w (e.Var x) s st m d o
by_local told args w s st m x d o (Some (true, i)) el a h g =
    let c : (t : NormalType) × (slice_get s.env.fixed i ≡ Some t) × (fixed_of i st t ≡ Some o) = opened _ _ o h in
    let b : Out = record { of = c.0; exp = exp.Fixed i; sites = st } in
    sound_at w (e.Var x) s st m d b o a c.2 g (λ acc fit g'. record { before = g'; numbered = numbered_none st; resolves = resolves.parameter el; judged = judged_by told (stated d w) s m b.exp b.of c.1 c.1 acc fit })
by_local told args w s st m x d o (Some (false, i)) el a h g =
    let c : (t : NormalType) × (slice_get s.env.values i ≡ Some t) × (variable_of i st t ≡ Some o) = opened _ _ o h in
    let b : Out = record { of = c.0; exp = exp.Variable i; sites = st } in
    sound_at w (e.Var x) s st m d b o a c.2 g (λ acc fit g'. record { before = g'; numbered = numbered_none st; resolves = resolves.variable el; judged = judged_by told (stated d w) s m b.exp b.of c.1 c.1 acc fit })
by_local told args w s st m x d o None el a h g =
    let c : (k : DeclaredAs) × (declared w.globals (own x) w.globals.values ≡ Some k) × (declared_out w s st k ≡ Some o) = opened _ _ o h in
    declared_sound told args w s st m (e.Var x) d o c.0 (resolves.bare el c.1) a c.2 g

pub var_sound : AreTold → ArgumentsAreTold → (w : World) (x : List ℕ) → Sound w (e.Var x)
var_sound told args w x s st m o h d g =
    let a : IsSettled w (e.Var x) s st m o = settled_by w (e.Var x) s st m o h in by_local told args w s st m x d o (local_at x s.names.locals) refl a a.walked g

pub member_sound : AreTold → ArgumentsAreTold → (w : World) (i x : List ℕ) → Sound w (e.Member i x)
member_sound told args w i x s st m o h d g =
    let a : IsSettled w (e.Member i x) s st m o = settled_by w (e.Member i x) s st m o h in
    let c : (k : DeclaredAs) × (declared w.globals (of_module i x) w.globals.values ≡ Some k) × (declared_out w s st k ≡ Some o) = opened _ _ o a.walked in
    declared_sound told args w s st m (e.Member i x) d o c.0 (resolves.member c.1) a c.2 g

-- ---- projections

row_parts : (s : Shape) (r : Row_of-Part (count s)) → ◌≡◌ {A = (z : Shape) × Row_of-Part (count z)} (row (parts r)) (s, r)
row_parts [] end = refl
row_parts (tt ∷ s) (more p r) = ap (λ z. (tt ∷ z.0, more p z.1)) (row_parts s r)

pub row_is : (t : NormalType) (r : List Part) → row_of t ≡ Some r → t ≡ record_of r
row_is (ty.Record' s r) q h = sym (ap (λ z. ty.Record' z.0 z.1) (row_parts s r)) ∙ ap record_of (some_of h)
row_is _ q h = cc

abbrev projected_of : Scope → FieldName → Out → NormalType → Option Out
projected_of s f z t = gives t (make.project z.exp (label_at s f)) z.sites

pub project_sound : AreTold → (w : World) (p : Span) (x : ExpForm) (l : FieldName) → Sound w x → Sound w (e.Project' tt (its p x alone) l)
project_sound told w p x l k s st m o h d g =
    let y : ExpForm = e.Project' tt (its p x alone) l in
    let n : Label = label_at s l in
    let a : IsSettled w y s st m o = settled_by w y s st m o h in
    let c : (z : Out) × (typed w x s st finds ≡ Some z) × (option_and_then (λ r. option_and_then (projected_of s l z) (field_type n r)) (row_of z.of) ≡ Some o) = opened _ _ o a.walked in
    let t : (r : List Part) × (row_of c.0.of ≡ Some r) × (option_and_then (projected_of s l c.0) (field_type n r) ≡ Some o) = opened _ _ o c.2 in
    let u : (v : NormalType) × (field_type n t.0 ≡ Some v) × (projected_of s l c.0 v ≡ Some o) = opened _ _ o t.2 in
    let b : Out = record { of = u.0; exp = make.project c.0.exp n; sites = c.0.sites } in
    sound_at w y s st m d b o a u.2 g (λ acc fit g'.
    let i : IsSound w x s st finds d c.0 = k s st finds c.0 c.1 d g' in
    let f : Finds (stated d w).declared w.most s.env c.0.exp (record_of t.0) × Accepts w.most c.0.exp (record_of t.0) = subst (λ z. Finds (stated d w).declared w.most s.env c.0.exp z × Accepts w.most c.0.exp z) (row_is c.0.of t.0 t.1) (i.judged.0, i.judged.1) in
    record { before = i.before; numbered = numbered_end i.numbered; resolves = resolves.project i.resolves refl; judged = judged_by told (stated d w) s m b.exp b.of (t.0, f, u.1) (t.0, f, u.1) acc fit })
