-- Further forms of which it is shown that what is typed resolves and has its type by the rules.
use Rattle.std.proofs.lemmas.Bool.Decides.{nat_tests}
use Rattle.std.proofs.Common.{arith, ◌≡◌, ◌∙◌, refl, sym, ap, subst, Bool, true, Option, Some, None, ℕ}
use Rattle.std.specs.Prelude.{◌<◌, nat_lt, option_map, option_and_then, slice_get}
use Rattle.ur_base.specs.declared.refusal.Span.{Span}
use Rattle.ur_syntax.specs.declared.sql.DeclName.{DeclName}
use Rattle.ur_syntax.specs.declared.exp.Binder.{Binder}
use Rattle.ur_syntax.specs.declared.exp.Binder.TheVariants as binder
use Rattle.ur_syntax.specs.declared.exp.Binary.{Binary as WrittenBinary}
use Rattle.ur_syntax.specs.declared.exp.Binary.TheVariants as op
use Rattle.ur_syntax.specs.declared.exp.ExpForm.{ExpForm, end_of-Exp as alone, more_of-Exp as its}
use Rattle.ur_syntax.specs.declared.exp.ExpForm.TheVariants as e
use Rattle.ur_values.specs.declared.schema.ColumnKind.{ColumnKind}
use Rattle.ur_rows.specs.declared.normal.NormalType.{NormalType, end_of-NormalType as sole, more_of-NormalType as the}
use Rattle.ur_rows.specs.declared.normal.NormalType.TheVariants as ty
use Rattle.ur_rows.specs.Types.{option_of, transaction_of}
use Rattle.ur_tree.specs.Scalars.{is_basic, kind_type}
use Rattle.ur_tree.specs.declared.exp.Exp.{Exp}
use Rattle.ur_tree.specs.declared.exp.Exp.TheVariants as exp
use Rattle.ur_tree.specs.declared.exp.Binary.{Binary}
use Rattle.ur_tree.specs.declared.exp.Unary.TheVariants as unary
use Rattle.ur_tree.specs.Make as make
use Rattle.ur_tree.specs.Env.{Env}
use Rattle.ur_tree.specs.Heads.{Declared}
use Rattle.ur_tree.specs.Typing.{Finds, Checks, Accepts, Operation, of_two, compares, operation, TwoSides}
use Rattle.ur_typed_rules.specs.Names.{declared, name_of}
use Rattle.ur_typed.specs.Resolves.{Statements, IsOperator}
use Rattle.ur_typed.specs.Resolves as resolves
use Rattle.ur_typed_rules.specs.Scopes.{World, Scope, Mode, finds, wants, of_option, of_transaction, within_binder}
use Rattle.ur_typed.specs.Rules.{Sites, Out, gives, bind_with, operator_of, left_mode, right_mode, left_may, operation_type, cookie_at}
use Rattle.ur_typed.specs.Walking.{typed}
use Rattle.ur_typed_laws.specs.Judged.{AreTold, stated, Judged, IsSound, Sound}
use Rattle.ur_typed_laws.proofs.Numbers.{numbered_none, numbered_end, numbered_both}
use Rattle.ur_typed_laws.proofs.Sound.{IsSettled, settled_by, judged_by, sound_at}
use Rattle.ur_typed_rules.specs.Rules.{if_so, value_of}
use Rattle.ur_typed_rules.proofs.Options.{some_of, opened, opened_if}

-- ---- one side

abbrev shown_of : Out → Option Out
shown_of z = gives ty.Str (make.unary unary.Show z.exp) z.sites

pub show_sound : AreTold → (w : World) (p : Span) (x : ExpForm) → Sound w x → Sound w (e.Show' tt (its p x alone))
show_sound told w p x k s st m o h d g =
    let y : ExpForm = e.Show' tt (its p x alone) in
    let a : IsSettled w y s st m o = settled_by w y s st m o h in
    let c : (z : Out) × (typed w x s st finds ≡ Some z) × (if_so (is_basic z.of) (shown_of z) ≡ Some o) = opened _ _ o a.walked in
    let q : (is_basic c.0.of ≡ true) × (shown_of c.0 ≡ Some o) = opened_if (is_basic c.0.of) (shown_of c.0) o c.2 in
    let b : Out = record { of = ty.Str; exp = make.unary unary.Show c.0.exp; sites = c.0.sites } in
    sound_at w y s st m d b o a q.1 g (λ acc fit g'.
    let i : IsSound w x s st finds d c.0 = k s st finds c.0 c.1 d g' in
    record { before = i.before; numbered = numbered_end i.numbered; resolves = resolves.show i.resolves; judged = judged_by told (stated d w) s m b.exp ty.Str (refl, (c.0.of, (i.judged.0, i.judged.1), q.0)) (refl, (c.0.of, (i.judged.0, i.judged.1), q.0)) acc fit })

abbrev present_of : Out → Option Out
present_of z = gives (option_of z.of) (make.unary unary.Present z.exp) z.sites

pub some_sound : AreTold → (w : World) (p : Span) (x : ExpForm) → Sound w x → Sound w (e.Some' tt (its p x alone))
some_sound told w p x k s st finds o h d g =
    let y : ExpForm = e.Some' tt (its p x alone) in
    let a : IsSettled w y s st finds o = settled_by w y s st finds o h in
    let c : (z : Out) × (typed w x s st finds ≡ Some z) × (present_of z ≡ Some o) = opened _ _ o a.walked in
    let b : Out = record { of = option_of c.0.of; exp = make.unary unary.Present c.0.exp; sites = c.0.sites } in
    sound_at w y s st finds d b o a c.2 g (λ acc fit g'.
    let i : IsSound w x s st finds d c.0 = k s st finds c.0 c.1 d g' in
    record { before = i.before; numbered = numbered_end i.numbered; resolves = resolves.some i.resolves; judged = ((c.0.of, refl, (i.judged.0, i.judged.1)), acc) })
some_sound told w p x k s st (wants t) o h d g =
    let y : ExpForm = e.Some' tt (its p x alone) in
    let a : IsSettled w y s st (wants t) o = settled_by w y s st (wants t) o h in
    let c : (z : Out) × (typed w x s st (of_option (wants t)) ≡ Some z) × (present_of z ≡ Some o) = opened _ _ o a.walked in
    let b : Out = record { of = option_of c.0.of; exp = make.unary unary.Present c.0.exp; sites = c.0.sites } in
    sound_at w y s st (wants t) d b o a c.2 g (λ acc fit g'.
    let q : option_of c.0.of ≡ t = told (option_of c.0.of) t fit in
    let r : typed w x s st (wants c.0.of) ≡ Some c.0 = subst (λ v. typed w x s st (of_option (wants v)) ≡ Some c.0) (sym q) c.1 in
    let i : IsSound w x s st (wants c.0.of) d c.0 = k s st (wants c.0.of) c.0 r d g' in
    record {
      before = i.before;
      numbered = numbered_end i.numbered;
      resolves = resolves.some i.resolves;
      judged = (q, subst (λ v. Checks (stated d w).declared w.most s.env b.exp v) q (c.0.of, refl, (i.judged.1, i.judged.2)), subst (λ v. Accepts w.most b.exp v) q acc);
    })

abbrev returned_of : Out → Option Out
returned_of z = gives (transaction_of z.of) (make.unary unary.Return z.exp) z.sites

pub return_sound : AreTold → (w : World) (p : Span) (x : ExpForm) → Sound w x → Sound w (e.Return' tt (its p x alone))
return_sound told w p x k s st finds o h d g =
    let y : ExpForm = e.Return' tt (its p x alone) in
    let a : IsSettled w y s st finds o = settled_by w y s st finds o h in
    let c : (z : Out) × (typed w x s st finds ≡ Some z) × (returned_of z ≡ Some o) = opened _ _ o a.walked in
    let b : Out = record { of = transaction_of c.0.of; exp = make.unary unary.Return c.0.exp; sites = c.0.sites } in
    sound_at w y s st finds d b o a c.2 g (λ acc fit g'.
    let i : IsSound w x s st finds d c.0 = k s st finds c.0 c.1 d g' in
    record { before = i.before; numbered = numbered_end i.numbered; resolves = resolves.return_ i.resolves; judged = ((c.0.of, refl, (i.judged.0, i.judged.1)), acc) })
return_sound told w p x k s st (wants t) o h d g =
    let y : ExpForm = e.Return' tt (its p x alone) in
    let a : IsSettled w y s st (wants t) o = settled_by w y s st (wants t) o h in
    let c : (z : Out) × (typed w x s st (of_transaction (wants t)) ≡ Some z) × (returned_of z ≡ Some o) = opened _ _ o a.walked in
    let b : Out = record { of = transaction_of c.0.of; exp = make.unary unary.Return c.0.exp; sites = c.0.sites } in
    sound_at w y s st (wants t) d b o a c.2 g (λ acc fit g'.
    let q : transaction_of c.0.of ≡ t = told (transaction_of c.0.of) t fit in
    let r : typed w x s st (wants c.0.of) ≡ Some c.0 = subst (λ v. typed w x s st (of_transaction (wants v)) ≡ Some c.0) (sym q) c.1 in
    let i : IsSound w x s st (wants c.0.of) d c.0 = k s st (wants c.0.of) c.0 r d g' in
    record {
      before = i.before;
      numbered = numbered_end i.numbered;
      resolves = resolves.return_ i.resolves;
      judged = (q, subst (λ v. Checks (stated d w).declared w.most s.env b.exp v) q (c.0.of, refl, (i.judged.1, i.judged.2)), subst (λ v. Accepts w.most b.exp v) q acc);
    })

abbrev failed_of : NormalType → Out → Option Out
failed_of t z = gives t (make.fail t z.exp) z.sites

pub error_sound : AreTold → (w : World) (p : Span) (x : ExpForm) → Sound w x → Sound w (e.Error' tt (its p x alone))
error_sound told w p x k s st finds o h d g = let a : IsSettled w (e.Error' tt (its p x alone)) s st finds o = settled_by w (e.Error' tt (its p x alone)) s st finds o h in let n : ◌≡◌ {A = Option Out} None (Some o) = a.walked in cc
error_sound told w p x k s st (wants t) o h d g =
    let y : ExpForm = e.Error' tt (its p x alone) in
    let a : IsSettled w y s st (wants t) o = settled_by w y s st (wants t) o h in
    let c : (z : Out) × (typed w x s st (wants ty.Xbody) ≡ Some z) × (failed_of t z ≡ Some o) = opened _ _ o a.walked in
    let b : Out = record { of = t; exp = make.fail t c.0.exp; sites = c.0.sites } in
    sound_at w y s st (wants t) d b o a c.2 g (λ acc fit g'.
    let i : IsSound w x s st (wants ty.Xbody) d c.0 = k s st (wants ty.Xbody) c.0 c.1 d g' in
    record { before = i.before; numbered = numbered_end i.numbered; resolves = resolves.error i.resolves; judged = (refl, (refl, (i.judged.1, i.judged.2)), acc) })

-- ---- three sides

abbrev chosen_of : Out → Out → Out → Option Out
chosen_of c y z = gives y.of (make.choice c.exp y.exp z.exp) z.sites

pub if_sound : AreTold → (w : World) (p q r : Span) (x y z : ExpForm) → Sound w x → Sound w y → Sound w z → Sound w (e.If' tt (its p x alone) tt (its q y alone) tt (its r z alone))
if_sound told w p q r x y z kx ky kz s st m o h d g =
    let v : ExpForm = e.If' tt (its p x alone) tt (its q y alone) tt (its r z alone) in
    let a : IsSettled w v s st m o = settled_by w v s st m o h in
    let c : (i : Out) × (typed w x s st (wants ty.Bool) ≡ Some i) × (option_and_then (λ j. option_and_then (λ l. chosen_of i j l) (typed w z s j.sites (wants j.of))) (typed w y s i.sites m) ≡ Some o) = opened _ _ o a.walked in
    let t : (j : Out) × (typed w y s c.0.sites m ≡ Some j) × (option_and_then (λ l. chosen_of c.0 j l) (typed w z s j.sites (wants j.of)) ≡ Some o) = opened _ _ o c.2 in
    let u : (l : Out) × (typed w z s t.0.sites (wants t.0.of) ≡ Some l) × (chosen_of c.0 t.0 l ≡ Some o) = opened _ _ o t.2 in
    let b : Out = record { of = t.0.of; exp = make.choice c.0.exp t.0.exp u.0.exp; sites = u.0.sites } in
    sound_at w v s st m d b o a u.2 g (λ acc fit g'.
    let iz : IsSound w z s t.0.sites (wants t.0.of) d u.0 = kz s t.0.sites (wants t.0.of) u.0 u.1 d g' in
    let iy : IsSound w y s c.0.sites m d t.0 = ky s c.0.sites m t.0 t.1 d iz.before in
    let ix : IsSound w x s st (wants ty.Bool) d c.0 = kx s st (wants ty.Bool) c.0 c.1 d iy.before in
    record { before = ix.before; numbered = numbered_both (numbered_end ix.numbered) (numbered_both (numbered_end iy.numbered) (numbered_end iz.numbered)); resolves = resolves.choice ix.resolves iy.resolves iz.resolves; judged = if_judged told (stated d w) s m c.0.exp t.0.exp u.0.exp t.0.of (ix.judged.1, ix.judged.2) iy.judged (iz.judged.1, iz.judged.2) acc }) where
      if_judged : AreTold → (w : World) (s : Scope) (m : Mode) (c a b : Exp) (t : NormalType) → Checks w.declared w.most s.env c ty.Bool × Accepts w.most c ty.Bool → Judged w s m a t → Checks w.declared w.most s.env b t × Accepts w.most b t → Accepts w.most (make.choice c a b) t →
          Judged w s m (make.choice c a b) t
      if_judged told w s finds c a b t jc ja jb acc = ((jc, (ja.0, ja.1), jb), acc)
      if_judged told w s (wants u) c a b t jc ja jb acc = (ja.0, (jc, (ja.1, ja.2), subst (λ v. Checks w.declared w.most s.env b v × Accepts w.most b v) ja.0 jb), subst (λ v. Accepts w.most (make.choice c a b) v) ja.0 acc)

-- ---- what runs

pub value_is : (t u : NormalType) → value_of t ≡ Some u → t ≡ transaction_of u
value_is (ty.Transaction' _ (the t sole)) u h = ap transaction_of (some_of h)
value_is _ u h = cc

below : (a b : ℕ) → nat_lt a b ≡ true → a < b
below a b h = grind (arith, nat_tests, h)

abbrev next_of : Sites → ℕ → Option Out
next_of st n = gives (transaction_of ty.Int) (exp.Next n) st

pub next_sound : AreTold → (w : World) (x : DeclName) → Sound w (e.Nextval x)
next_sound told w x s st m o h d g =
    let y : ExpForm = e.Nextval x in
    let a : IsSettled w y s st m o = settled_by w y s st m o h in
    let c : (n : ℕ) × (declared w.globals (name_of x) w.globals.sequences ≡ Some n) × (if_so (nat_lt n w.declared.sequences) (next_of st n) ≡ Some o) = opened _ _ o a.walked in
    let q : (nat_lt c.0 w.declared.sequences ≡ true) × (next_of st c.0 ≡ Some o) = opened_if (nat_lt c.0 w.declared.sequences) (next_of st c.0) o c.2 in
    let b : Out = record { of = transaction_of ty.Int; exp = exp.Next c.0; sites = st } in
    sound_at w y s st m d b o a q.1 g (λ acc fit g'.
    record { before = g'; numbered = numbered_none st; resolves = resolves.nextval c.1; judged = judged_by told (stated d w) s m b.exp b.of (below c.0 w.declared.sequences q.0, refl) (below c.0 w.declared.sequences q.0, refl) acc fit })

abbrev bound_of : Out → Out → NormalType → Option Out
bound_of i z v = gives z.of (make.bind i.exp z.exp) z.sites

bind_judged : (w : World) (s : Scope) (m : Mode) (x : Binder) (a b : Exp) (t u v r : NormalType) → r ≡ transaction_of u → t ≡ transaction_of v → Finds w.declared w.most s.env a r × Accepts w.most a r → Judged w (within_binder x u s) m b t → Accepts w.most (make.bind a b) t →
    Judged w s m (make.bind a b) t
bind_judged w s finds x a b t u v r er et ja jb acc = ((u, v, subst (λ z. Finds w.declared w.most s.env a z × Accepts w.most a z) er ja, et, (jb.0, jb.1)), acc)
bind_judged w s (wants q) x a b t u v r er et ja jb acc =
    (jb.0, (u, v, subst (λ z. Finds w.declared w.most s.env a z × Accepts w.most a z) er ja, sym jb.0 ∙ et, (jb.1, jb.2)), subst (λ z. Accepts w.most (make.bind a b) z) jb.0 acc)

pub bind_sound : AreTold → (w : World) (x : Binder) (p q : Span) (y z : ExpForm) → Sound w y → Sound w z → Sound w (e.Bind' x tt (its p y alone) tt (its q z alone))
bind_sound told w x p q y z ky kz s st m o h d g =
    let v : ExpForm = e.Bind' x tt (its p y alone) tt (its q z alone) in
    let a : IsSettled w v s st m o = settled_by w v s st m o h in
    let c : (i : Out) × (typed w y s st finds ≡ Some i) × (option_and_then (bind_with s m x (typed w z) i) (value_of i.of) ≡ Some o) = opened _ _ o a.walked in
    let t : (u : NormalType) × (value_of c.0.of ≡ Some u) × (bind_with s m x (typed w z) c.0 u ≡ Some o) = opened _ _ o c.2 in
    let l : (j : Out) × (typed w z (within_binder x t.0 s) c.0.sites m ≡ Some j) × (option_and_then (bound_of c.0 j) (value_of j.of) ≡ Some o) = opened _ _ o t.2 in
    let r : (u : NormalType) × (value_of l.0.of ≡ Some u) × (bound_of c.0 l.0 u ≡ Some o) = opened _ _ o l.2 in
    let b : Out = record { of = l.0.of; exp = make.bind c.0.exp l.0.exp; sites = l.0.sites } in
    sound_at w v s st m d b o a r.2 g (λ acc fit g'.
    let iz : IsSound w z (within_binder x t.0 s) c.0.sites m d l.0 = kz (within_binder x t.0 s) c.0.sites m l.0 l.1 d g' in
    let iy : IsSound w y s st finds d c.0 = ky s st finds c.0 c.1 d iz.before in
    record {
      before = iy.before;
      numbered = numbered_both (numbered_end iy.numbered) (numbered_end iz.numbered);
      resolves = resolves.bind iy.resolves iz.resolves;
      judged = bind_judged (stated d w) s m x c.0.exp l.0.exp l.0.of t.0 r.0 c.0.of (value_is c.0.of t.0 t.1) (value_is l.0.of r.0 r.1) (iy.judged.0, iy.judged.1) iz.judged acc;
    })

pub seq_sound : AreTold → (w : World) (p q : Span) (y z : ExpForm) → Sound w y → Sound w z → Sound w (e.Seq' tt (its p y alone) tt (its q z alone))
seq_sound told w p q y z ky kz s st m o h d g =
    let x : Binder = binder.Ignored in
    let v : ExpForm = e.Seq' tt (its p y alone) tt (its q z alone) in
    let a : IsSettled w v s st m o = settled_by w v s st m o h in
    let c : (i : Out) × (typed w y s st finds ≡ Some i) × (option_and_then (bind_with s m x (typed w z) i) (value_of i.of) ≡ Some o) = opened _ _ o a.walked in
    let t : (u : NormalType) × (value_of c.0.of ≡ Some u) × (bind_with s m x (typed w z) c.0 u ≡ Some o) = opened _ _ o c.2 in
    let l : (j : Out) × (typed w z (within_binder x t.0 s) c.0.sites m ≡ Some j) × (option_and_then (bound_of c.0 j) (value_of j.of) ≡ Some o) = opened _ _ o t.2 in
    let r : (u : NormalType) × (value_of l.0.of ≡ Some u) × (bound_of c.0 l.0 u ≡ Some o) = opened _ _ o l.2 in
    let b : Out = record { of = l.0.of; exp = make.bind c.0.exp l.0.exp; sites = l.0.sites } in
    sound_at w v s st m d b o a r.2 g (λ acc fit g'.
    let iz : IsSound w z (within_binder x t.0 s) c.0.sites m d l.0 = kz (within_binder x t.0 s) c.0.sites m l.0 l.1 d g' in
    let iy : IsSound w y s st finds d c.0 = ky s st finds c.0 c.1 d iz.before in
    record {
      before = iy.before;
      numbered = numbered_both (numbered_end iy.numbered) (numbered_end iz.numbered);
      resolves = resolves.sequence iy.resolves iz.resolves;
      judged = bind_judged (stated d w) s m x c.0.exp l.0.exp l.0.of t.0 r.0 c.0.of (value_is c.0.of t.0 t.1) (value_is l.0.of r.0 r.1) (iy.judged.0, iy.judged.1) iz.judged acc;
    })

-- ---- operators of two sides of one type, and comparisons

is_operator : (o : WrittenBinary) → IsOperator o (operator_of o)
is_operator op.Or = resolves.or
is_operator op.And = resolves.and
is_operator op.Eq = resolves.equal
is_operator op.Ne = resolves.unequal
is_operator op.Lt = resolves.less
is_operator op.Le = resolves.less_equal
is_operator op.Gt = resolves.greater
is_operator op.Ge = resolves.greater_equal
is_operator op.Cons = resolves.cons
is_operator op.Append = resolves.append
is_operator op.Concat = resolves.join
is_operator op.Add = resolves.add
is_operator op.Sub = resolves.sub
is_operator op.Mul = resolves.mul
is_operator op.Div = resolves.div
is_operator op.Rem = resolves.rem

abbrev sided_of : Binary → Out → Out → NormalType → Option Out
sided_of o i j t = gives t (make.binary o i.exp j.exp) j.sites

abbrev pub found_as : World → Scope → Exp → NormalType → Type 0
found_as w s x t = Finds w.declared w.most s.env x t × Accepts w.most x t

abbrev pub wanted_as : World → Scope → Exp → NormalType → Type 0
wanted_as w s x t = Checks w.declared w.most s.env x t × Accepts w.most x t

abbrev pub Sides : World → Scope → Exp → Exp → Operation → NormalType → Type 0
Sides w s a b P t = TwoSides P s.env.known (found_as w s a) (wanted_as w s a) (found_as w s b) (wanted_as w s b) t

-- an operator that has no rule of its own for checking
abbrev pub IsCompared : WrittenBinary → Type 0
IsCompared o = (d : Declared) (most : ℕ) (env : Env) (a b : Exp) (t : NormalType) → Finds d most env (make.binary (operator_of o) a b) t → Checks d most env (make.binary (operator_of o) a b) t

-- what an operator's rule asks, from what is known of both sides
abbrev pub Asks : World → Operation → Type 0
Asks w P = (s : Scope) (x y : ExpForm) (st : Sites) (m : Mode) (d : Statements) (i j : Out) (t : NormalType) → IsSound w x s st (left_mode P m) d i → left_may P i.of ≡ true → IsSound w y s i.sites (right_mode P i.of) d j →
    operation_type s.env.known P i.of j.of ≡ Some t → Sides (stated d w) s i.exp j.exp P t

pub two_asks : (w : World) (u v : NormalType) → Asks w (of_two u v)
two_asks w u v s x y st m d i j t ix l iy h = (sym (some_of h), (ix.judged.1, ix.judged.2), (iy.judged.1, iy.judged.2))

pub compared_asks : (w : World) (test : NormalType → Bool) → Asks w (compares test)
compared_asks w test s x y st m d i j t ix l iy h = (sym (some_of h), (i.of, (ix.judged.0, ix.judged.1), l, (iy.judged.1, iy.judged.2)))

pub operator_sound : AreTold → (w : World) (o : WrittenBinary) → Asks w (operation (operator_of o)) → IsCompared o → (p q : Span) (x y : ExpForm) → Sound w x → Sound w y → Sound w (e.Binary' o tt (its p x alone) tt (its q y alone))
operator_sound told w o asks ch p q x y kx ky s st m out h d g =
    let f : ExpForm = e.Binary' o tt (its p x alone) tt (its q y alone) in
    let P : Operation = operation (operator_of o) in
    let a : IsSettled w f s st m out = settled_by w f s st m out h in
    let c : (i : Out) × (typed w x s st (left_mode P m) ≡ Some i) × (if_so (left_may P i.of) (option_and_then (λ j. option_and_then (sided_of (operator_of o) i j) (operation_type s.env.known P i.of j.of)) (typed w y s i.sites (right_mode P i.of))) ≡ Some out) = opened _ _ out a.walked in
    let t : (left_may P c.0.of ≡ true) × (option_and_then (λ j. option_and_then (sided_of (operator_of o) c.0 j) (operation_type s.env.known P c.0.of j.of)) (typed w y s c.0.sites (right_mode P c.0.of)) ≡ Some out) = opened_if (left_may P c.0.of) _ out c.2 in
    let l : (j : Out) × (typed w y s c.0.sites (right_mode P c.0.of) ≡ Some j) × (option_and_then (sided_of (operator_of o) c.0 j) (operation_type s.env.known P c.0.of j.of) ≡ Some out) = opened _ _ out t.1 in
    let r : (z : NormalType) × (operation_type s.env.known P c.0.of l.0.of ≡ Some z) × (sided_of (operator_of o) c.0 l.0 z ≡ Some out) = opened _ _ out l.2 in
    let b : Out = record { of = r.0; exp = make.binary (operator_of o) c.0.exp l.0.exp; sites = l.0.sites } in
    sound_at w f s st m d b out a r.2 g (λ acc fit g'.
    let iy : IsSound w y s c.0.sites (right_mode P c.0.of) d l.0 = ky s c.0.sites (right_mode P c.0.of) l.0 l.1 d g' in
    let ix : IsSound w x s st (left_mode P m) d c.0 = kx s st (left_mode P m) c.0 c.1 d iy.before in
    let F : Finds (stated d w).declared w.most s.env b.exp r.0 = asks s x y st m d c.0 l.0 r.0 ix t.0 iy r.1 in
    record { before = ix.before; numbered = numbered_both (numbered_end ix.numbered) (numbered_end iy.numbered); resolves = resolves.operator (is_operator o) ix.resolves iy.resolves; judged = judged_by told (stated d w) s m b.exp r.0 F (ch (stated d w).declared w.most s.env c.0.exp l.0.exp r.0 F) acc fit })

-- ---- cookies

pub cookie_is : (w : World) (x : DeclName) (c : ℕ × ColumnKind) → cookie_at w x ≡ Some c → (declared w.globals (name_of x) w.globals.cookies ≡ Some c.0) × (slice_get w.declared.cookies c.0 ≡ Some c.1)
cookie_is w x c h =
    let a : (n : ℕ) × (declared w.globals (name_of x) w.globals.cookies ≡ Some n) × (option_map (λ k. (n, k)) (slice_get w.declared.cookies n) ≡ Some c) = opened _ _ c h in
    let b : (k : ColumnKind) × (slice_get w.declared.cookies a.0 ≡ Some k) × ((a.0, k) ≡ c) = mapped a.0 (slice_get w.declared.cookies a.0) c a.2 in
    subst (λ z. (declared w.globals (name_of x) w.globals.cookies ≡ Some z.0) × (slice_get w.declared.cookies z.0 ≡ Some z.1)) b.2 (a.1, b.1) where
      mapped : (n : ℕ) (o : Option ColumnKind) (c : ℕ × ColumnKind) → option_map (λ k. (n, k)) o ≡ Some c → (k : ColumnKind) × (o ≡ Some k) × ((n, k) ≡ c)
      mapped n None c h = cc
      mapped n (Some k) c h = (k, refl, some_of h)

abbrev got_of : Sites → ℕ × ColumnKind → Option Out
got_of st c = gives (transaction_of (option_of (kind_type c.1))) (exp.GetCookie c.0) st

pub get_cookie_sound : AreTold → (w : World) (x : DeclName) → Sound w (e.GetCookie x)
get_cookie_sound told w x s st m o h d g =
    let y : ExpForm = e.GetCookie x in
    let a : IsSettled w y s st m o = settled_by w y s st m o h in
    let c : (k : ℕ × ColumnKind) × (cookie_at w x ≡ Some k) × (got_of st k ≡ Some o) = opened _ _ o a.walked in
    let q : (declared w.globals (name_of x) w.globals.cookies ≡ Some c.0.0) × (slice_get w.declared.cookies c.0.0 ≡ Some c.0.1) = cookie_is w x c.0 c.1 in
    let b : Out = record { of = transaction_of (option_of (kind_type c.0.1)); exp = exp.GetCookie c.0.0; sites = st } in
    sound_at w y s st m d b o a c.2 g (λ acc fit g'. record { before = g'; numbered = numbered_none st; resolves = resolves.get_cookie q.0; judged = judged_by told (stated d w) s m b.exp b.of (c.0.1, q.1, refl) (c.0.1, q.1, refl) acc fit })
