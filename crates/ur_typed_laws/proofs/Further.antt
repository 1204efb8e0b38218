-- Constructors, lists, `::`, `++`, `--` and `setCookie`: what is typed resolves and has its type by the rules.
use Rattle.std.proofs.Common.{◌≡◌, ◌∙◌, refl, sym, ap, subst, Bool, true, false, true≢false, Option, Some, None, List, ℕ}
use Rattle.std.specs.Prelude.{◌&&◌, codes, option_and_then, slice_get, bytes_eq}
use mathlib.Core.Former.{Count}
use Rattle.ur_base.specs.Shape.{Shape, count}
use Rattle.ur_base.specs.declared.refusal.Span.{Span}
use Rattle.ur_syntax.specs.Names.{own, member as of_module}
use Rattle.ur_syntax.specs.declared.con.FieldName.{FieldName}
use Rattle.ur_syntax.specs.declared.con.FieldName.TheVariants as field_name
use Rattle.ur_syntax.specs.declared.sql.DeclName.{DeclName}
use Rattle.ur_syntax.specs.declared.exp.Binary.TheVariants as op
use Rattle.ur_syntax.specs.declared.exp.Removed.{Removed}
use Rattle.ur_syntax.specs.declared.exp.ExpForm.{ExpForm, end_of-Exp as alone, more_of-Exp as its, Row_of-Field, end_of-Field, more_of-Field}
use Rattle.ur_syntax.specs.declared.exp.ExpForm.TheVariants as e
use Rattle.ur_values.specs.declared.schema.ColumnKind.{ColumnKind}
use Rattle.ur_rows.specs.declared.normal.Label.{Label}
use Rattle.ur_rows.specs.declared.normal.NormalType.{NormalType, end_of-NormalType as sole, more_of-NormalType as the}
use Rattle.ur_rows.specs.declared.normal.NormalType.TheVariants as ty
use Rattle.ur_rows.specs.declared.normal.Part.{Part}
use Rattle.ur_rows.specs.Apart.{Assumptions}
use Rattle.ur_rows.specs.Made.{unit, record_of}
use Rattle.ur_rows.specs.Order.{joined}
use Rattle.ur_rows.specs.Types.{option_of, list_of, transaction_of, field_type, without}
use Rattle.ur_tree.specs.Scalars.{kind_type}
use Rattle.ur_tree.specs.declared.exp.Exp.{Exp}
use Rattle.ur_tree.specs.declared.exp.Exp.TheVariants as exp
use Rattle.ur_tree.specs.declared.exp.Exp.TheBlock.{None'}
use Rattle.ur_tree.specs.declared.exp.Binary.TheVariants as binary
use Rattle.ur_tree.specs.Make as make
use Rattle.ur_tree.specs.Typing.{Finds, Checks, Accepts, joins}
use Rattle.ur_typed_rules.specs.Names.{declared, name_of}
use Rattle.ur_typed_rules.specs.Scopes.{World, Scope, Mode, finds, wants, of_list}
use Rattle.ur_typed_rules.specs.Tests.{is_apart}
use Rattle.ur_typed_rules.proofs.Rows.{two_rows}
use Rattle.ur_typed.specs.Resolves.{Statements, Resolves, IsConstructor, IsCookieRecord, literally}
use Rattle.ur_typed.specs.Resolves as resolves
use Rattle.ur_typed.specs.Rules.{Sites, Out, gives, is_option, is_list, plain_tag, tagged_out, absent_out, Capital, says_true, says_false, says_none, says_other, capital_of, by_capital, join_types, cookie_at, is_literally, is_constructor_named, are_literal_rest}
use Rattle.ur_typed.specs.Walking.{typed, cookie_walk, cookie_field_walk}
use Rattle.ur_typed.specs.Causes.{is_record}
use Rattle.ur_typed_laws.specs.Judged.{AreTold, Fills, stated, IsSound, Sound}
use Rattle.ur_typed_laws.proofs.Numbers.{numbered_none, numbered_end, numbered_both}
use Rattle.ur_typed_laws.proofs.Sound.{IsSettled, settled_by, judged_by, sound_at}
use Rattle.ur_typed_laws.proofs.Forms.{Asks, operator_sound, cookie_is}
use Rattle.ur_typed_laws.proofs.Names.{row_is}
use Rattle.ur_typed_rules.specs.Rules.{row_of, label_at}
use Rattle.ur_typed_rules.proofs.Options.{some_of, opened, opened_if, both_true}
use Rattle.ur_typed.proofs.Shapes.{true_of, false_of, none_of, other_of, word_is, word_is_not, record_is}

-- ---- `[]`, and constructors

list_is : (t : NormalType) → is_list t ≡ true → (v : NormalType) × (t ≡ list_of v)
list_is (ty.Many' _ (the t sole)) h = (t, refl)
list_is _ h = cc

option_is : (t : NormalType) → is_option t ≡ true → (v : NormalType) × (t ≡ option_of v)
option_is (ty.Opt' _ (the t sole)) h = (t, refl)
option_is _ h = cc

abbrev empty_there : Sites → NormalType → Option Out
empty_there st t = gives t (exp.Empty t) st

pub nil_sound : AreTold → (w : World) → Sound w e.Nil
nil_sound told w s st finds o h d g = let a : IsSettled w e.Nil s st finds o = settled_by w e.Nil s st finds o h in let n : ◌≡◌ {A = Option Out} None (Some o) = a.walked in cc
nil_sound told w s st (wants t) o h d g =
    let a : IsSettled w e.Nil s st (wants t) o = settled_by w e.Nil s st (wants t) o h in
    let q : (is_list t ≡ true) × (empty_there st t ≡ Some o) = opened_if (is_list t) (empty_there st t) o a.walked in
    let b : Out = record { of = t; exp = exp.Empty t; sites = st } in
    sound_at w e.Nil s st (wants t) d b o a q.1 g (λ acc fit g'. record { before = g'; numbered = numbered_none st; resolves = resolves.empty; judged = (refl, (refl, list_is t q.0), acc) })

abbrev pub is_word : List ℕ → List ℕ → Bool
is_word x y = bytes_eq x y

plain_is : (k n : ℕ) (st : Sites) (a : Option NormalType) (o : Out) → plain_tag k n st a ≡ Some o → (a ≡ None) × (gives (ty.Datatype k) (exp.Tagged' n None') st ≡ Some o)
plain_is k n st None o h = (refl, h)
plain_is k n st (Some t) o h = cc

-- the constructor of a datatype without an argument
tagged_sound : AreTold → (w : World) (x : ExpForm) (s : Scope) (st : Sites) (m : Mode) (n : ℕ) (o : Out) (d : Statements) → IsConstructor w.globals x n → IsSettled w x s st m o → tagged_out w st n ≡ Some o → Fills w d o.sites → IsSound w x s st m d o
tagged_sound told w x s st m n o d r a h g =
    let c : (v : ℕ × Option NormalType) × (slice_get w.declared.variants n ≡ Some v) × (plain_tag v.0 n st v.1 ≡ Some o) = opened _ _ o h in
    let q : (c.0.1 ≡ None) × (gives (ty.Datatype c.0.0) (exp.Tagged' n None') st ≡ Some o) = plain_is c.0.0 n st c.0.1 o c.2 in
    let b : Out = record { of = ty.Datatype c.0.0; exp = exp.Tagged' n None'; sites = st } in
    sound_at w x s st m d b o a q.1 g (λ acc fit g'. record { before = g'; numbered = numbered_none st; resolves = resolves.constructor r; judged = judged_by told (stated d w) s m b.exp b.of (c.0, c.1, refl, q.0) (c.0, c.1, refl, q.0) acc fit })

abbrev absent_there : Sites → NormalType → Option Out
absent_there st t = gives t (exp.Absent t) st

absent_sound : (w : World) (x : List ℕ) (s : Scope) (st : Sites) (m : Mode) (o : Out) (d : Statements) → x ≡ codes "None" → IsSettled w (e.Constructor x) s st m o → absent_out st m ≡ Some o → Fills w d o.sites → IsSound w (e.Constructor x) s st m d o
absent_sound w x s st finds o d i a h g = cc
absent_sound w x s st (wants t) o d i a h g =
    let q : (is_option t ≡ true) × (absent_there st t ≡ Some o) = opened_if (is_option t) (absent_there st t) o h in
    let b : Out = record { of = t; exp = exp.Absent t; sites = st } in
    sound_at w (e.Constructor x) s st (wants t) d b o a q.1 g
    (λ acc fit g'. record { before = g'; numbered = numbered_none st; resolves = subst (λ z. Resolves d w.most w.globals (stated d w).declared s.names (e.Constructor z) (exp.Absent t)) (sym i) resolves.absent; judged = (refl, (refl, option_is t q.0), acc) })

truth_sound : AreTold → (w : World) (x : List ℕ) (s : Scope) (st : Sites) (m : Mode) (o : Out) (d : Statements) (v : Bool) → Resolves d w.most w.globals (stated d w).declared s.names (e.Constructor x) (exp.Bool v) → IsSettled w (e.Constructor x) s st m o →
    gives ty.Bool (exp.Bool v) st ≡ Some o → Fills w d o.sites → IsSound w (e.Constructor x) s st m d o
truth_sound told w x s st m o d v r a h g =
    let b : Out = record { of = ty.Bool; exp = exp.Bool v; sites = st } in
    sound_at w (e.Constructor x) s st m d b o a h g (λ acc fit g'. record { before = g'; numbered = numbered_none st; resolves = r; judged = judged_by told (stated d w) s m b.exp ty.Bool refl refl acc fit })

by_word : AreTold → (w : World) (x : List ℕ) (s : Scope) (st : Sites) (m : Mode) (o : Out) (d : Statements) (k : Capital) → capital_of x ≡ k → IsSettled w (e.Constructor x) s st m o → by_capital w st m (declared w.globals (own x) w.globals.constructors) k ≡ Some o → Fills w d o.sites →
    IsSound w (e.Constructor x) s st m d o
by_word told w x s st m o d says_true ek a h g =
    let i : x ≡ codes "True" = word_is x (codes "True") (true_of (is_word x (codes "True")) (is_word x (codes "False")) (is_word x (codes "None")) ek) in
    truth_sound told w x s st m o d true (subst (λ z. Resolves d w.most w.globals (stated d w).declared s.names (e.Constructor z) (exp.Bool true)) (sym i) resolves.true_) a h g
by_word told w x s st m o d says_false ek a h g =
    let i : x ≡ codes "False" = word_is x (codes "False") (false_of (is_word x (codes "True")) (is_word x (codes "False")) (is_word x (codes "None")) ek) in
    truth_sound told w x s st m o d false (subst (λ z. Resolves d w.most w.globals (stated d w).declared s.names (e.Constructor z) (exp.Bool false)) (sym i) resolves.false_) a h g
by_word told w x s st m o d says_none ek a h g =
    absent_sound w x s st m o d (word_is x (codes "None") (none_of (is_word x (codes "True")) (is_word x (codes "False")) (is_word x (codes "None")) ek)) a h g
by_word told w x s st m o d says_other ek a h g =
    let c : (n : ℕ) × (declared w.globals (own x) w.globals.constructors ≡ Some n) × (tagged_out w st n ≡ Some o) = opened _ _ o h in
    let i : (is_word x (codes "True") ≡ false) × (is_word x (codes "False") ≡ false) × (is_word x (codes "None") ≡ false) = other_of (is_word x (codes "True")) (is_word x (codes "False")) (is_word x (codes "None")) ek in
    tagged_sound told w (e.Constructor x) s st m c.0 o d (resolves.IsConstructor.bare (word_is_not x (codes "True") i.0) (word_is_not x (codes "False") i.1) (word_is_not x (codes "None") i.2) c.1) a c.2 g

pub constructor_sound : AreTold → (w : World) (x : List ℕ) → Sound w (e.Constructor x)
constructor_sound told w x s st m o h d g = let a : IsSettled w (e.Constructor x) s st m o = settled_by w (e.Constructor x) s st m o h in by_word told w x s st m o d (capital_of x) refl a a.walked g

pub member_constructor_sound : AreTold → (w : World) (i x : List ℕ) → Sound w (e.MemberConstructor i x)
member_constructor_sound told w i x s st m o h d g =
    let a : IsSettled w (e.MemberConstructor i x) s st m o = settled_by w (e.MemberConstructor i x) s st m o h in
    let c : (n : ℕ) × (declared w.globals (of_module i x) w.globals.constructors ≡ Some n) × (tagged_out w st n ≡ Some o) = opened _ _ o a.walked in
    tagged_sound told w (e.MemberConstructor i x) s st m c.0 o d (resolves.IsConstructor.member c.1) a c.2 g

-- ---- `++`

join_is : (known : Assumptions) (a b : Option (List Part)) (t : NormalType) → join_types known a b ≡ Some t → (r : List Part) × (u : List Part) × (a ≡ Some r) × (b ≡ Some u) × (is_apart known r u ≡ true) × (record_of (joined r u) ≡ t)
join_is known None b t h = cc
join_is known (Some r) None t h = cc
join_is known (Some r) (Some u) t h = let q : (is_apart known r u ≡ true) × (Some (record_of (joined r u)) ≡ Some t) = opened_if (is_apart known r u) (Some (record_of (joined r u))) t h in (r, u, refl, refl, q.0, some_of q.1)

abbrev is_found : World → Scope → Exp → NormalType → Type 0
is_found w s x t = Finds w.declared w.most s.env x t × Accepts w.most x t

joined_asks : (w : World) → Asks w joins
joined_asks w s x y st m d i j t ix l iy h =
    let c : (r : List Part) × (u : List Part) × (row_of i.of ≡ Some r) × (row_of j.of ≡ Some u) × (is_apart s.env.known r u ≡ true) × (record_of (joined r u) ≡ t) = join_is s.env.known (row_of i.of) (row_of j.of) t h in
    (c.0, c.1, sym c.5, subst (is_found (stated d w) s i.exp) (row_is i.of c.0 c.2) (ix.judged.0, ix.judged.1), subst (is_found (stated d w) s j.exp) (row_is j.of c.1 c.3) (iy.judged.0, iy.judged.1), (two_rows s.env.known c.0 c.1).0 c.4)

pub join_sound : AreTold → (w : World) (p q : Span) (x y : ExpForm) → Sound w x → Sound w y → Sound w (e.Binary' op.Concat tt (its p x alone) tt (its q y alone))
join_sound told w = operator_sound told w op.Concat (joined_asks w) (λ d most env a b t f. f)

-- ---- `::`

abbrev consed_of : Out → Out → NormalType → Option Out
consed_of i j t = gives t (make.binary binary.Cons i.exp j.exp) j.sites

abbrev consing : World → ExpForm → Scope → Out → Option Out
consing w y s i = option_and_then (λ j. consed_of i j (list_of i.of)) (typed w y s i.sites (wants (list_of i.of)))

pub cons_sound : AreTold → (w : World) (p q : Span) (x y : ExpForm) → Sound w x → Sound w y → Sound w (e.Binary' op.Cons tt (its p x alone) tt (its q y alone))
cons_sound told w p q x y kx ky s st finds o h d g =
    let f : ExpForm = e.Binary' op.Cons tt (its p x alone) tt (its q y alone) in
    let a : IsSettled w f s st finds o = settled_by w f s st finds o h in
    let c : (i : Out) × (typed w x s st finds ≡ Some i) × (consing w y s i ≡ Some o) = opened _ _ o a.walked in
    let l : (j : Out) × (typed w y s c.0.sites (wants (list_of c.0.of)) ≡ Some j) × (consed_of c.0 j (list_of c.0.of) ≡ Some o) = opened _ _ o c.2 in
    let b : Out = record { of = list_of c.0.of; exp = make.binary binary.Cons c.0.exp l.0.exp; sites = l.0.sites } in
    sound_at w f s st finds d b o a l.2 g (λ acc fit g'.
    let iy : IsSound w y s c.0.sites (wants (list_of c.0.of)) d l.0 = ky s c.0.sites (wants (list_of c.0.of)) l.0 l.1 d g' in
    let ix : IsSound w x s st finds d c.0 = kx s st finds c.0 c.1 d iy.before in
    record { before = ix.before; numbered = numbered_both (numbered_end ix.numbered) (numbered_end iy.numbered); resolves = resolves.operator resolves.cons ix.resolves iy.resolves; judged = ((c.0.of, refl, (ix.judged.0, ix.judged.1), (iy.judged.1, iy.judged.2)), acc) })
cons_sound told w p q x y kx ky s st (wants t) o h d g =
    let f : ExpForm = e.Binary' op.Cons tt (its p x alone) tt (its q y alone) in
    let a : IsSettled w f s st (wants t) o = settled_by w f s st (wants t) o h in
    let c : (i : Out) × (typed w x s st (of_list (wants t)) ≡ Some i) × (consing w y s i ≡ Some o) = opened _ _ o a.walked in
    let l : (j : Out) × (typed w y s c.0.sites (wants (list_of c.0.of)) ≡ Some j) × (consed_of c.0 j (list_of c.0.of) ≡ Some o) = opened _ _ o c.2 in
    let b : Out = record { of = list_of c.0.of; exp = make.binary binary.Cons c.0.exp l.0.exp; sites = l.0.sites } in
    sound_at w f s st (wants t) d b o a l.2 g (λ acc fit g'.
    let q : list_of c.0.of ≡ t = told (list_of c.0.of) t fit in
    let r : typed w x s st (wants c.0.of) ≡ Some c.0 = subst (λ v. typed w x s st (of_list (wants v)) ≡ Some c.0) (sym q) c.1 in
    let iy : IsSound w y s c.0.sites (wants (list_of c.0.of)) d l.0 = ky s c.0.sites (wants (list_of c.0.of)) l.0 l.1 d g' in
    let ix : IsSound w x s st (wants c.0.of) d c.0 = kx s st (wants c.0.of) c.0 r d iy.before in
    record {
      before = ix.before;
      numbered = numbered_both (numbered_end ix.numbered) (numbered_end iy.numbered);
      resolves = resolves.operator resolves.cons ix.resolves iy.resolves;
      judged = (q, subst (λ v. Checks (stated d w).declared w.most s.env b.exp v) q (c.0.of, refl, (ix.judged.1, ix.judged.2), (iy.judged.1, iy.judged.2)), subst (λ v. Accepts w.most b.exp v) q acc);
    })

-- ---- `--`

abbrev cut_of : Scope → FieldName → Out → List Part → NormalType → Option Out
cut_of s f z r t = gives (record_of (without (label_at s f) r)) (make.cut z.exp (label_at s f)) z.sites

pub cut_sound : AreTold → (w : World) (p : Span) (x : ExpForm) (f : Removed) → Sound w x → Sound w (e.Remove' tt (its p x alone) f)
cut_sound told w p x f k s st m o h d g =
    let y : ExpForm = e.Remove' tt (its p x alone) f in
    let n : Label = label_at s f.name in
    let a : IsSettled w y s st m o = settled_by w y s st m o h in
    let c : (z : Out) × (typed w x s st finds ≡ Some z) × (option_and_then (λ r. option_and_then (cut_of s f.name z r) (field_type n r)) (row_of z.of) ≡ Some o) = opened _ _ o a.walked in
    let t : (r : List Part) × (row_of c.0.of ≡ Some r) × (option_and_then (cut_of s f.name c.0 r) (field_type n r) ≡ Some o) = opened _ _ o c.2 in
    let u : (v : NormalType) × (field_type n t.0 ≡ Some v) × (cut_of s f.name c.0 t.0 v ≡ Some o) = opened _ _ o t.2 in
    let b : Out = record { of = record_of (without n t.0); exp = make.cut c.0.exp n; sites = c.0.sites } in
    sound_at w y s st m d b o a u.2 g (λ acc fit g'.
    let i : IsSound w x s st finds d c.0 = k s st finds c.0 c.1 d g' in
    let r : is_found (stated d w) s c.0.exp (record_of t.0) = subst (is_found (stated d w) s c.0.exp) (row_is c.0.of t.0 t.1) (i.judged.0, i.judged.1) in
    record { before = i.before; numbered = numbered_end i.numbered; resolves = resolves.cut i.resolves refl; judged = judged_by told (stated d w) s m b.exp b.of (t.0, u.0, r, u.1, refl) (t.0, u.0, r, u.1, refl) acc fit })

-- ---- `setCookie`

literal_is : (f : FieldName) (x : List ℕ) → is_literally f x ≡ true → f ≡ field_name.Literal x
literal_is (field_name.Literal a) x h = ap (λ z. field_name.Literal z) (word_is a x h)
literal_is (field_name.Variable a) x h = absurd (true≢false (sym h))

named_is : (y : ExpForm) (x : List ℕ) → is_constructor_named y x ≡ true → y ≡ e.Constructor x
named_is (e.Constructor a) x h = ap (λ z. e.Constructor z) (word_is a x h)
named_is _ x h = cc

abbrev cookie_row : FieldName → Span → ExpForm → FieldName → Span → ExpForm → FieldName → Span → ExpForm → Type 0
cookie_row f p x g q y h r z = IsCookieRecord _ (more_of-Field f p x (more_of-Field g q y (more_of-Field h r z end_of-Field))) x

cookie_fields : (n : Count) (f : FieldName) (p : Span) (x : ExpForm) (rest : Row_of-Field n) → is_literally f (codes "Value") ≡ true → are_literal_rest rest ≡ true → IsCookieRecord _ (more_of-Field f p x rest) x
cookie_fields _ f p x (more_of-Field g q y (more_of-Field h r z end_of-Field)) i k =
    let a : (is_literally g (codes "Expires") ≡ true) × ((is_constructor_named y (codes "None") && (is_literally h (codes "Secure") && is_constructor_named z (codes "False"))) ≡ true) =
    both_true (is_literally g (codes "Expires")) (is_constructor_named y (codes "None") && (is_literally h (codes "Secure") && is_constructor_named z (codes "False"))) k in
    let b : (is_constructor_named y (codes "None") ≡ true) × ((is_literally h (codes "Secure") && is_constructor_named z (codes "False")) ≡ true) = both_true (is_constructor_named y (codes "None")) (is_literally h (codes "Secure") && is_constructor_named z (codes "False")) a.1 in
    let c : (is_literally h (codes "Secure") ≡ true) × (is_constructor_named z (codes "False") ≡ true) = both_true (is_literally h (codes "Secure")) (is_constructor_named z (codes "False")) b.1 in
    subst (λ v. cookie_row v p x g q y h r z) (sym (literal_is f (codes "Value") i))
    (subst (λ v. cookie_row (field_name.Literal (codes "Value")) p x v q y h r z) (sym (literal_is g (codes "Expires") a.0))
    (subst (λ v. cookie_row (field_name.Literal (codes "Value")) p x (field_name.Literal (codes "Expires")) q v h r z) (sym (named_is y (codes "None") b.0))
    (subst (λ v. cookie_row (field_name.Literal (codes "Value")) p x (field_name.Literal (codes "Expires")) q (e.Constructor (codes "None")) v r z) (sym (literal_is h (codes "Secure") c.0))
    (subst (λ v. cookie_row (field_name.Literal (codes "Value")) p x (field_name.Literal (codes "Expires")) q (e.Constructor (codes "None")) (field_name.Literal (codes "Secure")) r v) (sym (named_is z (codes "False") c.1)) literally))))
cookie_fields _ f p x _ i k = cc

-- the first field's expression is sound
abbrev pub FirstFieldIsSound : World → {n : _} → Row_of-Field n → Type 0
FirstFieldIsSound w end_of-Field = Unit {0}
FirstFieldIsSound w (more_of-Field f p x rest) = Sound w x

-- what the walk gives of the literal record of `setCookie` is that of its value
record CookieIsSound (w : World) (n : Count) (fields : Row_of-Field n) (s : Scope) (st : Sites) (m : Mode) (d : Statements) (o : Out) : Type 0 where
  value : ExpForm
  literal : IsCookieRecord n fields value
  sound : IsSound w value s st m d o

cookie_value : (w : World) (n : Count) (fields : Row_of-Field n) → FirstFieldIsSound w fields → (s : Scope) (st : Sites) (m : Mode) (o : Out) → cookie_field_walk w fields s st m ≡ Some o → (d : Statements) → Fills w d o.sites → CookieIsSound w n fields s st m d o
cookie_value w _ end_of-Field k s st m o h d g = cc
cookie_value w _ (more_of-Field {n = n} f p x rest) k s st m o h d g =
    let r : ((is_literally f (codes "Value") && are_literal_rest rest) ≡ true) × (typed w x s st m ≡ Some o) = opened_if (is_literally f (codes "Value") && are_literal_rest rest) (typed w x s st m) o h in
    let t : (is_literally f (codes "Value") ≡ true) × (are_literal_rest rest ≡ true) = both_true (is_literally f (codes "Value")) (are_literal_rest rest) r.0 in
    record { value = x; literal = cookie_fields n f p x rest t.0 t.1; sound = k s st m o r.1 d g }

abbrev cookie_set : ℕ → Out → Option Out
cookie_set c z = gives (transaction_of unit) (make.set_cookie c z.exp) z.sites

pub set_cookie_sound : AreTold → (w : World) (x : DeclName) (p : Span) (n : Shape) (fields : Row_of-Field (count n)) → FirstFieldIsSound w fields → Sound w (e.SetCookie' x tt (its p (e.Record' n fields) alone))
set_cookie_sound told w x p n fields k s st m o h d g =
    let v : ExpForm = e.SetCookie' x tt (its p (e.Record' n fields) alone) in
    let a : IsSettled w v s st m o = settled_by w v s st m o h in
    let c : (i : ℕ × ColumnKind) × (cookie_at w x ≡ Some i) × (option_and_then (cookie_set i.0) (cookie_field_walk w fields s st (wants (kind_type i.1))) ≡ Some o) = opened _ _ o a.walked in
    let l : (z : Out) × (cookie_field_walk w fields s st (wants (kind_type c.0.1)) ≡ Some z) × (cookie_set c.0.0 z ≡ Some o) = opened _ _ o c.2 in
    let u : (declared w.globals (name_of x) w.globals.cookies ≡ Some c.0.0) × (slice_get w.declared.cookies c.0.0 ≡ Some c.0.1) = cookie_is w x c.0 c.1 in
    let b : Out = record { of = transaction_of unit; exp = make.set_cookie c.0.0 l.0.exp; sites = l.0.sites } in
    sound_at w v s st m d b o a l.2 g (λ acc fit g'.
    let i : CookieIsSound w _ fields s st (wants (kind_type c.0.1)) d l.0 = cookie_value w _ fields k s st (wants (kind_type c.0.1)) l.0 l.1 d g' in
    let j : Finds (stated d w).declared w.most s.env b.exp b.of = (c.0.1, u.1, (i.sound.judged.1, i.sound.judged.2), refl) in
    record { before = i.sound.before; numbered = numbered_end i.sound.numbered; resolves = resolves.set_cookie u.0 i.literal i.sound.resolves; judged = judged_by told (stated d w) s m b.exp b.of j j acc fit })

-- the same of what is written as the record
abbrev pub FirstIsSound : World → ExpForm → Type 0
FirstIsSound w (e.Record' n fields) = FirstFieldIsSound w fields
FirstIsSound w _ = Unit {0}

no_record : (w : World) (s : Scope) (st : Sites) (m : Mode) (p : Span) (y : ExpForm) → is_record y ≡ false → cookie_walk w (its p y alone) s st m ≡ None
no_record w s st m p (e.Record' n fields) h = cc
no_record w s st m p _ h = refl

other_sound : (w : World) (x : DeclName) (p : Span) (y : ExpForm) → is_record y ≡ false → Sound w (e.SetCookie' x tt (its p y alone))
other_sound w x p y i s st m o h d g =
    let v : ExpForm = e.SetCookie' x tt (its p y alone) in
    let a : IsSettled w v s st m o = settled_by w v s st m o h in
    let c : (k : ℕ × ColumnKind) × (cookie_at w x ≡ Some k) × (option_and_then (cookie_set k.0) (cookie_walk w (its p y alone) s st (wants (kind_type k.1))) ≡ Some o) = opened _ _ o a.walked in
    let l : (z : Out) × (cookie_walk w (its p y alone) s st (wants (kind_type c.0.1)) ≡ Some z) × (cookie_set c.0.0 z ≡ Some o) = opened _ _ o c.2 in
    absurd (none_is (sym (no_record w s st (wants (kind_type c.0.1)) p y i) ∙ l.1)) where
      none_is : {A : Type 0} {x : A} → None ≡ Some x → ⊥
      none_is i = cc

pub cookie_sound : AreTold → (w : World) (x : DeclName) (p : Span) (y : ExpForm) → FirstIsSound w y → Sound w (e.SetCookie' x tt (its p y alone))
cookie_sound told w x p y k = by_record (is_record y) refl where
  by_record : (b : Bool) → is_record y ≡ b → Sound w (e.SetCookie' x tt (its p y alone))
  by_record true i =
      let r : (n : Shape) × (fields : Row_of-Field (count n)) × (y ≡ e.Record' n fields) = record_is y i in
      subst (λ z. Sound w (e.SetCookie' x tt (its p z alone))) (sym r.2) (set_cookie_sound told w x p r.0 r.1 (subst (FirstIsSound w) r.2 k))
  by_record false i = other_sound w x p y i
