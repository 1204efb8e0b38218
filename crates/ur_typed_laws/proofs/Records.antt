-- Records: what is typed resolves and has its type by the rules.
use Rattle.std.proofs.lemmas.Bool.Decides.{nat_tests}
use Rattle.std.proofs.lemmas.Slice.Eq.{bytes_eq-Decides}
use Rattle.std.proofs.Common.{arith, ◌≡◌, ◌∙◌, refl, sym, ap, subst, Bool, true, false, if◌then◌else◌, Option, Some, List, [], ◌∷◌, ℕ}
use Rattle.std.specs.Prelude.{option_map, option_and_then, ◌==◌}
use mathlib.Core.Former.{Count}
use Rattle.ur_base.specs.Shape.{Shape, count}
use Rattle.ur_syntax.specs.declared.exp.ExpForm.{ExpForm, Row_of-Field, end_of-Field, more_of-Field}
use Rattle.ur_syntax.specs.declared.exp.ExpForm.TheVariants as e
use Rattle.ur_rows.specs.declared.normal.Var.{Var}
use Rattle.ur_rows.specs.declared.normal.Var.TheVariants as var
use Rattle.ur_rows.specs.declared.normal.Label.{Label}
use Rattle.ur_rows.specs.declared.normal.Label.TheVariants as label
use Rattle.ur_rows.specs.declared.normal.NormalType.{NormalType, end_of-NormalType as sole, more_of-NormalType as the}
use Rattle.ur_rows.specs.declared.normal.Part.{Part}
use Rattle.ur_rows.specs.declared.normal.Part.TheVariants as part
use Rattle.ur_rows.specs.Kinded.{label_is_in}
use Rattle.ur_rows.specs.Made.{record_of}
use Rattle.ur_rows.specs.Order.{stands_before, with_part}
use Rattle.ur_rows.specs.Types.{field, field_type, same_label, same_var}
use Rattle.ur_rows.proofs.Order.{parts-row}
use Rattle.ur_tree.specs.declared.exp.Exp.TheVariants as exp
use Rattle.ur_tree.specs.Env.{variables}
use Rattle.ur_tree.specs.Occurrences.{field_occurrences}
use Rattle.ur_tree.specs.Typing.{Checks, Accepts, FindFields, WantFields}
use Rattle.ur_typed_rules.specs.Scopes.{World, Scope, Mode, finds, wants, of_field, if_typed}
use Rattle.ur_typed_rules.specs.Tests.{are_apart}
use Rattle.ur_typed_rules.proofs.Rows.{one_row}
use Rattle.ur_typed.specs.Resolves.{Statements, ResolvesFields, fields_none, fields_one}
use Rattle.ur_typed.specs.Resolves as resolves
use Rattle.ur_typed.specs.Rules.{Sites, Out, gives, Fields, no_fields, with_field}
use Rattle.ur_typed.specs.Walking.{typed, fields_walk}
use Rattle.ur_typed_laws.specs.Judged.{AreTold, Judged, Fills, stated, Numbered, IsSound, Sound}
use Rattle.ur_typed_laws.proofs.Sound.{IsSettled, settled_by, sound_at}
use Rattle.ur_typed_laws.proofs.Numbers.{numbered_none, numbered_both}
use Rattle.ur_typed_rules.specs.Rules.{if_so, label_at}
use Rattle.ur_typed_rules.proofs.Options.{some_of, opened, opened_if, mapped}

-- ---- the fields of a row

abbrev has : Option NormalType → Type 0
has o = (t : NormalType) × (o ≡ Some t)

abbrev HasField : Label → List Part → Type 0
HasField l r = has (field_type l r)

number_self : (n : ℕ) → (n == n) ≡ true
number_self n = grind (arith, nat_tests)

var_self : (v : Var) → same_var v v ≡ true
var_self (var.Free n) = number_self n
var_self (var.Bound n) = number_self n

label_self : (l : Label) → same_label l l ≡ true
label_self (label.Literal a) = (bytes_eq-Decides a a).1 refl
label_self (label.Variable v) = var_self v

pick : (b : Bool) (u : NormalType) (o : Option NormalType) → has o → has (if b then Some u else o)
pick true u o h = (u, refl)
pick false u o h = h

keep : (b : Bool) (u : NormalType) (o q : Option NormalType) → has (if b then Some u else o) → (has o → has q) → has (if b then Some u else q)
keep true u o q h k = (u, refl)
keep false u o q h k = k h

choose : (b : Bool) (x y : List Part) (P : List Part → Type 0) → P x → P y → P (if b then x else y)
choose true x y P h k = h
choose false x y P h k = k

has_behind : (l : Label) (q : Part) (r : List Part) → HasField l r → HasField l (q ∷ r)
has_behind l (part.Field' m _ (the u sole)) r h = pick (same_label l m) u (field_type l r) h
has_behind l (part.Piece v) r h = h
has_behind l (part.Mapped' v _ f) r h = h

has_at : (l : Label) (q : Part) (r s : List Part) → HasField l (q ∷ r) → (HasField l r → HasField l s) → HasField l (q ∷ s)
has_at l (part.Field' m _ (the u sole)) r s h k = keep (same_label l m) u (field_type l r) (field_type l s) h k
has_at l (part.Piece v) r s h k = k h
has_at l (part.Mapped' v _ f) r s h k = k h

has_first : (l : Label) (t : NormalType) (r : List Part) → HasField l (field l t ∷ r)
has_first l t r = (t, ap (λ b. if b then Some t else field_type l r) (label_self l))

has_own : (l : Label) (t : NormalType) (r : List Part) → HasField l (with_part (field l t) r)
has_own l t [] = has_first l t []
has_own l t (q ∷ r) = choose (stands_before (field l t) q) (field l t ∷ q ∷ r) (q ∷ with_part (field l t) r) (HasField l) (has_first l t (q ∷ r)) (has_behind l q (with_part (field l t) r) (has_own l t r))

has_further : (l : Label) (p : Part) (r : List Part) → HasField l r → HasField l (with_part p r)
has_further l p [] h = has_behind l p [] h
has_further l p (q ∷ r) h = choose (stands_before p q) (p ∷ q ∷ r) (q ∷ with_part p r) (HasField l) (has_behind l p (q ∷ r) h) (has_at l q r (with_part p r) h (has_further l p r))

-- ---- the fields of a record

-- a type is wanted of each field of the row
abbrev pub WantsEach : NormalType → List Part → Type 0
WantsEach t r = (l : Label) → HasField l r → (u : NormalType) × (of_field l (wants t) ≡ wants u)

abbrev pub FieldsJudged : World → Scope → Mode → Fields → Type 0
FieldsJudged w s finds r = FindFields w.declared w.most s.env r.exps.1 r.row
FieldsJudged w s (wants t) r = WantsEach t r.row → WantFields w.declared w.most s.env r.exps.1 r.row

pub record FieldsAreSound (w : World) (n : Count) (fs : Row_of-Field n) (s : Scope) (st : Sites) (m : Mode) (d : Statements) (r : Fields) : Type 0 where
  pub before : Fills w d st
  pub resolves : ResolvesFields d w.most w.globals (stated d w).declared s.names _ fs _ r.exps.1
  pub judged : FieldsJudged (stated d w) s m r
  pub numbered : Numbered st (field_occurrences r.exps.1) r.sites

-- each field has a sound expression
abbrev pub AreSoundFields : World → {n : _} → Row_of-Field n → Type 0
AreSoundFields w end_of-Field = Unit {0}
AreSoundFields w (more_of-Field f p x rest) = Sound w x × AreSoundFields w rest

field_judged : (w : World) (s : Scope) (m : Mode) (l : Label) (o : Out) (z : Fields) → label_is_in (variables s.env) l ≡ true → Judged w s (of_field l m) o.exp o.of → FieldsJudged w s m z → FieldsJudged w s m (with_field l o z)
field_judged w s finds l o z i j k = (o.of, z.row, refl, i, j.0, j.1, k)
field_judged w s (wants t) l o z i j k = λ each.
    let c : (u : NormalType) × (of_field l (wants t) ≡ wants u) = each l (has_own l o.of z.row) in
    let v : Judged w s (wants c.0) o.exp o.of = subst (λ n. Judged w s n o.exp o.of) c.1 j in
    (o.of, z.row, refl, i, subst (λ u. Checks w.declared w.most s.env o.exp u) (sym v.0) v.1, subst (λ u. Accepts w.most o.exp u) (sym v.0) v.2, k (λ n h. each n (has_further n (field l o.of) z.row h)))

fields_sound : (w : World) (n : Count) (fs : Row_of-Field n) → AreSoundFields w fs → (s : Scope) (st : Sites) (m : Mode) (r : Fields) → fields_walk w fs s st m ≡ Some r → (d : Statements) → Fills w d r.sites → FieldsAreSound w n fs s st m d r
fields_sound w _ end_of-Field k s st m r h d g =
    let i : no_fields st ≡ r = some_of h in
    subst (λ v. FieldsAreSound w _ end_of-Field s st m d v) i (record { before = subst (λ v. Fills w d v.sites) (sym i) g; resolves = fields_none; judged = none_judged (stated d w) s m st; numbered = numbered_none st }) where
      none_judged : (w : World) (s : Scope) (m : Mode) (st : Sites) → FieldsJudged w s m (no_fields st)
      none_judged w s finds st = refl
      none_judged w s (wants t) st = λ each. refl
fields_sound w _ (more_of-Field {n = n} f p x rest) k s st m r h d g =
    let l : Label = label_at s f in
    let c : (label_is_in (variables s.env) l ≡ true) × (option_and_then (λ o. option_map (with_field l o) (fields_walk w rest s o.sites m)) (typed w x s st (of_field l m)) ≡ Some r) = opened_if (label_is_in (variables s.env) l) _ r h in
    let v : (o : Out) × (typed w x s st (of_field l m) ≡ Some o) × (option_map (with_field l o) (fields_walk w rest s o.sites m) ≡ Some r) = opened _ _ r c.1 in
    let y : (z : Fields) × (fields_walk w rest s v.0.sites m ≡ Some z) × (with_field l v.0 z ≡ r) = mapped _ _ r v.2 in
    let ir : FieldsAreSound w n rest s v.0.sites m d y.0 = fields_sound w n rest k.1 s v.0.sites m y.0 y.1 d (subst (λ z. Fills w d z.sites) (sym y.2) g) in
    let ix : IsSound w x s st (of_field l m) d v.0 = k.0 s st (of_field l m) v.0 v.1 d ir.before in
    subst (λ z. FieldsAreSound w _ (more_of-Field f p x rest) s st m d z) y.2 (record {
      before = ix.before;
      numbered = numbered_both ix.numbered ir.numbered;
      resolves = fields_one refl ix.resolves ir.resolves;
      judged = field_judged (stated d w) s m l v.0 y.0 c.0 ix.judged ir.judged;
    })

-- ---- the whole

abbrev recorded_of : Scope → Fields → Option Out
recorded_of s r = if_so (are_apart s.env.known r.row) (gives (record_of r.row) (exp.Record' r.exps.0 r.exps.1) r.sites)

each_wanted : (r : List Part) (t : NormalType) → record_of r ≡ t → WantsEach t r
each_wanted r t q l h = subst (λ v. (u : NormalType) × (of_field l (wants v) ≡ wants u)) q (h.0, ap if_typed (ap (field_type l) (parts-row r) ∙ h.1))

pub record_sound : AreTold → (w : World) (n : Shape) (fs : Row_of-Field (count n)) → AreSoundFields w fs → Sound w (e.Record' n fs)
record_sound told w n fs k s st finds o h d g =
    let f : ExpForm = e.Record' n fs in
    let a : IsSettled w f s st finds o = settled_by w f s st finds o h in
    let c : (r : Fields) × (fields_walk w fs s st finds ≡ Some r) × (recorded_of s r ≡ Some o) = opened _ _ o a.walked in
    let q : (are_apart s.env.known c.0.row ≡ true) × (gives (record_of c.0.row) (exp.Record' c.0.exps.0 c.0.exps.1) c.0.sites ≡ Some o) = opened_if (are_apart s.env.known c.0.row) (gives (record_of c.0.row) (exp.Record' c.0.exps.0 c.0.exps.1) c.0.sites) o c.2 in
    let b : Out = record { of = record_of c.0.row; exp = exp.Record' c.0.exps.0 c.0.exps.1; sites = c.0.sites } in
    sound_at w f s st finds d b o a q.1 g (λ acc fit g'.
    let i : FieldsAreSound w _ fs s st finds d c.0 = fields_sound w _ fs k s st finds c.0 c.1 d g' in
    record { before = i.before; numbered = i.numbered; resolves = resolves.record_literal i.resolves; judged = ((c.0.row, refl, i.judged, (one_row s.env.known c.0.row).0 q.0), acc) })
record_sound told w n fs k s st (wants t) o h d g =
    let f : ExpForm = e.Record' n fs in
    let a : IsSettled w f s st (wants t) o = settled_by w f s st (wants t) o h in
    let c : (r : Fields) × (fields_walk w fs s st (wants t) ≡ Some r) × (recorded_of s r ≡ Some o) = opened _ _ o a.walked in
    let q : (are_apart s.env.known c.0.row ≡ true) × (gives (record_of c.0.row) (exp.Record' c.0.exps.0 c.0.exps.1) c.0.sites ≡ Some o) = opened_if (are_apart s.env.known c.0.row) (gives (record_of c.0.row) (exp.Record' c.0.exps.0 c.0.exps.1) c.0.sites) o c.2 in
    let b : Out = record { of = record_of c.0.row; exp = exp.Record' c.0.exps.0 c.0.exps.1; sites = c.0.sites } in
    sound_at w f s st (wants t) d b o a q.1 g (λ acc fit g'.
    let r : record_of c.0.row ≡ t = told (record_of c.0.row) t fit in
    let i : FieldsAreSound w _ fs s st (wants t) d c.0 = fields_sound w _ fs k s st (wants t) c.0 c.1 d g' in
    record {
      before = i.before;
      numbered = i.numbered;
      resolves = resolves.record_literal i.resolves;
      judged = (r, (c.0.row, sym r, i.judged (each_wanted c.0.row t r), (one_row s.env.known c.0.row).0 q.0), subst (λ v. Accepts w.most b.exp v) r acc);
    })
