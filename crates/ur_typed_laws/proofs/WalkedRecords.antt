-- Records: the walk gives what the rules say.
use Rattle.std.proofs.Common.{◌≡◌, ◌∙◌, refl, sym, ap, subst, true, Option, Some, List, [], ◌∷◌}
use Rattle.std.specs.Prelude.{option_map, option_and_then}
use mathlib.Core.Former.{Count}
use Rattle.ur_base.specs.Shape.{Shape, count}
use Rattle.ur_base.specs.declared.refusal.Span.{Span}
use Rattle.ur_syntax.specs.declared.con.FieldName.{FieldName}
use Rattle.ur_syntax.specs.declared.exp.ExpForm.{ExpForm, Row_of-Field, end_of-Field, more_of-Field}
use Rattle.ur_syntax.specs.declared.exp.ExpForm.TheVariants as e
use Rattle.ur_rows.specs.declared.normal.Label.{Label}
use Rattle.ur_rows.specs.declared.normal.NormalType.{NormalType}
use Rattle.ur_rows.specs.declared.normal.Part.{Part}
use Rattle.ur_rows.specs.Apart.{AreApart}
use Rattle.ur_rows.specs.Kinded.{label_is_in}
use Rattle.ur_rows.specs.Made.{record_of}
use Rattle.ur_rows.specs.Order.{with_part}
use Rattle.ur_rows.specs.Types.{field, field_type}
use Rattle.ur_rows.proofs.Order.{parts-row}
use Rattle.ur_tree.specs.declared.exp.Exp.{Exp}
use Rattle.ur_tree.specs.declared.exp.Exp.TheVariants as exp
use Rattle.ur_tree.specs.declared.exp.Exp.TheBlock.{Row_of-FieldExp, end_of-FieldExp, more_of-FieldExp}
use Rattle.ur_tree.specs.Env.{Env, variables}
use Rattle.ur_tree.specs.Occurrences.{occurrences, field_occurrences}
use Rattle.ur_tree.specs.Typing.{Accepts, FindFields, WantFields}
use Rattle.ur_typed_rules.specs.Names.{Names, WritesLabel}
use Rattle.ur_typed_rules.specs.Scopes.{World, Scope, Mode, finds, wants, of_field, if_typed}
use Rattle.ur_typed_rules.specs.Tests.{are_apart}
use Rattle.ur_typed_rules.proofs.Rows.{one_row}
use Rattle.ur_typed.specs.Resolves.{Statements}
use Rattle.ur_typed.specs.Rules.{Sites, ResolvedFields, Fields, with_field}
use Rattle.ur_typed.specs.Walking.{walk, typed, fields_walk}
use Rattle.ur_typed_rules.specs.Rules.{if_so, label_at}
use Rattle.ur_typed_rules.proofs.Options.{then_some}
use Rattle.ur_typed_laws.specs.Judged.{Fills, Numbered, stated, Judged}
use Rattle.ur_typed_laws.proofs.Numbers.{numbered_none, numbered_both}
use Rattle.ur_disjoint.proofs.Members.{In}
use Rattle.ur_typed_laws.specs.Walked.{scope_at, out_of, Starts, IsWalked, Walks}
use Rattle.ur_typed_laws.proofs.Walked.{so_true, typed_by, same_self, starts_left, starts_right}
use Rattle.ur_typed_laws.proofs.Distinct.{field_found, own_in, further_in}

-- the resolved fields with their shape
abbrev pub shaped_fields : {n : _} → Row_of-FieldExp n → ResolvedFields
shaped_fields end_of-FieldExp = ([], end_of-FieldExp)
shaped_fields (more_of-FieldExp l b rest) = (tt ∷ (shaped_fields rest).0, more_of-FieldExp l b (shaped_fields rest).1)

pub fields_shaped : (q : Shape) (out : Row_of-FieldExp (count q)) → ◌≡◌ {A = ResolvedFields} (shaped_fields out) (q, out)
fields_shaped [] end_of-FieldExp = refl
fields_shaped (tt ∷ q) (more_of-FieldExp l b rest) = ap (λ z. (tt ∷ z.0, more_of-FieldExp l b z.1)) (fields_shaped q rest)

-- each field's expression gives what the rules say
pub data FieldsWalk (w : World) (d : Statements) (names : Names) : (n : Count) → Row_of-Field n → (m : Count) → Row_of-FieldExp m → Type 0 where
  no_field : FieldsWalk w d names _ end_of-Field _ end_of-FieldExp
  one_field : {p : Span} {f : FieldName} {l : Label} {x : ExpForm} {b : Exp} {n m : Count} {rest : Row_of-Field n} {out : Row_of-FieldExp m} → WritesLabel names.cons f l → Walks w d names x b → FieldsWalk w d names _ rest _ out →
      FieldsWalk w d names _ (more_of-Field f p x rest) _ (more_of-FieldExp l b out)

record FieldsAreWalked (w : World) (d : Statements) (n : Count) (fs : Row_of-Field n) (s : Scope) (m : Mode) (st : Sites) (k : Count) (out : Row_of-FieldExp k) (r : List Part) : Type 0 where
  sites : Sites
  walked : fields_walk w fs s st m ≡ Some (record { row = r; exps = shaped_fields out; sites = sites })
  fills : Fills w d sites
  numbered : Numbered st (field_occurrences out) sites

abbrev one_field_out : World → {n : _} → Row_of-Field n → Scope → Sites → Mode → ExpForm → Label → Option Fields
one_field_out w rest s st m x l = if_so (label_is_in (variables s.env) l) (option_and_then (λ o. option_map (with_field l o) (fields_walk w rest s o.sites m)) (typed w x s st (of_field l m)))

-- one field before those that are walked
field_before : (w : World) (d : Statements) (s : Scope) (m : Mode) (st : Sites) (p : Span) (f : FieldName) (l : Label) (x : ExpForm) (b : Exp) (t : NormalType) (n : Count) (rest : Row_of-Field n) (k : Count) (out : Row_of-FieldExp k) (q : List Part) → l ≡ label_at s f → label_is_in (variables s.env) l ≡ true →
    (i : IsWalked w d x s st (of_field l m) b t) → FieldsAreWalked w d n rest s m i.sites k out q → FieldsAreWalked w d _ (more_of-Field f p x rest) s m st _ (more_of-FieldExp l b out) (with_part (field l t) q)
field_before w d s m st p f l x b t n rest k out q el il i r =
    let h : one_field_out w rest s st m x l ≡ Some (record { row = with_part (field l t) q; exps = shaped_fields (more_of-FieldExp l b out); sites = r.sites }) =
    so_true (label_is_in (variables s.env) l) _ il ∙ then_some _ _ (out_of t b i.sites) _ i.walked (ap (option_map (with_field l (out_of t b i.sites))) r.walked) in
    record { sites = r.sites; walked = ap (one_field_out w rest s st m x) (sym el) ∙ h; fills = r.fills; numbered = numbered_both i.numbered r.numbered }

fields_found : (w : World) (d : Statements) (names : Names) (env : Env) (n : Count) (fs : Row_of-Field n) (k : Count) (out : Row_of-FieldExp k) (r : List Part) → FieldsWalk w d names n fs k out → FindFields (stated d w).declared w.most env out r → (st : Sites) → Fills w d st → Starts st (field_occurrences out) →
    FieldsAreWalked w d n fs (scope_at names env) finds st k out r
fields_found w d names env _ _ _ _ r no_field h st g u = subst (λ z. FieldsAreWalked w d _ end_of-Field (scope_at names env) finds st _ end_of-FieldExp z) (sym h) (record { sites = st; walked = refl; fills = g; numbered = numbered_none st })
fields_found w d names env _ _ _ _ r (one_field {p = p} {f = f} {l = l} {x = x} {b = b} {n = n} {m = k} {rest = rest} {out = out} c kx kr) h st g u =
    let s : Scope = scope_at names env in
    let i : IsWalked w d x s st finds b h.0 = kx env finds h.0 (h.4, h.5) st g (starts_left (occurrences b) (field_occurrences out) u) in
    let v : FieldsAreWalked w d n rest s finds i.sites k out h.1 = fields_found w d names env n rest k out h.1 kr h.6 i.sites i.fills (starts_right (occurrences b) (field_occurrences out) u i.numbered) in
    subst (λ z. FieldsAreWalked w d _ (more_of-Field f p x rest) s finds st _ (more_of-FieldExp l b out) z) (sym h.2) (field_before w d s finds st p f l x b h.0 n rest k out h.1 c h.3 i v)

-- a type is wanted of each field that stands in the row
abbrev EachIsWanted : NormalType → List Part → Type 0
EachIsWanted u r = (l : Label) (t : NormalType) → In (field l t) r → of_field l (wants u) ≡ wants t

fields_wanted : (w : World) (d : Statements) (names : Names) (env : Env) (u : NormalType) (n : Count) (fs : Row_of-Field n) (k : Count) (out : Row_of-FieldExp k) (r : List Part) → FieldsWalk w d names n fs k out → WantFields (stated d w).declared w.most env out r → EachIsWanted u r → (st : Sites) → Fills w d st →
    Starts st (field_occurrences out) → FieldsAreWalked w d n fs (scope_at names env) (wants u) st k out r
fields_wanted w d names env u _ _ _ _ r no_field h each st g z = subst (λ q. FieldsAreWalked w d _ end_of-Field (scope_at names env) (wants u) st _ end_of-FieldExp q) (sym h) (record { sites = st; walked = refl; fills = g; numbered = numbered_none st })
fields_wanted w d names env u _ _ _ _ r (one_field {p = p} {f = f} {l = l} {x = x} {b = b} {n = n} {m = k} {rest = rest} {out = out} c kx kr) h each st g z =
    let s : Scope = scope_at names env in
    let each' : EachIsWanted u (with_part (field l h.0) h.1) = subst (EachIsWanted u) h.2 each in
    let e : of_field l (wants u) ≡ wants h.0 = each' l h.0 (own_in (field l h.0) h.1) in
    let j : Judged (stated d w) s (of_field l (wants u)) b h.0 = subst (λ q. Judged (stated d w) s q b h.0) (sym e) (refl, h.4, h.5) in
    let i : IsWalked w d x s st (of_field l (wants u)) b h.0 = kx env (of_field l (wants u)) h.0 j st g (starts_left (occurrences b) (field_occurrences out) z) in
    let v : FieldsAreWalked w d n rest s (wants u) i.sites k out h.1 =
    fields_wanted w d names env u n rest k out h.1 kr h.6 (λ l' t' q. each' l' t' (further_in (field l h.0) h.1 (field l' t') q)) i.sites i.fills (starts_right (occurrences b) (field_occurrences out) z i.numbered) in
    subst (λ q. FieldsAreWalked w d _ (more_of-Field f p x rest) s (wants u) st _ (more_of-FieldExp l b out) q) (sym h.2) (field_before w d s (wants u) st p f l x b h.0 n rest k out h.1 c h.3 i v)

-- ---- the whole

record_made : (w : World) (s : Scope) (m : Mode) (st su : Sites) (n : Shape) (fs : Row_of-Field (count n)) (q : Shape) (out : Row_of-FieldExp (count q)) (r : List Part) → fields_walk w fs s st m ≡ Some (record { row = r; exps = shaped_fields out; sites = su }) → are_apart s.env.known r ≡ true →
    walk w (e.Record' n fs) s st m ≡ Some (out_of (record_of r) (exp.Record' q out) su)
record_made w s m st su n fs q out r h a =
    let fields : Fields = record { row = r; exps = shaped_fields out; sites = su } in
    then_some _ _ fields _ h (so_true (are_apart s.env.known r) _ a ∙ ap (λ (z : ResolvedFields). Some (out_of (record_of r) (exp.Record' z.0 z.1) su)) (fields_shaped q out))

wanted_each : (s : Scope) (r : List Part) → AreApart s.env.known r → EachIsWanted (record_of r) r
wanted_each s r a l t i = ap (λ z. if_typed (field_type l z)) (parts-row r) ∙ ap if_typed (field_found s.env.known l t r a i)

pub record_walked : (w : World) (d : Statements) (names : Names) (n : Shape) (fs : Row_of-Field (count n)) (q : Shape) (out : Row_of-FieldExp (count q)) → FieldsWalk w d names _ fs _ out → Walks w d names (e.Record' n fs) (exp.Record' q out)
record_walked w d names n fs q out k env finds t j st g u =
    let s : Scope = scope_at names env in
    let r : List Part = j.0.0 in
    let i : FieldsAreWalked w d _ fs s finds st _ out r = fields_found w d names env _ fs _ out r k j.0.2 st g u in
    let h : walk w (e.Record' n fs) s st finds ≡ Some (out_of t (exp.Record' q out) i.sites) =
    record_made w s finds st i.sites n fs q out r i.walked ((one_row env.known r).1 j.0.3) ∙ ap (λ z. Some (out_of z (exp.Record' q out) i.sites)) (sym j.0.1) in
    record { sites = i.sites; walked = typed_by w (e.Record' n fs) s st finds (out_of t (exp.Record' q out) i.sites) h j.1 refl; fills = i.fills; numbered = i.numbered }
record_walked w d names n fs q out k env (wants v) t j st g u =
    let s : Scope = scope_at names env in
    let r : List Part = j.1.0 in
    let each : EachIsWanted v r = subst (λ z. EachIsWanted z r) (sym j.1.1) (wanted_each s r j.1.3) in
    let i : FieldsAreWalked w d _ fs s (wants v) st _ out r = fields_wanted w d names env v _ fs _ out r k j.1.2 each st g u in
    let h : walk w (e.Record' n fs) s st (wants v) ≡ Some (out_of t (exp.Record' q out) i.sites) =
    record_made w s (wants v) st i.sites n fs q out r i.walked ((one_row env.known r).1 j.1.3) ∙ ap (λ z. Some (out_of z (exp.Record' q out) i.sites)) (sym (j.0 ∙ j.1.1)) in
    record { sites = i.sites; walked = typed_by w (e.Record' n fs) s st (wants v) (out_of t (exp.Record' q out) i.sites) h (subst (λ z. Accepts w.most (exp.Record' q out) z) (sym j.0) j.2) (same_self t v j.0); fills = i.fills; numbered = i.numbered }
