-- The parts of bodies and forms, and what holds them.
use Rattle.std.proofs.Common.{◌≡◌, Bool, true, false, if◌then◌else◌, List, [], ◌∷◌, ◌++◌, Option, Some, None, Result, refl, sym, ap, ◌∙◌, subst}
use Rattle.std.specs.Prelude.{All, map}
use Rattle.ur_values.specs.declared.types.ValueType.{ValueType, out-ValueType, roll-ValueType, roll-out-ValueType}
use Rattle.ur_values.specs.declared.types.ValueType.TheVariants as ty
use Rattle.ur_values.specs.declared.types.ValueType.TheOpen as open_type
use Rattle.ur_values.specs.declared.types.TypeField.{TypeField}
use Rattle.ur_terms.specs.Values.{fields_together}
use Rattle.ur_terms.specs.Types.{typed_field, form_type, IsPlainXml, xml_page, xml_body, xml_table, xml_row, IsFlow, flow_body, flow_form, AreApart, MakeUp, alike, no_part, more_parts, Holds, holds_bodies, holds_fields}
use Rattle.ur_verify_operations.specs.declared.misfit.Untyped.{Untyped}
use Rattle.ur_verify_operations.specs.Answering.{Answers}
use Rattle.ur_verify_operations.specs.Fields.{OpenType, add_open, are_apart, types_together, add_part, add_part_to, flow_before}
use Rattle.ur_verify_operations.proofs.FieldTypes.{Pairs, pairs, form_is, together_is, unpaired, repaired, apart_from, apart_to}
use Rattle.ur_verify_operations.proofs.Replies.{answers_by}
use Rattle.ur_verify_operations.proofs.SameTypes.{form_same}

none_some : {A : Type 0} {x : A} {B : Type 0} → None ≡ Some x → B
none_some e = absurd (apart e)
  where
    apart : {A : Type 0} {x : A} → None ≡ Some x → ⊥
    apart e = cc

some_same : {A : Type 0} {x y : A} → Some x ≡ Some y → x ≡ y
some_same e = cc

-- ---- one part

rolled : (t : ValueType) (o : OpenType) → out-ValueType t ≡ o → t ≡ roll-ValueType o
rolled t o e = sym (roll-out-ValueType t) ∙ ap roll-ValueType e

pub add_body : (gs : List TypeField) → add_part ty.Xbody gs ≡ Some gs
add_body gs = ap (λ o. add_open o gs) ty.outs-Xbody

pub add_form : (fs gs : List TypeField) → are_apart fs gs ≡ true → add_part (ty.Form fs) gs ≡ Some (types_together fs gs)
add_form fs gs e = ap (λ o. add_open o gs) (ty.outs-Form fs) ∙ ap (λ b. if b then Some (types_together fs gs) else None) e

pub add_apart : (fs gs : List TypeField) → are_apart fs gs ≡ false → add_part (ty.Form fs) gs ≡ None
add_apart fs gs e = ap (λ o. add_open o gs) (ty.outs-Form fs) ∙ ap (λ b. if b then Some (types_together fs gs) else None) e

-- ---- all parts

-- a part more at the end
pub flow_end : (ts : List ValueType) (t : ValueType) (gs hs : List TypeField) → add_part t gs ≡ Some hs → flow_before (ts ++ t ∷ []) gs ≡ flow_before ts hs
flow_end [] t gs hs e = e
flow_end (x ∷ ts) t gs hs e = ap (add_part_to x) (flow_end ts t gs hs e)

none_before : (ts : List ValueType) (t : ValueType) (gs : List TypeField) → add_part t gs ≡ None → flow_before (ts ++ t ∷ []) gs ≡ None
none_before [] t gs e = e
none_before (x ∷ ts) t gs e = ap (add_part_to x) (none_before ts t gs e)

-- where all parts fit, the last one does
pub last_fits : (ts : List ValueType) (t : ValueType) (gs ks : List TypeField) → flow_before (ts ++ t ∷ []) gs ≡ Some ks → (hs : List TypeField) × (add_part t gs ≡ Some hs)
last_fits ts t gs ks e = go (add_part t gs) refl
  where
    go : (o : Option (List TypeField)) → add_part t gs ≡ o → (hs : List TypeField) × (add_part t gs ≡ Some hs)
    go None n = none_some (sym (none_before ts t gs n) ∙ e)
    go (Some hs) s = (hs, s)

-- ---- parts that make up a form

abbrev typed : Pairs → List TypeField
typed = map typed_field

together_back : (fs gs : Pairs) → types_together (typed fs) (typed gs) ≡ typed (fields_together fs gs)
together_back fs gs =
    sym (unpaired (types_together (typed fs) (typed gs))) ∙ ap typed (together_is (typed fs) (typed gs))
    ∙ ap typed (ap (λ hs. fields_together hs (pairs (typed gs))) (repaired fs) ∙ ap (λ hs. fields_together fs hs) (repaired gs))

apart_back : (fs gs : Pairs) → AreApart fs gs → are_apart (typed fs) (typed gs) ≡ true
apart_back fs gs h =
    apart_to (typed fs) (typed gs) (subst (λ hs. AreApart hs (pairs (typed gs))) (sym (repaired fs)) (subst (λ hs. AreApart fs hs) (sym (repaired gs)) h))

part_added : (t : ValueType) (fs gs : Pairs) → IsFlow t fs → AreApart fs gs → add_part t (typed gs) ≡ Some (typed (fields_together fs gs))
part_added _ _ gs flow_body h = add_body (typed gs)
part_added _ _ gs (flow_form fs) h = add_form (typed fs) (typed gs) (apart_back fs gs h) ∙ ap (λ hs. Some hs) (together_back fs gs)

plain_form : {A : Type 0} {r : ValueType} (ks : List TypeField) → IsPlainXml r → r ≡ ty.Form ks → A
plain_form ks xml_page e = absurd (cc)
plain_form ks xml_body e = absurd (cc)
plain_form ks xml_table e = absurd (cc)
plain_form ks xml_row e = absurd (cc)

pub flow_from : (ts : List ValueType) (r : ValueType) → MakeUp ts r → (ks : List TypeField) → r ≡ ty.Form ks → flow_before ts [] ≡ Some ks
flow_from ts r (alike _ _ plain all) ks e = plain_form ks plain e
flow_from _ _ no_part ks e = ap (λ hs. Some hs) (form_same [] ks e)
flow_from _ _ (more_parts part ts fs gs flow rest apart) ks e =
    ap (add_part_to part) (flow_from ts (form_type gs) rest (typed gs) refl) ∙ part_added part fs gs flow apart
    ∙ ap (λ hs. Some hs) (form_same (typed (fields_together fs gs)) ks e)

-- the form whose fields these are, as it makes up
step_up : (part : ValueType) (ts : List ValueType) (fs gs : List TypeField) → IsFlow part (pairs fs) → MakeUp ts (ty.Form gs) → are_apart fs gs ≡ true
    → MakeUp (part ∷ ts) (ty.Form (types_together fs gs))
step_up part ts fs gs flow rest e =
    subst (λ r. MakeUp (part ∷ ts) r) (sym (form_is (types_together fs gs) ∙ ap form_type (together_is fs gs)))
    (more_parts part ts (pairs fs) (pairs gs) flow (subst (λ r. MakeUp ts r) (form_is gs) rest) (apart_from fs gs e))

part_up : (t : ValueType) (ts : List ValueType) (gs ks : List TypeField) → MakeUp ts (ty.Form gs) → add_part t gs ≡ Some ks → MakeUp (t ∷ ts) (ty.Form ks)
part_up t ts gs ks rest h = go (out-ValueType t) refl h
  where
    form : (fs : List TypeField) (b : Bool) → are_apart fs gs ≡ b → t ≡ ty.Form fs → (if b then Some (types_together fs gs) else None) ≡ Some ks → MakeUp (t ∷ ts) (ty.Form ks)
    form fs true e is h =
        subst (λ hs. MakeUp (t ∷ ts) (ty.Form hs)) (some_same h) (step_up t ts fs gs (subst (λ z. IsFlow z (pairs fs)) (sym (is ∙ form_is fs)) (flow_form (pairs fs))) rest e)
    form fs false e is h = none_some h

    go : (o : OpenType) → out-ValueType t ≡ o → add_open o gs ≡ Some ks → MakeUp (t ∷ ts) (ty.Form ks)
    go open_type.Xbody e h =
        subst (λ hs. MakeUp (t ∷ ts) (ty.Form hs)) (some_same h) (step_up t ts [] gs (subst (λ z. IsFlow z []) (sym (rolled t _ e ∙ ty.rolls-Xbody)) flow_body) rest refl)
    go (open_type.Form fs) e h = form fs (are_apart fs gs) refl (rolled t _ e ∙ ty.rolls-Form fs) h
    go open_type.Int e h = none_some h
    go open_type.Str e h = none_some h
    go open_type.Bool e h = none_some h
    go (open_type.Record fs) e h = none_some h
    go (open_type.Opt a) e h = none_some h
    go (open_type.Many a) e h = none_some h
    go (open_type.Datatype d) e h = none_some h
    go open_type.Page e h = none_some h
    go open_type.Xtable e h = none_some h
    go open_type.Xtr e h = none_some h

some_before : (t : ValueType) (o : Option (List TypeField)) (ks : List TypeField) → add_part_to t o ≡ Some ks → (gs : List TypeField) × (o ≡ Some gs) × (add_part t gs ≡ Some ks)
some_before t None ks e = none_some e
some_before t (Some gs) ks e = (gs, refl, e)

pub flow_to : (ts : List ValueType) (ks : List TypeField) → flow_before ts [] ≡ Some ks → MakeUp ts (ty.Form ks)
flow_to [] ks e = subst (λ hs. MakeUp [] (ty.Form hs)) (some_same e) no_part
flow_to (t ∷ ts) ks e =
    let s = some_before t (flow_before ts []) ks e in
    part_up t ts s.0 ks (flow_to ts s.0 s.1) s.2

-- ---- what holds parts

pub holds_form : (ts : List ValueType) (fs : List TypeField) → (All (λ t. t ≡ ty.Xbody) ts → ⊥) → MakeUp ts (ty.Form fs) → Holds ts (ty.Form fs)
holds_form ts fs some h = subst (λ r. Holds ts r) (sym (form_is fs)) (holds_fields (pairs fs) some (subst (λ r. MakeUp ts r) (form_is fs) h))

-- parts that are not all bodies are held by a form
pub form_held : (ts : List ValueType) (r : ValueType) → (All (λ t. t ≡ ty.Xbody) ts → ⊥) → Holds ts r → (fs : List TypeField) × (r ≡ ty.Form fs) × MakeUp ts r
form_held ts _ some (holds_bodies all) = absurd (some all)
form_held ts _ some (holds_fields fs _ h) = (typed fs, refl, h)

-- ---- XML of a type

pub plain_from : (ts : List ValueType) (r b : ValueType) → r ≡ b → IsPlainXml b → All (λ t. t ≡ r) ts → MakeUp ts r
plain_from ts r b e plain all = alike ts r (subst IsPlainXml (sym e) plain) all

pub plain_to : (ts : List ValueType) (r b : ValueType) → r ≡ b → IsPlainXml b → MakeUp ts r → All (λ t. t ≡ r) ts
plain_to ts r b e plain m = go ts r (subst IsPlainXml (sym e) plain) m
  where
    go : (us : List ValueType) (s : ValueType) → IsPlainXml s → MakeUp us s → All (λ t. t ≡ s) us
    go us s q (alike _ _ _ all) = all
    go _ _ q no_part = plain_form [] q refl
    go _ _ q (more_parts part us fs gs flow rest apart) = plain_form (typed (fields_together fs gs)) q refl

-- parts make up one form
pub form_once : (ts : List ValueType) (a b : ValueType) (fs gs : List TypeField) → a ≡ ty.Form fs → b ≡ ty.Form gs → MakeUp ts a → MakeUp ts b → a ≡ b
form_once ts a b fs gs e f m n = e ∙ ap (λ hs. ty.Form hs) (some_same (sym (flow_from ts a m fs e) ∙ flow_from ts b n gs f)) ∙ sym f

-- ---- answers about parts

pub part_body : (t : ValueType) (gs : List TypeField) → t ≡ ty.Xbody → add_part t gs ≡ Some gs
part_body t gs e = ap (λ x. add_part x gs) e ∙ add_body gs

pub part_shared : (t : ValueType) (fs gs : List TypeField) → t ≡ ty.Form fs → are_apart fs gs ≡ false → (ks : List TypeField) × (add_part t gs ≡ Some ks) → ⊥
part_shared t fs gs e f h = none_some (sym (ap (λ x. add_part x gs) e ∙ add_apart fs gs f) ∙ h.1)

pub part_form : (t : ValueType) (fs gs ks : List TypeField) → t ≡ ty.Form fs → are_apart fs gs ≡ true → ks ≡ types_together fs gs → add_part t gs ≡ Some ks
part_form t fs gs ks e f is = ap (λ x. add_part x gs) e ∙ add_form fs gs f ∙ ap (λ hs. Some hs) (sym is)

-- ---- parts from the last one on

module _ (all ts : List ValueType) (gs : List TypeField) (known : flow_before ts gs ≡ flow_before all []) where
  pub flow_step : (rest : List ValueType) (part : ValueType) (hs : List TypeField) → ts ≡ rest ++ part ∷ [] → add_part part gs ≡ Some hs → flow_before rest hs ≡ flow_before all []
  flow_step rest part hs e h = sym (flow_end rest part gs hs h) ∙ ap (λ xs. flow_before xs gs) (sym e) ∙ known

  -- what is refused of the last part is refused of all
  pub flow_stop : (rest : List ValueType) (part : ValueType) → ts ≡ rest ++ part ∷ [] → (ks : List TypeField) × (flow_before all [] ≡ Some ks) → (hs : List TypeField) × (add_part part gs ≡ Some hs)
  flow_stop rest part e h = last_fits rest part gs h.0 (ap (λ xs. flow_before xs gs) (sym e) ∙ known ∙ h.1)

-- ---- answers about forms

abbrev pub IsForm : List ValueType → ValueType → Type 0
IsForm ts r = (fs : List TypeField) × (r ≡ ty.Form fs) × MakeUp ts r

pub form_made : (ts : List ValueType) (fs : List TypeField) → flow_before ts [] ≡ Some fs → IsForm ts (ty.Form fs)
form_made ts fs e = (fs, refl, flow_to ts fs e)

pub form_flow : (ts : List ValueType) → (r : ValueType) × IsForm ts r → (fs : List TypeField) × (flow_before ts [] ≡ Some fs)
form_flow ts (r, h) = (h.0, flow_from ts r h.2 h.0 h.1)

-- where the form that is made is another one
pub not_made : (ts : List ValueType) (made of : ValueType) (fs : List TypeField) → of ≡ ty.Form fs → IsForm ts made → (made ≡ of → ⊥) → MakeUp ts of → ⊥
not_made ts made of fs e (gs, is, m) other h = other (form_once ts made of gs fs is e m h)

pub held_by : (ts : List ValueType) (o : Result ValueType Untyped) → (All (λ t. t ≡ ty.Xbody) ts → ⊥) → Answers (IsForm ts) o → Answers (Holds ts) o
held_by ts o some h = answers_by o (λ r q. to r q) (λ r q. form_held ts r some q) h
  where
    to : (r : ValueType) → IsForm ts r → Holds ts r
    to r (fs, is, m) = subst (λ x. Holds ts x) (sym is) (holds_form ts fs some (subst (λ x. MakeUp ts x) is m))

pub bodies_held : (ts : List ValueType) → All (λ t. t ≡ ty.Xbody) ts → Holds ts ty.Xbody
bodies_held ts all = holds_bodies all
