-- The fields of a record, one by one.
use Rattle.std.proofs.Common.{◌≡◌, ◌∙◌, refl, ap, ap₂, sym, subst, ℕ, Bool, true, false, List, [], ◌∷◌, ◌++◌, Some, Err}
use Rattle.std.specs.Prelude.{codes, option_map, option_and_then}
use Rattle.std.proofs.lemmas.List.{append_assoc, append-nil}
use Rattle.ur_base.specs.Stopping.{IfRefused}
use Rattle.ur_base.specs.Shape.{Shape, count}
use Rattle.ur_base.specs.declared.refusal.Refusal.{Refusal}
use Rattle.ur_base.specs.declared.refusal.Stop.{Stop}
use Rattle.ur_base.specs.declared.refusal.Stop.TheVariants as stop
use Rattle.ur_syntax.specs.declared.con.FieldName.{FieldName}
use Rattle.ur_syntax.specs.declared.exp.Field.{Field}
use Rattle.ur_syntax.specs.declared.exp.ExpForm.{ExpForm, Row_of-Field}
use Rattle.ur_syntax.specs.declared.exp.ExpForm.TheVariants as e
use Rattle.ur_rows.specs.declared.normal.Label.{Label}
use Rattle.ur_rows.specs.declared.normal.Part.{Part as RowPart}
use Rattle.ur_rows.specs.Kinded.{label_is_in}
use Rattle.ur_rows.specs.Types.{field}
use Rattle.ur_tree.specs.declared.exp.FieldExp.{FieldExp}
use Rattle.ur_tree.specs.Env.{variables}
use Rattle.ur_typed_rules.specs.Scopes.{World, Scope, Mode, of_field}
use Rattle.ur_rows.proofs.Shapes.{field-made}
use Rattle.ur_typed_rules.specs.Faults.{Fault, unkinded, TellsType as TellsFault}
use Rattle.ur_typed_rules.specs.Repeats.{literal_names}
use Rattle.ur_typed_rules.specs.Rules.{if_so, label_at}
use Rattle.ur_typed.specs.Causes.{HasFault, Breaks, HasStrayLabel, this_label, later_label, bad_label}
use Rattle.ur_typed.specs.Parts.{InFields, this_field, later_field, in_record}
use Rattle.ur_typed.specs.Rules.{Sites, Out, record_out, then_, with_field}
use Rattle.ur_typed.specs.Walking.{typed, fields_walk}
use Rattle.ur_typed.specs.Walking as walking
use Rattle.ur_check_scopes.specs.declared.around.Around.{Around}
use Rattle.ur_check_scopes.specs.Views.{Stands, Refuses, StopIs}
use Rattle.ur_check_rules.specs.declared.out.Out.{Out as HeldOut}
use Rattle.ur_check_rules.specs.Written.{written_names}
use Rattle.ur_check_rules.specs.declared.out.Sites.{Sites as HeldSites}
use Rattle.ur_check_rules.specs.Views.{sites_in, out_in, out_with, fields_with}
use Rattle.ur_check_rules.proofs.Lacks.{field_row, record-made, names-written}
use Rattle.ur_check_walk.specs.declared.fields.Fields.{Fields as HeldFields}
use Rattle.ur_check_walk.specs.Promises.{Gives, GivesTyped, Tells}
use Rattle.ur_check_walk.specs.Records.{row_in, BreaksLabel, stray, FieldHasFault, bad_name, bad_value, TakesField, TellsField, GivesFields}
use Rattle.ur_check_walk.proofs.Steps.{part, rule, gives-as, tells-as, gives-mode, tells-mode}

-- What is found of the fields that are left is so of all, behind those so far.
pub record Leads (w : World) (s : Scope) (m : Mode) (whole : List Field) (before : Sites) (rest : List Field) (st : Sites) (parts : List RowPart) (values : List FieldExp) : Type 0 where
  pub found : (ps : List RowPart) (fs : List FieldExp) (after : Sites) → fields_walk w (field_row rest).1 s st m ≡ Some (fields_with ps fs after) → fields_walk w (field_row whole).1 s before m ≡ Some (fields_with (parts ++ ps) (values ++ fs) after)
  pub inside : (su : Sites) (y : ExpForm) (n : Mode) → InFields w s m _ (field_row rest).1 st su y n → InFields w s m _ (field_row whole).1 before su y n
  pub no_name : HasStrayLabel w s m _ (field_row rest).1 st → HasStrayLabel w s m _ (field_row whole).1 before

abbrev pub AllLead : Around → Mode → List Field → HeldSites → List Field → HeldSites → HeldFields → Type 0
AllLead a m whole before rest st held = (w : World) (s : Scope) → Stands a w s → Leads w s m whole (sites_in before) rest (sites_in st) held.parts held.values

leads-first : (w : World) (s : Scope) (m : Mode) (whole : List Field) (st : Sites) → Leads w s m whole st whole st [] []
leads-first w s m whole st = record { found = λ ps fs after h. h; inside = λ su y n h. h; no_name = λ h. h }

pub all-first : (a : Around) (m : Mode) (whole : List Field) (st : HeldSites) (held : HeldFields) → held.parts ≡ [] → held.values ≡ [] → AllLead a m whole st whole st held
all-first a m whole st held ep ev w s stands = subst (λ ps. Leads w s m whole (sites_in st) whole (sites_in st) ps held.values) (sym ep)
    (subst (λ vs. Leads w s m whole (sites_in st) whole (sites_in st) [] vs) (sym ev) (leads-first w s m whole (sites_in st)))

-- one field more in front
one-found : (w : World) (s : Scope) (m : Mode) (f : Field) (rest : List Field) (st : Sites) (o : Out) (l : Label) (ps : List RowPart) (fs : List FieldExp) (after : Sites) → l ≡ label_at s f.name → label_is_in (variables s.env) (label_at s f.name) ≡ true →
    typed w f.value.form s st (of_field (label_at s f.name) m) ≡ Some o → fields_walk w (field_row rest).1 s o.sites m ≡ Some (fields_with ps fs after) →
    fields_walk w (field_row (f ∷ rest)).1 s st m ≡ Some (fields_with (field l o.of ∷ ps) (record { name = l; of = o.exp } ∷ fs) after)
one-found w s m f rest st o l ps fs after el scoped typed h =
    let lab : Label = label_at s f.name in
    ap (λ b. if_so b (then_ (walking.typed w f.value.form s st (of_field lab m)) (λ z. option_map (with_field lab z) (fields_walk w (field_row rest).1 s z.sites m)))) scoped
    ∙ ap (option_and_then (λ z. option_map (with_field lab z) (fields_walk w (field_row rest).1 s z.sites m))) typed
    ∙ ap (option_map (with_field lab o)) h
    ∙ ap (λ k. Some (fields_with (field k o.of ∷ ps) (record { name = k; of = o.exp } ∷ fs) after)) (sym el)

leads-step : (w : World) (s : Scope) (m : Mode) (whole : List Field) (before : Sites) (f : Field) (rest : List Field) (st : Sites) (parts : List RowPart) (values : List FieldExp) (o : Out) (l : Label) → l ≡ label_at s f.name →
    label_is_in (variables s.env) (label_at s f.name) ≡ true → typed w f.value.form s st (of_field (label_at s f.name) m) ≡ Some o → Leads w s m whole before (f ∷ rest) st parts values →
    Leads w s m whole before rest o.sites (parts ++ field l o.of ∷ []) (values ++ record { name = l; of = o.exp } ∷ [])
leads-step w s m whole before f rest st parts values o l el scoped typed leads = record {
  found = λ ps fs after h. leads.found (field l o.of ∷ ps) (record { name = l; of = o.exp } ∷ fs) after (one-found w s m f rest st o l ps fs after el scoped typed h)
      ∙ ap₂ (λ xs ys. Some (fields_with xs ys after)) (sym (append_assoc parts (field l o.of ∷ []) ps)) (sym (append_assoc values (record { name = l; of = o.exp } ∷ []) fs));
  inside = λ su y n h. leads.inside su y n (later_field typed h);
  no_name = λ h. leads.no_name (later_label typed h);
}

pub all-step : (a : Around) (m : Mode) (whole : List Field) (before : HeldSites) (f : Field) (rest : List Field) (st after : HeldSites) (held more : HeldFields) → TakesField a st f m held more after → AllLead a m whole before (f ∷ rest) st held → AllLead a m whole before rest after more
all-step a m whole before f rest st after held more t leads w s stands =
    subst (λ ps. Leads w s m whole (sites_in before) rest (sites_in after) ps more.values) (sym t.parts)
    (subst (λ vs. Leads w s m whole (sites_in before) rest (sites_in after) (held.parts ++ field t.label t.out.of ∷ []) vs) (sym t.values)
    (leads-step w s m whole (sites_in before) f rest (sites_in st) held.parts held.values (out_in t.out after) t.label (t.named w s stands) (t.scoped w s stands) (t.value w s stands) (leads w s stands)))

pub all-past : (a : Around) (m : Mode) (whole : List Field) (before : HeldSites) (f : Field) (rest left : List Field) (st after : HeldSites) (held more : HeldFields) → left ≡ f ∷ rest → TakesField a st f m held more after → AllLead a m whole before left st held → AllLead a m whole before rest after more
all-past a m whole before f rest left st after held more e t leads = all-step a m whole before f rest st after held more t (subst (λ z. AllLead a m whole before z st held) e leads)

pub all-taken : (a : Around) (m : Mode) (whole : List Field) (before : HeldSites) (left : List Field) (st : HeldSites) (held : HeldFields) → left ≡ [] → AllLead a m whole before left st held → GivesFields a before whole m held st
all-taken a m whole before left st held e leads w s stands =
    let all : Leads w s m whole (sites_in before) [] (sites_in st) held.parts held.values = subst (λ z. Leads w s m whole (sites_in before) z (sites_in st) held.parts held.values) e (leads w s stands) in
    ap (λ z. fields_walk w (row_in z).1 s (sites_in before) m) (record-made whole) ∙ all.found [] [] (sites_in st) refl ∙ ap₂ (λ ps fs. Some (fields_with ps fs (sites_in st))) (append-nil held.parts) (append-nil held.values)

stray-tells : {names : List (List ℕ)} {w : World} {s : Scope} (m : Mode) (whole : List Field) (before : Sites) (f : Field) (rest : List Field) (st : Sites) (parts : List RowPart) (values : List FieldExp) (r : Refusal) → Leads w s m whole before (f ∷ rest) st parts values →
    (d : Fault) → BreaksLabel s f.name d → TellsFault names r d → HasFault names w s before (e.Record' (field_row whole).0 (field_row whole).1) m r
stray-tells m whole before f rest st parts values r leads _ (stray h) t = rule (unkinded (codes "another kind") (codes "Name"), bad_label (leads.no_name (this_label h)), t)

told-field : {names : List (List ℕ)} {w : World} {s : Scope} (m : Mode) (whole : List Field) (before : Sites) (f : Field) (rest : List Field) (st : Sites) (parts : List RowPart) (values : List FieldExp) (r : Refusal) → Leads w s m whole before (f ∷ rest) st parts values → FieldHasFault names w s st f m r →
    HasFault names w s before (e.Record' (field_row whole).0 (field_row whole).1) m r
told-field m whole before f rest st parts values r leads (bad_name t) = stray-tells m whole before f rest st parts values r leads t.0 t.1 t.2
told-field m whole before f rest st parts values r leads (bad_value scoped h) = part (in_record (leads.inside _ _ _ this_field)) h

pub field-tells : (a : Around) (m : Mode) (whole : List Field) (before : HeldSites) (f : Field) (rest left : List Field) (st : HeldSites) (held : HeldFields) (r : Refusal) → left ≡ f ∷ rest → AllLead a m whole before left st held → TellsField a st f m r → Tells a before (e.Record whole) m r
field-tells a m whole before f rest left st held r el leads h = tells-as a before (e.Record whole) _ m r (record-made whole) (λ w s stands.
    told-field m whole (sites_in before) f rest (sites_in st) held.parts held.values r (subst (λ z. Leads w s m whole (sites_in before) z (sites_in st) held.parts held.values) el (leads w s stands)) (h w s stands))

-- ---- the whole

pub record-gives : (a : Around) (before after : HeldSites) (written : List Field) (m : Mode) (held : HeldFields) (o : HeldOut) → GivesFields a before written m held after →
    ((w : World) (s : Scope) (st : Sites) → Stands a w s → record_out s (Some (fields_with held.parts held.values st)) ≡ Some (out_with o st)) → Gives a before (e.Record written) m o after
record-gives a before after written m held o h g = gives-as a before (e.Record written) _ m o after (record-made written) (λ w s stands.
    ap (record_out s) (ap (λ z. fields_walk w (row_in z).1 s (sites_in before) m) (sym (record-made written)) ∙ h w s stands) ∙ g w s (sites_in after) stands)

pub record-tells : (a : Around) (before after : HeldSites) (written : List Field) (m : Mode) (held : HeldFields) (r : Refusal) → GivesFields a before written m held after →
    ((w : World) (s : Scope) (st su : Sites) (n : Mode) (q : Shape) (row : Row_of-Field (count q)) → Stands a w s → literal_names row ≡ written_names written → fields_walk w row s st n ≡ Some (fields_with held.parts held.values su) →
    Refuses a.world.now.datatype_names (Breaks a.world.now.datatype_names w s st (e.Record' q row) n) r) → Tells a before (e.Record written) m r
record-tells a before after written m held r h g = tells-as a before (e.Record written) _ m r (record-made written) (λ w s stands.
    rule (g w s (sites_in before) (sites_in after) m (field_row written).0 (field_row written).1 stands (names-written written) (ap (λ z. fields_walk w (row_in z).1 s (sites_in before) m) (sym (record-made written)) ∙ h w s stands)))

-- ---- one field

pub takes : (a : Around) (before : HeldSites) (f : Field) (m n : Mode) (held more : HeldFields) (after : HeldSites) (l : Label) (o : HeldOut) → more.parts ≡ held.parts ++ field l o.of ∷ [] → more.values ≡ held.values ++ record { name = l; of = o.exp } ∷ [] →
    ((w : World) (s : Scope) → Stands a w s → l ≡ label_at s f.name) → ((w : World) (s : Scope) → Stands a w s → label_is_in (variables s.env) (label_at s f.name) ≡ true) → n ≡ of_field l m → GivesTyped a before f.value.form n o after → TakesField a before f m held more after
takes a before f m n held more after l o ep ev named scoped en typed = record {
  label = l;
  out = o;
  parts = ep;
  values = ev;
  named = named;
  scoped = scoped;
  value = λ w s stands. gives-mode a before f.value.form n (of_field (label_at s f.name) m) o after (en ∙ ap (λ z. of_field z m) (named w s stands)) typed w s stands;
}

pub value-tells : (a : Around) (before : HeldSites) (f : Field) (m n : Mode) (l : Label) (r : Refusal) → ((w : World) (s : Scope) → Stands a w s → l ≡ label_at s f.name) → ((w : World) (s : Scope) → Stands a w s → label_is_in (variables s.env) (label_at s f.name) ≡ true) → n ≡ of_field l m →
    Tells a before f.value.form n r → TellsField a before f m r
value-tells a before f m n l r named scoped en h w s stands = bad_value (scoped w s stands) (tells-mode a before f.value.form n (of_field (label_at s f.name) m) r (en ∙ ap (λ z. of_field z m) (named w s stands)) h w s stands)

pub scoped-there : (a : Around) (f : FieldName) (l : Label) (b : Bool) → b ≡ true → ((w : World) (s : Scope) → Stands a w s → b ≡ label_is_in (variables s.env) l) → ((w : World) (s : Scope) → Stands a w s → l ≡ label_at s f) →
    (w : World) (s : Scope) → Stands a w s → label_is_in (variables s.env) (label_at s f) ≡ true
scoped-there a f l b e h named w s stands = ap (label_is_in (variables s.env)) (sym (named w s stands)) ∙ sym (h w s stands) ∙ e

pub stray-told : (a : Around) (f : FieldName) (l : Label) (b : Bool) (stop : Stop) → b ≡ false → ((w : World) (s : Scope) → Stands a w s → b ≡ label_is_in (variables s.env) l) → ((w : World) (s : Scope) → Stands a w s → l ≡ label_at s f) →
    ((names : List (List ℕ)) → StopIs names (unkinded (codes "another kind") (codes "Name")) stop) → IfRefused {A = Unit {0}} (Err stop) (λ r. (w : World) (s : Scope) → Stands a w s → Refuses a.world.now.datatype_names (BreaksLabel s f) r)
stray-told a f l b (stop.Refused r) e h named t = λ w s stands. (unkinded (codes "another kind") (codes "Name"), stray (ap (label_is_in (variables s.env)) (sym (named w s stands)) ∙ sym (h w s stands) ∙ e), t a.world.now.datatype_names)
stray-told a f l b stop.Memory e h named t = tt

-- the field that the code makes
pub ruleset made = (field-made)
