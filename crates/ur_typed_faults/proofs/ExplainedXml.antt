-- Literals of XML: where the walk has no answer there is a fault.
use Rattle.std.proofs.Common.{inl, inr, ◌≡◌, ◌∙◌, refl, sym, ap, subst, Bool, true, false, true≢false, Option, Some, None, List, [], ◌∷◌, ℕ, zero, suc}
use Rattle.std.specs.Prelude.{◌&&◌, option_map, option_and_then, slice_get, is_none}
use Rattle.std.specs.List.{list_all}
use mathlib.Core.Former.{Count}
use Rattle.ur_base.specs.Shape.{Shape, count}
use Rattle.ur_base.specs.declared.refusal.Span.{Span}
use Rattle.ur_base.specs.declared.refusal.Refusal.{Refusal}
use Rattle.ur_syntax.specs.declared.exp.ExpForm.{ExpForm, Row_of-Exp, end_of-Exp as alone, more_of-Exp as its}
use Rattle.ur_syntax.specs.declared.exp.ExpForm.TheVariants as e
use Rattle.ur_syntax.specs.declared.xml.Attr.{Attr}
use Rattle.ur_syntax.specs.declared.xml.AttrValue.{AttrValue}
use Rattle.ur_syntax.specs.declared.xml.AttrValue.TheVariants as attr_value
use Rattle.ur_syntax.specs.declared.xml.Tag.{Tag as WrittenTag}
use Rattle.ur_syntax.specs.declared.xml.Xml.{Xml}
use Rattle.ur_syntax.specs.declared.xml.XmlForm.{XmlForm, Row_of-XmlPart, end_of-XmlPart as no_xml, more_of-XmlPart as an_xml, items-the_row-XmlPart}
use Rattle.ur_syntax.specs.declared.xml.XmlForm.TheVariants as form
use Rattle.ur_values.specs.declared.value.FieldKind.{FieldKind}
use Rattle.ur_values.specs.declared.value.Tag.{Tag}
use Rattle.ur_values.specs.declared.value.Tag.TheVariants as tag
use Rattle.ur_rows.specs.declared.normal.Label.{Label}
use Rattle.ur_rows.specs.declared.normal.NormalType.{NormalType}
use Rattle.ur_rows.specs.declared.normal.NormalType.TheVariants as ty
use Rattle.ur_rows.specs.declared.normal.Part.{Part as RowPart}
use Rattle.ur_rows.specs.Kinded.{label_is_in}
use Rattle.ur_rows.specs.Made.{record_of}
use Rattle.ur_rows.specs.Normal.{known_in}
use Rattle.ur_tree.specs.Scalars.{is_basic}
use Rattle.ur_tree.specs.Text.{apart_from}
use Rattle.ur_tree.specs.Places.{Place, in_form, holds_text, holds_fields, place_type, Sort, place_of, fields_found}
use Rattle.ur_tree.specs.Places as places
use Rattle.ur_xmltype.specs.Tags.{Node, node_at, node_with, repeated, label_at as label_of_tag}
use Rattle.ur_xmltype.specs.Tags as node
use Rattle.ur_xmltype.specs.Literal.{is_kept, is_end, literal_sort, is_framed, fault_of_sort, row_of_parts, sort_type}
use Rattle.ur_xmltype.specs.Faults.{IsBadTag, twice, misplaced, IsBadFrame, place_text}
use Rattle.ur_disjoint.proofs.Members.{In, contains-in}
use Rattle.ur_tree.specs.declared.exp.Exp.TheVariants as exp
use Rattle.ur_tree.specs.declared.exp.Markup.TheVariants as markup
use Rattle.ur_tree.specs.Env.{variables}
use Rattle.ur_tree.specs.Typing.{are_linkable}
use Rattle.ur_typed_rules.specs.Lacking.{lacks_type}
use Rattle.ur_typed_rules.specs.Scopes.{World, Scope, Mode, finds, wants, type_of_mode}
use Rattle.ur_typed_rules.specs.Tests.{same_type, are_apart}
use Rattle.ur_typed.specs.Resolves.{IsAntiquote, first}
use Rattle.ur_typed.specs.Rules.{Sites, Out, Walk, Args, gives, args_out, function_named}
use Rattle.ur_typed.specs.Markups.{Splice, Attribute, Literal, Marked, parts_out, part_out, and_marks, one_mark, if_kept, shown_out, field_splice_out, place_splice_out, splice_by, splice_out, element_out, form_out, page_params, without_last, link_with, link_out, value_out, submit_with, submit_out, called_at, node_out, sort_fits, sorted_out}
use Rattle.ur_typed.specs.Walking.{typed, splices_walk, attributes_walk, call_walk, with_calls}
use Rattle.ur_typed.specs.Parts.{literal_of, form_mode, is_applied, all_types, all_but_last, first_types, InTarget, target_further, target_head, InParts, in_first, in_later, InPart, in_shown, in_field_splice, in_splice, in_element, in_a_form, in_link, in_link_target, in_submit_target, in_input_value, in_submit_value}
use Rattle.ur_typed.specs.Faults.{TooMany, TooFew, BreaksParts, breaks_first, breaks_later, BreaksPart, walks}
use Rattle.ur_typed.specs.Causes
use Rattle.ur_typed_faults.specs.Converse.{IsWorld, IsFaulty, Explained}
use Rattle.ur_typed.proofs.Literals.{a_splice, an_attribute, call_at_head}
use Rattle.ur_typed_faults.proofs.Converse.{here_faulty, part_faulty, explained_by}
use Rattle.ur_typed_faults.proofs.ExplainedNames.{AllExplained, ArgsFault, many, few, arg, args_explained}
use Rattle.ur_typed_faults.proofs.ExplainedForms.{RowExplained}
use Rattle.ur_typed_rules.specs.Faults.{Fault}
use Rattle.ur_typed_rules.specs.Meeting.{Meets}
use Rattle.ur_typed_rules.specs.Rules.{if_so}
use Rattle.ur_typed_rules.proofs.Options.{some_of, opened, mapped, both_false, not_all_is, some_none, then_none_is, if_none_is, map_none_is}
use Rattle.ur_typed_rules.proofs.Witnesses.{meets_of}
use Rattle.ur_typed.proofs.Shapes.{next_of}
use Rattle.ur_typed.specs.Parts
use Rattle.ur_typed.specs.Faults

-- ---- the expressions beside a literal

-- the arguments of an application, along its spine
abbrev pub ArgsExplained : List (List ℕ) → World → ExpForm → Type 0
ArgsExplained names w (e.App' _ (its p f alone) _ (its q a alone)) = ArgsExplained names w f × Explained names w a
ArgsExplained names w _ = Unit {0}

abbrev pub TargetsExplained : List (List ℕ) → World → {n : _} → Row_of-Exp n → Type 0
TargetsExplained names w alone = Unit {0}
TargetsExplained names w (its p x rest) = ArgsExplained names w x × TargetsExplained names w rest

record SpliceIs (names : List (List ℕ)) (w : World) (n : Count) (xs : Row_of-Exp n) (i : ℕ) (x : Splice) : Type 0 where
  written : ExpForm
  there : IsAntiquote n xs i written
  is : a_splice w written ≡ x
  explained : Explained names w written

splice_is : (names : List (List ℕ)) (w : World) (n : Count) (xs : Row_of-Exp n) → RowExplained names w xs → (i : ℕ) (x : Splice) → slice_get (splices_walk w xs) i ≡ Some x → SpliceIs names w n xs i x
splice_is names w _ alone k i x h = cc
splice_is names w _ (its p y rest) k zero x h = record { written = y; there = first; is = some_of h; explained = k.0 }
splice_is names w _ (its {n = n} p y rest) k (suc i) x h =
    let r : SpliceIs names w n rest i x = splice_is names w n rest k.1 i x h in record { written = r.written; there = next_of n p y r.written rest i r.there; is = r.is; explained = r.explained }

record AttributeIs (names : List (List ℕ)) (w : World) (s : Scope) (n : Count) (xs : Row_of-Exp n) (i : ℕ) (x : Attribute) : Type 0 where
  written : ExpForm
  there : IsAntiquote n xs i written
  is : an_attribute w s written ≡ x
  explained : Explained names w written
  args : ArgsExplained names w written

attribute_is : (names : List (List ℕ)) (w : World) (s : Scope) (n : Count) (xs : Row_of-Exp n) → RowExplained names w xs → TargetsExplained names w xs → (i : ℕ) (x : Attribute) → slice_get (attributes_walk w xs s) i ≡ Some x → AttributeIs names w s n xs i x
attribute_is names w s _ alone k t i x h = cc
attribute_is names w s _ (its p y rest) k t zero x h = record { written = y; there = first; is = some_of h; explained = k.0; args = t.0 }
attribute_is names w s _ (its {n = n} p y rest) k t (suc i) x h =
    let r : AttributeIs names w s n rest i x = attribute_is names w s n rest k.1 t.1 i x h in
    record { written = r.written; there = next_of n p y r.written rest i r.there; is = r.is; explained = r.explained; args = r.args }

-- ---- targets

data TargetFault (names : List (List ℕ)) (w : World) (s : Scope) (wanted : List NormalType → Option (List NormalType)) (x : ExpForm) (ys : List ExpForm) (c : ℕ × List Walk) (ts : List NormalType) (st : Sites) : Type 0 where
  too_many : TooMany c.1 ts → TargetFault names w s wanted x ys c ts st
  too_few : TooFew c.1 ts → TargetFault names w s wanted x ys c ts st
  argument : {su : Sites} {y : ExpForm} {m : Mode} → InTarget w s wanted x ys st su y m → IsFaulty names w s su y m → TargetFault names w s wanted x ys c ts st

target_further_of : (names : List (List ℕ)) (w : World) (s : Scope) (wanted : List NormalType → Option (List NormalType)) (p q : Span) (f a : ExpForm) (ys : List ExpForm) (c : ℕ × List Walk) (ts : List NormalType) (st : Sites) → TargetFault names w s wanted f (a ∷ ys) c ts st →
    TargetFault names w s wanted (e.App' tt (its p f alone) tt (its q a alone)) ys c ts st
target_further_of names w s wanted p q f a ys c ts st (too_many r) = too_many r
target_further_of names w s wanted p q f a ys c ts st (too_few r) = too_few r
target_further_of names w s wanted p q f a ys c ts st (argument r g) = argument (target_further r) g

by_args : (names : List (List ℕ)) (w : World) (s : Scope) (wanted : List NormalType → Option (List NormalType)) (x : ExpForm) (ys : List ExpForm) (f : ℕ) (ps ts : List NormalType) (st : Sites) → is_applied x ≡ false → function_named w s x ≡ Some f → page_params w.declared f ≡ Some ps → wanted ps ≡ Some ts →
    ArgsFault names w s ys ts st → TargetFault names w s wanted x ys (f, walks w ys) ts st
by_args names w s wanted x ys f ps ts st a ef ep et (many r) = too_many r
by_args names w s wanted x ys f ps ts st a ef ep et (few r) = too_few r
by_args names w s wanted x ys f ps ts st a ef ep et (arg r g) = argument (target_head a ef ep et r) g

target_at_head : (names : List (List ℕ)) (w : World) (s : Scope) (wanted : List NormalType → Option (List NormalType)) (x : ExpForm) (ys : List ExpForm) (c : ℕ × List Walk) (ps ts : List NormalType) (st : Sites) → is_applied x ≡ false → AllExplained names w ys → call_walk w x s (walks w ys) ≡ Some c →
    page_params w.declared c.0 ≡ Some ps → wanted ps ≡ Some ts → args_out s c.1 ts st ≡ None → TargetFault names w s wanted x ys c ts st
target_at_head names w s wanted x ys c ps ts st a k h ep et n =
    let f : (f : ℕ) × (function_named w s x ≡ Some f) × (with_calls (walks w ys) f ≡ c) = mapped (with_calls (walks w ys)) (function_named w s x) c (sym (call_at_head w x s (walks w ys) a) ∙ h) in
    let ep' : page_params w.declared f.0 ≡ Some ps = subst (λ (z : ℕ × List Walk). page_params w.declared z.0 ≡ Some ps) (sym f.2) ep in
    let n' : args_out s (walks w ys) ts st ≡ None = subst (λ (z : ℕ × List Walk). args_out s z.1 ts st ≡ None) (sym f.2) n in
    subst (λ z. TargetFault names w s wanted x ys z ts st) f.2 (by_args names w s wanted x ys f.0 ps ts st a f.1 ep' et (args_explained names w s ys ts k st n'))

target_explained : (names : List (List ℕ)) (w : World) (s : Scope) (wanted : List NormalType → Option (List NormalType)) (x : ExpForm) (ys : List ExpForm) (c : ℕ × List Walk) (ps ts : List NormalType) (st : Sites) → ArgsExplained names w x → AllExplained names w ys → call_walk w x s (walks w ys) ≡ Some c →
    page_params w.declared c.0 ≡ Some ps → wanted ps ≡ Some ts → args_out s c.1 ts st ≡ None → TargetFault names w s wanted x ys c ts st
target_explained names w s wanted (e.App' _ (its p f alone) _ (its q a alone)) ys c ps ts st x k h ep et n = target_further_of names w s wanted p q f a ys c ts st (target_explained names w s wanted f (a ∷ ys) c ps ts st x.0 (x.1, k) h ep et n)
target_explained names w s wanted _ ys c ps ts st x k h ep et n = target_at_head names w s wanted _ ys c ps ts st refl k h ep et n

-- ---- tags that may not stand at their place

abbrev nowhere : Span
nowhere = record { file = 0; «from» = 0; to = 0 }

bad_tag_of : (l : Option Label) (p : Place) (t : WrittenTag) (attrs : List Attr) (bare : Bool) → node_with l p t attrs bare ≡ None → (r : Refusal) × IsBadTag l p t attrs bare r
bad_tag_of l p t attrs bare h = by_name (repeated attrs) refl where
  by_name : (o : Option (List ℕ)) → repeated attrs ≡ o → (r : Refusal) × IsBadTag l p t attrs bare r
  by_name (Some x) i = (record { code = 8; span = nowhere; left = x; right = []; named = refl }, twice i (refl, refl, refl))
  by_name None i =
      (record { code = 13; span = nowhere; left = t.word; right = apart_from t.word (place_text p); named = refl }, misplaced i h (refl, refl, refl))

bad_frame_of : (s : Sort) (n : Count) (inner : Row_of-XmlPart n) → is_framed s inner ≡ false → (r : Refusal) × IsBadFrame s (items-the_row-XmlPart n inner) r
bad_frame_of s n inner h = by_fault (fault_of_sort s (items-the_row-XmlPart n inner)) refl h where
  by_fault : (o : Option (List ℕ)) → fault_of_sort s (items-the_row-XmlPart n inner) ≡ o → is_none o ≡ false → (r : Refusal) × IsBadFrame s (items-the_row-XmlPart n inner) r
  by_fault (Some x) i g =
      (record { code = 13; span = nowhere; left = x; right = apart_from x (place_text places.in_page); named = refl }, record { part = x; breaks = i; told = (refl, refl, refl) })
  by_fault None i g = absurd (true≢false g)

-- ---- parts

-- what stands beside a literal, each with its faults
record Beside (names : List (List ℕ)) (w : World) (a : Count) (splices : Row_of-Exp a) (c : Count) (attributes : Row_of-Exp c) : Type 0 where
  splices_explained : RowExplained names w splices
  attributes_explained : RowExplained names w attributes
  targets_explained : TargetsExplained names w attributes

data PartFault (names : List (List ℕ)) (w : World) (s : Scope) (a : Count) (splices : Row_of-Exp a) (c : Count) (attributes : Row_of-Exp c) (p : Place) (x : XmlForm) (st : Sites) : Type 0 where
  in_it : {su : Sites} {y : ExpForm} {m : Mode} → InPart w s a splices c attributes p x st su y m → IsFaulty names w s su y m → PartFault names w s a splices c attributes p x st
  breaks : {f : Fault} → BreaksPart names (literal_of w s splices attributes) p x st f → PartFault names w s a splices c attributes p x st

data PartsFault (names : List (List ℕ)) (w : World) (s : Scope) (a : Count) (splices : Row_of-Exp a) (c : Count) (attributes : Row_of-Exp c) (p : Place) (n : Count) (xs : Row_of-XmlPart n) (st : Sites) : Type 0 where
  in_them : {su : Sites} {y : ExpForm} {m : Mode} → InParts w s a splices c attributes p n xs st su y m → IsFaulty names w s su y m → PartsFault names w s a splices c attributes p n xs st
  break_them : {f : Fault} → BreaksParts names (literal_of w s splices attributes) p n xs st f → PartsFault names w s a splices c attributes p n xs st

first_fault : (names : List (List ℕ)) (w : World) (s : Scope) (a : Count) (splices : Row_of-Exp a) (c : Count) (attributes : Row_of-Exp c) (p : Place) (n : Count) (at : Span) (x : XmlForm) (rest : Row_of-XmlPart n) (st : Sites) → PartFault names w s a splices c attributes p x st → PartsFault names w s a splices c attributes p _ (an_xml at x rest) st
first_fault names w s a splices c attributes p n at x rest st (in_it r f) = in_them (in_first r) f
first_fault names w s a splices c attributes p n at x rest st (breaks b) = break_them (breaks_first b)

later_fault : (names : List (List ℕ)) (w : World) (s : Scope) (a : Count) (splices : Row_of-Exp a) (c : Count) (attributes : Row_of-Exp c) (p : Place) (n : Count) (at : Span) (x : XmlForm) (rest : Row_of-XmlPart n) (st : Sites) (d : Marked) → part_out (literal_of w s splices attributes) x p st ≡ Some d →
    PartsFault names w s a splices c attributes p n rest d.sites → PartsFault names w s a splices c attributes p _ (an_xml at x rest) st
later_fault names w s a splices c attributes p n at x rest st d ed (in_them r f) = in_them (in_later ed r) f
later_fault names w s a splices c attributes p n at x rest st d ed (break_them b) = break_them (breaks_later ed b)

text_faulty : (names : List (List ℕ)) (w : World) (s : Scope) (a : Count) (splices : Row_of-Exp a) (c : Count) (attributes : Row_of-Exp c) (p : Place) (t : List ℕ) (st : Sites) (b : Bool) → is_kept p t ≡ b → if_kept b p t st ≡ None → PartFault names w s a splices c attributes p (form.Text t) st
text_faulty names w s a splices c attributes p t st false ek h = absurd (some_none h)
text_faulty names w s a splices c attributes p t st true ek h = elim (if_none_is (holds_text p) (one_mark [] [] (markup.Text t) st) h) [ inl z ↦ breaks (Faults.no_text ek z) | inr z ↦ absurd (some_none z) ]

abbrev shown_of : Out → Option Marked
shown_of o = if_so (is_basic o.of) (one_mark [] [] (markup.Shown o.exp) o.sites)

shown_faulty : (names : List (List ℕ)) (w : World) (s : Scope) (a : Count) (splices : Row_of-Exp a) (c : Count) (attributes : Row_of-Exp c) → Beside names w a splices c attributes → (p : Place) (n : ℕ) (st : Sites) → part_out (literal_of w s splices attributes) (form.Show n) p st ≡ None →
    PartFault names w s a splices c attributes p (form.Show n) st
shown_faulty names w s a splices c attributes k p n st h =
    let l : Literal = literal_of w s splices attributes in
    elim (then_none_is (shown_out l p st) (slice_get l.splices n) h) [
      | inl z ↦ breaks (Faults.no_antiquote_shown z)
      | inr x ↦ elim (if_none_is (holds_text p) (option_and_then shown_of (x.0.walk s st finds)) x.2) [
        | inl z ↦ breaks (Faults.no_shown z)
        | inr z ↦ elim (then_none_is shown_of (x.0.walk s st finds) z) [
          | inl y ↦
              let i : SpliceIs names w a splices n x.0 = splice_is names w a splices k.splices_explained n x.0 x.1 in
              in_it (in_shown i.there) (i.explained s st finds (subst (λ v. v.walk s st finds ≡ None) (sym i.is) y))
          | inr o ↦ elim (if_none_is (is_basic o.0.of) (one_mark [] [] (markup.Shown o.0.exp) o.0.sites) o.2) [ inl y ↦ breaks (Faults.not_basic x.1 o.1 y) | inr y ↦ absurd (some_none y) ]
        ]
      ]
    ]

abbrev spliced_row : Out → List RowPart → Option Marked
spliced_row o r = one_mark r [] (markup.Splice o.exp) o.sites

abbrev spliced_fields : Out → Option Marked
spliced_fields o = option_and_then (spliced_row o) (fields_found o.of)

field_splice_faulty : (names : List (List ℕ)) (w : World) (s : Scope) (a : Count) (splices : Row_of-Exp a) (c : Count) (attributes : Row_of-Exp c) (p : Place) (n : ℕ) (st : Sites) (y : ExpForm) (b : Bool) → lacks_type y ≡ b → IsAntiquote a splices n y → Explained names w y →
    slice_get (splices_walk w splices) n ≡ Some (a_splice w y) → holds_fields p ≡ true → field_splice_out (literal_of w s splices attributes) st (typed w y) b ≡ None → PartFault names w s a splices c attributes p (form.Splice n) st
field_splice_faulty names w s a splices c attributes p n st y true eb there k ex hp h = elim (then_none_is _ (typed w y s st (wants ty.Xbody)) h) [
  | inl z ↦ in_it (in_field_splice hp there) (subst (λ v. IsFaulty names w s st y (form_mode v)) (sym eb) (k s st (wants ty.Xbody) z))
  | inr o ↦ absurd (some_none o.2)
]
field_splice_faulty names w s a splices c attributes p n st y false eb there k ex hp h = elim (then_none_is spliced_fields (typed w y s st finds) h) [
  | inl z ↦ in_it (in_field_splice hp there) (subst (λ v. IsFaulty names w s st y (form_mode v)) (sym eb) (k s st finds z))
  | inr o ↦ elim (then_none_is (spliced_row o.0) (fields_found o.0.of) o.2) [ inl z ↦ breaks (Faults.no_fields_found hp ex eb o.1 z) | inr r ↦ absurd (some_none r.2) ]
]

splice_faulty_at : (names : List (List ℕ)) (w : World) (s : Scope) (a : Count) (splices : Row_of-Exp a) (c : Count) (attributes : Row_of-Exp c) (p : Place) (n : ℕ) (st : Sites) (y : ExpForm) (b : Bool) → holds_fields p ≡ b → IsAntiquote a splices n y → Explained names w y → slice_get (splices_walk w splices) n ≡ Some (a_splice w y) →
    splice_by (literal_of w s splices attributes) p st (a_splice w y) b ≡ None → PartFault names w s a splices c attributes p (form.Splice n) st
splice_faulty_at names w s a splices c attributes p n st y true hp there k ex h = field_splice_faulty names w s a splices c attributes p n st y (lacks_type y) refl there k ex hp h
splice_faulty_at names w s a splices c attributes p n st y false hp there k ex h = elim (then_none_is (place_splice_out (literal_of w s splices attributes) st (typed w y)) (place_type p) h) [
  | inl z ↦ breaks (Faults.no_splice hp z)
  | inr t ↦ elim (then_none_is _ (typed w y s st (wants t.0)) t.2) [ inl z ↦ in_it (in_splice hp t.1 there) (k s st (wants t.0) z) | inr o ↦ absurd (some_none o.2) ]
]

splice_faulty : (names : List (List ℕ)) (w : World) (s : Scope) (a : Count) (splices : Row_of-Exp a) (c : Count) (attributes : Row_of-Exp c) → Beside names w a splices c attributes → (p : Place) (n : ℕ) (st : Sites) → part_out (literal_of w s splices attributes) (form.Splice n) p st ≡ None →
    PartFault names w s a splices c attributes p (form.Splice n) st
splice_faulty names w s a splices c attributes k p n st h =
    let l : Literal = literal_of w s splices attributes in
    elim (then_none_is (splice_out l p st) (slice_get l.splices n) h) [
      | inl z ↦ breaks (Faults.no_antiquote_spliced z)
      | inr x ↦
          let i : SpliceIs names w a splices n x.0 = splice_is names w a splices k.splices_explained n x.0 x.1 in
          splice_faulty_at names w s a splices c attributes p n st i.written (holds_fields p) refl i.there i.explained (x.1 ∙ ap (λ z. Some z) (sym i.is)) (subst (λ v. splice_by l p st v (holds_fields p) ≡ None) (sym i.is) x.2)
    ]

-- ---- tags

abbrev AtTag : World → Scope → Place → WrittenTag → List Attr → {n : Count} → Row_of-XmlPart n → Node → Type 0
AtTag w s p t attrs inner g = node_at (known_in s.names.cons) p t attrs (is_end inner) ≡ Some g

-- the attribute of a target, where there is one
called_is : (names : List (List ℕ)) (w : World) (s : Scope) {a : Count} (splices : Row_of-Exp a) (c : Count) (attributes : Row_of-Exp c) → RowExplained names w attributes → TargetsExplained names w attributes → (i : ℕ) (f : ℕ × List Walk) → called_at (literal_of w s splices attributes) i ≡ Some f →
    (y : ExpForm) × IsAntiquote c attributes i y × (call_walk w y s [] ≡ Some f) × ArgsExplained names w y
called_is names w s splices c attributes k t i f h = by_attribute (slice_get (attributes_walk w attributes s) i) refl h where
  by_attribute : (o : Option Attribute) → slice_get (attributes_walk w attributes s) i ≡ o → option_and_then (λ a. a.calls) o ≡ Some f → (y : ExpForm) × IsAntiquote c attributes i y × (call_walk w y s [] ≡ Some f) × ArgsExplained names w y
  by_attribute None eo g = cc
  by_attribute (Some x) eo g = let r : AttributeIs names w s c attributes i x = attribute_is names w s c attributes k t i x eo in (r.written, r.there, subst (λ v. v.calls ≡ Some f) (sym r.is) g, r.args)

-- the value of a tag that is not typed, or not there
data ValueFault (names : List (List ℕ)) (w : World) (s : Scope) (c : Count) (attributes : Row_of-Exp c) (st : Sites) : Option AttrValue → Type 0 where
  not_there : {j : ℕ} → slice_get (attributes_walk w attributes s) j ≡ None → ValueFault names w s c attributes st (Some (attr_value.Exp j))
  not_typed : {j : ℕ} {y : ExpForm} → IsAntiquote c attributes j y → IsFaulty names w s st y (wants ty.Str) → ValueFault names w s c attributes st (Some (attr_value.Exp j))

value_explained : (names : List (List ℕ)) (w : World) (s : Scope) {a : Count} (splices : Row_of-Exp a) (c : Count) (attributes : Row_of-Exp c) → RowExplained names w attributes → TargetsExplained names w attributes → (st : Sites) (v : Option AttrValue) → value_out (literal_of w s splices attributes) st v ≡ None → ValueFault names w s c attributes st v
value_explained names w s splices c attributes k t st None h = absurd (some_none h)
value_explained names w s splices c attributes k t st (Some (attr_value.Text x)) h = absurd (some_none h)
value_explained names w s splices c attributes k t st (Some (attr_value.Exp j)) h = elim (then_none_is _ (slice_get (attributes_walk w attributes s) j) h) [
  | inl z ↦ not_there z
  | inr x ↦ elim (then_none_is _ (x.0.walk s st (wants ty.Str)) x.2) [
    | inl z ↦ let i : AttributeIs names w s c attributes j x.0 = attribute_is names w s c attributes k t j x.0 x.1 in not_typed i.there (i.explained s st (wants ty.Str) (subst (λ v. v.walk s st (wants ty.Str) ≡ None) (sym i.is) z))
    | inr z ↦ absurd (some_none z.2)
  ]
]

abbrev Inner : Type 0
Inner = Sites → Option Marked

abbrev linked_with : ℕ × List Walk → Args × Sites → Marked → Option Marked
linked_with f r m = one_mark m.row m.waiting (markup.Link' f.0 r.0.0 r.0.1 m.marks.0 m.marks.1) m.sites

abbrev linked : Inner → ℕ × List Walk → Args × Sites → Option Marked
linked inner f r = option_and_then (linked_with f r) (inner r.1)

input_faulty : (names : List (List ℕ)) (w : World) (s : Scope) (a : Count) (splices : Row_of-Exp a) (c : Count) (attributes : Row_of-Exp c) (p : Place) (t : WrittenTag) (attrs : List Attr) (k : Shape) (inner : Row_of-XmlPart (count k)) (st : Sites) (f : FieldKind) (l : Label) (v : Option AttrValue) → AtTag w s p t attrs inner (node.input f l v) →
    ValueFault names w s c attributes st v → PartFault names w s a splices c attributes p (form.Element' t attrs k inner) st
input_faulty names w s a splices c attributes p t attrs k inner st f l _ eg (not_there z) = breaks (Faults.at_node eg (Faults.no_value_given z))
input_faulty names w s a splices c attributes p t attrs k inner st f l _ eg (not_typed r g) = in_it (in_input_value eg r) g

sent_faulty : (names : List (List ℕ)) (w : World) (s : Scope) (a : Count) (splices : Row_of-Exp a) (c : Count) (attributes : Row_of-Exp c) (p : Place) (t : WrittenTag) (attrs : List Attr) (k : Shape) (inner : Row_of-XmlPart (count k)) (st : Sites) (i : ℕ) (v : Option AttrValue) (f : ℕ × List Walk) (ps : List NormalType) (ts : List NormalType × NormalType) (r : Args × Sites) →
    AtTag w s p t attrs inner (node.submit i v) → called_at (literal_of w s splices attributes) i ≡ Some f → page_params w.declared f.0 ≡ Some ps → without_last ps ≡ Some ts → args_out s f.1 ts.0 st ≡ Some r → ValueFault names w s c attributes r.1 v →
    PartFault names w s a splices c attributes p (form.Element' t attrs k inner) st
sent_faulty names w s a splices c attributes p t attrs k inner st i _ f ps ts r eg ef ep et er (not_there z) = breaks (Faults.at_node eg (Faults.no_value_sent z))
sent_faulty names w s a splices c attributes p t attrs k inner st i _ f ps ts r eg ef ep et er (not_typed x g) = in_it (in_submit_value eg ef ep et er x) g

link_target_faulty : (names : List (List ℕ)) (w : World) (s : Scope) (a : Count) (splices : Row_of-Exp a) (c : Count) (attributes : Row_of-Exp c) (p : Place) (t : WrittenTag) (attrs : List Attr) (k : Shape) (inner : Row_of-XmlPart (count k)) (st : Sites) (i : ℕ) (y : ExpForm) (f : ℕ × List Walk) (ts : List NormalType) →
    AtTag w s p t attrs inner (node.link i) → IsAntiquote c attributes i y → called_at (literal_of w s splices attributes) i ≡ Some f → page_params w.declared f.0 ≡ Some ts → TargetFault names w s all_types y [] f ts st → PartFault names w s a splices c attributes p (form.Element' t attrs k inner) st
link_target_faulty names w s a splices c attributes p t attrs k inner st i y f ts eg there ef ep (too_many r) = breaks (Faults.at_node eg (Faults.many_linked ef ep r))
link_target_faulty names w s a splices c attributes p t attrs k inner st i y f ts eg there ef ep (too_few r) = breaks (Faults.at_node eg (Faults.few_linked ef ep r))
link_target_faulty names w s a splices c attributes p t attrs k inner st i y f ts eg there ef ep (argument r g) = in_it (in_link_target eg there r) g

submit_target_faulty : (names : List (List ℕ)) (w : World) (s : Scope) (a : Count) (splices : Row_of-Exp a) (c : Count) (attributes : Row_of-Exp c) (p : Place) (t : WrittenTag) (attrs : List Attr) (k : Shape) (inner : Row_of-XmlPart (count k)) (st : Sites) (i : ℕ) (v : Option AttrValue) (y : ExpForm) (f : ℕ × List Walk) (ps : List NormalType) (ts : List NormalType × NormalType) →
    AtTag w s p t attrs inner (node.submit i v) → IsAntiquote c attributes i y → called_at (literal_of w s splices attributes) i ≡ Some f → page_params w.declared f.0 ≡ Some ps → without_last ps ≡ Some ts → TargetFault names w s all_but_last y [] f ts.0 st → PartFault names w s a splices c attributes p (form.Element' t attrs k inner) st
submit_target_faulty names w s a splices c attributes p t attrs k inner st i v y f ps ts eg there ef ep et (too_many r) = breaks (Faults.at_node eg (Faults.many_acting ef ep et r))
submit_target_faulty names w s a splices c attributes p t attrs k inner st i v y f ps ts eg there ef ep et (too_few r) = breaks (Faults.at_node eg (Faults.few_acting ef ep et r))
submit_target_faulty names w s a splices c attributes p t attrs k inner st i v y f ps ts eg there ef ep et (argument r g) = in_it (in_submit_target eg there r) g

no_last : (ps : List NormalType) → without_last ps ≡ None → ps ≡ []
no_last [] h = refl
no_last (x ∷ []) h = absurd (some_none h)
no_last (x ∷ y ∷ ys) h = let r : y ∷ ys ≡ [] = no_last (y ∷ ys) (map_none_is (λ r. (x ∷ r.0, r.1)) (without_last (y ∷ ys)) h) in cc

form_faulty : (names : List (List ℕ)) (w : World) (s : Scope) (a : Count) (splices : Row_of-Exp a) (c : Count) (attributes : Row_of-Exp c) (p : Place) (t : WrittenTag) (attrs : List Attr) (k : Shape) (inner : Row_of-XmlPart (count k)) (st : Sites) (d : Marked) → AtTag w s p t attrs inner node.form →
    parts_out (literal_of w s splices attributes) inner in_form st ≡ Some d → form_out s.env.known d ≡ None → PartFault names w s a splices c attributes p (form.Element' t attrs k inner) st
form_faulty names w s a splices c attributes p t attrs k inner st d eg ed h = elim (if_none_is (are_apart s.env.known d.row && list_all (same_type (record_of d.row)) d.waiting) (one_mark [] [] (markup.Element' tag.Form d.marks.0 d.marks.1) d.sites) h) [
  | inl z ↦ elim (both_false (are_apart s.env.known d.row) (list_all (same_type (record_of d.row)) d.waiting) z) [
    | inl x ↦ let m : (x : List RowPart) × (y : List RowPart) × Meets s.env.known d.row x y = meets_of s.env.known d.row x in breaks (Faults.at_node eg (Faults.fields_meet ed m.2))
    | inr x ↦ let u : (u : NormalType) × In u d.waiting × (same_type (record_of d.row) u ≡ false) = not_all_is (same_type (record_of d.row)) d.waiting x in breaks (Faults.at_node eg (Faults.other_record ed (contains-in u.0 d.waiting u.1) u.2))
  ]
  | inr z ↦ absurd (some_none z)
]

element_faulty : (names : List (List ℕ)) (w : World) (s : Scope) (a : Count) (splices : Row_of-Exp a) (c : Count) (attributes : Row_of-Exp c) (p q : Place) (t : WrittenTag) (attrs : List Attr) (o : Shape) (inner : Row_of-XmlPart (count o)) (st : Sites) (g : Tag) → AtTag w s p t attrs inner (node.element g q) →
    PartsFault names w s a splices c attributes q _ inner st → PartFault names w s a splices c attributes p (form.Element' t attrs o inner) st
element_faulty names w s a splices c attributes p q t attrs o inner st g eg (in_them r f) = in_it (in_element eg r) f
element_faulty names w s a splices c attributes p q t attrs o inner st g eg (break_them b) = breaks (Faults.at_node eg (Faults.within_element b))

in_form_faulty : (names : List (List ℕ)) (w : World) (s : Scope) (a : Count) (splices : Row_of-Exp a) (c : Count) (attributes : Row_of-Exp c) (p : Place) (t : WrittenTag) (attrs : List Attr) (o : Shape) (inner : Row_of-XmlPart (count o)) (st : Sites) → AtTag w s p t attrs inner node.form →
    PartsFault names w s a splices c attributes in_form _ inner st → PartFault names w s a splices c attributes p (form.Element' t attrs o inner) st
in_form_faulty names w s a splices c attributes p t attrs o inner st eg (in_them r f) = in_it (in_a_form eg r) f
in_form_faulty names w s a splices c attributes p t attrs o inner st eg (break_them b) = breaks (Faults.at_node eg (Faults.within_form b))

in_link_faulty : (names : List (List ℕ)) (w : World) (s : Scope) (a : Count) (splices : Row_of-Exp a) (c : Count) (attributes : Row_of-Exp c) (p : Place) (t : WrittenTag) (attrs : List Attr) (o : Shape) (inner : Row_of-XmlPart (count o)) (st : Sites) (i : ℕ) (f : ℕ × List Walk) (ts : List NormalType) (r : Args × Sites) → AtTag w s p t attrs inner (node.link i) →
    called_at (literal_of w s splices attributes) i ≡ Some f → page_params w.declared f.0 ≡ Some ts → args_out s f.1 ts st ≡ Some r → PartsFault names w s a splices c attributes p _ inner r.1 → PartFault names w s a splices c attributes p (form.Element' t attrs o inner) st
in_link_faulty names w s a splices c attributes p t attrs o inner st i f ts r eg ef ep er (in_them x g) = in_it (in_link eg ef ep er x) g
in_link_faulty names w s a splices c attributes p t attrs o inner st i f ts r eg ef ep er (break_them b) = breaks (Faults.at_node eg (Faults.within_link ef ep er b))

submit_faulty : (names : List (List ℕ)) (w : World) (s : Scope) (a : Count) (splices : Row_of-Exp a) (c : Count) (attributes : Row_of-Exp c) → Beside names w a splices c attributes → (p : Place) (t : WrittenTag) (attrs : List Attr) (o : Shape) (inner : Row_of-XmlPart (count o)) (st : Sites) (i : ℕ) (v : Option AttrValue) (f : ℕ × List Walk)
    (ts : List NormalType × NormalType) → AtTag w s p t attrs inner (node.submit i v) → called_at (literal_of w s splices attributes) i ≡ Some f → (ps : List NormalType) × (page_params w.declared f.0 ≡ Some ps) × (without_last ps ≡ Some ts) → submit_with (literal_of w s splices attributes) v st f ts ≡ None →
    PartFault names w s a splices c attributes p (form.Element' t attrs o inner) st
submit_faulty names w s a splices c attributes k p t attrs o inner st i v f ts eg ef ps h =
    let l : Literal = literal_of w s splices attributes in
    elim (if_none_is (are_linkable ts.0) _ h) [
      | inl z ↦ breaks (Faults.at_node eg (Faults.not_in_path ef ps.1 ps.2 z))
      | inr z ↦ elim (then_none_is _ (args_out s f.1 ts.0 st) z) [
        | inl y ↦
            let x : (y : ExpForm) × IsAntiquote c attributes i y × (call_walk w y s [] ≡ Some f) × ArgsExplained names w y = called_is names w s splices c attributes k.attributes_explained k.targets_explained i f ef in
            submit_target_faulty names w s a splices c attributes p t attrs o inner st i v x.0 f ps.0 ts eg x.1 ef ps.1 ps.2 (target_explained names w s all_but_last x.0 [] f ps.0 ts.0 st x.3 tt x.2 ps.1 (ap (option_map first_types) ps.2) y)
        | inr r ↦ elim (then_none_is _ (value_out l r.0.1 v) r.2) [
          | inl y ↦ sent_faulty names w s a splices c attributes p t attrs o inner st i v f ps.0 ts r.0 eg ef ps.1 ps.2 r.1 (value_explained names w s splices c attributes k.attributes_explained k.targets_explained r.0.1 v y)
          | inr y ↦ absurd (some_none y.2)
        ]
      ]
    ]

-- why the parts within a tag, and the tag, have no answer
abbrev InnerIsExplained : (names : List (List ℕ)) (w : World) (s : Scope) (a : Count) (splices : Row_of-Exp a) (c : Count) (attributes : Row_of-Exp c) (o : Shape) → Row_of-XmlPart (count o) → Type 0
InnerIsExplained names w s a splices c attributes o inner = (q : Place) (su : Sites) → parts_out (literal_of w s splices attributes) inner q su ≡ None → PartsFault names w s a splices c attributes q _ inner su

abbrev TagIsExplained : (names : List (List ℕ)) (w : World) (s : Scope) (a : Count) (splices : Row_of-Exp a) (c : Count) (attributes : Row_of-Exp c) (p : Place) (t : WrittenTag) (attrs : List Attr) (o : Shape) (inner : Row_of-XmlPart (count o)) → Sites → Node → Type 0
TagIsExplained names w s a splices c attributes p t attrs o inner st g = AtTag w s p t attrs inner g → node_out (literal_of w s splices attributes) p st (λ q st'. parts_out (literal_of w s splices attributes) inner q st') g ≡ None → PartFault names w s a splices c attributes p (form.Element' t attrs o inner) st

element_node : (names : List (List ℕ)) (w : World) (s : Scope) (a : Count) (splices : Row_of-Exp a) (c : Count) (attributes : Row_of-Exp c) → Beside names w a splices c attributes → (p : Place) (t : WrittenTag) (attrs : List Attr) (o : Shape) (inner : Row_of-XmlPart (count o)) (st : Sites) → InnerIsExplained names w s a splices c attributes o inner → (g : Tag) (q : Place) → TagIsExplained names w s a splices c attributes p t attrs o inner st (node.element g q)
element_node names w s a splices c attributes k p t attrs o inner st rec g q eg h =
    let l : Literal = literal_of w s splices attributes in
    elim (then_none_is (element_out g) (parts_out l inner q st) h) [
      | inl z ↦ element_faulty names w s a splices c attributes p q t attrs o inner st g eg (rec q st z)
      | inr z ↦ absurd (some_none z.2)
    ]

form_node : (names : List (List ℕ)) (w : World) (s : Scope) (a : Count) (splices : Row_of-Exp a) (c : Count) (attributes : Row_of-Exp c) → Beside names w a splices c attributes → (p : Place) (t : WrittenTag) (attrs : List Attr) (o : Shape) (inner : Row_of-XmlPart (count o)) (st : Sites) → InnerIsExplained names w s a splices c attributes o inner → TagIsExplained names w s a splices c attributes p t attrs o inner st node.form
form_node names w s a splices c attributes k p t attrs o inner st rec eg h =
    let l : Literal = literal_of w s splices attributes in
    elim (then_none_is (form_out s.env.known) (parts_out l inner in_form st) h) [
      | inl z ↦ in_form_faulty names w s a splices c attributes p t attrs o inner st eg (rec in_form st z)
      | inr d ↦ form_faulty names w s a splices c attributes p t attrs o inner st d.0 eg d.1 d.2
    ]

link_node : (names : List (List ℕ)) (w : World) (s : Scope) (a : Count) (splices : Row_of-Exp a) (c : Count) (attributes : Row_of-Exp c) → Beside names w a splices c attributes → (p : Place) (t : WrittenTag) (attrs : List Attr) (o : Shape) (inner : Row_of-XmlPart (count o)) (st : Sites) → InnerIsExplained names w s a splices c attributes o inner → (i : ℕ) → TagIsExplained names w s a splices c attributes p t attrs o inner st (node.link i)
link_node names w s a splices c attributes k p t attrs o inner st rec i eg h =
    let l : Literal = literal_of w s splices attributes in
    let rest : Inner = λ st'. parts_out l inner p st' in
    elim (then_none_is (link_out l rest st) (called_at l i) h) [
      | inl z ↦ breaks (Faults.at_node eg (Faults.no_call z))
      | inr f ↦ elim (then_none_is (link_with l rest st f.0) (page_params w.declared f.0.0) f.2) [
        | inl z ↦ breaks (Faults.at_node eg (Faults.no_page f.1 z))
        | inr ts ↦ elim (if_none_is (are_linkable ts.0) (option_and_then (linked rest f.0) (args_out s f.0.1 ts.0 st)) ts.2) [
          | inl z ↦ breaks (Faults.at_node eg (Faults.no_link f.1 ts.1 z))
          | inr z ↦ elim (then_none_is (linked rest f.0) (args_out s f.0.1 ts.0 st) z) [
            | inl y ↦
                let x : (y : ExpForm) × IsAntiquote c attributes i y × (call_walk w y s [] ≡ Some f.0) × ArgsExplained names w y = called_is names w s splices c attributes k.attributes_explained k.targets_explained i f.0 f.1 in
                link_target_faulty names w s a splices c attributes p t attrs o inner st i x.0 f.0 ts.0 eg x.1 f.1 ts.1 (target_explained names w s all_types x.0 [] f.0 ts.0 ts.0 st x.3 tt x.2 ts.1 refl y)
            | inr r ↦ elim (then_none_is (linked_with f.0 r.0) (parts_out l inner p r.0.1) r.2) [
              | inl y ↦ in_link_faulty names w s a splices c attributes p t attrs o inner st i f.0 ts.0 r.0 eg f.1 ts.1 r.1 (rec p r.0.1 y)
              | inr y ↦ absurd (some_none y.2)
            ]
          ]
        ]
      ]
    ]

input_node : (names : List (List ℕ)) (w : World) (s : Scope) (a : Count) (splices : Row_of-Exp a) (c : Count) (attributes : Row_of-Exp c) → Beside names w a splices c attributes → (p : Place) (t : WrittenTag) (attrs : List Attr) (o : Shape) (inner : Row_of-XmlPart (count o)) (st : Sites) → InnerIsExplained names w s a splices c attributes o inner → (f : FieldKind) (x : Label) (v : Option AttrValue) → TagIsExplained names w s a splices c attributes p t attrs o inner st (node.input f x v)
input_node names w s a splices c attributes k p t attrs o inner st rec f x v eg h =
    let l : Literal = literal_of w s splices attributes in
    elim (if_none_is (label_is_in (variables s.env) x) _ h) [
      | inl z ↦ breaks (Faults.at_node eg (Faults.no_label z))
      | inr z ↦ elim (then_none_is _ (value_out l st v) z) [
        | inl y ↦ input_faulty names w s a splices c attributes p t attrs o inner st f x v eg (value_explained names w s splices c attributes k.attributes_explained k.targets_explained st v y)
        | inr y ↦ absurd (some_none y.2)
      ]
    ]

submit_node : (names : List (List ℕ)) (w : World) (s : Scope) (a : Count) (splices : Row_of-Exp a) (c : Count) (attributes : Row_of-Exp c) → Beside names w a splices c attributes → (p : Place) (t : WrittenTag) (attrs : List Attr) (o : Shape) (inner : Row_of-XmlPart (count o)) (st : Sites) → InnerIsExplained names w s a splices c attributes o inner → (i : ℕ) (v : Option AttrValue) → TagIsExplained names w s a splices c attributes p t attrs o inner st (node.submit i v)
submit_node names w s a splices c attributes k p t attrs o inner st rec i v eg h =
    let l : Literal = literal_of w s splices attributes in
    elim (then_none_is (submit_out l v st) (called_at l i) h) [
      | inl z ↦ breaks (Faults.at_node eg (Faults.no_action z))
      | inr f ↦ elim (then_none_is (submit_with l v st f.0) (option_and_then without_last (page_params w.declared f.0.0)) f.2) [
        | inl z ↦ elim (then_none_is without_last (page_params w.declared f.0.0) z) [
          | inl y ↦ breaks (Faults.at_node eg (Faults.no_page_action f.1 y))
          | inr ps ↦ breaks (Faults.at_node eg (Faults.no_form_taken f.1 (ps.1 ∙ ap (λ z. Some z) (no_last ps.0 ps.2))))
        ]
        | inr ts ↦ submit_faulty names w s a splices c attributes k p t attrs o inner st i v f.0 ts.0 eg f.1 (opened without_last (page_params w.declared f.0.0) ts.0 ts.1) ts.2
      ]
    ]

node_explained : (names : List (List ℕ)) (w : World) (s : Scope) (a : Count) (splices : Row_of-Exp a) (c : Count) (attributes : Row_of-Exp c) → Beside names w a splices c attributes → (p : Place) (t : WrittenTag) (attrs : List Attr) (o : Shape) (inner : Row_of-XmlPart (count o)) (st : Sites) → InnerIsExplained names w s a splices c attributes o inner → (g : Node) → TagIsExplained names w s a splices c attributes p t attrs o inner st g
node_explained names w s a splices c attributes k p t attrs o inner st rec (node.element g q) = element_node names w s a splices c attributes k p t attrs o inner st rec g q
node_explained names w s a splices c attributes k p t attrs o inner st rec node.form = form_node names w s a splices c attributes k p t attrs o inner st rec
node_explained names w s a splices c attributes k p t attrs o inner st rec (node.link i) = link_node names w s a splices c attributes k p t attrs o inner st rec i
node_explained names w s a splices c attributes k p t attrs o inner st rec (node.input f x v) = input_node names w s a splices c attributes k p t attrs o inner st rec f x v
node_explained names w s a splices c attributes k p t attrs o inner st rec (node.submit i v) = submit_node names w s a splices c attributes k p t attrs o inner st rec i v

mutual
  parts_explained : (names : List (List ℕ)) (w : World) (s : Scope) (a : Count) (splices : Row_of-Exp a) (c : Count) (attributes : Row_of-Exp c) → Beside names w a splices c attributes → (p : Place) (n : Count) (xs : Row_of-XmlPart n) (st : Sites) → parts_out (literal_of w s splices attributes) xs p st ≡ None →
      PartsFault names w s a splices c attributes p n xs st
  parts_explained names w s a splices c attributes k p _ no_xml st h = absurd (some_none h)
  parts_explained names w s a splices c attributes k p _ (an_xml {n = n} at x rest) st h =
      let l : Literal = literal_of w s splices attributes in
      elim (then_none_is (λ d. option_map (and_marks d) (parts_out l rest p d.sites)) (part_out l x p st) h) [
        | inl z ↦ first_fault names w s a splices c attributes p n at x rest st (part_explained names w s a splices c attributes k p x st z)
        | inr d ↦ later_fault names w s a splices c attributes p n at x rest st d.0 d.1 (parts_explained names w s a splices c attributes k p n rest d.0.sites (map_none_is (and_marks d.0) (parts_out l rest p d.0.sites) d.2))
      ]

  part_explained : (names : List (List ℕ)) (w : World) (s : Scope) (a : Count) (splices : Row_of-Exp a) (c : Count) (attributes : Row_of-Exp c) → Beside names w a splices c attributes → (p : Place) (x : XmlForm) (st : Sites) → part_out (literal_of w s splices attributes) x p st ≡ None →
      PartFault names w s a splices c attributes p x st
  part_explained names w s a splices c attributes k p (form.Text t) st h = text_faulty names w s a splices c attributes p t st (is_kept p t) refl h
  part_explained names w s a splices c attributes k p (form.Show n) st h = shown_faulty names w s a splices c attributes k p n st h
  part_explained names w s a splices c attributes k p (form.Splice n) st h = splice_faulty names w s a splices c attributes k p n st h
  part_explained names w s a splices c attributes k p (form.Element' t attrs o inner) st h =
      let l : Literal = literal_of w s splices attributes in
      elim (then_none_is (node_out l p st (λ q st'. parts_out l inner q st')) (node_at (known_in s.names.cons) p t attrs (is_end inner)) h) [
        | inl z ↦ let r : (r : Refusal) × IsBadTag (label_of_tag (known_in s.names.cons) t.field) p t attrs (is_end inner) r = bad_tag_of (label_of_tag (known_in s.names.cons) t.field) p t attrs (is_end inner) z in breaks (Faults.no_node r.1)
        | inr g ↦ node_explained names w s a splices c attributes k p t attrs o inner st (λ q su z. parts_explained names w s a splices c attributes k q _ inner su z) g.0 g.1 g.2
      ]

-- ---- the whole

sort_faulty : (names : List (List ℕ)) (w : World) (s : Scope) (st : Sites) (m : Mode) (x : Xml) (n : Shape) (ss : Row_of-Exp (count n)) (k : Shape) (ats : Row_of-Exp (count k)) (t : Option NormalType) → type_of_mode m ≡ t → literal_sort (row_of_parts x.parts).1 t ≡ None → IsFaulty names w s st (e.Xml' x n ss k ats) m
sort_faulty names w s st m x n ss k ats None et h = absurd (some_none h)
sort_faulty names w s st m x n ss k ats (Some t) et h = here_faulty _ (Causes.no_sort et h)

kept_faulty : (names : List (List ℕ)) (w : World) (s : Scope) (st : Sites) (m : Mode) (x : Xml) (n : Shape) (ss : Row_of-Exp (count n)) (k : Shape) (ats : Row_of-Exp (count k)) (o : Sort) (d : Marked) → literal_sort (row_of_parts x.parts).1 (type_of_mode m) ≡ Some o →
    parts_out (literal_of w s ss ats) (row_of_parts x.parts).1 (place_of o) st ≡ Some d → sort_fits s.env.known o d.row ≡ false → IsFaulty names w s st (e.Xml' x n ss k ats) m
kept_faulty names w s st m x n ss k ats places.fields d eo ed h = let q : (a : List RowPart) × (b : List RowPart) × Meets s.env.known d.row a b = meets_of s.env.known d.row h in here_faulty _ (Causes.literal_meets eo ed q.2)
kept_faulty names w s st m x n ss k ats _ d eo ed h = absurd (true≢false h)

whole_faulty : (names : List (List ℕ)) (w : World) (s : Scope) (st : Sites) (m : Mode) (x : Xml) (n : Shape) (ss : Row_of-Exp (count n)) (k : Shape) (ats : Row_of-Exp (count k)) (o : Sort) → literal_sort (row_of_parts x.parts).1 (type_of_mode m) ≡ Some o → PartsFault names w s _ ss _ ats (place_of o) _ (row_of_parts x.parts).1 st →
    IsFaulty names w s st (e.Xml' x n ss k ats) m
whole_faulty names w s st m x n ss k ats o eo (in_them r f) = part_faulty (Parts.in_xml eo r) f
whole_faulty names w s st m x n ss k ats o eo (break_them {f = f} b) = here_faulty f (Causes.in_literal eo b)

abbrev literal_type : Literal → Sort → Marked → Option Out
literal_type l o d = if_so (sort_fits l.scope.env.known o d.row) (gives (sort_type o d.row) (exp.Xml' (sort_type o d.row) d.marks.0 d.marks.1) d.sites)

pub xml_explained : (names : List (List ℕ)) (w : World) → IsWorld w → (x : Xml) (n : Shape) (ss : Row_of-Exp (count n)) (k : Shape) (ats : Row_of-Exp (count k)) → RowExplained names w ss → RowExplained names w ats → TargetsExplained names w ats → Explained names w (e.Xml' x n ss k ats)
xml_explained names w i x n ss k ats ks ka kt = explained_by names w (e.Xml' x n ss k ats) (λ s st m h.
    elim (then_none_is (sorted_out (literal_of w s ss ats) (row_of_parts x.parts).1 st) (literal_sort (row_of_parts x.parts).1 (type_of_mode m)) h) [
      | inl z ↦ sort_faulty names w s st m x n ss k ats (type_of_mode m) refl z
      | inr o ↦ elim (if_none_is (is_framed o.0 (row_of_parts x.parts).1) (option_and_then (literal_type (literal_of w s ss ats) o.0) (parts_out (literal_of w s ss ats) (row_of_parts x.parts).1 (place_of o.0) st)) o.2) [
        | inl z ↦ let r : (r : Refusal) × IsBadFrame o.0 (items-the_row-XmlPart _ (row_of_parts x.parts).1) r = bad_frame_of o.0 _ (row_of_parts x.parts).1 z in here_faulty _ (Causes.no_frame o.1 r.1)
        | inr z ↦ elim (then_none_is (literal_type (literal_of w s ss ats) o.0) (parts_out (literal_of w s ss ats) (row_of_parts x.parts).1 (place_of o.0) st) z) [
          | inl y ↦ whole_faulty names w s st m x n ss k ats o.0 o.1 (parts_explained names w s _ ss _ ats (record { splices_explained = ks; attributes_explained = ka; targets_explained = kt }) (place_of o.0) _ (row_of_parts x.parts).1 st y)
          | inr d ↦ elim (if_none_is (sort_fits s.env.known o.0 d.0.row) _ d.2) [ inl y ↦ kept_faulty names w s st m x n ss k ats o.0 d.0 o.1 d.1 y | inr y ↦ absurd (some_none y) ]
        ]
      ]
    ])
