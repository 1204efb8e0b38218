-- Elements of XML, and whole literals: what is typed resolves and has its type by the rules.
use Rattle.std.proofs.Common.{arith, ◌≡◌, ◌∙◌, refl, sym, ap, subst, Bool, true, false, true≢false, Option, Some, None, List, [], ◌∷◌, ◌++◌, ℕ}
use Rattle.std.specs.Prelude.{◌≤◌, ◌&&◌, if◌then◌else◌, not, option_map, option_and_then, slice_get, is_none, codes}
use Rattle.std.specs.List.{list_all}
use mathlib.Core.Former.{Count}
use Rattle.ur_base.specs.Shape.{Shape, count}
use Rattle.ur_syntax.specs.declared.exp.ExpForm.{ExpForm, Row_of-Exp}
use Rattle.ur_syntax.specs.declared.exp.ExpForm.TheVariants as e
use Rattle.ur_syntax.specs.declared.xml.Attr.{Attr}
use Rattle.ur_syntax.specs.declared.xml.AttrValue.{AttrValue}
use Rattle.ur_syntax.specs.declared.xml.Tag.{Tag as WrittenTag}
use Rattle.ur_syntax.specs.declared.xml.Xml.{Xml}
use Rattle.ur_syntax.specs.declared.xml.XmlForm.{XmlForm, Row_of-XmlPart, end_of-XmlPart as no_xml, more_of-XmlPart as an_xml, items-the_row-XmlPart}
use Rattle.ur_syntax.specs.declared.xml.XmlForm.TheVariants as form
use Rattle.ur_values.specs.declared.value.FieldKind.{FieldKind}
use Rattle.ur_values.specs.declared.value.Tag.{Tag}
use Rattle.ur_values.specs.declared.value.Tag.TheVariants as tag
use Rattle.ur_tags.specs.Show.{tag_word}
use Rattle.ur_rows.specs.declared.normal.Label.{Label}
use Rattle.ur_rows.specs.declared.normal.NormalType.{NormalType, end_of-NormalType as sole, more_of-NormalType as the}
use Rattle.ur_rows.specs.declared.normal.NormalType.TheVariants as ty
use Rattle.ur_rows.specs.declared.normal.Part.{Part as RowPart}
use Rattle.ur_rows.specs.Apart.{Assumptions}
use Rattle.ur_rows.specs.Kinded.{label_is_in}
use Rattle.ur_rows.specs.Made.{record_of}
use Rattle.ur_rows.specs.Nodes.{type_nodes}
use Rattle.ur_rows.specs.Normal.{known_in}
use Rattle.ur_rows.specs.Types.{field}
use Rattle.ur_tree.specs.Places.{Place, in_page, in_form, is_flow, holds_fields, inside, may_have_value, Sort, page, body, table, row, fields, sort_of, place_of}
use Rattle.ur_tree.specs.Places as places
use Rattle.ur_xmltype.specs.Tags.{Node, node_at, is_in_form, field_of}
use Rattle.ur_xmltype.specs.Tags as node
use Rattle.ur_xmltype.specs.Literal.{Framed, after_step, is_kept, is_blank, is_end, literal_sort, is_framed, frame_fault, framed_form, framed_step, element_framed, text_framed, first_of, row_of_parts, sort_type}
use Rattle.ur_xmltype.specs.Literal as framed
use Rattle.ur_syntax.specs.declared.xml.XmlPart.{XmlPart}
use Rattle.ur_tree.specs.declared.exp.Exp.TheVariants as exp
use Rattle.ur_tree.specs.declared.exp.Exp.TheBlock.{Row_of-Markup, end_of-Markup as no_markup, more_of-Markup as a_markup, Held-Exp-Tagged-1}
use Rattle.ur_tree.specs.declared.exp.Markup.{Markup}
use Rattle.ur_tree.specs.declared.exp.Markup.TheVariants as markup
use Rattle.ur_tree.specs.Env.{variables}
use Rattle.ur_tree.specs.Typing.{Accepts, Marks, ElementAt, HasFields, Literal as LiteralIs, are_linkable, first_sort, is_page as is_page_row, is_framed as is_framed_row}
use Rattle.ur_typed_rules.specs.Scopes.{World, Scope, Mode, finds, wants, type_of_mode}
use Rattle.ur_typed_rules.specs.Tests.{same_type, are_apart}
use Rattle.ur_typed_rules.proofs.Rows.{one_row}
use Rattle.ur_typed.specs.Resolves.{Statements, parts_none, part_element, part_form, part_link, part_input, part_submit}
use Rattle.ur_typed.specs.Resolves as resolves
use Rattle.ur_typed.specs.Rules.{fits, Sites, Out, Walk, Args, gives, args_out}
use Rattle.ur_typed.specs.Markups.{Literal, Markups, Marked, no_marks, one_mark, both_rows, and_marks, if_kept, element_out, form_out, page_params, without_last, link_with, link_out, value_out, submit_with, submit_out, called_at, node_out, parts_out, part_out, sort_fits, sorted_out}
use Rattle.ur_typed.specs.Parts.{literal_of}
use Rattle.ur_typed_laws.specs.Judged.{AreTold, Fills, stated, Judged, Sound}
use Rattle.ur_typed_laws.proofs.Numbers.{numbered_none, numbered_both, numbered_link, numbered_action}
use Rattle.ur_typed_laws.proofs.Sound.{IsSettled, settled_by, sound_at}
use Rattle.ur_typed_laws.proofs.Applications.{none_given, ArgsAreSound, args_sound}
use Rattle.ur_typed_laws.proofs.Stating.{RowIsSound}
use Rattle.ur_typed_laws.proofs.Tagging.{is_form, MayStand, NodeIs, element_is, form_is, link_is, input_is, submit_is, node_is, tag_sort, link_sort, submit_sort, field_sort, inside_keeps}
use Rattle.ur_typed_laws.proofs.Marking.{TargetsSound, Beside, CallSound, call_is, TargetIs, target_is, PageIs, page_is, last_is, ValueIs, value_is, WaitFor, wait_all, PartsAreSound, PartIsSound, stays, both_sound, marked, text_sound, shown_sound, splice_sound}
use Rattle.ur_typed_rules.specs.Rules.{if_so}
use Rattle.ur_typed_rules.proofs.Options.{some_of, opened, opened_if, both_true, mapped}

-- ---- elements

element_at : (known : Assumptions) (p : Place) (g : Tag) (within : Place → List RowPart → List RowPart → Type 0) (r own_row : List RowPart) (q : Place) → is_form g ≡ false → inside p g ≡ Some q → within q own_row r → ElementAt known p g within r own_row
element_at known p tag.Form within r own_row q i h k = cc
element_at known p _ within r own_row q i h k = (q, h, k)

abbrev AtTag : World → Scope → Place → WrittenTag → List Attr → {n : Count} → Row_of-XmlPart n → Node → Type 0
AtTag w s p t attrs inner g = node_at (known_in s.names.cons) p t attrs (is_end inner) ≡ Some g

element_sound : (w : World) (s : Scope) (a : Count) (splices : Row_of-Exp a) (c : Count) (attributes : Row_of-Exp c) (p q : Place) (t : WrittenTag) (attrs : List Attr) (k : Shape) (inner : Row_of-XmlPart (count k)) (st : Sites) (d : Statements) (g : Tag) (m : Marked) → AtTag w s p t attrs inner (node.element g q) → tag_word g ≡ t.word → is_form g ≡ false →
    inside p g ≡ Some q → PartsAreSound w s a splices c attributes q _ inner st d m → PartIsSound w s a splices c attributes p st d (form.Element' t attrs k inner) (marked m.row m.waiting (markup.Element' g m.marks.0 m.marks.1) m.sites)
element_sound w s a splices c attributes p q t attrs k inner st d g m eg ew eo ei i =
    stays i.before (part_element eg i.resolve) (λ own_row wt. element_at s.env.known p g (λ q' x y. Marks (stated d w).declared w.most s.env q' m.marks.1 x y) m.row own_row q eo ei (i.marks own_row wt)) i.numbered
    (λ h. i.no_fields (inside_keeps holds_fields refl refl refl refl refl refl p g q eo ei h)) (λ h. i.no_waiting (inside_keeps is_in_form refl refl refl refl refl refl p g q eo ei h)) (λ n rest. tag_sort g t.word ew)

form_sound : AreTold → (w : World) (s : Scope) (a : Count) (splices : Row_of-Exp a) (c : Count) (attributes : Row_of-Exp c) (p : Place) (t : WrittenTag) (attrs : List Attr) (k : Shape) (inner : Row_of-XmlPart (count k)) (st : Sites) (d : Statements) (m : Marked) → AtTag w s p t attrs inner node.form → tag_word tag.Form ≡ t.word →
    inside p tag.Form ≡ Some in_form → are_apart s.env.known m.row ≡ true → list_all (same_type (record_of m.row)) m.waiting ≡ true → PartsAreSound w s a splices c attributes in_form _ inner st d m →
    PartIsSound w s a splices c attributes p st d (form.Element' t attrs k inner) (marked [] [] (markup.Element' tag.Form m.marks.0 m.marks.1) m.sites)
form_sound told w s a splices c attributes p t attrs k inner st d m eg ew ei ea el i =
    stays i.before (part_form eg i.resolve) (λ own_row wt. (ei, (m.row, i.marks m.row (wait_all told m.row m.waiting el), (one_row s.env.known m.row).0 ea), refl)) i.numbered (λ h. refl) (λ h. refl) (λ n rest. tag_sort tag.Form t.word ew)

link_sound : (w : World) (s : Scope) (a : Count) (splices : Row_of-Exp a) (c : Count) (attributes : Row_of-Exp c) (p : Place) (t : WrittenTag) (attrs : List Attr) (k : Shape) (inner : Row_of-XmlPart (count k)) (st : Sites) (d : Statements) (i : ℕ) (f : ℕ × List Walk) (ts : List NormalType) (r : Args × Sites) (m : Marked) →
    AtTag w s p t attrs inner (node.link i) → is_flow p ≡ true → t.word ≡ codes "a" → TargetIs w s c attributes i f → PageIs w f.0 ts → are_linkable ts ≡ true → args_out s f.1 ts st ≡ Some r → Fills w d r.1 → PartsAreSound w s a splices c attributes p _ inner r.1 d m →
    PartIsSound w s a splices c attributes p st d (form.Element' t attrs k inner) (marked m.row m.waiting (markup.Link' f.0 r.0.0 r.0.1 m.marks.0 m.marks.1) m.sites)
link_sound w s a splices c attributes p t attrs k inner st d i f ts r m eg ef ew target pg el ea g im =
    let ia : ArgsAreSound w s target.call.args ts st d r = args_sound w s target.call.args ts target.call.sound st r (subst (λ v. args_out s v ts st ≡ Some r) (sym target.call.are) ea) d g in
    linked (target.call.resolves d r.0.0 r.0.1 ia.resolve) where
      linked : CallSound d w s target.written [] f.0 r.0.0 r.0.1 → PartIsSound w s a splices c attributes p st d (form.Element' t attrs k inner) (marked m.row m.waiting (markup.Link' f.0 r.0.0 r.0.1 m.marks.0 m.marks.1) m.sites)
      linked (call_is none_given cs) =
          let ia : ArgsAreSound w s target.call.args ts st d r = args_sound w s target.call.args ts target.call.sound st r (subst (λ v. args_out s v ts st ≡ Some r) (sym target.call.are) ea) d g in
          stays ia.before (part_link eg target.there cs im.resolve) (λ own_row wt. (ef, (ts, (pg.head, pg.there, pg.page, pg.types), el, ia.wanted), im.marks own_row wt)) (numbered_link f.0 (numbered_both ia.numbered im.numbered)) im.no_fields im.no_waiting (λ n rest. link_sort t.word ew)

-- what has no parts
no_parts : (k : Shape) (inner : Row_of-XmlPart (count k)) → is_end inner ≡ true → ◌≡◌ {A = (k : Shape) × Row_of-XmlPart (count k)} ([], no_xml) (k, inner)
no_parts [] no_xml h = refl
no_parts (tt ∷ k) (an_xml at x rest) h = cc

input_sound : (w : World) (s : Scope) (a : Count) (splices : Row_of-Exp a) (c : Count) (attributes : Row_of-Exp c) (p : Place) (t : WrittenTag) (attrs : List Attr) (st : Sites) (d : Statements) (k : FieldKind) (x : Label) (v : Option AttrValue) (h : Held-Exp-Tagged-1 × Sites) →
    node_at (known_in s.names.cons) p t attrs true ≡ Some (node.input k x v) → holds_fields p ≡ true → field_of t.word ≡ Some k → label_is_in (variables s.env) x ≡ true → ValueIs w s c attributes (may_have_value k) st v d h →
    PartIsSound w s a splices c attributes p st d (form.Element' t attrs [] no_xml) (marked (field x (places.field_type k) ∷ []) [] (markup.Input' k x h.0) h.1)
input_sound w s a splices c attributes p t attrs st d k x v h eg hp ek el i =
    stays i.before (part_input eg i.resolve) (λ own_row wt. (hp, el, i.has, refl)) i.numbered (λ z. absurd (true≢false (sym hp ∙ z))) (λ z. refl) (λ n rest. field_sort t.word k ek)

submit_sound : (w : World) (s : Scope) (a : Count) (splices : Row_of-Exp a) (c : Count) (attributes : Row_of-Exp c) (p : Place) (t : WrittenTag) (attrs : List Attr) (st : Sites) (d : Statements) (i : ℕ) (v : Option AttrValue) (f : ℕ × List Walk) (ps : List NormalType) (ts : List NormalType × NormalType) (r : Args × Sites) (h : Held-Exp-Tagged-1 × Sites) →
    node_at (known_in s.names.cons) p t attrs true ≡ Some (node.submit i v) → p ≡ in_form → t.word ≡ codes "submit" → TargetIs w s c attributes i f → PageIs w f.0 ps → without_last ps ≡ Some ts → are_linkable ts.0 ≡ true → args_out s f.1 ts.0 st ≡ Some r → ValueIs w s c attributes true r.1 v d h →
    PartIsSound w s a splices c attributes p st d (form.Element' t attrs [] no_xml) (marked [] (ts.1 ∷ []) (markup.Submit' f.0 r.0.0 r.0.1 h.0) h.1)
submit_sound w s a splices c attributes p t attrs st d i v f ps ts r h eg ep ew target pg et el ea iv =
    let ia : ArgsAreSound w s target.call.args ts.0 st d r = args_sound w s target.call.args ts.0 target.call.sound st r (subst (λ v. args_out s v ts.0 st ≡ Some r) (sym target.call.are) ea) d iv.before in
    sent (target.call.resolves d r.0.0 r.0.1 ia.resolve) where
      sent : CallSound d w s target.written [] f.0 r.0.0 r.0.1 → PartIsSound w s a splices c attributes p st d (form.Element' t attrs [] no_xml) (marked [] (ts.1 ∷ []) (markup.Submit' f.0 r.0.0 r.0.1 h.0) h.1)
      sent (call_is none_given cs) =
          let ia : ArgsAreSound w s target.call.args ts.0 st d r = args_sound w s target.call.args ts.0 target.call.sound st r (subst (λ v. args_out s v ts.0 st ≡ Some r) (sym target.call.are) ea) d iv.before in
          stays ia.before (part_submit eg target.there cs iv.resolve)
          (λ own_row wt. (ep, (ts.0, (pg.head, pg.there, pg.page, pg.types ∙ (last_is ps ts et ∙ ap (λ z. ts.0 ++ z ∷ []) wt.0)), el, ia.wanted), iv.has, refl))
          (numbered_action f.0 (numbered_both ia.numbered iv.numbered)) (λ z. refl) (λ z. absurd (true≢false (sym (ap is_in_form ep) ∙ z))) (λ n rest. submit_sort t.word ew)

-- ---- all parts

abbrev Inner : Type 0
Inner = Sites → Option Marked

abbrev linked_with : ℕ × List Walk → Args × Sites → Marked → Option Marked
linked_with f r m = one_mark m.row m.waiting (markup.Link' f.0 r.0.0 r.0.1 m.marks.0 m.marks.1) m.sites

abbrev linked_by : Inner → ℕ × List Walk → Args × Sites → Option Marked
linked_by inner f r = option_and_then (linked_with f r) (inner r.1)

abbrev inputted : FieldKind → Label → Held-Exp-Tagged-1 × Sites → Option Marked
inputted k x h = one_mark (field x (places.field_type k) ∷ []) [] (markup.Input' k x h.0) h.1

abbrev sent_with : ℕ × List Walk → List NormalType × NormalType → Args × Sites → Held-Exp-Tagged-1 × Sites → Option Marked
sent_with f ts r h = one_mark [] (ts.1 ∷ []) (markup.Submit' f.0 r.0.0 r.0.1 h.0) h.1

abbrev sent_by : Literal → Option AttrValue → ℕ × List Walk → List NormalType × NormalType → Args × Sites → Option Marked
sent_by l v f ts r = option_and_then (sent_with f ts r) (value_out l r.1 v)

-- what is known of the parts within a tag, and of the tag
abbrev InnerIsSound : (w : World) (s : Scope) (a : Count) (splices : Row_of-Exp a) (c : Count) (attributes : Row_of-Exp c) (k : Shape) → Row_of-XmlPart (count k) → Type 0
InnerIsSound w s a splices c attributes k inner = (q : Place) (su : Sites) (u : Marked) → parts_out (literal_of w s splices attributes) inner q su ≡ Some u → (d : Statements) → Fills w d u.sites → PartsAreSound w s a splices c attributes q _ inner su d u

abbrev TagIsSound : (w : World) (s : Scope) (a : Count) (splices : Row_of-Exp a) (c : Count) (attributes : Row_of-Exp c) (p : Place) (t : WrittenTag) (attrs : List Attr) (k : Shape) (inner : Row_of-XmlPart (count k)) → Sites → Node → Type 0
TagIsSound w s a splices c attributes p t attrs k inner st n = (m : Marked) → AtTag w s p t attrs inner n → node_out (literal_of w s splices attributes) p st (λ q st'. parts_out (literal_of w s splices attributes) inner q st') n ≡ Some m → (d : Statements) → Fills w d m.sites →
    PartIsSound w s a splices c attributes p st d (form.Element' t attrs k inner) m

element_tag : AreTold → (w : World) (s : Scope) (a : Count) (splices : Row_of-Exp a) (c : Count) (attributes : Row_of-Exp c) → Beside w s a splices c attributes → (p : Place) (t : WrittenTag) (attrs : List Attr) (k : Shape) (inner : Row_of-XmlPart (count k)) (st : Sites) → InnerIsSound w s a splices c attributes k inner → (g : Tag) (q : Place) → tag_word g ≡ t.word → is_form g ≡ false → inside p g ≡ Some q → TagIsSound w s a splices c attributes p t attrs k inner st (node.element g q)
element_tag told w s a splices c attributes b p t attrs k inner st rec g q ew eo ei m eg h d f =
    let l : Literal = literal_of w s splices attributes in
    let u : (u : Marked) × (parts_out l inner q st ≡ Some u) × (element_out g u ≡ Some m) = opened (element_out g) (parts_out l inner q st) m h in
    let i : marked u.0.row u.0.waiting (markup.Element' g u.0.marks.0 u.0.marks.1) u.0.sites ≡ m = some_of u.2 in
    subst (PartIsSound w s a splices c attributes p st d (form.Element' t attrs k inner)) i
    (element_sound w s a splices c attributes p q t attrs k inner st d g u.0 eg ew eo ei (rec q st u.0 u.1 d (subst (λ v. Fills w d v.sites) (sym i) f)))

form_tag : AreTold → (w : World) (s : Scope) (a : Count) (splices : Row_of-Exp a) (c : Count) (attributes : Row_of-Exp c) → Beside w s a splices c attributes → (p : Place) (t : WrittenTag) (attrs : List Attr) (k : Shape) (inner : Row_of-XmlPart (count k)) (st : Sites) → InnerIsSound w s a splices c attributes k inner → tag_word tag.Form ≡ t.word → inside p tag.Form ≡ Some in_form → TagIsSound w s a splices c attributes p t attrs k inner st node.form
form_tag told w s a splices c attributes b p t attrs k inner st rec ew ei m eg h d f =
    let l : Literal = literal_of w s splices attributes in
    let u : (u : Marked) × (parts_out l inner in_form st ≡ Some u) × (form_out s.env.known u ≡ Some m) = opened (form_out s.env.known) (parts_out l inner in_form st) m h in
    let z : Option Marked = one_mark [] [] (markup.Element' tag.Form u.0.marks.0 u.0.marks.1) u.0.sites in
    let q : ((are_apart s.env.known u.0.row && list_all (same_type (record_of u.0.row)) u.0.waiting) ≡ true) × (z ≡ Some m) = opened_if (are_apart s.env.known u.0.row && list_all (same_type (record_of u.0.row)) u.0.waiting) z m u.2 in
    let r : (are_apart s.env.known u.0.row ≡ true) × (list_all (same_type (record_of u.0.row)) u.0.waiting ≡ true) = both_true (are_apart s.env.known u.0.row) (list_all (same_type (record_of u.0.row)) u.0.waiting) q.0 in
    let i : marked [] [] (markup.Element' tag.Form u.0.marks.0 u.0.marks.1) u.0.sites ≡ m = some_of q.1 in
    subst (PartIsSound w s a splices c attributes p st d (form.Element' t attrs k inner)) i
    (form_sound told w s a splices c attributes p t attrs k inner st d u.0 eg ew ei r.0 r.1 (rec in_form st u.0 u.1 d (subst (λ v. Fills w d v.sites) (sym i) f)))

link_tag : AreTold → (w : World) (s : Scope) (a : Count) (splices : Row_of-Exp a) (c : Count) (attributes : Row_of-Exp c) → Beside w s a splices c attributes → (p : Place) (t : WrittenTag) (attrs : List Attr) (k : Shape) (inner : Row_of-XmlPart (count k)) (st : Sites) → InnerIsSound w s a splices c attributes k inner → (j : ℕ) → is_flow p ≡ true → t.word ≡ codes "a" → TagIsSound w s a splices c attributes p t attrs k inner st (node.link j)
link_tag told w s a splices c attributes b p t attrs k inner st rec j ef ew m eg h d g =
    let l : Literal = literal_of w s splices attributes in
    let rest : Inner = λ st'. parts_out l inner p st' in
    let f : (f : ℕ × List Walk) × (called_at l j ≡ Some f) × (link_out l rest st f ≡ Some m) = opened (link_out l rest st) (called_at l j) m h in
    let ts : (ts : List NormalType) × (page_params w.declared f.0.0 ≡ Some ts) × (link_with l rest st f.0 ts ≡ Some m) = opened (link_with l rest st f.0) (page_params w.declared f.0.0) m f.2 in
    let q : (are_linkable ts.0 ≡ true) × (option_and_then (linked_by rest f.0) (args_out s f.0.1 ts.0 st) ≡ Some m) = opened_if (are_linkable ts.0) (option_and_then (linked_by rest f.0) (args_out s f.0.1 ts.0 st)) m ts.2 in
    let r : (r : Args × Sites) × (args_out s f.0.1 ts.0 st ≡ Some r) × (linked_by rest f.0 r ≡ Some m) = opened (linked_by rest f.0) (args_out s f.0.1 ts.0 st) m q.1 in
    let u : (u : Marked) × (parts_out l inner p r.0.1 ≡ Some u) × (linked_with f.0 r.0 u ≡ Some m) = opened (linked_with f.0 r.0) (parts_out l inner p r.0.1) m r.2 in
    let i : marked u.0.row u.0.waiting (markup.Link' f.0.0 r.0.0.0 r.0.0.1 u.0.marks.0 u.0.marks.1) u.0.sites ≡ m = some_of u.2 in
    let iu : PartsAreSound w s a splices c attributes p _ inner r.0.1 d u.0 = rec p r.0.1 u.0 u.1 d (subst (λ v. Fills w d v.sites) (sym i) g) in
    subst (PartIsSound w s a splices c attributes p st d (form.Element' t attrs k inner)) i
    (link_sound w s a splices c attributes p t attrs k inner st d j f.0 ts.0 r.0 u.0 eg ef ew (target_is w s splices c attributes b j f.0 f.1) (page_is w f.0.0 ts.0 ts.1) q.0 r.1 iu.before iu)

input_tag : AreTold → (w : World) (s : Scope) (a : Count) (splices : Row_of-Exp a) (c : Count) (attributes : Row_of-Exp c) → Beside w s a splices c attributes → (p : Place) (t : WrittenTag) (attrs : List Attr) (k : Shape) (inner : Row_of-XmlPart (count k)) (st : Sites) → InnerIsSound w s a splices c attributes k inner → (fk : FieldKind) (x : Label) (v : Option AttrValue) → is_end inner ≡ true → holds_fields p ≡ true → field_of t.word ≡ Some fk → MayStand (may_have_value fk) v → TagIsSound w s a splices c attributes p t attrs k inner st (node.input fk x v)
input_tag told w s a splices c attributes b p t attrs k inner st rec fk x v eb hp ek mv m eg h d g =
    let l : Literal = literal_of w s splices attributes in
    let q : (label_is_in (variables s.env) x ≡ true) × (option_and_then (inputted fk x) (value_out l st v) ≡ Some m) = opened_if (label_is_in (variables s.env) x) (option_and_then (inputted fk x) (value_out l st v)) m h in
    let r : (r : Held-Exp-Tagged-1 × Sites) × (value_out l st v ≡ Some r) × (inputted fk x r ≡ Some m) = opened (inputted fk x) (value_out l st v) m q.1 in
    let i : marked (field x (places.field_type fk) ∷ []) [] (markup.Input' fk x r.0.0) r.0.1 ≡ m = some_of r.2 in
    let eg' : node_at (known_in s.names.cons) p t attrs true ≡ Some (node.input fk x v) = subst (λ z. node_at (known_in s.names.cons) p t attrs z ≡ Some (node.input fk x v)) eb eg in
    let iv : ValueIs w s c attributes (may_have_value fk) st v d r.0 = value_is w s splices c attributes b (may_have_value fk) st v mv r.0 r.1 d (subst (λ z. Fills w d z.sites) (sym i) g) in
    subst (λ (z : (k : Shape) × Row_of-XmlPart (count k)). PartIsSound w s a splices c attributes p st d (form.Element' t attrs z.0 z.1) m) (no_parts k inner eb)
    (subst (PartIsSound w s a splices c attributes p st d (form.Element' t attrs [] no_xml)) i (input_sound w s a splices c attributes p t attrs st d fk x v r.0 eg' hp ek q.0 iv))

submit_tag : AreTold → (w : World) (s : Scope) (a : Count) (splices : Row_of-Exp a) (c : Count) (attributes : Row_of-Exp c) → Beside w s a splices c attributes → (p : Place) (t : WrittenTag) (attrs : List Attr) (k : Shape) (inner : Row_of-XmlPart (count k)) (st : Sites) → InnerIsSound w s a splices c attributes k inner → (j : ℕ) (v : Option AttrValue) → is_end inner ≡ true → p ≡ in_form → t.word ≡ codes "submit" → TagIsSound w s a splices c attributes p t attrs k inner st (node.submit j v)
submit_tag told w s a splices c attributes b p t attrs k inner st rec j v eb ep ew m eg h d g =
    let l : Literal = literal_of w s splices attributes in
    let f : (f : ℕ × List Walk) × (called_at l j ≡ Some f) × (submit_out l v st f ≡ Some m) = opened (submit_out l v st) (called_at l j) m h in
    let ts : (ts : List NormalType × NormalType) × (option_and_then without_last (page_params w.declared f.0.0) ≡ Some ts) × (submit_with l v st f.0 ts ≡ Some m) = opened (submit_with l v st f.0) (option_and_then without_last (page_params w.declared f.0.0)) m f.2 in
    let ps : (ps : List NormalType) × (page_params w.declared f.0.0 ≡ Some ps) × (without_last ps ≡ Some ts.0) = opened without_last (page_params w.declared f.0.0) ts.0 ts.1 in
    let q : (are_linkable ts.0.0 ≡ true) × (option_and_then (sent_by l v f.0 ts.0) (args_out s f.0.1 ts.0.0 st) ≡ Some m) = opened_if (are_linkable ts.0.0) (option_and_then (sent_by l v f.0 ts.0) (args_out s f.0.1 ts.0.0 st)) m ts.2 in
    let r : (r : Args × Sites) × (args_out s f.0.1 ts.0.0 st ≡ Some r) × (sent_by l v f.0 ts.0 r ≡ Some m) = opened (sent_by l v f.0 ts.0) (args_out s f.0.1 ts.0.0 st) m q.1 in
    let y : (y : Held-Exp-Tagged-1 × Sites) × (value_out l r.0.1 v ≡ Some y) × (sent_with f.0 ts.0 r.0 y ≡ Some m) = opened (sent_with f.0 ts.0 r.0) (value_out l r.0.1 v) m r.2 in
    let i : marked [] (ts.0.1 ∷ []) (markup.Submit' f.0.0 r.0.0.0 r.0.0.1 y.0.0) y.0.1 ≡ m = some_of y.2 in
    let eg' : node_at (known_in s.names.cons) p t attrs true ≡ Some (node.submit j v) = subst (λ z. node_at (known_in s.names.cons) p t attrs z ≡ Some (node.submit j v)) eb eg in
    let iv : ValueIs w s c attributes true r.0.1 v d y.0 = value_is w s splices c attributes b true r.0.1 v tt y.0 y.1 d (subst (λ z. Fills w d z.sites) (sym i) g) in
    subst (λ (z : (k : Shape) × Row_of-XmlPart (count k)). PartIsSound w s a splices c attributes p st d (form.Element' t attrs z.0 z.1) m) (no_parts k inner eb)
    (subst (PartIsSound w s a splices c attributes p st d (form.Element' t attrs [] no_xml)) i
    (submit_sound w s a splices c attributes p t attrs st d j v f.0 ps.0 ts.0 r.0 y.0 eg' ep ew (target_is w s splices c attributes b j f.0 f.1) (page_is w f.0.0 ps.0 ps.1) ps.2 q.0 r.1 iv))

tag_sound : AreTold → (w : World) (s : Scope) (a : Count) (splices : Row_of-Exp a) (c : Count) (attributes : Row_of-Exp c) → Beside w s a splices c attributes → (p : Place) (t : WrittenTag) (attrs : List Attr) (k : Shape) (inner : Row_of-XmlPart (count k)) (st : Sites) → InnerIsSound w s a splices c attributes k inner → (n : Node) → NodeIs p t.word (is_end inner) n → TagIsSound w s a splices c attributes p t attrs k inner st n
tag_sound told w s a splices c attributes b p t attrs k inner st rec _ (element_is {g = g} {q = q} ew eo ei) = element_tag told w s a splices c attributes b p t attrs k inner st rec g q ew eo ei
tag_sound told w s a splices c attributes b p t attrs k inner st rec _ (form_is ew ei) = form_tag told w s a splices c attributes b p t attrs k inner st rec ew ei
tag_sound told w s a splices c attributes b p t attrs k inner st rec _ (link_is {n = j} ef ew) = link_tag told w s a splices c attributes b p t attrs k inner st rec j ef ew
tag_sound told w s a splices c attributes b p t attrs k inner st rec _ (input_is {k = fk} {l = x} {v = v} eb hp ek mv) = input_tag told w s a splices c attributes b p t attrs k inner st rec fk x v eb hp ek mv
tag_sound told w s a splices c attributes b p t attrs k inner st rec _ (submit_is {n = j} {v = v} eb ep ew) = submit_tag told w s a splices c attributes b p t attrs k inner st rec j v eb ep ew

mutual
  pub parts_sound : AreTold → (w : World) (s : Scope) (a : Count) (splices : Row_of-Exp a) (c : Count) (attributes : Row_of-Exp c) → Beside w s a splices c attributes → (p : Place) (n : Count) (xs : Row_of-XmlPart n) (st : Sites) (m : Marked) → parts_out (literal_of w s splices attributes) xs p st ≡ Some m → (d : Statements) → Fills w d m.sites →
      PartsAreSound w s a splices c attributes p n xs st d m
  parts_sound told w s a splices c attributes b p _ no_xml st m h d g =
      let i : no_marks st ≡ m = some_of h in
      subst (PartsAreSound w s a splices c attributes p _ no_xml st d) i (record {
        before = subst (λ v. Fills w d v.sites) (sym i) g;
        resolve = parts_none;
        marks = λ own_row wt. refl;
        numbered = numbered_none st;
        no_fields = λ z. refl;
        no_waiting = λ z. refl;
        sort = refl;
      })
  parts_sound told w s a splices c attributes b p _ (an_xml {n = n} at x rest) st m h d g =
      let l : Literal = literal_of w s splices attributes in
      let u : (u : Marked) × (part_out l x p st ≡ Some u) × (option_map (and_marks u) (parts_out l rest p u.sites) ≡ Some m) = opened _ _ m h in
      let v : (v : Marked) × (parts_out l rest p u.0.sites ≡ Some v) × (and_marks u.0 v ≡ m) = mapped _ _ m u.2 in
      let iv : PartsAreSound w s a splices c attributes p n rest u.0.sites d v.0 = parts_sound told w s a splices c attributes b p n rest u.0.sites v.0 v.1 d (subst (λ z. Fills w d z.sites) (sym v.2) g) in
      let iu : PartIsSound w s a splices c attributes p st d x u.0 = part_sound told w s a splices c attributes b p x st u.0 u.1 d iv.before in
      subst (PartsAreSound w s a splices c attributes p _ (an_xml at x rest) st d) v.2 (both_sound w s a splices c attributes p n at x rest st d u.0 v.0 iu iv)

  part_sound : AreTold → (w : World) (s : Scope) (a : Count) (splices : Row_of-Exp a) (c : Count) (attributes : Row_of-Exp c) → Beside w s a splices c attributes → (p : Place) (x : XmlForm) (st : Sites) (m : Marked) → part_out (literal_of w s splices attributes) x p st ≡ Some m → (d : Statements) → Fills w d m.sites →
      PartIsSound w s a splices c attributes p st d x m
  part_sound told w s a splices c attributes b p (form.Text t) st m h d g = text_sound w s a splices c attributes p t st (is_kept p t) refl m h d g
  part_sound told w s a splices c attributes b p (form.Show n) st m h d g = shown_sound w s a splices c attributes b p n st m h d g
  part_sound told w s a splices c attributes b p (form.Splice n) st m h d g = splice_sound w s a splices c attributes b p n st m h d g
  part_sound told w s a splices c attributes b p (form.Element' t attrs k inner) st m h d g =
      let l : Literal = literal_of w s splices attributes in
      let n : (n : Node) × (node_at (known_in s.names.cons) p t attrs (is_end inner) ≡ Some n) × (node_out l p st (λ q st'. parts_out l inner q st') n ≡ Some m) = opened _ _ m h in
      tag_sound told w s a splices c attributes b p t attrs k inner st (λ q su u e d' f. parts_sound told w s a splices c attributes b q _ inner su u e d' f) n.0 (node_is (known_in s.names.cons) p t attrs (is_end inner) n.0 n.1) m n.1 n.2 d g

-- ---- the frame of a page

-- a part of a page: blank text, which is dropped, its head or its body
data PagePart : XmlForm → Markups → Type 0 where
  blank_part : {t : List ℕ} → is_blank t ≡ true → PagePart (form.Text t) ([], no_markup)
  head_part : {t : WrittenTag} {attrs : List Attr} {k j : Shape} {inner : Row_of-XmlPart (count k)} {rs : Row_of-Markup (count j)} → t.word ≡ codes "head" → PagePart (form.Element' t attrs k inner) (tt ∷ [], a_markup (markup.Element' tag.Head j rs) no_markup)
  body_part : {t : WrittenTag} {attrs : List Attr} {k j : Shape} {inner : Row_of-XmlPart (count k)} {rs : Row_of-Markup (count j)} → t.word ≡ codes "body" → PagePart (form.Element' t attrs k inner) (tt ∷ [], a_markup (markup.Element' tag.Body j rs) no_markup)

not_true : (b : Bool) → not b ≡ true → b ≡ false
not_true true h = cc
not_true false h = refl

kept_false : (b : Bool) → not (true && b) ≡ false → b ≡ true
kept_false true h = refl
kept_false false h = absurd (true≢false h)

page_text : (t : List ℕ) (st : Sites) (b : Bool) → is_kept in_page t ≡ b → (m : Marked) → if_kept b in_page t st ≡ Some m → PagePart (form.Text t) m.marks
page_text t st true ek m h = cc
page_text t st false ek m h = let i : no_marks st ≡ m = some_of h in subst (λ v. PagePart (form.Text t) v.marks) i (blank_part (kept_false (is_blank t) ek))

page_element : (t : WrittenTag) (attrs : List Attr) (k : Shape) (inner : Row_of-XmlPart (count k)) (g : Tag) (q : Place) (u m : Marked) → tag_word g ≡ t.word → inside in_page g ≡ Some q → element_out g u ≡ Some m → PagePart (form.Element' t attrs k inner) m.marks
page_element t attrs k inner tag.Head q u m ew ei h = subst (λ v. PagePart (form.Element' t attrs k inner) v.marks) (some_of h) (head_part (sym ew))
page_element t attrs k inner tag.Body q u m ew ei h = subst (λ v. PagePart (form.Element' t attrs k inner) v.marks) (some_of h) (body_part (sym ew))
page_element t attrs k inner _ q u m ew ei h = cc

page_tag : (l : Literal) (t : WrittenTag) (attrs : List Attr) (k : Shape) (inner : Row_of-XmlPart (count k)) (st : Sites) (m : Marked) (n : Node) → NodeIs in_page t.word (is_end inner) n → node_out l in_page st (λ q st'. parts_out l inner q st') n ≡ Some m → PagePart (form.Element' t attrs k inner) m.marks
page_tag l t attrs k inner st m _ (element_is {g = g} {q = q} ew eo ei) h =
    let u : (u : Marked) × (parts_out l inner q st ≡ Some u) × (element_out g u ≡ Some m) = opened (element_out g) (parts_out l inner q st) m h in page_element t attrs k inner g q u.0 m ew ei u.2
page_tag l t attrs k inner st m _ (form_is ew ei) h = cc
page_tag l t attrs k inner st m _ (link_is ef ew) h = cc
page_tag l t attrs k inner st m _ (input_is eb hp ek mv) h = cc
page_tag l t attrs k inner st m _ (submit_is eb ep ew) h = cc

none_then : {A B : Type 0} (o : Option A) (y : B) → option_and_then (λ x. None) o ≡ Some y → ⊥
none_then None y h = cc
none_then (Some x) y h = cc

page_part : (l : Literal) (x : XmlForm) (st : Sites) (m : Marked) → part_out l x in_page st ≡ Some m → PagePart x m.marks
page_part l (form.Text t) st m h = page_text t st (is_kept in_page t) refl m h
page_part l (form.Show n) st m h = absurd (none_then (slice_get l.splices n) m h)
page_part l (form.Splice n) st m h = absurd (none_then (slice_get l.splices n) m h)
page_part l (form.Element' t attrs k inner) st m h =
    let n : (n : Node) × (node_at (known_in l.scope.names.cons) in_page t attrs (is_end inner) ≡ Some n) × (node_out l in_page st (λ q st'. parts_out l inner q st') n ≡ Some m) = opened _ _ m h in
    page_tag l t attrs k inner st m n.0 (node_is (known_in l.scope.names.cons) in_page t attrs (is_end inner) n.0 n.1) n.2

abbrev is_none_left : {n : _} → Row_of-Markup n → Bool
is_none_left no_markup = true
is_none_left (a_markup m rest) = false

abbrev IsEmpty : {n : Count} → Row_of-Markup n → Type 0
IsEmpty r = is_none_left r ≡ true

abbrev is_body_left : {n : _} → Row_of-Markup n → Bool
is_body_left (a_markup (markup.Element' tag.Body j rs) rest) = is_none_left rest
is_body_left _ = false

abbrev IsBody : {n : Count} → Row_of-Markup n → Type 0
IsBody r = is_body_left r ≡ true

body_is_page : (n : Count) (r : Row_of-Markup n) (j : Shape) (rs : Row_of-Markup (count j)) → IsEmpty r → is_page_row (a_markup (markup.Element' tag.Body j rs) r) ≡ true
body_is_page _ no_markup j rs h = refl
body_is_page _ (a_markup m rest) j rs h = cc

only_body : (m : Markup) (n : Count) (rest : Row_of-Markup n) → is_body_left (a_markup m rest) ≡ true → (j : Shape) (rs : Row_of-Markup (count j)) → is_page_row (a_markup (markup.Element' tag.Head j rs) (a_markup m rest)) ≡ true
only_body (markup.Element' tag.Body k inner) _ no_markup h j rs = refl
only_body (markup.Element' tag.Body k inner) _ (a_markup m rest) h j rs = cc
only_body _ _ rest h j rs = cc

head_is_page : (n : Count) (r : Row_of-Markup n) (j : Shape) (rs : Row_of-Markup (count j)) → IsBody r → is_page_row (a_markup (markup.Element' tag.Head j rs) r) ≡ true
head_is_page _ no_markup j rs h = cc
head_is_page _ (a_markup {n = n} m rest) j rs h = only_body m n rest h j rs

-- the marks of the rest of a page, which had a head and a body so far
abbrev Rest : Bool → Bool → {n : Count} → Row_of-Markup n → Type 0
Rest had_head true r = IsEmpty r
Rest true false r = IsBody r
Rest false false r = is_page_row r ≡ true

blank_framed : (t : List ℕ) → is_blank t ≡ true → text_framed t ≡ framed.nothing
blank_framed t h = ap (λ b. if b then framed.nothing else framed.other (codes "text")) h

head_framed : (w : List ℕ) → w ≡ codes "head" → element_framed w ≡ framed.head
head_framed w h = subst (λ z. element_framed z ≡ framed.head) (sym h) refl

body_framed : (w : List ℕ) → w ≡ codes "body" → element_framed w ≡ framed.body_part
body_framed w h = subst (λ z. element_framed z ≡ framed.body_part) (sym h) refl

abbrev Behind : List XmlPart → Framed → Bool → Bool → Type 0
Behind rest f had_head had_body = after_step (framed_step f had_head had_body) (λ h b. frame_fault rest h b) ≡ None

head_step : (rest : List XmlPart) (had_head had_body : Bool) (v : Markups) (j : Shape) (rs : Row_of-Markup (count j)) → Behind rest framed.head had_head had_body → ((h b : Bool) → frame_fault rest h b ≡ None → Rest h b v.1) → Rest had_head had_body (a_markup (markup.Element' tag.Head j rs) v.1)
head_step rest true true v j rs g k = cc
head_step rest true false v j rs g k = cc
head_step rest false true v j rs g k = cc
head_step rest false false v j rs g k = head_is_page _ v.1 j rs (k true false g)

body_step : (rest : List XmlPart) (had_head had_body : Bool) (v : Markups) (j : Shape) (rs : Row_of-Markup (count j)) → Behind rest framed.body_part had_head had_body → ((h b : Bool) → frame_fault rest h b ≡ None → Rest h b v.1) → Rest had_head had_body (a_markup (markup.Element' tag.Body j rs) v.1)
body_step rest true true v j rs g k = cc
body_step rest false true v j rs g k = cc
body_step rest true false v j rs g k = k true true g
body_step rest false false v j rs g k = body_is_page _ v.1 j rs (k false true g)

page_step : (x : XmlForm) (us : Markups) → PagePart x us → (rest : List XmlPart) (had_head had_body : Bool) (v : Markups) → Behind rest (framed_form x) had_head had_body → ((h b : Bool) → frame_fault rest h b ≡ None → Rest h b v.1) → Rest had_head had_body (both_rows us.1 v).1
page_step _ _ (blank_part {t = t} i) rest had_head had_body v g k = k had_head had_body (subst (λ z. Behind rest z had_head had_body) (blank_framed t i) g)
page_step _ _ (head_part {t = t} {j = j} {rs = rs} i) rest had_head had_body v g k = head_step rest had_head had_body v j rs (subst (λ z. Behind rest z had_head had_body) (head_framed t.word i) g) k
page_step _ _ (body_part {t = t} {j = j} {rs = rs} i) rest had_head had_body v g k = body_step rest had_head had_body v j rs (subst (λ z. Behind rest z had_head had_body) (body_framed t.word i) g) k

rest_is : (l : Literal) (n : Count) (xs : Row_of-XmlPart n) (st : Sites) (m : Marked) → parts_out l xs in_page st ≡ Some m → (had_head had_body : Bool) → frame_fault (items-the_row-XmlPart n xs) had_head had_body ≡ None → Rest had_head had_body m.marks.1
rest_is l _ no_xml st m h had_head true g = subst (λ v. Rest had_head true v.marks.1) (some_of h) refl
rest_is l _ no_xml st m h had_head false g = cc
rest_is l _ (an_xml {n = n} at x rest) st m h had_head had_body g =
    let u : (u : Marked) × (part_out l x in_page st ≡ Some u) × (option_map (and_marks u) (parts_out l rest in_page u.sites) ≡ Some m) = opened _ _ m h in
    let v : (v : Marked) × (parts_out l rest in_page u.0.sites ≡ Some v) × (and_marks u.0 v ≡ m) = mapped _ _ m u.2 in
    subst (λ z. Rest had_head had_body z.marks.1) v.2
    (page_step x u.0.marks (page_part l x st u.0 u.1) (items-the_row-XmlPart n rest) had_head had_body v.0.marks g (λ a b k. rest_is l n rest u.0.sites v.0 v.1 a b k))

is_none_so : {A : Type 0} (o : Option A) → is_none o ≡ true → o ≡ None
is_none_so None h = refl
is_none_so (Some x) h = cc

framed_is : (l : Literal) (s : Sort) (n : Count) (xs : Row_of-XmlPart n) (st : Sites) (m : Marked) → parts_out l xs (place_of s) st ≡ Some m → is_framed s xs ≡ true → is_framed_row s m.marks.1 ≡ true
framed_is l page n xs st m h g = rest_is l n xs st m h false false (is_none_so (frame_fault (items-the_row-XmlPart n xs) false false) g)
framed_is l _ n xs st m h g = refl

-- ---- whole literals

one_node : (t : NormalType) → 1 ≤ type_nodes t
one_node (ty.Opt' _ (the t sole)) = omega arith
one_node (ty.Many' _ (the t sole)) = omega arith
one_node (ty.Transaction' _ (the t sole)) = omega arith
one_node (ty.Arrow' _ (the t sole) _ (the u sole)) = omega arith
one_node (ty.Record' _ r) = omega arith
one_node (ty.Form' _ r) = omega arith
one_node _ = omega arith

sort_is : (s : Sort) (r : List RowPart) → sort_of (sort_type s r) ≡ Some s
sort_is page r = refl
sort_is body r = refl
sort_is table r = refl
sort_is row r = refl
sort_is fields r = refl

has_fields : (known : Assumptions) (s : Sort) (r : List RowPart) → sort_fits known s r ≡ true → (holds_fields (place_of s) ≡ false → r ≡ []) → HasFields known s (sort_type s r) r
has_fields known fields r f k = (refl, (one_row known r).0 f)
has_fields known page r f k = k refl
has_fields known body r f k = k refl
has_fields known table r f k = k refl
has_fields known row r f k = k refl

no_form : (s : Sort) → is_in_form (place_of s) ≡ false
no_form page = refl
no_form body = refl
no_form table = refl
no_form row = refl
no_form fields = refl

abbrev typed_literal : Literal → Sort → Marked → Option Out
typed_literal l s m = if_so (sort_fits l.scope.env.known s m.row) (gives (sort_type s m.row) (exp.Xml' (sort_type s m.row) m.marks.0 m.marks.1) m.sites)

abbrev IsLiteral : World → Scope → Markups → NormalType → Type 0
IsLiteral w s marks t = LiteralIs s.env.known (λ s'. is_framed_row s' marks.1) (λ p r. Marks w.declared w.most s.env p marks.1 [] r) t

xml_judged : AreTold → (w : World) (s : Scope) (m : Mode) (n : Count) (inner : Row_of-XmlPart n) (o : Sort) (marks : Markups) (t : NormalType) → literal_sort inner (type_of_mode m) ≡ Some o → sort_of t ≡ Some o → first_of (items-the_row-XmlPart n inner) ≡ first_sort marks.1 → IsLiteral w s marks t →
    Accepts w.most (exp.Xml' t marks.0 marks.1) t → fits m t ≡ true → Judged w s m (exp.Xml' t marks.0 marks.1) t
xml_judged told w s finds n inner o marks t eo et ef i acc fit = ((refl, (et ∙ (sym eo ∙ ap (λ z. Some z) ef)), i), acc)
xml_judged told w s (wants u) n inner o marks t eo et ef i acc fit =
    let q : t ≡ u = told t u fit in (q, (sym q, subst (IsLiteral w s marks) q i), subst (λ z. Accepts w.most (exp.Xml' t marks.0 marks.1) z) q acc)

pub xml_sound : AreTold → (w : World) (x : Xml) (n : Shape) (ss : Row_of-Exp (count n)) (k : Shape) (ats : Row_of-Exp (count k)) → RowIsSound w ss → RowIsSound w ats → TargetsSound w ats → Sound w (e.Xml' x n ss k ats)
xml_sound told w x n ss k ats ks ka kt s st m o h d g =
    let y : ExpForm = e.Xml' x n ss k ats in
    let l : Literal = literal_of w s ss ats in
    let v : IsSettled w y s st m o = settled_by w y s st m o h in
    let c : (c : Sort) × (literal_sort (row_of_parts x.parts).1 (type_of_mode m) ≡ Some c) × (sorted_out l (row_of_parts x.parts).1 st c ≡ Some o) = opened _ _ o v.walked in
    let q : (is_framed c.0 (row_of_parts x.parts).1 ≡ true) × (option_and_then (typed_literal l c.0) (parts_out l (row_of_parts x.parts).1 (place_of c.0) st) ≡ Some o) = opened_if (is_framed c.0 (row_of_parts x.parts).1) _ o c.2 in
    let u : (u : Marked) × (parts_out l (row_of_parts x.parts).1 (place_of c.0) st ≡ Some u) × (typed_literal l c.0 u ≡ Some o) = opened (typed_literal l c.0) (parts_out l (row_of_parts x.parts).1 (place_of c.0) st) o q.1 in
    let t : NormalType = sort_type c.0 u.0.row in
    let r : (sort_fits s.env.known c.0 u.0.row ≡ true) × (gives t (exp.Xml' t u.0.marks.0 u.0.marks.1) u.0.sites ≡ Some o) = opened_if (sort_fits s.env.known c.0 u.0.row) (gives t (exp.Xml' t u.0.marks.0 u.0.marks.1) u.0.sites) o u.2 in
    let b : Out = record { of = t; exp = exp.Xml' t u.0.marks.0 u.0.marks.1; sites = u.0.sites } in
    sound_at w y s st m d b o v r.1 g (λ acc fit g'.
    let nodes : 1 ≤ type_nodes t = one_node t in
    let room : 1 ≤ w.most = omega (arith, nodes, acc.0) in
    let i : PartsAreSound w s _ ss _ ats (place_of c.0) _ (row_of_parts x.parts).1 st d u.0 =
    parts_sound told w s _ ss _ ats (record { splices_sound = ks; attributes_sound = ka; targets_sound = kt; room = room }) (place_of c.0) _ (row_of_parts x.parts).1 st u.0 u.1 d g' in
    let wt : WaitFor [] u.0.waiting = subst (WaitFor []) (sym (i.no_waiting (no_form c.0))) tt in
    let lit : IsLiteral (stated d w) s u.0.marks t = (c.0, u.0.row, sort_is c.0 u.0.row, framed_is l c.0 _ (row_of_parts x.parts).1 st u.0 u.1 q.0, i.marks [] wt, has_fields s.env.known c.0 u.0.row r.0 i.no_fields) in
    record {
      before = i.before;
      numbered = i.numbered;
      resolves = resolves.xml (sort_is c.0 u.0.row) i.resolve;
      judged = xml_judged told (stated d w) s m _ (row_of_parts x.parts).1 c.0 u.0.marks t c.1 (sort_is c.0 u.0.row) i.sort lit acc fit;
    })
