-- Whole literals of XML: the walk gives what the rules say.
use Rattle.std.proofs.Common.{◌≡◌, ◌∙◌, refl, sym, ap, ap₂, subst, Bool, true, false, Option, Some, None, List, [], ℕ}
use Rattle.std.specs.Prelude.{◌&&◌, not, IsTrue, codes, is_none, if◌then◌else◌}
use mathlib.Core.Former.{Count}
use Rattle.ur_base.specs.Shape.{Shape, count}
use Rattle.ur_syntax.specs.declared.exp.ExpForm.{ExpForm, Row_of-Exp}
use Rattle.ur_syntax.specs.declared.exp.ExpForm.TheVariants as e
use Rattle.ur_syntax.specs.declared.xml.AttrValue.{AttrValue}
use Rattle.ur_syntax.specs.declared.xml.Xml.{Xml}
use Rattle.ur_syntax.specs.declared.xml.XmlPart.{XmlPart}
use Rattle.ur_syntax.specs.declared.xml.XmlForm.{XmlForm, Row_of-XmlPart, items-the_row-XmlPart}
use Rattle.ur_values.specs.declared.value.Tag.{Tag}
use Rattle.ur_values.specs.declared.value.Tag.TheVariants as tag
use Rattle.ur_values.specs.declared.value.FieldKind.{FieldKind}
use Rattle.ur_rows.specs.declared.normal.Label.{Label}
use Rattle.ur_rows.specs.declared.normal.NormalType.{NormalType}
use Rattle.ur_rows.specs.declared.normal.NormalType.TheVariants as ty
use Rattle.ur_rows.specs.declared.normal.Part.{Part}
use Rattle.ur_rows.specs.Apart.{Assumptions}
use Rattle.ur_rows.specs.Normal.{known_in}
use Rattle.ur_tree.specs.Places.{Place, in_page, Sort, page, body, table, row, fields, sort_of, place_of}
use Rattle.ur_xmltype.specs.Tags.{field_of}
use Rattle.ur_xmltype.specs.Tags as node
use Rattle.ur_xmltype.specs.Literal.{is_blank, is_kept, is_end, first_of, sort_with, literal_sort, sort_type, Framed, element_framed, text_framed, framed_form, framed_step, after_step, frame_fault, is_framed, row_of_parts}
use Rattle.ur_xmltype.specs.Literal as framed
use Rattle.ur_tags.specs.Show.{tag_word}
use Rattle.ur_tree.specs.declared.exp.Exp.{Exp}
use Rattle.ur_tree.specs.declared.exp.Exp.TheVariants as exp
use Rattle.ur_tree.specs.declared.exp.Exp.TheBlock.{Row_of-Markup, end_of-Markup as no_markup, more_of-Markup as a_markup}
use Rattle.ur_tree.specs.declared.exp.Markup.{Markup}
use Rattle.ur_tree.specs.declared.exp.Markup.TheVariants as markup
use Rattle.ur_tree.specs.Typing.{Accepts, Marks, HasFields, first_sort, is_page, is_framed as is_framed_row}
use Rattle.ur_typed_rules.specs.Names.{Names}
use Rattle.ur_typed_rules.specs.Scopes.{World, Scope, Mode, finds, wants, type_of_mode}
use Rattle.ur_typed_rules.proofs.Rows.{one_row}
use Rattle.ur_typed.specs.Resolves.{Statements}
use Rattle.ur_typed.specs.Rules.{Out, fits, gives}
use Rattle.ur_typed.specs.Markups.{Literal, Markups, Marked, parts_out, sort_fits, sorted_out}
use Rattle.ur_typed.specs.Walking.{walk}
use Rattle.ur_typed.specs.Parts.{literal_of}
use Rattle.ur_typed_rules.specs.Rules.{if_so}
use Rattle.ur_typed_rules.proofs.Options.{then_some, some_of}
use Rattle.ur_typed_laws.specs.Judged.{stated, Judged}
use Rattle.ur_typed_laws.proofs.Tagging.{NodeIs, form_is, link_is, input_is, submit_is, node_is, tag_sort, link_sort, submit_sort, field_sort}
use Rattle.ur_typed_laws.specs.Walked.{scope_at, out_of, Walks}
use Rattle.ur_typed_laws.proofs.Walked.{so_true, typed_by, same_self}
use Rattle.ur_typed_laws.proofs.WalkedXml.{PartsWalk, none_walk, dropped_walk, one_part, PartWalks, text_walk, shown_walk, splice_walk, element_walk, form_walk, link_walk, input_walk, submit_walk, shaped_marks, marks_shaped, PartsAreWalked, parts_walked, element_of}

-- ---- the sort of the first element

form_word : (p : Place) (w : List ℕ) (bare : Bool) → NodeIs p w bare node.form → tag_word tag.Form ≡ w
form_word p w bare (form_is a b) = a

link_word : (p : Place) (w : List ℕ) (bare : Bool) (n : ℕ) → NodeIs p w bare (node.link n) → w ≡ codes "a"
link_word p w bare n (link_is a b) = b

input_word : (p : Place) (w : List ℕ) (bare : Bool) (k : FieldKind) (l : Label) (v : Option AttrValue) → NodeIs p w bare (node.input k l v) → field_of w ≡ Some k
input_word p w bare k l v (input_is a b c d) = c

submit_word : (p : Place) (w : List ℕ) (bare : Bool) (n : ℕ) (v : Option AttrValue) → NodeIs p w bare (node.submit n v) → w ≡ codes "submit"
submit_word p w bare n v (submit_is a b c) = c

-- what a part says of the sort
abbrev sort_before : XmlForm → Sort → Sort
sort_before x rest = sort_with (framed.word_of x) rest

abbrev sort_behind : Markup → {n : Count} → Row_of-Markup n → Sort
sort_behind y rest = first_sort (a_markup y rest)

part_sort : (w : World) (d : Statements) (names : Names) (a : Count) (splices : Row_of-Exp a) (c : Count) (attributes : Row_of-Exp c) (p : Place) (x : XmlForm) (y : Markup) → PartWalks w d names a splices c attributes p x y → (n : Count) (rest : Row_of-Markup n) (s : Sort) → s ≡ first_sort rest → sort_before x s ≡ sort_behind y rest
part_sort w d names a splices c attributes p _ _ (text_walk h) n rest s i = i
part_sort w d names a splices c attributes p _ _ (shown_walk h k) n rest s i = i
part_sort w d names a splices c attributes p _ _ (splice_walk h l k) n rest s i = i
part_sort w d names a splices c attributes p _ _ (element_walk {i = q} {t = t} {attrs = attrs} {g = g} {parts = parts} h k) n rest s i = tag_sort g t.word (element_of p t.word (is_end parts) g q (node_is (known_in names.cons) p t attrs (is_end parts) (node.element g q) h)).0
part_sort w d names a splices c attributes p _ _ (form_walk {t = t} {attrs = attrs} {parts = parts} h k) n rest s i = tag_sort tag.Form t.word (form_word p t.word (is_end parts) (node_is (known_in names.cons) p t attrs (is_end parts) node.form h))
part_sort w d names a splices c attributes p _ _ (link_walk {t = t} {attrs = attrs} {n = j} {parts = parts} h r kc k) n rest s i = link_sort t.word (link_word p t.word (is_end parts) j (node_is (known_in names.cons) p t attrs (is_end parts) (node.link j) h))
part_sort w d names a splices c attributes p _ _ (input_walk {t = t} {attrs = attrs} {k = k} {l = l} {v = v} h kv) n rest s i = field_sort t.word k (input_word p t.word true k l v (node_is (known_in names.cons) p t attrs true (node.input k l v) h))
part_sort w d names a splices c attributes p _ _ (submit_walk {t = t} {attrs = attrs} {n = j} {v = v} h r kc kv) n rest s i = submit_sort t.word (submit_word p t.word true j v (node_is (known_in names.cons) p t attrs true (node.submit j v) h))

pub sort_back : (w : World) (d : Statements) (names : Names) (a : Count) (splices : Row_of-Exp a) (c : Count) (attributes : Row_of-Exp c) (p : Place) (n : Count) (xs : Row_of-XmlPart n) (m : Count) (out : Row_of-Markup m) → PartsWalk w d names a splices c attributes p n xs m out → first_of (items-the_row-XmlPart n xs) ≡ first_sort out
sort_back w d names a splices c attributes p _ _ _ _ none_walk = refl
sort_back w d names a splices c attributes p _ _ _ _ (dropped_walk {n = n} {m = m} {rest = rest} {out = out} h k) = sort_back w d names a splices c attributes p n rest m out k
sort_back w d names a splices c attributes p _ _ _ _ (one_part {x = x} {y = y} {n = n} {m = m} {rest = rest} {out = out} k kr) =
    part_sort w d names a splices c attributes p x y k m out (first_of (items-the_row-XmlPart n rest)) (sort_back w d names a splices c attributes p n rest m out kr)

-- ---- the frame of a page

abbrev is_none_left : {n : _} → Row_of-Markup n → Bool
is_none_left no_markup = true
is_none_left (a_markup m rest) = false

abbrev is_body_left : {n : _} → Row_of-Markup n → Bool
is_body_left (a_markup (markup.Element' tag.Body j rs) rest) = is_none_left rest
is_body_left _ = false

-- what is left of a page that had a head and a body so far
abbrev Left : Bool → Bool → {n : Count} → Row_of-Markup n → Type 0
Left had_head true r = is_none_left r ≡ true
Left true false r = is_body_left r ≡ true
Left false false r = is_page r ≡ true

not_kept : (b : Bool) → not (not (true && b)) ≡ true → b ≡ true
not_kept true h = refl
not_kept false h = cc

text_is_nothing : (t : List ℕ) → IsTrue (not (is_kept in_page t)) → text_framed t ≡ framed.nothing
text_is_nothing t h = ap (λ b. if b then framed.nothing else framed.other (codes "text")) (not_kept (is_blank t) h)

head_framed : (w : List ℕ) → tag_word tag.Head ≡ w → element_framed w ≡ framed.head
head_framed w h = subst (λ z. element_framed z ≡ framed.head) h refl

body_framed : (w : List ℕ) → tag_word tag.Body ≡ w → element_framed w ≡ framed.body_part
body_framed w h = subst (λ z. element_framed z ≡ framed.body_part) h refl

abbrev Behind : List XmlPart → Framed → Bool → Bool → Type 0
Behind rest f had_head had_body = after_step (framed_step f had_head had_body) (λ h b. frame_fault rest h b) ≡ None

-- the tag of a part
abbrev left_tag : Markup → Tag
left_tag (markup.Element' g j rs) = g
left_tag _ = tag.Form

no_body : tag.Form ≡ tag.Body → ⊥
no_body h = cc

no_head : tag.Form ≡ tag.Head → ⊥
no_head h = cc

-- what stands first where something is left
data FirstOf (had_head : Bool) (y : Markup) {n : Count} (rest : Row_of-Markup n) : Type 0 where
  a_body : left_tag y ≡ tag.Body → is_none_left rest ≡ true → FirstOf had_head y rest
  a_head : had_head ≡ false → left_tag y ≡ tag.Head → is_body_left rest ≡ true → FirstOf had_head y rest

body_first : (y : Markup) (n : Count) (rest : Row_of-Markup n) → is_body_left (a_markup y rest) ≡ true → FirstOf true y rest
body_first (markup.Element' tag.Body j rs) n rest h = a_body refl h
body_first _ n rest h = cc

page_body : (j : Shape) (rs : Row_of-Markup (count j)) (n : Count) (rest : Row_of-Markup n) → is_page (a_markup (markup.Element' tag.Body j rs) rest) ≡ true → is_none_left rest ≡ true
page_body j rs _ no_markup h = refl
page_body j rs _ (a_markup m r) h = cc

page_head : (j : Shape) (rs : Row_of-Markup (count j)) (n : Count) (rest : Row_of-Markup n) → is_page (a_markup (markup.Element' tag.Head j rs) rest) ≡ true → is_body_left rest ≡ true
page_head j rs _ no_markup h = cc
page_head j rs _ (a_markup (markup.Element' tag.Body k inner) no_markup) h = refl
page_head j rs _ (a_markup (markup.Element' tag.Body k inner) (a_markup m r)) h = cc
page_head j rs _ (a_markup _ r) h = cc

page_first : (y : Markup) (n : Count) (rest : Row_of-Markup n) → is_page (a_markup y rest) ≡ true → FirstOf false y rest
page_first (markup.Element' tag.Body j rs) n rest h = a_body refl (page_body j rs n rest h)
page_first (markup.Element' tag.Head j rs) n rest h = a_head refl refl (page_head j rs n rest h)
page_first _ n rest h = cc

-- the written part of a body or a head
record IsFramed (x : XmlForm) (y : Markup) : Type 0 where
  body_is : left_tag y ≡ tag.Body → framed_form x ≡ framed.body_part
  head_is : left_tag y ≡ tag.Head → framed_form x ≡ framed.head

part_framed : (w : World) (d : Statements) (names : Names) (a : Count) (splices : Row_of-Exp a) (c : Count) (attributes : Row_of-Exp c) (x : XmlForm) (y : Markup) → PartWalks w d names a splices c attributes in_page x y → IsFramed x y
part_framed w d names a splices c attributes _ _ (text_walk h) = record { body_is = λ i. absurd (no_body i); head_is = λ i. absurd (no_head i) }
part_framed w d names a splices c attributes _ _ (shown_walk h k) = record { body_is = λ i. absurd (no_body i); head_is = λ i. absurd (no_head i) }
part_framed w d names a splices c attributes _ _ (splice_walk h l k) = record { body_is = λ i. absurd (no_body i); head_is = λ i. absurd (no_head i) }
part_framed w d names a splices c attributes _ _ (element_walk {i = q} {t = t} {attrs = attrs} {g = g} {parts = parts} h k) =
    let n : tag_word g ≡ t.word = (element_of in_page t.word (is_end parts) g q (node_is (known_in names.cons) in_page t attrs (is_end parts) (node.element g q) h)).0 in
    record { body_is = λ i. body_framed t.word (ap tag_word (sym i) ∙ n); head_is = λ i. head_framed t.word (ap tag_word (sym i) ∙ n) }
part_framed w d names a splices c attributes _ _ (form_walk h k) = record { body_is = λ i. absurd (no_body i); head_is = λ i. absurd (no_head i) }
part_framed w d names a splices c attributes _ _ (link_walk h r kc k) = record { body_is = λ i. absurd (no_body i); head_is = λ i. absurd (no_head i) }
part_framed w d names a splices c attributes _ _ (input_walk h kv) = record { body_is = λ i. absurd (no_body i); head_is = λ i. absurd (no_head i) }
part_framed w d names a splices c attributes _ _ (submit_walk h r kc kv) = record { body_is = λ i. absurd (no_body i); head_is = λ i. absurd (no_head i) }

body_step : (rest : List XmlPart) (had_head : Bool) → frame_fault rest had_head true ≡ None → Behind rest framed.body_part had_head false
body_step rest true h = h
body_step rest false h = h

first_step : (w : World) (d : Statements) (names : Names) (a : Count) (splices : Row_of-Exp a) (c : Count) (attributes : Row_of-Exp c) (x : XmlForm) (y : Markup) → PartWalks w d names a splices c attributes in_page x y → (had_head : Bool) (n : Count) (out : Row_of-Markup n) (rest : List XmlPart) →
    FirstOf had_head y out → ((h b : Bool) → Left h b out → frame_fault rest h b ≡ None) → Behind rest (framed_form x) had_head false
first_step w d names a splices c attributes x y k had_head n out rest (a_body i l) again =
    subst (λ z. Behind rest z had_head false) (sym ((part_framed w d names a splices c attributes x y k).body_is i)) (body_step rest had_head (again had_head true l))
first_step w d names a splices c attributes x y k had_head n out rest (a_head e i l) again =
    subst (λ z. Behind rest (framed_form x) z false) (sym e) (subst (λ z. Behind rest z false false) (sym ((part_framed w d names a splices c attributes x y k).head_is i)) (again true false l))

pub frame_back : (w : World) (d : Statements) (names : Names) (a : Count) (splices : Row_of-Exp a) (c : Count) (attributes : Row_of-Exp c) (p : Place) (n : Count) (xs : Row_of-XmlPart n) (m : Count) (out : Row_of-Markup m) → PartsWalk w d names a splices c attributes p n xs m out → p ≡ in_page → (had_head had_body : Bool) →
    Left had_head had_body out → frame_fault (items-the_row-XmlPart n xs) had_head had_body ≡ None
frame_back w d names a splices c attributes p _ _ _ _ none_walk ep had_head true l = refl
frame_back w d names a splices c attributes p _ _ _ _ none_walk ep true false l = cc
frame_back w d names a splices c attributes p _ _ _ _ none_walk ep false false l = cc
frame_back w d names a splices c attributes p _ _ _ _ (dropped_walk {s = t} {n = n} {m = m} {rest = rest} {out = out} h k) ep had_head had_body l =
    subst (λ z. Behind (items-the_row-XmlPart n rest) z had_head had_body) (sym (text_is_nothing t (subst (λ z. IsTrue (not (is_kept z t))) ep h))) (frame_back w d names a splices c attributes p n rest m out k ep had_head had_body l)
frame_back w d names a splices c attributes p _ _ _ _ (one_part k kr) ep had_head true l = cc
frame_back w d names a splices c attributes p _ _ _ _ (one_part {x = x} {y = y} {n = n} {m = m} {rest = rest} {out = out} k kr) ep true false l =
    first_step w d names a splices c attributes x y (subst (λ z. PartWalks w d names a splices c attributes z x y) ep k) true m out (items-the_row-XmlPart n rest) (body_first y m out l) (λ h b i. frame_back w d names a splices c attributes p n rest m out kr ep h b i)
frame_back w d names a splices c attributes p _ _ _ _ (one_part {x = x} {y = y} {n = n} {m = m} {rest = rest} {out = out} k kr) ep false false l =
    first_step w d names a splices c attributes x y (subst (λ z. PartWalks w d names a splices c attributes z x y) ep k) false m out (items-the_row-XmlPart n rest) (page_first y m out l) (λ h b i. frame_back w d names a splices c attributes p n rest m out kr ep h b i)

framed_back : (w : World) (d : Statements) (names : Names) (a : Count) (splices : Row_of-Exp a) (c : Count) (attributes : Row_of-Exp c) (s : Sort) (n : Count) (xs : Row_of-XmlPart n) (m : Count) (out : Row_of-Markup m) → PartsWalk w d names a splices c attributes (place_of s) n xs m out → is_framed_row s out ≡ true → is_framed s xs ≡ true
framed_back w d names a splices c attributes page n xs m out k h = ap is_none (frame_back w d names a splices c attributes in_page n xs m out k refl false false h)
framed_back w d names a splices c attributes body n xs m out k h = refl
framed_back w d names a splices c attributes table n xs m out k h = refl
framed_back w d names a splices c attributes row n xs m out k h = refl
framed_back w d names a splices c attributes fields n xs m out k h = refl

-- ---- the type of a literal

page_type : (t : NormalType) → sort_of t ≡ Some page → ty.Page ≡ t
page_type ty.Page h = refl
page_type _ h = cc

body_type : (t : NormalType) → sort_of t ≡ Some body → ty.Xbody ≡ t
body_type ty.Xbody h = refl
body_type _ h = cc

table_type : (t : NormalType) → sort_of t ≡ Some table → ty.Xtable ≡ t
table_type ty.Xtable h = refl
table_type _ h = cc

row_type : (t : NormalType) → sort_of t ≡ Some row → ty.Xtr ≡ t
row_type ty.Xtr h = refl
row_type _ h = cc

type_back : (known : Assumptions) (s : Sort) (t : NormalType) (r : List Part) → sort_of t ≡ Some s → HasFields known s t r → sort_type s r ≡ t
type_back known page t r h f = page_type t h
type_back known body t r h f = body_type t h
type_back known table t r h f = table_type t h
type_back known row t r h f = row_type t h
type_back known fields t r h f = sym f.0

fit_back : (known : Assumptions) (s : Sort) (t : NormalType) (r : List Part) → HasFields known s t r → sort_fits known s r ≡ true
fit_back known page t r f = refl
fit_back known body t r f = refl
fit_back known table t r f = refl
fit_back known row t r f = refl
fit_back known fields t r f = (one_row known r).1 f.1

record IsLiteral (w : World) (s : Scope) (m : Mode) (n : Count) (xs : Row_of-XmlPart n) (u : NormalType) (o : Shape) (out : Row_of-Markup (count o)) (t : NormalType) : Type 0 where
  is : u ≡ t
  sort : Sort
  own_row : List Part
  sorted : sort_of t ≡ Some sort
  in_frame : is_framed_row sort out ≡ true
  marked : Marks w.declared w.most s.env (place_of sort) out [] own_row
  has_fields : HasFields s.env.known sort t own_row
  chosen : literal_sort xs (type_of_mode m) ≡ Some sort
  accepts : Accepts w.most (exp.Xml' u o out) t
  fit : fits m t ≡ true

literal_judged : (w : World) (s : Scope) (m : Mode) (n : Count) (xs : Row_of-XmlPart n) (u : NormalType) (o : Shape) (out : Row_of-Markup (count o)) (t : NormalType) → first_of (items-the_row-XmlPart n xs) ≡ first_sort out → Judged w s m (exp.Xml' u o out) t → IsLiteral w s m n xs u o out t
literal_judged w s finds n xs u o out t e j = record {
  is = sym j.0.0;
  sort = j.0.2.0;
  own_row = j.0.2.1;
  sorted = ap sort_of j.0.0 ∙ j.0.2.2;
  in_frame = j.0.2.3;
  marked = j.0.2.4;
  has_fields = subst (λ z. HasFields s.env.known j.0.2.0 z j.0.2.1) (sym j.0.0) j.0.2.5;
  chosen = ap (λ z. Some z) e ∙ (sym j.0.1 ∙ j.0.2.2);
  accepts = j.1;
  fit = refl;
}
literal_judged w s (wants v) n xs u o out t e j = record {
  is = sym (j.0 ∙ j.1.0);
  sort = j.1.1.0;
  own_row = j.1.1.1;
  sorted = ap sort_of j.0 ∙ j.1.1.2;
  in_frame = j.1.1.3;
  marked = j.1.1.4;
  has_fields = subst (λ z. HasFields s.env.known j.1.1.0 z j.1.1.1) (sym j.0) j.1.1.5;
  chosen = j.1.1.2;
  accepts = subst (λ z. Accepts w.most (exp.Xml' u o out) z) (sym j.0) j.2;
  fit = same_self t v j.0;
}

abbrev typed_literal : Literal → Sort → Marked → Option Out
typed_literal l s m = if_so (sort_fits l.scope.env.known s m.row) (gives (sort_type s m.row) (exp.Xml' (sort_type s m.row) m.marks.0 m.marks.1) m.sites)

sort_one : (t u : NormalType) (s z : Sort) → t ≡ u → sort_of t ≡ Some s → sort_of u ≡ Some z → z ≡ s
sort_one t u s z i h k = some_of (sym k ∙ (sym (ap sort_of i) ∙ h))

pub xml_walked : (w : World) (d : Statements) (names : Names) (x : Xml) (n : Shape) (ss : Row_of-Exp (count n)) (k : Shape) (ats : Row_of-Exp (count k)) (u : NormalType) (z : Sort) (o : Shape) (out : Row_of-Markup (count o)) → sort_of u ≡ Some z →
    PartsWalk w d names _ ss _ ats (place_of z) _ (row_of_parts x.parts).1 _ out → Walks w d names (e.Xml' x n ss k ats) (exp.Xml' u o out)
xml_walked w d names x n ss k ats u z o out eu kp env m t j st g starts =
    let s : Scope = scope_at names env in
    let y : ExpForm = e.Xml' x n ss k ats in
    let l : Literal = literal_of w s ss ats in
    let xs : Row_of-XmlPart (count (row_of_parts x.parts).0) = (row_of_parts x.parts).1 in
    let q : IsLiteral (stated d w) s m _ xs u o out t = literal_judged (stated d w) s m _ xs u o out t (sort_back w d names _ ss _ ats (place_of z) _ xs _ out kp) j in
    let ez : z ≡ q.sort = sort_one t u q.sort z (sym q.is) q.sorted eu in
    let kq : PartsWalk w d names _ ss _ ats (place_of q.sort) _ xs _ out = subst (λ i. PartsWalk w d names _ ss _ ats (place_of i) _ xs _ out) ez kp in
    let i : PartsAreWalked w d s _ ss _ ats (place_of q.sort) _ xs st _ out [] q.own_row = parts_walked w d names env _ ss _ ats (place_of q.sort) _ xs _ out kq [] q.own_row q.marked st g starts in
    let c : Marked = record { row = q.own_row; waiting = i.waiting; marks = shaped_marks out; sites = i.sites } in
    let et : sort_type q.sort q.own_row ≡ t = type_back env.known q.sort t q.own_row q.sorted q.has_fields in
    let v : Exp = exp.Xml' u o out in
    let h : walk w y s st m ≡ Some (out_of t v i.sites) =
    then_some (sorted_out l xs st) (literal_sort xs (type_of_mode m)) q.sort _ q.chosen (so_true (is_framed q.sort xs) _ (framed_back w d names _ ss _ ats q.sort _ xs _ out kq q.in_frame) ∙
    then_some (typed_literal l q.sort) (parts_out l xs (place_of q.sort) st) c _ i.walked (so_true (sort_fits env.known q.sort q.own_row) _ (fit_back env.known q.sort t q.own_row q.has_fields) ∙
    (ap₂ (λ a (b : Markups). Some (out_of a (exp.Xml' a b.0 b.1) i.sites)) et (marks_shaped o out) ∙ ap (λ a. Some (out_of t (exp.Xml' a o out) i.sites)) (sym q.is)))) in
    record { sites = i.sites; walked = typed_by w y s st m (out_of t v i.sites) h q.accepts q.fit; fills = i.fills; numbered = i.numbered }
