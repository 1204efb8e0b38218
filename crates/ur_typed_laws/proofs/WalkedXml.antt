-- The parts of a literal of XML: the walk gives what the rules say.
use Rattle.std.proofs.Common.{◌≡◌, ◌∙◌, refl, sym, ap, subst, Bool, true, false, Option, Some, None, List, [], ◌∷◌, ◌++◌, ℕ}
use Rattle.std.specs.Prelude.{◌&&◌, not, IsTrue, option_map, option_and_then, slice_get}
use Rattle.std.specs.List.{list_all}
use mathlib.Core.Former.{Count}
use Rattle.ur_base.specs.Shape.{Shape, count}
use Rattle.ur_base.specs.declared.refusal.Span.{Span}
use Rattle.ur_syntax.specs.declared.exp.ExpForm.{ExpForm, Row_of-Exp}
use Rattle.ur_syntax.specs.declared.xml.Tag.{Tag as WrittenTag}
use Rattle.ur_syntax.specs.declared.xml.Attr.{Attr}
use Rattle.ur_syntax.specs.declared.xml.AttrValue.{AttrValue}
use Rattle.ur_syntax.specs.declared.xml.AttrValue.TheVariants as attr_value
use Rattle.ur_syntax.specs.declared.xml.XmlForm.{XmlForm, Row_of-XmlPart, end_of-XmlPart as no_xml, more_of-XmlPart as an_xml}
use Rattle.ur_syntax.specs.declared.xml.XmlForm.TheVariants as form
use Rattle.ur_values.specs.declared.value.Tag.{Tag}
use Rattle.ur_values.specs.declared.value.Tag.TheVariants as tag
use Rattle.ur_values.specs.declared.value.FieldKind.{FieldKind}
use Rattle.ur_rows.specs.declared.normal.Label.{Label}
use Rattle.ur_rows.specs.declared.normal.NormalType.{NormalType}
use Rattle.ur_rows.specs.declared.normal.NormalType.TheVariants as ty
use Rattle.ur_rows.specs.declared.normal.Part.{Part}
use Rattle.ur_rows.specs.Apart.{Assumptions}
use Rattle.ur_rows.specs.Kinded.{label_is_in}
use Rattle.ur_rows.specs.Made.{record_of}
use Rattle.ur_rows.specs.Normal.{known_in}
use Rattle.ur_rows.specs.Types.{field}
use Rattle.ur_tree.specs.Scalars.{is_basic}
use Rattle.ur_tree.specs.Places.{Place, in_page, in_head, in_title, in_body, in_table, in_row, in_form, in_fields, in_nothing, holds_text, holds_fields, inside, place_type, fields_found}
use Rattle.ur_tree.specs.Places as places
use Rattle.ur_xmltype.specs.Tags.{node_at}
use Rattle.ur_xmltype.specs.Tags as node
use Rattle.ur_xmltype.specs.Literal.{is_kept, is_end}
use Rattle.ur_tags.specs.Show.{tag_word}
use Rattle.ur_tree.specs.declared.exp.Exp.{Exp}
use Rattle.ur_tree.specs.declared.exp.Exp.TheVariants as exp
use Rattle.ur_tree.specs.declared.exp.Exp.TheBlock.{Row_of-Exp as Row_of-Resolved, end_of-Exp as no_more, more_of-Exp as one_more, Row_of-Markup, end_of-Markup as no_markup, more_of-Markup as a_markup, Held-Exp-Tagged-1, None', Some'}
use Rattle.ur_tree.specs.declared.exp.Markup.{Markup}
use Rattle.ur_tree.specs.declared.exp.Markup.TheVariants as markup
use Rattle.ur_tree.specs.Heads.{Head}
use Rattle.ur_tree.specs.Env.{Env, variables}
use Rattle.ur_tree.specs.IsStatic.{wants_type}
use Rattle.ur_tree.specs.Occurrences.{Occurrence, link, action, occurrences, occurrences_of, held_occurrences, markup_occurrences, part_occurrences}
use Rattle.ur_tree.specs.Typing.{Finds, Passes, ByRule, has_rule, Accepts, Marks, Mark, HasValue, SpliceAt, ElementAt, Targets, types_of, are_linkable}
use Rattle.ur_typed_rules.specs.Names.{Names}
use Rattle.ur_typed_rules.specs.Lacking.{lacks_type}
use Rattle.ur_typed_rules.specs.Scopes.{World, Scope, finds, wants}
use Rattle.ur_typed_rules.specs.Tests.{same_type, are_apart, is_page}
use Rattle.ur_typed_rules.proofs.Rows.{one_row}
use Rattle.ur_typed_rules.proofs.Decided.{pages_decided}
use Rattle.ur_typed.specs.Resolves.{Statements, IsAntiquote}
use Rattle.ur_typed.specs.Rules.{Sites, Out, Walk, Args, args_out}
use Rattle.ur_typed.specs.Markups.{Literal, Markups, Marked, and_marks, one_mark, if_kept, field_splice_out, splice_by, element_out, form_out, page_params, without_last, link_with, link_out, held_exp, value_out, submit_with, submit_out, called_at, parts_out, part_out}
use Rattle.ur_typed.specs.Walking.{typed, call_walk}
use Rattle.ur_typed.specs.Parts.{literal_of}
use Rattle.ur_typed.specs.Faults.{walks}
use Rattle.ur_typed.proofs.Literals.{a_splice, an_attribute, splice_at, attribute_at}
use Rattle.ur_typed_rules.specs.Rules.{if_so}
use Rattle.ur_typed_rules.proofs.Options.{then_some, some_of}
use Rattle.ur_typed_laws.specs.Judged.{Fills, Numbered, stated}
use Rattle.ur_typed_laws.proofs.Numbers.{numbered_none, numbered_end, numbered_both, numbered_link, numbered_action}
use Rattle.ur_typed_laws.proofs.Tagging.{is_form, NodeIs, element_is, node_is}
use Rattle.ur_typed_laws.specs.Walked.{scope_at, out_of, Starts, IsWalked, Walks}
use Rattle.ur_typed_laws.proofs.Walked.{so_true, and_true, same_self, starts_left, starts_right, starts_end}
use Rattle.ur_typed_laws.proofs.WalkedCalls.{AllWalk, ArgsAreWalked, args_walked}

-- the resolved parts with their shape
abbrev pub shaped_marks : {n : _} → Row_of-Markup n → Markups
shaped_marks no_markup = ([], no_markup)
shaped_marks (a_markup m rest) = (tt ∷ (shaped_marks rest).0, a_markup m (shaped_marks rest).1)

pub marks_shaped : (q : Shape) (out : Row_of-Markup (count q)) → ◌≡◌ {A = Markups} (shaped_marks out) (q, out)
marks_shaped [] no_markup = refl
marks_shaped (tt ∷ q) (a_markup m rest) = ap (λ z. (tt ∷ z.0, a_markup m z.1)) (marks_shaped q rest)

abbrev pub marked : List Part → List NormalType → Markup → Sites → Marked
marked r waiting y st = record { row = r; waiting = waiting; marks = (tt ∷ [], a_markup y no_markup); sites = st }

-- ---- what is known of the expressions of a literal

-- a call with its written arguments
pub record CallWalks (w : World) (d : Statements) (names : Names) (x : ExpForm) (f : ℕ) (r : Shape) (args : Row_of-Resolved (count r)) : Type 0 where
  pub given : List ExpForm
  pub all : AllWalk w d names given r args
  pub called : (env : Env) → call_walk w x (scope_at names env) [] ≡ Some (f, walks w given)

pub data ValueWalks (w : World) (d : Statements) (names : Names) (c : Count) (attributes : Row_of-Exp c) : Option AttrValue → Held-Exp-Tagged-1 → Type 0 where
  without_value : ValueWalks w d names c attributes None None'
  text_value : {s : List ℕ} → ValueWalks w d names c attributes (Some (attr_value.Text s)) (Some' tt (one_more (exp.Str s) no_more))
  value_walk : {n : ℕ} {x : ExpForm} {b : Exp} → IsAntiquote c attributes n x → Walks w d names x b → ValueWalks w d names c attributes (Some (attr_value.Exp n)) (Some' tt (one_more b no_more))

mutual
  pub data PartsWalk (w : World) (d : Statements) (names : Names) (a : Count) (splices : Row_of-Exp a) (c : Count) (attributes : Row_of-Exp c) : Place → (n : Count) → Row_of-XmlPart n → (m : Count) → Row_of-Markup m → Type 0 where
    none_walk : {p : Place} → PartsWalk w d names a splices c attributes p _ no_xml _ no_markup
    dropped_walk : {p : Place} {at : Span} {s : List ℕ} {n m : Count} {rest : Row_of-XmlPart n} {out : Row_of-Markup m} → IsTrue (not (is_kept p s)) → PartsWalk w d names a splices c attributes p _ rest _ out →
        PartsWalk w d names a splices c attributes p _ (an_xml at (form.Text s) rest) _ out
    one_part : {p : Place} {at : Span} {x : XmlForm} {y : Markup} {n m : Count} {rest : Row_of-XmlPart n} {out : Row_of-Markup m} → PartWalks w d names a splices c attributes p x y → PartsWalk w d names a splices c attributes p _ rest _ out →
        PartsWalk w d names a splices c attributes p _ (an_xml at x rest) _ (a_markup y out)

  pub data PartWalks (w : World) (d : Statements) (names : Names) (a : Count) (splices : Row_of-Exp a) (c : Count) (attributes : Row_of-Exp c) : Place → XmlForm → Markup → Type 0 where
    text_walk : {p : Place} {s : List ℕ} → IsTrue (is_kept p s) → PartWalks w d names a splices c attributes p (form.Text s) (markup.Text s)
    shown_walk : {p : Place} {n : ℕ} {x : ExpForm} {b : Exp} → IsAntiquote a splices n x → Walks w d names x b → PartWalks w d names a splices c attributes p (form.Show n) (markup.Shown b)
    splice_walk : {p : Place} {n : ℕ} {x : ExpForm} {b : Exp} → IsAntiquote a splices n x → wants_type b ≡ lacks_type x → Walks w d names x b → PartWalks w d names a splices c attributes p (form.Splice n) (markup.Splice b)
    element_walk : {p i : Place} {t : WrittenTag} {attrs : List Attr} {g : Tag} {s q : Shape} {parts : Row_of-XmlPart (count s)} {out : Row_of-Markup (count q)} → node_at (known_in names.cons) p t attrs (is_end parts) ≡ Some (node.element g i) →
        PartsWalk w d names a splices c attributes i _ parts _ out → PartWalks w d names a splices c attributes p (form.Element' t attrs s parts) (markup.Element' g q out)
    form_walk : {p : Place} {t : WrittenTag} {attrs : List Attr} {s q : Shape} {parts : Row_of-XmlPart (count s)} {out : Row_of-Markup (count q)} → node_at (known_in names.cons) p t attrs (is_end parts) ≡ Some node.form →
        PartsWalk w d names a splices c attributes in_form _ parts _ out → PartWalks w d names a splices c attributes p (form.Element' t attrs s parts) (markup.Element' tag.Form q out)
    link_walk : {p : Place} {t : WrittenTag} {attrs : List Attr} {n f : ℕ} {x : ExpForm} {r s q : Shape} {args : Row_of-Resolved (count r)} {parts : Row_of-XmlPart (count s)} {out : Row_of-Markup (count q)} → node_at (known_in names.cons) p t attrs (is_end parts) ≡ Some (node.link n) →
        IsAntiquote c attributes n x → CallWalks w d names x f r args → PartsWalk w d names a splices c attributes p _ parts _ out → PartWalks w d names a splices c attributes p (form.Element' t attrs s parts) (markup.Link' f r args q out)
    input_walk : {p : Place} {t : WrittenTag} {attrs : List Attr} {k : FieldKind} {l : Label} {v : Option AttrValue} {h : Held-Exp-Tagged-1} → node_at (known_in names.cons) p t attrs true ≡ Some (node.input k l v) → ValueWalks w d names c attributes v h →
        PartWalks w d names a splices c attributes p (form.Element' t attrs [] no_xml) (markup.Input' k l h)
    submit_walk : {p : Place} {t : WrittenTag} {attrs : List Attr} {n f : ℕ} {x : ExpForm} {r : Shape} {args : Row_of-Resolved (count r)} {v : Option AttrValue} {h : Held-Exp-Tagged-1} → node_at (known_in names.cons) p t attrs true ≡ Some (node.submit n v) →
        IsAntiquote c attributes n x → CallWalks w d names x f r args → ValueWalks w d names c attributes v h → PartWalks w d names a splices c attributes p (form.Element' t attrs [] no_xml) (markup.Submit' f r args h)

-- ---- what the walk gives

record PartIsWalked (w : World) (d : Statements) (s : Scope) (a : Count) (splices : Row_of-Exp a) (c : Count) (attributes : Row_of-Exp c) (p : Place) (x : XmlForm) (st : Sites) (y : Markup) (own r : List Part) : Type 0 where
  sites : Sites
  waiting : List NormalType
  walked : part_out (literal_of w s splices attributes) x p st ≡ Some (marked r waiting y sites)
  waits : list_all (same_type (record_of own)) waiting ≡ true
  fills : Fills w d sites
  numbered : Numbered st (part_occurrences y) sites

pub record PartsAreWalked (w : World) (d : Statements) (s : Scope) (a : Count) (splices : Row_of-Exp a) (c : Count) (attributes : Row_of-Exp c) (p : Place) (n : Count) (xs : Row_of-XmlPart n) (st : Sites) (m : Count) (out : Row_of-Markup m) (own r : List Part) : Type 0 where
  pub sites : Sites
  pub waiting : List NormalType
  pub walked : parts_out (literal_of w s splices attributes) xs p st ≡ Some (record { row = r; waiting = waiting; marks = shaped_marks out; sites = sites })
  pub waits : list_all (same_type (record_of own)) waiting ≡ true
  pub fills : Fills w d sites
  pub numbered : Numbered st (markup_occurrences out) sites

all_of_both : {A : Type 0} (p : A → Bool) (xs ys : List A) → list_all p xs ≡ true → list_all p ys ≡ true → list_all p (xs ++ ys) ≡ true
all_of_both p [] ys h k = k
all_of_both p (x ∷ xs) ys h k = step (p x) (list_all p xs) (list_all p (xs ++ ys)) h (λ g. all_of_both p xs ys g k) where
  step : (a b e : Bool) → (a && b) ≡ true → (b ≡ true → e ≡ true) → (a && e) ≡ true
  step true b e i j = j i
  step false b e i j = cc

kept_not : (b : Bool) → not b ≡ true → b ≡ false
kept_not true h = cc
kept_not false h = refl

-- ---- values and targets

record ValueIsWalked (w : World) (d : Statements) (s : Scope) (a : Count) (splices : Row_of-Exp a) (c : Count) (attributes : Row_of-Exp c) (st : Sites) (v : Option AttrValue) (h : Held-Exp-Tagged-1) : Type 0 where
  sites : Sites
  walked : value_out (literal_of w s splices attributes) st v ≡ Some (h, sites)
  fills : Fills w d sites
  numbered : Numbered st (held_occurrences h) sites

abbrev held_out : Out → Option (Held-Exp-Tagged-1 × Sites)
held_out o = Some (held_exp o.exp, o.sites)

value_walked : (w : World) (d : Statements) (names : Names) (env : Env) (a : Count) (splices : Row_of-Exp a) (c : Count) (attributes : Row_of-Exp c) (may : Bool) (v : Option AttrValue) (h : Held-Exp-Tagged-1) → ValueWalks w d names c attributes v h → HasValue (stated d w).declared w.most env may h → (st : Sites) → Fills w d st →
    Starts st (held_occurrences h) → ValueIsWalked w d (scope_at names env) a splices c attributes st v h
value_walked w d names env a splices c attributes may _ _ without_value i st g u = record { sites = st; walked = refl; fills = g; numbered = numbered_none st }
value_walked w d names env a splices c attributes may _ _ text_value i st g u = record { sites = st; walked = refl; fills = g; numbered = numbered_none st }
value_walked w d names env a splices c attributes may _ _ (value_walk {n = n} {x = x} {b = b} e k) i st g u =
    let s : Scope = scope_at names env in
    let z : IsWalked w d x s st (wants ty.Str) b ty.Str = k env (wants ty.Str) ty.Str (refl, i.1.0, i.1.1) st g (starts_end (occurrences b) u) in
    record {
      sites = z.sites;
      walked = then_some _ _ (an_attribute w s x) _ (attribute_at w s c attributes n x e) (then_some held_out _ (out_of ty.Str b z.sites) _ z.walked refl);
      fills = z.fills;
      numbered = numbered_end z.numbered;
    }

called_back : (w : World) (names : Names) (env : Env) (a : Count) (splices : Row_of-Exp a) (c : Count) (attributes : Row_of-Exp c) (n : ℕ) (x : ExpForm) (f : ℕ × List Walk) → IsAntiquote c attributes n x → call_walk w x (scope_at names env) [] ≡ Some f → called_at (literal_of w (scope_at names env) splices attributes) n ≡ Some f
called_back w names env a splices c attributes n x f e h = ap (option_and_then (λ z. z.calls)) (attribute_at w (scope_at names env) c attributes n x e) ∙ h

params_back : (d : Statements) (w : World) (f : ℕ) (ts : List NormalType) → Targets (stated d w).declared f ts → page_params w.declared f ≡ Some ts
params_back d w f ts h =
    then_some (λ (z : Head). if_so (is_page z) (Some (types_of z.params))) (slice_get w.declared.functions f) h.0 (Some ts) h.1 (so_true (is_page h.0) (Some (types_of h.0.params)) ((pages_decided h.0).1 h.2) ∙ ap Some h.3)

last_back : (ts : List NormalType) (t : NormalType) → without_last (ts ++ t ∷ []) ≡ Some (ts, t)
last_back [] t = refl
last_back (x ∷ []) t = refl
last_back (x ∷ y ∷ ts) t = ap (option_map (λ (r : List NormalType × NormalType). (x ∷ r.0, r.1))) (last_back (y ∷ ts) t)

starts_link : {st : Sites} (n : ℕ) (os : List Occurrence) → Starts st (link n ∷ os) → Starts st os
starts_link n os u = record { sites = u.sites; updates = u.updates }

starts_action : {st : Sites} (n : ℕ) (os : List Occurrence) → Starts st (action n ∷ os) → Starts st os
starts_action n os u = record { sites = u.sites; updates = u.updates }

-- ---- splices

record SpliceIsWalked (w : World) (d : Statements) (s : Scope) (a : Count) (splices : Row_of-Exp a) (c : Count) (attributes : Row_of-Exp c) (p : Place) (x : ExpForm) (st : Sites) (b : Exp) (r : List Part) : Type 0 where
  sites : Sites
  walked : splice_by (literal_of w s splices attributes) p st (a_splice w x) (holds_fields p) ≡ Some (marked r [] (markup.Splice b) sites)
  fills : Fills w d sites
  numbered : Numbered st (occurrences b) sites

abbrev FoundAs : World → Env → Exp → NormalType → Type 0
FoundAs w env b t = Finds w.declared w.most env b t × Accepts w.most b t

abbrev WantedAs : World → Env → Exp → NormalType → Type 0
WantedAs w env b t = ByRule (has_rule b) (Passes w.declared w.most env b t) (Finds w.declared w.most env b t) × Accepts w.most b t

abbrev spliced : Out → List Part → Option Marked
spliced o r = one_mark r [] (markup.Splice o.exp) o.sites

abbrev spliced_found : Out → Option Marked
spliced_found o = option_and_then (spliced o) (fields_found o.of)

abbrev spliced_body : Out → Option Marked
spliced_body o = one_mark [] [] (markup.Splice o.exp) o.sites

found_splice : (w : World) (d : Statements) (names : Names) (env : Env) (a : Count) (splices : Row_of-Exp a) (c : Count) (attributes : Row_of-Exp c) (p : Place) (x : ExpForm) (b : Exp) (r : List Part) (t : NormalType) → holds_fields p ≡ true → lacks_type x ≡ false → Walks w d names x b → FoundAs (stated d w) env b t →
    fields_found t ≡ Some r → (st : Sites) → Fills w d st → Starts st (occurrences b) → SpliceIsWalked w d (scope_at names env) a splices c attributes p x st b r
found_splice w d names env a splices c attributes p x b r t hp el k h ef st g u =
    let s : Scope = scope_at names env in
    let l : Literal = literal_of w s splices attributes in
    let i : IsWalked w d x s st finds b t = k env finds t (h.0, h.1) st g u in
    record {
      sites = i.sites;
      walked = ap (splice_by l p st (a_splice w x)) hp ∙ (ap (field_splice_out l st (typed w x)) el ∙ then_some spliced_found (typed w x s st finds) (out_of t b i.sites) _ i.walked (then_some (spliced (out_of t b i.sites)) (fields_found t) r _ ef refl));
      fills = i.fills;
      numbered = i.numbered;
    }

body_splice : (w : World) (d : Statements) (names : Names) (env : Env) (a : Count) (splices : Row_of-Exp a) (c : Count) (attributes : Row_of-Exp c) (p : Place) (x : ExpForm) (b : Exp) (r : List Part) → holds_fields p ≡ true → lacks_type x ≡ true → Walks w d names x b → WantedAs (stated d w) env b ty.Xbody → r ≡ [] → (st : Sites) →
    Fills w d st → Starts st (occurrences b) → SpliceIsWalked w d (scope_at names env) a splices c attributes p x st b r
body_splice w d names env a splices c attributes p x b r hp el k h er st g u =
    let s : Scope = scope_at names env in
    let l : Literal = literal_of w s splices attributes in
    let i : IsWalked w d x s st (wants ty.Xbody) b ty.Xbody = k env (wants ty.Xbody) ty.Xbody (refl, h.0, h.1) st g u in
    subst (λ z. SpliceIsWalked w d s a splices c attributes p x st b z) (sym er) (record {
      sites = i.sites;
      walked = ap (splice_by l p st (a_splice w x)) hp ∙ (ap (field_splice_out l st (typed w x)) el ∙ then_some spliced_body (typed w x s st (wants ty.Xbody)) (out_of ty.Xbody b i.sites) _ i.walked refl);
      fills = i.fills;
      numbered = i.numbered;
    })

abbrev place_spliced : Literal → Sites → Walk → NormalType → Option Marked
place_spliced l st f t = option_and_then spliced_body (f l.scope st (wants t))

placed_splice : (w : World) (d : Statements) (names : Names) (env : Env) (a : Count) (splices : Row_of-Exp a) (c : Count) (attributes : Row_of-Exp c) (p : Place) (x : ExpForm) (b : Exp) (r : List Part) → holds_fields p ≡ false → Walks w d names x b →
    (t : NormalType) × (place_type p ≡ Some t) × WantedAs (stated d w) env b t × (r ≡ []) → (st : Sites) → Fills w d st → Starts st (occurrences b) → SpliceIsWalked w d (scope_at names env) a splices c attributes p x st b r
placed_splice w d names env a splices c attributes p x b r hp k h st g u =
    let s : Scope = scope_at names env in
    let l : Literal = literal_of w s splices attributes in
    let i : IsWalked w d x s st (wants h.0) b h.0 = k env (wants h.0) h.0 (refl, h.2.0, h.2.1) st g u in
    subst (λ z. SpliceIsWalked w d s a splices c attributes p x st b z) (sym h.3) (record {
      sites = i.sites;
      walked = ap (splice_by l p st (a_splice w x)) hp ∙ then_some (place_spliced l st (typed w x)) (place_type p) h.0 _ h.1 (then_some spliced_body (typed w x s st (wants h.0)) (out_of h.0 b i.sites) _ i.walked refl);
      fills = i.fills;
      numbered = i.numbered;
    })

splice_walked : (w : World) (d : Statements) (names : Names) (env : Env) (a : Count) (splices : Row_of-Exp a) (c : Count) (attributes : Row_of-Exp c) (p : Place) (x : ExpForm) (b : Exp) (r : List Part) (own : Bool) → own ≡ lacks_type x → Walks w d names x b →
    SpliceAt p own (FoundAs (stated d w) env b) (WantedAs (stated d w) env b) r → (st : Sites) → Fills w d st → Starts st (occurrences b) → SpliceIsWalked w d (scope_at names env) a splices c attributes p x st b r
splice_walked w d names env a splices c attributes in_form x b r false e k h st g u = found_splice w d names env a splices c attributes in_form x b r h.0 refl (sym e) k h.1 h.2 st g u
splice_walked w d names env a splices c attributes in_form x b r true e k h st g u = body_splice w d names env a splices c attributes in_form x b r refl (sym e) k h.0 h.1 st g u
splice_walked w d names env a splices c attributes in_fields x b r false e k h st g u = found_splice w d names env a splices c attributes in_fields x b r h.0 refl (sym e) k h.1 h.2 st g u
splice_walked w d names env a splices c attributes in_fields x b r true e k h st g u = body_splice w d names env a splices c attributes in_fields x b r refl (sym e) k h.0 h.1 st g u
splice_walked w d names env a splices c attributes in_page x b r own e k h st g u = placed_splice w d names env a splices c attributes in_page x b r refl k h st g u
splice_walked w d names env a splices c attributes in_head x b r own e k h st g u = placed_splice w d names env a splices c attributes in_head x b r refl k h st g u
splice_walked w d names env a splices c attributes in_title x b r own e k h st g u = placed_splice w d names env a splices c attributes in_title x b r refl k h st g u
splice_walked w d names env a splices c attributes in_body x b r own e k h st g u = placed_splice w d names env a splices c attributes in_body x b r refl k h st g u
splice_walked w d names env a splices c attributes in_table x b r own e k h st g u = placed_splice w d names env a splices c attributes in_table x b r refl k h st g u
splice_walked w d names env a splices c attributes in_row x b r own e k h st g u = placed_splice w d names env a splices c attributes in_row x b r refl k h st g u
splice_walked w d names env a splices c attributes in_nothing x b r own e k h st g u = placed_splice w d names env a splices c attributes in_nothing x b r refl k h st g u

-- ---- tags

-- an element is no form, and its place says what it holds
pub element_of : (p : Place) (w : List ℕ) (bare : Bool) (g : Tag) (i : Place) → NodeIs p w bare (node.element g i) → (tag_word g ≡ w) × (is_form g ≡ false) × (inside p g ≡ Some i)
element_of p w bare g i (element_is a b c) = (a, b, c)

element_rule : (known : Assumptions) (p : Place) (g : Tag) (within : Place → List Part → List Part → Type 0) (r own : List Part) → is_form g ≡ false → ElementAt known p g within r own → (q : Place) × (inside p g ≡ Some q) × within q own r
element_rule known p tag.Form within r own e h = cc
element_rule known p tag.Head within r own e h = h
element_rule known p tag.Title within r own e h = h
element_rule known p tag.Body within r own e h = h
element_rule known p tag.P within r own e h = h
element_rule known p tag.Div within r own e h = h
element_rule known p tag.Span within r own e h = h
element_rule known p tag.B within r own e h = h
element_rule known p tag.I within r own e h = h
element_rule known p tag.Em within r own e h = h
element_rule known p tag.Strong within r own e h = h
element_rule known p tag.H1 within r own e h = h
element_rule known p tag.H2 within r own e h = h
element_rule known p tag.H3 within r own e h = h
element_rule known p tag.H4 within r own e h = h
element_rule known p tag.Ul within r own e h = h
element_rule known p tag.Ol within r own e h = h
element_rule known p tag.Li within r own e h = h
element_rule known p tag.Pre within r own e h = h
element_rule known p tag.Code within r own e h = h
element_rule known p tag.Br within r own e h = h
element_rule known p tag.Hr within r own e h = h
element_rule known p tag.Table within r own e h = h
element_rule known p tag.Tr within r own e h = h
element_rule known p tag.Td within r own e h = h
element_rule known p tag.Th within r own e h = h

abbrev Inner : World → Scope → {a c : Count} → Row_of-Exp a → Row_of-Exp c → {n : Count} → Row_of-XmlPart n → Place → Sites → Option Marked
Inner w s splices attributes parts q st = parts_out (literal_of w s splices attributes) parts q st

abbrev linked_with : ℕ × List Walk → Args × Sites → Marked → Option Marked
linked_with f r m = one_mark m.row m.waiting (markup.Link' f.0 r.0.0 r.0.1 m.marks.0 m.marks.1) m.sites

abbrev linked_by : (Sites → Option Marked) → ℕ × List Walk → Args × Sites → Option Marked
linked_by inner f r = option_and_then (linked_with f r) (inner r.1)

abbrev inputted : FieldKind → Label → Held-Exp-Tagged-1 × Sites → Option Marked
inputted k x h = one_mark (field x (places.field_type k) ∷ []) [] (markup.Input' k x h.0) h.1

abbrev sent_with : ℕ × List Walk → List NormalType × NormalType → Args × Sites → Held-Exp-Tagged-1 × Sites → Option Marked
sent_with f ts r h = one_mark [] (ts.1 ∷ []) (markup.Submit' f.0 r.0.0 r.0.1 h.0) h.1

abbrev sent_by : Literal → Option AttrValue → ℕ × List Walk → List NormalType × NormalType → Args × Sites → Option Marked
sent_by l v f ts r = option_and_then (sent_with f ts r) (value_out l r.1 v)

mutual
  pub parts_walked : (w : World) (d : Statements) (names : Names) (env : Env) (a : Count) (splices : Row_of-Exp a) (c : Count) (attributes : Row_of-Exp c) (p : Place) (n : Count) (xs : Row_of-XmlPart n) (m : Count) (out : Row_of-Markup m) → PartsWalk w d names a splices c attributes p n xs m out → (own r : List Part) →
      Marks (stated d w).declared w.most env p out own r → (st : Sites) → Fills w d st → Starts st (markup_occurrences out) → PartsAreWalked w d (scope_at names env) a splices c attributes p n xs st m out own r
  parts_walked w d names env a splices c attributes p _ _ _ _ none_walk own r h st g u =
      subst (λ z. PartsAreWalked w d (scope_at names env) a splices c attributes p _ no_xml st _ no_markup own z) (sym h) (record { sites = st; waiting = []; walked = refl; waits = refl; fills = g; numbered = numbered_none st })
  parts_walked w d names env a splices c attributes p _ _ _ _ (dropped_walk {s = t} {n = n} {m = m} {rest = rest} {out = out} e k) own r h st g u =
      let l : Literal = literal_of w (scope_at names env) splices attributes in
      let i : PartsAreWalked w d (scope_at names env) a splices c attributes p n rest st m out own r = parts_walked w d names env a splices c attributes p n rest m out k own r h st g u in
      let et : if_kept (is_kept p t) p t st ≡ Some (record { row = []; waiting = []; marks = ([], no_markup); sites = st }) = ap (λ b. if_kept b p t st) (kept_not (is_kept p t) e) in
      let z : Marked = record { row = []; waiting = []; marks = ([], no_markup); sites = st } in
      record { sites = i.sites; waiting = i.waiting; walked = then_some (λ v. option_map (and_marks v) (parts_out l rest p v.sites)) (if_kept (is_kept p t) p t st) z _ et (ap (option_map (and_marks z)) i.walked); waits = i.waits; fills = i.fills; numbered = i.numbered }
  parts_walked w d names env a splices c attributes p _ _ _ _ (one_part {at = at} {x = x} {y = y} {n = n} {m = m} {rest = rest} {out = out} k kr) own r h st g u =
      let s : Scope = scope_at names env in
      let l : Literal = literal_of w s splices attributes in
      let i : PartIsWalked w d s a splices c attributes p x st y own h.0 = part_walked w d names env a splices c attributes p x y k own h.0 h.3 st g (starts_left (part_occurrences y) (markup_occurrences out) u) in
      let v : PartsAreWalked w d s a splices c attributes p n rest i.sites m out own h.1 = parts_walked w d names env a splices c attributes p n rest m out kr own h.1 h.4 i.sites i.fills (starts_right (part_occurrences y) (markup_occurrences out) u i.numbered) in
      let one : Marked = marked h.0 i.waiting y i.sites in
      subst (λ z. PartsAreWalked w d s a splices c attributes p _ (an_xml at x rest) st _ (a_markup y out) own z) (sym h.2) (record {
        sites = v.sites;
        waiting = i.waiting ++ v.waiting;
        walked = then_some (λ q. option_map (and_marks q) (parts_out l rest p q.sites)) (part_out l x p st) one _ i.walked (ap (option_map (and_marks one)) v.walked);
        waits = all_of_both (same_type (record_of own)) i.waiting v.waiting i.waits v.waits;
        fills = v.fills;
        numbered = numbered_both i.numbered v.numbered;
      })

  part_walked : (w : World) (d : Statements) (names : Names) (env : Env) (a : Count) (splices : Row_of-Exp a) (c : Count) (attributes : Row_of-Exp c) (p : Place) (x : XmlForm) (y : Markup) → PartWalks w d names a splices c attributes p x y → (own r : List Part) → Mark (stated d w).declared w.most env p y own r → (st : Sites) →
      Fills w d st → Starts st (part_occurrences y) → PartIsWalked w d (scope_at names env) a splices c attributes p x st y own r
  part_walked w d names env a splices c attributes p _ _ (text_walk {s = t} e) own r h st g u =
      subst (λ z. PartIsWalked w d (scope_at names env) a splices c attributes p (form.Text t) st (markup.Text t) own z) (sym h.1)
      (record { sites = st; waiting = []; walked = ap (λ b. if_kept b p t st) e ∙ so_true (holds_text p) (one_mark [] [] (markup.Text t) st) h.0; waits = refl; fills = g; numbered = numbered_none st })
  part_walked w d names env a splices c attributes p _ _ (shown_walk {n = n} {x = x} {b = b} e k) own r h st g u =
      let s : Scope = scope_at names env in
      let i : IsWalked w d x s st finds b h.1.0 = k env finds h.1.0 (h.1.1, h.1.2) st g u in
      subst (λ z. PartIsWalked w d s a splices c attributes p (form.Show n) st (markup.Shown b) own z) (sym h.2) (record {
        sites = i.sites;
        waiting = [];
        walked = then_some _ _ (a_splice w x) _ (splice_at w a splices n x e) (so_true (holds_text p) _ h.0 ∙ then_some _ _ (out_of h.1.0 b i.sites) _ i.walked (so_true (is_basic h.1.0) _ h.1.3));
        waits = refl;
        fills = i.fills;
        numbered = i.numbered;
      })
  part_walked w d names env a splices c attributes p _ _ (splice_walk {n = n} {x = x} {b = b} e el k) own r h st g u =
      let s : Scope = scope_at names env in
      let i : SpliceIsWalked w d s a splices c attributes p x st b r = splice_walked w d names env a splices c attributes p x b r (wants_type b) el k h st g u in
      record { sites = i.sites; waiting = []; walked = then_some _ _ (a_splice w x) _ (splice_at w a splices n x e) i.walked; waits = refl; fills = i.fills; numbered = i.numbered }
  part_walked w d names env a splices c attributes p _ _ (element_walk {i = q} {t = t} {attrs = attrs} {g = t'} {s = k} {q = j} {parts = parts} {out = out} e kp) own r h st g u =
      let s : Scope = scope_at names env in
      let f : (tag_word t' ≡ t.word) × (is_form t' ≡ false) × (inside p t' ≡ Some q) = element_of p t.word (is_end parts) t' q (node_is (known_in names.cons) p t attrs (is_end parts) (node.element t' q) e) in
      let z : (q' : Place) × (inside p t' ≡ Some q') × Marks (stated d w).declared w.most env q' out own r = element_rule env.known p t' (λ q' i o. Marks (stated d w).declared w.most env q' out i o) r own f.1 h in
      let ms : Marks (stated d w).declared w.most env q out own r = subst (λ q'. Marks (stated d w).declared w.most env q' out own r) (some_of (sym z.1 ∙ f.2)) z.2 in
      let i : PartsAreWalked w d s a splices c attributes q _ parts st _ out own r = parts_walked w d names env a splices c attributes q _ parts _ out kp own r ms st g u in
      record {
        sites = i.sites;
        waiting = i.waiting;
        walked = then_some _ _ (node.element t' q) _ e (then_some (element_out t') _ (record { row = r; waiting = i.waiting; marks = shaped_marks out; sites = i.sites }) _ i.walked (ap (λ (v : Markups). one_mark r i.waiting (markup.Element' t' v.0 v.1) i.sites) (marks_shaped j out)));
        waits = i.waits;
        fills = i.fills;
        numbered = i.numbered;
      }
  part_walked w d names env a splices c attributes p _ _ (form_walk {t = t} {attrs = attrs} {s = k} {q = j} {parts = parts} {out = out} e kp) own r h st g u =
      let s : Scope = scope_at names env in
      let q : List Part = h.1.0 in
      let i : PartsAreWalked w d s a splices c attributes in_form _ parts st _ out q q = parts_walked w d names env a splices c attributes in_form _ parts _ out kp q q h.1.1 st g u in
      let z : Marked = record { row = q; waiting = i.waiting; marks = shaped_marks out; sites = i.sites } in
      subst (λ v. PartIsWalked w d s a splices c attributes p (form.Element' t attrs k parts) st (markup.Element' tag.Form j out) own v) (sym h.2) (record {
        sites = i.sites;
        waiting = [];
        walked = then_some _ _ node.form _ e (then_some (form_out env.known) _ z _ i.walked (so_true (are_apart env.known q && list_all (same_type (record_of q)) i.waiting) _
            (and_true (are_apart env.known q) (list_all (same_type (record_of q)) i.waiting) ((one_row env.known q).1 h.1.2) i.waits) ∙ ap (λ (v : Markups). one_mark [] [] (markup.Element' tag.Form v.0 v.1) i.sites) (marks_shaped j out)));
        waits = refl;
        fills = i.fills;
        numbered = i.numbered;
      })
  part_walked w d names env a splices c attributes p _ _ (link_walk {t = t} {attrs = attrs} {n = n} {f = f} {x = x} {r = z} {s = k} {q = j} {args = args} {parts = parts} {out = out} e ea kc kp) own r h st g u =
      let s : Scope = scope_at names env in
      let l : Literal = literal_of w s splices attributes in
      let ts : List NormalType = h.1.0 in
      let c' : ℕ × List Walk = (f, walks w kc.given) in
      let inner : Sites → Option Marked = Inner w s splices attributes parts p in
      let v : Starts st (occurrences_of args ++ markup_occurrences out) = starts_link f (occurrences_of args ++ markup_occurrences out) u in
      let ia : ArgsAreWalked w d s kc.given ts st z args = args_walked w d names env kc.given ts st z args kc.all h.1.3 g (starts_left (occurrences_of args) (markup_occurrences out) v) in
      let i : PartsAreWalked w d s a splices c attributes p _ parts ia.sites _ out own r = parts_walked w d names env a splices c attributes p _ parts _ out kp own r h.2 ia.sites ia.fills (starts_right (occurrences_of args) (markup_occurrences out) v ia.numbered) in
      let q : Marked = record { row = r; waiting = i.waiting; marks = shaped_marks out; sites = i.sites } in
      record {
        sites = i.sites;
        waiting = i.waiting;
        walked = then_some _ _ (node.link n) _ e (then_some (link_out l inner st) (called_at l n) c' _ (called_back w names env a splices c attributes n x c' ea (kc.called env))
            (then_some (link_with l inner st c') (page_params w.declared f) ts _ (params_back d w f ts h.1.1) (so_true (are_linkable ts) _ h.1.2 ∙
            then_some (linked_by inner c') (args_out s (walks w kc.given) ts st) ((z, args), ia.sites) _ ia.walked (then_some (linked_with c' ((z, args), ia.sites)) (inner ia.sites) q _ i.walked
            (ap (λ (y : Markups). one_mark r i.waiting (markup.Link' f z args y.0 y.1) i.sites) (marks_shaped j out))))));
        waits = i.waits;
        fills = i.fills;
        numbered = numbered_link f (numbered_both ia.numbered i.numbered);
      }
  part_walked w d names env a splices c attributes p _ _ (input_walk {t = t} {attrs = attrs} {k = k} {l = x} {v = v} {h = y} e kv) own r h st g u =
      let s : Scope = scope_at names env in
      let l : Literal = literal_of w s splices attributes in
      let i : ValueIsWalked w d s a splices c attributes st v y = value_walked w d names env a splices c attributes (places.may_have_value k) v y kv h.2 st g u in
      subst (λ z. PartIsWalked w d s a splices c attributes p (form.Element' t attrs [] no_xml) st (markup.Input' k x y) own z) (sym h.3) (record {
        sites = i.sites;
        waiting = [];
        walked = then_some _ _ (node.input k x v) _ e (so_true (label_is_in (variables env) x) _ h.1 ∙ then_some (inputted k x) (value_out l st v) (y, i.sites) _ i.walked refl);
        waits = refl;
        fills = i.fills;
        numbered = i.numbered;
      })
  part_walked w d names env a splices c attributes p _ _ (submit_walk {t = t} {attrs = attrs} {n = n} {f = f} {x = x} {r = z} {args = args} {v = v} {h = y} e ea kc kv) own r h st g u =
      let s : Scope = scope_at names env in
      let l : Literal = literal_of w s splices attributes in
      let ts : List NormalType = h.1.0 in
      let both : List NormalType × NormalType = (ts, record_of own) in
      let c' : ℕ × List Walk = (f, walks w kc.given) in
      let o : Starts st (occurrences_of args ++ held_occurrences y) = starts_action f (occurrences_of args ++ held_occurrences y) u in
      let ia : ArgsAreWalked w d s kc.given ts st z args = args_walked w d names env kc.given ts st z args kc.all h.1.3 g (starts_left (occurrences_of args) (held_occurrences y) o) in
      let i : ValueIsWalked w d s a splices c attributes ia.sites v y = value_walked w d names env a splices c attributes true v y kv h.2 ia.sites ia.fills (starts_right (occurrences_of args) (held_occurrences y) o ia.numbered) in
      let ep : option_and_then without_last (page_params w.declared f) ≡ Some both = then_some without_last (page_params w.declared f) (ts ++ record_of own ∷ []) _ (params_back d w f (ts ++ record_of own ∷ []) h.1.1) (last_back ts (record_of own)) in
      subst (λ q. PartIsWalked w d s a splices c attributes p (form.Element' t attrs [] no_xml) st (markup.Submit' f z args y) own q) (sym h.3) (record {
        sites = i.sites;
        waiting = record_of own ∷ [];
        walked = then_some _ _ (node.submit n v) _ e (then_some (submit_out l v st) (called_at l n) c' _ (called_back w names env a splices c attributes n x c' ea (kc.called env))
            (then_some (submit_with l v st c') (option_and_then without_last (page_params w.declared f)) both _ ep (so_true (are_linkable ts) _ h.1.2 ∙
            then_some (sent_by l v c' both) (args_out s (walks w kc.given) ts st) ((z, args), ia.sites) _ ia.walked (then_some (sent_with c' both ((z, args), ia.sites)) (value_out l ia.sites v) (y, i.sites) _ i.walked refl))));
        waits = ap (λ b. b && true) (same_self (record_of own) (record_of own) refl);
        fills = i.fills;
        numbered = numbered_action f (numbered_both ia.numbered i.numbered);
      })
