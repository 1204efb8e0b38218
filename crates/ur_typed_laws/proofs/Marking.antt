-- Literals of XML: what is typed resolves and has its type by the rules.
use Rattle.std.proofs.Common.{◌≡◌, ◌∙◌, refl, sym, ap, ap₂, subst, Bool, true, false, true≢false, Option, Some, None, List, [], ◌∷◌, ◌++◌, ℕ, zero, suc}
use Rattle.std.specs.Prelude.{◌≤◌, not, option_and_then, slice_get}
use Rattle.std.specs.List.{list_all}
use mathlib.Core.Former.{Count}
use Rattle.ur_base.specs.Shape.{Shape, count}
use Rattle.ur_base.specs.declared.refusal.Span.{Span}
use Rattle.ur_syntax.specs.Names.{own, member as of_module}
use Rattle.ur_syntax.specs.declared.exp.ExpForm.{ExpForm, Row_of-Exp, end_of-Exp as alone, more_of-Exp as its}
use Rattle.ur_syntax.specs.declared.exp.ExpForm.TheVariants as e
use Rattle.ur_syntax.specs.declared.xml.AttrValue.{AttrValue}
use Rattle.ur_syntax.specs.declared.xml.AttrValue.TheVariants as attr_value
use Rattle.ur_syntax.specs.declared.xml.XmlForm.{XmlForm, Row_of-XmlPart, more_of-XmlPart as an_xml, items-the_row-XmlPart}
use Rattle.ur_syntax.specs.declared.xml.XmlForm.TheVariants as form
use Rattle.ur_rows.specs.declared.normal.NormalType.{NormalType}
use Rattle.ur_rows.specs.declared.normal.NormalType.TheVariants as ty
use Rattle.ur_rows.specs.declared.normal.Part.{Part as RowPart}
use Rattle.ur_rows.specs.Made.{record_of}
use Rattle.ur_rows.specs.Order.{joined}
use Rattle.ur_tree.specs.Scalars.{is_basic}
use Rattle.ur_tree.specs.Places.{Place, in_form, in_fields, holds_text, holds_fields, place_type, page, row, fields_found}
use Rattle.ur_xmltype.specs.Tags.{is_in_form}
use Rattle.ur_xmltype.specs.Literal.{is_kept, first_of, sort_with, word_of}
use Rattle.ur_tree.specs.declared.exp.Exp.{Exp}
use Rattle.ur_tree.specs.declared.exp.Exp.TheVariants as exp
use Rattle.ur_tree.specs.declared.exp.Exp.TheBlock.{Row_of-Exp as Row_of-Resolved, Row_of-Markup, end_of-Markup as no_markup, more_of-Markup as a_markup, Held-Exp-Tagged-1, None'}
use Rattle.ur_tree.specs.declared.exp.Markup.{Markup}
use Rattle.ur_tree.specs.declared.exp.Markup.TheVariants as markup
use Rattle.ur_tree.specs.Heads.{Head}
use Rattle.ur_tree.specs.IsStatic.{wants_type}
use Rattle.ur_tree.specs.Typing.{Finds, Checks, Accepts, Marks, Mark, HasValue, SpliceAt, IsPage, types_of, first_sort}
use Rattle.ur_tree.specs.Occurrences.{held_occurrences, part_occurrences, markup_occurrences}
use Rattle.ur_typed_rules.specs.Names.{Declared as DeclaredAs, function, val, declared, local_at}
use Rattle.ur_typed_rules.specs.Names as here
use Rattle.ur_typed_rules.specs.Lacking.{lacks_type}
use Rattle.ur_typed_rules.specs.Scopes.{World, Scope, finds, wants}
use Rattle.ur_typed_rules.specs.Tests.{same_type, is_page}
use Rattle.ur_typed_rules.proofs.Decided.{pages_decided}
use Rattle.ur_typed.specs.Resolves.{Statements, IsAntiquote, first, IsDeclared, ResolvesParts, parts_dropped, parts_one, ResolvesPart, part_text, part_shown, part_splice, ResolvesValue, value_none, value_text, value_of, Calls, call_further, call_head}
use Rattle.ur_typed.specs.Resolves as resolves
use Rattle.ur_typed.specs.Rules.{Sites, Out, Walk, function_named, as_function_number, if_unbound}
use Rattle.ur_typed.specs.Markups.{Splice, Attribute, Literal, Marked, no_marks, one_mark, and_marks, if_kept, shown_out, field_splice_out, splice_by, splice_out, page_params, without_last, held_exp, value_out, called_at, part_out}
use Rattle.ur_typed.specs.Walking.{typed, splices_walk, attributes_walk, call_walk, with_calls}
use Rattle.ur_typed.specs.Parts.{literal_of, is_applied}
use Rattle.ur_typed.specs.Faults.{walks}
use Rattle.ur_typed_laws.specs.Judged.{AreTold, Fills, stated, Numbered, IsSound, Sound}
use Rattle.ur_typed_laws.proofs.Numbers.{numbered_none, numbered_both, numbered_end}
use Rattle.ur_typed.proofs.Literals.{a_splice, an_attribute, call_at_head}
use Rattle.ur_typed_laws.proofs.Applications.{AllSound, ArgsResolve, one_given}
use Rattle.ur_typed_laws.proofs.Stating.{RowIsSound}
use Rattle.ur_typed_laws.proofs.Wanting.{wants_is}
use Rattle.ur_typed_laws.proofs.Tagging.{MayStand}
use Rattle.ur_typed_rules.specs.Rules.{if_so}
use Rattle.ur_typed_rules.proofs.Options.{some_of, opened, opened_if, both_true, mapped}
use Rattle.ur_typed.proofs.Shapes.{next_of}

-- ---- the expressions beside a literal

-- the arguments of an application are sound, along its spine
abbrev pub SpineArgsSound : World → ExpForm → Type 0
SpineArgsSound w (e.App' _ (its p f alone) _ (its q a alone)) = SpineArgsSound w f × Sound w a
SpineArgsSound w _ = Unit {0}

abbrev pub TargetsSound : World → {n : _} → Row_of-Exp n → Type 0
TargetsSound w alone = Unit {0}
TargetsSound w (its p x rest) = SpineArgsSound w x × TargetsSound w rest

record SpliceIs (w : World) (n : Count) (xs : Row_of-Exp n) (i : ℕ) (x : Splice) : Type 0 where
  written : ExpForm
  there : IsAntiquote n xs i written
  is : a_splice w written ≡ x
  sound : Sound w written

splice_is : (w : World) (n : Count) (xs : Row_of-Exp n) → RowIsSound w xs → (i : ℕ) (x : Splice) → slice_get (splices_walk w xs) i ≡ Some x → SpliceIs w n xs i x
splice_is w _ alone k i x h = cc
splice_is w _ (its p y rest) k zero x h = record { written = y; there = first; is = some_of h; sound = k.0 }
splice_is w _ (its {n = n} p y rest) k (suc i) x h =
    let r : SpliceIs w n rest i x = splice_is w n rest k.1 i x h in record { written = r.written; there = next_of n p y r.written rest i r.there; is = r.is; sound = r.sound }

record AttributeIs (w : World) (s : Scope) (n : Count) (xs : Row_of-Exp n) (i : ℕ) (x : Attribute) : Type 0 where
  written : ExpForm
  there : IsAntiquote n xs i written
  is : an_attribute w s written ≡ x
  sound : Sound w written
  args : SpineArgsSound w written

attribute_is : (w : World) (s : Scope) (n : Count) (xs : Row_of-Exp n) → RowIsSound w xs → TargetsSound w xs → (i : ℕ) (x : Attribute) → slice_get (attributes_walk w xs s) i ≡ Some x → AttributeIs w s n xs i x
attribute_is w s _ alone k t i x h = cc
attribute_is w s _ (its p y rest) k t zero x h = record { written = y; there = first; is = some_of h; sound = k.0; args = t.0 }
attribute_is w s _ (its {n = n} p y rest) k t (suc i) x h =
    let r : AttributeIs w s n rest i x = attribute_is w s n rest k.1 t.1 i x h in
    record { written = r.written; there = next_of n p y r.written rest i r.there; is = r.is; sound = r.sound; args = r.args }

pub record Beside (w : World) (s : Scope) (a : Count) (splices : Row_of-Exp a) (c : Count) (attributes : Row_of-Exp c) : Type 0 where
  pub splices_sound : RowIsSound w splices
  pub attributes_sound : RowIsSound w attributes
  pub targets_sound : TargetsSound w attributes
  -- a type has a node
  pub room : 1 ≤ w.most

-- ---- targets

pub data CallSound (d : Statements) (w : World) (s : Scope) (x : ExpForm) (ys : List ExpForm) (f : ℕ) (n : Shape) (rs : Row_of-Resolved (count n)) : Type 0 where
  call_is : {z : Shape} {out : Row_of-Resolved (count z)} → ArgsResolve d w s ys z out → Calls d w.most w.globals (stated d w).declared s.names x z out f n rs → CallSound d w s x ys f n rs

-- the written arguments of a call, all of them sound, and what it resolves to with theirs
pub record CallIs (w : World) (s : Scope) (x : ExpForm) (ys : List ExpForm) (c : ℕ × List Walk) : Type 0 where
  pub args : List ExpForm
  pub are : walks w args ≡ c.1
  pub sound : AllSound w s args
  pub resolves : (d : Statements) (n : Shape) (rs : Row_of-Resolved (count n)) → ArgsResolve d w s args n rs → CallSound d w s x ys c.0 n rs

call_further_of : (d : Statements) (w : World) (s : Scope) (p q : Span) (f a : ExpForm) (ys : List ExpForm) (k : ℕ) (n : Shape) (rs : Row_of-Resolved (count n)) → CallSound d w s f (a ∷ ys) k n rs → CallSound d w s (e.App' tt (its p f alone) tt (its q a alone)) ys k n rs
call_further_of d w s p q f a ys k n rs (call_is (one_given ra rr) c) = call_is rr (call_further ra c)

function_number : (k : DeclaredAs) (n : ℕ) → as_function_number k ≡ Some n → k ≡ function n
function_number (function m) n h = ap (λ z. function z) (some_of h)
function_number (val m) n h = cc

var_named : (w : World) (s : Scope) (x : List ℕ) (n : ℕ) (l : Option (Bool × ℕ)) → local_at x s.names.locals ≡ l → if_unbound l (option_and_then as_function_number (declared w.globals (own x) w.globals.values)) ≡ Some n → IsDeclared w.globals s.names (e.Var x) (here.function n)
var_named w s x n (Some i) el h = cc
var_named w s x n None el h =
    let v : (k : DeclaredAs) × (declared w.globals (own x) w.globals.values ≡ Some k) × (as_function_number k ≡ Some n) = opened _ _ n h in
    resolves.IsDeclared.bare el (v.1 ∙ ap (λ z. Some z) (function_number v.0 n v.2))

named_is : (w : World) (s : Scope) (x : ExpForm) (n : ℕ) → function_named w s x ≡ Some n → IsDeclared w.globals s.names x (here.function n)
named_is w s (e.Var x) n h = var_named w s x n (local_at x s.names.locals) refl h
named_is w s (e.Member m x) n h =
    let v : (k : DeclaredAs) × (declared w.globals (of_module m x) w.globals.values ≡ Some k) × (as_function_number k ≡ Some n) = opened _ _ n h in
    resolves.IsDeclared.member (v.1 ∙ ap (λ z. Some z) (function_number v.0 n v.2))
named_is w s _ n h = cc

call_by : (w : World) (s : Scope) (x : ExpForm) (ys : List ExpForm) (c : ℕ × List Walk) → is_applied x ≡ false → AllSound w s ys → call_walk w x s (walks w ys) ≡ Some c → CallIs w s x ys c
call_by w s x ys c a k h =
    let f : (f : ℕ) × (function_named w s x ≡ Some f) × (with_calls (walks w ys) f ≡ c) = mapped (with_calls (walks w ys)) (function_named w s x) c (sym (call_at_head w x s (walks w ys) a) ∙ h) in
    subst (CallIs w s x ys) f.2 (record { args = ys; are = refl; sound = k; resolves = λ d n rs r. call_is r (call_head (named_is w s x f.0 f.1)) })

call_sound : (w : World) (s : Scope) (x : ExpForm) → SpineArgsSound w x → (ys : List ExpForm) → AllSound w s ys → (c : ℕ × List Walk) → call_walk w x s (walks w ys) ≡ Some c → CallIs w s x ys c
call_sound w s (e.App' _ (its p f alone) _ (its q a alone)) t ys k c h =
    let r : CallIs w s f (a ∷ ys) c = call_sound w s f t.0 (a ∷ ys) (t.1, k) c h in
    record { args = r.args; are = r.are; sound = r.sound; resolves = λ d n rs i. call_further_of d w s p q f a ys c.0 n rs (r.resolves d n rs i) }
call_sound w s _ t ys k c h = call_by w s _ ys c refl k h

-- what is known of the call of an attribute
pub record TargetIs (w : World) (s : Scope) (c : Count) (attributes : Row_of-Exp c) (i : ℕ) (f : ℕ × List Walk) : Type 0 where
  pub written : ExpForm
  pub there : IsAntiquote c attributes i written
  pub call : CallIs w s written [] f

pub target_is : (w : World) (s : Scope) {a : Count} (splices : Row_of-Exp a) (c : Count) (attributes : Row_of-Exp c) → Beside w s a splices c attributes → (i : ℕ) (f : ℕ × List Walk) → called_at (literal_of w s splices attributes) i ≡ Some f → TargetIs w s c attributes i f
target_is w s splices c attributes b i f h = by_attribute (slice_get (attributes_walk w attributes s) i) refl h where
  by_attribute : (o : Option Attribute) → slice_get (attributes_walk w attributes s) i ≡ o → option_and_then (λ a. a.calls) o ≡ Some f → TargetIs w s c attributes i f
  by_attribute None eo g = cc
  by_attribute (Some x) eo g =
      let r : AttributeIs w s c attributes i x = attribute_is w s c attributes b.attributes_sound b.targets_sound i x eo in
      record { written = r.written; there = r.there; call = call_sound w s r.written r.args [] tt f (subst (λ v. v.calls ≡ Some f) (sym r.is) g) }

pub record PageIs (w : World) (f : ℕ) (ps : List NormalType) : Type 0 where
  pub head : Head
  pub there : slice_get w.declared.functions f ≡ Some head
  pub page : IsPage head
  pub types : types_of head.params ≡ ps

pub page_is : (w : World) (f : ℕ) (ps : List NormalType) → page_params w.declared f ≡ Some ps → PageIs w f ps
page_is w f ps h =
    let c : (i : Head) × (slice_get w.declared.functions f ≡ Some i) × (if_so (is_page i) (Some (types_of i.params)) ≡ Some ps) = opened _ _ ps h in
    let q : (is_page c.0 ≡ true) × (Some (types_of c.0.params) ≡ Some ps) = opened_if (is_page c.0) (Some (types_of c.0.params)) ps c.2 in
    record { head = c.0; there = c.1; page = (pages_decided c.0).0 q.0; types = some_of q.1 }

pub last_is : (ps : List NormalType) (r : List NormalType × NormalType) → without_last ps ≡ Some r → ps ≡ r.0 ++ r.1 ∷ []
last_is [] r h = cc
last_is (x ∷ []) r h = ap (λ (z : List NormalType × NormalType). z.0 ++ z.1 ∷ []) (some_of h)
last_is (x ∷ y ∷ ys) r h =
    let c : (z : List NormalType × NormalType) × (without_last (y ∷ ys) ≡ Some z) × ((x ∷ z.0, z.1) ≡ r) = mapped (λ (z : List NormalType × NormalType). (x ∷ z.0, z.1)) (without_last (y ∷ ys)) r h in
    ap (λ z. x ∷ z) (last_is (y ∷ ys) c.0 c.1) ∙ ap (λ (z : List NormalType × NormalType). z.0 ++ z.1 ∷ []) c.2

-- ---- values

pub record ValueIs (w : World) (s : Scope) (c : Count) (attributes : Row_of-Exp c) (may : Bool) (st : Sites) (v : Option AttrValue) (d : Statements) (h : Held-Exp-Tagged-1 × Sites) : Type 0 where
  pub before : Fills w d st
  pub resolve : ResolvesValue d w.most w.globals (stated d w).declared s.names c attributes v h.0
  pub has : HasValue (stated d w).declared w.most s.env may h.0
  pub numbered : Numbered st (held_occurrences h.0) h.1

is_may : (b : Bool) (x : AttrValue) → MayStand b (Some x) → b ≡ true
is_may true x h = refl
is_may false x h = cc

string_value : (w : World) (s : Scope) (c : Count) (attributes : Row_of-Exp c) (may : Bool) (st : Sites) (x : List ℕ) (d : Statements) → 1 ≤ w.most → may ≡ true → Fills w d st → ValueIs w s c attributes may st (Some (attr_value.Text x)) d (held_exp (exp.Str x), st)
string_value w s c attributes may st x d r i g = record { before = g; resolve = value_text; has = (i, (refl, (r, refl, refl))); numbered = numbered_none st }

abbrev held_out : Out → Option (Held-Exp-Tagged-1 × Sites)
held_out o = Some (held_exp o.exp, o.sites)

pub value_is : (w : World) (s : Scope) {a : Count} (splices : Row_of-Exp a) (c : Count) (attributes : Row_of-Exp c) → Beside w s a splices c attributes → (may : Bool) (st : Sites) (v : Option AttrValue) → MayStand may v → (h : Held-Exp-Tagged-1 × Sites) → value_out (literal_of w s splices attributes) st v ≡ Some h →
    (d : Statements) → Fills w d h.1 → ValueIs w s c attributes may st v d h
value_is w s splices c attributes b may st None m h g d f =
    let z : Held-Exp-Tagged-1 × Sites = (None', st) in
    let i : z ≡ h = some_of g in
    subst (ValueIs w s c attributes may st None d) i (record { before = subst (λ (v : Held-Exp-Tagged-1 × Sites). Fills w d v.1) (sym i) f; resolve = value_none; has = tt; numbered = numbered_none st })
value_is w s splices c attributes b may st (Some (attr_value.Text x)) m h g d f =
    let z : Held-Exp-Tagged-1 × Sites = (held_exp (exp.Str x), st) in
    let i : z ≡ h = some_of g in
    subst (ValueIs w s c attributes may st (Some (attr_value.Text x)) d) i (string_value w s c attributes may st x d b.room (is_may may (attr_value.Text x) m) (subst (λ (v : Held-Exp-Tagged-1 × Sites). Fills w d v.1) (sym i) f))
value_is w s splices c attributes b may st (Some (attr_value.Exp j)) m h g d f =
    let x : (x : Attribute) × (slice_get (attributes_walk w attributes s) j ≡ Some x) × (option_and_then held_out (x.walk s st (wants ty.Str)) ≡ Some h) = opened _ _ h g in
    let r : AttributeIs w s c attributes j x.0 = attribute_is w s c attributes b.attributes_sound b.targets_sound j x.0 x.1 in
    let o : (o : Out) × (typed w r.written s st (wants ty.Str) ≡ Some o) × (held_out o ≡ Some h) = opened _ _ h (subst (λ v. option_and_then held_out (v.walk s st (wants ty.Str)) ≡ Some h) (sym r.is) x.2) in
    let z : Held-Exp-Tagged-1 × Sites = (held_exp o.0.exp, o.0.sites) in
    let i : z ≡ h = some_of o.2 in
    let k : IsSound w r.written s st (wants ty.Str) d o.0 = r.sound s st (wants ty.Str) o.0 o.1 d (subst (λ (v : Held-Exp-Tagged-1 × Sites). Fills w d v.1) (sym i) f) in
    subst (ValueIs w s c attributes may st (Some (attr_value.Exp j)) d) i (record { before = k.before; resolve = value_of r.there k.resolves; has = (is_may may (attr_value.Exp j) m, (k.judged.1, k.judged.2)); numbered = numbered_end k.numbered })

-- ---- parts

-- the buttons among some parts wait for a form with these fields
abbrev pub WaitFor : List RowPart → List NormalType → Type 0
WaitFor r [] = Unit {0}
WaitFor r (t ∷ ts) = (t ≡ record_of r) × WaitFor r ts

wait_split : (r : List RowPart) (a b : List NormalType) → WaitFor r (a ++ b) → WaitFor r a × WaitFor r b
wait_split r [] b h = (tt, h)
wait_split r (t ∷ a) b h = let q : WaitFor r a × WaitFor r b = wait_split r a b h.1 in ((h.0, q.0), q.1)

pub wait_all : AreTold → (r : List RowPart) (ts : List NormalType) → list_all (same_type (record_of r)) ts ≡ true → WaitFor r ts
wait_all told r [] h = tt
wait_all told r (t ∷ ts) h = let q : (same_type (record_of r) t ≡ true) × (list_all (same_type (record_of r)) ts ≡ true) = both_true (same_type (record_of r) t) (list_all (same_type (record_of r)) ts) h in (sym (told (record_of r) t q.0), wait_all told r ts q.1)

pub record PartsAreSound (w : World) (s : Scope) (a : Count) (splices : Row_of-Exp a) (c : Count) (attributes : Row_of-Exp c) (p : Place) (n : Count) (xs : Row_of-XmlPart n) (st : Sites) (d : Statements) (m : Marked) : Type 0 where
  pub before : Fills w d st
  pub resolve : ResolvesParts d w.most w.globals (stated d w).declared s.names a splices c attributes p n xs _ m.marks.1
  pub marks : (own_row : List RowPart) → WaitFor own_row m.waiting → Marks (stated d w).declared w.most s.env p m.marks.1 own_row m.row
  pub numbered : Numbered st (markup_occurrences m.marks.1) m.sites
  pub no_fields : holds_fields p ≡ false → m.row ≡ []
  pub no_waiting : is_in_form p ≡ false → m.waiting ≡ []
  pub sort : first_of (items-the_row-XmlPart n xs) ≡ first_sort m.marks.1

-- a part that stays, or blank text that is dropped
pub data PartIsSound (w : World) (s : Scope) (a : Count) (splices : Row_of-Exp a) (c : Count) (attributes : Row_of-Exp c) (p : Place) (st : Sites) (d : Statements) : XmlForm → Marked → Type 0 where
  drops : {t : List ℕ} → is_kept p t ≡ false → Fills w d st → PartIsSound w s a splices c attributes p st d (form.Text t) (no_marks st)
  stays : {x : XmlForm} {r : List RowPart} {waiting : List NormalType} {y : Markup} {su : Sites} → Fills w d st → ResolvesPart d w.most w.globals (stated d w).declared s.names a splices c attributes p x y →
      ((own_row : List RowPart) → WaitFor own_row waiting → Mark (stated d w).declared w.most s.env p y own_row r) → Numbered st (part_occurrences y) su → (holds_fields p ≡ false → r ≡ []) → (is_in_form p ≡ false → waiting ≡ []) →
      ((n : Count) (rest : Row_of-Markup n) → sort_with (word_of x) (first_sort rest) ≡ first_sort (a_markup y rest)) →
      PartIsSound w s a splices c attributes p st d x (record { row = r; waiting = waiting; marks = (tt ∷ [], a_markup y no_markup); sites = su })

not_kept : (b : Bool) → b ≡ false → not b ≡ true
not_kept b h = ap not h

pub both_sound : (w : World) (s : Scope) (a : Count) (splices : Row_of-Exp a) (c : Count) (attributes : Row_of-Exp c) (p : Place) (n : Count) (at : Span) (x : XmlForm) (rest : Row_of-XmlPart n) (st : Sites) (d : Statements) (u v : Marked) → PartIsSound w s a splices c attributes p st d x u →
    PartsAreSound w s a splices c attributes p n rest u.sites d v → PartsAreSound w s a splices c attributes p _ (an_xml at x rest) st d (and_marks u v)
both_sound w s a splices c attributes p n at _ rest st d _ v (drops {t = t} k g) i = record {
  before = g;
  resolve = parts_dropped (not_kept (is_kept p t) k) i.resolve;
  marks = i.marks;
  numbered = i.numbered;
  no_fields = i.no_fields;
  no_waiting = i.no_waiting;
  sort = i.sort;
}
both_sound w s a splices c attributes p n at x rest st d _ v (stays {r = r} {waiting = waiting} g rp mk np nf nw so) i = record {
  before = g;
  resolve = parts_one rp i.resolve;
  marks = λ own_row wt. let q : WaitFor own_row waiting × WaitFor own_row v.waiting = wait_split own_row waiting v.waiting wt in (r, v.row, refl, mk own_row q.0, i.marks own_row q.1);
  numbered = numbered_both np i.numbered;
  no_fields = λ h. ap₂ joined (nf h) (i.no_fields h);
  no_waiting = λ h. ap₂ (λ x y. x ++ y) (nw h) (i.no_waiting h);
  sort = ap (sort_with (word_of x)) i.sort ∙ so _ v.marks.1;
}

-- a part's answer is the one mark
abbrev pub marked : List RowPart → List NormalType → Markup → Sites → Marked
marked r waiting y su = record { row = r; waiting = waiting; marks = (tt ∷ [], a_markup y no_markup); sites = su }

pub text_sound : (w : World) (s : Scope) (a : Count) (splices : Row_of-Exp a) (c : Count) (attributes : Row_of-Exp c) (p : Place) (t : List ℕ) (st : Sites) (b : Bool) → is_kept p t ≡ b → (m : Marked) → if_kept b p t st ≡ Some m → (d : Statements) → Fills w d m.sites → PartIsSound w s a splices c attributes p st d (form.Text t) m
text_sound w s a splices c attributes p t st false ek m h d g =
    let i : no_marks st ≡ m = some_of h in subst (PartIsSound w s a splices c attributes p st d (form.Text t)) i (drops ek (subst (λ v. Fills w d v.sites) (sym i) g))
text_sound w s a splices c attributes p t st true ek m h d g =
    let q : (holds_text p ≡ true) × (one_mark [] [] (markup.Text t) st ≡ Some m) = opened_if (holds_text p) (one_mark [] [] (markup.Text t) st) m h in
    let i : marked [] [] (markup.Text t) st ≡ m = some_of q.1 in
    subst (PartIsSound w s a splices c attributes p st d (form.Text t)) i (stays (subst (λ v. Fills w d v.sites) (sym i) g) (part_text ek) (λ own_row wt. (q.0, refl)) (numbered_none st) (λ z. refl) (λ z. refl) (λ n rest. refl))

abbrev shown_of : Out → Option Marked
shown_of o = if_so (is_basic o.of) (one_mark [] [] (markup.Shown o.exp) o.sites)

pub shown_sound : (w : World) (s : Scope) (a : Count) (splices : Row_of-Exp a) (c : Count) (attributes : Row_of-Exp c) → Beside w s a splices c attributes → (p : Place) (n : ℕ) (st : Sites) (m : Marked) → part_out (literal_of w s splices attributes) (form.Show n) p st ≡ Some m → (d : Statements) → Fills w d m.sites →
    PartIsSound w s a splices c attributes p st d (form.Show n) m
shown_sound w s a splices c attributes b p n st m h d g =
    let l : Literal = literal_of w s splices attributes in
    let x : (x : Splice) × (slice_get l.splices n ≡ Some x) × (shown_out l p st x ≡ Some m) = opened _ _ m h in
    let r : SpliceIs w a splices n x.0 = splice_is w a splices b.splices_sound n x.0 x.1 in
    let q : (holds_text p ≡ true) × (option_and_then shown_of (typed w r.written s st finds) ≡ Some m) = opened_if (holds_text p) _ m (subst (λ v. shown_out l p st v ≡ Some m) (sym r.is) x.2) in
    let o : (o : Out) × (typed w r.written s st finds ≡ Some o) × (shown_of o ≡ Some m) = opened _ _ m q.1 in
    let t : (is_basic o.0.of ≡ true) × (one_mark [] [] (markup.Shown o.0.exp) o.0.sites ≡ Some m) = opened_if (is_basic o.0.of) (one_mark [] [] (markup.Shown o.0.exp) o.0.sites) m o.2 in
    let i : marked [] [] (markup.Shown o.0.exp) o.0.sites ≡ m = some_of t.1 in
    let k : IsSound w r.written s st finds d o.0 = r.sound s st finds o.0 o.1 d (subst (λ v. Fills w d v.sites) (sym i) g) in
    subst (PartIsSound w s a splices c attributes p st d (form.Show n)) i
    (stays k.before (part_shown r.there k.resolves) (λ own_row wt. (q.0, (o.0.of, k.judged.0, k.judged.1, t.0), refl)) k.numbered (λ z. refl) (λ z. refl) (λ n rest. refl))

-- ---- splices

splice_found : (p : Place) (found wanted : NormalType → Type 0) (r : List RowPart) → holds_fields p ≡ true → (t : NormalType) × found t × (fields_found t ≡ Some r) → SpliceAt p false found wanted r
splice_found in_form found wanted r h k = k
splice_found in_fields found wanted r h k = k
splice_found _ found wanted r h k = cc

splice_wanted : (p : Place) (found wanted : NormalType → Type 0) (r : List RowPart) → holds_fields p ≡ true → wanted ty.Xbody → r ≡ [] → SpliceAt p true found wanted r
splice_wanted in_form found wanted r h k i = (k, i)
splice_wanted in_fields found wanted r h k i = (k, i)
splice_wanted _ found wanted r h k i = cc

splice_placed : (p : Place) (b : Bool) (found wanted : NormalType → Type 0) (r : List RowPart) (t : NormalType) → holds_fields p ≡ false → place_type p ≡ Some t → wanted t → r ≡ [] → SpliceAt p b found wanted r
splice_placed in_form b found wanted r t h et k i = cc
splice_placed in_fields b found wanted r t h et k i = cc
splice_placed _ b found wanted r t h et k i = (t, et, k, i)

abbrev is_found : World → Scope → Exp → NormalType → Type 0
is_found w s x t = Finds w.declared w.most s.env x t × Accepts w.most x t

abbrev is_wanted : World → Scope → Exp → NormalType → Type 0
is_wanted w s x t = Checks w.declared w.most s.env x t × Accepts w.most x t

abbrev spliced_row : Out → List RowPart → Option Marked
spliced_row o r = one_mark r [] (markup.Splice o.exp) o.sites

abbrev spliced_fields : Out → Option Marked
spliced_fields o = option_and_then (spliced_row o) (fields_found o.of)

abbrev spliced_whole : Out → Option Marked
spliced_whole o = one_mark [] [] (markup.Splice o.exp) o.sites

field_splice_sound : (w : World) (s : Scope) (a : Count) (splices : Row_of-Exp a) (c : Count) (attributes : Row_of-Exp c) (p : Place) (n : ℕ) (st : Sites) (y : ExpForm) (b : Bool) → lacks_type y ≡ b → holds_fields p ≡ true → IsAntiquote a splices n y → Sound w y → (m : Marked) →
    field_splice_out (literal_of w s splices attributes) st (typed w y) b ≡ Some m → (d : Statements) → Fills w d m.sites → PartIsSound w s a splices c attributes p st d (form.Splice n) m
field_splice_sound w s a splices c attributes p n st y false eb hp there ky m h d g =
    let o : (o : Out) × (typed w y s st finds ≡ Some o) × (spliced_fields o ≡ Some m) = opened _ _ m h in
    let r : (r : List RowPart) × (fields_found o.0.of ≡ Some r) × (spliced_row o.0 r ≡ Some m) = opened _ _ m o.2 in
    let i : marked r.0 [] (markup.Splice o.0.exp) o.0.sites ≡ m = some_of r.2 in
    let k : IsSound w y s st finds d o.0 = ky s st finds o.0 o.1 d (subst (λ v. Fills w d v.sites) (sym i) g) in
    let eq : wants_type o.0.exp ≡ false = wants_is d w.most w.globals (stated d w).declared s.names y o.0.exp k.resolves ∙ eb in
    subst (PartIsSound w s a splices c attributes p st d (form.Splice n)) i
    (stays k.before (part_splice there k.resolves)
    (λ own_row wt. subst (λ v. SpliceAt p v (is_found (stated d w) s o.0.exp) (is_wanted (stated d w) s o.0.exp) r.0) (sym eq) (splice_found p (is_found (stated d w) s o.0.exp) (is_wanted (stated d w) s o.0.exp) r.0 hp (o.0.of, (k.judged.0, k.judged.1), r.1)))
    k.numbered (λ z. absurd (true≢false (sym hp ∙ z))) (λ z. refl) (λ n rest. refl))
field_splice_sound w s a splices c attributes p n st y true eb hp there ky m h d g =
    let o : (o : Out) × (typed w y s st (wants ty.Xbody) ≡ Some o) × (spliced_whole o ≡ Some m) = opened _ _ m h in
    let i : marked [] [] (markup.Splice o.0.exp) o.0.sites ≡ m = some_of o.2 in
    let k : IsSound w y s st (wants ty.Xbody) d o.0 = ky s st (wants ty.Xbody) o.0 o.1 d (subst (λ v. Fills w d v.sites) (sym i) g) in
    let eq : wants_type o.0.exp ≡ true = wants_is d w.most w.globals (stated d w).declared s.names y o.0.exp k.resolves ∙ eb in
    subst (PartIsSound w s a splices c attributes p st d (form.Splice n)) i
    (stays k.before (part_splice there k.resolves)
    (λ own_row wt. subst (λ v. SpliceAt p v (is_found (stated d w) s o.0.exp) (is_wanted (stated d w) s o.0.exp) []) (sym eq) (splice_wanted p (is_found (stated d w) s o.0.exp) (is_wanted (stated d w) s o.0.exp) [] hp (k.judged.1, k.judged.2) refl))
    k.numbered (λ z. refl) (λ z. refl) (λ n rest. refl))

splice_at_place : (w : World) (s : Scope) (a : Count) (splices : Row_of-Exp a) (c : Count) (attributes : Row_of-Exp c) (p : Place) (n : ℕ) (st : Sites) (y : ExpForm) (b : Bool) → holds_fields p ≡ b → IsAntiquote a splices n y → Sound w y → (m : Marked) →
    splice_by (literal_of w s splices attributes) p st (a_splice w y) b ≡ Some m → (d : Statements) → Fills w d m.sites → PartIsSound w s a splices c attributes p st d (form.Splice n) m
splice_at_place w s a splices c attributes p n st y true hp there ky m h d g = field_splice_sound w s a splices c attributes p n st y (lacks_type y) refl hp there ky m h d g
splice_at_place w s a splices c attributes p n st y false hp there ky m h d g =
    let t : (t : NormalType) × (place_type p ≡ Some t) × (option_and_then spliced_whole (typed w y s st (wants t)) ≡ Some m) = opened _ _ m h in
    let o : (o : Out) × (typed w y s st (wants t.0) ≡ Some o) × (spliced_whole o ≡ Some m) = opened _ _ m t.2 in
    let i : marked [] [] (markup.Splice o.0.exp) o.0.sites ≡ m = some_of o.2 in
    let k : IsSound w y s st (wants t.0) d o.0 = ky s st (wants t.0) o.0 o.1 d (subst (λ v. Fills w d v.sites) (sym i) g) in
    subst (PartIsSound w s a splices c attributes p st d (form.Splice n)) i
    (stays k.before (part_splice there k.resolves) (λ own_row wt. splice_placed p (wants_type o.0.exp) (is_found (stated d w) s o.0.exp) (is_wanted (stated d w) s o.0.exp) [] t.0 hp t.1 (k.judged.1, k.judged.2) refl) k.numbered (λ z. refl) (λ z. refl) (λ n rest. refl))

pub splice_sound : (w : World) (s : Scope) (a : Count) (splices : Row_of-Exp a) (c : Count) (attributes : Row_of-Exp c) → Beside w s a splices c attributes → (p : Place) (n : ℕ) (st : Sites) (m : Marked) → part_out (literal_of w s splices attributes) (form.Splice n) p st ≡ Some m → (d : Statements) → Fills w d m.sites →
    PartIsSound w s a splices c attributes p st d (form.Splice n) m
splice_sound w s a splices c attributes b p n st m h d g =
    let l : Literal = literal_of w s splices attributes in
    let x : (x : Splice) × (slice_get l.splices n ≡ Some x) × (splice_out l p st x ≡ Some m) = opened _ _ m h in
    let r : SpliceIs w a splices n x.0 = splice_is w a splices b.splices_sound n x.0 x.1 in
    splice_at_place w s a splices c attributes p n st r.written (holds_fields p) refl r.there r.sound m (subst (λ v. splice_out l p st v ≡ Some m) (sym r.is) x.2) d g
