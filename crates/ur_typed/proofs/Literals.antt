-- Where an expression in a literal of XML is not typed, neither is the literal.
use Rattle.std.proofs.Common.{arith, ◌≡◌, ◌∙◌, refl, sym, ap, subst, Bool, true, false, Option, Some, None, List, [], ◌∷◌, ℕ}
use Rattle.std.specs.Prelude.{◌+◌, suc, option_map, option_and_then, slice_get}
use mathlib.Core.Former.{Count}
use Rattle.ur_syntax.specs.declared.exp.ExpForm.{ExpForm, Row_of-Exp}
use Rattle.ur_syntax.specs.declared.exp.ExpForm.TheVariants as e
use Rattle.ur_syntax.specs.declared.xml.AttrValue.TheVariants as attr_value
use Rattle.ur_syntax.specs.declared.xml.XmlForm.{XmlForm, Row_of-XmlPart}
use Rattle.ur_rows.specs.declared.normal.NormalType.{NormalType}
use Rattle.ur_rows.specs.declared.normal.NormalType.TheVariants as ty
use Rattle.ur_tree.specs.Places.{Place, in_form}
use Rattle.ur_xmltype.specs.Tags as node
use Rattle.ur_typed_rules.specs.Lacking.{lacks_type}
use Rattle.ur_typed.specs.Resolves.{IsAntiquote, first, later}
use Rattle.ur_typed_rules.specs.Scopes.{World, Scope, Mode, wants}
use Rattle.ur_typed.specs.Rules.{Sites, Walk, args_out, function_named}
use Rattle.ur_typed.specs.Markups.{Splice, Attribute, Literal, parts_out, part_out, page_params, without_last, value_out, called_at, splice_by, field_splice_out}
use Rattle.ur_typed.specs.Walking.{typed, splices_walk, attributes_walk, call_walk, with_calls}
use Rattle.ur_typed.specs.Faults.{walks}
use Rattle.ur_typed.specs.Parts.{literal_of, form_mode, is_applied, all_types, all_but_last, first_types, InTarget, target_further, target_head, InParts, in_first, in_later, InPart, in_shown, in_field_splice, in_splice, in_element, in_a_form, in_link, in_link_target, in_submit_target, in_input_value, in_submit_value}
use Rattle.ur_typed.proofs.Parts.{args_none}
use Rattle.ur_typed_rules.proofs.Options.{first_none, then_none, map_none, so_none, some_of}

abbrev pub a_splice : World → ExpForm → Splice
a_splice w x = record { walk = typed w x; lacks = lacks_type x }

abbrev pub an_attribute : World → Scope → ExpForm → Attribute
an_attribute w s x = record { walk = typed w x; calls = call_walk w x s [] }

next : {A : Type 0} (x : A) (xs : List A) (i : ℕ) → slice_get (x ∷ xs) (i + 1) ≡ slice_get xs i
next x xs i = let e : i + 1 ≡ suc i = omega arith in ap (slice_get (x ∷ xs)) e

pub splice_at : (w : World) (n : Count) (xs : Row_of-Exp n) (i : ℕ) (y : ExpForm) → IsAntiquote n xs i y → slice_get (splices_walk w xs) i ≡ Some (a_splice w y)
splice_at w _ _ _ _ first = refl
splice_at w _ _ _ x (later {n = n} {y = y} {rest = rest} {i = i} r) = next (a_splice w y) (splices_walk w rest) i ∙ splice_at w n rest i x r

pub attribute_at : (w : World) (s : Scope) (n : Count) (xs : Row_of-Exp n) (i : ℕ) (y : ExpForm) → IsAntiquote n xs i y → slice_get (attributes_walk w xs s) i ≡ Some (an_attribute w s y)
attribute_at w s _ _ _ _ first = refl
attribute_at w s _ _ _ x (later {n = n} {y = y} {rest = rest} {i = i} r) = next (an_attribute w s y) (attributes_walk w rest s) i ∙ attribute_at w s n rest i x r

pub call_at_head : (w : World) (x : ExpForm) (s : Scope) (args : List Walk) → is_applied x ≡ false → call_walk w x s args ≡ option_map (with_calls args) (function_named w s x)
call_at_head w (e.App' _ x _ y) s args h = cc
call_at_head w _ s args h = refl

-- the call of which an argument is not typed
record Untyped (w : World) (s : Scope) (wanted : List NormalType → Option (List NormalType)) (call : Option (ℕ × List Walk)) (st : Sites) : Type 0 where
  f : ℕ
  args : List Walk
  ps : List NormalType
  ts : List NormalType
  is_call : call ≡ Some (f, args)
  params : page_params w.declared f ≡ Some ps
  types : wanted ps ≡ Some ts
  none : args_out s args ts st ≡ None

target_none : (w : World) (s : Scope) (wanted : List NormalType → Option (List NormalType)) (x : ExpForm) (args : List ExpForm) (st su : Sites) (y : ExpForm) (m : Mode) → InTarget w s wanted x args st su y m → typed w y s su m ≡ None →
    Untyped w s wanted (call_walk w x s (walks w args)) st
target_none w s wanted _ args st su z m (target_further {x = x} {y = y} r) h = target_none w s wanted x (y ∷ args) st su z m r h
target_none w s wanted x args st su y m (target_head {f = f} {ps = ps} {ts = ts} a ef ep et r) h =
    record { f = f; args = walks w args; ps = ps; ts = ts; is_call = call_at_head w x s (walks w args) a ∙ ap (option_map (with_calls (walks w args))) ef; params = ep; types = et; none = args_none w s args ts st su y m r h }

called-at : (w : World) (s : Scope) {a c : Count} (splices : Row_of-Exp a) (attributes : Row_of-Exp c) (i : ℕ) (x : ExpForm) (f : ℕ × List Walk) → IsAntiquote c attributes i x → call_walk w x s [] ≡ Some f → called_at (literal_of w s splices attributes) i ≡ Some f
called-at w s {c = c} splices attributes i x f r h = ap (option_and_then (λ a. a.calls)) (attribute_at w s c attributes i x r) ∙ h

but_last : (o : Option (List NormalType × NormalType)) (ts : List NormalType) → option_map first_types o ≡ Some ts → (r : List NormalType × NormalType) × (o ≡ Some r) × (r.0 ≡ ts)
but_last None ts h = cc
but_last (Some r) ts h = (r, refl, some_of h)

value_none : (w : World) (s : Scope) {a c : Count} (splices : Row_of-Exp a) (attributes : Row_of-Exp c) (j : ℕ) (y : ExpForm) (st : Sites) → IsAntiquote c attributes j y → typed w y s st (wants ty.Str) ≡ None →
    value_out (literal_of w s splices attributes) st (Some (attr_value.Exp j)) ≡ None
value_none w s {c = c} splices attributes j y st r h = then_none _ _ (an_attribute w s y) (attribute_at w s c attributes j y r) (first_none _ _ h)

field_splice_none : (l : Literal) (st : Sites) (a : Walk) (b : Bool) → a l.scope st (form_mode b) ≡ None → field_splice_out l st a b ≡ None
field_splice_none l st a true h = first_none _ _ h
field_splice_none l st a false h = first_none _ _ h

mutual
  pub parts_none : (w : World) (s : Scope) (a : Count) (splices : Row_of-Exp a) (c : Count) (attributes : Row_of-Exp c) (p : Place) (n : Count) (xs : Row_of-XmlPart n) (st su : Sites) (y : ExpForm) (m : Mode) →
      InParts w s a splices c attributes p n xs st su y m → typed w y s su m ≡ None → parts_out (literal_of w s splices attributes) xs p st ≡ None
  parts_none w s a splices c attributes p _ _ st su y m (in_first {x = x} r) h = first_none _ _ (part_none w s a splices c attributes p x st su y m r h)
  parts_none w s a splices c attributes p _ _ st su y m (in_later {n = n} {rest = rest} {d = d} g r) h = then_none _ _ d g (map_none _ _ (parts_none w s a splices c attributes p n rest d.sites su y m r h))

  pub part_none : (w : World) (s : Scope) (a : Count) (splices : Row_of-Exp a) (c : Count) (attributes : Row_of-Exp c) (p : Place) (x : XmlForm) (st su : Sites) (y : ExpForm) (m : Mode) →
      InPart w s a splices c attributes p x st su y m → typed w y s su m ≡ None → part_out (literal_of w s splices attributes) x p st ≡ None
  part_none w s a splices c attributes p _ _ _ _ _ (in_shown {n = i} {y = y} r) h = then_none _ _ (a_splice w y) (splice_at w a splices i y r) (so_none _ _ (first_none _ _ h))
  part_none w s a splices c attributes p _ st _ _ _ (in_field_splice {n = i} {y = y} e r) h =
      let l : Literal = literal_of w s splices attributes in then_none _ _ (a_splice w y) (splice_at w a splices i y r) (ap (splice_by l p st (a_splice w y)) e ∙ field_splice_none l st (typed w y) (lacks_type y) h)
  part_none w s a splices c attributes p _ st _ _ _ (in_splice {n = i} {y = y} {t = t} e ep r) h =
      let l : Literal = literal_of w s splices attributes in then_none _ _ (a_splice w y) (splice_at w a splices i y r) (ap (splice_by l p st (a_splice w y)) e ∙ then_none _ _ t ep (first_none _ _ h))
  part_none w s a splices c attributes p _ st su y m (in_element {q = q} {g = g} {inner = inner} e r) h = then_none _ _ (node.element g q) e (first_none _ _ (parts_none w s a splices c attributes q _ inner st su y m r h))
  part_none w s a splices c attributes p _ st su y m (in_a_form {inner = inner} e r) h = then_none _ _ node.form e (first_none _ _ (parts_none w s a splices c attributes in_form _ inner st su y m r h))
  part_none w s a splices c attributes p _ st su y m (in_link {i = i} {inner = inner} {f = f} {ts = ts} {r = d} e ef et ed r) h =
      then_none _ _ (node.link i) e (then_none _ _ f ef (then_none _ _ ts et (so_none _ _ (then_none _ _ d ed (first_none _ _ (parts_none w s a splices c attributes p _ inner d.1 su y m r h))))))
  part_none w s a splices c attributes p _ st su z m (in_link_target {i = i} {x = x} e r k) h =
      let u : Untyped w s all_types (call_walk w x s []) st = target_none w s all_types x [] st su z m k h in
      then_none _ _ (node.link i) e (then_none _ _ (u.f, u.args) (called-at w s splices attributes i x (u.f, u.args) r u.is_call) (then_none _ _ u.ps u.params (so_none _ _ (first_none _ _ (subst (λ v. args_out s u.args v st ≡ None) (sym (some_of u.types)) u.none)))))
  part_none w s a splices c attributes p _ st su z m (in_submit_target {i = i} {v = v} {x = x} e r k) h =
      let u : Untyped w s all_but_last (call_walk w x s []) st = target_none w s all_but_last x [] st su z m k h in
      let b : (r : List NormalType × NormalType) × (without_last u.ps ≡ Some r) × (r.0 ≡ u.ts) = but_last (without_last u.ps) u.ts u.types in
      then_none _ _ (node.submit i v) e (then_none _ _ (u.f, u.args) (called-at w s splices attributes i x (u.f, u.args) r u.is_call)
      (then_none _ _ b.0 (ap (option_and_then without_last) u.params ∙ b.1) (so_none _ _ (first_none _ _ (subst (λ v. args_out s u.args v st ≡ None) (sym b.2) u.none)))))
  part_none w s a splices c attributes p _ st _ _ _ (in_input_value {f = f} {l = l} {j = j} {y = y} e r) h =
      then_none _ _ (node.input f l (Some (attr_value.Exp j))) e (so_none _ _ (first_none _ _ (value_none w s splices attributes j y st r h)))
  part_none w s a splices c attributes p _ st _ _ _ (in_submit_value {i = i} {j = j} {y = y} {f = f} {ps = ps} {ts = ts} {r = d} e ef ep et ed r) h =
      then_none _ _ (node.submit i (Some (attr_value.Exp j))) e (then_none _ _ f ef (then_none _ _ ts (ap (option_and_then without_last) ep ∙ et) (so_none _ _ (then_none _ _ d ed (first_none _ _ (value_none w s splices attributes j y d.1 r h))))))
