-- The rules of literals, where the statements before fit the tables, and those that each part numbers.
use Rattle.std.proofs.Common.{Bool, true, false, Option, Some, None, List, [], ◌∷◌, ℕ, zero, suc}
use Rattle.std.specs.Prelude.{option_and_then, slice_get}
use Rattle.ur_values.specs.declared.schema.Schema.{Schema}
use Rattle.ur_syntax.specs.declared.xml.AttrValue.{AttrValue}
use Rattle.ur_syntax.specs.declared.xml.AttrValue.TheVariants as attr_value
use Rattle.ur_syntax.specs.declared.xml.XmlForm.{XmlForm, Row_of-XmlPart, end_of-XmlPart as no_xml, more_of-XmlPart as an_xml}
use Rattle.ur_syntax.specs.declared.xml.XmlForm.TheVariants as form
use Rattle.ur_rows.specs.declared.normal.NormalType.{NormalType}
use Rattle.ur_tree.specs.Places.{Place, holds_fields, place_of}
use Rattle.ur_tree.specs.Places as places
use Rattle.ur_xmltype.specs.Tags.{Node}
use Rattle.ur_xmltype.specs.Tags as node
use Rattle.ur_xmltype.specs.Literal.{literal_sort, is_framed}
use Rattle.ur_tree.specs.declared.exp.Exp.TheBlock.{Held-Exp-Tagged-1}
use Rattle.ur_tree.specs.Heads.{Declared}
use Rattle.ur_typed_rules.specs.Scopes.{Scope, Mode, type_of_mode}
use Rattle.ur_typed.specs.Rules.{Sites, Walk}
use Rattle.ur_typed.specs.Markups.{Splice, Attribute, Literal, Marked, and_marks, if_kept, page_params, without_last, shown_out, field_splice_out, splice_by, splice_out, link_with, link_out, value_out, submit_with, submit_out, node_out, parts_out, part_out, sort_fits, literal_out}
use Rattle.ur_typed_laws.specs.Fitting.{SitesFit}
use Rattle.ur_typed_laws.proofs.Options.{Brings, none_brings, some_brings, then_brings, then_any, map_brings, if_brings}
use Rattle.ur_typed_laws.proofs.Rules.{OutFits, WalkFits, WalksFit, args_fit}

abbrev MarksFit : Schema → Marked → Type 0
MarksFit t m = SitesFit t m.sites

abbrev ValueFits : Schema → Held-Exp-Tagged-1 × Sites → Type 0
ValueFits t v = SitesFit t v.1

-- ---- parts beside a literal

pub data SplicesFit (t : Schema) : List Splice → Type 0 where
  no_splices : SplicesFit t []
  one_splice : {x : Splice} {xs : List Splice} → WalkFits t x.walk → SplicesFit t xs → SplicesFit t (x ∷ xs)

splice_then : {t : Schema} (f : Splice → Option Marked) (xs : List Splice) → SplicesFit t xs → (n : ℕ) → ((x : Splice) → WalkFits t x.walk → Brings (MarksFit t) (f x)) → Brings (MarksFit t) (option_and_then f (slice_get xs n))
splice_then f _ no_splices n k = none_brings
splice_then f _ (one_splice {x = x} h hs) zero k = k x h
splice_then f _ (one_splice {xs = xs} h hs) (suc n) k = splice_then f xs hs n k

-- a call of a function
pub data CallsFit (t : Schema) : Option (ℕ × List Walk) → Type 0 where
  no_call : CallsFit t None
  a_call : {f : ℕ} {fs : List Walk} → WalksFit t fs → CallsFit t (Some (f, fs))

pub record AttributeFits (t : Schema) (x : Attribute) : Type 0 where
  pub walk : WalkFits t x.walk
  pub calls : CallsFit t x.calls

pub data AttributesFit (t : Schema) : List Attribute → Type 0 where
  no_attributes : AttributesFit t []
  one_attribute : {x : Attribute} {xs : List Attribute} → AttributeFits t x → AttributesFit t xs → AttributesFit t (x ∷ xs)

attribute_then : {t : Schema} {B : Type 0} {P : B → Type 0} (f : Attribute → Option B) (xs : List Attribute) → AttributesFit t xs → (n : ℕ) → ((x : Attribute) → AttributeFits t x → Brings P (f x)) → Brings P (option_and_then f (slice_get xs n))
attribute_then f _ no_attributes n k = none_brings
attribute_then f _ (one_attribute {x = x} h hs) zero k = k x h
attribute_then f _ (one_attribute {xs = xs} h hs) (suc n) k = attribute_then f xs hs n k

call_then : {t : Schema} (f : ℕ × List Walk → Option Marked) (a : Option (ℕ × List Walk)) → CallsFit t a → ((n : ℕ) (fs : List Walk) → WalksFit t fs → Brings (MarksFit t) (f (n, fs))) → Brings (MarksFit t) (option_and_then f a)
call_then f _ no_call k = none_brings
call_then f _ (a_call {f = n} {fs = fs} h) k = k n fs h

called_then : {t : Schema} (f : ℕ × List Walk → Option Marked) (xs : List Attribute) → AttributesFit t xs → (n : ℕ) → ((m : ℕ) (fs : List Walk) → WalksFit t fs → Brings (MarksFit t) (f (m, fs))) →
    Brings (MarksFit t) (option_and_then f (option_and_then (λ a. a.calls) (slice_get xs n)))
called_then f _ no_attributes n k = none_brings
called_then f _ (one_attribute {x = x} h hs) zero k = call_then f x.calls h.calls k
called_then f _ (one_attribute {xs = xs} h hs) (suc n) k = called_then f xs hs n k

-- ---- parts of a literal

kept_fits : {t : Schema} (b : Bool) (c : Place) (s : List ℕ) (st : Sites) → SitesFit t st → Brings (MarksFit t) (if_kept b c s st)
kept_fits true c s st h = if_brings _ (some_brings h)
kept_fits false c s st h = some_brings h

module _ (t : Schema) (d : Declared) (s : Scope) (a : List Splice) (p : List Attribute) (xs_fit : SplicesFit t a) (as_fit : AttributesFit t p) where
  abbrev l : Literal
  l = record { declared = d; scope = s; splices = a; attributes = p }

  shown_fits : (c : Place) (st : Sites) (x : Splice) → WalkFits t x.walk → SitesFit t st → Brings (MarksFit t) (shown_out l c st x)
  shown_fits c st x k h = if_brings _ (then_brings (k.on s st _ h) (λ o i. if_brings _ (some_brings i)))

  field_splice_fits : (st : Sites) (f : Walk) (b : Bool) → WalkFits t f → SitesFit t st → Brings (MarksFit t) (field_splice_out l st f b)
  field_splice_fits st f false k h = then_brings (k.on s st _ h) (λ o i. then_any _ (λ r. some_brings i))
  field_splice_fits st f true k h = then_brings (k.on s st _ h) (λ o i. some_brings i)

  splice_fits_by : (c : Place) (st : Sites) (x : Splice) (b : Bool) → WalkFits t x.walk → SitesFit t st → Brings (MarksFit t) (splice_by l c st x b)
  splice_fits_by c st x true k h = field_splice_fits st x.walk x.lacks k h
  splice_fits_by c st x false k h = then_any _ (λ u. then_brings (k.on s st _ h) (λ o i. some_brings i))

  value_fits : (st : Sites) (v : Option AttrValue) → SitesFit t st → Brings (ValueFits t) (value_out l st v)
  value_fits st None h = some_brings h
  value_fits st (Some (attr_value.Text x)) h = some_brings h
  value_fits st (Some (attr_value.Exp n)) h = attribute_then _ p as_fit n (λ x k. then_brings (k.walk.on s st _ h) (λ o i. some_brings i))

  link_fits_with : (f : Sites → Option Marked) (st : Sites) (n : ℕ) (fs : List Walk) (us : List NormalType) → ((su : Sites) → SitesFit t su → Brings (MarksFit t) (f su)) → WalksFit t fs → SitesFit t st → Brings (MarksFit t) (link_with l f st (n, fs) us)
  link_fits_with f st n fs us j k h = if_brings _ (then_brings (args_fit s fs k us st h) (λ x i. then_brings (j x.1 i) (λ m g. some_brings g)))

  submit_fits_with : (v : Option AttrValue) (st : Sites) (n : ℕ) (fs : List Walk) (us : List NormalType × NormalType) → WalksFit t fs → SitesFit t st → Brings (MarksFit t) (submit_with l v st (n, fs) us)
  submit_fits_with v st n fs us k h = if_brings _ (then_brings (args_fit s fs k us.0 st h) (λ x i. then_brings (value_fits x.1 v i) (λ m g. some_brings g)))

  node_fits : (c : Place) (st : Sites) (f : Place → Sites → Option Marked) → ((z : Place) (su : Sites) → SitesFit t su → Brings (MarksFit t) (f z su)) → (n : Node) → SitesFit t st → Brings (MarksFit t) (node_out l c st f n)
  node_fits c st f j (node.element g z) h = then_brings (j z st h) (λ m i. some_brings i)
  node_fits c st f j node.form h = then_brings (j places.in_form st h) (λ m i. if_brings _ (some_brings i))
  node_fits c st f j (node.link n) h = called_then (link_out l (f c) st) p as_fit n (λ m fs k. then_any (page_params d m) (λ us. link_fits_with (f c) st m fs us (j c) k h))
  node_fits c st f j (node.input g x v) h = if_brings _ (then_brings (value_fits st v h) (λ m i. some_brings i))
  node_fits c st f j (node.submit n v) h = called_then (submit_out l v st) p as_fit n (λ m fs k. then_any (option_and_then without_last (page_params d m)) (λ us. submit_fits_with v st m fs us k h))

  mutual
    parts_fit : {n : _} (xs : Row_of-XmlPart n) (c : Place) (st : Sites) → SitesFit t st → Brings (MarksFit t) (parts_out l xs c st)
    parts_fit no_xml c st h = some_brings h
    parts_fit (an_xml at x rest) c st h = then_brings (part_fits x c st h) (λ m i. map_brings (and_marks m) (parts_fit rest c m.sites i) (λ n g. g))

    part_fits : (x : XmlForm) (c : Place) (st : Sites) → SitesFit t st → Brings (MarksFit t) (part_out l x c st)
    part_fits (form.Text u) c st h = kept_fits _ c u st h
    part_fits (form.Show n) c st h = splice_then (shown_out l c st) a xs_fit n (λ x k. shown_fits c st x k h)
    part_fits (form.Splice n) c st h = splice_then (splice_out l c st) a xs_fit n (λ x k. splice_fits_by c st x (holds_fields c) k h)
    part_fits (form.Element' g attrs _ parts) c st h = then_any _ (λ n. node_fits c st _ (λ z su i. parts_fit parts z su i) n h)

  pub literal_fits : {n : _} (xs : Row_of-XmlPart n) (st : Sites) (m : Mode) → SitesFit t st → Brings (OutFits t) (literal_out l xs st m)
  literal_fits xs st m h = then_any (literal_sort xs (type_of_mode m)) (λ z. if_brings (is_framed z xs) (then_brings (parts_fit xs (place_of z) st h) (λ o i. if_brings (sort_fits s.env.known z o.row) (some_brings i))))
