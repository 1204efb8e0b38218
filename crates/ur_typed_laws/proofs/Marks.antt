-- The rules of literals, where each part has an answer that another one leads to.
use Rattle.std.proofs.Common.{◌≡◌, subst, Bool, true, false, Option, Some, None, List, [], ◌∷◌, ℕ, zero, suc}
use Rattle.std.specs.Prelude.{option_and_then, slice_get}
use Rattle.ur_syntax.specs.declared.xml.AttrValue.{AttrValue}
use Rattle.ur_syntax.specs.declared.xml.AttrValue.TheVariants as attr_value
use Rattle.ur_syntax.specs.declared.xml.XmlForm.{XmlForm, Row_of-XmlPart, end_of-XmlPart as no_xml, more_of-XmlPart as an_xml}
use Rattle.ur_syntax.specs.declared.xml.XmlForm.TheVariants as form
use Rattle.ur_rows.specs.declared.normal.NormalType.{NormalType}
use Rattle.ur_tree.specs.Places.{Place}
use Rattle.ur_tree.specs.Heads.{Declared}
use Rattle.ur_typed_rules.specs.Scopes.{Scope, Mode}
use Rattle.ur_rows.specs.Kinded.{label_is_in}
use Rattle.ur_rows.specs.Normal.{known_in}
use Rattle.ur_tree.specs.Places.{holds_text, holds_fields, place_type, place_of}
use Rattle.ur_tree.specs.Places as places
use Rattle.ur_xmltype.specs.Tags.{Node, node_at}
use Rattle.ur_xmltype.specs.Tags as node
use Rattle.ur_xmltype.specs.Literal.{is_end, literal_sort, is_framed}
use Rattle.ur_tree.specs.Env.{variables}
use Rattle.ur_tree.specs.Typing.{are_linkable}
use Rattle.ur_typed_rules.specs.Scopes.{type_of_mode}
use Rattle.ur_typed.specs.Rules.{Sites, Walk}
use Rattle.ur_typed.specs.Markups.{Splice, Attribute, Literal, Marked, shown_out, field_splice_out, splice_by, splice_out, page_params, link_with, link_out, value_out, submit_with, submit_out, node_out, parts_out, part_out, literal_out}
use Rattle.ur_typed_laws.specs.Led.{Leads}
use Rattle.ur_typed_laws.proofs.Leading.{leads_self, then_leads, map_leads, if_leads, WalkLeads, WalksLead, args_lead}

-- ---- parts beside a literal

pub record SpliceLeads (x y : Splice) : Type 0 where
  pub walk : WalkLeads x.walk y.walk
  pub lacks : x.lacks ≡ y.lacks

pub data SplicesLead : List Splice → List Splice → Type 0 where
  no_splices : SplicesLead [] []
  one_splice : {x y : Splice} {xs ys : List Splice} → SpliceLeads x y → SplicesLead xs ys → SplicesLead (x ∷ xs) (y ∷ ys)

splice_then : {B : Type 0} (f g : Splice → Option B) (xs ys : List Splice) → SplicesLead xs ys → (n : ℕ) → ((x y : Splice) → SpliceLeads x y → Leads (f x) (g y)) → Leads (option_and_then f (slice_get xs n)) (option_and_then g (slice_get ys n))
splice_then f g _ _ no_splices n k = leads_self _
splice_then f g _ _ (one_splice {x = x} {y = y} h hs) zero k = k x y h
splice_then f g _ _ (one_splice {xs = xs} {ys = ys} h hs) (suc n) k = splice_then f g xs ys hs n k

-- a call of a function, which is declared alike
pub data CallsLead (d e : Declared) : Option (ℕ × List Walk) → Option (ℕ × List Walk) → Type 0 where
  no_call : CallsLead d e None None
  a_call : {f : ℕ} {fs gs : List Walk} → Leads (slice_get d.functions f) (slice_get e.functions f) → WalksLead fs gs → CallsLead d e (Some (f, fs)) (Some (f, gs))

pub record AttributeLeads (d e : Declared) (x y : Attribute) : Type 0 where
  pub walk : WalkLeads x.walk y.walk
  pub calls : CallsLead d e x.calls y.calls

pub data AttributesLead (d e : Declared) : List Attribute → List Attribute → Type 0 where
  no_attributes : AttributesLead d e [] []
  one_attribute : {x y : Attribute} {xs ys : List Attribute} → AttributeLeads d e x y → AttributesLead d e xs ys → AttributesLead d e (x ∷ xs) (y ∷ ys)

attribute_then : {B : Type 0} (d e : Declared) (f g : Attribute → Option B) (xs ys : List Attribute) → AttributesLead d e xs ys → (n : ℕ) → ((x y : Attribute) → AttributeLeads d e x y → Leads (f x) (g y)) → Leads (option_and_then f (slice_get xs n)) (option_and_then g (slice_get ys n))
attribute_then d e f g _ _ no_attributes n k = leads_self _
attribute_then d e f g _ _ (one_attribute {x = x} {y = y} h hs) zero k = k x y h
attribute_then d e f g _ _ (one_attribute {xs = xs} {ys = ys} h hs) (suc n) k = attribute_then d e f g xs ys hs n k

call_then : {B : Type 0} (d e : Declared) (f g : ℕ × List Walk → Option B) (a b : Option (ℕ × List Walk)) → CallsLead d e a b →
    ((n : ℕ) (fs gs : List Walk) → Leads (slice_get d.functions n) (slice_get e.functions n) → WalksLead fs gs → Leads (f (n, fs)) (g (n, gs))) → Leads (option_and_then f a) (option_and_then g b)
call_then d e f g _ _ no_call k = leads_self _
call_then d e f g _ _ (a_call {f = n} {fs = fs} {gs = gs} h i) k = k n fs gs h i

called_then : {B : Type 0} (d e : Declared) (f g : ℕ × List Walk → Option B) (xs ys : List Attribute) → AttributesLead d e xs ys → (n : ℕ) →
    ((m : ℕ) (fs gs : List Walk) → Leads (slice_get d.functions m) (slice_get e.functions m) → WalksLead fs gs → Leads (f (m, fs)) (g (m, gs))) →
    Leads (option_and_then f (option_and_then (λ a. a.calls) (slice_get xs n))) (option_and_then g (option_and_then (λ a. a.calls) (slice_get ys n)))
called_then d e f g _ _ no_attributes n k = leads_self _
called_then d e f g _ _ (one_attribute {x = x} {y = y} h hs) zero k = call_then d e f g x.calls y.calls h.calls k
called_then d e f g _ _ (one_attribute {xs = xs} {ys = ys} h hs) (suc n) k = called_then d e f g xs ys hs n k

-- ---- parts of a literal

page_leads : (d e : Declared) (f : ℕ) → Leads (slice_get d.functions f) (slice_get e.functions f) → Leads (page_params d f) (page_params e f)
page_leads d e f h = then_leads h (λ x. leads_self _)

module _ (d e : Declared) (s : Scope) (a b : List Splice) (p q : List Attribute) (h : SplicesLead a b) (i : AttributesLead d e p q) where
  abbrev l : Literal
  l = record { declared = d; scope = s; splices = a; attributes = p }

  abbrev r : Literal
  r = record { declared = e; scope = s; splices = b; attributes = q }

  shown_leads : (c : Place) (st : Sites) (x y : Splice) → SpliceLeads x y → Leads (shown_out l c st x) (shown_out r c st y)
  shown_leads c st x y k = if_leads (holds_text c) (then_leads (k.walk.on s st _) (λ o. leads_self _))

  field_splice_leads : (st : Sites) (f g : Walk) (c : Bool) → WalkLeads f g → Leads (field_splice_out l st f c) (field_splice_out r st g c)
  field_splice_leads st f g false k = then_leads (k.on s st _) (λ o. leads_self _)
  field_splice_leads st f g true k = then_leads (k.on s st _) (λ o. leads_self _)

  splice_leads_by : (c : Place) (st : Sites) (x y : Splice) (f : Bool) → SpliceLeads x y → Leads (splice_by l c st x f) (splice_by r c st y f)
  splice_leads_by c st x y true k = subst (λ z. Leads (field_splice_out l st x.walk x.lacks) (field_splice_out r st y.walk z)) k.lacks (field_splice_leads st x.walk y.walk x.lacks k.walk)
  splice_leads_by c st x y false k = then_leads (leads_self (place_type c)) (λ t. then_leads (k.walk.on s st _) (λ o. leads_self _))

  value_leads : (st : Sites) (v : Option AttrValue) → Leads (value_out l st v) (value_out r st v)
  value_leads st None = leads_self _
  value_leads st (Some (attr_value.Text t)) = leads_self _
  value_leads st (Some (attr_value.Exp n)) = attribute_then d e _ _ p q i n (λ x y k. then_leads (k.walk.on s st _) (λ o. leads_self _))

  link_leads_with : (f g : Sites → Option Marked) (st : Sites) (n : ℕ) (fs gs : List Walk) (ts : List NormalType) → ((su : Sites) → Leads (f su) (g su)) → WalksLead fs gs → Leads (link_with l f st (n, fs) ts) (link_with r g st (n, gs) ts)
  link_leads_with f g st n fs gs ts j k = if_leads (are_linkable ts) (then_leads (args_lead s fs gs k ts st) (λ x. then_leads (j x.1) (λ m. leads_self _)))

  submit_leads_with : (v : Option AttrValue) (st : Sites) (n : ℕ) (fs gs : List Walk) (ts : List NormalType × NormalType) → WalksLead fs gs → Leads (submit_with l v st (n, fs) ts) (submit_with r v st (n, gs) ts)
  submit_leads_with v st n fs gs ts k = if_leads (are_linkable ts.0) (then_leads (args_lead s fs gs k ts.0 st) (λ x. then_leads (value_leads x.1 v) (λ m. leads_self _)))

  node_leads : (c : Place) (st : Sites) (f g : Place → Sites → Option Marked) → ((z : Place) (su : Sites) → Leads (f z su) (g z su)) → (n : Node) → Leads (node_out l c st f n) (node_out r c st g n)
  node_leads c st f g j (node.element t z) = then_leads (j z st) (λ m. leads_self _)
  node_leads c st f g j node.form = then_leads (j places.in_form st) (λ m. leads_self _)
  node_leads c st f g j (node.link n) = called_then d e (link_out l (f c) st) (link_out r (g c) st) p q i n (λ m fs gs z k. then_leads (page_leads d e m z) (λ ts. link_leads_with (f c) (g c) st m fs gs ts (j c) k))
  node_leads c st f g j (node.input t x v) = if_leads (label_is_in (variables s.env) x) (then_leads (value_leads st v) (λ m. leads_self _))
  node_leads c st f g j (node.submit n v) = called_then d e (submit_out l v st) (submit_out r v st) p q i n (λ m fs gs z k. then_leads (then_leads (page_leads d e m z) (λ ts. leads_self _)) (λ ts. submit_leads_with v st m fs gs ts k))

  mutual
    parts_lead : {n : _} (xs : Row_of-XmlPart n) (c : Place) (st : Sites) → Leads (parts_out l xs c st) (parts_out r xs c st)
    parts_lead no_xml c st = leads_self _
    parts_lead (an_xml at x rest) c st = then_leads (part_leads x c st) (λ m. map_leads _ (parts_lead rest c m.sites))

    part_leads : (x : XmlForm) (c : Place) (st : Sites) → Leads (part_out l x c st) (part_out r x c st)
    part_leads (form.Text t) c st = leads_self _
    part_leads (form.Show n) c st = splice_then (shown_out l c st) (shown_out r c st) a b h n (λ x y k. shown_leads c st x y k)
    part_leads (form.Splice n) c st = splice_then (splice_out l c st) (splice_out r c st) a b h n (λ x y k. splice_leads_by c st x y (holds_fields c) k)
    part_leads (form.Element' t attrs _ parts) c st = then_leads (leads_self (node_at (known_in s.names.cons) c t attrs (is_end parts))) (λ n. node_leads c st _ _ (λ z su. parts_lead parts z su) n)

  pub literal_leads : {n : _} (xs : Row_of-XmlPart n) (st : Sites) (m : Mode) → Leads (literal_out l xs st m) (literal_out r xs st m)
  literal_leads xs st m = then_leads (leads_self (literal_sort xs (type_of_mode m))) (λ z. if_leads (is_framed z xs) (then_leads (parts_lead xs (place_of z) st) (λ o. leads_self _)))
