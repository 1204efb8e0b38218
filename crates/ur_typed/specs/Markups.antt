-- The rule of a literal of XML, over the walks of its splices and of the expressions of its attributes.
use Rattle.std.specs.Prelude.{ℕ, ◌&&◌, ◌++◌, Bool, true, false, List, [], ◌∷◌, Option, Some, None, option_map, option_and_then, slice_get}
use Rattle.std.specs.List.{list_all}
use Rattle.ur_base.specs.Shape.{Shape, count}
use Rattle.ur_syntax.specs.declared.xml.Xml.{Xml}
use Rattle.ur_syntax.specs.declared.xml.AttrValue.{AttrValue}
use Rattle.ur_syntax.specs.declared.xml.AttrValue.TheVariants as attr_value
use Rattle.ur_syntax.specs.declared.xml.XmlForm.{XmlForm, Row_of-XmlPart, end_of-XmlPart as no_xml, more_of-XmlPart as an_xml}
use Rattle.ur_syntax.specs.declared.xml.XmlForm.TheVariants as form
use Rattle.ur_values.specs.declared.value.Tag.{Tag}
use Rattle.ur_values.specs.declared.value.Tag.TheVariants as tag
use Rattle.ur_values.specs.declared.value.FieldKind.{FieldKind}
use Rattle.ur_rows.specs.declared.normal.Label.{Label}
use Rattle.ur_rows.specs.declared.normal.NormalType.{NormalType}
use Rattle.ur_rows.specs.declared.normal.NormalType.TheVariants as ty
use Rattle.ur_rows.specs.declared.normal.Part.{Part}
use Rattle.ur_rows.specs.Apart.{Assumptions}
use Rattle.ur_rows.specs.Kinded.{label_is_in}
use Rattle.ur_rows.specs.Made.{record_of}
use Rattle.ur_rows.specs.Normal.{known_in}
use Rattle.ur_rows.specs.Order.{joined}
use Rattle.ur_rows.specs.Types.{field}
use Rattle.ur_tree.specs.Scalars.{is_basic}
use Rattle.ur_tree.specs.Places.{Place, in_form, holds_text, holds_fields, place_type, Sort, row, fields, place_of, fields_found}
use Rattle.ur_tree.specs.Places as places
use Rattle.ur_xmltype.specs.Tags.{Node, node_at}
use Rattle.ur_xmltype.specs.Tags as node
use Rattle.ur_xmltype.specs.Literal.{is_kept, is_end, literal_sort, is_framed, sort_type, row_of_parts}
use Rattle.ur_tree.specs.declared.exp.Exp.{Exp}
use Rattle.ur_tree.specs.declared.exp.Exp.TheVariants as exp
use Rattle.ur_tree.specs.declared.exp.Exp.TheBlock.{end_of-Exp as no_more, more_of-Exp as one_more, Row_of-Markup, end_of-Markup as no_markup, more_of-Markup as a_markup, Held-Exp-Tagged-1, None', Some'}
use Rattle.ur_tree.specs.declared.exp.Markup.{Markup}
use Rattle.ur_tree.specs.declared.exp.Markup.TheVariants as markup
use Rattle.ur_tree.specs.Heads.{Declared}
use Rattle.ur_tree.specs.Env.{variables}
use Rattle.ur_tree.specs.Typing.{are_linkable, types_of}
use Rattle.ur_typed_rules.specs.Scopes.{World, Scope, Mode, finds, wants, type_of_mode}
use Rattle.ur_typed_rules.specs.Tests.{same_type, are_apart, is_page}
use Rattle.ur_typed.specs.Rules.{Sites, Out, Walk, then_, gives, args_out}
use Rattle.ur_typed_rules.specs.Rules.{if_so}

-- a splice, and whether no type is found of it
pub record Splice : Type 0 where
  pub walk : Walk
  pub lacks : Bool

-- the expression of an attribute, and the function that it calls with its arguments, where it is such a call
pub record Attribute : Type 0 where
  pub walk : Walk
  pub calls : Option (ℕ × List Walk)

-- where parts of a literal stand
pub record Literal : Type 0 where
  pub declared : Declared
  pub scope : Scope
  pub splices : List Splice
  pub attributes : List Attribute

abbrev pub Markups : Type 0
Markups = (s : Shape) × Row_of-Markup (count s)

-- What parts give: the row of their fields, the records that the buttons among them want of the form around, and the resolved parts.
pub record Marked : Type 0 where
  pub row : List Part
  pub waiting : List NormalType
  pub marks : Markups
  pub sites : Sites

abbrev pub no_marks : Sites → Marked
no_marks st = record { row = []; waiting = []; marks = ([], no_markup); sites = st }

abbrev pub one_mark : List Part → List NormalType → Markup → Sites → Option Marked
one_mark r waiting m st = Some (record { row = r; waiting = waiting; marks = (tt ∷ [], a_markup m no_markup); sites = st })

abbrev pub both_rows : {n : _} → Row_of-Markup n → Markups → Markups
both_rows no_markup b = b
both_rows (a_markup m rest) b = let r : Markups = both_rows rest b in (tt ∷ r.0, a_markup m r.1)

abbrev pub and_marks : Marked → Marked → Marked
and_marks a b = record { row = joined a.row b.row; waiting = a.waiting ++ b.waiting; marks = both_rows a.marks.1 b.marks; sites = b.sites }

-- ---- text and splices

abbrev pub if_kept : Bool → Place → List ℕ → Sites → Option Marked
if_kept true p s st = if_so (holds_text p) (one_mark [] [] (markup.Text s) st)
if_kept false p s st = Some (no_marks st)

abbrev pub text_out : Place → List ℕ → Sites → Option Marked
text_out p s st = if_kept (is_kept p s) p s st

abbrev pub shown_out : Literal → Place → Sites → Splice → Option Marked
shown_out l p st x = if_so (holds_text p) (then_ (x.walk l.scope st finds) (λ o. if_so (is_basic o.of) (one_mark [] [] (markup.Shown o.exp) o.sites)))

-- in a form the type found of `{e}` decides; without one it is checked as a body
abbrev pub field_splice_out : Literal → Sites → Walk → Bool → Option Marked
field_splice_out l st a false = then_ (a l.scope st finds) (λ o. option_and_then (λ r. one_mark r [] (markup.Splice o.exp) o.sites) (fields_found o.of))
field_splice_out l st a true = then_ (a l.scope st (wants ty.Xbody)) (λ o. one_mark [] [] (markup.Splice o.exp) o.sites)

abbrev pub place_splice_out : Literal → Sites → Walk → NormalType → Option Marked
place_splice_out l st a t = then_ (a l.scope st (wants t)) (λ o. one_mark [] [] (markup.Splice o.exp) o.sites)

abbrev pub splice_by : Literal → Place → Sites → Splice → Bool → Option Marked
splice_by l p st x true = field_splice_out l st x.walk x.lacks
splice_by l p st x false = option_and_then (place_splice_out l st x.walk) (place_type p)

abbrev pub splice_out : Literal → Place → Sites → Splice → Option Marked
splice_out l p st x = splice_by l p st x (holds_fields p)

-- ---- tags

abbrev pub element_out : Tag → Marked → Option Marked
element_out g m = one_mark m.row m.waiting (markup.Element' g m.marks.0 m.marks.1) m.sites

-- a form: each button in it wants the record of the form's fields
abbrev pub form_out : Assumptions → Marked → Option Marked
form_out known m = if_so (are_apart known m.row && list_all (same_type (record_of m.row)) m.waiting) (one_mark [] [] (markup.Element' tag.Form m.marks.0 m.marks.1) m.sites)

-- the types of the parameters of a page function
abbrev pub page_params : Declared → ℕ → Option (List NormalType)
page_params d f = option_and_then (λ h. if_so (is_page h) (Some (types_of h.params))) (slice_get d.functions f)

-- a list without its last element, and that element
abbrev pub without_last : {A : Type 0} → List A → Option (List A × A)
without_last [] = None
without_last (x ∷ []) = Some ([], x)
without_last (x ∷ y ∷ ys) = option_map (λ r. (x ∷ r.0, r.1)) (without_last (y ∷ ys))

abbrev pub link_with : Literal → (Sites → Option Marked) → Sites → ℕ × List Walk → List NormalType → Option Marked
link_with l inner st f ts = if_so (are_linkable ts) (option_and_then (λ r. option_and_then (λ m. one_mark m.row m.waiting (markup.Link' f.0 r.0.0 r.0.1 m.marks.0 m.marks.1) m.sites) (inner r.1)) (args_out l.scope f.1 ts st))

abbrev pub link_out : Literal → (Sites → Option Marked) → Sites → ℕ × List Walk → Option Marked
link_out l inner st f = option_and_then (link_with l inner st f) (page_params l.declared f.0)

-- the `value` of a tag, where it has one
abbrev pub held_exp : Exp → Held-Exp-Tagged-1
held_exp x = Some' tt (one_more x no_more)

abbrev pub value_out : Literal → Sites → Option AttrValue → Option (Held-Exp-Tagged-1 × Sites)
value_out l st None = Some (None', st)
value_out l st (Some (attr_value.Text s)) = Some (held_exp (exp.Str s), st)
value_out l st (Some (attr_value.Exp n)) = option_and_then (λ a. then_ (a.walk l.scope st (wants ty.Str)) (λ o. Some (held_exp o.exp, o.sites))) (slice_get l.attributes n)

abbrev pub submit_with : Literal → Option AttrValue → Sites → ℕ × List Walk → List NormalType × NormalType → Option Marked
submit_with l v st f ts = if_so (are_linkable ts.0) (option_and_then (λ r. option_and_then (λ h. one_mark [] (ts.1 ∷ []) (markup.Submit' f.0 r.0.0 r.0.1 h.0) h.1) (value_out l r.1 v)) (args_out l.scope f.1 ts.0 st))

abbrev pub submit_out : Literal → Option AttrValue → Sites → ℕ × List Walk → Option Marked
submit_out l v st f = option_and_then (submit_with l v st f) (option_and_then without_last (page_params l.declared f.0))

abbrev pub input_out : Literal → FieldKind → Label → Option AttrValue → Sites → Option Marked
input_out l k x v st = if_so (label_is_in (variables l.scope.env) x) (option_and_then (λ h. one_mark (field x (places.field_type k) ∷ []) [] (markup.Input' k x h.0) h.1) (value_out l st v))

abbrev pub called_at : Literal → ℕ → Option (ℕ × List Walk)
called_at l n = option_and_then (λ a. a.calls) (slice_get l.attributes n)

-- a tag by what it is at its place, `inner` being what its parts give at a place
abbrev pub node_out : Literal → Place → Sites → (Place → Sites → Option Marked) → Node → Option Marked
node_out l p st inner (node.element g q) = option_and_then (element_out g) (inner q st)
node_out l p st inner node.form = option_and_then (form_out l.scope.env.known) (inner in_form st)
node_out l p st inner (node.link n) = option_and_then (link_out l (inner p) st) (called_at l n)
node_out l p st inner (node.input k x v) = input_out l k x v st
node_out l p st inner (node.submit n v) = option_and_then (submit_out l v st) (called_at l n)

abbrev mutual
  -- what parts at a place give
  pub parts_out : {n : _} → Literal → Row_of-XmlPart n → Place → Sites → Option Marked
  parts_out l no_xml p st = Some (no_marks st)
  parts_out l (an_xml at x rest) p st = option_and_then (λ a. option_map (and_marks a) (parts_out l rest p a.sites)) (part_out l x p st)

  pub part_out : Literal → XmlForm → Place → Sites → Option Marked
  part_out l (form.Text s) p st = text_out p s st
  part_out l (form.Show n) p st = option_and_then (shown_out l p st) (slice_get l.splices n)
  part_out l (form.Splice n) p st = option_and_then (splice_out l p st) (slice_get l.splices n)
  part_out l (form.Element' t attrs _ parts) p st =
      option_and_then (node_out l p st (λ q st'. parts_out l parts q st')) (node_at (known_in l.scope.names.cons) p t attrs (is_end parts))

-- ---- literals

-- the fields of a literal that is spliced into forms are apart
abbrev pub sort_fits : Assumptions → Sort → List Part → Bool
sort_fits known fields r = are_apart known r
sort_fits known s r = true

abbrev pub sorted_out : Literal → {n : _} → Row_of-XmlPart n → Sites → Sort → Option Out
sorted_out l inner st s = if_so (is_framed s inner)
    (option_and_then (λ m. if_so (sort_fits l.scope.env.known s m.row) (gives (sort_type s m.row) (exp.Xml' (sort_type s m.row) m.marks.0 m.marks.1) m.sites)) (parts_out l inner (place_of s) st))

abbrev pub literal_out : Literal → {n : _} → Row_of-XmlPart n → Sites → Mode → Option Out
literal_out l inner st m = option_and_then (sorted_out l inner st) (literal_sort inner (type_of_mode m))

abbrev pub xml_out : World → Scope → Sites → Mode → Xml → List Splice → List Attribute → Option Out
xml_out w s st m x splices attributes = literal_out (record { declared = w.declared; scope = s; splices = splices; attributes = attributes }) (row_of_parts x.parts).1 st m
