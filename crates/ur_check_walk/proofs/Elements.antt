-- Tags in a literal of XML, with their parts.
use Rattle.std.proofs.Common.{arith, ◌≡◌, refl, ap, ap₂, sym, ◌∙◌, subst, ℕ, suc, ◌==◌, Bool, true, false, List, [], ◌∷◌, length, Option, Some, Result, IfOk}
use Rattle.std.specs.Prelude.{option_and_then}
use Rattle.std.proofs.lemmas.Bool.{ne_eqb}
use Rattle.ur_base.specs.Shape.{Shape, count}
use Rattle.ur_base.specs.Stopping.{IfRefused}
use Rattle.ur_base.specs.declared.refusal.Refusal.{Refusal}
use Rattle.ur_base.specs.declared.refusal.Stop.{Stop}
use Rattle.ur_syntax.specs.declared.xml.Attr.{Attr}
use Rattle.ur_syntax.specs.declared.xml.Tag.{Tag as WrittenTag}
use Rattle.ur_syntax.specs.declared.xml.XmlPart.{XmlPart}
use Rattle.ur_syntax.specs.declared.xml.XmlForm.{XmlForm, Row_of-XmlPart}
use Rattle.ur_syntax.specs.declared.xml.XmlForm.TheVariants as form
use Rattle.ur_values.specs.declared.value.Tag.{Tag}
use Rattle.ur_rows.specs.declared.normal.Label.{Label}
use Rattle.ur_rows.specs.Normal.{known_in}
use Rattle.ur_tree.specs.Places.{Place, in_form}
use Rattle.ur_xmltype.specs.Faults.{IsBadTag}
use Rattle.ur_xmltype.specs.Literal.{is_end, row_of_parts}
use Rattle.ur_xmltype.specs.Tags.{Node, node_with, node_at, label_at}
use Rattle.ur_xmltype.specs.Tags as node
use Rattle.ur_xmltype.proofs.Equations.{element-made}
use Rattle.ur_typed_rules.specs.Scopes.{World, Scope}
use Rattle.ur_typed_rules.specs.Faults.{as_refused}
use Rattle.ur_typed.specs.Rules.{Sites}
use Rattle.ur_typed.specs.Markups.{Literal, element_out, form_out, node_out, parts_out, part_out}
use Rattle.ur_typed.specs.Parts.{in_element, in_a_form}
use Rattle.ur_typed.specs.Faults.{BreaksNode, no_node, at_node, within_element, within_form}
use Rattle.ur_check_scopes.specs.declared.around.Around.{Around}
use Rattle.ur_check_scopes.specs.Views.{Stands, Refuses, env_in}
use Rattle.ur_check_scopes.proofs.Exits.{ok-along, refused-along}
use Rattle.ur_check_rules.specs.declared.out.Sites.{Sites as HeldSites}
use Rattle.ur_check_rules.specs.Views.{sites_in}
use Rattle.ur_check_forms.specs.declared.marked.Marked.{Marked as HeldMarked}
use Rattle.ur_check_forms.specs.Views.{marked_with}
use Rattle.ur_check_walk.specs.declared.markup.Within.{Within}
use Rattle.ur_check_walk.specs.Marking.{literal_in, PartHasFault, breaks_part, in_part, PartsHaveFault, breaks_parts, in_parts, NodeHasFault, breaks_node, in_node, GivesParts, TellsParts, GivesPart, TellsPart, GivesNode, TellsNode}

abbrev names_at : Around → List (List ℕ)
names_at a = a.world.now.datatype_names

-- ---- what a tag is at its place

end-so : (ps : List XmlPart) → (length ps == 0) ≡ is_end (row_of_parts ps).1
end-so [] = refl
end-so (p ∷ ps) = ne_eqb (suc (length ps)) 0 (λ e. omega arith)

-- the label of a tag's field, in each scope in which the code stands
abbrev pub IsLabel : Around → WrittenTag → Option Label → Type 0
IsLabel a t l = (w : World) (s : Scope) → Stands a w s → l ≡ label_at (known_in s.names.cons) t.field

node-there : (a : Around) (p : Place) (t : WrittenTag) (attrs : List Attr) (parts : List XmlPart) (l : Option Label) (bare : Bool) (g : Node) → IsLabel a t l → bare ≡ (length parts == 0) → node_with l p t attrs bare ≡ Some g →
    (w : World) (s : Scope) → Stands a w s → node_at (known_in s.names.cons) p t attrs (is_end (row_of_parts parts).1) ≡ Some g
node-there a p t attrs parts l bare g named e h w s stands = ap₂ (λ k b. node_with k p t attrs b) (sym (named w s stands)) (sym (e ∙ end-so parts)) ∙ h

pub tag-given : (a : Around) (before after : HeldSites) (x : Within) (p : Place) (t : WrittenTag) (attrs : List Attr) (parts : List XmlPart) (l : Option Label) (bare : Bool) (g : Node) (d : HeldMarked) → IsLabel a t l → bare ≡ (length parts == 0) →
    node_with l p t attrs bare ≡ Some g → GivesNode a before x p parts g d after → GivesPart a before x p (form.Element t attrs parts) d after
tag-given a before after x p t attrs parts l bare g d named e h k = λ w s stands.
    ap (λ z. part_out (literal_in w s x) z p (sites_in before)) (element-made t attrs parts)
    ∙ ap (option_and_then (node_out (literal_in w s x) p (sites_in before) (λ q st. parts_out (literal_in w s x) (row_of_parts parts).1 q st))) (node-there a p t attrs parts l bare g named e h w s stands)
    ∙ k w s stands

node-fault : (names : List (List ℕ)) (w : World) (s : Scope) (x : Within) (p : Place) (t : WrittenTag) (attrs : List Attr) (k : Shape) (row : Row_of-XmlPart (count k)) (g : Node) (st : Sites) (r : Refusal) → node_at (known_in s.names.cons) p t attrs (is_end row) ≡ Some g →
    NodeHasFault names w s x p k row g st r → PartHasFault names w s x p (form.Element' t attrs k row) st r
node-fault names w s x p t attrs k row g st r e (breaks_node b) = breaks_part (b.0, at_node e b.1, b.2)
node-fault names w s x p t attrs k row g st r e (in_node q h) = in_part (q t attrs e) h

pub tag-tells : (a : Around) (before : HeldSites) (x : Within) (p : Place) (t : WrittenTag) (attrs : List Attr) (parts : List XmlPart) (l : Option Label) (bare : Bool) (g : Node) → IsLabel a t l → bare ≡ (length parts == 0) →
    node_with l p t attrs bare ≡ Some g → (r : Refusal) → TellsNode a before x p parts g r → TellsPart a before x p (form.Element t attrs parts) r
tag-tells a before x p t attrs parts l bare g named e h r k = λ w s stands.
    subst (λ z. PartHasFault (names_at a) w s x p z (sites_in before) r) (sym (element-made t attrs parts))
    (node-fault (names_at a) w s x p t attrs (row_of_parts parts).0 (row_of_parts parts).1 g (sites_in before) r (node-there a p t attrs parts l bare g named e h w s stands) (k w s stands))

pub tag-bad : (a : Around) (before : HeldSites) (x : Within) (p : Place) (t : WrittenTag) (attrs : List Attr) (parts : List XmlPart) (l : Option Label) (bare : Bool) → IsLabel a t l → bare ≡ (length parts == 0) → (r : Refusal) → IsBadTag l p t attrs bare r →
    TellsPart a before x p (form.Element t attrs parts) r
tag-bad a before x p t attrs parts l bare named e r h = λ w s stands.
    subst (λ z. PartHasFault (names_at a) w s x p z (sites_in before) r) (sym (element-made t attrs parts))
    (breaks_part (as_refused r, no_node (subst (λ k. IsBadTag k p t attrs (is_end (row_of_parts parts).1) r) (named w s stands) (subst (λ b. IsBadTag l p t attrs b r) (e ∙ end-so parts) h)), (refl, refl, refl)))

-- ---- nodes

pub node-arm : (a : Around) (before after : HeldSites) (x : Within) (p : Place) (parts : List XmlPart) (g k : Node) (r : Result HeldMarked Stop) → g ≡ k → IfOk r (λ d. GivesNode a before x p parts k d after) → IfOk r (λ d. GivesNode a before x p parts g d after)
node-arm a before after x p parts g k r e h = ok-along r (λ d f. subst (λ z. GivesNode a before x p parts z d after) (sym e) f) h

pub node-arm-tells : (a : Around) (before : HeldSites) (x : Within) (p : Place) (parts : List XmlPart) (g k : Node) (r : Result HeldMarked Stop) → g ≡ k → IfRefused r (TellsNode a before x p parts k) → IfRefused r (TellsNode a before x p parts g)
node-arm-tells a before x p parts g k r e h = refused-along r (λ q f. subst (λ z. TellsNode a before x p parts z q) (sym e) f) h

-- ---- elements

pub element-given : (a : Around) (st0 st1 : HeldSites) (x : Within) (p : Place) (parts : List XmlPart) (g : Tag) (q : Place) (m d : HeldMarked) → GivesParts a st0 x q parts m st1 → ((st : Sites) → element_out g (marked_with m st) ≡ Some (marked_with d st)) →
    GivesNode a st0 x p parts (node.element g q) d st1
element-given a st0 st1 x p parts g q m d h made = λ w s stands. ap (option_and_then (element_out g)) (h w s stands) ∙ made (sites_in st1)

in-element : (names : List (List ℕ)) (w : World) (s : Scope) (x : Within) (p q : Place) (g : Tag) (k : Shape) (row : Row_of-XmlPart (count k)) (st : Sites) (r : Refusal) → PartsHaveFault names w s x q (count k) row st r → NodeHasFault names w s x p k row (node.element g q) st r
in-element names w s x p q g k row st r (breaks_parts b) = breaks_node (b.0, within_element b.1, b.2)
in-element names w s x p q g k row st r (in_parts f h) = in_node (λ t attrs e. in_element e f) h

pub element-tells : (a : Around) (st : HeldSites) (x : Within) (p : Place) (parts : List XmlPart) (g : Tag) (q : Place) (r : Refusal) → TellsParts a st x q parts r → TellsNode a st x p parts (node.element g q) r
element-tells a st x p parts g q r h = λ w s stands. in-element (names_at a) w s x p q g (row_of_parts parts).0 (row_of_parts parts).1 (sites_in st) r (h w s stands)

-- ---- forms

pub form-given : (a : Around) (st0 st1 : HeldSites) (x : Within) (p : Place) (parts : List XmlPart) (m d : HeldMarked) → GivesParts a st0 x in_form parts m st1 → ((st : Sites) → form_out (env_in a.scope.cons).known (marked_with m st) ≡ Some (marked_with d st)) →
    GivesNode a st0 x p parts node.form d st1
form-given a st0 st1 x p parts m d h made = λ w s stands.
    ap (option_and_then (form_out s.env.known)) (h w s stands) ∙ ap (λ k. form_out k (marked_with m (sites_in st1))) stands.known ∙ made (sites_in st1)

in-form : (names : List (List ℕ)) (w : World) (s : Scope) (x : Within) (p : Place) (k : Shape) (row : Row_of-XmlPart (count k)) (st : Sites) (r : Refusal) → PartsHaveFault names w s x in_form (count k) row st r → NodeHasFault names w s x p k row node.form st r
in-form names w s x p k row st r (breaks_parts b) = breaks_node (b.0, within_form b.1, b.2)
in-form names w s x p k row st r (in_parts f h) = in_node (λ t attrs e. in_a_form e f) h

pub form-tells : (a : Around) (st : HeldSites) (x : Within) (p : Place) (parts : List XmlPart) (r : Refusal) → TellsParts a st x in_form parts r → TellsNode a st x p parts node.form r
form-tells a st x p parts r h = λ w s stands. in-form (names_at a) w s x p (row_of_parts parts).0 (row_of_parts parts).1 (sites_in st) r (h w s stands)

-- what is told of a form whose parts give this
abbrev UnfitForm : Around → HeldMarked → Refusal → Type 0
UnfitForm a m r = (l : Literal) (p : Place) (n : Shape) (parts : Row_of-XmlPart (count n)) (before after : Sites) → l.scope.env.known ≡ (env_in a.scope.cons).known → parts_out l parts in_form before ≡ Some (marked_with m after) →
    Refuses (names_at a) (BreaksNode (names_at a) l p (count n) parts before node.form) r

pub form-unfit : (a : Around) (st0 st1 : HeldSites) (x : Within) (p : Place) (parts : List XmlPart) (m : HeldMarked) → GivesParts a st0 x in_form parts m st1 → (r : Refusal) → UnfitForm a m r → TellsNode a st0 x p parts node.form r
form-unfit a st0 st1 x p parts m g r h = λ w s stands. breaks_node (h (literal_in w s x) p (row_of_parts parts).0 (row_of_parts parts).1 (sites_in st0) (sites_in st1) stands.known (g w s stands))
