-- What the functions of literals of XML promise: what parts give, and what is told of them.
use Rattle.std.specs.Prelude.{◌≡◌, ℕ, List, Some}
use mathlib.Core.Former.{Count}
use Rattle.ur_base.specs.Shape.{Shape, count}
use Rattle.ur_base.specs.declared.refusal.Refusal.{Refusal}
use Rattle.ur_syntax.specs.declared.exp.ExpForm.{ExpForm}
use Rattle.ur_syntax.specs.declared.xml.Attr.{Attr}
use Rattle.ur_syntax.specs.declared.xml.Tag.{Tag as WrittenTag}
use Rattle.ur_syntax.specs.declared.xml.XmlPart.{XmlPart}
use Rattle.ur_syntax.specs.declared.xml.XmlForm.{XmlForm, Row_of-XmlPart}
use Rattle.ur_syntax.specs.declared.xml.XmlForm.TheVariants as form
use Rattle.ur_rows.specs.Normal.{known_in}
use Rattle.ur_tree.specs.Places.{Place}
use Rattle.ur_xmltype.specs.Tags.{Node, node_at}
use Rattle.ur_xmltype.specs.Literal.{is_end, row_of_parts}
use Rattle.ur_typed_rules.specs.Scopes.{World, Scope, Mode}
use Rattle.ur_typed.specs.Rules.{Sites}
use Rattle.ur_typed.specs.Markups.{Literal, node_out, parts_out, part_out}
use Rattle.ur_typed.specs.Parts.{literal_of, InParts, InPart}
use Rattle.ur_typed.specs.Faults.{BreaksParts, BreaksPart, BreaksNode}
use Rattle.ur_typed.specs.Causes.{HasFault}
use Rattle.ur_check_scopes.specs.declared.around.Around.{Around}
use Rattle.ur_check_scopes.specs.Views.{Stands, Refuses}
use Rattle.ur_check_rules.specs.declared.out.Sites.{Sites as HeldSites}
use Rattle.ur_check_rules.specs.Views.{sites_in}
use Rattle.ur_check_forms.specs.declared.marked.Marked.{Marked as HeldMarked}
use Rattle.ur_check_forms.specs.Views.{marked_with}
use Rattle.ur_check_walk.specs.declared.markup.Within.{Within}
use Rattle.ur_check_walk.specs.Listed.{exp_row}

-- ---- the literal in which parts stand

-- the literal with these splices and these expressions of attributes
abbrev pub literal_in : World → Scope → Within → Literal
literal_in w s x = literal_of w s (exp_row x.splices.now).1 (exp_row x.attributes.now).1

-- within a part or parts of the literal the expression stands
abbrev pub StandsInPart : World → Scope → Within → Place → XmlForm → Sites → Sites → ExpForm → Mode → Type 0
StandsInPart w s x p f st su y m = InPart w s _ (exp_row x.splices.now).1 _ (exp_row x.attributes.now).1 p f st su y m

abbrev pub StandsInParts : World → Scope → Within → Place → (n : Count) → Row_of-XmlPart n → Sites → Sites → ExpForm → Mode → Type 0
StandsInParts w s x p n row st su y m = InParts w s _ (exp_row x.splices.now).1 _ (exp_row x.attributes.now).1 p n row st su y m

-- the same of each tag that is this at the place and has these parts
abbrev pub StandsInNode : World → Scope → Within → Place → (k : Shape) → Row_of-XmlPart (count k) → Node → Sites → Sites → ExpForm → Mode → Type 0
StandsInNode w s x p k row g st su y m = (t : WrittenTag) (attrs : List Attr) → node_at (known_in s.names.cons) p t attrs (is_end row) ≡ Some g → StandsInPart w s x p (form.Element' t attrs k row) st su y m

-- ---- what is wrong with parts

-- a fault of a part itself, or of an expression within it
pub data PartHasFault (names : List (List ℕ)) (w : World) (s : Scope) (x : Within) (p : Place) (f : XmlForm) (st : Sites) (r : Refusal) : Type 0 where
  breaks_part : Refuses names (BreaksPart names (literal_in w s x) p f st) r → PartHasFault names w s x p f st r
  in_part : {su : Sites} {y : ExpForm} {m : Mode} → StandsInPart w s x p f st su y m → HasFault names w s su y m r → PartHasFault names w s x p f st r

-- the same of parts
pub data PartsHaveFault (names : List (List ℕ)) (w : World) (s : Scope) (x : Within) (p : Place) (n : Count) (row : Row_of-XmlPart n) (st : Sites) (r : Refusal) : Type 0 where
  breaks_parts : Refuses names (BreaksParts names (literal_in w s x) p n row st) r → PartsHaveFault names w s x p n row st r
  in_parts : {su : Sites} {y : ExpForm} {m : Mode} → StandsInParts w s x p n row st su y m → HasFault names w s su y m r → PartsHaveFault names w s x p n row st r

-- the same of a tag that is this at its place
pub data NodeHasFault (names : List (List ℕ)) (w : World) (s : Scope) (x : Within) (p : Place) (k : Shape) (row : Row_of-XmlPart (count k)) (g : Node) (st : Sites) (r : Refusal) : Type 0 where
  breaks_node : Refuses names (BreaksNode names (literal_in w s x) p (count k) row st g) r → NodeHasFault names w s x p k row g st r
  in_node : {su : Sites} {y : ExpForm} {m : Mode} → StandsInNode w s x p k row g st su y m → HasFault names w s su y m r → NodeHasFault names w s x p k row g st r

-- ---- promises

-- in each world and scope in which the code stands, the parts at the place give this
abbrev pub GivesParts : Around → HeldSites → Within → Place → List XmlPart → HeldMarked → HeldSites → Type 0
GivesParts a before x p parts d after = (w : World) (s : Scope) → Stands a w s → parts_out (literal_in w s x) (row_of_parts parts).1 p (sites_in before) ≡ Some (marked_with d (sites_in after))

abbrev pub TellsParts : Around → HeldSites → Within → Place → List XmlPart → Refusal → Type 0
TellsParts a before x p parts r = (w : World) (s : Scope) → Stands a w s → PartsHaveFault a.world.now.datatype_names w s x p _ (row_of_parts parts).1 (sites_in before) r

-- the same of one part
abbrev pub GivesPart : Around → HeldSites → Within → Place → XmlForm → HeldMarked → HeldSites → Type 0
GivesPart a before x p f d after = (w : World) (s : Scope) → Stands a w s → part_out (literal_in w s x) f p (sites_in before) ≡ Some (marked_with d (sites_in after))

abbrev pub TellsPart : Around → HeldSites → Within → Place → XmlForm → Refusal → Type 0
TellsPart a before x p f r = (w : World) (s : Scope) → Stands a w s → PartHasFault a.world.now.datatype_names w s x p f (sites_in before) r

-- the same of a tag with these parts that is this at its place
abbrev pub GivesNode : Around → HeldSites → Within → Place → List XmlPart → Node → HeldMarked → HeldSites → Type 0
GivesNode a before x p parts g d after = (w : World) (s : Scope) → Stands a w s → node_out (literal_in w s x) p (sites_in before) (λ q st. parts_out (literal_in w s x) (row_of_parts parts).1 q st) g ≡ Some (marked_with d (sites_in after))

abbrev pub TellsNode : Around → HeldSites → Within → Place → List XmlPart → Node → Refusal → Type 0
TellsNode a before x p parts g r = (w : World) (s : Scope) → Stands a w s → NodeHasFault a.world.now.datatype_names w s x p (row_of_parts parts).0 (row_of_parts parts).1 g (sites_in before) r
