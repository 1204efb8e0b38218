-- Why a part of XML may not stand at its place, as refusals tell it.
use Rattle.std.specs.Prelude.{◌≡◌, ℕ, Bool, List, [], ◌∷◌, ◌++◌, codes, Option, Some, None}
use Rattle.ur_base.specs.Stopping.{Says}
use Rattle.ur_base.specs.declared.refusal.Refusal.{Refusal}
use Rattle.ur_syntax.specs.declared.xml.Tag.{Tag as WrittenTag}
use Rattle.ur_syntax.specs.declared.xml.Attr.{Attr}
use Rattle.ur_syntax.specs.declared.xml.XmlPart.{XmlPart}
use Rattle.ur_rows.specs.declared.normal.Label.{Label}
use Rattle.ur_rows.specs.declared.normal.Part.{Part}
use Rattle.ur_rows.specs.Apart.{Assumptions, Apart}
use Rattle.ur_tree.specs.Places.{Place, Sort}
use Rattle.ur_tree.specs.Places as places
use Rattle.ur_tree.specs.Text.{Names, apart_from, row_text}
use Rattle.ur_xmltype.specs.Tags.{repeated, node_with}
use Rattle.ur_xmltype.specs.Literal.{fault_of_sort}

-- a place as refusals name it
abbrev pub place_text : Place → List ℕ
place_text places.in_page = codes "page"
place_text places.in_head = codes "head"
place_text places.in_title = codes "title"
place_text places.in_body = codes "body"
place_text places.in_table = codes "xtable"
place_text places.in_row = codes "xtr"
place_text places.in_form = codes "form"
place_text places.in_fields = codes "form"
place_text places.in_nothing = codes "nothing"

-- this may not stand at the place
abbrev pub IsMisplaced : Refusal → List ℕ → Place → Type 0
IsMisplaced r x p = Says r 13 x (apart_from x (place_text p))

-- A tag does not stand at a place as it is written: an attribute's name is repeated, or else no tag of the word stands there so.
pub data IsBadTag (l : Option Label) (p : Place) (t : WrittenTag) (attrs : List Attr) (bare : Bool) (r : Refusal) : Type 0 where
  twice : {x : List ℕ} → repeated attrs ≡ Some x → Says r 8 x [] → IsBadTag l p t attrs bare r
  misplaced : repeated attrs ≡ None → node_with l p t attrs bare ≡ None → IsMisplaced r t.word p → IsBadTag l p t attrs bare r

-- a part breaks the frame of a page, or the body is missing
pub record IsBadFrame (s : Sort) (parts : List XmlPart) (r : Refusal) : Type 0 where
  pub part : List ℕ
  pub breaks : fault_of_sort s parts ≡ Some part
  pub told : IsMisplaced r part places.in_page

-- two rows stand in a row that are not apart: a part, and the parts behind it
pub record IsMeeting (names : Names) (known : Assumptions) (r : List Part) (x : Refusal) : Type 0 where
  pub before : List Part
  pub part : Part
  pub behind : List Part
  pub is : r ≡ before ++ (part ∷ behind)
  pub meet : Apart known (part ∷ []) behind → ⊥
  pub told : Says x 11 (row_text names (part ∷ [])) (row_text names behind)
