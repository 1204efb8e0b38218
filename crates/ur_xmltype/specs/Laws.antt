-- What is refused has no answer.
use Rattle.std.specs.Prelude.{◌≡◌, Bool, false, List, Option, None}
use mathlib.Core.Former.{Count}
use Rattle.ur_base.specs.declared.refusal.Refusal.{Refusal}
use Rattle.ur_syntax.specs.declared.xml.Tag.{Tag as WrittenTag}
use Rattle.ur_syntax.specs.declared.xml.Attr.{Attr}
use Rattle.ur_syntax.specs.declared.xml.XmlForm.{Row_of-XmlPart, items-the_row-XmlPart}
use Rattle.ur_rows.specs.declared.normal.Label.{Label}
use Rattle.ur_rows.specs.declared.normal.Part.{Part}
use Rattle.ur_rows.specs.Apart.{Assumptions, AreApart}
use Rattle.ur_tree.specs.Places.{Place, Sort}
use Rattle.ur_tree.specs.Text.{Names}
use Rattle.ur_xmltype.specs.Tags.{node_with}
use Rattle.ur_xmltype.specs.Literal.{is_framed}
use Rattle.ur_xmltype.specs.Faults.{IsBadTag, IsBadFrame, IsMeeting}

abbrev pub BadTagIsNone : Type 0
BadTagIsNone = (l : Option Label) (p : Place) (t : WrittenTag) (attrs : List Attr) (bare : Bool) (r : Refusal) → IsBadTag l p t attrs bare r → node_with l p t attrs bare ≡ None

abbrev pub BadFrameIsNone : Type 0
BadFrameIsNone = (n : Count) (s : Sort) (parts : Row_of-XmlPart n) (r : Refusal) → IsBadFrame s (items-the_row-XmlPart n parts) r → is_framed s parts ≡ false

abbrev pub MeetingIsNotApart : Type 0
MeetingIsNotApart = (names : Names) (known : Assumptions) (r : List Part) (x : Refusal) → IsMeeting names known r x → AreApart known r → ⊥
