-- What is asked of the text and the splices of a literal of XML, its sort, and the frame of a page.
use Rattle.std.specs.Prelude.{ℕ, ◌&&◌, ◌||◌, ◌==◌, not, Bool, true, false, if◌then◌else◌, List, [], ◌∷◌, codes, Option, Some, None, is_none, option_map, bytes_eq}
use Rattle.std.specs.List.{list_all}
use Rattle.ur_base.specs.Shape.{Shape, count}
use Rattle.ur_syntax.specs.declared.xml.XmlPart.{XmlPart}
use Rattle.ur_syntax.specs.declared.xml.XmlForm.{XmlForm, Row_of-XmlPart, end_of-XmlPart as end, more_of-XmlPart as more, items-the_row-XmlPart}
use Rattle.ur_syntax.specs.declared.xml.XmlForm.TheVariants as form
use Rattle.ur_rows.specs.declared.normal.NormalType.{NormalType}
use Rattle.ur_rows.specs.declared.normal.NormalType.TheVariants as ty
use Rattle.ur_rows.specs.declared.normal.Part.{Part}
use Rattle.ur_rows.specs.Made.{form_of}
use Rattle.ur_tree.specs.Places.{Place, holds_text, holds_fields, drops_blank, place_type, Sort, page, body, table, row, fields, sort_of}
use Rattle.ur_xmltype.specs.Tags.{field_of}

-- ---- text

-- spaces, tabs and line ends
abbrev pub is_blank_byte : ℕ → Bool
is_blank_byte b = (b == 32) || ((b == 9) || ((b == 10) || (b == 13)))

abbrev pub is_blank : List ℕ → Bool
is_blank s = list_all is_blank_byte s

-- text that stays at a place
abbrev pub is_kept : Place → List ℕ → Bool
is_kept p s = not (drops_blank p && is_blank s)

-- whether text stays at a place; none where it may not stand there
abbrev pub text_at : Place → List ℕ → Option Bool
text_at p s = if is_kept p s then (if holds_text p then Some true else None) else Some false

-- ---- splices

-- what is asked of an expression that is spliced: any type that is found of it, which then decides, or this one
pub data Asked : Type 0 where
  decides : Asked
  asks : NormalType → Asked

-- In a form the type found of `{e}` decides, and one of which none is found is checked as a body; elsewhere it is checked at the
-- place's type.
abbrev pub splice_at : Place → Bool → Option Asked
splice_at p lacks = if holds_fields p then Some (if lacks then asks ty.Xbody else decides) else option_map asks (place_type p)

-- ---- the sort of a literal

-- the sort that the word of a first element gives
abbrev pub sort_of_word : List ℕ → Option Sort
sort_of_word w =
    if bytes_eq w (codes "head") || bytes_eq w (codes "body") then Some page else
    if bytes_eq w (codes "tr") then Some table else
    if bytes_eq w (codes "td") || bytes_eq w (codes "th") then Some row else
    option_map (λ k. fields) (field_of w)

abbrev pub or_body : Option Sort → Sort
or_body (Some s) = s
or_body None = body

-- the word of an element
abbrev pub word_of : XmlForm → Option (List ℕ)
word_of (form.Element' t attrs _ parts) = Some t.word
word_of _ = None

abbrev pub sort_with : Option (List ℕ) → Sort → Sort
sort_with (Some w) rest = or_body (sort_of_word w)
sort_with None rest = rest

abbrev pub first_of : List XmlPart → Sort
first_of [] = body
first_of (x ∷ rest) = sort_with (word_of x.form) (first_of rest)

-- the sort of a literal: that of the type that is wanted, or else by its first element
abbrev pub sort_of_literal : List XmlPart → Option NormalType → Option Sort
sort_of_literal parts (Some t) = sort_of t
sort_of_literal parts None = Some (first_of parts)

-- the same of parts that stand in a literal
abbrev pub literal_sort : {n : _} → Row_of-XmlPart n → Option NormalType → Option Sort
literal_sort {n = n} parts wanted = sort_of_literal (items-the_row-XmlPart n parts) wanted

-- the type of a literal of a sort with these fields
abbrev pub sort_type : Sort → List Part → NormalType
sort_type page r = ty.Page
sort_type body r = ty.Xbody
sort_type table r = ty.Xtable
sort_type row r = ty.Xtr
sort_type fields r = form_of r

-- ---- the frame of a page

-- a part of a page: blank text, a head, a body, or what may not stand there, as refusals name it
pub data Framed : Type 0 where
  nothing : Framed
  head : Framed
  body_part : Framed
  other : List ℕ → Framed

abbrev pub element_framed : List ℕ → Framed
element_framed w = if bytes_eq w (codes "head") then head else if bytes_eq w (codes "body") then body_part else other w

abbrev pub text_framed : List ℕ → Framed
text_framed s = if is_blank s then nothing else other (codes "text")

abbrev pub framed_form : XmlForm → Framed
framed_form (form.Text s) = text_framed s
framed_form (form.Show n) = other (codes "text")
framed_form (form.Splice n) = other (codes "{e}")
framed_form (form.Element' t attrs _ parts) = element_framed t.word

-- the parts behind may be those of a page that had a head and a body so far, or a part breaks the frame
pub data Step : Type 0 where
  goes_on : Bool → Bool → Step
  breaks : List ℕ → Step

-- A head stands first and once, a body once.
abbrev pub framed_step : Framed → Bool → Bool → Step
framed_step nothing had_head had_body = goes_on had_head had_body
framed_step head had_head had_body = if had_head || had_body then breaks (codes "head") else goes_on true had_body
framed_step body_part had_head had_body = if had_body then breaks (codes "body") else goes_on had_head true
framed_step (other w) had_head had_body = breaks w

abbrev pub after_step : Step → (Bool → Bool → Option (List ℕ)) → Option (List ℕ)
after_step (goes_on had_head had_body) rest = rest had_head had_body
after_step (breaks w) rest = Some w

-- what breaks the frame of a page that had a head and a body so far; where the body is missing it is `nothing`
abbrev pub frame_fault : List XmlPart → Bool → Bool → Option (List ℕ)
frame_fault [] had_head had_body = if had_body then None else Some (codes "nothing")
frame_fault (x ∷ rest) had_head had_body = after_step (framed_step (framed_form x.form) had_head had_body) (λ h b. frame_fault rest h b)

-- what breaks the frame of a literal of a sort
abbrev pub fault_of_sort : Sort → List XmlPart → Option (List ℕ)
fault_of_sort page parts = frame_fault parts false false
fault_of_sort s parts = None

-- the parts of a literal of a sort have the frame of that sort
abbrev pub is_framed : {n : _} → Sort → Row_of-XmlPart n → Bool
is_framed {n = n} s parts = is_none (fault_of_sort s (items-the_row-XmlPart n parts))

abbrev pub is_end : {n : _} → Row_of-XmlPart n → Bool
is_end end = true
is_end (more span x rest) = false

-- the parts of a literal as they stand within an element
abbrev pub row_of_parts : List XmlPart → (s : Shape) × Row_of-XmlPart (count s)
row_of_parts [] = ([], end)
row_of_parts (x ∷ xs) = let r : (s : Shape) × Row_of-XmlPart (count s) = row_of_parts xs in (tt ∷ r.0, more x.span x.form r.1)
