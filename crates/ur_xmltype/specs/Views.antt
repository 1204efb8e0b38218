-- The places, sorts, kinds of attributes and tags of the code, as the definitions have them.
use Rattle.std.specs.Prelude.{ℕ, List, [], ◌∷◌}
use Rattle.std.specs.Option.{option_copied}
use Rattle.ur_tree.specs.Places.{Place, Sort}
use Rattle.ur_tree.specs.Places as places
use Rattle.ur_xmltype.specs.declared.places.Place.{Place as CodePlace}
use Rattle.ur_xmltype.specs.declared.places.Place.TheVariants as place
use Rattle.ur_xmltype.specs.declared.sorts.Sort.{Sort as CodeSort}
use Rattle.ur_xmltype.specs.declared.sorts.Sort.TheVariants as sort
use Rattle.ur_xmltype.specs.declared.attributes.Takes.{Takes}
use Rattle.ur_xmltype.specs.declared.attributes.Takes.TheVariants as takes
use Rattle.ur_xmltype.specs.declared.nodes.Node.{Node as CodeNode}
use Rattle.ur_xmltype.specs.declared.nodes.Node.TheVariants as code
use Rattle.ur_xmltype.specs.declared.splices.Asked.{Asked as CodeAsked}
use Rattle.ur_xmltype.specs.declared.splices.Asked.TheVariants as asked
use Rattle.ur_xmltype.specs.Tags.{Node, link_word, action_word, value_word}
use Rattle.ur_xmltype.specs.Tags as node
use Rattle.ur_xmltype.specs.declared.frame.PagePart.{PagePart as CodeFramed}
use Rattle.ur_xmltype.specs.declared.frame.PagePart.TheVariants as framed
use Rattle.ur_xmltype.specs.declared.frame.Step.{Step as CodeStep}
use Rattle.ur_xmltype.specs.declared.frame.Step.TheVariants as step
use Rattle.ur_xmltype.specs.Literal.{Asked, decides, asks, Framed, nothing, head, body_part, other, Step, goes_on, breaks}

abbrev pub place_in : CodePlace → Place
place_in place.Page = places.in_page
place_in place.Head = places.in_head
place_in place.Title = places.in_title
place_in place.Body = places.in_body
place_in place.Table = places.in_table
place_in place.Row = places.in_row
place_in place.Form = places.in_form
place_in place.Fields = places.in_fields
place_in place.Nothing = places.in_nothing

abbrev pub sort_in : CodeSort → Sort
sort_in sort.Page = places.page
sort_in sort.Body = places.body
sort_in sort.Table = places.table
sort_in sort.Row = places.row
sort_in sort.Fields = places.fields

-- the names of the attributes
abbrev pub names_in : Takes → List (List ℕ)
names_in takes.Nothing = []
names_in takes.Link = link_word ∷ []
names_in takes.Value = value_word ∷ []
names_in takes.Action = action_word ∷ value_word ∷ []

abbrev pub node_in : CodeNode → Node
node_in (code.Element g q) = node.element g (place_in q)
node_in code.Form = node.form
node_in (code.Link n) = node.link n
node_in (code.Input k l v) = node.input k l (option_copied v)
node_in (code.Submit n v) = node.submit n (option_copied v)

abbrev pub asked_in : CodeAsked → Asked
asked_in asked.Decides = decides
asked_in (asked.Asks t) = asks t

abbrev pub framed_in : CodeFramed → Framed
framed_in framed.Nothing = nothing
framed_in framed.Head = head
framed_in framed.Body = body_part
framed_in (framed.Other w) = other w.now

abbrev pub step_in : CodeStep → Step
step_in (step.GoesOn had_head had_body) = goes_on had_head had_body
step_in (step.Breaks w) = breaks w.now
