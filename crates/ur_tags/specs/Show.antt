-- Pages as bytes.
use Rattle.std.specs.Prelude.{ℕ, Bool, true, false, ◌==◌, List, [], ◌∷◌, ◌++◌, Option, Some, None, if◌then◌else◌, codes, slice_get}
use Rattle.std.specs.List.{flat_map}
use Rattle.ur_values.specs.declared.value.Value.{Value, Row_of-Value, end_of-Value, more_of-Value, Row_of-Node, end_of-Node, more_of-Node}
use Rattle.ur_values.specs.declared.value.Value.TheVariants as v
use Rattle.ur_values.specs.declared.value.Node.{Node}
use Rattle.ur_values.specs.declared.value.Node.TheVariants as n
use Rattle.ur_values.specs.declared.value.Tag.{Tag}
use Rattle.ur_values.specs.declared.value.Tag.TheVariants as tag
use Rattle.ur_values.specs.declared.value.FieldKind.{FieldKind}
use Rattle.ur_values.specs.declared.value.FieldKind.TheVariants as field
use Rattle.ur_tags.specs.declared.routes.Handlers.{Handlers}
use Rattle.ur_tags.specs.Paths.{names_path, argument_path}

-- ---- texts, elements and attributes

-- a byte of text
abbrev pub escape : ℕ → List ℕ
escape b = if b == 38 then codes "&amp;" else (if b == 60 then codes "&lt;" else (if b == 62 then codes "&gt;" else b ∷ []))

-- a byte of an attribute's value
abbrev pub escape_quoted : ℕ → List ℕ
escape_quoted b = if b == 34 then codes "&quot;" else escape b

abbrev pub tag_word : Tag → List ℕ
tag_word tag.Head = codes "head"
tag_word tag.Title = codes "title"
tag_word tag.Body = codes "body"
tag_word tag.P = codes "p"
tag_word tag.Div = codes "div"
tag_word tag.Span = codes "span"
tag_word tag.B = codes "b"
tag_word tag.I = codes "i"
tag_word tag.Em = codes "em"
tag_word tag.Strong = codes "strong"
tag_word tag.H1 = codes "h1"
tag_word tag.H2 = codes "h2"
tag_word tag.H3 = codes "h3"
tag_word tag.H4 = codes "h4"
tag_word tag.Ul = codes "ul"
tag_word tag.Ol = codes "ol"
tag_word tag.Li = codes "li"
tag_word tag.Pre = codes "pre"
tag_word tag.Code = codes "code"
tag_word tag.Br = codes "br"
tag_word tag.Hr = codes "hr"
tag_word tag.Table = codes "table"
tag_word tag.Tr = codes "tr"
tag_word tag.Td = codes "td"
tag_word tag.Th = codes "th"
tag_word tag.Form = codes "form"

-- the bytes between an opening tag with these attributes and its closing tag
abbrev pub around : List ℕ → List ℕ → List ℕ → List ℕ
around name attributes inner = codes "<" ++ name ++ attributes ++ codes ">" ++ inner ++ (codes "</" ++ name ++ codes ">")

-- ` name="value"`
abbrev pub attribute : List ℕ → List ℕ → List ℕ
attribute name value = codes " " ++ name ++ codes "=\"" ++ flat_map escape_quoted value ++ codes "\""

abbrev pub attribute_if_any : List ℕ → Option (List ℕ) → List ℕ
attribute_if_any name None = []
attribute_if_any name (Some value) = attribute name value

-- the tags that hold nothing
abbrev pub is_void : Tag → Bool
is_void tag.Br = true
is_void tag.Hr = true
is_void t = false

-- the attributes of a tag
abbrev pub tag_attributes : Tag → List ℕ
tag_attributes tag.Form = attribute (codes "method") (codes "post")
tag_attributes t = []

-- an element around these bytes
abbrev pub element : Tag → List ℕ → List ℕ
element t inner = if is_void t then codes "<" ++ tag_word t ++ codes "/>" else around (tag_word t) (tag_attributes t) inner

abbrev pub input : List ℕ → List ℕ → List ℕ
input type attributes = codes "<input" ++ attribute (codes "type") type ++ attributes ++ codes "/>"

-- an input with a name and a value
abbrev pub named_input : List ℕ → List ℕ → Option (List ℕ) → List ℕ
named_input type name value = input type (attribute (codes "name") name ++ attribute_if_any (codes "value") value)

-- a form's field with its name and value; a text area and a checkbox show no value
abbrev pub show_field : FieldKind → List ℕ → Option (List ℕ) → List ℕ
show_field field.Textbox name value = named_input (codes "text") name value
show_field field.Password name value = named_input (codes "password") name value
show_field field.Checkbox name value = named_input (codes "checkbox") name None
show_field field.Textarea name value = around (codes "textarea") (attribute (codes "name") name) []

-- ---- nodes

-- a link to a path, around these bytes
abbrev pub link : List ℕ → List ℕ → List ℕ
link path inner = around (codes "a") (attribute (codes "href") path) inner

-- a button that sends its form to a path
abbrev pub submit : List ℕ → Option (List ℕ) → List ℕ
submit path label = input (codes "submit") (attribute (codes "formaction") path ++ attribute_if_any (codes "value") label)

-- the path of a call whose parts stand in a node
abbrev pub path_of_row : {m : _} → Row_of-Value m → List ℕ
path_of_row end_of-Value = []
path_of_row (more_of-Value x rest) = argument_path x ++ path_of_row rest

abbrev pub call_path : {m : _} → Handlers → ℕ → Row_of-Value m → List ℕ
call_path handlers number args = names_path (slice_get handlers.routes number) ++ path_of_row args

module _ (handlers : Handlers) where
  abbrev mutual
    pub show_node : Node → List ℕ
    show_node (n.Text t) = flat_map escape t
    show_node (n.Element' t _ kids) = element t (show_row kids)
    show_node (n.Link' number _ args _ kids) = link (call_path handlers number args) (show_row kids)
    show_node (n.Field kind name value) = show_field kind name value
    show_node (n.Submit' number _ args label) = submit (call_path handlers number args) label

    pub show_row : {m : _} → Row_of-Node m → List ℕ
    show_row end_of-Node = []
    show_row (more_of-Node x rest) = show_node x ++ show_row rest

  -- nodes, one after the other
  abbrev pub show_nodes : List Node → List ℕ
  show_nodes nodes = flat_map show_node nodes

  -- the markup of a value, which is none where the value is no markup
  abbrev pub show_markup : Value → List ℕ
  show_markup (v.Markup' _ nodes) = show_row nodes
  show_markup _ = []

-- ---- pages

-- a document around its parts
abbrev pub document : List ℕ → List ℕ
document parts = codes "<!DOCTYPE html>" ++ 10 ∷ around (codes "html") [] parts

-- a document with a title and a body
abbrev pub titled : List ℕ → List ℕ → List ℕ
titled title body = document (around (codes "head") [] (around (codes "title") [] title) ++ around (codes "body") [] body)

-- a titled document up to what is in its body
abbrev pub before_body : List ℕ → List ℕ
before_body title = codes "<!DOCTYPE html>" ++ 10 ∷ codes "<html><head><title>" ++ title ++ codes "</title></head><body>"

-- a page's bytes
abbrev pub show : Handlers → Value → List ℕ
show handlers page = document (show_markup handlers page)

-- the page of a program error with this body
abbrev pub show_error : Handlers → Value → List ℕ
show_error handlers body = titled (codes "Error") (show_markup handlers body)

-- a page of a title and a text
abbrev pub show_text : List ℕ → List ℕ → List ℕ
show_text title text = titled (flat_map escape title) (flat_map escape text)
