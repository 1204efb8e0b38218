-- What is known of a tag at a place from what it is there.
use Rattle.std.proofs.lemmas.Bool.{cases_Bool}
use Rattle.std.proofs.Common.{◌≡◌, ◌∙◌, refl, sym, subst, Bool, true, false, Option, Some, None, List, [], ◌∷◌, ℕ, inl, inr}
use Rattle.std.specs.Prelude.{◌&&◌, if◌then◌else◌, is_none, bytes_eq, codes, option_map}
use Rattle.ur_syntax.specs.declared.xml.Tag.{Tag as WrittenTag}
use Rattle.ur_syntax.specs.declared.xml.TagField.{TagField}
use Rattle.ur_syntax.specs.declared.xml.Attr.{Attr}
use Rattle.ur_syntax.specs.declared.xml.AttrValue.{AttrValue}
use Rattle.ur_values.specs.declared.value.Tag.{Tag}
use Rattle.ur_values.specs.declared.value.Tag.TheVariants as tag
use Rattle.ur_values.specs.declared.value.FieldKind.{FieldKind}
use Rattle.ur_values.specs.declared.value.FieldKind.TheVariants as field_kind
use Rattle.ur_tags.specs.Show.{tag_word}
use Rattle.ur_rows.specs.declared.normal.Label.{Label}
use Rattle.ur_rows.specs.Normal.{Known}
use Rattle.ur_tree.specs.Places.{Place, in_page, in_head, in_title, in_body, in_table, in_row, in_form, in_nothing, is_flow, holds_fields, if_flow, in_page_only, in_head_only, in_table_only, in_row_only, in_body_only, inside, may_have_value, body, fields}
use Rattle.ur_xmltype.specs.Tags.{all_tags, tag_in, tag_of, field_of, label_at, repeated, are_named, value_of, expression_at, link_word, action_word, value_word, Node, element_node, is_bare, is_plain, element_at, may_link, link_at, field_attributes, may_input, is_in_form, may_submit, submit_at, leaf_at, node_by, node_at}
use Rattle.ur_xmltype.specs.Tags as node
use Rattle.ur_xmltype.specs.Literal.{sort_of_word, or_body}
use Rattle.ur_tree.specs.Typing.{sort_of_tag}
use Rattle.ur_typed_rules.specs.Rules.{if_so}
use Rattle.ur_typed_rules.proofs.Options.{some_of, opened_if, both_true, mapped}
use Rattle.ur_typed.proofs.Shapes.{word_is}

abbrev pub is_form : Tag → Bool
is_form tag.Form = true
is_form _ = false

-- a value stands only where one may
abbrev pub MayStand : Bool → Option AttrValue → Type 0
MayStand true v = Unit {0}
MayStand false v = v ≡ None

pub data NodeIs (p : Place) (w : List ℕ) (bare : Bool) : Node → Type 0 where
  element_is : {g : Tag} {q : Place} → tag_word g ≡ w → is_form g ≡ false → inside p g ≡ Some q → NodeIs p w bare (node.element g q)
  form_is : tag_word tag.Form ≡ w → inside p tag.Form ≡ Some in_form → NodeIs p w bare node.form
  link_is : {n : ℕ} → is_flow p ≡ true → w ≡ codes "a" → NodeIs p w bare (node.link n)
  input_is : {k : FieldKind} {l : Label} {v : Option AttrValue} → bare ≡ true → holds_fields p ≡ true → field_of w ≡ Some k → MayStand (may_have_value k) v → NodeIs p w bare (node.input k l v)
  submit_is : {n : ℕ} {v : Option AttrValue} → bare ≡ true → p ≡ in_form → w ≡ codes "submit" → NodeIs p w bare (node.submit n v)

-- ---- choices

pub chosen_true : {A : Type 0} (b : Bool) (x y z : Option A) → (if b then x else y) ≡ z → b ≡ true → x ≡ z
chosen_true true x y z h i = h
chosen_true false x y z h i = cc

pub chosen_false : {A : Type 0} (b : Bool) (x y z : Option A) → (if b then x else y) ≡ z → b ≡ false → y ≡ z
chosen_false true x y z h i = cc
chosen_false false x y z h i = h

-- ---- words

tag_in_is : (w : List ℕ) (gs : List Tag) (g : Tag) → tag_in w gs ≡ Some g → tag_word g ≡ w
tag_in_is w [] g h = cc
tag_in_is w (k ∷ gs) g h = elim (cases_Bool (bytes_eq (tag_word k) w)) [
  | inl i ↦ subst (λ z. tag_word z ≡ w) (some_of (chosen_true (bytes_eq (tag_word k) w) (Some k) (tag_in w gs) (Some g) h i)) (word_is (tag_word k) w i)
  | inr i ↦ tag_in_is w gs g (chosen_false (bytes_eq (tag_word k) w) (Some k) (tag_in w gs) (Some g) h i)
]

form_tag : (g : Tag) → is_form g ≡ true → g ≡ tag.Form
form_tag tag.Form h = refl
form_tag _ h = cc

element_made : (g : Tag) (q : Place) → is_form g ≡ false → element_node g q ≡ node.element g q
element_made tag.Form q h = cc
element_made _ q h = refl

form_place : (p q : Place) → in_body_only p ≡ Some q → in_body_only p ≡ Some in_form
form_place in_body q h = refl
form_place _ q h = cc

in_form_is : (p : Place) → is_in_form p ≡ true → p ≡ in_form
in_form_is in_form h = refl
in_form_is _ h = cc

no_value : (attrs : List Attr) → are_named [] attrs ≡ true → value_of value_word attrs ≡ None
no_value [] h = refl
no_value (a ∷ rest) h = cc

may_stand : (b : Bool) (attrs : List Attr) → are_named (if b then value_word ∷ [] else []) attrs ≡ true → MayStand b (value_of value_word attrs)
may_stand true attrs h = tt
may_stand false attrs h = no_value attrs h

-- ---- tags

element_by : (p : Place) (w : List ℕ) (bare : Bool) (f : TagField) (attrs : List Attr) (g : Tag) (n : Node) → tag_word g ≡ w → element_at p f attrs g ≡ Some n → NodeIs p w bare n
element_by p w bare f attrs g n ew h =
    let a : (is_plain f attrs ≡ true) × (option_map (element_node g) (inside p g) ≡ Some n) = opened_if (is_plain f attrs) (option_map (element_node g) (inside p g)) n h in
    let q : (q : Place) × (inside p g ≡ Some q) × (element_node g q ≡ n) = mapped (element_node g) (inside p g) n a.1 in
    elim (cases_Bool (is_form g)) [
      | inl i ↦ of_form (form_tag g i) q.0 q.1 q.2
      | inr i ↦ subst (NodeIs p w bare) (sym (element_made g q.0 i) ∙ q.2) (element_is ew i q.1)
    ] where
      of_form : g ≡ tag.Form → (q : Place) → inside p g ≡ Some q → element_node g q ≡ n → NodeIs p w bare n
      of_form i q eq en =
          let ep : inside p tag.Form ≡ Some q = subst (λ z. inside p z ≡ Some q) i eq in
          subst (NodeIs p w bare) (subst (λ z. element_node z q ≡ n) i en) (form_is (subst (λ z. tag_word z ≡ w) i ew) (form_place p q ep))

link_by : (p : Place) (w : List ℕ) (bare : Bool) (f : TagField) (attrs : List Attr) (n : Node) → w ≡ codes "a" → link_at p f attrs ≡ Some n → NodeIs p w bare n
link_by p w bare f attrs n ew h =
    let a : (may_link p f attrs ≡ true) × (option_map node.link (expression_at link_word attrs) ≡ Some n) = opened_if (may_link p f attrs) (option_map node.link (expression_at link_word attrs)) n h in
    let b : (is_flow p ≡ true) × ((is_bare f && are_named (link_word ∷ []) attrs) ≡ true) = both_true (is_flow p) (is_bare f && are_named (link_word ∷ []) attrs) a.0 in
    let c : (i : ℕ) × (expression_at link_word attrs ≡ Some i) × (node.link i ≡ n) = mapped node.link (expression_at link_word attrs) n a.1 in
    subst (NodeIs p w bare) c.2 (link_is b.0 ew)

abbrev an_input : FieldKind → List Attr → Label → Node
an_input k attrs x = node.input k x (value_of value_word attrs)

abbrev a_submit : List Attr → ℕ → Node
a_submit attrs n = node.submit n (value_of value_word attrs)

leaf_by : (l : Option Label) (p : Place) (t : WrittenTag) (attrs : List Attr) (n : Node) (k : Option FieldKind) → field_of t.word ≡ k → leaf_at l p t attrs k ≡ Some n → NodeIs p t.word true n
leaf_by l p t attrs n (Some k) ek h =
    let a : (may_input p k attrs ≡ true) × (option_map (an_input k attrs) l ≡ Some n) = opened_if (may_input p k attrs) (option_map (an_input k attrs) l) n h in
    let b : (holds_fields p ≡ true) × (are_named (field_attributes k) attrs ≡ true) = both_true (holds_fields p) (are_named (field_attributes k) attrs) a.0 in
    let c : (x : Label) × (l ≡ Some x) × (an_input k attrs x ≡ n) = mapped (an_input k attrs) l n a.1 in
    subst (NodeIs p t.word true) c.2 (input_is refl b.0 ek (may_stand (may_have_value k) attrs b.1))
leaf_by l p t attrs n None ek h =
    let a : (bytes_eq t.word (codes "submit") ≡ true) × (submit_at p t.field attrs ≡ Some n) = opened_if (bytes_eq t.word (codes "submit")) (submit_at p t.field attrs) n h in
    let b : (may_submit p t.field attrs ≡ true) × (option_map (a_submit attrs) (expression_at action_word attrs) ≡ Some n) = opened_if (may_submit p t.field attrs) (option_map (a_submit attrs) (expression_at action_word attrs)) n a.1 in
    let c : (is_in_form p ≡ true) × ((is_bare t.field && are_named (action_word ∷ value_word ∷ []) attrs) ≡ true) = both_true (is_in_form p) (is_bare t.field && are_named (action_word ∷ value_word ∷ []) attrs) b.0 in
    let i : (i : ℕ) × (expression_at action_word attrs ≡ Some i) × (a_submit attrs i ≡ n) = mapped (a_submit attrs) (expression_at action_word attrs) n b.1 in
    subst (NodeIs p t.word true) i.2 (submit_is refl (in_form_is p c.0) (word_is t.word (codes "submit") a.0))

other_by : (l : Option Label) (p : Place) (t : WrittenTag) (attrs : List Attr) (bare : Bool) (n : Node) → (if bytes_eq t.word (codes "a") then link_at p t.field attrs else if_so bare (leaf_at l p t attrs (field_of t.word))) ≡ Some n → NodeIs p t.word bare n
other_by l p t attrs bare n h = elim (cases_Bool (bytes_eq t.word (codes "a"))) [
  | inl i ↦ link_by p t.word bare t.field attrs n (word_is t.word (codes "a") i) (chosen_true (bytes_eq t.word (codes "a")) (link_at p t.field attrs) (if_so bare (leaf_at l p t attrs (field_of t.word))) (Some n) h i)
  | inr i ↦
      let a : (bare ≡ true) × (leaf_at l p t attrs (field_of t.word) ≡ Some n) = opened_if bare (leaf_at l p t attrs (field_of t.word)) n (chosen_false (bytes_eq t.word (codes "a")) (link_at p t.field attrs) (if_so bare (leaf_at l p t attrs (field_of t.word))) (Some n) h i) in
      subst (λ z. NodeIs p t.word z n) (sym a.0) (leaf_by l p t attrs n (field_of t.word) refl a.1)
]

tag_by : (l : Option Label) (p : Place) (t : WrittenTag) (attrs : List Attr) (bare : Bool) (n : Node) (g : Option Tag) → tag_of t.word ≡ g → node_by l p t attrs bare g ≡ Some n → NodeIs p t.word bare n
tag_by l p t attrs bare n (Some g) eg h = element_by p t.word bare t.field attrs g n (tag_in_is t.word all_tags g eg) h
tag_by l p t attrs bare n None eg h = other_by l p t attrs bare n h

pub node_is : (known : Known) (p : Place) (t : WrittenTag) (attrs : List Attr) (bare : Bool) (n : Node) → node_at known p t attrs bare ≡ Some n → NodeIs p t.word bare n
node_is known p t attrs bare n h =
    let a : (is_none (repeated attrs) ≡ true) × (node_by (label_at known t.field) p t attrs bare (tag_of t.word) ≡ Some n) = opened_if (is_none (repeated attrs)) (node_by (label_at known t.field) p t attrs bare (tag_of t.word)) n h in
    tag_by (label_at known t.field) p t attrs bare n (tag_of t.word) refl a.1

-- ---- the sort that a first element gives

sort_of_tag_word : (g : Tag) → or_body (sort_of_word (tag_word g)) ≡ sort_of_tag g
sort_of_tag_word tag.Head = refl
sort_of_tag_word tag.Title = refl
sort_of_tag_word tag.Body = refl
sort_of_tag_word tag.P = refl
sort_of_tag_word tag.Div = refl
sort_of_tag_word tag.Span = refl
sort_of_tag_word tag.B = refl
sort_of_tag_word tag.I = refl
sort_of_tag_word tag.Em = refl
sort_of_tag_word tag.Strong = refl
sort_of_tag_word tag.H1 = refl
sort_of_tag_word tag.H2 = refl
sort_of_tag_word tag.H3 = refl
sort_of_tag_word tag.H4 = refl
sort_of_tag_word tag.Ul = refl
sort_of_tag_word tag.Ol = refl
sort_of_tag_word tag.Li = refl
sort_of_tag_word tag.Pre = refl
sort_of_tag_word tag.Code = refl
sort_of_tag_word tag.Br = refl
sort_of_tag_word tag.Hr = refl
sort_of_tag_word tag.Table = refl
sort_of_tag_word tag.Tr = refl
sort_of_tag_word tag.Td = refl
sort_of_tag_word tag.Th = refl
sort_of_tag_word tag.Form = refl

pub tag_sort : (g : Tag) (w : List ℕ) → tag_word g ≡ w → or_body (sort_of_word w) ≡ sort_of_tag g
tag_sort g w h = subst (λ z. or_body (sort_of_word z) ≡ sort_of_tag g) h (sort_of_tag_word g)

pub link_sort : (w : List ℕ) → w ≡ codes "a" → or_body (sort_of_word w) ≡ body
link_sort w h = subst (λ z. or_body (sort_of_word z) ≡ body) (sym h) refl

pub submit_sort : (w : List ℕ) → w ≡ codes "submit" → or_body (sort_of_word w) ≡ body
submit_sort w h = subst (λ z. or_body (sort_of_word z) ≡ body) (sym h) refl

pub field_sort : (w : List ℕ) (k : FieldKind) → field_of w ≡ Some k → or_body (sort_of_word w) ≡ fields
field_sort w k h = elim (cases_Bool (bytes_eq w (codes "textbox"))) [
  | inl i ↦ subst (λ z. or_body (sort_of_word z) ≡ fields) (sym (word_is w (codes "textbox") i)) refl
  | inr i ↦ elim (cases_Bool (bytes_eq w (codes "password"))) [
    | inl j ↦ subst (λ z. or_body (sort_of_word z) ≡ fields) (sym (word_is w (codes "password") j)) refl
    | inr j ↦ elim (cases_Bool (bytes_eq w (codes "textarea"))) [
      | inl l ↦ subst (λ z. or_body (sort_of_word z) ≡ fields) (sym (word_is w (codes "textarea") l)) refl
      | inr l ↦ elim (cases_Bool (bytes_eq w (codes "checkbox"))) [
        | inl m ↦ subst (λ z. or_body (sort_of_word z) ≡ fields) (sym (word_is w (codes "checkbox") m)) refl
        | inr m ↦ let e : ◌≡◌ {A = Option FieldKind} None (Some k) = chosen_false (bytes_eq w (codes "checkbox")) (Some field_kind.Checkbox) None (Some k) (chosen_false (bytes_eq w (codes "textarea")) (Some field_kind.Textarea) _ (Some k) (chosen_false (bytes_eq w (codes "password")) (Some field_kind.Password) _ (Some k) (chosen_false (bytes_eq w (codes "textbox")) (Some field_kind.Textbox) _ (Some k) h i) j) l) m in cc
      ]
    ]
  ]
]

-- ---- where fields and buttons may not stand

page_only : (p r q : Place) → in_page_only p r ≡ Some q → r ≡ q
page_only in_page r q h = some_of h
page_only _ r q h = cc

head_only : (p q : Place) → in_head_only p ≡ Some q → in_title ≡ q
head_only in_head q h = some_of h
head_only _ q h = cc

table_only : (p q : Place) → in_table_only p ≡ Some q → in_row ≡ q
table_only in_table q h = some_of h
table_only _ q h = cc

row_only : (p q : Place) → in_row_only p ≡ Some q → in_body ≡ q
row_only in_row q h = some_of h
row_only _ q h = cc

flow_only : (p r q : Place) → if_flow p r ≡ Some q → r ≡ q
flow_only p r q h = by_flow (is_flow p) h where
  by_flow : (b : Bool) → (if b then Some r else None) ≡ Some q → r ≡ q
  by_flow true g = some_of g
  by_flow false g = cc

-- an element but a form holds what stands around it, or neither fields nor buttons
pub inside_keeps : (test : Place → Bool) → test in_head ≡ false → test in_title ≡ false → test in_body ≡ false → test in_table ≡ false → test in_row ≡ false → test in_nothing ≡ false → (p : Place) (g : Tag) (q : Place) → is_form g ≡ false → inside p g ≡ Some q → test p ≡ false → test q ≡ false
inside_keeps test a b c d e n p tag.Head q i h t = subst (λ z. test z ≡ false) (page_only p in_head q h) a
inside_keeps test a b c d e n p tag.Title q i h t = subst (λ z. test z ≡ false) (head_only p q h) b
inside_keeps test a b c d e n p tag.Body q i h t = subst (λ z. test z ≡ false) (page_only p in_body q h) c
inside_keeps test a b c d e n p tag.Br q i h t = subst (λ z. test z ≡ false) (flow_only p in_nothing q h) n
inside_keeps test a b c d e n p tag.Hr q i h t = subst (λ z. test z ≡ false) (flow_only p in_nothing q h) n
inside_keeps test a b c d e n p tag.Table q i h t = subst (λ z. test z ≡ false) (flow_only p in_table q h) d
inside_keeps test a b c d e n p tag.Tr q i h t = subst (λ z. test z ≡ false) (table_only p q h) e
inside_keeps test a b c d e n p tag.Td q i h t = subst (λ z. test z ≡ false) (row_only p q h) c
inside_keeps test a b c d e n p tag.Th q i h t = subst (λ z. test z ≡ false) (row_only p q h) c
inside_keeps test a b c d e n p tag.Form q i h t = cc
inside_keeps test a b c d e n p _ q i h t = subst (λ z. test z ≡ false) (flow_only p p q h) t
