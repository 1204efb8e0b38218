-- The rules of XML with raw code and with expressions, one beside the other.
use Rattle.std.specs.Prelude.{◌≡◌, ℕ, ◌+◌, Bool, List, [], ◌∷◌, Option, Some, None, refl}
use Rattle.std.specs.Str.{bytes_eq}
use Rattle.std.proofs.Common.{ap, subst, ◌∙◌}
use Rattle.ur_base.specs.declared.refusal.Span.{Span}
use Rattle.ur_lex.specs.declared.token.Symbol.TheVariants as symbol
use Rattle.ur_lex.specs.declared.token.TokenKind.TheVariants as token
use Rattle.ur_syntax.specs.declared.exp.Exp.{Exp}
use Rattle.ur_syntax.specs.declared.xml.XmlForm.TheVariants as form
use Rattle.ur_syntax.specs.declared.xml.Tag.{Tag}
use Rattle.ur_syntax.specs.declared.xml.TagField.TheVariants as tag_fields
use Rattle.ur_syntax.specs.declared.xml.Attr.{Attr}
use Rattle.ur_syntax.specs.declared.xml.AttrValue.TheVariants as attr_values
use Rattle.ur_parse_rules.specs.Rules.{Slot, name, one}
use Rattle.ur_parse_rules.specs.Places.{any}
use Rattle.ur_parse_rules.specs.Words.{is_field}
use Rattle.ur_parse_rules.specs.Quoted.{expressions, raw, Raw, Quoted, mapped, both, cons, deeper}
use Rattle.ur_parse_rules.specs.SqlParts as s
use Rattle.ur_parse_rules.specs.XmlParts as x
use Rattle.ur_parse_rules.specs.Parts.{Inside}
use Rattle.ur_parse_rules.specs.Markup.{xml_rules, literal_of, splice, show, element_of, inner, closes, attr_of}
use Rattle.ur_parse_embed_code.specs.Filled.{Fills, AllKnown}
use Rattle.ur_parse_embed_code.proofs.Filling.{plain_fills, plain_same, antiquote_fills, attribute_fills, mapped_fills, both_fills, deeper_fills, deeper_known, first_known, second_known}
use Rattle.ur_parse_embed_code.proofs.Twins.{Twin, xml, code, InsideTwin, InsideKnown, twin, AllTwin}
use Rattle.ur_parse_embed_code.proofs.SqlTwins.{sub, sign}

abbrev part : x.XmlPart → Slot Twin
part p = one (xml p)

inner_fills : (n : ℕ) (i : Option (Inside Raw)) (j : Option (Inside Exp)) → InsideTwin n i j → Fills n (inner i) (inner j)
inner_fills n None None h = plain_fills n []
inner_fills n None (Some j) h = elim h [ ]
inner_fills n (Some i) None h = elim h [ ]
inner_fills n (Some i) (Some j) h = h.0

inner_known : (may : Bool) (n : ℕ) (i : Option (Inside Raw)) → AllKnown may n (inner i) → InsideKnown may n i
inner_known may n None k = tt
inner_known may n (Some i) k = k

closes_same : (n : ℕ) (t u : Tag) (i : Option (Inside Raw)) (j : Option (Inside Exp)) → t ≡ u → InsideTwin n i j → closes t i ≡ closes u j
closes_same n t u None None e h = refl
closes_same n t u None (Some j) e h = elim h [ ]
closes_same n t u (Some i) None e h = elim h [ ]
closes_same n t u (Some i) (Some j) e h = ap (λ (z : Tag). bytes_eq z.word i.closing.word) e ∙ ap (λ (z : Tag). bytes_eq u.word z.word) h.1

element_fills : (n : ℕ) (span : Span) (t u : Tag) (as_ : Quoted Raw (List Attr)) (bs : Quoted Exp (List Attr)) (i : Option (Inside Raw)) (j : Option (Inside Exp)) → t ≡ u → Fills n as_ bs → InsideTwin n i j →
    Fills (1 + n) (deeper raw (both (element_of span t) as_ (inner i))) (deeper expressions (both (element_of span u) bs (inner j)))
element_fills n span t u as_ bs i j e h k =
    subst (λ z. Fills (1 + n) (deeper raw (both (element_of span t) as_ (inner i))) (deeper expressions (both (element_of span z) bs (inner j)))) e
    (deeper_fills n (both_fills n (element_of span t) h (inner_fills n i j k)))

element_known : (may : Bool) (n : ℕ) (span : Span) (t : Tag) (as_ : Quoted Raw (List Attr)) (i : Option (Inside Raw)) → AllKnown may (1 + n) (deeper raw (both (element_of span t) as_ (inner i))) → AllKnown may n as_ × InsideKnown may n i
element_known may n span t as_ i k =
    let l = deeper_known n may (both (element_of span t) as_ (inner i)) k in
    (first_known n may (element_of span t) as_ (inner i) l, inner_known may n i (second_known n may (element_of span t) as_ (inner i) l))

pub xml_twins : (p : x.XmlPart) → AllTwin (xml p) (xml_rules raw p) (xml_rules expressions p)
xml_twins x.literal = (
  twin (sign symbol.XmlOpen ∷ part x.parts ∷ sign symbol.XmlClose ∷ []) refl refl (λ n v w h. refl) (λ n span v w h. mapped_fills n literal_of h.0) (λ may n span v k. (k, tt)),
  (
    twin (sign symbol.XmlEmpty ∷ []) refl refl (λ n v w h. refl) (λ n span v w h. plain_fills n _) (λ may n span v k. tt),
    tt,
  ),
)
xml_twins x.parts = (
  twin [] refl refl (λ n v w h. refl) (λ n span v w h. plain_fills n _) (λ may n span v k. tt),
  (
    twin (part x.one_part ∷ part x.parts ∷ []) refl refl (λ n v w h. refl) (λ n span v w h. both_fills n cons h.0 h.1.0)
        (λ may n span v k. (first_known n may cons v.0 v.1.0 k, (second_known n may cons v.0 v.1.0 k, tt))),
    tt,
  ),
)
xml_twins x.one_part = (
  twin (name token.XmlText any ∷ []) refl refl (λ n v w h. refl) (λ n span v w h. plain_same n (ap (λ z. record { span = span; form = form.Text z }) h.0)) (λ may n span v k. tt),
  (
    twin (sign symbol.LBrace ∷ one code ∷ sign symbol.RBrace ∷ []) refl refl (λ n v w h. refl) (λ n span v w h. mapped_fills n (splice span) (antiquote_fills n h.0)) (λ may n span v k. (k.0.0, tt)),
    (
      twin (sub s.anti ∷ []) refl refl (λ n v w h. refl) (λ n span v w h. mapped_fills n (show span) (antiquote_fills n h.0)) (λ may n span v k. (k.0.0, tt)),
      (
        twin (part x.element ∷ []) refl refl (λ n v w h. refl) (λ n span v w h. h.0) (λ may n span v k. (k, tt)),
        tt,
      ),
    ),
  ),
)
xml_twins x.element = (
  twin (sign symbol.Lt ∷ part x.tag ∷ part x.attrs ∷ part x.element_end ∷ []) refl refl (λ n v w h. closes_same n v.0 w.0 v.1.1.0 w.1.1.0 h.0 h.1.1.0)
      (λ n span v w h. element_fills n span v.0 w.0 v.1.0 w.1.0 v.1.1.0 w.1.1.0 h.0 h.1.0 h.1.1.0)
      (λ may n span v k. let r = element_known may n span v.0 v.1.0 v.1.1.0 k in (tt, (r.0, (r.1, tt)))),
  tt,
)
xml_twins x.element_end = (
  twin (sign symbol.TagEmpty ∷ []) refl refl (λ n v w h. refl) (λ n span v w h. tt) (λ may n span v k. tt),
  (
    twin (sign symbol.Gt ∷ part x.parts ∷ sign symbol.TagClose ∷ part x.tag ∷ sign symbol.Gt ∷ []) refl refl (λ n v w h. refl) (λ n span v w h. (h.0, h.1.0)) (λ may n span v k. (k, (tt, tt))),
    tt,
  ),
)
xml_twins x.tag = (
  twin (name token.Word any ∷ part x.tag_field ∷ []) refl refl (λ n v w h. refl)
      (λ n span v w h. ap (λ z. record { word = z; field = v.1.0 }) h.0 ∙ ap (λ z. record { word = w.0; field = z }) h.1.0) (λ may n span v k. (tt, tt)),
  tt,
)
xml_twins x.tag_field = (
  twin [] refl refl (λ n v w h. refl) (λ n span v w h. refl) (λ may n span v k. tt),
  (
    twin (sign symbol.LBrace ∷ part x.tag_name ∷ sign symbol.RBrace ∷ []) refl refl (λ n v w h. refl) (λ n span v w h. h.0) (λ may n span v k. (tt, tt)),
    tt,
  ),
)
xml_twins x.tag_name = (
  twin (sign symbol.Hash ∷ name token.Upper is_field ∷ []) refl refl (λ n v w h. refl) (λ n span v w h. ap (λ z. tag_fields.Literal z) h.0) (λ may n span v k. tt),
  (
    twin (name token.Lower any ∷ []) refl refl (λ n v w h. refl) (λ n span v w h. ap (λ z. tag_fields.Variable z) h.0) (λ may n span v k. tt),
    tt,
  ),
)
xml_twins x.attrs = (
  twin [] refl refl (λ n v w h. refl) (λ n span v w h. plain_fills n _) (λ may n span v k. tt),
  (
    twin (part x.attr ∷ part x.attrs ∷ []) refl refl (λ n v w h. refl) (λ n span v w h. both_fills n cons h.0 h.1.0)
        (λ may n span v k. (first_known n may cons v.0 v.1.0 k, (second_known n may cons v.0 v.1.0 k, tt))),
    tt,
  ),
)
xml_twins x.attr = (
  twin (name token.Word any ∷ sign symbol.Eq ∷ part x.attr_value ∷ []) refl refl (λ n v w h. refl)
      (λ n span v w h. subst (λ z. Fills n (mapped (attr_of v.0) v.1.0) (mapped (attr_of z) w.1.0)) h.0 (mapped_fills n (attr_of v.0) h.1.0)) (λ may n span v k. (k, tt)),
  tt,
)
xml_twins x.attr_value = (
  twin (name token.Str any ∷ []) refl refl (λ n v w h. refl) (λ n span v w h. plain_same n (ap (λ z. attr_values.Text z) h.0)) (λ may n span v k. tt),
  (
    twin (sign symbol.LBrace ∷ one code ∷ sign symbol.RBrace ∷ []) refl refl (λ n v w h. refl) (λ n span v w h. mapped_fills n (λ z. attr_values.Exp z) (attribute_fills n h.0)) (λ may n span v k. (k.1.0, tt)),
    tt,
  ),
)
