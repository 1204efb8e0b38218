-- Parts of SQL and XML that stand twice in the grammar, and what their two trees have to do with each other.
use Rattle.std.specs.Prelude.{◌≡◌, ℕ, ◌+◌, Bool, List, [], ◌∷◌, Option, Some, None}
use Rattle.std.specs.List.{AllZip, AllByRecursion}
use Rattle.ur_base.specs.declared.refusal.Span.{Span}
use Rattle.ur_syntax.specs.declared.exp.Exp.{Exp}
use Rattle.ur_parse_rules.specs.Rules.{Slot, mark, word, name, number, among, one, Values, Rule}
use Rattle.ur_parse_rules.specs.Quoted.{Quoting, expressions, raw, Raw}
use Rattle.ur_parse_rules.specs.SqlParts as s
use Rattle.ur_parse_rules.specs.XmlParts as x
use Rattle.ur_parse_rules.specs.Parts.{Part, Tree, SqlTree, XmlTree, of_sql, of_xml, of_quote, SqlRight, compared, null, SqlStep, Inside}
use Rattle.ur_parse_embed_code.specs.Filled.{Filled, Fills, Known, AllKnown}

pub data Twin : Type 0 where
  sql : s.SqlPart → Twin
  xml : x.XmlPart → Twin
  code : Twin

abbrev pub at : Quoting → Twin → Part
at q (sql p) = of_sql q p
at q (xml p) = of_xml q p
at q code = of_quote q

-- n and what the part counts for nesting
abbrev pub sql_above : s.SqlPart → ℕ → ℕ
sql_above (s.sexp bare) n = 1 + n
sql_above _ n = n

abbrev pub xml_above : x.XmlPart → ℕ → ℕ
xml_above x.element n = 1 + n
xml_above _ n = n

abbrev pub above : Twin → ℕ → ℕ
above (sql p) n = sql_above p n
above (xml p) n = xml_above p n
above code n = n

abbrev pub slots_at : Quoting → List (Slot Twin) → List (Slot Part)
slots_at q [] = []
slots_at q (mark k ∷ slots) = mark k ∷ slots_at q slots
slots_at q (word k w ∷ slots) = word k w ∷ slots_at q slots
slots_at q (name k ok ∷ slots) = name k ok ∷ slots_at q slots
slots_at q (number ∷ slots) = number ∷ slots_at q slots
slots_at q (among ks ∷ slots) = among ks ∷ slots_at q slots
slots_at q (one i ∷ slots) = one (at q i) ∷ slots_at q slots

-- ---- the two trees of a part

abbrev pub StepTwin : ℕ → SqlStep Raw → SqlStep Exp → Type 0
StepTwin n a b = (a.span ≡ b.span) × (a.op ≡ b.op) × Fills n a.right b.right

abbrev pub RightTwin : ℕ → Option (SqlRight Raw) → Option (SqlRight Exp) → Type 0
RightTwin n None None = Unit {0}
RightTwin n (Some (compared o a)) (Some (compared u b)) = (o ≡ u) × Fills n a b
RightTwin n (Some (null a)) (Some (null b)) = a ≡ b
RightTwin n _ _ = ⊥

abbrev pub InsideTwin : ℕ → Option (Inside Raw) → Option (Inside Exp) → Type 0
InsideTwin n None None = Unit {0}
InsideTwin n (Some a) (Some b) = Fills n a.parts b.parts × (a.closing ≡ b.closing)
InsideTwin n _ _ = ⊥

abbrev pub SqlTwin : (n : ℕ) (p : s.SqlPart) → SqlTree raw p → SqlTree expressions p → Type 0
SqlTwin n (s.sexp bare) a b = Fills n a b
SqlTwin n (s.left bare l) a b = Fills n a b
SqlTwin n (s.operand bare l) a b = Fills n a b
SqlTwin n (s.left_tail bare l) a b = AllZip (StepTwin n) a b
SqlTwin n (s.left_step bare l) a b = StepTwin n a b
SqlTwin n (s.negation bare) a b = Fills n a b
SqlTwin n (s.comparison bare) a b = Fills n a b
SqlTwin n (s.comparison_tail bare) a b = RightTwin n a b
SqlTwin n s.is_rest a b = a ≡ b
SqlTwin n (s.negative bare) a b = Fills n a b
SqlTwin n (s.atom bare) a b = Fills n a b
SqlTwin n (s.column bare) a b = a ≡ b
SqlTwin n s.qualifier a b = a ≡ b
SqlTwin n s.anti a b = Filled n a b
SqlTwin n s.name a b = a ≡ b
SqlTwin n s.query a b = Fills n a b
SqlTwin n s.selection a b = Fills n a b
SqlTwin n s.selected a b = Fills n a b
SqlTwin n s.more_selected a b = Fills n a b
SqlTwin n s.aggregate a b = Fills n a b
SqlTwin n s.item a b = a ≡ b
SqlTwin n s.alias a b = a ≡ b
SqlTwin n s.more_items a b = Fills n a b
SqlTwin n (s.filter bare) a b = Fills n a b
SqlTwin n s.group a b = a ≡ b
SqlTwin n s.more_columns a b = a ≡ b
SqlTwin n s.order a b = Fills n a b
SqlTwin n s.order_key a b = Fills n a b
SqlTwin n s.direction a b = a ≡ b
SqlTwin n s.more_keys a b = Fills n a b
SqlTwin n s.limit a b = Fills n a b
SqlTwin n s.offset a b = Fills n a b
SqlTwin n s.amount a b = Fills n a b
SqlTwin n s.change a b = Fills n a b
SqlTwin n s.columns_end a b = a ≡ b
SqlTwin n s.values_end a b = Fills n a b
SqlTwin n s.assignment a b = Fills n a b
SqlTwin n s.more_assignments a b = Fills n a b

abbrev pub XmlTwin : (n : ℕ) (p : x.XmlPart) → XmlTree raw p → XmlTree expressions p → Type 0
XmlTwin n x.literal a b = Fills n a b
XmlTwin n x.parts a b = Fills n a b
XmlTwin n x.one_part a b = Fills n a b
XmlTwin n x.element a b = Fills n a b
XmlTwin n x.element_end a b = InsideTwin n a b
XmlTwin n x.tag a b = a ≡ b
XmlTwin n x.tag_field a b = a ≡ b
XmlTwin n x.tag_name a b = a ≡ b
XmlTwin n x.attrs a b = Fills n a b
XmlTwin n x.attr a b = Fills n a b
XmlTwin n x.attr_value a b = Fills n a b

abbrev pub TwinTrees : (n : ℕ) (i : Twin) → Tree (at raw i) → Tree (at expressions i) → Type 0
TwinTrees n (sql p) a b = SqlTwin n p a b
TwinTrees n (xml p) a b = XmlTwin n p a b
TwinTrees n code a b = Filled n a b

-- ---- what is known of the raw code of a tree

abbrev pub RightKnown : Bool → ℕ → Option (SqlRight Raw) → Type 0
RightKnown may n None = Unit {0}
RightKnown may n (Some (compared o a)) = AllKnown may n a
RightKnown may n (Some (null a)) = Unit {0}

abbrev pub InsideKnown : Bool → ℕ → Option (Inside Raw) → Type 0
InsideKnown may n None = Unit {0}
InsideKnown may n (Some a) = AllKnown may n a.parts

abbrev pub SqlKnown : (may : Bool) (n : ℕ) (p : s.SqlPart) → SqlTree raw p → Type 0
SqlKnown may n (s.sexp bare) a = AllKnown may n a
SqlKnown may n (s.left bare l) a = AllKnown may n a
SqlKnown may n (s.operand bare l) a = AllKnown may n a
SqlKnown may n (s.left_tail bare l) a = AllByRecursion (λ (t : SqlStep Raw). AllKnown may n t.right) a
SqlKnown may n (s.left_step bare l) a = AllKnown may n a.right
SqlKnown may n (s.negation bare) a = AllKnown may n a
SqlKnown may n (s.comparison bare) a = AllKnown may n a
SqlKnown may n (s.comparison_tail bare) a = RightKnown may n a
SqlKnown may n s.is_rest a = Unit {0}
SqlKnown may n (s.negative bare) a = AllKnown may n a
SqlKnown may n (s.atom bare) a = AllKnown may n a
SqlKnown may n (s.column bare) a = Unit {0}
SqlKnown may n s.qualifier a = Unit {0}
SqlKnown may n s.anti a = Known may n a
SqlKnown may n s.name a = Unit {0}
SqlKnown may n s.query a = AllKnown may n a
SqlKnown may n s.selection a = AllKnown may n a
SqlKnown may n s.selected a = AllKnown may n a
SqlKnown may n s.more_selected a = AllKnown may n a
SqlKnown may n s.aggregate a = AllKnown may n a
SqlKnown may n s.item a = Unit {0}
SqlKnown may n s.alias a = Unit {0}
SqlKnown may n s.more_items a = AllKnown may n a
SqlKnown may n (s.filter bare) a = AllKnown may n a
SqlKnown may n s.group a = Unit {0}
SqlKnown may n s.more_columns a = Unit {0}
SqlKnown may n s.order a = AllKnown may n a
SqlKnown may n s.order_key a = AllKnown may n a
SqlKnown may n s.direction a = Unit {0}
SqlKnown may n s.more_keys a = AllKnown may n a
SqlKnown may n s.limit a = AllKnown may n a
SqlKnown may n s.offset a = AllKnown may n a
SqlKnown may n s.amount a = AllKnown may n a
SqlKnown may n s.change a = AllKnown may n a
SqlKnown may n s.columns_end a = Unit {0}
SqlKnown may n s.values_end a = AllKnown may n a
SqlKnown may n s.assignment a = AllKnown may n a
SqlKnown may n s.more_assignments a = AllKnown may n a

abbrev pub XmlKnown : (may : Bool) (n : ℕ) (p : x.XmlPart) → XmlTree raw p → Type 0
XmlKnown may n x.literal a = AllKnown may n a
XmlKnown may n x.parts a = AllKnown may n a
XmlKnown may n x.one_part a = AllKnown may n a
XmlKnown may n x.element a = AllKnown may n a
XmlKnown may n x.element_end a = InsideKnown may n a
XmlKnown may n x.tag a = Unit {0}
XmlKnown may n x.tag_field a = Unit {0}
XmlKnown may n x.tag_name a = Unit {0}
XmlKnown may n x.attrs a = AllKnown may n a
XmlKnown may n x.attr a = AllKnown may n a
XmlKnown may n x.attr_value a = AllKnown may n a

abbrev pub TreeKnown : (may : Bool) (n : ℕ) (i : Twin) → Tree (at raw i) → Type 0
TreeKnown may n (sql p) a = SqlKnown may n p a
TreeKnown may n (xml p) a = XmlKnown may n p a
TreeKnown may n code a = Known may n a

-- ---- what fills slots

abbrev pub TwinValues : (n : ℕ) (slots : List (Slot Twin)) → Values Tree (slots_at raw slots) → Values Tree (slots_at expressions slots) → Type 0
TwinValues n [] v w = Unit {0}
TwinValues n (mark k ∷ slots) v w = TwinValues n slots v w
TwinValues n (word k t ∷ slots) v w = TwinValues n slots v w
TwinValues n (name k ok ∷ slots) v w = (v.0 ≡ w.0) × TwinValues n slots v.1 w.1
TwinValues n (number ∷ slots) v w = (v.0 ≡ w.0) × TwinValues n slots v.1 w.1
TwinValues n (among ks ∷ slots) v w = (v.0 ≡ w.0) × TwinValues n slots v.1 w.1
TwinValues n (one i ∷ slots) v w = TwinTrees n i v.0 w.0 × TwinValues n slots v.1 w.1

abbrev pub KnownValues : (may : Bool) (n : ℕ) (slots : List (Slot Twin)) → Values Tree (slots_at raw slots) → Type 0
KnownValues may n [] v = Unit {0}
KnownValues may n (mark k ∷ slots) v = KnownValues may n slots v
KnownValues may n (word k t ∷ slots) v = KnownValues may n slots v
KnownValues may n (name k ok ∷ slots) v = KnownValues may n slots v.1
KnownValues may n (number ∷ slots) v = KnownValues may n slots v.1
KnownValues may n (among ks ∷ slots) v = KnownValues may n slots v.1
KnownValues may n (one i ∷ slots) v = TreeKnown may n i v.0 × KnownValues may n slots v.1

-- ---- rules

-- the rules of the two at one place
pub data RuleTwin (i : Twin) (r : Rule Tree (Tree (at raw i))) (t : Rule Tree (Tree (at expressions i))) : Type 0 where
  twin : (slots : List (Slot Twin)) {asks : Bool} {allows : Values Tree (slots_at raw slots) → Bool} {permits : Values Tree (slots_at expressions slots) → Bool}
      {build : Span → Values Tree (slots_at raw slots) → Tree (at raw i)} {make : Span → Values Tree (slots_at expressions slots) → Tree (at expressions i)} →
      r ≡ record { slots = slots_at raw slots; spanned = asks; allows = allows; build = build } →
      t ≡ record { slots = slots_at expressions slots; spanned = asks; allows = permits; build = make } →
      ((n : ℕ) (v : Values Tree (slots_at raw slots)) (w : Values Tree (slots_at expressions slots)) → TwinValues n slots v w → allows v ≡ permits w) →
      ((n : ℕ) (span : Span) (v : Values Tree (slots_at raw slots)) (w : Values Tree (slots_at expressions slots)) → TwinValues n slots v w → TwinTrees (above i n) i (build span v) (make span w)) →
      ((may : Bool) (n : ℕ) (span : Span) (v : Values Tree (slots_at raw slots)) → TreeKnown may (above i n) i (build span v) → KnownValues may n slots v) →
      RuleTwin i r t

abbrev pub AllTwin : (i : Twin) → List (Rule Tree (Tree (at raw i))) → List (Rule Tree (Tree (at expressions i))) → Type 0
AllTwin i [] [] = Unit {0}
AllTwin i (r ∷ rs) (t ∷ ts) = RuleTwin i r t × AllTwin i rs ts
AllTwin i _ _ = ⊥
