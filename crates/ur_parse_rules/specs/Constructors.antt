-- The rules of kinds and constructors.
use Rattle.std.specs.Prelude.{ℕ, Bool, true, false, ◌||◌, List, [], ◌∷◌, codes, Option, Some, None}
use Rattle.std.specs.List.{list_all}
use Rattle.ur_base.specs.declared.refusal.Span.{Span}
use Rattle.ur_lex.specs.declared.token.Keyword.TheVariants as keyword
use Rattle.ur_lex.specs.declared.token.Symbol.TheVariants as symbol
use Rattle.ur_lex.specs.declared.token.TokenKind.TheVariants as token
use Rattle.ur_syntax.specs.declared.kind.Kind.{Kind}
use Rattle.ur_syntax.specs.declared.kind.Kind.TheVariants as kinds
use Rattle.ur_syntax.specs.declared.con.FieldName.{FieldName}
use Rattle.ur_syntax.specs.declared.con.FieldName.TheVariants as names
use Rattle.ur_syntax.specs.declared.con.ConForm.{ConForm, ConForm-F, out-ConForm}
use Rattle.ur_syntax.specs.declared.con.ConForm.TheVariants as form
use Rattle.ur_syntax.specs.declared.con.Con.{Con}
use Rattle.ur_syntax.specs.declared.con.CField.{CField, CField-F, out-CField}
use Rattle.ur_syntax.specs.declared.con.CField.TheVariants as cfield
use Rattle.ur_syntax.specs.declared.con.RecordField.{RecordField}
use Rattle.ur_syntax.specs.declared.con.ConParam.TheVariants as con_params
use Rattle.ur_parse_rules.specs.declared.parse_rules_place.ConPlace.{ConPlace}
use Rattle.ur_parse_rules.specs.declared.parse_rules_place.ConPlace.TheVariants as places
use Rattle.ur_parse_rules.specs.Rules.{name, Rule}
use Rattle.ur_parse_rules.specs.Places.{any}
use Rattle.ur_parse_rules.specs.Words.{is_field, is_free}
use Rattle.ur_parse_rules.specs.ConParts.{ConPart, kind, kind_atom, kind_tail, con, arrow, arrow_tail, concat, concat_tail, app, args, arg, atom, field_name, row, row_field, row_value, row_tail, fields, record_field, fields_tail, con_param}
use Rattle.ur_parse_rules.specs.Parts.{Tree, ConTree, Arg}
use Rattle.ur_parse_rules.specs.Forms.{rule, spanned, symbol_mark, keyword_mark, capital, con_slot, up_to}

-- whether a table's keys may stand behind a constructor
abbrev pub keys_of : ConPlace → Bool
keys_of places.BeforeKeys = true
keys_of _ = false

-- the place of the body of a `fn`
abbrev pub within : ConPlace → ConPlace
within places.BeforeKeys = places.BeforeKeys
within _ = places.Plain

abbrev pub is_beside : ConPlace → Bool
is_beside places.Beside = true
is_beside _ = false

-- a field, looked into once
abbrev pub layer_has_con : CField-F CField ConForm Con RecordField → Bool
layer_has_con (CField-F.Bare x) = false
layer_has_con (CField-F.Given x c) = true

-- whether a field has its constructor
abbrev pub has_con : CField → Bool
has_con f = layer_has_con (out-CField f)

abbrev pub layer_whole : ConForm-F CField ConForm Con RecordField → Bool
layer_whole (ConForm-F.Row fs) = list_all has_con fs
layer_whole _ = true

-- whether a constructor is no row with a field that lacks its constructor
abbrev pub is_whole : Con → Bool
is_whole c = layer_whole (out-ConForm c.form)

-- a kind with what stands behind it
abbrev pub arrow_kind : Kind → Option Kind → Kind
arrow_kind a None = a
arrow_kind a (Some b) = kinds.Arrow a b

-- a constructor with what stands behind `->`, and behind `++`
abbrev pub arrow_of : Span → Con → Option Con → Con
arrow_of span a None = a
arrow_of span a (Some b) = record { span = span; form = form.Arrow a b }

abbrev pub concat_of : Span → Con → Option Con → Con
concat_of span a None = a
concat_of span a (Some b) = record { span = span; form = form.Concat a b }

-- a constructor applied to arguments, which groups to the left; each application ends with its argument
abbrev pub applied : Span → Con → List Arg → Con
applied begin f [] = f
applied begin f (x ∷ xs) = applied begin (record { span = up_to begin x.span; form = form.App f x.con }) xs

-- a field with its constructor, if it has one
abbrev pub field_of : FieldName → Option Con → CField
field_of x None = cfield.Bare x
field_of x (Some c) = cfield.Given x c

-- whether there is none, or the constructor before it is whole
abbrev pub may_have : {A : Type 0} → Con → Option A → Bool
may_have c None = true
may_have c (Some x) = is_whole c

abbrev pub may_take : {A : Type 0} → Con → List A → Bool
may_take c [] = true
may_take c (x ∷ xs) = is_whole c

abbrev pub con_rules : (p : ConPart) → List (Rule Tree (ConTree p))
con_rules kind = rule (con_slot kind_atom ∷ con_slot kind_tail ∷ []) (λ (a, (t, _)). arrow_kind a t) ∷ []
con_rules kind_tail =
    rule [] (λ _. None) ∷
    rule (symbol_mark symbol.Arrow ∷ con_slot kind ∷ []) (λ (k, _). Some k) ∷ []
con_rules kind_atom =
    rule (capital (codes "Type") ∷ []) (λ _. kinds.Star) ∷
    rule (capital (codes "Name") ∷ []) (λ _. kinds.Name) ∷
    rule (symbol_mark symbol.LBrace ∷ capital (codes "Type") ∷ symbol_mark symbol.RBrace ∷ []) (λ _. kinds.Row) ∷
    rule (symbol_mark symbol.LParen ∷ con_slot kind ∷ symbol_mark symbol.RParen ∷ []) (λ (k, _). k) ∷ []
con_rules (con place) =
    spanned (keyword_mark keyword.Fn ∷ name token.Lower any ∷ symbol_mark symbol.DoubleColon ∷ con_slot kind ∷ symbol_mark symbol.FatArrow ∷ con_slot (con (within place)) ∷ [])
    (λ span (x, (k, (c, _))). record { span = span; form = form.Lambda x k c }) ∷
    record { slots = con_slot (arrow (keys_of place)) ∷ []; spanned = false; allows = λ (c, _). is_beside place || is_whole c; build = λ _ (c, _). c } ∷ []
con_rules (arrow keys) =
    record { slots = con_slot (concat keys) ∷ con_slot (arrow_tail keys) ∷ []; spanned = true; allows = λ (a, (t, _)). may_have a t; build = λ span (a, (t, _)). arrow_of span a t } ∷ []
con_rules (arrow_tail keys) =
    rule [] (λ _. None) ∷
    record { slots = symbol_mark symbol.Arrow ∷ con_slot (arrow keys) ∷ []; spanned = false; allows = λ (c, _). is_whole c; build = λ _ (c, _). Some c } ∷ []
con_rules (concat keys) =
    record { slots = con_slot (app keys) ∷ con_slot (concat_tail keys) ∷ []; spanned = true; allows = λ (a, (t, _)). may_have a t; build = λ span (a, (t, _)). concat_of span a t } ∷ []
con_rules (concat_tail keys) =
    rule [] (λ _. None) ∷
    record { slots = symbol_mark symbol.DoublePlus ∷ con_slot (concat keys) ∷ []; spanned = false; allows = λ (c, _). is_whole c; build = λ _ (c, _). Some c } ∷ []
con_rules (app keys) =
    record { slots = con_slot (atom false) ∷ con_slot (args keys) ∷ []; spanned = true; allows = λ (f, (xs, _)). may_take f xs; build = λ span (f, (xs, _)). applied span f xs } ∷ []
con_rules (args keys) =
    rule [] (λ _. []) ∷
    rule (con_slot (arg keys) ∷ con_slot (args keys) ∷ []) (λ (x, (xs, _)). x ∷ xs) ∷ []
con_rules (arg keys) =
    record { slots = con_slot (atom keys) ∷ []; spanned = true; allows = λ (c, _). is_whole c; build = λ span (c, _). record { span = span; con = c } } ∷ []
con_rules (atom keys) =
    spanned (name token.Lower any ∷ []) (λ span (x, _). record { span = span; form = form.Var x }) ∷
    spanned (name token.Upper (is_free keys) ∷ symbol_mark symbol.Dot ∷ name token.Lower any ∷ []) (λ span (m, (x, _)). record { span = span; form = form.Member m x }) ∷
    spanned (symbol_mark symbol.Hash ∷ name token.Upper is_field ∷ []) (λ span (a, _). record { span = span; form = form.Name a }) ∷
    spanned (symbol_mark symbol.LBracket ∷ con_slot row ∷ []) (λ span (fs, _). record { span = span; form = form.Row fs }) ∷
    spanned (symbol_mark symbol.LBrace ∷ con_slot fields ∷ []) (λ span (fs, _). record { span = span; form = form.Record fs }) ∷
    record { slots = symbol_mark symbol.Dollar ∷ con_slot (atom false) ∷ []; spanned = true; allows = λ (c, _). is_whole c; build = λ span (c, _). record { span = span; form = form.RecordOf c } } ∷
    rule (symbol_mark symbol.LParen ∷ con_slot (con places.Plain) ∷ symbol_mark symbol.RParen ∷ []) (λ (c, _). c) ∷ []
con_rules field_name =
    rule (name token.Upper is_field ∷ []) (λ (a, _). names.Literal a) ∷
    rule (name token.Lower any ∷ []) (λ (x, _). names.Variable x) ∷ []
con_rules row =
    rule (symbol_mark symbol.RBracket ∷ []) (λ _. []) ∷
    rule (con_slot row_field ∷ con_slot row_tail ∷ []) (λ (f, (fs, _)). f ∷ fs) ∷ []
con_rules row_field = rule (con_slot field_name ∷ con_slot row_value ∷ []) (λ (x, (c, _)). field_of x c) ∷ []
con_rules row_value =
    rule [] (λ _. None) ∷
    rule (symbol_mark symbol.Eq ∷ con_slot (con places.Plain) ∷ []) (λ (c, _). Some c) ∷ []
con_rules row_tail =
    rule (symbol_mark symbol.RBracket ∷ []) (λ _. []) ∷
    rule (symbol_mark symbol.Comma ∷ con_slot row_field ∷ con_slot row_tail ∷ []) (λ (f, (fs, _)). f ∷ fs) ∷ []
con_rules fields =
    rule (symbol_mark symbol.RBrace ∷ []) (λ _. []) ∷
    rule (con_slot record_field ∷ con_slot fields_tail ∷ []) (λ (f, (fs, _)). f ∷ fs) ∷ []
con_rules record_field = rule (con_slot field_name ∷ symbol_mark symbol.Colon ∷ con_slot (con places.Plain) ∷ []) (λ (x, (c, _)). record { name = x; con = c }) ∷ []
con_rules fields_tail =
    rule (symbol_mark symbol.RBrace ∷ []) (λ _. []) ∷
    rule (symbol_mark symbol.Comma ∷ con_slot record_field ∷ con_slot fields_tail ∷ []) (λ (f, (fs, _)). f ∷ fs) ∷ []
con_rules con_param =
    rule (symbol_mark symbol.LBracket ∷ name token.Lower any ∷ symbol_mark symbol.DoubleColon ∷ con_slot kind ∷ symbol_mark symbol.RBracket ∷ []) (λ (x, (k, _)). con_params.Kinded x k) ∷
    rule (symbol_mark symbol.LBracket ∷ con_slot (con places.Beside) ∷ symbol_mark symbol.Tilde ∷ con_slot (con places.Beside) ∷ symbol_mark symbol.RBracket ∷ []) (λ (a, (b, _)). con_params.Disjoint a b) ∷ []

-- constructors count for nesting
abbrev pub con_cost : ConPart → ℕ
con_cost (con place) = 1
con_cost _ = 0
