-- The rules of declarations, modules and signatures.
use Rattle.std.specs.Prelude.{List, [], ◌∷◌, codes, map, Some, None}
use Rattle.ur_base.specs.declared.refusal.Span.{Span}
use Rattle.ur_lex.specs.declared.token.Keyword.TheVariants as keyword
use Rattle.ur_lex.specs.declared.token.Symbol.TheVariants as symbol
use Rattle.ur_lex.specs.declared.token.TokenKind.TheVariants as token
use Rattle.ur_lex.specs.Spelling.{Text}
use Rattle.ur_syntax.specs.declared.decl.Decl.{Decl}
use Rattle.ur_syntax.specs.declared.decl.DeclForm.{DeclForm}
use Rattle.ur_syntax.specs.declared.decl.DeclForm.TheVariants as form
use Rattle.ur_syntax.specs.declared.decl.Constraint.{Constraint}
use Rattle.ur_parse_rules.specs.declared.parse_rules_place.ConPlace.TheVariants as places
use Rattle.ur_parse_rules.specs.Rules.{name, Rule}
use Rattle.ur_parse_rules.specs.Places.{any}
use Rattle.ur_parse_rules.specs.Words.{is_field}
use Rattle.ur_parse_rules.specs.ConParts as c
use Rattle.ur_parse_rules.specs.ExpParts as e
use Rattle.ur_parse_rules.specs.DeclParts.{DeclPart, whole, decls, decl, variant, variant_con, more_variants, keys, key_column, key_columns, more_columns, after_comma, columns_end, more_constraints, constraint_head, constraint_name, definition, more_definitions, con_params, params, signature, val_decls, val_decl}
use Rattle.ur_parse_rules.specs.Parts.{Tree, DeclTree, Named, KeyColumns, Keys}
use Rattle.ur_parse_rules.specs.Forms.{rule, spanned, symbol_mark, keyword_mark, capital, con_slot, exp_slot, decl_slot, up_to}

abbrev pub declared : Span → DeclForm → Decl
declared span f = record { span = span; form = f }

abbrev pub no_keys : Keys
no_keys = record { primary = None; constraints = [] }

-- a constraint goes from its first word to the end of its columns
abbrev pub constraint_of : Named → KeyColumns → Constraint
constraint_of head k = record { span = up_to head.span k.end; name = head.text; columns = k.columns }

-- it and those behind it
abbrev pub constraints_of : Named → KeyColumns → List Constraint
constraints_of head k = constraint_of head k ∷ k.constraints

-- where columns end
abbrev pub end_of : Named → List Named → Span
end_of a [] = a.span
end_of a (b ∷ bs) = end_of b bs

abbrev pub text_of : Named → Text
text_of a = a.text

abbrev pub decl_rules : (p : DeclPart) → List (Rule Tree (DeclTree p))
decl_rules whole = rule (decl_slot decls ∷ []) (λ (ds, _). record { decls = ds }) ∷ []
decl_rules decls =
    rule [] (λ _. []) ∷
    rule (decl_slot decl ∷ decl_slot decls ∷ []) (λ (d, (ds, _)). d ∷ ds) ∷ []
decl_rules decl =
    spanned (keyword_mark keyword.Con ∷ name token.Lower any ∷ symbol_mark symbol.DoubleColon ∷ con_slot c.kind ∷ symbol_mark symbol.Eq ∷ con_slot (c.con places.Plain) ∷ []) (λ span (x, (k, (t, _))). declared span (form.Con x k t)) ∷
    spanned (keyword_mark keyword.Type ∷ name token.Lower any ∷ symbol_mark symbol.Eq ∷ con_slot (c.con places.Plain) ∷ []) (λ span (x, (t, _)). declared span (form.Type x t)) ∷
    spanned (keyword_mark keyword.Datatype ∷ name token.Lower any ∷ symbol_mark symbol.Eq ∷ decl_slot variant ∷ decl_slot more_variants ∷ []) (λ span (x, (v, (vs, _))). declared span (form.Datatype x (v ∷ vs))) ∷
    spanned (keyword_mark keyword.Table ∷ name token.Lower any ∷ symbol_mark symbol.Colon ∷ con_slot (c.con places.BeforeKeys) ∷ decl_slot keys ∷ []) (λ span (x, (t, (k, _))). declared span (form.Table x t k.primary k.constraints)) ∷
    spanned (keyword_mark keyword.Sequence ∷ name token.Lower any ∷ []) (λ span (x, _). declared span (form.Sequence x)) ∷
    spanned (keyword_mark keyword.Cookie ∷ name token.Lower any ∷ symbol_mark symbol.Colon ∷ con_slot (c.con places.Plain) ∷ []) (λ span (x, (t, _)). declared span (form.Cookie x t)) ∷
    spanned (keyword_mark keyword.Val ∷ name token.Lower any ∷ symbol_mark symbol.Colon ∷ con_slot (c.con places.Plain) ∷ symbol_mark symbol.Eq ∷ exp_slot e.exp ∷ []) (λ span (x, (t, (a, _))). declared span (form.Val x t a.exp)) ∷
    spanned (keyword_mark keyword.Fun ∷ decl_slot definition ∷ decl_slot more_definitions ∷ []) (λ span (f, (fs, _)). declared span (form.Fun (f ∷ fs))) ∷ []
decl_rules variant = spanned (name token.Upper any ∷ decl_slot variant_con ∷ []) (λ span (x, (t, _)). record { span = span; name = x; con = t }) ∷ []
decl_rules variant_con =
    rule [] (λ _. None) ∷
    rule (keyword_mark keyword.Of ∷ con_slot (c.con places.Plain) ∷ []) (λ (t, _). Some t) ∷ []
decl_rules more_variants =
    rule [] (λ _. []) ∷
    rule (symbol_mark symbol.Bar ∷ decl_slot variant ∷ decl_slot more_variants ∷ []) (λ (v, (vs, _)). v ∷ vs) ∷ []
decl_rules keys =
    rule [] (λ _. no_keys) ∷
    rule (capital (codes "PRIMARY") ∷ capital (codes "KEY") ∷ decl_slot key_columns ∷ []) (λ (k, _). record { primary = Some k.columns; constraints = k.constraints }) ∷
    rule (decl_slot constraint_head ∷ decl_slot key_columns ∷ []) (λ (h, (k, _)). record { primary = None; constraints = constraints_of h k }) ∷ []
decl_rules key_column = spanned (name token.Upper is_field ∷ []) (λ span (x, _). record { span = span; text = x }) ∷ []
decl_rules key_columns =
    rule (decl_slot key_column ∷ decl_slot more_columns ∷ []) (λ (x, (m, _)). record { columns = x.text ∷ map text_of m.columns; end = end_of x m.columns; constraints = m.constraints }) ∷
    rule (symbol_mark symbol.LParen ∷ name token.Upper is_field ∷ decl_slot columns_end ∷ decl_slot more_constraints ∷ []) (λ (x, (m, (cs, _))). record { columns = x ∷ m.columns; end = m.end; constraints = cs }) ∷ []
decl_rules more_columns =
    rule [] (λ _. record { columns = []; constraints = [] }) ∷
    rule (symbol_mark symbol.Comma ∷ decl_slot after_comma ∷ []) (λ (m, _). m) ∷ []
decl_rules after_comma =
    rule (decl_slot key_column ∷ decl_slot more_columns ∷ []) (λ (x, (m, _)). record { columns = x ∷ m.columns; constraints = m.constraints }) ∷
    rule (decl_slot constraint_head ∷ decl_slot key_columns ∷ []) (λ (h, (k, _)). record { columns = []; constraints = constraints_of h k }) ∷ []
decl_rules columns_end =
    spanned (symbol_mark symbol.RParen ∷ []) (λ span _. record { columns = []; end = span }) ∷
    rule (symbol_mark symbol.Comma ∷ name token.Upper is_field ∷ decl_slot columns_end ∷ []) (λ (x, (m, _)). record { columns = x ∷ m.columns; end = m.end }) ∷ []
decl_rules more_constraints =
    rule [] (λ _. []) ∷
    rule (symbol_mark symbol.Comma ∷ decl_slot constraint_head ∷ decl_slot key_columns ∷ []) (λ (h, (k, _)). constraints_of h k) ∷ []
decl_rules constraint_head = spanned (capital (codes "CONSTRAINT") ∷ decl_slot constraint_name ∷ capital (codes "UNIQUE") ∷ []) (λ span (x, _). record { span = span; text = x }) ∷ []
decl_rules constraint_name =
    rule (name token.Lower any ∷ []) (λ (x, _). x) ∷
    rule (name token.Upper any ∷ []) (λ (x, _). x) ∷ []
decl_rules definition =
    spanned (name token.Lower any ∷ decl_slot con_params ∷ decl_slot params ∷ symbol_mark symbol.Colon ∷ con_slot (c.con places.Plain) ∷ symbol_mark symbol.Eq ∷ exp_slot e.exp ∷ [])
    (λ span (x, (qs, (ps, (t, (a, _))))). record { span = span; name = x; con_params = qs; params = ps; result = t; body = a.exp }) ∷ []
decl_rules more_definitions =
    rule [] (λ _. []) ∷
    rule (keyword_mark keyword.And ∷ decl_slot definition ∷ decl_slot more_definitions ∷ []) (λ (f, (fs, _)). f ∷ fs) ∷ []
decl_rules con_params =
    rule [] (λ _. []) ∷
    rule (con_slot c.con_param ∷ decl_slot con_params ∷ []) (λ (q, (qs, _)). q ∷ qs) ∷ []
decl_rules params =
    rule [] (λ _. []) ∷
    rule (exp_slot e.param ∷ decl_slot params ∷ []) (λ (p, (ps, _)). p ∷ ps) ∷ []
decl_rules signature = rule (decl_slot val_decls ∷ []) (λ (vs, _). record { vals = vs }) ∷ []
decl_rules val_decls =
    rule [] (λ _. []) ∷
    rule (decl_slot val_decl ∷ decl_slot val_decls ∷ []) (λ (v, (vs, _)). v ∷ vs) ∷ []
decl_rules val_decl = spanned (keyword_mark keyword.Val ∷ name token.Lower any ∷ symbol_mark symbol.Colon ∷ con_slot (c.con places.Plain) ∷ []) (λ span (x, (t, _)). record { span = span; name = x; con = t }) ∷ []
