-- The rules of SQL's expressions.
use Rattle.std.specs.Prelude.{ℕ, Bool, true, false, List, [], ◌∷◌, codes, Option, Some, None}
use Rattle.ur_base.specs.declared.refusal.Span.{Span}
use Rattle.ur_lex.specs.declared.token.Symbol.{Symbol}
use Rattle.ur_lex.specs.declared.token.Symbol.TheVariants as symbol
use Rattle.ur_lex.specs.declared.token.TokenKind.TheVariants as token
use Rattle.ur_lex.specs.Spelling.{Text}
use Rattle.ur_syntax.specs.declared.sql.SqlExp.{SqlExp}
use Rattle.ur_syntax.specs.declared.sql.SqlForm.{SqlForm}
use Rattle.ur_syntax.specs.declared.sql.SqlForm.TheVariants as form
use Rattle.ur_syntax.specs.declared.sql.SqlBinary.{SqlBinary}
use Rattle.ur_syntax.specs.declared.sql.SqlBinary.TheVariants as op
use Rattle.ur_parse_rules.specs.Rules.{name, number, Rule}
use Rattle.ur_parse_rules.specs.Places.{any}
use Rattle.ur_parse_rules.specs.Words.{is_field}
use Rattle.ur_parse_rules.specs.Quoted.{Quoting, Code, Quoted, plain, antiquote, mapped, both, deeper}
use Rattle.ur_parse_rules.specs.SqlParts.{SqlLevel, disjunction, conjunction, sum, product, sexp, left, operand, left_tail, left_step, negation, comparison, comparison_tail, is_rest, negative, atom, column, qualifier, anti}
use Rattle.ur_parse_rules.specs.Parts.{Tree, SqlRight, compared, null, SqlStep}
use Rattle.ur_parse_rules.specs.Forms.{rule, spanned, symbol_mark, capital, sql_slot, quote_slot, up_to}

-- what the operators of a level stand between
abbrev pub operands : (q : Quoting) → Bool → SqlLevel → List (Rule Tree (Quoted (Code q) SqlExp))
operands q bare disjunction = rule (sql_slot q (left bare conjunction) ∷ []) (λ (a, _). a) ∷ []
operands q bare conjunction = rule (sql_slot q (negation bare) ∷ []) (λ (a, _). a) ∷ []
operands q bare sum = rule (sql_slot q (left bare product) ∷ []) (λ (a, _). a) ∷ []
operands q bare product = rule (sql_slot q (negative bare) ∷ []) (λ (a, _). a) ∷ []

-- an expression with two sides
abbrev pub sided : Span → SqlBinary → SqlExp → SqlExp → SqlExp
sided span o a b = record { span = span; form = form.Binary o a b }

-- operators group to the left; each ends with its right side
abbrev pub grouped : {E : Type 0} → Span → Quoted E SqlExp → List (SqlStep E) → Quoted E SqlExp
grouped begin a [] = a
grouped begin a (t ∷ ts) = grouped begin (both (sided (up_to begin t.span) t.op) a t.right) ts

abbrev pub null_test : Span → Bool → SqlExp → SqlExp
null_test span true a = record { span = span; form = form.IsNull a }
null_test span false a = record { span = span; form = form.IsNotNull a }

-- a comparison, if there is one
abbrev pub compare : {E : Type 0} → Span → Quoted E SqlExp → Option (SqlRight E) → Quoted E SqlExp
compare span a None = a
compare span a (Some (compared o b)) = both (sided span o) a b
compare span a (Some (null is)) = mapped (null_test span is) a

abbrev pub column_of : Span → Text → Option Text → SqlExp
column_of span t None = record { span = span; form = form.Column t }
column_of span t (Some a) = record { span = span; form = form.Qualified t a }

-- an expression without antiquotes
abbrev pub leaf : {E : Type 0} → Span → SqlForm → Quoted E SqlExp
leaf span f = plain (record { span = span; form = f })

abbrev pub negated : Span → SqlExp → SqlExp
negated span a = record { span = span; form = form.Not a }

abbrev pub minus : Span → SqlExp → SqlExp
minus span a = record { span = span; form = form.Negative a }

abbrev pub some_of : Span → SqlExp → SqlExp
some_of span a = record { span = span; form = form.Some a }

abbrev pub anti_of : Span → ℕ → SqlExp
anti_of span n = record { span = span; form = form.Anti n }

-- an operator before its right side: a symbol or a word
abbrev pub symbol_step : (q : Quoting) → Bool → SqlLevel → Symbol → SqlBinary → Rule Tree (SqlStep (Code q))
symbol_step q bare l k o = spanned (symbol_mark k ∷ sql_slot q (operand bare l) ∷ []) (λ span (a, _). record { span = span; op = o; right = a })

abbrev pub word_step : (q : Quoting) → Bool → SqlLevel → Text → SqlBinary → Rule Tree (SqlStep (Code q))
word_step q bare l w o = spanned (capital w ∷ sql_slot q (operand bare l) ∷ []) (λ span (a, _). record { span = span; op = o; right = a })

abbrev pub compares : (q : Quoting) → Bool → Symbol → SqlBinary → Rule Tree (Option (SqlRight (Code q)))
compares q bare k o = rule (symbol_mark k ∷ sql_slot q (left bare sum) ∷ []) (λ (a, _). Some (compared o a))

abbrev pub steps : (q : Quoting) → Bool → (l : SqlLevel) → List (Rule Tree (SqlStep (Code q)))
steps q bare disjunction = word_step q bare disjunction (codes "OR") op.Or ∷ []
steps q bare conjunction = word_step q bare conjunction (codes "AND") op.And ∷ []
steps q bare sum = symbol_step q bare sum symbol.Plus op.Add ∷ symbol_step q bare sum symbol.Minus op.Sub ∷ []
steps q bare product = symbol_step q bare product symbol.Star op.Mul ∷ []

abbrev pub column_rules : (q : Quoting) → Bool → List (Rule Tree SqlExp)
column_rules q true =
    spanned (name token.Lower any ∷ symbol_mark symbol.Dot ∷ name token.Upper is_field ∷ []) (λ span (t, (a, _)). column_of span t (Some a)) ∷
    spanned (name token.Upper is_field ∷ sql_slot q qualifier ∷ []) (λ span (t, (a, _)). column_of span t a) ∷ []
column_rules q false =
    spanned (name token.Lower any ∷ symbol_mark symbol.Dot ∷ name token.Upper is_field ∷ []) (λ span (t, (a, _)). column_of span t (Some a)) ∷
    spanned (name token.Upper is_field ∷ symbol_mark symbol.Dot ∷ name token.Upper is_field ∷ []) (λ span (t, (a, _)). column_of span t (Some a)) ∷ []

abbrev pub sexp_rules : (q : Quoting) → Bool → List (Rule Tree (Quoted (Code q) SqlExp))
sexp_rules q bare = rule (sql_slot q (left bare disjunction) ∷ []) (λ (a, _). deeper q a) ∷ []

abbrev pub left_rules : (q : Quoting) → Bool → SqlLevel → List (Rule Tree (Quoted (Code q) SqlExp))
left_rules q bare l = spanned (sql_slot q (operand bare l) ∷ sql_slot q (left_tail bare l) ∷ []) (λ span (a, (ts, _)). grouped span a ts) ∷ []

abbrev pub left_tail_rules : (q : Quoting) → Bool → SqlLevel → List (Rule Tree (List (SqlStep (Code q))))
left_tail_rules q bare l =
    rule [] (λ _. []) ∷
    rule (sql_slot q (left_step bare l) ∷ sql_slot q (left_tail bare l) ∷ []) (λ (t, (ts, _)). t ∷ ts) ∷ []

abbrev pub negation_rules : (q : Quoting) → Bool → List (Rule Tree (Quoted (Code q) SqlExp))
negation_rules q bare =
    spanned (capital (codes "NOT") ∷ sql_slot q (negation bare) ∷ []) (λ span (a, _). mapped (negated span) a) ∷
    rule (sql_slot q (comparison bare) ∷ []) (λ (a, _). a) ∷ []

abbrev pub comparison_rules : (q : Quoting) → Bool → List (Rule Tree (Quoted (Code q) SqlExp))
comparison_rules q bare = spanned (sql_slot q (left bare sum) ∷ sql_slot q (comparison_tail bare) ∷ []) (λ span (a, (t, _)). compare span a t) ∷ []

-- comparisons do not chain
abbrev pub comparison_tail_rules : (q : Quoting) → Bool → List (Rule Tree (Option (SqlRight (Code q))))
comparison_tail_rules q bare =
    rule [] (λ _. None) ∷
    compares q bare symbol.Eq op.Eq ∷ compares q bare symbol.Ne op.Ne ∷ compares q bare symbol.Lt op.Lt ∷ compares q bare symbol.Le op.Le ∷ compares q bare symbol.Gt op.Gt ∷ compares q bare symbol.Ge op.Ge ∷
    rule (capital (codes "IS") ∷ sql_slot q is_rest ∷ []) (λ (b, _). Some (null b)) ∷ []

abbrev pub is_rest_rules : (q : Quoting) → List (Rule Tree Bool)
is_rest_rules q =
    rule (capital (codes "NULL") ∷ []) (λ _. true) ∷
    rule (capital (codes "NOT") ∷ capital (codes "NULL") ∷ []) (λ _. false) ∷ []

abbrev pub negative_rules : (q : Quoting) → Bool → List (Rule Tree (Quoted (Code q) SqlExp))
negative_rules q bare =
    spanned (symbol_mark symbol.Minus ∷ sql_slot q (negative bare) ∷ []) (λ span (a, _). mapped (minus span) a) ∷
    rule (sql_slot q (atom bare) ∷ []) (λ (a, _). a) ∷ []

abbrev pub atom_rules : (q : Quoting) → Bool → List (Rule Tree (Quoted (Code q) SqlExp))
atom_rules q bare =
    spanned (number ∷ []) (λ span (n, _). leaf span (form.Int n)) ∷
    spanned (name token.SqlText any ∷ []) (λ span (t, _). leaf span (form.Str t)) ∷
    spanned (capital (codes "TRUE") ∷ []) (λ span _. leaf span form.True) ∷
    spanned (capital (codes "FALSE") ∷ []) (λ span _. leaf span form.False) ∷
    spanned (capital (codes "NULL") ∷ []) (λ span _. leaf span form.Null) ∷
    spanned (capital (codes "SOME") ∷ symbol_mark symbol.LParen ∷ sql_slot q (sexp bare) ∷ symbol_mark symbol.RParen ∷ []) (λ span (a, _). mapped (some_of span) a) ∷
    rule (sql_slot q (column bare) ∷ []) (λ (a, _). plain a) ∷
    spanned (sql_slot q anti ∷ []) (λ span (e, _). mapped (anti_of span) (antiquote e)) ∷
    rule (symbol_mark symbol.LParen ∷ sql_slot q (sexp bare) ∷ symbol_mark symbol.RParen ∷ []) (λ (a, _). a) ∷ []

abbrev pub qualifier_rules : (q : Quoting) → List (Rule Tree (Option Text))
qualifier_rules q =
    rule [] (λ _. None) ∷
    rule (symbol_mark symbol.Dot ∷ name token.Upper is_field ∷ []) (λ (a, _). Some a) ∷ []

-- `{[e]}`
abbrev pub anti_rules : (q : Quoting) → List (Rule Tree (Code q))
anti_rules q = rule (symbol_mark symbol.LBrace ∷ symbol_mark symbol.LBracket ∷ quote_slot q ∷ symbol_mark symbol.RBracket ∷ symbol_mark symbol.RBrace ∷ []) (λ (a, _). a) ∷ []
