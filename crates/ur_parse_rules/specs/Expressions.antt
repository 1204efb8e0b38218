-- The rules of expressions.
use Rattle.std.specs.Prelude.{ℕ, Bool, true, false, not, List, [], ◌∷◌, codes, Option, Some, None}
use Rattle.ur_base.specs.declared.refusal.Span.{Span}
use Rattle.ur_lex.specs.declared.token.Keyword.TheVariants as keyword
use Rattle.ur_lex.specs.declared.token.Symbol.{Symbol}
use Rattle.ur_lex.specs.declared.token.Symbol.TheVariants as symbol
use Rattle.ur_lex.specs.declared.token.TokenKind.TheVariants as token
use Rattle.ur_lex.specs.Spelling.{Text}
use Rattle.ur_syntax.specs.declared.con.FieldName.TheVariants as names
use Rattle.ur_syntax.specs.declared.exp.Binder.TheVariants as binders
use Rattle.ur_syntax.specs.declared.exp.Binary.{Binary}
use Rattle.ur_syntax.specs.declared.exp.Binary.TheVariants as op
use Rattle.ur_syntax.specs.declared.exp.QueryWord.{QueryWord}
use Rattle.ur_syntax.specs.declared.exp.QueryWord.TheVariants as query_words
use Rattle.ur_syntax.specs.declared.exp.Exp.{Exp}
use Rattle.ur_syntax.specs.declared.exp.ExpForm.{ExpForm}
use Rattle.ur_syntax.specs.declared.exp.ExpForm.TheVariants as form
use Rattle.ur_syntax.specs.declared.exp.Branch.{Branch}
use Rattle.ur_parse_rules.specs.declared.parse_rules_place.ConPlace.TheVariants as places
use Rattle.ur_parse_rules.specs.Rules.{name, number, Rule}
use Rattle.ur_parse_rules.specs.Places.{any}
use Rattle.ur_parse_rules.specs.Words.{is_field, is_name}
use Rattle.ur_parse_rules.specs.ConParts as c
use Rattle.ur_parse_rules.specs.Quoted.{expressions}
use Rattle.ur_parse_rules.specs.SqlParts as s
use Rattle.ur_parse_rules.specs.XmlParts as x
use Rattle.ur_parse_rules.specs.ExpParts.{Level, disjunction, conjunction, append, sum, product, ExpPart, exp, rest, line, lambda, bar, branches, more_branches, left, operand, left_tail, left_step, comparison, comparison_tail, cons, cons_tail, negative, app, args, arg, bracketed, head, post, base, capital_rest, member, nil_end, dot, dots, paren_rest, field, fields, fields_tail, let_val, let_vals, removed, binder, param, param_rest, lambda_param, lambda_params, pat, pat_cons, pat_rest, pat_argument}
use Rattle.ur_parse_rules.specs.Parts.{Tree, ExpTree, Ended, Right, joins, removes, Step, Dot, Bracketed, empty, con, Given, value, type, GivenAt, Member, lower, upper, Capital, alone, of_module}
use Rattle.ur_parse_rules.specs.Forms.{rule, spanned, symbol_mark, keyword_mark, small, capital, con_slot, exp_slot, sql_slot, xml_slot, up_to}
use Rattle.ur_parse_rules.specs.Patterns.{binder_rules, param_rules, param_rest_rules, lambda_param_rules, lambda_params_rules, pat_rules, pat_cons_rules, pat_argument_rules, pat_rest_rules}

-- an expression with its span
abbrev pub at : Span → ExpForm → Exp
at span f = record { span = span; form = f }

-- ---- statements, `if`, `fn` and `case`

-- an expression that goes on as another does
abbrev pub ends_as : Ended → Exp → Ended
ends_as b a = record { exp = a; takes_semicolon = b.takes_semicolon; takes_bar = b.takes_bar }

-- one that takes each `;`
abbrev pub takes_as : Ended → Exp → Ended
takes_as b a = record { exp = a; takes_semicolon = true; takes_bar = b.takes_bar }

abbrev pub closed : Exp → Ended
closed a = record { exp = a; takes_semicolon = false; takes_bar = false }

abbrev pub followed : Span → Ended → Option Ended → Ended
followed span a None = a
followed span a (Some b) = ends_as b (at span (form.Seq a.exp b.exp))

-- An expression that takes a `;` itself has none behind it: it ends with a lambda or a `case`.
abbrev pub may_follow : Ended → Option Ended → Bool
may_follow a None = true
may_follow a (Some b) = not a.takes_semicolon

-- A `|` belongs to the innermost `case`: a branch that takes it itself is the last one.
abbrev pub may_branch : Ended → Option (List Branch) → Bool
may_branch a None = true
may_branch a (Some bs) = not a.takes_bar

-- the branches behind, if there are any
abbrev pub branches_behind : Option (List Branch) → List Branch
branches_behind None = []
branches_behind (Some bs) = bs

-- ---- operators

-- what the operators of a level stand between
abbrev pub operands : Level → List (Rule Tree Exp)
operands disjunction = rule (exp_slot (left conjunction) ∷ []) (λ (a, _). a) ∷ []
operands conjunction = rule (exp_slot comparison ∷ []) (λ (a, _). a) ∷ []
operands append = rule (exp_slot (left sum) ∷ []) (λ (a, _). a) ∷ []
operands sum = rule (exp_slot (left product) ∷ []) (λ (a, _). a) ∷ []
operands product = rule (exp_slot negative ∷ []) (λ (a, _). a) ∷ []

abbrev pub step_of : Span → Exp → Right → Exp
step_of span a (joins o b) = at span (form.Binary o a b)
step_of span a (removes r) = at span (form.Remove a r)

-- operators group to the left; each ends with its right side
abbrev pub grouped : Span → Exp → List Step → Exp
grouped begin a [] = a
grouped begin a (t ∷ ts) = grouped begin (step_of (up_to begin t.span) a t.right) ts

abbrev pub compare : Span → Exp → Option (Binary × Exp) → Exp
compare span a None = a
compare span a (Some t) = at span (form.Binary t.0 a t.1)

-- `::` groups to the right
abbrev pub cons_of : Span → Exp → Option Exp → Exp
cons_of span a None = a
cons_of span a (Some b) = at span (form.Binary op.Cons a b)

abbrev pub infix_step : Level → Symbol → Binary → Rule Tree Step
infix_step l k o = spanned (symbol_mark k ∷ exp_slot (operand l) ∷ []) (λ span (a, _). record { span = span; right = joins o a })

abbrev pub steps : (l : Level) → List (Rule Tree Step)
steps disjunction = infix_step disjunction symbol.OrOr op.Or ∷ []
steps conjunction = infix_step conjunction symbol.AndAnd op.And ∷ []
steps append =
    infix_step append symbol.Caret op.Append ∷ infix_step append symbol.DoublePlus op.Concat ∷
    spanned (symbol_mark symbol.DoubleMinus ∷ exp_slot removed ∷ []) (λ span (r, _). record { span = span; right = removes r }) ∷ []
steps sum = infix_step sum symbol.Plus op.Add ∷ infix_step sum symbol.Minus op.Sub ∷ []
steps product = infix_step product symbol.Star op.Mul ∷ infix_step product symbol.Slash op.Div ∷ infix_step product symbol.Percent op.Rem ∷ []

abbrev pub compares : Symbol → Binary → Rule Tree (Option (Binary × Exp))
compares k o = rule (symbol_mark k ∷ exp_slot cons ∷ []) (λ (a, _). Some (o, a))

-- ---- applications

-- an argument, with the names of fields behind it, each ending where the field's name ends
abbrev pub projected : Span → Exp → List Dot → Exp
projected begin a [] = a
projected begin a (d ∷ ds) = projected begin (at (up_to begin d.span) (form.Project a d.name)) ds

-- `[c]` applies to a constructor, `[]` to the empty list
abbrev pub given_of : Span → Bracketed → Given
given_of span (empty end ds) = value (projected span (at (up_to span end) form.Nil) ds)
given_of span (con t) = type t

abbrev pub apply_to : Span → Exp → Given → Exp
apply_to span f (value a) = at span (form.App f a)
apply_to span f (type t) = at span (form.ConApp f t)

-- applications group to the left; each ends with its argument
abbrev pub applied : Span → Exp → List GivenAt → Exp
applied begin f [] = f
applied begin f (a ∷ as_) = applied begin (apply_to (up_to begin a.span) f a.given) as_

-- The longest atom is taken: before a dot a word in capitals is a module.
abbrev pub member_of : Span → Text → Member → Exp
member_of begin m (lower span x) = at (up_to begin span) (form.Member m x)
member_of begin m (upper span x) = at (up_to begin span) (form.MemberConstructor m x)

abbrev pub capital_of : Span → Text → Capital → Exp
capital_of span x alone = at span (form.Constructor x)
capital_of span x (of_module y ds) = projected span (member_of span x y) ds

-- what stands in parentheses, or unit
abbrev pub paren_of : Span → Option Exp → Exp
paren_of span None = at span form.Unit
paren_of span (Some a) = a

-- a form of a word and an argument
abbrev pub word_form : Text → (Exp → ExpForm) → Rule Tree Exp
word_form w f = spanned (small w ∷ exp_slot (post false) ∷ []) (λ span (a, _). at span (f a))

abbrev pub query_form : Text → QueryWord → Rule Tree Exp
query_form w q = spanned (small w ∷ symbol_mark symbol.LParen ∷ sql_slot expressions s.query ∷ symbol_mark symbol.RParen ∷ []) (λ span (a, _). at span (form.Query q (a.at 0 0) a.exps))

abbrev pub exp_rules : (p : ExpPart) → List (Rule Tree (ExpTree p))
exp_rules exp =
    record {
      slots = symbol_mark symbol.Underscore ∷ symbol_mark symbol.LeftArrow ∷ exp_slot line ∷ symbol_mark symbol.Semicolon ∷ exp_slot exp ∷ [];
      spanned = true;
      allows = λ (a, (b, _)). not a.takes_semicolon;
      build = λ span (a, (b, _)). ends_as b (at span (form.Bind binders.Ignored a.exp b.exp));
    } ∷
    record {
      slots = name token.Lower (is_name true) ∷ symbol_mark symbol.LeftArrow ∷ exp_slot line ∷ symbol_mark symbol.Semicolon ∷ exp_slot exp ∷ [];
      spanned = true;
      allows = λ (y, (a, (b, _))). not a.takes_semicolon;
      build = λ span (y, (a, (b, _))). ends_as b (at span (form.Bind (binders.Named y) a.exp b.exp));
    } ∷
    record { slots = exp_slot line ∷ exp_slot rest ∷ []; spanned = true; allows = λ (a, (b, _)). may_follow a b; build = λ span (a, (b, _)). followed span a b } ∷ []
exp_rules rest =
    rule [] (λ _. None) ∷
    rule (symbol_mark symbol.Semicolon ∷ exp_slot exp ∷ []) (λ (a, _). Some a) ∷ []
exp_rules line =
    spanned (keyword_mark keyword.If ∷ exp_slot exp ∷ keyword_mark keyword.Then ∷ exp_slot exp ∷ keyword_mark keyword.Else ∷ exp_slot line ∷ [])
    (λ span (i, (a, (b, _))). ends_as b (at span (form.If i.exp a.exp b.exp))) ∷
    rule (exp_slot lambda ∷ []) (λ (a, _). a) ∷
    spanned (keyword_mark keyword.Case ∷ exp_slot exp ∷ keyword_mark keyword.Of ∷ exp_slot bar ∷ exp_slot branches ∷ [])
    (λ span (a, (_, (bs, _))). record { exp = at span (form.Case a.exp bs); takes_semicolon = true; takes_bar = true }) ∷
    rule (exp_slot (left disjunction) ∷ []) (λ (a, _). closed a) ∷ []
exp_rules lambda =
    spanned (keyword_mark keyword.Fn ∷ exp_slot lambda_param ∷ exp_slot lambda_params ∷ symbol_mark symbol.FatArrow ∷ exp_slot exp ∷ [])
    (λ span (p, (ps, (b, _))). takes_as b (at span (form.Lambda (p ∷ ps) b.exp))) ∷ []
exp_rules bar = rule [] (λ _. tt) ∷ rule (symbol_mark symbol.Bar ∷ []) (λ _. tt) ∷ []
exp_rules branches =
    record {
      slots = exp_slot pat ∷ symbol_mark symbol.FatArrow ∷ exp_slot exp ∷ exp_slot more_branches ∷ [];
      spanned = false;
      allows = λ (p, (a, (bs, _))). may_branch a bs;
      build = λ _ (p, (a, (bs, _))). record { pat = p; body = a.exp } ∷ branches_behind bs;
    } ∷ []
exp_rules more_branches =
    rule [] (λ _. None) ∷
    rule (symbol_mark symbol.Bar ∷ exp_slot branches ∷ []) (λ (bs, _). Some bs) ∷ []
exp_rules (left l) = spanned (exp_slot (operand l) ∷ exp_slot (left_tail l) ∷ []) (λ span (a, (ts, _)). grouped span a ts) ∷ []
exp_rules (left_tail l) =
    rule [] (λ _. []) ∷
    rule (exp_slot (left_step l) ∷ exp_slot (left_tail l) ∷ []) (λ (t, (ts, _)). t ∷ ts) ∷ []
exp_rules (operand l) = operands l
exp_rules (left_step l) = steps l
exp_rules comparison = spanned (exp_slot cons ∷ exp_slot comparison_tail ∷ []) (λ span (a, (t, _)). compare span a t) ∷ []
exp_rules comparison_tail =
    rule [] (λ _. None) ∷
    compares symbol.Eq op.Eq ∷ compares symbol.Ne op.Ne ∷ compares symbol.Lt op.Lt ∷ compares symbol.Le op.Le ∷ compares symbol.Gt op.Gt ∷ compares symbol.Ge op.Ge ∷ []
exp_rules cons = spanned (exp_slot (left append) ∷ exp_slot cons_tail ∷ []) (λ span (a, (t, _)). cons_of span a t) ∷ []
exp_rules cons_tail =
    rule [] (λ _. None) ∷
    rule (symbol_mark symbol.DoubleColon ∷ exp_slot cons ∷ []) (λ (a, _). Some a) ∷ []
exp_rules negative =
    spanned (symbol_mark symbol.Minus ∷ exp_slot negative ∷ []) (λ span (a, _). at span (form.Negative a)) ∷
    rule (exp_slot app ∷ []) (λ (a, _). a) ∷ []
exp_rules app = spanned (exp_slot head ∷ exp_slot args ∷ []) (λ span (f, (as_, _)). applied span f as_) ∷ []
exp_rules args =
    rule [] (λ _. []) ∷
    rule (exp_slot arg ∷ exp_slot args ∷ []) (λ (a, (as_, _)). a ∷ as_) ∷ []
exp_rules arg =
    spanned (exp_slot (base false) ∷ exp_slot dots ∷ []) (λ span (a, (ds, _)). record { span = span; given = value (projected span a ds) }) ∷
    spanned (name token.Upper any ∷ exp_slot capital_rest ∷ []) (λ span (y, (r, _)). record { span = span; given = value (capital_of span y r) }) ∷
    spanned (symbol_mark symbol.LBracket ∷ exp_slot bracketed ∷ []) (λ span (b, _). record { span = span; given = given_of span b }) ∷ []
exp_rules bracketed =
    rule (exp_slot nil_end ∷ exp_slot dots ∷ []) (λ (end, (ds, _)). empty end ds) ∷
    rule (con_slot (c.con places.Plain) ∷ symbol_mark symbol.RBracket ∷ []) (λ (t, _). con t) ∷ []
exp_rules head =
    rule (exp_slot (post true) ∷ []) (λ (a, _). a) ∷
    word_form (codes "return") (λ a. form.Return a) ∷ word_form (codes "show") (λ a. form.Show a) ∷ word_form (codes "not") (λ a. form.Not a) ∷ word_form (codes "error") (λ a. form.Error a) ∷
    spanned (capital (codes "Some") ∷ exp_slot (post false) ∷ []) (λ span (a, _). at span (form.Some a)) ∷
    spanned (small (codes "nextval") ∷ sql_slot expressions s.name ∷ []) (λ span (n, _). at span (form.Nextval n)) ∷
    spanned (small (codes "getCookie") ∷ sql_slot expressions s.name ∷ []) (λ span (n, _). at span (form.GetCookie n)) ∷
    spanned (small (codes "setCookie") ∷ sql_slot expressions s.name ∷ exp_slot (post false) ∷ []) (λ span (n, (a, _)). at span (form.SetCookie n a)) ∷
    spanned (small (codes "dml") ∷ symbol_mark symbol.LParen ∷ sql_slot expressions s.change ∷ symbol_mark symbol.RParen ∷ []) (λ span (a, _). at span (form.Dml (a.at 0 0) a.exps)) ∷
    query_form (codes "queryL") query_words.QueryL ∷ query_form (codes "oneRow") query_words.OneRow ∷ query_form (codes "oneOrNoRows") query_words.OneOrNoRows ∷
    spanned (small (codes "queryX") ∷ symbol_mark symbol.LParen ∷ sql_slot expressions s.query ∷ symbol_mark symbol.RParen ∷ symbol_mark symbol.LParen ∷ exp_slot lambda ∷ symbol_mark symbol.RParen ∷ [])
    (λ span (a, (f, _)). at span (form.QueryX (a.at 0 0) a.exps f.exp)) ∷
    spanned (small (codes "fold") ∷ symbol_mark symbol.LBracket ∷ con_slot (c.con places.Plain) ∷ symbol_mark symbol.RBracket ∷ exp_slot (post false) ∷ exp_slot (post false)
    ∷ symbol_mark symbol.LBracket ∷ con_slot (c.con places.Plain) ∷ symbol_mark symbol.RBracket ∷ [])
    (λ span (t, (a, (b, (r, _)))). at span (form.Fold t a b r)) ∷ []
exp_rules (post first) =
    spanned (exp_slot (base first) ∷ exp_slot dots ∷ []) (λ span (a, (ds, _)). projected span a ds) ∷
    spanned (name token.Upper (is_name first) ∷ exp_slot capital_rest ∷ []) (λ span (y, (r, _)). capital_of span y r) ∷
    spanned (symbol_mark symbol.LBracket ∷ exp_slot nil_end ∷ exp_slot dots ∷ []) (λ span (end, (ds, _)). projected span (at (up_to span end) form.Nil) ds) ∷ []
exp_rules (base first) =
    spanned (number ∷ []) (λ span (n, _). at span (form.Int n)) ∷
    spanned (name token.Str any ∷ []) (λ span (t, _). at span (form.Str t)) ∷
    spanned (name token.Lower (is_name first) ∷ []) (λ span (y, _). at span (form.Var y)) ∷
    spanned (symbol_mark symbol.LParen ∷ exp_slot paren_rest ∷ []) (λ span (a, _). paren_of span a) ∷
    spanned (symbol_mark symbol.LBrace ∷ exp_slot fields ∷ []) (λ span (fs, _). at span (form.Record fs)) ∷
    spanned (xml_slot expressions x.literal ∷ []) (λ span (l, _). at span (form.Xml (l.at 0 0) l.exps l.attributes)) ∷
    spanned (keyword_mark keyword.Let ∷ exp_slot let_val ∷ exp_slot let_vals ∷ keyword_mark keyword.In ∷ exp_slot exp ∷ keyword_mark keyword.End ∷ [])
    (λ span (v, (vs, (a, _))). at span (form.Let (v ∷ vs) a.exp)) ∷ []
exp_rules capital_rest =
    rule [] (λ _. alone) ∷
    rule (symbol_mark symbol.Dot ∷ exp_slot member ∷ exp_slot dots ∷ []) (λ (y, (ds, _)). of_module y ds) ∷ []
exp_rules member =
    spanned (name token.Lower any ∷ []) (λ span (y, _). lower span y) ∷
    spanned (name token.Upper any ∷ []) (λ span (y, _). upper span y) ∷ []
exp_rules nil_end = spanned (symbol_mark symbol.RBracket ∷ []) (λ span _. span) ∷ []
exp_rules dot = spanned (symbol_mark symbol.Dot ∷ con_slot c.field_name ∷ []) (λ span (y, _). record { span = span; name = y }) ∷ []
exp_rules dots =
    rule [] (λ _. []) ∷
    rule (exp_slot dot ∷ exp_slot dots ∷ []) (λ (d, (ds, _)). d ∷ ds) ∷ []
exp_rules paren_rest =
    rule (symbol_mark symbol.RParen ∷ []) (λ _. None) ∷
    rule (exp_slot exp ∷ symbol_mark symbol.RParen ∷ []) (λ (a, _). Some a.exp) ∷ []
exp_rules field = rule (con_slot c.field_name ∷ symbol_mark symbol.Eq ∷ exp_slot exp ∷ []) (λ (y, (a, _)). record { name = y; value = a.exp }) ∷ []
exp_rules fields =
    rule (symbol_mark symbol.RBrace ∷ []) (λ _. []) ∷
    rule (exp_slot field ∷ exp_slot fields_tail ∷ []) (λ (f, (fs, _)). f ∷ fs) ∷ []
exp_rules fields_tail =
    rule (symbol_mark symbol.RBrace ∷ []) (λ _. []) ∷
    rule (symbol_mark symbol.Comma ∷ exp_slot field ∷ exp_slot fields_tail ∷ []) (λ (f, (fs, _)). f ∷ fs) ∷ []
exp_rules let_val =
    spanned (keyword_mark keyword.Val ∷ name token.Lower any ∷ symbol_mark symbol.Colon ∷ con_slot (c.con places.Plain) ∷ symbol_mark symbol.Eq ∷ exp_slot exp ∷ [])
    (λ span (y, (t, (a, _))). record { span = span; name = y; con = t; value = a.exp }) ∷ []
exp_rules let_vals =
    rule [] (λ _. []) ∷
    rule (exp_slot let_val ∷ exp_slot let_vals ∷ []) (λ (v, (vs, _)). v ∷ vs) ∷ []
exp_rules removed =
    spanned (symbol_mark symbol.Hash ∷ name token.Upper is_field ∷ []) (λ span (a, _). record { span = span; name = names.Literal a }) ∷
    spanned (name token.Upper is_field ∷ []) (λ span (a, _). record { span = span; name = names.Literal a }) ∷
    spanned (name token.Lower any ∷ []) (λ span (y, _). record { span = span; name = names.Variable y }) ∷ []
exp_rules binder = binder_rules
exp_rules param = param_rules
exp_rules param_rest = param_rest_rules
exp_rules lambda_param = lambda_param_rules
exp_rules lambda_params = lambda_params_rules
exp_rules pat = pat_rules
exp_rules pat_cons = pat_cons_rules
exp_rules pat_rest = pat_rest_rules
exp_rules pat_argument = pat_argument_rules

-- expressions count for nesting
abbrev pub exp_cost : ExpPart → ℕ
exp_cost exp = 1
exp_cost _ = 0
