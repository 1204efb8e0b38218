-- The rules of binders, parameters and patterns.
use Rattle.std.specs.Prelude.{List, [], ◌∷◌, codes, Option, Some, None}
use Rattle.ur_base.specs.declared.refusal.Span.{Span}
use Rattle.ur_lex.specs.declared.token.Symbol.TheVariants as symbol
use Rattle.ur_lex.specs.declared.token.TokenKind.TheVariants as token
use Rattle.ur_lex.specs.Spelling.{Text}
use Rattle.ur_syntax.specs.declared.exp.Binder.{Binder}
use Rattle.ur_syntax.specs.declared.exp.Binder.TheVariants as binders
use Rattle.ur_syntax.specs.declared.exp.Param.{Param}
use Rattle.ur_syntax.specs.declared.exp.Param.TheVariants as params
use Rattle.ur_syntax.specs.declared.exp.LambdaParam.{LambdaParam}
use Rattle.ur_syntax.specs.declared.exp.LambdaParam.TheVariants as lambda_params
use Rattle.ur_syntax.specs.declared.exp.Argument.{Argument}
use Rattle.ur_syntax.specs.declared.exp.Argument.TheVariants as arguments
use Rattle.ur_syntax.specs.declared.exp.Pat.{Pat}
use Rattle.ur_syntax.specs.declared.exp.PatForm.{PatForm}
use Rattle.ur_syntax.specs.declared.exp.PatForm.TheVariants as form
use Rattle.ur_parse_rules.specs.declared.parse_rules_place.ConPlace.TheVariants as places
use Rattle.ur_parse_rules.specs.Rules.{name, number, Rule}
use Rattle.ur_parse_rules.specs.Places.{any}
use Rattle.ur_parse_rules.specs.Words.{is_constructor}
use Rattle.ur_parse_rules.specs.ConParts as c
use Rattle.ur_parse_rules.specs.ExpParts as e
use Rattle.ur_parse_rules.specs.Parts.{Tree, PatRest, argument, of_module}
use Rattle.ur_parse_rules.specs.Forms.{rule, spanned, symbol_mark, capital, con_slot, exp_slot}

abbrev pub binder_rules : List (Rule Tree Binder)
binder_rules =
    rule (symbol_mark symbol.Underscore ∷ []) (λ _. binders.Ignored) ∷
    rule (name token.Lower any ∷ []) (λ (x, _). binders.Named x) ∷ []

abbrev pub param_rules : List (Rule Tree Param)
param_rules = rule (symbol_mark symbol.LParen ∷ exp_slot e.param_rest ∷ []) (λ (p, _). p) ∷ []

abbrev pub param_rest_rules : List (Rule Tree Param)
param_rest_rules =
    rule (symbol_mark symbol.RParen ∷ []) (λ _. params.Unit) ∷
    rule (exp_slot e.binder ∷ symbol_mark symbol.Colon ∷ con_slot (c.con places.Plain) ∷ symbol_mark symbol.RParen ∷ []) (λ (b, (t, _)). params.Value b t) ∷ []

abbrev pub lambda_param_rules : List (Rule Tree LambdaParam)
lambda_param_rules =
    rule (exp_slot e.param ∷ []) (λ (p, _). lambda_params.Typed p) ∷
    rule (con_slot c.con_param ∷ []) (λ (p, _). lambda_params.Con p) ∷
    rule (exp_slot e.binder ∷ []) (λ (b, _). lambda_params.Bare b) ∷ []

abbrev pub lambda_params_rules : List (Rule Tree (List LambdaParam))
lambda_params_rules =
    rule [] (λ _. []) ∷
    rule (exp_slot e.lambda_param ∷ exp_slot e.lambda_params ∷ []) (λ (p, (ps, _)). p ∷ ps) ∷ []

-- a binder alone, or two with `::` between
abbrev pub cons_of : PatForm → Binder → Option Binder → PatForm
cons_of alone a None = alone
cons_of alone a (Some b) = form.Cons a b

abbrev pub constructor_of : Text → PatRest → PatForm
constructor_of x (argument a) = form.Constructor x a
constructor_of x (of_module y a) = form.Member x y a

abbrev pub pattern : Span → PatForm → Pat
pattern span f = record { span = span; form = f }

abbrev pub pat_rules : List (Rule Tree Pat)
pat_rules =
    spanned (symbol_mark symbol.Underscore ∷ exp_slot e.pat_cons ∷ []) (λ span (b, _). pattern span (cons_of form.Wild binders.Ignored b)) ∷
    spanned (name token.Lower any ∷ exp_slot e.pat_cons ∷ []) (λ span (x, (b, _)). pattern span (cons_of (form.Var x) (binders.Named x) b)) ∷
    spanned (number ∷ []) (λ span (n, _). pattern span (form.Int n)) ∷
    spanned (symbol_mark symbol.Minus ∷ number ∷ []) (λ span (n, _). pattern span (form.Negative n)) ∷
    spanned (name token.Str any ∷ []) (λ span (t, _). pattern span (form.Str t)) ∷
    spanned (capital (codes "True") ∷ []) (λ span _. pattern span form.True) ∷
    spanned (capital (codes "False") ∷ []) (λ span _. pattern span form.False) ∷
    spanned (capital (codes "None") ∷ []) (λ span _. pattern span form.None) ∷
    spanned (capital (codes "Some") ∷ exp_slot e.binder ∷ []) (λ span (b, _). pattern span (form.Some b)) ∷
    spanned (symbol_mark symbol.LBracket ∷ symbol_mark symbol.RBracket ∷ []) (λ span _. pattern span form.Nil) ∷
    spanned (name token.Upper is_constructor ∷ exp_slot e.pat_rest ∷ []) (λ span (x, (r, _)). pattern span (constructor_of x r)) ∷ []

abbrev pub pat_cons_rules : List (Rule Tree (Option Binder))
pat_cons_rules =
    rule [] (λ _. None) ∷
    rule (symbol_mark symbol.DoubleColon ∷ exp_slot e.binder ∷ []) (λ (b, _). Some b) ∷ []

abbrev pub pat_argument_rules : List (Rule Tree Argument)
pat_argument_rules =
    rule [] (λ _. arguments.Absent) ∷
    rule (exp_slot e.binder ∷ []) (λ (b, _). arguments.Bound b) ∷ []

abbrev pub pat_rest_rules : List (Rule Tree PatRest)
pat_rest_rules =
    rule (exp_slot e.pat_argument ∷ []) (λ (a, _). argument a) ∷
    rule (symbol_mark symbol.Dot ∷ name token.Upper any ∷ exp_slot e.pat_argument ∷ []) (λ (x, (a, _)). of_module x a) ∷ []
