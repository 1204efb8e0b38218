-- How samples are written down.
use Rattle.std.specs.Prelude.{ℕ, zero, suc, ◌+◌, List, [], ◌∷◌, ◌++◌, Option, Some, None}
use Rattle.ur_lex.specs.declared.token.Symbol.TheVariants as symbol
use Rattle.ur_parse_rules.specs.Language.{max_nesting}
use Rattle.ur_base.specs.declared.refusal.Span.{Span}
use Rattle.ur_lex.specs.declared.token.Keyword.{Keyword}
use Rattle.ur_lex.specs.declared.token.Symbol.{Symbol}
use Rattle.ur_lex.specs.declared.token.TokenKind.{TokenKind}
use Rattle.ur_lex.specs.declared.token.TokenKind.TheVariants as token
use Rattle.ur_lex.specs.declared.token.Lexeme.{Lexeme}
use Rattle.ur_lex.specs.Spelling.{Text, symbol_text, keyword_text}
use Rattle.ur_syntax.specs.declared.con.Con.{Con}
use Rattle.ur_syntax.specs.declared.con.ConForm.{ConForm}
use Rattle.ur_syntax.specs.declared.con.ConParam.{ConParam}
use Rattle.ur_syntax.specs.declared.exp.Exp.{Exp}
use Rattle.ur_syntax.specs.declared.exp.ExpForm.{ExpForm}
use Rattle.ur_syntax.specs.declared.exp.ExpForm.TheVariants as form
use Rattle.ur_syntax.specs.declared.sql.SqlExp.{SqlExp}
use Rattle.ur_syntax.specs.declared.sql.SqlForm.{SqlForm}
use Rattle.ur_syntax.specs.declared.xml.XmlPart.{XmlPart}
use Rattle.ur_syntax.specs.declared.xml.XmlForm.{XmlForm}
use Rattle.ur_syntax.specs.declared.decl.Module.{Module}
use Rattle.ur_syntax.specs.declared.decl.Signature.{Signature}
use Rattle.ur_parse_rules.specs.declared.parse_rules_place.ConPlace.TheVariants as places
use Rattle.ur_parse_rules.specs.ConParts as c
use Rattle.ur_parse_rules.specs.ExpParts as e
use Rattle.ur_parse_rules.specs.DeclParts as d
use Rattle.ur_parse_rules.specs.Parts.{of_con, of_exp, of_decl, Ended}
use Rattle.ur_parse_rules.proofs.Reader.{read, whole}

abbrev pub s0 : Span
s0 = record { file = 1; from = 0; to = 0 }

abbrev pub lx : TokenKind → Text → Lexeme
lx k w = record { kind = k; content = w; span = s0 }

abbrev pub sy : Symbol → Lexeme
sy s = lx (token.Symbol s) (symbol_text s)

abbrev pub kw : Keyword → Lexeme
kw k = lx (token.Keyword k) (keyword_text k)

abbrev pub lo : Text → Lexeme
lo w = lx token.Lower w

abbrev pub up : Text → Lexeme
up w = lx token.Upper w

abbrev pub it : ℕ → Lexeme
it n = lx (token.Int n) []

abbrev pub E : ExpForm → Exp
E f = record { span = s0; form = f }

abbrev pub C : ConForm → Con
C f = record { span = s0; form = f }

abbrev pub X : XmlForm → XmlPart
X f = record { span = s0; form = f }

abbrev pub Q : SqlForm → SqlExp
Q f = record { span = s0; form = f }

abbrev pub v : Text → Exp
v x = E (form.Var x)

abbrev pub num : ℕ → Exp
num n = E (form.Int n)

abbrev pub only : Option Ended → Option Exp
only None = None
only (Some a) = Some a.exp

abbrev pub exp_of : List Lexeme → Option Exp
exp_of ts = only (whole (read 8000 max_nesting (of_exp e.exp) ts))

abbrev pub module_of : List Lexeme → Option Module
module_of ts = whole (read 8000 max_nesting (of_decl d.whole) ts)

abbrev pub signature_of : List Lexeme → Option Signature
signature_of ts = whole (read 8000 max_nesting (of_decl d.signature) ts)

abbrev pub con_of : List Lexeme → Option Con
con_of ts = whole (read 8000 max_nesting (of_con (c.con places.Plain)) ts)

abbrev pub con_before_keys : List Lexeme → Option Con
con_before_keys ts = whole (read 8000 max_nesting (of_con (c.con places.BeforeKeys)) ts)

abbrev pub param_of : List Lexeme → Option ConParam
param_of ts = whole (read 8000 max_nesting (of_con c.con_param) ts)

-- so many pairs of parentheses around tokens
abbrev pub parens : ℕ → List Lexeme → List Lexeme
parens zero ts = ts
parens (suc n) ts = sy symbol.LParen ∷ parens n (ts ++ sy symbol.RParen ∷ [])

-- tokens of one byte, one behind the other
abbrev pub tokens_at : ℕ → List (TokenKind × Text) → List Lexeme
tokens_at n [] = []
tokens_at n (t ∷ ts) = record { kind = t.0; content = t.1; span = record { file = 1; from = n; to = n + 1 } } ∷ tokens_at (n + 1) ts

abbrev pub at_bytes : ℕ → ℕ → ExpForm → Exp
at_bytes n m f = record { span = record { file = 1; from = n; to = m }; form = f }
