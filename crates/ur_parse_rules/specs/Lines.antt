-- A small grammar with forms that end openly: a lambda takes each `;` behind it, a `case` each `|`.
use Rattle.std.specs.Prelude.{ℕ, Bool, true, false, not, ◌&&◌, ◌||◌, List, [], ◌∷◌, Option, Some, None}
use Rattle.ur_lex.specs.declared.token.Keyword.TheVariants as keyword
use Rattle.ur_lex.specs.declared.token.Symbol.TheVariants as symbol
use Rattle.ur_lex.specs.declared.token.TokenKind.{TokenKind}
use Rattle.ur_lex.specs.declared.token.TokenKind.TheVariants as token
use Rattle.ur_lex.specs.Spelling.{Text}
use Rattle.ur_parse_rules.specs.Rules.{Slot, mark, name, one, Values, Rule, Grammar}
use Rattle.ur_parse_rules.specs.Places.{never, only, any, always}

pub data Exp : Type 0 where
  Var : Text → Exp
  Seq : Exp → Exp → Exp
  If : Exp → Exp → Exp → Exp
  Lambda : Text → Exp → Exp
  Case : Exp → Exp → Exp
  Branches : Exp → Exp → Exp

-- an expression, with whether it takes each `;` behind it, and each `|`
pub record Ended : Type 0 where
  pub exp : Exp
  pub takes_semicolon : Bool
  pub takes_bar : Bool

pub data Part : Type 0 where
  exp : Part
  rest : Part
  line : Part
  atom : Part
  branches : Part
  more_branches : Part

abbrev pub Tree : Part → Type 0
Tree exp = Ended
Tree rest = Option Ended
Tree line = Ended
Tree atom = Exp
Tree branches = Exp
Tree more_branches = Option Exp

abbrev pub followed : Ended → Option Ended → Ended
followed a None = a
followed a (Some b) = record { exp = Seq a.exp b.exp; takes_semicolon = b.takes_semicolon; takes_bar = b.takes_bar }

abbrev pub may_follow : Ended → Option Ended → Bool
may_follow a None = true
may_follow a (Some b) = not a.takes_semicolon

abbrev pub may_branch : Ended → Option Exp → Bool
may_branch a None = true
may_branch a (Some bs) = not a.takes_bar

abbrev pub branched : Exp → Option Exp → Exp
branched e None = e
branched e (Some bs) = Branches e bs

abbrev pub closed : Exp → Ended
closed e = record { exp = e; takes_semicolon = false; takes_bar = false }

abbrev pub rule : {T : Type 0} (slots : List (Slot Part)) → (Values Tree slots → T) → Rule Tree T
rule slots build = record { slots = slots; spanned = false; allows = always; build = λ _ v. build v }

abbrev pub rules : (p : Part) → List (Rule Tree (Tree p))
rules exp = record { slots = one line ∷ one rest ∷ []; spanned = false; allows = λ (a, (b, _)). may_follow a b; build = λ _ (a, (b, _)). followed a b } ∷ []
rules rest = rule [] (λ _. None) ∷ rule (mark (token.Symbol symbol.Semicolon) ∷ one exp ∷ []) (λ (e, _). Some e) ∷ []
rules line =
    rule (mark (token.Keyword keyword.If) ∷ one exp ∷ mark (token.Keyword keyword.Then) ∷ one exp ∷ mark (token.Keyword keyword.Else) ∷ one line ∷ [])
    (λ (c, (a, (b, _))). record { exp = If c.exp a.exp b.exp; takes_semicolon = b.takes_semicolon; takes_bar = b.takes_bar }) ∷
    rule (mark (token.Keyword keyword.Fn) ∷ name token.Lower any ∷ mark (token.Symbol symbol.FatArrow) ∷ one exp ∷ [])
    (λ (x, (b, _)). record { exp = Lambda x b.exp; takes_semicolon = true; takes_bar = b.takes_bar }) ∷
    rule (mark (token.Keyword keyword.Case) ∷ one exp ∷ mark (token.Keyword keyword.Of) ∷ one branches ∷ [])
    (λ (e, (bs, _)). record { exp = Case e.exp bs; takes_semicolon = true; takes_bar = true }) ∷
    rule (one atom ∷ []) (λ (a, _). closed a) ∷ []
rules atom = rule (name token.Lower any ∷ []) (λ (x, _). Var x) ∷ rule (mark (token.Symbol symbol.LParen) ∷ one exp ∷ mark (token.Symbol symbol.RParen) ∷ []) (λ (e, _). e.exp) ∷ []
rules branches = record { slots = one exp ∷ one more_branches ∷ []; spanned = false; allows = λ (a, (bs, _)). may_branch a bs; build = λ _ (a, (bs, _)). branched a.exp bs } ∷ []
rules more_branches = rule [] (λ _. None) ∷ rule (mark (token.Symbol symbol.Bar) ∷ one branches ∷ []) (λ (bs, _). Some bs) ∷ []

abbrev pub semicolon : TokenKind → Text → Bool
semicolon = only (token.Symbol symbol.Semicolon)

abbrev pub bar : TokenKind → Text → Bool
bar = only (token.Symbol symbol.Bar)

abbrev pub more_exp : Ended → TokenKind → Text → Bool
more_exp x k w = semicolon k w || (bar k w && x.takes_bar)

abbrev pub more_line : Ended → TokenKind → Text → Bool
more_line x k w = (semicolon k w && x.takes_semicolon) || (bar k w && x.takes_bar)

abbrev pub more : (p : Part) → Tree p → TokenKind → Text → Bool
more exp x = more_exp x
more rest None = semicolon
more rest (Some x) = more_exp x
more line x = more_line x
more branches x = λ k w. semicolon k w || bar k w
more more_branches x = λ k w. semicolon k w || bar k w
more atom x = never

abbrev pub cost : Part → ℕ
cost exp = 1
cost _ = 0

abbrev pub lines : Grammar Tree
lines = record { rules = rules; cost = cost; more = more }
