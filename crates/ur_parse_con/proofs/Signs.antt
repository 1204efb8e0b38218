-- Operators that stand at a place.
use Rattle.std.specs.Prelude.{◌≡◌, ◌+◌, ℕ, List, [], ◌∷◌, drop, Option, Some, None, refl}
use Rattle.std.proofs.Common.{sym, ◌∙◌, ap}
use Rattle.ur_lex.specs.declared.token.Symbol.{Symbol}
use Rattle.ur_lex.specs.declared.token.TokenKind.{TokenKind}
use Rattle.ur_lex.specs.declared.token.TokenKind.TheVariants as token
use Rattle.ur_lex.specs.declared.token.Lexeme.{Lexeme}
use Rattle.ur_syntax.specs.declared.exp.Binary.{Binary}
use Rattle.ur_parse_rules.specs.Places.{At, Other}
use Rattle.ur_parse_con.specs.declared.operator.Level.{Level}
use Rattle.ur_parse_con.specs.declared.operator.Sign.{Sign}
use Rattle.ur_parse_con.specs.Operators.{sign, sign_of, compared, comparison_of, SignAt, ComparisonAt}

-- no token with a value stands where one without stands
valueless : {V : Type 0} (f : TokenKind → Option V) (tokens : List Lexeme) (i : ℕ) (k : TokenKind) (t : Lexeme) → At tokens i t → t.kind ≡ k → f k ≡ None → Other tokens i (λ u. (o : V) × (f u.kind ≡ Some o))
valueless {V = V} f tokens i k t a e n = record {
  other = λ u rest d is. let same : t ≡ u = (let s : drop i tokens ≡ t ∷ drop (i + 1) tokens = a.split in cc) in
      absurd (let z : None ≡ Some is.0 = sym n ∙ ap f (sym e ∙ ap (λ (z : Lexeme). z.kind) same) ∙ is.1 in cc);
}

valueless_end : {V : Type 0} (f : TokenKind → Option V) (tokens : List Lexeme) (i : ℕ) → drop i tokens ≡ [] → Other tokens i (λ u. (o : V) × (f u.kind ≡ Some o))
valueless_end f tokens i e = record { other = λ u rest d is. absurd (let z : u ∷ rest ≡ [] = sym d ∙ e in cc) }

sign_case : (tokens : List Lexeme) (i : ℕ) (l : Level) (s : Symbol) (t : Lexeme) → At tokens i t → t.kind ≡ token.Symbol s → (o : Option Sign) → sign l s ≡ o → SignAt tokens i l o
sign_case tokens i l s t a e None f = valueless (sign_of l) tokens i (token.Symbol s) t a e f
sign_case tokens i l s t a e (Some o) f = (s, record { next = refl; t = t; at = a; is = e }, f)

pub sign_seen : (tokens : List Lexeme) (i : ℕ) (l : Level) (k : TokenKind) (t : Lexeme) → At tokens i t → t.kind ≡ k → SignAt tokens i l (sign_of l k)
sign_seen tokens i l (token.Symbol s) t a e = sign_case tokens i l s t a e (sign l s) refl
sign_seen tokens i l (token.Int n) t a e = valueless (sign_of l) tokens i _ t a e refl
sign_seen tokens i l (token.Keyword k) t a e = valueless (sign_of l) tokens i _ t a e refl
sign_seen tokens i l token.Lower t a e = valueless (sign_of l) tokens i _ t a e refl
sign_seen tokens i l token.Upper t a e = valueless (sign_of l) tokens i _ t a e refl
sign_seen tokens i l token.Str t a e = valueless (sign_of l) tokens i _ t a e refl
sign_seen tokens i l token.SqlText t a e = valueless (sign_of l) tokens i _ t a e refl
sign_seen tokens i l token.XmlText t a e = valueless (sign_of l) tokens i _ t a e refl
sign_seen tokens i l token.Word t a e = valueless (sign_of l) tokens i _ t a e refl

pub no_sign : (tokens : List Lexeme) (i : ℕ) (l : Level) → drop i tokens ≡ [] → SignAt tokens i l None
no_sign tokens i l e = valueless_end (sign_of l) tokens i e

comparison_case : (tokens : List Lexeme) (i : ℕ) (s : Symbol) (t : Lexeme) → At tokens i t → t.kind ≡ token.Symbol s → (o : Option Binary) → compared s ≡ o → ComparisonAt tokens i o
comparison_case tokens i s t a e None f = valueless comparison_of tokens i (token.Symbol s) t a e f
comparison_case tokens i s t a e (Some o) f = (s, record { next = refl; t = t; at = a; is = e }, f)

pub comparison_seen : (tokens : List Lexeme) (i : ℕ) (k : TokenKind) (t : Lexeme) → At tokens i t → t.kind ≡ k → ComparisonAt tokens i (comparison_of k)
comparison_seen tokens i (token.Symbol s) t a e = comparison_case tokens i s t a e (compared s) refl
comparison_seen tokens i (token.Int n) t a e = valueless comparison_of tokens i _ t a e refl
comparison_seen tokens i (token.Keyword k) t a e = valueless comparison_of tokens i _ t a e refl
comparison_seen tokens i token.Lower t a e = valueless comparison_of tokens i _ t a e refl
comparison_seen tokens i token.Upper t a e = valueless comparison_of tokens i _ t a e refl
comparison_seen tokens i token.Str t a e = valueless comparison_of tokens i _ t a e refl
comparison_seen tokens i token.SqlText t a e = valueless comparison_of tokens i _ t a e refl
comparison_seen tokens i token.XmlText t a e = valueless comparison_of tokens i _ t a e refl
comparison_seen tokens i token.Word t a e = valueless comparison_of tokens i _ t a e refl

pub no_comparison : (tokens : List Lexeme) (i : ℕ) → drop i tokens ≡ [] → ComparisonAt tokens i None
no_comparison tokens i e = valueless_end comparison_of tokens i e
