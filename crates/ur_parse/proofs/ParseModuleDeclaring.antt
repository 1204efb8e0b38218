-- What a declaration begins with.
use Rattle.std.specs.Prelude.{◌≡◌, ℕ, List, [], drop, refl}
use Rattle.std.specs.Prelude.{false}
use Rattle.ur_base.specs.declared.refusal.Refusal.{Refusal}
use Rattle.ur_base.specs.Stopping.{Says}
use Rattle.ur_lex.specs.declared.token.Keyword.{Keyword}
use Rattle.ur_lex.specs.declared.token.Keyword.TheVariants as keyword
use Rattle.ur_lex.specs.declared.token.Symbol.{Symbol}
use Rattle.ur_lex.specs.declared.token.Symbol.TheVariants as symbol
use Rattle.ur_lex.specs.declared.token.TokenKind.{TokenKind}
use Rattle.ur_lex.specs.declared.token.TokenKind.TheVariants as token
use Rattle.ur_lex.specs.declared.token.Lexeme.{Lexeme}
use Rattle.ur_lex.specs.Spelling.{Text}
use Rattle.ur_parse_rules.specs.Rules.{Refused, syntax}
use Rattle.ur_parse_rules.specs.Places.{At, Other, OfKind, starts}
use Rattle.ur_parse_rules.proofs.Steps.{not_mark, none_of}
use Rattle.ur_parse_rules.specs.Classes.{member}
use Rattle.ur_parse_rules.specs.DeclParts.{decl}
use Rattle.ur_parse_rules.specs.Ends.{decl_starts}
use Rattle.ur_parse_rules.specs.Parts.{of_decl}
use Rattle.ur_parse_rules.specs.Language.{language}
use Rattle.ur_parse.specs.Words.{is_declaring, declares, NoLongDecl}

keyword_starts : (k : Keyword) (w : Text) → is_declaring k ≡ member decl_starts (token.Keyword k) w
keyword_starts keyword.Con w = refl
keyword_starts _ w = refl

symbol_starts : (s : Symbol) (w : Text) → false ≡ member decl_starts (token.Symbol s) w
symbol_starts symbol.LParen w = refl
symbol_starts _ w = refl

declares_is : (k : TokenKind) (w : Text) → declares k ≡ member decl_starts k w
declares_is (token.Keyword k) w = keyword_starts k w
declares_is (token.Symbol s) w = symbol_starts s w
declares_is (token.Int n) w = refl
declares_is token.Lower w = refl
declares_is token.Upper w = refl
declares_is token.Str w = refl
declares_is token.SqlText w = refl
declares_is token.XmlText w = refl
declares_is token.Word w = refl

-- the token that is seen tells whether a declaration begins
pub seen_declares : (tokens : List Lexeme) (i : ℕ) (k : TokenKind) → (t : Lexeme) × At tokens i t × (t.kind ≡ k) → declares k ≡ starts (member decl_starts) (drop i tokens)
seen_declares tokens i k (t, a, e) = let s = a.split in rw (s, ← e) (declares_is t.kind t.content)

-- none begins at the end
pub end_declares : (tokens : List Lexeme) (i : ℕ) → drop i tokens ≡ [] → false ≡ starts (member decl_starts) (drop i tokens)
end_declares tokens i e = rw e refl

module _ {n : ℕ} {tokens : List Lexeme} {at : ℕ} {r : Refusal} where
  pub no_decl : Says r 5 [] [] → NoLongDecl tokens at → Other tokens at (OfKind (token.Keyword keyword.Con)) → Other tokens at (OfKind (token.Keyword keyword.Type)) → Other tokens at (OfKind (token.Keyword keyword.Cookie)) →
      Other tokens at (OfKind (token.Keyword keyword.Sequence)) → Refused language n (of_decl decl) (drop at tokens) r
  no_decl says l con type cookie sequence =
      syntax says (none_of (not_mark con, (not_mark type, (not_mark l.datatype, (not_mark l.table, (not_mark sequence, (not_mark cookie, (not_mark l.val, (not_mark l.functions, tt)))))))))
