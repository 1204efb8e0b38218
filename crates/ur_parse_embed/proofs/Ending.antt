-- Classes of tokens, one by one.
use Rattle.std.specs.Prelude.{◌≡◌, ℕ, Bool, true, false, List, [], ◌∷◌, drop, refl}
use Rattle.std.proofs.Common.{sym, ◌∙◌}
use Rattle.std.proofs.lemmas.Slice.Eq.{bytes_eq-Decides}
use Rattle.ur_lex.specs.declared.token.Symbol.TheVariants as symbol
use Rattle.ur_lex.specs.declared.token.TokenKind.TheVariants as token
use Rattle.ur_lex.specs.declared.token.Lexeme.{Lexeme}
use Rattle.ur_lex.specs.Spelling.{Text}
use Rattle.ur_parse_rules.specs.Rules.{Stops}
use Rattle.ur_parse_rules.specs.Places.{IsAt, Other, OfKind, Spelled, starts}
use Rattle.ur_parse_rules.proofs.Choices.{starts_at}
use Rattle.ur_parse_rules.specs.Classes.{Class, Classes, member, all_of, word_class}
use Rattle.ur_parse_rules.proofs.Tests.{or_first}
use Rattle.ur_parse_rules.proofs.Places.{missing}
use Rattle.ur_parse_embed.proofs.Words.{no_word}
use Rattle.ur_parse_embed.proofs.Comparing.{starts_word, skipped}

skip_first : (c : Class) (cs : Classes) (ts : List Lexeme) → Stops (member (c ∷ [])) ts → starts (member (c ∷ cs)) ts ≡ starts (member cs) ts
skip_first c cs [] st = refl
skip_first c cs (t ∷ ts) st = skipped (c ∷ []) cs t.kind t.content st

module _ {tokens : List Lexeme} {i : ℕ} (cs : Classes) where
  pub word_goes_on : {j : ℕ} {w : Text} → IsAt tokens i j (Spelled token.Upper w) → true ≡ starts (member (word_class token.Upper w ∷ cs)) (drop i tokens)
  word_goes_on {w = w} a = sym (starts_word (member (word_class token.Upper w ∷ cs)) a (or_first _ _ ((bytes_eq-Decides w w).1 refl)))

  pub word_skipped : {w : Text} (b : Bool) → Other tokens i (Spelled token.Upper w) → b ≡ starts (member cs) (drop i tokens) → b ≡ starts (member (word_class token.Upper w ∷ cs)) (drop i tokens)
  word_skipped {w = w} b o e = e ∙ sym (skip_first (word_class token.Upper w) cs (drop i tokens) (no_word refl o))

  pub comma_goes_on : {j : ℕ} → IsAt tokens i j (OfKind (token.Symbol symbol.Comma)) → true ≡ starts (member (all_of (token.Symbol symbol.Comma) ∷ cs)) (drop i tokens)
  comma_goes_on a = sym (starts_at (member (all_of (token.Symbol symbol.Comma) ∷ cs)) a (λ w. refl))

  pub comma_skipped : (b : Bool) → Other tokens i (OfKind (token.Symbol symbol.Comma)) → b ≡ starts (member cs) (drop i tokens) → b ≡ starts (member (all_of (token.Symbol symbol.Comma) ∷ cs)) (drop i tokens)
  comma_skipped b o e = e ∙ sym (skip_first (all_of (token.Symbol symbol.Comma)) cs (drop i tokens) (missing refl o))

-- nothing is in no class
pub none_starts : (ts : List Lexeme) → false ≡ starts (member []) ts
none_starts [] = refl
none_starts (t ∷ ts) = refl
