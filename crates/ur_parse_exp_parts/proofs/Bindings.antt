-- A binder before `<-`.
use Rattle.std.specs.Prelude.{◌≡◌, ◌+◌, ℕ, true, List, [], ◌∷◌, drop, refl}
use Rattle.std.proofs.Common.{◌∙◌, ap}
use Rattle.ur_base.specs.declared.refusal.Refusal.{Refusal}
use Rattle.ur_lex.specs.declared.token.Symbol.TheVariants as symbol
use Rattle.ur_lex.specs.declared.token.TokenKind.TheVariants as token
use Rattle.ur_lex.specs.declared.token.Lexeme.{Lexeme}
use Rattle.ur_lex.specs.Spelling.{Text}
use Rattle.ur_parse_rules.specs.Rules.{Refused}
use Rattle.ur_parse_rules.specs.Places.{IsAt, IsName, Other, OfKind, Passing, Unexpected, starts}
use Rattle.ur_parse_rules.proofs.Steps.{mark_read, name_read, no_mark, no_name, refused_by}
use Rattle.ur_parse_rules.proofs.Choices.{chosen_mark_at, if_true}
use Rattle.ur_parse_rules.specs.Classes.{member, all_of, symbol_class}
use Rattle.ur_parse_rules.specs.Words.{is_name}
use Rattle.ur_parse_rules.specs.ExpParts.{exp}
use Rattle.ur_parse_rules.specs.Parts.{of_exp}
use Rattle.ur_parse_rules.specs.Language.{language}
use Rattle.ur_parse_rules.proofs.Choice.{choice}
use Rattle.ur_parse_rules.proofs.AllDecided.{decided}
use Rattle.ur_parse_rules.proofs.Tests.{and_true}
use Rattle.ur_parse_rules.proofs.Places.{contradicted}
use Rattle.ur_parse_exp_parts.specs.Bindings.{BindsOne, ignored, named}

bound_chosen : (t u : Lexeme) (us : List Lexeme) → t.kind ≡ token.Lower → u.kind ≡ token.Symbol symbol.LeftArrow → choice (of_exp exp) (t ∷ u ∷ us) ≡ 1
bound_chosen t u us e f =
    let a : member (all_of token.Lower ∷ []) t.kind t.content ≡ true = rw e refl in
    let b : starts (member (symbol_class symbol.LeftArrow ∷ [])) (u ∷ us) ≡ true = rw f refl in
    if_true _ (and_true {a = member (all_of token.Lower ∷ []) t.kind t.content} {b = starts (member (symbol_class symbol.LeftArrow ∷ [])) (u ∷ us)} a b)

pub binds_word : {tokens : List Lexeme} {i k j : ℕ} → IsAt tokens i k (OfKind token.Lower) → IsAt tokens k j (OfKind (token.Symbol symbol.LeftArrow)) → choice (of_exp exp) (drop i tokens) ≡ 1
binds_word {tokens = tokens} {i = i} a b = let s : drop (i + 1) tokens ≡ b.t ∷ drop (i + 1 + 1) tokens = rw a.next at b.at.split in
    ap (choice (of_exp exp)) (a.at.split ∙ ap (λ z. a.t ∷ z) s) ∙ bound_chosen a.t b.t (drop (i + 1 + 1) tokens) a.is b.is

pub binds_name : {tokens : List Lexeme} {i k j : ℕ} {x : Text} → IsName tokens i k token.Lower (is_name true) x → IsAt tokens k j (OfKind (token.Symbol symbol.LeftArrow)) → choice (of_exp exp) (drop i tokens) ≡ 1
binds_name a b = let w : IsAt _ _ _ (OfKind token.Lower) = record { next = a.next; t = a.t; at = a.at; is = a.kind } in binds_word w b

module _ {tokens : List Lexeme} {i : ℕ} {r : Refusal} (m n : ℕ) (e : 1 + m ≡ n) where
  pub arrow_missing : IsAt tokens i (i + 1) (OfKind (token.Symbol symbol.Underscore)) → Unexpected tokens (i + 1) (OfKind (token.Symbol symbol.LeftArrow)) r → Refused language n (of_exp exp) (drop i tokens) r
  arrow_missing a u = refused_by decided 0 m e (chosen_mark_at (choice (of_exp exp)) a (λ w s us. refl)) (mark_read a (no_mark u))

  pub no_variable : BindsOne tokens i → Other tokens i (OfKind (token.Symbol symbol.Underscore)) → Unexpected tokens i (Passing token.Lower (is_name true)) r → Refused language n (of_exp exp) (drop i tokens) r
  no_variable (ignored a) o u = contradicted a o
  no_variable (named a b) o u = refused_by decided 1 m e (binds_word a b) (no_name u)

  pub no_arrow : {k : ℕ} {x : Text} → BindsOne tokens i → Other tokens i (OfKind (token.Symbol symbol.Underscore)) → IsName tokens i k token.Lower (is_name true) x → Unexpected tokens k (OfKind (token.Symbol symbol.LeftArrow)) r →
      Refused language n (of_exp exp) (drop i tokens) r
  no_arrow (ignored a) o q u = contradicted a o
  no_arrow (named a b) o q u = refused_by decided 1 m e (binds_word a b) (name_read q (no_mark u))
