-- Ints in slots.
use Rattle.std.specs.Prelude.{◌≡◌, ℕ, ◌+◌, List, [], ◌∷◌, ◌++◌, drop, refl}
use Rattle.std.proofs.Common.{sym, ap, subst, ◌∙◌}
use Rattle.ur_base.specs.declared.refusal.Refusal.{Refusal}
use Rattle.ur_lex.specs.declared.token.TokenKind.{TokenKind}
use Rattle.ur_lex.specs.declared.token.TokenKind.TheVariants as token
use Rattle.ur_lex.specs.declared.token.Lexeme.{Lexeme}
use Rattle.ur_parse_rules.specs.Rules.{Slot, number, Values, Grammar, counted, end, past}
use Rattle.ur_parse_rules.specs.Rules as rules
use Rattle.ur_parse_rules.specs.Places.{At, IsAt, Other, OfKind, Unexpected}
use Rattle.ur_parse_rules.specs.Numbers.{IsInt, SeesInt, int_of}
use Rattle.ur_parse_rules.proofs.Inversions.{no_counted}
use Rattle.ur_parse_rules.proofs.Steps.{Lacks, Failing, wrong, deep, same_token, token_back, never_fits}

-- ---- what stands at a place

none_seen : (tokens : List Lexeme) (i : ℕ) (k : TokenKind) (t : Lexeme) → At tokens i t → t.kind ≡ k → ((n : ℕ) → k ≡ token.Int n → ⊥) → Other tokens i IsInt
none_seen tokens i k t a e f = record {
  other = λ u rest d is. let same : t ≡ u = (let s : drop i tokens ≡ t ∷ drop (i + 1) tokens = a.split in cc) in f is.0 (sym e ∙ ap (λ (z : Lexeme). z.kind) same ∙ is.1);
}

pub seen : (tokens : List Lexeme) (i : ℕ) (k : TokenKind) (t : Lexeme) → At tokens i t → t.kind ≡ k → SeesInt tokens i (int_of k)
seen tokens i (token.Int n) t a e = record { next = refl; t = t; at = a; is = e }
seen tokens i token.Lower t a e = none_seen tokens i _ t a e (λ n z. cc)
seen tokens i token.Upper t a e = none_seen tokens i _ t a e (λ n z. cc)
seen tokens i token.Str t a e = none_seen tokens i _ t a e (λ n z. cc)
seen tokens i token.SqlText t a e = none_seen tokens i _ t a e (λ n z. cc)
seen tokens i token.XmlText t a e = none_seen tokens i _ t a e (λ n z. cc)
seen tokens i token.Word t a e = none_seen tokens i _ t a e (λ n z. cc)
seen tokens i (token.Keyword k) t a e = none_seen tokens i _ t a e (λ n z. cc)
seen tokens i (token.Symbol s) t a e = none_seen tokens i _ t a e (λ n z. cc)

pub seen_nothing : (tokens : List Lexeme) (i : ℕ) → drop i tokens ≡ [] → Other tokens i IsInt
seen_nothing tokens i e = record { other = λ u rest d is. absurd (let z : u ∷ rest ≡ [] = sym d ∙ e in cc) }

-- ---- slots

module _ {N : Type 0} {Tree : N → Type 0} {G : Grammar Tree} where
  pub not_number : {slots : List (Slot N)} {tokens : List Lexeme} {i : ℕ} → Other tokens i IsInt → Lacks G (number ∷ slots) (drop i tokens)
  not_number {tokens = tokens} {i = i} o = record {
    none = λ n v rest f. let b = token_back (no_counted G) (drop i tokens) f.taken rest f.split f.spells in o.other b.0 (b.1 ++ rest) b.2 (v.0, b.3);
  }

  module _ {n : ℕ} {slots : List (Slot N)} {tokens : List Lexeme} {i : ℕ} {r : Refusal} where
    pub no_number : {P : ℕ × Values Tree slots → List Lexeme → Type 0} → Unexpected tokens i IsInt r → Failing G n (number ∷ slots) P (drop i tokens) r
    no_number u = never_fits u.says (λ m v rest f p. (not_number u.other).none m v rest f)

    pub number_read : {j m : ℕ} {P : ℕ × Values Tree slots → List Lexeme → Type 0} → IsAt tokens i j (OfKind (token.Int m)) → Failing G n slots (λ v rest. P (m, v) rest) (drop j tokens) r →
        Failing G n (number ∷ slots) P (drop i tokens) r
    number_read {m = m} {P = P} a h = let same : (k : ℕ) (t : Lexeme) → a.t ≡ t → t.kind ≡ token.Int k → k ≡ m = (λ k t e is. let z : token.Int k ≡ token.Int m = sym is ∙ ap (λ (z : Lexeme). z.kind) (sym e) ∙ a.is in cc) in record {
      fails = λ after. elim (h.fails (after m)) [
        | wrong says none ↦ wrong says (λ k v rest f pv. let b = token_back (no_counted G) (drop i tokens) f.taken rest f.split f.spells in let s = same_token a b.0 (b.1 ++ rest) b.2 in
            none k v.1 rest (record { taken = b.1; split = s.1; spells = b.4 }) (subst (λ z. P (z, v.1) rest) (same v.0 b.0 s.0 b.3) pv))
        | deep taken rest says none split opened ↦ deep (a.t ∷ taken) rest says
            (λ v rest f pv. let b = token_back (no_counted G) (drop i tokens) f.taken rest f.split f.spells in let s = same_token a b.0 (b.1 ++ rest) b.2 in
            none v.1 rest (record { taken = b.1; split = s.1; spells = b.4 }) (subst (λ z. P (z, v.1) rest) (same v.0 b.0 s.0 b.3) pv))
            (a.at.split ∙ ap (λ z. a.t ∷ z) (rw a.next at split)) (past {m = 0} {inner = a.t ∷ []} (m, tt) (rules.token {s = counted m} a.is end) opened)
      ];
    }
