-- A reader that follows the rules: it computes the tree of tokens, for closed examples.
use Rattle.std.specs.Prelude.{ℕ, zero, suc, Bool, true, false, ◌&&◌, ◌-◌, nat_le, List, [], ◌∷◌, length, slice_get, Option, Some, None}
use Rattle.std.specs.Str.{bytes_eq}
use Rattle.ur_base.specs.declared.refusal.Span.{Span}
use Rattle.ur_lex.specs.declared.token.TokenKind.{TokenKind}
use Rattle.ur_lex.specs.declared.token.TokenKind.TheVariants as token_kind
use Rattle.ur_lex.specs.declared.token.Lexeme.{Lexeme}
use Rattle.ur_lex.specs.Spelling.{Text}
use Rattle.ur_parse_rules.specs.KindNumbers.{same_kind, is_one}
use Rattle.ur_parse_rules.specs.Places.{span_between}
use Rattle.ur_parse_rules.specs.Rules.{Slot, mark, word, name, number, among, one, Values, Rule, no_span}
use Rattle.ur_parse_rules.specs.Parts.{Part, Tree}
use Rattle.ur_parse_rules.specs.Language.{rules, cost}
use Rattle.ur_parse_rules.proofs.Choice.{choice}

abbrev Found : Type 0 → Type 0
Found A = Option (A × List Lexeme)

abbrev mapped : {A B : Type 0} → (A → B) → Found A → Found B
mapped f None = None
mapped f (Some r) = Some (f r.0, r.1)

abbrev Reads : Type 0
Reads = (p : Part) → List Lexeme → Found (Tree p)

-- a token of a kind that passes a test
abbrev token_at : (TokenKind → Text → Bool) → List Lexeme → Found Lexeme
token_at ok [] = None
token_at ok (t ∷ ts) = elim (ok t.kind t.content) [ true ↦ Some (t, ts) | false ↦ None ]

abbrev int_of : TokenKind → Option ℕ
int_of (token_kind.Int n) = Some n
int_of _ = None

abbrev then_fill : {A B C : Type 0} → (A → B → C) → Found A → (List Lexeme → Found B) → Found C
then_fill f None g = None
then_fill f (Some r) g = mapped (f r.0) (g r.1)

abbrev int_at : List Lexeme → Found ℕ
int_at [] = None
int_at (t ∷ ts) = elim (int_of t.kind) [ Some n ↦ Some (n, ts) | None ↦ None ]

abbrev fill : Reads → (slots : List (Slot Part)) → List Lexeme → Found (Values Tree slots)
fill rd [] ts = Some (tt, ts)
fill rd (mark k ∷ slots) ts = then_fill (λ _ v. v) (token_at (λ j w. same_kind k j) ts) (fill rd slots)
fill rd (word k u ∷ slots) ts = then_fill (λ _ v. v) (token_at (λ j w. same_kind k j && bytes_eq u w) ts) (fill rd slots)
fill rd (name k ok ∷ slots) ts = then_fill (λ t v. (t.content, v)) (token_at (λ j w. same_kind k j && ok w) ts) (fill rd slots)
fill rd (number ∷ slots) ts = then_fill (λ n v. (n, v)) (int_at ts) (fill rd slots)
fill rd (among ks ∷ slots) ts = then_fill (λ t v. (t, v)) (token_at (λ j w. is_one ks j) ts) (fill rd slots)
fill rd (one p ∷ slots) ts = then_fill (λ a v. (a, v)) (rd p ts) (fill rd slots)

abbrev span_to : List Lexeme → List Lexeme → Span
span_to ts rest = span_between (slice_get ts 0) (slice_get ts ((length ts - length rest) - 1))

abbrev built : {T : Type 0} (r : Rule Tree T) → List Lexeme → Found (Values Tree r.slots) → Found T
built r ts None = None
built r ts (Some (v, rest)) = elim (r.allows v) [ true ↦ Some (r.build (elim r.spanned [ true ↦ span_to ts rest | false ↦ no_span ]) v, rest) | false ↦ None ]

abbrev by_rule : {T : Type 0} → Reads → List (Rule Tree T) → ℕ → List Lexeme → Found T
by_rule rd [] i ts = None
by_rule rd (r ∷ rs) zero ts = built r ts (fill rd r.slots ts)
by_rule rd (r ∷ rs) (suc i) ts = by_rule rd rs i ts

-- the first number bounds the work, the second the nesting
abbrev pub read : ℕ → ℕ → (p : Part) → List Lexeme → Found (Tree p)
read zero depth p ts = None
read (suc n) depth p ts = elim (nat_le (cost p) depth) [ true ↦ by_rule (read n (depth - cost p)) (rules p) (choice p ts) ts | false ↦ None ]

-- the tree of all tokens
abbrev pub whole : {A : Type 0} → Found A → Option A
whole (Some (a, [])) = Some a
whole _ = None
