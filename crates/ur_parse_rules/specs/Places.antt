-- What readers at a place of the tokens see and answer.
use Rattle.std.specs.Prelude.{◌≡◌, ◌<◌, ◌≤◌, ◌+◌, ◌-◌, ◌^◌, ℕ, Bool, true, false, codes, List, [], ◌∷◌, length, drop, slice_get, Option, Some, None, Result, Ok, Err, ⊤}
use Rattle.ur_base.specs.declared.refusal.Refusal.{Refusal}
use Rattle.ur_base.specs.declared.refusal.Span.{Span}
use Rattle.ur_base.specs.declared.refusal.Stop.{Stop}
use Rattle.ur_base.specs.declared.refusal.Stop.TheVariants as stop
use Rattle.ur_base.specs.Stopping.{Says}
use Rattle.ur_lex.specs.declared.token.TokenKind.{TokenKind}
use Rattle.ur_lex.specs.declared.token.Lexeme.{Lexeme}
use Rattle.ur_lex.specs.Spelling.{Text}
use Rattle.ur_parse_rules.specs.KindNumbers.{same_kind, is_one}
use Rattle.ur_parse_rules.specs.Rules.{Grammar, Read, Refused, no_span}

-- the token at a place
pub record At (tokens : List Lexeme) (i : ℕ) (t : Lexeme) : Type 0 where
  pub below : i < length tokens
  pub fits : i + 1 < 2 ^ 64
  pub split : drop i tokens ≡ t ∷ drop (i + 1) tokens

-- the token's kind, or the end
abbrev pub Sees : List Lexeme → ℕ → Option TokenKind → Type 0
Sees tokens i None = drop i tokens ≡ []
Sees tokens i (Some k) = (t : Lexeme) × At tokens i t × (t.kind ≡ k)

-- no such token stands at the place
pub record Other (tokens : List Lexeme) (i : ℕ) (Is : Lexeme → Type 0) : Type 0 where
  pub other : (t : Lexeme) (rest : List Lexeme) → drop i tokens ≡ t ∷ rest → Is t → ⊥

-- the answer is E05, since no such token stands there
pub record Unexpected (tokens : List Lexeme) (i : ℕ) (Is : Lexeme → Type 0) (r : Refusal) : Type 0 where
  pub says : Says r 5 [] []
  pub other : Other tokens i Is

-- a token stands at i, of which this holds, and j is behind it
pub record IsAt (tokens : List Lexeme) (i j : ℕ) (Is : Lexeme → Type 0) : Type 0 where
  pub next : j ≡ i + 1
  pub t : Lexeme
  pub at : At tokens i t
  pub is : Is t

-- the token is of this kind
abbrev pub OfKind : TokenKind → Lexeme → Type 0
OfKind k t = t.kind ≡ k

-- and spelled so
abbrev pub Spelled : TokenKind → Text → Lexeme → Type 0
Spelled k w t = (t.kind ≡ k) × (t.content ≡ w)

-- it is of one of these kinds
abbrev pub Among : List TokenKind → Lexeme → Type 0
Among ks t = is_one ks t.kind ≡ true

-- and its content passes a test
abbrev pub Passing : TokenKind → (Text → Bool) → Lexeme → Type 0
Passing k ok t = (t.kind ≡ k) × (ok t.content ≡ true)

-- a name stands at i, and j is behind it
pub record IsName (tokens : List Lexeme) (i j : ℕ) (k : TokenKind) (ok : Text → Bool) (x : Text) : Type 0 where
  pub next : j ≡ i + 1
  pub t : Lexeme
  pub at : At tokens i t
  pub kind : t.kind ≡ k
  pub passes : ok t.content ≡ true
  pub is : x ≡ t.content

-- the place goes on within the tokens
pub record Moves (tokens : List Lexeme) (i j : ℕ) : Type 0 where
  pub on : i < j
  pub within : j ≤ length tokens

-- the answer is E05
abbrev pub SaysSyntax : Stop → Type 0
SaysSyntax (stop.Refused r) = Says r 5 [] []
SaysSyntax stop.Memory = ⊥

-- the answer is E06, or memory is short
abbrev pub SaysDeep : Stop → Type 0
SaysDeep (stop.Refused r) = Says r 6 (codes "257") (codes "256")
SaysDeep stop.Memory = ⊤

-- from one token to another
abbrev pub span_between : Option Lexeme → Option Lexeme → Span
span_between (Some first) (Some last) = record { file = first.span.file; from = first.span.from; to = last.span.to }
span_between _ _ = no_span

-- the span of the tokens from i up to j
abbrev pub span_of : List Lexeme → ℕ → ℕ → Span
span_of tokens i j = span_between (slice_get tokens i) (slice_get tokens (j - 1))

-- a fact of a stop's refusal
abbrev pub OfRefusal : Stop → (Refusal → Type 0) → Type 0
OfRefusal (stop.Refused r) P = P r
OfRefusal stop.Memory P = ⊤

-- a fact of the refusal, if the answer is one
abbrev pub IfRefused : {A : Type 0} → Result A Stop → (Refusal → Type 0) → Type 0
IfRefused (Ok a) P = ⊤
IfRefused (Err e) P = OfRefusal e P

module _ {N : Type 0} {Tree : N → Type 0} (G : Grammar Tree) where
  -- the nonterminal is read from i to j
  abbrev pub Reads : ℕ → List Lexeme → ℕ → ℕ → (p : N) → Tree p → Type 0
  Reads n tokens i j p x = Read G n p (drop i tokens) (drop j tokens) x

  -- why the nonterminal is not read at i
  abbrev pub Refuses : ℕ → List Lexeme → ℕ → N → Refusal → Type 0
  Refuses n tokens i p r = Refused G n p (drop i tokens) r

-- ---- tests of tokens

-- no token goes on
abbrev pub never : TokenKind → Text → Bool
never k w = false

-- a token of this kind goes on
abbrev pub only : TokenKind → TokenKind → Text → Bool
only a k w = same_kind a k

-- any content
abbrev pub any : Text → Bool
any w = true

-- any values
abbrev pub always : {A : Type 0} → A → Bool
always v = true

-- whether the token at the begin passes a test
abbrev pub starts : (TokenKind → Text → Bool) → List Lexeme → Bool
starts more [] = false
starts more (t ∷ ts) = more t.kind t.content
