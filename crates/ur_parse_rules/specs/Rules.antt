-- Grammars by rules: each nonterminal has rules, each rule its slots and the tree that it builds of what fills them.
use Rattle.std.specs.Prelude.{◌≡◌, ◌⊎◌, ℕ, true, false, ◌+◌, ◌-◌, ◌≤◌, Bool, List, [], ◌∷◌, ◌++◌, length, Some, slice_get, codes}
use Rattle.ur_base.specs.declared.refusal.Span.{Span}
use Rattle.ur_base.specs.declared.refusal.Refusal.{Refusal}
use Rattle.ur_base.specs.Stopping.{Says}
use Rattle.ur_lex.specs.declared.token.TokenKind.{TokenKind}
use Rattle.ur_lex.specs.declared.token.TokenKind.TheVariants as token_kind
use Rattle.ur_lex.specs.declared.token.Lexeme.{Lexeme}
use Rattle.ur_lex.specs.Spelling.{Text}
use Rattle.ur_parse_rules.specs.KindNumbers.{is_one}

-- What a rule is made of.
pub data Slot (N : Type 0) : Type 0 where
  -- a token of this kind, which gives no value: a keyword or a symbol
  mark : TokenKind → Slot N
  -- a token of this kind that is spelled so, which gives no value
  word : TokenKind → Text → Slot N
  -- a token of this kind whose content passes a test; its value is the content
  name : TokenKind → (Text → Bool) → Slot N
  -- an int; its value is the number
  number : Slot N
  -- a token of one of these kinds; its value is the token
  among : List TokenKind → Slot N
  -- a nonterminal; its value is its tree
  one : N → Slot N

-- what fills the slots
abbrev pub Values : {N : Type 0} → (N → Type 0) → List (Slot N) → Type 0
Values Tree [] = Unit {0}
Values Tree (mark k ∷ slots) = Values Tree slots
Values Tree (word k w ∷ slots) = Values Tree slots
Values Tree (name k ok ∷ slots) = Text × Values Tree slots
Values Tree (number ∷ slots) = ℕ × Values Tree slots
Values Tree (among ks ∷ slots) = Lexeme × Values Tree slots
Values Tree (one p ∷ slots) = Tree p × Values Tree slots

-- One right side, with the test that its values pass and the tree that they give.
pub record Rule {N : Type 0} (Tree : N → Type 0) (T : Type 0) : Type 0 where
  pub slots : List (Slot N)
  -- whether `build` is given the span of the rule's tokens
  pub spanned : Bool
  pub allows : Values Tree slots → Bool
  pub build : Span → Values Tree slots → T

-- The rules of each nonterminal, the 1 of one that counts for nesting, and whether a token goes on behind a tree: a tree
-- ends only before a token that does not.
pub record Grammar {N : Type 0} (Tree : N → Type 0) : Type 0 where
  pub rules : (p : N) → List (Rule Tree (Tree p))
  pub cost : N → ℕ
  pub more : (p : N) → Tree p → TokenKind → Text → Bool

-- slots with what fills them
pub data Sym {N : Type 0} (Tree : N → Type 0) : Type 0 where
  plain : TokenKind → Sym Tree
  spelled : TokenKind → Text → Sym Tree
  named : TokenKind → (Text → Bool) → Text → Sym Tree
  counted : ℕ → Sym Tree
  token_of : List TokenKind → Lexeme → Sym Tree
  part : (p : N) → Tree p → Sym Tree

-- the slots filled
abbrev pub filled : {N : Type 0} (Tree : N → Type 0) (slots : List (Slot N)) → Values Tree slots → List (Sym Tree)
filled Tree [] v = []
filled Tree (mark k ∷ slots) v = plain k ∷ filled Tree slots v
filled Tree (word k w ∷ slots) v = spelled k w ∷ filled Tree slots v
filled Tree (name k ok ∷ slots) v = named k ok v.0 ∷ filled Tree slots v.1
filled Tree (number ∷ slots) v = counted v.0 ∷ filled Tree slots v.1
filled Tree (among ks ∷ slots) v = token_of ks v.0 ∷ filled Tree slots v.1
filled Tree (one p ∷ slots) v = part p v.0 ∷ filled Tree slots v.1

-- the token is what the symbol says
abbrev pub IsToken : {N : Type 0} {Tree : N → Type 0} → Sym Tree → Lexeme → Type 0
IsToken (plain k) t = t.kind ≡ k
IsToken (spelled k w) t = (t.kind ≡ k) × (t.content ≡ w)
IsToken (named k ok w) t = (t.kind ≡ k) × (t.content ≡ w) × (ok w ≡ true)
IsToken (counted n) t = t.kind ≡ token_kind.Int n
IsToken (token_of ks u) t = (t ≡ u) × (is_one ks t.kind ≡ true)
IsToken (part p x) t = ⊥

-- from the first token to the last
abbrev pub Covers : Span → List Lexeme → Type 0
Covers span tokens = (first last : Lexeme) × (slice_get tokens 0 ≡ Some first) × (slice_get tokens (length tokens - 1) ≡ Some last)
    × (span ≡ record { file = first.span.file; from = first.span.from; to = last.span.to })

-- a span that is not asked for
abbrev pub no_span : Span
no_span = record { file = 0; from = 0; to = 0 }

-- the span that a rule's tree is built with
abbrev pub IsSpan : Bool → Span → List Lexeme → Type 0
IsSpan true span tokens = Covers span tokens
IsSpan false span tokens = span ≡ no_span

-- one of the rules
abbrev pub AnyOf : {R : Type 0} → (R → Type 0) → List R → Type 0
AnyOf P [] = ⊥
AnyOf P (r ∷ rs) = P r ⊎ AnyOf P rs

-- no token that goes on comes first
abbrev pub Stops : (TokenKind → Text → Bool) → List Lexeme → Type 0
Stops more [] = Unit {0}
Stops more (t ∷ ts) = more t.kind t.content ≡ false

module _ {N : Type 0} {Tree : N → Type 0} (G : Grammar Tree) where
  -- the rule builds the tree of what fills its slots
  abbrev pub Builds : (p : N) → Tree p → List (Sym Tree) → List Lexeme → Rule Tree (Tree p) → Type 0
  Builds p x production tokens r =
      (v : Values Tree r.slots) × (span : Span) × IsSpan r.spanned span tokens × (r.allows v ≡ true) × (x ≡ r.build span v) × (production ≡ filled Tree r.slots v)

  -- The tokens are spelled by the symbols, with at most n nested nonterminals that count.
  pub data Spells : ℕ → List (Sym Tree) → List Lexeme → Type 0 where
    end : {n : ℕ} → Spells n [] []
    token : {n : ℕ} {s : Sym Tree} {t : Lexeme} {symbols : List (Sym Tree)} {tokens : List Lexeme} →
        IsToken s t → Spells n symbols tokens → Spells n (s ∷ symbols) (t ∷ tokens)
    produced : {n below : ℕ} {p : N} {x : Tree p} {production symbols : List (Sym Tree)} {inner tokens : List Lexeme} →
        AnyOf (Builds p x production inner) (G.rules p) → G.cost p + below ≤ n →
        Spells below production inner → Spells n symbols tokens → Spells n (part p x ∷ symbols) (inner ++ tokens)

  -- The tokens are the finished parts before a place that stands within n nonterminals that count, each within the one
  -- before it.
  pub data Open : List (Slot N) → List Lexeme → ℕ → Type 0 where
    here : {p : N} {slots : List (Slot N)} → Open (one p ∷ slots) [] (G.cost p)
    past : {n m : ℕ} {s : Slot N} {slots : List (Slot N)} {inner tokens : List Lexeme} (v : Values Tree (s ∷ [])) →
        Spells m (filled Tree (s ∷ []) v) inner → Open slots tokens n → Open (s ∷ slots) (inner ++ tokens) n
    within : {n : ℕ} {p : N} {inner slots : List (Slot N)} {tokens : List Lexeme} →
        AnyOf (λ (r : Rule Tree (Tree p)). r.slots ≡ inner) (G.rules p) → Open inner tokens n → Open (one p ∷ slots) tokens (G.cost p + n)

  -- A front of the tokens spells the tree, and what is behind it does not go on.
  pub record Read (n : ℕ) (p : N) (tokens rest : List Lexeme) (x : Tree p) : Type 0 where
    pub taken : List Lexeme
    pub split : tokens ≡ taken ++ rest
    pub spells : Spells n (part p x ∷ []) taken
    pub stops : Stops (G.more p x) rest

  -- no tree is read with at most n nested
  abbrev pub NoneReads : ℕ → N → List Lexeme → Type 0
  NoneReads n p tokens = (x : Tree p) (rest : List Lexeme) → Read n p tokens rest x → ⊥

  -- nor with more
  pub record Missing (p : N) (tokens : List Lexeme) : Type 0 where
    pub none : (n : ℕ) → NoneReads n p tokens

  -- none is read within n, and behind some front n + 1 are open
  pub record TooDeep (n : ℕ) (p : N) (tokens : List Lexeme) : Type 0 where
    pub none : NoneReads n p tokens
    pub taken : List Lexeme
    pub rest : List Lexeme
    pub split : tokens ≡ taken ++ rest
    pub deep : Open (one p ∷ []) taken (n + 1)

  -- Why no tree is read within n: E05 where none is read at all, E06 where more are open.
  pub data Refused (n : ℕ) (p : N) (tokens : List Lexeme) (r : Refusal) : Type 0 where
    syntax : Says r 5 [] [] → Missing p tokens → Refused n p tokens r
    nested : Says r 6 (codes "257") (codes "256") → TooDeep n p tokens → Refused n p tokens r

  -- A list of tokens is spelled by at most one tree, whatever the nesting.
  abbrev pub OneTree : N → Type 0
  OneTree p = (n m : ℕ) (x y : Tree p) (tokens : List Lexeme) → Spells n (part p x ∷ []) tokens → Spells m (part p y ∷ []) tokens → x ≡ y
