-- Derivations taken apart and put together.
use Rattle.std.specs.Prelude.{◌≡◌, ℕ, true, false, ◌+◌, ◌≤◌, Bool, List, [], ◌∷◌, ◌++◌, refl}
use Rattle.std.proofs.Common.{arith, append_assoc, sym, ap, subst, ◌∙◌}
use Rattle.std.proofs.lemmas.List.{append-nil}
use Rattle.ur_base.specs.declared.refusal.Span.{Span}
use Rattle.ur_lex.specs.declared.token.TokenKind.{TokenKind}
use Rattle.ur_lex.specs.declared.token.Lexeme.{Lexeme}
use Rattle.ur_lex.specs.Spelling.{Text}
use Rattle.ur_parse_rules.specs.Rules.{Slot, one, Grammar, Sym, plain, spelled, named, counted, token_of, part, IsToken, IsSpan, AnyOf, Builds, Spells, end, token, produced, Open, here, past, within}

pub pair_same : {A B : Type 0} {a : A} {b : B} {p : A × B} → a ≡ p.0 → b ≡ p.1 → (a, b) ≡ p
pair_same {b = b} {p = p} e f = ap (λ z. (z, b)) e ∙ ap (λ z. (p.0, z)) f

pub span_same : (b : Bool) (s s' : Span) (taken : List Lexeme) → IsSpan b s taken → IsSpan b s' taken → s ≡ s'
span_same true s s' taken (f, l, f0, l0, e) (f', l', f0', l0', e') = let p : f ≡ f' = cc in let q : l ≡ l' = cc in
    e ∙ ap (λ (z : Lexeme). record { file = z.span.file; from = z.span.from; to = l.span.to }) p ∙ ap (λ (z : Lexeme). record { file = f'.span.file; from = f'.span.from; to = z.span.to }) q ∙ sym e'
span_same false s s' taken e e' = e ∙ sym e'

module _ {N : Type 0} {Tree : N → Type 0} (G : Grammar Tree) where
  -- how many steps a derivation has
  unfoldable pub height : {n : ℕ} {symbols : List (Sym Tree)} {tokens : List Lexeme} → Spells G n symbols tokens → ℕ
  height end = 0
  height (token h d) = height d + 1
  height (produced c l d e) = height d + height e + 1

  pub height-subst : {n : ℕ} {a b : List (Sym Tree)} {tokens : List Lexeme} (e : a ≡ b) (d : Spells G n a tokens) → height (subst (λ z. Spells G n z tokens) e d) ≡ height d
  height-subst {n = n} {tokens = tokens} e d = sym (λ i. height {symbols = e i} (coe 0 i (j. Spells G n (e j) tokens) d))

  pub nothing-out : {n : ℕ} {tokens : List Lexeme} → Spells G n [] tokens → tokens ≡ []
  nothing-out end = refl

  -- the symbol is a token's
  abbrev pub NoPart : Sym Tree → Type 0
  NoPart s = (p : N) (x : Tree p) → s ≡ part p x → ⊥

  -- a token and what is behind it
  pub token-out : {n : ℕ} {s : Sym Tree} {symbols : List (Sym Tree)} {tokens : List Lexeme} → NoPart s → (d : Spells G n (s ∷ symbols) tokens) →
      (t : Lexeme) × (rest : List Lexeme) × (tokens ≡ t ∷ rest) × IsToken s t × (d' : Spells G n symbols rest) × (height d' + 1 ≤ height d)
  unfolding height
  token-out f (token {t = t} {tokens = r} h d) = (t, r, refl, h, d, omega arith)
  token-out f (produced {p = p} {x = x} b l d e) = absurd (f p x refl)

  pub no_plain : {k : TokenKind} → NoPart (plain k)
  no_plain p x e = cc

  pub no_spelled : {k : TokenKind} {w : Text} → NoPart (spelled k w)
  no_spelled p x e = cc

  pub no_named : {k : TokenKind} {ok : Text → Bool} {w : Text} → NoPart (named k ok w)
  no_named p x e = cc

  pub no_counted : {n : ℕ} → NoPart (counted n)
  no_counted p x e = cc

  pub no_token_of : {ks : List TokenKind} {t : Lexeme} → NoPart (token_of ks t)
  no_token_of p x e = cc

  -- the first part alone, and what is behind it
  pub part-out : {n : ℕ} {p : N} {x : Tree p} {symbols : List (Sym Tree)} {tokens : List Lexeme} (d : Spells G n (part p x ∷ symbols) tokens) →
      (inner rest : List Lexeme) × (tokens ≡ inner ++ rest) × (d' : Spells G n (part p x ∷ []) inner) × (height d' ≤ height d) × (e : Spells G n symbols rest) × (height e + 1 ≤ height d)
  unfolding height
  part-out (token h d) = elim h [ ]
  part-out {n = n} {p = p} {x = x} (produced {below = b} {production = q} {inner = i} {tokens = r} c l d e) =
      (i ++ [], r, ap (λ z. z ++ r) (sym (append-nil i)), produced c l d end, omega arith, e, omega arith)

  pieces : {n : ℕ} {p : N} {x : Tree p} {symbols : List (Sym Tree)} {tokens : List Lexeme} (d : Spells G n (part p x ∷ symbols) tokens) →
      (below : ℕ) × (q : List (Sym Tree)) × (i r : List Lexeme) × (tokens ≡ i ++ r) × AnyOf (Builds G p x q i) (G.rules p) × (G.cost p + below ≤ n)
      × (d' : Spells G below q i) × (height d' + 1 ≤ height d) × Spells G n symbols r
  unfolding height
  pieces (token h d) = elim h [ ]
  pieces (produced {below = b} {production = q} {inner = i} {tokens = r} c l d e) = (b, q, i, r, refl, c, l, d, omega arith, e)

  -- the rule of a part
  pub produced-out : {n : ℕ} {p : N} {x : Tree p} {tokens : List Lexeme} (d : Spells G n (part p x ∷ []) tokens) →
      (below : ℕ) × (q : List (Sym Tree)) × (i : List Lexeme) × (tokens ≡ i) × AnyOf (Builds G p x q i) (G.rules p) × (G.cost p + below ≤ n) × (d' : Spells G below q i) × (height d' + 1 ≤ height d)
  produced-out d = let o = pieces d in let same = o.4 ∙ ap (λ z. o.2 ++ z) (nothing-out o.9) ∙ append-nil o.2 in (o.0, o.1, o.2, same, o.5, o.6, o.7, o.8)

  pub wider : {n m : ℕ} {xs : List (Sym Tree)} {a : List Lexeme} → Spells G n xs a → n ≤ m → Spells G m xs a
  wider end h = end
  wider (token t d) h = token t (wider d h)
  wider (produced c l d e) h = produced c (omega (arith, l, h)) d (wider e h)

  pub append : {n : ℕ} {xs ys : List (Sym Tree)} {a b : List Lexeme} → Spells G n xs a → Spells G n ys b → Spells G n (xs ++ ys) (a ++ b)
  append end e = e
  append (token h d) e = token h (append d e)
  append {b = b} (produced {inner = i} {tokens = r} c l d d') e = rw (append_assoc i r b) (produced c l d (append d' e))

  -- a part by its rule
  pub by : {n below : ℕ} {p : N} {x : Tree p} {q : List (Sym Tree)} {tokens : List Lexeme} → AnyOf (Builds G p x q tokens) (G.rules p) → G.cost p + below ≤ n → Spells G below q tokens →
      Spells G n (part p x ∷ []) tokens
  by {n = n} {p = p} {x = x} {tokens = ts} c l d = rw append-nil at (let z : Spells G n (part p x ∷ []) (ts ++ []) = produced c l d end in z)

  pub open_longer : {p : N} {n : ℕ} {slots : List (Slot N)} {a : List Lexeme} → Open G (one p ∷ []) a n → Open G (one p ∷ slots) a n
  open_longer here = here
  open_longer (past v d o) = elim o [ ]
  open_longer (within c o) = within c o
