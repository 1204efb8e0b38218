-- The tokens of an expression have their brackets in pairs, so that they are raw code.
use Rattle.std.specs.Prelude.{◌≡◌, ℕ, zero, suc, Bool, true, ◌+◌, ◌<◌, ◌≤◌, List, [], ◌∷◌, ◌++◌, refl}
use Rattle.std.proofs.Common.{arith, append_assoc, sym, inl, inr, ap, subst, ◌∙◌}
use Rattle.std.proofs.lemmas.List.{append-nil}
use Rattle.ur_lex.specs.declared.token.Symbol.{Symbol}
use Rattle.ur_lex.specs.declared.token.Symbol.TheVariants as symbol
use Rattle.ur_lex.specs.declared.token.TokenKind.{TokenKind}
use Rattle.ur_lex.specs.declared.token.TokenKind.TheVariants as token
use Rattle.ur_lex.specs.declared.token.Lexeme.{Lexeme}
use Rattle.ur_parse_rules.specs.KindNumbers.{is_one}
use Rattle.ur_parse_rules.specs.Rules.{Sym, part, AnyOf, Builds, Spells, end, token as token_then}
use Rattle.ur_parse_rules.proofs.Inversions.{height, height-subst, nothing-out, part-out, produced-out, wider, append, by}
use Rattle.ur_parse_rules.specs.CodeParts.{pieces, piece}
use Rattle.ur_parse_rules.specs.Parts.{Tree, of_code}
use Rattle.ur_parse_rules.specs.Ends.{plain_kinds}
use Rattle.ur_parse_rules.specs.Language.{language, rules}
use Rattle.ur_parse_rules.proofs.RawCode.{code_same}

-- ---- three kinds of brackets

pub data Bracket : Type 0 where
  round : Bracket
  square : Bracket
  curly : Bracket

abbrev pub left : Bracket → Symbol
left round = symbol.LParen
left square = symbol.LBracket
left curly = symbol.LBrace

abbrev pub right : Bracket → Symbol
right round = symbol.RParen
right square = symbol.RBracket
right curly = symbol.RBrace

abbrev pub is_left : Bracket → TokenKind → Bool
is_left b k = is_one (token.Symbol (left b) ∷ []) k

abbrev pub is_right : Bracket → TokenKind → Bool
is_right b k = is_one (token.Symbol (right b) ∷ []) k

module _ (n : ℕ) where
  -- ---- tokens with their brackets in pairs

  abbrev pub Pieces : List Lexeme → Type 0
  Pieces ts = Spells language n (part (of_code pieces) ts ∷ []) ts

  abbrev Piece : List Lexeme → Type 0
  Piece ts = Spells language n (part (of_code piece) ts ∷ []) ts

  pub no_pieces : Pieces []
  no_pieces = by language {below = n} (inl (tt, _, refl, refl, refl, refl)) (omega arith) end

  one_more : (a b : List Lexeme) → Piece a → Pieces b → Pieces (a ++ b)
  one_more a b d e = by language {below = n} (inr (inl ((a, (b, tt)), _, refl, refl, refl, refl))) (omega arith) (append language d e)

  plain_piece : (t : Lexeme) → is_one plain_kinds t.kind ≡ true → Piece (t ∷ [])
  plain_piece t h = by language {below = n} (inr (inr (inr (inl ((t, tt), _, refl, refl, refl, refl))))) (omega arith) (token_then (refl, h) end)

  bracket_piece : (b : Bracket) (l r : Lexeme) (ts : List Lexeme) → is_left b l.kind ≡ true → is_right b r.kind ≡ true → Pieces ts → Piece (l ∷ ts ++ r ∷ [])
  bracket_piece round l r ts h k d = by language {below = n} (inl ((l, (ts, (r, tt))), _, refl, refl, refl, refl)) (omega arith) (token_then (refl, h) (append language d (token_then (refl, k) end)))
  bracket_piece square l r ts h k d = by language {below = n} (inr (inl ((l, (ts, (r, tt))), _, refl, refl, refl, refl))) (omega arith) (token_then (refl, h) (append language d (token_then (refl, k) end)))
  bracket_piece curly l r ts h k d = by language {below = n} (inr (inr (inl ((l, (ts, (r, tt))), _, refl, refl, refl, refl)))) (omega arith) (token_then (refl, h) (append language d (token_then (refl, k) end)))

  -- ---- pieces behind pieces

  abbrev JoinBelow : ℕ → Type 0
  JoinBelow k = (m : ℕ) → m ≤ n → (x a b : List Lexeme) (d : Spells language m (part (of_code pieces) x ∷ []) a) → height language d < k → Pieces b → Pieces (a ++ b)

  join_cases : (k : ℕ) → JoinBelow k → (m : ℕ) → m ≤ n → (x a b : List Lexeme) (q : List (Sym Tree)) → AnyOf (Builds language (of_code pieces) x q a) (rules (of_code pieces)) → (d : Spells language m q a) → height language d < k → Pieces b → Pieces (a ++ b)
  join_cases k ih m c x a b q (inl (v, span, is, al, bx, f)) d h p =
      let z : a ≡ [] = nothing-out language (subst (λ y. Spells language m y a) f d) in subst (λ y. Pieces (y ++ b)) (sym z) p
  join_cases k ih m c x a b q (inr (inl (v, span, is, al, bx, f))) d h p =
      let s = height-subst language f d in let g = subst (λ y. Spells language m y a) f d in
      let o = part-out language g in let l = o.6 in let r = part-out language o.5 in let u = r.4 in
      let first_same : v.0 ≡ o.0 = code_same piece m v.0 o.0 o.3 in
      let head : Piece o.0 = wider language (subst (λ y. Spells language m (part (of_code piece) y ∷ []) o.0) first_same o.3) c in
      let tail : o.1 ≡ r.0 = r.2 ∙ ap (λ y. r.0 ++ y) (nothing-out language r.5) ∙ append-nil r.0 in
      let rest : Pieces (r.0 ++ b) = ih m c v.1.0 r.0 b r.3 (omega (arith, h, s, l, u)) p in
      let whole : o.0 ++ (r.0 ++ b) ≡ a ++ b = ap (λ y. o.0 ++ (y ++ b)) (sym tail) ∙ sym (append_assoc o.0 o.1 b) ∙ ap (λ y. y ++ b) (sym o.2) in
      subst Pieces whole (one_more o.0 (r.0 ++ b) head rest)
  join_cases k ih m c x a b q (inr (inr z)) d h p = absurd z

  join_below : (k : ℕ) → JoinBelow k
  join_below zero m c x a b d h p = absurd (omega (arith, h))
  join_below (suc k) m c x a b d h p =
      let o = produced-out language d in let l = o.7 in let e = o.5 in
      subst (λ y. Pieces (y ++ b)) (sym o.3) (join_cases k (join_below k) o.0 (omega (arith, c, e)) x o.2 b o.1 o.4 o.6 (omega (arith, h, l)) p)

  pub joined : (a b : List Lexeme) → Pieces a → Pieces b → Pieces (a ++ b)
  joined a b d p = join_below (height language d + 1) n (omega arith) a a b d (omega arith) p

  -- ---- pieces between closing brackets

  -- up to each of the brackets in turn, and then to the end, brackets stand in pairs
  abbrev pub Closing : List Bracket → List Lexeme → Type 0
  Closing [] ts = Pieces ts
  Closing (b ∷ bs) ts = (a : List Lexeme) × (t : Lexeme) × (rest : List Lexeme) × (ts ≡ a ++ t ∷ rest) × Pieces a × (is_right b t.kind ≡ true) × Closing bs rest

  before : (bs : List Bracket) (a ts : List Lexeme) → Pieces a → Closing bs ts → Closing bs (a ++ ts)
  before [] a ts d h = joined a ts d h
  before (b ∷ bs) a ts d (i, t, rest, e, p, k, h) = (a ++ i, t, rest, ap (λ y. a ++ y) e ∙ sym (append_assoc a i (t ∷ rest)), joined a i d p, k, h)

  pub plain_before : (bs : List Bracket) (t : Lexeme) (ts : List Lexeme) → is_one plain_kinds t.kind ≡ true → Closing bs ts → Closing bs (t ∷ ts)
  plain_before bs t ts h k = before bs (t ∷ []) ts (one_more (t ∷ []) [] (plain_piece t h) no_pieces) k

  pub left_before : (b : Bracket) (bs : List Bracket) (t : Lexeme) (ts : List Lexeme) → is_left b t.kind ≡ true → Closing (b ∷ bs) ts → Closing bs (t ∷ ts)
  left_before b bs t ts h (i, r, rest, e, p, k, c) =
      let group : Piece (t ∷ i ++ r ∷ []) = bracket_piece b t r i h k p in
      let whole : (t ∷ i ++ r ∷ []) ++ rest ≡ t ∷ ts = ap (λ y. t ∷ y) (append_assoc i (r ∷ []) rest ∙ sym e) in
      subst (Closing bs) whole (before bs (t ∷ i ++ r ∷ []) rest (subst Pieces (append-nil (t ∷ i ++ r ∷ [])) (one_more (t ∷ i ++ r ∷ []) [] group no_pieces)) c)

  pub right_before : (b : Bracket) (bs : List Bracket) (t : Lexeme) (ts : List Lexeme) → is_right b t.kind ≡ true → Closing bs ts → Closing (b ∷ bs) (t ∷ ts)
  right_before b bs t ts h c = ([], t, ts, refl, no_pieces, h, c)

  pub behind : (bs cs : List Bracket) (a ts : List Lexeme) → Closing bs a → Closing cs ts → Closing (bs ++ cs) (a ++ ts)
  behind [] cs a ts d c = before cs a ts d c
  behind (b ∷ bs) cs a ts (i, t, rest, e, p, k, h) c = (i, t, rest ++ ts, ap (λ y. y ++ ts) e ∙ append_assoc i (t ∷ rest) ts, p, k, behind bs cs rest ts h c)
