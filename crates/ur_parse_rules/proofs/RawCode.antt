-- Raw code is the tokens that it is read from, and begins with `[` only as `[]`, as expressions do.
use Rattle.std.specs.Prelude.{◌≡◌, ℕ, zero, suc, Bool, true, false, not, ◌&&◌, ◌||◌, ◌+◌, ◌<◌, List, [], ◌∷◌, ◌++◌, refl}
use Rattle.std.proofs.Common.{sym, ◌∙◌, ap, subst, inl, inr, arith}
use Rattle.std.proofs.lemmas.List.{append-nil}
use Rattle.ur_lex.specs.declared.token.TokenKind.{TokenKind}
use Rattle.ur_lex.specs.declared.token.Lexeme.{Lexeme}
use Rattle.ur_parse_rules.specs.Rules.{Sym, part, token_of, Spells, AnyOf, Builds}
use Rattle.ur_parse_rules.proofs.Inversions.{height, height-subst, nothing-out, token-out, no_token_of, part-out, produced-out}
use Rattle.ur_parse_rules.specs.Quoted.{Quoting, expressions, raw, Code, Raw}
use Rattle.ur_parse_rules.specs.CodeParts.{CodePart, pieces, piece}
use Rattle.ur_parse_rules.specs.Parts.{of_quote, of_code}
use Rattle.ur_parse_rules.specs.Codes.{begins_well}
use Rattle.ur_parse_rules.specs.Language.{language, rules}
use Rattle.ur_parse_rules.proofs.Tests.{false_true}
use Rattle.ur_parse_rules.proofs.Checks.{part_begun}
use Rattle.ur_parse_rules.proofs.Starts.{first, empty}
use Rattle.ur_parse_rules.proofs.Firsts.{fit}
use Rattle.ur_parse_rules.proofs.Leads.{hits}
use Rattle.ur_parse_rules.proofs.Choice.{bracket, a_bracket}
use Rattle.ur_parse_rules.proofs.Watches.{no_bracket}

abbrev SameBelow : ℕ → Type 0
SameBelow k = (p : CodePart) (n : ℕ) (x taken : List Lexeme) (d : Spells language n (part (of_code p) x ∷ []) taken) → height language d < k → x ≡ taken

two : (k : ℕ) → SameBelow k → (n : ℕ) (a b taken : List Lexeme) (d : Spells language n (part (of_code piece) a ∷ part (of_code pieces) b ∷ []) taken) → height language d < k → a ++ b ≡ taken
two k ih n a b taken d h = let o = part-out language d in let o' = part-out language o.5 in let l = o.4 in let l' = o.6 in let m = o'.4 in
    let i : a ≡ o.0 = ih piece n a o.0 o.3 (omega (arith, h, l)) in let j : b ≡ o'.0 = ih pieces n b o'.0 o'.3 (omega (arith, h, l', m)) in
    let z : o.1 ≡ o'.0 = o'.2 ∙ ap (λ y. o'.0 ++ y) (nothing-out language o'.5) ∙ append-nil o'.0 in
    ap (λ y. y ++ b) i ∙ ap (λ y. o.0 ++ y) (j ∙ sym z) ∙ sym o.2

within_brackets : (k : ℕ) → SameBelow k → (n : ℕ) (as_ bs : List TokenKind) (l r : Lexeme) (ts taken : List Lexeme) (d : Spells language n (token_of as_ l ∷ part (of_code pieces) ts ∷ token_of bs r ∷ []) taken) → height language d < k →
    l ∷ ts ++ r ∷ [] ≡ taken
within_brackets k ih n as_ bs l r ts taken d h = let o = token-out language (no_token_of language) d in let p = part-out language o.4 in let t = token-out language (no_token_of language) p.5 in
    let g = o.5 in let g' = p.4 in let i : ts ≡ p.0 = ih pieces n ts p.0 p.3 (omega (arith, h, g, g')) in
    let z : p.1 ≡ r ∷ [] = t.2 ∙ ap (λ y. t.0 ∷ y) (nothing-out language t.4) ∙ ap (λ (y : Lexeme). y ∷ []) t.3.0 in
    let w : o.1 ≡ ts ++ r ∷ [] = p.2 ∙ ap (λ y. y ++ p.1) (sym i) ∙ ap (λ y. ts ++ y) z in
    sym (o.2 ∙ ap (λ (y : Lexeme). y ∷ o.1) o.3.0 ∙ ap (λ y. l ∷ y) w)

pieces_same : (k : ℕ) → SameBelow k → (n : ℕ) (x taken : List Lexeme) (q : List (Sym _)) → AnyOf (Builds language (of_code pieces) x q taken) (rules (of_code pieces)) → (d : Spells language n q taken) → height language d < k → x ≡ taken
pieces_same k ih n x taken q (inl (v, span, is, al, b, f)) d h = b ∙ sym (nothing-out language (subst (λ z. Spells language n z taken) f d))
pieces_same k ih n x taken q (inr (inl (v, span, is, al, b, f))) d h = let s = height-subst language f d in b ∙ two k ih n v.0 v.1.0 taken (subst (λ z. Spells language n z taken) f d) (omega (arith, h, s))
pieces_same k ih n x taken q (inr (inr c)) d h = absurd c

piece_same : (k : ℕ) → SameBelow k → (n : ℕ) (x taken : List Lexeme) (q : List (Sym _)) → AnyOf (Builds language (of_code piece) x q taken) (rules (of_code piece)) → (d : Spells language n q taken) → height language d < k → x ≡ taken
piece_same k ih n x taken q (inl (v, span, is, al, b, f)) d h = let s = height-subst language f d in b ∙ within_brackets k ih n _ _ v.0 v.1.1.0 v.1.0 taken (subst (λ z. Spells language n z taken) f d) (omega (arith, h, s))
piece_same k ih n x taken q (inr (inl (v, span, is, al, b, f))) d h = let s = height-subst language f d in b ∙ within_brackets k ih n _ _ v.0 v.1.1.0 v.1.0 taken (subst (λ z. Spells language n z taken) f d) (omega (arith, h, s))
piece_same k ih n x taken q (inr (inr (inl (v, span, is, al, b, f)))) d h = let s = height-subst language f d in b ∙ within_brackets k ih n _ _ v.0 v.1.1.0 v.1.0 taken (subst (λ z. Spells language n z taken) f d) (omega (arith, h, s))
piece_same k ih n x taken q (inr (inr (inr (inl (v, span, is, al, b, f))))) d h = let o = token-out language (no_token_of language) (subst (λ z. Spells language n z taken) f d) in
    b ∙ sym (o.2 ∙ ap (λ y. o.0 ∷ y) (nothing-out language o.4) ∙ ap (λ (y : Lexeme). y ∷ []) o.3.0)
piece_same k ih n x taken q (inr (inr (inr (inr c)))) d h = absurd c

same_below : (k : ℕ) → SameBelow k
same_below zero p n x taken d h = absurd (omega (arith, h))
same_below (suc k) pieces n x taken d h = let o = produced-out language d in let l = o.7 in pieces_same k (same_below k) o.0 x o.2 o.1 o.4 o.6 (omega (arith, h, l)) ∙ sym o.3
same_below (suc k) piece n x taken d h = let o = produced-out language d in let l = o.7 in piece_same k (same_below k) o.0 x o.2 o.1 o.4 o.6 (omega (arith, h, l)) ∙ sym o.3

pub code_same : (p : CodePart) (n : ℕ) (x taken : List Lexeme) → Spells language n (part (of_code p) x ∷ []) taken → x ≡ taken
code_same p n x taken d = same_below (height language d + 1) p n x taken d (omega arith)

-- ---- raw code

raw_cases : (n : ℕ) (x : Raw) (taken : List Lexeme) (q : List (Sym _)) → AnyOf (Builds language (of_quote raw) x q taken) (rules (of_quote raw)) → Spells language n q taken → (x.tokens ≡ taken) × (begins_well x.tokens ≡ true)
raw_cases n x taken q (inl (v, span, is, al, b, f)) d = let e = subst (λ z. Spells language n z taken) f d in
    let w : x.tokens ≡ v.0 ++ v.1.0 = ap (λ (y : Raw). y.tokens) b in
    (w ∙ two (height language e + 1) (same_below (height language e + 1)) n v.0 v.1.0 taken e (omega arith), ap begins_well w ∙ al)
raw_cases n x taken q (inr c) d = absurd c

pub raw_is : (n : ℕ) (x : Raw) (taken : List Lexeme) → Spells language n (part (of_quote raw) x ∷ []) taken → (x.tokens ≡ taken) × (begins_well x.tokens ≡ true)
raw_is n x taken d = let o = produced-out language d in let r = raw_cases o.0 x o.2 o.1 o.4 o.6 in (r.0 ∙ sym o.3, r.1)

-- ---- `[` and then not `]`

only_well : (m s : Bool) → (not m || s) ≡ true → (m && not s) ≡ false
only_well true true h = refl
only_well true false h = false_true h
only_well false s h = refl

never_well : (m b : Bool) → (not m || false) ≡ true → (m && b) ≡ false
never_well true b h = false_true h
never_well false b h = refl

well_hits : (t : Lexeme) (ts us : List Lexeme) → begins_well (t ∷ ts) ≡ true → hits bracket false a_bracket (t ∷ ts ++ us) ≡ false
well_hits t [] us h = never_well _ _ h
well_hits t (u ∷ ts) us h = only_well _ _ h

exp_cases : (n : ℕ) (x : Code expressions) (taken us : List Lexeme) (q : List (Sym _)) → AnyOf (Builds language (of_quote expressions) x q taken) (rules (of_quote expressions)) → Spells language n q taken → hits bracket false a_bracket (taken ++ us) ≡ false
exp_cases n x taken us q (inl (v, span, is, al, b, f)) d = let o = part-out language (subst (λ z. Spells language n z taken) f d) in
    let s : taken ≡ o.0 = o.2 ∙ ap (λ y. o.0 ++ y) (nothing-out language o.5) ∙ append-nil o.0 in rw s (no_bracket n v.0 o.0 us o.3)
exp_cases n x taken us q (inr c) d = absurd c

-- the code of an antiquote goes on with `]` behind `[`
pub no_bracket_first : (q : Quoting) (n : ℕ) (x : Code q) (taken us : List Lexeme) → Spells language n (part (of_quote q) x ∷ []) taken → hits bracket false a_bracket (taken ++ us) ≡ false
no_bracket_first expressions n x taken us d = let o = produced-out language d in let e = o.3 in rw e (exp_cases o.0 x o.2 us o.1 o.4 o.6)
no_bracket_first raw n x taken us d = let r = raw_is n x taken d in elim (part_begun language first empty fit (of_quote raw) n x taken d) [
  | inl y ↦ false_true y.1
  | inr y ↦ (let e = y.2 in rw e (well_hits y.0 y.1 us (ap begins_well (sym e ∙ sym r.0) ∙ r.1)))
]
