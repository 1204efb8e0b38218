-- A list of tokens has one tree: where the rules of each nonterminal are told apart by the tokens, and each part of a rule
-- ends before what follows it.
use Rattle.std.specs.Prelude.{◌≡◌, ℕ, zero, suc, true, ◌+◌, ◌<◌, ◌≤◌, Bool, List, [], ◌∷◌, ◌++◌, refl}
use Rattle.std.proofs.Common.{arith, append_assoc, sym, inl, inr, ap, subst, ◌∙◌}
use Rattle.std.proofs.lemmas.List.{append_cancel_right}
use Rattle.ur_base.specs.declared.refusal.Span.{Span}
use Rattle.ur_lex.specs.declared.token.TokenKind.{TokenKind}
use Rattle.ur_lex.specs.declared.token.TokenKind.TheVariants as token_kind
use Rattle.ur_lex.specs.declared.token.Lexeme.{Lexeme}
use Rattle.ur_lex.specs.Spelling.{Text}
use Rattle.ur_parse_rules.specs.Rules.{Slot, mark, word, name, number, among, one, Values, Rule, Grammar, Sym, part, filled, IsSpan, AnyOf, Builds, Spells, Stops, Read, OneTree}
use Rattle.ur_parse_rules.proofs.Inversions.{pair_same, span_same, height, height-subst, nothing-out, token-out, no_plain, no_spelled, no_named, no_counted, no_token_of, part-out, produced-out}

module _ {N : Type 0} {Tree : N → Type 0} (G : Grammar Tree) where
  -- what a rule gives for these values may end before these tokens
  pub record Fits (p : N) (r : Rule Tree (Tree p)) (v : Values Tree r.slots) (rest : List Lexeme) : Type 0 where
    pub span : Span
    pub allowed : r.allows v ≡ true
    pub stops : Stops (G.more p (r.build span v)) rest

  -- a part ends before what fills these slots and stands behind them
  pub record Ends (more : TokenKind → Text → Bool) (slots : List (Slot N)) (P : Values Tree slots → List Lexeme → Type 0) : Type 0 where
    pub ends : (n : ℕ) (v : Values Tree slots) (taken rest : List Lexeme) → Spells G n (filled Tree slots v) taken → P v rest → Stops more (taken ++ rest)

  -- each part of a rule ends before what follows it
  abbrev pub AfterEach : (slots : List (Slot N)) → (Values Tree slots → List Lexeme → Type 0) → Type 0
  AfterEach [] P = Unit {0}
  AfterEach (mark k ∷ slots) P = AfterEach slots P
  AfterEach (word k w ∷ slots) P = AfterEach slots P
  AfterEach (name k ok ∷ slots) P = (w : Text) → AfterEach slots (λ v rest. P (w, v) rest)
  AfterEach (number ∷ slots) P = (n : ℕ) → AfterEach slots (λ v rest. P (n, v) rest)
  AfterEach (among ks ∷ slots) P = (t : Lexeme) → AfterEach slots (λ v rest. P (t, v) rest)
  AfterEach (one q ∷ slots) P = (x : Tree q) → (Ends (G.more q x) slots (λ v rest. P (x, v) rest) × AfterEach slots (λ v rest. P (x, v) rest))

  abbrev pub AllAfter : (p : N) → List (Rule Tree (Tree p)) → Type 0
  AllAfter p [] = Unit {0}
  AllAfter p (r ∷ rs) = AfterEach r.slots (λ v rest. Fits p r v rest) × AllAfter p rs

  -- the tokens tell which rule is read
  abbrev pub Chooses : (p : N) → (List Lexeme → ℕ) → ℕ → Rule Tree (Tree p) → Type 0
  Chooses p choice i r = (n : ℕ) (v : Values Tree r.slots) (taken rest : List Lexeme) → Spells G n (filled Tree r.slots v) taken → Fits p r v rest → choice (taken ++ rest) ≡ i

  -- the rules are told apart, counted from i
  abbrev pub AllChosen : (p : N) → (List Lexeme → ℕ) → ℕ → List (Rule Tree (Tree p)) → Type 0
  AllChosen p choice i [] = Unit {0}
  AllChosen p choice i (r ∷ rs) = Chooses p choice i r × AllChosen p choice (suc i) rs

  -- The nonterminal is read in one way, by the rule that is chosen.
  pub record Decided (choice : N → List Lexeme → ℕ) (p : N) : Type 0 where
    pub chosen : AllChosen p (choice p) 0 (G.rules p)
    pub after : AllAfter p (G.rules p)

  abbrev pub OnceBelow : ℕ → Type 0
  OnceBelow k = (p : N) (x y : Tree p) (n m : ℕ) (taken taken' rest rest' : List Lexeme) (d : Spells G n (part p x ∷ []) taken) → height G d < k → Spells G m (part p y ∷ []) taken' →
      taken ++ rest ≡ taken' ++ rest' → Stops (G.more p x) rest → Stops (G.more p y) rest' → (x ≡ y) × (rest ≡ rest')

  slots_once : (k : ℕ) → OnceBelow k → (slots : List (Slot N)) (P : Values Tree slots → List Lexeme → Type 0) → AfterEach slots P → (v v' : Values Tree slots) (n m : ℕ) (taken taken' rest rest' : List Lexeme)
      (d : Spells G n (filled Tree slots v) taken) → height G d < k → Spells G m (filled Tree slots v') taken' → taken ++ rest ≡ taken' ++ rest' → P v rest → P v' rest' → (v ≡ v') × (rest ≡ rest')
  slots_once k ih [] P a v v' n m ts ts' rest rest' d h e q pv pv' = (refl, (let z : ts ≡ [] = nothing-out G d in let z' : ts' ≡ [] = nothing-out G e in ap (λ y. y ++ rest) (sym z) ∙ q ∙ ap (λ y. y ++ rest') z'))
  slots_once k ih (mark kind ∷ slots) P a v v' n m ts ts' rest rest' d h e q pv pv' = let o = token-out G (no_plain G) d in let o' = token-out G (no_plain G) e in let l = o.5 in
      let s : (o.0 ∷ o.1) ++ rest ≡ (o'.0 ∷ o'.1) ++ rest' = ap (λ y. y ++ rest) (sym o.2) ∙ q ∙ ap (λ y. y ++ rest') o'.2 in
      slots_once k ih slots P a v v' n m o.1 o'.1 rest rest' o.4 (omega (arith, h, l)) o'.4 (cc) pv pv'
  slots_once k ih (word kind w ∷ slots) P a v v' n m ts ts' rest rest' d h e q pv pv' = let o = token-out G (no_spelled G) d in let o' = token-out G (no_spelled G) e in let l = o.5 in
      let s : (o.0 ∷ o.1) ++ rest ≡ (o'.0 ∷ o'.1) ++ rest' = ap (λ y. y ++ rest) (sym o.2) ∙ q ∙ ap (λ y. y ++ rest') o'.2 in
      slots_once k ih slots P a v v' n m o.1 o'.1 rest rest' o.4 (omega (arith, h, l)) o'.4 (cc) pv pv'
  slots_once k ih (name kind ok ∷ slots) P a v v' n m ts ts' rest rest' d h e q pv pv' = let o = token-out G (no_named G) d in let o' = token-out G (no_named G) e in let l = o.5 in
      let s : (o.0 ∷ o.1) ++ rest ≡ (o'.0 ∷ o'.1) ++ rest' = ap (λ y. y ++ rest) (sym o.2) ∙ q ∙ ap (λ y. y ++ rest') o'.2 in
      let t : o.0 ≡ o'.0 = cc in let w : v.0 ≡ v'.0 = sym o.3.1 ∙ ap (λ (y : Lexeme). y.content) t ∙ o'.3.1 in
      let r = slots_once k ih slots (λ u rest. P (v.0, u) rest) (a v.0) v.1 v'.1 n m o.1 o'.1 rest rest' o.4 (omega (arith, h, l)) o'.4 (cc) pv (subst (λ y. P (y, v'.1) rest') (sym w) pv') in
      (pair_same w r.0, r.1)
  slots_once k ih (number ∷ slots) P a v v' n m ts ts' rest rest' d h e q pv pv' = let o = token-out G (no_counted G) d in let o' = token-out G (no_counted G) e in let l = o.5 in
      let s : (o.0 ∷ o.1) ++ rest ≡ (o'.0 ∷ o'.1) ++ rest' = ap (λ y. y ++ rest) (sym o.2) ∙ q ∙ ap (λ y. y ++ rest') o'.2 in
      let t : o.0 ≡ o'.0 = cc in let i : token_kind.Int v.0 ≡ token_kind.Int v'.0 = sym o.3 ∙ ap (λ (y : Lexeme). y.kind) t ∙ o'.3 in let w : v.0 ≡ v'.0 = cc in
      let r = slots_once k ih slots (λ u rest. P (v.0, u) rest) (a v.0) v.1 v'.1 n m o.1 o'.1 rest rest' o.4 (omega (arith, h, l)) o'.4 (cc) pv (subst (λ y. P (y, v'.1) rest') (sym w) pv') in
      (pair_same w r.0, r.1)
  slots_once k ih (among ks ∷ slots) P a v v' n m ts ts' rest rest' d h e q pv pv' = let o = token-out G (no_token_of G) d in let o' = token-out G (no_token_of G) e in let l = o.5 in
      let s : (o.0 ∷ o.1) ++ rest ≡ (o'.0 ∷ o'.1) ++ rest' = ap (λ y. y ++ rest) (sym o.2) ∙ q ∙ ap (λ y. y ++ rest') o'.2 in
      let t : o.0 ≡ o'.0 = cc in let w : v.0 ≡ v'.0 = sym o.3.0 ∙ t ∙ o'.3.0 in
      let r = slots_once k ih slots (λ u rest. P (v.0, u) rest) (a v.0) v.1 v'.1 n m o.1 o'.1 rest rest' o.4 (omega (arith, h, l)) o'.4 (cc) pv (subst (λ y. P (y, v'.1) rest') (sym w) pv') in
      (pair_same w r.0, r.1)
  slots_once k ih (one p ∷ slots) P a v v' n m ts ts' rest rest' d h e q pv pv' = let o = part-out G d in let o' = part-out G e in let l = o.4 in let l' = o.6 in
      let s : o.0 ++ (o.1 ++ rest) ≡ o'.0 ++ (o'.1 ++ rest') = sym (append_assoc o.0 o.1 rest) ∙ ap (λ y. y ++ rest) (sym o.2) ∙ q ∙ ap (λ y. y ++ rest') o'.2 ∙ append_assoc o'.0 o'.1 rest' in
      let f = ih p v.0 v'.0 n m o.0 o'.0 (o.1 ++ rest) (o'.1 ++ rest') o.3 (omega (arith, h, l)) o'.3 s ((a v.0).0.ends n v.1 o.1 rest o.5 pv) ((a v'.0).0.ends m v'.1 o'.1 rest' o'.5 pv') in
      let r = slots_once k ih slots (λ u rest. P (v.0, u) rest) (a v.0).1 v.1 v'.1 n m o.1 o'.1 rest rest' o.5 (omega (arith, h, l')) o'.5 f.1 pv (subst (λ y. P (y, v'.1) rest') (sym f.0) pv') in
      (pair_same f.0 r.0, r.1)

  pub tail_chosen : (p : N) (choice : List Lexeme → ℕ) (i : ℕ) (rs : List (Rule Tree (Tree p))) → AllChosen p choice i rs → (x : Tree p) (q : List (Sym Tree)) (n : ℕ) (taken rest : List Lexeme) →
      AnyOf (Builds G p x q taken) rs → Spells G n q taken → Stops (G.more p x) rest → i ≤ choice (taken ++ rest)
  tail_chosen p choice i [] c x q n taken rest b d s = absurd b
  tail_chosen p choice i (r ∷ rs) c x q n taken rest (inl (v, span, is, al, bx, f)) d s =
      let e = c.0 n v taken rest (subst (λ z. Spells G n z taken) f d) (record { span = span; allowed = al; stops = subst (λ z. Stops (G.more p z) rest) bx s }) in omega (arith, e)
  tail_chosen p choice i (r ∷ rs) c x q n taken rest (inr b) d s = let e = tail_chosen p choice (suc i) rs c.1 x q n taken rest b d s in omega (arith, e)

  rules_once : (k : ℕ) → OnceBelow k → (p : N) (choice : List Lexeme → ℕ) (i : ℕ) (rs : List (Rule Tree (Tree p))) → AllChosen p choice i rs → AllAfter p rs → (x y : Tree p) (q q' : List (Sym Tree)) (n m : ℕ)
      (taken taken' rest rest' : List Lexeme) → AnyOf (Builds G p x q taken) rs → (d : Spells G n q taken) → height G d < k → AnyOf (Builds G p y q' taken') rs → Spells G m q' taken' → taken ++ rest ≡ taken' ++ rest' →
      Stops (G.more p x) rest → Stops (G.more p y) rest' → (x ≡ y) × (rest ≡ rest')
  rules_once k ih p choice i [] c a x y q q' n m taken taken' rest rest' b d h b' e eq s s' = absurd b
  rules_once k ih p choice i (r ∷ rs) c a x y q q' n m taken taken' rest rest' (inl (v, span, is, al, bx, f)) d h (inl (v', span', is', al', bx', f')) e eq s s' =
      let hs = height-subst G f d in
      let o = slots_once k ih r.slots (λ u rest. Fits p r u rest) a.0 v v' n m taken taken' rest rest' (subst (λ z. Spells G n z taken) f d) (omega (arith, h, hs)) (subst (λ z. Spells G m z taken') f' e) eq
      (record { span = span; allowed = al; stops = subst (λ z. Stops (G.more p z) rest) bx s }) (record { span = span'; allowed = al'; stops = subst (λ z. Stops (G.more p z) rest') bx' s' }) in
      let same : taken ≡ taken' = append_cancel_right taken taken' rest' (ap (λ z. taken ++ z) (sym o.1) ∙ eq) in
      let spans : span ≡ span' = span_same r.spanned span span' taken' (subst (λ z. IsSpan r.spanned span z) same is) is' in
      (bx ∙ ap (λ z. r.build z v) spans ∙ ap (λ z. r.build span' z) o.0 ∙ sym bx', o.1)
  rules_once k ih p choice i (r ∷ rs) c a x y q q' n m taken taken' rest rest' (inl (v, span, is, al, bx, f)) d h (inr b') e eq s s' =
      let z = c.0 n v taken rest (subst (λ z. Spells G n z taken) f d) (record { span = span; allowed = al; stops = subst (λ z. Stops (G.more p z) rest) bx s }) in
      let w = tail_chosen p choice (suc i) rs c.1 y q' m taken' rest' b' e s' in let same : choice (taken ++ rest) ≡ choice (taken' ++ rest') = ap choice eq in absurd (omega (arith, z, w, same))
  rules_once k ih p choice i (r ∷ rs) c a x y q q' n m taken taken' rest rest' (inr b) d h (inl (v, span, is, al, bx, f)) e eq s s' =
      let z = c.0 m v taken' rest' (subst (λ z. Spells G m z taken') f e) (record { span = span; allowed = al; stops = subst (λ z. Stops (G.more p z) rest') bx s' }) in
      let w = tail_chosen p choice (suc i) rs c.1 x q n taken rest b d s in let same : choice (taken ++ rest) ≡ choice (taken' ++ rest') = ap choice eq in absurd (omega (arith, z, w, same))
  rules_once k ih p choice i (r ∷ rs) c a x y q q' n m taken taken' rest rest' (inr b) d h (inr b') e eq s s' = rules_once k ih p choice (suc i) rs c.1 a.1 x y q q' n m taken taken' rest rest' b d h b' e eq s s'

  module _ (choice : N → List Lexeme → ℕ) (decided : (p : N) → Decided choice p) where
    pub once_below : (k : ℕ) → OnceBelow k
    once_below zero p x y n m taken taken' rest rest' d h e eq s s' = absurd (omega (arith, h))
    once_below (suc k) p x y n m taken taken' rest rest' d h e eq s s' = let o = produced-out G d in let o' = produced-out G e in let l = o.7 in let c = decided p in
        rules_once k (once_below k) p (choice p) 0 (G.rules p) c.chosen c.after x y o.1 o'.1 o.0 o'.0 o.2 o'.2 rest rest' o.4 o.6 (omega (arith, h, l)) o'.4 o'.6
        (ap (λ z. z ++ rest) (sym o.3) ∙ eq ∙ ap (λ z. z ++ rest') o'.3) s s'

    -- what is read is read once
    pub read_once : {n m : ℕ} {p : N} {tokens rest rest' : List Lexeme} {x y : Tree p} → Read G n p tokens rest x → Read G m p tokens rest' y → (x ≡ y) × (rest ≡ rest')
    read_once {n = n} {m = m} {p = p} {rest = rest} {rest' = rest'} {x = x} {y = y} a b =
        once_below (height G a.spells + 1) p x y n m a.taken b.taken rest rest' a.spells (omega arith) b.spells (sym a.split ∙ b.split) a.stops b.stops

    pub one_tree : (p : N) → OneTree G p
    one_tree p n m x y tokens d e = (once_below (height G d + 1) p x y n m tokens tokens [] [] d (omega arith) e refl tt tt).0
