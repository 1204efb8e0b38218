-- Some rules are told apart by more than one token: which tokens may stand behind a few first ones.
use Rattle.std.specs.Prelude.{◌≡◌, ℕ, zero, suc, Bool, true, false, not, ◌&&◌, ◌||◌, ◌+◌, ◌<◌, List, [], ◌∷◌, ◌++◌, refl}
use Rattle.std.proofs.Common.{sym, ◌∙◌, subst, inl, inr, arith, append_assoc}
use Rattle.ur_lex.specs.declared.token.Lexeme.{Lexeme}
use Rattle.ur_parse_rules.specs.Rules.{Slot, mark, word, name, number, among, one, Values, Rule, Grammar, Sym, part, filled, AnyOf, Builds, Spells}
use Rattle.ur_parse_rules.specs.Places.{starts}
use Rattle.ur_parse_rules.proofs.Inversions.{height, height-subst, nothing-out, token-out, no_plain, no_spelled, no_named, no_counted, no_token_of, part-out, produced-out}
use Rattle.ur_parse_rules.specs.Classes.{Classes, member}
use Rattle.ur_parse_rules.proofs.Tests.{false_true, and_left, and_right, not_true, or_true, apart, within, nor_both, inside}
use Rattle.ur_parse_rules.proofs.Checks.{firsts, nullable, implies, implied, firsts_fit, begun, part_begun, of_mark, of_word, of_name, of_number, of_among}

-- ---- what is watched: tokens of these classes one behind the other, and then one of a set, or then none of it

abbrev pub turned : Bool → Bool → Bool
turned true b = b
turned false b = not b

abbrev pub misses : Classes → Bool → Classes → Bool
misses set true a = apart set a
misses set false a = within a set

module _ (set : Classes) (wanted : Bool) where
  abbrev pub behind : List Lexeme → Bool
  behind us = turned wanted (starts (member set) us)

  abbrev pub hits : List Classes → List Lexeme → Bool
  hits [] us = behind us
  hits (s ∷ ss) [] = false
  hits (s ∷ ss) (t ∷ ts) = member s t.kind t.content && hits ss ts

  -- The flag is whether something is known of what stands behind.
  module _ {N : Type 0} (first : N → Classes) (empty : N → Bool) (known : Bool) (lead : N → Bool) where
    abbrev pub trails : List (Slot N) → Bool
    trails slots = misses set wanted (firsts first empty slots) && implies (nullable first empty slots) known

    -- no hit comes from slots that are read from a state on
    abbrev pub leads : Bool → List Classes → List (Slot N) → Bool
    leads full [] slots = trails slots
    leads full (s ∷ ss) [] = (known && not wanted) && apart s set
    leads full (s ∷ ss) (one q ∷ slots) = not (empty q) && (apart s (first q) || (full && (lead q && implies known (trails slots))))
    leads full (s ∷ ss) (mark k ∷ slots) = apart s (firsts first empty (mark k ∷ [])) || leads false ss slots
    leads full (s ∷ ss) (word k w ∷ slots) = apart s (firsts first empty (word k w ∷ [])) || leads false ss slots
    leads full (s ∷ ss) (name k ok ∷ slots) = apart s (firsts first empty (name k ok ∷ [])) || leads false ss slots
    leads full (s ∷ ss) (number ∷ slots) = apart s (firsts first empty (number ∷ [])) || leads false ss slots
    leads full (s ∷ ss) (among ks ∷ slots) = apart s (firsts first empty (among ks ∷ [])) || leads false ss slots

    abbrev pub all_lead : {Tree : N → Type 0} {T : Type 0} → List Classes → List (Rule Tree T) → Bool
    all_lead ws [] = true
    all_lead ws (r ∷ rs) = leads true ws r.slots && all_lead ws rs

and_false : (a b : Bool) → b ≡ false → (a && b) ≡ false
and_false true b e = e
and_false false b e = refl

left_false : (a b : Bool) → a ≡ false → (a && b) ≡ false
left_false true b e = false_true (sym e)
left_false false b e = refl

true_false : {A : Type 0} {b : Bool} → b ≡ true → b ≡ false → A
true_false e f = false_true (sym f ∙ e)

of_not : (b : Bool) → not b ≡ false → b ≡ true
of_not true e = refl
of_not false e = sym e

module _ {N : Type 0} {Tree : N → Type 0} (G : Grammar Tree) (first : N → Classes) (empty : N → Bool) (fit : (p : N) → firsts_fit first empty p (G.rules p) ≡ true)
    (set : Classes) (wanted known : Bool) (lead : N → Bool) where
  abbrev Known : List Lexeme → Type 0
  Known us = known ≡ true → behind set wanted us ≡ false

  begun_behind : (wanted : Bool) (a : Classes) (t : Lexeme) (us : List Lexeme) → misses set wanted a ≡ true → member a t.kind t.content ≡ true → behind set wanted (t ∷ us) ≡ false
  begun_behind true a t us m h = nor_both set a t.kind t.content m h
  begun_behind false a t us m h = let z = inside a set t.kind t.content m h in rw z refl

  trail : (slots : List (Slot N)) (n : ℕ) (v : Values Tree slots) (taken us : List Lexeme) → Spells G n (filled Tree slots v) taken → trails set wanted first empty known lead slots ≡ true → Known us →
      behind set wanted (taken ++ us) ≡ false
  trail slots n v taken us d t f = elim (begun G first empty fit slots n v taken d) [
    | inl y ↦ (let e = y.0 in rw e (f (implied (nullable first empty slots) known y.1 (and_right _ _ t))))
    | inr y ↦ (let e = y.2 in rw e (begun_behind wanted (firsts first empty slots) y.0 (y.1 ++ us) (and_left _ _ t) y.3))
  ]

  -- what stands behind begins with one of the set
  known_first : (s : Classes) (ss : List Classes) (wanted : Bool) (us : List Lexeme) → not wanted ≡ true → apart s set ≡ true → behind set wanted us ≡ false → hits set wanted (s ∷ ss) us ≡ false
  known_first s ss true us w a b = false_true w
  known_first s ss false [] w a b = refl
  known_first s ss false (t ∷ ts) w a b = left_false _ _ (nor_both s set t.kind t.content a (of_not (member set t.kind t.content) b))

  module _ (ws : List Classes) (led : (p : N) → implies (lead p) (all_lead set wanted first empty known lead ws (G.rules p)) ≡ true) where
    abbrev LedBelow : ℕ → Type 0
    LedBelow k = (p : N) → lead p ≡ true → (n : ℕ) (x : Tree p) (taken us : List Lexeme) (d : Spells G n (part p x ∷ []) taken) → height G d < k → Known us → hits set wanted ws (taken ++ us) ≡ false

    one_token : (s : Classes) (ss : List Classes) (a : Classes) (t : Lexeme) (ts : List Lexeme) (b : Bool) → (apart s a || b) ≡ true → member a t.kind t.content ≡ true → (b ≡ true → hits set wanted ss ts ≡ false) → hits set wanted (s ∷ ss) (t ∷ ts) ≡ false
    one_token s ss a t ts b h m f = or_true (apart s a) b h (λ y. left_false _ _ (nor_both s a t.kind t.content y m)) (λ y. and_false _ _ (f y))

    slots_led : (k : ℕ) → LedBelow k → (full : Bool) (now : List Classes) → (full ≡ true → now ≡ ws) → (slots : List (Slot N)) → leads set wanted first empty known lead full now slots ≡ true →
        (n : ℕ) (v : Values Tree slots) (taken us : List Lexeme) (d : Spells G n (filled Tree slots v) taken) → height G d < k → Known us → hits set wanted now (taken ++ us) ≡ false
    slots_led k ih full [] f slots l n v taken us d h b = trail slots n v taken us d l b
    slots_led k ih full (s ∷ ss) f [] l n v taken us d h b = let e = nothing-out G d in let c = and_left _ _ l in
        rw e (known_first s ss wanted us (and_right known _ c) (and_right _ _ l) (b (and_left _ _ c)))
    slots_led k ih full (s ∷ ss) f (mark a ∷ slots) l n v taken us d h b = let o = token-out G (no_plain G) d in let e = o.2 in let q = o.5 in
        rw e (one_token s ss (firsts first empty (mark a ∷ [])) o.0 (o.1 ++ us) _ l (of_mark first empty a o.0 o.3)
        (λ y. slots_led k ih false ss (λ z. false_true z) slots y n v o.1 us o.4 (omega (arith, h, q)) b))
    slots_led k ih full (s ∷ ss) f (word a w ∷ slots) l n v taken us d h b = let o = token-out G (no_spelled G) d in let e = o.2 in let q = o.5 in
        rw e (one_token s ss (firsts first empty (word a w ∷ [])) o.0 (o.1 ++ us) _ l (of_word first empty a w o.0 o.3.0 o.3.1)
        (λ y. slots_led k ih false ss (λ z. false_true z) slots y n v o.1 us o.4 (omega (arith, h, q)) b))
    slots_led k ih full (s ∷ ss) f (name a ok ∷ slots) l n v taken us d h b = let o = token-out G (no_named G) d in let e = o.2 in let q = o.5 in
        rw e (one_token s ss (firsts first empty (name a ok ∷ [])) o.0 (o.1 ++ us) _ l (of_name first empty a ok v.0 o.0 o.3.0 o.3.1 o.3.2)
        (λ y. slots_led k ih false ss (λ z. false_true z) slots y n v.1 o.1 us o.4 (omega (arith, h, q)) b))
    slots_led k ih full (s ∷ ss) f (number ∷ slots) l n v taken us d h b = let o = token-out G (no_counted G) d in let e = o.2 in let q = o.5 in
        rw e (one_token s ss (firsts first empty (number ∷ [])) o.0 (o.1 ++ us) _ l (of_number first empty v.0 o.0 o.3)
        (λ y. slots_led k ih false ss (λ z. false_true z) slots y n v.1 o.1 us o.4 (omega (arith, h, q)) b))
    slots_led k ih full (s ∷ ss) f (among ks ∷ slots) l n v taken us d h b = let o = token-out G (no_token_of G) d in let e = o.2 in let q = o.5 in
        rw e (one_token s ss (firsts first empty (among ks ∷ [])) o.0 (o.1 ++ us) _ l (of_among first empty ks o.0 o.3.1)
        (λ y. slots_led k ih false ss (λ z. false_true z) slots y n v.1 o.1 us o.4 (omega (arith, h, q)) b))
    slots_led k ih full (s ∷ ss) f (one p ∷ slots) l n v taken us d h b = let o = part-out G d in let e = o.2 in let q = o.4 in let a = append_assoc o.0 o.1 us in
        rw (e, a) (elim (part_begun G first empty fit p n v.0 o.0 o.3) [
          | inl y ↦ true_false y.1 (not_true (empty p) (and_left _ _ l))
          | inr y ↦ or_true (apart s (first p)) _ (and_right _ _ l)
              (λ z. let i = y.2 in rw i (left_false _ _ (nor_both s (first p) y.0.kind y.0.content z y.3)))
              (λ z. let c = and_right full _ z in
              subst (λ now. hits set wanted now (o.0 ++ (o.1 ++ us)) ≡ false) (sym (f (and_left _ _ z)))
              (ih p (and_left _ _ c) n v.0 o.0 (o.1 ++ us) o.3 (omega (arith, h, q)) (λ g. trail slots n v.1 o.1 us o.5 (implied known _ g (and_right (lead p) _ c)) b)))
        ])

    rules_led : (k : ℕ) → LedBelow k → (p : N) (rs : List (Rule Tree (Tree p))) → all_lead set wanted first empty known lead ws rs ≡ true → (n : ℕ) (x : Tree p) (q : List (Sym Tree)) (taken us : List Lexeme) →
        AnyOf (Builds G p x q taken) rs → (d : Spells G n q taken) → height G d < k → Known us → hits set wanted ws (taken ++ us) ≡ false
    rules_led k ih p [] l n x q taken us c d h b = absurd c
    rules_led k ih p (r ∷ rs) l n x q taken us (inl (v, span, is, al, y, e)) d h b = let hs = height-subst G e d in
        slots_led k ih true ws (λ z. refl) r.slots (and_left _ _ l) n v taken us (subst (λ z. Spells G n z taken) e d) (omega (arith, h, hs)) b
    rules_led k ih p (r ∷ rs) l n x q taken us (inr c) d h b = rules_led k ih p rs (and_right _ _ l) n x q taken us c d h b

    led_below : (k : ℕ) → LedBelow k
    led_below zero p i n x taken us d h b = absurd (omega (arith, h))
    led_below (suc k) p i n x taken us d h b = let o = produced-out G d in let l = o.7 in let e = o.3 in
        rw e (rules_led k (led_below k) p (G.rules p) (implied (lead p) _ i (led p)) o.0 x o.1 o.2 us o.4 o.6 (omega (arith, h, l)) b)

    -- a nonterminal of the table gives no hit
    pub no_hit : (p : N) → lead p ≡ true → (n : ℕ) (x : Tree p) (taken us : List Lexeme) → Spells G n (part p x ∷ []) taken → (known ≡ true → behind set wanted us ≡ false) → hits set wanted ws (taken ++ us) ≡ false
    no_hit p i n x taken us d b = led_below (height G d + 1) p i n x taken us d (omega arith) b
