-- A grammar whose rules are told apart by their first tokens is checked by computing: what nonterminals begin with, and
-- what goes on behind them, is told by tables.
use Rattle.std.specs.Prelude.{map, ◌≡◌, ◌⊎◌, ℕ, zero, suc, Bool, true, false, ◌&&◌, ◌||◌, ◌==◌, ◌+◌, ◌<◌, if◌then◌else◌, List, [], ◌∷◌, ◌++◌, refl}
use Rattle.std.proofs.Common.{sym, ◌∙◌, ap, subst, inl, inr, arith}
use Rattle.std.proofs.lemmas.Bool.{eqb-true, eq-eqb}
use Rattle.ur_lex.specs.declared.token.TokenKind.{TokenKind}
use Rattle.ur_lex.specs.declared.token.TokenKind.TheVariants as token_kind
use Rattle.ur_lex.specs.declared.token.Lexeme.{Lexeme}
use Rattle.ur_lex.specs.Spelling.{Text}
use Rattle.ur_parse_rules.specs.KindNumbers.{kind_number, is_one}
use Rattle.ur_parse_rules.specs.Rules.{Slot, mark, word, name, number, among, one, Values, Rule, Grammar, Sym, part, filled, AnyOf, Builds, Spells, Stops}
use Rattle.ur_parse_rules.proofs.Inversions.{height, height-subst, nothing-out, token-out, no_plain, no_spelled, no_named, no_counted, no_token_of, part-out, produced-out}
use Rattle.ur_parse_rules.proofs.Once.{Fits, Ends, AfterEach, AllAfter, AllChosen, Decided}
use Rattle.ur_parse_rules.proofs.Choices.{by_first, if_true, if_false}
use Rattle.std.proofs.lemmas.Slice.Eq.{bytes_eq-Decides}
use Rattle.ur_parse_rules.specs.Classes.{Test, every, just, by, passes, Classes, member, all_of}
use Rattle.ur_parse_rules.proofs.Tests.{false_true, and_left, and_right, and_true, is_not, or_true, or_first, or_second, apart, within, nor_both, inside, member_append, member_behind}

-- ---- what slots begin with

abbrev pub joined : Bool → Classes → Classes → Classes
joined true a b = a ++ b
joined false a b = a

abbrev pub implies : Bool → Bool → Bool
implies true b = b
implies false b = true

-- the first of the classes that have a token, from i on, or e
abbrev pub pick : List Classes → ℕ → ℕ → TokenKind → Text → ℕ
pick [] i e k w = e
pick (s ∷ ss) i e k w = if member s k w then i else pick ss (suc i) e k w

abbrev pub apart_all : Classes → List Classes → Bool
apart_all s [] = true
apart_all s (t ∷ ts) = apart s t && apart_all s ts

abbrev pub all_within : List Classes → Classes → Bool
all_within [] s = true
all_within (t ∷ ts) s = within t s && all_within ts s

abbrev pub any_of : List Classes → TokenKind → Text → Bool
any_of [] k w = false
any_of (s ∷ ss) k w = member s k w || any_of ss k w

module _ {N : Type 0} (first : N → Classes) (empty : N → Bool) where
  abbrev pub firsts : List (Slot N) → Classes
  firsts [] = []
  firsts (mark k ∷ slots) = record { kind = kind_number k; test = every } ∷ []
  firsts (word k w ∷ slots) = record { kind = kind_number k; test = just w } ∷ []
  firsts (name k ok ∷ slots) = record { kind = kind_number k; test = by ok } ∷ []
  firsts (number ∷ slots) = record { kind = 64; test = every } ∷ []
  firsts (among ks ∷ slots) = map all_of ks
  firsts (one p ∷ slots) = joined (empty p) (first p) (firsts slots)

  abbrev pub nullable : List (Slot N) → Bool
  nullable [] = true
  nullable (one p ∷ slots) = empty p && nullable slots
  nullable _ = false

  abbrev pub firsts_fit : {Tree : N → Type 0} {T : Type 0} → N → List (Rule Tree T) → Bool
  firsts_fit p [] = true
  firsts_fit p (r ∷ rs) = (within (firsts r.slots) (first p) && implies (nullable r.slots) (empty p)) && firsts_fit p rs

  -- ---- the rule that a token chooses

  abbrev pub sets : {Tree : N → Type 0} {T : Type 0} → List (Rule Tree T) → List Classes
  sets [] = []
  sets (r ∷ rs) = firsts r.slots ∷ sets rs

  -- the rule that may be empty, or the last one
  abbrev pub default : {Tree : N → Type 0} {T : Type 0} → ℕ → List (Rule Tree T) → ℕ
  default i [] = i
  default i (r ∷ []) = i
  default i (r ∷ q ∷ rs) = elim (nullable r.slots) [ true ↦ i | false ↦ default (suc i) (q ∷ rs) ]

  -- the rules are apart; one that may be empty is the default, and what the others begin with goes on behind it
  abbrev pub rules_apart : {Tree : N → Type 0} {T : Type 0} → (all : List Classes) (last : Classes) (e i : ℕ) → List (Rule Tree T) → Bool
  rules_apart all last e i [] = true
  rules_apart all last e i (r ∷ rs) = (apart_all (firsts r.slots) (sets rs) && implies (nullable r.slots) ((i == e) && all_within all last)) && rules_apart all last e (suc i) rs

  -- by the first token
  abbrev pub picked : {Tree : N → Type 0} {T : Type 0} → List (Rule Tree T) → List Lexeme → ℕ
  picked rs = by_first (pick (sets rs) 0 (default 0 rs)) (default 0 rs)

  module _ (last : N → Classes) where
    -- each part ends before what follows it, where s goes on behind the rule
    abbrev pub parts_end : Classes → List (Slot N) → Bool
    parts_end s [] = true
    parts_end s (one q ∷ slots) = (apart (last q) (firsts slots) && implies (nullable slots) (within (last q) s)) && parts_end s slots
    parts_end s (_ ∷ slots) = parts_end s slots

    abbrev pub rules_end : {Tree : N → Type 0} {T : Type 0} → Classes → List (Rule Tree T) → Bool
    rules_end s [] = true
    rules_end s (r ∷ rs) = parts_end s r.slots && rules_end s rs

    -- both, for a nonterminal behind which the same tokens go on whatever its tree
    abbrev pub are_told : {Tree : N → Type 0} {T : Type 0} → N → List (Rule Tree T) → Bool
    are_told p rs = rules_apart (sets rs) (last p) (default 0 rs) 0 rs && rules_end (last p) rs

pub implied : (a b : Bool) → a ≡ true → implies a b ≡ true → b ≡ true
implied true b e h = h
implied false b e h = false_true e

same_number : (n : ℕ) → (n == n) ≡ true
same_number n = eq-eqb n n refl

class_holds : (n : ℕ) (t : Test) (l : Lexeme) → n ≡ kind_number l.kind → passes t l.content ≡ true → member (record { kind = n; test = t } ∷ []) l.kind l.content ≡ true
class_holds n t l e f = or_first _ _ (and_true (eq-eqb n (kind_number l.kind) e) f)

-- empty, or begun by one of the classes
abbrev pub Begun : Bool → Classes → List Lexeme → Type 0
Begun e s taken = ((taken ≡ []) × (e ≡ true)) ⊎ ((t : Lexeme) × (us : List Lexeme) × (taken ≡ t ∷ us) × (member s t.kind t.content ≡ true))

in_front : (e : Bool) (a b : Classes) (k : TokenKind) (w : Text) → member a k w ≡ true → member (joined e a b) k w ≡ true
in_front true a b k w h = member_append a b k w h
in_front false a b k w h = h

begun_pair : (e f : Bool) (a b : Classes) (taken i r : List Lexeme) → taken ≡ i ++ r → Begun e a i → Begun f b r → Begun (e && f) (joined e a b) taken
begun_pair e f a b taken i r s (inr y) z = inr (y.0, y.1 ++ r, s ∙ ap (λ q. q ++ r) y.2, in_front e a b y.0.kind y.0.content y.3)
begun_pair e f a b taken i r s (inl x) (inl y) = inl (s ∙ ap (λ q. q ++ r) x.0 ∙ y.0, and_true x.1 y.1)
begun_pair e f a b taken i r s (inl x) (inr y) = inr (
  y.0,
  y.1,
  s ∙ ap (λ q. q ++ r) x.0 ∙ y.2,
  subst (λ q. member (joined q a b) y.0.kind y.0.content ≡ true) (sym x.1) (member_behind a b y.0.kind y.0.content y.3),
)

begun_fit : (e f : Bool) (a b : Classes) (taken : List Lexeme) → within a b ≡ true → implies e f ≡ true → Begun e a taken → Begun f b taken
begun_fit e f a b taken h i (inl x) = inl (x.0, implied e f x.1 i)
begun_fit e f a b taken h i (inr y) = inr (y.0, y.1, y.2, inside a b y.0.kind y.0.content h y.3)

kinds_member : (ks : List TokenKind) (l : Lexeme) → is_one ks l.kind ≡ true → member (map all_of ks) l.kind l.content ≡ true
kinds_member [] l h = h
kinds_member (k ∷ ks) l h = or_true (kind_number k == kind_number l.kind) (is_one ks l.kind) h (λ y. or_first _ _ (and_true y refl)) (λ y. or_second _ _ (kinds_member ks l y))

module _ {N : Type 0} (first : N → Classes) (empty : N → Bool) where
  pub of_mark : (a : TokenKind) (t : Lexeme) → t.kind ≡ a → member (firsts first empty (mark a ∷ [])) t.kind t.content ≡ true
  of_mark a t e = class_holds (kind_number a) every t (ap kind_number (sym e)) refl

  pub of_word : (a : TokenKind) (w : Text) (t : Lexeme) → t.kind ≡ a → t.content ≡ w → member (firsts first empty (word a w ∷ [])) t.kind t.content ≡ true
  of_word a w t e f = class_holds (kind_number a) (just w) t (ap kind_number (sym e)) ((bytes_eq-Decides t.content w).1 f)

  pub of_name : (a : TokenKind) (ok : Text → Bool) (w : Text) (t : Lexeme) → t.kind ≡ a → t.content ≡ w → ok w ≡ true → member (firsts first empty (name a ok ∷ [])) t.kind t.content ≡ true
  of_name a ok w t e f g = class_holds (kind_number a) (by ok) t (ap kind_number (sym e)) (ap ok f ∙ g)

  pub of_among : (ks : List TokenKind) (t : Lexeme) → is_one ks t.kind ≡ true → member (firsts first empty (among ks ∷ [])) t.kind t.content ≡ true
  of_among ks t h = kinds_member ks t h

  pub of_number : (n : ℕ) (t : Lexeme) → t.kind ≡ token_kind.Int n → member (firsts first empty (number ∷ [])) t.kind t.content ≡ true
  of_number n t e = class_holds 64 every t (ap kind_number (sym e)) refl

module _ {N : Type 0} {Tree : N → Type 0} (G : Grammar Tree) (first : N → Classes) (empty : N → Bool) (fit : (p : N) → firsts_fit first empty p (G.rules p) ≡ true) where
  abbrev BegunBelow : ℕ → Type 0
  BegunBelow k = (p : N) (n : ℕ) (x : Tree p) (taken : List Lexeme) (d : Spells G n (part p x ∷ []) taken) → height G d < k → Begun (empty p) (first p) taken

  slots_begun : (k : ℕ) → BegunBelow k → (slots : List (Slot N)) (n : ℕ) (v : Values Tree slots) (taken : List Lexeme) (d : Spells G n (filled Tree slots v) taken) → height G d < k →
      Begun (nullable first empty slots) (firsts first empty slots) taken
  slots_begun k ih [] n v taken d h = inl (nothing-out G d, refl)
  slots_begun k ih (mark a ∷ slots) n v taken d h = let o = token-out G (no_plain G) d in inr (o.0, o.1, o.2, of_mark first empty a o.0 o.3)
  slots_begun k ih (word a w ∷ slots) n v taken d h = let o = token-out G (no_spelled G) d in inr (o.0, o.1, o.2, of_word first empty a w o.0 o.3.0 o.3.1)
  slots_begun k ih (name a ok ∷ slots) n v taken d h = let o = token-out G (no_named G) d in inr (o.0, o.1, o.2, of_name first empty a ok v.0 o.0 o.3.0 o.3.1 o.3.2)
  slots_begun k ih (number ∷ slots) n v taken d h = let o = token-out G (no_counted G) d in inr (o.0, o.1, o.2, of_number first empty v.0 o.0 o.3)
  slots_begun k ih (among ks ∷ slots) n v taken d h = let o = token-out G (no_token_of G) d in inr (o.0, o.1, o.2, of_among first empty ks o.0 o.3.1)
  slots_begun k ih (one p ∷ slots) n v taken d h = let o = part-out G d in let l = o.4 in let l' = o.6 in
      begun_pair (empty p) (nullable first empty slots) (first p) (firsts first empty slots) taken o.0 o.1 o.2 (ih p n v.0 o.0 o.3 (omega (arith, h, l))) (slots_begun k ih slots n v.1 o.1 o.5 (omega (arith, h, l')))

  rules_begun : (k : ℕ) → BegunBelow k → (p : N) (rs : List (Rule Tree (Tree p))) → firsts_fit first empty p rs ≡ true → (n : ℕ) (x : Tree p) (q : List (Sym Tree)) (taken : List Lexeme) → AnyOf (Builds G p x q taken) rs →
      (d : Spells G n q taken) → height G d < k → Begun (empty p) (first p) taken
  rules_begun k ih p [] f n x q taken c d h = absurd c
  rules_begun k ih p (r ∷ rs) f n x q taken (inl (v, span, is, al, b, e)) d h = let hs = height-subst G e d in let a = and_left _ _ f in
      begun_fit (nullable first empty r.slots) (empty p) (firsts first empty r.slots) (first p) taken (and_left _ _ a) (and_right _ _ a)
      (slots_begun k ih r.slots n v taken (subst (λ z. Spells G n z taken) e d) (omega (arith, h, hs)))
  rules_begun k ih p (r ∷ rs) f n x q taken (inr c) d h = rules_begun k ih p rs (and_right _ _ f) n x q taken c d h

  begun_below : (k : ℕ) → BegunBelow k
  begun_below zero p n x taken d h = absurd (omega (arith, h))
  begun_below (suc k) p n x taken d h = let o = produced-out G d in let l = o.7 in let e = o.3 in
      rw e (rules_begun k (begun_below k) p (G.rules p) (fit p) o.0 x o.1 o.2 o.4 o.6 (omega (arith, h, l)))

  pub part_begun : (p : N) (n : ℕ) (x : Tree p) (taken : List Lexeme) → Spells G n (part p x ∷ []) taken → Begun (empty p) (first p) taken
  part_begun p n x taken d = begun_below (height G d + 1) p n x taken d (omega arith)

  pub begun : (slots : List (Slot N)) (n : ℕ) (v : Values Tree slots) (taken : List Lexeme) → Spells G n (filled Tree slots v) taken → Begun (nullable first empty slots) (firsts first empty slots) taken
  begun slots n v taken d = slots_begun (height G d + 1) (begun_below (height G d + 1)) slots n v taken d (omega arith)

  -- ---- the rules are told apart

  none_of : (s : Classes) (ts : List Classes) (k : TokenKind) (w : Text) → apart_all s ts ≡ true → any_of ts k w ≡ true → member s k w ≡ false
  none_of s [] k w a e = false_true e
  none_of s (t ∷ ts) k w a e = or_true (member t k w) (any_of ts k w) e (λ h. nor_both s t k w (and_left _ _ a) h) (λ h. none_of s ts k w (and_right _ _ a) h)

  picks_none : (ss : List Classes) (i e : ℕ) (k : TokenKind) (w : Text) → any_of ss k w ≡ false → pick ss i e k w ≡ e
  picks_none [] i e k w h = refl
  picks_none (s ∷ ss) i e k w h = if_false i (is_not (member s k w) (λ m. sym h ∙ or_first _ _ m)) ∙ picks_none ss (suc i) e k w (is_not (any_of ss k w) (λ m. sym h ∙ or_second (member s k w) _ m))

  any_within : (ss : List Classes) (t : Classes) (k : TokenKind) (w : Text) → all_within ss t ≡ true → any_of ss k w ≡ true → member t k w ≡ true
  any_within [] t k w a e = false_true e
  any_within (s ∷ ss) t k w a e = or_true (member s k w) (any_of ss k w) e (λ h. inside s t k w (and_left _ _ a) h) (λ h. any_within ss t k w (and_right _ _ a) h)

  module _ (last : N → Classes) (p : N) (goes_on : (x : Tree p) (k : TokenKind) (w : Text) → member (last p) k w ≡ true → G.more p x k w ≡ true) where
    stops_last : (x : Tree p) (rest : List Lexeme) → Stops (G.more p x) rest → Stops (member (last p)) rest
    stops_last x [] s = tt
    stops_last x (t ∷ ts) s = is_not (member (last p) t.kind t.content) (λ m. sym s ∙ goes_on x t.kind t.content m)

    picks_default : (all : List Classes) (e : ℕ) (rest : List Lexeme) → all_within all (last p) ≡ true → Stops (member (last p)) rest → by_first (pick all 0 e) e rest ≡ e
    picks_default all e [] a s = refl
    picks_default all e (t ∷ ts) a s = picks_none all 0 e t.kind t.content (is_not (any_of all t.kind t.content) (λ m. sym s ∙ any_within all (last p) t.kind t.content a m))

    pub all_chosen : (all : List Classes) (e i : ℕ) (rs : List (Rule Tree (Tree p))) → ((k : TokenKind) (w : Text) → any_of (sets first empty rs) k w ≡ true → pick all 0 e k w ≡ pick (sets first empty rs) i e k w) →
        rules_apart first empty all (last p) e i rs ≡ true → AllChosen G p (by_first (pick all 0 e) e) i rs
    all_chosen all e i [] f a = tt
    all_chosen all e i (r ∷ rs) f a = let c = and_left _ _ a in (
      (λ n v taken rest d x. elim (begun r.slots n v taken d) [
        | inl y ↦ (let z = implied (nullable first empty r.slots) _ y.1 (and_right (apart_all (firsts first empty r.slots) (sets first empty rs)) _ c) in let q = y.0 in
            rw q (picks_default all e rest (and_right (i == e) _ z) (stops_last (r.build x.span v) rest x.stops) ∙ sym (eqb-true i e (and_left _ _ z))))
        | inr y ↦ (let q = y.2 in rw q (f y.0.kind y.0.content (or_first _ _ y.3) ∙ if_true (pick (sets first empty rs) (suc i) e y.0.kind y.0.content) y.3))
      ]),
      all_chosen all e (suc i) rs (λ k w m. f k w (or_second (member (firsts first empty r.slots) k w) _ m) ∙ if_false i (none_of (firsts first empty r.slots) (sets first empty rs) k w (and_left _ _ c) m)) (and_right _ _ a),
    )

    -- ---- and end before what follows

    module _ (most : (q : N) (x : Tree q) (k : TokenKind) (w : Text) → G.more q x k w ≡ true → member (last q) k w ≡ true) where
      stops_part : (q : N) (x : Tree q) (rest : List Lexeme) → Stops (member (last q)) rest → Stops (G.more q x) rest
      stops_part q x [] s = tt
      stops_part q x (t ∷ ts) s = is_not (G.more q x t.kind t.content) (λ m. sym s ∙ most q x t.kind t.content m)

      -- something stands behind that does not go on
      pub before : (q : N) (x : Tree q) (slots : List (Slot N)) (P : Values Tree slots → List Lexeme → Type 0) → apart (last q) (firsts first empty slots) ≡ true → nullable first empty slots ≡ false → Ends G (G.more q x) slots P
      before q x slots P a e = record {
        ends = λ n v taken rest d y. elim (begun slots n v taken d) [
          | inl z ↦ false_true (sym e ∙ z.1)
          | inr z ↦ (let i = z.2 in rw i (is_not (G.more q x z.0.kind z.0.content) (λ m. sym (nor_both (last q) (firsts first empty slots) z.0.kind z.0.content a z.3) ∙ most q x z.0.kind z.0.content m)))
        ];
      }

      stops_within : (a b : Classes) (rest : List Lexeme) → within a b ≡ true → Stops (member b) rest → Stops (member a) rest
      stops_within a b [] h s = tt
      stops_within a b (t ∷ ts) h s = is_not (member a t.kind t.content) (λ m. sym s ∙ inside a b t.kind t.content h m)

      part_ends : (s : Classes) (q : N) (x : Tree q) (slots : List (Slot N)) (P : Values Tree slots → List Lexeme → Type 0) → ((v : Values Tree slots) (rest : List Lexeme) → P v rest → Stops (member s) rest) →
          apart (last q) (firsts first empty slots) ≡ true → implies (nullable first empty slots) (within (last q) s) ≡ true → Ends G (G.more q x) slots P
      part_ends s q x slots P f a i = record {
        ends = λ n v taken rest d y. elim (begun slots n v taken d) [
          | inl z ↦ (let e = z.0 in rw e (stops_part q x rest (stops_within (last q) s rest (implied (nullable first empty slots) _ z.1 i) (f v rest y))))
          | inr z ↦ (let e = z.2 in rw e (is_not (G.more q x z.0.kind z.0.content) (λ m. sym (nor_both (last q) (firsts first empty slots) z.0.kind z.0.content a z.3) ∙ most q x z.0.kind z.0.content m)))
        ];
      }

      each_ends : (s : Classes) (slots : List (Slot N)) (P : Values Tree slots → List Lexeme → Type 0) → ((v : Values Tree slots) (rest : List Lexeme) → P v rest → Stops (member s) rest) →
          parts_end first empty last s slots ≡ true → AfterEach G slots P
      each_ends s [] P f a = tt
      each_ends s (mark k ∷ slots) P f a = each_ends s slots P f a
      each_ends s (word k w ∷ slots) P f a = each_ends s slots P f a
      each_ends s (name k ok ∷ slots) P f a = λ w. each_ends s slots (λ v rest. P (w, v) rest) (λ v rest y. f (w, v) rest y) a
      each_ends s (number ∷ slots) P f a = λ n. each_ends s slots (λ v rest. P (n, v) rest) (λ v rest y. f (n, v) rest y) a
      each_ends s (among ks ∷ slots) P f a = λ t. each_ends s slots (λ v rest. P (t, v) rest) (λ v rest y. f (t, v) rest y) a
      each_ends s (one q ∷ slots) P f a = λ x. let c = and_left _ _ a in (
        part_ends s q x slots (λ v rest. P (x, v) rest) (λ v rest y. f (x, v) rest y) (and_left _ _ c) (and_right _ _ c),
        each_ends s slots (λ v rest. P (x, v) rest) (λ v rest y. f (x, v) rest y) (and_right _ _ a),
      )

      pub all_after : (rs : List (Rule Tree (Tree p))) → rules_end first empty last (last p) rs ≡ true → AllAfter G p rs
      all_after [] a = tt
      all_after (r ∷ rs) a = (each_ends (last p) r.slots (λ v rest. Fits G p r v rest) (λ v rest y. stops_last (r.build y.span v) rest y.stops) (and_left _ _ a), all_after rs (and_right _ _ a))

      -- a nonterminal whose tables fit is read in one way
      pub told : (choice : N → List Lexeme → ℕ) → choice p ≡ picked first empty (G.rules p) → are_told first empty last p (G.rules p) ≡ true → Decided G choice p
      told choice e a = record {
        chosen = subst (λ z. AllChosen G p z 0 (G.rules p)) (sym e) (all_chosen (sets first empty (G.rules p)) (default first empty 0 (G.rules p)) 0 (G.rules p) (λ k w m. refl) (and_left _ _ a));
        after = all_after (G.rules p) (and_right _ _ a);
      }
