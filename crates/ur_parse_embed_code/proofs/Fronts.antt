-- What is open behind a front of code is closed by some tokens, so that no front goes past a bracket that closes the code.
use Rattle.std.specs.Prelude.{◌≡◌, ◌⊎◌, ℕ, Bool, true, false, ◌+◌, ◌≤◌, List, [], ◌∷◌, ◌++◌, Option, Some, None, refl}
use Rattle.std.proofs.Common.{arith, append_assoc, sym, inl, inr, ap, subst, ◌∙◌}
use Rattle.std.proofs.lemmas.List.{append-nil}
use Rattle.ur_lex.specs.declared.token.TokenKind.TheVariants as token
use Rattle.ur_lex.specs.declared.token.Lexeme.{Lexeme}
use Rattle.ur_parse_rules.specs.KindNumbers.{is_one}
use Rattle.ur_parse_rules.specs.Rules.{Slot, mark, word, name, number, among, one, Values, Rule, Sym, part, filled, AnyOf, Builds, Spells, Open, here, past, within, Stops, Read, no_span}
use Rattle.ur_parse_rules.proofs.Inversions.{height, nothing-out, token-out, no_plain, no_spelled, no_named, no_counted, part-out, produced-out, wider, by}
use Rattle.ur_parse_rules.proofs.Once.{read_once}
use Rattle.ur_parse_rules.specs.Classes.{member}
use Rattle.ur_parse_rules.specs.Ends.{plain_kinds, code_starts}
use Rattle.ur_parse_rules.specs.Quoted.{expressions, raw, Raw}
use Rattle.ur_parse_rules.specs.CodeParts.{pieces}
use Rattle.ur_parse_rules.specs.Parts.{Part, Tree, of_quote, of_code}
use Rattle.ur_parse_rules.specs.Language.{language, rules}
use Rattle.ur_parse_rules.proofs.Choice.{choice}
use Rattle.ur_parse_rules.proofs.AllDecided.{decided}
use Rattle.ur_parse_rules.proofs.RawCode.{code_same}
use Rattle.ur_parse_rules.proofs.Tests.{false_true, and_left, and_right}
use Rattle.ur_parse_embed_code.specs.Laws.{StaysWithin}
use Rattle.ur_parse_embed_code.proofs.Pairs.{Bracket, round, square, curly, right, is_right, Pieces, no_pieces, Closing, plain_before, left_before, right_before, behind}
use Rattle.ur_parse_embed_code.proofs.Walks.{Role, opens, shuts, nothing, unknown, Says, role, role_says, turn, closer, listed, inside, pass, walk, walks, checked, shut_closing, closes_below}

-- ---- tokens that close brackets

abbrev closing : Bracket → Lexeme
closing b = record { kind = token.Symbol (right b); content = []; span = no_span }

closing_is : (b : Bracket) → is_right b (token.Symbol (right b)) ≡ true
closing_is round = refl
closing_is square = refl
closing_is curly = refl

abbrev closers : List Bracket → List Lexeme
closers [] = []
closers (b ∷ bs) = closing b ∷ closers bs

module _ (n : ℕ) where
  close_all : (bs : List Bracket) → Closing n bs (closers bs)
  close_all [] = no_pieces n
  close_all (b ∷ bs) = ([], closing b, closers bs, refl, no_pieces n, closing_is b, close_all bs)

  -- some tokens behind these close the brackets
  abbrev pub Closes : List Bracket → List Lexeme → Type 0
  Closes bs ts = (us : List Lexeme) × Closing n bs (ts ++ us)

  turn_front : (t : Lexeme) (ts : List Lexeme) (f : List Bracket → Bool) (r : Role) → Says r t.kind → ((bs : List Bracket) → f bs ≡ true → Closes bs ts) → (bs : List Bracket) → turn r f bs ≡ true → Closes bs (t ∷ ts)
  turn_front t ts f (opens b) k g bs h = let c = g (b ∷ bs) h in (c.0, left_before n b bs t (ts ++ c.0) k c.1)
  turn_front t ts f (shuts b) k g bs h = shut_closing n b f (λ ds. Closes ds (t ∷ ts)) bs h (λ ds e. let c = g ds e in (c.0, right_before n b ds t (ts ++ c.0) k c.1))
  turn_front t ts f nothing k g bs h = let c = g bs h in (c.0, plain_before n bs t (ts ++ c.0) k c.1)
  turn_front t ts f unknown k g bs h = false_true h

  -- behind a part that is finished
  pass_front : (b : Option Bracket) (a ts : List Lexeme) (f : List Bracket → Bool) → Closing n (listed b) a → ((bs : List Bracket) → f bs ≡ true → Closes bs ts) → (bs : List Bracket) → pass b f bs ≡ true → Closes bs (a ++ ts)
  pass_front None a ts f d g bs h = let c = g bs h in (c.0, subst (Closing n bs) (sym (append_assoc a ts c.0)) (behind n [] bs a (ts ++ c.0) d c.1))
  pass_front (Some b) a ts f d g bs h = shut_closing n b f (λ ds. Closes ds (a ++ ts)) bs h (λ ds e. let c = g ds e in (c.0, subst (Closing n (b ∷ ds)) (sym (append_assoc a ts c.0)) (behind n (b ∷ []) ds a (ts ++ c.0) d c.1)))

  -- within a part that is open
  open_front : (b : Option Bracket) (ts : List Lexeme) (f : List Bracket → Bool) → Closes (listed b) ts → (bs : List Bracket) → pass b f bs ≡ true → Closes bs ts
  open_front None ts f c bs h = (c.0 ++ closers bs, subst (Closing n bs) (append_assoc ts c.0 (closers bs)) (behind n [] bs (ts ++ c.0) (closers bs) c.1 (close_all bs)))
  open_front (Some b) ts f c bs h = shut_closing n b f (λ ds. Closes ds ts) bs h (λ ds e. (c.0 ++ closers ds, subst (Closing n (b ∷ ds)) (append_assoc ts c.0 (closers ds)) (behind n (b ∷ []) ds (ts ++ c.0) (closers ds) c.1 (close_all ds))))

  -- ---- slots

  abbrev Goes : List (Slot Part) → List Lexeme → Type 0
  Goes slots ts = (bs : List Bracket) → walk slots bs ≡ true → Closes bs ts

  past_slot : (s : Slot Part) (after : List (Slot Part)) (l : ℕ) (v : Values Tree (s ∷ [])) (inner ts : List Lexeme) → Spells language l (filled Tree (s ∷ []) v) inner → Goes after ts → Goes (s ∷ after) (inner ++ ts)
  past_slot (mark kind) after l v inner ts d g bs w = let o = token-out language (no_plain language) d in
      subst (λ y. Closes bs (y ++ ts)) (sym (o.2 ∙ ap (λ y. o.0 ∷ y) (nothing-out language o.4))) (turn_front o.0 ts (walk after) (role kind) (subst (Says (role kind)) (sym o.3) (role_says kind)) g bs w)
  past_slot (word kind u) after l v inner ts d g bs w = let o = token-out language (no_spelled language) d in
      subst (λ y. Closes bs (y ++ ts)) (sym (o.2 ∙ ap (λ y. o.0 ∷ y) (nothing-out language o.4))) (turn_front o.0 ts (walk after) (role kind) (subst (Says (role kind)) (sym o.3.0) (role_says kind)) g bs w)
  past_slot (name kind ok) after l v inner ts d g bs w = let o = token-out language (no_named language) d in
      subst (λ y. Closes bs (y ++ ts)) (sym (o.2 ∙ ap (λ y. o.0 ∷ y) (nothing-out language o.4))) (turn_front o.0 ts (walk after) (role kind) (subst (Says (role kind)) (sym o.3.0) (role_says kind)) g bs w)
  past_slot number after l v inner ts d g bs w = let o = token-out language (no_counted language) d in let c = g bs w in
      subst (λ y. Closes bs (y ++ ts)) (sym (o.2 ∙ ap (λ y. o.0 ∷ y) (nothing-out language o.4))) (c.0, plain_before n bs o.0 (ts ++ c.0) (subst (λ z. is_one plain_kinds z ≡ true) (sym o.3) refl) c.1)
  past_slot (among ks) after l v inner ts d g bs w = false_true w
  past_slot (one p) after l v inner ts d g bs w = let o = part-out language d in
      subst (λ y. Closes bs (y ++ ts)) (sym (o.2 ∙ ap (λ y. o.0 ++ y) (nothing-out language o.5) ∙ append-nil o.0))
      (pass_front (closer p) o.0 ts (walk after) (closes_below n (height language o.3 + 1) p (and_left (inside p) _ w) l v.0 o.0 o.3 (omega arith)) g bs (and_right (inside p) _ w))

  rule_walks : {T : Type 0} (rs : List (Rule Tree T)) (inner : List (Slot Part)) (bs : List Bracket) → AnyOf (λ (r : Rule Tree T). r.slots ≡ inner) rs → walks rs bs ≡ true → walk inner bs ≡ true
  rule_walks [] inner bs c w = absurd c
  rule_walks (r ∷ rs) inner bs (inl e) w = subst (λ z. walk z bs ≡ true) e (and_left (walk r.slots bs) _ w)
  rule_walks (r ∷ rs) inner bs (inr c) w = rule_walks rs inner bs c (and_right (walk r.slots bs) _ w)

  front : (slots : List (Slot Part)) (ts : List Lexeme) (m : ℕ) → Open language slots ts m → Goes slots ts
  front slots ts m (here {p = p} {slots = after}) bs w = (closers bs, close_all bs)
  front slots ts m (past {n = k} {m = l} {s = s} {slots = after} {inner = inner} {tokens = rest} v d o) bs w = past_slot s after l v inner rest d (λ cs e. front after rest k o cs e) bs w
  front slots ts m (within {n = k} {p = p} {inner = inner} {slots = after} {tokens = rest} c o) bs w =
      open_front (closer p) rest (walk after) (front inner rest k o (listed (closer p)) (rule_walks (rules p) inner (listed (closer p)) c (checked p (and_left (inside p) _ w)))) bs (and_right (inside p) _ w)

-- ---- the end of code

-- one of two fronts of the same tokens begins with the other
cut : (c taken after rest : List Lexeme) → c ++ after ≡ taken ++ rest → ((us : List Lexeme) × (c ≡ taken ++ us)) ⊎ ((t : Lexeme) × (us : List Lexeme) × (taken ≡ c ++ t ∷ us) × (after ≡ t ∷ us ++ rest))
cut c [] after rest e = inl (c, refl)
cut [] (t ∷ ts) after rest e = inr (t, ts, refl, e)
cut (x ∷ c) (t ∷ ts) after rest e = let h : x ≡ t = cc in let l : c ++ after ≡ ts ++ rest = cc in elim (cut c ts after rest l) [
  | inl y ↦ inl (y.0, ap (λ z. z ∷ c) h ∙ ap (λ z. t ∷ z) y.1)
  | inr y ↦ inr (y.0, y.1, ap (λ z. t ∷ z) y.2 ∙ ap (λ z. z ∷ c ++ y.0 ∷ y.1) (sym h), y.3)
]

-- tokens with their brackets in pairs end where a bracket closes behind them
no_longer : (n : ℕ) (c us : List Lexeme) (t : Lexeme) {A : Type 0} → Pieces n c → Pieces n (c ++ t ∷ us) → member code_starts t.kind t.content ≡ false → A
no_longer n c us t d e s =
    let short : Read language n (of_code pieces) (c ++ t ∷ us) (t ∷ us) c = record { taken = c; split = refl; spells = d; stops = s } in
    let long : Read language n (of_code pieces) (c ++ t ∷ us) [] (c ++ t ∷ us) = record { taken = c ++ t ∷ us; split = sym (append-nil (c ++ t ∷ us)); spells = e; stops = tt } in
    let z : t ∷ us ≡ [] = (read_once language choice decided short long).1 in absurd (cc)

-- raw code has its brackets in pairs
raw_by : (n m : ℕ) → m ≤ n → (x : Raw) (ts : List Lexeme) (q : List (Sym Tree)) → AnyOf (Builds language (of_quote raw) x q ts) (rules (of_quote raw)) → Spells language m q ts → Pieces n ts
raw_by n m c x ts q (inl (v, span, is, al, b, f)) d = let e = wider language (subst (λ z. Spells language m z ts) f d) c in
    let w : Spells language n (part (of_code pieces) (v.0 ++ v.1.0) ∷ []) ts = by language {below = n} (inr (inl ((v.0, (v.1.0, tt)), _, refl, refl, refl, refl))) (omega arith) e in
    subst (λ z. Spells language n (part (of_code pieces) z ∷ []) ts) (code_same pieces n (v.0 ++ v.1.0) ts w) w
raw_by n m c x ts q (inr z) d = absurd z

raw_pieces : (n : ℕ) (x : Raw) (ts : List Lexeme) → Spells language n (part (of_quote raw) x ∷ []) ts → Pieces n ts
raw_pieces n x ts d = let o = produced-out language d in let l = o.5 in subst (Pieces n) (sym o.3) (raw_by n o.0 (omega (arith, l)) x o.2 o.1 o.4 o.6)

stays : (n k : ℕ) (c taken after rest : List Lexeme) → Pieces n c → Stops (member code_starts) after → Open language (one (of_quote expressions) ∷ []) taken k → c ++ after ≡ taken ++ rest → (left : List Lexeme) × (c ≡ taken ++ left)
stays n k c taken after rest d s o e = elim (cut c taken after rest e) [
  | inl y ↦ y
  | inr y ↦ (let f = front n (one (of_quote expressions) ∷ []) taken k o [] refl in
      let w : Pieces n (c ++ y.0 ∷ (y.1 ++ f.0)) = subst (Pieces n) (ap (λ z. z ++ f.0) y.2 ∙ append_assoc c (y.0 ∷ y.1) f.0) f.1 in
      no_longer n c (y.1 ++ f.0) y.0 d w (subst (Stops (member code_starts)) y.3 s))
]

pub stays_within : StaysWithin
stays_within m k c code taken after rest d s o e = stays m k code taken after rest (raw_pieces m c code d) s o e
