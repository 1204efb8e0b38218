-- Rules that are told apart by the token at the begin, and parts that end before a token.
use Rattle.std.specs.Prelude.{◌≡◌, ◌⊎◌, ℕ, suc, true, false, ◌+◌, Bool, ◌||◌, if◌then◌else◌, List, [], ◌∷◌, ◌++◌, drop, slice_get, Some, None, refl}
use Rattle.std.proofs.Common.{sym, inl, inr, ap, subst, ◌∙◌}
use Rattle.std.proofs.lemmas.List.{append-nil}
use Rattle.std.proofs.lemmas.Bool.{eqb-true}
use Rattle.ur_base.specs.declared.refusal.Span.{Span}
use Rattle.ur_lex.specs.declared.token.TokenKind.{TokenKind}
use Rattle.ur_lex.specs.declared.token.TokenKind.TheVariants as token_kind
use Rattle.ur_lex.specs.declared.token.Lexeme.{Lexeme}
use Rattle.ur_lex.specs.Spelling.{Text}
use Rattle.ur_parse_rules.specs.Rules.{Slot, mark, word, name, number, among, one, Values, Rule, Grammar, Sym, part, filled, AnyOf, Builds, Spells, Stops}
use Rattle.ur_parse_rules.specs.KindNumbers.{is_one, same_kind, kind_number, keyword_number, symbol_number, all_kinds}
use Rattle.ur_parse_rules.specs.Places.{IsAt, IsName, Other, OfKind, Spelled, starts, only, never}
use Rattle.ur_lex.specs.declared.token.Keyword.{Keyword}
use Rattle.ur_lex.specs.declared.token.Keyword.TheVariants as keyword
use Rattle.ur_lex.specs.declared.token.Symbol.{Symbol}
use Rattle.ur_lex.specs.declared.token.Symbol.TheVariants as symbol
use Rattle.ur_parse_rules.proofs.Inversions.{nothing-out, token-out, no_plain, no_spelled, no_named, no_counted, no_token_of, part-out, produced-out}
use Rattle.ur_parse_rules.proofs.Once.{Ends, Fits, AllChosen}
use Rattle.ur_parse_rules.proofs.Steps.{Lacks}

-- a choice by the token at the begin, or at the end of the tokens
abbrev pub by_first : (TokenKind → Text → ℕ) → ℕ → List Lexeme → ℕ
by_first f e [] = e
by_first f e (t ∷ ts) = f t.kind t.content

pub if_true : {b : Bool} {i : ℕ} (e : ℕ) → b ≡ true → (if b then i else e) ≡ i
if_true {i = i} e h = ap (λ z. if z then i else e) h

pub if_false : {b : Bool} (i : ℕ) {e : ℕ} → b ≡ false → (if b then i else e) ≡ e
if_false i {e = e} h = ap (λ z. if z then i else e) h

pub less : {a b : TokenKind → Text → Bool} (rest : List Lexeme) → ((k : TokenKind) (w : Text) → a k w ≡ false → b k w ≡ false) → Stops a rest → Stops b rest
less [] h s = tt
less (t ∷ ts) h s = h t.kind t.content s

-- a token that would go on comes first where none stops
pub stops_first : (g : TokenKind → Text → Bool) (rest : List Lexeme) → Stops g rest → starts g rest ≡ false
stops_first g [] s = refl
stops_first g (t ∷ ts) s = s

pub first_stops : (g : TokenKind → Text → Bool) (rest : List Lexeme) → starts g rest ≡ false → Stops g rest
first_stops g [] s = tt
first_stops g (t ∷ ts) s = s

pub stops_or : (a b : TokenKind → Text → Bool) (rest : List Lexeme) → Stops a rest → Stops b rest → Stops (λ k w. a k w || b k w) rest
stops_or a b [] s t = tt
stops_or a b (x ∷ rest) s t = rw (s, t) refl

pub all_stop : (g : TokenKind → Text → Bool) (ts : List Lexeme) → ((k : TokenKind) (w : Text) → g k w ≡ false) → Stops g ts
all_stop g [] h = tt
all_stop g (t ∷ ts) h = h t.kind t.content

-- nothing goes on
pub none : (ts : List Lexeme) → Stops never ts
none [] = tt
none (t ∷ ts) = refl

at_end : {f : TokenKind → Text → ℕ} {e : ℕ} (g : TokenKind → Text → Bool) (rest : List Lexeme) → ((k : TokenKind) (w : Text) → g k w ≡ false → f k w ≡ e) → Stops g rest → by_first f e rest ≡ e
at_end g [] q s = refl
at_end g (t ∷ ts) q s = q t.kind t.content s

-- ---- at a place

module _ (choice : List Lexeme → ℕ) {tokens : List Lexeme} {i j n : ℕ} {k : TokenKind} where
  pub chosen_mark_at : IsAt tokens i j (OfKind k) → ((w : Text) (s : Span) (us : List Lexeme) → choice (record { kind = k; content = w; span = s } ∷ us) ≡ n) → choice (drop i tokens) ≡ n
  chosen_mark_at a h = let s = a.at.split in let q : a.t ≡ record { kind = k; content = a.t.content; span = a.t.span } = ap (λ z. let t : Lexeme = record { kind = z; content = a.t.content; span = a.t.span } in t) a.is in
      ap choice (s ∙ ap (λ (z : Lexeme). z ∷ drop (i + 1) tokens) q) ∙ h a.t.content a.t.span (drop (i + 1) tokens)

  pub chosen_word_at : {w : Text} → IsAt tokens i j (Spelled k w) → ((s : Span) (us : List Lexeme) → choice (record { kind = k; content = w; span = s } ∷ us) ≡ n) → choice (drop i tokens) ≡ n
  chosen_word_at {w = w} a h = let s = a.at.split in
      let q : a.t ≡ record { kind = k; content = w; span = a.t.span } = ap (λ z. let t : Lexeme = record { kind = z; content = a.t.content; span = a.t.span } in t) a.is.0 ∙ ap (λ z. let t : Lexeme = record { kind = k; content = z; span = a.t.span } in t) a.is.1 in
      ap choice (s ∙ ap (λ (z : Lexeme). z ∷ drop (i + 1) tokens) q) ∙ h a.t.span (drop (i + 1) tokens)

  pub chosen_name_at : {ok : Text → Bool} {x : Text} → IsName tokens i j k ok x → ((w : Text) (s : Span) (us : List Lexeme) → ok w ≡ true → choice (record { kind = k; content = w; span = s } ∷ us) ≡ n) → choice (drop i tokens) ≡ n
  chosen_name_at a h = let s = a.at.split in let q : a.t ≡ record { kind = k; content = a.t.content; span = a.t.span } = ap (λ z. let t : Lexeme = record { kind = z; content = a.t.content; span = a.t.span } in t) a.kind in
      ap choice (s ∙ ap (λ (z : Lexeme). z ∷ drop (i + 1) tokens) q) ∙ h a.t.content a.t.span (drop (i + 1) tokens) a.passes

-- whether a token of a kind stands there
pub starts_at : {tokens : List Lexeme} {i j : ℕ} {k : TokenKind} (g : TokenKind → Text → Bool) → IsAt tokens i j (OfKind k) → ((w : Text) → g k w ≡ true) → starts g (drop i tokens) ≡ true
starts_at g a h = let s = a.at.split in let q = a.is in rw (s, q) (h a.t.content)

keyword_listed : (k : Keyword) → slice_get all_kinds (keyword_number k) ≡ Some (token_kind.Keyword k)
keyword_listed keyword.And = refl
keyword_listed _ = refl

symbol_listed : (s : Symbol) → slice_get all_kinds (symbol_number s) ≡ Some (token_kind.Symbol s)
symbol_listed symbol.LParen = refl
symbol_listed _ = refl

-- a kind but int stands in the list at its number
pub listed : (k : TokenKind) → (slice_get all_kinds (kind_number k) ≡ Some k) ⊎ (slice_get all_kinds (kind_number k) ≡ None)
listed (token_kind.Keyword k) = inl (keyword_listed k)
listed (token_kind.Symbol s) = inl (symbol_listed s)
listed (token_kind.Int n) = inr refl
listed token_kind.Lower = inl refl
listed token_kind.Upper = inl refl
listed token_kind.Str = inl refl
listed token_kind.SqlText = inl refl
listed token_kind.XmlText = inl refl
listed token_kind.Word = inl refl

pub kind_is : (a b : TokenKind) → slice_get all_kinds (kind_number a) ≡ Some a → same_kind a b ≡ true → b ≡ a
kind_is a b l e = let n : kind_number a ≡ kind_number b = eqb-true _ _ e in elim (listed b) [
  | inl y ↦ (let z : Some b ≡ Some a = sym y ∙ ap (λ m. slice_get all_kinds m) (sym n) ∙ l in cc)
  | inr y ↦ absurd (let z : None ≡ Some a = sym y ∙ ap (λ m. slice_get all_kinds m) (sym n) ∙ l in cc)
]

bool_false : (b : Bool) → (b ≡ true → ⊥) → b ≡ false
bool_false true f = absurd (f refl)
bool_false false f = refl

at_rest : (k : TokenKind) (ts : List Lexeme) → slice_get all_kinds (kind_number k) ≡ Some k → ((t : Lexeme) (us : List Lexeme) → ts ≡ t ∷ us → t.kind ≡ k → ⊥) → Stops (only k) ts
at_rest k [] l f = tt
at_rest k (t ∷ us) l f = bool_false (same_kind k t.kind) (λ e. f t us refl (kind_is k t.kind l e))

-- where no token of a kind stands, none that goes on by it does
pub other_stops : {tokens : List Lexeme} {i : ℕ} {k : TokenKind} → slice_get all_kinds (kind_number k) ≡ Some k → Other tokens i (OfKind k) → Stops (only k) (drop i tokens)
other_stops {tokens = tokens} {i = i} {k = k} l o = at_rest k (drop i tokens) l (λ t us e q. o.other t us e q)

-- ---- of the rules

module _ {N : Type 0} {Tree : N → Type 0} (G : Grammar Tree) where
  -- what a nonterminal begins with
  pub record Begins (g : TokenKind → Text → Bool) (p : N) : Type 0 where
    pub begin : (n : ℕ) (x : Tree p) (taken : List Lexeme) → Spells G n (part p x ∷ []) taken → (t : Lexeme) × (us : List Lexeme) × (taken ≡ t ∷ us) × (g t.kind t.content ≡ true)

  abbrev pub BeginsIn : (TokenKind → Text → Bool) → List (Slot N) → Type 0
  BeginsIn g [] = ⊥
  BeginsIn g (mark k ∷ slots) = (w : Text) → g k w ≡ true
  BeginsIn g (word k w ∷ slots) = g k w ≡ true
  BeginsIn g (name k ok ∷ slots) = (w : Text) → ok w ≡ true → g k w ≡ true
  BeginsIn g (number ∷ slots) = (n : ℕ) (w : Text) → g (token_kind.Int n) w ≡ true
  BeginsIn g (among ks ∷ slots) = (k : TokenKind) (w : Text) → is_one ks k ≡ true → g k w ≡ true
  BeginsIn g (one p ∷ slots) = Begins g p

  abbrev pub AllBegin : {T : Type 0} → (TokenKind → Text → Bool) → List (Rule Tree T) → Type 0
  AllBegin g [] = Unit {0}
  AllBegin g (r ∷ rs) = BeginsIn g r.slots × AllBegin g rs

  slots_begin : (g : TokenKind → Text → Bool) (slots : List (Slot N)) → BeginsIn g slots → (n : ℕ) (v : Values Tree slots) (taken : List Lexeme) → Spells G n (filled Tree slots v) taken →
      (t : Lexeme) × (us : List Lexeme) × (taken ≡ t ∷ us) × (g t.kind t.content ≡ true)
  slots_begin g [] h n v taken s = absurd h
  slots_begin g (mark k ∷ slots) h n v taken s = let o = token-out G (no_plain G) s in let e = o.3 in (o.0, o.1, o.2, rw e (h o.0.content))
  slots_begin g (word k w ∷ slots) h n v taken s = let o = token-out G (no_spelled G) s in let e = o.3.0 in let f = o.3.1 in (o.0, o.1, o.2, rw (e, f) h)
  slots_begin g (name k ok ∷ slots) h n v taken s = let o = token-out G (no_named G) s in let e = o.3.0 in (o.0, o.1, o.2, rw e (h o.0.content (ap ok o.3.1 ∙ o.3.2)))
  slots_begin g (number ∷ slots) h n v taken s = let o = token-out G (no_counted G) s in let e = o.3 in (o.0, o.1, o.2, rw e (h v.0 o.0.content))
  slots_begin g (among ks ∷ slots) h n v taken s = let o = token-out G (no_token_of G) s in (o.0, o.1, o.2, h o.0.kind o.0.content o.3.1)
  slots_begin g (one p ∷ slots) h n v taken s = let o = part-out G s in let b = h.begin n v.0 o.0 o.3 in (b.0, b.1 ++ o.1, o.2 ∙ ap (λ z. z ++ o.1) b.2, b.3)

  rules_begin : (g : TokenKind → Text → Bool) (p : N) (rs : List (Rule Tree (Tree p))) → AllBegin g rs → (n : ℕ) (x : Tree p) (q : List (Sym Tree)) (taken : List Lexeme) → AnyOf (Builds G p x q taken) rs → Spells G n q taken →
      (t : Lexeme) × (us : List Lexeme) × (taken ≡ t ∷ us) × (g t.kind t.content ≡ true)
  rules_begin g p [] h n x q taken c s = absurd c
  rules_begin g p (r ∷ rs) h n x q taken (inl (v, span, is, al, b, f)) s = slots_begin g r.slots h.0 n v taken (subst (λ z. Spells G n z taken) f s)
  rules_begin g p (r ∷ rs) h n x q taken (inr c) s = rules_begin g p rs h.1 n x q taken c s

  pub begins_by : (g : TokenKind → Text → Bool) (p : N) → AllBegin g (G.rules p) → Begins g p
  begins_by g p h = record {
    begin = λ n x taken s. let o = produced-out G s in let b = rules_begin g p (G.rules p) h o.0 x o.1 o.2 o.4 o.6 in (b.0, b.1, o.3 ∙ b.2, b.3);
  }

  -- the nonterminal is empty or begins with a token of this kind
  pub record Tail (k : TokenKind) (p : N) : Type 0 where
    pub tail : (n : ℕ) (x : Tree p) (taken : List Lexeme) → Spells G n (part p x ∷ []) taken → (taken ≡ []) ⊎ ((t : Lexeme) × (us : List Lexeme) × (taken ≡ t ∷ us) × (t.kind ≡ k))

  abbrev pub TailIn : TokenKind → List (Slot N) → Type 0
  TailIn k [] = Unit {0}
  TailIn k (mark k' ∷ slots) = k' ≡ k
  TailIn k _ = ⊥

  abbrev pub AllTail : {T : Type 0} → TokenKind → List (Rule Tree T) → Type 0
  AllTail k [] = Unit {0}
  AllTail k (r ∷ rs) = TailIn k r.slots × AllTail k rs

  slots_tail : (k : TokenKind) (slots : List (Slot N)) → TailIn k slots → (n : ℕ) (v : Values Tree slots) (taken : List Lexeme) → Spells G n (filled Tree slots v) taken →
      (taken ≡ []) ⊎ ((t : Lexeme) × (us : List Lexeme) × (taken ≡ t ∷ us) × (t.kind ≡ k))
  slots_tail k [] h n v taken s = inl (nothing-out G s)
  slots_tail k (mark k' ∷ slots) h n v taken s = let o = token-out G (no_plain G) s in inr (o.0, o.1, o.2, o.3 ∙ h)
  slots_tail k (word k' w ∷ slots) h n v taken s = absurd h
  slots_tail k (name k' ok ∷ slots) h n v taken s = absurd h
  slots_tail k (number ∷ slots) h n v taken s = absurd h
  slots_tail k (among ks ∷ slots) h n v taken s = absurd h
  slots_tail k (one p ∷ slots) h n v taken s = absurd h

  rules_tail : (k : TokenKind) (p : N) (rs : List (Rule Tree (Tree p))) → AllTail k rs → (n : ℕ) (x : Tree p) (q : List (Sym Tree)) (taken : List Lexeme) → AnyOf (Builds G p x q taken) rs → Spells G n q taken →
      (taken ≡ []) ⊎ ((t : Lexeme) × (us : List Lexeme) × (taken ≡ t ∷ us) × (t.kind ≡ k))
  rules_tail k p [] h n x q taken c s = absurd c
  rules_tail k p (r ∷ rs) h n x q taken (inl (v, span, is, al, b, f)) s = slots_tail k r.slots h.0 n v taken (subst (λ z. Spells G n z taken) f s)
  rules_tail k p (r ∷ rs) h n x q taken (inr c) s = rules_tail k p rs h.1 n x q taken c s

  pub tail_by : (k : TokenKind) (p : N) → AllTail k (G.rules p) → Tail k p
  tail_by k p h = record {
    tail = λ n x taken s. let o = produced-out G s in elim (rules_tail k p (G.rules p) h o.0 x o.1 o.2 o.4 o.6) [ inl y ↦ inl (o.3 ∙ y) | inr b ↦ inr (b.0, b.1, o.3 ∙ b.2, b.3) ];
  }

module _ {N : Type 0} {Tree : N → Type 0} (G : Grammar Tree) where
  -- a rule with these slots is the one of this number, by the token at the begin
  pub record Chosen (f : TokenKind → Text → ℕ) (e i : ℕ) (slots : List (Slot N)) (X : Values Tree slots → List Lexeme → Type 0) : Type 0 where
    pub chosen : (n : ℕ) (v : Values Tree slots) (taken rest : List Lexeme) → Spells G n (filled Tree slots v) taken → X v rest → by_first f e (taken ++ rest) ≡ i

  abbrev pub EachChosen : (p : N) (f : TokenKind → Text → ℕ) (e i : ℕ) → List (Rule Tree (Tree p)) → Type 0
  EachChosen p f e i [] = Unit {0}
  EachChosen p f e i (r ∷ rs) = Chosen f e i r.slots (λ v rest. Fits G p r v rest) × EachChosen p f e (suc i) rs

  pub all_chosen : (p : N) (f : TokenKind → Text → ℕ) (e i : ℕ) (rs : List (Rule Tree (Tree p))) → EachChosen p f e i rs → AllChosen G p (by_first f e) i rs
  all_chosen p f e i [] h = tt
  all_chosen p f e i (r ∷ rs) h = (h.0.chosen, all_chosen p f e (suc i) rs h.1)

module _ {N : Type 0} {Tree : N → Type 0} {G : Grammar Tree} where
  -- ---- a rule is chosen by its first token

  module _ {f : TokenKind → Text → ℕ} {e i : ℕ} {slots : List (Slot N)} where
    pub chosen_mark : {k : TokenKind} {X : Values Tree slots → List Lexeme → Type 0} → ((w : Text) → f k w ≡ i) → Chosen G f e i (mark k ∷ slots) X
    chosen_mark h = record { chosen = λ n v taken rest d x. let o = token-out G (no_plain G) d in let s = o.2 in let q = o.3 in rw (s, q) (h o.0.content) }

    pub chosen_word : {k : TokenKind} {w : Text} {X : Values Tree slots → List Lexeme → Type 0} → f k w ≡ i → Chosen G f e i (word k w ∷ slots) X
    chosen_word h = record { chosen = λ n v taken rest d x. let o = token-out G (no_spelled G) d in let s = o.2 in let q = o.3.0 in let r = o.3.1 in rw (s, q, r) h }

    pub chosen_name : {k : TokenKind} {ok : Text → Bool} {X : Text × Values Tree slots → List Lexeme → Type 0} → ((w : Text) → ok w ≡ true → f k w ≡ i) → Chosen G f e i (name k ok ∷ slots) X
    chosen_name {ok = ok} h = record { chosen = λ n v taken rest d x. let o = token-out G (no_named G) d in let s = o.2 in let q = o.3.0 in rw (s, q) (h o.0.content (ap ok o.3.1 ∙ o.3.2)) }

    pub chosen_number : {X : ℕ × Values Tree slots → List Lexeme → Type 0} → ((m : ℕ) (w : Text) → f (token_kind.Int m) w ≡ i) → Chosen G f e i (number ∷ slots) X
    chosen_number h = record { chosen = λ n v taken rest d x. let o = token-out G (no_counted G) d in let s = o.2 in let q = o.3 in rw (s, q) (h v.0 o.0.content) }

    pub chosen_one : {p : N} {g : TokenKind → Text → Bool} {X : Tree p × Values Tree slots → List Lexeme → Type 0} → Begins G g p → ((k : TokenKind) (w : Text) → g k w ≡ true → f k w ≡ i) → Chosen G f e i (one p ∷ slots) X
    chosen_one b h = record { chosen = λ n v taken rest d x. let o = part-out G d in let c = b.begin n v.0 o.0 o.3 in let s = o.2 in let q = c.2 in rw (s, q) (h c.0.kind c.0.content c.3) }

  -- the empty rule is chosen where what follows does not go on
  pub chosen_none : {f : TokenKind → Text → ℕ} {e : ℕ} {X : Unit {0} → List Lexeme → Type 0} (g : TokenKind → Text → Bool) → ((rest : List Lexeme) → X tt rest → Stops g rest) → ((k : TokenKind) (w : Text) → g k w ≡ false → f k w ≡ e) →
      Chosen G f e e [] X
  chosen_none g h q = record { chosen = λ n v taken rest d x. let z = nothing-out G d in rw z (at_end g rest q (h rest x)) }

  -- ---- a part ends before what follows

  module _ {g : TokenKind → Text → Bool} {slots : List (Slot N)} where
    pub then_mark : {k : TokenKind} {X : Values Tree slots → List Lexeme → Type 0} → ((w : Text) → g k w ≡ false) → Ends G g (mark k ∷ slots) X
    then_mark h = record { ends = λ n v taken rest d x. let o = token-out G (no_plain G) d in let s = o.2 in let q = o.3 in rw (s, q) (h o.0.content) }

    pub then_word : {k : TokenKind} {w : Text} {X : Values Tree slots → List Lexeme → Type 0} → g k w ≡ false → Ends G g (word k w ∷ slots) X
    then_word h = record { ends = λ n v taken rest d x. let o = token-out G (no_spelled G) d in let s = o.2 in let q = o.3.0 in let r = o.3.1 in rw (s, q, r) h }

    pub then_one : {p : N} {b : TokenKind → Text → Bool} {X : Tree p × Values Tree slots → List Lexeme → Type 0} → Begins G b p → ((k : TokenKind) (w : Text) → b k w ≡ true → g k w ≡ false) → Ends G g (one p ∷ slots) X
    then_one b h = record { ends = λ n v taken rest d x. let o = part-out G d in let c = b.begin n v.0 o.0 o.3 in let s = o.2 in let q = c.2 in rw (s, q) (h c.0.kind c.0.content c.3) }

    -- nothing goes on behind it
    pub then_any : {X : Values Tree slots → List Lexeme → Type 0} → ((k : TokenKind) (w : Text) → g k w ≡ false) → Ends G g slots X
    then_any h = record { ends = λ n v taken rest d x. all_stop g (taken ++ rest) h }

  pub then_end : {g : TokenKind → Text → Bool} {X : Unit {0} → List Lexeme → Type 0} → ((rest : List Lexeme) → X tt rest → Stops g rest) → Ends G g [] X
  then_end h = record { ends = λ n v taken rest d x. let z = nothing-out G d in rw z (h rest x) }

  -- a tail, which may be empty, and then the end
  pub then_tail : {g : TokenKind → Text → Bool} {k : TokenKind} {p : N} {X : Tree p × Unit {0} → List Lexeme → Type 0} → Tail G k p → ((w : Text) → g k w ≡ false) → ((v : Tree p) (rest : List Lexeme) → X (v, tt) rest → Stops g rest) →
      Ends G g (one p ∷ []) X
  then_tail o h q = record {
    ends = λ n v taken rest d x. let a = part-out G d in let s : taken ≡ a.0 = a.2 ∙ ap (λ z. a.0 ++ z) (nothing-out G a.5) ∙ append-nil a.0 in elim (o.tail n v.0 a.0 a.3) [
      | inl y ↦ (let e = s ∙ y in rw e (q v.0 rest x))
      | inr c ↦ (let e = s ∙ c.2 in let u = c.3 in rw (e, u) (h c.0.content))
    ];
  }

  -- a nonterminal that does not begin so is missing
  pub not_one : {g : TokenKind → Text → Bool} {p : N} {slots : List (Slot N)} {tokens : List Lexeme} → Begins G g p → starts g tokens ≡ false → Lacks G (one p ∷ slots) tokens
  not_one {g = g} {tokens = tokens} b e = record {
    none = λ n v rest f. let o = part-out G f.spells in let c = b.begin n v.0 o.0 o.3 in
        let s : tokens ≡ c.0 ∷ (c.1 ++ o.1 ++ rest) = f.split ∙ ap (λ z. z ++ rest) o.2 ∙ ap (λ z. (z ++ o.1) ++ rest) c.2 in
        let z : g c.0.kind c.0.content ≡ false = rw s at e in absurd (let w : true ≡ false = sym c.3 ∙ z in cc);
  }
