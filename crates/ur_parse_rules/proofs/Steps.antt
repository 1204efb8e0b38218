-- How readers of slots and rules are put together.
use Rattle.std.specs.Prelude.{◌≡◌, ◌⊎◌, ℕ, zero, suc, true, ◌+◌, ◌≤◌, Bool, List, [], ◌∷◌, ◌++◌, drop, refl, codes, Result, Ok, Err, IfOk}
use Rattle.std.specs.Result.{IsErrAnd}
use Rattle.std.proofs.Common.{arith, append_assoc, sym, inl, inr, ap, subst, ◌∙◌}
use Rattle.ur_base.specs.declared.refusal.Span.{Span}
use Rattle.ur_base.specs.declared.refusal.Refusal.{Refusal}
use Rattle.ur_base.specs.declared.refusal.Stop.{Stop}
use Rattle.ur_base.specs.declared.refusal.Stop.TheVariants as stop
use Rattle.ur_base.specs.Stopping.{Says}
use Rattle.ur_lex.specs.declared.token.TokenKind.{TokenKind}
use Rattle.ur_lex.specs.declared.token.TokenKind.TheVariants as token_kind
use Rattle.ur_lex.specs.declared.token.Lexeme.{Lexeme}
use Rattle.ur_lex.specs.Spelling.{Text}
use Rattle.ur_parse_rules.specs.Rules.{Slot, mark, word, name, number, among, one, Values, Rule, Grammar, Sym, plain, spelled, named, counted, token_of, part, filled, IsToken, IsSpan, AnyOf, Builds, Spells, end, token, Open, here, past, within, Stops, Read, Missing, TooDeep, Refused, syntax, nested}
use Rattle.ur_parse_rules.specs.Places.{IsAt, IsName, Other, Unexpected, OfKind, Spelled, Passing, Among, SaysSyntax, SaysDeep, OfRefusal, IfRefused}
use Rattle.ur_parse_rules.proofs.Inversions.{token-out, no_plain, no_spelled, no_named, no_token_of, part-out, produced-out, wider, append, by, open_longer}
use Rattle.ur_parse_rules.proofs.Once.{Fits, AfterEach, AllAfter, Decided, AllChosen, read_once, tail_chosen}

module _ {N : Type 0} {Tree : N → Type 0} (G : Grammar Tree) where
  -- a front of the tokens, up to `rest`, fills the slots
  pub record Fills (n : ℕ) (slots : List (Slot N)) (tokens rest : List Lexeme) (v : Values Tree slots) : Type 0 where
    pub taken : List Lexeme
    pub split : tokens ≡ taken ++ rest
    pub spells : Spells G n (filled Tree slots v) taken

  -- no values do of which P holds
  abbrev pub NoneFills : ℕ → (slots : List (Slot N)) → (Values Tree slots → List Lexeme → Type 0) → List Lexeme → Type 0
  NoneFills n slots P tokens = (v : Values Tree slots) (rest : List Lexeme) → Fills n slots tokens rest v → P v rest → ⊥

  -- Why no values do: E05 where there are none at all, E06 where more nonterminals are open.
  pub data Fails (n : ℕ) (slots : List (Slot N)) (P : Values Tree slots → List Lexeme → Type 0) (tokens : List Lexeme) (r : Refusal) : Type 0 where
    wrong : Says r 5 [] [] → ((m : ℕ) → NoneFills m slots P tokens) → Fails n slots P tokens r
    deep : (taken rest : List Lexeme) → Says r 6 (codes "257") (codes "256") → NoneFills n slots P tokens → tokens ≡ taken ++ rest → Open G slots taken (n + 1) → Fails n slots P tokens r

  -- so, where each part ends before what follows it
  pub record Failing (n : ℕ) (slots : List (Slot N)) (P : Values Tree slots → List Lexeme → Type 0) (tokens : List Lexeme) (r : Refusal) : Type 0 where
    pub fails : AfterEach G slots P → Fails n slots P tokens r

  -- nothing fills the slots
  pub record Lacks (slots : List (Slot N)) (tokens : List Lexeme) : Type 0 where
    pub none : (n : ℕ) (v : Values Tree slots) (rest : List Lexeme) → Fills n slots tokens rest v → ⊥

  -- a rule reads the tree
  pub record ReadBy (p : N) (below : ℕ) (tokens rest : List Lexeme) (x : Tree p) (r : Rule Tree (Tree p)) : Type 0 where
    pub v : Values Tree r.slots
    pub span : Span
    pub fills : Fills below r.slots tokens rest v
    pub is_span : IsSpan r.spanned span fills.taken
    pub allowed : r.allows v ≡ true
    pub builds : x ≡ r.build span v

  -- each rule lacks its slots
  abbrev pub AllLack : (p : N) → List Lexeme → List (Rule Tree (Tree p)) → Type 0
  AllLack p tokens [] = Unit {0}
  AllLack p tokens (r ∷ rs) = Lacks r.slots tokens × AllLack p tokens rs

  -- no rule of these builds a tree that is read
  abbrev pub NoneBy : (n : ℕ) (p : N) (tokens : List Lexeme) (rs : List (Rule Tree (Tree p))) → Type 0
  NoneBy n p tokens rs = (m : ℕ) → m ≤ n → (x : Tree p) (q : List (Sym Tree)) (taken rest : List Lexeme) → tokens ≡ taken ++ rest → AnyOf (Builds G p x q taken) rs → Spells G m q taken → Stops (G.more p x) rest → ⊥

  -- what is read of q there is read of p here, and what is refused there is refused here
  pub record Leads (n : ℕ) (p q : N) (tokens there : List Lexeme) (f : Tree q → Tree p) : Type 0 where
    pub found : (rest : List Lexeme) (y : Tree q) → Read G n q there rest y → Read G n p tokens rest (f y)
    pub refused : (r : Refusal) → Refused G n q there r → Refused G n p tokens r

-- a fact of the n-th
abbrev pub OfNth : {R : Type 0} → ℕ → List R → (R → Type 0) → Type 0
OfNth n [] P = ⊥
OfNth zero (r ∷ rs) P = P r
OfNth (suc n) (r ∷ rs) P = OfNth n rs P

-- what stands at a place is first there
pub same_token : {tokens : List Lexeme} {i j : ℕ} {Is : Lexeme → Type 0} (a : IsAt tokens i j Is) (t : Lexeme) (us : List Lexeme) → drop i tokens ≡ t ∷ us → (a.t ≡ t) × (drop j tokens ≡ us)
same_token {tokens = tokens} {i = i} a t us e = let s : a.t ∷ drop (i + 1) tokens ≡ t ∷ us = sym a.at.split ∙ e in let n = a.next in (cc, rw n (cc))

-- no token of this kind is a name that passes
pub any_other : {tokens : List Lexeme} {i : ℕ} {k : TokenKind} (ok : Text → Bool) → Other tokens i (OfKind k) → Other tokens i (Passing k ok)
any_other ok o = record { other = λ t rest e is. o.other t rest e is.0 }

module _ {N : Type 0} {Tree : N → Type 0} {G : Grammar Tree} where
  -- ---- slots that are read

  pub nothing : {n : ℕ} {tokens : List Lexeme} → Fills G n [] tokens tokens tt
  nothing = record { taken = []; split = refl; spells = end }

  pub a_mark : {n : ℕ} {slots : List (Slot N)} {tokens rest : List Lexeme} {i j : ℕ} {k : TokenKind} {v : Values Tree slots} → IsAt tokens i j (OfKind k) → Fills G n slots (drop j tokens) rest v →
      Fills G n (mark k ∷ slots) (drop i tokens) rest v
  a_mark {k = k} a f = record { taken = a.t ∷ f.taken; split = a.at.split ∙ ap (λ z. a.t ∷ z) (rw a.next at f.split); spells = token {s = plain k} a.is f.spells }

  pub a_word : {n : ℕ} {slots : List (Slot N)} {tokens rest : List Lexeme} {i j : ℕ} {k : TokenKind} {w : Text} {v : Values Tree slots} → IsAt tokens i j (Spelled k w) → Fills G n slots (drop j tokens) rest v →
      Fills G n (word k w ∷ slots) (drop i tokens) rest v
  a_word {k = k} {w = w} a f = record { taken = a.t ∷ f.taken; split = a.at.split ∙ ap (λ z. a.t ∷ z) (rw a.next at f.split); spells = token {s = spelled k w} a.is f.spells }

  pub a_name : {n : ℕ} {slots : List (Slot N)} {tokens rest : List Lexeme} {i j : ℕ} {k : TokenKind} {ok : Text → Bool} {x : Text} {v : Values Tree slots} → IsName tokens i j k ok x →
      Fills G n slots (drop j tokens) rest v → Fills G n (name k ok ∷ slots) (drop i tokens) rest (x, v)
  a_name {k = k} {ok = ok} {x = x} a f = record {
    taken = a.t ∷ f.taken;
    split = a.at.split ∙ ap (λ z. a.t ∷ z) (rw a.next at f.split);
    spells = token {s = named k ok x} (a.kind, sym a.is, ap ok a.is ∙ a.passes) f.spells;
  }

  pub a_number : {n m : ℕ} {slots : List (Slot N)} {tokens rest : List Lexeme} {i j : ℕ} {v : Values Tree slots} → IsAt tokens i j (OfKind (token_kind.Int m)) → Fills G n slots (drop j tokens) rest v →
      Fills G n (number ∷ slots) (drop i tokens) rest (m, v)
  a_number {m = m} a f = record { taken = a.t ∷ f.taken; split = a.at.split ∙ ap (λ z. a.t ∷ z) (rw a.next at f.split); spells = token {s = counted m} a.is f.spells }

  pub a_token : {n : ℕ} {slots : List (Slot N)} {tokens rest : List Lexeme} {i j : ℕ} {ks : List TokenKind} {v : Values Tree slots} (a : IsAt tokens i j (Among ks)) → Fills G n slots (drop j tokens) rest v →
      Fills G n (among ks ∷ slots) (drop i tokens) rest (a.t, v)
  a_token {ks = ks} a f = record { taken = a.t ∷ f.taken; split = a.at.split ∙ ap (λ z. a.t ∷ z) (rw a.next at f.split); spells = token {s = token_of ks a.t} (refl, a.is) f.spells }

  pub an_one : {n : ℕ} {slots : List (Slot N)} {tokens mid rest : List Lexeme} {p : N} {x : Tree p} {v : Values Tree slots} → Read G n p tokens mid x → Fills G n slots mid rest v →
      Fills G n (one p ∷ slots) tokens rest (x, v)
  an_one {rest = rest} r f = record {
    taken = r.taken ++ f.taken;
    split = r.split ∙ ap (λ z. r.taken ++ z) f.split ∙ sym (append_assoc r.taken f.taken rest);
    spells = append G r.spells f.spells;
  }

  -- ---- slots that are not read

  -- filled slots that begin with a token
  pub token_back : {n : ℕ} {s : Sym Tree} {symbols : List (Sym Tree)} (f : (p : N) (x : Tree p) → s ≡ part p x → ⊥) (tokens taken rest : List Lexeme) → tokens ≡ taken ++ rest → Spells G n (s ∷ symbols) taken →
      (t : Lexeme) × (us : List Lexeme) × (tokens ≡ t ∷ (us ++ rest)) × IsToken s t × Spells G n symbols us
  token_back f tokens taken rest e d = let o = token-out G f d in (o.0, o.1, e ∙ ap (λ z. z ++ rest) o.2, o.3, o.4)

  pub not_mark : {slots : List (Slot N)} {tokens : List Lexeme} {i : ℕ} {k : TokenKind} → Other tokens i (OfKind k) → Lacks G (mark k ∷ slots) (drop i tokens)
  not_mark {tokens = tokens} {i = i} o = record { none = λ n v rest f. let b = token_back (no_plain G) (drop i tokens) f.taken rest f.split f.spells in o.other b.0 (b.1 ++ rest) b.2 b.3 }

  pub not_word : {slots : List (Slot N)} {tokens : List Lexeme} {i : ℕ} {k : TokenKind} {w : Text} → Other tokens i (Spelled k w) → Lacks G (word k w ∷ slots) (drop i tokens)
  not_word {tokens = tokens} {i = i} o = record { none = λ n v rest f. let b = token_back (no_spelled G) (drop i tokens) f.taken rest f.split f.spells in o.other b.0 (b.1 ++ rest) b.2 b.3 }

  pub not_name : {slots : List (Slot N)} {tokens : List Lexeme} {i : ℕ} {k : TokenKind} {ok : Text → Bool} → Other tokens i (Passing k ok) → Lacks G (name k ok ∷ slots) (drop i tokens)
  not_name {tokens = tokens} {i = i} {ok = ok} o = record {
    none = λ n v rest f. let b = token_back (no_named G) (drop i tokens) f.taken rest f.split f.spells in o.other b.0 (b.1 ++ rest) b.2 (b.3.0, ap ok b.3.1 ∙ b.3.2);
  }

  pub not_among : {slots : List (Slot N)} {tokens : List Lexeme} {i : ℕ} {ks : List TokenKind} → Other tokens i (Among ks) → Lacks G (among ks ∷ slots) (drop i tokens)
  not_among {tokens = tokens} {i = i} o = record { none = λ n v rest f. let b = token_back (no_token_of G) (drop i tokens) f.taken rest f.split f.spells in o.other b.0 (b.1 ++ rest) b.2 b.3.1 }

  lacking : {n : ℕ} {slots : List (Slot N)} {tokens : List Lexeme} {r : Refusal} {P : Values Tree slots → List Lexeme → Type 0} → Says r 5 [] [] → Lacks G slots tokens → Failing G n slots P tokens r
  lacking says l = record { fails = λ a. wrong says (λ m v rest f pv. l.none m v rest f) }

  module _ {n : ℕ} {slots : List (Slot N)} {tokens : List Lexeme} {i : ℕ} {k : TokenKind} {r : Refusal} where
    pub no_mark : {P : Values Tree slots → List Lexeme → Type 0} → Unexpected tokens i (OfKind k) r → Failing G n (mark k ∷ slots) P (drop i tokens) r
    no_mark u = lacking u.says (not_mark u.other)

    pub no_word : {w : Text} {P : Values Tree slots → List Lexeme → Type 0} → Unexpected tokens i (Spelled k w) r → Failing G n (word k w ∷ slots) P (drop i tokens) r
    no_word u = lacking u.says (not_word u.other)

    pub no_name : {ok : Text → Bool} {P : Text × Values Tree slots → List Lexeme → Type 0} → Unexpected tokens i (Passing k ok) r → Failing G n (name k ok ∷ slots) P (drop i tokens) r
    no_name u = lacking u.says (not_name u.other)

  pub no_among : {n : ℕ} {slots : List (Slot N)} {tokens : List Lexeme} {i : ℕ} {ks : List TokenKind} {r : Refusal} {P : Lexeme × Values Tree slots → List Lexeme → Type 0} → Unexpected tokens i (Among ks) r → Failing G n (among ks ∷ slots) P (drop i tokens) r
  no_among u = lacking u.says (not_among u.other)

  pub among_read : {n : ℕ} {slots : List (Slot N)} {tokens : List Lexeme} {i j : ℕ} {ks : List TokenKind} {r : Refusal} {P : Lexeme × Values Tree slots → List Lexeme → Type 0} (a : IsAt tokens i j (Among ks)) →
      Failing G n slots (λ v rest. P (a.t, v) rest) (drop j tokens) r → Failing G n (among ks ∷ slots) P (drop i tokens) r
  among_read {tokens = tokens} {i = i} {ks = ks} {P = P} a h = record {
    fails = λ after. elim (h.fails (after a.t)) [
      | wrong says none ↦ wrong says (λ m v rest f pv. let b = token_back (no_token_of G) (drop i tokens) f.taken rest f.split f.spells in let s = same_token a b.0 (b.1 ++ rest) b.2 in
          none m v.1 rest (record { taken = b.1; split = s.1; spells = b.4 }) (subst (λ z. P (z, v.1) rest) (sym (s.0 ∙ b.3.0)) pv))
      | deep taken rest says none split opened ↦ deep (a.t ∷ taken) rest says
          (λ v rest f pv. let b = token_back (no_token_of G) (drop i tokens) f.taken rest f.split f.spells in let s = same_token a b.0 (b.1 ++ rest) b.2 in
          none v.1 rest (record { taken = b.1; split = s.1; spells = b.4 }) (subst (λ z. P (z, v.1) rest) (sym (s.0 ∙ b.3.0)) pv))
          (a.at.split ∙ ap (λ z. a.t ∷ z) (rw a.next at split)) (past {m = 0} {inner = a.t ∷ []} (a.t, tt) (token {s = token_of ks a.t} (refl, a.is) end) opened)
    ];
  }

  module _ {n : ℕ} {slots : List (Slot N)} {tokens : List Lexeme} {i j : ℕ} {k : TokenKind} {r : Refusal} where
    pub mark_read : {P : Values Tree slots → List Lexeme → Type 0} → IsAt tokens i j (OfKind k) → Failing G n slots P (drop j tokens) r → Failing G n (mark k ∷ slots) P (drop i tokens) r
    mark_read {P = P} a h = record {
      fails = λ after. elim (h.fails after) [
        | wrong says none ↦ wrong says (λ m v rest f pv. let b = token_back (no_plain G) (drop i tokens) f.taken rest f.split f.spells in
            none m v rest (record { taken = b.1; split = (same_token a b.0 (b.1 ++ rest) b.2).1; spells = b.4 }) pv)
        | deep taken rest says none split opened ↦ deep (a.t ∷ taken) rest says
            (λ v rest f pv. let b = token_back (no_plain G) (drop i tokens) f.taken rest f.split f.spells in none v rest (record { taken = b.1; split = (same_token a b.0 (b.1 ++ rest) b.2).1; spells = b.4 }) pv)
            (a.at.split ∙ ap (λ z. a.t ∷ z) (rw a.next at split)) (past {m = 0} {inner = a.t ∷ []} tt (token {s = plain k} a.is end) opened)
      ];
    }

    pub word_read : {w : Text} {P : Values Tree slots → List Lexeme → Type 0} → IsAt tokens i j (Spelled k w) → Failing G n slots P (drop j tokens) r → Failing G n (word k w ∷ slots) P (drop i tokens) r
    word_read {w = w} {P = P} a h = record {
      fails = λ after. elim (h.fails after) [
        | wrong says none ↦ wrong says (λ m v rest f pv. let b = token_back (no_spelled G) (drop i tokens) f.taken rest f.split f.spells in
            none m v rest (record { taken = b.1; split = (same_token a b.0 (b.1 ++ rest) b.2).1; spells = b.4 }) pv)
        | deep taken rest says none split opened ↦ deep (a.t ∷ taken) rest says
            (λ v rest f pv. let b = token_back (no_spelled G) (drop i tokens) f.taken rest f.split f.spells in none v rest (record { taken = b.1; split = (same_token a b.0 (b.1 ++ rest) b.2).1; spells = b.4 }) pv)
            (a.at.split ∙ ap (λ z. a.t ∷ z) (rw a.next at split)) (past {m = 0} {inner = a.t ∷ []} tt (token {s = spelled k w} a.is end) opened)
      ];
    }

    pub name_read : {ok : Text → Bool} {x : Text} {P : Text × Values Tree slots → List Lexeme → Type 0} → IsName tokens i j k ok x → Failing G n slots (λ v rest. P (x, v) rest) (drop j tokens) r →
        Failing G n (name k ok ∷ slots) P (drop i tokens) r
    name_read {ok = ok} {x = x} {P = P} a h = let at : IsAt tokens i j (OfKind k) = record { next = a.next; t = a.t; at = a.at; is = a.kind } in record {
      fails = λ after. elim (h.fails (after x)) [
        | wrong says none ↦ wrong says (λ m v rest f pv. let b = token_back (no_named G) (drop i tokens) f.taken rest f.split f.spells in let s = same_token at b.0 (b.1 ++ rest) b.2 in
            none m v.1 rest (record { taken = b.1; split = s.1; spells = b.4 }) (subst (λ z. P (z, v.1) rest) (sym (a.is ∙ ap (λ (z : Lexeme). z.content) s.0 ∙ b.3.1)) pv))
        | deep taken rest says none split opened ↦ deep (a.t ∷ taken) rest says
            (λ v rest f pv. let b = token_back (no_named G) (drop i tokens) f.taken rest f.split f.spells in let s = same_token at b.0 (b.1 ++ rest) b.2 in
            none v.1 rest (record { taken = b.1; split = s.1; spells = b.4 }) (subst (λ z. P (z, v.1) rest) (sym (a.is ∙ ap (λ (z : Lexeme). z.content) s.0 ∙ b.3.1)) pv))
            (a.at.split ∙ ap (λ z. a.t ∷ z) (rw a.next at split)) (past {m = 0} {inner = a.t ∷ []} (x, tt) (token {s = named k ok x} (a.kind, sym a.is, ap ok a.is ∙ a.passes) end) opened)
      ];
    }

  -- a nonterminal that is refused
  pub one_refused : {n : ℕ} {slots : List (Slot N)} {tokens : List Lexeme} {p : N} {r : Refusal} {P : Tree p × Values Tree slots → List Lexeme → Type 0} → Refused G n p tokens r → Failing G n (one p ∷ slots) P tokens r
  one_refused {p = p} h = record {
    fails = λ after. elim h [
      | syntax says m ↦ wrong says (λ k v rest f pv. let o = part-out G f.spells in
          m.none k v.0 (o.1 ++ rest) (record { taken = o.0; split = f.split ∙ ap (λ z. z ++ rest) o.2 ∙ append_assoc o.0 o.1 rest; spells = o.3; stops = (after v.0).0.ends k v.1 o.1 rest o.5 pv }))
      | nested says m ↦ deep m.taken m.rest says (λ v rest f pv. let o = part-out G f.spells in
          m.none v.0 (o.1 ++ rest) (record { taken = o.0; split = f.split ∙ ap (λ z. z ++ rest) o.2 ∙ append_assoc o.0 o.1 rest; spells = o.3; stops = (after v.0).0.ends _ v.1 o.1 rest o.5 pv }))
          m.split (open_longer G m.deep)
    ];
  }

  -- nothing that fills the slots may stand
  pub never_fits : {n : ℕ} {slots : List (Slot N)} {tokens : List Lexeme} {r : Refusal} {P : Values Tree slots → List Lexeme → Type 0} → Says r 5 [] [] → ((m : ℕ) → NoneFills G m slots P tokens) → Failing G n slots P tokens r
  never_fits says h = record { fails = λ after. wrong says h }

  -- what is read may not stand
  pub not_allowed : {n : ℕ} {tokens : List Lexeme} {r : Refusal} {P : Unit {0} → List Lexeme → Type 0} → Says r 5 [] [] → ((rest : List Lexeme) → P tt rest → ⊥) → Failing G n [] P tokens r
  not_allowed says h = record { fails = λ after. wrong says (λ m v rest f pv. h rest pv) }

  module _ {choice : N → List Lexeme → ℕ} (decided : (p : N) → Decided G choice p) where
    -- a nonterminal that is read
    pub one_read : {n : ℕ} {slots : List (Slot N)} {tokens mid : List Lexeme} {p : N} {x : Tree p} {r : Refusal} {P : Tree p × Values Tree slots → List Lexeme → Type 0} → Read G n p tokens mid x →
        Failing G n slots (λ v rest. P (x, v) rest) mid r → Failing G n (one p ∷ slots) P tokens r
    one_read {n = n} {slots = slots} {tokens = tokens} {mid = mid} {p = p} {x = x} {P = P} a h = record {
      fails = λ after. let back : (m : ℕ) (v : Tree p × Values Tree slots) (rest : List Lexeme) → Fills G m (one p ∷ slots) tokens rest v → P v rest → Fills G m slots mid rest v.1 × P (x, v.1) rest = (λ m v rest f pv. let o = part-out G f.spells in
          let s = read_once G choice decided a (record { taken = o.0; split = f.split ∙ ap (λ z. z ++ rest) o.2 ∙ append_assoc o.0 o.1 rest; spells = o.3; stops = (after v.0).0.ends m v.1 o.1 rest o.5 pv }) in
          (record { taken = o.1; split = s.1; spells = o.5 }, subst (λ z. P (z, v.1) rest) (sym s.0) pv)) in
          elim (h.fails (after x).1) [
            | wrong says none ↦ wrong says (λ m v rest f pv. let b = back m v rest f pv in none m v.1 rest b.0 b.1)
            | deep taken rest says none split opened ↦ deep (a.taken ++ taken) rest says (λ v rest f pv. let b = back n v rest f pv in none v.1 rest b.0 b.1)
                (a.split ∙ ap (λ z. a.taken ++ z) split ∙ sym (append_assoc a.taken taken rest)) (past (x, tt) a.spells opened)
          ];
    }

  -- ---- nonterminals by their rules

  by_nth : (p : N) (below : ℕ) (tokens rest : List Lexeme) (x : Tree p) (i : ℕ) (rs : List (Rule Tree (Tree p))) → OfNth i rs (λ r. ReadBy G p below tokens rest x r) →
      (taken : List Lexeme) × (q : List (Sym Tree)) × (tokens ≡ taken ++ rest) × AnyOf (Builds G p x q taken) rs × Spells G below q taken
  by_nth p below tokens rest x i [] h = absurd h
  by_nth p below tokens rest x zero (r ∷ rs) b = (b.fills.taken, filled Tree r.slots b.v, b.fills.split, inl (b.v, b.span, b.is_span, b.allowed, b.builds, refl), b.fills.spells)
  by_nth p below tokens rest x (suc i) (r ∷ rs) h = let o = by_nth p below tokens rest x i rs h in (o.0, o.1, o.2, inr o.3, o.4)

  -- the i-th rule reads
  pub reads_by : {p : N} {n : ℕ} {tokens rest : List Lexeme} {x : Tree p} (i below : ℕ) → G.cost p + below ≤ n → OfNth i (G.rules p) (λ r. ReadBy G p below tokens rest x r) → Stops (G.more p x) rest → Read G n p tokens rest x
  reads_by {p = p} {tokens = tokens} {rest = rest} {x = x} i below l h s = let o = by_nth p below tokens rest x i (G.rules p) h in record { taken = o.0; split = o.2; spells = by G o.3 l o.4; stops = s }

  -- no rule reads
  all_lack : (p : N) (tokens : List Lexeme) (rs : List (Rule Tree (Tree p))) → AllLack G p tokens rs → (n : ℕ) (x : Tree p) (q : List (Sym Tree)) (taken rest : List Lexeme) → tokens ≡ taken ++ rest →
      AnyOf (Builds G p x q taken) rs → Spells G n q taken → ⊥
  all_lack p tokens [] l n x q taken rest e b d = b
  all_lack p tokens (r ∷ rs) l n x q taken rest e (inl (v, span, is, al, bx, f)) d = l.0.none n v rest (record { taken = taken; split = e; spells = subst (λ z. Spells G n z taken) f d })
  all_lack p tokens (r ∷ rs) l n x q taken rest e (inr b) d = all_lack p tokens rs l.1 n x q taken rest e b d

  pub none_of : {p : N} {tokens : List Lexeme} → AllLack G p tokens (G.rules p) → Missing G p tokens
  none_of {p = p} {tokens = tokens} l = record { none = λ n x rest f. let o = produced-out G f.spells in all_lack p tokens (G.rules p) l o.0 x o.1 o.2 rest (f.split ∙ ap (λ z. z ++ rest) o.3) o.4 o.6 }

  nth_refused : (n : ℕ) (p : N) (tokens : List Lexeme) (choice : List Lexeme → ℕ) (ref : Refusal) (i k : ℕ) (rs : List (Rule Tree (Tree p))) → AllChosen G p choice k rs → AllAfter G p rs → choice tokens ≡ k + i →
      OfNth i rs (λ r. Failing G n r.slots (λ v rest. Fits G p r v rest) tokens ref) →
      (Says ref 5 [] [] × ((m : ℕ) → NoneBy G m p tokens rs)) ⊎ (Says ref 6 (codes "257") (codes "256") × NoneBy G n p tokens rs ×
      ((taken rest : List Lexeme) × (slots : List (Slot N)) × (tokens ≡ taken ++ rest) × AnyOf (λ (r : Rule Tree (Tree p)). r.slots ≡ slots) rs × Open G slots taken (n + 1)))
  nth_refused n p tokens choice ref i k [] c a e h = absurd h
  nth_refused n p tokens choice ref zero k (r ∷ rs) c a e h =
      let others : (m : ℕ) (x : Tree p) (q : List (Sym Tree)) (taken rest : List Lexeme) → tokens ≡ taken ++ rest → AnyOf (Builds G p x q taken) rs → Spells G m q taken → Stops (G.more p x) rest → ⊥ =
      (λ m x q taken rest s b d st. let l = tail_chosen G p choice (suc k) rs c.1 x q m taken rest b d st in let z : choice tokens ≡ choice (taken ++ rest) = ap choice s in absurd (omega (arith, l, z, e))) in
      let mine : (m : ℕ) → ((v : Values Tree r.slots) (rest : List Lexeme) → Fills G m r.slots tokens rest v → Fits G p r v rest → ⊥) → (j : ℕ) → j ≤ m → (x : Tree p) (q : List (Sym Tree)) (taken rest : List Lexeme) → tokens ≡ taken ++ rest →
      AnyOf (Builds G p x q taken) (r ∷ rs) → Spells G j q taken → Stops (G.more p x) rest → ⊥ =
      (λ m none j l x q taken rest s b d st. elim b [
        | inl y ↦ (none y.0 rest (record { taken = taken; split = s; spells = wider G (subst (λ z. Spells G j z taken) y.5 d) l }) (record { span = y.1; allowed = y.3; stops = subst (λ z. Stops (G.more p z) rest) y.4 st }))
        | inr y ↦ (others j x q taken rest s y d st)
      ]) in
      elim (h.fails a.0) [
        | wrong says none ↦ inl (says, λ m. mine m (none m))
        | deep taken rest says none split opened ↦ inr (says, mine n none, (taken, rest, r.slots, split, inl refl, opened))
      ]
  nth_refused n p tokens choice ref (suc i) k (r ∷ rs) c a e h =
      let this : (m : ℕ) (v : Values Tree r.slots) (span : Span) (x : Tree p) (q : List (Sym Tree)) (taken rest : List Lexeme) → tokens ≡ taken ++ rest → r.allows v ≡ true → x ≡ r.build span v → q ≡ filled Tree r.slots v → Spells G m q taken → Stops (G.more p x) rest → ⊥ =
      (λ m v span x q taken rest s al bx f d st. let z = c.0 m v taken rest (subst (λ z. Spells G m z taken) f d) (record { span = span; allowed = al; stops = subst (λ z. Stops (G.more p z) rest) bx st }) in
      let w : choice tokens ≡ choice (taken ++ rest) = ap choice s in absurd (omega (arith, z, w, e))) in
      let more : (m : ℕ) → NoneBy G m p tokens rs → NoneBy G m p tokens (r ∷ rs) = (λ m none j l x q taken rest s b d st. elim b [
        | inl y ↦ (this j y.0 y.1 x q taken rest s y.3 y.4 y.5 d st)
        | inr y ↦ (none j l x q taken rest s y d st)
      ]) in
      elim (nth_refused n p tokens choice ref i (suc k) rs c.1 a.1 (omega (arith, e)) h) [
        | inl y ↦ inl (y.0, λ m. more m (y.1 m))
        | inr y ↦ inr (y.0, more n y.1, (y.2.0, y.2.1, y.2.2, y.2.3, inr y.2.4, y.2.5))
      ]

  -- the i-th rule is refused, which the tokens choose
  pub refused_by : {choice : N → List Lexeme → ℕ} (decided : (p : N) → Decided G choice p) {p : N} {n : ℕ} {tokens : List Lexeme} {ref : Refusal} (i below : ℕ) → G.cost p + below ≡ n → choice p tokens ≡ i →
      OfNth i (G.rules p) (λ r. Failing G below r.slots (λ v rest. Fits G p r v rest) tokens ref) → Refused G n p tokens ref
  refused_by {choice = choice} decided {p = p} {n = n} {tokens = tokens} {ref = ref} i below l e h = let c = decided p in elim (nth_refused below p tokens (choice p) ref i 0 (G.rules p) c.chosen c.after (omega (arith, e)) h) [
    | inl y ↦ syntax y.0 (record { none = λ m x rest f. let o = produced-out G f.spells in y.1 o.0 o.0 (omega arith) x o.1 o.2 rest (f.split ∙ ap (λ z. z ++ rest) o.3) o.4 o.6 f.stops })
    | inr y ↦ nested y.0 (record {
      none = λ x rest f. let o = produced-out G f.spells in let w = o.5 in y.1 o.0 (omega (arith, w, l)) x o.1 o.2 rest (f.split ∙ ap (λ z. z ++ rest) o.3) o.4 o.6 f.stops;
      taken = y.2.0;
      rest = y.2.1;
      split = y.2.3;
      deep = (let w : Open G (one p ∷ []) y.2.0 (G.cost p + (below + 1)) = within y.2.4 y.2.5 in let k : G.cost p + (below + 1) ≡ n + 1 = omega (arith, l) in rw k at w);
    })
  ]

  -- where nothing more may nest
  pub at_limit : {p : N} {n : ℕ} {tokens : List Lexeme} → n ≡ 0 → G.cost p ≡ 1 → TooDeep G n p tokens
  at_limit {p = p} {n = n} {tokens = tokens} z c = record {
    none = λ x rest f. let o = produced-out G f.spells in let w = o.5 in absurd (omega (arith, z, c, w));
    taken = [];
    rest = tokens;
    split = refl;
    deep = let k : G.cost p ≡ n + 1 = omega (arith, z, c) in let w : Open G (one p ∷ []) [] (G.cost p) = here in rw k at w;
  }

  -- ---- a place that leads to another

  pub leads_here : {n : ℕ} {p : N} {tokens : List Lexeme} → Leads G n p p tokens tokens (λ y. y)
  leads_here = record { found = λ rest y r. r; refused = λ r h. h }

  pub leads_on : {n : ℕ} {p q s : N} {tokens there yonder : List Lexeme} {f : Tree q → Tree p} {g : Tree s → Tree q} → Leads G n p q tokens there f → Leads G n q s there yonder g → Leads G n p s tokens yonder (λ y. f (g y))
  leads_on {g = g} a b = record { found = λ rest y r. a.found rest (g y) (b.found rest y r); refused = λ r h. a.refused r (b.refused r h) }

-- ---- exits by `?`

-- an error that is passed on
pub passed : {B : Type 0} {R S : Refusal → Type 0} (e : Stop) (res : Result B Stop) → IsErrAnd res (λ y. y ≡ e) → OfRefusal e R → ((r : Refusal) → R r → S r) → IfRefused res S
passed e (Ok x) is h f = tt
passed {R = R} (stop.Refused r) (Err (stop.Refused q)) is h f = f q (let s : q ≡ r = cc in rw s h)
passed stop.Memory (Err (stop.Refused q)) is h f = absurd (let z : stop.Refused q ≡ stop.Memory = is in cc)
passed e (Err stop.Memory) is h f = tt

-- an error that is made
pub made : {R : Refusal → Type 0} (e : Stop) → SaysSyntax e → ((r : Refusal) → Says r 5 [] [] → R r) → OfRefusal e R
made (stop.Refused r) h f = f r h
made stop.Memory h f = tt

pub made_deep : {R : Refusal → Type 0} (e : Stop) → SaysDeep e → ((r : Refusal) → Says r 6 (codes "257") (codes "256") → R r) → OfRefusal e R
made_deep (stop.Refused r) h f = f r h
made_deep stop.Memory h f = tt

-- ---- answers of calls

pub found_map : {A : Type 0} {P Q : A → Type 0} (res : Result A Stop) → IfOk res P → ((x : A) → P x → Q x) → IfOk res Q
found_map (Ok x) h f = f x h
found_map (Err e) h f = tt

pub refused_map : {A : Type 0} {R S : Refusal → Type 0} (res : Result A Stop) → IfRefused res R → ((r : Refusal) → R r → S r) → IfRefused res S
refused_map (Ok x) h f = tt
refused_map (Err (stop.Refused r)) h f = f r h
refused_map (Err stop.Memory) h f = tt
