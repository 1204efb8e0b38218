-- `AS A` and `(e)` in slots, and whether an item is a column.
use Rattle.std.specs.Prelude.{◌≡◌, ◌+◌, ℕ, Bool, true, false, List, [], ◌∷◌, drop, codes, slice_get, Some, refl}
use Rattle.std.proofs.Common.{sym}
use Rattle.ur_base.specs.declared.refusal.Refusal.{Refusal}
use Rattle.ur_lex.specs.declared.token.Symbol.TheVariants as symbol
use Rattle.ur_lex.specs.declared.token.TokenKind.{TokenKind}
use Rattle.ur_lex.specs.declared.token.TokenKind.TheVariants as token
use Rattle.ur_lex.specs.declared.token.Lexeme.{Lexeme}
use Rattle.ur_lex.specs.Spelling.{Text}
use Rattle.ur_syntax.specs.declared.sql.SqlExp.{SqlExp}
use Rattle.ur_parse_rules.specs.Rules.{Slot, Values, name, Stops}
use Rattle.ur_parse_rules.specs.KindNumbers.{kind_number, all_kinds}
use Rattle.ur_parse_rules.specs.Places.{IsAt, IsName, Other, OfKind, Spelled}
use Rattle.ur_parse_rules.proofs.Steps.{Fills, Failing, a_mark, a_word, a_name, an_one, mark_read, word_read, name_read, one_read, one_refused, no_mark, no_word, no_name}
use Rattle.ur_parse_rules.specs.Classes.{Classes, member, all_of}
use Rattle.ur_parse_rules.specs.Words.{is_field}
use Rattle.ur_parse_rules.specs.Quoted.{Quoted, Raw, raw}
use Rattle.ur_parse_rules.specs.SqlParts as s
use Rattle.ur_parse_rules.specs.Parts.{Part, Tree}
use Rattle.ur_parse_rules.specs.Forms.{capital, symbol_mark, sql_slot}
use Rattle.ur_parse_rules.specs.Language.{language}
use Rattle.ur_parse_rules.proofs.Choice.{goes_on, a_column}
use Rattle.ur_parse_rules.proofs.Leads.{hits}
use Rattle.ur_parse_rules.proofs.AllDecided.{decided}
use Rattle.ur_parse_rules.proofs.Places.{missing, stops_cons}
use Rattle.ur_parse_embed.specs.Pieces.{Called, NotCalled, no_as, Enclosed, NotEnclosed, no_open, no_inner, no_close}
use Rattle.ur_parse_embed.specs.Pieces as pieces
use Rattle.ur_parse_embed.specs.ParseSelectColumns.{follows, is_column}

pub called_by : {tokens : List Lexeme} {i j k : ℕ} {x : Text} → IsAt tokens i j (Spelled token.Upper (codes "AS")) → IsName tokens j k token.Upper is_field x → Called tokens i k x
called_by {j = j} a b = record { middle = j; word = a; name = b }

module _ {n : ℕ} {slots : List (Slot Part)} {tokens : List Lexeme} {i : ℕ} where
  pub call_fills : {j : ℕ} {x : Text} {rest : List Lexeme} {v : Values Tree slots} → Called tokens i j x → Fills language n slots (drop j tokens) rest v → Fills language n (capital (codes "AS") ∷ name token.Upper is_field ∷ slots) (drop i tokens) rest (x, v)
  call_fills c f = a_word c.word (a_name c.name f)

  pub call_read : {j : ℕ} {x : Text} {r : Refusal} {P : Text × Values Tree slots → List Lexeme → Type 0} → Called tokens i j x → Failing language n slots (λ v rest. P (x, v) rest) (drop j tokens) r →
      Failing language n (capital (codes "AS") ∷ name token.Upper is_field ∷ slots) P (drop i tokens) r
  call_read c h = word_read c.word (name_read c.name h)

  pub no_call : {r : Refusal} {P : Text × Values Tree slots → List Lexeme → Type 0} → NotCalled tokens i r → Failing language n (capital (codes "AS") ∷ name token.Upper is_field ∷ slots) P (drop i tokens) r
  no_call (no_as u) = no_word u
  no_call (pieces.no_name middle a u) = word_read a (no_name u)

  pub enclosed_fills : {j : ℕ} {q : Quoted Raw SqlExp} {rest : List Lexeme} {v : Values Tree slots} → Enclosed n tokens i j q → Fills language n slots (drop j tokens) rest v →
      Fills language n (symbol_mark symbol.LParen ∷ sql_slot raw (s.sexp false) ∷ symbol_mark symbol.RParen ∷ slots) (drop i tokens) rest (q, v)
  enclosed_fills c f = a_mark c.opened (an_one c.inner (a_mark c.closed f))

  pub not_enclosed : {r : Refusal} {P : Quoted Raw SqlExp × Values Tree slots → List Lexeme → Type 0} → NotEnclosed n tokens i r →
      Failing language n (symbol_mark symbol.LParen ∷ sql_slot raw (s.sexp false) ∷ symbol_mark symbol.RParen ∷ slots) P (drop i tokens) r
  not_enclosed (no_open u) = no_mark u
  not_enclosed (no_inner begin a h) = mark_read a (one_refused h)
  not_enclosed (no_close begin middle q a b u) = mark_read a (one_read decided b (no_mark u))

-- ---- a column

pub hits_column : (ts : List Lexeme) → hits goes_on false a_column ts ≡ is_column ts
hits_column [] = refl
hits_column (t ∷ []) = refl
hits_column (t ∷ (d ∷ [])) = refl
hits_column (t ∷ (d ∷ (a ∷ ts))) = refl

followed : (cs : Classes) (f : List Lexeme → Bool) (t : Lexeme) (ts : List Lexeme) → member cs t.kind t.content ≡ true → follows cs f (t ∷ ts) ≡ f ts
followed cs f t ts e = rw e refl

pub follows_at : {tokens : List Lexeme} {i j : ℕ} {k : TokenKind} (cs : Classes) (f : List Lexeme → Bool) → IsAt tokens i j (OfKind k) → ((w : Text) → member cs k w ≡ true) → follows cs f (drop i tokens) ≡ f (drop j tokens)
follows_at {tokens = tokens} {i = i} cs f a h = let s = a.at.split in let k = a.is in let e = a.next in let m : member cs a.t.kind a.t.content ≡ true = rw k (h a.t.content) in rw (s, e) (followed cs f a.t (drop (i + 1) tokens) m)

follows_none : (cs : Classes) (f : List Lexeme → Bool) (ts : List Lexeme) → Stops (member cs) ts → follows cs f ts ≡ false
follows_none cs f [] st = refl
follows_none cs f (t ∷ ts) st = rw st refl

module _ {tokens : List Lexeme} {i : ℕ} where
  pub no_follow : {k : TokenKind} (f : List Lexeme → Bool) → slice_get all_kinds (kind_number k) ≡ Some k → Other tokens i (OfKind k) → false ≡ follows (all_of k ∷ []) f (drop i tokens)
  no_follow {k = k} f l o = sym (follows_none (all_of k ∷ []) f (drop i tokens) (missing l o))

  pub no_table : (f : List Lexeme → Bool) → Other tokens i (OfKind token.Lower) → Other tokens i (OfKind token.Upper) → false ≡ follows (all_of token.Lower ∷ all_of token.Upper ∷ []) f (drop i tokens)
  no_table f a b = sym (follows_none (all_of token.Lower ∷ all_of token.Upper ∷ []) f (drop i tokens) (stops_cons (all_of token.Lower) (all_of token.Upper ∷ []) (drop i tokens) (missing refl a) (missing refl b)))
