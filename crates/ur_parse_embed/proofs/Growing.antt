-- A list grows by elements that are read one behind the other, each with its code.
use Rattle.std.specs.Prelude.{◌≡◌, ℕ, true, List, [], ◌∷◌, ◌++◌, drop}
use Rattle.std.proofs.Common.{sym, ◌∙◌, ap, append_assoc}
use Rattle.std.proofs.lemmas.List.{append-nil}
use Rattle.ur_base.specs.declared.refusal.Refusal.{Refusal}
use Rattle.ur_lex.specs.declared.token.Lexeme.{Lexeme}
use Rattle.ur_parse_rules.specs.Rules.{Stops}
use Rattle.ur_parse_rules.specs.Places.{starts}
use Rattle.ur_parse_rules.proofs.Choices.{stops_first}
use Rattle.ur_parse_rules.specs.Classes.{Classes, member}
use Rattle.ur_parse_rules.specs.Quoted.{Quoted, Raw, plain}
use Rattle.ur_parse_rules.proofs.Tests.{false_true}
use Rattle.ur_parse_embed_code.specs.declared.quotes.Quotes.{Quotes}
use Rattle.ur_parse_embed_code.specs.Quotes.{Numbered, Makes}
use Rattle.ur_parse_embed.specs.Pieces.{Adds}
use Rattle.ur_parse_embed_code.proofs.Listing.{Before, before_here, before_done}

-- what goes on does not end
pub goes_on_not : {A : Type 0} (cs : Classes) (ts : List Lexeme) → starts (member cs) ts ≡ true → Stops (member cs) ts → A
goes_on_not cs ts e st = false_true (sym (stops_first (member cs) ts st) ∙ e)

module _ {A : Type 0} (Rd : List Lexeme → List Lexeme → Quoted Raw (List A) → Type 0) (Rf : List Lexeme → Refusal → Type 0) where
  -- what is read of the rest of a list there is read here, with the elements so far before it
  pub record Grown (tokens : List Lexeme) (depth i j : ℕ) (old now : Quotes) (list : List A) : Type 0 where
    pub f : Quoted Raw (List A) → Quoted Raw (List A)
    pub found : (rest : List Lexeme) (y : Quoted Raw (List A)) → Rd (drop j tokens) rest y → Rd (drop i tokens) rest (f y)
    pub refused : (r : Refusal) → Rf (drop j tokens) r → Rf (drop i tokens) r
    pub before : Before tokens depth old now list f

  pub grown_here : (tokens : List Lexeme) (depth i : ℕ) (old : Quotes) → Grown tokens depth i i old old []
  grown_here tokens depth i old = record { f = λ y. y; found = λ rest y r. r; refused = λ r h. h; before = before_here tokens depth old }

  module _ {tokens : List Lexeme} {depth i j : ℕ} {old now : Quotes} {list : List A} (g : Grown tokens depth i j old now list) where
    pub grown_more : (l : ℕ) {next : Quotes} {a : A} (step : Quoted Raw (List A) → Quoted Raw (List A)) → ((rest : List Lexeme) (y : Quoted Raw (List A)) → Rd (drop l tokens) rest y → Rd (drop j tokens) rest (step y)) →
        ((r : Refusal) → Rf (drop l tokens) r → Rf (drop j tokens) r) → ((new : Quotes) (y : Quoted Raw (List A)) (ts : List A) → Numbered tokens depth next new y ts → Numbered tokens depth now new (step y) (a ∷ ts)) →
        Grown tokens depth i l old next (list ++ a ∷ [])
    grown_more l {a = a} step found refused made = record {
      f = λ y. g.f (step y);
      found = λ rest y r. g.found rest (step y) (found rest y r);
      refused = λ r h. g.refused r (refused r h);
      before = record { behind = λ new y ts n. rw (append_assoc list (a ∷ []) ts) (g.before.behind new (step y) (a ∷ ts) (made new y ts n)) };
    }

    pub grown_done : (k : ℕ) → Rd (drop j tokens) (drop k tokens) (plain []) → Makes (Rd (drop i tokens) (drop k tokens)) tokens depth old now list
    grown_done k r = record { of = g.f (plain []); read = g.found (drop k tokens) (plain []) r; made = before_done g.before }

-- so, behind the elements that were there
pub record GrownFrom {A : Type 0} (Rd : List Lexeme → List Lexeme → Quoted Raw (List A) → Type 0) (Rf : List Lexeme → Refusal → Type 0) (tokens : List Lexeme) (depth i j : ℕ) (old now : Quotes) (before after : List A) : Type 0 where
  pub more : List A
  pub is : after ≡ before ++ more
  pub grown : Grown Rd Rf tokens depth i j old now more

pub from_more : {A : Type 0} {Rd : List Lexeme → List Lexeme → Quoted Raw (List A) → Type 0} {Rf : List Lexeme → Refusal → Type 0} {tokens : List Lexeme} {depth i j : ℕ} {old now : Quotes} {before list after : List A} (x : A) (g : GrownFrom Rd Rf tokens depth i j old now before list) →
    after ≡ list ++ x ∷ [] → {l : ℕ} {next : Quotes} → Grown Rd Rf tokens depth i l old next (g.more ++ x ∷ []) → GrownFrom Rd Rf tokens depth i l old next before after
from_more {before = before} x g e h = record { more = g.more ++ x ∷ []; is = e ∙ ap (λ z. z ++ x ∷ []) g.is ∙ append_assoc before g.more (x ∷ []); grown = h }

pub from_here : {A : Type 0} (Rd : List Lexeme → List Lexeme → Quoted Raw (List A) → Type 0) (Rf : List Lexeme → Refusal → Type 0) (tokens : List Lexeme) (depth i : ℕ) (old : Quotes) (list : List A) → GrownFrom Rd Rf tokens depth i i old old list list
from_here Rd Rf tokens depth i old list = record { more = []; is = sym (append-nil list); grown = grown_here Rd Rf tokens depth i old }

-- ---- without code

module _ {A : Type 0} (Rd : ℕ → List Lexeme → List Lexeme → List A → Type 0) (Rf : ℕ → List Lexeme → Refusal → Type 0) where
  -- what is read of the rest of a list there is read here with the elements so far before it, which stand behind others
  pub record AddedFrom (tokens : List Lexeme) (i j : ℕ) (before after : List A) : Type 0 where
    pub more : List A
    pub is : after ≡ before ++ more
    pub found : (n : ℕ) (rest : List Lexeme) (y : List A) → Rd n (drop j tokens) rest y → Rd n (drop i tokens) rest (more ++ y)
    pub refused : (n : ℕ) (r : Refusal) → Rf n (drop j tokens) r → Rf n (drop i tokens) r

  pub added_here : (tokens : List Lexeme) (i : ℕ) (list : List A) → AddedFrom tokens i i list list
  added_here tokens i list = record { more = []; is = sym (append-nil list); found = λ n rest y r. r; refused = λ n r h. h }

  module _ {tokens : List Lexeme} {i j : ℕ} {before list : List A} (c : AddedFrom tokens i j before list) where
    pub added_more : (l : ℕ) {x : A} → ((n : ℕ) (rest : List Lexeme) (y : List A) → Rd n (drop l tokens) rest y → Rd n (drop j tokens) rest (x ∷ y)) →
        ((n : ℕ) (r : Refusal) → Rf n (drop l tokens) r → Rf n (drop j tokens) r) → AddedFrom tokens i l before (list ++ x ∷ [])
    added_more l {x = x} found refused = record {
      more = c.more ++ x ∷ [];
      is = ap (λ z. z ++ x ∷ []) c.is ∙ append_assoc before c.more (x ∷ []);
      found = λ n rest y r. rw (append_assoc c.more (x ∷ []) y) (c.found n rest (x ∷ y) (found n rest y r));
      refused = λ n r h. c.refused n r (refused n r h);
    }

    pub added_done : (n k : ℕ) → Rd n (drop j tokens) (drop k tokens) [] → Adds (Rd n (drop i tokens) (drop k tokens)) before list
    added_done n k r = record { more = c.more; is = c.is; holds = rw append-nil at (c.found n (drop k tokens) [] r) }
