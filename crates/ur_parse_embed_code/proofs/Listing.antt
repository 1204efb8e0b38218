-- Lists whose items are read one behind the other, each with its code.
use Rattle.std.specs.Prelude.{ℕ, List, [], ◌∷◌, ◌++◌}
use Rattle.std.proofs.Common.{append_assoc}
use Rattle.std.proofs.lemmas.List.{append-nil}
use Rattle.ur_lex.specs.declared.token.Lexeme.{Lexeme}
use Rattle.ur_parse_rules.specs.Quoted.{Quoted, Raw, plain, both, cons}
use Rattle.ur_parse_embed_code.specs.declared.quotes.Quotes.{Quotes}
use Rattle.ur_parse_embed_code.specs.Quotes.{Numbered}
use Rattle.ur_parse_embed_code.proofs.Numbering.{numbered_plain, numbered_both}

-- what is numbered behind the items of a list so far is, changed by f, numbered from the begin
pub record Before {A : Type 0} (tokens : List Lexeme) (depth : ℕ) (old now : Quotes) (list : List A) (f : Quoted Raw (List A) → Quoted Raw (List A)) : Type 0 where
  pub behind : (new : Quotes) (y : Quoted Raw (List A)) (ts : List A) → Numbered tokens depth now new y ts → Numbered tokens depth old new (f y) (list ++ ts)

pub before_here : {A : Type 0} (tokens : List Lexeme) (depth : ℕ) (old : Quotes) → Before {A = A} tokens depth old old [] (λ y. y)
before_here tokens depth old = record { behind = λ new y ts n. n }

module _ {A : Type 0} {tokens : List Lexeme} {depth : ℕ} {old now : Quotes} {list : List A} {f : Quoted Raw (List A) → Quoted Raw (List A)} (b : Before tokens depth old now list f) where
  pub before_more : {next : Quotes} {x : Quoted Raw A} {a : A} → Numbered tokens depth now next x a → Before tokens depth old next (list ++ a ∷ []) (λ y. f (both cons x y))
  before_more {x = x} {a = a} h = record { behind = λ new y ts n. rw (append_assoc list (a ∷ []) ts) (b.behind new (both cons x y) (a ∷ ts) (numbered_both cons h n)) }

  pub before_done : Numbered tokens depth old now (f (plain [])) list
  before_done = rw append-nil at (b.behind now (plain []) [] (numbered_plain tokens depth now []))
