-- What is read alone, behind no other code.
use Rattle.std.specs.Prelude.{◌≡◌, ℕ, List, [], drop}
use Rattle.std.proofs.Common.{sym, subst}
use Rattle.ur_lex.specs.declared.token.Lexeme.{Lexeme}
use Rattle.ur_parse_rules.specs.Places.{Moves}
use Rattle.ur_parse_rules.specs.Quoted.{Quoted, Raw}
use Rattle.ur_parse_rules.specs.Language.{max_nesting}
use Rattle.ur_parse_embed_code.specs.declared.quotes.Quotes.{Quotes}
use Rattle.ur_parse_embed_code.specs.Quotes.{Numbered, Makes}
use Rattle.ur_parse_embed.specs.declared.embedded.Skeleton.{Skeleton}
use Rattle.ur_parse_embed.specs.Skeletons.{IsSkeleton, Embeds}

skeleton_is : {A : Type 0} {tokens : List Lexeme} {old new : Quotes} {x : Quoted Raw A} {tree : A} (end : ℕ) → old.exps ≡ [] → old.attributes ≡ [] → Numbered tokens max_nesting old new x tree →
    let s : Skeleton A = record { tree = tree; quotes = new; end = end } in IsSkeleton tokens x s
skeleton_is end e f n = record { exps = rw e at n.exps; attributes = rw f at n.attributes; tree = rw (e, f) at n.value }

pub embeds : {A : Type 0} (Rd : ℕ → List Lexeme → List Lexeme → Quoted Raw A → Type 0) → ((n m : ℕ) (tokens rest rest' : List Lexeme) (x y : Quoted Raw A) → Rd n tokens rest x → Rd m tokens rest' y → (x ≡ y) × (rest ≡ rest')) →
    {tokens : List Lexeme} {from end : ℕ} {old new : Quotes} {tree : A} → Moves tokens from end → old.exps ≡ [] → old.attributes ≡ [] → Makes (Rd max_nesting (drop from tokens) (drop end tokens)) tokens max_nesting old new tree →
    let s : Skeleton A = record { tree = tree; quotes = new; end = end } in Embeds Rd tokens from s
embeds {A = A} Rd once {tokens = tokens} {from = from} {end = end} {new = new} {tree = tree} m e f a = let s : Skeleton A = record { tree = tree; quotes = new; end = end } in let is = skeleton_is end e f a.made in record {
  moves = m;
  of = a.of;
  read = a.read;
  is = is;
  only = λ n rest x r. let o = once max_nesting n (drop from tokens) (drop end tokens) rest a.of x a.read r in (subst (λ z. IsSkeleton tokens z s) o.0 is, sym o.1);
}
