-- What is read of SQL or XML with the code of its antiquotes beside it.
use Rattle.std.specs.Prelude.{◌≡◌, ℕ, Bool, true, ◌&&◌, nat_lt, List, map, drop}
use Rattle.std.specs.List.{list_all}
use Rattle.ur_lex.specs.declared.token.Lexeme.{Lexeme}
use Rattle.ur_parse_rules.specs.Places.{Moves}
use Rattle.ur_parse_rules.specs.Quoted.{Quoted, Raw}
use Rattle.ur_parse_rules.specs.Language.{max_nesting}
use Rattle.ur_parse_embed_code.specs.declared.quotes.Range.{Range}
use Rattle.ur_parse_embed_code.specs.Quotes.{all_held, within}
use Rattle.ur_parse_embed.specs.declared.embedded.Skeleton.{Skeleton}

-- the code beside the tree, and the tree, in which the first antiquote and the first attribute have number 0
pub record IsSkeleton {A : Type 0} (tokens : List Lexeme) (x : Quoted Raw A) (s : Skeleton A) : Type 0 where
  pub exps : all_held tokens s.quotes.exps ≡ map (within max_nesting) x.exps
  pub attributes : all_held tokens s.quotes.attributes ≡ map (within max_nesting) x.attributes
  pub tree : s.tree ≡ x.at 0 0

-- It is read from a place on, of all that is read there with any nesting it is the skeleton, and so ends each.
pub record Embeds {A : Type 0} (Reads : ℕ → List Lexeme → List Lexeme → Quoted Raw A → Type 0) (tokens : List Lexeme) (from : ℕ) (s : Skeleton A) : Type 0 where
  pub moves : Moves tokens from s.end
  pub of : Quoted Raw A
  pub read : Reads max_nesting (drop from tokens) (drop s.end tokens) of
  pub is : IsSkeleton tokens of s
  pub only : (n : ℕ) (rest : List Lexeme) (x : Quoted Raw A) → Reads n (drop from tokens) rest x → IsSkeleton tokens x s × (rest ≡ drop s.end tokens)

-- whether code begins behind a place, has a token, and ends before another place
abbrev pub lies_between : ℕ → ℕ → Range → Bool
lies_between from end r = nat_lt from r.begin && nat_lt r.begin r.end && nat_lt r.end end

-- all code of what begins at a place lies behind its first token, and ends before its last
pub record IsWithin {A : Type 0} (from : ℕ) (s : Skeleton A) : Type 0 where
  pub exps : list_all (lies_between from s.end) s.quotes.exps ≡ true
  pub attributes : list_all (lies_between from s.end) s.quotes.attributes ≡ true
