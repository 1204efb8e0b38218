-- A nonterminal whose rules are told apart by one token is read in one way: three tests, each computed.
use Rattle.std.specs.Prelude.{◌≡◌, ℕ, true, List}
use Rattle.ur_lex.specs.declared.token.TokenKind.{TokenKind}
use Rattle.ur_lex.specs.declared.token.Lexeme.{Lexeme}
use Rattle.ur_lex.specs.Spelling.{Text}
use Rattle.ur_parse_rules.proofs.Once.{Decided}
use Rattle.ur_parse_rules.specs.Classes.{member}
use Rattle.ur_parse_rules.specs.Parts.{Part, Tree}
use Rattle.ur_parse_rules.specs.Ends.{more}
use Rattle.ur_parse_rules.specs.Language.{language, rules}
use Rattle.ur_parse_rules.proofs.Starts.{first, empty}
use Rattle.ur_parse_rules.proofs.Firsts.{fit}
use Rattle.ur_parse_rules.proofs.Most.{last, most}
use Rattle.ur_parse_rules.proofs.Checks.{picked, told, are_told}

abbrev pub by_token : Part → List Lexeme → ℕ
by_token p = picked first empty (rules p)

-- the same tokens go on behind each tree
abbrev pub Steady : Part → Type 0
Steady p = (a : Tree p) (k : TokenKind) (w : Text) → member (last p) k w ≡ true → more p a k w ≡ true

abbrev pub Told : Part → Type 0
Told p = are_told first empty last p (rules p) ≡ true

pub by_table : (choice : Part → List Lexeme → ℕ) (p : Part) → Steady p → choice p ≡ by_token p → Told p → Decided language choice p
by_table choice p s e t = told language first empty fit last p s most choice e t
