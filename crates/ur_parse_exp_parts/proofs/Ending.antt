-- Tokens that go on by one of two sets.
use Rattle.std.specs.Prelude.{◌≡◌, Bool, true, false, ◌||◌, List, [], ◌∷◌, ◌++◌, refl}
use Rattle.std.proofs.Common.{sym, ◌∙◌, ap}
use Rattle.ur_lex.specs.declared.token.TokenKind.{TokenKind}
use Rattle.ur_lex.specs.declared.token.Lexeme.{Lexeme}
use Rattle.ur_lex.specs.Spelling.{Text}
use Rattle.ur_parse_rules.specs.Rules.{Stops}
use Rattle.ur_parse_rules.specs.Places.{starts}
use Rattle.ur_parse_rules.specs.Classes.{Classes, in_class, member}
use Rattle.ur_parse_rules.proofs.Tests.{false_true}

either : (a b c : Bool) → (a || (b || c)) ≡ ((a || b) || c)
either true b c = refl
either false b c = refl

member_both : (a b : Classes) (k : TokenKind) (w : Text) → member (a ++ b) k w ≡ (member a k w || member b k w)
member_both [] b k w = refl
member_both (c ∷ a) b k w = ap (λ z. in_class c k w || z) (member_both a b k w) ∙ either (in_class c k w) (member a k w) (member b k w)

none_of_two : (a b : Bool) → a ≡ false → b ≡ false → (a || b) ≡ false
none_of_two true b e f = false_true (sym e)
none_of_two false b e f = f

pub stops_both : (a b : Classes) (ts : List Lexeme) → Stops (member a) ts → Stops (member b) ts → Stops (member (a ++ b)) ts
stops_both a b [] s u = tt
stops_both a b (t ∷ ts) s u = member_both a b t.kind t.content ∙ none_of_two (member a t.kind t.content) (member b t.kind t.content) s u

second : (a b : Bool) → a ≡ false → b ≡ (a || b)
second true b e = false_true (sym e)
second false b e = refl

-- where none of the first stands
pub skips : (a b : Classes) (ts : List Lexeme) → Stops (member a) ts → starts (member b) ts ≡ starts (member (a ++ b)) ts
skips a b [] s = refl
skips a b (t ∷ ts) s = second (member a t.kind t.content) (member b t.kind t.content) s ∙ sym (member_both a b t.kind t.content)
