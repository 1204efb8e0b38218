-- A nonterminal is missing where no token stands that it begins with.
use Rattle.std.specs.Prelude.{◌≡◌, ℕ, false, List, []}
use Rattle.std.proofs.Common.{sym, ◌∙◌, inl, inr}
use Rattle.ur_base.specs.declared.refusal.Refusal.{Refusal}
use Rattle.ur_base.specs.Stopping.{Says}
use Rattle.ur_lex.specs.declared.token.Lexeme.{Lexeme}
use Rattle.ur_parse_rules.specs.Rules.{Refused, syntax}
use Rattle.ur_parse_rules.specs.Places.{starts}
use Rattle.ur_parse_rules.proofs.Choices.{Begins, not_one}
use Rattle.ur_parse_rules.proofs.Steps.{nothing, an_one}
use Rattle.ur_parse_rules.specs.Classes.{member}
use Rattle.ur_parse_rules.specs.Parts.{Part}
use Rattle.ur_parse_rules.specs.Language.{language}
use Rattle.ur_parse_rules.proofs.Tests.{false_true}
use Rattle.ur_parse_rules.proofs.Checks.{part_begun}
use Rattle.ur_parse_rules.proofs.Starts.{first, empty}
use Rattle.ur_parse_rules.proofs.Firsts.{fit}

pub begins_part : (p : Part) → empty p ≡ false → Begins language (member (first p)) p
begins_part p e = record {
  begin = λ n x taken d. elim (part_begun language first empty fit p n x taken d) [
    | inl y ↦ false_true (sym e ∙ y.1)
    | inr y ↦ (y.0, y.1, y.2, y.3)
  ];
}

pub not_begun : (p : Part) (tokens : List Lexeme) {r : Refusal} → empty p ≡ false → Says r 5 [] [] → starts (member (first p)) tokens ≡ false → (n : ℕ) → Refused language n p tokens r
not_begun p tokens e says s n = syntax says (record { none = λ m x rest f. let l = not_one {slots = []} {tokens = tokens} (begins_part p e) s in l.none m (x, tt) rest (an_one f nothing) })
