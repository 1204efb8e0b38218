-- The signs that are left stand before what is read so far.
use Rattle.std.proofs.Common.{◌≡◌, ◌≤◌, ℕ, drop}
use Rattle.ur_parse_rules.specs.Rules.{Read}
use Rattle.ur_parse_rules.specs.ExpParts.{negative}
use Rattle.ur_parse_rules.specs.Parts.{of_exp}
use Rattle.ur_parse_rules.specs.Language.{language}
use Rattle.ur_parse_exp.specs.Signs.{SignsTo}
use Rattle.ur_parse_exp.proofs.signs.signed.Given as goal

abbrev pub invariant-signs : goal.invariant-signs
invariant-signs l = record {
  signs : SignsTo l.tokens l.at l.place;
  below : l.place ≤ l.first;
  end : l.whole.end ≡ l.initial.whole.end;
  found : (n : ℕ) → Read language n (of_exp negative) (drop l.first l.tokens) (drop l.initial.whole.end l.tokens) l.initial.whole.tree
      → Read language n (of_exp negative) (drop l.place l.tokens) (drop l.initial.whole.end l.tokens) l.whole.tree;
}

abbrev pub decreases-signs : goal.decreases-signs
decreases-signs l = l.place
