use Rattle.std.proofs.Common.{ℕ, ◌+◌, ◌-◌, ◌*◌, length}
use Rattle.ur_parse_embed.specs.declared.made.Level.{Level}
use Rattle.ur_parse_embed.specs.declared.made.Level.TheVariants as levels
use Rattle.ur_parse_embed.proofs.Steps.{StepsRead}
use Rattle.ur_parse_rules.specs.Places.{Moves}
use Rattle.ur_parse_embed.proofs.exps.+sexp.Given as goal

abbrev height : Level → ℕ
height levels.Disjunction = 11
height levels.Conjunction = 9
height levels.Sum = 5
height levels.Product = 3

abbrev pub decreases-sexp : goal.decreases-sexp
decreases-sexp l = 14 * (length l.tokens.now - l.at) + 13

abbrev pub decreases-left : goal.decreases-left
decreases-left l = 14 * (length l.tokens.now - l.at) + (height l.level + 1)

abbrev pub decreases-operand : goal.decreases-operand
decreases-operand l = 14 * (length l.tokens.now - l.at) + height l.level

abbrev pub decreases-negation : goal.decreases-negation
decreases-negation l = 14 * (length l.tokens.now - l.at) + 8

abbrev pub decreases-comparison : goal.decreases-comparison
decreases-comparison l = 14 * (length l.tokens.now - l.at) + 7

abbrev pub decreases-negative : goal.decreases-negative
decreases-negative l = 14 * (length l.tokens.now - l.at) + 2

abbrev pub decreases-atom : goal.decreases-atom
decreases-atom l = 14 * (length l.tokens.now - l.at) + 1

abbrev pub decreases-compound : goal.decreases-compound
decreases-compound l = 14 * (length l.tokens.now - l.at)

abbrev pub invariant-left-steps : goal.invariant-left-steps
invariant-left-steps l = record { moves : Moves l.tokens l.at l.tree.end; steps : StepsRead l.depth l.bare l.level l.tokens l.at l.tree.end l.fn.quotes l.quotes l.tree.tree }

abbrev pub decreases-left-steps : goal.decreases-left-steps
decreases-left-steps l = length l.tokens - l.tree.end
