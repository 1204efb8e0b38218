-- The words in place of two texts that are the same.
use Rattle.std.proofs.Common.{sym, subst}
use Rattle.ur_verify_operations.specs.Saying.{IsFound, same_text}
use Rattle.ur_verify_operations.proofs.misfit.two_words.Goals as goal

pub invariant_of-result-clause-found : goal.invariant_of-result-clause-found
invariant_of-result-clause-found c = ∣ subst IsFound (sym c.in_ok-left.ensures) same_text ∣₁
