use Rattle.std.proofs.Common.{refl}
use Rattle.ur_parse_rules.proofs.Steps.{passed}
use Rattle.ur_parse_embed.specs.Leaves.{is_number, is_text, is_true, is_false, is_null}
use Rattle.ur_parse_embed.proofs.Valued.{no_text}
use Rattle.ur_parse_embed.proofs.atoms.value_at.Goals as goal

pub returns-in-Some-clause-found : goal.returns-in-Some-clause-found
returns-in-Some-clause-found c = is_number _ c.in-Some.ensures refl

pub returns-in_err-text-clause-refused : goal.returns-in_err-text-clause-refused
returns-in_err-text-clause-refused c = passed _ _ c.from_residual.ensures.1 c.in_err-text.ensures.refused (λ r h. no_text (c.sees.ensures.yes c.if-sees.true) h)

pub returns-in_ok-text-clause-found : goal.returns-in_ok-text-clause-found
returns-in_ok-text-clause-found c = is_text _ c.in_ok-text.ensures.found refl

pub returns-then-sees_word-clause-found : goal.returns-then-sees_word-clause-found
returns-then-sees_word-clause-found c = is_true (c.sees_word.ensures.yes c.if-sees_word.true) refl

pub returns-then-sees_word-2-clause-found : goal.returns-then-sees_word-2-clause-found
returns-then-sees_word-2-clause-found c = is_false (c.sees_word-else-sees_word.ensures.yes c.if-sees_word-2.true) refl

pub returns-then-sees_word-3-clause-found : goal.returns-then-sees_word-3-clause-found
returns-then-sees_word-3-clause-found c = is_null (c.sees_word-else-sees_word-2.ensures.yes c.if-sees_word-3.true) refl
