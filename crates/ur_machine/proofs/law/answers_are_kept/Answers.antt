use Rattle.ur_machine.proofs.Kept.{kept_at_begin, kept_at_hit, kept_at_read, kept_at_change, kept_at_masks, kept_at_draw, kept_at_commit, kept_at_rollback}
use Rattle.ur_machine.proofs.Steps.{steps_join}
use Rattle.ur_machine.proofs.law.answers_are_kept.Goals as goal

pub returns-clause-begin : goal.returns-clause-begin
returns-clause-begin c = kept_at_begin

pub returns-clause-hit : goal.returns-clause-hit
returns-clause-hit c = kept_at_hit

pub returns-clause-read : goal.returns-clause-read
returns-clause-read c = kept_at_read

pub returns-clause-change : goal.returns-clause-change
returns-clause-change c = kept_at_change

pub returns-clause-masks : goal.returns-clause-masks
returns-clause-masks c = kept_at_masks

pub returns-clause-draw : goal.returns-clause-draw
returns-clause-draw c = kept_at_draw

pub returns-clause-commit : goal.returns-clause-commit
returns-clause-commit c = kept_at_commit

pub returns-clause-rollback : goal.returns-clause-rollback
returns-clause-rollback c = kept_at_rollback

pub returns-clause-steps : goal.returns-clause-steps
returns-clause-steps c = steps_join
