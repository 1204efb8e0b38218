use Rattle.std.proofs.Common.{◌≡◌, ◌-◌, List, length}
use Rattle.ur_values.specs.declared.schema.Numbered.{Numbered}
use Rattle.ur_keeper.specs.Drafts.{left}
use Rattle.ur_keeper.proofs.draft.mark_up_to.Given as goal

abbrev pub invariant-loop-gone : goal.invariant-loop-gone
invariant-loop-gone l = (rows : List Numbered) → left rows l.gone.items ≡ left rows l.fn.gone.items

abbrev pub decreases-loop-gone : goal.decreases-loop-gone
decreases-loop-gone l = l.count - length l.gone.items
