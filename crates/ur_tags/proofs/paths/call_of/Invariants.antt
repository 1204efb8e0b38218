use Rattle.std.proofs.Common.{◌≡◌, drop}
use Rattle.ur_tags.specs.Paths.{call_from}
use Rattle.ur_tags.proofs.paths.call_of.Given as goal

abbrev pub invariant-loop-number : goal.invariant-loop-number
invariant-loop-number l =
    call_from l.number (drop l.number l.routes) l.module_name l.function_name l.texts ≡ call_from 0 l.routes l.module_name l.function_name l.texts
