use Rattle.std.proofs.Common.{◌≡◌, ◌-◌, length, take, []}
use Rattle.ur_kinds.specs.Walk.{key_of}
use Rattle.ur_kinds.proofs.Lookups.{within_last}
use Rattle.ur_kinds.proofs.names.declared.Given as goal

-- the entries from the end so far have another name
abbrev pub invariant-loop-i : goal.invariant-loop-i
invariant-loop-i l = within_last (key_of l.key) (record { home = l.env.home; names = [] }) l.entries ≡
    within_last (key_of l.key) (record { home = l.env.home; names = [] }) (take (length l.entries - l.i) l.entries)
