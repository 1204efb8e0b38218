use Rattle.std.proofs.Common.{◌-◌, ◌≤◌, length}
use Rattle.ur_parse.proofs.Modules.{DeclsRead}
use Rattle.ur_parse.proofs.module.parse.Given as goal

abbrev pub invariant-decls : goal.invariant-decls
invariant-decls l = record { within : l.at ≤ length l.tokens; read : DeclsRead 256 l.tokens l.at l.decls }

abbrev pub decreases-decls : goal.decreases-decls
decreases-decls l = length l.tokens - l.at
