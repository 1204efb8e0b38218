use Rattle.std.proofs.Common.{◌≡◌, drop, map, bytes_eq}
use Rattle.std.specs.List.{list_any}
use Rattle.ur_sqltype_statements.proofs.items.has_alias.Given as goal

abbrev pub invariant-loop-source : goal.invariant-loop-source
invariant-loop-source l = list_any (bytes_eq l.alias) (map (λ s. s.alias) (drop l.source-index l.sources)) ≡ list_any (bytes_eq l.alias) (map (λ s. s.alias) l.sources)
