-- The types so far, with those of the parameters that are left, are all.
use Rattle.std.proofs.Common.{◌≡◌, ◌++◌, map, drop}
use Rattle.ur_source.specs.Reading.{closed_type}
use Rattle.ur_source.specs.Instances.{value_params}
use Rattle.ur_unfold_static.specs.Scopes.{cons_of}
use Rattle.ur_unfold.proofs.params.params_of.Given as goal

abbrev pub invariant-loop-i : goal.invariant-loop-i
invariant-loop-i l =
    l.types ++ map (closed_type l.names (cons_of l.closing l.scope)) (value_params (drop l.i l.all)) ≡ map (closed_type l.names (cons_of l.closing l.scope)) (value_params l.all)
