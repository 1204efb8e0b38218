-- Chains that group to the right.
use Rattle.std.specs.Prelude.{List, [], ◌∷◌}
use Rattle.ur_syntax.specs.declared.kind.Kind.{Kind}
use Rattle.ur_syntax.specs.declared.kind.Kind.TheVariants as kinds

-- arrows from each of the kinds on
abbrev pub arrows : List Kind → Kind → Kind
arrows [] k = k
arrows (j ∷ js) k = kinds.Arrow j (arrows js k)
