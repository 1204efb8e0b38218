-- Records whose fields are numbers, as records of static expressions are.
use Rattle.std.specs.Prelude.{ℕ, not, ◌==◌, if◌then◌else◌, nat_lt, List, [], ◌∷◌, filter, find, Option, option_map}
use Rattle.ur_base.specs.declared.names.Name.{Name}
use Rattle.ur_unfold_static.specs.declared.node.Field.{Field}

abbrev pub with_number : Field → List Field → List Field
with_number f [] = f ∷ []
with_number f (g ∷ gs) = if nat_lt f.name.0 g.name.0 then f ∷ g ∷ gs else g ∷ with_number f gs

abbrev pub numbers_together : List Field → List Field → List Field
numbers_together [] gs = gs
numbers_together (f ∷ fs) gs = with_number f (numbers_together fs gs)

abbrev pub number_of_field : Name → List Field → Option ℕ
number_of_field name fs = option_map (λ f. f.of) (find (λ f. f.name.0 == name.0) fs)

abbrev pub without_number : Name → List Field → List Field
without_number name = filter (λ f. not (f.name.0 == name.0))
