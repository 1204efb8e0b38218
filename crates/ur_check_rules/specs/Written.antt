-- Lists of written fields and branches.
use Rattle.std.specs.Prelude.{◌||◌, ℕ, Bool, true, false, List, [], ◌∷◌, map, Option}
use Rattle.ur_syntax.specs.declared.exp.Field.{Field}
use Rattle.ur_syntax.specs.declared.exp.Branch.{Branch}
use Rattle.ur_typed_rules.specs.Lacking.{lacks_type}
use Rattle.ur_typed_rules.specs.Repeats.{literal_name}

-- no type is found of one of the fields' values
abbrev pub some_of_fields : List Field → Bool
some_of_fields [] = false
some_of_fields (f ∷ fs) = lacks_type f.value.form || some_of_fields fs

-- no type is found of the first branch, or there is none
abbrev pub first_of_branches : List Branch → Bool
first_of_branches [] = true
first_of_branches (b ∷ bs) = lacks_type b.body.form

-- the names of fields that are literals
abbrev pub written_names : List Field → List (Option (List ℕ))
written_names fs = map (λ f. literal_name f.name) fs
