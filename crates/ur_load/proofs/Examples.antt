-- Lines of worked files.
use Rattle.std.specs.Prelude.{◌≡◌, true, false, [], ◌∷◌, ◌++◌, codes, refl}
use Rattle.ur_load.specs.Lines.{project_lines}
use Rattle.ur_load.specs.Project.{is_directive}

directives_and_a_module : project_lines (codes "database dbname=notes" ++ 10 ∷ 10 ∷ codes "main" ++ 10 ∷ []) ≡ codes "database dbname=notes" ∷ [] ∷ codes "main" ∷ []
directives_and_a_module = refl

ends_of_lines : project_lines (9 ∷ codes "a_1 " ++ 13 ∷ 10 ∷ codes " b" ++ 13 ∷ 10 ∷ 13 ∷ 10 ∷ 32 ∷ 9 ∷ 10 ∷ 10 ∷ []) ≡ codes "a_1" ∷ codes "b" ∷ []
ends_of_lines = refl

a_return_at_the_end_of_the_file : project_lines (codes "a" ++ 13 ∷ []) ≡ (codes "a" ++ 13 ∷ []) ∷ []
a_return_at_the_end_of_the_file = refl

a_database : is_directive (codes "database x") ≡ true
a_database = refl

no_database : is_directive (codes "database") ≡ false
no_database = refl
