-- What is found and what is wanted, and how a refusal tells it.
use Rattle.ur_tree.specs.Text.{apart_from, type_text, row_text}
use Rattle.std.specs.Prelude.{ℕ, List, [], codes}
use Rattle.ur_base.specs.Stopping.{Says}
use Rattle.ur_base.specs.declared.refusal.Refusal.{Refusal}
use Rattle.ur_rows.specs.declared.normal.NormalType.{NormalType}
use Rattle.ur_rows.specs.declared.normal.Part.{Part as RowPart}

-- what was found and what is wanted, under the number of its cause
pub data Fault : Type 0 where
  unknown : List ℕ → Fault
  twice : List ℕ → Fault
  mismatch : List ℕ → List ℕ → Fault
  not_apart : List RowPart → List RowPart → Fault
  misfit : List ℕ → List ℕ → Fault
  misplaced : List ℕ → List ℕ → Fault
  not_so : List ℕ → List ℕ → Fault
  too_large : Fault
  -- a kind that is found and the one that is wanted
  unkinded : List ℕ → List ℕ → Fault
  -- a fault within SQL or of a tag, as a refusal has it
  told_there : Refusal → Fault

abbrev pub TellsType : List (List ℕ) → Refusal → Fault → Type 0
TellsType names r (unknown x) = Says r 7 x []
TellsType names r (twice x) = Says r 8 x []
TellsType names r (mismatch x y) = Says r 10 x (apart_from x y)
TellsType names r (not_apart a b) = Says r 11 (row_text names a) (row_text names b)
TellsType names r (misfit x y) = Says r 12 x (apart_from x y)
TellsType names r (misplaced x y) = Says r 13 x (apart_from x y)
TellsType names r (not_so x y) = Says r 15 x (apart_from x y)
TellsType names r too_large = Says r 16 (codes "65537") (codes "65536")
TellsType names r (unkinded x y) = Says r 9 x (apart_from x y)
TellsType names r (told_there q) = Says r q.code q.left q.right

-- a fault as a refusal has it
abbrev pub as_refused : Refusal → Fault
as_refused r = told_there r

abbrev pub of_no_type : Fault
of_no_type = unkinded (codes "another kind") (codes "Type")

abbrev pub types_differ : List (List ℕ) → NormalType → NormalType → Fault
types_differ names t u = mismatch (type_text names t) (type_text names u)

abbrev pub not_of_type : List (List ℕ) → NormalType → List ℕ → Fault
not_of_type names t wanted = mismatch (type_text names t) wanted
