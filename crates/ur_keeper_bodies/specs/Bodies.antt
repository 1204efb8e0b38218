-- A map from two numbers to bodies, and its changes.
use Rattle.std.specs.Prelude.{◌≡◌, ℕ, ℤ, Bool, true, not, IsTrue, List, [], ◌∷◌, Option, is_some, if◌then◌else◌}
use Rattle.std.specs.declared.cmp.Ordering.{Ordering}
use Rattle.std.specs.Ordering.{int_cmp, int_eq, ordering_then}
use Rattle.std.specs.FinMap.{FinMap, entries, get, insert, remove}
use Rattle.ur_keeper_bodies.specs.declared.bodies.BodyChange.{BodyChange}
use Rattle.ur_keeper_bodies.specs.declared.bodies.BodyChange.TheVariants as change

abbrev pub Place : Type 0
Place = ℤ × ℤ

-- by the table's number, and then by the row's
abbrev pub place_cmp : Place → Place → Ordering
place_cmp a b = ordering_then (int_cmp a.0 b.0) (int_cmp a.1 b.1)

abbrev pub BodyMap : Type 0
BodyMap = FinMap place_cmp (List ℕ)

abbrev pub body_at : BodyMap → ℤ → ℤ → Option (List ℕ)
body_at m tab num = get m (tab, num)

-- the numbers and bodies of one table
abbrev pub of_table : ℤ → List (Place × List ℕ) → List (ℤ × List ℕ)
of_table tab [] = []
of_table tab (e ∷ es) = if int_eq e.0.0 tab then (e.0.1, e.1) ∷ of_table tab es else of_table tab es

-- the same of a map, by rising number
abbrev pub bodies_of : BodyMap → ℤ → List (ℤ × List ℕ)
bodies_of m tab = of_table tab (entries m)

abbrev pub written_one : BodyMap → BodyChange → BodyMap
written_one m (change.Add tab num body) = insert m (tab, num) body
written_one m (change.Put tab num body) = insert m (tab, num) body
written_one m (change.Drop tab num) = remove m (tab, num)

-- the map after these changes, in order
abbrev pub written : BodyMap → List BodyChange → BodyMap
written m [] = m
written m (c ∷ cs) = written (written_one m c) cs

-- what is added is not there, and what is put or dropped is
abbrev pub CanWriteOne : BodyMap → BodyChange → Type 0
CanWriteOne m (change.Add tab num body) = IsTrue (not (is_some (body_at m tab num)))
CanWriteOne m (change.Put tab num body) = IsTrue (is_some (body_at m tab num))
CanWriteOne m (change.Drop tab num) = IsTrue (is_some (body_at m tab num))

-- so it is at each change, after those before it
abbrev pub CanWrite : BodyMap → List BodyChange → Type 0
CanWrite m [] = Unit {0}
CanWrite m (c ∷ cs) = CanWriteOne m c × CanWrite (written_one m c) cs

-- the same map, still open
pub record IsOpened (old new : Option BodyMap) (opened : Bool) : Type 0 where
  pub same : new ≡ old
  pub stays_open : opened ≡ true
