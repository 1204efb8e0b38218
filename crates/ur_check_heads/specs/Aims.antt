-- Which functions have a method, by number.
use Rattle.std.specs.Prelude.{◌≡◌, ◌↔◌, ◌+◌, ◌||◌, ℕ, true, false, if◌then◌else◌, IsTrue, List, [], ◌∷◌, Option, Some, None, slice_get, slice_set, Contains}
use Rattle.ur_tags.specs.declared.routes.Route.{Route}
use Rattle.ur_tree.specs.Occurrences.{Occurrence, link, action}
use Rattle.ur_typed.specs.Routing.{IsLinked}
use Rattle.ur_check_heads.specs.declared.aims.Aim.{Aim}
use Rattle.ur_check_heads.specs.declared.aims.Aims.{Aims}

abbrev pub no_method : Aim
no_method = record { get = false; post = false }

abbrev pub with_get : Aim → Aim
with_get a = record { get = true; post = a.post }

abbrev pub with_post : Aim → Aim
with_post a = record { get = a.get; post = true }

-- a function has one method more, or there is none with that number
abbrev pub changed : (Aim → Aim) → ℕ → Option Aim → Aims → Aims
changed f n None a = record { of = a.of; lost = true }
changed f n (Some x) a = record { of = slice_set a.of n (f x); lost = a.lost }

abbrev pub marked : (Aim → Aim) → ℕ → Aims → Aims
marked f n a = changed f n (slice_get a.of n) a

-- behind entries
abbrev pub linked_by : List ℕ → Aims → Aims
linked_by [] a = a
linked_by (n ∷ ns) a = linked_by ns (marked with_get n a)

-- behind links and actions
abbrev pub aimed_at : Occurrence → Aims → Aims
aimed_at (link n) a = marked with_get n a
aimed_at (action n) a = marked with_post n a
aimed_at _ a = a

abbrev pub aimed_by : List Occurrence → Aims → Aims
aimed_by [] a = a
aimed_by (o ∷ os) a = aimed_by os (aimed_at o a)

-- each function has the methods that entries, links and actions ask of it, and each that they name is there
pub record AreAims (entries : List ℕ) (all : List Occurrence) (aims : List Aim) : Type 0 where
  pub get : (f : ℕ) (x : Aim) → slice_get aims f ≡ Some x → IsTrue x.get ↔ IsLinked entries all f
  pub post : (f : ℕ) (x : Aim) → slice_get aims f ≡ Some x → IsTrue x.post ↔ Contains all (action f)
  pub linked : (f : ℕ) → IsLinked entries all f → (x : Aim) × (slice_get aims f ≡ Some x)
  pub acted : (f : ℕ) → Contains all (action f) → (x : Aim) × (slice_get aims f ≡ Some x)

-- ---- functions with a method

abbrev pub if_routed : {A : Type 0} → Aim → A → List A → List A
if_routed a x rest = if a.get || a.post then x ∷ rest else rest

abbrev pub targets_of : ℕ → List Aim → List ℕ
targets_of n [] = []
targets_of n (a ∷ aims) = if_routed a n (targets_of (n + 1) aims)

abbrev pub routed_of : List Aim → List Aim
routed_of [] = []
routed_of (a ∷ aims) = if_routed a a (routed_of aims)

abbrev pub methods_of : Route → Aim
methods_of r = record { get = r.get; post = r.post }
