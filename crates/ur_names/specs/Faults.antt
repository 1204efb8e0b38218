-- The first name that is not in scope, or stands twice where once is allowed.
use Rattle.std.specs.Prelude.{◌≡◌, ℕ, List, [], ◌∷◌, ◌++◌, length, take, drop, Bool, true, false, ◌&&◌, ◌||◌, if◌then◌else◌, Option, Some, None, codes, bytes_eq, Result, Ok, Err, ⊤}
use Rattle.std.specs.List.{list_any}
use Rattle.ur_base.specs.Stopping.{Says}
use Rattle.ur_base.specs.declared.refusal.Span.{Span}
use Rattle.ur_base.specs.declared.refusal.Refusal.{Refusal}
use Rattle.ur_base.specs.declared.refusal.Stop.{Stop}
use Rattle.ur_base.specs.declared.refusal.Stop.TheVariants as stop
use Rattle.ur_syntax.specs.declared.decl.Module.{Module}
use Rattle.ur_syntax.specs.declared.decl.Signature.{Signature}
use Rattle.ur_syntax.specs.Names.{same_module, name_text}
use Rattle.ur_names.specs.declared.event.Sort.{Sort}
use Rattle.ur_names.specs.declared.event.Sort.TheVariants as sort
use Rattle.ur_names.specs.declared.event.Event.{Event}
use Rattle.ur_names.specs.declared.event.Event.TheVariants as event
use Rattle.ur_names.specs.Sorts.{same_sort}
use Rattle.ur_names.specs.declared.keys.Key.{Key}
use Rattle.ur_names.specs.declared.scope.Frame.{Frame}
use Rattle.ur_names.specs.declared.scope.Scope.{Scope}
use Rattle.ur_names.specs.Decls.{in_project}

abbrev pub key : Sort → Option (List ℕ) → List ℕ → Key
key s m x = record { sort = s; home = m; name = x }

-- a local name, and one that a module declared
abbrev pub is_local : Sort → List ℕ → Key → Bool
is_local s x k = same_sort s k.sort && (same_module None k.home && bytes_eq x k.name)

abbrev pub is_member : Sort → List ℕ → List ℕ → Key → Bool
is_member s m x k = same_sort s k.sort && (same_module (Some m) k.home && bytes_eq x k.name)

-- the words that are types, and those that make types of types
abbrev pub is_type_word : List ℕ → Bool
is_type_word x =
    bytes_eq x (codes "int") || (bytes_eq x (codes "string") || (bytes_eq x (codes "bool") || (bytes_eq x (codes "unit") || (bytes_eq x (codes "page") ||
    (bytes_eq x (codes "xbody") || (bytes_eq x (codes "xtable") || (bytes_eq x (codes "xtr") || (bytes_eq x (codes "xform") || (bytes_eq x (codes "option") ||
    (bytes_eq x (codes "list") || bytes_eq x (codes "transaction")))))))))))

abbrev pub is_known_word : Sort → List ℕ → Bool
is_known_word sort.Con x = is_type_word x
is_known_word s x = false

-- a bare name: a local one, or else a declaration of the module's own, or else a word
abbrev pub has_own : Scope → Sort → List ℕ → Bool
has_own s t x = list_any (is_local t x) s.bound || list_any (is_member t s.home x) s.bound

abbrev pub knows_own : Scope → Sort → List ℕ → Bool
knows_own s t x = has_own s t x || is_known_word t x

-- `M.x` is a declaration of another module
abbrev pub knows_member : Scope → Sort → List ℕ → List ℕ → Bool
knows_member s t m x = if bytes_eq m s.home then false else list_any (is_member t m x) s.bound

-- the scope that is open, where one is
abbrev pub last_frame : List Frame → Option Frame
last_frame [] = None
last_frame (f ∷ []) = Some f
last_frame (f ∷ g ∷ fs) = last_frame (g ∷ fs)

abbrev pub outer : List Frame → List Frame
outer [] = []
outer (f ∷ []) = []
outer (f ∷ g ∷ fs) = f ∷ outer (g ∷ fs)

abbrev pub given_before : Option Frame → ℕ
given_before None = 0
given_before (Some f) = f.given

-- the name was given before in the scope that is open
abbrev pub is_given : Scope → Sort → List ℕ → Bool
is_given s t x = list_any (is_local t x) (drop (given_before (last_frame s.frames)) s.given)

abbrev pub closed_at : Option Frame → Scope → Scope
closed_at None s = s
closed_at (Some f) s = record { home = s.home; bound = take f.bound s.bound; given = take f.given s.given; frames = outer s.frames }

-- a name that is not in scope, or one that was given before
pub data Fault : Type 0 where
  unknown : Span → List ℕ → Fault
  repeated : Span → List ℕ → Fault

abbrev pub unless : Bool → Fault → Option Fault
unless true f = None
unless false f = Some f

-- of `xml form []`: either both words are names that hide them, or neither
abbrev pub form_fault : Span → Bool → Bool → Option Fault
form_fault p true false = Some (unknown p (codes "form"))
form_fault p false true = Some (unknown p (codes "xml"))
form_fault p _ _ = None

-- the fault that an event is, in a scope
abbrev pub fault_at : Scope → Event → Option Fault
fault_at s (event.Own t p x) = unless (knows_own s t x) (unknown p x)
fault_at s (event.Member t p m x) = unless (knows_member s t m x) (unknown p (name_text (Some m) x))
fault_at s (event.Form p) = form_fault p (has_own s sort.Con (codes "xml")) (has_own s sort.Con (codes "form"))
fault_at s (event.New t p x) = if is_given s t x then Some (repeated p x) else None
fault_at s _ = None

-- the scope behind an event
abbrev pub after : Scope → Event → Scope
after s (event.New t p x) = record { home = s.home; bound = s.bound; given = s.given ++ key t None x ∷ []; frames = s.frames }
after s (event.Bind t x) = record { home = s.home; bound = s.bound ++ key t None x ∷ []; given = s.given; frames = s.frames }
after s (event.Declare t x) = record { home = s.home; bound = s.bound ++ key t (Some s.home) x ∷ []; given = s.given; frames = s.frames }
after s event.Open = record { home = s.home; bound = s.bound; given = s.given; frames = s.frames ++ record { bound = length s.bound; given = length s.given } ∷ [] }
after s event.Close = closed_at (last_frame s.frames) s
after s (event.Enter m) = record { home = m; bound = s.bound; given = []; frames = [] }
after s _ = s

abbrev pub first : Option Fault → Option Fault → Option Fault
first (Some f) o = Some f
first None o = o

-- the first fault of events, in a scope
abbrev pub fault_in : Scope → List Event → Option Fault
fault_in s [] = None
fault_in s (e ∷ es) = first (fault_at s e) (fault_in (after s e) es)

abbrev pub start : Scope
start = record { home = []; bound = []; given = []; frames = [] }

-- the first fault of a project, in order of modules and place
abbrev pub fault_of : List (List ℕ) → List Module → Option Signature → Option Fault
fault_of names modules signature = fault_in start (in_project names modules signature)

-- how a fault is told, and where
abbrev pub TellsName : Refusal → Fault → Type 0
TellsName r (unknown p x) = Says r 7 x [] × (r.span ≡ p)
TellsName r (repeated p x) = Says r 8 x [] × (r.span ≡ p)

-- Ok says that there is no fault, and a refusal tells it
abbrev pub Told : Result (Unit {0}) Stop → Option Fault → Type 0
Told (Ok a) o = o ≡ None
Told (Err (stop.Refused r)) (Some f) = TellsName r f
Told (Err (stop.Refused r)) None = ⊥
Told (Err stop.Memory) o = ⊤
