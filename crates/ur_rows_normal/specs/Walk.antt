-- What the walk over constructors reads, and what it answers.
use Rattle.std.specs.Prelude.{◌≡◌, ℕ, if◌then◌else◌, bytes_eq, codes, true, List, [], ◌∷◌, Option, Some, None}
use Rattle.ur_syntax.specs.declared.con.CField.{CField}
use Rattle.ur_syntax.specs.declared.con.ConForm.{ConForm}
use Rattle.ur_syntax.specs.declared.con.ConName.{ConName}
use Rattle.ur_syntax.specs.declared.con.ConEnv.{ConEnv}
use Rattle.ur_syntax.specs.declared.con.RecordField.{RecordField}
use Rattle.ur_syntax.specs.Names.{own, member}
use Rattle.ur_rows.specs.declared.normal.NormalType.TheVariants as ty
use Rattle.ur_rows.specs.declared.normal.Part.{Part}
use Rattle.ur_rows.specs.declared.normal.Normal.{Normal}
use Rattle.ur_rows.specs.declared.normal.Normal.TheVariants as normal
use Rattle.ur_rows.specs.IsNormal.{is_normal}
use Rattle.ur_rows.specs.Made.{option_of, list_of, transaction_of, form_of, field, unit}
use Rattle.ur_rows.specs.Order.{with_part}
use Rattle.ur_rows.specs.Put.{as_type}
use Rattle.ur_rows.specs.Normal.{Known, known_in, label_of, nf_with, nf_field, type_function}
use Rattle.ur_rows_reduce.specs.declared.held.Held.{Held}
use Rattle.ur_rows_normal.specs.declared.names.Entry.{Entry}
use Rattle.ur_rows_normal.specs.declared.names.Names.{Names}
use Rattle.ur_rows_normal.specs.declared.names.Names.TheVariants as names
use Rattle.ur_rows_normal.specs.declared.names.Key.{Key}
use Rattle.ur_rows_normal.specs.declared.names.Key.TheVariants as key
use Rattle.ur_rows_normal.specs.declared.names.Found.{Found}
use Rattle.ur_rows_normal.specs.declared.names.Scope.{Scope}
use Rattle.ur_rows_reduce.specs.Held.{Holds}
use Rattle.ur_rows_reduce.specs.Arguments.{Given}

-- names of the environment in order of binding, over those before them
abbrev pub declared : List Entry → List (ConName × (ℕ × Held)) → List (ConName × (ℕ × Held))
declared [] known = known
declared (e ∷ entries) known = declared entries ((e.name, (0, e.held)) ∷ known)

abbrev pub names_of : Names → List (ConName × (ℕ × Held))
names_of (names.Declared entries) = declared entries.now []
names_of (names.Over' entries _ rest) = declared entries.now (names_of rest)
names_of (names.Bound' x d h _ rest) = (own x.now, (d, h.now)) ∷ names_of rest

abbrev pub key_of : Key → ConName
key_of (key.Own x) = own x.now
key_of (key.Member m x) = member m.now x.now

abbrev pub found_as : Option Found → Option (ℕ × Held)
found_as None = None
found_as (Some f) = Some (f.depth, f.held.now)

-- what is held is told of the form that a name stands for
abbrev pub AgreesOn : Option (ℕ × Held) → Option (ℕ × Normal) → Type 0
AgreesOn None None = Unit {0}
AgreesOn (Some h) (Some n) = (h.0 ≡ n.0) × Holds h.1 n.1 × (is_normal n.1 ≡ true)
AgreesOn _ _ = ⊥

-- the same for all names in turn
abbrev pub Agrees : List (ConName × (ℕ × Held)) → List (ConName × (ℕ × Normal)) → Type 0
Agrees [] [] = Unit {0}
Agrees (h ∷ hs) (n ∷ ns) = (h.0 ≡ n.0) × AgreesOn (Some h.1) (Some n.1) × Agrees hs ns
Agrees _ _ = ⊥

-- a scope tells of what is known
pub record Tells (s : Scope) (known : Known) : Type 0 where
  pub home : s.home.now ≡ known.home
  pub depth : s.depth ≡ known.depth
  pub names : Agrees (names_of s.names.now) known.names

-- what a constructor stands for, applied to arguments
abbrev pub IsForm : Held → Scope → ConForm → List Held → Type 0
IsForm h s c hs = (known : Known) (ns : List Normal) → Tells s known → Given hs ns → Holds h (nf_with known c ns)

-- the parts that fields give, each at its place
abbrev pub placed : {F : Type 0} → (F → Part) → List F → List Part
placed part [] = []
placed part (f ∷ fields) = with_part (part f) (placed part fields)

abbrev pub parts_of : Known → List CField → List Part
parts_of known = placed (nf_field known)

abbrev pub record_part : Known → RecordField → Part
record_part known f = field (label_of known f.name) (as_type (nf_with known f.con.form []))

abbrev pub record_parts_of : Known → List RecordField → List Part
record_parts_of known = placed (record_part known)

-- the later half of the words of types
abbrev pub later_word : List ℕ → Normal
later_word x =
    if bytes_eq x (codes "xtable") then normal.Type ty.Xtable else
    if bytes_eq x (codes "xtr") then normal.Type ty.Xtr else
    if bytes_eq x (codes "xform") then normal.Type (form_of []) else
    if bytes_eq x (codes "option") then type_function option_of else
    if bytes_eq x (codes "list") then type_function list_of else
    if bytes_eq x (codes "transaction") then type_function transaction_of else
    normal.Type unit

-- the module in which a definition is read
abbrev pub home_in : Option (List ℕ) → List ℕ → List ℕ
home_in None h = h
home_in (Some m) h = m

-- what is known in a module outside all functions
abbrev pub known_so : List ℕ → List (ConName × (ℕ × Normal)) → Known
known_so home names = record { home = home; depth = 0; names = names }

-- what is kept of the names of an environment tells of what these stand for
abbrev pub IsKnown : List (ConName × (ℕ × Held)) → ConEnv → Type 0
IsKnown known env = (names : List (ConName × (ℕ × Normal))) × Agrees known names × (known_in env ≡ known_so env.home names)
