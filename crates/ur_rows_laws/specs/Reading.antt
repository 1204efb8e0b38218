-- The names of an environment, where its variables stand for constructors.
use Rattle.std.specs.Prelude.{◌≡◌, ℕ, Bool, true, false, if◌then◌else◌, List, [], ◌∷◌, Option, Some, None, bytes_eq, codes, slice_index_or}
use Rattle.ur_syntax.specs.declared.kind.Kind.{Kind}
use Rattle.ur_syntax.specs.declared.con.ConForm.{ConForm}
use Rattle.ur_syntax.specs.declared.con.ConMeaning.{ConMeaning}
use Rattle.ur_syntax.specs.declared.con.ConMeaning.TheVariants as meaning
use Rattle.ur_syntax.specs.declared.con.ConEntry.{ConEntry}
use Rattle.ur_syntax.specs.declared.con.ConEnv.{ConEnv}
use Rattle.ur_base.specs.declared.refusal.Span.{Span}
use Rattle.ur_syntax.specs.declared.kind.Kind.TheVariants as kind
use Rattle.ur_syntax.specs.declared.con.ConForm.TheVariants as con
use Rattle.ur_syntax.specs.Kinds.{arrow}
use Rattle.ur_syntax.specs.Forms.{fn_con, apply_con, map_con}
use Rattle.ur_syntax.specs.HasKind.{HasKind, IsWord, word_kind, scope_in}
use Rattle.ur_rows.specs.declared.normal.NormalType.TheVariants as ty
use Rattle.ur_rows.specs.declared.normal.Normal.{Normal}
use Rattle.ur_rows.specs.declared.normal.Normal.TheVariants as normal
use Rattle.ur_rows.specs.Made.{unit}
use Rattle.ur_rows.specs.Put.{put, argument, applied_once, instance}
use Rattle.ur_rows.specs.Normal.{Known, within, at_home, nf_with, variables_with, known_in, nf_form}
use Rattle.ur_rows.specs.Laws.{IsKindedEnv, HasMap}
use Rattle.ur_rows_laws.specs.Instances.{outside, are_of_kinds, EachNormal}

-- what an entry stands for, the variables before it being so many
abbrev pub form_at : List Normal → Known → ℕ → Option (List ℕ) → ConMeaning → Normal
form_at args known n home meaning.Variable = slice_index_or args n (normal.Type unit)
form_at args known n home (meaning.Defined c) = nf_with (at_home home known) c.form []
form_at args known n home (meaning.Datatype d) = normal.Type (ty.Datatype d)

abbrev pub known_with : List Normal → Known → ℕ → List ConEntry → Known
known_with args known n [] = known
known_with args known n (e ∷ rest) =
    known_with args (record known { names = (e.name, (0, form_at args known n e.name.home e.meaning)) ∷ known.names }) (variables_with e.meaning n) rest

-- The normal form of a constructor in an environment, where these constructors stand in place of the variables, in order of
-- binding.
abbrev pub nf_at : List Normal → ConEnv → ConForm → Normal
nf_at args env c = nf_with (known_with args (record { home = env.home; depth = 0; names = [] }) 0 env.entries) c []

abbrev pub kinds_with : ConMeaning → Kind → List Kind → List Kind
kinds_with meaning.Variable k ks = k ∷ ks
kinds_with _ k ks = ks

-- the kinds of the variables, in order of binding
abbrev pub variable_kinds : List ConEntry → List Kind
variable_kinds [] = []
variable_kinds (e ∷ rest) = kinds_with e.meaning e.kind (variable_kinds rest)

-- the form at closed constructors in place of the variables is the instance of the form
abbrev pub FormOfInstance : ConEnv → Type 0
FormOfInstance env = (free : List Kind) (args : List Normal) (c : ConForm) (k : Kind) → IsKindedEnv env → HasKind (scope_in env) c k → EachNormal args →
    are_of_kinds (outside free) args (variable_kinds env.entries) ≡ true → nf_at args env c ≡ instance args (nf_form env c)

-- An applied function has the form of the application: of the function's form at the argument's. Of `fn x :: k => c` that is the
-- form of c with the argument's form in place of x.
pub record FormOfApplied (env : ConEnv) : Type 0 where
  pub applied : (p q : Span) (f a : ConForm) (k j : Kind) → IsKindedEnv env → HasKind (scope_in env) f (arrow k j) → HasKind (scope_in env) a k
      → nf_form env (apply_con p f q a) ≡ applied_once (nf_form env f) (nf_form env a)
  pub written : (p q s : Span) (x : List ℕ) (k j : Kind) (c a : ConForm) → IsKindedEnv env → HasKind (scope_in env) (fn_con x k s c) (arrow k j)
      → HasKind (scope_in env) a k
      → nf_form env (apply_con p (fn_con x k s c) q a) ≡ put (argument (nf_form env a)) 0 (nf_with (within x k (known_in env)) c [])

abbrev pub is_some : Option Kind → Bool
is_some None = false
is_some (Some k) = true

-- the words of types, and those that are words before an argument
abbrev pub is_built : List ℕ → Bool
is_built x = if bytes_eq x (codes "map") then true else if bytes_eq x (codes "xml") then true else is_some (word_kind x)

-- a name that is neither in scope nor a word
abbrev pub IsFresh : List ℕ → ConEnv → Type 0
IsFresh x env = IsWord (scope_in env) x × (is_built x ≡ false)

-- A map of a map has the form of the map of the function that does one after the other, written with a name of its own.
abbrev pub MapOfWritten : ConEnv → Type 0
MapOfWritten env = (at : ℕ → Span) (x : List ℕ) (f g r : ConForm) → IsKindedEnv env → HasMap env → HasKind (scope_in env) f (arrow kind.Star kind.Star) → HasKind (scope_in env) g (arrow kind.Star kind.Star) → IsFresh x env →
    nf_form env (map_con (at 0) (at 1) (at 2) f (at 3) (map_con (at 4) (at 5) (at 6) g (at 7) r)) ≡
    nf_form env (map_con (at 8) (at 9) (at 10) (fn_con x kind.Star (at 11) (apply_con (at 12) f (at 13) (apply_con (at 14) g (at 15) (con.Var x)))) (at 16) r)
