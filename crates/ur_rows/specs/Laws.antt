-- The four laws on rows.
use Rattle.std.specs.Prelude.{◌≡◌, ℕ, [], ◌∷◌, List, Option, Some, None, IsTrue, codes}
use Rattle.ur_syntax.specs.declared.kind.Kind.{Kind}
use Rattle.ur_syntax.specs.declared.kind.Kind.TheVariants as kind
use Rattle.ur_syntax.specs.declared.con.ConForm.{ConForm, end_of-CField as end}
use Rattle.ur_syntax.specs.declared.con.ConForm.TheVariants as con
use Rattle.ur_base.specs.declared.refusal.Span.{Span}
use Rattle.ur_syntax.specs.declared.con.ConMeaning.{ConMeaning}
use Rattle.ur_syntax.specs.declared.con.ConMeaning.TheVariants as meaning
use Rattle.ur_syntax.specs.declared.con.ConEntry.{ConEntry}
use Rattle.ur_syntax.specs.declared.con.ConEnv.{ConEnv}
use Rattle.ur_syntax.specs.Kinds.{arrow, is_plain}
use Rattle.ur_syntax.specs.Forms.{fn_con, concat_con, map_con}
use Rattle.ur_syntax.specs.HasKind.{HasKind, IsWord, Scope, scope_in}
use Rattle.ur_rows.specs.declared.normal.NormalType.{NormalType}
use Rattle.ur_rows.specs.declared.normal.Normal.TheVariants as normal
use Rattle.ur_rows.specs.Put.{applied_type, composed, mapped_row, as_row}
use Rattle.ur_rows.specs.Normal.{nf_form, as_function}

abbrev pub home_of : Option (List ℕ) → Scope → Scope
home_of None scope = scope
home_of (Some m) scope = record scope { home = m }

-- what a name stands for has its kind
abbrev pub MeaningHas : Scope → ConMeaning → Kind → Type 0
MeaningHas scope meaning.Variable k = IsTrue (is_plain k)
MeaningHas scope (meaning.Defined c) k = HasKind scope c.form k
MeaningHas scope (meaning.Datatype d) k = k ≡ kind.Star

abbrev pub EntriesHave : Scope → List ConEntry → Type 0
EntriesHave scope [] = Unit {0}
EntriesHave scope (e ∷ rest) = MeaningHas (home_of e.name.home scope) e.meaning e.kind × EntriesHave (record scope { names = (e.name, e.kind) ∷ scope.names }) rest

-- each name in scope stands for something of its kind
abbrev pub IsKindedEnv : ConEnv → Type 0
IsKindedEnv env = EntriesHave (record { home = env.home; names = [] }) env.entries

abbrev pub IsRow : ConEnv → ConForm → Type 0
IsRow env c = HasKind (scope_in env) c kind.Row

-- no name in scope hides the word `map`
abbrev pub HasMap : ConEnv → Type 0
HasMap env = IsWord (scope_in env) (codes "map")

abbrev pub no_fields : ConForm
no_fields = con.Row' [] end

-- `++` is associative and commutative with unit `[]`
pub record ConcatIsUnion (env : ConEnv) : Type 0 where
  pub associative : (p q r s t u v w : Span) (a b c : ConForm) →
      nf_form env (concat_con p a q (concat_con r b s c)) ≡ nf_form env (concat_con t (concat_con u a v b) w c)
  pub commutative : (p q r s : Span) (a b : ConForm) → nf_form env (concat_con p a q b) ≡ nf_form env (concat_con r b s a)
  pub unit : (p q : Span) (a : ConForm) → IsKindedEnv env → IsRow env a → nf_form env (concat_con p no_fields q a) ≡ nf_form env a

-- a map of a union is the union of the maps
abbrev pub MapOfConcat : ConEnv → Type 0
MapOfConcat env = (at : ℕ → Span) (f a b : ConForm) → HasMap env →
    nf_form env (map_con (at 0) (at 1) (at 2) f (at 3) (concat_con (at 4) a (at 5) b)) ≡
    nf_form env (concat_con (at 6) (map_con (at 7) (at 8) (at 9) f (at 10) a) (at 11) (map_con (at 12) (at 13) (at 14) f (at 15) b))

-- a map of a map is the map of the composition, which does one function after the other
pub record MapOfMap (env : ConEnv) : Type 0 where
  pub maps : (at : ℕ → Span) (f g r : ConForm) → HasMap env →
      nf_form env (map_con (at 0) (at 1) (at 2) f (at 3) (map_con (at 4) (at 5) (at 6) g (at 7) r)) ≡
      normal.Row (mapped_row (composed (as_function (nf_form env f)) (as_function (nf_form env g))) (as_row (nf_form env r)))
  pub composition : (f g : NormalType) (t : NormalType) → applied_type (composed f g) t ≡ applied_type f (applied_type g t)

-- the map of the identity changes nothing
abbrev pub MapOfIdentity : ConEnv → Type 0
MapOfIdentity env = (at : ℕ → Span) (x : List ℕ) (r : ConForm) → HasMap env → IsKindedEnv env → IsRow env r →
    nf_form env (map_con (at 0) (at 1) (at 2) (fn_con x kind.Star (at 3) (con.Var x)) (at 4) r) ≡ nf_form env r
