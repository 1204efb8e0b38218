-- Scopes in which each name stands with its form.
use Rattle.std.specs.Prelude.{◌≡◌, ℕ, List, [], ◌∷◌, ◌++◌}
use Rattle.ur_syntax.specs.declared.kind.Kind.{Kind}
use Rattle.ur_syntax.specs.declared.con.Con.{Con}
use Rattle.ur_syntax.specs.declared.con.ConEntry.{ConEntry}
use Rattle.ur_syntax.specs.declared.con.ConEnv.{ConEnv}
use Rattle.ur_syntax.specs.declared.con.ConMeaning.TheVariants as meaning
use Rattle.ur_syntax.specs.Names.{own, member}
use Rattle.ur_rows.specs.Normal.{variables_with}
use Rattle.ur_rows_normal.specs.declared.environment.Prepared.{Prepared}
use Rattle.ur_rows_normal.specs.declared.environment.Layer.{Layer}
use Rattle.ur_rows_normal.specs.declared.environment.Place.{Place}
use Rattle.ur_rows_normal.specs.Walk.{IsKnown, declared, names_of}

-- the number of variables after entries
abbrev pub variables_after : ℕ → List ConEntry → ℕ
variables_after n [] = n
variables_after n (e ∷ es) = variables_after (variables_with e.meaning n) es

-- an environment with one name more, the latest
abbrev pub with_entry : ConEntry → ConEnv → ConEnv
with_entry e env = record env { entries = env.entries ++ e ∷ [] }

-- the definition `m.x`
abbrev pub definition : List ℕ → List ℕ → Kind → Con → ConEntry
definition m x k c = record { name = member m x; kind = k; meaning = meaning.Defined c }

-- the variable `x`
abbrev pub variable_entry : List ℕ → Kind → ConEntry
variable_entry x k = record { name = own x; kind = k; meaning = meaning.Variable }

-- a prepared scope is that of an environment
abbrev pub Prepares : Prepared → ConEnv → Type 0
Prepares p env = (p.home ≡ env.home) × IsKnown (declared p.known []) env × (p.variables ≡ variables_after 0 env.entries)

-- constructors are read at the place as in an environment
abbrev pub Reads : Place → ConEnv → Type 0
Reads p env = (p.home.now ≡ env.home) × IsKnown (names_of p.names) env × (p.variables ≡ variables_after 0 env.entries)

-- the names of the layer over those of the place are the names of an environment
abbrev pub Covers : Layer → Place → ConEnv → Type 0
Covers l p env = (p.home.now ≡ env.home) × IsKnown (declared l.known (names_of p.names)) env × (l.variables ≡ variables_after 0 env.entries)
