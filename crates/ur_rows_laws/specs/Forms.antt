-- Laws of the normal forms of constructors.
use Rattle.std.specs.Prelude.{◌≡◌, ◌++◌, ℕ, Bool, true, false, List, [], ◌∷◌, length}
use Rattle.ur_syntax.specs.declared.kind.Kind.{Kind}
use Rattle.ur_syntax.specs.declared.kind.Kind.TheVariants as kind
use Rattle.ur_syntax.specs.declared.kind.Kind.TheBlock.{end_of-Kind as nought, more_of-Kind as some}
use Rattle.ur_base.specs.declared.refusal.Span.{Span}
use Rattle.ur_syntax.specs.declared.con.Con.{Con}
use Rattle.ur_syntax.specs.declared.con.ConForm.{ConForm}
use Rattle.ur_syntax.specs.declared.con.ConName.{ConName}
use Rattle.ur_syntax.specs.declared.con.ConEntry.{ConEntry}
use Rattle.ur_syntax.specs.declared.con.ConEnv.{ConEnv}
use Rattle.ur_syntax.specs.declared.con.ConMeaning.TheVariants as meaning
use Rattle.ur_syntax.specs.Forms.{fn_con, apply_con}
use Rattle.ur_syntax.specs.HasKind.{HasKind, scope_in}
use Rattle.ur_syntax.specs.Names.{own}
use Rattle.ur_rows.specs.declared.normal.Normal.{Normal}
use Rattle.ur_rows.specs.declared.normal.Normal.TheVariants as normal
use Rattle.ur_rows.specs.declared.normal.Normal.TheBlock.{end_of-Normal as sole, more_of-Normal as the}
use Rattle.ur_rows.specs.IsNormal.{is_normal}
use Rattle.ur_rows.specs.Normal.{known_in, at_home, nf_with, nf_form}
use Rattle.ur_rows.specs.Laws.{IsKindedEnv}

-- rows in order, and no `map` of the identity
abbrev pub AreNormal : ConEnv → Type 0
AreNormal env = (c : ConForm) → is_normal (nf_form env c) ≡ true

-- the shape of the forms of a kind
abbrev pub is_of : Kind → Normal → Bool
is_of kind.Star (normal.Type t) = true
is_of kind.Name (normal.Name l) = true
is_of kind.Row (normal.Row r) = true
is_of (kind.Arrow' _ (some k nought) _ (some j nought)) (normal.Fn' x _ (the c sole)) = is_of j c
is_of k n = false

-- a constructor of a kind has a form of the kind
abbrev pub HaveKinds : ConEnv → Type 0
HaveKinds env = (c : ConForm) (k : Kind) → IsKindedEnv env → HasKind (scope_in env) c k → is_of k (nf_form env c) ≡ true

-- an environment with some of its entries
abbrev pub with_entries : ConEnv → List ConEntry → ConEnv
with_entries env entries = record env { entries = entries }

-- The form that a definition's name stands for is the form of its right side over the entries before it, whatever entries
-- stand behind it. Those are known later, one by one.
abbrev pub DefinitionsStand : ConEnv → Type 0
DefinitionsStand env = (before : List ConEntry) (e : ConEntry) (behind : List ConEntry) (c : Con) → e.meaning ≡ meaning.Defined c →
    (later : List (ConName × (ℕ × Normal))) × (length later ≡ length behind) ×
    ((known_in (with_entries env (before ++ e ∷ behind))).names ≡
    later ++ (e.name, (0, nf_with (at_home e.name.home (known_in (with_entries env before))) c.form [])) ∷ (known_in (with_entries env before)).names)

-- a name of this module alone, defined
abbrev pub defined_as : List ℕ → Kind → Con → ConEntry
defined_as x k a = record { name = own x; kind = k; meaning = meaning.Defined a }

-- A function that is applied to an argument has the form of its body where the variable is defined as the argument.
abbrev pub AppliedIsDefined : ConEnv → Type 0
AppliedIsDefined env = (p q : Span) (x : List ℕ) (k : Kind) (body a : Con) →
    nf_form env (apply_con p (fn_con x k body.span body.form) q a.form) ≡ nf_form (with_entries env (env.entries ++ defined_as x k a ∷ [])) body.form
