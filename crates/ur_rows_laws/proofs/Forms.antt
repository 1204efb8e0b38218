-- Proofs of the laws of normal forms.
use Rattle.std.proofs.Common.{◌≡◌, refl, ap, sym, ◌∙◌, ℕ, suc, List, [], ◌∷◌, ◌++◌, length}
use Rattle.ur_syntax.specs.declared.kind.Kind.{Kind}
use Rattle.ur_syntax.specs.declared.kind.Kind.TheVariants as kind
use Rattle.ur_syntax.specs.declared.kind.Kind.TheBlock.{end_of-Kind as nought, more_of-Kind as some}
use Rattle.ur_syntax.specs.declared.con.Con.{Con}
use Rattle.ur_syntax.specs.declared.con.ConName.{ConName}
use Rattle.ur_syntax.specs.declared.con.ConEntry.{ConEntry}
use Rattle.ur_syntax.specs.declared.con.ConEnv.{ConEnv}
use Rattle.ur_syntax.specs.declared.con.ConMeaning.TheVariants as meaning
use Rattle.ur_syntax.specs.Names.{own}
use Rattle.ur_rows.specs.declared.normal.Normal.{Normal}
use Rattle.ur_rows.specs.declared.normal.Normal.TheVariants as normal
use Rattle.ur_rows.specs.declared.normal.Normal.TheBlock.{end_of-Normal as sole, more_of-Normal as the}
use Rattle.ur_rows.specs.Normal.{Known, known_in, known_after, at_home, entry_form, variables_with, nf_with, nf_form}
use Rattle.ur_rows.proofs.Kinding.{has_form, nf-form, env-suits}
use Rattle.ur_rows_laws.specs.Forms.{is_of, defined_as, HaveKinds, DefinitionsStand, AppliedIsDefined}

same-shape : (k : Kind) (n : Normal) → has_form k n ≡ is_of k n
same-shape kind.Star (normal.Type t) = refl
same-shape kind.Star (normal.Name l) = refl
same-shape kind.Star (normal.Row r) = refl
same-shape kind.Star (normal.Fn' x _ (the c sole)) = refl
same-shape kind.Name (normal.Type t) = refl
same-shape kind.Name (normal.Name l) = refl
same-shape kind.Name (normal.Row r) = refl
same-shape kind.Name (normal.Fn' x _ (the c sole)) = refl
same-shape kind.Row (normal.Type t) = refl
same-shape kind.Row (normal.Name l) = refl
same-shape kind.Row (normal.Row r) = refl
same-shape kind.Row (normal.Fn' x _ (the c sole)) = refl
same-shape (kind.Arrow' _ (some k nought) _ (some j nought)) (normal.Type t) = refl
same-shape (kind.Arrow' _ (some k nought) _ (some j nought)) (normal.Name l) = refl
same-shape (kind.Arrow' _ (some k nought) _ (some j nought)) (normal.Row r) = refl
same-shape (kind.Arrow' _ (some k nought) _ (some j nought)) (normal.Fn' x _ (the c sole)) = same-shape j c

pub have-kinds : (env : ConEnv) → HaveKinds env
have-kinds env c k h e = sym (same-shape k (nf_form env c)) ∙ nf-form e (known_in env) [] k (env-suits env h) refl

-- ---- definitions

abbrev Names : Type 0
Names = List (ConName × (ℕ × Normal))

grouped : (xs ys zs : Names) → xs ++ ys ++ zs ≡ xs ++ (ys ++ zs)
grouped [] ys zs = refl
grouped (x ∷ xs) ys zs = ap (λ z. x ∷ z) (grouped xs ys zs)

one-longer : (xs : Names) (x : ConName × (ℕ × Normal)) → length (xs ++ x ∷ []) ≡ suc (length xs)
one-longer [] x = refl
one-longer (y ∷ xs) x = ap (λ n. suc n) (one-longer xs x)

abbrev After : Known → ℕ → List ConEntry → Type 0
After known n es = (later : Names) × (length later ≡ length es) × ((known_after known n es).names ≡ later ++ known.names)

-- what is known stays, behind what is known later
after : (known : Known) (n : ℕ) (es : List ConEntry) → After known n es
after known n [] = ([], refl, refl)
after known n (e ∷ es) = go (after (record known { names = form ∷ known.names }) (variables_with e.meaning n) es) where
  form : ConName × (ℕ × Normal)
  form = (e.name, (0, entry_form known n e.name.home e.kind e.meaning))

  go : After (record known { names = form ∷ known.names }) (variables_with e.meaning n) es → After known n (e ∷ es)
  go s = (s.0 ++ form ∷ [], one-longer s.0 form ∙ ap (λ m. suc m) s.1, s.2 ∙ sym (grouped s.0 (form ∷ []) known.names))

-- entries one after the other
record Reached (known : Known) (n : ℕ) (es : List ConEntry) : Type 0 where
  count : ℕ
  goes : (more : List ConEntry) → known_after known n (es ++ more) ≡ known_after (known_after known n es) count more

reached : (known : Known) (n : ℕ) (es : List ConEntry) → Reached known n es
reached known n [] = record { count = n; goes = λ more. refl }
reached known n (e ∷ es) = go (reached (record known { names = (e.name, (0, entry_form known n e.name.home e.kind e.meaning)) ∷ known.names }) (variables_with e.meaning n) es) where
  go : Reached (record known { names = (e.name, (0, entry_form known n e.name.home e.kind e.meaning)) ∷ known.names }) (variables_with e.meaning n) es → Reached known n (e ∷ es)
  go s = record { count = s.count; goes = s.goes }

defined-form : (known : Known) (n : ℕ) (e : ConEntry) (c : Con) → e.meaning ≡ meaning.Defined c → entry_form known n e.name.home e.kind e.meaning ≡ nf_with (at_home e.name.home known) c.form []
defined-form known n e c i = ap (entry_form known n e.name.home e.kind) i

abbrev start : ConEnv → Known
start env = record { home = env.home; depth = 0; names = [] }

pub definitions-stand : (env : ConEnv) → DefinitionsStand env
definitions-stand env before e behind c i = (rest.0, rest.1, ap (λ (k : Known). k.names) (r.goes (e ∷ behind)) ∙ rest.2 ∙ ap (λ f. rest.0 ++ (e.name, (0, f)) ∷ known.names) (defined-form known r.count e c i)) where
  known : Known
  known = known_after (start env) 0 before

  r : Reached (start env) 0 before
  r = reached (start env) 0 before

  rest : After (record known { names = (e.name, (0, entry_form known r.count e.name.home e.kind e.meaning)) ∷ known.names }) (variables_with e.meaning r.count) behind
  rest = after (record known { names = (e.name, (0, entry_form known r.count e.name.home e.kind e.meaning)) ∷ known.names }) (variables_with e.meaning r.count) behind

-- ---- an argument

same-depth : (known : Known) (n : ℕ) (es : List ConEntry) → (known_after known n es).depth ≡ known.depth
same-depth known n [] = refl
same-depth known n (e ∷ es) = same-depth (record known { names = (e.name, (0, entry_form known n e.name.home e.kind e.meaning)) ∷ known.names }) (variables_with e.meaning n) es

pub applied-is-defined : (env : ConEnv) → AppliedIsDefined env
applied-is-defined env p q x k body a = ap (λ (z : Known). nf_with z body.form []) (ap (λ d. record known { names = (own x, (d, nf_with known a.form [])) ∷ known.names }) (same-depth (start env) 0 env.entries) ∙ sym (r.goes (defined_as x k a ∷ []))) where
  known : Known
  known = known_in env

  r : Reached (start env) 0 env.entries
  r = reached (start env) 0 env.entries
