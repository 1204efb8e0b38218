-- Prepared scopes and places are those of environments.
use Rattle.std.proofs.Common.{◌≡◌, refl, ap, ap₂, sym, ◌∙◌, subst, ℕ, ◌+◌, ◌<◌, ◌≤◌, List, [], ◌∷◌, ◌++◌, length, take, get_or, Option, Some, None, MatchOption, Result, IfOk}
use Rattle.std.proofs.lemmas.List.{take_more, take_all}
use Rattle.std.proofs.lemmas.Result.{IfOk-weaker}
use Rattle.ur_base.specs.declared.refusal.Memory.{Memory}
use Rattle.ur_syntax.specs.declared.kind.Kind.{Kind}
use Rattle.ur_syntax.specs.declared.con.Con.{Con}
use Rattle.ur_syntax.specs.declared.con.FieldName.{FieldName}
use Rattle.ur_syntax.specs.declared.con.ConName.{ConName}
use Rattle.ur_syntax.specs.declared.con.ConEntry.{ConEntry}
use Rattle.ur_syntax.specs.declared.con.ConEnv.{ConEnv}
use Rattle.ur_syntax.specs.Names.{own, member}
use Rattle.ur_rows.specs.declared.normal.Var.TheVariants as var
use Rattle.ur_rows.specs.declared.normal.Label.{Label}
use Rattle.ur_rows.specs.declared.normal.Normal.{Normal}
use Rattle.ur_rows.specs.Normal.{Known, known_in, known_after, variable, label_of, entry_form, variables_with, nf_with, nf}
use Rattle.ur_rows_reduce.specs.declared.held.Held.{Held}
use Rattle.ur_rows_reduce.specs.declared.held.Held.TheVariants as held
use Rattle.ur_rows_reduce.specs.Held.{Holds}
use Rattle.ur_rows_normal.specs.declared.names.Entry.{Entry}
use Rattle.ur_rows_normal.specs.declared.names.Scope.{Scope}
use Rattle.ur_rows_normal.specs.declared.environment.Prepared.{Prepared}
use Rattle.ur_rows_normal.specs.declared.environment.Layer.{Layer}
use Rattle.ur_rows_normal.specs.declared.environment.Place.{Place}
use Rattle.ur_rows_normal.specs.Walk.{Agrees, Tells, IsKnown, IsForm, declared, names_of, known_so}
use Rattle.ur_rows_normal.specs.Preparing.{variables_after, with_entry, definition, variable_entry, Prepares, Reads, Covers}
use Rattle.ur_rows_normal.proofs.NormalStanding.{declared-last}
use Rattle.ur_rows_normal.proofs.Environs.{Stands, Stood, entry-normal, scope-tells}
use Rattle.ur_rows_normal.proofs.Walked.{variable-holds}

-- ---- one entry after others

abbrev with_form : Known → ℕ → ConEntry → Known
with_form known n e = record known { names = (e.name, (0, entry_form known n e.name.home e.kind e.meaning)) ∷ known.names }

after-last : (known : Known) (n : ℕ) (es : List ConEntry) (e : ConEntry) → known_after known n (es ++ e ∷ []) ≡ with_form (known_after known n es) (variables_after n es) e
after-last known n [] e = refl
after-last known n (x ∷ es) e = after-last (with_form known n x) (variables_with x.meaning n) es e

variables-last : (n : ℕ) (es : List ConEntry) (e : ConEntry) → variables_after n (es ++ e ∷ []) ≡ variables_with e.meaning (variables_after n es)
variables-last n [] e = refl
variables-last n (x ∷ es) e = variables-last (variables_with x.meaning n) es e

same-home : (known : Known) (n : ℕ) (es : List ConEntry) → (known_after known n es).home ≡ known.home
same-home known n [] = refl
same-home known n (e ∷ es) = same-home (with_form known n e) (variables_with e.meaning n) es

same-depth : (known : Known) (n : ℕ) (es : List ConEntry) → (known_after known n es).depth ≡ known.depth
same-depth known n [] = refl
same-depth known n (e ∷ es) = same-depth (with_form known n e) (variables_with e.meaning n) es

abbrev start : ConEnv → Known
start env = record { home = env.home; depth = 0; names = [] }

so : (env : ConEnv) → known_in env ≡ known_so env.home (known_in env).names
so env = ap₂ (λ h d. record { home = h; depth = d; names = (known_in env).names }) (same-home (start env) 0 env.entries) (same-depth (start env) 0 env.entries)

-- ---- an entry more

abbrev Known_names : Type 0
Known_names = List (ConName × (ℕ × Held))

known-more : (env : ConEnv) (old : Known_names) (e : ConEntry) (x : Entry) → x.name ≡ e.name →
    ((names : List (ConName × (ℕ × Normal))) → Agrees old names → Holds x.held (entry_form (known_so env.home names) (variables_after 0 env.entries) e.name.home e.kind e.meaning)) →
    IsKnown old env → IsKnown ((x.name, (0, x.held)) ∷ old) (with_entry e env)
known-more env old e x q f s = (
  (e.name, (0, f0)) ∷ s.0,
  (q, (refl, f s.0 s.1, entry-normal (known_so env.home s.0) (variables_after 0 env.entries) e.name.home e.kind e.meaning), s.1),
  after-last (start env) 0 env.entries e ∙ ap (λ (k : Known). with_form k (variables_after 0 env.entries) e) s.2,
) where
  f0 : Normal
  f0 = entry_form (known_so env.home s.0) (variables_after 0 env.entries) e.name.home e.kind e.meaning

-- one name more over those below
more-over : (env : ConEnv) (known more : List Entry) (below : Known_names) (e : ConEntry) (x : Entry) → more ≡ known ++ x ∷ [] → x.name ≡ e.name →
    ((names : List (ConName × (ℕ × Normal))) → Agrees (declared known below) names → Holds x.held (entry_form (known_so env.home names) (variables_after 0 env.entries) e.name.home e.kind e.meaning)) →
    IsKnown (declared known below) env → IsKnown (declared more below) (with_entry e env)
more-over env known more below e x m q f s = subst (λ z. IsKnown z (with_entry e env)) (sym (ap (λ z. declared z below) m ∙ declared-last known x below)) (known-more env (declared known below) e x q f s)

pub pushed : (p r : Prepared) (env : ConEnv) (slice : List Entry) (e : ConEntry) (x : Entry) → r.home ≡ p.home → slice ≡ p.known → Stands p.home slice p.variables e x.held →
    r.variables ≡ variables_with e.meaning p.variables → x.name ≡ e.name → r.known ≡ p.known ++ x ∷ [] → Prepares p env → Prepares r (with_entry e env)
pushed p r env slice e x h l f v q m s = (
  h ∙ s.0,
  more-over env p.known r.known [] e x m q (subst (λ z. Stands env.home p.known z e x.held) s.2 (subst (λ z. Stands z p.known p.variables e x.held) s.0 (subst (λ z. Stands p.home z p.variables e x.held) l f))) s.1,
  v ∙ ap (variables_with e.meaning) s.2 ∙ sym (variables-last 0 env.entries e),
)

pub defined : (p r : Prepared) (env : ConEnv) (slice : List Entry) (home name : List ℕ) (k : Kind) (c : Con) (x : Entry) → r.home ≡ p.home → slice ≡ p.known → Stood home slice c x.held → r.variables ≡ p.variables →
    x.name ≡ member home name → r.known ≡ p.known ++ x ∷ [] → Prepares p env → Prepares r (with_entry (definition home name k c) env)
defined p r env slice home name k c x h l f v q m s = pushed p r env slice (definition home name k c) x h l f v q m s

-- ---- an entry less

known-less : (env : ConEnv) (known : List Entry) (e : ConEntry) (x : Entry) → IsKnown (declared (known ++ x ∷ []) []) (with_entry e env) → IsKnown (declared known []) env
known-less env known e x s = ((known_in env).names, (subst₂' (declared (known ++ x ∷ []) []) s.0 (declared-last known x []) names s.1).2, so env) where
  names : s.0 ≡ (e.name, (0, entry_form (known_in env) (variables_after 0 env.entries) e.name.home e.kind e.meaning)) ∷ (known_in env).names
  names = sym (ap (λ (k : Known). k.names) s.2) ∙ ap (λ (k : Known). k.names) (after-last (start env) 0 env.entries e)

  subst₂' : (hs : Known_names) (ns : List (ConName × (ℕ × Normal))) {is : Known_names} {ms : List (ConName × (ℕ × Normal))} → hs ≡ is → ns ≡ ms → Agrees hs ns → Agrees is ms
  subst₂' hs ns {is} e f a = subst (λ z. Agrees is z) f (subst (λ z. Agrees z ns) e a)

none-known : (env : ConEnv) (e : ConEntry) → IsKnown [] (with_entry e env) → ⊥
none-known env e s = go s.0 names s.1 where
  names : s.0 ≡ (e.name, (0, entry_form (known_in env) (variables_after 0 env.entries) e.name.home e.kind e.meaning)) ∷ (known_in env).names
  names = sym (ap (λ (k : Known). k.names) s.2) ∙ ap (λ (k : Known). k.names) (after-last (start env) 0 env.entries e)

  go : (ns : List (ConName × (ℕ × Normal))) {m : ConName × (ℕ × Normal)} {ms : List (ConName × (ℕ × Normal))} → ns ≡ m ∷ ms → Agrees [] ns → ⊥
  go [] f a = cc
  go (n ∷ ns) f a = a

pub popped : (p r : Prepared) (env : ConEnv) (e : ConEntry) (x : Entry) → p.known ≡ r.known ++ x ∷ [] → r.home ≡ p.home → r.variables ≡ variables_after 0 env.entries → Prepares p (with_entry e env) → Prepares r env
popped p r env e x k h v s = (h ∙ s.0, known-less env r.known e x (subst (λ z. IsKnown (declared z []) (with_entry e env)) k s.1), v)

pub nothing-popped : (p : Prepared) (env : ConEnv) (e : ConEntry) → p.known ≡ [] → Prepares p (with_entry e env) → ⊥
nothing-popped p env e k s = none-known env e (subst (λ z. IsKnown (declared z []) (with_entry e env)) k s.1)

pub without-last : (p r : Prepared) (o : Option Entry) → MatchOption o ((p.known ≡ []) × (r.known ≡ [])) (λ x. p.known ≡ r.known ++ x ∷ []) → r.home ≡ p.home → (env : ConEnv) (e : ConEntry) →
    Prepares p (with_entry e env) → r.variables ≡ variables_after 0 env.entries → Prepares r env
without-last p r None k h env e s v = absurd (nothing-popped p env e k.0 s)
without-last p r (Some x) k h env e s v = popped p r env e x k h v s

-- ---- places

pub in-scope : (p : Prepared) (env : ConEnv) (slice : List Entry) → slice ≡ p.known → Prepares p env → (p.home ≡ env.home) × IsKnown (declared slice []) env × (p.variables ≡ variables_after 0 env.entries)
in-scope p env slice e s = (s.0, subst (λ z. IsKnown (declared z []) env) (sym e) s.1, s.2)

pub over-place : (l : Layer) (p : Place) (env : ConEnv) (slice : List Entry) → slice ≡ l.known → Covers l p env → (p.home.now ≡ env.home) × IsKnown (declared slice (names_of p.names)) env × (l.variables ≡ variables_after 0 env.entries)
over-place l p env slice e s = (s.0, subst (λ z. IsKnown (declared z (names_of p.names)) env) (sym e) s.1, s.2)

pub no-layer : (p : Place) (known : List Entry) (env : ConEnv) → known ≡ [] → Reads p env → (p.home.now ≡ env.home) × IsKnown (declared known (names_of p.names)) env × (p.variables ≡ variables_after 0 env.entries)
no-layer p known env e s = (s.0, subst (λ z. IsKnown (declared z (names_of p.names)) env) (sym e) s.1, s.2)

pub bound : (l r : Layer) (p : Place) (env : ConEnv) (name : List ℕ) (k : Kind) (n : ConName) (form : Normal) → form ≡ variable k (var.Free l.variables) → n ≡ own name →
    r.known ≡ l.known ++ record { name = n; held = held.Form form } ∷ [] → r.variables ≡ l.variables + 1 → Covers l p env → Covers r p (with_entry (variable_entry name k) env)
bound l r p env name k n form f q m v s = (
  s.0,
  more-over env l.known r.known (names_of p.names) (variable_entry name k) (record { name = n; held = held.Form form }) m q
      (λ names a. variable-holds k (var.Free (variables_after 0 env.entries)) form (f ∙ ap (λ z. variable k (var.Free z)) s.2)) s.1,
  v ∙ ap (λ z. z + 1) s.2 ∙ sym (variables-last 0 env.entries (variable_entry name k)),
)

-- ---- the entries of an environment in turn

-- an environment with its first entries
abbrev pub first : ℕ → ConEnv → ConEnv
first i env = record env { entries = take i env.entries }

pub none-prepared : (p : Prepared) (env : ConEnv) → (p.home ≡ env.home) × (p.known ≡ []) × (p.variables ≡ 0) → Prepares p (first 0 env)
none-prepared p env s = (s.0, ([], subst (λ z. Agrees (declared z []) []) (sym s.1) tt, ap (λ z. known_after (start env) 0 z) none), s.2 ∙ ap (variables_after 0) (sym none)) where
  none : take 0 env.entries ≡ []
  none = take-none env.entries where
    take-none : (es : List ConEntry) → take 0 es ≡ []
    take-none [] = refl
    take-none (e ∷ es) = refl

pub one-prepared : (r : Prepared) (env : ConEnv) (entries : List ConEntry) (i : ℕ) (e : ConEntry) → entries ≡ env.entries → i < length entries → e ≡ get_or entries i e →
    Prepares r (with_entry e (first i env)) → Prepares r (first (i + 1) env)
one-prepared r env entries i e l h k s = subst (λ z. Prepares r (record env { entries = z })) (sym more) s where
  more : take (i + 1) env.entries ≡ take i env.entries ++ e ∷ []
  more = ap (take (i + 1)) (sym l) ∙ take_more entries i e h ∙ ap₂ (λ x y. take i x ++ y ∷ []) l (sym k)

pub all-prepared : (r : Prepared) (env : ConEnv) (entries : List ConEntry) (i : ℕ) → entries ≡ env.entries → length entries ≤ i → Prepares r (first i env) → Prepares r env
all-prepared r env entries i l h s = subst (λ z. Prepares r (record env { entries = z })) (ap (take i) (sym l) ∙ take_all i entries h ∙ l) s

-- ---- what is read there

reads-tells : (p : Place) (s : Scope) (env : ConEnv) → s.home.now ≡ p.home.now → s.depth ≡ 0 → names_of s.names.now ≡ names_of p.names → (q : Reads p env) → Tells s (known_so env.home q.1.0)
reads-tells p s env e d l q = scope-tells s (names_of p.names) env.home q.1.0 (e ∙ q.0) d l q.1.1

pub held-in : (r : Result Held Memory) (p : Place) (c : Con) (s : Scope) → s.home.now ≡ p.home.now → s.depth ≡ 0 → names_of s.names.now ≡ names_of p.names →
    IfOk r (λ h. IsForm h s c.form []) → IfOk r (λ h. (env : ConEnv) → Reads p env → Holds h (nf env c))
held-in r p c s e d l w = IfOk-weaker r _ _ (λ h f env q. subst (λ (z : Known). Holds h (nf_with z c.form [])) (sym q.1.2) (f (known_so env.home q.1.0) [] (reads-tells p s env e d l q) tt)) w

pub label-in : (r : Result Label Memory) (p : Place) (name : FieldName) (s : Scope) → s.home.now ≡ p.home.now → s.depth ≡ 0 → names_of s.names.now ≡ names_of p.names →
    IfOk r (λ x. (known : Known) → Tells s known → x ≡ label_of known name) → IfOk r (λ x. (env : ConEnv) → Reads p env → x ≡ label_of (known_in env) name)
label-in r p name s e d l w = IfOk-weaker r _ _ (λ x f env q. f (known_so env.home q.1.0) (reads-tells p s env e d l q) ∙ ap (λ (z : Known). label_of z name) (sym q.1.2)) w
