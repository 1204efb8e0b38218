-- A constructor's normal form has the form of its kind.
use Rattle.std.proofs.Common.{◌≡◌, refl, ap, ap₂, sym, ◌∙◌, subst, ℕ, zero, suc, ◌-◌, Bool, true, false, ◌&&◌, ◌⊎◌, inl, inr, List, [], ◌∷◌, map, Option, Some, None, bytes_eq, codes, IsTrue, true≢false, if◌then◌else◌}
use Rattle.std.proofs.lemmas.Bool.{cases_Bool}
use Rattle.std.proofs.lemmas.Slice.Eq.{bytes_eq-Decides}
use Rattle.ur_syntax.specs.declared.kind.Kind.{Kind}
use Rattle.ur_syntax.specs.declared.kind.Kind.TheVariants as kind
use Rattle.ur_syntax.specs.declared.kind.Kind.TheBlock.{end_of-Kind as nought, more_of-Kind as some}
use Rattle.ur_syntax.specs.declared.con.ConName.{ConName}
use Rattle.ur_syntax.specs.declared.con.ConForm.{ConForm}
use Rattle.ur_syntax.specs.declared.con.ConForm.TheVariants as con
use Rattle.ur_base.specs.declared.refusal.Span.{Span}
use Rattle.ur_syntax.specs.declared.con.ConMeaning.{ConMeaning}
use Rattle.ur_syntax.specs.declared.con.ConMeaning.TheVariants as meaning
use Rattle.ur_syntax.specs.declared.con.ConEntry.{ConEntry}
use Rattle.ur_syntax.specs.declared.con.ConEnv.{ConEnv}
use Rattle.ur_syntax.specs.Names.{own, member, same_con, looked_up, or_own, seen_by, seen}
use Rattle.ur_syntax.specs.Kinds.{arrow, is_plain}
use Rattle.ur_syntax.specs.Forms.{fn_con, concat_con, map_con}
use Rattle.ur_syntax.specs.HasKind.{HasKind, Scope, kind_known, with_name, scope_after, scope_in, word_kind, IsWord, named, member_named, word, name, function, applied as applies, arrow_type, concat, row as row_kind, record_type, dollar, map_row, form}
use Rattle.ur_rows.specs.declared.normal.Var.{Var}
use Rattle.ur_rows.specs.declared.normal.Var.TheVariants as var
use Rattle.ur_rows.specs.declared.normal.NormalType.{NormalType}
use Rattle.ur_rows.specs.declared.normal.NormalType.TheVariants as ty
use Rattle.ur_rows.specs.declared.normal.Part.{Part}
use Rattle.ur_rows.specs.declared.normal.Normal.{Normal}
use Rattle.ur_rows.specs.declared.normal.Normal.TheVariants as normal
use Rattle.ur_rows.specs.declared.normal.Normal.TheBlock.{end_of-Normal as sole, more_of-Normal as the}
use Rattle.ur_rows.specs.Put.{as_row, Putting, put, argument, applied_once, applied, raised, raising}
use Rattle.ur_rows.specs.Normal.{Known, or_raised, known_as, variable, within, with_argument, as_function, map_of, xml_of, name_with, word_with, nf_with, at_home, entry_form, variables_with, known_after, known_in, nf_form}
use Rattle.ur_rows.specs.Normal as N
use Rattle.ur_rows.specs.Laws.{home_of, MeaningHas, EntriesHave, IsKindedEnv, IsRow, HasMap, no_fields}

abbrev pub has_form : Kind → Normal → Bool
has_form kind.Star (normal.Type t) = true
has_form kind.Name (normal.Name l) = true
has_form kind.Row (normal.Row r) = true
has_form (kind.Arrow' _ (some k nought) _ (some j nought)) (normal.Fn' x _ (the c sole)) = has_form j c
has_form k n = false

no : {A : Type 0} → false ≡ true → A
no e = absurd (true≢false (sym e))

put-form : (σ : Putting) (d : ℕ) (k : Kind) (n : Normal) → has_form k n ≡ true → has_form k (put σ d n) ≡ true
put-form σ d kind.Star (normal.Type t) e = refl
put-form σ d kind.Star (normal.Name l) e = no e
put-form σ d kind.Star (normal.Row r) e = no e
put-form σ d kind.Star (normal.Fn' x _ c) e = no e
put-form σ d kind.Name (normal.Type t) e = no e
put-form σ d kind.Name (normal.Name l) e = refl
put-form σ d kind.Name (normal.Row r) e = no e
put-form σ d kind.Name (normal.Fn' x _ c) e = no e
put-form σ d kind.Row (normal.Type t) e = no e
put-form σ d kind.Row (normal.Name l) e = no e
put-form σ d kind.Row (normal.Row r) e = refl
put-form σ d kind.Row (normal.Fn' x _ c) e = no e
put-form σ d (kind.Arrow' _ (some k nought) _ (some j nought)) (normal.Type t) e = no e
put-form σ d (kind.Arrow' _ (some k nought) _ (some j nought)) (normal.Name l) e = no e
put-form σ d (kind.Arrow' _ (some k nought) _ (some j nought)) (normal.Row r) e = no e
put-form σ d (kind.Arrow' _ (some k nought) _ (some j nought)) (normal.Fn' x _ (the c sole)) e = put-form σ (suc d) j c e

-- a function of kind k takes arguments of their kinds and gives one of kind l
abbrev pub Takes : Kind → List Normal → Kind → Type 0
Takes k [] l = k ≡ l
Takes (kind.Arrow' _ (some k nought) _ (some j nought)) (a ∷ args) l = (has_form k a ≡ true) × Takes j args l
Takes k (a ∷ args) l = ⊥

applied_once-form : (k j : Kind) (n a : Normal) → has_form (arrow k j) n ≡ true → has_form j (applied_once n a) ≡ true
applied_once-form k j (normal.Fn' x _ (the c sole)) a e = put-form (argument a) 0 j c e
applied_once-form k j (normal.Type t) a e = no e
applied_once-form k j (normal.Name t) a e = no e
applied_once-form k j (normal.Row t) a e = no e

applied-form : (k : Kind) (n : Normal) (args : List Normal) (l : Kind) → has_form k n ≡ true → Takes k args l → has_form l (applied n args) ≡ true
applied-form k n [] l e t = subst (λ z. has_form z n ≡ true) t e
applied-form kind.Star n (a ∷ args) l e t = absurd t
applied-form kind.Name n (a ∷ args) l e t = absurd t
applied-form kind.Row n (a ∷ args) l e t = absurd t
applied-form (kind.Arrow' _ (some k nought) _ (some j nought)) n (a ∷ args) l e t = applied-form j (applied_once n a) args l (applied_once-form k j n a e) t.1

star-form : (t : NormalType) (args : List Normal) (l : Kind) → Takes kind.Star args l → has_form l (normal.Type t) ≡ true
star-form t [] l e = subst (λ z. has_form z (normal.Type t) ≡ true) e refl
star-form t (a ∷ args) l e = absurd e

row-form : (r : List Part) (args : List Normal) (l : Kind) → Takes kind.Row args l → has_form l (normal.Row r) ≡ true
row-form r [] l e = subst (λ z. has_form z (normal.Row r) ≡ true) e refl
row-form r (a ∷ args) l e = absurd e

name-form : (a : List ℕ) (args : List Normal) (l : Kind) → Takes kind.Name args l → has_form l (nf_with (record { home = []; depth = 0; names = [] }) (con.Name a) args) ≡ true
name-form x [] l e = subst (λ z. has_form z (nf_with (record { home = []; depth = 0; names = [] }) (con.Name x) []) ≡ true) e refl
name-form x (a ∷ args) l e = absurd e

-- ---- names

abbrev pub Agree : List (ConName × Kind) → List (ConName × (ℕ × Normal)) → Type 0
Agree [] [] = Unit {0}
Agree (k ∷ ks) (n ∷ ns) = (k.0 ≡ n.0) × (has_form k.1 n.1.1 ≡ true) × Agree ks ns
Agree ks ns = ⊥

-- a name is known with a form of its kind, or not at all
abbrev FitsForm : Option Kind → Option Normal → Type 0
FitsForm None None = Unit {0}
FitsForm (Some k) (Some n) = has_form k n ≡ true
FitsForm o p = ⊥

abbrev Fits : Option Kind → Option (ℕ × Normal) → Type 0
Fits None None = Unit {0}
Fits (Some k) (Some n) = has_form k n.1 ≡ true
Fits o p = ⊥

raised-fits : (d : ℕ) (o : Option Kind) (p : Option (ℕ × Normal)) → Fits o p → FitsForm o (or_raised d p)
raised-fits d None None f = tt
raised-fits d None (Some n) f = absurd f
raised-fits d (Some k) None f = absurd f
raised-fits d (Some k) (Some n) f = put-form (raising (d - n.0)) 0 k n.1 f

looked_up-fits : (x : ConName) (ks : List (ConName × Kind)) (ns : List (ConName × (ℕ × Normal))) → Agree ks ns → Fits (looked_up x ks) (looked_up x ns)
looked_up-fits x [] [] a = tt
looked_up-fits x [] (n ∷ ns) a = absurd a
looked_up-fits x (k ∷ ks) [] a = absurd a
looked_up-fits x (k ∷ ks) (n ∷ ns) a = go (same_con x n.0) (ap (same_con x) a.0) (looked_up-fits x ks ns a.2) where
  go : (b : Bool) → same_con x k.0 ≡ b → Fits (looked_up x ks) (looked_up x ns) → Fits (if same_con x k.0 then Some k.1 else looked_up x ks) (if b then Some n.1 else looked_up x ns)
  go true e ih = subst (λ b. Fits (if b then Some k.1 else looked_up x ks) (Some n.1)) (sym e) a.1
  go false e ih = subst (λ b. Fits (if b then Some k.1 else looked_up x ks) (looked_up x ns)) (sym e) ih

or_own-fits : (m : List ℕ) (x : ConName) (ks : List (ConName × Kind)) (ns : List (ConName × (ℕ × Normal))) (o : Option Kind) (p : Option (ℕ × Normal)) → Agree ks ns → Fits o p →
    Fits (or_own m x ks o) (or_own m x ns p)
or_own-fits m x ks ns None None a f = looked_up-fits (record { home = Some m; name = x.name }) ks ns a
or_own-fits m x ks ns None (Some n) a f = absurd f
or_own-fits m x ks ns (Some k) None a f = absurd f
or_own-fits m x ks ns (Some k) (Some n) a f = f

seen_by-fits : (h : Option (List ℕ)) (m : List ℕ) (x : ConName) (ks : List (ConName × Kind)) (ns : List (ConName × (ℕ × Normal))) → Agree ks ns → Fits (seen_by h m x ks) (seen_by h m x ns)
seen_by-fits None m x ks ns a = or_own-fits m x ks ns (looked_up x ks) (looked_up x ns) a (looked_up-fits x ks ns a)
seen_by-fits (Some n) m x ks ns a = go (bytes_eq n m) (looked_up-fits x ks ns a) where
  go : (b : Bool) → Fits (looked_up x ks) (looked_up x ns) → Fits (if b then None else looked_up x ks) (if b then None else looked_up x ns)
  go true f = tt
  go false f = f

pub record Suits (scope : Scope) (known : Known) : Type 0 where
  pub home : scope.home ≡ known.home
  pub names : Agree scope.names known.names

seen-fits : (scope : Scope) (known : Known) (x : ConName) → Suits scope known → FitsForm (kind_known x scope) (known_as x known)
seen-fits scope known x s = raised-fits known.depth (kind_known x scope) (seen known.home x known.names)
    (subst (λ z. Fits (kind_known x scope) (seen z x known.names)) s.home (seen_by-fits x.home scope.home x scope.names known.names s.names))

pub unknown : (scope : Scope) (known : Known) (x : ConName) → Suits scope known → kind_known x scope ≡ None → known_as x known ≡ None
unknown scope known x s e = go (known_as x known) refl where
  go : (p : Option Normal) → known_as x known ≡ p → p ≡ None
  go None f = refl
  go (Some n) f = absurd (subst (λ z. FitsForm z (Some n)) e (subst (λ z. FitsForm (kind_known x scope) z) f (seen-fits scope known x s)))

name_with-form : (o : Option Kind) (p : Option Normal) (x : List ℕ) (k : Kind) (args : List Normal) (l : Kind) → o ≡ Some k → FitsForm o p → Takes k args l → has_form l (name_with p x args) ≡ true
name_with-form None p x k args l e f t = absurd (cc)
name_with-form (Some j) None x k args l e f t = absurd f
name_with-form (Some j) (Some n) x k args l e f t = applied-form k n args l (subst (λ z. has_form z n ≡ true) (inner e) f) t where
  inner : Some j ≡ Some k → j ≡ k
  inner q = cc

variable-form : (k : Kind) (v : Var) → IsTrue (is_plain k) → has_form k (variable k v) ≡ true
variable-form kind.Star v e = refl
variable-form kind.Name v e = refl
variable-form kind.Row v e = refl
variable-form (kind.Arrow' _ k _ j) v e = no e

-- ---- words

step : (b : Bool) (k k' : Kind) (n n' : Normal) (o : Option Kind) → has_form k n ≡ true → (o ≡ Some k' → has_form k' n' ≡ true) →
    (if b then Some k else o) ≡ Some k' → has_form k' (if b then n else n') ≡ true
step true k k' n n' o e f g = subst (λ z. has_form z n ≡ true) (inner g) e where
  inner : Some k ≡ Some k' → k ≡ k'
  inner q = cc
step false k k' n n' o e f g = f g

none : (k : Kind) (n : Normal) → None ≡ Some k → has_form k n ≡ true
none k n e = absurd (cc)

word-form : (x : List ℕ) (k : Kind) → word_kind x ≡ Some k → has_form k (N.word x) ≡ true
word-form x k =
    step (bytes_eq x (codes "int")) _ k _ _ _ refl (step (bytes_eq x (codes "string")) _ k _ _ _ refl (step (bytes_eq x (codes "bool")) _ k _ _ _ refl
    (step (bytes_eq x (codes "unit")) _ k _ _ _ refl (step (bytes_eq x (codes "page")) _ k _ _ _ refl (step (bytes_eq x (codes "xbody")) _ k _ _ _ refl
    (step (bytes_eq x (codes "xtable")) _ k _ _ _ refl (step (bytes_eq x (codes "xtr")) _ k _ _ _ refl (step (bytes_eq x (codes "xform")) _ k _ _ _ refl
    (step (bytes_eq x (codes "option")) _ k _ _ _ refl (step (bytes_eq x (codes "list")) _ k _ _ _ refl (step (bytes_eq x (codes "transaction")) _ k _ _ _ refl
    (none k _))))))))))))

word_with-form : (x : List ℕ) (k : Kind) (args : List Normal) (l : Kind) → word_kind x ≡ Some k → Takes k args l → has_form l (word_with x args) ≡ true
word_with-form x k args l e t = go (bytes_eq x (codes "map")) refl (bytes_eq x (codes "xml")) refl where
  go : (b : Bool) → bytes_eq x (codes "map") ≡ b → (c : Bool) → bytes_eq x (codes "xml") ≡ c → has_form l (if b then map_of args else (if c then xml_of args else applied (N.word x) args)) ≡ true
  go true f c g = absurd (never (subst (λ z. word_kind z ≡ Some k) ((bytes_eq-Decides x (codes "map")).0 f) e)) where
    never : None ≡ Some k → ⊥
    never q = cc
  go false f true g = absurd (never (subst (λ z. word_kind z ≡ Some k) ((bytes_eq-Decides x (codes "xml")).0 g) e)) where
    never : None ≡ Some k → ⊥
    never q = cc
  go false f false g = applied-form k (N.word x) args l (word-form x k e) t

-- ---- the normal form

pub nf-form : {scope : Scope} {c : ConForm} {k : Kind} → HasKind scope c k → (known : Known) (args : List Normal) (l : Kind) → Suits scope known → Takes k args l → has_form l (nf_with known c args) ≡ true
nf-form {scope} (named {x = x} {k = k} e) known args l s t = name_with-form (kind_known (own x) scope) (known_as (own x) known) x k args l e (seen-fits scope known (own x) s) t
nf-form {scope} (member_named {m = m} {x = x} {k = k} e) known args l s t =
    name_with-form (kind_known (member m x) scope) (known_as (member m x) known) x k args l e (seen-fits scope known (member m x) s) t
nf-form {scope} (word {x = x} {k = k} w e) known args l s t =
    subst (λ z. has_form l (name_with z x args) ≡ true) (sym (unknown scope known (own x) s w)) (word_with-form x k args l e t)
nf-form (name {a = a}) known args l s t = name-form a args l t
nf-form (function {x = x} {k = k} {j = j} {p = q} {c = c} p h) known [] l s t = subst (λ z. has_form z (nf_with known (fn_con x k q c) []) ≡ true) t
    (nf-form h (within x k known) [] j (record { home = s.home; names = (refl, variable-form k (var.Bound 0) p, s.names) }) refl)
nf-form (function {x = x} {k = k} {j = j} p h) known (a ∷ args) l s t = nf-form h (with_argument x a known) args l (record { home = s.home; names = (refl, t.0, s.names) }) t.1
nf-form (applies {a = a} {k = k} f h) known args l s t = nf-form f known (nf_with known a [] ∷ args) l s (nf-form h known [] k s refl, t)
nf-form (arrow_type a b) known args l s t = star-form _ args l t
nf-form (concat a b) known args l s t = row-form _ args l t
nf-form (row_kind f) known args l s t = row-form _ args l t
nf-form (record_type f) known args l s t = star-form _ args l t
nf-form (dollar h) known args l s t = star-form _ args l t
nf-form {scope} (map_row {f = f} {r = r} w g h) known [] l s t =
    subst (λ z. has_form l (name_with z (codes "map") (nf_with known f [] ∷ nf_with known r [] ∷ [])) ≡ true) (sym (unknown scope known (own (codes "map")) s w)) (row-form _ [] l t)
nf-form (map_row w g h) known (a ∷ args) l s t = absurd t
nf-form {scope} (form {r = r} w v h) known [] l s t =
    subst (λ z. has_form l (name_with z (codes "xml") (nf_with known (con.Var (codes "form")) [] ∷ nf_with known no_fields [] ∷ nf_with known r [] ∷ [])) ≡ true)
    (sym (unknown scope known (own (codes "xml")) s w)) (star-form _ [] l t)
nf-form (form w v h) known (a ∷ args) l s t = absurd t

-- ---- an environment

entry-form : (scope : Scope) (known : Known) (n : ℕ) (home : Option (List ℕ)) (k : Kind) (m : ConMeaning) → Suits scope known → MeaningHas (home_of home scope) m k →
    has_form k (entry_form known n home k m) ≡ true
entry-form scope known n home k meaning.Variable s h = variable-form k (var.Free n) h
entry-form scope known n None k (meaning.Defined c) s h = nf-form h known [] k s refl
entry-form scope known n (Some m) k (meaning.Defined c) s h = nf-form h (record known { home = m }) [] k (record { home = refl; names = s.names }) refl
entry-form scope known n home k (meaning.Datatype d) s h = subst (λ z. has_form z (normal.Type (ty.Datatype d)) ≡ true) (sym h) refl

after-suits : (scope : Scope) (known : Known) (n : ℕ) (entries : List ConEntry) → Suits scope known → EntriesHave scope entries → Suits (scope_after scope entries) (known_after known n entries)
after-suits scope known n [] s h = s
after-suits scope known n (e ∷ rest) s h = after-suits (record scope { names = (e.name, e.kind) ∷ scope.names })
    (record known { names = (e.name, (0, entry_form known n e.name.home e.kind e.meaning)) ∷ known.names }) (variables_with e.meaning n) rest
    (record { home = s.home; names = (refl, entry-form scope known n e.name.home e.kind e.meaning s h.0, s.names) }) h.1

pub env-suits : (env : ConEnv) → IsKindedEnv env → Suits (scope_in env) (known_in env)
env-suits env h = after-suits (record { home = env.home; names = [] }) (record { home = env.home; depth = 0; names = [] }) 0 env.entries (record { home = refl; names = tt }) h

is-row : (n : Normal) → has_form kind.Row n ≡ true → normal.Row (as_row n) ≡ n
is-row (normal.Row r) e = refl
is-row (normal.Type t) e = no e
is-row (normal.Name l) e = no e
is-row (normal.Fn' k _ c) e = no e

pub nf-row : (env : ConEnv) (c : ConForm) → IsKindedEnv env → IsRow env c → normal.Row (as_row (nf_form env c)) ≡ nf_form env c
nf-row env c k h = is-row (nf_form env c) (nf-form h (known_in env) [] kind.Row (env-suits env k) refl)

-- ---- the word `map`, whatever the kinds

abbrev SameNames : List (ConName × Kind) → List (ConName × (ℕ × Normal)) → Type 0
SameNames [] [] = Unit {0}
SameNames (k ∷ ks) (n ∷ ns) = (k.0 ≡ n.0) × SameNames ks ns
SameNames ks ns = ⊥

looked_up-none : (x : ConName) (ks : List (ConName × Kind)) (ns : List (ConName × (ℕ × Normal))) → SameNames ks ns → looked_up x ks ≡ None → looked_up x ns ≡ None
looked_up-none x [] [] a e = refl
looked_up-none x [] (n ∷ ns) a e = absurd a
looked_up-none x (k ∷ ks) [] a e = absurd a
looked_up-none x (k ∷ ks) (n ∷ ns) a e = go (same_con x n.0) (ap (same_con x) a.0) (looked_up-none x ks ns a.1) where
  go : (b : Bool) → same_con x k.0 ≡ b → (looked_up x ks ≡ None → looked_up x ns ≡ None) → (if b then Some n.1 else looked_up x ns) ≡ None
  go true f ih = absurd (never (subst (λ b. (if b then Some k.1 else looked_up x ks) ≡ None) f e)) where
    never : Some k.1 ≡ None → ⊥
    never q = cc
  go false f ih = ih (subst (λ b. (if b then Some k.1 else looked_up x ks) ≡ None) f e)

seen-none : (m : List ℕ) (x : List ℕ) (ks : List (ConName × Kind)) (ns : List (ConName × (ℕ × Normal))) → SameNames ks ns → seen m (own x) ks ≡ None → seen m (own x) ns ≡ None
seen-none m x ks ns a e = go (looked_up (own x) ks) refl where
  go : (o : Option Kind) → looked_up (own x) ks ≡ o → seen m (own x) ns ≡ None
  go (Some k) f = absurd (never (subst (λ o. or_own m (own x) ks o ≡ None) f e)) where
    never : Some k ≡ None → ⊥
    never q = cc
  go None f = subst (λ o. or_own m (own x) ns o ≡ None) (sym (looked_up-none (own x) ks ns a f))
      (looked_up-none (record { home = Some m; name = x }) ks ns a (subst (λ o. or_own m (own x) ks o ≡ None) f e))

pub record Names (scope : Scope) (known : Known) : Type 0 where
  pub home : scope.home ≡ known.home
  pub names : SameNames scope.names known.names

after-names : (scope : Scope) (known : Known) (n : ℕ) (entries : List ConEntry) → Names scope known → Names (scope_after scope entries) (known_after known n entries)
after-names scope known n [] s = s
after-names scope known n (e ∷ rest) s = after-names (record scope { names = (e.name, e.kind) ∷ scope.names })
    (record known { names = (e.name, (0, entry_form known n e.name.home e.kind e.meaning)) ∷ known.names }) (variables_with e.meaning n) rest
    (record { home = s.home; names = (refl, s.names) })

pub map-unknown : (env : ConEnv) → HasMap env → known_as (own (codes "map")) (known_in env) ≡ None
map-unknown env w = let s = after-names (record { home = env.home; names = [] }) (record { home = env.home; depth = 0; names = [] }) 0 env.entries (record { home = refl; names = tt }) in
    ap (or_raised (known_in env).depth) (subst (λ m. seen m (own (codes "map")) (known_in env).names ≡ None) s.home (seen-none (scope_in env).home (codes "map") (scope_in env).names (known_in env).names s.names w))
