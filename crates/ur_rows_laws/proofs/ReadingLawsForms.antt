-- Forms of kinds, and what substitutions do to them.
use Rattle.std.proofs.Common.{◌≡◌, refl, ap, sym, ◌∙◌, subst, ℕ, suc, ◌+◌, ◌<◌, Bool, true, false, List, [], ◌∷◌, map, Option, Some, None, bytes_eq, codes, if◌then◌else◌, arith}
use Rattle.std.proofs.lemmas.Slice.Eq.{bytes_eq-Decides}
use Rattle.ur_syntax.specs.declared.kind.Kind.{Kind}
use Rattle.ur_syntax.specs.declared.kind.Kind.TheVariants as kind
use Rattle.ur_syntax.specs.Kinds.{arrow, is_plain}
use Rattle.ur_syntax.specs.HasKind.{word_kind}
use Rattle.ur_rows.specs.declared.normal.Var.TheVariants as var
use Rattle.ur_rows.specs.declared.normal.Label.{Label}
use Rattle.ur_rows.specs.declared.normal.Label.TheVariants as label
use Rattle.ur_rows.specs.declared.normal.NormalType.{NormalType}
use Rattle.ur_rows.specs.declared.normal.NormalType.TheVariants as ty
use Rattle.ur_rows.specs.declared.normal.Part.{Part}
use Rattle.ur_rows.specs.declared.normal.Normal.{Normal}
use Rattle.ur_rows.specs.declared.normal.Normal.TheVariants as normal
use Rattle.ur_rows.specs.declared.normal.Normal.TheBlock.{end_of-Normal as sole, more_of-Normal as the}
use Rattle.ur_rows.specs.Made.{option_of, list_of, transaction_of, form_of, unit}
use Rattle.ur_rows.specs.IsNormal.{is_normal}
use Rattle.ur_rows.specs.Kinded.{Variables, with_bound, label_is_in, type_is_in, row_is_in, is_of_kind}
use Rattle.ur_rows.specs.Put.{Putting, as_type, as_label, as_row, put, put_label, put_type, put_row, raising, raised, applied_once, applied}
use Rattle.ur_rows.specs.Normal.{type_function, as_function, word, word_with, map_of, xml_of}
use Rattle.ur_rows.proofs.PutAfter.{Composes, put_label-after, put_type-after, IsIdentity, put_type-same}
use Rattle.ur_rows_laws.proofs.Kept.{KeepsKinds, label-kept, type-kept, row-kept}
use Rattle.ur_rows_laws.proofs.After.{ComposesIn, label-after, type-after, row-after, row-after-all, row-same, Proper}
use Rattle.ur_rows_laws.proofs.Passing.{Passes, after-raising, before-raising, raises-twice, plus-none}
use Rattle.ur_rows_laws.proofs.Applying.{argument-keeps, after-argument, before-argument, before-place, behind-place, placed-first, PastArgument}

-- a form of a kind, whose variables are in scope
pub data FormIn : Variables → Kind → Normal → Type 0 where
  a_type : {vs : Variables} {t : NormalType} → type_is_in vs t ≡ true → FormIn vs kind.Star (normal.Type t)
  a_name : {vs : Variables} {l : Label} → label_is_in vs l ≡ true → FormIn vs kind.Name (normal.Name l)
  a_row : {vs : Variables} {r : List Part} → row_is_in vs r ≡ true → FormIn vs kind.Row (normal.Row r)
  a_function : {vs : Variables} {k j : Kind} {c : Normal} → is_plain k ≡ true → FormIn (with_bound k vs) j c → FormIn vs (arrow k j) (normal.Fn' k tt (the c sole))

-- a function of a kind takes forms in order of their kinds, and gives one of another kind
pub data TakesIn : Variables → Kind → List Normal → Kind → Type 0 where
  done : {vs : Variables} {k : Kind} → TakesIn vs k [] k
  more : {vs : Variables} {k j l : Kind} {a : Normal} {args : List Normal} → is_plain k ≡ true → FormIn vs k a → is_normal a ≡ true → TakesIn vs j args l → TakesIn vs (arrow k j) (a ∷ args) l

pub type-in : {vs : Variables} {n : Normal} → FormIn vs kind.Star n → type_is_in vs (as_type n) ≡ true
type-in (a_type e) = e

pub label-in : {vs : Variables} {n : Normal} → FormIn vs kind.Name n → label_is_in vs (as_label n) ≡ true
label-in (a_name e) = e

pub row-in : {vs : Variables} {n : Normal} → FormIn vs kind.Row n → row_is_in vs (as_row n) ≡ true
row-in (a_row e) = e

pub function-in : {vs : Variables} {n : Normal} → FormIn vs (arrow kind.Star kind.Star) n → type_is_in (with_bound kind.Star vs) (as_function n) ≡ true
function-in (a_function p f) = type-in f

pub type-put : {vs : Variables} {n : Normal} (σ : Putting) (d : ℕ) → FormIn vs kind.Star n → as_type (put σ d n) ≡ put_type σ d (as_type n)
type-put σ d (a_type e) = refl

pub label-put : {vs : Variables} {n : Normal} (σ : Putting) (d : ℕ) → FormIn vs kind.Name n → as_label (put σ d n) ≡ put_label σ d (as_label n)
label-put σ d (a_name e) = refl

pub row-put : {vs : Variables} {n : Normal} (σ : Putting) (d : ℕ) → FormIn vs kind.Row n → as_row (put σ d n) ≡ put_row σ d (as_row n)
row-put σ d (a_row e) = refl

pub function-put : {vs : Variables} {n : Normal} (σ : Putting) (d : ℕ) → FormIn vs (arrow kind.Star kind.Star) n → as_function (put σ d n) ≡ put_type σ (suc d) (as_function n)
function-put σ d (a_function p f) = type-put σ (suc d) f

-- the arguments of functions are of kinds that are no arrows
pub plain-kind : {vs : Variables} {k : Kind} {n : Normal} → is_plain k ≡ true → FormIn vs k n → is_of_kind vs n k ≡ true
plain-kind p (a_type e) = e
plain-kind p (a_name e) = e
plain-kind p (a_row e) = e
plain-kind p (a_function q f) = absurd (never p) where
  never : false ≡ true → ⊥
  never e = cc

-- ---- substitutions of forms

pub form-kept : {R : Variables → Variables → ℕ → Type 0} {σ : Putting} {vs : Variables} {k : Kind} {n : Normal} → KeepsKinds R σ → (ws : Variables) (d : ℕ) → R vs ws d → FormIn vs k n → FormIn ws k (put σ d n)
form-kept {vs = vs} q ws d r (a_type {t = t} e) = a_type (type-kept q vs ws d r t e)
form-kept {vs = vs} q ws d r (a_name {l = l} e) = a_name (label-kept q vs ws d r l e)
form-kept {vs = vs} q ws d r (a_row {r = x} e) = a_row (row-kept q vs ws d r x e)
form-kept {vs = vs} q ws d r (a_function {k = k} p f) = a_function p (form-kept q (with_bound k ws) (suc d) (q.deeper k vs ws d r) f)

pub form-after : {L : ℕ → ℕ → ℕ → Variables → Type 0} {σ τ ρ : Putting} {vs : Variables} {k : Kind} {n : Normal} → ComposesIn L σ τ ρ → (a b c : ℕ) → L a b c vs → FormIn vs k n → put σ a (put τ b n) ≡ put ρ c n
form-after {vs = vs} q a b c at (a_type {t = t} e) = ap (λ z. normal.Type z) (type-after q a b c vs at t e)
form-after {vs = vs} q a b c at (a_name {l = l} e) = ap (λ z. normal.Name z) (label-after q a b c vs at l e)
form-after {vs = vs} q a b c at (a_row {r = r} e) = ap (λ z. normal.Row z) (row-after q a b c vs at r e)
form-after {vs = vs} q a b c at (a_function {k = k} p f) = ap (λ z. normal.Fn' k tt (the z sole)) (form-after q (suc a) (suc b) (suc c) (q.deeper k a b c vs at) f)

pub form-after-all : {L : ℕ → ℕ → ℕ → Type 0} {σ τ ρ : Putting} → Composes L σ τ ρ → (a b c : ℕ) → L a b c → (n : Normal) → put σ a (put τ b n) ≡ put ρ c n
form-after-all q a b c at (normal.Type t) = ap (λ z. normal.Type z) (put_type-after q a b c at t)
form-after-all q a b c at (normal.Name l) = ap (λ z. normal.Name z) (put_label-after q a b c at l)
form-after-all q a b c at (normal.Row r) = ap (λ z. normal.Row z) (row-after-all q a b c at r)
form-after-all q a b c at (normal.Fn' k _ (the n sole)) = ap (λ z. normal.Fn' k tt (the z sole)) (form-after-all q (suc a) (suc b) (suc c) (q.deeper a b c at) n)

label-same : {σ : Putting} → IsIdentity σ → (d : ℕ) (l : Label) → put_label σ d l ≡ l
label-same i d (label.Literal x) = refl
label-same i d (label.Variable v) = i.labels d v

pub form-same : {σ : Putting} → IsIdentity σ → (d : ℕ) (n : Normal) → is_normal n ≡ true → put σ d n ≡ n
form-same i d (normal.Type t) e = ap (λ z. normal.Type z) (put_type-same i d t e)
form-same i d (normal.Name l) e = ap (λ z. normal.Name z) (label-same i d l)
form-same i d (normal.Row r) e = ap (λ z. normal.Row z) (row-same i d r e)
form-same i d (normal.Fn' k _ (the n sole)) e = ap (λ z. normal.Fn' k tt (the z sole)) (form-same i (suc d) n e)

-- a form that is raised twice
pub form-raised-twice : (k m : ℕ) (n : Normal) → put (raising k) 0 (raised m n) ≡ raised (m + k) n
form-raised-twice k m n = form-after-all (raises-twice k m 0 (omega arith)) 0 0 0 (plus-none 0, refl) n

-- a substitution goes past raising
pub form-raise-past : {S : Variables → ℕ → Type 0} {σ : Putting} {vs : Variables} {j : Kind} {n : Normal} → Proper σ → Passes S σ → (m k : ℕ) → S vs m → FormIn vs j n → put σ (m + k) (put (raising k) 0 n) ≡ put (raising k) 0 (put σ m n)
form-raise-past {S} {σ} {vs} {j} {n} p q m k s f = subst (λ z. put σ (z + k) (put (raising k) 0 n) ≡ put (raising k) 0 (put σ z n)) (sym (plus-none m)) go where
  go : put σ (m + 0 + k) (put (raising k) 0 n) ≡ put (raising k) 0 (put σ (m + 0) n)
  go = form-after (after-raising p q m k) (m + 0 + k) 0 0 (subst (S vs) (plus-none m) s, refl, refl) f ∙ sym (form-after (before-raising p q m k) 0 (m + 0) 0 (subst (S vs) (plus-none m) s, refl, refl) f)

-- ---- functions at arguments

pub once-in : {vs : Variables} {k j : Kind} {f a : Normal} → is_plain k ≡ true → FormIn vs (arrow k j) f → FormIn vs k a → FormIn vs j (applied_once f a)
once-in {vs} {k} {a = a} e (a_function p c) x = form-kept (argument-keeps k vs a (plain-kind e x)) vs 0 (placed-first k vs) c

-- what is asked of a substitution
pub record Goes (S : Variables → ℕ → Type 0) (σ : Putting) : Type 0 where
  pub proper : Proper σ
  pub passes : Passes S σ
  pub past : (k : Kind) (u0 : Variables) (n : ℕ) (a : Normal) → S u0 n → is_of_kind u0 a k ≡ true → PastArgument S σ k u0 n (put σ n a)

once-past : {S : Variables → ℕ → Type 0} {σ : Putting} {vs : Variables} {k j : Kind} {f a : Normal} → Goes S σ → (d : ℕ) → S vs d → is_plain k ≡ true → FormIn vs (arrow k j) f → FormIn vs k a →
    put σ d (applied_once f a) ≡ applied_once (put σ d f) (put σ d a)
once-past {S} {σ} {vs} {k} {a = a} g d s e (a_function {c = c} p f) x =
    form-after (after-argument g.proper g.passes k d vs a (plain-kind e x)) d 0 0 (before-place k d vs s) f ∙
    sym (form-after (before-argument g.proper g.passes k d vs a s (plain-kind e x) (g.past k vs d a s (plain-kind e x))) 0 (suc d) 0 (behind-place k d vs s (g.passes.deeper k vs d s)) f)

pub applied-in : {vs : Variables} {k l : Kind} {n : Normal} {args : List Normal} → FormIn vs k n → TakesIn vs k args l → FormIn vs l (applied n args)
applied-in f done = f
applied-in f (more e x i t) = applied-in (once-in e f x) t

pub applied-past : {S : Variables → ℕ → Type 0} {σ : Putting} {vs : Variables} {k l : Kind} {n : Normal} {args : List Normal} → Goes S σ → (d : ℕ) → S vs d → FormIn vs k n → TakesIn vs k args l →
    applied (put σ d n) (map (put σ d) args) ≡ put σ d (applied n args)
applied-past g d s f done = refl
applied-past {σ = σ} g d s f (more {args = args} e x i t) = ap (λ z. applied z (map (put σ d) args)) (sym (once-past g d s e f x)) ∙ applied-past g d s (once-in e f x) t

-- ---- words

-- a form of a kind, and the form that it has elsewhere
pub record Both (σ : Putting) (vs : Variables) (d : ℕ) (k : Kind) (n m : Normal) : Type 0 where
  pub kinds : FormIn vs k n
  pub form : m ≡ put σ d n

pub applied-both : {S : Variables → ℕ → Type 0} {σ : Putting} {vs : Variables} {k l : Kind} {n m : Normal} {args : List Normal} → Goes S σ → (d : ℕ) → S vs d → Both σ vs d k n m → TakesIn vs k args l →
    Both σ vs d l (applied n args) (applied m (map (put σ d) args))
applied-both {σ = σ} {args = args} g d s b t = record { kinds = applied-in b.kinds t; form = ap (λ z. applied z (map (put σ d) args)) b.form ∙ applied-past g d s b.kinds t }

step : (P : Kind → Normal → Type 0) (b : Bool) (k k' : Kind) (n n' : Normal) (o : Option Kind) → P k n → (o ≡ Some k' → P k' n') → (if b then Some k else o) ≡ Some k' → P k' (if b then n else n')
step P true k k' n n' o e f g = subst (λ z. P z n) (inner g) e where
  inner : Some k ≡ Some k' → k ≡ k'
  inner q = cc
step P false k k' n n' o e f g = f g

none : (P : Kind → Normal → Type 0) (k : Kind) (n : Normal) → None ≡ Some k → P k n
none P k n e = absurd (cc)

first : (d : ℕ) → 0 < suc d
first d = omega arith

-- a word is closed
abbrev Closed : Putting → Variables → ℕ → Kind → Normal → Type 0
Closed σ vs d k n = Both σ vs d k n n

closed-type : (σ : Putting) (vs : Variables) (d : ℕ) (t : NormalType) → type_is_in vs t ≡ true → put_type σ d t ≡ t → Closed σ vs d kind.Star (normal.Type t)
closed-type σ vs d t e f = record { kinds = a_type e; form = ap (λ z. normal.Type z) (sym f) }

closed-function : (σ : Putting) (vs : Variables) (d : ℕ) (f : NormalType → NormalType) → Proper σ → type_is_in (with_bound kind.Star vs) (f (ty.Variable (var.Bound 0))) ≡ true →
    put_type σ (suc d) (f (ty.Variable (var.Bound 0))) ≡ f (σ.types (suc d) (var.Bound 0)) → Closed σ vs d (arrow kind.Star kind.Star) (type_function f)
closed-function σ vs d f p e g = record {
  kinds = a_function refl (a_type e);
  form = ap (λ z. normal.Fn' kind.Star tt (the (normal.Type z) sole)) (sym (g ∙ ap f (p.inner_types (suc d) 0 (first d))));
}

word-closed : (σ : Putting) (vs : Variables) (d : ℕ) → Proper σ → (x : List ℕ) (k : Kind) → word_kind x ≡ Some k → Closed σ vs d k (word x)
word-closed σ vs d p x k =
    step (Closed σ vs d) (bytes_eq x (codes "int")) _ k _ _ _ (closed-type σ vs d ty.Int refl refl) (step (Closed σ vs d) (bytes_eq x (codes "string")) _ k _ _ _ (closed-type σ vs d ty.Str refl refl)
    (step (Closed σ vs d) (bytes_eq x (codes "bool")) _ k _ _ _ (closed-type σ vs d ty.Bool refl refl) (step (Closed σ vs d) (bytes_eq x (codes "unit")) _ k _ _ _ (closed-type σ vs d unit refl refl)
    (step (Closed σ vs d) (bytes_eq x (codes "page")) _ k _ _ _ (closed-type σ vs d ty.Page refl refl) (step (Closed σ vs d) (bytes_eq x (codes "xbody")) _ k _ _ _ (closed-type σ vs d ty.Xbody refl refl)
    (step (Closed σ vs d) (bytes_eq x (codes "xtable")) _ k _ _ _ (closed-type σ vs d ty.Xtable refl refl) (step (Closed σ vs d) (bytes_eq x (codes "xtr")) _ k _ _ _ (closed-type σ vs d ty.Xtr refl refl)
    (step (Closed σ vs d) (bytes_eq x (codes "xform")) _ k _ _ _ (closed-type σ vs d (form_of []) refl refl) (step (Closed σ vs d) (bytes_eq x (codes "option")) _ k _ _ _ (closed-function σ vs d option_of p refl refl)
    (step (Closed σ vs d) (bytes_eq x (codes "list")) _ k _ _ _ (closed-function σ vs d list_of p refl refl) (step (Closed σ vs d) (bytes_eq x (codes "transaction")) _ k _ _ _ (closed-function σ vs d transaction_of p refl refl)
    (none (Closed σ vs d) k _))))))))))))

pub word-both : {S : Variables → ℕ → Type 0} {σ : Putting} {vs : Variables} {l : Kind} {args : List Normal} → Goes S σ → (d : ℕ) → S vs d → (x : List ℕ) (k : Kind) → word_kind x ≡ Some k → TakesIn vs k args l →
    Both σ vs d l (word_with x args) (word_with x (map (put σ d) args))
word-both {σ = σ} {vs = vs} {l = l} {args = args} g d s x k e t = go (bytes_eq x (codes "map")) refl (bytes_eq x (codes "xml")) refl where
  never : None ≡ Some k → ⊥
  never q = cc

  go : (b : Bool) → bytes_eq x (codes "map") ≡ b → (c : Bool) → bytes_eq x (codes "xml") ≡ c →
      Both σ vs d l (if b then map_of args else (if c then xml_of args else applied (word x) args)) (if b then map_of (map (put σ d) args) else (if c then xml_of (map (put σ d) args) else applied (word x) (map (put σ d) args)))
  go true f c h = absurd (never (subst (λ z. word_kind z ≡ Some k) ((bytes_eq-Decides x (codes "map")).0 f) e))
  go false f true h = absurd (never (subst (λ z. word_kind z ≡ Some k) ((bytes_eq-Decides x (codes "xml")).0 h) e))
  go false f false h = applied-both g d s (word-closed σ vs d g.proper x k e) t
