-- The fields of a form, and the arguments of a route's call.
use Rattle.std.proofs.Common.{inl, inr, ◌≡◌, ◌∙◌, refl, sym, ap, ap₂, subst, ℕ, zero, suc, ◌+◌, ◌<◌, ◌≤◌, ◌⊎◌, Bool, true, false, true≢false, not, List, [], ◌∷◌, ◌++◌, map, length, take, get_or, Option, Some, None, arith, append-nil}
use Rattle.std.specs.Prelude.{◌↔◌, IsTrue, IfSome, slice_get, bytes_eq, All, AllPairs}
use Rattle.std.proofs.lemmas.Slice.Eq.{bytes_eq-Decides}
use Rattle.std.proofs.lemmas.Bool.{cases_lt}
use Rattle.std.proofs.lemmas.List.{map-append}
use Rattle.std.proofs.lemmas.List.Elements.{All-push}
use Rattle.std.proofs.lemmas.Option.{slice_get-get_or}
use Rattle.ur_base.specs.declared.names.Name.{Name}
use Rattle.ur_tags.specs.declared.routes.FormField.{FormField}
use Rattle.ur_tags.specs.declared.routes.Param.{Param}
use Rattle.ur_tags.specs.declared.routes.Param.TheVariants as param
use Rattle.ur_tags.specs.declared.routes.Route.{Route}
use Rattle.ur_rows.specs.declared.normal.Label.{Label}
use Rattle.ur_rows.specs.declared.normal.NormalType.{NormalType}
use Rattle.ur_rows.specs.declared.normal.NormalType.TheVariants as ty
use Rattle.ur_rows.specs.declared.normal.Part.{Part}
use Rattle.ur_rows.specs.declared.normal.Part.TheVariants as part
use Rattle.ur_rows.specs.Made as made
use Rattle.ur_rows.specs.Made.{record_of}
use Rattle.ur_rows.specs.Order.{with_part, joined}
use Rattle.ur_rows.proofs.Shapes.{record-made, field-made}
use Rattle.ur_tree.specs.declared.exp.Param.{Param as TreeParam}
use Rattle.ur_tree.specs.Routes.{box_type, param_type, form_row, form_argument, route_types}
use Rattle.ur_tree.specs.Typing.{types_of}
use Rattle.ur_check_heads.specs.declared.arguments.Arguments.{Arguments}
use Rattle.ur_check_heads.specs.Forms.{form_part, HasName, AreRising, IsForm, IsFormOf, AreArguments}

-- ---- one field

pub ruleset shapes = (record-made, field-made)

pub part-is : (names : List (List ℕ)) (f : FormField) (p : Part) (l : Label) (t u : NormalType) → p ≡ part.Field l t → u ≡ t → form_part names f ≡ made.field l u → form_part names f ≡ p
part-is names f p l t u e k h = h ∙ ap (made.field l) k ∙ sym (e ∙ field-made l t)

-- the place of a name
pub at-place : {A : Type 0} (xs : List A) (i n : ℕ) (x y : A) → i < length xs → x ≡ get_or xs i x → n ≡ i → x ≡ y → slice_get xs n ≡ Some y
at-place xs i n x y h e k s = ap (slice_get xs) k ∙ slice_get-get_or xs i x h ∙ ap (λ z. Some z) (sym e ∙ s)

pub named-so : (b : Bool) (x y : List ℕ) → b ≡ bytes_eq x y → b ≡ true → x ≡ y
named-so b x y e k = (bytes_eq-Decides x y).0 (sym e ∙ k)

-- ---- fields one after another

pub all-none : {A : Type 0} (P : A → Type 0) → All P []
all-none P = λ k d h. absurd (omega (arith, h))

pub all-push : {A : Type 0} (P : A → Type 0) (xs ys : List A) (x : A) → ys ≡ xs ++ x ∷ [] → All P xs → P x → All P ys
all-push P xs ys x e h p = subst (All P) (sym e) (All-push P xs x h p)

take-one : {A B : Type 0} (f : A → B) (xs : List A) (d : A) (i : ℕ) → i < length xs → map f (take i xs) ++ f (get_or xs i d) ∷ [] ≡ map f (take (suc i) xs)
take-one f [] d i h = absurd (omega (arith, h))
take-one f (x ∷ xs) d zero h = refl
take-one f (x ∷ xs) d (suc i) h = ap (λ l. f x ∷ l) (take-one f xs d i (omega (arith, h)))

one-more : (i : ℕ) → suc i ≡ i + 1
one-more i = omega arith

pub take-next : {A B : Type 0} (f : A → B) (ys : List B) (xs : List A) (x : A) (i : ℕ) (zs : List B) (y : B) → zs ≡ ys ++ y ∷ [] → i < length xs → x ≡ get_or xs i x → y ≡ f x → ys ≡ map f (take i xs) → zs ≡ map f (take (i + 1) xs)
take-next f ys xs x i zs y e h k s inv = e ∙ ap₂ (λ l z. l ++ z ∷ []) inv s ∙ ap (λ z. map f (take i xs) ++ f z ∷ []) k ∙ take-one f xs x i h ∙ ap (λ n. map f (take n xs)) (one-more i)

pub take-end : {A B : Type 0} (f : A → B) (xs : List A) (i : ℕ) → length xs ≤ i → map f (take i xs) ≡ map f xs
take-end f [] zero h = refl
take-end f [] (suc i) h = refl
take-end f (x ∷ xs) zero h = absurd (omega (arith, h))
take-end f (x ∷ xs) (suc i) h = ap (λ l. f x ∷ l) (take-end f xs i (omega (arith, h)))

pub fields-past : (names : List (List ℕ)) (row : List Part) (form more : List FormField) (i : ℕ) (p : Part) (f : FormField) → more ≡ form ++ f ∷ [] → i < length row → p ≡ get_or row i p → HasName names f → form_part names f ≡ p →
    All (HasName names) form × (map (form_part names) form ≡ map (λ q. q) (take i row)) → All (HasName names) more × (map (form_part names) more ≡ map (λ q. q) (take (i + 1) row))
fields-past names row form more i p f e h k n s inv = (
  all-push (HasName names) form more f e inv.0 n,
  take-next (λ q. q) (map (form_part names) form) row p i (map (form_part names) more) (form_part names f) (ap (map (form_part names)) e ∙ map-append (form_part names) form (f ∷ [])) h k s inv.1,
)

id-map : {A : Type 0} (xs : List A) → map (λ x. x) xs ≡ xs
id-map [] = refl
id-map (x ∷ xs) = ap (λ l. x ∷ l) (id-map xs)

pub fields-end : (names : List (List ℕ)) (row : List Part) (form : List FormField) (i : ℕ) → length row ≤ i → All (HasName names) form × (map (form_part names) form ≡ map (λ q. q) (take i row)) → map (form_part names) form ≡ row
fields-end names row form i h inv = inv.1 ∙ take-end (λ q. q) row i h ∙ id-map row

pub not-empty : (b : Bool) (form : List FormField) → IsTrue b ↔ (form ≡ []) → b ≡ false → form ≡ [] → ⊥
not-empty b form h k e = true≢false (sym (h.1 e) ∙ k)

-- ---- numbers that rise

-- each field up to a place has a greater number than the one before it
abbrev pub Climbs : List FormField → ℕ → Type 0
Climbs form i = (k : ℕ) (c d : FormField) → suc k < i → (get_or form k c).number.0 < (get_or form (suc k) d).number.0

pub climbs-start : (form : List FormField) (n : ℕ) → n ≤ 1 → Climbs form n
climbs-start form n h = λ k c d i. absurd (omega (arith, h, i))

at-end : (m i : ℕ) → m < i + 1 → (m < i) ⊎ (m ≡ i)
at-end m i h = elim (cases_lt m i) [ inl l ↦ inl l | inr g ↦ let e : m ≡ i = omega (arith, h, g) in inr e ]

pub climbs-past : (form : List FormField) (i : ℕ) → Climbs form i → ((c d : FormField) → (k : ℕ) → i ≡ suc k → (get_or form k c).number.0 < (get_or form i d).number.0) → Climbs form (i + 1)
climbs-past form i h last = λ k c d j. elim (at-end (suc k) i j) [ inl l ↦ h k c d l | inr e ↦ subst (λ z. (get_or form k c).number.0 < (get_or form z d).number.0) (sym e) (last c d k (sym e)) ]

upwards : (form : List FormField) (n : ℕ) → length form ≤ n → Climbs form n → (i j : ℕ) (d : FormField) → i < j → j < length form → (get_or form i d).number.0 < (get_or form j d).number.0
upwards form n h climbs i zero d l m = absurd (omega (arith, l))
upwards form n h climbs i (suc j) d l m =
    let b : (get_or form j d).number.0 < (get_or form (suc j) d).number.0 = climbs j d d (omega (arith, m, h)) in
    elim (cases_lt i j) [
      | inl k ↦ let a : (get_or form i d).number.0 < (get_or form j d).number.0 = upwards form n h climbs i j d k (omega (arith, m)) in omega (arith, a, b)
      | inr g ↦ let e : j ≡ i = omega (arith, l, g) in subst (λ z. (get_or form z d).number.0 < (get_or form (suc j) d).number.0) e b
    ]

pub climbs-rise : (form : List FormField) (n : ℕ) → length form ≤ n → Climbs form n → AreRising form
climbs-rise form n h climbs = λ i j d l m. upwards form n h climbs i j d l m

-- ---- the form

row-is : (names : List (List ℕ)) (form : List FormField) → form_row names form ≡ joined (map (form_part names) form) []
row-is names [] = refl
row-is names (f ∷ fs) = ap (with_part (form_part names f)) (row-is names fs)

argument-is : (names : List (List ℕ)) (form : List FormField) → (form ≡ [] → ⊥) → form_argument names form ≡ record_of (form_row names form) ∷ []
argument-is names [] h = absurd (h refl)
argument-is names (f ∷ fs) h = refl

pub form-is : (names : List (List ℕ)) (row : List Part) (form : List FormField) → (form ≡ [] → ⊥) → joined row [] ≡ row → map (form_part names) form ≡ row → All (HasName names) form → AreRising form → IsFormOf names row form
form-is names row form some ordered parts named rising = record {
  argument = argument-is names form some ∙ ap (λ r. record_of r ∷ []) (row-is names form ∙ ap (λ r. joined r []) parts ∙ ordered);
  named = named;
  rising = rising;
}

pub form-along : (names : List (List ℕ)) (row : List Part) (of : NormalType) (form : List FormField) → of ≡ ty.Record row → IsFormOf names row form → IsForm names of form
form-along names row of form e h = subst (λ t. IsForm names t form) (sym (e ∙ record-made row)) h

-- ---- arguments

pub unit-is : (of : NormalType) (row : List Part) (o : Option Param) → of ≡ ty.Record row → IfSome o (λ p. (p ≡ param.Unit) × (row ≡ [])) → IfSome o (λ p. param_type p ≡ of)
unit-is of row None e h = tt
unit-is of row (Some p) e h = ap param_type h.0 ∙ sym (e ∙ ap ty.Record h.1 ∙ record-made [])

pub params-past : (params : List TreeParam) (list more : List Param) (i : ℕ) (p : TreeParam) (q : Param) → more ≡ list ++ q ∷ [] → i < length params → p ≡ get_or params i p → param_type q ≡ p.of → map param_type list ≡ map (λ (x : TreeParam). x.of) (take i params) →
    map param_type more ≡ map (λ (x : TreeParam). x.of) (take (i + 1) params)
params-past params list more i p q e h k s inv = take-next (λ (x : TreeParam). x.of) (map param_type list) params p i (map param_type more) (param_type q) (ap (map param_type) e ∙ map-append param_type list (q ∷ [])) h k s inv

pub params-end : (params : List TreeParam) (list : List Param) (i : ℕ) → length params ≤ i → map param_type list ≡ map (λ (x : TreeParam). x.of) (take i params) → map param_type list ≡ types_of params
params-end params list i h inv = inv ∙ take-end (λ (x : TreeParam). x.of) params i h

pub in-path : (names : List (List ℕ)) (front : List NormalType) (params more : List Param) (of : NormalType) (p : Param) → more ≡ params ++ p ∷ [] → param_type p ≡ of → AreArguments names (map param_type params ++ of ∷ []) (record { params = more; form = [] })
in-path names front params more of p e h = record {
  types = ap (λ t. map param_type params ++ t ∷ []) (sym h) ∙ sym (map-append param_type params (p ∷ [])) ∙ ap (map param_type) (sym e) ∙ sym (append-nil (map param_type more));
  named = all-none (HasName names);
  rising = λ i j d l m. absurd (omega (arith, m));
}

pub by-form : (names : List (List ℕ)) (params : List Param) (of : NormalType) (form : List FormField) → IsForm names of form → AreArguments names (map param_type params ++ of ∷ []) (record { params = params; form = form })
by-form names params of form h = record { types = ap (λ l. map param_type params ++ l) (sym h.argument); named = h.named; rising = h.rising }

pub arguments-along : (names : List (List ℕ)) (front params : List TreeParam) (last : TreeParam) (before : List Param) (a : Arguments) → params ≡ front ++ last ∷ [] → map param_type before ≡ types_of front → AreArguments names (map param_type before ++ last.of ∷ []) a →
    AreArguments names (types_of params) a
arguments-along names front params last before a e h k =
    subst (λ ts. AreArguments names ts a) (ap (λ l. l ++ last.of ∷ []) h ∙ sym (map-append (λ (p : TreeParam). p.of) front (last ∷ [])) ∙ ap types_of (sym e)) k

pub no-arguments : (names : List (List ℕ)) (params : List TreeParam) → params ≡ [] → AreArguments names (types_of params) (record { params = []; form = [] })
no-arguments names params e = subst (λ ps. AreArguments names (types_of ps) (record { params = []; form = [] })) (sym e) (record { types = refl; named = all-none (HasName names); rising = λ i j d l m. absurd (omega (arith, m)) })
