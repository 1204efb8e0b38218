-- What is declared before a place is declared alike where more is declared; so what the walk gives there it gives of all that is declared.
use Rattle.std.proofs.Common.{arith, ◌≡◌, ◌∙◌, refl, sym, ap, subst, Bool, true, false, true≢false, Option, Some, None, List, [], ◌∷◌, ◌++◌, ℕ, zero, suc, ◌+◌, ◌<◌, ◌≤◌, length, map, take}
use Rattle.std.proofs.lemmas.Bool.Decides.{nat_tests, Decides-eqb}
use Rattle.std.proofs.lemmas.List.{map-append, length-append}
use Rattle.std.specs.Prelude.{◌||◌, ◌==◌, if◌then◌else◌, nat_lt, option_to_list, slice_get}
use Rattle.std.specs.List.{AllByRecursion, list_all, list_any}
use Rattle.ur_syntax.specs.declared.exp.ExpForm.{ExpForm}
use Rattle.ur_terms.specs.declared.term.Pattern.{Pattern}
use Rattle.ur_terms.specs.declared.term.Pattern.TheVariants as pattern
use Rattle.ur_rows.specs.declared.normal.NormalType.{NormalType}
use Rattle.ur_rows.specs.declared.normal.NormalType.TheVariants as ty
use Rattle.ur_tree.specs.declared.typed.Typed.{Typed}
use Rattle.ur_tree.specs.declared.typed.Variant.{Variant}
use Rattle.ur_tree.specs.declared.typed.Function.{Function}
use Rattle.ur_tree.specs.Heads.{Declared as Heads, head_of}
use Rattle.ur_tree.specs.Patterns.{same_pattern, are_some, last_is_any, has_all, tagged_of, bound_by, tags_from, constructors_of}
use Rattle.ur_typed_rules.specs.Names.{Globals}
use Rattle.ur_typed_rules.specs.Scopes.{Scope, Mode}
use Rattle.ur_typed_rules.specs.Tests.{are_once, covers}
use Rattle.ur_typed_rules.proofs.Lists.{both_of, of_both}
use Rattle.ur_typed_rules.proofs.Options.{some_of, some_none, opened}
use Rattle.ur_typed.specs.Rules.{Sites, Out}
use Rattle.ur_typed.specs.Walking.{typed}
use Rattle.ur_typed.specs.Declaring.{Sofar, declared_so_far, world_behind, Checked}
use Rattle.ur_typed_laws.proofs.Bodies.{bare, world, with_vals}
use Rattle.ur_typed_laws.specs.Led.{Leads, a_world, AreBound, Agree}
use Rattle.ur_typed_laws.proofs.Led.{walk_is_led}
use Rattle.ur_typed.specs.Made.{IsMadeOf, function_head}
use Rattle.ur_typed_laws.proofs.Extending.{Begins, IsSofar, Extends}

-- ---- beginnings

in_front : {A : Type 0} (xs more : List A) (n : ℕ) (x : A) → slice_get xs n ≡ Some x → slice_get (xs ++ more) n ≡ Some x
in_front [] more n x h = cc
in_front (y ∷ ys) more zero x h = h
in_front (y ∷ ys) more (suc n) x h = in_front ys more n x h

begins_lead : {A : Type 0} (xs ys : List A) → Begins xs ys → (n : ℕ) → Leads (slice_get xs n) (slice_get ys n)
begins_lead xs ys b n = record { on = λ x h. ap (λ z. slice_get z n) b.are ∙ in_front xs b.more n x h }

abbrev pub begins_map : {A B : Type 0} (f : A → B) (xs ys : List A) → Begins xs ys → Begins (map f xs) (map f ys)
begins_map f xs ys b = record { more = map f b.more; are = ap (map f) b.are ∙ map-append f xs b.more }

none_below : (n : ℕ) → suc n ≤ zero → ⊥
none_below n h = omega (arith, h)

take_front : {A : Type 0} (k : ℕ) (xs more : List A) → length xs ≤ k → Begins xs (take k (xs ++ more))
take_front k [] more l = record { more = take k more; are = refl }
take_front zero (x ∷ xs) more l = absurd (none_below (length xs) l)
take_front (suc k) (x ∷ xs) more l = let b : Begins xs (take k (xs ++ more)) = take_front k xs more (omega (arith, l)) in record { more = b.more; are = ap (λ z. x ∷ z) b.are }

-- a list begins what is left of a longer one behind it
pub begins_cut : {A : Type 0} (k : ℕ) (xs ys : List A) → length xs ≤ k → Begins xs ys → Begins xs (take k ys)
begins_cut k xs ys l b = subst (λ z. Begins xs (take k z)) (sym b.are) (take_front k xs b.more l)

begins_length : {A : Type 0} (xs ys : List A) → Begins xs ys → length xs ≤ length ys
begins_length xs ys b = let e : length ys ≡ length xs + length b.more = ap length b.are ∙ length-append xs b.more in omega (arith, e)

-- ---- what is declared first

-- Each list of `d` begins that of `e`; the constructors of `d` are of datatypes below the number, and those that `e` has more are not.
pub record Opens (k : ℕ) (d e : Heads) : Type 0 where
  pub variants : Begins d.variants e.variants
  pub below : AllByRecursion (λ v. v.0 < k) d.variants
  pub apart : AllByRecursion (λ v. k ≤ v.0) variants.more
  pub cookies : Begins d.cookies e.cookies
  pub vals : Begins d.vals e.vals
  pub functions : Begins d.functions e.functions
  pub sequences : d.sequences ≤ e.sequences

-- ---- constructors of one datatype

not_same : (a b : ℕ) → b < a → (a == b) ≡ false
not_same a b h = grind (arith, nat_tests, h)

before_all : (c k m : ℕ) → c < k → k ≤ m → c < m
before_all c k m l h = omega (arith, l, h)

no_tags : (c k n : ℕ) (vs : List (ℕ × Option NormalType)) → c < k → AllByRecursion (λ v. k ≤ v.0) vs → tags_from c n vs ≡ []
no_tags c k n [] l h = refl
no_tags c k n (v ∷ vs) l h =
    ap (λ b. if b then pattern.Tagged n ∷ tags_from c (n + 1) vs else tags_from c (n + 1) vs) (not_same v.0 c (before_all c k v.0 l h.0)) ∙ no_tags c k (n + 1) vs l h.1

-- what is declared later has no constructor of a datatype before it
tags_same : (c k n : ℕ) (vs more : List (ℕ × Option NormalType)) → c < k → AllByRecursion (λ v. k ≤ v.0) more → tags_from c n (vs ++ more) ≡ tags_from c n vs
tags_same c k n [] more l h = no_tags c k n more l h
tags_same c k n (v ∷ vs) more l h = ap (λ z. if v.0 == c then pattern.Tagged n ∷ z else z) (tags_same c k (n + 1) vs more l h)

all_here : {A : Type 0} (P : A → Type 0) (xs : List A) (n : ℕ) (x : A) → AllByRecursion P xs → slice_get xs n ≡ Some x → P x
all_here P [] n x h e = cc
all_here P (y ∷ ys) zero x h e = subst P (some_of e) h.0
all_here P (y ∷ ys) (suc n) x h e = all_here P ys n x h.1 e

-- ---- patterns for values of a datatype

module _ (d : Heads) (c k : ℕ) (below : AllByRecursion (λ v. v.0 < k) d.variants) where
  tagged_below : (v : ℕ × Option NormalType) (us : List NormalType) → tagged_of (ty.Datatype c) v ≡ Some us → v.0 < k → c < k
  tagged_below v us h l = by_test (c == v.0) refl h where
    by_test : (b : Bool) → (c == v.0) ≡ b → (if b then Some (option_to_list v.1) else None) ≡ Some us → c < k
    by_test true e i = subst (λ z. z < k) (sym ((Decides-eqb c v.0).0 e)) l
    by_test false e i = absurd (some_none (sym i))

  -- a pattern for values of a datatype that is no variable is one of its constructors, which is declared
  bound_below : (p : Pattern) (us : List NormalType) → bound_by d (ty.Datatype c) p ≡ Some us → same_pattern p pattern.Any ≡ false → c < k
  bound_below pattern.Any us h n = absurd (true≢false n)
  bound_below (pattern.Tagged t) us h n =
      let v = opened (tagged_of (ty.Datatype c)) (slice_get d.variants t) us h in tagged_below v.0 us v.2 (all_here (λ v. v.0 < k) d.variants t v.0 below v.1)
  bound_below _ us h n = absurd (some_none (sym h))

  last_below : (ps : List Pattern) → AreBound d (ty.Datatype c) ps → last_is_any ps ≡ false → are_some ps ≡ true → c < k
  last_below [] b l s = absurd (true≢false (sym s))
  last_below (p ∷ []) b l s = bound_below p b.0.0 b.0.1 l
  last_below (p ∷ q ∷ ps) b l s = last_below (q ∷ ps) b.1 l refl

-- ---- patterns that cover a type

unless : (a b c : Bool) → (a ≡ false → b ≡ true → c ≡ true) → (a || b) ≡ true → (a || c) ≡ true
unless true b c f h = refl
unless false b c f h = f refl h

module _ (k : ℕ) (d e : Heads) (o : Opens k d e) where
  all_up : (t : NormalType) (ps : List Pattern) → AreBound d t ps → last_is_any ps ≡ false → has_all (constructors_of d t) ps ≡ true → has_all (constructors_of e t) ps ≡ true
  all_up (ty.Datatype c) ps b l h =
      let s = both_of (are_some ps) (list_all (λ q. list_any (same_pattern q) ps) (tags_from c 0 d.variants)) h in
      let i : c < k = last_below d c k o.below ps b l s.0 in
      ap (λ z. has_all (Some (tags_from c 0 z)) ps) o.variants.are ∙ (ap (λ z. has_all (Some z) ps) (tags_same c k 0 d.variants o.variants.more i o.apart) ∙ h)
  all_up ty.Bool ps b l h = h
  all_up (ty.Opt' _ t) ps b l h = h
  all_up (ty.Many' _ t) ps b l h = h
  all_up _ ps b l h = h

  covers_up : (t : NormalType) (ps : List Pattern) → AreBound d t ps → covers d t ps ≡ true → covers e t ps ≡ true
  covers_up t ps b h =
      let m = both_of (are_once same_pattern ps) (last_is_any ps || has_all (constructors_of d t) ps) h in
      of_both (are_once same_pattern ps) (last_is_any ps || has_all (constructors_of e t) ps) m.0 (unless (last_is_any ps) (has_all (constructors_of d t) ps) (has_all (constructors_of e t) ps) (all_up t ps b) m.1)

fewer : (n a b : ℕ) → a ≤ b → nat_lt n a ≡ true → nat_lt n b ≡ true
fewer n a b l h = grind (arith, nat_tests, l, h)

pub opens_agree : (g : Globals) (k : ℕ) (d e : Heads) → Opens k d e → Agree g d e
opens_agree g k d e o = record {
  functions = λ c n h. begins_lead d.functions e.functions o.functions n;
  vals = λ c n h. begins_lead d.vals e.vals o.vals n;
  variants = λ c n h. begins_lead d.variants e.variants o.variants n;
  cookies = λ c n h. begins_lead d.cookies e.cookies o.cookies n;
  sequences = λ c n h i. fewer n d.sequences e.sequences o.sequences i;
  covers = covers_up k d e o;
}

-- ---- what is declared before a place

all_mapped : {A B : Type 0} (f : A → B) (P : B → Type 0) (xs : List A) → AllByRecursion (λ x. P (f x)) xs → AllByRecursion P (map f xs)
all_mapped f P [] h = tt
all_mapped f P (x ∷ xs) h = (h.0, all_mapped f P xs h.1)

abbrev pub heading_of_variant : Variant → ℕ × Option NormalType
heading_of_variant v = (v.datatype, v.arg)

pub sofar_opens : (z y : Sofar) → IsSofar z → Extends z y → Opens z.place.datatypes (declared_so_far z) (declared_so_far y)
sofar_opens z y s x = record {
  variants = begins_map heading_of_variant z.variants y.variants x.variants;
  below = all_mapped heading_of_variant (λ v. v.0 < z.place.datatypes) z.variants s.below;
  apart = all_mapped heading_of_variant (λ v. z.place.datatypes ≤ v.0) x.variants.more x.apart;
  cookies = begins_map (λ c. c.1) z.cookies y.cookies x.cookies;
  vals = x.vals;
  functions = begins_map (λ f. f.head) z.functions y.functions x.functions;
  sequences = begins_length z.sequences y.sequences x.sequences;
}

pub opens_vals : (k n : ℕ) (d e : Heads) → Opens k d e → length d.vals ≤ n → Opens k d (with_vals n e)
opens_vals k n d e o l = record { variants = o.variants; below = o.below; apart = o.apart; cookies = o.cookies; vals = begins_cut n d.vals e.vals l o.vals; functions = o.functions; sequences = o.sequences }

-- what is declared before a place, and what is declared behind it
pub agree_up : (g : Globals) (z y : Sofar) → IsSofar z → Extends z y → Agree g (declared_so_far z) (declared_so_far y)
agree_up g z y s x = opens_agree g z.place.datatypes (declared_so_far z) (declared_so_far y) (sofar_opens z y s x)

-- ---- what is declared before a place, and all that is declared

abbrev begins_along : {A : Type 0} (xs ys zs : List A) → ys ≡ zs → Begins xs zs → Begins xs ys
begins_along xs ys zs e b = record { more = b.more; are = e ∙ b.are }

heads_made : (fs : List Function) → map head_of fs ≡ map (λ h. h.head) (map function_head fs)
heads_made [] = refl
heads_made (f ∷ fs) = ap (λ z. head_of f ∷ z) (heads_made fs)

pub made_opens : {names : List (List ℕ)} {behind : Checked} {entries : List ℕ} {app : Typed} → IsMadeOf names behind entries app → (z : Sofar) → IsSofar z → Extends z behind.0 → Opens z.place.datatypes (declared_so_far z) (bare app)
made_opens {behind = behind} {app = app} m z s x =
    let o : Opens z.place.datatypes (declared_so_far z) (declared_so_far behind.0) = sofar_opens z behind.0 s x in record {
      variants = begins_along (map heading_of_variant z.variants) (map heading_of_variant app.variants) (map heading_of_variant behind.0.variants) (ap (map heading_of_variant) m.variants) o.variants;
      below = o.below;
      apart = o.apart;
      cookies = begins_along (map (λ c. c.1) z.cookies) (map (λ c. c.1) app.cookies) (map (λ c. c.1) behind.0.cookies) (ap (map (λ c. c.1)) m.cookies) o.cookies;
      vals = begins_along z.vals (map (λ v. v.of) app.vals) behind.0.vals m.val_types o.vals;
      functions = begins_along (map (λ f. f.head) z.functions) (map head_of app.functions) (map (λ f. f.head) behind.0.functions) (heads_made app.functions ∙ ap (map (λ f. f.head)) m.heads) o.functions;
      sequences = subst (λ q. length z.sequences ≤ length q) (sym m.sequences) o.sequences;
    }

pub agree_all_up : {names : List (List ℕ)} {behind : Checked} {entries : List ℕ} {app : Typed} (g : Globals) → IsMadeOf names behind entries app → (z : Sofar) → IsSofar z → Extends z behind.0 → Agree g (declared_so_far z) (bare app)
agree_all_up {app = app} g m z s x = opens_agree g z.place.datatypes (declared_so_far z) (bare app) (made_opens m z s x)

-- the same with some of the `val`s alone, those before the place among them
pub agree_vals_up : {names : List (List ℕ)} {behind : Checked} {entries : List ℕ} {app : Typed} (g : Globals) → IsMadeOf names behind entries app → (z : Sofar) → IsSofar z → Extends z behind.0 → (n : ℕ) → z.place.vals ≤ n → Agree g (declared_so_far z) (with_vals n (bare app))
agree_vals_up {app = app} g m z s x n l =
    opens_agree g z.place.datatypes (declared_so_far z) (with_vals n (bare app)) (opens_vals z.place.datatypes n (declared_so_far z) (bare app) (made_opens m z s x) (subst (λ i. i ≤ n) (sym s.vals) l))

-- ---- the walk of what stands behind a place

widened : (most : ℕ) (ff : List (List ℕ)) (z : Sofar) (e : Heads) → Agree z.place.globals (declared_so_far z) e → z.place.fields ≡ ff → (x : ExpForm) (s : Scope) (st : Sites) (m : Mode) (o : Out) → typed (world_behind most z) x s st m ≡ Some o → typed (world ff e most z.place) x s st m ≡ Some o
widened most ff z e a i x s st m o h = (walk_is_led z.place.globals ff most (declared_so_far z) e a x s st m).on o (subst (λ names. typed (a_world z.place.globals names most (declared_so_far z)) x s st m ≡ Some o) i h)

-- what is typed behind a place is typed so where all is declared
pub widened_all : {names : List (List ℕ)} {behind : Checked} {entries : List ℕ} {app : Typed} → IsMadeOf names behind entries app → (most : ℕ) (z : Sofar) → IsSofar z → Extends z behind.0 → z.place.fields ≡ app.names →
    (x : ExpForm) (s : Scope) (st : Sites) (m : Mode) (o : Out) → typed (world_behind most z) x s st m ≡ Some o → typed (world app.names (bare app) most z.place) x s st m ≡ Some o
widened_all {app = app} r most z k y i x s st m o h = widened most app.names z (bare app) (agree_all_up z.place.globals r z k y) i x s st m o h

-- the same with some of the `val`s alone, those before the place among them
pub widened_vals : {names : List (List ℕ)} {behind : Checked} {entries : List ℕ} {app : Typed} → IsMadeOf names behind entries app → (most : ℕ) (z : Sofar) → IsSofar z → Extends z behind.0 → z.place.fields ≡ app.names → (n : ℕ) → z.place.vals ≤ n →
    (x : ExpForm) (s : Scope) (st : Sites) (m : Mode) (o : Out) → typed (world_behind most z) x s st m ≡ Some o → typed (world app.names (with_vals n (bare app)) most z.place) x s st m ≡ Some o
widened_vals {app = app} r most z k y i n l x s st m o h = widened most app.names z (with_vals n (bare app)) (agree_vals_up z.place.globals r z k y n l) i x s st m o h
