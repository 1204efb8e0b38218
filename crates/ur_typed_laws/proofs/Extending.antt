-- What is declared behind some declarations begins with what is declared before them, and each constructor more is of a later datatype.
use Rattle.std.proofs.Common.{arith, ◌≡◌, ◌∙◌, refl, sym, ap, subst, Option, Some, None, List, [], ◌∷◌, ◌++◌, ℕ, suc, ◌+◌, ◌<◌, ◌≤◌, length}
use Rattle.std.specs.Prelude.{option_map, option_and_then}
use Rattle.std.specs.List.{AllByRecursion}
use Rattle.std.proofs.lemmas.List.{append-nil, append_assoc, length-append}
use Rattle.ur_syntax.specs.declared.con.Con.{Con}
use Rattle.ur_syntax.specs.declared.kind.Kind.{Kind}
use Rattle.ur_syntax.specs.declared.kind.Kind.TheVariants as kind
use Rattle.ur_syntax.specs.declared.decl.Variant.{Variant as WrittenVariant}
use Rattle.ur_syntax.specs.declared.decl.Constraint.{Constraint}
use Rattle.ur_syntax.specs.declared.decl.FunDef.{FunDef}
use Rattle.ur_syntax.specs.declared.decl.Decl.{Decl}
use Rattle.ur_syntax.specs.declared.decl.DeclForm.{DeclForm}
use Rattle.ur_syntax.specs.declared.decl.DeclForm.TheVariants as decl
use Rattle.ur_syntax.specs.declared.decl.Module.{Module}
use Rattle.ur_rows.specs.declared.normal.NormalType.{NormalType}
use Rattle.ur_rows.specs.Normal.{nf}
use Rattle.ur_sqltype.specs.Table.{type_kind}
use Rattle.ur_tree.specs.declared.typed.Variant.{Variant}
use Rattle.ur_typed_rules.specs.Rules.{small_type}
use Rattle.ur_typed_rules.proofs.Options.{some_of, opened, opened_if, mapped}
use Rattle.ur_typed.specs.Project.{env_at, names_at, written_keys, enter}
use Rattle.ur_typed.specs.Typed.{nothing_declared}
use Rattle.ur_typed.specs.Declaring.{Sofar, with_defined, may_be_defined, defined_out, argument_out, with_constructor, variant_out, variants_out, with_datatype, shape_out, full_name, with_shape, table_out, with_named_sequence, with_named_cookie, cookie_out, Heading, heading_out, with_head, headings_out, val_type_out, with_val_of, decl_out, Bodies, bodies_out, Checked, nothing_yet, decls_out, entered, modules_out}

-- ---- beginnings of lists

pub record Begins {A : Type 0} (xs ys : List A) : Type 0 where
  pub more : List A
  pub are : ys ≡ xs ++ more

abbrev pub begins_self : {A : Type 0} (xs : List A) → Begins xs xs
begins_self xs = record { more = []; are = sym (append-nil xs) }

abbrev pub begins_more : {A : Type 0} (xs ys : List A) (y : A) → Begins xs ys → Begins xs (ys ++ y ∷ [])
begins_more xs ys y b = record { more = b.more ++ y ∷ []; are = ap (λ z. z ++ y ∷ []) b.are ∙ append_assoc xs b.more (y ∷ []) }

abbrev pub begins_on : {A : Type 0} (xs ys zs : List A) → Begins xs ys → Begins ys zs → Begins xs zs
begins_on xs ys zs b c = record { more = b.more ++ c.more; are = c.are ∙ (ap (λ z. z ++ c.more) b.are ∙ append_assoc xs b.more c.more) }

all_both : {A : Type 0} (P : A → Type 0) (xs ys : List A) → AllByRecursion P xs → AllByRecursion P ys → AllByRecursion P (xs ++ ys)
all_both P [] ys h k = k
all_both P (x ∷ xs) ys h k = (h.0, all_both P xs ys h.1 k)

all_weaker : {A : Type 0} (P Q : A → Type 0) (xs : List A) → ((x : A) → P x → Q x) → AllByRecursion P xs → AllByRecursion Q xs
all_weaker P Q [] f h = tt
all_weaker P Q (x ∷ xs) f h = (f x h.0, all_weaker P Q xs f h.1)

one_longer : {A : Type 0} (xs : List A) (x : A) (n : ℕ) → length xs ≡ n → length (xs ++ x ∷ []) ≡ n + 1
one_longer xs x n h = length-append xs (x ∷ []) ∙ ap (λ k. k + 1) h

own_longer : {A : Type 0} (xs : List A) (x : A) (n : ℕ) → length xs ≡ n → length (xs ++ x ∷ []) ≡ suc n
own_longer xs x n h = let i : length (xs ++ x ∷ []) ≡ n + 1 = one_longer xs x n h in omega (arith, i)

-- ---- the lists are as long as the place says

abbrev pub IsBelow : ℕ → Variant → Type 0
IsBelow k v = v.datatype < k

abbrev pub IsFrom : ℕ → Variant → Type 0
IsFrom k v = k ≤ v.datatype

-- The place counts what is listed, and each constructor is of a datatype that it counts.
pub record IsSofar (z : Sofar) : Type 0 where
  pub datatypes : length z.datatypes ≡ z.place.datatypes
  pub variants : length z.variants ≡ z.place.variants
  pub vals : length z.vals ≡ z.place.vals
  pub functions : length z.functions ≡ z.place.functions
  pub cookies : length z.cookies ≡ length z.place.globals.cookies
  pub sequences : length z.sequences ≡ length z.place.globals.sequences
  pub below : AllByRecursion (IsBelow z.place.datatypes) z.variants

pub nothing_is_sofar : (fields : List (List ℕ)) → IsSofar (nothing_yet (nothing_declared fields)).0
nothing_is_sofar fields = record { datatypes = refl; variants = refl; vals = refl; functions = refl; cookies = refl; sequences = refl; below = tt }

pub enter_is_sofar : (m : List ℕ) (z : Sofar) → IsSofar z → IsSofar (record z { place = enter m z.place })
enter_is_sofar m z s = record { datatypes = s.datatypes; variants = s.variants; vals = s.vals; functions = s.functions; cookies = s.cookies; sequences = s.sequences; below = s.below }

defined_is_sofar : (most : ℕ) (x : List ℕ) (k : Kind) (c : Con) (w q : Sofar) → defined_out most x k c w ≡ Some q → IsSofar w → IsSofar q
defined_is_sofar most x k c w q h s =
    let e = opened_if (may_be_defined most w c) (Some (with_defined x k c w)) q h in
    subst IsSofar (some_of e.1) (record { datatypes = s.datatypes; variants = s.variants; vals = s.vals; functions = s.functions; cookies = s.cookies; sequences = s.sequences; below = s.below })

constructor_is_sofar : (k : ℕ) (x : List ℕ) (a : Option NormalType) (w : Sofar) → k < w.place.datatypes → IsSofar w → IsSofar (with_constructor k x a w)
constructor_is_sofar k x a w l s = record {
  datatypes = s.datatypes;
  variants = one_longer w.variants (record { datatype = k; name = x; arg = a }) w.place.variants s.variants;
  vals = s.vals;
  functions = s.functions;
  cookies = s.cookies;
  sequences = s.sequences;
  below = all_both (IsBelow w.place.datatypes) w.variants (record { datatype = k; name = x; arg = a } ∷ []) s.below (l, tt);
}

-- what a constructor gives is what was before it with that constructor
pub variant_given : (most k : ℕ) (x : List ℕ) (o : Option Con) (w q : Sofar) → variant_out most k x o w ≡ Some q → (a : Option NormalType) × (with_constructor k x a w ≡ q)
variant_given most k x None w q h = (None, some_of h)
variant_given most k x (Some c) w q h = let e = mapped (λ t. with_constructor k x (Some t) w) (argument_out most w c) q h in (Some e.0, e.2)

variants_are_sofar : (most k : ℕ) (vs : List WrittenVariant) (w q : Sofar) → variants_out most k vs w ≡ Some q → k < w.place.datatypes → IsSofar w → IsSofar q
variants_are_sofar most k [] w q h l s = subst IsSofar (some_of h) s
variants_are_sofar most k (v ∷ vs) w q h l s =
    let e = opened (variants_out most k vs) (variant_out most k v.name v.con w) q h in
    let g = variant_given most k v.name v.con w e.0 e.1 in
    variants_are_sofar most k vs e.0 q e.2 (subst (λ z. k < z.place.datatypes) g.1 l) (subst IsSofar g.1 (constructor_is_sofar k v.name g.0 w l s))

one_more : (k : ℕ) (v : Variant) → IsBelow k v → IsBelow (k + 1) v
one_more k v h = omega (arith, h)

last : (n : ℕ) → n < n + 1
last n = omega arith

datatype_is_sofar : (home : ℕ) (x : List ℕ) (w : Sofar) → IsSofar w → IsSofar (with_datatype home x w)
datatype_is_sofar home x w s = record {
  datatypes = one_longer w.datatypes (record { «module» = home; name = x }) w.place.datatypes s.datatypes;
  variants = s.variants;
  vals = s.vals;
  functions = s.functions;
  cookies = s.cookies;
  sequences = s.sequences;
  below = all_weaker (IsBelow w.place.datatypes) (IsBelow (w.place.datatypes + 1)) w.variants (one_more w.place.datatypes) s.below;
}

table_is_sofar : (most : ℕ) (x : List ℕ) (c : Con) (primary : Option (List (List ℕ))) (cs : List Constraint) (w q : Sofar) → table_out most x c primary cs w ≡ Some q → IsSofar w → IsSofar q
table_is_sofar most x c primary cs w q h s =
    let e = mapped (with_shape w) (option_and_then (shape_out (full_name w x) (written_keys primary cs)) (small_type most (nf (env_at w.place) c))) q h in
    subst IsSofar e.2 (record { datatypes = s.datatypes; variants = s.variants; vals = s.vals; functions = s.functions; cookies = s.cookies; sequences = s.sequences; below = s.below })

cookie_is_sofar : (most : ℕ) (x : List ℕ) (c : Con) (w q : Sofar) → cookie_out most x c w ≡ Some q → IsSofar w → IsSofar q
cookie_is_sofar most x c w q h s =
    let e = mapped (with_named_cookie x w) (option_and_then type_kind (small_type most (nf (env_at w.place) c))) q h in subst IsSofar e.2 (record {
      datatypes = s.datatypes;
      variants = s.variants;
      vals = s.vals;
      functions = s.functions;
      cookies = own_longer w.cookies (full_name w x, e.0) (length w.place.globals.cookies) s.cookies;
      sequences = s.sequences;
      below = s.below;
    })

sequence_is_sofar : (x : List ℕ) (w : Sofar) → IsSofar w → IsSofar (with_named_sequence x w)
sequence_is_sofar x w s = record {
  datatypes = s.datatypes;
  variants = s.variants;
  vals = s.vals;
  functions = s.functions;
  cookies = s.cookies;
  sequences = own_longer w.sequences (full_name w x) (length w.place.globals.sequences) s.sequences;
  below = s.below;
}

val_is_sofar : (most : ℕ) (x : List ℕ) (c : Con) (w q : Sofar) → option_map (with_val_of x w) (val_type_out most c w) ≡ Some q → IsSofar w → IsSofar q
val_is_sofar most x c w q h s =
    let e = mapped (with_val_of x w) (val_type_out most c w) q h in
    subst IsSofar e.2 (record { datatypes = s.datatypes; variants = s.variants; vals = one_longer w.vals e.0 w.place.vals s.vals; functions = s.functions; cookies = s.cookies; sequences = s.sequences; below = s.below })

head_is_sofar : (home : ℕ) (f : FunDef) (w : Sofar) (h : Heading) → IsSofar w → IsSofar (with_head home f w h)
head_is_sofar home f w h s = record {
  datatypes = s.datatypes;
  variants = s.variants;
  vals = s.vals;
  functions = one_longer w.functions (record { «module» = home; name = f.name; head = h.head }) w.place.functions s.functions;
  cookies = s.cookies;
  sequences = s.sequences;
  below = s.below;
}

headings_are_sofar : (most home : ℕ) (fs : List FunDef) (w q : Sofar) → headings_out most home fs w ≡ Some q → IsSofar w → IsSofar q
headings_are_sofar most home [] w q h s = subst IsSofar (some_of h) s
headings_are_sofar most home (f ∷ fs) w q h s =
    let e = opened (λ z. headings_out most home fs (with_head home f w z)) (heading_out most (names_at w.place) f) q h in headings_are_sofar most home fs (with_head home f w e.0) q e.2 (head_is_sofar home f w e.0 s)

pub decl_is_sofar : (most home : ℕ) (d : DeclForm) (w q : Sofar) → decl_out most home d w ≡ Some q → IsSofar w → IsSofar q
decl_is_sofar most home (decl.Con x k c) w q h s = defined_is_sofar most x k c w q h s
decl_is_sofar most home (decl.Type x c) w q h s = defined_is_sofar most x kind.Star c w q h s
decl_is_sofar most home (decl.Datatype x vs) w q h s = variants_are_sofar most w.place.datatypes vs (with_datatype home x w) q h (last w.place.datatypes) (datatype_is_sofar home x w s)
decl_is_sofar most home (decl.Table x c primary cs) w q h s = table_is_sofar most x c primary cs w q h s
decl_is_sofar most home (decl.Sequence x) w q h s = subst IsSofar (some_of h) (sequence_is_sofar x w s)
decl_is_sofar most home (decl.Cookie x c) w q h s = cookie_is_sofar most x c w q h s
decl_is_sofar most home (decl.Val x c e) w q h s = val_is_sofar most x c w q h s
decl_is_sofar most home (decl.Fun fs) w q h s = headings_are_sofar most home fs w q h s

-- a declaration with its bodies, and the further ones
pub decls_given : (most home : ℕ) (d : Decl) (ds : List Decl) (p q : Checked) → decls_out most home (d ∷ ds) p ≡ Some q →
    (after : Sofar) × (decl_out most home d.form p.0 ≡ Some after) × ((b : Bodies) × (bodies_out most d.form p.0 after p.1 ≡ Some b) × (decls_out most home ds (after, b) ≡ Some q))
decls_given most home d ds p q h =
    let e = opened (λ after. option_and_then (λ b. decls_out most home ds (after, b)) (bodies_out most d.form p.0 after p.1)) (decl_out most home d.form p.0) q h in
    (e.0, e.1, opened (λ b. decls_out most home ds (e.0, b)) (bodies_out most d.form p.0 e.0 p.1) q e.2)

pub decls_are_sofar : (most home : ℕ) (ds : List Decl) (p q : Checked) → decls_out most home ds p ≡ Some q → IsSofar p.0 → IsSofar q.0
decls_are_sofar most home [] p q h s = subst (λ z. IsSofar z.0) (some_of h) s
decls_are_sofar most home (d ∷ ds) p q h s = let e = decls_given most home d ds p q h in decls_are_sofar most home ds (e.0, e.2.0) q e.2.2 (decl_is_sofar most home d.form p.0 e.0 e.1 s)

pub modules_are_sofar : (most n : ℕ) (names : List (List ℕ)) (modules : List Module) (p q : Checked) → modules_out most n names modules p ≡ Some q → IsSofar p.0 → IsSofar q.0
modules_are_sofar most n [] modules p q h s = subst (λ z. IsSofar z.0) (some_of h) s
modules_are_sofar most n (m ∷ names) [] p q h s = subst (λ z. IsSofar z.0) (some_of h) s
modules_are_sofar most n (m ∷ names) (x ∷ modules) p q h s =
    let e = opened (modules_out most (n + 1) names modules) (decls_out most n x.decls (entered m p)) q h in modules_are_sofar most (n + 1) names modules e.0 q e.2 (decls_are_sofar most n x.decls (entered m p) e.0 e.1 (enter_is_sofar m p.0 s))

-- ---- what is declared later

-- All lists of `z` begin those of `y`, and each constructor more is of a datatype that the place of `z` does not count.
pub record Extends (z y : Sofar) : Type 0 where
  pub datatypes : Begins z.datatypes y.datatypes
  pub variants : Begins z.variants y.variants
  pub vals : Begins z.vals y.vals
  pub functions : Begins z.functions y.functions
  pub cookies : Begins z.cookies y.cookies
  pub sequences : Begins z.sequences y.sequences
  pub apart : AllByRecursion (IsFrom z.place.datatypes) variants.more
  pub count : z.place.datatypes ≤ y.place.datatypes

not_more : (n : ℕ) → n ≤ n
not_more n = omega arith

pub extends_self : (z : Sofar) → Extends z z
extends_self z = record {
  datatypes = begins_self z.datatypes;
  variants = begins_self z.variants;
  vals = begins_self z.vals;
  functions = begins_self z.functions;
  cookies = begins_self z.cookies;
  sequences = begins_self z.sequences;
  apart = tt;
  count = not_more z.place.datatypes;
}

later : (k n : ℕ) → k ≤ n → (v : Variant) → IsFrom n v → IsFrom k v
later k n l v h = omega (arith, l, h)

both_less : (k n m : ℕ) → k ≤ n → n ≤ m → k ≤ m
both_less k n m h l = omega (arith, h, l)

pub extends_on : (z w y : Sofar) → Extends z w → Extends w y → Extends z y
extends_on z w y a b = record {
  datatypes = begins_on z.datatypes w.datatypes y.datatypes a.datatypes b.datatypes;
  variants = begins_on z.variants w.variants y.variants a.variants b.variants;
  vals = begins_on z.vals w.vals y.vals a.vals b.vals;
  functions = begins_on z.functions w.functions y.functions a.functions b.functions;
  cookies = begins_on z.cookies w.cookies y.cookies a.cookies b.cookies;
  sequences = begins_on z.sequences w.sequences y.sequences a.sequences b.sequences;
  apart = all_both (IsFrom z.place.datatypes) a.variants.more b.variants.more a.apart
      (all_weaker (IsFrom w.place.datatypes) (IsFrom z.place.datatypes) b.variants.more (later z.place.datatypes w.place.datatypes a.count) b.apart);
  count = both_less z.place.datatypes w.place.datatypes y.place.datatypes a.count b.count;
}

pub extends_entered : (m : List ℕ) (z w : Sofar) → Extends z w → Extends z (record w { place = enter m w.place })
extends_entered m z w x = record { datatypes = x.datatypes; variants = x.variants; vals = x.vals; functions = x.functions; cookies = x.cookies; sequences = x.sequences; apart = x.apart; count = x.count }

defined_extends : (most : ℕ) (x : List ℕ) (k : Kind) (c : Con) (z w q : Sofar) → defined_out most x k c w ≡ Some q → Extends z w → Extends z q
defined_extends most x k c z w q h s =
    let e = opened_if (may_be_defined most w c) (Some (with_defined x k c w)) q h in
    subst (Extends z) (some_of e.1) (record { datatypes = s.datatypes; variants = s.variants; vals = s.vals; functions = s.functions; cookies = s.cookies; sequences = s.sequences; apart = s.apart; count = s.count })

constructor_extends : (k : ℕ) (x : List ℕ) (a : Option NormalType) (z w : Sofar) → z.place.datatypes ≤ k → Extends z w → Extends z (with_constructor k x a w)
constructor_extends k x a z w l s = record {
  datatypes = s.datatypes;
  variants = begins_more z.variants w.variants (record { datatype = k; name = x; arg = a }) s.variants;
  vals = s.vals;
  functions = s.functions;
  cookies = s.cookies;
  sequences = s.sequences;
  apart = all_both (IsFrom z.place.datatypes) s.variants.more (record { datatype = k; name = x; arg = a } ∷ []) s.apart (l, tt);
  count = s.count;
}

variants_extend : (most k : ℕ) (vs : List WrittenVariant) (z w q : Sofar) → variants_out most k vs w ≡ Some q → z.place.datatypes ≤ k → Extends z w → Extends z q
variants_extend most k [] z w q h l s = subst (Extends z) (some_of h) s
variants_extend most k (v ∷ vs) z w q h l s =
    let e = opened (variants_out most k vs) (variant_out most k v.name v.con w) q h in
    let g = variant_given most k v.name v.con w e.0 e.1 in
    variants_extend most k vs z e.0 q e.2 l (subst (Extends z) g.1 (constructor_extends k v.name g.0 z w l s))

further : (k n : ℕ) → k ≤ n → k ≤ n + 1
further k n h = omega (arith, h)

datatype_extends : (home : ℕ) (x : List ℕ) (z w : Sofar) → Extends z w → Extends z (with_datatype home x w)
datatype_extends home x z w s = record {
  datatypes = begins_more z.datatypes w.datatypes (record { «module» = home; name = x }) s.datatypes;
  variants = s.variants;
  vals = s.vals;
  functions = s.functions;
  cookies = s.cookies;
  sequences = s.sequences;
  apart = s.apart;
  count = further z.place.datatypes w.place.datatypes s.count;
}

table_extends : (most : ℕ) (x : List ℕ) (c : Con) (primary : Option (List (List ℕ))) (cs : List Constraint) (z w q : Sofar) → table_out most x c primary cs w ≡ Some q → Extends z w → Extends z q
table_extends most x c primary cs z w q h s =
    let e = mapped (with_shape w) (option_and_then (shape_out (full_name w x) (written_keys primary cs)) (small_type most (nf (env_at w.place) c))) q h in
    subst (Extends z) e.2 (record { datatypes = s.datatypes; variants = s.variants; vals = s.vals; functions = s.functions; cookies = s.cookies; sequences = s.sequences; apart = s.apart; count = s.count })

cookie_extends : (most : ℕ) (x : List ℕ) (c : Con) (z w q : Sofar) → cookie_out most x c w ≡ Some q → Extends z w → Extends z q
cookie_extends most x c z w q h s =
    let e = mapped (with_named_cookie x w) (option_and_then type_kind (small_type most (nf (env_at w.place) c))) q h in subst (Extends z) e.2 (record {
      datatypes = s.datatypes;
      variants = s.variants;
      vals = s.vals;
      functions = s.functions;
      cookies = begins_more z.cookies w.cookies (full_name w x, e.0) s.cookies;
      sequences = s.sequences;
      apart = s.apart;
      count = s.count;
    })

sequence_extends : (x : List ℕ) (z w : Sofar) → Extends z w → Extends z (with_named_sequence x w)
sequence_extends x z w s = record {
  datatypes = s.datatypes;
  variants = s.variants;
  vals = s.vals;
  functions = s.functions;
  cookies = s.cookies;
  sequences = begins_more z.sequences w.sequences (full_name w x) s.sequences;
  apart = s.apart;
  count = s.count;
}

val_extends : (most : ℕ) (x : List ℕ) (c : Con) (z w q : Sofar) → option_map (with_val_of x w) (val_type_out most c w) ≡ Some q → Extends z w → Extends z q
val_extends most x c z w q h s =
    let e = mapped (with_val_of x w) (val_type_out most c w) q h in
    subst (Extends z) e.2 (record { datatypes = s.datatypes; variants = s.variants; vals = begins_more z.vals w.vals e.0 s.vals; functions = s.functions; cookies = s.cookies; sequences = s.sequences; apart = s.apart; count = s.count })

head_extends : (home : ℕ) (f : FunDef) (z w : Sofar) (h : Heading) → Extends z w → Extends z (with_head home f w h)
head_extends home f z w h s = record {
  datatypes = s.datatypes;
  variants = s.variants;
  vals = s.vals;
  functions = begins_more z.functions w.functions (record { «module» = home; name = f.name; head = h.head }) s.functions;
  cookies = s.cookies;
  sequences = s.sequences;
  apart = s.apart;
  count = s.count;
}

pub headings_extend : (most home : ℕ) (fs : List FunDef) (z w q : Sofar) → headings_out most home fs w ≡ Some q → Extends z w → Extends z q
headings_extend most home [] z w q h s = subst (Extends z) (some_of h) s
headings_extend most home (f ∷ fs) z w q h s =
    let e = opened (λ i. headings_out most home fs (with_head home f w i)) (heading_out most (names_at w.place) f) q h in headings_extend most home fs z (with_head home f w e.0) q e.2 (head_extends home f z w e.0 s)

pub decl_extends : (most home : ℕ) (d : DeclForm) (z w q : Sofar) → decl_out most home d w ≡ Some q → Extends z w → Extends z q
decl_extends most home (decl.Con x k c) z w q h s = defined_extends most x k c z w q h s
decl_extends most home (decl.Type x c) z w q h s = defined_extends most x kind.Star c z w q h s
decl_extends most home (decl.Datatype x vs) z w q h s = variants_extend most w.place.datatypes vs z (with_datatype home x w) q h s.count (datatype_extends home x z w s)
decl_extends most home (decl.Table x c primary cs) z w q h s = table_extends most x c primary cs z w q h s
decl_extends most home (decl.Sequence x) z w q h s = subst (Extends z) (some_of h) (sequence_extends x z w s)
decl_extends most home (decl.Cookie x c) z w q h s = cookie_extends most x c z w q h s
decl_extends most home (decl.Val x c e) z w q h s = val_extends most x c z w q h s
decl_extends most home (decl.Fun fs) z w q h s = headings_extend most home fs z w q h s

pub decls_extend : (most home : ℕ) (ds : List Decl) (z : Sofar) (p q : Checked) → decls_out most home ds p ≡ Some q → Extends z p.0 → Extends z q.0
decls_extend most home [] z p q h s = subst (λ i. Extends z i.0) (some_of h) s
decls_extend most home (d ∷ ds) z p q h s = let e = decls_given most home d ds p q h in decls_extend most home ds z (e.0, e.2.0) q e.2.2 (decl_extends most home d.form z p.0 e.0 e.1 s)

pub modules_extend : (most n : ℕ) (names : List (List ℕ)) (modules : List Module) (z : Sofar) (p q : Checked) → modules_out most n names modules p ≡ Some q → Extends z p.0 → Extends z q.0
modules_extend most n [] modules z p q h s = subst (λ i. Extends z i.0) (some_of h) s
modules_extend most n (m ∷ names) [] z p q h s = subst (λ i. Extends z i.0) (some_of h) s
modules_extend most n (m ∷ names) (x ∷ modules) z p q h s =
    let e = opened (modules_out most (n + 1) names modules) (decls_out most n x.decls (entered m p)) q h in
    modules_extend most (n + 1) names modules z e.0 q e.2 (decls_extend most n x.decls z (entered m p) e.0 e.1 (extends_entered m z p.0 s))
