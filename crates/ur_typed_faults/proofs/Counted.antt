-- Each name that is declared so far stands for something that is declared.
use Rattle.std.proofs.Common.{arith, inl, inr, ◌≡◌, ◌∙◌, refl, sym, ap, true, Option, Some, None, List, [], ◌∷◌, ◌++◌, ℕ, ◌+◌, length}
use Rattle.std.specs.Prelude.{◌<◌, nat_lt, slice_get, option_map, bytes_eq}
use Rattle.std.proofs.lemmas.Bool.Decides.{nat_tests}
use Rattle.std.proofs.lemmas.List.{length-append}
use Rattle.std.proofs.lemmas.Option.{slice_get-map, slice_get_within}
use Rattle.ur_syntax.specs.Names.{same_con, member, looked_up, or_own, seen_by, seen}
use Rattle.ur_syntax.specs.declared.con.Con.{Con}
use Rattle.ur_syntax.specs.declared.con.ConName.{ConName}
use Rattle.ur_syntax.specs.declared.kind.Kind.{Kind}
use Rattle.ur_syntax.specs.declared.decl.FunDef.{FunDef}
use Rattle.ur_values.specs.declared.schema.ColumnKind.{ColumnKind}
use Rattle.ur_values.specs.declared.schema.TableShape.{TableShape}
use Rattle.ur_rows.specs.declared.normal.NormalType.{NormalType}
use Rattle.ur_tree.specs.declared.typed.Variant.{Variant}
use Rattle.ur_disjoint.proofs.Members.{In}
use Rattle.ur_typed_rules.specs.Names.{function, val}
use Rattle.ur_typed.specs.Project.{at, enter}
use Rattle.ur_typed.specs.Typed.{nothing_declared}
use Rattle.ur_typed.specs.Declaring.{FunctionHead, Sofar, Heading, world_behind, full_name, with_head, with_val_of, with_constructor, with_datatype, with_shape, with_named_sequence, with_named_cookie, with_defined, nothing_yet}
use Rattle.ur_typed_rules.proofs.Options.{some_of, some_none}
use Rattle.ur_typed_rules.proofs.Repeats.{by-if}
use Rattle.ur_typed_faults.specs.Converse.{IsWorld}
use Rattle.ur_typed.proofs.Shapes.{front_get}

-- ---- what is looked up stands in the list

pub looked_in : {A : Type 0} (x : ConName) (names : List (ConName × A)) (a : A) → looked_up x names ≡ Some a → (c : ConName) × In (c, a) names
looked_in x [] a h = absurd (some_none (sym h))
looked_in {A} x ((c, b) ∷ names) a h = by-if (same_con x c) (Some b) (looked_up x names) (Some a) ((d : ConName) × In (d, a) ((c, b) ∷ names)) h
    (λ k i. (c, inl (ap (λ (z : A). (c, z)) (some_of i)))) (λ k i. let r : (d : ConName) × In (d, a) names = looked_in x names a i in (r.0, inr r.1))

own_in : {A : Type 0} (m : List ℕ) (x : ConName) (names : List (ConName × A)) (a : A) (o : Option A) → looked_up x names ≡ o → or_own m x names o ≡ Some a → (c : ConName) × In (c, a) names
own_in m x names a (Some b) e h = looked_in x names a (e ∙ h)
own_in m x names a None e h = looked_in (member m x.name) names a h

seen_by_in : {A : Type 0} (home : Option (List ℕ)) (m : List ℕ) (x : ConName) (names : List (ConName × A)) (a : A) → seen_by home m x names ≡ Some a → (c : ConName) × In (c, a) names
seen_by_in None m x names a h = own_in m x names a (looked_up x names) refl h
seen_by_in {A} (Some n) m x names a h = by-if (bytes_eq n m) None (looked_up x names) (Some a) ((c : ConName) × In (c, a) names) h (λ k i. absurd (some_none (sym i))) (λ k i. looked_in x names a i)

seen_in : {A : Type 0} (m : List ℕ) (x : ConName) (names : List (ConName × A)) (a : A) → seen m x names ≡ Some a → (c : ConName) × In (c, a) names
seen_in m x names a h = seen_by_in x.home m x names a h

-- ---- lists that grow at their end

end_get : {A : Type 0} (xs : List A) (a : A) → slice_get (xs ++ a ∷ []) (length xs) ≡ Some a
end_get [] a = refl
end_get (x ∷ xs) a = end_get xs a

new_there : {A : Type 0} (xs : List A) (a : A) (n g : ℕ) → n ≡ length xs → n ≡ g → (b : A) × (slice_get (xs ++ a ∷ []) g ≡ Some b)
new_there xs a n g c e = (a, ap (slice_get (xs ++ a ∷ [])) (sym e ∙ c) ∙ end_get xs a)

old_there : {A : Type 0} (xs : List A) (a : A) (g : ℕ) → (b : A) × (slice_get xs g ≡ Some b) → (b : A) × (slice_get (xs ++ a ∷ []) g ≡ Some b)
old_there xs a g r = (r.0, front_get xs (a ∷ []) g r.0 r.1)

one_more : {A : Type 0} (xs : List A) (a : A) (n : ℕ) → n ≡ length xs → n + 1 ≡ length (xs ++ a ∷ [])
one_more xs a n c = ap (λ z. z + 1) c ∙ sym (length-append xs (a ∷ []))

both_more : {A B : Type 0} (x : A) (xs : List A) (ys : List B) (b : B) → length xs ≡ length ys → length (x ∷ xs) ≡ length (ys ++ b ∷ [])
both_more x xs ys b c = let n : length (x ∷ xs) ≡ length xs + 1 = omega arith in n ∙ one_more ys b (length xs) c

got_below : {A : Type 0} (xs : List A) (n : ℕ) (x : A) → slice_get xs n ≡ Some x → nat_lt n (length xs) ≡ true
got_below xs n x h = let b : n < length xs = slice_get_within xs n x h in grind (arith, nat_tests, b)

-- ---- what is declared so far

-- the counts are those of what is declared, and each name stands for something that is
pub record IsCounted (z : Sofar) : Type 0 where
  pub functions : z.place.functions ≡ length z.functions
  pub vals : z.place.vals ≡ length z.vals
  pub variants : z.place.variants ≡ length z.variants
  pub sequences : length z.place.globals.sequences ≡ length z.sequences
  pub cookies : length z.place.globals.cookies ≡ length z.cookies
  pub function_there : (c : ConName) (n : ℕ) → In (c, function n) z.place.globals.values → (h : FunctionHead) × (slice_get z.functions n ≡ Some h)
  pub val_there : (c : ConName) (n : ℕ) → In (c, val n) z.place.globals.values → (t : NormalType) × (slice_get z.vals n ≡ Some t)
  pub variant_there : (c : ConName) (n : ℕ) → In (c, n) z.place.globals.constructors → (v : Variant) × (slice_get z.variants n ≡ Some v)
  pub sequence_there : (c : ConName) (n : ℕ) → In (c, n) z.place.globals.sequences → (x : List ℕ) × (slice_get z.sequences n ≡ Some x)
  pub cookie_there : (c : ConName) (n : ℕ) → In (c, n) z.place.globals.cookies → (k : List ℕ × ColumnKind) × (slice_get z.cookies n ≡ Some k)

pub world_of : (most : ℕ) (z : Sofar) → IsCounted z → IsWorld (world_behind most z)
world_of most z k = record {
  functions = λ x n h.
      let c : (c : ConName) × In (c, function n) z.place.globals.values = seen_in z.place.globals.home x z.place.globals.values (function n) h in
      let f : (f : FunctionHead) × (slice_get z.functions n ≡ Some f) = k.function_there c.0 n c.1 in
      (f.0.head, slice_get-map (λ (f : FunctionHead). f.head) z.functions n ∙ ap (option_map (λ (f : FunctionHead). f.head)) f.1);
  vals = λ x n h. let c : (c : ConName) × In (c, val n) z.place.globals.values = seen_in z.place.globals.home x z.place.globals.values (val n) h in k.val_there c.0 n c.1;
  constructors = λ x n h.
      let c : (c : ConName) × In (c, n) z.place.globals.constructors = seen_in z.place.globals.home x z.place.globals.constructors n h in
      let v : (v : Variant) × (slice_get z.variants n ≡ Some v) = k.variant_there c.0 n c.1 in
      ((v.0.datatype, v.0.arg), slice_get-map (λ (v : Variant). (v.datatype, v.arg)) z.variants n ∙ ap (option_map (λ (v : Variant). (v.datatype, v.arg))) v.1);
  sequences = λ x n h.
      let c : (c : ConName) × In (c, n) z.place.globals.sequences = seen_in z.place.globals.home x z.place.globals.sequences n h in
      let s : (s : List ℕ) × (slice_get z.sequences n ≡ Some s) = k.sequence_there c.0 n c.1 in got_below z.sequences n s.0 s.1;
  cookies = λ x n h.
      let c : (c : ConName) × In (c, n) z.place.globals.cookies = seen_in z.place.globals.home x z.place.globals.cookies n h in
      let v : (v : List ℕ × ColumnKind) × (slice_get z.cookies n ≡ Some v) = k.cookie_there c.0 n c.1 in
      (v.0.1, slice_get-map (λ (c : List ℕ × ColumnKind). c.1) z.cookies n ∙ ap (option_map (λ (c : List ℕ × ColumnKind). c.1)) v.1);
}

-- ---- a declaration more

function_is : (a b : ℕ) → function a ≡ function b → a ≡ b
function_is a b e = cc

val_is : (a b : ℕ) → val a ≡ val b → a ≡ b
val_is a b e = cc

val_no_function : (a b : ℕ) → val a ≡ function b → ⊥
val_no_function a b e = cc

function_no_val : (a b : ℕ) → function a ≡ val b → ⊥
function_no_val a b e = cc

second : {A : Type 0} {a b : ConName} {x y : A} → ◌≡◌ {A = ConName × A} (a, x) (b, y) → x ≡ y
second {A} e = ap (λ (z : ConName × A). z.1) e

function_at : (home : ℕ) (f : FunDef) (z : Sofar) (h : Heading) → IsCounted z → (c : ConName) (n : ℕ) → In (c, function n) (with_head home f z h).place.globals.values → (g : FunctionHead) × (slice_get (with_head home f z h).functions n ≡ Some g)
function_at home f z h k c n (inl e) = new_there z.functions (record { «module» = home; name = f.name; head = h.head }) z.place.functions n k.functions (function_is z.place.functions n (second e))
function_at home f z h k c n (inr i) = old_there z.functions (record { «module» = home; name = f.name; head = h.head }) n (k.function_there c n i)

val_behind_head : (home : ℕ) (f : FunDef) (z : Sofar) (h : Heading) → IsCounted z → (c : ConName) (n : ℕ) → In (c, val n) (with_head home f z h).place.globals.values → (t : NormalType) × (slice_get z.vals n ≡ Some t)
val_behind_head home f z h k c n (inl e) = absurd (function_no_val z.place.functions n (second e))
val_behind_head home f z h k c n (inr i) = k.val_there c n i

pub head_counted : (home : ℕ) (f : FunDef) (z : Sofar) (h : Heading) → IsCounted z → IsCounted (with_head home f z h)
head_counted home f z h k = record {
  functions = one_more z.functions (record { «module» = home; name = f.name; head = h.head }) z.place.functions k.functions;
  vals = k.vals;
  variants = k.variants;
  sequences = k.sequences;
  cookies = k.cookies;
  function_there = function_at home f z h k;
  val_there = val_behind_head home f z h k;
  variant_there = k.variant_there;
  sequence_there = k.sequence_there;
  cookie_there = k.cookie_there;
}

function_behind_val : (x : List ℕ) (z : Sofar) (t : NormalType) → IsCounted z → (c : ConName) (n : ℕ) → In (c, function n) (with_val_of x z t).place.globals.values → (g : FunctionHead) × (slice_get z.functions n ≡ Some g)
function_behind_val x z t k c n (inl e) = absurd (val_no_function z.place.vals n (second e))
function_behind_val x z t k c n (inr i) = k.function_there c n i

val_at : (x : List ℕ) (z : Sofar) (t : NormalType) → IsCounted z → (c : ConName) (n : ℕ) → In (c, val n) (with_val_of x z t).place.globals.values → (u : NormalType) × (slice_get (with_val_of x z t).vals n ≡ Some u)
val_at x z t k c n (inl e) = new_there z.vals t z.place.vals n k.vals (val_is z.place.vals n (second e))
val_at x z t k c n (inr i) = old_there z.vals t n (k.val_there c n i)

pub val_counted : (x : List ℕ) (z : Sofar) (t : NormalType) → IsCounted z → IsCounted (with_val_of x z t)
val_counted x z t k = record {
  functions = k.functions;
  vals = one_more z.vals t z.place.vals k.vals;
  variants = k.variants;
  sequences = k.sequences;
  cookies = k.cookies;
  function_there = function_behind_val x z t k;
  val_there = val_at x z t k;
  variant_there = k.variant_there;
  sequence_there = k.sequence_there;
  cookie_there = k.cookie_there;
}

variant_at : (datatype : ℕ) (x : List ℕ) (a : Option NormalType) (z : Sofar) → IsCounted z → (c : ConName) (n : ℕ) → In (c, n) (with_constructor datatype x a z).place.globals.constructors → (v : Variant) × (slice_get (with_constructor datatype x a z).variants n ≡ Some v)
variant_at datatype x a z k c n (inl e) = new_there z.variants (record { datatype = datatype; name = x; arg = a }) z.place.variants n k.variants (second e)
variant_at datatype x a z k c n (inr i) = old_there z.variants (record { datatype = datatype; name = x; arg = a }) n (k.variant_there c n i)

pub variant_counted : (datatype : ℕ) (x : List ℕ) (a : Option NormalType) (z : Sofar) → IsCounted z → IsCounted (with_constructor datatype x a z)
variant_counted datatype x a z k = record {
  functions = k.functions;
  vals = k.vals;
  variants = one_more z.variants (record { datatype = datatype; name = x; arg = a }) z.place.variants k.variants;
  sequences = k.sequences;
  cookies = k.cookies;
  function_there = k.function_there;
  val_there = k.val_there;
  variant_there = variant_at datatype x a z k;
  sequence_there = k.sequence_there;
  cookie_there = k.cookie_there;
}

sequence_at : (x : List ℕ) (z : Sofar) → IsCounted z → (c : ConName) (n : ℕ) → In (c, n) (with_named_sequence x z).place.globals.sequences → (s : List ℕ) × (slice_get (with_named_sequence x z).sequences n ≡ Some s)
sequence_at x z k c n (inl e) = new_there z.sequences (full_name z x) (length z.place.globals.sequences) n k.sequences (second e)
sequence_at x z k c n (inr i) = old_there z.sequences (full_name z x) n (k.sequence_there c n i)

pub sequence_counted : (x : List ℕ) (z : Sofar) → IsCounted z → IsCounted (with_named_sequence x z)
sequence_counted x z k = record {
  functions = k.functions;
  vals = k.vals;
  variants = k.variants;
  sequences = both_more (at z.place x, length z.place.globals.sequences) z.place.globals.sequences z.sequences (full_name z x) k.sequences;
  cookies = k.cookies;
  function_there = k.function_there;
  val_there = k.val_there;
  variant_there = k.variant_there;
  sequence_there = sequence_at x z k;
  cookie_there = k.cookie_there;
}

cookie_at : (x : List ℕ) (z : Sofar) (k : ColumnKind) → IsCounted z → (c : ConName) (n : ℕ) → In (c, n) (with_named_cookie x z k).place.globals.cookies → (s : List ℕ × ColumnKind) × (slice_get (with_named_cookie x z k).cookies n ≡ Some s)
cookie_at x z t k c n (inl e) = new_there z.cookies (full_name z x, t) (length z.place.globals.cookies) n k.cookies (second e)
cookie_at x z t k c n (inr i) = old_there z.cookies (full_name z x, t) n (k.cookie_there c n i)

pub cookie_counted : (x : List ℕ) (z : Sofar) (t : ColumnKind) → IsCounted z → IsCounted (with_named_cookie x z t)
cookie_counted x z t k = record {
  functions = k.functions;
  vals = k.vals;
  variants = k.variants;
  sequences = k.sequences;
  cookies = both_more (at z.place x, length z.place.globals.cookies) z.place.globals.cookies z.cookies (full_name z x, t) k.cookies;
  function_there = k.function_there;
  val_there = k.val_there;
  variant_there = k.variant_there;
  sequence_there = k.sequence_there;
  cookie_there = cookie_at x z t k;
}

-- what changes no name of an expression
pub defined_counted : (x : List ℕ) (j : Kind) (c : Con) (z : Sofar) → IsCounted z → IsCounted (with_defined x j c z)
defined_counted x j c z k = record { functions = k.functions; vals = k.vals; variants = k.variants; sequences = k.sequences; cookies = k.cookies; function_there = k.function_there; val_there = k.val_there; variant_there = k.variant_there; sequence_there = k.sequence_there; cookie_there = k.cookie_there }

pub datatype_counted : (home : ℕ) (x : List ℕ) (z : Sofar) → IsCounted z → IsCounted (with_datatype home x z)
datatype_counted home x z k = record { functions = k.functions; vals = k.vals; variants = k.variants; sequences = k.sequences; cookies = k.cookies; function_there = k.function_there; val_there = k.val_there; variant_there = k.variant_there; sequence_there = k.sequence_there; cookie_there = k.cookie_there }

pub shape_counted : (z : Sofar) (shape : TableShape) → IsCounted z → IsCounted (with_shape z shape)
shape_counted z shape k = record { functions = k.functions; vals = k.vals; variants = k.variants; sequences = k.sequences; cookies = k.cookies; function_there = k.function_there; val_there = k.val_there; variant_there = k.variant_there; sequence_there = k.sequence_there; cookie_there = k.cookie_there }

pub entered_counted : (m : List ℕ) (z : Sofar) → IsCounted z → IsCounted (record z { place = enter m z.place })
entered_counted m z k = record { functions = k.functions; vals = k.vals; variants = k.variants; sequences = k.sequences; cookies = k.cookies; function_there = k.function_there; val_there = k.val_there; variant_there = k.variant_there; sequence_there = k.sequence_there; cookie_there = k.cookie_there }

-- before the first module
pub nothing_counted : (fields : List (List ℕ)) → IsCounted (nothing_yet (nothing_declared fields)).0
nothing_counted fields = record { functions = refl; vals = refl; variants = refl; sequences = refl; cookies = refl; function_there = λ c n i. absurd i; val_there = λ c n i. absurd i; variant_there = λ c n i. absurd i; sequence_there = λ c n i. absurd i; cookie_there = λ c n i. absurd i }
