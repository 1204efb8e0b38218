-- The numbers of names in scope are those of what is declared before; so what a body sees of all that is declared it sees of that.
use Rattle.std.proofs.Common.{arith, ◌≡◌, ◌∙◌, refl, sym, ap, subst, Bool, true, false, Option, Some, None, List, [], ◌∷◌, ℕ, zero, suc, ◌+◌, length, map, take}
use Rattle.std.proofs.lemmas.Bool.Decides.{nat_tests}
use Rattle.std.specs.Prelude.{◌||◌, ◌<◌, ◌==◌, if◌then◌else◌, nat_lt, bytes_eq, slice_get}
use Rattle.std.specs.List.{list_all, list_any}
use Rattle.ur_syntax.specs.Names.{looked_up, or_own, seen_by, same_con, member as of_module}
use Rattle.ur_syntax.specs.declared.con.ConName.{ConName}
use Rattle.ur_syntax.specs.declared.con.ConMeaning.TheVariants as meaning
use Rattle.ur_syntax.specs.declared.con.ConMeaning.{ConMeaning}
use Rattle.ur_syntax.specs.declared.kind.Kind.{Kind}
use Rattle.ur_syntax.specs.declared.kind.Kind.TheVariants as kind
use Rattle.ur_syntax.specs.declared.decl.Variant.{Variant as WrittenVariant}
use Rattle.ur_syntax.specs.declared.decl.FunDef.{FunDef}
use Rattle.ur_syntax.specs.declared.decl.DeclForm.{DeclForm}
use Rattle.ur_terms.specs.declared.term.Pattern.{Pattern}
use Rattle.ur_terms.specs.declared.term.Pattern.TheVariants as pattern
use Rattle.ur_rows.specs.declared.normal.NormalType.{NormalType}
use Rattle.ur_rows.specs.declared.normal.NormalType.TheVariants as ty
use Rattle.ur_tree.specs.declared.typed.Typed.{Typed}
use Rattle.ur_tree.specs.declared.typed.Variant.{Variant}
use Rattle.ur_tree.specs.declared.typed.Function.{Function}
use Rattle.ur_tree.specs.Heads.{Declared as Heads, head_of}
use Rattle.ur_tree.specs.Patterns.{same_pattern, are_some, last_is_any, has_all, tags_from, constructors_of}
use Rattle.ur_typed_rules.specs.Names.{Globals, declared}
use Rattle.ur_typed_rules.specs.Names as here
use Rattle.ur_typed_rules.specs.Tests.{are_once, covers}
use Rattle.ur_typed_rules.proofs.Lists.{both_of, of_both}
use Rattle.ur_typed.specs.Project.{Place, at, with_entry, with_function, with_val, with_variant, with_table, with_sequence, with_cookie, enter, AreNamed, VariantsResolve, DeclResolves}
use Rattle.ur_typed.specs.Project as project
use Rattle.ur_typed.specs.Typed.{nothing_declared}
use Rattle.ur_typed.specs.Declaring.{counted, declared_so_far}
use Rattle.ur_typed_rules.proofs.Options.{some_of, some_none}
use Rattle.ur_typed_laws.proofs.Written.{headed}
use Rattle.ur_typed_laws.proofs.Declared.{val_of}
use Rattle.ur_typed_laws.proofs.Bodies.{bare, with_vals}
use Rattle.ur_typed_laws.specs.Led.{Leads, Agree}
use Rattle.ur_typed_laws.proofs.Leading.{leads_self}
use Rattle.ur_typed_laws.proofs.Standing.{sofar}

-- ---- what names stand for

abbrev AllNamed : {A : Type 0} → (A → Type 0) → List (ConName × A) → Type 0
AllNamed P [] = Unit {0}
AllNamed P (x ∷ xs) = P x.1 × AllNamed P xs

named_weaker : {A : Type 0} (P Q : A → Type 0) (xs : List (ConName × A)) → ((x : A) → P x → Q x) → AllNamed P xs → AllNamed Q xs
named_weaker P Q [] f h = tt
named_weaker P Q (x ∷ xs) f h = (f x.1 h.0, named_weaker P Q xs f h.1)

named_at : {A : Type 0} (P : A → Type 0) (xs : List (ConName × A)) (c : ConName) (x : A) → AllNamed P xs → looked_up c xs ≡ Some x → P x
named_at P [] c x h e = cc
named_at {A} P (y ∷ ys) c x h e = by_name (λ i. named_at P ys c x h.1 i) (same_con c y.0) e where
  by_name : (looked_up c ys ≡ Some x → P x) → (b : Bool) → (if b then Some y.1 else looked_up c ys) ≡ Some x → P x
  by_name k true i = subst P (some_of i) h.0
  by_name k false i = k i

named_seen : {A : Type 0} (P : A → Type 0) (g : Globals) (xs : List (ConName × A)) (c : ConName) (x : A) → AllNamed P xs → declared g c xs ≡ Some x → P x
named_seen {A} P g xs c x h e = by_home c.home e where
  by_own : (o : Option A) → looked_up c xs ≡ o → or_own g.home c xs o ≡ Some x → P x
  by_own (Some y) k i = named_at P xs c x h (k ∙ i)
  by_own None k i = named_at P xs (of_module g.home c.name) x h i

  by_module : (b : Bool) → (if b then None else looked_up c xs) ≡ Some x → P x
  by_module true i = absurd (some_none (sym i))
  by_module false i = named_at P xs c x h i

  by_home : (o : Option (List ℕ)) → seen_by o g.home c xs ≡ Some x → P x
  by_home None i = by_own (looked_up c xs) refl i
  by_home (Some n) i = by_module (bytes_eq n g.home) i

abbrev IsBefore : ℕ → ℕ → here.Declared → Type 0
IsBefore f v (here.function n) = n < f
IsBefore f v (here.val n) = n < v

abbrev Below : ℕ → ℕ → Type 0
Below k n = n < k

pub record Counted (p : Place) : Type 0 where
  pub values : AllNamed (IsBefore p.functions p.vals) p.globals.values
  pub constructors : AllNamed (Below p.variants) p.globals.constructors
  pub cookies : AllNamed (Below (length p.globals.cookies)) p.globals.cookies
  pub sequences : AllNamed (Below (length p.globals.sequences)) p.globals.sequences

further : (k n : ℕ) → n < k → n < k + 1
further k n h = omega (arith, h)

next : (k n : ℕ) → n < k → n < suc k
next k n h = omega (arith, h)

more_functions : (f v : ℕ) (x : here.Declared) → IsBefore f v x → IsBefore (f + 1) v x
more_functions f v (here.function n) h = further f n h
more_functions f v (here.val n) h = h

more_vals : (f v : ℕ) (x : here.Declared) → IsBefore f v x → IsBefore f (v + 1) x
more_vals f v (here.function n) h = h
more_vals f v (here.val n) h = further v n h

last : (n : ℕ) → n < n + 1
last n = omega arith

own_last : (n : ℕ) → n < suc n
own_last n = omega arith

function_counted : (x : List ℕ) (p : Place) → Counted p → Counted (with_function x p)
function_counted x p k = record { values = (last p.functions, named_weaker (IsBefore p.functions p.vals) (IsBefore (p.functions + 1) p.vals) p.globals.values (more_functions p.functions p.vals) k.values); constructors = k.constructors; cookies = k.cookies; sequences = k.sequences }

val_counted : (x : List ℕ) (p : Place) → Counted p → Counted (with_val x p)
val_counted x p k = record { values = (last p.vals, named_weaker (IsBefore p.functions p.vals) (IsBefore p.functions (p.vals + 1)) p.globals.values (more_vals p.functions p.vals) k.values); constructors = k.constructors; cookies = k.cookies; sequences = k.sequences }

variant_counted : (x : List ℕ) (p : Place) → Counted p → Counted (with_variant x p)
variant_counted x p k = record { values = k.values; constructors = (last p.variants, named_weaker (Below p.variants) (Below (p.variants + 1)) p.globals.constructors (further p.variants) k.constructors); cookies = k.cookies; sequences = k.sequences }

cookie_counted : (x : List ℕ) (p : Place) → Counted p → Counted (with_cookie x p)
cookie_counted x p k =
    let n : ℕ = length p.globals.cookies in record { values = k.values; constructors = k.constructors; cookies = (own_last n, named_weaker (Below n) (Below (suc n)) p.globals.cookies (next n) k.cookies); sequences = k.sequences }

sequence_counted : (x : List ℕ) (p : Place) → Counted p → Counted (with_sequence x p)
sequence_counted x p k =
    let n : ℕ = length p.globals.sequences in record { values = k.values; constructors = k.constructors; cookies = k.cookies; sequences = (own_last n, named_weaker (Below n) (Below (suc n)) p.globals.sequences (next n) k.sequences) }

-- ---- what is known of a place in a module

pub record Ready (app : Typed) (home : ℕ) (p : Place) : Type 0 where
  pub counted : Counted p
  pub fields : p.fields ≡ app.names
  pub at_home : slice_get app.modules home ≡ Some p.globals.home

entry_counted : (x : List ℕ) (k : Kind) (m : ConMeaning) (p : Place) → Counted p → Counted (with_entry x k m p)
entry_counted x k m p c = record { values = c.values; constructors = c.constructors; cookies = c.cookies; sequences = c.sequences }

datatype_counted : (p : Place) → Counted p → Counted (counted p)
datatype_counted p c = record { values = c.values; constructors = c.constructors; cookies = c.cookies; sequences = c.sequences }

variants_ready : (app : Typed) (most home k : ℕ) (p : Place) (vs : List WrittenVariant) (q : Place) → VariantsResolve app most k p vs q → Ready app home p → Ready app home q
variants_ready app most home k p _ _ project.VariantsResolve.none r = r
variants_ready app most home k p _ q (project.VariantsResolve.plain {v = v} {vs = vs} e h x) r = variants_ready app most home k (with_variant v.name p) vs q x (record { counted = variant_counted v.name p r.counted; fields = r.fields; at_home = r.at_home })
variants_ready app most home k p _ q (project.VariantsResolve.with {v = v} {vs = vs} e w h x) r = variants_ready app most home k (with_variant v.name p) vs q x (record { counted = variant_counted v.name p r.counted; fields = r.fields; at_home = r.at_home })

named_ready : (app : Typed) (home : ℕ) (p : Place) (fs : List FunDef) (q : Place) → AreNamed p fs q → Ready app home p → Ready app home q
named_ready app home p _ _ project.AreNamed.none r = r
named_ready app home p _ q (project.AreNamed.one {f = f} {fs = fs} x) r = named_ready app home (with_function f.name p) fs q x (record { counted = function_counted f.name p r.counted; fields = r.fields; at_home = r.at_home })

pub decl_ready : (app : Typed) (most home : ℕ) (p : Place) (d : DeclForm) (q : Place) → DeclResolves app most home p d q → Ready app home p → Ready app home q
decl_ready app most home p _ _ (project.DeclResolves.con {x = x} {k = k} {c = c} j l) r = record { counted = entry_counted x k (meaning.Defined c) p r.counted; fields = r.fields; at_home = r.at_home }
decl_ready app most home p _ _ (project.DeclResolves.type_ {x = x} {c = c} i j) r = record { counted = entry_counted x kind.Star (meaning.Defined c) p r.counted; fields = r.fields; at_home = r.at_home }
decl_ready app most home p _ q (project.DeclResolves.datatype {x = x} {vs = vs} i y) r =
    let z : Place = with_entry x kind.Star (meaning.Datatype p.datatypes) (counted p) in variants_ready app most home p.datatypes z vs q y (record { counted = entry_counted x kind.Star (meaning.Datatype p.datatypes) (counted p) (datatype_counted p r.counted); fields = r.fields; at_home = r.at_home })
decl_ready app most home p _ _ (project.DeclResolves.table {shape = s} w h i l) r = record { counted = record { values = r.counted.values; constructors = r.counted.constructors; cookies = r.counted.cookies; sequences = r.counted.sequences }; fields = r.fields; at_home = r.at_home }
decl_ready app most home p _ _ (project.DeclResolves.sequence {x = x} i l) r = record { counted = sequence_counted x p r.counted; fields = r.fields; at_home = r.at_home }
decl_ready app most home p _ _ (project.DeclResolves.cookie {x = x} w b i l) r =
    record { counted = cookie_counted x p r.counted; fields = r.fields; at_home = r.at_home }
decl_ready app most home p _ _ (project.DeclResolves.val {x = x} w y l) r = record { counted = val_counted x p r.counted; fields = r.fields; at_home = r.at_home }
decl_ready app most home p _ q (project.DeclResolves.functions {fs = fs} n y) r = named_ready app home p fs q n r

pub nothing_counted : (fields : List (List ℕ)) → Counted (nothing_declared fields)
nothing_counted fields = record { values = tt; constructors = tt; cookies = tt; sequences = tt }

pub enter_counted : (m : List ℕ) (p : Place) → Counted p → Counted (enter m p)
enter_counted m p k = record { values = k.values; constructors = k.constructors; cookies = k.cookies; sequences = k.sequences }

-- ---- beginnings of what is declared

not_below : (n : ℕ) → n < zero → ⊥
not_below n h = omega (arith, h)

front : {A : Type 0} (k n : ℕ) (xs : List A) (x : A) → n < k → slice_get xs n ≡ Some x → slice_get (take k xs) n ≡ Some x
front k n [] x l h = cc
front zero n (y ∷ ys) x l h = absurd (not_below n l)
front (suc k) zero (y ∷ ys) x l h = h
front (suc k) (suc n) (y ∷ ys) x l h = front k n ys x (omega (arith, l)) h

map_take : {A B : Type 0} (f : A → B) (k : ℕ) (xs : List A) → take k (map f xs) ≡ map f (take k xs)
map_take f zero [] = refl
map_take f (suc k) [] = refl
map_take f zero (x ∷ xs) = refl
map_take f (suc k) (x ∷ xs) = ap (λ z. f x ∷ z) (map_take f k xs)

front_map : {A B : Type 0} (f : A → B) (k n : ℕ) (xs : List A) (y : B) → n < k → slice_get (map f xs) n ≡ Some y → slice_get (map f (take k xs)) n ≡ Some y
front_map f k n xs y l h = ap (λ z. slice_get z n) (sym (map_take f k xs)) ∙ front k n (map f xs) y l h

heads_same : (fs : List Function) → map (λ h. h.head) (map headed fs) ≡ map head_of fs
heads_same [] = refl
heads_same (f ∷ fs) = ap (λ z. head_of f ∷ z) (heads_same fs)

shorter : {A : Type 0} (k n : ℕ) (xs : List A) → n < k → n < length xs → n < length (take k xs)
shorter k n [] l h = absurd (not_below n h)
shorter zero n (y ∷ ys) l h = absurd (not_below n l)
shorter (suc k) zero (y ∷ ys) l h = omega arith
shorter (suc k) (suc n) (y ∷ ys) l h = let i : n < length (take k ys) = shorter k n ys (omega (arith, l)) (omega (arith, h)) in omega (arith, i)

-- ---- patterns that cover a type

abbrev a_heading : Variant → ℕ × Option NormalType
a_heading v = (v.datatype, v.arg)

tags_lead : (q : Pattern → Bool) (c n k : ℕ) (vs : List Variant) → list_all q (tags_from c n (map a_heading vs)) ≡ true → list_all q (tags_from c n (map a_heading (take k vs))) ≡ true
tags_lead q c n zero [] h = refl
tags_lead q c n (suc k) [] h = refl
tags_lead q c n zero (v ∷ vs) h = refl
tags_lead q c n (suc k) (v ∷ vs) h = by_datatype (v.datatype == c) (tags_from c (n + 1) (map a_heading vs)) (tags_from c (n + 1) (map a_heading (take k vs))) (tags_lead q c (n + 1) k vs) h where
  by_datatype : (b : Bool) (xs ys : List Pattern) → (list_all q xs ≡ true → list_all q ys ≡ true) → list_all q (if b then pattern.Tagged n ∷ xs else xs) ≡ true → list_all q (if b then pattern.Tagged n ∷ ys else ys) ≡ true
  by_datatype true xs ys f i = let j = both_of (q (pattern.Tagged n)) (list_all q xs) i in of_both (q (pattern.Tagged n)) (list_all q ys) j.0 (f j.1)
  by_datatype false xs ys f i = f i

all_lead : (d e : Heads) (k : ℕ) (vs : List Variant) → d.variants ≡ map a_heading vs → e.variants ≡ map a_heading (take k vs) → (t : NormalType) (ps : List Pattern) → has_all (constructors_of d t) ps ≡ true → has_all (constructors_of e t) ps ≡ true
all_lead d e k vs i j (ty.Datatype n) ps h =
    let m = both_of (are_some ps) (list_all (λ c. list_any (same_pattern c) ps) (tags_from n 0 d.variants)) h in
    of_both (are_some ps) (list_all (λ c. list_any (same_pattern c) ps) (tags_from n 0 e.variants)) m.0
    (ap (λ z. list_all (λ c. list_any (same_pattern c) ps) (tags_from n 0 z)) j ∙ tags_lead (λ c. list_any (same_pattern c) ps) n 0 k vs (ap (λ z. list_all (λ c. list_any (same_pattern c) ps) (tags_from n 0 z)) (sym i) ∙ m.1))
all_lead d e k vs i j ty.Bool ps h = h
all_lead d e k vs i j (ty.Opt' _ t) ps h = h
all_lead d e k vs i j (ty.Many' _ t) ps h = h
all_lead d e k vs i j _ ps h = h

either : (a b c : Bool) → (b ≡ true → c ≡ true) → (a || b) ≡ true → (a || c) ≡ true
either true b c f h = refl
either false b c f h = f h

covers_lead : (d e : Heads) (k : ℕ) (vs : List Variant) → d.variants ≡ map a_heading vs → e.variants ≡ map a_heading (take k vs) → (t : NormalType) (ps : List Pattern) → covers d t ps ≡ true → covers e t ps ≡ true
covers_lead d e k vs i j t ps h =
    let m = both_of (are_once same_pattern ps) (last_is_any ps || has_all (constructors_of d t) ps) h in
    of_both (are_once same_pattern ps) (last_is_any ps || has_all (constructors_of e t) ps) m.0 (either (last_is_any ps) (has_all (constructors_of d t) ps) (has_all (constructors_of e t) ps) (all_lead d e k vs i j t ps) m.1)

-- ---- what is declared before a place

is_below : (n m : ℕ) → nat_lt n m ≡ true → n < m
is_below n m h = grind (arith, nat_tests, h)

below_is : (n m : ℕ) → n < m → nat_lt n m ≡ true
below_is n m h = grind (arith, nat_tests, h)

agree_by : (app : Typed) (p : Place) → Counted p → (vs : List NormalType) → ((n : ℕ) → n < p.vals → Leads (slice_get vs n) (slice_get (take p.vals (map val_of app.vals)) n)) → Agree p.globals (record (bare app) { vals = vs }) (declared_so_far (sofar app p))
agree_by app p k vs f = record {
  functions = λ c n h. let l : n < p.functions = named_seen (IsBefore p.functions p.vals) p.globals p.globals.values c (here.function n) k.values h in
      record { on = λ y i. ap (λ z. slice_get (map (λ g. g.head) z) n) (map_take headed p.functions app.functions) ∙ (ap (λ z. slice_get z n) (heads_same (take p.functions app.functions)) ∙ front_map head_of p.functions n app.functions y l i) };
  vals = λ c n h. f n (named_seen (IsBefore p.functions p.vals) p.globals p.globals.values c (here.val n) k.values h);
  variants = λ c n h. record { on = λ y i. front_map a_heading p.variants n app.variants y (named_seen (Below p.variants) p.globals p.globals.constructors c n k.constructors h) i };
  cookies = λ c n h. record { on = λ y i. front_map (λ z. z.1) (length p.globals.cookies) n app.cookies y (named_seen (Below (length p.globals.cookies)) p.globals p.globals.cookies c n k.cookies h) i };
  sequences = λ c n h i. below_is n _ (shorter (length p.globals.sequences) n app.schema.sequences (named_seen (Below (length p.globals.sequences)) p.globals p.globals.sequences c n k.sequences h) (is_below n (length app.schema.sequences) i));
  covers = λ t ps b h. covers_lead (record (bare app) { vals = vs }) (declared_so_far (sofar app p)) p.variants app.variants refl refl t ps h;
}

-- all that a source declares, and what it declares before a place
pub agree_all : (app : Typed) (p : Place) → Counted p → Agree p.globals (bare app) (declared_so_far (sofar app p))
agree_all app p k = agree_by app p k (map val_of app.vals) (λ n l. record { on = λ y i. front p.vals n (map val_of app.vals) y l i })

pub agree_vals : (app : Typed) (p : Place) → Counted p → Agree p.globals (with_vals p.vals (bare app)) (declared_so_far (sofar app p))
agree_vals app p k = agree_by app p k (take p.vals (map val_of app.vals)) (λ n l. leads_self _)
