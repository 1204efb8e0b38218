-- Which patterns are among those of branches.
use Rattle.std.proofs.Common.{◌≡◌, refl, ap, ap₂, sym, ◌∙◌, subst, inl, inr, ℕ, ◌+◌, ◌<◌, zero, suc, Bool, true, false, true≢false, not, ◌&&◌, ◌||◌, List, [], ◌∷◌, ◌++◌, length, take, drop, Option, Some, None, get_or, ◌≤◌, drop_of_length-le}
use Rattle.std.specs.Prelude.{if◌then◌else◌, ◌==◌, slice_get, codes}
use Rattle.std.specs.List.{list_any, list_all}
use Rattle.std.proofs.lemmas.Bool.Decides.{Decides-int_eq, Decides-eqb}
use Rattle.std.proofs.lemmas.Slice.Eq.{bytes_eq-Decides}
use Rattle.std.proofs.lemmas.List.{take_more}
use Rattle.std.proofs.lemmas.Option.{slice_get_read}
use Rattle.ur_syntax.specs.declared.con.ConName.{ConName}
use Rattle.ur_rows.specs.declared.normal.NormalType.{NormalType}
use Rattle.ur_rows.specs.declared.normal.NormalType.TheVariants as ty
use Rattle.ur_rows.specs.declared.normal.Part.{Part}
use Rattle.ur_rows.proofs.Shapes.{option-made, list-made, transaction-made, arrow-made, record-made, form-made}
use Rattle.ur_terms.specs.declared.term.Pattern.{Pattern}
use Rattle.ur_terms.specs.declared.term.Pattern.TheVariants as pattern
use Rattle.ur_disjoint.proofs.Members.{In, contains-in}
use Rattle.ur_tree.specs.declared.exp.Branch.{Branch}
use Rattle.ur_tree.specs.declared.typed.Variant.{Variant}
use Rattle.ur_tree.specs.Heads.{Declared}
use Rattle.ur_tree.specs.Patterns.{same_pattern, last_is_any, are_some, has_all, constructors_of, tags_from}
use Rattle.ur_typed_rules.specs.Tests.{all_pairs, are_once}
use Rattle.ur_typed_rules.specs.Scopes.{World}
use Rattle.ur_typed_rules.specs.Faults.{mismatch}
use Rattle.ur_typed_rules.specs.Patterns as patterns
use Rattle.ur_typed_rules.specs.Patterns.{constructor_name, called, IsMissing, BreaksCover, is_missing, IsRepeated, repeated_here, repeated_later}
use Rattle.ur_typed_rules.proofs.Repeats.{by-if, by-or}
use Rattle.ur_check_scopes.specs.declared.names.Named.{Named}
use Rattle.ur_check_scopes.specs.Views.{name_in, names_onto, names_in, itself}
use Rattle.ur_check_scopes.proofs.Loops.{drop-here}
use Rattle.ur_check_cases.specs.Binding.{variants_in}
use Rattle.ur_check_cases.specs.Covering.{patterns_in, first_missing, or_any, missing_of, tag_is_missing}

-- ---- the latest constructor with a number

onto-end : (ns : List (Named ℕ)) (n : Named ℕ) (names : List (ConName × ℕ)) → names_onto itself (ns ++ n ∷ []) names ≡ (name_in n, n.of) ∷ names_onto itself ns names
onto-end [] n names = refl
onto-end (m ∷ ns) n names = onto-end ns n ((name_in m, m.of) ∷ names)

pub named-last : (k : ℕ) (left rest : List (Named ℕ)) (n : Named ℕ) → left ≡ rest ++ n ∷ [] → (k == n.of) ≡ true → constructor_name k (names_in itself left) ≡ n.name
named-last k left rest n is e = ap (λ z. constructor_name k (names_in itself z)) is ∙ ap (constructor_name k) (onto-end rest n []) ∙ ap (λ b. if b then n.name else constructor_name k (names_in itself rest)) e

pub named-before : (k : ℕ) (left rest : List (Named ℕ)) (n : Named ℕ) → left ≡ rest ++ n ∷ [] → (k == n.of) ≡ false → constructor_name k (names_in itself left) ≡ constructor_name k (names_in itself rest)
named-before k left rest n is e = ap (λ z. constructor_name k (names_in itself z)) is ∙ ap (constructor_name k) (onto-end rest n []) ∙ ap (λ b. if b then n.name else constructor_name k (names_in itself rest)) e

-- ---- the first that is missing

one-is : (c d : Pattern) → Some c ≡ Some d → c ≡ d
one-is c d h = cc

pub missing-some : (cs ps : List Pattern) (c : Pattern) → first_missing cs ps ≡ Some c → In c cs × (list_any (same_pattern c) ps ≡ false)
missing-some [] ps c h = absurd (cc)
missing-some (d ∷ cs) ps c h = by-if (list_any (same_pattern d) ps) (first_missing cs ps) (Some d) (Some c) (In c (d ∷ cs) × (list_any (same_pattern c) ps ≡ false)) h
    (λ e k. let r : In c cs × (list_any (same_pattern c) ps ≡ false) = missing-some cs ps c k in (inr r.0, r.1))
    (λ e k. (inl (one-is d c k), subst (λ z. list_any (same_pattern z) ps ≡ false) (one-is d c k) e))

pub missing-none : (cs ps : List Pattern) → first_missing cs ps ≡ None → list_all (λ c. list_any (same_pattern c) ps) cs ≡ true
missing-none [] ps h = refl
missing-none (d ∷ cs) ps h = by-if (list_any (same_pattern d) ps) (first_missing cs ps) (Some d) None ((list_any (same_pattern d) ps && list_all (λ c. list_any (same_pattern c) ps) cs) ≡ true) h
    (λ e k. ap (λ z. z && list_all (λ c. list_any (same_pattern c) ps) cs) e ∙ missing-none cs ps k)
    (λ e k. absurd (cc))

never-both : (b : Bool) → (b && false) ≡ false
never-both true = refl
never-both false = refl

missing-not-all : (cs ps : List Pattern) (c : Pattern) → In c cs → list_any (same_pattern c) ps ≡ false → list_all (λ c. list_any (same_pattern c) ps) cs ≡ false
missing-not-all [] ps c i h = absurd i
missing-not-all (d ∷ cs) ps c (inl e) h = ap (λ z. z && list_all (λ c. list_any (same_pattern c) ps) cs) (ap (λ z. list_any (same_pattern z) ps) e ∙ h)
missing-not-all (d ∷ cs) ps c (inr i) h = ap (λ z. list_any (same_pattern d) ps && z) (missing-not-all cs ps c i h) ∙ never-both (list_any (same_pattern d) ps)

-- where nothing is missing there is a branch
some-branch : (ps : List Pattern) (o : Option Pattern) → or_any ps o ≡ None → (are_some ps ≡ true) × (o ≡ None)
some-branch [] None h = absurd (cc)
some-branch [] (Some c) h = absurd (cc)
some-branch (p ∷ ps) o h = (refl, h)

-- a constructor that is missing, or any value
-- of two constructors one is missing where there is no branch
pub two-missing : (ps : List Pattern) (c d : Pattern) → missing_of (Some (c ∷ d ∷ [])) ps ≡ first_missing (c ∷ d ∷ []) ps
two-missing [] c d = refl
two-missing (p ∷ ps) c d = refl

-- the constructors that a type has are all there where none is missing
pub all-there : (cs : Option (List Pattern)) (ps : List Pattern) → missing_of cs ps ≡ None → has_all cs ps ≡ true
all-there None ps h = absurd (cc)
all-there (Some cs) ps h = let r : (are_some ps ≡ true) × (first_missing cs ps ≡ None) = some-branch ps (first_missing cs ps) h in ap (λ z. z && list_all (λ c. list_any (same_pattern c) ps) cs) r.0 ∙ missing-none cs ps r.1

pub not-all : (cs : Option (List Pattern)) (ps : List Pattern) (c : Pattern) → missing_of cs ps ≡ Some c → has_all cs ps ≡ false
not-all None ps c h = refl
not-all (Some cs) [] c h = refl
not-all (Some cs) (p ∷ ps) c h = let r : In c cs × (list_any (same_pattern c) (p ∷ ps) ≡ false) = missing-some cs (p ∷ ps) c h in missing-not-all cs (p ∷ ps) c r.0 r.1

-- ---- the constructors of a type

pub constructors-opt : (d : Declared) (t : NormalType) → constructors_of d (ty.Opt t) ≡ Some (pattern.Absent ∷ pattern.Present ∷ [])
constructors-opt d t = ap (constructors_of d) (option-made t)

pub constructors-many : (d : Declared) (t : NormalType) → constructors_of d (ty.Many t) ≡ Some (pattern.Empty ∷ pattern.Cons ∷ [])
constructors-many d t = ap (constructors_of d) (list-made t)

pub constructors-transaction : (d : Declared) (t : NormalType) → constructors_of d (ty.Transaction t) ≡ None
constructors-transaction d t = ap (constructors_of d) (transaction-made t)

pub constructors-arrow : (d : Declared) (t u : NormalType) → constructors_of d (ty.Arrow t u) ≡ None
constructors-arrow d t u = ap (constructors_of d) (arrow-made t u)

pub constructors-record : (d : Declared) (r : List Part) → constructors_of d (ty.Record r) ≡ None
constructors-record d r = ap (constructors_of d) (record-made r)

pub constructors-form : (d : Declared) (r : List Part) → constructors_of d (ty.Form r) ≡ None
constructors-form d r = ap (constructors_of d) (form-made r)

pub ruleset constructors = (constructors-opt, constructors-many, constructors-transaction, constructors-arrow, constructors-record, constructors-form)

pub missing-at : (d : Declared) (u v : NormalType) (ps : List Pattern) (o : Option Pattern) → u ≡ v → o ≡ missing_of (constructors_of d v) ps → o ≡ missing_of (constructors_of d u) ps
missing-at d u v ps o is h = h ∙ ap (λ z. missing_of (constructors_of d z) ps) (sym is)

-- ---- patterns that come once

and-true : (b : Bool) → (b && true) ≡ (true && b)
and-true true = refl
and-true false = refl

and-assoc : (a b c : Bool) → (a && (b && c)) ≡ ((a && b) && c)
and-assoc true b c = refl
and-assoc false b c = refl

and-four : (a b c d : Bool) → ((a && b) && (c && d)) ≡ ((a && c) && (b && d))
and-four true true true d = refl
and-four true true false d = refl
and-four true false true d = refl
and-four true false false d = refl
and-four false b c d = refl

all-end : {A : Type 0} (p : A → Bool) (xs : List A) (y : A) → list_all p (xs ++ y ∷ []) ≡ (list_all p xs && p y)
all-end p [] y = and-true (p y)
all-end p (x ∷ xs) y = ap (λ z. p x && z) (all-end p xs y) ∙ and-assoc (p x) (list_all p xs) (p y)

once-end : {A : Type 0} (test : A → A → Bool) (xs : List A) (y : A) → all_pairs test (xs ++ y ∷ []) ≡ (all_pairs test xs && list_all (λ x. test x y) xs)
once-end test [] y = refl
once-end test (x ∷ xs) y = ap₂ (λ a b. a && b) (all-end (test x) xs y) (once-end test xs y) ∙ and-four (list_all (test x) xs) (test x y) (all_pairs test xs) (list_all (λ x. test x y) xs)

neither : (a b : Bool) → (not a && not b) ≡ not (a || b)
neither true b = refl
neither false b = refl

none-all : {A : Type 0} (p : A → Bool) (xs : List A) → list_all (λ x. not (p x)) xs ≡ not (list_any p xs)
none-all p [] = refl
none-all p (x ∷ xs) = ap (λ z. not (p x) && z) (none-all p xs) ∙ neither (p x) (list_any p xs)

-- one pattern more, which none of those before is
pub once-more : (ps : List Pattern) (p : Pattern) → are_once same_pattern ps ≡ true → list_any (λ q. same_pattern q p) ps ≡ false → are_once same_pattern (ps ++ p ∷ []) ≡ true
once-more ps p h e = once-end (λ x y. not (same_pattern x y)) ps p ∙ ap₂ (λ a b. a && b) h (none-all (λ q. same_pattern q p) ps ∙ ap not e)

-- ---- a pattern that comes twice

pub same-is : (p q : Pattern) → same_pattern p q ≡ true → p ≡ q
same-is pattern.Any pattern.Any h = refl
same-is (pattern.Int m) (pattern.Int n) h = ap pattern.Int ((Decides-int_eq m n).0 h)
same-is (pattern.Str s) (pattern.Str t) h = ap pattern.Str ((bytes_eq-Decides s t).0 h)
same-is (pattern.Bool true) (pattern.Bool true) h = refl
same-is (pattern.Bool false) (pattern.Bool false) h = refl
same-is (pattern.Bool true) (pattern.Bool false) h = absurd (cc)
same-is (pattern.Bool false) (pattern.Bool true) h = absurd (cc)
same-is pattern.Absent pattern.Absent h = refl
same-is pattern.Present pattern.Present h = refl
same-is pattern.Empty pattern.Empty h = refl
same-is pattern.Cons pattern.Cons h = refl
same-is (pattern.Tagged c) (pattern.Tagged e) h = ap pattern.Tagged ((Decides-eqb c e).0 h)
same-is _ _ h = absurd (true≢false (sym h))

one-branch : (x y : Branch) → Some x ≡ Some y → x ≡ y
one-branch x y h = cc

stands-in : (bs : List Branch) (j : ℕ) (b : Branch) → slice_get bs j ≡ Some b → In b.pattern (patterns_in bs)
stands-in [] j b h = absurd (cc)
stands-in (a ∷ bs) zero b h = inl (ap (λ z. z.pattern) (one-branch a b h))
stands-in (a ∷ bs) (suc j) b h = inr (stands-in bs j b h)

pub repeated-at : (bs : List Branch) (i : ℕ) (b : Branch) → slice_get bs i ≡ Some b → list_any (λ p. same_pattern p b.pattern) (patterns_in (take i bs)) ≡ true → IsRepeated (patterns_in bs) b.pattern
repeated-at [] i b h e = absurd (cc)
repeated-at (a ∷ bs) zero b h e = absurd (true≢false (sym e))
repeated-at (a ∷ bs) (suc i) b h e = by-or (same_pattern a.pattern b.pattern) (list_any (λ p. same_pattern p b.pattern) (patterns_in (take i bs))) (IsRepeated (patterns_in (a ∷ bs)) b.pattern) e
    (λ s. subst (IsRepeated (patterns_in (a ∷ bs))) (same-is a.pattern b.pattern s) (repeated_here (contains-in b.pattern (patterns_in bs) (stands-in bs i b h)) s))
    (λ l. repeated_later (repeated-at bs i b h l))

pub repeats-here : (bs : List Branch) (i : ℕ) (b : Branch) → i < length bs → b ≡ get_or bs i b → list_any (λ p. same_pattern p b.pattern) (patterns_in (take i bs)) ≡ true → IsRepeated (patterns_in bs) b.pattern
repeats-here bs i b h e f = repeated-at bs i b (slice_get_read bs (length bs) i b refl h e) f

-- the same of what stands there
pub repeats-there : (bs : List Branch) (i : ℕ) (b : Branch) → i < length bs → b ≡ get_or bs i b → list_any (λ p. same_pattern p (get_or bs i b).pattern) (patterns_in (take i bs)) ≡ true → IsRepeated (patterns_in bs) (get_or bs i b).pattern
repeats-there bs i b h e f = subst (λ z. IsRepeated (patterns_in bs) z.pattern) e (repeats-here bs i b h e (subst (λ z. list_any (λ p. same_pattern p z.pattern) (patterns_in (take i bs)) ≡ true) (sym e) f))

-- ---- what is missing

missing-by : (w : World) (u : NormalType) (ps : List Pattern) (c : Pattern) (o : Option (List Pattern)) → constructors_of w.declared u ≡ o → missing_of o ps ≡ Some c → IsMissing w u ps (called w c)
missing-by w u ps c None e h = subst (λ z. IsMissing w u ps (called w z)) (one-is pattern.Any c h) (patterns.any e)
missing-by w u [] c (Some []) e h = subst (λ z. IsMissing w u [] (called w z)) (one-is pattern.Any c h) (patterns.nothing e refl)
missing-by w u [] c (Some (d ∷ cs)) e h = let r : In c (d ∷ cs) × (list_any (same_pattern c) [] ≡ false) = missing-some (d ∷ cs) [] c h in patterns.constructor e (contains-in c (d ∷ cs) r.0) r.1
missing-by w u (p ∷ ps) c (Some cs) e h = let r : In c cs × (list_any (same_pattern c) (p ∷ ps) ≡ false) = missing-some cs (p ∷ ps) c h in patterns.constructor e (contains-in c cs r.0) r.1

pub missing-told : (w : World) (u : NormalType) (ps : List Pattern) (c : Pattern) → missing_of (constructors_of w.declared u) ps ≡ Some c → IsMissing w u ps (called w c)
missing-told w u ps c h = missing-by w u ps c (constructors_of w.declared u) refl h

pub none-covers : (w : World) (u : NormalType) (ps : List Pattern) (c : Pattern) → last_is_any ps ≡ false → missing_of (constructors_of w.declared u) ps ≡ Some c → BreaksCover w u ps (mismatch (called w c) (codes "a branch"))
none-covers w u ps c l h = is_missing (ap (λ z. z || has_all (constructors_of w.declared u) ps) l ∙ not-all (constructors_of w.declared u) ps c h) (missing-told w u ps c h)

or-right : (a b : Bool) → b ≡ true → (a || b) ≡ true
or-right true b e = refl
or-right false b e = e

pub all-cover : (d : Declared) (u : NormalType) (ps : List Pattern) → missing_of (constructors_of d u) ps ≡ None → (last_is_any ps || has_all (constructors_of d u) ps) ≡ true
all-cover d u ps h = or-right (last_is_any ps) (has_all (constructors_of d u) ps) (all-there (constructors_of d u) ps h)

pub last-covers : (d : Declared) (u : NormalType) (ps : List Pattern) → last_is_any ps ≡ true → (last_is_any ps || has_all (constructors_of d u) ps) ≡ true
last-covers d u ps h = ap (λ z. z || has_all (constructors_of d u) ps) h

-- ---- the constructors of a datatype, one after the other

past-if : (b : Bool) (c : Pattern) (r : Option Pattern) → not b ≡ false → (if b then r else Some c) ≡ r
past-if true c r h = refl
past-if false c r h = absurd (true≢false h)

past-by : (a : Bool) (c : Pattern) (cs ps : List Pattern) → (a && not (list_any (same_pattern c) ps)) ≡ false → first_missing (if a then c ∷ cs else cs) ps ≡ first_missing cs ps
past-by false c cs ps h = refl
past-by true c cs ps h = past-if (list_any (same_pattern c) ps) c (first_missing cs ps) h

found-if : (b : Bool) (c : Pattern) (r : Option Pattern) → not b ≡ true → (if b then r else Some c) ≡ Some c
found-if true c r h = absurd (true≢false (sym h))
found-if false c r h = refl

found-by : (a : Bool) (c : Pattern) (cs ps : List Pattern) → (a && not (list_any (same_pattern c) ps)) ≡ true → first_missing (if a then c ∷ cs else cs) ps ≡ Some c
found-by false c cs ps h = absurd (true≢false (sym h))
found-by true c cs ps h = found-if (list_any (same_pattern c) ps) c (first_missing cs ps) h

pub missing-past : (vs : List Variant) (i : ℕ) (x : Variant) (d n : ℕ) (ps : List Pattern) → i < length vs → x ≡ get_or vs i x → tag_is_missing d n (x.datatype, x.arg) ps ≡ false →
    first_missing (tags_from d n (variants_in (drop i vs))) ps ≡ first_missing (tags_from d (n + 1) (variants_in (drop (i + 1) vs))) ps
missing-past vs i x d n ps h e f = ap (λ z. first_missing (tags_from d n (variants_in z)) ps) (drop-here vs i x h e) ∙ past-by (x.datatype == d) (pattern.Tagged n) (tags_from d (n + 1) (variants_in (drop (i + 1) vs))) ps f

pub missing-here : (vs : List Variant) (i : ℕ) (x : Variant) (d n : ℕ) (ps : List Pattern) → i < length vs → x ≡ get_or vs i x → tag_is_missing d n (x.datatype, x.arg) ps ≡ true →
    first_missing (tags_from d n (variants_in (drop i vs))) ps ≡ Some (pattern.Tagged n)
missing-here vs i x d n ps h e f = ap (λ z. first_missing (tags_from d n (variants_in z)) ps) (drop-here vs i x h e) ∙ found-by (x.datatype == d) (pattern.Tagged n) (tags_from d (n + 1) (variants_in (drop (i + 1) vs))) ps f

pub missing-end : (vs : List Variant) (i d n : ℕ) (ps : List Pattern) → length vs ≤ i → first_missing (tags_from d n (variants_in (drop i vs))) ps ≡ None
missing-end vs i d n ps h = ap (λ z. first_missing (tags_from d n (variants_in z)) ps) (drop_of_length-le vs h)

-- ---- branches, one after the other

in-end : (bs : List Branch) (b : Branch) → patterns_in (bs ++ b ∷ []) ≡ patterns_in bs ++ b.pattern ∷ []
in-end [] b = refl
in-end (a ∷ bs) b = ap (λ z. a.pattern ∷ z) (in-end bs b)

pub once-past : (bs : List Branch) (i : ℕ) (b : Branch) → i < length bs → b ≡ get_or bs i b → are_once same_pattern (patterns_in (take i bs)) ≡ true → list_any (λ p. same_pattern p b.pattern) (patterns_in (take i bs)) ≡ false →
    are_once same_pattern (patterns_in (take (i + 1) bs)) ≡ true
once-past bs i b h e o f = ap (λ z. are_once same_pattern (patterns_in z)) (take_more bs i b h ∙ ap (λ z. take i bs ++ z ∷ []) (sym e)) ∙ ap (are_once same_pattern) (in-end (take i bs) b) ∙ once-more (patterns_in (take i bs)) b.pattern o f

last-end : (ps : List Pattern) (p : Pattern) → last_is_any (ps ++ p ∷ []) ≡ same_pattern p pattern.Any
last-end [] p = refl
last-end (q ∷ []) p = refl
last-end (q ∷ r ∷ ps) p = last-end (r ∷ ps) p

pub last-is : (bs rest : List Branch) (b : Branch) → bs ≡ rest ++ b ∷ [] → last_is_any (patterns_in bs) ≡ same_pattern b.pattern pattern.Any
last-is bs rest b is = ap (λ z. last_is_any (patterns_in z)) is ∙ ap last_is_any (in-end rest b) ∙ last-end (patterns_in rest) b.pattern

-- ---- how a bool is called

pub truth-called : (w : World) (b : Bool) → (if b then codes "True" else codes "False") ≡ called w (pattern.Bool b)
truth-called w true = refl
truth-called w false = refl

pub ruleset naming = (named-last, named-before)

pub ruleset datatypes = (missing-past, missing-here, missing-end)

pub ruleset repeating = (once-past)

pub ruleset lasts = (last-is, truth-called)

pub ruleset two_missing = (two-missing)
