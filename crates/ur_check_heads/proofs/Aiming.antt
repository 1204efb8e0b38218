-- Each function has the methods that entries, links and actions ask of it.
use Rattle.std.proofs.Common.{inl, inr, ◌≡◌, ◌≢◌, ◌∙◌, refl, sym, ap, subst, ℕ, zero, suc, ◌<◌, ◌⊎◌, Bool, true, false, true≢false, List, [], ◌∷◌, ◌++◌, flat_map, map, Option, Some, None, arith}
use Rattle.std.specs.Prelude.{◌↔◌, IsTrue, slice_get, slice_set, Contains}
use Rattle.ur_disjoint.proofs.Members.{In, in-contains, contains-in}
use Rattle.ur_typed_rules.proofs.Options.{some_of, some_none}
use Rattle.ur_tree.specs.declared.exp.Exp.{Exp}
use Rattle.ur_tree.specs.Occurrences.{Occurrence, link, action, site, update, occurrences}
use Rattle.ur_typed.specs.Typed.{all_occurrences}
use Rattle.ur_typed.specs.Routing.{IsLinked}
use Rattle.ur_check_heads.specs.declared.aims.Aim.{Aim}
use Rattle.ur_check_heads.specs.declared.aims.Aims.{Aims}
use Rattle.ur_check_heads.specs.Aims.{no_method, with_get, with_post, changed, marked, linked_by, aimed_at, aimed_by, AreAims}
use Rattle.ur_check_heads.specs.Words.{each_by, exps_aim}
use Rattle.ur_check_heads.proofs.Words.{after, each-is}

-- ---- a list with one element changed

set-same : {A : Type 0} (xs : List A) (n : ℕ) (y v : A) → slice_get xs n ≡ Some y → slice_get (slice_set xs n v) n ≡ Some v
set-same [] n y v h = absurd (some_none (sym h))
set-same (x ∷ xs) zero y v h = refl
set-same (x ∷ xs) (suc n) y v h = set-same xs n y v h

set-other : {A : Type 0} (xs : List A) (n k : ℕ) (v : A) → (n ≡ k → ⊥) → slice_get (slice_set xs n v) k ≡ slice_get xs k
set-other [] n k v h = refl
set-other (x ∷ xs) zero zero v h = absurd (h refl)
set-other (x ∷ xs) zero (suc k) v h = refl
set-other (x ∷ xs) (suc n) zero v h = refl
set-other (x ∷ xs) (suc n) (suc k) v h = set-other xs n k v (λ e. h (ap suc e))

same-or-not : (n k : ℕ) → (n ≡ k) ⊎ (n ≡ k → ⊥)
same-or-not zero zero = inl refl
same-or-not zero (suc k) = inr (λ e. absurd (omega (arith, e)))
same-or-not (suc n) zero = inr (λ e. absurd (omega (arith, e)))
same-or-not (suc n) (suc k) = elim (same-or-not n k) [ inl e ↦ inl (ap suc e) | inr h ↦ inr (λ e. h (omega (arith, e))) ]

-- what stands at a place behind the change
set-cases : {A : Type 0} (xs : List A) (n k : ℕ) (y v x : A) → slice_get xs n ≡ Some y → slice_get (slice_set xs n v) k ≡ Some x → ((n ≡ k) × (v ≡ x)) ⊎ ((n ≡ k → ⊥) × (slice_get xs k ≡ Some x))
set-cases xs n k y v x h e = elim (same-or-not n k) [
  | inl i ↦ inl (i, some_of (sym (set-same xs n y v h) ∙ ap (slice_get (slice_set xs n v)) i ∙ e))
  | inr i ↦ inr (i, sym (set-other xs n k v i) ∙ e)
]

set-there : {A : Type 0} (xs : List A) (n k : ℕ) (y v x : A) → slice_get xs n ≡ Some y → slice_get xs k ≡ Some x → (z : A) × (slice_get (slice_set xs n v) k ≡ Some z)
set-there xs n k y v x h e = elim (same-or-not n k) [
  | inl i ↦ (v, ap (slice_get (slice_set xs n v)) (sym i) ∙ set-same xs n y v h)
  | inr i ↦ (x, set-other xs n k v i ∙ e)
]

-- ---- what is asked so far

-- L holds of the functions that are asked to answer GET, and P of those that are asked to answer POST
record Tracks (L P : ℕ → Type 0) (a : Aims) : Type 0 where
  get : (f : ℕ) (x : Aim) → slice_get a.of f ≡ Some x → IsTrue x.get ↔ L f
  post : (f : ℕ) (x : Aim) → slice_get a.of f ≡ Some x → IsTrue x.post ↔ P f
  linked : a.lost ≡ false → (f : ℕ) → L f → (x : Aim) × (slice_get a.of f ≡ Some x)
  acted : a.lost ≡ false → (f : ℕ) → P f → (x : Aim) × (slice_get a.of f ≡ Some x)

along : {A B C : Type 0} → A ↔ B → B ↔ C → A ↔ C
along h k = ((λ a. k.0 (h.0 a)), (λ c. h.1 (k.1 c)))

tracks-as : {L P M Q : ℕ → Type 0} (a : Aims) → ((f : ℕ) → L f ↔ M f) → ((f : ℕ) → P f ↔ Q f) → Tracks L P a → Tracks M Q a
tracks-as a h k t = record {
  get = λ f x e. along (t.get f x e) (h f);
  post = λ f x e. along (t.post f x e) (k f);
  linked = λ n f m. t.linked n f ((h f).1 m);
  acted = λ n f q. t.acted n f ((k f).1 q);
}

none-there : {A : Type 0} (f : A → Aim) (xs : List A) (n : ℕ) (x : Aim) → slice_get (map f xs) n ≡ Some x → (y : A) × (f y ≡ x)
none-there f [] n x h = absurd (some_none (sym h))
none-there f (y ∷ ys) zero x h = (y, some_of h)
none-there f (y ∷ ys) (suc n) x h = none-there f ys n x h

abbrev Nobody : ℕ → Type 0
Nobody f = ⊥

abbrev no_one : {A : Type 0} → A → Aim
no_one f = no_method

tracks-none : {A : Type 0} (xs : List A) (a : Aims) → a.of ≡ map no_one xs → Tracks Nobody Nobody a
tracks-none xs a e = record {
  get = λ f x h. ((λ g. true≢false (sym g ∙ ap (λ (z : Aim). z.get) (sym (none-there no_one xs f x (ap (λ l. slice_get l f) (sym e) ∙ h)).1))), (λ b. absurd b));
  post = λ f x h. ((λ g. true≢false (sym g ∙ ap (λ (z : Aim). z.post) (sym (none-there no_one xs f x (ap (λ l. slice_get l f) (sym e) ∙ h)).1))), (λ b. absurd b));
  linked = λ n f b. absurd b;
  acted = λ n f b. absurd b;
}

-- one function more is asked to answer GET
got : {L P : ℕ → Type 0} (n : ℕ) (a : Aims) (o : Option Aim) → slice_get a.of n ≡ o → Tracks L P a → Tracks (λ f. L f ⊎ (n ≡ f)) P (changed with_get n o a)
got {L} {P} n a None h t = record {
  get = λ f x e. ((λ g. inl ((t.get f x e).0 g)), (λ s. elim s [ inl l ↦ (t.get f x e).1 l | inr i ↦ absurd (some_none (sym (ap (slice_get a.of) i ∙ e) ∙ h)) ]));
  post = t.post;
  linked = λ e f s. absurd (true≢false e);
  acted = λ e f s. absurd (true≢false e);
}
got {L} {P} n a (Some y) h t = record {
  get = λ f x e. elim (set-cases a.of n f y (with_get y) x h e) [
    | inl i ↦ ((λ g. inr i.0), (λ s. ap (λ (z : Aim). z.get) (sym i.1)))
    | inr i ↦ ((λ g. inl ((t.get f x i.1).0 g)), (λ s. elim s [ inl l ↦ (t.get f x i.1).1 l | inr j ↦ absurd (i.0 j) ]))
  ];
  post = λ f x e. elim (set-cases a.of n f y (with_get y) x h e) [
    | inl i ↦ ((λ g. (t.post f y (ap (slice_get a.of) (sym i.0) ∙ h)).0 (ap (λ (z : Aim). z.post) i.1 ∙ g)), (λ s. ap (λ (z : Aim). z.post) (sym i.1) ∙ (t.post f y (ap (slice_get a.of) (sym i.0) ∙ h)).1 s))
    | inr i ↦ t.post f x i.1
  ];
  linked = λ e f s. elim s [
    | inl l ↦ let r = t.linked e f l in set-there a.of n f y (with_get y) r.0 h r.1
    | inr i ↦ (with_get y, ap (slice_get (slice_set a.of n (with_get y))) (sym i) ∙ set-same a.of n y (with_get y) h)
  ];
  acted = λ e f p. let r = t.acted e f p in set-there a.of n f y (with_get y) r.0 h r.1;
}

posted : {L P : ℕ → Type 0} (n : ℕ) (a : Aims) (o : Option Aim) → slice_get a.of n ≡ o → Tracks L P a → Tracks L (λ f. P f ⊎ (n ≡ f)) (changed with_post n o a)
posted {L} {P} n a None h t = record {
  get = t.get;
  post = λ f x e. ((λ g. inl ((t.post f x e).0 g)), (λ s. elim s [ inl l ↦ (t.post f x e).1 l | inr i ↦ absurd (some_none (sym (ap (slice_get a.of) i ∙ e) ∙ h)) ]));
  linked = λ e f s. absurd (true≢false e);
  acted = λ e f s. absurd (true≢false e);
}
posted {L} {P} n a (Some y) h t = record {
  get = λ f x e. elim (set-cases a.of n f y (with_post y) x h e) [
    | inl i ↦ ((λ g. (t.get f y (ap (slice_get a.of) (sym i.0) ∙ h)).0 (ap (λ (z : Aim). z.get) i.1 ∙ g)), (λ s. ap (λ (z : Aim). z.get) (sym i.1) ∙ (t.get f y (ap (slice_get a.of) (sym i.0) ∙ h)).1 s))
    | inr i ↦ t.get f x i.1
  ];
  post = λ f x e. elim (set-cases a.of n f y (with_post y) x h e) [
    | inl i ↦ ((λ g. inr i.0), (λ s. ap (λ (z : Aim). z.post) (sym i.1)))
    | inr i ↦ ((λ g. inl ((t.post f x i.1).0 g)), (λ s. elim s [ inl l ↦ (t.post f x i.1).1 l | inr j ↦ absurd (i.0 j) ]))
  ];
  linked = λ e f l. let r = t.linked e f l in set-there a.of n f y (with_post y) r.0 h r.1;
  acted = λ e f s. elim s [
    | inl p ↦ let r = t.acted e f p in set-there a.of n f y (with_post y) r.0 h r.1
    | inr i ↦ (with_post y, ap (slice_get (slice_set a.of n (with_post y))) (sym i) ∙ set-same a.of n y (with_post y) h)
  ];
}

-- ---- entries, and then links and actions

to-right : {A B C : Type 0} → ((A ⊎ B) ⊎ C) ↔ (A ⊎ (B ⊎ C))
to-right = ((λ s. elim s [ inl t ↦ elim t [ inl a ↦ inl a | inr b ↦ inr (inl b) ] | inr c ↦ inr (inr c) ]), (λ s. elim s [ inl a ↦ inl (inl a) | inr t ↦ elim t [ inl b ↦ inl (inr b) | inr c ↦ inr c ] ]))

no-more : {A : Type 0} → A ↔ (A ⊎ ⊥)
no-more = ((λ a. inl a), (λ s. elim s [ inl a ↦ a | inr b ↦ absurd b ]))

-- one that is no other
right-as : {A B C D : Type 0} → (B ↔ D) → (A ⊎ (B ⊎ C)) ↔ (A ⊎ (D ⊎ C))
right-as h = ((λ s. elim s [ inl a ↦ inl a | inr t ↦ elim t [ inl b ↦ inr (inl (h.0 b)) | inr c ↦ inr (inr c) ] ]), (λ s. elim s [ inl a ↦ inl a | inr t ↦ elim t [ inl d ↦ inr (inl (h.1 d)) | inr c ↦ inr (inr c) ] ]))

past : {A B C : Type 0} → (B → ⊥) → (A ⊎ C) ↔ (A ⊎ (B ⊎ C))
past h = ((λ s. elim s [ inl a ↦ inl a | inr c ↦ inr (inr c) ]), (λ s. elim s [ inl a ↦ inl a | inr t ↦ elim t [ inl b ↦ absurd (h b) | inr c ↦ inr c ] ]))

same : {A : Type 0} → A ↔ A
same = ((λ a. a), (λ a. a))

link-is : (n f : ℕ) → (n ≡ f) ↔ (link n ≡ link f)
link-is n f = ((λ e. ap link e), (λ e. cc))

action-is : (n f : ℕ) → (n ≡ f) ↔ (action n ≡ action f)
action-is n f = ((λ e. ap action e), (λ e. cc))

link-no-action : (n f : ℕ) → link n ≡ action f → ⊥
link-no-action n f e = cc

action-no-link : (n f : ℕ) → action n ≡ link f → ⊥
action-no-link n f e = cc

site-no-link : (n f : ℕ) → site n ≡ link f → ⊥
site-no-link n f e = cc

site-no-action : (n f : ℕ) → site n ≡ action f → ⊥
site-no-action n f e = cc

update-no-link : (n f : ℕ) → update n ≡ link f → ⊥
update-no-link n f e = cc

update-no-action : (n f : ℕ) → update n ≡ action f → ⊥
update-no-action n f e = cc

tracks-entries : {L P : ℕ → Type 0} (ns : List ℕ) (a : Aims) → Tracks L P a → Tracks (λ f. L f ⊎ In f ns) P (linked_by ns a)
tracks-entries [] a t = tracks-as a (λ f. no-more) (λ f. same) t
tracks-entries {L} {P} (n ∷ ns) a t = tracks-as (linked_by (n ∷ ns) a) (λ f. to-right) (λ f. same) (tracks-entries ns (marked with_get n a) (got n a (slice_get a.of n) refl t))

tracks-all : {L P : ℕ → Type 0} (os : List Occurrence) (a : Aims) → Tracks L P a → Tracks (λ f. L f ⊎ In (link f) os) (λ f. P f ⊎ In (action f) os) (aimed_by os a)
tracks-all [] a t = tracks-as a (λ f. no-more) (λ f. no-more) t
tracks-all (link n ∷ os) a t = tracks-as (aimed_by (link n ∷ os) a) (λ f. along to-right (right-as (link-is n f))) (λ f. past (link-no-action n f)) (tracks-all os (marked with_get n a) (got n a (slice_get a.of n) refl t))
tracks-all (action n ∷ os) a t = tracks-as (aimed_by (action n ∷ os) a) (λ f. past (action-no-link n f)) (λ f. along to-right (right-as (action-is n f))) (tracks-all os (marked with_post n a) (posted n a (slice_get a.of n) refl t))
tracks-all (site n ∷ os) a t = tracks-as (aimed_by (site n ∷ os) a) (λ f. past (site-no-link n f)) (λ f. past (site-no-action n f)) (tracks-all os a t)
tracks-all (update n ∷ os) a t = tracks-as (aimed_by (update n ∷ os) a) (λ f. past (update-no-link n f)) (λ f. past (update-no-action n f)) (tracks-all os a t)

-- ---- the whole

all-flat : (es : List Exp) → all_occurrences es ≡ flat_map occurrences es
all-flat [] = refl
all-flat (e ∷ es) = ap (λ os. occurrences e ++ os) (all-flat es)

all-both : (es ds : List Exp) (a : Aims) → exps_aim ds (exps_aim es a) ≡ aimed_by (all_occurrences (es ++ ds)) a
unfolding exps_aim
all-both es ds a = sym (each-is occurrences ds (each_by occurrences es a)) ∙ ap (λ os. aimed_by os (each_by occurrences es a)) (sym (all-flat ds)) ∙ front es a
  where
    front : (es : List Exp) (a : Aims) → aimed_by (all_occurrences ds) (each_by occurrences es a) ≡ aimed_by (all_occurrences (es ++ ds)) a
    front [] a = refl
    front (e ∷ es) a = front es (aimed_by (occurrences e) a) ∙ sym (after (occurrences e) (all_occurrences (es ++ ds)) a)

entered : (entries : List ℕ) (all : List Occurrence) (f : ℕ) → ((⊥ ⊎ In f entries) ⊎ In (link f) all) ↔ IsLinked entries all f
entered entries all f = (
  (λ s. elim s [ inl t ↦ elim t [ inl b ↦ absurd b | inr i ↦ inl (contains-in f entries i) ] | inr i ↦ inr (contains-in (link f) all i) ]),
  (λ s. elim s [ inl c ↦ inl (inr (in-contains f entries c)) | inr c ↦ inr (in-contains (link f) all c) ]),
)

acting : (all : List Occurrence) (f : ℕ) → (⊥ ⊎ In (action f) all) ↔ Contains all (action f)
acting all f = ((λ s. elim s [ inl b ↦ absurd b | inr i ↦ contains-in (action f) all i ]), (λ c. inr (in-contains (action f) all c)))

pub aims-are : {A : Type 0} (fs : List A) (entries : List ℕ) (vals bodies : List Exp) (a b c d : Aims) → a.of ≡ map (λ f. no_method) fs → b ≡ linked_by entries a → c ≡ exps_aim vals b → d ≡ exps_aim bodies c → d.lost ≡ false →
    AreAims entries (all_occurrences (vals ++ bodies)) d.of
aims-are fs entries vals bodies a b c d none eb ec ed kept =
    let all : List Occurrence = all_occurrences (vals ++ bodies) in
    let is : d ≡ aimed_by all (linked_by entries a) = ed ∙ ap (exps_aim bodies) (ec ∙ ap (exps_aim vals) eb) ∙ all-both vals bodies (linked_by entries a) in
    let t : Tracks (λ f. IsLinked entries all f) (λ f. Contains all (action f)) d =
    subst (Tracks (λ f. IsLinked entries all f) (λ f. Contains all (action f))) (sym is)
    (tracks-as (aimed_by all (linked_by entries a)) (entered entries all) (acting all) (tracks-all all (linked_by entries a) (tracks-entries entries a (tracks-none fs a none)))) in
    record { get = t.get; post = t.post; linked = t.linked kept; acted = t.acted kept }
