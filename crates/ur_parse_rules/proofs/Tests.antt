-- Classes that have no token in common, and classes within others.
use Rattle.std.specs.Prelude.{◌≡◌, Bool, true, false, not, ◌&&◌, ◌||◌, ◌==◌, List, [], ◌∷◌, ◌++◌, refl}
use Rattle.std.specs.List.{list_all}
use Rattle.std.specs.Str.{bytes_eq}
use Rattle.std.proofs.Common.{sym, ◌∙◌, subst}
use Rattle.std.proofs.lemmas.Bool.{eqb-true, eq-eqb}
use Rattle.std.proofs.lemmas.Slice.Eq.{bytes_eq-Decides}
use Rattle.ur_lex.specs.declared.token.TokenKind.{TokenKind}
use Rattle.ur_lex.specs.Spelling.{Text, is_among}
use Rattle.ur_parse_rules.specs.KindNumbers.{kind_number}
use Rattle.ur_parse_rules.specs.Classes.{Test, every, just, but, by, passes, Class, Classes, in_class, member}

-- ---- Bool

pub false_true : {A : Type 0} → false ≡ true → A
false_true e = absurd (let z : true ≡ false = sym e in cc)

pub and_left : (a b : Bool) → (a && b) ≡ true → a ≡ true
and_left true b e = refl
and_left false b e = e

pub and_right : (a b : Bool) → (a && b) ≡ true → b ≡ true
and_right true b e = e
and_right false b e = false_true e

pub and_true : {a b : Bool} → a ≡ true → b ≡ true → (a && b) ≡ true
and_true e f = rw (e, f) refl

pub not_true : (b : Bool) → not b ≡ true → b ≡ false
not_true true e = sym e
not_true false e = refl

pub is_not : (b : Bool) → (b ≡ true → false ≡ true) → b ≡ false
is_not true f = sym (f refl)
is_not false f = refl

pub or_true : {A : Type 0} (a b : Bool) → (a || b) ≡ true → (a ≡ true → A) → (b ≡ true → A) → A
or_true true b e f g = f refl
or_true false b e f g = g e

pub or_first : (a b : Bool) → a ≡ true → (a || b) ≡ true
or_first true b e = refl
or_first false b e = false_true e

pub or_second : (a b : Bool) → b ≡ true → (a || b) ≡ true
or_second true b e = refl
or_second false b e = e

pub contrary : {a b : Bool} → (a ≡ true → b ≡ true) → b ≡ false → a ≡ false
contrary {a = a} f e = is_not a (λ h. sym e ∙ f h)

-- ---- tests

same_word : (w u : Text) → bytes_eq w u ≡ true → w ≡ u
same_word w u e = (bytes_eq-Decides w u).0 e

among : (us : List Text) (w : Text) (P : Text → Bool) → list_all P us ≡ true → is_among us w ≡ true → P w ≡ true
among [] w P a e = false_true e
among (u ∷ us) w P a e = or_true (bytes_eq w u) (is_among us w) e (λ h. let z = same_word w u h in subst (λ y. P y ≡ true) (sym z) (and_left (P u) _ a)) (λ h. among us w P (and_right (P u) _ a) h)

-- whether two tests may be passed by one word
abbrev pub may_meet : Test → Test → Bool
may_meet (just u) t = passes t u
may_meet t (just u) = passes t u
may_meet _ _ = true

meets : (s t : Test) (w : Text) → passes s w ≡ true → passes t w ≡ true → may_meet s t ≡ true
meets (just u) t w a b = subst (λ y. passes t y ≡ true) (same_word w u a) b
meets every (just u) w a b = refl
meets (but us) (just u) w a b = subst (λ y. passes (but us) y ≡ true) (same_word w u b) a
meets (by ok) (just u) w a b = subst (λ y. ok y ≡ true) (same_word w u b) a
meets every every w a b = refl
meets every (but us) w a b = refl
meets every (by ok) w a b = refl
meets (but us) every w a b = refl
meets (but us) (but vs) w a b = refl
meets (but us) (by ok) w a b = refl
meets (by ok) every w a b = refl
meets (by ok) (but us) w a b = refl
meets (by ok) (by o) w a b = refl

-- whether each word that passes the one test passes the other
abbrev pub is_within : Test → Test → Bool
is_within s every = true
is_within (just u) t = passes t u
is_within (by ok) (but us) = list_all (λ u. not (ok u)) us
is_within (but us) (but vs) = list_all (λ v. is_among us v) vs
is_within _ _ = false

not_among : (us : List Text) (w : Text) (P : Text → Bool) → list_all (λ u. not (P u)) us ≡ true → P w ≡ true → not (is_among us w) ≡ true
not_among us w P a e = let z : is_among us w ≡ false = is_not (is_among us w) (λ h. let y = among us w (λ u. not (P u)) a h in sym (not_true (P w) y) ∙ e) in rw z refl

passes_within : (s t : Test) (w : Text) → is_within s t ≡ true → passes s w ≡ true → passes t w ≡ true
passes_within s every w i e = refl
passes_within (just u) (just v) w i e = subst (λ y. passes (just v) y ≡ true) (sym (same_word w u e)) i
passes_within (just u) (but us) w i e = subst (λ y. passes (but us) y ≡ true) (sym (same_word w u e)) i
passes_within (just u) (by ok) w i e = subst (λ y. ok y ≡ true) (sym (same_word w u e)) i
passes_within (by ok) (but us) w i e = not_among us w ok i e
passes_within (but us) (but vs) w i e = let z : is_among vs w ≡ false = is_not (is_among vs w) (λ h. let y = among vs w (λ v. is_among us v) i h in sym (not_true _ e) ∙ y) in rw z refl
passes_within every (just u) w i e = false_true i
passes_within every (but us) w i e = false_true i
passes_within every (by ok) w i e = false_true i
passes_within (but us) (just u) w i e = false_true i
passes_within (but us) (by ok) w i e = false_true i
passes_within (by ok) (just u) w i e = false_true i
passes_within (by ok) (by o) w i e = false_true i

-- ---- classes

abbrev pub meet_if : Bool → Test → Test → Bool
meet_if true s t = may_meet s t
meet_if false s t = false

abbrev pub touch : Class → Class → Bool
touch c d = meet_if (c.kind == d.kind) c.test d.test

abbrev pub free_of : Class → Classes → Bool
free_of c [] = true
free_of c (d ∷ ds) = not (touch c d) && free_of c ds

-- no token is in both
abbrev pub apart : Classes → Classes → Bool
apart [] ds = true
apart (c ∷ cs) ds = free_of c ds && apart cs ds

abbrev pub within_if : Bool → Test → Test → Bool
within_if true s t = is_within s t
within_if false s t = false

abbrev pub lies_in : Class → Class → Bool
lies_in c d = within_if (c.kind == d.kind) c.test d.test

abbrev pub covered : Class → Classes → Bool
covered c [] = false
covered c (d ∷ ds) = lies_in c d || covered c ds

-- each token of the one is in the other
abbrev pub within : Classes → Classes → Bool
within [] ds = true
within (c ∷ cs) ds = covered c ds && within cs ds

numbers_same : (c d : Class) (k : TokenKind) → (c.kind == kind_number k) ≡ true → (d.kind == kind_number k) ≡ true → (c.kind == d.kind) ≡ true
numbers_same c d k e f = eq-eqb _ _ (eqb-true c.kind (kind_number k) e ∙ sym (eqb-true d.kind (kind_number k) f))

touches : (c d : Class) (k : TokenKind) (w : Text) → in_class c k w ≡ true → in_class d k w ≡ true → touch c d ≡ true
touches c d k w e f = let z = numbers_same c d k (and_left _ _ e) (and_left _ _ f) in rw z (meets c.test d.test w (and_right _ _ e) (and_right _ _ f))

free : (c : Class) (ds : Classes) (k : TokenKind) (w : Text) → free_of c ds ≡ true → in_class c k w ≡ true → member ds k w ≡ true → false ≡ true
free c [] k w a e f = f
free c (d ∷ ds) k w a e f = or_true (in_class d k w) (member ds k w) f (λ h. sym (not_true (touch c d) (and_left _ _ a)) ∙ touches c d k w e h) (λ h. free c ds k w (and_right _ _ a) e h)

both : (cs ds : Classes) (k : TokenKind) (w : Text) → apart cs ds ≡ true → member cs k w ≡ true → member ds k w ≡ true → false ≡ true
both [] ds k w a e f = e
both (c ∷ cs) ds k w a e f = or_true (in_class c k w) (member cs k w) e (λ h. free c ds k w (and_left _ _ a) h f) (λ h. both cs ds k w (and_right _ _ a) h f)

pub not_both : (cs ds : Classes) (k : TokenKind) (w : Text) → apart cs ds ≡ true → member cs k w ≡ true → member ds k w ≡ false
not_both cs ds k w a e = is_not (member ds k w) (λ f. both cs ds k w a e f)

pub nor_both : (cs ds : Classes) (k : TokenKind) (w : Text) → apart cs ds ≡ true → member ds k w ≡ true → member cs k w ≡ false
nor_both cs ds k w a f = is_not (member cs k w) (λ e. both cs ds k w a e f)

lies_if : (b : Bool) (s t : Test) → within_if b s t ≡ true → (b ≡ true) × (is_within s t ≡ true)
lies_if true s t i = (refl, i)
lies_if false s t i = false_true i

covers : (c : Class) (ds : Classes) (k : TokenKind) (w : Text) → covered c ds ≡ true → in_class c k w ≡ true → member ds k w ≡ true
covers c [] k w a e = a
covers c (d ∷ ds) k w a e = or_true (lies_in c d) (covered c ds) a
    (λ h. let l = lies_if (c.kind == d.kind) c.test d.test h in
    or_first (in_class d k w) (member ds k w) (and_true (subst (λ n. (n == kind_number k) ≡ true) (eqb-true c.kind d.kind l.0) (and_left _ _ e)) (passes_within c.test d.test w l.1 (and_right (c.kind == kind_number k) _ e))))
    (λ h. or_second (in_class d k w) (member ds k w) (covers c ds k w h e))

pub inside : (cs ds : Classes) (k : TokenKind) (w : Text) → within cs ds ≡ true → member cs k w ≡ true → member ds k w ≡ true
inside [] ds k w a e = false_true e
inside (c ∷ cs) ds k w a e = or_true (in_class c k w) (member cs k w) e (λ h. covers c ds k w (and_left _ _ a) h) (λ h. inside cs ds k w (and_right _ _ a) h)

pub member_append : (cs ds : Classes) (k : TokenKind) (w : Text) → member cs k w ≡ true → member (cs ++ ds) k w ≡ true
member_append [] ds k w e = false_true e
member_append (c ∷ cs) ds k w e = or_true (in_class c k w) (member cs k w) e (λ h. or_first _ _ h) (λ h. or_second (in_class c k w) _ (member_append cs ds k w h))

pub member_behind : (cs ds : Classes) (k : TokenKind) (w : Text) → member ds k w ≡ true → member (cs ++ ds) k w ≡ true
member_behind [] ds k w e = e
member_behind (c ∷ cs) ds k w e = or_second (in_class c k w) _ (member_behind cs ds k w e)
