-- Fields as types hold them, and as pairs.
use Rattle.std.proofs.Common.{◌≡◌, suc, Bool, true, false, not, ◌&&◌, if◌then◌else◌, List, [], ◌∷◌, length, Option, Some, None, refl, sym, ap, ◌∙◌, arith, true≢false}
use Rattle.std.specs.Prelude.{◌==◌, nat_lt, map, find, is_none, option_map}
use Rattle.std.specs.List.{AllByRecursion}
use Rattle.std.proofs.lemmas.List.Elements.{All-from_recursion, recursion_from_All}
use Rattle.ur_base.specs.declared.names.Name.{Name}
use Rattle.ur_values.specs.declared.types.ValueType.{ValueType}
use Rattle.ur_values.specs.declared.types.ValueType.TheVariants as ty
use Rattle.ur_values.specs.declared.types.TypeField.{TypeField}
use Rattle.ur_terms.specs.Values.{with_field, fields_together, field_at, without_field, fields_of}
use Rattle.ur_terms.specs.Types.{typed_field, record_type, form_type, AreApart}
use Rattle.ur_verify_operations.specs.Fields.{type_at, with_type, types_together, without_type, are_apart, named, pair}

abbrev pub Pairs : Type 0
Pairs = List (Name × ValueType)

abbrev pub pairs : List TypeField → Pairs
pairs = map pair

pub unpaired : (fs : List TypeField) → map typed_field (pairs fs) ≡ fs
unpaired [] = refl
unpaired (f ∷ fs) = ap (λ gs. f ∷ gs) (unpaired fs)

pub repaired : (fs : Pairs) → pairs (map typed_field fs) ≡ fs
repaired [] = refl
repaired (f ∷ fs) = ap (λ gs. f ∷ gs) (repaired fs)

pub record_is : (fs : List TypeField) → ty.Record fs ≡ record_type (pairs fs)
record_is fs = ap (λ gs. ty.Record gs) (sym (unpaired fs))

pub form_is : (fs : List TypeField) → ty.Form fs ≡ form_type (pairs fs)
form_is fs = ap (λ gs. ty.Form gs) (sym (unpaired fs))

found : (b : Bool) (f : TypeField) (o : Option (Name × ValueType)) (p : Option ValueType) → option_map (λ g. g.1) o ≡ p
    → option_map (λ g. g.1) (if b then Some (pair f) else o) ≡ (if b then Some f.of else p)
found true f o p e = refl
found false f o p e = e

pub at_is : (n : Name) (fs : List TypeField) → field_at n (pairs fs) ≡ type_at n fs
at_is n [] = refl
at_is n (f ∷ fs) = found (f.name.0 == n.0) f (find (λ g. g.0.0 == n.0) (pairs fs)) (type_at n fs) (at_is n fs)

placed : (b : Bool) (f g : TypeField) (gs hs : List TypeField) (ks : Pairs) → pairs hs ≡ ks
    → pairs (if b then f ∷ g ∷ gs else g ∷ hs) ≡ (if b then pair f ∷ pair g ∷ pairs gs else pair g ∷ ks)
placed true f g gs hs ks e = refl
placed false f g gs hs ks e = ap (λ ls. pair g ∷ ls) e

pub with_is : (f : TypeField) (gs : List TypeField) → pairs (with_type f gs) ≡ with_field (pair f) (pairs gs)
with_is f [] = refl
with_is f (g ∷ gs) = placed (nat_lt f.name.0 g.name.0) f g gs (with_type f gs) (with_field (pair f) (pairs gs)) (with_is f gs)

pub together_is : (fs gs : List TypeField) → pairs (types_together fs gs) ≡ fields_together (pairs fs) (pairs gs)
together_is [] gs = refl
together_is (f ∷ fs) gs = with_is f (types_together fs gs) ∙ ap (with_field (pair f)) (together_is fs gs)

kept : (b : Bool) (f : TypeField) (gs : List TypeField) (hs : Pairs) → pairs gs ≡ hs → pairs (if b then f ∷ gs else gs) ≡ (if b then pair f ∷ hs else hs)
kept true f gs hs e = ap (λ ls. pair f ∷ ls) e
kept false f gs hs e = e

pub without_is : (n : Name) (fs : List TypeField) → pairs (without_type n fs) ≡ without_field n (pairs fs)
without_is n [] = refl
without_is n (f ∷ fs) = kept (not (f.name.0 == n.0)) f (without_type n fs) (without_field n (pairs fs)) (without_is n fs)

none_is : {A : Type 0} (o : Option A) → is_none o ≡ true → o ≡ None
none_is None e = refl
none_is (Some x) e = absurd (true≢false (sym e))

is_none_of : {A : Type 0} (o : Option A) → o ≡ None → is_none o ≡ true
is_none_of None e = refl
is_none_of (Some x) e = cc

both : (a b : Bool) → (a && b) ≡ true → (a ≡ true) × (b ≡ true)
both true true e = (refl, refl)
both true false e = absurd (true≢false (sym e))
both false b e = absurd (true≢false (sym e))

from_both : (a b : Bool) → a ≡ true → b ≡ true → (a && b) ≡ true
from_both true b e h = h
from_both false b e h = e

abbrev Apart : Pairs → Pairs → Type 0
Apart gs = AllByRecursion (λ f. field_at f.0 gs ≡ None)

apart_rows : (fs gs : List TypeField) → are_apart fs gs ≡ true → Apart (pairs gs) (pairs fs)
apart_rows [] gs e = tt
apart_rows (f ∷ fs) gs e =
    let h = both (is_none (type_at f.name gs)) (are_apart fs gs) e in
    (at_is f.name gs ∙ none_is (type_at f.name gs) h.0, apart_rows fs gs h.1)

rows_apart : (fs gs : List TypeField) → Apart (pairs gs) (pairs fs) → are_apart fs gs ≡ true
rows_apart [] gs h = refl
rows_apart (f ∷ fs) gs h =
    from_both (is_none (type_at f.name gs)) (are_apart fs gs) (is_none_of (type_at f.name gs) (sym (at_is f.name gs) ∙ h.0)) (rows_apart fs gs h.1)

pub apart_from : (fs gs : List TypeField) → are_apart fs gs ≡ true → AreApart (pairs fs) (pairs gs)
apart_from fs gs e = All-from_recursion (λ f. field_at f.0 (pairs gs) ≡ None) (pairs fs) (apart_rows fs gs e)

pub apart_to : (fs gs : List TypeField) → AreApart (pairs fs) (pairs gs) → are_apart fs gs ≡ true
apart_to fs gs h = rows_apart fs gs (recursion_from_All (λ f. field_at f.0 (pairs gs) ≡ None) (pairs fs) h)

-- ---- names with their types

pub named_is : (ns : List Name) (ts : List ValueType) → length ns ≡ length ts → fields_of ns ts ≡ Some (pairs (types_together (named ns ts) []))
named_is [] [] e = refl
named_is [] (t ∷ ts) e = absurd (omega (arith, e))
named_is (n ∷ ns) [] e = absurd (omega (arith, e))
named_is (n ∷ ns) (t ∷ ts) e =
    ap (option_map (with_field (n, t))) (named_is ns ts (omega (arith, e))) ∙ ap (λ fs. Some fs) (sym (with_is (record { name = n; of = t }) (types_together (named ns ts) [])))

some_back : {A B : Type 0} (f : A → B) (o : Option A) (y : B) → option_map f o ≡ Some y → (x : A) × (o ≡ Some x)
some_back f None y e = cc
some_back f (Some x) y e = (x, refl)

pub named_long : (ns : List Name) (ts : List ValueType) (fs : Pairs) → fields_of ns ts ≡ Some fs → length ns ≡ length ts
named_long [] [] fs e = refl
named_long [] (t ∷ ts) fs e = cc
named_long (n ∷ ns) [] fs e = cc
named_long (n ∷ ns) (t ∷ ts) fs e = let b = some_back (with_field (n, t)) (fields_of ns ts) fs e in ap suc (named_long ns ts b.0 b.1)
