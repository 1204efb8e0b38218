-- The table of operations, over plain lists of types.
use Rattle.std.proofs.Common.{◌≡◌, ◌≢◌, ℕ, zero, suc, ◌<◌, ◌≤◌, Bool, true, false, if◌then◌else◌, ◌+◌, not, List, [], ◌∷◌, ◌++◌, length, take, get_or, Option, Some, None, refl, sym, ap, ap₂, ◌∙◌, subst, arith, add-one, true≢false}
use Rattle.std.specs.Prelude.{nat_lt, map, AllPairs, Contains, IsTrue, ◌↔◌, is_some}
use Rattle.std.proofs.lemmas.List.{take_more, take_all}
use Rattle.std.proofs.lemmas.List.Quantifiers.{all_pairs_push}
use Rattle.std.proofs.lemmas.Option.{slice_get-get_or, get_or_from_slice_get}
use Rattle.std.specs.List.{insert}
use Rattle.ur_base.specs.declared.names.Name.{Name}
use Rattle.ur_values.specs.declared.value.Tag.{Tag}
use Rattle.ur_values.specs.declared.value.Tag.TheVariants as tag
use Rattle.ur_values.specs.declared.types.ValueType.{ValueType}
use Rattle.ur_values.specs.declared.types.ValueType.TheVariants as ty
use Rattle.ur_values.specs.declared.types.TypeField.{TypeField}
use Rattle.ur_terms.specs.declared.term.Op.TheVariants as op
use Rattle.ur_terms.specs.Values.{field_at}
use Rattle.ur_terms.specs.Types.{Signature, OpType, MakeUp, typed_field, form_type, record_type, AreApart, IsInFlow, Stands, stands_head, stands_title, stands_body, stands_table, stands_row, stands_cell, stands_header, stands_form, Holds, ElementStands, of_its_own, as_its_parts}
use Rattle.ur_verify_operations.specs.declared.markup.Place.{Place}
use Rattle.ur_verify_operations.specs.declared.markup.Place.TheVariants as place
use Rattle.ur_verify_operations.specs.Fields.{type_at, place_of, with_type, types_together, without_type, are_apart, named}
use Rattle.ur_verify_operations.specs.Parts.{place_in}
use Rattle.ur_verify_operations.proofs.FieldTypes.{Pairs, pairs, repaired, record_is, form_is, at_is, together_is, without_is, apart_from, apart_to, named_is, named_long}
use Rattle.ur_verify_operations.proofs.SameTypes.{record_same}

none_some : {A : Type 0} {x : A} {B : Type 0} → None ≡ Some x → B
none_some e = absurd (apart e)
  where
    apart : {A : Type 0} {x : A} → None ≡ Some x → ⊥
    apart e = cc

-- ---- lists of one and two

pub same_one : {a b : ValueType} → a ∷ [] ≡ b ∷ [] → a ≡ b
same_one e = cc

pub same_two : {a b x y : ValueType} → a ∷ b ∷ [] ≡ x ∷ y ∷ [] → (a ≡ x) × (b ≡ y)
same_two e = (cc, cc)

-- ---- fields

pub together_end : (fs : List TypeField) (f : TypeField) (gs : List TypeField) → types_together (fs ++ f ∷ []) gs ≡ types_together fs (with_type f gs)
together_end [] f gs = refl
together_end (x ∷ fs) f gs = ap (with_type x) (together_end fs f gs)

pub together_step : (whole left rest made new : List TypeField) (f copy : TypeField) → left ≡ rest ++ f ∷ [] → copy ≡ f → new ≡ with_type copy made → types_together left made ≡ whole
    → types_together rest new ≡ whole
together_step whole left rest made new f copy e g n k =
    ap (types_together rest) (n ∙ ap (λ x. with_type x made) g) ∙ sym (together_end rest f made) ∙ ap (λ xs. types_together xs made) (sym e) ∙ k

insertion : (b : Bool) (f g : TypeField) (gs hs : List TypeField) (n : ℕ) → insert gs n f ≡ hs → insert (g ∷ gs) (if b then 0 else suc n) f ≡ (if b then f ∷ g ∷ gs else g ∷ hs)
insertion true f g gs hs n e = refl
insertion false f g gs hs n e = ap (λ ls. g ∷ ls) e

pub inserted_is : (f : TypeField) (gs : List TypeField) → insert gs (place_of f.name gs) f ≡ with_type f gs
inserted_is f [] = refl
inserted_is f (g ∷ gs) = insertion (nat_lt f.name.0 g.name.0) f g gs (with_type f gs) (place_of f.name gs) (inserted_is f gs)

pub named_push : (ns : List Name) (ts : List ValueType) (i : ℕ) (n : Name) (t : ValueType) → i < length ns → i < length ts → n ≡ get_or ns i n → t ≡ get_or ts i t
    → named (take (suc i) ns) (take (suc i) ts) ≡ named (take i ns) (take i ts) ++ (record { name = n; of = t }) ∷ []
named_push [] ts i n t h k e f = absurd (omega (arith, h))
named_push (m ∷ ns) [] i n t h k e f = absurd (omega (arith, k))
named_push (m ∷ ns) (u ∷ ts) zero n t h k e f = ap₂ (λ x y. (record { name = x; of = y }) ∷ []) (sym e) (sym f)
named_push (m ∷ ns) (u ∷ ts) (suc i) n t h k e f =
    ap (λ ls. (record { name = m; of = u }) ∷ ls) (named_push ns ts i n t (omega (arith, h)) (omega (arith, k)) e f)

pub named_more : (ns : List Name) (ts : List ValueType) (i : ℕ) (d : Name) (t copy : ValueType) (old made : List TypeField) → i < length ns → length ns ≡ length ts → t ≡ get_or ts i t
    → copy ≡ t → old ≡ named (take i ns) (take i ts) → made ≡ old ++ (record { name = get_or ns i d; of = copy }) ∷ [] → made ≡ named (take (i + 1) ns) (take (i + 1) ts)
named_more ns ts i d t copy old made h l e f inv is =
    rw (add-one)
    (is ∙ ap₂ (λ ls c. ls ++ (record { name = get_or ns i d; of = c }) ∷ []) inv f
    ∙ sym (named_push ns ts i (get_or ns i d) t h (subst (λ n. i < n) l h) (read_any ns i d h) e))
  where
    read_any : (xs : List Name) (k : ℕ) (x : Name) → k < length xs → get_or xs k x ≡ get_or xs k (get_or xs k x)
    read_any xs k x lt = sym (get_or_from_slice_get xs k (get_or xs k x) (get_or xs k x) (slice_get-get_or xs k x lt))

pub with_placed : (f : TypeField) (gs ss vs made : List TypeField) (k : ℕ) → made ≡ insert vs k f → vs ≡ gs → k ≡ place_of f.name ss → ss ≡ gs → made ≡ with_type f gs
with_placed f gs ss vs made k is e at g =
    is ∙ ap₂ (λ xs n. insert xs n f) e (at ∙ ap (place_of f.name) g) ∙ inserted_is f gs

-- ---- names that stand once

pub distinct_more : (xs : List Name) (i : ℕ) (d : Name) (b : Bool) → i < length xs → IsTrue b ↔ Contains (take i xs) (get_or xs i d) → b ≡ false → AllPairs (λ m n. m ≢ n) (take i xs)
    → AllPairs (λ m n. m ≢ n) (take (i + 1) xs)
distinct_more xs i d b h e missed all =
    subst (λ ys. AllPairs (λ (m n : Name). m ≢ n) ys) (sym (take_more xs i d h))
    (all_pairs_push (λ (m n : Name). m ≢ n) (take i xs) (get_or xs i d) all (λ k f lt same. true≢false (sym (e.1 (there k f lt same)) ∙ missed)))
  where
    there : (k : ℕ) (f : Name) → k < length (take i xs) → get_or (take i xs) k f ≡ get_or xs i d → Contains (take i xs) (get_or xs i d)
    there k f lt same =
        (k, lt, get_or_from_slice_get (take i xs) k (get_or xs i d) (get_or xs i d) (slice_get-get_or (take i xs) k f lt ∙ ap (λ z. Some z) same))

pub distinct_end : (xs : List Name) (i : ℕ) → length xs ≤ i → AllPairs (λ m n. m ≢ n) (take i xs) → IsTrue true ↔ AllPairs (λ m n. m ≢ n) xs
distinct_end xs i h all = ((λ q. subst (λ ys. AllPairs (λ (m n : Name). m ≢ n) ys) (take_all i xs h) all), (λ a. refl))

-- ---- what is looked up

pub at_of : (n : Name) (ss fs : List TypeField) (o : Option ValueType) → o ≡ type_at n ss → ss ≡ fs → type_at n fs ≡ o
at_of n ss fs o e f = ap (type_at n) (sym f) ∙ sym e

pub no_some : {B : Type 0} (o : Option B) (b : Bool) → is_some o ≡ not b → b ≡ true → o ≡ None
no_some None b e f = refl
no_some (Some x) b e f = absurd (true≢false (e ∙ ap not f))

pub some_there : {B : Type 0} (o : Option B) (b : Bool) → is_some o ≡ not b → b ≡ false → (x : B) × (o ≡ Some x)
some_there None b e f = absurd (true≢false (sym (e ∙ ap not f)))
some_there (Some x) b e f = (x, refl)

module _ (sig : Signature) where
  pub record_fits : (ns : List Name) (ts : List ValueType) → length ns ≡ length ts → AllPairs (λ m n. m ≢ n) ns
      → OpType sig (op.Record ns) ts (ty.Record (types_together (named ns ts) []))
  record_fits ns ts e d = (pairs (types_together (named ns ts) []), named_is ns ts e, d, record_is (types_together (named ns ts) []))

  pub record_long : (ns : List Name) (ts : List ValueType) (r : ValueType) → OpType sig (op.Record ns) ts r → length ns ≡ length ts
  record_long ns ts r (fs, is, d, e) = named_long ns ts fs is

  pub project_fits : (n : Name) (ts : List ValueType) (fs : List TypeField) (r : ValueType) → ts ≡ ty.Record fs ∷ [] → type_at n fs ≡ Some r → OpType sig (op.Project n) ts r
  project_fits n ts fs r e h = (pairs fs, e ∙ ap (λ x. x ∷ []) (record_is fs), at_is n fs ∙ h)

  pub project_not : (n : Name) (ts : List ValueType) (fs : List TypeField) (r : ValueType) → ts ≡ ty.Record fs ∷ [] → type_at n fs ≡ None → OpType sig (op.Project n) ts r → ⊥
  project_not n ts fs r e h (gs, is, at) =
      let same : fs ≡ map typed_field gs = record_same fs (map typed_field gs) (same_one (sym e ∙ is)) in
      none_some (sym h ∙ ap (type_at n) same ∙ sym (at_is n (map typed_field gs)) ∙ ap (field_at n) (repaired gs) ∙ at)

  pub cut_fits : (n : Name) (ts : List ValueType) (fs : List TypeField) (a : ValueType) → ts ≡ ty.Record fs ∷ [] → type_at n fs ≡ Some a
      → OpType sig (op.Cut n) ts (ty.Record (without_type n fs))
  cut_fits n ts fs a e h =
      (pairs fs, a, e ∙ ap (λ x. x ∷ []) (record_is fs), at_is n fs ∙ h, record_is (without_type n fs) ∙ ap record_type (without_is n fs))

  pub cut_not : (n : Name) (ts : List ValueType) (fs : List TypeField) (r : ValueType) → ts ≡ ty.Record fs ∷ [] → type_at n fs ≡ None → OpType sig (op.Cut n) ts r → ⊥
  cut_not n ts fs r e h (gs, a, is, at, _) = project_not n ts fs a e h (gs, is, at)

  pub join_fits : (ts : List ValueType) (fs gs : List TypeField) → ts ≡ ty.Record fs ∷ ty.Record gs ∷ [] → are_apart fs gs ≡ true
      → OpType sig op.Join ts (ty.Record (types_together fs gs))
  join_fits ts fs gs e h =
      (pairs fs, pairs gs, e ∙ ap₂ (λ x y. x ∷ y ∷ []) (record_is fs) (record_is gs), apart_from fs gs h, record_is (types_together fs gs) ∙ ap record_type (together_is fs gs))

  pub join_not : (ts : List ValueType) (fs gs : List TypeField) (r : ValueType) → ts ≡ ty.Record fs ∷ ty.Record gs ∷ [] → are_apart fs gs ≡ false → OpType sig op.Join ts r → ⊥
  join_not ts fs gs r e h (ks, ls, is, ap, _) = both_ways (apart_to fs gs (subst (λ x. AreApart x (pairs gs)) (sym one) (subst (λ x. AreApart ks x) (sym two) ap)))
    where
      heads : (ty.Record fs ≡ record_type ks) × (ty.Record gs ≡ record_type ls)
      heads = same_two (sym e ∙ is)

      one : pairs fs ≡ ks
      one = back fs ks (record_same fs (map typed_field ks) heads.0)
        where
          back : (hs : List TypeField) (ms : Pairs) → hs ≡ map typed_field ms → pairs hs ≡ ms
          back hs ms e = subst (λ x. pairs x ≡ ms) (sym e) (repaired ms)

      two : pairs gs ≡ ls
      two = back gs ls (record_same gs (map typed_field ls) heads.1)
        where
          back : (hs : List TypeField) (ms : Pairs) → hs ≡ map typed_field ms → pairs hs ≡ ms
          back hs ms e = subst (λ x. pairs x ≡ ms) (sym e) (repaired ms)

      both_ways : are_apart fs gs ≡ true → ⊥
      both_ways k = true≢false (sym k ∙ h)

  pub record_unlike : (names ns : List Name) (ts : List ValueType) → ns ≡ names → (length ns ≡ length ts → ⊥) → (r : ValueType) × OpType sig (op.Record names) ts r → ⊥
  record_unlike names ns ts e n h = n (ap length e ∙ record_long names ts h.0 h.1)

  pub record_twice : (names ns : List Name) (ts : List ValueType) (b : Bool) → ns ≡ names → IsTrue b ↔ AllPairs (λ m n. m ≢ n) ns → b ≡ false → (r : ValueType) × OpType sig (op.Record names) ts r → ⊥
  record_twice names ns ts b e w missed (r, h) = true≢false (sym (w.1 (subst (λ ys. AllPairs (λ (m n : Name). m ≢ n) ys) (sym e) h.2)) ∙ missed)

  pub record_made : (names ns : List Name) (ts : List ValueType) (fs ss none made : List TypeField) → ns ≡ names → length ns ≡ length ts → AllPairs (λ m n. m ≢ n) ns → fs ≡ named ns ts → ss ≡ fs
      → none ≡ [] → made ≡ types_together ss none → OpType sig (op.Record names) ts (ty.Record made)
  record_made names ns ts fs ss none made e l d f s n m =
      subst (λ xs. OpType sig (op.Record xs) ts (ty.Record made)) e
      (subst (λ (xs : List TypeField). OpType sig (op.Record ns) ts (ty.Record xs)) (sym (m ∙ ap₂ types_together (s ∙ f) n)) (record_fits ns ts l d))

  pub cut_made : (n : Name) (ts : List ValueType) (fs ss made : List TypeField) (a : ValueType) → ts ≡ ty.Record fs ∷ [] → type_at n fs ≡ Some a → made ≡ without_type n ss → ss ≡ fs
      → OpType sig (op.Cut n) ts (ty.Record made)
  cut_made n ts fs ss made a e at m s =
      subst (λ (xs : List TypeField). OpType sig (op.Cut n) ts (ty.Record xs)) (sym (m ∙ ap (without_type n) s)) (cut_fits n ts fs a e at)

  pub join_made : (ts : List ValueType) (fs gs ss us made : List TypeField) → ts ≡ ty.Record fs ∷ ty.Record gs ∷ [] → are_apart fs gs ≡ true → made ≡ types_together ss us → ss ≡ fs → us ≡ gs
      → OpType sig op.Join ts (ty.Record made)
  join_made ts fs gs ss us made e apart m s u =
      subst (λ (xs : List TypeField). OpType sig op.Join ts (ty.Record xs)) (sym (m ∙ ap₂ types_together s u)) (join_fits ts fs gs e apart)

-- ---- elements

-- an element of this place stands in the first type and holds the second
abbrev pub OfPlace : Place → ValueType → ValueType → Type 0
OfPlace (place.Own a b) of within = (of ≡ a) × (within ≡ b)
OfPlace place.AroundForm of within = (of ≡ ty.Xbody) × ((fs : List (Name × ValueType)) × (within ≡ form_type fs))
OfPlace place.InFlow of within = ⊥

pub place_stands : (t : Tag) (of within : ValueType) → Stands t of within → OfPlace (place_in t) of within
place_stands _ _ _ stands_head = (refl, refl)
place_stands _ _ _ stands_title = (refl, refl)
place_stands _ _ _ stands_body = (refl, refl)
place_stands _ _ _ stands_table = (refl, refl)
place_stands _ _ _ stands_row = (refl, refl)
place_stands _ _ _ stands_cell = (refl, refl)
place_stands _ _ _ stands_header = (refl, refl)
place_stands _ _ _ (stands_form fs) = (refl, (fs, refl))

moved : (t : Tag) (a b of within : ValueType) → (of ≡ a) × (within ≡ b) → Stands t a b → Stands t of within
moved t a b of within (e, f) h = subst (λ x. Stands t x within) (sym e) (subst (λ y. Stands t a y) (sym f) h)

stands_place : (t : Tag) (of within : ValueType) → OfPlace (place_in t) of within → Stands t of within
stands_place tag.Head of within h = moved tag.Head ty.Page ty.Page of within h stands_head
stands_place tag.Title of within h = moved tag.Title ty.Page ty.Xbody of within h stands_title
stands_place tag.Body of within h = moved tag.Body ty.Page ty.Xbody of within h stands_body
stands_place tag.Table of within h = moved tag.Table ty.Xbody ty.Xtable of within h stands_table
stands_place tag.Tr of within h = moved tag.Tr ty.Xtable ty.Xtr of within h stands_row
stands_place tag.Td of within h = moved tag.Td ty.Xtr ty.Xbody of within h stands_cell
stands_place tag.Th of within h = moved tag.Th ty.Xtr ty.Xbody of within h stands_header
stands_place tag.Form of within (e, (fs, f)) = moved tag.Form ty.Xbody (form_type fs) of within (e, f) (stands_form fs)
stands_place _ of within h = absurd h

pub flow_place : (t : Tag) → IsInFlow t → place_in t ≡ place.InFlow
flow_place tag.Head h = absurd h
flow_place tag.Title h = absurd h
flow_place tag.Body h = absurd h
flow_place tag.Table h = absurd h
flow_place tag.Tr h = absurd h
flow_place tag.Td h = absurd h
flow_place tag.Th h = absurd h
flow_place tag.Form h = absurd h
flow_place _ h = refl

own_apart : {of within : ValueType} → place.Own of within ≡ place.InFlow → ⊥
own_apart e = cc

form_apart : place.AroundForm ≡ place.InFlow → ⊥
form_apart e = cc

pub element_to_flow : (t : Tag) (ts : List ValueType) (r : ValueType) → place_in t ≡ place.InFlow → ElementStands t ts r → Holds ts r
element_to_flow t ts r e (of_its_own within s m) = absurd (subst (λ p. OfPlace p r within) e (place_stands t r within s))
element_to_flow t ts r e (as_its_parts f h) = h

flow_stands : (t : Tag) → place_in t ≡ place.InFlow → IsInFlow t
flow_stands tag.Head e = own_apart e
flow_stands tag.Title e = own_apart e
flow_stands tag.Body e = own_apart e
flow_stands tag.Table e = own_apart e
flow_stands tag.Tr e = own_apart e
flow_stands tag.Td e = own_apart e
flow_stands tag.Th e = own_apart e
flow_stands tag.Form e = form_apart e
flow_stands _ e = tt

pub flow_to_element : (t : Tag) (ts : List ValueType) (r : ValueType) → place_in t ≡ place.InFlow → Holds ts r → ElementStands t ts r
flow_to_element t ts r e h = as_its_parts (flow_stands t e) h

-- around a form
pub form_to_element : (t : Tag) (ts : List ValueType) (r : ValueType) → place_in t ≡ place.AroundForm → (fs : List TypeField) × (r ≡ ty.Form fs) × MakeUp ts r
    → ElementStands t ts ty.Xbody
form_to_element t ts r e (fs, is, m) =
    of_its_own r (stands_place t ty.Xbody r (subst (λ p. OfPlace p ty.Xbody r) (sym e) (refl, (pairs fs, is ∙ form_is fs)))) m

pub element_to_form : (t : Tag) (ts : List ValueType) (r : ValueType) → place_in t ≡ place.AroundForm → ElementStands t ts r
    → (w : ValueType) × ((fs : List TypeField) × (w ≡ ty.Form fs) × MakeUp ts w)
element_to_form t ts r e (of_its_own within s m) =
    let h = subst (λ p. OfPlace p r within) e (place_stands t r within s) in
    (within, (map typed_field h.1.0, h.1.1, m))
element_to_form t ts r e (as_its_parts f h) = absurd (apart (sym (flow_place t f) ∙ e))
  where
    apart : place.InFlow ≡ place.AroundForm → ⊥
    apart e = cc

-- in a type of its own
pub own_to_element : (t : Tag) (ts : List ValueType) (of within : ValueType) → place_in t ≡ place.Own of within → MakeUp ts within → ElementStands t ts of
own_to_element t ts of within e m = of_its_own within (stands_place t of within (subst (λ p. OfPlace p of within) (sym e) (refl, refl))) m

pub element_to_own : (t : Tag) (ts : List ValueType) (of within r : ValueType) → place_in t ≡ place.Own of within → ElementStands t ts r → MakeUp ts within
element_to_own t ts of within r e (of_its_own w s m) =
    let h = subst (λ p. OfPlace p r w) e (place_stands t r w s) in
    subst (λ x. MakeUp ts x) h.1 m
element_to_own t ts of within r e (as_its_parts f h) = absurd (apart (sym (flow_place t f) ∙ e))
  where
    apart : place.InFlow ≡ place.Own of within → ⊥
    apart e = cc
