-- Loops over the fields of a record and over the steps of a function fold.
use Rattle.std.proofs.Common.{◌≡◌, ◌<◌, ◌≤◌, ℕ, zero, suc, ◌+◌, ◌-◌, List, [], ◌∷◌, ◌++◌, length, drop, get_or, Option, None, Some, option_map, Result, Ok, Err, IfOk, refl, sym, ap, ap₂, subst, ◌∙◌, arith, drop-cons, add-one}
use Rattle.std.specs.List.{AllZip}
use Rattle.std.proofs.lemmas.List.{drop_all}
use Rattle.ur_base.specs.declared.names.Name.{Name}
use Rattle.ur_terms.specs.Values.{with_field}
use Rattle.ur_tree.specs.declared.exp.Exp.{Exp}
use Rattle.ur_tree.specs.declared.exp.Exp.TheVariants as x
use Rattle.ur_tree.specs.declared.exp.FieldExp.{FieldExp}
use Rattle.ur_tree.specs.declared.closed.Static.{Static}
use Rattle.ur_source.specs.Reading.{Names, Cons, label_number}
use Rattle.ur_source.specs.Static.{StaticFields, static_record, static_with, static_steps, on_two, static_of}
use Rattle.ur_unfold_static.specs.declared.node.Field.{Field}
use Rattle.ur_unfold_static.specs.declared.node.Node.TheVariants as node
use Rattle.ur_unfold_static.specs.declared.node.Scope.{Scope}
use Rattle.ur_unfold_static.specs.declared.node.Step.{Step}
use Rattle.ur_unfold_static.specs.Held.{Held, Grows, static_of_node}
use Rattle.ur_unfold_static.specs.Scopes.{Statics, IsAt, MayBeAt, Stands, FieldsAre, StepIs}
use Rattle.ur_unfold_static.proofs.Laws.{grows_so, grows_then}
use Rattle.ur_unfold_static.proofs.Standing.{are_more, stands_grown, statics_grown, cons_grown, fields_grown}
use Rattle.ur_unfold_pieces.specs.Closes.{Under, Closes, FieldMayBe, static_field_of}
use Rattle.ur_unfold_pieces.specs.Records.{with_number}
use Rattle.ur_unfold_pieces.proofs.Fields.{put_are}
use Rattle.ur_unfold_pieces.proofs.Equations.{static-Record, fields_static}
use Rattle.ur_unfold_pieces.proofs.Arms.{node_record, some_is}

from-here : {A : Type 0} (xs : List A) (i : ℕ) (d : A) → i < length xs → drop i xs ≡ get_or xs i d ∷ drop (i + 1) xs
from-here xs i d h = rw (add-one) (drop-cons xs i d h)

-- ---- records

with_some : (a : Option Name) (b : Option Static) (h : Name × Static) (rest : Option StaticFields) → on_two {C = Name × Static} (λ n s. Some (n, s)) a b ≡ Some h → static_with a b rest ≡ option_map (with_field h) rest
with_some None b h rest e = absurd (cc)
with_some (Some n) None h rest e = absurd (cc)
with_some (Some n) (Some s) h rest e = ap (λ (k : Name × Static). option_map (with_field k) rest) (same (n, s) h e)
  where
    same : (a b : Name × Static) → Some a ≡ Some b → a ≡ b
    same a b e = cc

with_none : (a : Option Name) (b : Option Static) (rest : Option StaticFields) → on_two {C = Name × Static} (λ n s. Some (n, s)) a b ≡ None → static_with a b rest ≡ None
with_none None b rest e = refl
with_none (Some n) None rest e = refl
with_none (Some n) (Some s) rest e = absurd (cc)

with_nothing : (a : Option Name) (b : Option Static) → static_with a b None ≡ None
with_nothing None b = refl
with_nothing (Some n) None = refl
with_nothing (Some n) (Some s) = refl

module _ (names : Names) where
  none_from : (vs : Statics) (cs : Cons) (fs : Statics) (all : List FieldExp) (k : ℕ) → fields_static names vs cs fs (drop k all) ≡ None → fields_static names vs cs fs all ≡ None
  none_from vs cs fs all zero e = e
  none_from vs cs fs [] (suc k) e = e
  none_from vs cs fs (f ∷ all) (suc k) e =
      ap (static_with (label_number names cs f.name) (static_of names vs cs fs f.of)) (none_from vs cs fs all k e) ∙ with_nothing (label_number names cs f.name) (static_of names vs cs fs f.of)

  from_last : (vs : Statics) (cs : Cons) (fs : Statics) (all : List FieldExp) (i : ℕ) (d : FieldExp) → i < length all
      → fields_static names vs cs fs (drop (length all - (i + 1)) all)
      ≡ static_with (label_number names cs (get_or all (length all - 1 - i) d).name) (static_of names vs cs fs (get_or all (length all - 1 - i) d).of) (fields_static names vs cs fs (drop (length all - i) all))
  from_last vs cs fs all i d h =
      let at : length all - (i + 1) < length all = omega (arith, h) in
      let place : length all - (i + 1) ≡ length all - 1 - i = omega (arith, h) in
      let next : length all - (i + 1) + 1 ≡ length all - i = omega (arith, h) in
      ap (fields_static names vs cs fs) (from-here all (length all - (i + 1)) d at)
      ∙ ap₂ (λ (k m : ℕ). static_with (label_number names cs (get_or all k d).name) (static_of names vs cs fs (get_or all k d).of) (fields_static names vs cs fs (drop m all))) place next

  abbrev pub MadeFrom : Held → Scope → List ℕ → Held → List FieldExp → ℕ → List Field → Type 0
  MadeFrom init scope vals held all i made =
      Under init scope vals (λ vs cs fs. (gs : StaticFields) × FieldsAre held.statics made gs × (fields_static names vs cs fs (drop (length all - i) all) ≡ Some gs))

  pub record_more : (init mid new : Held) (scope : Scope) (vals : List ℕ) (all : List FieldExp) (i : ℕ) (d : FieldExp) (made next : List Field) (f : Field) → i < length all → Grows init mid → Grows mid new
      → MadeFrom init scope vals mid all i made
      → Under mid scope vals (λ vs cs fs. FieldMayBe new.statics (Some f) (static_field_of names vs cs fs (get_or all (length all - 1 - i) d))) → next ≡ with_number f made
      → MadeFrom init scope vals new all (i + 1) next
  record_more init mid new scope vals all i d made next f h g k m w e =
      λ cs fs vs st av.
      let so = m cs fs vs st av in
      let one = w cs fs vs (stands_grown init mid g scope cs fs st) (statics_grown init mid g vals vs av) in
      let x = get_or all (length all - 1 - i) d in (
        with_field one.0 so.0,
        subst (λ (l : List Field). FieldsAre new.statics l (with_field one.0 so.0)) (sym e) (put_are new.statics f one.0 one.1 made so.0 (fields_grown mid new k made so.0 so.1)),
        from_last vs cs fs all i d h ∙ with_some (label_number names cs x.name) (static_of names vs cs fs x.of) one.0 (fields_static names vs cs fs (drop (length all - i) all)) one.2 ∙ ap (option_map (with_field one.0)) so.2,
      )

  pub record_none : (init mid new : Held) (scope : Scope) (vals : List ℕ) (fields all : List FieldExp) (i : ℕ) (d : FieldExp) → all ≡ fields → i < length all → Grows init mid
      → Under mid scope vals (λ vs cs fs. FieldMayBe new.statics None (static_field_of names vs cs fs (get_or all (length all - 1 - i) d)))
      → Closes init scope vals new None (λ vs cs fs. static_of names vs cs fs (x.Record fields))
  record_none init mid new scope vals fields all i d s h g w =
      λ cs fs vs st av.
      let one = w cs fs vs (stands_grown init mid g scope cs fs st) (statics_grown init mid g vals vs av) in
      let x = get_or all (length all - 1 - i) d in
      static-Record names vs cs fs fields ∙ ap (λ (l : List FieldExp). option_map static_record (fields_static names vs cs fs l)) (sym s)
      ∙ ap (option_map static_record) (none_from vs cs fs all (length all - (i + 1))
      (from_last vs cs fs all i d h ∙ with_none (label_number names cs x.name) (static_of names vs cs fs x.of) (fields_static names vs cs fs (drop (length all - i) all)) one))

  pub record_made : {E : Type 0} (init mid new : Held) (scope : Scope) (vals : List ℕ) (fields all : List FieldExp) (i : ℕ) (made : List Field) (r : Result (Option ℕ) E) → all ≡ fields → length all ≤ i
      → MadeFrom init scope vals mid all i made → IfOk r (λ j. MayBeAt new.statics j (Some (static_of_node mid (node.Record made))))
      → IfOk r (λ j. Closes init scope vals new j (λ vs cs fs. static_of names vs cs fs (x.Record fields)))
  record_made init mid new scope vals fields all i made (Ok j) s h m k =
      λ cs fs vs st av.
      let so = m cs fs vs st av in
      let whole : length all - i ≡ 0 = omega (arith, h) in
      let is : fields_static names vs cs fs fields ≡ Some so.0 =
      ap (fields_static names vs cs fs) (sym s) ∙ sym (ap (λ (n : ℕ). fields_static names vs cs fs (drop n all)) whole) ∙ so.2 in
      subst (MayBeAt new.statics j) (sym (static-Record names vs cs fs fields ∙ ap (option_map static_record) is)) (some_is new.statics j (static_of_node mid (node.Record made)) (static_record so.0) k (node_record mid made so.0 so.1))
  record_made init mid new scope vals fields all i made (Err e) s h m k = tt

module _ (names : Names) (init mid new : Held) (scope : Scope) (vals : List ℕ) (fields all : List FieldExp) (i count : ℕ) (made : List Field) (c : count ≡ length all)
    (m : MadeFrom names init scope vals mid all i made × Grows init mid) where
  pub record_step : (y : FieldExp) (next : List Field) (f : Field) (o : Option Field) → i < count → y ≡ get_or all (count - 1 - i) y → o ≡ Some f → Grows mid new
      → Under mid scope vals (λ vs cs fs. FieldMayBe new.statics o (static_field_of names vs cs fs y)) → next ≡ with_number f made → MadeFrom names init scope vals new all (i + 1) next × Grows init new
  record_step y next f o h e p g w q =
      let at : y ≡ get_or all (length all - 1 - i) y = e ∙ ap (λ (n : ℕ). get_or all (n - 1 - i) y) c in (
        record_more names init mid new scope vals all i y made next f (omega (arith, h, c)) m.1 g m.0
            (λ cs fs vs hs av. subst (λ (z : FieldExp). FieldMayBe new.statics (Some f) (static_field_of names vs cs fs z)) at (subst (λ (k : Option Field). FieldMayBe new.statics k (static_field_of names vs cs fs y)) p (w cs fs vs hs av))) q,
        grows_then init mid new m.1 g,
      )

  pub record_stop : (y : FieldExp) (o : Option Field) → all ≡ fields → i < count → y ≡ get_or all (count - 1 - i) y → o ≡ None
      → Under mid scope vals (λ vs cs fs. FieldMayBe new.statics o (static_field_of names vs cs fs y)) → Closes init scope vals new None (λ vs cs fs. static_of names vs cs fs (x.Record fields))
  record_stop y o s h e p w =
      let at : y ≡ get_or all (length all - 1 - i) y = e ∙ ap (λ (n : ℕ). get_or all (n - 1 - i) y) c in
      record_none names init mid new scope vals fields all i y s (omega (arith, h, c)) m.1
      (λ cs fs vs hs av. subst (λ (z : FieldExp). FieldMayBe new.statics None (static_field_of names vs cs fs z)) at (subst (λ (k : Option Field). FieldMayBe new.statics k (static_field_of names vs cs fs y)) p (w cs fs vs hs av)))

  pub record_last : {E : Type 0} (r : Result (Option ℕ) E) → all ≡ fields → count ≤ i → IfOk r (λ j. MayBeAt new.statics j (Some (static_of_node mid (node.Record made))))
      → IfOk r (λ j. Closes init scope vals new j (λ vs cs fs. static_of names vs cs fs (x.Record fields)))
  record_last r s h k = record_made names init mid new scope vals fields all i made r s (omega (arith, h, c)) m.0 k

pub record_from : (names : Names) (init : Held) (scope : Scope) (vals : List ℕ) (all : List FieldExp) (made : List Field) → made ≡ [] → MadeFrom names init scope vals init all 0 made × Grows init init
record_from names init scope vals all made e =
    ((λ cs fs vs hs av. ([], subst (λ (l : List Field). FieldsAre init.statics l []) (sym e) tt, ap (fields_static names vs cs fs) (drop_all (length all - 0) all (omega arith)))), grows_so init)

-- ---- folds

module _ (names : Names) (step : Exp) where
  abbrev pub turn : Statics → Cons → Statics → Cons → Static → Option Static
  turn vs cs fs k u = static_of names vs (cs ++ k) (u ∷ fs) step

  none_steps : (f : Cons → Static → Option Static) (ks : List Cons) → static_steps f ks None ≡ None
  none_steps f [] = refl
  none_steps f (k ∷ ks) = none_steps f ks

  abbrev pub TurnedTo : Held → Scope → List ℕ → Held → List Step → ℕ → Option ℕ → Option ℕ → Type 0
  TurnedTo init scope vals held all i start made =
      (ks : List Cons) (s : Option Static) → AllZip (StepIs init) all ks → MayBeAt init.statics start s
      → Under init scope vals (λ vs cs fs. (t : Option Static) × MayBeAt held.statics made t × (static_steps (turn vs cs fs) (drop i ks) t ≡ static_steps (turn vs cs fs) ks s))

  zip_at : (R : Step → Cons → Type 0) (all : List Step) (ks : List Cons) (i : ℕ) (d : Step) → AllZip R all ks → i < length all → (k : Cons) × (drop i ks ≡ k ∷ drop (i + 1) ks) × R (get_or all i d) k
  zip_at R [] ks i d z h = absurd (omega (arith, h))
  zip_at R (a ∷ all) [] i d z h = absurd z
  zip_at R (a ∷ all) (k ∷ ks) zero d z h = let next : suc zero ≡ zero + 1 = omega arith in (k, ap (λ (n : ℕ). k ∷ drop n (k ∷ ks)) next, z.0)
  zip_at R (a ∷ all) (k ∷ ks) (suc i) d z h =
      let rest = zip_at R all ks i d z.1 (omega (arith, h)) in
      let next : suc (i + 1) ≡ suc i + 1 = omega arith in
      (rest.0, rest.1 ∙ ap (λ (n : ℕ). rest.0 ∷ drop n (k ∷ ks)) next, rest.2)

  zip_length : (R : Step → Cons → Type 0) (all : List Step) (ks : List Cons) → AllZip R all ks → length ks ≡ length all
  zip_length R [] [] z = refl
  zip_length R [] (k ∷ ks) z = absurd z
  zip_length R (a ∷ all) [] z = absurd z
  zip_length R (a ∷ all) (k ∷ ks) z = ap suc (zip_length R all ks z.1)

  pub turn_more : (init mid new : Held) (scope within : Scope) (vals : List ℕ) (all : List Step) (i : ℕ) (d : Step) (start next : Option ℕ) (acc : ℕ) → i < length all → Grows init mid
      → within.cons ≡ scope.cons ++ (get_or all i d).name ∷ (get_or all i d).of ∷ (get_or all i d).rest ∷ [] → within.fixed ≡ acc ∷ scope.fixed
      → TurnedTo init scope vals mid all i start (Some acc) → Closes mid within vals new next (λ vs cs fs. static_of names vs cs fs step)
      → TurnedTo init scope vals new all (i + 1) start next
  turn_more init mid new scope within vals all i d start next acc h g p q m w =
      λ ks s z b cs fs vs st av.
      let so = m ks s z b cs fs vs st av in
      let at = zip_at (StepIs init) all ks i d z h in
      let y = so.1.0 in
      let a = get_or all i d in
      let stands = stands_grown init mid g scope cs fs st in
      let cons = are_more mid.cons scope.cons (a.name ∷ a.of ∷ a.rest ∷ []) cs at.0 stands.0 (cons_grown init mid g (a.name ∷ a.of ∷ a.rest ∷ []) at.0 at.2) in
      let inside : Stands mid within (cs ++ at.0) (y ∷ fs) =
      (subst (λ (js : List ℕ). AllZip (IsAt mid.cons) js (cs ++ at.0)) (sym p) cons, subst (λ (js : List ℕ). AllZip (IsAt mid.statics) js (y ∷ fs)) (sym q) (so.1.1, stands.1)) in
      let t = static_of names vs (cs ++ at.0) (y ∷ fs) step in (
        t,
        w (cs ++ at.0) (y ∷ fs) vs inside (statics_grown init mid g vals vs av),
        sym (ap (λ (l : List Cons). static_steps (turn vs cs fs) l (Some y)) at.1) ∙ ap (static_steps (turn vs cs fs) (drop i ks)) (sym so.1.2) ∙ so.2,
      )

  pub turn_none : (init mid : Held) (scope : Scope) (vals : List ℕ) (all : List Step) (i : ℕ) (start : Option ℕ) → TurnedTo init scope vals mid all i start None
      → (ks : List Cons) (s : Option Static) → AllZip (StepIs init) all ks → MayBeAt init.statics start s → Closes init scope vals mid None (λ vs cs fs. static_steps (turn vs cs fs) ks s)
  turn_none init mid scope vals all i start m =
      λ ks s z b cs fs vs st av.
      let so = m ks s z b cs fs vs st av in
      sym so.2 ∙ ap (static_steps (turn vs cs fs) (drop i ks)) so.1 ∙ none_steps (turn vs cs fs) (drop i ks)

  pub turn_end : (init mid : Held) (scope : Scope) (vals : List ℕ) (steps all : List Step) (i : ℕ) (start made : Option ℕ) → all ≡ steps → length all ≤ i → TurnedTo init scope vals mid all i start made
      → (ks : List Cons) (s : Option Static) → AllZip (StepIs init) steps ks → MayBeAt init.statics start s → Closes init scope vals mid made (λ vs cs fs. static_steps (turn vs cs fs) ks s)
  turn_end init mid scope vals steps all i start made e h m =
      λ ks s z b cs fs vs st av.
      let zip = subst (λ (l : List Step). AllZip (StepIs init) l ks) (sym e) z in
      let so = m ks s zip b cs fs vs st av in
      let long : length ks ≤ i = omega (arith, h, zip_length (StepIs init) all ks zip) in
      subst (MayBeAt mid.statics made) (sym (ap (λ (l : List Cons). static_steps (turn vs cs fs) l so.0) (drop_all i ks long)) ∙ so.2) so.1

  pub turned_from : (init : Held) (scope : Scope) (vals : List ℕ) (all : List Step) (start : Option ℕ) → TurnedTo init scope vals init all 0 start start × Grows init init
  turned_from init scope vals all start = ((λ ks s z b cs fs vs st av. (s, b, ap (λ (l : List Cons). static_steps (turn vs cs fs) l s) (whole ks))), grows_so init)
    where
      whole : (ks : List Cons) → drop 0 ks ≡ ks
      whole [] = refl
      whole (k ∷ ks) = refl

  pub turned_none : (init mid : Held) (scope : Scope) (vals : List ℕ) (steps all : List Step) (i : ℕ) (start made : Option ℕ) → all ≡ steps → made ≡ None → TurnedTo init scope vals mid all i start made
      → (ks : List Cons) (s : Option Static) → AllZip (StepIs init) steps ks → MayBeAt init.statics start s → Closes init scope vals mid None (λ vs cs fs. static_steps (turn vs cs fs) ks s)
  turned_none init mid scope vals steps all i start made e f m =
      λ ks s z b. turn_none init mid scope vals all i start (subst (λ (o : Option ℕ). TurnedTo init scope vals mid all i start o) f m) ks s (subst (λ (l : List Step). AllZip (StepIs init) l ks) (sym e) z) b

  pub turned_more : (init mid new : Held) (scope within : Scope) (vals : List ℕ) (all : List Step) (i : ℕ) (d : Step) (start next made : Option ℕ) (acc : ℕ) → i < length all → made ≡ Some acc
      → TurnedTo init scope vals mid all i start made × Grows init mid
      → within.cons ≡ scope.cons ++ (get_or all i d).name ∷ (get_or all i d).of ∷ (get_or all i d).rest ∷ [] → within.fixed ≡ acc ∷ scope.fixed
      → Closes mid within vals new next (λ vs cs fs. static_of names vs cs fs step) → Grows mid new → TurnedTo init scope vals new all (i + 1) start next × Grows init new
  turned_more init mid new scope within vals all i d start next made acc h f n p q w g =
      (turn_more init mid new scope within vals all i d start next acc h n.1 p q (subst (λ (o : Option ℕ). TurnedTo init scope vals mid all i start o) f n.0) w, grows_then init mid new n.1 g)
