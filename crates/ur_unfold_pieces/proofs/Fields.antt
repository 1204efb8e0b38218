-- Records of numbers stand for records of static expressions.
use Rattle.std.proofs.Common.{◌≡◌, ℕ, Bool, true, false, not, cond, find, List, [], ◌∷◌, map, length, Option, None, Some, option_map, get_or, refl, sym, ap, ap₂, subst, ◌∙◌}
use Rattle.std.specs.Prelude.{nat_lt, ◌==◌, if◌then◌else◌}
use Rattle.std.proofs.lemmas.Option.{slice_get-get_or}
use Rattle.ur_base.specs.declared.names.Name.{Name}
use Rattle.ur_values.specs.declared.value.Value.TheVariants as v
use Rattle.ur_terms.specs.Values.{with_field, fields_together, field_at, without_field}
use Rattle.ur_tree.specs.declared.exp.Exp.TheVariants as x
use Rattle.ur_tree.specs.declared.closed.Static.{Static}
use Rattle.ur_tree.specs.declared.closed.Static.TheVariants as st
use Rattle.ur_tree.specs.declared.closed.StaticField.{StaticField}
use Rattle.ur_source.specs.Static.{StaticFields, static_record, as_static_fields, open_static_fields}
use Rattle.ur_unfold_static.specs.declared.node.Field.{Field}
use Rattle.ur_unfold_static.specs.declared.node.Node.{Node}
use Rattle.ur_unfold_static.specs.declared.node.Node.TheVariants as node
use Rattle.ur_unfold_static.specs.Held.{Held, AreBelow, NodeFits, con_at, static_at, field_of, lambda_with, static_of_node}
use Rattle.ur_unfold_static.specs.Scopes.{Statics, IsAt, MayBeAt, FieldIs, FieldsAre}
use Rattle.ur_unfold_pieces.specs.Records.{with_number, numbers_together, number_of_field, without_number}
use Rattle.ur_unfold_pieces.specs.Closes.{FieldsMayBe}

-- ---- one field

pub put_are : (statics : Statics) (f : Field) (g : Name × Static) → FieldIs statics f g → (fs : List Field) (gs : StaticFields) → FieldsAre statics fs gs → FieldsAre statics (with_number f fs) (with_field g gs)
put_are statics f g i [] [] h = (i, tt)
put_are statics f g i [] (y ∷ gs) h = absurd h
put_are statics f g i (w ∷ fs) [] h = absurd h
put_are statics f g i (w ∷ fs) (y ∷ gs) h = pick (put_are statics f g i fs gs h.1) (nat_lt f.name.0 w.name.0) (nat_lt g.0.0 y.0.0) (ap₂ (λ (a b : Name). nat_lt a.0 b.0) i.0 h.0.0)
  where
    pick : FieldsAre statics (with_number f fs) (with_field g gs) → (a b : Bool) → a ≡ b
        → FieldsAre statics (if a then f ∷ w ∷ fs else w ∷ with_number f fs) (if b then g ∷ y ∷ gs else y ∷ with_field g gs)
    pick rest true true e = (i, h)
    pick rest false false e = (h.0, rest)
    pick rest true false e = absurd (cc)
    pick rest false true e = absurd (cc)

pub together_are : (statics : Statics) (fs : List Field) (gs : StaticFields) (hs : List Field) (ks : StaticFields) → FieldsAre statics fs gs → FieldsAre statics hs ks
    → FieldsAre statics (numbers_together fs hs) (fields_together gs ks)
together_are statics [] [] hs ks a b = b
together_are statics [] (y ∷ gs) hs ks a b = absurd a
together_are statics (w ∷ fs) [] hs ks a b = absurd a
together_are statics (w ∷ fs) (y ∷ gs) hs ks a b = put_are statics w y a.0 (numbers_together fs hs) (fields_together gs ks) (together_are statics fs gs hs ks a.1 b)

same_test : (n : Name) (f : Field) (y : Name × Static) → f.name ≡ y.0 → (f.name.0 == n.0) ≡ (y.0.0 == n.0)
same_test n f y e = ap (λ (a : Name). a.0 == n.0) e

pub found_is : (statics : Statics) (n : Name) (fs : List Field) (gs : StaticFields) → FieldsAre statics fs gs → MayBeAt statics (number_of_field n fs) (field_at n gs)
found_is statics n [] [] h = refl
found_is statics n [] (y ∷ gs) h = absurd h
found_is statics n (w ∷ fs) [] h = absurd h
found_is statics n (w ∷ fs) (y ∷ gs) h = pick (found_is statics n fs gs h.1) (w.name.0 == n.0) (y.0.0 == n.0) (same_test n w y h.0.0)
  where
    pick : MayBeAt statics (number_of_field n fs) (field_at n gs) → (a b : Bool) → a ≡ b
        → MayBeAt statics (option_map (λ f. f.of) (cond a (Some w) (find (λ f. f.name.0 == n.0) fs))) (option_map (λ f. f.1) (cond b (Some y) (find (λ f. f.0.0 == n.0) gs)))
    pick rest true true e = (y.1, h.0.1, refl)
    pick rest false false e = rest
    pick rest true false e = absurd (cc)
    pick rest false true e = absurd (cc)

pub others_are : (statics : Statics) (n : Name) (fs : List Field) (gs : StaticFields) → FieldsAre statics fs gs → FieldsAre statics (without_number n fs) (without_field n gs)
others_are statics n [] [] h = tt
others_are statics n [] (y ∷ gs) h = absurd h
others_are statics n (w ∷ fs) [] h = absurd h
others_are statics n (w ∷ fs) (y ∷ gs) h = pick (others_are statics n fs gs h.1) (w.name.0 == n.0) (y.0.0 == n.0) (same_test n w y h.0.0)
  where
    pick : FieldsAre statics (without_number n fs) (without_field n gs) → (a b : Bool) → a ≡ b
        → FieldsAre statics (cond (not a) (w ∷ without_number n fs) (without_number n fs)) (cond (not b) (y ∷ without_field n gs) (without_field n gs))
    pick rest true true e = rest
    pick rest false false e = (h.0, rest)
    pick rest true false e = absurd (cc)
    pick rest false true e = absurd (cc)

-- ---- the fields of a node

abbrev pub node_fields : Node → Option (List Field)
node_fields (node.Record fs) = Some fs
node_fields _ = None

abbrev told : StaticField → Name × Static
told f = (f.name, f.of)

fields_stand : (statics : Statics) (fs : List Field) → AreBelow (length statics) (map (λ f. f.of) fs) → FieldsAre statics fs (map told (map (field_of statics) fs))
fields_stand statics [] h = tt
fields_stand statics (f ∷ fs) h = ((refl, slice_get-get_or statics f.of (static_record []) h.0), fields_stand statics fs h.1)

record_is : (fs : List StaticField) → as_static_fields (st.Record fs) ≡ Some (map told fs)
record_is fs = ap open_static_fields (st.outs-Record fs)

pub fields_of_node : (held : Held) (n : Node) → NodeFits held n → FieldsMayBe held.statics (node_fields n) (as_static_fields (static_of_node held n))
fields_of_node held (node.Int i) f = ap open_static_fields (st.outs-Literal (v.Int i))
fields_of_node held (node.Str s) f = ap open_static_fields (st.outs-Literal (v.Str s))
fields_of_node held (node.Bool b) f = ap open_static_fields (st.outs-Literal (v.Bool b))
fields_of_node held (node.Function k js) f = ap open_static_fields (st.outs-Function k (map (con_at held.cons) js))
fields_of_node held (node.Lambda l js fs) f =
    let w = get_or held.lambdas l ([], x.Unit) in
    ap (λ y. as_static_fields (lambda_with y (map (con_at held.cons) js) (map (static_at held.statics) fs))) (slice_get-get_or held.lambdas l ([], x.Unit) f.0)
    ∙ ap open_static_fields (st.outs-Lambda w.0 w.1 (map (con_at held.cons) js) (map (static_at held.statics) fs))
fields_of_node held (node.Record fs) f = (map told (map (field_of held.statics) fs), fields_stand held.statics fs f, record_is (map (field_of held.statics) fs))

at_once : {A : Type 0} (xs : List A) (j : ℕ) (a b : A) → IsAt xs j a → IsAt xs j b → a ≡ b
at_once xs j a b h g = same a b (sym h ∙ g)
  where
    same : {A : Type 0} (a b : A) → Some a ≡ Some b → a ≡ b
    same a b e = cc

pub fields_at : (held : Held) (j : ℕ) (n : Node) → NodeFits held n → IsAt held.statics j (static_of_node held n) → (s : Static) → IsAt held.statics j s → FieldsMayBe held.statics (node_fields n) (as_static_fields s)
fields_at held j n f at s h =
    subst (λ (t : Static). FieldsMayBe held.statics (node_fields n) (as_static_fields t)) (at_once held.statics j (static_of_node held n) s at h) (fields_of_node held n f)
