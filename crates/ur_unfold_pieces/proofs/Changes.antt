-- Changes of static records, by number.
use Rattle.std.proofs.Common.{◌≡◌, ℕ, List, [], ◌++◌, Option, None, Some, option_map, Result, Ok, Err, IfOk, refl, sym, ap, ap₂, subst, ◌∙◌}
use Rattle.std.specs.Prelude.{option_and_then}
use Rattle.ur_base.specs.declared.names.Name.{Name}
use Rattle.ur_terms.specs.Values.{field_at, without_field, fields_together}
use Rattle.ur_tree.specs.declared.closed.Static.{Static}
use Rattle.ur_source.specs.Static.{StaticFields, static_record, as_static_fields, static_project, static_cut, static_join, on_two}
use Rattle.ur_unfold_static.specs.declared.node.Field.{Field}
use Rattle.ur_unfold_static.specs.declared.node.Node.TheVariants as node
use Rattle.ur_unfold_static.specs.Held.{Held, static_of_node}
use Rattle.ur_unfold_static.specs.Scopes.{Statics, IsAt, MayBeAt, FieldsAre}
use Rattle.ur_unfold_pieces.specs.Records.{without_number, numbers_together, number_of_field}
use Rattle.ur_unfold_pieces.specs.Closes.{FieldsMayBe, fields_joined}
use Rattle.ur_unfold_pieces.proofs.Fields.{others_are, together_are, found_is}
use Rattle.ur_unfold_pieces.proofs.Arms.{node_record, some_is}

-- ---- a field

pub field_there : (statics : Statics) (n : Name) (fs : List Field) (j : Option ℕ) (s : Static) → j ≡ number_of_field n fs → FieldsMayBe statics (Some fs) (as_static_fields s) → MayBeAt statics j (static_project (Some n) (Some s))
field_there statics n fs j s e h =
    subst (λ (i : Option ℕ). MayBeAt statics i (static_project (Some n) (Some s))) (sym e)
    (subst (MayBeAt statics (number_of_field n fs)) (sym (ap (option_and_then (field_at n)) h.2)) (found_is statics n fs h.0 h.1))

pub no_fields : (n : Name) (s : Static) → as_static_fields s ≡ None → static_project (Some n) (Some s) ≡ None
no_fields n s h = ap (option_and_then (field_at n)) h

-- ---- without a field

pub others_there : (statics : Statics) (n : Name) (fs others : List Field) (s : Static) → others ≡ [] ++ without_number n fs → FieldsMayBe statics (Some fs) (as_static_fields s)
    → FieldsMayBe statics (Some others) (option_map (without_field n) (as_static_fields s))
others_there statics n fs others s e h =
    (without_field n h.0, subst (λ (os : List Field). FieldsAre statics os (without_field n h.0)) (sym e) (others_are statics n fs h.0 h.1), ap (option_map (without_field n)) h.2)

pub no_others : (n : Name) (s : Static) → as_static_fields s ≡ None → option_map (without_field n) (as_static_fields s) ≡ None
no_others n s h = ap (option_map (without_field n)) h

cut_from : (o : Option StaticFields) (n : Name) (hs : StaticFields) → option_map (without_field n) o ≡ Some hs → option_map (λ fs. static_record (without_field n fs)) o ≡ Some (static_record hs)
cut_from None n hs e = absurd (cc)
cut_from (Some fs) n hs e = ap (λ l. Some (static_record l)) (same (without_field n fs) hs e)
  where
    same : (a b : StaticFields) → Some a ≡ Some b → a ≡ b
    same a b e = cc

pub cut_none : (n : Name) (s : Static) → option_map (without_field n) (as_static_fields s) ≡ None → static_cut (Some n) (Some s) ≡ None
cut_none n s e = from (as_static_fields s) e
  where
    from : (o : Option StaticFields) → option_map (without_field n) o ≡ None → option_map (λ fs. static_record (without_field n fs)) o ≡ None
    from None e = refl
    from (Some fs) e = absurd (cc)

pub cut_some : {E : Type 0} (old new : Held) (n : Name) (j : ℕ) (fs : List Field) (r : Result (Option ℕ) E)
    → ((s : Static) → IsAt old.statics j s → FieldsMayBe old.statics (Some fs) (option_map (without_field n) (as_static_fields s)))
    → IfOk r (λ k. MayBeAt new.statics k (Some (static_of_node old (node.Record fs)))) → IfOk r (λ k. (s : Static) → IsAt old.statics j s → MayBeAt new.statics k (static_cut (Some n) (Some s)))
cut_some old new n j fs (Ok k) h g =
    λ s at.
    let o = h s at in
    subst (MayBeAt new.statics k) (sym (cut_from (as_static_fields s) n o.0 o.2)) (some_is new.statics k (static_of_node old (node.Record fs)) (static_record o.0) g (node_record old fs o.0 o.1))
cut_some old new n j fs (Err e) h g = tt

-- ---- two records together

join_from : (a b : Option StaticFields) (hs : StaticFields) → on_two (λ fs gs. Some (fields_together fs gs)) a b ≡ Some hs → on_two (λ fs gs. Some (static_record (fields_together fs gs))) a b ≡ Some (static_record hs)
join_from None b hs e = absurd (cc)
join_from (Some fs) None hs e = absurd (cc)
join_from (Some fs) (Some gs) hs e = ap (λ l. Some (static_record l)) (same (fields_together fs gs) hs e)
  where
    same : (a b : StaticFields) → Some a ≡ Some b → a ≡ b
    same a b e = cc

pub join_none : (s t : Static) → fields_joined s t ≡ None → static_join (Some s) (Some t) ≡ None
join_none s t e = from (as_static_fields s) (as_static_fields t) e
  where
    from : (a b : Option StaticFields) → on_two (λ fs gs. Some (fields_together fs gs)) a b ≡ None → on_two (λ fs gs. Some (static_record (fields_together fs gs))) a b ≡ None
    from None b e = refl
    from (Some fs) None e = refl
    from (Some fs) (Some gs) e = absurd (cc)

pub join_some : {E : Type 0} (old new : Held) (i j : ℕ) (fs : List Field) (r : Result (Option ℕ) E)
    → ((s t : Static) → IsAt old.statics i s → IsAt old.statics j t → FieldsMayBe old.statics (Some fs) (fields_joined s t))
    → IfOk r (λ k. MayBeAt new.statics k (Some (static_of_node old (node.Record fs)))) → IfOk r (λ k. (s t : Static) → IsAt old.statics i s → IsAt old.statics j t → MayBeAt new.statics k (static_join (Some s) (Some t)))
join_some old new i j fs (Ok k) h g =
    λ s t a b.
    let o = h s t a b in
    subst (MayBeAt new.statics k) (sym (join_from (as_static_fields s) (as_static_fields t) o.0 o.2)) (some_is new.statics k (static_of_node old (node.Record fs)) (static_record o.0) g (node_record old fs o.0 o.1))
join_some old new i j fs (Err e) h g = tt

pub joined_there : (statics : Statics) (fs gs all : List Field) (s t : Static) → all ≡ numbers_together fs gs → FieldsMayBe statics (Some fs) (as_static_fields s) → FieldsMayBe statics (Some gs) (as_static_fields t)
    → FieldsMayBe statics (Some all) (fields_joined s t)
joined_there statics fs gs all s t e h g = (
  fields_together h.0 g.0,
  subst (λ (l : List Field). FieldsAre statics l (fields_together h.0 g.0)) (sym e) (together_are statics fs h.0 gs g.0 h.1 g.1),
  ap₂ (on_two (λ (a b : StaticFields). Some (fields_together a b))) h.2 g.2,
)

pub none_left : (s t : Static) → as_static_fields s ≡ None → fields_joined s t ≡ None
none_left s t h = ap (λ (a : Option StaticFields). on_two (λ (x y : StaticFields). Some (fields_together x y)) a (as_static_fields t)) h

pub none_right : (s t : Static) → as_static_fields t ≡ None → fields_joined s t ≡ None
none_right s t h = ap (on_two (λ (x y : StaticFields). Some (fields_together x y)) (as_static_fields s)) h ∙ from (as_static_fields s)
  where
    from : (a : Option StaticFields) → on_two (λ (x y : StaticFields). Some (fields_together x y)) a None ≡ None
    from None = refl
    from (Some fs) = refl

-- ---- what is not there

pub cut_nothing : (n : Option Name) → static_cut n None ≡ None
cut_nothing None = refl
cut_nothing (Some n) = refl

pub project_nothing : (n : Option Name) → static_project n None ≡ None
project_nothing None = refl
project_nothing (Some n) = refl

pub join_nothing : (s : Option Static) → static_join s None ≡ None
join_nothing None = refl
join_nothing (Some s) = refl
