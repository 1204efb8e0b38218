-- What the forms that are static close to.
use Rattle.std.proofs.Common.{◌≡◌, ℕ, Bool, true, ◌+◌, ◌-◌, List, ◌∷◌, ◌++◌, map, reverse, Option, None, Some, Result, Ok, Err, IfOk, refl, sym, ap, ap₂, subst, ◌∙◌}
use Rattle.std.specs.Prelude.{slice_get, option_and_then}
use Rattle.std.specs.List.{AllZip}
use Rattle.ur_base.specs.declared.names.Name.{Name}
use Rattle.ur_terms.specs.Values.{field_at}
use Rattle.ur_rows.specs.declared.normal.Label.{Label}
use Rattle.ur_rows.specs.declared.normal.Normal.{Normal}
use Rattle.ur_rows.specs.declared.normal.NormalType.{NormalType}
use Rattle.ur_rows.specs.declared.normal.Part.{Part}
use Rattle.ur_rows.specs.Put.{instance}
use Rattle.ur_tree.specs.declared.exp.Exp.{Exp}
use Rattle.ur_tree.specs.declared.exp.Exp.TheVariants as x
use Rattle.ur_tree.specs.declared.exp.Param.{Param}
use Rattle.ur_tree.specs.declared.exp.FieldExp.{FieldExp}
use Rattle.ur_tree.specs.declared.closed.Static.{Static}
use Rattle.ur_tree.specs.declared.closed.Static.TheVariants as st
use Rattle.ur_source.specs.Reading.{Names, Cons, label_number, fold_steps}
use Rattle.ur_source.specs.Static.{StaticFields, static_record, as_static_fields, static_project, static_join, static_fold, static_steps, on_two, if_fixed, static_of}
use Rattle.ur_unfold_static.specs.declared.node.Field.{Field}
use Rattle.ur_unfold_static.specs.declared.node.Node.TheVariants as node
use Rattle.ur_unfold_static.specs.declared.node.Scope.{Scope}
use Rattle.ur_unfold_static.specs.declared.node.Step.{Step}
use Rattle.ur_unfold_static.specs.Held.{Held, Grows, static_of_node}
use Rattle.ur_unfold_static.specs.Scopes.{Statics, IsAt, AreAt, MayBeAt, Stands, FieldsAre, StepIs, StepsMayBe, cons_of}
use Rattle.ur_unfold_static.proofs.Standing.{at_place, cons_are, cons_grown, statics_grown, stands_grown, may_be_grown, fields_are, steps_grown}
use Rattle.ur_unfold_pieces.specs.Closes.{Read, Under, Closes, FieldMayBe, FieldsMayBe, static_field_of}
use Rattle.ur_unfold_pieces.proofs.Equations.{static-Fold}

-- ---- nodes

pub node_function : (held : Held) (k : ℕ) (js : List ℕ) (cs : Cons) → AreAt held.cons js cs → static_of_node held (node.Function k js) ≡ st.Function k cs
node_function held k js cs h = ap (st.Function k) (cons_are held.cons js cs h)

pub node_record : (held : Held) (fs : List Field) (gs : StaticFields) → FieldsAre held.statics fs gs → static_of_node held (node.Record fs) ≡ static_record gs
node_record held fs gs h = ap (λ l. st.Record l) (fields_are held.statics fs gs h)

pub some_is : (statics : Statics) (j : Option ℕ) (s t : Static) → MayBeAt statics j (Some s) → s ≡ t → MayBeAt statics j (Some t)
some_is statics j s t h e = subst (λ (u : Static). MayBeAt statics j (Some u)) e h

pub is_some_at : (statics : Statics) (j : ℕ) (s : Static) → IsAt statics j s → MayBeAt statics (Some j) (Some s)
is_some_at statics j s h = (s, h, refl)

none_two : {A B C : Type 0} (f : A → B → Option C) (a : Option A) → on_two f a None ≡ None
none_two f None = refl
none_two f (Some a) = refl

-- a field of a record
pub project_at : (statics : Statics) (n : Name) (s : Static) (f : Option (List Field)) (j : Option ℕ) → FieldsMayBe statics f (as_static_fields s)
    → ((fs : List Field) (gs : StaticFields) → f ≡ Some fs → FieldsAre statics fs gs → MayBeAt statics j (field_at n gs)) → (f ≡ None → j ≡ None) → MayBeAt statics j (static_project (Some n) (Some s))
project_at statics n s None j h some none =
    subst (λ (i : Option ℕ). MayBeAt statics i (static_project (Some n) (Some s))) (sym (none refl)) (ap (option_and_then (field_at n)) h)
project_at statics n s (Some fs) j h some none =
    subst (MayBeAt statics j) (sym (ap (option_and_then (field_at n)) h.2)) (some fs h.0 refl h.1)

-- ---- forms

module _ {E : Type 0} where
  pub some_arm : (old new : Held) (scope : Scope) (vals : List ℕ) (s : Static) (read : Read (Option Static)) (r : Result (Option ℕ) E) → IfOk r (λ j. MayBeAt new.statics j (Some s))
      → ((vs : Statics) (cs : Cons) (fs : Statics) → read vs cs fs ≡ Some s) → IfOk r (λ j. Closes old scope vals new j read)
  some_arm old new scope vals s read (Ok j) h e = λ cs fs vs hs av. subst (MayBeAt new.statics j) (sym (e vs cs fs)) h
  some_arm old new scope vals s read (Err y) h e = tt

  pub function_arm : (old new : Held) (scope : Scope) (vals : List ℕ) (k : ℕ) (args : List Normal) (read : Read (Option Static)) (r : Result (Option ℕ) E)
      → IfOk r (λ j. MayBeAt new.statics j (Some (st.Function k (map (instance (cons_of old scope)) args))))
      → ((vs : Statics) (cs : Cons) (fs : Statics) → read vs cs fs ≡ Some (st.Function k (map (instance cs) args))) → IfOk r (λ j. Closes old scope vals new j read)
  function_arm old new scope vals k args read (Ok j) h e =
      λ cs fs vs hs av. subst (MayBeAt new.statics j) (ap (λ (ds : Cons). Some (st.Function k (map (instance ds) args))) (cons_are old.cons scope.cons cs hs.0) ∙ sym (e vs cs fs)) h
  function_arm old new scope vals k args read (Err y) h e = tt

pub fixed_arm : (held : Held) (scope : Scope) (vals : List ℕ) (i : ℕ) (j : Option ℕ) (read : Read (Option Static)) → j ≡ slice_get scope.fixed i
    → ((vs : Statics) (cs : Cons) (fs : Statics) → read vs cs fs ≡ slice_get fs i) → Closes held scope vals held j read
fixed_arm held scope vals i j read p e =
    λ cs fs vs hs av. subst (λ (k : Option ℕ). MayBeAt held.statics k (read vs cs fs)) (sym p) (subst (MayBeAt held.statics (slice_get scope.fixed i)) (sym (e vs cs fs)) (at_place held.statics scope.fixed fs hs.1 i))

pub val_arm : (held : Held) (scope : Scope) (vals : List ℕ) (i : ℕ) (j : Option ℕ) (read : Read (Option Static)) → j ≡ slice_get vals i
    → ((vs : Statics) (cs : Cons) (fs : Statics) → read vs cs fs ≡ slice_get vs i) → Closes held scope vals held j read
val_arm held scope vals i j read p e =
    λ cs fs vs hs av. subst (λ (k : Option ℕ). MayBeAt held.statics k (read vs cs fs)) (sym p) (subst (MayBeAt held.statics (slice_get vals i)) (sym (e vs cs fs)) (at_place held.statics vals vs av i))

pub lambda_arm : (old new : Held) (scope : Scope) (vals : List ℕ) (j : ℕ) (f : Cons → Statics → Static) (read : Read (Option Static))
    → ((cs : Cons) (fs : Statics) → Stands old scope cs fs → IsAt new.statics j (f cs fs)) → ((vs : Statics) (cs : Cons) (fs : Statics) → read vs cs fs ≡ Some (f cs fs)) → Closes old scope vals new (Some j) read
lambda_arm old new scope vals j f read h e = λ cs fs vs hs av. (f cs fs, h cs fs hs, e vs cs fs)

pub none_arm : (old new : Held) (scope : Scope) (vals : List ℕ) (read : Read (Option Static)) → ((vs : Statics) (cs : Cons) (fs : Statics) → read vs cs fs ≡ None) → Closes old scope vals new None read
none_arm old new scope vals read e = λ cs fs vs hs av. e vs cs fs

abbrev step_of : Names → Exp → Statics → Cons → Statics → Cons → Static → Option Static
step_of names step vs cs fs k s = static_of names vs (cs ++ k) (s ∷ fs) step

pub fold_none : (names : Names) (old mid new : Held) (scope : Scope) (vals : List ℕ) (row : List Part) (step start : Exp) (read : Read (Option Static)) → StepsMayBe mid None (fold_steps (cons_of old scope) row)
    → ((vs : Statics) (cs : Cons) (fs : Statics) → read vs cs fs ≡ static_fold (step_of names step vs cs fs) (fold_steps cs row) (static_of names vs cs fs start)) → Closes old scope vals new None read
fold_none names old mid new scope vals row step start read h q =
    λ cs fs vs hs av.
    q vs cs fs ∙ ap (λ (ks : Option (List Cons)). static_fold (step_of names step vs cs fs) ks (static_of names vs cs fs start)) (ap (λ (ds : Cons). fold_steps ds row) (sym (cons_are old.cons scope.cons cs hs.0)) ∙ h)

module _ {E : Type 0} (names : Names) where
  -- a part of a static record, or a static record with a change: `f` of the name and the record
  pub label_arm : (f : Option Name → Option Static → Option Static) (old mid new : Held) (scope : Scope) (vals : List ℕ) (l : Label) (of : Option ℕ) (e : Exp) (read : Read (Option Static)) (r : Result (Option ℕ) E) → Grows old mid
      → Closes old scope vals mid of (λ vs cs fs. static_of names vs cs fs e)
      → IfOk r (λ j. (s : Option Static) → MayBeAt mid.statics of s → MayBeAt new.statics j (f (label_number names (cons_of mid scope) l) s))
      → ((vs : Statics) (cs : Cons) (fs : Statics) → read vs cs fs ≡ f (label_number names cs l) (static_of names vs cs fs e)) → IfOk r (λ j. Closes old scope vals new j read)
  label_arm f old mid new scope vals l of e read (Ok j) g h k q =
      λ cs fs vs hs av.
      let same = cons_are mid.cons scope.cons cs (cons_grown old mid g scope.cons cs hs.0) in
      subst (MayBeAt new.statics j) (ap (λ (ds : Cons). f (label_number names ds l) (static_of names vs cs fs e)) same ∙ sym (q vs cs fs))
      (k (static_of names vs cs fs e) (h cs fs vs hs av))
  label_arm f old mid new scope vals l of e read (Err y) g h k q = tt

  pub join_arm : (old mid more new : Held) (scope : Scope) (vals : List ℕ) (left right : Option ℕ) (a b : Exp) (read : Read (Option Static)) (r : Result (Option ℕ) E) → Grows old mid → Grows mid more
      → Closes old scope vals mid left (λ vs cs fs. static_of names vs cs fs a) → Closes mid scope vals more right (λ vs cs fs. static_of names vs cs fs b)
      → IfOk r (λ j. (s t : Option Static) → MayBeAt more.statics left s → MayBeAt more.statics right t → MayBeAt new.statics j (static_join s t))
      → ((vs : Statics) (cs : Cons) (fs : Statics) → read vs cs fs ≡ static_join (static_of names vs cs fs a) (static_of names vs cs fs b)) → IfOk r (λ j. Closes old scope vals new j read)
  join_arm old mid more new scope vals left right a b read (Ok j) g k h i w q =
      λ cs fs vs hs av.
      let s = static_of names vs cs fs a in
      let t = static_of names vs cs fs b in
      subst (MayBeAt new.statics j) (sym (q vs cs fs))
      (w s t (may_be_grown mid more k left s (h cs fs vs hs av)) (i cs fs vs (stands_grown old mid g scope cs fs hs) (statics_grown old mid g vals vs av)))
  join_arm old mid more new scope vals left right a b read (Err y) g k h i w q = tt

  pub fold_some : (old mid more new : Held) (scope : Scope) (vals : List ℕ) (row : List Part) (ss : List Step) (first : Option ℕ) (step start : Exp) (read : Read (Option Static)) (r : Result (Option ℕ) E)
      → Grows old mid → Grows mid more → StepsMayBe mid (Some ss) (fold_steps (cons_of old scope) row) → Closes mid scope vals more first (λ vs cs fs. static_of names vs cs fs start)
      → IfOk r (λ j. (ks : List Cons) (s : Option Static) → AllZip (StepIs more) ss ks → MayBeAt more.statics first s → Closes more scope vals new j (λ vs cs fs. static_steps (step_of names step vs cs fs) ks s))
      → ((vs : Statics) (cs : Cons) (fs : Statics) → read vs cs fs ≡ static_fold (step_of names step vs cs fs) (fold_steps cs row) (static_of names vs cs fs start)) → IfOk r (λ j. Closes old scope vals new j read)
  fold_some old mid more new scope vals row ss first step start read (Ok j) g k h i w q =
      λ cs fs vs hs av.
      let stands = stands_grown old mid g scope cs fs hs in
      let values = statics_grown old mid g vals vs av in
      let s = static_of names vs cs fs start in
      let done = w (reverse h.0) s (steps_grown mid more k ss (reverse h.0) h.1) (i cs fs vs stands values) cs fs vs (stands_grown mid more k scope cs fs stands) (statics_grown mid more k vals vs values) in
      let steps : fold_steps cs row ≡ Some h.0 = ap (λ (ds : Cons). fold_steps ds row) (sym (cons_are old.cons scope.cons cs hs.0)) ∙ h.2 in
      subst (MayBeAt new.statics j) (sym (q vs cs fs ∙ ap (λ (ks : Option (List Cons)). static_fold (step_of names step vs cs fs) ks s) steps)) done
  fold_some old mid more new scope vals row ss first step start read (Err y) g k h i w q = tt

-- ---- fields

pub field_unnamed : (names : Names) (old new : Held) (scope : Scope) (vals : List ℕ) (f : FieldExp) (n : Option Name) → n ≡ label_number names (cons_of old scope) f.name → n ≡ None
    → Under old scope vals (λ vs cs fs. FieldMayBe new.statics None (static_field_of names vs cs fs f))
field_unnamed names old new scope vals f n e h =
    λ cs fs vs hs av.
    ap (λ (m : Option Name). on_two {C = Name × Static} (λ k s. Some (k, s)) m (static_of names vs cs fs f.of)) (ap (λ (ds : Cons). label_number names ds f.name) (sym (cons_are old.cons scope.cons cs hs.0)) ∙ sym e ∙ h)

pub field_named : (names : Names) (old new : Held) (scope : Scope) (vals : List ℕ) (f : FieldExp) (n : Option Name) (j : Option ℕ) (name : Name) (of : ℕ) → n ≡ label_number names (cons_of old scope) f.name → n ≡ Some name → j ≡ Some of
    → Closes old scope vals new j (λ vs cs fs. static_of names vs cs fs f.of) → Under old scope vals (λ vs cs fs. FieldMayBe new.statics (Some (record { name = name; of = of })) (static_field_of names vs cs fs f))
field_named names old new scope vals f n j name of e h k m =
    λ cs fs vs hs av.
    let so = subst (λ (o : Option ℕ). MayBeAt new.statics o (static_of names vs cs fs f.of)) k (m cs fs vs hs av) in (
      (name, so.0),
      (refl, so.1),
      ap₂ (λ (a : Option Name) (b : Option Static). on_two {C = Name × Static} (λ k s. Some (k, s)) a b) (ap (λ (ds : Cons). label_number names ds f.name) (sym (cons_are old.cons scope.cons cs hs.0)) ∙ sym e ∙ h) so.2,
    )

-- ---- the form of a fold

pub fold_form : (names : Names) (vs : Statics) (cs : Cons) (fs : Statics) (e : Exp) (of : NormalType) (acc : Param) (step start : Exp) (row : List Part) → e ≡ x.Fold of acc step start row → acc.fixed ≡ true
    → static_of names vs cs fs e ≡ static_fold (step_of names step vs cs fs) (fold_steps cs row) (static_of names vs cs fs start)
fold_form names vs cs fs e of acc step start row h k =
    ap (static_of names vs cs fs) h ∙ static-Fold names vs cs fs of acc step start row
    ∙ ap (λ (b : Bool). if_fixed b (static_fold (step_of names step vs cs fs) (fold_steps cs row) (static_of names vs cs fs start))) k
