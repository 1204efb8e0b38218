-- That nodes that differ are static expressions that differ.
use Rattle.std.proofs.Common.{◌≡◌, ◌≢◌, ℕ, ℤ, zero, suc, ◌<◌, Bool, List, [], ◌∷◌, map, length, get_or, refl, sym, ap, ap₂, ◌∙◌, arith}
use Rattle.std.specs.List.{AllByRecursion}
use Rattle.std.proofs.lemmas.Option.{slice_get-get_or}
use Rattle.ur_values.specs.declared.value.Value.{Value}
use Rattle.ur_values.specs.declared.value.Value.TheVariants as v
use Rattle.ur_rows.specs.declared.normal.Normal.{Normal}
use Rattle.ur_rows.specs.declared.normal.Normal.TheVariants as normal
use Rattle.ur_rows.specs.Made.{unit}
use Rattle.ur_tree.specs.declared.exp.Exp.{Exp}
use Rattle.ur_tree.specs.declared.exp.Exp.TheVariants as x
use Rattle.ur_tree.specs.declared.exp.Param.{Param}
use Rattle.ur_tree.specs.declared.closed.Static.{Static, Static-F, out-Static}
use Rattle.ur_tree.specs.declared.closed.Static.TheOpen as o
use Rattle.ur_tree.specs.declared.closed.Static.TheVariants as st
use Rattle.ur_tree.specs.declared.closed.StaticField.{StaticField}
use Rattle.ur_meaning.specs.Instances.{Different}
use Rattle.ur_source.specs.Static.{static_record}
use Rattle.ur_unfold_static.specs.declared.node.Field.{Field}
use Rattle.ur_unfold_static.specs.declared.node.Node.{Node}
use Rattle.ur_unfold_static.specs.declared.node.Node.TheVariants as node
use Rattle.ur_unfold_static.specs.Held.{Held, Written, con_at, static_at, field_of, lambda_with, static_of_node, AreBelow, NodeFits}

-- ---- numbers of what is there once

others : {A : Type 0} (d y : A) (xs : List A) → AllByRecursion (λ z. y ≢ z) xs → (j : ℕ) → j < length xs → y ≢ get_or xs j d
others d y [] u j h = absurd (omega (arith, h))
others d y (z ∷ xs) u zero h = u.0
others d y (z ∷ xs) u (suc j) h = others d y xs u.1 j (omega (arith, h))

pub once_at : {A : Type 0} (d : A) (xs : List A) → Different xs → (i j : ℕ) → i < length xs → j < length xs → get_or xs i d ≡ get_or xs j d → i ≡ j
once_at d [] u i j h k e = absurd (omega (arith, h))
once_at d (y ∷ xs) u zero zero h k e = refl
once_at d (y ∷ xs) u zero (suc j) h k e = absurd (others d y xs u.0 j (omega (arith, k)) e)
once_at d (y ∷ xs) u (suc i) zero h k e = absurd (others d y xs u.0 i (omega (arith, h)) (sym e))
once_at d (y ∷ xs) u (suc i) (suc j) h k e = ap suc (once_at d xs u.1 i j (omega (arith, h)) (omega (arith, k)) e)

parts : {A : Type 0} (a b : A) (xs ys : List A) → a ∷ xs ≡ b ∷ ys → (a ≡ b) × (xs ≡ ys)
parts a b xs ys e = (cc, cc)

numbers_once : {A : Type 0} (f : ℕ → A) (most : ℕ) → ((i j : ℕ) → i < most → j < most → f i ≡ f j → i ≡ j) → (js ks : List ℕ)
    → AreBelow most js → AreBelow most ks → map f js ≡ map f ks → js ≡ ks
numbers_once f most once [] [] h g e = refl
numbers_once f most once [] (k ∷ ks) h g e = absurd (cc)
numbers_once f most once (j ∷ js) [] h g e = absurd (cc)
numbers_once f most once (j ∷ js) (k ∷ ks) h g e =
    let both = parts (f j) (f k) (map f js) (map f ks) e in
    ap₂ (λ a b. a ∷ b) (once j k h.0 g.0 both.0) (numbers_once f most once js ks h.1 g.1 both.1)

field_parts : (a b : StaticField) → a ≡ b → (a.name ≡ b.name) × (a.of ≡ b.of)
field_parts a b e = (ap (λ f. f.name) e, ap (λ f. f.of) e)

fields_once : (statics : List Static) → Different statics → (fs gs : List Field) → AreBelow (length statics) (map (λ f. f.of) fs) → AreBelow (length statics) (map (λ f. f.of) gs)
    → map (field_of statics) fs ≡ map (field_of statics) gs → fs ≡ gs
fields_once statics u [] [] h g e = refl
fields_once statics u [] (k ∷ gs) h g e = absurd (cc)
fields_once statics u (f ∷ fs) [] h g e = absurd (cc)
fields_once statics u (f ∷ fs) (k ∷ gs) h g e =
    let both = parts (field_of statics f) (field_of statics k) (map (field_of statics) fs) (map (field_of statics) gs) e in
    let one = field_parts (field_of statics f) (field_of statics k) both.0 in
    ap₂ (λ a b. a ∷ b)
    (ap₂ (λ n j. record { name = n; of = j }) one.0 (once_at (static_record []) statics u f.of k.of h.0 g.0 one.1))
    (fields_once statics u fs gs h.1 g.1 both.1)

-- ---- what static expressions are made of

literal_same : (a b : Value) → st.Literal a ≡ st.Literal b → a ≡ b
literal_same a b e = inner (sym (st.outs-Literal a) ∙ ap out-Static e ∙ st.outs-Literal b)
  where
    inner : ◌≡◌ {A = Static-F Static StaticField} (o.Literal a) (o.Literal b) → a ≡ b
    inner h = cc

function_same : (k j : ℕ) (cs ds : List Normal) → st.Function k cs ≡ st.Function j ds → (k ≡ j) × (cs ≡ ds)
function_same k j cs ds e = inner (sym (st.outs-Function k cs) ∙ ap out-Static e ∙ st.outs-Function j ds)
  where
    inner : ◌≡◌ {A = Static-F Static StaticField} (o.Function k cs) (o.Function j ds) → (k ≡ j) × (cs ≡ ds)
    inner h = (cc, cc)

lambda_same : (p q : List Param) (a b : Exp) (cs ds : List Normal) (fs gs : List Static) → st.Lambda p a cs fs ≡ st.Lambda q b ds gs
    → ◌≡◌ {A = Written} (p, a) (q, b) × (cs ≡ ds) × (fs ≡ gs)
lambda_same p q a b cs ds fs gs e = inner (sym (st.outs-Lambda p a cs fs) ∙ ap out-Static e ∙ st.outs-Lambda q b ds gs)
  where
    inner : ◌≡◌ {A = Static-F Static StaticField} (o.Lambda p a cs fs) (o.Lambda q b ds gs) → ◌≡◌ {A = Written} (p, a) (q, b) × (cs ≡ ds) × (fs ≡ gs)
    inner h = (cc, cc, cc)

record_same : (fs gs : List StaticField) → st.Record fs ≡ st.Record gs → fs ≡ gs
record_same fs gs e = inner (sym (st.outs-Record fs) ∙ ap out-Static e ∙ st.outs-Record gs)
  where
    inner : ◌≡◌ {A = Static-F Static StaticField} (o.Record fs) (o.Record gs) → fs ≡ gs
    inner h = cc

abbrev number : Static-F Static StaticField → ℕ
number (o.Literal a) = 0
number (o.Function k cs) = 1
number (o.Lambda params body cs fs) = 2
number (o.Record fs) = 3

int_same : (i j : ℤ) → v.Int i ≡ v.Int j → i ≡ j
int_same i j e = cc

text_same : (s t : List ℕ) → v.Str s ≡ v.Str t → s ≡ t
text_same s t e = cc

bool_same : (a b : Bool) → v.Bool a ≡ v.Bool b → a ≡ b
bool_same a b e = cc

other_value : (a b : Value) → st.Literal a ≡ st.Literal b → (a ≡ b → ⊥) → ⊥
other_value a b e other = other (literal_same a b e)

lambda_of : (l k : ℕ) (js ks : List ℕ) (fs gs : List ℕ) → l ≡ k → js ≡ ks → fs ≡ gs → node.Lambda l js fs ≡ node.Lambda k ks gs
lambda_of l k js ks fs gs d e f = cc

abbrev node_number : Node → ℕ
node_number (node.Int i) = 0
node_number (node.Str s) = 0
node_number (node.Bool b) = 0
node_number (node.Function k js) = 1
node_number (node.Lambda l js fs) = 2
node_number (node.Record fs) = 3

module _ (held : Held) (different_cons : Different held.cons) (lambdas_once : Different held.lambdas) (different_statics : Different held.statics) where
  tag : (n : Node) → NodeFits held n → number (out-Static (static_of_node held n)) ≡ node_number n
  tag (node.Int i) h = ap number (st.outs-Literal (v.Int i))
  tag (node.Str s) h = ap number (st.outs-Literal (v.Str s))
  tag (node.Bool b) h = ap number (st.outs-Literal (v.Bool b))
  tag (node.Function k js) h = ap number (st.outs-Function k (map (con_at held.cons) js))
  tag (node.Lambda l js fs) h =
      let w = get_or held.lambdas l ([], x.Unit) in
      ap (λ y. number (out-Static (lambda_with y (map (con_at held.cons) js) (map (static_at held.statics) fs)))) (slice_get-get_or held.lambdas l ([], x.Unit) h.0)
      ∙ ap number (st.outs-Lambda w.0 w.1 (map (con_at held.cons) js) (map (static_at held.statics) fs))
  tag (node.Record fs) h = ap number (st.outs-Record (map (field_of held.statics) fs))

  tags : (m n : Node) → NodeFits held m → NodeFits held n → static_of_node held m ≡ static_of_node held n → node_number m ≡ node_number n
  tags m n h g e = sym (tag m h) ∙ ap (λ s. number (out-Static s)) e ∙ tag n g

  cons_once : (js ks : List ℕ) → AreBelow (length held.cons) js → AreBelow (length held.cons) ks → map (con_at held.cons) js ≡ map (con_at held.cons) ks → js ≡ ks
  cons_once = numbers_once (con_at held.cons) (length held.cons) (once_at (normal.Type unit) held.cons different_cons)

  statics_once : (js ks : List ℕ) → AreBelow (length held.statics) js → AreBelow (length held.statics) ks → map (static_at held.statics) js ≡ map (static_at held.statics) ks → js ≡ ks
  statics_once = numbers_once (static_at held.statics) (length held.statics) (once_at (static_record []) held.statics different_statics)

  pub node_once : (m n : Node) → NodeFits held m → NodeFits held n → static_of_node held m ≡ static_of_node held n → m ≡ n
  node_once (node.Int i) (node.Int i2) h g e = ap node.Int (int_same i i2 (literal_same (v.Int i) (v.Int i2) e))
  node_once (node.Int i) (node.Str s2) h g e = absurd (other_value (v.Int i) (v.Str s2) e (λ q. cc))
  node_once (node.Int i) (node.Bool b2) h g e = absurd (other_value (v.Int i) (v.Bool b2) e (λ q. cc))
  node_once (node.Int i) (node.Function k2 js2) h g e = absurd (omega (arith, tags (node.Int i) (node.Function k2 js2) h g e))
  node_once (node.Int i) (node.Lambda l2 js2 fs2) h g e = absurd (omega (arith, tags (node.Int i) (node.Lambda l2 js2 fs2) h g e))
  node_once (node.Int i) (node.Record fs2) h g e = absurd (omega (arith, tags (node.Int i) (node.Record fs2) h g e))
  node_once (node.Str s) (node.Int i2) h g e = absurd (other_value (v.Str s) (v.Int i2) e (λ q. cc))
  node_once (node.Str s) (node.Str s2) h g e = ap node.Str (text_same s s2 (literal_same (v.Str s) (v.Str s2) e))
  node_once (node.Str s) (node.Bool b2) h g e = absurd (other_value (v.Str s) (v.Bool b2) e (λ q. cc))
  node_once (node.Str s) (node.Function k2 js2) h g e = absurd (omega (arith, tags (node.Str s) (node.Function k2 js2) h g e))
  node_once (node.Str s) (node.Lambda l2 js2 fs2) h g e = absurd (omega (arith, tags (node.Str s) (node.Lambda l2 js2 fs2) h g e))
  node_once (node.Str s) (node.Record fs2) h g e = absurd (omega (arith, tags (node.Str s) (node.Record fs2) h g e))
  node_once (node.Bool b) (node.Int i2) h g e = absurd (other_value (v.Bool b) (v.Int i2) e (λ q. cc))
  node_once (node.Bool b) (node.Str s2) h g e = absurd (other_value (v.Bool b) (v.Str s2) e (λ q. cc))
  node_once (node.Bool b) (node.Bool b2) h g e = ap node.Bool (bool_same b b2 (literal_same (v.Bool b) (v.Bool b2) e))
  node_once (node.Bool b) (node.Function k2 js2) h g e = absurd (omega (arith, tags (node.Bool b) (node.Function k2 js2) h g e))
  node_once (node.Bool b) (node.Lambda l2 js2 fs2) h g e = absurd (omega (arith, tags (node.Bool b) (node.Lambda l2 js2 fs2) h g e))
  node_once (node.Bool b) (node.Record fs2) h g e = absurd (omega (arith, tags (node.Bool b) (node.Record fs2) h g e))
  node_once (node.Function k js) (node.Int i2) h g e = absurd (omega (arith, tags (node.Function k js) (node.Int i2) h g e))
  node_once (node.Function k js) (node.Str s2) h g e = absurd (omega (arith, tags (node.Function k js) (node.Str s2) h g e))
  node_once (node.Function k js) (node.Bool b2) h g e = absurd (omega (arith, tags (node.Function k js) (node.Bool b2) h g e))
  node_once (node.Function k js) (node.Function k2 js2) h g e =
      let both = function_same k k2 (map (con_at held.cons) js) (map (con_at held.cons) js2) e in
      ap₂ (λ a b. node.Function a b) both.0 (cons_once js js2 h g both.1)
  node_once (node.Function k js) (node.Lambda l2 js2 fs2) h g e = absurd (omega (arith, tags (node.Function k js) (node.Lambda l2 js2 fs2) h g e))
  node_once (node.Function k js) (node.Record fs2) h g e = absurd (omega (arith, tags (node.Function k js) (node.Record fs2) h g e))
  node_once (node.Lambda l js fs) (node.Int i2) h g e = absurd (omega (arith, tags (node.Lambda l js fs) (node.Int i2) h g e))
  node_once (node.Lambda l js fs) (node.Str s2) h g e = absurd (omega (arith, tags (node.Lambda l js fs) (node.Str s2) h g e))
  node_once (node.Lambda l js fs) (node.Bool b2) h g e = absurd (omega (arith, tags (node.Lambda l js fs) (node.Bool b2) h g e))
  node_once (node.Lambda l js fs) (node.Function k2 js2) h g e = absurd (omega (arith, tags (node.Lambda l js fs) (node.Function k2 js2) h g e))
  node_once (node.Lambda l js fs) (node.Lambda l2 js2 fs2) h g e =
      let w = get_or held.lambdas l ([], x.Unit) in
      let w2 = get_or held.lambdas l2 ([], x.Unit) in
      let at = slice_get-get_or held.lambdas l ([], x.Unit) h.0 in
      let at2 = slice_get-get_or held.lambdas l2 ([], x.Unit) g.0 in
      let all = lambda_same w.0 w2.0 w.1 w2.1 (map (con_at held.cons) js) (map (con_at held.cons) js2) (map (static_at held.statics) fs) (map (static_at held.statics) fs2)
      (sym (ap (λ y. lambda_with y (map (con_at held.cons) js) (map (static_at held.statics) fs)) at) ∙ e
      ∙ ap (λ y. lambda_with y (map (con_at held.cons) js2) (map (static_at held.statics) fs2)) at2) in
      lambda_of l l2 js js2 fs fs2 (once_at ([], x.Unit) held.lambdas lambdas_once l l2 h.0 g.0 all.0) (cons_once js js2 h.1 g.1 all.1) (statics_once fs fs2 h.2 g.2 all.2)
  node_once (node.Lambda l js fs) (node.Record fs2) h g e = absurd (omega (arith, tags (node.Lambda l js fs) (node.Record fs2) h g e))
  node_once (node.Record fs) (node.Int i2) h g e = absurd (omega (arith, tags (node.Record fs) (node.Int i2) h g e))
  node_once (node.Record fs) (node.Str s2) h g e = absurd (omega (arith, tags (node.Record fs) (node.Str s2) h g e))
  node_once (node.Record fs) (node.Bool b2) h g e = absurd (omega (arith, tags (node.Record fs) (node.Bool b2) h g e))
  node_once (node.Record fs) (node.Function k2 js2) h g e = absurd (omega (arith, tags (node.Record fs) (node.Function k2 js2) h g e))
  node_once (node.Record fs) (node.Lambda l2 js2 fs2) h g e = absurd (omega (arith, tags (node.Record fs) (node.Lambda l2 js2 fs2) h g e))
  node_once (node.Record fs) (node.Record fs2) h g e = ap node.Record (fields_once held.statics different_statics fs fs2 h g (record_same (map (field_of held.statics) fs) (map (field_of held.statics) fs2) e))
