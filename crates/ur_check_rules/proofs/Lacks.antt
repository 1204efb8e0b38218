-- Whether no type is found of a written expression, form by form.
use Rattle.std.proofs.Common.{◌≡◌, ◌∙◌, refl, ap, sym, ℕ, ◌+◌, ◌<◌, ◌≤◌, Bool, true, false, List, [], ◌∷◌, length, drop, get_or}
use Rattle.std.specs.Prelude.{◌&&◌, ◌||◌}
use Rattle.ur_base.specs.Shape.{Shape, count}
use Rattle.ur_syntax.specs.declared.sql.SqlQuery.{SqlQuery}
use Rattle.ur_syntax.specs.declared.exp.Binary.{Binary}
use Rattle.ur_syntax.specs.declared.exp.Binary.TheVariants as op
use Rattle.ur_syntax.specs.declared.exp.Binder.{Binder}
use Rattle.ur_syntax.specs.declared.exp.LambdaParam.{LambdaParam}
use Rattle.ur_syntax.specs.declared.exp.Exp.{Exp}
use Rattle.ur_syntax.specs.declared.exp.Field.{Field}
use Rattle.ur_syntax.specs.declared.exp.Branch.{Branch}
use Rattle.ur_syntax.specs.declared.exp.LetVal.{LetVal}
use Rattle.ur_syntax.specs.declared.exp.ExpForm.{Row_of-Field, end_of-Field, more_of-Field, Row_of-Branch, end_of-Branch, more_of-Branch}
use Rattle.ur_syntax.specs.declared.exp.ExpForm.TheVariants as e
use Rattle.ur_syntax.specs.declared.exp.ExpForm.TheBlock as T
use Rattle.ur_typed_rules.specs.Lacking.{if_cons, lacks_type, some_lack_type, first_lacks_type}
use Rattle.ur_typed_rules.specs.Repeats.{literal_name, literal_names}
use Rattle.ur_check_scopes.proofs.Loops.{left-here, left-end}
use Rattle.ur_check_rules.specs.Written.{some_of_fields, first_of_branches, written_names}

-- a word of two tests
pub if-cons : (o : Binary) (b : Bool) → if_cons o b ≡ (if_cons o true && b)
if-cons op.Cons b = refl
if-cons op.Or b = refl
if-cons op.And b = refl
if-cons op.Eq b = refl
if-cons op.Ne b = refl
if-cons op.Lt b = refl
if-cons op.Le b = refl
if-cons op.Gt b = refl
if-cons op.Ge b = refl
if-cons op.Append b = refl
if-cons op.Concat b = refl
if-cons op.Add b = refl
if-cons op.Sub b = refl
if-cons op.Mul b = refl
if-cons op.Div b = refl
if-cons op.Rem b = refl

pub lacks-error : (a : Exp) → lacks_type (e.Error a) ≡ true
lacks-error a = refl

pub lacks-some : (a : Exp) → lacks_type (e.Some a) ≡ lacks_type a.form
unfolding T.hidden-the_row-Exp-0 denote.Hole.Carrier.hidden
lacks-some a = refl

pub lacks-return : (a : Exp) → lacks_type (e.Return a) ≡ lacks_type a.form
unfolding T.hidden-the_row-Exp-0 denote.Hole.Carrier.hidden
lacks-return a = refl

pub lacks-binary : (o : Binary) (a b : Exp) → lacks_type (e.Binary o a b) ≡ (if_cons o true && lacks_type a.form)
unfolding T.hidden-the_row-Exp-0 denote.Hole.Carrier.hidden
lacks-binary o a b = if-cons o (lacks_type a.form)

pub lacks-lambda : (ps : List LambdaParam) (a : Exp) → lacks_type (e.Lambda ps a) ≡ lacks_type a.form
unfolding T.hidden-the_row-Exp-0 denote.Hole.Carrier.hidden
lacks-lambda ps a = refl

pub lacks-if : (c a b : Exp) → lacks_type (e.If c a b) ≡ lacks_type a.form
unfolding T.hidden-the_row-Exp-0 denote.Hole.Carrier.hidden
lacks-if c a b = refl

pub lacks-let : (vs : List LetVal) (a : Exp) → lacks_type (e.Let vs a) ≡ lacks_type a.form
unfolding T.hidden-the_row-Exp-0 denote.Hole.Carrier.hidden
lacks-let vs a = refl

pub lacks-bind : (x : Binder) (a b : Exp) → lacks_type (e.Bind x a b) ≡ lacks_type b.form
unfolding T.hidden-the_row-Exp-0 denote.Hole.Carrier.hidden
lacks-bind x a b = refl

pub lacks-seq : (a b : Exp) → lacks_type (e.Seq a b) ≡ lacks_type b.form
unfolding T.hidden-the_row-Exp-0 denote.Hole.Carrier.hidden
lacks-seq a b = refl

pub lacks-query : (q : SqlQuery) (args : List Exp) (a : Exp) → lacks_type (e.QueryX q args a) ≡ lacks_type a.form
unfolding T.hidden-the_row-Exp-0 denote.Hole.Carrier.hidden
lacks-query q args a = refl

-- ---- fields and branches

-- the fields of a record, and branches, as they stand in an expression
abbrev pub field_row : List Field → (s : Shape) × Row_of-Field (count s)
field_row [] = ([], end_of-Field)
field_row (f ∷ fs) = (tt ∷ (field_row fs).0, more_of-Field f.name f.value.span f.value.form (field_row fs).1)

abbrev pub branch_row : List Branch → (s : Shape) × Row_of-Branch (count s)
branch_row [] = ([], end_of-Branch)
branch_row (b ∷ bs) = (tt ∷ (branch_row bs).0, more_of-Branch b.pat b.body.span b.body.form (branch_row bs).1)

field-row-made : (fs : List Field) → ◌≡◌ {A = (s : Shape) × Row_of-Field (count s)} (T.shape-the_row-Field-2 fs, T.hidden-the_row-Field-2 fs) (field_row fs)
unfolding T.hidden-the_row-Field-2 T.shape-the_row-Field-2 denote.Hole.Carrier.hidden
field-row-made [] = refl
field-row-made (f ∷ fs) = ap (λ (k : (s : Shape) × Row_of-Field (count s)). (tt ∷ k.0, more_of-Field f.name f.value.span f.value.form k.1)) (field-row-made fs)

pub record-made : (fs : List Field) → e.Record fs ≡ e.Record' (field_row fs).0 (field_row fs).1
unfolding T.shape-the_row-Field-2
record-made fs = ap (λ (k : (s : Shape) × Row_of-Field (count s)). e.Record' k.0 k.1) (field-row-made fs)

branch-row-made : (bs : List Branch) → ◌≡◌ {A = (s : Shape) × Row_of-Branch (count s)} (T.shape-the_row-Branch-1 bs, T.hidden-the_row-Branch-1 bs) (branch_row bs)
unfolding T.hidden-the_row-Branch-1 T.shape-the_row-Branch-1 denote.Hole.Carrier.hidden
branch-row-made [] = refl
branch-row-made (b ∷ bs) = ap (λ (k : (s : Shape) × Row_of-Branch (count s)). (tt ∷ k.0, more_of-Branch b.pat b.body.span b.body.form k.1)) (branch-row-made bs)

pub case-made : (a : Exp) (bs : List Branch) → lacks_type (e.Case a bs) ≡ first_lacks_type (branch_row bs).1
unfolding T.hidden-the_row-Exp-0 T.shape-the_row-Branch-1 denote.Hole.Carrier.hidden
case-made a bs = ap (λ (k : (s : Shape) × Row_of-Branch (count s)). first_lacks_type k.1) (branch-row-made bs)

some-fields : (fs : List Field) → some_lack_type (field_row fs).1 ≡ some_of_fields fs
some-fields [] = refl
some-fields (f ∷ fs) = ap (λ z. lacks_type f.value.form || z) (some-fields fs)

first-branch : (bs : List Branch) → first_lacks_type (branch_row bs).1 ≡ first_of_branches bs
first-branch [] = refl
first-branch (b ∷ bs) = refl

pub lacks-record : (fs : List Field) → lacks_type (e.Record fs) ≡ some_of_fields fs
lacks-record fs = ap lacks_type (record-made fs) ∙ some-fields fs

pub lacks-case : (a : Exp) (bs : List Branch) → lacks_type (e.Case a bs) ≡ first_of_branches bs
lacks-case a bs = case-made a bs ∙ first-branch bs

-- ---- fields, one after the other

lacks-here : (fs : List Field) (i : ℕ) (f : Field) (b : Bool) → i < length fs → f ≡ get_or fs i f → b ≡ lacks_type (get_or fs i f).value.form → some_of_fields (drop i fs) ≡ (b || some_of_fields (drop (i + 1) fs))
lacks-here fs i f b h is q = left-here some_of_fields fs i f h is ∙ ap (λ z. z || some_of_fields (drop (i + 1) fs)) (ap (λ (z : Field). lacks_type z.value.form) is ∙ sym q)

pub lacks-past : (fs : List Field) (i : ℕ) (f : Field) (b : Bool) → i < length fs → f ≡ get_or fs i f → b ≡ lacks_type (get_or fs i f).value.form → b ≡ false → some_of_fields (drop i fs) ≡ some_of_fields fs → some_of_fields (drop (i + 1) fs) ≡ some_of_fields fs
lacks-past fs i f b h is q t inv = ap (λ z. z || some_of_fields (drop (i + 1) fs)) (sym t) ∙ sym (lacks-here fs i f b h is q) ∙ inv

pub lacks-found : (fs : List Field) (i : ℕ) (f : Field) (b : Bool) → i < length fs → f ≡ get_or fs i f → b ≡ lacks_type (get_or fs i f).value.form → b ≡ true → some_of_fields (drop i fs) ≡ some_of_fields fs → true ≡ some_of_fields fs
lacks-found fs i f b h is q t inv = ap (λ z. z || some_of_fields (drop (i + 1) fs)) (sym t) ∙ sym (lacks-here fs i f b h is q) ∙ inv

pub lacks-end : (fs : List Field) (i : ℕ) → length fs ≤ i → some_of_fields (drop i fs) ≡ some_of_fields fs → false ≡ some_of_fields fs
lacks-end fs i h inv = sym (left-end some_of_fields fs i h) ∙ inv

-- the literal names of a record's fields
pub names-written : (fs : List Field) → literal_names (field_row fs).1 ≡ written_names fs
names-written [] = refl
names-written (f ∷ fs) = ap (λ z. literal_name f.name ∷ z) (names-written fs)

pub ruleset lacking = (lacks-error, lacks-some, lacks-return, lacks-binary, lacks-lambda, lacks-if, lacks-let, lacks-bind, lacks-seq, lacks-query, lacks-record, lacks-case)
