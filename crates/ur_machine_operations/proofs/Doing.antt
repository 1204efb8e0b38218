-- What operations come to at arguments that have their form.
use Rattle.std.proofs.Common.{◌≡◌, ◌≢◌, ℕ, ℤ, pos, Bool, true, false, if◌then◌else◌, not, List, [], ◌∷◌, ◌++◌, take, drop, Option, Some, None, refl, sym, ap, ◌∙◌, subst}
use Rattle.std.specs.Prelude.{codes, int_rem, Result, Ok, Err, IfOk, MatchResult}
use Rattle.std.specs.Int.{w64, int_wrapping_div, int_wrapping_neg}
use Rattle.std.specs.Ordering.{int_eq}
use Rattle.std.proofs.lemmas.Bool.Decides.{Decides-int_eq}
use Rattle.ur_base.specs.declared.names.Name.{Name}
use Rattle.ur_values.specs.declared.value.Value.{Value}
use Rattle.ur_values.specs.declared.value.Value.TheVariants as v
use Rattle.ur_values.specs.declared.value.Node.{Node}
use Rattle.ur_values.specs.declared.value.Node.TheVariants as n
use Rattle.ur_values.specs.declared.value.Tag.{Tag}
use Rattle.ur_values.specs.declared.value.FieldKind.{FieldKind}
use Rattle.ur_terms.specs.declared.term.Op.TheVariants as op
use Rattle.ur_terms.specs.State.{State, Outcome, Done, Stuck, built, error_text}
use Rattle.ur_terms.specs.Ops.{given, one_arg, two_args, does, divided, markup, with_unit, optional_text}
use Rattle.ur_terms.specs.Values.{as_fields, all_nodes, shown, fields_together, field_at, without_field, fields_of}
use Rattle.ur_machine_frames.specs.declared.control.Performed.{Performed}
use Rattle.ur_machine_frames.specs.declared.control.Performed.TheVariants as performed
use Rattle.ur_machine_frames.specs.Plays.{nothing, Joins}
use Rattle.ur_machine_operations.specs.Comes.{Comes}
use Rattle.ur_machine_operations.proofs.Opened.{fields-Row, items-Many}
use Rattle.ur_machine_operations.proofs.Arguments.{comes_as, joins_of}

-- ---- values of a form

-- the only argument has the form
pub only_there : {A : Type 0} (read : Value → Option A) (go : A → Outcome Value) (xs : List Value) (a : Value) → one_arg xs (λ x. given (read x) go) ≢ Stuck → xs ≡ a ∷ [] → read a ≢ None
only_there read go xs a h e none = h (ap (λ l. one_arg l (λ x. given (read x) go)) e ∙ ap (λ o. given o go) none)

-- the first of two arguments has the form
pub first_there : {A : Type 0} (read : Value → Option A) (go : A → Value → Outcome Value) (xs : List Value) (a b : Value)
    → two_args xs (λ x y. given (read x) (λ z. go z y)) ≢ Stuck → xs ≡ a ∷ b ∷ [] → read a ≢ None
first_there read go xs a b h e none = h (ap (λ l. two_args l (λ x y. given (read x) (λ z. go z y))) e ∙ ap (λ o. given o (λ z. go z b)) none)

-- the second of two arguments has the form, whatever the first is
pub second_there : {A : Type 0} (read : Value → Option A) (go : Value → A → Outcome Value) (xs : List Value) (a b : Value)
    → two_args xs (λ x y. given (read y) (λ z. go x z)) ≢ Stuck → xs ≡ a ∷ b ∷ [] → read b ≢ None
second_there read go xs a b h e none = h (ap (λ l. two_args l (λ x y. given (read y) (λ z. go x z))) e ∙ ap (λ o. given o (λ z. go a z)) none)

given_stuck : {A : Type 0} (o : Option A) → given {A = A} {B = Value} o (λ z. Stuck) ≡ Stuck
given_stuck None = refl
given_stuck (Some z) = refl

-- the second of two arguments has the form, as the first has
pub both_there : {A : Type 0} (read : Value → Option A) (go : A → A → Outcome Value) (xs : List Value) (a b : Value)
    → two_args xs (λ x y. given (read x) (λ z. given (read y) (λ w. go z w))) ≢ Stuck → xs ≡ a ∷ b ∷ [] → read b ≢ None
both_there read go xs a b h e none =
    h (ap (λ l. two_args l (λ x y. given (read x) (λ z. given (read y) (λ w. go z w)))) e
    ∙ ap (λ o. given (read a) (λ z. given o (λ w. go z w))) none ∙ given_stuck (read a))

-- ---- ints

at_test : (b : ℤ) → b ≢ pos 0 → (t : Bool) → int_eq b (pos 0) ≡ t → int_eq b (pos 0) ≡ false
at_test b f true e = absurd (f ((Decides-int_eq b (pos 0)).0 e))
at_test b f false e = e

not_zero : (b : ℤ) → b ≢ pos 0 → int_eq b (pos 0) ≡ false
not_zero b f = at_test b f (int_eq b (pos 0)) refl

pub does-Div : (xs : List Value) (a b : ℤ) → xs ≡ v.Int a ∷ v.Int b ∷ [] → b ≢ pos 0 → (s : State) → does nothing op.Div xs s ≡ Done (v.Int (int_wrapping_div w64 a b)) s
does-Div xs a b e f s = ap (λ l. does nothing op.Div l s) e ∙ ap (λ t. if t then error_text (codes "division by zero") s else Done (v.Int (int_wrapping_div w64 a b)) s) (not_zero b f)

pub does-Rem : (xs : List Value) (a b : ℤ) → xs ≡ v.Int a ∷ v.Int b ∷ [] → b ≢ pos 0 → (s : State) → does nothing op.Rem xs s ≡ Done (v.Int (int_rem a b)) s
does-Rem xs a b e f s = ap (λ l. does nothing op.Rem l s) e ∙ ap (λ t. if t then error_text (codes "division by zero") s else Done (v.Int (int_rem a b)) s) (not_zero b f)

pub does-Div-zero : (xs : List Value) (a b : ℤ) → xs ≡ v.Int a ∷ v.Int b ∷ [] → b ≡ pos 0 → (s : State) → does nothing op.Div xs s ≡ error_text (codes "division by zero") s
does-Div-zero xs a b e f s = ap (λ l. does nothing op.Div l s) e ∙ ap (λ z. divided (int_wrapping_div w64) a z s) f

pub does-Rem-zero : (xs : List Value) (a b : ℤ) → xs ≡ v.Int a ∷ v.Int b ∷ [] → b ≡ pos 0 → (s : State) → does nothing op.Rem xs s ≡ error_text (codes "division by zero") s
does-Rem-zero xs a b e f s = ap (λ l. does nothing op.Rem l s) e ∙ ap (λ z. divided int_rem a z s) f

pub does-Neg : (xs : List Value) (x : Value) (a : ℤ) → xs ≡ x ∷ [] → x ≡ v.Int a → (s : State) → does nothing op.Neg xs s ≡ Done (v.Int (int_wrapping_neg w64 a)) s
does-Neg xs x a e f s = ap (λ l. does nothing op.Neg l s) (e ∙ ap (λ z. z ∷ []) f)

pub does-Not : (xs : List Value) (x : Value) (b : Bool) → xs ≡ x ∷ [] → x ≡ v.Bool b → (s : State) → does nothing op.Not xs s ≡ Done (v.Bool (not b)) s
does-Not xs x b e f s = ap (λ l. does nothing op.Not l s) (e ∙ ap (λ z. z ∷ []) f)

-- ---- texts

pub does-Append : (xs : List Value) (a b : Value) (t u r : List ℕ) → xs ≡ a ∷ b ∷ [] → a ≡ v.Str t → b ≡ v.Str u → r ≡ t ++ u → (s : State) → does nothing op.Append xs s ≡ built (v.Str r) s
does-Append xs a b t u r e f g h s =
    ap (λ l. does nothing op.Append l s) (e ∙ ap (λ z. z ∷ b ∷ []) f ∙ ap (λ z. v.Str t ∷ z ∷ []) g) ∙ ap (λ l. built (v.Str l) s) (sym h)

pub does-Show : (xs : List Value) (x : Value) (t : List ℕ) → xs ≡ x ∷ [] → shown x ≡ Some t → (s : State) → does nothing op.Show xs s ≡ built (v.Str t) s
does-Show xs x t e f s = ap (λ l. does nothing op.Show l s) e ∙ ap (λ o. given o (λ t. built (v.Str t) s)) f

-- ---- options, lists and datatypes

pub does-Present : (xs : List Value) (x y : Value) → xs ≡ x ∷ [] → y ≡ x → (s : State) → does nothing op.Present xs s ≡ built (v.Present y) s
does-Present xs x y e f s = ap (λ l. does nothing op.Present l s) e ∙ ap (λ z. built (v.Present z) s) (sym f)

pub does-Cons : (xs : List Value) (a b : Value) (items more : List Value) → xs ≡ a ∷ b ∷ [] → b ≡ v.Many items → more ≡ a ∷ items → (s : State) → does nothing op.Cons xs s ≡ built (v.Many more) s
does-Cons xs a b items more e f g s =
    ap (λ l. does nothing op.Cons l s) (e ∙ ap (λ z. a ∷ z ∷ []) f) ∙ ap (λ o. given o (λ l. built (v.Many (a ∷ l)) s)) (items-Many items) ∙ ap (λ l. built (v.Many l) s) (sym g)

pub does-Tagged : (c : ℕ) (xs : List Value) (x y : Value) → xs ≡ x ∷ [] → y ≡ x → (s : State) → does nothing (op.Tagged c) xs s ≡ built (v.Tagged c (Some y)) s
does-Tagged c xs x y e f s = ap (λ l. does nothing (op.Tagged c) l s) e ∙ ap (λ z. built (v.Tagged c (Some z)) s) (sym f)

-- a constructor's operation takes one argument where it takes any
pub tagged_one : (c : ℕ) (xs : List Value) (s : State) → does nothing (op.Tagged c) xs s ≢ Stuck → xs ≢ [] → one_arg xs (λ y. built (v.Tagged c (Some y)) s) ≢ Stuck
tagged_one c [] s h e = absurd (e refl)
tagged_one c (x ∷ xs) s h e = h

-- ---- records

pub does-Record : (names : List Name) (xs : List Value) (fields : List (Name × Value)) → fields_of names xs ≡ Some fields → (s : State) → does nothing (op.Record names) xs s ≡ built (v.Row fields) s
does-Record names xs fields e s = ap (λ o. given o (λ fs. built (v.Row fs) s)) e

project_form : (name : Name) (xs : List Value) (x : Value) (fields : List (Name × Value)) → xs ≡ x ∷ [] → x ≡ v.Row fields
    → (s : State) → does nothing (op.Project name) xs s ≡ given (field_at name fields) (λ y. Done y s)
project_form name xs x fields e f s =
    ap (λ l. does nothing (op.Project name) l s) (e ∙ ap (λ z. z ∷ []) f) ∙ ap (λ o. given o (λ fs. given (field_at name fs) (λ y. Done y s))) (fields-Row fields)

pub does-Project : (name : Name) (xs : List Value) (x y : Value) (fields : List (Name × Value)) → xs ≡ x ∷ [] → x ≡ v.Row fields → Some y ≡ field_at name fields
    → (s : State) → does nothing (op.Project name) xs s ≡ Done y s
does-Project name xs x y fields e f g s = project_form name xs x fields e f s ∙ ap (λ o. given o (λ z. Done z s)) (sym g)

pub field_known : (name : Name) (xs : List Value) (x : Value) (fields : List (Name × Value)) (s : State) → does nothing (op.Project name) xs s ≢ Stuck → xs ≡ x ∷ [] → x ≡ v.Row fields
    → None ≡ field_at name fields → ⊥
field_known name xs x fields s h e f none = h (project_form name xs x fields e f s ∙ ap (λ o. given o (λ y. Done y s)) (sym none))

pub does-Join : (xs : List Value) (a b : Value) (fs gs all : List (Name × Value)) → xs ≡ a ∷ b ∷ [] → a ≡ v.Row fs → b ≡ v.Row gs → all ≡ fields_together fs gs
    → (s : State) → does nothing op.Join xs s ≡ built (v.Row all) s
does-Join xs a b fs gs all e f g h s =
    ap (λ l. does nothing op.Join l s) (e ∙ ap (λ z. z ∷ b ∷ []) f ∙ ap (λ z. v.Row fs ∷ z ∷ []) g)
    ∙ ap (λ o. given o (λ l. given (as_fields (v.Row gs)) (λ m. built (v.Row (fields_together l m)) s))) (fields-Row fs)
    ∙ ap (λ o. given o (λ m. built (v.Row (fields_together fs m)) s)) (fields-Row gs)
    ∙ ap (λ l. built (v.Row l) s) (sym h)

pub does-Cut : (name : Name) (xs : List Value) (x : Value) (fields left : List (Name × Value)) → xs ≡ x ∷ [] → x ≡ v.Row fields → left ≡ without_field name fields
    → (s : State) → does nothing (op.Cut name) xs s ≡ Done (v.Row left) s
does-Cut name xs x fields left e f g s =
    ap (λ l. does nothing (op.Cut name) l s) (e ∙ ap (λ z. z ∷ []) f)
    ∙ ap (λ o. given o (λ fs. Done (v.Row (without_field name fs)) s)) (fields-Row fields)
    ∙ ap (λ l. Done (v.Row l) s) (sym g)

-- ---- XML

pub joins_nodes : {E : Type 0} (parts : List Value) (o : Result (List Node) E) (r : Performed) → IfOk o (λ nodes. all_nodes parts ≡ Some nodes)
    → MatchResult o (λ nodes. Comes (markup nodes) r) (λ _. r ≡ performed.Memory) → Joins parts r
joins_nodes parts (Ok nodes) r e h = joins_of parts r (comes_as r (λ s. ap (λ o. given o (λ l. markup l s)) e) h)
joins_nodes parts (Err _) r e h = subst (λ z. Joins parts z) (sym h) tt

pub does-Text : (t u : List ℕ) → u ≡ t → (s : State) → does nothing (op.Text t) [] s ≡ markup (n.Text u ∷ []) s
does-Text t u e s = ap (λ z. markup (n.Text z ∷ []) s) (sym e)

pub does-Shown : (xs : List Value) (x : Value) (t : List ℕ) → xs ≡ x ∷ [] → shown x ≡ Some t → (s : State) → does nothing op.Shown xs s ≡ markup (n.Text t ∷ []) s
does-Shown xs x t e f s = ap (λ l. does nothing op.Shown l s) e ∙ ap (λ o. given o (λ t. markup (n.Text t ∷ []) s)) f

pub does-Input : (kind : FieldKind) (number : Name) (t u : List ℕ) (xs : List Value) (value : Option (List ℕ)) → optional_text xs ≡ Some value → u ≡ t
    → (s : State) → does nothing (op.Input kind number t) xs s ≡ markup (n.Field kind u value ∷ []) s
does-Input kind number t u xs value e f s =
    ap (λ o. given o (λ x. markup (n.Field kind t x ∷ []) s)) e ∙ ap (λ z. markup (n.Field kind z value ∷ []) s) (sym f)

pub does-Element : (tag : Tag) (xs : List Value) (inner : List Node) → all_nodes xs ≡ Some inner → (s : State) → does nothing (op.Element tag) xs s ≡ markup (n.Element tag inner ∷ []) s
does-Element tag xs inner e s = ap (λ o. given o (λ kids. markup (n.Element tag kids ∷ []) s)) e

pub does-Link : (route k : ℕ) (xs front back : List Value) (inner : List Node) → front ≡ take k xs → back ≡ drop k xs → all_nodes back ≡ Some inner
    → (s : State) → does nothing (op.Link route k) xs s ≡ markup (n.Link (record { route = route; args = front }) inner ∷ []) s
does-Link route k xs front back inner e f g s =
    ap (λ o. given o (λ kids. markup (n.Link (record { route = route; args = take k xs }) kids ∷ []) s)) (ap all_nodes (sym f) ∙ g)
    ∙ ap (λ l. markup (n.Link (record { route = route; args = l }) inner ∷ []) s) (sym e)

-- the parts of a link are XML
pub link_parts : (route k : ℕ) (xs back : List Value) (s : State) → does nothing (op.Link route k) xs s ≢ Stuck → back ≡ drop k xs → all_nodes back ≢ None
link_parts route k xs back s h e none = h (ap (λ o. given o (λ kids. markup (n.Link (record { route = route; args = take k xs }) kids ∷ []) s)) (ap all_nodes (sym e) ∙ none))

-- the label of a button is a text or is not there
pub button_label : (route k : ℕ) (unit : Bool) (xs back : List Value) (s : State) → does nothing (op.Submit route k unit) xs s ≢ Stuck → back ≡ drop k xs → optional_text back ≢ None
button_label route k unit xs back s h e none =
    h (ap (λ o. given o (λ label. markup (n.Submit (record { route = route; args = with_unit unit (take k xs) }) label ∷ []) s)) (ap optional_text (sym e) ∙ none))

pub does-Submit : (route k : ℕ) (unit : Bool) (xs front back all : List Value) (label : Option (List ℕ)) → front ≡ take k xs → back ≡ drop k xs → all ≡ with_unit unit front
    → optional_text back ≡ Some label
    → (s : State) → does nothing (op.Submit route k unit) xs s ≡ markup (n.Submit (record { route = route; args = all }) label ∷ []) s
does-Submit route k unit xs front back all label e f g h s =
    ap (λ o. given o (λ label. markup (n.Submit (record { route = route; args = with_unit unit (take k xs) }) label ∷ []) s)) (ap optional_text (sym f) ∙ h)
    ∙ ap (λ l. markup (n.Submit (record { route = route; args = l }) label ∷ []) s) (ap (with_unit unit) (sym e) ∙ sym g)
