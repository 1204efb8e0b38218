-- Values one level deep, and values that have not a form.
use Rattle.std.proofs.Common.{◌≡◌, ◌≢◌, ℕ, ℤ, ◌==◌, Bool, true, false, List, [], ◌∷◌, ◌++◌, Option, Some, None, refl, sym, ap, ◌∙◌, subst, drop, length, ◌<◌, arith}
use Rattle.std.specs.Prelude.{slice_get, remove, option_map, Result, Ok, Err, IfOk, MatchResult}
use Rattle.std.proofs.lemmas.Bool.Decides.{Decides-eqb}
use Rattle.ur_base.specs.declared.names.Name.{Name}
use Rattle.ur_values.specs.declared.value.Value.{Value, out-Value, roll-Value, roll-out-Value}
use Rattle.ur_values.specs.declared.value.Node.{Node}
use Rattle.ur_values.specs.declared.value.Node.TheOpen as o
use Rattle.ur_values.specs.declared.value.Value.TheVariants as v
use Rattle.ur_terms.specs.declared.term.Pattern.TheVariants as p
use Rattle.ur_terms.specs.Values.{Open, as_int, as_bool, as_text, as_fields, as_items, as_nodes, shown, open_fields, open_items, open_nodes}
use Rattle.ur_terms.specs.Ops.{optional_text}
use Rattle.ur_terms.specs.declared.term.Pattern.{Pattern}
use Rattle.ur_machine_frames.specs.declared.control.Matched.{Matched}
use Rattle.ur_machine_frames.specs.declared.control.Matched.TheVariants as matching
use Rattle.ur_machine_frames.specs.Plays.{IsMatched}
use Rattle.ur_terms.specs.Run.{matched, matched_open, held_by, if_empty, first_and_rest, if_matches}

pub fields-Row : (fields : List (Name × Value)) → as_fields (v.Row fields) ≡ Some fields
fields-Row fields = ap open_fields (v.outs-Row fields)

pub items-Many : (items : List Value) → as_items (v.Many items) ≡ Some items
items-Many items = ap open_items (v.outs-Many items)

pub nodes-Markup : (nodes : List Node) → as_nodes (v.Markup nodes) ≡ Some nodes
nodes-Markup nodes = ap open_nodes (v.outs-Markup nodes)

-- ---- values that have not a form

pub no_int : (x : Value) → ((i : ℤ) → x ≡ v.Int i → ⊥) → as_int x ≡ None
no_int (v.Int i) never = absurd (never i refl)
no_int (v.Bool i) never = refl
no_int (v.Str i) never = refl
no_int (v.Row' _ i) never = refl
no_int (v.Many' _ i) never = refl
no_int v.Absent never = refl
no_int (v.Present' _ i) never = refl
no_int (v.Tagged' _ i) never = refl
no_int (v.Markup' _ i) never = refl

pub no_bool : (x : Value) → ((i : Bool) → x ≡ v.Bool i → ⊥) → as_bool x ≡ None
no_bool (v.Bool i) never = absurd (never i refl)
no_bool (v.Int i) never = refl
no_bool (v.Str i) never = refl
no_bool (v.Row' _ i) never = refl
no_bool (v.Many' _ i) never = refl
no_bool v.Absent never = refl
no_bool (v.Present' _ i) never = refl
no_bool (v.Tagged' _ i) never = refl
no_bool (v.Markup' _ i) never = refl

pub no_text : (x : Value) → ((i : List ℕ) → x ≡ v.Str i → ⊥) → as_text x ≡ None
no_text (v.Str i) never = absurd (never i refl)
no_text (v.Int i) never = refl
no_text (v.Bool i) never = refl
no_text (v.Row' _ i) never = refl
no_text (v.Many' _ i) never = refl
no_text v.Absent never = refl
no_text (v.Present' _ i) never = refl
no_text (v.Tagged' _ i) never = refl
no_text (v.Markup' _ i) never = refl

pub no_fields : (x : Value) → ((i : List (Name × Value)) → x ≡ v.Row i → ⊥) → as_fields x ≡ None
no_fields x never = at (out-Value x) refl
  where
    at : (y : Open) → out-Value x ≡ y → open_fields y ≡ None
    at (o.Row i) e = absurd (never i (sym (roll-out-Value x) ∙ ap roll-Value e ∙ v.rolls-Row i))
    at (o.Int i) e = refl
    at (o.Bool i) e = refl
    at (o.Str i) e = refl
    at (o.Many i) e = refl
    at o.Absent e = refl
    at (o.Present i) e = refl
    at (o.Tagged k i) e = refl
    at (o.Markup i) e = refl

pub no_items : (x : Value) → ((i : List Value) → x ≡ v.Many i → ⊥) → as_items x ≡ None
no_items x never = at (out-Value x) refl
  where
    at : (y : Open) → out-Value x ≡ y → open_items y ≡ None
    at (o.Many i) e = absurd (never i (sym (roll-out-Value x) ∙ ap roll-Value e ∙ v.rolls-Many i))
    at (o.Int i) e = refl
    at (o.Bool i) e = refl
    at (o.Str i) e = refl
    at (o.Row i) e = refl
    at o.Absent e = refl
    at (o.Present i) e = refl
    at (o.Tagged k i) e = refl
    at (o.Markup i) e = refl

pub no_nodes : (x : Value) → ((i : List Node) → x ≡ v.Markup i → ⊥) → as_nodes x ≡ None
no_nodes x never = at (out-Value x) refl
  where
    at : (y : Open) → out-Value x ≡ y → open_nodes y ≡ None
    at (o.Markup i) e = absurd (never i (sym (roll-out-Value x) ∙ ap roll-Value e ∙ v.rolls-Markup i))
    at (o.Int i) e = refl
    at (o.Bool i) e = refl
    at (o.Str i) e = refl
    at (o.Row i) e = refl
    at (o.Many i) e = refl
    at o.Absent e = refl
    at (o.Present i) e = refl
    at (o.Tagged k i) e = refl

pub no_shown : (x : Value) → ((i : ℤ) → x ≡ v.Int i → ⊥) → ((b : Bool) → x ≡ v.Bool b → ⊥) → ((t : List ℕ) → x ≡ v.Str t → ⊥) → shown x ≡ None
no_shown (v.Int i) int bool text = absurd (int i refl)
no_shown (v.Bool b) int bool text = absurd (bool b refl)
no_shown (v.Str t) int bool text = absurd (text t refl)
no_shown (v.Row' _ i) int bool text = refl
no_shown (v.Many' _ i) int bool text = refl
no_shown v.Absent int bool text = refl
no_shown (v.Present' _ i) int bool text = refl
no_shown (v.Tagged' _ i) int bool text = refl
no_shown (v.Markup' _ i) int bool text = refl

-- ---- a text that may be there

label_is : (x : Value) → optional_text (x ∷ []) ≡ option_map Some (as_text x)
label_is (v.Int i) = refl
label_is (v.Bool b) = refl
label_is (v.Str t) = refl
label_is (v.Row' _ i) = refl
label_is (v.Many' _ i) = refl
label_is v.Absent = refl
label_is (v.Present' _ i) = refl
label_is (v.Tagged' _ i) = refl
label_is (v.Markup' _ i) = refl

more_labels : (x y : Value) (rest : List Value) → optional_text (x ∷ y ∷ rest) ≡ None
more_labels (v.Int i) y rest = refl
more_labels (v.Bool b) y rest = refl
more_labels (v.Str t) y rest = refl
more_labels (v.Row' _ i) y rest = refl
more_labels (v.Many' _ i) y rest = refl
more_labels v.Absent y rest = refl
more_labels (v.Present' _ i) y rest = refl
more_labels (v.Tagged' _ i) y rest = refl
more_labels (v.Markup' _ i) y rest = refl

-- the last value of a text that may be there is the text
pub text_there : (xs ys : List Value) (x : Value) → optional_text xs ≢ None → xs ≡ ys ++ x ∷ [] → as_text x ≢ None
text_there xs [] x h e none = h (ap optional_text e ∙ label_is x ∙ ap (option_map Some) none)
text_there xs (y ∷ []) x h e none = h (ap optional_text e ∙ more_labels y x [])
text_there xs (y ∷ z ∷ ys) x h e none = h (ap optional_text e ∙ more_labels y z (ys ++ x ∷ []))

pub text_got : (xs ys : List Value) (x : Value) (t : List ℕ) → optional_text xs ≢ None → xs ≡ ys ++ x ∷ [] → x ≡ v.Str t → optional_text xs ≡ Some (Some t)
text_got xs [] x t h e f = ap optional_text (e ∙ ap (λ z. z ∷ []) f)
text_got xs (y ∷ []) x t h e f = absurd (h (ap optional_text e ∙ more_labels y x []))
text_got xs (y ∷ z ∷ ys) x t h e f = absurd (h (ap optional_text e ∙ more_labels y z (ys ++ x ∷ [])))

-- ---- patterns that do not match

pub not_int : (n : ℤ) (x : Value) → ((i : ℤ) → x ≡ v.Int i → ⊥) → matched (p.Int n) x ≡ None
not_int n x never = at (out-Value x) refl
  where
    at : (y : Open) → out-Value x ≡ y → matched_open (p.Int n) y ≡ None
    at (o.Int i) e = absurd (never i (sym (roll-out-Value x) ∙ ap roll-Value e ∙ v.rolls-Int i))
    at (o.Bool i) e = refl
    at (o.Str i) e = refl
    at (o.Row i) e = refl
    at (o.Many i) e = refl
    at o.Absent e = refl
    at (o.Present i) e = refl
    at (o.Tagged k i) e = refl
    at (o.Markup i) e = refl

pub not_text : (t : List ℕ) (x : Value) → ((i : List ℕ) → x ≡ v.Str i → ⊥) → matched (p.Str t) x ≡ None
not_text t x never = at (out-Value x) refl
  where
    at : (y : Open) → out-Value x ≡ y → matched_open (p.Str t) y ≡ None
    at (o.Str i) e = absurd (never i (sym (roll-out-Value x) ∙ ap roll-Value e ∙ v.rolls-Str i))
    at (o.Int i) e = refl
    at (o.Bool i) e = refl
    at (o.Row i) e = refl
    at (o.Many i) e = refl
    at o.Absent e = refl
    at (o.Present i) e = refl
    at (o.Tagged k i) e = refl
    at (o.Markup i) e = refl

pub not_bool : (b : Bool) (x : Value) → ((i : Bool) → x ≡ v.Bool i → ⊥) → matched (p.Bool b) x ≡ None
not_bool b x never = at (out-Value x) refl
  where
    at : (y : Open) → out-Value x ≡ y → matched_open (p.Bool b) y ≡ None
    at (o.Bool i) e = absurd (never i (sym (roll-out-Value x) ∙ ap roll-Value e ∙ v.rolls-Bool i))
    at (o.Int i) e = refl
    at (o.Str i) e = refl
    at (o.Row i) e = refl
    at (o.Many i) e = refl
    at o.Absent e = refl
    at (o.Present i) e = refl
    at (o.Tagged k i) e = refl
    at (o.Markup i) e = refl

pub not_absent : (x : Value) → (x ≡ v.Absent → ⊥) → matched p.Absent x ≡ None
not_absent x never = at (out-Value x) refl
  where
    at : (y : Open) → out-Value x ≡ y → matched_open p.Absent y ≡ None
    at o.Absent e = absurd (never (sym (roll-out-Value x) ∙ ap roll-Value e ∙ v.rolls-Absent))
    at (o.Int i) e = refl
    at (o.Bool i) e = refl
    at (o.Str i) e = refl
    at (o.Row i) e = refl
    at (o.Many i) e = refl
    at (o.Present i) e = refl
    at (o.Tagged k i) e = refl
    at (o.Markup i) e = refl

pub not_present : (x : Value) → ((i : Value) → x ≡ v.Present i → ⊥) → matched p.Present x ≡ None
not_present x never = at (out-Value x) refl
  where
    at : (y : Open) → out-Value x ≡ y → matched_open p.Present y ≡ None
    at (o.Present i) e = absurd (never i (sym (roll-out-Value x) ∙ ap roll-Value e ∙ v.rolls-Present i))
    at (o.Int i) e = refl
    at (o.Bool i) e = refl
    at (o.Str i) e = refl
    at (o.Row i) e = refl
    at (o.Many i) e = refl
    at o.Absent e = refl
    at (o.Tagged k i) e = refl
    at (o.Markup i) e = refl

pub not_empty : (x : Value) → ((i : List Value) → x ≡ v.Many i → ⊥) → matched p.Empty x ≡ None
not_empty x never = at (out-Value x) refl
  where
    at : (y : Open) → out-Value x ≡ y → matched_open p.Empty y ≡ None
    at (o.Many i) e = absurd (never i (sym (roll-out-Value x) ∙ ap roll-Value e ∙ v.rolls-Many i))
    at (o.Int i) e = refl
    at (o.Bool i) e = refl
    at (o.Str i) e = refl
    at (o.Row i) e = refl
    at o.Absent e = refl
    at (o.Present i) e = refl
    at (o.Tagged k i) e = refl
    at (o.Markup i) e = refl

pub not_cons : (x : Value) → ((i : List Value) → x ≡ v.Many i → ⊥) → matched p.Cons x ≡ None
not_cons x never = at (out-Value x) refl
  where
    at : (y : Open) → out-Value x ≡ y → matched_open p.Cons y ≡ None
    at (o.Many i) e = absurd (never i (sym (roll-out-Value x) ∙ ap roll-Value e ∙ v.rolls-Many i))
    at (o.Int i) e = refl
    at (o.Bool i) e = refl
    at (o.Str i) e = refl
    at (o.Row i) e = refl
    at o.Absent e = refl
    at (o.Present i) e = refl
    at (o.Tagged k i) e = refl
    at (o.Markup i) e = refl

pub not_tagged : (c : ℕ) (x : Value) → ((k : ℕ) (i : Option Value) → x ≡ v.Tagged k i → ⊥) → matched (p.Tagged c) x ≡ None
not_tagged c x never = at (out-Value x) refl
  where
    at : (y : Open) → out-Value x ≡ y → matched_open (p.Tagged c) y ≡ None
    at (o.Tagged k i) e = absurd (never k i (sym (roll-out-Value x) ∙ ap roll-Value e ∙ v.rolls-Tagged k i))
    at (o.Int i) e = refl
    at (o.Bool i) e = refl
    at (o.Str i) e = refl
    at (o.Row i) e = refl
    at (o.Many i) e = refl
    at o.Absent e = refl
    at (o.Present i) e = refl
    at (o.Markup i) e = refl

-- ---- patterns that may match

pub matched-Int : (n i : ℤ) → matched (p.Int n) (v.Int i) ≡ matched_open (p.Int n) (o.Int i)
matched-Int n i = ap (matched_open (p.Int n)) (v.outs-Int i)

pub matched-Str : (t i : List ℕ) → matched (p.Str t) (v.Str i) ≡ matched_open (p.Str t) (o.Str i)
matched-Str t i = ap (matched_open (p.Str t)) (v.outs-Str i)

pub matched-Bool : (b i : Bool) → matched (p.Bool b) (v.Bool i) ≡ matched_open (p.Bool b) (o.Bool i)
matched-Bool b i = ap (matched_open (p.Bool b)) (v.outs-Bool i)

pub matched-Absent : matched p.Absent v.Absent ≡ Some []
matched-Absent = ap (matched_open p.Absent) v.outs-Absent

pub matched-Present : (y : Value) → matched p.Present (v.Present y) ≡ Some (y ∷ [])
matched-Present y = ap (matched_open p.Present) (v.outs-Present y)

pub matched-Empty : (items : List Value) → matched p.Empty (v.Many items) ≡ if_empty items
matched-Empty items = ap (matched_open p.Empty) (v.outs-Many items)

pub matched-Cons : (items : List Value) → matched p.Cons (v.Many items) ≡ first_and_rest items
matched-Cons items = ap (matched_open p.Cons) (v.outs-Many items)

pub matched-Tagged : (c d : ℕ) (held : Option Value) → matched (p.Tagged c) (v.Tagged d held) ≡ matched_open (p.Tagged c) (o.Tagged d held)
matched-Tagged c d held = ap (matched_open (p.Tagged c)) (v.outs-Tagged d held)

same_number : (c d : ℕ) → c ≡ d → (c == d) ≡ true
same_number c d e = (Decides-eqb c d).1 e

other_at : (c d : ℕ) (t : Bool) → (c == d) ≡ t → c ≢ d → (c == d) ≡ false
other_at c d true e f = absurd (f ((Decides-eqb c d).0 e))
other_at c d false e f = e

other_number : (c d : ℕ) → c ≢ d → (c == d) ≡ false
other_number c d f = other_at c d (c == d) refl f

-- ---- what is bound

-- a pattern is known
pub matched_at : (pat q : Pattern) (x : Value) (r : Matched) → pat ≡ q → IsMatched q x r → IsMatched pat x r
matched_at pat q x r e h = subst (λ z. IsMatched z x r) (sym e) h

-- what matches is found, unless memory was wanting
pub found_is : {E : Type 0} (pat : Pattern) (x : Value) (res : Result (List Value) E) (r : Matched) → IfOk res (λ bound. matched pat x ≡ Some bound)
    → MatchResult res (λ bound. r ≡ matching.Yes bound) (λ _. r ≡ matching.Memory) → IsMatched pat x r
found_is pat x (Ok bound) r e h = subst (IsMatched pat x) (sym h) e
found_is pat x (Err _) r e h = subst (IsMatched pat x) (sym h) tt

pub found_one : {E : Type 0} (pat : Pattern) (x y : Value) (res : Result (List Value) E) (r : Matched) → matched pat x ≡ Some (y ∷ []) → IfOk res (λ bound. bound ≡ y ∷ [])
    → MatchResult res (λ bound. r ≡ matching.Yes bound) (λ _. r ≡ matching.Memory) → IsMatched pat x r
found_one pat x y (Ok bound) r m e h = subst (IsMatched pat x) (sym h) (m ∙ ap Some (sym e))
found_one pat x y (Err _) r m e h = subst (IsMatched pat x) (sym h) tt

pub present_one : {E : Type 0} (x y z : Value) (res : Result (List Value) E) (r : Matched) → x ≡ v.Present y → z ≡ y → IfOk res (λ bound. bound ≡ z ∷ [])
    → MatchResult res (λ bound. r ≡ matching.Yes bound) (λ _. r ≡ matching.Memory) → IsMatched p.Present x r
present_one x y z res r e f g h = found_one p.Present x z res r (ap (matched p.Present) e ∙ matched-Present y ∙ ap (λ w. Some (w ∷ [])) (sym f)) g h

pub cons_found : {E : Type 0} (x : Value) (items : List Value) (res : Result (List Value) E) (r : Matched) → x ≡ v.Many items → IfOk res (λ bound. matched p.Cons (v.Many items) ≡ Some bound)
    → MatchResult res (λ bound. r ≡ matching.Yes bound) (λ _. r ≡ matching.Memory) → IsMatched p.Cons x r
cons_found x items res r e f h = subst (λ z. IsMatched p.Cons z r) (sym e) (found_is p.Cons (v.Many items) res r f h)

-- an empty list has no first item
pub cons_empty : (x : Value) (items : List Value) → x ≡ v.Many items → items ≡ [] → matched p.Cons x ≡ None
cons_empty x items e f = ap (matched p.Cons) e ∙ matched-Cons items ∙ ap first_and_rest f

is_empty : (items : List Value) (b : Bool) → (b ≡ true → items ≡ []) × (items ≡ [] → b ≡ true) → if_empty items ≡ if_matches b []
is_empty [] b h = ap (λ c. if_matches c []) (sym (h.1 refl))
is_empty (y ∷ ys) false h = refl
is_empty (y ∷ ys) true h = let none = h.0 refl in cc

pub empty_is : (x : Value) (items : List Value) (b : Bool) → x ≡ v.Many items → (b ≡ true → items ≡ []) × (items ≡ [] → b ≡ true) → matched p.Empty x ≡ if_matches b []
empty_is x items b e h = ap (matched p.Empty) e ∙ matched-Empty items ∙ is_empty items b h

drop_zero : (xs : List Value) → drop 0 xs ≡ xs
drop_zero [] = refl
drop_zero (x ∷ xs) = refl

pub first_known : (items : List Value) (x : Value) (rest bound : List Value) → slice_get items 0 ≡ Some x → rest ≡ remove items 0 → bound ≡ x ∷ v.Many rest ∷ [] → matched p.Cons (v.Many items) ≡ Some bound
first_known [] x rest bound e f g = cc
first_known (y ∷ ys) x rest bound e f g =
    let first : y ≡ x = cc in
    matched-Cons (y ∷ ys) ∙ ap (λ z. Some (z ∷ v.Many ys ∷ [])) first ∙ ap (λ l. Some (x ∷ v.Many l ∷ [])) (sym (f ∙ drop_zero ys)) ∙ ap Some (sym g)

pub nothing_less : (items : List Value) → items ≢ [] → 0 < length items
nothing_less [] h = absurd (h refl)
nothing_less (x ∷ xs) h = omega arith

pub tagged_found : {E : Type 0} (c d : ℕ) (x : Value) (held : Option Value) (res : Result (List Value) E) (r : Matched) → x ≡ v.Tagged d held → d ≡ c → IfOk res (λ bound. bound ≡ held_by held)
    → MatchResult res (λ bound. r ≡ matching.Yes bound) (λ _. r ≡ matching.Memory) → IsMatched (p.Tagged c) x r
tagged_found c d x held (Ok bound) r e f g h =
    subst (IsMatched (p.Tagged c) x) (sym h) (ap (matched (p.Tagged c)) e ∙ matched-Tagged c d held ∙ ap (λ t. if_matches t (held_by held)) (same_number c d (sym f)) ∙ ap Some (sym g))
tagged_found c d x held (Err _) r e f g h = subst (IsMatched (p.Tagged c) x) (sym h) tt

pub tagged_other : (c d : ℕ) (x : Value) (held : Option Value) → x ≡ v.Tagged d held → d ≢ c → matched (p.Tagged c) x ≡ None
tagged_other c d x held e f = ap (matched (p.Tagged c)) e ∙ matched-Tagged c d held ∙ ap (λ t. if_matches t (held_by held)) (other_number c d (λ k. f (sym k)))
