-- Lines by number, and what a loop over them has found.
use Rattle.std.proofs.Common.{◌≡◌, ◌≢◌, ◌∙◌, ◌⊎◌, ℕ, ◌+◌, ◌-◌, ◌<◌, ◌≤◌, Bool, true, false, not, nat_lt, List, [], ◌∷◌, ◌++◌, length, take, drop, get_or, Contains, Some, slice_get, refl, ap, sym, subst, arith, add-one}
use Rattle.std.specs.List.{list_all, suffix_len, position_or_len}
use Rattle.std.proofs.Math.Seq.{drop-cons}
use Rattle.std.proofs.lemmas.Bool.{lt-ltb, ltb-true}
use Rattle.std.proofs.lemmas.List.{get_or-map, length-map, take-append-drop, get_or-drop, get_or_append_left, get_or-take, length-drop, length-take-le, take_more, take_rest}
use Rattle.std.proofs.lemmas.List.Elements.{All-from_get_or}
use Rattle.std.proofs.lemmas.List.Folds.{list_all_more}
use Rattle.std.proofs.lemmas.List.Sums.{prefix_len-drop_yes, prefix_len-drop_no, prefix_len_passes, suffix_len-take_yes, suffix_len-take_no, list_all-from_AllPass, fails_before_first, passes_at_first}
use Rattle.std.proofs.lemmas.Map.Views.{Contains-from_any}
use Rattle.std.proofs.lemmas.Option.{slice_get_within, get_or_from_slice_get}
use Rattle.std.proofs.lemmas.Slice.Eq.{bytes_eq-Decides}
use Rattle.ur_base.proofs.Texts.{absent_text}
use Rattle.ur_load.specs.Words.{is_module_name, is_one_of}
use Rattle.ur_load.specs.Lines.{is_empty}
use Rattle.ur_load.specs.declared.lines.Line.{Line}
use Rattle.ur_load.specs.Placed.{texts}
use Rattle.ur_load.specs.Project.{is_directive, AreToName, AreModules, IsBadLine}
use Rattle.ur_load.proofs.Facing.{apart, all_more, distinct_more}

-- ---- texts of lines

pub text_at : (lines : List Line) (i : ℕ) (line : Line) → i < length lines → line ≡ get_or lines i line → get_or (texts lines) i [] ≡ line.text
text_at lines i line h e = get_or-map (λ (l : Line). l.text) lines i line [] h ∙ ap (λ (l : Line). l.text) (sym e)

pub length_texts : (lines : List Line) → length (texts lines) ≡ length lines
length_texts lines = length-map lines (λ (l : Line). l.text)

pub empty_is : (line : List ℕ) → is_empty line ≡ true → line ≡ []
empty_is [] h = refl
empty_is (b ∷ line) h = apart (sym h)

-- ---- the lines up to the last that is not empty

pub ends_before : (lines : List Line) (len whole : ℕ) (line : Line) → 0 < len → len ≤ length lines → line ≡ get_or lines (len - 1) line → is_empty line.text ≡ true
    → len + whole ≡ length lines + suffix_len is_empty (take len (texts lines)) → len - 1 + whole ≡ length lines + suffix_len is_empty (take (len - 1) (texts lines))
ends_before lines len whole line some h e f p =
    let s = suffix_len-take_yes is_empty (texts lines) len [] some (omega (arith, length_texts lines)) (ap is_empty (text_at lines (len - 1) line (omega arith) e) ∙ f) in omega (arith, s)

pub ends_here : (lines : List Line) (len whole : ℕ) (line : Line) → 0 < len → len ≤ length lines → line ≡ get_or lines (len - 1) line → is_empty line.text ≡ false
    → len + whole ≡ length lines + suffix_len is_empty (take len (texts lines)) → len ≡ length lines - whole
ends_here lines len whole line some h e f p =
    let s = suffix_len-take_no is_empty (texts lines) len [] some (omega (arith, length_texts lines)) (ap is_empty (text_at lines (len - 1) line (omega arith) e) ∙ f) in omega (arith, s)

-- ---- the first empty line

pub empty_later : (lines : List Line) (at whole : ℕ) (line : Line) → at < length lines → line ≡ get_or lines at line → is_empty line.text ≡ false
    → whole ≡ at + position_or_len is_empty (drop at (texts lines)) → whole ≡ at + 1 + position_or_len is_empty (drop (at + 1) (texts lines))
empty_later lines at whole line h e f p =
    let s = prefix_len-drop_yes (λ l. not (is_empty l)) (texts lines) at [] (omega (arith, length_texts lines)) (ap (λ l. not (is_empty l)) (text_at lines at line h e) ∙ ap not f) in omega (arith, s)

pub empty_here : (lines : List Line) (at whole : ℕ) (line : Line) → at < length lines → line ≡ get_or lines at line → is_empty line.text ≡ true
    → whole ≡ at + position_or_len is_empty (drop at (texts lines)) → at ≡ whole
empty_here lines at whole line h e f p =
    let s = prefix_len-drop_no (λ l. not (is_empty l)) (texts lines) at [] (omega (arith, length_texts lines)) (ap (λ l. not (is_empty l)) (text_at lines at line h e) ∙ ap not f) in omega (arith, s)

-- ---- a list at one of its elements

pub cut_here : (xs : List (List ℕ)) (i : ℕ) (x : List ℕ) → i < length xs → get_or xs i [] ≡ x → xs ≡ take i xs ++ x ∷ drop (i + 1) xs
cut_here xs i x h e = sym (take-append-drop i xs) ∙ ap (λ l. take i xs ++ l) (rw add-one (drop-cons xs i [] h) ∙ ap (λ z. z ∷ drop (i + 1) xs) e)

-- ---- directives

pub all_filled : (xs : List (List ℕ)) → position_or_len is_empty xs ≡ length xs → list_all (λ l. not (is_empty l)) xs ≡ true
all_filled xs e = list_all-from_AllPass (λ l. not (is_empty l)) xs (All-from_get_or (λ l. not (is_empty l) ≡ true) xs [] (λ k h. prefix_len_passes (λ l. not (is_empty l)) xs k [] (omega arith)))

pub all_named : (lines : List Line) (empty : ℕ) → empty ≡ position_or_len is_empty (texts lines) → empty ≡ length lines → AreToName (texts lines) (texts lines)
all_named lines empty e h = AreToName.alone (texts lines) (all_filled (texts lines) (sym e ∙ h ∙ sym (length_texts lines)))

-- the line at the first empty place is empty
empty_at : (xs : List (List ℕ)) (empty : ℕ) → empty ≡ position_or_len is_empty xs → empty < length xs → get_or xs empty [] ≡ []
empty_at xs empty e h = rw e (empty_is (get_or xs (position_or_len is_empty xs) []) (passes_at_first is_empty xs [] (subst (λ n. n < length xs) e h)))

pub named_behind : (lines : List Line) (empty i : ℕ) → empty ≡ position_or_len is_empty (texts lines) → empty ≤ length lines → (empty ≡ length lines → ⊥) → i ≡ empty
    → list_all is_directive (take i (texts lines)) ≡ true → AreToName (texts lines) (drop (empty + 1) (texts lines))
named_behind lines empty i e h n j f = let below : empty < length (texts lines) = omega (arith, length_texts lines) in
    subst (λ l. AreToName l (drop (empty + 1) (texts lines))) (sym (cut_here (texts lines) empty [] below (empty_at (texts lines) empty e below)))
    (AreToName.behind (take empty (texts lines)) (drop (empty + 1) (texts lines)) (subst (λ k. list_all is_directive (take k (texts lines)) ≡ true) j f))

pub directive_more : (lines : List Line) (i : ℕ) (line : Line) → i < length lines → line ≡ get_or lines i line → is_directive line.text ≡ true
    → list_all is_directive (take i (texts lines)) ≡ true → list_all is_directive (take (i + 1) (texts lines)) ≡ true
directive_more lines i line h e f p = list_all_more is_directive (texts lines) i [] (omega (arith, length_texts lines))
    ∙ rw (p, ap is_directive (text_at lines i line h e)) f

pub not_directive : (lines : List Line) (empty i : ℕ) (line : Line) → empty ≡ position_or_len is_empty (texts lines) → empty < length lines → i < empty → line ≡ get_or lines i line
    → is_directive line.text ≡ false → list_all is_directive (take i (texts lines)) ≡ true → IsBadLine (texts lines) i line.text
not_directive lines empty i line e h j l f p =
    let xs : List (List ℕ) = texts lines in let size = length_texts lines in
    let here : get_or xs i [] ≡ line.text = text_at lines i line (omega arith) l in
    let some : line.text ≢ [] = λ z. apart (ap is_empty (sym z) ∙ ap is_empty (sym here) ∙ fails_before_first is_empty xs i [] (omega arith)) in
    let there : Contains (drop (i + 1) xs) [] = (empty - (i + 1), omega (arith, size, length-drop (i + 1) xs), get_or-drop (i + 1) xs (empty - (i + 1)) [] ∙ (let k : i + 1 + (empty - (i + 1)) ≡ empty = omega arith in rw k (empty_at xs empty e (omega (arith, size))))) in
    subst (λ z. IsBadLine z i line.text) (sym (cut_here xs i line.text (omega (arith, size)) here))
    (IsBadLine.no_directive (take i xs) (drop (i + 1) xs) i line.text (sym (length-take-le i xs (omega (arith, size)))) p some f there)

-- ---- names of modules

pub not_name : (lines modules : List (List ℕ)) (begin i : ℕ) (line : List ℕ) → AreToName lines (drop begin lines) → modules ≡ take i (drop begin lines) → i < length (drop begin lines)
    → get_or (drop begin lines) i [] ≡ line → AreModules modules → (is_module_name line ≡ false) ⊎ (is_one_of modules line ≡ true) → IsBadLine lines (begin + i) line
not_name lines modules begin i line n m h e a w = let rest = drop begin lines in IsBadLine.no_name lines modules (drop (i + 1) rest) (begin + i) line
    (subst (AreToName lines) (cut_here rest i line h e ∙ ap (λ z. z ++ line ∷ drop (i + 1) rest) (sym m)) n)
    (let all = length-drop begin lines in let size = length-drop (i + 1) rest in omega (arith, all, size)) a w

-- ---- names that are known

below_is : (old new : List (List ℕ)) (name : List ℕ) (n : ℕ) → new ≡ old ++ name ∷ [] → slice_get new n ≡ Some name → n < length old → Contains old name
below_is old new name n is s h = (n, h, sym (get_or_append_left old (name ∷ []) name n h) ∙ ap (λ l. get_or l n name) (sym is) ∙ get_or_from_slice_get new n name name s)

not_below : (old new : List (List ℕ)) (name : List ℕ) (n : ℕ) → new ≡ old ++ name ∷ [] → slice_get new n ≡ Some name → (Contains old name → ⊥) → (b : Bool) → nat_lt n (length old) ≡ b → b ≡ false
not_below old new name n is s none false e = refl
not_below old new name n is s none true e = absurd (none (below_is old new name n is s (ltb-true n (length old) e)))

known_by : (old new : List (List ℕ)) (name : List ℕ) (n count : ℕ) → count ≡ length old → slice_get new n ≡ Some name → (Contains old name → new ≡ old) → ((Contains old name → ⊥) → new ≡ old ++ name ∷ [])
    → (b : Bool) → is_one_of old name ≡ b → (nat_lt n count ≡ b) × (b ≡ false → new ≡ old ++ name ∷ [])
known_by old new name n count c s k a true e =
    let there = Contains-from_any (λ x y h. (bytes_eq-Decides x y).0 h) name old e in
    let below : n < length old = slice_get_within old n name (subst (λ l. slice_get l n ≡ Some name) (k there) s) in
    (lt-ltb n count (omega arith), λ h. apart h)
known_by old new name n count c s k a false e =
    let none : Contains old name → ⊥ = absent_text name old e in
    let is : new ≡ old ++ name ∷ [] = a none in
    (ap (nat_lt n) c ∙ not_below old new name n is s none (nat_lt n (length old)) refl, λ h. is)

pub known_is : (old new : List (List ℕ)) (name : List ℕ) (n count : ℕ) → count ≡ length old → slice_get new n ≡ Some name → (Contains old name → new ≡ old) → ((Contains old name → ⊥) → new ≡ old ++ name ∷ [])
    → (nat_lt n count ≡ is_one_of old name) × (is_one_of old name ≡ false → new ≡ old ++ name ∷ [])
known_is old new name n count c s k a = known_by old new name n count c s k a (is_one_of old name) refl

pub known_of : (old new : List (List ℕ)) (text name : List ℕ) (n count : ℕ) → text ≡ name → count ≡ length old → slice_get new n ≡ Some text → (Contains old text → new ≡ old) → ((Contains old text → ⊥) → new ≡ old ++ text ∷ [])
    → (nat_lt n count ≡ is_one_of old name) × (is_one_of old name ≡ false → new ≡ old ++ name ∷ [])
known_of old new text name n count t c s k a = known_is old new name n count c (subst (λ z. slice_get new n ≡ Some z) t s) (subst (λ z. Contains old z → new ≡ old) t k) (subst (λ z. (Contains old z → ⊥) → new ≡ old ++ z ∷ []) t a)

-- ---- a loop over a part of the lines

-- the line of a front of the lines
pub record FrontItem (lines : List Line) (front i : ℕ) (line : Line) : Type 0 where
  pub before : i < front
  pub within : i < length lines
  pub is : line ≡ get_or lines i line

pub front_item : (lines : List Line) (front i : ℕ) (line : Line) → front ≤ length lines → i < length (take front lines) → line ≡ get_or (take front lines) i line → FrontItem lines front i line
front_item lines front i line h j e = let size = length-take-le front lines h in let below : i < front = omega (arith, size) in
    record { before = below; within = omega arith; is = e ∙ get_or-take front lines i line below }

-- the line behind the first ones
pub record RestItem (lines : List Line) (begin i : ℕ) (line : Line) : Type 0 where
  pub within : begin + i < length lines
  pub is : line ≡ get_or lines (begin + i) line
  pub below : i < length (drop begin (texts lines))
  pub text : get_or (drop begin (texts lines)) i [] ≡ line.text

pub rest_item : (lines : List Line) (begin i : ℕ) (line : Line) → begin ≤ length lines → i < length (take (length lines - begin) (drop begin lines)) → line ≡ get_or (take (length lines - begin) (drop begin lines)) i line
    → RestItem lines begin i line
rest_item lines begin i line h j e = let size = ap length (take_rest lines begin) ∙ length-drop begin lines in let all : begin + i < length lines = omega (arith, size) in
    let is : line ≡ get_or lines (begin + i) line = e ∙ ap (λ l. get_or l i line) (take_rest lines begin) ∙ get_or-drop begin lines i line in
    record { within = all; is = is; below = omega (arith, length-drop begin (texts lines), length_texts lines); text = get_or-drop begin (texts lines) i [] ∙ text_at lines (begin + i) line all is }

pub fit_more : (modules : List (List ℕ)) (name : List ℕ) → AreModules modules → is_module_name name ≡ true → is_one_of modules name ≡ false → AreModules (modules ++ name ∷ [])
fit_more modules name a w d = record { words = all_more is_module_name modules name a.words w; differ = distinct_more modules name a.differ d }

pub named_more : (lines : List Line) (begin i : ℕ) (line : Line) (modules : List (List ℕ)) → RestItem lines begin i line → modules ≡ take i (drop begin (texts lines)) → modules ++ line.text ∷ [] ≡ take (i + 1) (drop begin (texts lines))
named_more lines begin i line modules r e = ap (λ l. l ++ line.text ∷ []) e ∙ ap (λ z. take i (drop begin (texts lines)) ++ z ∷ []) (sym r.text) ∙ sym (take_more (drop begin (texts lines)) i [] r.below)
