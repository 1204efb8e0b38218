-- Parts of XML.
use Rattle.std.proofs.lemmas.List.{append-nil, append_assoc}
use Rattle.std.proofs.Common.{inl, inr, arith, ◌+◌, ◌≡◌, refl, ap, ap₂, sym, ◌∙◌, subst, ℕ, zero, suc, ◌<◌, ◌≤◌, true, false, ◌&&◌, List, [], ◌∷◌, ◌++◌, length, drop, get_or, Contains, Some, Err}
use Rattle.std.specs.List.{list_all}
use mathlib.Core.Former.{Count}
use Rattle.ur_base.specs.Shape.{Shape, count}
use Rattle.ur_base.specs.Stopping.{IfRefused}
use Rattle.ur_base.specs.declared.refusal.Refusal.{Refusal}
use Rattle.ur_base.specs.declared.refusal.Stop.{Stop}
use Rattle.ur_base.specs.declared.refusal.Stop.TheVariants as stop
use Rattle.ur_syntax.specs.declared.xml.XmlForm.{Row_of-XmlPart}
use Rattle.ur_values.specs.declared.value.Tag.{Tag}
use Rattle.ur_values.specs.declared.value.Tag.TheVariants as tag
use Rattle.ur_rows.specs.declared.normal.NormalType.{NormalType}
use Rattle.ur_rows.specs.declared.normal.Part.{Part}
use Rattle.ur_rows.specs.Apart.{Assumptions}
use Rattle.ur_rows.specs.Made.{record_of}
use Rattle.ur_rows.specs.Order.{with_part, joined}
use Rattle.ur_rows.proofs.Shapes.{record-made}
use Rattle.ur_rows.proofs.Order.{joined-assoc}
use Rattle.ur_disjoint.proofs.Members.{In, in-map, contains-in}
use Rattle.ur_tree.specs.declared.exp.Exp.TheBlock as T
use Rattle.ur_tree.specs.declared.exp.Exp.TheBlock.{Row_of-Markup, end_of-Markup, more_of-Markup}
use Rattle.ur_tree.specs.declared.exp.Markup.{Markup}
use Rattle.ur_tree.specs.declared.exp.Markup.TheVariants as markup
use Rattle.ur_typed_rules.specs.Tests.{same_type, are_apart}
use Rattle.ur_tree.specs.Places.{Place, in_form}
use Rattle.ur_xmltype.specs.Tags as node
use Rattle.ur_typed_rules.specs.Arguments.{fields_met}
use Rattle.ur_typed_rules.specs.Faults.{Fault, TellsType, types_differ}
use Rattle.ur_typed_rules.specs.Rules.{if_so}
use Rattle.ur_typed.specs.Rules.{Sites}
use Rattle.ur_typed.specs.Markups.{Markups, Marked, Literal, no_marks, one_mark, both_rows, and_marks, form_out, parts_out}
use Rattle.ur_typed.specs.Faults.{BreaksNode, fields_meet, other_record}
use Rattle.ur_check_scopes.specs.Views.{Refuses, StopIs}
use Rattle.ur_check_scopes.proofs.Loops.{left-here, left-end}
use Rattle.ur_check_forms.specs.declared.marked.Marked.{Marked as HeldMarked}
use Rattle.ur_check_forms.specs.declared.marked.Waiting.{Waiting}
use Rattle.ur_check_forms.specs.Views.{records_in, marks_with, marked_with}
use Rattle.ur_check_forms.specs.Marking.{IsNotTaken, not_taken, BreaksForm, form_meets, form_not_taken}

marks-made : (ms : List Markup) → ◌≡◌ {A = Markups} (T.shape-the_row-Markup-4 ms, T.hidden-the_row-Markup-4 ms) (marks_with ms)
unfolding T.hidden-the_row-Markup-4 T.shape-the_row-Markup-4 denote.Hole.Carrier.hidden
marks-made [] = refl
marks-made (m ∷ ms) = ap (λ (k : Markups). (tt ∷ k.0, more_of-Markup m k.1)) (marks-made ms)

pub element-made : (g : Tag) (ms : List Markup) → markup.Element g ms ≡ markup.Element' g (marks_with ms).0 (marks_with ms).1
unfolding T.shape-the_row-Markup-4
element-made g ms = ap (λ (k : Markups). markup.Element' g k.0 k.1) (marks-made ms)

pub ruleset marks = (element-made, record-made)

-- ---- parts, and more behind them

abbrev of_parts : List Part → List NormalType → Markups → Sites → Marked
of_parts r w m st = record { row = r; waiting = w; marks = m; sites = st }

row-behind : (a b c : List Part) → joined (a ++ b) c ≡ joined a (joined b c)
row-behind [] b c = refl
row-behind (p ∷ a) b c = ap (with_part p) (row-behind a b c)

records-behind : (a b : List Waiting) (c : List NormalType) → records_in (a ++ b) ++ c ≡ records_in a ++ (records_in b ++ c)
records-behind [] b c = refl
records-behind (w ∷ a) b c = ap (λ z. w.wanted ∷ z) (records-behind a b c)

marks-behind : (a b : List Markup) (c : Markups) → both_rows (marks_with (a ++ b)).1 c ≡ both_rows (marks_with a).1 (both_rows (marks_with b).1 c)
marks-behind [] b c = refl
marks-behind (m ∷ a) b c = ap (λ (k : Markups). (tt ∷ k.0, more_of-Markup m k.1)) (marks-behind a b c)

pub parts-behind : (front more m : HeldMarked) → m.row ≡ front.row ++ more.row → m.waiting ≡ front.waiting ++ more.waiting → m.marks ≡ front.marks ++ more.marks → (between after : Sites) (d : Marked) →
    and_marks (marked_with m after) d ≡ and_marks (marked_with front between) (and_marks (marked_with more after) d)
parts-behind front more m e f g between after d =
    ap (λ z. of_parts z (records_in m.waiting ++ d.waiting) (both_rows (marks_with m.marks).1 d.marks) d.sites) (ap (λ z. joined z d.row) e ∙ row-behind front.row more.row d.row)
    ∙ ap (λ z. of_parts (joined front.row (joined more.row d.row)) z (both_rows (marks_with m.marks).1 d.marks) d.sites) (ap (λ z. records_in z ++ d.waiting) f ∙ records-behind front.waiting more.waiting d.waiting)
    ∙ ap (λ z. of_parts (joined front.row (joined more.row d.row)) (records_in front.waiting ++ (records_in more.waiting ++ d.waiting)) z d.sites) (ap (λ z. both_rows (marks_with z).1 d.marks) g ∙ marks-behind front.marks more.marks d.marks)

pub nothing-first : (m : HeldMarked) → m.row ≡ [] → m.waiting ≡ [] → m.marks ≡ [] → (st : Sites) (d : Marked) → and_marks (marked_with m st) d ≡ d
nothing-first m e f g st d =
    ap (λ z. of_parts (joined z d.row) (records_in m.waiting ++ d.waiting) (both_rows (marks_with m.marks).1 d.marks) d.sites) e
    ∙ ap (λ z. of_parts d.row (records_in z ++ d.waiting) (both_rows (marks_with m.marks).1 d.marks) d.sites) f
    ∙ ap (λ z. of_parts d.row d.waiting (both_rows (marks_with z).1 d.marks) d.sites) g

no-further : (ms : List Markup) → both_rows (marks_with ms).1 ([], end_of-Markup) ≡ marks_with ms
no-further [] = refl
no-further (m ∷ ms) = ap (λ (k : Markups). (tt ∷ k.0, more_of-Markup m k.1)) (no-further ms)

pub parts-end : (marked m : HeldMarked) → m.row ≡ joined marked.row [] → m.waiting ≡ marked.waiting → m.marks ≡ marked.marks → (st : Sites) → and_marks (marked_with marked st) (no_marks st) ≡ marked_with m st
parts-end marked m e f g st =
    ap (λ z. of_parts z (records_in marked.waiting ++ []) (both_rows (marks_with marked.marks).1 ([], end_of-Markup)) st) (sym e)
    ∙ ap (λ z. of_parts m.row z (both_rows (marks_with marked.marks).1 ([], end_of-Markup)) st) (append-nil (records_in marked.waiting) ∙ ap records_in (sym f))
    ∙ ap (λ z. of_parts m.row (records_in m.waiting) z st) (no-further marked.marks ∙ ap marks_with (sym g))

-- the marks of two lists of parts in turn
pub and-marks-assoc : (a b c : Marked) → and_marks (and_marks a b) c ≡ and_marks a (and_marks b c)
and-marks-assoc a b c =
    ap (λ z. of_parts z ((a.waiting ++ b.waiting) ++ c.waiting) (both_rows (both_rows a.marks.1 b.marks).1 c.marks) c.sites) (joined-assoc a.row b.row c.row)
    ∙ ap (λ z. of_parts (joined a.row (joined b.row c.row)) z (both_rows (both_rows a.marks.1 b.marks).1 c.marks) c.sites) (append_assoc a.waiting b.waiting c.waiting)
    ∙ ap (λ z. of_parts (joined a.row (joined b.row c.row)) (a.waiting ++ (b.waiting ++ c.waiting)) z c.sites) (rows-assoc a.marks.1 b.marks c.marks)
  where
    rows-assoc : {n : _} (r : Row_of-Markup n) (x y : Markups) → both_rows (both_rows r x).1 y ≡ both_rows r (both_rows x.1 y)
    rows-assoc end_of-Markup x y = refl
    rows-assoc (more_of-Markup m r) x y = ap (λ (k : Markups). (tt ∷ k.0, more_of-Markup m k.1)) (rows-assoc r x y)

-- a form of these parts
pub form-marked : (r : List Part) (ws : List Waiting) (ms : List Markup) (m : HeldMarked) → r ≡ [] → ws ≡ [] → ((st : Sites) → one_mark r (records_in ws) (markup.Element tag.Form ms) st ≡ Some (marked_with m st)) →
    (st : Sites) → one_mark [] [] (markup.Element' tag.Form (marks_with ms).0 (marks_with ms).1) st ≡ Some (marked_with m st)
form-marked r ws ms m e f h st =
    ap (λ z. one_mark z [] (markup.Element' tag.Form (marks_with ms).0 (marks_with ms).1) st) (sym e)
    ∙ ap (λ z. one_mark r (records_in z) (markup.Element' tag.Form (marks_with ms).0 (marks_with ms).1) st) (sym f)
    ∙ ap (λ z. one_mark r (records_in ws) z st) (sym (element-made tag.Form ms))
    ∙ h st

-- ---- buttons

pub at-in : {X : Type 0} (xs : List X) (i : ℕ) (x : X) → i < length xs → x ≡ get_or xs i x → In x xs
at-in [] i x h e = absurd (omega arith)
at-in (y ∷ ys) zero x h e = inl (sym e)
at-in (y ∷ ys) (suc i) x h e = inr (at-in ys i x (omega arith) e)

wanted-in : (ws : List Waiting) (i : ℕ) (x : Waiting) → i < length ws → x ≡ get_or ws i x → Contains (records_in ws) x.wanted
wanted-in ws i x h e = contains-in x.wanted (records_in ws) (in-map (λ w. w.wanted) x ws (at-in ws i x h e))

pub taken-past : (t : NormalType) (ws : List Waiting) (i : ℕ) (x : Waiting) → i < length ws → x ≡ get_or ws i x → same_type t x.wanted ≡ true →
    list_all (same_type t) (records_in (drop i ws)) ≡ list_all (same_type t) (records_in ws) → list_all (same_type t) (records_in (drop (i + 1) ws)) ≡ list_all (same_type t) (records_in ws)
taken-past t ws i x h e ok now = sym (left-here (λ z. list_all (same_type t) (records_in z)) ws i x h e ∙ ap (λ z. z && list_all (same_type t) (records_in (drop (i + 1) ws))) ok) ∙ now

pub taken-all : (t : NormalType) (ws : List Waiting) (i : ℕ) → length ws ≤ i → list_all (same_type t) (records_in (drop i ws)) ≡ list_all (same_type t) (records_in ws) → list_all (same_type t) (records_in ws) ≡ true
taken-all t ws i h now = sym now ∙ left-end (λ z. list_all (same_type t) (records_in z)) ws i h

pub not-taken-told : (names : List (List ℕ)) (t : NormalType) (ws : List Waiting) (i : ℕ) (x : Waiting) (r : Refusal) → i < length ws → x ≡ get_or ws i x → (same_type t x.wanted ≡ false) × TellsType names r (types_differ names t x.wanted) →
    Refuses names (IsNotTaken names t (records_in ws)) r
not-taken-told names t ws i x r h e k = (types_differ names t x.wanted, not_taken (wanted-in ws i x h e) k.0, k.1)

pub differ-told : (names : List (List ℕ)) (t u : NormalType) (s' : Stop) → same_type t u ≡ false → StopIs names (types_differ names t u) s' → IfRefused {A = Unit {0}} (Err s') (λ r. (same_type t u ≡ false) × TellsType names r (types_differ names t u))
differ-told names t u (stop.Refused r) h k = (h, k)
differ-told names t u stop.Memory h k = tt

-- ---- forms

pub form-not-taken : (names : List (List ℕ)) (known : Assumptions) (row : List Part) (t : NormalType) (wanted : List NormalType) (f : Fault) → t ≡ record_of row → IsNotTaken names t wanted f → BreaksForm names known row wanted f
form-not-taken names known row t wanted f e h = form_not_taken (subst (λ z. IsNotTaken names z wanted f) e h)

pub form-made : (known : Assumptions) (inner m : HeldMarked) → are_apart known inner.row ≡ true → list_all (same_type (record_of inner.row)) (records_in inner.waiting) ≡ true →
    ((st : Sites) → one_mark [] [] (markup.Element' tag.Form (marks_with inner.marks).0 (marks_with inner.marks).1) st ≡ Some (marked_with m st)) → (st : Sites) → form_out known (marked_with inner st) ≡ Some (marked_with m st)
form-made known inner m h k g st = ap₂ (λ a b. if_so (a && b) (one_mark [] [] (markup.Element' tag.Form (marks_with inner.marks).0 (marks_with inner.marks).1) st)) h k ∙ g st

node-broken : (names : List (List ℕ)) (l : Literal) (p : Place) (n : Count) (parts : Row_of-XmlPart n) (st : Sites) (d : Marked) (f : Fault) → parts_out l parts in_form st ≡ Some d → BreaksForm names l.scope.env.known d.row d.waiting f → BreaksNode names l p n parts st node.form f
node-broken names l p n parts st d _ at (form_meets (fields_met h)) = fields_meet at h
node-broken names l p n parts st d _ at (form_not_taken (not_taken c h)) = other_record at c h

pub form-broken : (names : List (List ℕ)) (known : Assumptions) (inner : HeldMarked) (r : Refusal) → Refuses names (BreaksForm names known inner.row (records_in inner.waiting)) r →
    (l : Literal) (p : Place) (n : Shape) (parts : Row_of-XmlPart (count n)) (before after : Sites) → l.scope.env.known ≡ known → parts_out l parts in_form before ≡ Some (marked_with inner after) → Refuses names (BreaksNode names l p (count n) parts before node.form) r
form-broken names known inner r (f, b, t) l p n parts before after e at =
    (f, node-broken names l p (count n) parts before (marked_with inner after) f at (subst (λ z. BreaksForm names z inner.row (records_in inner.waiting) f) (sym e) b), t)
