-- The steps of the walk over constructors.
use Rattle.std.proofs.Common.{◌≡◌, refl, ap, sym, ◌∙◌, subst, ℕ, suc, ◌+◌, ◌<◌, ◌≤◌, arith, true, List, [], ◌∷◌, ◌++◌, length, take, get_or, Option, Some, Result, IfOk, Bor}
use Rattle.std.specs.Prelude.{map}
use Rattle.std.proofs.lemmas.Result.{IfOk-weaker}
use Rattle.std.proofs.lemmas.List.{take_all}
use Rattle.ur_base.specs.declared.refusal.Memory.{Memory}
use Rattle.ur_syntax.specs.declared.kind.Kind.{Kind}
use Rattle.ur_syntax.specs.declared.kind.Kind.TheVariants as kind
use Rattle.ur_syntax.specs.declared.con.Con.{Con}
use Rattle.ur_syntax.specs.declared.con.ConForm.{ConForm}
use Rattle.ur_syntax.specs.declared.con.ConForm.TheVariants as con
use Rattle.ur_syntax.specs.declared.con.CField.{CField}
use Rattle.ur_syntax.specs.declared.con.CField.TheVariants as con_field
use Rattle.ur_syntax.specs.declared.con.FieldName.{FieldName}
use Rattle.ur_syntax.specs.declared.con.RecordField.{RecordField}
use Rattle.ur_syntax.specs.Forms.{fn_con}
use Rattle.ur_syntax.specs.Names.{own, member}
use Rattle.ur_rows.specs.declared.normal.Var.{Var}
use Rattle.ur_rows.specs.declared.normal.Var.TheVariants as var
use Rattle.ur_rows.specs.declared.normal.Label.{Label}
use Rattle.ur_rows.specs.declared.normal.NormalType.{NormalType}
use Rattle.ur_rows.specs.declared.normal.Part.{Part}
use Rattle.ur_rows.specs.declared.normal.Normal.{Normal}
use Rattle.ur_rows.specs.declared.normal.Normal.TheVariants as normal
use Rattle.ur_rows.specs.declared.normal.Normal.TheBlock.{end_of-Normal as sole, more_of-Normal as the}
use Rattle.ur_rows.specs.Made.{arrow_of, field, record_of, unit}
use Rattle.ur_rows.specs.IsNormal.{is_normal}
use Rattle.ur_rows.specs.Nodes.{nodes, most_nodes}
use Rattle.ur_rows_reduce.specs.Height.{height, most_levels}
use Rattle.ur_rows.specs.Order.{joined}
use Rattle.ur_rows.specs.Put.{as_type, as_row}
use Rattle.ur_rows.specs.Normal.{Known, label_of, variable, within, with_argument, name_with, known_as, nf_with, nf_field}
use Rattle.ur_rows.proofs.InOrder.{nf_with-normal}
use Rattle.ur_rows_reduce.specs.declared.held.Held.{Held}
use Rattle.ur_rows_reduce.specs.declared.held.Held.TheVariants as held
use Rattle.ur_rows_reduce.specs.declared.held.Fields.{Fields}
use Rattle.ur_rows_normal.specs.declared.normal_fields.Listed.{Listed}
use Rattle.ur_rows_normal.specs.declared.normal_fields.Listed.TheVariants as listed
use Rattle.ur_rows_normal.specs.declared.names.Scope.{Scope}
use Rattle.ur_rows_reduce.specs.declared.given.Args.{Args}
use Rattle.ur_rows_reduce.specs.declared.given.Args.TheVariants as args
use Rattle.ur_rows_reduce.specs.Held.{Holds, TypeIs, RowIs}
use Rattle.ur_rows_reduce.specs.Arguments.{Given, args_of}
use Rattle.ur_rows_normal.specs.Listed.{ListedAs}
use Rattle.ur_rows_normal.specs.Walk.{Agrees, Tells, IsForm, names_of, placed, parts_of, record_part, record_parts_of}
use Rattle.ur_rows_normal.proofs.Listing.{placed-joined, listed-step}
use Rattle.ur_rows_normal.proofs.Written.{lambda-made, nf-given, nf-arrow, nf-concat, nf-app, nf-dollar, nf-row, nf-record}

-- what is held of the form of an equal constructor
along : (h : Held) (known : Known) (c d : ConForm) (ns : List Normal) (n : Normal) → c ≡ d → nf_with known d ns ≡ n → Holds h n → Holds h (nf_with known c ns)
along h known c d ns n e f k = subst (Holds h) (sym (ap (λ z. nf_with known z ns) e ∙ f)) k

pub arrow-walks : (r : Result Held Memory) (s : Scope) (c : ConForm) (hs : List Held) (x y : Con) (t u : Option NormalType) → c ≡ con.Arrow x y →
    ((known : Known) → Tells s known → TypeIs t (as_type (nf_with known x.form []))) → ((known : Known) → Tells s known → TypeIs u (as_type (nf_with known y.form []))) →
    IfOk r (λ h. (p q : NormalType) → TypeIs t p → TypeIs u q → Holds h (normal.Type (arrow_of p q))) → IfOk r (λ h. IsForm h s c hs)
arrow-walks r s c hs x y t u e p q k = IfOk-weaker r _ _ (λ h f known ns w g. along h known c (con.Arrow x y) ns _ e (nf-arrow known x y ns) (f _ _ (p known w) (q known w))) k

pub concat-walks : (h : Held) (s : Scope) (c : ConForm) (hs : List Held) (x y : Con) (l m f : Fields) → c ≡ con.Concat x y →
    ((known : Known) → Tells s known → RowIs l (as_row (nf_with known x.form []))) → ((known : Known) → Tells s known → RowIs m (as_row (nf_with known y.form []))) →
    ((p q : List Part) → RowIs l p → RowIs m q → RowIs f (joined p q)) → ((p : List Part) → RowIs f p → Holds h (normal.Row p)) → IsForm h s c hs
concat-walks h s c hs x y l m f e p q u k = λ known ns w g. along h known c (con.Concat x y) ns _ e (nf-concat known x y ns) (k _ (u _ _ (p known w) (q known w)))

pub app-walks : (r : Result Held Memory) (s : Scope) (c : ConForm) (hs : List Held) (f x : Con) (a : Held) → c ≡ con.App f x → IsForm a s x.form [] →
    IfOk r (λ h. IsForm h s f.form (a ∷ hs)) → IfOk r (λ h. IsForm h s c hs)
app-walks r s c hs f x a e p k = IfOk-weaker r _ _ (λ h q known ns w g. along h known c (con.App f x) ns _ e (nf-app known f x ns)
    (q known (nf_with known x.form [] ∷ ns) w (p known [] w tt, nf_with-normal known x.form [] refl, g))) k

no-arguments : (h : Held) (known : Known) (c : ConForm) (ns : List Normal) → Given [] ns → Holds h (nf_with known c []) → Holds h (nf_with known c ns)
no-arguments h known c [] g k = k
no-arguments h known c (n ∷ ns) g k = absurd g

pub function-walks : (r : Result Held Memory) (s : Scope) (c : ConForm) (given : Args) (x : List ℕ) (k : Kind) (b : Con) → c ≡ con.Lambda x k b → given ≡ args.Empty →
    IfOk r (λ h. IsForm h s (fn_con x k b.span b.form) []) → IfOk r (λ h. IsForm h s c (args_of given))
function-walks r s c given x k b e i w = subst (λ z. IfOk r (λ h. IsForm h s c (args_of z))) (sym i) (subst (λ z. IfOk r (λ h. IsForm h s z [])) (sym (e ∙ lambda-made x k b)) w)

more-arguments : (h : Held) (known : Known) (x : List ℕ) (k : Kind) (b : Con) (hs : List Held) (a : Held) (ns : List Normal) → Given (a ∷ hs) ns →
    ((n : Normal) (ms : List Normal) → Given (a ∷ hs) (n ∷ ms) → Holds h (nf_with (with_argument x n known) b.form ms)) → Holds h (nf_with known (con.Lambda x k b) ns)
more-arguments h known x k b hs a [] g f = absurd g
more-arguments h known x k b hs a (n ∷ ns) g f = subst (Holds h) (sym (nf-given known x k b n ns)) (f n ns g)

pub given-walks : (r : Result Held Memory) (s : Scope) (c : ConForm) (given : Args) (x : List ℕ) (k : Kind) (b : Con) (a : Bor Held) (rest : Bor Args) → c ≡ con.Lambda x k b → given ≡ args.More a rest →
    IfOk r (λ h. (known : Known) (n : Normal) (ns : List Normal) → Tells s known → Given (a.now ∷ args_of rest.now) (n ∷ ns) → Holds h (nf_with (with_argument x n known) b.form ns)) →
    IfOk r (λ h. IsForm h s c (args_of given))
given-walks r s c given x k b a rest e i w = subst (λ z. IfOk r (λ h. IsForm h s c (args_of z))) (sym i) (IfOk-weaker r _ _ (λ h f known ns t g.
    subst (λ z. Holds h (nf_with known z ns)) (sym e) (more-arguments h known x k b (args_of rest.now) a.now ns g (λ n ms q. f known n ms t q))) w)

pub name-walks : (r : Result Held Memory) (s : Scope) (c : ConForm) (hs : List Held) (x : List ℕ) → c ≡ con.Var x →
    IfOk r (λ h. (known : Known) (ns : List Normal) → Tells s known → Given hs ns → Holds h (name_with (known_as (own x) known) x ns)) → IfOk r (λ h. IsForm h s c hs)
name-walks r s c hs x e w = subst (λ z. IfOk r (λ h. IsForm h s z hs)) (sym e) w

pub member-walks : (r : Result Held Memory) (s : Scope) (c : ConForm) (hs : List Held) (m x : List ℕ) → c ≡ con.Member m x →
    IfOk r (λ h. (known : Known) (ns : List Normal) → Tells s known → Given hs ns → Holds h (name_with (known_as (member m x) known) x ns)) → IfOk r (λ h. IsForm h s c hs)
member-walks r s c hs m x e w = subst (λ z. IfOk r (λ h. IsForm h s z hs)) (sym e) w

pub literal-walks : (r : Result Held Memory) (s : Scope) (c : ConForm) (hs : List Held) (a : List ℕ) → c ≡ con.Name a → IfOk r (λ h. Holds h (nf_with (record { home = []; depth = 0; names = [] }) (con.Name a) [])) →
    IfOk r (λ h. IsForm h s c hs)
literal-walks r s c hs a e w = subst (λ z. IfOk r (λ h. IsForm h s z hs)) (sym e) (IfOk-weaker r _ _ (λ h k known ns t g. k) w)

pub row-walks : (h : Held) (s : Scope) (c : ConForm) (hs : List Held) (fields : List CField) (f : Fields) → c ≡ con.Row fields → ((known : Known) → Tells s known → RowIs f (parts_of known fields)) →
    ((p : List Part) → RowIs f p → Holds h (normal.Row p)) → IsForm h s c hs
row-walks h s c hs fields f e p k = λ known ns w g. along h known c (con.Row fields) ns _ e (nf-row known fields ns) (k _ (p known w))

pub record-walks : (h : Held) (s : Scope) (c : ConForm) (hs : List Held) (fields : List RecordField) (f : Fields) → c ≡ con.Record fields → ((known : Known) → Tells s known → RowIs f (record_parts_of known fields)) →
    ((p : List Part) → RowIs f p → Holds h (normal.Type (record_of p))) → IsForm h s c hs
record-walks h s c hs fields f e p k = λ known ns w g. along h known c (con.Record fields) ns _ e (nf-record known fields ns) (k _ (p known w))

pub dollar-walks : (h : Held) (s : Scope) (c : ConForm) (hs : List Held) (x : Con) (f : Fields) → c ≡ con.RecordOf x → ((known : Known) → Tells s known → RowIs f (as_row (nf_with known x.form []))) →
    ((p : List Part) → RowIs f p → Holds h (normal.Type (record_of p))) → IsForm h s c hs
dollar-walks h s c hs x f e p k = λ known ns w g. along h known c (con.RecordOf x) ns _ e (nf-dollar known x ns) (k _ (p known w))

pub type-walks : (r : Result (Option NormalType) Memory) (s : Scope) (x : Con) (h : Held) → IsForm h s x.form [] → IfOk r (λ t. (n : Normal) → Holds h n → TypeIs t (as_type n)) →
    IfOk r (λ t. (known : Known) → Tells s known → TypeIs t (as_type (nf_with known x.form [])))
type-walks r s x h p k = IfOk-weaker r _ _ (λ t f known w. f _ (p known [] w tt)) k

pub fields-walks : (r : Result Fields Memory) (s : Scope) (x : Con) (h : Held) → IsForm h s x.form [] → IfOk r (λ t. (n : Normal) → Holds h n → RowIs t (as_row n)) →
    IfOk r (λ t. (known : Known) → Tells s known → RowIs t (as_row (nf_with known x.form [])))
fields-walks r s x h p k = IfOk-weaker r _ _ (λ t f known w. f _ (p known [] w tt)) k

-- ---- names that functions bind

variable-small : (k : Kind) (v : Var) → nodes (variable k v) ≤ most_nodes
variable-small kind.Star v = omega arith
variable-small kind.Name v = omega arith
variable-small kind.Row v = omega arith
variable-small (kind.Arrow' _ x _ y) v = omega arith

variable-low : (k : Kind) (v : Var) → height (variable k v) ≤ most_levels
variable-low kind.Star v = omega arith
variable-low kind.Name v = omega arith
variable-low kind.Row v = omega arith
variable-low (kind.Arrow' _ x _ y) v = omega arith

pub variable-normal : (k : Kind) (v : Var) → is_normal (variable k v) ≡ true
variable-normal kind.Star v = refl
variable-normal kind.Name v = refl
variable-normal kind.Row v = refl
variable-normal (kind.Arrow' _ x _ y) v = refl

pub variable-holds : (k : Kind) (v : Var) (n : Normal) → n ≡ variable k v → Holds (held.Form n) (variable k v)
variable-holds k v n e = (e, variable-small k v, variable-low k v)

pub inner-tells : (s inner : Scope) (x : List ℕ) (k : Kind) (d : ℕ) (n : Normal) (known : Known) → inner.home.now ≡ s.home.now → inner.depth ≡ d → d ≡ suc s.depth →
    names_of inner.names.now ≡ (own x, (d, held.Form n)) ∷ names_of s.names.now → n ≡ variable k (var.Bound 0) → Tells s known → Tells inner (within x k known)
inner-tells s inner x k d n known e f g h i w = record {
  home = e ∙ w.home;
  depth = f ∙ g ∙ ap (λ z. suc z) w.depth;
  names = subst (λ z. Agrees z ((own x, (suc known.depth, variable k (var.Bound 0))) ∷ known.names)) (sym h) (refl, (g ∙ ap (λ z. suc z) w.depth, variable-holds k (var.Bound 0) n i, variable-normal k (var.Bound 0)), w.names);
}

pub body-walks : (r : Result Held Memory) (s inner : Scope) (x : List ℕ) (k : Kind) (b : Con) (h : Held) → ((known : Known) → Tells s known → Tells inner (within x k known)) → IsForm h inner b.form [] →
    IfOk r (λ g. (n : Normal) → Holds h n → Holds g (normal.Fn' k tt (the n sole))) → IfOk r (λ g. IsForm g s (fn_con x k b.span b.form) [])
body-walks r s inner x k b h t p w = IfOk-weaker r _ _ (λ g f known ns u v. no-arguments g known (fn_con x k b.span b.form) ns v (f _ (p (within x k known) [] (t known u) tt))) w

pub argument-tells : (s inner : Scope) (x : List ℕ) (a : Held) (hs : List Held) (n : Normal) (ns : List Normal) (known : Known) → inner.home.now ≡ s.home.now → inner.depth ≡ s.depth →
    names_of inner.names.now ≡ (own x, (s.depth, a)) ∷ names_of s.names.now → Given (a ∷ hs) (n ∷ ns) → Tells s known → Tells inner (with_argument x n known)
argument-tells s inner x a hs n ns known e f h g w = record {
  home = e ∙ w.home;
  depth = f ∙ w.depth;
  names = subst (λ z. Agrees z ((own x, (known.depth, n)) ∷ known.names)) (sym h) (refl, (w.depth, g.0, g.1), w.names);
}

pub argument-walks : (r : Result Held Memory) (s inner : Scope) (x : List ℕ) (b : Con) (a : Held) (hs : List Held) → inner.home.now ≡ s.home.now → inner.depth ≡ s.depth →
    names_of inner.names.now ≡ (own x, (s.depth, a)) ∷ names_of s.names.now → IfOk r (λ h. IsForm h inner b.form hs) →
    IfOk r (λ h. (known : Known) (n : Normal) (ns : List Normal) → Tells s known → Given (a ∷ hs) (n ∷ ns) → Holds h (nf_with (with_argument x n known) b.form ns))
argument-walks r s inner x b a hs e f h w = IfOk-weaker r _ _ (λ g p known n ns t q. p (with_argument x n known) ns (argument-tells s inner x a hs n ns known e f h q t) q.2) w

-- ---- fields

unit-is : TypeIs (Some unit) unit
unit-is = (refl, omega arith, omega arith)

pub bare-walks : (r : Result Listed Memory) (s : Scope) (f : CField) (x : FieldName) (l : Label) (t : NormalType) (row : Listed) → f ≡ con_field.Bare x → t ≡ unit → ((known : Known) → Tells s known → l ≡ label_of known x) →
    IfOk r (λ w. (p : List Part) (u : NormalType) → ListedAs row p → TypeIs (Some t) u → ListedAs w (p ++ field l u ∷ [])) →
    IfOk r (λ w. (known : Known) (p : List Part) → Tells s known → ListedAs row p → ListedAs w (p ++ nf_field known f ∷ []))
bare-walks r s f x l t row e i h k = IfOk-weaker r _ _ (λ w g known p v q. subst (λ z. ListedAs w (p ++ nf_field known z ∷ [])) (sym e)
    (subst (λ z. ListedAs w (p ++ field z unit ∷ [])) (h known v) (g p unit q (subst (λ z. TypeIs (Some z) unit) (sym i) unit-is)))) k

field-nf : (known : Known) (x : FieldName) (c : Con) → nf_field known (con_field.Given x c) ≡ field (label_of known x) (as_type (nf_with known c.form []))
field-nf known x c = refl

pub field-walks : (r : Result Listed Memory) (s : Scope) (f : CField) (x : FieldName) (c : Con) (l : Label) (t : Option NormalType) (row : Listed) → f ≡ con_field.Given x c →
    ((known : Known) → Tells s known → TypeIs t (as_type (nf_with known c.form []))) → ((known : Known) → Tells s known → l ≡ label_of known x) →
    IfOk r (λ w. (p : List Part) (u : NormalType) → ListedAs row p → TypeIs t u → ListedAs w (p ++ field l u ∷ [])) →
    IfOk r (λ w. (known : Known) (p : List Part) → Tells s known → ListedAs row p → ListedAs w (p ++ nf_field known f ∷ []))
field-walks r s f x c l t row e i h k = IfOk-weaker r _ _ (λ w g known p v q. subst (λ z. ListedAs w (p ++ z ∷ [])) (sym (ap (nf_field known) e ∙ field-nf known x c))
    (subst (λ z. ListedAs w (p ++ field z (as_type (nf_with known c.form [])) ∷ [])) (h known v) (g p _ q (i known v)))) k

pub record-field-walks : (r : Result Listed Memory) (s : Scope) (f : RecordField) (l : Label) (t : Option NormalType) (row : Listed) →
    ((known : Known) → Tells s known → TypeIs t (as_type (nf_with known f.con.form []))) → ((known : Known) → Tells s known → l ≡ label_of known f.name) →
    IfOk r (λ w. (p : List Part) (u : NormalType) → ListedAs row p → TypeIs t u → ListedAs w (p ++ field l u ∷ [])) →
    IfOk r (λ w. (known : Known) (p : List Part) → Tells s known → ListedAs row p → ListedAs w (p ++ record_part known f ∷ []))
record-field-walks r s f l t row i h k = IfOk-weaker r _ _ (λ w g known p v q.
    subst (λ z. ListedAs w (p ++ field z (as_type (nf_with known f.con.form [])) ∷ [])) (h known v) (g p _ q (i known v))) k

-- what a loop over fields keeps
abbrev pub Collects : {F : Type 0} → (Known → F → Part) → Scope → Listed → List F → ℕ → Type 0
Collects part s row fs i = (known : Known) → Tells s known → ListedAs row (map (part known) (take i fs))

pub collects-none : {F : Type 0} (part : Known → F → Part) (s : Scope) (n : List Part) (fs : List F) → n ≡ [] → Collects part s (listed.Small n 65535) fs 0
collects-none part s n fs e = λ known w. (e, refl, omega arith)

pub collects-more : {F : Type 0} (part : Known → F → Part) (s : Scope) (row more : Listed) (fs : List F) (i : ℕ) (f : F) → Collects part s row fs i → i < length fs → f ≡ get_or fs i f →
    ((known : Known) (p : List Part) → Tells s known → ListedAs row p → ListedAs more (p ++ part known f ∷ [])) → Collects part s more fs (i + 1)
collects-more part s row more fs i f k h e g = λ known w. subst (ListedAs more) (sym (listed-step (part known) fs i f h e)) (g known _ w (k known w))

pub collects-all : {F : Type 0} (part : Known → F → Part) (r : Result Fields Memory) (s : Scope) (row : Listed) (fs given : List F) (i : ℕ) → fs ≡ given → Collects part s row fs i → length fs ≤ i →
    IfOk r (λ f. (p : List Part) → ListedAs row p → RowIs f (joined p [])) → IfOk r (λ f. (known : Known) → Tells s known → RowIs f (placed (part known) given))
collects-all part r s row fs given i e k h w = IfOk-weaker r _ _ (λ f g known t. subst (λ z. RowIs f (placed (part known) z)) e (subst (RowIs f) (placed-joined (part known) fs)
    (subst (λ z. RowIs f (joined (map (part known) z) [])) (take_all i fs h) (g _ (k known t))))) w
