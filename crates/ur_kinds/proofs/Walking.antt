-- What the walks answer, step by step.
use Rattle.std.proofs.Common.{◌≡◌, refl, ap, ap₂, sym, ◌∙◌, subst, ℕ, Bool, true, false, ◌&&◌, ◌||◌, if◌then◌else◌, List, [], ◌∷◌, codes, bytes_eq, Option, Some, None, Result, Ok, Err, true≢false, length, drop, get_or, ◌<◌, ◌≤◌, ◌+◌, suc, arith}
use Rattle.ur_base.specs.declared.refusal.Refusal.{Refusal}
use Rattle.ur_base.specs.declared.refusal.Stop.{Stop}
use Rattle.ur_base.specs.declared.refusal.Stop.TheVariants as stop
use Rattle.ur_syntax.specs.declared.kind.Kind.{Kind}
use Rattle.ur_syntax.specs.declared.kind.Kind.TheVariants as kind
use Rattle.ur_syntax.specs.declared.con.Con.{Con}
use Rattle.ur_syntax.specs.declared.con.ConForm.{ConForm}
use Rattle.ur_syntax.specs.declared.con.ConForm.TheVariants as con
use Rattle.ur_syntax.specs.Kinds.{arrow}
use Rattle.ur_syntax.specs.Names.{own}
use Rattle.ur_syntax.specs.Forms.{apply_con, fn_con, arrow_con, concat_con, dollar_con}
use Rattle.ur_syntax.specs.HasKind.{Scope, kind_known, word_kind}
use Rattle.ur_kinds.specs.Unknown.{own_kind, first, unknown_in, unknown_in_fields, unknown_in_field, unknown_in_record}
use Rattle.ur_kinds.specs.Words.{is_word, is_map, is_xml_form, is_form, is_empty_row}
use Rattle.ur_kinds.specs.Walk.{is_type_word, is_maker_word, NamesTold, unknown_in_record_field}
use Rattle.ur_kinds.specs.Faults.{Part, itself, within, Fault, bad_kind, Breaks, TellsKind, HasFault, Misfits, faulty, other_kind, misplaced}
use Rattle.std.specs.Result.{IsErrAnd}
use Rattle.std.proofs.Math.Seq.{drop-cons, drop-length}
use Rattle.ur_syntax.specs.declared.con.CField.{CField}
use Rattle.ur_syntax.specs.declared.con.RecordField.{RecordField}
use Rattle.ur_kinds.proofs.Infer.{taken, left-out}
use Rattle.ur_syntax.proofs.Shapes.{row, record_row, fn-made, arrow-made, concat-made, apply-made, dollar-made, fields-made, record-made}

no : {A : Type 0} → false ≡ true → A
no e = absurd (true≢false (sym e))

-- ---- faults

pub fault-here : {s : Scope} {c : ConForm} {f : Fault} {r : Refusal} → Breaks s c f → TellsKind r f → HasFault s c r
fault-here {s = s} {c = c} {f = f} b t = record { fault = f; scope = s; place = c; stands = itself; broken = b; told = t }

pub fault-within : {s t : Scope} {c d : ConForm} {w : Option Kind} {r : Refusal} → Part s c t d w → HasFault t d r → HasFault s c r
fault-within p f = record { fault = f.fault; scope = f.scope; place = f.place; stands = within p f.stands; broken = f.broken; told = f.told }

pub misfit-within : {s t : Scope} {c d : ConForm} {w : Kind} {r : Refusal} → Part s c t d (Some w) → Misfits t d w r → HasFault s c r
misfit-within p (faulty f) = fault-within p f
misfit-within p (other_kind {found = found} {wanted = wanted} h n t) = fault-here {f = bad_kind found wanted} (misplaced p h n) t

-- ---- words

or-star : (b r : Bool) (k : Option Kind) → (r ≡ true → k ≡ Some kind.Star) → (b || r) ≡ true → (if b then Some kind.Star else k) ≡ Some kind.Star
or-star true r k h e = refl
or-star false r k h e = h e

nor-star : (b r : Bool) (k m : Option Kind) → (r ≡ false → k ≡ m) → (b || r) ≡ false → (if b then Some kind.Star else k) ≡ m
nor-star true r k m h e = no (sym e)
nor-star false r k m h e = h e

abbrev maker : Option Kind
maker = Some (arrow kind.Star kind.Star)

abbrev makers : Bool → Bool → Bool → Option Kind
makers a b c = if a then maker else if b then maker else if c then maker else None

all-star : (a b c d e f g h i : Bool) (k : Option Kind) → (a || (b || (c || (d || (e || (f || (g || (h || i)))))))) ≡ true →
    (if a then Some kind.Star else if b then Some kind.Star else if c then Some kind.Star else if d then Some kind.Star else if e then Some kind.Star else
    if f then Some kind.Star else if g then Some kind.Star else if h then Some kind.Star else if i then Some kind.Star else k) ≡ Some kind.Star
all-star a b c d e f g h i k = or-star a _ _ (or-star b _ _ (or-star c _ _ (or-star d _ _ (or-star e _ _ (or-star f _ _ (or-star g _ _ (or-star h _ _ (taken i (Some kind.Star) k))))))))

none-star : (a b c d e f g h i : Bool) (k : Option Kind) → (a || (b || (c || (d || (e || (f || (g || (h || i)))))))) ≡ false →
    (if a then Some kind.Star else if b then Some kind.Star else if c then Some kind.Star else if d then Some kind.Star else if e then Some kind.Star else
    if f then Some kind.Star else if g then Some kind.Star else if h then Some kind.Star else if i then Some kind.Star else k) ≡ k
none-star a b c d e f g h i k = nor-star a _ _ k (nor-star b _ _ k (nor-star c _ _ k (nor-star d _ _ k (nor-star e _ _ k (nor-star f _ _ k (nor-star g _ _ k (nor-star h _ _ k (left-out i (Some kind.Star) k))))))))

is-maker : (a b c : Bool) → (a || (b || c)) ≡ true → makers a b c ≡ maker
is-maker true b c e = refl
is-maker false true c e = refl
is-maker false false c e = ap (λ z. if z then maker else None) e

no-maker : (a b c : Bool) → (a || (b || c)) ≡ false → makers a b c ≡ None
no-maker true b c e = no (sym e)
no-maker false true c e = no (sym e)
no-maker false false c e = ap (λ z. if z then maker else None) e

pub type-word : (x : List ℕ) → is_type_word x ≡ true → word_kind x ≡ Some kind.Star
type-word x e = all-star (bytes_eq x (codes "int")) (bytes_eq x (codes "string")) (bytes_eq x (codes "bool")) (bytes_eq x (codes "unit")) (bytes_eq x (codes "page")) (bytes_eq x (codes "xbody")) (bytes_eq x (codes "xtable")) (bytes_eq x (codes "xtr")) (bytes_eq x (codes "xform"))
    (makers (bytes_eq x (codes "option")) (bytes_eq x (codes "list")) (bytes_eq x (codes "transaction"))) e

not-type : (x : List ℕ) → is_type_word x ≡ false → word_kind x ≡ makers (bytes_eq x (codes "option")) (bytes_eq x (codes "list")) (bytes_eq x (codes "transaction"))
not-type x e = none-star (bytes_eq x (codes "int")) (bytes_eq x (codes "string")) (bytes_eq x (codes "bool")) (bytes_eq x (codes "unit")) (bytes_eq x (codes "page")) (bytes_eq x (codes "xbody")) (bytes_eq x (codes "xtable")) (bytes_eq x (codes "xtr")) (bytes_eq x (codes "xform"))
    (makers (bytes_eq x (codes "option")) (bytes_eq x (codes "list")) (bytes_eq x (codes "transaction"))) e

pub maker-word : (x : List ℕ) → is_type_word x ≡ false → is_maker_word x ≡ true → word_kind x ≡ Some (arrow kind.Star kind.Star)
maker-word x e f = not-type x e ∙ is-maker (bytes_eq x (codes "option")) (bytes_eq x (codes "list")) (bytes_eq x (codes "transaction")) f

pub no-word : (x : List ℕ) → is_type_word x ≡ false → is_maker_word x ≡ false → word_kind x ≡ None
no-word x e f = not-type x e ∙ no-maker (bytes_eq x (codes "option")) (bytes_eq x (codes "list")) (bytes_eq x (codes "transaction")) f

pub own-unknown : (s : Scope) (x : List ℕ) → kind_known (own x) s ≡ None → word_kind x ≡ None → own_kind s x ≡ None
own-unknown s x h e = ap₂ (λ o w. first o w) h e

-- ---- the forms of words

pub xml-then : (s : Scope) (c : ConForm) (h f : Con) (b : Bool) → c ≡ con.App h f → is_word (codes "xml") s h.form ≡ true → b ≡ is_word (codes "form") s f.form → b ≡ is_xml_form s c
xml-then s c h f b e x y = y ∙ sym (ap (is_xml_form s) (e ∙ apply-made h f) ∙ ap (λ z. z && is_word (codes "form") s f.form) x)

pub xml-else : (s : Scope) (c : ConForm) (h f : Con) → c ≡ con.App h f → is_word (codes "xml") s h.form ≡ false → false ≡ is_xml_form s c
xml-else s c h f e x = sym (ap (is_xml_form s) (e ∙ apply-made h f) ∙ ap (λ z. z && is_word (codes "form") s f.form) x)

pub form-then : (s : Scope) (c : ConForm) (h f : Con) (b : Bool) → c ≡ con.App h f → is_xml_form s h.form ≡ true → b ≡ is_empty_row f.form → b ≡ is_form s c
form-then s c h f b e x y = y ∙ sym (ap (is_form s) (e ∙ apply-made h f) ∙ ap (λ z. z && is_empty_row f.form) x)

pub form-else : (s : Scope) (c : ConForm) (h f : Con) → c ≡ con.App h f → is_xml_form s h.form ≡ false → false ≡ is_form s c
form-else s c h f e x = sym (ap (is_form s) (e ∙ apply-made h f) ∙ ap (λ z. z && is_empty_row f.form) x)

pub map-of : (s : Scope) (c : ConForm) (h f : Con) (b : Bool) → c ≡ con.App h f → b ≡ is_word (codes "map") s h.form → b ≡ is_map s c
map-of s c h f b e x = x ∙ sym (ap (is_map s) (e ∙ apply-made h f))

-- ---- the constructors that are matched

pub fn-eq : {c : ConForm} (x : List ℕ) (k : Kind) (b y : Con) → c ≡ con.Lambda x k b → y ≡ b → c ≡ fn_con x k y.span y.form
fn-eq x k b y e g = e ∙ (ap (λ z. con.Lambda x k z) (sym g) ∙ fn-made x k y)

pub arrow-eq : {c : ConForm} (a b x y : Con) → c ≡ con.Arrow a b → x ≡ a → y ≡ b → c ≡ arrow_con x.span x.form y.span y.form
arrow-eq a b x y e f g = e ∙ (ap₂ con.Arrow (sym f) (sym g) ∙ arrow-made x y)

pub concat-eq : {c : ConForm} (a b x y : Con) → c ≡ con.Concat a b → x ≡ a → y ≡ b → c ≡ concat_con x.span x.form y.span y.form
concat-eq a b x y e f g = e ∙ (ap₂ con.Concat (sym f) (sym g) ∙ concat-made x y)

pub apply-eq : {c : ConForm} (a b x y : Con) → c ≡ con.App a b → x ≡ a → y ≡ b → c ≡ apply_con x.span x.form y.span y.form
apply-eq a b x y e f g = e ∙ (ap₂ con.App (sym f) (sym g) ∙ apply-made x y)

pub dollar-eq : {c : ConForm} (a x : Con) → c ≡ con.RecordOf a → x ≡ a → c ≡ dollar_con x.span x.form
dollar-eq a x e f = e ∙ (ap con.RecordOf (sym f) ∙ dollar-made x)

-- ---- the walk over names

pub told-along : (r : Result (Unit {0}) Stop) (o p : Option (List ℕ)) → p ≡ o → NamesTold r o → NamesTold r p
told-along r o p e t = subst (λ z. NamesTold r z) (sym e) t

first-told : (e : Stop) (o p : Option (List ℕ)) → NamesTold (Err e) o → NamesTold (Err e) (first o p)
first-told (stop.Refused r) (Some x) p t = t
first-told (stop.Refused r) None p t = absurd t
first-told stop.Memory o p t = tt

pub told-exit : (r : Result (Unit {0}) Stop) (e : Stop) (o p w : Option (List ℕ)) → w ≡ first o p → IsErrAnd r (λ y. y ≡ e) → NamesTold (Err e) o → NamesTold r w
told-exit (Ok b) e o p w q i t = absurd i
told-exit (Err y) e o p w q i t = subst (λ z. NamesTold (Err y) z) (sym q) (subst (λ z. NamesTold (Err z) (first o p)) (sym i) (first-told e o p t))

pub told-then : (r : Result (Unit {0}) Stop) (o p w : Option (List ℕ)) → w ≡ first o p → o ≡ None → NamesTold r p → NamesTold r w
told-then r o p w q n t = subst (λ z. NamesTold r z) (sym (q ∙ ap (λ o. first o p) n)) t

abbrev pub unknown_fields : Scope → List CField → Option (List ℕ)
unknown_fields s [] = None
unknown_fields s (f ∷ fs) = first (unknown_in_field s f) (unknown_fields s fs)

abbrev pub unknown_record : Scope → List RecordField → Option (List ℕ)
unknown_record s [] = None
unknown_record s (f ∷ fs) = first (unknown_in_record_field s f) (unknown_record s fs)

row-unknown : (s : Scope) (fs : List CField) → unknown_in_fields s (row fs).1 ≡ unknown_fields s fs
row-unknown s [] = refl
row-unknown s (f ∷ fs) = ap (λ o. first (unknown_in_field s f) o) (row-unknown s fs)

record-unknown : (s : Scope) (fs : List RecordField) → unknown_in_record s (record_row fs).1 ≡ unknown_record s fs
record-unknown s [] = refl
record-unknown s (f ∷ fs) = ap (λ o. first (unknown_in_record_field s f) o) (record-unknown s fs)

pub fields-unknown : (s : Scope) (fs : List CField) → unknown_in s (con.Row fs) ≡ unknown_fields s fs
fields-unknown s fs = ap (unknown_in s) (fields-made fs) ∙ row-unknown s fs

pub record-fields-unknown : (s : Scope) (fs : List RecordField) → unknown_in s (con.Record fs) ≡ unknown_record s fs
record-fields-unknown s fs = ap (unknown_in s) (record-made fs) ∙ record-unknown s fs

pub meet : (i n : ℕ) → n ≤ i → i ≤ n → i ≡ n
meet i n h k = omega arith

pub next-drop : {A : Type 0} (xs : List A) (i : ℕ) (x : A) → i < length xs → x ≡ get_or xs i x → drop i xs ≡ x ∷ drop (i + 1) xs
next-drop xs i x h g = drop-cons xs i x h ∙ ap₂ (λ y n. y ∷ drop n xs) (sym g) (more i) where
  more : (i : ℕ) → suc i ≡ i + 1
  more i = omega arith

pub field-next : (s : Scope) (fs : List CField) (i : ℕ) (f : CField) → i < length fs → f ≡ get_or fs i f →
    unknown_fields s (drop i fs) ≡ first (unknown_in_field s f) (unknown_fields s (drop (i + 1) fs))
field-next s fs i f h g = ap (unknown_fields s) (next-drop fs i f h g)

pub record-next : (s : Scope) (fs : List RecordField) (i : ℕ) (f : RecordField) → i < length fs → f ≡ get_or fs i f →
    unknown_record s (drop i fs) ≡ first (unknown_in_record_field s f) (unknown_record s (drop (i + 1) fs))
record-next s fs i f h g = ap (unknown_record s) (next-drop fs i f h g)

pub passed : (o p w : Option (List ℕ)) → w ≡ first o p → o ≡ None → w ≡ p
passed o p w e n = e ∙ ap (λ o. first o p) n

pub fields-end : (s : Scope) (gs fs : List CField) (i : ℕ) → fs ≡ gs → length fs ≤ i → i ≤ length fs → unknown_fields s fs ≡ unknown_fields s (drop i fs) → unknown_in s (con.Row gs) ≡ None
fields-end s gs fs i e h k n = fields-unknown s gs ∙ (ap (unknown_fields s) (sym e) ∙ (n ∙ (ap (λ j. unknown_fields s (drop j fs)) (meet i (length fs) h k) ∙ ap (unknown_fields s) (drop-length fs))))

pub record-end : (s : Scope) (gs fs : List RecordField) (i : ℕ) → fs ≡ gs → length fs ≤ i → i ≤ length fs → unknown_record s fs ≡ unknown_record s (drop i fs) → unknown_in s (con.Record gs) ≡ None
record-end s gs fs i e h k n = record-fields-unknown s gs ∙ (ap (unknown_record s) (sym e) ∙ (n ∙ (ap (λ j. unknown_record s (drop j fs)) (meet i (length fs) h k) ∙ ap (unknown_record s) (drop-length fs))))

pub fields-stop : (s : Scope) (gs fs : List CField) (i : ℕ) (f : CField) → fs ≡ gs → i < length fs → f ≡ get_or fs i f → unknown_fields s fs ≡ unknown_fields s (drop i fs) →
    unknown_in s (con.Row gs) ≡ first (unknown_in_field s f) (unknown_fields s (drop (i + 1) fs))
fields-stop s gs fs i f e h g n = fields-unknown s gs ∙ (ap (unknown_fields s) (sym e) ∙ (n ∙ field-next s fs i f h g))

pub record-stop : (s : Scope) (gs fs : List RecordField) (i : ℕ) (f : RecordField) → fs ≡ gs → i < length fs → f ≡ get_or fs i f → unknown_record s fs ≡ unknown_record s (drop i fs) →
    unknown_in s (con.Record gs) ≡ first (unknown_in_record_field s f) (unknown_record s (drop (i + 1) fs))
record-stop s gs fs i f e h g n = record-fields-unknown s gs ∙ (ap (unknown_record s) (sym e) ∙ (n ∙ record-next s fs i f h g))
