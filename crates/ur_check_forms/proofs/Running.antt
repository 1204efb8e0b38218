-- Sequences and cookies.
use Rattle.std.proofs.Common.{◌≡◌, refl, ap, ap₂, sym, ◌∙◌, subst, ℕ, nat_lt, Bool, true, false, ◌&&◌, List, [], ◌∷◌, map, length, Option, Some, None, Err}
use Rattle.std.specs.Prelude.{codes, option_map, option_and_then, slice_get}
use mathlib.Core.Former.{Count}
use Rattle.ur_base.specs.Stopping.{IfRefused}
use Rattle.ur_base.specs.declared.refusal.Refusal.{Refusal}
use Rattle.ur_base.specs.declared.refusal.Span.{Span}
use Rattle.ur_base.specs.declared.refusal.Stop.{Stop}
use Rattle.ur_base.specs.declared.refusal.Stop.TheVariants as stop
use Rattle.ur_syntax.specs.Names.{seen, name_text}
use Rattle.ur_syntax.specs.declared.con.ConName.{ConName}
use Rattle.ur_syntax.specs.declared.con.FieldName.{FieldName}
use Rattle.ur_syntax.specs.declared.sql.DeclName.{DeclName}
use Rattle.ur_syntax.specs.declared.exp.Exp.{Exp as Written}
use Rattle.ur_syntax.specs.declared.exp.Field.{Field}
use Rattle.ur_syntax.specs.declared.exp.ExpForm.{ExpForm, end_of-Exp as alone, more_of-Exp as its, Row_of-Field}
use Rattle.ur_syntax.specs.declared.exp.ExpForm.TheVariants as e
use Rattle.ur_values.specs.declared.schema.ColumnKind.{ColumnKind}
use Rattle.ur_rows.specs.declared.normal.NormalType.{NormalType}
use Rattle.ur_rows.specs.declared.normal.NormalType.TheVariants as ty
use Rattle.ur_rows.proofs.Shapes.{option-made, transaction-made}
use Rattle.ur_rows.specs.Made.{unit}
use Rattle.ur_rows.specs.Types.{option_of, transaction_of}
use Rattle.ur_tree.specs.declared.exp.Exp.TheVariants as exp
use Rattle.ur_tree.specs.Make as make
use Rattle.ur_tree.specs.Scalars.{kind_type}
use Rattle.ur_typed_rules.specs.Names.{declared, name_of}
use Rattle.ur_typed_rules.specs.Scopes.{World, Scope, Mode, wants}
use Rattle.ur_typed_rules.specs.Faults.{Fault, unknown, not_so}
use Rattle.ur_typed_rules.specs.Rules.{if_so}
use Rattle.ur_typed_rules.proofs.Options.{some_of}
use Rattle.ur_typed.specs.Rules.{Sites, Out, gives, next_out, cookie_at, get_cookie_out, set_cookie_out, is_literally}
use Rattle.ur_typed.specs.Walking.{typed, cookie_walk, cookie_field_walk}
use Rattle.ur_typed.specs.Parts.{Part, FirstField, first_field, cookie_value}
use Rattle.ur_typed.specs.Causes.{Breaks, no_sequence, no_cookie, no_cookie_set, is_cookie_record, is_record, other_record_set, no_record_set}
use Rattle.ur_check_scopes.specs.declared.around.Around.{Around}
use Rattle.ur_check_scopes.specs.declared.names.Named.{Named}
use Rattle.ur_check_scopes.specs.Views.{Stands, Refuses, StopIs, names_in, itself}
use Rattle.ur_check_rules.specs.declared.out.Out.{Out as HeldOut}
use Rattle.ur_check_rules.specs.Views.{out_with}
use Rattle.ur_check_rules.proofs.Lacks.{field_row, record-made}
use Rattle.ur_check_forms.specs.Runs.{IsUnknown, not_there, are_of_cookie, value_in, IsCookieValue, value_there}
use Rattle.ur_check_forms.proofs.Trees.{set-cookie-made}

-- the types and trees that the code makes
pub ruleset types = (option-made, transaction-made, set-cookie-made)

-- ---- names

pub sequence-is : (a : Around) (x : DeclName) (k : ConName) (home : List ℕ) (ns : List (Named ℕ)) (o r : Option ℕ) → k ≡ name_of x → o ≡ seen home k (names_in itself ns) → home ≡ a.world.now.env.home → ns ≡ a.world.now.sequences → o ≡ r →
    (w : World) (s : Scope) → Stands a w s → declared w.globals (name_of x) w.globals.sequences ≡ r
sequence-is a x k home ns o r e h eh en is w s stands =
    ap (λ z. declared z.globals (name_of x) z.globals.sequences) stands.world ∙ ap (λ z. seen a.world.now.env.home z (names_in itself a.world.now.sequences)) (sym e) ∙ ap₂ (λ y z. seen y k (names_in itself z)) (sym eh) (sym en) ∙ sym h ∙ is

pub cookie-is : (a : Around) (x : DeclName) (k : ConName) (home : List ℕ) (ns : List (Named ℕ)) (o r : Option ℕ) → k ≡ name_of x → o ≡ seen home k (names_in itself ns) → home ≡ a.world.now.env.home → ns ≡ a.world.now.cookies → o ≡ r →
    (w : World) (s : Scope) → Stands a w s → declared w.globals (name_of x) w.globals.cookies ≡ r
cookie-is a x k home ns o r e h eh en is w s stands =
    ap (λ z. declared z.globals (name_of x) z.globals.cookies) stands.world ∙ ap (λ z. seen a.world.now.env.home z (names_in itself a.world.now.cookies)) (sym e) ∙ ap₂ (λ y z. seen y k (names_in itself z)) (sym eh) (sym en) ∙ sym h ∙ is

pub no-sequence-told : (a : Around) (x : DeclName) (s' : Stop) → ((w : World) (s : Scope) → Stands a w s → declared w.globals (name_of x) w.globals.sequences ≡ None) → ((names : List (List ℕ)) → StopIs names (unknown (name_text x.«module» x.name)) s') →
    IfRefused {A = Unit {0}} (Err s') (λ r. (w : World) (s : Scope) → Stands a w s → Refuses a.world.now.datatype_names (IsUnknown w w.globals.sequences x) r)
no-sequence-told a x (stop.Refused r) h t = λ w s stands. (unknown (name_text x.«module» x.name), not_there (h w s stands), t a.world.now.datatype_names)
no-sequence-told a x stop.Memory h t = tt

pub no-cookie-told : (a : Around) (x : DeclName) (s' : Stop) → ((w : World) (s : Scope) → Stands a w s → declared w.globals (name_of x) w.globals.cookies ≡ None) → ((names : List (List ℕ)) → StopIs names (unknown (name_text x.«module» x.name)) s') →
    IfRefused {A = Unit {0}} (Err s') (λ r. (w : World) (s : Scope) → Stands a w s → Refuses a.world.now.datatype_names (IsUnknown w w.globals.cookies x) r)
no-cookie-told a x (stop.Refused r) h t = λ w s stands. (unknown (name_text x.«module» x.name), not_there (h w s stands), t a.world.now.datatype_names)
no-cookie-told a x stop.Memory h t = tt

-- ---- what they give

pub next-made : (a : Around) (x : DeclName) (n : ℕ) (of : NormalType) (o : HeldOut) → ((w : World) (s : Scope) → Stands a w s → declared w.globals (name_of x) w.globals.sequences ≡ Some n) → nat_lt n (length a.world.now.schema.sequences) ≡ true → of ≡ transaction_of ty.Int →
    ((st : Sites) → gives of (exp.Next n) st ≡ Some (out_with o st)) → (w : World) (s : Scope) (st : Sites) → Stands a w s → next_out w st x ≡ Some (out_with o st)
next-made a x n of o h less e g w s st stands =
    let below : nat_lt n w.declared.sequences ≡ true = ap (λ z. nat_lt n z.declared.sequences) stands.world ∙ less in
    ap (option_and_then (λ m. if_so (nat_lt m w.declared.sequences) (gives (transaction_of ty.Int) (exp.Next m) st))) (h w s stands) ∙ ap (λ b. if_so b (gives (transaction_of ty.Int) (exp.Next n) st)) below ∙ ap (λ t. gives t (exp.Next n) st) (sym e) ∙ g st

pub cookie-made : (a : Around) (x : DeclName) (n : ℕ) (k : ColumnKind) → ((w : World) (s : Scope) → Stands a w s → declared w.globals (name_of x) w.globals.cookies ≡ Some n) → slice_get (map (λ c. c.1) a.world.now.cookie_kinds) n ≡ Some k →
    (w : World) (s : Scope) → Stands a w s → cookie_at w x ≡ Some (n, k)
cookie-made a x n k h g w s stands =
    ap (option_and_then (λ m. option_map (λ z. (m, z)) (slice_get w.declared.cookies m))) (h w s stands) ∙ ap (option_map (λ z. (n, z))) (ap (λ z. slice_get z.declared.cookies n) stands.world ∙ g)

pub get-made : (a : Around) (x : DeclName) (n : ℕ) (k : ColumnKind) (opt of : NormalType) (o : HeldOut) → ((w : World) (s : Scope) → Stands a w s → cookie_at w x ≡ Some (n, k)) → opt ≡ option_of (kind_type k) → of ≡ transaction_of opt →
    ((st : Sites) → gives of (exp.GetCookie n) st ≡ Some (out_with o st)) → (w : World) (s : Scope) (st : Sites) → Stands a w s → get_cookie_out w st x ≡ Some (out_with o st)
get-made a x n k opt of o h e f g w s st stands =
    ap (option_and_then (λ c. gives (transaction_of (option_of (kind_type c.1))) (exp.GetCookie c.0) st)) (h w s stands) ∙ ap (λ t. gives t (exp.GetCookie n) st) (sym (f ∙ ap transaction_of e)) ∙ g st

pub set-made : (n : ℕ) (k : ColumnKind) (value o : HeldOut) → o.of ≡ transaction_of unit → o.exp ≡ make.set_cookie n value.exp → (w : World) (x : DeclName) (before after : Sites) (a : Sites → Mode → Option Out) → cookie_at w x ≡ Some (n, k) →
    a before (wants (kind_type k)) ≡ Some (out_with value after) → set_cookie_out w before x a ≡ Some (out_with o after)
set-made n k value o e f w x before after a h g =
    ap (option_and_then (λ c. option_and_then (λ z. gives (transaction_of unit) (make.set_cookie c.0 z.exp) z.sites) (a before (wants (kind_type c.1))))) h
    ∙ ap (option_and_then (λ z. gives (transaction_of unit) (make.set_cookie n z.exp) z.sites)) g ∙ ap₂ (λ t y. gives t y after) (sym e) (sym f)

-- ---- what breaks their rules

pub breaks-next : (names : List (List ℕ)) (w : World) (s : Scope) (st : Sites) (m : Mode) (x : DeclName) (f : Fault) → IsUnknown w w.globals.sequences x f → Breaks names w s st (e.Nextval x) m f
breaks-next names w s st m x _ (not_there h) = no_sequence h

pub breaks-get : (names : List (List ℕ)) (w : World) (s : Scope) (st : Sites) (m : Mode) (x : DeclName) (f : Fault) → IsUnknown w w.globals.cookies x f → Breaks names w s st (e.GetCookie x) m f
breaks-get names w s st m x _ (not_there h) = no_cookie h

pub breaks-set : (names : List (List ℕ)) (w : World) (s : Scope) (st : Sites) (m : Mode) (x : DeclName) (p : Span) (y : ExpForm) (f : Fault) → IsUnknown w w.globals.cookies x f → Breaks names w s st (e.SetCookie' x tt (its p y alone)) m f
breaks-set names w s st m x p y _ (not_there h) = no_cookie_set h

-- ---- the record of `setCookie`

field-walked : (w : World) (s : Scope) (st : Sites) (m : Mode) (j k : Count) (fields : Row_of-Field j) (f : FieldName) (y : ExpForm) (rest : Row_of-Field k) → is_cookie_record fields ≡ true → FirstField j fields k f y rest → cookie_field_walk w fields s st m ≡ typed w y s st m
field-walked w s st m _ k _ f y rest h first_field = ap (λ z. if_so z (typed w y s st m)) h

-- the value in the record, as it is walked
pub value-walked : (w : World) (s : Scope) (st : Sites) (m : Mode) (p : Span) (x y : ExpForm) → IsCookieValue x y → cookie_walk w (its p x alone) s st m ≡ typed w y s st m
value-walked w s st m p _ y (value_there h there) = field-walked w s st m _ _ _ _ y _ h there

-- and as a part
pub value-stands : (w : World) (s : Scope) (st : Sites) (m : Mode) (c : DeclName) (k : ℕ × ColumnKind) (p : Span) (x y : ExpForm) → cookie_at w c ≡ Some k → IsCookieValue x y → Part w s st (e.SetCookie' c tt (its p x alone)) m s st y (wants (kind_type k.1))
value-stands w s st m c k p _ _ at (value_there h there) = cookie_value at there

false-right : (b : Bool) → (b && false) ≡ false
false-right true = refl
false-right false = refl

-- whether a list has just three elements that pass
abbrev pub three_pass : (Field → Field → Field → Bool) → List Field → Bool
three_pass test (f ∷ g ∷ h ∷ []) = test f g h
three_pass test _ = false

-- the record of these fields is that of `setCookie` exactly where the code finds its value
cookie-fields : (fs : List Field) → is_cookie_record (field_row fs).1 ≡ three_pass are_of_cookie fs
cookie-fields [] = refl
cookie-fields (f ∷ []) = false-right (is_literally f.name (codes "Value"))
cookie-fields (f ∷ g ∷ []) = false-right (is_literally f.name (codes "Value"))
cookie-fields (f ∷ g ∷ h ∷ []) = refl
cookie-fields (f ∷ g ∷ h ∷ k ∷ fs) = false-right (is_literally f.name (codes "Value"))

-- the fields of a record of which the code finds the value
cookie-there : (fs : List Field) (v : Written) → value_in fs ≡ Some v → IsCookieValue (e.Record' (field_row fs).0 (field_row fs).1) v.form
cookie-there [] v h = cc
cookie-there (f ∷ []) v h = cc
cookie-there (f ∷ g ∷ []) v h = cc
cookie-there (f ∷ g ∷ k ∷ []) v h =
    let both : (are_of_cookie f g k ≡ true) × (f.value ≡ v) = if-there (are_of_cookie f g k) f.value v h in subst (λ z. IsCookieValue (e.Record' (field_row (f ∷ g ∷ k ∷ [])).0 (field_row (f ∷ g ∷ k ∷ [])).1) z.form) both.1 (value_there both.0 first_field)
  where
    if-there : (b : Bool) (x y : Written) → if_so b (Some x) ≡ Some y → (b ≡ true) × (x ≡ y)
    if-there true x y i = (refl, some_of i)
    if-there false x y i = cc
cookie-there (f ∷ g ∷ k ∷ l ∷ fs) v h = cc

none-pass : (fs : List Field) → value_in fs ≡ None → three_pass are_of_cookie fs ≡ false
none-pass [] h = refl
none-pass (f ∷ []) h = refl
none-pass (f ∷ g ∷ []) h = refl
none-pass (f ∷ g ∷ k ∷ []) h = none-there (are_of_cookie f g k) f.value h
  where
    none-there : (b : Bool) (x : Written) → if_so b (Some x) ≡ None → b ≡ false
    none-there true x i = cc
    none-there false x i = refl
none-pass (f ∷ g ∷ k ∷ l ∷ fs) h = refl

pub value-found : (x : ExpForm) (fs : List Field) (v : Written) → x ≡ e.Record fs → value_in fs ≡ Some v → IsCookieValue x v.form
value-found x fs v is h = subst (λ z. IsCookieValue z v.form) (sym (is ∙ record-made fs)) (cookie-there fs v h)

abbrev pub TellsOfCookie : ExpForm → Refusal → Type 0
TellsOfCookie x r = (names : List (List ℕ)) (w : World) (s : Scope) (st : Sites) (m : Mode) (c : DeclName) (p : Span) → Refuses names (Breaks names w s st (e.SetCookie' c tt (its p x alone)) m) r

abbrev pub other_fields : Fault
other_fields = not_so (codes "a record") (codes "{Value = .., Expires = None, Secure = False}")

abbrev pub other_value : Fault
other_value = not_so (codes "a value") (codes "{Value = .., Expires = None, Secure = False}")

pub fields-told : (x : ExpForm) (fs : List Field) (s' : Stop) → x ≡ e.Record fs → value_in fs ≡ None → ((names : List (List ℕ)) → StopIs names other_fields s') → IfRefused {A = Unit {0}} (Err s') (TellsOfCookie x)
fields-told x fs (stop.Refused r) is h t = λ names w s st m c p.
    (other_fields, subst (λ z. Breaks names w s st (e.SetCookie' c tt (its p z alone)) m other_fields) (sym (is ∙ record-made fs)) (other_record_set (cookie-fields fs ∙ none-pass fs h)), t names)
fields-told x fs stop.Memory is h t = tt

pub no-record-told : (x : ExpForm) (s' : Stop) → is_record x ≡ false → ((names : List (List ℕ)) → StopIs names other_value s') → IfRefused {A = Unit {0}} (Err s') (TellsOfCookie x)
no-record-told x (stop.Refused r) h t = λ names w s st m c p. (other_value, no_record_set h, t names)
no-record-told x stop.Memory h t = tt
