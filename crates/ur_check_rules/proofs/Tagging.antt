-- Names with a capital: what they give, and what breaks their rules.
use Rattle.std.proofs.Common.{◌≡◌, refl, ap, ap₂, sym, ◌∙◌, subst, ℕ, Bool, true, false, List, Option, Some, None, Err}
use Rattle.std.specs.Prelude.{codes, option_map, option_and_then, slice_get, bytes_eq}
use Rattle.std.proofs.lemmas.Option.{slice_get-map}
use Rattle.std.proofs.lemmas.Slice.Eq.{bytes_eq-Decides}
use Rattle.ur_base.specs.Stopping.{IfRefused}
use Rattle.ur_base.specs.declared.refusal.Refusal.{Refusal}
use Rattle.ur_base.specs.declared.refusal.Stop.{Stop}
use Rattle.ur_base.specs.declared.refusal.Stop.TheVariants as stop
use Rattle.ur_syntax.specs.Names.{own, member, name_text, seen}
use Rattle.ur_syntax.specs.declared.exp.ExpForm.{ExpForm}
use Rattle.ur_syntax.specs.declared.exp.ExpForm.TheVariants as e
use Rattle.ur_rows.specs.declared.normal.NormalType.{NormalType}
use Rattle.ur_rows.specs.declared.normal.NormalType.TheVariants as ty
use Rattle.ur_rows.proofs.Shapes.{option-made, list-made}
use Rattle.ur_tree.specs.Text.{type_text}
use Rattle.ur_tree.specs.declared.exp.Exp.TheVariants as exp
use Rattle.ur_tree.specs.declared.exp.Exp.TheBlock as T
use Rattle.ur_tree.specs.declared.exp.Exp.TheBlock.{None'}
use Rattle.ur_tree.specs.declared.typed.Variant.{Variant}
use Rattle.ur_typed_rules.specs.Names.{declared}
use Rattle.ur_typed_rules.specs.Scopes.{World, Scope, Mode, finds, wants}
use Rattle.ur_typed_rules.specs.Faults.{Fault, TellsType, unknown, mismatch}
use Rattle.ur_typed_rules.specs.Rules.{if_so}
use Rattle.ur_typed.specs.Rules.{Sites, gives, plain_tag, tagged_out, is_option, is_list, absent_out, empty_out, Capital, says_true, says_false, says_none, says_other, chosen, capital_of, by_capital, constructor_out, if_other}
use Rattle.ur_typed.specs.Faults.{missing_argument, no_further, BreaksHead, unknown_head, unknown_member_head, word_head}
use Rattle.ur_typed.specs.Causes.{Breaks, Untyped, unannotated, absent_there, empty_there, no_constructor, no_member_constructor, lacks_argument, member_lacks_argument}
use Rattle.ur_check_scopes.specs.declared.around.Around.{Around}
use Rattle.ur_check_scopes.specs.declared.names.Key.{Key}
use Rattle.ur_check_scopes.specs.Views.{Stands, Refuses, StopIs, itself, names_in, key_in}
use Rattle.ur_check_rules.specs.declared.out.Out.{Out as HeldOut}
use Rattle.ur_check_rules.specs.Views.{out_with}
use Rattle.ur_check_rules.specs.Callees.{IsNoTag, no_tag, BreaksTag, undeclared, without_argument, MayBeTag, is_tag_form}
use Rattle.ur_check_rules.proofs.Naming.{declared-tags}

-- ---- words

pub is-word : (x y : List ℕ) → x ≡ y → bytes_eq x y ≡ true
is-word x y h = (bytes_eq-Decides x y).1 h

pub says-true : (x : List ℕ) → bytes_eq x (codes "True") ≡ true → says_true ≡ capital_of x
says-true x h = sym (ap (λ z. chosen z says_true (chosen (bytes_eq x (codes "False")) says_false (chosen (bytes_eq x (codes "None")) says_none says_other))) h)

pub says-false : (x : List ℕ) → bytes_eq x (codes "True") ≡ false → bytes_eq x (codes "False") ≡ true → says_false ≡ capital_of x
says-false x h k = sym (ap₂ (λ z y. chosen z says_true (chosen y says_false (chosen (bytes_eq x (codes "None")) says_none says_other))) h k)

pub says-none : (x : List ℕ) → bytes_eq x (codes "True") ≡ false → bytes_eq x (codes "False") ≡ false → bytes_eq x (codes "None") ≡ true → says_none ≡ capital_of x
says-none x h k l = sym (ap₂ (λ z y. chosen z says_true (chosen y says_false (chosen (bytes_eq x (codes "None")) says_none says_other))) h k ∙ ap (λ z. chosen z says_none says_other) l)

pub says-other : (x : List ℕ) → bytes_eq x (codes "True") ≡ false → bytes_eq x (codes "False") ≡ false → bytes_eq x (codes "None") ≡ false → says_other ≡ capital_of x
says-other x h k l = sym (ap₂ (λ z y. chosen z says_true (chosen y says_false (chosen (bytes_eq x (codes "None")) says_none says_other))) h k ∙ ap (λ z. chosen z says_none says_other) l)

none_third : (a b c : Bool) → chosen a says_true (chosen b says_false (chosen c says_none says_other)) ≡ says_none → c ≡ true
none_third true b c h = cc
none_third false true c h = cc
none_third false false true h = refl
none_third false false false h = cc

-- the word `None`
pub none-word : (x : List ℕ) → capital_of x ≡ says_none → x ≡ codes "None"
none-word x h = (bytes_eq-Decides x (codes "None")).0 (none_third (bytes_eq x (codes "True")) (bytes_eq x (codes "False")) (bytes_eq x (codes "None")) h)

-- ---- constructors of datatypes

pub number-made : (a : Around) (k : Key) (n : ℕ) → seen a.world.now.env.home (key_in k) (names_in itself a.world.now.constructors) ≡ Some n → (w : World) (s : Scope) → Stands a w s → declared w.globals (key_in k) w.globals.constructors ≡ Some n
number-made a k n e w s h = declared-tags a k w s h ∙ e

pub number-told : (a : Around) (k : Key) (s : Stop) (text : List ℕ) → seen a.world.now.env.home (key_in k) (names_in itself a.world.now.constructors) ≡ None → text ≡ name_text (key_in k).home (key_in k).name → ((names : List (List ℕ)) → StopIs names (unknown text) s) →
    IfRefused {A = Unit {0}} (Err s) (λ r. (w : World) (s : Scope) → Stands a w s → Refuses a.world.now.datatype_names (IsNoTag w (key_in k)) r)
number-told a k (stop.Refused r) text e is t = λ w s h. (unknown (name_text (key_in k).home (key_in k).name), no_tag (declared-tags a k w s h ∙ e), subst (λ z. TellsType a.world.now.datatype_names r (unknown z)) is (t a.world.now.datatype_names))
number-told a k stop.Memory text e is t = tt

pub tagged-made : (n : ℕ) → exp.Tagged n None ≡ exp.Tagged' n None'
unfolding T.hidden-the_row-Exp-0 denote.Hole.Carrier.hidden
tagged-made n = refl

pub plain-made : (d n : ℕ) (arg : Option NormalType) (o : HeldOut) → arg ≡ None → ((st : Sites) → gives (ty.Datatype d) (exp.Tagged n None) st ≡ Some (out_with o st)) → (st : Sites) → plain_tag d n st arg ≡ Some (out_with o st)
plain-made d n arg o e g st = ap (plain_tag d n st) e ∙ ap (λ z. gives (ty.Datatype d) z st) (sym (tagged-made n)) ∙ g st

pub plain-told : (arg : Option NormalType) (t : NormalType) (s : Stop) → arg ≡ Some t → ((names : List (List ℕ)) → StopIs names missing_argument s) → IfRefused {A = Unit {0}} (Err s) (λ r. (t : NormalType) × (arg ≡ Some t) × ((names : List (List ℕ)) → TellsType names r missing_argument))
plain-told arg t (stop.Refused r) e h = (t, e, h)
plain-told arg t stop.Memory e h = tt

pub variant-at : (a : Around) (n : ℕ) (v : Variant) → slice_get a.world.now.variants n ≡ Some v → (w : World) (s : Scope) → Stands a w s → slice_get w.declared.variants n ≡ Some (v.datatype, v.arg)
variant-at a n v e w s h = ap (λ z. slice_get z.declared.variants n) h.world ∙ slice_get-map (λ v. (v.datatype, v.arg)) a.world.now.variants n ∙ ap (option_map (λ v. (v.datatype, v.arg))) e

pub tagged-out : (a : Around) (k : Key) (n : ℕ) (v : Variant) (o : HeldOut) → ((w : World) (s : Scope) → Stands a w s → declared w.globals (key_in k) w.globals.constructors ≡ Some n) → slice_get a.world.now.variants n ≡ Some v → ((st : Sites) → plain_tag v.datatype n st v.arg ≡ Some (out_with o st)) →
    (w : World) (s : Scope) (st : Sites) → Stands a w s → option_and_then (tagged_out w st) (declared w.globals (key_in k) w.globals.constructors) ≡ Some (out_with o st)
tagged-out a k n v o named e g w s st h = ap (option_and_then (tagged_out w st)) (named w s h) ∙ ap (option_and_then (λ v. plain_tag v.0 n st v.1)) (variant-at a n v e w s h) ∙ g st

pub tagged-told : (a : Around) (k : Key) (n : ℕ) (v : Variant) → ((w : World) (s : Scope) → Stands a w s → declared w.globals (key_in k) w.globals.constructors ≡ Some n) → slice_get a.world.now.variants n ≡ Some v → (r : Refusal) →
    (t : NormalType) × (v.arg ≡ Some t) × ((names : List (List ℕ)) → TellsType names r missing_argument) → (w : World) (s : Scope) → Stands a w s → Refuses a.world.now.datatype_names (BreaksTag w (key_in k)) r
tagged-told a k n v named e r (t, is, tells) w s h = (missing_argument, without_argument (named w s h) (variant-at a n v e w s h ∙ ap (λ z. Some (v.datatype, z)) is), tells a.world.now.datatype_names)

-- ---- `None` and `[]`

pub is-option : (t u : NormalType) → t ≡ ty.Opt u → true ≡ is_option t
is-option t u e = sym (ap is_option (e ∙ option-made u))

pub is-list : (t u : NormalType) → t ≡ ty.Many u → true ≡ is_list t
is-list t u e = sym (ap is_list (e ∙ list-made u))

pub absent-made : (t of at : NormalType) (m : Mode) (o : HeldOut) → m ≡ wants t → is_option t ≡ true → of ≡ t → at ≡ t → ((st : Sites) → gives of (exp.Absent at) st ≡ Some (out_with o st)) → (st : Sites) → absent_out st m ≡ Some (out_with o st)
absent-made t of at m o i h e f g st = ap (absent_out st) i ∙ ap (λ z. if_so z (gives t (exp.Absent t) st)) h ∙ ap₂ (λ u v. gives u (exp.Absent v) st) (sym e) (sym f) ∙ g st

pub empty-made : (t of at : NormalType) (m : Mode) (o : HeldOut) → m ≡ wants t → is_list t ≡ true → of ≡ t → at ≡ t → ((st : Sites) → gives of (exp.Empty at) st ≡ Some (out_with o st)) → (st : Sites) → empty_out st m ≡ Some (out_with o st)
empty-made t of at m o i h e f g st = ap (empty_out st) i ∙ ap (λ z. if_so z (gives t (exp.Empty t) st)) h ∙ ap₂ (λ u v. gives u (exp.Empty v) st) (sym e) (sym f) ∙ g st

pub wanted-is : (names ms : List (List ℕ)) (u : NormalType) (found x : List ℕ) (s : Stop) → x ≡ type_text ms u → ms ≡ names → StopIs names (mismatch found x) s → StopIs names (mismatch found (type_text names u)) s
wanted-is names ms u found x s e m h = subst (λ z. StopIs names (mismatch found z) s) (e ∙ ap (λ z. type_text z u) m) h

abbrev pub BreaksAt : List (List ℕ) → ExpForm → Mode → Refusal → Type 0
BreaksAt names x m r = (w : World) (s : Scope) (st : Sites) → Refuses names (Breaks names w s st x m) r

pub no-annotation : (names : List (List ℕ)) (x : ExpForm) (text : List ℕ) (s : Stop) (m : Mode) → m ≡ finds → Untyped x text → ((names : List (List ℕ)) → StopIs names (mismatch text (codes "annotation")) s) → IfRefused {A = Unit {0}} (Err s) (BreaksAt names x m)
no-annotation names x text (stop.Refused r) m i u t = λ w s st. (mismatch text (codes "annotation"), subst (λ z. Breaks names w s st x z (mismatch text (codes "annotation"))) (sym i) (unannotated u), t names)
no-annotation names x text stop.Memory m i u t = tt

pub absent-told : (names : List (List ℕ)) (t : NormalType) (s : Stop) (m : Mode) → m ≡ wants t → is_option t ≡ false → StopIs names (mismatch (codes "option") (type_text names t)) s → IfRefused {A = Unit {0}} (Err s) (BreaksAt names (e.Constructor (codes "None")) m)
absent-told names t (stop.Refused r) m i h k = λ w s st. (mismatch (codes "option") (type_text names t), subst (λ z. Breaks names w s st (e.Constructor (codes "None")) z (mismatch (codes "option") (type_text names t))) (sym i) (absent_there h), k)
absent-told names t stop.Memory m i h k = tt

pub empty-told : (names : List (List ℕ)) (t : NormalType) (s : Stop) (m : Mode) → m ≡ wants t → is_list t ≡ false → StopIs names (mismatch (codes "list") (type_text names t)) s → IfRefused {A = Unit {0}} (Err s) (BreaksAt names e.Nil m)
empty-told names t (stop.Refused r) m i h k = λ w s st. (mismatch (codes "list") (type_text names t), subst (λ z. Breaks names w s st e.Nil z (mismatch (codes "list") (type_text names t))) (sym i) (empty_there h), k)
empty-told names t stop.Memory m i h k = tt

-- ---- a name with a capital

pub named-so : (x : List ℕ) (m : Mode) (c : Capital) (o : HeldOut) → capital_of x ≡ c → (w : World) (s : Scope) (st : Sites) → by_capital w st m (declared w.globals (own x) w.globals.constructors) c ≡ Some (out_with o st) → constructor_out w st m x ≡ Some (out_with o st)
named-so x m c o e w s st h = ap (by_capital w st m (declared w.globals (own x) w.globals.constructors)) e ∙ h

own-breaks : (names : List (List ℕ)) (w : World) (s : Scope) (st : Sites) (m : Mode) (x : List ℕ) (f : Fault) → capital_of x ≡ says_other → BreaksTag w (own x) f → Breaks names w s st (e.Constructor x) m f
own-breaks names w s st m x _ h (undeclared (no_tag k)) = no_constructor h k
own-breaks names w s st m x _ h (without_argument k l) = lacks_argument h k l

pub own-told : (names : List (List ℕ)) (w : World) (s : Scope) (st : Sites) (m : Mode) (x : List ℕ) (r : Refusal) → capital_of x ≡ says_other → Refuses names (BreaksTag w (own x)) r → Refuses names (Breaks names w s st (e.Constructor x) m) r
own-told names w s st m x r h (f, b, t) = (f, own-breaks names w s st m x f h b, t)

member-breaks : (names : List (List ℕ)) (w : World) (s : Scope) (st : Sites) (mode : Mode) (m x : List ℕ) (f : Fault) → BreaksTag w (member m x) f → Breaks names w s st (e.MemberConstructor m x) mode f
member-breaks names w s st mode m x _ (undeclared (no_tag k)) = no_member_constructor k
member-breaks names w s st mode m x _ (without_argument k l) = member_lacks_argument k l

pub member-told : (names : List (List ℕ)) (w : World) (s : Scope) (st : Sites) (mode : Mode) (m x : List ℕ) (r : Refusal) → Refuses names (BreaksTag w (member m x)) r → Refuses names (Breaks names w s st (e.MemberConstructor m x) mode) r
member-told names w s st mode m x r (f, b, t) = (f, member-breaks names w s st mode m x f b, t)

pub absent-named : (names : List (List ℕ)) (w : World) (s : Scope) (st : Sites) (m : Mode) (x : List ℕ) (r : Refusal) → capital_of x ≡ says_none → Refuses names (Breaks names w s st (e.Constructor (codes "None")) m) r → Refuses names (Breaks names w s st (e.Constructor x) m) r
absent-named names w s st m x r h t = (t.0, subst (λ z. Breaks names w s st (e.Constructor z) m t.0) (sym (none-word x h)) t.1, t.2)

-- ---- at the head of an application

pub not-tag-form : (x : ExpForm) → ((y : List ℕ) → x ≡ e.Constructor y → ⊥) → ((m y : List ℕ) → x ≡ e.MemberConstructor m y → ⊥) → is_tag_form x ≡ false
not-tag-form (e.Constructor y) h k = absurd (h y refl)
not-tag-form (e.MemberConstructor m y) h k = absurd (k m y refl)
not-tag-form _ h k = refl

pub own-tag : (a : Around) (x : List ℕ) (n : ℕ) → says_other ≡ capital_of x → ((w : World) (s : Scope) → Stands a w s → declared w.globals (own x) w.globals.constructors ≡ Some n) → (w : World) (s : Scope) → Stands a w s → MayBeTag w (e.Constructor x) (Some n)
own-tag a x n h k w s st = ap (λ c. if_other c (declared w.globals (own x) w.globals.constructors)) (sym h) ∙ k w s st

pub own-head : (names : List (List ℕ)) (w : World) (x : List ℕ) (r : Refusal) → says_other ≡ capital_of x → Refuses names (IsNoTag w (own x)) r → Refuses names (BreaksHead w (e.Constructor x)) r
own-head names w x r h (_, no_tag k, t) = (unknown x, unknown_head (sym h) k, t)

pub member-head : (names : List (List ℕ)) (w : World) (m x : List ℕ) (r : Refusal) → Refuses names (IsNoTag w (member m x)) r → Refuses names (BreaksHead w (e.MemberConstructor m x)) r
member-head names w m x r (_, no_tag k, t) = (unknown (name_text (Some m) x), unknown_member_head k, t)

abbrev pub not_other : Capital → Bool
not_other says_other = false
not_other _ = true

not-tag : (c : Capital) (n : Option ℕ) → not_other c ≡ true → if_other c n ≡ None
not-tag says_true n h = refl
not-tag says_false n h = refl
not-tag says_none n h = refl
not-tag says_other n h = cc

other-not : (c : Capital) → not_other c ≡ true → c ≡ says_other → ⊥
other-not says_true h k = cc
other-not says_false h k = cc
other-not says_none h k = cc
other-not says_other h k = cc

pub word-told : (a : Around) (x : List ℕ) (c : Capital) (s : Stop) → c ≡ capital_of x → not_other c ≡ true → ((names : List (List ℕ)) → StopIs names no_further s) →
    IfRefused {A = Unit {0}} (Err s) (λ r. (w : World) (s : Scope) → Stands a w s → Refuses a.world.now.datatype_names (BreaksHead w (e.Constructor x)) r)
word-told a x c (stop.Refused r) e h t =
    λ w s st. (no_further, word_head (ap (λ z. if_other z (declared w.globals (own x) w.globals.constructors)) (sym e) ∙ not-tag c (declared w.globals (own x) w.globals.constructors) h) (λ k. other-not c h (e ∙ k)), t a.world.now.datatype_names)
word-told a x c stop.Memory e h t = tt
