-- Names, constructors and applications: where the walk has no answer there is a fault.
use Rattle.std.proofs.Common.{inl, inr, ◌≡◌, ◌∙◌, refl, sym, ap, ap₂, subst, Bool, true, false, true≢false, Option, Some, None, List, [], ◌∷◌, ℕ}
use Rattle.std.specs.Prelude.{◌&&◌, ◌++◌, nat_le, nat_lt, option_map, option_and_then, slice_get, codes}
use Rattle.ur_base.specs.declared.refusal.Span.{Span}
use Rattle.ur_syntax.specs.Names.{own, member as of_module}
use Rattle.ur_syntax.specs.declared.con.Con.{Con}
use Rattle.ur_syntax.specs.declared.con.ConName.{ConName}
use Rattle.ur_syntax.specs.declared.sql.DeclName.{DeclName}
use Rattle.ur_syntax.specs.declared.exp.ExpForm.{ExpForm, end_of-Exp as alone, more_of-Exp as its}
use Rattle.ur_syntax.specs.declared.exp.ExpForm.TheVariants as e
use Rattle.ur_values.specs.declared.schema.ColumnKind.{ColumnKind}
use Rattle.ur_rows.specs.declared.normal.Normal.{Normal}
use Rattle.ur_rows.specs.declared.normal.NormalType.{NormalType}
use Rattle.ur_rows.specs.declared.normal.NormalType.TheVariants as ty
use Rattle.ur_rows.specs.Nodes.{nodes, type_nodes}
use Rattle.ur_rows.specs.Normal.{nf}
use Rattle.ur_rows.specs.Put.{instance_type}
use Rattle.ur_rows.specs.Types.{transaction_of, option_of}
use Rattle.ur_tree.specs.Scalars.{kind_type}
use Rattle.ur_tree.specs.declared.exp.Exp.TheVariants as exp
use Rattle.ur_tree.specs.Make as make
use Rattle.ur_tree.specs.Heads.{Head, function_type}
use Rattle.ur_tree.specs.Typing.{parameters, keeps_arrows, are_static_at}
use Rattle.ur_typed_rules.specs.Names.{Declared as DeclaredAs, function, val, declared, local_at, name_of}
use Rattle.ur_typed_rules.specs.Scopes.{World, Scope, Mode, finds, wants}
use Rattle.ur_typed_rules.specs.Tests.{are_arguments}
use Rattle.ur_typed.specs.Resolves.{is_head}
use Rattle.ur_typed.specs.Rules.{Sites, Out, Args, gives, local_or, declared_out, function_out, function_at, function_named, as_function_number, if_unbound, without_arguments, with_argument, plain_tag, tagged_out, is_option, absent_out, Capital, says_true, says_false, says_none, says_other, capital_of, by_capital, if_other, tag_named, args_out, with_first, call_out, build_out, with_type, built, applied_out, by_head, cookie_at}
use Rattle.ur_typed.specs.Walking.{typed, spine}
use Rattle.ur_typed.specs.Parts.{InArgs, this_arg, later_arg, arg_types, InCall, of_named, of_built, of_head, of_applied, is_applied, InSpine, further, at_head}
use Rattle.ur_typed.specs.Faults.{TooMany, no_type_left, many_behind, TooFew, no_argument_left, few_behind, BreaksNamed, BreaksApplied, BreaksHead, BreaksSpine, breaks_further, no_head, breaks_at_head, walks, given_to}
use Rattle.ur_typed.specs.Causes
use Rattle.ur_typed_faults.specs.Converse.{IsWorld, IsFaulty, Explained}
use Rattle.ur_typed.proofs.Parts.{spine_at_head}
use Rattle.ur_typed_faults.proofs.Converse.{here_faulty, part_faulty, explained_by}
use Rattle.ur_typed_rules.specs.Faults.{Fault}
use Rattle.ur_typed_rules.specs.Arguments.{BreaksGiven}
use Rattle.ur_typed_rules.specs.Rules.{if_so}
use Rattle.ur_typed_rules.proofs.Options.{opened, opened_if, mapped, some_of, both_false, some_none, then_none_is, if_none_is, map_none_is}
use Rattle.ur_typed_rules.proofs.Written.{given_broken}
use Rattle.ur_typed.proofs.Shapes.{none_word}
use Rattle.ur_typed.specs.Parts
use Rattle.ur_typed.specs.Faults

-- ---- named functions

number_is : (k : DeclaredAs) (n : ℕ) → as_function_number k ≡ Some n → k ≡ function n
number_is (function m) n h = ap (λ z. function z) (some_of h)
number_is (val m) n h = cc

declared_head : (w : World) → IsWorld w → (x : ConName) (n : ℕ) → option_and_then as_function_number (declared w.globals x w.globals.values) ≡ Some n → (h : Head) × (slice_get w.declared.functions n ≡ Some h)
declared_head w i x n h =
    let v : (k : DeclaredAs) × (declared w.globals x w.globals.values ≡ Some k) × (as_function_number k ≡ Some n) = opened _ _ n h in
    i.functions x n (v.1 ∙ ap (λ z. Some z) (number_is v.0 n v.2))

unbound_number : (l : Option (Bool × ℕ)) (o : Option ℕ) (n : ℕ) → if_unbound l o ≡ Some n → o ≡ Some n
unbound_number None o n h = h
unbound_number (Some i) o n h = cc

name_head : (w : World) → IsWorld w → (x : ConName) (l : Option (Bool × ℕ)) (f : ℕ × List Normal) → option_map without_arguments (if_unbound l (option_and_then as_function_number (declared w.globals x w.globals.values))) ≡ Some f → (h : Head) × (slice_get w.declared.functions f.0 ≡ Some h)
name_head w i x l f h =
    let c : (n : ℕ) × (if_unbound l (option_and_then as_function_number (declared w.globals x w.globals.values)) ≡ Some n) × (without_arguments n ≡ f) = mapped _ _ f h in
    subst (λ (z : ℕ × List Normal). (h : Head) × (slice_get w.declared.functions z.0 ≡ Some h)) c.2 (declared_head w i x c.0 (unbound_number l (option_and_then as_function_number (declared w.globals x w.globals.values)) c.0 c.1))

-- the function that an expression names is declared
head_of : (w : World) → IsWorld w → (s : Scope) (x : ExpForm) (f : ℕ × List Normal) → function_at w s x ≡ Some f → (h : Head) × (slice_get w.declared.functions f.0 ≡ Some h)
head_of w i s (e.Var x) f h = name_head w i (own x) (local_at x s.names.locals) f h
head_of w i s (e.Member m x) f h = name_head w i (of_module m x) None f h
head_of w i s (e.ConApp' _ (its p x alone) c) f h =
    let q : (g : ℕ × List Normal) × (function_at w s x ≡ Some g) × (with_argument w s c g ≡ Some f) = opened _ _ f h in
    let r : (nat_le (nodes (nf s.names.cons c)) w.most ≡ true) × (Some (q.0.0, q.0.1 ++ nf s.names.cons c ∷ []) ≡ Some f) = opened_if (nat_le (nodes (nf s.names.cons c)) w.most) (Some (q.0.0, q.0.1 ++ nf s.names.cons c ∷ [])) f q.2 in
    subst (λ (z : ℕ × List Normal). (h : Head) × (slice_get w.declared.functions z.0 ≡ Some h)) (some_of r.1) (head_of w i s x q.0 q.1)
head_of w i s _ f h = cc

abbrev instance_of : Scope → Sites → ℕ × List Normal → Head → Option Out
instance_of s st f h = if_so (are_arguments s.env h.cons f.1 && keeps_arrows f.1 h.params) (gives (instance_type f.1 (function_type h)) (exp.Function f.0 f.1) st)

instance_faulty : (names : List (List ℕ)) (w : World) → IsWorld w → (s : Scope) (st : Sites) (m : Mode) (x : ExpForm) (f : ℕ × List Normal) → function_at w s x ≡ Some f → function_out w s st f ≡ None → IsFaulty names w s st x m
instance_faulty names w i s st m x f ef g = elim (then_none_is (instance_of s st f) (slice_get w.declared.functions f.0) g) [
  | inl n ↦ let h : (h : Head) × (slice_get w.declared.functions f.0 ≡ Some h) = head_of w i s x f ef in absurd (some_none (sym h.1 ∙ n))
  | inr r ↦ elim (if_none_is (are_arguments s.env r.0.cons f.1 && keeps_arrows f.1 r.0.params) (gives (instance_type f.1 (function_type r.0)) (exp.Function f.0 f.1) st) r.2) [
    | inl a ↦ elim (both_false (are_arguments s.env r.0.cons f.1) (keeps_arrows f.1 r.0.params) a) [
      | inl b ↦ let c : (c : Fault) × BreaksGiven s.env (given_to x) f.1 r.0.cons c = given_broken s.env (given_to x) f.1 r.0.cons b in here_faulty c.0 (Causes.bad_instance ef r.1 c.1)
      | inr k ↦ here_faulty _ (Causes.loses_arrow ef r.1 k)
    ]
    | inr z ↦ absurd (some_none z)
  ]
]

-- ---- names

abbrev val_of : ℕ → Sites → NormalType → Option Out
val_of v st t = gives t (exp.Val v) st

declared_faulty : (names : List (List ℕ)) (w : World) → IsWorld w → (s : Scope) (st : Sites) (m : Mode) (x : ExpForm) (c : ConName) (k : DeclaredAs) → ((f : ℕ) → k ≡ function f → function_at w s x ≡ Some (f, [])) → declared w.globals c w.globals.values ≡ Some k → declared_out w s st k ≡ None → IsFaulty names w s st x m
declared_faulty names w i s st m x c (function f) named ek h = instance_faulty names w i s st m x (f, []) (named f refl) h
declared_faulty names w i s st m x c (val v) named ek h = elim (then_none_is (val_of v st) (slice_get w.declared.vals v) h) [
  | inl n ↦ let t : (t : NormalType) × (slice_get w.declared.vals v ≡ Some t) = i.vals c v ek in absurd (some_none (sym t.1 ∙ n))
  | inr z ↦ absurd (some_none z.2)
]

var_by : (names : List (List ℕ)) (w : World) → IsWorld w → (s : Scope) (st : Sites) (m : Mode) (x : List ℕ) (l : Option (Bool × ℕ)) → local_at x s.names.locals ≡ l → local_or w s st x l ≡ None → IsFaulty names w s st (e.Var x) m
var_by names w i s st m x (Some j) el h = here_faulty _ (Causes.outside el h)
var_by names w i s st m x None el h = elim (then_none_is (declared_out w s st) (declared w.globals (own x) w.globals.values) h) [
  | inl n ↦ here_faulty _ (Causes.no_name el n)
  | inr d ↦ declared_faulty names w i s st m (e.Var x) (own x) d.0 (λ f ef. ap (option_map without_arguments) (ap₂ if_unbound el (ap (option_and_then as_function_number) (d.1 ∙ ap (λ z. Some z) ef)))) d.1 d.2
]

pub var_explained : (names : List (List ℕ)) (w : World) → IsWorld w → (x : List ℕ) → Explained names w (e.Var x)
var_explained names w i x = explained_by names w (e.Var x) (λ s st m h. var_by names w i s st m x (local_at x s.names.locals) refl h)

pub member_explained : (names : List (List ℕ)) (w : World) → IsWorld w → (m x : List ℕ) → Explained names w (e.Member m x)
member_explained names w i j x = explained_by names w (e.Member j x) (λ s st m h. elim (then_none_is (declared_out w s st) (declared w.globals (of_module j x) w.globals.values) h) [
  | inl n ↦ here_faulty _ (Causes.no_member n)
  | inr d ↦ declared_faulty names w i s st m (e.Member j x) (of_module j x) d.0 (λ f ef. ap (option_map without_arguments) (ap (option_and_then as_function_number) (d.1 ∙ ap (λ z. Some z) ef))) d.1 d.2
])

-- a name with constructor arguments

named_unbound : (w : World) (s : Scope) (x : List ℕ) (l : Option (Bool × ℕ)) → local_at x s.names.locals ≡ l → if_unbound l (option_and_then as_function_number (declared w.globals (own x) w.globals.values)) ≡ None → (c : Fault) × BreaksNamed w s (e.Var x) c
named_unbound w s x (Some i) el h = (_, Faults.names_local el)
named_unbound w s x None el h = elim (then_none_is as_function_number (declared w.globals (own x) w.globals.values) h) [
  | inl n ↦ (_, Faults.unknown_name el n)
  | inr d ↦ by_declared d.0 d.1 d.2
] where
  by_declared : (k : DeclaredAs) → declared w.globals (own x) w.globals.values ≡ Some k → as_function_number k ≡ None → (c : Fault) × BreaksNamed w s (e.Var x) c
  by_declared (function f) ek g = absurd (some_none g)
  by_declared (val v) ek g = (_, Faults.names_val ek)

named_member : (w : World) (s : Scope) (j x : List ℕ) → option_and_then as_function_number (declared w.globals (of_module j x) w.globals.values) ≡ None → (c : Fault) × BreaksNamed w s (e.Member j x) c
named_member w s j x h = elim (then_none_is as_function_number (declared w.globals (of_module j x) w.globals.values) h) [
  | inl n ↦ (_, Faults.unknown_member n)
  | inr d ↦ by_declared d.0 d.1 d.2
] where
  by_declared : (k : DeclaredAs) → declared w.globals (of_module j x) w.globals.values ≡ Some k → as_function_number k ≡ None → (c : Fault) × BreaksNamed w s (e.Member j x) c
  by_declared (function f) ek g = absurd (some_none g)
  by_declared (val v) ek g = (_, Faults.member_val ek)

named_faulty : (w : World) (s : Scope) (x : ExpForm) → function_at w s x ≡ None → (c : Fault) × BreaksNamed w s x c
named_faulty w s (e.Var x) h = named_unbound w s x (local_at x s.names.locals) refl (map_none_is without_arguments (function_named w s (e.Var x)) h)
named_faulty w s (e.Member j x) h = named_member w s j x (map_none_is without_arguments (function_named w s (e.Member j x)) h)
named_faulty w s (e.ConApp' _ (its p x alone) c) h = elim (then_none_is (with_argument w s c) (function_at w s x) h) [
  | inl n ↦ let r : (c : Fault) × BreaksNamed w s x c = named_faulty w s x n in (r.0, Faults.named_within r.1)
  | inr f ↦ elim (if_none_is (nat_le (nodes (nf s.names.cons c)) w.most) (Some (f.0.0, f.0.1 ++ nf s.names.cons c ∷ [])) f.2) [ inl a ↦ (_, Faults.large_argument f.1 a) | inr z ↦ absurd (some_none z) ]
]
named_faulty w s _ h = (_, Faults.no_name_there refl refl)

pub instance_explained : (names : List (List ℕ)) (w : World) → IsWorld w → (p : Span) (x : ExpForm) (c : Con) → Explained names w (e.ConApp' tt (its p x alone) c)
instance_explained names w i p x c = explained_by names w (e.ConApp' tt (its p x alone) c) (λ s st m h. elim (then_none_is (function_out w s st) (function_at w s (e.ConApp' tt (its p x alone) c)) h) [
  | inl n ↦ let r : (d : Fault) × BreaksNamed w s (e.ConApp' tt (its p x alone) c) d = named_faulty w s (e.ConApp' tt (its p x alone) c) n in here_faulty r.0 (Causes.bad_name r.1)
  | inr f ↦ instance_faulty names w i s st m (e.ConApp' tt (its p x alone) c) f.0 f.1 f.2
])

-- ---- constructors of datatypes

plain_lacks : (n : ℕ) (st : Sites) (v : ℕ × Option NormalType) → plain_tag v.0 n st v.1 ≡ None → (k : ℕ) × (t : NormalType) × (v ≡ (k, Some t))
plain_lacks n st (k, None) h = absurd (some_none h)
plain_lacks n st (k, Some t) h = (k, t, refl)

-- a constructor that stands without its argument
tagged_lacks : (w : World) → IsWorld w → (c : ConName) (n : ℕ) (st : Sites) → declared w.globals c w.globals.constructors ≡ Some n → tagged_out w st n ≡ None → (k : ℕ) × (t : NormalType) × (slice_get w.declared.variants n ≡ Some (k, Some t))
tagged_lacks w i c n st ed h = elim (then_none_is (λ v. plain_tag v.0 n st v.1) (slice_get w.declared.variants n) h) [
  | inl z ↦ let v : (v : ℕ × Option NormalType) × (slice_get w.declared.variants n ≡ Some v) = i.constructors c n ed in absurd (some_none (sym v.1 ∙ z))
  | inr v ↦ let l : (k : ℕ) × (t : NormalType) × (v.0 ≡ (k, Some t)) = plain_lacks n st v.0 v.2 in (l.0, l.1, v.1 ∙ ap (λ z. Some z) l.2)
]

absent_faulty : (names : List (List ℕ)) (w : World) (s : Scope) (st : Sites) (m : Mode) → absent_out st m ≡ None → IsFaulty names w s st (e.Constructor (codes "None")) m
absent_faulty names w s st finds h = here_faulty _ (Causes.unannotated Causes.none)
absent_faulty names w s st (wants t) h = elim (if_none_is (is_option t) (gives t (exp.Absent t) st) h) [ inl a ↦ here_faulty _ (Causes.absent_there a) | inr n ↦ absurd (some_none n) ]

by_word : (names : List (List ℕ)) (w : World) → IsWorld w → (x : List ℕ) (s : Scope) (st : Sites) (m : Mode) (k : Capital) → capital_of x ≡ k → by_capital w st m (declared w.globals (own x) w.globals.constructors) k ≡ None → IsFaulty names w s st (e.Constructor x) m
by_word names w i x s st m says_true ek h = absurd (some_none h)
by_word names w i x s st m says_false ek h = absurd (some_none h)
by_word names w i x s st m says_none ek h = subst (λ z. IsFaulty names w s st (e.Constructor z) m) (sym (none_word x ek)) (absent_faulty names w s st m h)
by_word names w i x s st m says_other ek h = elim (then_none_is (tagged_out w st) (declared w.globals (own x) w.globals.constructors) h) [
  | inl n ↦ here_faulty _ (Causes.no_constructor ek n)
  | inr d ↦ let l : (k : ℕ) × (t : NormalType) × (slice_get w.declared.variants d.0 ≡ Some (k, Some t)) = tagged_lacks w i (own x) d.0 st d.1 d.2 in here_faulty _ (Causes.lacks_argument ek d.1 l.2)
]

pub constructor_explained : (names : List (List ℕ)) (w : World) → IsWorld w → (x : List ℕ) → Explained names w (e.Constructor x)
constructor_explained names w i x = explained_by names w (e.Constructor x) (λ s st m h. by_word names w i x s st m (capital_of x) refl h)

pub member_constructor_explained : (names : List (List ℕ)) (w : World) → IsWorld w → (j x : List ℕ) → Explained names w (e.MemberConstructor j x)
member_constructor_explained names w i j x = explained_by names w (e.MemberConstructor j x) (λ s st m h. elim (then_none_is (tagged_out w st) (declared w.globals (of_module j x) w.globals.constructors) h) [
  | inl n ↦ here_faulty _ (Causes.no_member_constructor n)
  | inr d ↦ let l : (k : ℕ) × (t : NormalType) × (slice_get w.declared.variants d.0 ≡ Some (k, Some t)) = tagged_lacks w i (of_module j x) d.0 st d.1 d.2 in here_faulty _ (Causes.member_lacks_argument d.1 l.2)
])

-- ---- sequences and cookies

pub next_explained : (names : List (List ℕ)) (w : World) → IsWorld w → (x : DeclName) → Explained names w (e.Nextval x)
next_explained names w i x = explained_by names w (e.Nextval x) (λ s st m h. elim (then_none_is (λ n. if_so (nat_lt n w.declared.sequences) (gives (transaction_of ty.Int) (exp.Next n) st)) (declared w.globals (name_of x) w.globals.sequences) h) [
  | inl n ↦ here_faulty _ (Causes.no_sequence n)
  | inr d ↦ elim (if_none_is (nat_lt d.0 w.declared.sequences) (gives (transaction_of ty.Int) (exp.Next d.0) st) d.2) [ inl a ↦ absurd (true≢false (sym (i.sequences (name_of x) d.0 d.1) ∙ a)) | inr z ↦ absurd (some_none z) ]
])

abbrev with_kind : ℕ → ColumnKind → ℕ × ColumnKind
with_kind n k = (n, k)

-- a cookie that is not there is not declared
pub cookie_unknown : (w : World) → IsWorld w → (x : DeclName) → cookie_at w x ≡ None → declared w.globals (name_of x) w.globals.cookies ≡ None
cookie_unknown w i x h = elim (then_none_is (λ n. option_map (with_kind n) (slice_get w.declared.cookies n)) (declared w.globals (name_of x) w.globals.cookies) h) [
  | inl n ↦ n
  | inr d ↦ let k : (k : ColumnKind) × (slice_get w.declared.cookies d.0 ≡ Some k) = i.cookies (name_of x) d.0 d.1 in absurd (some_none (sym k.1 ∙ map_none_is (with_kind d.0) (slice_get w.declared.cookies d.0) d.2))
]

pub get_cookie_explained : (names : List (List ℕ)) (w : World) → IsWorld w → (x : DeclName) → Explained names w (e.GetCookie x)
get_cookie_explained names w i x = explained_by names w (e.GetCookie x) (λ s st m h. elim (then_none_is (λ c. gives (transaction_of (option_of (kind_type c.1))) (exp.GetCookie c.0) st) (cookie_at w x) h) [
  | inl n ↦ here_faulty _ (Causes.no_cookie (cookie_unknown w i x n))
  | inr z ↦ absurd (some_none z.2)
])

-- ---- arguments

abbrev pub AllExplained : List (List ℕ) → World → List ExpForm → Type 0
AllExplained names w [] = Unit {0}
AllExplained names w (x ∷ xs) = Explained names w x × AllExplained names w xs

pub data ArgsFault (names : List (List ℕ)) (w : World) (s : Scope) : List ExpForm → List NormalType → Sites → Type 0 where
  many : {ys : List ExpForm} {ts : List NormalType} {st : Sites} → TooMany (walks w ys) ts → ArgsFault names w s ys ts st
  few : {ys : List ExpForm} {ts : List NormalType} {st : Sites} → TooFew (walks w ys) ts → ArgsFault names w s ys ts st
  arg : {ys : List ExpForm} {ts : List NormalType} {st su : Sites} {y : ExpForm} {m : Mode} → InArgs w s ys ts st su y m → IsFaulty names w s su y m → ArgsFault names w s ys ts st

args_behind : (names : List (List ℕ)) (w : World) (s : Scope) (y : ExpForm) (ys : List ExpForm) (t : NormalType) (ts : List NormalType) (st : Sites) (o : Out) → typed w y s st (wants t) ≡ Some o → ArgsFault names w s ys ts o.sites → ArgsFault names w s (y ∷ ys) (t ∷ ts) st
args_behind names w s y ys t ts st o eo (many r) = many (many_behind r)
args_behind names w s y ys t ts st o eo (few r) = few (few_behind r)
args_behind names w s y ys t ts st o eo (arg r f) = arg (later_arg eo r) f

abbrev behind_arg : World → Scope → List ExpForm → List NormalType → Out → Option (Args × Sites)
behind_arg w s ys ts o = option_map (with_first o.exp) (args_out s (walks w ys) ts o.sites)

pub args_explained : (names : List (List ℕ)) (w : World) (s : Scope) (ys : List ExpForm) (ts : List NormalType) → AllExplained names w ys → (st : Sites) → args_out s (walks w ys) ts st ≡ None → ArgsFault names w s ys ts st
args_explained names w s [] [] k st h = absurd (some_none h)
args_explained names w s [] (t ∷ ts) k st h = few no_argument_left
args_explained names w s (y ∷ ys) [] k st h = many no_type_left
args_explained names w s (y ∷ ys) (t ∷ ts) k st h = elim (then_none_is (behind_arg w s ys ts) (typed w y s st (wants t)) h) [
  | inl n ↦ arg this_arg (k.0 s st (wants t) n)
  | inr o ↦ args_behind names w s y ys t ts st o.0 o.1 (args_explained names w s ys ts k.1 o.0.sites (map_none_is (with_first o.0.exp) (args_out s (walks w ys) ts o.0.sites) o.2))
]

-- ---- applications

-- an argument or the head is faulty, or the application breaks its rule
pub data SpineFault (names : List (List ℕ)) (w : World) (s : Scope) (x : ExpForm) (ys : List ExpForm) (st : Sites) : Type 0 where
  part_of : {su : Sites} {y : ExpForm} {m : Mode} → InSpine w s x ys st su y m → IsFaulty names w s su y m → SpineFault names w s x ys st
  breaks : {f : Fault} → BreaksSpine names w s st x ys f → SpineFault names w s x ys st

abbrev pub SpineIsExplained : List (List ℕ) → World → ExpForm → Type 0
SpineIsExplained names w x = (s : Scope) (st : Sites) (y : ExpForm) (ys : List ExpForm) → AllExplained names w (y ∷ ys) → spine w x s st (typed w x) (walks w (y ∷ ys)) ≡ None → SpineFault names w s x (y ∷ ys) st

-- where what is applied is none of applications itself
data HeadFault (names : List (List ℕ)) (w : World) (s : Scope) (x : ExpForm) (ys : List ExpForm) (st : Sites) : Type 0 where
  call_part : {su : Sites} {y : ExpForm} {m : Mode} → InCall w s x ys st su y m → IsFaulty names w s su y m → HeadFault names w s x ys st
  breaks_head : {f : Fault} → BreaksHead w x f → HeadFault names w s x ys st
  breaks_call : {f : Fault} → BreaksApplied names w s st x ys f → HeadFault names w s x ys st

spine_fault : (names : List (List ℕ)) (w : World) (s : Scope) (x : ExpForm) (ys : List ExpForm) (st : Sites) → is_applied x ≡ false → HeadFault names w s x ys st → SpineFault names w s x ys st
spine_fault names w s x ys st a (call_part r f) = part_of (at_head a r) f
spine_fault names w s x ys st a (breaks_head b) = breaks (no_head a b)
spine_fault names w s x ys st a (breaks_call b) = breaks (breaks_at_head a b)

named_args : (names : List (List ℕ)) (w : World) (s : Scope) (x : ExpForm) (ys : List ExpForm) (st : Sites) (f : ℕ × List Normal) (h : Head) → function_at w s x ≡ Some f → slice_get w.declared.functions f.0 ≡ Some h → ArgsFault names w s ys (arg_types f h) st → HeadFault names w s x ys st
named_args names w s x ys st f h ef eh (many r) = breaks_call (Faults.too_many ef eh r)
named_args names w s x ys st f h ef eh (few r) = breaks_call (Faults.too_few ef eh r)
named_args names w s x ys st f h ef eh (arg r g) = call_part (of_named ef eh r) g

applied_args : (names : List (List ℕ)) (w : World) (s : Scope) (x : ExpForm) (ys : List ExpForm) (st : Sites) (o : Out) → function_at w s x ≡ None → tag_named w x ≡ None → typed w x s st finds ≡ Some o → ArgsFault names w s ys (parameters o.of).0 o.sites → HeadFault names w s x ys st
applied_args names w s x ys st o ef en eo (many r) = breaks_call (Faults.too_many_there ef en eo r)
applied_args names w s x ys st o ef en eo (few r) = breaks_call (Faults.too_few_there ef en eo r)
applied_args names w s x ys st o ef en eo (arg r g) = call_part (of_applied ef en eo r) g

abbrev called_as : ℕ × List Normal → Head → Args × Sites → Option Out
called_as f h r = gives (instance_type f.1 h.result) (make.apply (exp.Function f.0 f.1) r.0.0 r.0.1) r.1

abbrev calling : World → Scope → Sites → List ExpForm → ℕ × List Normal → Head → Option Out
calling w s st ys f h = option_and_then (λ r. if_so (are_static_at h.params r.0.1) (called_as f h r)) (args_out s (walks w ys) (arg_types f h) st)

call_explained : (names : List (List ℕ)) (w : World) (s : Scope) (x : ExpForm) (ys : List ExpForm) (st : Sites) (f : ℕ × List Normal) (h : Head) → AllExplained names w ys → function_at w s x ≡ Some f → slice_get w.declared.functions f.0 ≡ Some h → call_out w s st (walks w ys) f h ≡ None → HeadFault names w s x ys st
call_explained names w s x ys st f h k ef eh g =
    elim (if_none_is (are_arguments s.env h.cons f.1 && nat_le (type_nodes (instance_type f.1 (function_type h))) w.most) (calling w s st ys f h) g) [
      | inl a ↦ elim (both_false (are_arguments s.env h.cons f.1) (nat_le (type_nodes (instance_type f.1 (function_type h))) w.most) a) [
        | inl b ↦ let c : (c : Fault) × BreaksGiven s.env (given_to x) f.1 h.cons c = given_broken s.env (given_to x) f.1 h.cons b in breaks_call (Faults.bad_call ef eh c.1)
        | inr b ↦ breaks_call (Faults.large_call ef eh b)
      ]
      | inr c ↦ elim (then_none_is (λ r. if_so (are_static_at h.params r.0.1) (called_as f h r)) (args_out s (walks w ys) (arg_types f h) st) c) [
        | inl n ↦ named_args names w s x ys st f h ef eh (args_explained names w s ys (arg_types f h) k st n)
        | inr r ↦ elim (if_none_is (are_static_at h.params r.0.0.1) (called_as f h r.0) r.2) [ inl b ↦ breaks_call (Faults.moves_in ef eh r.1 b) | inr z ↦ absurd (some_none z) ]
      ]
    ]

no_type : (v : ℕ × Option NormalType) → with_type v ≡ None → (k : ℕ) × (v ≡ (k, None))
no_type (k, None) h = (k, refl)
no_type (k, Some t) h = absurd (some_none h)

typed_variant : (v : ℕ × Option NormalType) (u : ℕ × NormalType) → with_type v ≡ Some u → v ≡ (u.0, Some u.1)
typed_variant (k, None) u h = cc
typed_variant (k, Some t) u h = ap (λ (z : ℕ × NormalType). (z.0, Some z.1)) (some_of h)

abbrev building : Scope → Sites → ℕ → World → ExpForm → ℕ × NormalType → Option Out
building s st n w y v = build_out s st n (typed w y) v

build_explained : (names : List (List ℕ)) (w : World) → IsWorld w → (s : Scope) (x y : ExpForm) (ys : List ExpForm) (st : Sites) (n : ℕ) (c : ConName) → AllExplained names w (y ∷ ys) → function_at w s x ≡ None → tag_named w x ≡ Some n → declared w.globals c w.globals.constructors ≡ Some n → built w s st (walks w (y ∷ ys)) n ≡ None →
    HeadFault names w s x (y ∷ ys) st
build_explained names w i s x y (z ∷ ys) st n c k ef en ed h = breaks_call (Faults.takes_one ef en)
build_explained names w i s x y [] st n c k ef en ed h = elim (then_none_is (building s st n w y) (option_and_then with_type (slice_get w.declared.variants n)) h) [
  | inl u ↦ elim (then_none_is with_type (slice_get w.declared.variants n) u) [
    | inl z ↦ let v : (v : ℕ × Option NormalType) × (slice_get w.declared.variants n ≡ Some v) = i.constructors c n ed in absurd (some_none (sym v.1 ∙ z))
    | inr v ↦ let l : (k : ℕ) × (v.0 ≡ (k, None)) = no_type v.0 v.2 in breaks_call (Faults.takes_none ef en (v.1 ∙ ap (λ z. Some z) l.1))
  ]
  | inr u ↦
      let v : (t : ℕ × Option NormalType) × (slice_get w.declared.variants n ≡ Some t) × (with_type t ≡ Some u.0) = opened _ _ u.0 u.1 in
      elim (then_none_is _ (typed w y s st (wants u.0.1)) u.2) [
        | inl z ↦ call_part (of_built ef en (v.1 ∙ ap (λ z. Some z) (typed_variant v.0 u.0 v.2))) (k.0 s st (wants u.0.1) z)
        | inr z ↦ absurd (some_none z.2)
      ]
]

capital_head : (w : World) (x : List ℕ) (k : Capital) → capital_of x ≡ k → if_other k (declared w.globals (own x) w.globals.constructors) ≡ None → tag_named w (e.Constructor x) ≡ None → (f : Fault) × BreaksHead w (e.Constructor x) f
capital_head w x says_true ek h t = (_, Faults.word_head t (λ j. let i : says_true ≡ says_other = sym ek ∙ j in cc))
capital_head w x says_false ek h t = (_, Faults.word_head t (λ j. let i : says_false ≡ says_other = sym ek ∙ j in cc))
capital_head w x says_none ek h t = (_, Faults.word_head t (λ j. let i : says_none ≡ says_other = sym ek ∙ j in cc))
capital_head w x says_other ek h t = (_, Faults.unknown_head ek h)

head_broken : (w : World) (x : ExpForm) → is_applied x ≡ false → is_head x ≡ false → tag_named w x ≡ None → (f : Fault) × BreaksHead w x f
head_broken w (e.App' _ x _ y) a h t = absurd (true≢false a)
head_broken w (e.Constructor x) a h t = capital_head w x (capital_of x) refl t t
head_broken w (e.MemberConstructor j x) a h t = (_, Faults.unknown_member_head t)
head_broken w _ a h t = absurd (true≢false h)

-- the name of a constructor that an expression is
tag_name : (w : World) (x : ExpForm) (n : ℕ) → tag_named w x ≡ Some n → (c : ConName) × (declared w.globals c w.globals.constructors ≡ Some n)
tag_name w (e.Constructor x) n h = (own x, other_of (capital_of x) h) where
  other_of : (k : Capital) → if_other k (declared w.globals (own x) w.globals.constructors) ≡ Some n → declared w.globals (own x) w.globals.constructors ≡ Some n
  other_of says_true g = cc
  other_of says_false g = cc
  other_of says_none g = cc
  other_of says_other g = g
tag_name w (e.MemberConstructor j x) n h = (of_module j x, h)
tag_name w _ n h = cc

by_parts : (names : List (List ℕ)) (w : World) → IsWorld w → (s : Scope) (st : Sites) (x y : ExpForm) (ys : List ExpForm) (b : Bool) (f : Option (ℕ × List Normal)) (n : Option ℕ) → is_applied x ≡ false → is_head x ≡ b → function_at w s x ≡ f → tag_named w x ≡ n → Explained names w x → AllExplained names w (y ∷ ys) →
    by_head w s st (typed w x) (walks w (y ∷ ys)) b f n ≡ None → HeadFault names w s x (y ∷ ys) st
by_parts names w i s st x y ys b (Some f) n ia ib ef en kx k h = elim (then_none_is (call_out w s st (walks w (y ∷ ys)) f) (slice_get w.declared.functions f.0) h) [
  | inl z ↦ let d : (d : Head) × (slice_get w.declared.functions f.0 ≡ Some d) = head_of w i s x f ef in absurd (some_none (sym d.1 ∙ z))
  | inr d ↦ call_explained names w s x (y ∷ ys) st f d.0 k ef d.1 d.2
]
by_parts names w i s st x y ys b None (Some n) ia ib ef en kx k h = let c : (c : ConName) × (declared w.globals c w.globals.constructors ≡ Some n) = tag_name w x n en in build_explained names w i s x y ys st n c.0 k ef en c.1 h
by_parts names w i s st x y ys true None None ia ib ef en kx k h = elim (then_none_is (applied_out s (walks w (y ∷ ys))) (typed w x s st finds) h) [
  | inl z ↦ call_part (of_head ef en) (kx s st finds z)
  | inr o ↦ elim (then_none_is _ (args_out s (walks w (y ∷ ys)) (parameters o.0.of).0 o.0.sites) o.2) [
    | inl z ↦ applied_args names w s x (y ∷ ys) st o.0 ef en o.1 (args_explained names w s (y ∷ ys) (parameters o.0.of).0 k o.0.sites z)
    | inr z ↦ absurd (some_none z.2)
  ]
]
by_parts names w i s st x y ys false None None ia ib ef en kx k h = let r : (f : Fault) × BreaksHead w x f = head_broken w x ia ib en in breaks_head r.1

pub head_explained : (names : List (List ℕ)) (w : World) → IsWorld w → (x : ExpForm) → is_applied x ≡ false → Explained names w x → SpineIsExplained names w x
head_explained names w i x a kx s st y ys k h =
    spine_fault names w s x (y ∷ ys) st a (by_parts names w i s st x y ys (is_head x) (function_at w s x) (tag_named w x) a refl refl refl kx k (sym (spine_at_head w x s st (typed w x) (walks w (y ∷ ys)) a) ∙ h))

spine_further : (names : List (List ℕ)) (w : World) (s : Scope) (p q : Span) (f a y : ExpForm) (ys : List ExpForm) (st : Sites) → SpineFault names w s f (a ∷ y ∷ ys) st → SpineFault names w s (e.App' tt (its p f alone) tt (its q a alone)) (y ∷ ys) st
spine_further names w s p q f a y ys st (part_of r g) = part_of (further r) g
spine_further names w s p q f a y ys st (breaks b) = breaks (breaks_further b)

pub spine_explained : (names : List (List ℕ)) (w : World) (p q : Span) (f a : ExpForm) → SpineIsExplained names w f → Explained names w a → SpineIsExplained names w (e.App' tt (its p f alone) tt (its q a alone))
spine_explained names w p q f a kf ka s st y ys k h = spine_further names w s p q f a y ys st (kf s st a (y ∷ ys) (ka, k) h)

application_by : (names : List (List ℕ)) (w : World) (s : Scope) (p q : Span) (f a : ExpForm) (st : Sites) (m : Mode) → SpineFault names w s f (a ∷ []) st → IsFaulty names w s st (e.App' tt (its p f alone) tt (its q a alone)) m
application_by names w s p q f a st m (part_of r g) = part_faulty (Parts.applied r) g
application_by names w s p q f a st m (breaks {f = c} b) = here_faulty c (Causes.in_application b)

pub application_explained : (names : List (List ℕ)) (w : World) (p q : Span) (f a : ExpForm) → SpineIsExplained names w f → Explained names w a → Explained names w (e.App' tt (its p f alone) tt (its q a alone))
application_explained names w p q f a kf ka = explained_by names w (e.App' tt (its p f alone) tt (its q a alone)) (λ s st m h. application_by names w s p q f a st m (kf s st a [] (ka, tt) h))
