-- Patterns at values of their types: what they bind has its types, and some pattern of those that cover a type matches.
use Rattle.std.proofs.Common.{◌≡◌, ◌≢◌, ◌⊎◌, inl, inr, ℕ, ◌==◌, List, [], ◌∷◌, Option, Some, None, Bool, true, false, refl, sym, subst, ap, ◌∙◌, arith}
use Rattle.std.specs.Prelude.{ℤ, slice_get}
use Rattle.std.specs.List.{Contains, AllZip, AllByRecursion}
use Rattle.std.specs.Ordering.{int_eq, bool_cmp, is_eq}
use Rattle.std.specs.Str.{bytes_eq}
use Rattle.std.proofs.lemmas.Bool.Decides.{nat_tests}
use Rattle.ur_values.specs.declared.types.ValueType.{ValueType}
use Rattle.ur_values.specs.declared.types.ValueType.TheVariants as ty
use Rattle.ur_values.specs.declared.value.Value.{Value, out-Value}
use Rattle.ur_values.specs.declared.value.Value.TheVariants as v
use Rattle.ur_values.specs.declared.value.Node.TheOpen as o
use Rattle.ur_terms.specs.declared.term.Pattern.{Pattern}
use Rattle.ur_terms.specs.declared.term.Pattern.TheVariants as p
use Rattle.ur_terms.specs.Values.{Open}
use Rattle.ur_terms.specs.Run.{matched, matched_open, if_matches, first_and_rest, held_by, if_empty}
use Rattle.ur_terms.specs.Types.{Signature, Binds, Cover, by_any, by_bool, by_option, by_list, by_datatype, args_of}
use Rattle.ur_terms.specs.Sound.{Met}
use Rattle.ur_terms.proofs.Inhabiting.{Of, HeldOf, to-Many}
use Rattle.ur_terms.proofs.TypedValues.{bool_of, many_of, option_of, data_of}

is_some : {A : Type 0} {m : Option A} {x : A} → m ≡ Some x → m ≢ None
is_some e n = apart (sym e ∙ n)
  where
    apart : {A : Type 0} {x : A} → Some x ≡ None → ⊥
    apart e = cc

opens_bool : (x : Value) (b : Bool) → x ≡ v.Bool b → out-Value x ≡ o.Bool b
opens_bool x b e = ap out-Value e ∙ v.outs-Bool b

opens_absent : (x : Value) → x ≡ v.Absent → out-Value x ≡ o.Absent
opens_absent x e = ap out-Value e ∙ v.outs-Absent

opens_present : (x y : Value) → x ≡ v.Present y → out-Value x ≡ o.Present y
opens_present x y e = ap out-Value e ∙ v.outs-Present y

opens_many : (x : Value) (xs : List Value) → x ≡ v.Many xs → out-Value x ≡ o.Many xs
opens_many x xs e = ap out-Value e ∙ v.outs-Many xs

opens_tagged : (x : Value) (c : ℕ) (y : Option Value) → x ≡ v.Tagged c y → out-Value x ≡ o.Tagged c y
opens_tagged x c y e = ap out-Value e ∙ v.outs-Tagged c y

arg_same : {d e : ℕ} {a b : Option ValueType} → ◌≡◌ {A = Option (ℕ × Option ValueType)} (Some (d, a)) (Some (e, b)) → a ≡ b
arg_same e = ap (λ (q : ℕ × Option ValueType). q.1) (some_same e)
  where
    some_same : {x y : ℕ × Option ValueType} → Some x ≡ Some y → x ≡ y
    some_same e = cc

module _ (own : Value → Type 0) (sig : Signature) where
  abbrev V : Value → ValueType → Type 0
  V x t = Of own sig.variants x t

  nothing_bound : (b : Bool) → Met V (if_matches b []) []
  nothing_bound true = tt
  nothing_bound false = tt

  no_int : (i : ℤ) (y : Open) → Met V (matched_open (p.Int i) y) []
  no_int i (o.Int j) = nothing_bound (int_eq i j)
  no_int i (o.Bool b) = tt
  no_int i (o.Str s) = tt
  no_int i (o.Row fields) = tt
  no_int i (o.Many xs) = tt
  no_int i o.Absent = tt
  no_int i (o.Present x) = tt
  no_int i (o.Tagged c x) = tt
  no_int i (o.Markup nodes) = tt

  no_text : (t : List ℕ) (y : Open) → Met V (matched_open (p.Str t) y) []
  no_text t (o.Str s) = nothing_bound (bytes_eq t s)
  no_text t (o.Int i) = tt
  no_text t (o.Bool b) = tt
  no_text t (o.Row fields) = tt
  no_text t (o.Many xs) = tt
  no_text t o.Absent = tt
  no_text t (o.Present x) = tt
  no_text t (o.Tagged c x) = tt
  no_text t (o.Markup nodes) = tt

  no_bool : (a : Bool) (y : Open) → Met V (matched_open (p.Bool a) y) []
  no_bool a (o.Bool b) = nothing_bound (is_eq (bool_cmp a b))
  no_bool a (o.Int i) = tt
  no_bool a (o.Str s) = tt
  no_bool a (o.Row fields) = tt
  no_bool a (o.Many xs) = tt
  no_bool a o.Absent = tt
  no_bool a (o.Present x) = tt
  no_bool a (o.Tagged c x) = tt
  no_bool a (o.Markup nodes) = tt

  no_absent : (y : Open) → Met V (matched_open p.Absent y) []
  no_absent o.Absent = tt
  no_absent (o.Int i) = tt
  no_absent (o.Bool b) = tt
  no_absent (o.Str s) = tt
  no_absent (o.Row fields) = tt
  no_absent (o.Many xs) = tt
  no_absent (o.Present x) = tt
  no_absent (o.Tagged c x) = tt
  no_absent (o.Markup nodes) = tt

  no_item : (xs : List Value) → Met V (if_empty xs) []
  no_item [] = tt
  no_item (x ∷ xs) = tt

  no_items : (y : Open) → Met V (matched_open p.Empty y) []
  no_items (o.Many xs) = no_item xs
  no_items o.Absent = tt
  no_items (o.Int i) = tt
  no_items (o.Bool b) = tt
  no_items (o.Str s) = tt
  no_items (o.Row fields) = tt
  no_items (o.Present x) = tt
  no_items (o.Tagged c x) = tt
  no_items (o.Markup nodes) = tt

  first_of : (b : ValueType) (xs : List Value) → AllByRecursion (λ y. V y b) xs → Met V (first_and_rest xs) (b ∷ ty.Many b ∷ [])
  first_of b [] h = tt
  first_of b (x ∷ xs) h = (h.0, (to-Many own sig.variants xs (ty.Many b) (b, refl, h.1), tt))

  held_of : (y : Option Value) (arg : Option ValueType) → HeldOf own sig.variants y arg → AllZip V (held_by y) (args_of arg)
  held_of None arg h = subst (λ a. AllZip V [] (args_of a)) (sym h) tt
  held_of (Some x) arg (a, is, h) = subst (λ b. AllZip V (x ∷ []) (args_of b)) (sym is) (h, tt)

  tagged_of : (c c2 d : ℕ) (arg arg2 : Option ValueType) (y : Option Value) → slice_get sig.variants c ≡ Some (d, arg) → slice_get sig.variants c2 ≡ Some (d, arg2)
      → HeldOf own sig.variants y arg2 → Met V (if_matches (c == c2) (held_by y)) (args_of arg)
  tagged_of c c2 d arg arg2 y found found2 held = go (c == c2) refl
    where
      go : (b : Bool) → (c == c2) ≡ b → Met V (if_matches b (held_by y)) (args_of arg)
      go false e = tt
      go true e =
          let same : c ≡ c2 = grind (arith, nat_tests) in
          let args : arg ≡ arg2 = arg_same (sym found ∙ ap (slice_get sig.variants) same ∙ found2) in
          subst (λ a. AllZip V (held_by y) (args_of a)) (sym args) (held_of y arg2 held)

  pub typed_binds : (q : Pattern) (a : ValueType) (bound : List ValueType) (x : Value) → Binds sig q a bound → V x a → Met V (matched q x) bound
  typed_binds p.Any a bound x h vx = subst (AllZip V (x ∷ [])) (sym h) (vx, tt)
  typed_binds (p.Int i) a bound x h vx = subst (Met V (matched_open (p.Int i) (out-Value x))) (sym h.1) (no_int i (out-Value x))
  typed_binds (p.Str t) a bound x h vx = subst (Met V (matched_open (p.Str t) (out-Value x))) (sym h.1) (no_text t (out-Value x))
  typed_binds (p.Bool b) a bound x h vx = subst (Met V (matched_open (p.Bool b) (out-Value x))) (sym h.1) (no_bool b (out-Value x))
  typed_binds p.Absent a bound x (b, is, none) vx = subst (Met V (matched_open p.Absent (out-Value x))) (sym none) (no_absent (out-Value x))
  typed_binds p.Empty a bound x (b, is, none) vx = subst (Met V (matched_open p.Empty (out-Value x))) (sym none) (no_items (out-Value x))
  typed_binds p.Present a bound x (b, is, one) vx = subst (Met V (matched_open p.Present (out-Value x))) (sym one) (go (option_of own sig.variants b x (subst (V x) is vx)))
    where
      go : (x ≡ v.Absent) ⊎ ((y : Value) × (x ≡ v.Present y) × V y b) → Met V (matched_open p.Present (out-Value x)) (b ∷ [])
      go (inl e) = subst (λ y. Met V (matched_open p.Present y) (b ∷ [])) (sym (opens_absent x e)) tt
      go (inr (y, e, vy)) = subst (λ z. Met V (matched_open p.Present z) (b ∷ [])) (sym (opens_present x y e)) (vy, tt)
  typed_binds p.Cons a bound x (b, is, two) vx =
      let items = many_of own sig.variants b x (subst (V x) is vx) in
      subst (Met V (matched_open p.Cons (out-Value x))) (sym two)
      (subst (λ t. Met V (matched_open p.Cons (out-Value x)) (b ∷ t ∷ [])) (sym is)
      (subst (λ z. Met V (matched_open p.Cons z) (b ∷ ty.Many b ∷ [])) (sym (opens_many x items.0 items.1)) (first_of b items.0 items.2)))
  typed_binds (p.Tagged c) a bound x (d, arg, found, is, args) vx =
      let (c2, y, arg2, e, found2, held) = data_of own sig.variants d x (subst (V x) is vx) in
      subst (Met V (matched_open (p.Tagged c) (out-Value x))) (sym args)
      (subst (λ z. Met V (matched_open (p.Tagged c) z) (args_of arg)) (sym (opens_tagged x c2 y e)) (tagged_of c c2 d arg arg2 y found found2 held))

  pub typed_covers : (ps : List Pattern) (a : ValueType) (x : Value) → Cover sig ps a → V x a → (q : Pattern) × Contains ps q × (matched q x ≢ None)
  typed_covers ps a x (by_any _ has) vx = (p.Any, has, is_some refl)
  typed_covers ps _ x (by_bool on off) vx = go (bool_of own sig.variants x vx)
    where
      go : (b : Bool) × (x ≡ v.Bool b) → (q : Pattern) × Contains ps q × (matched q x ≢ None)
      go (true, e) = (p.Bool true, on, is_some (ap (matched_open (p.Bool true)) (opens_bool x true e)))
      go (false, e) = (p.Bool false, off, is_some (ap (matched_open (p.Bool false)) (opens_bool x false e)))
  typed_covers ps _ x (by_option a none some) vx = go (option_of own sig.variants a x vx)
    where
      go : (x ≡ v.Absent) ⊎ ((y : Value) × (x ≡ v.Present y) × V y a) → (q : Pattern) × Contains ps q × (matched q x ≢ None)
      go (inl e) = (p.Absent, none, is_some (ap (matched_open p.Absent) (opens_absent x e)))
      go (inr (y, e, vy)) = (p.Present, some, is_some (ap (matched_open p.Present) (opens_present x y e)))
  typed_covers ps _ x (by_list a none some) vx = go (many_of own sig.variants a x vx)
    where
      go : (xs : List Value) × (x ≡ v.Many xs) × AllByRecursion (λ y. V y a) xs → (q : Pattern) × Contains ps q × (matched q x ≢ None)
      go ([], e, vs) = (p.Empty, none, is_some (ap (matched_open p.Empty) (opens_many x [] e)))
      go (y ∷ ys, e, vs) = (p.Cons, some, is_some (ap (matched_open p.Cons) (opens_many x (y ∷ ys) e)))
  typed_covers ps _ x (by_datatype d some all) vx =
      let (c, y, arg, e, found, held) = data_of own sig.variants d x vx in
      let same : (c == c) ≡ true = grind (arith, nat_tests) in
      (p.Tagged c, all c arg found, is_some (ap (matched_open (p.Tagged c)) (opens_tagged x c y e) ∙ ap (λ b. if_matches b (held_by y)) same))
