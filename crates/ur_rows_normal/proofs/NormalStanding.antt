-- What words and names stand for.
use Rattle.std.proofs.Common.{◌≡◌, refl, ap, sym, ◌∙◌, subst, ℕ, ◌+◌, ◌-◌, ◌<◌, arith, Bool, true, false, ◌⊎◌, inl, inr, if◌then◌else◌, List, [], ◌∷◌, ◌++◌, append_assoc, length, take, get_or, Option, Some, None, Result, IfOk}
use Rattle.std.proofs.lemmas.Bool.{cases_Bool}
use Rattle.std.proofs.lemmas.List.{take_more}
use Rattle.ur_syntax.specs.declared.kind.Kind.{Kind}
use Rattle.ur_syntax.specs.declared.kind.Kind.TheVariants as kind
use Rattle.ur_syntax.specs.declared.con.ConName.{ConName}
use Rattle.ur_syntax.specs.Names.{looked_up, same_con}
use Rattle.ur_rows.specs.declared.normal.Var.TheVariants as var
use Rattle.ur_rows.specs.declared.normal.Label.TheVariants as label
use Rattle.ur_rows.specs.declared.normal.NormalType.{NormalType}
use Rattle.ur_rows.specs.declared.normal.NormalType.TheVariants as ty
use Rattle.ur_rows.specs.declared.normal.Part.{Part}
use Rattle.ur_rows.specs.declared.normal.Normal.{Normal}
use Rattle.ur_rows.specs.declared.normal.Normal.TheVariants as normal
use Rattle.ur_rows.specs.declared.normal.Normal.TheBlock.{end_of-Normal as sole, more_of-Normal as the}
use Rattle.ur_rows.specs.Made.{option_of, list_of, transaction_of, form_of}
use Rattle.ur_rows.specs.Put.{as_label, raised}
use Rattle.ur_rows.proofs.Shapes.{option-made, list-made, transaction-made, form-made, fn-made}
use Rattle.ur_rows_reduce.specs.declared.held.Held.{Held}
use Rattle.ur_rows_normal.specs.declared.names.Entry.{Entry}
use Rattle.ur_rows_normal.specs.Walk.{declared}

abbrev pub function_of : NormalType → Normal
function_of t = normal.Fn' kind.Star tt (the (normal.Type t) sole)

pub function-made : (n : Normal) (t : NormalType) → n ≡ normal.Type t → normal.Fn kind.Star n ≡ function_of t
function-made n t e = ap (λ z. normal.Fn kind.Star z) e ∙ fn-made kind.Star (normal.Type t)

pub of-option : {E : Type 0} (r : Result Normal E) (b v : NormalType) → b ≡ v → v ≡ ty.Variable (var.Bound 0) → IfOk r (λ n. n ≡ function_of (ty.Opt b)) → IfOk r (λ n. n ≡ function_of (option_of (ty.Variable (var.Bound 0))))
of-option r b v e f k = subst (λ z. IfOk r (λ n. n ≡ function_of z)) (ap (λ z. ty.Opt z) (e ∙ f) ∙ option-made (ty.Variable (var.Bound 0))) k

pub of-list : {E : Type 0} (r : Result Normal E) (b v : NormalType) → b ≡ v → v ≡ ty.Variable (var.Bound 0) → IfOk r (λ n. n ≡ function_of (ty.Many b)) → IfOk r (λ n. n ≡ function_of (list_of (ty.Variable (var.Bound 0))))
of-list r b v e f k = subst (λ z. IfOk r (λ n. n ≡ function_of z)) (ap (λ z. ty.Many z) (e ∙ f) ∙ list-made (ty.Variable (var.Bound 0))) k

pub of-transaction : {E : Type 0} (r : Result Normal E) (b v : NormalType) → b ≡ v → v ≡ ty.Variable (var.Bound 0) → IfOk r (λ n. n ≡ function_of (ty.Transaction b)) →
    IfOk r (λ n. n ≡ function_of (transaction_of (ty.Variable (var.Bound 0))))
of-transaction r b v e f k = subst (λ z. IfOk r (λ n. n ≡ function_of z)) (ap (λ z. ty.Transaction z) (e ∙ f) ∙ transaction-made (ty.Variable (var.Bound 0))) k

pub form-empty : (r : List Part) → r ≡ [] → normal.Type (ty.Form r) ≡ normal.Type (form_of [])
form-empty r e = ap (λ z. normal.Type (ty.Form z)) e ∙ ap (λ z. normal.Type z) (form-made [])

pub function-label : (by : ℕ) (n : Normal) (k : Kind) (c : Normal) (l : List ℕ) → n ≡ normal.Fn k c → l ≡ [] → label.Literal l ≡ as_label (raised by n)
function-label by n k c l e f = ap label.Literal f ∙ sym (ap (λ z. as_label (raised by z)) (e ∙ fn-made k c))

-- ---- names

pub declared-last : (xs : List Entry) (x : Entry) (known : List (ConName × (ℕ × Held))) → declared (xs ++ x ∷ []) known ≡ (x.name, (0, x.held)) ∷ declared xs known
declared-last [] x known = refl
declared-last (y ∷ xs) x known = declared-last xs x ((y.name, (0, y.held)) ∷ known)

pub declared-more : (xs : List Entry) (n : ℕ) (x : Entry) → n < length xs → x ≡ get_or xs n x → declared (take (n + 1) xs) [] ≡ (x.name, (0, x.held)) ∷ declared (take n xs) []
declared-more xs n x h e = ap (λ z. declared z []) (take_more xs n x h) ∙ declared-last (take n xs) (get_or xs n x) [] ∙ ap (λ (z : Entry). (z.name, (0, z.held)) ∷ declared (take n xs) []) (sym e)

looked-step : (k : ConName) (xs : List Entry) (n i : ℕ) (x : Entry) → i < n → n ≡ length xs → x ≡ get_or xs (n - 1 - i) x →
    looked_up k (declared (take (n - i) xs) []) ≡ (if same_con k x.name then Some (0, x.held) else looked_up k (declared (take (n - (i + 1)) xs) []))
looked-step k xs n i x h l e =
    ap (λ z. looked_up k (declared (take z xs) [])) (up n i h) ∙ ap (looked_up k) (declared-more xs (n - 1 - i) x (in-row n i (length xs) h l) e) ∙
    ap (λ z. if same_con k x.name then Some (0, x.held) else looked_up k (declared (take z xs) [])) (down n i) where
      up : (n i : ℕ) → i < n → n - i ≡ n - 1 - i + 1
      up n i h = omega arith

      down : (n i : ℕ) → n - 1 - i ≡ n - (i + 1)
      down n i = omega arith

      in-row : (n i m : ℕ) → i < n → n ≡ m → n - 1 - i < m
      in-row n i m h l = omega arith

pub found-here : (k : ConName) (xs : List Entry) (n i : ℕ) (x : Entry) (all : Option (ℕ × Held)) (b : Bool) → all ≡ looked_up k (declared (take (n - i) xs) []) → i < n → n ≡ length xs →
    x ≡ get_or xs (n - 1 - i) x → b ≡ same_con k x.name → b ≡ true → Some (0, x.held) ≡ all
found-here k xs n i x all b a h l e f g = sym (a ∙ looked-step k xs n i x h l e ∙ ap (λ z. if z then Some (0, x.held) else looked_up k (declared (take (n - (i + 1)) xs) [])) (sym f ∙ g))

pub passed-here : (k : ConName) (xs : List Entry) (n i : ℕ) (x : Entry) (all : Option (ℕ × Held)) (b : Bool) → all ≡ looked_up k (declared (take (n - i) xs) []) → i < n → n ≡ length xs →
    x ≡ get_or xs (n - 1 - i) x → b ≡ same_con k x.name → b ≡ false → all ≡ looked_up k (declared (take (n - (i + 1)) xs) [])
passed-here k xs n i x all b a h l e f g = a ∙ looked-step k xs n i x h l e ∙ ap (λ z. if z then Some (0, x.held) else looked_up k (declared (take (n - (i + 1)) xs) [])) (sym f ∙ g)

-- ---- names over others

declared-over : (xs : List Entry) (known : List (ConName × (ℕ × Held))) → declared xs known ≡ declared xs [] ++ known
declared-over [] known = refl
declared-over (x ∷ xs) known = declared-over xs ((x.name, (0, x.held)) ∷ known) ∙ sym (append_assoc (declared xs []) ((x.name, (0, x.held)) ∷ []) known) ∙
    ap (λ z. z ++ known) (sym (declared-over xs ((x.name, (0, x.held)) ∷ [])))

looked-first : (k : ConName) (xs ys : List (ConName × (ℕ × Held))) (o : ℕ × Held) → Some o ≡ looked_up k xs → Some o ≡ looked_up k (xs ++ ys)
looked-first k [] ys o e = absurd (cc)
looked-first k (x ∷ xs) ys o e = step (cases_Bool (same_con k x.0)) (looked-first k xs ys o) where
  step : (same_con k x.0 ≡ true) ⊎ (same_con k x.0 ≡ false) → (Some o ≡ looked_up k xs → Some o ≡ looked_up k (xs ++ ys)) → Some o ≡ looked_up k ((x ∷ xs) ++ ys)
  step (inl f) ih = e ∙ ap (λ (b : Bool). if b then Some x.1 else looked_up k xs) f ∙ sym (ap (λ (b : Bool). if b then Some x.1 else looked_up k (xs ++ ys)) f)
  step (inr f) ih = ih (e ∙ ap (λ (b : Bool). if b then Some x.1 else looked_up k xs) f) ∙ sym (ap (λ (b : Bool). if b then Some x.1 else looked_up k (xs ++ ys)) f)

looked-behind : (k : ConName) (xs ys : List (ConName × (ℕ × Held))) → None ≡ looked_up k xs → looked_up k ys ≡ looked_up k (xs ++ ys)
looked-behind k [] ys e = refl
looked-behind k (x ∷ xs) ys e = step (cases_Bool (same_con k x.0)) (looked-behind k xs ys) where
  never : None ≡ Some x.1 → ⊥
  never q = cc

  step : (same_con k x.0 ≡ true) ⊎ (same_con k x.0 ≡ false) → (None ≡ looked_up k xs → looked_up k ys ≡ looked_up k (xs ++ ys)) → looked_up k ys ≡ looked_up k ((x ∷ xs) ++ ys)
  step (inl f) ih = absurd (never (e ∙ ap (λ (b : Bool). if b then Some x.1 else looked_up k xs) f))
  step (inr f) ih = ih (e ∙ ap (λ (b : Bool). if b then Some x.1 else looked_up k xs) f) ∙ sym (ap (λ (b : Bool). if b then Some x.1 else looked_up k (xs ++ ys)) f)

pub over-some : (k : ConName) (es : List Entry) (rest : List (ConName × (ℕ × Held))) (o : ℕ × Held) → Some o ≡ looked_up k (declared es []) → Some o ≡ looked_up k (declared es rest)
over-some k es rest o e = looked-first k (declared es []) rest o e ∙ ap (looked_up k) (sym (declared-over es rest))

pub over-none : (k : ConName) (es : List Entry) (rest : List (ConName × (ℕ × Held))) → None ≡ looked_up k (declared es []) → looked_up k rest ≡ looked_up k (declared es rest)
over-none k es rest e = looked-behind k (declared es []) rest e ∙ ap (looked_up k) (sym (declared-over es rest))
