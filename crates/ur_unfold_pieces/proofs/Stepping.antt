-- The steps of a row's fields, the last one first.
use Rattle.std.proofs.Common.{ℕ, append-nil, ◌≡◌, Bool, true, ◌&&◌, List, [], ◌∷◌, ◌++◌, reverse, Option, None, Some, refl, sym, ap, subst, ◌∙◌}
use Rattle.std.specs.List.{AllZip}
use Rattle.std.proofs.lemmas.List.{append_assoc, reverse-append}
use Rattle.ur_rows.specs.declared.normal.Var.{Var}
use Rattle.ur_rows.specs.declared.normal.Label.{Label}
use Rattle.ur_rows.specs.declared.normal.NormalType.{NormalType}
use Rattle.ur_rows.specs.declared.normal.Normal.{Normal}
use Rattle.ur_rows.specs.declared.normal.Normal.TheVariants as normal
use Rattle.ur_rows.specs.declared.normal.Part.{Part}
use Rattle.ur_rows.specs.declared.normal.Part.TheVariants as part
use Rattle.ur_rows.specs.IsNormal.{is_row, comes_first, all_normal_parts, is_normal_row, is_normal_part, is_normal_type}
use Rattle.ur_rows.proofs.Order.{and-left, and-right}
use Rattle.ur_rows.proofs.Shapes.{field-made, mapped-made}
use Rattle.ur_source.specs.Reading.{Cons, step_at, steps_of, cons_option}
use Rattle.ur_unfold_static.specs.declared.node.Step.{Step}
use Rattle.ur_unfold_static.specs.Held.{Held, Grows}
use Rattle.ur_unfold_static.specs.Scopes.{IsAt, AreAt, StepIs, StepMayBe, StepsMayBe}
use Rattle.ur_unfold_static.proofs.Laws.{grows_so, grows_then}
use Rattle.ur_unfold_static.proofs.Standing.{con_grown, steps_grown}

none_cons : {A : Type 0} (a : Option A) → cons_option a None ≡ None
none_cons None = refl
none_cons (Some x) = refl

none_behind : (xs ys : List Part) → steps_of ys ≡ None → steps_of (xs ++ ys) ≡ None
none_behind [] ys e = e
none_behind (x ∷ xs) ys e = ap (cons_option (step_at x (xs ++ ys))) (none_behind xs ys e) ∙ none_cons (step_at x (xs ++ ys))

last_zip : {A B : Type 0} (R : A → B → Type 0) (xs : List A) (ys : List B) (x : A) (y : B) → AllZip R xs ys → R x y → AllZip R (xs ++ x ∷ []) (ys ++ y ∷ [])
last_zip R [] [] x y z h = (h, tt)
last_zip R [] (b ∷ ys) x y z h = absurd z
last_zip R (a ∷ xs) [] x y z h = absurd z
last_zip R (a ∷ xs) (b ∷ ys) x y z h = (z.0, last_zip R xs ys x y z.1 h)

-- one part more before those whose steps are known
pub one_step : (held : Held) (s : Step) (ss : List Step) (p : Part) (rest : List Part) → StepMayBe held (Some s) (step_at p rest) → StepsMayBe held (Some ss) (steps_of rest)
    → StepsMayBe held (Some (ss ++ s ∷ [])) (steps_of (p ∷ rest))
one_step held s ss p rest h g =
    let k = h.0 in
    let ks = g.0 in
    (k ∷ ks, subst (AllZip (StepIs held) (ss ++ s ∷ [])) (sym (reverse-append (k ∷ []) ks)) (last_zip (StepIs held) ss (reverse ks) s k g.1 h.1), ap (λ a. cons_option a (steps_of rest)) h.2 ∙ ap (cons_option (Some k)) g.2)

pub no_step : (held : Held) (left : List Part) (p : Part) (rest : List Part) → step_at p rest ≡ None → StepsMayBe held None (steps_of (left ++ p ∷ rest))
no_step held left p rest e = none_behind left (p ∷ rest) (ap (λ a. cons_option a (steps_of rest)) e ∙ nothing (steps_of rest))
  where
    nothing : (a : Option (List Cons)) → cons_option None a ≡ None
    nothing None = refl
    nothing (Some x) = refl

pub all_steps_grown : (old new : Held) → Grows old new → (ss : List Step) (ks : Option (List Cons)) → StepsMayBe old (Some ss) ks → StepsMayBe new (Some ss) ks
all_steps_grown old new g ss ks h = (h.0, steps_grown old new g ss (reverse h.0) h.1, h.2)

-- ---- parts of a row in order

row_behind : (xs ys : List Part) → is_row (xs ++ ys) ≡ true → is_row ys ≡ true
row_behind [] ys e = e
row_behind (x ∷ xs) ys e = row_behind xs ys (and-right (comes_first x (xs ++ ys)) (is_row (xs ++ ys)) e)

parts_behind : (xs ys : List Part) → all_normal_parts (xs ++ ys) ≡ true → all_normal_parts ys ≡ true
parts_behind [] ys e = e
parts_behind (x ∷ xs) ys e = parts_behind xs ys (and-right (is_normal_part x) (all_normal_parts (xs ++ ys)) e)

both : (a b : Bool) → a ≡ true → b ≡ true → (a && b) ≡ true
both a b p q = rw (p, q) refl

pub normal_behind : (xs ys : List Part) → is_normal_row (xs ++ ys) ≡ true → is_normal_row ys ≡ true
normal_behind xs ys e =
    both (is_row ys) (all_normal_parts ys) (row_behind xs ys (and-left (is_row (xs ++ ys)) (all_normal_parts (xs ++ ys)) e))
    (parts_behind xs ys (and-right (is_row (xs ++ ys)) (all_normal_parts (xs ++ ys)) e))

pub normal_here : (xs : List Part) (p : Part) (ys : List Part) → is_normal_row (xs ++ p ∷ ys) ≡ true → is_normal_part p ≡ true
normal_here xs p ys e =
    let here = normal_behind xs (p ∷ ys) e in
    and-left (is_normal_part p) (all_normal_parts ys) (and-right (is_row (p ∷ ys)) (all_normal_parts (p ∷ ys)) here)

pub normal_after : (xs : List Part) (p : Part) (ys : List Part) → is_normal_row (xs ++ p ∷ ys) ≡ true → is_normal_row ys ≡ true
normal_after xs p ys e = normal_behind (p ∷ []) ys (normal_behind xs (p ∷ ys) e)

-- ---- the loop

-- What is left, with the rest, is the row; and the steps are those of the rest.
abbrev pub Stepped : Held → Held → List Part → List Part → List Part → List Step → Type 0
Stepped init held row left rest ss = (left ++ rest ≡ row) × StepsMayBe held (Some ss) (steps_of rest) × Grows init held

pub stepped_first : (held : Held) (row : List Part) → Stepped held held row row [] []
stepped_first held row = (append-nil row, ([], tt, refl), grows_so held)

pub stepped_from : (held : Held) (row rest : List Part) (ss : List Step) → rest ≡ [] → ss ≡ [] → Stepped held held row row rest ss
stepped_from held row rest ss e f =
    subst (λ (xs : List Part). Stepped held held row row xs ss) (sym e) (subst (λ (xs : List Step). Stepped held held row row [] xs) (sym f) (stepped_first held row))

pub stepped_more : (init mid new : Held) (row left less rest : List Part) (ss : List Step) (p : Part) (s : Step) (more : List Part) (steps : List Step) → Stepped init mid row left rest ss → left ≡ less ++ p ∷ [] → Grows mid new
    → StepMayBe new (Some s) (step_at p rest) → more ≡ p ∷ rest → steps ≡ ss ++ s ∷ [] → Stepped init new row less more steps
stepped_more init mid new row left less rest ss p s more steps h l g k m e = (
  ap (λ (xs : List Part). less ++ xs) m ∙ sym (append_assoc less (p ∷ []) rest) ∙ ap (λ (xs : List Part). xs ++ rest) (sym l) ∙ h.0,
  subst (λ (xs : List Step). StepsMayBe new (Some xs) (steps_of more)) (sym e)
      (subst (λ (xs : List Part). StepsMayBe new (Some (ss ++ s ∷ [])) (steps_of xs)) (sym m) (one_step new s ss p rest k (all_steps_grown mid new g ss (steps_of rest) h.1))),
  grows_then init mid new h.2 g,
)

here_is : (row left less rest : List Part) (p : Part) → left ++ rest ≡ row → left ≡ less ++ p ∷ [] → less ++ p ∷ rest ≡ row
here_is row left less rest p h l = sym (append_assoc less (p ∷ []) rest) ∙ ap (λ (xs : List Part). xs ++ rest) (sym l) ∙ h

pub stepped_none : (init mid new : Held) (row left less rest : List Part) (ss : List Step) (p : Part) → Stepped init mid row left rest ss → left ≡ less ++ p ∷ [] → step_at p rest ≡ None → StepsMayBe new None (steps_of row)
stepped_none init mid new row left less rest ss p h l e =
    subst (λ (xs : List Part). StepsMayBe new None (steps_of xs)) (here_is row left less rest p h.0 l) (no_step new less p rest e)

pub part_in_order : (init mid : Held) (row left less rest : List Part) (ss : List Step) (p : Part) → Stepped init mid row left rest ss → left ≡ less ++ p ∷ [] → is_normal_row row ≡ true → is_normal_part p ≡ true
part_in_order init mid row left less rest ss p h l n = normal_here less p rest (ap is_normal_row (here_is row left less rest p h.0 l) ∙ n)

pub rest_in_order : (init mid : Held) (row left less rest : List Part) (ss : List Step) (p : Part) → Stepped init mid row left rest ss → left ≡ less ++ p ∷ [] → is_normal_row row ≡ true → is_normal_row rest ≡ true
rest_in_order init mid row left less rest ss p h l n = normal_after less p rest (ap is_normal_row (here_is row left less rest p h.0 l) ∙ n)

pub stepped_end : (init mid : Held) (row left rest : List Part) (ss : List Step) → Stepped init mid row left rest ss → left ≡ [] → StepsMayBe mid (Some ss) (steps_of row)
stepped_end init mid row left rest ss h e =
    subst (λ (xs : List Part). StepsMayBe mid (Some ss) (steps_of xs)) (ap (λ (xs : List Part). xs ++ rest) (sym e) ∙ h.0) h.1

-- ---- one step

pub step_Field : (l : Label) (t : NormalType) (rest : List Part) → step_at (part.Field l t) rest ≡ Some (normal.Name l ∷ normal.Type t ∷ normal.Row rest ∷ [])
step_Field l t rest = ap (λ p. step_at p rest) (field-made l t)

pub step_Piece : (v : Var) (rest : List Part) → step_at (part.Piece v) rest ≡ None
step_Piece v rest = refl

pub step_Mapped : (v : Var) (t : NormalType) (rest : List Part) → step_at (part.Mapped v t) rest ≡ None
step_Mapped v t rest = ap (λ p. step_at p rest) (mapped-made v t)

pub type_in_order : (p : Part) (l : Label) (t : NormalType) → p ≡ part.Field l t → is_normal_part p ≡ true → is_normal_type t ≡ true
type_in_order p l t e n = sym (ap is_normal_part (e ∙ field-made l t)) ∙ n

pub step_is : (held : Held) (p : Part) (l : Label) (t : NormalType) (rest : List Part) (s : Step) → p ≡ part.Field l t → StepIs held s (normal.Name l ∷ normal.Type t ∷ normal.Row rest ∷ []) → StepMayBe held (Some s) (step_at p rest)
step_is held p l t rest s e h = (normal.Name l ∷ normal.Type t ∷ normal.Row rest ∷ [], h, ap (λ q. step_at q rest) e ∙ step_Field l t rest)

pub three_at : (a b c : Held) → Grows a b → Grows b c → (i j k : ℕ) (x y z : Normal) → IsAt a.cons i x → IsAt b.cons j y → IsAt c.cons k z → AreAt c.cons (i ∷ j ∷ k ∷ []) (x ∷ y ∷ z ∷ [])
three_at a b c g h i j k x y z p q r = (con_grown b c h i x (con_grown a b g i x p), (con_grown b c h j y q, (r, tt)))
