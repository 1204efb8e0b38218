-- The forms of single kinds of expressions.
use Rattle.std.proofs.Common.{◌≡◌, ℕ, true, false, List, [], ◌∷◌, map, Result, refl, sym, ap, subst}
use Rattle.std.specs.List.{AllZip}
use Rattle.ur_terms.specs.declared.term.Op.{Op}
use Rattle.ur_terms.specs.declared.term.Op.TheVariants as op
use Rattle.ur_tree.specs.declared.exp.Unary.{Unary}
use Rattle.ur_tree.specs.declared.exp.Unary.TheVariants as unary
use Rattle.ur_tree.specs.declared.exp.Binary.{Binary}
use Rattle.ur_tree.specs.declared.exp.Binary.TheVariants as binary
use Rattle.ur_tree.specs.declared.exp.Branch.{Branch}
use Rattle.ur_tree.specs.declared.exp.FieldExp.{FieldExp}
use Rattle.ur_tree.specs.declared.exp.Param.{Param}
use Rattle.ur_tree.specs.declared.exp.Exp.{Exp}
use Rattle.ur_tree.specs.declared.exp.Exp.TheVariants as x
use Rattle.ur_terms.specs.declared.term.Pattern.{Pattern}
use Rattle.ur_meaning.specs.Form.{strict_form, choice_form, case_form, each_form, no_form}
use Rattle.ur_source.specs.Items as i
use Rattle.ur_source.specs.Items.{Source, Scope, Item, exps, if_static, static_in, form_of, unary_form, binary_form}
use Rattle.ur_source.specs.Source.{source_of}
use Rattle.ur_meaning.specs.declared.head.Head.TheVariants as head
use Rattle.ur_meaning.specs.declared.head.Opened.{Opened}
use Rattle.ur_meaning.specs.declared.halt.Halt.{Halt}
use Rattle.ur_meaning.specs.Heads as heads
use Rattle.ur_unfold_pieces.specs.declared.piece.Piece.{Piece}
use Rattle.ur_unfold_pieces.specs.declared.opening.Opening.{Opening}
use Rattle.ur_unfold_pieces.specs.Told.{exp, bool, asking, exps_told}
use Rattle.ur_unfold_pieces.specs.Standing.{ScopeIs, SaysFor, IsWhole, instances_in}
use Rattle.ur_unfold_pieces.specs.Forming.{FormedAs, OpensExp}
use Rattle.ur_unfold_table.specs.Opened.{IsOpened}
use Rattle.ur_unfold_table.specs.Operators.{unary_op, Operates, IsBinary}
use Rattle.ur_unfold_table.proofs.Forms.{form-Fixed, form-Val, form-Lambda}
use Rattle.ur_unfold_table.proofs.Telling.{exps_say}
use Rattle.ur_unfold_table.proofs.Forming.{opened_formed, none_formed, strict_formed, same_formed}

-- ---- static names

pub static_form-Fixed : (p : Source) (e : Exp) (n : ℕ) → e ≡ x.Fixed n → (scope : Scope) → form_of p (i.exp scope e) ≡ if_static (static_in p scope e) no_form
static_form-Fixed p e n is scope = subst (λ e. form_of p (i.exp scope e) ≡ if_static (static_in p scope e) no_form) (sym is) (form-Fixed p scope n)

pub static_form-Val : (p : Source) (e : Exp) (n : ℕ) → e ≡ x.Val n → (scope : Scope) → form_of p (i.exp scope e) ≡ if_static (static_in p scope e) no_form
static_form-Val p e n is scope = subst (λ e. form_of p (i.exp scope e) ≡ if_static (static_in p scope e) no_form) (sym is) (form-Val p scope n)

pub opens_static : (old new : Opening) (n : ℕ) (e : Exp) (r : Result (Opened Piece) Halt) → ((scope : Scope) → form_of (source_of old.typed.now) (i.exp scope e) ≡ if_static (static_in (source_of old.typed.now) scope e) no_form)
    → ((scope : Scope) → ScopeIs old n scope → IsWhole old → FormedAs old new (if_static (static_in (source_of old.typed.now) scope e) no_form) r) → OpensExp old new n e r
opens_static old new n e r is go = λ scope at whole. subst (λ f. FormedAs old new f r) (sym (is scope)) (go scope at whole)

pub lambda_none : (p : Source) (e : Exp) (params : List Param) (body : Exp) → e ≡ x.Lambda params body → (scope : Scope) → form_of p (i.exp scope e) ≡ no_form
lambda_none p e params body is scope = subst (λ e. form_of p (i.exp scope e) ≡ no_form) (sym is) (form-Lambda p scope params body)

pub opens_lambda : (s : Opening) (n : ℕ) (e : Exp) (r : Result (Opened Piece) Halt) → ((scope : Scope) → form_of (source_of s.typed.now) (i.exp scope e) ≡ no_form) → IsOpened head.Nothing [] r → OpensExp s s n e r
opens_lambda s n e r none is = λ scope at whole. subst (λ f. FormedAs s s f r) (sym (none scope)) (none_formed s s refl r is)

-- ---- operators

module _ (old new : Opening) (stay : instances_in new ≡ instances_in old) (n : ℕ) (scope : Scope) (at : ScopeIs new n scope) where
  strict_ops : (o : Op) (es : List Exp) (r : Result (Opened Piece) Halt) → IsOpened (head.Strict o) (exps_told n es) r → FormedAs old new (strict_form o (exps scope es)) r
  strict_ops o es r is = strict_formed old new stay o (exps_told n es) (exps scope es) r is (exps_say new n scope at es)

  unary_by : (o : Unary) (e : Exp) (r : Result (Opened Piece) Halt) → Operates (unary_op o) head.Same (exp n e ∷ []) r → FormedAs old new (unary_form scope o e) r
  unary_by unary.Neg e r is = strict_ops op.Neg (e ∷ []) r is
  unary_by unary.Not e r is = strict_ops op.Not (e ∷ []) r is
  unary_by unary.Show e r is = strict_ops op.Show (e ∷ []) r is
  unary_by unary.Present e r is = strict_ops op.Present (e ∷ []) r is
  unary_by unary.Return e r is = same_formed old new stay (exp n e) (i.exp scope e) r is (scope, at, refl)

  pub binary_formed : (o : Binary) (a b : Exp) (r : Result (Opened Piece) Halt) → IsBinary o n a b r → FormedAs old new (binary_form scope o a b) r
  binary_formed binary.Add a b r is = strict_ops op.Add (a ∷ b ∷ []) r is
  binary_formed binary.Sub a b r is = strict_ops op.Sub (a ∷ b ∷ []) r is
  binary_formed binary.Mul a b r is = strict_ops op.Mul (a ∷ b ∷ []) r is
  binary_formed binary.Div a b r is = strict_ops op.Div (a ∷ b ∷ []) r is
  binary_formed binary.Rem a b r is = strict_ops op.Rem (a ∷ b ∷ []) r is
  binary_formed binary.Append a b r is = strict_ops op.Append (a ∷ b ∷ []) r is
  binary_formed binary.Equal a b r is = strict_ops op.Equal (a ∷ b ∷ []) r is
  binary_formed binary.Unequal a b r is = strict_ops op.Unequal (a ∷ b ∷ []) r is
  binary_formed binary.Less a b r is = strict_ops op.Less (a ∷ b ∷ []) r is
  binary_formed binary.LessEqual a b r is = strict_ops op.LessEqual (a ∷ b ∷ []) r is
  binary_formed binary.Greater a b r is = strict_ops op.Greater (a ∷ b ∷ []) r is
  binary_formed binary.GreaterEqual a b r is = strict_ops op.GreaterEqual (a ∷ b ∷ []) r is
  binary_formed binary.Cons a b r is = strict_ops op.Cons (a ∷ b ∷ []) r is
  binary_formed binary.Join a b r is = strict_ops op.Join (a ∷ b ∷ []) r is
  binary_formed binary.And a b r is =
      let items = i.exp scope a ∷ i.exp scope b ∷ i.exp scope (x.Bool false) ∷ [] in
      opened_formed old new stay head.Choice (exp n a ∷ exp n b ∷ bool n false ∷ []) items (choice_form (i.exp scope a) (i.exp scope b) (i.exp scope (x.Bool false))) r is
      ((scope, at, refl), ((scope, at, refl), ((scope, at, refl), tt))) (heads.choice (i.exp scope a) (i.exp scope b) (i.exp scope (x.Bool false))) refl
  binary_formed binary.Or a b r is =
      let items = i.exp scope a ∷ i.exp scope (x.Bool true) ∷ i.exp scope b ∷ [] in
      opened_formed old new stay head.Choice (exp n a ∷ bool n true ∷ exp n b ∷ []) items (choice_form (i.exp scope a) (i.exp scope (x.Bool true)) (i.exp scope b)) r is
      ((scope, at, refl), ((scope, at, refl), ((scope, at, refl), tt))) (heads.choice (i.exp scope a) (i.exp scope (x.Bool true)) (i.exp scope b)) refl

pub unary_formed : (s : Opening) (n : ℕ) (scope : Scope) → ScopeIs s n scope → (o : Unary) (e : Exp) (r : Result (Opened Piece) Halt) → Operates (unary_op o) head.Same (exp n e ∷ []) r
    → FormedAs s s (unary_form scope o e) r
unary_formed s n scope at = unary_by s s refl n scope at

-- ---- `case` and `queryX`

bodies_say : (s : Opening) (n : ℕ) (scope : Scope) → ScopeIs s n scope → (bs : List Branch) → AllZip (SaysFor s) (map (λ b. exp n b.body) bs) (map (λ b. i.exp scope b.body) bs)
bodies_say s n scope at [] = tt
bodies_say s n scope at (b ∷ bs) = ((scope, at, refl), bodies_say s n scope at bs)

abbrev branch_of : Scope → Branch → Pattern × Item
branch_of scope b = (b.pattern, i.exp scope b.body)

patterns_are : (scope : Scope) (bs : List Branch) → map (λ b. b.0) (map (branch_of scope) bs) ≡ map (λ b. b.pattern) bs
patterns_are scope [] = refl
patterns_are scope (b ∷ bs) = ap (λ l. b.pattern ∷ l) (patterns_are scope bs)

bodies_are : (scope : Scope) (bs : List Branch) → map (λ b. b.1) (map (branch_of scope) bs) ≡ map (λ b. i.exp scope b.body) bs
bodies_are scope [] = refl
bodies_are scope (b ∷ bs) = ap (λ l. i.exp scope b.body ∷ l) (bodies_are scope bs)

pub cases_formed : (s : Opening) (n : ℕ) (scope : Scope) → ScopeIs s n scope → (e : Exp) (bs : List Branch) (r : Result (Opened Piece) Halt)
    → IsOpened (head.Case (map (λ b. b.pattern) bs)) (exp n e ∷ map (λ b. exp n b.body) bs) r → FormedAs s s (case_form (i.exp scope e) (map (λ b. (b.pattern, i.exp scope b.body)) bs)) r
cases_formed s n scope at e bs r is =
    let form = case_form (i.exp scope e) (map (branch_of scope) bs) in
    let patterns = map (λ (b : Branch). b.pattern) bs in
    let items = i.exp scope e ∷ map (λ (b : Branch). i.exp scope b.body) bs in
    let hs : heads.Heads (instances_in s) (head.Case patterns) items form =
    subst (λ l. heads.Heads (instances_in s) (head.Case l) items form) (patterns_are scope bs)
    (subst (λ l. heads.Heads (instances_in s) (head.Case (map (λ b. b.0) (map (branch_of scope) bs))) (i.exp scope e ∷ l) form) (bodies_are scope bs)
    (heads.cases (i.exp scope e) (map (branch_of scope) bs))) in
    opened_formed s s refl (head.Case patterns) (exp n e ∷ map (λ (b : Branch). exp n b.body) bs) items form r is ((scope, at, refl), bodies_say s n scope at bs) hs refl

pub each_formed : (s : Opening) (n : ℕ) (scope : Scope) → ScopeIs s n scope → (q : ℕ) (args : List Exp) (body : Exp) (r : Result (Opened Piece) Halt)
    → IsOpened head.Each (asking n q args ∷ exp n body ∷ []) r → FormedAs s s (each_form (i.asking scope q args) (i.exp scope body)) r
each_formed s n scope at q args body r is =
    opened_formed s s refl head.Each (asking n q args ∷ exp n body ∷ []) (i.asking scope q args ∷ i.exp scope body ∷ []) (each_form (i.asking scope q args) (i.exp scope body)) r is
    ((scope, at, refl), ((scope, at, refl), tt)) (heads.each (i.asking scope q args) (i.exp scope body)) refl

-- ---- records

pub fields_say : (s : Opening) (n : ℕ) (scope : Scope) → ScopeIs s n scope → (fs : List FieldExp) → AllZip (SaysFor s) (map (λ g. exp n g.of) fs) (map (λ g. i.exp scope g.of) fs)
fields_say s n scope at [] = tt
fields_say s n scope at (g ∷ fs) = ((scope, at, refl), fields_say s n scope at fs)
