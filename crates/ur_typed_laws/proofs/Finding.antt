-- What has a type within a limit has it within a larger one.
use Rattle.std.proofs.Common.{arith, Bool, true, false, Option, Some, None, List, [], ◌∷◌, ℕ, map}
use Rattle.std.specs.Prelude.{◌≤◌}
use Rattle.ur_values.specs.declared.value.Tag.{Tag}
use Rattle.ur_values.specs.declared.value.Tag.TheVariants as tag
use Rattle.ur_terms.specs.declared.term.Pattern.{Pattern}
use Rattle.ur_rows.specs.declared.normal.Normal.{Normal}
use Rattle.ur_rows.specs.declared.normal.NormalType.{NormalType}
use Rattle.ur_rows.specs.declared.normal.NormalType.TheVariants as ty
use Rattle.ur_rows.specs.declared.normal.Part.{Part}
use Rattle.ur_rows.specs.Apart.{Assumptions}
use Rattle.ur_rows.specs.Made.{record_of}
use Rattle.ur_rows.specs.Put.{instance_type}
use Rattle.ur_rows.specs.Types.{list_of, transaction_of, at_row}
use Rattle.ur_tree.specs.Scalars.{kind_type}
use Rattle.ur_tree.specs.Places.{Place, Sort, place_of, may_have_value}
use Rattle.ur_tree.specs.Places as places
use Rattle.ur_tree.specs.declared.exp.Unary.{Unary}
use Rattle.ur_tree.specs.declared.exp.Unary.TheVariants as unary
use Rattle.ur_tree.specs.declared.exp.Binary.TheVariants as binary
use Rattle.ur_tree.specs.declared.exp.Param.{Param}
use Rattle.ur_tree.specs.declared.exp.Exp.{Exp}
use Rattle.ur_tree.specs.declared.exp.Exp.TheVariants as exp
use Rattle.ur_tree.specs.declared.exp.Exp.TheBlock.{Row_of-Exp, end_of-Exp as alone, more_of-Exp as its, Row_of-FieldExp, end_of-FieldExp, more_of-FieldExp, Row_of-Branch, end_of-Branch, more_of-Branch, Row_of-Markup, end_of-Markup as end, more_of-Markup as more_marks, Held-Exp-Tagged-1, None', Some'}
use Rattle.ur_tree.specs.declared.exp.Markup.{Markup}
use Rattle.ur_tree.specs.declared.exp.Markup.TheVariants as markup
use Rattle.ur_tree.specs.IsStatic.{wants_type}
use Rattle.ur_tree.specs.Heads.{Declared}
use Rattle.ur_tree.specs.Env.{Env, with_value, with_values, within_lambda}
use Rattle.ur_tree.specs.Typing.{Operation, of_two, compares, conses, joins, operation, Typing, TwoSides, OneSide, parameters, called, Applies, are_static_at, step_row, within_step, Literal, is_framed, SpliceAt, ElementAt, Accepts, has_rule, ByRule, Finds, Passes, Found, Wanted, AreFound, AreWanted, HeldIsWanted, FindFields, WantFields, FindBranches, WantBranches, Marks, Mark, HasValue, Checks}

-- ---- rules over what is known of parts

abbrev pub Includes : Typing → Typing → Type 0
Includes P Q = (t : NormalType) → P t → Q t

pub one_side : (op : Unary) {f g w v : Typing} → Includes f g → Includes w v → (t : NormalType) → OneSide op f w t → OneSide op g v t
one_side unary.Neg i j t x = (x.0, j ty.Int x.1)
one_side unary.Not i j t x = (x.0, j ty.Bool x.1)
one_side unary.Show i j t x = (x.0, (x.1.0, i x.1.0 x.1.1, x.1.2))
one_side unary.Present i j t x = (x.0, x.1, i x.0 x.2)
one_side unary.Return i j t x = (x.0, x.1, i x.0 x.2)

pub two_sides : (o : Operation) (known : Assumptions) {fa ga wa va fb gb wb vb : Typing} → Includes fa ga → Includes wa va → Includes fb gb → Includes wb vb → (t : NormalType) → TwoSides o known fa wa fb wb t → TwoSides o known ga va gb vb t
two_sides (of_two u v) known i j k l t x = (x.0, j u x.1, l u x.2)
two_sides (compares test) known i j k l t x = (x.0, (x.1.0, i x.1.0 x.1.1, x.1.2, l x.1.0 x.1.3))
two_sides conses known i j k l t x = (x.0, x.1, i x.0 x.2, l (list_of x.0) x.3)
two_sides joins known i j k l t x = (x.0, x.1, x.2, i (record_of x.0) x.3, k (record_of x.1) x.4, x.5)

at_most : (a b c : ℕ) → a ≤ b → b ≤ c → a ≤ c
at_most a b c h i = omega (arith, h, i)

applies : (d : Declared) (most more : ℕ) → most ≤ more → (env : Env) (c : Option (ℕ × List Normal)) (static : List Param → Bool) {f g : Typing} {us vs : List NormalType → Type 0} → Includes f g → ((ts : List NormalType) → us ts → vs ts) → (t : NormalType) → Applies d most env c static f us t → Applies d more env c static g vs t
applies d most more l env (Some c) static i k t x = (x.0, x.1, x.2, at_most _ most more x.3 l, x.4, k (map (λ p. instance_type c.1 p.of) x.0.params) x.5, x.6)
applies d most more l env None static i k t x = (x.0, i x.0 x.1, k (parameters x.0).0 x.2, x.3)

pub literal : (known : Assumptions) (framed : Sort → Bool) {f g : Place → List Part → Type 0} → ((p : Place) (r : List Part) → f p r → g p r) → (t : NormalType) → Literal known framed f t → Literal known framed g t
literal known framed k t x = (x.0, x.1, x.2, x.3, k (place_of x.0) x.1 x.4, x.5)

pub splice_at : (p : Place) (b : Bool) {f g w v : Typing} → Includes f g → Includes w v → (r : List Part) → SpliceAt p b f w r → SpliceAt p b g v r
splice_at places.in_form false i j r x = (x.0, i x.0 x.1, x.2)
splice_at places.in_form true i j r x = (j ty.Xbody x.0, x.1)
splice_at places.in_fields false i j r x = (x.0, i x.0 x.1, x.2)
splice_at places.in_fields true i j r x = (j ty.Xbody x.0, x.1)
splice_at _ b i j r x = (x.0, x.1, j x.0 x.2, x.3)

pub element_at : (known : Assumptions) (p : Place) (g : Tag) {f h : Place → List Part → List Part → Type 0} → ((q : Place) (r s : List Part) → f q r s → h q r s) → (r own : List Part) → ElementAt known p g f r own → ElementAt known p g h r own
element_at known p tag.Form k r own x = (x.0, (x.1.0, k places.in_form x.1.0 x.1.0 x.1.1, x.1.2), x.2)
element_at known p _ k r own x = (x.0, x.1, k x.0 own r x.2)

pub accepts : (most more : ℕ) → most ≤ more → (e : Exp) (t : NormalType) → Accepts most e t → Accepts more e t
accepts most more l e t x = (at_most _ most more x.0 l, x.1, x.2)

pub by_rule : (b : Bool) {P Q R S : Type 0} → (P → R) → (Q → S) → ByRule b P Q → ByRule b R S
by_rule true f g x = f x
by_rule false f g x = g x

-- ---- all forms

mutual
  finds : (d : Declared) (m n : ℕ) → m ≤ n → (env : Env) (x : Exp) (t : NormalType) → Finds d m env x t → Finds d n env x t
  finds d m n l env (exp.Int i) t x = x
  finds d m n l env (exp.Str s) t x = x
  finds d m n l env (exp.Bool b) t x = x
  finds d m n l env exp.Unit t x = x
  finds d m n l env (exp.Variable i) t x = x
  finds d m n l env (exp.Fixed i) t x = x
  finds d m n l env (exp.Val v) t x = x
  finds d m n l env (exp.Function f cons) t x = x
  finds d m n l env (exp.Apply' _ f (_ ∷ s) args) t x = applies d m n l env (called f) (λ ps. are_static_at ps args) (λ u y. found d m n l env f u y) (λ us y. are_wanted d m n l env args us y) t x
  finds d m n l env (exp.Lambda' params _ e) t x = (x.0, (x.1.0, x.1.1, x.1.2, found d m n l (within_lambda params env) e x.1.0 x.1.3))
  finds d m n l env (exp.Record' _ fs) t x = (x.0, x.1, find_fields d m n l env fs x.0 x.2, x.3)
  finds d m n l env (exp.Project' _ e k) t x = (x.0, found d m n l env e (record_of x.0) x.1, x.2)
  finds d m n l env (exp.Cut' _ e k) t x = (x.0, x.1, found d m n l env e (record_of x.0) x.2, x.3, x.4)
  finds d m n l env (exp.Unary' op _ e) t x = one_side op (λ u y. found d m n l env e u y) (λ u y. wanted d m n l env e u y) t x
  finds d m n l env (exp.Binary' op _ a _ b) t x = two_sides (operation op) env.known (λ u y. found d m n l env a u y) (λ u y. wanted d m n l env a u y) (λ u y. found d m n l env b u y) (λ u y. wanted d m n l env b u y) t x
  finds d m n l env (exp.Tagged' c e) t x = (x.0, x.1, x.2, held d m n l env e x.0.1 x.3)
  finds d m n l env (exp.If' _ c _ a _ b) t x = (wanted d m n l env c ty.Bool x.0, found d m n l env a t x.1, wanted d m n l env b t x.2)
  finds d m n l env (exp.Case' _ e _ branches) t x = (x.0, x.1, found d m n l env e x.0 x.2, find_branches d m n l env x.0 branches x.1 t x.3, x.4)
  finds d m n l env (exp.Let' u _ e _ rest) t x = (x.0, x.1, wanted d m n l env e u x.2, found d m n l (with_value u env) rest t x.3)
  finds d m n l env (exp.Bind' _ a _ b) t x = (x.0, x.1, found d m n l env a (transaction_of x.0) x.2, x.3, found d m n l (with_value x.0 env) b t x.4)
  finds d m n l env (exp.Next q) t x = x
  finds d m n l env (exp.GetCookie c) t x = x
  finds d m n l env (exp.SetCookie' c _ e) t x = (x.0, x.1, wanted d m n l env e (kind_type x.0) x.2, x.3)
  finds d m n l env (exp.Write' u _ args) t x = (x.0, x.1, are_found d m n l env args (map kind_type x.0) x.2, x.3)
  finds d m n l env (exp.Ask' how q _ args) t x = (x.0, x.1, are_found d m n l env args (map kind_type x.0.0) x.2, x.3)
  finds d m n l env (exp.Each' q _ args _ rest) t x = (x.0, x.1, x.2, are_found d m n l env args (map kind_type x.0.0) x.3, found d m n l (with_value (record_of x.0.1) env) rest x.1 x.4, x.5, x.6)
  finds d m n l env (exp.Fold' f acc _ step _ start r) t x = (x.0, x.1, x.2, x.3, wanted d m n l env start (at_row f []) x.4, wanted d m n l (within_step acc env) step (at_row f (step_row env)) x.5, x.6)
  finds d m n l env (exp.Xml' u _ parts) t x = (x.0, x.1, literal env.known (λ s. is_framed s parts) (λ p r y. marks d m n l env p parts [] r y) u x.2)
  finds d m n l env _ t x = absurd x

  passes : (d : Declared) (m n : ℕ) → m ≤ n → (env : Env) (x : Exp) (t : NormalType) → Passes d m env x t → Passes d n env x t
  passes d m n l env (exp.Absent u) t x = x
  passes d m n l env (exp.Empty u) t x = x
  passes d m n l env (exp.Fail' u _ e) t x = (x.0, wanted d m n l env e ty.Xbody x.1)
  passes d m n l env (exp.Unary' unary.Present _ e) t x = (x.0, x.1, wanted d m n l env e x.0 x.2)
  passes d m n l env (exp.Unary' unary.Return _ e) t x = (x.0, x.1, wanted d m n l env e x.0 x.2)
  passes d m n l env (exp.Binary' binary.Cons _ a _ b) t x = (x.0, x.1, wanted d m n l env a x.0 x.2, wanted d m n l env b t x.3)
  passes d m n l env (exp.Record' _ fs) t x = (x.0, x.1, want_fields d m n l env fs x.0 x.2, x.3)
  passes d m n l env (exp.Lambda' params _ e) t x = (x.0, (x.1.0, x.1.1, x.1.2, wanted d m n l (within_lambda params env) e x.1.0 x.1.3))
  passes d m n l env (exp.If' _ c _ a _ b) t x = (wanted d m n l env c ty.Bool x.0, wanted d m n l env a t x.1, wanted d m n l env b t x.2)
  passes d m n l env (exp.Case' _ e _ branches) t x = (x.0, x.1, found d m n l env e x.0 x.2, want_branches d m n l env x.0 branches x.1 t x.3, x.4)
  passes d m n l env (exp.Let' u _ e _ rest) t x = (x.0, x.1, wanted d m n l env e u x.2, wanted d m n l (with_value u env) rest t x.3)
  passes d m n l env (exp.Bind' _ a _ b) t x = (x.0, x.1, found d m n l env a (transaction_of x.0) x.2, x.3, wanted d m n l (with_value x.0 env) b t x.4)
  passes d m n l env (exp.Each' q _ args _ rest) t x = (x.0, x.1, x.2, are_found d m n l env args (map kind_type x.0.0) x.3, wanted d m n l (with_value (record_of x.0.1) env) rest x.1 x.4, x.5, x.6)
  passes d m n l env (exp.Xml' u _ parts) t x = (x.0, literal env.known (λ s. is_framed s parts) (λ p r y. marks d m n l env p parts [] r y) t x.1)
  passes d m n l env _ t x = absurd x

  found : {k : _} (d : Declared) (m n : ℕ) → m ≤ n → (env : Env) (xs : Row_of-Exp k) (t : NormalType) → Found d m env xs t → Found d n env xs t
  found d m n l env alone t x = absurd x
  found d m n l env (its e rest) t x = (finds d m n l env e t x.0, accepts m n l e t x.1)

  wanted : {k : _} (d : Declared) (m n : ℕ) → m ≤ n → (env : Env) (xs : Row_of-Exp k) (t : NormalType) → Wanted d m env xs t → Wanted d n env xs t
  wanted d m n l env alone t x = absurd x
  wanted d m n l env (its e rest) t x = (by_rule (has_rule e) (λ y. passes d m n l env e t y) (λ y. finds d m n l env e t y) x.0, accepts m n l e t x.1)

  are_found : {k : _} (d : Declared) (m n : ℕ) → m ≤ n → (env : Env) (xs : Row_of-Exp k) (ts : List NormalType) → AreFound d m env xs ts → AreFound d n env xs ts
  are_found d m n l env alone ts x = x
  are_found d m n l env (its e rest) ts x = (x.0, x.1, x.2, finds d m n l env e x.0 x.3, accepts m n l e x.0 x.4, are_found d m n l env rest x.1 x.5)

  are_wanted : {k : _} (d : Declared) (m n : ℕ) → m ≤ n → (env : Env) (xs : Row_of-Exp k) (ts : List NormalType) → AreWanted d m env xs ts → AreWanted d n env xs ts
  are_wanted d m n l env alone ts x = x
  are_wanted d m n l env (its e rest) ts x = (x.0, x.1, x.2, by_rule (has_rule e) (λ y. passes d m n l env e x.0 y) (λ y. finds d m n l env e x.0 y) x.3, accepts m n l e x.0 x.4, are_wanted d m n l env rest x.1 x.5)

  held : (d : Declared) (m n : ℕ) → m ≤ n → (env : Env) (h : Held-Exp-Tagged-1) (a : Option NormalType) → HeldIsWanted d m env h a → HeldIsWanted d n env h a
  held d m n l env None' a x = x
  held d m n l env (Some' _ e) a x = (x.0, x.1, wanted d m n l env e x.0 x.2)

  find_fields : {k : _} (d : Declared) (m n : ℕ) → m ≤ n → (env : Env) (fs : Row_of-FieldExp k) (r : List Part) → FindFields d m env fs r → FindFields d n env fs r
  find_fields d m n l env end_of-FieldExp r x = x
  find_fields d m n l env (more_of-FieldExp k e rest) r x = (x.0, x.1, x.2, x.3, finds d m n l env e x.0 x.4, accepts m n l e x.0 x.5, find_fields d m n l env rest x.1 x.6)

  want_fields : {k : _} (d : Declared) (m n : ℕ) → m ≤ n → (env : Env) (fs : Row_of-FieldExp k) (r : List Part) → WantFields d m env fs r → WantFields d n env fs r
  want_fields d m n l env end_of-FieldExp r x = x
  want_fields d m n l env (more_of-FieldExp k e rest) r x = (x.0, x.1, x.2, x.3, by_rule (has_rule e) (λ y. passes d m n l env e x.0 y) (λ y. finds d m n l env e x.0 y) x.4, accepts m n l e x.0 x.5, want_fields d m n l env rest x.1 x.6)

  find_branches : {k : _} (d : Declared) (m n : ℕ) → m ≤ n → (env : Env) (u : NormalType) (bs : Row_of-Branch k) (ps : List Pattern) (t : NormalType) → FindBranches d m env u bs ps t → FindBranches d n env u bs ps t
  find_branches d m n l env u end_of-Branch ps t x = absurd x
  find_branches d m n l env u (more_of-Branch p e rest) ps t x = (x.0, x.1, x.2, x.3, finds d m n l (with_values x.0 env) e t x.4, accepts m n l e t x.5, want_branches d m n l env u rest x.1 t x.6)

  want_branches : {k : _} (d : Declared) (m n : ℕ) → m ≤ n → (env : Env) (u : NormalType) (bs : Row_of-Branch k) (ps : List Pattern) (t : NormalType) → WantBranches d m env u bs ps t → WantBranches d n env u bs ps t
  want_branches d m n l env u end_of-Branch ps t x = x
  want_branches d m n l env u (more_of-Branch p e rest) ps t x = (x.0, x.1, x.2, x.3, by_rule (has_rule e) (λ y. passes d m n l (with_values x.0 env) e t y) (λ y. finds d m n l (with_values x.0 env) e t y) x.4, accepts m n l e t x.5, want_branches d m n l env u rest x.1 t x.6)

  marks : {k : _} (d : Declared) (m n : ℕ) → m ≤ n → (env : Env) (p : Place) (xs : Row_of-Markup k) (own r : List Part) → Marks d m env p xs own r → Marks d n env p xs own r
  marks d m n l env p end own r x = x
  marks d m n l env p (more_marks y rest) own r x = (x.0, x.1, x.2, mark d m n l env p y own x.0 x.3, marks d m n l env p rest own x.1 x.4)

  mark : (d : Declared) (m n : ℕ) → m ≤ n → (env : Env) (p : Place) (y : Markup) (own r : List Part) → Mark d m env p y own r → Mark d n env p y own r
  mark d m n l env p (markup.Text s) own r x = x
  mark d m n l env p (markup.Shown e) own r x = (x.0, (x.1.0, finds d m n l env e x.1.0 x.1.1, accepts m n l e x.1.0 x.1.2, x.1.3), x.2)
  mark d m n l env p (markup.Splice e) own r x = splice_at p (wants_type e) (λ t y. (finds d m n l env e t y.0, accepts m n l e t y.1)) (λ t y. (by_rule (has_rule e) (λ z. passes d m n l env e t z) (λ z. finds d m n l env e t z) y.0, accepts m n l e t y.1)) r x
  mark d m n l env p (markup.Element' g _ parts) own r x = element_at env.known p g (λ q i o y. marks d m n l env q parts i o y) r own x
  mark d m n l env p (markup.Link' f _ args _ parts) own r x = (x.0, (x.1.0, x.1.1, x.1.2, are_wanted d m n l env args x.1.0 x.1.3), marks d m n l env p parts own r x.2)
  mark d m n l env p (markup.Input' k f v) own r x = (x.0, x.1, has_value d m n l env (may_have_value k) v x.2, x.3)
  mark d m n l env p (markup.Submit' f _ args v) own r x = (x.0, (x.1.0, x.1.1, x.1.2, are_wanted d m n l env args x.1.0 x.1.3), has_value d m n l env true v x.2, x.3)

  has_value : (d : Declared) (m n : ℕ) → m ≤ n → (env : Env) (b : Bool) (h : Held-Exp-Tagged-1) → HasValue d m env b h → HasValue d n env b h
  has_value d m n l env b None' x = x
  has_value d m n l env b (Some' _ e) x = (x.0, wanted d m n l env e ty.Str x.1)

pub checks : (d : Declared) (m n : ℕ) → m ≤ n → (env : Env) (x : Exp) (t : NormalType) → Checks d m env x t → Checks d n env x t
checks d m n l env x t c = by_rule (has_rule x) (λ y. passes d m n l env x t y) (λ y. finds d m n l env x t y) c
