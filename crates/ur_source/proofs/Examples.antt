-- The forms of some expressions: the table computes.
use Rattle.std.proofs.Common.{◌≡◌, ℕ, Bool, true, false, [], ◌∷◌, None, refl, ap, ◌∙◌}
use Rattle.std.specs.Prelude.{not, ◌||◌}
use denote.Hole.Carrier
use Rattle.ur_terms.specs.declared.term.Op.TheVariants as op
use Rattle.ur_tree.specs.declared.exp.Binary.TheVariants as binary
use Rattle.ur_rows.specs.declared.normal.Label.{Label}
use Rattle.ur_tree.specs.declared.exp.Exp.{Exp, out-Exp, more_of-FieldExp, end_of-FieldExp}
use Rattle.ur_tree.specs.declared.exp.Exp.TheVariants as x
use Rattle.ur_tree.specs.declared.closed.Static.TheVariants as st
use Rattle.ur_meaning.specs.Form.{let_form, strict_form, same_form}
use Rattle.ur_source.specs.Reading.{Cons}
use Rattle.ur_source.specs.Static.{names_static}
use Rattle.ur_source.specs.Items.{Source, Scope, exp, folding, closed, in_step, form_of, open_form, static_in, if_static, is_computed, only_where, binary_form}

-- an operator is no static expression
not_static : (p : Source) (scope : Scope) (a b : Exp) → static_in p scope (x.Binary binary.Add a b) ≡ None
not_static p scope a b = refl

nowhere : (b : Bool) → only_where b None ≡ None
nowhere true = refl
nowhere false = refl

sum_form : (p : Source) (scope : Scope) (a b : Exp) → form_of p (exp scope (x.Binary binary.Add a b)) ≡ strict_form op.Add (exp scope a ∷ exp scope b ∷ [])
sum_form p scope a b =
    ap (open_form p scope (static_in p scope (x.Binary binary.Add a b))) (x.outs-Binary binary.Add a b)
    ∙ ap (λ c. if_static (only_where (is_computed p a || is_computed p b) c) (binary_form scope binary.Add a b)) (not_static p scope a b)
    ∙ ap (λ c. if_static c (binary_form scope binary.Add a b)) (nowhere (is_computed p a || is_computed p b))

-- a record of a function without parameters is a value, and one with a static parameter is none
of_constant : (is : ℕ → Bool) (l : Label) (k : ℕ) → is k ≡ true → names_static is (x.Record' (tt ∷ []) (more_of-FieldExp l (x.Function k []) end_of-FieldExp)) ≡ false
of_constant is l k e = ap (λ b. not b || false) e

of_parameter : (is : ℕ → Bool) (l : Label) (i : ℕ) → names_static is (x.Record' (tt ∷ []) (more_of-FieldExp l (x.Fixed i) end_of-FieldExp)) ≡ true
of_parameter is l i = refl

-- two records of values that are joined are evaluated from left to right
join_form : (p : Source) (scope : Scope) (a b : Exp) → is_computed p a ≡ false → is_computed p b ≡ false
    → form_of p (exp scope (x.Binary binary.Join a b)) ≡ strict_form op.Join (exp scope a ∷ exp scope b ∷ [])
join_form p scope a b left right =
    ap (open_form p scope (static_in p scope (x.Binary binary.Join a b))) (x.outs-Binary binary.Join a b)
    ∙ ap (λ c. if_static (only_where c (static_in p scope (x.Binary binary.Join a b))) (binary_form scope binary.Join a b)) (ap (λ c. c || is_computed p b) left ∙ right)

-- a function that is named is its closed static expression
named : (p : Source) (scope : Scope) (k : ℕ) → form_of p (exp scope (x.Function k [])) ≡ same_form (closed (st.Function k []))
unfolding out-Exp Carrier.out
named p scope k = refl

-- the first name's step stands outermost, and the start innermost
two_names : (p : Source) (scope : Scope) (step start : Exp) (first second : Cons)
    → form_of p (folding scope step start (first ∷ second ∷ [])) ≡ let_form (folding scope step start (second ∷ []) ∷ []) (exp (in_step first scope) step)
two_names p scope step start first second = refl

no_names : (p : Source) (scope : Scope) (step start : Exp) → form_of p (folding scope step start []) ≡ same_form (exp scope start)
no_names p scope step start = refl
