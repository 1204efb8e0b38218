-- The forms that a head is with its parts.
use Rattle.std.specs.Prelude.{◌≡◌, ℕ, ℤ, Bool, List, [], ◌∷◌, ◌++◌, map, Some, slice_get}
use Rattle.ur_terms.specs.declared.term.Op.{Op}
use Rattle.ur_terms.specs.declared.term.Pattern.{Pattern}
use Rattle.ur_meaning.specs.Form.{Form, int_form, text_form, bool_form, variable_form, strict_form, same_form, choice_form, let_form, case_form, each_form, call_form, no_form}
use Rattle.ur_meaning.specs.declared.head.Head.{Head}
use Rattle.ur_meaning.specs.declared.head.Head.TheVariants as head

pub data Heads {I K : Type 0} (instances : List K) : Head → List I → Form I K → Type 0 where
  int : (n : ℤ) → Heads instances (head.Int n) [] (int_form n)
  text : (s : List ℕ) → Heads instances (head.Text s) [] (text_form s)
  bool : (b : Bool) → Heads instances (head.Bool b) [] (bool_form b)
  variable : (n : ℕ) → Heads instances (head.Variable n) [] (variable_form n)
  strict : (op : Op) (items : List I) → Heads instances (head.Strict op) items (strict_form op items)
  same : (i : I) → Heads instances head.Same (i ∷ []) (same_form i)
  choice : (c x y : I) → Heads instances head.Choice (c ∷ x ∷ y ∷ []) (choice_form c x y)
  bound : (items : List I) (j : I) → Heads instances head.Let (items ++ j ∷ []) (let_form items j)
  cases : (g : I) (bs : List (Pattern × I)) → Heads instances (head.Case (map (λ b. b.0) bs)) (g ∷ map (λ b. b.1) bs) (case_form g bs)
  each : (g body : I) → Heads instances head.Each (g ∷ body ∷ []) (each_form g body)
  call : (k : K) (args : List I) (j : ℕ) → slice_get instances j ≡ Some k → Heads instances (head.Call j) args (call_form k args)
  nothing : Heads instances head.Nothing [] no_form
