-- The trees that the code makes are those that the definitions name.
use Rattle.std.proofs.Common.{◌≡◌, refl, ap, ℕ, List, [], ◌∷◌}
use Rattle.ur_terms.specs.declared.term.AnswerForm.{AnswerForm}
use Rattle.ur_tree.specs.declared.exp.Exp.{Exp}
use Rattle.ur_tree.specs.declared.exp.Exp.TheVariants as exp
use Rattle.ur_tree.specs.declared.exp.Exp.TheBlock as T
use Rattle.ur_tree.specs.Make as make
use Rattle.ur_typed.specs.Rules.{Args, with_arg}
use Rattle.ur_check_rules.specs.Views.{args_with}

pub set-cookie-made : (n : ℕ) (a : Exp) → exp.SetCookie n a ≡ make.set_cookie n a
unfolding T.hidden-the_row-Exp-0 denote.Hole.Carrier.hidden
set-cookie-made n a = refl

args-made : (xs : List Exp) → ◌≡◌ {A = Args} (T.shape-the_row-Exp-1 xs, T.hidden-the_row-Exp-1 xs) (args_with xs)
unfolding T.hidden-the_row-Exp-1 T.shape-the_row-Exp-1 denote.Hole.Carrier.hidden
args-made [] = refl
args-made (x ∷ xs) = ap (λ (k : Args). with_arg x k) (args-made xs)

pub ask-made : (form : AnswerForm) (n : ℕ) (xs : List Exp) → exp.Ask form n xs ≡ exp.Ask' form n (args_with xs).0 (args_with xs).1
unfolding T.shape-the_row-Exp-1
ask-made form n xs = ap (λ (k : Args). exp.Ask' form n k.0 k.1) (args-made xs)

pub write-made : (n : ℕ) (xs : List Exp) → exp.Write n xs ≡ exp.Write' n (args_with xs).0 (args_with xs).1
unfolding T.shape-the_row-Exp-1
write-made n xs = ap (λ (k : Args). exp.Write' n k.0 k.1) (args-made xs)
