-- The trees that the code makes are those that the definitions name.
use Rattle.std.proofs.Common.{◌≡◌, refl, ap, ℕ, List, [], ◌∷◌}
use Rattle.ur_rows.specs.declared.normal.Label.{Label}
use Rattle.ur_rows.specs.declared.normal.NormalType.{NormalType}
use Rattle.ur_rows.specs.declared.normal.Part.{Part}
use Rattle.ur_tree.specs.declared.exp.Unary.{Unary}
use Rattle.ur_tree.specs.declared.exp.Binary.{Binary}
use Rattle.ur_tree.specs.declared.exp.Param.{Param}
use Rattle.ur_tree.specs.declared.exp.FieldExp.{FieldExp}
use Rattle.ur_tree.specs.declared.exp.Branch.{Branch}
use Rattle.ur_tree.specs.declared.exp.Exp.{Exp}
use Rattle.ur_tree.specs.declared.exp.Exp.TheVariants as exp
use Rattle.ur_tree.specs.declared.exp.Exp.TheBlock as T
use Rattle.ur_tree.specs.Make as make
use Rattle.ur_typed.specs.Rules.{Args, with_arg, ResolvedBranches, ResolvedFields}
use Rattle.ur_check_rules.specs.Views.{args_with, exps_with, branches_with}

pub unary-made : (op : Unary) (a : Exp) → exp.Unary op a ≡ make.unary op a
unfolding T.hidden-the_row-Exp-0 denote.Hole.Carrier.hidden
unary-made op a = refl

pub binary-made : (op : Binary) (a b : Exp) → exp.Binary op a b ≡ make.binary op a b
unfolding T.hidden-the_row-Exp-0 denote.Hole.Carrier.hidden
binary-made op a b = refl

pub fail-made : (t : NormalType) (a : Exp) → exp.Fail t a ≡ make.fail t a
unfolding T.hidden-the_row-Exp-0 denote.Hole.Carrier.hidden
fail-made t a = refl

pub if-made : (c a b : Exp) → exp.If c a b ≡ make.choice c a b
unfolding T.hidden-the_row-Exp-0 denote.Hole.Carrier.hidden
if-made c a b = refl

pub let-made : (t : NormalType) (a b : Exp) → exp.Let t a b ≡ make.local t a b
unfolding T.hidden-the_row-Exp-0 denote.Hole.Carrier.hidden
let-made t a b = refl

pub bind-made : (a b : Exp) → exp.Bind a b ≡ make.bind a b
unfolding T.hidden-the_row-Exp-0 denote.Hole.Carrier.hidden
bind-made a b = refl

pub lambda-made : (ps : List Param) (a : Exp) → exp.Lambda ps a ≡ make.lambda ps a
unfolding T.hidden-the_row-Exp-0 denote.Hole.Carrier.hidden
lambda-made ps a = refl

pub project-made : (a : Exp) (l : Label) → exp.Project a l ≡ make.project a l
unfolding T.hidden-the_row-Exp-0 denote.Hole.Carrier.hidden
project-made a l = refl

pub cut-made : (a : Exp) (l : Label) → exp.Cut a l ≡ make.cut a l
unfolding T.hidden-the_row-Exp-0 denote.Hole.Carrier.hidden
cut-made a l = refl

pub fold-made : (of : NormalType) (acc : Param) (a b : Exp) (r : List Part) → exp.Fold of acc a b r ≡ make.folded of acc a b r
unfolding T.hidden-the_row-Exp-0 denote.Hole.Carrier.hidden
fold-made of acc a b r = refl

args-made : (xs : List Exp) → ◌≡◌ {A = Args} (T.shape-the_row-Exp-1 xs, T.hidden-the_row-Exp-1 xs) (args_with xs)
unfolding T.hidden-the_row-Exp-1 T.shape-the_row-Exp-1 denote.Hole.Carrier.hidden
args-made [] = refl
args-made (x ∷ xs) = ap (λ (k : Args). with_arg x k) (args-made xs)

pub apply-made : (f : Exp) (xs : List Exp) → exp.Apply f xs ≡ make.apply f (args_with xs).0 (args_with xs).1
unfolding T.hidden-the_row-Exp-0 T.shape-the_row-Exp-1 denote.Hole.Carrier.hidden
apply-made f xs = ap (λ (k : Args). make.apply f k.0 k.1) (args-made xs)

pub each-made : (n : ℕ) (xs : List Exp) (a : Exp) → exp.Each n xs a ≡ make.each n (args_with xs).0 (args_with xs).1 a
unfolding T.hidden-the_row-Exp-0 T.shape-the_row-Exp-1 denote.Hole.Carrier.hidden
each-made n xs a = ap (λ (k : Args). make.each n k.0 k.1 a) (args-made xs)

fields-made : (fs : List FieldExp) → ◌≡◌ {A = ResolvedFields} (T.shape-the_row-FieldExp-2 fs, T.hidden-the_row-FieldExp-2 fs) (exps_with fs)
unfolding T.hidden-the_row-FieldExp-2 T.shape-the_row-FieldExp-2 denote.Hole.Carrier.hidden
fields-made [] = refl
fields-made (f ∷ fs) = ap (λ (k : ResolvedFields). (tt ∷ k.0, T.more_of-FieldExp f.name f.of k.1)) (fields-made fs)

pub record-made : (fs : List FieldExp) → exp.Record fs ≡ exp.Record' (exps_with fs).0 (exps_with fs).1
unfolding T.shape-the_row-FieldExp-2
record-made fs = ap (λ (k : ResolvedFields). exp.Record' k.0 k.1) (fields-made fs)

branches-made : (bs : List Branch) → ◌≡◌ {A = ResolvedBranches} (T.shape-the_row-Branch-3 bs, T.hidden-the_row-Branch-3 bs) (branches_with bs)
unfolding T.hidden-the_row-Branch-3 T.shape-the_row-Branch-3 denote.Hole.Carrier.hidden
branches-made [] = refl
branches-made (b ∷ bs) = ap (λ (k : ResolvedBranches). (tt ∷ k.0, T.more_of-Branch b.pattern b.body k.1)) (branches-made bs)

pub case-made : (a : Exp) (bs : List Branch) → exp.Case a bs ≡ make.cases a (branches_with bs).0 (branches_with bs).1
unfolding T.hidden-the_row-Exp-0 T.shape-the_row-Branch-3 denote.Hole.Carrier.hidden
case-made a bs = ap (λ (k : ResolvedBranches). make.cases a k.0 k.1) (branches-made bs)

pub ruleset trees = (if-made, bind-made, apply-made, case-made)
