-- The forms that bind names or choose, as the definitions name them.
use Rattle.std.proofs.Common.{◌≡◌, refl, ap, subst, List, [], ◌∷◌}
use Rattle.ur_base.specs.Shape.{Shape, count}
use Rattle.ur_base.specs.declared.refusal.Refusal.{Refusal}
use Rattle.ur_syntax.specs.declared.exp.Binder.{Binder}
use Rattle.ur_syntax.specs.declared.exp.LambdaParam.{LambdaParam}
use Rattle.ur_syntax.specs.declared.exp.Branch.{Branch}
use Rattle.ur_syntax.specs.declared.exp.LetVal.{LetVal}
use Rattle.ur_syntax.specs.declared.exp.Exp.{Exp}
use Rattle.ur_syntax.specs.declared.exp.ExpForm.{ExpForm, end_of-Exp as alone, more_of-Exp as its, Row_of-Branch, more_of-Branch, Row_of-LetVal, more_of-LetVal}
use Rattle.ur_syntax.specs.declared.exp.ExpForm.TheVariants as e
use Rattle.ur_syntax.specs.declared.exp.ExpForm.TheBlock as T
use Rattle.ur_typed_rules.specs.Scopes.{World, Scope, Mode}
use Rattle.ur_typed.specs.Rules.{Sites}
use Rattle.ur_typed.specs.Causes.{HasFault}
use Rattle.ur_check_scopes.specs.declared.around.Around.{Around}
use Rattle.ur_check_walk.specs.Binding.{branch_row, val_row}

-- the names of datatypes are those of the world, which is the same further in
pub told-there : (a i : Around) {w : World} {s : Scope} {st : Sites} {x : ExpForm} {m : Mode} {r : Refusal} → i.world ≡ a.world → HasFault i.world.now.datatype_names w s st x m r → HasFault a.world.now.datatype_names w s st x m r
told-there a i {w = w} {s = s} {st = st} {x = x} {m = m} {r = r} k h = subst (λ z. HasFault z.now.datatype_names w s st x m r) k h

pub if-plain : (c a b : Exp) → e.If c a b ≡ e.If' tt (its c.span c.form alone) tt (its a.span a.form alone) tt (its b.span b.form alone)
unfolding T.hidden-the_row-Exp-0 denote.Hole.Carrier.hidden
if-plain c a b = refl

pub bind-plain : (x : Binder) (a b : Exp) → e.Bind x a b ≡ e.Bind' x tt (its a.span a.form alone) tt (its b.span b.form alone)
unfolding T.hidden-the_row-Exp-0 denote.Hole.Carrier.hidden
bind-plain x a b = refl

pub seq-plain : (a b : Exp) → e.Seq a b ≡ e.Seq' tt (its a.span a.form alone) tt (its b.span b.form alone)
unfolding T.hidden-the_row-Exp-0 denote.Hole.Carrier.hidden
seq-plain a b = refl

pub lambda-plain : (ps : List LambdaParam) (a : Exp) → e.Lambda ps a ≡ e.Lambda' ps tt (its a.span a.form alone)
unfolding T.hidden-the_row-Exp-0 denote.Hole.Carrier.hidden
lambda-plain ps a = refl

branch-row-made : (bs : List Branch) → ◌≡◌ {A = (s : Shape) × Row_of-Branch (count s)} (T.shape-the_row-Branch-1 bs, T.hidden-the_row-Branch-1 bs) (branch_row bs)
unfolding T.hidden-the_row-Branch-1 T.shape-the_row-Branch-1 denote.Hole.Carrier.hidden
branch-row-made [] = refl
branch-row-made (b ∷ bs) = ap (λ (k : (s : Shape) × Row_of-Branch (count s)). (tt ∷ k.0, more_of-Branch b.pat b.body.span b.body.form k.1)) (branch-row-made bs)

pub case-plain : (a : Exp) (bs : List Branch) → e.Case a bs ≡ e.Case' tt (its a.span a.form alone) (branch_row bs).0 (branch_row bs).1
unfolding T.hidden-the_row-Exp-0 T.shape-the_row-Branch-1 denote.Hole.Carrier.hidden
case-plain a bs = ap (λ (k : (s : Shape) × Row_of-Branch (count s)). e.Case' tt (its a.span a.form alone) k.0 k.1) (branch-row-made bs)

val-row-made : (vs : List LetVal) → ◌≡◌ {A = (s : Shape) × Row_of-LetVal (count s)} (T.shape-the_row-LetVal-4 vs, T.hidden-the_row-LetVal-4 vs) (val_row vs)
unfolding T.hidden-the_row-LetVal-4 T.shape-the_row-LetVal-4 denote.Hole.Carrier.hidden
val-row-made [] = refl
val-row-made (v ∷ vs) = ap (λ (k : (s : Shape) × Row_of-LetVal (count s)). (tt ∷ k.0, more_of-LetVal v.span v.name v.con v.value.span v.value.form k.1)) (val-row-made vs)

pub let-plain : (vs : List LetVal) (b : Exp) → e.Let vs b ≡ e.Let' (val_row vs).0 (val_row vs).1 tt (its b.span b.form alone)
unfolding T.hidden-the_row-Exp-0 T.shape-the_row-LetVal-4 denote.Hole.Carrier.hidden
let-plain vs b = ap (λ (k : (s : Shape) × Row_of-LetVal (count s)). e.Let' k.0 k.1 tt (its b.span b.form alone)) (val-row-made vs)
