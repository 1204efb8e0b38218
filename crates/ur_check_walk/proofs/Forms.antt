-- The forms that the code matches, as the definitions name them.
use Rattle.std.proofs.Common.{◌≡◌, refl}
use Rattle.ur_syntax.specs.declared.con.Con.{Con}
use Rattle.ur_syntax.specs.declared.con.FieldName.{FieldName}
use Rattle.ur_syntax.specs.declared.sql.DeclName.{DeclName}
use Rattle.ur_syntax.specs.declared.exp.Binary.{Binary}
use Rattle.ur_syntax.specs.declared.exp.Exp.{Exp}
use Rattle.ur_syntax.specs.declared.exp.Removed.{Removed}
use Rattle.ur_syntax.specs.declared.exp.ExpForm.{end_of-Exp as alone, more_of-Exp as its}
use Rattle.ur_syntax.specs.declared.exp.ExpForm.TheVariants as e
use Rattle.ur_syntax.specs.declared.exp.ExpForm.TheBlock as T

pub negative-made : (a : Exp) → e.Negative a ≡ e.Negative' tt (its a.span a.form alone)
unfolding T.hidden-the_row-Exp-0 denote.Hole.Carrier.hidden
negative-made a = refl

pub not-made : (a : Exp) → e.Not a ≡ e.Not' tt (its a.span a.form alone)
unfolding T.hidden-the_row-Exp-0 denote.Hole.Carrier.hidden
not-made a = refl

pub show-made : (a : Exp) → e.Show a ≡ e.Show' tt (its a.span a.form alone)
unfolding T.hidden-the_row-Exp-0 denote.Hole.Carrier.hidden
show-made a = refl

pub some-made : (a : Exp) → e.Some a ≡ e.Some' tt (its a.span a.form alone)
unfolding T.hidden-the_row-Exp-0 denote.Hole.Carrier.hidden
some-made a = refl

pub return-made : (a : Exp) → e.Return a ≡ e.Return' tt (its a.span a.form alone)
unfolding T.hidden-the_row-Exp-0 denote.Hole.Carrier.hidden
return-made a = refl

pub error-made : (a : Exp) → e.Error a ≡ e.Error' tt (its a.span a.form alone)
unfolding T.hidden-the_row-Exp-0 denote.Hole.Carrier.hidden
error-made a = refl

pub binary-made : (o : Binary) (a b : Exp) → e.Binary o a b ≡ e.Binary' o tt (its a.span a.form alone) tt (its b.span b.form alone)
unfolding T.hidden-the_row-Exp-0 denote.Hole.Carrier.hidden
binary-made o a b = refl

pub app-made : (a b : Exp) → e.App a b ≡ e.App' tt (its a.span a.form alone) tt (its b.span b.form alone)
unfolding T.hidden-the_row-Exp-0 denote.Hole.Carrier.hidden
app-made a b = refl

pub con-app-made : (a : Exp) (c : Con) → e.ConApp a c ≡ e.ConApp' tt (its a.span a.form alone) c
unfolding T.hidden-the_row-Exp-0 denote.Hole.Carrier.hidden
con-app-made a c = refl

pub project-made : (a : Exp) (f : FieldName) → e.Project a f ≡ e.Project' tt (its a.span a.form alone) f
unfolding T.hidden-the_row-Exp-0 denote.Hole.Carrier.hidden
project-made a f = refl

pub remove-made : (a : Exp) (r : Removed) → e.Remove a r ≡ e.Remove' tt (its a.span a.form alone) r
unfolding T.hidden-the_row-Exp-0 denote.Hole.Carrier.hidden
remove-made a r = refl

pub set-cookie-made : (x : DeclName) (a : Exp) → e.SetCookie x a ≡ e.SetCookie' x tt (its a.span a.form alone)
unfolding T.hidden-the_row-Exp-0 denote.Hole.Carrier.hidden
set-cookie-made x a = refl
