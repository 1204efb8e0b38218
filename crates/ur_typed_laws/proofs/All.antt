-- What is typed resolves and has its type by the rules: all forms.
use Rattle.std.proofs.Common.{◌≡◌, refl, false}
use Rattle.ur_base.specs.declared.refusal.Span.{Span}
use Rattle.ur_syntax.specs.declared.exp.Binary.{Binary as WrittenBinary}
use Rattle.ur_syntax.specs.declared.exp.Binary.TheVariants as op
use Rattle.ur_syntax.specs.declared.exp.ExpForm.{ExpForm, Row_of-Exp, end_of-Exp as alone, more_of-Exp as its, Row_of-Field, end_of-Field, more_of-Field, Row_of-Branch, end_of-Branch, more_of-Branch, Row_of-LetVal, end_of-LetVal, more_of-LetVal}
use Rattle.ur_syntax.specs.declared.exp.ExpForm.TheVariants as e
use Rattle.ur_rows.specs.declared.normal.NormalType.TheVariants as ty
use Rattle.ur_tree.specs.Scalars.{is_basic, is_ordered}
use Rattle.ur_typed_rules.specs.Scopes.{World}
use Rattle.ur_typed_rules.proofs.Rows.{told, arguments_decided}
use Rattle.ur_typed.specs.Parts.{is_applied}
use Rattle.ur_typed_laws.specs.Judged.{AreTold, ArgumentsAreTold, Sound, TypedIsSound}
use Rattle.ur_typed_laws.proofs.Sound.{int_sound, string_sound, unit_sound, negative_sound, not_sound}
use Rattle.ur_typed_laws.proofs.Forms.{show_sound, some_sound, return_sound, error_sound, two_asks, compared_asks, operator_sound, if_sound, bind_sound, seq_sound, next_sound, get_cookie_sound}
use Rattle.ur_typed_laws.proofs.Names.{var_sound, member_sound, project_sound}
use Rattle.ur_typed_laws.proofs.Further.{nil_sound, constructor_sound, member_constructor_sound, cons_sound, join_sound, cut_sound, FirstFieldIsSound, FirstIsSound, cookie_sound}
use Rattle.ur_typed_laws.proofs.Branching.{AreSound, case_sound}
use Rattle.ur_typed_laws.proofs.Binding.{ValsAreSound, let_sound, lambda_sound}
use Rattle.ur_typed_laws.proofs.Folding.{BodyIsSound, fold_sound}
use Rattle.ur_typed_laws.proofs.Stating.{RowIsSound, query_sound, change_sound, each_sound}
use Rattle.ur_typed_laws.proofs.Applications.{SpineIsSound, head_sound, spine_sound, application_sound, instance_sound}
use Rattle.ur_typed_laws.proofs.Marking.{SpineArgsSound, TargetsSound}
use Rattle.ur_typed_laws.proofs.Elements.{xml_sound}
use Rattle.ur_typed_laws.proofs.Records.{AreSoundFields, record_sound}

told_so : AreTold
told_so t u h = (told t u).0 h

arguments_so : ArgumentsAreTold
arguments_so env cons args h = (arguments_decided env cons args).0 h

pub any_operator_sound : AreTold → (w : World) (o : WrittenBinary) → (p q : Span) (x y : ExpForm) → Sound w x → Sound w y → Sound w (e.Binary' o tt (its p x alone) tt (its q y alone))
any_operator_sound told w op.Or = operator_sound told w op.Or (two_asks w ty.Bool ty.Bool) (λ d most env a b t f. f)
any_operator_sound told w op.And = operator_sound told w op.And (two_asks w ty.Bool ty.Bool) (λ d most env a b t f. f)
any_operator_sound told w op.Eq = operator_sound told w op.Eq (compared_asks w is_basic) (λ d most env a b t f. f)
any_operator_sound told w op.Ne = operator_sound told w op.Ne (compared_asks w is_basic) (λ d most env a b t f. f)
any_operator_sound told w op.Lt = operator_sound told w op.Lt (compared_asks w is_ordered) (λ d most env a b t f. f)
any_operator_sound told w op.Le = operator_sound told w op.Le (compared_asks w is_ordered) (λ d most env a b t f. f)
any_operator_sound told w op.Gt = operator_sound told w op.Gt (compared_asks w is_ordered) (λ d most env a b t f. f)
any_operator_sound told w op.Ge = operator_sound told w op.Ge (compared_asks w is_ordered) (λ d most env a b t f. f)
any_operator_sound told w op.Append = operator_sound told w op.Append (two_asks w ty.Str ty.Str) (λ d most env a b t f. f)
any_operator_sound told w op.Add = operator_sound told w op.Add (two_asks w ty.Int ty.Int) (λ d most env a b t f. f)
any_operator_sound told w op.Sub = operator_sound told w op.Sub (two_asks w ty.Int ty.Int) (λ d most env a b t f. f)
any_operator_sound told w op.Mul = operator_sound told w op.Mul (two_asks w ty.Int ty.Int) (λ d most env a b t f. f)
any_operator_sound told w op.Div = operator_sound told w op.Div (two_asks w ty.Int ty.Int) (λ d most env a b t f. f)
any_operator_sound told w op.Rem = operator_sound told w op.Rem (two_asks w ty.Int ty.Int) (λ d most env a b t f. f)
any_operator_sound told w op.Cons = cons_sound told w
any_operator_sound told w op.Concat = join_sound told w

-- an expression, what an application along it comes to, and what is in it where it is a function, a record or an application
record Whole (w : World) (x : ExpForm) : Type 0 where
  sound : Sound w x
  spine : SpineIsSound w x
  body : BodyIsSound w x
  first : FirstIsSound w x
  args : SpineArgsSound w x

whole_by : (w : World) (x : ExpForm) → is_applied x ≡ false → Sound w x → BodyIsSound w x → FirstIsSound w x → SpineArgsSound w x → Whole w x
whole_by w x a k b f r = record { sound = k; spine = head_sound arguments_so w x a k; body = b; first = f; args = r }

mutual
  whole_of : (w : World) (x : ExpForm) → Whole w x
  whole_of w (e.Int n) = whole_by w (e.Int n) refl (int_sound told_so w n) tt tt tt
  whole_of w (e.Str s) = whole_by w (e.Str s) refl (string_sound told_so w s) tt tt tt
  whole_of w e.Unit = whole_by w e.Unit refl (unit_sound told_so w) tt tt tt
  whole_of w e.Nil = whole_by w e.Nil refl (nil_sound told_so w) tt tt tt
  whole_of w (e.Var x) = whole_by w (e.Var x) refl (var_sound told_so arguments_so w x) tt tt tt
  whole_of w (e.Member m x) = whole_by w (e.Member m x) refl (member_sound told_so arguments_so w m x) tt tt tt
  whole_of w (e.Constructor x) = whole_by w (e.Constructor x) refl (constructor_sound told_so w x) tt tt tt
  whole_of w (e.MemberConstructor m x) = whole_by w (e.MemberConstructor m x) refl (member_constructor_sound told_so w m x) tt tt tt
  whole_of w (e.ConApp' _ (its p x alone) c) = whole_by w (e.ConApp' tt (its p x alone) c) refl (instance_sound told_so arguments_so w p x c) tt tt tt
  whole_of w (e.App' _ (its p f alone) _ (its q a alone)) =
      record { sound = application_sound told_so w p q f a (whole_of w f).spine (whole_of w a).sound; spine = spine_sound w p q f a (whole_of w f).spine (whole_of w a).sound; body = tt; first = tt; args = ((whole_of w f).args, (whole_of w a).sound) }
  whole_of w (e.Negative' _ (its p x alone)) = whole_by w (e.Negative' tt (its p x alone)) refl (negative_sound told_so w p x (whole_of w x).sound) tt tt tt
  whole_of w (e.Not' _ (its p x alone)) = whole_by w (e.Not' tt (its p x alone)) refl (not_sound told_so w p x (whole_of w x).sound) tt tt tt
  whole_of w (e.Show' _ (its p x alone)) = whole_by w (e.Show' tt (its p x alone)) refl (show_sound told_so w p x (whole_of w x).sound) tt tt tt
  whole_of w (e.Some' _ (its p x alone)) = whole_by w (e.Some' tt (its p x alone)) refl (some_sound told_so w p x (whole_of w x).sound) tt tt tt
  whole_of w (e.Return' _ (its p x alone)) = whole_by w (e.Return' tt (its p x alone)) refl (return_sound told_so w p x (whole_of w x).sound) tt tt tt
  whole_of w (e.Error' _ (its p x alone)) = whole_by w (e.Error' tt (its p x alone)) refl (error_sound told_so w p x (whole_of w x).sound) tt tt tt
  whole_of w (e.Binary' o _ (its p x alone) _ (its q y alone)) = whole_by w (e.Binary' o tt (its p x alone) tt (its q y alone)) refl (any_operator_sound told_so w o p q x y (whole_of w x).sound (whole_of w y).sound) tt tt tt
  whole_of w (e.If' _ (its p x alone) _ (its q y alone) _ (its r z alone)) =
      whole_by w (e.If' tt (its p x alone) tt (its q y alone) tt (its r z alone)) refl (if_sound told_so w p q r x y z (whole_of w x).sound (whole_of w y).sound (whole_of w z).sound) tt tt tt
  whole_of w (e.Case' _ (its p x alone) n bs) = whole_by w (e.Case' tt (its p x alone) n bs) refl (case_sound w p x n bs (whole_of w x).sound (branches_of w bs)) tt tt tt
  whole_of w (e.Let' n vs _ (its r b alone)) = whole_by w (e.Let' n vs tt (its r b alone)) refl (let_sound w n vs r b (vals_of w vs) (whole_of w b).sound) tt tt tt
  whole_of w (e.Bind' b _ (its p x alone) _ (its q y alone)) = whole_by w (e.Bind' b tt (its p x alone) tt (its q y alone)) refl (bind_sound told_so w b p q x y (whole_of w x).sound (whole_of w y).sound) tt tt tt
  whole_of w (e.Seq' _ (its p x alone) _ (its q y alone)) = whole_by w (e.Seq' tt (its p x alone) tt (its q y alone)) refl (seq_sound told_so w p q x y (whole_of w x).sound (whole_of w y).sound) tt tt tt
  whole_of w (e.Lambda' ps _ (its p b alone)) = whole_by w (e.Lambda' ps tt (its p b alone)) refl (lambda_sound told_so w ps p b (whole_of w b).sound) (whole_of w b).sound tt tt
  whole_of w (e.Record' n fs) = whole_by w (e.Record' n fs) refl (record_sound told_so w n fs (fields_of w fs)) tt (first_of w fs) tt
  whole_of w (e.Project' _ (its p x alone) l) = whole_by w (e.Project' tt (its p x alone) l) refl (project_sound told_so w p x l (whole_of w x).sound) tt tt tt
  whole_of w (e.Remove' _ (its p x alone) r) = whole_by w (e.Remove' tt (its p x alone) r) refl (cut_sound told_so w p x r (whole_of w x).sound) tt tt tt
  whole_of w (e.Nextval x) = whole_by w (e.Nextval x) refl (next_sound told_so w x) tt tt tt
  whole_of w (e.GetCookie x) = whole_by w (e.GetCookie x) refl (get_cookie_sound told_so w x) tt tt tt
  whole_of w (e.SetCookie' x _ (its p y alone)) = whole_by w (e.SetCookie' x tt (its p y alone)) refl (cookie_sound told_so w x p y (whole_of w y).first) tt tt tt
  whole_of w (e.Fold' f _ (its p x alone) _ (its q y alone) r) = whole_by w (e.Fold' f tt (its p x alone) tt (its q y alone) r) refl (fold_sound told_so w f p x q y r (whole_of w x).body (whole_of w y).sound) tt tt tt
  whole_of w (e.Dml' u n args) = whole_by w (e.Dml' u n args) refl (change_sound told_so w u n args (row_of w args)) tt tt tt
  whole_of w (e.Query' how q n args) = whole_by w (e.Query' how q n args) refl (query_sound told_so w how q n args (row_of w args)) tt tt tt
  whole_of w (e.QueryX' q n args _ (its p x alone)) = whole_by w (e.QueryX' q n args tt (its p x alone)) refl (each_sound told_so w q n args p x (row_of w args) (whole_of w x).body) tt tt tt
  whole_of w (e.Xml' x n ss k ats) = whole_by w (e.Xml' x n ss k ats) refl (xml_sound told_so w x n ss k ats (row_of w ss) (row_of w ats) (targets_of w ats)) tt tt tt

  branches_of : {n : _} (w : World) (bs : Row_of-Branch n) → AreSound w bs
  branches_of w end_of-Branch = tt
  branches_of w (more_of-Branch t p x rest) = ((whole_of w x).sound, branches_of w rest)

  vals_of : {n : _} (w : World) (vs : Row_of-LetVal n) → ValsAreSound w vs
  vals_of w end_of-LetVal = tt
  vals_of w (more_of-LetVal p x c q a rest) = ((whole_of w a).sound, vals_of w rest)

  fields_of : {n : _} (w : World) (fs : Row_of-Field n) → AreSoundFields w fs
  fields_of w end_of-Field = tt
  fields_of w (more_of-Field f p x rest) = ((whole_of w x).sound, fields_of w rest)

  row_of : {n : _} (w : World) (xs : Row_of-Exp n) → RowIsSound w xs
  row_of w alone = tt
  row_of w (its p x rest) = ((whole_of w x).sound, row_of w rest)

  targets_of : {n : _} (w : World) (xs : Row_of-Exp n) → TargetsSound w xs
  targets_of w alone = tt
  targets_of w (its p x rest) = ((whole_of w x).args, targets_of w rest)

  first_of : {n : _} (w : World) (fs : Row_of-Field n) → FirstFieldIsSound w fs
  first_of w end_of-Field = tt
  first_of w (more_of-Field f p x rest) = (whole_of w x).sound

pub typed_is_sound : TypedIsSound
typed_is_sound w x = (whole_of w x).sound
