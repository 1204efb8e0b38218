-- Where the walk has no answer there is a fault: all forms.
use Rattle.std.proofs.Common.{◌≡◌, refl, false, List, ℕ}
use Rattle.ur_syntax.specs.declared.exp.ExpForm.{ExpForm, Row_of-Exp, end_of-Exp as alone, more_of-Exp as its, Row_of-Field, end_of-Field, more_of-Field, Row_of-Branch, end_of-Branch, more_of-Branch, Row_of-LetVal, end_of-LetVal, more_of-LetVal}
use Rattle.ur_syntax.specs.declared.exp.ExpForm.TheVariants as e
use Rattle.ur_typed_rules.specs.Scopes.{World}
use Rattle.ur_typed.specs.Parts.{is_applied}
use Rattle.ur_typed_faults.specs.Converse.{IsWorld, Explained, NoneIsFaulty}
use Rattle.ur_typed_faults.proofs.Converse.{int_explained, string_explained, unit_explained, nil_explained, negative_explained, not_explained, some_explained, return_explained, show_explained, error_explained, operator_explained, any_operator, if_explained, bind_explained, sequence_explained, project_explained, cut_explained}
use Rattle.ur_typed_faults.proofs.Explained.{FieldsExplained, record_explained, ValsExplained, let_explained}
use Rattle.ur_typed_faults.proofs.ExplainedNames.{var_explained, member_explained, instance_explained, constructor_explained, member_constructor_explained, next_explained, get_cookie_explained, SpineIsExplained, head_explained, spine_explained, application_explained}
use Rattle.ur_typed_faults.proofs.ExplainedForms.{BranchesExplained, case_explained, lambda_explained, FirstFieldExplained, FirstExplained, set_cookie_explained, RowExplained, query_explained, change_explained, BodyExplained, rows_explained, fold_explained}
use Rattle.ur_typed_faults.proofs.ExplainedXml.{xml_explained, ArgsExplained, TargetsExplained}

-- an expression, an application along it, and what is in it where it is a function, a record or an application
record Whole (names : List (List ℕ)) (w : World) (x : ExpForm) : Type 0 where
  here : Explained names w x
  spine : SpineIsExplained names w x
  body : BodyExplained names w x
  first : FirstExplained names w x
  args : ArgsExplained names w x

whole_by : (names : List (List ℕ)) (w : World) → IsWorld w → (x : ExpForm) → is_applied x ≡ false → Explained names w x → BodyExplained names w x → FirstExplained names w x → ArgsExplained names w x → Whole names w x
whole_by names w i x a k b f r = record { here = k; spine = head_explained names w i x a k; body = b; first = f; args = r }

mutual
  whole_of : (names : List (List ℕ)) (w : World) → IsWorld w → (x : ExpForm) → Whole names w x
  whole_of names w i (e.Int n) = whole_by names w i (e.Int n) refl (int_explained names w n) tt tt tt
  whole_of names w i (e.Str t) = whole_by names w i (e.Str t) refl (string_explained names w t) tt tt tt
  whole_of names w i e.Unit = whole_by names w i e.Unit refl (unit_explained names w) tt tt tt
  whole_of names w i e.Nil = whole_by names w i e.Nil refl (nil_explained names w) tt tt tt
  whole_of names w i (e.Var x) = whole_by names w i (e.Var x) refl (var_explained names w i x) tt tt tt
  whole_of names w i (e.Member m x) = whole_by names w i (e.Member m x) refl (member_explained names w i m x) tt tt tt
  whole_of names w i (e.Constructor x) = whole_by names w i (e.Constructor x) refl (constructor_explained names w i x) tt tt tt
  whole_of names w i (e.MemberConstructor m x) = whole_by names w i (e.MemberConstructor m x) refl (member_constructor_explained names w i m x) tt tt tt
  whole_of names w i (e.ConApp' _ (its p x alone) c) = whole_by names w i (e.ConApp' tt (its p x alone) c) refl (instance_explained names w i p x c) tt tt tt
  whole_of names w i (e.App' _ (its p f alone) _ (its q a alone)) = record {
    here = application_explained names w p q f a (whole_of names w i f).spine (whole_of names w i a).here;
    spine = spine_explained names w p q f a (whole_of names w i f).spine (whole_of names w i a).here;
    body = tt;
    first = tt;
    args = ((whole_of names w i f).args, (whole_of names w i a).here);
  }
  whole_of names w i (e.Negative' _ (its p x alone)) = whole_by names w i (e.Negative' tt (its p x alone)) refl (negative_explained names w p x (whole_of names w i x).here) tt tt tt
  whole_of names w i (e.Not' _ (its p x alone)) = whole_by names w i (e.Not' tt (its p x alone)) refl (not_explained names w p x (whole_of names w i x).here) tt tt tt
  whole_of names w i (e.Show' _ (its p x alone)) = whole_by names w i (e.Show' tt (its p x alone)) refl (show_explained names w p x (whole_of names w i x).here) tt tt tt
  whole_of names w i (e.Some' _ (its p x alone)) = whole_by names w i (e.Some' tt (its p x alone)) refl (some_explained names w p x (whole_of names w i x).here) tt tt tt
  whole_of names w i (e.Return' _ (its p x alone)) = whole_by names w i (e.Return' tt (its p x alone)) refl (return_explained names w p x (whole_of names w i x).here) tt tt tt
  whole_of names w i (e.Error' _ (its p x alone)) = whole_by names w i (e.Error' tt (its p x alone)) refl (error_explained names w p x (whole_of names w i x).here) tt tt tt
  whole_of names w i (e.Binary' o _ (its p x alone) _ (its q y alone)) =
      whole_by names w i (e.Binary' o tt (its p x alone) tt (its q y alone)) refl (operator_explained names w o p q x y (any_operator names w o p q x y) (whole_of names w i x).here (whole_of names w i y).here) tt tt tt
  whole_of names w i (e.If' _ (its p x alone) _ (its q y alone) _ (its r z alone)) =
      whole_by names w i (e.If' tt (its p x alone) tt (its q y alone) tt (its r z alone)) refl (if_explained names w p q r x y z (whole_of names w i x).here (whole_of names w i y).here (whole_of names w i z).here) tt tt tt
  whole_of names w i (e.Case' _ (its p x alone) n bs) = whole_by names w i (e.Case' tt (its p x alone) n bs) refl (case_explained names w p x n bs (whole_of names w i x).here (branches_of names w i bs)) tt tt tt
  whole_of names w i (e.Let' n vs _ (its r b alone)) = whole_by names w i (e.Let' n vs tt (its r b alone)) refl (let_explained names w n vs r b (vals_of names w i vs) (whole_of names w i b).here) tt tt tt
  whole_of names w i (e.Bind' b _ (its p x alone) _ (its q y alone)) = whole_by names w i (e.Bind' b tt (its p x alone) tt (its q y alone)) refl (bind_explained names w b p q x y (whole_of names w i x).here (whole_of names w i y).here) tt tt tt
  whole_of names w i (e.Seq' _ (its p x alone) _ (its q y alone)) = whole_by names w i (e.Seq' tt (its p x alone) tt (its q y alone)) refl (sequence_explained names w p q x y (whole_of names w i x).here (whole_of names w i y).here) tt tt tt
  whole_of names w i (e.Lambda' ps _ (its p b alone)) = whole_by names w i (e.Lambda' ps tt (its p b alone)) refl (lambda_explained names w ps p b (whole_of names w i b).here) (whole_of names w i b).here tt tt
  whole_of names w i (e.Record' n fs) = whole_by names w i (e.Record' n fs) refl (record_explained names w n fs (fields_of names w i fs)) tt (first_of names w i fs) tt
  whole_of names w i (e.Project' _ (its p x alone) f) = whole_by names w i (e.Project' tt (its p x alone) f) refl (project_explained names w p x f (whole_of names w i x).here) tt tt tt
  whole_of names w i (e.Remove' _ (its p x alone) r) = whole_by names w i (e.Remove' tt (its p x alone) r) refl (cut_explained names w p x r (whole_of names w i x).here) tt tt tt
  whole_of names w i (e.Nextval x) = whole_by names w i (e.Nextval x) refl (next_explained names w i x) tt tt tt
  whole_of names w i (e.GetCookie x) = whole_by names w i (e.GetCookie x) refl (get_cookie_explained names w i x) tt tt tt
  whole_of names w i (e.SetCookie' x _ (its p y alone)) = whole_by names w i (e.SetCookie' x tt (its p y alone)) refl (set_cookie_explained names w i x p y (whole_of names w i y).first) tt tt tt
  whole_of names w i (e.Dml' u n args) = whole_by names w i (e.Dml' u n args) refl (change_explained names w u n args (row_of names w i args)) tt tt tt
  whole_of names w i (e.Query' how q n args) = whole_by names w i (e.Query' how q n args) refl (query_explained names w how q n args (row_of names w i args)) tt tt tt
  whole_of names w i (e.QueryX' q n args _ (its p x alone)) = whole_by names w i (e.QueryX' q n args tt (its p x alone)) refl (rows_explained names w q n args p x (row_of names w i args) (whole_of names w i x).body) tt tt tt
  whole_of names w i (e.Fold' f _ (its p x alone) _ (its q y alone) r) = whole_by names w i (e.Fold' f tt (its p x alone) tt (its q y alone) r) refl (fold_explained names w f p x q y r (whole_of names w i x).body (whole_of names w i y).here) tt tt tt
  whole_of names w i (e.Xml' x n ss k ats) = whole_by names w i (e.Xml' x n ss k ats) refl (xml_explained names w i x n ss k ats (row_of names w i ss) (row_of names w i ats) (args_of names w i ats)) tt tt tt

  branches_of : {n : _} → (names : List (List ℕ)) (w : World) → IsWorld w → (bs : Row_of-Branch n) → BranchesExplained names w bs
  branches_of names w i end_of-Branch = tt
  branches_of names w i (more_of-Branch t p x rest) = ((whole_of names w i x).here, branches_of names w i rest)

  vals_of : {n : _} → (names : List (List ℕ)) (w : World) → IsWorld w → (vs : Row_of-LetVal n) → ValsExplained names w vs
  vals_of names w i end_of-LetVal = tt
  vals_of names w i (more_of-LetVal p x c q a rest) = ((whole_of names w i a).here, vals_of names w i rest)

  fields_of : {n : _} → (names : List (List ℕ)) (w : World) → IsWorld w → (fs : Row_of-Field n) → FieldsExplained names w fs
  fields_of names w i end_of-Field = tt
  fields_of names w i (more_of-Field f p x rest) = ((whole_of names w i x).here, fields_of names w i rest)

  first_of : {n : _} → (names : List (List ℕ)) (w : World) → IsWorld w → (fs : Row_of-Field n) → FirstFieldExplained names w fs
  first_of names w i end_of-Field = tt
  first_of names w i (more_of-Field f p x rest) = (whole_of names w i x).here

  row_of : {n : _} → (names : List (List ℕ)) (w : World) → IsWorld w → (xs : Row_of-Exp n) → RowExplained names w xs
  row_of names w i alone = tt
  row_of names w i (its p x rest) = ((whole_of names w i x).here, row_of names w i rest)

  args_of : {n : _} → (names : List (List ℕ)) (w : World) → IsWorld w → (xs : Row_of-Exp n) → TargetsExplained names w xs
  args_of names w i alone = tt
  args_of names w i (its p x rest) = ((whole_of names w i x).args, args_of names w i rest)

pub none_is_faulty : NoneIsFaulty
none_is_faulty names w i x = (whole_of names w i x).here
