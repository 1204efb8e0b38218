-- The typing of written expressions by one function: the resolved expression, its type, and the statements that are numbered so far.
-- Kinds are no part of it: each written constructor is taken to have the kind that its place wants.
use Rattle.std.specs.Prelude.{ℕ, pos, ◌&&◌, List, [], ◌∷◌, codes, Option, Some, None, option_map, option_and_then}
use Rattle.ur_syntax.specs.declared.exp.Binder.TheVariants as binder
use Rattle.ur_syntax.specs.declared.exp.ExpForm.{ExpForm, Row_of-Exp, end_of-Exp as alone, more_of-Exp as its, Row_of-Field, end_of-Field, more_of-Field, Row_of-Branch, end_of-Branch, more_of-Branch, Row_of-LetVal, end_of-LetVal, more_of-LetVal}
use Rattle.ur_syntax.specs.declared.exp.ExpForm.TheVariants as e
use Rattle.ur_rows.specs.declared.normal.NormalType.{NormalType}
use Rattle.ur_rows.specs.declared.normal.NormalType.TheVariants as ty
use Rattle.ur_rows.specs.declared.normal.Part.{Part}
use Rattle.ur_rows.specs.Made.{unit}
use Rattle.ur_tree.specs.declared.exp.Exp.TheVariants as exp
use Rattle.ur_tree.specs.declared.exp.Unary.TheVariants as unary
use Rattle.ur_tree.specs.declared.exp.Param.{Param}
use Rattle.ur_typed_rules.specs.Scopes.{World, Scope, Mode}
use Rattle.ur_typed_rules.specs.Lacking.{lacks_type}
use Rattle.ur_typed.specs.Rules.{Sites, Out, Walk, settling, gives, var_out, member_out, constructor_out, member_constructor_out, function_at, function_out, function_named, applied, one_out, show_out, some_out, return_out, error_out, operator_of, sides_out, if_out, Branches, no_branches, branch_out, case_out, let_out, bind_out, lambda_out, Fields, no_fields, field_out, record_out, project_out, cut_out, next_out, get_cookie_out, set_cookie_out, is_literally, are_literal_rest, Antiquotes, no_antiquotes, antiquote_out, write_out, ask_out, each_out, row_body, empty_out}
use Rattle.ur_typed.specs.Folds.{step_out, fold_out}
use Rattle.ur_typed.specs.Markups.{Splice, Attribute, xml_out}
use Rattle.ur_typed_rules.specs.Rules.{if_so}

abbrev pub with_calls : List Walk → ℕ → ℕ × List Walk
with_calls args f = (f, args)

abbrev mutual
  -- what an expression stands for, before its type is accepted and compared
  pub walk : World → ExpForm → Walk
  walk w (e.Int n) s st m = gives ty.Int (exp.Int (pos n)) st
  walk w (e.Str t) s st m = gives ty.Str (exp.Str t) st
  walk w e.Unit s st m = gives unit exp.Unit st
  walk w (e.Var x) s st m = var_out w s st x
  walk w (e.Member m' x) s st m = member_out w s st m' x
  walk w (e.Constructor x) s st m = constructor_out w st m x
  walk w (e.MemberConstructor m' x) s st m = member_constructor_out w st m' x
  walk w e.Nil s st m = empty_out st m
  walk w (e.ConApp' _ x c) s st m = option_and_then (function_out w s st) (function_at w s (e.ConApp' tt x c))
  walk w (e.App' _ (its p f alone) _ (its q a alone)) s st m =
      spine w f s st (settling w (λ s' st' n. walk w f s' st' n)) (settling w (λ s' st' n. walk w a s' st' n) ∷ [])
  walk w (e.Negative' _ (its p a alone)) s st m = one_out unary.Neg ty.Int ty.Int s st (settling w (λ s' st' n. walk w a s' st' n))
  walk w (e.Not' _ (its p a alone)) s st m = one_out unary.Not ty.Bool ty.Bool s st (settling w (λ s' st' n. walk w a s' st' n))
  walk w (e.Show' _ (its p a alone)) s st m = show_out s st (settling w (λ s' st' n. walk w a s' st' n))
  walk w (e.Some' _ (its p a alone)) s st m = some_out s st m (settling w (λ s' st' n. walk w a s' st' n))
  walk w (e.Return' _ (its p a alone)) s st m = return_out s st m (settling w (λ s' st' n. walk w a s' st' n))
  walk w (e.Error' _ (its p a alone)) s st m = error_out s st m (settling w (λ s' st' n. walk w a s' st' n))
  walk w (e.Binary' o _ (its p a alone) _ (its q b alone)) s st m =
      sides_out (operator_of o) s st m (settling w (λ s' st' n. walk w a s' st' n)) (settling w (λ s' st' n. walk w b s' st' n))
  walk w (e.If' _ (its p c alone) _ (its q a alone) _ (its r b alone)) s st m =
      if_out s st m (settling w (λ s' st' n. walk w c s' st' n)) (settling w (λ s' st' n. walk w a s' st' n)) (settling w (λ s' st' n. walk w b s' st' n))
  walk w (e.Case' _ (its p a alone) _ branches) s st m = case_out w s st m (settling w (λ s' st' n. walk w a s' st' n)) (λ u st' n. branches_walk w branches s u st' n)
  walk w (e.Let' _ vals _ (its r b alone)) s st m = vals_walk w vals s st m (settling w (λ s' st' n. walk w b s' st' n))
  walk w (e.Bind' x _ (its p a alone) _ (its q b alone)) s st m = bind_out s st m x (settling w (λ s' st' n. walk w a s' st' n)) (settling w (λ s' st' n. walk w b s' st' n))
  walk w (e.Seq' _ (its p a alone) _ (its q b alone)) s st m = bind_out s st m binder.Ignored (settling w (λ s' st' n. walk w a s' st' n)) (settling w (λ s' st' n. walk w b s' st' n))
  walk w (e.Lambda' params _ (its p b alone)) s st m = lambda_out w s st m params (settling w (λ s' st' n. walk w b s' st' n))
  walk w (e.Record' _ fields) s st m = record_out s (fields_walk w fields s st m)
  walk w (e.Project' _ (its p a alone) f) s st m = project_out s st f (settling w (λ s' st' n. walk w a s' st' n))
  walk w (e.Remove' _ (its p a alone) r) s st m = cut_out s st r.name (settling w (λ s' st' n. walk w a s' st' n))
  walk w (e.Nextval x) s st m = next_out w st x
  walk w (e.GetCookie x) s st m = get_cookie_out w st x
  walk w (e.SetCookie' x _ value) s st m = set_cookie_out w st x (λ st' n. cookie_walk w value s st' n)
  walk w (e.Dml' u _ args) s st m = write_out w st u (λ st'. antiquotes_walk w args s st')
  walk w (e.Query' how q _ args) s st m = ask_out w st how q (λ st'. antiquotes_walk w args s st')
  walk w (e.QueryX' q _ args _ f) s st m = each_out w st m q (λ st'. antiquotes_walk w args s st') (λ r st' n. row_walk w f s r st' n)
  walk w (e.Fold' f _ step _ (its q start alone) r) s st m = fold_out w s st f r (λ of. step_walk w step s st of) (settling w (λ s' st' n. walk w start s' st' n))
  walk w (e.Xml' x _ splices _ attributes) s st m = xml_out w s st m x (splices_walk w splices) (attributes_walk w attributes s)

  -- what is applied, with its own walk, and with the arguments behind it
  pub spine : World → ExpForm → Scope → Sites → Walk → List Walk → Option Out
  spine w (e.App' _ (its p f alone) _ (its q a alone)) s st head args =
      spine w f s st (settling w (λ s' st' n. walk w f s' st' n)) (settling w (λ s' st' n. walk w a s' st' n) ∷ args)
  spine w x s st head args = applied w s st x head args

  -- the `val`s of a `let`, and its body
  pub vals_walk : {n : _} → World → Row_of-LetVal n → Scope → Sites → Mode → Walk → Option Out
  vals_walk w end_of-LetVal s st m body = None
  vals_walk w (more_of-LetVal p x c q a rest) s st m body = let_out w s st m x c (settling w (λ s' st' n. walk w a s' st' n)) (λ s' st' n. let_walk w rest s' st' n body)

  -- further `val`s, each in a `let` of its own
  pub let_walk : {n : _} → World → Row_of-LetVal n → Scope → Sites → Mode → Walk → Option Out
  let_walk w end_of-LetVal s st m body = body s st m
  let_walk w (more_of-LetVal p x c q a rest) s st m body =
      settling w (λ s' st' n. let_out w s' st' n x c (settling w (λ s'' st'' n'. walk w a s'' st'' n')) (λ s'' st'' n'. let_walk w rest s'' st'' n' body)) s st m

  -- the branches of a `case` over this type
  pub branches_walk : {n : _} → World → Row_of-Branch n → Scope → NormalType → Sites → Mode → Option Branches
  branches_walk w end_of-Branch s u st m = no_branches st m
  branches_walk w (more_of-Branch t p x rest) s u st m =
      branch_out w s u st m t.form (settling w (λ s' st' n. walk w x s' st' n)) (λ st' n. branches_walk w rest s u st' n)

  pub fields_walk : {n : _} → World → Row_of-Field n → Scope → Sites → Mode → Option Fields
  fields_walk w end_of-Field s st m = Some (no_fields st)
  fields_walk w (more_of-Field f p x rest) s st m = field_out s st m f (settling w (λ s' st' n. walk w x s' st' n)) (λ st'. fields_walk w rest s st' m)

  pub antiquotes_walk : {n : _} → World → Row_of-Exp n → Scope → Sites → Option Antiquotes
  antiquotes_walk w alone s st = Some (no_antiquotes st)
  antiquotes_walk w (its p x rest) s st = antiquote_out s st (settling w (λ s' st' n. walk w x s' st' n)) (λ st'. antiquotes_walk w rest s st')

  -- the value in the literal record of `setCookie`
  pub cookie_walk : {n : _} → World → Row_of-Exp n → Scope → Sites → Mode → Option Out
  cookie_walk w (its p (e.Record' _ fields) alone) s st m = cookie_field_walk w fields s st m
  cookie_walk w _ s st m = None

  pub cookie_field_walk : {n : _} → World → Row_of-Field n → Scope → Sites → Mode → Option Out
  cookie_field_walk w (more_of-Field f p x rest) s st m = if_so (is_literally f (codes "Value") && are_literal_rest rest) (settling w (λ s' st' n. walk w x s' st' n) s st m)
  cookie_field_walk w end_of-Field s st m = None

  -- the body of the row function of `queryX`
  pub row_walk : {n : _} → World → Row_of-Exp n → Scope → List Part → Sites → Mode → Option Out
  row_walk w (its p (e.Lambda' params _ (its r b alone)) alone) s row st m = row_body w s row params (settling w (λ s' st' n. walk w b s' st' n)) st m
  row_walk w _ s row st m = None

  -- the step of a fold
  pub step_walk : {n : _} → World → Row_of-Exp n → Scope → Sites → NormalType → Option (Param × Out)
  step_walk w (its p (e.Lambda' params _ (its r b alone)) alone) s st of = step_out w s st of params (settling w (λ s' st' n. walk w b s' st' n))
  step_walk w _ s st of = None

  pub splices_walk : {n : _} → World → Row_of-Exp n → List Splice
  splices_walk w alone = []
  splices_walk w (its p x rest) = record { walk = settling w (λ s' st' n. walk w x s' st' n); lacks = lacks_type x } ∷ splices_walk w rest

  pub attributes_walk : {n : _} → World → Row_of-Exp n → Scope → List Attribute
  attributes_walk w alone s = []
  attributes_walk w (its p x rest) s = record { walk = settling w (λ s' st' n. walk w x s' st' n); calls = call_walk w x s [] } ∷ attributes_walk w rest s

  -- a named function that is applied to arguments, or stands alone
  pub call_walk : World → ExpForm → Scope → List Walk → Option (ℕ × List Walk)
  call_walk w (e.App' _ (its p f alone) _ (its q a alone)) s args = call_walk w f s (settling w (λ s' st' n. walk w a s' st' n) ∷ args)
  call_walk w x s args = option_map (with_calls args) (function_named w s x)

-- the same where its type is accepted, and is the wanted one
abbrev pub typed : World → ExpForm → Walk
typed w x s st m = settling w (λ s' st' n. walk w x s' st' n) s st m
