-- What breaks its own rule is not typed.
use Rattle.std.proofs.Common.{true, true≢false, sym, ◌≡◌, ◌∙◌, refl, ap, ap₂, Bool, false, Option, Some, None, List, [], ◌∷◌, ℕ}
use Rattle.std.specs.Prelude.{nat_le, ◌&&◌, ◌||◌, not, option_map, option_and_then, slice_get, length}
use mathlib.Core.Former.{Count}
use Rattle.ur_syntax.specs.Names.{own, member as of_module}
use Rattle.ur_syntax.specs.declared.con.Con.{Con}
use Rattle.ur_syntax.specs.declared.exp.ExpForm.{ExpForm, Row_of-Field, end_of-Field, more_of-Field, Row_of-Branch, Row_of-LetVal, end_of-Exp as alone, more_of-Exp as its, end_of-LetVal, more_of-LetVal}
use Rattle.ur_syntax.specs.declared.exp.ExpForm.TheVariants as e
use Rattle.ur_syntax.specs.declared.exp.LambdaParam.{LambdaParam}
use Rattle.ur_syntax.specs.declared.exp.LambdaParam.TheVariants as lambda_param
use Rattle.ur_syntax.specs.declared.exp.PatForm.{PatForm}
use Rattle.ur_syntax.specs.declared.xml.XmlForm.{XmlForm, Row_of-XmlPart}
use Rattle.ur_rows.specs.declared.normal.Normal.{Normal}
use Rattle.ur_rows.specs.declared.normal.NormalType.{NormalType}
use Rattle.ur_rows.specs.declared.normal.Part.{Part as RowPart}
use Rattle.ur_rows.specs.Made.{record_of}
use Rattle.ur_rows.specs.Put.{as_row, as_type}
use Rattle.ur_rows.specs.Normal.{nf, as_function, known_in}
use Rattle.ur_rows.specs.Nodes.{nodes, type_nodes}
use Rattle.ur_rows.specs.Kinded.{label_is_in}
use Rattle.ur_rows.specs.Types.{at_row, holds_arrow, may_run}
use Rattle.ur_tree.specs.Places.{Place, in_form, place_of, fields}
use Rattle.ur_xmltype.specs.Tags.{Node, label_at}
use Rattle.ur_xmltype.specs.Literal.{literal_sort, is_end, row_of_parts, is_framed, sort_type}
use Rattle.ur_tree.specs.Env.{variables, row_is_plain, Env}
use Rattle.ur_typed_rules.specs.Names.{Declared as DeclaredAs, function, val, declared, local_at}
use Rattle.ur_typed.specs.Resolves.{is_head}
use Rattle.ur_typed_rules.specs.Scopes.{World, Scope, Mode, finds, wants, within_branch, within_binder, of_transaction}
use Rattle.ur_typed_rules.specs.Tests.{are_distinct, are_apart, is_row, same_type, are_params}
use Rattle.ur_typed.specs.Rules.{Sites, Walk, Branches, args_out, function_at, function_out, declared_out, local_or, if_unbound, as_function_number, without_arguments, applied, built, branch_out, join_types, with_branch, cookie_at, Out, gives, settled, by_head, if_other, by_capital, row_param, query_at, with_query_slot, with_query, is_accepted, fits}
use Rattle.ur_typed.specs.Folds.{fold_types, step_of, step_names, step_by}
use Rattle.ur_typed.specs.Markups.{Literal, Splice, parts_out, part_out, node_out, splice_by, field_splice_out, if_kept, Marked, sorted_out, page_params, without_last, submit_with, submit_out, called_at}
use Rattle.ur_typed.specs.Walking.{typed, walk, spine, branches_walk, vals_walk, cookie_field_walk, let_walk, fields_walk, antiquotes_walk, cookie_walk, row_walk, step_walk}
use Rattle.ur_typed.specs.Causes.{BreaksSettled, BreaksVals, HasStrayLabel, this_label, later_label, IsNoKind, this_kind, later_kind, is_lambda, is_record, Untyped, none, nil, error, is_cookie_record, Breaks, FaultyIsNone}
use Rattle.ur_typed.specs.Faults.{walks, TooMany, no_type_left, many_behind, TooFew, no_argument_left, few_behind, is_given, is_name, BreaksNamed, BreaksApplied, BreaksHead, BreaksSpine, breaks_further, no_head, breaks_at_head, BreaksParams, this_param, later_param, BreaksFoldRow, is_row_function, BreaksRowFunction, BreaksStep, BreaksPattern, later_pattern, BreaksParts, breaks_first, breaks_later, BreaksPart, BreaksNode, given_to, this_pattern}
use Rattle.ur_typed.specs.Parts.{literal_of, arg_types}
use Rattle.ur_base.specs.declared.refusal.Span.{Span}
use Rattle.ur_syntax.specs.declared.exp.Binder.{Binder}
use Rattle.ur_syntax.specs.declared.exp.Binder.TheVariants as binder
use Rattle.ur_syntax.specs.declared.exp.Param.TheVariants as written_param
use Rattle.ur_tree.specs.Scalars.{kind_type}
use Rattle.ur_tree.specs.QueryRow.{query_row}
use Rattle.ur_disjoint.proofs.Members.{in-contains}
use Rattle.ur_tree.specs.declared.exp.Exp.TheVariants as exp
use Rattle.ur_typed_faults.proofs.Refused.{bad_tag-none, bad_frame-none}
use Rattle.ur_sqltype.specs.Lists.{all_of}
use Rattle.ur_sqltype.specs.Table.{column_type_kind}
use Rattle.ur_sqltype.specs.SqltypeFaults.{FaultyQueryIsNone, FaultyChangeIsNone}
use Rattle.ur_tree.specs.IsStatic.{is_static}
use Rattle.ur_tree.specs.Typing.{are_linkable, step_rest}
use Rattle.ur_syntax.specs.declared.xml.AttrValue.TheVariants as attr_value
use Rattle.ur_typed_rules.proofs.Rows.{told}
use Rattle.ur_typed.proofs.Parts.{by-head, applied_none, spine_at_head}
use Rattle.ur_typed_faults.proofs.Wholes.{stands_none}
use Rattle.ur_typed_rules.specs.Faults.{Fault}
use Rattle.ur_typed_rules.specs.Meeting.{Meets}
use Rattle.ur_typed_rules.specs.Arguments.{large_row, row_out_of_place, breaks_typed}
use Rattle.ur_typed_rules.specs.Rules.{if_so, row_of, pattern_of, bound_in}
use Rattle.ur_typed_rules.proofs.Options.{second_of, third_of, fourth_of, not_all, first_none, then_none, then_some, never, map_none, so_none, so_false, and_left, and_right, some_of}
use Rattle.ur_typed_rules.proofs.Meeting.{meets_false}
use Rattle.ur_typed_rules.proofs.Written.{given_fails, type_fails, row_place_fails, written_fails, forms_fail, large_fails, fields_fail}
use Rattle.ur_typed_rules.proofs.Patterns.{PatFails, stands_for_none, not_distinct, binds_none, pat_fails, cover_fails}
use Rattle.ur_tree.specs.declared.exp.Param.{Param}
use Rattle.ur_typed.proofs.Shapes.{has_vals}
use Rattle.ur_typed.specs.Causes
use Rattle.ur_typed.specs.Faults

-- ---- applications

pub many_none : (s : Scope) (xs : List Walk) (ts : List NormalType) → TooMany xs ts → (st : Sites) → args_out s xs ts st ≡ None
many_none s _ _ no_type_left st = refl
many_none s _ _ (many_behind {xs = xs} {ts = ts} r) st = never _ _ (λ o. map_none _ _ (many_none s xs ts r o.sites))

pub few_none : (s : Scope) (xs : List Walk) (ts : List NormalType) → TooFew xs ts → (st : Sites) → args_out s xs ts st ≡ None
few_none s _ _ no_argument_left st = refl
few_none s _ _ (few_behind {xs = xs} {ts = ts} r) st = never _ _ (λ o. map_none _ _ (few_none s xs ts r o.sites))

no_argument_taken : (w : World) (s : Scope) (st : Sites) (args : List ExpForm) (n d : ℕ) → slice_get w.declared.variants n ≡ Some (d, None) → built w s st (walks w args) n ≡ None
no_argument_taken w s st [] n d h = refl
no_argument_taken w s st (x ∷ []) n d h = first_none _ _ (then_none _ _ (d, None) h refl)
no_argument_taken w s st (x ∷ y ∷ args) n d h = refl

applied_breaks : (names : List (List ℕ)) (w : World) (s : Scope) (st : Sites) (x : ExpForm) (args : List ExpForm) (f : Fault) → BreaksApplied names w s st x args f → applied w s st x (typed w x) (walks w args) ≡ None
applied_breaks names w s st x args c (Faults.bad_call {f = f} {h = h} ef eh r) = by-head w s st (typed w x) (walks w args) x ef refl (then_none _ _ h eh (so_false _ _ (and_left _ _ (given_fails s.env (given_to x) f.1 h.cons c r))))
applied_breaks names w s st x args _ (Faults.large_call {f = f} {h = h} ef eh r) = by-head w s st (typed w x) (walks w args) x ef refl (then_none _ _ h eh (so_false _ _ (and_right _ _ r)))
applied_breaks names w s st x args _ (Faults.too_many {f = f} {h = h} ef eh r) = by-head w s st (typed w x) (walks w args) x ef refl (then_none _ _ h eh (so_none _ _ (first_none _ _ (many_none s (walks w args) (arg_types f h) r st))))
applied_breaks names w s st x args _ (Faults.too_few {f = f} {h = h} ef eh r) = by-head w s st (typed w x) (walks w args) x ef refl (then_none _ _ h eh (so_none _ _ (first_none _ _ (few_none s (walks w args) (arg_types f h) r st))))
applied_breaks names w s st x args _ (Faults.moves_in {f = f} {h = h} {r = r} ef eh er es) = by-head w s st (typed w x) (walks w args) x ef refl (then_none _ _ h eh (so_none _ _ (then_none _ _ r er (so_false _ _ es))))
applied_breaks names w s st x args _ (Faults.takes_none {n = n} {d = d} ef en ev) = by-head w s st (typed w x) (walks w args) x ef en (no_argument_taken w s st args n d ev)
applied_breaks names w s st x _ _ (Faults.takes_one {y = y} {z = z} {args = args} {n = n} ef en) = by-head w s st (typed w x) (walks w (y ∷ z ∷ args)) x ef en refl
applied_breaks names w s st x args _ (Faults.too_many_there {o = o} ef en g r) =
    by-head w s st (typed w x) (walks w args) x ef en (applied_none w s st (typed w x) (walks w args) (is_head x) o g (first_none _ _ (many_none s (walks w args) _ r o.sites)))
applied_breaks names w s st x args _ (Faults.too_few_there {o = o} ef en g r) =
    by-head w s st (typed w x) (walks w args) x ef en (applied_none w s st (typed w x) (walks w args) (is_head x) o g (first_none _ _ (few_none s (walks w args) _ r o.sites)))

head_breaks : (w : World) (s : Scope) (st : Sites) (x : ExpForm) (args : List ExpForm) (f : Fault) → BreaksHead w x f → applied w s st x (typed w x) (walks w args) ≡ None
head_breaks w s st _ args _ (Faults.unknown_head {x = x} c d) = ap (by_head w s st (typed w (e.Constructor x)) (walks w args) false None) (ap₂ if_other c d)
head_breaks w s st _ args _ (Faults.unknown_member_head {h = h} {x = x} d) = ap (by_head w s st (typed w (e.MemberConstructor h x)) (walks w args) false None) d
head_breaks w s st _ args _ (Faults.word_head {x = x} t n) = ap (by_head w s st (typed w (e.Constructor x)) (walks w args) false None) t

spine_breaks : (names : List (List ℕ)) (w : World) (s : Scope) (st : Sites) (x : ExpForm) (args : List ExpForm) (f : Fault) → BreaksSpine names w s st x args f → spine w x s st (typed w x) (walks w args) ≡ None
spine_breaks names w s st _ args f (breaks_further {x = x} {y = y} r) = spine_breaks names w s st x (y ∷ args) f r
spine_breaks names w s st x args f (no_head a r) = spine_at_head w x s st (typed w x) (walks w args) a ∙ head_breaks w s st x args f r
spine_breaks names w s st x args f (breaks_at_head a r) = spine_at_head w x s st (typed w x) (walks w args) a ∙ applied_breaks names w s st x args f r

-- a name with constructor arguments that is no function

no_function : (w : World) (s : Scope) (x : ExpForm) → is_given x ≡ false → is_name x ≡ false → function_at w s x ≡ None
no_function w s (e.ConApp' _ x c) g n = cc
no_function w s (e.Var x) g n = cc
no_function w s (e.Member m x) g n = cc
no_function w s _ g n = refl

unbound_none : (l : Option (Bool × ℕ)) → if_unbound l None ≡ None
unbound_none None = refl
unbound_none (Some i) = refl

named_none : (w : World) (s : Scope) (x : ExpForm) (c : Fault) → BreaksNamed w s x c → function_at w s x ≡ None
named_none w s _ _ (Faults.large_argument {f = f} g h) = then_none _ _ f g (so_false _ _ h)
named_none w s _ c (Faults.named_within {x = x} r) = first_none _ _ (named_none w s x c r)
named_none w s _ _ (Faults.unknown_name h i) = map_none _ _ (ap₂ if_unbound h (first_none _ _ i))
named_none w s _ _ (Faults.unknown_member h) = map_none _ _ (first_none _ _ h)
named_none w s _ _ (Faults.names_local {x = x} h) = map_none _ _ (ap (λ z. if_unbound z (option_and_then as_function_number (declared w.globals (own x) w.globals.values))) h)
named_none w s _ _ (Faults.names_val {x = x} {v = v} h) = map_none _ _ (ap (if_unbound (local_at x s.names.locals)) (then_none _ _ (val v) h refl) ∙ unbound_none (local_at x s.names.locals))
named_none w s _ _ (Faults.member_val {v = v} h) = map_none _ _ (then_none _ _ (val v) h refl)
named_none w s x _ (Faults.no_name_there g n) = no_function w s x g n

-- a named function that is not applied

declared_function : (w : World) (s : Scope) (st : Sites) (f : ℕ × List Normal) (d : Option DeclaredAs) → option_map without_arguments (option_and_then as_function_number d) ≡ Some f → option_and_then (declared_out w s st) d ≡ function_out w s st f
declared_function w s st f None h = cc
declared_function w s st f (Some (function n)) h = ap (function_out w s st) (some_of h)
declared_function w s st f (Some (val v)) h = cc

var_function : (w : World) (s : Scope) (st : Sites) (x : List ℕ) (f : ℕ × List Normal) (l : Option (Bool × ℕ)) → option_map without_arguments (if_unbound l (option_and_then as_function_number (declared w.globals (own x) w.globals.values))) ≡ Some f →
    local_or w s st x l ≡ function_out w s st f
var_function w s st x f (Some i) h = cc
var_function w s st x f None h = declared_function w s st f (declared w.globals (own x) w.globals.values) h

function_walk : (w : World) (s : Scope) (st : Sites) (m : Mode) (x : ExpForm) (f : ℕ × List Normal) → function_at w s x ≡ Some f → walk w x s st m ≡ function_out w s st f
function_walk w s st m (e.Var x) f h = var_function w s st x f (local_at x s.names.locals) h
function_walk w s st m (e.Member m' x) f h = declared_function w s st f (declared w.globals (of_module m' x) w.globals.values) h
function_walk w s st m (e.ConApp' _ x c) f h = ap (option_and_then (function_out w s st)) h
function_walk w s st m _ f h = cc

-- ---- branches and bindings

branch_behind : (w : World) (s : Scope) (u : NormalType) (st : Sites) (m : Mode) (p : PatForm) (a : Walk) (rest : Sites → Mode → Option Branches) → ((st' : Sites) (n : Mode) → rest st' n ≡ None) → branch_out w s u st m p a rest ≡ None
branch_behind w s u st m p a rest k =
    never _ (pattern_of w.globals p) (λ q. so_none (are_distinct q.0) _ (never _ (bound_in w u q) (λ bound. never _ (a (within_branch q.0 bound s) st m) (λ o. map_none (with_branch q.1 o) _ (k o.sites (wants o.of))))))

pattern_of_none : (w : World) (s : Scope) (u : NormalType) (st : Sites) (m : Mode) (p : PatForm) (a : Walk) (rest : Sites → Mode → Option Branches) → PatFails w u p → branch_out w s u st m p a rest ≡ None
pattern_of_none w s u st m p a rest (stands_for_none h) = first_none _ _ h
pattern_of_none w s u st m p a rest (not_distinct {q = q} e h) = then_none _ _ q e (so_false _ _ h)
pattern_of_none w s u st m p a rest (binds_none {q = q} e h) = then_none _ _ q e (so_none _ _ (first_none _ _ h))

pattern_breaks : (names : List (List ℕ)) (w : World) (s : Scope) (u : NormalType) (n : Count) (bs : Row_of-Branch n) (f : Fault) → BreaksPattern names w u n bs f → (st : Sites) (m : Mode) → branches_walk w bs s u st m ≡ None
pattern_breaks names w s u _ _ f (this_pattern {t = t} {x = x} {rest = rest} b) st m = pattern_of_none w s u st m t.form (typed w x) (λ st' n'. branches_walk w rest s u st' n') (pat_fails names w u t.form f b)
pattern_breaks names w s u _ _ f (later_pattern {n = n} {t = t} {x = x} {rest = rest} r) st m =
    branch_behind w s u st m t.form (typed w x) (λ st' n'. branches_walk w rest s u st' n') (λ st' n'. pattern_breaks names w s u n rest f r st' n')

settled_breaks : (names : List (List ℕ)) (w : World) (m : Mode) (o : Out) (f : Fault) → BreaksSettled names w m o f → settled w.most m o ≡ None
settled_breaks names w _ o _ (Causes.other_type h) = so_false _ _ (and_right _ _ h)
settled_breaks names w m o _ (Causes.grows h) = so_false _ _ (and_left _ _ (and_left _ _ h))
settled_breaks names w m o _ (Causes.runs h) = so_false _ _ (and_left _ _ (and_right _ _ (and_left _ _ h)))
settled_breaks names w m o _ (Causes.moves h i) = so_false _ _ (and_left _ _ (and_right _ _ (and_right _ _ (ap₂ (λ a b. not a || b) h i))))

let_none : (w : World) (n : Count) (vs : Row_of-LetVal n) (s : Scope) (st : Sites) (m : Mode) (body : Walk) → has_vals vs ≡ true → vals_walk w vs s st m body ≡ None → let_walk w vs s st m body ≡ None
let_none w _ end_of-LetVal s st m body h g = absurd (true≢false (sym h))
let_none w _ (more_of-LetVal p x c q a rest) s st m body h g = first_none _ _ g

let_unsettled : (w : World) (n : Count) (vs : Row_of-LetVal n) (s : Scope) (st : Sites) (m : Mode) (body : Walk) (o : Out) → vals_walk w vs s st m body ≡ Some o → settled w.most m o ≡ None → let_walk w vs s st m body ≡ None
let_unsettled w _ end_of-LetVal s st m body o g h = cc
let_unsettled w _ (more_of-LetVal p x c q a rest) s st m body o g h = then_none _ _ o g h

breaks_some : (names : List (List ℕ)) (w : World) (b : ExpForm) (m : Mode) (n : Count) (vs : Row_of-LetVal n) (s : Scope) (st : Sites) (f : Fault) → BreaksVals names w b m n vs s st f → has_vals vs ≡ true
breaks_some names w b m _ _ s st _ (Causes.bad_type r) = refl
breaks_some names w b m _ _ s st _ (Causes.no_value h g) = refl
breaks_some names w b m _ _ s st _ (Causes.val_behind h g r) = refl
breaks_some names w b m _ _ s st _ (Causes.let_unsettled h g z r) = refl

vals_break : (names : List (List ℕ)) (w : World) (b : ExpForm) (m : Mode) (n : Count) (vs : Row_of-LetVal n) (s : Scope) (st : Sites) (f : Fault) → BreaksVals names w b m n vs s st f → vals_walk w vs s st m (typed w b) ≡ None
vals_break names w b m _ _ s st f (Causes.bad_type {c = c} r) = first_none _ _ (type_fails w s c f r)
vals_break names w b m _ _ s st _ (Causes.no_value {u = u} h g) = then_none _ _ u h (so_false _ _ g)
vals_break names w b m _ _ s st f (Causes.val_behind {x = x} {rest = rest} {u = u} {o = o} h g r) =
    let s' : Scope = within_binder (binder.Named x) u s in
    then_none _ _ u h (so_none _ _ (then_none _ _ o g (first_none _ _ (let_none w _ rest s' o.sites m (typed w b) (breaks_some names w b m _ rest s' o.sites f r) (vals_break names w b m _ rest s' o.sites f r)))))
vals_break names w b m _ _ s st f (Causes.let_unsettled {x = x} {rest = rest} {u = u} {o = o} {z = z} h g k r) =
    then_none _ _ u h (so_none _ _ (then_none _ _ o g (first_none _ _ (let_unsettled w _ rest (within_binder (binder.Named x) u s) o.sites m (typed w b) z k (settled_breaks names w m z f r)))))

stray_none : (w : World) (s : Scope) (m : Mode) (n : Count) (fs : Row_of-Field n) (st : Sites) → HasStrayLabel w s m n fs st → fields_walk w fs s st m ≡ None
stray_none w s m _ _ st (this_label h) = so_false _ _ h
stray_none w s m _ _ st (later_label {rest = rest} {o = o} g r) = so_none _ _ (then_none _ _ o g (map_none _ _ (stray_none w s m _ rest o.sites r)))

no_record : (w : World) (s : Scope) (st : Sites) (m : Mode) (p : Span) (y : ExpForm) → is_record y ≡ false → cookie_walk w (its p y alone) s st m ≡ None
no_record w s st m p (e.Record' n fs) h = cc
no_record w s st m p _ h = refl

no_row_lambda : (w : World) (s : Scope) (r : List RowPart) (st : Sites) (m : Mode) (p : Span) (y : ExpForm) → is_lambda y ≡ false → row_walk w (its p y alone) s r st m ≡ None
no_row_lambda w s r st m p (e.Lambda' ps _ x) h = cc
no_row_lambda w s r st m p _ h = refl

no_step_lambda : (w : World) (s : Scope) (st : Sites) (t : NormalType) (p : Span) (y : ExpForm) → is_lambda y ≡ false → step_walk w (its p y alone) s st t ≡ None
no_step_lambda w s st t p (e.Lambda' ps _ x) h = cc
no_step_lambda w s st t p _ h = refl

no_kind_none : (ts : List NormalType) (t : NormalType) → IsNoKind ts t → all_of column_type_kind ts ≡ None
no_kind_none _ _ (this_kind h) = first_none _ _ h
no_kind_none _ t (later_kind {ts = ts} r) = never _ _ (λ a. map_none _ _ (no_kind_none ts t r))

cookie_false : (w : World) (s : Scope) (st : Sites) (m : Mode) (n : Count) (fs : Row_of-Field n) → is_cookie_record fs ≡ false → cookie_field_walk w fs s st m ≡ None
cookie_false w s st m _ end_of-Field h = refl
cookie_false w s st m _ (more_of-Field f p x rest) h = so_false _ _ h

-- ---- parameters

params_false : (env : Env) (ls : List LambdaParam) (ps : List Param) (f : Fault) → BreaksParams env ls ps f → are_params env ps ≡ false
params_false env _ _ f (this_param {p = p} (breaks_typed {p = l} b)) = and_left _ _ (written_fails env l p.of f b)
params_false env _ _ f (later_param {ls = ls} {ps = ps} b) = and_right _ _ (params_false env ls ps f b)

-- ---- row functions and folds

fold_row_none : (names : List (List ℕ)) (w : World) (s : Scope) (f r : Con) (c : Fault) → BreaksFoldRow names w s r c → fold_types w s f r ≡ None
fold_row_none names w s f r c b =
    let n : Normal = nf s.names.cons r in let t : List RowPart = as_row n in let a : Bool = nat_le (nodes (nf s.names.cons f)) w.most in
    ap (λ z. if_so z (Some (as_function (nf s.names.cons f), t))) (test_false names w s r c a b) where
      test_false : (names : List (List ℕ)) (w : World) (s : Scope) (r : Con) (c : Fault) (a : Bool) → BreaksFoldRow names w s r c →
          (a && (nat_le (nodes (nf s.names.cons r)) w.most && (is_row s.env (as_row (nf s.names.cons r)) && row_is_plain (as_row (nf s.names.cons r))))) ≡ false
      test_false names w s r _ a (Faults.no_row (large_row h)) = second_of a _ _ h
      test_false names w s r f a (Faults.no_row (row_out_of_place b)) = third_of a (nat_le (nodes (nf s.names.cons r)) w.most) (is_row s.env (as_row (nf s.names.cons r))) (row_is_plain (as_row (nf s.names.cons r))) (row_place_fails s.env r (as_row (nf s.names.cons r)) f b)
      test_false names w s r _ a (Faults.row_not_plain h) = fourth_of a (nat_le (nodes (nf s.names.cons r)) w.most) (is_row s.env (as_row (nf s.names.cons r))) (row_is_plain (as_row (nf s.names.cons r))) h

other_function : (w : World) (s : Scope) (r : List RowPart) (ps : List LambdaParam) → is_row_function ps ≡ false → row_param w s r ps ≡ None
other_function w s r (lambda_param.Bare x ∷ []) h = cc
other_function w s r (lambda_param.Typed (written_param.Value x c) ∷ []) h = cc
other_function w s r _ h = refl

other_type_none : (b : Bool) (t u : NormalType) (x : Binder) → same_type t u ≡ false → option_and_then (λ t. if_so (same_type t u) (Some x)) (if_so b (Some t)) ≡ None
other_type_none true t u x h = so_false _ _ h
other_type_none false t u x h = refl

row_function_none : (names : List (List ℕ)) (w : World) (s : Scope) (r : List RowPart) (ps : List LambdaParam) (f : Fault) → BreaksRowFunction names w s r ps f → row_param w s r ps ≡ None
row_function_none names w s r ps _ (Faults.other_row_function h) = other_function w s r ps h
row_function_none names w s r _ _ (Faults.large_row_type h) = first_none _ _ (so_false _ _ h)
row_function_none names w s r _ _ (Faults.other_row_type {x = x} {c = c} h) = other_type_none (nat_le (nodes (nf s.names.cons c)) w.most) (as_type (nf s.names.cons c)) (record_of r) x h

step_none : (w : World) (s : Scope) (ps : List LambdaParam) (f : Fault) → BreaksStep w s ps f → step_of w s ps ≡ None
step_none w s ps _ (Faults.other_step h) = first_none _ _ h
step_none w s ps _ (Faults.large_acc {p = p} g h) = then_none _ _ p g (map_none _ _ (large_fails w.most (step_names p s.names) p.acc h))

-- ---- literals of XML

sent_with : (l : Literal) (st : Sites) (j : ℕ) → slice_get l.attributes j ≡ None → (f : ℕ × List Walk) (ts : List NormalType × NormalType) → submit_with l (Some (attr_value.Exp j)) st f ts ≡ None
sent_with l st j h f ts = so_none (are_linkable ts.0) _ (never _ (args_out l.scope f.1 ts.0 st) (λ r. first_none _ _ (first_none _ _ h)))

sent_none : (l : Literal) (st : Sites) (i j : ℕ) → slice_get l.attributes j ≡ None → option_and_then (submit_out l (Some (attr_value.Exp j)) st) (called_at l i) ≡ None
sent_none l st i j h = never _ (called_at l i) (λ f. never _ (option_and_then without_last (page_params l.declared f.0)) (λ ts. sent_with l st j h f ts))

mutual
  pub parts_break : (names : List (List ℕ)) (l : Literal) (p : Place) (n : Count) (xs : Row_of-XmlPart n) (st : Sites) (f : Fault) → BreaksParts names l p n xs st f → parts_out l xs p st ≡ None
  parts_break names l p _ _ st f (breaks_first {x = x} r) = first_none _ _ (part_breaks names l p x st f r)
  parts_break names l p _ _ st f (breaks_later {n = n} {rest = rest} {d = d} g r) = then_none _ _ d g (map_none _ _ (parts_break names l p n rest d.sites f r))

  pub part_breaks : (names : List (List ℕ)) (l : Literal) (p : Place) (x : XmlForm) (st : Sites) (f : Fault) → BreaksPart names l p x st f → part_out l x p st ≡ None
  part_breaks names l p _ st _ (Faults.no_text {x = x} ek eh) = ap (λ z. if_kept z p x st) ek ∙ so_false _ _ eh
  part_breaks names l p _ st _ (Faults.no_antiquote_shown ex) = first_none _ _ ex
  part_breaks names l p _ st _ (Faults.no_antiquote_spliced ex) = first_none _ _ ex
  part_breaks names l p _ st _ (Faults.no_shown eh) = never _ _ (λ (x : Splice). so_false _ _ eh)
  part_breaks names l p _ st _ (Faults.not_basic {o = o} {x = x} ex eo eb) = then_none _ _ x ex (so_none _ _ (then_none _ _ o eo (so_false _ _ eb)))
  part_breaks names l p _ st _ (Faults.no_splice ef ep) = never _ _ (λ (x : Splice). ap (splice_by l p st x) ef ∙ first_none _ _ ep)
  part_breaks names l p _ st _ (Faults.no_fields_found {o = o} {x = x} eh ex el eo ef) =
      then_none _ _ x ex (ap (splice_by l p st x) eh ∙ (ap (field_splice_out l st x.walk) el ∙ then_none _ _ o eo (first_none _ _ ef)))
  part_breaks names l p _ st _ (Faults.no_node {t = t} {attrs = attrs} {inner = inner} {r = r} b) = first_none _ _ (bad_tag-none (label_at (known_in l.scope.names.cons) t.field) p t attrs (is_end inner) r b)
  part_breaks names l p _ st f (Faults.at_node {inner = inner} {g = g} e r) = then_none _ _ g e (node_breaks names l p _ inner st g f r)

  pub node_breaks : (names : List (List ℕ)) (l : Literal) (p : Place) (n : Count) (inner : Row_of-XmlPart n) (st : Sites) (g : Node) (f : Fault) → BreaksNode names l p n inner st g f → node_out l p st (λ q st'. parts_out l inner q st') g ≡ None
  node_breaks names l p n inner st _ f (Faults.within_element {q = q} r) = first_none _ _ (parts_break names l q n inner st f r)
  node_breaks names l p n inner st _ f (Faults.within_form r) = first_none _ _ (parts_break names l in_form n inner st f r)
  node_breaks names l p n inner st _ f (Faults.within_link {c = c} {ts = ts} {r = d} ec et ed r) = then_none _ _ c ec (then_none _ _ ts et (so_none _ _ (then_none _ _ d ed (first_none _ _ (parts_break names l p n inner d.1 f r)))))
  node_breaks names l p n inner st _ _ (Faults.fields_meet {d = d} {a = a} {b = b} ed m) = then_none _ _ d ed (so_false _ _ (and_left _ _ (meets_false l.scope.env.known d.row a b m)))
  node_breaks names l p n inner st _ _ (Faults.no_label h) = so_false _ _ h
  node_breaks names l p n inner st _ _ (Faults.other_record {d = d} {u = u} ed ew es) = then_none _ _ d ed (so_false _ _ (and_right _ _ (not_all (same_type (record_of d.row)) u d.waiting (in-contains u d.waiting ew) es)))
  node_breaks names l p n inner st _ _ (Faults.no_value_given {x = x} h) = so_none (label_is_in (variables l.scope.env) x) _ (first_none _ _ (first_none _ _ h))
  node_breaks names l p n inner st _ _ (Faults.no_value_sent {i = i} {j = j} h) = sent_none l st i j h
  node_breaks names l p n inner st _ _ (Faults.no_call ec) = first_none _ _ ec
  node_breaks names l p n inner st _ _ (Faults.no_page {c = c} ec ep) = then_none _ _ c ec (first_none _ _ ep)
  node_breaks names l p n inner st _ _ (Faults.no_link {c = c} {ts = ts} ec ep el) = then_none _ _ c ec (then_none _ _ ts ep (so_false _ _ el))
  node_breaks names l p n inner st _ _ (Faults.many_linked {c = c} {ts = ts} ec ep r) = then_none _ _ c ec (then_none _ _ ts ep (so_none _ _ (first_none _ _ (many_none l.scope c.1 ts r st))))
  node_breaks names l p n inner st _ _ (Faults.few_linked {c = c} {ts = ts} ec ep r) = then_none _ _ c ec (then_none _ _ ts ep (so_none _ _ (first_none _ _ (few_none l.scope c.1 ts r st))))
  node_breaks names l p n inner st _ _ (Faults.no_action ec) = first_none _ _ ec
  node_breaks names l p n inner st _ _ (Faults.no_page_action {c = c} ec ep) = then_none _ _ c ec (first_none _ _ (first_none _ _ ep))
  node_breaks names l p n inner st _ _ (Faults.no_form_taken {c = c} ec ep) = then_none _ _ c ec (first_none _ _ (then_none _ _ [] ep refl))
  node_breaks names l p n inner st _ _ (Faults.not_in_path {c = c} {ps = ps} {ts = ts} ec ep et el) = then_none _ _ c ec (then_none _ _ ts (then_some _ _ ps (Some ts) ep et) (so_false _ _ el))
  node_breaks names l p n inner st _ _ (Faults.many_acting {c = c} {ps = ps} {ts = ts} ec ep et r) =
      then_none _ _ c ec (then_none _ _ ts (then_some _ _ ps (Some ts) ep et) (so_none _ _ (first_none _ _ (many_none l.scope c.1 ts.0 r st))))
  node_breaks names l p n inner st _ _ (Faults.few_acting {c = c} {ps = ps} {ts = ts} ec ep et r) =
      then_none _ _ c ec (then_none _ _ ts (then_some _ _ ps (Some ts) ep et) (so_none _ _ (first_none _ _ (few_none l.scope c.1 ts.0 r st))))

-- the fields of a literal that is spliced into forms
abbrev kept_out : Literal → Marked → Option Out
kept_out l m = if_so (are_apart l.scope.env.known m.row) (gives (sort_type fields m.row) (exp.Xml' (sort_type fields m.row) m.marks.0 m.marks.1) m.sites)

literal_none : (l : Literal) (n : Count) (inner : Row_of-XmlPart n) (st : Sites) (d : Marked) (a b : List RowPart) → parts_out l inner (place_of fields) st ≡ Some d → Meets l.scope.env.known d.row a b → sorted_out l inner st fields ≡ None
literal_none l n inner st d a b g m = so_none (is_framed fields inner) (option_and_then (kept_out l) (parts_out l inner (place_of fields) st))
    (then_none (kept_out l) (parts_out l inner (place_of fields) st) d g (so_false (are_apart l.scope.env.known d.row) (gives (sort_type fields d.row) (exp.Xml' (sort_type fields d.row) d.marks.0 d.marks.1) d.sites) (meets_false l.scope.env.known d.row a b m)))

-- ---- types that are too large where they are wanted

-- a small type is none of the large ones
told_small : (most : ℕ) (t u : NormalType) → nat_le (type_nodes u) most ≡ false → (nat_le (type_nodes t) most && same_type t u) ≡ false
told_small most t u h = by_test (same_type t u) refl where
  by_test : (b : Bool) → same_type t u ≡ b → (nat_le (type_nodes t) most && b) ≡ false
  by_test true e = and_left _ _ (ap (λ z. nat_le (type_nodes z) most) ((told t u).0 e) ∙ h)
  by_test false e = and_right _ _ refl

unfit_large : (most : ℕ) (o : Out) (t : NormalType) → nat_le (type_nodes t) most ≡ false → (is_accepted most o.exp o.of && fits (wants t) o.of) ≡ false
unfit_large most o t h = by_size (nat_le (type_nodes o.of) most) (may_run o.of && (not (holds_arrow o.of) || is_static o.exp)) (same_type o.of t) (told_small most o.of t h) where
  by_size : (a b c : Bool) → (a && c) ≡ false → ((a && b) && c) ≡ false
  by_size true b c h = and_right b c h
  by_size false b c h = refl

second_false : (a b : Bool) → a ≡ true → (a && b) ≡ false → b ≡ false
second_false true b e h = h
second_false false b e h = absurd (true≢false (sym e))

-- ---- forms

untyped_none : (w : World) (s : Scope) (st : Sites) (x : ExpForm) (text : List ℕ) → Untyped x text → walk w x s st finds ≡ None
untyped_none w s st _ _ none = refl
untyped_none w s st _ _ nil = refl
untyped_none w s st _ _ error = refl

-- what ur_sqltype says of queries and changes with faults
pub record FaultySqlIsNone : Type 0 where
  pub queries : FaultyQueryIsNone
  pub changes : FaultyChangeIsNone

breaks_none : FaultySqlIsNone → (names : List (List ℕ)) (w : World) (s : Scope) (st : Sites) (x : ExpForm) (m : Mode) (f : Fault) → Breaks names w s st x m f → typed w x s st m ≡ None
breaks_none sql names w s st x m f (Causes.unsettled {o = o} g r) = then_none _ _ o g (settled_breaks names w m o f r)
breaks_none sql names w s st x _ _ (Causes.large_wanted {t = t} h) = never _ (walk w x s st (wants t)) (λ o. so_false _ _ (unfit_large w.most o t h))
breaks_none sql names w s st x _ _ (Causes.unannotated {text = text} u) = first_none _ _ (untyped_none w s st x text u)
breaks_none sql names w _ _ _ _ _ (Causes.absent_there h) = first_none _ _ (so_false _ _ h)
breaks_none sql names w _ _ _ _ _ (Causes.empty_there h) = first_none _ _ (so_false _ _ h)
breaks_none sql names w s st _ _ _ (Causes.no_name {x = x} h i) = first_none _ _ (ap (local_or w s st x) h ∙ first_none _ _ i)
breaks_none sql names w _ _ _ _ _ (Causes.no_member h) = first_none _ _ (first_none _ _ h)
breaks_none sql names w _ _ _ _ _ (Causes.no_member_constructor h) = first_none _ _ (first_none _ _ h)
breaks_none sql names w s st _ m _ (Causes.no_constructor c d) = first_none _ _ (ap₂ (by_capital w st m) d c)
breaks_none sql names w s st _ m _ (Causes.lacks_argument {n = n} {d = d} {t = t} c g v) = first_none _ _ (ap₂ (by_capital w st m) g c ∙ then_none _ _ (d, Some t) v refl)
breaks_none sql names w _ _ _ _ _ (Causes.member_lacks_argument {n = n} {d = d} {t = t} g v) = first_none _ _ (then_none _ _ n g (then_none _ _ (d, Some t) v refl))
breaks_none sql names w _ _ _ _ _ (Causes.no_sequence h) = first_none _ _ (first_none _ _ h)
breaks_none sql names w _ _ _ _ _ (Causes.no_cookie h) = first_none _ _ (first_none _ _ (first_none _ _ h))
breaks_none sql names w _ _ _ _ _ (Causes.no_cookie_set h) = first_none _ _ (first_none _ _ (first_none _ _ h))
breaks_none sql names w s st _ _ _ (Causes.outside {x = x} h i) = first_none _ _ (ap (local_or w s st x) h ∙ i)
breaks_none sql names w s st x m c (Causes.bad_instance {f = f} {h = h} ef eh r) = first_none _ _ (function_walk w s st m x f ef ∙ then_none _ _ h eh (so_false _ _ (and_left _ _ (given_fails s.env (given_to x) f.1 h.cons c r))))
breaks_none sql names w s st x m _ (Causes.loses_arrow {f = f} {h = h} ef eh r) = first_none _ _ (function_walk w s st m x f ef ∙ then_none _ _ h eh (so_false _ _ (and_right _ _ r)))
breaks_none sql names w s _ _ _ f (Causes.bad_name {p = p} {x = x} {c = c} r) = first_none _ _ (first_none _ _ (named_none w s (e.ConApp' tt (its p x alone) c) f r))
breaks_none sql names w s st _ _ f (Causes.in_application {x = x} {y = y} r) = first_none _ _ (spine_breaks names w s st x (y ∷ []) f r)
breaks_none sql names w _ _ _ _ _ (Causes.not_compared {d = d} g h) = first_none _ _ (then_none _ _ d g (so_false _ _ h))
breaks_none sql names w s _ _ _ _ (Causes.meets {d = d} {b = b} g i er et h) = first_none _ _ (then_none _ _ d g (then_none _ _ b i (first_none _ _ (ap₂ (join_types s.env.known) er et ∙ so_false _ _ h))))
breaks_none sql names w s _ _ _ _ (Causes.left_no_record {d = d} {b = b} g i er) = first_none _ _ (then_none _ _ d g (then_none _ _ b i (first_none _ _ (ap (λ z. join_types s.env.known z (row_of b.of)) er))))
breaks_none sql names w s _ _ _ _ (Causes.right_no_record {d = d} {b = b} g i er et) = first_none _ _ (then_none _ _ d g (then_none _ _ b i (first_none _ _ (ap₂ (join_types s.env.known) er et))))
breaks_none sql names w _ _ _ _ _ (Causes.not_shown {o = o} g h) = first_none _ _ (then_none _ _ o g (so_false _ _ h))
breaks_none sql names w _ _ _ _ _ (Causes.no_record {o = o} g h) = first_none _ _ (then_none _ _ o g (first_none _ _ h))
breaks_none sql names w _ _ _ _ _ (Causes.no_field {o = o} {r = r} g h i) = first_none _ _ (then_none _ _ o g (then_none _ _ r h (first_none _ _ i)))
breaks_none sql names w _ _ _ _ _ (Causes.nothing_cut {o = o} g h) = first_none _ _ (then_none _ _ o g (first_none _ _ h))
breaks_none sql names w _ _ _ _ _ (Causes.no_field_cut {o = o} {r = r} g h i) = first_none _ _ (then_none _ _ o g (then_none _ _ r h (first_none _ _ i)))
breaks_none sql names w _ _ _ _ _ (Causes.field_twice {r = r} t g h) = first_none _ _ (then_none _ _ r g (so_false _ _ h))
breaks_none sql names w s _ _ _ f (Causes.fields_meet_here {r = r} g m) = first_none _ _ (then_none _ _ r g (so_false _ _ (fields_fail s.env.known r.row f m)))
breaks_none sql names w s st _ m _ (Causes.bad_label {fields = fs} r) = first_none _ _ (first_none _ _ (stray_none w s m _ fs st r))
breaks_none sql names w s _ _ m f (Causes.branch_pattern {branches = bs} {o = o} g r) = first_none _ _ (then_none _ _ o g (first_none _ _ (pattern_breaks names w s o.of _ bs f r o.sites m)))
breaks_none sql names w _ _ _ _ f (Causes.bad_cover {o = o} {b = b} g i r) = first_none _ _ (then_none _ _ o g (then_none _ _ b i (so_false _ _ (cover_fails w o.of b.patterns f r))))
breaks_none sql names w _ _ _ _ _ (Causes.not_run {o = o} g h) = first_none _ _ (then_none _ _ o g (first_none _ _ h))
breaks_none sql names w _ _ _ _ _ (Causes.not_run_alone {o = o} g h) = first_none _ _ (then_none _ _ o g (first_none _ _ h))
breaks_none sql names w _ _ _ _ _ (Causes.not_run_last {o = o} {z = z} {u = u} g h i k) = first_none _ _ (then_none _ _ o g (then_none _ _ u h (then_none _ _ z i (first_none _ _ k))))
breaks_none sql names w _ _ _ _ _ (Causes.not_run_last_alone {o = o} {z = z} {u = u} g h i k) = first_none _ _ (then_none _ _ o g (then_none _ _ u h (then_none _ _ z i (first_none _ _ k))))
breaks_none sql names w s st _ m f (Causes.in_vals {z = z} {vals = vs} r) = first_none _ _ (vals_break names w z m _ vs s st f r)
breaks_none sql names w s _ _ _ f (Causes.bad_form {params = params} h) = first_none _ _ (first_none _ _ (forms_fail w.most s.names params f h))
breaks_none sql names w _ _ _ _ _ (Causes.param_twice {ps = ps} g t h) = first_none _ _ (then_none _ _ ps g (so_false _ _ (and_left _ _ h)))
breaks_none sql names w s st _ _ _ (Causes.no_branch {x = x}) = first_none _ _ (never _ (typed w x s st finds) (λ o. refl))
breaks_none sql names w s st _ _ _ Causes.no_val = refl
breaks_none sql names w s _ _ _ _ (Causes.large_rest {t = t} {acc = acc} g i k h) =
    first_none _ _ (then_none _ _ t g (first_none _ _ (then_none _ _ acc i (so_false _ _ (and_right _ _ (second_false (nat_le (type_nodes acc.1.of) w.most) (same_type acc.1.of (at_row t.0 (step_rest s.env))) k (told_small w.most acc.1.of (at_row t.0 (step_rest s.env)) h)))))))
breaks_none sql names w s _ _ _ f (Causes.bad_param {params = params} {ps = ps} g r) = first_none _ _ (then_none _ _ ps g (so_false _ _ (and_right _ _ (params_false s.env params ps.1 f r))))
breaks_none sql names w _ _ _ _ _ (Causes.curried {ps = ps} {o = o} g i h) = first_none _ _ (then_none _ _ ps g (so_none _ _ (then_none _ _ o i (so_false _ _ (ap not h)))))
breaks_none sql names w s st _ m _ (Causes.other_record_set {x = x} {fields = fs} h) = first_none _ _ (never _ (cookie_at w x) (λ c. first_none _ _ (cookie_false w s st _ _ fs h)))
breaks_none sql names w s st _ m _ (Causes.no_record_set {x = x} {p = p} {y = y} h) = first_none _ _ (never _ (cookie_at w x) (λ c. first_none _ _ (no_record w s st (wants (kind_type c.1)) p y h)))
breaks_none sql names w _ _ _ _ _ (Causes.antiquote_kind {a = a} {t = t} g r) = first_none _ _ (then_none _ _ a g (first_none _ _ (first_none _ _ (no_kind_none a.types t r))))
breaks_none sql names w _ _ _ _ _ (Causes.row_antiquote_kind {a = a} {t = t} g r) = first_none _ _ (then_none _ _ a g (first_none _ _ (first_none _ _ (no_kind_none a.types t r))))
breaks_none sql names w _ _ _ _ _ (Causes.change_antiquote_kind {a = a} {t = t} g r) = first_none _ _ (then_none _ _ a g (first_none _ _ (first_none _ _ (no_kind_none a.types t r))))
breaks_none sql names w _ _ _ _ _ (Causes.bad_query {q = q} {a = a} {kinds = ks} {r = r} g k h) = first_none _ _ (then_none _ _ a g (first_none _ _ (then_none _ _ ks k (sql.queries w.globals.home w.globals.tables w.fields ks q r h))))
breaks_none sql names w _ _ _ _ _ (Causes.bad_change {u = u} {a = a} {kinds = ks} {r = r} g k h) = first_none _ _ (then_none _ _ a g (first_none _ _ (then_none _ _ ks k (sql.changes w.globals.home w.globals.tables ks u r h))))
breaks_none sql names w _ _ _ _ _ (Causes.bad_rows {q = q} {a = a} {kinds = ks} {r = r} g k h) = first_none _ _ (then_none _ _ a g (first_none _ _ (then_none _ _ ks k (sql.queries w.globals.home w.globals.tables w.fields ks q r h))))
breaks_none sql names w s st _ m _ (Causes.no_row_function {q = q} {args = args} {p = p} {g = g} h) =
    first_none _ _ (never _ (antiquotes_walk w args s (with_query_slot st)) (λ a. never _ (query_at w q a) (λ d. first_none _ _ (no_row_lambda w s (query_row w.fields d) (with_query (length st.queries) d a.sites) (of_transaction m) p g h))))
breaks_none sql names w s _ _ _ f (Causes.bad_row_function {params = params} {a = a} {d = d} g i r) = first_none _ _ (then_none _ _ a g (then_none _ _ d i (first_none _ _ (first_none _ _ (row_function_none names w s (query_row w.fields d) params f r)))))
breaks_none sql names w _ _ _ _ _ (Causes.no_xml_rows {x = x} {a = a} {d = d} {o = o} g i h k l) = first_none _ _ (then_none _ _ a g (then_none _ _ d i (then_none _ _ o (then_some _ _ x (Some o) h k) (first_none _ _ l))))
breaks_none sql names w _ _ _ _ _ (Causes.large_function h) = first_none _ _ (first_none _ _ (so_false _ _ (and_left _ _ h)))
breaks_none sql names w s _ _ _ c (Causes.bad_row {f = f} {r = r} b) = first_none _ _ (first_none _ _ (fold_row_none names w s f r c b))
breaks_none sql names w s _ _ _ c (Causes.bad_step {f = f} {r = r} {params = params} b) = first_none _ _ (never _ (fold_types w s f r) (λ t. first_none _ _ (first_none _ _ (step_none w s params c b))))
breaks_none sql names w s st _ _ _ (Causes.no_step_function {f = f} {r = r} {p = p} {x = x} h) = first_none _ _ (never _ (fold_types w s f r) (λ t. first_none _ _ (no_step_lambda w s st t.0 p x h)))
breaks_none sql names w s _ _ _ c (Causes.bad_acc {t = t} {z = z} {acc = acc} g i k b) =
    first_none _ _ (then_none _ _ t g (first_none _ _ (then_none _ _ acc (then_some (step_by w s) _ z (Some acc) i k) (so_false _ _ (and_left _ _ (written_fails acc.0.env z.acc acc.1.of c b))))))
breaks_none sql names w _ _ _ _ _ (Causes.other_acc {t = t} {acc = acc} g i k h) = first_none _ _ (then_none _ _ t g (first_none _ _ (then_none _ _ acc i (so_false _ _ (and_right _ _ h)))))
breaks_none sql names w _ _ _ _ _ (Causes.no_sort {x = x} h i) = first_none _ _ (first_none _ _ (ap (λ z. literal_sort (row_of_parts x.parts).1 z) h ∙ i))
breaks_none sql names w s st _ _ f (Causes.in_literal {x = x} {sort = sort} {splices = ss} {attributes = ats} h r) =
    first_none _ _ (then_none _ _ sort h (so_none _ _ (first_none _ _ (parts_break names (literal_of w s ss ats) (place_of sort) _ (row_of_parts x.parts).1 st f r))))
breaks_none sql names w _ _ _ _ _ (Causes.no_frame {x = x} {sort = sort} {d = d} h b) = first_none _ _ (then_none _ _ sort h (so_false _ _ (bad_frame-none _ sort (row_of_parts x.parts).1 d b)))
breaks_none sql names w s st _ _ _ (Causes.literal_meets {x = x} {splices = ss} {attributes = ats} {d = d} {a = a} {b = b} h g m) = first_none _ _ (then_none _ _ fields h (literal_none (literal_of w s ss ats) _ (row_of_parts x.parts).1 st d a b g m))

-- what has a fault is not typed
pub faulty : FaultySqlIsNone → FaultyIsNone
faulty sql names w s st x m r h = stands_none w s st x m h.scope h.behind h.place h.mode h.stands (breaks_none sql names w h.scope h.behind h.place h.mode h.fault h.broken)
