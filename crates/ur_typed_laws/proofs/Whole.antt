-- Each source that the rules allow is what the walk gives: all forms.
use Rattle.std.proofs.Common.{◌≡◌, ◌∙◌, refl, sym, ap, ap₂, subst, false, Option, Some, List, [], ◌∷◌, ℕ}
use Rattle.std.specs.Prelude.{option_map, option_and_then}
use mathlib.Core.Former.{Count}
use Rattle.ur_base.specs.Shape.{Shape, count}
use Rattle.ur_syntax.specs.declared.exp.ExpForm.{ExpForm, Row_of-Exp, end_of-Exp as alone, more_of-Exp as its, Row_of-Field, Row_of-Branch}
use Rattle.ur_syntax.specs.declared.exp.ExpForm.TheVariants as e
use Rattle.ur_syntax.specs.declared.xml.AttrValue.{AttrValue}
use Rattle.ur_syntax.specs.declared.xml.XmlForm.{XmlForm, Row_of-XmlPart}
use Rattle.ur_rows.specs.declared.normal.NormalType.{NormalType}
use Rattle.ur_tree.specs.Places.{Place, in_form, place_of}
use Rattle.ur_tree.specs.declared.exp.Exp.{Exp}
use Rattle.ur_tree.specs.declared.exp.Exp.TheBlock.{Row_of-Exp as Row_of-Resolved, end_of-Exp as no_more, more_of-Exp as one_more, Row_of-FieldExp, Row_of-Branch as Row_of-ResolvedBranch, Row_of-Markup, Held-Exp-Tagged-1}
use Rattle.ur_tree.specs.declared.exp.Markup.{Markup}
use Rattle.ur_tree.specs.Env.{Env}
use Rattle.ur_tree.specs.Heads.{Declared as Heads}
use Rattle.ur_typed_rules.specs.Names.{Globals, Names, declared}
use Rattle.ur_typed_rules.specs.Names as here
use Rattle.ur_typed_rules.specs.Scopes.{World}
use Rattle.ur_typed.specs.Resolves.{Statements, IsPattern, Resolves, Spine, further, head, ResolvesAll, all_none, all_one, ResolvesFields, fields_none, fields_one, ResolvesBranches, branches_none, branches_one, ResolvesParts, parts_none, parts_dropped, parts_one, ResolvesPart, part_text, part_shown, part_splice, part_element, part_form, part_link, part_input, part_submit, ResolvesValue, value_none, value_text, value_of, Calls, call_further, call_head, IsDeclared}
use Rattle.ur_typed.specs.Resolves as resolves
use Rattle.ur_typed.specs.Rules.{Sites, function_named, if_unbound, as_function_number}
use Rattle.ur_typed.specs.Walking.{call_walk, with_calls}
use Rattle.ur_typed.specs.Faults.{walks}
use Rattle.ur_typed.specs.Parts.{is_applied}
use Rattle.ur_typed.proofs.Literals.{call_at_head}
use Rattle.ur_typed_laws.specs.Judged.{stated}
use Rattle.ur_typed_laws.proofs.Wanting.{wants_is}
use Rattle.ur_typed_rules.proofs.Options.{some_of}
use Rattle.ur_typed_laws.specs.Walked.{scope_at, out_of, IsWalked, Walks, SourceIsWalked, OneSource}
use Rattle.ur_typed_laws.proofs.Walked.{int_walked, string_walked, true_walked, false_walked, unit_walked, variable_walked, parameter_walked, val_walked, absent_walked, empty_walked, next_walked, get_cookie_walked, negative_walked, not_walked, show_walked, some_walked, return_walked, error_walked, project_walked, cut_walked, choice_walked, bind_walked, sequence_walked}
use Rattle.ur_typed_laws.proofs.WalkedForms.{operator_walked, local_last_walked, local_more_walked, lambda_walked}
use Rattle.ur_typed_laws.proofs.WalkedCalls.{AllWalk, no_walks, one_walk, SpineWalks, constructor_walked, built_walked, function_walked, further_walked, head_walked, application_walked}
use Rattle.ur_typed_laws.proofs.WalkedRecords.{FieldsWalk, no_field, one_field, record_walked}
use Rattle.ur_typed_laws.proofs.WalkedCases.{BranchesWalk, no_branches, one_branch, case_walked}
use Rattle.ur_typed_laws.proofs.WalkedStatements.{set_cookie_walked, RowWalks, row_none, row_one, query_walked, change_walked, bare_each_walked, typed_each_walked}
use Rattle.ur_typed_laws.proofs.WalkedFolds.{fold_walked}
use Rattle.ur_typed_laws.proofs.WalkedXml.{CallWalks, ValueWalks, without_value, text_value, value_walk, PartsWalk, none_walk, dropped_walk, one_part, PartWalks, text_walk, shown_walk, splice_walk, element_walk, form_walk, link_walk, input_walk, submit_walk}
use Rattle.ur_typed_laws.proofs.WalkedLiterals.{xml_walked}

-- ---- calls

declared_name : (w : World) (names : Names) (env : Env) (x : ExpForm) (f : ℕ) → IsDeclared w.globals names x (here.function f) → function_named w (scope_at names env) x ≡ Some f
declared_name w names env _ f (resolves.IsDeclared.bare h i) = ap₂ if_unbound h (ap (option_and_then as_function_number) i)
declared_name w names env _ f (resolves.IsDeclared.member i) = ap (option_and_then as_function_number) i

not_applied : (w : World) (names : Names) (x : ExpForm) (f : ℕ) → IsDeclared w.globals names x (here.function f) → is_applied x ≡ false
not_applied w names _ f (resolves.IsDeclared.bare h i) = refl
not_applied w names _ f (resolves.IsDeclared.member i) = refl

-- a call behind the arguments that it is applied to so far
record GivenWalks (w : World) (d : Statements) (names : Names) (x : ExpForm) (ys : List ExpForm) (f : ℕ) (r : Shape) (args : Row_of-Resolved (count r)) : Type 0 where
  given : List ExpForm
  all : AllWalk w d names given r args
  called : (env : Env) → call_walk w x (scope_at names env) (walks w ys) ≡ Some (f, walks w given)

call_of : (w : World) (d : Statements) (names : Names) (x : ExpForm) (f : ℕ) (r : Shape) (args : Row_of-Resolved (count r)) → GivenWalks w d names x [] f r args → CallWalks w d names x f r args
call_of w d names x f r args g = record { given = g.given; all = g.all; called = g.called }

-- a world of what is declared
abbrev the_world : ℕ → Globals → Heads → List (List ℕ) → World
the_world most g dd ff = record { globals = g; declared = dd; fields = ff; most = most }

-- the heads are those that it has with the project's statements
abbrev IsHeads : Statements → ℕ → Globals → Heads → Heads → List (List ℕ) → Type 0
IsHeads d most g hs dd ff = (stated d (the_world most g dd ff)).declared ≡ hs

-- ---- all forms

mutual
  source_walked : (d : Statements) (most : ℕ) (g : Globals) (hs : Heads) (dd : Heads) (ff : List (List ℕ)) → IsHeads d most g hs dd ff → (names : Names) (x : ExpForm) (b : Exp) → Resolves d most g hs names x b → Walks (the_world most g dd ff) d names x b
  source_walked d most g hs dd ff same names _ _ (resolves.int {n = n}) = int_walked (the_world most g dd ff) d names n
  source_walked d most g hs dd ff same names _ _ (resolves.string {s = s}) = string_walked (the_world most g dd ff) d names s
  source_walked d most g hs dd ff same names _ _ resolves.true_ = true_walked (the_world most g dd ff) d names
  source_walked d most g hs dd ff same names _ _ resolves.false_ = false_walked (the_world most g dd ff) d names
  source_walked d most g hs dd ff same names _ _ resolves.unit_value = unit_walked (the_world most g dd ff) d names
  source_walked d most g hs dd ff same names _ _ (resolves.absent {t = t}) = absent_walked (the_world most g dd ff) d names t
  source_walked d most g hs dd ff same names _ _ (resolves.empty {t = t}) = empty_walked (the_world most g dd ff) d names t
  source_walked d most g hs dd ff same names _ _ (resolves.error {p = p} {x = x} {y = y} {t = t} r) = error_walked (the_world most g dd ff) d names p x y t (source_walked d most g hs dd ff same names x y r)
  source_walked d most g hs dd ff same names _ _ (resolves.variable {x = x} {i = i} h) = variable_walked (the_world most g dd ff) d names x i h
  source_walked d most g hs dd ff same names _ _ (resolves.parameter {x = x} {i = i} h) = parameter_walked (the_world most g dd ff) d names x i h
  source_walked d most g hs dd ff same names x _ (resolves.val {v = v} h) = val_walked (the_world most g dd ff) d names x v h
  source_walked d most g hs dd ff same names x _ (resolves.function {f = f} {args = args} h) = function_walked (the_world most g dd ff) d names x f args h
  source_walked d most g hs dd ff same names _ t (resolves.application {p = p} {q = q} {x = x} {y = y} {b = b} r sp) = application_walked (the_world most g dd ff) d names p q x y b t (source_walked d most g hs dd ff same names y b r) (subst (λ z. Spine d most g z names x (tt ∷ []) (one_more b no_more) t) (sym same) sp) (spine_source d most g hs dd ff same names x _ _ t sp)
  source_walked d most g hs dd ff same names x _ (resolves.constructor {n = n} h) = constructor_walked (the_world most g dd ff) d names x n h
  source_walked d most g hs dd ff same names _ _ (resolves.constructor_of {p = p} {q = q} {x = x} {y = y} {n = n} {b = b} h r) = built_walked (the_world most g dd ff) d names p q x y n b h (source_walked d most g hs dd ff same names y b r)
  source_walked d most g hs dd ff same names _ _ (resolves.lambda {params = params} {ls = ls} {out = out} {p = p} {x = x} {b = b} ps ds r) = lambda_walked (the_world most g dd ff) d names params ls out p x b ps ds (source_walked d most g hs dd ff same _ x b r)
  source_walked d most g hs dd ff same names _ _ (resolves.record_literal {s = s} {q = q} {fields = fields} {out = out} r) = record_walked (the_world most g dd ff) d names s fields q out (fields_source d most g hs dd ff same names _ fields _ out r)
  source_walked d most g hs dd ff same names _ _ (resolves.project {p = p} {x = x} {f = f} {b = b} {l = l} r h) = project_walked (the_world most g dd ff) d names p x f b l (source_walked d most g hs dd ff same names x b r) h
  source_walked d most g hs dd ff same names _ _ (resolves.cut {p = p} {x = x} {r = f} {b = b} {l = l} r h) = cut_walked (the_world most g dd ff) d names p x f b l (source_walked d most g hs dd ff same names x b r) h
  source_walked d most g hs dd ff same names _ _ (resolves.negative {p = p} {x = x} {b = b} r) = negative_walked (the_world most g dd ff) d names p x b (source_walked d most g hs dd ff same names x b r)
  source_walked d most g hs dd ff same names _ _ (resolves.negation {p = p} {x = x} {b = b} r) = not_walked (the_world most g dd ff) d names p x b (source_walked d most g hs dd ff same names x b r)
  source_walked d most g hs dd ff same names _ _ (resolves.show {p = p} {x = x} {b = b} r) = show_walked (the_world most g dd ff) d names p x b (source_walked d most g hs dd ff same names x b r)
  source_walked d most g hs dd ff same names _ _ (resolves.some {p = p} {x = x} {b = b} r) = some_walked (the_world most g dd ff) d names p x b (source_walked d most g hs dd ff same names x b r)
  source_walked d most g hs dd ff same names _ _ (resolves.return_ {p = p} {x = x} {b = b} r) = return_walked (the_world most g dd ff) d names p x b (source_walked d most g hs dd ff same names x b r)
  source_walked d most g hs dd ff same names _ _ (resolves.operator {w = o} {o = q'} {p = p} {q = q} {x = x} {y = y} {a = a} {b = b} h r t) = operator_walked (the_world most g dd ff) d names o q' p q x y a b h (source_walked d most g hs dd ff same names x a r) (source_walked d most g hs dd ff same names y b t)
  source_walked d most g hs dd ff same names _ _ (resolves.choice {p = p} {q = q} {r = o} {x = x} {y = y} {z = z} {a = a} {b = b} {c = c} r t u) = choice_walked (the_world most g dd ff) d names p q o x y z a b c (source_walked d most g hs dd ff same names x a r) (source_walked d most g hs dd ff same names y b t) (source_walked d most g hs dd ff same names z c u)
  source_walked d most g hs dd ff same names _ _ (resolves.cases {p = p} {x = x} {s = s} {q = q} {branches = branches} {a = a} {out = out} r bs) = case_walked (the_world most g dd ff) d names p x s branches a q out (source_walked d most g hs dd ff same names x a r) (branches_source d most g hs dd ff same names _ branches _ out bs)
  source_walked d most g hs dd ff same names _ _ (resolves.local_last {p = p} {q = q} {r = o} {x = x} {c = c} {y = y} {z = z} {u = u} {a = a} {b = b} h r t) = local_last_walked (the_world most g dd ff) d names p q o x c y z u a b h (source_walked d most g hs dd ff same names y a r) (source_walked d most g hs dd ff same _ z b t)
  source_walked d most g hs dd ff same names _ _ (resolves.local_more {p = p} {q = q} {r = o} {s = s} {x = x} {c = c} {y = y} {z = z} {u = u} {a = a} {b = b} {rest = rest} h r t) =
      local_more_walked (the_world most g dd ff) d names p q o s x c y z u a b rest h (source_walked d most g hs dd ff same names y a r) (source_walked d most g hs dd ff same _ (e.Let' (tt ∷ s) rest tt (its o z alone)) b t)
  source_walked d most g hs dd ff same names _ _ (resolves.bind {x = x} {p = p} {q = q} {y = y} {z = z} {a = a} {b = b} r t) = bind_walked (the_world most g dd ff) d names x p q y z a b (source_walked d most g hs dd ff same names y a r) (source_walked d most g hs dd ff same _ z b t)
  source_walked d most g hs dd ff same names _ _ (resolves.sequence {p = p} {q = q} {y = y} {z = z} {a = a} {b = b} r t) = sequence_walked (the_world most g dd ff) d names p q y z a b (source_walked d most g hs dd ff same names y a r) (source_walked d most g hs dd ff same _ z b t)
  source_walked d most g hs dd ff same names _ _ (resolves.nextval {x = x} {n = n} h) = next_walked (the_world most g dd ff) d names x n h
  source_walked d most g hs dd ff same names _ _ (resolves.get_cookie {x = x} {n = n} h) = get_cookie_walked (the_world most g dd ff) d names x n h
  source_walked d most g hs dd ff same names _ _ (resolves.set_cookie {x = x} {n = n} {p = p} {s = s} {fields = fields} {y = y} {b = b} h i r) = set_cookie_walked (the_world most g dd ff) d names x n p s fields y b h i (source_walked d most g hs dd ff same names y b r)
  source_walked d most g hs dd ff same names _ _ (resolves.dml {w = u} {u = n} {d = c} {s = s} {q = q} {args = args} {out = out} h i r) = change_walked (the_world most g dd ff) d names u n c s args q out h i (row_source d most g hs dd ff same names _ args _ out r)
  source_walked d most g hs dd ff same names _ _ (resolves.query {how = how} {a = a} {w = u} {n = n} {d = c} {s = s} {q = q} {args = args} {out = out} ia h i r) = query_walked (the_world most g dd ff) d names how a u n c s args q out ia h i (row_source d most g hs dd ff same names _ args _ out r)
  source_walked d most g hs dd ff same names _ _ (resolves.query_each {w = u} {n = n} {d = c} {s = s} {q = q} {args = args} {out = out} {p = p} {r = o} {x = x} {y = y} {b = b} h i r t) =
      bare_each_walked (the_world most g dd ff) d names u n c s args q out p o x y b h i (row_source d most g hs dd ff same names _ args _ out r) (source_walked d most g hs dd ff same _ y b t)
  source_walked d most g hs dd ff same names _ _ (resolves.query_each_typed {w = u} {n = n} {d = c} {s = s} {q = q} {args = args} {out = out} {p = p} {o = o} {x = x} {c = con} rows {y = y} {b = b} h i er kt r t) =
      typed_each_walked (the_world most g dd ff) d names u n c s args q out p o x con rows y b h i er kt (row_source d most g hs dd ff same names _ args _ out r) (source_walked d most g hs dd ff same _ y b t)
  source_walked d most g hs dd ff same names _ _ (resolves.fold {f = f} {r = r} {fn = fn} {row = row} {p = p} {q = q} {a = a} {start = start} {y = y} {nm = nm} {t = t} {rest = rest} {left = left} {right = right} {acc = acc} {l = l} {out = out} {start_to = start_to} {step = step} kf kr dn el er kp rs ry) =
      fold_walked (the_world most g dd ff) d names f r fn row p q a start y (record { nm = nm; t = t; rest = rest; acc = acc }) left right l out start_to step kf kr (record { one = dn.0; two = dn.1; three = dn.2; bare_name = el; variable = er }) kp (source_walked d most g hs dd ff same names start start_to rs) (source_walked d most g hs dd ff same _ y step ry)
  source_walked d most g hs dd ff same names _ _ (resolves.xml {t = t} {sort = sort} {q = q} {r = r} {o = o} {literal = literal} {splices = splices} {attributes = attributes} {out = out} h k) =
      xml_walked (the_world most g dd ff) d names literal q splices r attributes t sort o out h (parts_source d most g hs dd ff same names _ splices _ attributes (place_of sort) _ _ _ out k)

  spine_source : (d : Statements) (most : ℕ) (g : Globals) (hs : Heads) (dd : Heads) (ff : List (List ℕ)) → IsHeads d most g hs dd ff → (names : Names) (x : ExpForm) (s : Shape) (row : Row_of-Resolved (count s)) (t : Exp) → Spine d most g hs names x s row t → SpineWalks (the_world most g dd ff) d names x s row t
  spine_source d most g hs dd ff same names _ s row t (further {p = p} {q = q} {x = x} {y = y} {b = b} r sp) = further_walked (the_world most g dd ff) d names p q x y b t s row (source_walked d most g hs dd ff same names y b r) (spine_source d most g hs dd ff same names x _ _ t sp)
  spine_source d most g hs dd ff same names x s row _ (head {b = b} i r) = head_walked (the_world most g dd ff) d names x b s row i (source_walked d most g hs dd ff same names x b r) (subst (λ z. Resolves d most g z names x b) (sym same) r)

  row_source : (d : Statements) (most : ℕ) (g : Globals) (hs : Heads) (dd : Heads) (ff : List (List ℕ)) → IsHeads d most g hs dd ff → (names : Names) (n : Count) (xs : Row_of-Exp n) (m : Count) (out : Row_of-Resolved m) → ResolvesAll d most g hs names n xs m out → RowWalks (the_world most g dd ff) d names n xs m out
  row_source d most g hs dd ff same names _ _ _ _ all_none = row_none
  row_source d most g hs dd ff same names _ _ _ _ (all_one {x = x} {b = b} {rest = rest} {out = out} r t) = row_one (source_walked d most g hs dd ff same names x b r) (row_source d most g hs dd ff same names _ rest _ out t)

  fields_source : (d : Statements) (most : ℕ) (g : Globals) (hs : Heads) (dd : Heads) (ff : List (List ℕ)) → IsHeads d most g hs dd ff → (names : Names) (n : Count) (fs : Row_of-Field n) (m : Count) (out : Row_of-FieldExp m) → ResolvesFields d most g hs names n fs m out → FieldsWalk (the_world most g dd ff) d names n fs m out
  fields_source d most g hs dd ff same names _ _ _ _ fields_none = no_field
  fields_source d most g hs dd ff same names _ _ _ _ (fields_one {x = x} {b = b} {rest = rest} {out = out} l r t) = one_field l (source_walked d most g hs dd ff same names x b r) (fields_source d most g hs dd ff same names _ rest _ out t)

  branches_source : (d : Statements) (most : ℕ) (g : Globals) (hs : Heads) (dd : Heads) (ff : List (List ℕ)) → IsHeads d most g hs dd ff → (names : Names) (n : Count) (bs : Row_of-Branch n) (m : Count) (out : Row_of-ResolvedBranch m) → ResolvesBranches d most g hs names n bs m out → BranchesWalk (the_world most g dd ff) d names n bs m out
  branches_source d most g hs dd ff same names _ _ _ _ branches_none = no_branches
  branches_source d most g hs dd ff same names _ _ _ _ (branches_one {t = q} {ls = ls} {u = u} {x = x} {b = b} {rest = rest} {out = out} p ds r t) = one_branch (subst (λ z. IsPattern g z q.form ls u) (sym same) p) ds (source_walked d most g hs dd ff same _ x b r) (branches_source d most g hs dd ff same names _ rest _ out t)

  parts_source : (d : Statements) (most : ℕ) (g : Globals) (hs : Heads) (dd : Heads) (ff : List (List ℕ)) → IsHeads d most g hs dd ff → (names : Names) (a : Count) (splices : Row_of-Exp a) (c : Count) (attributes : Row_of-Exp c) (p : Place) (n : Count) (xs : Row_of-XmlPart n) (m : Count) (out : Row_of-Markup m) → ResolvesParts d most g hs names a splices c attributes p n xs m out →
      PartsWalk (the_world most g dd ff) d names a splices c attributes p n xs m out
  parts_source d most g hs dd ff same names _ splices _ attributes p _ _ _ _ parts_none = none_walk
  parts_source d most g hs dd ff same names _ splices _ attributes p _ _ _ out (parts_dropped {rest = rest} h r) = dropped_walk h (parts_source d most g hs dd ff same names _ splices _ attributes p _ rest _ out r)
  parts_source d most g hs dd ff same names _ splices _ attributes p _ _ _ _ (parts_one {x = x} {y = y} {rest = rest} {out = out} r t) = one_part (part_source d most g hs dd ff same names _ splices _ attributes p x y r) (parts_source d most g hs dd ff same names _ splices _ attributes p _ rest _ out t)

  part_source : (d : Statements) (most : ℕ) (g : Globals) (hs : Heads) (dd : Heads) (ff : List (List ℕ)) → IsHeads d most g hs dd ff → (names : Names) (a : Count) (splices : Row_of-Exp a) (c : Count) (attributes : Row_of-Exp c) (p : Place) (x : XmlForm) (y : Markup) → ResolvesPart d most g hs names a splices c attributes p x y → PartWalks (the_world most g dd ff) d names a splices c attributes p x y
  part_source d most g hs dd ff same names _ splices _ attributes p _ _ (part_text h) = text_walk h
  part_source d most g hs dd ff same names _ splices _ attributes p _ _ (part_shown {x = x} {b = b} h r) = shown_walk h (source_walked d most g hs dd ff same names x b r)
  part_source d most g hs dd ff same names _ splices _ attributes p _ _ (part_splice {x = x} {b = b} h r) = splice_walk h (wants_is d most g hs names x b r) (source_walked d most g hs dd ff same names x b r)
  part_source d most g hs dd ff same names _ splices _ attributes p _ _ (part_element {i = i} {parts = parts} {out = out} h r) = element_walk h (parts_source d most g hs dd ff same names _ splices _ attributes i _ parts _ out r)
  part_source d most g hs dd ff same names _ splices _ attributes p _ _ (part_form {parts = parts} {out = out} h r) = form_walk h (parts_source d most g hs dd ff same names _ splices _ attributes in_form _ parts _ out r)
  part_source d most g hs dd ff same names _ splices _ attributes p _ _ (part_link {f = f} {x = x} {r = z} {args = args} {parts = parts} {out = out} h i c r) = link_walk h i (call_of (the_world most g dd ff) d names x f z args (given_source d most g hs dd ff same names x [] no_more f z args c [] no_walks)) (parts_source d most g hs dd ff same names _ splices _ attributes p _ parts _ out r)
  part_source d most g hs dd ff same names _ splices _ attributes p _ _ (part_input {v = v} {w = y} h r) = input_walk h (value_source d most g hs dd ff same names _ attributes v y r)
  part_source d most g hs dd ff same names _ splices _ attributes p _ _ (part_submit {f = f} {x = x} {r = z} {args = args} {v = v} {w = y} h i c r) = submit_walk h i (call_of (the_world most g dd ff) d names x f z args (given_source d most g hs dd ff same names x [] no_more f z args c [] no_walks)) (value_source d most g hs dd ff same names _ attributes v y r)

  value_source : (d : Statements) (most : ℕ) (g : Globals) (hs : Heads) (dd : Heads) (ff : List (List ℕ)) → IsHeads d most g hs dd ff → (names : Names) (c : Count) (attributes : Row_of-Exp c) (v : Option AttrValue) (h : Held-Exp-Tagged-1) → ResolvesValue d most g hs names c attributes v h → ValueWalks (the_world most g dd ff) d names c attributes v h
  value_source d most g hs dd ff same names _ attributes _ _ value_none = without_value
  value_source d most g hs dd ff same names _ attributes _ _ value_text = text_value
  value_source d most g hs dd ff same names _ attributes _ _ (value_of {x = x} {b = b} h r) = value_walk h (source_walked d most g hs dd ff same names x b r)

  given_source : (d : Statements) (most : ℕ) (g : Globals) (hs : Heads) (dd : Heads) (ff : List (List ℕ)) → IsHeads d most g hs dd ff → (names : Names) (x : ExpForm) (s : Shape) (row : Row_of-Resolved (count s)) (f : ℕ) (r : Shape) (args : Row_of-Resolved (count r)) → Calls d most g hs names x s row f r args → (ys : List ExpForm) → AllWalk (the_world most g dd ff) d names ys s row → GivenWalks (the_world most g dd ff) d names x ys f r args
  given_source d most g hs dd ff same names _ s row f r args (call_further {x = x} {y = y} {b = b} k c) ys a =
      let k' : GivenWalks (the_world most g dd ff) d names x (y ∷ ys) f r args = given_source d most g hs dd ff same names x (tt ∷ s) (one_more b row) f r args c (y ∷ ys) (one_walk (source_walked d most g hs dd ff same names y b k) a) in
      record { given = k'.given; all = k'.all; called = k'.called }
  given_source d most g hs dd ff same names x s row f _ _ (call_head h) ys a =
      record { given = ys; all = a; called = λ env. call_at_head (the_world most g dd ff) x (scope_at names env) (walks (the_world most g dd ff) ys) (not_applied (the_world most g dd ff) names x f h) ∙ ap (option_map (with_calls (walks (the_world most g dd ff) ys))) (declared_name (the_world most g dd ff) names env x f h) }

pub source_is_walked : SourceIsWalked
source_is_walked w d names x b r = source_walked d w.most w.globals (stated d w).declared w.declared w.fields refl names x b r

one_out : {t u : NormalType} {b c : Exp} {st su : Sites} → Some (out_of t b st) ≡ Some (out_of u c su) → (b ≡ c) × (t ≡ u)
one_out h = (ap (λ z. z.exp) (some_of h), ap (λ z. z.of) (some_of h))

pub one_source : OneSource
one_source w d names env m st x b c t u rb jb sb rc jc sc g =
    let i : IsWalked w d x (scope_at names env) st m b t = source_is_walked w d names x b rb env m t jb st g sb in
    let k : IsWalked w d x (scope_at names env) st m c u = source_is_walked w d names x c rc env m u jc st g sc in
    one_out (sym i.walked ∙ k.walked)
