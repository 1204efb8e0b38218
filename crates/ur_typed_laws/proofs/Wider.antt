-- What an expression resolves to depends on the constructors of datatypes alone, of all that is declared by type, and is the same within a
-- larger limit.
use Rattle.std.proofs.Common.{arith, ◌≡◌, ◌∙◌, sym, ap, Option, List, ℕ}
use Rattle.std.specs.Prelude.{◌≤◌, slice_get}
use mathlib.Core.Former.{Count}
use Rattle.ur_base.specs.Shape.{Shape, count}
use Rattle.ur_syntax.specs.declared.con.Con.{Con}
use Rattle.ur_syntax.specs.declared.con.ConEnv.{ConEnv}
use Rattle.ur_syntax.specs.declared.exp.ExpForm.{ExpForm, Row_of-Exp, Row_of-Field, Row_of-Branch}
use Rattle.ur_syntax.specs.declared.exp.LambdaParam.{LambdaParam}
use Rattle.ur_syntax.specs.declared.exp.Param.{Param as WrittenParam}
use Rattle.ur_syntax.specs.declared.exp.PatForm.{PatForm}
use Rattle.ur_syntax.specs.declared.xml.AttrValue.{AttrValue}
use Rattle.ur_syntax.specs.declared.xml.XmlForm.{XmlForm, Row_of-XmlPart}
use Rattle.ur_terms.specs.declared.term.Pattern.{Pattern}
use Rattle.ur_rows.specs.declared.normal.Normal.{Normal}
use Rattle.ur_rows.specs.declared.normal.NormalType.{NormalType}
use Rattle.ur_rows.specs.declared.normal.Part.{Part}
use Rattle.ur_tree.specs.Places.{Place}
use Rattle.ur_tree.specs.declared.exp.Param.{Param}
use Rattle.ur_tree.specs.declared.exp.Exp.{Exp}
use Rattle.ur_tree.specs.declared.exp.Exp.TheBlock.{Row_of-Exp as Row_of-Resolved, Row_of-FieldExp, Row_of-Branch as Row_of-ResolvedBranch, Row_of-Markup, Held-Exp-Tagged-1}
use Rattle.ur_tree.specs.declared.exp.Markup.{Markup}
use Rattle.ur_tree.specs.Heads.{Declared as Heads}
use Rattle.ur_typed_rules.specs.Names.{Local, Globals, Names, IsWritten, WritesType, WritesRow}
use Rattle.ur_typed.specs.Resolves.{Statements, IsParam, AreLambdaParams, IsFunction, IsPattern, Resolves, Spine, further, head, ResolvesAll, all_none, all_one, ResolvesFields, fields_none, fields_one, ResolvesBranches, branches_none, branches_one, ResolvesParts, parts_none, parts_dropped, parts_one, ResolvesPart, part_text, part_shown, part_splice, part_element, part_form, part_link, part_input, part_submit, ResolvesValue, value_none, value_text, value_of, Calls, call_further, call_head}
use Rattle.ur_typed.specs.Resolves as resolves

variant_at : {A : Type 0} {hs ks : List A} (n : ℕ) {v : Option A} → hs ≡ ks → slice_get hs n ≡ v → slice_get ks n ≡ v
variant_at n e h = sym (ap (λ z. slice_get z n) e) ∙ h

wider_pattern : {g : Globals} {hs ks : Heads} → hs.variants ≡ ks.variants → {t : PatForm} {ls : List Local} {u : Pattern} → IsPattern g hs t ls u → IsPattern g ks t ls u
wider_pattern e resolves.IsPattern.wild = resolves.IsPattern.wild
wider_pattern e resolves.IsPattern.variable = resolves.IsPattern.variable
wider_pattern e resolves.IsPattern.int = resolves.IsPattern.int
wider_pattern e resolves.IsPattern.negative = resolves.IsPattern.negative
wider_pattern e resolves.IsPattern.string = resolves.IsPattern.string
wider_pattern e resolves.IsPattern.true_ = resolves.IsPattern.true_
wider_pattern e resolves.IsPattern.false_ = resolves.IsPattern.false_
wider_pattern e resolves.IsPattern.none = resolves.IsPattern.none
wider_pattern e resolves.IsPattern.some = resolves.IsPattern.some
wider_pattern e resolves.IsPattern.empty = resolves.IsPattern.empty
wider_pattern e resolves.IsPattern.cons = resolves.IsPattern.cons
wider_pattern e (resolves.IsPattern.constructor h i) = resolves.IsPattern.constructor h (variant_at _ e i)
wider_pattern e (resolves.IsPattern.constructor_of h i) = resolves.IsPattern.constructor_of h (variant_at _ e i)
wider_pattern e (resolves.IsPattern.member h i) = resolves.IsPattern.member h (variant_at _ e i)
wider_pattern e (resolves.IsPattern.member_of h i) = resolves.IsPattern.member_of h (variant_at _ e i)

-- ---- what is written within a limit

pub wider_written : {most more : ℕ} {env : ConEnv} {c : Con} {n : Normal} → most ≤ more → IsWritten most env c n → IsWritten more env c n
wider_written l x = let i = x.small in record { form = x.form; small = omega (arith, i, l) }

pub wider_type : {most more : ℕ} {env : ConEnv} {c : Con} {t : NormalType} → most ≤ more → WritesType most env c t → WritesType more env c t
wider_type l x = (x.0, wider_written l x.1, x.2)

pub wider_row : {most more : ℕ} {env : ConEnv} {c : Con} {r : List Part} → most ≤ more → WritesRow most env c r → WritesRow more env c r
wider_row l x = (x.0, wider_written l x.1, x.2)

pub wider_param : {most more : ℕ} {names : Names} {p : WrittenParam} {k : Local} {q : Param} → most ≤ more → IsParam most names p k q → IsParam more names p k q
wider_param l (resolves.IsParam.typed w) = resolves.IsParam.typed (wider_type l w)
wider_param l resolves.IsParam.nothing = resolves.IsParam.nothing

wider_params : {most more : ℕ} {names : Names} {ps : List LambdaParam} {ks : List Local} {qs : List Param} → most ≤ more → AreLambdaParams most names ps ks qs → AreLambdaParams more names ps ks qs
wider_params l resolves.AreLambdaParams.none = resolves.AreLambdaParams.none
wider_params l (resolves.AreLambdaParams.one x xs) = resolves.AreLambdaParams.one (wider_param l x) (wider_params l xs)

wider_function : {most more : ℕ} {g : Globals} {names : Names} {x : ExpForm} {f : ℕ} {args : List Normal} → most ≤ more → IsFunction most g names x f args → IsFunction more g names x f args
wider_function l (resolves.IsFunction.name h) = resolves.IsFunction.name h
wider_function l (resolves.IsFunction.applied x w) = resolves.IsFunction.applied (wider_function l x) (wider_written l w)

-- ---- all forms

mutual
  pub wider : {d : Statements} {most more : ℕ} {g : Globals} {hs ks : Heads} → most ≤ more → hs.variants ≡ ks.variants → {names : Names} {x : ExpForm} {b : Exp} → Resolves d most g hs names x b → Resolves d more g ks names x b
  wider l e resolves.int = resolves.int
  wider l e resolves.string = resolves.string
  wider l e resolves.true_ = resolves.true_
  wider l e resolves.false_ = resolves.false_
  wider l e resolves.unit_value = resolves.unit_value
  wider l e resolves.absent = resolves.absent
  wider l e resolves.empty = resolves.empty
  wider l e (resolves.error h0) = resolves.error (wider l e h0)
  wider l e (resolves.variable h0) = resolves.variable h0
  wider l e (resolves.parameter h0) = resolves.parameter h0
  wider l e (resolves.val h0) = resolves.val h0
  wider l e (resolves.function h0) = resolves.function (wider_function l h0)
  wider l e (resolves.application h0 h1) = resolves.application (wider l e h0) (wider_spine l e h1)
  wider l e (resolves.constructor h0) = resolves.constructor h0
  wider l e (resolves.constructor_of h0 h1) = resolves.constructor_of h0 (wider l e h1)
  wider l e (resolves.lambda h0 h1 h2) = resolves.lambda (wider_params l h0) h1 (wider l e h2)
  wider l e (resolves.record_literal h0) = resolves.record_literal (wider_fields l e h0)
  wider l e (resolves.project h0 h1) = resolves.project (wider l e h0) h1
  wider l e (resolves.cut h0 h1) = resolves.cut (wider l e h0) h1
  wider l e (resolves.negative h0) = resolves.negative (wider l e h0)
  wider l e (resolves.negation h0) = resolves.negation (wider l e h0)
  wider l e (resolves.show h0) = resolves.show (wider l e h0)
  wider l e (resolves.some h0) = resolves.some (wider l e h0)
  wider l e (resolves.return_ h0) = resolves.return_ (wider l e h0)
  wider l e (resolves.operator h0 h1 h2) = resolves.operator h0 (wider l e h1) (wider l e h2)
  wider l e (resolves.choice h0 h1 h2) = resolves.choice (wider l e h0) (wider l e h1) (wider l e h2)
  wider l e (resolves.cases h0 h1) = resolves.cases (wider l e h0) (wider_branches l e h1)
  wider l e (resolves.local_last h0 h1 h2) = resolves.local_last (wider_type l h0) (wider l e h1) (wider l e h2)
  wider l e (resolves.local_more h0 h1 h2) = resolves.local_more (wider_type l h0) (wider l e h1) (wider l e h2)
  wider l e (resolves.bind h0 h1) = resolves.bind (wider l e h0) (wider l e h1)
  wider l e (resolves.sequence h0 h1) = resolves.sequence (wider l e h0) (wider l e h1)
  wider l e (resolves.nextval h0) = resolves.nextval h0
  wider l e (resolves.get_cookie h0) = resolves.get_cookie h0
  wider l e (resolves.set_cookie h0 h1 h2) = resolves.set_cookie h0 h1 (wider l e h2)
  wider l e (resolves.dml h0 h1 h2) = resolves.dml h0 h1 (wider_all l e h2)
  wider l e (resolves.query h0 h1 h2 h3) = resolves.query h0 h1 h2 (wider_all l e h3)
  wider l e (resolves.query_each h0 h1 h2 h3) = resolves.query_each h0 h1 (wider_all l e h2) (wider l e h3)
  wider l e (resolves.query_each_typed r h0 h1 h2 h3 h4 h5) = resolves.query_each_typed r h0 h1 h2 (wider_type l h3) (wider_all l e h4) (wider l e h5)
  wider l e (resolves.fold h0 h1 h2 h3 h4 h5 h6 h7) = resolves.fold (wider_written l h0) (wider_row l h1) h2 h3 h4 (wider_param l h5) (wider l e h6) (wider l e h7)
  wider l e (resolves.xml h0 h1) = resolves.xml h0 (wider_parts l e h1)

  wider_spine : {d : Statements} {most more : ℕ} {g : Globals} {hs ks : Heads} → most ≤ more → hs.variants ≡ ks.variants → {names : Names} {x : ExpForm} {s : Shape} {args : Row_of-Resolved (count s)} {b : Exp} → Spine d most g hs names x s args b → Spine d more g ks names x s args b
  wider_spine l e (further h0 h1) = further (wider l e h0) (wider_spine l e h1)
  wider_spine l e (head h0 h1) = head h0 (wider l e h1)

  wider_all : {d : Statements} {most more : ℕ} {g : Globals} {hs ks : Heads} → most ≤ more → hs.variants ≡ ks.variants → {names : Names} {n : Count} {xs : Row_of-Exp n} {m : Count} {out : Row_of-Resolved m} → ResolvesAll d most g hs names n xs m out → ResolvesAll d more g ks names n xs m out
  wider_all l e all_none = all_none
  wider_all l e (all_one h0 h1) = all_one (wider l e h0) (wider_all l e h1)

  wider_fields : {d : Statements} {most more : ℕ} {g : Globals} {hs ks : Heads} → most ≤ more → hs.variants ≡ ks.variants → {names : Names} {n : Count} {xs : Row_of-Field n} {m : Count} {out : Row_of-FieldExp m} → ResolvesFields d most g hs names n xs m out → ResolvesFields d more g ks names n xs m out
  wider_fields l e fields_none = fields_none
  wider_fields l e (fields_one h0 h1 h2) = fields_one h0 (wider l e h1) (wider_fields l e h2)

  wider_branches : {d : Statements} {most more : ℕ} {g : Globals} {hs ks : Heads} → most ≤ more → hs.variants ≡ ks.variants → {names : Names} {n : Count} {xs : Row_of-Branch n} {m : Count} {out : Row_of-ResolvedBranch m} → ResolvesBranches d most g hs names n xs m out → ResolvesBranches d more g ks names n xs m out
  wider_branches l e branches_none = branches_none
  wider_branches l e (branches_one h0 h1 h2 h3) = branches_one (wider_pattern e h0) h1 (wider l e h2) (wider_branches l e h3)

  wider_parts : {d : Statements} {most more : ℕ} {g : Globals} {hs ks : Heads} → most ≤ more → hs.variants ≡ ks.variants → {names : Names} {a : Count} {splices : Row_of-Exp a} {c : Count} {attributes : Row_of-Exp c} {p : Place} {n : Count} {xs : Row_of-XmlPart n} {m : Count} {out : Row_of-Markup m} → ResolvesParts d most g hs names a splices c attributes p n xs m out → ResolvesParts d more g ks names a splices c attributes p n xs m out
  wider_parts l e parts_none = parts_none
  wider_parts l e (parts_dropped h0 h1) = parts_dropped h0 (wider_parts l e h1)
  wider_parts l e (parts_one h0 h1) = parts_one (wider_part l e h0) (wider_parts l e h1)

  wider_part : {d : Statements} {most more : ℕ} {g : Globals} {hs ks : Heads} → most ≤ more → hs.variants ≡ ks.variants → {names : Names} {a : Count} {splices : Row_of-Exp a} {c : Count} {attributes : Row_of-Exp c} {p : Place} {x : XmlForm} {y : Markup} → ResolvesPart d most g hs names a splices c attributes p x y → ResolvesPart d more g ks names a splices c attributes p x y
  wider_part l e (part_text h0) = part_text h0
  wider_part l e (part_shown h0 h1) = part_shown h0 (wider l e h1)
  wider_part l e (part_splice h0 h1) = part_splice h0 (wider l e h1)
  wider_part l e (part_element h0 h1) = part_element h0 (wider_parts l e h1)
  wider_part l e (part_form h0 h1) = part_form h0 (wider_parts l e h1)
  wider_part l e (part_link h0 h1 h2 h3) = part_link h0 h1 (wider_calls l e h2) (wider_parts l e h3)
  wider_part l e (part_input h0 h1) = part_input h0 (wider_value l e h1)
  wider_part l e (part_submit h0 h1 h2 h3) = part_submit h0 h1 (wider_calls l e h2) (wider_value l e h3)

  wider_value : {d : Statements} {most more : ℕ} {g : Globals} {hs ks : Heads} → most ≤ more → hs.variants ≡ ks.variants → {names : Names} {c : Count} {attributes : Row_of-Exp c} {v : Option AttrValue} {w : Held-Exp-Tagged-1} → ResolvesValue d most g hs names c attributes v w → ResolvesValue d more g ks names c attributes v w
  wider_value l e value_none = value_none
  wider_value l e value_text = value_text
  wider_value l e (value_of h0 h1) = value_of h0 (wider l e h1)

  wider_calls : {d : Statements} {most more : ℕ} {g : Globals} {hs ks : Heads} → most ≤ more → hs.variants ≡ ks.variants → {names : Names} {x : ExpForm} {s : Shape} {args : Row_of-Resolved (count s)} {f : ℕ} {r : Shape} {out : Row_of-Resolved (count r)} → Calls d most g hs names x s args f r out → Calls d more g ks names x s args f r out
  wider_calls l e (call_further h0 h1) = call_further (wider l e h0) (wider_calls l e h1)
  wider_calls l e (call_head h0) = call_head h0
