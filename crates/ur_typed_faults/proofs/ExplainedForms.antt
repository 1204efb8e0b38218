-- `case`, lambdas, `setCookie`, statements and folds: where the walk has no answer there is a fault.
use Rattle.std.proofs.Common.{inl, inr, ◌⊎◌, ◌≡◌, ◌∙◌, refl, sym, ap, subst, Bool, true, false, true≢false, Option, Some, None, List, [], ◌∷◌, ℕ, map}
use Rattle.std.specs.Prelude.{◌&&◌, not, nat_le, option_map, option_and_then, codes, length}
use mathlib.Core.Former.{Count}
use Rattle.ur_base.specs.Shape.{Shape, count}
use Rattle.ur_base.specs.declared.refusal.Span.{Span}
use Rattle.ur_base.specs.declared.refusal.Refusal.{Refusal}
use Rattle.ur_syntax.specs.declared.con.Con.{Con}
use Rattle.ur_syntax.specs.declared.sql.DeclName.{DeclName}
use Rattle.ur_syntax.specs.declared.sql.SqlQuery.{SqlQuery}
use Rattle.ur_syntax.specs.declared.sql.SqlChange.{SqlChange}
use Rattle.ur_syntax.specs.declared.exp.Binder.{Binder}
use Rattle.ur_syntax.specs.declared.exp.Param.TheVariants as written_param
use Rattle.ur_syntax.specs.declared.exp.LambdaParam.{LambdaParam}
use Rattle.ur_syntax.specs.declared.exp.LambdaParam.TheVariants as lambda_param
use Rattle.ur_syntax.specs.declared.exp.Pat.{Pat}
use Rattle.ur_syntax.specs.declared.exp.QueryWord.{QueryWord}
use Rattle.ur_syntax.specs.declared.exp.ExpForm.{ExpForm, Row_of-Exp, end_of-Exp as alone, more_of-Exp as its, Row_of-Field, end_of-Field, more_of-Field, Row_of-Branch, end_of-Branch, more_of-Branch}
use Rattle.ur_syntax.specs.declared.exp.ExpForm.TheVariants as e
use Rattle.ur_values.specs.declared.schema.ColumnKind.{ColumnKind}
use Rattle.ur_terms.specs.declared.term.Pattern.{Pattern}
use Rattle.ur_sql.specs.declared.query.Query.{Query}
use Rattle.ur_sql.specs.declared.change.Change.{Change}
use Rattle.ur_rows.specs.declared.normal.NormalType.{NormalType}
use Rattle.ur_rows.specs.declared.normal.Part.{Part as RowPart}
use Rattle.ur_rows.specs.Made.{unit, record_of}
use Rattle.ur_rows.specs.Nodes.{nodes}
use Rattle.ur_rows.specs.Normal.{nf, as_function}
use Rattle.ur_rows.specs.Put.{as_type, as_row}
use Rattle.ur_rows.specs.Types.{transaction_of, arrows_of, at_row, holds_arrow}
use Rattle.ur_tree.specs.Places.{sort_of, Sort}
use Rattle.ur_tree.specs.Scalars.{kind_type}
use Rattle.ur_tree.specs.QueryRow.{query_row}
use Rattle.ur_sqltype.specs.Lists.{all_of}
use Rattle.ur_sqltype.specs.Table.{column_type_kind}
use Rattle.ur_sqltype.specs.SqltypeFaults.{QueryHasFault, ChangeHasFault}
use Rattle.ur_tree.specs.declared.exp.Param.{Param}
use Rattle.ur_tree.specs.declared.exp.Exp.TheVariants as exp
use Rattle.ur_tree.specs.Make as make
use Rattle.ur_tree.specs.Env.{Env, row_is_plain}
use Rattle.ur_tree.specs.Typing.{types_of, answer_type, step_rest, step_row, within_step}
use Rattle.ur_typed_rules.specs.Names.{Local, Names}
use Rattle.ur_typed_rules.specs.Scopes.{World, Scope, Mode, finds, wants, within_binder, within_branch, within_params, of_result, of_transaction}
use Rattle.ur_typed_rules.specs.Tests.{same_type, local_name, are_distinct, are_params, is_param, is_row, covers}
use Rattle.ur_sqltype.specs.Query.{query_of}
use Rattle.ur_sqltype.specs.Change.{change_of}
use Rattle.ur_typed.specs.Rules.{Sites, Out, Branches, gives, branch_by, branch_within, with_branch, lambda_with, cookie_at, is_literally, are_literal_rest, Antiquotes, with_antiquote, with_query_slot, with_change_slot, with_query, with_change, query_at, change_at, answer_of, row_param, rows_out}
use Rattle.ur_typed.specs.Folds.{Step, step_form, step_names, step_with, step_by, step_of, step_fits, step_out, fold_types}
use Rattle.ur_typed.specs.Walking.{typed, branches_walk, antiquotes_walk, cookie_walk, cookie_field_walk, row_walk, step_walk}
use Rattle.ur_typed.specs.Parts.{InBranches, this_branch, later_branch, InAntiquotes, this_antiquote, later_antiquote, first_field}
use Rattle.ur_typed.specs.Faults.{BreaksParams, this_param, later_param, BreaksRowFunction, BreaksStep, BreaksPattern, later_pattern, this_pattern}
use Rattle.ur_typed.specs.Causes.{IsNoKind, this_kind, later_kind, is_lambda, is_record}
use Rattle.ur_typed_faults.proofs.Queries.{query_faulty}
use Rattle.ur_typed_faults.proofs.Changes.{change_faulty}
use Rattle.ur_typed_faults.specs.Converse.{IsWorld, IsFaulty, Explained}
use Rattle.ur_typed_faults.proofs.Converse.{here_faulty, part_faulty, explained_by}
use Rattle.ur_typed_faults.proofs.ExplainedNames.{cookie_unknown}
use Rattle.ur_typed_rules.specs.Faults.{Fault}
use Rattle.ur_typed_rules.specs.Repeats.{IsTwiceIn}
use Rattle.ur_typed_rules.specs.Arguments.{BreaksWritten, breaks_typed, BreaksForms, large_row, row_out_of_place, BreaksRowPlace}
use Rattle.ur_typed_rules.specs.Patterns.{BreaksPat, BreaksCover}
use Rattle.ur_typed_rules.specs.Rules.{if_so, pattern_of, bound_in, Params, and_params, small_type, param_out, params_out}
use Rattle.ur_typed_rules.proofs.Options.{some_of, both_false, some_none, then_none_is, if_none_is, map_none_is, not_false, opened, mapped}
use Rattle.ur_typed_rules.proofs.Written.{written_broken, forms_broken, row_place_broken, large_broken}
use Rattle.ur_typed_rules.proofs.Patterns.{PatFails, stands_for_none, not_distinct, binds_none, pat_broken, cover_broken, local_twice}
use Rattle.ur_typed.proofs.Shapes.{record_is, lambda_is}
use Rattle.ur_typed.specs.Parts
use Rattle.ur_typed.specs.Faults
use Rattle.ur_typed.specs.Causes

abbrev pub BranchesExplained : List (List ℕ) → World → {n : _} → Row_of-Branch n → Type 0
BranchesExplained names w end_of-Branch = Unit {0}
BranchesExplained names w (more_of-Branch t p x rest) = Explained names w x × BranchesExplained names w rest

abbrev IsEnd : (n : Count) → Row_of-Branch n → Type 0
IsEnd _ end_of-Branch = Unit {0}
IsEnd _ (more_of-Branch t p x rest) = ⊥

-- a body is faulty, a pattern breaks its rule, or there is no branch of which a type is found
data BranchFault (names : List (List ℕ)) (w : World) (s : Scope) (u : NormalType) : (n : Count) → Row_of-Branch n → Sites → Mode → Type 0 where
  body_of : {n : Count} {bs : Row_of-Branch n} {st su : Sites} {m m' : Mode} {s' : Scope} {y : ExpForm} → InBranches w s u n bs st m s' su y m' → IsFaulty names w s' su y m' → BranchFault names w s u n bs st m
  pattern_of_it : {n : Count} {bs : Row_of-Branch n} {st : Sites} {m : Mode} {f : Fault} → BreaksPattern names w u n bs f → BranchFault names w s u n bs st m
  no_branches : {n : Count} {bs : Row_of-Branch n} {st : Sites} → IsEnd n bs → BranchFault names w s u n bs st finds

branch_behind : (names : List (List ℕ)) (w : World) (s : Scope) (u : NormalType) (n : Count) (t : Pat) (p : Span) (x : ExpForm) (rest : Row_of-Branch n) (st : Sites) (m : Mode) (q : List Local × Pattern) (bound : List NormalType) (o : Out) → pattern_of w.globals t.form ≡ Some q → bound_in w u q ≡ Some bound →
    typed w x (within_branch q.0 bound s) st m ≡ Some o → BranchFault names w s u n rest o.sites (wants o.of) → BranchFault names w s u _ (more_of-Branch t p x rest) st m
branch_behind names w s u n t p x rest st m q bound o ep eb eo (body_of r f) = body_of (later_branch ep eb eo r) f
branch_behind names w s u n t p x rest st m q bound o ep eb eo (pattern_of_it b) = pattern_of_it (later_pattern b)

broken_pattern : (names : List (List ℕ)) (w : World) {s : Scope} (u : NormalType) (n : Count) (t : Pat) (p : Span) (x : ExpForm) (rest : Row_of-Branch n) (st : Sites) (m : Mode) → PatFails w u t.form → BranchFault names w s u _ (more_of-Branch t p x rest) st m
broken_pattern names w u n t p x rest st m h = let b : (f : Fault) × BreaksPat names w u t.form f = pat_broken names w u t.form h in pattern_of_it (this_pattern b.1)

abbrev Rest : Type 0
Rest = Sites → Mode → Option Branches

branches_explained : (names : List (List ℕ)) (w : World) (s : Scope) (u : NormalType) (n : Count) (bs : Row_of-Branch n) → BranchesExplained names w bs → (st : Sites) (m : Mode) → branches_walk w bs s u st m ≡ None → BranchFault names w s u n bs st m
branches_explained names w s u _ end_of-Branch k st finds h = no_branches tt
branches_explained names w s u _ end_of-Branch k st (wants t) h = absurd (some_none h)
branches_explained names w s u _ (more_of-Branch {n = n} t p x rest) k st m h =
    let again : Rest = λ st' n'. branches_walk w rest s u st' n' in
    elim (then_none_is (branch_by w s u st m (typed w x) again) (pattern_of w.globals t.form) h) [
      | inl a ↦ broken_pattern names w u n t p x rest st m (stands_for_none a)
      | inr q ↦ elim (if_none_is (are_distinct q.0.0) (option_and_then (branch_within w s st m (typed w x) again q.0) (bound_in w u q.0)) q.2) [
        | inl a ↦ broken_pattern names w u n t p x rest st m (not_distinct q.1 a)
        | inr b ↦ elim (then_none_is (branch_within w s st m (typed w x) again q.0) (bound_in w u q.0) b) [
          | inl a ↦ broken_pattern names w u n t p x rest st m (binds_none q.1 a)
          | inr bound ↦ elim (then_none_is (λ o. option_map (with_branch q.0.1 o) (again o.sites (wants o.of))) (typed w x (within_branch q.0.0 bound.0 s) st m) bound.2) [
            | inl a ↦ body_of (this_branch q.1 bound.1) (k.0 (within_branch q.0.0 bound.0 s) st m a)
            | inr o ↦ branch_behind names w s u n t p x rest st m q.0 bound.0 o.0 q.1 bound.1 o.1 (branches_explained names w s u n rest k.1 o.0.sites (wants o.0.of) (map_none_is (with_branch q.0.1 o.0) (branches_walk w rest s u o.0.sites (wants o.0.of)) o.2))
          ]
        ]
      ]
    ]

abbrev cased_of : World → Out → Branches → Option Out
cased_of w x b = if_so (covers w.declared x.of b.patterns) (gives b.of (make.cases x.exp b.exps.0 b.exps.1) b.sites)

-- a case none of whose branches gives a type
unbranched : (names : List (List ℕ)) (w : World) (s : Scope) (st : Sites) (m : Mode) (p : Span) (x : ExpForm) (n : Shape) (bs : Row_of-Branch (count n)) (o : Out) → typed w x s st finds ≡ Some o → BranchFault names w s o.of _ bs o.sites m → IsFaulty names w s st (e.Case' tt (its p x alone) n bs) m
unbranched names w s st m p x n bs o eo (body_of r f) = part_faulty (Parts.branch eo r) f
unbranched names w s st m p x n bs o eo (pattern_of_it {f = f} b) = here_faulty f (Causes.branch_pattern eo b)
unbranched names w s st _ p x [] end_of-Branch o eo (no_branches r) = here_faulty _ Causes.no_branch
unbranched names w s st _ p x (k ∷ n) (more_of-Branch t q y rest) o eo (no_branches r) = absurd r

pub case_explained : (names : List (List ℕ)) (w : World) (p : Span) (x : ExpForm) (n : Shape) (bs : Row_of-Branch (count n)) → Explained names w x → BranchesExplained names w bs → Explained names w (e.Case' tt (its p x alone) n bs)
case_explained names w p x n bs kx kb = explained_by names w (e.Case' tt (its p x alone) n bs) (λ s st m h.
    elim (then_none_is (λ o. option_and_then (cased_of w o) (branches_walk w bs s o.of o.sites m)) (typed w x s st finds) h) [
      | inl a ↦ part_faulty Parts.scrutinee (kx s st finds a)
      | inr o ↦ elim (then_none_is (cased_of w o.0) (branches_walk w bs s o.0.of o.0.sites m) o.2) [
        | inl a ↦ unbranched names w s st m p x n bs o.0 o.1 (branches_explained names w s o.0.of _ bs kb o.0.sites m a)
        | inr b ↦ elim (if_none_is (covers w.declared o.0.of b.0.patterns) (gives b.0.of (make.cases o.0.exp b.0.exps.0 b.0.exps.1) b.0.sites) b.2) [
          | inl c ↦ let q : (f : Fault) × BreaksCover w o.0.of b.0.patterns f = cover_broken w o.0.of b.0.patterns c in here_faulty q.0 (Causes.bad_cover o.1 b.1 q.1)
          | inr z ↦ absurd (some_none z)
        ]
      ]
    ])

-- ---- lambdas

params_broken : (env : Env) (most : ℕ) (names : Names) (ls : List LambdaParam) (ps : Params) → params_out most names ls ≡ Some ps → are_params env ps.1 ≡ false → (f : Fault) × BreaksParams env ls ps.1 f
params_broken env most names [] ps e h = absurd (true≢false (ap (λ (z : Params). are_params env z.1) (some_of e) ∙ h))
params_broken env most names (lambda_param.Typed p ∷ ls) ps e h =
    let q : (i : Local × Param) × (param_out most names p ≡ Some i) × (option_map (and_params i) (params_out most names ls) ≡ Some ps) = opened _ _ ps e in
    let r : (z : Params) × (params_out most names ls ≡ Some z) × (and_params q.0 z ≡ ps) = mapped _ _ ps q.2 in
    subst (λ (z : Params). are_params env z.1 ≡ false → (f : Fault) × BreaksParams env (lambda_param.Typed p ∷ ls) z.1 f) r.2
    (λ k. elim (both_false (is_param env q.0.1) (are_params env r.0.1) k) [
      | inl a ↦ let b : (f : Fault) × BreaksWritten env p q.0.1.of f = written_broken env most names p q.0 q.1 a in (b.0, this_param (breaks_typed b.1))
      | inr a ↦ let b : (f : Fault) × BreaksParams env ls r.0.1 f = params_broken env most names ls r.0 r.1 a in (b.0, later_param b.1)
    ]) h
params_broken env most names (lambda_param.Con c ∷ ls) ps e h = cc
params_broken env most names (lambda_param.Bare b ∷ ls) ps e h = cc

abbrev closed_over : Params → Out → Option Out
closed_over ps i = gives (arrows_of (types_of ps.1) i.of) (make.lambda ps.1 i.exp) i.sites

abbrev bodied : World → Scope → Sites → Mode → ExpForm → Params → Option Out
bodied w s st m b ps = option_and_then (λ i. if_so (not (holds_arrow i.of)) (closed_over ps i)) (typed w b (within_params ps.0 ps.1 s) st (of_result ps.1 m))

pub lambda_explained : (names : List (List ℕ)) (w : World) (params : List LambdaParam) (p : Span) (b : ExpForm) → Explained names w b → Explained names w (e.Lambda' params tt (its p b alone))
lambda_explained names w params p b kb = explained_by names w (e.Lambda' params tt (its p b alone)) (λ s st m h.
    elim (then_none_is (lambda_with s st m (typed w b)) (params_out w.most s.names params) h) [
      | inl a ↦ let b : (f : Fault) × BreaksForms w.most s.names params f = forms_broken w.most s.names params a in here_faulty b.0 (Causes.bad_form b.1)
      | inr ps ↦ elim (if_none_is (are_distinct ps.0.0 && are_params s.env ps.0.1) (bodied w s st m b ps.0) ps.2) [
        | inl a ↦ elim (both_false (are_distinct ps.0.0) (are_params s.env ps.0.1) a) [
          | inl c ↦ let q : (x : List ℕ) × IsTwiceIn x (map local_name ps.0.0) = local_twice ps.0.0 c in here_faulty _ (Causes.param_twice ps.1 q.1 c)
          | inr c ↦ let q : (f : Fault) × BreaksParams s.env params ps.0.1 f = params_broken s.env w.most s.names params ps.0 ps.1 c in here_faulty q.0 (Causes.bad_param ps.1 q.1)
        ]
        | inr c ↦ elim (then_none_is (λ i. if_so (not (holds_arrow i.of)) (closed_over ps.0 i)) (typed w b (within_params ps.0.0 ps.0.1 s) st (of_result ps.0.1 m)) c) [
          | inl a ↦ part_faulty (Parts.in_lambda ps.1) (kb (within_params ps.0.0 ps.0.1 s) st (of_result ps.0.1 m) a)
          | inr i ↦ elim (if_none_is (not (holds_arrow i.0.of)) (closed_over ps.0 i.0) i.2) [ inl a ↦ here_faulty _ (Causes.curried ps.1 i.1 (not_false (holds_arrow i.0.of) a)) | inr z ↦ absurd (some_none z) ]
        ]
      ]
    ])

-- ---- `setCookie`

abbrev pub FirstFieldExplained : List (List ℕ) → World → {n : _} → Row_of-Field n → Type 0
FirstFieldExplained names w end_of-Field = Unit {0}
FirstFieldExplained names w (more_of-Field f p x rest) = Explained names w x

-- the same of what is written as the record
abbrev pub FirstExplained : List (List ℕ) → World → ExpForm → Type 0
FirstExplained names w (e.Record' n fields) = FirstFieldExplained names w fields
FirstExplained names w _ = Unit {0}

abbrev cookie_set : ℕ → Out → Option Out
cookie_set c z = gives (transaction_of unit) (make.set_cookie c z.exp) z.sites

field_faulty : (names : List (List ℕ)) (w : World) (s : Scope) (st : Sites) (m : Mode) (x : DeclName) (p : Span) (c : ℕ × ColumnKind) (n : Shape) (fields : Row_of-Field (count n)) → cookie_at w x ≡ Some c → FirstFieldExplained names w fields → cookie_field_walk w fields s st (wants (kind_type c.1)) ≡ None →
    IsFaulty names w s st (e.SetCookie' x tt (its p (e.Record' n fields) alone)) m
field_faulty names w s st m x p c [] end_of-Field ec k h = here_faulty _ (Causes.other_record_set refl)
field_faulty names w s st m x p c (tt ∷ n) (more_of-Field f q y rest) ec k h = elim (if_none_is (is_literally f (codes "Value") && are_literal_rest rest) (typed w y s st (wants (kind_type c.1))) h) [
  | inl a ↦ here_faulty _ (Causes.other_record_set a)
  | inr b ↦ part_faulty (Parts.cookie_value ec first_field) (k s st (wants (kind_type c.1)) b)
]

record_faulty : (names : List (List ℕ)) (w : World) (s : Scope) (st : Sites) (m : Mode) (x : DeclName) (p : Span) (c : ℕ × ColumnKind) (y : ExpForm) → cookie_at w x ≡ Some c → FirstExplained names w y → cookie_walk w (its p y alone) s st (wants (kind_type c.1)) ≡ None → IsFaulty names w s st (e.SetCookie' x tt (its p y alone)) m
record_faulty names w s st m x p c y ec k h = by_record (is_record y) refl where
  by_record : (b : Bool) → is_record y ≡ b → IsFaulty names w s st (e.SetCookie' x tt (its p y alone)) m
  by_record true i =
      let r : (n : Shape) × (fields : Row_of-Field (count n)) × (y ≡ e.Record' n fields) = record_is y i in
      subst (λ z. IsFaulty names w s st (e.SetCookie' x tt (its p z alone)) m) (sym r.2) (field_faulty names w s st m x p c r.0 r.1 ec (subst (FirstExplained names w) r.2 k) (subst (λ z. cookie_walk w (its p z alone) s st (wants (kind_type c.1)) ≡ None) r.2 h))
  by_record false i = here_faulty _ (Causes.no_record_set i)

pub set_cookie_explained : (names : List (List ℕ)) (w : World) → IsWorld w → (x : DeclName) (p : Span) (y : ExpForm) → FirstExplained names w y → Explained names w (e.SetCookie' x tt (its p y alone))
set_cookie_explained names w i x p y k = explained_by names w (e.SetCookie' x tt (its p y alone)) (λ s st m h.
    elim (then_none_is (λ c. option_and_then (cookie_set c.0) (cookie_walk w (its p y alone) s st (wants (kind_type c.1)))) (cookie_at w x) h) [
      | inl n ↦ here_faulty _ (Causes.no_cookie_set (cookie_unknown w i x n))
      | inr c ↦ elim (then_none_is (cookie_set c.0.0) (cookie_walk w (its p y alone) s st (wants (kind_type c.0.1))) c.2) [ inl a ↦ record_faulty names w s st m x p c.0 y c.1 k a | inr z ↦ absurd (some_none z.2) ]
    ])

-- ---- statements

abbrev pub RowExplained : List (List ℕ) → World → {n : _} → Row_of-Exp n → Type 0
RowExplained names w alone = Unit {0}
RowExplained names w (its p x rest) = Explained names w x × RowExplained names w rest

record BadAntiquote (names : List (List ℕ)) (w : World) (s : Scope) (n : Count) (xs : Row_of-Exp n) (st : Sites) : Type 0 where
  behind : Sites
  part : ExpForm
  stands : InAntiquotes w s n xs st behind part
  faulty : IsFaulty names w s behind part finds

antiquotes_explained : (names : List (List ℕ)) (w : World) (s : Scope) (n : Count) (xs : Row_of-Exp n) → RowExplained names w xs → (st : Sites) → antiquotes_walk w xs s st ≡ None → BadAntiquote names w s n xs st
antiquotes_explained names w s _ alone k st h = absurd (some_none h)
antiquotes_explained names w s _ (its {n = n} p x rest) k st h = elim (then_none_is (λ o. option_map (with_antiquote o) (antiquotes_walk w rest s o.sites)) (typed w x s st finds) h) [
  | inl a ↦ record { behind = st; part = x; stands = this_antiquote; faulty = k.0 s st finds a }
  | inr o ↦
      let b : BadAntiquote names w s n rest o.0.sites = antiquotes_explained names w s n rest k.1 o.0.sites (map_none_is (with_antiquote o.0) (antiquotes_walk w rest s o.0.sites) o.2) in
      record { behind = b.behind; part = b.part; stands = later_antiquote o.1 b.stands; faulty = b.faulty }
]

no_kind_of : (ts : List NormalType) → all_of column_type_kind ts ≡ None → (t : NormalType) × IsNoKind ts t
no_kind_of [] h = absurd (some_none h)
no_kind_of (t ∷ ts) h = elim (then_none_is (λ k. option_map (λ rest. k ∷ rest) (all_of column_type_kind ts)) (column_type_kind t) h) [
  | inl a ↦ (t, this_kind a)
  | inr k ↦ let q : (u : NormalType) × IsNoKind ts u = no_kind_of ts (map_none_is (λ rest. k.0 ∷ rest) (all_of column_type_kind ts) k.2) in
      (q.0, later_kind q.1)
]

-- a query that has no core at its antiquotes
data QueryFault (w : World) (q : SqlQuery) (a : Antiquotes) : Type 0 where
  of_kind_none : {t : NormalType} → IsNoKind a.types t → QueryFault w q a
  of_query : {kinds : List ColumnKind} {r : Refusal} → all_of column_type_kind a.types ≡ Some kinds →
      QueryHasFault w.globals.home w.globals.tables w.fields kinds q r → QueryFault w q a

query_fault : (w : World) (q : SqlQuery) (a : Antiquotes) → query_at w q a ≡ None → QueryFault w q a
query_fault w q a h = elim (then_none_is (λ kinds. query_of w.globals.home w.globals.tables w.fields kinds q) (all_of column_type_kind a.types) h) [
  | inl n ↦ let t : (t : NormalType) × IsNoKind a.types t = no_kind_of a.types n in of_kind_none t.1
  | inr k ↦ let r : (r : Refusal) × QueryHasFault w.globals.home w.globals.tables w.fields k.0 q r = query_faulty w.globals.home w.globals.tables w.fields k.0 q k.2 in of_query k.1 r.1
]

abbrev asked_of : World → QueryWord → Sites → Antiquotes → Query → Option Out
asked_of w how st a d = gives (transaction_of (answer_type (answer_of how) (query_row w.fields d))) (exp.Ask' (answer_of how) (length st.queries) a.exps.0 a.exps.1) (with_query (length st.queries) d a.sites)

query_by : (names : List (List ℕ)) (w : World) (s : Scope) (st : Sites) (m : Mode) (how : QueryWord) (q : SqlQuery) (n : Shape) (args : Row_of-Exp (count n)) (a : Antiquotes) → antiquotes_walk w args s (with_query_slot st) ≡ Some a → QueryFault w q a → IsFaulty names w s st (e.Query' how q n args) m
query_by names w s st m how q n args a ea (of_kind_none r) = here_faulty _ (Causes.antiquote_kind ea r)
query_by names w s st m how q n args a ea (of_query ek r) = here_faulty _ (Causes.bad_query ea ek r)

pub query_explained : (names : List (List ℕ)) (w : World) (how : QueryWord) (q : SqlQuery) (n : Shape) (args : Row_of-Exp (count n)) → RowExplained names w args → Explained names w (e.Query' how q n args)
query_explained names w how q n args k = explained_by names w (e.Query' how q n args) (λ s st m h.
    elim (then_none_is (λ a. option_and_then (asked_of w how st a) (query_at w q a)) (antiquotes_walk w args s (with_query_slot st)) h) [
      | inl z ↦ let b : BadAntiquote names w s _ args (with_query_slot st) = antiquotes_explained names w s _ args k (with_query_slot st) z in part_faulty (Parts.antiquote b.stands) b.faulty
      | inr a ↦ elim (then_none_is (asked_of w how st a.0) (query_at w q a.0) a.2) [ inl z ↦ query_by names w s st m how q n args a.0 a.1 (query_fault w q a.0 z) | inr z ↦ absurd (some_none z.2) ]
    ])

abbrev written_of : Sites → Antiquotes → Change → Option Out
written_of st a d = gives (transaction_of unit) (exp.Write' (length st.changes) a.exps.0 a.exps.1) (with_change (length st.changes) d a.sites)

pub change_explained : (names : List (List ℕ)) (w : World) (u : SqlChange) (n : Shape) (args : Row_of-Exp (count n)) → RowExplained names w args → Explained names w (e.Dml' u n args)
change_explained names w u n args k = explained_by names w (e.Dml' u n args) (λ s st m h.
    elim (then_none_is (λ a. option_and_then (written_of st a) (change_at w u a)) (antiquotes_walk w args s (with_change_slot st)) h) [
      | inl z ↦ let b : BadAntiquote names w s _ args (with_change_slot st) = antiquotes_explained names w s _ args k (with_change_slot st) z in part_faulty (Parts.change_antiquote b.stands) b.faulty
      | inr a ↦ elim (then_none_is (written_of st a.0) (change_at w u a.0) a.2) [
        | inl z ↦ elim (then_none_is (λ kinds. change_of w.globals.home w.globals.tables kinds u) (all_of column_type_kind a.0.types) z) [
          | inl y ↦ let t : (t : NormalType) × IsNoKind a.0.types t = no_kind_of a.0.types y in here_faulty _ (Causes.change_antiquote_kind a.1 t.1)
          | inr c ↦ let r : (r : Refusal) × ChangeHasFault w.globals.home w.globals.tables c.0 u r = change_faulty w.globals.home w.globals.tables c.0 u c.2 in here_faulty _ (Causes.bad_change a.1 c.1 r.1)
        ]
        | inr z ↦ absurd (some_none z.2)
      ]
    ])

-- the body of a function is explained
abbrev pub BodyExplained : List (List ℕ) → World → ExpForm → Type 0
BodyExplained names w (e.Lambda' ps _ (its a b alone)) = Explained names w b
BodyExplained names w _ = Unit {0}

abbrev of_row : List RowPart → Binder → NormalType → Option Binder
of_row r x t = if_so (same_type t (record_of r)) (Some x)

small_is : (b : Bool) (u t : NormalType) → if_so b (Some u) ≡ Some t → u ≡ t
small_is true u t i = some_of i
small_is false u t i = cc

row_type_broken : (names : List (List ℕ)) (w : World) (s : Scope) (r : List RowPart) (x : Binder) (c : Con) (t : NormalType) → small_type w.most (nf s.names.cons c) ≡ Some t → of_row r x t ≡ None → (f : Fault) × BreaksRowFunction names w s r (lambda_param.Typed (written_param.Value x c) ∷ []) f
row_type_broken names w s r x c t et g = elim (if_none_is (same_type t (record_of r)) (Some x) g) [
  | inl b ↦ (_, Faults.other_row_type (subst (λ z. same_type z (record_of r) ≡ false) (sym (small_is (nat_le (nodes (nf s.names.cons c)) w.most) (as_type (nf s.names.cons c)) t et)) b))
  | inr z ↦ absurd (some_none z)
]

row_param_broken : (names : List (List ℕ)) (w : World) (s : Scope) (r : List RowPart) (ps : List LambdaParam) → row_param w s r ps ≡ None → (f : Fault) × BreaksRowFunction names w s r ps f
row_param_broken names w s r (lambda_param.Bare x ∷ []) h = absurd (some_none h)
row_param_broken names w s r (lambda_param.Typed (written_param.Value x c) ∷ []) h = elim (then_none_is (of_row r x) (small_type w.most (nf s.names.cons c)) h) [
  | inl a ↦ elim (if_none_is (nat_le (nodes (nf s.names.cons c)) w.most) (Some (as_type (nf s.names.cons c))) a) [ inl b ↦ (_, Faults.large_row_type b) | inr z ↦ absurd (some_none z) ]
  | inr t ↦ row_type_broken names w s r x c t.0 t.1 t.2
]
row_param_broken names w s r _ h = (_, Faults.other_row_function refl)

abbrev rows_at : World → Scope → Sites → Mode → Antiquotes → Query → ExpForm → Binder → Option Out
rows_at w s st m a d b x = typed w b (within_binder x (record_of (query_row w.fields d)) s) (with_query (length st.queries) d a.sites) (of_transaction m)

abbrev shown_rows : Sites → Antiquotes → Out → Sort → Option Out
shown_rows st a o sort = gives (transaction_of o.of) (make.each (length st.queries) a.exps.0 a.exps.1 o.exp) o.sites

rows_by : (names : List (List ℕ)) (w : World) (s : Scope) (st : Sites) (m : Mode) (q : SqlQuery) (n : Shape) (args : Row_of-Exp (count n)) (p : Span) (y : ExpForm) (a : Antiquotes) → antiquotes_walk w args s (with_query_slot st) ≡ Some a → QueryFault w q a → IsFaulty names w s st (e.QueryX' q n args tt (its p y alone)) m
rows_by names w s st m q n args p y a ea (of_kind_none r) = here_faulty _ (Causes.row_antiquote_kind ea r)
rows_by names w s st m q n args p y a ea (of_query ek r) = here_faulty _ (Causes.bad_rows ea ek r)

row_faulty : (names : List (List ℕ)) (w : World) (s : Scope) (st : Sites) (m : Mode) (q : SqlQuery) (n : Shape) (args : Row_of-Exp (count n)) (p r : Span) (ps : List LambdaParam) (b : ExpForm) (a : Antiquotes) (d : Query) → antiquotes_walk w args s (with_query_slot st) ≡ Some a → query_at w q a ≡ Some d → Explained names w b →
    option_and_then (rows_out st a) (row_walk w (its p (e.Lambda' ps tt (its r b alone)) alone) s (query_row w.fields d) (with_query (length st.queries) d a.sites) (of_transaction m)) ≡ None → IsFaulty names w s st (e.QueryX' q n args tt (its p (e.Lambda' ps tt (its r b alone)) alone)) m
row_faulty names w s st m q n args p r ps b a d ea ed kb h = elim (then_none_is (rows_out st a) (row_walk w (its p (e.Lambda' ps tt (its r b alone)) alone) s (query_row w.fields d) (with_query (length st.queries) d a.sites) (of_transaction m)) h) [
  | inl z ↦ elim (then_none_is (rows_at w s st m a d b) (row_param w s (query_row w.fields d) ps) z) [
    | inl y ↦ let f : (f : Fault) × BreaksRowFunction names w s (query_row w.fields d) ps f = row_param_broken names w s (query_row w.fields d) ps y in here_faulty f.0 (Causes.bad_row_function ea ed f.1)
    | inr x ↦ part_faulty (Parts.row_body_part ea ed x.1) (kb (within_binder x.0 (record_of (query_row w.fields d)) s) (with_query (length st.queries) d a.sites) (of_transaction m) x.2)
  ]
  | inr o ↦ by_param (row_param w s (query_row w.fields d) ps) refl o.0 o.1 o.2
] where
  by_param : (x : Option Binder) → row_param w s (query_row w.fields d) ps ≡ x → (o : Out) → option_and_then (rows_at w s st m a d b) x ≡ Some o → rows_out st a o ≡ None → IsFaulty names w s st (e.QueryX' q n args tt (its p (e.Lambda' ps tt (its r b alone)) alone)) m
  by_param None ex o eo g = absurd (some_none (sym eo))
  by_param (Some x) ex o eo g = elim (then_none_is (shown_rows st a o) (sort_of o.of) g) [ inl z ↦ here_faulty _ (Causes.no_xml_rows ea ed ex eo z) | inr z ↦ absurd (some_none z.2) ]

abbrev each_of : World → Scope → Sites → Mode → Span → ExpForm → Antiquotes → Query → Option Out
each_of w s st m p y a d = option_and_then (rows_out st a) (row_walk w (its p y alone) s (query_row w.fields d) (with_query (length st.queries) d a.sites) (of_transaction m))

function_faulty : (names : List (List ℕ)) (w : World) (s : Scope) (st : Sites) (m : Mode) (q : SqlQuery) (n : Shape) (args : Row_of-Exp (count n)) (p : Span) (y : ExpForm) (a : Antiquotes) (d : Query) → antiquotes_walk w args s (with_query_slot st) ≡ Some a → query_at w q a ≡ Some d → BodyExplained names w y →
    each_of w s st m p y a d ≡ None → IsFaulty names w s st (e.QueryX' q n args tt (its p y alone)) m
function_faulty names w s st m q n args p y a d ea ed k h = by_lambda (is_lambda y) refl where
  by_lambda : (b : Bool) → is_lambda y ≡ b → IsFaulty names w s st (e.QueryX' q n args tt (its p y alone)) m
  by_lambda true i =
      let l : (ps : List LambdaParam) × (r : Span) × (b : ExpForm) × (y ≡ e.Lambda' ps tt (its r b alone)) = lambda_is y i in
      subst (λ z. IsFaulty names w s st (e.QueryX' q n args tt (its p z alone)) m) (sym l.3)
      (row_faulty names w s st m q n args p l.1 l.0 l.2 a d ea ed (subst (BodyExplained names w) l.3 k) (subst (λ z. each_of w s st m p z a d ≡ None) l.3 h))
  by_lambda false i = here_faulty _ (Causes.no_row_function i)

pub rows_explained : (names : List (List ℕ)) (w : World) (q : SqlQuery) (n : Shape) (args : Row_of-Exp (count n)) (p : Span) (y : ExpForm) → RowExplained names w args → BodyExplained names w y → Explained names w (e.QueryX' q n args tt (its p y alone))
rows_explained names w q n args p y k kb = explained_by names w (e.QueryX' q n args tt (its p y alone)) (λ s st m h.
    elim (then_none_is (λ a. option_and_then (each_of w s st m p y a) (query_at w q a)) (antiquotes_walk w args s (with_query_slot st)) h) [
      | inl z ↦ let b : BadAntiquote names w s _ args (with_query_slot st) = antiquotes_explained names w s _ args k (with_query_slot st) z in part_faulty (Parts.row_antiquote b.stands) b.faulty
      | inr a ↦ elim (then_none_is (each_of w s st m p y a.0) (query_at w q a.0) a.2) [
        | inl z ↦ rows_by names w s st m q n args p y a.0 a.1 (query_fault w q a.0 z)
        | inr d ↦ function_faulty names w s st m q n args p y a.0 d.0 a.1 d.1 kb d.2
      ]
    ])

-- ---- folds

types_faulty : (names : List (List ℕ)) (w : World) (s : Scope) (st : Sites) (m : Mode) (f r : Con) (p q : Span) (x y : ExpForm) → fold_types w s f r ≡ None → IsFaulty names w s st (e.Fold' f tt (its p x alone) tt (its q y alone) r) m
types_faulty names w s st m f r p q x y h =
    let a : Bool = nat_le (nodes (nf s.names.cons f)) w.most in
    let b : Bool = nat_le (nodes (nf s.names.cons r)) w.most in
    let c : Bool = is_row s.env (as_row (nf s.names.cons r)) in
    let d : Bool = row_is_plain (as_row (nf s.names.cons r)) in
    elim (if_none_is (a && (b && (c && d))) (Some (as_function (nf s.names.cons f), as_row (nf s.names.cons r))) h) [
      | inl i ↦ elim (both_false a (b && (c && d)) i) [
        | inl j ↦ here_faulty _ (Causes.large_function j)
        | inr j ↦ elim (both_false b (c && d) j) [
          | inl k ↦ here_faulty _ (Causes.bad_row (Faults.no_row (large_row k)))
          | inr k ↦ elim (both_false c d k) [
            | inl l ↦ let v : (f : Fault) × BreaksRowPlace s.env r (as_row (nf s.names.cons r)) f = row_place_broken s.env r (as_row (nf s.names.cons r)) l in here_faulty v.0 (Causes.bad_row (Faults.no_row (row_out_of_place v.1)))
            | inr l ↦ here_faulty _ (Causes.bad_row (Faults.row_not_plain l))
          ]
        ]
      ]
      | inr z ↦ absurd (some_none z)
    ]

acc_broken : (w : World) (s : Scope) (acc : Scope × Param) (z : Step) → step_by w s z ≡ Some acc → is_param acc.0.env acc.1 ≡ false → (f : Fault) × BreaksWritten acc.0.env z.acc acc.1.of f
acc_broken w s acc z h k =
    let q : (out : Local × Param) × (param_out w.most (step_names z s.names) z.acc ≡ Some out) × (step_with s (step_names z s.names) out ≡ acc) = mapped _ _ acc h in
    subst (λ (a : Scope × Param). is_param a.0.env a.1 ≡ false → (f : Fault) × BreaksWritten a.0.env z.acc a.1.of f) q.2 (λ i. written_broken (within_step q.0.1 s.env) w.most (step_names z s.names) z.acc q.0 q.1 i) k

step_broken : (w : World) (s : Scope) (ps : List LambdaParam) → step_of w s ps ≡ None → (c : Fault) × BreaksStep w s ps c
step_broken w s ps h = elim (then_none_is (step_by w s) (step_form ps) h) [
  | inl a ↦ (_, Faults.other_step a)
  | inr p ↦ (_, Faults.large_acc p.1 (large_broken w.most (step_names p.0 s.names) p.0.acc (map_none_is (step_with s (step_names p.0 s.names)) (param_out w.most (step_names p.0 s.names) p.0.acc) p.2)))
]

abbrev stepped : Scope × Param → Out → Option (Param × Out)
stepped acc i = Some (acc.1, i)

abbrev step_body : World → Scope → Sites → NormalType → ExpForm → Scope × Param → Option (Param × Out)
step_body w s st of b acc = option_and_then (stepped acc) (typed w b acc.0 st (wants (at_row of (step_row s.env))))

first_false : (a b : Bool) → (a && b) ≡ false → (a ≡ false) ⊎ ((a ≡ true) × (b ≡ false))
first_false true b h = inr (refl, h)
first_false false b h = inl refl

step_faulty : (names : List (List ℕ)) (w : World) (s : Scope) (st : Sites) (m : Mode) (f r : Con) (p q a : Span) (ps : List LambdaParam) (b y : ExpForm) (t : NormalType × List RowPart) → fold_types w s f r ≡ Some t → Explained names w b → step_out w s st t.0 ps (typed w b) ≡ None →
    IsFaulty names w s st (e.Fold' f tt (its p (e.Lambda' ps tt (its a b alone)) alone) tt (its q y alone) r) m
step_faulty names w s st m f r p q a ps b y t et kb h = elim (then_none_is (λ acc. if_so (step_fits s t.0 acc) (step_body w s st t.0 b acc)) (step_of w s ps) h) [
  | inl z ↦ let c : (c : Fault) × BreaksStep w s ps c = step_broken w s ps z in here_faulty c.0 (Causes.bad_step c.1)
  | inr acc ↦ elim (if_none_is (step_fits s t.0 acc.0) (step_body w s st t.0 b acc.0) acc.2) [
    | inl z ↦ elim (first_false (is_param acc.0.0.env acc.0.1) (same_type acc.0.1.of (at_row t.0 (step_rest s.env))) z) [
      | inl k ↦
          let f : (z : Step) × (step_form ps ≡ Some z) × (step_by w s z ≡ Some acc.0) = opened (step_by w s) (step_form ps) acc.0 acc.1 in
          let c : (c : Fault) × BreaksWritten acc.0.0.env f.0.acc acc.0.1.of c = acc_broken w s acc.0 f.0 f.2 k in here_faulty c.0 (Causes.bad_acc et f.1 f.2 c.1)
      | inr k ↦ here_faulty _ (Causes.other_acc et acc.1 k.0 k.1)
    ]
    | inr z ↦ elim (then_none_is (stepped acc.0) (typed w b acc.0.0 st (wants (at_row t.0 (step_row s.env)))) z) [
      | inl k ↦ part_faulty (Parts.step et acc.1) (kb acc.0.0 st (wants (at_row t.0 (step_row s.env))) k)
      | inr k ↦ absurd (some_none k.2)
    ]
  ]
]

step_by_form : (names : List (List ℕ)) (w : World) (s : Scope) (st : Sites) (m : Mode) (f r : Con) (p q : Span) (x y : ExpForm) (t : NormalType × List RowPart) → fold_types w s f r ≡ Some t → BodyExplained names w x → step_walk w (its p x alone) s st t.0 ≡ None →
    IsFaulty names w s st (e.Fold' f tt (its p x alone) tt (its q y alone) r) m
step_by_form names w s st m f r p q x y t et k h = by_lambda (is_lambda x) refl where
  by_lambda : (b : Bool) → is_lambda x ≡ b → IsFaulty names w s st (e.Fold' f tt (its p x alone) tt (its q y alone) r) m
  by_lambda true i =
      let l : (ps : List LambdaParam) × (a : Span) × (b : ExpForm) × (x ≡ e.Lambda' ps tt (its a b alone)) = lambda_is x i in
      subst (λ z. IsFaulty names w s st (e.Fold' f tt (its p z alone) tt (its q y alone) r) m) (sym l.3)
      (step_faulty names w s st m f r p q l.1 l.0 l.2 y t et (subst (BodyExplained names w) l.3 k) (subst (λ z. step_walk w (its p z alone) s st t.0 ≡ None) l.3 h))
  by_lambda false i = here_faulty _ (Causes.no_step_function i)

abbrev folded_at : NormalType × List RowPart → Param × Out → Out → Option Out
folded_at t z i = gives (at_row t.0 t.1) (make.folded t.0 z.0 z.1.exp i.exp t.1) i.sites

abbrev started : World → Scope → ExpForm → NormalType × List RowPart → Param × Out → Option Out
started w s y t z = option_and_then (folded_at t z) (typed w y s z.1.sites (wants (at_row t.0 [])))

abbrev folding : World → Scope → Sites → Span → ExpForm → ExpForm → NormalType × List RowPart → Option Out
folding w s st p x y t = option_and_then (started w s y t) (step_walk w (its p x alone) s st t.0)

pub fold_explained : (names : List (List ℕ)) (w : World) (f : Con) (p : Span) (x : ExpForm) (q : Span) (y : ExpForm) (r : Con) → BodyExplained names w x → Explained names w y → Explained names w (e.Fold' f tt (its p x alone) tt (its q y alone) r)
fold_explained names w f p x q y r kx ky = explained_by names w (e.Fold' f tt (its p x alone) tt (its q y alone) r) (λ s st m h.
    elim (then_none_is (folding w s st p x y) (fold_types w s f r) h) [
      | inl a ↦ types_faulty names w s st m f r p q x y a
      | inr t ↦ elim (then_none_is (started w s y t.0) (step_walk w (its p x alone) s st t.0.0) t.2) [
        | inl a ↦ step_by_form names w s st m f r p q x y t.0 t.1 kx a
        | inr z ↦ elim (then_none_is (folded_at t.0 z.0) (typed w y s z.0.1.sites (wants (at_row t.0.0 []))) z.2) [
          | inl a ↦ part_faulty (Parts.start t.1 z.1) (ky s z.0.1.sites (wants (at_row t.0.0 [])) a)
          | inr k ↦ absurd (some_none k.2)
        ]
      ]
    ])
