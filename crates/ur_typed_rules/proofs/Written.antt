-- A written type, row, parameter or list of constructor arguments fails its test exactly where there is a breach.
use Rattle.std.proofs.Common.{inl, inr, ◌≡◌, ◌∙◌, refl, ap, true, false, true≢false, Some, None, List, [], ◌∷◌, ℕ}
use Rattle.std.specs.Prelude.{◌&&◌, nat_le, option_map}
use Rattle.ur_syntax.specs.declared.con.Con.{Con}
use Rattle.ur_syntax.specs.declared.exp.Binder.{Binder}
use Rattle.ur_syntax.specs.declared.exp.LambdaParam.{LambdaParam}
use Rattle.ur_syntax.specs.declared.exp.LambdaParam.TheVariants as lambda_param
use Rattle.ur_syntax.specs.declared.exp.Param.{Param as WrittenParam}
use Rattle.ur_syntax.specs.declared.exp.Param.TheVariants as written_param
use Rattle.ur_rows.specs.declared.normal.Normal.{Normal}
use Rattle.ur_rows.specs.declared.normal.Normal.TheVariants as normal
use Rattle.ur_rows.specs.declared.normal.NormalType.{NormalType}
use Rattle.ur_rows.specs.declared.normal.Part.{Part as RowPart}
use Rattle.ur_rows.specs.Apart.{Assumptions}
use Rattle.ur_rows.specs.Kinded.{type_is_in, row_is_in}
use Rattle.ur_rows.specs.Nodes.{nodes}
use Rattle.ur_rows.specs.Normal.{nf}
use Rattle.ur_rows.specs.Put.{as_type, as_row}
use Rattle.ur_rows.specs.Types.{is_placed}
use Rattle.ur_tree.specs.declared.exp.Param.{Param}
use Rattle.ur_tree.specs.declared.typed.ConParam.{ConParam}
use Rattle.ur_tree.specs.Env.{Env, variables, kinds_of, rows_apart}
use Rattle.ur_typed_rules.specs.Names.{Local, Names, bound_name, local_of, param_of}
use Rattle.ur_typed_rules.specs.Scopes.{World, Scope}
use Rattle.ur_typed_rules.specs.Tests.{are_apart, rows_are_apart, row_rows_are_apart, con_rows_are_apart, is_type, is_row, have_kinds, obligations_met, are_arguments}
use Rattle.ur_typed_rules.specs.Faults.{Fault}
use Rattle.ur_typed_rules.specs.Meeting.{Meets, MeetsIn, MeetsRow}
use Rattle.ur_typed_rules.specs.Arguments.{BreaksKinds, IsUnmet, BreaksApart, type_repeats, type_meets, BreaksRowApart, row_repeats, row_meets, BreaksCon, of_type, of_row, BreaksPlace, type_of_other_kind, type_not_apart, BreaksRowPlace, row_of_other_kind, row_not_apart, BreaksFields, fields_met, BreaksGiven, of_other_kinds, given_unmet, given_repeats, BreaksType, large_type, type_out_of_place, BreaksRow, large_row, row_out_of_place, HasLarge, large_param, BreaksForms, bare_form, con_form, large_form, later_form, BreaksParameter, param_out_of_place, param_not_placed, BreaksWritten, breaks_written}
use Rattle.ur_typed_rules.specs.Rules.{written_type, written_row, small_type, param_out, and_params, params_out, may_be_param}
use Rattle.ur_typed_rules.proofs.Options.{so_false, and_left, and_right, both_false, some_none, some_of, map_none, first_none, never, then_none_is, if_none_is, map_none_is}
use Rattle.ur_typed_rules.proofs.Meeting.{meets_false, in_false, row_meets_false, kinds_false, unmet_false}
use Rattle.ur_typed_rules.proofs.Witnesses.{meets_of, meets_in_of, row_meets_of, kinds_faulty, unmet_of}

-- ---- rows that are not apart

pub apart_fails : (known : Assumptions) (c : Con) (t : NormalType) (f : Fault) → BreaksApart known c t f → rows_are_apart known t ≡ false
apart_fails known c t _ (type_repeats r h) = h
apart_fails known c t _ (type_meets {a = a} {b = b} m) = in_false known t a b m

pub apart_broken : (known : Assumptions) (c : Con) (t : NormalType) → rows_are_apart known t ≡ false → (f : Fault) × BreaksApart known c t f
apart_broken known c t h = let m : (a : List RowPart) × (b : List RowPart) × MeetsIn known t a b = meets_in_of known t h in (_, type_meets m.2)

pub row_apart_fails : (known : Assumptions) (c : Con) (r : List RowPart) (f : Fault) → BreaksRowApart known c r f → (are_apart known r && row_rows_are_apart known r) ≡ false
row_apart_fails known c r _ (row_repeats n h) = h
row_apart_fails known c r _ (row_meets {a = a} {b = b} m) = row_meets_false known r a b m

pub row_apart_broken : (known : Assumptions) (c : Con) (r : List RowPart) → (are_apart known r && row_rows_are_apart known r) ≡ false → (f : Fault) × BreaksRowApart known c r f
row_apart_broken known c r h = let m : (a : List RowPart) × (b : List RowPart) × MeetsRow known r a b = row_meets_of known r h in (_, row_meets m.2)

pub con_fails : (env : Env) (c : Con) (n : Normal) (f : Fault) → BreaksCon env.known c n f → con_rows_are_apart env n ≡ false
con_fails env c _ f (of_type {t = t} b) = apart_fails env.known c t f b
con_fails env c _ f (of_row {r = r} b) = row_apart_fails env.known c r f b

pub con_broken : (env : Env) (c : Con) (n : Normal) → con_rows_are_apart env n ≡ false → (f : Fault) × BreaksCon env.known c n f
con_broken env c (normal.Type t) h = let b : (f : Fault) × BreaksApart env.known c t f = apart_broken env.known c t h in (b.0, of_type b.1)
con_broken env c (normal.Row r) h = let b : (f : Fault) × BreaksRowApart env.known c r f = row_apart_broken env.known c r h in (b.0, of_row b.1)
con_broken env c _ h = absurd (true≢false h)

pub fields_fail : (known : Assumptions) (r : List RowPart) (f : Fault) → BreaksFields known r f → are_apart known r ≡ false
fields_fail known r _ (fields_met {a = a} {b = b} m) = meets_false known r a b m

pub fields_broken : (known : Assumptions) (r : List RowPart) → are_apart known r ≡ false → (f : Fault) × BreaksFields known r f
fields_broken known r h = let m : (a : List RowPart) × (b : List RowPart) × Meets known r a b = meets_of known r h in (_, fields_met m.2)

-- ---- types and rows that are written in a scope

pub place_fails : (env : Env) (c : Con) (t : NormalType) (f : Fault) → BreaksPlace env c t f → is_type env t ≡ false
place_fails env c t _ (type_of_other_kind h) = and_left _ _ h
place_fails env c t f (type_not_apart b) = and_right _ _ (apart_fails env.known c t f b)

pub place_broken : (env : Env) (c : Con) (t : NormalType) → is_type env t ≡ false → (f : Fault) × BreaksPlace env c t f
place_broken env c t h = elim (both_false (type_is_in (variables env) t) (rows_are_apart env.known t) h) [
  | inl a ↦ (_, type_of_other_kind a)
  | inr b ↦ let q : (f : Fault) × BreaksApart env.known c t f = apart_broken env.known c t b in (q.0, type_not_apart q.1)
]

pub row_place_fails : (env : Env) (c : Con) (r : List RowPart) (f : Fault) → BreaksRowPlace env c r f → is_row env r ≡ false
row_place_fails env c r _ (row_of_other_kind h) = and_left _ _ h
row_place_fails env c r f (row_not_apart b) = and_right _ _ (row_apart_fails env.known c r f b)

pub row_place_broken : (env : Env) (c : Con) (r : List RowPart) → is_row env r ≡ false → (f : Fault) × BreaksRowPlace env c r f
row_place_broken env c r h = elim (both_false (row_is_in (variables env) r) (are_apart env.known r && row_rows_are_apart env.known r) h) [
  | inl a ↦ (_, row_of_other_kind a)
  | inr b ↦ let q : (f : Fault) × BreaksRowApart env.known c r f = row_apart_broken env.known c r b in (q.0, row_not_apart q.1)
]

pub type_fails : (w : World) (s : Scope) (c : Con) (f : Fault) → BreaksType w s c f → written_type w s c ≡ None
type_fails w s c _ (large_type h) = so_false _ _ (and_left _ _ h)
type_fails w s c f (type_out_of_place b) = so_false _ _ (and_right _ _ (place_fails s.env c (as_type (nf s.names.cons c)) f b))

pub type_broken : (w : World) (s : Scope) (c : Con) → written_type w s c ≡ None → (f : Fault) × BreaksType w s c f
type_broken w s c h =
    let n : Normal = nf s.names.cons c in
    elim (if_none_is (nat_le (nodes n) w.most && is_type s.env (as_type n)) (Some (as_type n)) h) [
      | inl a ↦ elim (both_false (nat_le (nodes n) w.most) (is_type s.env (as_type n)) a) [
        | inl b ↦ (_, large_type b)
        | inr b ↦ let q : (f : Fault) × BreaksPlace s.env c (as_type n) f = place_broken s.env c (as_type n) b in (q.0, type_out_of_place q.1)
      ]
      | inr z ↦ absurd (some_none z)
    ]

pub row_fails : (w : World) (s : Scope) (c : Con) (f : Fault) → BreaksRow w s c f → written_row w s c ≡ None
row_fails w s c _ (large_row h) = so_false _ _ (and_left _ _ h)
row_fails w s c f (row_out_of_place b) = so_false _ _ (and_right _ _ (row_place_fails s.env c (as_row (nf s.names.cons c)) f b))

pub row_broken : (w : World) (s : Scope) (c : Con) → written_row w s c ≡ None → (f : Fault) × BreaksRow w s c f
row_broken w s c h =
    let n : Normal = nf s.names.cons c in
    elim (if_none_is (nat_le (nodes n) w.most && is_row s.env (as_row n)) (Some (as_row n)) h) [
      | inl a ↦ elim (both_false (nat_le (nodes n) w.most) (is_row s.env (as_row n)) a) [
        | inl b ↦ (_, large_row b)
        | inr b ↦ let q : (f : Fault) × BreaksRowPlace s.env c (as_row n) f = row_place_broken s.env c (as_row n) b in (q.0, row_out_of_place q.1)
      ]
      | inr z ↦ absurd (some_none z)
    ]

-- ---- constructor arguments

pub given_fails : (env : Env) (given : List Con) (args : List Normal) (cons : List ConParam) (f : Fault) → BreaksGiven env given args cons f → are_arguments env cons args ≡ false
given_fails env given args cons f (of_other_kinds b) = and_left _ _ (kinds_false env args (kinds_of cons) f b)
given_fails env given args cons _ (given_unmet {a = a} {b = b} m) = and_right _ _ (unmet_false env args (rows_apart cons) a b m)
given_fails env given args cons _ (given_repeats i r h) = h

pub given_broken : (env : Env) (given : List Con) (args : List Normal) (cons : List ConParam) → are_arguments env cons args ≡ false → (f : Fault) × BreaksGiven env given args cons f
given_broken env given args cons h = elim (both_false (have_kinds env args (kinds_of cons)) (obligations_met env args (rows_apart cons)) h) [
  | inl a ↦ let b : (f : Fault) × BreaksKinds env args (kinds_of cons) f = kinds_faulty env args (kinds_of cons) a in (b.0, of_other_kinds b.1)
  | inr a ↦ let m : (x : List RowPart) × (y : List RowPart) × IsUnmet env.known args (rows_apart cons) x y = unmet_of env.known args (rows_apart cons) a in (_, given_unmet m.2)
]

-- ---- parameters

abbrev valued : Binder → NormalType → Local × Param
valued x t = (local_of (bound_name x) t, param_of t)

pub large_fails : (most : ℕ) (names : Names) (p : WrittenParam) → HasLarge most names p → param_out most names p ≡ None
large_fails most names _ (large_param h) = map_none _ _ (so_false _ _ h)

pub large_broken : (most : ℕ) (names : Names) (p : WrittenParam) → param_out most names p ≡ None → HasLarge most names p
large_broken most names (written_param.Value x c) h =
    elim (if_none_is (nat_le (nodes (nf names.cons c)) most) (Some (as_type (nf names.cons c))) (map_none_is (valued x) (small_type most (nf names.cons c)) h)) [ inl a ↦ large_param a | inr z ↦ absurd (some_none z) ]
large_broken most names written_param.Unit h = absurd (some_none h)

pub forms_fail : (most : ℕ) (names : Names) (ps : List LambdaParam) (f : Fault) → BreaksForms most names ps f → params_out most names ps ≡ None
forms_fail most names _ _ bare_form = refl
forms_fail most names _ _ con_form = refl
forms_fail most names _ _ (large_form {p = p} h) = first_none _ _ (large_fails most names p h)
forms_fail most names (lambda_param.Typed p ∷ _) f (later_form {ps = ps} r) = never _ (param_out most names p) (λ q. map_none _ _ (forms_fail most names ps f r))
forms_fail most names (lambda_param.Con c ∷ _) f (later_form r) = refl
forms_fail most names (lambda_param.Bare b ∷ _) f (later_form r) = refl

pub forms_broken : (most : ℕ) (names : Names) (ps : List LambdaParam) → params_out most names ps ≡ None → (f : Fault) × BreaksForms most names ps f
forms_broken most names [] h = absurd (some_none h)
forms_broken most names (lambda_param.Con c ∷ ps) h = (_, con_form)
forms_broken most names (lambda_param.Bare b ∷ ps) h = (_, bare_form)
forms_broken most names (lambda_param.Typed p ∷ ps) h = elim (then_none_is (λ q. option_map (and_params q) (params_out most names ps)) (param_out most names p) h) [
  | inl a ↦ (_, large_form (large_broken most names p a))
  | inr q ↦ let r : (f : Fault) × BreaksForms most names ps f = forms_broken most names ps (map_none_is (and_params q.0) (params_out most names ps) q.2) in (r.0, later_form r.1)
]

pub parameter_fails : (env : Env) (c : Con) (t : NormalType) (f : Fault) → BreaksParameter env c t f → may_be_param env t ≡ false
parameter_fails env c t f (param_out_of_place b) = and_left _ _ (place_fails env c t f b)
parameter_fails env c t _ (param_not_placed h) = and_right _ _ h

pub parameter_broken : (env : Env) (c : Con) (t : NormalType) → may_be_param env t ≡ false → (f : Fault) × BreaksParameter env c t f
parameter_broken env c t h = elim (both_false (is_type env t) (is_placed t) h) [
  | inl a ↦ let b : (f : Fault) × BreaksPlace env c t f = place_broken env c t a in (b.0, param_out_of_place b.1)
  | inr a ↦ (_, param_not_placed a)
]

pub written_fails : (env : Env) (p : WrittenParam) (t : NormalType) (f : Fault) → BreaksWritten env p t f → may_be_param env t ≡ false
written_fails env _ _ f (breaks_written {c = c} {t = t} b) = parameter_fails env c t f b

-- the parameter `()` breaks nothing
pub written_broken : (env : Env) (most : ℕ) (names : Names) (p : WrittenParam) (out : Local × Param) → param_out most names p ≡ Some out → may_be_param env out.1.of ≡ false → (f : Fault) × BreaksWritten env p out.1.of f
written_broken env most names (written_param.Value x c) out e h = let b : (f : Fault) × BreaksParameter env c out.1.of f = parameter_broken env c out.1.of h in (b.0, breaks_written b.1)
written_broken env most names written_param.Unit out e h = absurd (true≢false (ap (λ (z : Local × Param). may_be_param env z.1.of) (some_of e) ∙ h))
