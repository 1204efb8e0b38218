-- What the functions give of written types, parameters and heads is what the rules say of them.
use Rattle.std.proofs.lemmas.Bool.Decides.{nat_tests}
use Rattle.std.proofs.Common.{arith, ◌≡◌, ◌∙◌, refl, sym, ap, subst, Bool, true, false, true≢false, Some, List, [], ◌∷◌, ℕ, zero, suc, length}
use Rattle.std.specs.Prelude.{◌&&◌, ◌≤◌, ◌<◌, not, nat_le, IsTrue, All, option_map, option_and_then}
use Rattle.std.specs.List.{list_all}
use Rattle.ur_syntax.specs.declared.con.Con.{Con}
use Rattle.ur_syntax.specs.declared.con.ConEnv.{ConEnv}
use Rattle.ur_syntax.specs.declared.con.ConParam.{ConParam as WrittenConParam}
use Rattle.ur_syntax.specs.declared.con.ConParam.TheVariants as written_con
use Rattle.ur_syntax.specs.declared.decl.FunDef.{FunDef}
use Rattle.ur_syntax.specs.declared.exp.Param.{Param as WrittenParam}
use Rattle.ur_syntax.specs.declared.exp.Param.TheVariants as written_param
use Rattle.ur_rows.specs.declared.normal.Normal.{Normal}
use Rattle.ur_rows.specs.declared.normal.Normal.TheVariants as normal
use Rattle.ur_rows.specs.declared.normal.NormalType.{NormalType}
use Rattle.ur_rows.specs.declared.normal.Part.{Part}
use Rattle.ur_rows.specs.Kinded.{row_is_in}
use Rattle.ur_rows.specs.Nodes.{nodes}
use Rattle.ur_rows.specs.Normal.{nf}
use Rattle.ur_rows.specs.Put.{as_type, as_row}
use Rattle.ur_rows.specs.Types.{holds_arrow, is_placed}
use Rattle.ur_tree.specs.declared.exp.Param.{Param}
use Rattle.ur_tree.specs.declared.typed.ConParam.{ConParam}
use Rattle.ur_tree.specs.declared.typed.ConParam.TheVariants as con_param
use Rattle.ur_tree.specs.Heads.{Head}
use Rattle.ur_tree.specs.Env.{Env, variables, IsType, con_is_apart, RowHasApartRows}
use Rattle.ur_tree.specs.App.{HeadFits, ConParamFits, nothing_in_scope, within_head}
use Rattle.ur_typed_rules.specs.Names.{Local, Names, with_con, IsWritten, WritesType, WritesRow, bound_name, local_of, param_of}
use Rattle.ur_typed_rules.specs.Laws.{AreStaticByType}
use Rattle.ur_typed_rules.specs.Scopes.{World, Scope}
use Rattle.ur_typed_rules.specs.Tests.{is_type, are_params, are_apart, row_rows_are_apart, part_rows_are_apart, con_rows_are_apart}
use Rattle.ur_typed_rules.proofs.Lists.{both_of}
use Rattle.ur_typed_rules.proofs.Rows.{type_decided, one_row, rows_of_test, part_of_test}
use Rattle.ur_typed_rules.proofs.Decided.{params_decided}
use Rattle.ur_typed_rules.specs.Rules.{if_so, Params, and_params, param_out, small_type, written_type}
use Rattle.ur_typed_rules.proofs.Options.{some_of, opened, opened_if, mapped}
use Rattle.ur_typed.specs.Resolves.{IsParam}
use Rattle.ur_typed.specs.Resolves as resolves
use Rattle.ur_typed.specs.Project.{env_at, AreConParams, AreParams}
use Rattle.ur_typed.specs.Project as project
use Rattle.ur_typed.specs.Declaring.{ConParams, and_con, small_row, con_params_out, all_params_out, Heading, heading, con_param_fits, head_fits, fitting, resulting, written_heading, heading_out, val_type_out, Sofar}
use Rattle.ur_typed_laws.proofs.Kinding.{ArePlain}

-- ---- types and rows

at_most : (n m : ℕ) → nat_le n m ≡ true → n ≤ m
at_most n m h = grind (arith, nat_tests, h)

pub is_written : (most : ℕ) (env : ConEnv) (c : Con) → nat_le (nodes (nf env c)) most ≡ true → IsWritten most env c (nf env c)
is_written most env c h = record { form = refl; small = at_most (nodes (nf env c)) most h }

pub small_writes : (most : ℕ) (env : ConEnv) (c : Con) (t : NormalType) → small_type most (nf env c) ≡ Some t → WritesType most env c t
small_writes most env c t h =
    let i : (nat_le (nodes (nf env c)) most ≡ true) × (Some (as_type (nf env c)) ≡ Some t) = opened_if (nat_le (nodes (nf env c)) most) (Some (as_type (nf env c))) t h in
    (nf env c, is_written most env c i.0, sym (some_of i.1))

pub row_writes : (most : ℕ) (env : ConEnv) (c : Con) (r : List Part) → small_row most (nf env c) ≡ Some r → WritesRow most env c r
row_writes most env c r h =
    let i : (nat_le (nodes (nf env c)) most ≡ true) × (Some (as_row (nf env c)) ≡ Some r) = opened_if (nat_le (nodes (nf env c)) most) (Some (as_row (nf env c))) r h in
    (nf env c, is_written most env c i.0, sym (some_of i.1))

-- a type that may be written where it stands
pub record MayStand (most : ℕ) (s : Scope) (c : Con) (t : NormalType) : Type 0 where
  pub writes : WritesType most s.names.cons c t
  pub is_type : IsType s.env t

pub written_stands : (w : World) (s : Scope) (c : Con) (t : NormalType) → written_type w s c ≡ Some t → MayStand w.most s c t
written_stands w s c t h =
    let n : Normal = nf s.names.cons c in
    let i : ((nat_le (nodes n) w.most && is_type s.env (as_type n)) ≡ true) × (Some (as_type n) ≡ Some t) = opened_if (nat_le (nodes n) w.most && is_type s.env (as_type n)) (Some (as_type n)) t h in
    let j : (nat_le (nodes n) w.most ≡ true) × (is_type s.env (as_type n) ≡ true) = both_of (nat_le (nodes n) w.most) (is_type s.env (as_type n)) i.0 in
    let e : as_type n ≡ t = some_of i.1 in
    record { writes = (n, is_written w.most s.names.cons c j.0, sym e); is_type = subst (IsType s.env) e ((type_decided s.env (as_type n)).0 j.1) }

within_of_test : (env : Env) (r : List Part) → row_rows_are_apart env.known r ≡ true → RowHasApartRows env.known r
within_of_test env [] h = tt
within_of_test env (p ∷ r) h = let k : (part_rows_are_apart env.known p ≡ true) × (row_rows_are_apart env.known r ≡ true) = both_of (part_rows_are_apart env.known p) (row_rows_are_apart env.known r) h in (part_of_test env.known p k.0, within_of_test env r k.1)

pub con_of_test : (env : Env) (a : Normal) → con_rows_are_apart env a ≡ true → con_is_apart env a
con_of_test env (normal.Type t) h = rows_of_test env.known t h
con_of_test env (normal.Row r) h =
    let m : (are_apart env.known r ≡ true) × (row_rows_are_apart env.known r ≡ true) = both_of (are_apart env.known r) (row_rows_are_apart env.known r) h in ((one_row env.known r).0 m.0, within_of_test env r m.1)
con_of_test env _ h = tt

-- ---- parameters

params_of : (most : ℕ) (names : Names) (ps : List WrittenConParam) (c : ConParams) → con_params_out most names ps ≡ Some c → AreConParams most names ps c.0 c.1
params_of most names [] c h = subst (λ (z : ConParams). AreConParams most names [] z.0 z.1) (some_of h) project.AreConParams.none
params_of most names (written_con.Kinded x k ∷ ps) c h =
    let i : (d : ConParams) × (con_params_out most (with_con x k names) ps ≡ Some d) × (and_con (con_param.Kinded k) d ≡ c) = mapped _ _ c h in
    subst (λ (z : ConParams). AreConParams most names (written_con.Kinded x k ∷ ps) z.0 z.1) i.2 (project.AreConParams.kinded (params_of most (with_con x k names) ps i.0 i.1))
params_of most names (written_con.Disjoint a b ∷ ps) c h =
    let i : (r : List Part) × (small_row most (nf names.cons a) ≡ Some r) × (option_and_then (λ s. option_map (and_con (con_param.Apart r s)) (con_params_out most names ps)) (small_row most (nf names.cons b)) ≡ Some c) = opened _ _ c h in
    let j : (s : List Part) × (small_row most (nf names.cons b) ≡ Some s) × (option_map (and_con (con_param.Apart i.0 s)) (con_params_out most names ps) ≡ Some c) = opened _ _ c i.2 in
    let k : (d : ConParams) × (con_params_out most names ps ≡ Some d) × (and_con (con_param.Apart i.0 j.0) d ≡ c) = mapped _ _ c j.2 in
    subst (λ (z : ConParams). AreConParams most names (written_con.Disjoint a b ∷ ps) z.0 z.1) k.2 (project.AreConParams.apart (row_writes most names.cons a i.0 i.1) (row_writes most names.cons b j.0 j.1) (params_of most names ps k.0 k.1))

param_is : (most : ℕ) (names : Names) (p : WrittenParam) (q : Local × Param) → param_out most names p ≡ Some q → IsParam most names p q.0 q.1 × (q.1.fixed ≡ holds_arrow q.1.of)
param_is most names (written_param.Value x c) q h =
    let i : (t : NormalType) × (small_type most (nf names.cons c) ≡ Some t) × ((local_of (bound_name x) t, param_of t) ≡ q) = mapped _ _ q h in
    subst (λ (z : Local × Param). IsParam most names (written_param.Value x c) z.0 z.1 × (z.1.fixed ≡ holds_arrow z.1.of)) i.2 (resolves.IsParam.typed (small_writes most names.cons c i.0 i.1), refl)
param_is most names written_param.Unit q h = subst (λ (z : Local × Param). IsParam most names written_param.Unit z.0 z.1 × (z.1.fixed ≡ holds_arrow z.1.of)) (some_of h) (resolves.IsParam.nothing, refl)

-- parameters of a function, each static by its type
record AreSuch (most : ℕ) (names : Names) (ps : List WrittenParam) (q : Params) : Type 0 where
  are : AreParams most names ps q.0 q.1
  static : AreStaticByType q.1

params_such : (most : ℕ) (names : Names) (ps : List WrittenParam) (q : Params) → all_params_out most names ps ≡ Some q → AreSuch most names ps q
params_such most names [] q h = subst (AreSuch most names []) (some_of h) (record { are = project.AreParams.none; static = tt })
params_such most names (p ∷ ps) q h =
    let i : (l : Local × Param) × (param_out most names p ≡ Some l) × (option_map (and_params l) (all_params_out most names ps) ≡ Some q) = opened _ _ q h in
    let j : (r : Params) × (all_params_out most names ps ≡ Some r) × (and_params i.0 r ≡ q) = mapped _ _ q i.2 in
    let k : AreSuch most names ps j.0 = params_such most names ps j.0 j.1 in
    let l = param_is most names p i.0 i.1 in
    subst (AreSuch most names (p ∷ ps)) j.2 (record { are = project.AreParams.one l.0 k.are; static = (l.1, k.static) })

-- ---- heads

-- each constructor parameter fits, where the kinds are no arrows
abbrev FitByRecursion : Env → List ConParam → Type 0
FitByRecursion env [] = Unit {0}
FitByRecursion env (c ∷ cs) = ConParamFits env c × FitByRecursion env cs

by_index : (env : Env) (cs : List ConParam) → FitByRecursion env cs → All (ConParamFits env) cs
by_index env [] h k d lt = absurd (no_place k lt) where
  no_place : (k : ℕ) → k < length {A = ConParam} [] → ⊥
  no_place k lt = omega (arith, lt)
by_index env (c ∷ cs) h zero d lt = h.0
by_index env (c ∷ cs) h (suc k) d lt = by_index env cs h.1 k d (omega (arith, lt))

cons_fit : {most : ℕ} {names after : Names} {ps : List WrittenConParam} {cs : List ConParam} (env : Env) → AreConParams most names ps after cs → ArePlain ps → list_all (con_param_fits env) cs ≡ true → FitByRecursion env cs
cons_fit env project.AreConParams.none a h = tt
cons_fit env (project.AreConParams.kinded {out = cs} xs) a h = (a.0, cons_fit env xs a.1 h)
cons_fit env (project.AreConParams.apart {r = r} {s = s} {out = cs} x y xs) a h =
    let i : ((row_is_in (variables env) r && row_is_in (variables env) s) ≡ true) × (list_all (con_param_fits env) cs ≡ true) = both_of (row_is_in (variables env) r && row_is_in (variables env) s) (list_all (con_param_fits env) cs) h in
    (both_of (row_is_in (variables env) r) (row_is_in (variables env) s) i.0, cons_fit env xs a i.1)

is_false : (b : Bool) → not b ≡ true → b ≡ false
is_false true h = absurd (true≢false (sym h))
is_false false h = refl

-- the head of a written function, and the names in scope of its body
pub record HeadIs (most : ℕ) (names : Names) (f : FunDef) (h : Heading) : Type 0 where
  pub after : Names
  pub locals : List Local
  pub cons : AreConParams most names f.con_params after h.head.cons
  pub params : AreParams most after f.params locals h.head.params
  pub result : WritesType most after.cons f.result h.head.result
  pub scope : h.names ≡ record { cons = after.cons; locals = locals }
  pub fits : ArePlain f.con_params → HeadFits h.head

head_fit : {most : ℕ} {names after : Names} {ps : List WrittenConParam} (h : Head) → AreConParams most names ps after h.cons → AreStaticByType h.params → head_fits h ≡ true → ArePlain ps → HeadFits h
head_fit h c s t a =
    let i : (list_all (con_param_fits (within_head h)) h.cons ≡ true) × ((are_params (within_head h) h.params && (is_type (within_head h) h.result && not (holds_arrow h.result))) ≡ true) =
    both_of (list_all (con_param_fits (within_head h)) h.cons) (are_params (within_head h) h.params && (is_type (within_head h) h.result && not (holds_arrow h.result))) t in
    let j : (are_params (within_head h) h.params ≡ true) × ((is_type (within_head h) h.result && not (holds_arrow h.result)) ≡ true) = both_of (are_params (within_head h) h.params) (is_type (within_head h) h.result && not (holds_arrow h.result)) i.1 in
    let k : (is_type (within_head h) h.result ≡ true) × (not (holds_arrow h.result) ≡ true) = both_of (is_type (within_head h) h.result) (not (holds_arrow h.result)) j.1 in
    record {
      cons = by_index (within_head h) h.cons (cons_fit (within_head h) c a i.0);
      params = (params_decided (within_head h) h.params).0 (j.0, s);
      result = (type_decided (within_head h) h.result).0 k.0;
      no_arrow = is_false (holds_arrow h.result) k.1;
    }

pub heading_told : (most : ℕ) (names : Names) (f : FunDef) (h : Heading) → heading_out most names f ≡ Some h → HeadIs most names f h
heading_told most names f h e =
    let a : (g : Heading) × (written_heading most names f ≡ Some g) × (fitting g ≡ Some h) = opened _ _ h e in
    let b : (c : ConParams) × (con_params_out most names f.con_params ≡ Some c) × (option_and_then (resulting most f c) (all_params_out most c.0 f.params) ≡ Some a.0) = opened _ _ a.0 a.1 in
    let d : (q : Params) × (all_params_out most b.0.0 f.params ≡ Some q) × (resulting most f b.0 q ≡ Some a.0) = opened _ _ a.0 b.2 in
    let r : (t : NormalType) × (small_type most (nf b.0.0.cons f.result) ≡ Some t) × (heading b.0 d.0 t ≡ a.0) = mapped _ _ a.0 d.2 in
    let i : (head_fits a.0.head ≡ true) × (Some a.0 ≡ Some h) = opened_if (head_fits a.0.head) (Some a.0) h a.2 in
    let g : Heading = heading b.0 d.0 r.0 in
    let c : AreConParams most names f.con_params b.0.0 g.head.cons = params_of most names f.con_params b.0 b.1 in
    let p : AreSuch most b.0.0 f.params d.0 = params_such most b.0.0 f.params d.0 d.1 in
    subst (HeadIs most names f) (r.2 ∙ some_of i.1) (record {
      after = b.0.0;
      locals = d.0.0;
      cons = c;
      params = p.are;
      result = small_writes most b.0.0.cons f.result r.0 r.1;
      scope = refl;
      fits = λ k. head_fit g.head c p.static (ap (λ z. head_fits z.head) r.2 ∙ i.0) k;
    })

-- ---- types of `val`s

pub record ValTypeIs (most : ℕ) (env : ConEnv) (c : Con) (t : NormalType) : Type 0 where
  pub writes : WritesType most env c t
  pub is_type : IsType nothing_in_scope t
  pub placed : IsTrue (is_placed t)

pub val_type_told : (most : ℕ) (c : Con) (z : Sofar) (t : NormalType) → val_type_out most c z ≡ Some t → ValTypeIs most (env_at z.place) c t
val_type_told most c z t h =
    let i : (u : NormalType) × (small_type most (nf (env_at z.place) c) ≡ Some u) × (if_so (is_type nothing_in_scope u && is_placed u) (Some u) ≡ Some t) = opened _ _ t h in
    let j : ((is_type nothing_in_scope i.0 && is_placed i.0) ≡ true) × (Some i.0 ≡ Some t) = opened_if (is_type nothing_in_scope i.0 && is_placed i.0) (Some i.0) t i.2 in
    let k : (is_type nothing_in_scope i.0 ≡ true) × (is_placed i.0 ≡ true) = both_of (is_type nothing_in_scope i.0) (is_placed i.0) j.0 in
    subst (ValTypeIs most (env_at z.place) c) (some_of j.1) (record { writes = small_writes most (env_at z.place) c i.0 i.1; is_type = (type_decided nothing_in_scope i.0).0 k.0; placed = k.1 })
