-- What is written of a declaration is determined: its types, parameters and shape.
use Rattle.std.proofs.Common.{◌≡◌, ◌∙◌, refl, sym, ap, subst, Some, List, ◌∷◌, ℕ, Bool}
use Rattle.ur_syntax.specs.declared.con.Con.{Con}
use Rattle.ur_syntax.specs.declared.con.ConEnv.{ConEnv}
use Rattle.ur_syntax.specs.declared.con.ConParam.{ConParam as WrittenConParam}
use Rattle.ur_syntax.specs.declared.decl.FunDef.{FunDef}
use Rattle.ur_syntax.specs.declared.exp.Param.{Param as WrittenParam}
use Rattle.ur_values.specs.declared.schema.ColumnKind.{ColumnKind}
use Rattle.ur_values.specs.declared.schema.ColumnKind.TheVariants as column
use Rattle.ur_values.specs.declared.schema.TableShape.{TableShape}
use Rattle.ur_rows.specs.declared.normal.Normal.{Normal}
use Rattle.ur_rows.specs.declared.normal.NormalType.{NormalType}
use Rattle.ur_rows.specs.declared.normal.Part.{Part}
use Rattle.ur_rows.specs.Put.{as_type, as_row}
use Rattle.ur_tree.specs.Scalars.{kind_type}
use Rattle.ur_sqltype.specs.declared.keys.SqlKey.{SqlKey}
use Rattle.ur_sqltype.specs.Lists.{all_of}
use Rattle.ur_sqltype.specs.Table.{IsTable, column_from, key_of, column_type_kind}
use Rattle.ur_tree.specs.declared.exp.Param.{Param}
use Rattle.ur_tree.specs.declared.typed.Typed.{Typed}
use Rattle.ur_tree.specs.declared.typed.Function.{Function}
use Rattle.ur_tree.specs.declared.typed.ConParam.{ConParam}
use Rattle.ur_tree.specs.declared.typed.ConParam.TheVariants as con_param
use Rattle.ur_tree.specs.Heads.{head_of}
use Rattle.ur_typed_rules.specs.Names.{Local, Names, WritesType, WritesRow, bound_name, local_of, param_of}
use Rattle.ur_typed.specs.Resolves.{IsParam}
use Rattle.ur_typed.specs.Resolves as resolves
use Rattle.ur_typed.specs.Project.{Place, names_at, AreConParams, AreParams, FunctionResolves}
use Rattle.ur_typed.specs.Project as project
use Rattle.ur_typed.specs.Declaring.{FunctionHead}
use Rattle.ur_typed_rules.proofs.Options.{some_of}

-- ---- types and parameters

pub one_type : (most : ℕ) (env : ConEnv) (c : Con) (t u : NormalType) → WritesType most env c t → WritesType most env c u → t ≡ u
one_type most env c t u x y = x.2 ∙ (ap as_type (x.1.form ∙ sym y.1.form) ∙ sym y.2)

one_row : (most : ℕ) (env : ConEnv) (c : Con) (r s : List Part) → WritesRow most env c r → WritesRow most env c s → r ≡ s
one_row most env c r s x y = x.2 ∙ (ap as_row (x.1.form ∙ sym y.1.form) ∙ sym y.2)

one_param : (most : ℕ) (names : Names) (p : WrittenParam) (l k : Local) (q r : Param) → IsParam most names p l q → IsParam most names p k r → (l ≡ k) × (q ≡ r)
one_param most names _ _ _ _ _ (resolves.IsParam.typed {x = x} {c = c} {t = t} w) (resolves.IsParam.typed {t = u} v) = let e : t ≡ u = one_type most names.cons c t u w v in (ap (local_of (bound_name x)) e, ap param_of e)
one_param most names _ _ _ _ _ resolves.IsParam.nothing resolves.IsParam.nothing = (refl, refl)

one_params : (most : ℕ) (names : Names) (ps : List WrittenParam) (ls ks : List Local) (qs rs : List Param) → AreParams most names ps ls qs → AreParams most names ps ks rs → (ls ≡ ks) × (qs ≡ rs)
one_params most names _ _ _ _ _ project.AreParams.none project.AreParams.none = (refl, refl)
one_params most names _ _ _ _ _ (project.AreParams.one {p = p} {l = l} {q = q} {params = ps} {ls = ls} {out = qs} x xs) (project.AreParams.one {l = k} {q = r} {ls = ks} {out = rs} y ys) =
    let i : (l ≡ k) × (q ≡ r) = one_param most names p l k q r x y in
    let j : (ls ≡ ks) × (qs ≡ rs) = one_params most names ps ls ks qs rs xs ys in
    (ap (λ z. z ∷ ls) i.0 ∙ ap (λ z. k ∷ z) j.0, ap (λ z. z ∷ qs) i.1 ∙ ap (λ z. r ∷ z) j.1)

one_cons : (most : ℕ) (names : Names) (ps : List WrittenConParam) (m n : Names) (cs ds : List ConParam) → AreConParams most names ps m cs → AreConParams most names ps n ds → (m ≡ n) × (cs ≡ ds)
one_cons most _ _ _ _ _ _ project.AreConParams.none project.AreConParams.none = (refl, refl)
one_cons most names _ m n _ _ (project.AreConParams.kinded {x = x} {k = k} {cons = ps} {out = cs} xs) (project.AreConParams.kinded {out = ds} ys) =
    let j : (m ≡ n) × (cs ≡ ds) = one_cons most _ ps m n cs ds xs ys in (j.0, ap (λ z. con_param.Kinded k ∷ z) j.1)
one_cons most names _ m n _ _ (project.AreConParams.apart {c = c} {d = d} {r = r} {s = s} {cons = ps} {out = cs} wr ws xs) (project.AreConParams.apart {r = u} {s = v} {out = ds} vr vs ys) =
    let j : (m ≡ n) × (cs ≡ ds) = one_cons most names ps m n cs ds xs ys in
    (j.0, ap (λ z. con_param.Apart z s ∷ cs) (one_row most names.cons c r u wr vr) ∙ (ap (λ z. con_param.Apart u z ∷ cs) (one_row most names.cons d s v ws vs) ∙ ap (λ z. con_param.Apart u v ∷ z) j.1))

-- ---- tables and cookies

abbrev a_shape : List ℕ → List (List ℕ × ColumnKind) → List (List ℕ) → Bool → TableShape
a_shape n c k p = record { name = n; columns = c; keys = k; primary = p }

pub one_shape : (name : List ℕ) (of : Normal) (keys : List SqlKey) (s z : TableShape) → IsTable name of keys s → IsTable name of keys z → s ≡ z
one_shape name of keys s z x y =
    let r : x.row ≡ y.row = some_of (sym x.is_record ∙ y.is_record) in
    let c : s.columns ≡ z.columns = some_of (sym x.table.columns ∙ (ap (all_of column_from) r ∙ y.table.columns)) in
    let k : s.keys ≡ z.keys = some_of (sym x.table.are_keys ∙ (ap (λ v. all_of (key_of v) keys) c ∙ y.table.are_keys)) in
    ap (λ v. a_shape v s.columns s.keys s.primary) (x.table.named ∙ sym y.table.named) ∙ (ap (λ v. a_shape z.name v s.keys s.primary) c ∙ (ap (λ v. a_shape z.name z.columns v s.primary) k ∙ ap (λ v. a_shape z.name z.columns z.keys v) (x.table.primary ∙ sym y.table.primary)))

kind_back : (k : ColumnKind) → column_type_kind (kind_type k) ≡ Some k
kind_back column.Int = refl
kind_back column.Str = refl
kind_back column.Bool = refl
kind_back column.OptInt = refl
kind_back column.OptStr = refl
kind_back column.OptBool = refl

pub one_kind : (k j : ColumnKind) → kind_type k ≡ kind_type j → k ≡ j
one_kind k j h = some_of (sym (kind_back k) ∙ (ap column_type_kind h ∙ kind_back j))

-- ---- heads of functions

-- a function's head, with its module and its name
abbrev pub headed : Function → FunctionHead
headed d = record { «module» = d.«module»; name = d.name; head = head_of d }

abbrev a_head : ℕ → List ℕ → List ConParam → List Param → NormalType → FunctionHead
a_head m n c p r = record { «module» = m; name = n; head = record { cons = c; params = p; result = r } }

abbrev the_names : ConEnv → List Local → Names
the_names c ls = record { cons = c; locals = ls }

-- the names in scope of a function's body
abbrev pub body_names : {app : Typed} {most home : ℕ} {p : Place} {f : FunDef} {d : Function} → FunctionResolves app most home p f d → Names
body_names x = record { cons = x.after.cons; locals = x.locals }

-- of one written function in two sources
pub record SameFunction {a b : Typed} {most home : ℕ} {p : Place} {f : FunDef} {d e : Function} (x : FunctionResolves a most home p f d) (y : FunctionResolves b most home p f e) : Type 0 where
  pub head : headed d ≡ headed e
  pub names : body_names x ≡ body_names y

pub one_function : {a b : Typed} {most home : ℕ} {p : Place} {f : FunDef} {d e : Function} (x : FunctionResolves a most home p f d) (y : FunctionResolves b most home p f e) → SameFunction x y
one_function {a} {b} {most} {home} {p} {f} {d} {e} x y =
    let c : (x.after ≡ y.after) × (d.cons ≡ e.cons) = one_cons most (names_at p) f.con_params x.after y.after d.cons e.cons x.cons y.cons in
    let q : (x.locals ≡ y.locals) × (d.params ≡ e.params) = one_params most y.after f.params x.locals y.locals d.params e.params (subst (λ z. AreParams most z f.params x.locals d.params) c.0 x.params) y.params in
    let r : d.result ≡ e.result = one_type most y.after.cons f.result d.result e.result (subst (λ z. WritesType most z.cons f.result d.result) c.0 x.result) y.result in
    record {
      head = ap (λ z. a_head z d.name d.cons d.params d.result) (x.place ∙ sym y.place) ∙ (ap (λ z. a_head e.«module» z d.cons d.params d.result) (x.name ∙ sym y.name) ∙ (ap (λ z. a_head e.«module» e.name z d.params d.result) c.1 ∙ (ap (λ z. a_head e.«module» e.name e.cons z d.result) q.1 ∙ ap (λ z. a_head e.«module» e.name e.cons e.params z) r)));
      names = ap (λ z. the_names z.cons x.locals) c.0 ∙ ap (λ z. the_names y.after.cons z) q.0;
    }
