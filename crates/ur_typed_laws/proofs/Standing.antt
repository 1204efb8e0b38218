-- What a typed source declares before a place is what the function of declarations has there.
use Rattle.std.proofs.lemmas.Option.{slice_get-map}
use Rattle.std.proofs.lemmas.List.Elements.{All-head, All-tail}
use Rattle.std.proofs.Common.{arith, ◌≡◌, ◌∙◌, refl, sym, ap, ap₂, subst, Bool, true, Option, Some, None, List, [], ◌∷◌, ◌++◌, ℕ, zero, suc, ◌+◌, length, map, take}
use Rattle.std.specs.Prelude.{◌&&◌, ◌≤◌, not, nat_le, nat_eq, bytes_eq, All, is_none, option_map, option_and_then, slice_get}
use Rattle.std.specs.List.{list_all, IsDistinct}
use Rattle.ur_syntax.specs.declared.con.Con.{Con}
use Rattle.ur_syntax.specs.declared.con.ConEnv.{ConEnv}
use Rattle.ur_syntax.specs.declared.con.ConMeaning.TheVariants as meaning
use Rattle.ur_syntax.specs.declared.con.ConParam.{ConParam as WrittenConParam}
use Rattle.ur_syntax.specs.declared.kind.Kind.{Kind}
use Rattle.ur_syntax.specs.declared.kind.Kind.TheVariants as kind
use Rattle.ur_syntax.specs.declared.decl.Variant.{Variant as WrittenVariant}
use Rattle.ur_syntax.specs.declared.decl.Constraint.{Constraint}
use Rattle.ur_syntax.specs.declared.decl.FunDef.{FunDef}
use Rattle.ur_syntax.specs.declared.decl.DeclForm.{DeclForm}
use Rattle.ur_syntax.specs.declared.exp.Param.{Param as WrittenParam}
use Rattle.ur_values.specs.declared.schema.ColumnKind.{ColumnKind}
use Rattle.ur_values.specs.declared.schema.ColumnKind.TheVariants as column
use Rattle.ur_values.specs.declared.schema.TableShape.{TableShape}
use Rattle.ur_values.specs.Kinds.{inside}
use Rattle.ur_rows.specs.declared.normal.Normal.{Normal}
use Rattle.ur_rows.specs.declared.normal.Normal.TheVariants as normal
use Rattle.ur_rows.specs.declared.normal.NormalType.{NormalType}
use Rattle.ur_rows.specs.declared.normal.Part.{Part}
use Rattle.ur_rows.specs.Kinded.{row_is_in}
use Rattle.ur_rows.specs.Nodes.{nodes}
use Rattle.ur_rows.specs.Normal.{nf}
use Rattle.ur_rows.specs.Put.{as_type, as_row}
use Rattle.ur_rows.specs.Types.{holds_arrow, is_value_type, is_placed}
use Rattle.ur_tree.specs.Scalars.{kind_type}
use Rattle.ur_sqltype.specs.declared.keys.SqlKey.{SqlKey}
use Rattle.ur_sqltype.specs.Lists.{all_of, repeated}
use Rattle.ur_sqltype.specs.Table.{IsTable, IsTableOf, type_kind, record_row, column_from, key_of}
use Rattle.ur_sqltype.proofs.Once.{none_twice}
use Rattle.ur_typed.proofs.Keyed.{plain_tested}
use Rattle.ur_tree.specs.declared.exp.Param.{Param}
use Rattle.ur_tree.specs.declared.typed.Typed.{Typed}
use Rattle.ur_tree.specs.declared.typed.Datatype.{Datatype}
use Rattle.ur_tree.specs.declared.typed.Variant.{Variant}
use Rattle.ur_tree.specs.declared.typed.Function.{Function}
use Rattle.ur_tree.specs.declared.typed.ConParam.{ConParam}
use Rattle.ur_tree.specs.declared.typed.ConParam.TheVariants as con_param
use Rattle.ur_tree.specs.Heads.{Head, head_of, declared_of}
use Rattle.ur_tree.specs.Env.{Env, variables, IsType, con_is_apart, RowHasApartRows}
use Rattle.ur_tree.specs.App.{AppIsTyped, VariantIsTyped, FunctionIsTyped, HeadFits, ConParamFits, nothing_in_scope, within_head}
use Rattle.ur_typed_rules.specs.Names.{Local, Names, IsWritten, WritesType, WritesRow, bound_name, local_of, param_of}
use Rattle.ur_typed_rules.specs.Scopes.{World, Scope}
use Rattle.ur_typed_rules.specs.Tests.{is_type, are_params, are_apart, row_rows_are_apart, con_rows_are_apart}
use Rattle.ur_typed_rules.proofs.Lists.{of_both, test_of_all}
use Rattle.ur_typed_rules.proofs.Rows.{type_decided, one_row, test_of_rows, test_of_part}
use Rattle.ur_typed_rules.proofs.Decided.{params_decided}
use Rattle.ur_typed_rules.specs.Rules.{small_type, written_type, param_out, and_params}
use Rattle.ur_typed_rules.proofs.Options.{some_of, then_some}
use Rattle.ur_typed.specs.Resolves.{IsParam}
use Rattle.ur_typed.specs.Resolves as resolves
use Rattle.ur_typed.specs.Project.{Place, env_at, names_at, with_entry, with_function, with_val, with_variant, with_table, with_sequence, with_cookie, written_keys, AreConParams, AreParams, FunctionResolves, FunctionsResolve, AreNamed, VariantsResolve, DeclResolves}
use Rattle.ur_typed.specs.Project as project
use Rattle.ur_typed.specs.Declaring.{FunctionHead, Sofar, world_behind, top_scope, counted, defined_out, argument_out, with_constructor, variant_out, variants_out, with_datatype, shape_with, has_no_option, plain_shape, keyed_shape, columns_shape, shape_out, with_shape, full_name, table_out, with_named_sequence, with_named_cookie, cookie_out, and_con, small_row, con_params_out, all_params_out, con_param_fits, head_fits, fitting, heading, Heading, resulting, written_heading, heading_out, with_head, headings_out, val_type_out, with_val_of, decl_out}
use Rattle.ur_typed_laws.proofs.Walked.{so_true, and_true, within}
use Rattle.ur_typed_laws.proofs.Lists.{all_at}
use Rattle.ur_typed_laws.proofs.Written.{headed, body_names}
use Rattle.ur_typed_laws.proofs.Declared.{val_of}

-- ---- beginnings of lists

pub take_next : {A : Type 0} (n : ℕ) (xs : List A) (x : A) → slice_get xs n ≡ Some x → take n xs ++ x ∷ [] ≡ take (suc n) xs
take_next n [] x h = cc
take_next zero (y ∷ ys) x h = ap (λ z. z ∷ []) (sym (some_of h))
take_next (suc n) (y ∷ ys) x h = ap (λ z. y ∷ z) (take_next n ys x h)

pub take_more : {A : Type 0} (n : ℕ) (xs : List A) (x : A) → slice_get xs n ≡ Some x → take n xs ++ x ∷ [] ≡ take (n + 1) xs
take_more n xs x h = let e : suc n ≡ n + 1 = omega arith in take_next n xs x h ∙ ap (λ k. take k xs) e

-- ---- what is written

pub small_is : {most : ℕ} {env : ConEnv} {c : Con} {t : NormalType} → WritesType most env c t → small_type most (nf env c) ≡ Some t
small_is {most} {env} {c} {t} x =
    so_true (nat_le (nodes (nf env c)) most) (Some (as_type (nf env c))) (within (nodes (nf env c)) most (subst (λ z. nodes z ≤ most) x.1.form x.1.small)) ∙ ap (λ z. Some z) (sym (x.2 ∙ ap as_type x.1.form))

small_row_is : {most : ℕ} {env : ConEnv} {c : Con} {r : List Part} → WritesRow most env c r → small_row most (nf env c) ≡ Some r
small_row_is {most} {env} {c} {r} x =
    so_true (nat_le (nodes (nf env c)) most) (Some (as_row (nf env c))) (within (nodes (nf env c)) most (subst (λ z. nodes z ≤ most) x.1.form x.1.small)) ∙ ap (λ z. Some z) (sym (x.2 ∙ ap as_row x.1.form))

written_is : (w : World) (s : Scope) (c : Con) (u : NormalType) → WritesType w.most s.names.cons c u → IsType s.env u → written_type w s c ≡ Some u
written_is w s c u k t =
    let n : Normal = nf s.names.cons c in
    let i : u ≡ as_type n = k.2 ∙ ap as_type k.1.form in
    let a : nat_le (nodes n) w.most ≡ true = within (nodes n) w.most (subst (λ z. nodes z ≤ w.most) k.1.form k.1.small) in
    let b : is_type s.env (as_type n) ≡ true = (type_decided s.env (as_type n)).1 (subst (IsType s.env) i t) in
    so_true (nat_le (nodes n) w.most && is_type s.env (as_type n)) (Some (as_type n)) (and_true (nat_le (nodes n) w.most) (is_type s.env (as_type n)) a b) ∙ ap (λ z. Some z) (sym i)

-- ---- the place

abbrev a_sofar : Place → List Datatype → List Variant → List NormalType → List FunctionHead → List (List ℕ × ColumnKind) → List (List ℕ) → Sofar
a_sofar p d v l f c s = record { place = p; datatypes = d; variants = v; vals = l; functions = f; cookies = c; sequences = s }

-- what a source declares before a place
abbrev pub sofar : Typed → Place → Sofar
sofar app p = a_sofar p (take p.datatypes app.datatypes) (take p.variants app.variants) (take p.vals (map val_of app.vals)) (take p.functions (map headed app.functions)) (take (length p.globals.cookies) app.cookies) (take (length p.globals.sequences) app.schema.sequences)

-- ---- types and datatypes

within_is : (env : Env) (r : List Part) → RowHasApartRows env.known r → row_rows_are_apart env.known r ≡ true
within_is env [] h = refl
within_is env (p ∷ r) h = of_both _ (row_rows_are_apart env.known r) (test_of_part env.known p h.0) (within_is env r h.1)

apart_is : (env : Env) (n : Normal) → con_is_apart env n → con_rows_are_apart env n ≡ true
apart_is env (normal.Type t) h = test_of_rows env.known t h
apart_is env (normal.Row r) h = of_both (are_apart env.known r) (row_rows_are_apart env.known r) ((one_row env.known r).1 h.0) (within_is env r h.1)
apart_is env _ h = refl

defined_is : (app : Typed) (most : ℕ) (p : Place) (x : List ℕ) (k : Kind) (c : Con) (n : Normal) → IsWritten most (env_at p) c n → con_is_apart nothing_in_scope n → defined_out most x k c (sofar app p) ≡ Some (sofar app (with_entry x k (meaning.Defined c) p))
defined_is app most p x k c n w a =
    let m : Normal = nf (env_at p) c in
    let i : nat_le (nodes m) most ≡ true = within (nodes m) most (subst (λ z. nodes z ≤ most) w.form w.small) in
    let j : con_rows_are_apart nothing_in_scope m ≡ true = apart_is nothing_in_scope m (subst (con_is_apart nothing_in_scope) w.form a) in
    so_true (nat_le (nodes m) most && con_rows_are_apart nothing_in_scope m) _ (and_true (nat_le (nodes m) most) (con_rows_are_apart nothing_in_scope m) i j)

abbrev a_variant : ℕ → List ℕ → Option NormalType → Variant
a_variant k x t = record { datatype = k; name = x; arg = t }

with_constructor_is : (app : Typed) (k : ℕ) (x : List ℕ) (a : Option NormalType) (p : Place) → slice_get app.variants p.variants ≡ Some (a_variant k x a) → with_constructor k x a (sofar app p) ≡ sofar app (with_variant x p)
with_constructor_is app k x a p h =
    ap (λ z. a_sofar (with_variant x p) (take p.datatypes app.datatypes) z (take p.vals (map val_of app.vals)) (take p.functions (map headed app.functions)) (take (length p.globals.cookies) app.cookies) (take (length p.globals.sequences) app.schema.sequences)) (take_more p.variants app.variants (a_variant k x a) h)

plain_is : (app : Typed) (most k : ℕ) (p : Place) (x : List ℕ) → slice_get app.variants p.variants ≡ Some (a_variant k x None) → variant_out most k x None (sofar app p) ≡ Some (sofar app (with_variant x p))
plain_is app most k p x h = ap (λ z. Some z) (with_constructor_is app k x None p h)

with_is : (app : Typed) (most k : ℕ) (p : Place) (x : List ℕ) (c : Con) (t : NormalType) → All (VariantIsTyped app) app.variants → WritesType most (env_at p) c t → slice_get app.variants p.variants ≡ Some (a_variant k x (Some t)) →
    variant_out most k x (Some c) (sofar app p) ≡ Some (sofar app (with_variant x p))
with_is app most k p x c t u w h =
    let v : VariantIsTyped app (a_variant k x (Some t)) = all_at (VariantIsTyped app) app.variants p.variants (a_variant k x (Some t)) u h in
    let i : argument_out most (sofar app p) c ≡ Some t = then_some _ _ t _ (written_is (world_behind most (sofar app p)) (top_scope (sofar app p)) c t w v.written) (so_true (is_value_type t) (Some t) v.value) in
    ap (option_map (λ z. with_constructor k x (Some z) (sofar app p))) i ∙ ap (λ z. Some z) (with_constructor_is app k x (Some t) p h)

variants_are : (app : Typed) (most k : ℕ) → All (VariantIsTyped app) app.variants → (p : Place) (vs : List WrittenVariant) (q : Place) → VariantsResolve app most k p vs q → variants_out most k vs (sofar app p) ≡ Some (sofar app q)
variants_are app most k u p _ _ project.VariantsResolve.none = refl
variants_are app most k u p _ q (project.VariantsResolve.plain {v = v} {vs = vs} e h r) =
    then_some (variants_out most k vs) _ (sofar app (with_variant v.name p)) _ (ap (λ z. variant_out most k v.name z (sofar app p)) e ∙ plain_is app most k p v.name h) (variants_are app most k u (with_variant v.name p) vs q r)
variants_are app most k u p _ q (project.VariantsResolve.with {v = v} {vs = vs} {c = c} {t = t} e w h r) =
    then_some (variants_out most k vs) _ (sofar app (with_variant v.name p)) _ (ap (λ z. variant_out most k v.name z (sofar app p)) e ∙ with_is app most k p v.name c t u w h) (variants_are app most k u (with_variant v.name p) vs q r)

abbrev a_datatype : ℕ → List ℕ → Datatype
a_datatype m x = record { «module» = m; name = x }

abbrev behind_datatype : List ℕ → Place → Place
behind_datatype x p = with_entry x kind.Star (meaning.Datatype p.datatypes) (counted p)

datatype_is : (app : Typed) (home : ℕ) (x : List ℕ) (p : Place) → slice_get app.datatypes p.datatypes ≡ Some (a_datatype home x) → with_datatype home x (sofar app p) ≡ sofar app (behind_datatype x p)
datatype_is app home x p h =
    ap (λ z. a_sofar (behind_datatype x p) z (take p.variants app.variants) (take p.vals (map val_of app.vals)) (take p.functions (map headed app.functions)) (take (length p.globals.cookies) app.cookies) (take (length p.globals.sequences) app.schema.sequences)) (take_more p.datatypes app.datatypes (a_datatype home x) h)

-- ---- tables and cookies

none_is : {A : Type 0} (o : Option A) → o ≡ None → is_none o ≡ true
none_is o e = ap is_none e

all_once : (keys : List (List ℕ)) → All (IsDistinct nat_eq) keys → list_all (λ k. is_none (repeated nat_eq k)) keys ≡ true
all_once [] h = refl
all_once (k ∷ keys) h = ap₂ (λ a b. a && b) (none_is (repeated nat_eq k) (none_twice nat_eq k (All-head (IsDistinct nat_eq) k keys h))) (all_once keys (All-tail (IsDistinct nat_eq) k keys h))

abbrev a_shape : List ℕ → List (List ℕ × ColumnKind) → List (List ℕ) → Bool → TableShape
a_shape n c k p = record { name = n; columns = c; keys = k; primary = p }

row_shape : (name : List ℕ) (row : List Part) (keys : List SqlKey) (shape : TableShape) → IsTableOf name row keys shape → option_and_then (columns_shape name keys) (all_of column_from row) ≡ Some shape
row_shape name row keys shape t =
    then_some (columns_shape name keys) (all_of column_from row) shape.columns (Some shape) t.columns
    (so_true (is_none (repeated bytes_eq (map (λ c. c.0) shape.columns))) (option_and_then (keyed_shape name keys shape.columns) (all_of (key_of shape.columns) keys)) (none_is (repeated bytes_eq (map (λ c. c.0) shape.columns)) (none_twice bytes_eq (map (λ c. c.0) shape.columns) t.distinct))
    ∙ then_some (keyed_shape name keys shape.columns) (all_of (key_of shape.columns) keys) shape.keys (Some shape) t.are_keys
    (so_true (list_all (λ k. is_none (repeated nat_eq k)) shape.keys) (plain_shape name keys shape.columns shape.keys) (all_once shape.keys t.once)
    ∙ so_true (list_all (has_no_option shape.columns) shape.keys) (Some (shape_with name keys shape.columns shape.keys))
    (plain_tested shape.columns shape.keys t.plain_keys)
    ∙ ap (λ z. Some z) (ap₂ (λ a b. a_shape a shape.columns shape.keys b) (sym t.named) (sym t.primary))))

shape_is : (name : List ℕ) (t : NormalType) (keys : List SqlKey) (shape : TableShape) → IsTable name (normal.Type t) keys shape → shape_out name keys t ≡ Some shape
shape_is name t keys shape h = then_some (λ (row : List Part). option_and_then (columns_shape name keys) (all_of column_from row)) (record_row (normal.Type t)) h.row (Some shape) h.is_record (row_shape name h.row keys shape h.table)

table_is : (app : Typed) (most : ℕ) (p : Place) (x : List ℕ) (c : Con) (primary : Option (List (List ℕ))) (cs : List Constraint) (t : NormalType) (shape : TableShape) → WritesType most (env_at p) c t → IsTable (full_name (sofar app p) x) (normal.Type t) (written_keys primary cs) shape →
    table_out most x c primary cs (sofar app p) ≡ Some (sofar app (with_table shape p))
table_is app most p x c primary cs t shape w h = ap (option_map (with_shape (sofar app p))) (then_some (shape_out (full_name (sofar app p) x) (written_keys primary cs)) _ t (Some shape) (small_is w) (shape_is (full_name (sofar app p) x) t (written_keys primary cs) shape h))

sequence_is : (app : Typed) (p : Place) (x : List ℕ) → slice_get app.schema.sequences (length p.globals.sequences) ≡ Some (full_name (sofar app p) x) → with_named_sequence x (sofar app p) ≡ sofar app (with_sequence x p)
sequence_is app p x h =
    ap (λ z. a_sofar (with_sequence x p) (take p.datatypes app.datatypes) (take p.variants app.variants) (take p.vals (map val_of app.vals)) (take p.functions (map headed app.functions)) (take (length p.globals.cookies) app.cookies) z) (take_next (length p.globals.sequences) app.schema.sequences (full_name (sofar app p) x) h)

kind_is : (k : ColumnKind) → inside k ≡ None → type_kind (kind_type k) ≡ Some k
kind_is column.Int h = refl
kind_is column.Str h = refl
kind_is column.Bool h = refl
kind_is column.OptInt h = cc
kind_is column.OptStr h = cc
kind_is column.OptBool h = cc

cookie_is : (app : Typed) (most : ℕ) (p : Place) (x : List ℕ) (c : Con) (k : ColumnKind) → WritesType most (env_at p) c (kind_type k) → inside k ≡ None →
    slice_get app.cookies (length p.globals.cookies) ≡ Some (full_name (sofar app p) x, k) →
    cookie_out most x c (sofar app p) ≡ Some (sofar app (with_cookie x p))
cookie_is app most p x c k w b h =
    ap (option_map (with_named_cookie x (sofar app p))) (then_some type_kind _ (kind_type k) (Some k) (small_is w) (kind_is k b))
    ∙ ap (λ z. Some (a_sofar (with_cookie x p) (take p.datatypes app.datatypes) (take p.variants app.variants) (take p.vals (map val_of app.vals)) (take p.functions (map headed app.functions)) z (take (length p.globals.sequences) app.schema.sequences))) (take_next (length p.globals.cookies) app.cookies (full_name (sofar app p) x, k) h)

-- ---- heads of functions and `val`s

cons_are : {most : ℕ} {names after : Names} {ps : List WrittenConParam} {out : List ConParam} → AreConParams most names ps after out → con_params_out most names ps ≡ Some (after, out)
cons_are project.AreConParams.none = refl
cons_are (project.AreConParams.kinded {k = k} xs) = ap (option_map (and_con (con_param.Kinded k))) (cons_are xs)
cons_are (project.AreConParams.apart {r = r} {s = s} wr ws xs) = then_some _ _ r _ (small_row_is wr) (then_some _ _ s _ (small_row_is ws) (ap (option_map (and_con (con_param.Apart r s))) (cons_are xs)))

param_is : {most : ℕ} {names : Names} {p : WrittenParam} {l : Local} {q : Param} → IsParam most names p l q → param_out most names p ≡ Some (l, q)
param_is (resolves.IsParam.typed {x = x} w) = ap (option_map (λ t. (local_of (bound_name x) t, param_of t))) (small_is w)
param_is resolves.IsParam.nothing = refl

params_are : {most : ℕ} {names : Names} {ps : List WrittenParam} {ls : List Local} {out : List Param} → AreParams most names ps ls out → all_params_out most names ps ≡ Some (ls, out)
params_are project.AreParams.none = refl
params_are (project.AreParams.one {l = l} {q = q} x xs) = then_some _ _ (l, q) _ (param_is x) (ap (option_map (and_params (l, q))) (params_are xs))

con_fits : (env : Env) (c : ConParam) → ConParamFits env c → con_param_fits env c ≡ true
con_fits env (con_param.Kinded k) h = refl
con_fits env (con_param.Apart r s) h = of_both (row_is_in (variables env) r) (row_is_in (variables env) s) h.0 h.1

head_is : (h : Head) → HeadFits h → head_fits h ≡ true
head_is h f =
    of_both (list_all (con_param_fits (within_head h)) h.cons) (are_params (within_head h) h.params && (is_type (within_head h) h.result && not (holds_arrow h.result))) (test_of_all (con_param_fits (within_head h)) (ConParamFits (within_head h)) (con_fits (within_head h)) h.cons f.cons)
    (of_both (are_params (within_head h) h.params) (is_type (within_head h) h.result && not (holds_arrow h.result)) ((params_decided (within_head h) h.params).1 f.params).0 (of_both (is_type (within_head h) h.result) (not (holds_arrow h.result)) ((type_decided (within_head h) h.result).1 f.result) (ap not f.no_arrow)))

-- the head of a function of a source, and the names in scope of its body
abbrev pub heading_of : {app : Typed} {most home : ℕ} {p : Place} {f : FunDef} {d : Function} → FunctionResolves app most home p f d → Heading
heading_of {d = d} x = record { names = body_names x; head = head_of d }

pub heading_is : {app : Typed} {most home : ℕ} {p : Place} {f : FunDef} {d : Function} (x : FunctionResolves app most home p f d) → HeadFits (head_of d) → heading_out most (names_at p) f ≡ Some (heading_of x)
heading_is {app} {most} {home} {p} {f} {d} x h =
    let i : written_heading most (names_at p) f ≡ Some (heading_of x) = then_some _ _ (x.after, d.cons) _ (cons_are x.cons) (then_some (resulting most f (x.after, d.cons)) _ (x.locals, d.params) _ (params_are x.params) (ap (option_map (heading (x.after, d.cons) (x.locals, d.params))) (small_is x.result))) in
    then_some fitting _ (heading_of x) _ i (so_true (head_fits (head_of d)) (Some (heading_of x)) (head_is (head_of d) h))

abbrev a_function : ℕ → List ℕ → Head → FunctionHead
a_function m n h = record { «module» = m; name = n; head = h }

with_head_is : (app : Typed) (home : ℕ) (p : Place) (f : FunDef) (d : Function) (h : Heading) → slice_get app.functions p.functions ≡ Some d → d.«module» ≡ home → d.name ≡ f.name → h.head ≡ head_of d → with_head home f (sofar app p) h ≡ sofar app (with_function f.name p)
with_head_is app home p f d h g m n e =
    let i : headed d ≡ a_function home f.name h.head = ap (λ z. a_function z d.name (head_of d)) m ∙ (ap (λ z. a_function home z (head_of d)) n ∙ ap (λ z. a_function home f.name z) (sym e)) in
    ap (λ z. a_sofar (with_function f.name p) (take p.datatypes app.datatypes) (take p.variants app.variants) (take p.vals (map val_of app.vals)) z (take (length p.globals.cookies) app.cookies) (take (length p.globals.sequences) app.schema.sequences))
    (take_more p.functions (map headed app.functions) (a_function home f.name h.head) (slice_get-map headed app.functions p.functions ∙ (ap (option_map headed) g ∙ ap (λ z. Some z) i)))

pub named_names : (p : Place) (fs : List FunDef) (q : Place) → AreNamed p fs q → names_at q ≡ names_at p
named_names p _ _ project.AreNamed.none = refl
named_names p _ q (project.AreNamed.one {f = f} {fs = fs} x) = named_names (with_function f.name p) fs q x

headings_are : (app : Typed) (most home : ℕ) → AppIsTyped most app → (r p : Place) (n : ℕ) (fs : List FunDef) (q : Place) → FunctionsResolve app most home r n fs → AreNamed p fs q → names_at r ≡ names_at p → n ≡ p.functions → headings_out most home fs (sofar app p) ≡ Some (sofar app q)
headings_are app most home t r p n _ _ project.FunctionsResolve.none project.AreNamed.none e i = refl
headings_are app most home t r p n _ q (project.FunctionsResolve.one {f = f} {d = d} {fs = fs} g x xs) (project.AreNamed.one y) e i =
    let u : FunctionIsTyped (declared_of app) most d = all_at (FunctionIsTyped (declared_of app) most) app.functions n d t.functions g in
    let k : heading_out most (names_at p) f ≡ Some (heading_of x) = subst (λ z. heading_out most z f ≡ Some (heading_of x)) e (heading_is x u.head) in
    let l : with_head home f (sofar app p) (heading_of x) ≡ sofar app (with_function f.name p) = with_head_is app home p f d (heading_of x) (subst (λ z. slice_get app.functions z ≡ Some d) i g) x.place x.name refl in
    then_some (λ z. headings_out most home fs (with_head home f (sofar app p) z)) _ (heading_of x) _ k (ap (headings_out most home fs) l ∙ headings_are app most home t r (with_function f.name p) (n + 1) fs q xs y e (ap (λ z. z + 1) i))

pub val_type_is : (app : Typed) (most : ℕ) (p : Place) (c : Con) (t : NormalType) → WritesType most (env_at p) c t → IsType nothing_in_scope t → is_placed t ≡ true → val_type_out most c (sofar app p) ≡ Some t
val_type_is app most p c t w i l = then_some _ _ t _ (small_is w) (so_true (is_type nothing_in_scope t && is_placed t) (Some t) (of_both (is_type nothing_in_scope t) (is_placed t) ((type_decided nothing_in_scope t).1 i) l))

with_val_is : (app : Typed) (p : Place) (x : List ℕ) (t : NormalType) → slice_get (map val_of app.vals) p.vals ≡ Some t → with_val_of x (sofar app p) t ≡ sofar app (with_val x p)
with_val_is app p x t h =
    ap (λ z. a_sofar (with_val x p) (take p.datatypes app.datatypes) (take p.variants app.variants) z (take p.functions (map headed app.functions)) (take (length p.globals.cookies) app.cookies) (take (length p.globals.sequences) app.schema.sequences)) (take_more p.vals (map val_of app.vals) t h)

-- ---- declarations

-- a declaration in a module
pub decl_is : (app : Typed) (most home : ℕ) → AppIsTyped most app → (p : Place) (d : DeclForm) (q : Place) → slice_get app.modules home ≡ Some p.globals.home → DeclResolves app most home p d q → decl_out most home d (sofar app p) ≡ Some (sofar app q)
decl_is app most home t p _ _ m (project.DeclResolves.con {x = x} {k = k} {c = c} {n = n} h i) = defined_is app most p x k c n h i
decl_is app most home t p _ _ m (project.DeclResolves.type_ {x = x} {c = c} {n = n} h i) = defined_is app most p x kind.Star c n h i
decl_is app most home t p _ q m (project.DeclResolves.datatype {x = x} {vs = vs} h r) = ap (variants_out most p.datatypes vs) (datatype_is app home x p h) ∙ variants_are app most p.datatypes t.variants (behind_datatype x p) vs q r
decl_is app most home t p _ _ m (project.DeclResolves.table {x = x} {m = n} {c = c} {primary = primary} {cs = cs} {t = u} {shape = s} w h i l) =
    let e : n ≡ p.globals.home = some_of (sym h ∙ m) in table_is app most p x c primary cs u s w (subst (λ z. IsTable (full_name (record (sofar app p) { place = record p { globals = record p.globals { home = z } } }) x) (normal.Type u) (written_keys primary cs) s) e i)
decl_is app most home t p _ _ m (project.DeclResolves.sequence {x = x} {m = n} i l) =
    let e : n ≡ p.globals.home = some_of (sym i ∙ m) in
    ap (λ z. Some z) (sequence_is app p x (l ∙ ap (λ z. Some (full_name (record (sofar app p) { place = record p { globals = record p.globals { home = z } } }) x)) e))
decl_is app most home t p _ _ m (project.DeclResolves.cookie {x = x} {m = n} {c = c} {k = k} w b i l) =
    let e : n ≡ p.globals.home = some_of (sym i ∙ m) in
    cookie_is app most p x c k w b (l ∙ ap (λ z. Some
    (full_name (record (sofar app p) { place = record p { globals = record p.globals { home = z } } }) x, k)) e)
decl_is app most home t p _ _ m (project.DeclResolves.val {x = x} {c = c} {d = d} w r l) =
    ap (option_map (with_val_of x (sofar app p))) (val_type_is app most p c d.of w (t.vals p.vals d l).written (t.vals p.vals d l).placed) ∙ ap (λ z. Some z) (with_val_is app p x d.of (slice_get-map val_of app.vals p.vals ∙ ap (option_map val_of) l))
decl_is app most home t p _ q m (project.DeclResolves.functions {fs = fs} n r) = headings_are app most home t q p p.functions fs q r n (named_names p fs q n) refl
