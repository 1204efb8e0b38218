-- Declarations, their bodies and the signature: what breaks a rule there has no answer.
use Rattle.std.proofs.Common.{subst, ◌⊎◌, inl, inr, ◌≡◌, ◌∙◌, refl, sym, ap, Bool, true, false, Option, Some, None, List, [], ◌∷◌, ℕ}
use Rattle.std.specs.Prelude.{◌&&◌, not, nat_eq, is_none, option_map, option_and_then}
use Rattle.std.specs.List.{list_all}
use Rattle.ur_base.specs.declared.refusal.Refusal.{Refusal}
use Rattle.ur_syntax.specs.declared.con.Con.{Con}
use Rattle.ur_syntax.specs.declared.con.ConParam.{ConParam as WrittenConParam}
use Rattle.ur_syntax.specs.declared.decl.Variant.{Variant as WrittenVariant}
use Rattle.ur_syntax.specs.declared.decl.Constraint.{Constraint}
use Rattle.ur_syntax.specs.declared.decl.FunDef.{FunDef}
use Rattle.ur_syntax.specs.declared.decl.Decl.{Decl}
use Rattle.ur_syntax.specs.declared.decl.DeclForm.{DeclForm}
use Rattle.ur_syntax.specs.declared.decl.Module.{Module}
use Rattle.ur_syntax.specs.declared.decl.ValDecl.{ValDecl}
use Rattle.ur_syntax.specs.declared.exp.Param.{Param as WrittenParam}
use Rattle.ur_values.specs.declared.schema.ColumnKind.{ColumnKind}
use Rattle.ur_rows.specs.declared.normal.Normal.TheVariants as normal
use Rattle.ur_rows.specs.declared.normal.NormalType.{NormalType}
use Rattle.ur_rows.specs.declared.normal.Part.{Part as RowPart}
use Rattle.ur_rows.specs.Types.{is_value_type, holds_arrow, is_placed}
use Rattle.ur_rows.specs.Normal.{nf}
use Rattle.ur_disjoint.proofs.Members.{In, in-contains}
use Rattle.ur_tree.specs.declared.typed.ConParam.TheVariants as con_param
use Rattle.ur_tree.specs.Heads.{Head}
use Rattle.ur_tree.specs.Env.{Env}
use Rattle.ur_tree.specs.App.{nothing_in_scope, within_head}
use Rattle.ur_typed_rules.specs.Names.{Names}
use Rattle.ur_typed_rules.specs.Tests.{is_type, are_params}
use Rattle.ur_sqltype.specs.declared.keys.SqlKey.{SqlKey}
use Rattle.ur_sqltype.specs.Lists.{all_of, repeated}
use Rattle.ur_sqltype.specs.Expression.{is_optional}
use Rattle.ur_sqltype.specs.Table.{type_kind, column_from, place_of, key_of, kind_at}
use Rattle.ur_sqltype.specs.SqltableFaults.{KeyBreaks, key_unknown, key_twice, key_optional, RowBreaks, no_column, column_twice, in_keys, TableBreaks, no_record, in_row}
use Rattle.ur_typed.specs.Project.{written_keys}
use Rattle.ur_typed.specs.Declaring.{Sofar, may_be_defined, argument_out, variant_out, variants_out, with_datatype, shape_out, columns_shape, has_no_option, keyed_shape, full_name, table_out, cookie_out, ConParams, and_con, small_row, con_params_out, all_params_out, head_fits, con_param_fits, heading_out, headings_out, with_head, val_type_out, decl_out, Bodies, world_behind, top_scope, body_scope, datatype_names, group_out, bodies_out, Checked, decls_out, entered, modules_out, entry_by, entry_out, entries_out}
use Rattle.ur_typed.specs.DeclFaults.{form_of, type_of, BreaksDefined, large_con, rows_meet, BreaksArgument, argument_type, argument_moves, BreaksVariants, this_variant, later_variant, BreaksTable, large_table, no_table, BreaksCookie, large_cookie, other_cookie, HasLargeSide, large_left, large_right, behind_kinded, behind_apart, HasLargeParam, this_large, later_large, BreaksHeadParams, this_param, later_param, BreaksHead, side_unkinded, bad_param, result_out_of_place, result_arrow, BreaksHeading, large_side, large_param, large_result, bad_head, BreaksHeadings, this_heading, later_heading, BreaksVal, large_val, bad_val, BreaksDecl, in_con, in_datatype, in_table, in_cookie, in_val, in_functions, GroupHasFault, this_body, later_body, BodiesHaveFault, in_right_side, right_side_moves, in_group, DeclsHaveFault, in_head, in_bodies, in_later_decl, ModulesHaveFault, in_module, in_later_module, BreaksEntry, unknown_entry, val_entry, large_entry, other_entry, no_page, no_link, EntriesHaveFault, this_entry, later_entry, in_modules, in_signature, FaultyProjectIsNone}
use Rattle.ur_typed.specs.DeclFaults as faults
use Rattle.ur_typed_rules.specs.Scopes.{wants}
use Rattle.ur_typed_faults.proofs.Breaches.{FaultySqlIsNone, faulty}
use Rattle.ur_typed_rules.specs.Faults.{Fault}
use Rattle.ur_typed_rules.specs.Rules.{if_so}
use Rattle.ur_typed_rules.proofs.Options.{some_of, first_none, then_none, never, map_none, so_none, so_false, and_left, and_right, second_of, third_of, fourth_of, not_all}
use Rattle.ur_typed_rules.proofs.Written.{con_fails, large_fails, place_fails, written_fails, parameter_fails, type_fails}
use Rattle.ur_tree.specs.declared.exp.Param.{Param}

after_so : {A B : Type 0} (b : Bool) (x : A) (f : A → Option B) → f x ≡ None → option_and_then f (if_so b (Some x)) ≡ None
after_so true x f h = h
after_so false x f h = refl

all_of_none : {A B : Type 0} (f : A → Option B) (xs : List A) (x : A) → In x xs → f x ≡ None → all_of f xs ≡ None
all_of_none f [] x i h = absurd i
all_of_none f (y ∷ ys) x (inl e) h = first_none _ (f y) (ap f e ∙ h)
all_of_none f (y ∷ ys) x (inr i) h = never (λ a. option_map (λ rest. a ∷ rest) (all_of f ys)) (f y) (λ a. map_none (λ rest. a ∷ rest) (all_of f ys) (all_of_none f ys x i h))

given_step : {A B : Type 0} (f : A → Option B) (xs : List A) (x : A) (y : B) (a : A) → ((bs : List B) → In x xs → all_of f xs ≡ Some bs → In y bs) → f x ≡ Some y → (a ≡ x) ⊎ In x xs → (o : Option B) → f a ≡ o → (r : Option (List B)) → all_of f xs ≡ r → (zs : List B) →
    option_and_then (λ b. option_map (λ rest. b ∷ rest) r) o ≡ Some zs → In y zs
given_step f xs x y a rec h i None eo r er zs k = cc
given_step f xs x y a rec h i (Some b) eo None er zs k = cc
given_step {A} {B} f xs x y a rec h (inl e) (Some b) eo (Some bs) er zs k = subst (λ (z : List B). In y z) (some_of k) (inl (some_of (sym eo ∙ (ap f e ∙ h))))
given_step {A} {B} f xs x y a rec h (inr j) (Some b) eo (Some bs) er zs k = subst (λ (z : List B). In y z) (some_of k) (inr (rec bs j er))

-- what one of a list gives stands in what all of it give
given_in : {A B : Type 0} (f : A → Option B) (xs : List A) (x : A) (y : B) (zs : List B) → In x xs → f x ≡ Some y → all_of f xs ≡ Some zs → In y zs
given_in f [] x y zs i h g = absurd i
given_in f (a ∷ xs) x y zs i h g = given_step f xs x y a (λ bs j e. given_in f xs x y bs j h e) h i (f a) refl (all_of f xs) refl zs g

-- ---- types and datatypes

defined_false : (most : ℕ) (z : Sofar) (c : Con) (f : Fault) → BreaksDefined most z c f → may_be_defined most z c ≡ false
defined_false most z c _ (large_con h) = and_left _ _ h
defined_false most z c f (rows_meet b) = and_right _ _ (con_fails nothing_in_scope c (form_of z c) f b)

argument_none : (most : ℕ) (z : Sofar) (c : Con) (f : Fault) → BreaksArgument most z c f → argument_out most z c ≡ None
argument_none most z c f (argument_type b) = first_none _ _ (type_fails (world_behind most z) (top_scope z) c f b)
argument_none most z c _ (argument_moves h) = after_so _ (type_of z c) (λ t. if_so (is_value_type t) (Some t)) (so_false _ _ h)

variant_none : (most datatype : ℕ) (x : List ℕ) (k : Option Con) (c : Con) (z : Sofar) (f : Fault) → k ≡ Some c → BreaksArgument most z c f → variant_out most datatype x k z ≡ None
variant_none most datatype x k c z f e b = ap (λ k'. variant_out most datatype x k' z) e ∙ map_none _ _ (argument_none most z c f b)

variants_none : (most datatype : ℕ) (vs : List WrittenVariant) (z : Sofar) (f : Fault) → BreaksVariants most datatype vs z f → variants_out most datatype vs z ≡ None
variants_none most datatype _ _ f (this_variant {v = v} {vs = vs} {c = c} {z = z} e b) = first_none _ _ (variant_none most datatype v.name v.con c z f e b)
variants_none most datatype _ _ f (later_variant {v = v} {vs = vs} {z = z} {y = y} e b) = then_none _ _ y e (variants_none most datatype vs y f b)

-- ---- tables and cookies

twice_none : (name : List ℕ) (keys : List SqlKey) (columns : List (List ℕ × ColumnKind)) (key : SqlKey) (places : List ℕ) (n : ℕ) → In key keys → key_of columns key ≡ Some places → repeated nat_eq places ≡ Some n → (o : Option (List (List ℕ))) → all_of (key_of columns) keys ≡ o →
    option_and_then (keyed_shape name keys columns) o ≡ None
twice_none name keys columns key places n i e t None eo = refl
twice_none name keys columns key places n i e t (Some pss) eo = so_false _ _ (not_all (λ k. is_none (repeated nat_eq k)) places pss (given_in (key_of columns) keys key places pss i e eo) (ap is_none t))

option_none : (name : List ℕ) (keys : List SqlKey) (columns : List (List ℕ × ColumnKind)) (key : SqlKey) (places : List ℕ) (n : ℕ) → In key keys →
    key_of columns key ≡ Some places → In n places → is_optional (kind_at columns n) ≡ true → (o : Option (List (List ℕ))) →
    all_of (key_of columns) keys ≡ o →
    option_and_then (keyed_shape name keys columns) o ≡ None
option_none name keys columns key places n i e c q None eo = refl
option_none name keys columns key places n i e c q (Some pss) eo =
    so_none _ _ (so_false _ _ (not_all (has_no_option columns) places pss (given_in (key_of columns) keys key places pss i e eo)
    (not_all (λ m. not (is_optional (kind_at columns m))) n places c (ap not q))))

key_none : (name : List ℕ) (keys : List SqlKey) (columns : List (List ℕ × ColumnKind)) (key : SqlKey) (r : Refusal) → In key keys → KeyBreaks columns key.columns r → option_and_then (keyed_shape name keys columns) (all_of (key_of columns) keys) ≡ None
key_none name keys columns key r i (key_unknown a c n) = first_none _ _ (all_of_none (key_of columns) keys key i (all_of_none (place_of columns) key.columns a (in-contains a key.columns c) n.none))
key_none name keys columns key r i (key_twice places n e t s) = twice_none name keys columns key places n i e t (all_of (key_of columns) keys) refl
key_none name keys columns key r i (key_optional places n e o c q s) =
    option_none name keys columns key places n i e (in-contains n places c) q (all_of (key_of columns) keys) refl

row_none : (name : List ℕ) (keys : List SqlKey) (names : List (List ℕ)) (row : List RowPart) (r : Refusal) → RowBreaks names row keys r → option_and_then (columns_shape name keys) (all_of column_from row) ≡ None
row_none name keys names row r (no_column n) = first_none _ _ (all_of_none column_from row n.place (in-contains n.place row n.stands) n.fault.none)
row_none name keys names row r (column_twice columns a h e s) = then_none _ _ columns h (so_false _ _ (ap is_none e))
row_none name keys names row r (in_keys columns h k) = then_none _ _ columns h (so_none _ _ (key_none name keys columns k.key r (in-contains k.key keys k.stands) k.fault))

shape_none : (name : List ℕ) (keys : List SqlKey) (names : List (List ℕ)) (t : NormalType) (r : Refusal) → TableBreaks names (normal.Type t) keys r → shape_out name keys t ≡ None
shape_none name keys names t r (no_record h s) = first_none _ _ h
shape_none name keys names t r (in_row row h b) = then_none _ _ row h (row_none name keys names row r b)

table_none : (most : ℕ) (x : List ℕ) (z : Sofar) (c : Con) (primary : Option (List (List ℕ))) (cs : List Constraint) (f : Fault) → BreaksTable most z c primary cs f → table_out most x c primary cs z ≡ None
table_none most x z c primary cs _ (large_table h) = map_none _ _ (first_none _ _ (so_false _ _ h))
table_none most x z c primary cs _ (no_table {r = r} b) = map_none _ _ (after_so _ (type_of z c) (shape_out (full_name z x) (written_keys primary cs)) (shape_none (full_name z x) (written_keys primary cs) (datatype_names z) (type_of z c) r b))

cookie_none : (most : ℕ) (x : List ℕ) (z : Sofar) (c : Con) (f : Fault) → BreaksCookie most z c f → cookie_out most x c z ≡ None
cookie_none most x z c _ (large_cookie h) = map_none _ _ (first_none _ _ (so_false _ _ h))
cookie_none most x z c _ (other_cookie h) = map_none _ _ (after_so _ (type_of z c) type_kind h)

-- ---- heads of functions and `val`s

sides_none : (most : ℕ) (names : Names) (ps : List WrittenConParam) → HasLargeSide most names ps → con_params_out most names ps ≡ None
sides_none most names _ (large_left h) = first_none _ _ (so_false _ _ h)
sides_none most names _ (large_right h) = never _ _ (λ r. first_none _ _ (so_false _ _ h))
sides_none most names _ (behind_kinded {ps = ps} l) = map_none _ _ (sides_none most _ ps l)
sides_none most names _ (behind_apart {c = c} {d = d} {ps = ps} l) =
    never {A = List RowPart} {B = ConParams} (λ r. option_and_then (λ s. option_map (and_con (con_param.Apart r s)) (con_params_out most names ps)) (small_row most (nf names.cons d))) (small_row most (nf names.cons c))
    (λ r. never {A = List RowPart} {B = ConParams} (λ s. option_map (and_con (con_param.Apart r s)) (con_params_out most names ps)) (small_row most (nf names.cons d)) (λ s. map_none (and_con (con_param.Apart r s)) (con_params_out most names ps) (sides_none most names ps l)))

large_none : (most : ℕ) (names : Names) (ps : List WrittenParam) → HasLargeParam most names ps → all_params_out most names ps ≡ None
large_none most names _ (this_large {p = p} h) = first_none _ _ (large_fails most names p h)
large_none most names _ (later_large {ps = ps} l) = never _ _ (λ q. map_none _ _ (large_none most names ps l))

abbrev sides_fit : Head → Bool
sides_fit h = list_all (con_param_fits (within_head h)) h.cons

abbrev params_fit : Head → Bool
params_fit h = are_params (within_head h) h.params

abbrev no_arrow : Head → Bool
no_arrow h = not (holds_arrow h.result)

result_false : (h : Head) → is_type (within_head h) h.result ≡ false → head_fits h ≡ false
result_false h e = third_of (sides_fit h) (params_fit h) (is_type (within_head h) h.result) (no_arrow h) e

head_params_false : (env : Env) (ls : List WrittenParam) (ps : List Param) (f : Fault) → BreaksHeadParams env ls ps f → are_params env ps ≡ false
head_params_false env _ _ f (this_param {l = l} {p = p} b) = and_left _ _ (written_fails env l p.of f b)
head_params_false env _ _ f (later_param {ls = ls} {ps = ps} b) = and_right _ _ (head_params_false env ls ps f b)

head_false : (texts : List (List ℕ)) (f : FunDef) (h : Head) (c : Fault) → BreaksHead texts f h c → head_fits h ≡ false
head_false texts f h _ (side_unkinded {r = r} {s = s} i e) =
    and_left (sides_fit h) (params_fit h && (is_type (within_head h) h.result && no_arrow h)) (not_all (con_param_fits (within_head h)) (con_param.Apart r s) h.cons (in-contains (con_param.Apart r s) h.cons i) e)
head_false texts f h c (bad_param b) = second_of (sides_fit h) (params_fit h) (is_type (within_head h) h.result && no_arrow h) (head_params_false (within_head h) f.params h.params c b)
head_false texts f h c (result_out_of_place b) = result_false h (place_fails (within_head h) f.result h.result c b)
head_false texts f h _ (result_arrow e) = fourth_of (sides_fit h) (params_fit h) (is_type (within_head h) h.result) (no_arrow h) (ap not e)

heading_none : (texts : List (List ℕ)) (most : ℕ) (names : Names) (f : FunDef) (c : Fault) → BreaksHeading texts most names f c → heading_out most names f ≡ None
heading_none texts most names f _ (large_side l) = first_none _ _ (first_none _ _ (sides_none most names f.con_params l))
heading_none texts most names f _ (large_param {c = c} e l) = first_none _ _ (then_none _ _ c e (first_none _ _ (large_none most c.0 f.params l)))
heading_none texts most names f _ (large_result {c = c} e h) = first_none _ _ (then_none _ _ c e (never _ _ (λ ps. map_none _ _ (so_false _ _ h))))
heading_none texts most names f c (bad_head {h = h} e b) = then_none _ _ h e (so_false _ _ (head_false texts f h.head c b))

headings_none : (most home : ℕ) (fs : List FunDef) (z : Sofar) (c : Fault) → BreaksHeadings most home fs z c → headings_out most home fs z ≡ None
headings_none most home _ z c (this_heading {f = f} b) = first_none _ _ (heading_none (datatype_names z) most _ f c b)
headings_none most home _ z c (later_heading {f = f} {fs = fs} {h = h} e b) = then_none _ _ h e (headings_none most home fs (with_head home f z h) c b)

val_none : (most : ℕ) (z : Sofar) (c : Con) (f : Fault) → BreaksVal most z c f → val_type_out most c z ≡ None
val_none most z c _ (large_val h) = first_none _ _ (so_false _ _ h)
val_none most z c f (bad_val b) = after_so _ (type_of z c) (λ t. if_so (is_type nothing_in_scope t && is_placed t) (Some t)) (so_false _ _ (parameter_fails nothing_in_scope c (type_of z c) f b))

decl_none : (most home : ℕ) (z : Sofar) (d : DeclForm) (f : Fault) → BreaksDecl most home z d f → decl_out most home d z ≡ None
decl_none most home z _ f (in_con {c = c} b) = so_false _ _ (defined_false most z c f b)
decl_none most home z _ f (faults.in_type {c = c} b) = so_false _ _ (defined_false most z c f b)
decl_none most home z _ f (in_datatype {x = x} {vs = vs} b) = variants_none most _ vs (with_datatype home x z) f b
decl_none most home z _ f (in_table {x = x} {c = c} {primary = primary} {cs = cs} b) = table_none most x z c primary cs f b
decl_none most home z _ f (in_cookie {x = x} {c = c} b) = cookie_none most x z c f b
decl_none most home z _ f (in_val {x = x} {c = c} b) = map_none _ _ (val_none most z c f b)
decl_none most home z _ f (in_functions {fs = fs} b) = headings_none most home fs z f b

-- ---- bodies and modules

group_none : FaultySqlIsNone → (most : ℕ) (z : Sofar) (r : Refusal) (fs : List FunDef) (b : Bodies) → GroupHasFault most z r fs b → group_out most z fs b ≡ None
group_none sql most z r _ _ (this_body {f = f} {b = b} {h = h} e g) = first_none _ _ (then_none _ _ h e (map_none _ _ (faulty sql (datatype_names z) (world_behind most z) (body_scope h) b.sites f.body.form (wants h.head.result) r g)))
group_none sql most z r _ _ (later_body {fs = fs} {y = y} e g) = then_none _ _ y e (group_none sql most z r fs y g)

bodies_none : FaultySqlIsNone → (most : ℕ) (z after : Sofar) (b : Bodies) (r : Refusal) (d : DeclForm) → BodiesHaveFault most z after b r d → bodies_out most d z after b ≡ None
bodies_none sql most z after b r _ (in_right_side {e = e} {t = t} h g) = then_none _ _ t h (first_none _ _ (faulty sql (datatype_names z) (world_behind most z) (top_scope z) b.sites e.form (wants t) r g))
bodies_none sql most z after b r _ (right_side_moves {t = t} {o = o} h g e s) = then_none _ _ t h (then_none _ _ o g (so_false _ _ e))
bodies_none sql most z after b r _ (in_group {fs = fs} g) = group_none sql most after r fs b g

decls_none : FaultySqlIsNone → (most home : ℕ) (r : Refusal) (ds : List Decl) (p : Checked) → DeclsHaveFault most home r ds p → decls_out most home ds p ≡ None
decls_none sql most home r _ p (in_head {d = d} {f = f} b s) = first_none _ _ (decl_none most home p.0 d.form f b)
decls_none sql most home r _ p (in_bodies {d = d} {after = after} e g) = then_none _ _ after e (first_none _ _ (bodies_none sql most p.0 after p.1 r d.form g))
decls_none sql most home r _ p (in_later_decl {ds = ds} {after = after} {b = b} e g l) = then_none _ _ after e (then_none _ _ b g (decls_none sql most home r ds (after, b) l))

modules_none : FaultySqlIsNone → (most : ℕ) (r : Refusal) (n : ℕ) (names : List (List ℕ)) (modules : List Module) (p : Checked) → ModulesHaveFault most r n names modules p → modules_out most n names modules p ≡ None
modules_none sql most r n _ _ p (in_module {m = m} {x = x} g) = first_none _ _ (decls_none sql most n r x.decls (entered m p) g)
modules_none sql most r n _ _ p (in_later_module {names = names} {modules = modules} {q = q} e g) = then_none _ _ q e (modules_none sql most r _ names modules q g)

-- ---- the signature

entry_none : (most : ℕ) (z : Sofar) (v : ValDecl) (f : Fault) → BreaksEntry most z v f → entry_out most z v ≡ None
entry_none most z v _ (unknown_entry h) = ap (entry_by most z v.con) h
entry_none most z v _ (val_entry h) = ap (entry_by most z v.con) h
entry_none most z v _ (large_entry h e) = ap (entry_by most z v.con) h ∙ so_false _ _ e
entry_none most z v _ (other_entry {g = g} h i e) = ap (entry_by most z v.con) h ∙ so_none _ _ (then_none _ _ g i (so_false _ _ (and_left _ _ e)))
entry_none most z v _ (no_page {g = g} h i e) = ap (entry_by most z v.con) h ∙ so_none _ _ (then_none _ _ g i (so_false _ _ (and_right _ _ (and_left _ _ e))))
entry_none most z v _ (no_link {g = g} h i e) = ap (entry_by most z v.con) h ∙ so_none _ _ (then_none _ _ g i (so_false _ _ (and_right _ _ (and_right _ _ e))))

entries_none : (most : ℕ) (z : Sofar) (r : Refusal) (vs : List ValDecl) → EntriesHaveFault most z r vs → all_of (entry_out most z) vs ≡ None
entries_none most z r _ (this_entry {v = v} {f = f} b s) = first_none _ _ (entry_none most z v f b)
entries_none most z r _ (later_entry {vs = vs} {n = n} e g) = then_none _ _ n e (map_none _ _ (entries_none most z r vs g))

pub project_none : FaultySqlIsNone → FaultyProjectIsNone
project_none sql most start names modules signature r (in_modules g) = first_none _ _ (modules_none sql most r 0 names modules start g)
project_none sql most start names modules signature r (in_signature {s = s} {p = p} e h g) = then_none _ _ p h (map_none _ _ (ap (entries_out most p.0 _) e ∙ entries_none most p.0 r s.vals g))
