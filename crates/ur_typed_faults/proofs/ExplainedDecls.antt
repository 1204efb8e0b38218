-- Where a project has no typed source there is a fault: declarations, bodies, modules and the signature.
use Rattle.std.proofs.Common.{inl, inr, ◌≡◌, ◌∙◌, refl, sym, ap, subst, true, false, true≢false, Option, Some, None, List, [], ◌∷◌, ℕ, ◌+◌}
use Rattle.std.specs.Prelude.{◌&&◌, not, nat_le, pred, length, codes, option_map, option_and_then, slice_get}
use Rattle.std.specs.List.{list_all}
use Rattle.ur_base.specs.declared.refusal.Refusal.{Refusal}
use Rattle.ur_syntax.specs.Names.{looked_up}
use Rattle.ur_syntax.specs.declared.con.ConName.{ConName}
use Rattle.ur_syntax.specs.declared.kind.Kind.TheVariants as kind
use Rattle.ur_syntax.specs.declared.con.Con.{Con}
use Rattle.ur_syntax.specs.declared.con.ConParam.{ConParam as WrittenConParam}
use Rattle.ur_syntax.specs.declared.con.ConParam.TheVariants as written_con
use Rattle.ur_syntax.specs.declared.decl.Variant.{Variant as WrittenVariant}
use Rattle.ur_syntax.specs.declared.decl.FunDef.{FunDef}
use Rattle.ur_syntax.specs.declared.decl.Decl.{Decl}
use Rattle.ur_syntax.specs.declared.decl.DeclForm.{DeclForm}
use Rattle.ur_syntax.specs.declared.decl.DeclForm.TheVariants as decl
use Rattle.ur_syntax.specs.declared.decl.Module.{Module}
use Rattle.ur_syntax.specs.declared.decl.Signature.{Signature}
use Rattle.ur_syntax.specs.declared.decl.ValDecl.{ValDecl}
use Rattle.ur_syntax.specs.declared.exp.ExpForm.{ExpForm}
use Rattle.ur_syntax.specs.declared.exp.Exp.{Exp as WrittenExp}
use Rattle.ur_syntax.specs.declared.exp.Param.{Param as WrittenParam}
use Rattle.ur_values.specs.declared.schema.ColumnKind.{ColumnKind}
use Rattle.ur_values.specs.declared.schema.TableShape.{TableShape}
use Rattle.ur_rows.specs.declared.normal.Normal.{Normal}
use Rattle.ur_rows.specs.declared.normal.NormalType.{NormalType}
use Rattle.ur_rows.specs.declared.normal.Part.{Part as RowPart}
use Rattle.ur_rows.specs.Nodes.{nodes}
use Rattle.ur_rows.specs.Normal.{nf}
use Rattle.ur_rows.specs.Put.{as_row}
use Rattle.ur_rows.specs.Types.{holds_arrow, is_placed}
use Rattle.ur_disjoint.proofs.Members.{In, contains-in}
use Rattle.ur_tree.specs.declared.exp.Param.{Param}
use Rattle.ur_tree.specs.declared.typed.ConParam.{ConParam}
use Rattle.ur_tree.specs.declared.typed.ConParam.TheVariants as con_param
use Rattle.ur_tree.specs.Heads.{Head, function_type}
use Rattle.ur_tree.specs.Env.{Env}
use Rattle.ur_tree.specs.App.{nothing_in_scope, within_head}
use Rattle.ur_tree.specs.IsStatic.{is_static}
use Rattle.ur_tree.specs.Typing.{are_linkable, types_of}
use Rattle.ur_typed_rules.specs.Names.{Local, Names, Declared as DeclaredAs, with_con, function, val}
use Rattle.ur_typed_rules.specs.Scopes.{World, Scope, Mode, wants}
use Rattle.ur_typed_rules.specs.Tests.{same_type, is_type, is_param, are_params, is_page}
use Rattle.ur_sqltype.specs.Lists.{all_of}
use Rattle.ur_sqltype.specs.Table.{type_kind}
use Rattle.ur_typed.specs.Rules.{Sites, Out}
use Rattle.ur_typed.specs.Walking.{typed}
use Rattle.ur_typed.specs.Causes.{HasFault}
use Rattle.ur_typed.specs.Project.{env_at, names_at, at, written_keys}
use Rattle.ur_typed.specs.Typed.{nothing_declared}
use Rattle.ur_typed.specs.Declaring.{FunctionHead, Sofar, world_behind, top_scope, datatype_names, with_datatype, with_defined, may_be_defined, with_constructor, argument_out, variant_out, variants_out, full_name, shape_out, with_shape, with_named_cookie, ConParams, and_con, small_row, con_params_out, all_params_out, Heading, heading, con_param_fits, head_fits, fitting, resulting, written_heading, heading_out, with_head, headings_out, val_type_out, with_val_of, decl_out, Bodies, body_scope, with_body, with_val_body, body_out, group_out, val_body_out, bodies_out, Checked, decls_out, entered, modules_out, is_entry, is_signed, entry_by, entry_out, entries_out, ended, nothing_yet}
use Rattle.ur_typed.specs.DeclFaults.{form_of, type_of, BreaksDefined, BreaksVariants, BreaksTable, BreaksCookie, HasLargeSide, large_left, large_right, behind_kinded, behind_apart, HasLargeParam, this_large, later_large, BreaksHeadParams, this_param, later_param, BreaksHead, side_unkinded, bad_param, result_out_of_place, result_arrow, BreaksHeading, large_side, large_param, large_result, bad_head, BreaksHeadings, this_heading, later_heading, BreaksVal, large_val, bad_val, BreaksDecl, in_con, in_datatype, in_table, in_cookie, in_val, in_functions, names_within, GroupHasFault, this_body, later_body, BodiesHaveFault, in_right_side, right_side_moves, in_group, DeclsHaveFault, in_head, in_bodies, in_later_decl, ModulesHaveFault, in_module, in_later_module, BreaksEntry, unknown_entry, val_entry, large_entry, other_entry, no_page, no_link, EntriesHaveFault, this_entry, later_entry, ProjectHasFault, in_modules, in_signature}
use Rattle.ur_typed.specs.DeclFaults as faults
use Rattle.ur_typed_rules.specs.Faults.{Fault, TellsType, not_so}
use Rattle.ur_typed_rules.specs.Arguments.{BreaksPlace, BreaksParameter, BreaksWritten}
use Rattle.ur_typed_rules.specs.Rules.{if_so, Params, and_params, small_type, param_out}
use Rattle.ur_typed_rules.proofs.Options.{some_none, some_of, opened, opened_if, mapped, then_none_is, if_none_is, map_none_is, map_none, both_false, not_false, not_all_is}
use Rattle.ur_typed_rules.proofs.Written.{place_broken, parameter_broken, written_broken, large_broken}
use Rattle.ur_typed_faults.specs.Converse.{IsFaulty, Explained, NoneProjectIsFaulty}
use Rattle.ur_typed_faults.proofs.Refusals.{none_is_faulty}
use Rattle.ur_typed_faults.proofs.ExplainedTables.{tell, defined_broken, datatype_broken, table_broken, cookie_broken, small_is, large_is}
use Rattle.ur_typed_faults.proofs.Counted.{IsCounted, world_of, looked_in, head_counted, val_counted, variant_counted, sequence_counted, cookie_counted, defined_counted, datatype_counted, shape_counted, entered_counted, nothing_counted}

-- ---- heads of functions and `val`s

row_large : (most : ℕ) (n : Normal) → small_row most n ≡ None → nat_le (nodes n) most ≡ false
row_large most n h = elim (if_none_is (nat_le (nodes n) most) (Some (as_row n)) h) [ inl a ↦ a | inr z ↦ absurd (some_none z) ]

abbrev with_sides : ℕ → Names → List WrittenConParam → List RowPart → List RowPart → Option ConParams
with_sides most names ps r s = option_map (and_con (con_param.Apart r s)) (con_params_out most names ps)

sides_broken : (most : ℕ) (names : Names) (ps : List WrittenConParam) → con_params_out most names ps ≡ None → HasLargeSide most names ps
sides_broken most names [] h = absurd (some_none h)
sides_broken most names (written_con.Kinded x k ∷ ps) h = behind_kinded (sides_broken most (with_con x k names) ps (map_none_is (and_con (con_param.Kinded k)) (con_params_out most (with_con x k names) ps) h))
sides_broken most names (written_con.Disjoint c d ∷ ps) h = elim (then_none_is (λ r. option_and_then (with_sides most names ps r) (small_row most (nf names.cons d))) (small_row most (nf names.cons c)) h) [
  | inl a ↦ large_left (row_large most (nf names.cons c) a)
  | inr r ↦ elim (then_none_is (with_sides most names ps r.0) (small_row most (nf names.cons d)) r.2) [
    | inl a ↦ large_right (row_large most (nf names.cons d) a)
    | inr s ↦ behind_apart (sides_broken most names ps (map_none_is (and_con (con_param.Apart r.0 s.0)) (con_params_out most names ps) s.2))
  ]
]

all_params_broken : (most : ℕ) (names : Names) (ps : List WrittenParam) → all_params_out most names ps ≡ None → HasLargeParam most names ps
all_params_broken most names [] h = absurd (some_none h)
all_params_broken most names (p ∷ ps) h = elim (then_none_is (λ q. option_map (and_params q) (all_params_out most names ps)) (param_out most names p) h) [
  | inl a ↦ this_large (large_broken most names p a)
  | inr q ↦ later_large (all_params_broken most names ps (map_none_is (and_params q.0) (all_params_out most names ps) q.2))
]

head_params_broken : (env : Env) (most : ℕ) (names : Names) (ls : List WrittenParam) (ps : Params) → all_params_out most names ls ≡ Some ps → are_params env ps.1 ≡ false → (f : Fault) × BreaksHeadParams env ls ps.1 f
head_params_broken env most names [] ps e h = absurd (true≢false (ap (λ (z : Params). are_params env z.1) (some_of e) ∙ h))
head_params_broken env most names (p ∷ ls) ps e h =
    let q : (i : Local × Param) × (param_out most names p ≡ Some i) × (option_map (and_params i) (all_params_out most names ls) ≡ Some ps) = opened _ _ ps e in
    let r : (z : Params) × (all_params_out most names ls ≡ Some z) × (and_params q.0 z ≡ ps) = mapped _ _ ps q.2 in
    subst (λ (z : Params). are_params env z.1 ≡ false → (f : Fault) × BreaksHeadParams env (p ∷ ls) z.1 f) r.2
    (λ k. elim (both_false (is_param env q.0.1) (are_params env r.0.1) k) [
      | inl a ↦ let b : (f : Fault) × BreaksWritten env p q.0.1.of f = written_broken env most names p q.0 q.1 a in (b.0, this_param b.1)
      | inr a ↦ let b : (f : Fault) × BreaksHeadParams env ls r.0.1 f = head_params_broken env most names ls r.0 r.1 a in (b.0, later_param b.1)
    ]) h

side_broken : (texts : List (List ℕ)) (f : FunDef) (h : Head) (p : ConParam) → In p h.cons → con_param_fits (within_head h) p ≡ false → (c : Fault) × BreaksHead texts f h c
side_broken texts f h (con_param.Kinded k) i e = absurd (true≢false e)
side_broken texts f h (con_param.Apart r s) i e = (_, side_unkinded (contains-in (con_param.Apart r s) h.cons i) e)

head_broken : (texts : List (List ℕ)) (most : ℕ) (f : FunDef) (c : ConParams) (ps : Params) (t : NormalType) → all_params_out most c.0 f.params ≡ Some ps → head_fits (heading c ps t).head ≡ false → (d : Fault) × BreaksHead texts f (heading c ps t).head d
head_broken texts most f c ps t e h =
    let g : Head = (heading c ps t).head in
    let env : Env = within_head g in
    elim (both_false (list_all (con_param_fits env) c.1) (are_params env ps.1 && (is_type env t && not (holds_arrow t))) h) [
      | inl a ↦ let p : (p : ConParam) × In p c.1 × (con_param_fits env p ≡ false) = not_all_is (con_param_fits env) c.1 a in side_broken texts f g p.0 p.1 p.2
      | inr a ↦ elim (both_false (are_params env ps.1) (is_type env t && not (holds_arrow t)) a) [
        | inl b ↦ let q : (d : Fault) × BreaksHeadParams env f.params ps.1 d = head_params_broken env most c.0 f.params ps e b in (q.0, bad_param q.1)
        | inr b ↦ elim (both_false (is_type env t) (not (holds_arrow t)) b) [
          | inl d ↦ let q : (d : Fault) × BreaksPlace env f.result t d = place_broken env f.result t d in (q.0, result_out_of_place q.1)
          | inr d ↦ (_, result_arrow (not_false (holds_arrow t) d))
        ]
      ]
    ]

-- the parts of a head that is written
record IsHeading (most : ℕ) (names : Names) (f : FunDef) (h : Heading) : Type 0 where
  cons : ConParams
  params : Params
  result : NormalType
  found_cons : con_params_out most names f.con_params ≡ Some cons
  found_params : all_params_out most cons.0 f.params ≡ Some params
  is : heading cons params result ≡ h

heading_of : (most : ℕ) (names : Names) (f : FunDef) (h : Heading) → written_heading most names f ≡ Some h → IsHeading most names f h
heading_of most names f h e =
    let c : (c : ConParams) × (con_params_out most names f.con_params ≡ Some c) × (option_and_then (resulting most f c) (all_params_out most c.0 f.params) ≡ Some h) = opened _ _ h e in
    let p : (p : Params) × (all_params_out most c.0.0 f.params ≡ Some p) × (resulting most f c.0 p ≡ Some h) = opened _ _ h c.2 in
    let t : (t : NormalType) × (small_type most (nf c.0.0.cons f.result) ≡ Some t) × (heading c.0 p.0 t ≡ h) = mapped _ _ h p.2 in
    record { cons = c.0; params = p.0; result = t.0; found_cons = c.1; found_params = p.1; is = t.2 }

heading_broken : (texts : List (List ℕ)) (most : ℕ) (names : Names) (f : FunDef) → heading_out most names f ≡ None → (c : Fault) × BreaksHeading texts most names f c
heading_broken texts most names f h = elim (then_none_is fitting (written_heading most names f) h) [
  | inl a ↦ elim (then_none_is (λ c. option_and_then (resulting most f c) (all_params_out most c.0 f.params)) (con_params_out most names f.con_params) a) [
    | inl b ↦ (_, large_side (sides_broken most names f.con_params b))
    | inr c ↦ elim (then_none_is (resulting most f c.0) (all_params_out most c.0.0 f.params) c.2) [
      | inl b ↦ (_, large_param c.1 (all_params_broken most c.0.0 f.params b))
      | inr p ↦ (_, large_result c.1 (large_is most (nf c.0.0.cons f.result) (map_none_is (heading c.0 p.0) (small_type most (nf c.0.0.cons f.result)) p.2)))
    ]
  ]
  | inr g ↦ elim (if_none_is (head_fits g.0.head) (Some g.0) g.2) [
    | inl a ↦
        let i : IsHeading most names f g.0 = heading_of most names f g.0 g.1 in
        let b : (d : Fault) × BreaksHead texts f g.0.head d = subst (λ (z : Heading). head_fits z.head ≡ false → (d : Fault) × BreaksHead texts f z.head d) i.is (λ k. head_broken texts most f i.cons i.params i.result i.found_params k) a in
        (b.0, bad_head g.1 b.1)
    | inr n ↦ absurd (some_none n)
  ]
]

headings_broken : (most home : ℕ) (fs : List FunDef) (z : Sofar) → headings_out most home fs z ≡ None → (c : Fault) × BreaksHeadings most home fs z c
headings_broken most home [] z h = absurd (some_none h)
headings_broken most home (f ∷ fs) z h = elim (then_none_is (λ g. headings_out most home fs (with_head home f z g)) (heading_out most (names_at z.place) f) h) [
  | inl a ↦ let b : (c : Fault) × BreaksHeading (datatype_names z) most (names_at z.place) f c = heading_broken (datatype_names z) most (names_at z.place) f a in (b.0, this_heading b.1)
  | inr g ↦ let b : (c : Fault) × BreaksHeadings most home fs (with_head home f z g.0) c = headings_broken most home fs (with_head home f z g.0) g.2 in (b.0, later_heading g.1 b.1)
]

val_broken : (most : ℕ) (z : Sofar) (c : Con) → val_type_out most c z ≡ None → (f : Fault) × BreaksVal most z c f
val_broken most z c h = elim (then_none_is (λ (t : NormalType). if_so (is_type nothing_in_scope t && is_placed t) (Some t)) (small_type most (nf (env_at z.place) c)) h) [
  | inl a ↦ (_, large_val (large_is most (form_of z c) a))
  | inr t ↦ elim (if_none_is (is_type nothing_in_scope t.0 && is_placed t.0) (Some t.0) t.2) [
    | inl a ↦
        let e : t.0 ≡ type_of z c = small_is most (form_of z c) t.0 t.1 in
        let b : (f : Fault) × BreaksParameter nothing_in_scope c (type_of z c) f = parameter_broken nothing_in_scope c (type_of z c) (subst (λ u. (is_type nothing_in_scope u && is_placed u) ≡ false) e a) in (b.0, bad_val b.1)
    | inr n ↦ absurd (some_none n)
  ]
]

-- ---- declarations

decl_broken : (most home : ℕ) (d : DeclForm) (z : Sofar) → decl_out most home d z ≡ None → (f : Fault) × BreaksDecl most home z d f
decl_broken most home (decl.Con x k c) z h = elim (if_none_is (may_be_defined most z c) (Some (with_defined x k c z)) h) [
  | inl a ↦ let b : (f : Fault) × BreaksDefined most z c f = defined_broken most z c a in (b.0, in_con b.1)
  | inr n ↦ absurd (some_none n)
]
decl_broken most home (decl.Type x c) z h = elim (if_none_is (may_be_defined most z c) (Some (with_defined x kind.Star c z)) h) [
  | inl a ↦ let b : (f : Fault) × BreaksDefined most z c f = defined_broken most z c a in (b.0, faults.in_type b.1)
  | inr n ↦ absurd (some_none n)
]
decl_broken most home (decl.Datatype x vs) z h = let b : (f : Fault) × BreaksVariants most z.place.datatypes vs (with_datatype home x z) f = datatype_broken most z.place.datatypes vs (with_datatype home x z) h in (b.0, in_datatype b.1)
decl_broken most home (decl.Table x c primary cs) z h = let b : (f : Fault) × BreaksTable most z c primary cs f = table_broken most x z c primary cs h in (b.0, in_table b.1)
decl_broken most home (decl.Sequence x) z h = absurd (some_none h)
decl_broken most home (decl.Cookie x c) z h = let b : (f : Fault) × BreaksCookie most z c f = cookie_broken most x z c h in (b.0, in_cookie b.1)
decl_broken most home (decl.Val x c e) z h = let b : (f : Fault) × BreaksVal most z c f = val_broken most z c (map_none_is (with_val_of x z) (val_type_out most c z) h) in (b.0, in_val b.1)
decl_broken most home (decl.Fun fs) z h = let b : (f : Fault) × BreaksHeadings most home fs z f = headings_broken most home fs z h in (b.0, in_functions b.1)

-- ---- what is declared stays counted

variants_counted : (most datatype : ℕ) (vs : List WrittenVariant) (z y : Sofar) → variants_out most datatype vs z ≡ Some y → IsCounted z → IsCounted y
variants_counted most datatype [] z y h k = subst IsCounted (some_of h) k
variants_counted most datatype (v ∷ vs) z y h k =
    let q : (x : Sofar) × (variant_out most datatype v.name v.con z ≡ Some x) × (variants_out most datatype vs x ≡ Some y) = opened _ _ y h in
    variants_counted most datatype vs q.0 y q.2 (one_counted v.con q.0 q.1)
  where
    one_counted : (c : Option Con) (x : Sofar) → variant_out most datatype v.name c z ≡ Some x → IsCounted x
    one_counted None x e = subst IsCounted (some_of e) (variant_counted datatype v.name None z k)
    one_counted (Some c) x e =
        let r : (t : NormalType) × (argument_out most z c ≡ Some t) × (with_constructor datatype v.name (Some t) z ≡ x) = mapped _ _ x e in
        subst IsCounted r.2 (variant_counted datatype v.name (Some r.0) z k)

headings_counted : (most home : ℕ) (fs : List FunDef) (z y : Sofar) → headings_out most home fs z ≡ Some y → IsCounted z → IsCounted y
headings_counted most home [] z y h k = subst IsCounted (some_of h) k
headings_counted most home (f ∷ fs) z y h k =
    let q : (g : Heading) × (heading_out most (names_at z.place) f ≡ Some g) × (headings_out most home fs (with_head home f z g) ≡ Some y) = opened _ _ y h in
    headings_counted most home fs (with_head home f z q.0) y q.2 (head_counted home f z q.0 k)

decl_counted : (most home : ℕ) (d : DeclForm) (z y : Sofar) → decl_out most home d z ≡ Some y → IsCounted z → IsCounted y
decl_counted most home (decl.Con x j c) z y h k = let q : (may_be_defined most z c ≡ true) × (Some (with_defined x j c z) ≡ Some y) = opened_if (may_be_defined most z c) (Some (with_defined x j c z)) y h in subst IsCounted (some_of q.1) (defined_counted x j c z k)
decl_counted most home (decl.Type x c) z y h k = let q : (may_be_defined most z c ≡ true) × (Some (with_defined x kind.Star c z) ≡ Some y) = opened_if (may_be_defined most z c) (Some (with_defined x kind.Star c z)) y h in subst IsCounted (some_of q.1) (defined_counted x kind.Star c z k)
decl_counted most home (decl.Datatype x vs) z y h k = variants_counted most z.place.datatypes vs (with_datatype home x z) y h (datatype_counted home x z k)
decl_counted most home (decl.Table x c primary cs) z y h k =
    let q : (s : TableShape) × (option_and_then (shape_out (full_name z x) (written_keys primary cs)) (small_type most (nf (env_at z.place) c)) ≡ Some s) × (with_shape z s ≡ y) = mapped _ _ y h in subst IsCounted q.2 (shape_counted z q.0 k)
decl_counted most home (decl.Sequence x) z y h k = subst IsCounted (some_of h) (sequence_counted x z k)
decl_counted most home (decl.Cookie x c) z y h k =
    let q : (t : ColumnKind) × (option_and_then type_kind (small_type most (nf (env_at z.place) c)) ≡ Some t) × (with_named_cookie x z t ≡ y) = mapped _ _ y h in subst IsCounted q.2 (cookie_counted x z q.0 k)
decl_counted most home (decl.Val x c e) z y h k = let q : (t : NormalType) × (val_type_out most c z ≡ Some t) × (with_val_of x z t ≡ y) = mapped _ _ y h in subst IsCounted q.2 (val_counted x z q.0 k)
decl_counted most home (decl.Fun fs) z y h k = headings_counted most home fs z y h k

-- ---- bodies

told_fault : {names : List (List ℕ)} {w : World} {s : Scope} {st : Sites} {x : ExpForm} {m : Mode} → IsFaulty names w s st x m → (r : Refusal) × HasFault names w s st x m r
told_fault {names} i = let t : (r : Refusal) × TellsType names r i.fault = tell names i.fault in
    (t.0, record { fault = i.fault; scope = i.scope; behind = i.behind; place = i.place; mode = i.mode; stands = i.stands; broken = i.broken; told = t.1 })

-- each head of a group may be written where the names are these
abbrev HeadingsFit : ℕ → Names → List FunDef → Type 0
HeadingsFit most names [] = Unit {0}
HeadingsFit most names (f ∷ fs) = ((h : Heading) × (heading_out most names f ≡ Some h)) × HeadingsFit most names fs

-- the heads of functions change no constructor in scope
headings_fit : (most home : ℕ) (fs : List FunDef) (z y : Sofar) → headings_out most home fs z ≡ Some y → HeadingsFit most (names_at z.place) fs × (names_at z.place ≡ names_at y.place)
headings_fit most home [] z y h = (tt, ap (λ (x : Sofar). names_at x.place) (some_of h))
headings_fit most home (f ∷ fs) z y h =
    let q : (g : Heading) × (heading_out most (names_at z.place) f ≡ Some g) × (headings_out most home fs (with_head home f z g) ≡ Some y) = opened _ _ y h in
    let r : HeadingsFit most (names_at z.place) fs × (names_at z.place ≡ names_at y.place) = headings_fit most home fs (with_head home f z q.0) y q.2 in
    (((q.0, q.1), r.0), r.1)

abbrev Typings : ℕ → Sofar → Type 0
Typings most z = (x : ExpForm) → Explained (datatype_names z) (world_behind most z) x

group_faulty : (most : ℕ) (z : Sofar) → Typings most z → (fs : List FunDef) → HeadingsFit most (names_at z.place) fs → (b : Bodies) → group_out most z fs b ≡ None → (r : Refusal) × GroupHasFault most z r fs b
group_faulty most z k [] hs b h = absurd (some_none h)
group_faulty most z k (f ∷ fs) hs b h = elim (then_none_is (group_out most z fs) (option_and_then (body_out most z f b) (heading_out most (names_at z.place) f)) h) [
  | inl a ↦ elim (then_none_is (body_out most z f b) (heading_out most (names_at z.place) f) a) [
    | inl n ↦ absurd (some_none (sym hs.0.1 ∙ n))
    | inr g ↦
        let r : (r : Refusal) × HasFault (datatype_names z) (world_behind most z) (body_scope g.0) b.sites f.body.form (wants g.0.head.result) r =
        told_fault (k f.body.form (body_scope g.0) b.sites (wants g.0.head.result) (map_none_is (with_body b) (typed (world_behind most z) f.body.form (body_scope g.0) b.sites (wants g.0.head.result)) g.2)) in
        (r.0, this_body g.1 r.1)
  ]
  | inr y ↦ let r : (r : Refusal) × GroupHasFault most z r fs y.0 = group_faulty most z k fs hs.1 y.0 y.2 in (r.0, later_body y.1 r.1)
]

right_side_faulty : (most : ℕ) (z after : Sofar) → Typings most z → (x : List ℕ) (c : Con) (e : WrittenExp) (b : Bodies) (t : NormalType) → val_type_out most c z ≡ Some t → val_body_out most z e.form b t ≡ None → (r : Refusal) × BodiesHaveFault most z after b r (decl.Val x c e)
right_side_faulty most z after k x c e b t et h = elim (then_none_is (λ (o : Out). if_so (is_static o.exp) (Some (with_val_body b o))) (typed (world_behind most z) e.form (top_scope z) b.sites (wants t)) h) [
  | inl a ↦
      let r : (r : Refusal) × HasFault (datatype_names z) (world_behind most z) (top_scope z) b.sites e.form (wants t) r = told_fault (k e.form (top_scope z) b.sites (wants t) a) in
      (r.0, in_right_side et r.1)
  | inr o ↦ elim (if_none_is (is_static o.0.exp) (Some (with_val_body b o.0)) o.2) [
    | inl a ↦
        let r : (r : Refusal) × TellsType (datatype_names z) r (not_so (codes "the right side of a val") (codes "a static expression")) = tell (datatype_names z) (not_so (codes "the right side of a val") (codes "a static expression")) in
        (r.0, right_side_moves et o.1 a r.1)
    | inr n ↦ absurd (some_none n)
  ]
]

bodies_faulty : (most home : ℕ) (d : DeclForm) (z after : Sofar) → Typings most z → Typings most after → decl_out most home d z ≡ Some after → (b : Bodies) → bodies_out most d z after b ≡ None → (r : Refusal) × BodiesHaveFault most z after b r d
bodies_faulty most home (decl.Val x c e) z after k l ed b h = elim (then_none_is (val_body_out most z e.form b) (val_type_out most c z) h) [
  | inl a ↦ absurd (some_none (sym ed ∙ map_none (with_val_of x z) (val_type_out most c z) a))
  | inr t ↦ right_side_faulty most z after k x c e b t.0 t.1 t.2
]
bodies_faulty most home (decl.Fun fs) z after k l ed b h =
    let f : HeadingsFit most (names_at z.place) fs × (names_at z.place ≡ names_at after.place) = headings_fit most home fs z after ed in
    let r : (r : Refusal) × GroupHasFault most after r fs b = group_faulty most after l fs (subst (λ n. HeadingsFit most n fs) f.1 f.0) b h in (r.0, in_group r.1)
bodies_faulty most home (decl.Con x j c) z after k l ed b h = absurd (some_none h)
bodies_faulty most home (decl.Type x c) z after k l ed b h = absurd (some_none h)
bodies_faulty most home (decl.Datatype x vs) z after k l ed b h = absurd (some_none h)
bodies_faulty most home (decl.Table x c primary cs) z after k l ed b h = absurd (some_none h)
bodies_faulty most home (decl.Sequence x) z after k l ed b h = absurd (some_none h)
bodies_faulty most home (decl.Cookie x c) z after k l ed b h = absurd (some_none h)

-- ---- modules

typings : (most : ℕ) (z : Sofar) → IsCounted z → Typings most z
typings most z k x = none_is_faulty (datatype_names z) (world_behind most z) (world_of most z k) x

abbrev bodied : ℕ → ℕ → Decl → List Decl → Checked → Sofar → Option Checked
bodied most home d ds p after = option_and_then (λ b. decls_out most home ds (after, b)) (bodies_out most d.form p.0 after p.1)

decls_faulty : (most home : ℕ) (ds : List Decl) (p : Checked) → IsCounted p.0 → decls_out most home ds p ≡ None → (r : Refusal) × DeclsHaveFault most home r ds p
decls_faulty most home [] p k h = absurd (some_none h)
decls_faulty most home (d ∷ ds) p k h = elim (then_none_is (bodied most home d ds p) (decl_out most home d.form p.0) h) [
  | inl a ↦
      let b : (f : Fault) × BreaksDecl most home p.0 d.form f = decl_broken most home d.form p.0 a in
      let t : (r : Refusal) × TellsType (names_within home d.form p.0) r b.0 = tell (names_within home d.form p.0) b.0 in
      (t.0, in_head b.1 t.1)
  | inr after ↦
      let c : IsCounted after.0 = decl_counted most home d.form p.0 after.0 after.1 k in
      elim (then_none_is (λ b. decls_out most home ds (after.0, b)) (bodies_out most d.form p.0 after.0 p.1) after.2) [
        | inl a ↦ let r : (r : Refusal) × BodiesHaveFault most p.0 after.0 p.1 r d.form = bodies_faulty most home d.form p.0 after.0 (typings most p.0 k) (typings most after.0 c) after.1 p.1 a in (r.0, in_bodies after.1 r.1)
        | inr b ↦ let r : (r : Refusal) × DeclsHaveFault most home r ds (after.0, b.0) = decls_faulty most home ds (after.0, b.0) c b.2 in (r.0, in_later_decl after.1 b.1 r.1)
      ]
]

decls_counted : (most home : ℕ) (ds : List Decl) (p q : Checked) → decls_out most home ds p ≡ Some q → IsCounted p.0 → IsCounted q.0
decls_counted most home [] p q h k = subst (λ (z : Checked). IsCounted z.0) (some_of h) k
decls_counted most home (d ∷ ds) p q h k =
    let a : (after : Sofar) × (decl_out most home d.form p.0 ≡ Some after) × (bodied most home d ds p after ≡ Some q) = opened (bodied most home d ds p) (decl_out most home d.form p.0) q h in
    let b : (b : Bodies) × (bodies_out most d.form p.0 a.0 p.1 ≡ Some b) × (decls_out most home ds (a.0, b) ≡ Some q) = opened _ _ q a.2 in
    decls_counted most home ds (a.0, b.0) q b.2 (decl_counted most home d.form p.0 a.0 a.1 k)

modules_faulty : (most n : ℕ) (names : List (List ℕ)) (modules : List Module) (p : Checked) → IsCounted p.0 → modules_out most n names modules p ≡ None → (r : Refusal) × ModulesHaveFault most r n names modules p
modules_faulty most n [] modules p k h = absurd (some_none h)
modules_faulty most n (m ∷ names) [] p k h = absurd (some_none h)
modules_faulty most n (m ∷ names) (x ∷ modules) p k h = elim (then_none_is (modules_out most (n + 1) names modules) (decls_out most n x.decls (entered m p)) h) [
  | inl a ↦ let r : (r : Refusal) × DeclsHaveFault most n r x.decls (entered m p) = decls_faulty most n x.decls (entered m p) (entered_counted m p.0 k) a in (r.0, in_module r.1)
  | inr q ↦ let r : (r : Refusal) × ModulesHaveFault most r (n + 1) names modules q.0 = modules_faulty most (n + 1) names modules q.0 (decls_counted most n x.decls (entered m p) q.0 q.1 (entered_counted m p.0 k)) q.2 in (r.0, in_later_module q.1 r.1)
]

modules_counted : (most n : ℕ) (names : List (List ℕ)) (modules : List Module) (p q : Checked) → modules_out most n names modules p ≡ Some q → IsCounted p.0 → IsCounted q.0
modules_counted most n [] modules p q h k = subst (λ (z : Checked). IsCounted z.0) (some_of h) k
modules_counted most n (m ∷ names) [] p q h k = subst (λ (z : Checked). IsCounted z.0) (some_of h) k
modules_counted most n (m ∷ names) (x ∷ modules) p q h k =
    let a : (y : Checked) × (decls_out most n x.decls (entered m p) ≡ Some y) × (modules_out most (n + 1) names modules y ≡ Some q) = opened _ _ q h in
    modules_counted most (n + 1) names modules a.0 q a.2 (decls_counted most n x.decls (entered m p) a.0 a.1 (entered_counted m p.0 k))

-- ---- the signature

signed_broken : (most : ℕ) (z : Sofar) (v : ValDecl) (n : ℕ) (g : FunctionHead) → looked_up (at z.place v.name) z.place.globals.values ≡ Some (function n) → slice_get z.functions n ≡ Some g → is_signed z v.con g.head ≡ false → (f : Fault) × BreaksEntry most z v f
signed_broken most z v n g el eg h = elim (both_false (same_type (function_type g.head) (type_of z v.con)) (is_entry g.head) h) [
  | inl a ↦ (_, other_entry el eg a)
  | inr a ↦ elim (both_false (is_page g.head) (are_linkable (types_of g.head.params)) a) [ inl b ↦ (_, no_page el eg b) | inr b ↦ (_, no_link el eg b) ]
]

entry_broken : (most : ℕ) (z : Sofar) → IsCounted z → (v : ValDecl) (o : Option DeclaredAs) → looked_up (at z.place v.name) z.place.globals.values ≡ o → entry_by most z v.con o ≡ None → (f : Fault) × BreaksEntry most z v f
entry_broken most z k v None e h = (_, unknown_entry e)
entry_broken most z k v (Some (val n)) e h = (_, val_entry e)
entry_broken most z k v (Some (function n)) e h = elim (if_none_is (nat_le (nodes (form_of z v.con)) most) (option_and_then (λ (g : FunctionHead). if_so (is_signed z v.con g.head) (Some n)) (slice_get z.functions n)) h) [
  | inl a ↦ (_, large_entry e a)
  | inr b ↦ elim (then_none_is (λ (g : FunctionHead). if_so (is_signed z v.con g.head) (Some n)) (slice_get z.functions n) b) [
    | inl a ↦
        let c : (c : ConName) × In (c, function n) z.place.globals.values = looked_in (at z.place v.name) z.place.globals.values (function n) e in
        let g : (g : FunctionHead) × (slice_get z.functions n ≡ Some g) = k.function_there c.0 n c.1 in absurd (some_none (sym g.1 ∙ a))
    | inr g ↦ elim (if_none_is (is_signed z v.con g.0.head) (Some n) g.2) [ inl a ↦ signed_broken most z v n g.0 e g.1 a | inr i ↦ absurd (some_none i) ]
  ]
]

entries_faulty : (most : ℕ) (z : Sofar) → IsCounted z → (vs : List ValDecl) → all_of (entry_out most z) vs ≡ None → (r : Refusal) × EntriesHaveFault most z r vs
entries_faulty most z k [] h = absurd (some_none h)
entries_faulty most z k (v ∷ vs) h = elim (then_none_is (λ n. option_map (λ rest. n ∷ rest) (all_of (entry_out most z) vs)) (entry_out most z v) h) [
  | inl a ↦
      let b : (f : Fault) × BreaksEntry most z v f = entry_broken most z k v (looked_up (at z.place v.name) z.place.globals.values) refl a in
      let t : (r : Refusal) × TellsType (datatype_names z) r b.0 = tell (datatype_names z) b.0 in (t.0, this_entry b.1 t.1)
  | inr n ↦ let r : (r : Refusal) × EntriesHaveFault most z r vs = entries_faulty most z k vs (map_none_is (λ rest. n.0 ∷ rest) (all_of (entry_out most z) vs) n.2) in (r.0, later_entry n.1 r.1)
]

signature_faulty : (most : ℕ) (start : Checked) (names : List (List ℕ)) (modules : List Module) (signature : Option Signature) (p : Checked) → modules_out most 0 names modules start ≡ Some p → IsCounted p.0 → (o : Option Signature) → signature ≡ o → entries_out most p.0 (pred (length names)) o ≡ None →
    (r : Refusal) × ProjectHasFault most start names modules signature r
signature_faulty most start names modules signature p ep k None e h = absurd (some_none h)
signature_faulty most start names modules signature p ep k (Some s) e h = let r : (r : Refusal) × EntriesHaveFault most p.0 r s.vals = entries_faulty most p.0 k s.vals h in (r.0, in_signature e ep r.1)

-- where a project is not typed, there is a fault in it
pub project_faulty : NoneProjectIsFaulty
project_faulty most fields names modules signature h =
    let start : Checked = nothing_yet (nothing_declared fields) in
    let k : IsCounted start.0 = nothing_counted fields in
    elim (then_none_is (λ p. option_map (ended p) (entries_out most p.0 (pred (length names)) signature)) (modules_out most 0 names modules start) h) [
      | inl a ↦ let r : (r : Refusal) × ModulesHaveFault most r 0 names modules start = modules_faulty most 0 names modules start k a in (r.0, in_modules r.1)
      | inr p ↦ signature_faulty most start names modules signature p.0 p.1 (modules_counted most 0 names modules start p.0 p.1 k) signature refl (map_none_is (ended p.0) (entries_out most p.0.0 (pred (length names)) signature) p.2)
    ]
