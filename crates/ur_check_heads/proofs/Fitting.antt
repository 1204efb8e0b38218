-- Whether a head may be written, part by part.
use Rattle.std.proofs.Common.{◌≡◌, arith, refl, ap, ap₂, sym, ◌∙◌, subst, subst₂, inl, inr, ℕ, ◌+◌, ◌<◌, ◌≤◌, Bool, true, false, true≢false, not, ◌&&◌, length, drop, get_or, List, [], ◌∷◌, ◌++◌, map, append-nil, append_assoc, Some, Contains, drop_of_length-le}
use Rattle.std.specs.Prelude.{codes, slice_get, option_map, option_and_then}
use Rattle.std.specs.List.{list_all}
use Rattle.std.proofs.lemmas.Option.{slice_get_within, slice_get_cases, get_or_from_slice_get}
use Rattle.ur_syntax.specs.declared.kind.Kind.{Kind}
use Rattle.ur_syntax.specs.declared.decl.FunDef.{FunDef}
use Rattle.ur_syntax.specs.declared.exp.Param.{Param as WrittenParam}
use Rattle.ur_syntax.specs.declared.exp.Param.TheVariants as written_param
use Rattle.ur_rows.specs.Types.{holds_arrow}
use Rattle.ur_disjoint.specs.Tests.{pair}
use Rattle.ur_disjoint.specs.declared.rows.Assumed.{Assumed}
use Rattle.ur_rows.specs.Apart.{Assumptions}
use Rattle.ur_tree.specs.declared.exp.Param.{Param}
use Rattle.ur_tree.specs.declared.typed.ConParam.{ConParam}
use Rattle.ur_tree.specs.declared.typed.ConParam.TheVariants as con_param
use Rattle.ur_tree.specs.Env.{Env, variables, kinds_of, rows_apart}
use Rattle.ur_tree.specs.Heads.{Head}
use Rattle.ur_tree.specs.App.{within_head}
use Rattle.ur_typed_rules.specs.Names.{Local, Names}
use Rattle.ur_typed_rules.specs.Tests.{is_type, is_param, are_params}
use Rattle.ur_rows.specs.declared.normal.Part.{Part}
use Rattle.ur_rows.specs.Kinded.{row_is_in}
use Rattle.ur_typed_rules.specs.Faults.{Fault, unkinded}
use Rattle.ur_typed_rules.specs.Rules.{if_so, may_be_param, param_out, Params, and_params}
use Rattle.ur_typed_rules.specs.Arguments.{BreaksWritten, BreaksPlace}
use Rattle.ur_typed_rules.proofs.Options.{some_of, opened, mapped}
use Rattle.ur_check_scopes.proofs.Loops.{drop-here, drop-none, left-here}
use Rattle.ur_check_scopes.specs.Params.{IsWrittenType}
use Rattle.ur_typed.specs.Declaring.{Sofar, datatype_names, con_param_fits, all_params_out, head_fits, Heading, fitting, written_heading, heading_out}
use Rattle.ur_typed.specs.DeclFaults.{BreaksHeadParams, this_param, later_param, BreaksHead, side_unkinded, bad_param, result_out_of_place, result_arrow, BreaksHeading, bad_head}
use Rattle.ur_check_heads.specs.declared.bodies.HeadScope.{HeadScope}
use Rattle.ur_check_heads.specs.declared.project.Project.{Project}
use Rattle.ur_check_heads.specs.Views.{IsHeadScope, Sees}
use Rattle.ur_check_heads.proofs.Seeing.{names-seen}
use Rattle.ur_base.specs.declared.refusal.Refusal.{Refusal}
use Rattle.ur_check_scopes.specs.declared.world.World.{World as Held}
use Rattle.ur_check_scopes.specs.Views.{Refuses}
use Rattle.ur_typed.specs.Project.{names_at}
use Rattle.ur_check_heads.specs.Heading.{BreaksSides, sides_unkinded, BreaksCons, some_sides, BreaksResult, out_of_place, has_arrow, MayBeWritten}
use Rattle.ur_check_heads.proofs.Written.{Parts, head-parts}

-- ---- kinds and rows, one constructor parameter after the other

pub kinds-past : (all : List ConParam) (kinds : List Kind) (i : ℕ) (c : ConParam) → i < length all → c ≡ get_or all i c → kinds_of all ≡ kinds ++ kinds_of (drop i all) → kinds_of all ≡ (kinds ++ kinds_of (c ∷ [])) ++ kinds_of (drop (i + 1) all)
kinds-past all kinds i c h e k = k ∙ ap (λ z. kinds ++ kinds_of z) (drop-here all i c h e) ∙ ap (λ z. kinds ++ z) (apart c (drop (i + 1) all)) ∙ sym (append_assoc kinds (kinds_of (c ∷ [])) (kinds_of (drop (i + 1) all)))
  where
    apart : (c : ConParam) (cs : List ConParam) → kinds_of (c ∷ cs) ≡ kinds_of (c ∷ []) ++ kinds_of cs
    apart (con_param.Kinded k) cs = refl
    apart (con_param.Apart r s) cs = refl

pub rows-past : (all : List ConParam) (known : Assumptions) (i : ℕ) (c : ConParam) → i < length all → c ≡ get_or all i c → rows_apart all ≡ known ++ rows_apart (drop i all) → rows_apart all ≡ (known ++ rows_apart (c ∷ [])) ++ rows_apart (drop (i + 1) all)
rows-past all known i c h e k = k ∙ ap (λ z. known ++ rows_apart z) (drop-here all i c h e) ∙ ap (λ z. known ++ z) (apart c (drop (i + 1) all)) ∙ sym (append_assoc known (rows_apart (c ∷ [])) (rows_apart (drop (i + 1) all)))
  where
    apart : (c : ConParam) (cs : List ConParam) → rows_apart (c ∷ cs) ≡ rows_apart (c ∷ []) ++ rows_apart cs
    apart (con_param.Kinded k) cs = refl
    apart (con_param.Apart r s) cs = refl

-- a scope holds what the parameters so far have
pub record Gathers (all : List ConParam) (s : HeadScope) (i : ℕ) : Type 0 where
  pub kinds : kinds_of all ≡ s.kinds ++ kinds_of (drop i all)
  pub known : rows_apart all ≡ map pair s.known ++ rows_apart (drop i all)

pub gathers-start : (all : List ConParam) (s : HeadScope) → s.kinds ≡ [] → s.known ≡ [] → Gathers all s 0
gathers-start all s e k = record {
  kinds = ap kinds_of (sym (drop-none all)) ∙ ap (λ z. z ++ kinds_of (drop 0 all)) (sym e);
  known = ap rows_apart (sym (drop-none all)) ∙ ap (λ z. map pair z ++ rows_apart (drop 0 all)) (sym k);
}

pub gathers-past : (all : List ConParam) (s t : HeadScope) (i : ℕ) (c : ConParam) → i < length all → c ≡ get_or all i c → Gathers all s i → t.kinds ≡ s.kinds ++ kinds_of (c ∷ []) → map pair t.known ≡ map pair s.known ++ rows_apart (c ∷ []) →
    Gathers all t (i + 1)
gathers-past all s t i c h e g k n = record {
  kinds = kinds-past all s.kinds i c h e g.kinds ∙ ap (λ z. z ++ kinds_of (drop (i + 1) all)) (sym k);
  known = rows-past all (map pair s.known) i c h e g.known ∙ ap (λ z. z ++ rows_apart (drop (i + 1) all)) (sym n);
}

pub gathers-end : (all : List ConParam) (s : HeadScope) (i : ℕ) → length all ≤ i → Gathers all s i → IsHeadScope s all
gathers-end all s i h g = record {
  kinds = g.kinds ∙ ap (λ z. s.kinds ++ kinds_of z) (drop_of_length-le all h) ∙ append-nil s.kinds;
  known = g.known ∙ ap (λ z. map pair s.known ++ rows_apart z) (drop_of_length-le all h) ∙ append-nil (map pair s.known);
}

-- ---- sides of `~`

pub all-past : {A : Type 0} (test : A → Bool) (xs : List A) (i : ℕ) (x : A) → i < length xs → x ≡ get_or xs i x → test x ≡ true → list_all test xs ≡ list_all test (drop i xs) → list_all test xs ≡ list_all test (drop (i + 1) xs)
all-past test xs i x h e t so_far = so_far ∙ left-here (list_all test) xs i x h e ∙ ap (λ b. b && list_all test (drop (i + 1) xs)) t

pub all-end : {A : Type 0} (test : A → Bool) (xs : List A) (i : ℕ) → length xs ≤ i → list_all test xs ≡ list_all test (drop i xs) → list_all test xs ≡ true
all-end test xs i h so_far = so_far ∙ ap (list_all test) (drop_of_length-le xs h)

pub sides-false : (env : Env) (con : ConParam) (r s : List Part) (fits : Bool) → con ≡ con_param.Apart r s → fits ≡ (row_is_in (variables env) r && row_is_in (variables env) s) → fits ≡ false → BreaksSides env con (unkinded (codes "another kind") (codes "{Type}"))
sides-false env con r s fits e k h = subst (λ z. BreaksSides env z (unkinded (codes "another kind") (codes "{Type}"))) (sym e) (sides_unkinded (sym k ∙ h))

-- ---- parameters, place by place

pub record Judged (env : Env) (written : List WrittenParam) (params : List Param) (left : List WrittenParam) (others : List Param) : Type 0 where
  pub right : MayBeWritten env left others → MayBeWritten env written params
  pub broken : (f : Fault) → BreaksHeadParams env left others f → BreaksHeadParams env written params f

pub judged-start : (env : Env) (written : List WrittenParam) (params : List Param) → Judged env written params (drop 0 written) (drop 0 params)
judged-start env written params = subst₂ (Judged env written params) (sym (drop-none written)) (sym (drop-none params)) (record { right = λ h. h; broken = λ f b. b })

none-breaks : (env : Env) (ws : List WrittenParam) (f : Fault) → BreaksHeadParams env ws [] f → ⊥
none-breaks env ws f b = elim b [ ]

past-param : (env : Env) (written : List WrittenParam) (params : List Param) (left rest : List WrittenParam) (others ps : List Param) (w : WrittenParam) (p : Param) → left ≡ w ∷ rest → others ≡ p ∷ ps →
    (IsWrittenType w p.of → may_be_param env p.of ≡ true) → Judged env written params left others → Judged env written params rest ps
past-param env written params left rest others ps w p e k may j = record {
  right = λ h. j.right (subst₂ (λ a b. MayBeWritten env a b) (sym e) (sym k) (may, h));
  broken = λ f b. j.broken f (subst₂ (λ a c. BreaksHeadParams env a c f) (sym e) (sym k) (later_param b));
}

past-last : (env : Env) (written : List WrittenParam) (params : List Param) (left rest : List WrittenParam) (others ps : List Param) (w : WrittenParam) → left ≡ w ∷ rest → others ≡ [] → ps ≡ [] →
    Judged env written params left others → Judged env written params rest ps
past-last env written params left rest others ps w e k n j = record {
  right = λ h. j.right (subst₂ (λ a b. MayBeWritten env a b) (sym e) (sym k) tt);
  broken = λ f b. absurd (none-breaks env rest f (subst (λ z. BreaksHeadParams env rest z f) n b));
}

-- the type of the parameter at a place may be that of a written one
abbrev pub MayBeAt : Env → WrittenParam → List Param → ℕ → Type 0
MayBeAt env w params k = (p : Param) → slice_get params k ≡ Some p → IsWrittenType w p.of → may_be_param env p.of ≡ true

abbrev pub BreaksAt : Env → WrittenParam → List Param → ℕ → Fault → Type 0
BreaksAt env w params k f = (p : Param) × (slice_get params k ≡ Some p) × BreaksWritten env w p.of f

pub may-be-there : (env : Env) (w : WrittenParam) (params : List Param) (k : ℕ) (x : Param) → slice_get params k ≡ Some x → (IsWrittenType w x.of → may_be_param env x.of ≡ true) → MayBeAt env w params k
may-be-there env w params k x e f = λ p is. subst (λ (z : Param). IsWrittenType w z.of → may_be_param env z.of ≡ true) (some_of (sym e ∙ is)) f

pub judged-next : (env : Env) (written : List WrittenParam) (params : List Param) (i : ℕ) (w : WrittenParam) → i < length written → w ≡ get_or written i w → MayBeAt env w params i →
    Judged env written params (drop i written) (drop i params) → Judged env written params (drop (i + 1) written) (drop (i + 1) params)
judged-next env written params i w h e may j = elim ((slice_get_cases params i).1) [
  | inl c ↦ past-param env written params (drop i written) (drop (i + 1) written) (drop i params) (drop (i + 1) params) w c.0 (drop-here written i w h e) (drop-here params i c.0 c.1 (sym c.3)) (may c.0 c.2) j
  | inr n ↦ past-last env written params (drop i written) (drop (i + 1) written) (drop i params) (drop (i + 1) params) w (drop-here written i w h e) (drop_of_length-le params n.0) (drop_of_length-le params (still (length params) i n.0)) j
]
  where
    still : (n i : ℕ) → n ≤ i → n ≤ i + 1
    still n i h = omega arith

pub judged-broken : (env : Env) (written : List WrittenParam) (params : List Param) (i : ℕ) (w : WrittenParam) → i < length written → w ≡ get_or written i w → Judged env written params (drop i written) (drop i params) →
    (f : Fault) → BreaksAt env w params i f → BreaksHeadParams env written params f
judged-broken env written params i w h e j f b =
    j.broken f (subst₂ (λ a z. BreaksHeadParams env a z f) (sym (drop-here written i w h e))
    (sym (drop-here params i b.0 (slice_get_within params i b.0 b.1) (sym (get_or_from_slice_get params i b.0 b.0 b.1)))) (this_param b.2))

pub judged-end : (env : Env) (written : List WrittenParam) (params : List Param) (i : ℕ) → length written ≤ i → Judged env written params (drop i written) (drop i params) → MayBeWritten env written params
judged-end env written params i h j = j.right (subst (λ a. MayBeWritten env a (drop i params)) (sym (drop_of_length-le written h)) tt)

-- ---- all of them, where they are what is written

written-type : (most : ℕ) (names : Names) (p : WrittenParam) (q : Local × Param) → param_out most names p ≡ Some q → IsWrittenType p q.1.of
written-type most names (written_param.Value x c) q h = tt
written-type most names written_param.Unit q h = ap (λ (z : Local × Param). z.1.of) (sym (some_of h))

both : (a b : Bool) → a ≡ true → b ≡ true → (a && b) ≡ true
both true b e h = h
both false b e h = absurd (true≢false (sym e))

are-right : (env : Env) (most : ℕ) (names : Names) (ws : List WrittenParam) (ps : Params) → all_params_out most names ws ≡ Some ps → MayBeWritten env ws ps.1 → are_params env ps.1 ≡ true
are-right env most names [] ps h m = subst (λ (z : Params). are_params env z.1 ≡ true) (some_of h) refl
are-right env most names (w ∷ ws) ps h m =
    let o : (q : Local × Param) × (param_out most names w ≡ Some q) × (option_map (and_params q) (all_params_out most names ws) ≡ Some ps) = opened (λ (q : Local × Param). option_map (and_params q) (all_params_out most names ws)) (param_out most names w) ps h in
    let r : (x : Params) × (all_params_out most names ws ≡ Some x) × (and_params o.0 x ≡ ps) = mapped (and_params o.0) (all_params_out most names ws) ps o.2 in
    let n : MayBeWritten env (w ∷ ws) (o.0.1 ∷ r.0.1) = subst (λ (z : Params). MayBeWritten env (w ∷ ws) z.1) (sym r.2) m in
    subst (λ (z : Params). are_params env z.1 ≡ true) r.2
    (both (is_param env o.0.1) (list_all (is_param env) r.0.1) (n.0 (written-type most names w o.0 o.1)) (are-right env most names ws r.0 r.1 n.1))

no : (b : Bool) → b ≡ false → not b ≡ true
no b e = ap not e

-- ---- the whole

pub head-right : (env : Env) (most : ℕ) (names : Names) (f : FunDef) (h : Head) (w : Heading) → env ≡ within_head h → written_heading most names f ≡ Some w → w.head ≡ h → list_all (con_param_fits env) h.cons ≡ true → MayBeWritten env f.params h.params →
    is_type env h.result ≡ true → holds_arrow h.result ≡ false → head_fits h ≡ true
head-right env most names f h w e k i cons may typed none =
    let ps : Parts most names f w = head-parts most names f w k in
    let params : are_params env h.params ≡ true =
    subst (λ (z : List Param). MayBeWritten env f.params z → are_params env z ≡ true) (ap (λ (z : Heading). z.head.params) ps.whole ∙ ap (λ (z : Head). z.params) i) (are-right env most ps.cons.0 f.params ps.params ps.are_params) may in
    ap (λ z. list_all (con_param_fits z) h.cons && (are_params z h.params && (is_type z h.result && not (holds_arrow h.result)))) (sym e)
    ∙ both (list_all (con_param_fits env) h.cons) (are_params env h.params && (is_type env h.result && not (holds_arrow h.result))) cons
    (both (are_params env h.params) (is_type env h.result && not (holds_arrow h.result)) params (both (is_type env h.result) (not (holds_arrow h.result)) typed (no (holds_arrow h.result) none)))

head-out : (most : ℕ) (names : Names) (f : FunDef) (w : Heading) → written_heading most names f ≡ Some w → head_fits w.head ≡ true → heading_out most names f ≡ Some w
head-out most names f w e h = ap (option_and_then fitting) e ∙ ap (λ b. if_so b (Some w)) h

-- what each part breaks, the head breaks
pub breaks-cons : (texts : List (List ℕ)) (env : Env) (f : FunDef) (h : Head) → env ≡ within_head h → (c : Fault) → BreaksCons env h.cons c → BreaksHead texts f h c
breaks-cons texts env f h e c (some_sides {p = p} m b) = of_sides p c m (subst (λ z. BreaksSides z p c) e b)
  where
    of_sides : (p : ConParam) (c : Fault) → Contains h.cons p → BreaksSides (within_head h) p c → BreaksHead texts f h c
    of_sides _ _ m (sides_unkinded k) = side_unkinded m k

pub breaks-params : (texts : List (List ℕ)) (env : Env) (f : FunDef) (h : Head) → env ≡ within_head h → (c : Fault) → BreaksHeadParams env f.params h.params c → BreaksHead texts f h c
breaks-params texts env f h e c b = bad_param (subst (λ z. BreaksHeadParams z f.params h.params c) e b)

pub breaks-result : (texts : List (List ℕ)) (env : Env) (f : FunDef) (h : Head) → env ≡ within_head h → (c : Fault) → BreaksResult texts env f.result h.result c → BreaksHead texts f h c
breaks-result texts env f h e c (out_of_place b) = result_out_of_place (subst (λ z. BreaksPlace z f.result h.result c) e b)
breaks-result texts env f h e _ (has_arrow k) = result_arrow k

abbrev env_with : List Kind → Assumptions → Env
env_with kinds known = record { kinds = kinds; known = known; values = []; fixed = [] }

pub env-within : (s : HeadScope) (h : Head) (kinds : List Kind) (known : List Assumed) → IsHeadScope s h.cons → kinds ≡ s.kinds → known ≡ s.known → env_with kinds (map pair known) ≡ within_head h
env-within s h kinds known is k n = ap₂ env_with (k ∙ sym is.kinds) (ap (map pair) n ∙ sym is.known)

pub head-fitting : (names : Names) (f : FunDef) (w : Heading) (h : Head) → written_heading 65536 names f ≡ Some w → w.head ≡ h → head_fits h ≡ true → (v : Heading) × (heading_out 65536 names f ≡ Some v) × (v.head ≡ h)
head-fitting names f w h e k fits = (w, head-out 65536 names f w e (ap head_fits k ∙ fits), k)

pub head-breaks : (p : Project) (home : ℕ) (z : Sofar) (w : Held) (f : FunDef) (h : Head) (r : Refusal) → Sees p home z → w ≡ p.world → (u : Heading) → written_heading 65536 (names_at z.place) f ≡ Some u → u.head ≡ h →
    Refuses w.datatype_names (BreaksHead w.datatype_names f h) r → Refuses (datatype_names z) (BreaksHeading (datatype_names z) 65536 (names_at z.place) f) r
head-breaks p home z w f h r s e u we is hyp =
    let t : Refuses (datatype_names z) (BreaksHead (datatype_names z) f h) r = subst (λ ns. Refuses ns (BreaksHead ns f h) r) (ap (λ (x : Held). x.datatype_names) e ∙ sym (names-seen p home z s)) hyp in
    (t.0, bad_head we (subst (λ g. BreaksHead (datatype_names z) f g t.0) (sym is) t.1), t.2)
