-- What the body of a function sees, part by part.
use Rattle.std.proofs.Common.{◌≡◌, refl, ap, ap₂, sym, ◌∙◌, subst, ℕ, ◌+◌, ◌<◌, ◌≤◌, List, [], ◌∷◌, ◌++◌, map, length, drop, get_or, drop_of_length-le, append-nil, append_assoc, Some}
use Rattle.std.specs.Prelude.{slice_get}
use Rattle.std.proofs.lemmas.Option.{slice_get_within, get_or_from_slice_get}
use Rattle.ur_syntax.specs.declared.kind.Kind.{Kind}
use Rattle.ur_syntax.specs.declared.con.Con.{Con}
use Rattle.ur_syntax.specs.declared.con.ConEnv.{ConEnv}
use Rattle.ur_syntax.specs.declared.con.ConParam.TheVariants as written_con
use Rattle.ur_syntax.specs.declared.con.ConParam.{ConParam as WrittenConParam}
use Rattle.ur_syntax.specs.declared.decl.FunDef.{FunDef}
use Rattle.ur_syntax.specs.declared.exp.Param.{Param as WrittenParam}
use Rattle.ur_rows_normal.specs.declared.environment.Place.{Place as Reading}
use Rattle.ur_rows_normal.specs.declared.environment.Layer.{Layer}
use Rattle.ur_rows_normal.specs.Preparing.{Reads, Covers, with_entry, variable_entry}
use Rattle.ur_tree.specs.declared.exp.Param.{Param}
use Rattle.ur_tree.specs.Env.{value_types, fixed_types}
use Rattle.ur_tree.specs.Heads.{Head}
use Rattle.ur_typed_rules.specs.Names.{Names}
use Rattle.ur_typed_rules.proofs.Options.{some_of, opened, opened_if}
use Rattle.ur_check_scopes.specs.declared.locals.Local.{Local as HeldLocal}
use Rattle.ur_check_scopes.specs.declared.world.Head.{Head as HeldHead}
use Rattle.ur_check_scopes.specs.Views.{head_in, local_in, of_variables, of_fixed}
use Rattle.ur_check_scopes.proofs.Loops.{drop-here}
use Rattle.ur_typed.specs.Declaring.{Heading, heading, fitting, head_fits, written_heading, heading_out}
use Rattle.ur_check_heads.specs.declared.bodies.BodyScope.{BodyScope}
use Rattle.ur_check_heads.specs.Views.{names_after, written_local, written_locals, IsHeadScope, IsBodyScope}
use Rattle.ur_check_heads.proofs.Written.{names-past, cons-after, Parts, head-parts, AreBound, params-bound}

-- ---- constructor variables

-- the variables so far, and the names behind those that are left
abbrev pub BoundSo : Reading → List WrittenConParam → Layer → List WrittenConParam → Type 0
BoundSo place all names left = (known : Names) → Reads place known.cons → (now : Names) × Covers names place now.cons × (names_after all known ≡ names_after left now)

pub bound-past : (place : Reading) (all left rest : List WrittenConParam) (p : WrittenConParam) (a b : Layer) → left ≡ p ∷ rest → ((q : Reading) (known : Names) → Covers a q known.cons → Covers b q (names_after (p ∷ []) known).cons) →
    BoundSo place all a left → BoundSo place all b rest
bound-past place all left rest p a b e step so = λ known reads.
    let h = so known reads in
    (names_after (p ∷ []) h.0, step place h.0 h.1, h.2 ∙ ap (λ ps. names_after ps h.0) e ∙ names-past p rest h.0)

pub bound-end : (place : Reading) (all left : List WrittenConParam) (names : Layer) → left ≡ [] → BoundSo place all names left → (known : Names) → Reads place known.cons → Covers names place (names_after all known).cons
bound-end place all left names e so = λ known reads.
    let h = so known reads in
    subst (λ (z : Names). Covers names place z.cons) (sym (h.2 ∙ ap (λ ps. names_after ps h.0) e)) h.1

-- ---- parameters, one after the other

pub locals-step : (done : List HeldLocal) (ws : List WrittenParam) (ps : List Param) (i : ℕ) (w : WrittenParam) (p : Param) → i < length ws → w ≡ get_or ws i w → slice_get ps i ≡ Some p →
    (done ++ written_local w p ∷ []) ++ written_locals (drop (i + 1) ws) (drop (i + 1) ps) ≡ done ++ written_locals (drop i ws) (drop i ps)
locals-step done ws ps i w p h e g =
    let here : drop i ps ≡ p ∷ drop (i + 1) ps = drop-here ps i p (slice_get_within ps i p g) (sym (get_or_from_slice_get ps i p p g)) in
    append_assoc done (written_local w p ∷ []) (written_locals (drop (i + 1) ws) (drop (i + 1) ps)) ∙ ap (λ z. done ++ z) (sym (ap₂ written_locals (drop-here ws i w h e) here))

with-none : (ws : List WrittenParam) → written_locals ws [] ≡ []
with-none [] = refl
with-none (w ∷ ws) = refl

pub locals-none : (done : List HeldLocal) (ws : List WrittenParam) (ps : List Param) (i : ℕ) → length ps ≤ i → done ++ written_locals (drop i ws) (drop i ps) ≡ done
locals-none done ws ps i h = ap (λ z. done ++ written_locals (drop i ws) z) (drop_of_length-le ps h) ∙ ap (λ z. done ++ z) (with-none (drop i ws)) ∙ append-nil done

pub locals-end : (done : List HeldLocal) (ws : List WrittenParam) (ps : List Param) (i : ℕ) → length ws ≤ i → done ++ written_locals (drop i ws) (drop i ps) ≡ done
locals-end done ws ps i h = ap (λ z. done ++ written_locals z (drop i ps)) (drop_of_length-le ws h) ∙ append-nil done

-- ---- the whole

abbrev bare : ConEnv → Names
bare env = record { cons = env; locals = [] }

pub body-is : (place : Reading) (f : FunDef) (head : HeldHead) (s : BodyScope) → ((known : Names) → Reads place known.cons → Covers s.names place (names_after f.con_params known).cons) → IsHeadScope s.cons head.cons →
    s.locals ≡ written_locals f.params head.params → (env : ConEnv) (h : Heading) → Reads place env → heading_out 65536 (bare env) f ≡ Some h → h.head ≡ head_in head → IsBodyScope s place h
body-is place f head s names cons locals env h reads e is =
    let o : (w : Heading) × (written_heading 65536 (bare env) f ≡ Some w) × (fitting w ≡ Some h) = opened fitting (written_heading 65536 (bare env) f) h e in
    let same : o.0 ≡ h = some_of (opened_if (head_fits o.0.head) (Some o.0) h o.2).1 in
    let p : Parts 65536 (bare env) f o.0 = head-parts 65536 (bare env) f o.0 o.1 in
    let b : AreBound f.params p.params.0 p.params.1 = params-bound 65536 p.cons.0 f.params p.params p.are_params in
    let whole : heading p.cons p.params p.result ≡ h = p.whole ∙ same in
    let params : p.params.1 ≡ head.params = ap (λ (z : Heading). z.head.params) whole ∙ ap (λ (z : Head). z.params) is in
    let held : written_locals f.params p.params.1 ≡ s.locals = ap (written_locals f.params) params ∙ sym locals in
    record {
      names = subst (λ z. Covers s.names place z) (sym (ap (λ (z : Names). z.cons) (cons-after 65536 (bare env) f.con_params p.cons p.are_cons)) ∙ ap (λ (z : Heading). z.names.cons) whole) (names (bare env) reads);
      cons = subst (IsHeadScope s.cons) (sym (ap (λ (z : Head). z.cons) is)) cons;
      locals = sym (ap (λ (z : Heading). z.names.locals) whole) ∙ b.locals ∙ ap (map local_in) held;
      values = sym (ap (λ (z : Heading). value_types z.head.params) whole) ∙ b.values ∙ ap of_variables held;
      fixed = sym (ap (λ (z : Heading). fixed_types z.head.params) whole) ∙ b.fixed ∙ ap of_fixed held;
    }

-- ---- one parameter

pub bind-kinded : (p : WrittenConParam) (x : List ℕ) (k : Kind) (a b : Layer) → p ≡ written_con.Kinded x k → ((place : Reading) (env : ConEnv) → Covers a place env → Covers b place (with_entry (variable_entry x k) env)) →
    (place : Reading) (known : Names) → Covers a place known.cons → Covers b place (names_after (p ∷ []) known).cons
bind-kinded p x k a b e step = λ place known h. subst (λ z. Covers b place (names_after (z ∷ []) known).cons) (sym e) (step place known.cons h)

pub bind-apart : (p : WrittenConParam) (c d : Con) (a : Layer) → p ≡ written_con.Disjoint c d → (place : Reading) (known : Names) → Covers a place known.cons → Covers a place (names_after (p ∷ []) known).cons
bind-apart p c d a e = λ place known h. subst (λ z. Covers a place (names_after (z ∷ []) known).cons) (sym e) h
