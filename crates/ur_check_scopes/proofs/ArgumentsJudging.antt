-- The types of a lambda's parameters, one after the other.
use Rattle.std.proofs.Common.{◌≡◌, arith, refl, ap, sym, ◌∙◌, subst, subst₂, inl, inr, ℕ, ◌+◌, ◌<◌, ◌≤◌, Bool, true, false, true≢false, ◌&&◌, length, drop, get_or, List, [], ◌∷◌, map, Some, drop_of_length-le}
use Rattle.std.specs.Prelude.{slice_get, option_map}
use Rattle.std.specs.List.{list_all}
use Rattle.std.proofs.lemmas.Option.{slice_get_within, slice_get_cases, get_or_from_slice_get}
use Rattle.ur_syntax.specs.declared.exp.LambdaParam.{LambdaParam}
use Rattle.ur_syntax.specs.declared.exp.LambdaParam.TheVariants as lambda_param
use Rattle.ur_syntax.specs.declared.exp.Param.{Param as WrittenParam}
use Rattle.ur_syntax.specs.declared.exp.Param.TheVariants as written_param
use Rattle.ur_tree.specs.declared.exp.Param.{Param}
use Rattle.ur_tree.specs.Env.{Env}
use Rattle.ur_typed_rules.specs.Names.{Local, Names}
use Rattle.ur_typed_rules.specs.Tests.{is_param, are_params}
use Rattle.ur_typed_rules.specs.Faults.{Fault}
use Rattle.ur_typed_rules.specs.Rules.{may_be_param, param_out, params_out, Params, and_params}
use Rattle.ur_typed_rules.proofs.Options.{some_of, opened, mapped}
use Rattle.ur_check_scopes.specs.declared.locals.Local.{Local as HeldLocal}
use Rattle.ur_check_scopes.specs.Views.{param_in}
use Rattle.ur_check_scopes.proofs.Loops.{drop-here, drop-none}
use Rattle.ur_check_scopes.specs.Params.{IsWrittenType, IsLambdaType, MayBeAt, BreaksAt, breaks_local, MayBeParams, BreaksParameters, this_parameter, later_parameter}

-- the local that stands at a place
pub may-be-there : (env : Env) (p : LambdaParam) (locals : List HeldLocal) (k : ℕ) (x : HeldLocal) → slice_get locals k ≡ Some x → (IsLambdaType p x.of → may_be_param env x.of ≡ true) → MayBeAt env p locals k
may-be-there env p locals k x e f = λ l is. subst (λ z. IsLambdaType p z.of → may_be_param env z.of ≡ true) (some_of (sym e ∙ is)) f

-- what is said of the parameters that are left is said of all
pub record Judged (env : Env) (params : List LambdaParam) (locals : List HeldLocal) (left : List LambdaParam) (others : List HeldLocal) : Type 0 where
  pub right : MayBeParams env left (map param_in others) → MayBeParams env params (map param_in locals)
  pub broken : (f : Fault) → BreaksParameters env left (map param_in others) f → BreaksParameters env params (map param_in locals) f

pub judged-start : (env : Env) (params : List LambdaParam) (locals : List HeldLocal) → Judged env params locals (drop 0 params) (drop 0 locals)
judged-start env params locals = subst₂ (Judged env params locals) (sym (drop-none params)) (sym (drop-none locals)) (record { right = λ h. h; broken = λ f b. b })

none-breaks : (env : Env) (ps : List LambdaParam) (f : Fault) → BreaksParameters env ps [] f → ⊥
none-breaks env ps f b = elim b [ ]

past-local : (env : Env) (params : List LambdaParam) (locals : List HeldLocal) (left rest : List LambdaParam) (others ls : List HeldLocal) (p : LambdaParam) (x : HeldLocal) → left ≡ p ∷ rest → others ≡ x ∷ ls →
    (IsLambdaType p x.of → may_be_param env x.of ≡ true) → Judged env params locals left others → Judged env params locals rest ls
past-local env params locals left rest others ls p x e k may j = record {
  right = λ h. j.right (subst₂ (λ a b. MayBeParams env a (map param_in b)) (sym e) (sym k) (may, h));
  broken = λ f b. j.broken f (subst₂ (λ a b. BreaksParameters env a (map param_in b) f) (sym e) (sym k) (later_parameter b));
}

past-last : (env : Env) (params : List LambdaParam) (locals : List HeldLocal) (left rest : List LambdaParam) (others ls : List HeldLocal) (p : LambdaParam) → left ≡ p ∷ rest → others ≡ [] → ls ≡ [] →
    Judged env params locals left others → Judged env params locals rest ls
past-last env params locals left rest others ls p e k n j = record {
  right = λ h. j.right (subst₂ (λ a b. MayBeParams env a (map param_in b)) (sym e) (sym k) tt);
  broken = λ f b. absurd (none-breaks env rest f (subst (λ z. BreaksParameters env rest (map param_in z) f) n b));
}

pub judged-next : (env : Env) (params : List LambdaParam) (locals : List HeldLocal) (i : ℕ) (p : LambdaParam) → i < length params → p ≡ get_or params i p → MayBeAt env p locals i →
    Judged env params locals (drop i params) (drop i locals) → Judged env params locals (drop (i + 1) params) (drop (i + 1) locals)
judged-next env params locals i p h e may j = elim ((slice_get_cases locals i).1) [
  | inl c ↦ past-local env params locals (drop i params) (drop (i + 1) params) (drop i locals) (drop (i + 1) locals) p c.0 (drop-here params i p h e) (drop-here locals i c.0 c.1 (sym c.3)) (may c.0 c.2) j
  | inr n ↦ past-last env params locals (drop i params) (drop (i + 1) params) (drop i locals) (drop (i + 1) locals) p (drop-here params i p h e) (drop_of_length-le locals n.0) (drop_of_length-le locals (still (length locals) i n.0)) j
]
  where
    still : (n i : ℕ) → n ≤ i → n ≤ i + 1
    still n i h = omega arith

pub judged-broken : (env : Env) (params : List LambdaParam) (locals : List HeldLocal) (i : ℕ) (p : LambdaParam) → i < length params → p ≡ get_or params i p → Judged env params locals (drop i params) (drop i locals) →
    (f : Fault) → BreaksAt env p locals i f → BreaksParameters env params (map param_in locals) f
judged-broken env params locals i p h e j f (breaks_local x is b) =
    j.broken f (subst₂ (λ a z. BreaksParameters env a (map param_in z) f) (sym (drop-here params i p h e))
    (sym (drop-here locals i x (slice_get_within locals i x is) (sym (get_or_from_slice_get locals i x x is)))) (this_parameter b))

pub judged-end : (env : Env) (params : List LambdaParam) (locals : List HeldLocal) (i : ℕ) → length params ≤ i → Judged env params locals (drop i params) (drop i locals) → MayBeParams env params (map param_in locals)
judged-end env params locals i h j = j.right (subst (λ a. MayBeParams env a (map param_in (drop i locals))) (sym (drop_of_length-le params h)) tt)

-- ---- all of them, where they are what is written

written-type : (most : ℕ) (names : Names) (p : WrittenParam) (q : Local × Param) → param_out most names p ≡ Some q → IsWrittenType p q.1.of
written-type most names (written_param.Value x c) q h = tt
written-type most names written_param.Unit q h = ap (λ (z : Local × Param). z.1.of) (sym (some_of h))

both : (a b : Bool) → a ≡ true → b ≡ true → (a && b) ≡ true
both true b e h = h
both false b e h = absurd (true≢false (sym e))

pub are-right : (env : Env) (most : ℕ) (names : Names) (ps : List LambdaParam) (ls : List Local) (qs : List Param) → params_out most names ps ≡ Some (ls, qs) → MayBeParams env ps qs → are_params env qs ≡ true
are-right env most names [] ls qs h m = subst (λ z. are_params env z ≡ true) (ap (λ (z : Params). z.1) (some_of h)) refl
are-right env most names (lambda_param.Typed p ∷ ps) ls qs h m =
    let o : (q : Local × Param) × (param_out most names p ≡ Some q) × (option_map (and_params q) (params_out most names ps) ≡ Some (ls, qs)) = opened (λ (q : Local × Param). option_map (and_params q) (params_out most names ps)) (param_out most names p) (ls, qs) h in
    let r : (x : Params) × (params_out most names ps ≡ Some x) × (and_params o.0 x ≡ (ls, qs)) = mapped (and_params o.0) (params_out most names ps) (ls, qs) o.2 in
    let e : o.0.1 ∷ r.0.1 ≡ qs = ap (λ (z : Params). z.1) r.2 in
    let n : MayBeParams env (lambda_param.Typed p ∷ ps) (o.0.1 ∷ r.0.1) = subst (MayBeParams env (lambda_param.Typed p ∷ ps)) (sym e) m in
    subst (λ z. are_params env z ≡ true) e
    (both (is_param env o.0.1) (list_all (is_param env) r.0.1) (n.0 (written-type most names p o.0 o.1)) (are-right env most names ps r.0.0 r.0.1 r.1 n.1))
are-right env most names (lambda_param.Con c ∷ ps) ls qs h m = absurd (cc)
are-right env most names (lambda_param.Bare x ∷ ps) ls qs h m = absurd (cc)
