-- Lambdas.
use Rattle.std.proofs.Common.{◌≡◌, refl, ap, ap₂, sym, ◌∙◌, subst, ℕ, Bool, true, false, not, ◌&&◌, List, [], ◌∷◌, ◌++◌, map, length, Option, Some, None, Err}
use Rattle.std.specs.Prelude.{codes, option_and_then}
use Rattle.std.proofs.lemmas.List.{nil_from_length}
use Rattle.ur_base.specs.Stopping.{IfRefused}
use Rattle.ur_base.specs.declared.refusal.Refusal.{Refusal}
use Rattle.ur_base.specs.declared.refusal.Stop.{Stop}
use Rattle.ur_base.specs.declared.refusal.Stop.TheVariants as stop
use Rattle.ur_syntax.specs.declared.exp.LambdaParam.{LambdaParam}
use Rattle.ur_syntax.specs.declared.exp.Exp.{Exp}
use Rattle.ur_syntax.specs.declared.exp.ExpForm.TheVariants as e
use Rattle.ur_rows.specs.declared.normal.NormalType.{NormalType}
use Rattle.ur_rows.specs.Made.{arrow_of}
use Rattle.ur_rows.specs.Types.{arrows_of, holds_arrow}
use Rattle.ur_tree.specs.Text.{type_text}
use Rattle.ur_rows_normal.specs.Preparing.{Reads}
use Rattle.ur_tree.specs.declared.exp.Param.{Param}
use Rattle.ur_tree.specs.Env.{Env}
use Rattle.ur_tree.specs.Typing.{types_of}
use Rattle.ur_tree.specs.Make as make
use Rattle.ur_typed_rules.specs.Names.{Names}
use Rattle.ur_typed_rules.specs.Scopes.{World, Scope, Mode, within_params, of_result}
use Rattle.ur_typed_rules.specs.Tests.{are_distinct, are_params}
use Rattle.ur_typed_rules.specs.Faults.{Fault, TellsType as TellsFault, twice, not_so}
use Rattle.ur_typed_rules.specs.Repeats.{IsTwiceIn, twice_of}
use Rattle.ur_typed_rules.specs.Arguments.{BreaksForms, bare_form, con_form, large_form, later_form}
use Rattle.ur_typed_rules.specs.Rules.{if_so, params_out}
use Rattle.ur_typed_rules.proofs.Repeats.{twice-stands}
use Rattle.ur_typed.specs.Rules.{gives, then_, lambda_with}
use Rattle.ur_typed.specs.Walking.{walk, typed}
use Rattle.ur_typed.specs.Parts.{in_lambda}
use Rattle.ur_typed.specs.Faults.{BreaksParams, this_param, later_param}
use Rattle.ur_typed.specs.Causes.{HasFault, bad_form, param_twice, bad_param, curried}
use Rattle.ur_check_scopes.specs.declared.locals.Local.{Local as HeldLocal}
use Rattle.ur_check_scopes.specs.declared.around.Around.{Around}
use Rattle.ur_check_scopes.specs.Views.{Stands, Refuses, StopIs, env_in, local_in, param_in, behind_one}
use Rattle.ur_check_scopes.proofs.Wanting.{one-behind}
use Rattle.ur_check_scopes.specs.Params.{BreaksParameters, this_parameter, later_parameter}
use Rattle.ur_check_scopes.proofs.There.{AreLike, same-params, params-there}
use Rattle.ur_check_cases.proofs.Binders.{names-in, distinct-once, distinct-twice}
use Rattle.ur_check_rules.specs.declared.out.Out.{Out as HeldOut}
use Rattle.ur_check_rules.specs.declared.out.Sites.{Sites as HeldSites}
use Rattle.ur_check_rules.specs.Views.{sites_in, out_in}
use Rattle.ur_check_rules.proofs.Settling.{most_is}
use Rattle.ur_check_walk.specs.Promises.{StandsSomewhere, Gives, Tells}
use Rattle.ur_check_walk.specs.Binding.{IsWithinLambda, TwiceTold}
use Rattle.ur_check_walk.proofs.Steps.{part as broken-within, rule as broken-here}
use Rattle.ur_check_walk.proofs.Wholes.{told-there, lambda-plain}
use Rattle.ur_check_walk.proofs.Binders.{stands-lambda}
use Rattle.ur_check_walk.proofs.Choosing.{GivesAt}

abbrev names_at : Around → List (List ℕ)
names_at a = a.world.now.datatype_names

-- ---- names

pub twice-told : (ls : List HeldLocal) (x : List ℕ) (s : Stop) → twice_of (map (λ l. l.name) ls) ≡ Some x → StopIs [] (twice x) s → IfRefused {A = Unit {0}} (Err s) (TwiceTold ls)
twice-told ls x (stop.Refused r) h k = (x, subst (λ z. IsTwiceIn x z) (sym (names-in ls)) (twice-stands (map (λ l. l.name) ls) x h), distinct-twice ls x h, k)
twice-told ls x stop.Memory h k = tt

pub once-told : (ls : List HeldLocal) → twice_of (map (λ l. l.name) ls) ≡ None → are_distinct (map local_in ls) ≡ true
once-told ls h = distinct-once ls h

-- ---- what is wanted, and the types

-- what is wanted behind parameters is told by how many there are
pub result-is : {A B : Type 0} (f : A → B) (xs : List A) (m : Mode) → of_result (map f xs) m ≡ of_result xs m
result-is f [] m = refl
result-is f (x ∷ xs) m = one-behind (f x) (map f xs) m ∙ result-is f xs (behind_one m) ∙ sym (one-behind x xs m)

pub types-held : (ls : List HeldLocal) → types_of (map param_in ls) ≡ map (λ l. l.of) ls
types-held [] = refl
types-held (l ∷ ls) = ap (λ z. l.of ∷ z) (types-held ls)

arrows-end : (ts : List NormalType) (t u : NormalType) → arrows_of (ts ++ t ∷ []) u ≡ arrows_of ts (arrow_of t u)
arrows-end [] t u = refl
arrows-end (x ∷ ts) t u = ap (arrow_of x) (arrows-end ts t u)

map-end : (ls : List HeldLocal) (l : HeldLocal) → map (λ (x : HeldLocal). x.of) (ls ++ l ∷ []) ≡ map (λ x. x.of) ls ++ l.of ∷ []
map-end [] l = refl
map-end (x ∷ ls) l = ap (λ z. x.of ∷ z) (map-end ls l)

pub arrows-past : (all left rest : List HeldLocal) (l : HeldLocal) (t u last : NormalType) → left ≡ rest ++ l ∷ [] → u ≡ arrow_of l.of t → arrows_of (map (λ x. x.of) left) t ≡ arrows_of (map (λ x. x.of) all) last →
    arrows_of (map (λ x. x.of) rest) u ≡ arrows_of (map (λ x. x.of) all) last
arrows-past all left rest l t u last e h k =
    ap (arrows_of (map (λ x. x.of) rest)) h ∙ sym (arrows-end (map (λ x. x.of) rest) l.of t) ∙ ap (λ z. arrows_of z t) (sym (map-end rest l)) ∙ ap (λ z. arrows_of (map (λ x. x.of) z) t) (sym e) ∙ k

pub arrows-done : (all left : List HeldLocal) (t last : NormalType) → length left ≡ 0 → arrows_of (map (λ x. x.of) left) t ≡ arrows_of (map (λ x. x.of) all) last → t ≡ arrows_of (map (λ x. x.of) all) last
arrows-done all left t last e k = ap (λ z. arrows_of (map (λ x. x.of) z) t) (sym (nil_from_length left e)) ∙ k

-- ---- where the code stands

like-there : (a : Around) (w : World) (s : Scope) → Stands a w s → AreLike s.env (env_in a.scope.cons)
like-there a w s stands = record { kinds = stands.kinds; known = stands.known }

-- the parameters, with their types
abbrev pub AreOut : Around → List LambdaParam → List HeldLocal → Type 0
AreOut a params ls = (names : Names) → Reads a.scope.cons.names names.cons → params_out 65536 names params ≡ Some (map local_in ls, map param_in ls)

pub out-there : (a : Around) (params : List LambdaParam) (ls : List HeldLocal) → AreOut a params ls → (w : World) (s : Scope) → Stands a w s → params_out w.most s.names params ≡ Some (map local_in ls, map param_in ls)
out-there a params ls h w s stands = ap (λ n. params_out n s.names params) (most_is a w s stands) ∙ h s.names stands.cons

-- the types may be those of parameters
abbrev pub MayBe : Around → List LambdaParam → List HeldLocal → Type 0
MayBe a params ls = (names : Names) → params_out 65536 names params ≡ Some (map local_in ls, map param_in ls) → are_params (env_in a.scope.cons) (map param_in ls) ≡ true

may-there : (a : Around) (params : List LambdaParam) (ls : List HeldLocal) → AreOut a params ls → MayBe a params ls → (w : World) (s : Scope) → Stands a w s → are_params s.env (map param_in ls) ≡ true
may-there a params ls h k w s stands = same-params s.env (env_in a.scope.cons) (map param_in ls) (like-there a w s stands) ∙ k s.names (h s.names stands.cons)

both-so : {A : Type 0} (a b : Bool) (o : Option A) → a ≡ true → b ≡ true → if_so (a && b) o ≡ o
both-so a b o e h = ap₂ (λ x y. if_so (x && y) o) e h

pub lambda-made : (a i : Around) (st0 st1 : HeldSites) (m : Mode) (params : List LambdaParam) (x : Exp) (ls own : List HeldLocal) (n : Mode) (out o : HeldOut) → AreOut a params ls → are_distinct (map local_in own) ≡ true → MayBe a params own → own ≡ ls → IsWithinLambda a own i →
    n ≡ of_result own m → GivesAt i st0 x n out st1 → holds_arrow out.of ≡ false → o.of ≡ arrows_of (map (λ l. l.of) own) out.of → o.exp ≡ make.lambda (map param_in own) out.exp →
    Gives a st0 (e.Lambda params x) m o st1
lambda-made a i st0 st1 m params x ls own n out o h d k e r asks g f p q = λ w s stands.
    let inner : Stands i w (within_params (map local_in ls) (map param_in ls) s) = stands-lambda a i ls (subst (λ z. IsWithinLambda a z i) e r) w s stands in
    let mode : of_result (map param_in ls) m ≡ n = result-is param_in ls m ∙ ap (λ z. of_result z m) (sym e) ∙ sym asks in
    let body : typed w x.form (within_params (map local_in ls) (map param_in ls) s) (sites_in st0) (of_result (map param_in ls) m) ≡ Some (out_in out st1) =
    ap (λ z. typed w x.form (within_params (map local_in ls) (map param_in ls) s) (sites_in st0) z) mode ∙ g w (within_params (map local_in ls) (map param_in ls) s) inner in
    ap (λ z. walk w z s (sites_in st0) m) (lambda-plain params x)
    ∙ ap (option_and_then (lambda_with s (sites_in st0) m (typed w x.form))) (out-there a params ls h w s stands)
    ∙ both-so (are_distinct (map local_in ls)) (are_params s.env (map param_in ls))
    (then_ (typed w x.form (within_params (map local_in ls) (map param_in ls) s) (sites_in st0) (of_result (map param_in ls) m)) (λ z. if_so (not (holds_arrow z.of)) (gives (arrows_of (types_of (map param_in ls)) z.of) (make.lambda (map param_in ls) z.exp) z.sites)))
    (ap (λ z. are_distinct (map local_in z)) (sym e) ∙ d) (may-there a params ls h (subst (λ z. MayBe a params z) e k) w s stands)
    ∙ ap (option_and_then (λ z. if_so (not (holds_arrow z.of)) (gives (arrows_of (types_of (map param_in ls)) z.of) (make.lambda (map param_in ls) z.exp) z.sites))) body
    ∙ ap (λ z. if_so (not z) (gives (arrows_of (types_of (map param_in ls)) out.of) (make.lambda (map param_in ls) out.exp) (sites_in st1))) f
    ∙ ap₂ (λ y z. gives y z (sites_in st1)) (ap (λ z. arrows_of z out.of) (types-held ls ∙ ap (map (λ l. l.of)) (sym e)) ∙ sym p) (ap (λ z. make.lambda (map param_in z) out.exp) (sym e) ∙ sym q)

-- ---- refusals

-- the texts of a fault of a form name no datatype
form-told : (most : ℕ) (names : Names) (ps : List LambdaParam) (f : Fault) (r : Refusal) (n m : List (List ℕ)) → BreaksForms most names ps f → TellsFault n r f → TellsFault m r f
form-told most names _ _ r n m bare_form t = t
form-told most names _ _ r n m con_form t = t
form-told most names _ _ r n m (large_form h) t = t
form-told most names _ f r n m (later_form {ps = ps} b) t = form-told most names ps f r n m b t

pub form-broken : (a : Around) (st : HeldSites) (m : Mode) (params : List LambdaParam) (x : Exp) (r : Refusal) → ((names : Names) → Reads a.scope.cons.names names.cons → Refuses [] (BreaksForms 65536 names params) r) → Tells a st (e.Lambda params x) m r
form-broken a st m params x r h = λ w s stands.
    let f : Refuses [] (BreaksForms 65536 s.names params) r = h s.names stands.cons in
    subst (λ z. HasFault (names_at a) w s (sites_in st) z m r) (sym (lambda-plain params x))
    (broken-here (f.0, bad_form (subst (λ n. BreaksForms n s.names params f.0) (sym (most_is a w s stands)) f.1), form-told 65536 s.names params f.0 r [] (names_at a) f.1 f.2))

pub name-broken : (a : Around) (st : HeldSites) (m : Mode) (params : List LambdaParam) (x : Exp) (ls own : List HeldLocal) → AreOut a params ls → own ≡ ls → (r : Refusal) → TwiceTold own r → Tells a st (e.Lambda params x) m r
name-broken a st m params x ls own h n r t = λ w s stands.
    let there : TwiceTold ls r = subst (λ z. TwiceTold z r) n t in
    subst (λ z. HasFault (names_at a) w s (sites_in st) z m r) (sym (lambda-plain params x)) (broken-here (twice there.0, param_twice (out-there a params ls h w s stands) there.1 there.2, there.3))

as-param : (env : Env) (ps : List LambdaParam) (qs : List Param) (f : Fault) → BreaksParameters env ps qs f → BreaksParams env ps qs f
as-param env _ _ f (this_parameter b) = this_param b
as-param env _ _ f (later_parameter {ps = ps} {qs = qs} b) = later_param (as-param env ps qs f b)

pub param-broken : (a : Around) (st : HeldSites) (m : Mode) (params : List LambdaParam) (x : Exp) (ls own : List HeldLocal) → AreOut a params ls → own ≡ ls → (r : Refusal) → Refuses (names_at a) (BreaksParameters (env_in a.scope.cons) params (map param_in own)) r → Tells a st (e.Lambda params x) m r
param-broken a st m params x ls own h n r t = λ w s stands.
    let there : BreaksParameters (env_in a.scope.cons) params (map param_in ls) t.0 = subst (λ z. BreaksParameters (env_in a.scope.cons) params (map param_in z) t.0) n t.1 in
    subst (λ z. HasFault (names_at a) w s (sites_in st) z m r) (sym (lambda-plain params x))
    (broken-here (t.0, bad_param (out-there a params ls h w s stands) (as-param s.env params (map param_in ls) t.0 (params-there s.env (env_in a.scope.cons) params (map param_in ls) t.0 (like-there a w s stands) there)), t.2))

pub in-body : (a i : Around) (st : HeldSites) (m : Mode) (params : List LambdaParam) (x : Exp) (ls own : List HeldLocal) (n : Mode) → AreOut a params ls → own ≡ ls → IsWithinLambda a own i → n ≡ of_result own m → (r : Refusal) → Tells i st x.form n r → Tells a st (e.Lambda params x) m r
in-body a i st m params x ls own n h e j asks r f = λ w s stands.
    let inner : Stands i w (within_params (map local_in ls) (map param_in ls) s) = stands-lambda a i ls (subst (λ z. IsWithinLambda a z i) e j) w s stands in
    let mode : n ≡ of_result (map param_in ls) m = asks ∙ ap (λ z. of_result z m) e ∙ sym (result-is param_in ls m) in
    let there : HasFault (names_at a) w (within_params (map local_in ls) (map param_in ls) s) (sites_in st) x.form n r = told-there a i j.world (f w (within_params (map local_in ls) (map param_in ls) s) inner) in
    subst (λ z. HasFault (names_at a) w s (sites_in st) z m r) (sym (lambda-plain params x))
    (broken-within (in_lambda (out-there a params ls h w s stands)) (subst (λ z. HasFault (names_at a) w (within_params (map local_in ls) (map param_in ls) s) (sites_in st) x.form z r) mode there))

-- a result with an arrow
abbrev pub IsCurried : List (List ℕ) → NormalType → Refusal → Type 0
IsCurried names t r = (holds_arrow t ≡ true) × TellsFault names r (not_so (type_text names t) (codes "a result without an arrow"))

pub arrow-told : (names : List (List ℕ)) (t : NormalType) (s : Stop) → holds_arrow t ≡ true → StopIs names (not_so (type_text names t) (codes "a result without an arrow")) s → IfRefused {A = Unit {0}} (Err s) (IsCurried names t)
arrow-told names t (stop.Refused r) h k = (h, k)
arrow-told names t stop.Memory h k = tt

pub curried-told : (a i : Around) (st0 st1 : HeldSites) (m : Mode) (params : List LambdaParam) (x : Exp) (ls own : List HeldLocal) (n : Mode) (out : HeldOut) → AreOut a params ls → own ≡ ls → IsWithinLambda a own i → n ≡ of_result own m → GivesAt i st0 x n out st1 →
    (r : Refusal) → IsCurried (names_at a) out.of r → Tells a st0 (e.Lambda params x) m r
curried-told a i st0 st1 m params x ls own n out h e j asks g r c = λ w s stands.
    let inner : Stands i w (within_params (map local_in ls) (map param_in ls) s) = stands-lambda a i ls (subst (λ z. IsWithinLambda a z i) e j) w s stands in
    let mode : of_result (map param_in ls) m ≡ n = result-is param_in ls m ∙ ap (λ z. of_result z m) (sym e) ∙ sym asks in
    let body : typed w x.form (within_params (map local_in ls) (map param_in ls) s) (sites_in st0) (of_result (map param_in ls) m) ≡ Some (out_in out st1) =
    ap (λ z. typed w x.form (within_params (map local_in ls) (map param_in ls) s) (sites_in st0) z) mode ∙ g w (within_params (map local_in ls) (map param_in ls) s) inner in
    subst (λ z. HasFault (names_at a) w s (sites_in st0) z m r) (sym (lambda-plain params x)) (broken-here (not_so (type_text (names_at a) out.of) (codes "a result without an arrow"), curried (out-there a params ls h w s stands) body c.0, c.1))

-- within a lambda the code stands somewhere too
pub somewhere-lambda : (a i : Around) (own : List HeldLocal) → IsWithinLambda a own i → StandsSomewhere a → StandsSomewhere i
somewhere-lambda a i own r p = (p.0, within_params (map local_in own) (map param_in own) p.1, stands-lambda a i own r p.0 p.1 p.2)
