-- What is so of arguments and parameters where only the constructors in scope are told is so in each scope that has them.
use Rattle.std.proofs.Common.{◌≡◌, refl, ap, ap₂, sym, ◌∙◌, subst, Bool, ◌&&◌, List, [], ◌∷◌}
use Rattle.std.specs.List.{list_all}
use Rattle.ur_syntax.specs.declared.kind.Kind.{Kind}
use Rattle.ur_syntax.specs.declared.con.Con.{Con}
use Rattle.ur_rows.specs.declared.normal.Normal.{Normal}
use Rattle.ur_rows.specs.declared.normal.Normal.TheVariants as normal
use Rattle.ur_rows.specs.declared.normal.NormalType.{NormalType}
use Rattle.ur_rows.specs.Apart.{Assumptions}
use Rattle.ur_rows.specs.Kinded.{type_is_in, is_of_kind}
use Rattle.ur_rows.specs.Put.{instance_row}
use Rattle.ur_rows.specs.Types.{is_placed}
use Rattle.ur_syntax.specs.declared.exp.LambdaParam.{LambdaParam}
use Rattle.ur_syntax.specs.declared.exp.Param.{Param as WrittenParam}
use Rattle.ur_tree.specs.declared.exp.Param.{Param}
use Rattle.ur_tree.specs.declared.typed.ConParam.{ConParam}
use Rattle.ur_tree.specs.Env.{Env, variables, con_is_plain, kinds_of, rows_apart}
use Rattle.ur_typed_rules.specs.Tests.{is_apart, are_apart, rows_are_apart, row_rows_are_apart, con_rows_are_apart, have_kinds, are_arguments, is_type, is_param, are_params}
use Rattle.ur_typed_rules.specs.Faults.{Fault}
use Rattle.ur_typed_rules.specs.Meeting.{MeetsCon}
use Rattle.ur_typed_rules.specs.Arguments.{BreaksApart, BreaksPlace, type_of_other_kind, type_not_apart, BreaksParameter, param_out_of_place, param_not_placed, BreaksWritten, breaks_written, BreaksLambdaParam, breaks_typed, BreaksKinds, con_lacks, con_exceeds, con_other_kind, con_meets, con_not_plain, con_later, IsUnmet, BreaksGiven, of_other_kinds, given_unmet, given_repeats}
use Rattle.ur_check_scopes.specs.Params.{BreaksParameters, this_parameter, later_parameter}

-- the kinds of the variables and what is known apart are the same
pub record AreLike (d e : Env) : Type 0 where
  pub kinds : d.kinds ≡ e.kinds
  pub known : d.known ≡ e.known

same-rows : (d e : Env) (a : Normal) → AreLike d e → con_rows_are_apart d a ≡ con_rows_are_apart e a
same-rows d e (normal.Type t) l = ap (λ z. rows_are_apart z t) l.known
same-rows d e (normal.Row r) l = ap (λ z. are_apart z r && row_rows_are_apart z r) l.known
same-rows d e (normal.Name x) l = refl
same-rows d e (normal.Fn' k _ c) l = refl

same-kind : (d e : Env) (a : Normal) (k : Kind) → AreLike d e → is_of_kind (variables d) a k ≡ is_of_kind (variables e) a k
same-kind d e a k l = ap (λ z. is_of_kind (record { free = z; bound = [] }) a k) l.kinds

same-kinds : (d e : Env) (args : List Normal) (ks : List Kind) → AreLike d e → have_kinds d args ks ≡ have_kinds e args ks
same-kinds d e [] [] l = refl
same-kinds d e [] (k ∷ ks) l = refl
same-kinds d e (a ∷ args) [] l = refl
same-kinds d e (a ∷ args) (k ∷ ks) l =
    ap (λ z. z && (con_rows_are_apart d a && (con_is_plain a && have_kinds d args ks))) (same-kind d e a k l)
    ∙ ap (λ z. is_of_kind (variables e) a k && (z && (con_is_plain a && have_kinds d args ks))) (same-rows d e a l)
    ∙ ap (λ z. is_of_kind (variables e) a k && (con_rows_are_apart e a && (con_is_plain a && z))) (same-kinds d e args ks l)

abbrev all_met : Assumptions → List Normal → Assumptions → Bool
all_met known args wanted = list_all (λ p. is_apart known (instance_row args p.0) (instance_row args p.1)) wanted

pub same-arguments : (d e : Env) (cons : List ConParam) (args : List Normal) → AreLike d e → are_arguments d cons args ≡ are_arguments e cons args
same-arguments d e cons args l =
    ap₂ (λ a b. a && b) (same-kinds d e args (kinds_of cons) l) (ap (λ known. all_met known args (rows_apart cons)) l.known)

kinds-there : (d e : Env) (args : List Normal) (ks : List Kind) (f : Fault) → AreLike d e → BreaksKinds e args ks f → BreaksKinds d args ks f
kinds-there d e _ _ _ l con_lacks = con_lacks
kinds-there d e _ _ _ l con_exceeds = con_exceeds
kinds-there d e _ _ _ l (con_other_kind {a = a} {k = k} h) = con_other_kind (same-kind d e a k l ∙ h)
kinds-there d e _ _ _ l (con_meets {a = a} {r = r} {t = t} m) = con_meets (subst (λ z. MeetsCon z a r t) (sym l.known) m)
kinds-there d e _ _ _ l (con_not_plain h) = con_not_plain h
kinds-there d e _ _ f l (con_later {args = args} {ks = ks} b) = con_later (kinds-there d e args ks f l b)

pub given-there : (d e : Env) (given : List Con) (args : List Normal) (cons : List ConParam) (f : Fault) → AreLike d e → BreaksGiven e given args cons f → BreaksGiven d given args cons f
given-there d e given args cons f l (of_other_kinds b) = of_other_kinds (kinds-there d e args (kinds_of cons) f l b)
given-there d e given args cons _ l (given_unmet {a = a} {b = b} u) = given_unmet (subst (λ z. IsUnmet z args (rows_apart cons) a b) (sym l.known) u)
given-there d e given args cons _ l (given_repeats m r h) = given_repeats m r (same-arguments d e cons args l ∙ h)

-- ---- parameters

same-types : (d e : Env) (t : NormalType) → AreLike d e → is_type d t ≡ is_type e t
same-types d e t l = ap₂ (λ a b. a && b) (ap (λ z. type_is_in (record { free = z; bound = [] }) t) l.kinds) (ap (λ z. rows_are_apart z t) l.known)

same-param : (d e : Env) (p : Param) → AreLike d e → is_param d p ≡ is_param e p
same-param d e p l = ap (λ z. z && is_placed p.of) (same-types d e p.of l)

pub same-params : (d e : Env) (ps : List Param) → AreLike d e → are_params d ps ≡ are_params e ps
same-params d e [] l = refl
same-params d e (p ∷ ps) l = ap₂ (λ a b. a && b) (same-param d e p l) (same-params d e ps l)

place-there : (d e : Env) (c : Con) (t : NormalType) (f : Fault) → AreLike d e → BreaksPlace e c t f → BreaksPlace d c t f
place-there d e c t _ l (type_of_other_kind h) = type_of_other_kind (ap (λ z. type_is_in (record { free = z; bound = [] }) t) l.kinds ∙ h)
place-there d e c t f l (type_not_apart b) = type_not_apart (subst (λ z. BreaksApart z c t f) (sym l.known) b)

pub param-there : (d e : Env) (c : Con) (t : NormalType) (f : Fault) → AreLike d e → BreaksParameter e c t f → BreaksParameter d c t f
param-there d e c t f l (param_out_of_place b) = param_out_of_place (place-there d e c t f l b)
param-there d e c t _ l (param_not_placed h) = param_not_placed h

pub written-there : (d e : Env) (p : WrittenParam) (t : NormalType) (f : Fault) → AreLike d e → BreaksWritten e p t f → BreaksWritten d p t f
written-there d e _ t f l (breaks_written {c = c} b) = breaks_written (param-there d e c t f l b)

lambda-param-there : (d e : Env) (p : LambdaParam) (t : NormalType) (f : Fault) → AreLike d e → BreaksLambdaParam e p t f → BreaksLambdaParam d p t f
lambda-param-there d e _ t f l (breaks_typed {p = p} b) = breaks_typed (written-there d e p t f l b)

pub params-there : (d e : Env) (ps : List LambdaParam) (qs : List Param) (f : Fault) → AreLike d e → BreaksParameters e ps qs f → BreaksParameters d ps qs f
params-there d e _ _ f l (this_parameter {p = p} {q = q} b) = this_parameter (lambda-param-there d e p q.of f l b)
params-there d e _ _ f l (later_parameter {ps = ps} {qs = qs} b) = later_parameter (params-there d e ps qs f l b)
