-- Constructor arguments and parameters, place by place.
use Rattle.std.specs.Prelude.{codes, not, ◌||◌}
use Rattle.std.proofs.Common.{◌≡◌, arith, refl, ap, ap₂, sym, ◌∙◌, subst, subst₂, inl, inr, ℕ, suc, ◌+◌, ◌<◌, ◌≤◌, Bool, true, false, ◌&&◌, true≢false, length, get_or, drop, drop_of_length-le, List, [], ◌∷◌, map, Err, Contains}
use Rattle.ur_base.specs.Stopping.{IfRefused}
use Rattle.ur_base.specs.declared.refusal.Stop.{Stop}
use Rattle.ur_base.specs.declared.refusal.Stop.TheVariants as stop
use Rattle.ur_rows_reduce.specs.declared.count.Halt.{Halt}
use Rattle.ur_rows_reduce.specs.declared.count.Halt.TheVariants as halt
use Rattle.ur_syntax.specs.declared.kind.Kind.{Kind}
use Rattle.ur_syntax.specs.declared.con.Con.{Con}
use Rattle.ur_rows.specs.declared.normal.Normal.{Normal}
use Rattle.ur_rows.specs.declared.normal.Part.{Part}
use Rattle.ur_rows.specs.Apart.{Assumptions}
use Rattle.ur_rows.specs.Kinded.{is_of_kind}
use Rattle.ur_rows.specs.Put.{instance_type, instance_row}
use Rattle.ur_rows.specs.Types.{holds_arrow}
use Rattle.ur_tree.specs.declared.exp.Param.{Param}
use Rattle.ur_tree.specs.Typing.{keeps_arrows}
use Rattle.ur_check_scopes.proofs.Loops.{drop-here}
use Rattle.ur_tree.specs.declared.typed.ConParam.{ConParam}
use Rattle.ur_tree.specs.declared.typed.ConParam.TheVariants as con_param
use Rattle.ur_tree.specs.Env.{Env, variables, con_is_plain, kinds_of, rows_apart}
use Rattle.ur_typed_rules.specs.Tests.{is_apart, con_rows_are_apart, have_kinds, obligations_met, are_arguments}
use Rattle.ur_disjoint.proofs.Members.{in-contains, contains-in}
use Rattle.ur_rows.specs.declared.normal.Normal.TheVariants as normal
use Rattle.ur_typed_rules.specs.Faults.{Fault, not_apart, mismatch, not_so, unkinded, too_large}
use Rattle.ur_typed_rules.specs.Meeting.{in_type, in_row}
use Rattle.ur_typed_rules.specs.Arguments.{type_repeats, type_meets, row_repeats, row_meets, BreaksCon, BreaksKinds, con_lacks, con_exceeds, con_other_kind, con_meets, con_not_plain, con_later, BreaksGiven, of_other_kinds, given_unmet, given_repeats, IsUnmet, this_pair, later_pair}
use Rattle.ur_typed_rules.specs.Arguments as rules
use Rattle.ur_typed_rules.proofs.Options.{and_left, second_of}
use Rattle.ur_typed_rules.proofs.Meeting.{in_false, row_meets_false}
use Rattle.ur_check_scopes.specs.Views.{IsLarge, StopIs}
use Rattle.ur_check_scopes.specs.declared.arguments.Given.{Given}
use Rattle.ur_check_scopes.specs.Arguments.{StopsBy, IsArgument, BreaksArgument, not_of_kind, rows_meet, not_plain, BreaksKind, no_argument, argument_breaks, IsPast, BreaksParam, kind_breaks, Leads, IsMet, BreaksMet, pair_meets, BreaksHaving, having_breaks, having_repeats, BreaksObligations, some_unmet}

-- ---- what is too large

pub stops-by : (h : Halt) (s : Stop) → h ≡ halt.TooLarge → StopIs [] too_large s → StopsBy h s
stops-by h (stop.Refused r) e t = (e, t)
stops-by h stop.Memory e t = tt

pub halted-large : (P : Type 0) (h : Halt) (s : Stop) → StopsBy h s → (h ≡ halt.TooLarge → P) → IfRefused {A = Unit {0}} (Err s) (λ r. IsLarge r × P)
halted-large P h (stop.Refused r) b f = (b.1, f b.0)
halted-large P h stop.Memory b f = tt

-- ---- one argument

-- what breaks the rule of the rows in a constructor is told of rows that are not apart
pub con-false : (env : Env) (c : Con) (a : Normal) (f : Fault) → BreaksCon env.known c a f → con_rows_are_apart env a ≡ false
con-false env c _ _ (rules.of_type (type_repeats r h)) = h
con-false env c _ _ (rules.of_type {t = t} (type_meets {a = a} {b = b} m)) = in_false env.known t a b m
con-false env c _ _ (rules.of_row (row_repeats r h)) = h
con-false env c _ _ (rules.of_row {r = r} (row_meets {a = a} {b = b} m)) = row_meets_false env.known r a b m

pub further : {A : Type 0} (x y : A) (xs : List A) → Contains xs y → Contains (x ∷ xs) y
further x y xs h = contains-in y (x ∷ xs) (inr (in-contains y xs h))

pub none-left : {A : Type 0} (xs : List A) → length xs ≡ 0 → xs ≡ []
none-left [] h = refl
none-left (x ∷ xs) h = absurd (never (length xs) h)
  where
    never : (n : ℕ) → suc n ≡ 0 → ⊥
    never n h = omega arith

map-step : {A B : Type 0} (xs ys : List A) (x : A) (f : A → B) → xs ≡ x ∷ ys → map f xs ≡ f x ∷ map f ys
map-step xs ys x f e = ap (map f) e

-- ---- kinds

pub leads-start : (env : Env) (g : Given) (cons : List ConParam) → Leads env g cons g cons
leads-start env g cons = record { kinds = refl; broken = λ f h. h }

kinds-past : (env : Env) (a : Normal) (k : Kind) (args : List Normal) (ks : List Kind) → IsArgument env a k → have_kinds env (a ∷ args) (k ∷ ks) ≡ have_kinds env args ks
kinds-past env a k args ks h =
    ap (λ z. z && (con_rows_are_apart env a && (con_is_plain a && have_kinds env args ks))) h.0 ∙ ap (λ z. z && (con_is_plain a && have_kinds env args ks)) h.1 ∙ ap (λ z. z && have_kinds env args ks) h.2

having-later : (env : Env) (g h : Given) (a : Normal) (c : Con) (k : Kind) (cons : List ConParam) → g.args.now ≡ a ∷ h.args.now → map (λ x. x.now) g.written.now ≡ c ∷ map (λ x. x.now) h.written.now → IsArgument env a k →
    (f : Fault) → BreaksHaving env h cons f → BreaksHaving env g (con_param.Kinded k ∷ cons) f
having-later env g h a c k cons e q is f (having_breaks b) = having_breaks (subst (λ z. BreaksKinds env z (k ∷ kinds_of cons) f) (sym e) (con_later b))
having-later env g h a c k cons e q is _ (having_repeats {c = d} m r n) =
    having_repeats (subst (λ z. Contains z d) (sym q) (further c d (map (λ x. x.now) h.written.now) m)) r (ap (λ z. have_kinds env z (k ∷ kinds_of cons)) e ∙ kinds-past env a k h.args.now (kinds_of cons) is ∙ n)

pub leads-past : (env : Env) (g h i : Given) (all : List ConParam) (p : ConParam) (rest : List ConParam) → Leads env g all h (p ∷ rest) → IsPast env h p i → Leads env g all i rest
leads-past env g h i all (con_param.Kinded k) rest l x = record {
  kinds = l.kinds ∙ ap (λ z. have_kinds env z (k ∷ kinds_of rest)) x.2 ∙ kinds-past env x.0 k i.args.now (kinds_of rest) x.4;
  broken = λ f b. l.broken f (having-later env h i x.0 x.1.now k rest x.2 (map-step h.written.now i.written.now x.1 (λ y. y.now) x.3) x.4 f b);
}
leads-past env g h i all (con_param.Apart r s) rest l e = subst (λ z. Leads env g all z rest) (sym e) (record { kinds = l.kinds; broken = λ f b. l.broken f (unmoved f b) })
  where
    unmoved : (f : Fault) → BreaksHaving env h rest f → BreaksHaving env h (con_param.Apart r s ∷ rest) f
    unmoved f (having_breaks b) = having_breaks b
    unmoved _ (having_repeats m r n) = having_repeats m r n

not-argument : (env : Env) (a : Normal) (k : Kind) (args : List Normal) (ks : List Kind) → con_rows_are_apart env a ≡ false → have_kinds env (a ∷ args) (k ∷ ks) ≡ false
not-argument env a k args ks h = second_of (is_of_kind (variables env) a k) (con_rows_are_apart env a) (con_is_plain a && have_kinds env args ks) h

of-con : (env : Env) (g : Given) (a : Normal) (args : List Normal) (c : Con) (k : Kind) (cons : List ConParam) → g.args.now ≡ a ∷ args → Contains (map (λ x. x.now) g.written.now) c → con_rows_are_apart env a ≡ false →
    (f : Fault) → BreaksCon env.known c a f → BreaksHaving env g (con_param.Kinded k ∷ cons) f
of-con env g _ args c k cons e m n _ (rules.of_type {t = t} (type_repeats r h)) = having_repeats m r (ap (λ z. have_kinds env z (k ∷ kinds_of cons)) e ∙ not-argument env (normal.Type t) k args (kinds_of cons) n)
of-con env g _ args c k cons e m n _ (rules.of_type {t = t} (type_meets {a = x} {b = y} b)) = having_breaks (subst (λ z. BreaksKinds env z (k ∷ kinds_of cons) (not_apart x y)) (sym e) (con_meets (in_type b)))
of-con env g _ args c k cons e m n _ (rules.of_row {r = s} (row_repeats r h)) = having_repeats m r (ap (λ z. have_kinds env z (k ∷ kinds_of cons)) e ∙ not-argument env (normal.Row s) k args (kinds_of cons) n)
of-con env g _ args c k cons e m n _ (rules.of_row {r = s} (row_meets {a = x} {b = y} b)) = having_breaks (subst (λ z. BreaksKinds env z (k ∷ kinds_of cons) (not_apart x y)) (sym e) (con_meets (in_row b)))

of-argument : (env : Env) (g : Given) (a : Normal) (args : List Normal) (c : Con) (k : Kind) (cons : List ConParam) → g.args.now ≡ a ∷ args → Contains (map (λ x. x.now) g.written.now) c →
    (f : Fault) → BreaksArgument env c a k f → BreaksHaving env g (con_param.Kinded k ∷ cons) f
of-argument env g a args c k cons e m _ (not_of_kind h) = having_breaks (subst (λ z. BreaksKinds env z (k ∷ kinds_of cons) (unkinded (codes "another kind") (codes "the kind of the parameter"))) (sym e) (con_other_kind h))
of-argument env g a args c k cons e m f (rows_meet b n) = of-con env g a args c k cons e m n f b
of-argument env g a args c k cons e m _ (not_plain h) = having_breaks (subst (λ z. BreaksKinds env z (k ∷ kinds_of cons) (not_so (codes "a constructor argument") (codes "no arrow and no transaction"))) (sym e) (con_not_plain h))

of-kind : (env : Env) (g : Given) (k : Kind) (cons : List ConParam) (f : Fault) → BreaksKind env g k f → BreaksHaving env g (con_param.Kinded k ∷ cons) f
of-kind env g k cons _ (no_argument e) = having_breaks (subst (λ z. BreaksKinds env z (k ∷ kinds_of cons) (not_so (codes "too few constructor arguments") (codes "all arguments"))) (sym e) con_lacks)
of-kind env g k cons f (argument_breaks {a = a} {args = args} {c = c} e m b) = of-argument env g a args c k cons e m f b

pub of-param : (env : Env) (g h : Given) (all : List ConParam) (p : ConParam) (rest : List ConParam) → Leads env g all h (p ∷ rest) → (f : Fault) → BreaksParam env h p f → BreaksHaving env g all f
of-param env g h all _ rest l f (kind_breaks {k = k} b) = l.broken f (of-kind env h k rest f b)

-- one argument, which is written so
pub the-argument : (env : Env) (g : Given) (a : Normal) (args : List Normal) (c : Con) (cs : List Con) (k : Kind) → g.args.now ≡ a ∷ args → map (λ x. x.now) g.written.now ≡ c ∷ cs → (f : Fault) → BreaksArgument env c a k f → BreaksKind env g k f
the-argument env g a args c cs k e q f b = argument_breaks e (subst (λ z. Contains z c) (sym q) (contains-in c (c ∷ cs) (inl refl))) b

pub kinds-right : (env : Env) (g h : Given) (cons : List ConParam) → Leads env g cons h [] → h.args.now ≡ [] → have_kinds env g.args.now (kinds_of cons) ≡ true
kinds-right env g h cons l e = l.kinds ∙ ap (λ z. have_kinds env z []) e

pub of-more : (env : Env) (g h : Given) (all : List ConParam) (a : Normal) (args : List Normal) → Leads env g all h [] → h.args.now ≡ a ∷ args → BreaksHaving env g all (mismatch (codes "a constructor argument") (codes "no further argument"))
of-more env g h all a args l e = l.broken _ (having_breaks (subst (λ z. BreaksKinds env z [] (mismatch (codes "a constructor argument") (codes "no further argument"))) (sym e) con_exceeds))

-- ---- rows that are wanted apart

-- the rows that are left are apart, or two of them are not, as all are
pub record MeetsAlong (env : Env) (args : List Normal) (all left : List ConParam) : Type 0 where
  pub met : obligations_met env args (rows_apart left) ≡ true → obligations_met env args (rows_apart all) ≡ true
  pub unmet : (a b : List Part) → IsUnmet env.known args (rows_apart left) a b → IsUnmet env.known args (rows_apart all) a b

pub meets-start : (env : Env) (args : List Normal) (cons : List ConParam) → MeetsAlong env args cons cons
meets-start env args cons = record { met = λ h. h; unmet = λ a b h. h }

both-true : (a b : Bool) → a ≡ true → b ≡ true → (a && b) ≡ true
both-true true b e h = h
both-true false b e h = absurd (true≢false (sym e))

pub meets-past : (env : Env) (args : List Normal) (all : List ConParam) (p : ConParam) (rest : List ConParam) → MeetsAlong env args all (p ∷ rest) → IsMet env.known args p → MeetsAlong env args all rest
meets-past env args all (con_param.Kinded k) rest l is = record { met = l.met; unmet = l.unmet }
meets-past env args all (con_param.Apart r s) rest l is = record {
  met = λ h. l.met (both-true (is_apart env.known (instance_row args r) (instance_row args s)) (obligations_met env args (rows_apart rest)) is h);
  unmet = λ a b u. l.unmet a b (later_pair u);
}

pub apart-met : (known : Assumptions) (args : List Normal) (r s x y : List Part) (b : Bool) → x ≡ instance_row args r → y ≡ instance_row args s → b ≡ is_apart known x y → b ≡ true → is_apart known (instance_row args r) (instance_row args s) ≡ true
apart-met known args r s x y b e f p h = ap₂ (is_apart known) (sym e) (sym f) ∙ sym p ∙ h

pub apart-unmet : (known : Assumptions) (args : List Normal) (r s x y : List Part) (b : Bool) → x ≡ instance_row args r → y ≡ instance_row args s → b ≡ is_apart known x y → b ≡ false → BreaksMet known args (con_param.Apart r s) (not_apart x y)
apart-unmet known args r s x y b e f p h =
    subst₂ (λ u v. BreaksMet known args (con_param.Apart r s) (not_apart u v)) (sym e) (sym f) (pair_meets (ap₂ (is_apart known) (sym e) (sym f) ∙ sym p ∙ h))

pub of-met : (env : Env) (args : List Normal) (all : List ConParam) (p : ConParam) (rest : List ConParam) → MeetsAlong env args all (p ∷ rest) → (f : Fault) → BreaksMet env.known args p f → BreaksObligations env.known args all f
of-met env args all _ rest l _ (pair_meets {r = r} {s = s} h) = some_unmet (l.unmet (instance_row args r) (instance_row args s) (this_pair h))

pub meets-end : (env : Env) (args : List Normal) (all : List ConParam) → MeetsAlong env args all [] → obligations_met env args (rows_apart all) ≡ true
meets-end env args all l = l.met refl

-- ---- all arguments

pub given-having : (env : Env) (g : Given) (cons : List ConParam) (f : Fault) → BreaksHaving env g cons f → BreaksGiven env (map (λ x. x.now) g.written.now) g.args.now cons f
given-having env g cons f (having_breaks b) = of_other_kinds b
given-having env g cons _ (having_repeats m r n) = given_repeats m r (and_left (have_kinds env g.args.now (kinds_of cons)) (obligations_met env g.args.now (rows_apart cons)) n)

pub given-obligation : (env : Env) (given : List Con) (args : List Normal) (cons : List ConParam) (f : Fault) → BreaksObligations env.known args cons f → BreaksGiven env given args cons f
given-obligation env given args cons _ (some_unmet u) = given_unmet u

pub all-arguments : (env : Env) (args : List Normal) (cons : List ConParam) → have_kinds env args (kinds_of cons) ≡ true → obligations_met env args (rows_apart cons) ≡ true → are_arguments env cons args ≡ true
all-arguments env args cons h k = both-true (have_kinds env args (kinds_of cons)) (obligations_met env args (rows_apart cons)) h k

-- ---- what keeps its arrow

pub free-keeps : (fixed b : Bool) → fixed ≡ false → true ≡ (not fixed || b)
free-keeps fixed b e = ap (λ z. not z || b) (sym e)

pub fixed-keeps : (fixed b c : Bool) → fixed ≡ true → c ≡ b → c ≡ (not fixed || b)
fixed-keeps fixed b c e h = h ∙ ap (λ z. not z || b) (sym e)

abbrev keeps : List Normal → Param → Bool
keeps args p = not p.fixed || holds_arrow (instance_type args p.of)

pub keeps-past : (args : List Normal) (ps : List Param) (i : ℕ) (p : Param) (b : Bool) → i < length ps → p ≡ get_or ps i p → b ≡ keeps args p → b ≡ true → keeps_arrows args (drop i ps) ≡ keeps_arrows args ps → keeps_arrows args (drop (i + 1) ps) ≡ keeps_arrows args ps
keeps-past args ps i p b h is q t inv = ap (λ z. z && keeps_arrows args (drop (i + 1) ps)) (sym t ∙ q) ∙ ap (keeps_arrows args) (sym (drop-here ps i p h is)) ∙ inv

pub keeps-not : (args : List Normal) (ps : List Param) (i : ℕ) (p : Param) (b : Bool) → i < length ps → p ≡ get_or ps i p → b ≡ keeps args p → b ≡ false → keeps_arrows args (drop i ps) ≡ keeps_arrows args ps → false ≡ keeps_arrows args ps
keeps-not args ps i p b h is q t inv = ap (λ z. z && keeps_arrows args (drop (i + 1) ps)) (sym t ∙ q) ∙ ap (keeps_arrows args) (sym (drop-here ps i p h is)) ∙ inv

pub keeps-end : (args : List Normal) (ps : List Param) (i : ℕ) → length ps ≤ i → keeps_arrows args (drop i ps) ≡ keeps_arrows args ps → true ≡ keeps_arrows args ps
keeps-end args ps i h inv = ap (keeps_arrows args) (sym (drop_of_length-le ps h)) ∙ inv
