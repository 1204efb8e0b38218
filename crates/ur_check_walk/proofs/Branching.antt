-- The branches of a `case`.
use Rattle.std.proofs.Common.{◌≡◌, refl, ap, sym, ◌∙◌, subst, ℕ, ◌+◌, ◌<◌, ◌≤◌, true, List, [], ◌∷◌, ◌++◌, map, length, drop, get_or, drop_of_length-le, Option, Some, None}
use Rattle.std.specs.Prelude.{option_map, option_and_then}
use Rattle.ur_base.specs.declared.refusal.Refusal.{Refusal}
use Rattle.ur_syntax.specs.declared.exp.Branch.{Branch}
use Rattle.ur_syntax.specs.declared.exp.Exp.{Exp}
use Rattle.ur_syntax.specs.declared.exp.PatForm.{PatForm}
use Rattle.ur_syntax.specs.declared.exp.ExpForm.{ExpForm, end_of-Exp as alone, more_of-Exp as its}
use Rattle.ur_syntax.specs.declared.exp.ExpForm.TheVariants as e
use Rattle.ur_terms.specs.declared.term.Pattern.{Pattern}
use Rattle.ur_rows.specs.declared.normal.NormalType.{NormalType}
use Rattle.ur_tree.specs.declared.exp.Branch.{Branch as ResolvedBranch}
use Rattle.ur_tree.specs.Make as make
use Rattle.ur_typed_rules.specs.Scopes.{World, Scope, Mode, finds, wants, within_branch}
use Rattle.ur_typed_rules.specs.Tests.{are_distinct, covers}
use Rattle.ur_typed_rules.specs.Rules.{if_so, pattern_of, bound_in}
use Rattle.ur_typed_rules.specs.Patterns.{BreaksPat, BreaksCover}
use Rattle.ur_typed.specs.Rules.{Sites, Out, Branches, gives, no_branches, with_branch, branch_within, branch_by, branch_out}
use Rattle.ur_typed.specs.Walking.{walk, typed, branches_walk}
use Rattle.ur_typed.specs.Parts.{this_branch, later_branch, scrutinee, branch}
use Rattle.ur_typed.specs.Faults.{this_pattern, later_pattern}
use Rattle.ur_typed.specs.Causes.{HasFault, branch_pattern, bad_cover}
use Rattle.ur_check_scopes.specs.declared.locals.Local.{Local as HeldLocal}
use Rattle.ur_check_scopes.specs.declared.around.Around.{Around}
use Rattle.ur_check_scopes.specs.Views.{Stands, Refuses, world_in, globals_in, declared_in, local_in, of_variables}
use Rattle.ur_check_scopes.proofs.Loops.{drop-here, drop-none}
use Rattle.ur_check_cases.specs.Covering.{patterns_in}
use Rattle.ur_check_rules.specs.declared.out.Out.{Out as HeldOut}
use Rattle.ur_check_rules.specs.declared.out.Sites.{Sites as HeldSites}
use Rattle.ur_check_rules.specs.Views.{sites_in, out_in, branches_with}
use Rattle.ur_check_walk.specs.Promises.{StandsSomewhere, Gives, Tells}
use Rattle.ur_check_walk.specs.Binding.{IsWithin, branch_row, asked, IsBranch, BranchFault, of_pattern, of_body, BranchesFault, of_patterns, of_bodies, before, GivesBranches, TellsBranches, GivesBranch, TellsBranch}
use Rattle.ur_check_walk.proofs.Steps.{part as broken-within, rule as broken-here}
use Rattle.ur_check_walk.proofs.Wholes.{told-there, case-plain}
use Rattle.ur_check_walk.proofs.Binders.{pattern-free, stands-branch}
use Rattle.ur_check_walk.proofs.Choosing.{GivesAt}

abbrev names_at : Around → List (List ℕ)
names_at a = a.world.now.datatype_names

-- ---- one branch

pattern-there : (a : Around) (t : PatForm) (p : Pattern) (ls : List HeldLocal) → pattern_of (globals_in a.world.now) t ≡ Some (map local_in ls, p) → (w : World) (s : Scope) → Stands a w s → pattern_of w.globals t ≡ Some (map local_in ls, p)
pattern-there a t p ls h w s stands = ap (λ z. pattern_of z.globals t) stands.world ∙ h

types-there : (a : Around) (u : NormalType) (p : Pattern) (ls : List HeldLocal) → bound_in (world_in a.world.now) u (map local_in ls, p) ≡ Some (of_variables ls) → (w : World) (s : Scope) → Stands a w s → bound_in w u (map local_in ls, p) ≡ Some (of_variables ls)
types-there a u p ls h w s stands = ap (λ z. bound_in z u (map local_in ls, p)) stands.world ∙ h

inner-stands : (a i : Around) (t : PatForm) (p : Pattern) (ls own : List HeldLocal) → pattern_of (globals_in a.world.now) t ≡ Some (map local_in ls, p) → own ≡ ls → IsWithin a own i → (w : World) (s : Scope) → Stands a w s →
    Stands i w (within_branch (map local_in ls) (of_variables ls) s)
inner-stands a i t p ls own h n r w s stands = stands-branch a i ls (pattern-free (globals_in a.world.now) t ls p h) (subst (λ z. IsWithin a z i) n r) w s stands

pub branch-made : (a i : Around) (u : NormalType) (st0 st1 : HeldSites) (m : Mode) (b : Branch) (p : Pattern) (o : HeldOut) (ls own : List HeldLocal) → pattern_of (globals_in a.world.now) b.pat.form ≡ Some (map local_in ls, p) →
    bound_in (world_in a.world.now) u (map local_in ls, p) ≡ Some (of_variables ls) → are_distinct (map local_in ls) ≡ true → own ≡ ls → IsWithin a own i → GivesAt i st0 b.body m o st1 → GivesBranch a st0 u b m p o st1
branch-made a i u st0 st1 m b p o ls own h k d n r g = λ w s stands. record {
  locals = map local_in ls;
  bound = of_variables ls;
  pattern = pattern-there a b.pat.form p ls h w s stands;
  types = types-there a u p ls k w s stands;
  distinct = d;
  body = g w (within_branch (map local_in ls) (of_variables ls) s) (inner-stands a i b.pat.form p ls own h n r w s stands);
}

pub pattern-faulty : (a : Around) (u : NormalType) (st : HeldSites) (m : Mode) (b : Branch) (r : Refusal) → Refuses (names_at a) (BreaksPat (names_at a) (world_in a.world.now) u b.pat.form) r → TellsBranch a st u b m r
pattern-faulty a u st m b r h = λ w s stands. of_pattern (subst (λ z. Refuses (names_at a) (BreaksPat (names_at a) z u b.pat.form) r) (sym stands.world) h)

pub body-faulty : (a i : Around) (u : NormalType) (st : HeldSites) (m : Mode) (b : Branch) (p : Pattern) (ls own : List HeldLocal) → pattern_of (globals_in a.world.now) b.pat.form ≡ Some (map local_in ls, p) →
    bound_in (world_in a.world.now) u (map local_in ls, p) ≡ Some (of_variables ls) → own ≡ ls → IsWithin a own i → (r : Refusal) → Tells i st b.body.form m r → TellsBranch a st u b m r
body-faulty a i u st m b p ls own h k n j r f = λ w s stands.
    of_body (map local_in ls, p) (of_variables ls) (pattern-there a b.pat.form p ls h w s stands) (types-there a u p ls k w s stands)
    (told-there a i j.world (f w (within_branch (map local_in ls) (of_variables ls) s) (inner-stands a i b.pat.form p ls own h n j w s stands)))

-- ---- branches one after the other

branch-step : (w : World) (s : Scope) (u : NormalType) (st : Sites) (m : Mode) (t : PatForm) (x : ExpForm) (p : Pattern) (o : Out) (rest : Sites → Mode → Option Branches) → IsBranch w s u st m t x p o →
    branch_out w s u st m t (typed w x) rest ≡ option_map (with_branch p o) (rest o.sites (wants o.of))
branch-step w s u st m t x p o rest h =
    ap (option_and_then (branch_by w s u st m (typed w x) rest)) h.pattern
    ∙ ap (λ z. if_so z (option_and_then (branch_within w s st m (typed w x) rest (h.locals, p)) (bound_in w u (h.locals, p)))) h.distinct
    ∙ ap (option_and_then (branch_within w s st m (typed w x) rest (h.locals, p))) h.types
    ∙ ap (option_and_then (λ z. option_map (with_branch p z) (rest z.sites (wants z.of)))) h.body

none-before : (o : Option Branches) → option_map (before []) o ≡ o
none-before None = refl
none-before (Some b) = refl

before-end : (xs : List ResolvedBranch) (p : Pattern) (o : Out) (b : Branches) → before xs (with_branch p o b) ≡ before (xs ++ record { pattern = p; body = o.exp } ∷ []) b
before-end [] p o b = refl
before-end (x ∷ xs) p o b = ap (λ z. with_branch x.pattern (record { of = z.of; exp = x.body; sites = z.sites }) z) (before-end xs p o b)

one-before : (xs : List ResolvedBranch) (p : Pattern) (o : Out) (b : Option Branches) → option_map (before xs) (option_map (with_branch p o) b) ≡ option_map (before (xs ++ record { pattern = p; body = o.exp } ∷ [])) b
one-before xs p o None = refl
one-before xs p o (Some b) = ap Some (before-end xs p o b)

-- the branches so far: what is left gives the whole, and a fault of it is one of the whole
pub record Walked (a : Around) (u : NormalType) (list left : List Branch) (st0 st1 : HeldSites) (m : Mode) (of : Option NormalType) (done : List ResolvedBranch) : Type 0 where
  pub given : (w : World) (s : Scope) → Stands a w s → branches_walk w (branch_row list).1 s u (sites_in st0) m ≡ option_map (before done) (branches_walk w (branch_row left).1 s u (sites_in st1) (asked of m))
  pub leads : (w : World) (s : Scope) (r : Refusal) → Stands a w s → BranchesFault (names_at a) w s u _ (branch_row left).1 (sites_in st1) (asked of m) r → BranchesFault (names_at a) w s u _ (branch_row list).1 (sites_in st0) m r

walked-all : (a : Around) (u : NormalType) (list : List Branch) (st : HeldSites) (m : Mode) → Walked a u list list st st m None []
walked-all a u list st m = record { given = λ w s stands. sym (none-before (branches_walk w (branch_row list).1 s u (sites_in st) m)); leads = λ w s r stands h. h }

pub walked-start : (a : Around) (u : NormalType) (list : List Branch) (st : HeldSites) (m : Mode) → Walked a u list (drop 0 list) st st m None []
walked-start a u list st m = subst (λ z. Walked a u list z st st m None []) (sym (drop-none list)) (walked-all a u list st m)

later-fault : (names : List (List ℕ)) (w : World) (s : Scope) (u : NormalType) (st : Sites) (m : Mode) (b : Branch) (rest : List Branch) (p : Pattern) (o : Out) (r : Refusal) → IsBranch w s u st m b.pat.form b.body.form p o →
    BranchesFault names w s u _ (branch_row rest).1 o.sites (wants o.of) r → BranchesFault names w s u _ (branch_row (b ∷ rest)).1 st m r
later-fault names w s u st m b rest p o r h (of_patterns f) = of_patterns (f.0, later_pattern f.1, f.2)
later-fault names w s u st m b rest p o r h (of_bodies s' su y m' f g) = of_bodies s' su y m' (later_branch h.pattern h.types h.body f) g

walked-past : (a : Around) (u : NormalType) (list : List Branch) (b : Branch) (rest : List Branch) (st0 st1 st2 : HeldSites) (m : Mode) (of : Option NormalType) (done more : List ResolvedBranch) (p : Pattern) (o : HeldOut) →
    GivesBranch a st1 u b (asked of m) p o st2 → more ≡ done ++ record { pattern = p; body = o.exp } ∷ [] →
    Walked a u list (b ∷ rest) st0 st1 m of done → Walked a u list rest st0 st2 m (Some o.of) more
walked-past a u list b rest st0 st1 st2 m of done more p o h e l = record {
  given = λ w s stands.
      l.given w s stands
      ∙ ap (option_map (before done)) (branch-step w s u (sites_in st1) (asked of m) b.pat.form b.body.form p (out_in o st2) (λ z n. branches_walk w (branch_row rest).1 s u z n) (h w s stands))
      ∙ one-before done p (out_in o st2) (branches_walk w (branch_row rest).1 s u (sites_in st2) (wants o.of))
      ∙ ap (λ z. option_map (before z) (branches_walk w (branch_row rest).1 s u (sites_in st2) (wants o.of))) (sym e);
  leads = λ w s r stands f. l.leads w s r stands (later-fault (names_at a) w s u (sites_in st1) (asked of m) b rest p (out_in o st2) r (h w s stands) f);
}

pub walked-next : (a : Around) (u : NormalType) (list : List Branch) (i : ℕ) (b : Branch) (st0 st1 st2 : HeldSites) (m n : Mode) (of found : Option NormalType) (done more : List ResolvedBranch) (p : Pattern) (o : HeldOut) → i < length list → b ≡ get_or list i b → n ≡ asked of m →
    GivesBranch a st1 u b n p o st2 → found ≡ Some o.of → more ≡ done ++ record { pattern = p; body = o.exp } ∷ [] →
    Walked a u list (drop i list) st0 st1 m of done → Walked a u list (drop (i + 1) list) st0 st2 m found more
walked-next a u list i b st0 st1 st2 m n of found done more p o lt at q h k e l =
    subst (λ z. Walked a u list (drop (i + 1) list) st0 st2 m z more) (sym k)
    (walked-past a u list b (drop (i + 1) list) st0 st1 st2 m of done more p o (subst (λ z. GivesBranch a st1 u b z p o st2) q h) e (subst (λ z. Walked a u list z st0 st1 m of done) (drop-here list i b lt at) l))

this-fault : (names : List (List ℕ)) (w : World) (s : Scope) (u : NormalType) (st : Sites) (m : Mode) (b : Branch) (rest : List Branch) (r : Refusal) → BranchFault names w s u st m b.pat.form b.body.form r → BranchesFault names w s u _ (branch_row (b ∷ rest)).1 st m r
this-fault names w s u st m b rest r (of_pattern f) = of_patterns (f.0, this_pattern f.1, f.2)
this-fault names w s u st m b rest r (of_body q bound h k f) = of_bodies (within_branch q.0 bound s) st b.body.form m (this_branch h k) f

pub walked-broken : (a : Around) (u : NormalType) (list : List Branch) (i : ℕ) (b : Branch) (st0 st1 : HeldSites) (m n : Mode) (of : Option NormalType) (done : List ResolvedBranch) → i < length list → b ≡ get_or list i b → n ≡ asked of m →
    Walked a u list (drop i list) st0 st1 m of done → (r : Refusal) → TellsBranch a st1 u b n r → TellsBranches a st0 u list m r
walked-broken a u list i b st0 st1 m n of done lt at e l r h = λ w s stands.
    let here : Walked a u list (b ∷ drop (i + 1) list) st0 st1 m of done = subst (λ z. Walked a u list z st0 st1 m of done) (drop-here list i b lt at) l in
    here.leads w s r stands (this-fault (names_at a) w s u (sites_in st1) (asked of m) b (drop (i + 1) list) r (subst (λ z. BranchFault (names_at a) w s u (sites_in st1) z b.pat.form b.body.form r) e (h w s stands)))

pub walked-end : (a : Around) (u : NormalType) (list : List Branch) (i : ℕ) (st0 st1 : HeldSites) (m : Mode) (of : Option NormalType) (done : List ResolvedBranch) → length list ≤ i → Walked a u list (drop i list) st0 st1 m of done → GivesBranches a st0 u list m of done st1
walked-end a u list i st0 st1 m of done e l = λ w s stands.
    let here : Walked a u list [] st0 st1 m of done = subst (λ z. Walked a u list z st0 st1 m of done) (drop_of_length-le list e) l in
    here.given w s stands

-- ---- the whole

behind-types : (t : NormalType) (st : Sites) (xs : List ResolvedBranch) → (before xs (record { of = t; patterns = []; exps = branches_with []; sites = st })).of ≡ t
behind-types t st [] = refl
behind-types t st (x ∷ xs) = behind-types t st xs

-- branches with nothing behind them
abbrev just : NormalType → Sites → List ResolvedBranch → Branches
just t st xs = record { of = t; patterns = patterns_in xs; exps = branches_with xs; sites = st }

before-none : (t : NormalType) (st : Sites) (xs : List ResolvedBranch) → before xs (just t st []) ≡ just t st xs
before-none t st [] = refl
before-none t st (x ∷ xs) = ap (λ z. with_branch x.pattern (record { of = z.of; exp = x.body; sites = z.sites }) z) (before-none t st xs)

all-given : (a : Around) (u t : NormalType) (list : List Branch) (st0 st1 : HeldSites) (m : Mode) (of : Option NormalType) (done : List ResolvedBranch) → of ≡ Some t → GivesBranches a st0 u list m of done st1 → (w : World) (s : Scope) → Stands a w s →
    branches_walk w (branch_row list).1 s u (sites_in st0) m ≡ Some (just t (sites_in st1) done)
all-given a u t list st0 st1 m of done e h w s stands =
    h w s stands ∙ ap (λ z. option_map (before done) (no_branches (sites_in st1) (asked z m))) e ∙ ap Some (before-none t (sites_in st1) done)

pub case-made : (a : Around) (st0 st1 st2 : HeldSites) (m : Mode) (x : Exp) (list : List Branch) (whole o : HeldOut) (of : Option NormalType) (done : List ResolvedBranch) → GivesAt a st0 x finds whole st1 → GivesBranches a st1 whole.of list m of done st2 →
    covers (declared_in a.world.now) whole.of (patterns_in done) ≡ true → of ≡ Some o.of → o.exp ≡ make.cases whole.exp (branches_with done).0 (branches_with done).1 → Gives a st0 (e.Case x list) m o st2
case-made a st0 st1 st2 m x list whole o of done g h c t k = λ w s stands.
    ap (λ z. walk w z s (sites_in st0) m) (case-plain x list)
    ∙ ap (option_and_then (λ y. option_and_then (λ b. if_so (covers w.declared y.of b.patterns) (gives b.of (make.cases y.exp b.exps.0 b.exps.1) b.sites)) (branches_walk w (branch_row list).1 s y.of y.sites m))) (g w s stands)
    ∙ ap (option_and_then (λ b. if_so (covers w.declared whole.of b.patterns) (gives b.of (make.cases whole.exp b.exps.0 b.exps.1) b.sites))) (all-given a whole.of o.of list st1 st2 m of done t h w s stands)
    ∙ ap (λ z. if_so z (gives o.of (make.cases whole.exp (branches_with done).0 (branches_with done).1) (sites_in st2))) (ap (λ z. covers z.declared whole.of (patterns_in done)) stands.world ∙ c)
    ∙ ap (λ z. gives o.of z (sites_in st2)) (sym k)

pub in-scrutinee : (a : Around) (st0 : HeldSites) (m : Mode) (x : Exp) (list : List Branch) (r : Refusal) → Tells a st0 x.form finds r → Tells a st0 (e.Case x list) m r
in-scrutinee a st0 m x list r h = λ w s stands. subst (λ z. HasFault (names_at a) w s (sites_in st0) z m r) (sym (case-plain x list)) (broken-within scrutinee (h w s stands))

whole-fault : (names : List (List ℕ)) (w : World) (s : Scope) (st : Sites) (m : Mode) (x : Exp) (list : List Branch) (d : Out) (r : Refusal) → typed w x.form s st finds ≡ Some d → BranchesFault names w s d.of _ (branch_row list).1 d.sites m r →
    HasFault names w s st (e.Case' tt (its x.span x.form alone) (branch_row list).0 (branch_row list).1) m r
whole-fault names w s st m x list d r g (of_patterns f) = broken-here (f.0, branch_pattern g f.1, f.2)
whole-fault names w s st m x list d r g (of_bodies s' su y m' f h) = broken-within (branch g f) h

pub in-branches : (a : Around) (st0 st1 : HeldSites) (m : Mode) (x : Exp) (list : List Branch) (whole : HeldOut) → GivesAt a st0 x finds whole st1 → (r : Refusal) → TellsBranches a st1 whole.of list m r → Tells a st0 (e.Case x list) m r
in-branches a st0 st1 m x list whole g r h = λ w s stands.
    subst (λ z. HasFault (names_at a) w s (sites_in st0) z m r) (sym (case-plain x list)) (whole-fault (names_at a) w s (sites_in st0) m x list (out_in whole st1) r (g w s stands) (h w s stands))

pub not-covered : (a : Around) (st0 st1 st2 : HeldSites) (m : Mode) (x : Exp) (list : List Branch) (whole : HeldOut) (of : Option NormalType) (done : List ResolvedBranch) → GivesAt a st0 x finds whole st1 → GivesBranches a st1 whole.of list m of done st2 →
    (r : Refusal) → (t : NormalType) × (of ≡ Some t) × Refuses (names_at a) (BreaksCover (world_in a.world.now) whole.of (patterns_in done)) r → Tells a st0 (e.Case x list) m r
not-covered a st0 st1 st2 m x list whole of done g h r f = λ w s stands.
    let there : BreaksCover w whole.of (patterns_in done) f.2.0 = subst (λ z. BreaksCover z whole.of (patterns_in done) f.2.0) (sym stands.world) f.2.1 in
    subst (λ z. HasFault (names_at a) w s (sites_in st0) z m r) (sym (case-plain x list))
    (broken-here (f.2.0, bad_cover {b = just f.0 (sites_in st2) done} (g w s stands) (all-given a whole.of f.0 list st1 st2 m of done f.1 h w s stands) there, f.2.2))

-- behind a pattern the code stands somewhere too
pub somewhere-branch : (a i : Around) (t : PatForm) (p : Pattern) (ls own : List HeldLocal) → pattern_of (globals_in a.world.now) t ≡ Some (map local_in ls, p) → own ≡ ls → IsWithin a own i → StandsSomewhere a → StandsSomewhere i
somewhere-branch a i t p ls own h n r q = (q.0, within_branch (map local_in ls) (of_variables ls) q.1, inner-stands a i t p ls own h n r q.0 q.1 q.2)
