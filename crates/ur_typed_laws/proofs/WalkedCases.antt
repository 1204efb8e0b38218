-- `case`: the walk gives what the rules say.
use Rattle.std.proofs.lemmas.Bool.Decides.{nat_tests}
use Rattle.std.proofs.Common.{arith, ◌≡◌, ◌∙◌, refl, sym, ap, subst, Bool, true, false, Option, Some, None, List, [], ◌∷◌, ◌++◌, ℕ, length}
use Rattle.std.specs.Prelude.{◌==◌, if◌then◌else◌, option_map, option_and_then, option_to_list, slice_get}
use mathlib.Core.Former.{Count}
use Rattle.ur_base.specs.Shape.{Shape, count}
use Rattle.ur_base.specs.declared.refusal.Span.{Span}
use Rattle.ur_syntax.specs.Names.{own, member as of_module}
use Rattle.ur_syntax.specs.declared.exp.Pat.{Pat}
use Rattle.ur_syntax.specs.declared.exp.PatForm.{PatForm}
use Rattle.ur_syntax.specs.declared.exp.ExpForm.{ExpForm, end_of-Exp as alone, more_of-Exp as its, Row_of-Branch, end_of-Branch, more_of-Branch}
use Rattle.ur_syntax.specs.declared.exp.ExpForm.TheVariants as e
use Rattle.ur_terms.specs.declared.term.Pattern.{Pattern}
use Rattle.ur_terms.specs.declared.term.Pattern.TheVariants as pattern
use Rattle.ur_rows.specs.declared.normal.NormalType.{NormalType}
use Rattle.ur_rows.specs.declared.normal.NormalType.TheVariants as ty
use Rattle.ur_rows.specs.declared.normal.NormalType.{end_of-NormalType as sole, more_of-NormalType as the}
use Rattle.ur_tree.specs.declared.exp.Exp.{Exp}
use Rattle.ur_tree.specs.declared.exp.Exp.TheBlock.{Row_of-Branch as Row_of-ResolvedBranch, end_of-Branch as no_branch, more_of-Branch as a_branch}
use Rattle.ur_tree.specs.Make as make
use Rattle.ur_tree.specs.Heads.{Declared as Heads}
use Rattle.ur_tree.specs.Env.{Env, with_values}
use Rattle.ur_tree.specs.Patterns.{present_of, absent_of, cons_of, empty_of, int_of, string_of, bool_of, bound_by, tagged_of, Covers}
use Rattle.ur_tree.specs.Occurrences.{Occurrence, occurrences, branch_occurrences}
use Rattle.ur_tree.specs.Typing.{Accepts, FindBranches, WantBranches}
use Rattle.ur_typed_rules.specs.Names.{Local, Globals, Names, AreDistinct, declared, with_locals}
use Rattle.ur_typed_rules.specs.Scopes.{World, Scope, Mode, finds, wants, within_branch}
use Rattle.ur_typed_rules.specs.Tests.{are_distinct, covers}
use Rattle.ur_typed_rules.proofs.Decided.{branches_decided, names_decided}
use Rattle.ur_typed.specs.Resolves.{Statements, IsPattern}
use Rattle.ur_typed.specs.Resolves as resolves
use Rattle.ur_typed.specs.Rules.{Sites, fits, ResolvedBranches, Branches, with_branch, branch_within, branch_by}
use Rattle.ur_typed.specs.Walking.{walk, typed, branches_walk}
use Rattle.ur_typed_rules.specs.Rules.{if_as_many, pattern_of, tag_pattern, bound_in}
use Rattle.ur_typed_rules.proofs.Options.{then_some, some_of}
use Rattle.ur_typed_laws.specs.Judged.{Fills, Numbered, stated, Judged}
use Rattle.ur_typed_laws.proofs.Numbers.{numbered_none, numbered_end, numbered_both}
use Rattle.ur_typed_laws.proofs.Branching.{bound_stated, covers_stated}
use Rattle.ur_typed_laws.specs.Walked.{scope_at, out_of, Starts, IsWalked, Walks}
use Rattle.ur_typed_laws.proofs.Walked.{so_true, typed_by, same_self, starts_left, starts_right, starts_end}

-- ---- patterns

tag_read : (ls : List Local) (g : Globals) (n : ℕ) (o : Option ℕ) → o ≡ Some n → option_map (tag_pattern ls) o ≡ Some (tag_pattern ls n)
tag_read ls g n o h = ap (option_map (tag_pattern ls)) h

pattern_back : (g : Globals) (hs : Heads) (p : PatForm) (ls : List Local) (q : Pattern) → IsPattern g hs p ls q → pattern_of g p ≡ Some (ls, q)
pattern_back g hs _ _ _ resolves.IsPattern.wild = refl
pattern_back g hs _ _ _ resolves.IsPattern.variable = refl
pattern_back g hs _ _ _ resolves.IsPattern.int = refl
pattern_back g hs _ _ _ resolves.IsPattern.negative = refl
pattern_back g hs _ _ _ resolves.IsPattern.string = refl
pattern_back g hs _ _ _ resolves.IsPattern.true_ = refl
pattern_back g hs _ _ _ resolves.IsPattern.false_ = refl
pattern_back g hs _ _ _ resolves.IsPattern.none = refl
pattern_back g hs _ _ _ resolves.IsPattern.some = refl
pattern_back g hs _ _ _ resolves.IsPattern.empty = refl
pattern_back g hs _ _ _ resolves.IsPattern.cons = refl
pattern_back g hs _ ls _ (resolves.IsPattern.constructor {x = x} {n = n} h i) = tag_read ls g n (declared g (own x) g.constructors) h
pattern_back g hs _ ls _ (resolves.IsPattern.constructor_of {x = x} {n = n} h i) = tag_read ls g n (declared g (own x) g.constructors) h
pattern_back g hs _ ls _ (resolves.IsPattern.member {m = m} {x = x} {n = n} h i) = tag_read ls g n (declared g (of_module m x) g.constructors) h
pattern_back g hs _ ls _ (resolves.IsPattern.member_of {m = m} {x = x} {n = n} h i) = tag_read ls g n (declared g (of_module m x) g.constructors) h

-- a pattern binds as many variables as it names
int_many : (u : NormalType) (bound : List NormalType) → int_of u ≡ Some bound → 0 ≡ length bound
int_many ty.Int bound h = ap length (some_of h)
int_many _ bound h = cc

string_many : (u : NormalType) (bound : List NormalType) → string_of u ≡ Some bound → 0 ≡ length bound
string_many ty.Str bound h = ap length (some_of h)
string_many _ bound h = cc

bool_many : (u : NormalType) (bound : List NormalType) → bool_of u ≡ Some bound → 0 ≡ length bound
bool_many ty.Bool bound h = ap length (some_of h)
bool_many _ bound h = cc

absent_many : (u : NormalType) (bound : List NormalType) → absent_of u ≡ Some bound → 0 ≡ length bound
absent_many (ty.Opt' _ t) bound h = ap length (some_of h)
absent_many _ bound h = cc

present_many : (u : NormalType) (bound : List NormalType) → present_of u ≡ Some bound → 1 ≡ length bound
present_many (ty.Opt' _ (the t sole)) bound h = ap length (some_of h)
present_many _ bound h = cc

empty_many : (u : NormalType) (bound : List NormalType) → empty_of u ≡ Some bound → 0 ≡ length bound
empty_many (ty.Many' _ t) bound h = ap length (some_of h)
empty_many _ bound h = cc

cons_many : (u : NormalType) (bound : List NormalType) → cons_of u ≡ Some bound → 2 ≡ length bound
cons_many (ty.Many' _ (the t sole)) bound h = ap length (some_of h)
cons_many _ bound h = cc

tagged_many : (u : NormalType) (v : ℕ × Option NormalType) (bound : List NormalType) → tagged_of u v ≡ Some bound → length (option_to_list v.1) ≡ length bound
tagged_many (ty.Datatype k) v bound h = by_number (k == v.0) h where
  by_number : (b : Bool) → (if b then Some (option_to_list v.1) else None) ≡ Some bound → length (option_to_list v.1) ≡ length bound
  by_number true g = ap length (some_of g)
  by_number false g = cc
tagged_many _ v bound h = cc

-- that many arguments has the constructor
tag_many : (hs : Heads) (u : NormalType) (n k : ℕ) (a : Option NormalType) (bound : List NormalType) → slice_get hs.variants n ≡ Some (k, a) → bound_by hs u (pattern.Tagged n) ≡ Some bound → length (option_to_list a) ≡ length bound
tag_many hs u n k a bound h i = tagged_many u (k, a) bound (sym (ap (option_and_then (tagged_of u)) h) ∙ i)

as_many : (g : Globals) (hs : Heads) (u : NormalType) (p : PatForm) (ls : List Local) (q : Pattern) (bound : List NormalType) → IsPattern g hs p ls q → bound_by hs u q ≡ Some bound → length ls ≡ length bound
as_many g hs u _ _ _ bound resolves.IsPattern.wild h = ap length (some_of h)
as_many g hs u _ _ _ bound resolves.IsPattern.variable h = ap length (some_of h)
as_many g hs u _ _ _ bound resolves.IsPattern.int h = int_many u bound h
as_many g hs u _ _ _ bound resolves.IsPattern.negative h = int_many u bound h
as_many g hs u _ _ _ bound resolves.IsPattern.string h = string_many u bound h
as_many g hs u _ _ _ bound resolves.IsPattern.true_ h = bool_many u bound h
as_many g hs u _ _ _ bound resolves.IsPattern.false_ h = bool_many u bound h
as_many g hs u _ _ _ bound resolves.IsPattern.none h = absent_many u bound h
as_many g hs u _ _ _ bound resolves.IsPattern.some h = present_many u bound h
as_many g hs u _ _ _ bound resolves.IsPattern.empty h = empty_many u bound h
as_many g hs u _ _ _ bound resolves.IsPattern.cons h = cons_many u bound h
as_many g hs u _ _ _ bound (resolves.IsPattern.constructor {n = n} {k = k} c i) h = tag_many hs u n k None bound i h
as_many g hs u _ _ _ bound (resolves.IsPattern.constructor_of {n = n} {k = k} {t = t} c i) h = tag_many hs u n k (Some t) bound i h
as_many g hs u _ _ _ bound (resolves.IsPattern.member {n = n} {k = k} c i) h = tag_many hs u n k None bound i h
as_many g hs u _ _ _ bound (resolves.IsPattern.member_of {n = n} {k = k} {t = t} c i) h = tag_many hs u n k (Some t) bound i h

same_number : (a b : ℕ) → a ≡ b → (a == b) ≡ true
same_number a b h = grind (arith, nat_tests, h)

bound_back : (d : Statements) (w : World) (u : NormalType) (p : PatForm) (ls : List Local) (q : Pattern) (bound : List NormalType) → IsPattern w.globals (stated d w).declared p ls q → bound_by (stated d w).declared u q ≡ Some bound → bound_in w u (ls, q) ≡ Some bound
bound_back d w u p ls q bound k h =
    then_some (if_as_many ls) (bound_by w.declared u q) bound (Some bound) (bound_stated d w u q ∙ h) (so_true (length ls == length bound) (Some bound) (same_number (length ls) (length bound) (as_many w.globals (stated d w).declared u p ls q bound k h)))

-- ---- branches

abbrev pub shaped_branches : {n : _} → Row_of-ResolvedBranch n → ResolvedBranches
shaped_branches no_branch = ([], no_branch)
shaped_branches (a_branch p b rest) = (tt ∷ (shaped_branches rest).0, a_branch p b (shaped_branches rest).1)

pub branches_shaped : (q : Shape) (out : Row_of-ResolvedBranch (count q)) → ◌≡◌ {A = ResolvedBranches} (shaped_branches out) (q, out)
branches_shaped [] no_branch = refl
branches_shaped (tt ∷ q) (a_branch p b rest) = ap (λ z. (tt ∷ z.0, a_branch p b z.1)) (branches_shaped q rest)

-- each branch's body gives what the rules say
pub data BranchesWalk (w : World) (d : Statements) (names : Names) : (n : Count) → Row_of-Branch n → (m : Count) → Row_of-ResolvedBranch m → Type 0 where
  no_branches : BranchesWalk w d names _ end_of-Branch _ no_branch
  one_branch : {p : Span} {t : Pat} {ls : List Local} {u : Pattern} {x : ExpForm} {b : Exp} {n m : Count} {rest : Row_of-Branch n} {out : Row_of-ResolvedBranch m} → IsPattern w.globals (stated d w).declared t.form ls u → AreDistinct ls → Walks w d (with_locals ls names) x b →
      BranchesWalk w d names _ rest _ out → BranchesWalk w d names _ (more_of-Branch t p x rest) _ (a_branch u b out)

record BranchesAreWalked (w : World) (d : Statements) (n : Count) (bs : Row_of-Branch n) (s : Scope) (u : NormalType) (m : Mode) (st : Sites) (k : Count) (out : Row_of-ResolvedBranch k) (ps : List Pattern) (t : NormalType) : Type 0 where
  sites : Sites
  walked : branches_walk w bs s u st m ≡ Some (record { of = t; patterns = ps; exps = shaped_branches out; sites = sites })
  fills : Fills w d sites
  numbered : Numbered st (branch_occurrences out) sites

-- a branch before those that are walked
branch_before : (w : World) (d : Statements) (s : Scope) (m : Mode) (st : Sites) (p : Span) (c : Pat) (ls : List Local) (q : Pattern) (bound : List NormalType) (x : ExpForm) (b : Exp) (u t : NormalType) (n : Count) (rest : Row_of-Branch n) (k : Count) (out : Row_of-ResolvedBranch k) (ps : List Pattern) →
    pattern_of w.globals c.form ≡ Some (ls, q) → AreDistinct ls → bound_in w u (ls, q) ≡ Some bound → (i : IsWalked w d x (within_branch ls bound s) st m b t) → BranchesAreWalked w d n rest s u (wants t) i.sites k out ps t →
    BranchesAreWalked w d _ (more_of-Branch c p x rest) s u m st _ (a_branch q b out) (q ∷ ps) t
branch_before w d s m st p c ls q bound x b u t n rest k out ps ep kd eb i r =
    let again : Sites → Mode → Option Branches = λ st' n'. branches_walk w rest s u st' n' in
    let h : branches_walk w (more_of-Branch c p x rest) s u st m ≡ Some (record { of = t; patterns = q ∷ ps; exps = shaped_branches (a_branch q b out); sites = r.sites }) =
    then_some (branch_by w s u st m (typed w x) again) (pattern_of w.globals c.form) (ls, q) _ ep (so_true (are_distinct ls) _ ((names_decided ls).1 kd) ∙
    then_some (branch_within w s st m (typed w x) again (ls, q)) (bound_in w u (ls, q)) bound _ eb (then_some _ _ (out_of t b i.sites) _ i.walked (ap (option_map (with_branch q (out_of t b i.sites))) r.walked))) in
    record { sites = r.sites; walked = h; fills = r.fills; numbered = numbered_both i.numbered r.numbered }

branches_wanted : (w : World) (d : Statements) (names : Names) (env : Env) (u t : NormalType) (n : Count) (bs : Row_of-Branch n) (k : Count) (out : Row_of-ResolvedBranch k) (ps : List Pattern) → BranchesWalk w d names n bs k out → WantBranches (stated d w).declared w.most env u out ps t → (st : Sites) → Fills w d st →
    Starts st (branch_occurrences out) → BranchesAreWalked w d n bs (scope_at names env) u (wants t) st k out ps t
branches_wanted w d names env u t _ _ _ _ ps no_branches h st g z = subst (λ q. BranchesAreWalked w d _ end_of-Branch (scope_at names env) u (wants t) st _ no_branch q t) (sym h) (record { sites = st; walked = refl; fills = g; numbered = numbered_none st })
branches_wanted w d names env u t _ _ _ _ ps (one_branch {p = p} {t = c} {ls = ls} {u = q} {x = x} {b = b} {n = n} {m = k} {rest = rest} {out = out} kp kd kx kr) h st g z =
    let s : Scope = scope_at names env in
    let i : IsWalked w d x (within_branch ls h.0 s) st (wants t) b t = kx (with_values h.0 env) (wants t) t (refl, h.4, h.5) st g (starts_left (occurrences b) (branch_occurrences out) z) in
    let r : BranchesAreWalked w d n rest s u (wants t) i.sites k out h.1 t = branches_wanted w d names env u t n rest k out h.1 kr h.6 i.sites i.fills (starts_right (occurrences b) (branch_occurrences out) z i.numbered) in
    subst (λ v. BranchesAreWalked w d _ (more_of-Branch c p x rest) s u (wants t) st _ (a_branch q b out) v t) (sym h.2)
    (branch_before w d s (wants t) st p c ls q h.0 x b u t n rest k out h.1 (pattern_back w.globals (stated d w).declared c.form ls q kp) kd (bound_back d w u c.form ls q h.0 kp h.3) i r)

branches_found : (w : World) (d : Statements) (names : Names) (env : Env) (u t : NormalType) (n : Count) (bs : Row_of-Branch n) (k : Count) (out : Row_of-ResolvedBranch k) (ps : List Pattern) → BranchesWalk w d names n bs k out → FindBranches (stated d w).declared w.most env u out ps t → (st : Sites) → Fills w d st →
    Starts st (branch_occurrences out) → BranchesAreWalked w d n bs (scope_at names env) u finds st k out ps t
branches_found w d names env u t _ _ _ _ ps no_branches h st g z = absurd h
branches_found w d names env u t _ _ _ _ ps (one_branch {p = p} {t = c} {ls = ls} {u = q} {x = x} {b = b} {n = n} {m = k} {rest = rest} {out = out} kp kd kx kr) h st g z =
    let s : Scope = scope_at names env in
    let i : IsWalked w d x (within_branch ls h.0 s) st finds b t = kx (with_values h.0 env) finds t (h.4, h.5) st g (starts_left (occurrences b) (branch_occurrences out) z) in
    let r : BranchesAreWalked w d n rest s u (wants t) i.sites k out h.1 t = branches_wanted w d names env u t n rest k out h.1 kr h.6 i.sites i.fills (starts_right (occurrences b) (branch_occurrences out) z i.numbered) in
    subst (λ v. BranchesAreWalked w d _ (more_of-Branch c p x rest) s u finds st _ (a_branch q b out) v t) (sym h.2)
    (branch_before w d s finds st p c ls q h.0 x b u t n rest k out h.1 (pattern_back w.globals (stated d w).declared c.form ls q kp) kd (bound_back d w u c.form ls q h.0 kp h.3) i r)

-- ---- the whole

abbrev BranchesJudged : World → Env → Mode → NormalType → (q : Shape) → Row_of-ResolvedBranch (count q) → List Pattern → NormalType → Type 0
BranchesJudged w env finds u q out ps t = FindBranches w.declared w.most env u out ps t
BranchesJudged w env (wants v) u q out ps t = (t ≡ v) × WantBranches w.declared w.most env u out ps v

-- of a `case`
record IsCase (w : World) (s : Scope) (m : Mode) (a : Exp) (q : Shape) (out : Row_of-ResolvedBranch (count q)) (t : NormalType) : Type 0 where
  over : NormalType
  patterns : List Pattern
  first : Judged w s finds a over
  branches : BranchesJudged w s.env m over q out patterns t
  covered : Covers w.declared over patterns
  accepts : Accepts w.most (make.cases a q out) t
  fit : fits m t ≡ true

case_judged : (w : World) (s : Scope) (m : Mode) (a : Exp) (q : Shape) (out : Row_of-ResolvedBranch (count q)) (t : NormalType) → Judged w s m (make.cases a q out) t → IsCase w s m a q out t
case_judged w s finds a q out t j = record { over = j.0.0; patterns = j.0.1; first = (j.0.2.0, j.0.2.1); branches = j.0.3; covered = j.0.4; accepts = j.1; fit = refl }
case_judged w s (wants v) a q out t j =
    record { over = j.1.0; patterns = j.1.1; first = (j.1.2.0, j.1.2.1); branches = (j.0, j.1.3); covered = j.1.4; accepts = subst (λ z. Accepts w.most (make.cases a q out) z) (sym j.0) j.2; fit = same_self t v j.0 }

branches_walked : (w : World) (d : Statements) (names : Names) (env : Env) (m : Mode) (u t : NormalType) (n : Count) (bs : Row_of-Branch n) (q : Shape) (out : Row_of-ResolvedBranch (count q)) (ps : List Pattern) → BranchesWalk w d names n bs _ out → BranchesJudged (stated d w) env m u q out ps t → (st : Sites) → Fills w d st →
    Starts st (branch_occurrences out) → BranchesAreWalked w d n bs (scope_at names env) u m st _ out ps t
branches_walked w d names env finds u t n bs q out ps k j st g z = branches_found w d names env u t n bs _ out ps k j st g z
branches_walked w d names env (wants v) u t n bs q out ps k j st g z = subst (λ r. BranchesAreWalked w d n bs (scope_at names env) u (wants v) st _ out ps r) (sym j.0) (branches_wanted w d names env u v n bs _ out ps k j.1 st g z)

pub case_walked : (w : World) (d : Statements) (names : Names) (p : Span) (x : ExpForm) (n : Shape) (bs : Row_of-Branch (count n)) (a : Exp) (q : Shape) (out : Row_of-ResolvedBranch (count q)) → Walks w d names x a → BranchesWalk w d names _ bs _ out →
    Walks w d names (e.Case' tt (its p x alone) n bs) (make.cases a q out)
case_walked w d names p x n bs a q out ka kb env m t j st g z =
    let s : Scope = scope_at names env in
    let f : ExpForm = e.Case' tt (its p x alone) n bs in
    let v : Exp = make.cases a q out in
    let oa : List Occurrence = occurrences a ++ [] in
    let c : IsCase (stated d w) s m a q out t = case_judged (stated d w) s m a q out t j in
    let i : IsWalked w d x s st finds a c.over = ka env finds c.over c.first st g (starts_end (occurrences a) (starts_left oa (branch_occurrences out) z)) in
    let na : Numbered st oa i.sites = numbered_end i.numbered in
    let r : BranchesAreWalked w d _ bs s c.over m i.sites _ out c.patterns t = branches_walked w d names env m c.over t _ bs q out c.patterns kb c.branches i.sites i.fills (starts_right oa (branch_occurrences out) z na) in
    let cov : covers w.declared c.over c.patterns ≡ true = covers_stated d w c.over c.patterns ∙ (branches_decided (stated d w).declared c.over c.patterns).1 c.covered in
    let branches : Branches = record { of = t; patterns = c.patterns; exps = shaped_branches out; sites = r.sites } in
    let h : walk w f s st m ≡ Some (out_of t v r.sites) =
    then_some _ _ (out_of c.over a i.sites) _ i.walked (then_some _ _ branches _ r.walked
    (so_true (covers w.declared c.over c.patterns) _ cov ∙ ap (λ (y : ResolvedBranches). Some (out_of t (make.cases a y.0 y.1) r.sites)) (branches_shaped q out))) in
    record { sites = r.sites; walked = typed_by w f s st m (out_of t v r.sites) h c.accepts c.fit; fills = r.fills; numbered = numbered_both na r.numbered }
