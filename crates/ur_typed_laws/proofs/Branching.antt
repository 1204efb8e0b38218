-- `case`: what is typed resolves and has its type by the rules.
use Rattle.std.proofs.Common.{◌≡◌, ◌∙◌, refl, sym, ap, subst, Bool, true, false, true≢false, Option, Some, None, List, [], ◌∷◌, ℕ}
use Rattle.std.specs.Prelude.{◌&&◌, ◌||◌, ◌==◌, if◌then◌else◌, option_map, option_and_then, option_to_list, slice_get, length}
use mathlib.Core.Former.{Count}
use Rattle.ur_base.specs.Shape.{Shape, count}
use Rattle.ur_base.specs.declared.refusal.Span.{Span}
use Rattle.ur_syntax.specs.Names.{own, member as of_module}
use Rattle.ur_syntax.specs.declared.exp.Argument.TheVariants as argument
use Rattle.ur_syntax.specs.declared.exp.PatForm.{PatForm}
use Rattle.ur_syntax.specs.declared.exp.PatForm.TheVariants as pat
use Rattle.ur_syntax.specs.declared.exp.ExpForm.{ExpForm, end_of-Exp as alone, more_of-Exp as its, Row_of-Branch, end_of-Branch, more_of-Branch}
use Rattle.ur_syntax.specs.declared.exp.ExpForm.TheVariants as e
use Rattle.ur_terms.specs.declared.term.Pattern.{Pattern}
use Rattle.ur_terms.specs.declared.term.Pattern.TheVariants as pattern
use Rattle.ur_rows.specs.declared.normal.NormalType.{NormalType}
use Rattle.ur_tree.specs.declared.exp.Exp.{Exp}
use Rattle.ur_tree.specs.declared.exp.Exp.TheBlock.{end_of-Branch as no_branch}
use Rattle.ur_tree.specs.Make as make
use Rattle.ur_tree.specs.Heads.{Declared as Heads}
use Rattle.ur_tree.specs.Patterns.{bound_by, tagged_of, constructors_of, same_pattern, last_is_any, has_all, Covers}
use Rattle.ur_tree.specs.Occurrences.{branch_occurrences}
use Rattle.ur_rows.specs.declared.normal.NormalType.TheVariants as ty
use Rattle.ur_tree.specs.Typing.{Finds, Accepts, FindBranches, WantBranches}
use Rattle.ur_typed_rules.specs.Names.{Local, Globals, declared}
use Rattle.ur_typed_rules.specs.Scopes.{World, Scope, Mode, finds, wants, within_branch}
use Rattle.ur_typed_rules.specs.Tests.{are_distinct, are_once, covers}
use Rattle.ur_typed_rules.proofs.Decided.{branches_decided, names_decided}
use Rattle.ur_typed.specs.Resolves.{Statements, ResolvesBranches, branches_none, branches_one, IsPattern}
use Rattle.ur_typed.specs.Resolves as resolves
use Rattle.ur_typed.specs.Rules.{Sites, Out, gives, Branches, with_branch, branch_within, branch_by}
use Rattle.ur_typed.specs.Walking.{typed, branches_walk}
use Rattle.ur_typed_laws.specs.Judged.{Judged, Fills, stated, Numbered, IsSound, Sound}
use Rattle.ur_typed_laws.proofs.Numbers.{numbered_none, numbered_end, numbered_both}
use Rattle.ur_typed_laws.proofs.Sound.{IsSettled, settled_by, sound_at}
use Rattle.ur_typed_rules.specs.Rules.{if_so, if_as_many, pattern_of, tag_pattern, binder_local, bound_in}
use Rattle.ur_typed_rules.proofs.Options.{some_of, opened, opened_if, mapped}

-- ---- patterns

abbrev Reads : Globals → Heads → PatForm → List Local × Pattern → Type 0
Reads g hs p q = IsPattern g hs p q.0 q.1

read_as : (g : Globals) (hs : Heads) (p : PatForm) (a b : List Local × Pattern) → Reads g hs p a → Some a ≡ Some b → Reads g hs p b
read_as g hs p a b r h = subst (Reads g hs p) (some_of h) r

-- what a pattern binds is what its constructor has
pub bound_is : (w : World) (u : NormalType) (q : List Local × Pattern) (bound : List NormalType) → bound_in w u q ≡ Some bound → (bound_by w.declared u q.1 ≡ Some bound) × ((length q.0 == length bound) ≡ true)
bound_is w u q bound h =
    let c : (b : List NormalType) × (bound_by w.declared u q.1 ≡ Some b) × (if_as_many q.0 b ≡ Some bound) = opened (if_as_many q.0) (bound_by w.declared u q.1) bound h in
    let r : ((length q.0 == length c.0) ≡ true) × (Some c.0 ≡ Some bound) = opened_if (length q.0 == length c.0) (Some c.0) bound c.2 in
    subst (λ b. (bound_by w.declared u q.1 ≡ Some b) × ((length q.0 == length b) ≡ true)) (some_of r.1) (c.1, r.0)

tagged_bound : (u : NormalType) (v : ℕ × Option NormalType) (bound : List NormalType) → tagged_of u v ≡ Some bound → option_to_list v.1 ≡ bound
tagged_bound (ty.Datatype k) v bound h = by_number (k == v.0) h where
  by_number : (b : Bool) → (if b then Some (option_to_list v.1) else None) ≡ Some bound → option_to_list v.1 ≡ bound
  by_number true g = some_of g
  by_number false g = cc
tagged_bound _ v bound h = cc

-- the constructor has as many arguments as names are written
abbrev HasTag : Heads → ℕ → List Local → Type 0
HasTag hs n ls = (v : ℕ × Option NormalType) × (slice_get hs.variants n ≡ Some v) × ((length ls == length (option_to_list v.1)) ≡ true)

tag_at : (hs : Heads) (u : NormalType) (ls : List Local) (n : ℕ) (q : List Local × Pattern) (bound : List NormalType) → tag_pattern ls n ≡ q → bound_by hs u q.1 ≡ Some bound → (length q.0 == length bound) ≡ true → HasTag hs n ls
tag_at hs u ls n q bound i eb eq =
    let h : option_and_then (tagged_of u) (slice_get hs.variants n) ≡ Some bound = subst (λ (z : List Local × Pattern). bound_by hs u z.1 ≡ Some bound) (sym i) eb in
    let k : (length ls == length bound) ≡ true = subst (λ (z : List Local × Pattern). (length z.0 == length bound) ≡ true) (sym i) eq in
    let c : (v : ℕ × Option NormalType) × (slice_get hs.variants n ≡ Some v) × (tagged_of u v ≡ Some bound) = opened (tagged_of u) (slice_get hs.variants n) bound h in
    (c.0, c.1, subst (λ b. (length ls == length b) ≡ true) (sym (tagged_bound u c.0 bound c.2)) k)

no_argument : (hs : Heads) (n : ℕ) → HasTag hs n [] → (k : ℕ) × (slice_get hs.variants n ≡ Some (k, None))
no_argument hs n ((k, None), i, h) = (k, i)
no_argument hs n ((k, Some t), i, h) = absurd (true≢false (sym h))

one_argument : (hs : Heads) (n : ℕ) (l : Local) → HasTag hs n (l ∷ []) → (k : ℕ) × (t : NormalType) × (slice_get hs.variants n ≡ Some (k, Some t))
one_argument hs n l ((k, None), i, h) = absurd (true≢false (sym h))
one_argument hs n l ((k, Some t), i, h) = (k, t, i)

pattern_read : (g : Globals) (hs : Heads) (u : NormalType) (p : PatForm) (q : List Local × Pattern) (bound : List NormalType) → pattern_of g p ≡ Some q → bound_by hs u q.1 ≡ Some bound → (length q.0 == length bound) ≡ true → Reads g hs p q
pattern_read g hs u pat.Wild q bound h eb eq = read_as g hs pat.Wild _ q resolves.IsPattern.wild h
pattern_read g hs u (pat.Var x) q bound h eb eq = read_as g hs (pat.Var x) _ q resolves.IsPattern.variable h
pattern_read g hs u (pat.Int n) q bound h eb eq = read_as g hs (pat.Int n) _ q resolves.IsPattern.int h
pattern_read g hs u (pat.Negative n) q bound h eb eq = read_as g hs (pat.Negative n) _ q resolves.IsPattern.negative h
pattern_read g hs u (pat.Str s) q bound h eb eq = read_as g hs (pat.Str s) _ q resolves.IsPattern.string h
pattern_read g hs u pat.True q bound h eb eq = read_as g hs pat.True _ q resolves.IsPattern.true_ h
pattern_read g hs u pat.False q bound h eb eq = read_as g hs pat.False _ q resolves.IsPattern.false_ h
pattern_read g hs u pat.None q bound h eb eq = read_as g hs pat.None _ q resolves.IsPattern.none h
pattern_read g hs u (pat.Some x) q bound h eb eq = read_as g hs (pat.Some x) _ q resolves.IsPattern.some h
pattern_read g hs u pat.Nil q bound h eb eq = read_as g hs pat.Nil _ q resolves.IsPattern.empty h
pattern_read g hs u (pat.Cons x y) q bound h eb eq = read_as g hs (pat.Cons x y) _ q resolves.IsPattern.cons h
pattern_read g hs u (pat.Constructor x argument.Absent) q bound h eb eq =
    let c : (n : ℕ) × (declared g (own x) g.constructors ≡ Some n) × (tag_pattern [] n ≡ q) = mapped _ _ q h in
    let v : (k : ℕ) × (slice_get hs.variants c.0 ≡ Some (k, None)) = no_argument hs c.0 (tag_at hs u [] c.0 q bound c.2 eb eq) in
    subst (Reads g hs (pat.Constructor x argument.Absent)) c.2 (resolves.IsPattern.constructor c.1 v.1)
pattern_read g hs u (pat.Member m x argument.Absent) q bound h eb eq =
    let c : (n : ℕ) × (declared g (of_module m x) g.constructors ≡ Some n) × (tag_pattern [] n ≡ q) = mapped _ _ q h in
    let v : (k : ℕ) × (slice_get hs.variants c.0 ≡ Some (k, None)) = no_argument hs c.0 (tag_at hs u [] c.0 q bound c.2 eb eq) in
    subst (Reads g hs (pat.Member m x argument.Absent)) c.2 (resolves.IsPattern.member c.1 v.1)
pattern_read g hs u (pat.Constructor x (argument.Bound y)) q bound h eb eq =
    let c : (n : ℕ) × (declared g (own x) g.constructors ≡ Some n) × (tag_pattern (binder_local y ∷ []) n ≡ q) = mapped _ _ q h in
    let v : (k : ℕ) × (t : NormalType) × (slice_get hs.variants c.0 ≡ Some (k, Some t)) = one_argument hs c.0 (binder_local y) (tag_at hs u (binder_local y ∷ []) c.0 q bound c.2 eb eq) in
    subst (Reads g hs (pat.Constructor x (argument.Bound y))) c.2 (resolves.IsPattern.constructor_of c.1 v.2)
pattern_read g hs u (pat.Member m x (argument.Bound y)) q bound h eb eq =
    let c : (n : ℕ) × (declared g (of_module m x) g.constructors ≡ Some n) × (tag_pattern (binder_local y ∷ []) n ≡ q) = mapped _ _ q h in
    let v : (k : ℕ) × (t : NormalType) × (slice_get hs.variants c.0 ≡ Some (k, Some t)) = one_argument hs c.0 (binder_local y) (tag_at hs u (binder_local y ∷ []) c.0 q bound c.2 eb eq) in
    subst (Reads g hs (pat.Member m x (argument.Bound y))) c.2 (resolves.IsPattern.member_of c.1 v.2)

-- ---- branches

-- the branches' types by the rules, where their bodies' type is found, or wanted
abbrev pub BranchesJudged : World → Scope → NormalType → Mode → Branches → Type 0
BranchesJudged w s u finds b = FindBranches w.declared w.most s.env u b.exps.1 b.patterns b.of
BranchesJudged w s u (wants t) b = (b.of ≡ t) × WantBranches w.declared w.most s.env u b.exps.1 b.patterns t

pub record BranchesAreSound (w : World) (n : Count) (bs : Row_of-Branch n) (s : Scope) (u : NormalType) (st : Sites) (m : Mode) (d : Statements) (b : Branches) : Type 0 where
  pub before : Fills w d st
  pub resolves : ResolvesBranches d w.most w.globals (stated d w).declared s.names _ bs _ b.exps.1
  pub judged : BranchesJudged (stated d w) s u m b
  pub numbered : Numbered st (branch_occurrences b.exps.1) b.sites

-- each body is sound
abbrev pub AreSound : World → {n : _} → Row_of-Branch n → Type 0
AreSound w end_of-Branch = Unit {0}
AreSound w (more_of-Branch t p x rest) = Sound w x × AreSound w rest

abbrev Rest : Type 0
Rest = Sites → Mode → Option Branches

step_judged : (w : World) (s : Scope) (u : NormalType) (m : Mode) (q : List Local × Pattern) (bound : List NormalType) (o : Out) (z : Branches) → bound_by w.declared u q.1 ≡ Some bound → Judged w (within_branch q.0 bound s) m o.exp o.of → (z.of ≡ o.of) → WantBranches w.declared w.most s.env u z.exps.1 z.patterns o.of →
    BranchesJudged w s u m (with_branch q.1 o z)
step_judged w s u finds q bound o z eb j i k = (bound, z.patterns, refl, eb, subst (λ v. Finds w.declared w.most (within_branch q.0 bound s).env o.exp v) (sym i) j.0, subst (λ v. Accepts w.most o.exp v) (sym i) j.1, subst (λ v. WantBranches w.declared w.most s.env u z.exps.1 z.patterns v) (sym i) k)
step_judged w s u (wants t) q bound o z eb j i k = (i ∙ j.0, (bound, z.patterns, refl, eb, j.1, j.2, subst (λ v. WantBranches w.declared w.most s.env u z.exps.1 z.patterns v) j.0 k))

-- what a pattern binds does not depend on the queries and changes
pub bound_stated : (d : Statements) (w : World) (u : NormalType) (p : Pattern) → bound_by w.declared u p ≡ bound_by (stated d w).declared u p
bound_stated d w u pattern.Any = refl
bound_stated d w u (pattern.Int n) = refl
bound_stated d w u (pattern.Str t) = refl
bound_stated d w u (pattern.Bool b) = refl
bound_stated d w u pattern.Absent = refl
bound_stated d w u pattern.Present = refl
bound_stated d w u pattern.Empty = refl
bound_stated d w u pattern.Cons = refl
bound_stated d w u (pattern.Tagged n) = refl

constructors_stated : (d : Statements) (w : World) (u : NormalType) → constructors_of w.declared u ≡ constructors_of (stated d w).declared u
constructors_stated d w ty.Bool = refl
constructors_stated d w (ty.Opt' _ t) = refl
constructors_stated d w (ty.Many' _ t) = refl
constructors_stated d w (ty.Datatype k) = refl
constructors_stated d w _ = refl

pub covers_stated : (d : Statements) (w : World) (u : NormalType) (ps : List Pattern) → covers w.declared u ps ≡ covers (stated d w).declared u ps
covers_stated d w u ps = ap (λ z. are_once same_pattern ps && (last_is_any ps || has_all z ps)) (constructors_stated d w u)

branches_sound : (w : World) (n : Count) (bs : Row_of-Branch n) → AreSound w bs → (s : Scope) (u : NormalType) (st : Sites) (m : Mode) (b : Branches) → branches_walk w bs s u st m ≡ Some b → (d : Statements) → Fills w d b.sites → BranchesAreSound w n bs s u st m d b
branches_sound w _ end_of-Branch k s u st finds b h d g = cc
branches_sound w _ end_of-Branch k s u st (wants t) b h d g =
    let z : Branches = record { of = t; patterns = []; exps = ([], no_branch); sites = st } in
    let i : z ≡ b = some_of h in
    subst (λ v. BranchesAreSound w _ end_of-Branch s u st (wants t) d v) i (record { before = subst (λ v. Fills w d v.sites) (sym i) g; resolves = branches_none; judged = (refl, refl); numbered = numbered_none st })
branches_sound w _ (more_of-Branch {n = n} t p x rest) k s u st m b h d g =
    let again : Rest = λ st' n'. branches_walk w rest s u st' n' in
    let c : (q : List Local × Pattern) × (pattern_of w.globals t.form ≡ Some q) × (branch_by w s u st m (typed w x) again q ≡ Some b) = opened _ _ b h in
    let l : (are_distinct c.0.0 ≡ true) × (option_and_then (branch_within w s st m (typed w x) again c.0) (bound_in w u c.0) ≡ Some b) = opened_if (are_distinct c.0.0) _ b c.2 in
    let r : (bound : List NormalType) × (bound_in w u c.0 ≡ Some bound) × (branch_within w s st m (typed w x) again c.0 bound ≡ Some b) = opened _ _ b l.1 in
    let eb : (bound_by w.declared u c.0.1 ≡ Some r.0) × ((length c.0.0 == length r.0) ≡ true) = bound_is w u c.0 r.0 r.1 in
    let es : bound_by (stated d w).declared u c.0.1 ≡ Some r.0 = sym (bound_stated d w u c.0.1) ∙ eb.0 in
    let v : (o : Out) × (typed w x (within_branch c.0.0 r.0 s) st m ≡ Some o) × (option_map (with_branch c.0.1 o) (branches_walk w rest s u o.sites (wants o.of)) ≡ Some b) = opened _ _ b r.2 in
    let y : (z : Branches) × (branches_walk w rest s u v.0.sites (wants v.0.of) ≡ Some z) × (with_branch c.0.1 v.0 z ≡ b) = mapped _ _ b v.2 in
    let g' : Fills w d y.0.sites = subst (λ z. Fills w d z.sites) (sym y.2) g in
    let ir : BranchesAreSound w n rest s u v.0.sites (wants v.0.of) d y.0 = branches_sound w n rest k.1 s u v.0.sites (wants v.0.of) y.0 y.1 d g' in
    let ix : IsSound w x (within_branch c.0.0 r.0 s) st m d v.0 = k.0 (within_branch c.0.0 r.0 s) st m v.0 v.1 d ir.before in
    subst (λ z. BranchesAreSound w _ (more_of-Branch t p x rest) s u st m d z) y.2 (record {
      before = ix.before;
      numbered = numbered_both ix.numbered ir.numbered;
      resolves = branches_one (pattern_read w.globals (stated d w).declared u t.form c.0 r.0 c.1 es eb.1) ((names_decided c.0.0).0 l.0) ix.resolves ir.resolves;
      judged = step_judged (stated d w) s u m c.0 r.0 v.0 y.0 es ix.judged ir.judged.0 ir.judged.1;
    })

-- ---- the whole

abbrev cased_of : World → Out → Branches → Option Out
cased_of w x b = if_so (covers w.declared x.of b.patterns) (gives b.of (make.cases x.exp b.exps.0 b.exps.1) b.sites)

case_judged : (w : World) (s : Scope) (m : Mode) (x : Exp) (u : NormalType) (b : Branches) → Finds w.declared w.most s.env x u × Accepts w.most x u → BranchesJudged w s u m b → Covers w.declared u b.patterns → Accepts w.most (make.cases x b.exps.0 b.exps.1) b.of → Judged w s m (make.cases x b.exps.0 b.exps.1) b.of
case_judged w s finds x u b jx jb c acc = ((u, b.patterns, jx, jb, c), acc)
case_judged w s (wants t) x u b jx jb c acc = (jb.0, (u, b.patterns, jx, jb.1, c), subst (λ v. Accepts w.most (make.cases x b.exps.0 b.exps.1) v) jb.0 acc)

pub case_sound : (w : World) (p : Span) (x : ExpForm) (n : Shape) (bs : Row_of-Branch (count n)) → Sound w x → AreSound w bs → Sound w (e.Case' tt (its p x alone) n bs)
case_sound w p x n bs kx kb s st m o h d g =
    let f : ExpForm = e.Case' tt (its p x alone) n bs in
    let a : IsSettled w f s st m o = settled_by w f s st m o h in
    let c : (i : Out) × (typed w x s st finds ≡ Some i) × (option_and_then (cased_of w i) (branches_walk w bs s i.of i.sites m) ≡ Some o) = opened _ _ o a.walked in
    let l : (b : Branches) × (branches_walk w bs s c.0.of c.0.sites m ≡ Some b) × (cased_of w c.0 b ≡ Some o) = opened _ _ o c.2 in
    let r : (covers w.declared c.0.of l.0.patterns ≡ true) × (gives l.0.of (make.cases c.0.exp l.0.exps.0 l.0.exps.1) l.0.sites ≡ Some o) = opened_if (covers w.declared c.0.of l.0.patterns) (gives l.0.of (make.cases c.0.exp l.0.exps.0 l.0.exps.1) l.0.sites) o l.2 in
    let b : Out = record { of = l.0.of; exp = make.cases c.0.exp l.0.exps.0 l.0.exps.1; sites = l.0.sites } in
    sound_at w f s st m d b o a r.1 g (λ acc fit g'.
    let ib : BranchesAreSound w _ bs s c.0.of c.0.sites m d l.0 = branches_sound w _ bs kb s c.0.of c.0.sites m l.0 l.1 d g' in
    let ix : IsSound w x s st finds d c.0 = kx s st finds c.0 c.1 d ib.before in
    record { before = ix.before; numbered = numbered_both (numbered_end ix.numbered) ib.numbered; resolves = resolves.cases ix.resolves ib.resolves; judged = case_judged (stated d w) s m c.0.exp c.0.of l.0 (ix.judged.0, ix.judged.1) ib.judged ((branches_decided (stated d w).declared c.0.of l.0.patterns).0 (sym (covers_stated d w c.0.of l.0.patterns) ∙ r.0)) acc })
