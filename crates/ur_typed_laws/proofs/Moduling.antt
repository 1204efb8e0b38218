-- Declarations and modules, as the functions give them, are those by the rules.
use Rattle.std.proofs.Common.{arith, ◌≡◌, ◌∙◌, refl, sym, ap, subst, Some, List, [], ◌∷◌, ◌++◌, ℕ, ◌+◌, length}
use Rattle.std.specs.Prelude.{option_and_then, slice_get}
use mathlib.Core.List.{append_assoc}
use Rattle.ur_syntax.specs.declared.decl.Decl.{Decl}
use Rattle.ur_syntax.specs.declared.decl.DeclForm.{DeclForm}
use Rattle.ur_syntax.specs.declared.decl.Module.{Module}
use Rattle.ur_tree.specs.declared.exp.Exp.{Exp}
use Rattle.ur_tree.specs.declared.typed.Typed.{Typed}
use Rattle.ur_tree.specs.Occurrences.{occurrences}
use Rattle.ur_typed_rules.proofs.Options.{some_of, opened}
use Rattle.ur_typed.specs.Project.{Place, enter, DeclResolves, DeclsResolve, ModulesResolve}
use Rattle.ur_typed.specs.Project as project
use Rattle.ur_typed.specs.Typed.{all_decls, AreBodies, all_occurrences}
use Rattle.ur_typed.specs.Typed as source
use Rattle.ur_typed.specs.Rules.{Sites}
use Rattle.ur_typed.specs.Declaring.{Sofar, Bodies, decl_out, bodies_out, Checked, decls_out, entered, modules_out}
use Rattle.ur_typed_laws.specs.Judged.{Numbered, TypedIsSound}
use Rattle.ur_typed_laws.proofs.Numbers.{numbered_none, numbered_both}
use Rattle.ur_typed_laws.proofs.Begun.{longer}
use Rattle.ur_typed_laws.proofs.Holding.{Holds, Grows, grows_self, grows_on}
use Rattle.ur_typed_laws.proofs.Kinding.{DeclsArePlain, ModulesArePlain}
use Rattle.ur_typed_laws.proofs.Walking.{Widens}
use Rattle.ur_typed_laws.proofs.SoundLawsBodying.{HoldsBodies}
use Rattle.ur_typed_laws.proofs.Stepping.{Counts, decl_grows, decl_counts, TypedTo, Goes, decl_goes}

-- ---- what stays

-- What each declaration and module keeps (`Keeps`), and what holds before one if it does behind it (`Leads`), by which what the walk gives
-- it gives where all is declared.
pub record Steady (Keeps Leads : Sofar → Type 0) (app : Typed) (most : ℕ) : Type 0 where
  pub step : (home : ℕ) (d : DeclForm) (z y : Sofar) → decl_out most home d z ≡ Some y → Keeps z → Keeps y
  pub enters : (m : List ℕ) (z : Sofar) → Keeps z → Keeps (record z { place = enter m z.place })
  pub before : (home : ℕ) (d : DeclForm) (z y : Sofar) → decl_out most home d z ≡ Some y → Leads y → Leads z
  pub outside : (m : List ℕ) (z : Sofar) → Leads (record z { place = enter m z.place }) → Leads z
  pub widens : (z : Sofar) → Keeps z → Leads z → z.place.fields ≡ app.names → Widens app most z

abbrev a_checked : Sofar → Bodies → Checked
a_checked z b = (z, b)

pub record Stands (Keeps : Sofar → Type 0) (app : Typed) (z : Sofar) (b : Bodies) : Type 0 where
  pub counts : Counts z b
  pub fields : z.place.fields ≡ app.names
  pub keeps : Keeps z

stands_on : (Keeps Leads : Sofar → Type 0) (app : Typed) (most : ℕ) → Steady Keeps Leads app most → (home : ℕ) (d : DeclForm) (z y : Sofar) (b c : Bodies) → decl_out most home d z ≡ Some y → bodies_out most d z y b ≡ Some c → Stands Keeps app z b → Stands Keeps app y c
stands_on Keeps Leads app most steady home d z y b c h i s = record { counts = decl_counts app most home d z y b c h i s.counts; fields = (decl_grows app most home d z y h).fields ∙ s.fields; keeps = steady.step home d z y h s.keeps }

pub decls_stand : (Keeps Leads : Sofar → Type 0) (app : Typed) (most : ℕ) → Steady Keeps Leads app most → (home : ℕ) (ds : List Decl) (p q : Checked) → decls_out most home ds p ≡ Some q → Stands Keeps app p.0 p.1 → Stands Keeps app q.0 q.1
decls_stand Keeps Leads app most steady home [] p q h s = subst (λ (u : Checked). Stands Keeps app u.0 u.1) (some_of h) s
decls_stand Keeps Leads app most steady home (d ∷ ds) p q h s =
    let i : (y : Sofar) × (decl_out most home d.form p.0 ≡ Some y) × (option_and_then (λ b. decls_out most home ds (y, b)) (bodies_out most d.form p.0 y p.1) ≡ Some q) = opened _ _ q h in
    let j : (c : Bodies) × (bodies_out most d.form p.0 i.0 p.1 ≡ Some c) × (decls_out most home ds (a_checked i.0 c) ≡ Some q) = opened _ _ q i.2 in
    decls_stand Keeps Leads app most steady home ds (a_checked i.0 j.0) q j.2 (stands_on Keeps Leads app most steady home d.form p.0 i.0 p.1 j.0 i.1 j.1 s)

-- ---- bodies one after another

occurrences_of_both : (xs ys : List Exp) → all_occurrences (xs ++ ys) ≡ all_occurrences xs ++ all_occurrences ys
occurrences_of_both [] ys = refl
occurrences_of_both (x ∷ xs) ys = ap (λ z. occurrences x ++ z) (occurrences_of_both xs ys) ∙ sym (append_assoc (occurrences x) (all_occurrences xs) (all_occurrences ys))

numbered_on : {st su sv : Sites} (xs ys : List Exp) → Numbered st (all_occurrences xs) su → Numbered su (all_occurrences ys) sv → Numbered st (all_occurrences (xs ++ ys)) sv
numbered_on {st} {su} {sv} xs ys n m = subst (λ os. Numbered st os sv) (sym (occurrences_of_both xs ys)) (numbered_both n m)

bodies_on : (app : Typed) (f v : ℕ) (ds : List Decl) (g w : ℕ) (xs ys rest : List Exp) → AreBodies app f v ds g w (xs ++ (ys ++ rest)) → AreBodies app f v ds g w ((xs ++ ys) ++ rest)
bodies_on app f v ds g w xs ys rest r = subst (AreBodies app f v ds g w) (sym (append_assoc xs ys rest)) r

-- ---- declarations

pub record DeclsGo (Leads : Sofar → Type 0) (app : Typed) (most home : ℕ) (ds : List Decl) (z y : Sofar) (b c : Bodies) : Type 0 where
  pub grows : Grows app z y
  pub resolve : DeclsResolve app most home z.place ds y.place
  pub own : List Exp
  pub bodies : (es : List Decl) (g v : ℕ) (rest : List Exp) → AreBodies app y.place.functions y.place.vals es g v rest → AreBodies app z.place.functions z.place.vals (ds ++ es) g v (own ++ rest)
  pub numbered : Numbered b.sites (all_occurrences own) c.sites
  pub typed : TypedTo app most z → TypedTo app most y
  pub leads : Leads z
  pub held : HoldsBodies app b

decls_end : (Leads : Sofar → Type 0) (app : Typed) (most home : ℕ) (z : Sofar) (b : Bodies) → Leads z → HoldsBodies app b → DeclsGo Leads app most home [] z z b b
decls_end Leads app most home z b l k = record { grows = grows_self app z; resolve = project.DeclsResolve.none; own = []; bodies = λ es g v rest r. r; numbered = numbered_none b.sites; typed = λ t. t; leads = l; held = k }

pub decls_go : TypedIsSound → (Keeps Leads : Sofar → Type 0) (app : Typed) (most : ℕ) → Steady Keeps Leads app most → (home : ℕ) (ds : List Decl) (p q : Checked) → decls_out most home ds p ≡ Some q → Stands Keeps app p.0 p.1 → slice_get app.modules home ≡ Some p.0.place.globals.home → DeclsArePlain ds →
    Leads q.0 → Holds app q.0 → HoldsBodies app q.1 → DeclsGo Leads app most home ds p.0 q.0 p.1 q.1
decls_go sound Keeps Leads app most steady home [] p q h s m plain leads hold held =
    let e : p ≡ q = some_of h in
    subst (λ (u : Checked). DeclsGo Leads app most home [] p.0 u.0 p.1 u.1) e (decls_end Leads app most home p.0 p.1 (subst (λ (u : Checked). Leads u.0) (sym e) leads) (subst (λ (u : Checked). HoldsBodies app u.1) (sym e) held))
decls_go sound Keeps Leads app most steady home (d ∷ ds) p q h s m plain leads hold held =
    let i : (y : Sofar) × (decl_out most home d.form p.0 ≡ Some y) × (option_and_then (λ b. decls_out most home ds (y, b)) (bodies_out most d.form p.0 y p.1) ≡ Some q) = opened _ _ q h in
    let j : (c : Bodies) × (bodies_out most d.form p.0 i.0 p.1 ≡ Some c) × (decls_out most home ds (a_checked i.0 c) ≡ Some q) = opened _ _ q i.2 in
    let s' : Stands Keeps app i.0 j.0 = stands_on Keeps Leads app most steady home d.form p.0 i.0 p.1 j.0 i.1 j.1 s in
    let g : Grows app p.0 i.0 = decl_grows app most home d.form p.0 i.0 i.1 in
    let m' : slice_get app.modules home ≡ Some i.0.place.globals.home = m ∙ ap (λ z. Some z) (sym g.home) in
    let r : DeclsGo Leads app most home ds i.0 q.0 j.0 q.1 = decls_go sound Keeps Leads app most steady home ds (a_checked i.0 j.0) q j.2 s' m' plain.1 leads hold held in
    let k : Holds app i.0 = r.grows.held hold in
    let before : Leads p.0 = steady.before home d.form p.0 i.0 i.1 r.leads in
    let wz : Widens app most p.0 = steady.widens p.0 s.keeps before s.fields in
    let wy : Widens app most i.0 = steady.widens i.0 s'.keeps r.leads s'.fields in
    let f : Goes app most home d.form p.0 i.0 p.1 j.0 = decl_goes sound app most home d.form p.0 i.0 p.1 j.0 wz wy i.1 j.1 k s.counts m plain.0 r.held in
    record {
      grows = grows_on g r.grows;
      resolve = project.DeclsResolve.one f.resolves r.resolve;
      own = f.own ++ r.own;
      bodies = λ es n v rest b. bodies_on app p.0.place.functions p.0.place.vals (d ∷ (ds ++ es)) n v f.own r.own rest (f.bodies d refl (ds ++ es) n v (r.own ++ rest) (r.bodies es n v rest b));
      numbered = numbered_on f.own r.own f.numbered r.numbered;
      typed = λ t. r.typed (f.typed t);
      leads = before;
      held = f.held;
    }

-- ---- modules

pub record ModulesGo (Leads : Sofar → Type 0) (app : Typed) (most n : ℕ) (names : List (List ℕ)) (modules : List Module) (z y : Sofar) (b c : Bodies) : Type 0 where
  pub held_heads : Holds app z
  pub resolve : ModulesResolve app most n z.place names modules y.place
  pub own : List Exp
  pub bodies : AreBodies app z.place.functions z.place.vals (all_decls modules) y.place.functions y.place.vals own
  pub numbered : Numbered b.sites (all_occurrences own) c.sites
  pub typed : TypedTo app most z → TypedTo app most y
  pub leads : Leads z
  pub held : HoldsBodies app b

-- the names of modules that are left stand behind those before
pub record Left (app : Typed) (n : ℕ) (names : List (List ℕ)) : Type 0 where
  pub front : List (List ℕ)
  pub many : length front ≡ n
  pub are : app.modules ≡ front ++ names

at_front : {A : Type 0} (front rest : List A) (x : A) → slice_get (front ++ x ∷ rest) (length front) ≡ Some x
at_front [] rest x = refl
at_front (y ∷ front) rest x = at_front front rest x

left_at : (app : Typed) (n : ℕ) (m : List ℕ) (names : List (List ℕ)) → Left app n (m ∷ names) → slice_get app.modules n ≡ Some m
left_at app n m names l = ap (slice_get app.modules) (sym l.many) ∙ (ap (λ z. slice_get z (length l.front)) l.are ∙ at_front l.front names m)

left_next : (app : Typed) (n : ℕ) (m : List ℕ) (names : List (List ℕ)) → Left app n (m ∷ names) → Left app (n + 1) names
left_next app n m names l = record { front = l.front ++ m ∷ []; many = longer l.front m n l.many; are = l.are ∙ sym (append_assoc l.front (m ∷ []) names) }

stands_in : (Keeps Leads : Sofar → Type 0) (app : Typed) (most : ℕ) → Steady Keeps Leads app most → (m : List ℕ) (p : Checked) → Stands Keeps app p.0 p.1 → Stands Keeps app (entered m p).0 (entered m p).1
stands_in Keeps Leads app most steady m p s = record {
  counts = record {
    tallied = record { functions = s.counts.tallied.functions; vals = s.counts.tallied.vals; datatypes = s.counts.tallied.datatypes; variants = s.counts.tallied.variants; cookies = s.counts.tallied.cookies; sequences = s.counts.tallied.sequences };
    functions = s.counts.functions;
    vals = s.counts.vals;
  };
  fields = s.fields;
  keeps = steady.enters m p.0 s.keeps;
}

holds_before : (app : Typed) (m : List ℕ) (p : Checked) → Holds app (entered m p).0 → Holds app p.0
holds_before app m p h = record { datatypes = h.datatypes; variants = h.variants; tables = h.tables; sequences = h.sequences; cookies = h.cookies; vals = h.vals; functions = h.functions }

typed_in : (app : Typed) (most : ℕ) (m : List ℕ) (p : Checked) → TypedTo app most p.0 → TypedTo app most (entered m p).0
typed_in app most m p t = record { variants = t.variants; functions = t.functions; vals = t.vals }

modules_end : (Leads : Sofar → Type 0) (app : Typed) (most n : ℕ) (z : Sofar) (b : Bodies) → Leads z → Holds app z → HoldsBodies app b → ModulesGo Leads app most n [] [] z z b b
modules_end Leads app most n z b l h k = record { held_heads = h; resolve = project.ModulesResolve.none; own = []; bodies = source.AreBodies.none; numbered = numbered_none b.sites; typed = λ t. t; leads = l; held = k }

same_tail : {A B : Type 0} (a : A) (b : B) (xs : List A) (ys : List B) → length (a ∷ xs) ≡ length (b ∷ ys) → length xs ≡ length ys
same_tail a b xs ys h = omega (arith, h)

pub modules_go : TypedIsSound → (Keeps Leads : Sofar → Type 0) (app : Typed) (most : ℕ) → Steady Keeps Leads app most → (n : ℕ) (names : List (List ℕ)) (modules : List Module) (p q : Checked) → length names ≡ length modules → Left app n names → modules_out most n names modules p ≡ Some q → Stands Keeps app p.0 p.1 →
    ModulesArePlain names modules → Leads q.0 → Holds app q.0 → HoldsBodies app q.1 → ModulesGo Leads app most n names modules p.0 q.0 p.1 q.1
modules_go sound Keeps Leads app most steady n [] [] p q l f h s plain leads hold held =
    let e : p ≡ q = some_of h in
    subst (λ (u : Checked). ModulesGo Leads app most n [] [] p.0 u.0 p.1 u.1) e (modules_end Leads app most n p.0 p.1 (subst (λ (u : Checked). Leads u.0) (sym e) leads) (subst (λ (u : Checked). Holds app u.0) (sym e) hold) (subst (λ (u : Checked). HoldsBodies app u.1) (sym e) held))
modules_go sound Keeps Leads app most steady n [] (x ∷ modules) p q l f h s plain leads hold held = cc
modules_go sound Keeps Leads app most steady n (m ∷ names) [] p q l f h s plain leads hold held = cc
modules_go sound Keeps Leads app most steady n (m ∷ names) (x ∷ modules) p q l f h s plain leads hold held =
    let i : (o : Checked) × (decls_out most n x.decls (entered m p) ≡ Some o) × (modules_out most (n + 1) names modules o ≡ Some q) = opened _ _ q h in
    let s' : Stands Keeps app (entered m p).0 (entered m p).1 = stands_in Keeps Leads app most steady m p s in
    let g : slice_get app.modules n ≡ Some m = left_at app n m names f in
    let so : Stands Keeps app i.0.0 i.0.1 = decls_stand Keeps Leads app most steady n x.decls (entered m p) i.0 i.1 s' in
    let r : ModulesGo Leads app most (n + 1) names modules i.0.0 q.0 i.0.1 q.1 = modules_go sound Keeps Leads app most steady (n + 1) names modules i.0 q (same_tail m x names modules l) (left_next app n m names f) i.2 so plain.1 leads hold held in
    let d : DeclsGo Leads app most n x.decls (entered m p).0 i.0.0 (entered m p).1 i.0.1 = decls_go sound Keeps Leads app most steady n x.decls (entered m p) i.0 i.1 s' g plain.0 r.leads r.held_heads r.held in
    record {
      held_heads = holds_before app m p (d.grows.held r.held_heads);
      resolve = project.ModulesResolve.one g d.resolve r.resolve;
      own = d.own ++ r.own;
      bodies = d.bodies (all_decls modules) q.0.place.functions q.0.place.vals r.own r.bodies;
      numbered = numbered_on d.own r.own d.numbered r.numbered;
      typed = λ t. r.typed (d.typed (typed_in app most m p t));
      leads = steady.outside m p.0 d.leads;
      held = d.held;
    }

pub modules_stand : (Keeps Leads : Sofar → Type 0) (app : Typed) (most : ℕ) → Steady Keeps Leads app most → (n : ℕ) (names : List (List ℕ)) (modules : List Module) (p q : Checked) → modules_out most n names modules p ≡ Some q → Stands Keeps app p.0 p.1 → Stands Keeps app q.0 q.1
modules_stand Keeps Leads app most steady n [] modules p q h s = subst (λ (u : Checked). Stands Keeps app u.0 u.1) (some_of h) s
modules_stand Keeps Leads app most steady n (m ∷ names) [] p q h s = subst (λ (u : Checked). Stands Keeps app u.0 u.1) (some_of h) s
modules_stand Keeps Leads app most steady n (m ∷ names) (x ∷ modules) p q h s =
    let i : (o : Checked) × (decls_out most n x.decls (entered m p) ≡ Some o) × (modules_out most (n + 1) names modules o ≡ Some q) = opened _ _ q h in
    modules_stand Keeps Leads app most steady (n + 1) names modules i.0 q i.2 (decls_stand Keeps Leads app most steady n x.decls (entered m p) i.0 i.1 (stands_in Keeps Leads app most steady m p s))
