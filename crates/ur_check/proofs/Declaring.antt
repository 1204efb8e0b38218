-- One declaration after another, and one module after another.
use Rattle.std.proofs.Common.{◌≡◌, ◌∙◌, refl, sym, ap, ap₂, subst, subst₂, ℕ, suc, ◌+◌, ◌<◌, ◌≤◌, List, [], ◌∷◌, length, drop, get_or, Option, Some, None, arith, drop_of_length-le}
use Rattle.std.specs.Prelude.{pred, slice_get, option_map, option_and_then}
use Rattle.std.proofs.lemmas.Option.{slice_get_within, get_or_from_slice_get}
use Rattle.ur_base.specs.declared.refusal.Refusal.{Refusal}
use Rattle.ur_syntax.specs.declared.con.Con.{Con}
use Rattle.ur_syntax.specs.declared.decl.FunDef.{FunDef}
use Rattle.ur_syntax.specs.declared.decl.Decl.{Decl}
use Rattle.ur_syntax.specs.declared.decl.DeclForm.{DeclForm}
use Rattle.ur_syntax.specs.declared.decl.DeclForm.TheVariants as decl
use Rattle.ur_syntax.specs.declared.decl.Module.{Module}
use Rattle.ur_syntax.specs.declared.exp.Exp.{Exp as WrittenExp}
use Rattle.ur_rows.specs.declared.normal.NormalType.{NormalType}
use Rattle.ur_typed_rules.specs.Faults.{TellsType}
use Rattle.ur_check_scopes.specs.Views.{Refuses}
use Rattle.ur_check_scopes.proofs.Loops.{drop-here, drop-none}
use Rattle.ur_check_rules.specs.Views.{sites_in}
use Rattle.ur_typed.specs.Typed.{HasNoBody}
use Rattle.ur_typed.specs.Typed as typed
use Rattle.ur_typed.specs.Declaring.{Sofar, Bodies, Checked, datatype_names, headings_out, val_type_out, with_val_of, decl_out, group_out, val_body_out, bodies_out, decls_out, entered, modules_out}
use Rattle.ur_typed.specs.DeclFaults.{BreaksDecl, in_val, names_within, BreaksVal, GroupHasFault, BodiesHaveFault, in_right_side, right_side_moves, in_group, DeclsHaveFault, in_head, in_bodies, in_later_decl, ModulesHaveFault, in_module, in_later_module}
use Rattle.ur_check_heads.specs.declared.project.Project.{Project}
use Rattle.ur_check_heads.specs.Views.{Sees, Comes}
use Rattle.ur_check.specs.declared.bodies.Bodies.{Bodies as HeldBodies}
use Rattle.ur_check.specs.Views.{bodies_in, SeesSome, RightSideTells, has_fault, moves, AreHeaded, Declares, DeclHasFault, DeclaresAll, DeclsFault, AddsModule, ModuleHasFault, AddsModules, ModulesFault}
use Rattle.ur_check.proofs.Grouping.{first-is}

-- ---- declarations

pub came : (p : Project) (home : ℕ) (o : Option Sofar) → Comes p home o → (z : Sofar) × (o ≡ Some z) × Sees p home z
came p home None h = absurd h
came p home (Some z) h = (z, refl, h)

-- a head that breaks a rule
pub head-fault : (p : Project) (b : HeldBodies) (f : DeclForm) (r : Refusal) →
    ((home : ℕ) (z : Sofar) → Sees p home z → Refuses (names_within home f z) (BreaksDecl 65536 home z f) r) → DeclHasFault p b f r
head-fault p b f r h = λ home z s d ds e.
    let t = h home z s in in_head (subst (λ x. BreaksDecl 65536 home z x t.0) (sym e) t.1) (subst (λ x. TellsType (names_within home x z) r t.0) (sym e) t.2)

pub val-head-fault : (p : Project) (b : HeldBodies) (x : List ℕ) (c : Con) (e : WrittenExp) (r : Refusal) →
    ((home : ℕ) (z : Sofar) → Sees p home z → Refuses (datatype_names z) (BreaksVal 65536 z c) r) → DeclHasFault p b (decl.Val x c e) r
val-head-fault p b x c e r h = head-fault p b (decl.Val x c e) r (λ home z s. let t = h home z s in (t.0, in_val t.1, t.2))

side-fault : (z after : Sofar) (b : Bodies) (x : List ℕ) (c : Con) (e : WrittenExp) (t : NormalType) (r : Refusal) → val_type_out 65536 c z ≡ Some t →
    RightSideTells z e t b.sites r → BodiesHaveFault 65536 z after b r (decl.Val x c e)
side-fault z after b x c e t r et (has_fault f) = in_right_side et f
side-fault z after b x c e t r et (moves o i n) = right_side_moves et o i n

pub val-fault : (p : Project) (b : HeldBodies) (x : List ℕ) (c : Con) (e : WrittenExp) (t : NormalType) (r : Refusal) →
    ((home : ℕ) (z : Sofar) → Sees p home z → val_type_out 65536 c z ≡ Some t) →
    ((home : ℕ) (z : Sofar) → Sees p home z → RightSideTells z e t (sites_in b.sites) r) →
    DeclHasFault p b (decl.Val x c e) r
val-fault p b x c e t r et h = λ home z s d ds eq.
    let after : Sofar = with_val_of x z t in
    in_bodies (ap (λ f. decl_out 65536 home f z) eq ∙ ap (option_map (with_val_of x z)) (et home z s)) (subst (BodiesHaveFault 65536 z after (bodies_in b) r) (sym eq) (side-fault z after (bodies_in b) x c e t r (et home z s) (h home z s)))

pub val-declared : (p q : Project) (b c : HeldBodies) (x : List ℕ) (con : Con) (e : WrittenExp) (t : NormalType) →
    ((home : ℕ) (z : Sofar) → Sees p home z → val_type_out 65536 con z ≡ Some t) →
    ((home : ℕ) (z : Sofar) → Sees p home z → val_body_out 65536 z e.form (bodies_in b) t ≡ Some (bodies_in c)) → ((home : ℕ) (z : Sofar) → Sees p home z → Sees q home (with_val_of x z t)) → Declares p b (decl.Val x con e) q c
val-declared p q b c x con e t et eb seen = λ home z s.
    (with_val_of x z t, ap (option_map (with_val_of x z)) (et home z s), ap (option_and_then (val_body_out 65536 z e.form (bodies_in b))) (et home z s) ∙ eb home z s, seen home z s)

-- ---- groups

pub group-headed : (p q : Project) (first : ℕ) (f : DeclForm) (fs gs : List FunDef) → f ≡ decl.Fun fs → gs ≡ fs → first ≡ length p.world.functions →
    ((home : ℕ) (z : Sofar) → Sees p home z → Comes q home (decl_out 65536 home f z)) → SeesSome p → AreHeaded q first gs
group-headed p q first f fs gs e eg k comes (home, z, s) =
    let a = came q home (decl_out 65536 home f z) (comes home z s) in
    (home, z, a.0, a.2, ap (λ x. headings_out 65536 home x z) eg ∙ sym (ap (λ x. decl_out 65536 home x z) e) ∙ a.1, k ∙ first-is p home z s)

pub group-declared : (p q : Project) (first : ℕ) (f : DeclForm) (fs gs : List FunDef) (b c : HeldBodies) → f ≡ decl.Fun fs → gs ≡ fs →
    first ≡ length p.world.functions → ((home : ℕ) (z : Sofar) → Sees p home z → Comes q home (decl_out 65536 home f z)) →
    ((home : ℕ) (y z : Sofar) → Sees q home z → headings_out 65536 home gs y ≡ Some z → first ≡ length y.functions → group_out 65536 z gs (bodies_in b) ≡ Some (bodies_in c)) → Declares p b f q c
group-declared p q first f fs gs b c e eg k comes bodies = λ home z s.
    let a = came q home (decl_out 65536 home f z) (comes home z s) in
    let g = bodies home z a.0 a.2 (ap (λ x. headings_out 65536 home x z) eg ∙ sym (ap (λ x. decl_out 65536 home x z) e) ∙ a.1) (k ∙ first-is p home z s) in
    (a.0, a.1, ap (λ x. bodies_out 65536 x z a.0 (bodies_in b)) e ∙ ap (λ x. group_out 65536 a.0 x (bodies_in b)) (sym eg) ∙ g, a.2)

pub group-fault : (p q : Project) (first : ℕ) (f : DeclForm) (fs gs : List FunDef) (b : HeldBodies) (r : Refusal) → f ≡ decl.Fun fs → gs ≡ fs →
    first ≡ length p.world.functions → ((home : ℕ) (z : Sofar) → Sees p home z → Comes q home (decl_out 65536 home f z)) →
    ((home : ℕ) (y z : Sofar) → Sees q home z → headings_out 65536 home gs y ≡ Some z → first ≡ length y.functions → GroupHasFault 65536 z r gs (bodies_in b)) → DeclHasFault p b f r
group-fault p q first f fs gs b r e eg k comes fault = λ home z s d ds eq.
    let a = came q home (decl_out 65536 home f z) (comes home z s) in
    let g = fault home z a.0 a.2 (ap (λ x. headings_out 65536 home x z) eg ∙ sym (ap (λ x. decl_out 65536 home x z) e) ∙ a.1) (k ∙ first-is p home z s) in
    in_bodies (ap (λ x. decl_out 65536 home x z) eq ∙ a.1) (subst (BodiesHaveFault 65536 z a.0 (bodies_in b) r) (sym (eq ∙ e)) (in_group (subst (λ x. GroupHasFault 65536 a.0 r x (bodies_in b)) eg g)))

-- ---- declarations without a body

bare-out : (f : DeclForm) (z after : Sofar) (b : Bodies) → HasNoBody f → bodies_out 65536 f z after b ≡ Some b
bare-out _ z after b typed.con = refl
bare-out _ z after b typed.type_ = refl
bare-out _ z after b typed.datatype = refl
bare-out _ z after b typed.table = refl
bare-out _ z after b typed.sequence = refl
bare-out _ z after b typed.cookie = refl

pub bare-declared : (p q : Project) (f : DeclForm) → HasNoBody f → ((home : ℕ) (z : Sofar) → Sees p home z → Comes q home (decl_out 65536 home f z)) →
    (b : HeldBodies) → Declares p b f q b
bare-declared p q f bare comes b = λ home z s. let a = came q home (decl_out 65536 home f z) (comes home z s) in (a.0, a.1, bare-out f z a.0 (bodies_in b) bare, a.2)

-- ---- one declaration after another

pub record Declared (p q : Project) (b c : HeldBodies) (all left : List Decl) : Type 0 where
  pub sees : (home : ℕ) (z : Sofar) → Sees p home z → (y : Sofar) × Sees q home y × (decls_out 65536 home all (z, bodies_in b) ≡ decls_out 65536 home left (y, bodies_in c)) × ((r : Refusal) → DeclsHaveFault 65536 home r left (y, bodies_in c) → DeclsHaveFault 65536 home r all (z, bodies_in b))

pub declared-start : (p : Project) (b : HeldBodies) (all left : List Decl) → left ≡ all → Declared p p b b all left
declared-start p b all left e = record { sees = λ home z s. (z, s, ap (λ l. decls_out 65536 home l (z, bodies_in b)) (sym e), λ r h. subst (λ l. DeclsHaveFault 65536 home r l (z, bodies_in b)) e h) }

pub declared-some : (p q : Project) (b c : HeldBodies) (all left : List Decl) → Declared p q b c all left → SeesSome p → SeesSome q
declared-some p q b c all left g (home, z, s) = let h = g.sees home z s in (home, h.0, h.1)

pub declared-past : (p q t : Project) (b c e : HeldBodies) (all left rest : List Decl) (d : Decl) → left ≡ d ∷ rest → Declares q c d.form t e →
    Declared p q b c all left → Declared p t b e all rest
declared-past p q t b c e all left rest d el step g = record {
  sees = λ home z s.
      let h = g.sees home z s in
      let k = step home h.0 h.1 in (
        k.0,
        k.3,
        h.2 ∙ ap (λ l. decls_out 65536 home l (h.0, bodies_in c)) el ∙ ap (option_and_then (λ after. option_and_then (λ b. decls_out 65536 home rest (after, b)) (bodies_out 65536 d.form h.0 after (bodies_in c)))) k.1
            ∙ ap (option_and_then (λ b. decls_out 65536 home rest (k.0, b))) k.2,
        λ r f. h.3 r (subst (λ l. DeclsHaveFault 65536 home r l (h.0, bodies_in c)) (sym el) (in_later_decl k.1 k.2 f)),
      );
}

pub declared-broken : (p q : Project) (b c : HeldBodies) (all left rest : List Decl) (d : Decl) (r : Refusal) → left ≡ d ∷ rest → DeclHasFault q c d.form r →
    Declared p q b c all left → DeclsFault p b all r
declared-broken p q b c all left rest d r el fault g = λ home z s. let h = g.sees home z s in h.3 r (subst (λ l. DeclsHaveFault 65536 home r l (h.0, bodies_in c)) (sym el) (fault home h.0 h.1 d rest refl))

pub declared-end : (p q : Project) (b c : HeldBodies) (all left : List Decl) → left ≡ [] → Declared p q b c all left → DeclaresAll p b all q c
declared-end p q b c all left e g = λ home z s. let h = g.sees home z s in (h.0, h.2 ∙ ap (λ l. decls_out 65536 home l (h.0, bodies_in c)) e, h.1)

-- ---- a module

abbrev pub Enters : Project → List ℕ → ℕ → Project → Type 0
Enters p m n q = (home : ℕ) (before : Checked) → Sees p home before.0 → Sees q n (entered m before).0

pub enters-some : (p q : Project) (m : List ℕ) (n : ℕ) (b : HeldBodies) → Enters p m n q → SeesSome p → SeesSome q
enters-some p q m n b enter (home, z, s) = (n, (entered m (z, bodies_in b)).0, enter home (z, bodies_in b) s)

pub module-added : (p q t : Project) (m : List ℕ) (n k : ℕ) (x : Module) (ds : List Decl) (b c : HeldBodies) → n ≡ k → ds ≡ x.decls → Enters p m n q →
    DeclaresAll q b ds t c → AddsModule p b k m x t c
module-added p q t m n k x ds b c en ed enter all = λ home z s.
    let h = all n (entered m (z, bodies_in b)).0 (enter home (z, bodies_in b) s) in
    (h.0, ap₂ (λ j l. decls_out 65536 j l (entered m (z, bodies_in b))) (sym en) (sym ed) ∙ h.1, subst (λ j. Sees t j h.0) en h.2)

pub module-fault : (p q : Project) (m : List ℕ) (n k : ℕ) (x : Module) (ds : List Decl) (b : HeldBodies) (r : Refusal) → n ≡ k → ds ≡ x.decls →
    Enters p m n q → DeclsFault q b ds r → ModuleHasFault p b k m x r
module-fault p q m n k x ds b r en ed enter fault = λ home z s.
    subst₂ (λ j l. DeclsHaveFault 65536 j r l (entered m (z, bodies_in b))) en ed (fault n (entered m (z, bodies_in b)).0 (enter home (z, bodies_in b) s))

-- ---- one module after another

pub record Added (p q : Project) (b c : HeldBodies) (names : List (List ℕ)) (modules : List Module) (i : ℕ) : Type 0 where
  pub sees : (z : Sofar) → Sees p 0 z → (y : Sofar) × Sees q (pred i) y × (modules_out 65536 0 names modules (z, bodies_in b) ≡ modules_out 65536 i (drop i names) (drop i modules) (y, bodies_in c))
      × ((r : Refusal) → ModulesHaveFault 65536 r i (drop i names) (drop i modules) (y, bodies_in c) → ModulesHaveFault 65536 r 0 names modules (z, bodies_in b))
  pub some : SeesSome q

pub added-start : (p : Project) (b : HeldBodies) (names : List (List ℕ)) (modules : List Module) → SeesSome p → Added p p b b names modules 0
added-start p b names modules some = record {
  sees = λ z s. (z, s, ap₂ (λ l k. modules_out 65536 0 l k (z, bodies_in b)) (sym (drop-none names)) (sym (drop-none modules)), λ r h. subst₂ (λ l k. ModulesHaveFault 65536 r 0 l k (z, bodies_in b)) (drop-none names) (drop-none modules) h);
  some = some;
}

pred-next : (i : ℕ) → i ≡ pred (i + 1)
pred-next i = let e : suc i ≡ i + 1 = omega arith in ap pred e

name-here : (names : List (List ℕ)) (i : ℕ) (m : List ℕ) → slice_get names i ≡ Some m → drop i names ≡ m ∷ drop (i + 1) names
name-here names i m h = drop-here names i m (slice_get_within names i m h) (sym (get_or_from_slice_get names i m m h))

pub added-past : (p q t : Project) (b c e : HeldBodies) (names : List (List ℕ)) (modules : List Module) (i : ℕ) (m : List ℕ) (x : Module) →
    slice_get names i ≡ Some m → i < length modules → x ≡ get_or modules i x → AddsModule q c i m x t e → Added p q b c names modules i →
    Added p t b e names modules (i + 1)
added-past p q t b c e names modules i m x em l ex step g = record {
  sees = λ z s.
      let h = g.sees z s in
      let k = step (pred i) h.0 h.1 in (
        k.0,
        subst (λ j. Sees t j k.0) (pred-next i) k.2,
        h.2 ∙ ap₂ (λ ns ms. modules_out 65536 i ns ms (h.0, bodies_in c)) (name-here names i m em) (drop-here modules i x l ex) ∙ ap (option_and_then (modules_out 65536 (i + 1) (drop (i + 1) names) (drop (i + 1) modules))) k.1,
        λ r f. h.3 r (subst₂ (λ ns ms. ModulesHaveFault 65536 r i ns ms (h.0, bodies_in c)) (sym (name-here names i m em)) (sym (drop-here modules i x l ex)) (in_later_module k.1 f)),
      );
  some = let k = step g.some.0 g.some.1 g.some.2 in (i, k.0, k.2);
}

pub added-broken : (p q : Project) (b c : HeldBodies) (names : List (List ℕ)) (modules : List Module) (i : ℕ) (m : List ℕ) (x : Module) (r : Refusal) →
    slice_get names i ≡ Some m → i < length modules → x ≡ get_or modules i x → ModuleHasFault q c i m x r → Added p q b c names modules i →
    ModulesFault p b names modules r
added-broken p q b c names modules i m x r em l ex fault g = λ z s.
    let h = g.sees z s in
    h.3 r (subst₂ (λ ns ms. ModulesHaveFault 65536 r i ns ms (h.0, bodies_in c)) (sym (name-here names i m em)) (sym (drop-here modules i x l ex)) (in_module (fault (pred i) h.0 h.1)))

pub added-end : (p q : Project) (b c : HeldBodies) (names : List (List ℕ)) (modules : List Module) (i : ℕ) → length modules ≤ i → i ≤ length modules →
    Added p q b c names modules i → length names ≡ length modules → AddsModules p b names modules q c
added-end p q b c names modules i l k g e = λ z s.
    let h = g.sees z s in
    let n : length names ≤ i = omega (arith, e, l) in
    let same : i ≡ length names = omega (arith, e, l, k) in
    (h.0, h.2 ∙ ap₂ (λ ns ms. modules_out 65536 i ns ms (h.0, bodies_in c)) (drop_of_length-le names n) (drop_of_length-le modules l), subst (λ j. Sees q (pred j) h.0) same h.1)
