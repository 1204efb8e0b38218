-- The function of modules gives what a typed source declares, with its bodies; the names of its signature are entries.
use Rattle.std.proofs.lemmas.List.{length-map}
use Rattle.std.proofs.lemmas.Option.{slice_get-map}
use Rattle.std.proofs.Math.Seq.{take-length}
use Rattle.std.proofs.Common.{arith, inl, inr, ◌≡◌, ◌∙◌, refl, sym, ap, subst, true, Option, Some, List, [], ◌∷◌, ◌++◌, ℕ, ◌+◌, length, map, take}
use Rattle.std.specs.Prelude.{◌≤◌, nat_le, IsTrue, option_map, option_and_then, slice_get}
use Rattle.ur_syntax.specs.declared.decl.Decl.{Decl}
use Rattle.ur_syntax.specs.declared.decl.Module.{Module}
use Rattle.ur_syntax.specs.declared.decl.ValDecl.{ValDecl}
use Rattle.ur_syntax.specs.declared.decl.Signature.{Signature}
use Rattle.ur_syntax.specs.Names.{looked_up}
use Rattle.ur_rows.specs.declared.normal.Normal.{Normal}
use Rattle.ur_rows.specs.Nodes.{nodes}
use Rattle.ur_rows.specs.Normal.{nf}
use Rattle.ur_rows.specs.Put.{as_type}
use Rattle.ur_disjoint.proofs.Members.{In}
use Rattle.ur_sqltype.specs.Lists.{all_of}
use Rattle.ur_tree.specs.declared.exp.Exp.{Exp}
use Rattle.ur_tree.specs.declared.typed.Typed.{Typed}
use Rattle.ur_tree.specs.declared.typed.Function.{Function}
use Rattle.ur_tree.specs.Heads.{function_type, head_of}
use Rattle.ur_tree.specs.Typing.{IsPage, are_linkable, types_of}
use Rattle.ur_tree.specs.App.{AppIsTyped}
use Rattle.ur_typed_rules.specs.Names.{WritesType}
use Rattle.ur_typed_rules.specs.Names as here
use Rattle.ur_typed_rules.specs.Tests.{same_type, is_page}
use Rattle.ur_typed_rules.proofs.Lists.{of_both}
use Rattle.ur_typed_rules.proofs.Rows.{told}
use Rattle.ur_typed_rules.proofs.Decided.{pages_decided}
use Rattle.ur_typed_rules.specs.Rules.{if_so}
use Rattle.ur_typed_rules.proofs.Options.{then_some}
use Rattle.ur_typed.specs.Project.{Place, env_at, at, enter, DeclsResolve, ModulesResolve}
use Rattle.ur_typed.specs.Project as project
use Rattle.ur_typed.specs.Typed.{nothing_declared, all_decls, AreBodies, sites_in, updates_in, all_occurrences, IsTypedWithin}
use Rattle.ur_typed.specs.Rules.{Sites}
use Rattle.ur_typed.specs.Declaring.{FunctionHead, Sofar, Bodies, bodies_out, decl_out, Checked, decls_out, modules_out, is_entry, is_signed, entry_by, entry_out}
use Rattle.ur_typed_laws.proofs.Walked.{so_true, within}
use Rattle.ur_typed_laws.proofs.Written.{headed}
use Rattle.ur_typed_laws.proofs.Standing.{sofar, decl_is}
use Rattle.ur_typed_laws.proofs.Counting.{Counted, Ready, decl_ready, nothing_counted, enter_counted}
use Rattle.ur_typed_laws.proofs.Bodying.{bodies, Held, Went, decl_bodies}

-- ---- declarations

abbrev pub checked : Typed → Place → Sites → Checked
checked app p st = (sofar app p, bodies app p.functions p.vals st)

-- behind some declarations of a module
record Gone (app : Typed) (most home : ℕ) (ds : List Decl) (p q : Place) (st : Sites) (rest : List Decl) (fa va : ℕ) : Type 0 where
  sites : Sites
  left : List Exp
  held : Held app sites left
  are_bodies : AreBodies app q.functions q.vals rest fa va left
  ready : Ready app home q
  out : decls_out most home ds (checked app p st) ≡ Some (checked app q sites)

decls_are : (app : Typed) (most home : ℕ) → AppIsTyped most app → (p : Place) (ds : List Decl) (q : Place) → DeclsResolve app most home p ds q → Ready app home p → (rest : List Decl) (fa va : ℕ) (xs : List Exp) (st : Sites) → AreBodies app p.functions p.vals (ds ++ rest) fa va xs → Held app st xs →
    Gone app most home ds p q st rest fa va
decls_are app most home t p _ _ project.DeclsResolve.none r rest fa va xs st b c = record { sites = st; left = xs; held = c; are_bodies = b; ready = r; out = refl }
decls_are app most home t p _ q (project.DeclsResolve.one {q = q'} {d = d} {ds = ds} x y) r rest fa va xs st b c =
    let r' : Ready app home q' = decl_ready app most home p d.form q' x r in
    let w : Went app most d.form (sofar app p) (sofar app q') (bodies app p.functions p.vals st) q'.functions q'.vals (ds ++ rest) fa va = decl_bodies app most home t p d d.form q' x refl r r' (ds ++ rest) fa va xs st b c in
    let g : Gone app most home ds q' q w.sites rest fa va = decls_are app most home t q' ds q y r' rest fa va w.rest w.sites w.are_bodies w.held in
    record {
      sites = g.sites;
      left = g.left;
      held = g.held;
      are_bodies = g.are_bodies;
      ready = g.ready;
      out = then_some (λ (after : Sofar). option_and_then (λ (z : Bodies). decls_out most home ds (after, z)) (bodies_out most d.form (sofar app p) after (bodies app p.functions p.vals st))) (decl_out most home d.form (sofar app p)) (sofar app q') _ (decl_is app most home t p d.form q' r.at_home x)
          (then_some (λ (z : Bodies). decls_out most home ds (sofar app q', z)) _ (bodies app q'.functions q'.vals w.sites) _ w.out g.out);
    }

-- ---- modules

pub record Through (app : Typed) (most n : ℕ) (names : List (List ℕ)) (modules : List Module) (p q : Place) (st : Sites) (fa va : ℕ) : Type 0 where
  pub sites : Sites
  pub left : List Exp
  pub held : Held app sites left
  pub are_bodies : AreBodies app q.functions q.vals [] fa va left
  pub fields : q.fields ≡ app.names
  pub out : modules_out most n names modules (checked app p st) ≡ Some (checked app q sites)

modules_are : (app : Typed) (most : ℕ) → AppIsTyped most app → (n : ℕ) (p : Place) (names : List (List ℕ)) (modules : List Module) (q : Place) → ModulesResolve app most n p names modules q → Counted p → p.fields ≡ app.names →
    (fa va : ℕ) (xs : List Exp) (st : Sites) → AreBodies app p.functions p.vals (all_decls modules) fa va xs → Held app st xs → Through app most n names modules p q st fa va
modules_are app most t n p _ _ _ project.ModulesResolve.none k e fa va xs st b c = record { sites = st; left = xs; held = c; are_bodies = b; fields = e; out = refl }
modules_are app most t n p _ _ q (project.ModulesResolve.one {q = q'} {m = m} {names = names} {x = x} {modules = modules} h r rs) k e fa va xs st b c =
    let i : Ready app n (enter m p) = record { counted = enter_counted m p k; fields = e; at_home = h } in
    let g : Gone app most n x.decls (enter m p) q' st (all_decls modules) fa va = decls_are app most n t (enter m p) x.decls q' r i (all_decls modules) fa va xs st b c in
    let l : Through app most (n + 1) names modules q' q g.sites fa va = modules_are app most t (n + 1) q' names modules q rs g.ready.counted g.ready.fields fa va g.left g.sites g.are_bodies g.held in
    record { sites = l.sites; left = l.left; held = l.held; are_bodies = l.are_bodies; fields = l.fields; out = then_some (modules_out most (n + 1) names modules) (decls_out most n x.decls (checked app (enter m p) st)) (checked app q' g.sites) _ g.out l.out }

-- ---- entries

pub whole : {A : Type 0} (k : ℕ) (xs : List A) → length xs ≡ k → take k xs ≡ xs
whole k xs e = ap (λ n. take n xs) (sym e) ∙ take-length xs

pub entry_is : (app : Typed) (most : ℕ) (p : Place) (v : ValDecl) (f : ℕ) (d : Function) → length app.functions ≡ p.functions → looked_up (at p v.name) p.globals.values ≡ Some (here.function f) → slice_get app.functions f ≡ Some d → WritesType most (env_at p) v.con (function_type (head_of d)) → IsPage (head_of d) →
    IsTrue (are_linkable (types_of d.params)) → entry_out most (sofar app p) v ≡ Some f
entry_is app most p v f d e h g w page link =
    let n : Normal = nf (env_at p) v.con in
    let a : nat_le (nodes n) most ≡ true = within (nodes n) most (subst (λ z. nodes z ≤ most) w.1.form w.1.small) in
    let b : same_type (function_type (head_of d)) (as_type n) ≡ true = (told (function_type (head_of d)) (as_type n)).1 (w.2 ∙ ap as_type w.1.form) in
    let c : is_signed (sofar app p) v.con (head_of d) ≡ true = of_both (same_type (function_type (head_of d)) (as_type n)) (is_entry (head_of d)) b (of_both (is_page (head_of d)) (are_linkable (types_of d.params)) ((pages_decided (head_of d)).1 page) link) in
    let i : slice_get (take p.functions (map headed app.functions)) f ≡ Some (headed d) = ap (λ z. slice_get z f) (whole p.functions (map headed app.functions) (length-map app.functions headed ∙ e)) ∙ (slice_get-map headed app.functions f ∙ ap (option_map headed) g) in
    ap (entry_by most (sofar app p) v.con) h ∙ (so_true (nat_le (nodes n) most) _ a ∙ then_some (λ (z : FunctionHead). if_so (is_signed (sofar app p) v.con z.head) (Some f)) _ (headed d) _ i (so_true (is_signed (sofar app p) v.con (head_of d)) (Some f) c))

-- each of a list has a value
pub all_have : {A B : Type 0} (f : A → Option B) (xs : List A) → ((x : A) → In x xs → (y : B) × (f x ≡ Some y)) → (ys : List B) × (all_of f xs ≡ Some ys)
all_have f [] k = ([], refl)
all_have f (x ∷ xs) k =
    let i = k x (inl refl) in
    let j = all_have f xs (λ y h. k y (inr h)) in
    (i.0 ∷ j.0, then_some _ _ i.0 _ i.1 (ap (option_map (λ rest. i.0 ∷ rest)) j.1))

-- ---- the project

abbrev pub no_statement : Sites
no_statement = record { queries = []; changes = [] }

from_nothing : (n : ℕ) {m : ℕ} → n ≡ m → 0 + n ≡ m
from_nothing n h = omega (arith, h)

no_more : {A : Type 0} (n : ℕ) (a : A) → slice_get [] n ≡ Some a → ⊥
no_more n a h = cc

at_start : (most : ℕ) (names : List (List ℕ)) (modules : List Module) (signature : Option Signature) (app : Typed) (x : IsTypedWithin most names modules signature app) → Held app no_statement x.bodies
at_start most names modules signature app x = record {
  carried = record {
    names = refl;
    queries = λ n q h. absurd (no_more n (Some q) h);
    changes = λ n u h. absurd (no_more n (Some u) h);
    starts = record { sites = x.sites.0; updates = x.updates.0 };
    many_queries = from_nothing (length (sites_in (all_occurrences x.bodies))) x.sites.1;
    many_changes = from_nothing (length (updates_in (all_occurrences x.bodies))) x.updates.1;
  };
  queries = tt;
  changes = tt;
}

pub all_through : (most : ℕ) (names : List (List ℕ)) (modules : List Module) (signature : Option Signature) (app : Typed) (x : IsTypedWithin most names modules signature app) → Through app most 0 names modules (nothing_declared app.names) x.after no_statement (length app.functions) (length app.vals)
all_through most names modules signature app x =
    modules_are app most x.typed 0 (nothing_declared app.names) names modules x.after x.resolved (nothing_counted app.names) refl (length app.functions) (length app.vals) x.bodies no_statement x.are_bodies (at_start most names modules signature app x)
