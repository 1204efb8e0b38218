-- The next module, and what is seen outside all functions.
use Rattle.std.proofs.Common.{◌≡◌, refl, ap, sym, ◌∙◌, subst, subst₂, ℕ, List, [], ◌∷◌, ◌++◌, map, Some, append-nil}
use Rattle.std.proofs.lemmas.Simd.{map-map}
use Rattle.ur_syntax.specs.declared.con.ConName.{ConName}
use Rattle.ur_syntax.specs.declared.con.ConEntry.{ConEntry}
use Rattle.ur_syntax.specs.declared.con.ConEnv.{ConEnv}
use Rattle.ur_syntax.specs.declared.con.ConMeaning.{ConMeaning}
use Rattle.ur_syntax.specs.declared.con.ConMeaning.TheVariants as meaning
use Rattle.ur_rows.specs.declared.normal.Normal.{Normal}
use Rattle.ur_rows.specs.Normal.{Known, known_after, entry_form, variables_with}
use Rattle.ur_disjoint.specs.Tests.{pair}
use Rattle.ur_rows_normal.specs.Walk.{known_so}
use Rattle.ur_rows_normal.specs.Preparing.{Prepares, Reads, Covers}
use Rattle.ur_check_scopes.specs.declared.around.Around.{Around}
use Rattle.ur_check_scopes.specs.declared.locals.Locals.{Locals}
use Rattle.ur_check_scopes.specs.declared.locals.Locals.TheVariants as locals
use Rattle.ur_check_scopes.specs.Views.{Stands, world_in, declared_in, local_in, locals_in, values_in, fixed_in, of_variables, of_fixed}
use Rattle.ur_check_scopes.proofs.Finding.{Bound}
use Rattle.ur_typed.specs.Project.{env_at}
use Rattle.ur_typed.specs.Declaring.{Sofar, FunctionHead, Heading, Checked, entered, world_behind, top_scope, body_scope}
use Rattle.ur_rows_normal.specs.declared.environment.Place.{Place as Reading}
use Rattle.ur_check_heads.specs.declared.bodies.BodyScope.{BodyScope}
use Rattle.ur_check_heads.specs.declared.project.Project.{Project}
use Rattle.ur_check_heads.specs.Views.{function_in, HasHome, HaveHomes, Sees, IsBodyScope}

-- ---- definitions are read in their homes

form-anywhere : (h g : List ℕ) (names : List (ConName × (ℕ × Normal))) (n : ℕ) (e : ConEntry) → HasHome e → entry_form (known_so h names) n e.name.home e.kind e.meaning ≡ entry_form (known_so g names) n e.name.home e.kind e.meaning
form-anywhere h g names n e k = subst (λ m. entry_form (known_so h names) n m e.kind e.meaning ≡ entry_form (known_so g names) n m e.kind e.meaning) (sym k.1) (at_home k.0 e.meaning)
  where
    at_home : (m : List ℕ) (x : ConMeaning) → entry_form (known_so h names) n (Some m) e.kind x ≡ entry_form (known_so g names) n (Some m) e.kind x
    at_home m meaning.Variable = refl
    at_home m (meaning.Defined c) = refl
    at_home m (meaning.Datatype d) = refl

abbrev and_form : List (ConName × (ℕ × Normal)) → ConEntry → Normal → List (ConName × (ℕ × Normal))
and_form names e x = (e.name, (0, x)) ∷ names

known-anywhere : (h g : List ℕ) (names : List (ConName × (ℕ × Normal))) (n : ℕ) (es : List ConEntry) → HaveHomes es → (known_after (known_so h names) n es).names ≡ (known_after (known_so g names) n es).names
known-anywhere h g names n [] k = refl
known-anywhere h g names n (e ∷ es) k =
    ap (λ x. (known_after (known_so h (and_form names e x)) (variables_with e.meaning n) es).names) (form-anywhere h g names n e k.0)
    ∙ known-anywhere h g (and_form names e (entry_form (known_so g names) n e.name.home e.kind e.meaning)) (variables_with e.meaning n) es k.1

same-home : (known : Known) (n : ℕ) (es : List ConEntry) → (known_after known n es).home ≡ known.home
same-home known n [] = refl
same-home known n (e ∷ es) = same-home (record known { names = (e.name, (0, entry_form known n e.name.home e.kind e.meaning)) ∷ known.names }) (variables_with e.meaning n) es

same-depth : (known : Known) (n : ℕ) (es : List ConEntry) → (known_after known n es).depth ≡ known.depth
same-depth known n [] = refl
same-depth known n (e ∷ es) = same-depth (record known { names = (e.name, (0, entry_form known n e.name.home e.kind e.meaning)) ∷ known.names }) (variables_with e.meaning n) es

known-there : (h g : List ℕ) (es : List ConEntry) (names : List (ConName × (ℕ × Normal))) → HaveHomes es → known_after (known_so h []) 0 es ≡ known_so h names → known_after (known_so g []) 0 es ≡ known_so g names
known-there h g es names k e =
    let there : Known = known_after (known_so g []) 0 es in
    let same : there.names ≡ names = sym (known-anywhere h g [] 0 es k) ∙ ap (λ (x : Known). x.names) e in
    λ i. record { home = same-home (known_so g []) 0 es i; depth = same-depth (known_so g []) 0 es i; names = same i }

-- ---- before the first declaration, and in the next module

pub nothing-prepared : (fields : List (List ℕ)) → Prepares (record { home = []; known = []; variables = 0 }) (record { home = []; fields = fields; entries = [] })
nothing-prepared fields = (refl, ([], tt, refl), refl)

abbrev and_home : Project → List ℕ → ℕ → Project
and_home p m n = record p { world = record p.world { env = record p.world.env { home = m }; «module» = n }; names = record p.names { home = m } }

enter-seen : (p : Project) (m : List ℕ) (n home : ℕ) (c : Checked) → Sees p home c.0 → Sees (and_home p m n) n (entered m c).0
enter-seen p m n home c s = record {
  entries = s.entries;
  held = ap (λ y. (entered m (y, c.1)).0) s.held;
  prepared = (refl, (s.prepared.1.0, s.prepared.1.1, known-there p.world.env.home m s.entries s.prepared.1.0 s.homes s.prepared.1.2), s.prepared.2);
  homes = s.homes;
  named = s.named;
  number = refl;
}

pub homes-seen : (p : Project) (a b m : List ℕ) (n : ℕ) → a ≡ m → b ≡ m → (home : ℕ) (c : Checked) → Sees p home c.0 →
    Sees (record p { world = record p.world { env = record p.world.env { home = a }; «module» = n }; names = record p.names { home = b } }) n (entered m c).0
homes-seen p a b m n e k home c s =
    subst₂ (λ x y. Sees (record p { world = record p.world { env = record p.world.env { home = x }; «module» = n }; names = record p.names { home = y } }) n (entered m c).0) (sym e) (sym k) (enter-seen p m n home c s)

-- ---- outside all functions

pub world-seen : (p : Project) (home : ℕ) (z : Sofar) → Sees p home z → world_behind 65536 z ≡ world_in p.world
world-seen p home z s =
    ap (world_behind 65536) s.held
    ∙ ap (λ fs. record (world_in p.world) { declared = record (declared_in p.world) { functions = fs } }) (map-map (λ (f : FunctionHead). f.head) function_in p.world.functions)

pub prepared-seen : (p : Project) (home : ℕ) (z : Sofar) → Sees p home z → Prepares p.names (env_at z.place)
prepared-seen p home z s = subst (λ (y : Sofar). Prepares p.names (env_at y.place)) (sym s.held) s.prepared

pub top-stands : (p : Project) (a : Around) → a.world.now ≡ p.world → ((env : ConEnv) → Prepares p.names env → Reads a.scope.cons.names env) → a.scope.cons.kinds.now ≡ [] → a.scope.cons.known.now ≡ [] → a.scope.locals ≡ locals.Nothing →
    (home : ℕ) (z : Sofar) → Sees p home z → Stands a (world_behind 65536 z) (top_scope z)
top-stands p a w r k n l home z s = record {
  world = world-seen p home z s ∙ ap world_in (sym w);
  cons = r (env_at z.place) (prepared-seen p home z s);
  kinds = sym k;
  known = ap (map pair) (sym n);
  locals = ap locals_in (sym l);
  values = ap values_in (sym l);
  fixed = ap fixed_in (sym l);
}

-- ---- within the body of a function

pub body-stands : (p : Project) (a : Around) (s : BodyScope) (place : Reading) → a.world.now ≡ p.world → ((env : ConEnv) → Covers s.names place env → Reads a.scope.cons.names env) → a.scope.cons.kinds.now ≡ s.cons.kinds →
    a.scope.cons.known.now ≡ s.cons.known → (around : Locals) → Bound a.scope.locals s.locals around → (home : ℕ) (z : Sofar) (h : Heading) → Sees p home z → IsBodyScope s place h → around ≡ locals.Nothing →
    Stands a (world_behind 65536 z) (body_scope h)
body-stands p a s place w r k n around b home z h seen is e = record {
  world = world-seen p home z seen ∙ ap world_in (sym w);
  cons = r h.names.cons is.names;
  kinds = is.cons.kinds ∙ sym k;
  known = is.cons.known ∙ ap (map pair) (sym n);
  locals = is.locals ∙ sym (b.names ∙ ap (λ ls. map local_in s.locals ++ locals_in ls) e ∙ append-nil (map local_in s.locals));
  values = is.values ∙ sym (b.values ∙ ap (λ ls. of_variables s.locals ++ values_in ls) e ∙ append-nil (of_variables s.locals));
  fixed = is.fixed ∙ sym (b.fixed ∙ ap (λ ls. of_fixed s.locals ++ fixed_in ls) e ∙ append-nil (of_fixed s.locals));
}
