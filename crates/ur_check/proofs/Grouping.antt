-- The functions of a group: their heads stand behind those before, and their bodies come one after another.
use Rattle.std.proofs.Common.{◌≡◌, ◌∙◌, refl, sym, ap, subst, ℕ, zero, suc, ◌+◌, ◌<◌, List, [], ◌∷◌, ◌++◌, length, get_or, Option, Some, None, arith, Bor}
use Rattle.std.specs.Option.{option_copied}
use Rattle.std.specs.Prelude.{IfSome, slice_get, option_map, option_and_then}
use Rattle.std.proofs.lemmas.List.{length-append, length-map}
use Rattle.std.proofs.lemmas.Option.{slice_get-map, slice_get-get_or}
use Rattle.ur_base.specs.declared.refusal.Refusal.{Refusal}
use Rattle.ur_syntax.specs.declared.decl.FunDef.{FunDef}
use Rattle.ur_typed_rules.specs.Scopes.{wants}
use Rattle.ur_typed_rules.proofs.Options.{some_of, some_none, opened}
use Rattle.ur_check_scopes.specs.declared.world.Head.{Head as HeldHead}
use Rattle.ur_check_scopes.specs.declared.world.FunctionHead.{FunctionHead as HeldFunction}
use Rattle.ur_check_scopes.specs.Views.{head_in}
use Rattle.ur_typed.specs.Causes.{HasFault}
use Rattle.ur_typed.specs.Project.{names_at}
use Rattle.ur_typed.specs.Declaring.{FunctionHead, Sofar, Heading, world_behind, datatype_names, heading_out, with_head, headings_out, body_scope, body_out, group_out}
use Rattle.ur_typed.specs.DeclFaults.{GroupHasFault, this_body, later_body}
use Rattle.ur_typed.proofs.Shapes.{front_get}
use Rattle.ur_check_heads.specs.declared.project.Project.{Project}
use Rattle.ur_check_heads.specs.Views.{Sees, function_in}
use Rattle.ur_check_rules.specs.Views.{sites_in}
use Rattle.ur_check.specs.declared.bodies.Bodies.{Bodies as HeldBodies}
use Rattle.ur_check.specs.Views.{bodies_in, HasHeading, AreHeaded}

-- ---- heads

-- the function with that number has this head
record HeadThere (z : Sofar) (n : ℕ) (f : FunDef) : Type 0 where
  heading : Heading
  out : heading_out 65536 (names_at z.place) f ≡ Some heading
  function : FunctionHead
  there : slice_get z.functions n ≡ Some function
  is : function.head ≡ heading.head

same-names : (home : ℕ) (fs : List FunDef) (y z : Sofar) → headings_out 65536 home fs y ≡ Some z → names_at y.place ≡ names_at z.place
same-names home [] y z h = ap (λ (x : Sofar). names_at x.place) (some_of h)
same-names home (f ∷ fs) y z h =
    let q : (g : Heading) × (heading_out 65536 (names_at y.place) f ≡ Some g) × (headings_out 65536 home fs (with_head home f y g) ≡ Some z) = opened _ _ z h in
    same-names home fs (with_head home f y q.0) z q.2

heads-stay : (home : ℕ) (fs : List FunDef) (y z : Sofar) → headings_out 65536 home fs y ≡ Some z → (n : ℕ) (g : FunctionHead) →
    slice_get y.functions n ≡ Some g → slice_get z.functions n ≡ Some g
heads-stay home [] y z h n g e = ap (λ (x : Sofar). slice_get x.functions n) (sym (some_of h)) ∙ e
heads-stay home (f ∷ fs) y z h n g e =
    let q : (w : Heading) × (heading_out 65536 (names_at y.place) f ≡ Some w) × (headings_out 65536 home fs (with_head home f y w) ≡ Some z) = opened _ _ z h in
    heads-stay home fs (with_head home f y q.0) z q.2 n g (front_get y.functions (record { «module» = home; name = f.name; head = q.0.head } ∷ []) n g e)

end-get : {A : Type 0} (xs : List A) (a : A) → slice_get (xs ++ a ∷ []) (length xs) ≡ Some a
end-get [] a = refl
end-get (x ∷ xs) a = end-get xs a

none-more : (n : ℕ) → n + 0 ≡ n
none-more n = omega arith

one-past : {A : Type 0} (xs : List A) (a : A) (i : ℕ) → length (xs ++ a ∷ []) + i ≡ length xs + suc i
one-past xs a i = let e : length (xs ++ a ∷ []) ≡ length xs + 1 = length-append xs (a ∷ []) in omega (arith, e)

heads-there : (home : ℕ) (fs : List FunDef) (y z : Sofar) → headings_out 65536 home fs y ≡ Some z → (i : ℕ) (f : FunDef) → slice_get fs i ≡ Some f →
    HeadThere z (length y.functions + i) f
heads-there home [] y z h i f e = absurd (some_none (sym e))
heads-there home (g ∷ fs) y z h zero f e =
    let q : (w : Heading) × (heading_out 65536 (names_at y.place) g ≡ Some w) × (headings_out 65536 home fs (with_head home g y w) ≡ Some z) = opened _ _ z h in
    let head : FunctionHead = record { «module» = home; name = g.name; head = q.0.head } in
    let same : g ≡ f = some_of e in
    record {
      heading = q.0;
      out = ap (λ x. heading_out 65536 (names_at z.place) x) (sym same) ∙ ap (λ n. heading_out 65536 n g) (sym (same-names home fs (with_head home g y q.0) z q.2)) ∙ q.1;
      function = head;
      there = ap (slice_get z.functions) (none-more (length y.functions)) ∙ heads-stay home fs (with_head home g y q.0) z q.2 (length y.functions) head (end-get y.functions head);
      is = refl;
    }
heads-there home (g ∷ fs) y z h (suc i) f e =
    let q : (w : Heading) × (heading_out 65536 (names_at y.place) g ≡ Some w) × (headings_out 65536 home fs (with_head home g y w) ≡ Some z) = opened _ _ z h in
    subst (λ n. HeadThere z n f) (one-past y.functions (record { «module» = home; name = g.name; head = q.0.head }) i) (heads-there home fs (with_head home g y q.0) z q.2 i f e)

-- what the code finds at that number
abbrev pub IsHeadAt : Project → ℕ → HeldHead → Type 0
IsHeadAt p n head = (f : HeldFunction) × (slice_get p.world.functions n ≡ Some f) × (head ≡ f.head)

pub behind-is : {A : Type 0} (xs : List A) (at n : ℕ) (o : Option (Bor A)) → option_copied o ≡ slice_get xs at → at ≡ n →
    IfSome o (λ f. slice_get xs n ≡ Some f.now)
behind-is xs at n None e k = tt
behind-is xs at n (Some f) e k = ap (slice_get xs) (sym k) ∙ sym e

pub heading-at : (p : Project) (first i : ℕ) (fs : List FunDef) (f : FunDef) (head : HeldHead) → i < length fs → f ≡ get_or fs i f →
    IsHeadAt p (first + i) head → (home : ℕ) (y z : Sofar) → Sees p home z → headings_out 65536 home fs y ≡ Some z → first ≡ length y.functions →
    (h : Heading) × (heading_out 65536 (names_at z.place) f ≡ Some h) × (h.head ≡ head_in head)
heading-at p first i fs f head l e at home y z s h k =
    let t : HeadThere z (length y.functions + i) f = heads-there home fs y z h i f (slice_get-get_or fs i f l ∙ ap (λ x. Some x) (sym e)) in
    let held : slice_get z.functions (length y.functions + i) ≡ Some (function_in at.0) =
    ap (λ (x : Sofar). slice_get x.functions (length y.functions + i)) s.held ∙ slice_get-map function_in p.world.functions (length y.functions + i) ∙ ap (option_map function_in) (ap (λ n. slice_get p.world.functions (n + i)) (sym k) ∙ at.1) in
    (t.heading, t.out, sym t.is ∙ ap (λ (x : FunctionHead). x.head) (some_of (sym t.there ∙ held)) ∙ ap head_in (sym at.2))

pub has-heading : (p : Project) (first i : ℕ) (fs : List FunDef) (f : FunDef) (head : HeldHead) → i < length fs → f ≡ get_or fs i f →
    IsHeadAt p (first + i) head → AreHeaded p first fs → HasHeading p head f
has-heading p first i fs f head l e at (home, y, z, s, h, k) = let t = heading-at p first i fs f head l e at home y z s h k in (home, z, t.0, s, t.1, t.2)

-- ---- bodies

-- what comes of the bodies so far and of those that are left
pub record Group (p : Project) (first : ℕ) (all left : List FunDef) (b c : HeldBodies) : Type 0 where
  pub out : (home : ℕ) (y z : Sofar) → Sees p home z → headings_out 65536 home all y ≡ Some z → first ≡ length y.functions → group_out 65536 z all (bodies_in b) ≡ group_out 65536 z left (bodies_in c)
  pub broken : (home : ℕ) (y z : Sofar) → Sees p home z → headings_out 65536 home all y ≡ Some z → first ≡ length y.functions → (r : Refusal) → GroupHasFault 65536 z r left (bodies_in c) → GroupHasFault 65536 z r all (bodies_in b)

pub group-start : (p : Project) (first : ℕ) (all left : List FunDef) (b : HeldBodies) → left ≡ all → Group p first all left b b
group-start p first all left b e = record {
  out = λ home y z s h k. ap (λ l. group_out 65536 z l (bodies_in b)) (sym e);
  broken = λ home y z s h k r g. subst (λ l. GroupHasFault 65536 z r l (bodies_in b)) e g;
}

abbrev pub BodyIs : Project → HeldHead → FunDef → HeldBodies → HeldBodies → Type 0
BodyIs p head f b c = (home : ℕ) (z : Sofar) (h : Heading) → Sees p home z → heading_out 65536 (names_at z.place) f ≡ Some h → h.head ≡ head_in head → body_out 65536 z f (bodies_in b) h ≡ Some (bodies_in c)

pub group-past : (p : Project) (first i : ℕ) (all left rest : List FunDef) (f : FunDef) (head : HeldHead) (b c d : HeldBodies) → i < length all →
    f ≡ get_or all i f → left ≡ f ∷ rest → IsHeadAt p (first + i) head → BodyIs p head f c d → Group p first all left b c → Group p first all rest b d
group-past p first i all left rest f head b c d l e el at body g = record {
  out = λ home y z s h k.
      let t = heading-at p first i all f head l e at home y z s h k in
      g.out home y z s h k ∙ ap (λ x. group_out 65536 z x (bodies_in c)) el ∙ ap (option_and_then (group_out 65536 z rest)) (step home y z s h k t);
  broken = λ home y z s h k r u.
      let t = heading-at p first i all f head l e at home y z s h k in
      g.broken home y z s h k r (subst (λ x. GroupHasFault 65536 z r x (bodies_in c)) (sym el) (later_body (step home y z s h k t) u));
}
  where
    step : (home : ℕ) (y z : Sofar) → Sees p home z → headings_out 65536 home all y ≡ Some z → first ≡ length y.functions → (h : Heading) × (heading_out 65536 (names_at z.place) f ≡ Some h) × (h.head ≡ head_in head) →
        option_and_then (body_out 65536 z f (bodies_in c)) (heading_out 65536 (names_at z.place) f) ≡ Some (bodies_in d)
    step home y z s h k t = ap (option_and_then (body_out 65536 z f (bodies_in c))) t.1 ∙ body home z t.0 s t.1 t.2

pub group-broken : (p : Project) (first i : ℕ) (all left rest : List FunDef) (f : FunDef) (head : HeldHead) (b c : HeldBodies) (r : Refusal) →
    i < length all → f ≡ get_or all i f → left ≡ f ∷ rest → IsHeadAt p (first + i) head →
    ((home : ℕ) (z : Sofar) (h : Heading) → Sees p home z → heading_out 65536 (names_at z.place) f ≡ Some h → h.head ≡ head_in head → HasFault (datatype_names z) (world_behind 65536 z) (body_scope h) (sites_in c.sites) f.body.form (wants h.head.result) r) → Group p first all left b c →
    (home : ℕ) (y z : Sofar) → Sees p home z → headings_out 65536 home all y ≡ Some z → first ≡ length y.functions → GroupHasFault 65536 z r all (bodies_in b)
group-broken p first i all left rest f head b c r l e el at fault g = λ home y z s h k.
    let t = heading-at p first i all f head l e at home y z s h k in
    g.broken home y z s h k r (subst (λ x. GroupHasFault 65536 z r x (bodies_in c)) (sym el) (this_body t.1 (fault home z t.0 s t.1 t.2)))

pub group-end : (p : Project) (first : ℕ) (all left : List FunDef) (b c : HeldBodies) → left ≡ [] → Group p first all left b c → (home : ℕ) (y z : Sofar) →
    Sees p home z → headings_out 65536 home all y ≡ Some z → first ≡ length y.functions → group_out 65536 z all (bodies_in b) ≡ Some (bodies_in c)
group-end p first all left b c e g = λ home y z s h k. g.out home y z s h k ∙ ap (λ l. group_out 65536 z l (bodies_in c)) e

pub first-is : (p : Project) (home : ℕ) (z : Sofar) → Sees p home z → length p.world.functions ≡ length z.functions
first-is p home z s = sym (ap (λ (x : Sofar). length x.functions) s.held ∙ length-map p.world.functions function_in)
