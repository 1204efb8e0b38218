-- First-order functions of their heads and bodies, and what is made of them.
use Rattle.std.proofs.Common.{◌≡◌, ℕ, zero, suc, List, [], ◌∷◌, ◌++◌, map, length, Some, refl, sym, ap, subst, ◌∙◌, option_map}
use Rattle.std.specs.Prelude.{slice_get}
use Rattle.std.specs.List.{AllZip}
use Rattle.ur_terms.specs.declared.term.Function.{Function}
use Rattle.ur_terms.specs.declared.term.Term.{Term}
use Rattle.ur_tree.specs.declared.typed.Typed.{Typed}
use Rattle.ur_tree.specs.declared.typed.Function as source
use Rattle.ur_tree.specs.declared.closed.Closed.{Closed}
use Rattle.ur_tree.specs.declared.closed.Instance.{Instance}
use Rattle.ur_meaning.specs.Unfolds.{Unfolds}
use Rattle.ur_source.specs.Items.{exp, scope_of}
use Rattle.ur_source.specs.Source.{language}
use Rattle.ur_source.specs.Instances.{IsFunctionOf, IsTarget, IsVariant, IsClosed}
use Rattle.ur_meaning.specs.Working.{Unfolded}
use Rattle.ur_unfold_pieces.proofs.Lists.{the_same}
use Rattle.ur_unfold.specs.Heads.{IsHeadOf, HeadAt, HeadsAre, IsPushed}
use Rattle.ur_unfold.specs.declared.unfolding.Made.{Made}
use Rattle.ur_unfold.specs.Making.{AreMade}

module _ (app : Typed) (all : List Instance) where
  function_of : (k : Instance) (f : Function) (function : source.Function) → slice_get app.functions k.function ≡ Some function → IsHeadOf app function k.cons f → Unfolded (language app) all k f.body
      → IsFunctionOf app all k f
  function_of k f function e h u = record {
    function = function;
    unit_name = h.name.unit_name;
    is_function = e;
    is_unit = h.name.is_unit;
    name = h.name.name;
    params = h.params;
    result = h.result;
    body = subst (λ i. Unfolds (language app) all i f.body) (the_same u.body (exp (scope_of k) function.body) (sym u.is_body ∙ ap (option_map (λ (g : source.Function). exp (scope_of k) g.body)) e)) u.unfolds;
  }

  function_is : (k l : Instance) (f : Function) (function : source.Function) → l ≡ k → slice_get app.functions l.function ≡ Some function → IsHeadOf app function l.cons f → Unfolded (language app) all k f.body
      → IsFunctionOf app all k f
  function_is k l f function same e h u =
      function_of k f function (subst (λ (l : Instance). slice_get app.functions l.function ≡ Some function) same e) (subst (λ (l : Instance). IsHeadOf app function l.cons f) same h) u

  behind : (k : Instance) (ks : List Instance) (j : ℕ) (f : Function) → HeadAt app (k ∷ ks) (suc j) f → HeadAt app ks j f
  behind k ks j f h = record { instance = h.instance; function = h.function; there = h.there; is_function = h.is_function; head = h.head }

  -- with their bodies they are the instances' functions
  pub functions_are : (ks : List Instance) (fs : List Function) → AllZip (Unfolded (language app) all) ks (map (λ f. f.body) fs) → HeadsAre app ks fs → AllZip (IsFunctionOf app all) ks fs
  functions_are [] [] u h = tt
  functions_are [] (f ∷ fs) u h = absurd u
  functions_are (k ∷ ks) [] u h = absurd u
  functions_are (k ∷ ks) (f ∷ fs) u h =
      let at = h 0 f refl in
      (function_is k at.instance f at.function (sym (the_same k at.instance at.there)) at.is_function at.head u.0, functions_are ks fs u.1 (λ j g e. behind k ks j g (h (suc j) g e)))

-- ---- heads, one after the other

pub no_heads : (app : Typed) (instances : List Instance) (fs : List Function) → fs ≡ [] → HeadsAre app instances fs
no_heads app instances fs e = subst (HeadsAre app instances) (sym e) (λ j f at. absurd (cc))

last_at : (P : ℕ → Function → Type 0) (fs : List Function) (g : Function) → ((j : ℕ) (f : Function) → slice_get fs j ≡ Some f → P j f) → P (length fs) g
    → (j : ℕ) (f : Function) → slice_get (fs ++ g ∷ []) j ≡ Some f → P j f
last_at P [] g h l zero f e = subst (P zero) (the_same g f e) l
last_at P [] g h l (suc j) f e = absurd (cc)
last_at P (x ∷ fs) g h l zero f e = h zero f e
last_at P (x ∷ fs) g h l (suc j) f e = last_at (λ i. P (suc i)) fs g (λ i. h (suc i)) l j f e

pub heads_more : (app : Typed) (instances : List Instance) (body : Term) (old new : List Function) → HeadsAre app instances old → IsPushed app instances body old new → HeadsAre app instances new
heads_more app instances body old new h p = subst (HeadsAre app instances) (sym p.more) (last_at (HeadAt app instances) old p.function h p.head)

bodies_last : (fs : List Function) (g : Function) → map (λ f. f.body) (fs ++ g ∷ []) ≡ map (λ f. f.body) fs ++ g.body ∷ []
bodies_last [] g = refl
bodies_last (f ∷ fs) g = ap (λ l. f.body ∷ l) (bodies_last fs g)

pub bodies_more : (app : Typed) (instances : List Instance) (body : Term) (old new : List Function) (bodies : List Term) → map (λ f. f.body) old ≡ bodies → IsPushed app instances body old new
    → map (λ f. f.body) new ≡ bodies ++ body ∷ []
bodies_more app instances body old new bodies e p =
    ap (map (λ f. f.body)) p.more ∙ bodies_last old p.function ∙ ap (λ l. l ++ p.function.body ∷ []) e ∙ ap (λ a. bodies ++ a ∷ []) p.body_is

-- ---- the whole

pub closed_is : (app : Typed) (made : Made) (closed : Closed) → AreMade app made → closed.schema ≡ app.schema → closed.handlers ≡ app.handlers → closed.names ≡ app.names → closed.cookies ≡ app.cookies
    → closed.queries ≡ app.queries → closed.changes ≡ app.changes → closed.targets ≡ made.targets → closed.variants ≡ made.variants → closed.functions ≡ made.functions → IsClosed app closed
closed_is app made closed m s h n c q u t v f = (
  m.instances,
  record {
    schema = s;
    handlers = h;
    names = n;
    queries = q;
    changes = u;
    cookies = c;
    variants = subst (AllZip (IsVariant app.names) app.variants) (sym v) m.variants;
    instances_are = m.are;
    functions = subst (AllZip (IsFunctionOf app m.instances) m.instances) (sym f) m.functions;
    targets = subst (AllZip (IsTarget m.instances) app.targets) (sym t) m.targets;
  },
)
