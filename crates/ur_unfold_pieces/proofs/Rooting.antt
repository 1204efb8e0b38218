-- The roots so far, and the roots.
use Rattle.std.proofs.Common.{◌≡◌, ◌≢◌, ◌<◌, ◌≤◌, ℕ, zero, suc, ◌+◌, ◌⊎◌, inl, inr, List, [], ◌∷◌, ◌++◌, map, length, Some, refl, sym, ap, subst, ◌∙◌, arith}
use Rattle.std.specs.Prelude.{slice_get}
use Rattle.std.proofs.lemmas.Option.{slice_get_within}
use Rattle.ur_tree.specs.declared.typed.Typed.{Typed}
use Rattle.ur_tree.specs.declared.typed.Function.{Function}
use Rattle.ur_tree.specs.declared.closed.Instance.{Instance}
use Rattle.ur_meaning.specs.Instances.{IsNumbered}
use Rattle.ur_source.specs.Instances.{IsRoot}
use Rattle.ur_unfold_static.specs.Held.{Held}
use Rattle.ur_unfold_static.specs.Lists.{IsAbsent}
use Rattle.ur_unfold_static.proofs.Differ.{last_differs}
use Rattle.ur_unfold_pieces.specs.declared.opening.Key.{Key}
use Rattle.ur_unfold_pieces.specs.Keys.{instance_of, KeyFits, KeysFit}
use Rattle.ur_unfold_pieces.specs.Rooted.{IsPlain, IsRootKey, root_key, AreRootKeys, RootsTo}
use Rattle.ur_unfold_pieces.specs.Standing.{AreRoots}
use Rattle.ur_unfold_pieces.proofs.Lists.{the_same, all_by, all_so, all_last, before_last, at_last, of_last, different_map, numbered_map, of_map}

pub roots_from : (functions : List Function) (keys : List Key) → keys ≡ [] → RootsTo functions 0 keys
roots_from functions keys e = subst (RootsTo functions 0) (sym e) (record {
  below = tt;
  different = tt;
  only = λ key at. absurd (cc);
  all = λ n f h. absurd (omega (arith, h));
})

other_key : (i : ℕ) (k : Key) → k.function < i → k ≢ root_key i
other_key i k h e = absurd (omega (arith, h, ap (λ (k : Key). k.function) e))

pub new_root : (functions : List Function) (i : ℕ) (keys : List Key) (key : Key) → RootsTo functions i keys → key ≡ root_key i → IsAbsent keys key
new_root functions i keys key r e = subst (IsAbsent keys) (sym e) (all_so (λ (k : Key). k.function < i) (λ k. k ≢ root_key i) keys (other_key i) r.below)

here_or_before : (n i : ℕ) → n < i + 1 → (n < i) ⊎ (i ≡ n)
here_or_before n i h = elim (le_cases n i h) [
  | inl less ↦ inl less
  | inr same ↦ inr same
]
  where
    le_cases : (n i : ℕ) → n < i + 1 → (n < i) ⊎ (i ≡ n)
    le_cases zero zero h = inr refl
    le_cases zero (suc i) h = inl (omega arith)
    le_cases (suc n) zero h = absurd (omega (arith, h))
    le_cases (suc n) (suc i) h = elim (le_cases n i (omega (arith, h))) [
      | inl less ↦ inl (omega (arith, less))
      | inr same ↦ inr (ap suc same)
    ]

less_more : (i : ℕ) (k : Key) → k.function < i → k.function < i + 1
less_more i k h = omega (arith, h)

pub roots_more : (functions : List Function) (i : ℕ) (keys new : List Key) (key : Key) (f : Function) → RootsTo functions i keys → slice_get functions i ≡ Some f → IsPlain f → key ≡ root_key i
    → new ≡ keys ++ key ∷ [] → RootsTo functions (i + 1) new
roots_more functions i keys new key f r at p e n =
    let more : new ≡ keys ++ root_key i ∷ [] = n ∙ ap (λ (k : Key). keys ++ k ∷ []) e in
    subst (RootsTo functions (i + 1)) (sym more) (record {
      below = all_last (λ (k : Key). k.function < i + 1) keys (root_key i) (all_so (λ (k : Key). k.function < i) (λ k. k.function < i + 1) keys (less_more i) r.below) (omega arith);
      different = last_differs keys (root_key i) r.different (all_so (λ (k : Key). k.function < i) (λ k. k ≢ root_key i) keys (other_key i) r.below);
      only = λ k is. elim (of_last keys (root_key i) k is) [
        | inl before ↦ r.only k before
        | inr same ↦ subst (IsRootKey functions) same (f, at, p, refl)
      ];
      all = λ m g h is plain. elim (here_or_before m i h) [
        | inl less ↦ before_last keys (root_key i) (root_key m) (r.all m g less is plain)
        | inr same ↦ subst (λ (j : ℕ). IsNumbered (keys ++ root_key i ∷ []) (root_key j)) same (at_last keys (root_key i))
      ];
    })

pub roots_pass : (functions : List Function) (i : ℕ) (keys : List Key) (f : Function) → RootsTo functions i keys → slice_get functions i ≡ Some f → ¬ (IsPlain f) → RootsTo functions (i + 1) keys
roots_pass functions i keys f r at other = record {
  below = all_so (λ (k : Key). k.function < i) (λ k. k.function < i + 1) keys (less_more i) r.below;
  different = r.different;
  only = r.only;
  all = λ m g h is plain. elim (here_or_before m i h) [
    | inl less ↦ r.all m g less is plain
    | inr same ↦ absurd (other (subst IsPlain (the_same g f (sym is ∙ ap (slice_get functions) (sym same) ∙ at)) plain))
  ];
}

pub roots_end : (functions : List Function) (i : ℕ) (keys : List Key) → length functions ≤ i → RootsTo functions i keys → AreRootKeys functions keys
roots_end functions i keys h r = record {
  different = r.different;
  are = λ key. (λ root. of key root, r.only key);
}
  where
    of : (key : Key) → IsRootKey functions key → IsNumbered keys key
    of key root =
        let within = slice_get_within functions key.function root.0 root.1 in
        subst (IsNumbered keys) (sym root.3) (r.all key.function root.0 (omega (arith, h, within)) root.1 root.2)

-- ---- as instances

module _ (held : Held) (functions : List Function) (keys : List Key) (r : AreRootKeys functions keys) where
  root_fits : (key : Key) → IsRootKey functions key → KeyFits held key
  root_fits key root = subst (KeyFits held) (sym root.3) (tt, tt)

  pub roots_fit : KeysFit held keys
  roots_fit = all_by (KeyFits held) keys (λ key at. root_fits key ((r.are key).1 at))

  root_once : (a b : Key) → IsRootKey functions a → IsRootKey functions b → instance_of held a ≡ instance_of held b → a ≡ b
  root_once a b h g e = h.3 ∙ ap root_key (ap (λ (k : Instance). k.function) e) ∙ sym g.3

  root_instance : (key : Key) → IsRootKey functions key → instance_of held key ≡ record { function = key.function; cons = []; fixed = [] }
  root_instance key root = ap (instance_of held) root.3

plain_instance : (k : Instance) → k.cons ≡ [] → k.fixed ≡ [] → k ≡ record { function = k.function; cons = []; fixed = [] }
plain_instance k e f = same k.function k.cons k.fixed e f
  where
    same : (n : ℕ) (cs : _) (fs : _) → cs ≡ [] → fs ≡ [] → ◌≡◌ {A = Instance} (record { function = n; cons = cs; fixed = fs }) (record { function = n; cons = []; fixed = [] })
    same n cs fs e f = rw (e, f) refl

pub roots_are : (app : Typed) (held : Held) (keys : List Key) → AreRootKeys app.functions keys → AreRoots app (map (instance_of held) keys)
roots_are app held keys r = record {
  different = different_map (instance_of held) (IsRootKey app.functions) (root_once held app.functions keys r) keys (all_by (IsRootKey app.functions) keys (λ key at. (r.are key).1 at)) r.different;
  are = λ k. (there k, back k);
}
  where
    there : (k : Instance) → IsRoot app k → IsNumbered (map (instance_of held) keys) k
    there k root =
        let key = root_key k.function in
        let at = (r.are key).0 (root.function, root.is_function, (root.no_cons.0, root.no_fixed.0), refl) in
        (at.0, numbered_map (instance_of held) keys at.0 key at.1 ∙ ap Some (sym (plain_instance k root.no_cons.1 root.no_fixed.1)))

    back : (k : Instance) → IsNumbered (map (instance_of held) keys) k → IsRoot app k
    back k at =
        let one = of_map (instance_of held) keys at.0 k at.1 in
        let root = (r.are one.0).1 (at.0, one.1) in
        subst (IsRoot app) (sym (one.2 ∙ root_instance held app.functions keys r one.0 root)) (record {
          function = root.0;
          is_function = root.1;
          no_cons = (root.2.0, refl);
          no_fixed = (root.2.1, refl);
        })
