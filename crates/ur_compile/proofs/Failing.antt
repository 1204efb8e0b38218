-- What fails does not pass.
use Rattle.std.proofs.Common.{arith, ◌≡◌, refl, sym, subst, ◌∙◌, Bool, true, false, List, [], ◌∷◌, Option, Some}
use Rattle.std.proofs.lemmas.Bool.{false≢true}
use Rattle.std.specs.List.{find}
use Rattle.ur_base.specs.declared.refusal.Refusal.{Refusal}
use Rattle.ur_tree.specs.declared.typed.Typed.{Typed}
use Rattle.ur_source.specs.Source.{language}
use Rattle.ur_source.specs.Instances.{IsRoot}
use Rattle.ur_meaning.specs.Working.{most_instances}
use Rattle.ur_meaning.proofs.Working.{too_many}
use Rattle.ur_unfold.specs.Limits.{IsSmall}
use Rattle.ur_unfold.specs.Unfolding as unfolded
use Rattle.ur_unfold.specs.Unfolding.{ExplainsUnfolded}
use Rattle.ur_check_limits.specs.declared.limit.Limit.{Limit}
use Rattle.ur_check_limits.specs.Limits.{is_exceeded, in_order, first_exceeded, IsWithinLimits}
use Rattle.ur_compile.specs.Explains as explains
use Rattle.ur_compile.specs.Explains.{Fails}
use Rattle.ur_compile.specs.Passes.{Passes}

-- ---- limits

same_of : {A : Type 0} (x y : A) → Some x ≡ Some y → x ≡ y
same_of x y e = cc

found : {A : Type 0} (p : A → Bool) (x : A) (xs : List A) → p x ≡ true → Some x ≡ find p (x ∷ xs)
found p x xs h = grind (arith, h)

passed : {A : Type 0} (p : A → Bool) (x : A) (xs : List A) (r : Option A) → p x ≡ false → r ≡ find p xs → r ≡ find p (x ∷ xs)
passed p x xs r h i = grind (arith, h, i)

-- what is found passes the test
found_passes : {A : Type 0} (p : A → Bool) (x : A) (xs : List A) → find p xs ≡ Some x → p x ≡ true
found_passes p x [] e = absurd (cc)
found_passes p x (y ∷ xs) e = by (p y) refl (found_passes p x xs)
  where
    by : (b : Bool) → p y ≡ b → (find p xs ≡ Some x → p x ≡ true) → p x ≡ true
    by true h rest = subst (λ z. p z ≡ true) (same_of y x (found p y xs h ∙ e)) h
    by false h rest = rest (passed p y xs (find p xs) h refl ∙ e)

pub exceeded_not_within : (app : Typed) (l : Limit) → first_exceeded app ≡ Some l → IsWithinLimits app → ⊥
exceeded_not_within app l e h = false≢true (sym (h l) ∙ found_passes (is_exceeded app) l in_order e)

-- ---- instances

unfolded_not_small : (app : Typed) (r : Refusal) → ExplainsUnfolded app r → IsSmall app → ⊥
unfolded_not_small app r (unfolded.many k h named says) small = small.few (too_many (language app) (IsRoot app) most_instances k h)
unfolded_not_small app r (unfolded.nodes says h) small = small.nodes h
unfolded_not_small app r (unfolded.argument says h) small = small.arguments h
unfolded_not_small app r (unfolded.nesting says h) small = small.flat h

-- ---- the application

pub fails_not_passes : (app : Typed) (r : Refusal) → Fails app r → Passes app → ⊥
fails_not_passes app r (explains.unfolded h) p = unfolded_not_small app r h p.small
fails_not_passes app r (explains.unfit code has h) p = h.unfit (p.fit has.closed code has.is_closed has.is_code)
fails_not_passes app r (explains.writes code has fits h) p = p.gets has.closed code has.is_closed has.is_code h.chain h.write h.writes
fails_not_passes app r (explains.limit code l has fits gets first says) p = exceeded_not_within app l first p.limits
