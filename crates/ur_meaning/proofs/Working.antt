-- The work list: that all instances are there, each once, and what it means that there are too many.
use Rattle.std.proofs.Common.{◌≡◌, ◌≢◌, ℕ, zero, suc, List, [], ◌∷◌, ◌++◌, length, take, Some, refl, sym, ap, subst, ◌∙◌, arith, append_assoc, append-nil}
use Rattle.std.specs.Prelude.{slice_get}
use Rattle.std.specs.List.{AllByRecursion, AllZip}
use Rattle.std.proofs.lemmas.List.{length-append, length-take-le}
use Rattle.std.proofs.lemmas.Option.{slice_get_within}
use Rattle.ur_terms.specs.declared.term.Term.{Term}
use Rattle.ur_meaning.specs.Form.{Language}
use Rattle.ur_meaning.specs.Unfolds.{Unfolds, UnfoldAll}
use Rattle.ur_meaning.specs.Unfolds as u
use Rattle.ur_meaning.specs.Instances as n
use Rattle.ur_meaning.specs.Instances.{Among, Different, IsNumbered, IsInstance, Calls, AreInstances, Nests, TooManyInstances, IsTooDeep}
use Rattle.ur_meaning.proofs.Parts.{get_longer, unfolds_more, calls_numbered}
use Rattle.ur_meaning.specs.Making.{State, state, CalledIn, Grown, Made, Full, TooDeep, CallsLarge}
use Rattle.ur_meaning.specs.Working.{Unfolded, Worked, IsOneTooMany, HasOneTooMany, HasLarge}
use Rattle.ur_meaning.proofs.Making.{head_of, tail_of, nothing_in}

-- ---- lists

pub the_same : {A : Type 0} (x y : A) → Some x ≡ Some y → x ≡ y
the_same x y e = cc

pub all_both : {A : Type 0} (P : A → Type 0) (xs ys : List A) → AllByRecursion P xs → AllByRecursion P ys → AllByRecursion P (xs ++ ys)
all_both P [] ys h g = g
all_both P (x ∷ xs) ys h g = (h.0, all_both P xs ys h.1 g)

pub all_left : {A : Type 0} (P : A → Type 0) (xs ys : List A) → AllByRecursion P (xs ++ ys) → AllByRecursion P xs
all_left P [] ys h = tt
all_left P (x ∷ xs) ys h = (h.0, all_left P xs ys h.1)

all_at : {A : Type 0} (P : A → Type 0) (xs : List A) (j : ℕ) (x : A) → AllByRecursion P xs → slice_get xs j ≡ Some x → P x
all_at P [] j x h e = absurd (cc)
all_at P (y ∷ xs) zero x h e = subst P (the_same y x e) h.0
all_at P (y ∷ xs) (suc j) x h e = all_at P xs j x h.1 e

at_middle : {A : Type 0} (xs : List A) (x : A) (ys : List A) → slice_get (xs ++ x ∷ ys) (length xs) ≡ Some x
at_middle [] x ys = refl
at_middle (y ∷ xs) x ys = at_middle xs x ys

zip_last : {A B : Type 0} (P : A → B → Type 0) (xs : List A) (ys : List B) (x : A) (y : B) → AllZip P xs ys → P x y → AllZip P (xs ++ x ∷ []) (ys ++ y ∷ [])
zip_last P [] [] x y h g = (g, tt)
zip_last P [] (b ∷ ys) x y h g = absurd h
zip_last P (a ∷ xs) [] x y h g = absurd h
zip_last P (a ∷ xs) (b ∷ ys) x y h g = (h.0, zip_last P xs ys x y h.1 g)

zip_map : {A B : Type 0} (P Q : A → B → Type 0) (xs : List A) (ys : List B) → ((x : A) (y : B) → P x y → Q x y) → AllZip P xs ys → AllZip Q xs ys
zip_map P Q [] [] f h = tt
zip_map P Q [] (b ∷ ys) f h = absurd h
zip_map P Q (a ∷ xs) [] f h = absurd h
zip_map P Q (a ∷ xs) (b ∷ ys) f h = (f a b h.0, zip_map P Q xs ys f h.1)

zip_at : {A B : Type 0} (P : A → B → Type 0) (xs : List A) (ys : List B) (j : ℕ) (x : A) → AllZip P xs ys → slice_get xs j ≡ Some x → (y : B) × P x y
zip_at P [] ys j x h e = absurd (cc)
zip_at P (a ∷ xs) [] j x h e = absurd h
zip_at P (a ∷ xs) (b ∷ ys) zero x h e = (b, subst (λ z. P z b) (the_same a x e) h.0)
zip_at P (a ∷ xs) (b ∷ ys) (suc j) x h e = zip_at P xs ys j x h.1 e

others_left : {A : Type 0} (x : A) (xs : List A) (k : A) → AllByRecursion (λ y. x ≢ y) xs → x ≢ k → AllByRecursion (λ y. x ≢ y) (xs ++ k ∷ [])
others_left x xs k h g = all_both (λ y. x ≢ y) xs (k ∷ []) h (g, tt)

different_last : {A : Type 0} (xs : List A) (k : A) → Different xs → ¬ (IsNumbered xs k) → Different (xs ++ k ∷ [])
different_last [] k d new = (tt, tt)
different_last (x ∷ xs) k d new = (others_left x xs k d.0 (λ e. new (zero, ap Some e)), different_last xs k d.1 (λ at. new (suc at.0, at.1)))

pub different_left : {A : Type 0} (xs ys : List A) → Different (xs ++ ys) → Different xs
different_left [] ys d = tt
different_left (x ∷ xs) ys d = (all_left (λ y. x ≢ y) xs ys d.0, different_left xs ys d.1)

-- ---- those before a place

all_first : {A : Type 0} (P : A → Type 0) (place : ℕ) (xs : List A) → AllByRecursion P xs → AllByRecursion P (take place xs)
all_first P zero xs h = tt
all_first P (suc place) [] h = tt
all_first P (suc place) (x ∷ xs) h = (h.0, all_first P place xs h.1)

different_first : {A : Type 0} (place : ℕ) (xs : List A) → Different xs → Different (take place xs)
different_first zero xs d = tt
different_first (suc place) [] d = tt
different_first (suc place) (x ∷ xs) d = (all_first (λ y. x ≢ y) place xs d.0, different_first place xs d.1)

not_first : {A : Type 0} (place : ℕ) (xs : List A) (k : A) → Different xs → slice_get xs place ≡ Some k → ¬ (IsNumbered (take place xs) k)
not_first zero xs k d at first = absurd (cc)
not_first (suc place) [] k d at first = absurd (cc)
not_first (suc place) (x ∷ xs) k d at (zero, e) = all_at (λ y. x ≢ y) xs place k d.0 at (the_same x k e)
not_first (suc place) (x ∷ xs) k d at (suc j, e) = not_first place xs k d.1 at (j, e)

-- ---- the work

module _ {I K : Type 0} (p : Language I K) (IsRoot : K → Type 0) where
  only_calls : (l : List I) (i x : I) (k : K) → l ≡ i ∷ [] → Among l x → Calls p x k → Calls p i k
  only_calls _ i _ k e (n.first x xs) h = subst (λ i. Calls p i k) (ap (head_of x) e) h
  only_calls _ i _ k e (n.later z x xs g) h = absurd (nothing_in xs x (ap tail_of e) g)

  only_nests : (l : List I) (i x : I) (m : ℕ) → l ≡ i ∷ [] → Among l x → Nests p x m → Nests p i m
  only_nests _ i _ m e (n.first x xs) h = subst (λ i. Nests p i m) (ap (head_of x) e) h
  only_nests _ i _ m e (n.later z x xs g) h = absurd (nothing_in xs x (ap tail_of e) g)

  are_called : (k : K) (body : I) (more : List K) → IsInstance p IsRoot k → p.body k ≡ Some body → AllByRecursion (CalledIn p (body ∷ [])) more
      → AllByRecursion (IsInstance p IsRoot) more
  are_called k body [] is e h = tt
  are_called k body (l ∷ more) is e h =
      (n.called k l body is e (only_calls (body ∷ []) body h.0.item l refl h.0.among h.0.calls), are_called k body more is e h.1)

  grown_are : (k : K) (body : I) (old new : List K) → IsInstance p IsRoot k → p.body k ≡ Some body → AllByRecursion (IsInstance p IsRoot) old → Grown p (body ∷ []) old new
      → AllByRecursion (IsInstance p IsRoot) new
  grown_are k body old new is e h g =
      subst (AllByRecursion (IsInstance p IsRoot)) (sym g.grows) (all_both (IsInstance p IsRoot) old g.more h (are_called k body g.more is e g.reasons))

  still_unfolded : (old more : List K) (k : K) (a : Term) → Unfolded p old k a → Unfolded p (old ++ more) k a
  still_unfolded old more k a h = record { body = h.body; is_body = h.is_body; unfolds = unfolds_more p old more h.body a h.unfolds }

  only_one : (body : I) (a : Term) (l : List K) → UnfoldAll p l (body ∷ []) (a ∷ []) → Unfolds p l body a
  only_one body a l (u.one_more _ _ _ _ w v) = w

  -- the next instance's body is unfolded
  pub work_step : (roots instances rest : List K) (k : K) (bodies : List Term) (w : Worked p IsRoot roots instances bodies) → w.rest ≡ k ∷ rest → (body : I) → p.body k ≡ Some body
      → (room levels : ℕ) (new : State K) (a : Term) → Made p (state instances room) levels (body ∷ []) new (a ∷ []) → Different new.called
      → Worked p IsRoot roots new.called (bodies ++ a ∷ [])
  work_step roots instances rest k bodies w next body e room levels new a m d =
      let whole : instances ≡ w.done ++ k ∷ rest = w.whole ∙ ap (λ l. w.done ++ l) next in
      let is : IsInstance p IsRoot k = all_at (IsInstance p IsRoot) instances (length w.done) k w.only (ap (λ l. slice_get l (length w.done)) whole ∙ at_middle w.done k rest) in
      let grows : new.called ≡ instances ++ m.grown.more = m.grown.grows in
      record {
        more = w.more ++ m.grown.more;
        grows = grows ∙ ap (λ l. l ++ m.grown.more) w.grows ∙ append_assoc roots w.more m.grown.more;
        different = d;
        only = grown_are k body instances new.called is e w.only m.grown;
        done = w.done ++ k ∷ [];
        rest = rest ++ m.grown.more;
        whole = grows ∙ ap (λ l. l ++ m.grown.more) whole ∙ append_assoc w.done (k ∷ rest) m.grown.more ∙ sym (append_assoc w.done (k ∷ []) (rest ++ m.grown.more));
        unfolded = zip_last (Unfolded p new.called) w.done bodies k a
            (zip_map (Unfolded p instances) (Unfolded p new.called) w.done bodies
            (λ k a h. subst (λ l. Unfolded p l k a) (sym grows) (still_unfolded instances m.grown.more k a h)) w.unfolded)
            (record { body = body; is_body = e; unfolds = only_one body a new.called m.unfolds });
      }

  module _ (roots instances : List K) (bodies : List Term) (w : Worked p IsRoot roots instances bodies) (over : w.rest ≡ [])
      (begun : (k : K) → IsRoot k → IsNumbered roots k) where
    all_done : instances ≡ w.done
    all_done = w.whole ∙ ap (λ l. w.done ++ l) over ∙ append-nil w.done

    each_numbered : (k : K) → IsInstance p IsRoot k → IsNumbered instances k
    each_numbered _ (n.root k r) =
        let at = begun k r in
        (at.0, subst (λ l. slice_get l at.0 ≡ Some k) (sym w.grows) (get_longer roots w.more at.0 k at.1))
    each_numbered _ (n.called k l body is e c) =
        let at = each_numbered k is in
        let h = zip_at (Unfolded p instances) w.done bodies at.0 k w.unfolded (ap (λ l. slice_get l at.0) (sym all_done) ∙ at.1) in
        calls_numbered p instances body l h.0 c (subst (λ i. Unfolds p instances i h.0) (the_same h.1.body body (sym h.1.is_body ∙ e)) h.1.unfolds)

    -- When nothing is left, the instances are all that there are.
    pub work_done : AreInstances p IsRoot instances
    work_done = record { different = w.different; only = λ j k e. all_at (IsInstance p IsRoot) instances j k w.only e; all = each_numbered }

    pub all_unfolded : AllZip (Unfolded p instances) instances bodies
    all_unfolded = subst (λ l. AllZip (Unfolded p instances) l bodies) (sym all_done) w.unfolded

  -- ---- one too many

  pub too_many : (most : ℕ) (k : K) → IsOneTooMany p IsRoot most k → TooManyInstances p IsRoot most
  too_many most k t = record {
    some_of = t.others ++ k ∷ [];
    different = different_last t.others k t.different t.no_other;
    are = all_both (IsInstance p IsRoot) t.others (k ∷ []) t.are (t.is_instance, tt);
    too_many = omega (arith, t.so_many, length-append t.others (k ∷ []));
  }

  -- of those that are numbered, the one behind so many
  pub one_behind : (instances : List K) (place : ℕ) (k : K) → Different instances → AllByRecursion (IsInstance p IsRoot) instances → slice_get instances place ≡ Some k → IsOneTooMany p IsRoot place k
  one_behind instances place k d h at = record {
    is_instance = all_at (IsInstance p IsRoot) instances place k h at;
    others = take place instances;
    are = all_first (IsInstance p IsRoot) place instances h;
    different = different_first place instances d;
    so_many = omega (arith, length-take-le place instances (omega (arith, slice_get_within instances place k at)));
    no_other = not_first place instances k d at;
  }

  -- ---- why the work ends before

  module _ (roots instances rest : List K) (k : K) (bodies : List Term) (w : Worked p IsRoot roots instances bodies) (next : w.rest ≡ k ∷ rest) (body : I) (e : p.body k ≡ Some body) where
    pub is_next : IsInstance p IsRoot k
    is_next =
        all_at (IsInstance p IsRoot) instances (length w.done) k w.only
        (ap (λ l. slice_get l (length w.done)) (w.whole ∙ ap (λ l. w.done ++ l) next) ∙ at_middle w.done k rest)

    pub work_full : (named : ℕ → K → Type 0) (new : List K) (name : ℕ) → Full p named (body ∷ []) instances new name → Different new → HasOneTooMany p IsRoot 4096 named name
    work_full named new name f d = record {
      instance = f.one;
      is_named = f.is_named;
      too_many = record {
        is_instance = n.called k f.one body is_next e (only_calls (body ∷ []) body f.called.item f.one refl f.called.among f.called.calls);
        others = new;
        are = grown_are k body instances new is_next e w.only f.grown;
        different = d;
        so_many = f.full;
        no_other = f.unnumbered;
      };
    }

    pub work_deep : (levels : ℕ) → TooDeep p (body ∷ []) levels → IsTooDeep p IsRoot levels
    work_deep levels t = record {
      instance = k;
      body = body;
      nesting = t.depth;
      is_instance = is_next;
      is_body = e;
      nests = only_nests (body ∷ []) body t.item t.depth refl t.among t.nests;
      too_deep = t.deeper;
    }

    pub work_large : (large : K → Type 0) → CallsLarge p large (body ∷ []) → HasLarge p IsRoot large
    work_large large t = record {
      instance = t.instance;
      is_instance = n.called k t.instance body is_next e (only_calls (body ∷ []) body t.called.item t.instance refl t.called.among t.called.calls);
      is_large = t.is_large;
    }
