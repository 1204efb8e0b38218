-- The work list step by step: what is unfolded so far, and why it ends.
use Rattle.std.proofs.Common.{◌≡◌, ℕ, zero, suc, ◌+◌, ◌≤◌, List, [], ◌∷◌, ◌++◌, length, map, None, Some, Ok, Err, refl, sym, ap, subst, ◌∙◌, arith, append-nil, append_assoc}
use Rattle.std.specs.Prelude.{slice_get, ◌<◌}
use Rattle.std.specs.List.{AllByRecursion, AllZip}
use Rattle.std.proofs.lemmas.List.{length-append}
use Rattle.std.proofs.Math.Nat.{lt_of_not-le}
use Rattle.ur_terms.specs.declared.term.Term.{Term}
use Rattle.ur_terms.specs.Shape.{nodes}
use Rattle.ur_meaning.specs.Form.{Language}
use Rattle.ur_meaning.specs.Instances as n
use Rattle.ur_meaning.specs.Instances.{Different, IsNumbered, IsInstance, AtLeast, AllAtLeast, Weighed, total, HasTooManyNodes}
use Rattle.ur_meaning.proofs.Parts.{known_one}
use Rattle.ur_meaning.specs.declared.halt.Halt.{Halt}
use Rattle.ur_meaning.specs.declared.halt.Halt.TheVariants as halt
use Rattle.ur_meaning.specs.Making.{State, state, list_nodes, AreWithin, Made, Halted, TooMany, OneMade}
use Rattle.ur_meaning.specs.Opening.{Embodies, IsNameAt, Lasts}
use Rattle.ur_meaning.specs.Working.{Unfolded, Worked, Working, HasOneTooMany, Ends, Steps, AllUnfolded, most_instances, most_nodes, most_levels}
use Rattle.ur_meaning.proofs.Going.{lasts_so, lasts_then}
use Rattle.ur_meaning.proofs.Working.{work_step, work_done, all_unfolded, work_full, work_deep, work_large, one_behind, is_next, the_same, all_both, all_left, different_left}

-- ---- lists

there : {A : Type 0} (xs : List A) (j : ℕ) → j < length xs → (x : A) × (slice_get xs j ≡ Some x)
there [] j h = absurd (omega (arith, h))
there (x ∷ xs) zero h = (x, refl)
there (x ∷ xs) (suc j) h = there xs j (omega (arith, h))

next_of : {A : Type 0} (xs ys : List A) (x : A) → slice_get (xs ++ ys) (length xs) ≡ Some x → (rest : List A) × (ys ≡ x ∷ rest)
next_of [] [] x e = absurd (cc)
next_of [] (y ∷ ys) x e = (ys, ap (λ z. z ∷ ys) (the_same y x e))
next_of (a ∷ xs) ys x e = next_of xs ys x e

none_left : {A : Type 0} (xs ys : List A) → length (xs ++ ys) ≤ length xs → ys ≡ []
none_left xs [] h = refl
none_left xs (y ∷ ys) h = absurd (omega (arith, h, length-append xs (y ∷ ys)))

zip_length : {A B : Type 0} (P : A → B → Type 0) (xs : List A) (ys : List B) → AllZip P xs ys → length xs ≡ length ys
zip_length P [] [] h = refl
zip_length P [] (b ∷ ys) h = absurd h
zip_length P (a ∷ xs) [] h = absurd h
zip_length P (a ∷ xs) (b ∷ ys) h = ap suc (zip_length P xs ys h.1)

all_by : {A : Type 0} (P : A → Type 0) (xs : List A) → ((j : ℕ) (x : A) → slice_get xs j ≡ Some x → P x) → AllByRecursion P xs
all_by P [] go = tt
all_by P (x ∷ xs) go = (go zero x refl, all_by P xs (λ j y e. go (suc j) y e))

nodes_more : (xs ys : List Term) → list_nodes (xs ++ ys) ≡ list_nodes xs + list_nodes ys
nodes_more [] ys = omega arith
nodes_more (x ∷ xs) ys = omega (arith, nodes_more xs ys)

within_more : (levels : ℕ) (xs ys : List Term) → AreWithin levels xs → AreWithin levels ys → AreWithin levels (xs ++ ys)
within_more levels [] ys h g = g
within_more levels (x ∷ xs) ys h g = (h.0, within_more levels xs ys h.1 g)

pub not_less : (n m : ℕ) → ¬ (n < m) → m ≤ n
not_less n m h =
    let less : m < suc n = lt_of_not-le h in
    omega (arith, less)

length_last : {A : Type 0} (xs : List A) (x : A) → length (xs ++ x ∷ []) ≡ suc (length xs)
length_last [] x = refl
length_last (y ∷ xs) x = ap suc (length_last xs x)

-- ---- what is done, with the nodes of each

abbrev weights : {K : Type 0} → List K → List Term → List (K × ℕ)
weights [] ts = []
weights (k ∷ ks) [] = []
weights (k ∷ ks) (a ∷ ts) = (k, nodes a) ∷ weights ks ts

weights_names : {K : Type 0} (P : K → Term → Type 0) (ks : List K) (ts : List Term) (l : K) (m : ℕ) → AllZip P ks ts
    → map (λ b. b.0) (weights ks ts ++ (l, m) ∷ []) ≡ ks ++ l ∷ []
weights_names P [] [] l m h = refl
weights_names P [] (a ∷ ts) l m h = absurd h
weights_names P (k ∷ ks) [] l m h = absurd h
weights_names P (k ∷ ks) (a ∷ ts) l m h = ap (λ ks. k ∷ ks) (weights_names P ks ts l m h.1)

weights_total : {K : Type 0} (P : K → Term → Type 0) (ks : List K) (ts : List Term) (l : K) (m : ℕ) → AllZip P ks ts
    → total (weights ks ts ++ (l, m) ∷ []) ≡ list_nodes ts + m
weights_total P [] [] l m h = omega arith
weights_total P [] (a ∷ ts) l m h = absurd h
weights_total P (k ∷ ks) [] l m h = absurd h
weights_total P (k ∷ ks) (a ∷ ts) l m h = omega (arith, weights_total P ks ts l m h.1)

module _ {I K : Type 0} (p : Language I K) where
  none_known : (l : List I) (m : ℕ) → l ≡ [] → AllAtLeast p l m → m ≡ 0
  none_known _ _ e n.no_part = refl
  none_known _ _ e (n.part_more i rest m k h r) = absurd (cc)

  one_known : (l : List I) (m : ℕ) (i : I) → l ≡ i ∷ [] → AllAtLeast p l m → AtLeast p i m
  one_known _ _ i e n.no_part = absurd (cc)
  one_known _ _ i e (n.part_more j rest m k h r) =
      let none : k ≡ 0 = none_known rest k (cc) r in
      let same : j ≡ i = cc in
      subst (AtLeast p i) (omega (arith, none)) (subst (λ i. AtLeast p i m) same h)

  module _ (IsRoot : K → Type 0) (instances : List K) where
    weighed : (ks : List K) (ts : List Term) → AllByRecursion (IsInstance p IsRoot) ks → AllZip (Unfolded p instances) ks ts
        → AllByRecursion (λ b. Weighed p IsRoot b.0 b.1) (weights ks ts)
    weighed [] ts h g = tt
    weighed (k ∷ ks) [] h g = tt
    weighed (k ∷ ks) (a ∷ ts) h g =
        (record { is_instance = h.0; body = g.0.body; is_body = g.0.is_body; nodes = known_one p instances g.0.body a g.0.unfolds }, weighed ks ts h.1 g.1)

  -- the bodies that are done and the part of the next one that is known are more than there may be
  work_weighs : (IsRoot : K → Type 0) (roots instances rest : List K) (k : K) (bodies : List Term) (w : Worked p IsRoot roots instances bodies) → w.rest ≡ k ∷ rest
      → (body : I) → p.body k ≡ Some body → (room most : ℕ) → list_nodes bodies + room ≡ most → TooMany p (body ∷ []) (state instances room) → HasTooManyNodes p IsRoot most
  work_weighs IsRoot roots instances rest k bodies w next body e room most sum t =
      let whole : instances ≡ (w.done ++ k ∷ []) ++ rest =
      w.whole ∙ ap (λ l. w.done ++ l) next ∙ sym (append_assoc w.done (k ∷ []) rest) in
      let done : AllByRecursion (IsInstance p IsRoot) w.done = all_left (IsInstance p IsRoot) w.done w.rest (subst (AllByRecursion (IsInstance p IsRoot)) w.whole w.only) in
      record {
        some_of = weights w.done bodies ++ (k, t.many) ∷ [];
        different = subst Different (sym (weights_names (Unfolded p instances) w.done bodies k t.many w.unfolded))
            (different_left (w.done ++ k ∷ []) rest (subst Different whole w.different));
        are = all_both (λ b. Weighed p IsRoot b.0 b.1) (weights w.done bodies) ((k, t.many) ∷ [])
            (weighed IsRoot instances w.done bodies done w.unfolded)
            (record { is_instance = is_next p IsRoot roots instances rest k bodies w next body e; body = body; is_body = e; nodes = one_known (body ∷ []) t.many body refl t.known }, tt);
        too_many = omega (arith, weights_total (Unfolded p instances) w.done bodies k t.many w.unfolded, t.more, sum);
      }

  -- ---- step by step

  pub begun : (roots : List K) → Different roots → Working p roots roots [] most_nodes
  begun roots d = record {
    work = record {
      more = [];
      grows = sym (append-nil roots);
      different = d;
      only = all_by (IsInstance p (IsNumbered roots)) roots (λ j k e. n.root k (j, e));
      done = [];
      rest = roots;
      whole = refl;
      unfolded = tt;
    };
    nodes = refl;
    within = tt;
  }

  module _ (roots instances : List K) (bodies : List Term) (room : ℕ) (w : Working p roots instances bodies room) where
    done_length : length w.work.done ≡ length bodies
    done_length = zip_length (Unfolded p instances) w.work.done bodies w.work.unfolded

    pub is_there : (number : ℕ) → number < length instances → (k : K) × (slice_get instances number ≡ Some k)
    is_there number h = there instances number h

    left : (number : ℕ) (k : K) → length bodies ≡ number → slice_get instances number ≡ Some k → (rest : List K) × (w.work.rest ≡ k ∷ rest)
    left number k count at =
        next_of w.work.done w.work.rest k
        (subst (λ j. slice_get (w.work.done ++ w.work.rest) j ≡ Some k) (sym (done_length ∙ count)) (subst (λ l. slice_get l number ≡ Some k) w.work.whole at))

    module _ (number : ℕ) (k : K) (count : length bodies ≡ number) (at : slice_get instances number ≡ Some k) (body : I) (e : p.body k ≡ Some body) where
      pub stepped : (new : State K) (a : Term) → Made p (state instances room) most_levels (body ∷ []) new (a ∷ []) → (Different instances → Different new.called)
          → Working p roots new.called (bodies ++ a ∷ []) new.room
      stepped new a m once =
          let l = left number k count at in
          record {
            work = work_step p (IsNumbered roots) roots instances l.0 k bodies w.work l.1 body e room most_levels new a m (once w.work.different);
            nodes = omega (arith, nodes_more bodies (a ∷ []), m.nodes, w.nodes);
            within = within_more most_levels bodies (a ∷ []) w.within m.within;
          }

      pub ended : (large : K → Type 0) (named : ℕ → K → Type 0) (new : State K) (h : Halt) → Halted p large named (state instances room) most_levels (body ∷ []) new h → (Different instances → Different new.called) → Ends p large named roots h
      ended large named new halt.Nodes t once =
          let l = left number k count at in
          work_weighs (IsNumbered roots) roots instances l.0 k bodies w.work l.1 body e room most_nodes w.nodes t
      ended large named new halt.Nesting t once =
          let l = left number k count at in
          work_deep p (IsNumbered roots) roots instances l.0 k bodies w.work l.1 body e most_levels t
      ended large named new (halt.Instances name) t once =
          let l = left number k count at in
          work_full p (IsNumbered roots) roots instances l.0 k bodies w.work l.1 body e named new.called name t (once w.work.different)
      ended large named new halt.Large t once =
          let l = left number k count at in
          work_large p (IsNumbered roots) roots instances l.0 k bodies w.work l.1 body e large t
      ended large named new halt.Memory t once = tt

    pub finished : (number : ℕ) → length bodies ≡ number → number ≤ most_instances → length instances ≤ number → AllUnfolded p roots instances bodies
    finished number count few ends =
        let short : length (w.work.done ++ w.work.rest) ≤ length w.work.done =
        omega (arith, done_length, count, ap length w.work.whole, ends) in
        let over = none_left w.work.done w.work.rest short in
        record {
          are = work_done p (IsNumbered roots) roots instances bodies w.work over (λ k h. h);
          begins = w.work.more;
          grows = w.work.grows;
          unfolded = all_unfolded p (IsNumbered roots) roots instances bodies w.work over (λ k h. h);
          few = omega (arith, few, ends);
          nodes = omega (arith, w.nodes);
          within = w.within;
        }

    pub one_more : (named : ℕ → K → Type 0) (name : ℕ) → IsNameAt named instances most_instances (Some name) → HasOneTooMany p (IsNumbered roots) most_instances named name
    one_more named name at = record { instance = at.0; is_named = at.2; too_many = one_behind p (IsNumbered roots) instances most_instances at.0 w.work.different w.work.only at.1 }

-- ---- over a table

-- The bodies of the first instances are unfolded, as many as this number says.
pub record Along {S P I K : Type 0} (language : S → Language I K) (instances : S → List K) (stands : S → P → I → Type 0) (sound : S → Type 0) (first now : S) (number : ℕ) (made : List Term) (room : ℕ) : Type 0 where
  pub lasts : Lasts language instances stands sound first now
  pub working : sound first → Different (instances first) → Working (language first) (instances first) (instances now) made room × (length made ≡ number)

module _ {S P I K : Type 0} (language : S → Language I K) (instances : S → List K) (stands : S → P → I → Type 0) (sound : S → Type 0) where
  module _ (old mid new : S) (room rest number : ℕ) (made : List Term) (q : P) (numbered : instances mid ≡ instances old) (before : Lasts language instances stands sound old mid)
      (after : Lasts language instances stands sound mid new) (go : (k : K) → slice_get (instances old) number ≡ Some k → sound old → Embodies (language old) (stands mid) k (Ok q)) where
    once : sound old → Different (instances old) → Different (instances new)
    once s d = after.once (before.keeps s) (before.once s d)

    pub next_halts : (large : K → Type 0) (named : ℕ → K → Type 0) (h : Halt) → ((i : I) → stands mid q i → OneMade (language mid) large named (state (instances mid) room) most_levels i (state (instances new) rest) (Err h))
        → (roots : List K) → sound old → Working (language old) roots (instances old) made room → length made ≡ number → number < length (instances old) → Ends (language old) large named roots h
    next_halts large named h one roots s w count below =
        let k = is_there (language old) roots (instances old) made room w number below in
        let body = go k.0 k.1 s in
        ended (language old) roots (instances old) made room w number k.0 count k.1 body.0 body.1 large named (state (instances new) rest) h
        (subst (λ l. Halted (language old) large named (state l room) most_levels (body.0 ∷ []) (state (instances new) rest) h) numbered
        (subst (λ p. Halted p large named (state (instances mid) room) most_levels (body.0 ∷ []) (state (instances new) rest) h) before.same (one body.0 body.2))) (once s)

    pub next_made : (a : Term) → ((i : I) → stands mid q i → Made (language mid) (state (instances mid) room) most_levels (i ∷ []) (state (instances new) rest) (a ∷ []))
        → (roots : List K) → sound old → Working (language old) roots (instances old) made room → length made ≡ number → number < length (instances old)
        → Working (language old) roots (instances new) (made ++ a ∷ []) rest × (length (made ++ a ∷ []) ≡ suc (length made))
    next_made a one roots s w count below =
        let k = is_there (language old) roots (instances old) made room w number below in
        let body = go k.0 k.1 s in (
          stepped (language old) roots (instances old) made room w number k.0 count k.1 body.0 body.1 (state (instances new) rest) a
              (subst (λ l. Made (language old) (state l room) most_levels (body.0 ∷ []) (state (instances new) rest) (a ∷ [])) numbered
              (subst (λ p. Made p (state (instances mid) room) most_levels (body.0 ∷ []) (state (instances new) rest) (a ∷ [])) before.same (one body.0 body.2))) (once s),
          length_last made a,
        )

  pub no_body : (large : K → Type 0) (named : ℕ → K → Type 0) (old mid : S) (number room : ℕ) (made : List Term) (h : Halt) → ((k : K) → slice_get (instances old) number ≡ Some k → sound old → Embodies (language old) (stands mid) k (Err h))
      → (roots : List K) → sound old → Working (language old) roots (instances old) made room → number < length (instances old) → Ends (language old) large named roots h
  no_body large named old mid number room made h go roots s w below =
      let k = is_there (language old) roots (instances old) made room w number below in
      by h (go k.0 k.1 s)
    where
      by : (h : Halt) → Embodies (language old) (stands mid) (is_there (language old) roots (instances old) made room w number below).0 (Err h) → Ends (language old) large named roots h
      by halt.Nodes g = absurd g
      by halt.Nesting g = absurd g
      by (halt.Instances name) g = absurd g
      by halt.Large g = absurd g
      by halt.Memory g = tt

  -- ---- the loop

  pub along_first : (first : S) → Along language instances stands sound first first 0 [] most_nodes
  along_first first = record { lasts = lasts_so language instances stands sound first; working = λ s d. (begun (language first) (instances first) d, refl) }

  pub along_more : (first mid new : S) (number room rest : ℕ) (made more : List Term) → Along language instances stands sound first mid number made room → number < length (instances mid)
      → Lasts language instances stands sound mid new
      → ((roots : List K) → sound mid → Working (language mid) roots (instances mid) made room → length made ≡ number → number < length (instances mid)
      → Working (language mid) roots (instances new) more rest × (length more ≡ suc (length made))) → Along language instances stands sound first new (suc number) more rest
  along_more first mid new number room rest made more a below lasts go = record {
    lasts = lasts_then language instances stands sound first mid new a.lasts lasts;
    working = λ s d.
        let w = a.working s d in
        let g = go (instances first) (a.lasts.keeps s) (subst (λ p. Working p (instances first) (instances mid) made room) (sym a.lasts.same) w.0) w.1 below in
        (subst (λ p. Working p (instances first) (instances new) more rest) a.lasts.same g.0, g.1 ∙ ap suc w.1);
  }

  pub along_ends : (large : K → Type 0) (named : ℕ → K → Type 0) (first mid new : S) (number room rest : ℕ) (made more : List Term) (h : Halt) → Along language instances stands sound first mid number made room → number < length (instances mid)
      → ((roots : List K) → sound mid → Working (language mid) roots (instances mid) made room → length made ≡ number → number < length (instances mid)
      → Steps (language mid) large named roots (instances new) made more rest (Err h)) → sound first → Different (instances first) → Ends (language first) large named (instances first) h
  along_ends large named first mid new number room rest made more h a below go s d =
      let w = a.working s d in
      subst (λ p. Ends p large named (instances first) h) a.lasts.same
      (go (instances first) (a.lasts.keeps s) (subst (λ p. Working p (instances first) (instances mid) made room) (sym a.lasts.same) w.0) w.1 below)

  pub along_done : (first now : S) (number room : ℕ) (made : List Term) → Along language instances stands sound first now number made room → number ≤ most_instances
      → length (instances now) ≤ number → sound first → Different (instances first) → AllUnfolded (language first) (instances first) (instances now) made
  along_done first now number room made a few ends s d =
      let w = a.working s d in
      finished (language first) (instances first) (instances now) made room w.0 number w.1 few ends

  pub along_full : (named : ℕ → K → Type 0) (first now : S) (number room name : ℕ) (made : List Term) → Along language instances stands sound first now number made room
      → IsNameAt named (instances now) most_instances (Some name) → sound first → Different (instances first) → HasOneTooMany (language first) (IsNumbered (instances first)) most_instances named name
  along_full named first now number room name made a at s d =
      let w = a.working s d in
      one_more (language first) (instances first) (instances now) made room w.0 named name at

-- there is nothing at a place
pub no_more : {A : Type 0} (xs : List A) (place : ℕ) → slice_get xs place ≡ None → length xs ≤ place
no_more [] place e = omega arith
no_more (x ∷ xs) zero e = absurd (cc)
no_more (x ∷ xs) (suc place) e = omega (arith, no_more xs place e)
