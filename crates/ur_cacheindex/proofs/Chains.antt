-- One number comes to a doubly linked list or goes.
use Rattle.std.proofs.Common.{◌≡◌, ◌≢◌, ◌⊎◌, inl, inr, ℕ, ◌+◌, Bool, true, false, ◌||◌, cond, List, [], ◌∷◌, ◌++◌, length, Option, Some, None, refl, sym, ap, subst, ◌∙◌, arith}
use Rattle.std.proofs.lemmas.Bool.{cases_eq}
use Rattle.std.specs.Ordering.{nat_cmp, eq_by_cmp}
use Rattle.ur_cacheindex.specs.Chains.{same_number, lists_number, without, Once, Links, Strung, IsChain, Closes, Opens, TakesOff, PutsFront, TakenElsewhere, PutElsewhere, first_of}

-- ---- numbers and lists of them

pub true_false : true ≡ false → ⊥
true_false e = absurd (cc)

tied : (a b : ℕ) → a ≡ b → eq_by_cmp nat_cmp a b ≡ true
tied a b e = grind arith

apart : (a b : ℕ) → a ≢ b → eq_by_cmp nat_cmp a b ≡ false
apart a b n = grind arith

pub number_self : (n : ℕ) → same_number n n ≡ true
number_self n = tied n n refl

pub number_apart : (n m : ℕ) → n ≢ m → same_number n m ≡ false
number_apart = apart

pub number_is : (n m : ℕ) → same_number n m ≡ true → n ≡ m
number_is n m e = elim (cases_eq n m) [ inl same ↦ same | inr differs ↦ absurd (true_false (sym e ∙ apart n m differs)) ]

pub number_not : (n m : ℕ) → same_number n m ≡ false → n ≢ m
number_not n m e same = true_false (sym (tied n m same) ∙ e)

none_some : (m : ℕ) → None ≡ Some m → ⊥
none_some m e = absurd (cc)

some_is : (a b : ℕ) → Some a ≡ Some b → a ≡ b
some_is a b e = cc

clash : (b : Bool) → b ≡ true → b ≡ false → ⊥
clash b t f = true_false (sym t ∙ f)

pub here : (x : ℕ) (xs : List ℕ) → lists_number (x ∷ xs) x ≡ true
here x xs = ap (λ t. t || lists_number xs x) (number_self x)

later : (t r : Bool) → r ≡ true → (t || r) ≡ true
later true r e = refl
later false r e = e

pub behind : (x m : ℕ) (xs : List ℕ) → lists_number xs m ≡ true → lists_number (x ∷ xs) m ≡ true
behind x m xs on = later (same_number m x) (lists_number xs m) on

neither : (t r : Bool) → (t || r) ≡ false → (t ≡ false) × (r ≡ false)
neither true r e = absurd (true_false e)
neither false r e = (refl, e)

not_first : (x m : ℕ) (xs : List ℕ) → lists_number (x ∷ xs) m ≡ false → m ≢ x
not_first x m xs off = number_not m x (neither (same_number m x) (lists_number xs m) off).0

not_behind : (x m : ℕ) (xs : List ℕ) → lists_number (x ∷ xs) m ≡ false → lists_number xs m ≡ false
not_behind x m xs off = (neither (same_number m x) (lists_number xs m) off).1

-- ---- what the links of a number on a list are

-- the number before a list is not on it
abbrev Outside : Option ℕ → List ℕ → Type 0
Outside before xs = (m : ℕ) → before ≡ Some m → lists_number xs m ≡ false

outside_first : (x : ℕ) (xs : List ℕ) → lists_number xs x ≡ false → Outside (Some x) xs
outside_first x xs off m e = subst (λ k. lists_number xs k ≡ false) (some_is x m e) off

module _ (links : Links) where
  -- what stands behind a number of the list is on it
  pub next_on : (n m : ℕ) (before at : Option ℕ) (xs : List ℕ) → Strung links before at xs → lists_number xs n ≡ true → links.next n ≡ Some m → lists_number xs m ≡ true
  next_on n m before at [] strung on is = absurd (true_false (sym on))
  next_on n m before at (x ∷ xs) strung on is = by (λ h. next_on n m (Some x) (links.next x) xs strung.2 h is) (same_number n x) refl on
    where
      first : (ys : List ℕ) (o : Option ℕ) → Strung links (Some x) o ys → o ≡ Some m → lists_number ys m ≡ true
      first [] o s e = absurd (none_some m (sym s ∙ e))
      first (y ∷ ys) o s e = subst (λ k. lists_number (y ∷ ys) k ≡ true) (some_is y m (sym s.0 ∙ e)) (here y ys)

      by : (lists_number xs n ≡ true → lists_number xs m ≡ true) → (t : Bool) → same_number n x ≡ t → (t || lists_number xs n) ≡ true → lists_number (x ∷ xs) m ≡ true
      by rest true e h = behind x m xs (first xs (links.next x) strung.2 (ap links.next (sym (number_is n x e)) ∙ is))
      by rest false e h = behind x m xs (rest h)

  -- what stands before a number of the list is on it, or the number is the first
  pub prev_on : (n : ℕ) (before at : Option ℕ) (xs : List ℕ) → Strung links before at xs → lists_number xs n ≡ true
      → (links.prev n ≡ before) ⊎ ((m : ℕ) × (links.prev n ≡ Some m) × (lists_number xs m ≡ true))
  prev_on n before at [] strung on = absurd (true_false (sym on))
  prev_on n before at (x ∷ xs) strung on = by (prev_on n (Some x) (links.next x) xs strung.2) (same_number n x) refl on
    where
      by : (lists_number xs n ≡ true → (links.prev n ≡ Some x) ⊎ ((m : ℕ) × (links.prev n ≡ Some m) × (lists_number xs m ≡ true))) → (t : Bool) → same_number n x ≡ t
          → (t || lists_number xs n) ≡ true → (links.prev n ≡ before) ⊎ ((m : ℕ) × (links.prev n ≡ Some m) × (lists_number (x ∷ xs) m ≡ true))
      by rest true e h = inl (ap links.prev (number_is n x e) ∙ strung.1)
      by rest false e h =
          elim (rest h) [
            | inl first ↦ inr (x, first, here x xs)
            | inr more ↦ inr (more.0, more.1, behind x more.0 xs more.2)
          ]

-- links that are the same at each number of a list lead through it
pub strung_same : (old new : Links) (before at : Option ℕ) (xs : List ℕ) → ((m : ℕ) → lists_number xs m ≡ true → (new.next m ≡ old.next m) × (new.prev m ≡ old.prev m))
    → Strung old before at xs → Strung new before at xs
strung_same old new before at [] same strung = strung
strung_same old new before at (x ∷ xs) same strung =
    let h = same x (here x xs) in (
      strung.0,
      h.1 ∙ strung.1,
      subst (λ o. Strung new (Some x) o xs) (sym h.0) (strung_same old new (Some x) (old.next x) xs (λ m on. same m (behind x m xs on)) strung.2),
    )

pub chain_same : (old new : Links) (first : Option ℕ) (len : ℕ) (xs : List ℕ) → ((m : ℕ) → lists_number xs m ≡ true → (new.next m ≡ old.next m) × (new.prev m ≡ old.prev m))
    → IsChain old first len xs → IsChain new first len xs
chain_same old new first len xs same chain = record { strung = strung_same old new None first xs same chain.strung; once = chain.once; many = chain.many }

-- ---- a number goes

module _ (n : ℕ) (old new : Links) (closes : Closes n old new) where
  -- behind the number that goes
  restarts : (before at : Option ℕ) (xs : List ℕ) → Strung old (Some n) at xs → old.next n ≡ at → old.prev n ≡ before → Once xs → Outside before xs → Strung new before at xs
  restarts before at [] strung next prev once outside = strung
  restarts before at (x ∷ xs) strung next prev once outside =
      let not_before : (m : ℕ) → lists_number (x ∷ xs) m ≡ true → old.prev n ≢ Some m = λ m on e. clash (lists_number (x ∷ xs) m) on (outside m (sym prev ∙ e)) in
      let is_next : old.next n ≡ Some x = next ∙ strung.0 in
      let same : (m : ℕ) → lists_number xs m ≡ true → (new.next m ≡ old.next m) × (new.prev m ≡ old.prev m) =
      λ m on. (
        closes.next_else m (not_before m (behind x m xs on)),
        closes.prev_else m (λ e. clash (lists_number xs m) on (subst (λ k. lists_number xs k ≡ false) (some_is x m (sym is_next ∙ e)) once.0)),
      )
      in (
        strung.0,
        closes.prev_at x is_next ∙ prev,
        subst (λ o. Strung new (Some x) o xs) (sym (closes.next_else x (not_before x (here x xs)))) (strung_same old new (Some x) (old.next x) xs same strung.2),
      )

  goes : (before at at' : Option ℕ) (xs : List ℕ) → Strung old before at xs → Once xs → Outside before xs → lists_number xs n ≡ true
      → (old.prev n ≡ before → at' ≡ old.next n) → (old.prev n ≢ before → at' ≡ at) → Strung new before at' (without n xs)
  goes before at at' [] strung once outside on first other = absurd (true_false (sym on))
  goes before at at' (x ∷ xs) strung once outside on first other =
      by (λ h. goes (Some x) (old.next x) (new.next x) xs strung.2 once.1 (outside_first x xs once.0) h (closes.next_at x) (closes.next_else x)) (same_number n x) refl on
    where
      by : (lists_number xs n ≡ true → Strung new (Some x) (new.next x) (without n xs)) → (t : Bool) → same_number n x ≡ t → (t || lists_number xs n) ≡ true
          → Strung new before at' (cond t xs (x ∷ without n xs))
      by rest true e h =
          let is = number_is n x e in
          let prev : old.prev n ≡ before = ap old.prev is ∙ strung.1 in
          let next : old.next n ≡ old.next x = ap old.next is in
          let behind_it : Strung new before (old.next x) xs =
          restarts before (old.next x) xs (subst (λ k. Strung old (Some k) (old.next x) xs) (sym is) strung.2) next prev once.1 (λ m b. not_behind x m xs (outside m b))
          in
          subst (λ o. Strung new before o xs) (sym (first prev ∙ next)) behind_it
      by rest false e h =
          let apart_from : old.prev n ≢ before =
          λ is. elim (prev_on old n (Some x) (old.next x) xs strung.2 h) [
            | inl some ↦ clash (lists_number (x ∷ xs) x) (here x xs) (outside x (sym is ∙ some))
            | inr more ↦ clash (lists_number (x ∷ xs) more.0) (behind x more.0 xs more.2) (outside more.0 (sym is ∙ more.1))
          ]
          in
          let not_next : old.next n ≢ Some x = λ is. clash (lists_number xs x) (next_on old n x (Some x) (old.next x) xs strung.2 h is) once.0 in (
            other apart_from ∙ strung.0,
            closes.prev_else x not_next ∙ strung.1,
            rest h,
          )

-- what is left has all numbers but the one that goes
pub without_lists : (n m : ℕ) (xs : List ℕ) → Once xs → lists_number (without n xs) m ≡ cond (same_number n m) false (lists_number xs m)
without_lists n m [] once = nothing (same_number n m)
  where
    nothing : (t : Bool) → false ≡ cond t false false
    nothing true = refl
    nothing false = refl
without_lists n m (x ∷ xs) once = by (without_lists n m xs once.1) (same_number n x) refl (same_number n m) refl
  where
    by : lists_number (without n xs) m ≡ cond (same_number n m) false (lists_number xs m) → (t : Bool) → same_number n x ≡ t → (r : Bool) → same_number n m ≡ r
        → lists_number (cond t xs (x ∷ without n xs)) m ≡ cond r false (lists_number (x ∷ xs) m)
    by rest true e true f = subst (λ k. lists_number xs k ≡ false) (sym (number_is n x e) ∙ number_is n m f) once.0
    by rest true e false f = sym (ap (λ t. t || lists_number xs m) (number_apart m x (λ is. number_not n m f (number_is n x e ∙ sym is))))
    by rest false e true f =
        ap (λ t. t || lists_number (without n xs) m) (number_apart m x (λ is. number_not n x e (number_is n m f ∙ is)))
        ∙ rest ∙ ap (λ t. cond t false (lists_number xs m)) f
    by rest false e false f = ap (λ r. same_number m x || r) (rest ∙ ap (λ t. cond t false (lists_number xs m)) f)

cond_false : (t b : Bool) → b ≡ false → cond t false b ≡ false
cond_false true b e = refl
cond_false false b e = e

pub without_once : (n : ℕ) (xs : List ℕ) → Once xs → Once (without n xs)
without_once n [] once = once
without_once n (x ∷ xs) once = by (without_once n xs once.1) (same_number n x)
  where
    by : Once (without n xs) → (t : Bool) → Once (cond t xs (x ∷ without n xs))
    by rest true = once.1
    by rest false = (without_lists n x xs once.1 ∙ cond_false (same_number n x) (lists_number xs x) once.0, rest)

pub without_length : (n : ℕ) (xs : List ℕ) → lists_number xs n ≡ true → length (without n xs) + 1 ≡ length xs
without_length n [] on = absurd (true_false (sym on))
without_length n (x ∷ xs) on = by (without_length n xs) (same_number n x) on
  where
    one : (ys : List ℕ) → length ys + 1 ≡ length (x ∷ ys)
    one ys = omega arith

    more : (ys zs : List ℕ) → length ys + 1 ≡ length zs → length (x ∷ ys) + 1 ≡ length (x ∷ zs)
    more ys zs e = omega (arith, e)

    by : (lists_number xs n ≡ true → length (without n xs) + 1 ≡ length xs) → (t : Bool) → (t || lists_number xs n) ≡ true
        → length (cond t xs (x ∷ without n xs)) + 1 ≡ length (x ∷ xs)
    by rest true h = one xs
    by rest false h = more (without n xs) xs (rest h)

-- a number that is not on the list leaves it as it is
pub without_other : (n : ℕ) (xs : List ℕ) → lists_number xs n ≡ false → without n xs ≡ xs
without_other n [] off = refl
without_other n (x ∷ xs) off =
    let b = neither (same_number n x) (lists_number xs n) off in
    ap (λ t. cond t xs (x ∷ without n xs)) b.0 ∙ ap (λ ys. x ∷ ys) (without_other n xs b.1)

pub takes_off : TakesOff
takes_off n old new first first' len len' numbers chain on closes is_first less =
    record {
      strung = goes n old new closes None first first' numbers chain.strung chain.once (λ m e. absurd (none_some m e)) on is_first.at is_first.otherwise;
      once = without_once n numbers chain.once;
      many = let count = chain.many in let gone = without_length n numbers on in omega (arith, count, gone, less);
    }

pub taken_elsewhere : TakenElsewhere
taken_elsewhere n old new first first' len len' numbers others chain on closes apart chain' =
    chain_same old new first' len' others (λ m other. (
      closes.next_else m (λ e. elim (prev_on old n None first numbers chain.strung on) [
        | inl none ↦ none_some m (sym none ∙ e)
        | inr more ↦ clash (lists_number numbers m) (subst (λ k. lists_number numbers k ≡ true) (some_is more.0 m (sym more.1 ∙ e)) more.2) (apart m other)
      ]),
      closes.prev_else m (λ e. clash (lists_number numbers m) (next_on old n m None first numbers chain.strung on e) (apart m other)),
    )) chain'

-- ---- a number comes

module _ (n : ℕ) (first : Option ℕ) (old new : Links) (opens : Opens n first old new) where
  comes : (xs : List ℕ) → Strung old None first xs → Once xs → lists_number xs n ≡ false → Strung new (Some n) first xs
  comes [] strung once off = strung
  comes (x ∷ xs) strung once off =
      let same : (m : ℕ) → lists_number xs m ≡ true → (new.next m ≡ old.next m) × (new.prev m ≡ old.prev m) =
      λ m on.
      let differs : m ≢ n = λ e. clash (lists_number xs n) (subst (λ k. lists_number xs k ≡ true) e on) (not_behind x n xs off) in (
        opens.next_else m differs,
        opens.prev_else m differs (λ e. clash (lists_number xs m) on (subst (λ k. lists_number xs k ≡ false) (some_is x m (sym strung.0 ∙ e)) once.0)),
      )
      in (
        strung.0,
        opens.prev_at x strung.0,
        subst (λ o. Strung new (Some x) o xs) (sym (opens.next_else x (λ e. not_first x n xs off (sym e)))) (strung_same old new (Some x) (old.next x) xs same strung.2),
      )

pub puts_front : PutsFront
puts_front n old new first len numbers chain off opens =
    record {
      strung = (refl, opens.prev_here, subst (λ o. Strung new (Some n) o numbers) (sym opens.next_here) (comes n first old new opens numbers chain.strung chain.once off));
      once = (off, chain.once);
      many = let count = chain.many in omega (arith, count);
    }

first_on : (links : Links) (m : ℕ) (first : Option ℕ) (xs : List ℕ) → Strung links None first xs → first ≡ Some m → lists_number xs m ≡ true
first_on links m first [] strung e = absurd (none_some m (sym strung ∙ e))
first_on links m first (x ∷ xs) strung e = subst (λ k. lists_number (x ∷ xs) k ≡ true) (some_is x m (sym strung.0 ∙ e)) (here x xs)

pub put_elsewhere : PutElsewhere
put_elsewhere n old new first first' len len' numbers others chain off opens apart chain' =
    chain_same old new first' len' others (λ m other.
    let differs : m ≢ n = λ e. clash (lists_number others n) (subst (λ k. lists_number others k ≡ true) e other) off in (
      opens.next_else m differs,
      opens.prev_else m differs (λ e. clash (lists_number numbers m) (first_on old m first numbers chain.strung e) (apart m other)),
    )) chain'

-- ---- more of a list

outside_none : (xs : List ℕ) → Outside None xs
outside_none xs m e = absurd (none_some m e)

module _ (links : Links) where
  -- no number of a list stands behind itself
  next_apart : (n : ℕ) (before at : Option ℕ) (xs : List ℕ) → Strung links before at xs → Once xs → lists_number xs n ≡ true → links.next n ≢ Some n
  next_apart n before at [] strung once on is = true_false (sym on)
  next_apart n before at (x ∷ xs) strung once on is = by (λ h. next_apart n (Some x) (links.next x) xs strung.2 once.1 h is) (same_number n x) refl on
    where
      first : (ys : List ℕ) (o : Option ℕ) → Strung links (Some x) o ys → o ≡ Some n → lists_number ys n ≡ true
      first [] o s e = absurd (none_some n (sym s ∙ e))
      first (y ∷ ys) o s e = subst (λ k. lists_number (y ∷ ys) k ≡ true) (some_is y n (sym s.0 ∙ e)) (here y ys)

      by : (lists_number xs n ≡ true → ⊥) → (t : Bool) → same_number n x ≡ t → (t || lists_number xs n) ≡ true → ⊥
      by rest true e h =
          clash (lists_number xs n) (first xs (links.next x) strung.2 (ap links.next (sym (number_is n x e)) ∙ is)) (subst (λ k. lists_number xs k ≡ false) (sym (number_is n x e)) once.0)
      by rest false e h = rest h

  -- or before itself
  prev_apart : (n : ℕ) (before at : Option ℕ) (xs : List ℕ) → Strung links before at xs → Once xs → Outside before xs → lists_number xs n ≡ true → links.prev n ≢ Some n
  prev_apart n before at [] strung once outside on is = true_false (sym on)
  prev_apart n before at (x ∷ xs) strung once outside on is =
      by (λ h. prev_apart n (Some x) (links.next x) xs strung.2 once.1 (outside_first x xs once.0) h is) (same_number n x) refl on
    where
      by : (lists_number xs n ≡ true → ⊥) → (t : Bool) → same_number n x ≡ t → (t || lists_number xs n) ≡ true → ⊥
      by rest true e h = clash (lists_number (x ∷ xs) n) (behind_or e) (outside n (sym strung.1 ∙ ap links.prev (sym (number_is n x e)) ∙ is))
        where
          behind_or : same_number n x ≡ true → lists_number (x ∷ xs) n ≡ true
          behind_or f = ap (λ t. t || lists_number xs n) f
      by rest false e h = rest h

  -- links lead through one list only
  strung_one : (before before' at : Option ℕ) (xs ys : List ℕ) → Strung links before at xs → Strung links before' at ys → xs ≡ ys
  strung_one before before' at [] [] s t = refl
  strung_one before before' at [] (y ∷ ys) s t = absurd (none_some y (sym s ∙ t.0))
  strung_one before before' at (x ∷ xs) [] s t = absurd (none_some x (sym t ∙ s.0))
  strung_one before before' at (x ∷ xs) (y ∷ ys) s t =
      let same : x ≡ y = some_is x y (sym s.0 ∙ t.0) in
      let rest : Strung links (Some x) (links.next x) ys = subst (λ k. Strung links (Some k) (links.next k) ys) (sym same) t.2 in
      λ i. same i ∷ strung_one (Some x) (Some x) (links.next x) xs ys s.2 rest i

  -- what stands behind a number of a list is the next one
  next_is : (before at : Option ℕ) (front : List ℕ) (n : ℕ) (rest : List ℕ) → Strung links before at (front ++ n ∷ rest) → links.next n ≡ first_of rest
  next_is before at [] n [] s = s.2
  next_is before at [] n (m ∷ rest) s = s.2.0
  next_is before at (x ∷ front) n rest s = next_is (Some x) (links.next x) front n rest s.2

  module _ (first : Option ℕ) (len : ℕ) (numbers : List ℕ) (chain : IsChain links first len numbers) where
    pub chain_next_on : (n m : ℕ) → lists_number numbers n ≡ true → links.next n ≡ Some m → lists_number numbers m ≡ true
    chain_next_on n m = next_on links n m None first numbers chain.strung

    pub chain_prev_on : (n m : ℕ) → lists_number numbers n ≡ true → links.prev n ≡ Some m → lists_number numbers m ≡ true
    chain_prev_on n m on is =
        elim (prev_on links n None first numbers chain.strung on) [
          | inl none ↦ absurd (none_some m (sym none ∙ is))
          | inr more ↦ subst (λ k. lists_number numbers k ≡ true) (some_is more.0 m (sym more.1 ∙ is)) more.2
        ]

    pub chain_next_apart : (n : ℕ) → lists_number numbers n ≡ true → links.next n ≢ Some n
    chain_next_apart n on = next_apart n None first numbers chain.strung chain.once on

    pub chain_prev_apart : (n : ℕ) → lists_number numbers n ≡ true → links.prev n ≢ Some n
    chain_prev_apart n on = prev_apart n None first numbers chain.strung chain.once (outside_none numbers) on

    pub chain_first_on : (m : ℕ) → first ≡ Some m → lists_number numbers m ≡ true
    chain_first_on m = first_on links m first numbers chain.strung

    pub chain_one : (len' : ℕ) (others : List ℕ) → IsChain links first len' others → numbers ≡ others
    chain_one len' others chain' = strung_one None None first numbers others chain.strung chain'.strung

    pub chain_first : first ≡ first_of numbers
    chain_first = by numbers chain.strung
      where
        by : (xs : List ℕ) → Strung links None first xs → first ≡ first_of xs
        by [] s = s
        by (x ∷ xs) s = s.0

  pub chain_next : (first : Option ℕ) (len : ℕ) (front : List ℕ) (n : ℕ) (rest : List ℕ) → IsChain links first len (front ++ n ∷ rest) → links.next n ≡ first_of rest
  chain_next first len front n rest chain = next_is None first front n rest chain.strung

-- a list without a number of it that stands behind others
pub without_behind : (front : List ℕ) (n : ℕ) (rest : List ℕ) → Once (front ++ n ∷ rest) → without n (front ++ n ∷ rest) ≡ front ++ rest
without_behind [] n rest once = ap (λ t. cond t rest (n ∷ without n rest)) (number_self n)
without_behind (x ∷ front) n rest once =
    ap (λ t. cond t (front ++ n ∷ rest) (x ∷ without n (front ++ n ∷ rest)))
    (number_apart n x (λ e. clash (lists_number (front ++ n ∷ rest) n) (among front) (subst (λ k. lists_number (front ++ n ∷ rest) k ≡ false) (sym e) once.0)))
    ∙ ap (λ ys. x ∷ ys) (without_behind front n rest once.1)
  where
    among : (xs : List ℕ) → lists_number (xs ++ n ∷ rest) n ≡ true
    among [] = here n rest
    among (y ∷ ys) = behind y n (ys ++ n ∷ rest) (among ys)
