-- Lists that are made of others, one element after the other.
use Rattle.std.proofs.Common.{◌≡◌, ◌<◌, ◌≤◌, ◌+◌, ℕ, zero, suc, List, [], ◌∷◌, ◌++◌, map, filter, not, length, take, drop, get_or, Some, refl, sym, ap, subst, ◌∙◌, arith, add-one, drop-cons, append_assoc, append-nil}
use Rattle.std.specs.Prelude.{slice_get}
use Rattle.std.specs.List.{AllZip}
use Rattle.std.proofs.lemmas.Option.{slice_get-get_or}
use Rattle.std.proofs.lemmas.List.{drop_all, map-append}
use Rattle.std.proofs.lemmas.List.Elements.{filter-append}
use Rattle.ur_rows.specs.declared.normal.NormalType.{NormalType}
use Rattle.ur_tree.specs.declared.exp.Param.{Param}
use Rattle.ur_source.specs.Instances.{value_params, IsTarget}
use Rattle.ur_unfold_static.specs.Held.{Held}
use Rattle.ur_unfold_pieces.specs.declared.opening.Key.{Key}
use Rattle.ur_unfold_pieces.specs.Keys.{instance_of}
use Rattle.ur_unfold_pieces.specs.Rooted.{root_key}
use Rattle.ur_unfold_pieces.proofs.Lists.{the_same, numbered_map}

module _ {A B : Type 0} (P : A → B → Type 0) where
  pub zipped_from : (xs : List A) (ys : List B) → ys ≡ [] → AllZip P (take 0 xs) ys
  zipped_from xs ys e = subst (AllZip P (take 0 xs)) (sym e) (by xs)
    where
      by : (xs : List A) → AllZip P (take 0 xs) []
      by [] = tt
      by (x ∷ xs) = tt

  more : (xs : List A) (i : ℕ) (x : A) (ys : List B) (y : B) → i < length xs → x ≡ get_or xs i x → AllZip P (take i xs) ys → P x y → AllZip P (take (suc i) xs) (ys ++ y ∷ [])
  more [] i x ys y h e z p = absurd (omega (arith, h))
  more (a ∷ xs) zero x [] y h e z p = (subst (λ b. P b y) e p, zipped_from xs [] refl)
  more (a ∷ xs) zero x (b ∷ ys) y h e z p = absurd z
  more (a ∷ xs) (suc i) x [] y h e z p = absurd z
  more (a ∷ xs) (suc i) x (b ∷ ys) y h e z p = (z.0, more xs i x ys y (omega (arith, h)) e z.1 p)

  pub zipped_more : (xs : List A) (i : ℕ) (x : A) (ys zs : List B) (y : B) → i < length xs → x ≡ get_or xs i x → AllZip P (take i xs) ys → P x y → zs ≡ ys ++ y ∷ [] → AllZip P (take (i + 1) xs) zs
  zipped_more xs i x ys zs y h e z p k = rw (add-one) (subst (AllZip P (take (suc i) xs)) (sym k) (more xs i x ys y h e z p))

  -- the same, the element being read
  pub zipped_at : (xs : List A) (i : ℕ) (d : A) (ys zs : List B) (y : B) → i < length xs → AllZip P (take i xs) ys → P (get_or xs i d) y → zs ≡ ys ++ y ∷ [] → AllZip P (take (i + 1) xs) zs
  zipped_at xs i d ys zs y h z p k =
      let x = get_or xs i d in
      zipped_more xs i x ys zs y h (the_same x (get_or xs i x) (sym (slice_get-get_or xs i d h) ∙ slice_get-get_or xs i x h)) z p k

  pub zipped_end : (xs all : List A) (i : ℕ) (ys : List B) → xs ≡ all → length xs ≤ i → AllZip P (take i xs) ys → AllZip P all ys
  zipped_end xs all i ys s h z = subst (λ l. AllZip P l ys) s (by xs i ys h z)
    where
      by : (xs : List A) (i : ℕ) (ys : List B) → length xs ≤ i → AllZip P (take i xs) ys → AllZip P xs ys
      by [] zero ys h z = z
      by [] (suc i) ys h z = z
      by (x ∷ xs) zero ys h z = absurd (omega (arith, h))
      by (x ∷ xs) (suc i) [] h z = absurd z
      by (x ∷ xs) (suc i) (y ∷ ys) h z = (z.0, by xs i ys (omega (arith, h)) z.1)

-- ---- value parameters

values_split : (p : Param) (rest : List Param) → value_params (p ∷ rest) ≡ value_params (p ∷ []) ++ value_params rest
values_split p rest =
    ap (map (λ (q : Param). q.of)) (filter-append (λ (q : Param). not q.fixed) (p ∷ []) rest) ∙ map-append (λ (q : Param). q.of) (filter (λ (q : Param). not q.fixed) (p ∷ [])) (filter (λ (q : Param). not q.fixed) rest)

module _ {B : Type 0} (F : NormalType → B) where
  pub params_from : (ps : List Param) (ts : List B) → ts ≡ [] → ts ++ map F (value_params (drop 0 ps)) ≡ map F (value_params ps)
  params_from ps ts e = ap (λ l. l ++ map F (value_params (drop 0 ps))) e ∙ by ps
    where
      by : (ps : List Param) → map F (value_params (drop 0 ps)) ≡ map F (value_params ps)
      by [] = refl
      by (p ∷ ps) = refl

  pub params_more : (ps : List Param) (i : ℕ) (p : Param) (ts us : List B) → i < length ps → p ≡ get_or ps i p → ts ++ map F (value_params (drop i ps)) ≡ map F (value_params ps)
      → us ≡ ts ++ map F (value_params (p ∷ [])) → us ++ map F (value_params (drop (i + 1) ps)) ≡ map F (value_params ps)
  params_more ps i p ts us h e so k =
      let left : drop i ps ≡ p ∷ drop (i + 1) ps = rw (add-one) (drop-cons ps i p h ∙ ap (λ (q : Param). q ∷ drop (suc i) ps) (sym e)) in
      ap (λ l. l ++ map F (value_params (drop (i + 1) ps))) k ∙ append_assoc ts (map F (value_params (p ∷ []))) (map F (value_params (drop (i + 1) ps)))
      ∙ ap (λ l. ts ++ l) (sym (map-append F (value_params (p ∷ [])) (value_params (drop (i + 1) ps))) ∙ sym (ap (map F) (ap value_params left ∙ values_split p (drop (i + 1) ps)))) ∙ so

  pub params_end : (ps all : List Param) (i : ℕ) (ts : List B) → ps ≡ all → length ps ≤ i → ts ++ map F (value_params (drop i ps)) ≡ map F (value_params ps) → ts ≡ map F (value_params all)
  params_end ps all i ts s h so =
      sym (append-nil ts) ∙ ap (λ l. ts ++ map F (value_params l)) (sym (drop_all i ps h)) ∙ so ∙ ap (λ l. map F (value_params l)) s

-- ---- targets

pub target_at : (held : Held) (keys : List Key) (key : Key) (function place : ℕ) → key ≡ root_key function → slice_get keys place ≡ Some key → IsTarget (map (instance_of held) keys) function place
target_at held keys key function place same e = numbered_map (instance_of held) keys place (root_key function) (e ∙ ap Some same)
