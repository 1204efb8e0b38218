-- Keys with the place behind the last of each: what a new key and a cut change.
use Rattle.std.proofs.Common.{◌≡◌, refl, ap, ap₂, sym, ◌∙◌, subst, ℕ, suc, ◌-◌, ◌<◌, Bool, true, false, cond, List, [], ◌∷◌, ◌++◌, length, take, drop, nat_lt, Option, Some, None, unwrap_or, arith}
use Rattle.std.specs.Prelude.{IsSome}
use Rattle.std.specs.List.{list_any}
use Rattle.std.specs.BTreeMap.{BTreeMap, get, is_at, IsUnchanged}
use Rattle.std.specs.Map.{lookup}
use Rattle.std.specs.Ordering.{eq_by_cmp}
use Rattle.std.specs.Cmp.{IsEquivalence}
use Rattle.std.proofs.lemmas.Cmp.{eq_by_cmp_equiv}
use Rattle.std.proofs.Math.Seq.{take-append_seam}
use Rattle.std.proofs.lemmas.List.{append_assoc, append-nil, length-append, length-map, map-append, take-take}
use Rattle.ur_names.specs.declared.keys.Key.{Key}
use Rattle.ur_names.specs.declared.keys.Entry.{Entry}
use Rattle.ur_names.specs.declared.spots.Spot.{Spot}
use Rattle.ur_names.specs.contracts.spots.SpotOrd.TheImpl.Laws as laws
use Rattle.ur_names.specs.Indexed.{spot_cmp, spot_of, same_spot, keys_of, reach, AreBacked, IsIndexed}
use Rattle.ur_names.proofs.Reaching.{reach_more, reach_alike, any_there, any_behind}

same_laws : IsEquivalence (eq_by_cmp spot_cmp)
same_laws = eq_by_cmp_equiv laws.total-law

abbrev pub made : Key → ℕ → Entry
made k b = record { key = k; before = b }

keys_more : (es : List Entry) (e : Entry) → keys_of (es ++ e ∷ []) ≡ keys_of es ++ e.key ∷ []
keys_more es e = map-append (λ e. e.key) es (e ∷ [])

long_more : (es : List Entry) (e : Entry) → length (es ++ e ∷ []) ≡ suc (length (keys_of es))
long_more es e = omega (arith, length-append es (e ∷ []), length-map es (λ e. e.key))

backed_more : (ks : List Key) (es : List Entry) (e : Entry) → AreBacked ks es → e.before ≡ reach (same_spot (spot_of e.key)) (ks ++ keys_of es) → AreBacked ks (es ++ e ∷ [])
backed_more ks [] e b h = (h ∙ ap (reach (same_spot (spot_of e.key))) (append-nil ks), tt)
backed_more ks (x ∷ es) e b h = (b.0, backed_more (ks ++ x.key ∷ []) es e b.1 (h ∙ ap (reach (same_spot (spot_of e.key))) (sym (append_assoc ks (x.key ∷ []) (keys_of es)))))

backed_last : (ks : List Key) (es : List Entry) (e : Entry) → AreBacked ks (es ++ e ∷ []) → AreBacked ks es × (e.before ≡ reach (same_spot (spot_of e.key)) (ks ++ keys_of es))
backed_last ks [] e b = (tt, b.0 ∙ ap (reach (same_spot (spot_of e.key))) (sym (append-nil ks)))
backed_last ks (x ∷ es) e b =
    let rest = backed_last (ks ++ x.key ∷ []) es e b.1 in
    ((b.0, rest.0), rest.1 ∙ ap (reach (same_spot (spot_of e.key))) (append_assoc ks (x.key ∷ []) (keys_of es)))

-- no entries, and a map whose entries stay
pub none_there : (m : BTreeMap Spot ℕ) → m.entries ≡ [] → IsIndexed [] m
none_there m n = record {
  backed = tt;
  ends_there = λ s. ap (λ ps. unwrap_or (lookup (is_at (spot_cmp s)) ps) 0) n;
}

same_map : (es : List Entry) (m w : BTreeMap Spot ℕ) → IsIndexed es m → IsUnchanged m w → IsIndexed es w
same_map es m w i h = record {
  backed = i.backed;
  ends_there = λ s. ap (λ ps. unwrap_or (lookup (is_at (spot_cmp s)) ps) 0) h ∙ i.ends_there s;
}

-- look-ups
pub there : (es : List Entry) (m : BTreeMap Spot ℕ) (s : Spot) (n : ℕ) → IsIndexed es m → n ≡ unwrap_or (get spot_cmp m s) 0 → nat_lt 0 n ≡ list_any (same_spot s) (keys_of es)
there es m s n i h = ap (nat_lt 0) (h ∙ i.ends_there s) ∙ sym (any_there (same_spot s) (keys_of es))

pub behind_there : (es : List Entry) (m : BTreeMap Spot ℕ) (s : Spot) (n from : ℕ) → IsIndexed es m → n ≡ unwrap_or (get spot_cmp m s) 0 → nat_lt from n ≡ list_any (same_spot s) (drop from (keys_of es))
behind_there es m s n from i h = ap (nat_lt from) (h ∙ i.ends_there s) ∙ sym (any_behind (same_spot s) (keys_of es) from)

-- the reach of a key, where another is put behind
reach_behind : (es : List Entry) (e : Entry) (q : Spot) → reach (same_spot q) (keys_of (es ++ e ∷ [])) ≡ cond (eq_by_cmp spot_cmp (spot_of e.key) q) (length (es ++ e ∷ [])) (reach (same_spot q) (keys_of es))
reach_behind es e q = ap (reach (same_spot q)) (keys_more es e) ∙ (reach_more (same_spot q) (keys_of es) e.key ∙
    ap₂ (λ b n. cond b n (reach (same_spot q) (keys_of es))) (same_laws.symm q (spot_of e.key)) (sym (long_more es e)))

chosen : (b : Bool) (n : ℕ) (o : Option ℕ) → unwrap_or (cond b (Some n) o) 0 ≡ cond b n (unwrap_or o 0)
chosen true n o = refl
chosen false n o = refl

-- a key behind the others
pushed_at : (es new : List Entry) (m w : BTreeMap Spot ℕ) (k : Key) (b : ℕ) → IsIndexed es m → b ≡ reach (same_spot (spot_of k)) (keys_of es) → new ≡ es ++ made k b ∷ [] →
    ((q : Spot) → get spot_cmp w q ≡ cond (eq_by_cmp spot_cmp (spot_of k) q) (Some (length new)) (get spot_cmp m q)) → IsIndexed new w
pushed_at es new m w k b i h e u = record {
  backed = subst (AreBacked []) (sym e) (backed_more [] es (made k b) i.backed h);
  ends_there = λ q. ap (λ o. unwrap_or o 0) (u q) ∙ (chosen (eq_by_cmp spot_cmp (spot_of k) q) (length new) (get spot_cmp m q) ∙
      (ap₂ (λ n r. cond (eq_by_cmp spot_cmp (spot_of k) q) n r) (ap length e) (i.ends_there q) ∙ (sym (reach_behind es (made k b) q) ∙ ap (λ es. reach (same_spot q) (keys_of es)) (sym e))));
}

pub pushed : (es new : List Entry) (m w : BTreeMap Spot ℕ) (k : Key) (s : Spot) (b n : ℕ) → IsIndexed es m → s ≡ spot_of k → b ≡ unwrap_or (get spot_cmp m s) 0 → new ≡ es ++ made k b ∷ [] → n ≡ length new →
    ((q : Spot) → get spot_cmp w q ≡ cond (is_at (spot_cmp s) q) (Some n) (get spot_cmp m q)) → IsIndexed new w
pushed es new m w k s b n i e h g l u = pushed_at es new m w k b i (h ∙ (i.ends_there s ∙ ap (λ s. reach (same_spot s) (keys_of es)) e)) g
    (λ q. u q ∙ ap₂ (λ s n. cond (eq_by_cmp spot_cmp s q) (Some n) (get spot_cmp m q)) e l)

pub keys_pushed : (es new : List Entry) (k : Key) (b : ℕ) → new ≡ es ++ made k b ∷ [] → keys_of new ≡ keys_of es ++ k ∷ []
keys_pushed es new k b h = ap keys_of h ∙ keys_more es (made k b)

-- ---- taking the last away

front : {A : Type 0} (xs : List A) (x : A) → take (length (xs ++ x ∷ []) - 1) (xs ++ x ∷ []) ≡ xs
front xs x = ap (λ n. take n (xs ++ x ∷ [])) fewer ∙ take-append_seam xs (x ∷ []) where
  fewer : length (xs ++ x ∷ []) - 1 ≡ length xs
  fewer = omega (arith, length-append xs (x ∷ []))

back : (b : Bool) (x y n r : ℕ) → (b ≡ true → x ≡ r) → (y ≡ cond b n r) → cond b x y ≡ r
back true x y n r h g = h refl
back false x y n r h g = g

popped_at : (es new : List Entry) (m w : BTreeMap Spot ℕ) (e : Entry) → IsIndexed es m → es ≡ new ++ e ∷ [] →
    ((q : Spot) → get spot_cmp w q ≡ cond (eq_by_cmp spot_cmp (spot_of e.key) q) (Some e.before) (get spot_cmp m q)) → IsIndexed new w
popped_at es new m w e i h u =
    let last = backed_last [] new e (subst (AreBacked []) h i.backed) in
    record {
      backed = last.0;
      ends_there = λ q. ap (λ o. unwrap_or o 0) (u q) ∙ (chosen (eq_by_cmp spot_cmp (spot_of e.key) q) e.before (get spot_cmp m q) ∙
          back (eq_by_cmp spot_cmp (spot_of e.key) q) e.before (unwrap_or (get spot_cmp m q) 0) (length (new ++ e ∷ [])) (reach (same_spot q) (keys_of new))
          (λ s. last.1 ∙ reach_alike (same_spot (spot_of e.key)) (same_spot q) (keys_of new) (λ x. same_laws.congr (spot_of e.key) q (spot_of x) s))
          (i.ends_there q ∙ (ap (λ es. reach (same_spot q) (keys_of es)) h ∙ reach_behind new e q)));
    }

pub popped : (es new : List Entry) (m w : BTreeMap Spot ℕ) (e : Entry) (s : Spot) (b : ℕ) → IsIndexed es m → es ≡ new ++ e ∷ [] → s ≡ spot_of e.key → b ≡ e.before →
    ((q : Spot) → get spot_cmp w q ≡ cond (is_at (spot_cmp s) q) (Some b) (get spot_cmp m q)) → IsIndexed new w
popped es new m w e s b i h g l u = popped_at es new m w e i h (λ q. u q ∙ ap₂ (λ s b. cond (eq_by_cmp spot_cmp s q) (Some b) (get spot_cmp m q)) g l)

-- the last key is in the map
some_there : (o : Option ℕ) (n : ℕ) → unwrap_or o 0 ≡ suc n → IsSome o
some_there (Some x) n h = refl
some_there None n h = absurd (never n h) where
  never : (n : ℕ) → 0 ≡ suc n → ⊥
  never n h = omega arith

pub last_there : (es new : List Entry) (m : BTreeMap Spot ℕ) (e : Entry) (s : Spot) → IsIndexed es m → es ≡ new ++ e ∷ [] → s ≡ spot_of e.key → IsSome (get spot_cmp m s)
last_there es new m e s i h g = some_there (get spot_cmp m s) (length (keys_of new)) (i.ends_there s ∙ (ap (λ s. reach (same_spot s) (keys_of es)) g ∙
    (ap (λ es. reach (same_spot (spot_of e.key)) (keys_of es)) h ∙ (reach_behind new e (spot_of e.key) ∙
    (ap (λ b. cond b (length (new ++ e ∷ [])) (reach (same_spot (spot_of e.key)) (keys_of new))) (same_laws.refl (spot_of e.key)) ∙ long_more new e)))))

pub one_less : (es new : List Entry) (e : Entry) → es ≡ new ++ e ∷ [] → keys_of new ≡ take (length (keys_of es) - 1) (keys_of es)
one_less es new e h = sym (ap (λ es. take (length (keys_of es) - 1) (keys_of es)) h ∙ (ap (λ ks. take (length ks - 1) ks) (keys_more new e) ∙ front (keys_of new) e.key))

pub none_less : (es new : List Entry) → es ≡ [] → new ≡ [] → keys_of new ≡ take (length (keys_of es) - 1) (keys_of es)
none_less es new h g = ap keys_of g ∙ sym (ap (λ es. take (length (keys_of es) - 1) (keys_of es)) h)

-- an entry that is taken back
pub one_back : (es new : List Entry) (e : Entry) → es ≡ new ++ e ∷ [] → new ≡ take (length es - 1) es
one_back es new e h = sym (ap (λ es. take (length es - 1) es) h ∙ front new e)

pub none_back : (es new : List Entry) → es ≡ [] → new ≡ [] → new ≡ take (length es - 1) es
none_back es new h g = g ∙ sym (ap (λ es. take (length es - 1) es) h)

pub restored : (es one new : List Entry) (m w : BTreeMap Spot ℕ) (e : Entry) → IsIndexed es m → IsUnchanged m w → one ≡ es ++ e ∷ [] → new ≡ take (length one - 1) one → IsIndexed new w
restored es one new m w e i u h t = subst (λ es. IsIndexed es w) (sym (t ∙ (ap (λ es. take (length es - 1) es) h ∙ front es e))) (same_map es m w i u)

-- ---- a cut

pub cut_step : (n : ℕ) (old new : List Key) → new ≡ take (length old - 1) old → n < length old → take n new ≡ take n old
cut_step n old new e h = ap (take n) e ∙ take-take n (length old - 1) old (omega arith)
