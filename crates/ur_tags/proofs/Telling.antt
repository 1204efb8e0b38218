-- Whether routes are those of a program.
use Rattle.std.proofs.Common.{◌≡◌, ◌<◌, ◌≤◌, ◌+◌, ◌==◌, ℕ, ◌⊎◌, inl, inr, Bool, true, false, ◌&&◌, List, [], ◌∷◌, length, take, get_or, bytes_eq, All, AllPairs, IsUtf8, refl, sym, ap₂, subst, ◌∙◌, true≢false, arith}
use Rattle.std.specs.Bool.{Decides}
use Rattle.std.proofs.lemmas.List.{take_all, take_more, length-take, get_or-take, get_or_default}
use Rattle.std.proofs.lemmas.List.Elements.{All-more, All-get_or}
use Rattle.std.proofs.lemmas.List.Quantifiers.{all_pairs_push}
use Rattle.std.proofs.lemmas.Slice.Eq.{bytes_eq-Decides}
use Rattle.std.specs.Str.{is_utf8}
use Rattle.std.proofs.lemmas.Str.{IsUtf8-from_is_utf8, is_utf8-from_IsUtf8}
use Rattle.ur_tags.specs.declared.routes.Route.{Route}
use Rattle.ur_tags.specs.declared.routes.Handlers.{Handlers}
use Rattle.ur_tags.specs.Paths.{is_named}
use Rattle.ur_tags.specs.Routes.{IsNamed, AreApart, AreRoutes}
use Rattle.ur_tags.proofs.LeadBack.{named_apart}

-- ---- tests

pub never : {P : Type 0} → (P → ⊥) → Decides false P
never wrong = ((λ e. absurd (true≢false (sym e))), (λ p. absurd (wrong p)))

pub always : {P : Type 0} → P → Decides true P
always p = ((λ e. p), (λ q. refl))

pub fails : {P : Type 0} (b : Bool) → Decides b P → b ≡ false → P → ⊥
fails b d e p = true≢false (sym (d.1 p) ∙ e)

-- ---- two routes

apart_by : {P Q : Type 0} (x y : Bool) → Decides x P → Decides y Q → (x && y) ≡ false → (P → ⊥) ⊎ (Q → ⊥)
apart_by true y h k e = inr (λ q. true≢false (sym (k.1 q) ∙ e))
apart_by false y h k e = inl (λ p. true≢false (sym (h.1 p)))

apart_where : (r s : Route) → is_named r s.module_name s.function_name ≡ false → AreApart r s
apart_where r s e =
    apart_by (bytes_eq r.module_name s.module_name) (bytes_eq r.function_name s.function_name) (bytes_eq-Decides r.module_name s.module_name)
    (bytes_eq-Decides r.function_name s.function_name) e

-- ---- a route and those before it

module _ (rs : List Route) (i : ℕ) (r s : Route) (m f : List ℕ) (b : Bool) (within : i < length rs) (at : r ≡ get_or rs i r) (em : m ≡ s.module_name) (ef : f ≡ s.function_name)
    (is : b ≡ is_named r m f) where
  same : is_named r s.module_name s.function_name ≡ b
  same = sym (is ∙ ap₂ (is_named r) em ef)

  pub apart_step : b ≡ false → All (λ other. AreApart other s) (take i rs) → All (λ other. AreApart other s) (take (i + 1) rs)
  apart_step e all = All-more (λ other. AreApart other s) rs i r within all (subst (λ x. AreApart x s) at (apart_where r s (same ∙ e)))

  pub apart_not : b ≡ true → All (λ other. AreApart other s) rs → ⊥
  apart_not e all = true≢false (sym (same ∙ e) ∙ named_apart r s (subst (λ x. AreApart x s) (sym at) (All-get_or (λ other. AreApart other s) rs i r within all)))

pub apart_end : (rs : List Route) (i : ℕ) (s : Route) → length rs ≤ i → All (λ other. AreApart other s) (take i rs) → All (λ other. AreApart other s) rs
apart_end rs i s h all = subst (All (λ other. AreApart other s)) (take_all i rs h) all

-- ---- all pairs

pub pairs_step : (rs : List Route) (i : ℕ) (d : Route) (b : Bool) → i < length rs → Decides b (All (λ other. AreApart other (get_or rs i d)) (take i rs)) → b ≡ true
    → AllPairs AreApart (take i rs) → AllPairs AreApart (take (i + 1) rs)
pairs_step rs i d b h told e all =
    subst (AllPairs AreApart) (sym (take_more rs i d h)) (all_pairs_push AreApart (take i rs) (get_or rs i d) all (told.0 e))

pub pairs_not : (rs : List Route) (i : ℕ) (d : Route) (b : Bool) → i < length rs → Decides b (All (λ other. AreApart other (get_or rs i d)) (take i rs)) → b ≡ false
    → AllPairs AreApart rs → ⊥
pairs_not rs i d b h told e all = fails b told e (λ k f lt. there k f (within k lt))
  where
    within : (k : ℕ) → k < length (take i rs) → k < i
    within k lt = omega (arith, length-take i rs, lt)

    there : (k : ℕ) (f : Route) → k < i → AreApart (get_or (take i rs) k f) (get_or rs i d)
    there k f lt =
        subst (λ x. AreApart x (get_or rs i d)) (get_or_default rs k d f (omega (arith, lt, h)) ∙ sym (get_or-take i rs k f lt)) (all k i d lt h)

pub pairs_end : (rs : List Route) (i : ℕ) → length rs ≤ i → AllPairs AreApart (take i rs) → AllPairs AreApart rs
pairs_end rs i h all = subst (AllPairs AreApart) (take_all i rs h) all

-- ---- names

pub named_step : (rs : List Route) (i : ℕ) (r : Route) (b : Bool) → i < length rs → r ≡ get_or rs i r → Decides b (IsNamed r) → b ≡ true → All IsNamed (take i rs) → All IsNamed (take (i + 1) rs)
named_step rs i r b h at told e all = All-more IsNamed rs i r h all (subst IsNamed at (told.0 e))

pub named_not : (rs : List Route) (i : ℕ) (r : Route) (b : Bool) → i < length rs → r ≡ get_or rs i r → Decides b (IsNamed r) → b ≡ false → All IsNamed rs → ⊥
named_not rs i r b h at told e all = fails b told e (subst IsNamed (sym at) (All-get_or IsNamed rs i r h all))

pub named_end : (rs : List Route) (i : ℕ) → length rs ≤ i → All IsNamed (take i rs) → All IsNamed rs
named_end rs i h all = subst (All IsNamed) (take_all i rs h) all

some : (bytes : List ℕ) → (length bytes == 0) ≡ false → 0 < length bytes
some [] e = absurd (true≢false e)
some (b ∷ bytes) e = omega arith

-- a name is not empty, and text
pub name_by : (bytes : List ℕ) (none t : Bool) → none ≡ (length bytes == 0) → none ≡ false → t ≡ is_utf8 bytes → Decides t ((0 < length bytes) × IsUtf8 bytes)
name_by bytes none t is e told = ((λ q. (some bytes (sym is ∙ e), IsUtf8-from_is_utf8 bytes (sym told ∙ q))), (λ h. told ∙ is_utf8-from_IsUtf8 bytes h.1))

-- both names of a route
pub names_by : (r : Route) (a b : Bool) (m f : List ℕ) → m ≡ r.module_name → f ≡ r.function_name → Decides a ((0 < length m) × IsUtf8 m) → a ≡ true → Decides b ((0 < length f) × IsUtf8 f)
    → Decides b (IsNamed r)
names_by r a b m f em ef h e k =
    ((λ q. let x = named em (h.0 e) in let y = named ef (k.0 q) in (x.0, x.1, y.0, y.1)), (λ n. k.1 (named (sym ef) (n.2, n.3))))
  where
    named : {x y : List ℕ} → x ≡ y → (0 < length x) × IsUtf8 x → (0 < length y) × IsUtf8 y
    named same n = subst (λ z. (0 < length z) × IsUtf8 z) same n

pub no_names : (r : Route) (a : Bool) (m : List ℕ) → m ≡ r.module_name → Decides a ((0 < length m) × IsUtf8 m) → a ≡ false → Decides false (IsNamed r)
no_names r a m em h e = never (λ n. fails a h e (subst (λ z. (0 < length z) × IsUtf8 z) (sym em) (n.0, n.1)))

-- ---- the routes

pub routes_by : (handlers : Handlers) (rs : List Route) (a b : Bool) → rs ≡ handlers.routes → length rs ≤ 4294967295 → Decides a (All IsNamed rs) → a ≡ true → Decides b (AllPairs AreApart rs)
    → Decides b (AreRoutes handlers)
routes_by handlers rs a b same few h e k = (
  (λ q. record {
    few = subst (λ (x : List Route). length x < 4294967296) same (omega (arith, few));
    named = subst (All IsNamed) same (h.0 e);
    apart = subst (AllPairs AreApart) same (k.0 q);
  }),
  (λ are. k.1 (subst (AllPairs AreApart) (sym same) are.apart)),
)

pub not_named : (handlers : Handlers) (rs : List Route) (a : Bool) → rs ≡ handlers.routes → Decides a (All IsNamed rs) → a ≡ false → Decides false (AreRoutes handlers)
not_named handlers rs a same h e = never (λ are. fails a h e (subst (All IsNamed) (sym same) are.named))

pub too_many : (handlers : Handlers) (rs : List Route) → rs ≡ handlers.routes → 4294967295 < length rs → Decides false (AreRoutes handlers)
too_many handlers rs same h = never (λ are. absurd (omega (arith, h, subst (λ (x : List Route). length x < 4294967296) (sym same) are.few)))
