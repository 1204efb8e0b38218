-- The nodes of a function's type at constructor arguments.
use Rattle.std.proofs.Common.{◌≡◌, arith, refl, ap, sym, ◌∙◌, subst, ℕ, ◌+◌, ◌<◌, ◌≤◌, zero, suc, nat_le, Bool, true, false, List, [], ◌∷◌, ◌++◌, map, length, get_or, take, take_all, Option, Some, None, Err}
use Rattle.std.specs.Prelude.{◌-◌, SomeIff, MatchOption, is_some}
use Rattle.std.proofs.lemmas.Bool.{leb-true, leb-false, le-leb, lt-leb}
use Rattle.std.proofs.lemmas.List.{take_more}
use Rattle.ur_base.specs.Stopping.{IfRefused}
use Rattle.ur_base.specs.declared.refusal.Stop.{Stop}
use Rattle.ur_base.specs.declared.refusal.Stop.TheVariants as stop
use Rattle.ur_rows.specs.declared.normal.Normal.{Normal}
use Rattle.ur_rows.specs.declared.normal.NormalType.{NormalType}
use Rattle.ur_rows.specs.Nodes.{type_nodes, most_nodes}
use Rattle.ur_rows.specs.Put.{instance_type}
use Rattle.ur_rows.specs.Types.{arrows_of}
use Rattle.ur_tree.specs.declared.exp.Param.{Param}
use Rattle.ur_typed_rules.specs.Faults.{too_large}
use Rattle.ur_check_scopes.specs.Views.{IsLarge, StopIs}
use Rattle.ur_check_scopes.specs.Arguments.{arrow_nodes, types_at, IsLeft}

-- the nodes of a function's type with these parameters and this result
abbrev whole_nodes : List Normal → List Param → NormalType → ℕ
whole_nodes args params t = arrow_nodes (types_at args params) + type_nodes (instance_type args t)

none-more : (n : ℕ) → n + 0 ≡ 0 + n
none-more n = omega arith

sum-end : (a b c d : ℕ) → b ≡ c + d → a + b ≡ a + c + d
sum-end a b c d h = omega arith

sum-whole : (x y a t : ℕ) → y ≡ a + t → x + y + 1 ≡ suc x + a + t
sum-whole x y a t h = omega arith

nothing-more : (t : ℕ) → t ≡ 0 + t
nothing-more t = omega arith

pub nodes-end : (ts : List NormalType) (t : NormalType) → arrow_nodes (ts ++ t ∷ []) ≡ arrow_nodes ts + suc (type_nodes t)
nodes-end [] t = none-more (suc (type_nodes t))
nodes-end (u ∷ ts) t = sum-end (suc (type_nodes u)) (arrow_nodes (ts ++ t ∷ [])) (arrow_nodes ts) (suc (type_nodes t)) (nodes-end ts t)

pub nodes-whole : (args : List Normal) (ps : List Param) (t : NormalType) → type_nodes (instance_type args (arrows_of (map (λ p. p.of) ps) t)) ≡ whole_nodes args ps t
nodes-whole args [] t = nothing-more (type_nodes (instance_type args t))
nodes-whole args (p ∷ ps) t = sum-whole (type_nodes (instance_type args p.of)) (type_nodes (instance_type args (arrows_of (map (λ p. p.of) ps) t))) (arrow_nodes (types_at args ps)) (type_nodes (instance_type args t)) (nodes-whole args ps t)

at-end : (args : List Normal) (ps qs : List Param) → types_at args (ps ++ qs) ≡ types_at args ps ++ types_at args qs
at-end args [] qs = refl
at-end args (p ∷ ps) qs = ap (λ z. instance_type args p.of ∷ z) (at-end args ps qs)

-- the types of one parameter more
pub types-more : (args : List Normal) (ps : List Param) (i : ℕ) (p : Param) → i < length ps → p ≡ get_or ps i p → types_at args (take (i + 1) ps) ≡ types_at args (take i ps) ++ instance_type args p.of ∷ []
types-more args ps i p h e = ap (types_at args) (take_more ps i p h ∙ ap (λ z. take i ps ++ z ∷ []) (sym e)) ∙ at-end args (take i ps) (p ∷ [])

pub nodes-more : (args : List Normal) (ps : List Param) (i : ℕ) (p : Param) → i < length ps → p ≡ get_or ps i p →
    arrow_nodes (types_at args (take (i + 1) ps)) ≡ arrow_nodes (types_at args (take i ps)) + suc (type_nodes (instance_type args p.of))
nodes-more args ps i p h e = ap arrow_nodes (types-more args ps i p h e) ∙ nodes-end (types_at args (take i ps)) (instance_type args p.of)

-- one of the types has fewer nodes than all of them with their arrows
pub nodes-of-one : (args : List Normal) (ps : List Param) (i : ℕ) (p : Param) → i < length ps → p ≡ get_or ps i p → type_nodes (instance_type args p.of) < arrow_nodes (types_at args ps)
nodes-of-one args [] i p h e = absurd (never i h)
  where
    never : (i : ℕ) → i < 0 → ⊥
    never i h = omega arith
nodes-of-one args (q ∷ ps) zero p h e = first-less (type_nodes (instance_type args p.of)) (type_nodes (instance_type args q.of)) (arrow_nodes (types_at args ps)) (ap (λ (z : Param). type_nodes (instance_type args z.of)) e)
  where
    first-less : (m n k : ℕ) → m ≡ n → m < suc n + k
    first-less m n k h = omega arith
nodes-of-one args (q ∷ ps) (suc i) p h e = further-less (type_nodes (instance_type args p.of)) (type_nodes (instance_type args q.of)) (arrow_nodes (types_at args ps)) (nodes-of-one args ps i p (within i (length ps) h) e)
  where
    further-less : (m n k : ℕ) → m < k → m < suc n + k
    further-less m n k h = omega arith

    within : (i n : ℕ) → suc i < suc n → i < n
    within i n h = omega arith

-- ---- the whole type against the limit

left-large : (m a b : ℕ) → m < a → m < a + b
left-large m a b h = omega arith

right-large : (m a b : ℕ) → m < b → m < a + b
right-large m a b h = omega arith

-- the type of a function with these parameters and this result
abbrev pub whole_type : List Param → NormalType → NormalType
whole_type ps t = arrows_of (map (λ p. p.of) ps) t

pub whole-small : (args : List Normal) (ps : List Param) (t u : NormalType) → u ≡ instance_type args t → nat_le (arrow_nodes (types_at args ps) + type_nodes u) most_nodes ≡ true → type_nodes (instance_type args (whole_type ps t)) ≤ most_nodes
whole-small args ps t u e h =
    leb-true (type_nodes (instance_type args (whole_type ps t))) most_nodes
    (ap (λ z. nat_le z most_nodes) (nodes-whole args ps t) ∙ ap (λ z. nat_le (arrow_nodes (types_at args ps) + type_nodes z) most_nodes) (sym e) ∙ h)

pub whole-large : (args : List Normal) (ps : List Param) (t u : NormalType) → u ≡ instance_type args t → nat_le (arrow_nodes (types_at args ps) + type_nodes u) most_nodes ≡ false → most_nodes < type_nodes (instance_type args (whole_type ps t))
whole-large args ps t u e h =
    leb-false (type_nodes (instance_type args (whole_type ps t))) most_nodes
    (ap (λ z. nat_le z most_nodes) (nodes-whole args ps t) ∙ ap (λ z. nat_le (arrow_nodes (types_at args ps) + type_nodes z) most_nodes) (sym e) ∙ h)

-- the parameters alone are too large
pub params-large : (args : List Normal) (ps : List Param) (t : NormalType) → most_nodes < arrow_nodes (types_at args ps) → most_nodes < type_nodes (instance_type args (whole_type ps t))
params-large args ps t h =
    subst (λ z. most_nodes < z) (sym (nodes-whole args ps t)) (left-large most_nodes (arrow_nodes (types_at args ps)) (type_nodes (instance_type args t)) h)

-- the result alone is
pub result-large : (args : List Normal) (ps : List Param) (t : NormalType) → most_nodes < type_nodes (instance_type args t) → most_nodes < type_nodes (instance_type args (whole_type ps t))
result-large args ps t h =
    subst (λ z. most_nodes < z) (sym (nodes-whole args ps t)) (right-large most_nodes (arrow_nodes (types_at args ps)) (type_nodes (instance_type args t)) h)

-- ---- what is left of the most

pub left-none : (used n k : ℕ) → n + used ≡ most_nodes → n < k → most_nodes < used + suc k
left-none used n k e h = none-is-left used n most_nodes k e h
  where
    none-is-left : (used n m k : ℕ) → n + used ≡ m → n < k → m < used + suc k
    none-is-left used n m k e h = omega arith

pub left-more : (used k : ℕ) → most_nodes < used → most_nodes < used + suc k
left-more used k h = left-large most_nodes used (suc k) h

-- one node less is left
pub left-after : (used n k m : ℕ) (o : Option ℕ) → n + used ≡ most_nodes → m + k ≡ n → SomeIff o (1 ≤ m) (m - 1) → IsLeft (used + suc k) o
left-after used n k zero None e f h = nothing used n most_nodes k e f
  where
    nothing : (used n m k : ℕ) → n + used ≡ m → 0 + k ≡ n → m < used + suc k
    nothing used n m k e f = omega arith
left-after used n k (suc m) None e f h = absurd (h (one-at-least m))
  where
    one-at-least : (m : ℕ) → 1 ≤ suc m
    one-at-least m = omega arith
left-after used n k m (Some x) e f h = rest used n most_nodes k m x e f h.0 h.1
  where
    rest : (used n most k m x : ℕ) → n + used ≡ most → m + k ≡ n → 1 ≤ m → x ≡ m - 1 → x + (used + suc k) ≡ most
    rest used n most k m x e f g h = omega arith

pub fits-none : (used k : ℕ) → most_nodes < used → false ≡ nat_le (used + k) most_nodes
fits-none used k h = sym (lt-leb (used + k) most_nodes (left-large most_nodes used k h))

pub fits-some : (used n k : ℕ) (o : Option ℕ) (b : Bool) → n + used ≡ most_nodes → MatchOption o (n < k) (λ l. l + k ≡ n) → b ≡ is_some o → b ≡ nat_le (used + k) most_nodes
fits-some used n k None b e h g = g ∙ sym (lt-leb (used + k) most_nodes (over used n most_nodes k e h))
  where
    over : (used n m k : ℕ) → n + used ≡ m → n < k → m < used + k
    over used n m k e h = omega arith
fits-some used n k (Some l) b e h g = g ∙ sym (le-leb (used + k) most_nodes (within used n most_nodes k l e h))
  where
    within : (used n m k l : ℕ) → n + used ≡ m → l + k ≡ n → used + k ≤ m
    within used n m k l e h = omega arith

-- ---- the loop over parameters

-- what is said of the element in the list is said of the element
pub at-element : (args : List Normal) (ps : List Param) (i : ℕ) (p : Param) (t : NormalType) → p ≡ get_or ps i p → t ≡ instance_type args (get_or ps i p).of → t ≡ instance_type args p.of
at-element args ps i p t e h = h ∙ ap (λ (z : Param). instance_type args z.of) (sym e)

pub large-at-element : (args : List Normal) (ps : List Param) (i : ℕ) (p : Param) → p ≡ get_or ps i p → most_nodes < type_nodes (instance_type args (get_or ps i p).of) → most_nodes < type_nodes (instance_type args p.of)
large-at-element args ps i p e h = subst (λ (z : Param). most_nodes < type_nodes (instance_type args z.of)) (sym e) h

pub types-step : (args : List Normal) (ps : List Param) (i : ℕ) (p : Param) (t : NormalType) (ts : List NormalType) → i < length ps → p ≡ get_or ps i p → t ≡ instance_type args p.of → ts ≡ types_at args (take i ps) → ts ++ t ∷ [] ≡ types_at args (take (i + 1) ps)
types-step args ps i p t ts h e f g = ap (λ z. z ++ t ∷ []) g ∙ ap (λ z. types_at args (take i ps) ++ z ∷ []) f ∙ sym (types-more args ps i p h e)

pub left-step : (args : List Normal) (ps : List Param) (i : ℕ) (p : Param) (t : NormalType) (left : Option ℕ) → i < length ps → p ≡ get_or ps i p → t ≡ instance_type args p.of →
    IsLeft (arrow_nodes (types_at args (take i ps)) + suc (type_nodes t)) left → IsLeft (arrow_nodes (types_at args (take (i + 1) ps))) left
left-step args ps i p t left h e f l =
    subst (λ z. IsLeft z left) (ap (λ z. arrow_nodes (types_at args (take i ps)) + suc (type_nodes z)) f ∙ sym (nodes-more args ps i p h e)) l

pub one-large : (args : List Normal) (ps : List Param) (i : ℕ) (p : Param) → i < length ps → p ≡ get_or ps i p → most_nodes < type_nodes (instance_type args p.of) → most_nodes < arrow_nodes (types_at args ps)
one-large args ps i p h e l = further-still most_nodes (type_nodes (instance_type args p.of)) (arrow_nodes (types_at args ps)) l (nodes-of-one args ps i p h e)
  where
    further-still : (m n k : ℕ) → m < n → n < k → m < k
    further-still m n k a b = omega arith

pub types-end : (args : List Normal) (ps : List Param) (i : ℕ) (ts : List NormalType) → length ps ≤ i → ts ≡ types_at args (take i ps) → ts ≡ types_at args ps
types-end args ps i ts h e = e ∙ ap (types_at args) (take_all i ps h)

pub left-end : (args : List Normal) (ps : List Param) (i : ℕ) (left : Option ℕ) → length ps ≤ i → IsLeft (arrow_nodes (types_at args (take i ps))) left → IsLeft (arrow_nodes (types_at args ps)) left
left-end args ps i left h l = subst (λ z. IsLeft (arrow_nodes (types_at args z)) left) (take_all i ps h) l

-- ---- what is refused

pub refused-large : (s : Stop) (P : Type 0) → StopIs [] too_large s → P → IfRefused {A = Unit {0}} (Err s) (λ r. IsLarge r × P)
refused-large (stop.Refused r) P t p = (t, p)
refused-large stop.Memory P t p = tt
