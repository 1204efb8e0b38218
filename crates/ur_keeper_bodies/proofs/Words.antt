-- The words of a line, and the lines of a text.
use Rattle.std.proofs.Common.{◌≡◌, ◌≢◌, ℕ, Bool, true, false, ◌==◌, ◌||◌, List, [], ◌∷◌, ◌++◌, All, refl, ap, sym, ◌∙◌, arith}
use Rattle.std.specs.Prelude.{flat_map, if◌then◌else◌}
use Rattle.std.specs.List.{list_any}
use Rattle.std.specs.Str.{bytes_eq}
use Rattle.std.proofs.lemmas.Bool.Decides.{nat_tests}
use Rattle.std.proofs.lemmas.List.{append-nil}
use Rattle.std.proofs.lemmas.List.Folds.{list_any-append}
use Rattle.std.proofs.lemmas.List.Elements.{All-head, All-tail}
use Rattle.std.proofs.lemmas.Slice.Eq.{bytes_eq-Decides}
use Rattle.ur_values.specs.Named.{Lacks}
use Rattle.ur_keeper_bodies.specs.Pieces.{grown, pieces}

pub neither : (a b : Bool) → (a || b) ≡ false → (a ≡ false) × (b ≡ false)
neither true b e = cc
neither false b e = (refl, e)

pub grouped : {A : Type 0} (xs ys zs : List A) → (xs ++ ys) ++ zs ≡ xs ++ (ys ++ zs)
grouped [] ys zs = refl
grouped (x ∷ xs) ys zs = ap (λ l. x ∷ l) (grouped xs ys zs)

pub snoc : {A : Type 0} (xs : List A) (y : A) (ys : List A) → (xs ++ y ∷ []) ++ ys ≡ xs ++ y ∷ ys
snoc xs y ys = grouped xs (y ∷ []) ys

pub lacks-append : (mark : ℕ) (xs ys : List ℕ) → Lacks mark xs → Lacks mark ys → Lacks mark (xs ++ ys)
lacks-append mark xs ys h k = list_any-append (λ b. b == mark) xs ys ∙ ap (λ b. b || list_any (λ b. b == mark) ys) h ∙ k

pub one-piece : (mark : ℕ) (w : List ℕ) → Lacks mark w → pieces mark w ≡ w ∷ []
one-piece mark [] h = refl
one-piece mark (b ∷ w) h =
    let p = neither (b == mark) (list_any (λ b. b == mark) w) h in
    ap (λ t. if t then [] ∷ pieces mark w else grown (b ∷ []) (pieces mark w)) p.0 ∙ ap (grown (b ∷ [])) (one-piece mark w p.1)

same : (mark : ℕ) → (mark == mark) ≡ true
same mark = grind (arith, nat_tests)

pub piece-ends : (mark : ℕ) (w rest : List ℕ) → Lacks mark w → pieces mark (w ++ mark ∷ rest) ≡ w ∷ pieces mark rest
piece-ends mark [] rest h = ap (λ t. if t then [] ∷ pieces mark rest else grown (mark ∷ []) (pieces mark rest)) (same mark)
piece-ends mark (b ∷ w) rest h =
    let p = neither (b == mark) (list_any (λ b. b == mark) w) h in
    ap (λ t. if t then [] ∷ pieces mark (w ++ mark ∷ rest) else grown (b ∷ []) (pieces mark (w ++ mark ∷ rest))) p.0 ∙ ap (grown (b ∷ [])) (piece-ends mark w rest p.1)

-- words with a blank before each
abbrev pub blanks : List (List ℕ) → List ℕ
blanks = flat_map (λ w. 32 ∷ w)

pub blanks-append : (us vs : List (List ℕ)) → blanks (us ++ vs) ≡ blanks us ++ blanks vs
blanks-append [] vs = refl
blanks-append (u ∷ us) vs = ap (λ l. 32 ∷ u ++ l) (blanks-append us vs) ∙ sym (grouped (32 ∷ u) (blanks us) (blanks vs))

pub words-are : (first : List ℕ) (ws : List (List ℕ)) → Lacks 32 first → All (Lacks 32) ws → pieces 32 (first ++ blanks ws) ≡ first ∷ ws
words-are first [] h hs = ap (pieces 32) (append-nil first) ∙ one-piece 32 first h
words-are first (w ∷ ws) h hs =
    piece-ends 32 first (w ++ blanks ws) h ∙ ap (λ l. first ∷ l) (words-are w ws (All-head (Lacks 32) w ws hs) (All-tail (Lacks 32) w ws hs))

pub lacks-blanks : (mark : ℕ) (ws : List (List ℕ)) → (32 == mark) ≡ false → All (Lacks mark) ws → Lacks mark (blanks ws)
lacks-blanks mark [] e hs = refl
lacks-blanks mark (w ∷ ws) e hs =
    lacks-append mark (32 ∷ w) (blanks ws) (ap (λ b. b || list_any (λ b. b == mark) w) e ∙ All-head (Lacks mark) w ws hs) (lacks-blanks mark ws e (All-tail (Lacks mark) w ws hs))

pub differ : (xs ys : List ℕ) → xs ≢ ys → bytes_eq xs ys ≡ false
differ xs ys h = elim (bytes_eq xs ys) as (λ b. bytes_eq xs ys ≡ b → b ≡ false) [
  | true ↦ λ e. absurd (h ((bytes_eq-Decides xs ys).0 e))
  | false ↦ λ e. refl
] refl

pub true-false : true ≡ false → ⊥
true-false e = cc

-- a text with a colon is none without
pub with-colon : (name kind word : List ℕ) → Lacks 58 word → bytes_eq (name ++ 58 ∷ kind) word ≡ false
with-colon name kind word none = differ (name ++ 58 ∷ kind) word (λ e. true-false (sym (there name) ∙ ap (list_any (λ b. b == 58)) e ∙ none))
  where
    or-true : (b : Bool) → (b || true) ≡ true
    or-true true = refl
    or-true false = refl

    there : (xs : List ℕ) → list_any (λ b. b == 58) (xs ++ 58 ∷ kind) ≡ true
    there [] = refl
    there (x ∷ xs) = ap (λ b. (x == 58) || b) (there xs) ∙ or-true (x == 58)
