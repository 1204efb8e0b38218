-- The folder of a file ends with its last slash.
use Rattle.std.proofs.Common.{◌≡◌, ◌≢◌, ◌<◌, ◌==◌, ◌||◌, ℕ, suc, Bool, true, false, cond, List, [], ◌∷◌, ◌++◌, Some, None, length, take, drop, get_or, refl, sym, ap, ◌∙◌, lit<, arith}
use Rattle.std.specs.List.{list_any}
use Rattle.std.specs.Str.Pattern.{RFindsChar}
use Rattle.std.proofs.lemmas.Str.Pattern.{NoCharPasses-char, drop_at_char}
use Rattle.std.proofs.lemmas.List.{take-append-drop}
use Rattle.std.proofs.lemmas.Bool.Decides.{nat_tests}
use Rattle.ur_load.specs.Names.{folder}

abbrev has_slash : List ℕ → Bool
has_slash = list_any (λ c. c == 47)

pub no_slash : (bytes : List ℕ) → ((k : ℕ) → k < length bytes → get_or bytes k 0 ≢ 47) → has_slash bytes ≡ false
no_slash [] h = refl
no_slash (b ∷ bytes) h =
    let first : (b == 47) ≡ false = (let ne : b ≢ 47 = h 0 (omega arith) in grind (arith, nat_tests)) in
    rw first (no_slash bytes (λ k below. h (suc k) (omega arith)))

or_true : (b : Bool) → (b || true) ≡ true
or_true true = refl
or_true false = refl

some_slash : (front back : List ℕ) → has_slash (front ++ 47 ∷ back) ≡ true
some_slash [] back = refl
some_slash (b ∷ front) back = ap (λ r. (b == 47) || r) (some_slash front back) ∙ or_true (b == 47)

no_folder : (bytes : List ℕ) → has_slash bytes ≡ false → folder bytes ≡ []
no_folder [] h = refl
no_folder (b ∷ bytes) h = ap (λ r. cond r (b ∷ folder bytes) []) h

last_slash : (front back : List ℕ) → has_slash back ≡ false → folder (front ++ 47 ∷ back) ≡ front ++ 47 ∷ []
last_slash [] back h = ap (λ r. 47 ∷ r) (no_folder back h)
last_slash (b ∷ front) back h =
    ap (λ r. cond r (b ∷ folder (front ++ 47 ∷ back)) []) (some_slash (b ∷ front) back) ∙ ap (λ r. b ∷ r) (last_slash front back h)

-- a file that is cut at its last slash
pub folder_at : (file front : List ℕ) (i j : ℕ) → RFindsChar 47 file (Some (i, j)) → front ≡ take i file → folder file ≡ front ++ 47 ∷ []
folder_at file front i j found e =
    let cut : front ++ 47 ∷ drop j file ≡ file =
    ap (λ f. f ++ 47 ∷ drop j file) e ∙ ap (λ d. take i file ++ d) (sym (drop_at_char 47 file i j found.1 (lit< tt))) ∙ take-append-drop i file in
    let none = no_slash (drop j file) (λ k below. NoCharPasses-char 47 (drop j file) k found.0 (lit< tt) below) in
    ap folder (sym cut) ∙ last_slash front (drop j file) none

-- a file without a slash has no folder
pub folder_none : (file : List ℕ) → RFindsChar 47 file None → folder file ≡ []
folder_none file none = no_folder file (no_slash file (λ k below. NoCharPasses-char 47 file k none (lit< tt) below))
