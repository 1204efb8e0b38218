-- The number of a source leads to its file.
use Rattle.std.proofs.Common.{◌≡◌, ◌⊎◌, inl, inr, ℕ, zero, ◌+◌, ◌-◌, suc, ◌<◌, ◌≤◌, List, [], ◌∷◌, ◌++◌, map, length, get_or, Option, Some, None, Contains, refl, sym, ap, subst, ◌∙◌, arith}
use Rattle.std.specs.Option.{unwrap_or}
use Rattle.std.specs.List.{slice_get}
use Rattle.std.proofs.lemmas.Option.{unwrap_or-slice_get}
use Rattle.std.proofs.lemmas.List.{get_or-map, get_or_append_left, length-map}
use Rattle.std.proofs.Math.Seq.{get_or-append_seam}
use Rattle.ur_io.specs.Files.{Files}
use Rattle.ur_load.specs.Sources.{AreSources, HasSignature}
use Rattle.ur_load.specs.Loaded.{with_signature, IsLoaded, file_at}
use Rattle.ur_load.specs.declared.loaded.Loaded.{Loaded}
use Rattle.ur_load.specs.declared.source.Source.{Source}

-- ---- the file at a number

pub at_zero : (l : Loaded) (number : ℕ) → (1 ≤ number → ⊥) → l.project ≡ file_at l number
at_zero l zero none = refl
at_zero l (suc k) none = absurd (none (omega arith))

pub at_none : (l : Loaded) (number place : ℕ) → 1 ≤ number → place ≡ number - 1 → None ≡ slice_get l.files place → l.project ≡ file_at l number
at_none l zero place some is got = absurd (omega (arith, some))
at_none l (suc k) place some is got =
    let same : place ≡ k = omega (arith, is) in
    ap (λ (o : Option (List ℕ)). unwrap_or o l.project) got ∙ unwrap_or-slice_get l.files place l.project ∙ ap (λ i. get_or l.files i l.project) same

pub at_file : (l : Loaded) (number place : ℕ) (file : List ℕ) → 1 ≤ number → place ≡ number - 1 → Some file ≡ slice_get l.files place → file ≡ file_at l number
at_file l zero place file some is got = absurd (omega (arith, some))
at_file l (suc k) place file some is got =
    let same : place ≡ k = omega (arith, is) in
    ap (λ (o : Option (List ℕ)). unwrap_or o l.project) got ∙ unwrap_or-slice_get l.files place l.project ∙ ap (λ i. get_or l.files i l.project) same

at_number : (l : Loaded) (number k : ℕ) → number ≡ suc k → file_at l number ≡ get_or l.files k l.project
at_number l number k is = ap (λ n. file_at l n) is

-- ---- the numbers of sources

number_in : (files : Files) (project : List ℕ) (j : ℕ) (names : List (List ℕ)) (ss : List Source) (k : ℕ) (s : Source) → AreSources files project j names ss → k < length ss → get_or ss k s ≡ s
    → s.number ≡ j + k
number_in files project j [] [] k s h below is = absurd (omega (arith, below))
number_in files project j [] (t ∷ ss) k s h below is = absurd h
number_in files project j (n ∷ names) [] k s h below is = absurd h
number_in files project j (n ∷ names) (t ∷ ss) zero s (h, rest) below is =
    let same : t.number ≡ s.number = ap (λ (z : Source). z.number) is in
    let first : t.number ≡ j = h.number_is in omega (arith, same, first)
number_in files project j (n ∷ names) (t ∷ ss) (suc k) s (h, rest) below is =
    let number : s.number ≡ suc j + k = number_in files project (suc j) names ss k s rest (omega (arith, below)) is in omega (arith, number)

as_many_names : (files : Files) (project : List ℕ) (j : ℕ) (names : List (List ℕ)) (ss : List Source) → AreSources files project j names ss → length ss ≡ length names
as_many_names files project j [] [] h = refl
as_many_names files project j [] (t ∷ ss) h = absurd h
as_many_names files project j (n ∷ names) [] h = absurd h
as_many_names files project j (n ∷ names) (t ∷ ss) (h, rest) = ap suc (as_many_names files project (suc j) names ss rest)

-- ---- the files of sources

abbrev file_names : List Source → List (List ℕ)
file_names = map (λ s. s.file)

with_front : (fs : List (List ℕ)) (x : Option Source) (k : ℕ) (d : List ℕ) → k < length fs → get_or (with_signature fs x) k d ≡ get_or fs k d
with_front fs None k d below = refl
with_front fs (Some s) k d below = get_or_append_left fs (s.file ∷ []) d k below

file_in : (ss : List Source) (x : Option Source) (k : ℕ) (s : Source) (d : List ℕ) → k < length ss → get_or ss k s ≡ s → get_or (with_signature (file_names ss) x) k d ≡ s.file
file_in ss x k s d below is =
    let size : length (file_names ss) ≡ length ss = length-map ss (λ (z : Source). z.file) in
    with_front (file_names ss) x k d (omega (arith, below, size)) ∙ get_or-map (λ (z : Source). z.file) ss k s d below ∙ ap (λ (z : Source). z.file) is

file_behind : (ss : List Source) (s : Source) (d : List ℕ) → get_or (with_signature (file_names ss) (Some s)) (length ss) d ≡ s.file
file_behind ss s d =
    ap (λ i. get_or (file_names ss ++ s.file ∷ []) i d) (sym (length-map ss (λ (z : Source). z.file))) ∙ get_or-append_seam (file_names ss) s.file [] d

pub numbers_lead_to_files : (files : Files) (project : List ℕ) (l : Loaded) (is : IsLoaded files project l) (s : Source) → Contains is.sources.modules s ⊎ (is.sources.signature ≡ Some s)
    → file_at l s.number ≡ s.file
numbers_lead_to_files files project l is s (inl (k, below, at')) =
    let number : s.number ≡ 1 + k = number_in files project 1 is.has.names is.sources.modules k s is.has.modules below at' in
    at_number l s.number k (omega (arith, number)) ∙ ap (λ fs. get_or fs k l.project) is.from_sources.files ∙ file_in is.sources.modules is.sources.signature k s l.project below at'
numbers_lead_to_files files project l is s (inr e) =
    let has : HasSignature files project is.has.names (Some s) = subst (λ z. HasSignature files project is.has.names z) e is.has.signature in
    let number : s.number ≡ suc (length is.has.names) = has.0 in
    let same : length is.sources.modules ≡ length is.has.names = as_many_names files project 1 is.has.names is.sources.modules is.has.modules in
    at_number l s.number (length is.sources.modules) (omega (arith, number, same))
    ∙ ap (λ fs. get_or fs (length is.sources.modules) l.project) (is.from_sources.files ∙ ap (λ x. with_signature (file_names is.sources.modules) x) e)
    ∙ file_behind is.sources.modules s l.project
