-- A command that was read and serves does so on some connections.
use Rattle.std.proofs.Common.{◌≡◌, ℕ, ◌≤◌, ◌<◌, Bool, true, false, ◌&&◌, if◌then◌else◌, List, [], ◌∷◌, Option, Some, None, refl, subst, arith}
use Rattle.std.specs.Prelude.{IsSome, bytes_eq, nat_le, option_map, option_and_then, codes}
use Rattle.std.specs.Str.Parse.{digits_value}
use Rattle.std.proofs.lemmas.Bool.Decides.{nat_tests}
use Rattle.ur_words.specs.Words.{is_number, number_in, number_or, settings_of, serve_of, load_of, value_of, are_new, names_in, words_in, name_of}
use Rattle.ur_words.specs.Words.{options_of, made_of, once_of, items_of, read_as, read}
use Rattle.ur_words.specs.declared.reading.Reading.{Reading}
use Rattle.ur_words.specs.declared.reading.Reading.TheVariants as reading
use Rattle.ur_top.specs.Ends.{ServesSome}

-- ---- numbers

in_test : (b c : Bool) (least v n : ℕ) → (b ≡ true → least ≤ v) → (if b && c then Some v else None) ≡ Some n → least ≤ n
in_test false c least v n h is = cc
in_test true false least v n h is = cc
in_test true true least v n h is = let same : v ≡ n = cc in let below : least ≤ v = h refl in omega (arith, same, below)

in_tests : (a b c : Bool) (least v n : ℕ) → (b ≡ true → least ≤ v) → (if a && (b && c) then Some v else None) ≡ Some n → least ≤ n
in_tests false b c least v n h is = cc
in_tests true b c least v n h is = in_test b c least v n h is

-- a number in a range is at least its least one
at_least : (least most : ℕ) (digits : List ℕ) (n : ℕ) → number_in least most digits ≡ Some n → least ≤ n
at_least least most digits n is =
    let v : ℕ = digits_value 10 digits in
    in_tests (is_number digits) (nat_le least (digits_value 10 digits)) (nat_le (digits_value 10 digits) most) least (digits_value 10 digits) n
    (λ e. grind (arith, nat_tests, e)) is

connections : (o : Option (List ℕ)) (n : ℕ) → number_or 1 1000000 1000000 o ≡ Some n → 0 < n
connections None n is = let same : 1000000 ≡ n = cc in omega (arith, same)
connections (Some digits) n is = let least : 1 ≤ n = at_least 1 1000000 digits n is in omega (arith, least)

-- ---- commands

same : (a r : Reading) → ServesSome a → Some a ≡ Some r → ServesSome r
same a r h is = let e : a ≡ r = cc in subst ServesSome e h

of_then : {A : Type 0} (o : Option A) (f : A → Option Reading) → ((a : A) (r : Reading) → f a ≡ Some r → ServesSome r) → (r : Reading) →
    option_and_then f o ≡ Some r → ServesSome r
of_then None f h r is = cc
of_then (Some a) f h r is = h a r is

of_map : {A : Type 0} (o : Option A) (f : A → Reading) → ((a : A) → o ≡ Some a → ServesSome (f a)) → (r : Reading) → option_map f o ≡ Some r → ServesSome r
of_map None f h r is = cc
of_map (Some a) f h r is = same (f a) r (h a refl) is

serve_some : (project : List ℕ) (value : List ℕ → Option (List ℕ)) (r : Reading) → serve_of project value ≡ Some r → ServesSome r
serve_some project value = of_then (option_and_then (number_in 1 65535) (value (codes "port"))) _ (λ port.
    of_then (settings_of value) _ (λ settings.
    of_map (number_or 1 1000000 1000000 (value (codes "connections"))) (λ most. reading.Serve project port settings most) (λ most is. connections (value (codes "connections")) most is)))

load_some : (seed n : List ℕ) (r : Reading) → load_of seed n ≡ Some r → ServesSome r
load_some seed n = of_then (number_in 1 2147483646 seed) _ (λ x. of_map (number_in 0 1000000 n) (λ y. reading.Load x y) (λ y is. tt))

-- the names of commands, of which ur_words tells no more than its functions do
abbrev Domain : {A B : Type 0} → (A → B) → Type 0
Domain {A} {B} f = A

abbrev Name : Type 0
Name = Domain options_of

if_new : (b : Bool) (o : Option Reading) (r : Reading) → (o ≡ Some r → ServesSome r) → (if b then o else None) ≡ Some r → ServesSome r
if_new true o r h is = h is
if_new false o r h is = cc

-- words that are read as this command, or as none
record ReadsAs (o : Option Name) : Type 0 where
  some : (words : List (List ℕ)) (r : Reading) → read_as o words ≡ Some r → ServesSome r

reads_none : ReadsAs None
reads_none = record { some = λ words r is. cc }

-- a command that is made of one word, two words, or another number of them
reads_name : (name : Name) → ((value : List ℕ → Option (List ℕ)) (r : Reading) → made_of name [] value ≡ Some r → ServesSome r)
    → ((value : List ℕ → Option (List ℕ)) (p : List ℕ) (r : Reading) → made_of name (p ∷ []) value ≡ Some r → ServesSome r)
    → ((value : List ℕ → Option (List ℕ)) (p q : List ℕ) (r : Reading) → made_of name (p ∷ q ∷ []) value ≡ Some r → ServesSome r)
    → ((value : List ℕ → Option (List ℕ)) (p q s : List ℕ) (rest : List (List ℕ)) (r : Reading) → made_of name (p ∷ q ∷ s ∷ rest) value ≡ Some r → ServesSome r) → ReadsAs (Some name)
reads_name name none one two more = record {
  some = λ words r is. of_then (items_of (options_of name) words) (once_of name) (λ items q at.
      if_new (are_new [] (names_in items)) (made_of name (words_in items) (λ n. value_of n items)) q (made (words_in items) (λ n. value_of n items) q) at) r is;
}
  where
    made : (words : List (List ℕ)) (value : List ℕ → Option (List ℕ)) (r : Reading) → made_of name words value ≡ Some r → ServesSome r
    made [] value r is = none value r is
    made (p ∷ []) value r is = one value p r is
    made (p ∷ q ∷ []) value r is = two value p q r is
    made (p ∷ q ∷ s ∷ rest) value r is = more value p q s rest r is

first_of_two : (a b : Option Name) (t : Bool) → ReadsAs a → ReadsAs b → ReadsAs (if t then a else b)
first_of_two a b true x y = x
first_of_two a b false x y = y

abbrev at : {A : Type 0} (o : Option A) → IsSome o → A
at None h = absurd (let no : false ≡ true = h in cc)
at (Some a) h = a

check_as : ReadsAs (Some (at (name_of (codes "check")) refl))
check_as = reads_name (at (name_of (codes "check")) refl) (λ value r is. cc) (λ value p r is. same (reading.Check p) r tt is) (λ value p q r is. cc) (λ value p q s rest r is. cc)

sites_as : ReadsAs (Some (at (name_of (codes "sites")) refl))
sites_as = reads_name (at (name_of (codes "sites")) refl) (λ value r is. cc) (λ value p r is. same (reading.Sites p) r tt is) (λ value p q r is. cc) (λ value p q s rest r is. cc)

replay_as : ReadsAs (Some (at (name_of (codes "replay")) refl))
replay_as = reads_name (at (name_of (codes "replay")) refl) (λ value r is. cc) (λ value p r is. of_map (settings_of value) (λ s. reading.Replay p s) (λ s is. tt) r is) (λ value p q r is. cc)
    (λ value p q s rest r is. cc)

serve_as : ReadsAs (Some (at (name_of (codes "serve")) refl))
serve_as = reads_name (at (name_of (codes "serve")) refl) (λ value r is. cc) (λ value p r is. serve_some p value r is) (λ value p q r is. cc) (λ value p q s rest r is. cc)

load_as : ReadsAs (Some (at (name_of (codes "load")) refl))
load_as = reads_name (at (name_of (codes "load")) refl) (λ value r is. cc) (λ value p r is. cc) (λ value p q r is. load_some p q r is) (λ value p q s rest r is. cc)

reads_as : (w : List ℕ) → ReadsAs (name_of w)
reads_as w =
    first_of_two _ _ (bytes_eq (codes "check") w) check_as
    (first_of_two _ _ (bytes_eq (codes "sites") w) sites_as
    (first_of_two _ _ (bytes_eq (codes "replay") w) replay_as
    (first_of_two _ _ (bytes_eq (codes "serve") w) serve_as
    (first_of_two _ _ (bytes_eq (codes "load") w) load_as reads_none))))

pub read_serves : (words : List (List ℕ)) (r : Reading) → read words ≡ Some r → ServesSome r
read_serves [] r is = cc
read_serves (w ∷ words) r is = (reads_as w).some words r is
