-- Small words on what a run is about.
use Rattle.std.proofs.Common.{◌≡◌, ◌≢◌, ◌⊎◌, inl, inr, ℕ, suc, zero, ◌==◌, Bool, true, false, if◌then◌else◌, List, [], ◌∷◌, Option, Some, None}
use Rattle.std.proofs.Common.{Contains, Any, refl, sym, ap, subst, arith}
use Rattle.std.proofs.lemmas.Bool.Decides.{nat_tests}
use Rattle.ur_base.specs.Told.{WhereTold}
use Rattle.ur_io.specs.Files.{Files}
use Rattle.ur_io.specs.declared.session.SessionEnd.{SessionEnd}
use Rattle.ur_words.specs.declared.reading.Reading.{Reading}
use Rattle.ur_words.specs.declared.reading.Reading.TheVariants.{Check, Sites, Replay, Serve, Load}
use Rattle.ur_headline.specs.Counting.{IsCutOff, next_failed}
use Rattle.ur_headline.specs.Readings.{Serving, serving, IfServing, ForServing}
use Rattle.ur_top.specs.Notes.{notes_files, notes_word}
use Rattle.ur_top.specs.Sources.{ForSource, OfSource}

-- ---- lists

pub split : (a x : ℕ) (xs : List ℕ) → Contains (a ∷ xs) x → (x ≡ a) ⊎ Contains xs x
split a x xs (zero, within, is) = inl (sym is)
split a x xs (suc k, within, is) = inr (k, omega (arith, within), is)

pub nothing_in : (x : ℕ) → Contains [] x → ⊥
nothing_in x (k, within, is) = omega (arith, within)

pub none_cut : (sessions : List SessionEnd) → sessions ≡ [] → Any IsCutOff sessions → ⊥
none_cut sessions e any = nothing (subst (λ l. Any IsCutOff l) e any)
  where
    nothing : Any IsCutOff [] → ⊥
    nothing (k, x, within, is, p) = omega (arith, within)

-- ---- what is told, and what is served

pub told_is : {A : Type 0} (o : Option A) (P : A → Type 0) → ((a : A) → o ≡ Some a → P a) → WhereTold o P
told_is None P h = tt
told_is (Some a) P h = h a refl

pub told_more : {A : Type 0} (o : Option A) (P Q : A → Type 0) → WhereTold o P → ((a : A) → P a → Q a) → WhereTold o Q
told_more None P Q w h = tt
told_more (Some a) P Q w h = h a w

pub if_serving : (o : Option Serving) (P : Serving → Type 0) → ((s : Serving) → o ≡ Some s → P s) → IfServing o P
if_serving None P h = tt
if_serving (Some s) P h = h s refl

-- of files that are told, and a project that is served
pub of_served : (o : Option Files) (r : Option Reading) (Q : Files → Serving → Type 0) →
    ((files : Files) (s : Serving) → o ≡ Some files → serving r ≡ Some s → Q files s)
    → WhereTold o (λ files. ForServing r (Q files))
of_served o r Q h = told_is o (λ files. ForServing r (Q files)) (λ files t. if_serving (serving r) (Q files) (λ s is. h files s t is))

abbrev project_in : Option Serving → List ℕ
project_in None = []
project_in (Some s) = s.project

-- what holds of the source holds of the project that is served
pub at_served : (o : Option Files) (r : Option Reading) (P : Files → List ℕ → Type 0) (files : Files) (s : Serving) → o ≡ Some files → serving r ≡ Some s →
    OfSource o r P → P files s.project
at_served o None P files s t is h = absurd h
at_served o (Some (Check p)) P files s t is h = cc
at_served o (Some (Sites p)) P files s t is h = cc
at_served o (Some (Replay p q)) P files s t is h = let same : p ≡ s.project = ap project_in is in subst (P files) same (subst (λ z. WhereTold z (λ f. P f p)) t h)
at_served o (Some (Serve p port q n)) P files s t is h = let same : p ≡ s.project = ap project_in is in subst (P files) same (subst (λ z. WhereTold z (λ f. P f p)) t h)
at_served o (Some (Load seed n)) P files s t is h = cc

-- what holds of all files and projects holds of the source
pub of_source : (o : Option Files) (r : Option Reading) (Q : Files → List ℕ → Type 0) → ((files : Files) (word : List ℕ) → Q files word) → ForSource o r Q
of_source o None Q h = tt
of_source o (Some (Check p)) Q h = told_is o (λ files. Q files p) (λ files t. h files p)
of_source o (Some (Sites p)) Q h = told_is o (λ files. Q files p) (λ files t. h files p)
of_source o (Some (Replay p s)) Q h = told_is o (λ files. Q files p) (λ files t. h files p)
of_source o (Some (Serve p port s n)) Q h = told_is o (λ files. Q files p) (λ files t. h files p)
of_source o (Some (Load seed n)) Q h = h notes_files notes_word

pub from_source : (o : Option Files) (r : Option Reading) (P Q : Files → List ℕ → Type 0) → OfSource o r P →
    ((files : Files) (word : List ℕ) → P files word → Q files word) → ForSource o r Q
from_source o None P Q h f = tt
from_source o (Some (Check p)) P Q h f = told_more o (λ files. P files p) (λ files. Q files p) h (λ files x. f files p x)
from_source o (Some (Sites p)) P Q h f = told_more o (λ files. P files p) (λ files. Q files p) h (λ files x. f files p x)
from_source o (Some (Replay p s)) P Q h f = told_more o (λ files. P files p) (λ files. Q files p) h (λ files x. f files p x)
from_source o (Some (Serve p port s n)) P Q h f = told_more o (λ files. P files p) (λ files. Q files p) h (λ files x. f files p x)
from_source o (Some (Load seed n)) P Q h f = f notes_files notes_word h

pub no_source : (o : Option Files) (r : Option Reading) (P : Files → List ℕ → Type 0) → r ≡ None → OfSource o r P → ⊥
no_source o r P none h = subst (λ z. OfSource o z P) none h

-- a command that is not served
pub not_served : (r : Option Reading) → r ≡ None → serving r ≡ None
not_served r none = ap serving none

pub clashes : (r : Option Reading) (s : Serving) → serving r ≡ None → serving r ≡ Some s → ⊥
clashes r s none is = cc

-- ---- a wire that did not fail where it was asked for a connection

abbrev one_if : Bool → ℕ
one_if b = if b then 1 else 0

unless : (b : Bool) → (b ≡ true → ⊥) → one_if b ≡ 0
unless true h = absurd (h refl)
unless false h = refl

pub none_failed : (r : Option Reading) (sessions : List SessionEnd) (status : ℕ) → status ≢ 6 → next_failed r sessions status ≡ 0
none_failed None sessions status other = refl
none_failed (Some (Check p)) sessions status other = refl
none_failed (Some (Sites p)) sessions status other = refl
none_failed (Some (Replay p s)) [] status other = unless (status == 6) (λ e. other (grind (arith, nat_tests, e)))
none_failed (Some (Replay p s)) (x ∷ sessions) status other = refl
none_failed (Some (Serve p port s n)) sessions status other = unless (status == 6) (λ e. other (grind (arith, nat_tests, e)))
none_failed (Some (Load seed n)) sessions status other = refl

-- one at most
pub one_failed : (r : Option Reading) (sessions : List SessionEnd) → (next_failed r sessions 6 ≡ 0) ⊎ (next_failed r sessions 6 ≡ 1)
one_failed None sessions = inl refl
one_failed (Some (Check p)) sessions = inl refl
one_failed (Some (Sites p)) sessions = inl refl
one_failed (Some (Replay p s)) [] = inr refl
one_failed (Some (Replay p s)) (x ∷ sessions) = inl refl
one_failed (Some (Serve p port s n)) sessions = inr refl
one_failed (Some (Load seed n)) sessions = inl refl
