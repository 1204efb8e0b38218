-- What was fetched says what the files are.
use Rattle.std.proofs.Common.{◌≡◌, ℕ, ◌≤◌, ◌<◌, Bool, true, false, nat_le, cond, List, [], length, Option, Some, None, Err, refl, sym, ap, subst, ◌∙◌, codes}
use Rattle.std.proofs.lemmas.Bool.{leb-true, leb-false}
use Rattle.ur_base.specs.Told.{WhereTold}
use Rattle.ur_base.specs.declared.refusal.Refusal.{Refusal}
use Rattle.ur_io.specs.Files.{Files, fetched}
use Rattle.ur_io.specs.declared.shelf.Fetched.{Fetched}
use Rattle.ur_io.specs.declared.shelf.Fetched.TheVariants.{Whole, Longer, Missing}
use Rattle.ur_load.specs.Sources.{SaysOfFile, HasFile, IsTooLong, Lacks, file_limit}
use Rattle.ur_load.specs.Loads.{IfRefusedIn, OnShelf, SaysIn}
use Rattle.ur_load.specs.declared.load_end.LoadEnd.{LoadEnd}
use Rattle.ur_load.specs.declared.load_end.LoadEnd.TheVariants.{Refused, Shelf, Memory}

missing_is : (most : ℕ) (o : Option (List ℕ)) → Missing ≡ fetched most o → o ≡ None
missing_is most None e = refl
missing_is most (Some bytes) e = absurd (split (nat_le (length bytes) most) e) where
  split : (b : Bool) → Missing ≡ cond b (Whole bytes) Longer → ⊥
  split true e = cc
  split false e = cc

longer_is : (most : ℕ) (o : Option (List ℕ)) → Longer ≡ fetched most o → (bytes : List ℕ) × (o ≡ Some bytes) × (most < length bytes)
longer_is most None e = absurd (cc)
longer_is most (Some bytes) e = (bytes, refl, leb-false (length bytes) most (split (nat_le (length bytes) most) e)) where
  split : (b : Bool) → Longer ≡ cond b (Whole bytes) Longer → b ≡ false
  split true e = absurd (cc)
  split false e = refl

whole_is : (most : ℕ) (o : Option (List ℕ)) (bytes : List ℕ) → Whole bytes ≡ fetched most o → (o ≡ Some bytes) × (length bytes ≤ most)
whole_is most None bytes e = absurd (cc)
whole_is most (Some other) bytes e =
    let t : (nat_le (length other) most ≡ true) × (other ≡ bytes) = split (nat_le (length other) most) e in
    (ap Some t.1, subst (λ b. length b ≤ most) t.1 (leb-true (length other) most t.0)) where
      split : (b : Bool) → Whole bytes ≡ cond b (Whole other) Longer → (b ≡ true) × (other ≡ bytes)
      split true e = (refl, cc)
      split false e = absurd (cc)

-- ---- where the files are told

pub whole_there : (told : Option Files) (name bytes : List ℕ) (r : Fetched) → r ≡ Whole bytes → WhereTold told (λ files. r ≡ fetched file_limit (files name))
    → WhereTold told (λ files. HasFile files name bytes)
whole_there None name bytes r is f = tt
whole_there (Some files) name bytes r is f = whole_is file_limit (files name) bytes (sym is ∙ f)

pub nothing_there : (told : Option Files) (name : List ℕ) (r : Fetched) → r ≡ Missing → WhereTold told (λ files. r ≡ fetched file_limit (files name))
    → WhereTold told (λ files. files name ≡ None)
nothing_there None name r is f = tt
nothing_there (Some files) name r is f = missing_is file_limit (files name) (sym is ∙ f)

missing_lacks : (told : Option Files) (name : List ℕ) (r : Fetched) → r ≡ Missing → WhereTold told (λ files. r ≡ fetched file_limit (files name))
    → (q : Refusal) → SaysOfFile q 2 name [] → WhereTold told (λ files. Lacks files name q)
missing_lacks None name r is f q says = tt
missing_lacks (Some files) name r is f q says = Lacks.missing (missing_is file_limit (files name) (sym is ∙ f)) says

long_is : (told : Option Files) (name : List ℕ) (r : Fetched) → r ≡ Longer → WhereTold told (λ files. r ≡ fetched file_limit (files name))
    → (q : Refusal) → SaysOfFile q 20 (codes "bytes of a source or project file") (codes "1048576") → WhereTold told (λ files. IsTooLong files name q)
long_is None name r is f q says = tt
long_is (Some files) name r is f q says = (longer_is file_limit (files name) (sym is ∙ f), says)

long_lacks : (told : Option Files) (name : List ℕ) (q : Refusal) → WhereTold told (λ files. IsTooLong files name q) → WhereTold told (λ files. Lacks files name q)
long_lacks None name q long = tt
long_lacks (Some files) name q long = Lacks.long long

-- ---- what is answered

said : (A : Type 0) (P : Refusal → Type 0) (file : List ℕ) (code : ℕ) (left right : List ℕ) (end : LoadEnd) → SaysIn file code left right end
    → ((q : Refusal) → SaysOfFile q code left right → P q) → IfRefusedIn {A = A} (Err end) (λ at' q. (at' ≡ file) × P q)
said A P file code left right (Refused at' q) (same, says) f = (same, f q says)
said A P file code left right Memory says f = tt
said A P file code left right Shelf says f = absurd says

-- a refusal is no fault of the shelf
pub said_no_fault : (A : Type 0) (P : Type 0) (file : List ℕ) (code : ℕ) (left right : List ℕ) (end : LoadEnd) → SaysIn file code left right end → OnShelf {A = A} (Err end) P
said_no_fault A P file code left right (Refused at' q) says = tt
said_no_fault A P file code left right Memory says = tt
said_no_fault A P file code left right Shelf says = absurd says

pub missing_refused : (A : Type 0) (told : Option Files) (name : List ℕ) (r : Fetched) (end : LoadEnd) → r ≡ Missing → WhereTold told (λ files. r ≡ fetched file_limit (files name))
    → SaysIn name 2 name [] end → IfRefusedIn {A = A} (Err end) (λ at' q. (at' ≡ name) × WhereTold told (λ files. Lacks files name q))
missing_refused A told name r end is f says = said A (λ q. WhereTold told (λ files. Lacks files name q)) name 2 name [] end says (missing_lacks told name r is f)

pub long_refused : (A : Type 0) (told : Option Files) (name : List ℕ) (r : Fetched) (end : LoadEnd) → r ≡ Longer → WhereTold told (λ files. r ≡ fetched file_limit (files name))
    → SaysIn name 20 (codes "bytes of a source or project file") (codes "1048576") end → IfRefusedIn {A = A} (Err end) (λ at' q. (at' ≡ name) × WhereTold told (λ files. Lacks files name q))
long_refused A told name r end is f says = said A (λ q. WhereTold told (λ files. Lacks files name q)) name 20 (codes "bytes of a source or project file") (codes "1048576") end says
    (λ q s. long_lacks told name q (long_is told name r is f q s))

pub long_only : (A : Type 0) (told : Option Files) (name : List ℕ) (r : Fetched) (end : LoadEnd) → r ≡ Longer → WhereTold told (λ files. r ≡ fetched file_limit (files name))
    → SaysIn name 20 (codes "bytes of a source or project file") (codes "1048576") end → IfRefusedIn {A = A} (Err end) (λ at' q. (at' ≡ name) × WhereTold told (λ files. IsTooLong files name q))
long_only A told name r end is f says = said A (λ q. WhereTold told (λ files. IsTooLong files name q)) name 20 (codes "bytes of a source or project file") (codes "1048576") end says
    (long_is told name r is f)
