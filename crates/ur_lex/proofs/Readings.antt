-- Texts read piece by piece.
use Rattle.std.proofs.Common.{◌≡◌, ℕ, ◌<◌, ◌≤◌, Bool, true, false, ◌==◌, List, [], ◌∷◌, ◌++◌, length, take, Option, Some, None, refl, sym, ap, ◌∙◌, arith, append_assoc, inl, inr}
use Rattle.std.specs.Prelude.{◌⊎◌, if◌then◌else◌}
use Rattle.std.proofs.lemmas.Bool.Decides.{nat_tests}
use Rattle.std.proofs.lemmas.List.{length-append, append-nil, nil_from_length}
use Rattle.ur_lex.specs.declared.pieces.Alphabet.{Alphabet}
use Rattle.ur_lex.specs.declared.pieces.Alphabet.TheVariants as alphabets
use Rattle.ur_lex.specs.Spelling.{Text}
use Rattle.ur_lex.specs.Spelling.{IsPiece, IsOneOf, Reads, end, more, is_plain, table}
use Rattle.ur_lex.specs.Scanning.{first_of, first_piece, listed_piece, plain_piece, is_front}
use Rattle.ur_lex.proofs.Texts.{split_same, take_of_front, front_within}

-- a byte that stands for itself begins no text of the table
not_listed : (a : Alphabet) (b : ℕ) (x : Text) → is_plain a b ≡ true → listed_piece (table a) (b ∷ x) ≡ None
not_listed alphabets.Str b x h = let e : (92 == b) ≡ false = grind (arith, nat_tests) in rw e refl
not_listed alphabets.Sql b x h = let e : (39 == b) ≡ false = grind (arith, nat_tests) in rw e refl
not_listed alphabets.Attr b x h = let e : (38 == b) ≡ false = grind (arith, nat_tests) in rw e refl
not_listed alphabets.Xml b x h = let e : (38 == b) ≡ false = grind (arith, nat_tests) in rw e refl

plain_first : (a : Alphabet) (b : ℕ) (x : Text) → is_plain a b ≡ true → first_piece a (b ∷ x) ≡ Some (1, b ∷ [])
plain_first a b x h = ap (λ z. first_of z (plain_piece a (b ∷ x))) (not_listed a b x h) ∙ ap (λ z. if z then Some (1, b ∷ []) else None) h

-- a piece is the first piece of what begins with it
pub first_of_piece : (a : Alphabet) (s m x : Text) → IsPiece a s m → first_piece a (s ++ x) ≡ Some (length s, m)
first_of_piece a s m x (inl (b, h, e, f)) = rw (e, f) (plain_first a b x h)
first_of_piece alphabets.Str s m x (inr (inl (e, f))) = rw (e, f) refl
first_of_piece alphabets.Str s m x (inr (inr (inl (e, f)))) = rw (e, f) refl
first_of_piece alphabets.Str s m x (inr (inr (inr (inl (e, f))))) = rw (e, f) refl
first_of_piece alphabets.Str s m x (inr (inr (inr (inr (inl (e, f)))))) = rw (e, f) refl
first_of_piece alphabets.Str s m x (inr (inr (inr (inr (inr h))))) = absurd h
first_of_piece alphabets.Sql s m x (inr (inl (e, f))) = rw (e, f) refl
first_of_piece alphabets.Sql s m x (inr (inr h)) = absurd h
first_of_piece alphabets.Attr s m x (inr (inl (e, f))) = rw (e, f) refl
first_of_piece alphabets.Attr s m x (inr (inr (inl (e, f)))) = rw (e, f) refl
first_of_piece alphabets.Attr s m x (inr (inr (inr (inl (e, f))))) = rw (e, f) refl
first_of_piece alphabets.Attr s m x (inr (inr (inr (inr (inl (e, f)))))) = rw (e, f) refl
first_of_piece alphabets.Attr s m x (inr (inr (inr (inr (inr (inl (e, f))))))) = rw (e, f) refl
first_of_piece alphabets.Attr s m x (inr (inr (inr (inr (inr (inr h)))))) = absurd h
first_of_piece alphabets.Xml s m x (inr (inl (e, f))) = rw (e, f) refl
first_of_piece alphabets.Xml s m x (inr (inr (inl (e, f)))) = rw (e, f) refl
first_of_piece alphabets.Xml s m x (inr (inr (inr (inl (e, f))))) = rw (e, f) refl
first_of_piece alphabets.Xml s m x (inr (inr (inr (inr (inl (e, f)))))) = rw (e, f) refl
first_of_piece alphabets.Xml s m x (inr (inr (inr (inr (inr (inl (e, f))))))) = rw (e, f) refl
first_of_piece alphabets.Xml s m x (inr (inr (inr (inr (inr (inr h)))))) = absurd h

abbrev len_of : Option (ℕ × Text) → ℕ
len_of None = 0
len_of (Some p) = p.0

abbrev text_of : Option (ℕ × Text) → Text
text_of None = []
text_of (Some p) = p.1

-- two pieces with which one text begins
pub same_piece : (a : Alphabet) (s m x t n y : Text) → IsPiece a s m → IsPiece a t n → s ++ x ≡ t ++ y → (s ≡ t) × (m ≡ n) × (x ≡ y)
same_piece a s m x t n y p q e =
    let f = first_of_piece a s m x p in
    let g = first_of_piece a t n y q in
    let h = sym f ∙ ap (first_piece a) e ∙ g in
    let d = split_same s x t y (ap len_of h) e in
    (d.0, ap text_of h, d.1)

pub nothing_first : (a : Alphabet) → first_piece a [] ≡ None
nothing_first alphabets.Str = refl
nothing_first _ = refl

-- no piece is empty
pub some_bytes : (a : Alphabet) (s m : Text) → IsPiece a s m → s ≡ [] → ⊥
some_bytes a s m p e =
    let f : first_piece a (s ++ []) ≡ Some (length s, m) = first_of_piece a s m [] p in
    let g : first_piece a [] ≡ None = nothing_first a in
    let h : first_piece a (s ++ []) ≡ first_piece a [] = ap (λ z. first_piece a (z ++ [])) e in
    cc

-- a text that goes on with a piece has a first piece
pub goes_on : (a : Alphabet) (s m x y : Text) → IsPiece a s m → y ≡ s ++ x → first_piece a y ≡ None → ⊥
goes_on a s m x y p e h = let f = first_of_piece a s m x p in let g = ap (first_piece a) e in cc

-- One reading that ends where no piece follows takes in each other reading of the same bytes.
pub fit : (a : Alphabet) {i c j k : Text} → Reads (IsPiece a) i c → Reads (IsPiece a) j k → (x y : Text) → i ++ x ≡ j ++ y → first_piece a x ≡ None →
    (d l : Text) × Reads (IsPiece a) d l × (i ≡ j ++ d) × (c ≡ k ++ l) × (y ≡ d ++ x)
fit a {i} {c} r end x y e h = (i, c, r, refl, refl, sym e)
fit a end (more {spelled = s} {meant = m} {bytes = b} p q) x y e h = absurd (goes_on a s m (b ++ y) x p (e ∙ append_assoc s b y) h)
fit a (more {spelled = s} {meant = m} {bytes = b} {text = c} p r) (more {spelled = t} {meant = n} {bytes = j} {text = k} q r') x y e h =
    let e' : s ++ (b ++ x) ≡ t ++ (j ++ y) = sym (append_assoc s b x) ∙ e ∙ append_assoc t j y in
    let (st, mn, be) = same_piece a s m (b ++ x) t n (j ++ y) p q e' in
    let (d, l, rd, ei, ec, ey) = fit a r r' x y be h in
    (d, l, rd, ap (λ z. z ++ b) st ∙ ap (λ z. t ++ z) ei ∙ sym (append_assoc t j d), ap (λ z. z ++ c) mn ∙ ap (λ z. n ++ z) ec ∙ sym (append_assoc n k l), ey)

-- nothing stands for nothing
pub reads_nothing : (a : Alphabet) {i c : Text} → Reads (IsPiece a) i c → i ≡ [] → c ≡ []
reads_nothing a end e = refl
reads_nothing a (more {spelled = s} {meant = m} {bytes = b} p r) e =
    absurd (some_bytes a s m p (nil_from_length s (let l : length (s ++ b) ≡ 0 = ap length e in omega (arith, l, length-append s b))))

-- two readings that end where no piece follows
pub fit_both : (a : Alphabet) {i c j k : Text} → Reads (IsPiece a) i c → Reads (IsPiece a) j k → (x y : Text) → i ++ x ≡ j ++ y → first_piece a x ≡ None → first_piece a y ≡ None →
    (i ≡ j) × (c ≡ k) × (x ≡ y)
fit_both a {i} {c} {j} {k} r q x y e h g =
    let (d, l, rd, ei, ec, ey) = fit a r q x y e h in
    let (d', l', rd', ej, ek, ex) = fit a q r y x (sym e) g in
    let n : length d ≡ 0 = omega (arith, ap length ei, ap length ej, length-append j d, length-append i d') in
    let dn : d ≡ [] = nil_from_length d n in
    let ln : l ≡ [] = reads_nothing a rd dn in
    (ei ∙ ap (λ z. j ++ z) dn ∙ append-nil j, ec ∙ ap (λ z. k ++ z) ln ∙ append-nil k, sym (ey ∙ ap (λ z. z ++ x) dn))

-- what bytes stand for
pub same_content : (a : Alphabet) {i c k : Text} → Reads (IsPiece a) i c → Reads (IsPiece a) i k → c ≡ k
same_content a {i} r q = (fit_both a r q [] [] refl (nothing_first a) (nothing_first a)).1

-- ---- the first piece

-- a test says yes or no
pub bool_cases : (b : Bool) → (b ≡ true) ⊎ (b ≡ false)
bool_cases true = inl refl
bool_cases false = inr refl

-- a text of a table with which bytes begin
listed_sound : (ps : List (Text × Text)) (bytes : Text) (n : ℕ) (m : Text) → listed_piece ps bytes ≡ Some (n, m) → IsOneOf ps (take n bytes) m × (n ≤ length bytes)
listed_sound [] bytes n m h = absurd (cc)
listed_sound (p ∷ ps) bytes n m h = elim (bool_cases (is_front p.0 bytes)) [
  | inl t ↦ let e : Some (length p.0, p.1) ≡ Some (n, m) = sym (ap (λ z. if z then Some (length p.0, p.1) else listed_piece ps bytes) t) ∙ h in
      let l : length p.0 ≡ n = ap len_of e in
      let w : p.1 ≡ m = ap text_of e in
      (inl (ap (λ z. take z bytes) (sym l) ∙ take_of_front p.0 bytes t, sym w), omega (arith, l, front_within p.0 bytes t))
  | inr f ↦ let r = listed_sound ps bytes n m (sym (ap (λ z. if z then Some (length p.0, p.1) else listed_piece ps bytes) f) ∙ h) in (inr r.0, r.1)
]

plain_sound : (a : Alphabet) (bytes : Text) (n : ℕ) (m : Text) → plain_piece a bytes ≡ Some (n, m) → IsPiece a (take n bytes) m × (n ≤ length bytes)
plain_sound a [] n m h = absurd (cc)
plain_sound a (b ∷ w) n m h = elim (bool_cases (is_plain a b)) [
  | inl t ↦ let e : Some (1, b ∷ []) ≡ Some (n, m) = sym (ap (λ z. if z then Some (1, b ∷ []) else None) t) ∙ h in
      let l : 1 ≡ n = ap len_of e in
      (inl (b, t, ap (λ z. take z (b ∷ w)) (sym l), sym (ap text_of e)), omega (arith, l))
  | inr f ↦ let e : None ≡ Some (n, m) = sym (ap (λ z. if z then Some (1, b ∷ []) else None) f) ∙ h in absurd (cc)
]

first_sound : (a : Alphabet) (bytes : Text) (o : Option (ℕ × Text)) → listed_piece (table a) bytes ≡ o → (n : ℕ) (m : Text) → first_of o (plain_piece a bytes) ≡ Some (n, m) → IsPiece a (take n bytes) m × (n ≤ length bytes)
first_sound a bytes None h n m e = plain_sound a bytes n m e
first_sound a bytes (Some p) h n m e = let r = listed_sound (table a) bytes n m (h ∙ e) in (inr r.0, r.1)

-- the first piece is a piece
pub piece_of_first : (a : Alphabet) (bytes : Text) (n : ℕ) (m : Text) → first_piece a bytes ≡ Some (n, m) → IsPiece a (take n bytes) m × (n ≤ length bytes) × (0 < n)
piece_of_first a bytes n m e =
    let r = first_sound a bytes _ refl n m e in
    let z : n ≡ 0 → ⊥ = λ h. some_bytes a (take n bytes) m r.0 (ap (λ k. take k bytes) h) in
    (r.0, r.1, omega arith)

-- one piece more
pub reads_more : (a : Alphabet) {i c : Text} (s m : Text) → Reads (IsPiece a) i c → IsPiece a s m → Reads (IsPiece a) (i ++ s) (c ++ m)
reads_more a s m end p = rw (← append-nil s, ← append-nil m) (more p end)
reads_more a s m (more {spelled = t} {meant = n} {bytes = b} {text = x} q r) p = rw (append_assoc t b s, append_assoc n x m) (more q (reads_more a s m r p))
