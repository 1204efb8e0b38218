-- Derivations taken apart, and how far a file has been cut.
use Rattle.std.proofs.Common.{◌≡◌, ℕ, ◌+◌, ◌<◌, ◌≤◌, zero, suc, true, false, List, [], ◌∷◌, ◌++◌, length, drop, refl, sym, ap, subst, ◌∙◌, arith, append_assoc, inl, inr}
use Rattle.std.specs.List.{list_all}
use Rattle.std.proofs.lemmas.List.{append-nil, drop-drop, length-drop, drop_all}
use Rattle.ur_lex.specs.declared.mode.Mode.{Mode}
use Rattle.ur_lex.specs.declared.mode.Mode.TheVariants as place
use Rattle.ur_lex.specs.declared.mode.Turn.{Turn}
use Rattle.ur_lex.specs.declared.mode.Turn.TheVariants as turns
use Rattle.ur_lex.specs.declared.token.TokenKind.{TokenKind}
use Rattle.ur_lex.specs.declared.token.Lexeme.{Lexeme}
use Rattle.ur_lex.specs.Modes.{turn, turned, innermost, is_code}
use Rattle.ur_lex.specs.Spelling.{Text}
use Rattle.ur_lex.specs.Lexing.{lexeme, IsFront, IsSeparator, Lexes, finished, separator, token}
use Rattle.ur_lex.proofs.Fronts.{one_front, one_gap, no_front_there, some_token}

no_gap_at_end : (m : Mode) (n : ℕ) → IsSeparator m n [] → ⊥
no_gap_at_end place.Code n (inl (e, b)) = cc
no_gap_at_end place.Code n (inr (o, l, a)) = cc
no_gap_at_end place.Markup n h = absurd h
no_gap_at_end place.Tag n (e, b) = cc

no_front_at_end : {m : Mode} {k : TokenKind} {c : Text} (n : ℕ) → IsFront m k c n [] → ⊥
no_front_at_end {m} {k} {c} zero f = some_token m k c f.spelled
no_front_at_end (suc n) f = let l : suc n ≤ 0 = f.within in omega (arith, l)

-- ---- derivations

-- at the end of the file
pub at_end : {file at : ℕ} {modes : List Mode} {bytes : Text} {ts : List Lexeme} → Lexes file modes at bytes ts → bytes ≡ [] → (ts ≡ []) × (list_all is_code modes ≡ true)
at_end (finished h) e = (refl, h)
at_end (separator {mode = m} n s d) e = absurd (no_gap_at_end m n (subst (λ z. IsSeparator m n z) e s))
at_end (token {mode = m} k c n f d) e = absurd (no_front_at_end n (subst (λ z. IsFront m k c n z) e f))

-- behind a separator
pub behind_gap : {file at : ℕ} {m : Mode} {ms : List Mode} {bytes : Text} {ts : List Lexeme} (n : ℕ) → IsSeparator m n bytes → Lexes file (m ∷ ms) at bytes ts →
    Lexes file (m ∷ ms) (at + n) (drop n bytes) ts
behind_gap {m = m} n s (finished h) = absurd (no_gap_at_end m n s)
behind_gap {file} {at} {m} {ms} {bytes} {ts} n s (separator p g d) =
    let e = one_gap m p n bytes g s in subst (λ z. Lexes file (m ∷ ms) (at + z) (drop z bytes) ts) e d
behind_gap {m = m} {bytes = bytes} n s (token k c p f d) = absurd (no_front_there m n bytes s f)

-- behind a token
pub behind_front : {file at : ℕ} {m : Mode} {ms : List Mode} {bytes : Text} {ts : List Lexeme} {k : TokenKind} {c : Text} (n : ℕ) → IsFront m k c n bytes → Lexes file (m ∷ ms) at bytes ts →
    (us : List Lexeme) × (ts ≡ lexeme file at k c n ∷ us) × Lexes file (turned (turn k m) (m ∷ ms)) (at + n) (drop n bytes) us
behind_front n f (finished h) = absurd (no_front_at_end n f)
behind_front {m = m} {bytes = bytes} n f (separator p g d) = absurd (no_front_there m p bytes g f)
behind_front {file} {at} {m} {ms} {bytes} {ts} {k} {c} n f (token {tokens = us} l d p g e) =
    let (np, kl, cd) = one_front f g in (
      us,
      ap (λ z. z ∷ us) (cc),
      subst (λ z. Lexes file (turned (turn k m) (m ∷ ms)) (at + z) (drop z bytes) us) (sym np)
          (subst (λ z. Lexes file (turned (turn z m) (m ∷ ms)) (at + p) (drop p bytes) us) (sym kl) e),
    )

-- where something stands that begins neither a separator nor a token
pub nothing_there : {file at : ℕ} {m : Mode} {ms : List Mode} {bytes : Text} {ts : List Lexeme} → (bytes ≡ [] → ⊥) → ((n : ℕ) → IsSeparator m n bytes → ⊥) →
    ((k : TokenKind) (c : Text) (n : ℕ) → IsFront m k c n bytes → ⊥) → Lexes file (m ∷ ms) at bytes ts → ⊥
nothing_there e s f (finished h) = e refl
nothing_there e s f (separator n g d) = s n g
nothing_there e s f (token k c n g d) = f k c n g

-- a file has one list of tokens
pub one_list : {file at : ℕ} {modes : List Mode} {bytes : Text} {a b : List Lexeme} → Lexes file modes at bytes a → Lexes file modes at bytes b → a ≡ b
one_list (finished h) e = sym (at_end e refl).0
one_list (separator n s d) e = one_list d (behind_gap n s e)
one_list {file} {at} (token k c n f d) e = let (us, q, e') = behind_front n f e in ap (λ z. lexeme file at k c n ∷ z) (one_list d e') ∙ sym q

-- ---- how far a file has been cut

-- The tokens up to a place, and the modes there: what goes on from there is what the file goes on with.
pub record Reached (file : ℕ) (bytes : Text) (tokens : List Lexeme) (modes : List Mode) (at : ℕ) : Type 0 where
  pub open_modes : modes ≡ innermost modes ∷ drop 1 modes
  pub sound : (rest : List Lexeme) → Lexes file modes at (drop at bytes) rest → Lexes file (place.Code ∷ []) 0 bytes (tokens ++ rest)
  pub only : (all : List Lexeme) → Lexes file (place.Code ∷ []) 0 bytes all → (rest : List Lexeme) × (all ≡ tokens ++ rest) × Lexes file modes at (drop at bytes) rest

-- the same with other names for its parts
pub reached_as : {file : ℕ} {bytes : Text} {tokens more : List Lexeme} {modes others : List Mode} {at to : ℕ} → more ≡ tokens → others ≡ modes → to ≡ at → Reached file bytes tokens modes at → Reached file bytes more others to
reached_as {file} {bytes} {tokens} {more} {modes} {others} {at} {to} e f g r =
    subst (λ z. Reached file bytes z others to) (sym e) (subst (λ z. Reached file bytes tokens z to) (sym f) (subst (λ z. Reached file bytes tokens modes z) (sym g) r))

pub reached_start : (file : ℕ) (bytes : Text) → Reached file bytes [] (place.Code ∷ []) 0
reached_start file bytes = record { open_modes = refl; sound = λ rest d. d; only = λ all d. (all, refl, d) }

pub reached_gap : {file : ℕ} {bytes : Text} {tokens : List Lexeme} {modes : List Mode} {at : ℕ} (n : ℕ) → Reached file bytes tokens modes at → IsSeparator (innermost modes) n (drop at bytes) →
    Reached file bytes tokens modes (at + n)
reached_gap {file} {bytes} {tokens} {modes} {at} n r s = record {
  open_modes = r.open_modes;
  sound = λ rest d.
      let d1 = subst (λ z. Lexes file z (at + n) (drop (at + n) bytes) rest) r.open_modes d in
      let d2 = subst (λ z. Lexes file (innermost modes ∷ drop 1 modes) (at + n) z rest) (sym (drop-drop n at bytes)) d1 in
      r.sound rest (subst (λ z. Lexes file z at (drop at bytes) rest) (sym r.open_modes) (separator n s d2));
  only = λ all d. let (rest, e, d1) = r.only all d in
      let d2 = behind_gap n s (subst (λ z. Lexes file z at (drop at bytes) rest) r.open_modes d1) in
      let d3 = subst (λ z. Lexes file (innermost modes ∷ drop 1 modes) (at + n) z rest) (drop-drop n at bytes) d2 in
      (rest, e, subst (λ z. Lexes file z (at + n) (drop (at + n) bytes) rest) (sym r.open_modes) d3);
}

turned_open : (t : Turn) (m : Mode) (ms : List Mode) → turned t (m ∷ ms) ≡ innermost (turned t (m ∷ ms)) ∷ drop 1 (turned t (m ∷ ms))
turned_open (turns.Into n) m ms = refl
turned_open turns.Out m [] = refl
turned_open turns.Out m (n ∷ ms) = refl
turned_open turns.Stay m ms = refl

pub reached_front : {file : ℕ} {bytes : Text} {tokens : List Lexeme} {modes : List Mode} {at : ℕ} {k : TokenKind} {c : Text} (n : ℕ) → Reached file bytes tokens modes at →
    IsFront (innermost modes) k c n (drop at bytes) → Reached file bytes (tokens ++ lexeme file at k c n ∷ []) (turned (turn k (innermost modes)) modes) (at + n)
reached_front {file} {bytes} {tokens} {modes} {at} {k} {c} n r f =
    let m = innermost modes in
    let ms = drop 1 modes in
    let o : turned (turn k m) modes ≡ turned (turn k m) (m ∷ ms) = ap (turned (turn k m)) r.open_modes in
    record {
      open_modes = o ∙ turned_open (turn k m) m ms ∙ ap (λ z. innermost z ∷ drop 1 z) (sym o);
      sound = λ rest d.
          let d1 = subst (λ z. Lexes file z (at + n) (drop (at + n) bytes) rest) o d in
          let d2 = subst (λ z. Lexes file (turned (turn k m) (m ∷ ms)) (at + n) z rest) (sym (drop-drop n at bytes)) d1 in
          let d3 = r.sound (lexeme file at k c n ∷ rest) (subst (λ z. Lexes file z at (drop at bytes) (lexeme file at k c n ∷ rest)) (sym r.open_modes) (token k c n f d2)) in
          subst (λ z. Lexes file (place.Code ∷ []) 0 bytes z) (sym (append_assoc tokens (lexeme file at k c n ∷ []) rest)) d3;
      only = λ all d. let (rest, e, d1) = r.only all d in
          let (us, q, d2) = behind_front n f (subst (λ z. Lexes file z at (drop at bytes) rest) r.open_modes d1) in
          let d3 = subst (λ z. Lexes file (turned (turn k m) (m ∷ ms)) (at + n) z us) (drop-drop n at bytes) d2 in
          (us, e ∙ ap (λ z. tokens ++ z) q ∙ sym (append_assoc tokens (lexeme file at k c n ∷ []) us), subst (λ z. Lexes file z (at + n) (drop (at + n) bytes) us) (sym o) d3);
    }

-- at the end, where nothing is open
pub reached_end : {file : ℕ} {bytes : Text} {tokens : List Lexeme} {modes : List Mode} {at : ℕ} → Reached file bytes tokens modes at → length bytes ≤ at → list_all is_code modes ≡ true →
    Lexes file (place.Code ∷ []) 0 bytes tokens
reached_end {file} {bytes} {tokens} {modes} {at} r l h =
    let e : drop at bytes ≡ [] = drop_all at bytes l in
    let d : Lexes file modes at (drop at bytes) [] = subst (λ z. Lexes file modes at z []) (sym e) (finished h) in
    subst (λ z. Lexes file (place.Code ∷ []) 0 bytes z) (append-nil tokens) (r.sound [] d)

-- at the end, where something is open
pub reached_open : {file : ℕ} {bytes : Text} {tokens : List Lexeme} {modes : List Mode} {at : ℕ} → Reached file bytes tokens modes at → length bytes ≤ at → list_all is_code modes ≡ false →
    (all : List Lexeme) → Lexes file (place.Code ∷ []) 0 bytes all → ⊥
reached_open {bytes = bytes} {at = at} r l h all d =
    let (rest, e, d1) = r.only all d in
    let f = (at_end d1 (drop_all at bytes l)).1 in cc

-- where nothing begins
pub reached_nothing : {file : ℕ} {bytes : Text} {tokens : List Lexeme} {modes : List Mode} {at : ℕ} → Reached file bytes tokens modes at → at < length bytes →
    ((n : ℕ) → IsSeparator (innermost modes) n (drop at bytes) → ⊥) → ((k : TokenKind) (c : Text) (n : ℕ) → IsFront (innermost modes) k c n (drop at bytes) → ⊥) →
    (all : List Lexeme) → Lexes file (place.Code ∷ []) 0 bytes all → ⊥
reached_nothing {file} {bytes} {tokens} {modes} {at} r l s f all d =
    let (rest, e, d1) = r.only all d in
    let left : drop at bytes ≡ [] → ⊥ = λ z. let g : length (drop at bytes) ≡ 0 = ap length z in omega (arith, g, l, length-drop at bytes) in
    nothing_there left s f (subst (λ z. Lexes file z at (drop at bytes) rest) r.open_modes d1)
