-- One step of cutting a file.
use Rattle.std.proofs.Common.{◌≡◌, ℕ, ◌+◌, ◌-◌, ◌<◌, ◌≤◌, zero, suc, List, [], ◌∷◌, ◌++◌, length, take, drop, sym, subst, arith}
use Rattle.std.proofs.lemmas.List.{take_rest, length-drop}
use Rattle.ur_lex.specs.declared.front.Found.{Found}
use Rattle.ur_lex.specs.declared.front.Front.{Front}
use Rattle.ur_lex.specs.declared.front.Front.TheVariants as front
use Rattle.ur_lex.specs.declared.mode.Mode.{Mode}
use Rattle.ur_lex.specs.declared.mode.Mode.TheVariants as place
use Rattle.ur_lex.specs.declared.token.TokenKind.{TokenKind}
use Rattle.ur_lex.specs.declared.token.Lexeme.{Lexeme}
use Rattle.ur_lex.specs.Modes.{turn, turned, innermost}
use Rattle.ur_lex.specs.Spelling.{Text}
use Rattle.ur_lex.specs.Lexing.{IsFront, Lexes, lexeme}
use Rattle.ur_lex.specs.Scanning.{IsFirst}
use Rattle.ur_lex.proofs.Fronts.{some_token}
use Rattle.ur_lex.proofs.Derivations.{Reached, reached_gap, reached_front, reached_nothing}

-- what stands at the place, said of the rest of the file
first_there : {m : Mode} {part : Text} (modes : List Mode) (at : ℕ) (bytes : Text) (f g : Front) → innermost modes ≡ m → part ≡ drop at bytes → f ≡ g → IsFirst m part f → IsFirst (innermost modes) (drop at bytes) g
first_there {m = m} {part = part} modes at bytes f g e p q h =
    subst (λ z. IsFirst (innermost modes) (drop at bytes) z) q (subst (λ z. IsFirst (innermost modes) z f) p (subst (λ z. IsFirst z part f) (sym e) h))

pub gap_step : {file : ℕ} {tokens : List Lexeme} {m : Mode} (modes : List Mode) (at : ℕ) (bytes : Text) (f : Front) (len : ℕ) → Reached file bytes tokens modes at → innermost modes ≡ m → at ≤ length bytes →
    f ≡ front.Gap len → IsFirst m (take (length bytes - at) (drop at bytes)) f → (at + len ≤ length bytes) × (0 < len) × Reached file bytes tokens modes (at + len)
gap_step {m = m} modes at bytes f len r e l q h =
    let (some, within, s) = first_there {m = m} modes at bytes f (front.Gap len) e (take_rest bytes at) q h in
    (omega (arith, l, within, length-drop at bytes), omega (arith, some), reached_gap len r s)

some_bytes : {m : Mode} {k : TokenKind} {c : Text} (n : ℕ) (bytes : Text) → IsFront m k c n bytes → 0 < n
some_bytes {m} {k} {c} zero bytes f = absurd (some_token m k c f.spelled)
some_bytes (suc n) bytes f = omega arith

pub token_step : {file : ℕ} {tokens : List Lexeme} {m : Mode} (modes : List Mode) (at : ℕ) (bytes : Text) (f : Front) (found : Found) → Reached file bytes tokens modes at → innermost modes ≡ m → at ≤ length bytes →
    f ≡ front.Token found → IsFirst m (take (length bytes - at) (drop at bytes)) f →
    (at + found.len ≤ length bytes) × (0 < found.len) × Reached file bytes (tokens ++ lexeme file at found.kind found.content found.len ∷ []) (turned (turn found.kind (innermost modes)) modes) (at + found.len)
token_step {m = m} modes at bytes f found r e l q h =
    let s = first_there {m = m} modes at bytes f (front.Token found) e (take_rest bytes at) q h in
    let t : IsFront (innermost modes) found.kind found.content found.len (drop at bytes) = s in
    let within = t.within in
    (omega (arith, l, within, length-drop at bytes), some_bytes found.len (drop at bytes) t, reached_front found.len r t)

pub nothing_step : {file : ℕ} {tokens : List Lexeme} {m : Mode} (modes : List Mode) (at : ℕ) (bytes : Text) (f : Front) → Reached file bytes tokens modes at → innermost modes ≡ m → at < length bytes →
    f ≡ front.Nothing → IsFirst m (take (length bytes - at) (drop at bytes)) f → (all : List Lexeme) → Lexes file (place.Code ∷ []) 0 bytes all → ⊥
nothing_step {m = m} modes at bytes f r e l q h =
    let s = first_there {m = m} modes at bytes f front.Nothing e (take_rest bytes at) q h in
    reached_nothing r l s.0 s.1
