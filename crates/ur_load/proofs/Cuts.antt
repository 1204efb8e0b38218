-- The lines of bytes, one after the other.
use Rattle.std.proofs.Common.{◌≡◌, ◌∙◌, ℕ, ◌+◌, ◌<◌, ◌≤◌, Bool, false, ◌==◌, if◌then◌else◌, List, [], ◌∷◌, refl, ap, sym, subst, length, take, drop, arith}
use Rattle.std.specs.List.{slice_split, position_or_len, before_first, after_first, All}
use Rattle.std.specs.Str.Lines.{lines, lines_of_parts, strip_carriage_return}
use Rattle.std.proofs.Math.Seq.{drop-length}
use Rattle.std.proofs.lemmas.Bool.{ne_eqb}
use Rattle.std.proofs.lemmas.List.Elements.{All-from_get_or}
use Rattle.std.proofs.lemmas.List.Splits.{slice_split_none, slice_split_first, length-slice_split}
use Rattle.std.proofs.lemmas.List.Sums.{fails_before_first}

-- a LF
abbrev pub is_newline : ℕ → Bool
is_newline b = b == 10

more_parts : (x : List ℕ) (parts : List (List ℕ)) → 0 < length parts → lines_of_parts (x ∷ parts) ≡ strip_carriage_return x ∷ lines_of_parts parts
more_parts x [] h = absurd (omega arith)
more_parts x (y ∷ more) h = refl

pub line_cut : (bytes : List ℕ) → position_or_len is_newline bytes < length bytes
    → lines bytes ≡ strip_carriage_return (take (position_or_len is_newline bytes) bytes) ∷ lines (drop (position_or_len is_newline bytes + 1) bytes)
line_cut bytes h = let some : 0 < length (slice_split is_newline (after_first is_newline bytes)) = omega (arith, length-slice_split is_newline (after_first is_newline bytes)) in
    ap lines_of_parts (slice_split_first is_newline bytes 0 h) ∙ more_parts (before_first is_newline bytes) (slice_split is_newline (after_first is_newline bytes)) some

last_part : (bytes : List ℕ) → 0 < length bytes → lines_of_parts (bytes ∷ []) ≡ bytes ∷ []
last_part bytes h = let e : (length bytes == 0) ≡ false = ne_eqb (length bytes) 0 (λ e. omega arith) in ap (λ b. if b then [] else bytes ∷ []) e

pub line_whole : (bytes : List ℕ) → 0 < length bytes → position_or_len is_newline bytes ≡ length bytes → lines bytes ≡ bytes ∷ lines (drop (length bytes) bytes)
line_whole bytes h e = let none : All (λ b. is_newline b ≡ false) bytes = All-from_get_or (λ b. is_newline b ≡ false) bytes 0 (λ k below. fails_before_first is_newline bytes k 0 (omega arith)) in
    ap lines_of_parts (slice_split_none is_newline bytes none) ∙ last_part bytes h ∙ ap (λ l. bytes ∷ lines l) (sym (drop-length bytes))

pub first_cut : (bytes : List ℕ) (end : ℕ) {front : List ℕ} → end ≡ position_or_len is_newline bytes → end < length bytes → front ≡ strip_carriage_return (take end bytes)
    → lines bytes ≡ front ∷ lines (drop (end + 1) bytes)
first_cut bytes end e h f = rw (f, e) (line_cut bytes (subst (λ n. n < length bytes) e h))

pub first_whole : (bytes : List ℕ) (end : ℕ) → 0 < length bytes → end ≡ position_or_len is_newline bytes → end ≤ length bytes → length bytes ≤ end → lines bytes ≡ bytes ∷ lines (drop end bytes)
first_whole bytes end some e h k = let all : end ≡ length bytes = omega arith in rw all (line_whole bytes some (sym e ∙ all))
