-- Bytes with U+FFFD for what is no UTF-8 are text.
use Rattle.std.proofs.Common.{◌≡◌, ℕ, zero, suc, ◌+◌, ◌<◌, ◌≤◌, nat_lt, ◌==◌, Bool, true, false, List, [], ◌∷◌, ◌++◌, length, take, drop, Option, Some, None, unwrap_or, refl, subst, arith, if◌then◌else◌, take_all, length-drop}
use Rattle.std.specs.Str.{IsUtf8, is_utf8}
use Rattle.std.specs.Int.{is_in_range}
use Rattle.std.specs.Prelude.{slice_index}
use Rattle.std.specs.Str.Lossy.{second_byte_min, second_byte_max, valid_len_up_to, utf8_valid_len, error_len_after_two, error_len_after_one, error_len_of_some, utf8_error_len, utf8_invalid_len, after_first_chunk, replacement_bytes, utf8_lossy_within, utf8_lossy}
use Rattle.std.proofs.lemmas.Str.{IsUtf8-nil, IsUtf8-append, IsUtf8-from_is_utf8, utf8_valid_len_le}
use Rattle.std.proofs.lemmas.Bool.Decides.{nat_tests}

front_text : (bs : List ℕ) (n : ℕ) → IsUtf8 (take (valid_len_up_to bs n) bs)
front_text [] zero = IsUtf8-nil
front_text (b ∷ bs) zero = IsUtf8-nil
front_text bs (suc n) = by (is_utf8 (take (suc n) bs)) refl (front_text bs n) where
  by : (v : Bool) → is_utf8 (take (suc n) bs) ≡ v → IsUtf8 (take (valid_len_up_to bs n) bs) → IsUtf8 (take (valid_len_up_to bs (suc n)) bs)
  by true e shorter = rw e (IsUtf8-from_is_utf8 (take (suc n) bs) e)
  by false e shorter = rw e shorter

valid_text : (bs : List ℕ) → IsUtf8 (take (utf8_valid_len bs) bs)
unfolding utf8_valid_len
valid_text bs = front_text bs (length bs)

some_of : (v : Bool) (o p : Option ℕ) (n : ℕ) → 0 < unwrap_or o n → 0 < unwrap_or p n → 0 < unwrap_or (if v then o else p) n
some_of true o p n h k = h
some_of false o p n h k = k

after_two : (bs : List ℕ) → 0 < length bs → 0 < unwrap_or (error_len_after_two bs) (length bs)
after_two bs h = some_of (nat_lt (length bs) 3) None (if is_in_range 0x80 0xBF (slice_index bs 2) then (if nat_lt (length bs) 4 then None else Some 3) else Some 2) (length bs) h
    (some_of (is_in_range 0x80 0xBF (slice_index bs 2)) (if nat_lt (length bs) 4 then None else Some 3) (Some 2) (length bs)
    (some_of (nat_lt (length bs) 4) None (Some 3) (length bs) h (let l : 0 < 3 = omega arith in l)) (let l : 0 < 2 = omega arith in l))

after_one : (bs : List ℕ) → 0 < length bs → 0 < unwrap_or (error_len_after_one bs) (length bs)
after_one bs h =
    let follows = is_in_range (second_byte_min (slice_index bs 0)) (second_byte_max (slice_index bs 0)) (slice_index bs 1) in
    some_of (nat_lt (length bs) 2) None (if follows then error_len_after_two bs else Some 1) (length bs) h
    (some_of follows (error_len_after_two bs) (Some 1) (length bs) (after_two bs h) (let l : 0 < 1 = omega arith in l))

-- at least one byte is at fault
some_invalid : (bs : List ℕ) → 0 < length bs → 0 < utf8_invalid_len bs
unfolding utf8_error_len
some_invalid bs h = some_of (length bs == 0) None (error_len_of_some bs) (length bs) h
    (some_of (is_in_range 0xC2 0xF4 (slice_index bs 0)) (error_len_after_one bs) (Some 1) (length bs) (after_one bs h) (let l : 0 < 1 = omega arith in l))

sign_text : IsUtf8 replacement_bytes
unfolding lib.Utf8.encode
sign_text = (0xFFFD ∷ [], (refl, refl))

within_text : (k : ℕ) (bs : List ℕ) → length bs ≤ k → IsUtf8 (utf8_lossy_within k bs)
within_text zero [] h = IsUtf8-nil
within_text zero (b ∷ bs) h = absurd (omega arith)
within_text (suc k) bs h = by (utf8_valid_len bs == length bs) refl (within_text k (after_first_chunk bs)) where
  by : (v : Bool) → (utf8_valid_len bs == length bs) ≡ v → (length (after_first_chunk bs) ≤ k → IsUtf8 (utf8_lossy_within k (after_first_chunk bs))) → IsUtf8 (utf8_lossy_within (suc k) bs)
  by true e later =
      let same : utf8_valid_len bs ≡ length bs = grind (arith, nat_tests, e) in
      rw e (subst IsUtf8 (take_all (utf8_valid_len bs) bs (omega arith)) (valid_text bs))
  by false e later =
      let n = utf8_valid_len bs in
      let within = utf8_valid_len_le bs in
      let less : n < length bs = grind (arith, nat_tests, e) in
      let left = length-drop n bs in
      let some = some_invalid (drop n bs) (omega arith) in
      let l = length-drop (n + utf8_invalid_len (drop n bs)) bs in
      rw e (IsUtf8-append (take n bs) (replacement_bytes ++ utf8_lossy_within k (after_first_chunk bs)) (valid_text bs)
      (IsUtf8-append replacement_bytes (utf8_lossy_within k (after_first_chunk bs)) sign_text (later (omega arith))))

pub lossy_text : (bs : List ℕ) → IsUtf8 (utf8_lossy bs)
unfolding utf8_lossy
lossy_text bs = within_text (length bs) bs (omega arith)
