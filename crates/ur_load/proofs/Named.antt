-- The names of modules: they are text, and a file of one is a project.
use Rattle.std.proofs.Common.{◌≡◌, ◌∙◌, ◌⊎◌, inl, inr, ℕ, ◌+◌, ◌-◌, ◌<◌, true, false, not, ◌==◌, if◌then◌else◌, List, [], ◌∷◌, ◌++◌, length, map, take, drop, get_or, refl, ap, sym, subst, arith}
use Rattle.std.proofs.lemmas.Bool.Decides.{nat_tests}
use Rattle.std.proofs.lemmas.Str.{IsUtf8-from_ascii}
use Rattle.std.proofs.lemmas.Str.Ascii.{IsAscii-nil, IsAscii-cons}
use Rattle.std.specs.List.{list_all, prefix_len, suffix_len, position_or_len}
use Rattle.std.specs.Str.Lines.{lines, strip_carriage_return}
use Rattle.std.proofs.Math.Seq.{drop-length, take-length, take-append_seam, get_or-append_seam}
use Rattle.std.proofs.lemmas.List.{get_or_append_left, length-append}
use Rattle.std.proofs.lemmas.List.Sums.{AllPass-from_list_all, position_or_len_is, prefix_len_is, suffix_len_is}
use Rattle.ur_load.specs.Lines.{is_space, is_empty, trimmed, without_last, project_lines}
use Rattle.ur_load.specs.Project.{AreToName, IsProject}
use Rattle.ur_load.proofs.Cuts.{is_newline, first_cut, line_whole}
use Rattle.std.specs.Str.{IsAscii, IsUtf8}
use Rattle.ur_load.specs.Words.{is_name_byte, is_small, is_module_name}
use Rattle.ur_load.proofs.Facing.{apart, and_true, both_true}

byte_is : (b : ℕ) → is_name_byte b ≡ true → b < 128
byte_is b h = grind (arith, nat_tests)

bytes_are : (bytes : List ℕ) → list_all is_name_byte bytes ≡ true → IsAscii bytes
bytes_are [] h = IsAscii-nil
bytes_are (b ∷ bytes) h = let both = and_true (is_name_byte b) (list_all is_name_byte bytes) h in IsAscii-cons b bytes (byte_is b both.0) (bytes_are bytes both.1)

-- the name of a module has name bytes alone
module_bytes : (name : List ℕ) → is_module_name name ≡ true → list_all is_name_byte name ≡ true
module_bytes [] h = refl
module_bytes (x ∷ xs) h = (and_true (is_small x) (list_all is_name_byte (x ∷ xs)) h).1

pub name_is_text : (name : List ℕ) → is_module_name name ≡ true → IsUtf8 name
name_is_text name h = IsUtf8-from_ascii name (bytes_are name (module_bytes name h))

-- ---- a file of one name

name_byte : (name : List ℕ) (k : ℕ) → is_module_name name ≡ true → k < length name → is_name_byte (get_or name k 0) ≡ true
name_byte name k h below = AllPass-from_list_all is_name_byte name (module_bytes name h) k 0 below

no_newline : (b : ℕ) → is_name_byte b ≡ true → is_newline b ≡ false
no_newline b h = grind (arith, nat_tests)

no_return : (b : ℕ) → is_name_byte b ≡ true → (b == 13) ≡ false
no_return b h = grind (arith, nat_tests)

no_space : (b : ℕ) → is_name_byte b ≡ true → is_space b ≡ false
no_space b h = grind (arith, nat_tests)

some_bytes : (name : List ℕ) → is_module_name name ≡ true → 0 < length name
some_bytes [] h = apart (sym h)
some_bytes (b ∷ name) h = omega arith

not_empty : (name : List ℕ) → is_module_name name ≡ true → is_empty name ≡ false
not_empty [] h = apart (sym h)
not_empty (b ∷ name) h = refl

no_spaces_first : (name : List ℕ) → is_module_name name ≡ true → prefix_len is_space name ≡ 0
no_spaces_first name h = prefix_len_is is_space name 0 0 (omega arith) (λ k below. absurd (omega arith)) (λ some. no_space (get_or name 0 0) (name_byte name 0 h some))

no_spaces_last : (name : List ℕ) → is_module_name name ≡ true → suffix_len is_space name ≡ 0
no_spaces_last name h = let s = suffix_len_is is_space name (length name) 0 (omega arith) (λ k above below. absurd (omega arith)) (λ some. no_space (get_or name (length name - 1) 0) (name_byte name (length name - 1) h (omega arith))) in
    omega (arith, s)

drop_none : (xs : List ℕ) → drop 0 xs ≡ xs
drop_none [] = refl
drop_none (x ∷ xs) = refl

trimmed_name : (name : List ℕ) → is_module_name name ≡ true → trimmed name ≡ name
trimmed_name name h = ap (λ n. without_last is_space (drop n name)) (no_spaces_first name h) ∙ ap (without_last is_space) (drop_none name)
    ∙ ap (λ n. take (length name - n) name) (no_spaces_last name h) ∙ ap (λ n. take n name) (let e : length name - 0 ≡ length name = omega arith in e) ∙ take-length name

no_return_last : (name : List ℕ) → is_module_name name ≡ true → strip_carriage_return name ≡ name
no_return_last name h = let e = no_return (get_or name (length name - 1) 0) (name_byte name (length name - 1) h (let s = some_bytes name h in omega (arith, s))) in
    ap (λ b. if b then take (length name - 1) name else name) e

no_newlines : (name : List ℕ) → is_module_name name ≡ true → position_or_len is_newline name ≡ length name
no_newlines name h = position_or_len_is is_newline name (length name) 0 (omega arith) (λ k below. no_newline (get_or name k 0) (name_byte name k h below)) (λ below. absurd (omega arith))

newline_last : (name : List ℕ) → is_module_name name ≡ true → position_or_len is_newline (name ++ 10 ∷ []) ≡ length name
newline_last name h = position_or_len_is is_newline (name ++ 10 ∷ []) (length name) 0 (omega (arith, length-append name (10 ∷ [])))
    (λ k below. ap is_newline (get_or_append_left name (10 ∷ []) 0 k below) ∙ no_newline (get_or name k 0) (name_byte name k h below)) (λ below. ap is_newline (get_or-append_seam name 10 [] 0))

lines_of_name : (name : List ℕ) → is_module_name name ≡ true → lines name ≡ name ∷ []
lines_of_name name h = line_whole name (some_bytes name h) (no_newlines name h) ∙ ap (λ l. name ∷ lines l) (drop-length name)

lines_of_line : (name : List ℕ) → is_module_name name ≡ true → lines (name ++ 10 ∷ []) ≡ name ∷ []
lines_of_line name h = first_cut (name ++ 10 ∷ []) (length name) (sym (newline_last name h)) (omega (arith, length-append name (10 ∷ []))) (sym (no_return_last name h) ∙ ap strip_carriage_return (sym (take-append_seam name (10 ∷ []))))
    ∙ ap (λ l. name ∷ lines l) (ap (λ n. drop n (name ++ 10 ∷ [])) (let s : length name + 1 ≡ length (name ++ 10 ∷ []) = omega (arith, length-append name (10 ∷ [])) in s) ∙ drop-length (name ++ 10 ∷ []))

one_line : (bytes name : List ℕ) → lines bytes ≡ name ∷ [] → is_module_name name ≡ true → project_lines bytes ≡ name ∷ []
one_line bytes name e h = ap (λ ls. without_last is_empty (map trimmed ls)) e ∙ ap (λ l. without_last is_empty (l ∷ [])) (trimmed_name name h) ∙ only name (not_empty name h) where
  only : (l : List ℕ) → is_empty l ≡ false → without_last is_empty (l ∷ []) ≡ l ∷ []
  only [] f = apart f
  only (b ∷ l) f = refl

project_of : (name bytes : List ℕ) → is_module_name name ≡ true → IsUtf8 bytes → project_lines bytes ≡ name ∷ [] → IsProject bytes (name ∷ [])
project_of name bytes h u e = record {
  text = u;
  named = subst (λ l. AreToName l (name ∷ [])) (sym e) (AreToName.alone (name ∷ []) (both_true (not (is_empty name)) true (ap not (not_empty name h)) refl));
  fit = record { words = both_true (is_module_name name) true h refl; differ = refl };
  some = λ z. cc;
}

line_is_text : (name : List ℕ) → list_all is_name_byte name ≡ true → IsAscii (name ++ 10 ∷ [])
line_is_text [] h = IsAscii-cons 10 [] (omega arith) IsAscii-nil
line_is_text (b ∷ name) h = let both = and_true (is_name_byte b) (list_all is_name_byte name) h in IsAscii-cons b (name ++ 10 ∷ []) (byte_is b both.0) (line_is_text name both.1)

pub one_name : (name bytes : List ℕ) → is_module_name name ≡ true → (bytes ≡ name) ⊎ (bytes ≡ name ++ 10 ∷ []) → IsProject bytes (name ∷ [])
one_name name bytes h (inl e) = rw e (project_of name name h (name_is_text name h) (one_line name name (lines_of_name name h) h))
one_name name bytes h (inr e) = rw e (project_of name (name ++ 10 ∷ []) h (IsUtf8-from_ascii (name ++ 10 ∷ []) (line_is_text name (module_bytes name h))) (one_line (name ++ 10 ∷ []) name (lines_of_line name h) h))
