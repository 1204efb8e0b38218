-- A key is tested for optional columns.
use Rattle.std.proofs.Common.{◌≡◌, refl, Bool, true, false, true≢false, List, ℕ, sym}
use Rattle.std.specs.Prelude.{not}
use Rattle.std.specs.List.{All, list_all}
use Rattle.ur_values.specs.declared.schema.ColumnKind.{ColumnKind}
use Rattle.ur_sqltype.specs.Expression.{is_optional}
use Rattle.ur_sqltype.specs.Table.{kind_at, HasNoOption}
use Rattle.ur_typed_rules.proofs.Lists.{all_of_test, test_of_all}
use Rattle.ur_typed.specs.Declaring.{has_no_option}

not_is : (b : Bool) → not b ≡ true → b ≡ false
not_is true e = absurd (true≢false (sym e))
not_is false e = refl

is_not : (b : Bool) → b ≡ false → not b ≡ true
is_not true e = absurd (true≢false e)
is_not false e = refl

key_told : (columns : List (List ℕ × ColumnKind)) (places : List ℕ) → has_no_option columns places ≡ true → HasNoOption columns places
key_told columns =
    all_of_test (λ n. not (is_optional (kind_at columns n))) (λ n. is_optional (kind_at columns n) ≡ false)
    (λ n e. not_is (is_optional (kind_at columns n)) e)

key_tested : (columns : List (List ℕ × ColumnKind)) (places : List ℕ) → HasNoOption columns places → has_no_option columns places ≡ true
key_tested columns =
    test_of_all (λ n. not (is_optional (kind_at columns n))) (λ n. is_optional (kind_at columns n) ≡ false)
    (λ n e. is_not (is_optional (kind_at columns n)) e)

pub plain_told : (columns : List (List ℕ × ColumnKind)) (keys : List (List ℕ)) → list_all (has_no_option columns) keys ≡ true → All (HasNoOption columns) keys
plain_told columns = all_of_test (has_no_option columns) (HasNoOption columns) (key_told columns)

pub plain_tested : (columns : List (List ℕ × ColumnKind)) (keys : List (List ℕ)) → All (HasNoOption columns) keys → list_all (has_no_option columns) keys ≡ true
plain_tested columns = test_of_all (has_no_option columns) (HasNoOption columns) (key_tested columns)
