-- Present beside values of other kinds.
use Rattle.std.proofs.Common.{◌≡◌, ℤ, Bool, ℕ, List, refl}
use Rattle.std.specs.declared.cmp.Ordering.TheVariants as ordering
use denote.Hole.Carrier as Carrier
use Rattle.ur_values.specs.declared.value.Value.{Value, end_of-Value, more_of-Value}
use Rattle.ur_values.specs.declared.value.Value.TheVariants as v
use Rattle.ur_values.specs.declared.value.Node.TheBlock as block
use Rattle.ur_values.specs.Order.{value_cmp}
use Rattle.ur_values.proofs.Order.{value_cmp-Present}

pub int_before : (n : ℤ) (x : Value) → value_cmp (v.Int n) (v.Present x) ≡ ordering.Less
unfolding value_cmp block.hidden-the_row-Value-3 Carrier.hidden
int_before n x = refl

pub bool_before : (b : Bool) (x : Value) → value_cmp (v.Bool b) (v.Present x) ≡ ordering.Less
unfolding value_cmp block.hidden-the_row-Value-3 Carrier.hidden
bool_before b x = refl

pub text_before : (t : List ℕ) (x : Value) → value_cmp (v.Str t) (v.Present x) ≡ ordering.Less
unfolding value_cmp block.hidden-the_row-Value-3 Carrier.hidden
text_before t x = refl

pub absent_before : (x : Value) → value_cmp v.Absent (v.Present x) ≡ ordering.Less
unfolding value_cmp block.hidden-the_row-Value-3 Carrier.hidden
absent_before x = refl

pub int_behind : (n : ℤ) (x : Value) → value_cmp (v.Present x) (v.Int n) ≡ ordering.Greater
unfolding value_cmp block.hidden-the_row-Value-3 Carrier.hidden
int_behind n x = refl

pub bool_behind : (b : Bool) (x : Value) → value_cmp (v.Present x) (v.Bool b) ≡ ordering.Greater
unfolding value_cmp block.hidden-the_row-Value-3 Carrier.hidden
bool_behind b x = refl

pub text_behind : (t : List ℕ) (x : Value) → value_cmp (v.Present x) (v.Str t) ≡ ordering.Greater
unfolding value_cmp block.hidden-the_row-Value-3 Carrier.hidden
text_behind t x = refl

pub absent_behind : (x : Value) → value_cmp (v.Present x) v.Absent ≡ ordering.Greater
unfolding value_cmp block.hidden-the_row-Value-3 Carrier.hidden
absent_behind x = refl

-- a value of no kind of a column
pub other_behind : (a x : Value) → ((n : ℤ) → a ≡ v.Int n → ⊥) → ((b : Bool) → a ≡ v.Bool b → ⊥) → ((t : List ℕ) → a ≡ v.Str t → ⊥) → (a ≡ v.Absent → ⊥) →
    ((y : Value) → a ≡ v.Present y → ⊥)
    → value_cmp a (v.Present x) ≡ ordering.Greater
unfolding value_cmp block.hidden-the_row-Value-3 Carrier.hidden
other_behind (v.Int n) x i b t z p = absurd (i n refl)
other_behind (v.Bool n) x i b t z p = absurd (b n refl)
other_behind (v.Str n) x i b t z p = absurd (t n refl)
other_behind v.Absent x i b t z p = absurd (z refl)
other_behind (v.Present' u (more_of-Value y end_of-Value)) x i b t z p = absurd (p y refl)
other_behind _ x i b t z p = refl

pub other_before : (a x : Value) → ((n : ℤ) → a ≡ v.Int n → ⊥) → ((b : Bool) → a ≡ v.Bool b → ⊥) → ((t : List ℕ) → a ≡ v.Str t → ⊥) → (a ≡ v.Absent → ⊥) →
    ((y : Value) → a ≡ v.Present y → ⊥)
    → value_cmp (v.Present x) a ≡ ordering.Less
unfolding value_cmp block.hidden-the_row-Value-3 Carrier.hidden
other_before (v.Int n) x i b t z p = absurd (i n refl)
other_before (v.Bool n) x i b t z p = absurd (b n refl)
other_before (v.Str n) x i b t z p = absurd (t n refl)
other_before v.Absent x i b t z p = absurd (z refl)
other_before (v.Present' u (more_of-Value y end_of-Value)) x i b t z p = absurd (p y refl)
other_before _ x i b t z p = refl

pub ruleset compared = (int_before, bool_before, text_before, absent_before, int_behind, bool_behind, text_behind, absent_behind, other_behind, other_before, value_cmp-Present)
