-- What is told of an instance that is made.
use Rattle.std.proofs.Common.{◌≡◌, ap, sym, ◌∙◌, subst, ℕ, ◌+◌, ◌<◌, ◌≤◌, arith, true, List}
use Rattle.ur_rows.specs.declared.normal.NormalType.{NormalType}
use Rattle.ur_rows.specs.declared.normal.Part.{Part}
use Rattle.ur_rows.specs.declared.normal.Normal.{Normal}
use Rattle.ur_rows.specs.IsNormal.{is_normal_type, is_normal_row, is_normal}
use Rattle.ur_rows.specs.Nodes.{type_nodes, row_nodes, nodes, most_nodes}
use Rattle.ur_rows.specs.Put.{Putting, arguments, put, put_type, put_row, instance_type, instance_row, instance}
use Rattle.ur_rows.proofs.InOrder.{put_type-normal, put_row-normal, put-normal}
use Rattle.ur_rows_reduce.specs.Height.{type_height, row_height, height, most_levels}
use Rattle.ur_rows_reduce.specs.Lifts.{Levels, Within}
use Rattle.ur_rows_normal.specs.Arguments.{are_normal}
use Rattle.ur_rows_normal.proofs.Normality.{arguments-normal}

pub type-ordered : (args : List Normal) (t x : NormalType) → are_normal args ≡ true → x ≡ instance_type args t → is_normal_type x ≡ true
type-ordered args t x e m = ap is_normal_type m ∙ put_type-normal (arguments-normal args e) 0 t

pub row-ordered : (args : List Normal) (r x : List Part) → are_normal args ≡ true → x ≡ instance_row args r → is_normal_row x ≡ true
row-ordered args r x e m = ap is_normal_row m ∙ put_row-normal (arguments-normal args e) 0 r

pub ordered : (args : List Normal) (n x : Normal) → are_normal args ≡ true → x ≡ instance args n → is_normal x ≡ true
ordered args n x e m = ap is_normal m ∙ put-normal (arguments-normal args e) 0 n

pub type-low : (l : Levels) (args : List Normal) (t x : NormalType) → Within l (arguments args) → ((σ : Putting) → Within l σ → type_height (put_type σ 0 t) ≤ 4096) → x ≡ instance_type args t → type_height x ≤ most_levels
type-low l args t x w f m = subst (λ z. type_height z ≤ most_levels) (sym m) (f (arguments args) w)

pub row-low : (l : Levels) (args : List Normal) (r x : List Part) → Within l (arguments args) → ((σ : Putting) → Within l σ → row_height (put_row σ 0 r) ≤ 4095) → x ≡ instance_row args r → row_height x < most_levels
row-low l args r x w f m = subst (λ z. row_height z < most_levels) (sym m) (under (row_height (instance_row args r)) (f (arguments args) w)) where
  under : (n : ℕ) → n ≤ 4095 → n < 4096
  under n h = omega arith

pub low : (l : Levels) (args : List Normal) (n x : Normal) → Within l (arguments args) → ((σ : Putting) → Within l σ → height (put σ 0 n) ≤ 4096) → x ≡ instance args n → height x ≤ most_levels
low l args n x w f m = subst (λ z. height z ≤ most_levels) (sym m) (f (arguments args) w)

pub type-small : (args : List Normal) (t x : NormalType) (left : ℕ) → left + type_nodes (put_type (arguments args) 0 t) ≡ 65536 → x ≡ instance_type args t → type_nodes x ≤ most_nodes
type-small args t x left e m = subst (λ z. type_nodes z ≤ most_nodes) (sym m) (under (type_nodes (instance_type args t)) e) where
  under : (n : ℕ) → left + n ≡ 65536 → n ≤ 65536
  under n h = omega arith

pub row-small : (args : List Normal) (r x : List Part) (left : ℕ) → left + row_nodes (put_row (arguments args) 0 r) ≡ 65535 → x ≡ instance_row args r → row_nodes x < most_nodes
row-small args r x left e m = subst (λ z. row_nodes z < most_nodes) (sym m) (under (row_nodes (instance_row args r)) e) where
  under : (n : ℕ) → left + n ≡ 65535 → n < 65536
  under n h = omega arith

pub small : (args : List Normal) (n x : Normal) (left : ℕ) → left + nodes (put (arguments args) 0 n) ≡ 65536 → x ≡ instance args n → nodes x ≤ most_nodes
small args n x left e m = subst (λ z. nodes z ≤ most_nodes) (sym m) (under (nodes (instance args n)) e) where
  under : (k : ℕ) → left + k ≡ 65536 → k ≤ 65536
  under k h = omega arith
