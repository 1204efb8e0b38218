-- What is wanted of a part, at the code's types.
use Rattle.std.proofs.Common.{◌≡◌, refl, ap, sym, ◌∙◌, List, [], ◌∷◌, Some}
use Rattle.ur_rows.specs.declared.normal.Label.{Label}
use Rattle.ur_rows.specs.declared.normal.NormalType.{NormalType, end_of-NormalType as sole, more_of-NormalType as the}
use Rattle.ur_rows.specs.declared.normal.NormalType.TheVariants as ty
use Rattle.ur_rows.specs.declared.normal.Part.{Part}
use Rattle.ur_rows.specs.Types.{field_type}
use Rattle.ur_rows.proofs.Shapes.{option-made, list-made, transaction-made, arrow-made, record-made}
use Rattle.ur_rows.proofs.Order.{parts-row}
use Rattle.ur_typed_rules.specs.Scopes.{Mode, finds, wants, of_option, of_list, of_transaction, of_field, of_result, if_typed}
use Rattle.ur_typed_rules.specs.Rules.{row_of, value_of}
use Rattle.ur_check_scopes.specs.Views.{behind_one}

pub mode-opt : (t : NormalType) → of_option (wants (ty.Opt t)) ≡ wants t
mode-opt t = ap (λ z. of_option (wants z)) (option-made t)

pub mode-many : (t : NormalType) → of_list (wants (ty.Many t)) ≡ wants t
mode-many t = ap (λ z. of_list (wants z)) (list-made t)

pub mode-transaction : (t : NormalType) → of_transaction (wants (ty.Transaction t)) ≡ wants t
mode-transaction t = ap (λ z. of_transaction (wants z)) (transaction-made t)

pub mode-arrow : (a b : NormalType) → behind_one (wants (ty.Arrow a b)) ≡ wants b
mode-arrow a b = ap (λ z. behind_one (wants z)) (arrow-made a b)

pub arrow-behind : (t a b r : NormalType) → t ≡ ty.Arrow a b → r ≡ b → wants r ≡ behind_one (wants t)
arrow-behind t a b r e h = ap (λ z. wants z) h ∙ sym (ap (λ z. behind_one (wants z)) e ∙ mode-arrow a b)

-- nothing is wanted behind what is not wanted
pub none-behind : {A : Type 0} (ps : List A) → of_result ps finds ≡ finds
none-behind [] = refl
none-behind (p ∷ ps) = refl

pub one-behind : {A : Type 0} (p : A) (ps : List A) (m : Mode) → of_result (p ∷ ps) m ≡ of_result ps (behind_one m)
one-behind p ps finds = sym (none-behind ps)
one-behind p ps (wants (ty.Arrow' _ a _ (the b sole))) = refl
one-behind p ps (wants t) = sym (none-behind ps)

-- behind one parameter more
pub behind-past : {A : Type 0} (left rest : List A) (p : A) (n k m : Mode) → left ≡ p ∷ rest → k ≡ behind_one n → of_result left n ≡ m → of_result rest k ≡ m
behind-past left rest p n k m e h i = ap (λ z. of_result rest z) h ∙ sym (one-behind p rest n) ∙ ap (λ z. of_result z n) (sym e) ∙ i

pub behind-end : {A : Type 0} (left : List A) (n m : Mode) → left ≡ [] → of_result left n ≡ m → n ≡ m
behind-end left n m e i = sym (ap (λ z. of_result z n) e) ∙ i

pub mode-field : (l : Label) (r : List Part) → of_field l (wants (ty.Record r)) ≡ if_typed (field_type l r)
mode-field l r = ap (λ z. of_field l (wants z)) (record-made r) ∙ ap (λ z. if_typed (field_type l z)) (parts-row r)

pub row-record : (r : List Part) → row_of (ty.Record r) ≡ Some r
row-record r = ap row_of (record-made r) ∙ ap Some (parts-row r)

pub value-transaction : (t : NormalType) → value_of (ty.Transaction t) ≡ Some t
value-transaction t = ap value_of (transaction-made t)

pub ruleset modes = (mode-opt, mode-many, mode-transaction, mode-arrow, mode-field, row-record, value-transaction, behind-past, behind-end)
