-- Kinds and constructors are read in one way.
use Rattle.std.specs.Prelude.{Bool, true, false, refl}
use Rattle.ur_parse_rules.proofs.Once.{Decided}
use Rattle.ur_parse_rules.specs.ConParts.{ConPart, kind, kind_atom, kind_tail, con, arrow, arrow_tail, concat, concat_tail, app, args, arg, atom, field_name, row, row_field, row_value, row_tail, fields, record_field, fields_tail, con_param}
use Rattle.ur_parse_rules.specs.declared.parse_rules_place.ConPlace.{ConPlace}
use Rattle.ur_parse_rules.specs.declared.parse_rules_place.ConPlace.TheVariants as places
use Rattle.ur_parse_rules.specs.Parts.{of_con}
use Rattle.ur_parse_rules.specs.Language.{language}
use Rattle.ur_parse_rules.proofs.Table.{Told, by_table}
use Rattle.ur_parse_rules.proofs.Choice.{choice}
use Rattle.ur_parse_rules.proofs.Special.{con_param_decided}

con_told : (place : ConPlace) → Told (of_con (con place))
con_told places.Plain = refl
con_told places.BeforeKeys = refl
con_told places.Beside = refl

arrow_told : (keys : Bool) → Told (of_con (arrow keys))
arrow_told true = refl
arrow_told false = refl

arrow_tail_told : (keys : Bool) → Told (of_con (arrow_tail keys))
arrow_tail_told true = refl
arrow_tail_told false = refl

concat_told : (keys : Bool) → Told (of_con (concat keys))
concat_told true = refl
concat_told false = refl

concat_tail_told : (keys : Bool) → Told (of_con (concat_tail keys))
concat_tail_told true = refl
concat_tail_told false = refl

app_told : (keys : Bool) → Told (of_con (app keys))
app_told true = refl
app_told false = refl

args_told : (keys : Bool) → Told (of_con (args keys))
args_told true = refl
args_told false = refl

pub con_decided : (p : ConPart) → Decided language choice (of_con p)
con_decided con_param = con_param_decided
con_decided (con place) = by_table choice (of_con (con place)) (λ a k w h. h) refl (con_told place)
con_decided (arrow keys) = by_table choice (of_con (arrow keys)) (λ a k w h. h) refl (arrow_told keys)
con_decided (arrow_tail keys) = by_table choice (of_con (arrow_tail keys)) (λ a k w h. h) refl (arrow_tail_told keys)
con_decided (concat keys) = by_table choice (of_con (concat keys)) (λ a k w h. h) refl (concat_told keys)
con_decided (concat_tail keys) = by_table choice (of_con (concat_tail keys)) (λ a k w h. h) refl (concat_tail_told keys)
con_decided (app keys) = by_table choice (of_con (app keys)) (λ a k w h. h) refl (app_told keys)
con_decided (args keys) = by_table choice (of_con (args keys)) (λ a k w h. h) refl (args_told keys)
con_decided kind = by_table choice (of_con kind) (λ a k w h. h) refl refl
con_decided kind_atom = by_table choice (of_con kind_atom) (λ a k w h. h) refl refl
con_decided kind_tail = by_table choice (of_con kind_tail) (λ a k w h. h) refl refl
con_decided (arg keys) = by_table choice (of_con (arg keys)) (λ a k w h. h) refl refl
con_decided (atom keys) = by_table choice (of_con (atom keys)) (λ a k w h. h) refl refl
con_decided field_name = by_table choice (of_con field_name) (λ a k w h. h) refl refl
con_decided row = by_table choice (of_con row) (λ a k w h. h) refl refl
con_decided row_field = by_table choice (of_con row_field) (λ a k w h. h) refl refl
con_decided row_value = by_table choice (of_con row_value) (λ a k w h. h) refl refl
con_decided row_tail = by_table choice (of_con row_tail) (λ a k w h. h) refl refl
con_decided fields = by_table choice (of_con fields) (λ a k w h. h) refl refl
con_decided record_field = by_table choice (of_con record_field) (λ a k w h. h) refl refl
con_decided fields_tail = by_table choice (of_con fields_tail) (λ a k w h. h) refl refl
