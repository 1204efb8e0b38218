-- Types that are the same have the same parts.
use Rattle.std.proofs.Common.{◌≡◌, List, sym, ap, ◌∙◌}
use Rattle.ur_values.specs.declared.types.TypeField.{TypeField}
use Rattle.ur_values.specs.declared.types.ValueType.{ValueType, out-ValueType}
use Rattle.ur_values.specs.declared.types.ValueType.TheVariants as ty
use Rattle.ur_values.specs.declared.types.ValueType.TheOpen as oty
use Rattle.ur_verify_operations.specs.Fields.{OpenType}

pub many_same : (a b : ValueType) → ty.Many a ≡ ty.Many b → a ≡ b
many_same a b e = inner (sym (ty.outs-Many a) ∙ ap out-ValueType e ∙ ty.outs-Many b)
  where
    inner : ◌≡◌ {A = OpenType} (oty.Many a) (oty.Many b) → a ≡ b
    inner e = cc

pub option_same : (a b : ValueType) → ty.Opt a ≡ ty.Opt b → a ≡ b
option_same a b e = inner (sym (ty.outs-Opt a) ∙ ap out-ValueType e ∙ ty.outs-Opt b)
  where
    inner : ◌≡◌ {A = OpenType} (oty.Opt a) (oty.Opt b) → a ≡ b
    inner e = cc

pub record_same : (fs gs : List TypeField) → ty.Record fs ≡ ty.Record gs → fs ≡ gs
record_same fs gs e = inner (sym (ty.outs-Record fs) ∙ ap out-ValueType e ∙ ty.outs-Record gs)
  where
    inner : ◌≡◌ {A = OpenType} (oty.Record fs) (oty.Record gs) → fs ≡ gs
    inner e = cc

pub form_same : (fs gs : List TypeField) → ty.Form fs ≡ ty.Form gs → fs ≡ gs
form_same fs gs e = inner (sym (ty.outs-Form fs) ∙ ap out-ValueType e ∙ ty.outs-Form gs)
  where
    inner : ◌≡◌ {A = OpenType} (oty.Form fs) (oty.Form gs) → fs ≡ gs
    inner e = cc
