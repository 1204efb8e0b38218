-- A project that is refused has no source.
use Rattle.std.proofs.Common.{◌≡◌, ◌∙◌, sym, ℕ, List}
use Rattle.ur_kinds.specs.KindedFaults.{start}
use Rattle.ur_kinds.specs.Decls.{in_project}
use Rattle.ur_kinds.specs.KindedLaws.{FaultyIsNotKinded}
use Rattle.ur_typed_rules.proofs.Options.{some_none}
use Rattle.ur_typed.specs.DeclFaults.{FaultyProjectIsNone}
use Rattle.ur_typed.specs.Source.{begun}
use Rattle.ur_typed_laws.specs.Given.{NoneHasNoSource}
use Rattle.ur_check.specs.Refused.{by_name, by_kind, by_type, CausedIsNone}

pub caused-none : FaultyIsNotKinded → FaultyProjectIsNone → NoneHasNoSource → CausedIsNone
caused-none kinds types none most names modules signature r app (by_name e t) i = absurd (some_none (sym e ∙ i.named))
caused-none kinds types none most names modules signature r app (by_kind e f) i = kinds start (in_project names modules signature) r f i.kinded
caused-none kinds types none most names modules signature r app (by_type {fields = fields} e k f p) i =
    none most names modules signature fields app f (types most (begun fields) names modules signature r p) i.typed
