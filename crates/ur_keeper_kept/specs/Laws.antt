-- What a restart over the same bodies finds.
use Rattle.std.specs.Prelude.{◌≡◌, Option, Some, None, ⊤}
use Rattle.ur_values.specs.SchemaText.{schema_text}
use Rattle.ur_keeper.specs.Tables.{Tables, KeptSchema, Untold, Empty, Keeps, Spells}

-- where a schema and its tables were told, its text is found, and under it the same tables
abbrev pub IsReopened : KeptSchema → Option Tables → KeptSchema → Type 0
IsReopened (Keeps schema) (Some t) (Spells text has) = (text ≡ schema_text schema) × (has schema ≡ t)
IsReopened (Keeps schema) (Some t) Untold = ⊥
IsReopened (Keeps schema) (Some t) Empty = ⊥
IsReopened (Keeps schema) (Some t) (Keeps other) = ⊥
IsReopened (Keeps schema) None kept = ⊤
IsReopened Untold saved kept = ⊤
IsReopened Empty saved kept = ⊤
IsReopened (Spells text has) saved kept = ⊤
