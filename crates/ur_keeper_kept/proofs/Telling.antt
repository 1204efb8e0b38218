-- What a keeper over bodies that tell at first tells.
use Rattle.std.proofs.Common.{◌≡◌, Bool, true, false, List, ℕ, Option, Some, None, refl, sym, subst}
use Rattle.std.specs.Prelude.{IsSome}
use Rattle.std.proofs.lemmas.Bool.{false≢true}
use Rattle.ur_values.specs.declared.schema.Schema.{Schema}
use Rattle.ur_keeper.specs.Tables.{KeptSchema, Keeps}
use Rattle.ur_keeper.specs.Keeper.{TellsStore}
use Rattle.ur_keeper_bodies.specs.Bodies.{BodyMap}
use Rattle.ur_keeper_kept.specs.Laid.{text_at, tables_in}
use Rattle.ur_keeper_kept.specs.Kept.{found_in, tables_found, kept_in, saved_in, IsGoodFor}
use Rattle.ur_keeper_kept.specs.declared.pending.Pending.{Pending}
use Rattle.ur_keeper_kept.specs.Laws.{IsReopened}

text-tells : (m : BodyMap) (text : Option (List ℕ)) → TellsStore (found_in m text) (tables_found text)
text-tells m None = refl
text-tells m (Some text) = tt

pub tells-store : (first : Bool) (told : Option BodyMap) (schema : Option Schema) → (first ≡ true → IsSome told) → first ≡ true
    → TellsStore (kept_in first told schema) (saved_in first told schema)
tells-store first None schema law is = absurd (false≢true (law is))
tells-store first (Some m) (Some schema) law is = refl
tells-store true (Some m) None law is = text-tells m (text_at m)
tells-store false (Some m) None law is = absurd (false≢true is)

text-none : (m : BodyMap) (text : Option (List ℕ)) (kept : KeptSchema) → IsReopened (found_in m text) (tables_found text) kept
text-none m None kept = tt
text-none m (Some text) kept = tt

pub reopens : (first : Bool) (told : Option BodyMap) (schema : Option Schema) (pending : Pending) → IsGoodFor schema told pending → first ≡ true
    → IsReopened (kept_in first told schema) (saved_in first told schema) (kept_in first told None)
reopens false told schema pending good is = absurd (false≢true is)
reopens true None None pending good is = tt
reopens true (Some m) None pending good is = text-none m (text_at m) (found_in m (text_at m))
reopens true None (Some schema) pending good is = tt
reopens true (Some m) (Some schema) pending good is =
    subst (λ (o : Option (List ℕ)). IsReopened (Keeps schema) (Some (tables_in schema m)) (found_in m o)) (sym good.good.text) (refl, refl)
