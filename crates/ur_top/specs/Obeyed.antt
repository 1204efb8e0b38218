-- What is so after a command was obeyed, all but its report.
use Rattle.std.specs.Prelude.{◌≡◌, ◌≢◌, ◌⊎◌, ◌+◌, ◌≤◌, true, false, List, [], length, Option, None}
use Rattle.ur_base.specs.Counts.{RoseBy}
use Rattle.ur_base.specs.Told.{WhereTold, Tells}
use Rattle.ur_io.specs.Calls.{count_after}
use Rattle.ur_io.specs.Files.{Files}
use Rattle.ur_io.specs.declared.session.SessionEnd.{SessionEnd}
use Rattle.ur_words.specs.declared.reading.Reading.{Reading}
use Rattle.ur_values.specs.declared.schema.Schema.{Schema}
use Rattle.ur_values.specs.Extends.{extends}
use Rattle.ur_keeper.specs.Tables.{Keeps, store_of}
use Rattle.ur_headline.specs.Counting.{keeper_faults, wire_faults}
use Rattle.ur_headline.specs.Readings.{serving, ForServing}
use Rattle.ur_headline.specs.Serves.{Serves, IsAttached}
use Rattle.ur_headline.specs.Source.{LinksLead}
use Rattle.ur_top.specs.Ends.{World, SameWire, Ends, failed_next, IsUnserved}
use Rattle.ur_top.specs.Serving.{HasFewRequests}
use Rattle.ur_top.specs.Sources.{ForApplication}
use Rattle.ur_top.specs.declared.reporting.RunEnd.{RunEnd}
use Rattle.ur_top.specs.declared.reporting.RunEnd.TheVariants as end

-- `tells`: the keeper told what its store has.
pub record Obeyed (told : Option Files) (tells : Type 0) (reading : Option Reading) (old new : World) (e : RunEnd) (sessions : List SessionEnd) : Type 0 where
  pub serves : ForApplication told reading (λ s app. sessions ≢ [] → tells → WhereTold old.wire (λ t. Tells new.saved (λ after.
      Serves app s.settings old.kept old.saved t sessions new.wire (store_of after) old.reads new.reads)))
  pub links : ForApplication told reading (λ s app. sessions ≢ [] → LinksLead app)
  pub ends : Ends told reading old new e sessions
  pub keeper_rose : RoseBy (keeper_faults sessions) old.keeper_faults new.keeper_faults
  pub wire_counted : new.wire_faults ≡ count_after (wire_faults sessions + failed_next reading sessions e) old.wire_faults
  pub few : ForServing reading (λ s. length sessions ≤ s.most)
  pub few_requests : HasFewRequests sessions
  -- a command that serves nothing leaves all but the shelf
  pub no_serving : serving reading ≡ None → (sessions ≡ []) × (new ≡ record old { shelf_faults = new.shelf_faults })
  pub idle : sessions ≡ [] → WhereTold old.wire (λ t. new.wire ≡ Option.Some t) × (new.reads ≡ old.reads)
  -- memory was wanting before the wire was called
  pub wanting : sessions ≡ [] → e ≡ end.Memory → SameWire old new
  pub attached : ForApplication told reading (λ s app. sessions ≡ [] → IsAttached app.schema old.kept old.saved new.saved)
  pub unserved : IsUnserved e → (new.saved ≡ old.saved) × (new.kept ≡ old.kept)
  pub left : sessions ≡ [] → (schema : Schema) × IsAttached schema old.kept old.saved new.saved
  pub kept : ForApplication told reading (λ s app. (new.kept ≡ old.kept) ⊎ (new.kept ≡ Keeps app.schema))
  pub schema_kept : (k : Schema) → old.kept ≡ Keeps k → (s : Schema) × (new.kept ≡ Keeps s) × (extends s k ≡ true)
  pub at_rest : new.under_way ≡ false
  pub shelf_later : old.shelf_faults ≤ new.shelf_faults
  pub wire_later : old.wire_faults ≤ new.wire_faults
  pub keeper_later : old.keeper_faults ≤ new.keeper_faults
