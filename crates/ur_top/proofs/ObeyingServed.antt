-- What is so after a project was served.
use Rattle.std.proofs.Common.{◌≡◌, ◌≢◌, inl, inr, ℕ, zero, suc, ◌+◌, ◌≤◌, ◌<◌, Bool, true, false, List, [], ◌∷◌, length, Option, Some, None, Any}
use Rattle.std.proofs.Common.{refl, sym, ap, subst, ◌∙◌, arith}
use Rattle.std.specs.Prelude.{IsSome}
use Rattle.std.proofs.lemmas.Bool.{false≢true}
use Rattle.std.proofs.lemmas.List.Sums.{sum_by-cons}
use Rattle.ur_base.specs.Counts.{Rose, RoseBy}
use Rattle.ur_base.specs.Told.{WhereTold, Tells}
use Rattle.ur_io.specs.Calls.{count_after}
use Rattle.ur_io.specs.Files.{Files}
use Rattle.ur_io.specs.Traffic.{Traffic}
use Rattle.ur_io.specs.declared.session.SessionEnd.{SessionEnd}
use Rattle.ur_words.specs.declared.reading.Reading.{Reading}
use Rattle.ur_words.specs.declared.reading.Reading.TheVariants.{Replay, Serve}
use Rattle.ur_words.specs.declared.reading.Settings.{Settings}
use Rattle.ur_values.specs.declared.schema.Schema.{Schema}
use Rattle.ur_values.specs.Extends.{extends}
use Rattle.ur_keeper.specs.Growing.{grown_tables}
use Rattle.ur_keeper.specs.Keeper.{AttachesTo, TellsStore, HasOther}
use Rattle.ur_keeper.specs.declared.keeper.Attached.TheVariants.{Ready}
use Rattle.ur_keeper.specs.Tables.{Tables, KeptSchema, Untold, Empty, Keeps, Spells, AreSound, store_of}
use Rattle.ur_tags.specs.Routes.{AreRoutes}
use Rattle.ur_code.specs.declared.code.Code.{Code}
use Rattle.ur_conditions.specs.Patterns.{AreAllPatterns}
use Rattle.ur_tree.specs.declared.typed.Typed.{Typed}
use Rattle.ur_compile.specs.Accepts.{Accepts, OneApplication}
use Rattle.ur_compile.specs.Kept.{IsCodeFor}
use Rattle.ur_serve.specs.Serving.{ServerState}
use Rattle.ur_headline.specs.Counting.{keeper_faults, wire_faults, is_wire, IsCutOff}
use Rattle.ur_headline.specs.Laws.{IsCodeOfSource, ServedRunServes, LinksOfSourceLead}
use Rattle.ur_headline.specs.Readings.{Serving, serving, IfServing}
use Rattle.ur_headline.specs.Served.{HasServed}
use Rattle.ur_headline.specs.Serves.{AttachLeaves, IsAttached, Serves}
use Rattle.ur_headline.proofs.Counting.{rose_none, rose_counted}
use Rattle.ur_top.specs.Ends.{World, SameWire, Ends, failed_next, IsUnserved}
use Rattle.ur_top.specs.Obeyed.{Obeyed}
use Rattle.ur_top.specs.Serving.{HasFewRequests, ServesOn, IsReplayed, IsUnsaid}
use Rattle.ur_top.specs.Sources.{ForApplication, OfFiles, IsCoded}
use Rattle.ur_top.specs.Starting.{Held, IsStarted}
use Rattle.ur_top.specs.declared.reporting.RunEnd.{RunEnd}
use Rattle.ur_top.specs.declared.reporting.RunEnd.TheVariants as end
use Rattle.ur_top.proofs.Cases.{none_cut, told_is, told_more}
use Rattle.ur_top.proofs.Goings.{no_requests}
use Rattle.ur_top.proofs.ObeyingIdle.{held, none_counted}

-- ---- the application of the files

-- what holds of an application of the files holds of each that they are
pub the_application : OneApplication → (told : Option Files) (reading : Option Reading) (s : Serving) → serving reading ≡ Some s →
    (Q : Typed → Type 0) (P : Serving → Typed → Type 0)
    → OfFiles told s.project Q → ((app : Typed) → Q app → P s app) → ForApplication told reading P
the_application one told reading s is Q P h f =
    subst (λ o. WhereTold told (λ files. IfServing o (λ r. (app : Typed) → Accepts files r.project app → P r app))) (sym is)
    (told_more told (λ files. (app : Typed) × Accepts files s.project app × Q app) (λ files. (app : Typed) → Accepts files s.project app → P s app) h
    (λ files x app a. f app (subst Q (one files s.project x.0 app x.1 a) x.2)))

-- code that has routes which can be told apart
code_of_source : (app : Typed) (code : Code) → IsCodeFor app code → AreRoutes code.handlers → IsCodeOfSource app code
code_of_source app code h routes = record {
  routes = routes;
  handlers = h.handlers;
  cookies = h.cookies;
  schema = h.schema;
  queries = h.queries;
  changes = h.changes;
  fits = h.fits;
  meaning = h.meaning;
}

-- ---- what `attach` leaves

-- the application's schema extends one that was kept
its_extends : (schema other : Schema) (kept : KeptSchema) (saved saved' : Option Tables) → AttachesTo schema kept Ready saved saved' → kept ≡ Keeps other →
    extends schema other ≡ true
its_extends schema other kept saved saved' h is = let at = subst (λ k. AttachesTo schema k Ready saved saved') is h in at.0

-- no other schema was told
no_other : (schema : Schema) (kept : KeptSchema) (saved saved' : Option Tables) → AttachesTo schema kept Ready saved saved' → HasOther schema kept → ⊥
no_other schema Untold saved saved' h other = other
no_other schema Empty saved saved' h other = other
no_other schema (Keeps k) saved saved' h other = absurd (false≢true (sym other ∙ h.0))
no_other schema (Spells text tables) saved saved' h other = absurd (false≢true (sym (other h.0 h.1) ∙ h.2))

-- where it was told what the store has, the tables are told
pub tells_after : (schema : Schema) (kept : KeptSchema) (saved saved' : Option Tables) → AttachesTo schema kept Ready saved saved' → TellsStore kept saved →
    IsSome saved'
tells_after schema Untold saved saved' h tells = absurd tells
tells_after schema Empty None saved' h tells = absurd (false≢true tells)
tells_after schema Empty (Some t) saved' h tells = subst IsSome (sym h) refl
tells_after schema (Keeps k) None saved' h tells = absurd (false≢true tells)
tells_after schema (Keeps k) (Some t) saved' h tells = subst IsSome (sym h.1) refl
tells_after schema (Spells text tables) saved saved' h tells = subst IsSome (sym h.3) refl

is_attached : (schema : Schema) (kept : KeptSchema) (saved saved' : Option Tables) → AttachesTo schema kept Ready saved saved' →
    IsAttached schema kept saved saved'
is_attached schema Untold saved saved' h = tt
is_attached schema Empty saved saved' h = inr h
is_attached schema (Keeps k) saved saved' h = inr h
is_attached schema (Spells text tables) saved saved' h = inr h

attach_leaves : (schema : Schema) (kept : KeptSchema) (saved : Option Tables) (tables : Tables) → AttachesTo schema kept Ready saved (Some tables) →
    AttachLeaves schema kept saved tables
attach_leaves schema Untold saved tables h = tt
attach_leaves schema Empty None tables h = cc
attach_leaves schema Empty (Some t) tables h = cc
attach_leaves schema (Keeps k) saved tables h = h.1
attach_leaves schema (Spells text has) saved tables h = (h.0, h.1, h.2, (let same : Some tables ≡ Some (grown_tables schema h.0 (has h.0)) = h.3 in cc))

-- ---- what was served

-- where wire and tables are told, the sessions are those that the headline says
run_served : ServedRunServes → (app : Typed) (s : ServerState) → IsCodeOfSource app s.code → AreAllPatterns s.code.queries s.code.changes s.patterns →
    s.steps ≤ 4294967295
    → (settings : Settings) → settings.steps ≡ s.steps → settings.cache ≡ s.cache.capacity
    → (kept : KeptSchema) (wire wire' : Option Traffic) (saved mid saved' : Option Tables) (reads reads' : ℕ) (sessions : List SessionEnd)
    → AttachesTo app.schema kept Ready saved mid → WhereTold mid (AreSound app.schema) → IsSome mid
    → WhereTold wire (λ t. WhereTold mid (λ tables. Tells wire' (λ u. Tells saved' (λ after. HasServed s (store_of tables) reads t sessions (store_of after) reads' u))))
    → WhereTold wire (λ t. Tells saved' (λ after. Serves app settings kept saved t sessions wire' (store_of after) reads reads'))
run_served law app s code all few settings steps cache kept None wire' saved mid saved' reads reads' sessions attached sound some served = tt
run_served law app s code all few settings steps cache kept (Some t) wire' saved None saved' reads reads' sessions attached sound some served = absurd (let no : false ≡ true = some in cc)
run_served law app s code all few settings steps cache kept (Some t) None saved (Some tables) saved' reads reads' sessions attached sound some served = absurd served
run_served law app s code all few settings steps cache kept (Some t) (Some u) saved (Some tables) None reads reads' sessions attached sound some served = absurd served
run_served law app s code all few settings steps cache kept (Some t) (Some u) saved (Some tables) (Some after) reads reads' sessions attached sound some served =
    law app s code all few settings steps cache kept saved tables (attach_leaves app.schema kept saved tables attached) sound t u sessions (store_of after) reads reads' served

-- ---- all of it

-- a count that rose so much behind a place rose as much behind an earlier one
rose_before : (n old mid new : ℕ) → old ≤ mid → RoseBy n mid new → RoseBy n old new
rose_before n old mid new le h = grind arith

-- What is so after a project's server was started and, maybe, has served.
pub record HasRun (tells : Type 0) (most : ℕ) (old : World) (mid : Held) (s : ServerState) (new : World) (sessions : List SessionEnd) : Type 0 where
  pub told : tells → IsSome mid.saved
  pub served : sessions ≢ [] → WhereTold old.wire (λ t. WhereTold mid.saved (λ tables. Tells new.wire (λ u. Tells new.saved (λ after.
      HasServed s (store_of tables) old.reads t sessions (store_of after) new.reads u))))
  pub keeper_rose : RoseBy (keeper_faults sessions) mid.faults new.keeper_faults
  pub few : length sessions ≤ most
  pub idle : sessions ≡ [] → WhereTold old.wire (λ t. new.wire ≡ Some t) × (new.reads ≡ old.reads) × (new.saved ≡ mid.saved)
  pub kept : new.kept ≡ mid.kept
  pub at_rest : new.under_way ≡ false
  pub shelf_later : old.shelf_faults ≤ new.shelf_faults
  pub wire_later : old.wire_faults ≤ new.wire_faults
  pub requests : HasFewRequests sessions
  pub keeper_earlier : old.keeper_faults ≤ mid.faults
  pub keeper_later : mid.faults ≤ new.keeper_faults

-- the same by the clauses of the loop over connections, whose count of scans begins at the one before
pub has_run : (tells : Type 0) (most : ℕ) (old : World) (mid : Held) (reads : ℕ) (s : ServerState) (new : World) (sessions : List SessionEnd) →
    reads ≡ old.reads → (tells → IsSome mid.saved)
    → WhereTold old.wire (λ t. WhereTold mid.saved (λ tables. Tells new.wire (λ u. Tells new.saved (λ after. HasServed s (store_of tables) reads t sessions (store_of after) new.reads u))))
    → RoseBy (keeper_faults sessions) mid.faults new.keeper_faults → length sessions ≤ most → HasFewRequests sessions
    → (sessions ≡ [] → WhereTold old.wire (λ t. new.wire ≡ Some t) × (new.reads ≡ reads) × (new.saved ≡ mid.saved)) → new.kept ≡ mid.kept → new.under_way ≡ false
    → (old.wire_faults ≤ new.wire_faults) × (mid.faults ≤ new.keeper_faults) → (old.shelf_faults ≤ new.shelf_faults) × (old.keeper_faults ≤ mid.faults) → HasRun tells most old mid s new sessions
has_run tells most old mid reads s new sessions same tell served keeper few requests idle kept rest later earlier = record {
  told = tell;
  served = λ some. subst (λ n. WhereTold old.wire (λ t. WhereTold mid.saved (λ tables. Tells new.wire (λ u. Tells new.saved (λ after.
      HasServed s (store_of tables) n t sessions (store_of after) new.reads u))))) same served;
  keeper_rose = keeper;
  few = few;
  requests = requests;
  idle = λ none. ((idle none).0, (idle none).1 ∙ same, (idle none).2);
  kept = kept;
  at_rest = rest;
  shelf_later = earlier.0;
  wire_later = later.0;
  keeper_earlier = earlier.1;
  keeper_later = later.1;
}

module _ (one : OneApplication) (law : ServedRunServes) (links : LinksOfSourceLead) (told : Option Files) (tells : Type 0) (reading : Option Reading) (sv : Serving) (is : serving reading ≡ Some sv) where
  module _ (old : World) (mid : Held) (under_way : Bool) (s : ServerState) (started : IsStarted told sv.project sv.settings (held old) mid under_way s) where
    of_app : (P : Serving → Typed → Type 0) → ((app : Typed) → IsCodeFor app s.code → P sv app) → ForApplication told reading P
    of_app P f = the_application one told reading sv is (λ app. IsCodeFor app s.code) P started.coded f

    source : (app : Typed) → IsCodeFor app s.code → IsCodeOfSource app s.code
    source app code = code_of_source app s.code code started.server.routes

    attaches : (app : Typed) → IsCodeFor app s.code → AttachesTo app.schema old.kept Ready old.saved mid.saved
    attaches app code = subst (λ z. AttachesTo z old.kept Ready old.saved mid.saved) code.schema started.server.attached

    pub run_obeys : (new : World) (e : RunEnd) (sessions : List SessionEnd) → (IsUnserved e → ⊥) → HasRun tells sv.most old mid s new sessions
        → new.wire_faults ≡ count_after (wire_faults sessions + failed_next reading sessions e) old.wire_faults → (sessions ≡ [] → e ≡ end.Memory → SameWire old new)
        → Ends told reading old new e sessions → Obeyed told tells reading old new e sessions
    run_obeys new e sessions serves h counted wanting ends = record {
      serves = of_app _ (λ app code some tells.
          run_served law app s (source app code) started.patterns (subst (λ n. n ≤ 4294967295) (sym (ap (λ (z : ServerState). z.steps) started.server.is)) started.server.units)
          sv.settings (sym (ap (λ (z : ServerState). z.steps) started.server.is)) (sym (ap (λ (z : ServerState). z.cache.capacity) started.server.is))
          old.kept old.wire new.wire old.saved mid.saved new.saved old.reads new.reads sessions (attaches app code)
          (subst (λ z. WhereTold mid.saved (AreSound z)) code.schema started.server.sound) (h.told tells) (h.served some));
      links = of_app _ (λ app code some. links app s.code (source app code));
      ends = ends;
      keeper_rose = rose_before (keeper_faults sessions) old.keeper_faults mid.faults new.keeper_faults h.keeper_earlier h.keeper_rose;
      wire_counted = counted;
      few = subst (λ o. IfServing o (λ r. length sessions ≤ r.most)) (sym is) h.few;
      few_requests = h.requests;
      no_serving = λ none. absurd (let two = sym is ∙ none in cc);
      idle = λ x. ((h.idle x).0, (h.idle x).1);
      wanting = wanting;
      attached = of_app _ (λ app code x. subst (IsAttached app.schema old.kept old.saved) (sym (h.idle x).2) (is_attached app.schema old.kept old.saved mid.saved (attaches app code)));
      unserved = λ x. absurd (serves x);
      left = λ x. (s.code.schema, subst (IsAttached s.code.schema old.kept old.saved) (sym (h.idle x).2) (is_attached s.code.schema old.kept old.saved mid.saved started.server.attached));
      kept = of_app _ (λ app code. inr (h.kept ∙ started.server.ready.schema ∙ ap Keeps code.schema));
      schema_kept = λ k is. (s.code.schema, h.kept ∙ started.server.ready.schema, its_extends s.code.schema k old.kept old.saved mid.saved started.server.attached is);
      at_rest = h.at_rest;
      shelf_later = h.shelf_later;
      wire_later = h.wire_later;
      keeper_later = omega (arith, h.keeper_earlier, h.keeper_later);
    }

    -- no connection was asked for
    pub stopped_obeys : (new : World) (e : RunEnd) → (IsUnserved e → ⊥) → held new ≡ mid → new.wire ≡ old.wire → new.wire_faults ≡ old.wire_faults → new.current ≡ old.current → new.reads ≡ old.reads → new.under_way ≡ under_way → failed_next reading [] e ≡ 0
        → old.shelf_faults ≤ new.shelf_faults → old.keeper_faults ≤ new.keeper_faults → (tells → IsSome mid.saved) → Ends told reading old new e [] → Obeyed told tells reading old new e []
    stopped_obeys new e serves same wire faults current reads way unasked shelf keeper tell ends = run_obeys new e [] serves (record {
      told = tell;
      served = λ some. absurd (some refl);
      keeper_rose = rose_none mid.faults new.keeper_faults (omega (arith, ap (λ (z : Held). z.faults) same));
      few = omega arith;
      requests = no_requests;
      idle = λ x. (told_is old.wire _ (λ t at. wire ∙ at), reads, ap (λ (z : Held). z.saved) same);
      kept = ap (λ (z : Held). z.kept) same;
      at_rest = way ∙ started.server.ready.at_rest;
      shelf_later = shelf;
      wire_later = omega (arith, faults);
      keeper_earlier = omega (arith, keeper, ap (λ (z : Held). z.faults) same);
      keeper_later = omega (arith, ap (λ (z : Held). z.faults) same);
    }) (faults ∙ none_counted (failed_next reading [] e) old.wire_faults unasked) (λ none is. (wire, faults, current)) ends

-- ---- how it ends

pub is_compiled : (told : Option Files) (word : List ℕ) (settings : Settings) (old mid : Held) (under_way : Bool) (s : ServerState) →
    IsStarted told word settings old mid under_way s → OfFiles told word IsCoded
is_compiled told word settings old mid under_way s h =
    told_more told (λ files. (app : Typed) × Accepts files word app × IsCodeFor app s.code) (λ files. (app : Typed) × Accepts files word app × IsCoded app) h.coded
    (λ files x. (x.0, x.1, record { code = s.code; is_code = x.2 }))

abbrev pub KeepsIts : KeptSchema → Typed → Type 0
KeepsIts kept app = HasOther app.schema kept → ⊥

pub keeps_its : (told : Option Files) (word : List ℕ) (settings : Settings) (old mid : Held) (under_way : Bool) (s : ServerState) →
    IsStarted told word settings old mid under_way s
    → OfFiles told word (KeepsIts old.kept)
keeps_its told word settings old mid under_way s h =
    told_more told (λ files. (app : Typed) × Accepts files word app × IsCodeFor app s.code) (λ files. (app : Typed) × Accepts files word app × KeepsIts old.kept app) h.coded
    (λ files x. (x.0, x.1, λ other. no_other s.code.schema old.kept old.saved mid.saved h.server.attached (subst (λ z. HasOther z old.kept) (sym x.2.schema) other)))

-- a session that was cut off counts
pub cut_counts : (sessions : List SessionEnd) → Any IsCutOff sessions → 0 < wire_faults sessions
cut_counts [] any = absurd (none_cut [] refl any)
cut_counts (s ∷ sessions) (zero, x, within, is, p) =
    let this : is_wire s.why ≡ 1 = ap is_wire (ap (λ (z : SessionEnd). z.why) is ∙ p) in
    let parts : wire_faults (s ∷ sessions) ≡ is_wire s.why + wire_faults sessions = sum_by-cons (λ (z : SessionEnd). is_wire z.why) s sessions in
    omega (arith, this, parts)
cut_counts (s ∷ sessions) (suc k, x, within, is, p) =
    let later : 0 < wire_faults sessions = cut_counts sessions (k, x, omega (arith, within), is, p) in
    let parts : wire_faults (s ∷ sessions) ≡ is_wire s.why + wire_faults sessions = sum_by-cons (λ (z : SessionEnd). is_wire z.why) s sessions in
    omega (arith, later, parts)

rose_some : (n old new : ℕ) → 0 < n → RoseBy n old new → Rose old new
rose_some n old new some h = grind (arith, some, h)

-- the count rose so often, and so it rose
rose_often : (n old new : ℕ) → 0 < n → new ≡ count_after n old → Rose old new
rose_often n old new some is = rose_some n old new some (rose_counted n old new is)

-- none more
none_more : (n old new : ℕ) → new ≡ count_after n old → new ≡ count_after (n + 0) old
none_more n old new is =
    let same : n ≡ n + 0 = omega arith in
    is ∙ ap (λ k. count_after k old) same

no_length : (sessions : List SessionEnd) → length sessions < 1 → sessions ≡ []
no_length [] h = refl
no_length (s ∷ sessions) h = absurd (omega (arith, h))

module _ (told : Option Files) (word : List ℕ) (settings : Settings) (old new : World) (sessions : List SessionEnd) (compiled : OfFiles told word IsCoded) (schema : OfFiles told word (KeepsIts old.kept)) where
  abbrev On : ℕ → RunEnd → Type 0
  On most e = ServesOn most old.wire old.wire_faults new.wire_faults new.current e sessions

  -- ---- of `replay`

  whole_ends : (e : RunEnd) → On 1 e → (Any IsCutOff sessions → ⊥) → Ends told (Some (Replay word settings)) old new e sessions
  whole_ends end.Done on whole = record {
    compiled = compiled;
    serves = λ none. cc;
    none_current = on.0 (omega arith);
    same_schema = schema;
    all = on.1;
    whole = λ p s is. whole;
  }
  whole_ends end.Wire on whole = record {
    compiled = compiled;
    serves = λ none. cc;
    none_current = on.1;
    same_schema = schema;
    rose = rose_often (wire_faults sessions + 1) old.wire_faults new.wire_faults (omega arith) on.2;
    status = inl (no_length sessions on.0);
  }
  whole_ends end.Memory on whole = record { none_current = on.0; same_schema = λ any. schema; whole = λ p s is. whole }
  whole_ends e on whole = absurd on

  -- where there is a session, the wire was shut
  shut : (most : ℕ) (e : RunEnd) → 0 < most → On most e → sessions ≢ [] → new.current ≡ false
  shut most end.Done some on any = on.0 some
  shut most end.Wire some on any = on.1
  shut most end.Memory some on any = on.0 any
  shut most e some on any = absurd on

  -- the count rose where one was cut off
  cut_rose : (most : ℕ) (e : RunEnd) → On most e → Any IsCutOff sessions → Rose old.wire_faults new.wire_faults
  cut_rose most end.Done on cut = rose_often (wire_faults sessions) old.wire_faults new.wire_faults (cut_counts sessions cut) on.2
  cut_rose most end.Wire on cut = rose_often (wire_faults sessions + 1) old.wire_faults new.wire_faults (omega arith) on.2
  cut_rose most end.Memory on cut = rose_often (wire_faults sessions) old.wire_faults new.wire_faults (cut_counts sessions cut) on.1
  cut_rose most e on cut = absurd on

  cut_ends : (e : RunEnd) → On 1 e → Any IsCutOff sessions → Ends told (Some (Replay word settings)) old new end.Wire sessions
  cut_ends e on cut = record {
    compiled = compiled;
    serves = λ none. cc;
    none_current = shut 1 e (omega arith) on (λ none. none_cut sessions none cut);
    same_schema = schema;
    rose = cut_rose 1 e on cut;
    status = inr cut;
  }

  pub replay_ends : (e e' : RunEnd) (sessions' : List SessionEnd) → On 1 e → IsReplayed e sessions e' sessions'
      → Ends told (Some (Replay word settings)) old new e' sessions
  replay_ends e e' sessions' on (same, inl (is, cut)) = subst (λ z. Ends told (Some (Replay word settings)) old new z sessions) (sym is) (cut_ends e on cut)
  replay_ends e e' sessions' on (same, inr (is, whole)) = subst (λ z. Ends told (Some (Replay word settings)) old new z sessions) (sym is) (whole_ends e on whole)

  -- ---- of `serve`

  pub serve_ends : (port most : ℕ) (e : RunEnd) → 0 < most → On most e → Ends told (Some (Serve word port settings most)) old new e sessions
  serve_ends port most end.Done some on = record {
    compiled = compiled;
    serves = λ none. cc;
    none_current = on.0 some;
    same_schema = schema;
    all = on.1;
    whole = λ p s is cut. cc;
  }
  serve_ends port most end.Wire some on = record {
    compiled = compiled;
    serves = λ none. cc;
    none_current = on.1;
    same_schema = schema;
    rose = rose_often (wire_faults sessions + 1) old.wire_faults new.wire_faults (omega arith) on.2;
    status = tt;
  }
  serve_ends port most end.Memory some on = record { none_current = on.0; same_schema = λ any. schema; whole = λ p s is cut. cc }
  serve_ends port most e some on = absurd on

-- ---- the wire's count

module _ (word : List ℕ) (settings : Settings) (told : Option Traffic) (faults faults' : ℕ) (current : Bool) where
  pub serve_counts : (port n most : ℕ) (e : RunEnd) (sessions : List SessionEnd) → ServesOn most told faults faults' current e sessions
      → faults' ≡ count_after (wire_faults sessions + failed_next (Some (Serve word port settings n)) sessions e) faults
  serve_counts port n most end.Done sessions on = none_more (wire_faults sessions) faults faults' on.2
  serve_counts port n most end.Wire sessions on = on.2
  serve_counts port n most end.Memory sessions on = none_more (wire_faults sessions) faults faults' on.1
  serve_counts port n most e sessions on = absurd on

  abbrev Counts : RunEnd → List SessionEnd → Type 0
  Counts e sessions = faults' ≡ count_after (wire_faults sessions + failed_next (Some (Replay word settings)) sessions e) faults

  whole_counts : (e : RunEnd) (sessions : List SessionEnd) → ServesOn 1 told faults faults' current e sessions → Counts e sessions
  whole_counts end.Done sessions on = none_more (wire_faults sessions) faults faults' on.2
  whole_counts end.Wire [] on = on.2
  whole_counts end.Wire (s ∷ sessions) on = absurd (let none = no_length (s ∷ sessions) on.0 in cc)
  whole_counts end.Memory sessions on = none_more (wire_faults sessions) faults faults' on.1
  whole_counts e sessions on = absurd on

  cut_off_counts : (e : RunEnd) (sessions : List SessionEnd) → ServesOn 1 told faults faults' current e sessions → Any IsCutOff sessions → Counts end.Wire sessions
  cut_off_counts e [] on cut = absurd (none_cut [] refl cut)
  cut_off_counts end.Done (s ∷ sessions) on cut = none_more (wire_faults (s ∷ sessions)) faults faults' on.2
  cut_off_counts end.Wire (s ∷ sessions) on cut = absurd (let none = no_length (s ∷ sessions) on.0 in cc)
  cut_off_counts end.Memory (s ∷ sessions) on cut = none_more (wire_faults (s ∷ sessions)) faults faults' on.1
  cut_off_counts e (s ∷ sessions) on cut = absurd on

  pub replay_counts : (e e' : RunEnd) (sessions sessions' : List SessionEnd) → ServesOn 1 told faults faults' current e sessions → IsReplayed e sessions e' sessions' → Counts e' sessions
  replay_counts e e' sessions sessions' on (same, inl (is, cut)) = subst (λ z. Counts z sessions) (sym is) (cut_off_counts e sessions on cut)
  replay_counts e e' sessions sessions' on (same, inr (is, whole)) = subst (λ z. Counts z sessions) (sym is) (whole_counts e sessions on)

-- ---- serving began

pub on_serves : (most : ℕ) (told : Option Traffic) (faults faults' : ℕ) (current : Bool) (e : RunEnd) (sessions : List SessionEnd) →
    ServesOn most told faults faults' current e sessions → IsUnserved e → ⊥
on_serves most told faults faults' current end.Done sessions on x = x
on_serves most told faults faults' current end.Wire sessions on x = x
on_serves most told faults faults' current end.Memory sessions on x = x
on_serves most told faults faults' current e sessions on x = absurd on

replay_serves : (most : ℕ) (told : Option Traffic) (faults faults' : ℕ) (current : Bool) (e e' : RunEnd) (sessions sessions' : List SessionEnd) →
    ServesOn most told faults faults' current e sessions
    → IsReplayed e sessions e' sessions' → IsUnserved e' → ⊥
replay_serves most told faults faults' current e e' sessions sessions' on (same, inl (is, cut)) x = subst IsUnserved is x
replay_serves most told faults faults' current e e' sessions sessions' on (same, inr (is, whole)) x = on_serves most told faults faults' current e sessions on (subst IsUnserved is x)

-- where the first line was not printed
pub line_serves : (port : ℕ) (told told' : Option (List ℕ)) (faults faults' : ℕ) (e : RunEnd) → IsUnsaid port told told' faults faults' e → IsUnserved e → ⊥
line_serves port told told' faults faults' end.Sink h x = x
line_serves port told told' faults faults' end.Memory h x = x
line_serves port told told' faults faults' e h x = absurd h

pub line_next : (port : ℕ) (told told' : Option (List ℕ)) (faults faults' : ℕ) (reading : Option Reading) (e : RunEnd) →
    IsUnsaid port told told' faults faults' e → failed_next reading [] e ≡ 0
line_next port told told' faults faults' reading end.Sink h = refl
line_next port told told' faults faults' reading end.Memory h = refl
line_next port told told' faults faults' reading e h = absurd h

-- what holds where memory was wanting
replay_wants : (e e' : RunEnd) (sessions sessions' : List SessionEnd) (A : Type 0) → IsReplayed e sessions e' sessions' →
    (sessions ≡ [] → e ≡ end.Memory → A) → sessions ≡ [] → e' ≡ end.Memory → A
replay_wants e e' sessions sessions' A (same, inl (is, cut)) wanting none wants = absurd (let two : end.Wire ≡ end.Memory = sym is ∙ wants in cc)
replay_wants e e' sessions sessions' A (same, inr (is, whole)) wanting none wants = wanting none (sym is ∙ wants)

-- ---- the two commands

module _ (one : OneApplication) (law : ServedRunServes) (links : LinksOfSourceLead) (told : Option Files) (tells : Type 0) (word : List ℕ) (settings : Settings)
    (old : World) (mid : Held) (under_way : Bool) (s : ServerState) (started : IsStarted told word settings (held old) mid under_way s) (new : World) (sessions : List SessionEnd) where
  pub replay_obeys : (e e' : RunEnd) (sessions' : List SessionEnd) → HasRun tells 1 old mid s new sessions
      → ServesOn 1 old.wire old.wire_faults new.wire_faults new.current e sessions → IsReplayed e sessions e' sessions' → (sessions ≡ [] → e ≡ end.Memory → SameWire old new)
      → Obeyed told tells (Some (Replay word settings)) old new e' sessions'
  replay_obeys e e' sessions' h on replayed wanting =
      subst (λ z. Obeyed told tells (Some (Replay word settings)) old new e' z) (sym replayed.0)
      (run_obeys one law links told tells (Some (Replay word settings)) (record { project = word; settings = settings; most = 1 }) refl old mid under_way s started new e' sessions
      (replay_serves 1 old.wire old.wire_faults new.wire_faults new.current e e' sessions sessions' on replayed) h
      (replay_counts word settings old.wire old.wire_faults new.wire_faults new.current e e' sessions sessions' on replayed)
      (replay_wants e e' sessions sessions' (SameWire old new) replayed wanting)
      (replay_ends told word settings old new sessions (is_compiled told word settings (held old) mid under_way s started) (keeps_its told word settings (held old) mid under_way s started)
      e e' sessions' on replayed))

  pub serve_obeys : (port most : ℕ) (e : RunEnd) → 0 < most → HasRun tells most old mid s new sessions
      → ServesOn most old.wire old.wire_faults new.wire_faults new.current e sessions → (sessions ≡ [] → e ≡ end.Memory → SameWire old new)
      → Obeyed told tells (Some (Serve word port settings most)) old new e sessions
  serve_obeys port most e some h on wanting =
      run_obeys one law links told tells (Some (Serve word port settings most)) (record { project = word; settings = settings; most = most }) refl old mid under_way s started new e sessions
      (on_serves most old.wire old.wire_faults new.wire_faults new.current e sessions on) h
      (serve_counts word settings old.wire old.wire_faults new.wire_faults new.current port most most e sessions on) wanting
      (serve_ends told word settings old new sessions (is_compiled told word settings (held old) mid under_way s started) (keeps_its told word settings (held old) mid under_way s started)
      port most e some on)
