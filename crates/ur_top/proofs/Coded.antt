-- What is known of the application of files whose code is known.
use Rattle.std.proofs.Common.{◌≡◌, ℕ, Bool, List, length, Option, Some, None, Result, Ok, Err, IfOk, IfErr, sym, ap, subst, ◌∙◌}
use Rattle.ur_io.specs.Files.{Files}
use Rattle.ur_code.specs.declared.code.Code.{Code}
use Rattle.ur_tags.specs.declared.routes.Handlers.{Handlers}
use Rattle.ur_conditions.specs.declared.patterns.Patterns.{Patterns}
use Rattle.ur_conditions.specs.Patterns.{AreAllPatterns}
use Rattle.ur_invalidate.specs.Texts.{sites_text}
use Rattle.ur_tree.specs.declared.typed.Typed.{Typed}
use Rattle.ur_compile.specs.Kept.{IsCodeFor}
use Rattle.ur_words.specs.declared.reading.Settings.{Settings}
use Rattle.ur_values.specs.declared.schema.Schema.{Schema}
use Rattle.ur_serve.specs.Serving.{ServerState}
use Rattle.ur_top.specs.Sources.{OfFiles, IsCoded}
use Rattle.ur_top.specs.Starting.{Held, IsListed, HoldsOther, Unattached, Unstarted, IsAttachedServer, IsStarted}
use Rattle.ur_top.specs.declared.reporting.RunEnd.{RunEnd}
use Rattle.ur_top.specs.declared.reporting.RunEnd.TheVariants as end

-- what follows of each application follows of the files'
pub of_files : (told : Option Files) (word : List ℕ) (P Q : Typed → Type 0) → OfFiles told word P → ((app : Typed) → P app → Q app) → OfFiles told word Q
of_files None word P Q h f = tt
of_files (Some files) word P Q (app, accepts, p) f = (app, accepts, f app p)

pub coded : (told : Option Files) (word : List ℕ) (code : Code) → OfFiles told word (λ app. IsCodeFor app code) → OfFiles told word IsCoded
coded told word code h = of_files told word (λ app. IsCodeFor app code) IsCoded h (λ app is. record { code = code; is_code = is })

pub routes_of : (told : Option Files) (word : List ℕ) (code : Code) (routes : ℕ) → routes ≡ length code.handlers.routes →
    OfFiles told word (λ app. IsCodeFor app code)
    → OfFiles told word (λ app. routes ≡ length app.handlers.routes)
routes_of told word code routes is h =
    of_files told word (λ app. IsCodeFor app code) (λ app. routes ≡ length app.handlers.routes) h (λ app its. is ∙ ap (λ (hs : Handlers). length hs.routes) its.handlers)

pub listed : (told : Option Files) (word : List ℕ) (code : Code) (patterns : Patterns) (text : List ℕ) → AreAllPatterns code.queries code.changes patterns
    → text ≡ sites_text code.queries code.changes patterns → OfFiles told word (λ app. IsCodeFor app code) → IsListed told word text
listed told word code patterns text all is h = record {
  queries = code.queries;
  changes = code.changes;
  patterns = patterns;
  its = of_files told word (λ app. IsCodeFor app code) (λ app. (code.queries ≡ app.queries) × (code.changes ≡ app.changes)) h (λ app its. (its.queries, its.changes));
  all = all;
  is = is;
}

-- ---- a server of the code

pub started : (told : Option Files) (word : List ℕ) (code : Code) (patterns : Patterns) (settings : Settings) (old new : Held) (under_way : Bool) (s : ServerState)
    → OfFiles told word (λ app. IsCodeFor app code) → AreAllPatterns code.queries code.changes patterns → IsAttachedServer code patterns settings old new under_way s
    → IsStarted told word settings old new under_way s
started told word code patterns settings old new under_way s of all server = record {
  coded = subst (λ (x : ServerState). OfFiles told word (λ app. IsCodeFor app x.code)) (sym server.is) of;
  patterns = subst (λ (x : ServerState). AreAllPatterns x.code.queries x.code.changes x.patterns) (sym server.is) all;
  server = subst (λ (x : ServerState). IsAttachedServer x.code x.patterns settings old new under_way s) (sym server.is) server;
}

pub if_started : (told : Option Files) (word : List ℕ) (code : Code) (patterns : Patterns) (settings : Settings) (old new : Held) (under_way : Bool) (r : Result ServerState RunEnd)
    → OfFiles told word (λ app. IsCodeFor app code) → AreAllPatterns code.queries code.changes patterns → IfOk r (IsAttachedServer code patterns settings old new under_way)
    → IfOk r (IsStarted told word settings old new under_way)
if_started told word code patterns settings old new under_way (Ok s) of all server = started told word code patterns settings old new under_way s of all server
if_started told word code patterns settings old new under_way (Err e) of all server = tt

unstarted : (told : Option Files) (word : List ℕ) (faults faults' : ℕ) (code : Code) (old new : Held) (e : RunEnd) →
    OfFiles told word (λ app. IsCodeFor app code)
    → Unattached code.schema old new e → Unstarted told word faults faults' old new e
unstarted told word faults faults' code old new (end.Schema kept application) of other = (
  of_files told word (λ app. IsCodeFor app code) (λ app. HoldsOther app.schema old new kept application) of
      (λ app its. subst (λ (schema : Schema). HoldsOther schema old new kept application) its.schema other),
  coded told word code of,
  other.differs,
  other.attaches,
  other.same_saved,
  other.same_kept,
)
unstarted told word faults faults' code old new end.Keeper of rose = (coded told word code of, rose)
unstarted told word faults faults' code old new end.Memory of want = tt
unstarted told word faults faults' code old new e of other = absurd other

pub if_unstarted : (told : Option Files) (word : List ℕ) (faults faults' : ℕ) (code : Code) (old new : Held) (r : Result ServerState RunEnd) →
    OfFiles told word (λ app. IsCodeFor app code)
    → IfErr r (Unattached code.schema old new) → IfErr r (Unstarted told word faults faults' old new)
if_unstarted told word faults faults' code old new (Ok s) of h = tt
if_unstarted told word faults faults' code old new (Err e) of h = unstarted told word faults faults' code old new e of h
