-- What becomes of a request once its last turn is over, and what an answer is in all.
use Rattle.std.specs.Prelude.{◌≡◌, ℕ, Bool, false, ◌||◌, List, [], Option, Result, Ok, Err, ⊤, if◌then◌else◌}
use Rattle.ur_base.specs.declared.refusal.Memory.{Memory}
use Rattle.ur_base.specs.Told.{WhereTold, Tells}
use Rattle.ur_keeper.specs.Tables.{Tables, KeptSchema, Keeps, store_of}
use Rattle.ur_http.specs.declared.request.HttpRequest.{HttpRequest}
use Rattle.ur_http.specs.Answers.{respond}
use Rattle.ur_conditions.specs.declared.patterns.Patterns.{Patterns}
use Rattle.ur_cache.specs.declared.cache.Settle.TheVariants.{Rollback}
use Rattle.ur_cache.specs.Entries.{Cached, settled}
use Rattle.ur_code.specs.declared.code.Code.{Code}
use Rattle.ur_machine.specs.Answers.{AreSavedAnswers, sites_of}
use Rattle.ur_machine.specs.declared.turn.Turn.{Turn}
use Rattle.ur_machine.specs.declared.turn.Turn.TheVariants as turn
use Rattle.ur_serve.specs.declared.responder.Reply.{Reply}
use Rattle.ur_serve.specs.declared.responder.Reply.TheVariants as reply
use Rattle.ur_serve.specs.Sessions.{Answer}
use Rattle.ur_serve.specs.Replies.{is_head, is_post}
use Rattle.ur_serve.specs.Program.{code_program, Holding, CachedAnswers}
use Rattle.ur_serve.specs.Served.{IfDone, UnlessDone}
use Rattle.ur_serve.specs.Serving.{AreServable, GrowBy}
use Rattle.ur_pages.specs.Pages.{Remembered}
use Rattle.ur_serve.specs.Pages.{ArePagesOf}
use Rattle.ur_serve.specs.Ending.{settle_for}

-- an answer that was built is given, and then the first holds; or it is not given, and then the second does
abbrev pub EndsWith : Result (List ℕ) Memory → (given unsaved : Type 0) → Reply → Type 0
EndsWith (Ok bytes) given unsaved (reply.Done own) = (own ≡ bytes) × given
EndsWith (Err e) given unsaved (reply.Done own) = ⊥
EndsWith built given unsaved r = unsaved

-- an answer that was built is given, or this is why it is not
abbrev pub IsGivenOr : Type 0 → Result (List ℕ) Memory → Reply → Type 0
IsGivenOr cause (Ok bytes) (reply.Done own) = own ≡ bytes
IsGivenOr cause (Ok bytes) reply.Keeper = cause
IsGivenOr cause (Ok bytes) reply.Memory = ⊥
IsGivenOr cause (Err e) r = ⊤

-- A page is answered with its cookies, and a POST's tables are saved; a failure is answered by its page, without cookies, and
-- saves nothing. Where nothing is answered nothing is saved.
abbrev pub Finishes : HttpRequest → Bool → (saved current saved' : Option Tables) (c c' : Cached) → Turn → Reply → Type 0
Finishes q close saved current saved' c c' (turn.Page page cookies) (reply.Done own) =
    (own ≡ respond 200 [] cookies page (is_head q.method) (q.close || close))
    × (saved' ≡ (if is_post q.method then current else saved)) × (c' ≡ settled c (settle_for (is_post q.method)))
Finishes q close saved current saved' c c' (turn.Failed page) (reply.Done own) =
    (own ≡ respond 500 [] [] page (is_head q.method) (q.close || close)) × (saved' ≡ saved) × (c' ≡ settled c Rollback)
Finishes q close saved current saved' c c' t (reply.Done own) = ⊥
Finishes q close saved current saved' c c' t r = saved' ≡ saved

-- These bytes are the program's answer at tables, the saved tables are then its own, and the entries and the count of scans are
-- those of its events.
abbrev pub IsDone : Code → Patterns → ℕ → HttpRequest → Bool → (c c' : Cached) (saved : Tables) (saved' : Option Tables) (reads reads' : ℕ) → List ℕ → Type 0
IsDone code patterns steps q close c c' saved saved' reads reads' bytes = (a : Answer Holding)
    × CachedAnswers (code_program code steps) (sites_of code patterns) c.capacity (record { store = store_of saved; entries = c.entries; reads = reads }) q close a
    × (bytes ≡ a.bytes) × (a.closes ≡ (q.close || close)) × Tells saved' (λ u. store_of u ≡ a.after.store) × (c'.entries ≡ a.after.entries) × (reads' ≡ a.after.reads)

-- all that holds of the answer to a request but the causes of faults
pub record IsAnswered (code : Code) (patterns : Patterns) (steps : ℕ) (q : HttpRequest) (close : Bool) (c c' : Cached) (pages' : List Remembered) (saved saved' : Option Tables)
    (kept' : KeptSchema) (under_way' : Bool) (reads reads' : ℕ) (r : Reply) : Type 0 where
  pub done : WhereTold saved (λ t. IfDone r (IsDone code patterns steps q close c c' t saved' reads reads'))
  pub unsaved : UnlessDone r (saved' ≡ saved)
  pub schema : kept' ≡ Keeps code.schema
  pub at_rest : under_way' ≡ false
  pub tables : WhereTold saved' (AreServable code.schema)
  pub answers : AreSavedAnswers code saved' c'
  pub no_mask : c'.masks ≡ []
  pub capacity : c'.capacity ≡ c.capacity
  pub growth : GrowBy steps saved saved'
  pub pages : ArePagesOf code steps saved' pages'
